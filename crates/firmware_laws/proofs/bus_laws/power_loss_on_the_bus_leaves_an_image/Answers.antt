use Rattle.std.proofs.Common.{◌≡◌, ℕ, length, subst, Ok}
use Rattle.firmware_update.specs.declared.update.UpdateNext.TheVariants.{Done}
use Rattle.firmware_update.specs.Progress.{command_at, next_by}
use Rattle.firmware_update.proofs.Ends.{come_finished}
use Rattle.firmware_update.proofs.Safe.{come_safe}
use Rattle.firmware_laws.proofs.Again.{come_runs, stays_quiet}
use Rattle.firmware_laws.specs.Heard.{heard}
use Rattle.firmware_laws.proofs.AtTheBus.{comes_heard, course_of}
use Rattle.firmware_laws.proofs.Heard.{heard_contents, heard_two_banks}
use Rattle.firmware_laws.proofs.PowerLoss.{boots_image, image_stays}
use Rattle.firmware_laws.proofs.WholeImage.{always_whole, finished_whole}
use Rattle.firmware_laws.proofs.bus_laws.power_loss_on_the_bus_leaves_an_image.Goals as goal

pub returns-clause-always : goal.returns-clause-always
returns-clause-always c conduct file history events first last two has quiet safe comes =
    image_stays (heard conduct) (heard_two_banks conduct two) file first quiet history last has safe (comes_heard conduct file first history events last comes)

pub returns-clause-boots : goal.returns-clause-boots
returns-clause-boots c conduct file history events first last after two has quiet safe comes loses =
    boots_image last after loses (image_stays (heard conduct) (heard_two_banks conduct two) file first quiet history last has safe (comes_heard conduct file first history events last comes))

pub returns-clause-whole : goal.returns-clause-whole
returns-clause-whole c conduct file history events first last two contents quiet safe comes =
    always_whole (heard conduct) (heard_two_banks conduct two) (heard_contents conduct contents) file first quiet history last safe (comes_heard conduct file first history events last comes)

pub returns-clause-ends : goal.returns-clause-ends
returns-clause-ends c conduct file history events update first last two contents quiet at done comes =
    let done_by = subst (λ (n : ℕ). next_by update.fault update.stage update.closing (command_at n update.stage) ≡ Done (Ok tt)) at.sized done in
    finished_whole (heard conduct) (heard_two_banks conduct two) (heard_contents conduct contents) file first quiet history last
    (come_finished (length file) update.fault update.stage update.closing history at.come done_by) (comes_heard conduct file first history events last comes)

pub returns-clause-again : goal.returns-clause-again
returns-clause-again c conduct file history events update first last two has quiet at nothing comes =
    let on_heard = comes_heard conduct file first history events last comes in (
      image_stays (heard conduct) (heard_two_banks conduct two) file first quiet history last has (come_safe (length file) update.fault update.stage update.closing history at.come) on_heard,
      stays_quiet (heard conduct) (heard_two_banks conduct two) file first quiet history last (come_runs (length file) update.fault update.stage update.closing history at.come nothing) on_heard,
    )

pub returns-clause-courses : goal.returns-clause-courses
returns-clause-courses c conduct file history events first last comes = course_of conduct file first history events last comes
