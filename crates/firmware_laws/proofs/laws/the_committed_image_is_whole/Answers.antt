use Rattle.std.proofs.Common.{◌≡◌, ℕ, length, subst, Ok}
use Rattle.firmware_update.specs.declared.update.UpdateNext.TheVariants.{Done}
use Rattle.firmware_update.specs.Progress.{command_at, next_by}
use Rattle.firmware_update.proofs.Ends.{come_finished}
use Rattle.firmware_laws.proofs.WholeImage.{always_whole, finished_whole, within_whole}
use Rattle.firmware_laws.proofs.laws.the_committed_image_is_whole.Goals as goal

pub returns-clause-always : goal.returns-clause-always
returns-clause-always c conduct file history first last two contents quiet safe comes = always_whole conduct two contents file first quiet history last safe comes

pub returns-clause-within : goal.returns-clause-within
returns-clause-within c conduct file history first last command choice two contents quiet safe comes may =
    within_whole conduct two contents file first quiet history last command choice safe comes may

pub returns-clause-ends : goal.returns-clause-ends
returns-clause-ends c conduct file history update first last two contents quiet at done comes =
    let done_by = subst (λ (n : ℕ). next_by update.fault update.stage update.closing (command_at n update.stage) ≡ Done (Ok tt)) at.sized done in
    finished_whole conduct two contents file first quiet history last (come_finished (length file) update.fault update.stage update.closing history at.come done_by) comes
