use Rattle.std.proofs.Common.{ℕ, ◌==◌, ap, refl, ◌∙◌}
use Rattle.saved_update.proofs.Back.{session_saved, yes_back}
use Rattle.saved_update.proofs.saving.numbers_of_session.Goals as goal

pub returns : goal.returns
returns c file of =
    session_saved _ c.args.session.now c.args.held file (record {
      magic = refl;
      work = refl;
      held = ap (λ (n : ℕ). n == 1) c.number_of-held.ensures ∙ yes_back c.args.held;
      size = refl;
      stage = c.numbers_of_stage-stage.ensures.same;
      room = c.numbers_of_stage-stage.ensures.room;
      tries = refl;
      fault = c.numbers_of_fault-fault.ensures;
      closing = c.number_of_closing-closing.ensures;
      durations = c.numbers_of_durations-durations.ensures;
      delivery = c.numbers_of_delivery-delivery.ensures;
    }) of
