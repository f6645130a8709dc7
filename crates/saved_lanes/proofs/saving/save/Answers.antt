use Rattle.std.proofs.Common.{refl}
use Rattle.saved_lanes.proofs.Back.{changing_back}
use Rattle.saved_lanes.proofs.saving.save.Goals as goal

pub returns : goal.returns
returns c =
    changing_back _ c.args.procedure.now (record {
      magic = refl;
      known = c.numbers_of_change-change.ensures.known;
      change = c.numbers_of_change-change.ensures.same;
      stage = c.numbers_of_stage-stage.ensures;
      left = refl;
      refused = c.number_of-refused.ensures;
      selection = c.numbers_of_page-page.ensures;
      taken = c.numbers_of_taken-taken.ensures;
      doubts = c.number_of-doubts.ensures;
      pause = refl;
      limit = refl;
      due = c.number_of-due.ensures;
      idle = refl;
      steps = refl;
      most = refl;
    })
