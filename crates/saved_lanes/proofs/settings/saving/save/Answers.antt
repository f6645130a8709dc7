use Rattle.std.proofs.Common.{refl}
use Rattle.saved_lanes.proofs.SettingsBack.{changing_back}
use Rattle.saved_lanes.proofs.settings.saving.save.Goals as goal

pub returns : goal.returns
returns c =
    changing_back _ c.args.procedure.now (record {
      magic = refl;
      known = c.numbers_of_stage-stage.ensures.known;
      lanes = c.byte-lanes.ensures.lanes;
      settings = refl;
      tries = refl;
      stage = c.numbers_of_stage-stage.ensures.same;
      staged = refl;
      mixed = refl;
      left = refl;
      selection = c.numbers_of_page-page.ensures;
      taken = c.numbers_of_taken-taken.ensures;
      doubts = c.number_of-doubts.ensures;
      pause = refl;
      limit = refl;
      due = c.number_of-due.ensures;
      idle = refl;
      steps = refl;
      most = refl;
    })
