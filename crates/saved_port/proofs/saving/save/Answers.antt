use Rattle.std.proofs.Common.{refl, rules}
use Rattle.saved_port.proofs.Back.{saved_back}
use Rattle.saved_port.proofs.saving.save.Goals as goal

pub returns-clause-same : goal.returns-clause-same
returns-clause-same c image read known =
    saved_back _ c.args.port.now image (record {
      magic = refl;
      times = c.numbers_of_times-times.ensures;
      due = refl;
      recheck_at = refl;
      back_off = refl;
      outstanding = c.number_of_outstanding-outstanding.ensures;
      vain = c.number_of-vain.ensures;
      selection = search rules;
      page = search rules;
      identifier = refl;
      flags = c.numbers_of_flags-flags.ensures;
      held = c.number_of-held.ensures;
      request = c.numbers_of_request-request.ensures.same;
      refusals = refl;
      since = refl;
      apply_refused = c.number_of-apply_refused.ensures;
    }) (c.numbers_of-stage.ensures.same image read known)

pub returns-clause-shown : goal.returns-clause-shown
returns-clause-shown c = record {
  recheck_at = refl;
  held = c.number_of-held.ensures;
  left = c.numbers_of-stage.ensures.left;
  request = c.numbers_of_request-request.ensures.number;
  lanes = c.numbers_of_request-request.ensures.lanes;
  apply_refused = c.number_of-apply_refused.ensures;
}
