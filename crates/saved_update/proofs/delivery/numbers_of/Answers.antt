use Rattle.std.proofs.Common.{refl, ap, ◌∙◌, ◌==◌, ℕ}
use Rattle.saved_update.proofs.Back.{delivery_back, yes_back}
use Rattle.saved_update.proofs.delivery.numbers_of.Goals as goal

pub returns : goal.returns
returns c =
    let patient = c.args.delivery.now.patient in
    let phase = c.numbers_of_phase-phase.result in
    let page = c.numbers_of_page-page.result in
    let taken = c.numbers_of_taken-taken.result in
    let known = c.numbers_of_outcome-known.result in
    delivery_back (record {
      idle = patient.conversation.idle;
      steps = patient.steps;
      phase = phase.0;
      at = phase.1;
      check = phase.2;
      due = c.number_of-due.result;
      selection = page.0;
      page = page.1;
      taken = taken.0;
      taken_page = taken.1;
      outcome = known.outcome;
      status = known.status;
      count = known.count;
      reply = known.reply;
    }) c.args.delivery.now (record {
      idle = refl;
      steps = refl;
      due = ap (λ (n : ℕ). n == 1) c.number_of-due.ensures ∙ yes_back patient.conversation.due;
      phase = c.numbers_of_phase-phase.ensures;
      outcome = c.numbers_of_outcome-known.ensures;
      selection = c.numbers_of_page-page.ensures;
      taken = c.numbers_of_taken-taken.ensures;
    })
