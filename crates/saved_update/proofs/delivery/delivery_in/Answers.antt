use Rattle.std.proofs.Common.{◌==◌}
use Rattle.saved_update.proofs.delivery.delivery_in.Goals as goal

pub returns : goal.returns
returns c = λ i. let begun = c.of-delivery.ensures i in record {
  patient = record {
    conversation = record {
      conversation = record {
        conversation = record {
          message = begun.patient.conversation.conversation.conversation.message;
          timing = begun.patient.conversation.conversation.conversation.timing;
          phase = c.phase_in-on_page.ensures i;
          outcome = c.outcome_in-on_page.ensures i;
        };
        selection = c.page_in-on_page.ensures i;
        taken = c.taken_in-on_page.ensures i;
        doubts = begun.patient.conversation.conversation.doubts;
      };
      patience = begun.patient.conversation.patience;
      due = c.args.saved.now.due == 1;
      idle = c.args.saved.now.idle;
    };
    steps = c.args.saved.now.steps;
    limit = begun.patient.limit;
  };
}
