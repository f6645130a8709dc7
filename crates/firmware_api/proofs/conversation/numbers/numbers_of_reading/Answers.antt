use Rattle.std.proofs.Common.{refl, ap, ◌∙◌}
use Rattle.control_sets.specs.SavedNumbers.{due_numbered}
use Rattle.firmware_api.proofs.SavedLaws.{due_back}
use Rattle.firmware_api.proofs.conversation.numbers.numbers_of_reading.Goals as goal

pub returns : goal.returns
returns c = record {
  work = refl;
  request = refl;
  met = refl;
  steps = refl;
  selected = c.numbers_of_selected-selection.ensures.same;
  due = ap due_numbered c.number_of.ensures ∙ due_back c.args.read.now.conversation.due;
  idle = refl;
  patience = refl;
}
