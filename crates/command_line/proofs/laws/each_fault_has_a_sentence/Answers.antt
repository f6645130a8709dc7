use Rattle.command_line.proofs.FaultSentences.{each_fault_has_a_sentence}
use Rattle.command_line.proofs.laws.each_fault_has_a_sentence.Goals as goal

pub returns : goal.returns
returns c = each_fault_has_a_sentence
