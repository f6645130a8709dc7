use Rattle.control_sets.proofs.AtRegisters.{activation_at_registers, power_at_registers, provisioning_at_registers}
use Rattle.control_sets.proofs.laws.operations_are_at_registers.Goals as goal

pub returns : goal.returns
returns c = record {
  provisioning = λ doubts control lanes made room history answer eight outcome. provisioning_at_registers doubts control lanes history eight outcome.shape;
  activation = λ doubts control lanes made room history answer outcome. activation_at_registers doubts lanes history outcome.shape;
  unfinished_provisioning = λ doubts control lanes history eight outcome. provisioning_at_registers doubts control lanes history eight outcome.shape;
  unfinished_activation = λ doubts control lanes history outcome. activation_at_registers doubts lanes history outcome.shape;
  power = λ power made room history answer outcome. power_at_registers power history outcome.shape;
}
