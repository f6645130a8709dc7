use Rattle.std.proofs.Common.{false}
use Rattle.std.proofs.lemmas.List.{get_or-replicate}
use Rattle.command_line.proofs.remark.weights_lines.SoFar.turn_to.Goals as goal

pub returns-clause-listed : goal.returns-clause-listed
returns-clause-listed c number below = get_or-replicate 256 number false false below
