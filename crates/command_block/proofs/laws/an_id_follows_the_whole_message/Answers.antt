use Rattle.command_block.proofs.WholeBlocks.{triggered_over}
use Rattle.command_block.proofs.laws.an_id_follows_the_whole_message.Goals as goal

pub returns : goal.returns
returns c message timing own each = triggered_over message timing own each
