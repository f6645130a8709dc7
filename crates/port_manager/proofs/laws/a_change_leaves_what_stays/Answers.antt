use Rattle.port_manager.proofs.ChangeLaws.{change_leaves}
use Rattle.port_manager.proofs.laws.a_change_leaves_what_stays.Goals as goal

pub returns : goal.returns
returns c page change state op bits lane store sets within stays = change_leaves page change op bits lane store sets within stays
