use Rattle.port_manager.proofs.ChangeLaws.{change_spares}
use Rattle.port_manager.proofs.laws.a_change_takes_no_lane_down_unpermitted.Goals as goal

pub returns : goal.returns
returns c page change state op bits lane none store sets within inside = change_spares page change state op bits lane none store sets within inside
