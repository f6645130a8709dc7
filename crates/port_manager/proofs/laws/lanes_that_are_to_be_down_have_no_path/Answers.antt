use Rattle.port_manager.proofs.DownLaws.{not_in_goal}
use Rattle.port_manager.proofs.laws.lanes_that_are_to_be_down_have_no_path.Goals as goal

pub returns : goal.returns
returns c advert wanted page plan goal lane is inside = not_in_goal advert wanted page plan goal lane is inside
