use Rattle.std.proofs.Common.{refl}
use Rattle.code_names.specs.InfinibandSpeeds.{infiniband_speed_names}
use Rattle.code_names.proofs.tables.infiniband_speeds.infiniband_speed_names.Goals as goal

pub returns : goal.returns
unfolding infiniband_speed_names
returns c = refl
