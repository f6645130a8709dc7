use Rattle.firmware_laws.specs.SampleModules.{restless, works}
use Rattle.firmware_laws.proofs.Needed.{restless_comes, restless_history, restless_image, restless_last, restless_lost, restless_safe, small}
use Rattle.firmware_laws.proofs.Samples.{works_two}
use Rattle.firmware_laws.proofs.laws.a_quiet_start_is_needed.Goals as goal

pub returns : goal.returns
returns c = (works, small, restless_history, restless, restless_last, works_two, restless_image, restless_safe, restless_comes, restless_lost)
