use Rattle.std.proofs.Common.{refl}
use Rattle.firmware_laws.specs.SampleModules.{parted, works}
use Rattle.firmware_laws.proofs.Needed.{parted_image, small, unseen_2, unseen_comes, unseen_history, unseen_lost, unseen_safe}
use Rattle.firmware_laws.proofs.Samples.{works_two}
use Rattle.firmware_laws.proofs.laws.a_look_is_needed.Goals as goal

pub returns : goal.returns
returns c = (works, small, unseen_history, parted, unseen_2, works_two, parted_image, refl, unseen_safe, unseen_comes, unseen_lost)
