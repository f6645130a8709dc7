use Rattle.firmware_api.proofs.VdmLaws.{in_front}
use Rattle.firmware_api.proofs.vdm.put_in_front.Goals as goal

pub returns : goal.returns
returns c = in_front c.args.half c.copy_from_slice.new.self c.args.halves.now c.copy_from_slice.ensures.after
