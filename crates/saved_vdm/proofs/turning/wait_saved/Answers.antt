use Rattle.saved_vdm.proofs.ReadingsBack.{room_of}
use Rattle.saved_vdm.proofs.turning.wait_saved.Goals as goal

pub save-requires : goal.save-requires
save-requires c = room_of c.args.saved.now c.args.reading.image c.args.reading c.requires
