use Rattle.firmware_api.proofs.ModuleRefusals.{few_if_read}
use Rattle.firmware_api.proofs.patience.dovecounter_patience.Goals as goal

pub image_of-requires : goal.image_of-requires
image_of-requires c = few_if_read c.args.halves.now c.in-Ok._advert c.in-Ok.ensures
