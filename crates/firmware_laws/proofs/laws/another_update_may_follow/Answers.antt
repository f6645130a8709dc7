use Rattle.std.proofs.Common.{length}
use Rattle.firmware_update.proofs.Safe.{come_safe}
use Rattle.firmware_laws.proofs.Again.{come_runs, stays_quiet}
use Rattle.firmware_laws.proofs.PowerLoss.{image_stays}
use Rattle.firmware_laws.proofs.laws.another_update_may_follow.Goals as goal

pub returns : goal.returns
returns c conduct file history update first last two has quiet at nothing comes = (
  image_stays conduct two file first quiet history last has (come_safe (length file) update.fault update.stage update.closing history at.come) comes,
  stays_quiet conduct two file first quiet history last (come_runs (length file) update.fault update.stage update.closing history at.come nothing) comes,
)
