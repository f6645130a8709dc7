use Rattle.std.proofs.Common.{◌≡◌, ℕ, [], Some, sym, subst, take}
use Rattle.paged_memory.specs.Images.{Memory}
use Rattle.vdm_reading.specs.VdmStages.{begun}
use Rattle.saved_vdm.specs.SavedReadings.{reading_in}
use Rattle.firmware_api.specs.Halves.{memory_of}
use Rattle.firmware_api.proofs.HalfMemories.{no_halves}
use Rattle.firmware_api.proofs.vdm.dovecounter_vdm_begin.Goals as goal

pub returns-clause-begun : goal.returns-clause-begun
returns-clause-begun c halves =
    subst (λ (count : ℕ). reading_in c.begin.result (memory_of (take count halves)) ≡ Some (begun (record { pause = c.args.pause; bank = c.args.bank }))) (sym c.begin.ensures.halves)
    (subst (λ (image : Memory). reading_in c.begin.result image ≡ Some (begun (record { pause = c.args.pause; bank = c.args.bank }))) (sym (no_halves [])) c.begin.ensures.begun)
