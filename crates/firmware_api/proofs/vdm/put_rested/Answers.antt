use Rattle.std.proofs.Common.{◌≡◌, ℕ, Some, sym, subst, take}
use Rattle.paged_memory.specs.Images.{Memory}
use Rattle.vdm_reading.specs.VdmStages.{rested}
use Rattle.saved_vdm.specs.SavedReadings.{reading_in}
use Rattle.saved_vdm.proofs.ReadingsBack.{image_of}
use Rattle.firmware_api.specs.Halves.{memory_of}
use Rattle.firmware_api.proofs.vdm.put_rested.Goals as goal

pub wait_saved-requires : goal.wait_saved-requires
wait_saved-requires c =
    let image = image_of c.args.reading.now _ c.args.it c.requires in
    subst (λ (it : Memory). reading_in c.args.reading.now it ≡ Some c.args.it) (sym image) c.requires

pub returns-clause-rested : goal.returns-clause-rested
returns-clause-rested c =
    let image = image_of c.args.reading.now _ c.args.it c.requires in
    let same = subst (λ (it : Memory). reading_in c.wait_saved.new.saved it ≡ Some (rested c.args.it)) image c.wait_saved.ensures.same in
    subst (λ (count : ℕ). reading_in c.wait_saved.new.saved (memory_of (take count c.args.halves.now)) ≡ Some (rested c.args.it)) (sym c.wait_saved.ensures.halves) same
