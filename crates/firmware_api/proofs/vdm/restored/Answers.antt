use Rattle.std.proofs.Common.{◌≡◌, ℕ, List, length, min, ap, ◌∙◌, rules}
use Rattle.paged_memory.specs.Images.{Memory}
use Rattle.saved_vdm.specs.SavedReadings.{reading_in}
use Rattle.firmware_api.specs.declared.half.HalfBytes.{HalfBytes}
use Rattle.firmware_api.specs.Halves.{memory_of}
use Rattle.firmware_api.proofs.VdmLaws.{first_of}
use Rattle.firmware_api.proofs.vdm.restored.Goals as goal

pub returns : goal.returns
returns c =
    let all : length c.args.halves.now ≡ 15 = search rules in
    let most : c.min-count.result ≡ min c.args.reading.now.halves 15 = c.min-count.ensures ∙ ap (λ (n : ℕ). min n 15) c.from.ensures in
    let first = first_of c.args.halves.now c.args.reading.now.halves c.min-count.result most all in
    c.restore.ensures
    ∙ ap (λ (image : Memory). reading_in c.args.reading.now image) (c.image_of.ensures ∙ ap (λ (l : List HalfBytes). memory_of l) first)
