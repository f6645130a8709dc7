use Rattle.std.proofs.Common.{◌≡◌, ◌≤◌, ◌+◌, ℕ, Option, Some, sym, subst, ap, take, ◌∙◌, arith}
use Rattle.std.specs.FinMap as map
use Rattle.paged_memory.specs.Images.{Memory}
use Rattle.vdm_reading.specs.VdmStages.{after}
use Rattle.saved_vdm.specs.SavedReadings.{reading_in}
use Rattle.saved_vdm.specs.VdmTurns.{count_of, image_with}
use Rattle.saved_vdm.proofs.ReadingsBack.{image_of, room_of}
use Rattle.firmware_api.specs.Halves.{memory_of}
use Rattle.firmware_api.specs.VdmTold.{halves_with}
use Rattle.firmware_api.proofs.VdmLaws.{few_known}
use Rattle.firmware_api.proofs.vdm.put_after.Goals as goal

pub take_saved-page-requires-clause-was : goal.take_saved-page-requires-clause-was
take_saved-page-requires-clause-was c =
    let image = image_of c.args.reading.now _ c.args.it c.requires.was in
    subst (λ (it : Memory). reading_in c.args.reading.now it ≡ Some c.args.it) (sym image) c.requires.was

pub take_saved-page-requires-clause-few : goal.take_saved-page-requires-clause-few
take_saved-page-requires-clause-few c =
    let image = image_of c.args.reading.now _ c.args.it c.requires.was in
    subst (λ (it : Memory). map.len it ≤ c.args.reading.now.halves) (sym image) (few_known c.args.reading.now.halves c.args.halves.now)

pub returns-clause-inserted : goal.returns-clause-inserted
returns-clause-inserted c =
    let given = c.take_saved-page.ensures.page in
    record {
      count = c.take_saved-page.ensures.halves ∙ ap (λ (page : Option ℕ). c.args.reading.now.halves + count_of page) given;
      halves = c.put_page.ensures.halves ∙ ap (λ (page : Option ℕ). halves_with page c.args.reply.now c.args.halves.now) given;
    }

pub returns-clause-taken : goal.returns-clause-taken
returns-clause-taken c =
    let now = c.take_saved-page.new.saved in
    let image = image_of c.args.reading.now _ c.args.it c.requires.was in
    let room = room_of now _ (after c.args.it c.args.reply.now) c.take_saved-page.ensures.same in
    let counted = c.take_saved-page.ensures.halves in
    let put = c.put_page.ensures.memory c.args.reading.now.halves (omega (arith, room, counted)) in
    let grown = ap (λ (it : Memory). image_with c.take_saved-page.result c.args.reply.now it) image in
    let memory = ap (λ (count : ℕ). memory_of (take count c.put_page.new.halves)) counted ∙ put ∙ sym grown in
    subst (λ (it : Memory). reading_in now it ≡ Some (after c.args.it c.args.reply.now)) (sym memory) c.take_saved-page.ensures.same
