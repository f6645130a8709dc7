use Rattle.std.proofs.Common.{◌≡◌, ◌≤◌, ◌+◌, Option, Some, None, ℕ, ap, sym, subst, ◌∙◌, arith}
use Rattle.std.specs.FinMap as map
use Rattle.bus_model.specs.declared.operation.Reply.{Reply}
use Rattle.paged_memory.specs.Images.{Memory}
use Rattle.vdm_reading.specs.declared.reading.VdmReading.{VdmReading}
use Rattle.vdm_reading.specs.VdmStages.{after}
use Rattle.saved_vdm.specs.SavedReadings.{reading_in}
use Rattle.saved_vdm.specs.VdmTurns.{GivesHalf, count_of, image_with, page_given}
use Rattle.saved_vdm.proofs.HalfLaws.{gives_half}
use Rattle.saved_vdm.proofs.ImageLaws.{image_grows}
use Rattle.saved_vdm.proofs.NeedLaws.{need_falls, need_of}
use Rattle.saved_vdm.proofs.ReadingsBack.{room_of}
use Rattle.saved_vdm.proofs.turning.take_saved.Goals as goal

few_by : (page : Option ℕ) → count_of page ≤ 1
few_by None = omega arith
few_by (Some page) = omega arith

pub overflow_add-halves : goal.overflow_add-halves
overflow_add-halves c =
    let room = room_of c.args.saved.now c.args.reading.image c.args.reading c.requires.was in
    let few = few_by c.page_given-page.result in
    let counted = c.count_of.ensures in
    omega (arith, room, few, counted)

room_after : (halves counted : ℕ) (reading new : VdmReading) (page : Option ℕ) (reply : Reply) → halves + need_of reading ≤ 15 → counted ≡ count_of page →
    page ≡ page_given reading reply → new ≡ after reading reply → halves + counted + need_of new ≤ 15
room_after halves counted reading new page reply room is given turned =
    let falls = need_falls reading reply in
    let same : count_of page ≡ count_of (page_given reading reply) = ap (λ (p : Option ℕ). count_of p) given in
    let less : need_of new ≡ need_of (after reading reply) = ap (λ (r : VdmReading). need_of r) turned in
    omega (arith, room, is, falls, same, less)

pub save-requires : goal.save-requires
save-requires c =
    room_after c.args.saved.now.halves c.count_of.result c.args.reading c.take.new.self c.page_given-page.result c.args.reply.now
    (room_of c.args.saved.now c.args.reading.image c.args.reading c.requires.was) c.count_of.ensures c.page_given-page.ensures c.take.ensures.after

pub returns-clause-half : goal.returns-clause-half
returns-clause-half c =
    subst (λ (page : Option ℕ). GivesHalf page c.args.reply.now) (sym c.page_given-page.ensures) (gives_half c.args.reading c.args.reply.now c.requires.reply)

-- a page that is given has room
image_after : (halves : ℕ) (reading new : VdmReading) (page : Option ℕ) (reply : Reply) → halves + need_of reading ≤ 15 → map.len reading.image ≤ halves →
    page ≡ page_given reading reply → new ≡ after reading reply → new.image ≡ image_with page reply reading.image
image_after halves reading new page reply room few given turned =
    ap (λ (r : VdmReading). r.image) turned
    ∙ image_grows reading (omega (arith, room, few)) reply
    ∙ ap (λ (p : Option ℕ). image_with p reply reading.image) (sym given)

pub returns-clause-same : goal.returns-clause-same
returns-clause-same c =
    let room = room_of c.args.saved.now c.args.reading.image c.args.reading c.requires.was in
    let image = image_after c.args.saved.now.halves c.args.reading c.take.new.self c.page_given-page.result c.args.reply.now room c.requires.few c.page_given-page.ensures c.take.ensures.after in
    subst (λ (it : Memory). reading_in c.save.result it ≡ Some (after c.args.reading c.args.reply.now)) image
    (c.save.ensures.same ∙ ap (λ (r : VdmReading). Some r) c.take.ensures.after)
