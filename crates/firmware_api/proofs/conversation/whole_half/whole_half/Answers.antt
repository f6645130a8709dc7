use Rattle.std.proofs.Common.{ℕ, List, ap, sym, subst, ◌∙◌}
use Rattle.bus_model.specs.declared.operation.Reply.{Reply}
use Rattle.paged_memory.specs.declared.key.Key.{Key}
use Rattle.firmware_api.specs.Halves.{key_of}
use Rattle.port_manager.specs.Jobs.{paged_halves}
use Rattle.port_manager.specs.Patients.{after_on}
use Rattle.firmware_api.specs.SavedConversations.{Puts}
use Rattle.firmware_api.specs.WholeHalves.{if_bytes}
use Rattle.firmware_api.proofs.WholeHalfLaws.{half_given, no_half, other_reply}
use Rattle.firmware_api.proofs.conversation.whole_half.whole_half.Goals as goal

pub returns-in-Some : goal.returns-in-Some
returns-in-Some c =
    let on = c.args.on_page.now in
    let reply = c.args.reply.now in
    let halves = on.conversation in
    let later = (after_on paged_halves on reply).conversation in
    let half = c.half_at.result in
    let puts = half_given on c.requires.few reply c.in-Bytes.bytes c.in-Some.key c.in-Bytes.is c.requires.reply (sym c.kept.ensures ∙ c.in-Some.is) in
    let there = subst (λ (key : Key). Puts halves key c.in-Bytes.bytes.items later) (sym c.half_at.ensures.key) puts in
    (subst (λ (bytes : List ℕ). Puts halves (key_of half) bytes later) (sym (c.half_at.ensures.bytes ∙ c.deref.ensures.0)) there, c.half_at.ensures.place)

pub returns-in-None : goal.returns-in-None
returns-in-None c = no_half c.args.on_page.now c.requires.few c.args.reply.now c.requires.reply (sym c.kept.ensures ∙ c.in-None.is)

pub returns-in-Done : goal.returns-in-Done
returns-in-Done c = other_reply c.args.on_page.now c.requires.few c.args.reply.now c.requires.reply (λ key. ap (λ (r : Reply). if_bytes key r) c.in-Done.is)

pub returns-in-Refused : goal.returns-in-Refused
returns-in-Refused c = other_reply c.args.on_page.now c.requires.few c.args.reply.now c.requires.reply (λ key. ap (λ (r : Reply). if_bytes key r) c.in-Refused.is)
