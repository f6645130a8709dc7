use Rattle.std.proofs.Common.{ℕ, List, length, ap, ◌∙◌}
use Rattle.control_sets.proofs.PowerLaws.{one_of_controls, one_of_state}
use Rattle.control_sets.proofs.procedures.power.stage_after.Goals as goal

pub first_byte-requires : goal.first_byte-requires
first_byte-requires c =
    ap (λ (bytes : List ℕ). length bytes) c.deref.ensures.0 ∙ one_of_controls c.args.power c.args.stage c.args.reply.now c.in-Unread-Bytes.bytes c.in-Unread-Bytes.is-0 c.in-Unread-Bytes.is-1 c.requires

pub first_byte-requires-in-Stored-Bytes : goal.first_byte-requires-in-Stored-Bytes
first_byte-requires-in-Stored-Bytes c =
    ap (λ (bytes : List ℕ). length bytes) c.deref-in-Stored-Bytes.ensures.0 ∙ one_of_state c.args.power c.args.stage c.args.reply.now c.in-Stored-Bytes.bytes c.in-Stored-Bytes.is-0 c.in-Stored-Bytes.is-1 c.requires
