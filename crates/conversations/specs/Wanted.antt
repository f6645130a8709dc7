-- What a conversation wants, by cases. (docs/bus.md, "Conversations"; this project's own)
use Rattle.std.specs.Prelude.{Option, Some, None}
use Rattle.bus_model.specs.declared.operation.Op.{Op}
use Rattle.bus_model.specs.declared.operation.Reply.{Reply}
use Rattle.bus_model.specs.Operations.{Answers}
use Rattle.conversations.specs.declared.next.Next.{Next}
use Rattle.conversations.specs.declared.next.Next.TheVariants.{Do, Wait, End}

-- the reply is one that the operation can have
abbrev pub IsReplyTo : {E : Type 0} → Next E → Reply → Type 0
IsReplyTo (Do op) reply = Answers op reply
IsReplyTo (Wait time) reply = ⊥
IsReplyTo (End end) reply = ⊥

abbrev pub IfDo : {E : Type 0} → Next E → (Op → Type 0) → Type 0
IfDo (Do op) P = P op
IfDo (Wait time) P = Unit {0}
IfDo (End end) P = Unit {0}

abbrev pub IfEnd : {E : Type 0} → Next E → (E → Type 0) → Type 0
IfEnd (Do op) P = Unit {0}
IfEnd (Wait time) P = Unit {0}
IfEnd (End end) P = P end

abbrev pub IsWait : {E : Type 0} → Next E → Type 0
IsWait (Do op) = ⊥
IsWait (Wait time) = Unit {0}
IsWait (End end) = ⊥

-- the operation that is wanted, if one is
abbrev pub op_of : {E : Type 0} → Next E → Option Op
op_of (Do op) = Some op
op_of (Wait time) = None
op_of (End end) = None
