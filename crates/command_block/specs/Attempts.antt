-- What an attempt to have a message carried out does on a bus, by its own steps with the newest first, without the selection of
-- pages: the whole message is stored, in order, then the id, once, and then there are only reads. After a refusal what was stored is
-- read back. (OIF-CMIS-05.0, "CDB Messaging"; this project's own)
use Rattle.std.specs.Prelude.{◌≡◌, ◌≢◌, ◌⊎◌, ◌<◌, ◌≤◌, ℕ, ◌+◌, Bool, List, [], ◌∷◌, length, sum, take, true, false}
use Rattle.bus_model.specs.declared.operation.Op.{Op}
use Rattle.bus_model.specs.declared.operation.Op.TheVariants.{Fetch, Store}
use Rattle.bus_model.specs.declared.operation.Reply.{Reply}
use Rattle.bus_model.specs.declared.operation.Reply.TheVariants.{Bytes, Done, Refused}
use Rattle.bus_model.specs.declared.operation.Step.{Step}
use Rattle.command_block.specs.declared.message.Message.{Message}
use Rattle.command_block.specs.declared.outcome.Outcome.{Outcome}
use Rattle.command_block.specs.declared.outcome.Outcome.TheVariants.{Succeeded, Failed, Unsent, Unknown}
use Rattle.command_block.specs.Messages.{complement}
use Rattle.command_block.specs.Operations.{head, piece, read_back, read_count, read_reply, read_status, trigger}
use Rattle.command_block.specs.Phases.{filling}

abbrev pub History : Type 0
History = List Step

abbrev pub EachStep : (Step → Type 0) → History → Type 0
EachStep P [] = Unit {0}
EachStep P (step ∷ before) = P step × EachStep P before

-- among the steps is one of which P holds
abbrev pub Stands : (Step → Type 0) → History → Type 0
Stands P [] = ⊥
Stands P (step ∷ before) = P step ⊎ Stands P before

-- the fetch read these bytes
abbrev pub Gives : Op → List ℕ → Step → Type 0
Gives op bytes step = (step.op ≡ op) × (step.reply ≡ Bytes (record { items = bytes }))

-- the store was taken
abbrev pub IsAccepted : Op → Step → Type 0
IsAccepted op step = (step.op ≡ op) × (step.reply ≡ Done)

abbrev pub IsNotAccepted : Op → Step → Type 0
IsNotAccepted op step = (step.op ≡ op) × (step.reply ≢ Done)

abbrev pub IsNoBytes : Reply → Type 0
IsNoBytes (Bytes bytes) = ⊥
IsNoBytes Done = Unit {0}
IsNoBytes Refused = Unit {0}

-- the fetch read nothing
abbrev pub IsUnread : Op → Step → Type 0
IsUnread op step = (step.op ≡ op) × IsNoBytes step.reply

abbrev pub IsRead : Op → Type 0
IsRead (Fetch dev offset count) = Unit {0}
IsRead (Store dev offset bytes) = ⊥

-- the module was not told to carry the message out
abbrev pub NoTrigger : Message → History → Type 0
NoTrigger message history = EachStep (λ step. step.op ≢ trigger message) history

-- the status was asked for, and nothing else was done
abbrev pub IsPreparing : History → Type 0
IsPreparing history = EachStep (λ step. step.op ≡ read_status) history

-- the module said that it isn't busy
abbrev pub ShowsIdle : Step → Type 0
ShowsIdle step = (status : ℕ) × (status < 128) × Gives read_status (status ∷ []) step

-- after that each piece of the body below this byte was stored, in order, and taken before the next. Where the next was not accepted,
-- that is in doubt until it is read back: either it is there, or the body is stored anew
abbrev pub IsFilled : Message → Bool → ℕ → History → Type 0
IsFilled message doubted at [] = ⊥
IsFilled message true at (step ∷ before) =
    (IsNotAccepted (filling message at) step × IsFilled message false at before)
    ⊎ (IsUnread (read_back message at) step × IsFilled message true at before)
IsFilled message false at (step ∷ before) =
    ((at ≡ 0) × ShowsIdle step × IsPreparing before)
    ⊎ (((at ≡ 0) × IsNotAccepted (filling message at) step × IsFilled message false at before)
    ⊎ (((earlier : ℕ) × (at ≡ earlier + 8) × (earlier < length message.body.items) × IsAccepted (piece message earlier) step × IsFilled message false earlier before)
    ⊎ ((Gives (read_back message at) (take at message.body.items) step × IsFilled message true at before)
    ⊎ ((at ≡ 0) × ((earlier : ℕ) × (bytes : List ℕ) × (bytes ≢ take earlier message.body.items) × Gives (read_back message earlier) bytes step × IsFilled message true earlier before)))))

-- all of them, and then the header
abbrev pub IsHeaded : Message → History → Type 0
IsHeaded message [] = ⊥
IsHeaded message (step ∷ before) = IsAccepted (head message) step × ((at : ℕ) × (length message.body.items ≤ at) × IsFilled message false at before)

-- then the module was told, once, and it took that; since then there were only reads
abbrev pub IsSent : Message → History → Type 0
IsSent message [] = ⊥
IsSent message (step ∷ before) = (IsRead step.op × IsSent message before) ⊎ (IsAccepted (trigger message) step × IsHeaded message before)

-- after that the module said that it was carried out
abbrev pub IsCarriedOut : Message → History → Type 0
IsCarriedOut message [] = ⊥
IsCarriedOut message (step ∷ before) = (IsRead step.op × IsCarriedOut message before) ⊎ (Gives read_status (1 ∷ []) step × IsSent message before)

-- the newest step read these bytes, of which this is the check code, as a reply
abbrev pub Replies : List ℕ → History → Type 0
Replies reply [] = ⊥
Replies reply (step ∷ before) =
    (count : ℕ) × (check : ℕ) × Gives (read_reply count) reply step × (0 < count) × (count ≤ 120) × (complement (sum reply) ≡ check)
    × Stands (Gives read_count (count ∷ check ∷ [])) before

-- the newest step read this status of failure
abbrev pub ShowsFailure : Message → ℕ → History → Type 0
ShowsFailure message code [] = ⊥
ShowsFailure message code (step ∷ before) = Gives read_status (code ∷ []) step × IsSent message before

-- the newest step told the module, which didn't say that it took that
abbrev pub IsDoubtful : Message → History → Type 0
IsDoubtful message [] = ⊥
IsDoubtful message (step ∷ before) = IsNotAccepted (trigger message) step × IsHeaded message before

-- these steps are an attempt that ends so
abbrev pub IsAttempt : Message → History → Outcome → Type 0
IsAttempt message history (Succeeded reply) =
    IsCarriedOut message history × (((message.replies ≡ false) × (reply.items ≡ [])) ⊎ ((message.replies ≡ true) × Replies reply.items history))
IsAttempt message history (Failed code) = ShowsFailure message code history × (64 ≤ code) × (code < 128)
IsAttempt message history Unsent = NoTrigger message history
IsAttempt message history Unknown = IsSent message history ⊎ IsDoubtful message history
