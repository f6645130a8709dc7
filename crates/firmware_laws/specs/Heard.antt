-- A module as it is heard of over a bus: of what it does the sender learns all, or not the reply, or nothing. (this project's own)
use Rattle.std.specs.Prelude.{ℕ, zero, suc, [], Option, Some, None}
use Rattle.command_block.specs.declared.outcome.Outcome.{Outcome}
use Rattle.command_block.specs.declared.outcome.Outcome.TheVariants.{Succeeded, Failed, Unsent, Unknown}
use Rattle.firmware_laws.specs.Modules.{Answer, Conduct, Firmware}

-- the sender learns nothing of it
abbrev pub unheard : Answer → Answer
unheard answer = record { outcome = Some Unknown; after = answer.after }

abbrev pub without_reply : Option Outcome → Option Outcome
without_reply (Some (Succeeded reply)) = Some (Succeeded (record { items = [] }))
without_reply (Some (Failed code)) = Some (Failed code)
without_reply (Some Unsent) = Some Unsent
without_reply (Some Unknown) = Some Unknown
without_reply None = None

-- or not the reply
abbrev pub unread : Answer → Answer
unread answer = record { outcome = without_reply answer.outcome; after = answer.after }

-- three numbers for each one
abbrev pub in_three_ways : (ℕ → Answer) → ℕ → Answer
in_three_ways f zero = f 0
in_three_ways f (suc zero) = unheard (f 0)
in_three_ways f (suc (suc zero)) = unread (f 0)
in_three_ways f (suc (suc (suc more))) = in_three_ways (λ n. f (suc n)) more

-- and two for a message that doesn't reach it
abbrev pub heard_by : (ℕ → Answer) → Firmware → ℕ → Answer
heard_by f before zero = record { outcome = Some Unsent; after = before }
heard_by f before (suc zero) = record { outcome = Some Unknown; after = before }
heard_by f before (suc (suc more)) = in_three_ways f more

abbrev pub heard : Conduct → Conduct
heard conduct sent choice before = heard_by (λ n. conduct sent n before) before choice
