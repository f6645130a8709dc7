-- Words for the exchanges that an update has with a module, the newest first. (this project's own)
use Rattle.std.specs.Prelude.{◌≡◌, ◌⊎◌, ℕ, List, [], ◌∷◌}
use Rattle.arrayvec.specs.ArrayVec.{ArrayVec}
use Rattle.firmware_update.specs.declared.command.Command.{Command}
use Rattle.command_block.specs.declared.outcome.Outcome.{Outcome}
use Rattle.command_block.specs.declared.outcome.Outcome.TheVariants.{Succeeded, Failed, Unsent, Unknown}
use Rattle.firmware_update.specs.declared.exchange.Exchange.{Exchange}

abbrev pub History : Type 0
History = List Exchange

-- of each exchange, with those before it
abbrev pub EachExchange : (Exchange → History → Type 0) → History → Type 0
EachExchange P [] = Unit {0}
EachExchange P (x ∷ before) = P x before × EachExchange P before

-- among the exchanges is one of which P holds
abbrev pub Stands : (Exchange → Type 0) → History → Type 0
Stands P [] = ⊥
Stands P (x ∷ before) = P x ⊎ Stands P before

-- P holds of the newest
abbrev pub Newest : (Exchange → Type 0) → History → Type 0
Newest P [] = ⊥
Newest P (x ∷ before) = P x

-- the command was carried out, with a reply of which P holds
abbrev pub Gave : Command → (List ℕ → Type 0) → Exchange → Type 0
Gave command P x = (reply : ArrayVec ℕ) × (x.command ≡ command) × (x.outcome ≡ Succeeded reply) × P reply.items

abbrev pub Succeeds : Command → Exchange → Type 0
Succeeds command x = Gave command (λ reply. Unit {0}) x

-- what came of it is not known, or it was not sent
abbrev pub IsNoAnswer : Outcome → Type 0
IsNoAnswer (Succeeded reply) = ⊥
IsNoAnswer (Failed code) = ⊥
IsNoAnswer Unsent = Unit {0}
IsNoAnswer Unknown = Unit {0}

abbrev pub Missed : Command → Exchange → Type 0
Missed command x = (x.command ≡ command) × IsNoAnswer x.outcome

-- it was carried out, or perhaps it was
abbrev pub MayHold : Outcome → Type 0
MayHold (Succeeded reply) = Unit {0}
MayHold (Failed code) = ⊥
MayHold Unsent = ⊥
MayHold Unknown = Unit {0}

abbrev pub MayHave : Command → Exchange → Type 0
MayHave command x = (x.command ≡ command) × MayHold x.outcome
