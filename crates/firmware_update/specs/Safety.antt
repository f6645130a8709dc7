-- When each command of an update may be sent, by the exchanges before it. (OIF-CMIS-05.0, firmware management commands)
use Rattle.std.specs.Prelude.{◌≡◌, ◌⊎◌, ℕ, ◌+◌, ◌-◌, ◌<◌, [], ◌∷◌, Some, true}
use Rattle.firmware_update.specs.declared.bank.Bank.{Bank}
use Rattle.firmware_update.specs.declared.command.Command.{Command}
use Rattle.firmware_update.specs.declared.command.Command.TheVariants.{Features, Info, Start, Block, Complete, Abort, Run, Commit}
use Rattle.firmware_update.specs.declared.exchange.Exchange.{Exchange}
use Rattle.command_block.specs.declared.outcome.Outcome.{Outcome}
use Rattle.command_block.specs.declared.outcome.Outcome.TheVariants.{Succeeded, Failed, Unsent, Unknown}
use Rattle.firmware_update.specs.Blocks.{block_length}
use Rattle.firmware_update.specs.Replies.{new_runs, standing_bank, start_size}
use Rattle.firmware_update.specs.Exchanges.{EachExchange, Gave, History, MayHave, Missed, Newest, Stands, Succeeds}

abbrev pub IsStart : Command → Type 0
IsStart Features = ⊥
IsStart Info = ⊥
IsStart (Start header) = Unit {0}
IsStart (Block header address) = ⊥
IsStart Complete = ⊥
IsStart Abort = ⊥
IsStart Run = ⊥
IsStart Commit = ⊥

-- the module was told to change nothing, and then to
abbrev pub IsQuery : Command → Type 0
IsQuery Features = Unit {0}
IsQuery Info = Unit {0}
IsQuery (Start header) = ⊥
IsQuery (Block header address) = ⊥
IsQuery Complete = ⊥
IsQuery Abort = ⊥
IsQuery Run = ⊥
IsQuery Commit = ⊥

abbrev pub OnlyQueries : History → Type 0
OnlyQueries history = EachExchange (λ x before. IsQuery x.command) history

-- the module has accepted each byte below the address, in order, and nothing else since the Start; a block whose end was not
-- learnt may have been sent again
abbrev pub Received : ℕ → ℕ → ℕ → History → Type 0
Received size header address [] = ⊥
Received size header address (x ∷ before) =
    (Missed (Block header address) x × Received size header address before)
    ⊎ (((address ≡ 0) × Succeeds (Start header) x)
    ⊎ ((earlier : ℕ) × (address ≡ earlier + block_length size header earlier) × Succeeds (Block header earlier) x × Received size header earlier before))

-- the module says how it takes a file of this size
abbrev pub ReportsStartSize : ℕ → ℕ → Exchange → Type 0
ReportsStartSize size header x = Gave Features (λ reply. start_size size reply ≡ Some header) x

-- the module says that this bank runs and is committed, alone, and valid: so the other may be overwritten
abbrev pub ReportsStanding : Bank → Exchange → Type 0
ReportsStanding old x = Gave Info (λ reply. standing_bank reply ≡ Some old) x

-- the module says that the other bank runs, and is valid
abbrev pub ReportsNew : Bank → Exchange → Type 0
ReportsNew old x = Gave Info (λ reply. new_runs old reply ≡ true) x

-- the command goes on with a download that was begun, and doesn't end it well
abbrev pub GoesOn : Command → Outcome → Type 0
GoesOn (Block header address) outcome = Unit {0}
GoesOn Abort outcome = Unit {0}
GoesOn Complete (Succeeded reply) = ⊥
GoesOn Complete (Failed code) = Unit {0}
GoesOn Complete Unsent = Unit {0}
GoesOn Complete Unknown = Unit {0}
GoesOn command outcome = ⊥

-- a download was begun, perhaps, and since then there was nothing that isn't of it; it was not completed, but perhaps
abbrev pub IsDownloading : History → Type 0
IsDownloading [] = ⊥
IsDownloading (x ∷ before) = IsStart x.command ⊎ (GoesOn x.command x.outcome × IsDownloading before)

-- a command may be sent after these exchanges
abbrev pub MaySend : ℕ → Command → History → Type 0
MaySend size Features before = OnlyQueries before
MaySend size Info before = Unit {0}
-- nothing was begun; the module says that it takes the file, and that what runs is safe
MaySend size (Start header) before = OnlyQueries before × Stands (ReportsStartSize size header) before × ((old : Bank) × Newest (ReportsStanding old) before)
-- all bytes before it were accepted, and it isn't empty
MaySend size (Block header address) before = Received size header address before × (address + header < size)
-- all bytes were accepted
MaySend size Complete before = (header : ℕ) × (header < size) × Received size header (size - header) before
-- a download may be open, and no Complete of it succeeded
MaySend size Abort before = IsDownloading before
-- a Complete was carried out just before, so it is run once
MaySend size Run before = Newest (Succeeds Complete) before
-- the module says that the image beside the one that stood at the start runs and is valid
MaySend size Commit before = (old : Bank) × Newest (ReportsNew old) before × Stands (MayHave Run) before × Stands (ReportsStanding old) before

abbrev pub IsSafe : ℕ → History → Type 0
IsSafe size history = EachExchange (λ x before. MaySend size x.command before) history
