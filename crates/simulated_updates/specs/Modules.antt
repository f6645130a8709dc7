-- The simulated module that has a command data block, and what one transaction makes of it. (OIF-CMIS-05.0, "CDB Messaging", page 9Fh;
-- CdbStatus1, byte 37 of the lower memory; BankSelect and PageSelect, bytes 126 and 127)
use Rattle.std.specs.Prelude.{ℕ, ◌+◌, ◌-◌, ◌*◌, ◌==◌, ◌&&◌, nat_le, nat_lt, not, Bool, true, false, List, [], ◌∷◌, ◌++◌, length, take, sum, Option, Some, None, if◌then◌else◌}
use Rattle.bus_model.specs.declared.device.Dev.TheVariants.{A0, A2}
use Rattle.bus_model.specs.declared.operation.Op.{Op}
use Rattle.bus_model.specs.declared.operation.Op.TheVariants.{Fetch, Store}
use Rattle.bus_model.specs.declared.operation.Reply.{Reply}
use Rattle.bus_model.specs.declared.operation.Reply.TheVariants.{Bytes, Done, Refused}
use Rattle.command_block.specs.declared.message.Message.{Message}
use Rattle.command_block.specs.declared.outcome.Outcome.{Outcome}
use Rattle.command_block.specs.declared.outcome.Outcome.TheVariants.{Succeeded, Failed, Unsent, Unknown}
use Rattle.command_block.specs.Messages.{check_code, complement}
use Rattle.firmware_update.specs.declared.bank.Bank.{Bank}
use Rattle.firmware_laws.specs.Modules.{Answer, Firmware}
use Rattle.simulated_updates.specs.declared.chance.Before.{Before}
use Rattle.simulated_updates.specs.declared.chance.Before.TheVariants.{Nothing, PowerLoss, Reset}
use Rattle.simulated_updates.specs.declared.chance.Chance.{Chance}
use Rattle.simulated_updates.specs.declared.chance.Fate.{Fate}
use Rattle.simulated_updates.specs.declared.chance.Fate.TheVariants.{Carried, Fails, CutShort}
use Rattle.simulated_updates.specs.Performed.{cut_short, failed, failing, performed, wrong_check_code}
use Rattle.simulated_updates.specs.Resets.{lost, reset_to}

-- ---- how it stands

-- its firmware; the page of bank 0 that is selected; of page 9Fh what was stored from byte 130 on, the lengths and the check code, and
-- from byte 136 on, the body; the status and the reply that are shown once it isn't busy; for how many milliseconds it is, and whether
-- it answers meanwhile
pub record Module : Type 0 where
  pub firmware : Firmware
  pub page : ℕ
  pub head : List ℕ
  pub body : List ℕ
  pub status : ℕ
  pub reply : List ℕ
  pub busy : ℕ
  pub background : Bool

abbrev pub is_busy : Module → Bool
is_busy m = nat_lt 0 m.busy

-- ---- time, losses of power, resets

abbrev pub passed : ℕ → Module → Module
passed time m = record m { busy = m.busy - time }

-- it has come up with this firmware: page 00h is selected, and page 9Fh is empty
abbrev pub come_up : Firmware → Module → Module
come_up firmware m = record { firmware = firmware; page = 0; head = []; body = []; status = 0; reply = []; busy = 0; background = m.background }

abbrev pub reset : Bool → Option Bank → Module → Module
reset boots None m = m
reset boots (Some bank) m = come_up (reset_to boots bank m.firmware) m

-- what came before a transaction
abbrev pub befallen : Before → Module → Module
befallen Nothing m = m
befallen PowerLoss m = come_up (lost m.firmware) m
befallen (Reset boots) m = reset boots m.firmware.reset m

-- ---- a message

abbrev pub message_in : ℕ → ℕ → Module → Message
message_in id count m = record { id = id; body = record { items = take count m.body }; replies = false }

-- no extended payload, a body of this length that was stored, and its check code
abbrev pub is_whole : ℕ → List ℕ → Module → Bool
is_whole id (high ∷ low ∷ count ∷ check ∷ rest) m =
    high == 0 && (low == 0 && (nat_le count (length m.body) && check == check_code (message_in id count m)))
is_whole id _ m = false

abbrev pub count_in : List ℕ → ℕ
count_in (high ∷ low ∷ count ∷ rest) = count
count_in _ = 0

-- what it comes to, by chance
abbrev pub fated : Fate → ℕ → List ℕ → Firmware → Answer
fated Carried id body firmware = performed id body firmware
fated Fails id body firmware = failing failed firmware
fated (CutShort done) id body firmware = cut_short done (performed id body firmware) firmware

-- what it shows is that of this message from now on, in place of the body; it is busy for so long first
abbrev pub shows : ℕ → ℕ → List ℕ → Firmware → Module → Module
shows busy status reply firmware m =
    record { firmware = firmware; page = m.page; head = m.head; body = []; status = status; reply = reply; busy = busy; background = m.background }

abbrev pub answers : ℕ → Option Outcome → Firmware → Module → Module
answers busy (Some (Succeeded reply)) firmware m = shows busy 1 reply.items firmware m
answers busy (Some (Failed code)) firmware m = shows busy code [] firmware m
answers busy (Some Unsent) firmware m = shows busy 0 [] firmware m
answers busy (Some Unknown) firmware m = shows busy 0 [] firmware m
answers busy None firmware m = come_up (lost firmware) m

abbrev pub comes_to : ℕ → Answer → Module → Module
comes_to busy answer m = answers busy answer.outcome answer.after m

-- the id was stored
abbrev pub taken : Chance → ℕ → Module → Module
taken chance id m =
    if is_whole id m.head m then comes_to chance.busy (fated chance.fate id (take (count_in m.head) m.body) m.firmware) m
    else comes_to chance.busy (failing wrong_check_code m.firmware) m

-- ---- what a fetch reads, if it is answered

abbrev pub status_shown : Module → ℕ
status_shown m = if is_busy m then 131 else m.status

-- while it is busy, page 9Fh isn't there
abbrev pub has_page : Module → Bool
has_page m = m.page == 159 && not (is_busy m)

-- from byte 136 on: the reply, or the body as far as it was stored
abbrev pub payload : Module → List ℕ
payload m = if length m.reply == 0 then m.body else m.reply

abbrev pub read : ℕ → ℕ → Module → Option (List ℕ)
read offset count m =
    if offset == 37 && count == 1 then Some (status_shown m ∷ [])
    else (if offset == 126 && count == 2 then Some (0 ∷ m.page ∷ [])
    else (if has_page m && (offset == 134 && count == 2) then Some (length m.reply ∷ complement (sum m.reply) ∷ [])
    else (if has_page m && (offset == 136 && nat_le count (length (payload m))) then Some (take count (payload m)) else None)))

-- ---- what a store makes of it, and whether it is taken

abbrev pub Stored : Type 0
Stored = Bool × Module

-- page 9Fh of bank 0, or page 00h in place of a page that isn't there
abbrev pub select : List ℕ → Module → Stored
select (bank ∷ page ∷ []) m = (true, record m { page = if bank == 0 && page == 159 then 159 else 0 })
select bytes m = (false, m)

abbrev pub store_id : Chance → List ℕ → Module → Stored
store_id chance (high ∷ low ∷ []) m = (true, taken chance (high * 256 + low) m)
store_id chance bytes m = (false, m)

-- the length of the reply stands here too
abbrev pub store_head : List ℕ → Module → Stored
store_head bytes m = (true, record m { head = bytes; reply = [] })

-- behind what was stored before; no reply is there any more
abbrev pub store_body : ℕ → List ℕ → Module → Stored
store_body at bytes m = if nat_le at (length m.body) then (true, record m { body = take at m.body ++ bytes; reply = [] }) else (false, m)

abbrev pub store_page : Chance → ℕ → List ℕ → Module → Stored
store_page chance offset bytes m =
    if offset == 128 then store_id chance bytes m
    else (if offset == 130 then store_head bytes m
    else (if nat_le 136 offset then store_body (offset - 136) bytes m else (false, m)))

abbrev pub stored : Chance → ℕ → List ℕ → Module → Stored
stored chance offset bytes m =
    if offset == 126 then select bytes m else (if has_page m then store_page chance offset bytes m else (false, m))

-- ---- one transaction

abbrev pub read_reply : Option (List ℕ) → Reply
read_reply (Some bytes) = Bytes (record { items = bytes })
read_reply None = Refused

abbrev pub stored_reply : Bool → Reply
stored_reply took = if took then Done else Refused

-- it reaches the module; or it is refused, and so many bytes of a store reach it
abbrev pub fetching : Option ℕ → ℕ → ℕ → Module → Reply × Module
fetching None offset count m = (read_reply (read offset count m), m)
fetching (Some kept) offset count m = (Refused, m)

abbrev pub storing : Chance → Option ℕ → ℕ → List ℕ → Module → Reply × Module
storing chance None offset bytes m = (stored_reply (stored chance offset bytes m).0, (stored chance offset bytes m).1)
storing chance (Some kept) offset bytes m = (Refused, (stored chance offset (take kept bytes) m).1)

-- a module that is busy may refuse everything
abbrev pub is_deaf : Module → Bool
is_deaf m = is_busy m && not m.background

abbrev pub transacted : Chance → Op → Module → Reply × Module
transacted chance (Fetch A0 offset count) m = if is_deaf m then (Refused, m) else fetching chance.kept offset count m
transacted chance (Fetch A2 offset count) m = (Refused, m)
transacted chance (Store A0 offset bytes) m = if is_deaf m then (Refused, m) else storing chance chance.kept offset bytes.items m
transacted chance (Store A2 offset bytes) m = (Refused, m)

-- one step at the bus: what chance has come before it, and then the transaction
abbrev pub stepped : Chance → Op → Module → Reply × Module
stepped chance op m = transacted chance op (befallen chance.before m)
