-- A module with two firmware banks, as far as a loss of power concerns it: what messages may do to it, even if they are cut
-- short, and what it runs when power comes back. (OIF-CMIS-05.0, firmware management; this project's own reading of it)
use Rattle.std.specs.Prelude.{◌≡◌, ◌⊎◌, ℕ, length, ◌<◌, List, [], ◌∷◌, Option, Some, None, Bool, true, false, not, slice_index}
use Rattle.arrayvec.specs.ArrayVec.{ArrayVec}
use Rattle.command_block.specs.declared.message.Message.{Message}
use Rattle.command_block.specs.declared.outcome.Outcome.{Outcome}
use Rattle.command_block.specs.declared.outcome.Outcome.TheVariants.{Succeeded, Unknown}
use Rattle.firmware_update.specs.declared.bank.Bank.{Bank}
use Rattle.firmware_update.specs.declared.bank.Bank.TheVariants.{A, B}
use Rattle.firmware_update.specs.Exchanges.{History}
use Rattle.firmware_update.specs.Payloads.{info_message, message_of}
use Rattle.firmware_update.specs.Replies.{is_committed, is_invalid, other_bank, runs}

-- ---- how it stands

-- what a bank holds: whether it is an image that can run, whether that is to run after each reset, and its bytes
pub record Held : Type 0 where
  pub valid : Bool
  pub committed : Bool
  pub image : List ℕ

-- what has come of a download: the size of the file, its first bytes, and the memory for the others
pub record Download : Type 0 where
  pub size : ℕ
  pub first : List ℕ
  pub rest : List ℕ

-- the two banks, the one that runs, the download, if one is open, and the bank that runs after a reset that is still to come
-- since a Run
pub record Firmware : Type 0 where
  pub a : Held
  pub b : Held
  pub running : Bank
  pub download : Option Download
  pub reset : Option Bank

abbrev pub held : Firmware → Bank → Held
held firmware A = firmware.a
held firmware B = firmware.b

-- the bank is committed, and can run
abbrev pub IsImage : Firmware → Bank → Type 0
IsImage firmware bank = ((held firmware bank).committed ≡ true) × ((held firmware bank).valid ≡ true)

-- there is a committed image that can run
abbrev pub HasImage : Firmware → Type 0
HasImage firmware = (bank : Bank) × IsImage firmware bank

-- this bank runs, can, and is committed, alone
abbrev pub IsStanding : Bank → Firmware → Type 0
IsStanding old firmware = (firmware.running ≡ old) × IsImage firmware old × ((held firmware (other_bank old)).committed ≡ false)

-- no reset is still to come
abbrev pub IsQuiet : Firmware → Type 0
IsQuiet firmware = firmware.reset ≡ None

-- what runs can
abbrev pub RunsWell : Firmware → Type 0
RunsWell firmware = (held firmware firmware.running).valid ≡ true

-- ---- what changes

-- both banks hold what they held
abbrev pub KeepsBanks : Firmware → Firmware → Type 0
KeepsBanks before after = (after.a ≡ before.a) × (after.b ≡ before.b)

-- the bank that doesn't run may come to hold anything, good or broken; it is committed if it was, and the other one stays
abbrev pub FillsOther : Firmware → Firmware → Type 0
FillsOther before after =
    (after.running ≡ before.running)
    × (held after before.running ≡ held before before.running)
    × ((held after (other_bank before.running)).committed ≡ (held before (other_bank before.running)).committed)
    × (after.reset ≡ before.reset)

-- a bank holds the same image, which can run if it could
abbrev pub KeepsImage : Firmware → Firmware → Bank → Type 0
KeepsImage before after bank = ((held after bank).valid ≡ (held before bank).valid) × ((held after bank).image ≡ (held before bank).image)

-- the bank that runs is the one that is committed now, and nothing else changed
abbrev pub Commits : Firmware → Firmware → Type 0
Commits before after =
    (after.running ≡ before.running)
    × ((held after before.running).committed ≡ true)
    × ((held after (other_bank before.running)).committed ≡ false)
    × KeepsImage before after before.running
    × KeepsImage before after (other_bank before.running)
    × (after.reset ≡ before.reset)

-- no download is open, or the one that was
abbrev pub KeepsDownload : Firmware → Firmware → Type 0
KeepsDownload before after = (after.download ≡ None) ⊎ (after.download ≡ before.download)

-- power was lost and came back: the banks hold what they held, and a committed image runs, if there is one that can
abbrev pub Loses : Firmware → Firmware → Type 0
Loses before after =
    KeepsBanks before after × (HasImage before → IsImage before after.running) × KeepsDownload before after × IsQuiet after

-- a reset came that was still to come: the image runs that it was for, if that can, or else another that can
abbrev pub Resets : Firmware → Firmware → Type 0
Resets before after =
    (bank : Bank) × (before.reset ≡ Some bank) × KeepsBanks before after × RunsWell after
    × ((held before bank).valid ≡ true → after.running ≡ bank) × KeepsDownload before after × IsQuiet after

-- what cuts a message short: power was lost, or that reset came in its midst
abbrev pub CutsShort : Firmware → Firmware → Type 0
CutsShort before after = Loses before after ⊎ Resets before after

-- power was lost, once or more, or a reset came, or nothing
abbrev pub Endures : Firmware → Firmware → Type 0
Endures before after = (after ≡ before) ⊎ CutsShort before after

-- ---- what it does with messages

-- what comes of a message: what its sender learns, or none where it is cut short; and how the module stands then
pub record Answer : Type 0 where
  pub outcome : Option Outcome
  pub after : Firmware

-- what a module does with a message; a number stands for all that is left open
abbrev pub Conduct : Type 0
Conduct = Message → ℕ → Firmware → Answer

abbrev pub IsQuestion : Message → Type 0
IsQuestion sent = (sent.id ≡ 65) ⊎ (sent.id ≡ 256)

-- the messages of a download
abbrev pub Fills : Message → Type 0
Fills sent = (sent.id ≡ 257) ⊎ ((sent.id ≡ 259) ⊎ ((sent.id ≡ 263) ⊎ (sent.id ≡ 258)))

-- the first byte of the reply to CMD 0100h says what a bank is
pub record IsReportOf (byte : ℕ) (firmware : Firmware) (bank : Bank) : Type 0 where
  pub running : runs bank byte ≡ true → firmware.running ≡ bank
  pub committed : is_committed bank byte ≡ (held firmware bank).committed
  pub valid : not (is_invalid bank byte) ≡ (held firmware bank).valid

abbrev pub IsTrueOf : Firmware → List ℕ → Type 0
IsTrueOf firmware reply = 0 < length reply → (bank : Bank) → IsReportOf (slice_index reply 0) firmware bank

-- ---- what is presumed of it: of a message that is cut short, or that the module says failed, no more than of one that it
-- carried out

-- a question changes nothing
abbrev pub QuestionsChangeNothing : Conduct → Type 0
QuestionsChangeNothing conduct = (sent : Message) (choice : ℕ) (before : Firmware) → IsQuestion sent → (conduct sent choice before).after ≡ before

-- which image runs, is committed and can run is told as it is
abbrev pub InfoIsTrue : Conduct → Type 0
InfoIsTrue conduct =
    (choice : ℕ) (before : Firmware) (reply : ArrayVec ℕ) → (conduct info_message choice before).outcome ≡ Some (Succeeded reply) → IsTrueOf before reply.items

-- a download goes to the bank that doesn't run
abbrev pub DownloadsGoAside : Conduct → Type 0
DownloadsGoAside conduct = (sent : Message) (choice : ℕ) (before : Firmware) → Fills sent → FillsOther before (conduct sent choice before).after

-- a Run changes no bank, whichever runs then; a reset that is still to come is for the bank that didn't run
abbrev pub Switches : Firmware → Firmware → Type 0
Switches before after =
    KeepsBanks before after × ((after.reset ≡ before.reset) ⊎ ((after.reset ≡ None) ⊎ (after.reset ≡ Some (other_bank before.running))))

abbrev pub RunsKeepBanks : Conduct → Type 0
RunsKeepBanks conduct = (sent : Message) (choice : ℕ) (before : Firmware) → sent.id ≡ 265 → Switches before (conduct sent choice before).after

-- a Commit is done at once: there is no moment at which it is done in part
abbrev pub CommitIsAtomic : Conduct → Type 0
CommitIsAtomic conduct =
    (sent : Message) (choice : ℕ) (before : Firmware) → sent.id ≡ 266
    → ((conduct sent choice before).after ≡ before) ⊎ Commits before (conduct sent choice before).after

pub record HasTwoBanks (conduct : Conduct) : Type 0 where
  pub asked : QuestionsChangeNothing conduct
  pub told : InfoIsTrue conduct
  pub filled : DownloadsGoAside conduct
  pub ran : RunsKeepBanks conduct
  pub commit_is_atomic : CommitIsAtomic conduct

-- ---- what becomes of it

-- the sender learns this, and power is lost afterwards, or a reset comes, or not; or that comes in the midst, and the sender learns nothing
abbrev pub Passes : Answer → Outcome → Firmware → Type 0
Passes answer outcome last =
    ((answer.outcome ≡ Some outcome) × Endures answer.after last)
    ⊎ ((answer.outcome ≡ None) × (outcome ≡ Unknown) × CutsShort answer.after last)

-- a module that was the first may be the last after these exchanges about this file, with power lost and back, or a reset of a
-- Run that was still to come, at any moments, in the midst of a message too
abbrev pub ComesTo : Conduct → List ℕ → Firmware → History → Firmware → Type 0
ComesTo conduct file first [] last = Endures first last
ComesTo conduct file first (x ∷ before) last =
    (earlier : Firmware) × (choice : ℕ) × ComesTo conduct file first before earlier
    × Passes (conduct (message_of file x.command) choice earlier) x.outcome last
