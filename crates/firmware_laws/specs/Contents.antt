-- What a module makes of the bytes that it is sent, and which image is the committed one. (OIF-CMIS-05.0, CMD 0101h, 0103h
-- and 0107h; this project's own reading of it)
use Rattle.std.specs.Prelude.{◌≡◌, ◌⊎◌, ℕ, ◌+◌, ◌-◌, ◌≤◌, List, ◌++◌, length, take, Some, None, true}
use Rattle.arrayvec.specs.ArrayVec.{ArrayVec}
use Rattle.command_block.specs.declared.outcome.Outcome.TheVariants.{Succeeded}
use Rattle.firmware_update.specs.declared.bank.Bank.{Bank}
use Rattle.firmware_laws.specs.Modules.{Answer, Conduct, Download, Firmware, held}
use Rattle.firmware_update.specs.Payloads.{block_message, complete_message, start_message}
use Rattle.firmware_update.specs.Replies.{other_bank}

-- the sender learns that it was carried out
abbrev pub HasSucceeded : Answer → Type 0
HasSucceeded answer = (reply : ArrayVec ℕ) × (answer.outcome ≡ Some (Succeeded reply))

-- a download of so many bytes is open, of which these are the first, and this is the memory for the others
abbrev pub IsOpen : ℕ → List ℕ → List ℕ → Firmware → Type 0
IsOpen size first rest firmware = firmware.download ≡ Some (record { size = size; first = first; rest = rest })

-- no download is open afterwards, or the one that was, with the same bytes below this address, if it had so many
abbrev pub KeepsBelow : ℕ → Firmware → Firmware → Type 0
KeepsBelow address before after =
    (after.download ≡ None)
    ⊎ ((was : Download) × (memory : List ℕ) × (before.download ≡ Some was) × IsOpen was.size was.first memory after × (address ≤ length was.rest → take address memory ≡ take address was.rest))

-- a download was open, and is, with these bytes at this address and the same bytes below it, if it had so many
abbrev pub PutsAt : ℕ → List ℕ → Firmware → Firmware → Type 0
PutsAt address bytes before after =
    (was : Download) × (memory : List ℕ) × (before.download ≡ Some was) × IsOpen was.size was.first memory after
    × (address ≤ length was.rest → take (address + length bytes) memory ≡ take address was.rest ++ bytes)

-- a download was open, and what was received is the image in the bank that doesn't run
abbrev pub MakesImage : Firmware → Firmware → Type 0
MakesImage before after =
    (was : Download) × (before.download ≡ Some was)
    × ((held after (other_bank before.running)).image ≡ was.first ++ take (was.size - length was.first) was.rest)

-- ---- what is presumed of it

abbrev pub StartsAreKept : Conduct → Type 0
StartsAreKept conduct =
    (size : ℕ) (first : List ℕ) (choice : ℕ) (before : Firmware) → HasSucceeded (conduct (start_message size first) choice before)
    → (memory : List ℕ) × IsOpen size first memory (conduct (start_message size first) choice before).after

-- a block that is carried out
abbrev pub BlocksAreStored : Conduct → Type 0
BlocksAreStored conduct =
    (address : ℕ) (bytes : List ℕ) (choice : ℕ) (before : Firmware) → HasSucceeded (conduct (block_message address bytes) choice before)
    → PutsAt address bytes before (conduct (block_message address bytes) choice before).after

-- one that is not, or in part
abbrev pub BlocksKeepOthers : Conduct → Type 0
BlocksKeepOthers conduct =
    (address : ℕ) (bytes : List ℕ) (choice : ℕ) (before : Firmware) → KeepsBelow address before (conduct (block_message address bytes) choice before).after

abbrev pub CompletesMakeImages : Conduct → Type 0
CompletesMakeImages conduct =
    (choice : ℕ) (before : Firmware) → HasSucceeded (conduct complete_message choice before) → MakesImage before (conduct complete_message choice before).after

pub record StoresContents (conduct : Conduct) : Type 0 where
  pub started : StartsAreKept conduct
  pub stored : BlocksAreStored conduct
  pub missed : BlocksKeepOthers conduct
  pub completed : CompletesMakeImages conduct

-- ---- which image is committed

-- this is the image of a bank that is committed
abbrev pub IsCommittedImage : Firmware → List ℕ → Type 0
IsCommittedImage firmware image = (bank : Bank) × ((held firmware bank).committed ≡ true) × ((held firmware bank).image ≡ image)

-- each image that is committed was so at the beginning, or is the whole file
abbrev pub IsOldOrNew : Firmware → List ℕ → Firmware → Type 0
IsOldOrNew first file last = (image : List ℕ) → IsCommittedImage last image → IsCommittedImage first image ⊎ (image ≡ file)
