-- What a module's replies say of its firmware. (OIF-CMIS-05.0, CMD 0041h "Firmware Management Features", CMD 0100h "Get
-- Firmware Info")
use Rattle.std.specs.Prelude.{ℕ, ◌/◌, ◌%◌, ◌==◌, ◌&&◌, ◌||◌, nat_le, nat_lt, not, Bool, List, length, Option, Some, None, if◌then◌else◌, slice_index}
use Rattle.firmware_update.specs.declared.bank.Bank.{Bank}
use Rattle.firmware_update.specs.declared.bank.Bank.TheVariants.{A, B}

-- blocks are written by the local payload, or by that too
abbrev pub takes_blocks : ℕ → Bool
takes_blocks mechanism = mechanism == 1 || mechanism == 17

-- how many bytes of the file a Start takes, if a file of this size can be sent in blocks of the local payload
abbrev pub start_size : ℕ → List ℕ → Option ℕ
start_size size reply =
    if nat_lt (length reply) 18 then None
    else (if takes_blocks (slice_index reply 5) && nat_le (slice_index reply 2) 112 && nat_lt (slice_index reply 2) size then Some (slice_index reply 2) else None)

-- the bit of this weight is set
abbrev pub has_bit : ℕ → ℕ → Bool
has_bit weight byte = byte / weight % 2 == 1

abbrev pub other_bank : Bank → Bank
other_bank A = B
other_bank B = A

abbrev pub runs : Bank → ℕ → Bool
runs A byte = has_bit 1 byte
runs B byte = has_bit 16 byte

abbrev pub is_committed : Bank → ℕ → Bool
is_committed A byte = has_bit 2 byte
is_committed B byte = has_bit 32 byte

abbrev pub is_invalid : Bank → ℕ → Bool
is_invalid A byte = has_bit 4 byte
is_invalid B byte = has_bit 64 byte

abbrev pub runs_alone : Bank → ℕ → Bool
runs_alone bank byte = runs bank byte && not (runs (other_bank bank) byte) && not (is_invalid bank byte)

abbrev pub stands : Bank → ℕ → Bool
stands bank byte = runs_alone bank byte && is_committed bank byte && not (is_committed (other_bank bank) byte)

-- the bank that runs and is committed, alone, and is valid
unfoldable pub standing_bank : List ℕ → Option Bank
standing_bank reply =
    if nat_lt 0 (length reply) then (if stands A (slice_index reply 0) then Some A else (if stands B (slice_index reply 0) then Some B else None)) else None

-- the bank beside the old one runs, alone, and is valid
unfoldable pub new_runs : Bank → List ℕ → Bool
new_runs old reply = nat_lt 0 (length reply) && runs_alone (other_bank old) (slice_index reply 0)

-- and it is committed, alone
unfoldable pub new_is_committed : Bank → List ℕ → Bool
new_is_committed old reply = nat_lt 0 (length reply) && stands (other_bank old) (slice_index reply 0)
