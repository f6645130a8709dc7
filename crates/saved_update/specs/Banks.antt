-- What the reply about a module's banks says. (OIF-CMIS-05.0, CMD 0100h "Get Firmware Info")
use Rattle.std.specs.Prelude.{ℕ, ◌+◌, ◌*◌, ◌&&◌, not, nat_lt, Bool, List, [], ◌∷◌, length, replicate, get_or, slice_index, if◌then◌else◌}
use Rattle.firmware_update.specs.declared.bank.Bank.{Bank}
use Rattle.firmware_update.specs.declared.bank.Bank.TheVariants.{A, B}
use Rattle.firmware_update.specs.Replies.{is_committed, is_invalid, other_bank, runs, runs_alone}
use Rattle.saved_update.specs.declared.banks.Banks.{Banks}
use Rattle.saved_update.specs.declared.banks.BankState.{BankState}
use Rattle.saved_update.specs.SavedDeliveries.{number_of}

-- the first byte; an empty reply counts as one of two banks that are not valid
abbrev pub status_of : List ℕ → ℕ
status_of [] = 68
status_of (status ∷ more) = status

-- where the version of a bank's image begins
abbrev pub offset_of : Bank → ℕ
offset_of A = 2
offset_of B = 38

abbrev pub has_version : Bank → List ℕ → Bool
has_version bank reply = nat_lt (offset_of bank + 3) (length reply) && not (is_invalid bank (status_of reply))

-- major, minor, and two bytes of the build, the higher first
abbrev pub version_at : ℕ → List ℕ → List ℕ
version_at at reply = slice_index reply at ∷ slice_index reply (at + 1) ∷ slice_index reply (at + 2) ∷ slice_index reply (at + 3) ∷ []

abbrev pub version_of : Bank → List ℕ → List ℕ
version_of bank reply = if not (has_version bank reply) then replicate 4 0 else version_at (offset_of bank) reply

abbrev pub state_by : Bank → List ℕ → List ℕ → BankState
state_by bank reply version = record {
  build = get_or version 2 0 * 256 + get_or version 3 0;
  runs = number_of (runs bank (status_of reply));
  committed = number_of (is_committed bank (status_of reply));
  valid = number_of (not (is_invalid bank (status_of reply)));
  has_version = number_of (has_version bank reply);
  major = get_or version 0 0;
  minor = get_or version 1 0;
}

abbrev pub state_of : Bank → List ℕ → BankState
state_of bank reply = state_by bank reply (version_of bank reply)

abbrev pub is_committed_alone : Bank → ℕ → Bool
is_committed_alone bank status = is_committed bank status && not (is_committed (other_bank bank) status)

abbrev pub the_one : Bool → Bool → ℕ
the_one first second = if first then 1 else (if second then 2 else 0)

abbrev pub banks_of : List ℕ → Banks
banks_of reply = record {
  states = state_of A reply ∷ state_of B reply ∷ [];
  running = the_one (runs_alone A (status_of reply)) (runs_alone B (status_of reply));
  committed = the_one (is_committed_alone A (status_of reply)) (is_committed_alone B (status_of reply));
}
