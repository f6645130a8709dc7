-- How entries are kept: what bounds the gain of each state that has an entry, by the places of states. (docs/planning.md, "The
-- checker"; this project's own)
use Rattle.std.specs.Prelude.{◌≡◌, ◌⊎◌, ℕ, ◌-◌, ◌/◌, ◌%◌, ◌<◌, ◌≤◌, nat_le, Bool, false, List, [], ◌∷◌, Option, Some, None, flat_map, length, slice_index_or}
use Rattle.std.specs.List.{enumerate_from}
use Rattle.plan_certificate.specs.declared.certificate.Entry.{Entry}
use Rattle.plan_certificate.specs.Certificates.{HasStates, entry_place}
use Rattle.plan_certificate.specs.Limits.{most_states}

-- entries, and the text in which their larger potentials stand
pub record Listed : Type 0 where
  pub text : List ℕ
  pub entries : List Entry

-- the entry of the state at a place, if it has one
abbrev pub entry_at : ℕ × Option ℕ → List Entry
entry_at (place, None) = []
entry_at (place, Some potential) = record { boundary = place / 256; used = place % 256; potential = potential } ∷ []

unfoldable pub entries_of : List (Option ℕ) → List Entry
entries_of bounds = flat_map entry_at (enumerate_from 0 bounds)

-- what is known besides, so that entries are found fast: how many there are, where the last state is, and which of the places,
-- 16 by 16, may have one
pub record AreEntries (room : ℕ) (bounds : List (Option ℕ)) (count end : ℕ) (blocks : List Bool) : Type 0 where
  pub all : length bounds ≡ most_states
  pub counted : count ≡ length (entries_of bounds)
  pub few : count ≤ room
  pub within : end ≤ most_states
  pub below : (place : ℕ) → end ≤ place → slice_index_or bounds place None ≡ None
  pub last : (end ≡ 0) ⊎ ((potential : ℕ) × (slice_index_or bounds (end - 1) None ≡ Some potential))
  pub all_blocks : length blocks ≡ 144
  pub blocked : (place : ℕ) → slice_index_or blocks (place / 16) false ≡ false → slice_index_or bounds place None ≡ None

-- so their states rise, and they have room
pub record AreListed (room : ℕ) (entries : List Entry) : Type 0 where
  pub states : HasStates entries
  pub fits : length entries ≤ room
  pub few : length entries ≤ most_states

-- the state of an entry is at a place or past it
abbrev pub is_from : ℕ → Entry → Bool
is_from place entry = nat_le place (entry_place entry)

-- the entries before this number, from 0, are those whose states are before a place
pub record IsNext (entries : List Entry) (number from : ℕ) : Type 0 where
  pub within : number ≤ length entries
  pub before : (k : ℕ) (d : Entry) → k < number → entry_place (slice_index_or entries k d) < from
  pub past : (k : ℕ) (d : Entry) → number ≤ k → k < length entries → from ≤ entry_place (slice_index_or entries k d)
