-- The codes that page 11h shows of each lane, in four bits each: what they are, how often they have changed, and when last.
-- (OIF-CMIS-05.0, page 11h: DPState, bytes 128 to 131, and ConfigStatus, bytes 202 to 205; the lower half of a byte has the odd lane)
use Rattle.std.specs.Prelude.{◌+◌, ◌-◌, ◌/◌, ◌%◌, ◌==◌, ◌&&◌, ℕ, not, Bool, false, nat_le, nat_lt, List, length, map, replicate, slice_index, Option, Some, None, unwrap_or, if◌then◌else◌}
use Rattle.std.specs.List.{range_with_len}
use Rattle.port_manager.specs.declared.codes.LaneCodes.{LaneCodes}
use Rattle.port_manager.specs.Counts.{later_of, one_more}

abbrev pub no_codes : LaneCodes
no_codes = record { codes = replicate 8 0; changes = replicate 8 0; last = replicate 8 0 }

abbrev pub half_of : ℕ → ℕ → ℕ
half_of byte place = if place % 2 == 0 then byte % 16 else byte / 16

-- bytes from an address on have the code of the lane with so many before it, of codes that begin at another address
abbrev pub read_code : ℕ → List ℕ → ℕ → ℕ → Option ℕ
read_code offset bytes first place =
    let address = first + place / 2 in
    if nat_le offset address && nat_lt (address - offset) (length bytes) then Some (half_of (slice_index bytes (address - offset)) place) else None

abbrev pub is_other : Option ℕ → ℕ → Bool
is_other None held = false
is_other (Some code) held = not (code == held)

abbrev pub is_changed : LaneCodes → ℕ → List ℕ → ℕ → ℕ → Bool
is_changed held offset bytes first place = is_other (read_code offset bytes first place) (slice_index held.codes place)

abbrev pub code_read_at : List ℕ → ℕ → List ℕ → ℕ → ℕ → ℕ
code_read_at held offset bytes first place = unwrap_or (read_code offset bytes first place) (slice_index held place)

abbrev pub counted_at : LaneCodes → ℕ → List ℕ → ℕ → ℕ → ℕ
counted_at held offset bytes first place = one_more (is_changed held offset bytes first place) (slice_index held.changes place)

abbrev pub dated_at : LaneCodes → ℕ → List ℕ → ℕ → ℕ → ℕ → ℕ
dated_at held offset bytes first now place = later_of (is_changed held offset bytes first place) (slice_index held.last place) now

unfoldable pub codes_read : List ℕ → ℕ → List ℕ → ℕ → List ℕ
codes_read held offset bytes first = map (code_read_at held offset bytes first) (range_with_len 0 8)

unfoldable pub counted : LaneCodes → ℕ → List ℕ → ℕ → List ℕ
counted held offset bytes first = map (counted_at held offset bytes first) (range_with_len 0 8)

unfoldable pub dated : LaneCodes → ℕ → List ℕ → ℕ → ℕ → List ℕ
dated held offset bytes first now = map (dated_at held offset bytes first now) (range_with_len 0 8)

-- a code that the bytes show replaces the one that was read before
abbrev pub with_codes : LaneCodes → ℕ → List ℕ → ℕ → ℕ → LaneCodes
with_codes held offset bytes first now =
    record { codes = codes_read held.codes offset bytes first; changes = counted held offset bytes first; last = dated held offset bytes first now }
