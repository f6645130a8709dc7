-- How often something was read, and when last. (this project's own)
use Rattle.std.specs.Prelude.{◌+◌, ◌-◌, ◌^◌, ℕ, Bool, max, min, if◌then◌else◌}

-- as far as 16 bits count
abbrev pub one_more : Bool → ℕ → ℕ
one_more read held = if read then min (held + 1) (2 ^ 16 - 1) else held

abbrev pub later_of : Bool → ℕ → ℕ → ℕ
later_of read held now = if read then max held now else held
