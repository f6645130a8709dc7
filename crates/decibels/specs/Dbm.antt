-- How a level is shown in dBm. (docs/formats.md, "Values in reports"; this project's own)
use Rattle.std.specs.Prelude.{ℕ, ◌-◌, ◌/◌, ◌%◌, nat_lt, if◌then◌else◌, Option, None, Some, List, ◌∷◌, ◌++◌, codes}
use Rattle.std.specs.Fmt.{decimal}

-- hundredths as a decimal fraction: `2.30` for 230
abbrev pub hundredths_text : ℕ → List ℕ
hundredths_text n = decimal (n / 100) ++ (46 ∷ decimal (n / 10 % 10)) ++ decimal (n % 10)

-- A milliwatt is 4000 hundredths above a tenth of a microwatt, and 0 dBm.
abbrev pub dbm_text : Option ℕ → List ℕ
dbm_text None = codes "-inf"
dbm_text (Some level) = if nat_lt level 4000 then 45 ∷ hundredths_text (4000 - level) else hundredths_text (level - 4000)
