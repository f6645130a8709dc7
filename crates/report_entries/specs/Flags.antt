-- Flags that modules raise, and their lines. (docs/formats.md, "flags"; OIF-CMIS-05.0, "Module-Level Flags" and the
-- lane-specific flags of page 11h; SFF-8636, "Interrupt Flags"; SFF-8472, "Alarm and Warning Flag Bits")
use Rattle.std.specs.Prelude.{ℕ, Bool, List, [], ◌∷◌, ◌++◌, map, filter, Option, Some, None, codes}
use Rattle.std.specs.Fmt.{decimal}
use Rattle.report_entries.specs.declared.flag.Flag.{Flag}
use Rattle.report_entries.specs.Lines.{line}
use Rattle.report_entries.specs.FlagNames.{flag_name}

abbrev pub lane_suffix : Option ℕ → List ℕ
lane_suffix None = []
lane_suffix (Some lane) = 32 ∷ decimal lane

unfoldable pub flag_text : Flag → List ℕ
flag_text f = flag_name f.name ++ lane_suffix f.lane

abbrev pub flag_line : List ℕ → Flag → List ℕ
flag_line name f = line name (flag_text f)

-- those that are raised
abbrev pub raised : List (Flag × Bool) → List Flag
raised flags = map (λ (f : Flag × Bool). f.0) (filter (λ (f : Flag × Bool). f.1) flags)

-- a line for each flag, or one that says that there is none
abbrev pub flag_lines : List ℕ → List Flag → List (List ℕ)
flag_lines name [] = line name (codes "none") ∷ []
flag_lines name (f ∷ fs) = flag_line name f ∷ map (flag_line name) fs
