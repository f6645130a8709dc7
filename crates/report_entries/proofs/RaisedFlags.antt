-- The flags that are raised, of two lists of flags and of one, and the lines of none.
use Rattle.std.proofs.Common.{◌≡◌, ◌≢◌, ℕ, Bool, List, [], ◌∷◌, ◌++◌, length, map, refl, ap, ◌∙◌, arith}
use Rattle.std.specs.Prelude.{codes}
use Rattle.std.proofs.lemmas.List.{map-append}
use Rattle.std.proofs.lemmas.List.Elements.{filter-append}
use Rattle.std.specs.List.{filter}
use Rattle.report_entries.specs.declared.flag.Flag.{Flag}
use Rattle.report_entries.specs.Flags.{flag_line, flag_lines, raised}
use Rattle.report_entries.specs.Lines.{line}

pub raised_append : (xs ys : List (Flag × Bool)) → raised (xs ++ ys) ≡ raised xs ++ raised ys
raised_append xs ys =
    let is_raised = λ (f : Flag × Bool). f.1 in
    ap (map (λ (f : Flag × Bool). f.0)) (filter-append is_raised xs ys)
    ∙ map-append (λ (f : Flag × Bool). f.0) (filter is_raised xs) (filter is_raised ys)

pub lines_of_some : (name : List ℕ) (flags : List Flag) → length flags ≢ 0 → flag_lines name flags ≡ map (flag_line name) flags
lines_of_some name [] some = absurd (some refl)
lines_of_some name (f ∷ fs) some = refl

pub lines_of_none : (name : List ℕ) (flags : List Flag) → length flags ≡ 0 → flag_lines name flags ≡ line name (codes "none") ∷ []
lines_of_none name [] none = refl
lines_of_none name (f ∷ fs) none = absurd (omega arith)
