-- The names of the metrics of VDM differ from one another, and from all others.
use Rattle.std.proofs.Common.{◌≡◌, ◌≢◌, ◌∙◌, ℕ, ◌+◌, ◌*◌, ◌==◌, ◌&&◌, not, Bool, true, false, List, [], ◌∷◌, map, take, codes, refl, sym, ap}
use Rattle.std.proofs.lemmas.Bool.{and_parts, eqb-false, false≢true}
use Rattle.std.specs.List.{AllByRecursion, flat_map, list_all}
use Rattle.std.specs.Str.{bytes_eq}
use Rattle.module_metrics.specs.VdmNames.{figure_part, limits_part, measures, stem, vdm_name}
use Rattle.module_metrics.specs.VdmUnits.{base_unit}
use Rattle.module_metrics.specs.WellFormed.{AreApart}
use Rattle.module_metrics.specs.declared.vdm_name.Measure.{Measure}
use Rattle.module_metrics.proofs.Sublists.{apart_by}
use Rattle.module_metrics.proofs.VdmRight.{measure_names, vdm_names}

-- ---- from one another: by the number that the bytes of a name are, which is compared in one step

abbrev number_of : List ℕ → ℕ
number_of [] = 0
number_of (byte ∷ bytes) = byte + 256 * number_of bytes

abbrev is_new : ℕ → List ℕ → Bool
is_new n ns = list_all (λ (other : ℕ). not (n == other)) ns

abbrev are_new : List ℕ → Bool
are_new [] = true
are_new (n ∷ ns) = is_new n ns && are_new ns

unequal : (b : Bool) → not b ≡ true → b ≡ false
unequal true h = absurd (false≢true h)
unequal false h = refl

unlike : (n : ℕ) (ns : List ℕ) → is_new n ns ≡ true → AllByRecursion (λ (other : ℕ). n ≢ other) ns
unlike n [] new = tt
unlike n (other ∷ ns) new =
    let parts = and_parts (not (n == other)) (is_new n ns) new in
    (eqb-false n other (unequal (n == other) parts.0), unlike n ns parts.1)

tested : (ns : List ℕ) → are_new ns ≡ true → AreApart ns
tested [] new = tt
tested (n ∷ ns) new = let parts = and_parts (is_new n ns) (are_new ns) new in (unlike n ns parts.0, tested ns parts.1)

pub vdm_names_apart : AreApart vdm_names
unfolding vdm_name stem figure_part limits_part base_unit measures
vdm_names_apart = apart_by number_of vdm_names (tested (map number_of vdm_names) refl)

-- ---- from others: by how they begin

abbrev begins : List ℕ → Bool
begins name = bytes_eq (take 16 name) (codes "dovecounter_vdm_")

abbrev pub is_other : List ℕ → Bool
is_other name = not (begins name)

all_begin : (of : List Measure) → AllByRecursion (λ name. begins name ≡ true) (flat_map measure_names of)
unfolding vdm_name
all_begin [] = tt
all_begin (one ∷ of) = (refl, (refl, all_begin of))

other_unlike : (name : List ℕ) (names : List (List ℕ)) → is_other name ≡ true → AllByRecursion (λ other. begins other ≡ true) names → AllByRecursion (λ other. name ≢ other) names
other_unlike name [] other begin = tt
other_unlike name (one ∷ names) other begin =
    (λ same. false≢true (sym (unequal (begins name) other) ∙ ap begins same ∙ begin.0), other_unlike name names other begin.1)

pub unlike_vdm : (names : List (List ℕ)) → list_all is_other names ≡ true → AllByRecursion (λ name. AllByRecursion (λ other. name ≢ other) vdm_names) names
unlike_vdm [] others = tt
unlike_vdm (name ∷ names) others =
    let parts = and_parts (is_other name) (list_all is_other names) others in
    (other_unlike name vdm_names parts.0 (all_begin measures), unlike_vdm names parts.1)
