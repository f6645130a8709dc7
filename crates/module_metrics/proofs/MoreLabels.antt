-- Labels that words have added, and one more.
use Rattle.std.proofs.Common.{◌≡◌, ◌≢◌, ℕ, ◌&&◌, ◌||◌, not, if◌then◌else◌, Bool, true, false, List, [], ◌∷◌, ◌++◌, Option, None, Some, refl, sym, ap, ◌∙◌, subst}
use Rattle.std.proofs.lemmas.Bool.{and_parts, false≢true, true≢false}
use Rattle.std.proofs.lemmas.List.{map-append}
use Rattle.std.proofs.lemmas.Slice.Eq.{bytes_eq-Decides}
use Rattle.std.specs.List.{list_all}
use Rattle.std.specs.Str.{bytes_eq}
use Rattle.module_metrics.specs.AddedLabels.{AreAdded, is_free}
use Rattle.module_metrics.specs.CommonLabels.{has_key, is_taken, key_fault}
use Rattle.module_metrics.specs.declared.label_fault.LabelFault.TheVariants.{BadKey, Taken, Twice}
use Rattle.module_metrics.specs.Exposition.{Label, label}
use Rattle.module_metrics.specs.Grammar.{is_name, is_reserved}
use Rattle.module_metrics.specs.WellFormed.{AreApart, keys}
use Rattle.observable_reports.proofs.ListedInstances.{all_append}

-- ---- what a key without a fault is

abbrev is_none : {A : Type 0} → Option A → Bool
is_none None = true
is_none (Some x) = false

-- of three tests that have faults none has failed
passed : (named taken twice : Bool) → (if not named then Some BadKey else (if taken then Some Taken else (if twice then Some Twice else None))) ≡ None
    → (named ≡ true) × ((taken ≡ false) × (twice ≡ false))
passed false taken twice e = absurd (false≢true (ap is_none e))
passed true true twice e = absurd (false≢true (ap is_none e))
passed true false true e = absurd (false≢true (ap is_none e))
passed true false false e = (refl, (refl, refl))

free_key : (key : List ℕ) → (is_name key && not (is_reserved key)) ≡ true → is_taken key ≡ false → is_free key ≡ true
free_key key named taken = ap (λ b. b && not (is_taken key)) named ∙ ap not taken

-- ---- it differs from those before it

or_false : (a b : Bool) → (a || b) ≡ false → (a ≡ false) × (b ≡ false)
or_false true b e = absurd (true≢false e)
or_false false b e = (refl, e)

unlike : (key other : List ℕ) → bytes_eq key other ≡ false → other ≢ key
unlike key other e same = false≢true (sym e ∙ (bytes_eq-Decides key other).1 (sym same))

free_append : (ks : List (List ℕ)) (key : List ℕ) → list_all is_free ks ≡ true → is_free key ≡ true → list_all is_free (ks ++ key ∷ []) ≡ true
free_append [] key free one = ap (λ b. b && true) one
free_append (k ∷ ks) key free one =
    let parts = and_parts (is_free k) (list_all is_free ks) free in
    ap (λ b. b && list_all is_free (ks ++ key ∷ [])) parts.0 ∙ free_append ks key parts.1 one

apart_more : (labels : List Label) (key : List ℕ) → has_key labels key ≡ false → AreApart (keys labels) → AreApart (keys labels ++ key ∷ [])
apart_more [] key new apart = (tt, tt)
apart_more (l ∷ ls) key new apart =
    let parts = or_false (bytes_eq key l.key) (has_key ls key) new in
    (all_append (λ (k : List ℕ). l.key ≢ k) (keys ls) (key ∷ []) apart.0 (unlike key l.key parts.0, tt), apart_more ls key parts.1 apart.1)

pub added_more : (labels : List Label) (key value : List ℕ) → key_fault labels key ≡ None → AreAdded labels → AreAdded (labels ++ label key value ∷ [])
unfolding label
added_more labels key value none added =
    let tests = passed (is_name key && not (is_reserved key)) (is_taken key) (has_key labels key) none in
    let all : keys (labels ++ (record { key = key; value = value }) ∷ []) ≡ keys labels ++ key ∷ [] = map-append (λ (l : Label). l.key) labels ((record { key = key; value = value }) ∷ []) in
    record {
      free = ap (list_all is_free) all ∙ free_append (keys labels) key added.free (free_key key tests.0 tests.1.0);
      apart = subst (λ ks. AreApart ks) (sym all) (apart_more labels key tests.1.1 added.apart);
    }

pub none_added : AreAdded []
none_added = record { free = refl; apart = tt }
