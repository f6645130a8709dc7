-- The metrics of each thing that a report says are well formed.
use Rattle.std.proofs.Common.{◌≡◌, ◌≢◌, ℕ, ◌+◌, ◌<◌, ◌^◌, ◌&&◌, not, Bool, true, false, List, [], ◌∷◌, ◌++◌, length, map, decimal, refl, sym, ap, ◌∙◌, subst, arith}
use Rattle.std.proofs.lemmas.Bool.{and_parts, false≢true}
use Rattle.std.proofs.lemmas.Fmt.{decimal_injective}
use Rattle.std.proofs.lemmas.List.{map-append}
use Rattle.std.specs.List.{AllByRecursion, enumerate_from, list_all}
use Rattle.module_metrics.specs.AddedLabels.{AreAdded, is_free}
use Rattle.module_metrics.specs.CommonLabels.{is_taken}
use Rattle.module_metrics.specs.Exposition.{Label}
use Rattle.module_metrics.specs.Grammar.{is_name, is_reserved}
use Rattle.module_metrics.specs.WellFormed.{AreApart, AreLabels, keys}
use Rattle.observable_reports.proofs.ListedInstances.{all_append}

-- ---- labels of a sample after those that were added

-- names of labels that a sample has by itself
abbrev pub is_own : List ℕ → Bool
is_own key = is_name key && is_taken key

free_named : (key : List ℕ) → is_free key ≡ true → is_name key ≡ true
free_named key free =
    let parts = and_parts (is_name key && not (is_reserved key)) (not (is_taken key)) free in
    (and_parts (is_name key) (not (is_reserved key)) parts.0).0

is_false : (b : Bool) → not b ≡ true → b ≡ false
is_false true h = absurd (false≢true h)
is_false false h = refl

-- a free key is none that a sample has by itself
free_unlike : (key own : List ℕ) → is_free key ≡ true → is_own own ≡ true → key ≢ own
free_unlike key own free taken same =
    let parts = and_parts (is_name key && not (is_reserved key)) (not (is_taken key)) free in
    let other = and_parts (is_name own) (is_taken own) taken in
    false≢true (sym (is_false (is_taken key) parts.1) ∙ ap is_taken same ∙ other.1)

each_unlike : (key : List ℕ) (owns : List (List ℕ)) → is_free key ≡ true → list_all is_own owns ≡ true → AllByRecursion (λ own. key ≢ own) owns
each_unlike key [] free all = tt
each_unlike key (own ∷ owns) free all =
    let parts = and_parts (is_own own) (list_all is_own owns) all in
    (free_unlike key own free parts.0, each_unlike key owns free parts.1)

pub all_then : {A : Type 0} (P Q : A → Type 0) → ((x : A) → P x → Q x) → (xs : List A) → AllByRecursion P xs → AllByRecursion Q xs
all_then P Q then [] all = tt
all_then P Q then (x ∷ xs) all = (then x all.0, all_then P Q then xs all.1)

owns_named : (owns : List (List ℕ)) → list_all is_own owns ≡ true → list_all is_name owns ≡ true
owns_named [] all = refl
owns_named (own ∷ owns) all =
    let parts = and_parts (is_own own) (list_all is_own owns) all in
    ap (λ b. b && list_all is_name owns) ((and_parts (is_name own) (is_taken own) parts.0).0) ∙ owns_named owns parts.1

named_append : (ks owns : List (List ℕ)) → list_all is_free ks ≡ true → list_all is_own owns ≡ true → list_all is_name (ks ++ owns) ≡ true
named_append [] owns free all = owns_named owns all
named_append (key ∷ ks) owns free all =
    let parts = and_parts (is_free key) (list_all is_free ks) free in
    ap (λ b. b && list_all is_name (ks ++ owns)) (free_named key parts.0) ∙ named_append ks owns parts.1 all

apart_append : (ks owns : List (List ℕ)) → list_all is_free ks ≡ true → AreApart ks → list_all is_own owns ≡ true → AreApart owns → AreApart (ks ++ owns)
apart_append [] owns free apart all own = own
apart_append (key ∷ ks) owns free apart all own =
    let parts = and_parts (is_free key) (list_all is_free ks) free in
    (all_append (λ other. key ≢ other) ks owns apart.0 (each_unlike key owns parts.0 all), apart_append ks owns parts.1 apart.1 all own)

pub labels_right : (common labels : List Label) → AreAdded common → list_all is_own (keys labels) ≡ true → AreApart (keys labels) → AreLabels (common ++ labels)
labels_right common labels added owns apart =
    let all : keys (common ++ labels) ≡ keys common ++ keys labels = map-append (λ (l : Label). l.key) common labels in
    record {
      named = ap (list_all is_name) all ∙ named_append (keys common) (keys labels) added.free owns;
      apart = subst (λ ks. AreApart ks) (sym all) (apart_append (keys common) (keys labels) added.free added.apart owns apart);
    }

-- ---- numbered samples

-- the value of the first label
abbrev first_value : List Label → List ℕ
first_value [] = []
first_value (l ∷ ls) = l.value

lt_apart : (n m : ℕ) → n < m → n ≢ m
lt_apart n m below same = absurd (omega (arith, below, same))

module _ {X : Type 0} (labels_of : ℕ × X → List Label) (numbered : (l : ℕ × X) → first_value (labels_of l) ≡ decimal l.0) where
  later : (n m : ℕ) (x : X) (xs : List X) → n < m → m + length xs < 2 ^ 64 → AllByRecursion (λ labels. labels_of (n, x) ≢ labels) (map labels_of (enumerate_from m xs))
  later n m x [] below few = tt
  later n m x (y ∷ ys) below few = (
    λ same. lt_apart n m below (decimal_injective n m (omega (arith, below, few)) (omega (arith, few)) (sym (numbered (n, x)) ∙ ap first_value same ∙ numbered (m, y))),
    later n (m + 1) x ys (omega (arith, below)) (omega (arith, few)),
  )

  pub numbered_apart : (n : ℕ) (xs : List X) → n + length xs < 2 ^ 64 → AreApart (map labels_of (enumerate_from n xs))
  numbered_apart n [] few = tt
  numbered_apart n (x ∷ xs) few = (later n (n + 1) x xs (omega arith) (omega (arith, few)), numbered_apart (n + 1) xs (omega (arith, few)))
