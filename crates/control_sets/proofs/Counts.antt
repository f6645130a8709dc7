-- How many numbers of a row pass a test.
use Rattle.std.proofs.Common.{◌≡◌, ℕ, zero, suc, ◌+◌, ◌-◌, ◌<◌, ◌≤◌, ◌&&◌, Bool, true, false, cond, List, [], ◌∷◌, count_by, get_or, length, map, filter, Contains, AllPairs, refl, sym, subst, ap, ◌∙◌, inl, inr, zero-add, min, max, nat_le, nat_lt, arith}
use Rattle.std.proofs.lemmas.Bool.{cases_Bool, cases_lt, false_from_ne_true, le-ltb, lt-ltb}
use Rattle.std.proofs.lemmas.Bool.Decides.{nat_tests}
use Rattle.std.proofs.lemmas.List.{get_or-map}
use Rattle.std.proofs.lemmas.List.Sums.{sum_by-cons}
use Rattle.std.proofs.lemmas.List.FromFn.{get_or-range_with_len, length-range_with_len}
use Rattle.std.proofs.Math.ListN.{length-map}
use Rattle.std.specs.List.{range_with_len}

counted_first : (p : ℕ → Bool) (k : ℕ) (ks : List ℕ) → count_by p (k ∷ ks) ≡ cond (p k) 1 0 + count_by p ks
counted_first p k ks = sum_by-cons (λ x. cond (p x) 1 0) k ks

-- tests that answer alike count alike
pub count_alike : (p q : ℕ → Bool) (a n : ℕ) → ((k : ℕ) → a ≤ k → k < a + n → p k ≡ q k) → count_by p (range_with_len a n) ≡ count_by q (range_with_len a n)
count_alike p q a zero alike = refl
count_alike p q a (suc n) alike =
    let later = count_alike p q (a + 1) n (λ k from to. alike k (omega (arith, from)) (omega (arith, to))) in
    let here = alike a (omega arith) (omega arith) in
    counted_first p a (range_with_len (a + 1) n) ∙ (λ i. cond (here i) 1 0 + later i) ∙ sym (counted_first q a (range_with_len (a + 1) n))

abbrev within : ℕ → ℕ → ℕ → Bool
within low high k = nat_le low k && nat_lt k high

count_more : (low high a n : ℕ) → low ≤ high → cond (within low high a) 1 0 + (min high (a + 1 + n) - max low (a + 1)) ≡ min high (a + suc n) - max low a
count_more low high a n order = grind (arith, nat_tests)

-- the numbers of a row that are from one number up to another
pub count_within : (low high a n : ℕ) → low ≤ high → count_by (within low high) (range_with_len a n) ≡ min high (a + n) - max low a
count_within low high a zero order = omega arith
count_within low high a (suc n) order =
    counted_first (within low high) a (range_with_len (a + 1) n)
    ∙ ap (λ (count : ℕ). cond (within low high a) 1 0 + count) (count_within low high (a + 1) n order)
    ∙ count_more low high a n order

count_none : (p : ℕ → Bool) (a n : ℕ) → ((k : ℕ) → a ≤ k → k < a + n → p k ≡ false) → count_by p (range_with_len a n) ≡ 0
count_none p a zero fails = refl
count_none p a (suc n) fails =
    counted_first p a (range_with_len (a + 1) n)
    ∙ (λ i. cond (fails a (omega arith) (omega arith) i) 1 0 + count_none p (a + 1) n (λ k from to. fails k (omega (arith, from)) (omega (arith, to))) i)

-- numbers at the front that fail don't count
pub count_later : (p : ℕ → Bool) (a n first : ℕ) → a ≤ first → first ≤ a + n → ((k : ℕ) → a ≤ k → k < first → p k ≡ false) →
    count_by p (range_with_len a n) ≡ count_by p (range_with_len first (a + n - first))
count_later p a zero first from to fails =
    let none : 0 ≡ a + 0 - first = omega (arith, from) in
    ap (λ (n : ℕ). count_by p (range_with_len first n)) none
count_later p a (suc n) first from to fails =
    elim (cases_lt a first) [
      | inl before ↦
          let rest = range_with_len (a + 1) n in
          let left : a + 1 + n - first ≡ a + suc n - first = omega arith in
          counted_first p a rest
          ∙ ap (λ (b : Bool). cond b 1 0 + count_by p rest) (fails a (omega arith) before)
          ∙ zero-add (count_by p rest)
          ∙ count_later p (a + 1) n first (omega (arith, before)) (omega (arith, to)) (λ k above below. fails k (omega (arith, above)) below)
          ∙ ap (λ (m : ℕ). count_by p (range_with_len first m)) left
      | inr here ↦
          let same : a ≡ first = omega (arith, here, from) in
          let left : suc n ≡ a + suc n - first = omega (arith, same) in
          (λ i. count_by p (range_with_len (same i) (left i)))
    ]

-- where those that pass are the front of a row, they are so many as are counted
pub front_counted : (p : ℕ → Bool) (a n : ℕ) → ((j k : ℕ) → a ≤ j → j ≤ k → k < a + n → p k ≡ true → p j ≡ true) → (k : ℕ) → a ≤ k → k < a + n →
    p k ≡ nat_lt k (a + count_by p (range_with_len a n))
front_counted p a zero closed k from to = absurd (omega (arith, from, to))
front_counted p a (suc n) closed k from to =
    let rest = range_with_len (a + 1) n in
    elim (cases_Bool (p a)) [
      | inl passes ↦
          let count : count_by p (a ∷ rest) ≡ 1 + count_by p rest = counted_first p a rest ∙ ap (λ (b : Bool). cond b 1 0 + count_by p rest) passes in
          elim (cases_lt a k) [
            | inl after ↦
                let more : a + 1 + count_by p rest ≡ a + count_by p (a ∷ rest) = omega (arith, count) in
                front_counted p (a + 1) n (λ j m above order below. closed j m (omega (arith, above)) order (omega (arith, below))) k (omega (arith, after)) (omega (arith, to)) ∙ ap (nat_lt k) more
            | inr here ↦
                let same : k ≡ a = omega (arith, here, from) in
                ap p same ∙ passes ∙ sym (lt-ltb k (a + count_by p (a ∷ rest)) (omega (arith, same, count)))
          ]
      | inr fails ↦
          let none : (m : ℕ) → a ≤ m → m < a + suc n → p m ≡ false = λ m above below. false_from_ne_true (p m) (λ yes. let no = sym fails ∙ closed a m (omega arith) above below yes in cc) in
          none k from to ∙ sym (le-ltb k (a + count_by p (a ∷ rest)) (omega (arith, count_none p a (suc n) none, from)))
    ]

-- an element that passes is kept
pub kept : {X : Type 0} (p : X → Bool) (xs : List X) (k : ℕ) (d : X) → k < length xs → p (get_or xs k d) ≡ true → Contains (filter p xs) (get_or xs k d)
kept p [] k d below passes = absurd (omega (arith, below))
kept {X} p (y ∷ ys) k d below passes =
    let Keeps : X → Bool → Type 0 = λ x b. Contains (cond b (y ∷ filter p ys) (filter p ys)) x in
    elim k as (λ (k : ℕ). k < suc (length ys) → p (get_or (y ∷ ys) k d) ≡ true → Keeps (get_or (y ∷ ys) k d) (p y)) [
      | zero ↦ λ _ passes. subst (Keeps y) (sym passes) (0, omega arith, refl)
      | suc k ↦ λ (below : suc k < suc (length ys)) (passes : p (get_or ys k d) ≡ true).
          let later = kept p ys k d (omega (arith, below)) passes in
          elim (cases_Bool (p y)) [
            | inl one ↦ subst (Keeps (get_or ys k d)) (sym one) (suc later.0, omega (arith, later.1), later.2)
            | inr none ↦ subst (Keeps (get_or ys k d)) (sym none) later
          ]
    ] below passes

pub mapped : {X Y : Type 0} (f : X → Y) (xs : List X) (x : X) → Contains xs x → Contains (map f xs) (f x)
mapped f xs x (k, below, here) = (k, omega (arith, below, length-map xs f), get_or-map f xs k x (f x) below ∙ ap f here)

-- what is made of elements in order is in order
pub pairs_mapped : {Y : Type 0} (R : Y → Y → Type 0) (f : ℕ → Y) (xs : List ℕ) → AllPairs (λ x y. R (f x) (f y)) xs → AllPairs R (map f xs)
pairs_mapped {Y} R f xs pairs i j d before below =
    let j_below : j < length xs = omega (arith, below, length-map xs f) in
    let at_i = get_or-map f xs i 0 d (omega (arith, before, j_below)) in
    let at_j = get_or-map f xs j 0 d j_below in
    subst (λ (y : Y). R y (get_or (map f xs) j d)) (sym at_i) (subst (λ (y : Y). R (f (get_or xs i 0)) y) (sym at_j) (pairs i j 0 before j_below))

-- a row rises
pub row_rises : (a n : ℕ) → AllPairs (λ k later. k < later) (range_with_len a n)
row_rises a n i j d before below =
    let j_below : j < n = omega (arith, below, length-range_with_len a n) in
    omega (arith, before, get_or-range_with_len a n i d (omega (arith, before, j_below)), get_or-range_with_len a n j d j_below)
