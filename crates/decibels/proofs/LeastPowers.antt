-- Each threshold is the least power of its level: a computed test of the table, in pieces of a decibel, and what it says.
use Rattle.std.proofs.Common.{◌≡◌, ◌∙◌, refl, ap, take, drop, length, get_or, zero, suc, false, inl, inr, arith}
use Rattle.std.specs.Prelude.{ℕ, ◌+◌, ◌-◌, ◌^◌, ◌≤◌, ◌<◌, nat_le, nat_lt, ◌&&◌, Bool, List, [], ◌∷◌, true}
use Rattle.std.specs.List.{AllWithin}
use Rattle.std.specs.List.Sorted.{IsNonDecreasingBy}
use Rattle.std.proofs.Math.Nat.{pow-le-pow_left, pow-le-pow_right, pow-lt-pow_left}
use Rattle.std.proofs.lemmas.Bool.{and_parts, cases_lt, leb-true, leb-false, ltb-true}
use Rattle.decibels.specs.Levels.{IsLevel}
use Rattle.decibels.proofs.Powers.{level_between}
use Rattle.decibels.specs.declared.thresholds.TheConstants.{THRESHOLDS}

-- the power reaches the level, and the power before it does not
abbrev is_threshold : ℕ → ℕ → Bool
is_threshold level power = nat_le (10 ^ level) (power ^ 1000) && nat_lt ((power - 1) ^ 1000) (10 ^ level)

-- each of the list is the threshold of its level, the first of this one
are_thresholds : ℕ → List ℕ → Bool
are_thresholds level [] = true
are_thresholds level (power ∷ powers) = is_threshold level power && are_thresholds (level + 1) powers

first : are_thresholds 4000 (take 100 THRESHOLDS.now) ≡ true
unfolding are_thresholds
first = refl

second : are_thresholds 4100 (take 100 (drop 100 THRESHOLDS.now)) ≡ true
unfolding are_thresholds
second = refl

third : are_thresholds 4200 (take 100 (drop 200 THRESHOLDS.now)) ≡ true
unfolding are_thresholds
third = refl

fourth : are_thresholds 4300 (take 100 (drop 300 THRESHOLDS.now)) ≡ true
unfolding are_thresholds
fourth = refl

fifth : are_thresholds 4400 (take 100 (drop 400 THRESHOLDS.now)) ≡ true
unfolding are_thresholds
fifth = refl

sixth : are_thresholds 4500 (take 100 (drop 500 THRESHOLDS.now)) ≡ true
unfolding are_thresholds
sixth = refl

seventh : are_thresholds 4600 (take 100 (drop 600 THRESHOLDS.now)) ≡ true
unfolding are_thresholds
seventh = refl

eighth : are_thresholds 4700 (take 100 (drop 700 THRESHOLDS.now)) ≡ true
unfolding are_thresholds
eighth = refl

ninth : are_thresholds 4800 (take 100 (drop 800 THRESHOLDS.now)) ≡ true
unfolding are_thresholds
ninth = refl

tenth : are_thresholds 4900 (take 100 (drop 900 THRESHOLDS.now)) ≡ true
unfolding are_thresholds
tenth = refl

-- two parts of a list make the whole
joined : (n level : ℕ) (powers : List ℕ) → are_thresholds level (take n powers) ≡ true → are_thresholds (level + n) (drop n powers) ≡ true → are_thresholds level powers ≡ true
unfolding are_thresholds
joined n level [] front back = refl
joined zero level (power ∷ powers) front back = ap (λ l. are_thresholds l (power ∷ powers)) (let e : level ≡ level + 0 = omega arith in e) ∙ back
joined (suc n) level (power ∷ powers) front back =
    let parts = and_parts (is_threshold level power) _ front in
    let later = joined n (level + 1) powers parts.1 (ap (λ l. are_thresholds l (drop n powers)) (let e : level + 1 + n ≡ level + suc n = omega arith in e) ∙ back) in
    ap (λ b. b && are_thresholds (level + 1) powers) parts.0 ∙ later

table_holds : are_thresholds 4000 THRESHOLDS.now ≡ true
table_holds =
    joined 100 4000 THRESHOLDS.now first (
    joined 100 4100 (drop 100 THRESHOLDS.now) second (
    joined 100 4200 (drop 200 THRESHOLDS.now) third (
    joined 100 4300 (drop 300 THRESHOLDS.now) fourth (
    joined 100 4400 (drop 400 THRESHOLDS.now) fifth (
    joined 100 4500 (drop 500 THRESHOLDS.now) sixth (
    joined 100 4600 (drop 600 THRESHOLDS.now) seventh (
    joined 100 4700 (drop 700 THRESHOLDS.now) eighth (
    joined 100 4800 (drop 800 THRESHOLDS.now) ninth tenth))))))))

-- what the test says of one of them
each_holds : (level : ℕ) (powers : List ℕ) (i d : ℕ) → are_thresholds level powers ≡ true → i < length powers → is_threshold (level + i) (get_or powers i d) ≡ true
unfolding are_thresholds
each_holds level [] i d tested below = absurd (omega (arith, below))
each_holds level (power ∷ powers) zero d tested below =
    let parts = and_parts (is_threshold level power) _ tested in
    ap (λ l. is_threshold l power) (let e : level + 0 ≡ level = omega arith in e) ∙ parts.0
each_holds level (power ∷ powers) (suc i) d tested below =
    let parts = and_parts (is_threshold level power) _ tested in
    ap (λ l. is_threshold l (get_or powers i d)) (let e : level + suc i ≡ level + 1 + i = omega arith in e) ∙ each_holds (level + 1) powers i d parts.1 (omega arith)

-- a threshold reaches its level, and the power before it does not
facts : (i d : ℕ) → i < 1000
    → (10 ^ (4000 + i) ≤ get_or THRESHOLDS.now i d ^ 1000) × ((get_or THRESHOLDS.now i d - 1) ^ 1000 < 10 ^ (4000 + i))
facts i d below =
    let threshold = get_or THRESHOLDS.now i d in
    let reached = 10 ^ (4000 + i) in
    let parts = and_parts (nat_le reached (threshold ^ 1000)) (nat_lt ((threshold - 1) ^ 1000) reached) (each_holds 4000 THRESHOLDS.now i d table_holds below) in
    (leb-true reached (threshold ^ 1000) parts.0, ltb-true ((threshold - 1) ^ 1000) reached parts.1)

-- a power below a threshold does not reach its level
below_threshold : (i d power : ℕ) → i < 1000 → power < get_or THRESHOLDS.now i d → power ^ 1000 < 10 ^ (4000 + i)
below_threshold i d power below less =
    let before : power ≤ get_or THRESHOLDS.now i d - 1 = omega (arith, less) in
    let low : power ^ 1000 ≤ (get_or THRESHOLDS.now i d - 1) ^ 1000 = pow-le-pow_left before 1000 in
    omega (arith, low, (facts i d below).1)

-- the table rises
pub table_rises : IsNonDecreasingBy (λ x. x) THRESHOLDS.now
table_rises i j d up below =
    elim (cases_lt (get_or THRESHOLDS.now j d) (get_or THRESHOLDS.now i d)) [
      | inl less ↦
          let high = below_threshold i d (get_or THRESHOLDS.now j d) (omega (arith, up, below)) less in
          let low = (facts j d below).0 in
          let more : 10 ^ (4000 + i) ≤ 10 ^ (4000 + j) = pow-le-pow_right (omega arith) (omega (arith, up)) in
          absurd (omega (arith, high, low, more))
      | inr fine ↦ fine
    ]

-- the level of a power of five digits, of which the thresholds up to `reached` are reached and the others are not
pub level_at : (power reached : ℕ) → 10 ^ 4 ≤ power → power < 10 ^ 5 → reached ≤ 1000
    → AllWithin (λ y. nat_le y power ≡ true) THRESHOLDS.now 0 reached → AllWithin (λ y. nat_le y power ≡ false) THRESHOLDS.now reached 1000
    → (1 ≤ reached) × IsLevel power (3999 + reached)
level_at power reached low high within fronts backs =
    let some : 1 ≤ reached =
    elim (cases_lt 0 reached) [
      | inl more ↦ more
      | inr none ↦ absurd (let early = leb-false _ _ (backs 0 0 none (omega arith)) in omega (arith, early, low))
    ]
    in
    let last = leb-true _ _ (fronts (reached - 1) 0 (omega arith) (omega (arith, some))) in
    let reach = (facts (reached - 1) 0 (omega (arith, some, within))).0 in
    let grows = pow-le-pow_left last 1000 in
    let same : 4000 + (reached - 1) ≡ 3999 + reached = omega (arith, some) in
    let up : power ^ 1000 < 10 ^ (3999 + reached + 1) =
    elim (cases_lt reached 1000) [
      | inl more ↦
          let here = below_threshold reached 0 power more (leb-false _ _ (backs reached 0 (omega arith) more)) in
          let next : 4000 + reached ≡ 3999 + reached + 1 = omega arith in
          omega (arith, here, ap (λ k. 10 ^ k) next)
      | inr none ↦
          let high : power ^ 1000 < 10 ^ 5000 = pow-lt-pow_left high (λ e. omega (arith, e)) in
          let all : 5000 ≡ 3999 + reached + 1 = omega (arith, none, within) in
          omega (arith, high, ap (λ k. 10 ^ k) all)
    ]
    in
    (some, level_between power (3999 + reached) (omega (arith, reach, grows, ap (λ k. 10 ^ k) same)) up)
