-- Numbers that are kept in two parts, in cells that some places have.
use Rattle.std.proofs.Common.{◌≡◌, ℕ, zero, suc, ◌+◌, ◌-◌, ◌*◌, ◌<◌, true, List, replicate, set, get_or, refl, sym, ◌∙◌, inl, inr, arith, get_or-set_other}
use Rattle.std.proofs.Math.ListN.{length-replicate, length-set}
use Rattle.std.proofs.lemmas.Bool.{cases_Bool, cases_eq}
use Rattle.std.proofs.lemmas.Bool.Decides.{nat_tests}
use Rattle.std.proofs.lemmas.Grind.{get_or-set_at}
use Rattle.std.proofs.lemmas.List.Elements.{All-replicate, All-set}
use Rattle.std.proofs.lemmas.List.FromFn.{fill_by_all, get_or-map-range_with_len, length-map-range_with_len}
use Rattle.lane_planner.specs.Tables.{AreParts, has_cell, number_at, numbers_of}

pub get_of_same : {X : Type 0} (n i : ℕ) (x : X) → get_or (replicate n x) i x ≡ x
get_of_same zero i x = refl
get_of_same (suc n) zero x = refl
get_of_same (suc n) (suc i) x = get_of_same n i x

pub number_is : (lows highs : List ℕ) (place : ℕ) → place < 2304 → get_or (numbers_of lows highs) place 0 ≡ number_at lows highs place
unfolding numbers_of
number_is lows highs place below = get_or-map-range_with_len (number_at lows highs) 0 2304 place place 0 below (omega arith)

pub cell_set : (lows highs : List ℕ) (place low high : ℕ) → AreParts lows highs → has_cell place ≡ true → (cell : ℕ) → cell ≡ place - 255 → numbers_of (set lows cell low) (set highs cell high) ≡ set (numbers_of lows highs) place (low + 4294967296 * high)
unfolding numbers_of
cell_set lows highs place low high are has cell is =
    let new_lows : List ℕ = set lows cell low in
    let new_highs : List ℕ = set highs cell high in
    let before : List ℕ = numbers_of lows highs in
    let number : ℕ = low + 4294967296 * high in
    let below : place < 2048 = grind (arith, nat_tests, has) in
    let long = length-map-range_with_len (number_at lows highs) 0 2304 in
    sym (fill_by_all (number_at new_lows new_highs) (set before place number) 2304 0 (length-set before place number ∙ long) (λ other inside. elim (cases_eq other place) [
      | inl same ↦
          let of_low = get_or-set_at lows cell (place - 255) low 0 (sym is) (omega (arith, below, is, are.low)) in
          let of_high = get_or-set_at highs cell (place - 255) high 0 (sym is) (omega (arith, below, is, are.high)) in
          rw (get_or-set_at before place other number 0 same (omega (arith, below, long)), same, has, of_low, of_high) refl
      | inr differs ↦
          let kept : number_at lows highs other ≡ number_at new_lows new_highs other = elim (cases_Bool (has_cell other)) [
            | inl also ↦
                let apart : other - 255 ≡ cell → ⊥ = λ same. differs (grind (arith, nat_tests, has, also, same, is)) in
                rw (also, get_or-set_other lows cell (other - 255) low 0 apart, get_or-set_other highs cell (other - 255) high 0 apart) refl
            | inr none ↦ rw none refl
          ] in
          get_or-set_other before place other number 0 differs ∙ number_is lows highs other inside ∙ kept
    ]))

pub numbers_blank : (cells states : ℕ) → states ≡ 2304 → numbers_of (replicate cells 0) (replicate cells 0) ≡ replicate states 0
unfolding numbers_of
numbers_blank cells states all =
    sym (fill_by_all (number_at (replicate cells 0) (replicate cells 0)) (replicate states 0) 2304 0 (length-replicate states 0 ∙ all) (λ place below.
    rw (get_of_same {X = ℕ} states place 0, get_of_same {X = ℕ} cells (place - 255) 0) (elim (cases_Bool (has_cell place)) [
      | inl has ↦ rw has refl
      | inr none ↦ rw none refl
    ])))

pub parts_set : (lows highs : List ℕ) (cell low high : ℕ) → AreParts lows highs → high < 254 → AreParts (set lows cell low) (set highs cell high)
parts_set lows highs cell low high are small = record {
  low = length-set lows cell low ∙ are.low;
  high = length-set highs cell high ∙ are.high;
  small = All-set (λ (n : ℕ). n < 254) highs cell high small are.small;
}

pub parts_blank : (cells : ℕ) → cells ≡ 1793 → AreParts (replicate cells 0) (replicate cells 0)
parts_blank cells all = record {
  low = length-replicate {A = ℕ} cells 0 ∙ all;
  high = length-replicate {A = ℕ} cells 0 ∙ all;
  small = All-replicate (λ (n : ℕ). n < 254) cells 0 (omega arith);
}
