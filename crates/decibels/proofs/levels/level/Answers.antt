use Rattle.std.proofs.Common.{◌≡◌, ℕ, ◌-◌, ◌*◌, ◌^◌, ◌≤◌, sym, ap, ◌∙◌, subst, arith}
use Rattle.decibels.specs.Levels.{IsLevel}
use Rattle.decibels.proofs.Powers.{level_scaled}
use Rattle.decibels.proofs.levels.level.Goals as goal
use Rattle.decibels.proofs.levels.level.Goals.{in-1-to-9, in-10-to-99, in-100-to-999, in-1000-to-9999, in_default}

-- a power and the factor that gives it five digits, with the factor's decades
scaled : (power widened decades level : ℕ) (scale : ℕ × ℕ) → decades ≤ 4 → scale ≡ (10 ^ decades, decades) → widened ≡ power → 4000 ≤ level
    → IsLevel (widened * scale.0) level → IsLevel power (level - 1000 * scale.1)
scaled power widened decades level scale few is same above known =
    let factor : widened * scale.0 ≡ power * 10 ^ decades = ap (λ (s : ℕ × ℕ). widened * s.0) is ∙ ap (λ p. p * 10 ^ decades) same in
    let moved : IsLevel (power * 10 ^ decades) level = subst (λ p. IsLevel p level) factor known in
    let down = level_scaled power decades level (omega (arith, few, above)) moved in
    let count : 1000 * decades ≡ 1000 * scale.1 = ap (λ (s : ℕ × ℕ). 1000 * s.1) (sym is) in
    subst (λ n. IsLevel power (level - n)) count down

-- the answer, if the factor is ten to these decades
down : (c : goal.After-level_of_five_digits) (decades : ℕ) → decades ≤ 4 → c.if-power-lt10.scale ≡ (10 ^ decades, decades)
    → IsLevel c.args.power (c.level_of_five_digits.result - 1000 * c.if-power-lt10.scale.1)
down c decades few is =
    let found = c.level_of_five_digits in
    scaled c.args.power c.from.result decades found.result c.if-power-lt10.scale few is c.from.ensures found.ensures.above found.ensures.level

pub returns : goal.returns
returns c = elim c.if-power-lt10.branch [
  | in-1-to-9 w ↦ down c 4 (omega arith) w.scale-is
  | in-10-to-99 w ↦ down c 3 (omega arith) w.scale-is
  | in-100-to-999 w ↦ down c 2 (omega arith) w.scale-is
  | in-1000-to-9999 w ↦ down c 1 (omega arith) w.scale-is
  | in_default w ↦ down c 0 (omega arith) w.scale-is
]
