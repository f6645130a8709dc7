use Rattle.std.proofs.Common.{◌≡◌, ◌∙◌, ℕ, zero, suc, sym, ap, subst, Option, None, Some, arith}
use Rattle.std.proofs.Math.Nat.{one-le-pow}
use Rattle.std.proofs.lemmas.Bool.{ne_eqb}
use Rattle.std.specs.Prelude.{◌^◌, ◌<◌, nat_le, Bool, if◌then◌else◌, MatchOption}
use Rattle.decibels.specs.Levels.{IsLevel, greatest, level_of}
use Rattle.decibels.proofs.LevelFound.{level_is_greatest}
use Rattle.decibels.proofs.dbm.Dbm.of.Goals as goal

same : (power : ℕ) (found : Option ℕ) → power < 65536 → MatchOption found (power ≡ 0) (IsLevel power) → found ≡ level_of power
unfolding level_of
same zero None fits is = ap (λ (p : ℕ). level_of p) is
same zero (Some level) fits is = absurd (omega (arith, is.0, one-le-pow level 10 (omega arith)))
same (suc power) None fits is = absurd (omega (arith, is))
same (suc power) (Some level) fits is =
    let found = greatest (λ (hundredths : ℕ). nat_le (10 ^ hundredths) (suc power ^ 1000)) 5000 in
    ap Some (sym (level_is_greatest (suc power) level fits is))
    ∙ ap (λ (none : Bool). if none then None else Some found) (sym (ne_eqb (suc power) 0 (λ e. omega (arith, e))))

pub returns : goal.returns
returns c = same c.args.power c.level.result c.ranges.power.fits c.level.ensures
