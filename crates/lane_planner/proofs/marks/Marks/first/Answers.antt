use Rattle.std.proofs.Common.{ℕ, sym, subst, ◌∙◌, inl, inr, arith}
use Rattle.std.proofs.lemmas.Bool.{both_ways, cases_eq, cases_lt}
use Rattle.lane_planner.specs.Marks.{IsMarked}
use Rattle.lane_planner.proofs.marks.Marks.first.Goals as goal

pub loop-place-preserved : goal.loop-place-preserved
loop-place-preserved c =
    let place : ℕ = c.loop-place.place in
    let before = c.loop-place.invariant in
    record {
      after = omega (arith, before.after, c.next-place.ensures.later);
      none = λ other past low marked. elim (cases_lt other place) [
        | inl early ↦ before.none other past early marked
        | inr late ↦ elim (cases_eq other place) [
          | inl same ↦ both_ways _ (sym c.has.ensures ∙ c.if-has.false) (subst (IsMarked c.args.self.now) same marked)
          | inr differs ↦ c.next-place.ensures.none other (omega (arith, late, differs)) low marked
        ]
      ];
    }
