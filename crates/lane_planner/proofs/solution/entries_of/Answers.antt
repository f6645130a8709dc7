use Rattle.std.proofs.Common.{◌++◌, ◌∷◌, [], sym, ap, ◌∙◌, arith}
use Rattle.plan_certificate.specs.EntryPlaces.{Listed}
use Rattle.lane_planner.specs.Tables.{marked_entries}
use Rattle.lane_planner.proofs.ReachedEntries.{one_more}
use Rattle.lane_planner.proofs.solution.entries_of.Goals as goal

pub loop-place-init : goal.loop-place-init
unfolding marked_entries
loop-place-init c = (ap (λ (l : Listed). l.entries) c.new-entries.ensures, omega arith)

pub loop-place-preserved : goal.loop-place-preserved
loop-place-preserved c =
    let added = one_more c.args.marks.now c.args.table.now c.loop-place.from 2304 c.in-Some.place c.in-Some.ensures in
    (ap (λ (l : Listed). l.entries) c.push.ensures ∙ (λ i. c.loop-place.invariant.0 i ++ c.entry_at.ensures.entry i ∷ []) ∙ sym added, omega (arith, c.in-Some.ensures.before))
