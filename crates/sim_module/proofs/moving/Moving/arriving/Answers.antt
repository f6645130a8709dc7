use Rattle.std.proofs.Common.{◌≡◌, ◌+◌, sym, ap, ◌∙◌, arith}
use Rattle.std.specs.FinSet as set
use Rattle.field_tables.specs.LaneSets.{run_of}
use Rattle.sim_module.specs.Ticks.{arrives}
use Rattle.sim_module.specs.Record.{bare}
use Rattle.sim_module.proofs.LanesInTime.{path_after}
use Rattle.sim_module.proofs.LaneTests.{all_those, below, none_yet, not_this, one_more, those}
use Rattle.sim_module.proofs.moving.Moving.arriving.Goals as goal
use Rattle.sim_module.proofs.moving.Moving.arriving.Goals.{then-arrives, else-arrives}

pub loop-place-init : goal.loop-place-init
loop-place-init c = c.empty-lanes.ensures ∙ none_yet (arrives (bare c.args.self.now))

pub arrives-requires : goal.arrives-requires
arrives-requires c =
    rw (c.lane_in-next.ensures, c.requires) (path_after (bare c.args.self.now) c.at-lane.result (omega (arith, c.at-lane.ensures), omega (arith, c.at-lane.ensures)))

pub loop-place-preserved : goal.loop-place-preserved
loop-place-preserved c =
    let test = arrives (bare c.args.self.now) in
    let lane = c.loop-place.place + 1 in
    elim c.if-arrives.branch [
      | then-arrives w ↦
          let run = w.run.ensures ∙ ap (λ n. run_of n 1) (w.number.ensures.same ∙ c.at-lane.ensures) in
          w.lanes-is ∙ w.union-lanes.ensures ∙ (λ i. set.union (c.loop-place.invariant i) (run i))
          ∙ one_more test lane (omega arith) (omega arith) (ap test (sym c.at-lane.ensures) ∙ sym c.arrives.ensures ∙ w.if-arrives.true)
      | else-arrives w ↦
          w.lanes-is ∙ c.loop-place.invariant ∙ not_this test lane (ap test (sym c.at-lane.ensures) ∙ sym c.arrives.ensures ∙ w.if-arrives.false)
    ]

pub returns : goal.returns
returns c =
    let end : c.loop-place.place + 1 ≡ 9 = omega arith in
    c.loop-place.invariant ∙ ap (λ n. those (below (arrives (bare c.args.self.now)) n)) end ∙ all_those (arrives (bare c.args.self.now))
