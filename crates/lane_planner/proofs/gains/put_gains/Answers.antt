use Rattle.std.proofs.Common.{inl, ◌≡◌, ◌∙◌, ℕ, ◌+◌, ◌-◌, ◌*◌, ◌/◌, ◌<◌, List, refl, sym, subst, ap, arith}
use Rattle.lane_planner.proofs.Words.{Move, State, state_at, decisions_by}
use Rattle.lane_planner.specs.Gains.{IsGain}
use Rattle.lane_planner.specs.Tables.{HasGains, most_by}
use Rattle.lane_planner.proofs.MoreMoves.{listed_lead_on}
use Rattle.lane_planner.proofs.ReachedStates.{reached_has_cell}
use Rattle.lane_planner.proofs.TableGains.{gain_is_most, gains_begun, gains_more, gains_of, gains_past}
use Rattle.lane_planner.proofs.gains.put_gains.Goals as goal

pub loop-boundary-init : goal.loop-boundary-init
loop-boundary-init c = rw c.requires.blank (gains_begun 2304 refl)

pub loop-place-init : goal.loop-place-init
loop-place-init c = record {
  gains = gains_of c.loop-boundary.invariant (λ place done is. omega (arith, done, c.from-from.ensures, c.loop-boundary-test.true, c.loop-boundary.auto.boundary));
  at = omega (arith, c.from-from.ensures);
}

pub loop-boundary-preserved : goal.loop-boundary-preserved
loop-boundary-preserved c =
    gains_past c.args.marks.now (c.loop-boundary.boundary - 1) c.loop-place.from c.requires.marks c.loop-place.invariant.gains (λ place past low. c.in_default.ensures place past (omega (arith, low, c.from-from.ensures)))

pub most-gain-requires-clause-lead_on : goal.most-gain-requires-clause-lead_on
most-gain-requires-clause-lead_on c =
    let found = c.in-Some.ensures in
    rw c.as_slice.ensures.value (listed_lead_on c.list.ensures c.at-state.result.boundary (omega (arith, ap (λ (s : State). s.boundary) c.at-state.ensures, c.from-from.ensures, found.after, found.before, c.loop-place.invariant.at)))

pub loop-place-preserved : goal.loop-place-preserved
loop-place-preserved c =
    let table = c.loop-place.table in
    let place : ℕ = c.in-Some.place in
    let found = c.in-Some.ensures in
    let boundary : ℕ = c.loop-boundary.boundary - 1 in
    let at : place / 256 ≡ boundary = omega (arith, found.after, found.before, c.loop-place.invariant.at, c.from-from.ensures) in
    let early : boundary < 8 = omega (arith, c.loop-boundary-test.true, c.loop-boundary.auto.boundary) in
    let later : HasGains c.args.advert.now c.args.weights.now c.args.kept.now (256 * boundary + 256) table = gains_of c.loop-place.invariant.gains (λ other past is. inl past) in
    let Gain : ℕ → Type 0 = IsGain c.args.advert.now c.args.weights.now c.args.kept.now (state_at place) in
    let most_of = λ (s : State) (moves : List Move). most_by table (decisions_by c.list.new.self.may_stay_free s moves) in
    let most = c.most-gain.ensures.most ∙ ap (λ (s : State). most_of s c.as_slice.result.now) c.at-state.ensures ∙ ap (most_of (state_at place)) c.as_slice.ensures.value in
    let is : Gain c.most-gain.result = subst Gain (sym most) (gain_is_most place at early later ((c.requires.marks place).0 found.marked) c.list.ensures) in
    record {
      gains = rw c.put.ensures (gains_more boundary c.requires.marks c.loop-place.invariant.gains found (omega (arith, at, early)) is (omega (arith, c.most-gain.ensures.small, ap (λ (s : State). s.boundary) c.at-state.ensures)));
      at = omega (arith, found.after, c.loop-place.invariant.at);
    }

pub put-requires-clause-place : goal.put-requires-clause-place
put-requires-clause-place c =
    let found = c.in-Some.ensures in
    reached_has_cell c.args.advert.now c.args.weights.now c.args.kept.now c.in-Some.place ((c.requires.marks c.in-Some.place).0 found.marked) (omega (arith, found.before, c.from-from.ensures, c.loop-boundary-test.true, c.loop-boundary.auto.boundary))
