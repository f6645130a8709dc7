-- The plan so far, as the gains are read off from the start upwards.
use Rattle.std.proofs.Common.{◌≡◌, ℕ, ◌+◌, ◌<◌, ◌≤◌, true, List, [], ◌∷◌, ◌++◌, length, sym, subst, inl, inr, arith}
use Rattle.std.specs.List.{All, Contains}
use Rattle.std.proofs.lemmas.Bool.{true_from_ne_false}
use Rattle.std.proofs.lemmas.List.{length-append}
use Rattle.std.proofs.lemmas.List.Elements.{All-contains, All-nil, All-push}
use Rattle.lane_planner.proofs.Words.{Advertised, PathWeights, Path, Move, State, Decision, start, free_decision, path_decision, decisions_from, move_decision, IsReached, may_stay_free, IsAdmissible, IsBest, plan_weight}
use Rattle.plan_certificate.proofs.Heaviest.{allowed}
use Rattle.plan_certificate.proofs.KeptPaths.{eligible_allowed}
use Rattle.lane_planner.specs.FirstBest.{IsFirstBest, IsOfUse}
use Rattle.lane_planner.specs.Tables.{HasGains, IsPlanOf, IsReadOff, gain_at}
use Rattle.lane_planner.proofs.AheadPlans.{AgreesOrLater, ahead_at_start, ahead_bounded, agrees_at_end, agrees_free, agrees_path, still_before}
use Rattle.lane_planner.proofs.ChosenPaths.{IsChosen}
use Rattle.lane_planner.proofs.DecisionKinds.{listed_decisions}
use Rattle.lane_planner.proofs.GainLaws.{KnowsGains, NoneKeeps, covers_decision, had_after_free}
use Rattle.lane_planner.proofs.KeptLanes.{lane_within, one_has}
use Rattle.lane_planner.proofs.LaterPaths.{Grown, Stands, grown_free, grown_from_start, grown_path, weight_more, all_taken}
use Rattle.lane_planner.proofs.ReachedStates.{reached_on, start_reached}
use Rattle.lane_planner.proofs.TableGains.{gain_in, small_in}

-- the paths are a plan so far, and weigh what the state's gain leaves of the start's; no other plan of that gain comes before them
pub record IsSoFar (advert : Advertised) (weights : PathWeights) (kept : List Path) (table : List ℕ) (state : State) (paths : List Path) : Type 0 where
  pub reached : IsReached advert weights kept state
  pub grown : Grown advert kept state paths
  pub few : length paths ≤ state.boundary
  pub of_use : All (IsOfUse weights kept) paths
  pub weighs : plan_weight weights paths + gain_at table state ≡ gain_at table start
  pub first : (others : List Path) → IsPlanOf advert weights kept (gain_at table start) others → AgreesOrLater advert weights kept state paths others

pub begun : (advert : Advertised) (weights : PathWeights) (kept : List Path) (table : List ℕ) → IsAdmissible advert kept → IsSoFar advert weights kept table start []
begun advert weights kept table plan = record {
  reached = start_reached advert weights kept;
  grown = grown_from_start advert kept plan;
  few = omega arith;
  of_use = All-nil (IsOfUse weights kept);
  weighs = omega arith;
  first = λ others plan. inl (record { ahead = ahead_at_start advert weights kept others plan.admissible plan.keeps; taken = All-nil (Contains others) });
}

-- ---- one decision further

pub gains_known : (advert : Advertised) (weights : PathWeights) (kept : List Path) (table : List ℕ) (state : State) → HasGains advert weights kept 0 table → IsReached advert weights kept state → state.boundary < 8 → KnowsGains advert weights kept (gain_at table) state
gains_known advert weights kept table state has is below = record {
  below = below;
  here = gain_in advert weights kept 0 table state has is (omega arith);
  after = λ decision contains. gain_in advert weights kept 0 table decision.end has (reached_on advert weights kept state decision is contains) (omega arith);
}

module _ {advert : Advertised} {weights : PathWeights} {kept : List Path} {table : List ℕ} {state : State} {paths : List Path} (has : HasGains advert weights kept 0 table) (is : IsSoFar advert weights kept table state paths) where
  -- where no path keeps the gain, the lane may stay free, since a kept path that begins there would keep a gain of 0; and then the
  -- gain can be had
  free_lane : KnowsGains advert weights kept (gain_at table) state → NoneKeeps advert weights kept (gain_at table) state → (may_stay_free advert kept (state.boundary + 1) ≡ true) × (gain_at table (free_decision state).end ≡ gain_at table state)
  free_lane gains none =
      let gain : State → ℕ = gain_at table in
      let lane : ℕ = state.boundary + 1 in
      let listed = listed_decisions advert weights kept state gains.below in
      let covers = λ (decision : Decision) (held : Contains (decisions_from advert weights kept state) decision). covers_decision advert weights kept state (gain state) (gain decision.end) decision gains.here (gains.after decision held) held in
      let had = had_after_free advert weights kept gain state gains none in
      let may : may_stay_free advert kept lane ≡ true = elim (had) [
        | inr after ↦ after.0
        | inl nothing ↦ true_from_ne_false (may_stay_free advert kept lane) (λ not_free.
            let one = one_has advert kept lane not_free in
            let within = lane_within advert one.path lane one.has in
            elim (is.grown.keeps one.path one.held) [
              | inl taken ↦ omega (arith, within.to, (All-contains (Stands advert state) paths one.path is.grown.stand taken).before)
              | inr later ↦
                  let begins : one.path.host ≡ lane = omega (arith, later.past, within.from) in
                  let after = covers (path_decision advert weights state one.path) (listed.1 one.path begins later.can later.unused) in
                  none one.path (record { begins = begins; can = later.can; unused = later.unused; of_use = inr one.held; leaves = omega (arith, nothing, after) })
            ])
      ] in
      let free = covers (free_decision state) (listed.0 may) in (
        may,
        elim (had) [
          | inl nothing ↦ omega (arith, free, nothing)
          | inr after ↦ omega (arith, free, after.1)
        ],
      )

  pub free_more : state.boundary < 8 → NoneKeeps advert weights kept (gain_at table) state → IsSoFar advert weights kept table (free_decision state).end paths
  free_more below none =
      let gains = gains_known advert weights kept table state has is.reached below in
      let lane = free_lane gains none in
      record {
        reached = reached_on advert weights kept state (free_decision state) is.reached ((listed_decisions advert weights kept state below).0 lane.0);
        grown = grown_free advert kept state paths is.grown below lane.0;
        few = omega (arith, is.few);
        of_use = is.of_use;
        weighs = omega (arith, is.weighs, lane.1);
        first = λ others plan. elim (is.first others plan) [
          | inl agrees ↦ inl (agrees_free advert weights kept table state paths others gains is.grown.stand (rw is.weighs plan) none agrees)
          | inr ahead ↦ inr ahead
        ];
      }

  pub path_more : IsAdmissible advert kept → state.boundary < 8 → (move : Move) → IsChosen advert weights kept table state move → IsSoFar advert weights kept table (move_decision state move).end (paths ++ move.path ∷ [])
  path_more plan below move chosen =
      let path : Path = move.path in
      let keeps = chosen.keeps in
      let gains = gains_known advert weights kept table state has is.reached below in
      let lanes = allowed advert path (eligible_allowed advert kept path keeps.can) in
      subst (λ (s : State). IsSoFar advert weights kept table s (paths ++ path ∷ [])) (sym chosen.end) (record {
        reached = reached_on advert weights kept state (path_decision advert weights state path) is.reached ((listed_decisions advert weights kept state below).1 path keeps.begins keeps.can keeps.unused);
        grown = grown_path advert weights kept state paths path plan is.grown keeps.begins keeps.can keeps.unused;
        few = omega (arith, is.few, lanes.host_some, length-append paths (path ∷ []));
        of_use = All-push (IsOfUse weights kept) paths path is.of_use keeps.of_use;
        weighs = omega (arith, is.weighs, keeps.leaves, weight_more advert weights paths path);
        first = λ others other_plan. elim (is.first others other_plan) [
          | inl agrees ↦ agrees_path advert weights kept table state paths others gains is.grown.stand (rw is.weighs other_plan) path keeps.begins chosen.lowest agrees
          | inr ahead ↦ inr (still_before advert state paths others path is.grown.stand keeps.begins ahead)
        ];
      })

  -- at the end
  pub read_off : 8 ≤ state.boundary → IsReadOff advert weights kept table paths
  read_off ended =
      let nothing_left : gain_at table state ≡ 0 = omega (arith, small_in table state has.numbers, ended) in
      record {
        plan = record {
          admissible = record { allowed = λ k d inside. (is.grown.stand k d inside).can; apart = λ i j d before inside. (is.grown.ordered i j d before inside).apart };
          weighs = omega (arith, is.weighs, nothing_left);
          keeps = all_taken advert kept state paths ended is.grown.keeps;
          of_use = is.of_use;
        };
        rising = λ i j d before inside. (is.grown.ordered i j d before inside).rises;
        first = λ others plan. agrees_at_end advert weights kept state paths others ended (is.first others plan);
      }

-- it is the first best plan
pub read_off_is_first : (advert : Advertised) (weights : PathWeights) (kept : List Path) (table : List ℕ) (paths : List Path) → HasGains advert weights kept 0 table → IsReadOff advert weights kept table paths → IsFirstBest advert weights kept paths
read_off_is_first advert weights kept table paths has off =
    let gain = gain_in advert weights kept 0 table start has (start_reached advert weights kept) (omega arith) in
    let best : IsBest advert weights kept paths = record {
      admissible = off.plan.admissible;
      keeps = off.plan.keeps;
      heaviest = λ others plan keeps. omega (arith, off.plan.weighs, ahead_bounded advert weights kept start [] others (gain_at table start) gain.greatest (ahead_at_start advert weights kept others plan keeps));
    } in
    record {
      candidate = record { best = best; of_use = off.plan.of_use };
      first = λ others other.
          let upper = best.heaviest others other.best.admissible other.best.keeps in
          let lower = other.best.heaviest paths best.admissible best.keeps in
          off.first others (record { admissible = other.best.admissible; keeps = other.best.keeps; weighs = omega (arith, upper, lower, off.plan.weighs); of_use = other.of_use });
    }
