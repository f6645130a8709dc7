-- The decisions of a list of moves, as the list grows, and those of the heaviest moves.
use Rattle.std.proofs.Common.{◌≡◌, ℕ, ◌+◌, ◌<◌, Bool, true, false, List, [], ◌∷◌, ◌++◌, length, map, filter, take, get_or, cond, refl, sym, subst, ap, ◌∙◌, append_assoc}
use Rattle.std.specs.List.{All, AllByRecursion, Contains}
use Rattle.std.proofs.lemmas.List.{map-append}
use Rattle.std.proofs.lemmas.List.Elements.{All-from_recursion, filter_more, recursion_from_All}
use Rattle.lane_planner.proofs.Words.{Advertised, PathWeights, Path, Move, State, Decision, decisions_from, free_decisions, AreMoves, LeadsOn, is_open, move_decision, decisions_by}
use Rattle.plan_certificate.proofs.HeaviestMoves.{HoldsOfLighter, each_among, each_outweighed, heaviest_lead_on}
use Rattle.plan_certificate.proofs.Lists.{each_contained}
use Rattle.plan_certificate.proofs.MoveDecisions.{listed_are_decisions}

decision_if : (is : Bool) (state : State) (move : Move) → map (move_decision state) (cond is (move ∷ []) []) ≡ cond is (move_decision state move ∷ []) []
decision_if true state move = refl
decision_if false state move = refl

pub decisions_more : (free : Bool) (state : State) (moves : List Move) (k : ℕ) (move : Move) → k < length moves → move ≡ get_or moves k move → decisions_by free state (take (k + 1) moves) ≡ decisions_by free state (take k moves) ++ cond (is_open state move) (move_decision state move ∷ []) []
decisions_more free state moves k move below is =
    let before = filter (is_open state) (take k moves) in
    let decisions = map (move_decision state) before in
    let more : List Move = cond (is_open state move) (move ∷ []) [] in
    let moves_are = filter_more (is_open state) moves k move below ∙ ap (λ (one : Move). before ++ cond (is_open state one) (one ∷ []) []) (sym is) in
    let decisions_are = map-append (move_decision state) before more ∙ ap (λ (ds : List Decision). decisions ++ ds) (decision_if (is_open state move) state move) in
    ap (λ (ms : List Move). free_decisions free state ++ map (move_decision state) ms) moves_are
    ∙ ap (λ (ds : List Decision). free_decisions free state ++ ds) decisions_are
    ∙ sym (append_assoc (free_decisions free state) decisions (cond (is_open state move) (move_decision state move ∷ []) []))

-- ---- the heaviest of the moves at a boundary

pub listed_lead_on : {advert : Advertised} {weights : PathWeights} {kept : List Path} {boundary : ℕ} {free : Bool} {all heaviest : List Move} → AreMoves advert weights kept boundary free all heaviest → (n : ℕ) → boundary ≡ n → All (LeadsOn n) heaviest
listed_lead_on {advert} {weights} {kept} {boundary} {free} {all} {heaviest} are n at = subst (λ (m : ℕ). All (LeadsOn m) heaviest) at (heaviest_lead_on boundary all heaviest are.heavy are.lead_on)

module _ {advert : Advertised} {weights : PathWeights} {kept : List Path} {boundary : ℕ} {free : Bool} {all heaviest : List Move} (state : State) (at : state.boundary ≡ boundary) (below : boundary < 8) (are : AreMoves advert weights kept boundary free all heaviest) where
  -- their decisions are some of those from a state there
  pub heaviest_are : All (Contains (decisions_from advert weights kept state)) (decisions_by free state heaviest)
  heaviest_are =
      let Held : Decision → Type 0 = Contains (decisions_from advert weights kept state) in
      let same = listed_are_decisions advert weights kept state boundary free all heaviest at below are in
      All-from_recursion Held (decisions_by free state heaviest) (each_among free state Held all heaviest are.heavy (subst (AllByRecursion Held) (sym same) (each_contained (decisions_from advert weights kept state))))

  -- and what holds of them, and of lighter ones, holds of all
  pub heaviest_cover : (P : Decision → Type 0) → HoldsOfLighter P → All P (decisions_by free state heaviest) → All P (decisions_from advert weights kept state)
  heaviest_cover P lighter each =
      let same = listed_are_decisions advert weights kept state boundary free all heaviest at below are in
      let of_all = each_outweighed free state P all heaviest lighter are.heavy (recursion_from_All P (decisions_by free state heaviest) each) in
      All-from_recursion P (decisions_from advert weights kept state) (subst (AllByRecursion P) same of_all)
