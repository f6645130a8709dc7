-- What holds of each decision of a list of moves, by the moves, and back.
use Rattle.std.proofs.Common.{◌≡◌, Bool, true, List, [], ◌∷◌, map, filter, cond, sym, subst, inl, inr}
use Rattle.std.specs.List.{AllByRecursion}
use Rattle.std.proofs.lemmas.Bool.{cases_Bool}
use Rattle.plan_certificate.specs.declared.state.State.{State}
use Rattle.plan_certificate.specs.declared.state.Decision.{Decision}
use Rattle.plan_certificate.specs.States.{free_decisions}
use Rattle.plan_certificate.proofs.Lists.{all_of_append, each_of_append, each_of_filter, each_of_map}
use Rattle.plan_certificate.specs.declared.moves.Move.{Move}
use Rattle.plan_certificate.specs.Moves.{is_open, move_decision, move_decisions, decisions_by}

-- the decision of a move, where it is open
abbrev pub WhereOpen : State → (Decision → Type 0) → Move → Type 0
WhereOpen state P move = is_open state move ≡ true → P (move_decision state move)

pub decisions_of_moves : (state : State) (P : Decision → Type 0) (moves : List Move) → AllByRecursion (WhereOpen state P) moves → AllByRecursion P (move_decisions state moves)
decisions_of_moves state P [] each = tt
decisions_of_moves state P (move ∷ moves) each =
    let rest = decisions_of_moves state P moves each.1 in
    let Made : Bool → Type 0 = λ b. AllByRecursion P (map (move_decision state) (cond b (move ∷ filter (is_open state) moves) (filter (is_open state) moves))) in
    elim (cases_Bool (is_open state move)) [
      | inl is ↦ subst Made (sym is) (each.0 is, rest)
      | inr not ↦ subst Made (sym not) rest
    ]

pub record HoldsByMoves (free : Bool) (state : State) (P : Decision → Type 0) (moves : List Move) : Type 0 where
  pub freed : AllByRecursion P (free_decisions free state)
  pub by_moves : AllByRecursion (WhereOpen state P) moves

pub each_of_decisions : (free : Bool) (state : State) (P : Decision → Type 0) (moves : List Move) → AllByRecursion P (decisions_by free state moves) → HoldsByMoves free state P moves
each_of_decisions free state P moves all =
    let parts = each_of_append P (free_decisions free state) (move_decisions state moves) all in
    record {
      freed = parts.0;
      by_moves = each_of_filter (λ (move : Move). P (move_decision state move)) (is_open state) moves (each_of_map P (move_decision state) (filter (is_open state) moves) parts.1);
    }

pub each_by_moves : (free : Bool) (state : State) (P : Decision → Type 0) (moves : List Move) → HoldsByMoves free state P moves → AllByRecursion P (decisions_by free state moves)
each_by_moves free state P moves holds = all_of_append P (free_decisions free state) (move_decisions state moves) holds.freed (decisions_of_moves state P moves holds.by_moves)
