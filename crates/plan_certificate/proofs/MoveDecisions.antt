-- The decisions from a state are the free lane's and those of the moves at the next host lane that are open there.
use Rattle.std.proofs.Common.{◌≡◌, ℕ, ◌+◌, ◌<◌, ◌≤◌, ◌&&◌, Bool, true, false, List, [], ◌∷◌, ◌++◌, map, filter, cond, nat_lt, refl, sym, ap, ◌∙◌, inl, inr, arith}
use Rattle.std.proofs.lemmas.Bool.{cases_Bool}
use Rattle.std.proofs.lemmas.Bool.Decides.{nat_tests}
use Rattle.applications.specs.Advertised.{Advertised}
use Rattle.applications.specs.AppWeights.{PathWeights}
use Rattle.plan_certificate.specs.declared.path.Path.{Path}
use Rattle.plan_certificate.specs.declared.state.State.{State}
use Rattle.plan_certificate.specs.declared.state.Decision.{Decision}
use Rattle.plan_certificate.specs.KeptPaths.{is_eligible, may_stay_free}
use Rattle.plan_certificate.specs.States.{fits, free_decisions, path_decision, path_decisions, paths_at, decisions_from}
use Rattle.plan_certificate.specs.declared.moves.Move.{Move}
use Rattle.plan_certificate.specs.Moves.{AreMoves, is_open, move_of, move_decision, move_decisions, moves_at, moves_of, decisions_by}

of_paths : (advert : Advertised) (weights : PathWeights) (kept : List Path) (state : State) (paths : List Path) → path_decisions advert weights kept state paths ≡ move_decisions state (map (move_of advert weights) (filter (is_eligible advert kept) paths))
unfolding path_decisions
of_paths advert weights kept state [] = refl
of_paths advert weights kept state (path ∷ paths) =
    let rest = of_paths advert weights kept state paths in
    let unused : Bool = is_open state (move_of advert weights path) in
    let Left : Bool → List Decision = λ b. map (path_decision advert weights state) (cond (b && unused) (path ∷ filter (fits advert kept state) paths) (filter (fits advert kept state) paths)) in
    let Right : Bool → List Decision = λ b. move_decisions state (map (move_of advert weights) (cond b (path ∷ filter (is_eligible advert kept) paths) (filter (is_eligible advert kept) paths))) in
    elim (cases_Bool (is_eligible advert kept path)) [
      | inr barred ↦ ap Left barred ∙ rest ∙ ap Right (sym barred)
      | inl can ↦
          let moves : List Move = map (move_of advert weights) (filter (is_eligible advert kept) paths) in
          let One : Bool → List Decision = λ b. map (path_decision advert weights state) (cond b (path ∷ filter (fits advert kept state) paths) (filter (fits advert kept state) paths)) in
          let Other : Bool → List Decision = λ b. map (move_decision state) (cond b (move_of advert weights path ∷ filter (is_open state) moves) (filter (is_open state) moves)) in
          let middle : One unused ≡ Other unused = elim (cases_Bool unused) [
            | inl is ↦ ap One is ∙ ap (λ (decisions : List Decision). path_decision advert weights state path ∷ decisions) rest ∙ ap Other (sym is)
            | inr not ↦ ap One not ∙ rest ∙ ap Other (sym not)
          ] in
          ap Left can ∙ middle ∙ ap Right (sym can)
    ]

pub decisions_are : (advert : Advertised) (weights : PathWeights) (kept : List Path) (state : State) → state.boundary < 8 → decisions_from advert weights kept state ≡ decisions_by (may_stay_free advert kept (state.boundary + 1)) state (moves_at advert weights kept (state.boundary + 1))
unfolding decisions_from moves_of
decisions_are advert weights kept state below =
    let is : nat_lt state.boundary 8 ≡ true = grind (arith, nat_tests, below) in
    let free : List Decision = free_decisions (may_stay_free advert kept (state.boundary + 1)) state in
    let all : List Decision = free ++ path_decisions advert weights kept state (paths_at advert (state.boundary + 1)) in
    ap (λ (b : Bool). cond b all []) is ∙ ap (λ (decisions : List Decision). free ++ decisions) (of_paths advert weights kept state (paths_at advert (state.boundary + 1)))

pub no_decisions : (advert : Advertised) (weights : PathWeights) (kept : List Path) (state : State) → 8 ≤ state.boundary → decisions_from advert weights kept state ≡ []
unfolding decisions_from
no_decisions advert weights kept state past =
    let ended : nat_lt state.boundary 8 ≡ false = grind (arith, nat_tests, past) in
    let free : List Decision = free_decisions (may_stay_free advert kept (state.boundary + 1)) state in
    let all : List Decision = free ++ path_decisions advert weights kept state (paths_at advert (state.boundary + 1)) in
    ap (λ (b : Bool). cond b all []) ended

-- so those of the moves that were listed
pub listed_are_decisions : (advert : Advertised) (weights : PathWeights) (kept : List Path) (state : State) (boundary : ℕ) (free : Bool) (all heaviest : List Move) → state.boundary ≡ boundary → boundary < 8 → AreMoves advert weights kept boundary free all heaviest → decisions_by free state all ≡ decisions_from advert weights kept state
listed_are_decisions advert weights kept state boundary free all heaviest at below are =
    let freed : free ≡ may_stay_free advert kept (state.boundary + 1) = are.freed ∙ ap (λ (n : ℕ). may_stay_free advert kept (n + 1)) (sym at) in
    let listed : all ≡ moves_at advert weights kept (state.boundary + 1) = are.listed ∙ ap (λ (n : ℕ). moves_at advert weights kept (n + 1)) (sym at) in
    ap (λ (b : Bool). decisions_by b state all) freed
    ∙ ap (decisions_by (may_stay_free advert kept (state.boundary + 1)) state) listed
    ∙ sym (decisions_are advert weights kept state (omega (arith, at, below)))
