use Rattle.std.proofs.Common.{◌≡◌, ℕ, ◌+◌, ◌<◌, Bool, true, List, [], ◌∷◌, Option, Some, cond, drop, get_or, length, refl, sym, ap, ◌∙◌, add-one, drop-cons}
use Rattle.std.specs.List.{find}
use Rattle.std.proofs.lemmas.Bool.{eq-eqb}
use Rattle.plan_certificate.specs.declared.path.Path.{Path}
use Rattle.plan_certificate.specs.declared.state.Decision.{Decision}
use Rattle.plan_drawing.specs.Walks.{basis_of, begins_at, decision_of, path_at}
use Rattle.plan_drawing.proofs.why.next_state.Goals as goal

found_next : (paths : List Path) (i lane : ℕ) (d : Path) → i < length paths → begins_at lane (get_or paths i d) ≡ true
    → path_at (drop i paths) lane ≡ Some (get_or paths i d)
found_next paths i lane d below begins =
    let next : drop i paths ≡ get_or paths i d ∷ drop (i + 1) paths = rw (add-one, drop-cons paths i d) refl in
    ap (λ (some : List Path). path_at some lane) next
    ∙ ap (λ (b : Bool). cond b (Some (get_or paths i d)) (find (begins_at lane) (drop (i + 1) paths))) begins

pub returns-then-path-lane-clause-next : goal.returns-then-path-lane-clause-next
returns-then-path-lane-clause-next c =
    let state = c.args.state.now in
    let lane : ℕ = state.boundary + 1 in
    let none : Path = record { app = 0; host = 0; media = 0 } in
    let found = found_next c.args.paths.now c.loop-path.path-index lane none c.loop-path-test.true (eq-eqb _ _ c.if-path-lane.true) in
    ap (λ (made : Decision). made.end) c.decision_of.ensures.decision
    ∙ ap (λ (path : Option Path). (decision_of (basis_of c.args.problem.now []) state path).end) (sym (c.loop-path.invariant ∙ found))
