-- The lines of the states that a plan comes through, lane by lane.
use Rattle.std.proofs.Common.{◌≡◌, ◌==◌, ℕ, ◌+◌, Bool, true, false, List, [], ◌∷◌, ◌++◌, cond, ap, ◌∙◌, append_assoc, sym}
use Rattle.std.specs.List.{flat_map}
use Rattle.std.proofs.lemmas.List.Concat.{flat_map-append}
use Rattle.text_lines.specs.Lines.{text_of}
use Rattle.plan_certificate.specs.declared.path.Path.{Path}
use Rattle.plan_certificate.specs.declared.state.State.{State}
use Rattle.plan_drawing.specs.Walks.{Basis, next_state, states_on}
use Rattle.plan_drawing.specs.Why.{reasons_on, state_lines}

-- where the plan decides on the lane, its lines come first
pub told_here : (basis : Basis) (paths : List Path) (state : State) (lane : ℕ) (lanes before : List ℕ) → (state.boundary + 1 == lane) ≡ true
    → before ++ text_of (reasons_on basis paths state (lane ∷ lanes))
    ≡ (before ++ text_of (state_lines basis paths state)) ++ text_of (reasons_on basis paths (next_state basis paths state) lanes)
unfolding states_on
told_here basis paths state lane lanes before is =
    let lines = state_lines basis paths in
    let rest = states_on basis paths (next_state basis paths state) lanes in
    ap (λ (b : Bool). before ++ text_of (flat_map lines (cond b (state ∷ rest) (states_on basis paths state lanes)))) is
    ∙ ap (λ (t : List ℕ). before ++ t) (flat_map-append (λ (line : List ℕ). line ++ 10 ∷ []) (lines state) (flat_map lines rest))
    ∙ sym (append_assoc before (text_of (lines state)) (text_of (flat_map lines rest)))

-- else none
pub told_past : (basis : Basis) (paths : List Path) (state : State) (lane : ℕ) (lanes before : List ℕ) → (state.boundary + 1 == lane) ≡ false
    → before ++ text_of (reasons_on basis paths state (lane ∷ lanes)) ≡ before ++ text_of (reasons_on basis paths state lanes)
unfolding states_on
told_past basis paths state lane lanes before is =
    let lines = state_lines basis paths in
    let rest = states_on basis paths (next_state basis paths state) lanes in
    ap (λ (b : Bool). before ++ text_of (flat_map lines (cond b (state ∷ rest) (states_on basis paths state lanes)))) is
