-- A machine that comes nearer to a state at each turn arrives there.
use Rattle.std.proofs.Common.{◌≡◌, ℕ, ◌-◌, List, [], ◌∷◌, length, IsTrue, subst, arith}
use Rattle.std.specs.List.{AllByRecursion}
use Rattle.std.proofs.lemmas.List.Elements.{recursion_from_All}
use Rattle.module_states.specs.Machines.{Machine, state_after, Completes, ArrivesIn}

-- where Near n state says that the state is at most n turns away: a turn with such inputs brings it nearer
abbrev pub Nearer : {S I : Type 0} → Machine S I → (ℕ → S → Type 0) → (I → Type 0) → Type 0
Nearer {S} {I} machine Near Such = (n : ℕ) (state : S) (inputs : I) → Near n state → Such inputs
    → (IsTrue (machine.is_transient state) → IsTrue (machine.is_done inputs)) → Near (n - 1) (machine.next state inputs)

module _ {S I : Type 0} (machine : Machine S I) (Near : ℕ → S → Type 0) (Such : I → Type 0) (nearer : Nearer machine Near Such) where
  near_after : (n : ℕ) (state : S) (turns : List I) → Near n state → AllByRecursion Such turns → Completes machine state turns
      → Near (n - length turns) (state_after machine state turns)
  near_after n state [] near such completes =
      let P : ℕ → Type 0 = λ m. Near m state in
      subst P (omega arith) near
  near_after n state (inputs ∷ later) near such completes =
      let next = machine.next state inputs in
      let P : ℕ → Type 0 = λ m. Near m (state_after machine next later) in
      let nearer_next = nearer n state inputs near such.0 completes.0 in
      subst P (omega arith) (near_after (n - 1) next later nearer_next such.1 completes.1)

  pub arrives : (to : S) → ((state : S) → Near 0 state → state ≡ to)
      → (n : ℕ) (from : S) → Near n from → ArrivesIn machine n Such from to
  arrives to there n from near turns such completes enough =
      let P : ℕ → Type 0 = λ m. Near m (state_after machine from turns) in
      let near_end = near_after n from turns near (recursion_from_All Such turns such) completes in
      there (state_after machine from turns) (subst P (omega arith) near_end)
