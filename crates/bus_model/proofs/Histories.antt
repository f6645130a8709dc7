-- Runs on a scripted bus, with the newest step first.
use Rattle.std.proofs.Common.{◌≡◌, List, [], ◌∷◌, ◌++◌, reverse, refl, ap, subst, ◌∙◌}
use Rattle.std.proofs.lemmas.Grind.{fold-append}
use Rattle.std.proofs.lemmas.List.{reverse-append}
use Rattle.std.specs.Prelude.{Bool, fold}
use Rattle.std.specs.List.{AllByRecursion}
use Rattle.bus_model.specs.declared.operation.Step.{Step}
use Rattle.bus_model.specs.declared.script.Directive.{Directive}
use Rattle.bus_model.specs.Conduct.{Conduct}
use Rattle.bus_model.specs.Keeping.{IsKeptBy, IsKeptInTime}
use Rattle.bus_model.specs.Runs.{MayInTurn, Rules}
use Rattle.bus_model.specs.ScriptedBus.{script_rules, settled}
use Rattle.bus_model.proofs.ScriptRuns.{all_allow, may_split, settled_keeps, step_keeps}

module _ {S : Type 0} (rules : Rules S) where
  -- the state that the steps leave
  abbrev pub after : S → List Step → S
  after state [] = state
  after state (step ∷ before) = rules.after (after state before) step

  -- each step may come in the state that those before it leave
  abbrev pub MayEach : S → List Step → Type 0
  MayEach state [] = Unit {0}
  MayEach state (step ∷ before) = rules.may (after state before) step × MayEach state before

  pub after_reverse : (state : S) (steps : List Step) → fold rules.after state (reverse steps) ≡ after state steps
  after_reverse state [] = refl
  after_reverse state (step ∷ before) =
      ap (fold rules.after state) (reverse-append (step ∷ []) before)
      ∙ fold-append rules.after state (reverse before) (step ∷ [])
      ∙ ap (λ (s : S). rules.after s step) (after_reverse state before)

  pub may_each : (state : S) (steps : List Step) → MayInTurn rules state (reverse steps) → MayEach state steps
  may_each state [] may = tt
  may_each state (step ∷ before) may =
      let parts = may_split rules state (reverse before) (step ∷ []) (subst (MayInTurn rules state) (reverse-append (step ∷ []) before) may) in
      (subst (λ (s : S). rules.may s step) (after_reverse state before) parts.1.0, may_each state before parts.0)

  pub after_append : (state : S) (newer older : List Step) → after state (newer ++ older) ≡ after (after state older) newer
  after_append state [] older = refl
  after_append state (step ∷ newer) older = ap (λ (s : S). rules.after s step) (after_append state newer older)

  pub may_older : (state : S) (newer older : List Step) → MayEach state (newer ++ older) → MayEach state older
  may_older state [] older may = may
  may_older state (step ∷ newer) older may = may_older state newer older may.1

-- the pin may be set as a script likes
abbrev pub AnyPin : Bool → Type 0
AnyPin on = Unit {0}

module _ {S : Type 0} (conduct : Conduct S) (P : S → Type 0) (time : IsKeptInTime conduct AnyPin P) where
  -- what time keeps, the directives before a transaction keep
  pub found_keeps : (state : List Directive × S) → P state.1 → P (settled conduct state.0 state.1).1
  found_keeps (script, state) holds = settled_keeps conduct AnyPin P time script (all_allow script) state holds

  -- what time and each operation keep, the steps keep
  pub steps_keep : (steps : List Step) → AllByRecursion (λ step. IsKeptBy conduct P step.op) steps → (state : List Directive × S) → P state.1 → P (after (script_rules conduct) state steps).1
  steps_keep [] each state holds = holds
  steps_keep (step ∷ before) each state holds =
      step_keeps conduct AnyPin P time step.op each.0 (after (script_rules conduct) state before) (all_allow (after (script_rules conduct) state before).0) (steps_keep before each.1 state holds)
