-- Runs follow one another.
use Rattle.std.proofs.Common.{List, [], ◌∷◌, ◌++◌, refl, sym, ap, ◌∙◌, subst, append_assoc, append-nil}
use Rattle.std.proofs.lemmas.Grind.{fold-append}
use Rattle.std.specs.Prelude.{fold}
use Rattle.std.specs.List.{AllByRecursion}
use Rattle.bus_model.specs.Operations.{IsFit}
use Rattle.bus_model.specs.declared.operation.Step.{Step}
use Rattle.bus_model.specs.Runs.{Rules, Seen, Ran, MayInTurn}

may_append : {S : Type 0} (rules : Rules S) (state : S) (first next : List Step) → MayInTurn rules state first → MayInTurn rules (fold rules.after state first) next → MayInTurn rules state (first ++ next)
may_append rules state [] next before later = later
may_append rules state (step ∷ first) next before later = (before.0, may_append rules (rules.after state step) first next before.1 later)

fits_append : (first next : List Step) → AllByRecursion IsFit first → AllByRecursion IsFit next → AllByRecursion IsFit (first ++ next)
fits_append [] next before later = later
fits_append (step ∷ first) next before later = (before.0, fits_append first next before.1 later)

module _ {S : Type 0} {rules : Rules S} where
  -- no step changes nothing
  pub ran_none : (bus : Seen S) → Ran rules bus bus []
  ran_none bus = record { steps = sym (append-nil bus.steps); room = refl; allowed = tt; fits = tt; state = refl }

  -- one run after another is a run
  pub ran_on : {old mid new : Seen S} {first next : List Step} → Ran rules old mid first → Ran rules mid new next → Ran rules old new (first ++ next)
  ran_on {old} {mid} {new} {first} {next} before later = record {
    steps = later.steps ∙ ap (λ steps. steps ++ next) before.steps ∙ append_assoc old.steps first next;
    room = later.room ∙ before.room;
    allowed = may_append rules old.state first next before.allowed (subst (λ state. MayInTurn rules state next) before.state later.allowed);
    fits = fits_append first next before.fits later.fits;
    state = later.state ∙ ap (λ state. fold rules.after state next) before.state ∙ sym (fold-append rules.after old.state first next);
  }
