-- Why there is nothing to plan for, by what reading the texts answers.
use Rattle.std.proofs.Common.{ℕ, List, Err}
use Rattle.applications.specs.declared.conventions.Conventions.{Conventions}
use Rattle.applications.specs.WeightFaults.{IsAnswer}
use Rattle.applications.specs.declared.weights.fault.WeightsFault.{WeightsFault}
use Rattle.applications.specs.declared.weights.fault.WeightsFault.TheVariants as weights
use Rattle.command_line.specs.Faults.{fault_of_weights}
use Rattle.command_line.specs.Inputs.{Inputs}
use Rattle.command_line.specs.PlanningInputs.{IsAdvertRefusal, IsPlanningRefusal, IsWeightsRefusal}
use Rattle.command_line.specs.declared.fault.Fault.{Fault}
use Rattle.command_line.specs.declared.fault.Fault.TheVariants as fault

pub advert_refused : (conventions : Conventions) (inputs : Inputs) (f : Fault) → IsAdvertRefusal conventions inputs.image f → IsPlanningRefusal conventions inputs f
advert_refused conventions inputs (fault.Image f) is = is
advert_refused conventions inputs (fault.Advert f) is = is
advert_refused conventions inputs f is = absurd is

-- a fault of weights is the program's
pub weights_refused : (Refuses : Fault → Type 0) (text : List ℕ) → Refuses fault.Memory → ((f : WeightsFault) → IsWeightsRefusal text f → Refuses (fault.Weights f))
    → (f : WeightsFault) → IsAnswer text (Err f) → Refuses (fault_of_weights f)
weights_refused Refuses text memory mine weights.Memory is = memory
weights_refused Refuses text memory mine f is = mine f ((λ same. absurd cc), is)
