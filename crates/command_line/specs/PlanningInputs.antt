-- What commands that plan read: what a module advertises, weights, and the paths that the plan keeps. (docs/formats.md,
-- "Input"; this project's own)
use Rattle.std.specs.Prelude.{◌≡◌, ◌≢◌, ℕ, List, Some, None, Ok, Err}
use Rattle.text_lines.specs.Lines.{lines_of}
use Rattle.paged_memory.specs.Images.{Memory}
use Rattle.paged_memory.specs.ImageText.{IsTextOf}
use Rattle.paged_memory.specs.ImageFaults.{IsFirstFault}
use Rattle.applications.specs.declared.conventions.Conventions.{Conventions}
use Rattle.applications.specs.Advertised.{Advertised, advertised_under}
use Rattle.applications.specs.Refusals.{advert_fault_under}
use Rattle.applications.specs.WeightFaults.{IsAnswer}
use Rattle.applications.specs.declared.weights.fault.WeightsFault.{WeightsFault}
use Rattle.applications.specs.declared.weights.fault.WeightsFault.TheVariants as weights
use Rattle.applications.specs.Weights.{ListedWeights}
use Rattle.plan_certificate.specs.KeptText.{IsFirstKeptFault, IsKeptText}
use Rattle.plan_certificate.specs.Plans.{IsAdmissible}
use Rattle.plan_certificate.specs.Verdicts.{kept_fault}
use Rattle.plan_certificate.specs.declared.fault.KeptFault.{KeptFault}
use Rattle.plan_certificate.specs.declared.fault.KeptFault.TheVariants.{NotAdmissible}
use Rattle.plan_certificate.specs.declared.path.Path.{Path}
use Rattle.command_line.specs.Inputs.{Inputs}
use Rattle.command_line.specs.declared.commands.planning_inputs.Planning.{Planning}
use Rattle.command_line.specs.declared.fault.Fault.{Fault}
use Rattle.command_line.specs.declared.fault.Fault.TheVariants as fault

-- the text is that of this image, whose module advertises this to a host that reads it by these conventions
pub record IsModuleText (conventions : Conventions) (text : List ℕ) (memory : Memory) (advert : Advertised) : Type 0 where
  pub is_text : IsTextOf (lines_of text) memory
  pub accepted : advert_fault_under conventions memory ≡ None
  pub advertised : advert ≡ advertised_under conventions memory

-- the text is that of an image whose module advertises this
pub record IsAdvertText (conventions : Conventions) (text : List ℕ) (advert : Advertised) : Type 0 where
  pub memory : Memory
  pub is_module : IsModuleText conventions text memory advert

-- the text is that of an image whose module says what it advertises
abbrev pub Advertises : Conventions → List ℕ → Type 0
Advertises conventions text = (advert : Advertised) × IsAdvertText conventions text advert

-- the text is no image's, or the module doesn't say what it advertises
abbrev pub IsAdvertRefusal : Conventions → List ℕ → Fault → Type 0
IsAdvertRefusal conventions text (fault.Image f) = IsFirstFault (lines_of text) f
IsAdvertRefusal conventions text (fault.Advert f) = (memory : Memory) × IsTextOf (lines_of text) memory × (advert_fault_under conventions memory ≡ Some f)
IsAdvertRefusal conventions text f = ⊥

-- the text lists no weights
abbrev pub IsWeightsRefusal : List ℕ → WeightsFault → Type 0
IsWeightsRefusal text f = (f ≢ weights.Memory) × IsAnswer text (Err f)

-- the text is that of these kept paths, which the module can carry together
pub record AreKept (advert : Advertised) (text : List ℕ) (kept : List Path) : Type 0 where
  pub is_text : IsKeptText (lines_of text) kept
  pub admissible : IsAdmissible advert kept

-- the text names no kept paths, or some that the module can't carry, of which this is the first
abbrev pub AreNotKept : Advertised → List ℕ → KeptFault → Type 0
AreNotKept advert text (NotAdmissible number) = (kept : List Path) × IsKeptText (lines_of text) kept × (kept_fault advert kept ≡ Some number)
AreNotKept advert text f = IsFirstKeptFault (lines_of text) f

-- ---- what a plan is made for

-- the texts are those of an image, of weights and of kept paths, and this is what they say
pub record IsPlanning (conventions : Conventions) (inputs : Inputs) (planning : Planning) : Type 0 where
  pub is_module : IsModuleText conventions inputs.image planning.image planning.advert
  pub are_weights : IsAnswer inputs.weights (Ok planning.weights)
  pub are_kept : AreKept planning.advert inputs.kept planning.kept

-- the image and the weights are accepted, and the kept paths are not
pub record IsKeptRefusal (conventions : Conventions) (inputs : Inputs) (refused : KeptFault) : Type 0 where
  pub advert : Advertised
  pub weights : ListedWeights
  pub is_advert : IsAdvertText conventions inputs.image advert
  pub are_weights : IsAnswer inputs.weights (Ok weights)
  pub are_not_kept : AreNotKept advert inputs.kept refused

-- the first of the texts that is none
abbrev pub IsPlanningRefusal : Conventions → Inputs → Fault → Type 0
IsPlanningRefusal conventions inputs fault.Memory = Unit {0}
IsPlanningRefusal conventions inputs (fault.Kept f) = IsKeptRefusal conventions inputs f
IsPlanningRefusal conventions inputs (fault.Weights f) = Advertises conventions inputs.image × IsWeightsRefusal inputs.weights f
IsPlanningRefusal conventions inputs f = IsAdvertRefusal conventions inputs.image f
