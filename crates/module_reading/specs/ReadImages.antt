-- When the image that was read of a module is what the steps on the bus show, over the whole list of them, the newest first, to those
-- who doubt the page selection after a refusal or don't. (docs/bus.md, "Reading an image"; this project's own)
use Rattle.std.specs.Prelude.{◌≡◌, ◌⊎◌, ◌<◌, ◌≤◌, ℕ, Bool, IsTrue, MatchOption, List, [], ◌∷◌, length}
use Rattle.std.specs.FinMap as map
use Rattle.std.specs.List.{AllByRecursion}
use Rattle.bus_model.specs.declared.operation.Step.{Step}
use Rattle.control_sets.specs.OutcomeAnswers.{most_steps}
use Rattle.control_sets.specs.OutcomeSteps.{Gives}
use Rattle.conversations.specs.Selecting.{IsFetch, WasTaken, trusted}
use Rattle.paged_memory.specs.declared.key.Key.{Key}
use Rattle.paged_memory.specs.declared.page_addressing.PageAddressing.{PageAddressing}
use Rattle.paged_memory.specs.Images.{Memory}
use Rattle.paged_memory.specs.PageAddressing.{EachStep, History, is_page_confirmed, reads_back}
use Rattle.module_reading.specs.declared.region.Region.{Region}
use Rattle.module_reading.specs.declared.request.Request.{Request}
use Rattle.module_reading.specs.declared.region.Region.TheVariants.{Lower, FirstPage, Page}
use Rattle.module_reading.specs.Regions.{key_of, operation, addressing_of, regions_of}

-- among the steps is one of which, with those before it, P holds
abbrev pub SomeStep : (Step → History → Type 0) → History → Type 0
SomeStep P [] = ⊥
SomeStep P (step ∷ before) = P step before ⊎ SomeStep P before

-- nothing was stored
abbrev pub StoresNothing : History → Type 0
StoresNothing history = AllByRecursion (λ step. IsFetch step.op) history

-- the module shows the half: flat memory as long as nothing is stored, a page while the steps confirm it
abbrev pub IsShown : Bool → PageAddressing → Region → History → Type 0
IsShown doubts addressing (Lower dev) before = Unit {0}
IsShown doubts addressing FirstPage before = StoresNothing before
IsShown doubts addressing (Page page) before = IsTrue (is_page_confirmed addressing page (trusted doubts before))

-- a fetch of the half gave these bytes
abbrev pub IsRead : Bool → PageAddressing → Region → List ℕ → History → Type 0
IsRead doubts addressing region bytes history = SomeStep (λ step before. Gives (operation region) bytes step × IsShown doubts addressing region before) history

-- page 00h of bank 0 was read back in place of another page, whose selection was accepted
abbrev pub IsLeftOut : Bool → PageAddressing → Region → History → Type 0
IsLeftOut doubts addressing (Lower dev) history = ⊥
IsLeftOut doubts addressing FirstPage history = ⊥
IsLeftOut doubts addressing (Page page) history =
    (0 < page) × SomeStep (λ step before. IsTrue (reads_back addressing 0 step) × WasTaken addressing page (trusted doubts before)) history

-- the image has what was read of the half; or it lacks the half, which was left out
abbrev pub IsSettled : Bool → History → Memory → Region → Type 0
IsSettled doubts history image region =
    MatchOption (map.get image (key_of region)) (IsLeftOut doubts (addressing_of image) region history) (λ bytes. IsRead doubts (addressing_of image) region bytes history)

abbrev pub IsKeyAmong : List Region → Key → Type 0
IsKeyAmong [] key = ⊥
IsKeyAmong (region ∷ regions) key = (key ≡ key_of region) ⊎ IsKeyAmong regions key

-- the steps give the image: all halves that are asked for, and no other
pub record IsImageOf (doubts : Bool) (request : Request) (history : History) (image : Memory) : Type 0 where
  pub each : AllByRecursion (IsSettled doubts history image) (regions_of request image)
  pub only : (key : Key) → IsTrue (map.contains_key image key) → IsKeyAmong (regions_of request image) key

-- some half that is asked for was neither read nor left out
abbrev pub IsUnfinished : Bool → Request → History → Type 0
IsUnfinished doubts request history = (image : Memory) → ¬ (IsImageOf doubts request history image)

-- no more steps than may be made, and the image unfinished before each of them
pub record IsReading (doubts : Bool) (request : Request) (history : History) : Type 0 where
  pub at_most : length history ≤ most_steps
  pub brief : EachStep (λ step before. IsUnfinished doubts request before) history

-- all steps that may be made were made, and the image is unfinished
abbrev pub IsGivenUp : Bool → Request → History → Type 0
IsGivenUp doubts request history = (length history ≡ most_steps) × IsUnfinished doubts request history
