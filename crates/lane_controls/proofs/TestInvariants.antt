-- What a link test knows at each stage, whatever happened before.
use Rattle.std.proofs.Common.{◌≡◌, ◌⊎◌, ℕ, ◌||◌, Bool, true, false, List, [], ◌∷◌, Some, None}
use Rattle.paged_memory.specs.PageAddressing.{EachStep, History}
use Rattle.lane_controls.specs.declared.link_test.LinkTest.{LinkTest}
use Rattle.lane_controls.specs.declared.link_test.TestStage.{TestStage}
use Rattle.lane_controls.specs.declared.link_test.TestStage.TheVariants as stage
use Rattle.lane_controls.specs.declared.test_plan.Change.{Change}
use Rattle.lane_controls.specs.declared.test_plan.TestPlan.{TestPlan}
use Rattle.lane_controls.specs.ByteHistories.{last_read, stores_at}
use Rattle.lane_controls.specs.TestAccounts.{AllAccounted, IsControl, is_named}
use Rattle.lane_controls.specs.TestHistories.{capabilities_read, paths_read}
use Rattle.lane_controls.specs.TestOperations.{is_among, is_of}
use Rattle.lane_controls.specs.TestPlans.{address, forbidden, incapability, up_lanes}
use Rattle.lane_controls.specs.TestSteps.{AllMade, AllShowOther, IsListed, IsPermitted, IsSupported, IsTestStep, IsTried, WasMade}

-- ---- it keeps account of what it switched

-- on the way up nothing was switched off yet
abbrev pub IsFresh : History → (ℕ → Bool) → Type 0
IsFresh history named = (a : ℕ) → IsControl a → (stores_at a history ≡ 0) ⊎ (named a ≡ true)

-- the module can do what the plan wants
abbrev pub KnowsAbilities : History → LinkTest → Type 0
KnowsAbilities history test = (capabilities : List ℕ) × (capabilities_read history ≡ Some capabilities) × (incapability capabilities test.plan ≡ None)

-- and the plan disturbs no lane that it may not
abbrev pub KnowsUp : History → LinkTest → Type 0
KnowsUp history test = KnowsAbilities history test × ((states : List ℕ) × (paths_read history ≡ Some states) × (forbidden test.plan (up_lanes states) ≡ None))

pub record IsUp (history : History) (test : LinkTest) (named : ℕ → Bool) : Type 0 where
  pub knows : KnowsUp history test
  pub fresh : IsFresh history named

abbrev pub on_or_of : LinkTest → Change → ℕ → Bool
on_or_of test change a = is_of a change || is_among test.on.items a

pub record IsFound (plan : TestPlan) (history : History) (change : Change) : Type 0 where
  pub listed : IsListed plan change.switch
  pub permitted : IsPermitted plan history change.switch
  pub supported : IsSupported history change.switch
  pub none : stores_at (address change.switch) history ≡ 0
  pub read : last_read (address change.switch) history ≡ Some change.original

-- nothing was stored
abbrev pub IsUntouched : History → LinkTest → Type 0
IsUntouched history test = (test.on.items ≡ []) × (test.still_on.items ≡ []) × ((a : ℕ) → IsControl a → stores_at a history ≡ 0)

abbrev pub AtStage : TestStage → History → LinkTest → Type 0
AtStage stage.Advertised history test = IsUntouched history test
AtStage stage.Capabilities history test = IsUntouched history test
AtStage stage.Paths history test = IsUntouched history test × KnowsAbilities history test
AtStage (stage.Unread switch) history test = IsUp history test (is_among test.on.items) × IsListed test.plan switch × IsPermitted test.plan history switch × IsSupported history switch × (stores_at (address switch) history ≡ 0)
AtStage (stage.Found change) history test = IsUp history test (is_among test.on.items) × IsFound test.plan history change
AtStage (stage.Switched change) history test = IsUp history test (on_or_of test change) × WasMade test.plan history change
AtStage (stage.Again change now) history test = IsUp history test (on_or_of test change) × WasMade test.plan history change × (last_read (address change.switch) history ≡ Some now)
AtStage stage.Selecting history test = KnowsUp history test
AtStage stage.Clearing history test = Unit {0}
AtStage stage.Resting history test = Unit {0}
AtStage stage.Reading history test = Unit {0}
AtStage stage.Collecting history test = Unit {0}
AtStage (stage.Down change) history test = WasMade test.plan history change
AtStage (stage.Restore change now) history test = WasMade test.plan history change × (last_read (address change.switch) history ≡ Some now)
AtStage stage.Over history test = test.on.items ≡ []

-- but for the stage
pub record AreKept (plan : TestPlan) (history : History) (named : ℕ → Bool) (on left : List Change) : Type 0 where
  pub steps : EachStep (IsTestStep plan) history
  pub accounted : AllAccounted plan history named
  pub on_right : AllMade plan history on
  pub left_right : AllMade plan history left

pub record IsSound (now : TestStage) (history : History) (test : LinkTest) : Type 0 where
  pub kept : AreKept test.plan history (is_named now test) test.on.items test.still_on.items
  pub at : AtStage now history test

-- ---- no control is kept twice

abbrev pub AreDistinct : List Change → Type 0
AreDistinct [] = Unit {0}
AreDistinct (change ∷ more) = (is_among more (address change.switch) ≡ false) × AreDistinct more

abbrev pub AreNotOn : List Change → List Change → Type 0
AreNotOn on [] = Unit {0}
AreNotOn on (change ∷ more) = (is_among on (address change.switch) ≡ false) × AreNotOn on more

-- what is in hand is kept nowhere else; on the way up nothing is left on
abbrev pub InHandAlone : TestStage → LinkTest → Type 0
InHandAlone stage.Advertised test = (test.still_on.items ≡ []) × (test.on.items ≡ [])
InHandAlone stage.Capabilities test = (test.still_on.items ≡ []) × (test.on.items ≡ [])
InHandAlone stage.Paths test = (test.still_on.items ≡ []) × (test.on.items ≡ [])
InHandAlone (stage.Unread switch) test = (test.still_on.items ≡ []) × (is_among test.on.items (address switch) ≡ false)
InHandAlone (stage.Found change) test = (test.still_on.items ≡ []) × (is_among test.on.items (address change.switch) ≡ false)
InHandAlone (stage.Switched change) test = (test.still_on.items ≡ []) × (is_among test.on.items (address change.switch) ≡ false)
InHandAlone (stage.Again change now) test = (test.still_on.items ≡ []) × (is_among test.on.items (address change.switch) ≡ false)
InHandAlone stage.Selecting test = Unit {0}
InHandAlone stage.Clearing test = Unit {0}
InHandAlone stage.Resting test = Unit {0}
InHandAlone stage.Reading test = Unit {0}
InHandAlone stage.Collecting test = Unit {0}
InHandAlone (stage.Down change) test = (is_among test.still_on.items (address change.switch) ≡ false) × (is_among test.on.items (address change.switch) ≡ false)
InHandAlone (stage.Restore change now) test = (is_among test.still_on.items (address change.switch) ≡ false) × (is_among test.on.items (address change.switch) ≡ false)
InHandAlone stage.Over test = Unit {0}

-- before it may be stored less often, what is to be off was stored so
abbrev pub IsTriedInHand : TestStage → History → LinkTest → Type 0
IsTriedInHand stage.Advertised history test = Unit {0}
IsTriedInHand stage.Capabilities history test = Unit {0}
IsTriedInHand stage.Paths history test = Unit {0}
IsTriedInHand (stage.Unread switch) history test = Unit {0}
IsTriedInHand (stage.Found change) history test = Unit {0}
IsTriedInHand (stage.Switched change) history test = Unit {0}
IsTriedInHand (stage.Again change now) history test = Unit {0}
IsTriedInHand stage.Selecting history test = Unit {0}
IsTriedInHand stage.Clearing history test = Unit {0}
IsTriedInHand stage.Resting history test = Unit {0}
IsTriedInHand stage.Reading history test = Unit {0}
IsTriedInHand stage.Collecting history test = Unit {0}
IsTriedInHand (stage.Down change) history test = (test.tries ≡ test.plan.tries) ⊎ IsTried history change
IsTriedInHand (stage.Restore change now) history test = Unit {0}
IsTriedInHand stage.Over history test = Unit {0}

pub record IsParted (now : TestStage) (history : History) (test : LinkTest) : Type 0 where
  pub in_hand : InHandAlone now test
  pub tried : IsTriedInHand now history test
  pub on : AreDistinct test.on.items
  pub left : AreNotOn test.on.items test.still_on.items
  pub show : AllShowOther test.plan history test.still_on.items
