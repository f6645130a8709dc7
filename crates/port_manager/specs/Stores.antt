-- Which operations a port may ask for after a story: what is not a fetch or a page selection rests on an image that was read whole.
-- (this project's own; OIF-CMIS-05.0: LowPwrAllowRequestHW, LowPwrRequestSW and SoftwareReset of the lower memory; DPDeinit,
-- ApplyDPInit and Staged Control Set 0 of page 10h)
use Rattle.std.specs.Prelude.{◌≡◌, ◌⊎◌, ◌-◌, ℕ, true, false, [], ◌∷◌}
use Rattle.bus_model.specs.declared.operation.Op.{Op}
use Rattle.field_tables.specs.LaneSets.{IsLane, byte_of, lanes_in}
use Rattle.field_tables.specs.declared.field.Register.TheVariants as registers
use Rattle.paged_memory.specs.declared.page_addressing.PageAddressing.{PageAddressing}
use Rattle.paged_memory.specs.PageAddressing.{selection}
use Rattle.conversations.specs.Selecting.{IsFetch}
use Rattle.control_sets.specs.declared.procedures.power.Power.TheVariants.{Awake, Asleep}
use Rattle.control_sets.specs.PowerControls.{set_controls, wanted_controls}
use Rattle.control_sets.specs.RegisterOperations.{store_to}
use Rattle.port_manager.specs.declared.deciding.Goal.{Goal}
use Rattle.std.specs.FinSet as set
use Rattle.control_sets.specs.StoredBits.{Sets}
use Rattle.port_manager.specs.Stories.{Story, vain_in}
use Rattle.port_manager.specs.Readings.{GivesPermission, RestsIn, SinceRead, SleepsIn, WakesIn}

abbrev pub IsSelecting : Op → Type 0
IsSelecting op = (addressing : PageAddressing) × (page : ℕ) × (op ≡ selection addressing page)

-- it takes down or applies lanes outside of the kept paths alone, stages the plan, or holds all lanes down but the plan's
abbrev pub IsStoreOf : Goal → Op → Type 0
IsStoreOf goal op =
    (op ≡ store_to registers.DPDeinit (byte_of goal.outside ∷ []))
    ⊎ ((op ≡ store_to registers.StagedControl goal.control)
    ⊎ ((op ≡ store_to registers.ApplyDPInit (byte_of goal.outside ∷ []))
    ⊎ (op ≡ store_to registers.DPDeinit ((255 - byte_of goal.lanes) ∷ []))))

-- it fetches, selects a page, or changes the module's power or stores in one of these ways
abbrev pub May : (Op → Type 0) → (Op → Type 0) → Op → Type 0
May Powers Stores op = IsFetch op ⊎ (IsSelecting op ⊎ (Powers op ⊎ Stores op))

-- low power requests are cleared of a module that was not woken up in vain since, and needs no more power than it may have
abbrev pub IsWakingIn : Story → Op → Type 0
IsWakingIn story op = (vain_in story ≡ false) × WakesIn story × ((byte : ℕ) × (op ≡ set_controls (wanted_controls Awake byte)))

-- a low power request is set of a module that is to be in low power, and shows no lane as up that may not be taken down
abbrev pub IsSleepingIn : Story → Op → Type 0
IsSleepingIn story op = SleepsIn story × ((byte : ℕ) × (op ≡ set_controls (wanted_controls Asleep byte)))

abbrev pub ChangesPowerIn : Story → Op → Type 0
ChangesPowerIn story op = IsWakingIn story op ⊎ IsSleepingIn story op

-- a store of the goal that the last reading gave by the weights that came with it
abbrev pub IsNamedStore : Story → Op → Type 0
IsNamedStore story op = (goal : Goal) × RestsIn story goal × IsStoreOf goal op

abbrev pub MayMakeIn : Story → Op → Type 0
MayMakeIn story op = May (ChangesPowerIn story) (IsNamedStore story) op

-- if the operation takes the lane down or applies it, the last reading showed that it isn't up, or it may be taken down
abbrev pub TakesPermitted : Story → Op → Type 0
TakesPermitted story op = (bits lane : ℕ) → Sets bits op → IsLane lane → set.contains (lanes_in bits) lane ≡ true → SinceRead (GivesPermission lane) story

abbrev pub StoresNothing : Op → Type 0
StoresNothing op = IsFetch op ⊎ IsSelecting op
