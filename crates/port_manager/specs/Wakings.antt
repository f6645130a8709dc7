-- A module is taken as woken up in vain only after it was told to wake up. (this project's own; OIF-CMIS-05.0: LowPwrAllowRequestHW
-- and LowPwrRequestSW of the lower memory)
use Rattle.std.specs.Prelude.{◌≡◌, ◌⊎◌, ℕ, false, [], ◌∷◌}
use Rattle.bus_model.specs.declared.operation.Op.{Op}
use Rattle.bus_model.specs.declared.operation.Reply.{Reply}
use Rattle.bus_model.specs.declared.operation.Reply.TheVariants.{Done}
use Rattle.control_sets.specs.declared.procedures.power.Power.TheVariants.{Awake}
use Rattle.control_sets.specs.PowerControls.{set_controls, wanted_controls}
use Rattle.port_manager.specs.declared.deciding.Wanted.{Wanted}
use Rattle.port_manager.specs.declared.port.Outcome.{Outcome}
use Rattle.port_manager.specs.declared.port.Outcome.TheVariants as outcome
use Rattle.port_manager.specs.declared.port.Port.{Port}
use Rattle.port_manager.specs.declared.port.Stage.TheVariants.{Working}
use Rattle.port_manager.specs.declared.turn.PortFault.{PortFault}
use Rattle.port_manager.specs.declared.turn.PortFault.TheVariants.{Changed, WakingRefused}
use Rattle.port_manager.specs.Jobs.{reading}
use Rattle.port_manager.specs.Runs.{Reaches}
use Rattle.port_manager.specs.Stories.{Story, acknowledge, ask, demand, drop, hear, hold, make, plug, pull, reconsider}

-- the store that clears the low power requests was accepted
abbrev pub TellsToWake : Op → Reply → Type 0
TellsToWake op reply = (byte : ℕ) × (op ≡ set_controls (wanted_controls Awake byte)) × (reply ≡ Done)

-- by this operation, unless it was asked for before somebody asked something else, or by an earlier one
abbrev pub ToldBy : Outcome → Type 0 → Type 0 → Type 0
ToldBy outcome.Dropped this earlier = earlier
ToldBy (outcome.Went note) this earlier = this ⊎ earlier
ToldBy (outcome.Paused moment) this earlier = this ⊎ earlier
ToldBy (outcome.Failed fault moment) this earlier = this ⊎ earlier
ToldBy (outcome.Left reason) this earlier = this ⊎ earlier

-- the module was told to wake up since it was plugged and since somebody asked
abbrev pub WasTold : Story → Type 0
WasTold [] = ⊥
WasTold (plug now ∷ before) = ⊥
WasTold (pull ∷ before) = ⊥
WasTold (reconsider ∷ before) = ⊥
WasTold (hold held ∷ before) = ⊥
WasTold (demand request ∷ before) = ⊥
WasTold (acknowledge past ∷ before) = WasTold before
WasTold (hear alive began ∷ before) = WasTold before
WasTold (ask op moment ∷ before) = WasTold before
WasTold (make op reply wanted now result ∷ before) = ToldBy result (TellsToWake op reply) (WasTold before)
WasTold (drop ∷ before) = WasTold before

-- a module that could not be told, or has changed since, is read anew, and may be told again
abbrev pub MayBeToldAgain : Type 0
MayBeToldAgain =
    (story : Story) (port : Port) (op : Op) (reply : Reply) (wanted : Wanted) (now moment : ℕ) (fault : PortFault)
    → Reaches (make op reply wanted now (outcome.Failed fault moment) ∷ story) port → (fault ≡ WakingRefused) ⊎ (fault ≡ Changed)
    → (port.vain ≡ false) × (port.stage ≡ Working (reading false))
