-- The names of the module states (OIF-CMIS-05.0, section 6.3.2 Module State Machine).
use Rattle.std.specs.Prelude.{ℕ, List, codes}
use Rattle.module_states.specs.declared.state.ModuleState.{ModuleState}
use Rattle.module_states.specs.declared.state.ModuleState.TheVariants.{LowPwr, PwrUp, Ready, PwrDn, Fault}

abbrev pub name_of : ModuleState → List ℕ
name_of LowPwr = codes "ModuleLowPwr"
name_of PwrUp = codes "ModulePwrUp"
name_of Ready = codes "ModuleReady"
name_of PwrDn = codes "ModulePwrDn"
name_of Fault = codes "ModuleFault"
