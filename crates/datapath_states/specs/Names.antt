-- The names of the data path states and of the configuration statuses (OIF-CMIS-05.0, section 6.3.3 Data Path State
-- Machine, and Configuration Command Status among the lane statuses of page 11h). The names of the codes 13 to 15
-- are this project's own.
use Rattle.std.specs.Prelude.{ℕ, List, ◌++◌, codes}
use Rattle.std.specs.Fmt.{decimal}
use Rattle.datapath_states.specs.declared.state.PathState.{PathState}
use Rattle.datapath_states.specs.declared.state.PathState.TheVariants.{Deactivated, Init, Deinit, Activated, TxTurnOn, TxTurnOff, Initialized}
use Rattle.datapath_states.specs.declared.status.ConfigStatus.{ConfigStatus}
use Rattle.datapath_states.specs.declared.status.ConfigStatus.TheVariants.{Undefined, Success, Rejected, RejectedInvalidAppSel, RejectedInvalidDataPath, RejectedInvalidSi, RejectedLanesInUse, RejectedPartialDataPath, InProgress, Custom}

abbrev pub name_of : PathState → List ℕ
name_of Deactivated = codes "DPDeactivated"
name_of Init = codes "DPInit"
name_of Deinit = codes "DPDeinit"
name_of Activated = codes "DPActivated"
name_of TxTurnOn = codes "DPTxTurnOn"
name_of TxTurnOff = codes "DPTxTurnOff"
name_of Initialized = codes "DPInitialized"

abbrev pub status_name : ConfigStatus → List ℕ
status_name Undefined = codes "ConfigUndefined"
status_name Success = codes "ConfigSuccess"
status_name Rejected = codes "ConfigRejected"
status_name RejectedInvalidAppSel = codes "ConfigRejectedInvalidAppSel"
status_name RejectedInvalidDataPath = codes "ConfigRejectedInvalidDataPath"
status_name RejectedInvalidSi = codes "ConfigRejectedInvalidSI"
status_name RejectedLanesInUse = codes "ConfigRejectedLanesInUse"
status_name RejectedPartialDataPath = codes "ConfigRejectedPartialDataPath"
status_name InProgress = codes "ConfigInProgress"
status_name (Custom code) = codes "custom-" ++ decimal code
