use Rattle.std.proofs.Common.{ℕ}
use Rattle.field_tables.specs.Readings.{number}
use Rattle.field_tables.specs.declared.field.Field.{Field}
use Rattle.field_tables.specs.declared.field.Field.TheVariants as fields
use Rattle.field_tables.specs.declared.table.cmis.CmisField.TheVariants as cmis
use Rattle.control_sets.specs.Durations.{duration_of, longest_of, states_of}
use Rattle.control_sets.proofs.PauseLaws.{ends, few_pauses, has_room, lasts_few, outlasts}
use Rattle.control_sets.proofs.laws.patience_outlasts_states.Goals as goal

pub returns-clause-longer : goal.returns-clause-longer
returns-clause-longer c memory =
    let of : Field → ℕ = duration_of memory in
    outlasts (of (fields.Cmis cmis.MaxDurationModulePwrUp)) (of (fields.Cmis cmis.MaxDurationModulePwrDn)) (of (fields.Cmis cmis.MaxDurationDPInit)) (of (fields.Cmis cmis.MaxDurationDPDeinit)) (of (fields.Cmis cmis.MaxDurationDPTxTurnOn)) (of (fields.Cmis cmis.MaxDurationDPTxTurnOff))

pub returns-clause-within : goal.returns-clause-within
returns-clause-within c memory = has_room (longest_of (states_of memory))

pub returns-clause-fruitless : goal.returns-clause-fruitless
returns-clause-fruitless c memory own events wanted due idle adds are =
    let of : Field → ℕ = number memory in
    let end = ends _ _ _ _ _ _ (lasts_few (of (fields.Cmis cmis.MaxDurationModulePwrUp))) (lasts_few (of (fields.Cmis cmis.MaxDurationModulePwrDn))) (lasts_few (of (fields.Cmis cmis.MaxDurationDPInit))) (lasts_few (of (fields.Cmis cmis.MaxDurationDPDeinit))) (lasts_few (of (fields.Cmis cmis.MaxDurationDPTxTurnOn))) (lasts_few (of (fields.Cmis cmis.MaxDurationDPTxTurnOff))) in
    few_pauses (longest_of (states_of memory)) own events wanted due idle end are adds
