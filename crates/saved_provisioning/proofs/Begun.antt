-- How provisioning with settings begins is as it stays.
use Rattle.std.proofs.Common.{refl, arith}
use Rattle.conversations.specs.declared.pausing.Patience.{Patience}
use Rattle.control_sets.specs.declared.procedures.procedure.Work.{Work}
use Rattle.lane_controls.specs.declared.settings_change.SettingsChange.{SettingsChange}
use Rattle.explicit_provisioning.specs.ExplicitProcedures.{watchful}
use Rattle.saved_provisioning.specs.Standings.{IsUsual}

pub begun_usual : (change : SettingsChange) (work : Work) (patience : Patience) → IsUsual (watchful change work patience)
begun_usual change work patience = record { watches = refl; limit = refl; few = omega arith; doubts = refl; taken = refl; change = refl }
