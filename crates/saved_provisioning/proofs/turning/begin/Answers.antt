use Rattle.std.proofs.Common.{Some, ap, subst, sym, ◌∙◌}
use Rattle.control_sets.specs.declared.procedures.procedure.Work.TheVariants.{Provisioning}
use Rattle.lane_controls.specs.declared.settings_change.SettingsChange.{SettingsChange}
use Rattle.explicit_provisioning.specs.ExplicitBytes.{explicit_bytes}
use Rattle.explicit_provisioning.specs.ExplicitProcedures.{WatchfulTasks, watchful}
use Rattle.saved_provisioning.specs.Standings.{IsUsual, StandsFor, list_of}
use Rattle.saved_provisioning.proofs.Begun.{begun_usual}
use Rattle.saved_provisioning.proofs.turning.begin.Goals as goal

pub save-requires-clause-usual : goal.save-requires-clause-usual
save-requires-clause-usual c = subst IsUsual (sym c.watchful_tasks-it.ensures) (begun_usual _ _ _)

pub save-requires-clause-tasks : goal.save-requires-clause-tasks
save-requires-clause-tasks c = subst (λ (it : WatchfulTasks). StandsFor c.none_met.result (list_of it)) (sym c.watchful_tasks-it.ensures) c.none_met.ensures

pub returns : goal.returns
returns c =
    let patience = c.args.patience in
    let bytes = c.explicit_bytes-bytes.ensures ∙ ap (λ (change : SettingsChange). explicit_bytes c.args.control.now change.lanes) c.wanted_of-wanted.ensures in
    c.save.ensures ∙ ap (λ (it : WatchfulTasks). Some it) (c.watchful_tasks-it.ensures
    ∙ (λ i. watchful (c.wanted_of-wanted.ensures i) (Provisioning (bytes i) c.args.lanes) patience))
