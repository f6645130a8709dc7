use Rattle.std.proofs.Common.{◌≡◌, ap, subst, ◌∙◌}
use Rattle.field_tables.specs.LaneSets.{Lanes}
use Rattle.conversations.specs.Carried.{MakesEvents}
use Rattle.control_sets.specs.declared.procedures.procedure.Work.{Work}
use Rattle.control_sets.specs.declared.procedures.procedure.Work.TheVariants.{Provisioning}
use Rattle.control_sets.proofs.PlanLaneLaws.{kept_allowed}
use Rattle.lane_controls.specs.declared.settings_change.SettingsChange.{SettingsChange}
use Rattle.explicit_provisioning.specs.ExplicitBytes.{explicit_bytes}
use Rattle.explicit_provisioning.specs.ExplicitProcedures.{IsExplicitWork}
use Rattle.explicit_provisioning.proofs.procedures.provision_settings_on.Goals as goal

pub lanes_outside-requires : goal.lanes_outside-requires
lanes_outside-requires g c = kept_allowed c.args.advert.now c.args.plan.now c.args.kept.now c.requires.admissible.allowed c.requires.kept

pub returns : goal.returns
returns g c =
    let new = c.carry_out_on.new.bus in
    subst (λ (both : SettingsChange × Work). MakesEvents (λ old step new. g.B.TimedBus.makes old step new) (λ old time new. g.B.TimedBus.passes old time new) c.args.bus.now (λ last events.
    IsExplicitWork c.args.patience both.0 both.1 (last ≡ new) (λ fault. g.B.TimedBus.fails last fault new) events c.carry_out_on.result))
    (λ i. (
      c.change_for-wanted.ensures i,
      Provisioning ((c.explicit_bytes.ensures ∙ (λ j. explicit_bytes (c.bytes_of.ensures j) (c.change_for-wanted.ensures j).lanes)) i) (c.lanes_outside.ensures i),
    ))
    c.carry_out_on.ensures
