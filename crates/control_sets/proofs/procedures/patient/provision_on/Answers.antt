use Rattle.std.proofs.Common.{◌≡◌, subst}
use Rattle.conversations.specs.Carried.{MakesEvents}
use Rattle.control_sets.specs.declared.procedures.procedure.Work.{Work}
use Rattle.control_sets.specs.declared.procedures.procedure.Work.TheVariants.{Provisioning}
use Rattle.control_sets.specs.PatientProcedures.{IsPatientWork}
use Rattle.control_sets.proofs.PlanLaneLaws.{kept_allowed}
use Rattle.control_sets.proofs.procedures.patient.provision_on.Goals as goal

pub lanes_outside-requires : goal.lanes_outside-requires
lanes_outside-requires g c = kept_allowed c.args.advert.now c.args.plan.now c.args.kept.now c.requires.admissible.allowed c.requires.kept

pub returns : goal.returns
returns g c =
    let new = c.carry_out_on.new.bus in
    subst (λ (work : Work). MakesEvents (λ old step new. g.B.TimedBus.makes old step new) (λ old time new. g.B.TimedBus.passes old time new) c.args.bus.now (λ last events.
    IsPatientWork c.args.patience work (last ≡ new) (λ fault. g.B.TimedBus.fails last fault new) events c.carry_out_on.result)) (λ i. Provisioning (c.bytes_of.ensures i) (c.lanes_outside.ensures i)) c.carry_out_on.ensures
