use Rattle.std.proofs.Common.{refl, Some, ap}
use Rattle.control_sets.specs.declared.procedures.procedure.Work.TheVariants.{Provisioning}
use Rattle.control_sets.specs.SavedNumbers.{fault_in}
use Rattle.field_tables.specs.LaneSets.{Lanes}
use Rattle.saved_provisioning.proofs.turning.none_met.Goals as goal

pub returns : goal.returns
returns c = record {
  work = ap (λ (lanes : Lanes). Some (Provisioning c.args.control lanes)) c.byte.ensures.lanes;
  met = refl;
  fault = ap fault_in c.of.ensures;
  can = refl;
}
