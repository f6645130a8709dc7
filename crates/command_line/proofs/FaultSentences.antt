-- Each fault has a sentence, computed. A fault of each kind stands by itself, so that the last equation is split into those of all others.
use Rattle.std.proofs.Common.{refl}
use Rattle.std.specs.Prelude.{IsTrue}
use Rattle.notices.specs.Sentences.{sentences}
use Rattle.paged_memory.specs.declared.fault.ImageFault.TheVariants as image
use Rattle.bus_model.specs.declared.fault.ScriptFault.TheVariants as script
use Rattle.field_tables.specs.declared.sff_fault.SffFault.TheVariants as sff
use Rattle.applications.specs.declared.fault.AdvertFault.TheVariants as advert
use Rattle.applications.specs.declared.weights.fault.WeightsFault.TheVariants as weights
use Rattle.applications.specs.declared.weights.table.WeightTable.TheVariants as table
use Rattle.plan_certificate.specs.declared.fault.CertificateFault.TheVariants as certificate
use Rattle.plan_certificate.specs.declared.fault.KeptFault.TheVariants as kept
use Rattle.plan_certificate.specs.declared.verdict.Reason.TheVariants as reason
use Rattle.control_sets.specs.declared.fault.ProvisionFault.TheVariants as provision
use Rattle.sim_module.specs.declared.fault.SimFault.TheVariants as sim
use Rattle.reports.specs.declared.fault.ReportFault.TheVariants as report
use Rattle.command_line.specs.FaultTexts.{has_sentence}
use Rattle.command_line.specs.declared.fault.Fault.{Fault}
use Rattle.command_line.specs.declared.fault.Fault.TheVariants as fault
use Rattle.command_line.specs.declared.remark.opening.Opening.{Opening}
use Rattle.command_line.specs.declared.remark.opening.Opening.TheVariants.{Empty}

pub each_fault_has_a_sentence : (f : Fault) (opening : Opening) → IsTrue (has_sentence f opening)
unfolding sentences
each_fault_has_a_sentence (fault.Image image.BadHeader) Empty = refl
each_fault_has_a_sentence (fault.Report (report.Sff sff.FlatMemory)) opening = refl
each_fault_has_a_sentence (fault.Report (report.Advert advert.FlatMemory)) opening = refl
each_fault_has_a_sentence (fault.Advert advert.FlatMemory) opening = refl
each_fault_has_a_sentence (fault.Weights (weights.BadKey table.Host)) opening = refl
each_fault_has_a_sentence (fault.Kept kept.TooMany) opening = refl
each_fault_has_a_sentence (fault.Certificate certificate.NoEnd) opening = refl
each_fault_has_a_sentence (fault.Script script.TooLong) opening = refl
each_fault_has_a_sentence (fault.Module sim.BadDelay) opening = refl
each_fault_has_a_sentence (fault.Provision provision.GaveUp) opening = refl
each_fault_has_a_sentence (fault.Bad reason.NoStart number) opening = refl
each_fault_has_a_sentence f opening = refl
