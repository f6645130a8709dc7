-- Where a fault is, by its values, each in the base in which it stands in the input or in the standards. (docs/faults.md; this
-- project's own)
use Rattle.std.specs.Prelude.{ℕ, List, [], ◌∷◌, ◌++◌, ◌/◌, ◌%◌, ◌==◌, if◌then◌else◌, Option, Some, None, codes, get_or, slice_index}
use Rattle.std.specs.Fmt.{decimal}
use Rattle.hex.specs.Hex.{upper_digits}
use Rattle.paged_memory.specs.ImageText.{key_text}
use Rattle.paged_memory.specs.declared.fault.ImageFault.TheVariants as image
use Rattle.bus_model.specs.declared.fault.ScriptFault.TheVariants as script
use Rattle.field_tables.specs.declared.sff_fault.SffFault.TheVariants as sff
use Rattle.applications.specs.declared.fault.AdvertFault.{AdvertFault}
use Rattle.applications.specs.declared.fault.AdvertFault.TheVariants as advert
use Rattle.applications.specs.declared.weights.table.WeightTable.TheVariants as table
use Rattle.applications.specs.declared.weights.fault.WeightsFault.TheVariants as weights
use Rattle.plan_certificate.specs.declared.fault.CertificateFault.TheVariants as certificate
use Rattle.plan_certificate.specs.declared.fault.KeptFault.TheVariants as kept
use Rattle.plan_certificate.specs.declared.verdict.Reason.TheVariants as reason
use Rattle.control_sets.specs.declared.fault.ProvisionFault.TheVariants as provision
use Rattle.sim_module.specs.declared.fault.SimFault.TheVariants as sim
use Rattle.reports.specs.declared.fault.ReportFault.TheVariants as report
use Rattle.command_line.specs.declared.fault.Fault.{Fault}
use Rattle.command_line.specs.declared.fault.Fault.TheVariants as fault
use Rattle.command_line.specs.declared.remark.place.Place.{Place}
use Rattle.command_line.specs.declared.remark.place.Place.TheVariants.{Nowhere, Parts, ImageLine, WeightsLine, KeptLine, CertificateLine, ScriptLine, Half, Page, Identifier, Revision, WeightsKey, Path, KeptPath, Entry, Lane, LaneStatus, State, Code}

-- of the words of a fault the first is its code
abbrev pub first_word : List (List ℕ) → List ℕ
first_word words = get_or words 0 []

-- of one that comes alone and in reports
abbrev pub place_of_advert : AdvertFault → Place
place_of_advert (advert.NotCmis identifier) = Identifier identifier
place_of_advert (advert.Revision revision) = Revision revision
place_of_advert (advert.Absent key) = Half key
place_of_advert (advert.BadSum page) = Page page
place_of_advert (advert.NotEightLanes identifier) = Identifier identifier
place_of_advert advert.FlatMemory = Nowhere

-- where a fault is: of weights the key that it names, or else that line of them, if one is given
abbrev pub place_of : Fault → Option ℕ → Place
place_of (fault.Weights (weights.SameKeyTwice table number)) line = WeightsKey table number
place_of (fault.Weights (weights.BadWeight table number)) line = WeightsKey table number
place_of (fault.Weights weights.Memory) line = Nowhere
place_of (fault.Weights f) line = WeightsLine line
place_of (fault.Parts count) line = Parts count
place_of (fault.Image (image.BadLine number)) line = ImageLine number
place_of (fault.Image (image.OutOfOrder number)) line = ImageLine number
place_of (fault.Report (report.Unknown identifier)) line = Identifier identifier
place_of (fault.Report (report.Revision revision)) line = Revision revision
place_of (fault.Report (report.Absent key)) line = Half key
place_of (fault.Report (report.Sff (sff.WrongIdentifier identifier))) line = Identifier identifier
place_of (fault.Report (report.Sff (sff.Absent key))) line = Half key
place_of (fault.Report (report.Advert f)) line = place_of_advert f
place_of (fault.Advert f) line = place_of_advert f
place_of (fault.Kept (kept.BadLine number)) line = KeptLine number
place_of (fault.Kept (kept.NotAdmissible number)) line = KeptPath number
place_of (fault.Certificate (certificate.BadLine number)) line = CertificateLine number
place_of (fault.Certificate (certificate.OutOfOrder number)) line = CertificateLine number
place_of (fault.Bad reason.PathNotAllowed number) line = Path number
place_of (fault.Bad reason.LaneTwice number) line = Path number
place_of (fault.Bad reason.NotClosed number) line = Entry number
place_of (fault.Bad reason.TooLow number) line = Entry number
place_of (fault.Bad reason.KeptNotAdmissible number) line = KeptPath number
place_of (fault.Bad reason.KeptMissing number) line = KeptPath number
place_of (fault.Script (script.BadLine number)) line = ScriptLine number
place_of (fault.Module (sim.Absent key)) line = Half key
place_of (fault.Module (sim.ActiveNotPaths lane)) line = Lane lane
place_of (fault.Provision (provision.Rejected lane status)) line = LaneStatus lane status
place_of (fault.Provision (provision.StagedDiffers lane)) line = Lane lane
place_of (fault.Provision (provision.ActiveDiffers lane)) line = Lane lane
place_of (fault.Provision (provision.ModuleState code)) line = State code
place_of (fault.Provision (provision.Reserved code)) line = Code code
place_of _ line = Nowhere

-- two upper-case digits and `h`
unfoldable pub byte_text : ℕ → List ℕ
byte_text byte = slice_index upper_digits (byte / 16) ∷ slice_index upper_digits (byte % 16) ∷ 104 ∷ []

abbrev pub parts_text : ℕ → List ℕ
parts_text count = if count == 1 then codes ", 1 part" else codes ", " ++ decimal count ++ codes " parts"

-- the place in words, after a comma
abbrev pub place_text : Place → List ℕ
place_text Nowhere = []
place_text (Parts count) = parts_text count
place_text (ImageLine line) = codes ", line " ++ decimal line ++ codes " of the image"
place_text (WeightsLine None) = []
place_text (WeightsLine (Some line)) = codes ", line " ++ decimal line ++ codes " of the weights"
place_text (KeptLine line) = codes ", line " ++ decimal line ++ codes " of the kept paths"
place_text (CertificateLine line) = codes ", line " ++ decimal line ++ codes " of the certificate"
place_text (ScriptLine line) = codes ", line " ++ decimal line ++ codes " of the script"
place_text (Half key) = codes ", " ++ key_text key
place_text (Page page) = codes ", page " ++ byte_text page
place_text (Identifier identifier) = codes ", identifier " ++ byte_text identifier
place_text (Revision revision) = codes ", revision " ++ decimal (revision / 16) ++ codes "." ++ decimal (revision % 16)
place_text (WeightsKey table.Host host_id) = codes ", key " ++ byte_text host_id
place_text (WeightsKey table.Media media_id) = codes ", key " ++ byte_text media_id ++ codes " of 'media'"
place_text (WeightsKey table.App number) = codes ", key " ++ decimal number ++ codes " of 'app'"
place_text (Path number) = codes ", path " ++ decimal number
place_text (KeptPath number) = codes ", kept path " ++ decimal number
place_text (Entry number) = codes ", entry " ++ decimal number
place_text (Lane lane) = codes ", lane " ++ decimal lane
place_text (LaneStatus lane status) = codes ", lane " ++ decimal lane ++ codes ", status " ++ decimal status
place_text (State code) = codes ", state " ++ decimal code
place_text (Code code) = codes ", code " ++ decimal code
