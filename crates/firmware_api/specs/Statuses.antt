-- The numbers by which C knows families, yes and no, and refusals. In those of faults the last digit is the number in the fault's code.
-- (docs/firmware.md, "Decoders" and "Statuses"; this project's own)
use Rattle.std.specs.Prelude.{ℕ, Bool, true, false, if◌then◌else◌, Option, Some, None, Result, Ok, Err}
use Rattle.applications.specs.declared.fault.AdvertFault.{AdvertFault}
use Rattle.applications.specs.declared.fault.AdvertFault.TheVariants.{NotCmis, Revision, NotEightLanes, FlatMemory, Absent, BadSum}
use Rattle.applications.specs.declared.weights.lines.WeightLinesFault.{WeightLinesFault}
use Rattle.applications.specs.declared.weights.lines.WeightLinesFault.TheVariants as weights_fault
use Rattle.paged_memory.specs.declared.family.Family.{Family}
use Rattle.paged_memory.specs.declared.family.Family.TheVariants as families
use Rattle.field_tables.specs.declared.sff_fault.SffFault.{SffFault}
use Rattle.field_tables.specs.declared.sff_fault.SffFault.TheVariants as sff_fault
use Rattle.module_decoding.specs.declared.module_family.ModuleFault.{ModuleFault}
use Rattle.module_decoding.specs.declared.module_family.ModuleFault.TheVariants as module_fault
use Rattle.module_decoding.specs.declared.report.DecodeFault.{DecodeFault}
use Rattle.module_decoding.specs.declared.report.DecodeFault.TheVariants.{Module, Sff}
use Rattle.plan_certificate.specs.declared.fault.CertificateFault.{CertificateFault}
use Rattle.plan_certificate.specs.declared.fault.CertificateFault.TheVariants.{BadLine, OutOfOrder, TooMany, NoEnd}
use Rattle.lane_controls.specs.declared.signal_settings.SettingFault.TheVariants.{Recall, FixedInput, PreCursor, PostCursor, Amplitude}
use Rattle.saved_lanes.specs.declared.settings.targets.SettingsRefusal.{SettingsRefusal}
use Rattle.saved_lanes.specs.declared.settings.targets.SettingsRefusal.TheVariants.{NotPermitted, NotAdvertised}
use Rattle.sim_module.specs.declared.fault.SimFault.{SimFault}
use Rattle.sim_module.specs.declared.fault.SimFault.TheVariants as sim_fault
use Rattle.firmware_api.specs.declared.status.Refusal.{Refusal}
use Rattle.firmware_api.specs.declared.status.Refusal.TheVariants.{TooManyHalves, NoPlace, NoText, TooSmall, Advert, Certificate, TooManyKept, KeptNotAdmissible, NoConversation, Ended, NotEnded, NoReply, TooFewBytes, NoStart, NoModule, NoRange, NotTaken, Decode, Weights, Settings}

abbrev pub family_number : Family → ℕ
family_number families.Cmis = 1
family_number families.Sff8636 = 2
family_number families.Sff8472 = 3

-- C knows no Bool
abbrev pub number_of : Bool → ℕ
number_of flag = if flag then 1 else 0

-- of a call that did what it is for
abbrev pub done : ℕ
done = 0

-- in the order in which they are looked for, but for an absent lower half, which comes first
abbrev pub advert_status : AdvertFault → ℕ
advert_status (NotCmis identifier) = 11
advert_status (Revision revision) = 12
advert_status (NotEightLanes identifier) = 16
advert_status FlatMemory = 13
advert_status (Absent key) = 14
advert_status (BadSum page) = 15

abbrev pub certificate_status : CertificateFault → ℕ
certificate_status (BadLine line) = 21
certificate_status (OutOfOrder line) = 22
certificate_status TooMany = 23
certificate_status NoEnd = 24

-- in the order in which they are looked for
abbrev pub start_status : SimFault → ℕ
start_status (sim_fault.Absent key) = 51
start_status (sim_fault.Advert fault) = advert_status fault
start_status sim_fault.BadDelay = 53
start_status (sim_fault.ActiveNotPaths lane) = 54

abbrev pub module_status : ModuleFault → ℕ
module_status (module_fault.Unknown identifier) = 71
module_status (module_fault.Revision revision) = 74
module_status (module_fault.Absent key) = 76

abbrev pub sff_status : SffFault → ℕ
sff_status (sff_fault.WrongIdentifier identifier) = 81
sff_status sff_fault.FlatMemory = 82
sff_status (sff_fault.Absent key) = 83
sff_status sff_fault.NoDiagnostics = 84
sff_status sff_fault.ExternalCalibration = 85
sff_status sff_fault.AddressChange = 86

abbrev pub decode_status : DecodeFault → ℕ
decode_status (Module fault) = module_status fault
decode_status (Sff fault) = sff_status fault

abbrev pub weights_status : WeightLinesFault → ℕ
weights_status (weights_fault.BadLine line) = 91
weights_status weights_fault.NoHost = 92
weights_status (weights_fault.SameIdTwice line) = 94

-- of what isn't advertised, in the order in which it is looked for; but what isn't permitted comes first
abbrev pub settings_status : SettingsRefusal → ℕ
settings_status (NotAdvertised Recall) = 101
settings_status (NotAdvertised FixedInput) = 102
settings_status (NotAdvertised PreCursor) = 103
settings_status (NotAdvertised PostCursor) = 104
settings_status (NotAdvertised Amplitude) = 105
settings_status NotPermitted = 106

abbrev pub status_of : Refusal → ℕ
status_of TooManyHalves = 1
status_of NoPlace = 2
status_of NoText = 3
status_of TooSmall = 4
status_of (Advert fault) = advert_status fault
status_of (Certificate fault) = certificate_status fault
status_of NoConversation = 31
status_of Ended = 32
status_of NotEnded = 33
status_of NoReply = 34
status_of TooFewBytes = 36
status_of TooManyKept = 42
status_of KeptNotAdmissible = 43
status_of (NoStart fault) = start_status fault
status_of NoModule = 61
status_of NoRange = 62
status_of NotTaken = 63
status_of (Decode fault) = decode_status fault
status_of (Weights fault) = weights_status fault
status_of (Settings refusal) = settings_status refusal

-- a call is refused, or does what it is for
abbrev pub status_by : Option Refusal → ℕ
status_by None = done
status_by (Some refusal) = status_of refusal

abbrev pub status_in : {A : Type 0} → Result A Refusal → ℕ
status_in (Ok value) = done
status_in (Err refusal) = status_of refusal

-- the same result, with the refusal's number
abbrev pub by_status : {A : Type 0} → Result A Refusal → Result A ℕ
by_status (Ok value) = Ok value
by_status (Err refusal) = Err (status_of refusal)

-- A module's family is known by its identifier before it is decoded, and with flat memory values have no limits: no call answers
-- these two.
abbrev pub is_answered : Refusal → Bool
is_answered (Decode (Sff (sff_fault.WrongIdentifier identifier))) = false
is_answered (Decode (Sff sff_fault.FlatMemory)) = false
is_answered _ = true
