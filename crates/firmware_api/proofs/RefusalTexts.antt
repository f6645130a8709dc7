-- Each refusal that calls answer has a text.
use Rattle.std.proofs.Common.{refl}
use Rattle.std.specs.Prelude.{IsTrue, is_some}
use Rattle.notices.specs.Numbers.{statuses, text_by}
use Rattle.notices.specs.Sentences.{sentences}
use Rattle.applications.specs.declared.fault.AdvertFault.{AdvertFault}
use Rattle.applications.specs.declared.fault.AdvertFault.TheVariants as advert
use Rattle.plan_certificate.specs.declared.fault.CertificateFault.{CertificateFault}
use Rattle.plan_certificate.specs.declared.fault.CertificateFault.TheVariants as certificate
use Rattle.sim_module.specs.declared.fault.SimFault.{SimFault}
use Rattle.sim_module.specs.declared.fault.SimFault.TheVariants as sim
use Rattle.module_decoding.specs.declared.module_family.ModuleFault.{ModuleFault}
use Rattle.module_decoding.specs.declared.module_family.ModuleFault.TheVariants as module_fault
use Rattle.module_decoding.specs.declared.report.DecodeFault.TheVariants.{Module, Sff}
use Rattle.field_tables.specs.declared.sff_fault.SffFault.{SffFault}
use Rattle.field_tables.specs.declared.sff_fault.SffFault.TheVariants as sff
use Rattle.applications.specs.declared.weights.lines.WeightLinesFault.{WeightLinesFault}
use Rattle.applications.specs.declared.weights.lines.WeightLinesFault.TheVariants as weights
use Rattle.lane_controls.specs.declared.signal_settings.SettingFault.TheVariants as setting
use Rattle.saved_lanes.specs.declared.settings.targets.SettingsRefusal.{SettingsRefusal}
use Rattle.saved_lanes.specs.declared.settings.targets.SettingsRefusal.TheVariants as settings
use Rattle.firmware_api.specs.Statuses.{is_answered, status_of}
use Rattle.firmware_api.specs.declared.status.Refusal.{Refusal}
use Rattle.firmware_api.specs.declared.status.Refusal.TheVariants as refusal

of_advert : (f : AdvertFault) → IsTrue (is_answered (refusal.Advert f)) → IsTrue (is_some (text_by statuses (status_of (refusal.Advert f))))
unfolding statuses sentences
of_advert (advert.Absent x) answered = refl
of_advert _ answered = refl

of_certificate : (f : CertificateFault) → IsTrue (is_answered (refusal.Certificate f)) → IsTrue (is_some (text_by statuses (status_of (refusal.Certificate f))))
unfolding statuses sentences
of_certificate (certificate.BadLine x) answered = refl
of_certificate _ answered = refl

of_start : (f : SimFault) → IsTrue (is_answered (refusal.NoStart f)) → IsTrue (is_some (text_by statuses (status_of (refusal.NoStart f))))
unfolding statuses sentences
of_start (sim.Advert f) answered = of_advert f refl
of_start _ answered = refl

of_module : (f : ModuleFault) → IsTrue (is_some (text_by statuses (status_of (refusal.Decode (Module f)))))
unfolding statuses sentences
of_module (module_fault.Absent x) = refl
of_module _ = refl

of_sff : (f : SffFault) → IsTrue (is_answered (refusal.Decode (Sff f))) → IsTrue (is_some (text_by statuses (status_of (refusal.Decode (Sff f)))))
unfolding statuses sentences
of_sff (sff.WrongIdentifier x) answered = absurd cc
of_sff sff.FlatMemory answered = absurd cc
of_sff _ answered = refl

of_weights : (f : WeightLinesFault) → IsTrue (is_answered (refusal.Weights f)) → IsTrue (is_some (text_by statuses (status_of (refusal.Weights f))))
unfolding statuses sentences
of_weights (weights.BadLine x) answered = refl
of_weights _ answered = refl

of_settings : (r : SettingsRefusal) → IsTrue (is_some (text_by statuses (status_of (refusal.Settings r))))
unfolding statuses sentences
of_settings (settings.NotAdvertised setting.Recall) = refl
of_settings (settings.NotAdvertised setting.FixedInput) = refl
of_settings (settings.NotAdvertised setting.PreCursor) = refl
of_settings (settings.NotAdvertised setting.PostCursor) = refl
of_settings (settings.NotAdvertised setting.Amplitude) = refl
of_settings settings.NotPermitted = refl

pub each_refusal_has_a_text : (r : Refusal) → IsTrue (is_answered r) → IsTrue (is_some (text_by statuses (status_of r)))
unfolding statuses sentences
each_refusal_has_a_text (refusal.Advert f) answered = of_advert f answered
each_refusal_has_a_text (refusal.Certificate f) answered = of_certificate f answered
each_refusal_has_a_text (refusal.NoStart f) answered = of_start f answered
each_refusal_has_a_text (refusal.Decode (Module f)) answered = of_module f
each_refusal_has_a_text (refusal.Decode (Sff f)) answered = of_sff f answered
each_refusal_has_a_text (refusal.Weights f) answered = of_weights f answered
each_refusal_has_a_text (refusal.Settings r) answered = of_settings r
each_refusal_has_a_text _ answered = refl
