-- The calls that decode a module look at its family first, so they never answer that its identifier is of another family; nor do they
-- look for limits in flat memory.
use Rattle.std.proofs.Common.{◌≡◌, ℕ, Bool, true, false, not, List, [], ◌∷◌, ◌++◌, drop, map, Option, Some, None, refl, cond, find, if◌then◌else◌}
use Rattle.std.specs.Prelude.{◌≢◌, ◌&&◌, ◌||◌, IfSome, IsTrue}
use Rattle.std.specs.List.{list_all}
use Rattle.std.specs.Option.{option_map, option_or}
use Rattle.std.proofs.lemmas.Bool.{and_from, and_parts, or_right}
use Rattle.bus_model.specs.declared.device.Dev.TheVariants.{A0}
use Rattle.paged_memory.specs.declared.family.Family.{Family}
use Rattle.paged_memory.specs.declared.family.Family.TheVariants.{Cmis, Sff8636, Sff8472}
use Rattle.paged_memory.specs.declared.key.Key.{Key}
use Rattle.paged_memory.specs.Families.{family_by, is_of}
use Rattle.paged_memory.specs.Images.{Memory}
use Rattle.paged_memory.specs.Keys.{lower_key}
use Rattle.field_tables.specs.declared.field.Field.TheVariants as fields
use Rattle.field_tables.specs.declared.table.cmis.CmisField.TheVariants as cmis
use Rattle.field_tables.specs.declared.table.sff8636.Sff8636Field.TheVariants as sff8636_fields
use Rattle.field_tables.specs.declared.table.sff8472.Sff8472Field.TheVariants as sff8472_fields
use Rattle.field_tables.specs.declared.sff_fault.SffFault.{SffFault}
use Rattle.field_tables.specs.FieldValues.{value_in}
use Rattle.field_tables.specs.FirstFault.{first_fault}
use Rattle.field_tables.specs.Halves.{is_absent}
use Rattle.field_tables.specs.Readings.{bit, number, reading_at}
use Rattle.field_tables.specs.Reasons.{Reason, judged, refused_by}
use Rattle.applications.specs.Refusals.{is_read_revision}
use Rattle.module_decoding.specs.declared.report.DecodeFault.{DecodeFault}
use Rattle.module_decoding.specs.declared.report.DecodeFault.TheVariants.{Module, Sff}
use Rattle.module_decoding.specs.declared.report.Report.{Report}
use Rattle.module_decoding.specs.declared.report.Report.TheVariants.{Inventory, Monitors, Flags}
use Rattle.module_decoding.specs.CmisPages.{absent_page, is_flat}
use Rattle.module_decoding.specs.declared.module_family.ModuleFault.{ModuleFault}
use Rattle.module_decoding.specs.ModuleFamilies as families
use Rattle.module_decoding.specs.ModuleFamilies.{family_of, identifier, module_fault}
use Rattle.module_decoding.specs.Reports.{fault_in, fault_of, lacked, of_sff, pages_of, sff8472_fault, sff8636_fault}
use Rattle.sff8636_map.specs.Refusals as sff8636
use Rattle.sff8636_map.specs.Refusals.{module_fault as qsfp_module_fault, identity_fault as qsfp_identity_fault, threshold_fault as qsfp_threshold_fault, measured_fault as qsfp_measured_fault}
use Rattle.sff8472_map.specs.Refusals as sff8472
use Rattle.sff8472_map.specs.Refusals.{module_fault as sfp_module_fault, flags_fault as sfp_flags_fault, measured_fault as sfp_measured_fault}
use Rattle.firmware_api.specs.declared.status.Refusal.TheVariants.{Decode}
use Rattle.firmware_api.specs.Halves.{report_refusal}
use Rattle.firmware_api.specs.Statuses.{is_answered}

abbrev AreAnswered : Option DecodeFault → Type 0
AreAnswered fault = IfSome (option_map Decode fault) (λ r. IsTrue (is_answered r))

-- what applies is answered
abbrev are_told : List (Bool × SffFault) → Bool
are_told faults = list_all (λ fault. not fault.0 || is_answered (Decode (Sff fault.1))) faults

first_told : (faults : List (Bool × SffFault)) → IsTrue (are_told faults) → AreAnswered (of_sff (first_fault faults))
first_told [] all = tt
first_told ((applies, fault) ∷ faults) all =
    (elim applies as (λ b. IsTrue ((not b || is_answered (Decode (Sff fault))) && are_told faults) →
    AreAnswered (of_sff (option_map (λ (f : Bool × SffFault). f.1) (cond b (Some (b, fault)) (find (λ (f : Bool × SffFault). f.0) faults))))) [
      | true ↦ λ all. (and_parts (is_answered (Decode (Sff fault))) (are_told faults) all).0
      | false ↦ λ all. first_told faults all
    ]) all

all_answered : (faults : List (Bool × SffFault)) → IsTrue (list_all (λ fault. is_answered (Decode (Sff fault.1))) faults) → IsTrue (are_told faults)
all_answered [] all = refl
all_answered ((applies, fault) ∷ faults) all =
    let parts = and_parts (is_answered (Decode (Sff fault))) (list_all (λ (f : Bool × SffFault). is_answered (Decode (Sff f.1))) faults) all in
    and_from (not applies || is_answered (Decode (Sff fault))) (are_told faults)
    (or_right (not applies) (is_answered (Decode (Sff fault))) parts.0)
    (all_answered faults parts.1)

lacking : (page : Option Key) → AreAnswered (lacked page)
lacking None = tt
lacking (Some key) = refl

-- ---- which family it is

module _ (memory : Memory) where
  abbrev IsOf : Family → Type 0
  IsOf family = family_by (identifier memory) ≡ Some family

  known_by : (absent : Bool) (one other : Bool × ModuleFault) → option_map (λ (f : Bool × ModuleFault). f.1) (cond absent (Some one) (Some other)) ≢ None
  known_by true one other = λ same. cc
  known_by false one other = λ same. cc

  is_known : (found : Option Family) → family_by (identifier memory) ≡ found → families.fault_in found (is_read_revision (number memory (fields.Cmis cmis.Revision))) memory ≡ None → (family : Family) × IsOf family
  unfolding families.fault_in
  is_known (Some family) is none = (family, is)
  is_known None is none = absurd (known_by (is_absent memory (lower_key A0)) _ _ none)

  -- ---- the reasons against modules of SFF

  own : (family : Family) (id : ℕ) → family_by id ≡ Some family → not (is_of family id) ≡ false
  own Cmis id is = rw (is) refl
  own _ id is = rw (is) refl

  qsfp_own : IsOf Sff8636 → not (is_of Sff8636 (number memory (fields.Sff8636 sff8636_fields.Identifier))) ≡ false
  unfolding reading_at value_in
  qsfp_own is = own Sff8636 (number memory (fields.Sff8636 sff8636_fields.Identifier)) is

  sfp_own : IsOf Sff8472 → not (is_of Sff8472 (number memory (fields.Sff8472 sff8472_fields.Identifier))) ≡ false
  unfolding reading_at value_in
  sfp_own is = own Sff8472 (number memory (fields.Sff8472 sff8472_fields.Identifier)) is

  abbrev told : List (Reason SffFault) → Bool
  told reasons = are_told (map (judged memory) reasons)

  of_qsfp : IsOf Sff8636 → (reasons : List (Reason SffFault)) → IsTrue (told reasons) → IsTrue (told (sff8636.module_reasons ++ reasons))
  of_qsfp is reasons rest = rw (or_right (not (is_absent memory (lower_key A0))) true refl, qsfp_own is) rest

  of_sfp : IsOf Sff8472 → (reasons : List (Reason SffFault)) → IsTrue (told reasons) → IsTrue (told (sff8472.module_reasons ++ reasons))
  of_sfp is reasons rest = rw (or_right (not (is_absent memory (lower_key A0))) true refl, sfp_own is) rest

  refused : (reasons : List (Reason SffFault)) → IsTrue (told reasons) → AreAnswered (of_sff (refused_by memory reasons))
  refused reasons all = first_told (map (judged memory) reasons) all

  qsfp_module : IsOf Sff8636 → AreAnswered (of_sff (sff8636.module_fault memory))
  unfolding qsfp_module_fault
  qsfp_module is = refused sff8636.module_reasons (of_qsfp is [] refl)

  qsfp_identity : IsOf Sff8636 → AreAnswered (of_sff (sff8636.identity_fault memory))
  unfolding qsfp_identity_fault
  qsfp_identity is = refused sff8636.identity_reasons (of_qsfp is (drop 2 sff8636.identity_reasons) (all_answered (map (judged memory) (drop 2 sff8636.identity_reasons)) refl))

  -- limits are looked for if memory is not flat
  with_limits : (flat : Bool) → bit memory (fields.Sff8636 sff8636_fields.FlatMemory) ≡ flat → IsOf Sff8636 → AreAnswered (of_sff (if flat then None else sff8636.threshold_fault memory))
  unfolding qsfp_threshold_fault
  with_limits true flat is = tt
  with_limits false flat is = refused sff8636.threshold_reasons (of_qsfp is (drop 2 sff8636.threshold_reasons) (rw (flat) (all_answered (map (judged memory) (drop 3 sff8636.threshold_reasons)) refl)))

  either : (one other : Option SffFault) → AreAnswered (option_map Sff one) → AreAnswered (option_map Sff other) → AreAnswered (of_sff (option_or one other))
  either None other first later = later
  either (Some fault) other first later = first

  qsfp_measured : IsOf Sff8636 → AreAnswered (of_sff (sff8636.measured_fault memory))
  unfolding qsfp_measured_fault
  qsfp_measured is = either (sff8636.module_fault memory) (if bit memory (fields.Sff8636 sff8636_fields.FlatMemory) then None else sff8636.threshold_fault memory) (qsfp_module is) (with_limits (bit memory (fields.Sff8636 sff8636_fields.FlatMemory)) refl is)

  sfp_module : IsOf Sff8472 → AreAnswered (of_sff (sff8472.module_fault memory))
  unfolding sfp_module_fault
  sfp_module is = refused sff8472.module_reasons (of_sfp is [] refl)

  sfp_flags : IsOf Sff8472 → AreAnswered (of_sff (sff8472.flags_fault memory))
  unfolding sfp_flags_fault
  sfp_flags is = refused sff8472.flags_reasons (of_sfp is (drop 2 sff8472.flags_reasons) (all_answered (map (judged memory) (drop 2 sff8472.flags_reasons)) refl))

  sfp_measured : IsOf Sff8472 → AreAnswered (of_sff (sff8472.measured_fault memory))
  unfolding sfp_measured_fault
  sfp_measured is = refused sff8472.measured_reasons (of_sfp is (drop 2 sff8472.measured_reasons) (all_answered (map (judged memory) (drop 2 sff8472.measured_reasons)) refl))

  -- ---- the reports

  qsfp_later : (report : Report) → IsOf Sff8636 → AreAnswered (of_sff (sff8636_fault report memory))
  qsfp_later Inventory is = qsfp_identity is
  qsfp_later Monitors is = qsfp_measured is
  qsfp_later Flags is = qsfp_module is

  sfp_later : (report : Report) → IsOf Sff8472 → AreAnswered (of_sff (sff8472_fault report memory))
  sfp_later Inventory is = sfp_module is
  sfp_later Monitors is = sfp_measured is
  sfp_later Flags is = sfp_flags is

  later : (report : Report) (family : Family) → IsOf family → AreAnswered (fault_in report family memory)
  later report Cmis is = lacking (absent_page (pages_of report (is_flat memory)) memory)
  later report Sff8636 is = qsfp_later report is
  later report Sff8472 is = sfp_later report is

  by_family : (report : Report) (family : Family) → IsOf family → AreAnswered (fault_in report (family_of memory) memory)
  unfolding family_of
  by_family report family is = rw (is) (later report family is)

  by_fault : (report : Report) (fault : Option ModuleFault) → module_fault memory ≡ fault →
      AreAnswered (option_or (option_map (λ f. Module f) fault) (fault_in report (family_of memory) memory))
  unfolding module_fault
  by_fault report (Some fault) is = refl
  by_fault report None is = let known = is_known (family_by (identifier memory)) refl is in by_family report known.0 known.1

  answered : (report : Report) → AreAnswered (fault_of report memory)
  unfolding fault_of
  answered report = by_fault report (module_fault memory) refl

pub of_report : (report : Report) (memory : Memory) → IfSome (report_refusal report memory) (λ r. IsTrue (is_answered r))
unfolding report_refusal
of_report report memory = answered memory report
