-- Memories that agree in the halves that are read of a module are of the same family, and have the same report if those of the family
-- have.
use Rattle.std.proofs.Common.{◌≡◌, ℕ, ◌<◌, ◌≤◌, ◌&&◌, Bool, true, false, List, [], ◌∷◌, map, Option, Some, None, refl, ap, subst, ◌∙◌, if◌then◌else◌}
use Rattle.std.proofs.lemmas.Bool.{not-false}
use Rattle.std.specs.Prelude.{is_some, not, option_map}
use Rattle.std.specs.List.{AllByRecursion}
use Rattle.std.specs.Option.{option_or}
use Rattle.bus_model.specs.declared.device.Dev.TheVariants.{A0}
use Rattle.paged_memory.specs.declared.family.Family.{Family}
use Rattle.paged_memory.specs.declared.family.Family.TheVariants.{Cmis}
use Rattle.paged_memory.specs.declared.key.Key.{Key}
use Rattle.paged_memory.specs.Families.{family_by, is_family, is_other_cmis, managed_by}
use Rattle.paged_memory.specs.Images.{Memory}
use Rattle.paged_memory.specs.Keys.{lower_key, upper_key}
use Rattle.field_tables.specs.declared.field.Field.TheVariants as fields
use Rattle.field_tables.specs.declared.table.cmis.CmisField.TheVariants as cmis
use Rattle.field_tables.specs.FirstFault.{first_fault}
use Rattle.field_tables.specs.Readings.{number}
use Rattle.field_tables.proofs.SameValues.{Agree, same_absent, same_number}
use Rattle.module_decoding.specs.declared.module_family.ModuleFault.{ModuleFault}
use Rattle.module_decoding.specs.declared.module_family.ModuleFault.TheVariants.{Absent, Unknown, Revision}
use Rattle.module_decoding.specs.ModuleFamilies as families
use Rattle.module_decoding.specs.ModuleFamilies.{identifier, known}
use Rattle.module_reading.specs.declared.region.Region.{Region}
use Rattle.module_reading.specs.Regions.{decides, everything, family_regions, key_of, regions_in, regions_of}
use Rattle.module_reading.proofs.RegionLaws.{begins_lower, same_decides}
use Rattle.observables.specs.Banks.{bank_count}
use Rattle.reports.specs.SameReports.{IsSame}
use Rattle.reports.proofs.SameIf.{KeysAgree, SameIf, is_among}

-- ---- reasons in order

-- no reason applies where there is no fault
pub none_applies : {F : Type 0} (faults : List (Bool × F)) → first_fault faults ≡ None → AllByRecursion (λ fault. fault.0 ≡ false) faults
none_applies [] e = tt
none_applies ((true, fault) ∷ faults) e = absurd cc
none_applies ((false, fault) ∷ faults) e = (refl, none_applies faults e)

pub none_mapped : {A B : Type 0} (f : A → B) (x : Option A) → option_map f x ≡ None → x ≡ None
none_mapped f None e = refl
none_mapped f (Some x) e = absurd cc

-- a report is the same whose faults have other names
pub same_renamed : {E F A : Type 0} (f : E → F) (fault : Memory → Option E) (content : Memory → A) (a b : Memory) → IsSame fault content a b → IsSame (λ m. option_map f (fault m)) content a b
same_renamed f fault content a b same = record { fault = ap (option_map f) same.fault; content = λ none. same.content (none_mapped f (fault a) none) }

-- what is refused for the same reason before, or else has the same fault and says the same, is the same
same_after : {F A : Type 0} (x y u v : Option F) (content other : A) → x ≡ y → (x ≡ None → (u ≡ v) × (u ≡ None → content ≡ other))
    → (option_or x u ≡ option_or y v) × (option_or x u ≡ None → content ≡ other)
same_after {F = F} x y u v content other same later =
    subst (λ (z : Option F). (option_or x u ≡ option_or z v) × (option_or x u ≡ None → content ≡ other)) same (by x later) where
      by : (first : Option F) → (first ≡ None → (u ≡ v) × (u ≡ None → content ≡ other)) → (option_or first u ≡ option_or first v) × (option_or first u ≡ None → content ≡ other)
      by None later = later refl
      by (Some fault) later = (refl, λ none. absurd cc)

-- ---- the halves of a family

abbrev pub keys_by : Family → Bool → List Key
keys_by family holds = map key_of (family_regions everything family holds)

-- the halves agree that are asked for of a module of this family
abbrev pub FamilyAgrees : Memory → Memory → Family → Type 0
FamilyAgrees a b family = (which : Bool) → decides family a ≡ which → KeysAgree a b (keys_by family which)

-- and of one that is found to be of it, or of none
abbrev pub AllAgree : Memory → Memory → Type 0
AllAgree a b = KeysAgree a b (map key_of (regions_of everything a))

-- and page 11h of each further bank that one of them advertises
pub record LanesAgree (a b : Memory) : Type 0 where
  pub all : AllAgree a b
  pub banks : (bank : ℕ) → 1 ≤ bank → bank < bank_count a → Agree a b (upper_key A0 bank 0x11)

pub low_agrees : (a b : Memory) → AllAgree a b → Agree a b (lower_key A0)
low_agrees a b all = all.half (lower_key A0) (ap (λ (regions : List Region). is_among (map key_of regions) (lower_key A0)) (begins_lower everything a))

pub family_agrees : (a b : Memory) (family : Family) → managed_by (identifier a) ≡ Some family → AllAgree a b → FamilyAgrees a b family
family_agrees a b family managed all which is =
    subst (λ (holds : Bool). KeysAgree a b (keys_by family holds)) is (subst (λ (found : Option Family). KeysAgree a b (map key_of (regions_in everything found a))) managed all)

pub found_cmis : (family : Option Family) → is_family Cmis family ≡ true → family ≡ Some Cmis
found_cmis (Some Cmis) e = refl
found_cmis _ e = absurd cc

-- a family that all reports may speak of is the one that manages the module
pub is_managed : (id : ℕ) (family : Family) → family_by id ≡ Some family → managed_by id ≡ Some family
unfolding family_by
is_managed id family e = by (is_other_cmis id) e where
  by : (other : Bool) → (if other then None else managed_by id) ≡ Some family → managed_by id ≡ Some family
  by true none = absurd cc
  by false is = is

module _ (a b : Memory) (low : Agree a b (lower_key A0)) where
  -- what is the same of modules of the family of which either is told
  pub by_told : {A : Type 0} (family : Family) (of : Bool → Memory → A) → FamilyAgrees a b family → (each : (which : Bool) → KeysAgree a b (keys_by family which) → SameIf (of which a) (of which b))
      → ((agree : KeysAgree a b (keys_by family true)) → (each true agree).test ≡ true) → ((agree : KeysAgree a b (keys_by family false)) → (each false agree).test ≡ true)
      → of (decides family a) a ≡ of (decides family b) b
  by_told family of agree each if_true if_false = by (decides family a) (agree (decides family a) refl) ∙ ap (λ (which : Bool). of which b) (same_decides a b low family) where
    by : (which : Bool) → KeysAgree a b (keys_by family which) → of which a ≡ of which b
    by true agree = (each true agree).same (if_true agree)
    by false agree = (each false agree).same (if_false agree)

-- ---- by family

-- a report that is the same in each family is the same, whatever tells the family of an identifier, which revisions are read and what
-- faults are called
pub same_found : {F A : Type 0} (find : ℕ → Option Family) (is_read : ℕ → Bool) (called : ModuleFault → F) (fault_in : Family → Memory → Option F) (content_in : Family → Memory → A) (a b : Memory) → AllAgree a b
    → ((id : ℕ) (family : Family) → find id ≡ Some family → managed_by id ≡ Some family) → ((family : Family) → FamilyAgrees a b family → IsSame (fault_in family) (content_in family) a b)
    → IsSame (λ m. option_or (option_map called (families.fault_in (find (identifier m)) (is_read (number m (fields.Cmis cmis.Revision))) m)) (fault_in (known (find (identifier m))) m)) (λ m. content_in (known (find (identifier m))) m) a b
unfolding families.fault_in
same_found {F} find is_read called fault_in content_in a b all managed each =
    let low = low_agrees a b all in
    let absent = same_absent a b (lower_key A0) low in
    let id = same_number a b (fields.Cmis cmis.Identifier) low refl refl in
    let revision = same_number a b (fields.Cmis cmis.Revision) low refl refl in
    let refused : List (Bool × ModuleFault) = families.faults_in (find (identifier a)) (is_read (number a (fields.Cmis cmis.Revision))) a in
    let refusal : Memory → Option F = λ m. option_map called (families.fault_in (find (identifier m)) (is_read (number m (fields.Cmis cmis.Revision))) m) in
    let same_refusal : refusal a ≡ refusal b = λ i. option_map called (first_fault (
    (absent i, Absent (lower_key A0))
    ∷ (not (is_some (find (id i))), Unknown (id i))
    ∷ (is_family Cmis (find (id i)) && not (is_read (revision i)), Revision (revision i))
    ∷ [])) in
    let same = same_after (refusal a) (refusal b) _ _ _ _ same_refusal (λ none.
    let applies = none_applies refused (none_mapped called (first_fault refused) none) in
    let found = in_found (find (identifier a)) refl (not-false (is_some (find (identifier a))) applies.1.0) in
    (found.fault ∙ (λ i. fault_in (known (find (id i))) b), λ e. found.content e ∙ (λ i. content_in (known (find (id i))) b))) in
    record { fault = same.0; content = same.1 } where
      in_found : (found : Option Family) → find (identifier a) ≡ found → is_some found ≡ true → IsSame (fault_in (known found)) (content_in (known found)) a b
      in_found (Some family) is some = each family (family_agrees a b family (managed (identifier a) family is) all)
      in_found None is some = absurd cc
