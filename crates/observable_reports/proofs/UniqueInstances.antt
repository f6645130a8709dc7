-- The key of an instance ends in its number, behind the last dash, and begins as none of another line does.
use Rattle.std.proofs.Common.{◌≡◌, ◌≢◌, ◌∙◌, ◌+◌, ◌<◌, ◌≤◌, ◌^◌, ◌==◌, ◌&&◌, ℕ, zero, suc, Bool, true, false, not, nat_lt, List, [], ◌∷◌, ◌++◌, append_assoc, length, map, get_or, decimal, codes, refl, sym, ap, subst, if◌then◌else◌, arith}
use Rattle.std.proofs.lemmas.Bool.{false≢true, ne_eqb}
use Rattle.std.proofs.lemmas.Fmt.{decimal_injective, decimal_is_IsNumeral}
use Rattle.std.proofs.lemmas.List.{map-append}
use Rattle.std.proofs.lemmas.List.Quantifiers.{all_pairs_push}
use Rattle.std.proofs.lemmas.Str.Parse.{digit_at}
use Rattle.std.specs.List.{AllByRecursion, AllPairs, flat_map}
use Rattle.applications.specs.Descriptors.{apps_of}
use Rattle.applications.specs.declared.app.App.{App}
use Rattle.field_tables.specs.declared.field.Field.TheVariants as fields
use Rattle.field_tables.specs.declared.table.cmis.CmisField.TheVariants as cmis_fields
use Rattle.field_tables.specs.Readings.{number}
use Rattle.module_decoding.specs.CmisPages.{is_flat}
use Rattle.module_decoding.specs.ModuleFamilies.{detail_family_of}
use Rattle.module_details.specs.AppDetails.{app_entries, app_entry, apps_entries, are_unread, host_entry, interface_entries, lane_entries, medium_entry, start_entries}
use Rattle.module_details.specs.CmisDetails as cmis
use Rattle.module_details.specs.Families.{cmis_entries, lacks_diagnostics, qsfp_entries, sfp_entries, tables_entries}
use Rattle.module_details.specs.QsfpDetails as qsfp
use Rattle.module_details.specs.SfpDetails as sfp
use Rattle.observables.specs.Observations.{instance_places}
use Rattle.observables.specs.declared.observation.Observation.{Observation}
use Rattle.paged_memory.specs.Images.{Memory}
use Rattle.paged_memory.specs.declared.family.Family.{Family}
use Rattle.paged_memory.specs.declared.family.Family.TheVariants as families
use Rattle.report_entries.specs.Entries.{Entry, entry}
use Rattle.report_entries.specs.Facts.{key_text}
use Rattle.reports.proofs.SameBanks.{Further, no_further, numbered, numbers, up_to_1, up_to_2, up_to_3}
use Rattle.reports.proofs.UniqueDetails.{each_passes, keys_of}
use Rattle.reports.specs.Details.{details_entries, entries_in}
use Rattle.reports.specs.UniqueDetails.{entry_key}
use Rattle.observable_reports.specs.Details.{instance_key, observed_name}
use Rattle.observable_reports.specs.ListedInstances.{all_listed}
use Rattle.observable_reports.proofs.ListedInstances.{all_append, each_listed}
use Rattle.observable_reports.specs.UniqueInstances.{InstancesHaveUniqueKeys}
use Rattle.observable_reports.specs.declared.listed_instances.Seen.{Seen}

-- ---- the number of a key

-- what stands behind the last dash, if there is one
abbrev behind : List ℕ → List ℕ → List ℕ
behind found [] = found
behind found (x ∷ xs) = behind (if x == 45 then xs else found) xs

abbrev HasNoDash : List ℕ → Type 0
HasNoDash xs = (k : ℕ) → k < length xs → get_or xs k 0 ≢ 45

behind_none : (found xs : List ℕ) → HasNoDash xs → behind found xs ≡ found
behind_none found [] none = refl
behind_none found (x ∷ xs) none =
    let other : (x == 45) ≡ false = ne_eqb x 45 (none 0 (omega arith)) in
    ap (λ (dash : Bool). behind (if dash then xs else found) xs) other ∙ behind_none found xs (λ k l. none (suc k) (omega (arith, l)))

-- it is what it is of the end, whatever stands before
behind_more : (found xs ys rest : List ℕ) → ((before : List ℕ) → behind before ys ≡ rest) → behind found (xs ++ ys) ≡ rest
behind_more found [] ys rest is = is found
behind_more found (x ∷ xs) ys rest is = behind_more (if x == 45 then xs ++ ys else found) xs ys rest is

has_no_dash : (n : ℕ) → n < 2 ^ 64 → HasNoDash (decimal n)
has_no_dash n fits k l dash =
    let digit = digit_at (decimal n) k (decimal_is_IsNumeral n fits).0.1 l in
    absurd (omega (arith, digit.0, dash))

ends_in_number : (seen : Seen) → seen.number < 2 ^ 64 → behind [] (instance_key seen) ≡ decimal seen.number
unfolding instance_key
ends_in_number seen fits =
    let name = observed_name seen.observation in
    let digits = decimal seen.number in
    behind_more [] (codes "vdm-") ((name ++ codes "-instance-") ++ digits) digits
    (λ first. ap (behind first) (append_assoc name (codes "-instance-") digits)
    ∙ behind_more first name (codes "-instance-" ++ digits) digits
    (λ second. behind_more second (codes "-instance") (45 ∷ digits) digits (λ third. behind_none digits digits (has_no_dash seen.number fits))))

same_number : (one other : Seen) → one.number < 2 ^ 64 → other.number < 2 ^ 64 → instance_key one ≡ instance_key other → one.number ≡ other.number
same_number one other fits other_fits same =
    decimal_injective one.number other.number fits other_fits (sym (ends_in_number one fits) ∙ ap (behind []) same ∙ ends_in_number other other_fits)

-- ---- one more instance

abbrev keys : List Seen → List (List ℕ)
keys seen = map instance_key seen

abbrev AreDistinct : List Seen → Type 0
AreDistinct seen = AllPairs (λ (one other : List ℕ). one ≢ other) (keys seen)

abbrev AreUpTo : ℕ → List Seen → Type 0
AreUpTo n seen = AllByRecursion (λ (s : Seen). s.number ≤ n) seen

at : (P : List ℕ → Type 0) (xs : List (List ℕ)) → AllByRecursion P xs → (k : ℕ) (d : List ℕ) → k < length xs → P (get_or xs k d)
at P [] all k d l = absurd (omega (arith, l))
at P (x ∷ xs) all zero d l = all.0
at P (x ∷ xs) all (suc k) d l = at P xs all.1 k d (omega (arith, l))

unlike : (n : ℕ) (seen : List Seen) (last : Seen) → n < 1024 → last.number ≡ suc n → AreUpTo n seen → AllByRecursion (λ (key : List ℕ). key ≢ instance_key last) (keys seen)
unlike n [] last few is below = tt
unlike n (s ∷ seen) last few is below =
    let fits : s.number < 2 ^ 64 = omega (arith, below.0, few) in
    let last_fits : last.number < 2 ^ 64 = omega (arith, is, few) in
    (λ same. let clash = same_number s last fits last_fits same in absurd (omega (arith, clash, is, below.0)), unlike n seen last few is below.1)

more_up_to : (n : ℕ) (seen : List Seen) → AreUpTo n seen → AreUpTo (suc n) seen
more_up_to n [] below = tt
more_up_to n (s ∷ seen) below = (omega (arith, below.0), more_up_to n seen below.1)

record AreNumbered (n : ℕ) (seen : List Seen) : Type 0 where
  pub below : AreUpTo n seen
  pub apart : n ≤ 1024 → AreDistinct seen

numbered_one : (n : ℕ) (seen : List Seen) (found : Observation) → AreNumbered n seen → AreNumbered (suc n) (seen ++ record { number = suc n; observation = found } ∷ [])
numbered_one n seen found are =
    let last : Seen = record { number = suc n; observation = found } in
    record {
      below = all_append (λ (s : Seen). s.number ≤ suc n) seen (last ∷ []) (more_up_to n seen are.below) (omega arith, tt);
      apart = λ few.
          subst (λ (ks : List (List ℕ)). AllPairs (λ (one other : List ℕ). one ≢ other) ks) (sym (map-append instance_key seen (last ∷ [])))
          (all_pairs_push (λ (one other : List ℕ). one ≢ other) (keys seen) (instance_key last) (are.apart (omega (arith, few)))
          (at (λ (key : List ℕ). key ≢ instance_key last) (keys seen) (unlike n seen last (omega (arith, few)) refl are.below)));
    }

numbered_all : (memory : Memory) → AreNumbered instance_places (all_listed memory)
numbered_all memory =
    each_listed AreNumbered (record { below = tt; apart = λ few i j d before last. absurd (omega (arith, last)) })
    (λ n seen are. record { below = more_up_to n seen are.below; apart = λ few. are.apart (omega (arith, few)) })
    numbered_one memory instance_places

-- ---- other lines

-- it doesn't begin as the key of an instance does
abbrev is_apart : List ℕ → Bool
is_apart [] = false
is_apart (x ∷ []) = false
is_apart (x ∷ y ∷ more) = not (x == 118 && y == 100)

apart_key : (key : List ℕ) (seen : Seen) → is_apart key ≡ true → key ≢ instance_key seen
unfolding instance_key
apart_key key seen apart same = false≢true (sym (ap is_apart same) ∙ apart)

each_apart : (seen : Seen) (entries : List Entry) → AllByRecursion (λ (key : List ℕ). is_apart key ≡ true) (keys_of entries) → AllByRecursion (λ (e : Entry). entry_key e ≢ instance_key seen) entries
each_apart seen [] all = tt
each_apart seen (e ∷ entries) all = (apart_key (entry_key e) seen all.0, each_apart seen entries all.1)

abbrev AreApart : List Entry → Type 0
AreApart entries = AllByRecursion (λ (key : List ℕ). is_apart key ≡ true) (keys_of entries)

apart_append : (xs ys : List Entry) → AreApart xs → AreApart ys → AreApart (xs ++ ys)
apart_append [] ys all more = more
apart_append (x ∷ xs) ys all more = (all.0, apart_append xs ys all.1 more)

app_apart : (flat : Bool) (media : ℕ) (app : App) → AreApart (app_entries flat media app)
unfolding app_entries interface_entries host_entry medium_entry lane_entries start_entries app_entry entry key_text
app_apart flat media app = by flat (flat && nat_lt 8 app.number)
  where
    starts : (flat : Bool) → AreApart (start_entries flat app)
    starts true = (refl, tt)
    starts false = (refl, (refl, tt))

    by : (flat left_out : Bool) → AreApart (if left_out then [] else interface_entries media app ++ (lane_entries app ++ start_entries flat app))
    by flat true = tt
    by flat false = (refl, (refl, (refl, (refl, starts flat))))

apps_apart : (flat : Bool) (media : ℕ) (apps : List App) → AreApart (flat_map (app_entries flat media) apps)
apps_apart flat media [] = tt
apps_apart flat media (app ∷ apps) = apart_append (app_entries flat media app) (flat_map (app_entries flat media) apps) (app_apart flat media app) (apps_apart flat media apps)

read_apart : (unread : Bool) (entries : List Entry) → AreApart entries → AreApart (if unread then [] else entries)
read_apart true entries all = tt
read_apart false entries all = all

banks_apart : (further : Further) (memory : Memory) (flat : Bool) → AreApart (tables_entries memory (numbers further) flat cmis.tables_of_rows)
unfolding key_text cmis.identity_rows cmis.characteristics_rows cmis.controls_rows cmis.status_rows cmis.lanes_rows
banks_apart no_further = each_passes is_apart [] refl cmis.tables_of_rows refl refl
banks_apart up_to_1 = each_passes is_apart (1 ∷ []) refl cmis.tables_of_rows refl refl
banks_apart up_to_2 = each_passes is_apart (1 ∷ 2 ∷ []) refl cmis.tables_of_rows refl refl
banks_apart up_to_3 = each_passes is_apart (1 ∷ 2 ∷ 3 ∷ []) refl cmis.tables_of_rows refl refl

family_apart : (family : Family) (memory : Memory) → AreApart (entries_in family memory)
unfolding cmis_entries qsfp_entries sfp_entries apps_entries key_text qsfp.identity_rows qsfp.compliance_rows qsfp.options_rows qsfp.status_rows sfp.identity_rows sfp.compliance_rows sfp.options_rows sfp.status_rows sfp.calibrated_rows
family_apart families.Cmis memory =
    let flat = is_flat memory in
    let found = numbered true flat memory in
    let rows = subst (λ (banks : List ℕ). AreApart (tables_entries memory banks flat cmis.tables_of_rows)) found.1 (banks_apart found.0 memory flat) in
    let apps = flat_map (app_entries flat (number memory (fields.Cmis cmis_fields.MediaType))) (apps_of memory) in
    apart_append _ _ rows (read_apart (are_unread memory) apps (apps_apart flat (number memory (fields.Cmis cmis_fields.MediaType)) (apps_of memory)))
family_apart families.Sff8636 memory = each_passes is_apart [] refl qsfp.tables_of_rows refl refl memory false
family_apart families.Sff8472 memory = each_passes is_apart [] refl sfp.tables_of_rows refl refl memory (lacks_diagnostics memory)

pub instances_have_unique_keys : InstancesHaveUniqueKeys
unfolding details_entries
instances_have_unique_keys = record {
  among = λ memory. (numbered_all memory).apart (omega arith);
  beside = λ memory seen. each_apart seen (entries_in (detail_family_of memory) memory) (family_apart (detail_family_of memory) memory);
}
