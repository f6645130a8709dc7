-- Monitors at fixed places are the same of memories that agree in the halves that those of their family are read from.
use Rattle.std.proofs.Common.{◌≡◌, ◌∙◌, ℕ, zero, suc, ◌+◌, ◌-◌, ◌/◌, ◌%◌, ◌<◌, ◌≤◌, ◌==◌, ◌&&◌, Bool, true, false, List, Option, Some, None, refl, sym, ap, if◌then◌else◌, nat_le, nat_lt, arith}
use Rattle.std.proofs.lemmas.Bool.{leb-false, leb-true, ltb-true}
use Rattle.std.specs.Prelude.{not, option_and_then, option_map}
use Rattle.std.specs.List.{list_all, range_with_len}
use Rattle.std.specs.Option.{option_map_or}
use Rattle.bus_model.specs.declared.device.Dev.TheVariants.{A0}
use Rattle.external_calibration.specs.declared.constants.Constants.{Constants}
use Rattle.field_tables.specs.declared.field.Field.{Field}
use Rattle.field_tables.specs.declared.field.Field.TheVariants as fields
use Rattle.field_tables.specs.declared.table.cmis.CmisField.TheVariants as cmis_fields
use Rattle.field_tables.specs.declared.table.sff8472.Sff8472Field.TheVariants as sff8472
use Rattle.field_tables.specs.declared.readings.PerLimit.{PerLimit}
use Rattle.field_tables.specs.FieldRows.{row_of}
use Rattle.field_tables.specs.FieldValues.{field_key}
use Rattle.field_tables.specs.Readings.{bit_at, number}
use Rattle.field_tables.proofs.SameValues.{Agree, same_number}
use Rattle.field_tables.proofs.TrueTests.{in_range}
use Rattle.observables.specs.declared.amount.Amount.{Amount}
use Rattle.observables.specs.declared.monitor.BitPlace.{BitPlace}
use Rattle.observables.specs.declared.monitor.Bounds.{Bounds}
use Rattle.observables.specs.declared.monitor.Correction.{Correction}
use Rattle.observables.specs.declared.monitor.Correction.TheVariants.{Plain, Multiplied, Calibrated}
use Rattle.observables.specs.declared.monitor.Monitor.{Monitor}
use Rattle.observables.specs.declared.quantity.Quantity.{Quantity}
use Rattle.observables.specs.declared.quantity.Scope.TheVariants.{Module}
use Rattle.observables.specs.Amounts.{amount_of, amount_times}
use Rattle.observables.specs.Banks.{advertised_banks, bank_count, lanes_of_bank}
use Rattle.observables.specs.CmisMonitors.{auxiliary, cmis_monitor}
use Rattle.observables.specs.Monitored.{amount_at, bit_in_lane, bits_of, calibrated, corrected, flags_in_lane, is_advertised, is_present, limit_amounts, limits_by, multiplier, no_limits, word_at}
use Rattle.observables.specs.Monitors.{advertised_by, monitor}
use Rattle.observables.specs.Observations.{measured, measured_in_bank, monitor_by, monitor_observation, monitored}
use Rattle.observables.specs.QsfpMonitors.{qsfp_monitor}
use Rattle.observables.specs.SfpMonitors.{sfp_monitor}
use Rattle.paged_memory.specs.declared.family.Family.{Family}
use Rattle.paged_memory.specs.declared.family.Family.TheVariants.{Cmis, Sff8636, Sff8472}
use Rattle.paged_memory.specs.declared.key.Key.{Key}
use Rattle.paged_memory.specs.Families.{is_family, managed_by}
use Rattle.paged_memory.specs.Images.{Memory}
use Rattle.paged_memory.specs.Keys.{lower_key, upper_key}
use Rattle.reports.proofs.BankLanes.{bank_agrees}
use Rattle.reports.proofs.SameBanks.{same_count}
use Rattle.reports.proofs.SameDetailRows.{constants_same}
use Rattle.reports.proofs.SameFamilies.{keys_by}
use Rattle.reports.proofs.SameIf.{KeysAgree, SameIf, absent_read, always, bit_read, by, by_two, number_read, pair, value_read}

-- ---- what is read of memories that agree in these halves

not_not : (b : Bool) → not (not b) ≡ b
not_not true = refl
not_not false = refl

module _ {a b : Memory} {keys : List Key} (agree : KeysAgree a b keys) where
  abbrev present_same : (field : Field) → SameIf (is_present a field) (is_present b field)
  present_same field =
      let absent = absent_read agree (field_key field) in
      record { test = absent.test; same = λ e. sym (not_not (is_present a field)) ∙ ap not (absent.same e) ∙ not_not (is_present b field) }

  abbrev word_same : (field : Field) (i : ℕ) → SameIf (word_at a field i) (word_at b field i)
  word_same field i = by_two (λ there value. if there then Some (bits_of value) else None) (present_same field) (value_read agree field i)

  abbrev multiplier_same : SameIf (multiplier a) (multiplier b)
  multiplier_same = by (λ n. if n == 0 then Some 1 else if n == 1 then Some 2 else if n == 2 then Some 4 else None) (number_read agree (fields.Cmis cmis_fields.BiasMultiplier) 1)

  -- what a word of a field amounts to, by its correction
  abbrev corrected_same : (correction : Correction) (quantity : Quantity) (field : Field) (i : ℕ)
      → SameIf (option_and_then (corrected a correction quantity) (word_at a field i)) (option_and_then (corrected b correction quantity) (word_at b field i))
  unfolding constants_same
  corrected_same Plain quantity field i = by (λ word. option_and_then (λ w. Some (amount_of quantity w)) word) (word_same field i)
  corrected_same Multiplied quantity field i =
      by_two (λ word factor. option_and_then (λ w. option_map (λ n. amount_times quantity n w) factor) word) (word_same field i) multiplier_same
  corrected_same (Calibrated monitor) quantity field i =
      by_two (λ word (how : Bool × Constants). option_and_then (λ w. if how.0 then calibrated how.1 monitor quantity w else Some (amount_of quantity w)) word) (word_same field i)
      (pair (bit_read agree (fields.Sff8472 sff8472.External) 1) (constants_same agree))

  -- ---- an observation

  abbrev limits_same : (monitor : Monitor) (bounds : Option Bounds) → SameIf (limits_by a monitor bounds) (limits_by b monitor bounds)
  unfolding amount_at corrected_same
  limits_same monitor None = always no_limits
  limits_same monitor (Some bounds) =
      let amount = corrected_same monitor.correction monitor.quantity bounds.limits in
      by_two (λ (alarms warnings : Option Amount × Option Amount). record { high_alarm = alarms.0; low_alarm = alarms.1; high_warning = warnings.0; low_warning = warnings.1 })
      (pair (amount 1) (amount 2)) (pair (amount 3) (amount 4))

  abbrev bit_same : (place : BitPlace) (lane : ℕ) → SameIf (bit_in_lane a place lane) (bit_in_lane b place lane)
  bit_same place lane = bit_read agree place.field (place.first + (lane - 1))

  abbrev flags_same : (bounds : Option Bounds) (lane : ℕ) → SameIf (flags_in_lane a bounds lane) (flags_in_lane b bounds lane)
  flags_same None lane = always None
  flags_same (Some bounds) lane =
      by_two (λ (alarms warnings : Bool × Bool). Some (record { high_alarm = alarms.0; low_alarm = alarms.1; high_warning = warnings.0; low_warning = warnings.1 }))
      (pair (bit_same bounds.flags.high_alarm lane) (bit_same bounds.flags.low_alarm lane)) (pair (bit_same bounds.flags.high_warning lane) (bit_same bounds.flags.low_warning lane))

  abbrev advert_same : (advert : Option BitPlace) → SameIf (is_advertised a advert) (is_advertised b advert)
  advert_same None = always true
  advert_same (Some place) = bit_same place 1

  abbrev observation_same : (monitor : Monitor) (bank lane : ℕ) → SameIf (monitor_observation a monitor bank lane) (monitor_observation b monitor bank lane)
  unfolding amount_at limit_amounts corrected_same limits_same
  observation_same monitor bank lane =
      by_two (λ (amounts : Option Amount × PerLimit (Option Amount)) (bits : Option (PerLimit Bool) × Bool).
      record (monitor_observation a monitor bank lane) { amount = amounts.0; limits = amounts.1; flags = bits.0; advertised = bits.1 })
      (pair (corrected_same monitor.correction monitor.quantity monitor.values lane) (limits_same monitor monitor.bounds)) (pair (flags_same monitor.bounds lane) (advert_same monitor.advert))

  abbrev seen_same : (monitor : Monitor) (bank lane : ℕ)
      → SameIf (if is_present a monitor.values then Some (monitor_observation a monitor bank lane) else None) (if is_present b monitor.values then Some (monitor_observation b monitor bank lane) else None)
  unfolding observation_same
  seen_same monitor bank lane = by_two (λ there seen. if there then Some seen else None) (present_same monitor.values) (observation_same monitor bank lane)

  -- in each of its lanes
  abbrev are_same : Monitor → Bool
  unfolding seen_same
  are_same monitor = list_all (λ lane. (seen_same monitor 0 lane).test) (range_with_len 1 (row_of monitor.values).count)

  in_bank : (monitor : Monitor) → are_same monitor ≡ true → (bank lane : ℕ) → 1 ≤ lane → measured_in_bank a monitor bank lane ≡ measured_in_bank b monitor bank lane
  unfolding seen_same are_same
  in_bank monitor tested bank lane from = within (nat_le lane (row_of monitor.values).count) refl where
    within : (has : Bool) → nat_le lane (row_of monitor.values).count ≡ has
        → (if has && is_present a monitor.values then Some (monitor_observation a monitor bank lane) else None) ≡ (if has && is_present b monitor.values then Some (monitor_observation b monitor bank lane) else None)
    within false e = refl
    within true e =
        let few = leb-true lane (row_of monitor.values).count e in
        (seen_same monitor bank lane).same (in_range (λ lane. (seen_same monitor 0 lane).test) 1 (row_of monitor.values).count lane tested from (omega (arith, few)))

-- ---- a monitor of a family, in all lanes

-- the monitor, if there is one, is read from these halves
abbrev IsReadFrom : List Key → Option Monitor → Type 0
IsReadFrom keys found = (a b : Memory) (agree : KeysAgree a b keys) → option_map_or (are_same agree) found true ≡ true

module _ {a b : Memory} {keys : List Key} (agree : KeysAgree a b keys) (count : bank_count a ≡ bank_count b)
    (further : (bank : ℕ) → 1 ≤ bank → bank < bank_count a → KeysAgree (lanes_of_bank a bank) (lanes_of_bank b bank) keys) where
  lane_same : (monitor : Monitor) → IsReadFrom keys (Some monitor) → (lane : ℕ) → 1 ≤ lane → measured a monitor lane ≡ measured b monitor lane
  lane_same monitor tested lane from = first (nat_le lane 8) refl where
    second : (bank within : ℕ) → 1 ≤ within → (has : Bool) → nat_lt bank (bank_count a) ≡ has → 1 ≤ bank
        → (if has then measured_in_bank (lanes_of_bank a bank) monitor bank within else None) ≡ (if has then measured_in_bank (lanes_of_bank b bank) monitor bank within else None)
    second bank within counted true e above =
        let lanes = further bank above (ltb-true bank (bank_count a) e) in
        in_bank lanes monitor (tested (lanes_of_bank a bank) (lanes_of_bank b bank) lanes) bank within counted
    second bank within counted false e above = refl

    first : (low : Bool) → nat_le lane 8 ≡ low
        → (if low then measured_in_bank a monitor 0 lane else if nat_lt ((lane - 1) / 8) (bank_count a) then measured_in_bank (lanes_of_bank a ((lane - 1) / 8)) monitor ((lane - 1) / 8) ((lane - 1) % 8 + 1) else None)
        ≡ (if low then measured_in_bank b monitor 0 lane else if nat_lt ((lane - 1) / 8) (bank_count b) then measured_in_bank (lanes_of_bank b ((lane - 1) / 8)) monitor ((lane - 1) / 8) ((lane - 1) % 8 + 1) else None)
    first true e = in_bank agree monitor (tested a b agree) 0 lane from
    first false e =
        let above = leb-false lane 8 e in
        second ((lane - 1) / 8) ((lane - 1) % 8 + 1) (omega arith) (nat_lt ((lane - 1) / 8) (bank_count a)) refl (omega (arith, above))
        ∙ ap (λ (banks : ℕ). if nat_lt ((lane - 1) / 8) banks then measured_in_bank (lanes_of_bank b ((lane - 1) / 8)) monitor ((lane - 1) / 8) ((lane - 1) % 8 + 1) else None) count

  found_same : (found : Option Monitor) → IsReadFrom keys found → (lane : ℕ) → 1 ≤ lane → option_and_then (λ monitor. measured a monitor lane) found ≡ option_and_then (λ monitor. measured b monitor lane) found
  found_same None tested lane from = refl
  found_same (Some monitor) tested lane from = lane_same monitor tested lane from

-- ---- of CMIS

module _ {a b : Memory} (agree : KeysAgree a b (keys_by Cmis false)) where
  abbrev auxiliary_same : (n : ℕ) (values : Field) (at_0 at_1 : Option Quantity) → SameIf (auxiliary a n values at_0 at_1) (auxiliary b n values at_0 at_1)
  auxiliary_same n values at_0 at_1 =
      by_two (λ kind advertised. if advertised then option_and_then (λ quantity. monitor quantity Module values None (advertised_by (fields.Cmis cmis_fields.ModuleMonitors) (n + 2)) Plain) (if kind then at_1 else at_0) else None)
      (bit_read agree (fields.Cmis cmis_fields.AuxKinds) n) (bit_read agree (fields.Cmis cmis_fields.ModuleMonitors) (n + 2))

  both : (one : Bool) (x y u v : Option Monitor) → x ≡ y → u ≡ v → (if one then x else u) ≡ (if one then y else v)
  both true x y u v first second = first
  both false x y u v first second = second

  cmis_same : (n : ℕ) → cmis_monitor a n ≡ cmis_monitor b n
  cmis_same n =
      both (n == 0) _ _ _ _ refl (both (n == 1) _ _ _ _ refl (both (n == 2) _ _ _ _ ((auxiliary_same 1 _ _ _).same refl)
      (both (n == 3) _ _ _ _ ((auxiliary_same 2 _ _ _).same refl) (both (n == 4) _ _ _ _ ((auxiliary_same 3 _ _ _).same refl) refl))))

-- an auxiliary monitor, if each that it may be is read from these halves
auxiliary_read : (keys : List Key) (memory : Memory) (n : ℕ) (values : Field) (at_0 at_1 : Option Quantity)
    → ((quantity : Quantity) → IsReadFrom keys (monitor quantity Module values None (advertised_by (fields.Cmis cmis_fields.ModuleMonitors) (n + 2)) Plain)) → IsReadFrom keys (auxiliary memory n values at_0 at_1)
auxiliary_read keys memory n values at_0 at_1 each = by (bit_at memory (fields.Cmis cmis_fields.ModuleMonitors) (n + 2)) (if bit_at memory (fields.Cmis cmis_fields.AuxKinds) n then at_1 else at_0) where
  by : (advertised : Bool) (measured : Option Quantity)
      → IsReadFrom keys (if advertised then option_and_then (λ quantity. monitor quantity Module values None (advertised_by (fields.Cmis cmis_fields.ModuleMonitors) (n + 2)) Plain) measured else None)
  by true (Some quantity) = each quantity
  by true None = λ a b agree. refl
  by false measured = λ a b agree. refl

cmis_read : (memory : Memory) (n : ℕ) → n < 16 → IsReadFrom (keys_by Cmis false) (cmis_monitor memory n)
unfolding are_same
cmis_read memory zero few = λ a b agree. refl
cmis_read memory (suc zero) few = λ a b agree. refl
cmis_read memory (suc (suc zero)) few = auxiliary_read (keys_by Cmis false) memory 1 (fields.Cmis cmis_fields.Aux1) _ _ (λ quantity a b agree. refl)
cmis_read memory (suc (suc (suc zero))) few = auxiliary_read (keys_by Cmis false) memory 2 (fields.Cmis cmis_fields.Aux2) _ _ (λ quantity a b agree. refl)
cmis_read memory (suc (suc (suc (suc zero)))) few = auxiliary_read (keys_by Cmis false) memory 3 (fields.Cmis cmis_fields.Aux3) _ _ (λ quantity a b agree. refl)
cmis_read memory (suc (suc (suc (suc (suc n))))) few =
    λ a b agree. in_range (λ (m : ℕ). option_map_or (are_same agree) (cmis_monitor memory m) true) 5 11 (suc (suc (suc (suc (suc n))))) refl (omega arith) (omega (arith, few))

-- ---- of SFF-8636 and SFF-8472

qsfp_read : (n : ℕ) → n < 16 → IsReadFrom (keys_by Sff8636 false) (qsfp_monitor n)
unfolding are_same
qsfp_read n few a b agree = in_range (λ (m : ℕ). option_map_or (are_same agree) (qsfp_monitor m) true) 0 16 n refl (omega arith) (omega (arith, few))

sfp_read : (n : ℕ) → n < 16 → IsReadFrom (keys_by Sff8472 true) (sfp_monitor n)
unfolding are_same
sfp_read n few a b agree = in_range (λ (m : ℕ). option_map_or (are_same agree) (sfp_monitor m) true) 0 16 n refl (omega arith) (omega (arith, few))

-- ---- of any family

-- what decides which halves a module of a family has, where it has all that monitors are read from
abbrev pub if_all : Family → Bool
if_all Sff8472 = true
if_all family = false

-- the halves agree that monitors of the module's family are read from, and page 11h of each further bank
pub record MonitorsAgree (a b : Memory) : Type 0 where
  pub low : Agree a b (lower_key A0)
  pub halves : (family : Family) → managed_by (number a (fields.Cmis cmis_fields.Identifier)) ≡ Some family → KeysAgree a b (keys_by family (if_all family))
  pub banks : (bank : ℕ) → 1 ≤ bank → bank < bank_count a → Agree a b (upper_key A0 bank 0x11)

module _ (a b : Memory) (agree : MonitorsAgree a b) where
  id_same : number a (fields.Cmis cmis_fields.Identifier) ≡ number b (fields.Cmis cmis_fields.Identifier)
  id_same = same_number a b (fields.Cmis cmis_fields.Identifier) agree.low refl refl

  -- a module of another family than CMIS has one bank
  one_bank : (memory : Memory) (family : Option Family) → managed_by (number memory (fields.Cmis cmis_fields.Identifier)) ≡ family → is_family Cmis family ≡ false → bank_count memory ≡ 1
  one_bank memory family is other = ap (λ (f : Option Family). if is_family Cmis f then advertised_banks memory else 1) is ∙ ap (λ (cmis : Bool). if cmis then advertised_banks memory else 1) other

  module _ (family : Family) (is : managed_by (number a (fields.Cmis cmis_fields.Identifier)) ≡ Some family) (other : is_family Cmis (Some family) ≡ false) where
    one_each : bank_count a ≡ bank_count b
    one_each = one_bank a (Some family) is other ∙ sym (one_bank b (Some family) (sym (ap managed_by id_same) ∙ is) other)

    no_further : (keys : List Key) (bank : ℕ) → 1 ≤ bank → bank < bank_count a → KeysAgree (lanes_of_bank a bank) (lanes_of_bank b bank) keys
    no_further keys bank above below = absurd (let one = one_bank a (Some family) is other in omega (arith, one, above, below))

  by_family : (n lane : ℕ) → n < 16 → 1 ≤ lane → (family : Option Family) → managed_by (number a (fields.Cmis cmis_fields.Identifier)) ≡ family
      → option_and_then (λ monitor. measured a monitor lane) (option_and_then (monitor_by a n) family) ≡ option_and_then (λ monitor. measured b monitor lane) (option_and_then (monitor_by b n) family)
  by_family n lane few from None is = refl
  by_family n lane few from (Some Cmis) is =
      let halves = agree.halves Cmis is in
      let first = halves.half (upper_key A0 0 0x01) refl in
      ap (option_and_then (λ (m : Monitor). measured a m lane)) (cmis_same halves n)
      ∙ found_same halves (same_count a b agree.low first) (λ bank above below. bank_agrees a b bank first (halves.half (upper_key A0 0 0x02) refl) (agree.banks bank above below))
      (cmis_monitor b n) (cmis_read b n few) lane from
  by_family n lane few from (Some Sff8636) is = found_same (agree.halves Sff8636 is) (one_each Sff8636 is refl) (no_further Sff8636 is refl (keys_by Sff8636 false)) (qsfp_monitor n) (qsfp_read n few) lane from
  by_family n lane few from (Some Sff8472) is = found_same (agree.halves Sff8472 is) (one_each Sff8472 is refl) (no_further Sff8472 is refl (keys_by Sff8472 true)) (sfp_monitor n) (sfp_read n few) lane from

  pub monitored_same : (n lane : ℕ) → n < 16 → 1 ≤ lane → monitored a n lane ≡ monitored b n lane
  monitored_same n lane few from =
      by_family n lane few from (managed_by (number a (fields.Cmis cmis_fields.Identifier))) refl
      ∙ ap (λ (id : ℕ). option_and_then (λ (m : Monitor). measured b m lane) (option_and_then (monitor_by b n) (managed_by id))) id_same
