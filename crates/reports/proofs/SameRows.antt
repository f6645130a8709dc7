-- What each row of a report says of two memories, and which flags it tells of, is the same if it is read of halves of which both agree.
use Rattle.std.proofs.Common.{◌≡◌, ◌+◌, ◌*◌, ◌==◌, ◌&&◌, ℕ, Bool, List, [], ◌∷◌, Option, Some, None, map, refl, if◌then◌else◌}
use Rattle.std.specs.Prelude.{ℤ}
use Rattle.std.specs.List.{range_with_len}
use Rattle.paged_memory.specs.declared.key.Key.{Key}
use Rattle.paged_memory.specs.Images.{Memory}
use Rattle.field_tables.specs.declared.field.Field.{Field}
use Rattle.field_tables.specs.FieldRows.{row_of}
use Rattle.field_tables.specs.FieldValues.{of_each}
use Rattle.module_decoding.specs.Amounts.{amount_at}
use Rattle.report_entries.specs.Entries.{entry, word, right, number, code, revision, text, oui, amount, lanes, limits, state, lane_states}
use Rattle.report_entries.specs.declared.flag.FlagName.{FlagName}
use Rattle.report_entries.specs.declared.flag_rows.FlagPlace.{FlagPlace}
use Rattle.report_entries.specs.declared.flag_rows.FlagPlace.TheVariants as places
use Rattle.report_entries.specs.declared.flag_rows.FlagRow.{FlagRow}
use Rattle.report_entries.specs.declared.printed_unit.PrintedUnit.TheVariants.{Metre}
use Rattle.report_entries.specs.FlagRows.{flags_at, lane_flag, row_flags, rows_flags}
use Rattle.report_entries.specs.Rows.{Row, Source, Instead, Word, Either, Code, Revision, Next, Text, Oui, Right, Amount, Length, Lanes, Limits, State, LaneStates, Nothing, Wording, applies, decided_entries, lane_state_at, printed_unit, row_entries, rows_entries, source_content}
use Rattle.reports.proofs.BankLanes.{lanes_agree}
use Rattle.reports.proofs.SameIf.{KeysAgree, SameIf, always, amount_read, bit_read, by, by_two, choice, each, first, length_read, mapped, number_read, numbers_read, over_banks_same, pair, sum_read, text_read}

pub decided_same : (a b : Memory) (banks : List ℕ) (row : Row) → source_content a banks row.source ≡ source_content b banks row.source → (decided : Option Instead) → decided_entries a banks row decided ≡ decided_entries b banks row decided
decided_same a b banks row content None = λ j. entry row.name (content j) ∷ []
decided_same a b banks row content (Some (Nothing field n)) = refl
decided_same a b banks row content (Some (Wording field n w)) = refl

-- ---- what is read of lanes

module _ {a b : Memory} {keys : List Key} (agree : KeysAgree a b keys) where
  abbrev amounts_same : (field : Field) (power : Option Field) → SameIf (of_each field (amount_at a field power)) (of_each field (amount_at b field power))
  unfolding amount_at
  amounts_same field power = mapped (amount_at a field power) (amount_at b field power) (amount_read agree field power) (range_with_len 1 (row_of field).count)

  abbrev states_same : (paths statuses : Field) → SameIf (map (lane_state_at a paths statuses) (range_with_len 1 8)) (map (lane_state_at b paths statuses) (range_with_len 1 8))
  states_same paths statuses =
      mapped (lane_state_at a paths statuses) (lane_state_at b paths statuses)
      (λ lane. by_two (λ path status. record { path = path; status = status }) (number_read agree paths lane) (number_read agree statuses lane)) (range_with_len 1 8)

  abbrev bank_flags_same : (name : FlagName) (field : Field) (bank : ℕ) → SameIf (of_each field (lane_flag name field bank a)) (of_each field (lane_flag name field bank b))
  bank_flags_same name field bank =
      mapped (lane_flag name field bank a) (lane_flag name field bank b) (λ i. by (λ raised. (record { name = name; lane = Some (8 * bank + i) }, raised)) (bit_read agree field i)) (range_with_len 1 (row_of field).count)

module _ {a b : Memory} {keys : List Key} (agree : KeysAgree a b keys) where
  abbrev source_same : (banks : List ℕ) (s : Source) → SameIf (source_content a banks s) (source_content b banks s)
  unfolding source_content amount_at amounts_same
  source_same banks (Word w) = always (word w)
  source_same banks (Either field one other) = by (λ set. word (if set then one else other)) (bit_read agree field 1)
  source_same banks (Code field) = by code (number_read agree field 1)
  source_same banks (Revision field) = by revision (number_read agree field 1)
  source_same banks (Next field) = by (λ n. number (n + 1)) (number_read agree field 1)
  source_same banks (Text field) = by text (text_read agree field)
  source_same banks (Oui field) = by oui (numbers_read agree field)
  source_same banks (Right sum) = by right (sum_read agree sum)
  source_same banks (Amount field) = by (λ millis. amount millis (printed_unit field)) (amount_read agree field None 1)
  source_same banks (Length base power) = by (λ millis. amount millis Metre) (length_read agree base power)
  source_same banks (Lanes field power) =
      by (λ values. lanes values (printed_unit field))
      (over_banks_same agree banks (λ bank m. of_each field (amount_at m field power)) (λ bank m. of_each field (amount_at m field power)) (amounts_same agree field power) (λ bank. amounts_same (lanes_agree agree bank) field power))
  source_same banks (Limits field power) =
      let value = amount_read agree field power in
      by_two (λ (alarms warnings : ℤ × ℤ). limits (record { high_alarm = alarms.0; low_alarm = alarms.1; high_warning = warnings.0; low_warning = warnings.1 }) (printed_unit field))
      (pair (value 1) (value 2)) (pair (value 3) (value 4))
  source_same banks (State field) = by state (number_read agree field 1)
  source_same banks (LaneStates paths statuses) =
      by lane_states
      (over_banks_same agree banks (λ bank m. map (lane_state_at m paths statuses) (range_with_len 1 8)) (λ bank m. map (lane_state_at m paths statuses) (range_with_len 1 8)) (states_same agree paths statuses)
      (λ bank. states_same (lanes_agree agree bank) paths statuses))

  abbrev applies_same : (case : Instead) → SameIf (applies a case) (applies b case)
  applies_same (Nothing field n) = by (λ m. m == n) (number_read agree field 1)
  applies_same (Wording field n w) = by (λ m. m == n) (number_read agree field 1)

  -- a row is left out of flat memory, or told by what decides
  abbrev row_same : (banks : List ℕ) (flat : Bool) (row : Row) → SameIf (row_entries a banks flat row) (row_entries b banks flat row)
  unfolding row_entries source_same
  row_same banks flat row =
      let content = source_same banks row.source in
      let decided_alike : SameIf (decided_entries a banks row) (decided_entries b banks row) = record { test = content.test; same = λ e j decided. decided_same a b banks row (content.same e) decided j } in
      choice (row.paged && flat) (always []) (by_two (λ decided_alike decided. decided_alike decided) decided_alike (first (applies a) (applies b) applies_same row.instead))

  unfoldable pub rows_same : (banks : List ℕ) (flat : Bool) (rows : List Row) → SameIf (rows_entries a banks flat rows) (rows_entries b banks flat rows)
  unfolding row_same
  rows_same banks flat rows = each (row_entries a banks flat) (row_entries b banks flat) (row_same banks flat) rows

  abbrev flags_same : (banks : List ℕ) (name : FlagName) (field : Field) (place : FlagPlace) → SameIf (flags_at a banks name field place) (flags_at b banks name field place)
  flags_same banks name field (places.Value lane i) = by (λ raised. (record { name = name; lane = lane }, raised) ∷ []) (bit_read agree field i)
  flags_same banks name field places.Lanes =
      over_banks_same agree banks (λ bank m. of_each field (lane_flag name field bank m)) (λ bank m. of_each field (lane_flag name field bank m)) (bank_flags_same agree name field 0)
      (λ bank. bank_flags_same (lanes_agree agree bank) name field bank)

  abbrev flag_row_same : (banks : List ℕ) (flat : Bool) (row : FlagRow) → SameIf (row_flags a banks flat row) (row_flags b banks flat row)
  unfolding row_flags
  flag_row_same banks flat row = choice (row.paged && flat) (always []) (flags_same banks row.name row.field row.place)

  unfoldable pub flag_rows_same : (banks : List ℕ) (flat : Bool) (rows : List FlagRow) → SameIf (rows_flags a banks flat rows) (rows_flags b banks flat rows)
  unfolding flag_row_same
  flag_rows_same banks flat rows = each (row_flags a banks flat) (row_flags b banks flat) (flag_row_same banks flat) rows
