-- What is the same of two memories, or of anything that is made of it, if a test passes: what is read of a memory is the same of another
-- if it stands in halves of which both agree.
use Rattle.std.proofs.Common.{◌≡◌, ◌*◌, ◌^◌, ◌==◌, ℕ, ◌&&◌, ◌||◌, Bool, true, false, List, [], ◌∷◌, ◌++◌, Option, Some, None, map, refl, sym, ap, subst, inl, inr, cond, if◌then◌else◌, nat_le}
use Rattle.std.proofs.lemmas.Bool.{and_parts, false≢true, not-true, or_cases}
use Rattle.std.specs.Prelude.{not, pos, unsigned_abs}
use Rattle.std.specs.List.{AllByRecursion, find, flat_map, list_any, range_with_len}
use Rattle.std.specs.Ordering.{eq_by_cmp}
use Rattle.paged_memory.specs.declared.key.Key.{Key}
use Rattle.paged_memory.specs.Images.{Memory}
use Rattle.paged_memory.specs.KeyOrder.{key_cmp}
use Rattle.field_tables.specs.declared.field.Field.{Field}
use Rattle.field_tables.specs.declared.field.Sum.{Sum}
use Rattle.field_tables.specs.declared.field.TextField.{TextField}
use Rattle.field_tables.specs.FieldRows.{row_of}
use Rattle.field_tables.specs.FieldValues.{field_key}
use Rattle.field_tables.specs.FirstFault.{first_fault}
use Rattle.field_tables.specs.Halves.{is_absent}
use Rattle.field_tables.specs.Readings.{all_numbers, bit_at, is_sum_right, number_at, reading_at, text}
use Rattle.field_tables.specs.Reasons.{Reason, judged, lacks, refused_by, tells, wrong}
use Rattle.field_tables.specs.Sums.{sum_key}
use Rattle.field_tables.specs.Texts.{text_key}
use Rattle.field_tables.specs.Units.{millis_of}
use Rattle.field_tables.proofs.SameValues.{Agree, is_selection, same_absent, same_at, same_sum_right, same_text}
use Rattle.observables.specs.Banks.{lanes_of_bank}
use Rattle.report_entries.specs.Banks.{over_banks}
use Rattle.module_reading.proofs.RegionLaws.{keys_are}
use Rattle.module_decoding.specs.Amounts.{amount_at, doubled, length_in, unit_of}

pub record SameIf {A : Type 0} (x y : A) : Type 0 where
  pub test : Bool
  pub same : test ≡ true → x ≡ y

-- ---- what is made of it

abbrev pub always : {A : Type 0} (x : A) → SameIf x x
always x = record { test = true; same = λ e. refl }

abbrev pub by : {A B : Type 0} {x y : A} (f : A → B) → SameIf x y → SameIf (f x) (f y)
by f s = record { test = s.test; same = λ e. ap f (s.same e) }

abbrev pub by_two : {A B C : Type 0} {x y : A} {u v : B} (f : A → B → C) → SameIf x y → SameIf u v → SameIf (f x u) (f y v)
by_two f s t = record { test = s.test && t.test; same = λ e. let parts = and_parts _ _ e in λ i. f (s.same parts.0 i) (t.same parts.1 i) }

abbrev pub pair : {A B : Type 0} {x y : A} {u v : B} → SameIf x y → SameIf u v → SameIf {A = A × B} (x, u) (y, v)
pair {A} {B} s t = by_two {C = A × B} (λ x u. (x, u)) s t

-- one of two, by a test of the memories or of neither
abbrev pub either : {A : Type 0} {c d : Bool} {x y u v : A} → SameIf c d → SameIf x y → SameIf u v → SameIf (if c then x else u) (if d then y else v)
either {A} c s t = by_two (λ (c : Bool) (both : A × A). if c then both.0 else both.1) c (pair s t)

abbrev pub choice : {A : Type 0} {x y u v : A} (c : Bool) → SameIf x y → SameIf u v → SameIf (if c then x else u) (if c then y else v)
choice true s t = s
choice false s t = t

abbrev pub and_if : {x y : Bool} (c : Bool) → SameIf x y → SameIf (c && x) (c && y)
and_if true s = s
and_if false s = always false

-- of each of a list
module _ {X : Type 0} where
  abbrev pub mapped : {A : Type 0} (f g : X → A) → ((x : X) → SameIf (f x) (g x)) → (xs : List X) → SameIf (map f xs) (map g xs)
  mapped f g same [] = always []
  mapped f g same (x ∷ xs) = by_two (λ here later. here ∷ later) (same x) (mapped f g same xs)

  abbrev pub each : {E : Type 0} (f g : X → List E) → ((x : X) → SameIf (f x) (g x)) → (xs : List X) → SameIf (flat_map f xs) (flat_map g xs)
  each f g same [] = always []
  each f g same (x ∷ xs) = by_two (λ here later. here ++ later) (same x) (each f g same xs)

  abbrev pub first : (f g : X → Bool) → ((x : X) → SameIf (f x) (g x)) → (xs : List X) → SameIf (find f xs) (find g xs)
  first f g same [] = always None
  first f g same (x ∷ xs) = by_two (λ here later. cond here (Some x) later) (same x) (first f g same xs)

  abbrev pub any : (f g : X → Bool) → ((x : X) → SameIf (f x) (g x)) → (xs : List X) → SameIf (list_any f xs) (list_any g xs)
  any f g same [] = always false
  any f g same (x ∷ xs) = by_two (λ here later. here || later) (same x) (any f g same xs)

-- ---- what is read of memories that agree in halves

abbrev pub is_among : List Key → Key → Bool
is_among keys key = list_any (eq_by_cmp key_cmp key) keys

pub record KeysAgree (a b : Memory) (keys : List Key) : Type 0 where
  pub half : (key : Key) → is_among keys key ≡ true → Agree a b key

pub each_agree : (a b : Memory) (keys : List Key) → AllByRecursion (λ key. Agree a b key) keys → KeysAgree a b keys
each_agree a b keys all = record { half = among keys all } where
  among : (keys : List Key) → AllByRecursion (λ key. Agree a b key) keys → (key : Key) → is_among keys key ≡ true → Agree a b key
  among [] all key e = absurd (false≢true e)
  among (first ∷ keys) all key e =
      elim (or_cases (eq_by_cmp key_cmp key first) (is_among keys key) e) [
        | inl same ↦ subst (Agree a b) (sym (keys_are key first same)) all.0
        | inr later ↦ among keys all.1 key later
      ]

module _ {a b : Memory} {keys : List Key} (agree : KeysAgree a b keys) where
  abbrev read : {A : Type 0} {x y : A} (key : Key) (test : Bool) → (Agree a b key → test ≡ true → x ≡ y) → SameIf x y
  read key test same = record { test = is_among keys key && test; same = λ e. let parts = and_parts _ _ e in same (agree.half key parts.0) parts.1 }

  -- value i of a field
  abbrev pub value_read : (field : Field) (i : ℕ) → SameIf (reading_at a field i) (reading_at b field i)
  value_read field i = read (field_key field) (not (is_selection field) && (nat_le 1 i && nat_le i (row_of field).count)) (λ half e.
      let parts = and_parts _ _ e in
      same_at a b field i half (not-true (is_selection field) parts.0) parts.1)

  abbrev pub number_read : (field : Field) (i : ℕ) → SameIf (number_at a field i) (number_at b field i)
  number_read field i = by unsigned_abs (value_read field i)

  abbrev pub bit_read : (field : Field) (i : ℕ) → SameIf (bit_at a field i) (bit_at b field i)
  bit_read field i = by (λ n. n == 1) (number_read field i)

  abbrev pub numbers_read : (field : Field) → SameIf (all_numbers a field) (all_numbers b field)
  numbers_read field = mapped (number_at a field) (number_at b field) (number_read field) (range_with_len 1 (row_of field).count)

  abbrev pub text_read : (field : TextField) → SameIf (text a field) (text b field)
  text_read field = read (text_key field) true (λ half e. same_text a b field half)

  abbrev pub sum_read : (sum : Sum) → SameIf (is_sum_right a sum) (is_sum_right b sum)
  sum_read sum = read (sum_key sum) true (λ half e. same_sum_right a b sum half)

  abbrev pub absent_read : (key : Key) → SameIf (is_absent a key) (is_absent b key)
  absent_read key = read key true (λ half e. same_absent a b key half)

  abbrev pub amount_read : (field : Field) (power : Option Field) (i : ℕ) → SameIf (amount_at a field power i) (amount_at b field power i)
  unfolding amount_at
  amount_read field None i = by (λ steps. millis_of steps (unit_of field)) (value_read field i)
  amount_read field (Some power) i = by_two (λ steps n. millis_of (doubled steps n) (unit_of field)) (value_read field i) (number_read power 1)

  abbrev pub length_read : (base power : Field) → SameIf (length_in a base power) (length_in b base power)
  length_read base power = by_two (λ tenths n. pos (tenths * 100 * 10 ^ n)) (number_read base 1) (number_read power 1)

  -- why memory is refused
  abbrev judged_same : {F : Type 0} (reason : Reason F) → SameIf (judged a reason) (judged b reason)
  judged_same (lacks key fault) = by (λ absent. (absent, fault)) (absent_read key)
  judged_same (tells field is_one fault) = by (λ n. (is_one n, fault n)) (number_read field 1)
  judged_same (wrong sum fault) = by (λ right. (not right, fault)) (sum_read sum)

  abbrev pub refusal_same : {F : Type 0} (reasons : List (Reason F)) → SameIf (refused_by a reasons) (refused_by b reasons)
  refusal_same reasons = by first_fault (mapped (judged a) (judged b) judged_same reasons)

  -- what there is of lanes: of bank 0, and of each of these further banks
  abbrev pub over_banks_same : {A : Type 0} (banks : List ℕ) (f g : ℕ → Memory → List A) → SameIf (f 0 a) (g 0 b) → ((bank : ℕ) → SameIf (f bank (lanes_of_bank a bank)) (g bank (lanes_of_bank b bank)))
      → SameIf (over_banks a banks f) (over_banks b banks g)
  over_banks_same banks f g first later =
      by_two (λ xs ys. xs ++ ys) first (each (λ (bank : ℕ). f bank (lanes_of_bank a bank)) (λ (bank : ℕ). g bank (lanes_of_bank b bank)) later banks)
