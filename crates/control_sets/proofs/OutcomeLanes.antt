-- What searches over lanes say in the words of the outcomes.
use Rattle.std.proofs.Common.{◌≡◌, ◌≢◌, ℕ, ◌+◌, ◌-◌, ◌<◌, ◌≤◌, ◌==◌, ◌&&◌, ◌||◌, Bool, true, false, not, List, Option, Some, None, find, length, get_or, slice_index, refl, sym, ap, ◌∙◌, inl, inr, nat_le, arith, eq-eqb, le-leb, leb-true}
use Rattle.std.proofs.lemmas.List.FromFn.{get_or-map-range_with_len, get_or-range_with_len, length-range_with_len}
use Rattle.std.proofs.lemmas.Bool.{and_from, and_parts, cases_Bool, eqb-true, ne_eqb, not-true, or_cases, or_left, or_right}
use Rattle.std.proofs.lemmas.List.{ext_get_or}
use Rattle.std.proofs.lemmas.List.Folds.{find_at}
use Rattle.std.proofs.lemmas.List.Sums.{fails_before_first, passes_at_first}
use Rattle.std.proofs.lemmas.Option.{get_or_from_slice_get, slice_get_within}
use Rattle.std.specs.List.{position_or_len, range_with_len, slice_get}
use Rattle.std.specs.Option.{is_none}
use Rattle.std.specs.FinSet as set
use Rattle.field_tables.specs.LaneSets.{IsLane, Lanes}
use Rattle.datapath_states.specs.Lanes.{code_in, codes_in}
use Rattle.datapath_states.specs.StateCodes.{state_at as path_state_at}
use Rattle.datapath_states.specs.StatusCodes.{status_at}
use Rattle.control_sets.specs.Judgements.{all_lanes_have, at_lane, differing_lane, is_rejection, is_reserved_state, is_reserved_status, lowest_lane}
use Rattle.control_sets.specs.OutcomeCodes.{AllHave, DiffersAt, HasSuch, IsLowest, IsLowestSuch, IsRejection, IsReservedPathState, IsReservedStatus, NoneHas, byte_at}
use Rattle.field_tables.proofs.TrueTests.{in_range, range_passes}
use Rattle.control_sets.proofs.Finding.{absent}
use Rattle.control_sets.proofs.LanesOfPaths.{implied}
use Rattle.control_sets.proofs.OutcomeWords.{contradicts}

-- the first number of a row that passes
record Found (test : ℕ → Bool) (from count x : ℕ) : Type 0 where
  low : from ≤ x
  high : x < from + count
  passes : test x ≡ true
  before : (k : ℕ) → from ≤ k → k < x → test k ≡ false

found_in : (test : ℕ → Bool) (from count x : ℕ) → find test (range_with_len from count) ≡ Some x → Found test from count x
found_in test from count x e =
    let row = range_with_len from count in
    let place = position_or_len test row in
    let at : slice_get row place ≡ Some x = sym (find_at test row) ∙ e in
    let below : place < count = omega (arith, slice_get_within row place x at, length-range_with_len from count) in
    let here : get_or row place 0 ≡ x = get_or_from_slice_get row place x 0 at in
    let is : x ≡ from + place = sym here ∙ get_or-range_with_len from count place 0 below in
    record {
      low = omega (arith, is);
      high = omega (arith, is, below);
      passes = ap test (sym here) ∙ passes_at_first test row 0 (slice_get_within row place x at);
      before = λ k low high.
          let its : get_or row (k - from) 0 ≡ k = get_or-range_with_len from count (k - from) 0 (omega (arith, low, high, is, below)) ∙ omega (arith, low) in
          ap test (sym its) ∙ fails_before_first test row (k - from) 0 (omega (arith, low, high, is));
    }

none_in : (test : ℕ → Bool) (from count : ℕ) → find test (range_with_len from count) ≡ None → (k : ℕ) → from ≤ k → k < from + count → test k ≡ false
none_in test from count e k low high =
    let row = range_with_len from count in
    let at : get_or row (k - from) 0 ≡ k = get_or-range_with_len from count (k - from) 0 (omega (arith, low, high)) ∙ omega (arith, low) in
    ap test (sym at) ∙ absent test row (k - from) 0 e (omega (arith, low, high, length-range_with_len from count))

-- a test decides a proposition
pub record Decides (test : ℕ → Bool) (P : ℕ → Type 0) : Type 0 where
  pub holds : (x : ℕ) → test x ≡ true → P x
  pub passes : (x : ℕ) → P x → test x ≡ true

lowest_is : (test : ℕ → Bool) (P : ℕ → Type 0) (lane : ℕ) → ((lane : ℕ) → IsLane lane → test lane ≡ true → P lane) → ((lane : ℕ) → IsLane lane → P lane → test lane ≡ true) →
    find test (range_with_len 1 8) ≡ Some lane → IsLowest P lane
lowest_is test P lane holds passes e =
    let found = found_in test 1 8 lane e in
    let inside : IsLane lane = (found.low, omega (arith, found.high)) in
    record {
      is_lane = inside;
      holds = holds lane inside found.passes;
      lowest = λ lower is_lane below p. contradicts (passes lower is_lane p) (found.before lower is_lane.0 below);
    }

none_is : (test : ℕ → Bool) (P : ℕ → Type 0) → ((lane : ℕ) → IsLane lane → P lane → test lane ≡ true) → find test (range_with_len 1 8) ≡ None → (lane : ℕ) → IsLane lane → P lane → ⊥
none_is test P passes e lane is_lane p = contradicts (passes lane is_lane p) (none_in test 1 8 e lane is_lane.0 (omega (arith, is_lane.1)))

-- ---- codes of lanes

code_is : (bytes : List ℕ) (lane : ℕ) → IsLane lane → at_lane (codes_in bytes 8) lane ≡ code_in bytes lane
code_is bytes lane is_lane = get_or-map-range_with_len (code_in bytes) 1 8 (lane - 1) lane 0 (omega (arith, is_lane.0, is_lane.1)) (omega (arith, is_lane.0))

has_such : (test : ℕ → Bool) (P : ℕ → Type 0) (lanes : Lanes) (bytes : List ℕ) (lane : ℕ) → Decides test P → IsLane lane → (set.contains lanes lane && test (at_lane (codes_in bytes 8) lane)) ≡ true → HasSuch P lanes bytes lane
has_such test P lanes bytes lane d is_lane e =
    let parts = and_parts _ _ e in
    ((is_lane, parts.0), d.holds (code_in bytes lane) (ap test (sym (code_is bytes lane is_lane)) ∙ parts.1))

such_has : (test : ℕ → Bool) (P : ℕ → Type 0) (lanes : Lanes) (bytes : List ℕ) (lane : ℕ) → Decides test P → IsLane lane → HasSuch P lanes bytes lane → (set.contains lanes lane && test (at_lane (codes_in bytes 8) lane)) ≡ true
such_has test P lanes bytes lane d is_lane such =
    and_from _ _ such.0.1 (ap test (code_is bytes lane is_lane) ∙ d.passes (code_in bytes lane) such.1)

pub such_lane : (test : ℕ → Bool) (P : ℕ → Type 0) (lanes : Lanes) (bytes : List ℕ) (lane : ℕ) → Decides test P → lowest_lane test lanes (codes_in bytes 8) ≡ Some lane →
    IsLowestSuch P lanes lane (at_lane (codes_in bytes 8) lane) bytes
such_lane test P lanes bytes lane d e =
    let lowest = lowest_is (λ lane. set.contains lanes lane && test (at_lane (codes_in bytes 8) lane)) (HasSuch P lanes bytes) lane
    (λ lane is_lane passes. has_such test P lanes bytes lane d is_lane passes) (λ lane is_lane such. such_has test P lanes bytes lane d is_lane such) e in
    record { lowest = lowest; its_code = code_is bytes lane lowest.is_lane }

pub no_such_lane : (test : ℕ → Bool) (P : ℕ → Type 0) (lanes : Lanes) (bytes : List ℕ) → Decides test P → lowest_lane test lanes (codes_in bytes 8) ≡ None → NoneHas P lanes bytes
no_such_lane test P lanes bytes d e lane such =
    none_is (λ lane. set.contains lanes lane && test (at_lane (codes_in bytes 8) lane)) (HasSuch P lanes bytes)
    (λ lane is_lane such. such_has test P lanes bytes lane d is_lane such) e lane such.0.0 such

-- ---- the tests of codes

not_same : (x y : ℕ) → not (x == y) ≡ true → x ≢ y
not_same x y e same = contradicts (eq-eqb x y same) (not-true (x == y) e)

differ : (x y : ℕ) → x ≢ y → not (x == y) ≡ true
differ x y other = ap not (ne_eqb x y other)

pub is_none_of : {X : Type 0} (found : Option X) → is_none found ≡ true → found ≡ None
is_none_of None e = refl
is_none_of (Some x) e = cc

pub reserved_state : Decides is_reserved_state IsReservedPathState
reserved_state = record { holds = λ code e. is_none_of (path_state_at code) e; passes = λ code e. ap is_none e }

pub reserved_status : Decides is_reserved_status IsReservedStatus
reserved_status = record { holds = λ code e. is_none_of (status_at code) e; passes = λ code e. ap is_none e }

rejection_is : (code : ℕ) → is_rejection code ≡ true → IsRejection code
rejection_is code e = elim (or_cases (nat_le 2 code && nat_le code 7) (nat_le 13 code && nat_le code 15) e) as (λ _. IsRejection code) [
  | inl named ↦ let parts = and_parts _ _ named in inl (leb-true 2 code parts.0, leb-true code 7 parts.1)
  | inr custom ↦ let parts = and_parts _ _ custom in inr (leb-true 13 code parts.0, leb-true code 15 parts.1)
]

rejection_by : (code : ℕ) → IsRejection code → is_rejection code ≡ true
rejection_by code (inl named) = or_left _ _ (and_from _ _ (le-leb 2 code named.0) (le-leb code 7 named.1))
rejection_by code (inr custom) = or_right _ _ (and_from _ _ (le-leb 13 code custom.0) (le-leb code 15 custom.1))

pub rejection : Decides is_rejection IsRejection
rejection = record { holds = rejection_is; passes = rejection_by }

-- ---- all lanes have a code

implies : (a b : Bool) → (a ≡ true → b ≡ true) → (not a || b) ≡ true
implies true b h = h refl
implies false b h = refl

pub each_has : (code : ℕ) (lanes : Lanes) (bytes : List ℕ) → all_lanes_have code lanes (codes_in bytes 8) ≡ true → AllHave code lanes bytes
each_has code lanes bytes e lane of =
    let here = in_range (λ lane. not (set.contains lanes lane) || at_lane (codes_in bytes 8) lane == code) 1 8 lane e of.0.0 (omega (arith, of.0.1)) in
    sym (code_is bytes lane of.0) ∙ eqb-true (at_lane (codes_in bytes 8) lane) code (implied _ _ here of.1)

pub has_each : (code : ℕ) (lanes : Lanes) (bytes : List ℕ) → AllHave code lanes bytes → all_lanes_have code lanes (codes_in bytes 8) ≡ true
has_each code lanes bytes all =
    range_passes (λ lane. not (set.contains lanes lane) || at_lane (codes_in bytes 8) lane == code) 1 8 (λ lane low high.
    let is_lane : IsLane lane = (low, omega (arith, high)) in
    implies _ _ (λ inside. eq-eqb (at_lane (codes_in bytes 8) lane) code (code_is bytes lane is_lane ∙ all lane (is_lane, inside))))

-- ---- bytes of lanes

pub differs_at : (bytes control : List ℕ) (lane : ℕ) → differing_lane bytes control ≡ Some lane → DiffersAt control lane bytes
differs_at bytes control lane e =
    lowest_is (λ lane. not (at_lane bytes lane == at_lane control lane)) (λ lane. byte_at bytes lane ≢ byte_at control lane) lane
    (λ lane _ e. not_same (at_lane bytes lane) (at_lane control lane) e) (λ lane _ other. differ (at_lane bytes lane) (at_lane control lane) other) e

pub agrees_at : (bytes control : List ℕ) → differing_lane bytes control ≡ None → (lane : ℕ) → IsLane lane → byte_at bytes lane ≡ byte_at control lane
agrees_at bytes control e lane is_lane =
    elim (cases_Bool (byte_at bytes lane == byte_at control lane)) as (λ _. byte_at bytes lane ≡ byte_at control lane) [
      | inl same ↦ eqb-true (byte_at bytes lane) (byte_at control lane) same
      | inr no_ ↦ absurd (none_is (λ lane. not (at_lane bytes lane == at_lane control lane)) (λ lane. byte_at bytes lane ≢ byte_at control lane)
          (λ lane _ other. differ (at_lane bytes lane) (at_lane control lane) other) e lane is_lane
          (λ same. contradicts (eq-eqb (byte_at bytes lane) (byte_at control lane) same) no_))
    ]

pub bytes_agree : (bytes control : List ℕ) → length bytes ≡ 8 → length control ≡ 8 → differing_lane bytes control ≡ None → bytes ≡ control
bytes_agree bytes control eight too e =
    ext_get_or 0 bytes control (eight ∙ sym too) (λ i below.
    let same : i + 1 - 1 ≡ i = omega arith in
    let is_lane : IsLane (i + 1) = (omega arith, omega (arith, below, eight)) in
    sym (ap (slice_index bytes) same) ∙ agrees_at bytes control e (i + 1) is_lane ∙ ap (slice_index control) same)

same_by : (bytes control : List ℕ) (found : Option ℕ) → differing_lane bytes control ≡ found → bytes ≡ control → found ≡ None
same_by bytes control None e same = refl
same_by bytes control (Some lane) e same = absurd ((differs_at bytes control lane e).holds (ap (λ (bytes : List ℕ). byte_at bytes lane) same))

pub agree_bytes : (bytes control : List ℕ) → bytes ≡ control → differing_lane bytes control ≡ None
agree_bytes bytes control same = same_by bytes control (differing_lane bytes control) refl same
