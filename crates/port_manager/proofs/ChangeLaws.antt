-- A change that nothing stands against names no lane that isn't down, unless that lane may be taken down; none names a lane that stays.
use Rattle.std.proofs.Common.{◌≡◌, ◌⊎◌, ◌-◌, inl, inr, ℕ, Bool, true, false, not, ◌&&◌, ◌||◌, List, Option, Some, None, refl, sym, ap, ◌∙◌, nat_lt, nat_le, if◌then◌else◌, arith}
use Rattle.std.proofs.lemmas.Bool.{eqb-true}
use Rattle.std.proofs.lemmas.Bool.Decides.{nat_tests}
use Rattle.std.specs.FinSet as set
use Rattle.std.specs.FinSet.{contains-empty, empty_of_len}
use Rattle.std.specs.Ordering.{nat_cmp}
use Rattle.bus_model.specs.declared.operation.Op.{Op}
use Rattle.field_tables.specs.LaneSets.{IsLane, Lanes, byte_of, is_empty, lanes_in}
use Rattle.control_sets.specs.StoredBits.{Sets}
use Rattle.control_sets.proofs.LaneBits.{in_byte_of}
use Rattle.port_manager.specs.declared.change.Change.{Change}
use Rattle.port_manager.specs.declared.change.Hindrance.{Hindrance}
use Rattle.port_manager.specs.declared.change.Hindrance.TheVariants as why
use Rattle.port_manager.specs.declared.change.Role.{Role}
use Rattle.port_manager.specs.declared.change.Role.TheVariants as role
use Rattle.port_manager.specs.Changes.{IsStoreOfChange, first_hindrance, goes_down, has_role, is_held_down, is_ready, is_taken, lanes_with, unless_empty}
use Rattle.port_manager.specs.Goals.{is_deactivated, is_permitted_if}
use Rattle.port_manager.proofs.GatheredLanes.{in_those}
use Rattle.port_manager.proofs.KeptBits.{apply_bits, deinit_bits, staged_bits}
use Rattle.port_manager.proofs.PermissionLaws.{not_in_plan}

-- ---- no lane goes down unpermitted

others_left : (empty : Bool) (one : Hindrance) (others : Option Hindrance) → (if empty then others else Some one) ≡ None → (empty ≡ true) × (others ≡ None)
others_left true one others none = (refl, none)
others_left false one others none = absurd (let same = none in cc)

others_only : (hinders : Bool) (one : Hindrance) (others : Option Hindrance) → (if hinders then Some one else others) ≡ None → others ≡ None
others_only true one others none = absurd (let same = none in cc)
others_only false one others none = none

none_falls : (change : Change) (state : ℕ) (page : List ℕ) → first_hindrance change state page ≡ None → is_empty (lanes_with role.GoesDownUnpermitted page change) ≡ true
none_falls change state page none =
    let differs = lanes_with role.Differs page change in
    let rises = lanes_with role.ComesUpUnpermitted page change in
    let falls = lanes_with role.GoesDownUnpermitted page change in
    let last = unless_empty falls (why.GoesDown falls) None in
    let paths = if is_empty change.goal.lanes && not change.may.no_path then Some why.NoPath else last in
    let ready = unless_empty rises (why.ComesUp rises) paths in
    let by_bytes = others_left (is_empty differs) (why.OtherBytes differs) (if not (is_ready change state) then Some (why.State state) else ready) none in
    let by_state = others_only (not (is_ready change state)) (why.State state) ready by_bytes.1 in
    let by_rising = others_left (is_empty rises) (why.ComesUp rises) paths by_state in
    let by_paths = others_only (is_empty change.goal.lanes && not change.may.no_path) why.NoPath last by_rising.1 in
    (others_left (is_empty falls) (why.GoesDown falls) None by_paths).0

in_role : (which : Role) (page : List ℕ) (change : Change) (q : ℕ) → set.contains (lanes_with which page change) q ≡ (nat_le 1 q && nat_lt q 9 && has_role which page change q)
unfolding lanes_with
in_role which page change q = in_those (has_role which page change) q

within_eight : (q : ℕ) (b : Bool) → IsLane q → (nat_le 1 q && nat_lt q 9 && b) ≡ b
within_eight q true within = grind (arith, nat_tests, within.0, within.1)
within_eight q false within = grind (arith, nat_tests, within.0, within.1)

of_role : (which : Role) (page : List ℕ) (change : Change) (lane : ℕ) → IsLane lane → set.contains (lanes_with which page change) lane ≡ has_role which page change lane
of_role which page change lane within = in_role which page change lane ∙ within_eight lane (has_role which page change lane) within

permitted : (change : Change) (state : ℕ) (page : List ℕ) (lane : ℕ) → first_hindrance change state page ≡ None → IsLane lane → not (is_permitted_if (goes_down page change lane) change.may.take_down lane) ≡ false
permitted change state page lane none within =
    sym (of_role role.GoesDownUnpermitted page change lane within)
    ∙ ap (λ (lanes : Lanes). set.contains lanes lane) (empty_of_len (lanes_with role.GoesDownUnpermitted page change) (eqb-true _ _ (none_falls change state page none)))
    ∙ contains-empty nat_cmp lane

spared_by : (may named down : Bool) → named ≡ true → not (may || not (named && not down)) ≡ false → (down ≡ true) ⊎ (may ≡ true)
spared_by true named down is permitted = inr refl
spared_by false true true is permitted = inl refl
spared_by false true false is permitted = absurd (let same : true ≡ false = permitted in cc)
spared_by false false down is permitted = absurd (let same : false ≡ true = is in cc)

abbrev IsSpared : List ℕ → Change → ℕ → Type 0
IsSpared page change lane = (is_deactivated page lane ≡ true) ⊎ (set.contains change.may.take_down lane ≡ true)

spared : (change : Change) (state : ℕ) (page : List ℕ) (lane : ℕ) → first_hindrance change state page ≡ None → IsLane lane → (is_taken page change lane || is_held_down page change lane) ≡ true → IsSpared page change lane
spared change state page lane none within named =
    spared_by (set.contains change.may.take_down lane) (is_taken page change lane || is_held_down page change lane) (is_deactivated page lane) named (permitted change state page lane none within)

-- ---- its stores

first_holds : (one other : Bool) → one ≡ true → (one || other) ≡ true
first_holds one other is = ap (λ (b : Bool). b || other) is

second_holds : (one other : Bool) → other ≡ true → (one || other) ≡ true
second_holds true other is = refl
second_holds false other is = is

taken_named : (change : Change) (page : List ℕ) (bits lane : ℕ) → IsLane lane → bits ≡ byte_of (lanes_with role.Taken page change) → set.contains (lanes_in bits) lane ≡ true
    → (is_taken page change lane || is_held_down page change lane) ≡ true
taken_named change page bits lane within is inside =
    let taken = sym (of_role role.Taken page change lane within) ∙ sym (in_byte_of (lanes_with role.Taken page change) lane within) ∙ sym (ap (λ (byte : ℕ). set.contains (lanes_in byte) lane) is) ∙ inside in
    first_holds (is_taken page change lane) (is_held_down page change lane) taken

-- they name no lane but those that are taken or held down
named : (page : List ℕ) (change : Change) (op : Op) (bits lane : ℕ) → IsStoreOfChange page change op → Sets bits op → IsLane lane → set.contains (lanes_in bits) lane ≡ true
    → (is_taken page change lane || is_held_down page change lane) ≡ true
named page change op bits lane (inl deinit) sets within inside = taken_named change page bits lane within (deinit_bits op bits (byte_of (lanes_with role.Taken page change)) deinit sets) inside
named page change op bits lane (inr (inl staged)) sets within inside = absurd (staged_bits op bits change.goal.control staged sets)
named page change op bits lane (inr (inr (inl applies))) sets within inside = taken_named change page bits lane within (apply_bits op bits (byte_of (lanes_with role.Taken page change)) applies sets) inside
named page change op bits lane (inr (inr (inr (active, release)))) sets within inside =
    let other = not_in_plan change.goal bits lane (deinit_bits op bits (255 - byte_of change.goal.lanes) release sets) within inside in
    let held : is_held_down page change lane ≡ true = (λ i. active i && not (other i)) in
    second_holds (is_taken page change lane) (is_held_down page change lane) held

pub change_spares : (page : List ℕ) (change : Change) (state : ℕ) (op : Op) (bits lane : ℕ) → first_hindrance change state page ≡ None → IsStoreOfChange page change op → Sets bits op → IsLane lane
    → set.contains (lanes_in bits) lane ≡ true → (is_deactivated page lane ≡ true) ⊎ (set.contains change.may.take_down lane ≡ true)
change_spares page change state op bits lane none store sets within inside = spared change state page lane none within (named page change op bits lane store sets within inside)

-- ---- a lane that stays

stays_unnamed : (named down : Bool) → named ≡ true → (not down && not (named && not down)) ≡ false
stays_unnamed true true is = refl
stays_unnamed true false is = refl
stays_unnamed false down is = absurd (let same : false ≡ true = is in cc)

pub change_leaves : (page : List ℕ) (change : Change) (op : Op) (bits lane : ℕ) → IsStoreOfChange page change op → Sets bits op → IsLane lane → set.contains (lanes_with role.Stays page change) lane ≡ true
    → set.contains (lanes_in bits) lane ≡ false
change_leaves page change op bits lane store sets within stays = by (set.contains (lanes_in bits) lane) refl where
  by : (inside : Bool) → set.contains (lanes_in bits) lane ≡ inside → set.contains (lanes_in bits) lane ≡ false
  by true inside =
      let unnamed = stays_unnamed (is_taken page change lane || is_held_down page change lane) (is_deactivated page lane) (named page change op bits lane store sets within inside) in
      absurd (let both : true ≡ false = sym stays ∙ of_role role.Stays page change lane within ∙ unnamed in cc)
  by false inside = inside
