-- A change of lanes ends, and as it should if the module refuses nothing and keeps what is stored.
use Rattle.std.proofs.Common.{◌≡◌, ◌⊎◌, ℕ, suc, ◌+◌, ◌-◌, ◌*◌, ◌<◌, ◌≤◌, ◌==◌, min, max, Bool, true, false, if◌then◌else◌, nat_lt, List, [], ◌∷◌, length, Option, Some, None, slice_index, arith, refl, sym, ap, subst, inl, inr, ◌∙◌, bit_and}
use Rattle.std.proofs.lemmas.Bool.{eq-eqb, ltb-true, ltb-false, ne_eqb}
use Rattle.std.proofs.lemmas.Nat.Bits.{bit_at_and, bit_at_or, same_from_bits}
use Rattle.std.specs.Int.{bit_at}
use Rattle.bus_model.specs.declared.operation.Op.{Op}
use Rattle.bus_model.specs.declared.operation.Reply.{Reply}
use Rattle.bus_model.specs.declared.operation.Reply.TheVariants.{Bytes, Refused}
use Rattle.bus_model.specs.declared.operation.Reply.TheVariants as replies
use Rattle.bus_model.specs.Operations.{Answers}
use Rattle.conversations.specs.declared.next.Next.TheVariants.{Do, End}
use Rattle.field_tables.specs.LaneSets.{byte_of}
use Rattle.paged_memory.specs.PageAddressing.{EachStep, History}
use Rattle.paged_memory.proofs.KnownPageLaws.{step_of}
use Rattle.lane_controls.specs.declared.lane_change.ChangingLanes.{ChangingLanes}
use Rattle.lane_controls.specs.declared.lane_change.LaneChange.{LaneChange}
use Rattle.lane_controls.specs.declared.lane_change.LaneEnd.{LaneEnd}
use Rattle.lane_controls.specs.declared.lane_change.LaneEnd.TheVariants as ends
use Rattle.lane_controls.specs.declared.lane_change.LaneStage.{LaneStage}
use Rattle.lane_controls.specs.declared.lane_change.LaneStage.TheVariants as stage
use Rattle.lane_controls.specs.ByteHistories.{last_stored, read_at, store_at, was_refused}
use Rattle.lane_controls.specs.LaneChanges.{address, after_at, bits_of, disturbed, end_as_wanted, end_otherwise, lane_after, wanted_byte, wants, wants_at}
use Rattle.lane_controls.specs.LaneProgress.{AreWanted, Keeps, answered, byte_now, end_of}
use Rattle.lane_controls.specs.Merging.{merged}
use Rattle.lane_controls.specs.TestOperations.{read_paths}

-- ---- a byte that has the bits keeps them

shown_bit : (mask bits byte i : ℕ) → bit_at (merged mask bits byte) i ≡ max (min (bit_at byte i) (bit_at (255 - mask) i)) (min (bit_at bits i) (bit_at mask i))
unfolding merged
shown_bit mask bits byte i = bit_at_or (bit_and byte (255 - mask)) (bit_and bits mask) i ∙ (λ k. max (bit_at_and byte (255 - mask) i k) (bit_at_and bits mask i k))

twice : (x n b m : ℕ) → max (min (max (min x n) (min b m)) n) (min b m) ≡ max (min x n) (min b m)
twice x n b m = omega arith

pub merged_again : (mask bits byte : ℕ) → merged mask bits (merged mask bits byte) ≡ merged mask bits byte
merged_again mask bits byte =
    same_from_bits (merged mask bits (merged mask bits byte)) (merged mask bits byte) (λ i.
    shown_bit mask bits (merged mask bits byte) i
    ∙ ap (λ (x : ℕ). max (min x (bit_at (255 - mask) i)) (min (bit_at bits i) (bit_at mask i))) (shown_bit mask bits byte i)
    ∙ twice (bit_at byte i) (bit_at (255 - mask) i) (bit_at bits i) (bit_at mask i) ∙ sym (shown_bit mask bits byte i))

other_number : (a b : ℕ) → a + 1 ≡ b → (a == b) ≡ false
other_number a b e = ne_eqb a b (λ same. omega (arith, same, e))

wanted_again : (change : LaneChange) (byte : ℕ) → (wanted_byte change (wanted_byte change byte) == wanted_byte change byte) ≡ true
wanted_again change byte = eq-eqb _ _ (merged_again (byte_of change.lanes) (bits_of change.on) byte)

-- ---- how many steps it takes

abbrev count : Reply → ℕ → ℕ
count reply n = if was_refused reply then n else n + 1

abbrev IsRanked : ℕ → ℕ → ℕ → LaneStage → Type 0
IsRanked most left n stage.Unread = n + (3 * left + 1) ≤ 3 * most + 1
IsRanked most left n (stage.Found byte) = (0 < left) × (n + 3 * left ≤ 3 * most + 1)
IsRanked most left n (stage.Admitted byte) = (0 < left) × (n + 3 * left ≤ 3 * most + 2)
IsRanked most left n (stage.Ended end) = n ≤ 3 * most + 1

few_by : (most left n : ℕ) (at : LaneStage) → IsRanked most left n at → n ≤ 3 * most + 1
few_by most left n stage.Unread ranked = omega (arith, ranked)
few_by most left n (stage.Found byte) ranked = omega (arith, ranked.0, ranked.1)
few_by most left n (stage.Admitted byte) ranked = omega (arith, ranked.0, ranked.1)
few_by most left n (stage.Ended end) ranked = ranked

ranked_read : (most left n byte : ℕ) (end other : LaneEnd) (wanted more : Bool) → nat_lt 0 left ≡ more → n + (3 * left + 1) ≤ 3 * most + 1
    → IsRanked most left (n + 1) (if wanted then stage.Ended end else (if more then stage.Found byte else stage.Ended other))
ranked_read most left n byte end other true more e ranked = omega (arith, ranked)
ranked_read most left n byte end other false true e ranked = let some : 0 < left = ltb-true 0 left e in (some, omega (arith, ranked))
ranked_read most left n byte end other false false e ranked = omega (arith, ranked)

ranked_look : (most left n byte : ℕ) (end : LaneEnd) (free : Bool) → 0 < left → n + 3 * left ≤ 3 * most + 1
    → IsRanked most left (n + 1) (if free then stage.Admitted byte else stage.Ended end)
ranked_look most left n byte end true some ranked = (some, omega (arith, ranked))
ranked_look most left n byte end false some ranked = omega (arith, ranked, some)

module _ (change : LaneChange) (left : ℕ) (refused : Bool) (most n : ℕ) (op : Op) where
  abbrev at_stage : LaneStage → ChangingLanes
  at_stage at = record { change = change; stage = at; left = left; refused = refused }

  abbrev Ranked : LaneStage → Reply → Type 0
  Ranked at reply = let later = after_at at (at_stage at) reply in IsRanked most later.left (count reply n) later.stage

  no_store : (wanted : Op) → wanted ≡ op → Answers op replies.Done → Answers wanted replies.Done
  no_store wanted same answers = subst (λ (op : Op). Answers op replies.Done) (sym same) answers

  ranked_after : (at : LaneStage) (reply : Reply) → wants_at change at ≡ Do op → Answers op reply → IsRanked most left n at → Ranked at reply
  ranked_after stage.Unread (Bytes bytes) e answers ranked =
      let byte = slice_index bytes.items 0 in
      ranked_read most left n byte (end_as_wanted left change.max_stores byte) (end_otherwise refused byte) (wanted_byte change byte == byte) (nat_lt 0 left) refl ranked
  ranked_after stage.Unread replies.Done e answers ranked = let same : read_at (address change) ≡ op = cc in absurd (no_store (read_at (address change)) same answers)
  ranked_after stage.Unread Refused e answers ranked = ranked
  ranked_after (stage.Found byte) (Bytes bytes) e answers ranked =
      ranked_look most left n byte (ends.NotPermitted byte (disturbed change bytes.items)) (disturbed change bytes.items == 0) ranked.0 ranked.1
  ranked_after (stage.Found byte) replies.Done e answers ranked = let same : read_paths ≡ op = cc in absurd (no_store read_paths same answers)
  ranked_after (stage.Found byte) Refused e answers ranked = ranked
  ranked_after (stage.Admitted byte) (Bytes bytes) e answers ranked =
      let same : op ≡ store_at (address change) (wanted_byte change byte) = cc in absurd (subst (λ (op : Op). Answers op (Bytes bytes)) same answers)
  ranked_after (stage.Admitted byte) replies.Done e answers ranked = omega (arith, ranked.0, ranked.1)
  ranked_after (stage.Admitted byte) Refused e answers ranked = omega (arith, ranked.0, ranked.1)
  ranked_after (stage.Ended end) reply e answers ranked = absurd cc

change_after : (at : LaneStage) (changing : ChangingLanes) (reply : Reply) → (after_at at changing reply).change ≡ changing.change
change_after stage.Unread changing (Bytes bytes) = refl
change_after stage.Unread changing replies.Done = refl
change_after stage.Unread changing Refused = refl
change_after (stage.Found byte) changing (Bytes bytes) = refl
change_after (stage.Found byte) changing replies.Done = refl
change_after (stage.Found byte) changing Refused = refl
change_after (stage.Admitted byte) changing reply = refl
change_after (stage.Ended end) changing reply = refl

change_kept : (change : LaneChange) (history : History) → (lane_after change history).change ≡ change
change_kept change [] = refl
change_kept change (step ∷ before) = change_after (lane_after change before).stage (lane_after change before) step.reply ∙ change_kept change before

ranked : (change : LaneChange) (history : History) → AreWanted change history → let now = lane_after change history in IsRanked change.max_stores now.left (answered history) now.stage
ranked change [] own = omega arith
ranked change (step ∷ before) (wanted, answers, own) =
    let now = lane_after change before in
    ranked_after now.change now.left now.refused change.max_stores (answered before) step.op now.stage step.reply wanted answers (ranked change before own)

pub ends_in_time : (change : LaneChange) (history : History) → AreWanted change history → answered history ≤ 3 * change.max_stores + 1
ends_in_time change history own =
    let now = lane_after change history in few_by change.max_stores now.left (answered history) now.stage (ranked change history own)

-- ---- of a module that refuses nothing, and keeps what is stored

module _ (change : LaneChange) (first : ℕ) (states : List ℕ) (some : 0 < change.max_stores) where
  abbrev differs : Type 0
  differs = (wanted_byte change first == first) ≡ false

  abbrev is_free : Type 0
  is_free = (disturbed change states == 0) ≡ true

  abbrev stored : History → Option ℕ
  stored history = last_stored (address change) history

  abbrev IsSo : LaneStage → ℕ → Option ℕ → ℕ → Type 0
  IsSo stage.Unread left last n =
      ((left ≡ change.max_stores) × (last ≡ None) × (n ≡ 0)) ⊎ ((left + 1 ≡ change.max_stores) × (last ≡ Some (wanted_byte change first)) × (n ≡ 3) × differs × is_free)
  IsSo (stage.Found byte) left last n = (byte ≡ first) × differs × (left ≡ change.max_stores) × (last ≡ None) × (n ≡ 1)
  IsSo (stage.Admitted byte) left last n = (byte ≡ first) × differs × is_free × (left ≡ change.max_stores) × (last ≡ None) × (n ≡ 2)
  IsSo (stage.Ended end) left last n = end ≡ end_of change first states

  end_if : (same free : Bool) → (wanted_byte change first == first) ≡ same → (disturbed change states == 0) ≡ free
      → (if same then ends.Unchanged first else (if free then ends.Changed (wanted_byte change first) else ends.NotPermitted first (disturbed change states))) ≡ end_of change first states
  end_if same free e f = λ i. if sym e i then ends.Unchanged first else (if sym f i then ends.Changed (wanted_byte change first) else ends.NotPermitted first (disturbed change states))

  all_left : (left byte : ℕ) → left ≡ change.max_stores → end_as_wanted left change.max_stores byte ≡ ends.Unchanged byte
  all_left left byte all = ap (λ (b : Bool). if b then ends.Unchanged byte else ends.Changed byte) (eq-eqb left change.max_stores all)

  one_less : (left byte : ℕ) → left + 1 ≡ change.max_stores → end_as_wanted left change.max_stores byte ≡ ends.Changed byte
  one_less left byte less = ap (λ (b : Bool). if b then ends.Unchanged byte else ends.Changed byte) (other_number left change.max_stores less)

  -- the first reading of the control
  first_read : (left n : ℕ) (last : Option ℕ) (refused wanted more : Bool) → left ≡ change.max_stores → last ≡ None → n ≡ 0 → (wanted_byte change first == first) ≡ wanted → nat_lt 0 left ≡ more
      → IsSo (if wanted then stage.Ended (end_as_wanted left change.max_stores first) else (if more then stage.Found first else stage.Ended (end_otherwise refused first))) left last (suc n)
  first_read left n last refused true more all none e w m = all_left left first all ∙ end_if true (disturbed change states == 0) w refl
  first_read left n last refused false true all none e w m = (refl, w, all, none, omega (arith, e))
  first_read left n last refused false false all none e w m = absurd (let few : left ≤ 0 = ltb-false 0 left m in omega (arith, some, all, few))

  looked : (byte left n : ℕ) (last : Option ℕ) (free : Bool) → (disturbed change states == 0) ≡ free → IsSo (stage.Found byte) left last n
      → IsSo (if free then stage.Admitted byte else stage.Ended (ends.NotPermitted byte (disturbed change states))) left last (suc n)
  looked byte left n last true f (is, other, all, none, e) = (is, other, f, all, none, omega (arith, e))
  looked byte left n last false f (is, other, all, none, e) = ap (λ (byte : ℕ). ends.NotPermitted byte (disturbed change states)) is ∙ end_if false false other f

  module _ (left : ℕ) (refused : Bool) (n : ℕ) (before : History) where
    abbrev IsSoAfter : LaneStage → Op → Reply → Type 0
    IsSoAfter at op reply = let later = after_at at (record { change = change; stage = at; left = left; refused = refused }) reply in IsSo later.stage later.left (stored (step_of op reply ∷ before)) (suc n)

    -- the control is read as it is
    read_so : (byte : ℕ) (last : Option ℕ) → byte ≡ byte_now first last → stored before ≡ last → IsSo stage.Unread left last n → IsSoAfter stage.Unread (read_at (address change)) (Bytes (record { items = byte ∷ [] }))
    read_so byte last shows is (inl (all, none, e)) =
        let same : byte ≡ first = shows ∙ ap (byte_now first) none in
        subst (λ (byte : ℕ). IsSoAfter stage.Unread (read_at (address change)) (Bytes (record { items = byte ∷ [] }))) (sym same)
        (first_read left n (stored before) refused (wanted_byte change first == first) (nat_lt 0 left) all (is ∙ none) e refl refl)
    read_so byte last shows is (inr (less, last_is, e, other, free)) =
        let wanted = wanted_byte change first in
        let same : byte ≡ wanted = shows ∙ ap (byte_now first) last_is in
        let Read : Bool → Type 0 = λ b. IsSo (if b then stage.Ended (end_as_wanted left change.max_stores wanted) else (if nat_lt 0 left then stage.Found wanted else stage.Ended (end_otherwise refused wanted))) left (stored before) (suc n) in
        subst (λ (byte : ℕ). IsSoAfter stage.Unread (read_at (address change)) (Bytes (record { items = byte ∷ [] }))) (sym same)
        (subst Read (sym (wanted_again change first)) (one_less left wanted less ∙ end_if false true other free))

    stored_now : (byte : ℕ) (reply : Reply) → stored (step_of (store_at (address change) byte) reply ∷ before) ≡ Some byte
    stored_now byte reply = ap (λ (b : Bool). if b then Some byte else stored before) (eq-eqb (address change) (address change) refl)

    store_so : (byte : ℕ) → IsSo (stage.Admitted byte) left (stored before) n → IsSoAfter (stage.Admitted byte) (store_at (address change) (wanted_byte change byte)) replies.Done
    store_so byte (is, other, free, all, none, e) =
        inr (omega (arith, all, some), stored_now (wanted_byte change byte) replies.Done ∙ ap (λ (byte : ℕ). Some (wanted_byte change byte)) is, omega (arith, e), other, free)

    so_after : (at : LaneStage) (op : Op) (reply : Reply) → wants_at change at ≡ Do op → Keeps change first states (step_of op reply) before → IsSo at left (stored before) n → IsSoAfter at op reply
    so_after stage.Unread op reply wanted keeps so =
        let same : op ≡ read_at (address change) = cc in
        subst (λ (op : Op). IsSoAfter stage.Unread op reply) (sym same)
        (subst (λ (reply : Reply). IsSoAfter stage.Unread (read_at (address change)) reply) (sym (keeps.control same)) (read_so (byte_now first (stored before)) (stored before) refl refl so))
    so_after (stage.Found byte) op reply wanted keeps so =
        let same : op ≡ read_paths = cc in
        subst (λ (op : Op). IsSoAfter (stage.Found byte) op reply) (sym same)
        (subst (λ (reply : Reply). IsSoAfter (stage.Found byte) read_paths reply) (sym (keeps.paths same)) (looked byte left n (stored before) (disturbed change states == 0) refl so))
    so_after (stage.Admitted byte) op reply wanted keeps so =
        let same : op ≡ store_at (address change) (wanted_byte change byte) = cc in
        subst (λ (op : Op). IsSoAfter (stage.Admitted byte) op reply) (sym same)
        (subst (λ (reply : Reply). IsSoAfter (stage.Admitted byte) (store_at (address change) (wanted_byte change byte)) reply) (sym (keeps.stores (wanted_byte change byte) same)) (store_so byte so))
    so_after (stage.Ended end) op reply wanted keeps so = absurd cc

  is_so : (history : History) → AreWanted change history → EachStep (Keeps change first states) history → let now = lane_after change history in IsSo now.stage now.left (stored history) (length history)
  is_so [] own keeps = inl (refl, refl, refl)
  is_so (step ∷ before) (wanted, answers, own) keeps =
      let now = lane_after change before in
      let same : now.change ≡ change = change_kept change before in
      let wanted_so : wants_at change now.stage ≡ Do step.op = ap (λ (c : LaneChange). wants_at c now.stage) (sym same) ∙ wanted in
      let so = so_after now.left now.refused (length before) before now.stage step.op step.reply wanted_so keeps.0 (is_so before own keeps.1) in
      subst (λ (c : LaneChange). let later = after_at now.stage (record { change = c; stage = now.stage; left = now.left; refused = now.refused }) step.reply in IsSo later.stage later.left (stored (step ∷ before)) (suc (length before))) (sym same) so

  ends_by : (now : ChangingLanes) (last : Option ℕ) (n : ℕ) (end : LaneEnd) → IsSo now.stage now.left last n → wants now ≡ End end → end ≡ end_of change first states
  ends_by now last n end so e = by now.change now.stage so e where
    by : (c : LaneChange) (at : LaneStage) → IsSo at now.left last n → wants_at c at ≡ End end → end ≡ end_of change first states
    by c stage.Unread so e = absurd cc
    by c (stage.Found byte) so e = absurd cc
    by c (stage.Admitted byte) so e = absurd cc
    by c (stage.Ended other) so e = let same : end ≡ other = cc in same ∙ so

  soon_by : (now : ChangingLanes) (last : Option ℕ) (n : ℕ) (op : Op) → IsSo now.stage now.left last n → wants now ≡ Do op → n < 4
  soon_by now last n op so e = by now.change now.stage so e where
    by : (c : LaneChange) (at : LaneStage) → IsSo at now.left last n → wants_at c at ≡ Do op → n < 4
    by c stage.Unread (inl (all, none, is)) e = omega (arith, is)
    by c stage.Unread (inr (less, stored, is, other, free)) e = omega (arith, is)
    by c (stage.Found byte) (is, other, all, none, number) e = omega (arith, number)
    by c (stage.Admitted byte) (is, other, free, all, none, number) e = omega (arith, number)
    by c (stage.Ended end) so e = absurd cc

  pub ends_so : (history : History) (end : LaneEnd) → AreWanted change history → EachStep (Keeps change first states) history → wants (lane_after change history) ≡ End end → end ≡ end_of change first states
  ends_so history end own keeps e = ends_by (lane_after change history) (stored history) (length history) end (is_so history own keeps) e

  pub ends_soon : (history : History) (op : Op) → AreWanted change history → EachStep (Keeps change first states) history → wants (lane_after change history) ≡ Do op → length history < 4
  ends_soon history op own keeps e = soon_by (lane_after change history) (stored history) (length history) op (is_so history own keeps) e
