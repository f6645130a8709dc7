-- A change of lanes keeps to its steps, and ends as they say.
use Rattle.std.proofs.Common.{◌≡◌, ◌≢◌, ℕ, ◌+◌, ◌<◌, ◌≤◌, Bool, true, false, cond, if◌then◌else◌, nat_eq, nat_lt, ◌∷◌, Some, slice_index, arith, refl, ap, subst, inl, inr, ◌∙◌}
use Rattle.std.proofs.lemmas.Bool.{eqb-true, eqb-false, ltb-true, ltb-false}
use Rattle.arrayvec.specs.ArrayVec.{ArrayVec}
use Rattle.bus_model.specs.declared.operation.Op.{Op}
use Rattle.bus_model.specs.declared.operation.Reply.{Reply}
use Rattle.bus_model.specs.declared.operation.Reply.TheVariants.{Bytes, Refused}
use Rattle.bus_model.specs.declared.operation.Reply.TheVariants as replies
use Rattle.conversations.specs.declared.next.Next.TheVariants.{Do}
use Rattle.paged_memory.specs.PageAddressing.{History}
use Rattle.paged_memory.proofs.KnownPageLaws.{step_of}
use Rattle.lane_controls.specs.declared.lane_change.ChangingLanes.{ChangingLanes}
use Rattle.lane_controls.specs.declared.lane_change.LaneChange.{LaneChange}
use Rattle.lane_controls.specs.declared.lane_change.LaneEnd.TheVariants as ends
use Rattle.lane_controls.specs.declared.lane_change.LaneStage.{LaneStage}
use Rattle.lane_controls.specs.declared.lane_change.LaneStage.TheVariants as stage
use Rattle.lane_controls.specs.declared.lane_register.LaneRegister.{LaneRegister}
use Rattle.lane_controls.specs.declared.lane_register.LaneRegister.TheVariants.{InputPolarityFlipTx, OutputDisableTx, AutoSquelchDisableTx, OutputSquelchForceTx, AdaptiveInputEqFreezeTx, OutputPolarityFlipRx, OutputDisableRx, AutoSquelchDisableRx}
use Rattle.lane_controls.specs.ByteHistories.{is_last_refused, last_read, read_at, store_at, stores_at}
use Rattle.lane_controls.specs.LaneChanges.{AreLaneSteps, HasEndedIn, IsAdmitted, IsAtStage, IsReadAsWanted, IsReadOther, IsReadOtherwise, IsTold, address, after, after_at, after_look, after_read, disturbed, end_as_wanted, end_otherwise, wanted_byte, wants, wants_at}
use Rattle.lane_controls.specs.LaneRegisters.{address_of}
use Rattle.lane_controls.specs.TestOperations.{read_paths}
use Rattle.lane_controls.proofs.ByteLaws.{read_now, refused_now, stores_more}

-- ---- the states of the paths stand elsewhere

elsewhere : (register : LaneRegister) → nat_eq 128 (address_of register) ≡ false
elsewhere InputPolarityFlipTx = refl
elsewhere OutputDisableTx = refl
elsewhere AutoSquelchDisableTx = refl
elsewhere OutputSquelchForceTx = refl
elsewhere AdaptiveInputEqFreezeTx = refl
elsewhere OutputPolarityFlipRx = refl
elsewhere OutputDisableRx = refl
elsewhere AutoSquelchDisableRx = refl

still_read : (change : LaneChange) (history : History) (reply : Reply) → last_read (address change) (step_of read_paths reply ∷ history) ≡ last_read (address change) history
still_read change history (Bytes bytes) = ap (λ (b : Bool). cond b (Some (slice_index bytes.items 0)) (last_read (address change) history)) (elsewhere change.register)
still_read change history replies.Done = refl
still_read change history Refused = refl

still_other : (change : LaneChange) (byte : ℕ) (history : History) (reply : Reply) → IsReadOther change byte history → IsReadOther change byte (step_of read_paths reply ∷ history)
still_other change byte history reply (read, other) = (still_read change history reply ∙ read, other)

-- ---- what a reading shows

module _ (change : LaneChange) (history : History) (byte : ℕ) where
  as_wanted : (left : ℕ) → IsReadAsWanted change byte history → stores_at (address change) history + left ≡ change.max_stores → (b : Bool) → nat_eq left change.max_stores ≡ b
      → HasEndedIn change (if b then ends.Unchanged byte else ends.Changed byte) history
  as_wanted left is sum true e = let same : left ≡ change.max_stores = eqb-true left change.max_stores e in (is, omega (arith, same, sum))
  as_wanted left is sum false e = let other : left ≢ change.max_stores = eqb-false left change.max_stores e in (is, omega (arith, other, sum))

  otherwise : (refused : Bool) → IsReadOtherwise change byte refused history → HasEndedIn change (end_otherwise refused byte) history
  otherwise true is = is
  otherwise false is = is

  stage_by : (left : ℕ) (refused : Bool) → last_read (address change) history ≡ Some byte → stores_at (address change) history + left ≡ change.max_stores
      → is_last_refused (address change) history ≡ refused → (b : Bool) → nat_eq (wanted_byte change byte) byte ≡ b → (more : Bool) → nat_lt 0 left ≡ more
      → IsAtStage change (if b then stage.Ended (end_as_wanted left change.max_stores byte) else (if more then stage.Found byte else stage.Ended (end_otherwise refused byte))) history
  stage_by left refused read sum last true e more m = as_wanted left (read, eqb-true _ _ e) sum (nat_eq left change.max_stores) refl
  stage_by left refused read sum last false e true m = let some : 0 < left = ltb-true 0 left m in ((read, eqb-false _ _ e), omega (arith, some, sum))
  stage_by left refused read sum last false e false m =
      let none : left ≤ 0 = ltb-false 0 left m in
      otherwise refused (record { read = read; other = eqb-false _ _ e; all = omega (arith, none, sum); last = last })

  look_by : (bytes : ArrayVec ℕ) → IsReadOther change byte history → stores_at (address change) history < change.max_stores → (b : Bool) → nat_eq (disturbed change bytes.items) 0 ≡ b
      → IsAtStage change (if b then stage.Admitted byte else stage.Ended (ends.NotPermitted byte (disturbed change bytes.items))) (step_of read_paths (Bytes bytes) ∷ history)
  look_by bytes other fewer true e = ((still_other change byte history (Bytes bytes) other, (bytes.items, (refl, refl), eqb-true _ _ e)), fewer)
  look_by bytes other fewer false e = (still_other change byte history (Bytes bytes) other, (bytes.items, (refl, refl), refl, eqb-false _ _ e))

-- ---- what a step makes of it

module _ (change : LaneChange) (history : History) where
  read_step : (reply : Reply) → AreLaneSteps change history → AreLaneSteps change (step_of (read_at (address change)) reply ∷ history)
  read_step reply steps = record { each = (inl refl, steps.each); few = steps.few }

  look_step : (reply : Reply) → AreLaneSteps change history → AreLaneSteps change (step_of read_paths reply ∷ history)
  look_step reply steps = record { each = (inr (inl refl), steps.each); few = steps.few }

  store_step : (byte : ℕ) (reply : Reply) → AreLaneSteps change history → IsAdmitted change byte history → stores_at (address change) history < change.max_stores
      → AreLaneSteps change (step_of (store_at (address change) (wanted_byte change byte)) reply ∷ history)
  store_step byte reply steps admitted fewer = record {
    each = (inr (inr (byte, admitted, refl)), steps.each);
    few = omega (arith, stores_more (address change) history (wanted_byte change byte) reply, fewer);
  }

  unread_kept : (left : ℕ) (refused : Bool) (reply : Reply) → let c : ChangingLanes = record { change = change; stage = stage.Unread; left = left; refused = refused } in
      IsTold history c → IsTold (step_of (read_at (address change)) reply ∷ history) (after_read c reply)
  unread_kept left refused (Bytes bytes) told = record {
    is = ap (λ (x : ChangingLanes). after x (Bytes bytes)) told.is;
    steps = read_step (Bytes bytes) told.steps;
    counted = told.counted;
    last = told.last;
    at = stage_by change (step_of (read_at (address change)) (Bytes bytes) ∷ history) (slice_index bytes.items 0) left refused (read_now (address change) history bytes) told.counted told.last _ refl _ refl;
  }
  unread_kept left refused replies.Done told = record {
    is = ap (λ (x : ChangingLanes). after x replies.Done) told.is;
    steps = read_step replies.Done told.steps;
    counted = told.counted;
    last = told.last;
    at = tt;
  }
  unread_kept left refused Refused told = record {
    is = ap (λ (x : ChangingLanes). after x Refused) told.is;
    steps = read_step Refused told.steps;
    counted = told.counted;
    last = told.last;
    at = tt;
  }

  found_kept : (byte left : ℕ) (refused : Bool) (reply : Reply) → let c : ChangingLanes = record { change = change; stage = stage.Found byte; left = left; refused = refused } in
      IsTold history c → IsTold (step_of read_paths reply ∷ history) (after_look byte c reply)
  found_kept byte left refused (Bytes bytes) told =
      let (other, fewer) = told.at in
      record {
        is = ap (λ (x : ChangingLanes). after x (Bytes bytes)) told.is;
        steps = look_step (Bytes bytes) told.steps;
        counted = told.counted;
        last = told.last;
        at = look_by change history byte bytes other fewer _ refl;
      }
  found_kept byte left refused replies.Done told =
      let (other, fewer) = told.at in
      record {
        is = ap (λ (x : ChangingLanes). after x replies.Done) told.is;
        steps = look_step replies.Done told.steps;
        counted = told.counted;
        last = told.last;
        at = (still_other change byte history replies.Done other, fewer);
      }
  found_kept byte left refused Refused told =
      let (other, fewer) = told.at in
      record {
        is = ap (λ (x : ChangingLanes). after x Refused) told.is;
        steps = look_step Refused told.steps;
        counted = told.counted;
        last = told.last;
        at = (still_other change byte history Refused other, fewer);
      }

  admitted_kept : (byte left : ℕ) (refused : Bool) (reply : Reply) → let c : ChangingLanes = record { change = change; stage = stage.Admitted byte; left = left; refused = refused } in
      IsTold history c → IsTold (step_of (store_at (address change) (wanted_byte change byte)) reply ∷ history) (after c reply)
  admitted_kept byte left refused reply told =
      let (admitted, fewer) = told.at in
      record {
        is = ap (λ (x : ChangingLanes). after x reply) told.is;
        steps = store_step byte reply told.steps admitted fewer;
        counted = omega (arith, stores_more (address change) history (wanted_byte change byte) reply, fewer, told.counted);
        last = refused_now (address change) history (wanted_byte change byte) reply;
        at = tt;
      }

  kept_at : (now : LaneStage) (left : ℕ) (refused : Bool) (op : Op) (reply : Reply) → let c : ChangingLanes = record { change = change; stage = now; left = left; refused = refused } in
      wants_at change now ≡ Do op → IsTold history c → IsTold (step_of op reply ∷ history) (after_at now c reply)
  kept_at stage.Unread left refused op reply asks told =
      let is : read_at (address change) ≡ op = cc in
      subst (λ o. IsTold (step_of o reply ∷ history) (after_at stage.Unread (record { change = change; stage = stage.Unread; left = left; refused = refused }) reply)) is (unread_kept left refused reply told)
  kept_at (stage.Found byte) left refused op reply asks told =
      let is : read_paths ≡ op = cc in
      subst (λ o. IsTold (step_of o reply ∷ history) (after_at (stage.Found byte) (record { change = change; stage = stage.Found byte; left = left; refused = refused }) reply)) is (found_kept byte left refused reply told)
  kept_at (stage.Admitted byte) left refused op reply asks told =
      let is : store_at (address change) (wanted_byte change byte) ≡ op = cc in
      subst (λ o. IsTold (step_of o reply ∷ history) (after_at (stage.Admitted byte) (record { change = change; stage = stage.Admitted byte; left = left; refused = refused }) reply)) is (admitted_kept byte left refused reply told)
  kept_at (stage.Ended end) left refused op reply asks told = absurd cc

pub kept : (history : History) (changing : ChangingLanes) (op : Op) (reply : Reply) → wants changing ≡ Do op → IsTold history changing → IsTold (step_of op reply ∷ history) (after changing reply)
kept history changing op reply asks told = kept_at changing.change history changing.stage changing.left changing.refused op reply asks told
