-- What a run on a scripted bus does to the device.
use Rattle.std.proofs.Common.{◌≡◌, ℕ, zero, suc, List, [], ◌∷◌, ◌++◌, Option, Some, None, Bool, true, false, refl, sym, ap, rules}
use Rattle.std.specs.List.{AllByRecursion}
use Rattle.std.specs.Prelude.{fold, option_map, nat_lt, ◌-◌, if◌then◌else◌}
use Rattle.arrayvec.specs.ArrayVec.{ArrayVec}
use Rattle.bus_model.specs.declared.device.Dev.{Dev}
use Rattle.bus_model.specs.declared.operation.Op.{Op}
use Rattle.bus_model.specs.declared.operation.Op.TheVariants.{Fetch, Store}
use Rattle.bus_model.specs.declared.operation.Reply.{Reply}
use Rattle.bus_model.specs.declared.operation.Reply.TheVariants.{Bytes, Done, Refused}
use Rattle.bus_model.specs.declared.operation.Step.{Step}
use Rattle.bus_model.specs.declared.script.Directive.{Directive}
use Rattle.bus_model.specs.declared.script.Directive.TheVariants.{Pass, Nack, Cut, Tick, LowPower}
use Rattle.bus_model.specs.Conduct.{Conduct}
use Rattle.bus_model.specs.Keeping.{AllowsPins, IsKeptInTime, IsKeptBy}
use Rattle.bus_model.specs.Operations.{fetch_reply, fetch_step, store_step}
use Rattle.bus_model.specs.Runs.{Rules, MayInTurn}
use Rattle.bus_model.specs.Scripts.{spent}
use Rattle.bus_model.specs.ScriptedBus.{ticked_times, settled, passed_on, given, obeyed, transacted, script_rules}

-- the steps of a run in two parts
pub may_split : {S : Type 0} (rules : Rules S) (state : S) (first next : List Step) → MayInTurn rules state (first ++ next) → MayInTurn rules state first × MayInTurn rules (fold rules.after state first) next
may_split rules state [] next may = (tt, may)
may_split rules state (step ∷ first) next may =
    let more = may_split rules (rules.after state step) first next may.1 in ((may.0, more.0), more.1)

abbrev AllAllow : (Bool → Type 0) → List Directive → Type 0
AllAllow Pins script = AllByRecursion (AllowsPins Pins) script

-- a script that may set the pin as it likes
pub all_allow : (script : List Directive) → AllAllow (λ on. Unit {0}) script
all_allow [] = tt
all_allow (Pass count ∷ script) = (tt, all_allow script)
all_allow (Nack count ∷ script) = (tt, all_allow script)
all_allow (Cut kept ∷ script) = (tt, all_allow script)
all_allow (Tick count ∷ script) = (tt, all_allow script)
all_allow (LowPower on ∷ script) = (tt, all_allow script)

module _ {S : Type 0} (conduct : Conduct S) (Pins : Bool → Type 0) where
  -- what is left of a script sets the pin no otherwise
  pub settled_allows : (script : List Directive) (state : S) → AllAllow Pins script → AllAllow Pins (settled conduct script state).0
  settled_allows [] state allows = tt
  settled_allows (Pass count ∷ script) state allows = allows
  settled_allows (Nack count ∷ script) state allows = allows
  settled_allows (Cut kept ∷ script) state allows = allows
  settled_allows (Tick count ∷ script) state allows = settled_allows script _ allows.1
  settled_allows (LowPower on ∷ script) state allows = settled_allows script _ allows.1

  spent_allows : (script : List Directive) → AllAllow Pins script → AllAllow Pins (spent script)
  spent_allows [] allows = tt
  spent_allows (Pass count ∷ script) allows =
      elim (nat_lt 1 count) as (λ more. AllAllow Pins (if more then Pass (count - 1) ∷ script else script)) [ true ↦ (tt, allows.1) | false ↦ allows.1 ]
  spent_allows (Nack count ∷ script) allows =
      elim (nat_lt 1 count) as (λ more. AllAllow Pins (if more then Nack (count - 1) ∷ script else script)) [ true ↦ (tt, allows.1) | false ↦ allows.1 ]
  spent_allows (Cut kept ∷ script) allows = allows.1
  spent_allows (Tick count ∷ script) allows = allows.1
  spent_allows (LowPower on ∷ script) allows = allows.1

  pub step_allows : (op : Op) (state : List Directive × S) → AllAllow Pins state.0 → AllAllow Pins (transacted conduct op state).1.0
  step_allows op (script, state) allows = spent_allows _ (settled_allows script state allows)

module _ {S : Type 0} (conduct : Conduct S) (Pins : Bool → Type 0) (P : S → Type 0) (time : IsKeptInTime conduct Pins P) where
  ticked_keeps : (count : ℕ) (state : S) → P state → P (ticked_times conduct count state)
  ticked_keeps zero state holds = holds
  ticked_keeps (suc count) state holds = time.tick _ (ticked_keeps count state holds)

  -- what time keeps, the directives before a transaction keep
  pub settled_keeps : (script : List Directive) → AllAllow Pins script → (state : S) → P state → P (settled conduct script state).1
  settled_keeps [] allows state holds = holds
  settled_keeps (Pass count ∷ script) allows state holds = holds
  settled_keeps (Nack count ∷ script) allows state holds = holds
  settled_keeps (Cut kept ∷ script) allows state holds = holds
  settled_keeps (Tick count ∷ script) allows state holds = settled_keeps script allows.1 _ (ticked_keeps count state holds)
  settled_keeps (LowPower on ∷ script) allows state holds = settled_keeps script allows.1 _ (time.low_power_pin state on allows.0 holds)

  passed_on_keeps : (op : Op) → IsKeptBy conduct P op → (state : S) → P state → P (passed_on conduct op state).1
  passed_on_keeps (Fetch dev offset count) keeps state holds = keeps state holds
  passed_on_keeps (Store dev offset bytes) keeps state holds = keeps.0 state holds

  given_keeps : (op : Op) → IsKeptBy conduct P op → (kept : ℕ) (state : S) → P state → P (given conduct op kept state)
  given_keeps (Fetch dev offset count) keeps kept state holds = holds
  given_keeps (Store dev offset bytes) keeps zero state holds = holds
  given_keeps (Store dev offset bytes) keeps (suc kept) state holds = keeps.1 state (suc kept) holds

  obeyed_keeps : (op : Op) → IsKeptBy conduct P op → (script : List Directive) (state : S) → P state → P (obeyed conduct op script state).1
  obeyed_keeps op keeps [] state holds = passed_on_keeps op keeps state holds
  obeyed_keeps op keeps (Pass count ∷ script) state holds = passed_on_keeps op keeps state holds
  obeyed_keeps op keeps (Nack count ∷ script) state holds = holds
  obeyed_keeps op keeps (Cut kept ∷ script) state holds = given_keeps op keeps kept state holds
  obeyed_keeps op keeps (Tick count ∷ script) state holds = passed_on_keeps op keeps state holds
  obeyed_keeps op keeps (LowPower on ∷ script) state holds = passed_on_keeps op keeps state holds

  pub step_keeps : (op : Op) → IsKeptBy conduct P op → (state : List Directive × S) → AllAllow Pins state.0 → P state.1 → P (transacted conduct op state).1.1
  step_keeps op keeps (script, state) allows holds = time.tick _ (obeyed_keeps op keeps _ _ (settled_keeps script allows state holds))

  -- what time and each operation keep, the steps keep, and the script goes on allowing only these settings of the pin
  pub steps_keep : (steps : List Step) → AllByRecursion (λ step. IsKeptBy conduct P step.op) steps → (state : List Directive × S) → AllAllow Pins state.0 → P state.1 →
      P (fold (script_rules conduct).after state steps).1
  steps_keep [] each state allows holds = holds
  steps_keep (step ∷ steps) each state allows holds =
      steps_keep steps each.1 _ (step_allows conduct Pins step.op state allows) (step_keeps step.op each.0 state allows holds)

module _ {S : Type 0} (conduct : Conduct S) (Pins : Bool → Type 0) where
  pub steps_allow : (steps : List Step) (state : List Directive × S) → AllAllow Pins state.0 → AllAllow Pins (fold (script_rules conduct).after state steps).0
  steps_allow [] state allows = allows
  steps_allow (step ∷ steps) state allows = steps_allow steps _ (step_allows conduct Pins step.op state allows)

-- A fetch that was answered was answered by the device, which then lived on for one unit of time.
pub record Fetched {S : Type 0} (conduct : Conduct S) (dev : Dev) (offset count : ℕ) (bytes : ArrayVec ℕ) (before after : S) : Type 0 where
  pub answer : (conduct.fetch before dev offset count).0 ≡ Some bytes.items
  pub left : after ≡ conduct.tick (conduct.fetch before dev offset count).1

abbrev items_of : Reply → List ℕ
items_of (Bytes bytes) = bytes.items
items_of Done = []
items_of Refused = []

reply_is : (answer : Option (List ℕ)) (bytes : ArrayVec ℕ) → Bytes bytes ≡ fetch_reply (option_map (λ bytes. record { items = bytes }) answer) → answer ≡ Some bytes.items
reply_is None bytes same = cc
reply_is (Some items) bytes same = sym (ap (λ reply. Some (items_of reply)) same)

obeyed_fetch : {S : Type 0} (conduct : Conduct S) (dev : Dev) (offset count : ℕ) (bytes : ArrayVec ℕ) (script : List Directive) (state : S) → Bytes bytes ≡ (obeyed conduct (Fetch dev offset count) script state).0 → Fetched conduct dev offset count bytes state (conduct.tick (obeyed conduct (Fetch dev offset count) script state).1)
obeyed_fetch conduct dev offset count bytes [] state same = record { answer = reply_is _ bytes same; left = refl }
obeyed_fetch conduct dev offset count bytes (Pass n ∷ script) state same = record { answer = reply_is _ bytes same; left = refl }
obeyed_fetch conduct dev offset count bytes (Nack n ∷ script) state same = cc
obeyed_fetch conduct dev offset count bytes (Cut n ∷ script) state same = cc
obeyed_fetch conduct dev offset count bytes (Tick n ∷ script) state same = record { answer = reply_is _ bytes same; left = refl }
obeyed_fetch conduct dev offset count bytes (LowPower on ∷ script) state same = record { answer = reply_is _ bytes same; left = refl }

-- the device in the moment of an answered fetch
pub fetched_at : {S : Type 0} (conduct : Conduct S) (dev : Dev) (offset count : ℕ) (bytes : ArrayVec ℕ) (state : List Directive × S) →
    (script_rules conduct).may state (fetch_step dev offset count (Some bytes)) →
    Fetched conduct dev offset count bytes (settled conduct state.0 state.1).1 ((script_rules conduct).after state (fetch_step dev offset count (Some bytes))).1
fetched_at conduct dev offset count bytes (script, state) may = obeyed_fetch conduct dev offset count bytes _ _ may

-- A store that was taken was taken by the device, which then lived on for one unit of time.
pub record Stored {S : Type 0} (conduct : Conduct S) (dev : Dev) (offset : ℕ) (bytes : List ℕ) (before after : S) : Type 0 where
  pub answer : (conduct.store before dev offset bytes).0 ≡ true
  pub left : after ≡ conduct.tick (conduct.store before dev offset bytes).1

taken_is : (taken : Bool) → Done ≡ (if taken then Done else Refused) → taken ≡ true
taken_is true same = refl
taken_is false same = cc

obeyed_store : {S : Type 0} (conduct : Conduct S) (dev : Dev) (offset : ℕ) (bytes : List ℕ) (script : List Directive) (state : S) → Done ≡ (obeyed conduct (Store dev offset (record { items = bytes })) script state).0 → Stored conduct dev offset bytes state (conduct.tick (obeyed conduct (Store dev offset (record { items = bytes })) script state).1)
obeyed_store conduct dev offset bytes [] state same = record { answer = taken_is _ same; left = refl }
obeyed_store conduct dev offset bytes (Pass n ∷ script) state same = record { answer = taken_is _ same; left = refl }
obeyed_store conduct dev offset bytes (Nack n ∷ script) state same = cc
obeyed_store conduct dev offset bytes (Cut n ∷ script) state same = cc
obeyed_store conduct dev offset bytes (Tick n ∷ script) state same = record { answer = taken_is _ same; left = refl }
obeyed_store conduct dev offset bytes (LowPower on ∷ script) state same = record { answer = taken_is _ same; left = refl }

-- the device in the moment of an accepted store
pub stored_at : {S : Type 0} (conduct : Conduct S) (dev : Dev) (offset : ℕ) (bytes : List ℕ) (state : List Directive × S) →
    (script_rules conduct).may state (store_step dev offset bytes true) →
    Stored conduct dev offset bytes (settled conduct state.0 state.1).1 ((script_rules conduct).after state (store_step dev offset bytes true)).1
stored_at conduct dev offset bytes (script, state) may = obeyed_store conduct dev offset bytes _ _ may
