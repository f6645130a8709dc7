-- A step on one byte leaves what is known of the others, and what was before the first store.
use Rattle.std.proofs.Common.{◌≡◌, ◌≢◌, ◌⊎◌, ℕ, ◌+◌, ◌<◌, ◌==◌, Bool, true, false, cond, if◌then◌else◌, nat_eq, List, [], ◌∷◌, Option, Some, None, slice_index, arith, refl, sym, ap, subst, inl, inr, ◌∙◌}
use Rattle.std.proofs.lemmas.Bool.{cases_eq, eqb-true}
use Rattle.bus_model.specs.declared.device.Dev.TheVariants.{A0}
use Rattle.bus_model.specs.declared.operation.Op.TheVariants.{Fetch}
use Rattle.bus_model.specs.declared.operation.Reply.{Reply}
use Rattle.bus_model.specs.declared.operation.Reply.TheVariants.{Bytes, Done, Refused}
use Rattle.bus_model.specs.declared.operation.Step.{Step}
use Rattle.paged_memory.specs.PageAddressing.{History}
use Rattle.paged_memory.proofs.KnownPageLaws.{step_of}
use Rattle.lane_controls.specs.declared.test_plan.Change.{Change}
use Rattle.lane_controls.specs.declared.test_plan.TestPlan.{TestPlan}
use Rattle.lane_controls.specs.ByteHistories.{is_store_at, last_read, last_stored, read_at, store_at, stores_at}
use Rattle.lane_controls.specs.TestPlans.{address}
use Rattle.lane_controls.specs.TestHistories.{byte_before, capabilities_read, paths_read}
use Rattle.lane_controls.specs.TestSteps.{AllMade, IsTestStep, WasMade}
use Rattle.lane_controls.specs.TestAccounts.{AllAccounted, IsAccounted, IsControl}
use Rattle.lane_controls.proofs.TestInvariants.{AreKept, IsFresh}

pub differ : (x a : ℕ) → x ≢ a → nat_eq x a ≡ false
differ x a apart = go (nat_eq x a) refl
  where
    go : (b : Bool) → nat_eq x a ≡ b → b ≡ false
    go true e = absurd (apart (eqb-true x a e))
    go false e = refl

-- a step says nothing of a byte
pub record SaysNothing (a : ℕ) (step : Step) (history : History) : Type 0 where
  pub stores : stores_at a (step ∷ history) ≡ stores_at a history
  pub before : byte_before a (step ∷ history) ≡ byte_before a history
  pub read : last_read a (step ∷ history) ≡ last_read a history
  pub stored : last_stored a (step ∷ history) ≡ last_stored a history

-- nor of any but this one
abbrev pub IsAt : ℕ → Step → History → Type 0
IsAt x step history = (a : ℕ) → x ≢ a → SaysNothing a step history

pub store_is_at : (x byte : ℕ) (reply : Reply) (history : History) → IsAt x (step_of (store_at x byte) reply) history
store_is_at x byte reply history a apart =
    let no = differ x a apart in
    record {
      stores = ap (λ (b : Bool). cond b (stores_at a history + 1) (stores_at a history)) no;
      before = ap (λ (b : Bool). cond b (cond (nat_eq (stores_at a history) 0) (last_read a history) (byte_before a history)) (byte_before a history)) no;
      read = ap (λ (b : Bool). cond b None (last_read a history)) no;
      stored = ap (λ (b : Bool). cond b (Some byte) (last_stored a history)) no;
    }

pub fetch_is_at : (x count : ℕ) (reply : Reply) (history : History) → IsAt x (step_of (Fetch A0 x count) reply) history
fetch_is_at x count (Bytes bytes) history a apart =
    record { stores = refl; before = refl; read = ap (λ (b : Bool). cond b (Some (slice_index bytes.items 0)) (last_read a history)) (differ x a apart); stored = refl }
fetch_is_at x count Done history a apart = record { stores = refl; before = refl; read = refl; stored = refl }
fetch_is_at x count Refused history a apart = record { stores = refl; before = refl; read = refl; stored = refl }

-- what was known of the paths and of the module is known still
pub record IsAside (step : Step) (history : History) : Type 0 where
  pub paths : paths_read (step ∷ history) ≡ paths_read history
  pub capabilities : capabilities_read (step ∷ history) ≡ capabilities_read history

-- one byte is no other
pub read_aside : (x : ℕ) (reply : Reply) (history : History) → IsAside (step_of (read_at x) reply) history
read_aside x (Bytes bytes) history = record { paths = refl; capabilities = refl }
read_aside x Done history = record { paths = refl; capabilities = refl }
read_aside x Refused history = record { paths = refl; capabilities = refl }

pub store_aside : (x byte : ℕ) (reply : Reply) (history : History) → IsAside (step_of (store_at x byte) reply) history
store_aside x byte reply history = record { paths = refl; capabilities = refl }

-- ---- what was switched stays so

more : (b : Bool) (n : ℕ) → 0 < n → 0 < (if b then n + 1 else n)
more true n some = omega (arith, some)
more false n some = some

same_before : (b : Bool) (n : ℕ) (x y : Option ℕ) → 0 < n → (if b then (if n == 0 then x else y) else y) ≡ y
same_before true n x y some = let other : n ≢ 0 = omega (arith, some) in ap (λ (b : Bool). cond b x y) (differ n 0 other)
same_before false n x y some = refl

module _ (plan : TestPlan) (history : History) (step : Step) (aside : IsAside step history) where
  pub change_kept : (change : Change) → WasMade plan history change → WasMade plan (step ∷ history) change
  change_kept change right =
      let a = address change.switch in
      let (states, read, ok) = right.permitted in
      let (capabilities, seen, can) = right.supported in
      record {
        listed = right.listed;
        permitted = (states, aside.paths ∙ read, ok);
        supported = (capabilities, aside.capabilities ∙ seen, can);
        stored = more (is_store_at a step.op) (stores_at a history) right.stored;
        was = same_before (is_store_at a step.op) (stores_at a history) (last_read a history) (byte_before a history) right.stored ∙ right.was;
      }

  pub all_kept : (change : List Change) → AllMade plan history change → AllMade plan (step ∷ history) change
  all_kept [] right = tt
  all_kept (change ∷ others) (right, rest) = (change_kept change right, all_kept others rest)

  module _ (x : ℕ) (is_at : IsAt x step history) (named named' : ℕ → Bool) (stay : (a : ℕ) → x ≢ a → named a ≡ true → named' a ≡ true) where
    elsewhere : (a : ℕ) → x ≢ a → IsAccounted plan history (named a) a → IsAccounted plan (step ∷ history) (named' a) a
    elsewhere a apart (inl none) = inl ((is_at a apart).stores ∙ none)
    elsewhere a apart (inr (inl is)) = inr (inl (stay a apart is))
    elsewhere a apart (inr (inr back)) = inr (inr (record {
      change = back.change;
      right = change_kept back.change back.right;
      of = back.of;
      now = back.now;
      read = (is_at a apart).read ∙ back.read;
      same = back.same;
    }))

    pub accounted_kept : (IsControl x → IsAccounted plan (step ∷ history) (named' x) x) → AllAccounted plan history named → AllAccounted plan (step ∷ history) named'
    accounted_kept here all a control =
        elim (cases_eq x a) [
          | inl is ↦ subst (λ b. IsAccounted plan (step ∷ history) (named' b) b) is (here (subst IsControl (sym is) control))
          | inr apart ↦ elsewhere a apart (all a control)
        ]

    pub fresh_kept : (IsControl x → (stores_at x (step ∷ history) ≡ 0) ⊎ (named' x ≡ true)) → IsFresh history named → IsFresh (step ∷ history) named'
    fresh_kept here all a control =
        elim (cases_eq x a) [
          | inl is ↦ subst (λ b. (stores_at b (step ∷ history) ≡ 0) ⊎ (named' b ≡ true)) is (here (subst IsControl (sym is) control))
          | inr apart ↦ elim (all a control) [
            | inl none ↦ inl ((is_at a apart).stores ∙ none)
            | inr is ↦ inr (stay a apart is)
          ]
        ]

    pub kept_step : (on left : List Change) → IsTestStep plan step history → (IsControl x → IsAccounted plan (step ∷ history) (named' x) x) → AreKept plan history named on left
        → AreKept plan (step ∷ history) named' on left
    kept_step on left is here kept = record {
      steps = (is, kept.steps);
      accounted = accounted_kept here kept.accounted;
      on_right = all_kept on kept.on_right;
      left_right = all_kept left kept.left_right;
    }
