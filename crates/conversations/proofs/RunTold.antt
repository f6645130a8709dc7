-- How far a conversation has come that is carried out on a bus.
use Rattle.std.proofs.Common.{◌≡◌, ◌≤◌, ◌<◌, ◌+◌, ◌-◌, ◌*◌, ℕ, Bool, cond, refl, sym, ap, inl, inr, ◌∙◌, arith}
use Rattle.std.proofs.lemmas.Bool.{cases_lt, lt-ltb, le-ltb}
use Rattle.std.specs.Prelude.{None}
use Rattle.bus_model.specs.declared.operation.Op.{Op}
use Rattle.conversations.specs.declared.next.Next.{Next}
use Rattle.conversations.specs.declared.next.Next.TheVariants.{Do, Wait, End}
use Rattle.conversations.specs.declared.within.Spent.{Spent}
use Rattle.conversations.specs.Budgets.{next_within}
use Rattle.conversations.specs.Wanted.{IsWait}

-- 1 if it waits now
abbrev pub waits : {E : Type 0} → Next E → ℕ
waits (Do op) = 0
waits (Wait time) = 1
waits (End end) = 0

-- the operations that may still be made, twice, and a wait before the next of them
abbrev pub turns_left : {E : Type 0} → ℕ → ℕ → Next E → ℕ
turns_left steps limit wanted = 2 * (limit - steps) + waits wanted

pub waits_few : {E : Type 0} (wanted : Next E) → waits wanted ≤ 1
waits_few (Do op) = omega arith
waits_few (Wait time) = omega arith
waits_few (End end) = omega arith

-- an operation is wanted while fewer were made than may be
pub do_fewer : {E : Type 0} (steps limit : ℕ) (wanted : Next E) (op : Op) → next_within steps limit wanted ≡ Do op → (wanted ≡ Do op) × (steps < limit)
do_fewer {E} steps limit (Do other) op e =
    let gave : Next (Spent E) = End (record { steps = steps; end = None }) in
    let go : Next (Spent E) = Do other in
    elim (cases_lt steps limit) [
      | inl fewer ↦
          let same : go ≡ Do op = sym (ap (λ (b : Bool). cond b go gave) (lt-ltb _ _ fewer)) ∙ e in
          (cc, fewer)
      | inr all ↦
          let none : gave ≡ Do op = sym (ap (λ (b : Bool). cond b go gave) (le-ltb _ _ all)) ∙ e in
          absurd cc
    ]
do_fewer steps limit (Wait time) op e = absurd cc
do_fewer steps limit (End end) op e = absurd cc

pub wait_waits : {E : Type 0} (steps limit : ℕ) (wanted : Next E) (time : ℕ) → next_within steps limit wanted ≡ Wait time → waits wanted ≡ 1
wait_waits {E} steps limit (Do other) time e =
    let gave : Next (Spent E) = End (record { steps = steps; end = None }) in
    let go : Next (Spent E) = Do other in
    elim (cases_lt steps limit) [
      | inl fewer ↦
          let none : go ≡ Wait time = sym (ap (λ (b : Bool). cond b go gave) (lt-ltb _ _ fewer)) ∙ e in
          absurd cc
      | inr all ↦
          let none : gave ≡ Wait time = sym (ap (λ (b : Bool). cond b go gave) (le-ltb _ _ all)) ∙ e in
          absurd cc
    ]
wait_waits steps limit (Wait other) time e = refl
wait_waits steps limit (End end) time e = absurd cc

pub waited_none : {E : Type 0} (steps limit : ℕ) (wanted : Next E) → ¬ (IsWait (next_within steps limit wanted)) → waits wanted ≡ 0
waited_none steps limit (Do op) never = refl
waited_none steps limit (Wait time) never = absurd (never tt)
waited_none steps limit (End end) never = refl

pub fewer_turns : {E : Type 0} (steps more limit : ℕ) (old new : Next E) → more ≡ steps + 1 → steps < limit → turns_left more limit new < turns_left steps limit old
fewer_turns steps more limit old new e fewer = omega (arith, e, fewer, waits_few new)

pub fewer_waits : {E : Type 0} (steps same limit : ℕ) (old new : Next E) → same ≡ steps → waits old ≡ 1 → waits new ≡ 0 → turns_left same limit new < turns_left steps limit old
fewer_waits steps same limit old new e was is = omega (arith, e, was, is)
