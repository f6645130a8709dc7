-- Steps that wake a module up or put it to sleep, and some that don't.
use Rattle.std.proofs.Common.{◌≡◌, ◌≢◌, ℕ, [], ◌∷◌, Ok, Err, get_or, arith, refl, sym, subst, ap, inl, inr, ◌∙◌}
use Rattle.bus_model.specs.declared.operation.Op.{Op}
use Rattle.bus_model.specs.declared.operation.Op.TheVariants.{Fetch, Store}
use Rattle.bus_model.specs.declared.operation.Reply.{Reply}
use Rattle.bus_model.specs.declared.operation.Reply.TheVariants.{Bytes}
use Rattle.bus_model.specs.declared.operation.Step.{Step}
use Rattle.control_sets.specs.declared.fault.ProvisionFault.TheVariants.{ModuleState}
use Rattle.control_sets.specs.declared.procedures.power.Power.{Power}
use Rattle.control_sets.specs.declared.procedures.power.Power.TheVariants.{Awake, Asleep}
use Rattle.control_sets.specs.OutcomeAnswers.{Answer}
use Rattle.control_sets.specs.OutcomeExamples.{gave, low_power, ready, refused, took}
use Rattle.control_sets.specs.OutcomeOfPower.{IsPowerChange, IsPowerStep, IsTaken}
use Rattle.control_sets.specs.OutcomeOfProvisioning.{IsStore}
use Rattle.control_sets.specs.OutcomeOperations.{read_module_state}
use Rattle.control_sets.specs.OutcomeSteps.{Gives, Stands}
use Rattle.control_sets.specs.Pages.{History}
use Rattle.control_sets.specs.PowerControls.{read_controls, set_controls, wanted_controls}
use Rattle.control_sets.proofs.PowerLaws.{ended_is_change, store_is_no_state, store_is_other, waits}
use Rattle.control_sets.proofs.OutcomeWords.{items_in}

abbrev pub woken_before : History
woken_before = took (set_controls 0xA5) ∷ refused (set_controls 0xA5) ∷ gave read_controls (0xFD ∷ []) ∷ refused read_controls ∷ []

pub woken : (full : Type 0) → IsPowerChange Awake full (ready ∷ gave read_module_state (0x04 ∷ []) ∷ woken_before) (Ok 6)
unfolding wanted_controls
woken full =
    ended_is_change Awake full (ready ∷ gave read_module_state (0x04 ∷ []) ∷ woken_before) (Ok 6) (
      (0x06 ∷ [], (refl, refl), refl),
      refl,
      inl ((refl, waits Awake read_module_state (Bytes (record { items = 0x04 ∷ [] })) refl), inr (0xFD, (refl, refl), inl ((refl, refl), inr ((refl, refl), ((refl, refl), tt))))),
    )
    (omega arith) (λ steps e. cc)

pub asleep : (full : Type 0) → IsPowerChange Asleep full (low_power ∷ took (set_controls 0xB5) ∷ gave read_controls (0xAD ∷ []) ∷ []) (Ok 3)
unfolding wanted_controls
asleep full =
    ended_is_change Asleep full (low_power ∷ took (set_controls 0xB5) ∷ gave read_controls (0xAD ∷ []) ∷ []) (Ok 3)
    ((0x02 ∷ [], (refl, refl), refl), refl, inr (0xAD, (refl, refl), inr ((refl, refl), tt))) (omega arith) (λ steps e. cc)

pub faulty : (full : Type 0) → IsPowerChange Awake full (gave read_module_state (0x0A ∷ []) ∷ took (set_controls 0x00) ∷ gave read_controls (0x40 ∷ []) ∷ []) (Err (ModuleState 5))
unfolding wanted_controls
faulty full =
    ended_is_change Awake full (gave read_module_state (0x0A ∷ []) ∷ took (set_controls 0x00) ∷ gave read_controls (0x40 ∷ []) ∷ []) (Err (ModuleState 5))
    ((0x0A ∷ [], (refl, refl), (refl, refl)), refl, inr (0x40, (refl, refl), inr ((refl, refl), tt))) (omega arith) (λ steps e. absurd cc)

-- no fetch is a store that was taken
untaken : (step : Step) → step.op ≡ read_controls → ¬ (Stands IsTaken (step ∷ []))
untaken step is (inl taken) = subst IsStore is taken.0
untaken step is (inr none) = none

pub unstored : (full : Type 0) (steps : ℕ) → ¬ (IsPowerChange Awake full (ready ∷ gave read_controls (0x00 ∷ []) ∷ []) (Ok steps))
unstored full steps outcome = untaken (gave read_controls (0x00 ∷ [])) refl (outcome.order.states.0 refl)

-- the byte that a store of one byte has, and a reply
abbrev byte_in : Op → ℕ
byte_in (Store dev offset bytes) = get_or bytes.items 0 0
byte_in (Fetch dev offset count) = 0

same_byte : (byte other : ℕ) → set_controls byte ≡ set_controls other → byte ≡ other
same_byte byte other e = ap byte_in e

same_read : (byte : ℕ) → Bytes (record { items = 0x00 ∷ [] }) ≡ Bytes (record { items = byte ∷ [] }) → 0 ≡ byte
same_read byte e = ap (λ (reply : Reply). get_or (items_in reply) 0 0) e

other_byte : (power : Power) (byte : ℕ) → byte ≡ wanted_controls power 0 → byte ≢ 0x00 → byte ≢ 0x10 → ⊥
unfolding wanted_controls
other_byte Awake byte e no_zero no_sixteen = no_zero e
other_byte Asleep byte e no_zero no_sixteen = no_sixteen e

read_as_0 : (found : ℕ) → Stands (Gives read_controls (found ∷ [])) (gave read_controls (0x00 ∷ []) ∷ []) → found ≡ 0
read_as_0 found (inl gives) = sym (same_read found gives.1)
read_as_0 found (inr none) = absurd none

stores_wanted : (power : Power) (byte : ℕ) → IsPowerStep power (took (set_controls byte)) (gave read_controls (0x00 ∷ []) ∷ []) → byte ≡ wanted_controls power 0
stores_wanted power byte (inl is) = absurd (store_is_other byte is)
stores_wanted power byte (inr (inl (found, is, stands))) = same_byte byte (wanted_controls power found) is ∙ ap (wanted_controls power) (read_as_0 found stands)
stores_wanted power byte (inr (inr is)) = absurd (store_is_no_state byte is)

pub stores_another : (power : Power) (full : Type 0) (byte : ℕ) (answer : Answer) → byte ≢ 0x00 → byte ≢ 0x10
    → ¬ (IsPowerChange power full (took (set_controls byte) ∷ gave read_controls (0x00 ∷ []) ∷ []) answer)
stores_another power full byte answer no_zero no_sixteen outcome = other_byte power byte (stores_wanted power byte outcome.shape.0) no_zero no_sixteen

pub stores_twice : (power : Power) (full : Type 0) (byte other : ℕ) (before : History) (answer : Answer) → ¬ (IsPowerChange power full (took (set_controls byte) ∷ took (set_controls other) ∷ before) answer)
stores_twice power full byte other before answer outcome = outcome.order.stores.0 tt (inl (tt, refl))
