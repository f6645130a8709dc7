-- DPDeinit of a module is what an accepted store of provisioning made it.
use Rattle.std.proofs.Common.{◌≡◌, inr, ℕ, Bool, true, [], ◌∷◌, Ok, refl, ap, sym, subst, ◌∙◌, if◌then◌else◌, arith}
use Rattle.std.specs.FinSet as set
use Rattle.bus_model.specs.declared.device.Dev.TheVariants.{A0}
use Rattle.bus_model.specs.Keeping.{IsKeptInTime}
use Rattle.bus_model.specs.ScriptedBus.{script_rules}
use Rattle.bus_model.proofs.Histories.{AnyPin, after_reverse, may_each}
use Rattle.field_tables.specs.LaneSets.{Lanes, byte_of, is_empty, lanes_in}
use Rattle.control_sets.specs.OutcomeOperations.{set_deinit}
use Rattle.control_sets.specs.OutcomeSteps.{IsAccepted}
use Rattle.control_sets.specs.PlanLanes.{lanes_outside}
use Rattle.control_sets.proofs.LaneBits.{in_byte_of}
use Rattle.field_tables.specs.declared.field.Register.TheVariants as registers
use Rattle.field_tables.specs.Registers.{byte_count, first_byte}
use Rattle.sim_module.specs.declared.module.SimModule.{SimModule}
use Rattle.sim_module.specs.Applies.{applied, applied_all}
use Rattle.sim_module.specs.DeinitBits.{AcceptsBits, BitsFollowSuccess, BitsFollowTheStore, KeptBitsAreClear}
use Rattle.sim_module.specs.Modules.{conduct}
use Rattle.sim_module.specs.Stores.{stored, stored_byte}
use Rattle.sim_module.specs.Ticks.{ticked}
use Rattle.sim_module.proofs.ActiveLaw.{State, after_accepted, left, read}
use Rattle.sim_module.proofs.HeldLanes.{controls_mapped, stored_whole}
use Rattle.sim_module.proofs.IdleModule.{Shows}
use Rattle.sim_module.proofs.KeptPathLanes.{taken_left_out}
use Rattle.sim_module.proofs.ProvisioningKeeps.{SurvivesChanges}
use Rattle.sim_module.proofs.Provisioned.{ends_applied, later}
use Rattle.sim_module.proofs.SoundModule.{either}

module _ (bits : ℕ) where
  abbrev pub IsDeinit : SimModule → Type 0
  IsDeinit sim = sim.deinit ≡ lanes_in bits

  pub deinit_kept : IsKeptInTime conduct AnyPin IsDeinit
  unfolding ticked
  deinit_kept = record { tick = λ sim is. is; low_power_pin = λ sim on allowed is. is }

  pub deinit_survives : SurvivesChanges IsDeinit bits
  unfolding applied
  deinit_survives = record {
    flags = λ sim module_flags lane_flags is. is;
    selection = λ sim selection is. is;
    deinit = λ sim is. refl;
    apply = λ sim is. either IsDeinit (is_empty (lanes_in bits)) sim (applied_all sim (lanes_in bits)) is is;
    staged = λ sim lane byte is. is;
  }

  deinit_byte : (sim : SimModule) → Shows 0x10 sim → stored_byte sim 128 bits ≡ record sim { deinit = lanes_in bits }
  unfolding stored_byte
  deinit_byte sim shows = ap (λ (on : Bool). if on then record sim { deinit = lanes_in bits } else sim) (controls_mapped sim shows)

  -- in the moment when the store is accepted
  deinit_begins : (sim : SimModule) → Shows 0x10 sim → (stored sim A0 128 (bits ∷ [])).0 ≡ true → IsDeinit (stored sim A0 128 (bits ∷ [])).1
  deinit_begins sim shows taken = ap (λ (s : SimModule). s.deinit) (stored_whole sim 128 (bits ∷ []) taken ∙ deinit_byte sim shows)

pub bits_follow_the_store : BitsFollowTheStore
bits_follow_the_store old new history control lanes answer ran outcome accepts lane within =
    let bits = byte_of lanes in
    let may = may_each (script_rules conduct) old.state history ran.allowed in
    let last : IsDeinit bits (left old.state history).1 =
    after_accepted control lanes (IsDeinit bits) (deinit_kept bits) (deinit_survives bits) 128 bits (omega arith) (deinit_begins bits) old.state history outcome.shape may accepts in
    let is : IsDeinit bits new.state.1 = subst (λ (s : State). IsDeinit bits s.1) (sym (ran.state ∙ after_reverse (script_rules conduct) old.state history)) last in
    ap (λ (deinit : Lanes). set.contains deinit lane) is ∙ in_byte_of lanes lane within

pub bits_follow_success : BitsFollowSuccess
bits_follow_success old new history control lanes steps ran outcome =
    let ends = ends_applied control lanes history steps outcome in
    let accepts : AcceptsBits lanes history =
    subst (AcceptsBits lanes) (sym ends.split) (inr (later (IsAccepted (set_deinit (byte_of lanes))) ends.between (read (first_byte registers.ConfigStatus) (byte_count registers.ConfigStatus) ends.statuses ∷ ends.before) (inr ends.taken))) in
    bits_follow_the_store old new history control lanes (Ok steps) ran outcome accepts

pub kept_bits_are_clear : KeptBitsAreClear
kept_bits_are_clear old new history advert kept control answer ran outcome accepts lane within taken =
    bits_follow_the_store old new history control (lanes_outside advert kept) answer ran outcome accepts lane within ∙ taken_left_out advert kept lane taken
