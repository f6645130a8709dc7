-- Which lanes an apply in progress can hold while lanes of a mask are provisioned: none outside of it once one was accepted,
-- or where none was in progress.
use Rattle.std.proofs.Common.{◌≡◌, ℕ, ◌-◌, Bool, true, false, None, List, [], ◌∷◌, refl, ap, sym, subst, ◌∙◌, ◌==◌, ◌&&◌, if◌then◌else◌}
use Rattle.std.specs.FinMap as finmap
use Rattle.std.specs.FinSet as set
use Rattle.std.specs.FinSet.{contains-empty, empty_of_len}
use Rattle.std.specs.Ordering.{nat_cmp}
use Rattle.std.proofs.lemmas.Bool.{eqb-true, false_from_ne_true}
use Rattle.bus_model.specs.declared.device.Dev.TheVariants.{A0}
use Rattle.bus_model.specs.declared.script.Directive.{Directive}
use Rattle.bus_model.specs.Keeping.{IsKeptInTime}
use Rattle.bus_model.specs.ScriptedBus.{script_rules}
use Rattle.field_tables.specs.LaneSets.{IsLane, Lanes, byte_of, is_empty, lanes_in}
use Rattle.paged_memory.specs.MappedPages.{shown_key}
use Rattle.control_sets.specs.OutcomeCodes.{IsOf}
use Rattle.control_sets.specs.OutcomeOfProvisioning.{IsProvisioningStep}
use Rattle.control_sets.specs.Pages.{EachStep, History}
use Rattle.control_sets.proofs.LaneBits.{in_byte_of}
use Rattle.field_tables.specs.declared.field.Register.TheVariants as registers
use Rattle.field_tables.specs.Registers.{first_byte}
use Rattle.sim_module.specs.declared.lane.Lane.{Lane}
use Rattle.sim_module.specs.declared.module.SimModule.{SimModule}
use Rattle.sim_module.specs.ActiveSets.{HasNoApply}
use Rattle.sim_module.specs.Applies.{applied, applied_all}
use Rattle.sim_module.specs.Lanes.{lane_at}
use Rattle.sim_module.specs.Modules.{conduct}
use Rattle.sim_module.specs.ShownBytes.{is_mapped}
use Rattle.sim_module.specs.Stores.{stored, stored_byte, stored_bytes}
use Rattle.sim_module.specs.Ticks.{ticked}
use Rattle.bus_model.proofs.Histories.{AnyPin, after, steps_keep}
use Rattle.sim_module.proofs.IdleModule.{Shows}
use Rattle.sim_module.proofs.KeptApplies.{none_after}
use Rattle.sim_module.proofs.LanesInTime.{settled_lane, ticked_at}
use Rattle.sim_module.proofs.ProvisioningKeeps.{SurvivesChanges, each_keeps, restaged}
use Rattle.sim_module.proofs.SoundModule.{either}

-- an apply in progress holds lanes of these alone
abbrev pub HoldsOnly : Lanes → SimModule → Type 0
HoldsOnly lanes sim = (lane : ℕ) → IsLane lane → set.contains lanes lane ≡ false → (lane_at sim lane).applying ≡ None

-- a mask with a lane isn't empty
not_empty : (mask : Lanes) (lane : ℕ) → set.contains mask lane ≡ true → is_empty mask ≡ false
not_empty mask lane inside = false_from_ne_true (is_empty mask) (λ empty.
    (let none : set.contains mask lane ≡ false = ap (λ (lanes : Lanes). set.contains lanes lane) (empty_of_len mask (eqb-true _ _ empty)) ∙ contains-empty nat_cmp lane in cc))

abbrev answer_if : Bool → SimModule → SimModule → Bool × SimModule
answer_if has sim next = if has then (true, next) else (false, sim)

taken_bytes : (has : Bool) (sim next : SimModule) → (answer_if has sim next).0 ≡ true → (answer_if has sim next).1 ≡ next
taken_bytes true sim next taken = refl
taken_bytes false sim next taken = cc

pub stored_whole : (sim : SimModule) (address : ℕ) (bytes : List ℕ) → (stored sim A0 address bytes).0 ≡ true → (stored sim A0 address bytes).1 ≡ stored_bytes sim address bytes
unfolding stored
stored_whole sim address bytes taken = taken_bytes (finmap.contains_key sim.image (shown_key A0 sim.selection address)) sim (stored_bytes sim address bytes) taken

pub controls_mapped : (sim : SimModule) → Shows 0x10 sim → is_mapped sim 0x10 ≡ true
controls_mapped sim shows = λ i. shows.bank i == 0 && shows.number i == 0x10

applied_byte : (sim : SimModule) (bits : ℕ) → Shows 0x10 sim → stored_byte sim (first_byte registers.ApplyDPInit) bits ≡ applied sim (lanes_in bits)
unfolding stored_byte
applied_byte sim bits shows = ap (λ (on : Bool). if on then applied sim (lanes_in bits) else sim) (controls_mapped sim shows)

module _ (lanes : Lanes) where
  abbrev mask : Lanes
  mask = lanes_in (byte_of lanes)

  mask_outside : (lane : ℕ) → IsLane lane → set.contains lanes lane ≡ false → set.contains mask lane ≡ false
  mask_outside lane within outside = in_byte_of lanes lane within ∙ outside

  held_applied : (sim : SimModule) → HoldsOnly lanes (applied_all sim mask)
  held_applied sim lane within outside = none_after sim mask lane within (mask_outside lane within outside)

  -- an apply to some lanes, in the moment when it is accepted
  pub held_begins : (sim : SimModule) (lane : ℕ) → IsOf lanes lane → Shows 0x10 sim → (stored sim A0 (first_byte registers.ApplyDPInit) (byte_of lanes ∷ [])).0 ≡ true → HoldsOnly lanes (stored sim A0 (first_byte registers.ApplyDPInit) (byte_of lanes ∷ [])).1
  unfolding applied
  held_begins sim lane (within, inside) shows taken =
      let some : is_empty mask ≡ false = not_empty mask lane (in_byte_of lanes lane within ∙ inside) in
      let is : (stored sim A0 (first_byte registers.ApplyDPInit) (byte_of lanes ∷ [])).1 ≡ applied_all sim mask =
      stored_whole sim (first_byte registers.ApplyDPInit) (byte_of lanes ∷ []) taken ∙ applied_byte sim (byte_of lanes) shows ∙ ap (λ (empty : Bool). if empty then sim else applied_all sim mask) some in
      subst (HoldsOnly lanes) (sym is) (held_applied sim)

  held_tick : (sim : SimModule) → HoldsOnly lanes sim → HoldsOnly lanes (ticked sim)
  held_tick sim held lane within outside = ap (λ (l : Lane). l.applying) (ticked_at sim lane within ∙ settled_lane sim lane (held lane within outside)) ∙ held lane within outside

  pub held_kept : IsKeptInTime conduct AnyPin (HoldsOnly lanes)
  held_kept = record { tick = held_tick; low_power_pin = λ sim on allowed held lane within outside. held lane within outside }

  pub held_survives : SurvivesChanges (HoldsOnly lanes) (byte_of lanes)
  unfolding applied
  held_survives = record {
    flags = λ sim module_flags lane_flags held lane within outside. held lane within outside;
    selection = λ sim selection held lane within outside. held lane within outside;
    deinit = λ sim held lane within outside. held lane within outside;
    apply = λ sim held. either (HoldsOnly lanes) (is_empty mask) sim (applied_all sim mask) held (held_applied sim);
    staged = λ sim number byte held lane within outside. restaged (λ (l : Lane). l.applying) sim.lanes (number - 1) (lane - 1) byte refl ∙ held lane within outside;
  }

  -- where none was in progress
  pub held_from_start : (control : List ℕ) (state : List Directive × SimModule) (history : History) → EachStep (IsProvisioningStep control lanes) history → HasNoApply state.1 →
      HoldsOnly lanes (after (script_rules conduct) state history).1
  held_from_start control state history shape none =
      steps_keep conduct (HoldsOnly lanes) held_kept history (each_keeps control lanes (HoldsOnly lanes) held_survives history shape) state (λ lane within outside. none lane within)
