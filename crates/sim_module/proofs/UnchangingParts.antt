-- No event changes the memory of a module, nor what that advertises.
use Rattle.std.proofs.Common.{◌≡◌, ℕ, ◌+◌, ◌-◌, Bool, List, [], ◌∷◌, refl, ◌∙◌, if◌then◌else◌, nat_lt}
use Rattle.field_tables.specs.LaneSets.{Lanes, is_empty, lanes_in}
use Rattle.field_tables.specs.declared.field.Register.TheVariants as registers
use Rattle.field_tables.specs.Registers.{first_byte}
use Rattle.sim_module.specs.declared.module.SimModule.{SimModule}
use Rattle.sim_module.specs.Record.{fixed_of}
use Rattle.sim_module.specs.Unchanging.{EventsLeaveFixed}
use Rattle.sim_module.specs.Applies.{applied, applied_all}
use Rattle.sim_module.specs.Registers.{is_at, is_from, is_in}
use Rattle.sim_module.specs.ShownBytes.{cleared, is_mapped}
use Rattle.sim_module.specs.Stores.{staged_at, stored_byte, stored_bytes, stored_high, stored_low}
use Rattle.sim_module.specs.Ticks.{ticked}
use Rattle.sim_module.proofs.SoundModule.{either, fetched_keeps, stored_keeps}

abbrev IsSame : SimModule → SimModule → Type 0
IsSame sim other = fixed_of other ≡ fixed_of sim

same_applied : (sim : SimModule) (mask : Lanes) → IsSame sim (applied sim mask)
unfolding applied
same_applied sim mask = either (IsSame sim) (is_empty mask) sim (applied_all sim mask) refl refl

same_high : (sim : SimModule) (address byte : ℕ) → IsSame sim (stored_high sim address byte)
same_high sim address byte =
    let deinit = record sim { deinit = lanes_in byte } in
    let staged = staged_at sim (address - first_byte registers.StagedControl + 1) byte in
    let rest = if is_in registers.StagedControl address then staged else sim in
    either (IsSame sim) (is_at registers.DPDeinit address) deinit (if is_at registers.ApplyDPInit address then applied sim (lanes_in byte) else rest) refl
    (either (IsSame sim) (is_at registers.ApplyDPInit address) (applied sim (lanes_in byte)) rest (same_applied sim (lanes_in byte))
    (either (IsSame sim) (is_in registers.StagedControl address) staged sim refl refl))

same_byte : (sim : SimModule) (address byte : ℕ) → IsSame sim (stored_byte sim address byte)
unfolding stored_byte
same_byte sim address byte =
    either (IsSame sim) (nat_lt address 128) (stored_low sim address byte) _ refl
    (either (IsSame sim) (is_mapped sim 0x10) (stored_high sim address byte) sim (same_high sim address byte) refl)

same_bytes : (sim : SimModule) (address : ℕ) (bytes : List ℕ) → IsSame sim (stored_bytes sim address bytes)
same_bytes sim address [] = refl
same_bytes sim address (byte ∷ bytes) = same_bytes (stored_byte sim address byte) (address + 1) bytes ∙ same_byte sim address byte

same_cleared : (sim : SimModule) (is_read : ℕ → Bool) → IsSame sim (cleared sim is_read)
unfolding cleared
same_cleared sim is_read = refl

same_ticked : (sim : SimModule) → IsSame sim (ticked sim)
unfolding ticked
same_ticked sim = refl

pub events_leave_fixed : EventsLeaveFixed
events_leave_fixed = record {
  fetch = λ sim dev address count. fetched_keeps (IsSame sim) sim dev address count refl (same_cleared sim (is_from address count));
  store = λ sim dev address bytes. stored_keeps (IsSame sim) sim dev address bytes refl (same_bytes sim address bytes);
  tick = same_ticked;
  pin = λ sim on. refl;
}
