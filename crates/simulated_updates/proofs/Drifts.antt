-- What comes of the simulated module besides the stores on page 9Fh: time, losses of power, resets, selections and fetches.
use Rattle.std.proofs.Common.{◌≡◌, ◌⊎◌, ℕ, ◌&&◌, Bool, true, false, cond, List, [], ◌∷◌, take, Option, Some, None, refl, sym, subst, inl, inr, ◌∙◌}
use Rattle.std.proofs.lemmas.Bool.{and_from, and_parts, cond_both}
use Rattle.bus_model.specs.declared.device.Dev.{Dev}
use Rattle.bus_model.specs.declared.device.Dev.TheVariants.{A0, A2}
use Rattle.bus_model.specs.declared.operation.Op.{Op}
use Rattle.bus_model.specs.declared.operation.Op.TheVariants.{Fetch, Store}
use Rattle.bus_model.specs.declared.operation.Reply.{Reply}
use Rattle.bus_model.specs.declared.operation.Reply.TheVariants.{Refused}
use Rattle.arrayvec.specs.ArrayVec.{ArrayVec}
use Rattle.firmware_update.specs.declared.bank.Bank.{Bank}
use Rattle.firmware_update.specs.declared.bank.Bank.TheVariants.{A, B}
use Rattle.firmware_laws.specs.Modules.{Endures, Firmware, HasImage, IsImage, Loses, Resets, held}
use Rattle.firmware_laws.proofs.Endures.{endures_on}
use Rattle.simulated_updates.specs.declared.chance.Before.{Before}
use Rattle.simulated_updates.specs.declared.chance.Before.TheVariants.{Nothing, PowerLoss, Reset}
use Rattle.simulated_updates.specs.declared.chance.Chance.{Chance}
use Rattle.simulated_updates.specs.Modules.{Module, befallen, come_up, fetching, is_deaf, passed, reset, select, stepped, storing}
use Rattle.simulated_updates.specs.Resets.{booted, can_boot, lost, reset_to, up}

-- ---- firmware

boots_by : (a b : Bool) (f : Firmware) → can_boot A f ≡ a → can_boot B f ≡ b → HasImage f → IsImage f (cond a A (cond b B f.running))
boots_by true b f is_a is_b has = and_parts f.a.committed f.a.valid is_a
boots_by false true f is_a is_b has = and_parts f.b.committed f.b.valid is_b
boots_by false false f is_a is_b (A, has) = absurd (let e : true ≡ false = sym (and_from f.a.committed f.a.valid has.0 has.1) ∙ is_a in cc)
boots_by false false f is_a is_b (B, has) = absurd (let e : true ≡ false = sym (and_from f.b.committed f.b.valid has.0 has.1) ∙ is_b in cc)

pub loses : (f : Firmware) → Loses f (lost f)
loses f = ((refl, refl), (λ has. up_image (booted f) f (boots_by (can_boot A f) (can_boot B f) f refl refl has)), inl refl, refl) where
  up_image : (bank : Bank) (g : Firmware) → IsImage g bank → IsImage (up bank g) bank
  up_image A g is = is
  up_image B g is = is

held_up : (bank other : Bank) (f : Firmware) → (held (up other f) bank).valid ≡ (held f bank).valid
held_up A other f = refl
held_up B other f = refl

resets : (bank : Bank) (f : Firmware) → f.reset ≡ Some bank → (held f bank).valid ≡ true → Resets f (up bank f)
resets bank f was can = (bank, was, (refl, refl), held_up bank bank f ∙ can, (λ valid. refl), inl refl, refl)

pub endures_reset : (boots : Bool) (bank : Bank) (f : Firmware) → f.reset ≡ Some bank → Endures f (reset_to boots bank f)
endures_reset boots bank f was =
    cond_both (boots && (held f bank).valid) (up bank f) (lost f) (λ (g : Firmware). Endures f g)
    (λ e. inr (inr (resets bank f was (and_parts boots (held f bank).valid e).1))) (λ e. inr (inl (loses f)))

-- ---- what is kept

-- what page 9Fh and the status show
pub record Keeps (old new : Module) : Type 0 where
  pub head : new.head ≡ old.head
  pub body : new.body ≡ old.body
  pub status : new.status ≡ old.status
  pub reply : new.reply ≡ old.reply

-- it has come up since
pub record IsFresh (new : Module) : Type 0 where
  pub head : new.head ≡ []
  pub body : new.body ≡ []
  pub status : new.status ≡ 0
  pub reply : new.reply ≡ []

pub record Drifts (old new : Module) : Type 0 where
  pub endures : Endures old.firmware new.firmware
  pub registers : Keeps old new ⊎ IsFresh new

pub stays : (m : Module) → Drifts m m
stays m = record { endures = inl refl; registers = inl (record { head = refl; body = refl; status = refl; reply = refl }) }

fresh_after : (one two : Module) → IsFresh one → Keeps one two → IsFresh two
fresh_after one two is keeps = record { head = keeps.head ∙ is.head; body = keeps.body ∙ is.body; status = keeps.status ∙ is.status; reply = keeps.reply ∙ is.reply }

registers_on : (one two three : Module) → Keeps one two ⊎ IsFresh two → Keeps two three ⊎ IsFresh three → Keeps one three ⊎ IsFresh three
registers_on one two three first (inr fresh) = inr fresh
registers_on one two three (inr fresh) (inl keeps) = inr (fresh_after two three fresh keeps)
registers_on one two three (inl first) (inl then) =
    inl (record { head = then.head ∙ first.head; body = then.body ∙ first.body; status = then.status ∙ first.status; reply = then.reply ∙ first.reply })

pub drifts_on : (one two three : Module) → Drifts one two → Drifts two three → Drifts one three
drifts_on one two three first then = record {
  endures = endures_on one.firmware two.firmware three.firmware first.endures then.endures;
  registers = registers_on one two three first.registers then.registers;
}

-- ---- what does no more

up_fresh : (f : Firmware) (m : Module) → IsFresh (come_up f m)
up_fresh f m = record { head = refl; body = refl; status = refl; reply = refl }

reset_drifts : (boots : Bool) (target : Option Bank) (m : Module) → m.firmware.reset ≡ target → Drifts m (reset boots target m)
reset_drifts boots None m was = stays m
reset_drifts boots (Some bank) m was = record { endures = endures_reset boots bank m.firmware was; registers = inr (up_fresh (reset_to boots bank m.firmware) m) }

pub befallen_drifts : (before : Before) (m : Module) → Drifts m (befallen before m)
befallen_drifts Nothing m = stays m
befallen_drifts PowerLoss m = record { endures = inr (inl (loses m.firmware)); registers = inr (up_fresh (lost m.firmware) m) }
befallen_drifts (Reset boots) m = reset_drifts boots m.firmware.reset m refl

pub passed_drifts : (time : ℕ) (m : Module) → Drifts m (passed time m)
passed_drifts time m = record { endures = inl refl; registers = inl (record { head = refl; body = refl; status = refl; reply = refl }) }

-- where nothing but the selection of the page changes
select_drifts : (bytes : List ℕ) (m : Module) → Drifts m (select bytes m).1
select_drifts [] m = stays m
select_drifts (bank ∷ []) m = stays m
select_drifts (bank ∷ page ∷ []) m = record { endures = inl refl; registers = inl (record { head = refl; body = refl; status = refl; reply = refl }) }
select_drifts (bank ∷ page ∷ more ∷ rest) m = stays m

fetch_same : (kept : Option ℕ) (offset count : ℕ) (m : Module) → Drifts m (fetching kept offset count m).1
fetch_same None offset count m = stays m
fetch_same (Some n) offset count m = stays m

fetched_drifts : (chance : Chance) (dev : Dev) (offset count : ℕ) (old : Module) → Drifts old (stepped chance (Fetch dev offset count) old).1
fetched_drifts chance A2 offset count old = befallen_drifts chance.before old
fetched_drifts chance A0 offset count old =
    let m = befallen chance.before old in
    drifts_on old m (stepped chance (Fetch A0 offset count) old).1 (befallen_drifts chance.before old)
    (cond_both (is_deaf m) (Refused, m) (fetching chance.kept offset count m) (λ (r : Reply × Module). Drifts m r.1) (λ e. stays m) (λ e. fetch_same chance.kept offset count m))

selected : (chance : Chance) (kept : Option ℕ) (bytes : List ℕ) (m : Module) → Drifts m (storing chance kept 126 bytes m).1
selected chance None bytes m = select_drifts bytes m
selected chance (Some n) bytes m = select_drifts (take n bytes) m

selected_drifts : (chance : Chance) (bytes : ArrayVec ℕ) (old : Module) → Drifts old (stepped chance (Store A0 126 bytes) old).1
selected_drifts chance bytes old =
    let m = befallen chance.before old in
    drifts_on old m (stepped chance (Store A0 126 bytes) old).1 (befallen_drifts chance.before old)
    (cond_both (is_deaf m) (Refused, m) (storing chance chance.kept 126 bytes.items m) (λ (r : Reply × Module). Drifts m r.1) (λ e. stays m) (λ e. selected chance chance.kept bytes.items m))

-- a step with an operation becomes this
pub by_step : (P : Reply × Module → Type 0) (chance : Chance) (is was : Op) (old : Module) (reply : Reply) (new : Module) → was ≡ is → stepped chance was old ≡ (reply, new)
    → P (stepped chance is old) → P (reply, new)
by_step P chance is was old reply new same e p = subst P (subst (λ (o : Op). stepped chance o old ≡ (reply, new)) same e) p

pub fetch_drifts : (chance : Chance) (dev : Dev) (offset count : ℕ) (op : Op) (old : Module) (reply : Reply) (new : Module) → op ≡ Fetch dev offset count
    → stepped chance op old ≡ (reply, new) → Drifts old new
fetch_drifts chance dev offset count op old reply new is e =
    by_step (λ (r : Reply × Module). Drifts old r.1) chance (Fetch dev offset count) op old reply new is e (fetched_drifts chance dev offset count old)

pub select_drifts_on : (chance : Chance) (bytes : ArrayVec ℕ) (op : Op) (old : Module) (reply : Reply) (new : Module) → op ≡ Store A0 126 bytes
    → stepped chance op old ≡ (reply, new) → Drifts old new
select_drifts_on chance bytes op old reply new is e =
    by_step (λ (r : Reply × Module). Drifts old r.1) chance (Store A0 126 bytes) op old reply new is e (selected_drifts chance bytes old)
