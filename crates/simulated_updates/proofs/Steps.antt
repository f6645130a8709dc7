-- What a store on page 9Fh makes of the simulated module, and what its fetches show.
use Rattle.std.proofs.Common.{◌≡◌, ◌≢◌, ◌⊎◌, ℕ, ◌+◌, ◌-◌, ◌*◌, ◌<◌, ◌≤◌, nat_le, ◌==◌, ◌&&◌, ◌++◌, Bool, true, false, cond, List, [], ◌∷◌, length, take, Option, Some, None, refl, sym, subst, ap, inl, inr, ◌∙◌, arith}
use Rattle.std.specs.Prelude.{sum}
use Rattle.std.proofs.lemmas.Bool.{cond_both, eqb-true, leb-true}
use Rattle.arrayvec.specs.ArrayVec.{ArrayVec}
use Rattle.bus_model.specs.declared.device.Dev.TheVariants.{A0}
use Rattle.bus_model.specs.declared.operation.Op.TheVariants.{Fetch, Store}
use Rattle.bus_model.specs.declared.operation.Reply.{Reply}
use Rattle.bus_model.specs.declared.operation.Reply.TheVariants.{Bytes, Done, Refused}
use Rattle.command_block.specs.Messages.{complement}
use Rattle.simulated_updates.specs.declared.chance.Chance.{Chance}
use Rattle.simulated_updates.specs.Modules.{Module, Stored, befallen, fetching, has_page, is_deaf, payload, read, read_reply, status_shown, stepped, store_body, store_id, store_page, stored, stored_reply, storing, taken}
use Rattle.simulated_updates.proofs.Drifts.{Drifts, befallen_drifts}

abbrev Turn : Type 0
Turn = Reply × Module

-- ---- a store on page 9Fh

-- where the page is there the store does this, and nothing else
stored_on : (chance : Chance) (offset : ℕ) (bytes : List ℕ) (m : Module) (P : Stored → Type 0) → 126 < offset → P (store_page chance offset bytes m) → P (false, m) → P (stored chance offset bytes m)
stored_on chance offset bytes m P high there none =
    cond_both (offset == 126) _ _ P
    (λ e. absurd (let is = eqb-true offset 126 e in omega (arith, is, high)))
    (λ e. cond_both (has_page m) (store_page chance offset bytes m) (false, m) P (λ b. there) (λ b. none))

not_done : (took : Bool) → took ≡ false → stored_reply took ≢ Done
not_done true e is = absurd cc
not_done false e is = absurd cc

refused_not : Refused ≢ Done
refused_not e = absurd cc

-- by a store with all its bytes, or by a refused one with some of them, or by none
module _ (chance : Chance) (offset : ℕ) (bytes : ArrayVec ℕ) (old : Module) (Does : List ℕ → Module → Module → Type 0) where
  abbrev pub ByStore : Turn → Type 0
  ByStore turn =
      (mid : Module) × Drifts old mid
      × (((turn.0 ≡ Done) × Does bytes.items mid turn.1) ⊎ ((turn.0 ≢ Done) × ((turn.1 ≡ mid) ⊎ ((kept : ℕ) × Does (take kept bytes.items) mid turn.1))))

  abbrev IsDone : List ℕ → Module → Stored → Type 0
  IsDone given m result = ((result.0 ≡ true) × Does given m result.1) ⊎ ((result.0 ≡ false) × (result.1 ≡ m))

  whole : (m : Module) (drift : Drifts old m) (result : Stored) → IsDone bytes.items m result → ByStore (stored_reply result.0, result.1)
  whole m drift result (inl (took, does)) = (m, drift, inl (ap (λ (b : Bool). stored_reply b) took, does))
  whole m drift result (inr (not_took, same)) = (m, drift, inr (not_done result.0 not_took, inl same))

  part : (m : Module) (drift : Drifts old m) (n : ℕ) (result : Stored) → IsDone (take n bytes.items) m result → ByStore (Refused, result.1)
  part m drift n result (inl (took, does)) = (m, drift, inr (refused_not, inr (n, does)))
  part m drift n result (inr (not_took, same)) = (m, drift, inr (refused_not, inl same))

  by_kept : ((given : List ℕ) (m : Module) → IsDone given m (stored chance offset given m)) → (kept : Option ℕ) (m : Module) → Drifts old m → ByStore (storing chance kept offset bytes.items m)
  by_kept does None m drift = whole m drift (stored chance offset bytes.items m) (does bytes.items m)
  by_kept does (Some n) m drift = part m drift n (stored chance offset (take n bytes.items) m) (does (take n bytes.items) m)

  pub by_store : ((given : List ℕ) (m : Module) → IsDone given m (stored chance offset given m)) → ByStore (stepped chance (Store A0 offset bytes) old)
  by_store does =
      let m = befallen chance.before old in
      cond_both (is_deaf m) (Refused, m) (storing chance chance.kept offset bytes.items m) ByStore
      (λ e. (m, befallen_drifts chance.before old, inr (refused_not, inl refl)))
      (λ e. by_kept does chance.kept m (befallen_drifts chance.before old))

-- a piece of a body is stored behind those before it
abbrev pub AddsPiece : ℕ → List ℕ → Module → Module → Type 0
AddsPiece at given m new = (at ≤ length m.body) × (new ≡ record m { body = take at m.body ++ given; reply = [] })

pub piece_step : (chance : Chance) (at : ℕ) (bytes : ArrayVec ℕ) (old : Module)
    → ByStore chance (136 + at) bytes old (AddsPiece at) (stepped chance (Store A0 (136 + at) bytes) old)
piece_step chance at bytes old = by_store chance (136 + at) bytes old (AddsPiece at) does where
  body : (given : List ℕ) (m : Module) → (((store_body at given m).0 ≡ true) × AddsPiece at given m (store_body at given m).1) ⊎ (((store_body at given m).0 ≡ false) × ((store_body at given m).1 ≡ m))
  body given m =
      cond_both (nat_le at (length m.body)) (true, record m { body = take at m.body ++ given; reply = [] }) (false, m) (λ (r : Stored). ((r.0 ≡ true) × AddsPiece at given m r.1) ⊎ ((r.0 ≡ false) × (r.1 ≡ m)))
      (λ e. inl (refl, (leb-true at (length m.body) e, refl))) (λ e. inr (refl, refl))

  page : (given : List ℕ) (m : Module) → (((store_page chance (136 + at) given m).0 ≡ true) × AddsPiece at given m (store_page chance (136 + at) given m).1) ⊎ (((store_page chance (136 + at) given m).0 ≡ false) × ((store_page chance (136 + at) given m).1 ≡ m))
  page given m =
      let P : Stored → Type 0 = λ r. ((r.0 ≡ true) × AddsPiece at given m r.1) ⊎ ((r.0 ≡ false) × (r.1 ≡ m)) in
      cond_both (136 + at == 128) _ _ P (λ e. absurd (let is = eqb-true (136 + at) 128 e in omega (arith, is)))
      (λ e. cond_both (136 + at == 130) _ _ P (λ b. absurd (let is = eqb-true (136 + at) 130 b in omega (arith, is)))
      (λ b. cond_both (nat_le 136 (136 + at)) _ _ P
      (λ c. let same : 136 + at - 136 ≡ at = omega arith in subst (λ (n : ℕ). P (store_body n given m)) (sym same) (body given m))
      (λ c. inr (refl, refl))))

  does : (given : List ℕ) (m : Module) → (((stored chance (136 + at) given m).0 ≡ true) × AddsPiece at given m (stored chance (136 + at) given m).1) ⊎ (((stored chance (136 + at) given m).0 ≡ false) × ((stored chance (136 + at) given m).1 ≡ m))
  does given m =
      stored_on chance (136 + at) given m (λ (r : Stored). ((r.0 ≡ true) × AddsPiece at given m r.1) ⊎ ((r.0 ≡ false) × (r.1 ≡ m))) (omega arith) (page given m) (inr (refl, refl))

-- the lengths and the check code
abbrev pub PutsHead : List ℕ → Module → Module → Type 0
PutsHead given m new = new ≡ record m { head = given; reply = [] }

pub head_step : (chance : Chance) (bytes : ArrayVec ℕ) (old : Module) → ByStore chance 130 bytes old PutsHead (stepped chance (Store A0 130 bytes) old)
head_step chance bytes old = by_store chance 130 bytes old PutsHead does where
  does : (given : List ℕ) (m : Module) → (((stored chance 130 given m).0 ≡ true) × PutsHead given m (stored chance 130 given m).1) ⊎ (((stored chance 130 given m).0 ≡ false) × ((stored chance 130 given m).1 ≡ m))
  does given m =
      stored_on chance 130 given m (λ (r : Stored). ((r.0 ≡ true) × PutsHead given m r.1) ⊎ ((r.0 ≡ false) × (r.1 ≡ m))) (omega arith) (inl (refl, refl)) (inr (refl, refl))

-- the id, with both its bytes
abbrev pub Takes : Chance → List ℕ → Module → Module → Type 0
Takes chance given m new = (high : ℕ) × (low : ℕ) × (given ≡ high ∷ low ∷ []) × (new ≡ taken chance (high * 256 + low) m)

pub id_step : (chance : Chance) (bytes : ArrayVec ℕ) (old : Module) → ByStore chance 128 bytes old (Takes chance) (stepped chance (Store A0 128 bytes) old)
id_step chance bytes old = by_store chance 128 bytes old (Takes chance) does where
  id : (given : List ℕ) (m : Module) → (((store_id chance given m).0 ≡ true) × Takes chance given m (store_id chance given m).1) ⊎ (((store_id chance given m).0 ≡ false) × ((store_id chance given m).1 ≡ m))
  id [] m = inr (refl, refl)
  id (high ∷ []) m = inr (refl, refl)
  id (high ∷ low ∷ []) m = inl (refl, (high, low, refl, refl))
  id (high ∷ low ∷ more ∷ rest) m = inr (refl, refl)

  does : (given : List ℕ) (m : Module) → (((stored chance 128 given m).0 ≡ true) × Takes chance given m (stored chance 128 given m).1) ⊎ (((stored chance 128 given m).0 ≡ false) × ((stored chance 128 given m).1 ≡ m))
  does given m =
      stored_on chance 128 given m (λ (r : Stored). ((r.0 ≡ true) × Takes chance given m r.1) ⊎ ((r.0 ≡ false) × (r.1 ≡ m))) (omega arith) (id given m) (inr (refl, refl))

-- ---- fetches

bytes_in : Reply → List ℕ
bytes_in (Bytes bytes) = bytes.items
bytes_in Done = []
bytes_in Refused = []

abbrev pub Read : ℕ → ℕ → Module → Turn → Type 0
Read offset count old turn =
    (mid : Module) × Drifts old mid × ((turn.0 ≡ Refused) ⊎ ((bytes : List ℕ) × (turn.0 ≡ Bytes (record { items = bytes })) × (read offset count mid ≡ Some bytes))) × (turn.1 ≡ mid)

read_is : (offset count : ℕ) (m : Module) (answer : Option (List ℕ)) → read offset count m ≡ answer
    → (read_reply answer ≡ Refused) ⊎ ((bytes : List ℕ) × (read_reply answer ≡ Bytes (record { items = bytes })) × (read offset count m ≡ Some bytes))
read_is offset count m (Some bytes) e = inr (bytes, refl, e)
read_is offset count m None e = inl refl

read_by : (kept : Option ℕ) (offset count : ℕ) (old m : Module) → Drifts old m → Read offset count old (fetching kept offset count m)
read_by None offset count old m drift = (m, drift, read_is offset count m (read offset count m) refl, refl)
read_by (Some n) offset count old m drift = (m, drift, inl refl, refl)

pub read_step : (chance : Chance) (offset count : ℕ) (old : Module) → Read offset count old (stepped chance (Fetch A0 offset count) old)
read_step chance offset count old =
    let m = befallen chance.before old in
    cond_both (is_deaf m) (Refused, m) (fetching chance.kept offset count m) (Read offset count old)
    (λ e. (m, befallen_drifts chance.before old, inl refl, refl))
    (λ e. read_by chance.kept offset count old m (befallen_drifts chance.before old))

-- what the three fetches read
pub reads_status : (m : Module) → read 37 1 m ≡ Some (status_shown m ∷ [])
reads_status m = refl

count_by : (there : Bool) (m : Module) (bytes : List ℕ) → cond (there && true) (Some (length m.reply ∷ complement (sum m.reply) ∷ [])) (cond (there && false) (Some (take 2 (payload m))) None) ≡ Some bytes
    → bytes ≡ length m.reply ∷ complement (sum m.reply) ∷ []
count_by true m bytes e = cc
count_by false m bytes e = absurd cc

pub reads_count : (m : Module) (bytes : List ℕ) → read 134 2 m ≡ Some bytes → bytes ≡ length m.reply ∷ complement (sum m.reply) ∷ []
reads_count m bytes e = count_by (has_page m) m bytes e

reply_by : (there few : Bool) (count : ℕ) (m : Module) (bytes : List ℕ) → nat_le count (length (payload m)) ≡ few
    → cond (there && false) (Some (length m.reply ∷ complement (sum m.reply) ∷ [])) (cond (there && few) (Some (take count (payload m))) None) ≡ Some bytes
    → (bytes ≡ take count (payload m)) × (count ≤ length (payload m))
reply_by true true count m bytes is e = (cc, leb-true count (length (payload m)) is)
reply_by true false count m bytes is e = absurd cc
reply_by false few count m bytes is e = absurd cc

empty : (l : List ℕ) → length l ≡ 0 → l ≡ []
empty [] e = refl
empty (x ∷ l) e = absurd (omega (arith, e))

-- once the body is gone
payload_is : (m : Module) → m.body ≡ [] → payload m ≡ m.reply
payload_is m none =
    cond_both (length m.reply == 0) m.body m.reply (λ (l : List ℕ). l ≡ m.reply) (λ e. none ∙ sym (empty m.reply (eqb-true (length m.reply) 0 e))) (λ e. refl)

pub reads_reply : (count : ℕ) (m : Module) (bytes : List ℕ) → m.body ≡ [] → read 136 count m ≡ Some bytes → (bytes ≡ take count m.reply) × (count ≤ length m.reply)
reads_reply count m bytes none e =
    subst (λ (l : List ℕ). (bytes ≡ take count l) × (count ≤ length l)) (payload_is m none)
    (reply_by (has_page m) (nat_le count (length (payload m))) count m bytes refl e)
