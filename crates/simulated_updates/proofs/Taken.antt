-- What the simulated module shows of a message that it took.
use Rattle.std.proofs.Common.{◌≡◌, ◌≢◌, ◌⊎◌, ℕ, zero, suc, ◌+◌, ◌-◌, ◌<◌, ◌≤◌, nat_lt, nat_le, ◌==◌, Bool, true, false, cond, List, [], ◌∷◌, length, take, Option, Some, None, refl, sym, subst, ap, inl, inr, ◌∙◌, arith}
use Rattle.std.specs.Prelude.{max, min, sum}
use Rattle.std.proofs.lemmas.Bool.{and_parts, cond_both, leb-true}
use Rattle.std.proofs.lemmas.List.{take_all}
use Rattle.arrayvec.specs.ArrayVec.{ArrayVec}
use Rattle.bus_model.specs.declared.operation.Op.{Op}
use Rattle.bus_model.specs.declared.operation.Op.TheVariants.{Fetch, Store}
use Rattle.bus_model.specs.declared.operation.Reply.{Reply}
use Rattle.bus_model.specs.declared.operation.Reply.TheVariants.{Bytes, Done, Refused}
use Rattle.command_block.specs.declared.message.Message.{Message}
use Rattle.command_block.specs.declared.outcome.Outcome.{Outcome}
use Rattle.command_block.specs.declared.outcome.Outcome.TheVariants.{Succeeded, Failed, Unsent, Unknown}
use Rattle.command_block.specs.Attempts.{Gives}
use Rattle.command_block.specs.Messages.{check_code, complement}
use Rattle.command_block.specs.Operations as operations
use Rattle.firmware_laws.specs.AtTheBus.{IsFinal, ShowsItsOwn, ShowsStatus}
use Rattle.firmware_laws.specs.Modules.{Answer, Download, Endures, Firmware, Loses}
use Rattle.firmware_laws.specs.SampleModules.{can_other, filled, read32, switched_later}
use Rattle.simulated_updates.specs.declared.chance.Chance.{Chance}
use Rattle.simulated_updates.specs.declared.chance.Fate.{Fate}
use Rattle.simulated_updates.specs.declared.chance.Fate.TheVariants.{Carried, Fails, CutShort}
use Rattle.simulated_updates.specs.Modules.{Module, answers, comes_to, count_in, fated, is_busy, is_whole, message_in, read, status_shown, taken}
use Rattle.simulated_updates.specs.Performed.{aborting, completing, conduct, failing, memory, not_now, out_of_range, performed, running, storing, succeeding, wrong_check_code}
use Rattle.simulated_updates.proofs.Drifts.{Drifts, IsFresh, Keeps, loses}
use Rattle.simulated_updates.proofs.Steps.{Read, reads_count, reads_reply}

-- ---- answers that can be shown

abbrev IsOutcome : Option Outcome → Type 0
IsOutcome (Some (Succeeded reply)) = length reply.items ≤ 120
IsOutcome (Some (Failed code)) = 64 ≤ code
IsOutcome (Some Unsent) = ⊥
IsOutcome (Some Unknown) = ⊥
IsOutcome None = Unit {0}

stored_shown : (body : List ℕ) (download : Option Download) (f : Firmware) → IsOutcome (storing body download f).outcome
stored_shown body None f = omega arith
stored_shown body (Some was) f =
    cond_both (nat_lt memory (read32 body + (length body - 4))) (failing out_of_range f) (succeeding [] (filled body f)) (λ (a : Answer). IsOutcome a.outcome) (λ e. omega arith) (λ e. omega arith)

completed_shown : (download : Option Download) (f : Firmware) → IsOutcome (completing download f).outcome
completed_shown None f = omega arith
completed_shown (Some was) f = omega arith

aborted_shown : (download : Option Download) (f : Firmware) → IsOutcome (aborting download f).outcome
aborted_shown None f = omega arith
aborted_shown (Some was) f = omega arith

run_shown : (f : Firmware) → IsOutcome (running f).outcome
run_shown f = cond_both (can_other f) (succeeding [] (switched_later true f)) (failing not_now f) (λ (a : Answer). IsOutcome a.outcome) (λ e. omega arith) (λ e. omega arith)

performed_shown : (id : ℕ) (body : List ℕ) (f : Firmware) → IsOutcome (performed id body f).outcome
performed_shown id body f =
    let P : Answer → Type 0 = λ a. IsOutcome a.outcome in
    cond_both (id == 1) _ _ P (λ e. omega arith)
    (λ e. cond_both (id == 65) _ _ P (λ e. omega arith)
    (λ e. cond_both (id == 256) _ _ P (λ e. omega arith)
    (λ e. cond_both (id == 257) _ _ P (λ e. omega arith)
    (λ e. cond_both (id == 258) _ _ P (λ e. aborted_shown f.download f)
    (λ e. cond_both (id == 259) _ _ P (λ e. stored_shown body f.download f)
    (λ e. cond_both (id == 263) _ _ P (λ e. completed_shown f.download f)
    (λ e. cond_both (id == 265) _ _ P (λ e. run_shown f)
    (λ e. cond_both (id == 266) _ _ P (λ e. omega arith) (λ e. omega arith)))))))))

conduct_shown : (sent : Message) (choice : ℕ) (f : Firmware) → IsOutcome (conduct sent choice f).outcome
conduct_shown sent zero f = performed_shown sent.id sent.body.items f
conduct_shown sent (suc zero) f = omega arith
conduct_shown sent (suc (suc zero)) f = omega arith
conduct_shown sent (suc (suc (suc zero))) f = tt
conduct_shown sent (suc (suc (suc (suc more)))) f = tt

-- ---- what is shown

abbrev pub ShowsReply : Option Outcome → List ℕ → Type 0
ShowsReply outcome shown = (shown ≡ []) ⊎ ((reply : ArrayVec ℕ) × (outcome ≡ Some (Succeeded reply)) × (shown ≡ reply.items) × (length reply.items ≤ 120))

-- the status and the reply are of this answer, and the reply stands in place of the body
pub record IsShown (answer : Answer) (m : Module) : Type 0 where
  pub body : m.body ≡ []
  pub status : IsFinal m.status → (outcome : Outcome) × (answer.outcome ≡ Some outcome) × ShowsStatus outcome m.status
  pub reply : ShowsReply answer.outcome m.reply

fresh_shown : (answer : Answer) (m : Module) → IsFresh m → IsShown answer m
fresh_shown answer m fresh = record { body = fresh.body; status = λ final. absurd (none final); reply = inl fresh.reply } where
  none : IsFinal m.status → ⊥
  none (inl one) = let e : 0 ≡ 1 = sym fresh.status ∙ one in omega (arith, e)
  none (inr (least, most)) = let e = fresh.status in omega (arith, least, e)

shown_by : (answer : Answer) (old new : Module) → Keeps old new ⊎ IsFresh new → IsShown answer old → IsShown answer new
shown_by answer old new (inl keeps) shown = record {
  body = keeps.body ∙ shown.body;
  status = subst (λ (n : ℕ). IsFinal n → (outcome : Outcome) × (answer.outcome ≡ Some outcome) × ShowsStatus outcome n) (sym keeps.status) shown.status;
  reply = subst (λ (l : List ℕ). ShowsReply answer.outcome l) (sym keeps.reply) shown.reply;
}
shown_by answer old new (inr fresh) shown = fresh_shown answer new fresh

pub shown_on : (answer : Answer) (old new : Module) → Drifts old new → IsShown answer old → IsShown answer new
shown_on answer old new drift shown = shown_by answer old new drift.registers shown

-- ---- an answer is shown

-- power was lost afterwards, or a reset came, or not; or power was lost in the midst
abbrev pub Rests : Answer → Firmware → Type 0
Rests answer last = ((outcome : Outcome) × (answer.outcome ≡ Some outcome) × Endures answer.after last) ⊎ ((answer.outcome ≡ None) × Loses answer.after last)

pub record Answered (answer : Answer) (new : Module) : Type 0 where
  pub rests : Rests answer new.firmware
  pub shown : IsShown answer new

answered_by : (busy : ℕ) (outcome : Option Outcome) (f : Firmware) (m : Module) → IsOutcome outcome → Answered (record { outcome = outcome; after = f }) (answers busy outcome f m)
answered_by busy (Some (Succeeded reply)) f m is = record {
  rests = inl (Succeeded reply, refl, inl refl);
  shown = record { body = refl; status = λ final. (Succeeded reply, refl, refl); reply = inr (reply, refl, refl, is) };
}
answered_by busy (Some (Failed code)) f m is = record {
  rests = inl (Failed code, refl, inl refl);
  shown = record { body = refl; status = λ final. (Failed code, refl, (refl, is)); reply = inl refl };
}
answered_by busy (Some Unsent) f m is = absurd is
answered_by busy (Some Unknown) f m is = absurd is
answered_by busy None f m is = record {
  rests = inr (refl, loses f);
  shown = fresh_shown (record { outcome = None; after = f }) (answers busy None f m) (record { head = refl; body = refl; status = refl; reply = refl });
}

-- ---- the message that it takes

choice_of : Fate → ℕ
choice_of Carried = 0
choice_of Fails = 1
choice_of (CutShort true) = 3
choice_of (CutShort false) = 4

fated_is : (fate : Fate) (sent : Message) (f : Firmware) → (choice : ℕ) × (fated fate sent.id sent.body.items f ≡ conduct sent choice f)
fated_is Carried sent f = (0, refl)
fated_is Fails sent f = (1, refl)
fated_is (CutShort true) sent f = (3, refl)
fated_is (CutShort false) sent f = (4, refl)

-- an answer of its conduct to the message is shown
abbrev pub IsTaken : Message → Module → Module → Type 0
IsTaken sent mid new = (answer : Answer) × ((choice : ℕ) × (answer ≡ conduct sent choice mid.firmware)) × Answered answer new

takes : (sent : Message) (busy choice : ℕ) (mid : Module) → IsTaken sent mid (comes_to busy (conduct sent choice mid.firmware) mid)
takes sent busy choice mid =
    let answer = conduct sent choice mid.firmware in
    (answer, (choice, refl), answered_by busy answer.outcome answer.after mid (conduct_shown sent choice mid.firmware))

-- the lengths and the check code of the message
abbrev pub head_of : Message → List ℕ
head_of sent = 0 ∷ 0 ∷ length sent.body.items ∷ check_code sent ∷ 0 ∷ 0 ∷ []

-- either they were stored, and the body as far as it still is, or nothing is there any more
abbrev pub IsReady : Message → Module → Type 0
IsReady sent m = ((m.head ≡ head_of sent) × ((length sent.body.items ≤ length m.body) → take (length sent.body.items) m.body ≡ sent.body.items)) ⊎ (m.head ≡ [])

body_fits : (id : ℕ) (sent : Message) (m : Module) → is_whole id (head_of sent) m ≡ true → length sent.body.items ≤ length m.body
body_fits id sent m e = leb-true (length sent.body.items) (length m.body) (and_parts (nat_le (length sent.body.items) (length m.body)) (check_code sent == check_code (message_in id (length sent.body.items) m)) e).0

fails_code : (sent : Message) (chance : Chance) (mid : Module) → IsTaken sent mid (comes_to chance.busy (failing wrong_check_code mid.firmware) mid)
fails_code sent chance mid = takes sent chance.busy 2 mid

by_head : (sent : Message) (chance : Chance) (mid : Module) (head : List ℕ) → head ≡ head_of sent → ((length sent.body.items ≤ length mid.body) → take (length sent.body.items) mid.body ≡ sent.body.items)
    → IsTaken sent mid (cond (is_whole sent.id head mid) (comes_to chance.busy (fated chance.fate sent.id (take (count_in head) mid.body) mid.firmware) mid) (comes_to chance.busy (failing wrong_check_code mid.firmware) mid))
by_head sent chance mid head is there =
    subst (λ (h : List ℕ). IsTaken sent mid (cond (is_whole sent.id h mid) (comes_to chance.busy (fated chance.fate sent.id (take (count_in h) mid.body) mid.firmware) mid) (comes_to chance.busy (failing wrong_check_code mid.firmware) mid))) (sym is)
    (cond_both (is_whole sent.id (head_of sent) mid) (comes_to chance.busy (fated chance.fate sent.id (take (length sent.body.items) mid.body) mid.firmware) mid) (comes_to chance.busy (failing wrong_check_code mid.firmware) mid) (IsTaken sent mid)
    (λ e. let (choice, same) = fated_is chance.fate sent mid.firmware in
    subst (λ (l : List ℕ). IsTaken sent mid (comes_to chance.busy (fated chance.fate sent.id l mid.firmware) mid)) (sym (there (body_fits sent.id sent mid e)))
    (subst (λ (a : Answer). IsTaken sent mid (comes_to chance.busy a mid)) (sym same) (takes sent chance.busy choice mid)))
    (λ e. fails_code sent chance mid))

pub taken_is : (sent : Message) (chance : Chance) (mid : Module) → IsReady sent mid → IsTaken sent mid (taken chance sent.id mid)
taken_is sent chance mid (inl (is, there)) = by_head sent chance mid mid.head is there
taken_is sent chance mid (inr none) =
    subst (λ (h : List ℕ). IsTaken sent mid (cond (is_whole sent.id h mid) (comes_to chance.busy (fated chance.fate sent.id (take (count_in h) mid.body) mid.firmware) mid) (comes_to chance.busy (failing wrong_check_code mid.firmware) mid))) (sym none)
    (fails_code sent chance mid)

-- ---- reads show it

abbrev bytes_in : Reply → List ℕ
bytes_in (Bytes bytes) = bytes.items
bytes_in Done = []
bytes_in Refused = []

one_of : (one other : List ℕ) → Bytes (record { items = one }) ≡ Bytes (record { items = other }) → one ≡ other
one_of one other e = ap (λ (r : Reply). bytes_in r) e

abbrev first : List ℕ → ℕ
first [] = 0
first (byte ∷ bytes) = byte

final_shown : (busy : Bool) (m : Module) (status : ℕ) → cond busy 131 m.status ≡ status → IsFinal status → m.status ≡ status
final_shown true m status e (inl one) = absurd (let is : 131 ≡ 1 = e ∙ one in omega (arith, is))
final_shown true m status e (inr (least, most)) = absurd (omega (arith, e, most))
final_shown false m status e final = e

abbrev fetched_at : Op → ℕ
fetched_at (Fetch dev offset count) = offset
fetched_at (Store dev offset bytes) = 0

abbrev counted : Op → ℕ
counted (Fetch dev offset count) = count
counted (Store dev offset bytes) = 0

other_at : (one two : Op) (op : Op) → fetched_at one ≢ fetched_at two → op ≡ one → op ≡ two → ⊥
other_at one two op differ is was = differ (ap (λ (o : Op). fetched_at o) (sym is ∙ was))

length_nil : (l : List ℕ) → l ≡ [] → 0 < length l → ⊥
length_nil l e some = let same : length l ≡ 0 = ap (λ (x : List ℕ). length x) e in omega (arith, same, some)

-- the reply to a fetch on page 9Fh or of the status
module _ (answer : Answer) (mid : Module) (shown : IsShown answer mid) where
  status_own : (reply : Reply) → (reply ≡ Refused) ⊎ ((bytes : List ℕ) × (reply ≡ Bytes (record { items = bytes })) × (read 37 1 mid ≡ Some bytes)) → ShowsItsOwn answer (record { op = operations.read_status; reply = reply })
  status_own reply came = record {
    status = λ status gives final. by status came gives final;
    length = λ count check gives some. absurd (other_at operations.read_status operations.read_count operations.read_status (λ e. omega (arith, e)) refl gives.0);
    reply = λ own bytes is gives. absurd (other_at operations.read_status (operations.read_reply (length own.items)) operations.read_status (λ e. omega (arith, e)) refl gives.0);
  } where
    by : (status : ℕ) → (reply ≡ Refused) ⊎ ((bytes : List ℕ) × (reply ≡ Bytes (record { items = bytes })) × (read 37 1 mid ≡ Some bytes)) → Gives operations.read_status (status ∷ []) (record { op = operations.read_status; reply = reply })
        → IsFinal status → (outcome : Outcome) × (answer.outcome ≡ Some outcome) × ShowsStatus outcome status
    by status (inl refused) gives final = absurd (let e : Refused ≡ Bytes (record { items = status ∷ [] }) = sym refused ∙ gives.1 in cc)
    by status (inr (bytes, is, was)) gives final =
        let same : bytes ≡ status ∷ [] = one_of bytes (status ∷ []) (sym is ∙ gives.1) in
        let now : status_shown mid ≡ status = first_same (status_shown mid) status (was ∙ ap (λ (l : List ℕ). Some l) same) in
        let it : mid.status ≡ status = final_shown (is_busy mid) mid status now final in
        subst (λ (n : ℕ). (outcome : Outcome) × (answer.outcome ≡ Some outcome) × ShowsStatus outcome n) it (shown.status (subst IsFinal (sym it) final))
      where
        first_same : (a b : ℕ) → ◌≡◌ {A = Option (List ℕ)} (Some (a ∷ [])) (Some (b ∷ [])) → a ≡ b
        first_same a b e = cc

  count_own : (reply : Reply) → (reply ≡ Refused) ⊎ ((bytes : List ℕ) × (reply ≡ Bytes (record { items = bytes })) × (read 134 2 mid ≡ Some bytes)) → ShowsItsOwn answer (record { op = operations.read_count; reply = reply })
  count_own reply came = record {
    status = λ status gives final. absurd (other_at operations.read_count operations.read_status operations.read_count (λ e. omega (arith, e)) refl gives.0);
    length = λ count check gives some. by count check came gives some;
    reply = λ own bytes is gives. absurd (other_at operations.read_count (operations.read_reply (length own.items)) operations.read_count (λ e. omega (arith, e)) refl gives.0);
  } where
    of : (count : ℕ) → 0 < count → count ≡ length mid.reply → ShowsReply answer.outcome mid.reply → (own : ArrayVec ℕ) × (answer.outcome ≡ Some (Succeeded own)) × (count ≡ length own.items)
    of count some is (inl none) = absurd (length_nil mid.reply none (subst (λ (n : ℕ). 0 < n) is some))
    of count some is (inr (own, e, same, few)) = (own, e, is ∙ ap (λ (l : List ℕ). length l) same)

    by : (count check : ℕ) → (reply ≡ Refused) ⊎ ((bytes : List ℕ) × (reply ≡ Bytes (record { items = bytes })) × (read 134 2 mid ≡ Some bytes)) → Gives operations.read_count (count ∷ check ∷ []) (record { op = operations.read_count; reply = reply })
        → 0 < count → (own : ArrayVec ℕ) × (answer.outcome ≡ Some (Succeeded own)) × (count ≡ length own.items)
    by count check (inl refused) gives some = absurd (let e : Refused ≡ Bytes (record { items = count ∷ check ∷ [] }) = sym refused ∙ gives.1 in cc)
    by count check (inr (bytes, is, was)) gives some =
        let same : bytes ≡ count ∷ check ∷ [] = one_of bytes (count ∷ check ∷ []) (sym is ∙ gives.1) in
        let now : count ∷ check ∷ [] ≡ length mid.reply ∷ complement (sum mid.reply) ∷ [] = sym same ∙ reads_count mid bytes was in
        of count some (ap (λ (l : List ℕ). first l) now) shown.reply

  reply_own : (asked : ℕ) (reply : Reply) → (reply ≡ Refused) ⊎ ((bytes : List ℕ) × (reply ≡ Bytes (record { items = bytes })) × (read 136 (max 1 (min asked 120)) mid ≡ Some bytes))
      → ShowsItsOwn answer (record { op = operations.read_reply asked; reply = reply })
  reply_own asked reply came = record {
    status = λ status gives final. absurd (other_at (operations.read_reply asked) operations.read_status (operations.read_reply asked) (λ e. omega (arith, e)) refl gives.0);
    length = λ count check gives some. absurd (other_at (operations.read_reply asked) operations.read_count (operations.read_reply asked) (λ e. omega (arith, e)) refl gives.0);
    reply = λ own bytes is gives. by own bytes is came gives;
  } where
    same_own : (one two : ArrayVec ℕ) → answer.outcome ≡ Some (Succeeded one) → answer.outcome ≡ Some (Succeeded two) → one.items ≡ two.items
    same_own one two e f = items_same one two (sym e ∙ f) where
      items_same : (a b : ArrayVec ℕ) → ◌≡◌ {A = Option Outcome} (Some (Succeeded a)) (Some (Succeeded b)) → a.items ≡ b.items
      items_same a b g = cc

    of : (own : ArrayVec ℕ) (bytes : List ℕ) (count : ℕ) → answer.outcome ≡ Some (Succeeded own) → bytes ≡ take count mid.reply → count ≤ length mid.reply → count ≡ max 1 (min (length own.items) 120)
        → ShowsReply answer.outcome mid.reply → bytes ≡ own.items
    of own bytes count is was fits same (inl none) = absurd (length_nil mid.reply none (omega (arith, fits, same)))
    of own bytes count is was fits same (inr (other, e, all, few)) =
        let it : mid.reply ≡ own.items = all ∙ same_own other own e is in
        let long : length mid.reply ≡ length own.items = ap (λ (l : List ℕ). length l) it in
        let short : length mid.reply ≤ 120 = subst (λ (l : List ℕ). length l ≤ 120) (sym all) few in
        was ∙ take_all count mid.reply (omega (arith, same, long, short, fits)) ∙ it

    by : (own : ArrayVec ℕ) (bytes : List ℕ) → answer.outcome ≡ Some (Succeeded own) → (reply ≡ Refused) ⊎ ((got : List ℕ) × (reply ≡ Bytes (record { items = got })) × (read 136 (max 1 (min asked 120)) mid ≡ Some got))
        → Gives (operations.read_reply (length own.items)) bytes (record { op = operations.read_reply asked; reply = reply }) → bytes ≡ own.items
    by own bytes is (inl refused) gives = absurd (let e : Refused ≡ Bytes (record { items = bytes }) = sym refused ∙ gives.1 in cc)
    by own bytes is (inr (got, came_so, was)) gives =
        let same : got ≡ bytes = one_of got bytes (sym came_so ∙ gives.1) in
        let at = reads_reply (max 1 (min asked 120)) mid got shown.body was in
        of own bytes (max 1 (min asked 120)) is (sym same ∙ at.0) at.1 (ap (λ (o : Op). counted o) gives.0) shown.reply

pub status_shown_own : (answer : Answer) (old : Module) (turn : Reply × Module) → IsShown answer old → Read 37 1 old turn → ShowsItsOwn answer (record { op = operations.read_status; reply = turn.0 })
status_shown_own answer old turn shown (mid, drift, came, is) = status_own answer mid (shown_on answer old mid drift shown) turn.0 came

pub count_shown_own : (answer : Answer) (old : Module) (turn : Reply × Module) → IsShown answer old → Read 134 2 old turn → ShowsItsOwn answer (record { op = operations.read_count; reply = turn.0 })
count_shown_own answer old turn shown (mid, drift, came, is) = count_own answer mid (shown_on answer old mid drift shown) turn.0 came

pub reply_shown_own : (asked : ℕ) (answer : Answer) (old : Module) (turn : Reply × Module) → IsShown answer old → Read 136 (max 1 (min asked 120)) old turn
    → ShowsItsOwn answer (record { op = operations.read_reply asked; reply = turn.0 })
reply_shown_own asked answer old turn shown (mid, drift, came, is) = reply_own answer mid (shown_on answer old mid drift shown) asked turn.0 came
