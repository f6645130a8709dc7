-- An update on the simulated module, turn by turn: the module comes to stand as the commands have it.
use Rattle.std.proofs.Common.{◌≡◌, ℕ, ◌≤◌, nat_le, ◌==◌, ◌&&◌, ◌++◌, if◌then◌else◌, Bool, true, false, cond, List, [], ◌∷◌, length, take, Option, Some, None, Result, refl, sym, subst, ap, inl, inr, ◌∙◌}
use Rattle.std.specs.Prelude.{⊤, sum}
use Rattle.std.proofs.lemmas.Bool.{and_parts, cond_both, eqb-true, leb-true}
use Rattle.std.proofs.lemmas.List.{length-take-le}
use Rattle.arrayvec.specs.ArrayVec.{ArrayVec}
use Rattle.bus_model.specs.declared.device.Dev.TheVariants.{A0, A2}
use Rattle.bus_model.specs.declared.operation.Op.{Op}
use Rattle.bus_model.specs.declared.operation.Op.TheVariants.{Fetch, Store}
use Rattle.bus_model.specs.declared.operation.Reply.{Reply}
use Rattle.bus_model.specs.declared.operation.Reply.TheVariants.{Refused}
use Rattle.bus_model.specs.declared.operation.Step.{Step}
use Rattle.bus_model.specs.Operations.{Answers}
use Rattle.command_block.specs.declared.attempt.Phase.TheVariants.{Delayed, Idle}
use Rattle.command_block.specs.declared.delivery.Delivery.{Delivery}
use Rattle.command_block.specs.declared.message.Message.{Message}
use Rattle.command_block.specs.declared.outcome.Outcome.{Outcome}
use Rattle.command_block.specs.Deliveries.{IsDelivered, Patient, Terms, ToldPatient, attempt_in, begun_delivery, delivery_after, delivery_wants, ending_as, needed_after, paged_wants, patience_for, patient_of, patient_wants, terms_for, terms_of, timing_for}
use Rattle.command_block.specs.Messages.{complement}
use Rattle.command_block.specs.Phases.{known}
use Rattle.command_block.specs.Turns as turns
use Rattle.command_block.proofs.Delivered.{begun_turned}
use Rattle.command_block.proofs.Known.{known_shown, rests}
use Rattle.conversations.specs.declared.event.Event.{Event}
use Rattle.conversations.specs.declared.event.Event.TheVariants.{Made, Waited, Lacked, Asked}
use Rattle.conversations.specs.declared.next.Next.{Next}
use Rattle.conversations.specs.declared.next.Next.TheVariants.{Do, Wait, End}
use Rattle.conversations.specs.declared.pausing.Timed.{Timed}
use Rattle.conversations.specs.declared.within.Spent.{Spent}
use Rattle.conversations.specs.Events.{Events, steps_of}
use Rattle.conversations.specs.Wanted.{op_of}
use Rattle.firmware_update.specs.declared.command.Command.{Command}
use Rattle.firmware_update.specs.declared.durations.Durations.{Durations}
use Rattle.firmware_update.specs.declared.session.Session.{Session}
use Rattle.firmware_update.specs.declared.update.Cause.{Cause}
use Rattle.firmware_update.specs.declared.update.Update.{Update}
use Rattle.firmware_update.specs.declared.update.UpdateNext.{UpdateNext}
use Rattle.firmware_update.specs.declared.update.UpdateNext.TheVariants as updates
use Rattle.firmware_update.specs.Courses.{IsEnd, IsInHand, IsUnderWay, asked_for, delay_for, delivery_at, going_by, going_on, learned_by, stopped, wanted, wanted_by}
use Rattle.firmware_update.specs.Durations.{duration_for, durations_after, learned, none}
use Rattle.firmware_update.specs.Exchanges as exchanges
use Rattle.firmware_update.specs.Payloads.{message_of}
use Rattle.firmware_update.specs.Progress.{IsAt, begun_update, exchange_of, next, taken}
use Rattle.firmware_update.specs.Turned.{HasRestedBy, HasTurned, begun_session, replied_by}
use Rattle.firmware_update.proofs.OnBus.{delivery_does, delivery_waits, none_does, none_waits}
use Rattle.firmware_update.proofs.Told as tells
use Rattle.firmware_laws.specs.AtTheBus.{ComesOnBus, StandsAfter}
use Rattle.simulated_updates.specs.declared.chance.Chance.{Chance}
use Rattle.simulated_updates.specs.Modules.{Module, befallen, has_page, is_deaf, payload, status_shown, stepped, stored, stored_reply, storing}
use Rattle.simulated_updates.specs.OnTheBus.{Becomes, MayStep}
use Rattle.simulated_updates.specs.Performed.{conduct}
use Rattle.simulated_updates.proofs.Courses.{happens, unpaged, unpaused}
use Rattle.simulated_updates.proofs.Replied.{same_terms, told_delivery}
use Rattle.simulated_updates.proofs.Stands.{stands}
use Rattle.simulated_updates.proofs.Steps.{Read, read_step}

-- ---- each step answers what was asked

same_bytes : (one two : List ℕ) → ◌≡◌ {A = Option (List ℕ)} (Some one) (Some two) → one ≡ two
same_bytes one two e = cc

read_by : (a b c d : Bool) (offset count : ℕ) (m : Module) (bytes : List ℕ)
    → (offset == 37 && count == 1) ≡ a → (offset == 126 && count == 2) ≡ b → (has_page m && (offset == 134 && count == 2)) ≡ c → (has_page m && (offset == 136 && nat_le count (length (payload m)))) ≡ d
    → cond a (Some (status_shown m ∷ [])) (cond b (Some (0 ∷ m.page ∷ [])) (cond c (Some (length m.reply ∷ complement (sum m.reply) ∷ [])) (cond d (Some (take count (payload m))) None))) ≡ Some bytes
    → length bytes ≡ count
read_by true b c d offset count m bytes is_a is_b is_c is_d e =
    let one = eqb-true count 1 (and_parts (offset == 37) (count == 1) is_a).1 in
    ap (λ (l : List ℕ). length l) (sym (same_bytes (status_shown m ∷ []) bytes e)) ∙ sym one
read_by false true c d offset count m bytes is_a is_b is_c is_d e =
    let two = eqb-true count 2 (and_parts (offset == 126) (count == 2) is_b).1 in
    ap (λ (l : List ℕ). length l) (sym (same_bytes (0 ∷ m.page ∷ []) bytes e)) ∙ sym two
read_by false false true d offset count m bytes is_a is_b is_c is_d e =
    let two = eqb-true count 2 (and_parts (offset == 134) (count == 2) (and_parts (has_page m) (offset == 134 && count == 2) is_c).1).1 in
    ap (λ (l : List ℕ). length l) (sym (same_bytes (length m.reply ∷ complement (sum m.reply) ∷ []) bytes e)) ∙ sym two
read_by false false false true offset count m bytes is_a is_b is_c is_d e =
    let few = leb-true count (length (payload m)) (and_parts (offset == 136) (nat_le count (length (payload m))) (and_parts (has_page m) (offset == 136 && nat_le count (length (payload m))) is_d).1).1 in
    ap (λ (l : List ℕ). length l) (sym (same_bytes (take count (payload m)) bytes e)) ∙ length-take-le count (payload m) few
read_by false false false false offset count m bytes is_a is_b is_c is_d e = absurd cc

fetch_answers : (offset count : ℕ) (old : Module) (reply : Reply) (new : Module) → Read offset count old (reply, new) → Answers (Fetch A0 offset count) reply
fetch_answers offset count old reply new (mid, drift, inl refused, same) = subst (λ (r : Reply). Answers (Fetch A0 offset count) r) (sym refused) tt
fetch_answers offset count old reply new (mid, drift, inr (bytes, is, was), same) =
    subst (λ (r : Reply). Answers (Fetch A0 offset count) r) (sym is) (read_by _ _ _ _ offset count mid bytes refl refl refl refl was)

took_answers : (dev_bytes : ArrayVec ℕ) (offset : ℕ) (took : Bool) → Answers (Store A0 offset dev_bytes) (stored_reply took)
took_answers given offset true = tt
took_answers given offset false = tt

kept_answers : (chance : Chance) (kept : Option ℕ) (offset : ℕ) (given : ArrayVec ℕ) (m : Module) → Answers (Store A0 offset given) (storing chance kept offset given.items m).0
kept_answers chance None offset given m = took_answers given offset (stored chance offset given.items m).0
kept_answers chance (Some n) offset given m = tt

step_answers : (chance : Chance) (op : Op) (old : Module) → Answers op (stepped chance op old).0
step_answers chance (Fetch A0 offset count) old = fetch_answers offset count old (stepped chance (Fetch A0 offset count) old).0 (stepped chance (Fetch A0 offset count) old).1 (read_step chance offset count old)
step_answers chance (Fetch A2 offset count) old = tt
step_answers chance (Store A0 offset given) old =
    let m = befallen chance.before old in
    cond_both (is_deaf m) (Refused, m) (storing chance chance.kept offset given.items m) (λ (r : Reply × Module). Answers (Store A0 offset given) r.0) (λ e. tt) (λ e. kept_answers chance chance.kept offset given m)
step_answers chance (Store A2 offset given) old = tt

answered : (old new : Module) (step : Step) → MayStep old step new → Answers step.op step.reply
answered old new step (chance, e) = subst (λ (r : Reply × Module). Answers step.op r.0) e (step_answers chance step.op old)

-- ---- a delivery, with what the module became

abbrev Ends : Events → Module → Module → Terms → Outcome → Type 0
Ends events mid new terms outcome = (by : IsDelivered terms events outcome) × StandsAfter conduct terms.1.1.1.0 mid.firmware (steps_of by.own) new.firmware

ends : (patient : Patient) (events : Events) (mid new : Module) → ToldPatient events patient → Becomes mid events new → Ends events mid new (terms_of patient) (known (attempt_in patient))
ends patient events mid new ((paged, adds, (knows, (own, selects, told))), counted, few) becomes = (
  record {
    own = own;
    paged = paged;
    next = op_of (paged_wants patient.conversation.conversation);
    due = patient.conversation.due;
    idle = patient.conversation.idle;
    pauses = adds;
    selects = selects;
    shown = known_shown (attempt_in patient) own told;
    rests = rests (attempt_in patient).message (attempt_in patient).timing own told.each;
    few = subst (λ (n : ℕ). n ≤ patient.limit) (sym counted) few;
  },
  stands (attempt_in patient).message mid (attempt_in patient).timing own new told.each
      (unpaged patient.conversation.conversation.doubts true (λ before. needed_after (attempt_in patient).message (attempt_in patient).timing before) paged own mid new selects
      (unpaused patient.conversation.patience events paged (op_of (paged_wants patient.conversation.conversation)) patient.conversation.due patient.conversation.idle mid new adds (happens events mid new becomes))),
)

ended_by : (outcome known_now : Outcome) (n : Next (Spent (Timed Outcome))) → ending_as known_now n ≡ End outcome → known_now ≡ outcome
ended_by outcome known_now (Do op) e = absurd cc
ended_by outcome known_now (Wait time) e = absurd cc
ended_by outcome known_now (End spent) e = cc

begun_goes : (sent : Message) (duration delay : ℕ) → IsUnderWay (delivery_wants (begun_delivery sent duration delay))
begun_goes sent duration delay = by (delay == 0) where
  by : (b : Bool) → IsUnderWay (delivery_wants (record { patient = patient_of (record { message = sent; timing = timing_for duration delay; phase = if b then Idle else Delayed; outcome = None }) (patience_for duration) }))
  by true = tt
  by false = tt

told_sized : (size : ℕ) (history : exchanges.History) (command : Command) (update : Update) (outcome : Outcome) → IsAt size history update → next update ≡ updates.Send command
    → IsAt size (exchange_of command outcome ∷ history) (taken update outcome)
told_sized size history command update outcome at asks =
    let here = subst (λ (n : ℕ). IsAt n history update) (sym at.sized) at in
    subst (λ (n : ℕ). IsAt n (exchange_of command outcome ∷ history) (taken update outcome)) at.sized (tells.told history command update outcome here asks)

-- ---- the update

module _ (file : List ℕ) (start : Module) where
  record Followed (events : Events) (session : Session) (new : Module) : Type 0 where
    history : exchanges.History
    own : Events
    earlier : Events
    mid : Module
    all : events ≡ own ++ earlier
    comes : ComesOnBus conduct file start.firmware history earlier mid.firmware
    since : Becomes mid own new
    come : IsAt (length file) history session.update
    durations : session.durations ≡ durations_after history
    hand : IsInHand file session.durations session.update own session.delivery

  begun_hand : (durations : Durations) (update : Update) (n : UpdateNext) → next update ≡ n → IsInHand file durations update [] (delivery_at file update durations n)
  begun_hand durations update (updates.Send command) e = (
    command,
    record {
      sends = e;
      terms = refl;
      told = begun_turned (message_of file command) (duration_for command durations) (delay_for update);
      under_way = begun_goes (message_of file command) (duration_for command durations) (delay_for update);
    },
  )
  begun_hand durations update (updates.Done end) e = (refl, subst IsEnd (sym e) tt)

  begins : (new : Module) → start ≡ new → Followed [] (begun_session file) new
  begins new same = record {
    history = [];
    own = [];
    earlier = [];
    mid = start;
    all = refl;
    comes = (refl, inl refl);
    since = same;
    come = record { sized = refl; come = (tt, refl) };
    durations = refl;
    hand = begun_hand none (begun_update (length file)) (next (begun_update (length file))) refl;
  }

  -- what is on its way goes on, or has ended
  goes_by : (update : Update) (durations : Durations) (delivery : Delivery) (history : exchanges.History) (own earlier : Events) (mid new : Module) (command : Command) (n : Next Outcome) → delivery_wants delivery ≡ n
      → ComesOnBus conduct file start.firmware history earlier mid.firmware → Becomes mid own new → IsAt (length file) history update → durations ≡ durations_after history → next update ≡ updates.Send command
      → terms_of delivery.patient ≡ terms_for (message_of file command) (duration_for command durations) (delay_for update) → turns.ToldDelivery own delivery
      → Followed (own ++ earlier) (going_by file update durations delivery n) new
  goes_by update durations delivery history own earlier mid new command (Do op) e comes since at learnt sends terms told = record {
    history = history;
    own = own;
    earlier = earlier;
    mid = mid;
    all = refl;
    comes = comes;
    since = since;
    come = at;
    durations = learnt;
    hand = (command, record { sends = sends; terms = terms; told = told; under_way = subst (λ (n : Next Outcome). IsUnderWay n) (sym e) tt });
  }
  goes_by update durations delivery history own earlier mid new command (Wait time) e comes since at learnt sends terms told = record {
    history = history;
    own = own;
    earlier = earlier;
    mid = mid;
    all = refl;
    comes = comes;
    since = since;
    come = at;
    durations = learnt;
    hand = (command, record { sends = sends; terms = terms; told = told; under_way = subst (λ (n : Next Outcome). IsUnderWay n) (sym e) tt });
  }
  goes_by update durations delivery history own earlier mid new command (End outcome) e comes since at learnt sends terms told =
      let is : known (attempt_in delivery.patient) ≡ outcome = ended_by outcome (known (attempt_in delivery.patient)) (patient_wants delivery.patient) e in
      let same = terms ∙ ap (λ (d : Durations). terms_for (message_of file command) (duration_for command d) (delay_for update)) learnt in
      let by : Ends own mid new (terms_for (message_of file command) (duration_for command (durations_after history)) (delay_for update)) outcome =
      subst (λ (t : Terms). Ends own mid new t outcome) same (subst (λ (o : Outcome). Ends own mid new (terms_of delivery.patient) o) is (ends delivery.patient own mid new told.0 since)) in
      record {
        history = exchange_of command outcome ∷ history;
        own = [];
        earlier = own ++ earlier;
        mid = new;
        all = refl;
        comes = (own, earlier, refl, (delay_for update, by.0), mid.firmware, comes, by.1);
        since = refl;
        come = told_sized (length file) history command update outcome at sends;
        durations = ap (λ (n : UpdateNext). learned_by n outcome durations) sends ∙ ap (λ (d : Durations). learned command outcome d) learnt;
        hand = begun_hand (learned_by (next update) outcome durations) (taken update outcome) (next (taken update outcome)) refl;
      }

  -- by an event
  goes : (event : Event) (events : Events) (session later : Session) (old new : Delivery) (before now : Module) → session.delivery ≡ Some old → later ≡ going_on file session.update session.durations new
      → Followed events session before → ((mid : Module) (own : Events) → Becomes mid own before → Becomes mid (event ∷ own) now)
      → ((own : Events) → turns.ToldDelivery own old → turns.ToldDelivery (event ∷ own) new) → terms_of new.patient ≡ terms_of old.patient → Followed (event ∷ events) later now
  goes event events session later old new before now is exact at becomes more same =
      let (command, way) = subst (λ (o : Option Delivery). IsInHand file session.durations session.update at.own o) is at.hand in
      subst (λ (s : Session). Followed (event ∷ events) s now) (sym exact)
      (subst (λ (e : Events). Followed (event ∷ e) (going_on file session.update session.durations new) now) (sym at.all)
      (goes_by session.update session.durations new at.history (event ∷ at.own) at.earlier at.mid now command (delivery_wants new) refl at.comes (becomes at.mid at.own at.since) at.come at.durations way.sends (same ∙ way.terms) (more at.own way.told)))

  made_by : (events : Events) (session later : Session) (step : Step) (before now : Module) (o : Option Delivery) → session.delivery ≡ o → wanted session ≡ Do step.op → later ≡ replied_by file session o step.reply
      → Followed events session before → MayStep before step now → Followed (Made step ∷ events) later now
  made_by events session later step before now None is asks exact at makes = absurd (none_does file session step.op is asks)
  made_by events session later step before now (Some delivery) is asks exact at makes =
      goes (Made step) events session later delivery (delivery_after delivery step.reply) before now is exact at (λ mid own since. (before, since, makes))
      (λ own told. let does = delivery_does file session delivery step.op is asks in (
        told_delivery delivery own step.op step.reply (answered before now step makes) told.0 does,
        subst (λ (t : Terms). turns.HasTurned t (Made step ∷ own) (delivery_after delivery step.reply)) (sym (same_terms delivery step.reply)) (delivery, told.1, does, refl),
      )) (same_terms delivery step.reply)

  waited_by : (events : Events) (session later : Session) (time : ℕ) (before now : Module) (o : Option Delivery) → session.delivery ≡ o → wanted session ≡ Wait time → HasRestedBy file session o later
      → Followed events session before → ((mid : Module) (own : Events) → Becomes mid own before → Becomes mid (Waited time ∷ own) now) → Followed (Waited time ∷ events) later now
  waited_by events session later time before now None is asks rested at becomes = absurd (none_waits file session time is asks)
  waited_by events session later time before now (Some delivery) is asks (rested, has, exact) at becomes =
      goes (Waited time) events session later delivery rested before now is exact at becomes (λ own told. let waits = delivery_waits file session delivery time is asks in (
        has.told own time waits told.0,
        subst (λ (t : Terms). turns.HasTurned t (Waited time ∷ own) rested) (sym has.terms) (delivery, told.1, waits, has),
      )) has.terms

  follows : (events : Events) (session : Session) (new : Module) → HasTurned file events session → Becomes start events new → Followed events session new
  follows [] session new is same = subst (λ (s : Session). Followed [] s new) (sym is) (begins new same)
  follows (Made step ∷ before) session new (earlier, turned, asks, exact) (mid, becomes, makes) =
      made_by before earlier session step mid new earlier.delivery refl asks exact (follows before earlier mid turned becomes) makes
  follows (Waited time ∷ before) session new (earlier, turned, asks, rested) (mid, becomes, passes) =
      waited_by before earlier session time mid new earlier.delivery refl asks rested (follows before earlier mid turned becomes) (λ from own since. (mid, since, passes))
  follows (Lacked page ∷ before) session new never becomes = absurd never
  follows (Asked number ∷ before) session new never becomes = absurd never

  -- ---- where it has ended

  going_ends : (n : Next Outcome) (end : Result ⊤ Cause) → IsUnderWay n → asked_for n ≡ End end → ⊥
  going_ends (Do op) end under e = absurd cc
  going_ends (Wait time) end under e = absurd cc
  going_ends (End outcome) end under e = under

  end_of : (end : Result ⊤ Cause) (n : UpdateNext) → stopped n ≡ End end → IsEnd n → n ≡ updates.Done end
  end_of end (updates.Send command) e is = absurd is
  end_of end (updates.Done other) e is = let same : other ≡ end = cc in ap (λ (r : Result ⊤ Cause). updates.Done r) same

  abbrev pub HasEnded : Events → Module → Update → Result ⊤ Cause → Type 0
  HasEnded events new update end =
      (history : exchanges.History) × ComesOnBus conduct file start.firmware history events new.firmware × IsAt (length file) history update × (next update ≡ updates.Done end)

  ended_in : (events : Events) (session : Session) (new : Module) (end : Result ⊤ Cause) (at : Followed events session new) (o : Option Delivery) → IsInHand file session.durations session.update at.own o
      → wanted_by session.update o ≡ End end → HasEnded events new session.update end
  ended_in events session new end at None (nothing, is_end) asks =
      let same : at.mid ≡ new = subst (λ (own : Events). Becomes at.mid own new) nothing at.since in
      let all : events ≡ at.earlier = at.all ∙ ap (λ (l : Events). l ++ at.earlier) nothing in (
        at.history,
        subst (λ (m : Module). ComesOnBus conduct file start.firmware at.history events m.firmware) same
            (subst (λ (e : Events). ComesOnBus conduct file start.firmware at.history e at.mid.firmware) (sym all) at.comes),
        at.come,
        end_of end (next session.update) asks is_end,
      )
  ended_in events session new end at (Some delivery) (command, way) asks = absurd (going_ends (delivery_wants delivery) end way.under_way asks)

  pub ended : (events : Events) (session : Session) (new : Module) (end : Result ⊤ Cause) → HasTurned file events session → Becomes start events new → wanted session ≡ End end
      → HasEnded events new session.update end
  ended events session new end turned becomes asks =
      let at = follows events session new turned becomes in ended_in events session new end at session.delivery at.hand asks
