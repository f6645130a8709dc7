-- An attempt on the simulated module: how that stands after each of its own events.
use Rattle.std.proofs.Common.{◌≡◌, ◌≢◌, ◌⊎◌, ℕ, ◌+◌, ◌-◌, ◌*◌, ◌/◌, ◌%◌, ◌<◌, ◌≤◌, nat_lt, nat_le, ◌==◌, ◌&&◌, ◌++◌, Bool, true, false, cond, List, [], ◌∷◌, length, take, Option, Some, None, refl, sym, subst, ap, inl, inr, ◌∙◌, arith}
use Rattle.std.specs.Prelude.{max, min, sum, drop, slice_range}
use Rattle.std.specs.Str.{bytes_eq}
use Rattle.std.proofs.lemmas.Bool.{cond_both, le-ltb, lt-ltb, ltb-true, ltb-false}
use Rattle.std.proofs.lemmas.List.{take_all, take_at, take_min, take-take, take-append-drop, length-take, length-take-le}
use Rattle.std.proofs.Math.Seq.{take-append-add}
use Rattle.bus_model.specs.declared.operation.Op.{Op}
use Rattle.bus_model.specs.declared.operation.Op.TheVariants.{Fetch, Store}
use Rattle.bus_model.specs.declared.operation.Reply.{Reply}
use Rattle.bus_model.specs.declared.operation.Reply.TheVariants.{Bytes, Done, Refused}
use Rattle.bus_model.specs.declared.operation.Step.{Step}
use Rattle.command_block.specs.declared.attempt.Attempt.{Attempt}
use Rattle.command_block.specs.declared.attempt.Phase.{Phase}
use Rattle.command_block.specs.declared.attempt.Phase.TheVariants.{Delayed, Idle, Filling, Triggering, Resting, Awaiting, Counting, Reading, Checking}
use Rattle.command_block.specs.declared.attempt.Timing.{Timing}
use Rattle.command_block.specs.declared.judgement.Judgement.{Judgement}
use Rattle.command_block.specs.declared.judgement.Judgement.TheVariants.{On, Again, Ends}
use Rattle.command_block.specs.declared.message.Message.{Message}
use Rattle.command_block.specs.declared.outcome.Outcome.{Outcome}
use Rattle.command_block.specs.declared.outcome.Outcome.TheVariants.{Succeeded, Failed}
use Rattle.command_block.specs.AttemptEvents.{EachIsWanted, attempt_after}
use Rattle.command_block.specs.Attempts.{History}
use Rattle.command_block.specs.Messages.{complement}
use Rattle.command_block.specs.Operations.{head, piece, read_back, read_count, read_reply, read_status, trigger}
use Rattle.command_block.specs.Phases.{after_bytes, after_count, after_idle, after_piece, after_status, doubted, filling, judged, next_at, outcome_after, phase_after, phase_rested, wants_by}
use Rattle.conversations.specs.declared.event.Event.TheVariants.{Made, Waited, Lacked, Asked}
use Rattle.conversations.specs.declared.next.Next.TheVariants.{Do}
use Rattle.conversations.specs.Events.{Events, steps_of}
use Rattle.firmware_laws.specs.AtTheBus.{HasTaken, Leaves, ShowsItsOwn, StandsAfter, TookNone}
use Rattle.firmware_laws.specs.Modules.{Answer, Endures, Firmware}
use Rattle.firmware_laws.proofs.Endures.{endures_on, lost_first}
use Rattle.simulated_updates.specs.declared.chance.Chance.{Chance}
use Rattle.simulated_updates.specs.Modules.{Module, taken}
use Rattle.simulated_updates.specs.OnTheBus.{MayStep}
use Rattle.simulated_updates.specs.Performed.{conduct}
use Rattle.simulated_updates.proofs.Courses.{Course}
use Rattle.simulated_updates.proofs.Drifts.{Drifts, IsFresh, Keeps, by_step}
use Rattle.simulated_updates.proofs.Steps.{AddsPiece, ByStore, PutsHead, Read, Takes, head_step, id_step, piece_step, read_step}
use Rattle.simulated_updates.proofs.Taken.{IsReady, IsShown, IsTaken, Rests, count_shown_own, head_of, reply_shown_own, shown_on, status_shown_own, taken_is}

-- ---- a body that is stored

-- a piece goes on with the body
joins : (at : ℕ) (body kept : List ℕ) → at < length body → take at kept ≡ take at body
    → take (at + 8) (take at kept ++ slice_range body at (min (at + 8) (length body))) ≡ take (at + 8) body
joins at body kept less same =
    let end = min (at + 8) (length body) in
    let there : length (take at body) ≡ at = length-take-le at body (omega (arith, less)) in
    let whole : take (at + (end - at)) body ≡ take at body ++ take (end - at) (drop at body) =
    subst (λ (l : List ℕ). take (at + (end - at)) l ≡ take at body ++ take (end - at) (drop at body)) (take-append-drop at body)
    (subst (λ (n : ℕ). take (n + (end - at)) (take at body ++ drop at body) ≡ take at body ++ take (end - at) (drop at body)) there (take-append-add (take at body) (drop at body) (end - at))) in
    let sum_is : at + (end - at) ≡ end = omega (arith, less) in
    let now : take at kept ++ slice_range body at end ≡ take end body =
    ap (λ (l : List ℕ). l ++ slice_range body at end) same ∙ sym whole ∙ ap (λ (n : ℕ). take n body) sum_is in
    let few : length (take end body) ≤ at + 8 = let l = length-take end body in omega (arith, l) in
    ap (λ (l : List ℕ). take (at + 8) l) now ∙ take_all (at + 8) (take end body) few ∙ take_min (at + 8) body

-- the body below this byte is there, or nothing is
abbrev HasBody : List ℕ → ℕ → Module → Type 0
HasBody body at m = (take at m.body ≡ take at body) ⊎ (m.body ≡ [])

body_drifts : (body : List ℕ) (at : ℕ) (old new : Module) → Drifts old new → HasBody body at old → HasBody body at new
body_drifts body at old new drift has = by drift.registers has where
  by : Keeps old new ⊎ IsFresh new → HasBody body at old → HasBody body at new
  by (inr fresh) there = inr fresh.body
  by (inl keeps) (inl there) = inl (ap (λ (l : List ℕ). take at l) keeps.body ∙ there)
  by (inl keeps) (inr none) = inr (keeps.body ∙ none)

-- what is stored at this byte is behind the body so far
behind : (body : List ℕ) (at : ℕ) (m : Module) → HasBody body at m → at ≤ length m.body → take at m.body ≡ take at body
behind body at m (inl there) fits = there
behind body at m (inr none) fits =
    let nothing : length m.body ≡ 0 = ap (λ (l : List ℕ). length l) none in
    let zero_at : at ≡ 0 = omega (arith, nothing, fits) in
    subst (λ (n : ℕ). take n m.body ≡ take n body) (sym zero_at) refl

ready_drifts : (sent : Message) (old new : Module) → Drifts old new → IsReady sent old → IsReady sent new
ready_drifts sent old new drift ready = by drift.registers ready where
  by : Keeps old new ⊎ IsFresh new → IsReady sent old → IsReady sent new
  by (inr fresh) was = inr fresh.head
  by (inl keeps) (inl (is, there)) = inl (keeps.head ∙ is, subst (λ (l : List ℕ). (length sent.body.items ≤ length l) → take (length sent.body.items) l ≡ sent.body.items) (sym keeps.body) there)
  by (inl keeps) (inr none) = inr (keeps.head ∙ none)

-- ---- what is known in each phase

module _ (sent : Message) (start : Module) where
  abbrev pub Untaken : History → Module → Type 0
  Untaken h m = TookNone sent h × Endures start.firmware m.firmware

  abbrev pub WasTaken : History → Module → Type 0
  WasTaken h m = (before : Firmware) × (answer : Answer) × Endures start.firmware before × HasTaken conduct sent before h answer × Rests answer m.firmware × IsShown answer m

  abbrev pub Known : History → Module → Phase → Type 0
  Known h m Delayed = Untaken h m
  Known h m Idle = Untaken h m
  Known h m (Filling at) = Untaken h m × HasBody sent.body.items at m
  Known h m Triggering = Untaken h m × IsReady sent m
  Known h m Resting = WasTaken h m
  Known h m Awaiting = WasTaken h m
  Known h m Counting = WasTaken h m
  Known h m (Reading count check) = WasTaken h m
  Known h m (Checking at) = Untaken h m × HasBody sent.body.items at m

  abbrev pub KnownBy : History → Module → Phase → Option Outcome → Type 0
  KnownBy h m phase None = Known h m phase
  KnownBy h m phase (Some outcome) = Untaken h m ⊎ WasTaken h m

  -- by a judgement
  abbrev After : History → Module → Phase → Judgement → Type 0
  After h m phase (On later) = Known h m later
  After h m phase Again = Known h m phase
  After h m phase (Ends outcome) = Untaken h m ⊎ WasTaken h m

  -- ---- as time goes by

  untaken_on : (h : History) (old new : Module) → Drifts old new → Untaken h old → Untaken h new
  untaken_on h old new drift (none, endures) = (none, endures_on start.firmware old.firmware new.firmware endures drift.endures)

  rests_on : (answer : Answer) (old new : Firmware) → Endures old new → Rests answer old → Rests answer new
  rests_on answer old new later (inl (outcome, is, endures)) = inl (outcome, is, endures_on answer.after old new endures later)
  rests_on answer old new later (inr (none, loses)) = inr (none, lost_first answer.after old new loses later)

  taken_on : (h : History) (old new : Module) → Drifts old new → WasTaken h old → WasTaken h new
  taken_on h old new drift (before, answer, endures, has, rests, shown) =
      (before, answer, endures, has, rests_on answer old.firmware new.firmware drift.endures rests, shown_on answer old new drift shown)

  known_on : (h : History) (old new : Module) (phase : Phase) → Drifts old new → Known h old phase → Known h new phase
  known_on h old new Delayed drift known = untaken_on h old new drift known
  known_on h old new Idle drift known = untaken_on h old new drift known
  known_on h old new (Filling at) drift known = (untaken_on h old new drift known.0, body_drifts sent.body.items at old new drift known.1)
  known_on h old new Triggering drift known = (untaken_on h old new drift known.0, ready_drifts sent old new drift known.1)
  known_on h old new Resting drift known = taken_on h old new drift known
  known_on h old new Awaiting drift known = taken_on h old new drift known
  known_on h old new Counting drift known = taken_on h old new drift known
  known_on h old new (Reading count check) drift known = taken_on h old new drift known
  known_on h old new (Checking at) drift known = (untaken_on h old new drift known.0, body_drifts sent.body.items at old new drift known.1)

  either_on : (h : History) (old new : Module) → Drifts old new → Untaken h old ⊎ WasTaken h old → Untaken h new ⊎ WasTaken h new
  either_on h old new drift (inl none) = inl (untaken_on h old new drift none)
  either_on h old new drift (inr taken_so) = inr (taken_on h old new drift taken_so)

  after_on : (h : History) (old new : Module) (phase : Phase) (j : Judgement) → Drifts old new → After h old phase j → After h new phase j
  after_on h old new phase (On later) drift known = known_on h old new later drift known
  after_on h old new phase Again drift known = known_on h old new phase drift known
  after_on h old new phase (Ends outcome) drift known = either_on h old new drift known

  -- ---- a step

  abbrev stored_at : Op → ℕ
  stored_at (Fetch dev offset count) = 0
  stored_at (Store dev offset bytes) = offset

  no_trigger : (step : Step) (op : Op) → step.op ≡ op → stored_at op ≢ 128 → step.op ≡ trigger sent → step.reply ≢ Done
  no_trigger step op is other same = absurd (other (ap (λ (o : Op). stored_at o) (sym is ∙ same)))

  untaken_more : (h : History) (step : Step) (op : Op) (old new : Module) → step.op ≡ op → stored_at op ≢ 128 → Untaken h old → Endures old.firmware new.firmware → Untaken (step ∷ h) new
  untaken_more h step op old new is other (none, endures) later = ((no_trigger step op is other, none), endures_on start.firmware old.firmware new.firmware endures later)

  -- before the message

  idle_by : (h : History) (new : Module) → Untaken h new → (bytes : List ℕ) → After h new Idle (after_idle bytes)
  idle_by h new none [] = none
  idle_by h new none (status ∷ []) = cond_both (nat_lt status 128) (On (Filling 0)) Again (After h new Idle) (λ e. (none, inl refl)) (λ e. none)
  idle_by h new none (status ∷ more ∷ rest) = none

  idle_judged : (h : History) (new : Module) → Untaken h new → (reply : Reply) → After h new Idle (judged sent Idle reply)
  idle_judged h new none (Bytes bytes) = idle_by h new none bytes.items
  idle_judged h new none Done = none
  idle_judged h new none Refused = none

  -- while the body and the header are stored

  doubts : (h : History) (new : Module) (at : ℕ) → Untaken h new × HasBody sent.body.items at new → After h new (Filling at) (doubted at)
  doubts h new at known = cond_both (at == 0) Again (On (Checking at)) (After h new (Filling at)) (λ e. known) (λ e. known)

  again : (h : History) (new : Module) (at : ℕ) → Untaken h new × HasBody sent.body.items at new → (reply : Reply) → reply ≢ Done → After h new (Filling at) (judged sent (Filling at) reply)
  again h new at known (Bytes bytes) other = doubts h new at known
  again h new at known Done other = absurd (other refl)
  again h new at known Refused other = doubts h new at known

  back_judged : (h : History) (new : Module) (at : ℕ) → Untaken h new × HasBody sent.body.items at new → (reply : Reply) → After h new (Checking at) (judged sent (Checking at) reply)
  back_judged h new at known (Bytes bytes) =
      cond_both (bytes_eq bytes.items (take at sent.body.items)) (On (Filling at)) (On (Filling 0)) (After h new (Checking at)) (λ e. known) (λ e. (known.0, inl refl))
  back_judged h new at known Done = known
  back_judged h new at known Refused = known

  done_judged : (h : History) (new : Module) (at : ℕ) (reply : Reply) → reply ≡ Done → After h new (Filling at) (after_piece (length sent.body.items) at) → After h new (Filling at) (judged sent (Filling at) reply)
  done_judged h new at reply is after = subst (λ (r : Reply). After h new (Filling at) (judged sent (Filling at) r)) (sym is) after

  body_is : (at : ℕ) (m new : Module) (given : List ℕ) → AddsPiece at given m new → HasBody sent.body.items at m → take at new.body ≡ take at sent.body.items
  body_is at m new given (fits, is) has =
      ap (λ (n : Module). take at n.body) is ∙ take_at (take at m.body) given at (length-take-le at m.body fits) ∙ behind sent.body.items at m has fits

  pieced : (h : History) (step : Step) (old new : Module) (at : ℕ) (chance : Chance) → at < length sent.body.items → step.op ≡ piece sent at → Untaken h old → HasBody sent.body.items at old
      → ByStore chance (136 + at) (record { items = slice_range sent.body.items at (min (at + 8) (length sent.body.items)) }) old (AddsPiece at) (step.reply, new)
      → After (step ∷ h) new (Filling at) (judged sent (Filling at) step.reply)
  pieced h step old new at chance less is none has (mid, drift, inl (done, (fits, adds))) =
      let there = body_drifts sent.body.items at old mid drift has in
      let same : new.firmware ≡ mid.firmware = ap (λ (n : Module). n.firmware) adds in
      let endures : Endures old.firmware new.firmware = subst (λ (f : Firmware). Endures old.firmware f) (sym same) drift.endures in
      let body : take (at + 8) new.body ≡ take (at + 8) sent.body.items = ap (λ (n : Module). take (at + 8) n.body) adds ∙ joins at sent.body.items mid.body less (behind sent.body.items at mid there fits) in
      let known : Known (step ∷ h) new (Filling (at + 8)) = (untaken_more h step (piece sent at) old new is (λ e. omega (arith, e)) none endures, inl body) in
      done_judged (step ∷ h) new at step.reply done
      (subst (λ (b : Bool). After (step ∷ h) new (Filling at) (cond b (On (Filling (at + 8))) (On Triggering))) (sym (lt-ltb at (length sent.body.items) less)) known)
  pieced h step old new at chance less is none has (mid, drift, inr (not_done, inl same_m)) =
      let endures : Endures old.firmware new.firmware = subst (λ (m : Module). Endures old.firmware m.firmware) (sym same_m) drift.endures in
      let there : HasBody sent.body.items at new = subst (λ (m : Module). HasBody sent.body.items at m) (sym same_m) (body_drifts sent.body.items at old mid drift has) in
      again (step ∷ h) new at (untaken_more h step (piece sent at) old new is (λ e. omega (arith, e)) none endures, there) step.reply not_done
  pieced h step old new at chance less is none has (mid, drift, inr (not_done, inr (kept, (fits, adds)))) =
      let same : new.firmware ≡ mid.firmware = ap (λ (n : Module). n.firmware) adds in
      let endures : Endures old.firmware new.firmware = subst (λ (f : Firmware). Endures old.firmware f) (sym same) drift.endures in
      let body = body_is at mid new (take kept (slice_range sent.body.items at (min (at + 8) (length sent.body.items)))) (fits, adds) (body_drifts sent.body.items at old mid drift has) in
      again (step ∷ h) new at (untaken_more h step (piece sent at) old new is (λ e. omega (arith, e)) none endures, inl body) step.reply not_done

  whole_body : (at : ℕ) (m : Module) → length sent.body.items ≤ at → HasBody sent.body.items at m → length sent.body.items ≤ length m.body → take (length sent.body.items) m.body ≡ sent.body.items
  whole_body at m all (inl there) fits =
      sym (take-take (length sent.body.items) at m.body all) ∙ ap (λ (l : List ℕ). take (length sent.body.items) l) there
      ∙ take-take (length sent.body.items) at sent.body.items all ∙ take_all (length sent.body.items) sent.body.items (omega arith)
  whole_body at m all (inr none) fits = behind sent.body.items (length sent.body.items) m (inr none) fits ∙ take_all (length sent.body.items) sent.body.items (omega arith)

  headed : (h : History) (step : Step) (old new : Module) (at : ℕ) (chance : Chance) → length sent.body.items ≤ at → step.op ≡ head sent → Untaken h old → HasBody sent.body.items at old
      → ByStore chance 130 (record { items = head_of sent }) old PutsHead (step.reply, new) → After (step ∷ h) new (Filling at) (judged sent (Filling at) step.reply)
  headed h step old new at chance all is none has (mid, drift, inl (done, puts)) =
      let there = body_drifts sent.body.items at old mid drift has in
      let endures : Endures old.firmware new.firmware = subst (λ (m : Module). Endures old.firmware m.firmware) (sym puts) drift.endures in
      let ready : IsReady sent new = subst (λ (m : Module). IsReady sent m) (sym puts) (inl (refl, whole_body at mid all there)) in
      let known : Known (step ∷ h) new Triggering = (untaken_more h step (head sent) old new is (λ e. omega (arith, e)) none endures, ready) in
      done_judged (step ∷ h) new at step.reply done
      (subst (λ (b : Bool). After (step ∷ h) new (Filling at) (cond b (On (Filling (at + 8))) (On Triggering))) (sym (le-ltb at (length sent.body.items) all)) known)
  headed h step old new at chance all is none has (mid, drift, inr (not_done, inl same_m)) =
      let endures : Endures old.firmware new.firmware = subst (λ (m : Module). Endures old.firmware m.firmware) (sym same_m) drift.endures in
      let there : HasBody sent.body.items at new = subst (λ (m : Module). HasBody sent.body.items at m) (sym same_m) (body_drifts sent.body.items at old mid drift has) in
      again (step ∷ h) new at (untaken_more h step (head sent) old new is (λ e. omega (arith, e)) none endures, there) step.reply not_done
  headed h step old new at chance all is none has (mid, drift, inr (not_done, inr (kept, puts))) =
      let endures : Endures old.firmware new.firmware = subst (λ (m : Module). Endures old.firmware m.firmware) (sym puts) drift.endures in
      let there : HasBody sent.body.items at new = subst (λ (m : Module). HasBody sent.body.items at m) (sym puts) (body_drifts sent.body.items at old mid drift has) in
      again (step ∷ h) new at (untaken_more h step (head sent) old new is (λ e. omega (arith, e)) none endures, there) step.reply not_done

  -- the id

  id_is : (high low : ℕ) → sent.id / 256 ∷ sent.id % 256 ∷ [] ≡ high ∷ low ∷ [] → high * 256 + low ≡ sent.id
  id_is high low e = let one : sent.id / 256 ≡ high = firsts e in let two : sent.id % 256 ≡ low = seconds e in omega (arith, one, two) where
    firsts : sent.id / 256 ∷ sent.id % 256 ∷ [] ≡ high ∷ low ∷ [] → sent.id / 256 ≡ high
    firsts f = cc

    seconds : sent.id / 256 ∷ sent.id % 256 ∷ [] ≡ high ∷ low ∷ [] → sent.id % 256 ≡ low
    seconds f = cc

  take_two : (kept high low : ℕ) (given : List ℕ) → take kept given ≡ high ∷ low ∷ [] → length given ≡ 2 → given ≡ high ∷ low ∷ []
  take_two kept high low given e two =
      let long : length (take kept given) ≡ 2 = ap (λ (l : List ℕ). length l) e in
      let same = length-take kept given in
      sym (take_all kept given (omega (arith, long, same, two))) ∙ e

  takes_it : (h : History) (step : Step) (old mid new : Module) (chance : Chance) (high low : ℕ) → step.op ≡ trigger sent → Endures start.firmware old.firmware → Drifts old mid → IsReady sent mid
      → sent.id / 256 ∷ sent.id % 256 ∷ [] ≡ high ∷ low ∷ [] → new ≡ taken chance (high * 256 + low) mid → WasTaken (step ∷ h) new
  takes_it h step old mid new chance high low is endures drift ready given now =
      let it : new ≡ taken chance sent.id mid = now ∙ ap (λ (n : ℕ). taken chance n mid) (id_is high low given) in
      let (answer, chosen, answered) = subst (λ (m : Module). IsTaken sent mid m) (sym it) (taken_is sent chance mid ready) in
      (mid.firmware, answer, endures_on start.firmware old.firmware mid.firmware endures drift.endures, inl (is, chosen), answered.rests, answered.shown)

  ends_either : (h : History) (new : Module) → Untaken h new ⊎ WasTaken h new → (reply : Reply) → reply ≢ Done → After h new Triggering (judged sent Triggering reply)
  ends_either h new either (Bytes bytes) other = either
  ends_either h new either Done other = absurd (other refl)
  ends_either h new either Refused other = either

  triggered : (h : History) (step : Step) (old new : Module) (chance : Chance) → step.op ≡ trigger sent → Untaken h old → IsReady sent old
      → ByStore chance 128 (record { items = sent.id / 256 ∷ sent.id % 256 ∷ [] }) old (Takes chance) (step.reply, new) → After (step ∷ h) new Triggering (judged sent Triggering step.reply)
  triggered h step old new chance is none ready (mid, drift, inl (done, (high, low, given, now))) =
      subst (λ (r : Reply). After (step ∷ h) new Triggering (judged sent Triggering r)) (sym done)
      (takes_it h step old mid new chance high low is none.1 drift (ready_drifts sent old mid drift ready) given now)
  triggered h step old new chance is none ready (mid, drift, inr (not_done, inl same_m)) =
      let endures : Endures old.firmware new.firmware = subst (λ (m : Module). Endures old.firmware m.firmware) (sym same_m) drift.endures in
      ends_either (step ∷ h) new (inl (((λ e. not_done), none.0), endures_on start.firmware old.firmware new.firmware none.1 endures)) step.reply not_done
  triggered h step old new chance is none ready (mid, drift, inr (not_done, inr (kept, (high, low, given, now)))) =
      ends_either (step ∷ h) new
      (inr (takes_it h step old mid new chance high low is none.1 drift (ready_drifts sent old mid drift ready) (take_two kept high low (sent.id / 256 ∷ sent.id % 256 ∷ []) given refl) now)) step.reply not_done

  -- then there are only reads

  abbrev IsLate : Phase → Type 0
  IsLate Delayed = ⊥
  IsLate Idle = ⊥
  IsLate (Filling at) = ⊥
  IsLate Triggering = ⊥
  IsLate Resting = Unit {0}
  IsLate Awaiting = Unit {0}
  IsLate Counting = Unit {0}
  IsLate (Reading count check) = Unit {0}
  IsLate (Checking at) = ⊥

  abbrev IsLateStill : Judgement → Type 0
  IsLateStill (On later) = IsLate later
  IsLateStill Again = Unit {0}
  IsLateStill (Ends outcome) = Unit {0}

  late_known : (h : History) (new : Module) (phase : Phase) → IsLate phase → WasTaken h new → Known h new phase
  late_known h new Delayed late was = absurd late
  late_known h new Idle late was = absurd late
  late_known h new (Filling at) late was = absurd late
  late_known h new Triggering late was = absurd late
  late_known h new Resting late was = was
  late_known h new Awaiting late was = was
  late_known h new Counting late was = was
  late_known h new (Reading count check) late was = was
  late_known h new (Checking at) late was = absurd late

  late_after : (h : History) (new : Module) (phase : Phase) (j : Judgement) → IsLate phase → IsLateStill j → WasTaken h new → After h new phase j
  late_after h new phase (On later) late still was = late_known h new later still was
  late_after h new phase Again late still was = late_known h new phase late was
  late_after h new phase (Ends outcome) late still was = inr was

  status_late : (wanted : Bool) (bytes : List ℕ) → IsLateStill (after_status wanted bytes)
  status_late wanted [] = tt
  status_late wanted (status ∷ []) =
      cond_both (status == 1) (cond wanted (On Counting) (Ends (Succeeded (record { items = [] })))) (cond (nat_le 64 status && nat_lt status 128) (Ends (Failed status)) Again) IsLateStill
      (λ e. cond_both wanted (On Counting) (Ends (Succeeded (record { items = [] }))) IsLateStill (λ w. tt) (λ w. tt))
      (λ e. cond_both (nat_le 64 status && nat_lt status 128) (Ends (Failed status)) Again IsLateStill (λ w. tt) (λ w. tt))
  status_late wanted (status ∷ more ∷ rest) = tt

  count_late : (bytes : List ℕ) → IsLateStill (after_count bytes)
  count_late [] = tt
  count_late (count ∷ []) = tt
  count_late (count ∷ check ∷ []) = cond_both (nat_lt 0 count && nat_le count 120) (On (Reading count check)) Again IsLateStill (λ e. tt) (λ e. tt)
  count_late (count ∷ check ∷ more ∷ rest) = tt

  bytes_late : (check : ℕ) (bytes : List ℕ) → IsLateStill (after_bytes check bytes)
  bytes_late check bytes =
      cond_both (nat_le (length bytes) 128 && complement (sum bytes) == check) (Ends (Succeeded (record { items = bytes }))) (On Resting) IsLateStill (λ e. tt) (λ e. tt)

  awaiting_late : (reply : Reply) → IsLateStill (judged sent Awaiting reply)
  awaiting_late (Bytes bytes) = status_late sent.replies bytes.items
  awaiting_late Done = tt
  awaiting_late Refused = tt

  counting_late : (reply : Reply) → IsLateStill (judged sent Counting reply)
  counting_late (Bytes bytes) = count_late bytes.items
  counting_late Done = tt
  counting_late Refused = tt

  reading_late : (count check : ℕ) (reply : Reply) → IsLateStill (judged sent (Reading count check) reply)
  reading_late count check (Bytes bytes) = bytes_late check bytes.items
  reading_late count check Done = tt
  reading_late count check Refused = tt

  read_on : (h : History) (step : Step) (op : Op) (old new : Module) (offset count : ℕ) → step.op ≡ op → WasTaken h old → Read offset count old (step.reply, new)
      → ((answer : Answer) → IsShown answer old → ShowsItsOwn answer (record { op = op; reply = step.reply })) → WasTaken (step ∷ h) new
  read_on h step op old new offset count is (before, answer, endures, has, rests, shown) (mid, drift, came, same) shows =
      let own : ShowsItsOwn answer step = subst (λ (o : Op). ShowsItsOwn answer (record { op = o; reply = step.reply })) (sym is) (shows answer shown) in
      let to : Drifts old new = subst (λ (m : Module). Drifts old m) (sym same) drift in
      taken_on (step ∷ h) old new to (before, answer, endures, inr (own, has), rests, shown)

  -- ---- each phase

  told : (timing : Timing) (phase : Phase) (h : History) (step : Step) (old new : Module) → next_at sent timing phase ≡ Do step.op → Known h old phase → MayStep old step new
      → After (step ∷ h) new phase (judged sent phase step.reply)
  told timing Delayed h step old new asks known made = absurd cc
  told timing Resting h step old new asks known made = absurd cc
  told timing Idle h step old new asks known (chance, e) =
      let is : step.op ≡ read_status = cc in
      let (mid, drift, came, same) = by_step (Read 37 1 old) chance read_status step.op old step.reply new is e (read_step chance 37 1 old) in
      let endures : Endures old.firmware new.firmware = subst (λ (m : Module). Endures old.firmware m.firmware) (sym same) drift.endures in
      idle_judged (step ∷ h) new (untaken_more h step read_status old new is (λ f. omega (arith, f)) known endures) step.reply
  told timing (Filling at) h step old new asks known (chance, e) =
      let is : step.op ≡ filling sent at = cc in by (nat_lt at (length sent.body.items)) refl is
    where
      by : (b : Bool) → nat_lt at (length sent.body.items) ≡ b → step.op ≡ filling sent at → After (step ∷ h) new (Filling at) (judged sent (Filling at) step.reply)
      by true less is =
          let op : step.op ≡ piece sent at = is ∙ ap (λ (b : Bool). cond b (piece sent at) (head sent)) less in
          pieced h step old new at chance (ltb-true at (length sent.body.items) less) op known.0 known.1
          (by_step (ByStore chance (136 + at) (record { items = slice_range sent.body.items at (min (at + 8) (length sent.body.items)) }) old (AddsPiece at)) chance (piece sent at) step.op old step.reply new op e
          (piece_step chance at (record { items = slice_range sent.body.items at (min (at + 8) (length sent.body.items)) }) old))
      by false all is =
          let op : step.op ≡ head sent = is ∙ ap (λ (b : Bool). cond b (piece sent at) (head sent)) all in
          headed h step old new at chance (ltb-false at (length sent.body.items) all) op known.0 known.1
          (by_step (ByStore chance 130 (record { items = head_of sent }) old PutsHead) chance (head sent) step.op old step.reply new op e (head_step chance (record { items = head_of sent }) old))
  told timing Triggering h step old new asks known (chance, e) =
      let is : step.op ≡ trigger sent = cc in
      triggered h step old new chance is known.0 known.1
      (by_step (ByStore chance 128 (record { items = sent.id / 256 ∷ sent.id % 256 ∷ [] }) old (Takes chance)) chance (trigger sent) step.op old step.reply new is e
      (id_step chance (record { items = sent.id / 256 ∷ sent.id % 256 ∷ [] }) old))
  told timing Awaiting h step old new asks known (chance, e) =
      let is : step.op ≡ read_status = cc in
      let read_so = by_step (Read 37 1 old) chance read_status step.op old step.reply new is e (read_step chance 37 1 old) in
      late_after (step ∷ h) new Awaiting (judged sent Awaiting step.reply) tt (awaiting_late step.reply)
      (read_on h step read_status old new 37 1 is known read_so (λ answer shown. status_shown_own answer old (step.reply, new) shown read_so))
  told timing Counting h step old new asks known (chance, e) =
      let is : step.op ≡ read_count = cc in
      let read_so = by_step (Read 134 2 old) chance read_count step.op old step.reply new is e (read_step chance 134 2 old) in
      late_after (step ∷ h) new Counting (judged sent Counting step.reply) tt (counting_late step.reply)
      (read_on h step read_count old new 134 2 is known read_so (λ answer shown. count_shown_own answer old (step.reply, new) shown read_so))
  told timing (Reading count check) h step old new asks known (chance, e) =
      let is : step.op ≡ read_reply count = cc in
      let read_so = by_step (Read 136 (max 1 (min count 120)) old) chance (read_reply count) step.op old step.reply new is e (read_step chance 136 (max 1 (min count 120)) old) in
      late_after (step ∷ h) new (Reading count check) (judged sent (Reading count check) step.reply) tt (reading_late count check step.reply)
      (read_on h step (read_reply count) old new 136 (max 1 (min count 120)) is known read_so (λ answer shown. reply_shown_own count answer old (step.reply, new) shown read_so))
  told timing (Checking at) h step old new asks known (chance, e) =
      let is : step.op ≡ read_back sent at = cc in
      let count = max 1 (min at (length sent.body.items)) in
      let (mid, drift, came, same) = by_step (Read 136 count old) chance (read_back sent at) step.op old step.reply new is e (read_step chance 136 count old) in
      let to : Drifts old new = subst (λ (m : Module). Drifts old m) (sym same) drift in
      back_judged (step ∷ h) new at (untaken_more h step (read_back sent at) old new is (λ f. omega (arith, f)) known.0 to.endures, body_drifts sent.body.items at old new to known.1) step.reply

  -- ---- all events

  settles : (h : History) (new : Module) (phase : Phase) (j : Judgement) → After h new phase j → KnownBy h new (phase_after phase j) (outcome_after None j)
  settles h new phase (On later) after = after
  settles h new phase Again after = after
  settles h new phase (Ends outcome) after = after

  loosely : (h : History) (new : Module) (phase : Phase) → Known h new phase → Untaken h new ⊎ WasTaken h new
  loosely h new Delayed known = inl known
  loosely h new Idle known = inl known
  loosely h new (Filling at) known = inl known.0
  loosely h new Triggering known = inl known.0
  loosely h new Resting known = inr known
  loosely h new Awaiting known = inr known
  loosely h new Counting known = inr known
  loosely h new (Reading count check) known = inr known
  loosely h new (Checking at) known = inl known.0

  either : (h : History) (new : Module) (phase : Phase) (outcome : Option Outcome) → KnownBy h new phase outcome → Untaken h new ⊎ WasTaken h new
  either h new phase None known = loosely h new phase known
  either h new phase (Some outcome) known = known

  rests : (h : History) (new : Module) (phase : Phase) → Known h new phase → Known h new (phase_rested phase)
  rests h new Delayed known = known
  rests h new Idle known = known
  rests h new (Filling at) known = known
  rests h new Triggering known = known
  rests h new Resting known = known
  rests h new Awaiting known = known
  rests h new Counting known = known
  rests h new (Reading count check) known = known
  rests h new (Checking at) known = known

  rests_by : (h : History) (new : Module) (phase : Phase) (outcome : Option Outcome) → KnownBy h new phase outcome → KnownBy h new (phase_rested phase) outcome
  rests_by h new phase None known = rests h new phase known
  rests_by h new phase (Some outcome) known = known

  is_about : (timing : Timing) (own : Events) → (attempt_after sent timing own).message ≡ sent
  is_about timing [] = refl
  is_about timing (Made step ∷ before) = is_about timing before
  is_about timing (Waited time ∷ before) = is_about timing before
  is_about timing (Lacked page ∷ before) = is_about timing before
  is_about timing (Asked number ∷ before) = is_about timing before

  made_by : (attempt : Attempt) (outcome : Option Outcome) (h : History) (step : Step) (old next new : Module) → attempt.message ≡ sent → wants_by attempt outcome ≡ Do step.op
      → KnownBy h old attempt.phase outcome → MayStep old step next → Drifts next new
      → KnownBy (step ∷ h) new (phase_after attempt.phase (judged attempt.message attempt.phase step.reply)) (outcome_after outcome (judged attempt.message attempt.phase step.reply))
  made_by attempt (Some outcome) h step old next new is asks known made drift = absurd cc
  made_by attempt None h step old next new is asks known made drift =
      subst (λ (m : Message). KnownBy (step ∷ h) new (phase_after attempt.phase (judged m attempt.phase step.reply)) (outcome_after None (judged m attempt.phase step.reply))) (sym is)
      (settles (step ∷ h) new attempt.phase (judged sent attempt.phase step.reply)
      (after_on (step ∷ h) next new attempt.phase (judged sent attempt.phase step.reply) drift
      (told attempt.timing attempt.phase h step old next (subst (λ (m : Message). next_at m attempt.timing attempt.phase ≡ Do step.op) is asks) known made)))

  known_after : (timing : Timing) (own : Events) (new : Module) → EachIsWanted sent timing own → Course start own new
      → KnownBy (steps_of own) new (attempt_after sent timing own).phase (attempt_after sent timing own).outcome
  known_after timing [] new each drift = cond_both (timing.delay == 0) Idle Delayed (Known [] new) (λ e. (tt, drift.endures)) (λ e. (tt, drift.endures))
  known_after timing (Made step ∷ before) new (asks, fits, each) (mid, next, course, made, drift) =
      let attempt = attempt_after sent timing before in
      made_by attempt attempt.outcome (steps_of before) step mid next new (is_about timing before) asks (known_after timing before mid each course) made drift
  known_after timing (Waited time ∷ before) new (asks, each) course =
      let attempt = attempt_after sent timing before in
      rests_by (steps_of before) new attempt.phase attempt.outcome (known_after timing before new each course)
  known_after timing (Lacked page ∷ before) new (needs, each) course =
      let attempt = attempt_after sent timing before in
      either (steps_of before) new attempt.phase attempt.outcome (known_after timing before new each course)
  known_after timing (Asked number ∷ before) new each course = known_after timing before new each course

  leaves : (answer : Answer) (last : Firmware) → Rests answer last → Leaves answer last
  leaves answer last (inl rest) = inl rest
  leaves answer last (inr (none, loses)) = inr (none, inl loses)

  stands_by : (h : History) (new : Module) → Untaken h new ⊎ WasTaken h new → StandsAfter conduct sent start.firmware h new.firmware
  stands_by h new (inl none) = inl none
  stands_by h new (inr (before, answer, endures, has, rests_so, shown)) = inr (before, answer, endures, has, leaves answer new.firmware rests_so)

  -- the premise holds after each of them
  pub stands : (timing : Timing) (own : Events) (new : Module) → EachIsWanted sent timing own → Course start own new → StandsAfter conduct sent start.firmware (steps_of own) new.firmware
  stands timing own new each course =
      let attempt = attempt_after sent timing own in
      stands_by (steps_of own) new (either (steps_of own) new attempt.phase attempt.outcome (known_after timing own new each course))
