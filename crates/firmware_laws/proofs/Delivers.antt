-- What is presumed of a module at the bus can be met: each message can be delivered.
use Rattle.std.proofs.Common.{◌≡◌, ◌<◌, ◌≤◌, ◌+◌, ◌==◌, ℕ, zero, suc, nat_le, nat_lt, Bool, true, false, cond, if◌then◌else◌, List, [], ◌∷◌, length, Option, Some, None, refl, sym, ap, inl, inr, ◌∙◌, arith}
use Rattle.std.specs.Prelude.{max, min, sum}
use Rattle.std.proofs.lemmas.Bool.{and_from, eq-eqb, le-leb, le-ltb, lt-ltb, ltb-false, ltb-true}
use Rattle.arrayvec.specs.ArrayVec.{ArrayVec}
use Rattle.bus_model.specs.declared.operation.Op.{Op}
use Rattle.bus_model.specs.declared.operation.Op.TheVariants.{Fetch, Store}
use Rattle.bus_model.specs.declared.operation.Reply.{Reply}
use Rattle.bus_model.specs.declared.operation.Reply.TheVariants.{Bytes, Done, Refused}
use Rattle.bus_model.specs.declared.operation.Step.{Step}
use Rattle.bus_model.specs.Operations.{Answers}
use Rattle.command_block.specs.declared.attempt.Attempt.{Attempt}
use Rattle.command_block.specs.declared.attempt.Phase.{Phase}
use Rattle.command_block.specs.declared.attempt.Phase.TheVariants.{Delayed, Idle, Filling, Triggering, Resting, Awaiting, Counting, Reading}
use Rattle.command_block.specs.declared.attempt.Timing.{Timing}
use Rattle.command_block.specs.declared.judgement.Judgement.{Judgement}
use Rattle.command_block.specs.declared.judgement.Judgement.TheVariants.{On, Again, Ends}
use Rattle.command_block.specs.declared.message.Message.{Message}
use Rattle.command_block.specs.declared.outcome.Outcome.{Outcome}
use Rattle.command_block.specs.declared.outcome.Outcome.TheVariants.{Failed, Succeeded, Unknown, Unsent}
use Rattle.command_block.specs.AttemptEvents.{EachIsWanted, attempt_after}
use Rattle.command_block.specs.Attempts.{Gives}
use Rattle.command_block.specs.Messages.{complement}
use Rattle.command_block.specs.Operations.{head, piece, read_count, read_reply, read_status, trigger}
use Rattle.command_block.specs.Phases.{by_status, filling, judged, next_at, outcome_after, rested, settled, taken, wants}
use Rattle.conversations.specs.declared.event.Event.TheVariants.{Made, Waited}
use Rattle.conversations.specs.declared.next.Next.TheVariants.{Do}
use Rattle.conversations.specs.Events.{Events, steps_of}
use Rattle.firmware_laws.specs.AtTheBus.{BeginsWithStatus, ShowsItsOwn, StandsAfter}
use Rattle.firmware_laws.specs.Modules.{Conduct, Firmware}

abbrev fetched_at : Op → ℕ
fetched_at (Fetch dev offset count) = offset
fetched_at (Store dev offset bytes) = 0

abbrev first : List ℕ → ℕ
first [] = 0
first (byte ∷ bytes) = byte

abbrev status_in : Reply → ℕ
status_in (Bytes bytes) = first bytes.items
status_in Done = 0
status_in Refused = 0

abbrev shows : ℕ → Step
shows status = record { op = read_status; reply = Bytes (record { items = status ∷ [] }) }

abbrev counts : ℕ → ℕ → Step
counts count check = record { op = read_count; reply = Bytes (record { items = count ∷ check ∷ [] }) }

abbrev replies : ArrayVec ℕ → Step
replies reply = record { op = read_reply (length reply.items); reply = Bytes reply }

abbrev bytes_in : Reply → List ℕ
bytes_in (Bytes bytes) = bytes.items
bytes_in Done = []
bytes_in Refused = []

abbrev reply_in : Option Outcome → List ℕ
reply_in (Some (Succeeded reply)) = reply.items
reply_in (Some (Failed code)) = []
reply_in (Some Unsent) = []
reply_in (Some Unknown) = []
reply_in None = []

abbrev took : Op → Step
took op = record { op = op; reply = Done }

abbrev empty : ArrayVec ℕ
empty = record { items = [] }

begun_more : (status : ℕ) (step : Step) (steps : List Step) → BeginsWithStatus status steps → BeginsWithStatus status (step ∷ steps)
begun_more status step steps (later, first, split, gives) = (step ∷ later, first, ap (λ (steps : List Step). step ∷ steps) split, gives)

module _ (sent : Message) (timing : Timing) where
  abbrev in_phase : Phase → Attempt
  in_phase phase = record { message = sent; timing = timing; phase = phase; outcome = None }

  -- by these events an attempt comes into this phase
  record IsIn (own : Events) (phase : Phase) : Type 0 where
    is : attempt_after sent timing own ≡ in_phase phase
    each : EachIsWanted sent timing own

  made : (own : Events) (phase later : Phase) (step : Step) → IsIn own phase → next_at sent timing phase ≡ Do step.op → Answers step.op step.reply → judged sent phase step.reply ≡ On later → IsIn (Made step ∷ own) later
  made own phase later step at asks answers judges = record {
    is = ap (λ (a : Attempt). taken a step.reply) at.is ∙ ap (λ (j : Judgement). settled (in_phase phase) j) judges;
    each = (ap wants at.is ∙ asks, answers, at.each);
  }

  -- the delay passes, if there is one
  begins : (own : Events) × IsIn own Idle × (steps_of own ≡ [])
  begins = by (timing.delay == 0) refl where
    by : (b : Bool) → (timing.delay == 0) ≡ b → (own : Events) × IsIn own Idle × (steps_of own ≡ [])
    by true e = ([], record { is = ap (λ (b : Bool). in_phase (if b then Idle else Delayed)) e; each = tt }, refl)
    by false e =
        let first : attempt_after sent timing [] ≡ in_phase Delayed = ap (λ (b : Bool). in_phase (if b then Idle else Delayed)) e in
        (Waited timing.delay ∷ [], record { is = ap rested first; each = (ap wants first, tt) }, refl)

  piece_op : (at : ℕ) → at < length sent.body.items → filling sent at ≡ piece sent at
  piece_op at less = ap (λ (b : Bool). cond b (piece sent at) (head sent)) (lt-ltb at (length sent.body.items) less)

  head_op : (at : ℕ) → length sent.body.items ≤ at → filling sent at ≡ head sent
  head_op at less = ap (λ (b : Bool). cond b (piece sent at) (head sent)) (le-ltb at (length sent.body.items) less)

  -- each piece of the body is stored, from this byte on
  abbrev IsFilled : ℕ → Type 0
  IsFilled status = (end : ℕ) × (later : Events) × IsIn later (Filling end) × BeginsWithStatus status (steps_of later) × (length sent.body.items ≤ end)

  fills : (status fuel at : ℕ) (own : Events) → IsIn own (Filling at) → BeginsWithStatus status (steps_of own) → length sent.body.items ≤ at + fuel → IsFilled status
  fills status zero at own here begun few = (at, own, here, begun, omega (arith, few))
  fills status (suc fuel) at own here begun few =
      by (nat_lt at (length sent.body.items)) refl
      (λ e. fills status fuel (at + 8) (Made (took (piece sent at)) ∷ own)
      (made own (Filling at) (Filling (at + 8)) (took (piece sent at)) here (ap (λ (o : Op). Do o) (piece_op at (ltb-true at (length sent.body.items) e))) tt (ap (λ (b : Bool). if b then On (Filling (at + 8)) else On Triggering) e))
      (begun_more status (took (piece sent at)) (steps_of own) begun) (omega (arith, few)))
    where
      by : (b : Bool) → nat_lt at (length sent.body.items) ≡ b → (nat_lt at (length sent.body.items) ≡ true → IsFilled status) → IsFilled status
      by true e next = next e
      by false e next = (at, own, here, begun, ltb-false at (length sent.body.items) e)

  idle_judged : (status : ℕ) → status < 128 → judged sent Idle (shows status).reply ≡ On (Filling 0)
  idle_judged status few = ap (λ (b : Bool). if b then On (Filling 0) else Again) (lt-ltb status 128 few)

  done_judged : (at : ℕ) → length sent.body.items ≤ at → judged sent (Filling at) Done ≡ On Triggering
  done_judged at all = ap (λ (b : Bool). if b then On (Filling (at + 8)) else On Triggering) (le-ltb at (length sent.body.items) all)

  -- then the header and the id, and after the rest the status shows success
  triggered : (status : ℕ) → status < 128 → (own : Events) × IsIn own Triggering × BeginsWithStatus status (steps_of own)
  triggered status few =
      let (first, idle, none) = begins in
      let full = made first Idle (Filling 0) (shows status) idle refl refl (idle_judged status few) in
      let begun : BeginsWithStatus status (shows status ∷ steps_of first) = ([], shows status, ap (λ (steps : List Step). shows status ∷ steps) none, (refl, refl)) in
      let (end, later, here, so, all) = fills status (length sent.body.items) 0 (Made (shows status) ∷ first) full begun (omega arith) in (
        Made (took (head sent)) ∷ later,
        made later (Filling end) Triggering (took (head sent)) here (ap (λ (o : Op). Do o) (head_op end all)) tt (done_judged end all),
        begun_more status (took (head sent)) (steps_of later) so,
      )

  awaited : (own : Events) → IsIn own Triggering → IsIn (Waited timing.rest ∷ Made (took (trigger sent)) ∷ own) Awaiting
  awaited own here =
      let resting = made own Triggering Resting (took (trigger sent)) here refl tt refl in
      record { is = ap rested resting.is; each = (ap wants resting.is, resting.each) }

  success_judged : sent.replies ≡ false → judged sent Awaiting (shows 1).reply ≡ Ends (Succeeded empty)
  success_judged silent = ap (λ (b : Bool). by_status b 1) silent

  -- where a reply is expected, its length and check code are read, and then the reply
  reply_judged : sent.replies ≡ true → judged sent Awaiting (shows 1).reply ≡ On Counting
  reply_judged must = ap (λ (b : Bool). by_status b 1) must

  count_judged : (count check : ℕ) → 0 < count → count ≤ 120 → judged sent Counting (counts count check).reply ≡ On (Reading count check)
  count_judged count check some most =
      ap (λ (b : Bool). if b then On (Reading count check) else Again) (and_from (nat_lt 0 count) (nat_le count 120) (lt-ltb 0 count some) (le-leb count 120 most))

  bytes_judged : (reply : ArrayVec ℕ) → length reply.items ≤ 120 → judged sent (Reading (length reply.items) (complement (sum reply.items))) (Bytes reply) ≡ Ends (Succeeded reply)
  bytes_judged reply most =
      ap (λ (b : Bool). if b then Ends (Succeeded reply) else On Resting)
      (and_from (nat_le (length reply.items) 128) (complement (sum reply.items) == complement (sum reply.items)) (le-leb (length reply.items) 128 (omega (arith, most))) (eq-eqb (complement (sum reply.items)) (complement (sum reply.items)) refl))

  reply_fits : (count : ℕ) → 0 < count → count ≤ 120 → count ≡ max 1 (min count 120)
  reply_fits count some most = omega (arith, some, most)

  module _ (conduct : Conduct) (before : Firmware) (reply : ArrayVec ℕ) (e : (conduct sent 0 before).outcome ≡ Some (Succeeded reply)) where
    one_status : (status : ℕ) → Gives read_status (status ∷ []) (shows 1) → status ≡ 1
    one_status status gives = sym (ap (λ (r : Reply). status_in r) gives.1)

    own_status : ShowsItsOwn (conduct sent 0 before) (shows 1)
    own_status = record {
      status = λ status gives final. (Succeeded reply, e, one_status status gives);
      length = λ count check gives some. absurd (let clash : 37 ≡ 134 = ap (λ (o : Op). fetched_at o) gives.0 in omega (arith, clash));
      reply = λ other bytes is gives. absurd (let clash : 37 ≡ 136 = ap (λ (o : Op). fetched_at o) gives.0 in omega (arith, clash));
    }

    own_count : ShowsItsOwn (conduct sent 0 before) (counts (length reply.items) (complement (sum reply.items)))
    own_count = record {
      status = λ status gives final. absurd (let clash : 134 ≡ 37 = ap (λ (o : Op). fetched_at o) gives.0 in omega (arith, clash));
      length = λ count check gives some. (reply, e, sym (ap (λ (r : Reply). status_in r) gives.1));
      reply = λ other bytes is gives. absurd (let clash : 134 ≡ 136 = ap (λ (o : Op). fetched_at o) gives.0 in omega (arith, clash));
    }

    own_reply : ShowsItsOwn (conduct sent 0 before) (replies reply)
    own_reply = record {
      status = λ status gives final. absurd (let clash : 136 ≡ 37 = ap (λ (o : Op). fetched_at o) gives.0 in omega (arith, clash));
      length = λ count check gives some. absurd (let clash : 136 ≡ 134 = ap (λ (o : Op). fetched_at o) gives.0 in omega (arith, clash));
      reply = λ other bytes is gives. sym (ap (λ (r : Reply). bytes_in r) gives.1) ∙ ap (λ (o : Option Outcome). reply_in o) (sym e ∙ is);
    }

    -- whatever the status shows before
    pub delivers : (status : ℕ) → status < 128 → sent.replies ≡ false
        → (own : Events) × EachIsWanted sent timing own × BeginsWithStatus status (steps_of own) × ((attempt_after sent timing own).outcome ≡ Some (Succeeded empty))
        × StandsAfter conduct sent before (steps_of own) (conduct sent 0 before).after
    delivers status few silent =
        let (earlier, here, begun) = triggered status few in
        let now = awaited earlier here in
        let own : Events = Waited timing.rest ∷ Made (took (trigger sent)) ∷ earlier in (
          Made (shows 1) ∷ own,
          (ap wants now.is, refl, now.each),
          begun_more status (shows 1) (took (trigger sent) ∷ steps_of earlier) (begun_more status (took (trigger sent)) (steps_of earlier) begun),
          ap (λ (a : Attempt). (taken a (shows 1).reply).outcome) now.is ∙ ap (λ (j : Judgement). outcome_after None j) (success_judged silent),
          inr (before, conduct sent 0 before, inl refl, inr (own_status, inl (refl, (0, refl))), inl (Succeeded reply, e, inl refl)),
        )

    pub delivers_reply : (status : ℕ) → status < 128 → sent.replies ≡ true → 0 < length reply.items → length reply.items ≤ 120
        → (own : Events) × EachIsWanted sent timing own × BeginsWithStatus status (steps_of own) × ((attempt_after sent timing own).outcome ≡ Some (Succeeded reply))
        × StandsAfter conduct sent before (steps_of own) (conduct sent 0 before).after
    delivers_reply status few must some most =
        let count = length reply.items in
        let check = complement (sum reply.items) in
        let (earlier, here, begun) = triggered status few in
        let now = awaited earlier here in
        let first : Events = Waited timing.rest ∷ Made (took (trigger sent)) ∷ earlier in
        let counting = made first Awaiting Counting (shows 1) now refl refl (reply_judged must) in
        let reading = made (Made (shows 1) ∷ first) Counting (Reading count check) (counts count check) counting refl refl (count_judged count check some most) in
        let own : Events = Made (counts count check) ∷ Made (shows 1) ∷ first in (
          Made (replies reply) ∷ own,
          (ap wants reading.is, reply_fits count some most, reading.each),
          begun_more status (replies reply) (counts count check ∷ shows 1 ∷ took (trigger sent) ∷ steps_of earlier)
              (begun_more status (counts count check) (shows 1 ∷ took (trigger sent) ∷ steps_of earlier)
              (begun_more status (shows 1) (took (trigger sent) ∷ steps_of earlier) (begun_more status (took (trigger sent)) (steps_of earlier) begun))),
          ap (λ (a : Attempt). (taken a (Bytes reply)).outcome) reading.is ∙ ap (λ (j : Judgement). outcome_after None j) (bytes_judged reply most),
          inr (before, conduct sent 0 before, inl refl, inr (own_reply, inr (own_count, inr (own_status, inl (refl, (0, refl))))), inl (Succeeded reply, e, inl refl)),
        )
