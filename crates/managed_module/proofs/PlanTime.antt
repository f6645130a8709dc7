-- Nothing takes too long where the patience lasts for as many pauses as operations are made.
use Rattle.std.proofs.Common.{◌≡◌, ℕ, suc, ◌+◌, ◌*◌, ◌≤◌, ◌<◌, Bool, true, false, Option, Some, None, nat_lt, refl, sym, ap, ◌∙◌, if◌then◌else◌, arith}
use Rattle.std.proofs.Math.Nat.{mul-le-mul_right, suc-mul}
use Rattle.std.proofs.lemmas.Bool.Decides.{nat_tests}
use Rattle.std.proofs.lemmas.Bool.{lt-ltb}
use Rattle.bus_model.specs.declared.operation.Op.{Op}
use Rattle.bus_model.specs.declared.operation.Reply.{Reply}
use Rattle.conversations.specs.declared.next.Next.{Next}
use Rattle.conversations.specs.declared.next.Next.TheVariants.{Do, End, Wait}
use Rattle.conversations.specs.declared.pausing.Patience.{Patience}
use Rattle.conversations.specs.declared.pausing.Timed.{Timed}
use Rattle.conversations.specs.declared.pausing.Timed.TheVariants.{InTime, Overdue}
use Rattle.conversations.specs.declared.within.Spent.{Spent}
use Rattle.conversations.specs.Budgets.{next_within}
use Rattle.conversations.specs.Pauses.{counted, idle_after, is_fruitless_in, is_selecting_in, next_pausing}
use Rattle.conversations.specs.Wanted.{op_of}
use Rattle.control_sets.specs.OutcomeAnswers.{most_steps}
use Rattle.port_manager.specs.Patients.{Patient, advanced, pause_after, pause_in, replied, rested, rested_if, wants_of}

idle_less : (fruitless selecting : Bool) (idle : ℕ) → idle_after fruitless selecting idle ≤ idle
idle_less true selecting idle = omega arith
idle_less false true idle = omega arith
idle_less false false idle = omega arith

counted_less : (time : ℕ) → counted time ≤ time
counted_less time = omega arith

-- so many operations were made at most, and it was idle for no longer than a pause for each
pub record HasTime {C : Type 0} (granted : Patience) (made : ℕ) (patient : Patient C) : Type 0 where
  pub steps : patient.steps ≤ made
  pub limit : patient.limit ≡ most_steps
  pub idle : patient.conversation.idle ≤ patient.steps * granted.pause
  pub patience : patient.conversation.patience ≡ granted

-- sums of products
pub through : (one other last : ℕ) → one ≤ other → other ≤ last → one ≤ last
through one other last few more = omega (arith, few, more)

one_pause : (idle before pause more : ℕ) → idle ≤ before → more ≡ before + pause → idle ≤ more
one_pause idle before pause more few is = omega (arith, few, is)

after_pause : (rested idle before pause more : ℕ) → rested ≤ idle + pause → idle ≤ before → more ≡ before + pause → rested ≤ more
after_pause rested idle before pause more few less is = omega (arith, few, less, is)

one_more : (steps pause : ℕ) → (steps + 1) * pause ≡ steps * pause + pause
one_more steps pause = let is : steps + 1 ≡ suc steps = omega arith in ap (λ (n : ℕ). n * pause) is ∙ suc-mul steps pause

module _ {C E : Type 0} (wants : C → Next E) (after : C → Reply → C) (granted : Patience) (made : ℕ) (patient : Patient C) (reply : Reply) (time : HasTime granted made patient) where
  abbrev later : Patient C
  later = replied wants after patient reply

  later_idle : later.conversation.idle ≤ patient.steps * granted.pause
  later_idle =
      let asked = op_of (wants patient.conversation.conversation) in
      let less = idle_less (is_fruitless_in asked reply (op_of (wants later.conversation.conversation))) (is_selecting_in asked) patient.conversation.idle in
      through later.conversation.idle patient.conversation.idle (patient.steps * granted.pause) less time.idle

  rested_time : (pause : Option ℕ) → HasTime granted (made + 1) (rested_if pause later)
  rested_time None = record { steps = omega (arith, time.steps); limit = time.limit; idle = one_pause later.conversation.idle (patient.steps * granted.pause) granted.pause ((patient.steps + 1) * granted.pause) later_idle (one_more patient.steps granted.pause); patience = time.patience }
  rested_time (Some pause) =
      let same : patient.conversation.patience.pause ≡ granted.pause = ap (λ (p : Patience). p.pause) time.patience in
      let rested_idle = counted (later.conversation.idle + patient.conversation.patience.pause) in
      let few : rested_idle ≤ later.conversation.idle + granted.pause = omega (arith, counted_less (later.conversation.idle + patient.conversation.patience.pause), same) in
      record {
        steps = omega (arith, time.steps);
        limit = time.limit;
        idle = after_pause rested_idle later.conversation.idle (patient.steps * granted.pause) granted.pause ((patient.steps + 1) * granted.pause) few later_idle (one_more patient.steps granted.pause);
        patience = time.patience;
      }

  pub advanced_time : HasTime granted (made + 1) (advanced wants after patient reply)
  advanced_time = rested_time (pause_after wants after patient reply)

  -- ---- it ends in time

  module _ (fewer : made + 1 < most_steps) (pauses : made * granted.pause ≤ granted.limit) where
    not_late : nat_lt later.conversation.patience.limit later.conversation.idle ≡ false
    not_late =
        let few = mul-le-mul_right granted.pause time.steps in
        let same : later.conversation.patience.limit ≡ granted.limit = ap (λ (p : Patience). p.limit) time.patience in
        let granted_few = through (patient.steps * granted.pause) (made * granted.pause) granted.limit few pauses in
        let idle_few = through later.conversation.idle (patient.steps * granted.pause) granted.limit later_idle granted_few in
        let not : later.conversation.idle ≤ later.conversation.patience.limit = omega (arith, idle_few, same) in
        grind (arith, nat_tests, not)

    not_many : nat_lt later.steps later.limit ≡ true
    not_many = let few : later.steps < later.limit = omega (arith, fewer, time.steps, time.limit) in lt-ltb later.steps later.limit few

    abbrev next_as : ℕ → Bool → Next E → Next (Spent (Timed E))
    next_as idle due wanted = next_within later.steps later.limit (next_pausing due idle later.conversation.patience wanted)

    abbrev unless_many : Bool → Op → Next (Spent (Timed E))
    unless_many few op = if few then Do op else End (record { steps = later.steps; end = None })

    does : (idle : ℕ) (op : Op) → next_as idle false (Do op) ≡ Do op
    does idle op = ap (λ (few : Bool). unless_many few op) not_many

    abbrev unless_late : Bool → Next (Timed E)
    unless_late late = if late then End Overdue else Wait later.conversation.patience.pause

    pauses_first : (op : Op) → next_as later.conversation.idle true (Do op) ≡ Wait later.conversation.patience.pause
    pauses_first op = ap (λ (late : Bool). next_within later.steps later.limit (unless_late late)) not_late

    abbrev next : Next (Spent (Timed E))
    next = wants_of wants (advanced wants after patient reply)

    -- by what it wants first, and after a pause if that is due
    by_first : (first : Next (Spent (Timed E))) → wants_of wants later ≡ first → next ≡ wants_of wants (rested_if (pause_in first) later)
    by_first first e = ap (λ (n : Next (Spent (Timed E))). wants_of wants (rested_if (pause_in n) later)) e

    wanted_is : (due : Bool) (wanted : Next E) → wants later.conversation.conversation ≡ wanted → later.conversation.due ≡ due → wants_of wants later ≡ next_as later.conversation.idle due wanted
    wanted_is due wanted w d = ap (next_as later.conversation.idle later.conversation.due) w ∙ ap (λ (due : Bool). next_as later.conversation.idle due wanted) d

    rested_is : (wanted : Next E) → wants later.conversation.conversation ≡ wanted → wants_of wants (rested later) ≡ next_as (rested later).conversation.idle false wanted
    rested_is wanted w = ap (next_as (rested later).conversation.idle false) w

    goes_on : (due : Bool) (op : Op) → wants later.conversation.conversation ≡ Do op → later.conversation.due ≡ due → next ≡ Do op
    goes_on true op w d = by_first (Wait later.conversation.patience.pause) (wanted_is true (Do op) w d ∙ pauses_first op) ∙ rested_is (Do op) w ∙ does (rested later).conversation.idle op
    goes_on false op w d = by_first (Do op) (wanted_is false (Do op) w d ∙ does later.conversation.idle op) ∙ wanted_is false (Do op) w d ∙ does later.conversation.idle op

    pub in_time : (wanted : Next E) → wants later.conversation.conversation ≡ wanted → ((wait : ℕ) → wanted ≡ Wait wait → ⊥) → (spent : Spent (Timed E)) → next ≡ End spent → (end : E) × (spent.end ≡ Some (InTime end))
    in_time (Do op) w never spent e = absurd (let wrong : Do op ≡ End spent = sym (goes_on later.conversation.due op w refl) ∙ e in cc)
    in_time (Wait wait) w never spent e = absurd (never wait refl)
    in_time (End end) w never spent e =
        let ended : Spent (Timed E) = record { steps = later.steps; end = Some (InTime end) } in
        let first : wants_of wants later ≡ End ended = wanted_is later.conversation.due (End end) w refl in
        let is : End ended ≡ End spent = sym (by_first (End ended) first ∙ first) ∙ e in
        let same : ended ≡ spent = cc in
        (end, ap (λ (s : Spent (Timed E)). s.end) (sym same))
