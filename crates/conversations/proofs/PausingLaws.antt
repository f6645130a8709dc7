-- A conversation that pauses: what is wanted, and what it is told.
use Rattle.std.proofs.Common.{◌≡◌, ◌≤◌, ◌<◌, ◌+◌, ◌||◌, ℕ, Bool, true, false, [], ◌∷◌, Option, Some, None, refl, ap, subst, sym, ◌∙◌, ◌-◌, ◌*◌, ◌^◌, inl, inr, nat_lt, lt-ltb, if◌then◌else◌, arith}
use Rattle.std.proofs.lemmas.Bool.{ltb-false, ltb-true}
use Rattle.bus_model.specs.declared.operation.Op.{Op}
use Rattle.conversations.specs.declared.event.Event.TheVariants.{Asked, Lacked, Made, Waited}
use Rattle.conversations.specs.declared.next.Next.{Next}
use Rattle.conversations.specs.declared.next.Next.TheVariants.{Do, Wait, End}
use Rattle.conversations.specs.declared.pausing.Patience.{Patience}
use Rattle.conversations.specs.declared.pausing.Timed.{Timed}
use Rattle.conversations.specs.declared.pausing.Timed.TheVariants.{InTime, Overdue}
use Rattle.conversations.specs.Events.{Events, steps_of}
use Rattle.conversations.specs.Pauses.{AddsPauses, AreMade, AreSpaced, EndsPausing, GoesOnPausing, at_least, counted, is_fruitless, is_refused, is_selecting, idle_after, must_wait, next_pausing, paused_for, was_refused}
use Rattle.conversations.specs.Wanted.{op_of}

by_limit : {E : Type 0} (late : Bool) (pause : ℕ) (op : Op) → ◌≡◌ {A = Next (Timed E)} (if late then End Overdue else Wait pause) (Do op) → ⊥
by_limit true pause op e = absurd cc
by_limit false pause op e = absurd cc

-- an operation is wanted where no pause is due
pub pausing_do : {E : Type 0} (due : Bool) (idle : ℕ) (patience : Patience) (wanted : Next E) (op : Op) → next_pausing due idle patience wanted ≡ Do op → (due ≡ false) × (wanted ≡ Do op)
pausing_do true idle patience (Do other) op e = absurd (by_limit (nat_lt patience.limit idle) patience.pause op e)
pausing_do false idle patience (Do other) op e = (refl, cc)
pausing_do due idle patience (Wait time) op e = absurd cc
pausing_do due idle patience (End end) op e = absurd cc

due_by : {E : Type 0} (late : Bool) (idle time : ℕ) (patience : Patience) → nat_lt patience.limit idle ≡ late → ◌≡◌ {A = Next (Timed E)} (if late then End Overdue else Wait patience.pause) (Wait time) → (idle ≤ patience.limit) × (time ≡ patience.pause)
due_by true idle time patience late e = absurd cc
due_by false idle time patience late e = (ltb-false patience.limit idle late, cc)

-- a wait before an operation is a pause that is due
pub due_wait : {E : Type 0} (due : Bool) (idle : ℕ) (patience : Patience) (wanted : Next E) (op : Op) (time : ℕ) → op_of wanted ≡ Some op → next_pausing due idle patience wanted ≡ Wait time →
    (due ≡ true) × (idle ≤ patience.limit) × (time ≡ patience.pause)
due_wait true idle patience (Do other) op time some e = let (few, long) = due_by (nat_lt patience.limit idle) idle time patience refl e in (refl, few, long)
due_wait false idle patience (Do other) op time some e = absurd cc
due_wait due idle patience (Wait other) op time some e = absurd cc
due_wait due idle patience (End end) op time some e = absurd cc

-- and another is one of its own
pub own_wait : {E : Type 0} (due : Bool) (idle : ℕ) (patience : Patience) (wanted : Next E) (time : ℕ) → op_of wanted ≡ None → next_pausing due idle patience wanted ≡ Wait time →
    (asked : ℕ) × (wanted ≡ Wait asked) × (time ≡ at_least patience.pause asked)
own_wait due idle patience (Do op) time none e = absurd cc
own_wait due idle patience (Wait asked) time none e = (asked, refl, cc)
own_wait due idle patience (End end) time none e = absurd cc

-- ---- no two polls without a pause

or_false : (a b : Bool) → (a || b) ≡ false → a ≡ false
or_false true b e = e
or_false false b e = refl

least : (pause time : ℕ) → pause ≤ at_least pause time
least pause time = by (nat_lt time pause) refl where
  by : (shorter : Bool) → nat_lt time pause ≡ shorter → pause ≤ (if shorter then pause else time)
  by true e = omega arith
  by false e = let long = ltb-false time pause e in omega (arith, long)

not_refused : (patience : Patience) (own events : Events) (wanted : Option Op) (idle : ℕ) → AddsPauses patience own events wanted false idle → was_refused events ≡ false
not_refused patience own [] wanted idle adds = refl
not_refused patience own (Made step ∷ before) wanted idle (earlier, was, is, adds, due, counts) = or_false (is_refused step.reply) _ (sym due)
not_refused patience own (Waited time ∷ before) wanted idle adds = refl
not_refused patience own (Lacked page ∷ before) wanted idle none = absurd none
not_refused patience own (Asked number ∷ before) wanted idle (earlier, asked, is, adds) = not_refused patience earlier before asked idle adds

none_due : (patience : Patience) (own events : Events) (op : Op) (idle : ℕ) → AddsPauses patience own events (Some op) false idle → must_wait op events ≡ false
none_due patience own [] op idle adds = refl
none_due patience own (Made step ∷ before) op idle (earlier, was, is, adds, due, counts) = sym due
none_due patience own (Waited time ∷ before) op idle adds = refl
none_due patience own (Lacked page ∷ before) op idle none = absurd none
none_due patience own (Asked number ∷ before) op idle (earlier, asked, is, adds) = not_refused patience earlier before asked idle adds

pub spaced : (patience : Patience) (own events : Events) (wanted : Option Op) (due : Bool) (idle : ℕ) → AddsPauses patience own events wanted due idle → AreSpaced patience.pause events
spaced patience own [] wanted due idle adds = tt
spaced patience own (Made step ∷ before) wanted due idle (earlier, was, is, adds, is_due, counts) = (none_due patience earlier before step.op was adds, spaced patience earlier before (Some step.op) false was adds)
spaced patience own (Waited time ∷ before) wanted due idle (inl (op, was, is, adds, few, long, more, counts)) = (omega (arith, long), spaced patience own before wanted true was adds)
spaced patience own (Waited time ∷ before) wanted due idle (inr (earlier, asked, was, is, adds, long, none)) =
    (subst (λ (n : ℕ). patience.pause ≤ n) (sym long) (least patience.pause asked), spaced patience earlier before None was idle adds)
spaced patience own (Lacked page ∷ before) wanted due idle none = absurd none
spaced patience own (Asked number ∷ before) wanted due idle (earlier, asked, is, adds) = spaced patience earlier before asked due idle adds

pub ends_spaced : {E : Type 0} (patience : Patience) (Goes_on : Events → Type 0) (Ended : Events → E → Type 0) (events : Events) (end : Timed E) → EndsPausing patience Goes_on Ended events end → AreSpaced patience.pause events
ends_spaced patience Goes_on Ended events (InTime end) (due, idle, (own, adds, at)) = spaced patience own events None due idle adds
ends_spaced patience Goes_on Ended events Overdue (op, idle, late, (own, adds, at)) = spaced patience own events (Some op) true idle adds

pub goes_on_spaced : (patience : Patience) (Goes_on : Events → Type 0) (events : Events) → GoesOnPausing patience Goes_on events → AreSpaced patience.pause events
goes_on_spaced patience Goes_on events (op, idle, (own, adds, at)) = spaced patience own events (Some op) false idle adds

-- ---- deadlines

abbrev OverdueAt : {E : Type 0} → Bool → ℕ → Patience → Next E → Type 0
OverdueAt due idle patience wanted = (op : Op) × (wanted ≡ Do op) × (due ≡ true) × (patience.limit < idle)

late_by : {E : Type 0} (late : Bool) (idle : ℕ) (patience : Patience) → nat_lt patience.limit idle ≡ late → ◌≡◌ {A = Next (Timed E)} (if late then End Overdue else Wait patience.pause) (End Overdue) → patience.limit < idle
late_by true idle patience late e = ltb-true patience.limit idle late
late_by false idle patience late e = absurd cc

pub overdue_if : {E : Type 0} (due : Bool) (idle : ℕ) (patience : Patience) (wanted : Next E) → next_pausing due idle patience wanted ≡ End Overdue → OverdueAt due idle patience wanted
overdue_if true idle patience (Do op) e = (op, refl, refl, late_by (nat_lt patience.limit idle) idle patience refl e)
overdue_if false idle patience (Do op) e = absurd cc
overdue_if due idle patience (Wait time) e = absurd cc
overdue_if due idle patience (End end) e = absurd cc

pub overdue_from : {E : Type 0} (due : Bool) (idle : ℕ) (patience : Patience) (wanted : Next E) → OverdueAt due idle patience wanted → next_pausing due idle patience wanted ≡ End Overdue
overdue_from {E} due idle patience wanted (op, wants, is_due, late) =
    ap (next_pausing due idle patience) wants ∙ ap (λ (d : Bool). next_pausing {E = E} d idle patience (Do op)) is_due
    ∙ ap (λ (l : Bool). if l then End Overdue else Wait patience.pause) (lt-ltb patience.limit idle late)

pub idle_few : (patience : Patience) (own events : Events) (wanted : Option Op) (due : Bool) (idle : ℕ) → AddsPauses patience own events wanted due idle → idle ≤ 2 ^ 32 - 1
idle_few patience own [] wanted due idle (is, none, zero) = omega (arith, zero)
idle_few patience own (Made step ∷ before) wanted due idle (earlier, was, is, adds, is_due, counts) =
    subst (λ (n : ℕ). n ≤ 2 ^ 32 - 1) (sym counts) (by (due || is_selecting step.op) (idle_few patience earlier before (Some step.op) false was adds))
  where
    by : (kept : Bool) → was ≤ 2 ^ 32 - 1 → (if kept then was else 0) ≤ 2 ^ 32 - 1
    by true few = few
    by false few = omega arith
idle_few patience own (Waited time ∷ before) wanted due idle (inl (op, was, is, adds, few, long, none, counts)) = omega (arith, counts)
idle_few patience own (Waited time ∷ before) wanted due idle (inr (earlier, asked, was, is, adds, long, none)) = idle_few patience earlier before None was idle adds
idle_few patience own (Lacked page ∷ before) wanted due idle none = absurd none
idle_few patience own (Asked number ∷ before) wanted due idle (earlier, asked, is, adds) = idle_few patience earlier before asked due idle adds

-- ---- how many are fruitless

abbrev Bounded : Patience → Bool → ℕ → ℕ → Type 0
Bounded patience false time idle = (time ≤ patience.limit + patience.pause) × (idle ≤ patience.limit → time ≤ idle)
Bounded patience true time idle = (time ≤ patience.limit + 2 * patience.pause) × (idle ≤ patience.limit → time ≤ idle + patience.pause)

module _ (patience : Patience) (ends : patience.limit < 2 ^ 32 - 1) where
  made_by : (fruitless selecting : Bool) (time was : ℕ) → Bounded patience false time was →
      Bounded patience fruitless (if fruitless then patience.pause + time else (if selecting then time else 0)) (idle_after fruitless selecting was)
  made_by true selecting time was (all, few) = (omega (arith, all), λ less. let t = few less in omega (arith, t))
  made_by false true time was bounded = bounded
  made_by false false time was (all, few) = (omega arith, λ less. omega arith)

  waited_by : (time was : ℕ) → was ≤ patience.limit → Bounded patience true time was → Bounded patience false time (counted (was + patience.pause))
  waited_by time was less (all, few) = let t = few less in (omega (arith, t, less), λ fewer. omega (arith, t, fewer, ends))

  bounded : (own events : Events) (wanted : Option Op) (due : Bool) (idle : ℕ) → AreMade own → AddsPauses patience own events wanted due idle → Bounded patience due (paused_for patience.pause wanted (steps_of events)) idle
  bounded own [] wanted due idle are (is, none, zero) = subst (λ (d : Bool). Bounded patience d 0 idle) (sym none) (omega arith, λ less. omega arith)
  bounded own (Made step ∷ before) wanted due idle are (earlier, was, is, adds, is_due, counts) =
      let at = bounded earlier before (Some step.op) false was (subst AreMade is are) adds in
      let fruitless = is_fruitless step.op step.reply wanted in
      let time = paused_for patience.pause wanted (step ∷ steps_of before) in
      subst (λ (n : ℕ). Bounded patience due time n) (sym counts)
      (subst (λ (d : Bool). Bounded patience d time (idle_after d (is_selecting step.op) was)) (sym is_due) (made_by fruitless (is_selecting step.op) (paused_for patience.pause (Some step.op) (steps_of before)) was at))
  bounded own (Waited time ∷ before) wanted due idle are (inl (op, was, is, adds, few, long, none, counts)) =
      let at = bounded own before wanted true was are adds in
      let paused = paused_for patience.pause wanted (steps_of before) in
      subst (λ (d : Bool). Bounded patience d paused idle) (sym none)
      (subst (λ (n : ℕ). Bounded patience false paused n) (sym (counts ∙ ap (λ (n : ℕ). counted (was + n)) long)) (waited_by paused was few at))
  bounded own (Waited time ∷ before) wanted due idle are (inr (earlier, asked, was, is, adds, long, none)) = absurd (subst AreMade is are)
  bounded own (Lacked page ∷ before) wanted due idle are none = absurd none
  bounded own (Asked number ∷ before) wanted due idle are (earlier, asked, is, adds) = absurd (subst AreMade is are)

  most : (due : Bool) (time idle : ℕ) → Bounded patience due time idle → time ≤ patience.limit + 2 * patience.pause
  most true time idle (all, few) = all
  most false time idle (all, few) = omega (arith, all)

  pub few_fruitless : (own events : Events) (wanted : Option Op) (due : Bool) (idle : ℕ) → AreMade own → AddsPauses patience own events wanted due idle → paused_for patience.pause wanted (steps_of events) ≤ patience.limit + 2 * patience.pause
  few_fruitless own events wanted due idle are adds = most due _ idle (bounded own events wanted due idle are adds)
