-- A conversation of which each operation brings something nearer neither gives up nor is overdue, if the pauses after so many operations
-- aren't too long.
use Rattle.std.proofs.Common.{◌≡◌, ℕ, ◌+◌, ◌*◌, ◌<◌, ◌≤◌, nat_lt, Bool, true, false, Option, Some, None, refl, sym, ap, subst, ◌∙◌, if◌then◌else◌, arith}
use Rattle.std.proofs.Math.Nat.{mul-le-mul_right}
use Rattle.std.proofs.lemmas.Bool.Decides.{nat_tests}
use Rattle.bus_model.specs.declared.operation.Op.{Op}
use Rattle.bus_model.specs.declared.operation.Reply.{Reply}
use Rattle.conversations.specs.declared.next.Next.{Next}
use Rattle.conversations.specs.declared.next.Next.TheVariants.{Do, Wait, End}
use Rattle.conversations.specs.declared.pausing.Timed.{Timed}
use Rattle.conversations.specs.declared.pausing.Timed.TheVariants.{InTime, Overdue}
use Rattle.conversations.specs.declared.within.Spent.{Spent}
use Rattle.conversations.specs.Budgets.{next_within}
use Rattle.conversations.specs.Pauses.{counted, idle_after, is_selecting_in, next_pausing}
use Rattle.conversations.specs.Wanted.{op_of}
use Rattle.port_manager.specs.Patients.{Patient, advanced, pause_after, pause_in, replied, rested, rested_if, wants_of}
use Rattle.port_manager.proofs.PatientLaws.{NeverWaits}

-- each of so many operations may be made, and followed by a pause
pub record HasTime {C : Type 0} (left : ℕ) (patient : Patient C) : Type 0 where
  pub pauses : patient.conversation.idle + left * patient.conversation.patience.pause ≤ patient.conversation.patience.limit
  pub steps : patient.steps + left ≤ patient.limit

lt_true : (a b : ℕ) → a < b → nat_lt a b ≡ true
lt_true a b below = grind (arith, nat_tests)

lt_false : (a b : ℕ) → b ≤ a → nat_lt a b ≡ false
lt_false a b above = grind (arith, nat_tests)

idle_by : (fruitless selecting : Bool) (idle : ℕ) → idle_after fruitless selecting idle ≤ idle
idle_by true selecting idle = omega arith
idle_by false true idle = omega arith
idle_by false false idle = omega arith

counted_few : (time : ℕ) → counted time ≤ time
counted_few time = omega arith

one_pause : (more pause : ℕ) → (more + 1) * pause ≡ more * pause + pause
one_pause more pause = grind arith

module _ {C E : Type 0} (wants : C → Next E) (after : C → Reply → C) where
  -- ---- it stays so

  time_rested : (left : ℕ) (pause : Option ℕ) (patient : Patient C) → patient.conversation.idle + (left + 1) * patient.conversation.patience.pause ≤ patient.conversation.patience.limit → patient.steps + left ≤ patient.limit
      → HasTime left (rested_if pause patient)
  time_rested left None patient pauses steps = record { pauses = omega (arith, pauses, one_pause left patient.conversation.patience.pause); steps = steps }
  time_rested left (Some time) patient pauses steps = record {
    pauses = omega (arith, pauses, one_pause left patient.conversation.patience.pause, counted_few (patient.conversation.idle + patient.conversation.patience.pause));
    steps = steps;
  }

  pub time_advanced : (before more : ℕ) (patient : Patient C) (reply : Reply) → more + 1 ≤ before → HasTime before patient → HasTime more (advanced wants after patient reply)
  time_advanced before more patient reply fewer time =
      time_rested more (pause_after wants after patient reply) (replied wants after patient reply)
      (omega (arith, idle_by (replied wants after patient reply).conversation.due (is_selecting_in (op_of (wants patient.conversation.conversation))) patient.conversation.idle, time.pauses, mul-le-mul_right patient.conversation.patience.pause fewer)) (omega (arith, time.steps, fewer))

  -- ---- so it ends as the conversation within does

  abbrev HasEnded : Next E → Spent (Timed E) → Type 0
  HasEnded own spent = (end : E) × (spent.end ≡ Some (InTime end)) × (own ≡ End end)

  no_end : {X : Type 0} (op : Op) (spent : X) → ◌≡◌ {A = Next X} (Do op) (End spent) → ⊥
  no_end op spent e = cc

  same_end : {X : Type 0} (one other : X) → ◌≡◌ {A = Next X} (End one) (End other) → one ≡ other
  same_end one other e = cc

  module _ (patient : Patient C) (few : patient.conversation.idle ≤ patient.conversation.patience.limit) where
    abbrev wanted : Next E
    wanted = wants patient.conversation.conversation

    abbrev by_due : Bool → Next E → Next (Spent (Timed E))
    by_due due own = next_within patient.steps patient.limit (next_pausing due patient.conversation.idle patient.conversation.patience own)

    -- what it wants, by whether a pause is due
    wants_is : (due : Bool) (own : Next E) → patient.conversation.due ≡ due → wanted ≡ own → wants_of wants patient ≡ by_due due own
    wants_is due own d w = λ i. by_due (d i) (w i)

    does : (op : Op) → patient.steps < patient.limit → by_due false (Do op) ≡ Do op
    does op room = ap (λ (b : Bool). if b then Do op else End (record { steps = patient.steps; end = None })) (lt_true patient.steps patient.limit room)

    pauses : (op : Op) → by_due true (Do op) ≡ Wait patient.conversation.patience.pause
    pauses op = ap (λ (b : Bool). next_within patient.steps patient.limit (if b then End Overdue else Wait patient.conversation.patience.pause)) (lt_false patient.conversation.patience.limit patient.conversation.idle few)

    rested_does : (op : Op) → patient.steps < patient.limit → wanted ≡ Do op → wants_of wants (rested patient) ≡ Do op
    rested_does op room w =
        ap (λ (own : Next E). next_within patient.steps patient.limit (next_pausing false (rested patient).conversation.idle patient.conversation.patience own)) w
        ∙ ap (λ (b : Bool). if b then Do op else End (record { steps = patient.steps; end = None })) (lt_true patient.steps patient.limit room)

    abbrev Ends : Option ℕ → Spent (Timed E) → Type 0
    Ends pause spent = wants_of wants (rested_if pause patient) ≡ End spent

    ends_by : (due : Bool) (own : Next E) (spent : Spent (Timed E)) → patient.conversation.due ≡ due → wanted ≡ own → ((op : Op) → own ≡ Do op → patient.steps < patient.limit) → ((time : ℕ) → own ≡ Wait time → ⊥)
        → Ends (pause_in (wants_of wants patient)) spent → HasEnded own spent
    ends_by false (Do op) spent d w room never e =
        let is : wants_of wants patient ≡ Do op = wants_is false (Do op) d w ∙ does op (room op refl) in
        let ends : Ends None spent = subst (λ (pause : Option ℕ). Ends pause spent) (ap pause_in is) e in
        absurd (no_end op spent (sym is ∙ ends))
    ends_by true (Do op) spent d w room never e =
        let is : wants_of wants patient ≡ Wait patient.conversation.patience.pause = wants_is true (Do op) d w ∙ pauses op in
        let ends : Ends (Some patient.conversation.patience.pause) spent = subst (λ (pause : Option ℕ). Ends pause spent) (ap pause_in is) e in
        absurd (no_end op spent (sym (rested_does op (room op refl) w) ∙ ends))
    ends_by due (Wait time) spent d w room never e = absurd (never time refl)
    ends_by due (End end) spent d w room never e =
        let is : wants_of wants patient ≡ End (record { steps = patient.steps; end = Some (InTime end) }) = wants_is due (End end) d w in
        let ends : Ends None spent = subst (λ (pause : Option ℕ). Ends pause spent) (ap pause_in is) e in
        let same : record { steps = patient.steps; end = Some (InTime end) } ≡ spent = same_end _ spent (sym is ∙ ends) in
        (end, ap (λ (s : Spent (Timed E)). s.end) (sym same), refl)

  pub ends_in_time : (before more : ℕ) (patient : Patient C) (reply : Reply) (spent : Spent (Timed E)) → more + 1 ≤ before → HasTime before patient → ((op : Op) → wants (after patient.conversation.conversation reply) ≡ Do op → 1 ≤ more)
      → NeverWaits wants → wants_of wants (advanced wants after patient reply) ≡ End spent → HasEnded (wants (after patient.conversation.conversation reply)) spent
  ends_in_time before more patient reply spent fewer time some never e =
      let told = replied wants after patient reply in
      ends_by told (omega (arith, idle_by told.conversation.due (is_selecting_in (op_of (wants patient.conversation.conversation))) patient.conversation.idle, time.pauses)) told.conversation.due (wants (after patient.conversation.conversation reply)) spent refl refl
      (λ op does. omega (arith, some op does, time.steps, fewer)) (never (after patient.conversation.conversation reply)) e
