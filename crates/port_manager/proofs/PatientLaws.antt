-- Conversations on a real bus: what is wanted comes from the conversation within, and none of these waits by itself.
use Rattle.std.proofs.Common.{◌≡◌, ℕ, nat_lt, Bool, true, false, Option, Some, None, refl, sym, ap, subst, ◌∙◌}
use Rattle.std.specs.Prelude.{◌&&◌, if◌then◌else◌}
use Rattle.bus_model.specs.declared.operation.Op.{Op}
use Rattle.bus_model.specs.declared.operation.Reply.{Reply}
use Rattle.conversations.specs.declared.next.Next.{Next}
use Rattle.conversations.specs.declared.next.Next.TheVariants.{Do, Wait, End}
use Rattle.conversations.specs.declared.on_page.OnPage.{OnPage}
use Rattle.conversations.specs.declared.pausing.Patience.{Patience}
use Rattle.conversations.specs.declared.pausing.Timed.{Timed}
use Rattle.conversations.specs.declared.pausing.Timed.TheVariants.{InTime, Overdue}
use Rattle.conversations.specs.declared.within.Spent.{Spent}
use Rattle.conversations.specs.Budgets.{next_within}
use Rattle.conversations.specs.Pauses.{is_refused, next_pausing}
use Rattle.conversations.specs.Selecting.{after_missing, after_trusting, chosen, doubting, lacked, next_on, taken_after, told_lacked}
use Rattle.conversations.specs.Wanted.{op_of}
use Rattle.conversations.proofs.RunTold.{do_fewer}
use Rattle.conversations.proofs.PausingLaws.{pausing_do}
use Rattle.conversations.proofs.OnPageLaws.{Asks, asks}
use Rattle.paged_memory.specs.declared.page_addressing.PageAddressing.{PageAddressing}
use Rattle.paged_memory.specs.declared.page_addressing.KnownPage.{KnownPage}
use Rattle.paged_memory.specs.declared.page_addressing.KnownPage.TheVariants.{Unknown}
use Rattle.paged_memory.specs.KnownPages.{is_awaited, missing_page, selection_told}
use Rattle.port_manager.specs.Patients.{Paged, Patient, advanced, after_on, pause_after, pause_in, replied, rested, rested_if, wants_of, wants_on}

-- ---- what is wanted

pub op_do : {E : Type 0} (next : Next E) (op : Op) → op_of next ≡ Some op → next ≡ Do op
op_do (Do other) op e = let same : other ≡ op = cc in ap (λ (o : Op). Do o) same
op_do (Wait time) op e = absurd cc
op_do (End end) op e = absurd cc

-- the conversation within wants it, and no pause is due
pub within_do : {C E : Type 0} (wants : C → Next E) (patient : Patient C) (op : Op) → wants_of wants patient ≡ Do op
    → (patient.conversation.due ≡ false) × (wants patient.conversation.conversation ≡ Do op)
within_do wants patient op e =
    pausing_do patient.conversation.due patient.conversation.idle patient.conversation.patience (wants patient.conversation.conversation) op
    (do_fewer patient.steps patient.limit (next_pausing patient.conversation.due patient.conversation.idle patient.conversation.patience (wants patient.conversation.conversation)) op e).0

pub asked_within : {C E : Type 0} (wants : C → Next E) (patient : Patient C) (op : Op) → op_of (wants_of wants patient) ≡ Some op → wants patient.conversation.conversation ≡ Do op
asked_within wants patient op e = (within_do wants patient op (op_do (wants_of wants patient) op e)).1

-- on a page, it is the operation of the conversation within, or a selection of its page
pub asked_on : {C E : Type 0} (paged : Paged C E) (patient : Patient (OnPage C)) (op : Op) → op_of (wants_of (wants_on paged) patient) ≡ Some op
    → Asks (chosen (paged.addressing patient.conversation.conversation.conversation)) patient.conversation.conversation.selection (paged.page patient.conversation.conversation.conversation) (paged.wants patient.conversation.conversation.conversation) op
asked_on paged patient op e =
    let on = patient.conversation.conversation in
    asks (chosen (paged.addressing on.conversation)) on.selection (paged.page on.conversation) (paged.wants on.conversation) op (asked_within (wants_on paged) patient op e)

-- ---- a wait is a pause that was due

late_waits : {E : Type 0} (few : Bool) (op : Op) (spent : Spent E) (time : ℕ) → ◌≡◌ {A = Next (Spent E)} (if few then Do op else End spent) (Wait time) → ⊥
late_waits true op spent time e = absurd cc
late_waits false op spent time e = absurd cc

within_waits : {E : Type 0} (steps limit : ℕ) (wanted : Next E) (time : ℕ) → next_within steps limit wanted ≡ Wait time → wanted ≡ Wait time
within_waits steps limit (Do op) time e = absurd (late_waits (nat_lt steps limit) op (record { steps = steps; end = None }) time e)
within_waits steps limit (Wait other) time e = let same : other ≡ time = cc in ap (λ (n : ℕ). Wait n) same
within_waits steps limit (End end) time e = absurd cc

-- the conversation never waits by itself
abbrev pub NeverWaits : {C E : Type 0} → (C → Next E) → Type 0
NeverWaits {C} wants = (conversation : C) (time : ℕ) → wants conversation ≡ Wait time → ⊥

undue_waits : {E : Type 0} (idle : ℕ) (patience : Patience) (wanted : Next E) (time : ℕ) → ((time : ℕ) → wanted ≡ Wait time → ⊥) → next_pausing false idle patience wanted ≡ Wait time → ⊥
undue_waits idle patience (Do op) time never e = absurd cc
undue_waits idle patience (Wait other) time never e = never other refl
undue_waits idle patience (End end) time never e = absurd cc

rested_waits : {C E : Type 0} (wants : C → Next E) (patient : Patient C) (time : ℕ) → NeverWaits wants → wants_of wants (rested patient) ≡ Wait time → ⊥
rested_waits wants patient time never e =
    undue_waits (rested patient).conversation.idle patient.conversation.patience (wants patient.conversation.conversation) time (never patient.conversation.conversation)
    (within_waits patient.steps patient.limit (next_pausing false (rested patient).conversation.idle patient.conversation.patience (wants patient.conversation.conversation)) time e)

by_pause : {C E : Type 0} (wants : C → Next E) (patient : Patient C) (next : Next (Spent (Timed E))) (time : ℕ) → NeverWaits wants → wants_of wants patient ≡ next → wants_of wants (rested_if (pause_in next) patient) ≡ Wait time → ⊥
by_pause wants patient (Do op) time never is e = let no : Do op ≡ Wait time = sym is ∙ e in cc
by_pause wants patient (Wait other) time never is e = rested_waits wants patient time never e
by_pause wants patient (End end) time never is e = let no : End end ≡ Wait time = sym is ∙ e in cc

pub never_waits : {C E : Type 0} (wants : C → Next E) (after : C → Reply → C) (patient : Patient C) (reply : Reply) (time : ℕ) → NeverWaits wants → wants_of wants (advanced wants after patient reply) ≡ Wait time → ⊥
never_waits wants after patient reply time never e = by_pause wants (replied wants after patient reply) (wants_of wants (replied wants after patient reply)) time never refl e

on_waits : {E : Type 0} (addressing : PageAddressing) (selected : KnownPage) (page : Option ℕ) (wanted : Next E) (time : ℕ) → ((time : ℕ) → wanted ≡ Wait time → ⊥) → next_on addressing selected page wanted ≡ Wait time → ⊥
on_waits addressing selected page (Do op) time never e = absurd cc
on_waits addressing selected page (Wait other) time never e = never other refl
on_waits addressing selected page (End end) time never e = absurd cc

pub paged_never : {C E : Type 0} (paged : Paged C E) → NeverWaits paged.wants → NeverWaits (wants_on paged)
paged_never paged never on time e = on_waits (chosen (paged.addressing on.conversation)) on.selection (paged.page on.conversation) (paged.wants on.conversation) time (never on.conversation) e

-- ---- its end

module _ {E : Type 0} where
  pub within_ends : (steps limit : ℕ) (wanted : Next E) (spent : Spent E) (end : E) → next_within steps limit wanted ≡ End spent → spent.end ≡ Some end → wanted ≡ End end
  within_ends steps limit (Do op) spent end e some = by (nat_lt steps limit) e where
    by : (few : Bool) → ◌≡◌ {A = Next (Spent E)} (if few then Do op else End (record { steps = steps; end = None })) (End spent) → Do op ≡ End end
    by true e = absurd cc
    by false e =
        let same : ◌≡◌ {A = Spent E} (record { steps = steps; end = None }) spent = cc in
        absurd (let none : None ≡ Some end = ap (λ (s : Spent E). s.end) same ∙ some in cc)
  within_ends steps limit (Wait time) spent end e some = absurd cc
  within_ends steps limit (End other) spent end e some =
      let same : ◌≡◌ {A = Spent E} (record { steps = steps; end = Some other }) spent = cc in
      let one : Some other ≡ Some end = ap (λ (s : Spent E). s.end) same ∙ some in
      let is : other ≡ end = cc in ap (λ (e : E). End e) is

  pub pausing_ends : (due : Bool) (idle : ℕ) (patience : Patience) (wanted : Next E) (end : E) → next_pausing due idle patience wanted ≡ End (InTime end) → wanted ≡ End end
  pausing_ends true idle patience (Do op) end e = by (nat_lt patience.limit idle) e where
    by : (late : Bool) → ◌≡◌ {A = Next (Timed E)} (if late then End Overdue else Wait patience.pause) (End (InTime end)) → Do op ≡ End end
    by true e = absurd cc
    by false e = absurd cc
  pausing_ends false idle patience (Do op) end e = absurd cc
  pausing_ends due idle patience (Wait time) end e = absurd cc
  pausing_ends due idle patience (End other) end e = let same : InTime other ≡ InTime end = cc in let is : other ≡ end = cc in ap (λ (e : E). End e) is

-- what ends needs no page
pub on_ends : {E : Type 0} (addressing : PageAddressing) (selected : KnownPage) (page : Option ℕ) (wanted : Next E) (end : E) → next_on addressing selected page wanted ≡ End end → wanted ≡ End end
on_ends addressing selected page (Do op) end e = absurd cc
on_ends addressing selected page (Wait time) end e = absurd cc
on_ends addressing selected page (End other) end e = e

-- ---- what the conversation within becomes

within_by : {C : Type 0} (P : C → Type 0) (pause : Option ℕ) (patient : Patient C) → P patient.conversation.conversation → P (rested_if pause patient).conversation.conversation
within_by P None patient p = p
within_by P (Some time) patient p = p

pub kept_within : {C E : Type 0} (P : C → Type 0) (wants : C → Next E) (after : C → Reply → C) (patient : Patient C) (reply : Reply) → P (after patient.conversation.conversation reply)
    → P (advanced wants after patient reply).conversation.conversation
kept_within P wants after patient reply p = within_by P (pause_after wants after patient reply) (replied wants after patient reply) p

abbrev pub doubting_if : {C : Type 0} → Bool → OnPage C → OnPage C
doubting_if doubt on = if doubt then record { conversation = on.conversation; selection = Unknown; taken = None; doubts = on.doubts } else on

kept_doubting : {C : Type 0} (P : C → Type 0) (on : OnPage C) (reply : Reply) → P on.conversation → P (doubting on reply).conversation
kept_doubting {C} P on reply p = by (on.doubts && is_refused reply) where
  by : (doubt : Bool) → P (doubting_if doubt on).conversation
  by true = p
  by false = p

abbrev pub trusting_if : {C E : Type 0} → Bool → Paged C E → OnPage C → Reply → OnPage C
trusting_if awaited paged on reply =
    if awaited then record {
      conversation = told_lacked paged.lacking (lacked (chosen (paged.addressing on.conversation)) (paged.page on.conversation) on.taken reply) on.conversation;
      selection = selection_told (chosen (paged.addressing on.conversation)) on.selection reply;
      taken = taken_after on.taken reply;
      doubts = on.doubts;
    }
    else after_missing paged.after paged.may_lack (missing_page on.selection (paged.page on.conversation)) on reply

module _ {C E : Type 0} (P : C → Type 0) (paged : Paged C E) (on : OnPage C) (reply : Reply) (is : P on.conversation)
    (told : P (paged.after on.conversation reply)) (lacks : (number : ℕ) → P (paged.lacking on.conversation number)) where
  kept_lacking : (found : Option ℕ) → P (told_lacked paged.lacking found on.conversation)
  kept_lacking None = is
  kept_lacking (Some number) = lacks number

  kept_missing : (missing : Option ℕ) → P (after_missing paged.after paged.may_lack missing on reply).conversation
  kept_missing None = told
  kept_missing (Some number) = is

  kept_trusting : (awaited : Bool) → is_awaited on.selection ≡ awaited
      → P (after_trusting paged.after paged.lacking paged.may_lack (chosen (paged.addressing on.conversation)) (paged.page on.conversation) on reply).conversation
  kept_trusting true e = subst P (sym (ap (λ (b : Bool). (trusting_if b paged on reply).conversation) e))
      (kept_lacking (lacked (chosen (paged.addressing on.conversation)) (paged.page on.conversation) on.taken reply))
  kept_trusting false e = subst P (sym (ap (λ (b : Bool). (trusting_if b paged on reply).conversation) e))
      (kept_missing (missing_page on.selection (paged.page on.conversation)))

  pub kept_on : P (after_on paged on reply).conversation
  kept_on = kept_doubting P (after_trusting paged.after paged.lacking paged.may_lack (chosen (paged.addressing on.conversation)) (paged.page on.conversation) on reply) reply (kept_trusting (is_awaited on.selection) refl)
