-- Each operation brings a conversation on confirmed pages nearer to its end, or is fruitless.
use Rattle.std.proofs.Common.{◌≡◌, ◌≤◌, ◌+◌, ◌*◌, ◌⊎◌, inl, inr, ℕ, Bool, true, false, Option, Some, None, refl, sym, ap, subst, ◌∙◌, arith, eq-eqb}
use Rattle.std.specs.Prelude.{◌-◌, ◌&&◌, ◌||◌, is_some, if◌then◌else◌}
use Rattle.arrayvec.specs.ArrayVec.{ArrayVec}
use Rattle.bus_model.specs.declared.device.Dev.{Dev}
use Rattle.bus_model.specs.declared.device.Dev.TheVariants.{A0, A2}
use Rattle.bus_model.specs.declared.operation.Op.{Op}
use Rattle.bus_model.specs.declared.operation.Op.TheVariants.{Fetch, Store}
use Rattle.bus_model.specs.declared.operation.Reply.{Reply}
use Rattle.bus_model.specs.declared.operation.Reply.TheVariants.{Bytes, Done, Refused}
use Rattle.bus_model.specs.Operations.{Answers}
use Rattle.bus_model.specs.SameOperation.{same_device}
use Rattle.conversations.specs.declared.next.Next.{Next}
use Rattle.conversations.specs.declared.next.Next.TheVariants.{Do}
use Rattle.conversations.specs.declared.on_page.OnPage.{OnPage}
use Rattle.conversations.specs.Pauses.{is_fruitless, is_fruitless_in}
use Rattle.conversations.specs.Selecting.{IsFetch, after_missing, chosen, lacked, next_on, told_lacked}
use Rattle.conversations.specs.Wanted.{op_of}
use Rattle.conversations.proofs.OnPageLaws.{Asks}
use Rattle.paged_memory.specs.declared.page_addressing.PageAddressing.{PageAddressing}
use Rattle.paged_memory.specs.declared.page_addressing.PageAddressing.TheVariants.{BankAndPage, PageAlone}
use Rattle.paged_memory.specs.declared.page_addressing.KnownPage.{KnownPage}
use Rattle.paged_memory.specs.KnownPages.{is_awaited, missing_page, selecting_first, selection_read, wanted}
use Rattle.paged_memory.specs.PageAddressing.{read_selection, selection}
use Rattle.paged_memory.proofs.KnownPageLaws.{by_selection, read_closes}
use Rattle.port_manager.specs.Patients.{Paged, Patient, advanced, after_on, pause_after, replied, rested_if, wants_of, wants_on}
use Rattle.port_manager.proofs.PatientLaws.{asked_on, asked_within, doubting_if, kept_on, kept_within, op_do, trusting_if, within_do}

-- ---- what is known of the selection counts

-- a page that is needed is selected, read back, and then it is the operation's turn
abbrev pub gained : KnownPage → Option ℕ → ℕ
gained selected needed = if is_awaited selected then 1 else if is_some (missing_page selected needed) then 0 else 2

few_by : (awaited missing : Bool) → (if awaited then 1 else if missing then 0 else 2) ≤ 2
few_by true missing = omega arith
few_by false true = omega arith
few_by false false = omega arith

gained_few : (selected : KnownPage) (needed : Option ℕ) → gained selected needed ≤ 2
gained_few selected needed = few_by (is_awaited selected) (is_some (missing_page selected needed))

gained_awaited : (selected : KnownPage) (needed : Option ℕ) → is_awaited selected ≡ true → gained selected needed ≡ 1
gained_awaited selected needed e = ap (λ (b : Bool). if b then 1 else if is_some (missing_page selected needed) then 0 else 2) e

gained_closed : (selected : KnownPage) (needed missing : Option ℕ) → is_awaited selected ≡ false → missing_page selected needed ≡ missing → gained selected needed ≡ (if is_some missing then 0 else 2)
gained_closed selected needed missing e m =
    ap (λ (b : Bool). if b then 1 else if is_some (missing_page selected needed) then 0 else 2) e ∙ ap (λ (missing : Option ℕ). if is_some missing then 0 else 2) m

-- ---- fruitless

same_dev : (dev : Dev) → same_device dev dev ≡ true
same_dev A0 = refl
same_dev A2 = refl

all_same : (a b c : Bool) → a ≡ true → b ≡ true → c ≡ true → (a && (b && c)) ≡ true
all_same a b c e f g = ap (λ (x : Bool). x && (b && c)) e ∙ ap (λ (x : Bool). x && c) f ∙ g

or_first : (a b : Bool) → a ≡ true → (a || b) ≡ true
or_first a b e = ap (λ (x : Bool). x || b) e

-- the same fetch is made again
pub repeats : (op : Op) (reply : Reply) → IsFetch op → is_fruitless op reply (Some op) ≡ true
repeats (Fetch dev offset count) (Bytes bytes) fetch = or_first _ _ (all_same _ _ _ (same_dev dev) (eq-eqb offset offset refl) (eq-eqb count count refl))
repeats (Fetch dev offset count) Done fetch = or_first _ _ (all_same _ _ _ (same_dev dev) (eq-eqb offset offset refl) (eq-eqb count count refl))
repeats (Fetch dev offset count) Refused fetch = refl
repeats (Store dev offset bytes) reply fetch = absurd fetch

-- a page is selected again after the selection was read
again : (addressing : PageAddressing) (page : ℕ) (bytes : ArrayVec ℕ) → is_fruitless (read_selection addressing) (Bytes bytes) (Some (selection addressing page)) ≡ true
again BankAndPage page bytes = refl
again PageAlone page bytes = by_selection (λ op. is_fruitless (read_selection PageAlone) (Bytes bytes) (Some op) ≡ true) page refl refl

no_done_read : (addressing : PageAddressing) → Answers (read_selection addressing) Done → ⊥
no_done_read BankAndPage none = none
no_done_read PageAlone none = none

-- ---- what the conversation within does

-- it came nearer to its end, or stays as it was since a fetch brought nothing or the operation was refused
abbrev pub OwnStep : {C : Type 0} → (C → ℕ) → C → C → Op → Reply → Type 0
OwnStep left before after op reply = (left after + 1 ≤ left before) ⊎ ((after ≡ before) × (IsFetch op ⊎ (reply ≡ Refused)))

pub record Counted {C E : Type 0} (paged : Paged C E) (left : C → ℕ) : Type 0 where
  pub some : (conversation : C) (op : Op) → paged.wants conversation ≡ Do op → 1 ≤ left conversation
  pub own : (conversation : C) (op : Op) (reply : Reply) → paged.wants conversation ≡ Do op → Answers op reply → OwnStep left conversation (paged.after conversation reply) op reply
  pub lacks : (conversation : C) (op : Op) (number : ℕ) → paged.wants conversation ≡ Do op → (left (paged.lacking conversation number) + 1 ≤ left conversation) ⊎ (paged.lacking conversation number ≡ conversation)

answers_refused : (op : Op) → Answers op Refused
answers_refused (Fetch dev offset count) = tt
answers_refused (Store dev offset bytes) = tt

and_false : (b : Bool) → (b && false) ≡ false
and_false true = refl
and_false false = refl

not_refused : (op : Op) (bytes : ArrayVec ℕ) → IsFetch op ⊎ ◌≡◌ {A = Reply} (Bytes bytes) Refused → IsFetch op
not_refused op bytes (inl fetch) = fetch
not_refused op bytes (inr refused) = absurd cc

not_done : (op : Op) → Answers op Done → IsFetch op ⊎ ◌≡◌ {A = Reply} Done Refused → ⊥
not_done (Fetch dev offset count) answers either = answers
not_done (Store dev offset bytes) answers (inl fetch) = fetch
not_done (Store dev offset bytes) answers (inr refused) = cc

module _ {C E : Type 0} (paged : Paged C E) (left : C → ℕ) (counted : Counted paged left) (on : OnPage C) (inner op : Op) (wants : paged.wants on.conversation ≡ Do inner)
    (is : op ≡ wanted (chosen (paged.addressing on.conversation)) on.selection (paged.page on.conversation) inner) where
  abbrev by : PageAddressing
  by = chosen (paged.addressing on.conversation)

  abbrev needed : Option ℕ
  needed = paged.page on.conversation

  -- another page was read back than the one that is needed, which isn't lacked
  pub record ReadsOther (reply : Reply) : Type 0 where
    pub awaited : is_awaited on.selection ≡ true
    pub bytes : ArrayVec ℕ
    pub reads : reply ≡ Bytes bytes
    pub page : ℕ
    pub missing : missing_page (selection_read by bytes.items) needed ≡ Some page
    pub stays : (lacked by needed on.taken (Bytes bytes) ≡ None) ⊎ ((number : ℕ) × (lacked by needed on.taken (Bytes bytes) ≡ Some number) × (paged.lacking on.conversation number ≡ on.conversation))

  -- why an operation was in vain: it was refused, another page was read back, or its own fetch brought nothing
  abbrev pub InVain : Reply → Type 0
  InVain reply = (reply ≡ Refused) ⊎ (ReadsOther reply ⊎ ((op ≡ inner) × (paged.after on.conversation reply ≡ on.conversation)))

  -- the conversation within came nearer, or more is known of the selection, or the operation was fruitless
  abbrev pub Moves : Reply → OnPage C → Type 0
  Moves reply after =
      (left after.conversation + 1 ≤ left on.conversation)
      ⊎ (((after.conversation ≡ on.conversation) × (gained on.selection needed + 1 ≤ gained after.selection needed))
      ⊎ ((after.conversation ≡ on.conversation) × (is_fruitless op reply (op_of (wants_on paged after)) ≡ true) × InVain reply))

  next_same : (after : OnPage C) → after.conversation ≡ on.conversation → op_of (wants_on paged after) ≡ Some (wanted by after.selection needed inner)
  next_same after same =
      ap (λ (c : C). op_of (next_on (chosen (paged.addressing c)) after.selection (paged.page c) (paged.wants c))) same
      ∙ ap (λ (n : Next E). op_of (next_on by after.selection needed n)) wants

  vain : (reply : Reply) (after : OnPage C) (other : Op) → after.conversation ≡ on.conversation → wanted by after.selection needed inner ≡ other → is_fruitless op reply (Some other) ≡ true → InVain reply → Moves reply after
  vain reply after other same next fruitless why =
      inr (inr (same, ap (is_fruitless op reply) (next_same after same ∙ ap (λ (o : Op). Some o) next) ∙ fruitless, why))

  is_read : is_awaited on.selection ≡ true → op ≡ read_selection by
  is_read awaited = is ∙ ap (λ (b : Bool). if b then read_selection by else selecting_first by inner (missing_page on.selection needed)) awaited

  is_first : (missing : Option ℕ) → is_awaited on.selection ≡ false → missing_page on.selection needed ≡ missing → op ≡ selecting_first by inner missing
  is_first missing closed m = is ∙ ap (λ (b : Bool). if b then read_selection by else selecting_first by inner (missing_page on.selection needed)) closed ∙ ap (selecting_first by inner) m

  -- ---- the operation was refused

  abbrev Same : C → Type 0
  Same conversation = (left conversation + 1 ≤ left on.conversation) ⊎ (conversation ≡ on.conversation)

  own_refused : OwnStep left on.conversation (paged.after on.conversation Refused) inner Refused → Same (paged.after on.conversation Refused)
  own_refused (inl nearer) = inl nearer
  own_refused (inr stays) = inr stays.0

  refused_by : (after : OnPage C) → Same after.conversation → Moves Refused after
  refused_by after (inl nearer) = inl nearer
  refused_by after (inr same) = inr (inr (same, refl, inl refl))

  refused : Moves Refused (after_on paged on Refused)
  refused =
      refused_by (after_on paged on Refused)
      (kept_on Same paged on Refused (inr refl) (own_refused (counted.own on.conversation inner Refused wants (answers_refused inner))) (λ number. counted.lacks on.conversation inner number wants))

  -- ---- the selection was read back

  closes : (bytes : ArrayVec ℕ) (after : OnPage C) → is_awaited on.selection ≡ true → after.conversation ≡ on.conversation → after.selection ≡ selection_read by bytes.items
      → (lacked by needed on.taken (Bytes bytes) ≡ None) ⊎ ((number : ℕ) × (lacked by needed on.taken (Bytes bytes) ≡ Some number) × (paged.lacking on.conversation number ≡ on.conversation)) → Moves (Bytes bytes) after
  closes bytes after awaited same known stays = at (missing_page after.selection needed) refl where
    closed : is_awaited after.selection ≡ false
    closed = ap is_awaited known ∙ read_closes by bytes.items

    at : (missing : Option ℕ) → missing_page after.selection needed ≡ missing → Moves (Bytes bytes) after
    at None m = inr (inl (same, omega (arith, gained_awaited on.selection needed awaited, gained_closed after.selection needed None closed m)))
    at (Some page) m =
        vain (Bytes bytes) after (selection by page) same
        (ap (λ (b : Bool). if b then read_selection by else selecting_first by inner (missing_page after.selection needed)) closed ∙ ap (selecting_first by inner) m)
        (ap (λ (o : Op). is_fruitless o (Bytes bytes) (Some (selection by page))) (is_read awaited) ∙ again by page bytes)
        (inr (inl (record { awaited = awaited; bytes = bytes; reads = refl; page = page; missing = ap (λ (known : KnownPage). missing_page known needed) (sym known) ∙ m; stays = stays })))

  read : (bytes : ArrayVec ℕ) (found : Option ℕ) → is_awaited on.selection ≡ true → lacked by needed on.taken (Bytes bytes) ≡ found → Moves (Bytes bytes) (trusting_if true paged on (Bytes bytes))
  read bytes None awaited e = closes bytes (trusting_if true paged on (Bytes bytes)) awaited (ap (λ (found : Option ℕ). told_lacked paged.lacking found on.conversation) e) refl (inl e)
  read bytes (Some number) awaited e = either (counted.lacks on.conversation inner number wants) where
    is_lacking : (trusting_if true paged on (Bytes bytes)).conversation ≡ paged.lacking on.conversation number
    is_lacking = ap (λ (found : Option ℕ). told_lacked paged.lacking found on.conversation) e

    either : Same (paged.lacking on.conversation number) → Moves (Bytes bytes) (trusting_if true paged on (Bytes bytes))
    either (inl nearer) = inl (subst (λ (c : C). left c + 1 ≤ left on.conversation) (sym is_lacking) nearer)
    either (inr same) = closes bytes (trusting_if true paged on (Bytes bytes)) awaited (is_lacking ∙ same) refl (inr (number, e, same))

  -- ---- a page was selected, or the operation itself was made

  selected : (reply : Reply) (page : ℕ) → is_awaited on.selection ≡ false → missing_page on.selection needed ≡ Some page → Moves reply (after_missing paged.after paged.may_lack (Some page) on reply)
  selected reply page closed m = inr (inl (refl, omega (arith, gained_closed on.selection needed (Some page) closed m)))

  own_bytes : (bytes : ArrayVec ℕ) → op ≡ inner → Answers op (Bytes bytes) → OwnStep left on.conversation (paged.after on.conversation (Bytes bytes)) inner (Bytes bytes) → Moves (Bytes bytes) (after_missing paged.after paged.may_lack None on (Bytes bytes))
  own_bytes bytes same answers (inl nearer) = inl nearer
  own_bytes bytes same answers (inr (stays, either)) =
      let fetch : IsFetch op = subst IsFetch (sym same) (not_refused inner bytes either) in
      vain (Bytes bytes) (after_missing paged.after paged.may_lack None on (Bytes bytes)) op stays (sym is) (repeats op (Bytes bytes) fetch) (inr (inr (same, stays)))

  own_done : op ≡ inner → Answers op Done → OwnStep left on.conversation (paged.after on.conversation Done) inner Done → Moves Done (after_missing paged.after paged.may_lack None on Done)
  own_done same answers (inl nearer) = inl nearer
  own_done same answers (inr (stays, either)) = absurd (not_done inner (subst (λ (o : Op). Answers o Done) same answers) either)

  inner_answers : (reply : Reply) → op ≡ inner → Answers op reply → Answers inner reply
  inner_answers reply same answers = subst (λ (o : Op). Answers o reply) same answers

  bytes_missing : (bytes : ArrayVec ℕ) (missing : Option ℕ) → is_awaited on.selection ≡ false → missing_page on.selection needed ≡ missing → Answers op (Bytes bytes) → Moves (Bytes bytes) (after_missing paged.after paged.may_lack missing on (Bytes bytes))
  bytes_missing bytes (Some page) closed m answers = selected (Bytes bytes) page closed m
  bytes_missing bytes None closed m answers =
      let same = is_first None closed m in
      own_bytes bytes same answers (counted.own on.conversation inner (Bytes bytes) wants (inner_answers (Bytes bytes) same answers))

  done_missing : (missing : Option ℕ) → is_awaited on.selection ≡ false → missing_page on.selection needed ≡ missing → Answers op Done → Moves Done (after_missing paged.after paged.may_lack missing on Done)
  done_missing (Some page) closed m answers = selected Done page closed m
  done_missing None closed m answers =
      let same = is_first None closed m in
      own_done same answers (counted.own on.conversation inner Done wants (inner_answers Done same answers))

  bytes_by : (bytes : ArrayVec ℕ) (awaited : Bool) → is_awaited on.selection ≡ awaited → Answers op (Bytes bytes) → Moves (Bytes bytes) (trusting_if awaited paged on (Bytes bytes))
  bytes_by bytes true e answers = read bytes (lacked by needed on.taken (Bytes bytes)) e refl
  bytes_by bytes false e answers = bytes_missing bytes (missing_page on.selection needed) e refl answers

  done_by : (awaited : Bool) → is_awaited on.selection ≡ awaited → Answers op Done → Moves Done (trusting_if awaited paged on Done)
  done_by true e answers = absurd (no_done_read by (subst (λ (o : Op). Answers o Done) (is_read e) answers))
  done_by false e answers = done_missing (missing_page on.selection needed) e refl answers

  undoubted : (reply : Reply) (after : OnPage C) → doubting_if (after.doubts && false) after ≡ after
  undoubted reply after = ap (λ (b : Bool). doubting_if b after) (and_false after.doubts)

  pub moves : (reply : Reply) → Answers op reply → Moves reply (after_on paged on reply)
  moves (Bytes bytes) answers =
      subst (Moves (Bytes bytes)) (sym (undoubted (Bytes bytes) (trusting_if (is_awaited on.selection) paged on (Bytes bytes)))) (bytes_by bytes (is_awaited on.selection) refl answers)
  moves Done answers = subst (Moves Done) (sym (undoubted Done (trusting_if (is_awaited on.selection) paged on Done))) (done_by (is_awaited on.selection) refl answers)
  moves Refused answers = refused

  -- ---- in numbers

  abbrev left_on : OnPage C → ℕ
  left_on after = 3 * left after.conversation - gained after.selection (paged.page after.conversation)

  abbrev Near : Reply → OnPage C → Type 0
  Near reply after = (is_fruitless op reply (op_of (wants_on paged after)) ≡ false → left_on after + 1 ≤ left_on on) × (left_on after ≤ left_on on + 2)

  same_left : (after : OnPage C) → after.conversation ≡ on.conversation → left_on after ≡ 3 * left on.conversation - gained after.selection needed
  same_left after same = ap (λ (c : C). 3 * left c - gained after.selection (paged.page c)) same

  near_by : (reply : Reply) (after : OnPage C) → Moves reply after → Near reply after
  near_by reply after (inl nearer) =
      let few = gained_few on.selection needed in
      (λ fruitful. omega (arith, nearer, few), omega (arith, nearer, few))
  near_by reply after (inr (inl (same, more))) =
      let some = counted.some on.conversation inner wants in
      let few = gained_few after.selection needed in
      let is = same_left after same in
      (λ fruitful. omega (arith, some, few, more, is), omega (arith, some, few, more, is))
  near_by reply after (inr (inr (same, fruitless, why))) =
      let few = gained_few on.selection needed in
      let is = same_left after same in
      (λ fruitful. absurd (let no : true ≡ false = sym fruitless ∙ fruitful in cc), omega (arith, few, is))

  nearer_by : (reply : Reply) (after : OnPage C) → Moves reply after → (left_on after + 1 ≤ left_on on) ⊎ InVain reply
  nearer_by reply after (inl nearer) = inl (omega (arith, nearer, gained_few on.selection needed))
  nearer_by reply after (inr (inl (same, more))) =
      inl (omega (arith, counted.some on.conversation inner wants, gained_few after.selection needed, more, same_left after same))
  nearer_by reply after (inr (inr (same, fruitless, why))) = inr why

  pub near_or_vain : (reply : Reply) → Answers op reply → (left_on (after_on paged on reply) + 1 ≤ left_on on) ⊎ InVain reply
  near_or_vain reply answers = nearer_by reply (after_on paged on reply) (moves reply answers)

  pub near_on : (reply : Reply) → Answers op reply → Near reply (after_on paged on reply)
  near_on reply answers = near_by reply (after_on paged on reply) (moves reply answers)

  pub some_left : 1 ≤ left_on on
  some_left = omega (arith, counted.some on.conversation inner wants, gained_few on.selection needed)

-- ---- on a real bus

-- without a pause the operation wasn't fruitless
fruitful_if : {C E : Type 0} (wants : C → Next E) (patient : Patient C) (pause : Option ℕ) (next : Op) → pause ≡ None → op_of (wants_of wants (rested_if pause patient)) ≡ Some next → patient.conversation.due ≡ false
fruitful_if wants patient pause next none asks =
    (within_do wants patient next (op_do (wants_of wants patient) next (subst (λ (pause : Option ℕ). op_of (wants_of wants (rested_if pause patient)) ≡ Some next) none asks))).0

pub fruitful : {C E : Type 0} (wants : C → Next E) (after : C → Reply → C) (patient : Patient C) (op next : Op) (reply : Reply) → op_of (wants_of wants patient) ≡ Some op → op_of (wants_of wants (advanced wants after patient reply)) ≡ Some next
    → pause_after wants after patient reply ≡ None → is_fruitless op reply (op_of (wants (after patient.conversation.conversation reply))) ≡ false
fruitful wants after patient op next reply asked asks none =
    let due = fruitful_if wants (replied wants after patient reply) (pause_after wants after patient reply) next none asks in
    sym (ap (λ (n : Next _). is_fruitless_in (op_of n) reply (op_of (wants (after patient.conversation.conversation reply)))) (asked_within wants patient op asked)) ∙ due

module _ {C E : Type 0} (paged : Paged C E) (left : C → ℕ) (counted : Counted paged left) where
  abbrev pub left_of : Patient (OnPage C) → ℕ
  left_of patient = 3 * left patient.conversation.conversation.conversation - gained patient.conversation.conversation.selection (paged.page patient.conversation.conversation.conversation)

  pub near_patient : (patient : Patient (OnPage C)) (op next : Op) (reply : Reply) → op_of (wants_of (wants_on paged) patient) ≡ Some op → Answers op reply
      → op_of (wants_of (wants_on paged) (advanced (wants_on paged) (after_on paged) patient reply)) ≡ Some next
      → (pause_after (wants_on paged) (after_on paged) patient reply ≡ None → left_of (advanced (wants_on paged) (after_on paged) patient reply) + 1 ≤ left_of patient)
      × (left_of (advanced (wants_on paged) (after_on paged) patient reply) ≤ left_of patient + 2)
  near_patient patient op next reply asked answers asks =
      let on = patient.conversation.conversation in
      let a = asked_on paged patient op asked in
      let near = near_on paged left counted on a.inner op a.wants a.is reply answers in
      let same : left_of (advanced (wants_on paged) (after_on paged) patient reply) ≡ 3 * left (after_on paged on reply).conversation - gained (after_on paged on reply).selection (paged.page (after_on paged on reply).conversation) =
      kept_within (λ (after : OnPage C). 3 * left after.conversation - gained after.selection (paged.page after.conversation) ≡ 3 * left (after_on paged on reply).conversation - gained (after_on paged on reply).selection (paged.page (after_on paged on reply).conversation))
      (wants_on paged) (after_on paged) patient reply refl in
      (λ none. omega (arith, same, near.0 (fruitful (wants_on paged) (after_on paged) patient op next reply asked asks none)), omega (arith, same, near.1))

  pub patient_or_vain : (patient : Patient (OnPage C)) (op : Op) (reply : Reply) (asked : op_of (wants_of (wants_on paged) patient) ≡ Some op) → Answers op reply
      → (left_of (advanced (wants_on paged) (after_on paged) patient reply) + 1 ≤ left_of patient)
      ⊎ InVain paged left counted patient.conversation.conversation (asked_on paged patient op asked).inner op (asked_on paged patient op asked).wants (asked_on paged patient op asked).is reply
  patient_or_vain patient op reply asked answers = by (near_or_vain paged left counted on a.inner op a.wants a.is reply answers) where
    on : OnPage C
    on = patient.conversation.conversation

    a : Asks (chosen (paged.addressing on.conversation)) on.selection (paged.page on.conversation) (paged.wants on.conversation) op
    a = asked_on paged patient op asked

    same : left_of (advanced (wants_on paged) (after_on paged) patient reply) ≡ 3 * left (after_on paged on reply).conversation - gained (after_on paged on reply).selection (paged.page (after_on paged on reply).conversation)
    same =
        kept_within (λ (after : OnPage C). 3 * left after.conversation - gained after.selection (paged.page after.conversation) ≡ 3 * left (after_on paged on reply).conversation - gained (after_on paged on reply).selection (paged.page (after_on paged on reply).conversation))
        (wants_on paged) (after_on paged) patient reply refl

    by : (3 * left (after_on paged on reply).conversation - gained (after_on paged on reply).selection (paged.page (after_on paged on reply).conversation) + 1 ≤ left_of patient) ⊎ InVain paged left counted on a.inner op a.wants a.is reply
        → (left_of (advanced (wants_on paged) (after_on paged) patient reply) + 1 ≤ left_of patient) ⊎ InVain paged left counted on a.inner op a.wants a.is reply
    by (inl nearer) = inl (omega (arith, nearer, same))
    by (inr vain) = inr vain

  pub some_patient : (patient : Patient (OnPage C)) (op : Op) → op_of (wants_of (wants_on paged) patient) ≡ Some op → 1 ≤ left_of patient
  some_patient patient op asked =
      let a = asked_on paged patient op asked in
      some_left paged left counted patient.conversation.conversation a.inner op a.wants a.is
