-- A conversation on confirmed pages: what is known of the selection, and what the conversation within is told.
use Rattle.std.proofs.Common.{◌≡◌, ℕ, ◌/◌, ◌%◌, Bool, true, false, ◌∷◌, Option, Some, None, refl, sym, ap, subst, ◌∙◌, inl, inr, if◌then◌else◌, ◌<◌, ◌==◌, ◌&&◌, nat_lt, eq-eqb, eqb-true, lt-ltb, ltb-true, []}
use Rattle.std.proofs.lemmas.Bool.{and_from, and_parts}
use Rattle.arrayvec.specs.ArrayVec.{ArrayVec}
use Rattle.bus_model.specs.declared.device.Dev.TheVariants.{A0}
use Rattle.bus_model.specs.declared.operation.Op.{Op}
use Rattle.bus_model.specs.declared.operation.Op.TheVariants.{Store}
use Rattle.bus_model.specs.declared.operation.Reply.{Reply}
use Rattle.bus_model.specs.declared.operation.Reply.TheVariants.{Bytes, Done, Refused}
use Rattle.bus_model.specs.declared.operation.Step.{Step}
use Rattle.bus_model.specs.Operations.{Answers}
use Rattle.conversations.specs.declared.event.Event.{Event}
use Rattle.conversations.specs.declared.event.Event.TheVariants.{Asked, Lacked, Waited}
use Rattle.conversations.specs.declared.next.Next.{Next}
use Rattle.conversations.specs.declared.next.Next.TheVariants.{Do, Wait, End}
use Rattle.conversations.specs.declared.on_page.OnPage.{OnPage}
use Rattle.conversations.specs.Events.{Events, made, steps_of}
use Rattle.conversations.specs.Pauses.{is_refused}
use Rattle.conversations.specs.Selecting.{AddsSelections, ByAddressing, IsFetch, IsSelecting, KeepsTaken, Knows, LacksNone, ShowsNone, WasTaken, WithSelections, chosen, doubting, is_on, lacked, lacked_by, next_on, taken_after, taken_by, since_refusal, trusted}
use Rattle.paged_memory.specs.declared.page_addressing.PageAddressing.{PageAddressing}
use Rattle.paged_memory.specs.declared.page_addressing.PageAddressing.TheVariants.{BankAndPage, PageAlone}
use Rattle.paged_memory.specs.declared.page_addressing.KnownPage.{KnownPage}
use Rattle.paged_memory.specs.declared.page_addressing.KnownPage.TheVariants.{Open, Unknown}
use Rattle.paged_memory.specs.KnownPages.{IsApart, Tells, is_awaited, is_known, missing_page, selected_after, selecting_first, selection_read, selection_told, wanted}
use Rattle.paged_memory.specs.PageAddressing.{History, is_open, read_selection, selection}
use Rattle.paged_memory.proofs.KnownPageLaws.{after_read, after_selection, after_work, by_selection, is_confirmed, read_closes, read_tells, same_page, step_of, tells_next, tells_nothing}

pub record Asks {E : Type 0} (addressing : PageAddressing) (selected : KnownPage) (page : Option ℕ) (within : Next E) (op : Op) : Type 0 where
  pub inner : Op
  pub wants : within ≡ Do inner
  pub is : op ≡ wanted addressing selected page inner

pub asks : {E : Type 0} (addressing : PageAddressing) (selected : KnownPage) (page : Option ℕ) (within : Next E) (op : Op) → next_on addressing selected page within ≡ Do op → Asks addressing selected page within op
asks addressing selected page (Do inner) op e = record { inner = inner; wants = refl; is = cc }
asks addressing selected page (Wait time) op e = absurd cc
asks addressing selected page (End end) op e = absurd cc

pub waits : {E : Type 0} (addressing : PageAddressing) (selected : KnownPage) (page : Option ℕ) (within : Next E) (time : ℕ) → next_on addressing selected page within ≡ Wait time → within ≡ Wait time
waits addressing selected page (Do inner) time e = absurd cc
waits addressing selected page (Wait other) time e = e
waits addressing selected page (End end) time e = absurd cc

missing_by : (known : Bool) (page number : ℕ) → (if known then None else Some page) ≡ Some number → (page ≡ number) × (known ≡ false)
missing_by true page number e = absurd cc
missing_by false page number e = (cc, refl)

-- a page that is missing is needed, and not known
missing_is : (selected : KnownPage) (page : Option ℕ) (number : ℕ) → missing_page selected page ≡ Some number → (page ≡ Some number) × (is_known selected number ≡ false)
missing_is selected None number e = absurd cc
missing_is selected (Some page) number e =
    let (same, unknown) = missing_by (is_known selected page) page number e in
    (ap (λ n. Some n) same, ap (is_known selected) (sym same) ∙ unknown)

module _ (addressing : PageAddressing) (selected : KnownPage) (page : Option ℕ) (inner op : Op) (history : History) (reply : Reply)
    (apart : IsApart addressing inner) (told : Tells addressing selected history) (is : op ≡ wanted addressing selected page inner) where
  -- what is known after it
  known : (after : KnownPage) → selected_after addressing selected (step_of op reply) ≡ after → Tells addressing after (step_of op reply ∷ history)
  known after e = subst (λ (k : KnownPage). Tells addressing k (step_of op reply ∷ history)) e (tells_next addressing selected inner history apart told page (step_of op reply) is)

  is_read : is_awaited selected ≡ true → op ≡ read_selection addressing
  is_read awaited = is ∙ ap (λ (b : Bool). if b then read_selection addressing else selecting_first addressing inner (missing_page selected page)) awaited

  is_first : is_awaited selected ≡ false → (missing : Option ℕ) → missing_page selected page ≡ missing → op ≡ selecting_first addressing inner missing
  is_first closed missing e = is ∙ ap (λ (b : Bool). if b then read_selection addressing else selecting_first addressing inner (missing_page selected page)) closed ∙ ap (selecting_first addressing inner) e

  pub read_back : is_awaited selected ≡ true → Tells addressing (selection_told addressing selected reply) (step_of op reply ∷ history) × IsSelecting addressing page op history
  read_back awaited =
      (known (selection_told addressing selected reply) (ap (λ o. selected_after addressing selected (step_of o reply)) (is_read awaited) ∙ after_read addressing selected reply), inl (told.awaited ∙ awaited, is_read awaited))

  pub selects : is_awaited selected ≡ false → (number : ℕ) → missing_page selected page ≡ Some number → Tells addressing Open (step_of op reply ∷ history) × IsSelecting addressing page op history
  selects closed number missing =
      let same = is_first closed (Some number) missing in
      (known Open (ap (λ o. selected_after addressing selected (step_of o reply)) same ∙ after_selection addressing selected number reply), inr (told.awaited ∙ closed, (number, (missing_is selected page number missing).0, told.known number ∙ (missing_is selected page number missing).1, same)))

  pub works : is_awaited selected ≡ false → missing_page selected page ≡ None → Tells addressing selected (step_of op reply ∷ history) × (op ≡ inner) × (is_open addressing history ≡ false)
  works closed missing =
      let same = is_first closed None missing in
      (known selected (ap (λ o. selected_after addressing selected (step_of o reply)) same ∙ after_work addressing selected inner reply apart), same, told.awaited ∙ closed)

-- the page that is needed is confirmed
pub on_needed : (addressing : PageAddressing) (selected : KnownPage) (page : Option ℕ) (history : History) → Tells addressing selected history → missing_page selected page ≡ None → is_on addressing page history ≡ true
on_needed addressing selected None history told missing = refl
on_needed addressing selected (Some page) history told missing = is_confirmed addressing selected page history told missing

-- ---- the page whose selection was accepted

pub read_is_fetch : (addressing : PageAddressing) → IsFetch (read_selection addressing)
read_is_fetch BankAndPage = tt
read_is_fetch PageAlone = tt

pub selection_stores : (addressing : PageAddressing) (page : ℕ) → IsFetch (selection addressing page) → ⊥
selection_stores BankAndPage page = λ fetch. fetch
selection_stores PageAlone page = by_selection (λ op. IsFetch op → ⊥) page (λ fetch. fetch) (λ fetch. fetch)

number_is : (page number : ℕ) → ◌≡◌ {A = Option ℕ} (Some page) (Some number) → page ≡ number
number_is page number e = cc

not_both : (b : Bool) → b ≡ true → b ≡ false → ⊥
not_both true e h = cc
not_both false e h = cc

none_taken : (may : Bool) (addressing : PageAddressing) (history : History) → is_open addressing history ≡ false → KeepsTaken may addressing None history
none_taken may addressing history closed = record { was = λ page e. absurd cc; is = λ may awaited page was. absurd (not_both (is_open addressing history) awaited closed) }

module _ (may : Bool) (addressing : PageAddressing) (op : Op) (history : History) where
  still_taken : (taken : Option ℕ) (reply : Reply) → op ≡ read_selection addressing → is_open addressing history ≡ true → KeepsTaken may addressing taken history → KeepsTaken may addressing taken (step_of op reply ∷ history)
  still_taken taken reply e awaited keeps = record {
    was = λ page is. let was = keeps.was page is in (was.0, inr (subst IsFetch (sym e) (read_is_fetch addressing), was.1));
    is = λ may again page was. earlier may page was;
  } where
    earlier : may ≡ true → (page : ℕ) → WasTaken addressing page (step_of op reply ∷ history) → taken ≡ Some page
    earlier may page (inl now) = absurd (selection_stores addressing page (subst IsFetch (sym e ∙ now.0) (read_is_fetch addressing)))
    earlier may page (inr before) = keeps.is may awaited page before.1

  taken_read : (taken : Option ℕ) (reply : Reply) → op ≡ read_selection addressing → is_open addressing history ≡ true → ((bytes : ArrayVec ℕ) → reply ≡ Bytes bytes → is_open addressing (step_of op reply ∷ history) ≡ false) →
      KeepsTaken may addressing taken history → KeepsTaken may addressing (taken_after taken reply) (step_of op reply ∷ history)
  taken_read taken (Bytes bytes) e awaited closes keeps = none_taken may addressing (step_of op (Bytes bytes) ∷ history) (closes bytes refl)
  taken_read taken Done e awaited closes keeps = still_taken taken Done e awaited keeps
  taken_read taken Refused e awaited closes keeps = still_taken taken Refused e awaited keeps

  taken_selected : (page : ℕ) (reply : Reply) → op ≡ selection addressing page → KeepsTaken may addressing (taken_by may page reply) (step_of op reply ∷ history)
  taken_selected page reply e = record { was = was may reply refl; is = λ must awaited number taken. is may reply must number taken } where
    was : (m : Bool) (reply : Reply) → may ≡ m → (number : ℕ) → taken_by m page reply ≡ Some number → (may ≡ true) × WasTaken addressing number (step_of op reply ∷ history)
    was m (Bytes bytes) is number some = absurd cc
    was m Refused is number some = absurd cc
    was false Done is number some = absurd cc
    was true Done is number some = (is, inl (e ∙ ap (selection addressing) (number_is page number some), refl))

    is : (m : Bool) (reply : Reply) → m ≡ true → (number : ℕ) → WasTaken addressing number (step_of op reply ∷ history) → taken_by m page reply ≡ Some number
    is m reply must number (inl (chosen_is, done)) =
        ap (λ (r : Reply). taken_by m page r) done ∙ ap (λ (b : Bool). if b then Some page else None) must ∙ ap (λ (n : ℕ). Some n) (same_page addressing page number (sym e ∙ chosen_is))
    is m reply must number (inr before) = absurd (selection_stores addressing page (subst IsFetch e before.0))

lacked_is : (page taken : Option ℕ) (shows : Bool) (number : ℕ) → lacked_by page taken shows ≡ Some number → (page ≡ Some number) × (taken ≡ Some number) × (shows ≡ true) × (0 < number)
lacked_is None taken shows number e = absurd cc
lacked_is (Some page) None shows number e = absurd cc
lacked_is (Some page) (Some taken) shows number e = by_test (shows && (nat_lt 0 page && page == taken)) refl e
  where
    by_test : (b : Bool) → (shows && (nat_lt 0 page && page == taken)) ≡ b → (if b then Some page else None) ≡ Some number → (◌≡◌ {A = Option ℕ} (Some page) (Some number)) × (◌≡◌ {A = Option ℕ} (Some taken) (Some number)) × (shows ≡ true) × (0 < number)
    by_test true test e =
        let parts = and_parts _ _ test in
        let more = and_parts _ _ parts.1 in
        let same : page ≡ number = number_is page number e in
        let is : page ≡ taken = eqb-true page taken more.1 in
        (e, ap (λ (n : ℕ). Some n) (sym is) ∙ e, parts.0, subst (λ (n : ℕ). 0 < n) same (ltb-true 0 page more.0))
    by_test false test e = absurd cc

module _ (may : Bool) (addressing : PageAddressing) (taken : Option ℕ) (op : Op) (history : History) (keeps : KeepsTaken may addressing taken history) (awaited : is_open addressing history ≡ true) where
  shows_none : (page : Option ℕ) (reply : Reply) (number : ℕ) → lacked addressing page taken reply ≡ Some number → op ≡ read_selection addressing → (may ≡ true) × (page ≡ Some number) × ShowsNone addressing number (step_of op reply) history
  shows_none page (Bytes bytes) number e reads =
      let is = lacked_is page taken (is_known (selection_read addressing bytes.items) 0) number e in
      let was = keeps.was number is.1 in
      (was.0, is.0, record { awaited = awaited; reads = reads; shows = read_tells addressing bytes.items 0 ∙ is.2; other = is.3; taken = was.1 })
  shows_none page Done number e reads = absurd cc
  shows_none page Refused number e reads = absurd cc

  lacks_none : (page : Option ℕ) (reply : Reply) → lacked addressing page taken reply ≡ None → LacksNone may addressing page (step_of op reply) history
  lacks_none page (Bytes bytes) e must number needed shows =
      let shown : is_known (selection_read addressing bytes.items) 0 ≡ true = sym (read_tells addressing bytes.items 0) ∙ shows.shows in
      let whole : (is_known (selection_read addressing bytes.items) 0 && (nat_lt 0 number && number == number)) ≡ true = and_from _ _ shown (and_from _ _ (lt-ltb 0 number shows.other) (eq-eqb number number refl)) in
      let some : lacked_by page taken (is_known (selection_read addressing bytes.items) 0) ≡ Some number =
      ap (λ (p : Option ℕ). lacked_by p taken (is_known (selection_read addressing bytes.items) 0)) needed
      ∙ ap (λ (t : Option ℕ). lacked_by (Some number) t (is_known (selection_read addressing bytes.items) 0)) (keeps.is must awaited number shows.taken)
      ∙ ap (λ (b : Bool). if b then Some number else None) whole in
      let never = sym e ∙ some in absurd cc
  lacks_none page Done e must number needed shows = let none = shows.shows in absurd cc
  lacks_none page Refused e must number needed shows = let none = shows.shows in absurd cc

-- ---- by an addressing that is learned on the way

-- it stays once it is known
pub by_next : (by after : Option PageAddressing) (P : PageAddressing → Type 0) → ((addressing : PageAddressing) → by ≡ Some addressing → after ≡ Some addressing) → ByAddressing by P → ByAddressing after P
by_next None None P steady all = all
by_next None (Some addressing) P steady all = all addressing
by_next (Some addressing) after P steady at = subst (λ (by : Option PageAddressing). ByAddressing by P) (sym (steady addressing refl)) at

by_both : (by : Option PageAddressing) (P Q R : PageAddressing → Type 0) → ((addressing : PageAddressing) → P addressing → Q addressing → R addressing) → ByAddressing by P → ByAddressing by Q → ByAddressing by R
by_both None P Q R both p q = λ addressing. both addressing (p addressing) (q addressing)
by_both (Some addressing) P Q R both p q = both addressing p q

fresh_next : (by after : Option PageAddressing) (selected : KnownPage) → ((addressing : PageAddressing) → by ≡ Some addressing → after ≡ Some addressing) → (by ≡ None → selected ≡ Unknown) → after ≡ None → selected ≡ Unknown
fresh_next None after selected steady fresh none = fresh refl
fresh_next (Some addressing) after selected steady fresh none = let some = sym none ∙ steady addressing refl in absurd cc

pub knows_next : (may : Bool) (by after : Option PageAddressing) (selected : KnownPage) (taken : Option ℕ) (history : History) → ((addressing : PageAddressing) → by ≡ Some addressing → after ≡ Some addressing) → Knows may by selected taken history → Knows may after selected taken history
knows_next may by after selected taken history steady (fresh, known) =
    (fresh_next by after selected steady fresh, by_next by after (λ addressing. Tells addressing selected history × KeepsTaken may addressing taken history) steady known)

not_awaited : (selected : KnownPage) → selected ≡ Unknown → is_awaited selected ≡ true → ⊥
not_awaited selected e awaited = let none = ap is_awaited (sym e) ∙ awaited in absurd cc

-- where a read back is awaited, it is known
known_awaited : (by : Option PageAddressing) (selected : KnownPage) → (by ≡ None → selected ≡ Unknown) → is_awaited selected ≡ true → (addressing : PageAddressing) × (by ≡ Some addressing)
known_awaited None selected fresh awaited = absurd (not_awaited selected (fresh refl) awaited)
known_awaited (Some addressing) selected fresh awaited = (addressing, refl)

-- and where a page is needed
known_needed : (by : Option PageAddressing) (page : Option ℕ) (number : ℕ) → (by ≡ None → page ≡ None) → page ≡ Some number → (addressing : PageAddressing) × (by ≡ Some addressing)
known_needed None page number none e = let never = sym (none refl) ∙ e in absurd cc
known_needed (Some addressing) page number none e = (addressing, refl)

pub record Reads (may : Bool) (by : Option PageAddressing) (selected : KnownPage) (taken page : Option ℕ) (op : Op) (history : History) (reply : Reply) : Type 0 where
  pub addressing : PageAddressing
  pub is : by ≡ Some addressing
  pub knows : Knows may by (selection_told (chosen by) selected reply) (taken_after taken reply) (step_of op reply ∷ history)
  pub selecting : IsSelecting addressing page op history
  pub lacks : (number : ℕ) → lacked (chosen by) page taken reply ≡ Some number → (may ≡ true) × (page ≡ Some number) × ShowsNone addressing number (step_of op reply) history
  pub none : lacked (chosen by) page taken reply ≡ None → LacksNone may addressing page (step_of op reply) history

pub record Selects (may : Bool) (by : Option PageAddressing) (page : Option ℕ) (number : ℕ) (op : Op) (history : History) (reply : Reply) : Type 0 where
  pub addressing : PageAddressing
  pub is : by ≡ Some addressing
  pub knows : Knows may by Open (taken_by may number reply) (step_of op reply ∷ history)
  pub selecting : IsSelecting addressing page op history
  pub none : LacksNone may addressing page (step_of op reply) history

pub record Works (may : Bool) (by : Option PageAddressing) (selected : KnownPage) (page : Option ℕ) (inner op : Op) (history : History) (reply : Reply) : Type 0 where
  pub same : op ≡ inner
  pub knows : Knows may by selected None (step_of op reply ∷ history)
  pub stands : ByAddressing by (λ addressing. (is_open addressing history ≡ false) × (is_on addressing page history ≡ true))

module _ (may : Bool) (selected : KnownPage) (taken page : Option ℕ) (inner op : Op) (history : History) (reply : Reply) (apart : (addressing : PageAddressing) → IsApart addressing inner) where
  reads_by : (addressing : PageAddressing) → op ≡ wanted addressing selected page inner → Tells addressing selected history → KeepsTaken may addressing taken history → is_awaited selected ≡ true → Reads may (Some addressing) selected taken page op history reply
  reads_by addressing is told was awaited =
      let (tells, selecting) = read_back addressing selected page inner op history reply (apart addressing) told is awaited in
      let reads : op ≡ read_selection addressing = is ∙ ap (λ (b : Bool). if b then read_selection addressing else selecting_first addressing inner (missing_page selected page)) awaited in
      record {
        addressing = addressing;
        is = refl;
        knows = (λ none. absurd cc, (tells, taken_read may addressing op history taken reply reads (told.awaited ∙ awaited) (λ bytes e. tells.awaited ∙ ap (λ (r : Reply). is_awaited (selection_told addressing selected r)) e ∙ read_closes addressing bytes.items) was));
        selecting = selecting;
        lacks = λ number e. shows_none may addressing taken op history was (told.awaited ∙ awaited) page reply number e reads;
        none = λ e. lacks_none may addressing taken op history was (told.awaited ∙ awaited) page reply e;
      }

  pub reads_back : (by : Option PageAddressing) → op ≡ wanted (chosen by) selected page inner → Knows may by selected taken history → is_awaited selected ≡ true → Reads may by selected taken page op history reply
  reads_back by is knows awaited =
      let (addressing, e) = known_awaited by selected knows.0 awaited in
      let At : Option PageAddressing → Type 0 = λ by. op ≡ wanted (chosen by) selected page inner → Knows may by selected taken history → Reads may by selected taken page op history reply in
      let at : At (Some addressing) = λ is knows. reads_by addressing is knows.1.0 knows.1.1 awaited in
      subst At (sym e) at is knows

  selects_by : (addressing : PageAddressing) → op ≡ wanted addressing selected page inner → Tells addressing selected history → is_awaited selected ≡ false → (number : ℕ) → missing_page selected page ≡ Some number → Selects may (Some addressing) page number op history reply
  selects_by addressing is told closed number missing =
      let (tells, selecting) = selects addressing selected page inner op history reply (apart addressing) told is closed number missing in
      let chooses : op ≡ selection addressing number =
      is ∙ ap (λ (b : Bool). if b then read_selection addressing else selecting_first addressing inner (missing_page selected page)) closed ∙ ap (selecting_first addressing inner) missing in
      record { addressing = addressing; is = refl; knows = (λ none. absurd cc, (tells, taken_selected may addressing op history number reply chooses)); selecting = selecting; none = λ must page needed shows. not_both (is_open addressing history) shows.awaited (told.awaited ∙ closed) }

  pub selects_page : (by : Option PageAddressing) → op ≡ wanted (chosen by) selected page inner → Knows may by selected taken history → (by ≡ None → page ≡ None) → is_awaited selected ≡ false → (number : ℕ) → missing_page selected page ≡ Some number →
      Selects may by page number op history reply
  selects_page by is knows none closed number missing =
      let (addressing, e) = known_needed by page number none (missing_is selected page number missing).0 in
      let At : Option PageAddressing → Type 0 = λ by. op ≡ wanted (chosen by) selected page inner → Knows may by selected taken history → Selects may by page number op history reply in
      let at : At (Some addressing) = λ is knows. selects_by addressing is knows.1.0 closed number missing in
      subst At (sym e) at is knows

  works_by : (addressing : PageAddressing) → op ≡ inner → Tells addressing selected history → is_awaited selected ≡ false → missing_page selected page ≡ None →
      (Tells addressing selected (step_of op reply ∷ history) × KeepsTaken may addressing None (step_of op reply ∷ history)) × ((is_open addressing history ≡ false) × (is_on addressing page history ≡ true))
  works_by addressing same told closed missing =
      let is : op ≡ wanted addressing selected page inner = same ∙ sym (ap (λ (b : Bool). if b then read_selection addressing else selecting_first addressing inner (missing_page selected page)) closed ∙ ap (selecting_first addressing inner) missing) in
      let (tells, _, closed_before) = works addressing selected page inner op history reply (apart addressing) told is closed missing in
      ((tells, none_taken may addressing (step_of op reply ∷ history) (tells.awaited ∙ closed)), (closed_before, on_needed addressing selected page history told missing))

  pub works_inner : (by : Option PageAddressing) → op ≡ wanted (chosen by) selected page inner → Knows may by selected taken history → is_awaited selected ≡ false → missing_page selected page ≡ None → Works may by selected page inner op history reply
  works_inner by is (fresh, known) closed missing =
      let same : op ≡ inner = is ∙ ap (λ (b : Bool). if b then read_selection (chosen by) else selecting_first (chosen by) inner (missing_page selected page)) closed ∙ ap (selecting_first (chosen by) inner) missing in
      record {
        same = same;
        knows = (fresh, by_both by (λ a. Tells a selected history × KeepsTaken may a taken history) (λ a. Unit {0}) (λ a. Tells a selected (step_of op reply ∷ history) × KeepsTaken may a None (step_of op reply ∷ history)) (λ a k u. (works_by a same k.0 closed missing).0) known (by_unit by));
        stands = by_both by (λ a. Tells a selected history × KeepsTaken may a taken history) (λ a. Unit {0}) (λ a. (is_open a history ≡ false) × (is_on a page history ≡ true)) (λ a k u. (works_by a same k.0 closed missing).1) known (by_unit by);
      }
    where
      by_unit : (by : Option PageAddressing) → ByAddressing by (λ a. Unit {0})
      by_unit None = λ a. tt
      by_unit (Some a) = tt

-- ---- what the conversation within is told

module _ (doubts may : Bool) (addressed : Events → Option PageAddressing) (needs : Events → Option ℕ) where
  module _ (P : Events → Type 0) (op : Op) (reply : Reply) (events : Events) (page : Option ℕ) (by : Option PageAddressing) (knows : (own : Events) → P own → by ≡ addressed own) (needed : (own : Events) → P own → page ≡ needs own) where
    known_own : (own : Events) → P own → (addressing : PageAddressing) → by ≡ Some addressing → addressed own ≡ Some addressing
    known_own own at addressing is = sym (knows own at) ∙ is

    -- a transaction for the selection alone
    pub selecting_more : (addressing : PageAddressing) → by ≡ Some addressing → IsSelecting addressing page op (trusted doubts (steps_of events)) → LacksNone may addressing page (step_of op reply) (trusted doubts (steps_of events)) → Answers op reply → WithSelections doubts may addressed needs P events → WithSelections doubts may addressed needs P (made op reply ∷ events)
    selecting_more addressing is selecting none answers (own, adds, at) =
        let e = known_own own at addressing is in
        let before = subst (λ (by : Option PageAddressing). ByAddressing by (λ a. AddsSelections doubts may a needs own events)) e adds in (
          own,
          subst (λ (by : Option PageAddressing). ByAddressing by (λ a. AddsSelections doubts may a needs own (made op reply ∷ events))) (sym e)
              (inl (subst (λ (p : Option ℕ). IsSelecting addressing p op (trusted doubts (steps_of events))) (needed own at) selecting, subst (λ (p : Option ℕ). LacksNone may addressing p (step_of op reply) (trusted doubts (steps_of events))) (needed own at) none, answers, before)),
          at,
        )

    module _ (Q : Events → Type 0) where
      -- one of the conversation within
      pub own_more : ByAddressing by (λ a. (is_open a (trusted doubts (steps_of events)) ≡ false) × (is_on a page (trusted doubts (steps_of events)) ≡ true)) → ((own : Events) → P own → Q (made op reply ∷ own)) →
          ((own : Events) → P own → (a : PageAddressing) → addressed own ≡ Some a → addressed (made op reply ∷ own) ≡ Some a) → WithSelections doubts may addressed needs P events → WithSelections doubts may addressed needs Q (made op reply ∷ events)
      own_more stands more steady (own, adds, at) =
          let stands' = subst (λ (by : Option PageAddressing). ByAddressing by (λ a. (is_open a (trusted doubts (steps_of events)) ≡ false) × (is_on a page (trusted doubts (steps_of events)) ≡ true))) (knows own at) stands in
          let adds' = by_both (addressed own) (λ a. (is_open a (trusted doubts (steps_of events)) ≡ false) × (is_on a page (trusted doubts (steps_of events)) ≡ true)) (λ a. AddsSelections doubts may a needs own events) (λ a. AddsSelections doubts may a needs (made op reply ∷ own) (made op reply ∷ events))
          (λ a s adds. inr (inl (own, refl, s.0, ap (λ (p : Option ℕ). is_on a p (trusted doubts (steps_of events))) (sym (needed own at)) ∙ s.1, adds))) stands' adds in
          (made op reply ∷ own, by_next (addressed own) (addressed (made op reply ∷ own)) (λ a. AddsSelections doubts may a needs (made op reply ∷ own) (made op reply ∷ events)) (steady own at) adds', more own at)

      -- a page that it needs isn't there
      pub lacks_more : (addressing : PageAddressing) → by ≡ Some addressing → (number : ℕ) → may ≡ true → page ≡ Some number → ShowsNone addressing number (record { op = op; reply = reply }) (trusted doubts (steps_of events)) → Answers op reply → ((own : Events) → P own → Q (Lacked number ∷ own)) →
          ((own : Events) → P own → (a : PageAddressing) → addressed own ≡ Some a → addressed (Lacked number ∷ own) ≡ Some a) → WithSelections doubts may addressed needs P events → WithSelections doubts may addressed needs Q (made op reply ∷ events)
      lacks_more addressing is number must here shows answers more steady (own, adds, at) =
          let e = known_own own at addressing is in
          let before = subst (λ (by : Option PageAddressing). ByAddressing by (λ a. AddsSelections doubts may a needs own events)) e adds in (
            Lacked number ∷ own,
            subst (λ (by : Option PageAddressing). ByAddressing by (λ a. AddsSelections doubts may a needs (Lacked number ∷ own) (made op reply ∷ events))) (sym (steady own at addressing e))
                (inr (inr (number, own, refl, must, sym (needed own at) ∙ here, shows, answers, before))),
            more own at,
          )

  -- an event that is no transaction
  abbrev pub Passes : Event → Events → Type 0
  Passes event events = (addressing : PageAddressing) (own : Events) → AddsSelections doubts may addressing needs own events → AddsSelections doubts may addressing needs (event ∷ own) (event ∷ events)

  event_more : (P Q : Events → Type 0) (event : Event) (events : Events) → Passes event events → ((own : Events) → P own → Q (event ∷ own)) → ((own : Events) → P own → (a : PageAddressing) → addressed own ≡ Some a → addressed (event ∷ own) ≡ Some a) →
      WithSelections doubts may addressed needs P events → WithSelections doubts may addressed needs Q (event ∷ events)
  event_more P Q event events passes more steady (own, adds, at) =
      let adds' = by_both (addressed own) (λ a. AddsSelections doubts may a needs own events) (λ a. AddsSelections doubts may a needs own events) (λ a. AddsSelections doubts may a needs (event ∷ own) (event ∷ events)) (λ a adds again. passes a own adds) adds adds in
      (event ∷ own, by_next (addressed own) (addressed (event ∷ own)) (λ a. AddsSelections doubts may a needs (event ∷ own) (event ∷ events)) (steady own at) adds', more own at)

  pub wait_passes : (time : ℕ) (events : Events) → Passes (Waited time) events
  wait_passes time events addressing own adds = (own, refl, adds)

  pub word_passes : (number : ℕ) (events : Events) → Passes (Asked number) events
  word_passes number events addressing own adds = (own, refl, adds)

-- ---- one event more of any conversation within

module _ {C T : Type 0} (doubts : Bool) (may : T → Bool) (told : Events → C → Type 0) (topic : C → T) (addressing : C → Option PageAddressing) (addressed : T → Events → Option PageAddressing) (needs : T → Events → Option ℕ) where
  -- what its methods ensure
  pub record Follows (old new : C) (event : Event) : Type 0 where
    pub same : topic new ≡ topic old
    pub more : (own : Events) → told own old → told (event ∷ own) new
    pub before : (own : Events) → told own old → addressing old ≡ addressed (topic old) own
    pub after : (own : Events) → told own new → addressing new ≡ addressed (topic new) own
    pub steady : (own : Events) (by : PageAddressing) → told (event ∷ own) new → addressed (topic new) own ≡ Some by → addressing new ≡ Some by

  abbrev pub Within : C → C → Events → Type 0
  Within kept now events = WithSelections doubts (may (topic kept)) (addressed (topic kept)) (needs (topic kept)) (λ own. told own now) events

  module _ (old new : C) (event : Event) (f : Follows old new event) where
    pub steady_own : (own : Events) → told own old → (by : PageAddressing) → addressed (topic old) own ≡ Some by → addressed (topic old) (event ∷ own) ≡ Some by
    steady_own own at by e =
        subst (λ (t : T). addressed t own ≡ Some by → addressed t (event ∷ own) ≡ Some by) f.same (λ e. sym (f.after (event ∷ own) (f.more own at)) ∙ f.steady own by (f.more own at) e) e

    pub steady_by : (events : Events) → Within old old events → (by : PageAddressing) → addressing old ≡ Some by → addressing new ≡ Some by
    steady_by events (own, adds, at) by e =
        f.steady own by (f.more own at) (subst (λ (t : T). addressed t own ≡ Some by) (sym f.same) (sym (f.before own at) ∙ e))

    pub in_topic : (selected : KnownPage) (taken : Option ℕ) (history : History) (events : Events) → Knows (may (topic old)) (addressing new) selected taken history × Within old new events →
        Knows (may (topic new)) (addressing new) selected taken history × Within new new events
    in_topic selected taken history events all =
        subst (λ (t : T). Knows (may t) (addressing new) selected taken history × WithSelections doubts (may t) (addressed t) (needs t) (λ own. told own new) events) (sym f.same) all

    pub event_told : (selected : KnownPage) (taken : Option ℕ) (events : Events) → Passes doubts (may (topic old)) (addressed (topic old)) (needs (topic old)) event events → steps_of (event ∷ events) ≡ steps_of events →
        Knows (may (topic old)) (addressing old) selected taken (trusted doubts (steps_of events)) × Within old old events →
        Knows (may (topic new)) (addressing new) selected taken (trusted doubts (steps_of (event ∷ events))) × Within new new (event ∷ events)
    event_told selected taken events passes same (knows, within) =
        let still = knows_next (may (topic old)) (addressing old) (addressing new) selected taken (trusted doubts (steps_of events)) (steady_by events within) knows in
        in_topic selected taken (trusted doubts (steps_of (event ∷ events))) (event ∷ events) (
          subst (λ (history : History). Knows (may (topic old)) (addressing new) selected taken (trusted doubts history)) (sym same) still,
          event_more doubts (may (topic old)) (addressed (topic old)) (needs (topic old)) (λ own. told own old) (λ own. told own new) event events passes f.more steady_own within,
        )

-- ---- after a refusal

unknown_by : (may : Bool) (by : Option PageAddressing) → Knows may by Unknown None []
unknown_by may None = (λ none. refl, λ addressing. (tells_nothing addressing, none_taken may addressing [] refl))
unknown_by may (Some addressing) = (λ none. refl, (tells_nothing addressing, none_taken may addressing [] refl))

-- where nothing is doubted, the step is believed
believed : (may doubts : Bool) (by : Option PageAddressing) (selected : KnownPage) (taken : Option ℕ) (step : Step) (history : History) → (doubts && is_refused step.reply) ≡ false →
    Knows may by selected taken (step ∷ trusted doubts history) → Knows may by selected taken (trusted doubts (step ∷ history))
believed may false by selected taken step history e knows = knows
believed may true by selected taken step history e knows = subst (λ (b : Bool). Knows may by selected taken (if b then [] else step ∷ since_refusal history)) (sym e) knows

doubted : (may doubts : Bool) (by : Option PageAddressing) (step : Step) (history : History) → (doubts && is_refused step.reply) ≡ true → Knows may by Unknown None (trusted doubts (step ∷ history))
doubted may false by step history e = absurd cc
doubted may true by step history e = subst (λ (b : Bool). Knows may by Unknown None (if b then [] else step ∷ since_refusal history)) (sym e) (unknown_by may by)

-- one step more, for those who doubt and those who don't
pub after_doubt : {C : Type 0} (may : C → Bool) (by : C → Option PageAddressing) (Rest : Bool → C → Type 0) (on : OnPage C) (op : Op) (reply : Reply) (history : History) →
    Knows (may on.conversation) (by on.conversation) on.selection on.taken (step_of op reply ∷ trusted on.doubts history) × Rest on.doubts on.conversation →
    let new = doubting on reply in Knows (may new.conversation) (by new.conversation) new.selection new.taken (trusted new.doubts (step_of op reply ∷ history)) × Rest new.doubts new.conversation
after_doubt {C} may by Rest on op reply history (knows, rest) = told (on.doubts && is_refused reply) refl
  where
    told : (b : Bool) → (on.doubts && is_refused reply) ≡ b →
        let new : OnPage C = if b then record { conversation = on.conversation; selection = Unknown; taken = None; doubts = on.doubts } else on in
        Knows (may new.conversation) (by new.conversation) new.selection new.taken (trusted new.doubts (step_of op reply ∷ history)) × Rest new.doubts new.conversation
    told true e = (doubted (may on.conversation) on.doubts (by on.conversation) (step_of op reply) history e, rest)
    told false e = (believed (may on.conversation) on.doubts (by on.conversation) on.selection on.taken (step_of op reply) history e knows, rest)
