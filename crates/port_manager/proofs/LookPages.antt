-- What a look knows of the page selection is what the steps say that it took.
use Rattle.std.proofs.Common.{◌≡◌, ◌∙◌, ℕ, Bool, true, false, [], ◌∷◌, ◌++◌, Option, Some, None, refl, sym, ap, subst}
use Rattle.std.specs.Prelude.{◌&&◌, ◌||◌, not, if◌then◌else◌}
use Rattle.bus_model.specs.declared.operation.Op.{Op}
use Rattle.bus_model.specs.declared.operation.Reply.{Reply}
use Rattle.conversations.specs.declared.next.Next.TheVariants.{Do}
use Rattle.conversations.specs.declared.on_page.OnPage.{OnPage}
use Rattle.conversations.specs.Pauses.{is_refused}
use Rattle.conversations.specs.Selecting.{after_missing}
use Rattle.conversations.specs.Wanted.{op_of}
use Rattle.paged_memory.specs.declared.page_addressing.KnownPage.{KnownPage}
use Rattle.paged_memory.specs.declared.page_addressing.KnownPage.TheVariants.{Unknown, Open}
use Rattle.paged_memory.specs.declared.page_addressing.PageAddressing.{PageAddressing}
use Rattle.paged_memory.specs.declared.page_addressing.PageAddressing.TheVariants.{BankAndPage}
use Rattle.paged_memory.specs.KnownPages.{IsApart, Tells, is_awaited, missing_page, selected_after, selecting_first, selection_told, wanted as page_first}
use Rattle.paged_memory.specs.PageAddressing.{History, is_page_confirmed, may_select, read_selection, reads_back, selection}
use Rattle.paged_memory.proofs.KnownPageLaws.{after_read, after_selection, after_work, is_confirmed, tells_next, tells_nothing}
use Rattle.port_manager.specs.declared.look.Look.{Look}
use Rattle.port_manager.specs.declared.look.LookStage.{LookStage}
use Rattle.port_manager.specs.declared.look.LookStage.TheVariants as looking
use Rattle.port_manager.specs.Jobs.{look_after, look_wants, paged_look}
use Rattle.port_manager.specs.Looks as looks
use Rattle.port_manager.specs.Patients.{Patient, after_on, wants_on}
use Rattle.port_manager.specs.Standing.{IsKnownOf}
use Rattle.port_manager.specs.Stories.{step_with}
use Rattle.port_manager.proofs.PatientLaws.{asked_on, doubting_if, kept_within, trusting_if}

-- ---- steps that confirm a page do so after others

confirmed_or : (reads selects recent all : Bool) → (reads || (not selects && recent)) ≡ true → (recent ≡ true → all ≡ true) → (reads || (not selects && all)) ≡ true
confirmed_or true selects recent all e more = refl
confirmed_or false true recent all e more = e
confirmed_or false false recent all e more = more e

more_confirmed : (addressing : PageAddressing) (page : ℕ) (recent earlier : History) → is_page_confirmed addressing page recent ≡ true → is_page_confirmed addressing page (recent ++ earlier) ≡ true
more_confirmed addressing page [] earlier e = absurd cc
more_confirmed addressing page (step ∷ recent) earlier e =
    confirmed_or (reads_back addressing page step) (may_select addressing step.op) (is_page_confirmed addressing page recent) (is_page_confirmed addressing page (recent ++ earlier)) e
    (more_confirmed addressing page recent earlier)

-- a page that is known to be selected is confirmed
pub stands_on : (selected : KnownPage) (needed : Option ℕ) (history : History) → IsKnownOf history selected → missing_page selected needed ≡ None → (page : ℕ) → needed ≡ Some page
    → is_page_confirmed BankAndPage page history ≡ true
stands_on selected needed history known none page needs =
    let there : missing_page selected (Some page) ≡ None = subst (λ (needed : Option ℕ). missing_page selected needed ≡ None) needs none in
    subst (λ (history : History). is_page_confirmed BankAndPage page history ≡ true) (sym known.all)
    (more_confirmed BankAndPage page known.recent known.earlier (is_confirmed BankAndPage selected page known.recent known.tells there))

-- ---- a look

-- it begins without knowing any
pub knows_nothing : (history : History) → IsKnownOf history Unknown
knows_nothing history = record { recent = []; earlier = history; all = refl; tells = tells_nothing BankAndPage }

-- its own operations leave the selection alone
fetches_apart : (at : LookStage) (inner : Op) → looks.wants_at at ≡ Do inner → IsApart BankAndPage inner
fetches_apart looking.Lower inner e = let same : looks.fetch_half 0 ≡ inner = cc in subst (IsApart BankAndPage) same (record { not_selecting = refl; not_reading_back = refl })
fetches_apart looking.Lanes inner e = let same : looks.fetch_half 128 ≡ inner = cc in subst (IsApart BankAndPage) same (record { not_selecting = refl; not_reading_back = refl })
fetches_apart (looking.Seen wanted) inner e = absurd cc

module _ (on : OnPage Look) (inner op : Op) (reply : Reply) (is : op ≡ page_first BankAndPage on.selection (looks.needed on.conversation) inner) (history : History) (apart : IsApart BankAndPage inner)
    (known : IsKnownOf history on.selection) where
  abbrev later : History
  later = step_with op reply ∷ history

  known_if : (selected : KnownPage) → selected_after BankAndPage on.selection (step_with op reply) ≡ selected → IsKnownOf later selected
  known_if selected e = record {
    recent = step_with op reply ∷ known.recent;
    earlier = known.earlier;
    all = ap (λ (h : History). step_with op reply ∷ h) known.all;
    tells =
        subst (λ (selected : KnownPage). Tells BankAndPage selected (step_with op reply ∷ known.recent)) e
        (tells_next BankAndPage on.selection inner known.recent apart known.tells (looks.needed on.conversation) (step_with op reply) is);
  }

  -- by which operation it is
  known_by : (made : Op) (selected : KnownPage) → op ≡ made → selected_after BankAndPage on.selection (step_with made reply) ≡ selected → IsKnownOf later selected
  known_by made selected same e = known_if selected (ap (λ (op : Op). selected_after BankAndPage on.selection (step_with op reply)) same ∙ e)

  is_if : (awaited : Bool) → is_awaited on.selection ≡ awaited → op ≡ (if awaited then read_selection BankAndPage else selecting_first BankAndPage inner (missing_page on.selection (looks.needed on.conversation)))
  is_if awaited e = is ∙ ap (λ (b : Bool). if b then read_selection BankAndPage else selecting_first BankAndPage inner (missing_page on.selection (looks.needed on.conversation))) e

  known_missing : (missing : Option ℕ) → missing_page on.selection (looks.needed on.conversation) ≡ missing → is_awaited on.selection ≡ false → IsKnownOf later (after_missing looks.after false missing on reply).selection
  known_missing None m closed = known_by inner on.selection (is_if false closed ∙ ap (selecting_first BankAndPage inner) m) (after_work BankAndPage on.selection inner reply apart)
  known_missing (Some page) m closed =
      known_by (selection BankAndPage page) Open (is_if false closed ∙ ap (selecting_first BankAndPage inner) m) (after_selection BankAndPage on.selection page reply)

  known_trusting : (awaited : Bool) → is_awaited on.selection ≡ awaited → IsKnownOf later (trusting_if awaited paged_look on reply).selection
  known_trusting true e = known_by (read_selection BankAndPage) (selection_told BankAndPage on.selection reply) (is_if true e) (after_read BankAndPage on.selection reply)
  known_trusting false e = known_missing (missing_page on.selection (looks.needed on.conversation)) refl e

  known_doubting : (doubt : Bool) (after : OnPage Look) → IsKnownOf later after.selection → IsKnownOf later (doubting_if doubt after).selection
  known_doubting true after known = knows_nothing later
  known_doubting false after known = known

  known_after : IsKnownOf later (after_on paged_look on reply).selection
  known_after =
      let after = trusting_if (is_awaited on.selection) paged_look on reply in
      known_doubting (after.doubts && is_refused reply) after (known_trusting (is_awaited on.selection) refl)

pub look_known : (job : Patient (OnPage Look)) (op : Op) (reply : Reply) (history : History) → op_of (look_wants job) ≡ Some op → IsKnownOf history job.conversation.conversation.selection
    → IsKnownOf (step_with op reply ∷ history) (look_after job reply).conversation.conversation.selection
look_known job op reply history asks known =
    let on = job.conversation.conversation in
    let a = asked_on paged_look job op asks in
    kept_within (λ (after : OnPage Look). IsKnownOf (step_with op reply ∷ history) after.selection) (wants_on paged_look) (after_on paged_look) job reply
    (known_after on a.inner op reply a.is history (fetches_apart on.conversation.stage a.inner a.wants) known)
