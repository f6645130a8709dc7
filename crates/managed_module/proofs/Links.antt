-- On a simulated module the page that was selected is read back, or page 00h in place of one that is lacked. So an operation is in
-- vain only if it reads a state.
use Rattle.std.proofs.Common.{◌≡◌, ◌⊎◌, inl, inr, ◌<◌, ◌/◌, ◌%◌, ◌∷◌, ℕ, Bool, true, false, List, [], Option, Some, None, refl, sym, ap, subst, ◌∙◌, arith, nat_lt, if◌then◌else◌, eq-eqb}
use Rattle.std.specs.Prelude.{◌==◌, ◌&&◌}
use Rattle.std.specs.FinMap as finmap
use Rattle.arrayvec.specs.ArrayVec.{ArrayVec}
use Rattle.bus_model.specs.declared.device.Dev.TheVariants.{A0, A2}
use Rattle.bus_model.specs.declared.operation.Op.{Op}
use Rattle.bus_model.specs.declared.operation.Op.TheVariants.{Fetch, Store}
use Rattle.bus_model.specs.declared.operation.Reply.{Reply}
use Rattle.bus_model.specs.declared.operation.Reply.TheVariants.{Bytes, Done, Refused}
use Rattle.bus_model.specs.ScriptedBus.{passed_on}
use Rattle.conversations.specs.declared.next.Next.TheVariants.{Do}
use Rattle.conversations.specs.declared.on_page.OnPage.{OnPage}
use Rattle.conversations.specs.Pauses.{is_refused}
use Rattle.conversations.specs.Selecting.{after_missing, chosen, lacked, lacked_by, taken_by}
use Rattle.paged_memory.specs.declared.page_addressing.KnownPage.{KnownPage}
use Rattle.paged_memory.specs.declared.page_addressing.KnownPage.TheVariants.{Page as Known}
use Rattle.paged_memory.specs.declared.page_addressing.PageAddressing.{PageAddressing}
use Rattle.paged_memory.specs.declared.page_addressing.PageAddressing.TheVariants.{BankAndPage}
use Rattle.paged_memory.specs.Keys.{page_key}
use Rattle.paged_memory.specs.KnownPages.{is_awaited, is_known, missing_page, selecting_first, selection_read, wanted}
use Rattle.paged_memory.specs.PageAddressing.{read_selection}
use Rattle.paged_memory.proofs.KnownPageLaws.{read_closes}
use Rattle.port_manager.specs.declared.deciding.Wanted.{Wanted}
use Rattle.port_manager.specs.declared.job.Job.{Job}
use Rattle.port_manager.specs.Jobs.{asked}
use Rattle.port_manager.specs.Patients.{Paged, after_on}
use Rattle.port_manager.specs.RefusedApplies.{is_refused_apply}
use Rattle.port_manager.specs.Turns.{IsTurnOf, Turn}
use Rattle.port_manager.proofs.PageProgress.{Counted, ReadsOther}
use Rattle.port_manager.proofs.PatientLaws.{doubting_if, trusting_if}
use Rattle.port_manager.proofs.RefusedApplyLaws.{goes_on}
use Rattle.sim_module.specs.declared.module.SimModule.{SimModule}
use Rattle.sim_module.specs.Modules.{conduct}
use Rattle.sim_module.specs.Ticks.{ticked}
use Rattle.managed_module.specs.Managed.{HasHalves}
use Rattle.managed_module.proofs.Halves.{IsSelected, answers_fetch, reads_back, reads_number, selects, shown, shows_selected, shows_there, takes_store}
use Rattle.port_manager.proofs.TurnCases.{IsAnyTurn}

-- the operation is on device A0
abbrev pub IsOnA0 : Op → Type 0
IsOnA0 (Fetch A0 offset count) = Unit {0}
IsOnA0 (Fetch A2 offset count) = ⊥
IsOnA0 (Store A0 offset bytes) = Unit {0}
IsOnA0 (Store A2 offset bytes) = ⊥

abbrev reply_of : SimModule → Op → Reply
reply_of sim op = (passed_on conduct op sim).0

without : (refused : Bool) → (refused && false) ≡ false
without true = refl
without false = refl

-- nothing is refused
pub not_refused : (sim : SimModule) (op : Op) → HasHalves sim → IsOnA0 op → reply_of sim op ≡ Refused → ⊥
not_refused sim (Fetch A0 offset count) has on is = let (bytes, e) = answers_fetch sim offset count has in let same : Bytes (record { items = bytes }) ≡ Refused = sym e ∙ is in cc
not_refused sim (Fetch A2 offset count) has on is = on
not_refused sim (Store A0 offset bytes) has on is = let same : Done ≡ Refused = sym (takes_store sim offset bytes.items has) ∙ is in cc
not_refused sim (Store A2 offset bytes) has on is = on

-- an apply isn't either, so that each reply is taken by the job
applies : (sim : SimModule) (op : Op) (reply : Reply) → HasHalves sim → reply ≡ reply_of sim op → is_refused_apply (Some op) reply ≡ false
applies sim (Fetch dev offset count) reply has gives = without (is_refused reply)
applies sim (Store A2 offset bytes) reply has gives = without (is_refused reply)
applies sim (Store A0 offset bytes) reply has gives =
    ap (λ (reply : Reply). is_refused_apply (Some (Store A0 offset bytes)) reply) (gives ∙ takes_store sim offset bytes.items has)

pub takes_reply : (sim : SimModule) (op : Op) (reply : Reply) (wanted : Wanted) (job : Job) (turn : Turn) → HasHalves sim → reply ≡ reply_of sim op → asked job ≡ Some op → IsAnyTurn wanted job reply turn → IsTurnOf wanted job reply turn
takes_reply sim op reply wanted job turn has gives asks is =
    goes_on wanted job reply turn (ap (λ (found : Option Op). is_refused_apply found reply) asks ∙ applies sim op reply has gives) is

-- ---- links

-- what was selected last is the page that is needed, while its read back is awaited
pub record IsLinkedTo {C E : Type 0} (paged : Paged C E) (on : OnPage C) (sim : SimModule) : Type 0 where
  pub page : ℕ
  pub needs : paged.page on.conversation ≡ Some page
  pub selected : IsSelected sim page
  pub taken : paged.may_lack ≡ true → on.taken ≡ Some page

abbrev pub Link : {C E : Type 0} → Paged C E → OnPage C → SimModule → Type 0
Link paged on sim = is_awaited on.selection ≡ true → IsLinkedTo paged on sim

pub false_not_true : (b : Bool) → b ≡ false → b ≡ true → ⊥
false_not_true b e f = let same : false ≡ true = sym e ∙ f in cc

missing_needed : (selected : KnownPage) (needed : Option ℕ) (page : ℕ) → missing_page selected needed ≡ Some page → needed ≡ Some page
missing_needed selected None page e = absurd cc
missing_needed selected (Some other) page e = by (is_known selected other) e where
  by : (known : Bool) → (if known then None else Some other) ≡ Some page → Some other ≡ Some page
  by true e = absurd cc
  by false e = e

positive_test : (page : ℕ) → 0 < page → nat_lt 0 page ≡ true
positive_test page positive = grind (arith, positive)

and_false : (b : Bool) → (b && false) ≡ false
and_false true = refl
and_false false = refl

module _ {C E : Type 0} (paged : Paged C E) (on : OnPage C) (inner op : Op) (sim : SimModule) (has : HasHalves sim) (way : chosen (paged.addressing on.conversation) ≡ BankAndPage)
    (is : op ≡ wanted (chosen (paged.addressing on.conversation)) on.selection (paged.page on.conversation) inner) where
  abbrev by : PageAddressing
  by = chosen (paged.addressing on.conversation)

  abbrev needed : Option ℕ
  needed = paged.page on.conversation

  abbrev sim_after : SimModule
  sim_after = ticked (passed_on conduct op sim).1

  pub is_read : is_awaited on.selection ≡ true → op ≡ read_selection BankAndPage
  is_read awaited = is ∙ ap (λ (b : Bool). if b then read_selection by else selecting_first by inner (missing_page on.selection needed)) awaited ∙ ap read_selection way

  pub is_first : (missing : Option ℕ) → is_awaited on.selection ≡ false → missing_page on.selection needed ≡ missing → op ≡ selecting_first BankAndPage inner missing
  is_first missing closed m =
      is ∙ ap (λ (b : Bool). if b then read_selection by else selecting_first by inner (missing_page on.selection needed)) closed
      ∙ ap (selecting_first by inner) m ∙ ap (λ (by : PageAddressing). selecting_first by inner missing) way

  pub told_back : (reply : Reply) → reply ≡ reply_of sim op → is_awaited on.selection ≡ true → reply ≡ Bytes (record { items = shown sim })
  told_back reply gives awaited = gives ∙ ap (reply_of sim) (is_read awaited) ∙ reads_back sim has

  -- ---- the link after the operation

  pub undoubted : (reply : Reply) → (reply ≡ Refused → ⊥) → after_on paged on reply ≡ trusting_if (is_awaited on.selection) paged on reply
  undoubted (Bytes bytes) answered = ap (λ (b : Bool). doubting_if b (trusting_if (is_awaited on.selection) paged on (Bytes bytes))) (and_false (trusting_if (is_awaited on.selection) paged on (Bytes bytes)).doubts)
  undoubted Done answered = ap (λ (b : Bool). doubting_if b (trusting_if (is_awaited on.selection) paged on Done)) (and_false (trusting_if (is_awaited on.selection) paged on Done).doubts)
  undoubted Refused answered = absurd (answered refl)

  module _ (reply : Reply) (gives : reply ≡ reply_of sim op) where
    missing_link : (missing : Option ℕ) → missing_page on.selection needed ≡ missing → is_awaited on.selection ≡ false → Link paged (after_missing paged.after paged.may_lack missing on reply) sim_after
    missing_link None m closed = λ opened. absurd (false_not_true (is_awaited on.selection) closed opened)
    missing_link (Some page) m closed = λ opened. record {
      page = page;
      needs = missing_needed on.selection needed page m;
      selected = subst (λ (op : Op). IsSelected (ticked (passed_on conduct op sim).1) page) (sym (is_first (Some page) closed m)) (selects sim page has);
      taken = λ may. ap (λ (b : Bool). taken_by b page reply) may
          ∙ ap (taken_by true page) (gives ∙ ap (reply_of sim) (is_first (Some page) closed m) ∙ takes_store sim 126 (page / 256 ∷ page % 256 ∷ []) has);
    }

    link_by : (awaited : Bool) → is_awaited on.selection ≡ awaited → Link paged (trusting_if awaited paged on reply) sim_after
    link_by true e = λ opened.
        absurd (false_not_true (is_awaited (trusting_if true paged on reply).selection)
        (ap (λ (reply : Reply). is_awaited (trusting_if true paged on reply).selection) (told_back reply gives e) ∙ read_closes by (shown sim)) opened)
    link_by false e = missing_link (missing_page on.selection needed) refl e

    pub link_after : (reply ≡ Refused → ⊥) → Link paged (after_on paged on reply) sim_after
    link_after answered = subst (λ (after : OnPage C). Link paged after sim_after) (sym (undoubted reply answered)) (link_by (is_awaited on.selection) refl)

  -- ---- what is read back is the page that is needed, or it is lacked

  abbrev MayBe : Type 0
  MayBe = (page : ℕ) → needed ≡ Some page
      → (finmap.contains_key sim.image (page_key page) ≡ true) ⊎ ((paged.may_lack ≡ true) × ((number : ℕ) → paged.lacking on.conversation number ≡ on.conversation → ⊥))

  module _ (left : C → ℕ) (counted : Counted paged left) (wants : paged.wants on.conversation ≡ Do inner) (reply : Reply) (gives : reply ≡ reply_of sim op) (link : Link paged on sim) (may_be : MayBe) where
    abbrev Other : Type 0
    Other = ReadsOther paged left counted on inner op wants is reply

    bytes_are : (other : Other) → other.bytes.items ≡ shown sim
    bytes_are other =
        let same : Bytes (record { items = shown sim }) ≡ Bytes other.bytes = sym (told_back reply gives other.awaited) ∙ other.reads in
        let bytes : ◌≡◌ {A = ArrayVec ℕ} (record { items = shown sim }) other.bytes = cc in
        sym (ap (λ (bytes : ArrayVec ℕ). bytes.items) bytes)

    -- the page that is needed was read
    same_read : (other : Other) (page : ℕ) → needed ≡ Some page → shown sim ≡ page / 256 ∷ page % 256 ∷ [] → ⊥
    same_read other page needs shows =
        let known : selection_read by other.bytes.items ≡ Known page = ap (λ (by : PageAddressing). selection_read by other.bytes.items) way ∙ ap (selection_read BankAndPage) (bytes_are other ∙ shows) ∙ reads_number page in
        let none : missing_page (selection_read by other.bytes.items) needed ≡ None =
        ap (λ (known : KnownPage). missing_page known needed) known ∙ ap (missing_page (Known page)) needs ∙ ap (λ (b : Bool). if b then None else Some page) (eq-eqb page page refl) in
        let same : None ≡ Some other.page = sym none ∙ other.missing in cc

    -- page 00h was read, and the page is lacked
    zero_read : (other : Other) (page : ℕ) → needed ≡ Some page → shown sim ≡ 0 ∷ 0 ∷ [] → 0 < page → on.taken ≡ Some page → lacked by needed on.taken (Bytes other.bytes) ≡ Some page
    zero_read other page needs shows positive taken =
        let known : is_known (selection_read by other.bytes.items) 0 ≡ true =
        ap (λ (by : PageAddressing). is_known (selection_read by other.bytes.items) 0) way ∙ ap (λ (bytes : List ℕ). is_known (selection_read BankAndPage bytes) 0) (bytes_are other ∙ shows) in
        ap (λ (b : Bool). lacked_by needed on.taken b) known ∙ ap (λ (n : Option ℕ). lacked_by n on.taken true) needs ∙ ap (λ (t : Option ℕ). lacked_by (Some page) t true) taken
        ∙ ap (λ (b : Bool). if b && page == page then Some page else None) (positive_test page positive) ∙ ap (λ (b : Bool). if b then Some page else None) (eq-eqb page page refl)

    lacks_it : (other : Other) (page : ℕ) → ((number : ℕ) → paged.lacking on.conversation number ≡ on.conversation → ⊥) → lacked by needed on.taken (Bytes other.bytes) ≡ Some page → ⊥
    lacks_it other page never lacks = at other.stays where
      at : (lacked by needed on.taken (Bytes other.bytes) ≡ None) ⊎ ((number : ℕ) × (lacked by needed on.taken (Bytes other.bytes) ≡ Some number) × (paged.lacking on.conversation number ≡ on.conversation)) → ⊥
      at (inl none) = let same : None ≡ Some page = sym none ∙ lacks in cc
      at (inr (number, e, same)) = never number same

    pub no_other : Other → ⊥
    no_other other = at (link other.awaited) where
      there_or : (linked : IsLinkedTo paged on sim) → (finmap.contains_key sim.image (page_key linked.page) ≡ true) ⊎ ((paged.may_lack ≡ true) × ((number : ℕ) → paged.lacking on.conversation number ≡ on.conversation → ⊥)) → ⊥
      there_or linked (inl there) = same_read other linked.page linked.needs (shows_there sim linked.page there linked.selected)
      there_or linked (inr (may, never)) = shows (shows_selected sim linked.page has linked.selected) where
        shows : (shown sim ≡ linked.page / 256 ∷ linked.page % 256 ∷ []) ⊎ ((shown sim ≡ 0 ∷ 0 ∷ []) × (0 < linked.page)) → ⊥
        shows (inl e) = same_read other linked.page linked.needs e
        shows (inr (e, positive)) = lacks_it other linked.page never (zero_read other linked.page linked.needs e positive (linked.taken may))

      at : IsLinkedTo paged on sim → ⊥
      at linked = there_or linked (may_be linked.page linked.needs)
