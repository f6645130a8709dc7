-- What a reading wants is a read back of the selection, the selection of its page, or the work of its stage on that page.
use Rattle.std.proofs.Common.{◌≡◌, ℕ, ◌==◌, Bool, true, false, [], ◌∷◌, Some, None, refl, sym, ap, subst, ◌∙◌, if◌then◌else◌}
use Rattle.std.proofs.lemmas.Bool.{eqb-true}
use Rattle.bus_model.specs.declared.operation.Op.{Op}
use Rattle.bus_model.specs.declared.operation.Reply.{Reply}
use Rattle.bus_model.specs.Operations.{Answers}
use Rattle.conversations.specs.declared.event.Event.TheVariants.{Made, Waited, Lacked, Asked}
use Rattle.conversations.specs.declared.next.Next.{Next}
use Rattle.conversations.specs.declared.next.Next.TheVariants.{Do, Wait, End}
use Rattle.conversations.specs.Events.{Events, steps_of}
use Rattle.paged_memory.specs.declared.page_addressing.PageAddressing.TheVariants.{BankAndPage}
use Rattle.paged_memory.specs.declared.page_addressing.KnownPage.{KnownPage}
use Rattle.paged_memory.specs.declared.page_addressing.KnownPage.TheVariants.{Unknown, Open, Page}
use Rattle.paged_memory.specs.KnownPages.{is_awaited, is_known, missing_page, selecting_first, wanted}
use Rattle.paged_memory.specs.PageAddressing.{History, read_selection, selection}
use Rattle.paged_memory.proofs.KnownPageLaws.{step_of}
use Rattle.vdm_reading.specs.declared.end.VdmEnd.{VdmEnd}
use Rattle.vdm_reading.specs.declared.reading.VdmReading.{VdmReading}
use Rattle.vdm_reading.specs.declared.reading.VdmRequest.{VdmRequest}
use Rattle.vdm_reading.specs.VdmAccounts.{EachIsWanted, IsTold, reading_after}
use Rattle.vdm_reading.specs.VdmStages.{after, after_missing, after_pause, after_read_back, after_selection, after_work, begun, page_now, rested, turn_by, wants, work_at}

no_wait : (due : Bool) (pause : ℕ) (op asked : Op) → after_pause due pause asked ≡ Do op → asked ≡ op
no_wait true pause op asked asks = absurd cc
no_wait false pause op asked asks = cc

module _ (reading : VdmReading) (reply : Reply) (P : Op → VdmReading → Type 0) where
  abbrev page : ℕ
  page = page_now reading

  -- a read back that is awaited
  abbrev pub Backs : Type 0
  Backs = (work : Op) → work_at reading reading.stage ≡ Do work → reading.selection ≡ Open → P (read_selection BankAndPage) (after_read_back reading reply)

  abbrev pub Selects : Type 0
  Selects = (work : Op) → work_at reading reading.stage ≡ Do work → is_awaited reading.selection ≡ false → is_known reading.selection page ≡ false → P (selection BankAndPage page) (after_selection reading reply)

  -- the page is known to be selected
  abbrev pub Works : Type 0
  Works = (work : Op) → work_at reading reading.stage ≡ Do work → reading.selection ≡ Page page → P work (after_work reading reply)

  module _ (backs : Backs) (selects : Selects) (works : Works) where
    known_page : (known : ℕ) (work op : Op) → work_at reading reading.stage ≡ Do work → reading.selection ≡ Page known → (same : Bool) → (known == page) ≡ same →
        selecting_first BankAndPage work (if same then None else Some page) ≡ op → P op (after_missing (if same then None else Some page) reading reply)
    known_page known work op does is true same asks = subst (λ o. P o (after_work reading reply)) asks (works work does (is ∙ ap Page (eqb-true known page same)))
    known_page known work op does is false same asks = subst (λ o. P o (after_selection reading reply)) asks (selects work does (ap is_awaited is) (ap (λ (selected : KnownPage). is_known selected page) is ∙ same))

    by_selection : (selected : KnownPage) (work op : Op) → work_at reading reading.stage ≡ Do work → reading.selection ≡ selected →
        wanted BankAndPage selected (Some page) work ≡ op →
        P op (if is_awaited selected then after_read_back reading reply else after_missing (missing_page selected (Some page)) reading reply)
    by_selection Unknown work op does is asks =
        subst (λ o. P o (after_selection reading reply)) asks (selects work does (ap is_awaited is) (ap (λ (selected : KnownPage). is_known selected page) is))
    by_selection Open work op does is asks = subst (λ o. P o (after_read_back reading reply)) asks (backs work does is)
    by_selection (Page known) work op does is asks = known_page known work op does is (known == page) refl asks

    by_work : (next : Next VdmEnd) (op : Op) → work_at reading reading.stage ≡ next → turn_by reading next ≡ Do op → P op (after reading reply)
    by_work (Do work) op does asks =
        by_selection reading.selection work op does refl (no_wait reading.due reading.request.pause op (wanted BankAndPage reading.selection (Some page) work) asks)
    by_work (Wait time) op does asks = absurd cc
    by_work (End end) op does asks = absurd cc

    pub by_turn : (op : Op) → wants reading ≡ Do op → P op (after reading reply)
    by_turn op asks = by_work (work_at reading reading.stage) op refl asks

-- what each reply keeps holds of all that was told
module _ (I : History → VdmReading → Type 0)
    (begins : (request : VdmRequest) → I [] (begun request))
    (keeps : (history : History) (reading : VdmReading) (op : Op) (reply : Reply) → wants reading ≡ Do op → Answers op reply → I history reading → I (step_of op reply ∷ history) (after reading reply))
    (rests : (history : History) (reading : VdmReading) → I history reading → I history (rested reading)) where
  pub holds : (request : VdmRequest) (events : Events) → EachIsWanted request events → I (steps_of events) (reading_after request events)
  holds request [] each = begins request
  holds request (Made step ∷ before) each = keeps (steps_of before) (reading_after request before) step.op step.reply each.0 each.1 (holds request before each.2)
  holds request (Waited time ∷ before) each = rests (steps_of before) (reading_after request before) (holds request before each.1)
  holds request (Lacked number ∷ before) each = holds request before each
  holds request (Asked number ∷ before) each = holds request before each

  pub holds_told : (events : Events) (reading : VdmReading) → IsTold events reading → I (steps_of events) reading
  holds_told events reading told = subst (λ (r : VdmReading). I (steps_of events) r) (sym told.is) (holds reading.request events told.each)
