-- The reading of a module from its first step to its end.
use Rattle.std.proofs.Common.{◌≡◌, ◌≤◌, ℕ, Bool, true, false, List, [], ◌∷◌, length, Option, Some, None, refl, sym, ap, subst, ◌∙◌, inl, inr, if◌then◌else◌, nat_lt, arith}
use Rattle.std.specs.Prelude.{◌⊎◌, is_some}
use Rattle.std.specs.FinMap as map
use Rattle.std.proofs.lemmas.Bool.{ltb-false, true≢false}
use Rattle.std.proofs.lemmas.Option.{none-some, same_Some}
use Rattle.bus_model.specs.declared.operation.Op.{Op}
use Rattle.bus_model.specs.declared.operation.Step.{Step}
use Rattle.bus_model.specs.Operations.{Answers}
use Rattle.control_sets.specs.OutcomeAnswers.{most_steps}
use Rattle.conversations.specs.declared.event.Event.{Event}
use Rattle.conversations.specs.declared.event.Event.TheVariants.{Made, Waited, Lacked, Asked}
use Rattle.conversations.specs.declared.next.Next.{Next}
use Rattle.conversations.specs.declared.next.Next.TheVariants.{Do, Wait, End}
use Rattle.conversations.specs.declared.within.Spent.{Spent}
use Rattle.conversations.specs.Budgets.{next_within}
use Rattle.conversations.specs.Events.{Events, steps_of}
use Rattle.conversations.specs.Selecting.{AddsSelections, ByAddressing, IsSelecting, Knows, LacksNone, ShowsNone, WasTaken, chosen, is_on, next_on, trusted}
use Rattle.paged_memory.specs.declared.page_addressing.PageAddressing.{PageAddressing}
use Rattle.paged_memory.specs.declared.page_addressing.PageAddressing.TheVariants.{BankAndPage}
use Rattle.paged_memory.specs.declared.page_addressing.KnownPage.{KnownPage}
use Rattle.paged_memory.specs.declared.page_addressing.KnownPage.TheVariants.{Unknown}
use Rattle.paged_memory.specs.Images.{Memory}
use Rattle.paged_memory.specs.KeyOrder.{key_cmp}
use Rattle.paged_memory.specs.KnownPages.{wanted}
use Rattle.paged_memory.specs.PageAddressing.{History, is_open}
use Rattle.paged_memory.proofs.KnownPageLaws.{tells_nothing}
use Rattle.module_reading.specs.declared.halves.Halves.{Halves}
use Rattle.module_reading.specs.declared.region.Region.{Region}
use Rattle.module_reading.specs.declared.region.Region.TheVariants.{Lower, FirstPage, Page}
use Rattle.module_reading.specs.declared.request.Request.{Request}
use Rattle.module_reading.specs.Regions.{operation}
use Rattle.module_reading.specs.ImageReading as reader
use Rattle.module_reading.specs.ImageReading.{IsTold, Reading}
use Rattle.module_reading.specs.ReadImages.{IsGivenUp, IsImageOf, IsLeftOut, IsReading, IsUnfinished}
use Rattle.module_reading.specs.ReadingRuns.{HasOutcome, WithOwn}
use Rattle.module_reading.proofs.HalvesLaws.{steady}
use Rattle.module_reading.proofs.FetchSteps.{knows_nothing, trusts_none}
use Rattle.module_reading.proofs.FetchUnderWay.{Fits, IsAmong, IsAt, all_of, complete, unfinished}
use Rattle.module_reading.proofs.FetchTurns.{fetched, left_out, selected}

some_not_none : {region : Region} → Some region ≡ None → ⊥
some_not_none e = cc

-- the half in hand, if there is one
on_hand : (halves : Halves) (P : Option Region → Type 0) → (reader.in_hand halves ≡ None → P None) → ((hand : Region) → reader.in_hand halves ≡ Some hand → P (Some hand)) → P (reader.in_hand halves)
on_hand halves P none some = by (reader.in_hand halves) refl where
  by : (found : Option Region) → reader.in_hand halves ≡ found → P found
  by None is = none is
  by (Some hand) is = some hand is

module _ (doubts : Bool) where
  module _ (addressing : PageAddressing) where
    starts : (request : Request) → IsAt doubts addressing (reader.begun request) []
    starts request = record {
      room = omega (arith, map.len-empty key_cmp (List ℕ));
      brief = tt;
      settled = λ region among. absurd (omega (arith, among.1));
      only = λ key there. absurd (true≢false (sym there ∙ ap is_some (map.get-empty key_cmp key)));
      read = λ region bytes read. absurd read;
      out = none_out;
      taken = λ page taken. absurd (trusts_none (λ (steps : History). WasTaken addressing page steps → ⊥) doubts (λ none. none) taken);
      stored = inl tt;
      known = knows_nothing doubts addressing;
      awaits = λ awaited. absurd (true≢false (sym awaited ∙ trusts_none (λ (steps : History). is_open addressing steps ≡ false) doubts refl));
    } where
      none_out : (region : Region) → IsLeftOut doubts addressing region [] → IsAmong (all_of (reader.begun request)) 0 region
      none_out (Lower dev) out = absurd out
      none_out FirstPage out = absurd out
      none_out (Page page) out = absurd out.1

    -- ---- one event more

    module _ (halves : Halves) (fits : Fits doubts addressing halves) (history : History) (step : Step) (at : IsAt doubts addressing halves history) where
      selecting_step : IsSelecting addressing (reader.page_by (reader.in_hand halves)) step.op (trusted doubts history) → LacksNone true addressing (reader.page_by (reader.in_hand halves)) step (trusted doubts history) → IsAt doubts addressing halves (step ∷ history)
      selecting_step = on_hand halves (λ found. IsSelecting addressing (reader.page_by found) step.op (trusted doubts history) → LacksNone true addressing (reader.page_by found) step (trusted doubts history) → IsAt doubts addressing halves (step ∷ history))
          (λ is selecting none. absurd (nothing is selecting)) (λ hand is. selected doubts addressing halves fits history at hand is step)
        where
          nothing : reader.in_hand halves ≡ None → IsSelecting addressing None step.op (trusted doubts history) → ⊥
          nothing is (inl (awaited, reads)) = none-some (at.awaits awaited).0 (sym is ∙ (at.awaits awaited).1)
          nothing is (inr (closed, (page, needs, unconfirmed, chosen))) = none-some page needs

      own_step : reader.wants halves ≡ Do step.op → Answers step.op step.reply → is_open addressing (trusted doubts history) ≡ false → is_on addressing (reader.page_by (reader.in_hand halves)) (trusted doubts history) ≡ true →
          IsAt doubts addressing (reader.after_reply halves step.reply) (step ∷ history)
      own_step wants answers closed =
          on_hand halves (λ found. reader.wants_by found ≡ Do step.op → is_on addressing (reader.page_by found) (trusted doubts history) ≡ true → IsAt doubts addressing (reader.after_fetch found halves step.reply) (step ∷ history))
          (λ is never on. absurd (no_end never)) (λ hand is wants on. fetch hand is (op_is hand wants) on) wants
        where
          no_end : reader.wants_by None ≡ Do step.op → ⊥
          no_end never = cc

          op_is : (hand : Region) → reader.wants_by (Some hand) ≡ Do step.op → step.op ≡ operation hand
          op_is hand wants = cc

          fetch : (hand : Region) → reader.in_hand halves ≡ Some hand → step.op ≡ operation hand → is_on addressing (reader.page_by (Some hand)) (trusted doubts history) ≡ true → IsAt doubts addressing (reader.after_fetch (Some hand) halves step.reply) (step ∷ history)
          fetch hand is own on = fetched doubts addressing halves fits history at hand is step step.reply refl own (subst (λ (op : Op). Answers op step.reply) own answers) closed on

      lacking_step : (page : ℕ) → reader.page_by (reader.in_hand halves) ≡ Some page → ShowsNone addressing page step (trusted doubts history) → IsAt doubts addressing (reader.after_lack halves) (step ∷ history)
      lacking_step page needs shows =
          on_hand halves (λ found. reader.page_by found ≡ Some page → IsAt doubts addressing (reader.leaving_out found halves) (step ∷ history)) (λ is none. absurd (none-some page none))
          (λ hand is needs. left_out doubts addressing halves fits history at hand is step page needs shows) needs

    -- ---- from own events to all of them

    module _ (request : Request) where
      abbrev After : Events → Halves
      After own = reader.halves_after request own

      abbrev Comes : Events → History → Type 0
      Comes own history = reader.EachIsWanted request own → Fits doubts addressing (After own) → IsAt doubts addressing (After own) history

      fits_before : (event : Event) (own : Events) → Fits doubts addressing (After (event ∷ own)) → Fits doubts addressing (After own)
      fits_before event own fits by known = fits by (steady request event own by known)

      comes : (events own : Events) → AddsSelections doubts true addressing (reader.needed_after request) own events → Comes own (steps_of events)
      comes [] own none = subst (λ (own : Events). Comes own []) (sym none) (λ each fits. starts request)
      comes (Made step ∷ before) own (inl (selecting, none, answers, adds)) =
          λ each fits. selecting_step (After own) fits (steps_of before) step (comes before own adds each fits) selecting none
      comes (Made step ∷ before) own (inr (inl (earlier, is, closed, on, adds))) =
          subst (λ (own : Events). Comes own (step ∷ steps_of before)) (sym is) (λ each fits. (
          let fits' = fits_before (Made step) earlier fits in
          own_step (After earlier) fits' (steps_of before) step (comes before earlier adds each.2 fits') each.0 each.1 closed on
          ))
      comes (Made step ∷ before) own (inr (inr (page, earlier, is, may, needs, shows, answers, adds))) =
          subst (λ (own : Events). Comes own (step ∷ steps_of before)) (sym is) (λ each fits. (
          let fits' = fits_before (Lacked page) earlier fits in
          lacking_step (After earlier) fits' (steps_of before) step (comes before earlier adds each fits') page needs shows
          ))
      comes (Waited time ∷ before) own (earlier, is, adds) = subst (λ (own : Events). Comes own (steps_of before)) (sym is) (comes before earlier adds)
      comes (Lacked page ∷ before) own none = absurd none
      comes (Asked number ∷ before) own (earlier, is, adds) = subst (λ (own : Events). Comes own (steps_of before)) (sym is) (comes before earlier adds)

    outcome_at : (halves : Halves) (history : History) → Fits doubts addressing halves → length history ≤ most_steps → IsAt doubts addressing halves history → HasOutcome doubts history halves
    outcome_at halves history fits few at = record {
      is_reading = record { at_most = few; brief = at.brief };
      complete = complete doubts addressing halves fits history at;
      unfinished = going_on;
      given_up = λ all some. (all, going_on some);
    } where
      going_on : (reader.in_hand halves ≡ None → ⊥) → IsUnfinished doubts halves.request history
      going_on = on_hand halves (λ found. (found ≡ None → ⊥) → IsUnfinished doubts halves.request history) (λ is some. absurd (some refl)) (λ hand is some. unfinished doubts addressing halves fits history at hand is)

  pub outcome : (events : Events) (halves : Halves) → length (steps_of events) ≤ most_steps → WithOwn doubts halves.request (λ own. IsTold own halves) events → HasOutcome doubts (steps_of events) halves
  outcome events halves few (own, adds, told) = by (reader.addressing (reader.halves_after halves.request own)) refl adds where
    by_known : (addressing : PageAddressing) → AddsSelections doubts true addressing (reader.needed_after halves.request) own events → Fits doubts addressing (reader.halves_after halves.request own) → HasOutcome doubts (steps_of events) halves
    by_known addressing adds fits = subst (λ (h : Halves). HasOutcome doubts (steps_of events) h) (sym told.is)
        (outcome_at addressing (reader.halves_after halves.request own) (steps_of events) fits few (comes addressing halves.request events own adds told.each fits))

    by : (known : Option PageAddressing) → reader.addressing (reader.halves_after halves.request own) ≡ known → ByAddressing known (λ addressing. AddsSelections doubts true addressing (reader.needed_after halves.request) own events) → HasOutcome doubts (steps_of events) halves
    by None unknown adds = by_known BankAndPage (adds BankAndPage) (λ other known. absurd (none-some other (sym unknown ∙ known)))
    by (Some addressing) is adds = by_known addressing adds (λ other known. same_Some other addressing (sym known ∙ is))

-- ---- readings that are driven

pub begins_told : (doubts : Bool) (request : Request) → Knows true None Unknown None (trusted doubts []) × WithOwn doubts request (λ own. IsTold own (reader.begun request)) []
begins_told doubts request = (
  trusts_none (Knows true None Unknown None) doubts (λ none. refl, λ addressing. (tells_nothing addressing, record { was = λ page e. absurd cc; is = λ may awaited. absurd cc })),
  ([], λ addressing. refl, record { is = refl; each = tt }),
)

pub reading_outcome : (events : Events) (reading : Reading) → WithOwn reading.conversation.doubts reading.conversation.conversation.request (λ own. IsTold own reading.conversation.conversation) events → length (steps_of events) ≡ reading.steps → reading.steps ≤ reading.limit → reading.limit ≡ most_steps →
    HasOutcome reading.conversation.doubts (steps_of events) reading.conversation.conversation
reading_outcome events reading told count few limit = outcome reading.conversation.doubts events reading.conversation.conversation (subst (λ (n : ℕ). length (steps_of events) ≤ n) limit (subst (λ (n : ℕ). n ≤ reading.limit) (sym count) few)) told

-- how a reading is left on a bus

left_by : (steps limit : ℕ) (addressing : PageAddressing) (selected : KnownPage) (page : Option ℕ) (found : Option Region) (spent : Spent (Unit {0})) → next_within steps limit (next_on addressing selected page (reader.wants_by found)) ≡ End spent →
    ((spent.end ≡ Some tt) × (found ≡ None)) ⊎ ((spent.end ≡ None) × (found ≡ None → ⊥) × (limit ≤ steps))
left_by steps limit addressing selected page None spent left = inl (ap (λ (n : Next (Spent (Unit {0}))). end_in n) (sym left), refl) where
  end_in : Next (Spent (Unit {0})) → Option (Unit {0})
  end_in (End spent) = spent.end
  end_in (Do op) = None
  end_in (Wait time) = None
left_by steps limit addressing selected page (Some region) spent left = by (nat_lt steps limit) refl left where
  op : Op
  op = wanted addressing selected page (operation region)

  by : (few : Bool) → nat_lt steps limit ≡ few → ◌≡◌ {A = Next (Spent (Unit {0}))} (if few then Do op else End (record { steps = steps; end = None })) (End spent) → ((spent.end ≡ Some tt) × (Some region ≡ None)) ⊎ ((spent.end ≡ None) × (Some region ≡ None → ⊥) × (limit ≤ steps))
  by true e left = absurd cc
  by false e left = let same : record { steps = steps; end = None } ≡ spent = cc in inr (ap (λ (s : Spent (Unit {0})). s.end) (sym same), some_not_none, ltb-false steps limit e)

going_by : (steps limit : ℕ) (addressing : PageAddressing) (selected : KnownPage) (page : Option ℕ) (found : Option Region) (op : Op) → next_within steps limit (next_on addressing selected page (reader.wants_by found)) ≡ Do op → found ≡ None → ⊥
going_by steps limit addressing selected page None op left none = absurd cc
going_by steps limit addressing selected page (Some region) op left none = some_not_none none

abbrev pub wants_of : Reading → Next (Spent (Unit {0}))
wants_of reading =
    next_within reading.steps reading.limit (next_on (chosen (reader.addressing reading.conversation.conversation)) reading.conversation.selection (reader.page_by (reader.in_hand reading.conversation.conversation)) (reader.wants reading.conversation.conversation))

module _ (events : Events) (reading : Reading) (told : WithOwn reading.conversation.doubts reading.conversation.conversation.request (λ own. IsTold own reading.conversation.conversation) events) (count : length (steps_of events) ≡ reading.steps) (few : reading.steps ≤ reading.limit) (limit : reading.limit ≡ most_steps) where
  abbrev image_of : Memory
  image_of = reading.conversation.conversation.image

  its_outcome : HasOutcome reading.conversation.doubts (steps_of events) reading.conversation.conversation
  its_outcome = reading_outcome events reading told count few limit

  pub reads : IsReading reading.conversation.doubts reading.conversation.conversation.request (steps_of events)
  reads = its_outcome.is_reading

  pub left_whole : (spent : Spent (Unit {0})) (end : Unit {0}) → wants_of reading ≡ End spent → spent.end ≡ Some end → IsImageOf reading.conversation.doubts reading.conversation.conversation.request (steps_of events) image_of
  left_whole spent end left is = whole (left_by reading.steps reading.limit (chosen (reader.addressing reading.conversation.conversation)) reading.conversation.selection (reader.page_by (reader.in_hand reading.conversation.conversation)) (reader.in_hand reading.conversation.conversation) spent left) where
    whole : ((spent.end ≡ Some tt) × (reader.in_hand reading.conversation.conversation ≡ None)) ⊎ ((spent.end ≡ None) × (reader.in_hand reading.conversation.conversation ≡ None → ⊥) × (reading.limit ≤ reading.steps)) → IsImageOf reading.conversation.doubts reading.conversation.conversation.request (steps_of events) image_of
    whole (inl (some, none)) = its_outcome.complete none
    whole (inr (none, some, all)) = let never = sym none ∙ is in absurd cc

  pub left_undone : (spent : Spent (Unit {0})) → wants_of reading ≡ End spent → spent.end ≡ None → IsGivenUp reading.conversation.doubts reading.conversation.conversation.request (steps_of events)
  left_undone spent left is = undone (left_by reading.steps reading.limit (chosen (reader.addressing reading.conversation.conversation)) reading.conversation.selection (reader.page_by (reader.in_hand reading.conversation.conversation)) (reader.in_hand reading.conversation.conversation) spent left) where
    undone : ((spent.end ≡ Some tt) × (reader.in_hand reading.conversation.conversation ≡ None)) ⊎ ((spent.end ≡ None) × (reader.in_hand reading.conversation.conversation ≡ None → ⊥) × (reading.limit ≤ reading.steps)) → IsGivenUp reading.conversation.doubts reading.conversation.conversation.request (steps_of events)
    undone (inl (some, none)) = let never = sym is ∙ some in absurd cc
    undone (inr (none, some, all)) = its_outcome.given_up (omega (arith, count, few, limit, all)) some

  pub left_going : (op : Op) → wants_of reading ≡ Do op → IsUnfinished reading.conversation.doubts reading.conversation.conversation.request (steps_of events)
  left_going op left = its_outcome.unfinished (going_by reading.steps reading.limit (chosen (reader.addressing reading.conversation.conversation)) reading.conversation.selection (reader.page_by (reader.in_hand reading.conversation.conversation)) (reader.in_hand reading.conversation.conversation) op left)
