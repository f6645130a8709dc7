-- What one step more makes of the reading of a module.
use Rattle.std.proofs.Common.{◌≡◌, ◌<◌, ◌≤◌, ◌+◌, ◌⊎◌, ℕ, zero, suc, ◌&&◌, ◌||◌, not, nat_lt, Bool, true, false, List, [], ◌∷◌, Option, Some, None, refl, sym, ap, subst, ◌∙◌, inl, inr, arith, ltb-true, ltb-false}
use Rattle.std.specs.Prelude.{IsTrue, is_some}
use Rattle.std.specs.FinMap as map
use Rattle.std.specs.List.{slice_get}
use Rattle.std.proofs.lemmas.Bool.{and_from, and_parts, cases_Bool, true≢false}
use Rattle.std.proofs.lemmas.Option.{same_Some, slice_get_within}
use Rattle.arrayvec.specs.ArrayVec.{ArrayVec}
use Rattle.bus_model.specs.declared.operation.Op.{Op}
use Rattle.bus_model.specs.declared.operation.Reply.{Reply}
use Rattle.bus_model.specs.declared.operation.Reply.TheVariants.{Bytes, Done, Refused}
use Rattle.bus_model.specs.declared.operation.Step.{Step}
use Rattle.bus_model.specs.Operations.{Answers}
use Rattle.bus_model.specs.SameOperation.{same_op}
use Rattle.control_sets.specs.OutcomeSteps.{Gives}
use Rattle.conversations.specs.Selecting.{IsFetch, IsSelecting, LacksNone, ShowsNone, WasTaken, is_on, trusted}
use Rattle.conversations.proofs.OnPageLaws.{read_is_fetch, selection_stores}
use Rattle.paged_memory.specs.declared.key.Key.{Key}
use Rattle.paged_memory.specs.declared.page_addressing.PageAddressing.{PageAddressing}
use Rattle.paged_memory.specs.Images.{Memory}
use Rattle.paged_memory.specs.KnownPages.{IsApart}
use Rattle.paged_memory.specs.PageAddressing.{History, is_open, is_page, is_page_confirmed, is_read, may_select, read_selection, reads_back, selection}
use Rattle.paged_memory.proofs.KnownPageLaws.{reads_alone, reads_itself, same_page, selects_alone}
use Rattle.module_reading.specs.declared.halves.Halves.{Halves}
use Rattle.module_reading.specs.declared.region.Region.{Region}
use Rattle.module_reading.specs.declared.region.Region.TheVariants.{Lower, FirstPage, Page}
use Rattle.module_reading.specs.Regions.{key_of, operation, page_of, regions_of}
use Rattle.module_reading.specs.ImageReading as reader
use Rattle.module_reading.specs.ReadImages.{IsLeftOut, IsRead, IsShown, StoresNothing}
use Rattle.module_reading.proofs.KeptHalves as kept
use Rattle.module_reading.proofs.RegionLaws.{at_most_five, first_is, none_paged, other_keys, same_regions}
use Rattle.module_reading.proofs.HalvesLaws.{keeps_lower}
use Rattle.module_reading.proofs.FetchSteps.{IsKnown, knows_fetch, knows_read_back, knows_selection, leaves_selection, no_read_back, reads_fetch, same_half, trusts_next}
use Rattle.module_reading.proofs.FetchUnderWay.{Fits, IsAmong, IsAt, Settles, all_of, not_before, unfinished}

abbrev given_by : Reply → List ℕ
given_by (Bytes bytes) = bytes.items
given_by Done = []
given_by Refused = []

-- a half was answered with page 00h in its place
page_is : (region : Region) (page : ℕ) → page_of region ≡ Some page → region ≡ Page page
page_is (Lower dev) page e = absurd cc
page_is FirstPage page e = absurd cc
page_is (Page other) page e = ap (λ (n : ℕ). Page n) (same_Some other page e)

not_given : (bytes : List ℕ) → Refused ≡ Bytes (record { items = bytes }) → ⊥
not_given bytes e = cc

no_done : (region : Region) → Answers (operation region) Done → ⊥
no_done (Lower dev) none = none
no_done FirstPage none = none
no_done (Page page) none = none

module _ (doubts : Bool) (addressing : PageAddressing) (halves : Halves) (fits : Fits doubts addressing halves) (history : History) (at : IsAt doubts addressing halves history)
    (hand : Region) (is : reader.in_hand halves ≡ Some hand) where
  abbrev IsBefore : Region → Type 0
  IsBefore region = IsAmong (all_of halves) halves.settled region

  -- the half in hand comes after those before it
  before_or_hand : (region : Region) → IsAmong (all_of halves) (halves.settled + 1) region → IsBefore region ⊎ (hand ≡ region)
  before_or_hand region (n, few, there) = elim (cases_Bool (nat_lt n halves.settled)) [
    | inl less ↦ inl (n, ltb-true n halves.settled less, there)
    | inr not_less ↦
        let more = ltb-false n halves.settled not_less in
        let same : halves.settled ≡ n = omega (arith, few, more) in
        inr (same_Some hand region (sym is ∙ ap (slice_get (all_of halves)) same ∙ there))
  ]

  module _ (step : Step) where
    -- what holds of a half stays so
    still_out : (region : Region) → IsLeftOut doubts addressing region history → IsLeftOut doubts addressing region (step ∷ history)
    still_out (Lower dev) out = out
    still_out FirstPage out = out
    still_out (Page page) out = (out.0, inr out.1)

    still : (region : Region) (half : Option (List ℕ)) → Settles doubts addressing addressing history region half → Settles doubts addressing addressing (step ∷ history) region half
    still region None out = still_out region out
    still region (Some bytes) read = inr read

    -- page 00h was read back in place of a page that was selected, or it was left out before
    out_by : (P : Region → Type 0) → ((page : ℕ) → 0 < page → IsTrue (reads_back addressing 0 step) → WasTaken addressing page (trusted doubts history) → P (Page page)) → ((region : Region) → IsBefore region → P region) →
        (region : Region) → IsLeftOut doubts addressing region (step ∷ history) → P region
    out_by P now before (Lower dev) out = absurd out
    out_by P now before FirstPage out = absurd out
    out_by P now before (Page page) (above, inl shows) = now page above shows.0 shows.1
    out_by P now before (Page page) (above, inr earlier) = before (Page page) (at.out (Page page) (above, earlier))

    read_by : (T : Type 0) (region : Region) (bytes : List ℕ) → (Gives (operation region) bytes step → IsShown doubts addressing region history → T) → (IsRead doubts addressing region bytes history → T) → IsRead doubts addressing region bytes (step ∷ history) → T
    read_by T region bytes now before (inl reads) = now reads.0 reads.1
    read_by T region bytes now before (inr earlier) = before earlier

    -- what was selected, after a step that selects nothing
    fetch_taken : IsFetch step.op → (P : ℕ → Type 0) → ((page : ℕ) → IsAmong (all_of halves) (halves.settled + 1) (Page page) → P page) → (page : ℕ) → WasTaken addressing page (trusted doubts (step ∷ history)) → P page
    fetch_taken fetch P more =
        trusts_next (λ (steps : History). (page : ℕ) → WasTaken addressing page steps → P page) doubts step history (λ page none. absurd none) next
      where
        next : (page : ℕ) → WasTaken addressing page (step ∷ trusted doubts history) → P page
        next page (inl now) = absurd (selection_stores addressing page (subst IsFetch now.0 fetch))
        next page (inr earlier) = more page (at.taken page earlier.1)

    fetch_stored : IsFetch step.op → (P : ℕ → Type 0) → ((page : ℕ) → IsAmong (all_of halves) (halves.settled + 1) (Page page) → P page) → StoresNothing (step ∷ history) ⊎ ((page : ℕ) × P page)
    fetch_stored fetch P more = elim at.stored [
      | inl none ↦ inl (fetch, none)
      | inr some ↦ (let (page, among) = some in inr (page, more page among))
    ]

    -- ---- a step that leaves the image as it was

    abbrev IsInList : ℕ → Type 0
    IsInList page = IsAmong (all_of halves) (halves.settled + 1) (Page page)

    stays : ((region : Region) → step.op ≡ operation region → step.reply ≡ Refused) → ((page : ℕ) → 0 < page → IsTrue (reads_back addressing 0 step) → WasTaken addressing page (trusted doubts history) → IsBefore (Page page)) →
        ((page : ℕ) → WasTaken addressing page (trusted doubts (step ∷ history)) → IsInList page) → (StoresNothing (step ∷ history) ⊎ ((page : ℕ) × IsInList page)) → IsKnown doubts addressing (step ∷ history) → IsAt doubts addressing halves (step ∷ history)
    stays refused shows taken stored known = record {
      room = at.room;
      brief = (unfinished doubts addressing halves fits history at hand is, at.brief);
      settled = λ region among. still region (map.get halves.image (key_of region)) (at.settled region among);
      only = at.only;
      read = λ region bytes. read_by (IsBefore region × (map.get halves.image (key_of region) ≡ Some bytes)) region bytes (λ gives there. absurd (not_given bytes (sym (refused region gives.0) ∙ gives.1))) (at.read region bytes);
      out = out_by IsBefore shows (λ region before. before);
      taken = taken;
      stored = stored;
      known = known;
      awaits = λ awaited. (hand, is);
    }

    reads_back_on : is_open addressing (trusted doubts history) ≡ true → step.op ≡ read_selection addressing → LacksNone true addressing (page_of hand) step (trusted doubts history) → IsAt doubts addressing halves (step ∷ history)
    reads_back_on awaited reads none =
        let fetch = subst IsFetch (sym reads) (read_is_fetch addressing) in
        stays (λ region own. absurd (no_read_back addressing region (sym own ∙ reads))) before (fetch_taken fetch IsInList (λ page in_list. in_list)) (fetch_stored fetch IsInList (λ page in_list. in_list))
        (knows_read_back doubts addressing history at.known step awaited reads)
      where
        before : (page : ℕ) → 0 < page → IsTrue (reads_back addressing 0 step) → WasTaken addressing page (trusted doubts history) → IsBefore (Page page)
        before page above zeros taken = elim (before_or_hand (Page page) (at.taken page taken)) [
          | inl earlier ↦ earlier
          | inr same ↦ absurd (none refl page (ap page_of same) (record { awaited = awaited; reads = reads; shows = (and_parts _ _ zeros).1; other = above; taken = taken }))
        ]

    not_shown : same_op (read_selection addressing) step.op ≡ false → (page : ℕ) → 0 < page → IsTrue (reads_back addressing 0 step) → WasTaken addressing page (trusted doubts history) → IsBefore (Page page)
    not_shown other page above zeros taken = absurd (true≢false (sym (and_parts _ _ zeros).0 ∙ other))

    selects : (page : ℕ) → page_of hand ≡ Some page → is_open addressing (trusted doubts history) ≡ false → is_page_confirmed addressing page (trusted doubts history) ≡ false → step.op ≡ selection addressing page → IsAt doubts addressing halves (step ∷ history)
    selects page needs closed unconfirmed chosen =
        stays (λ region own. absurd (selection_stores addressing page (subst IsFetch (sym own ∙ chosen) (reads_fetch region)))) (not_shown (ap (same_op (read_selection addressing)) chosen ∙ selects_alone addressing page))
        (trusts_next (λ (steps : History). (other : ℕ) → WasTaken addressing other steps → IsInList other) doubts step history (λ other none. absurd none) taken) (inr (page, here page refl))
        (knows_selection doubts addressing history at.known step page closed unconfirmed chosen)
      where
        here : (other : ℕ) → page ≡ other → IsInList other
        here other same = (halves.settled, omega arith, is ∙ ap (λ (region : Region). Some region) (page_is hand page needs) ∙ ap (λ (n : ℕ). Some (Page n)) same)

        taken : (other : ℕ) → WasTaken addressing other (step ∷ trusted doubts history) → IsInList other
        taken other (inl now) = here other (same_page addressing page other (sym chosen ∙ now.0))
        taken other (inr earlier) = absurd (selection_stores addressing page (subst IsFetch chosen earlier.0))

    fetch_refused : step.op ≡ operation hand → step.reply ≡ Refused → is_open addressing (trusted doubts history) ≡ false → IsAt doubts addressing halves (step ∷ history)
    fetch_refused own refused closed =
        let fetch = subst IsFetch (sym own) (reads_fetch hand) in
        stays (λ region same. refused) (not_shown (ap (same_op (read_selection addressing)) own ∙ (leaves_selection addressing hand).not_reading_back)) (fetch_taken fetch IsInList (λ page in_list. in_list)) (fetch_stored fetch IsInList (λ page in_list. in_list))
        (knows_fetch doubts addressing history at.known step hand closed own)

    -- ---- a step that settles the half in hand

    module _ (image : Memory) (same : (n : ℕ) → n ≤ halves.settled → slice_get (regions_of halves.request image) n ≡ slice_get (all_of halves) n) where
      abbrev IsIn : ℕ → Region → Type 0
      IsIn count region = IsAmong (regions_of halves.request image) count region

      carry : (count more : ℕ) (region : Region) → count ≤ halves.settled + 1 → count ≤ more → IsAmong (all_of halves) count region → IsIn more region
      carry count more region few fewer (n, less, there) = (n, omega (arith, less, fewer), same n (omega (arith, less, few)) ∙ there)

      back : (region : Region) → IsIn (halves.settled + 1) region → IsAmong (all_of halves) (halves.settled + 1) region
      back region (n, few, there) = (n, few, sym (same n (omega (arith, few))) ∙ there)

      from_before : (region : Region) → IsBefore region → IsIn (halves.settled + 1) region
      from_before region before = carry halves.settled (halves.settled + 1) region (omega arith) (omega arith) before

      settles : ((region : Region) → IsBefore region → map.get image (key_of region) ≡ map.get halves.image (key_of region)) → Settles doubts addressing addressing (step ∷ history) hand (map.get image (key_of hand)) →
          ((key : Key) → IsTrue (map.contains_key image key) → IsTrue (map.contains_key halves.image key) ⊎ (key ≡ key_of hand)) → map.len image ≤ map.len halves.image + 1 →
          ((region : Region) (bytes : List ℕ) → Gives (operation region) bytes step → IsShown doubts addressing region history → (hand ≡ region) × (map.get image (key_of region) ≡ Some bytes)) →
          IsFetch step.op → IsKnown doubts addressing (step ∷ history) → is_open addressing (trusted doubts (step ∷ history)) ≡ false →
          IsAt doubts addressing (record { request = halves.request; image = image; settled = halves.settled + 1 }) (step ∷ history)
      settles keeps this only few read fetch known closed = record {
        room = omega (arith, at.room, few);
        brief = (unfinished doubts addressing halves fits history at hand is, at.brief);
        settled = λ region among. elim (before_or_hand region (back region among)) [
          | inl before ↦ subst (Settles doubts addressing addressing (step ∷ history) region) (sym (keeps region before)) (still region (map.get halves.image (key_of region)) (at.settled region before))
          | inr now ↦ subst (λ (r : Region). Settles doubts addressing addressing (step ∷ history) r (map.get image (key_of r))) now this
        ];
        only = λ key there. elim (only key there) [
          | inl before ↦ (let (region, among, e) = at.only key before in (region, from_before region among, e))
          | inr now ↦ (hand, here, now)
        ];
        read = λ region bytes. read_by (IsIn (halves.settled + 1) region × (map.get image (key_of region) ≡ Some bytes)) region bytes
            (λ gives there. (let (e, held) = read region bytes gives there in (subst (IsIn (halves.settled + 1)) e here, held)))
            (λ earlier. (let (before, held) = at.read region bytes earlier in (from_before region before, keeps region before ∙ held)));
        out = out_by (IsIn (halves.settled + 1)) (λ page above zeros taken. carry (halves.settled + 1) (halves.settled + 1) (Page page) (omega arith) (omega arith) (at.taken page taken)) from_before;
        taken = fetch_taken fetch (λ page. IsIn (halves.settled + 1 + 1) (Page page)) (λ page. further (Page page));
        stored = fetch_stored fetch (λ page. IsIn (halves.settled + 1 + 1) (Page page)) (λ page. further (Page page));
        known = known;
        awaits = λ awaited. absurd (true≢false (sym awaited ∙ closed));
      } where
        here : IsIn (halves.settled + 1) hand
        here = (halves.settled, omega arith, same halves.settled (omega arith) ∙ is)

        further : (region : Region) → IsAmong (all_of halves) (halves.settled + 1) region → IsIn (halves.settled + 1 + 1) region
        further region among = carry (halves.settled + 1) (halves.settled + 1 + 1) region (omega arith) (omega arith) among

    -- flat memory shows its first page as long as nothing is stored
    shown : (region : Region) → hand ≡ region → is_on addressing (page_of region) (trusted doubts history) ≡ true → IsShown doubts addressing region history
    shown (Lower dev) same on = tt
    shown (Page page) same on = on
    shown FirstPage same on = elim at.stored [
      | inl none ↦ none
      | inr some ↦ absurd (let (page, among) = some in beside page (before_or_hand (Page page) among))
    ] where
      beside : (page : ℕ) → IsBefore (Page page) ⊎ (hand ≡ Page page) → ⊥
      beside page (inl (n, few, there)) = none_paged halves.request halves.image n halves.settled (Page page) hand few there is page refl same
      beside page (inr other) = let never = sym same ∙ other in cc

    fetch_answered : (bytes : ArrayVec ℕ) → step.op ≡ operation hand → step.reply ≡ Bytes bytes → is_open addressing (trusted doubts history) ≡ false → is_on addressing (page_of hand) (trusted doubts history) ≡ true →
        IsAt doubts addressing (reader.keeping halves hand bytes.items) (step ∷ history)
    fetch_answered bytes own answered closed on =
        settles image same (λ region before. kept.puts_other halves.image (key_of hand) bytes.items (key_of region) (other_keys halves.request halves.image before.0 halves.settled region hand before.1 before.2 is))
        (subst (Settles doubts addressing addressing (step ∷ history) hand) (sym own_held) (inl ((own, answered), there)))
        (kept.puts_only halves.image (key_of hand) bytes.items) (kept.puts_few halves.image (key_of hand) bytes.items)
        (λ region other gives shows. (
        let e = same_half doubts addressing history at.known hand region (sym own ∙ gives.0) there shows in
        (e, ap (λ (r : Region). map.get image (key_of r)) (sym e) ∙ own_held ∙ ap (λ (reply : Reply). Some (given_by reply)) (sym answered ∙ gives.1))
        ))
        (subst IsFetch (sym own) (reads_fetch hand)) (knows_fetch doubts addressing history at.known step hand closed own)
        (trusts_next (λ (steps : History). is_open addressing steps ≡ false) doubts step history refl (ap (λ (op : Op). may_select addressing op || (same_op (read_selection addressing) op && not (is_read step.reply))) own
        ∙ (λ i. apart.not_selecting i || (apart.not_reading_back i && not (is_read step.reply)))))
      where
        image : Memory
        image = reader.put_in halves.image (key_of hand) bytes.items

        there : IsShown doubts addressing hand history
        there = shown hand refl on

        apart : IsApart addressing (operation hand)
        apart = leaves_selection addressing hand

        own_held : map.get image (key_of hand) ≡ Some bytes.items
        own_held = kept.puts_own halves.image (key_of hand) bytes.items (let within = slice_get_within (regions_of halves.request halves.image) halves.settled hand is in omega (arith, at.room, within, at_most_five halves.request halves.image))

        same : (n : ℕ) → n ≤ halves.settled → slice_get (regions_of halves.request image) n ≡ slice_get (all_of halves) n
        same zero few = first_is halves.request image ∙ sym (first_is halves.request halves.image)
        same (suc n) few = ap (λ (regions : List Region). slice_get regions (suc n)) (same_regions image halves.image (keeps_lower halves hand bytes.items (omega (arith, few)) is) halves.request)

    pub fetched : (reply : Reply) → step.reply ≡ reply → step.op ≡ operation hand → Answers (operation hand) reply → is_open addressing (trusted doubts history) ≡ false → is_on addressing (page_of hand) (trusted doubts history) ≡ true →
        IsAt doubts addressing (reader.after_fetch (Some hand) halves reply) (step ∷ history)
    fetched (Bytes bytes) e own answers closed on = fetch_answered bytes own e closed on
    fetched Done e own answers closed on = absurd (no_done hand answers)
    fetched Refused e own answers closed on = fetch_refused own e closed

    pub selected : IsSelecting addressing (page_of hand) step.op (trusted doubts history) → LacksNone true addressing (page_of hand) step (trusted doubts history) → IsAt doubts addressing halves (step ∷ history)
    selected (inl (awaited, reads)) none = reads_back_on awaited reads none
    selected (inr (closed, (page, needs, unconfirmed, chosen))) none = selects page needs closed unconfirmed chosen

    pub left_out : (page : ℕ) → page_of hand ≡ Some page → ShowsNone addressing page step (trusted doubts history) → IsAt doubts addressing (record { request = halves.request; image = halves.image; settled = halves.settled + 1 }) (step ∷ history)
    left_out page needs shows =
        settles halves.image (λ n few. refl) (λ region before. refl) (subst (Settles doubts addressing addressing (step ∷ history) hand) (sym (not_held (map.get halves.image (key_of hand)) refl)) out) (λ key there. inl there) (omega arith)
        (λ region bytes gives there. absurd (no_read_back addressing region (sym gives.0 ∙ shows.reads))) (subst IsFetch (sym shows.reads) (read_is_fetch addressing)) (knows_read_back doubts addressing history at.known step shows.awaited shows.reads)
        (trusts_next (λ (steps : History). is_open addressing steps ≡ false) doubts step history refl (ap (λ (op : Op). may_select addressing op || (same_op (read_selection addressing) op && not (is_read step.reply))) shows.reads
        ∙ (λ i. reads_alone addressing i || (reads_itself addressing i && not (is_read step.reply))) ∙ ap not (answered step.reply shows.shows)))
      where
        out : IsLeftOut doubts addressing hand (step ∷ history)
        out = subst (λ (region : Region). IsLeftOut doubts addressing region (step ∷ history)) (sym (page_is hand page needs))
            (shows.other, inl (and_from _ _ (ap (same_op (read_selection addressing)) shows.reads ∙ reads_itself addressing) shows.shows, shows.taken))

        not_held : (half : Option (List ℕ)) → map.get halves.image (key_of hand) ≡ half → half ≡ None
        not_held None e = refl
        not_held (Some bytes) e = absurd (let (region, before, same) = at.only (key_of hand) (ap is_some e) in not_before doubts addressing halves fits history at hand is region before (sym same))

        answered : (reply : Reply) → is_page addressing 0 reply ≡ true → is_read reply ≡ true
        answered (Bytes bytes) e = refl
        answered Done e = absurd cc
        answered Refused e = absurd cc
