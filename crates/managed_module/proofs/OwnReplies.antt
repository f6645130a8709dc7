-- What a reply makes of the reading of a module with pages: what was read stays its own.
use Rattle.bus_model.specs.declared.operation.Op.TheVariants.{Fetch, Store}
use Rattle.bus_model.specs.declared.operation.Reply.TheVariants.{Refused, Bytes}
use Rattle.control_sets.specs.OutcomeOperations.{CoversSelection}
use Rattle.paged_memory.specs.Families.{managed_by}
use Rattle.module_reading.proofs.KeptHalves.{puts_own}
use Rattle.module_reading.proofs.HalvesLaws.{keeps_lower}
use Rattle.managed_module.proofs.OwnAdverts.{lanes_key, IsPaged}
use Rattle.managed_module.proofs.OwnLanes.{HasLanes}
use Rattle.managed_module.proofs.OwnLower.{same_half}
use Rattle.std.proofs.lemmas.Option.{slice_get_within}
use Rattle.managed_module.proofs.OwnReading.{IsOwnReading, TellsState}
use Rattle.managed_module.proofs.Waits.{answered as reading_answered, way}
use Rattle.std.proofs.Common.{[], ◌≡◌, ℕ, suc, zero, ◌/◌, ◌%◌, ◌≤◌, ◌==◌, ◌&&◌, nat_lt, Bool, true, false, List, ◌∷◌, Option, Some, None, refl, sym, ap, subst, ◌∙◌, if◌then◌else◌, arith}
use Rattle.std.specs.Prelude.{slice_get}
use Rattle.std.specs.FinMap as finmap
use Rattle.std.proofs.lemmas.Bool.{eqb-true}
use Rattle.bus_model.specs.declared.device.Dev.TheVariants.{A0}
use Rattle.bus_model.specs.declared.operation.Op.{Op}
use Rattle.bus_model.specs.declared.operation.Reply.{Reply}
use Rattle.bus_model.specs.Operations.{Answers}
use Rattle.bus_model.specs.ScriptedBus.{passed_on}
use Rattle.conversations.specs.declared.on_page.OnPage.{OnPage}
use Rattle.conversations.specs.Selecting.{IsFetch, after_missing, chosen, lacked, lacked_by, told_lacked}
use Rattle.conversations.specs.Wanted.{op_of}
use Rattle.conversations.proofs.OnPageLaws.{Asks}
use Rattle.field_tables.specs.declared.field.Field.TheVariants as fields
use Rattle.field_tables.specs.declared.table.cmis.CmisField.TheVariants as cmis_fields
use Rattle.field_tables.specs.Readings.{number}
use Rattle.module_states.specs.Codes as module_codes
use Rattle.paged_memory.specs.declared.page_addressing.KnownPage.{KnownPage}
use Rattle.paged_memory.specs.declared.page_addressing.KnownPage.TheVariants.{Open, Page as Known}
use Rattle.paged_memory.specs.declared.page_addressing.PageAddressing.{PageAddressing}
use Rattle.paged_memory.specs.declared.page_addressing.PageAddressing.TheVariants.{BankAndPage}
use Rattle.paged_memory.specs.Images.{Memory}
use Rattle.paged_memory.specs.Keys.{lower_key, page_key}
use Rattle.paged_memory.specs.KnownPages.{is_awaited, is_known, missing_page, selection_read, selection_told, wanted}
use Rattle.paged_memory.specs.PageAddressing.{read_selection}
use Rattle.module_reading.specs.declared.halves.Halves.{Halves}
use Rattle.module_reading.specs.declared.region.Region.{Region}
use Rattle.module_reading.specs.declared.region.Region.TheVariants.{Lower, FirstPage, Page}
use Rattle.module_reading.specs.ImageReading as reader
use Rattle.module_reading.specs.Regions as regions
use Rattle.port_manager.specs.Jobs.{paged_halves, reading_after, reading_wants}
use Rattle.port_manager.specs.Patients.{Patient, after_on}
use Rattle.port_manager.proofs.LeftLaws.{region_wanted}
use Rattle.port_manager.proofs.PatientLaws.{asked_on, trusting_if}
use Rattle.sim_module.specs.declared.module.SimModule.{SimModule}
use Rattle.sim_module.specs.Modules.{conduct}
use Rattle.sim_module.proofs.IdleModule.{Shows}
use Rattle.managed_module.specs.Managed.{HasHalves, IsCmisFamily}
use Rattle.managed_module.specs.Succeeds.{AreWhole}
use Rattle.managed_module.proofs.Halves.{reads_number, shown, shows_there}
use Rattle.managed_module.proofs.Links.{IsLinkedTo, is_first, is_read, told_back, undoubted}
use Rattle.managed_module.proofs.OwnFetches.{IsFetched, awake_code, fetches, ready_awake}
use Rattle.managed_module.proofs.OwnHalves.{IsOwn, all_regions, hand_is, is_cmis, keeps, lacks}
use Rattle.managed_module.proofs.OwnTasks.{module_after, reply_of}
use Rattle.managed_module.proofs.Procedures.{IsAwake, awake_left, awake_tick}
use Rattle.managed_module.proofs.ProcedureSteps.{IsHarmless, KnownBy, fetch_is_harmless, harmless_leaves, known_page, known_passed, known_read, wanted_is_harmless}

-- ---- one operation

region_fetches : (region : Region) → IsFetch (regions.operation region)
region_fetches (Lower dev) = tt
region_fetches FirstPage = tt
region_fetches (Page page) = tt

-- a fetch doesn't select a page
fetch_apart : (op : Op) → IsFetch op → ¬ (CoversSelection op)
fetch_apart (Fetch dev offset count) fetch covers = covers
fetch_apart (Store dev offset bytes) fetch covers = fetch

paged_region : (region : Region) (page : ℕ) → reader.page_by (Some region) ≡ Some page → region ≡ Page page
paged_region (Lower dev) page e = absurd cc
paged_region FirstPage page e = absurd cc
paged_region (Page other) page e = let same : Some other ≡ Some page = e in let number : other ≡ page = cc in ap (λ (n : ℕ). Page n) number

-- page 00h isn't read back in place of a page that is there
not_lacked : (page number : ℕ) (zeroth : Bool) → (page == 0) ≡ zeroth → lacked_by (Some page) (Some page) zeroth ≡ Some number → ⊥
not_lacked page number true e lacks =
    let none : page ≡ 0 = eqb-true page 0 e in
    let off : (nat_lt 0 page && page == page) ≡ false = ap (λ (n : ℕ). nat_lt 0 n && n == n) none in
    let wrong : None ≡ Some number = sym (ap (λ (b : Bool). if b then Some page else None) off) ∙ lacks in cc
not_lacked page number false e lacks = cc

few_settled : (n : ℕ) (region : Region) → slice_get all_regions n ≡ Some region → n ≤ 4
few_settled n region hand = omega (arith, slice_get_within all_regions n region hand)

not_all : (n : ℕ) (region : Region) → slice_get all_regions n ≡ Some region → 5 ≤ n → ⊥
not_all n region hand all = omega (arith, all, few_settled n region hand)

last_region : (region : Region) → slice_get all_regions 4 ≡ Some region → region ≡ Page 0x11
last_region region hand = let same : Some (Page 0x11) ≡ Some region = hand in let one : Page 0x11 ≡ region = cc in sym one

module _ (most : ℕ) (sim : SimModule) (has : HasHalves sim) (whole : AreWhole sim.image) (paged : IsPaged sim.image) (woken : Bool) (job : Patient (OnPage Halves)) (r : IsOwnReading most woken job sim)
    (op : Op) (reply : Reply) (asked : op_of (reading_wants job) ≡ Some op) (answers : Answers op reply) (gives : reply ≡ reply_of sim op) where
  abbrev on : OnPage Halves
  on = job.conversation.conversation

  abbrev halves : Halves
  halves = on.conversation

  abbrev after : SimModule
  after = module_after sim op

  abbrev next : Patient (OnPage Halves)
  next = reading_after job reply

  cmis : IsCmisFamily (managed_by (regions.identifier halves.image))
  cmis = is_cmis sim.image halves paged r.own

  abbrev a : Asks (chosen (reader.addressing halves)) on.selection (reader.page_by (reader.in_hand halves)) (reader.wants halves) op
  a = asked_on paged_halves job op asked

  found : (region : Region) × (reader.in_hand halves ≡ Some region) × (regions.operation region ≡ a.inner)
  found = region_wanted (reader.in_hand halves) a.inner a.wants

  abbrev region : Region
  region = found.0

  hand : slice_get all_regions halves.settled ≡ Some region
  hand = sym (hand_is sim.image halves paged r.own) ∙ found.1

  by : chosen (reader.addressing halves) ≡ BankAndPage
  by = way sim has job op reply asked answers gives cmis r.link

  fetching : IsFetch a.inner
  fetching = subst IsFetch found.2 (region_fetches region)

  pub harmless : IsHarmless op
  harmless =
      subst IsHarmless (sym (a.is ∙ ap (λ (by : PageAddressing). wanted by on.selection (reader.page_by (reader.in_hand halves)) a.inner) by))
      (wanted_is_harmless (is_awaited on.selection) a.inner (missing_page on.selection (reader.page_by (reader.in_hand halves))) (fetch_is_harmless a.inner fetching))

  stays_awake : IsAwake sim → IsAwake after
  stays_awake awake = awake_tick most (passed_on conduct op sim).1 (awake_left most sim (passed_on conduct op sim).1 (harmless_leaves op sim harmless) awake)

  pub record IsKept (conversation : Halves) (selected : KnownPage) : Type 0 where
    pub own : IsOwn sim.image conversation
    pub known : KnownBy selected after
    pub tells : TellsState woken conversation after
    pub lanes : 5 ≤ conversation.settled → HasLanes conversation.image sim

  -- a half is in hand, so not all five are settled
  too_few : 5 ≤ halves.settled → ⊥
  too_few all = not_all halves.settled region hand all

  -- the image stays as it is
  same_tells : (conversation : Halves) → conversation.image ≡ halves.image → (1 ≤ conversation.settled → 1 ≤ halves.settled) → TellsState woken conversation after
  same_tells conversation image settled = record {
    ready = λ one is. stays_awake (r.tells.ready (settled one) (ap (λ (m : Memory). number m (fields.Cmis cmis_fields.ModuleState)) (sym image) ∙ is));
    awake = λ is. stays_awake (r.tells.awake is);
    read = λ is one. ap (λ (m : Memory). number m (fields.Cmis cmis_fields.ModuleState)) image ∙ r.tells.read is (settled one);
  }

  -- ---- the selection is read back

  back : is_awaited on.selection ≡ true → reply ≡ Bytes (record { items = shown sim })
  back awaited = told_back paged_halves on a.inner op sim has by a.is reply gives awaited

  abbrev needed : Option ℕ
  needed = reader.page_by (reader.in_hand halves)

  abbrev lacked_now : Option ℕ
  lacked_now = lacked (chosen (reader.addressing halves)) needed on.taken reply

  lacks_it : (number : ℕ) → is_awaited on.selection ≡ true → lacked_now ≡ Some number → IsOwn sim.image (reader.after_lack halves) × (halves.settled ≡ 3)
  lacks_it number awaited e =
      let linked = r.link awaited in
      let is : region ≡ Page linked.page = paged_region region linked.page (ap (λ (found : Option Region). reader.page_by found) (sym found.1) ∙ linked.needs) in
      let handed : reader.in_hand halves ≡ Some (Page linked.page) = found.1 ∙ ap (λ (region : Region). Some region) is in
      let at : slice_get all_regions halves.settled ≡ Some (Page linked.page) = hand ∙ ap (λ (region : Region). Some region) is in
      by_there linked handed at (finmap.contains_key sim.image (page_key linked.page)) refl where
        lacked_is : (linked : IsLinkedTo paged_halves on sim) → lacked_by (Some linked.page) (Some linked.page) (is_known (selection_read BankAndPage (shown sim)) 0) ≡ Some number
        lacked_is linked =
            sym (ap (λ (needed : Option ℕ). lacked_by needed (Some linked.page) (is_known (selection_read BankAndPage (shown sim)) 0)) linked.needs)
            ∙ sym (ap (λ (taken : Option ℕ). lacked_by needed taken (is_known (selection_read BankAndPage (shown sim)) 0)) (linked.taken refl))
            ∙ sym (ap (λ (by : PageAddressing). lacked by needed on.taken (Bytes (record { items = shown sim }))) by)
            ∙ sym (ap (lacked (chosen (reader.addressing halves)) needed on.taken) (back awaited)) ∙ e

        by_there : (linked : IsLinkedTo paged_halves on sim) → reader.in_hand halves ≡ Some (Page linked.page) → slice_get all_regions halves.settled ≡ Some (Page linked.page) → (there : Bool) → finmap.contains_key sim.image (page_key linked.page) ≡ there
            → IsOwn sim.image (reader.after_lack halves) × (halves.settled ≡ 3)
        by_there linked handed at true there =
            let shows : shown sim ≡ linked.page / 256 ∷ linked.page % 256 ∷ [] = shows_there sim linked.page there linked.selected in
            absurd (not_lacked linked.page number (linked.page == 0) refl
            (ap (λ (known : KnownPage). lacked_by (Some linked.page) (Some linked.page) (is_known known 0)) (sym (reads_number linked.page))
            ∙ ap (λ (bytes : List ℕ). lacked_by (Some linked.page) (Some linked.page) (is_known (selection_read BankAndPage bytes) 0)) (sym shows) ∙ lacked_is linked))
        by_there linked handed at false none =
            let both = lacks sim.image halves r.own linked.page at paged has.status none in
            (subst (λ (found : Option Region). IsOwn sim.image (reader.leaving_out found halves)) (sym handed) both.0, both.1)

  one_more : (number : ℕ) → 1 ≤ halves.settled → reader.in_hand halves ≡ Some region → TellsState woken (reader.after_lack halves) after
  one_more number one handed = same_tells (reader.after_lack halves) (ap (λ (found : Option Region). (reader.leaving_out found halves).image) handed) (λ more. one)

  told_by : (found_lack : Option ℕ) → lacked_now ≡ found_lack → is_awaited on.selection ≡ true → IsOwn sim.image (told_lacked (λ halves number. reader.after_lack halves) found_lack halves) × TellsState woken (told_lacked (λ halves number. reader.after_lack halves) found_lack halves) after × (5 ≤ (told_lacked (λ halves number. reader.after_lack halves) found_lack halves).settled → ⊥)
  told_by None e awaited = (r.own, same_tells halves refl (λ one. one), too_few)
  told_by (Some number) e awaited =
      let both = lacks_it number awaited e in
      (both.0, one_more number (omega (arith, both.1)) found.1, λ all. omega (arith, all, both.1, ap (λ (found : Option Region). (reader.leaving_out found halves).settled) found.1))

  awaited_by : is_awaited on.selection ≡ true → IsKept (trusting_if true paged_halves on reply).conversation (trusting_if true paged_halves on reply).selection
  awaited_by awaited =
      let read : op ≡ read_selection BankAndPage = is_read paged_halves on a.inner op sim has by a.is awaited in
      let both = told_by lacked_now refl awaited in
      let told : selection_told (chosen (reader.addressing halves)) on.selection reply ≡ selection_read BankAndPage (shown sim) =
      ap (λ (by : PageAddressing). selection_told by on.selection reply) by ∙ ap (selection_told BankAndPage on.selection) (back awaited) in
      record {
        own = both.0;
        known = subst (λ (selected : KnownPage). KnownBy selected after) (sym told)
            (known_passed (selection_read BankAndPage (shown sim)) op sim (subst (λ (op : Op). ¬ (CoversSelection op)) (sym read) (λ covers. covers)) (known_read sim));
        tells = both.1;
        lanes = λ all. absurd (both.2 all);
      }

  -- ---- the half is fetched

  on_page : missing_page on.selection needed ≡ None → (page : ℕ) → region ≡ Page page → Shows page sim
  on_page none page is = r.known page (known_page on.selection needed page none (ap (λ (found : Option Region). reader.page_by found) (found.1 ∙ ap (λ (region : Region). Some region) is)))

  fetched : op ≡ a.inner → missing_page on.selection needed ≡ None → IsFetched sim region reply
  fetched same none = fetches sim region reply halves.settled has whole r.steady.eight hand (gives ∙ ap (reply_of sim) (same ∙ sym found.2)) (on_page none)

  -- what is told of the state then
  state_by : (n : ℕ) → halves.settled ≡ n → (f : IsFetched sim region reply) → IsOwn sim.image (reader.keeping halves region f.bytes) → TellsState woken (reader.keeping halves region f.bytes) after
  state_by zero e f own =
      let is : region ≡ Lower A0 = (let same : Some (Lower A0) ≡ Some region = sym (ap (slice_get all_regions) e) ∙ hand in let one : Lower A0 ≡ region = cc in sym one) in
      let state : number (reader.keeping halves region f.bytes).image (fields.Cmis cmis_fields.ModuleState) ≡ module_codes.code_of sim.state = f.state is (reader.keeping halves region f.bytes).image (own_lower is f) in
      record {
        ready = λ one code. stays_awake (ready_awake most sim r.steady (sym state ∙ code));
        awake = λ is. stays_awake (r.tells.awake is);
        read = λ is one. state ∙ awake_code sim (r.tells.awake is);
      } where
        own_lower : region ≡ Lower A0 → (f : IsFetched sim region reply) → finmap.get (reader.keeping halves region f.bytes).image (lower_key A0) ≡ Some f.bytes
        own_lower is f =
            subst (λ (region : Region). finmap.get (reader.put_in halves.image (regions.key_of region) f.bytes) (lower_key A0) ≡ Some f.bytes) (sym is)
            (puts_own halves.image (lower_key A0) f.bytes (omega (arith, e, r.own.few)))
  state_by (suc n) e f own =
      let kept : finmap.get (reader.put_in halves.image (regions.key_of region) f.bytes) (lower_key A0) ≡ finmap.get halves.image (lower_key A0) =
      keeps_lower halves region f.bytes (omega (arith, e)) found.1 in
      let state : number (reader.keeping halves region f.bytes).image (fields.Cmis cmis_fields.ModuleState) ≡ number halves.image (fields.Cmis cmis_fields.ModuleState) = same_half (reader.keeping halves region f.bytes).image halves.image (fields.Cmis cmis_fields.ModuleState) 1 kept in
      record {
        ready = λ one is. stays_awake (r.tells.ready (omega (arith, e)) (sym state ∙ is));
        awake = λ is. stays_awake (r.tells.awake is);
        read = λ is one. state ∙ r.tells.read is (omega (arith, e));
      }

  -- the last half is page 11h
  lanes_by : (n : ℕ) → halves.settled ≡ n → (f : IsFetched sim region reply) → 4 ≤ halves.settled → HasLanes (reader.keeping halves region f.bytes).image sim
  lanes_by n e f all =
      let four : halves.settled ≡ 4 = omega (arith, all, few_settled halves.settled region hand) in
      let is : region ≡ Page 0x11 = last_region region (sym (ap (slice_get all_regions) four) ∙ hand) in
      record {
        page = f.bytes;
        there = subst (λ (region : Region). finmap.get (reader.put_in halves.image (regions.key_of region) f.bytes) lanes_key ≡ Some f.bytes) (sym is) (puts_own halves.image lanes_key f.bytes (omega (arith, four, r.own.few)));
        shows = f.lanes is;
      }

  own_by : op ≡ a.inner → missing_page on.selection needed ≡ None → IsKept (reader.after_reply halves reply) on.selection
  own_by same none =
      let f = fetched same none in
      let own = keeps sim.image halves r.own f.bytes region hand f.fits in
      let is : reader.after_reply halves reply ≡ reader.keeping halves region f.bytes =
      ap (λ (found : Option Region). reader.after_fetch found halves reply) found.1 ∙ ap (reader.after_fetch (Some region) halves) f.reads in
      let apart : ¬ (CoversSelection op) = subst (λ (op : Op). ¬ (CoversSelection op)) (sym same) (fetch_apart a.inner fetching) in
      subst (λ (halves : Halves). IsKept halves on.selection) (sym is) (record { own = own; known = known_passed on.selection op sim apart r.known; tells = state_by halves.settled refl f own; lanes = λ all. lanes_by halves.settled refl f (omega (arith, all)) })

  -- ---- either

  abbrev Kept : OnPage Halves → Type 0
  Kept on = IsKept on.conversation on.selection

  missing_by : (missing : Option ℕ) → missing_page on.selection needed ≡ missing → is_awaited on.selection ≡ false → Kept (after_missing reader.after_reply true missing on reply)
  missing_by None m closed = own_by (is_first paged_halves on a.inner op sim has by a.is None closed m) m
  missing_by (Some page) m closed = record { own = r.own; known = λ page e. absurd (let wrong : Open ≡ Known page = e in cc); tells = same_tells halves refl (λ one. one); lanes = λ all. absurd (too_few all) }

  kept_by : (awaited : Bool) → is_awaited on.selection ≡ awaited → Kept (trusting_if awaited paged_halves on reply)
  kept_by true e = awaited_by e
  kept_by false e = missing_by (missing_page on.selection needed) refl e

  answered : reply ≡ Refused → ⊥
  answered is = reading_answered sim has job op reply asked answers gives cmis r.link is

  pub kept : Kept (after_on paged_halves on reply)
  kept = subst Kept (sym (undoubted paged_halves on a.inner op sim has by a.is reply answered)) (kept_by (is_awaited on.selection) refl)
