-- What the statistics of banks come to that are read over a scripted bus with a window of a memory, one bank after the other.
use Rattle.std.proofs.Common.{◌≡◌, ◌⊎◌, ◌∙◌, inl, inr, ℕ, zero, suc, ◌≤◌, ◌<◌, ◌%◌, Bool, true, false, cond, List, [], ◌∷◌, Option, Some, None, is_some, nat_lt, reverse, refl, sym, ap, subst, arith}
use Rattle.std.proofs.lemmas.Bool.{ltb-false, ltb-true}
use Rattle.std.specs.FinMap as map
use Rattle.std.specs.Cmp.{eq_by_cmp_equiv}
use Rattle.std.specs.Option.{option_map_or}
use Rattle.std.specs.Ordering.{eq_by_cmp}
use Rattle.bus_model.specs.declared.device.Dev.TheVariants.{A0}
use Rattle.bus_model.specs.declared.script.Directive.{Directive}
use Rattle.bus_model.specs.Runs.{Ran, Seen}
use Rattle.bus_model.specs.ScriptedBus.{script_rules}
use Rattle.bus_model.proofs.Histories.{after_reverse}
use Rattle.conversations.specs.Events.{Events, steps_of}
use Rattle.observables.specs.Pages.{has_observables}
use Rattle.paged_memory.specs.declared.key.Key.{Key}
use Rattle.paged_memory.specs.declared.page_addressing.PageAddressing.TheVariants.{BankAndPage}
use Rattle.paged_memory.specs.Images.{Memory}
use Rattle.paged_memory.specs.ImageText.{IsImage}
use Rattle.paged_memory.specs.Keys.{lower_key, page_key}
use Rattle.paged_memory.specs.KeyOrder.{key_cmp}
use Rattle.paged_memory.specs.MappedPages.{selecting_on}
use Rattle.paged_memory.specs.PageAddressing.{History}
use Rattle.paged_memory.specs.Windows.{Windowed, window_conduct}
use Rattle.paged_memory.proofs.KeyLaws.{keys_total}
use Rattle.paged_memory.proofs.WindowHistories.{IsOf}
use Rattle.reports.specs.FetchedImages.{with_page}
use Rattle.reports.proofs.FetchedLanes.{still_of}
use Rattle.reports.proofs.PutPages.{put_apart, put_either, put_same}
use Rattle.vdm_reading.specs.declared.reading.VdmReading.{VdmReading}
use Rattle.vdm_reading.specs.declared.reading.VdmRequest.{VdmRequest}
use Rattle.vdm_reading.specs.declared.reading.VdmStage.TheVariants.{Over}
use Rattle.vdm_reading.specs.BankPages.{bank_pages, groups_page}
use Rattle.vdm_reading.specs.VdmAccounts.{IsAmong, IsTold, reading_after}
use Rattle.vdm_reading.specs.VdmStages.{key_of}
use Rattle.vdm_reading.specs.WindowStatistics.{AreOverWindow}
use Rattle.vdm_reading.proofs.GroupLaws.{listed_high}
use Rattle.vdm_reading.proofs.QuietLaws.{all_read, unscripted}
use Rattle.vdm_reading.proofs.Told.{request_is, told_from}
use Rattle.vdm_reading.proofs.WindowLaws.{same}
use Rattle.observable_reports.specs.FetchedObservables.{AreFirstRead, request_of, with_pages}

-- ---- pages that are put beside others

put_now : (page : ℕ) (from memory : Memory) (bytes : List ℕ) → map.get from (page_key page) ≡ Some bytes → map.get (with_page from page memory) (page_key page) ≡ Some bytes
put_now page from memory bytes there =
    ap (λ (half : Option (List ℕ)). map.get (option_map_or (λ (found : List ℕ). map.insert memory (page_key page) found) half memory) (page_key page)) there
    ∙ map.get-insert keys_total memory (page_key page) bytes (page_key page)
    ∙ ap (λ (b : Bool). cond b (Some bytes) (map.get memory (page_key page))) ((eq_by_cmp_equiv keys_total).refl (page_key page))

-- what was there is there still
there_by : (same : Bool) (found : List ℕ) (half : Option (List ℕ)) → is_some half ≡ true → is_some (cond same (Some found) half) ≡ true
there_by true found half there = refl
there_by false found half there = there

put_there : (key : Key) (other : ℕ) (from memory : Memory) → map.contains_key memory key ≡ true → map.contains_key (with_page from other memory) key ≡ true
put_there key other from memory there = by (map.get from (page_key other)) where
  by : (half : Option (List ℕ)) → is_some (map.get (option_map_or (λ (found : List ℕ). map.insert memory (page_key other) found) half memory) key) ≡ true
  by None = there
  by (Some found) =
      ap is_some (map.get-insert keys_total memory (page_key other) found key)
      ∙ there_by (eq_by_cmp key_cmp key (page_key other)) found (map.get memory key) there

module _ (from : Memory) where
  apart : (key : Key) (listed : List ℕ) (memory : Memory) → ((page : ℕ) → IsAmong page listed → key ≡ page_key page → ⊥) → map.get (with_pages from listed memory) key ≡ map.get memory key
  unfolding with_pages
  apart key [] memory other = refl
  apart key (page ∷ listed) memory other =
      apart key listed (with_page from page memory) (λ number among. other number (inr among)) ∙ put_apart key page from memory (other page (inl refl))

  there_still : (key : Key) (listed : List ℕ) (memory : Memory) → map.contains_key memory key ≡ true → map.contains_key (with_pages from listed memory) key ≡ true
  unfolding with_pages
  there_still key [] memory there = there
  there_still key (page ∷ listed) memory there = there_still key listed (with_page from page memory) (put_there key page from memory there)

  stays : (page : ℕ) (bytes : List ℕ) (listed : List ℕ) (memory : Memory) → map.get from (key_of page) ≡ Some bytes → map.get memory (key_of page) ≡ Some bytes → map.get (with_pages from listed memory) (key_of page) ≡ Some bytes
  unfolding with_pages
  stays page bytes [] memory there is = is
  stays page bytes (other ∷ listed) memory there is = stays page bytes listed (with_page from other memory) there (put_same page other from memory (is ∙ sym there) ∙ there)

  put : (page : ℕ) (bytes : List ℕ) (listed : List ℕ) (memory : Memory) → IsAmong page listed → map.get from (key_of page) ≡ Some bytes → map.get (with_pages from listed memory) (key_of page) ≡ Some bytes
  unfolding with_pages
  put page bytes [] memory among there = absurd among
  put page bytes (other ∷ listed) memory (inl is) there =
      stays page bytes listed (with_page from other memory) there
      (subst (λ (n : ℕ). map.get (with_page from n memory) (key_of page) ≡ Some bytes) is (put_now page from memory bytes there))
  put page bytes (other ∷ listed) memory (inr later) there = put page bytes listed (with_page from other memory) later there

module _ (from : Memory) (page : ℕ) (bytes : List ℕ) where
  abbrev Has : Memory → Type 0
  Has memory = map.get memory (key_of page) ≡ Some bytes

  either : (pages : List ℕ) (memory : Memory) → Has (with_pages from pages memory) → Has from ⊎ Has memory
  unfolding with_pages
  either [] memory has = inr has
  either (other ∷ pages) memory has = elim (either pages (with_page from other memory) has) [ inl there ↦ inl there | inr earlier ↦ put_either from page bytes memory other earlier ]

-- ---- no script is left after a reading

abbrev pub SeenWindow : Type 0
SeenWindow = Seen (List Directive × Windowed)

pub ran_unscripted : (old new : SeenWindow) (history : History) → Ran (script_rules window_conduct) old new (reverse history) → old.state.0 ≡ [] → new.state.0 ≡ []
ran_unscripted old new history ran none =
    ap (λ (state : List Directive × Windowed). state.0) (ran.state ∙ after_reverse (script_rules window_conduct) old.state history) ∙ unscripted old.state history none

-- ---- a reading of a bank

module _ (bank : ℕ) (events : Events) where
  abbrev reading : VdmReading
  reading = reading_after (request_of bank) events

  abbrev listed : List ℕ
  listed = groups_page reading.request.bank ∷ reading.pages.items

  bank_is : reading.request.bank ≡ bank
  bank_is = ap (λ (request : VdmRequest). request.bank) (request_is (request_of bank) events)

  high_listed : IsTold events reading → reading.stage ≡ Over → (page : ℕ) → IsAmong page listed → 0x20 ≤ page % 256
  high_listed told ended page (inl is) = omega (arith, is)
  high_listed told ended page (inr among) = (listed_high events reading told ended page among).1

  other_page : IsTold events reading → reading.stage ≡ Over → (key : Key) → key.page < 0x20 → (page : ℕ) → IsAmong page listed → key ≡ page_key page → ⊥
  other_page told ended key low page among is =
      let number : key.page ≡ page % 256 = ap (λ (k : Key). k.page) is in
      omega (arith, low, number, high_listed told ended page among)

-- pages below 20h stay
pub low_kept : (bank : ℕ) (events : Events) (before all : Memory) → IsTold events (reading bank events) → (reading bank events).stage ≡ Over
    → all ≡ with_pages (reading bank events).image (listed bank events) before → (key : Key) → key.page < 0x20 → map.get all key ≡ map.get before key
low_kept bank events before all told ended is key low =
    ap (λ (m : Memory). map.get m key) is ∙ apart (reading bank events).image key (listed bank events) before (other_page bank events told ended key low)

-- what the statistics of so many banks come to that were read after a memory was read
pub record IsReadOf (memory start all : Memory) (banks : ℕ) (mid new : SeenWindow) : Type 0 where
  pub behind : IsOf memory new.state.1
  pub script : mid.state.0 ≡ [] → new.state.0 ≡ []
  pub low : (key : Key) → key.page < 0x20 → map.get all key ≡ map.get start key
  -- all that was read is the memory's
  pub within : (page : ℕ) (bytes : List ℕ) → 0x20 ≤ page → map.get all (key_of page) ≡ Some bytes → map.get memory (key_of page) ≡ Some bytes
  -- without a script, what these banks advertise and the memory has was read
  pub whole : mid.state.0 ≡ [] → map.contains_key memory (lower_key A0) ≡ true → has_observables memory ≡ true → (bank : ℕ) → bank < banks
      → (page : ℕ) (bytes : List ℕ) → 0x20 ≤ page → IsAmong page (groups_page bank ∷ bank_pages memory bank) → map.get memory (key_of page) ≡ Some bytes → map.get all (key_of page) ≡ Some bytes

-- no bank was
pub none_read : (memory start : Memory) (mid : SeenWindow) → IsOf memory mid.state.1 → ((page : ℕ) (bytes : List ℕ) → 0x20 ≤ page → map.get start (key_of page) ≡ Some bytes → map.get memory (key_of page) ≡ Some bytes)
    → IsReadOf memory start start 0 mid mid
none_read memory start mid behind within = record {
  behind = behind;
  script = λ none. none;
  low = λ key below. refl;
  within = within;
  whole = λ none lower has bank few. absurd (omega (arith, few));
}

last_or : {bank : ℕ} (other : ℕ) → other < suc bank → (other < bank) ⊎ (other ≡ bank)
last_or {bank} other few = by (nat_lt other bank) refl where
  by : (below : Bool) → nat_lt other bank ≡ below → (other < bank) ⊎ (other ≡ bank)
  by true e = inl (ltb-true other bank e)
  by false e = inr (let above = ltb-false other bank e in omega (arith, few, above))

module _ (memory : Memory) (image : IsImage memory) (selecting : selecting_on memory A0 ≡ Some BankAndPage) (start : Memory) (mid : SeenWindow) where
  -- one bank more
  module _ (bank : ℕ) (last new : SeenWindow) (before all : Memory) (was : IsReadOf memory start before bank mid last) (events : Events)
      (ran : Ran (script_rules window_conduct) last new (reverse (steps_of events))) (told : IsTold events (reading bank events)) (ended : (reading bank events).stage ≡ Over)
      (is : all ≡ with_pages (reading bank events).image (listed bank events) before) where
    abbrev now : VdmReading
    now = reading bank events

    over : AreOverWindow last new memory events
    over = record { image = image; behind = was.behind; selecting = selecting; ran = ran }

    of_all : (page : ℕ) (bytes : List ℕ) → 0x20 ≤ page → map.get all (key_of page) ≡ Some bytes → map.get memory (key_of page) ≡ Some bytes
    of_all page bytes above held = elim (either now.image page bytes (listed bank events) before (ap (λ (m : Memory). map.get m (key_of page)) (sym is) ∙ held)) [
      | inl there ↦ same last new memory events now over told page bytes there
      | inr earlier ↦ was.within page bytes above earlier
    ]

    -- what was there is as the memory has it
    kept : (page : ℕ) (bytes : List ℕ) → 0x20 ≤ page → map.get before (key_of page) ≡ Some bytes → map.get memory (key_of page) ≡ Some bytes → map.get all (key_of page) ≡ Some bytes
    kept page bytes above held own = by (map.get all (key_of page)) refl
      where
        there : map.contains_key all (key_of page) ≡ true
        there = ap (λ (m : Memory). map.contains_key m (key_of page)) is ∙ there_still now.image (key_of page) (listed bank events) before (ap is_some held)

        by : (half : Option (List ℕ)) → map.get all (key_of page) ≡ half → half ≡ Some bytes
        by (Some found) e = sym (of_all page found above e) ∙ own
        by None e = absurd (let clash : true ≡ false = sym there ∙ ap is_some e in cc)

    now_read : mid.state.0 ≡ [] → map.contains_key memory (lower_key A0) ≡ true → has_observables memory ≡ true → (page : ℕ) (bytes : List ℕ)
        → IsAmong page (groups_page bank ∷ bank_pages memory bank) → map.get memory (key_of page) ≡ Some bytes → map.get all (key_of page) ≡ Some bytes
    now_read none lower has page bytes among there =
        let among_own = subst (λ (b : ℕ). IsAmong page (groups_page b ∷ bank_pages memory b)) (sym (bank_is bank events)) among in
        let found = all_read last new memory events now over told ended (was.script none) lower has page bytes among_own there in
        ap (λ (m : Memory). map.get m (key_of page)) is ∙ put now.image page bytes (listed bank events) before found.0 found.1

    one_more : IsReadOf memory start all (suc bank) mid new
    one_more = record {
      behind = still_of last new memory (steps_of events) ran was.behind;
      script = λ none. ran_unscripted last new (steps_of events) ran (was.script none);
      low = λ key below. low_kept bank events before all told ended is key below ∙ was.low key below;
      within = of_all;
      whole = λ none lower has other few page bytes above among there. by none lower has other few page bytes above among there;
    }
      where
        by : mid.state.0 ≡ [] → map.contains_key memory (lower_key A0) ≡ true → has_observables memory ≡ true → (other : ℕ) → other < suc bank
            → (page : ℕ) (bytes : List ℕ) → 0x20 ≤ page → IsAmong page (groups_page other ∷ bank_pages memory other) → map.get memory (key_of page) ≡ Some bytes → map.get all (key_of page) ≡ Some bytes
        by none lower has other few page bytes above among there = elim (last_or other few) [
          | inl earlier ↦ kept page bytes above (was.whole none lower has other earlier page bytes above among there) there
          | inr own ↦ now_read none lower has page bytes (subst (λ (b : ℕ). IsAmong page (groups_page b ∷ bank_pages memory b)) own among) there
        ]

  module _ (behind : IsOf memory mid.state.1) (within : (page : ℕ) (bytes : List ℕ) → 0x20 ≤ page → map.get start (key_of page) ≡ Some bytes → map.get memory (key_of page) ≡ Some bytes) where
    pub read_of : (banks : ℕ) (new : SeenWindow) (all : Memory) → AreFirstRead (script_rules window_conduct) mid start banks new all → IsReadOf memory start all banks mid new
    read_of zero new all (unchanged, same_memory) =
        subst (λ (seen : SeenWindow). IsReadOf memory start all 0 mid seen) (sym unchanged) (subst (λ (m : Memory). IsReadOf memory start m 0 mid mid) (sym same_memory) (none_read memory start mid behind within))
    read_of (suc bank) new all (last, before, earlier, (events, read, ended)) =
        one_more bank last new before all (read_of bank last before earlier) events read.ran (told_from (request_of bank) events read.each) ended.0 ended.1
