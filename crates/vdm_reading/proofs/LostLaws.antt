-- A page is lost by its own refusals alone, and little that is refused loses nothing.
use Rattle.std.proofs.Common.{◌≡◌, ◌≤◌, ◌<◌, ◌⊎◌, ℕ, ◌+◌, ◌*◌, ◌-◌, ◌/◌, ◌%◌, ◌==◌, ◌&&◌, Bool, true, false, not, List, [], ◌∷◌, length, Option, Some, refl, sym, ap, subst, ◌∙◌, inl, inr, if◌then◌else◌, cond, nat_lt, arith}
use Rattle.std.specs.Prelude.{is_some}
use Rattle.std.specs.FinMap as map
use Rattle.std.specs.Ordering.{eq_by_cmp}
use Rattle.std.specs.Cmp.{eq_by_cmp_equiv}
use Rattle.std.proofs.lemmas.Bool.{eqb-true, false_from_ne_true, ltb-false, ltb-true}
use Rattle.arrayvec.specs.ArrayVec.{ArrayVec}
use Rattle.bus_model.specs.declared.operation.Op.{Op}
use Rattle.bus_model.specs.declared.operation.Reply.{Reply}
use Rattle.bus_model.specs.declared.operation.Reply.TheVariants.{Bytes, Done, Refused}
use Rattle.bus_model.specs.declared.operation.Step.{Step}
use Rattle.bus_model.specs.Operations.{Answers}
use Rattle.conversations.specs.declared.next.Next.TheVariants.{Do}
use Rattle.conversations.specs.Events.{Events, steps_of}
use Rattle.field_tables.specs.Halves.{is_absent}
use Rattle.observables.specs.Pages.{has_observables, pages}
use Rattle.paged_memory.specs.declared.page_addressing.PageAddressing.TheVariants.{BankAndPage}
use Rattle.paged_memory.specs.declared.page_addressing.KnownPage.{KnownPage}
use Rattle.paged_memory.specs.declared.page_addressing.KnownPage.TheVariants as selected_page
use Rattle.paged_memory.specs.Images.{Memory, most_pages}
use Rattle.paged_memory.specs.KeyOrder.{key_cmp}
use Rattle.paged_memory.specs.KnownPages.{is_known, selection_read}
use Rattle.paged_memory.specs.PageAddressing.{History, is_page, read_selection, selection}
use Rattle.paged_memory.proofs.KeyLaws.{keys_total}
use Rattle.paged_memory.proofs.KnownPageLaws.{read_tells, step_of}
use Rattle.vdm_reading.specs.declared.end.Release.{Release}
use Rattle.vdm_reading.specs.declared.end.Release.TheVariants as release
use Rattle.vdm_reading.specs.declared.end.Statistics.{Statistics}
use Rattle.vdm_reading.specs.declared.end.Statistics.TheVariants as statistics
use Rattle.vdm_reading.specs.declared.reading.VdmReading.{VdmReading}
use Rattle.vdm_reading.specs.declared.reading.VdmRequest.{VdmRequest}
use Rattle.vdm_reading.specs.declared.reading.VdmStage.{VdmStage}
use Rattle.vdm_reading.specs.declared.reading.VdmStage.TheVariants as stage
use Rattle.vdm_reading.specs.BankPages.{groups_page}
use Rattle.vdm_reading.specs.FrozenSteps.{IsPageRefused, IsShown, IsTaken, SomeStep, freezing, hindrances, is_freeze_done, is_hindered, is_unfreeze_done, one_if, page_named, page_taken, polls, read_done, read_half, releasing, store_control}
use Rattle.vdm_reading.specs.VdmAccounts.{IsAmong, IsLostAlone, IsTold, IsWhole}
use Rattle.vdm_reading.specs.VdmStages.{accepted_at, after, after_read_back, after_selection, after_work, asked, begun, confirmed, enter, failed, frozen_by, fruitless, fruitless_by, kept, key_of, lost_at, may_be_frozen, next_by, over, page_at, page_now, put_in, read_at, refused_at, released_by, rested, wants, work_at}
use Rattle.vdm_reading.proofs.EndingLaws.{pages_few}
use Rattle.vdm_reading.proofs.ShownLaws.{Shown, is_shown, is_taken, keeps_shown}
use Rattle.vdm_reading.proofs.WantedTurns.{by_turn, holds_told}

-- ---- what is known at a stage, by how many steps were hindered, and how often byte 145 was fetched

-- there is room for the pages that are still to be read
abbrev RoomAt : VdmStage → ℕ → ℕ → Type 0
RoomAt stage.Advertised size todo = size ≤ 0
RoomAt stage.Groups size todo = size ≤ 1
RoomAt stage.Freeze size todo = size + todo ≤ 15
RoomAt stage.Freezing size todo = size + todo ≤ 15
RoomAt (stage.Page page) size todo = size + todo + 1 ≤ 15
RoomAt stage.Release size todo = Unit {0}
RoomAt stage.Releasing size todo = Unit {0}
RoomAt stage.Over size todo = Unit {0}

-- as many as may be fruitless were so, but for those that still may
abbrev CountAt : VdmStage → ℕ → ℕ → ℕ → Type 0
CountAt stage.Advertised left hindered polled = 2 ≤ left + hindered
CountAt stage.Groups left hindered polled = 2 ≤ left + hindered
CountAt stage.Freeze left hindered polled = 2 ≤ left + hindered
CountAt stage.Freezing left hindered polled = 100 ≤ left + (hindered + polled)
CountAt (stage.Page page) left hindered polled = 2 ≤ left + hindered
CountAt stage.Release left hindered polled = 2 ≤ left + hindered
CountAt stage.Releasing left hindered polled = 100 ≤ left + (hindered + polled)
CountAt stage.Over left hindered polled = Unit {0}

-- one more was so
abbrev CountsAt : VdmStage → ℕ → ℕ → ℕ → ℕ → Type 0
CountsAt stage.Freezing hindered polled more again = hindered + polled + 1 ≤ more + again
CountsAt stage.Releasing hindered polled more again = hindered + polled + 1 ≤ more + again
CountsAt now hindered polled more again = (hindered + 1 ≤ more) × (polled ≤ again)

abbrev Few : ℕ → ℕ → Type 0
Few hindered polled = (hindered ≤ 2) × (hindered + polled ≤ 100)

abbrev IsCurrent : ℕ → VdmStage → Type 0
IsCurrent page (stage.Page current) = page ≡ current
IsCurrent page now = ⊥

-- it is in the image, or was refused
abbrev IsSettled : ℕ → Memory → History → Type 0
IsSettled page image history = (is_absent image (key_of page) ≡ false) ⊎ (SomeStep (IsPageRefused page) history × (2 < hindrances history))

abbrev EachSettled : List ℕ → List ℕ → Memory → History → Type 0
EachSettled pages todo image history = (page : ℕ) → IsAmong page pages → IsAmong page todo ⊎ IsSettled page image history

abbrev EachAt : VdmStage → List ℕ → List ℕ → Memory → History → Type 0
EachAt now pages todo image history = (page : ℕ) → IsAmong page pages → IsAmong page todo ⊎ (IsCurrent page now ⊎ IsSettled page image history)

abbrev DoneAt : VdmStage → List ℕ → Type 0
DoneAt stage.Freeze todo = Unit {0}
DoneAt stage.Freezing todo = Unit {0}
DoneAt (stage.Page page) todo = Unit {0}
DoneAt now todo = todo ≡ []

abbrev GoodAt : VdmStage → Statistics → Release → Type 0
GoodAt stage.Freezing read may = may ≡ release.MayBeFrozen
GoodAt (stage.Page page) read may = (read ≡ statistics.Frozen) × (may ≡ release.MayBeFrozen)
GoodAt stage.Release read may = read ≡ statistics.Frozen
GoodAt stage.Releasing read may = read ≡ statistics.Frozen
GoodAt stage.Over read may = (read ≡ statistics.Unsupported) ⊎ ((read ≡ statistics.Frozen) × (may ≡ release.Released))
GoodAt now read may = Unit {0}

abbrev IsBusy : VdmStage → Type 0
IsBusy stage.Over = ⊥
IsBusy now = Unit {0}

record Lost (history : History) (reading : VdmReading) : Type 0 where
  pub room : RoomAt reading.stage (map.len reading.image) (length reading.todo.items)
  pub count : CountAt reading.stage reading.left (hindrances history) (polls history)
  pub each : EachAt reading.stage reading.pages.items reading.todo.items reading.image history
  pub done : DoneAt reading.stage reading.todo.items
  pub good : Few (hindrances history) (polls history) → GoodAt reading.stage reading.statistics reading.release

-- ---- one step more

abbrev grown : Step → History → ℕ
grown step history = hindrances (step ∷ history)

grows : (step : Step) (history : History) → hindrances history ≤ grown step history
grows step history = omega arith

polls_grow : (step : Step) (history : History) → polls history ≤ polls (step ∷ history)
polls_grow step history = omega arith

fewer : (step : Step) (history : History) → Few (grown step history) (polls (step ∷ history)) → Few (hindrances history) (polls history)
fewer step history few = (omega (arith, few.0, grows step history), omega (arith, few.1, grows step history, polls_grow step history))

settled_more : (page : ℕ) (image : Memory) (step : Step) (history : History) → IsSettled page image history → IsSettled page image (step ∷ history)
settled_more page image step history (inl there) = inl there
settled_more page image step history (inr lost) = inr (inr lost.0, omega (arith, lost.1, grows step history))

each_more : (now : VdmStage) (pages todo : List ℕ) (image : Memory) (step : Step) (history : History) → EachAt now pages todo image history → EachAt now pages todo image (step ∷ history)
each_more now pages todo image step history each page among = elim (each page among) [
  | inl later ↦ inl later
  | inr (inl current) ↦ inr (inl current)
  | inr (inr settled) ↦ inr (inr (settled_more page image step history settled))
]

-- ---- what comes next

busy_at : (reading : VdmReading) (now : VdmStage) (work : Op) → work_at reading now ≡ Do work → IsBusy now
busy_at reading stage.Advertised work does = tt
busy_at reading stage.Groups work does = tt
busy_at reading stage.Freeze work does = tt
busy_at reading stage.Freezing work does = tt
busy_at reading (stage.Page page) work does = tt
busy_at reading stage.Release work does = tt
busy_at reading stage.Releasing work does = tt
busy_at reading stage.Over work does = absurd cc

again_counts : (now : VdmStage) (left hindered polled more again : ℕ) → 0 < left → CountAt now left hindered polled → CountsAt now hindered polled more again → CountAt now (left - 1) more again
again_counts stage.Advertised left hindered polled more again some count counts = omega (arith, some, count, counts.0)
again_counts stage.Groups left hindered polled more again some count counts = omega (arith, some, count, counts.0)
again_counts stage.Freeze left hindered polled more again some count counts = omega (arith, some, count, counts.0)
again_counts stage.Freezing left hindered polled more again some count counts = omega (arith, some, count, counts)
again_counts (stage.Page page) left hindered polled more again some count counts = omega (arith, some, count, counts.0)
again_counts stage.Release left hindered polled more again some count counts = omega (arith, some, count, counts.0)
again_counts stage.Releasing left hindered polled more again some count counts = omega (arith, some, count, counts)
again_counts stage.Over left hindered polled more again some count counts = tt

-- a stage that is lost had as many
over_few : (now : VdmStage) (left hindered polled more again : ℕ) → IsBusy now → left ≤ 0 → CountAt now left hindered polled → CountsAt now hindered polled more again → Few more again → ⊥
over_few stage.Advertised left hindered polled more again busy none count counts few = omega (arith, none, count, counts.0, few.0)
over_few stage.Groups left hindered polled more again busy none count counts few = omega (arith, none, count, counts.0, few.0)
over_few stage.Freeze left hindered polled more again busy none count counts few = omega (arith, none, count, counts.0, few.0)
over_few stage.Freezing left hindered polled more again busy none count counts few = omega (arith, none, count, counts, few.1)
over_few (stage.Page page) left hindered polled more again busy none count counts few = omega (arith, none, count, counts.0, few.0)
over_few stage.Release left hindered polled more again busy none count counts few = omega (arith, none, count, counts.0, few.0)
over_few stage.Releasing left hindered polled more again busy none count counts few = omega (arith, none, count, counts, few.1)
over_few stage.Over left hindered polled more again busy none count counts few = busy

over_more : (now : VdmStage) (page left hindered polled more again : ℕ) → now ≡ stage.Page page → left ≤ 0 → CountAt now left hindered polled → CountsAt now hindered polled more again → 2 < more
over_more now page left hindered polled more again is none count counts =
    let count_is = subst (λ (now : VdmStage). CountAt now left hindered polled) is count in
    let counts_is = subst (λ (now : VdmStage). CountsAt now hindered polled more again) is counts in
    omega (arith, none, count_is, counts_is.0)

module _ (history : History) where
  abbrev hindered : ℕ
  hindered = hindrances history

  abbrev polled : ℕ
  polled = polls history

  -- where the next page is due
  record IsNext (todo : List ℕ) (reading : VdmReading) : Type 0 where
    pub same : reading.todo.items ≡ todo
    pub room : map.len reading.image + length todo ≤ 15
    pub settled : EachSettled reading.pages.items todo reading.image history
    pub good : Few hindered polled → (reading.statistics ≡ statistics.Frozen) × (reading.release ≡ release.MayBeFrozen)

  all_settled : (now : VdmStage) (reading : VdmReading) → IsNext [] reading → EachAt now reading.pages.items reading.todo.items reading.image history
  all_settled now reading next page among = elim (next.settled page among) [
    | inl none ↦ absurd none
    | inr settled ↦ inr (inr settled)
  ]

  finish_lost : (reading : VdmReading) (may : Bool) → may_be_frozen reading.release ≡ may → IsNext [] reading → Lost history (if may then enter stage.Release reading else over reading)
  finish_lost reading true is next = record {
    room = tt;
    count = omega arith;
    each = all_settled stage.Release reading next;
    done = next.same;
    good = λ few. (next.good few).0;
  }
  finish_lost reading false is next = record {
    room = tt;
    count = tt;
    each = all_settled stage.Over reading next;
    done = next.same;
    good = λ few. (let both : true ≡ false = sym (ap may_be_frozen (next.good few).1) ∙ is in absurd cc);
  }

  next_lost : (todo : List ℕ) (reading : VdmReading) → IsNext todo reading → Lost history (next_by todo reading)
  next_lost [] reading next = finish_lost reading (may_be_frozen reading.release) refl next
  next_lost (first ∷ rest) reading next = record {
    room = omega (arith, next.room);
    count = omega arith;
    each = λ page among. elim (next.settled page among) [
      | inl (inl is) ↦ inr (inl is)
      | inl (inr later) ↦ inl later
      | inr settled ↦ inr (inr settled)
    ];
    done = tt;
    good = next.good;
  }

  -- where no page is current
  past : (now : VdmStage) (pages todo : List ℕ) (image : Memory) → ((page : ℕ) → IsCurrent page now → ⊥) → EachAt now pages todo image history → EachSettled pages todo image history
  past now pages todo image none each page among = elim (each page among) [
    | inl later ↦ inl later
    | inr (inl current) ↦ absurd (none page current)
    | inr (inr settled) ↦ inr settled
  ]

  -- where the current page is settled
  past_page : (current : ℕ) (pages todo : List ℕ) (image : Memory) → IsSettled current image history → EachAt (stage.Page current) pages todo image history → EachSettled pages todo image history
  past_page current pages todo image settled each page among = elim (each page among) [
    | inl later ↦ inl later
    | inr (inl is) ↦ inr (subst (λ (n : ℕ). IsSettled n image history) (sym is) settled)
    | inr (inr settled) ↦ inr settled
  ]

  ends_each : (now : VdmStage) (pages todo : List ℕ) (image : Memory) → ((page : ℕ) → IsCurrent page now → ⊥) → EachAt now pages todo image history → EachAt stage.Over pages todo image history
  ends_each now pages todo image none each page among = elim (past now pages todo image none each page among) [
    | inl later ↦ inl later
    | inr settled ↦ inr (inr settled)
  ]

  record IsLosing (now : VdmStage) (reading : VdmReading) : Type 0 where
    pub busy : IsBusy now
    pub room : RoomAt now (map.len reading.image) (length reading.todo.items)
    pub each : EachAt now reading.pages.items reading.todo.items reading.image history
    pub done : DoneAt now reading.todo.items
    pub many : Few hindered polled → ⊥
    pub refused : (page : ℕ) → now ≡ stage.Page page → SomeStep (IsPageRefused page) history × (2 < hindered)

  over_lost : (now : VdmStage) (reading : VdmReading) → ((page : ℕ) → IsCurrent page now → ⊥) → reading.todo.items ≡ [] → IsLosing now reading → Lost history (over reading)
  over_lost now reading none done losing = record {
    room = tt;
    count = tt;
    each = ends_each now reading.pages.items reading.todo.items reading.image none losing.each;
    done = done;
    good = λ few. absurd (losing.many few);
  }

  lost_lost : (now : VdmStage) (reading : VdmReading) → IsLosing now reading → Lost history (lost_at now reading)
  lost_lost stage.Advertised reading losing = over_lost stage.Advertised reading (λ page none. none) losing.done losing
  lost_lost stage.Groups reading losing = over_lost stage.Groups reading (λ page none. none) losing.done losing
  lost_lost stage.Freeze reading losing = next_lost reading.todo.items (record reading { statistics = statistics.Refused }) (record {
    same = refl;
    room = losing.room;
    settled = past stage.Freeze reading.pages.items reading.todo.items reading.image (λ page none. none) losing.each;
    good = λ few. absurd (losing.many few);
  })
  lost_lost stage.Freezing reading losing = next_lost reading.todo.items (record reading { statistics = statistics.Pending }) (record {
    same = refl;
    room = losing.room;
    settled = past stage.Freezing reading.pages.items reading.todo.items reading.image (λ page none. none) losing.each;
    good = λ few. absurd (losing.many few);
  })
  lost_lost (stage.Page page) reading losing = next_lost reading.todo.items reading (record {
    same = refl;
    room = omega (arith, losing.room);
    settled = past_page page reading.pages.items reading.todo.items reading.image (inr (losing.refused page refl)) losing.each;
    good = λ few. absurd (losing.many few);
  })
  lost_lost stage.Release reading losing = over_lost stage.Release reading (λ page none. none) losing.done losing
  lost_lost stage.Releasing reading losing = over_lost stage.Releasing reading (λ page none. none) losing.done losing
  lost_lost stage.Over reading losing = absurd losing.busy

  -- after a fruitless transaction, before which so many were hindered, and so many polls made
  record IsFailing (before polled_before : ℕ) (reading : VdmReading) : Type 0 where
    pub busy : IsBusy reading.stage
    pub room : RoomAt reading.stage (map.len reading.image) (length reading.todo.items)
    pub count : CountAt reading.stage reading.left before polled_before
    pub counts : CountsAt reading.stage before polled_before hindered polled
    pub each : EachAt reading.stage reading.pages.items reading.todo.items reading.image history
    pub done : DoneAt reading.stage reading.todo.items
    pub good : Few hindered polled → GoodAt reading.stage reading.statistics reading.release
    pub refused : (page : ℕ) → reading.stage ≡ stage.Page page → SomeStep (IsPageRefused page) history

  fruitless_lost : (before polled_before : ℕ) (reading : VdmReading) (more : Bool) → nat_lt 0 reading.left ≡ more → IsFailing before polled_before reading → Lost history (fruitless_by more reading)
  fruitless_lost before polled_before reading true is failing = record {
    room = failing.room;
    count = again_counts reading.stage reading.left before polled_before hindered polled (ltb-true 0 reading.left is) failing.count failing.counts;
    each = failing.each;
    done = failing.done;
    good = failing.good;
  }
  fruitless_lost before polled_before reading false is failing =
      let none = ltb-false 0 reading.left is in
      lost_lost reading.stage (record reading { due = true }) (record {
        busy = failing.busy;
        room = failing.room;
        each = failing.each;
        done = failing.done;
        many = over_few reading.stage reading.left before polled_before hindered polled failing.busy none failing.count failing.counts;
        refused = λ page at. (failing.refused page at, over_more reading.stage page reading.left before polled_before hindered polled at none failing.count failing.counts);
      })

  failed_lost : (before polled_before : ℕ) (reading : VdmReading) → IsFailing before polled_before reading → Lost history (failed reading)
  failed_lost before polled_before reading failing = fruitless_lost before polled_before (record reading { selection = selected_page.Unknown }) (nat_lt 0 reading.left) refl (record {
    busy = failing.busy;
    room = failing.room;
    count = failing.count;
    counts = failing.counts;
    each = failing.each;
    done = failing.done;
    good = failing.good;
    refused = failing.refused;
  })

-- ---- what an image has

len_by : (has : Bool) (n : ℕ) → cond has n (n + 1) ≤ n + 1
len_by true n = omega arith
len_by false n = omega arith

pub put_len : (image : Memory) (page : ℕ) (bytes : List ℕ) → map.len (put_in image page bytes) ≤ map.len image + 1
put_len image page bytes = by (map.len image == most_pages && is_absent image (key_of page)) where
  by : (full : Bool) → map.len (if full then image else map.insert image (key_of page) bytes) ≤ map.len image + 1
  by true = omega arith
  by false = subst (λ (n : ℕ). n ≤ map.len image + 1) (sym (map.len-insert keys_total image (key_of page) bytes)) (len_by (map.contains_key image (key_of page)) (map.len image))

pub put_there : (image : Memory) (page : ℕ) (bytes : List ℕ) → map.len image < 16 → map.get (put_in image page bytes) (key_of page) ≡ Some bytes
put_there image page bytes room =
    let key = key_of page in
    let not_full : (map.len image == most_pages) ≡ false = false_from_ne_true (map.len image == most_pages) (λ full. (let same = eqb-true (map.len image) most_pages full in absurd (omega (arith, same, room)))) in
    ap (λ (b : Bool). map.get (if b && is_absent image key then image else map.insert image key bytes) key) not_full
    ∙ map.get-insert keys_total image key bytes key
    ∙ ap (λ (b : Bool). cond b (Some bytes) (map.get image key)) ((eq_by_cmp_equiv keys_total).refl key)

pub put_own : (image : Memory) (page : ℕ) (bytes : List ℕ) → map.len image < 16 → is_absent (put_in image page bytes) (key_of page) ≡ false
put_own image page bytes room = ap (λ (half : Option (List ℕ)). not (is_some half)) (put_there image page bytes room)

pub put_keeps : (image : Memory) (page : ℕ) (bytes : List ℕ) (other : ℕ) → is_absent image (key_of other) ≡ false → is_absent (put_in image page bytes) (key_of other) ≡ false
put_keeps image page bytes other there = by (map.len image == most_pages && is_absent image (key_of page)) where
  inserted : (same : Bool) → not (is_some (cond same (Some bytes) (map.get image (key_of other)))) ≡ false
  inserted true = refl
  inserted false = there

  by : (full : Bool) → is_absent (if full then image else map.insert image (key_of page) bytes) (key_of other) ≡ false
  by true = there
  by false =
      ap (λ (o : Option (List ℕ)). not (is_some o)) (map.get-insert keys_total image (key_of page) bytes (key_of other))
      ∙ inserted (eq_by_cmp key_cmp (key_of other) (key_of page))

each_put : (now : VdmStage) (pages todo : List ℕ) (image : Memory) (page : ℕ) (bytes : List ℕ) (history : History) → EachAt now pages todo image history → EachAt now pages todo (put_in image page bytes) history
each_put now pages todo image page bytes history each other among = elim (each other among) [
  | inl later ↦ inl later
  | inr (inl current) ↦ inr (inl current)
  | inr (inr (inl there)) ↦ inr (inr (inl (put_keeps image page bytes other there)))
  | inr (inr (inr lost)) ↦ inr (inr (inr lost))
]

-- ---- one transaction more

named_whole : (page : ℕ) → 256 * (page / 256) + page % 256 ≡ page
named_whole page = omega arith

page_is : (page : ℕ) (history : History) → IsTaken page history → page_taken history ≡ page
page_is page [] taken = absurd taken
page_is page (step ∷ before) taken = ap page_named taken.0 ∙ named_whole page

count_more : (now : VdmStage) (left hindered polled more again : ℕ) → hindered ≤ more → polled ≤ again → CountAt now left hindered polled → CountAt now left more again
count_more stage.Advertised left hindered polled more again grows polls count = omega (arith, grows, count)
count_more stage.Groups left hindered polled more again grows polls count = omega (arith, grows, count)
count_more stage.Freeze left hindered polled more again grows polls count = omega (arith, grows, count)
count_more stage.Freezing left hindered polled more again grows polls count = omega (arith, grows, polls, count)
count_more (stage.Page page) left hindered polled more again grows polls count = omega (arith, grows, count)
count_more stage.Release left hindered polled more again grows polls count = omega (arith, grows, count)
count_more stage.Releasing left hindered polled more again grows polls count = omega (arith, grows, polls, count)
count_more stage.Over left hindered polled more again grows polls count = tt

counts_hindered : (now : VdmStage) (hindered polled more again : ℕ) → more ≡ 1 + hindered → polled ≤ again → CountsAt now hindered polled more again
counts_hindered stage.Advertised hindered polled more again one polls = (omega (arith, one), polls)
counts_hindered stage.Groups hindered polled more again one polls = (omega (arith, one), polls)
counts_hindered stage.Freeze hindered polled more again one polls = (omega (arith, one), polls)
counts_hindered stage.Freezing hindered polled more again one polls = omega (arith, one, polls)
counts_hindered (stage.Page page) hindered polled more again one polls = (omega (arith, one), polls)
counts_hindered stage.Release hindered polled more again one polls = (omega (arith, one), polls)
counts_hindered stage.Releasing hindered polled more again one polls = omega (arith, one, polls)
counts_hindered stage.Over hindered polled more again one polls = (omega (arith, one), polls)

module _ (history : History) (reading : VdmReading) (lost : Lost history reading) where
  abbrev page : ℕ
  page = page_now reading

  room_at : (now : VdmStage) → reading.stage ≡ now → RoomAt now (map.len reading.image) (length reading.todo.items)
  room_at now is = subst (λ (now : VdmStage). RoomAt now (map.len reading.image) (length reading.todo.items)) is lost.room

  each_at : (now : VdmStage) → reading.stage ≡ now → (step : Step) → EachAt now reading.pages.items reading.todo.items reading.image (step ∷ history)
  each_at now is step = each_more now reading.pages.items reading.todo.items reading.image step history (subst (λ (now : VdmStage). EachAt now reading.pages.items reading.todo.items reading.image history) is lost.each)

  done_at : (now : VdmStage) → reading.stage ≡ now → DoneAt now reading.todo.items
  done_at now is = subst (λ (now : VdmStage). DoneAt now reading.todo.items) is lost.done

  good_at : (now : VdmStage) → reading.stage ≡ now → (step : Step) → Few (grown step history) (polls (step ∷ history)) → GoodAt now reading.statistics reading.release
  good_at now is step few = subst (λ (now : VdmStage). GoodAt now reading.statistics reading.release) is (lost.good (fewer step history few))

  quiet : (step : Step) → Lost (step ∷ history) reading
  quiet step = record {
    room = lost.room;
    count = count_more reading.stage reading.left (hindrances history) (polls history) (grown step history) (polls (step ∷ history)) (grows step history) (polls_grow step history) lost.count;
    each = each_at reading.stage refl step;
    done = lost.done;
    good = λ few. lost.good (fewer step history few);
  }

  -- with another selection
  selecting : (step : Step) (selected : KnownPage) → Lost (step ∷ history) (record reading { selection = selected })
  selecting step selected = record {
    room = lost.room;
    count = (quiet step).count;
    each = (quiet step).each;
    done = lost.done;
    good = (quiet step).good;
  }

  failing : (step : Step) → IsBusy reading.stage → CountsAt reading.stage (hindrances history) (polls history) (grown step history) (polls (step ∷ history)) →
      ((number : ℕ) → reading.stage ≡ stage.Page number → IsPageRefused number step history) → IsFailing (step ∷ history) (hindrances history) (polls history) reading
  failing step busy counts refused = record {
    busy = busy;
    room = lost.room;
    count = lost.count;
    counts = counts;
    each = each_at reading.stage refl step;
    done = lost.done;
    good = λ few. lost.good (fewer step history few);
    refused = λ number at. inl (refused number at);
  }

  fails : (step : Step) → IsBusy reading.stage → is_hindered step history ≡ true →
      ((number : ℕ) → reading.stage ≡ stage.Page number → IsPageRefused number step history) → Lost (step ∷ history) (failed reading)
  fails step busy is refused =
      failed_lost (step ∷ history) (hindrances history) (polls history) reading
      (failing step busy (counts_hindered reading.stage (hindrances history) (polls history) (grown step history) (polls (step ∷ history)) (ap (λ (b : Bool). one_if b + hindrances history) is) (polls_grow step history)) refused)

  -- of the page of the stage
  of_stage : (step : Step) → IsPageRefused page step history → (number : ℕ) → reading.stage ≡ stage.Page number → IsPageRefused number step history
  of_stage step refused number at = subst (λ (n : ℕ). IsPageRefused n step history) (ap (page_at reading.request.bank) at) refused

  module _ (busy : IsBusy reading.stage) where
    confirms : IsTaken page history → (bytes : ArrayVec ℕ) (shows : Bool) → is_known (selection_read BankAndPage bytes.items) page ≡ shows
        → Lost (step_of (read_selection BankAndPage) (Bytes bytes) ∷ history) (confirmed shows reading)
    confirms taken bytes true is = selecting (step_of (read_selection BankAndPage) (Bytes bytes)) (selected_page.Page page)
    confirms taken bytes false is =
        let step = step_of (read_selection BankAndPage) (Bytes bytes) in
        let other = read_tells BankAndPage bytes.items page ∙ is in
        fails step busy (ap (λ (n : ℕ). not (is_page BankAndPage n (Bytes bytes))) (page_is page history taken) ∙ ap not other) (of_stage step (inr (inl (refl, other, taken))))

    backs : IsTaken page history → (reply : Reply) → Answers (read_selection BankAndPage) reply → Lost (step_of (read_selection BankAndPage) reply ∷ history) (after_read_back reading reply)
    backs taken (Bytes bytes) answers = confirms taken bytes (is_known (selection_read BankAndPage bytes.items) page) refl
    backs taken Done answers = absurd answers
    backs taken Refused answers = let step = step_of (read_selection BankAndPage) Refused in fails step busy refl (of_stage step (inr (inl (refl, refl, taken))))

    selects : (reply : Reply) → Answers (selection BankAndPage page) reply → Lost (step_of (selection BankAndPage page) reply ∷ history) (after_selection reading reply)
    selects (Bytes bytes) answers = absurd answers
    selects Done answers = selecting (step_of (selection BankAndPage page) Done) selected_page.Open
    selects Refused answers = let step = step_of (selection BankAndPage page) Refused in fails step busy refl (of_stage step (inl (refl, refl)))

    module _ (shown : IsShown page history) where
      module _ (bytes : ArrayVec ℕ) where
        abbrev fetched : Op → Step
        fetched op = step_of op (Bytes bytes)

        advertises : reading.stage ≡ stage.Advertised → (has : Bool) → let new = kept 0x01 bytes.items reading in
            Lost (fetched read_half ∷ history) (if has then enter stage.Groups new else enter stage.Over (record new { statistics = statistics.Unsupported }))
        advertises is true = record {
          room = omega (arith, put_len reading.image 0x01 bytes.items, room_at stage.Advertised is);
          count = omega arith;
          each = each_put stage.Groups reading.pages.items reading.todo.items reading.image 0x01 bytes.items (fetched read_half ∷ history) (each_at stage.Advertised is (fetched read_half));
          done = done_at stage.Advertised is;
          good = λ few. tt;
        }
        advertises is false = record {
          room = tt;
          count = tt;
          each = each_put stage.Over reading.pages.items reading.todo.items reading.image 0x01 bytes.items (fetched read_half ∷ history) (each_at stage.Advertised is (fetched read_half));
          done = done_at stage.Advertised is;
          good = λ few. inl refl;
        }

        groups : reading.stage ≡ stage.Groups → Lost (fetched read_half ∷ history) (read_at stage.Groups bytes.items reading)
        groups is = record {
          room = omega (arith, put_len reading.image (groups_page reading.request.bank) bytes.items, room_at stage.Groups is, pages_few (put_in reading.image (groups_page reading.request.bank) bytes.items) reading.request.bank);
          count = omega arith;
          each = λ number among. inl among;
          done = tt;
          good = λ few. tt;
        }

        waits : (now : VdmStage) → reading.stage ≡ now → ((number : ℕ) → now ≡ stage.Page number → ⊥) → CountsAt now (hindrances history) (polls history) (grown (fetched read_done) history) (polls (fetched read_done ∷ history))
            → Lost (fetched read_done ∷ history) (fruitless reading)
        waits now is none counts =
            fruitless_lost (fetched read_done ∷ history) (hindrances history) (polls history) reading (nat_lt 0 reading.left) refl
            (failing (fetched read_done) busy (subst (λ (now : VdmStage). CountsAt now (hindrances history) (polls history) (grown (fetched read_done) history) (polls (fetched read_done ∷ history))) (sym is) counts)
            (λ number at. absurd (none number (sym is ∙ at))))

        polled_more : hindrances history + polls history + 1 ≤ grown (fetched read_done) history + polls (fetched read_done ∷ history)
        polled_more = omega (arith, grows (fetched read_done) history)

        freezes : reading.stage ≡ stage.Freezing → (done : Bool) → Lost (fetched read_done ∷ history) (frozen_by done reading)
        freezes is true = next_lost (fetched read_done ∷ history) reading.todo.items (record reading { statistics = statistics.Frozen }) (record {
          same = refl;
          room = room_at stage.Freezing is;
          settled = past (fetched read_done ∷ history) stage.Freezing reading.pages.items reading.todo.items reading.image (λ number none. none) (each_at stage.Freezing is (fetched read_done));
          good = λ few. (refl, good_at stage.Freezing is (fetched read_done) few);
        })
        freezes is false = waits stage.Freezing is (λ number at. (let clash : stage.Freezing ≡ stage.Page number = at in cc)) polled_more

        releases : reading.stage ≡ stage.Releasing → (done : Bool) → Lost (fetched read_done ∷ history) (released_by done reading)
        releases is true = record {
          room = tt;
          count = tt;
          each = each_at stage.Releasing is (fetched read_done);
          done = done_at stage.Releasing is;
          good = λ few. inr (good_at stage.Releasing is (fetched read_done) few, refl);
        }
        releases is false = waits stage.Releasing is (λ number at. (let clash : stage.Releasing ≡ stage.Page number = at in cc)) polled_more

        paged : (number : ℕ) → reading.stage ≡ stage.Page number → Lost (fetched read_half ∷ history) (read_at (stage.Page number) bytes.items reading)
        paged number is =
            let image = put_in reading.image number bytes.items in
            let room = room_at (stage.Page number) is in
            let each = each_put (stage.Page number) reading.pages.items reading.todo.items reading.image number bytes.items (fetched read_half ∷ history) (each_at (stage.Page number) is (fetched read_half)) in
            next_lost (fetched read_half ∷ history) reading.todo.items (kept number bytes.items reading) (record {
              same = refl;
              room = omega (arith, put_len reading.image number bytes.items, room);
              settled = past_page (fetched read_half ∷ history) number reading.pages.items reading.todo.items image (inl (put_own reading.image number bytes.items (omega (arith, room)))) each;
              good = good_at (stage.Page number) is (fetched read_half);
            })

        reads : (now : VdmStage) (work : Op) → reading.stage ≡ now → work_at reading now ≡ Do work → Answers work (Bytes bytes) → Lost (fetched work ∷ history) (read_at now bytes.items reading)
        reads stage.Advertised work is does answers =
            let own : read_half ≡ work = cc in
            subst (λ op. Lost (fetched op ∷ history) (read_at stage.Advertised bytes.items reading)) own (advertises is (has_observables (kept 0x01 bytes.items reading).image))
        reads stage.Groups work is does answers =
            let own : read_half ≡ work = cc in
            subst (λ op. Lost (fetched op ∷ history) (read_at stage.Groups bytes.items reading)) own (groups is)
        reads stage.Freeze work is does answers =
            let own : store_control (freezing reading.control) ≡ work = cc in
            absurd (subst (λ op. Answers op (Bytes bytes)) (sym own) answers)
        reads stage.Freezing work is does answers =
            let own : read_done ≡ work = cc in
            subst (λ op. Lost (fetched op ∷ history) (read_at stage.Freezing bytes.items reading)) own (freezes is (is_freeze_done bytes.items))
        reads (stage.Page number) work is does answers =
            let own : read_half ≡ work = cc in
            subst (λ op. Lost (fetched op ∷ history) (read_at (stage.Page number) bytes.items reading)) own (paged number is)
        reads stage.Release work is does answers =
            let own : store_control (releasing reading.control) ≡ work = cc in
            absurd (subst (λ op. Answers op (Bytes bytes)) (sym own) answers)
        reads stage.Releasing work is does answers =
            let own : read_done ≡ work = cc in
            subst (λ op. Lost (fetched op ∷ history) (read_at stage.Releasing bytes.items reading)) own (releases is (is_unfreeze_done bytes.items))
        reads stage.Over work is does answers = absurd cc

      accepts : (now : VdmStage) (work : Op) → reading.stage ≡ now → work_at reading now ≡ Do work → Answers work Done → Lost (step_of work Done ∷ history) (accepted_at now reading)
      accepts stage.Advertised work is does answers = let own : read_half ≡ work = cc in absurd (subst (λ op. Answers op Done) (sym own) answers)
      accepts stage.Groups work is does answers = let own : read_half ≡ work = cc in absurd (subst (λ op. Answers op Done) (sym own) answers)
      accepts stage.Freeze work is does answers = record {
        room = room_at stage.Freeze is;
        count = omega arith;
        each = each_at stage.Freeze is (step_of work Done);
        done = tt;
        good = λ few. refl;
      }
      accepts stage.Freezing work is does answers = let own : read_done ≡ work = cc in absurd (subst (λ op. Answers op Done) (sym own) answers)
      accepts (stage.Page number) work is does answers = let own : read_half ≡ work = cc in absurd (subst (λ op. Answers op Done) (sym own) answers)
      accepts stage.Release work is does answers = record {
        room = tt;
        count = omega arith;
        each = each_at stage.Release is (step_of work Done);
        done = done_at stage.Release is;
        good = good_at stage.Release is (step_of work Done);
      }
      accepts stage.Releasing work is does answers = let own : read_done ≡ work = cc in absurd (subst (λ op. Answers op Done) (sym own) answers)
      accepts stage.Over work is does answers = absurd cc

      -- work that was refused, on no page that may be lost
      refused_on : (now : VdmStage) (work : Op) → reading.stage ≡ now → ((number : ℕ) → now ≡ stage.Page number → ⊥) → Lost (step_of work Refused ∷ history) (failed reading)
      refused_on now work is none = fails (step_of work Refused) busy refl (λ number at. absurd (none number (sym is ∙ at)))

      asked_on : (work : Op) → reading.stage ≡ stage.Freeze → Lost (step_of work Refused ∷ history) (failed (asked reading))
      asked_on work is =
          let step = step_of work Refused in
          failed_lost (step ∷ history) (hindrances history) (polls history) (asked reading) (record {
            busy = busy;
            room = lost.room;
            count = lost.count;
            counts = counts_hindered reading.stage (hindrances history) (polls history) (grown step history) (polls (step ∷ history)) refl (polls_grow step history);
            each = each_at reading.stage refl step;
            done = lost.done;
            good = λ few. subst (λ (now : VdmStage). GoodAt now reading.statistics release.MayBeFrozen) (sym is) tt;
            refused = λ number at. (let clash : stage.Freeze ≡ stage.Page number = sym is ∙ at in absurd cc);
          })

      refuses : (now : VdmStage) (work : Op) → reading.stage ≡ now → work_at reading now ≡ Do work → Lost (step_of work Refused ∷ history) (refused_at now reading)
      refuses stage.Advertised work is does = refused_on stage.Advertised work is (λ number at. (let clash : stage.Advertised ≡ stage.Page number = at in cc))
      refuses stage.Groups work is does = refused_on stage.Groups work is (λ number at. (let clash : stage.Groups ≡ stage.Page number = at in cc))
      refuses stage.Freeze work is does = asked_on work is
      refuses stage.Freezing work is does = refused_on stage.Freezing work is (λ number at. (let clash : stage.Freezing ≡ stage.Page number = at in cc))
      refuses (stage.Page number) work is does =
          let own : read_half ≡ work = cc in
          fails (step_of work Refused) busy refl (of_stage (step_of work Refused) (inr (inr (sym own, refl, shown))))
      refuses stage.Release work is does = refused_on stage.Release work is (λ number at. (let clash : stage.Release ≡ stage.Page number = at in cc))
      refuses stage.Releasing work is does = refused_on stage.Releasing work is (λ number at. (let clash : stage.Releasing ≡ stage.Page number = at in cc))
      refuses stage.Over work is does = absurd cc

      works : (reply : Reply) (work : Op) → work_at reading reading.stage ≡ Do work → Answers work reply → Lost (step_of work reply ∷ history) (after_work reading reply)
      works (Bytes bytes) work does answers = reads bytes reading.stage work refl does answers
      works Done work does answers = accepts reading.stage work refl does answers
      works Refused work does answers = refuses reading.stage work refl does

record Known (history : History) (reading : VdmReading) : Type 0 where
  pub shown : Shown history reading
  pub lost : Lost history reading

keeps : (history : History) (reading : VdmReading) (op : Op) (reply : Reply) → wants reading ≡ Do op → Answers op reply → Known history reading → Known (step_of op reply ∷ history) (after reading reply)
keeps history reading op reply asks answers known =
    let lost = by_turn reading reply (λ op new. Answers op reply → Lost (step_of op reply ∷ history) new)
    (λ work does awaits answers. backs history reading known.lost (busy_at reading reading.stage work does) (is_taken history reading known.shown awaits) reply answers)
    (λ work does closed elsewhere answers. selects history reading known.lost (busy_at reading reading.stage work does) reply answers)
    (λ work does on answers. works history reading known.lost (busy_at reading reading.stage work does) (is_shown history reading known.shown on) reply work does answers)
    op asks answers in
    record { shown = keeps_shown history reading op reply asks known.shown; lost = lost }

begins : (request : VdmRequest) → Known [] (begun request)
begins request = record {
  shown = tt;
  lost = record {
    room = subst (λ (n : ℕ). n ≤ 0) (sym (map.len-empty key_cmp (List ℕ))) (omega arith);
    count = omega arith;
    each = λ page none. absurd none;
    done = refl;
    good = λ few. tt;
  };
}

rests : (history : History) (reading : VdmReading) → Known history reading → Known history (rested reading)
rests history reading known = record {
  shown = known.shown;
  lost = record { room = known.lost.room; count = known.lost.count; each = known.lost.each; done = known.lost.done; good = known.lost.good };
}

-- ---- at the end

module _ (events : Events) (reading : VdmReading) (told : IsTold events reading) (over : reading.stage ≡ stage.Over) where
  abbrev history : History
  history = steps_of events

  lost_now : Lost history reading
  lost_now = (holds_told Known begins keeps rests events reading told).lost

  settled_now : (page : ℕ) → IsAmong page reading.pages.items → IsSettled page reading.image history
  settled_now page among = elim (subst (λ (now : VdmStage). EachAt now reading.pages.items reading.todo.items reading.image history) over lost_now.each page among) [
    | inl later ↦ absurd (subst (λ (todo : List ℕ). IsAmong page todo) (subst (λ (now : VdmStage). DoneAt now reading.todo.items) over lost_now.done) later)
    | inr (inl current) ↦ absurd current
    | inr (inr found) ↦ found
  ]

  pub lost_alone : IsLostAlone reading history
  lost_alone page among absent = elim (settled_now page among) [
    | inl found ↦ (let both : false ≡ true = sym found ∙ absent in absurd cc)
    | inr lost ↦ lost
  ]

  all_there : hindrances history ≤ 2 → (page : ℕ) → IsAmong page reading.pages.items → is_absent reading.image (key_of page) ≡ false
  all_there few page among = elim (settled_now page among) [
    | inl found ↦ found
    | inr lost ↦ absurd (omega (arith, few, lost.1))
  ]

  pub whole : hindrances history ≤ 2 → hindrances history + polls history ≤ 100 → IsWhole reading
  whole few all = elim (subst (λ (now : VdmStage). GoodAt now reading.statistics reading.release) over (lost_now.good (few, all))) [
    | inl none ↦ inl none
    | inr good ↦ inr (good.0, good.1, all_there few)
  ]
