-- The pages that a reading lists are those that pages 01h and 2Fh advertise as they were read, unless one of these was refused.
use Rattle.std.proofs.Common.{◌≡◌, ◌≤◌, ◌<◌, ◌⊎◌, ℕ, ◌+◌, ◌*◌, ◌/◌, ◌%◌, ◌==◌, ◌&&◌, Bool, true, false, List, [], ◌∷◌, Option, Some, refl, sym, ap, subst, ◌∙◌, inl, inr, if◌then◌else◌, cond, length, nat_lt, arith}
use Rattle.std.specs.Prelude.{option_map}
use Rattle.std.proofs.lemmas.Bool.{and_parts, false_from_ne_true, ltb-true}
use Rattle.std.specs.FinMap as map
use Rattle.std.specs.Option.{option_map_or}
use Rattle.std.specs.Ordering.{eq_by_cmp}
use Rattle.arrayvec.specs.ArrayVec.{ArrayVec}
use Rattle.bus_model.specs.declared.device.Dev.TheVariants.{A0}
use Rattle.bus_model.specs.declared.operation.Op.{Op}
use Rattle.bus_model.specs.declared.operation.Reply.{Reply}
use Rattle.bus_model.specs.declared.operation.Reply.TheVariants.{Bytes, Done, Refused}
use Rattle.bus_model.specs.declared.operation.Step.{Step}
use Rattle.bus_model.specs.Operations.{Answers}
use Rattle.conversations.specs.declared.next.Next.TheVariants.{Do}
use Rattle.conversations.specs.Events.{Events, steps_of}
use Rattle.field_tables.specs.Halves.{is_absent}
use Rattle.observables.specs.Pages.{groups, has_observables, pages_of}
use Rattle.observables.specs.Words.{byte_in}
use Rattle.paged_memory.specs.declared.key.Key.{Key}
use Rattle.paged_memory.specs.declared.page_addressing.PageAddressing.TheVariants.{BankAndPage}
use Rattle.paged_memory.specs.declared.page_addressing.KnownPage.TheVariants as selected_page
use Rattle.paged_memory.specs.Images.{Memory, most_pages}
use Rattle.paged_memory.specs.KeyOrder.{key_cmp}
use Rattle.paged_memory.specs.Keys.{upper_key}
use Rattle.paged_memory.specs.KnownPages.{is_known, selection_read}
use Rattle.paged_memory.specs.PageAddressing.{History, read_selection, selection}
use Rattle.paged_memory.proofs.KeyLaws.{keys_total}
use Rattle.paged_memory.proofs.KnownPageLaws.{read_tells, step_of}
use Rattle.vdm_reading.specs.declared.end.Statistics.TheVariants as statistics
use Rattle.vdm_reading.specs.declared.reading.VdmReading.{VdmReading}
use Rattle.vdm_reading.specs.declared.reading.VdmRequest.{VdmRequest}
use Rattle.vdm_reading.specs.declared.reading.VdmStage.{VdmStage}
use Rattle.vdm_reading.specs.declared.reading.VdmStage.TheVariants as stage
use Rattle.vdm_reading.specs.BankPages.{bank_pages, groups_page, numbered, numbers_of}
use Rattle.vdm_reading.specs.FrozenSteps.{IsPageRefused, IsShown, IsTaken, SomeStep, WasRead, freezing, is_freeze_done, is_unfreeze_done, read_done, read_half, releasing, store_control}
use Rattle.vdm_reading.specs.VdmAccounts.{IsAmong, IsTold}
use Rattle.vdm_reading.specs.VdmStages.{accepted_at, after, after_read_back, after_selection, after_work, asked, begun, confirmed, enter, failed, frozen_by, fruitless, fruitless_by, kept, key_of, lost_at, may_be_frozen, next_by, over, page_at, page_now, put_in, read_at, refused_at, released_by, wants, work_at}
use Rattle.vdm_reading.proofs.EndingLaws.{numbers_few}
use Rattle.vdm_reading.proofs.LostLaws.{put_keeps, put_len, put_own, put_there}
use Rattle.vdm_reading.proofs.SetLaws.{same_page}
use Rattle.vdm_reading.proofs.ShownLaws.{Shown, is_shown, is_taken, keeps_shown}
use Rattle.vdm_reading.proofs.WantedTurns.{by_turn, holds_told}

-- ---- what is known at a stage

-- what page 01h says of statistics
abbrev pub offers : List ℕ → Bool
offers first = byte_in first 142 / 64 % 2 == 1

-- page 01h is in the image as it was read, and offers statistics
record HasFirst (image : Memory) (history : History) : Type 0 where
  pub first : List ℕ
  pub there : map.get image (key_of 0x01) ≡ Some first
  pub was_read : WasRead 0x01 first history
  pub offered : offers first ≡ true

-- these pages are what pages 01h and 2Fh advertise of the bank, and page 2Fh is in the image
pub record IsGrouped (bank : ℕ) (image : Memory) (listed : List ℕ) (history : History) : Type 0 where
  pub first : List ℕ
  pub groups : List ℕ
  pub first_read : WasRead 0x01 first history
  pub groups_read : WasRead (groups_page bank) groups history
  pub offered : offers first ≡ true
  pub listed_are : listed ≡ numbers_of bank (pages_of (byte_in groups 128 % 4))
  pub there : is_absent image (key_of (groups_page bank)) ≡ false

abbrev pub IsNotOffered : History → Type 0
IsNotOffered history = (first : List ℕ) × WasRead 0x01 first history × (offers first ≡ false)

-- page 01h was refused, or offers none, or page 2Fh was refused
abbrev pub IsNoneListed : ℕ → History → Type 0
IsNoneListed bank history = SomeStep (IsPageRefused 0x01) history ⊎ (IsNotOffered history ⊎ SomeStep (IsPageRefused (groups_page bank)) history)

abbrev pub IsListed : ℕ → Memory → List ℕ → History → Type 0
IsListed bank image listed history = ((listed ≡ []) × IsNoneListed bank history) ⊎ IsGrouped bank image listed history

record IsFirstDone (image : Memory) (listed : List ℕ) (history : History) : Type 0 where
  pub few : map.len image ≤ 1
  pub none : listed ≡ []
  pub first : HasFirst image history

abbrev GroupAt : ℕ → VdmStage → Memory → List ℕ → History → Type 0
GroupAt bank stage.Advertised image listed history = (map.len image ≤ 0) × (listed ≡ [])
GroupAt bank stage.Groups image listed history = IsFirstDone image listed history
GroupAt bank stage.Freeze image listed history = IsGrouped bank image listed history
GroupAt bank stage.Freezing image listed history = IsGrouped bank image listed history
GroupAt bank (stage.Page page) image listed history = IsGrouped bank image listed history
GroupAt bank stage.Release image listed history = IsGrouped bank image listed history
GroupAt bank stage.Releasing image listed history = IsGrouped bank image listed history
GroupAt bank stage.Over image listed history = IsListed bank image listed history

abbrev Group : History → VdmReading → Type 0
Group history reading = GroupAt reading.request.bank reading.stage reading.image reading.pages.items history

-- where one of these two pages is read
abbrev IsFirst : VdmStage → Type 0
IsFirst stage.Advertised = Unit {0}
IsFirst stage.Groups = Unit {0}
IsFirst now = ⊥

-- ---- one step more

grouped_more : (bank : ℕ) (image : Memory) (listed : List ℕ) (step : Step) (history : History) → IsGrouped bank image listed history → IsGrouped bank image listed (step ∷ history)
grouped_more bank image listed step history was = record {
  first = was.first;
  groups = was.groups;
  first_read = inr was.first_read;
  groups_read = inr was.groups_read;
  offered = was.offered;
  listed_are = was.listed_are;
  there = was.there;
}

none_more : (bank : ℕ) (step : Step) (history : History) → IsNoneListed bank history → IsNoneListed bank (step ∷ history)
none_more bank step history (inl refused) = inl (inr refused)
none_more bank step history (inr (inl offered)) = inr (inl (offered.0, inr offered.1, offered.2))
none_more bank step history (inr (inr refused)) = inr (inr (inr refused))

listed_more : (bank : ℕ) (image : Memory) (listed : List ℕ) (step : Step) (history : History) → IsListed bank image listed history → IsListed bank image listed (step ∷ history)
listed_more bank image listed step history (inl none) = inl (none.0, none_more bank step history none.1)
listed_more bank image listed step history (inr was) = inr (grouped_more bank image listed step history was)

first_more : (image : Memory) (step : Step) (history : History) → HasFirst image history → HasFirst image (step ∷ history)
first_more image step history was = record { first = was.first; there = was.there; was_read = inr was.was_read; offered = was.offered }

group_more : (bank : ℕ) (now : VdmStage) (image : Memory) (listed : List ℕ) (step : Step) (history : History) → GroupAt bank now image listed history → GroupAt bank now image listed (step ∷ history)
group_more bank stage.Advertised image listed step history was = was
group_more bank stage.Groups image listed step history was = record { few = was.few; none = was.none; first = first_more image step history was.first }
group_more bank stage.Freeze image listed step history was = grouped_more bank image listed step history was
group_more bank stage.Freezing image listed step history was = grouped_more bank image listed step history was
group_more bank (stage.Page page) image listed step history was = grouped_more bank image listed step history was
group_more bank stage.Release image listed step history was = grouped_more bank image listed step history was
group_more bank stage.Releasing image listed step history was = grouped_more bank image listed step history was
group_more bank stage.Over image listed step history was = listed_more bank image listed step history was

-- ---- what comes next

module _ (history : History) where
  abbrev Grouped : VdmReading → Type 0
  Grouped reading = IsGrouped reading.request.bank reading.image reading.pages.items history

  finish_group : (frozen : Bool) (reading : VdmReading) → Grouped reading → Group history (if frozen then enter stage.Release reading else over reading)
  finish_group true reading was = was
  finish_group false reading was = inr was

  next_group : (todo : List ℕ) (reading : VdmReading) → Grouped reading → Group history (next_by todo reading)
  next_group [] reading was = finish_group (may_be_frozen reading.release) reading was
  next_group (page ∷ rest) reading was = was

  lost_group : (now : VdmStage) (reading : VdmReading) → GroupAt reading.request.bank now reading.image reading.pages.items history → (IsFirst now → SomeStep (IsPageRefused (page_at reading.request.bank now)) history) → Group history (lost_at now reading)
  lost_group stage.Advertised reading was refused = inl (was.1, inl (refused tt))
  lost_group stage.Groups reading was refused = inl (was.none, inr (inr (refused tt)))
  lost_group stage.Freeze reading was refused = next_group reading.todo.items (record reading { statistics = statistics.Refused }) was
  lost_group stage.Freezing reading was refused = next_group reading.todo.items (record reading { statistics = statistics.Pending }) was
  lost_group (stage.Page page) reading was refused = next_group reading.todo.items reading was
  lost_group stage.Release reading was refused = inr was
  lost_group stage.Releasing reading was refused = inr was
  lost_group stage.Over reading was refused = was

  fruitless_group : (more : Bool) (reading : VdmReading) → Group history reading → (IsFirst reading.stage → SomeStep (IsPageRefused (page_now reading)) history) → Group history (fruitless_by more reading)
  fruitless_group true reading was refused = was
  fruitless_group false reading was refused = lost_group reading.stage (record reading { due = true }) was refused

  failed_group : (reading : VdmReading) → Group history reading → (IsFirst reading.stage → SomeStep (IsPageRefused (page_now reading)) history) → Group history (failed reading)
  failed_group reading was refused = fruitless_group (nat_lt 0 reading.left) (record reading { selection = selected_page.Unknown }) was refused

-- ---- what an image has

put_beside : (image : Memory) (page : ℕ) (bytes : List ℕ) (other : ℕ) → eq_by_cmp key_cmp (key_of other) (key_of page) ≡ false → map.get (put_in image page bytes) (key_of other) ≡ map.get image (key_of other)
put_beside image page bytes other apart = by (map.len image == most_pages && is_absent image (key_of page)) where
  by : (full : Bool) → map.get (if full then image else map.insert image (key_of page) bytes) (key_of other) ≡ map.get image (key_of other)
  by true = refl
  by false = map.get-insert keys_total image (key_of page) bytes (key_of other) ∙ ap (λ (b : Bool). cond b (Some bytes) (map.get image (key_of other))) apart

pub offered_by : (image : Memory) (first : List ℕ) → map.get image (key_of 0x01) ≡ Some first → has_observables image ≡ offers first
offered_by image first there = ap (λ (half : Option (List ℕ)). option_map_or (λ (bytes : List ℕ). offers bytes) half false) there

-- the page with the groups, by its bank
pub groups_key : (bank : ℕ) → upper_key A0 bank 0x2F ≡ key_of (groups_page bank)
groups_key bank =
    let in_bank : bank ≡ (256 * bank + 0x2F) / 256 = omega arith in
    let number : 0x2F ≡ (256 * bank + 0x2F) % 256 = omega arith in
    λ i. upper_key A0 (in_bank i) (number i)

pub pages_by : (image : Memory) (bank : ℕ) (first of : List ℕ) → map.get image (key_of 0x01) ≡ Some first → offers first ≡ true → map.get image (key_of (groups_page bank)) ≡ Some of
    → bank_pages image bank ≡ numbers_of bank (pages_of (byte_in of 128 % 4))
pages_by image bank first of there offered groups_there =
    ap (λ (has : Bool). numbers_of bank (if has then option_map_or pages_of (groups image bank) (0x2F ∷ []) else [])) (offered_by image first there ∙ offered)
    ∙ ap (λ (half : Option (List ℕ)). numbers_of bank (option_map_or pages_of (option_map (λ (bytes : List ℕ). byte_in bytes 128 % 4) half) (0x2F ∷ [])))
    (ap (λ (key : Key). map.get image key) (groups_key bank) ∙ groups_there)

-- page 01h is another page
first_apart : (bank : ℕ) → eq_by_cmp key_cmp (key_of 0x01) (key_of (groups_page bank)) ≡ false
first_apart bank =
    false_from_ne_true (eq_by_cmp key_cmp (key_of 0x01) (key_of (groups_page bank)))
    (λ same. (let is : 0x01 ≡ 256 * bank + 0x2F = same_page (groups_page bank) 0x01 same in absurd (omega (arith, is))))

-- ---- one transaction more

module _ (history : History) (reading : VdmReading) (was : Group history reading) where
  abbrev page : ℕ
  page = page_now reading

  more : (op : Op) (reply : Reply) → Group (step_of op reply ∷ history) reading
  more op reply = group_more reading.request.bank reading.stage reading.image reading.pages.items (step_of op reply) history was

  fails : (op : Op) (reply : Reply) → IsPageRefused page (step_of op reply) history → Group (step_of op reply ∷ history) (failed reading)
  fails op reply refused = failed_group (step_of op reply ∷ history) reading (more op reply) (λ first. inl refused)

  fails_later : (op : Op) (reply : Reply) → (IsFirst reading.stage → ⊥) → Group (step_of op reply ∷ history) (failed reading)
  fails_later op reply none = failed_group (step_of op reply ∷ history) reading (more op reply) (λ first. absurd (none first))

  waits : (op : Op) (reply : Reply) → (IsFirst reading.stage → ⊥) → Group (step_of op reply ∷ history) (fruitless reading)
  waits op reply none = fruitless_group (step_of op reply ∷ history) (nat_lt 0 reading.left) reading (more op reply) (λ first. absurd (none first))

  confirms : IsTaken page history → (bytes : ArrayVec ℕ) (shows : Bool) → is_known (selection_read BankAndPage bytes.items) page ≡ shows → Group (step_of (read_selection BankAndPage) (Bytes bytes) ∷ history) (confirmed shows reading)
  confirms taken bytes true is = more (read_selection BankAndPage) (Bytes bytes)
  confirms taken bytes false is =
      let other = read_tells BankAndPage bytes.items page ∙ is in
      fails (read_selection BankAndPage) (Bytes bytes) (inr (inl (refl, other, taken)))

  backs : IsTaken page history → (reply : Reply) → Answers (read_selection BankAndPage) reply → Group (step_of (read_selection BankAndPage) reply ∷ history) (after_read_back reading reply)
  backs taken (Bytes bytes) answers = confirms taken bytes (is_known (selection_read BankAndPage bytes.items) page) refl
  backs taken Done answers = absurd answers
  backs taken Refused answers = fails (read_selection BankAndPage) Refused (inr (inl (refl, refl, taken)))

  selects : (reply : Reply) → Answers (selection BankAndPage page) reply → Group (step_of (selection BankAndPage page) reply ∷ history) (after_selection reading reply)
  selects (Bytes bytes) answers = absurd answers
  selects Done answers = more (selection BankAndPage page) Done
  selects Refused answers = fails (selection BankAndPage page) Refused (inl (refl, refl))

  module _ (shown : IsShown page history) where
    shown_at : (now : VdmStage) → reading.stage ≡ now → IsShown (page_at reading.request.bank now) history
    shown_at now is = subst (λ (now : VdmStage). IsShown (page_at reading.request.bank now) history) is shown

    was_at : (now : VdmStage) → reading.stage ≡ now → GroupAt reading.request.bank now reading.image reading.pages.items history
    was_at now is = subst (λ (now : VdmStage). GroupAt reading.request.bank now reading.image reading.pages.items history) is was

    later_at : (now : VdmStage) → reading.stage ≡ now → (IsFirst now → ⊥) → IsFirst reading.stage → ⊥
    later_at now is none = subst (λ (now : VdmStage). IsFirst now → ⊥) (sym is) none

    module _ (bytes : ArrayVec ℕ) where
      abbrev fetched : Op → History
      fetched op = step_of op (Bytes bytes) ∷ history

      advertises : reading.stage ≡ stage.Advertised → (has : Bool) → has_observables (put_in reading.image 0x01 bytes.items) ≡ has → let new = kept 0x01 bytes.items reading in
          Group (fetched read_half) (if has then enter stage.Groups new else enter stage.Over (record new { statistics = statistics.Unsupported }))
      advertises is has told =
          let none = was_at stage.Advertised is in
          let there = put_there reading.image 0x01 bytes.items (omega (arith, none.0)) in
          by has (sym (offered_by (put_in reading.image 0x01 bytes.items) bytes.items there) ∙ told) there (omega (arith, put_len reading.image 0x01 bytes.items, none.0)) none.1 where
            by : (has : Bool) → offers bytes.items ≡ has → map.get (put_in reading.image 0x01 bytes.items) (key_of 0x01) ≡ Some bytes.items → map.len (put_in reading.image 0x01 bytes.items) ≤ 1 → reading.pages.items ≡ [] → let new = kept 0x01 bytes.items reading in
                Group (fetched read_half) (if has then enter stage.Groups new else enter stage.Over (record new { statistics = statistics.Unsupported }))
            by true offered there few none = record {
              few = few;
              none = none;
              first = record { first = bytes.items; there = there; was_read = inl (refl, refl, shown_at stage.Advertised is); offered = offered };
            }
            by false offered there few none = inl (none, inr (inl (bytes.items, inl (refl, refl, shown_at stage.Advertised is), offered)))

      groups_told : reading.stage ≡ stage.Groups → Group (fetched read_half) (read_at stage.Groups bytes.items reading)
      groups_told is =
          let done = was_at stage.Groups is in
          let page = groups_page reading.request.bank in
          let image = put_in reading.image page bytes.items in
          let there = put_there reading.image page bytes.items (omega (arith, done.few)) in
          let first_there : map.get image (key_of 0x01) ≡ Some done.first.first = put_beside reading.image page bytes.items 0x01 (first_apart reading.request.bank) ∙ done.first.there in
          record {
            first = done.first.first;
            groups = bytes.items;
            first_read = inr done.first.was_read;
            groups_read = inl (refl, refl, shown_at stage.Groups is);
            offered = done.first.offered;
            listed_are = pages_by image reading.request.bank done.first.first bytes.items first_there done.first.offered there;
            there = put_own reading.image page bytes.items (omega (arith, done.few));
          }

      freezes : reading.stage ≡ stage.Freezing → (done : Bool) → Group (fetched read_done) (frozen_by done reading)
      freezes is true =
          next_group (fetched read_done) reading.todo.items (record reading { statistics = statistics.Frozen })
          (grouped_more reading.request.bank reading.image reading.pages.items (step_of read_done (Bytes bytes)) history (was_at stage.Freezing is))
      freezes is false = waits read_done (Bytes bytes) (later_at stage.Freezing is (λ first. first))

      releases : reading.stage ≡ stage.Releasing → (done : Bool) → Group (fetched read_done) (released_by done reading)
      releases is true = inr (grouped_more reading.request.bank reading.image reading.pages.items (step_of read_done (Bytes bytes)) history (was_at stage.Releasing is))
      releases is false = waits read_done (Bytes bytes) (later_at stage.Releasing is (λ first. first))

      paged : (number : ℕ) → reading.stage ≡ stage.Page number → Group (fetched read_half) (read_at (stage.Page number) bytes.items reading)
      paged number is =
          let now = grouped_more reading.request.bank reading.image reading.pages.items (step_of read_half (Bytes bytes)) history (was_at (stage.Page number) is) in
          next_group (fetched read_half) reading.todo.items (kept number bytes.items reading) (record {
            first = now.first;
            groups = now.groups;
            first_read = now.first_read;
            groups_read = now.groups_read;
            offered = now.offered;
            listed_are = now.listed_are;
            there = put_keeps reading.image number bytes.items (groups_page reading.request.bank) now.there;
          })

      reads : (now : VdmStage) (work : Op) → reading.stage ≡ now → work_at reading now ≡ Do work → Answers work (Bytes bytes) → Group (fetched work) (read_at now bytes.items reading)
      reads stage.Advertised work is does answers =
          let own : read_half ≡ work = cc in
          subst (λ op. Group (fetched op) (read_at stage.Advertised bytes.items reading)) own (advertises is (has_observables (kept 0x01 bytes.items reading).image) refl)
      reads stage.Groups work is does answers =
          let own : read_half ≡ work = cc in
          subst (λ op. Group (fetched op) (read_at stage.Groups bytes.items reading)) own (groups_told is)
      reads stage.Freeze work is does answers =
          let own : store_control (freezing reading.control) ≡ work = cc in
          absurd (subst (λ op. Answers op (Bytes bytes)) (sym own) answers)
      reads stage.Freezing work is does answers =
          let own : read_done ≡ work = cc in
          subst (λ op. Group (fetched op) (read_at stage.Freezing bytes.items reading)) own (freezes is (is_freeze_done bytes.items))
      reads (stage.Page number) work is does answers =
          let own : read_half ≡ work = cc in
          subst (λ op. Group (fetched op) (read_at (stage.Page number) bytes.items reading)) own (paged number is)
      reads stage.Release work is does answers =
          let own : store_control (releasing reading.control) ≡ work = cc in
          absurd (subst (λ op. Answers op (Bytes bytes)) (sym own) answers)
      reads stage.Releasing work is does answers =
          let own : read_done ≡ work = cc in
          subst (λ op. Group (fetched op) (read_at stage.Releasing bytes.items reading)) own (releases is (is_unfreeze_done bytes.items))
      reads stage.Over work is does answers = absurd cc

    accepts : (now : VdmStage) (work : Op) → reading.stage ≡ now → work_at reading now ≡ Do work → Answers work Done → Group (step_of work Done ∷ history) (accepted_at now reading)
    accepts stage.Advertised work is does answers = let own : read_half ≡ work = cc in absurd (subst (λ op. Answers op Done) (sym own) answers)
    accepts stage.Groups work is does answers = let own : read_half ≡ work = cc in absurd (subst (λ op. Answers op Done) (sym own) answers)
    accepts stage.Freeze work is does answers = grouped_more reading.request.bank reading.image reading.pages.items (step_of work Done) history (was_at stage.Freeze is)
    accepts stage.Freezing work is does answers = let own : read_done ≡ work = cc in absurd (subst (λ op. Answers op Done) (sym own) answers)
    accepts (stage.Page number) work is does answers = let own : read_half ≡ work = cc in absurd (subst (λ op. Answers op Done) (sym own) answers)
    accepts stage.Release work is does answers = grouped_more reading.request.bank reading.image reading.pages.items (step_of work Done) history (was_at stage.Release is)
    accepts stage.Releasing work is does answers = let own : read_done ≡ work = cc in absurd (subst (λ op. Answers op Done) (sym own) answers)
    accepts stage.Over work is does answers = absurd cc

    -- a page that was refused where it is shown
    half_refused : (work : Op) → read_half ≡ work → Group (step_of work Refused ∷ history) (failed reading)
    half_refused work own = fails work Refused (inr (inr (sym own, refl, shown)))

    refuses : (now : VdmStage) (work : Op) → reading.stage ≡ now → work_at reading now ≡ Do work → Group (step_of work Refused ∷ history) (refused_at now reading)
    refuses stage.Advertised work is does = let own : read_half ≡ work = cc in half_refused work own
    refuses stage.Groups work is does = let own : read_half ≡ work = cc in half_refused work own
    refuses stage.Freeze work is does = failed_group (step_of work Refused ∷ history) (asked reading) (more work Refused) (λ first. absurd (later_at stage.Freeze is (λ none. none) first))
    refuses stage.Freezing work is does = fails_later work Refused (later_at stage.Freezing is (λ none. none))
    refuses (stage.Page number) work is does = let own : read_half ≡ work = cc in half_refused work own
    refuses stage.Release work is does = fails_later work Refused (later_at stage.Release is (λ none. none))
    refuses stage.Releasing work is does = fails_later work Refused (later_at stage.Releasing is (λ none. none))
    refuses stage.Over work is does = absurd cc

    works : (reply : Reply) (work : Op) → work_at reading reading.stage ≡ Do work → Answers work reply → Group (step_of work reply ∷ history) (after_work reading reply)
    works (Bytes bytes) work does answers = reads bytes reading.stage work refl does answers
    works Done work does answers = accepts reading.stage work refl does answers
    works Refused work does answers = refuses reading.stage work refl does

record Known (history : History) (reading : VdmReading) : Type 0 where
  pub shown : Shown history reading
  pub group : Group history reading

keeps : (history : History) (reading : VdmReading) (op : Op) (reply : Reply) → wants reading ≡ Do op → Answers op reply → Known history reading → Known (step_of op reply ∷ history) (after reading reply)
keeps history reading op reply asks answers known =
    let group = by_turn reading reply (λ op new. Answers op reply → Group (step_of op reply ∷ history) new)
    (λ work does awaits answers. backs history reading known.group (is_taken history reading known.shown awaits) reply answers)
    (λ work does closed elsewhere answers. selects history reading known.group reply answers)
    (λ work does on answers. works history reading known.group (is_shown history reading known.shown on) reply work does answers)
    op asks answers in
    record { shown = keeps_shown history reading op reply asks known.shown; group = group }

begins : (request : VdmRequest) → Known [] (begun request)
begins request = record { shown = tt; group = (subst (λ (n : ℕ). n ≤ 0) (sym (map.len-empty key_cmp (List ℕ))) (omega arith), refl) }

-- ---- at the end

pub are_listed : (events : Events) (reading : VdmReading) → IsTold events reading → reading.stage ≡ stage.Over → IsListed reading.request.bank reading.image reading.pages.items (steps_of events)
are_listed events reading told over =
    let known = holds_told Known begins keeps (λ history reading known. record { shown = known.shown; group = known.group }) events reading told in
    subst (λ (now : VdmStage). GroupAt reading.request.bank now reading.image reading.pages.items (steps_of events)) over known.group

-- ---- which pages these are

abbrev is_high : ℕ → Bool
is_high page = nat_lt 0x1F page && nat_lt page 0x30

abbrev all_high : List ℕ → Bool
all_high [] = true
all_high (page ∷ pages) = is_high page && all_high pages

-- a page of the bank, 20h to 2Fh
abbrev pub IsHigh : ℕ → ℕ → Type 0
IsHigh bank page = (page / 256 ≡ bank) × (0x20 ≤ page % 256) × (page % 256 < 0x30)

high_page : (bank page number : ℕ) → is_high number ≡ true → page ≡ numbered bank number → IsHigh bank page
high_page bank page number high is =
    let parts = and_parts (nat_lt 0x1F number) (nat_lt number 0x30) high in
    let above = ltb-true 0x1F number parts.0 in
    let below = ltb-true number 0x30 parts.1 in
    (omega (arith, is, below), omega (arith, is, above, below), omega (arith, is, below))

among_high : (bank page : ℕ) (pages : List ℕ) → all_high pages ≡ true → IsAmong page (numbers_of bank pages) → IsHigh bank page
among_high bank _ [] all among = absurd among
among_high bank page (other ∷ pages) all (inl is) = high_page bank page other (and_parts (is_high other) (all_high pages) all).0 is
among_high bank page (other ∷ pages) all (inr later) = among_high bank page pages (and_parts (is_high other) (all_high pages) all).1 later

pages_high : (count : ℕ) → all_high (pages_of count) ≡ true
pages_high count = by (count == 0) (count == 1) (count == 2) where
  by : (a b c : Bool) → all_high (if a then 0x20 ∷ 0x28 ∷ 0x24 ∷ 0x2C ∷ [] else if b then 0x20 ∷ 0x21 ∷ 0x28 ∷ 0x29 ∷ 0x24 ∷ 0x25 ∷ 0x2C ∷ []
      else if c then 0x20 ∷ 0x21 ∷ 0x22 ∷ 0x28 ∷ 0x29 ∷ 0x2A ∷ 0x24 ∷ 0x25 ∷ 0x26 ∷ 0x2C ∷ []
      else 0x20 ∷ 0x21 ∷ 0x22 ∷ 0x23 ∷ 0x28 ∷ 0x29 ∷ 0x2A ∷ 0x2B ∷ 0x24 ∷ 0x25 ∷ 0x26 ∷ 0x27 ∷ 0x2C ∷ []) ≡ true
  by true b c = refl
  by false true c = refl
  by false false true = refl
  by false false false = refl

listed_all : (bank : ℕ) (image : Memory) (listed : List ℕ) (history : History) → IsListed bank image listed history → (page : ℕ) → IsAmong page listed → IsHigh bank page
listed_all bank image listed history (inl none) page among = absurd (subst (λ (pages : List ℕ). IsAmong page pages) none.0 among)
listed_all bank image listed history (inr grouped) page among =
    let count = byte_in grouped.groups 128 % 4 in
    among_high bank page (pages_of count) (pages_high count) (subst (λ (pages : List ℕ). IsAmong page pages) grouped.listed_are among)

-- pages 20h to 2Fh of the bank
pub listed_high : (events : Events) (reading : VdmReading) → IsTold events reading → reading.stage ≡ stage.Over → (page : ℕ) → IsAmong page reading.pages.items → IsHigh reading.request.bank page
listed_high events reading told over page among = listed_all reading.request.bank reading.image reading.pages.items (steps_of events) (are_listed events reading told over) page among

-- so many at most
pub listed_few : (events : Events) (reading : VdmReading) → IsTold events reading → reading.stage ≡ stage.Over → length reading.pages.items ≤ 13
listed_few events reading told over = by (are_listed events reading told over) where
  by : IsListed reading.request.bank reading.image reading.pages.items (steps_of events) → length reading.pages.items ≤ 13
  by (inl none) = subst (λ (pages : List ℕ). length pages ≤ 13) (sym none.0) (omega arith)
  by (inr grouped) = subst (λ (pages : List ℕ). length pages ≤ 13) (sym grouped.listed_are) (numbers_few reading.request.bank (byte_in grouped.groups 128 % 4))
