-- What was read belongs together where it is called frozen.
use Rattle.std.proofs.Common.{◌≡◌, ◌≢◌, ◌⊎◌, ℕ, ◌/◌, ◌%◌, ◌==◌, ◌&&◌, Bool, true, false, List, [], ◌∷◌, Some, None, refl, sym, ap, subst, ◌∙◌, inl, inr, if◌then◌else◌, cond, nat_lt, arith}
use Rattle.std.specs.FinMap as map
use Rattle.std.specs.declared.cmp.Ordering.{Ordering}
use Rattle.std.specs.declared.cmp.Ordering.TheVariants.{Less, Equal, Greater}
use Rattle.std.specs.Ordering.{eq_by_cmp, is_eq}
use Rattle.arrayvec.specs.ArrayVec.{ArrayVec}
use Rattle.bus_model.specs.declared.operation.Op.{Op}
use Rattle.bus_model.specs.declared.operation.Reply.{Reply}
use Rattle.bus_model.specs.declared.operation.Reply.TheVariants.{Bytes, Done, Refused}
use Rattle.bus_model.specs.declared.operation.Step.{Step}
use Rattle.bus_model.specs.Operations.{Answers}
use Rattle.conversations.specs.declared.next.Next.TheVariants.{Do}
use Rattle.conversations.specs.Events.{Events, steps_of}
use Rattle.field_tables.specs.Halves.{is_absent}
use Rattle.observables.specs.Pages.{has_observables}
use Rattle.paged_memory.specs.declared.key.Key.{Key}
use Rattle.paged_memory.specs.declared.page_addressing.PageAddressing.TheVariants.{BankAndPage}
use Rattle.paged_memory.specs.declared.page_addressing.KnownPage.TheVariants as selected_page
use Rattle.paged_memory.specs.Images.{Memory, most_pages}
use Rattle.paged_memory.specs.KeyOrder.{key_cmp}
use Rattle.paged_memory.specs.KnownPages.{is_known, selection_read}
use Rattle.paged_memory.specs.PageAddressing.{History, read_selection, selection}
use Rattle.paged_memory.proofs.KeyLaws.{keys_apart, keys_total}
use Rattle.paged_memory.proofs.KnownPageLaws.{step_of}
use Rattle.vdm_reading.specs.declared.end.Statistics.TheVariants as statistics
use Rattle.vdm_reading.specs.declared.reading.VdmReading.{VdmReading}
use Rattle.vdm_reading.specs.declared.reading.VdmRequest.{VdmRequest}
use Rattle.vdm_reading.specs.declared.reading.VdmStage.{VdmStage}
use Rattle.vdm_reading.specs.declared.reading.VdmStage.TheVariants as stage
use Rattle.vdm_reading.specs.BankPages.{groups_page}
use Rattle.vdm_reading.specs.FrozenSteps.{AreFrozen, AreSet, IsPageRead, IsShown, WasRead, WasRequested, WereSet, freezing, is_control_store, is_freeze_done, is_unfreeze_done, read_done, read_half, releasing, store_control}
use Rattle.vdm_reading.specs.VdmAccounts.{IsTold, is_frozen}
use Rattle.vdm_reading.specs.VdmStages.{accepted_at, after, after_read_back, after_selection, after_work, asked, begun, confirmed, enter, failed, frozen_by, fruitless, fruitless_by, kept, key_of, lost_at, may_be_frozen, next_by, over, page_at, page_now, put_in, read_at, refused_at, released_by, wants, work_at}
use Rattle.vdm_reading.proofs.ReleaseLaws.{asks_by}
use Rattle.vdm_reading.proofs.ShownLaws.{Shown, is_shown, keeps_shown}
use Rattle.vdm_reading.proofs.Told.{failed_same, fruitless_same, next_same}
use Rattle.vdm_reading.proofs.WantedTurns.{by_turn, holds_told}

-- ---- what an image has

is_equal : (ordering : Ordering) → is_eq ordering ≡ true → ordering ≡ Equal
is_equal Less e = cc
is_equal Equal e = refl
is_equal Greater e = cc

pub same_key : (key other : Key) → eq_by_cmp key_cmp key other ≡ true → key ≡ other
same_key key other e = keys_apart key other (is_equal (key_cmp key other) e)

pub same_page : (page other : ℕ) → eq_by_cmp key_cmp (key_of other) (key_of page) ≡ true → other ≡ page
same_page page other e =
    let same = same_key (key_of other) (key_of page) e in
    let bank : other / 256 ≡ page / 256 = ap (λ (key : Key). key.bank) same in
    let number : other % 256 ≡ page % 256 = ap (λ (key : Key). key.page) same in
    omega (arith, bank, number)

module _ (image : Memory) (page : ℕ) (bytes : List ℕ) (other : ℕ) (found : List ℕ) where
  abbrev Found : Memory → Type 0
  Found memory = map.get memory (key_of other) ≡ Some found

  inserted : (same : Bool) → eq_by_cmp key_cmp (key_of other) (key_of page) ≡ same → cond same (Some bytes) (map.get image (key_of other)) ≡ Some found
      → ((other ≡ page) × (bytes ≡ found)) ⊎ Found image
  inserted true e there = inl (same_page page other e, (let is : bytes ≡ found = cc in is))
  inserted false e there = inr there

  -- what is found there was put there, or was there
  pub put_found : Found (put_in image page bytes) → ((other ≡ page) × (bytes ≡ found)) ⊎ Found image
  put_found there = by (map.len image == most_pages && is_absent image (key_of page)) there where
    by : (full : Bool) → Found (if full then image else map.insert image (key_of page) bytes) → ((other ≡ page) × (bytes ≡ found)) ⊎ Found image
    by true there = inr there
    by false there = inserted (eq_by_cmp key_cmp (key_of other) (key_of page)) refl (sym (map.get-insert keys_total image (key_of page) bytes (key_of other)) ∙ there)

-- ---- what is known at a stage

-- each page was read as it is in the image
abbrev AreRead : Memory → History → Type 0
AreRead image history = (page : ℕ) (bytes : List ℕ) → map.get image (key_of page) ≡ Some bytes → WasRead page bytes history

-- no page was read but those that advertise
abbrev NoneYet : ℕ → Memory → Type 0
NoneYet bank image = (page : ℕ) (bytes : List ℕ) → page ≢ 0x01 → page ≢ groups_page bank → map.get image (key_of page) ≡ Some bytes → ⊥

abbrev frozen : VdmReading → Bool
frozen reading = is_frozen reading.statistics

abbrev SetAt : ℕ → VdmStage → Bool → Memory → History → Type 0
SetAt bank stage.Advertised frozen image history = NoneYet bank image
SetAt bank stage.Groups frozen image history = NoneYet bank image
SetAt bank stage.Freeze frozen image history = NoneYet bank image
SetAt bank stage.Freezing frozen image history = NoneYet bank image × WasRequested bank history
SetAt bank (stage.Page page) frozen image history = (frozen ≡ true → AreFrozen bank history) × AreSet bank frozen image history
SetAt bank stage.Release frozen image history = WereSet bank frozen image history
SetAt bank stage.Releasing frozen image history = WereSet bank frozen image history
SetAt bank stage.Over frozen image history = WereSet bank frozen image history

abbrev Sets : History → VdmReading → Type 0
Sets history reading = SetAt reading.request.bank reading.stage (frozen reading) reading.image history

set_were : (bank : ℕ) (frozen : Bool) (image : Memory) (history : History) → AreSet bank frozen image history → WereSet bank frozen image history
set_were bank frozen image [] set = set
set_were bank frozen image (step ∷ before) set = inl set

none_set : (bank : ℕ) (frozen : Bool) (image : Memory) (history : History) → NoneYet bank image → AreSet bank frozen image history
none_set bank frozen image history none page bytes first second there = absurd (none page bytes first second there)

set_more : (bank : ℕ) (frozen : Bool) (image : Memory) (step : Step) (history : History) → is_control_store step.op ≡ false → AreSet bank frozen image history → AreSet bank frozen image (step ∷ history)
set_more bank frozen image step history quiet set page bytes first second there = inr (quiet, set page bytes first second there)

not_frozen : {A : Type 0} → false ≡ true → A
not_frozen e = absurd cc

sets_more : (bank : ℕ) (now : VdmStage) (frozen : Bool) (image : Memory) (step : Step) (history : History) → is_control_store step.op ≡ false → SetAt bank now frozen image history → SetAt bank now frozen image (step ∷ history)
sets_more bank stage.Advertised frozen image step history quiet sets = sets
sets_more bank stage.Groups frozen image step history quiet sets = sets
sets_more bank stage.Freeze frozen image step history quiet sets = sets
sets_more bank stage.Freezing frozen image step history quiet sets = (sets.0, inr (quiet, sets.1))
sets_more bank (stage.Page page) frozen image step history quiet sets = ((λ is. inr (quiet, sets.0 is)), set_more bank frozen image step history quiet sets.1)
sets_more bank stage.Release frozen image step history quiet sets = inr sets
sets_more bank stage.Releasing frozen image step history quiet sets = inr sets
sets_more bank stage.Over frozen image step history quiet sets = inr sets

-- ---- what comes next

module _ (history : History) where
  finish_sets : (may : Bool) (reading : VdmReading) → AreSet reading.request.bank (frozen reading) reading.image history → Sets history (if may then enter stage.Release reading else over reading)
  finish_sets true reading set = set_were reading.request.bank (frozen reading) reading.image history set
  finish_sets false reading set = set_were reading.request.bank (frozen reading) reading.image history set

  next_sets : (todo : List ℕ) (reading : VdmReading) → (frozen reading ≡ true → AreFrozen reading.request.bank history) → AreSet reading.request.bank (frozen reading) reading.image history → Sets history (next_by todo reading)
  next_sets [] reading are set = finish_sets (may_be_frozen reading.release) reading set
  next_sets (page ∷ rest) reading are set = (are, set)

  lost_sets : (now : VdmStage) (reading : VdmReading) → SetAt reading.request.bank now (frozen reading) reading.image history → Sets history (lost_at now reading)
  lost_sets stage.Advertised reading sets = set_were reading.request.bank (frozen reading) reading.image history (none_set reading.request.bank (frozen reading) reading.image history sets)
  lost_sets stage.Groups reading sets = set_were reading.request.bank (frozen reading) reading.image history (none_set reading.request.bank (frozen reading) reading.image history sets)
  lost_sets stage.Freeze reading sets = next_sets reading.todo.items (record reading { statistics = statistics.Refused }) (λ e. not_frozen e) (none_set reading.request.bank false reading.image history sets)
  lost_sets stage.Freezing reading sets = next_sets reading.todo.items (record reading { statistics = statistics.Pending }) (λ e. not_frozen e) (none_set reading.request.bank false reading.image history sets.0)
  lost_sets (stage.Page page) reading sets = next_sets reading.todo.items reading sets.0 sets.1
  lost_sets stage.Release reading sets = sets
  lost_sets stage.Releasing reading sets = sets
  lost_sets stage.Over reading sets = sets

  fruitless_sets : (more : Bool) (reading : VdmReading) → Sets history reading → Sets history (fruitless_by more reading)
  fruitless_sets true reading sets = sets
  fruitless_sets false reading sets = lost_sets reading.stage (record reading { due = true }) sets

  failed_sets : (reading : VdmReading) → Sets history reading → Sets history (failed reading)
  failed_sets reading sets = fruitless_sets (nat_lt 0 reading.left) (record reading { selection = selected_page.Unknown }) sets

-- ---- one step more

-- an image that gets a page that was read now
module _ (history : History) (image : Memory) (page : ℕ) (bytes : ArrayVec ℕ) (shown : IsShown page history) where
  abbrev step : Step
  step = step_of read_half (Bytes bytes)

  abbrev next : Memory
  next = put_in image page bytes.items

  read_now : (other : ℕ) (found : List ℕ) → other ≡ page → bytes.items ≡ found → IsPageRead other found step history
  read_now other found at is = (refl, (λ i. Bytes (record { items = is i })), subst (λ (n : ℕ). IsShown n history) (sym at) shown)

  reads_next : AreRead image history → AreRead next (step ∷ history)
  reads_next read other found there = elim (put_found image page bytes.items other found there) [
    | inl now ↦ inl (read_now other found now.0 now.1)
    | inr before ↦ inr (read other found before)
  ]

  none_next : (bank : ℕ) → (page ≡ 0x01) ⊎ (page ≡ groups_page bank) → NoneYet bank image → NoneYet bank next
  none_next bank advertises none other found first second there = elim (put_found image page bytes.items other found there) [
    | inl now ↦ elim advertises [ inl is ↦ first (now.0 ∙ is) | inr is ↦ second (now.0 ∙ is) ]
    | inr before ↦ none other found first second before
  ]

  set_next : (bank : ℕ) (frozen : Bool) → (frozen ≡ true → AreFrozen bank history) → AreSet bank frozen image history → AreSet bank frozen next (step ∷ history)
  set_next bank frozen are set other found first second there = elim (put_found image page bytes.items other found there) [
    | inl now ↦ inl (read_now other found now.0 now.1, are)
    | inr before ↦ inr (refl, set other found first second before)
  ]

record Known (history : History) (reading : VdmReading) : Type 0 where
  pub shown : Shown history reading
  pub read : AreRead reading.image history
  pub sets : Sets history reading

-- the image and what is known of it
abbrev Knows : History → VdmReading → Type 0
Knows history reading = AreRead reading.image history × Sets history reading

module _ (history : History) (reading : VdmReading) (read : AreRead reading.image history) (sets : Sets history reading) where
  abbrev page : ℕ
  page = page_now reading

  -- the image stays as it is
  same_read : (step : Step) (new : VdmReading) → new.image ≡ reading.image → AreRead new.image (step ∷ history)
  same_read step new same = subst (λ (image : Memory). AreRead image (step ∷ history)) (sym same) (λ page bytes there. inr (read page bytes there))

  more : (op : Op) (reply : Reply) → is_control_store op ≡ false → Sets (step_of op reply ∷ history) reading
  more op reply quiet = sets_more reading.request.bank reading.stage (frozen reading) reading.image (step_of op reply) history quiet sets

  fails : (op : Op) (reply : Reply) → is_control_store op ≡ false → Knows (step_of op reply ∷ history) (failed reading)
  fails op reply quiet = (same_read (step_of op reply) (failed reading) (failed_same reading).image, failed_sets (step_of op reply ∷ history) reading (more op reply quiet))

  waits : (op : Op) (reply : Reply) → is_control_store op ≡ false → Knows (step_of op reply ∷ history) (fruitless reading)
  waits op reply quiet =
      (same_read (step_of op reply) (fruitless reading) (fruitless_same (nat_lt 0 reading.left) reading).image, fruitless_sets (step_of op reply ∷ history) (nat_lt 0 reading.left) reading (more op reply quiet))

  confirms : (bytes : ArrayVec ℕ) (shows : Bool) → Knows (step_of (read_selection BankAndPage) (Bytes bytes) ∷ history) (confirmed shows reading)
  confirms bytes true = (same_read (step_of (read_selection BankAndPage) (Bytes bytes)) (confirmed true reading) refl, more (read_selection BankAndPage) (Bytes bytes) refl)
  confirms bytes false = fails (read_selection BankAndPage) (Bytes bytes) refl

  backs : (reply : Reply) → Knows (step_of (read_selection BankAndPage) reply ∷ history) (after_read_back reading reply)
  backs (Bytes bytes) = confirms bytes (is_known (selection_read BankAndPage bytes.items) page)
  backs Done = fails (read_selection BankAndPage) Done refl
  backs Refused = fails (read_selection BankAndPage) Refused refl

  selects : (reply : Reply) → Knows (step_of (selection BankAndPage page) reply ∷ history) (after_selection reading reply)
  selects (Bytes bytes) = fails (selection BankAndPage page) (Bytes bytes) refl
  selects Done = (same_read (step_of (selection BankAndPage page) Done) (after_selection reading Done) refl, more (selection BankAndPage page) Done refl)
  selects Refused = fails (selection BankAndPage page) Refused refl

  module _ (shown : IsShown page history) where
    shown_at : (now : VdmStage) → reading.stage ≡ now → IsShown (page_at reading.request.bank now) history
    shown_at now is = subst (λ (now : VdmStage). IsShown (page_at reading.request.bank now) history) is shown

    sets_at : (now : VdmStage) → reading.stage ≡ now → SetAt reading.request.bank now (frozen reading) reading.image history
    sets_at now is = subst (λ (now : VdmStage). SetAt reading.request.bank now (frozen reading) reading.image history) is sets

    module _ (bytes : ArrayVec ℕ) where
      advertises : reading.stage ≡ stage.Advertised → (has : Bool) → let new = kept 0x01 bytes.items reading in
          Knows (step_of read_half (Bytes bytes) ∷ history) (if has then enter stage.Groups new else enter stage.Over (record new { statistics = statistics.Unsupported }))
      advertises is true =
          (reads_next history reading.image 0x01 bytes (shown_at stage.Advertised is) read, none_next history reading.image 0x01 bytes (shown_at stage.Advertised is) reading.request.bank (inl refl) (sets_at stage.Advertised is))
      advertises is false = (
        reads_next history reading.image 0x01 bytes (shown_at stage.Advertised is) read,
        (let none = none_next history reading.image 0x01 bytes (shown_at stage.Advertised is) reading.request.bank (inl refl) (sets_at stage.Advertised is) in inl (none_set reading.request.bank false (put_in reading.image 0x01 bytes.items) (step_of read_half (Bytes bytes) ∷ history) none)),
      )

      freezes : reading.stage ≡ stage.Freezing → (done : Bool) → is_freeze_done bytes.items ≡ done → Knows (step_of read_done (Bytes bytes) ∷ history) (frozen_by done reading)
      freezes is true shows =
          let step = step_of read_done (Bytes bytes) in
          let new = record reading { statistics = statistics.Frozen } in (
            same_read step (next_by reading.todo.items new) (next_same reading.todo.items new).image,
            next_sets (step ∷ history) reading.todo.items new (λ e. inl (bytes.items, refl, refl, shows, shown_at stage.Freezing is, (sets_at stage.Freezing is).1))
                (none_set reading.request.bank true reading.image (step ∷ history) (sets_at stage.Freezing is).0),
          )
      freezes is false shows = waits read_done (Bytes bytes) refl

      releases : reading.stage ≡ stage.Releasing → (done : Bool) → Knows (step_of read_done (Bytes bytes) ∷ history) (released_by done reading)
      releases is true = (same_read (step_of read_done (Bytes bytes)) (released_by true reading) refl, inr (sets_at stage.Releasing is))
      releases is false = waits read_done (Bytes bytes) refl

      reads : (now : VdmStage) (work : Op) → reading.stage ≡ now → work_at reading now ≡ Do work → Answers work (Bytes bytes) → Knows (step_of work (Bytes bytes) ∷ history) (read_at now bytes.items reading)
      reads stage.Advertised work is does answers =
          let own : read_half ≡ work = cc in
          subst (λ op. Knows (step_of op (Bytes bytes) ∷ history) (read_at stage.Advertised bytes.items reading)) own (advertises is (has_observables (kept 0x01 bytes.items reading).image))
      reads stage.Groups work is does answers =
          let own : read_half ≡ work = cc in
          let shown = shown_at stage.Groups is in
          subst (λ op. Knows (step_of op (Bytes bytes) ∷ history) (read_at stage.Groups bytes.items reading)) own
          (reads_next history reading.image (groups_page reading.request.bank) bytes shown read, none_next history reading.image (groups_page reading.request.bank) bytes shown reading.request.bank (inr refl) (sets_at stage.Groups is))
      reads stage.Freeze work is does answers =
          let own : store_control (freezing reading.control) ≡ work = cc in
          absurd (subst (λ op. Answers op (Bytes bytes)) (sym own) answers)
      reads stage.Freezing work is does answers =
          let own : read_done ≡ work = cc in
          subst (λ op. Knows (step_of op (Bytes bytes) ∷ history) (read_at stage.Freezing bytes.items reading)) own (freezes is (is_freeze_done bytes.items) refl)
      reads (stage.Page number) work is does answers =
          let own : read_half ≡ work = cc in
          let new = kept number bytes.items reading in
          let shown = shown_at (stage.Page number) is in
          let now = sets_at (stage.Page number) is in
          let step = step_of read_half (Bytes bytes) in
          subst (λ op. Knows (step_of op (Bytes bytes) ∷ history) (read_at (stage.Page number) bytes.items reading)) own (
            subst (λ (image : Memory). AreRead image (step ∷ history)) (sym (next_same reading.todo.items new).image) (reads_next history reading.image number bytes shown read),
            next_sets (step ∷ history) reading.todo.items new (λ e. inr (refl, now.0 e)) (set_next history reading.image number bytes shown reading.request.bank (frozen reading) now.0 now.1),
          )
      reads stage.Release work is does answers =
          let own : store_control (releasing reading.control) ≡ work = cc in
          absurd (subst (λ op. Answers op (Bytes bytes)) (sym own) answers)
      reads stage.Releasing work is does answers =
          let own : read_done ≡ work = cc in
          subst (λ op. Knows (step_of op (Bytes bytes) ∷ history) (read_at stage.Releasing bytes.items reading)) own (releases is (is_unfreeze_done bytes.items))
      reads stage.Over work is does answers = absurd cc

    accepts : (now : VdmStage) (work : Op) → reading.stage ≡ now → work_at reading now ≡ Do work → Answers work Done → Knows (step_of work Done ∷ history) (accepted_at now reading)
    accepts stage.Advertised work is does answers = let own : read_half ≡ work = cc in absurd (subst (λ op. Answers op Done) (sym own) answers)
    accepts stage.Groups work is does answers = let own : read_half ≡ work = cc in absurd (subst (λ op. Answers op Done) (sym own) answers)
    accepts stage.Freeze work is does answers =
        let own : store_control (freezing reading.control) ≡ work = cc in
        subst (λ op. Knows (step_of op Done ∷ history) (accepted_at stage.Freeze reading)) own (
          same_read (step_of (store_control (freezing reading.control)) Done) (accepted_at stage.Freeze reading) refl,
          (sets_at stage.Freeze is, inl (asks_by reading.control, refl, shown_at stage.Freeze is)),
        )
    accepts stage.Freezing work is does answers = let own : read_done ≡ work = cc in absurd (subst (λ op. Answers op Done) (sym own) answers)
    accepts (stage.Page number) work is does answers = let own : read_half ≡ work = cc in absurd (subst (λ op. Answers op Done) (sym own) answers)
    accepts stage.Release work is does answers =
        let own : store_control (releasing reading.control) ≡ work = cc in
        subst (λ op. Knows (step_of op Done ∷ history) (accepted_at stage.Release reading)) own
        (same_read (step_of (store_control (releasing reading.control)) Done) (accepted_at stage.Release reading) refl, inr (sets_at stage.Release is))
    accepts stage.Releasing work is does answers = let own : read_done ≡ work = cc in absurd (subst (λ op. Answers op Done) (sym own) answers)
    accepts stage.Over work is does answers = absurd cc

    -- a store that was refused
    stored : (op : Op) (old : VdmReading) → old.image ≡ reading.image → Sets (step_of op Refused ∷ history) old → Knows (step_of op Refused ∷ history) (failed old)
    stored op old same sets = (same_read (step_of op Refused) (failed old) ((failed_same old).image ∙ same), failed_sets (step_of op Refused ∷ history) old sets)

    refuses : (now : VdmStage) (work : Op) → reading.stage ≡ now → work_at reading now ≡ Do work → Knows (step_of work Refused ∷ history) (refused_at now reading)
    refuses stage.Advertised work is does = let own : read_half ≡ work = cc in subst (λ op. Knows (step_of op Refused ∷ history) (failed reading)) own (fails read_half Refused refl)
    refuses stage.Groups work is does = let own : read_half ≡ work = cc in subst (λ op. Knows (step_of op Refused ∷ history) (failed reading)) own (fails read_half Refused refl)
    refuses stage.Freeze work is does =
        stored work (asked reading) refl (subst (λ (now : VdmStage). SetAt reading.request.bank now (frozen reading) reading.image (step_of work Refused ∷ history)) (sym is) (sets_at stage.Freeze is))
    refuses stage.Freezing work is does = let own : read_done ≡ work = cc in subst (λ op. Knows (step_of op Refused ∷ history) (failed reading)) own (fails read_done Refused refl)
    refuses (stage.Page number) work is does = let own : read_half ≡ work = cc in subst (λ op. Knows (step_of op Refused ∷ history) (failed reading)) own (fails read_half Refused refl)
    refuses stage.Release work is does =
        stored work reading refl (subst (λ (now : VdmStage). SetAt reading.request.bank now (frozen reading) reading.image (step_of work Refused ∷ history)) (sym is) (inr (sets_at stage.Release is)))
    refuses stage.Releasing work is does = let own : read_done ≡ work = cc in subst (λ op. Knows (step_of op Refused ∷ history) (failed reading)) own (fails read_done Refused refl)
    refuses stage.Over work is does = absurd cc

    works : (reply : Reply) (work : Op) → work_at reading reading.stage ≡ Do work → Answers work reply → Knows (step_of work reply ∷ history) (after_work reading reply)
    works (Bytes bytes) work does answers = reads bytes reading.stage work refl does answers
    works Done work does answers = accepts reading.stage work refl does answers
    works Refused work does answers = refuses reading.stage work refl does

keeps : (history : History) (reading : VdmReading) (op : Op) (reply : Reply) → wants reading ≡ Do op → Answers op reply → Known history reading → Known (step_of op reply ∷ history) (after reading reply)
keeps history reading op reply asks answers known =
    let knows = by_turn reading reply (λ op new. Answers op reply → Knows (step_of op reply ∷ history) new)
    (λ work does awaits answers. backs history reading known.read known.sets reply)
    (λ work does closed elsewhere answers. selects history reading known.read known.sets reply)
    (λ work does on answers. works history reading known.read known.sets (is_shown history reading known.shown on) reply work does answers)
    op asks answers in
    record { shown = keeps_shown history reading op reply asks known.shown; read = knows.0; sets = knows.1 }

nothing : (page : ℕ) (bytes : List ℕ) → map.get {R = key_cmp} map.empty (key_of page) ≡ Some bytes → ⊥
nothing page bytes there = (let none : None ≡ Some bytes = sym (map.get-empty key_cmp (key_of page)) ∙ there in cc)

begins : (request : VdmRequest) → Known [] (begun request)
begins request = record { shown = tt; read = λ page bytes there. absurd (nothing page bytes there); sets = λ page bytes first second there. nothing page bytes there }

known_now : (events : Events) (reading : VdmReading) → IsTold events reading → Known (steps_of events) reading
known_now events reading told =
    holds_told Known begins keeps (λ history reading known. record { shown = known.shown; read = known.read; sets = known.sets }) events reading told

pub were_read : (events : Events) (reading : VdmReading) → IsTold events reading → (page : ℕ) (bytes : List ℕ) → map.get reading.image (key_of page) ≡ Some bytes → WasRead page bytes (steps_of events)
were_read events reading told = (known_now events reading told).read

were : (bank : ℕ) (now : VdmStage) (frozen : Bool) (image : Memory) (history : History) → SetAt bank now frozen image history → WereSet bank frozen image history
were bank stage.Advertised frozen image history sets = set_were bank frozen image history (none_set bank frozen image history sets)
were bank stage.Groups frozen image history sets = set_were bank frozen image history (none_set bank frozen image history sets)
were bank stage.Freeze frozen image history sets = set_were bank frozen image history (none_set bank frozen image history sets)
were bank stage.Freezing frozen image history sets = set_were bank frozen image history (none_set bank frozen image history sets.0)
were bank (stage.Page number) frozen image history sets = set_were bank frozen image history sets.1
were bank stage.Release frozen image history sets = sets
were bank stage.Releasing frozen image history sets = sets
were bank stage.Over frozen image history sets = sets

pub were_set : (events : Events) (reading : VdmReading) → IsTold events reading → WereSet reading.request.bank (is_frozen reading.statistics) reading.image (steps_of events)
were_set events reading told = were reading.request.bank reading.stage (is_frozen reading.statistics) reading.image (steps_of events) (known_now events reading told).sets
