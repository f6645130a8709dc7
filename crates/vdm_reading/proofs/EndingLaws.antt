-- A reading ends: each transaction takes something off what may still be made.
use Rattle.std.proofs.Common.{◌≡◌, ◌≤◌, ◌<◌, ℕ, ◌+◌, ◌-◌, ◌*◌, ◌==◌, Bool, true, false, List, [], ◌∷◌, length, refl, sym, ap, subst, ◌∙◌, if◌then◌else◌, nat_lt, Option, Some, None, eq-eqb, arith}
use Rattle.std.specs.Option.{option_map_or}
use Rattle.std.proofs.lemmas.Bool.{ltb-true}
use Rattle.std.proofs.lemmas.List.{length-map}
use Rattle.bus_model.specs.declared.operation.Op.{Op}
use Rattle.bus_model.specs.declared.operation.Reply.{Reply}
use Rattle.bus_model.specs.declared.operation.Reply.TheVariants.{Bytes, Done, Refused}
use Rattle.bus_model.specs.Operations.{Answers}
use Rattle.conversations.specs.declared.next.Next.TheVariants.{Do}
use Rattle.conversations.specs.Events.{Events, steps_of}
use Rattle.observables.specs.Pages.{groups, has_observables, pages, pages_of}
use Rattle.paged_memory.specs.declared.page_addressing.PageAddressing.TheVariants.{BankAndPage}
use Rattle.paged_memory.specs.declared.page_addressing.KnownPage.{KnownPage}
use Rattle.paged_memory.specs.declared.page_addressing.KnownPage.TheVariants as selected_page
use Rattle.paged_memory.specs.Images.{Memory}
use Rattle.paged_memory.specs.KnownPages.{is_awaited, is_known, selection_read}
use Rattle.paged_memory.specs.PageAddressing.{History}
use Rattle.paged_memory.proofs.KnownPageLaws.{step_of}
use Rattle.vdm_reading.specs.declared.end.Statistics.TheVariants as statistics
use Rattle.vdm_reading.specs.declared.reading.VdmReading.{VdmReading}
use Rattle.vdm_reading.specs.declared.reading.VdmRequest.{VdmRequest}
use Rattle.vdm_reading.specs.declared.reading.VdmStage.{VdmStage}
use Rattle.vdm_reading.specs.declared.reading.VdmStage.TheVariants as stage
use Rattle.vdm_reading.specs.BankPages.{bank_pages, groups_page, numbered, numbers_of}
use Rattle.vdm_reading.specs.FrozenSteps.{is_freeze_done, is_unfreeze_done}
use Rattle.vdm_reading.specs.VdmAccounts.{IsTold}
use Rattle.vdm_reading.specs.VdmStages.{accepted_at, after, after_read_back, after_selection, after_work, asked, begun, confirmed, enter, failed, frozen_by, fruitless, fruitless_by, kept, lost_at, may_be_frozen, most_transactions, next_by, page_at, page_now, read_at, refused_at, released_by, wants, work_at}
use Rattle.vdm_reading.proofs.WantedTurns.{by_turn, holds_told}

-- ---- how many transactions may still be made

-- for the page of a stage: its selection, the read back, and the work
abbrev rank_if : Bool → ℕ
rank_if same = if same then 1 else 3

rank : KnownPage → ℕ → ℕ
rank selected_page.Unknown page = 3
rank selected_page.Open page = 2
rank (selected_page.Page number) page = rank_if (number == page)

-- at the stages after this one, with so many pages to do
abbrev later : VdmStage → ℕ → ℕ
later stage.Advertised todo = 750
later stage.Groups todo = 741
later stage.Freeze todo = 615 + 9 * todo
later stage.Freezing todo = 312 + 9 * todo
later (stage.Page page) todo = 312 + 9 * todo
later stage.Release todo = 303
later stage.Releasing todo = 0
later stage.Over todo = 0

abbrev local : ℕ → VdmStage → ℕ → KnownPage → ℕ
local bank stage.Advertised left selected = 3 * left + rank selected 0x01
local bank stage.Groups left selected = 3 * left + rank selected (groups_page bank)
local bank stage.Freeze left selected = 3 * left + rank selected (groups_page bank)
local bank stage.Freezing left selected = 3 * left + rank selected (groups_page bank)
local bank (stage.Page page) left selected = 3 * left + rank selected page
local bank stage.Release left selected = 3 * left + rank selected (groups_page bank)
local bank stage.Releasing left selected = 3 * left + rank selected (groups_page bank)
local bank stage.Over left selected = 0

abbrev todo_of : VdmReading → ℕ
todo_of reading = length reading.todo.items

abbrev potential_at : VdmStage → VdmReading → ℕ
potential_at now reading = local reading.request.bank now reading.left reading.selection + later now (todo_of reading)

abbrev potential : VdmReading → ℕ
potential reading = potential_at reading.stage reading

rank_few : (selected : KnownPage) (page : ℕ) → rank selected page ≤ 3
unfolding rank
rank_few selected_page.Unknown page = omega arith
rank_few selected_page.Open page = omega arith
rank_few (selected_page.Page number) page = by (number == page) where
  by : (same : Bool) → rank_if same ≤ 3
  by true = omega arith
  by false = omega arith

rank_some : (selected : KnownPage) (page : ℕ) → 1 ≤ rank selected page
unfolding rank
rank_some selected_page.Unknown page = omega arith
rank_some selected_page.Open page = omega arith
rank_some (selected_page.Page number) page = by (number == page) where
  by : (same : Bool) → 1 ≤ rank_if same
  by true = omega arith
  by false = omega arith

rank_unknown : (page : ℕ) → rank selected_page.Unknown page ≡ 3
unfolding rank
rank_unknown page = refl

rank_open : (page : ℕ) → rank selected_page.Open page ≡ 2
unfolding rank
rank_open page = refl

rank_page : (page : ℕ) → rank (selected_page.Page page) page ≡ 1
unfolding rank
rank_page page = by (page == page) (eq-eqb page page refl) where
  by : (same : Bool) → same ≡ true → rank_if same ≡ 1
  by true e = refl
  by false e = absurd cc

-- ---- what comes next

-- a stage that begins may take as many as it allows, and those after it
next_few : (todo : List ℕ) (reading : VdmReading) → todo ≡ reading.todo.items → potential (next_by todo reading) ≤ 312 + 9 * length todo
next_few [] reading is = by (may_be_frozen reading.release) where
  by : (frozen : Bool) → potential (if frozen then enter stage.Release reading else enter stage.Over reading) ≤ 312 + 9 * 0
  by true = omega (arith, rank_few reading.selection (groups_page reading.request.bank))
  by false = omega arith
next_few (page ∷ rest) reading is = omega (arith, rank_few reading.selection page)

lost_few : (now : VdmStage) (reading : VdmReading) → potential (lost_at now reading) ≤ later now (todo_of reading)
lost_few stage.Advertised reading = omega arith
lost_few stage.Groups reading = omega arith
lost_few stage.Freeze reading = omega (arith, next_few reading.todo.items (record reading { statistics = statistics.Refused }) refl)
lost_few stage.Freezing reading = next_few reading.todo.items (record reading { statistics = statistics.Pending }) refl
lost_few (stage.Page page) reading = next_few reading.todo.items reading refl
lost_few stage.Release reading = omega arith
lost_few stage.Releasing reading = omega arith
lost_few stage.Over reading = omega arith

-- one fruitless transaction less, with a selection that may have to be made again
again_few : (now : VdmStage) (reading : VdmReading) → 0 < reading.left →
    potential_at now (record reading { left = reading.left - 1; due = true }) ≤ 3 * reading.left + later now (todo_of reading)
again_few stage.Advertised reading some = omega (arith, some, rank_few reading.selection 0x01)
again_few stage.Groups reading some = omega (arith, some, rank_few reading.selection (groups_page reading.request.bank))
again_few stage.Freeze reading some = omega (arith, some, rank_few reading.selection (groups_page reading.request.bank))
again_few stage.Freezing reading some = omega (arith, some, rank_few reading.selection (groups_page reading.request.bank))
again_few (stage.Page page) reading some = omega (arith, some, rank_few reading.selection page)
again_few stage.Release reading some = omega (arith, some, rank_few reading.selection (groups_page reading.request.bank))
again_few stage.Releasing reading some = omega (arith, some, rank_few reading.selection (groups_page reading.request.bank))
again_few stage.Over reading some = omega (arith, some)

fruitless_few : (more : Bool) (reading : VdmReading) → nat_lt 0 reading.left ≡ more → potential (fruitless_by more reading) ≤ 3 * reading.left + later reading.stage (todo_of reading)
fruitless_few true reading is = again_few reading.stage reading (ltb-true 0 reading.left is)
fruitless_few false reading is = omega (arith, lost_few reading.stage (record reading { due = true }))

failed_few : (reading : VdmReading) → potential (failed reading) ≤ 3 * reading.left + later reading.stage (todo_of reading)
failed_few reading = fruitless_few (nat_lt 0 reading.left) (record reading { selection = selected_page.Unknown }) refl

-- ---- one step more

module _ (reading : VdmReading) where
  -- before a transaction
  local_is : (now : VdmStage) (work : Op) → work_at reading now ≡ Do work → local reading.request.bank now reading.left reading.selection ≡ 3 * reading.left + rank reading.selection (page_at reading.request.bank now)
  local_is stage.Advertised work does = refl
  local_is stage.Groups work does = refl
  local_is stage.Freeze work does = refl
  local_is stage.Freezing work does = refl
  local_is (stage.Page page) work does = refl
  local_is stage.Release work does = refl
  local_is stage.Releasing work does = refl
  local_is stage.Over work does = absurd cc

  abbrev page : ℕ
  page = page_now reading

  abbrev Less : VdmReading → Type 0
  Less new = potential new + 1 ≤ potential reading

  module _ (work : Op) (does : work_at reading reading.stage ≡ Do work) where
    fails : Less (failed reading)
    fails = omega (arith, failed_few reading, local_is reading.stage work does, rank_some reading.selection page)

    waits : Less (fruitless reading)
    waits = omega (arith, fruitless_few (nat_lt 0 reading.left) reading refl, local_is reading.stage work does, rank_some reading.selection page)

    selected_is : (now : VdmStage) (selected : KnownPage) → work_at reading now ≡ Do work → local reading.request.bank now reading.left selected ≡ 3 * reading.left + rank selected (page_at reading.request.bank now)
    selected_is stage.Advertised selected does = refl
    selected_is stage.Groups selected does = refl
    selected_is stage.Freeze selected does = refl
    selected_is stage.Freezing selected does = refl
    selected_is (stage.Page page) selected does = refl
    selected_is stage.Release selected does = refl
    selected_is stage.Releasing selected does = refl
    selected_is stage.Over selected does = absurd cc

    confirms : reading.selection ≡ selected_page.Open → (shows : Bool) → Less (confirmed shows reading)
    confirms awaits true =
        let before = local_is reading.stage work does ∙ ap (λ (selected : KnownPage). 3 * reading.left + rank selected page) awaits in
        omega (arith, before, rank_open page, selected_is reading.stage (selected_page.Page page) does, rank_page page)
    confirms awaits false = fails

    backs : reading.selection ≡ selected_page.Open → (reply : Reply) → Less (after_read_back reading reply)
    backs awaits (Bytes bytes) = confirms awaits (is_known (selection_read BankAndPage bytes.items) page)
    backs awaits Done = fails
    backs awaits Refused = fails

    rank_elsewhere : (selected : KnownPage) → is_awaited selected ≡ false → is_known selected page ≡ false → rank selected page ≡ 3
    unfolding rank
    rank_elsewhere selected_page.Unknown closed elsewhere = refl
    rank_elsewhere selected_page.Open closed elsewhere = absurd cc
    rank_elsewhere (selected_page.Page number) closed elsewhere = ap rank_if elsewhere

    selects : is_awaited reading.selection ≡ false → is_known reading.selection page ≡ false → (reply : Reply) → Less (after_selection reading reply)
    selects closed elsewhere (Bytes bytes) = fails
    selects closed elsewhere Done =
        omega (arith, local_is reading.stage work does, rank_elsewhere reading.selection closed elsewhere, selected_is reading.stage selected_page.Open does, rank_open page)
    selects closed elsewhere Refused = fails

-- the pages that are advertised are few
groups_few : (count : ℕ) → length (pages_of count) ≤ 13
groups_few count = by (count == 0) (count == 1) (count == 2) where
  by : (a b c : Bool) → length {A = ℕ} (if a then 0x20 ∷ 0x28 ∷ 0x24 ∷ 0x2C ∷ [] else if b then 0x20 ∷ 0x21 ∷ 0x28 ∷ 0x29 ∷ 0x24 ∷ 0x25 ∷ 0x2C ∷ []
      else if c then 0x20 ∷ 0x21 ∷ 0x22 ∷ 0x28 ∷ 0x29 ∷ 0x2A ∷ 0x24 ∷ 0x25 ∷ 0x26 ∷ 0x2C ∷ []
      else 0x20 ∷ 0x21 ∷ 0x22 ∷ 0x23 ∷ 0x28 ∷ 0x29 ∷ 0x2A ∷ 0x2B ∷ 0x24 ∷ 0x25 ∷ 0x26 ∷ 0x27 ∷ 0x2C ∷ []) ≤ 13
  by true b c = omega arith
  by false true c = omega arith
  by false false true = omega arith
  by false false false = omega arith

few_pages : (image : Memory) (bank : ℕ) → length (pages image bank) ≤ 13
few_pages image bank = by (has_observables image) (groups image bank) where
  by : (has : Bool) (groups : Option ℕ) → length {A = ℕ} (if has then option_map_or pages_of groups (0x2F ∷ []) else []) ≤ 13
  by false groups = omega arith
  by true None = omega arith
  by true (Some groups) = groups_few groups

-- so are their numbers
numbered_few : (bank : ℕ) (pages : List ℕ) → length pages ≤ 13 → length (numbers_of bank pages) ≤ 13
numbered_few bank pages few = subst (λ (n : ℕ). n ≤ 13) (sym (length-map pages (λ (page : ℕ). numbered bank page))) few

pub numbers_few : (bank count : ℕ) → length (numbers_of bank (pages_of count)) ≤ 13
numbers_few bank count = numbered_few bank (pages_of count) (groups_few count)

pub pages_few : (image : Memory) (bank : ℕ) → length (bank_pages image bank) ≤ 13
pages_few image bank = numbered_few bank (pages image bank) (few_pages image bank)

module _ (reading : VdmReading) (on : reading.selection ≡ selected_page.Page (page_now reading)) where
  -- before the work of a stage
  works_at : (now : VdmStage) (work : Op) → reading.stage ≡ now → work_at reading now ≡ Do work → potential reading ≡ 3 * reading.left + 1 + later now (todo_of reading)
  works_at now work is does =
      let rank_is = ap (λ (selected : KnownPage). rank selected (page_at reading.request.bank now)) (on ∙ ap (λ (now : VdmStage). selected_page.Page (page_at reading.request.bank now)) is) ∙ rank_page (page_at reading.request.bank now) in
      let local_now = local_is reading now work does in
      let same = ap (λ (now : VdmStage). potential_at now reading) is in
      omega (arith, rank_is, local_now, same)

  abbrev Falls : VdmReading → Type 0
  Falls new = potential new + 1 ≤ potential reading

  at : (now : VdmStage) (work : Op) → reading.stage ≡ now → work_at reading now ≡ Do work → work_at reading reading.stage ≡ Do work
  at now work is does = subst (λ (now : VdmStage). work_at reading now ≡ Do work) (sym is) does

  read_few : (now : VdmStage) (bytes : List ℕ) (work : Op) → reading.stage ≡ now → work_at reading now ≡ Do work → Falls (read_at now bytes reading)
  read_few stage.Advertised bytes work is does = by (has_observables (kept 0x01 bytes reading).image) where
    before : potential reading ≡ 3 * reading.left + 1 + 750
    before = works_at stage.Advertised work is does

    by : (has : Bool) → let new = kept 0x01 bytes reading in
        Falls (if has then enter stage.Groups new else enter stage.Over (record new { statistics = statistics.Unsupported }))
    by true = omega (arith, before, rank_few reading.selection (groups_page reading.request.bank))
    by false = omega (arith, before)
  read_few stage.Groups bytes work is does =
      omega (arith, works_at stage.Groups work is does, rank_few reading.selection (groups_page reading.request.bank), pages_few (kept (groups_page reading.request.bank) bytes reading).image reading.request.bank)
  read_few stage.Freeze bytes work is does = fails reading work (at stage.Freeze work is does)
  read_few stage.Freezing bytes work is does = by (is_freeze_done bytes) where
    by : (done : Bool) → Falls (frozen_by done reading)
    by true = omega (arith, works_at stage.Freezing work is does, next_few reading.todo.items (record reading { statistics = statistics.Frozen }) refl)
    by false = waits reading work (at stage.Freezing work is does)
  read_few (stage.Page page) bytes work is does = omega (arith, works_at (stage.Page page) work is does, next_few reading.todo.items (kept page bytes reading) refl)
  read_few stage.Release bytes work is does = fails reading work (at stage.Release work is does)
  read_few stage.Releasing bytes work is does = by (is_unfreeze_done bytes) where
    by : (done : Bool) → Falls (released_by done reading)
    by true = omega (arith, works_at stage.Releasing work is does)
    by false = waits reading work (at stage.Releasing work is does)
  read_few stage.Over bytes work is does = absurd cc

  accepted_few : (now : VdmStage) (work : Op) → reading.stage ≡ now → work_at reading now ≡ Do work → Falls (accepted_at now reading)
  accepted_few stage.Advertised work is does = fails reading work (at stage.Advertised work is does)
  accepted_few stage.Groups work is does = fails reading work (at stage.Groups work is does)
  accepted_few stage.Freeze work is does = omega (arith, works_at stage.Freeze work is does, rank_few reading.selection (groups_page reading.request.bank))
  accepted_few stage.Freezing work is does = fails reading work (at stage.Freezing work is does)
  accepted_few (stage.Page page) work is does = fails reading work (at (stage.Page page) work is does)
  accepted_few stage.Release work is does = omega (arith, works_at stage.Release work is does, rank_few reading.selection (groups_page reading.request.bank))
  accepted_few stage.Releasing work is does = fails reading work (at stage.Releasing work is does)
  accepted_few stage.Over work is does = absurd cc

  refused_few : (now : VdmStage) (work : Op) → reading.stage ≡ now → work_at reading now ≡ Do work → Falls (refused_at now reading)
  refused_few stage.Advertised work is does = fails reading work (at stage.Advertised work is does)
  refused_few stage.Groups work is does = fails reading work (at stage.Groups work is does)
  refused_few stage.Freeze work is does =
      let before = works_at stage.Freeze work is does in
      let same = ap (λ (now : VdmStage). later now (todo_of reading)) is in
      omega (arith, before, same, failed_few (asked reading))
  refused_few stage.Freezing work is does = fails reading work (at stage.Freezing work is does)
  refused_few (stage.Page page) work is does = fails reading work (at (stage.Page page) work is does)
  refused_few stage.Release work is does = fails reading work (at stage.Release work is does)
  refused_few stage.Releasing work is does = fails reading work (at stage.Releasing work is does)
  refused_few stage.Over work is does = absurd cc

  works : (reply : Reply) (work : Op) → work_at reading reading.stage ≡ Do work → Falls (after_work reading reply)
  works (Bytes bytes) work does = read_few reading.stage bytes.items work refl does
  works Done work does = accepted_few reading.stage work refl does
  works Refused work does = refused_few reading.stage work refl does

abbrev Within : History → VdmReading → Type 0
Within history reading = length history + potential reading ≤ most_transactions

keeps : (history : History) (reading : VdmReading) (op : Op) (reply : Reply) → wants reading ≡ Do op → Answers op reply → Within history reading → Within (step_of op reply ∷ history) (after reading reply)
keeps history reading op reply asks answers within =
    let falls = by_turn reading reply (λ op new. potential new + 1 ≤ potential reading)
    (λ work does awaits. backs reading work does awaits reply)
    (λ work does closed elsewhere. selects reading work does closed elsewhere reply)
    (λ work does on. works reading on reply work does)
    op asks in
    omega (arith, falls, within)

begins : (request : VdmRequest) → Within [] (begun request)
begins request = omega (arith, rank_unknown 0x01)

pub few : (events : Events) (reading : VdmReading) → IsTold events reading → length (steps_of events) ≤ most_transactions
few events reading told =
    let within = holds_told Within begins keeps (λ history reading within. within) events reading told in omega (arith, within)
