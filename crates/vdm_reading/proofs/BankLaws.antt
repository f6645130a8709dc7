-- Each half that a reading has read is page 01h, or has statistics of its bank.
use Rattle.std.proofs.Common.{◌≡◌, ◌≤◌, ◌⊎◌, ℕ, ◌+◌, ◌*◌, ◌/◌, ◌%◌, ◌==◌, ◌&&◌, Bool, true, false, List, [], ◌∷◌, Option, Some, None, refl, sym, ap, subst, ◌∙◌, inl, inr, if◌then◌else◌, cond, nat_le, nat_lt, arith}
use Rattle.std.specs.FinMap as map
use Rattle.std.specs.List.{list_all}
use Rattle.std.specs.Option.{option_map_or}
use Rattle.std.specs.Ordering.{eq_by_cmp}
use Rattle.std.proofs.lemmas.Bool.{and_parts, leb-true}
use Rattle.bus_model.specs.declared.device.Dev.TheVariants.{A0}
use Rattle.bus_model.specs.declared.operation.Op.{Op}
use Rattle.bus_model.specs.declared.operation.Reply.{Reply}
use Rattle.bus_model.specs.declared.operation.Reply.TheVariants.{Bytes, Done, Refused}
use Rattle.bus_model.specs.Operations.{Answers}
use Rattle.conversations.specs.declared.next.Next.TheVariants.{Do}
use Rattle.conversations.specs.Events.{Events}
use Rattle.field_tables.specs.Halves.{is_absent}
use Rattle.observables.specs.Pages.{groups, has_observables, pages, pages_of}
use Rattle.paged_memory.specs.declared.key.Key.{Key}
use Rattle.paged_memory.specs.declared.page_addressing.PageAddressing.TheVariants.{BankAndPage}
use Rattle.paged_memory.specs.declared.page_addressing.KnownPage.TheVariants as selected_page
use Rattle.paged_memory.specs.Images.{Memory, most_pages}
use Rattle.paged_memory.specs.KeyOrder.{key_cmp}
use Rattle.paged_memory.specs.Keys.{upper_key}
use Rattle.paged_memory.specs.KnownPages.{is_awaited, is_known, missing_page, selection_read}
use Rattle.paged_memory.specs.PageAddressing.{History}
use Rattle.paged_memory.proofs.KeyLaws.{keys_total}
use Rattle.paged_memory.proofs.KnownPageLaws.{step_of}
use Rattle.vdm_reading.specs.declared.end.Statistics.TheVariants as statistics
use Rattle.vdm_reading.specs.declared.reading.VdmReading.{VdmReading}
use Rattle.vdm_reading.specs.declared.reading.VdmRequest.{VdmRequest}
use Rattle.vdm_reading.specs.declared.reading.VdmStage.{VdmStage}
use Rattle.vdm_reading.specs.declared.reading.VdmStage.TheVariants as stage
use Rattle.vdm_reading.specs.BankPages.{AreOfBank, IsOfBank, IsOfStatistics, bank_pages, groups_page, numbered, numbers_of}
use Rattle.vdm_reading.specs.FrozenSteps.{is_freeze_done, is_unfreeze_done}
use Rattle.vdm_reading.specs.VdmAccounts.{IsTold}
use Rattle.vdm_reading.specs.VdmStages.{accepted_at, after, after_missing, after_read_back, after_selection, after_work, asked, begun, confirmed, enter, failed, frozen_by, fruitless, fruitless_by, kept, key_of, lost_at, may_be_frozen, next_by, over, page_now, put_in, read_at, refused_at, released_by, rested, wants}
use Rattle.vdm_reading.proofs.GroupLaws.{groups_key}
use Rattle.vdm_reading.proofs.SetLaws.{same_key}
use Rattle.vdm_reading.proofs.WantedTurns.{holds_told}

-- ---- the pages that are advertised

-- by its number, a page of the bank that has statistics
abbrev IsOwn : ℕ → ℕ → Type 0
IsOwn bank number = (page : ℕ) × (number ≡ numbered bank page) × IsOfStatistics page

abbrev AreOwn : ℕ → List ℕ → Type 0
AreOwn bank [] = Unit {0}
AreOwn bank (number ∷ numbers) = IsOwn bank number × AreOwn bank numbers

abbrev is_listed : ℕ → Bool
is_listed page = nat_le 0x20 page && nat_le page 0x2C

of_list : (page : ℕ) → is_listed page ≡ true → IsOfStatistics page
of_list page is =
    let parts = and_parts (nat_le 0x20 page) (nat_le page 0x2C) is in
    inr (leb-true 0x20 page parts.0, leb-true page 0x2C parts.1)

numbers_own : (bank : ℕ) (pages : List ℕ) → list_all is_listed pages ≡ true → AreOwn bank (numbers_of bank pages)
numbers_own bank [] are = tt
numbers_own bank (page ∷ pages) are =
    let parts = and_parts (is_listed page) (list_all is_listed pages) are in
    ((page, refl, of_list page parts.0), numbers_own bank pages parts.1)

all_listed : (groups : ℕ) → list_all is_listed (pages_of groups) ≡ true
all_listed groups = by (groups == 0) (groups == 1) (groups == 2) where
  by : (one two three : Bool) → list_all is_listed (
      if one then 0x20 ∷ 0x28 ∷ 0x24 ∷ 0x2C ∷ []
      else if two then 0x20 ∷ 0x21 ∷ 0x28 ∷ 0x29 ∷ 0x24 ∷ 0x25 ∷ 0x2C ∷ []
      else if three then 0x20 ∷ 0x21 ∷ 0x22 ∷ 0x28 ∷ 0x29 ∷ 0x2A ∷ 0x24 ∷ 0x25 ∷ 0x26 ∷ 0x2C ∷ []
      else 0x20 ∷ 0x21 ∷ 0x22 ∷ 0x23 ∷ 0x28 ∷ 0x29 ∷ 0x2A ∷ 0x2B ∷ 0x24 ∷ 0x25 ∷ 0x26 ∷ 0x27 ∷ 0x2C ∷ []) ≡ true
  by true two three = refl
  by false true three = refl
  by false false true = refl
  by false false false = refl

-- page 2Fh stands for pages that aren't known
grouped_own : (bank : ℕ) (groups : Option ℕ) → AreOwn bank (numbers_of bank (option_map_or pages_of groups (0x2F ∷ [])))
grouped_own bank None = ((0x2F, refl, inl refl), tt)
grouped_own bank (Some groups) = numbers_own bank (pages_of groups) (all_listed groups)

advertised_own : (bank : ℕ) (has : Bool) (groups : Option ℕ) → AreOwn bank (numbers_of bank (if has then option_map_or pages_of groups (0x2F ∷ []) else []))
advertised_own bank true groups = grouped_own bank groups
advertised_own bank false groups = tt

-- ---- the image

few : (page : ℕ) → IsOfStatistics page → page ≤ 0x2F
few page (inl is) = omega (arith, is)
few page (inr within) = omega (arith, within.1)

own_key : (bank number : ℕ) → IsOwn bank number → IsOfBank bank (key_of number)
own_key bank number own =
    let page = own.0 in
    let is = own.1 in
    let small = few page own.2 in
    let in_bank : number / 256 ≡ bank = omega (arith, is, small) in
    let in_page : number % 256 ≡ page = omega (arith, is, small) in
    inr (page, (λ i. upper_key A0 (in_bank i) (in_page i)), own.2)

module _ (bank : ℕ) (image : Memory) (page : ℕ) (bytes : List ℕ) (was : AreOfBank bank image) (is : IsOfBank bank (key_of page)) where
  inserted : (key : Key) (found : List ℕ) (same : Bool) → eq_by_cmp key_cmp key (key_of page) ≡ same → cond same (Some bytes) (map.get image key) ≡ Some found → IsOfBank bank key
  inserted key found true e there = subst (λ (k : Key). IsOfBank bank k) (sym (same_key key (key_of page) e)) is
  inserted key found false e there = was key found there

  put_own : AreOfBank bank (put_in image page bytes)
  put_own key found there = by (map.len image == most_pages && is_absent image (key_of page)) there where
    by : (full : Bool) → map.get (if full then image else map.insert image (key_of page) bytes) key ≡ Some found → IsOfBank bank key
    by true there = was key found there
    by false there = inserted key found (eq_by_cmp key_cmp key (key_of page)) refl (sym (map.get-insert keys_total image (key_of page) bytes key) ∙ there)

-- ---- what is known at a stage

abbrev IsOwnAt : ℕ → VdmStage → Type 0
IsOwnAt bank (stage.Page number) = IsOwn bank number
IsOwnAt bank now = Unit {0}

-- so is each page that is still to be read
record Own (bank : ℕ) (now : VdmStage) (image : Memory) (todo : List ℕ) : Type 0 where
  pub halves : AreOfBank bank image
  pub later : AreOwn bank todo
  pub page : IsOwnAt bank now

abbrev Owns : VdmReading → Type 0
Owns reading = Own reading.request.bank reading.stage reading.image reading.todo.items

-- the same but for the stage
record Has (bank : ℕ) (image : Memory) (todo : List ℕ) : Type 0 where
  pub halves : AreOfBank bank image
  pub later : AreOwn bank todo

abbrev Keeps : VdmReading → Type 0
Keeps reading = Has reading.request.bank reading.image reading.todo.items

finish_own : (frozen : Bool) (reading : VdmReading) → Keeps reading → Owns (if frozen then enter stage.Release reading else over reading)
finish_own true reading has = record { halves = has.halves; later = has.later; page = tt }
finish_own false reading has = record { halves = has.halves; later = has.later; page = tt }

next_own : (todo : List ℕ) (reading : VdmReading) → AreOwn reading.request.bank todo → Keeps reading → Owns (next_by todo reading)
next_own [] reading own has = finish_own (may_be_frozen reading.release) reading has
next_own (number ∷ rest) reading own has = record { halves = has.halves; later = own.1; page = own.0 }

over_own : (reading : VdmReading) → Keeps reading → Owns (over reading)
over_own reading has = record { halves = has.halves; later = has.later; page = tt }

lost_own : (now : VdmStage) (reading : VdmReading) → Keeps reading → Owns (lost_at now reading)
lost_own stage.Advertised reading has = over_own reading has
lost_own stage.Groups reading has = over_own reading has
lost_own stage.Freeze reading has = next_own reading.todo.items (record reading { statistics = statistics.Refused }) has.later has
lost_own stage.Freezing reading has = next_own reading.todo.items (record reading { statistics = statistics.Pending }) has.later has
lost_own (stage.Page number) reading has = next_own reading.todo.items reading has.later has
lost_own stage.Release reading has = over_own reading has
lost_own stage.Releasing reading has = over_own reading has
lost_own stage.Over reading has = over_own reading has

fruitless_own : (more : Bool) (reading : VdmReading) → Owns reading → Owns (fruitless_by more reading)
fruitless_own true reading was = was
fruitless_own false reading was = lost_own reading.stage (record reading { due = true }) (record { halves = was.halves; later = was.later })

failed_own : (reading : VdmReading) → Owns reading → Owns (failed reading)
failed_own reading was = fruitless_own (nat_lt 0 reading.left) (record reading { selection = selected_page.Unknown }) was

-- ---- one transaction more

module _ (reading : VdmReading) (was : Owns reading) where
  abbrev bank : ℕ
  bank = reading.request.bank

  has : Keeps reading
  has = record { halves = was.halves; later = was.later }

  fails : Owns (failed reading)
  fails = failed_own reading was

  confirms : (shows : Bool) → Owns (confirmed shows reading)
  confirms true = was
  confirms false = fails

  backs : (reply : Reply) → Owns (after_read_back reading reply)
  backs (Bytes bytes) = confirms (is_known (selection_read BankAndPage bytes.items) (page_now reading))
  backs Done = fails
  backs Refused = fails

  selects : (reply : Reply) → Owns (after_selection reading reply)
  selects (Bytes bytes) = fails
  selects Done = was
  selects Refused = fails

  with_page : (number : ℕ) (bytes : List ℕ) → IsOfBank bank (key_of number) → Keeps (kept number bytes reading)
  with_page number bytes is = record { halves = put_own bank reading.image number bytes was.halves is; later = was.later }

  advertises : (has : Bool) (new : VdmReading) → Keeps new → Owns (if has then enter stage.Groups new else over (record new { statistics = statistics.Unsupported }))
  advertises true new now = record { halves = now.halves; later = now.later; page = tt }
  advertises false new now = record { halves = now.halves; later = now.later; page = tt }

  freezes : (done : Bool) → Owns (frozen_by done reading)
  freezes true = next_own reading.todo.items (record reading { statistics = statistics.Frozen }) was.later has
  freezes false = fruitless_own (nat_lt 0 reading.left) reading was

  releases : (done : Bool) → Owns (released_by done reading)
  releases true = record { halves = was.halves; later = was.later; page = tt }
  releases false = fruitless_own (nat_lt 0 reading.left) reading was

  grouped : (bytes : List ℕ) → Owns (read_at stage.Groups bytes reading)
  grouped bytes =
      let image = (kept (groups_page bank) bytes reading).image in
      record {
        halves = (with_page (groups_page bank) bytes (inr (0x2F, sym (groups_key bank), inl refl))).halves;
        later = advertised_own bank (has_observables image) (groups image bank);
        page = tt;
      }

  reads : (now : VdmStage) → IsOwnAt bank now → (bytes : List ℕ) → Owns (read_at now bytes reading)
  reads stage.Advertised own bytes = advertises (has_observables (kept 0x01 bytes reading).image) (kept 0x01 bytes reading) (with_page 0x01 bytes (inl refl))
  reads stage.Groups own bytes = grouped bytes
  reads stage.Freeze own bytes = fails
  reads stage.Freezing own bytes = freezes (is_freeze_done bytes)
  reads (stage.Page number) own bytes = next_own reading.todo.items (kept number bytes reading) was.later (with_page number bytes (own_key bank number own))
  reads stage.Release own bytes = fails
  reads stage.Releasing own bytes = releases (is_unfreeze_done bytes)
  reads stage.Over own bytes = was

  accepts : (now : VdmStage) → Owns (accepted_at now reading)
  accepts stage.Advertised = fails
  accepts stage.Groups = fails
  accepts stage.Freeze = record { halves = was.halves; later = was.later; page = tt }
  accepts stage.Freezing = fails
  accepts (stage.Page number) = fails
  accepts stage.Release = record { halves = was.halves; later = was.later; page = tt }
  accepts stage.Releasing = fails
  accepts stage.Over = was

  refuses : (now : VdmStage) → Owns (refused_at now reading)
  refuses stage.Advertised = fails
  refuses stage.Groups = fails
  refuses stage.Freeze = failed_own (asked reading) was
  refuses stage.Freezing = fails
  refuses (stage.Page number) = fails
  refuses stage.Release = fails
  refuses stage.Releasing = fails
  refuses stage.Over = was

  works : (reply : Reply) → Owns (after_work reading reply)
  works (Bytes bytes) = reads reading.stage was.page bytes.items
  works Done = accepts reading.stage
  works Refused = refuses reading.stage

  misses : (missing : Option ℕ) (reply : Reply) → Owns (after_missing missing reading reply)
  misses None reply = works reply
  misses (Some page) reply = selects reply

  turns : (awaited : Bool) (missing : Option ℕ) (reply : Reply) → Owns (if awaited then after_read_back reading reply else after_missing missing reading reply)
  turns true missing reply = backs reply
  turns false missing reply = misses missing reply

  keeps : (reply : Reply) → Owns (after reading reply)
  keeps reply = turns (is_awaited reading.selection) (missing_page reading.selection (Some (page_now reading))) reply

-- ---- from its beginning

begins : (request : VdmRequest) → Owns (begun request)
begins request = record {
  halves = λ key bytes there. (let none : None ≡ Some bytes = sym (map.get-empty key_cmp key) ∙ there in absurd cc);
  later = tt;
  page = tt;
}

pub of_bank : (events : Events) (reading : VdmReading) → IsTold events reading → AreOfBank reading.request.bank reading.image
of_bank events reading told =
    (holds_told (λ (history : History) (now : VdmReading). Owns now) begins
    (λ history now op reply asks answers was. keeps now was reply)
    (λ history now was. was) events reading told).halves
