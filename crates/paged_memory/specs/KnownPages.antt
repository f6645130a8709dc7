-- What a host keeps of the page selection, and what it asks for by that. (docs/bus.md, "Confirmed pages"; this project's
-- own)
use Rattle.std.specs.Prelude.{◌≡◌, ℕ, ◌+◌, ◌*◌, ◌==◌, nat_lt, Bool, true, false, List, [], ◌∷◌, Option, Some, None, if◌then◌else◌}
use Rattle.bus_model.specs.declared.operation.Op.{Op}
use Rattle.bus_model.specs.declared.operation.Reply.{Reply}
use Rattle.bus_model.specs.declared.operation.Reply.TheVariants.{Bytes, Done, Refused}
use Rattle.bus_model.specs.declared.operation.Step.{Step}
use Rattle.bus_model.specs.SameOperation.{same_op}
use Rattle.paged_memory.specs.declared.page_addressing.PageAddressing.{PageAddressing}
use Rattle.paged_memory.specs.declared.page_addressing.PageAddressing.TheVariants.{BankAndPage, PageAlone}
use Rattle.paged_memory.specs.declared.page_addressing.KnownPage.{KnownPage}
use Rattle.paged_memory.specs.declared.page_addressing.KnownPage.TheVariants.{Unknown, Open, Page}
use Rattle.paged_memory.specs.PageAddressing.{History, is_page_confirmed, is_open, may_select, read_selection, selection}

abbrev pub is_known : KnownPage → ℕ → Bool
is_known Unknown page = false
is_known Open page = false
is_known (Page known) page = known == page

-- a read back is awaited
abbrev pub is_awaited : KnownPage → Bool
is_awaited Unknown = false
is_awaited Open = true
is_awaited (Page known) = false

-- the page that is needed, if it isn't known to be selected
abbrev pub missing_page : KnownPage → Option ℕ → Option ℕ
missing_page selected None = None
missing_page selected (Some page) = if is_known selected page then None else Some page

-- the selection of a page that is missing
abbrev pub selecting_first : PageAddressing → Op → Option ℕ → Op
selecting_first addressing op None = op
selecting_first addressing op (Some page) = selection addressing page

-- what is asked for next if an operation is wanted that needs a page, or none
abbrev pub wanted : PageAddressing → KnownPage → Option ℕ → Op → Op
wanted addressing selected needed op = if is_awaited selected then read_selection addressing else selecting_first addressing op (missing_page selected needed)

-- a page that is a byte, of this bank
abbrev pub page_in : ℕ → ℕ → KnownPage
page_in bank number = if nat_lt number 256 then Page (256 * bank + number) else Unknown

abbrev pub bank_and_page_read : List ℕ → KnownPage
bank_and_page_read (bank ∷ number ∷ []) = page_in bank number
bank_and_page_read _ = Unknown

abbrev pub page_alone_read : List ℕ → KnownPage
page_alone_read (number ∷ []) = page_in 0 number
page_alone_read _ = Unknown

abbrev pub selection_read : PageAddressing → List ℕ → KnownPage
selection_read BankAndPage = bank_and_page_read
selection_read PageAlone = page_alone_read

abbrev pub selection_told : PageAddressing → KnownPage → Reply → KnownPage
selection_told addressing selected (Bytes bytes) = selection_read addressing bytes.items
selection_told addressing selected Done = selected
selection_told addressing selected Refused = selected

-- what is known after a step
abbrev pub selected_after : PageAddressing → KnownPage → Step → KnownPage
selected_after addressing selected step =
    if may_select addressing step.op then Open
    else (if same_op (read_selection addressing) step.op then selection_told addressing selected step.reply else selected)

-- the operation leaves the selection alone
pub record IsApart (addressing : PageAddressing) (op : Op) : Type 0 where
  pub not_selecting : may_select addressing op ≡ false
  pub not_reading_back : same_op (read_selection addressing) op ≡ false

-- what is known of the selection is what the steps say
pub record Tells (addressing : PageAddressing) (selected : KnownPage) (history : History) : Type 0 where
  pub awaited : is_open addressing history ≡ is_awaited selected
  pub known : (page : ℕ) → is_page_confirmed addressing page history ≡ is_known selected page
