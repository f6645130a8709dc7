-- Page selection over the steps of a bus with the newest first: which page they confirm, and whether it is open what the last
-- selection did. Pages go by numbers: page p of bank b has 256 * b + p. (docs/bus.md, "Confirmed pages"; OIF-CMIS-05.0, BankSelect and PageSelect, bytes 126 and 127
-- of the lower memory; SFF-8636, "Page Select", byte 127)
use Rattle.std.specs.Prelude.{ℕ, ◌+◌, ◌/◌, ◌%◌, ◌==◌, ◌&&◌, ◌||◌, nat_lt, not, Bool, true, false, List, [], ◌∷◌, length, if◌then◌else◌}
use Rattle.bus_model.specs.declared.device.Dev.TheVariants.{A0, A2}
use Rattle.bus_model.specs.declared.operation.Op.{Op}
use Rattle.bus_model.specs.declared.operation.Op.TheVariants.{Fetch, Store}
use Rattle.bus_model.specs.declared.operation.Reply.{Reply}
use Rattle.bus_model.specs.declared.operation.Reply.TheVariants.{Bytes, Done, Refused}
use Rattle.bus_model.specs.declared.operation.Step.{Step}
use Rattle.bus_model.specs.SameOperation.{same_op}
use Rattle.paged_memory.specs.declared.page_addressing.PageAddressing.{PageAddressing}
use Rattle.paged_memory.specs.declared.page_addressing.PageAddressing.TheVariants.{BankAndPage, PageAlone}

-- steps that were made, the newest first: those before a step are the rest of the list
abbrev pub History : Type 0
History = List Step

-- of each step, with those before it
abbrev pub EachStep : (Step → History → Type 0) → History → Type 0
EachStep P [] = Unit {0}
EachStep P (step ∷ before) = P step before × EachStep P before

-- the first byte of the selection, which goes on up to byte 127
abbrev pub first_byte : PageAddressing → ℕ
first_byte BankAndPage = 126
first_byte PageAlone = 127

-- a page is asked for with its bank, or, where pages are selected alone and it is of bank 0, alone
abbrev pub selection : PageAddressing → ℕ → Op
selection BankAndPage page = Store A0 126 (record { items = page / 256 ∷ page % 256 ∷ [] })
selection PageAlone page = if page / 256 == 0 then Store A0 127 (record { items = page % 256 ∷ [] }) else Store A0 126 (record { items = page / 256 ∷ page % 256 ∷ [] })

abbrev pub read_selection : PageAddressing → Op
read_selection BankAndPage = Fetch A0 126 2
read_selection PageAlone = Fetch A0 127 1

-- a store that covers the selection: accepted or refused, it may have changed what is selected
abbrev pub may_select : PageAddressing → Op → Bool
may_select addressing (Store A0 offset bytes) = nat_lt offset 128 && nat_lt (first_byte addressing) (offset + length bytes.items)
may_select addressing (Store A2 offset bytes) = false
may_select addressing (Fetch dev offset count) = false

abbrev pub are_bank_and_page : ℕ → List ℕ → Bool
are_bank_and_page page (bank ∷ number ∷ []) = bank == page / 256 && number == page % 256
are_bank_and_page page _ = false

-- alone, a page is of bank 0
abbrev pub are_page_alone : ℕ → List ℕ → Bool
are_page_alone page (number ∷ []) = page / 256 == 0 && number == page % 256
are_page_alone page _ = false

abbrev pub is_selection_of : PageAddressing → ℕ → List ℕ → Bool
is_selection_of BankAndPage = are_bank_and_page
is_selection_of PageAlone = are_page_alone

-- what was read is the page
abbrev pub is_page : PageAddressing → ℕ → Reply → Bool
is_page addressing page (Bytes bytes) = is_selection_of addressing page bytes.items
is_page addressing page Done = false
is_page addressing page Refused = false

-- the page was read back
abbrev pub reads_back : PageAddressing → ℕ → Step → Bool
reads_back addressing page step = same_op (read_selection addressing) step.op && is_page addressing page step.reply

-- the page was read back, and nothing was stored on the selection since
abbrev pub is_page_confirmed : PageAddressing → ℕ → History → Bool
is_page_confirmed addressing page [] = false
is_page_confirmed addressing page (step ∷ before) = reads_back addressing page step || (not (may_select addressing step.op) && is_page_confirmed addressing page before)

abbrev pub is_read : Reply → Bool
is_read (Bytes bytes) = true
is_read Done = false
is_read Refused = false

-- a store on the selection, or a read back without an answer
abbrev pub leaves_open : PageAddressing → Step → Bool
leaves_open addressing step = may_select addressing step.op || (same_op (read_selection addressing) step.op && not (is_read step.reply))

-- what the last selection did has not been read yet
abbrev pub is_open : PageAddressing → History → Bool
is_open addressing [] = false
is_open addressing (step ∷ before) = leaves_open addressing step
