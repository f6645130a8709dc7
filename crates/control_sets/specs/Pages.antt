-- Page selection as provisioning and activation make it, by bank and page: the words of paged_memory for that form.
-- (docs/bus.md, "Confirmed pages"; OIF-CMIS-05.0, BankSelect and PageSelect, bytes 126 and 127 of the lower memory)
use Rattle.std.specs.Prelude.{ℕ, Bool}
use Rattle.bus_model.specs.declared.operation.Op.{Op}
use Rattle.bus_model.specs.declared.operation.Step.{Step}
use Rattle.paged_memory.specs.declared.page_addressing.PageAddressing.TheVariants.{BankAndPage}
use Rattle.paged_memory.specs.PageAddressing as addressing

abbrev pub History : Type 0
History = addressing.History

abbrev pub EachStep : (Step → History → Type 0) → History → Type 0
EachStep = addressing.EachStep

-- the bank and the page are asked for
abbrev pub selection : ℕ → Op
selection = addressing.selection BankAndPage

abbrev pub read_selection : Op
read_selection = addressing.read_selection BankAndPage

-- a store that covers BankSelect or PageSelect
abbrev pub may_select : Op → Bool
may_select = addressing.may_select BankAndPage

abbrev pub is_page_confirmed : ℕ → History → Bool
is_page_confirmed = addressing.is_page_confirmed BankAndPage

abbrev pub is_open : History → Bool
is_open = addressing.is_open BankAndPage
