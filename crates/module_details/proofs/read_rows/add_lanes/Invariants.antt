use Rattle.std.proofs.Common.{◌≡◌, ◌++◌, ℕ, take}
use Rattle.std.specs.List.{flat_map}
use Rattle.observables.specs.Banks.{lanes_of_bank}
use Rattle.report_entries.specs.Entries.{as_entries}
use Rattle.module_details.specs.Details.{bank_entries}
use Rattle.module_details.specs.RowTables.{item_in}
use Rattle.module_details.proofs.read_rows.add_lanes.Given as goal

-- the lanes of the further banks so far
abbrev pub invariant-loop-bank : goal.invariant-loop-bank
invariant-loop-bank l =
    as_entries l.entries ≡ as_entries l.initial.entries
    ++ flat_map (λ (bank : ℕ). bank_entries l.identifier l.row.name.now (item_in l.row.item.now) l.row.count bank (lanes_of_bank l.image bank)) (take l.bank-index l.banks)
