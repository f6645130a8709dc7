use Rattle.std.proofs.Common.{◌≡◌, ◌++◌}
use Rattle.std.specs.List.{flat_map, range_with_len}
use Rattle.report_entries.specs.Entries.{as_entries}
use Rattle.module_details.specs.Details.{lane_entries}
use Rattle.module_details.specs.RowTables.{item_in}
use Rattle.module_details.proofs.read_rows.add_bank.Given as goal

-- the lanes so far
abbrev pub invariant-loop-before : goal.invariant-loop-before
invariant-loop-before l =
    as_entries l.entries ≡ as_entries l.initial.entries ++ flat_map (lane_entries l.identifier l.row.name.now (item_in l.row.item.now) l.bank l.lanes) (range_with_len 1 l.before)
