use Rattle.std.proofs.Common.{◌≡◌, ◌++◌, ℕ, take}
use Rattle.std.specs.List.{flat_map}
use Rattle.field_tables.specs.FieldValues.{of_each}
use Rattle.observables.specs.Banks.{lanes_of_bank}
use Rattle.report_entries.specs.FlagRows.{lane_flag}
use Rattle.report_entries.specs.Flags.{raised}
use Rattle.report_entries.proofs.flag_rows.push_lanes.Given as goal

-- the flags of the further banks so far
abbrev pub invariant-loop-bank : goal.invariant-loop-bank
invariant-loop-bank l =
    l.flags.items ≡ l.initial.flags.items ++ raised (flat_map (λ (bank : ℕ). of_each l.field (lane_flag l.name l.field bank (lanes_of_bank l.image bank))) (take l.bank-index l.banks))
