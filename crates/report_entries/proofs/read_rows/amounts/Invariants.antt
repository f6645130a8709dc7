use Rattle.std.proofs.Common.{◌≡◌, ◌≤◌, ◌+◌, ◌*◌, length, take}
use Rattle.report_entries.specs.Rows.{amounts_in}
use Rattle.report_entries.proofs.read_rows.amounts.Given as goal

-- the amounts of the banks so far, and how many they are at most
abbrev pub invariant-loop-bank : goal.invariant-loop-bank
invariant-loop-bank l = record {
  amounts : l.amounts.items ≡ amounts_in l.image (take l.bank-index l.banks) l.field l.power;
  few : length l.amounts.items ≤ 8 + 8 * l.bank-index;
}
