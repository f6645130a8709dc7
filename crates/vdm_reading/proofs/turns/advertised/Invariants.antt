use Rattle.std.proofs.Common.{◌≡◌, ◌≤◌, ◌++◌, drop, length}
use Rattle.vdm_reading.specs.BankPages.{bank_pages, numbers_of}
use Rattle.vdm_reading.proofs.turns.advertised.Given as goal

-- the numbers so far, and those of the pages that are left
abbrev pub invariant-loop-page : goal.invariant-loop-page
invariant-loop-page l = record {
  numbers : l.numbers.items ++ numbers_of l.bank (drop l.page-index l.page-items) ≡ bank_pages l.image l.bank;
  counted : length l.numbers.items ≤ l.page-index;
  few : length l.page-items ≤ 13;
}
