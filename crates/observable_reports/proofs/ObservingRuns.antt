-- What reading the statistics of one bank more makes of what was observed.
use Rattle.std.proofs.Common.{◌≡◌, ◌<◌, ◌+◌, ℕ, suc, Result, Ok, Err, refl, sym, subst, arith}
use Rattle.bus_model.specs.Runs.{Rules, Seen}
use Rattle.paged_memory.specs.Images.{Memory}
use Rattle.reports.specs.declared.fault.ReportFault.{ReportFault}
use Rattle.observable_reports.specs.FetchedObservables.{AreFirstRead, AreStatisticsRead, IsBankRead}

module _ {S : Type 0} (rules : Rules S) (mid : Seen S) (memory : Memory) (bank : ℕ) (last : Seen S) (before : Memory) (first : AreFirstRead rules mid memory bank last before) (new : Seen S) (all : Memory) where
  pub one_more : IsBankRead rules bank last new before all (Ok tt) → AreFirstRead rules mid memory (bank + 1) new all
  one_more read = let next : suc bank ≡ bank + 1 = omega arith in subst (λ (n : ℕ). AreFirstRead rules mid memory n new all) next (last, before, first, read)

  pub cut_short : (banks : ℕ) (fault : ReportFault) (answer : Result Memory ReportFault) → answer ≡ Err fault → bank < banks → IsBankRead rules bank last new before all (Err fault)
      → AreStatisticsRead banks rules mid new memory answer
  cut_short banks fault answer is below (events, read, (cut, kept)) =
      subst (λ (a : Result Memory ReportFault). AreStatisticsRead banks rules mid new memory a) (sym is) (bank, below, last, before, first, (events, read, (cut, refl)))
