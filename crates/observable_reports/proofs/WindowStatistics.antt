-- The statistics that are read of an image over a scripted bus are the image's.
use Rattle.std.proofs.Common.{◌≡◌, ◌&&◌, Bool, true, false, inl, inr, refl, subst, sym, if◌then◌else◌}
use Rattle.bus_model.specs.ScriptedBus.{script_rules}
use Rattle.observables.specs.Banks.{bank_count, statistics_banks}
use Rattle.observables.specs.Pages.{has_observables, is_cmis}
use Rattle.paged_memory.specs.Images.{Memory}
use Rattle.paged_memory.specs.ImageText.{IsImage}
use Rattle.paged_memory.specs.Windows.{window_conduct}
use Rattle.reports.proofs.FetchedLanes.{IsFetchedOf, fetched_is}
use Rattle.observable_reports.specs.FetchedObservables.{AreFirstRead}
use Rattle.observable_reports.specs.SameStatistics.{StatisticsSame}
use Rattle.observable_reports.proofs.BankReadings.{IsReadOf, SeenWindow, none_read, read_of}

-- what was read after a fetch, by whether statistics are offered
module _ (memory before : Memory) (image : IsImage memory) (mid : SeenWindow) (fetched : IsFetchedOf memory before mid) where
  none_of : (new : SeenWindow) (all : Memory) → AreFirstRead (script_rules window_conduct) mid before 0 new all → IsReadOf memory before all 0 mid new
  none_of new all (unchanged, same_memory) =
      subst (λ (seen : SeenWindow). IsReadOf memory before all 0 mid seen) (sym unchanged)
      (subst (λ (m : Memory). IsReadOf memory before m 0 mid mid) (sym same_memory) (none_read memory before mid fetched.behind fetched.pages))

  by_offer : (new : SeenWindow) (all : Memory) (cmis has : Bool) → is_cmis before ≡ cmis → AreFirstRead (script_rules window_conduct) mid before (if cmis && has then bank_count before else 0) new all
      → IsReadOf memory before all (if cmis && has then bank_count before else 0) mid new
  by_offer new all true true cmis read = read_of memory image (fetched.by_bank cmis) before mid fetched.behind fetched.pages (bank_count before) new all read
  by_offer new all true false cmis read = none_of new all read
  by_offer new all false has cmis read = none_of new all read

  pub statistics_of : (new : SeenWindow) (all : Memory) → AreFirstRead (script_rules window_conduct) mid before (statistics_banks before) new all → IsReadOf memory before all (statistics_banks before) mid new
  statistics_of new all read = by_offer new all (is_cmis before) (has_observables before) refl read

-- each page from 20h on
pub statistics_same : StatisticsSame
statistics_same old new memory all image start (inl (fault, refused, fetched)) page bytes above held = absurd cc
statistics_same old new memory all image start (inr (mid, before, fetched, read_so)) page bytes above held =
    (statistics_of memory before image mid (fetched_is old mid memory before image start fetched) new all read_so).within page bytes above held
