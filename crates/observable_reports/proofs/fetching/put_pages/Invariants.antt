use Rattle.std.proofs.Common.{◌≡◌, ◌≤◌, ◌+◌, drop, length}
use Rattle.std.specs.FinMap as map
use Rattle.paged_memory.specs.Images.{most_large}
use Rattle.observable_reports.specs.FetchedObservables.{with_pages}
use Rattle.observable_reports.proofs.fetching.put_pages.Given as goal

-- what is left of the pages makes of the image what all of them make of it at first, and finds room in it
abbrev pub invariant-loop-page : goal.invariant-loop-page
invariant-loop-page l = record {
  pages : with_pages l.from (drop l.page-index l.pages) l.image ≡ with_pages l.from l.pages l.fn.image;
  room : map.len l.image + length (drop l.page-index l.pages) ≤ most_large;
  few : map.len l.image + length (drop l.page-index l.pages) ≤ map.len l.fn.image + length l.pages;
}
