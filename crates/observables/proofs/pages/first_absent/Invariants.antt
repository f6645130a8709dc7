use Rattle.std.proofs.Common.{◌≡◌, drop}
use Rattle.observables.specs.Pages.{first_absent}
use Rattle.observables.proofs.pages.first_absent.Given as goal

-- no page so far is absent
abbrev pub invariant-loop-page : goal.invariant-loop-page
invariant-loop-page l = first_absent l.pages l.bank l.image ≡ first_absent (drop l.page-index l.pages) l.bank l.image
