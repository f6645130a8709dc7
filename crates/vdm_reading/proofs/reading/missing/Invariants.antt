use Rattle.std.proofs.Common.{◌≡◌, ◌≤◌, ◌++◌, drop, length}
use Rattle.vdm_reading.specs.VdmStages.{missing}
use Rattle.vdm_reading.proofs.reading.missing.Given as goal

-- the missing ones so far, and those among the pages that are left
abbrev pub invariant-loop-page : goal.invariant-loop-page
invariant-loop-page l =
    (l.missing.items ++ missing (drop l.page-index l.pages) l.image ≡ missing l.pages l.image)
    × (length l.missing.items ≤ l.page-index)
