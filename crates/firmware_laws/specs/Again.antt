-- The ends of an update after which another may begin. (this project's own)
use Rattle.firmware_update.specs.declared.known.Known.{Known}
use Rattle.firmware_update.specs.declared.known.Known.TheVariants.{Untouched, Begun, Aborted, MayBeComplete, Complete, MayRun, Runs, MayBeCommitted, Committed}

-- by what is known at the end, the new image was not told to run, not even in vain: so the download may begin once more
abbrev pub HasRunNothing : Known → Type 0
HasRunNothing Untouched = Unit {0}
HasRunNothing Begun = Unit {0}
HasRunNothing Aborted = Unit {0}
HasRunNothing MayBeComplete = Unit {0}
HasRunNothing Complete = ⊥
HasRunNothing MayRun = ⊥
HasRunNothing Runs = ⊥
HasRunNothing MayBeCommitted = ⊥
HasRunNothing Committed = ⊥
