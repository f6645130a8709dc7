-- What may come about where less is presumed of a module. (this project's own)
use Rattle.std.specs.Prelude.{ℕ, List, length}
use Rattle.firmware_laws.specs.Contents.{IsOldOrNew}
use Rattle.firmware_update.specs.Exchanges.{History}
use Rattle.firmware_laws.specs.Modules.{ComesTo, Conduct, Firmware, HasImage, HasTwoBanks, IsQuiet}
use Rattle.firmware_update.specs.Safety.{IsSafe}

-- of some module of which P holds, and after some history of what may be sent, no committed image is left
abbrev pub CanBeLost : (Conduct → Type 0) → Type 0
CanBeLost P =
    (conduct : Conduct) × (file : List ℕ) × (history : History) × (first : Firmware) × (last : Firmware)
    × P conduct × HasImage first × IsQuiet first × IsSafe (length file) history × ComesTo conduct file first history last × (HasImage last → ⊥)

-- of some with two banks of which P holds, an image is committed that is neither an old one nor the file
abbrev pub CanBeMixed : (Conduct → Type 0) → Type 0
CanBeMixed P =
    (conduct : Conduct) × (file : List ℕ) × (history : History) × (first : Firmware) × (last : Firmware)
    × HasTwoBanks conduct × P conduct × IsQuiet first × IsSafe (length file) history × ComesTo conduct file first history last × (IsOldOrNew first file last → ⊥)
