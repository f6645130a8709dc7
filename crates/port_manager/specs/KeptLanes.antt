-- No flag that page 11h of a bank was read to raise is lost before it is acknowledged. (this project's own)
use Rattle.std.specs.Prelude.{◌≡◌, ◌<◌, ℕ, true, List, [], ◌∷◌, ◌++◌}
use Rattle.port_manager.specs.declared.lane_flags.LaneFlags.{LaneFlags}
use Rattle.port_manager.specs.Flags.{is_raised, lanes_since, lanes_with, no_lanes}
use Rattle.port_manager.specs.KeptFlags.{IsHeld}

pub data LaneEvent : Type 0 where
  -- bytes from an address on were read of the bank's page 11h at this moment
  show : ℕ → List ℕ → ℕ → LaneEvent
  -- flags up to this moment are known to somebody
  know : ℕ → LaneEvent

-- what is counted after these, the newest first
abbrev pub lanes_in : List LaneEvent → LaneFlags
lanes_in [] = no_lanes
lanes_in (show offset bytes now ∷ before) = lanes_with (lanes_in before) offset bytes now
lanes_in (know past ∷ before) = lanes_since (lanes_in before) past

-- nobody knows what was read at this moment
abbrev pub IsUnknown : ℕ → List LaneEvent → Type 0
IsUnknown now [] = Unit {0}
IsUnknown now (show offset bytes moment ∷ before) = IsUnknown now before
IsUnknown now (know past ∷ before) = (past < now) × IsUnknown now before

-- what the bytes show is counted and dated until that is known, whatever is read meanwhile
abbrev pub NoLaneFlagIsLost : Type 0
NoLaneFlagIsLost =
    (more before : List LaneEvent) (offset : ℕ) (bytes : List ℕ) (now place : ℕ) → place < 152 → is_raised offset bytes 134 place ≡ true → IsUnknown now more
    → IsHeld (lanes_in (more ++ (show offset bytes now ∷ before))).counts (lanes_in (more ++ (show offset bytes now ∷ before))).last now place
