-- Descriptors of the instances of a module's list of observables. (OIF-CMIS-05.0, "VDM Descriptors", pages 20h to 23h)
use Rattle.std.specs.Prelude.{◌≡◌, ◌≢◌, ℕ, ◌+◌, ◌*◌, ◌/◌, ◌%◌, ◌≤◌, ◌==◌, if◌then◌else◌, Option, Some, None}
use Rattle.observables.specs.declared.descriptor.Descriptor.{Descriptor}

-- The first byte has the number of the set in its upper four bits and one less than the lane in its lower four; the second byte
-- is the type, and no instance that is used has type 0.
pub record Describes (first second : ℕ) (descriptor : Descriptor) : Type 0 where
  pub set_and_lane : first + 1 ≡ descriptor.set * 16 + descriptor.lane
  pub lane_from : 1 ≤ descriptor.lane
  pub lane_to : descriptor.lane ≤ 16
  pub kind : descriptor.kind ≡ second
  pub used : second ≢ 0

-- the descriptor of two bytes, unless the instance is unused
abbrev pub descriptor_of : ℕ → ℕ → Option Descriptor
descriptor_of first second =
    if second == 0 then None else Some (record { set = first / 16; lane = first % 16 + 1; kind = second })
