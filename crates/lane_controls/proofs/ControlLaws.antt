-- Controls stand at bytes 144 to 183.
use Rattle.std.proofs.Common.{ℕ, ◌<◌, ◌≤◌, arith}
use Rattle.lane_controls.specs.declared.control.Control.{Control}
use Rattle.lane_controls.specs.declared.control.Control.TheVariants.{Enable, Invert, ByteSwap, SideOfFec, Pattern, Measurement}
use Rattle.lane_controls.specs.declared.control.Control.TheVariants as control
use Rattle.lane_controls.specs.declared.control.LanePair.{LanePair}
use Rattle.lane_controls.specs.declared.control.LanePair.TheVariants.{First, Second, Third, Fourth}
use Rattle.lane_controls.specs.declared.control.Loopback.{Loopback}
use Rattle.lane_controls.specs.declared.control.Loopback.TheVariants.{MediaSideOutput, MediaSideInput, HostSideOutput, HostSideInput}
use Rattle.lane_controls.specs.declared.control.PatternUnit.{PatternUnit}
use Rattle.lane_controls.specs.declared.control.PatternUnit.TheVariants.{HostGenerator, MediaGenerator, HostChecker, MediaChecker}
use Rattle.lane_controls.specs.Controls.{address_of, byte_of_loopback, first_byte_of, index_of}

abbrev IsByteOfPart : ℕ → Type 0
IsByteOfPart n = (144 ≤ n) × (n < 169)

part_within : (unit : PatternUnit) → IsByteOfPart (first_byte_of unit)
part_within HostGenerator = (omega arith, omega arith)
part_within MediaGenerator = (omega arith, omega arith)
part_within HostChecker = (omega arith, omega arith)
part_within MediaChecker = (omega arith, omega arith)

pair_within : (pair : LanePair) → index_of pair < 4
pair_within First = omega arith
pair_within Second = omega arith
pair_within Third = omega arith
pair_within Fourth = omega arith

loopback_within : (loopback : Loopback) → (144 ≤ byte_of_loopback loopback) × (byte_of_loopback loopback < 184)
loopback_within MediaSideOutput = (omega arith, omega arith)
loopback_within MediaSideInput = (omega arith, omega arith)
loopback_within HostSideOutput = (omega arith, omega arith)
loopback_within HostSideInput = (omega arith, omega arith)

pub within : (c : Control) → (144 ≤ address_of c) × (address_of c < 184)
within (Enable unit) = let (from, to) = part_within unit in (from, omega (arith, to))
within (Invert unit) = let (from, to) = part_within unit in (omega (arith, from), omega (arith, to))
within (ByteSwap unit) = let (from, to) = part_within unit in (omega (arith, from), omega (arith, to))
within (SideOfFec unit) = let (from, to) = part_within unit in (omega (arith, from), omega (arith, to))
within (Pattern unit pair) = let (from, to) = part_within unit in (omega (arith, from), omega (arith, to, pair_within pair))
within (control.Loopback loopback) = loopback_within loopback
within Measurement = (omega arith, omega arith)
