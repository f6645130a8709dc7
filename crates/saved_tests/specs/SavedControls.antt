-- Controls of page 13h by the bytes that they have there. (docs/lanes.md, "From C and Python"; OIF-CMIS-05.0, Module Performance
-- Diagnostics Control, page 13h)
use Rattle.std.specs.Prelude.{ℕ, ◌-◌, ◌/◌, ◌%◌, ◌==◌, ◌&&◌, ◌||◌, nat_le, nat_lt, Bool, if◌then◌else◌}
use Rattle.lane_controls.specs.declared.control.Control.{Control}
use Rattle.lane_controls.specs.declared.control.Control.TheVariants.{Enable, Invert, ByteSwap, SideOfFec, Pattern, Measurement}
use Rattle.lane_controls.specs.declared.control.Control.TheVariants as control
use Rattle.lane_controls.specs.declared.control.LanePair.{LanePair}
use Rattle.lane_controls.specs.declared.control.LanePair.TheVariants.{First, Second, Third, Fourth}
use Rattle.lane_controls.specs.declared.control.Loopback.{Loopback}
use Rattle.lane_controls.specs.declared.control.Loopback.TheVariants.{MediaSideOutput, MediaSideInput, HostSideOutput, HostSideInput}
use Rattle.lane_controls.specs.declared.control.PatternUnit.{PatternUnit}
use Rattle.lane_controls.specs.declared.control.PatternUnit.TheVariants.{HostGenerator, MediaGenerator, HostChecker, MediaChecker}

-- a control stands at this byte
abbrev pub is_control : ℕ → Bool
is_control byte = (nat_le 144 byte && nat_le byte 175) || (byte == 177 || (nat_le 180 byte && nat_le byte 183))

-- eight bytes for each of them
abbrev pub unit_in : ℕ → PatternUnit
unit_in number = if number == 0 then HostGenerator else (if number == 1 then MediaGenerator else (if number == 2 then HostChecker else MediaChecker))

abbrev pub pair_in : ℕ → LanePair
pair_in place = if place == 4 then First else (if place == 5 then Second else (if place == 6 then Third else Fourth))

abbrev pub control_of_unit : PatternUnit → ℕ → Control
control_of_unit unit place =
    if place == 0 then Enable unit
    else (if place == 1 then Invert unit
    else (if place == 2 then ByteSwap unit
    else (if place == 3 then SideOfFec unit
    else Pattern unit (pair_in place))))

abbrev pub loopback_in : ℕ → Loopback
loopback_in number = if number == 0 then MediaSideOutput else (if number == 1 then MediaSideInput else (if number == 2 then HostSideOutput else HostSideInput))

abbrev pub control_in : ℕ → Control
control_in byte =
    if nat_lt byte 176 then control_of_unit (unit_in ((byte - 144) / 8)) ((byte - 144) % 8)
    else (if byte == 177 then Measurement else control.Loopback (loopback_in (byte - 180)))
