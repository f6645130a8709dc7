-- Controls of page 13h, each of one byte, that switch patterns and loopbacks. (docs/lanes.md; OIF-CMIS-05.0, Module Performance
-- Diagnostics Control, page 13h)
use Rattle.std.specs.Prelude.{ℕ, ◌+◌, ◌*◌, ◌/◌, ◌%◌, ◌==◌, nat_lt, Bool, true, false, List, slice_index, if◌then◌else◌}
use Rattle.std.specs.Int.{bit_at}
use Rattle.std.specs.Int.RustNames.{bit_or}
use Rattle.lane_controls.specs.declared.control.Control.{Control}
use Rattle.lane_controls.specs.declared.control.Control.TheVariants.{Enable, Invert, ByteSwap, SideOfFec, Pattern, Measurement}
use Rattle.lane_controls.specs.declared.control.Control.TheVariants as control
use Rattle.lane_controls.specs.declared.control.LanePair.{LanePair}
use Rattle.lane_controls.specs.declared.control.LanePair.TheVariants.{First, Second, Third, Fourth}
use Rattle.lane_controls.specs.declared.control.Loopback.{Loopback}
use Rattle.lane_controls.specs.declared.control.Loopback.TheVariants.{MediaSideOutput, MediaSideInput, HostSideOutput, HostSideInput}
use Rattle.lane_controls.specs.declared.control.PatternUnit.{PatternUnit}
use Rattle.lane_controls.specs.declared.control.PatternUnit.TheVariants.{HostGenerator, MediaGenerator, HostChecker, MediaChecker}

abbrev pub first_byte_of : PatternUnit → ℕ
first_byte_of HostGenerator = 144
first_byte_of MediaGenerator = 152
first_byte_of HostChecker = 160
first_byte_of MediaChecker = 168

abbrev pub index_of : LanePair → ℕ
index_of First = 0
index_of Second = 1
index_of Third = 2
index_of Fourth = 3

abbrev pub byte_of_loopback : Loopback → ℕ
byte_of_loopback MediaSideOutput = 180
byte_of_loopback MediaSideInput = 181
byte_of_loopback HostSideOutput = 182
byte_of_loopback HostSideInput = 183

abbrev pub address_of : Control → ℕ
address_of (Enable unit) = first_byte_of unit
address_of (Invert unit) = first_byte_of unit + 1
address_of (ByteSwap unit) = first_byte_of unit + 2
address_of (SideOfFec unit) = first_byte_of unit + 3
address_of (Pattern unit pair) = first_byte_of unit + 4 + index_of pair
address_of (control.Loopback loopback) = byte_of_loopback loopback
address_of Measurement = 177

-- ---- the lanes of its own side that bits of a control concern: bit i-1 is lane i

abbrev pub sum_of : ℕ → Bool → Bool → ℕ
sum_of lane true true = lane + 2 * lane
sum_of lane true false = lane
sum_of lane false true = 2 * lane
sum_of lane false false = 0

abbrev pub lanes_of_pair : LanePair → Bool → Bool → ℕ
lanes_of_pair First first second = sum_of 1 first second
lanes_of_pair Second first second = sum_of 4 first second
lanes_of_pair Third first second = sum_of 16 first second
lanes_of_pair Fourth first second = sum_of 64 first second

-- two lanes share the byte of their patterns; how results are gated concerns no signal
abbrev pub own_lanes : Control → ℕ → ℕ
own_lanes (Enable unit) mask = mask
own_lanes (Invert unit) mask = mask
own_lanes (ByteSwap unit) mask = mask
own_lanes (SideOfFec unit) mask = mask
own_lanes (Pattern unit pair) mask = lanes_of_pair pair (nat_lt 0 (mask % 16)) (nat_lt 0 (mask / 16))
own_lanes (control.Loopback loopback) mask = mask
own_lanes Measurement mask = 0

-- ---- the host lanes of the paths that are concerned

abbrev pub is_media_unit : PatternUnit → Bool
is_media_unit HostGenerator = false
is_media_unit MediaGenerator = true
is_media_unit HostChecker = false
is_media_unit MediaChecker = true

abbrev pub is_media_loopback : Loopback → Bool
is_media_loopback MediaSideOutput = true
is_media_loopback MediaSideInput = true
is_media_loopback HostSideOutput = false
is_media_loopback HostSideInput = false

abbrev pub is_media : Control → Bool
is_media (Enable unit) = is_media_unit unit
is_media (Invert unit) = is_media_unit unit
is_media (ByteSwap unit) = is_media_unit unit
is_media (SideOfFec unit) = is_media_unit unit
is_media (Pattern unit pair) = is_media_unit unit
is_media (control.Loopback loopback) = is_media_loopback loopback
is_media Measurement = false

abbrev pub is_loopback : Control → Bool
is_loopback (Enable unit) = false
is_loopback (Invert unit) = false
is_loopback (ByteSwap unit) = false
is_loopback (SideOfFec unit) = false
is_loopback (Pattern unit pair) = false
is_loopback (control.Loopback loopback) = true
is_loopback Measurement = false

-- of a media lane, counted from 0, if it is one of these: the host lanes of its path
abbrev pub hosts_at : List ℕ → ℕ → ℕ → ℕ
hosts_at paths lanes i = if bit_at lanes i == 1 then slice_index paths i else 0

unfoldable pub hosts_of : List ℕ → ℕ → ℕ
hosts_of paths lanes =
    bit_or (bit_or (bit_or (hosts_at paths lanes 0) (hosts_at paths lanes 1)) (bit_or (hosts_at paths lanes 2) (hosts_at paths lanes 3)))
    (bit_or (bit_or (hosts_at paths lanes 4) (hosts_at paths lanes 5)) (bit_or (hosts_at paths lanes 6) (hosts_at paths lanes 7)))

-- where these are the host lanes of each media lane's path
abbrev pub host_lanes : List ℕ → Control → ℕ → ℕ
host_lanes paths control mask = if is_media control then hosts_of paths (own_lanes control mask) else own_lanes control mask
