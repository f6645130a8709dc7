-- What a module advertises of patterns, loopbacks and results: page 01h, byte 142, and page 13h, bytes 128 to 139. (docs/lanes.md;
-- OIF-CMIS-05.0, Module Performance Diagnostics Control, page 13h)
use Rattle.std.specs.Prelude.{ℕ, ◌+◌, ◌/◌, ◌%◌, ◌==◌, ◌&&◌, ◌||◌, nat_lt, not, Bool, true, List, slice_index}
use Rattle.std.specs.Int.{bit_at}
use Rattle.std.specs.Int.RustNames.{bit_and}
use Rattle.lane_controls.specs.declared.control.Control.{Control}
use Rattle.lane_controls.specs.declared.control.Control.TheVariants.{Enable, Invert, ByteSwap, SideOfFec, Pattern, Measurement}
use Rattle.lane_controls.specs.declared.control.Control.TheVariants as control
use Rattle.lane_controls.specs.declared.control.Loopback.{Loopback}
use Rattle.lane_controls.specs.declared.control.Loopback.TheVariants.{MediaSideOutput, MediaSideInput, HostSideOutput, HostSideInput}
use Rattle.lane_controls.specs.declared.control.PatternUnit.{PatternUnit}
use Rattle.lane_controls.specs.declared.control.PatternUnit.TheVariants.{HostGenerator, MediaGenerator, HostChecker, MediaChecker}
use Rattle.lane_controls.specs.declared.result_set.ResultSet.{ResultSet}
use Rattle.lane_controls.specs.declared.result_set.ResultSet.TheVariants.{ErrorRatio, Counters, SignalToNoise, GatedErrorRatio, GatedCounters}
use Rattle.lane_controls.specs.declared.result_set.Side.TheVariants.{Host, Media}

abbrev pub is_set : ℕ → ℕ → Bool
is_set byte bit = bit_at byte bit == 1

-- DiagnosticPagesSupported: bit 5 of page 01h, byte 142
abbrev pub has_diagnostics : ℕ → Bool
has_diagnostics byte = is_set byte 5

-- a bit of the byte that stands so far behind byte 128
abbrev pub has_bit : List ℕ → ℕ → ℕ → Bool
has_bit capabilities index bit = is_set (slice_index capabilities index) bit

-- ---- loopbacks: byte 128

abbrev pub mode_bit : Loopback → ℕ
mode_bit MediaSideOutput = 0
mode_bit MediaSideInput = 1
mode_bit HostSideOutput = 2
mode_bit HostSideInput = 3

-- lanes of the side can be looped back one by one
abbrev pub lane_bit : Loopback → ℕ
lane_bit MediaSideOutput = 5
lane_bit MediaSideInput = 5
lane_bit HostSideOutput = 4
lane_bit HostSideInput = 4

-- all lanes, on or off
abbrev pub is_whole : ℕ → ℕ → Bool
is_whole mask bits = mask == 255 && (bits == 0 || bits == 255)

abbrev pub supports_loopback : List ℕ → Loopback → ℕ → ℕ → Bool
supports_loopback capabilities loopback mask bits = has_bit capabilities 0 (mode_bit loopback) && (has_bit capabilities 0 (lane_bit loopback) || is_whole mask bits)

-- loopbacks of both sides at once
abbrev pub supports_both_sides : List ℕ → Bool
supports_both_sides capabilities = has_bit capabilities 0 6

-- ---- patterns: two bytes for each unit, bit n for code n

abbrev pub patterns_index : PatternUnit → ℕ
patterns_index HostGenerator = 4
patterns_index MediaGenerator = 6
patterns_index HostChecker = 8
patterns_index MediaChecker = 10

abbrev pub has_pattern : List ℕ → PatternUnit → ℕ → Bool
has_pattern capabilities unit code = has_bit capabilities (patterns_index unit + code / 8) (code % 8)

-- half a byte that is left alone, or the code of one of its patterns
abbrev pub supports_code : List ℕ → PatternUnit → ℕ → ℕ → Bool
supports_code capabilities unit mask code = mask == 0 || (mask == 15 && has_pattern capabilities unit code)

abbrev pub supports_patterns : List ℕ → PatternUnit → ℕ → ℕ → Bool
supports_patterns capabilities unit mask bits = supports_code capabilities unit (mask % 16) (bits % 16) && supports_code capabilities unit (mask / 16) (bits / 16)

-- ---- gates: byte 129

abbrev pub has_gates : List ℕ → Bool
has_gates capabilities = nat_lt 0 (slice_index capabilities 1 / 64)

-- of what is set: a gate time in bits 3 to 1, a restart in bit 4
abbrev pub supports_measurement : List ℕ → ℕ → Bool
supports_measurement capabilities set =
    (set / 2 % 8 == 0 || has_gates capabilities) && (not (is_set set 4) || has_bit capabilities 1 2)

-- ---- results: byte 130, and GatingResults of byte 129

abbrev pub has_gated_results : List ℕ → Bool
has_gated_results capabilities = has_gates capabilities && has_bit capabilities 1 5

abbrev pub reports : List ℕ → ResultSet → Bool
reports capabilities ErrorRatio = has_bit capabilities 2 0
reports capabilities (Counters side quad) = has_bit capabilities 2 1
reports capabilities (SignalToNoise Host) = has_bit capabilities 2 4
reports capabilities (SignalToNoise Media) = has_bit capabilities 2 5
reports capabilities GatedErrorRatio = has_gated_results capabilities && has_bit capabilities 2 0
reports capabilities (GatedCounters side quad) = has_gated_results capabilities && has_bit capabilities 2 1

-- ---- bits of a control

abbrev pub supports : List ℕ → Control → ℕ → ℕ → Bool
supports capabilities (Enable unit) mask bits = true
supports capabilities (Invert unit) mask bits = true
supports capabilities (ByteSwap unit) mask bits = true
supports capabilities (SideOfFec unit) mask bits = true
supports capabilities (Pattern unit pair) mask bits = supports_patterns capabilities unit mask bits
supports capabilities (control.Loopback loopback) mask bits = supports_loopback capabilities loopback mask bits
supports capabilities Measurement mask bits = supports_measurement capabilities (bit_and bits mask)
