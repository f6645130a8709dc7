-- What a module can do in link tests, as numbers. (docs/lanes.md, "From C and Python"; OIF-CMIS-05.0, Module Performance Diagnostics
-- Control, page 13h, bytes 128 to 139; page 01h, byte 142)
use Rattle.std.specs.Prelude.{ℕ, ◌+◌, ◌*◌, ◌/◌, ◌%◌, nat_lt, List, slice_index, if◌then◌else◌}
use Rattle.std.specs.Int.{bit_at}
use Rattle.lane_controls.specs.Capabilities.{has_diagnostics}
use Rattle.saved_tests.specs.declared.link_capabilities.LinkCapabilities.{LinkCapabilities as Can}

abbrev pub bit : ℕ → ℕ → ℕ
bit byte i = bit_at byte i

-- bit n of the first byte is code n, of the second code 8 + n
abbrev pub patterns_at : List ℕ → ℕ → ℕ
patterns_at bytes i = slice_index bytes i + 256 * slice_index bytes (i + 1)

abbrev pub capabilities_by : List ℕ → Can
capabilities_by bytes = record {
  host_generator = patterns_at bytes 4;
  media_generator = patterns_at bytes 6;
  host_checker = patterns_at bytes 8;
  media_checker = patterns_at bytes 10;
  diagnostics = 1;
  loopbacks = slice_index bytes 0 % 16;
  single_host_lanes = bit (slice_index bytes 0) 4;
  single_media_lanes = bit (slice_index bytes 0) 5;
  both_sides = bit (slice_index bytes 0) 6;
  ratios = bit (slice_index bytes 2) 0;
  counts = bit (slice_index bytes 2) 1;
  host_noise = bit (slice_index bytes 2) 4;
  media_noise = bit (slice_index bytes 2) 5;
  gates = if nat_lt 0 (slice_index bytes 1 / 64) then 1 else 0;
}

abbrev pub no_capabilities : Can
no_capabilities = record {
  host_generator = 0;
  media_generator = 0;
  host_checker = 0;
  media_checker = 0;
  diagnostics = 0;
  loopbacks = 0;
  single_host_lanes = 0;
  single_media_lanes = 0;
  both_sides = 0;
  ratios = 0;
  counts = 0;
  host_noise = 0;
  media_noise = 0;
  gates = 0;
}

abbrev pub capabilities_of : ℕ → List ℕ → Can
capabilities_of advertised bytes = if has_diagnostics advertised then capabilities_by bytes else no_capabilities
