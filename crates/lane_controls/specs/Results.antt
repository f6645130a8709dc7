-- What page 14h shows of a link test in its bytes 132 to 139 and 192 to 255. (docs/lanes.md; OIF-CMIS-05.0, Module Performance Diagnostics
-- Results, page 14h)
use Rattle.std.specs.Prelude.{ℕ, ◌+◌, ◌-◌, ◌*◌, ◌/◌, ◌%◌, ◌==◌, List, drop, slice_index}
use Rattle.byteorder.specs.Endian.{big_number, little_number}
use Rattle.lane_controls.specs.declared.results.Counts.{Counts}
use Rattle.lane_controls.specs.declared.results.Endian.{Endian}
use Rattle.lane_controls.specs.declared.results.Endian.TheVariants.{Little, Big}
use Rattle.lane_controls.specs.declared.results.LockLosses.{LockLosses}
use Rattle.lane_controls.specs.declared.results.Ratio.{Ratio}
use Rattle.lane_controls.specs.declared.result_set.Side.{Side}
use Rattle.lane_controls.specs.declared.result_set.Side.TheVariants.{Host, Media}

-- the number in so many bytes from a place on
abbrev pub number_at : Endian → ℕ → ℕ → List ℕ → ℕ
number_at Little count place results = little_number count (drop place results)
number_at Big count place results = big_number count (drop place results)

-- bits 15 to 11 are the exponent, bits 10 to 0 the mantissa
abbrev pub ratio_of : ℕ → Ratio
ratio_of word = record { mantissa = word % 2048; exponent = word / 2048 }

-- two bytes for each lane: host lanes first, then media lanes
abbrev pub place_of_ratio : Side → ℕ → ℕ
place_of_ratio Host lane = 2 * (lane - 1)
place_of_ratio Media lane = 16 + 2 * (lane - 1)

abbrev pub place_of_noise : Side → ℕ → ℕ
place_of_noise Host lane = 16 + 2 * (lane - 1)
place_of_noise Media lane = 48 + 2 * (lane - 1)

-- sixteen bytes for each: how many errors, and of how many bits
abbrev pub place_of_counts : ℕ → ℕ
place_of_counts lane = 16 * ((lane - 1) % 4)

abbrev pub counts_of : Endian → ℕ → List ℕ → Counts
counts_of order lane results = record { errors = number_at order 8 (place_of_counts lane) results; bits = number_at order 8 (place_of_counts lane + 8) results }

-- of eight bytes from 132 on: bit 7 of the first, and the last four
abbrev pub lock_losses : List ℕ → LockLosses
lock_losses flags = record {
  reference_clock = slice_index flags 0 / 128 == 1;
  host_generator = slice_index flags 4;
  media_generator = slice_index flags 5;
  host_checker = slice_index flags 6;
  media_checker = slice_index flags 7;
}
