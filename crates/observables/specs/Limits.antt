-- The limits of observables, and which of them were passed. Instances are counted from 0. (OIF-CMIS-05.0, "VDM Thresholds", pages
-- 28h to 2Bh, sixteen sets for each group; "VDM Flags", page 2Ch)
use Rattle.std.specs.Prelude.{ℕ, ◌+◌, ◌*◌, ◌/◌, ◌%◌, ◌==◌, Bool, if◌then◌else◌, List, Option, option_map}
use Rattle.paged_memory.specs.Images.{Memory}
use Rattle.field_tables.specs.declared.readings.PerLimit.{PerLimit}
use Rattle.observables.specs.Words.{page_of, byte_in, word_in}

-- a set takes eight bytes
abbrev pub limits_in : List ℕ → ℕ → PerLimit ℕ
limits_in bytes set = record {
  high_alarm = word_in bytes (128 + 8 * set);
  low_alarm = word_in bytes (128 + 8 * set + 2);
  high_warning = word_in bytes (128 + 8 * set + 4);
  low_warning = word_in bytes (128 + 8 * set + 6);
}

abbrev pub limits_in_set : Memory → ℕ → ℕ → ℕ → Option (PerLimit ℕ)
limits_in_set memory bank group set = option_map (λ bytes. limits_in bytes set) (page_of memory bank (0x28 + group))

-- two instances to a byte, the first of them in its lower four bits
abbrev pub nibble_in : List ℕ → ℕ → ℕ
nibble_in bytes instance =
    if instance % 2 == 0 then byte_in bytes (128 + instance / 2) % 16 else byte_in bytes (128 + instance / 2) / 16

-- the bit that counts so much is 1
abbrev pub has_bit : ℕ → ℕ → Bool
has_bit nibble weight = nibble / weight % 2 == 1

abbrev pub flags_in : List ℕ → ℕ → PerLimit Bool
flags_in bytes instance = record {
  high_alarm = has_bit (nibble_in bytes instance) 1;
  low_alarm = has_bit (nibble_in bytes instance) 2;
  high_warning = has_bit (nibble_in bytes instance) 4;
  low_warning = has_bit (nibble_in bytes instance) 8;
}

abbrev pub flags_of : Memory → ℕ → ℕ → Option (PerLimit Bool)
flags_of memory bank instance = option_map (λ bytes. flags_in bytes instance) (page_of memory bank 0x2C)
