-- The instances of observables of a bank, counted from 0: a descriptor, a sample, limits and flags of each.
-- (OIF-CMIS-05.0, "Versatile Diagnostics Monitoring", pages 20h to 2Ch: a group of 64 instances to a page)
use Rattle.std.specs.Prelude.{◌≡◌, ℕ, ◌+◌, ◌*◌, ◌/◌, ◌%◌, ◌<◌, ◌≤◌, Option, Some, None, option_map, option_and_then, option_to_list, zero, suc, List, [], ◌++◌}
use Rattle.paged_memory.specs.Images.{Memory}
use Rattle.observables.specs.declared.descriptor.Descriptor.{Descriptor}
use Rattle.observables.specs.declared.instance.Instance.{Instance}
use Rattle.observables.specs.Descriptors.{descriptor_of}
use Rattle.observables.specs.Limits.{flags_of, limits_in_set}
use Rattle.observables.specs.Words.{page_of, word_in}

-- the word of an instance, where the page of the first group is this one
abbrev pub word_of : Memory → ℕ → ℕ → ℕ → Option ℕ
word_of memory bank first number =
    option_map (λ bytes. word_in bytes (128 + 2 * (number % 64))) (page_of memory bank (first + number / 64))

unfoldable pub descriptor_at : Memory → ℕ → ℕ → Option Descriptor
descriptor_at memory bank number = option_and_then (λ word. descriptor_of (word / 256) (word % 256)) (word_of memory bank 0x20 number)

-- the instance whose descriptor is this one
abbrev pub instance_with : Memory → ℕ → ℕ → Descriptor → Instance
instance_with memory bank number descriptor = record {
  number = number;
  descriptor = descriptor;
  sample = word_of memory bank 0x24 number;
  limits = limits_in_set memory bank (number / 64) descriptor.set;
  flags = flags_of memory bank number;
}

unfoldable pub instance_at : Memory → ℕ → ℕ → Option Instance
instance_at memory bank number = option_map (instance_with memory bank number) (descriptor_at memory bank number)

-- those below a number that are used, by rising number
unfoldable pub instances_before : Memory → ℕ → ℕ → List Instance
instances_before memory bank zero = []
instances_before memory bank (suc number) = instances_before memory bank number ++ option_to_list (instance_at memory bank number)

-- the first from a number on that is used
pub record IsNextInstance (memory : Memory) (bank from : ℕ) (found : Instance) : Type 0 where
  pub is_used : instance_at memory bank found.number ≡ Some found
  pub not_before : from ≤ found.number
  pub first : (k : ℕ) → from ≤ k → k < found.number → instance_at memory bank k ≡ None
