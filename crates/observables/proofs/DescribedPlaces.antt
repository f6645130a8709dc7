-- The places of the instances that a page describes: none has an observation if the page is absent, and none that is unused.
use Rattle.std.proofs.Common.{◌≡◌, ◌<◌, ◌≤◌, ◌∙◌, ℕ, ◌+◌, ◌-◌, ◌*◌, ◌/◌, ◌%◌, Option, Some, None, List, Bool, true, false, if◌then◌else◌, option_map, ap, refl, arith}
use Rattle.std.specs.Prelude.{option_and_then}
use Rattle.paged_memory.specs.Images.{Memory}
use Rattle.paged_memory.specs.declared.family.Family.TheVariants.{Cmis}
use Rattle.field_tables.specs.declared.field.Field.TheVariants as fields
use Rattle.field_tables.specs.declared.table.cmis.CmisField.TheVariants as cmis
use Rattle.field_tables.specs.Readings.{number}
use Rattle.paged_memory.specs.Families.{is_family, managed_by}
use Rattle.observables.specs.declared.descriptor.Descriptor.{Descriptor}
use Rattle.observables.specs.Descriptors.{descriptor_of}
use Rattle.observables.specs.Instances.{descriptor_at, instance_at, instance_with}
use Rattle.observables.specs.Observables.{observable_of}
use Rattle.observables.specs.Observations.{all_places, decoded, monitor_places, observation_at, observed, with_instance}
use Rattle.observables.specs.Words.{byte_in, page_of, word_in}
use Rattle.observables.proofs.PlacesOfList.{at_instance, below, not_below}

-- ---- an instance

abbrev words_descriptor : ℕ → Option Descriptor
words_descriptor word = descriptor_of (word / 256) (word % 256)

not_decoded : (memory : Memory) (bank n : ℕ) → descriptor_at memory bank n ≡ None → decoded memory bank n ≡ None
unfolding instance_at
not_decoded memory bank n unused =
    ap (λ (found : Option Descriptor). option_and_then (λ instance. option_map (with_instance memory bank instance) (observable_of instance.descriptor.kind))
    (option_map (instance_with memory bank n) found)) unused

not_observed : (memory : Memory) (bank n : ℕ) → descriptor_at memory bank n ≡ None → observed memory bank n ≡ None
not_observed memory bank n unused = by (is_family Cmis (managed_by (number memory (fields.Cmis cmis.Identifier)))) where
  by : (listed : Bool) → (if listed then decoded memory bank n else None) ≡ None
  by true = not_decoded memory bank n unused
  by false = refl

absent_descriptor : (memory : Memory) (bank n : ℕ) → page_of memory bank (32 + n / 64) ≡ None → descriptor_at memory bank n ≡ None
unfolding descriptor_at
absent_descriptor memory bank n absent =
    ap (λ (page : Option (List ℕ)). option_and_then words_descriptor (option_map (λ bytes. word_in bytes (128 + 2 * (n % 64))) page)) absent

unused_descriptor : (memory : Memory) (bank n : ℕ) (bytes : List ℕ) → page_of memory bank (32 + n / 64) ≡ Some bytes → byte_in bytes (129 + 2 * (n % 64)) ≡ 0
    → descriptor_at memory bank n ≡ None
unfolding descriptor_at
unused_descriptor memory bank n bytes there unused =
    let word : ℕ = word_in bytes (128 + 2 * (n % 64)) in
    let last : byte_in bytes (128 + 2 * (n % 64) + 1) ≡ 0 = ap (λ (address : ℕ). byte_in bytes address) (omega arith) ∙ unused in
    let kind : word % 256 ≡ 0 = omega (arith, last) in
    ap (λ (page : Option (List ℕ)). option_and_then words_descriptor (option_map (λ bytes. word_in bytes (128 + 2 * (n % 64))) page)) there
    ∙ ap (λ (k : ℕ). descriptor_of (word / 256) k) kind

-- ---- a place

at_place : (memory : Memory) (page k : ℕ) → page < 16 → monitor_places + 64 * page ≤ k → k < monitor_places + 64 * (page + 1)
    → observation_at memory k ≡ observed memory (page / 4) ((k - monitor_places) % 256)
at_place memory page k few from to =
    at_instance memory k (page / 4) ((k - monitor_places) % 256) (not_below k monitor_places (omega (arith, from))) (below k all_places (omega (arith, few, to))) (omega (arith, from, to)) refl

pub absent : (memory : Memory) (page : ℕ) → page < 16 → page_of memory (page / 4) (32 + page % 4) ≡ None
    → (k : ℕ) → monitor_places + 64 * page ≤ k → k < monitor_places + 64 * (page + 1) → observation_at memory k ≡ None
absent memory page few is k from to =
    let group : page % 4 ≡ (k - monitor_places) % 256 / 64 = omega (arith, from, to) in
    at_place memory page k few from to
    ∙ not_observed memory (page / 4) ((k - monitor_places) % 256) (absent_descriptor memory (page / 4) ((k - monitor_places) % 256)
    (ap (λ (g : ℕ). page_of memory (page / 4) (32 + g)) (omega (arith, group)) ∙ is))

pub unused : (memory : Memory) (page : ℕ) (bytes : List ℕ) → page < 16 → page_of memory (page / 4) (32 + page % 4) ≡ Some bytes
    → (k : ℕ) → monitor_places + 64 * page ≤ k → k < monitor_places + 64 * (page + 1) → byte_in bytes (129 + 2 * (k % 64)) ≡ 0 → observation_at memory k ≡ None
unused memory page bytes few is k from to zero =
    let group : page % 4 ≡ (k - monitor_places) % 256 / 64 = omega (arith, from, to) in
    let of_page : (k - monitor_places) % 256 % 64 ≡ k % 64 = omega (arith, from) in
    at_place memory page k few from to
    ∙ not_observed memory (page / 4) ((k - monitor_places) % 256) (unused_descriptor memory (page / 4) ((k - monitor_places) % 256) bytes
    (ap (λ (g : ℕ). page_of memory (page / 4) (32 + g)) (omega (arith, group)) ∙ is)
    (ap (λ (i : ℕ). byte_in bytes (129 + 2 * i)) of_page ∙ zero))
