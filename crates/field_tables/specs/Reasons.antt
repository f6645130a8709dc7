-- Why a module's memory is refused: reasons, each with its fault, judged in order. (docs/formats.md, "Faults"; this
-- project's own)
use Rattle.std.specs.Prelude.{ℕ, ◌==◌, Bool, not, List, map, Option}
use Rattle.paged_memory.specs.declared.family.Family.{Family}
use Rattle.paged_memory.specs.declared.key.Key.{Key}
use Rattle.paged_memory.specs.Families.{is_of}
use Rattle.paged_memory.specs.Images.{Memory}
use Rattle.field_tables.specs.declared.field.Field.{Field}
use Rattle.field_tables.specs.declared.field.Sum.{Sum}
use Rattle.field_tables.specs.FirstFault.{first_fault}
use Rattle.field_tables.specs.Halves.{is_absent}
use Rattle.field_tables.specs.Readings.{is_sum_right, number}

pub data Reason (F : Type 0) : Type 0 where
  -- this half isn't there
  lacks : Key → F → Reason F
  -- the number of this field is one of these; the fault may name it
  tells : Field → (ℕ → Bool) → (ℕ → F) → Reason F
  -- this sum is wrong
  wrong : Sum → F → Reason F

-- the identifier, which stands in this field, is of no module of the family
abbrev pub of_another : {F : Type 0} → Family → Field → (ℕ → F) → Reason F
of_another family field fault = tells field (λ (id : ℕ). not (is_of family id)) fault

abbrev pub if_set : {F : Type 0} → Field → F → Reason F
if_set field fault = tells field (λ (n : ℕ). n == 1) (λ n. fault)

abbrev pub if_clear : {F : Type 0} → Field → F → Reason F
if_clear field fault = tells field (λ (n : ℕ). not (n == 1)) (λ n. fault)

-- whether it applies, and its fault
abbrev pub judged : {F : Type 0} → Memory → Reason F → Bool × F
judged memory (lacks key fault) = (is_absent memory key, fault)
judged memory (tells field is_one fault) = (is_one (number memory field), fault (number memory field))
judged memory (wrong sum fault) = (not (is_sum_right memory sum), fault)

-- the fault of the first that applies
abbrev pub refused_by : {F : Type 0} → Memory → List (Reason F) → Option F
refused_by memory reasons = first_fault (map (judged memory) reasons)
