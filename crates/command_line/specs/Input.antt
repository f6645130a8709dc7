-- What the program reads: its whole input, or more than the limit of it (docs/formats.md, "Input and output"; this project's
-- own).
use Rattle.std.specs.Prelude.{◌≡◌, ◌+◌, ◌<◌, ◌≤◌, ℕ, Bool, true, false, List, length, Result, Ok, Err, Option, ⊤, Vec}
use Rattle.std.specs.declared.alloc.Global.{Global}
use Rattle.std.specs.Io.KnownBytes.{Consumes}
use Rattle.command_line.specs.declared.fault.Fault.{Fault}
use Rattle.command_line.specs.declared.fault.Fault.TheVariants.{Memory, Io, TooLong}
use Rattle.command_line.specs.Limits.{input_limit}

-- the answer is for this input: all of it if it is within the limit, `TooLong` only if it is not
abbrev pub IsReadOf : List ℕ → Result (Vec ℕ Global) Fault → Type 0
IsReadOf input (Ok bytes) = (bytes.items ≡ input) × (length input ≤ input_limit)
IsReadOf input (Err TooLong) = input_limit < length input
IsReadOf input (Err Io) = ⊤
IsReadOf input (Err Memory) = ⊤
-- the other faults are none of reading
IsReadOf input (Err f) = ⊥

-- these bytes are taken from the reader, at most one more than the limit; once that one has come, the input is too long,
-- whatever a further read would answer, so that none is made
pub record Takes (before after : Option (List ℕ)) (IsTooLong : Type 0) (taken : List ℕ) : Type 0 where
  pub consumed : Consumes before after taken
  pub within : length taken ≤ input_limit + 1
  pub at_once : input_limit < length taken → IsTooLong

abbrev pub TakesWithinLimit : Option (List ℕ) → Option (List ℕ) → Type 0 → Type 0
TakesWithinLimit before after IsTooLong = (taken : List ℕ) × Takes before after IsTooLong taken

-- the answer is `Io` exactly if a read has failed
abbrev pub AnswersFailure : {T : Type 0} → Bool → Result T Fault → Type 0
AnswersFailure failed (Ok _) = failed ≡ false
AnswersFailure failed (Err Io) = failed ≡ true
AnswersFailure failed (Err f) = failed ≡ false
