-- What a clause reads of a `CountedReader`: the reader within, how often it was read, and whether a read failed.
-- (docs/formats.md, "Input and output"; this project's own)
use Rattle.std.specs.Prelude.{◌≡◌, ◌⊎◌, ℕ, Bool, true, List, Option}
use Rattle.command_line.specs.declared.input.counted_reader.CountedReader.{CountedReader}
use Rattle.command_line.specs.Limits.{read_limit}

-- the reader that is counted
abbrev pub inner_of : {R : Type 0} → CountedReader R → R
inner_of reader = reader.inner

-- how many reads were made
abbrev pub reads_of : {R : Type 0} → CountedReader R → ℕ
reads_of reader = reader.reads

-- whether a read failed
abbrev pub reading_failed : {R : Type 0} → CountedReader R → Bool
reading_failed reader = reader.failed

-- the reader within is not read any more
abbrev pub IsSpent : {R : Type 0} → CountedReader R → Type 0
IsSpent reader = (reading_failed reader ≡ true) ⊎ (reads_of reader ≡ read_limit)

-- the bytes that the reader has left, if they are known
abbrev pub remaining_of : {R : Type 0} → (R → Option (List ℕ)) → CountedReader R → Option (List ℕ)
remaining_of remaining reader = remaining reader.inner
