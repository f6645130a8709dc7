-- What a clause reads of a `StoppingWriter`: the writer within, and whether a write failed. (docs/formats.md, "Input and
-- output"; this project's own)
use Rattle.std.specs.Prelude.{ℕ, Bool, List, Option}
use Rattle.command_line.specs.declared.output.stopping_writer.StoppingWriter.{StoppingWriter}

-- the writer within
abbrev pub inner_of : {W : Type 0} → StoppingWriter W → W
inner_of writer = writer.inner

-- whether a write failed
abbrev pub writing_failed : {W : Type 0} → StoppingWriter W → Bool
writing_failed writer = writer.failed

-- the bytes that the writer holds, if they are known
abbrev pub contents_of : {W : Type 0} → (W → Option (List ℕ)) → StoppingWriter W → Option (List ℕ)
contents_of contents writer = contents writer.inner
