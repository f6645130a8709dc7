-- How much is read of an input (docs/formats.md, "Input and output"; this project's own).
use Rattle.std.specs.Prelude.{ℕ}

-- the most bytes of an input
abbrev pub input_limit : ℕ
input_limit = 1048576

-- the most reads that are made for it
abbrev pub read_limit : ℕ
read_limit = 2097152
