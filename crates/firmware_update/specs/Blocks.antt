-- A firmware file in blocks: its first bytes go with the Start, the others in blocks, each at its address among them.
-- (OIF-CMIS-05.0, CMD 0101h and CMD 0103h)
use Rattle.std.specs.Prelude.{ℕ, ◌-◌, min}

-- how many bytes the block at an address has
abbrev pub block_length : ℕ → ℕ → ℕ → ℕ
block_length size header address = min (size - address - header) 116
