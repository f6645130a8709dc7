use Rattle.std.proofs.Common.{◌≤◌, ◌-◌, vec_len}
use Rattle.std.specs.Io.KnownBytes.{Consumes}
use Rattle.command_line.specs.CountedReader.{remaining_of}
use Rattle.command_line.specs.Limits.{input_limit}
use Rattle.command_line.proofs.input.read_input.Given as goal

-- the bytes so far are those that were taken from the reader, within the limit
abbrev pub invariant-loop-bytes : goal.invariant-loop-bytes
invariant-loop-bytes g l = record {
  taken : Consumes (remaining_of g.R.Read.remaining l.initial.reader) (remaining_of g.R.Read.remaining l.reader) l.bytes.items;
  within : vec_len l.bytes ≤ input_limit;
}

-- the bytes that are still within the limit
abbrev pub decreases-loop-bytes : goal.decreases-loop-bytes
decreases-loop-bytes g l = input_limit - vec_len l.bytes
