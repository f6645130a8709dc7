use Rattle.std.proofs.Common.{◌-◌}
use Rattle.std.specs.Io.KnownBytes.{Keeps}
use Rattle.command_line.specs.CountedReader.{reads_of, remaining_of}
use Rattle.command_line.specs.Limits.{read_limit}
use Rattle.command_line.proofs.input.read_retrying.Given as goal

-- interruptions take no byte
abbrev pub invariant-loop-count : goal.invariant-loop-count
invariant-loop-count g l = Keeps (remaining_of g.R.Read.remaining l.initial.reader) (remaining_of g.R.Read.remaining l.reader)

-- the reads that are left
abbrev pub decreases-loop-count : goal.decreases-loop-count
decreases-loop-count g l = read_limit - reads_of l.reader
