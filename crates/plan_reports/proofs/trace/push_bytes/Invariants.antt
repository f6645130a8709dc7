use Rattle.std.proofs.Common.{◌≡◌, ◌++◌, take}
use Rattle.report_entries.specs.Shown.{spaced_bytes}
use Rattle.plan_reports.proofs.trace.push_bytes.Given as goal

-- the bytes so far
abbrev pub invariant-loop-byte : goal.invariant-loop-byte
invariant-loop-byte l = l.text.items ≡ l.fn.text.items ++ spaced_bytes (take l.byte-index l.bytes)
