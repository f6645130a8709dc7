use Rattle.std.proofs.Common.{◌≡◌, ◌≤◌, ◌+◌, ◌*◌, ◌++◌, drop, length}
use Rattle.text_lines.specs.Lines.{lines_of}
use Rattle.plan_certificate.specs.CertificateDrafts.{lines_so_far, text_so_far, IsDraft}
use Rattle.plan_certificate.specs.ReadLines.{claim_of}
use Rattle.plan_certificate.proofs.certificate.reading.read_lines.Given as goal

-- the lines so far, counted, and those that are left, and where these begin
abbrev pub invariant-loop-line : goal.invariant-loop-line
invariant-loop-line g l = record {
  drafted : IsDraft g.row.STATES l.stage (claim_of l.head l.entries.entries);
  counted : l.number ≡ length (lines_so_far l.stage (claim_of l.head l.entries.entries));
  bounded : l.number + length l.rest ≤ length l.text;
  lines_are : lines_of l.text ≡ text_so_far l.stage (claim_of l.head l.entries.entries) ++ lines_of l.rest;
  text : l.entries.text ≡ l.text;
  left : l.rest ≡ drop l.at l.text;
  near : l.at ≤ 32 * l.number;
  within : l.at ≤ length l.text + 1;
}

abbrev pub decreases-loop-line : goal.decreases-loop-line
decreases-loop-line g l = length l.rest
