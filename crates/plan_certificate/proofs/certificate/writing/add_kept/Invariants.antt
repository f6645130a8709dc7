use Rattle.std.proofs.Common.{◌≡◌, ◌+◌, ◌*◌, ◌≤◌, ◌++◌, length, take, map}
use Rattle.std.specs.List.{AllByRecursion}
use Rattle.text_lines.specs.Lines.{text_of}
use Rattle.plan_certificate.specs.declared.line.Line.TheVariants.{KeepLine}
use Rattle.plan_certificate.specs.CertificateText.{line_text, IsPathInRange}
use Rattle.plan_certificate.proofs.certificate.writing.add_kept.Given as goal

-- the lines of the paths so far
abbrev pub invariant-loop-path : goal.invariant-loop-path
invariant-loop-path l = record {
  written : l.head.items ≡ l.fn.head.items ++ text_of (map line_text (map (λ path. KeepLine path) (take l.path-index l.paths)));
  small : length l.head.items ≤ length l.fn.head.items + 17 * l.path-index;
  each : AllByRecursion IsPathInRange (take l.path-index l.paths);
}
