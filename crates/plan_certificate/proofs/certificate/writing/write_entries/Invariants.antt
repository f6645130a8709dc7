use Rattle.std.proofs.Common.{◌≡◌, ◌-◌, ◌++◌, ℕ, length, take, map}
use Rattle.std.specs.List.{AllByRecursion}
use Rattle.text_lines.specs.Lines.{text_of}
use Rattle.plan_certificate.specs.declared.line.Line.TheVariants.{StateLine}
use Rattle.plan_certificate.specs.CertificateText.{line_text, IsEntryInRange}
use Rattle.plan_certificate.specs.EntryPlaces.{IsNext}
use Rattle.plan_certificate.proofs.certificate.writing.write_entries.Given as goal

-- the state lines of the entries so far
abbrev pub invariant-loop-entry : goal.invariant-loop-entry
invariant-loop-entry g l = (number : ℕ) × IsNext l.entries.entries number l.from
    × (l.text.items ≡ l.fn.text.items ++ text_of (map line_text (map (λ entry. StateLine entry) (take number l.entries.entries))))
    × AllByRecursion IsEntryInRange (take number l.entries.entries)

abbrev pub decreases-loop-entry : goal.decreases-loop-entry
decreases-loop-entry g l = 2304 - l.from
