use Rattle.std.proofs.Common.{List, ℕ, ◌∙◌, sym, subst}
use Rattle.text_lines.specs.Lines.{lines_of}
use Rattle.plan_certificate.specs.CertificateText.{IsTextOf}
use Rattle.plan_certificate.proofs.WrittenCertificates.{is_readable, whole_text, written_lines}
use Rattle.plan_certificate.proofs.certificate.Certificate.write.Goals as goal

pub returns-clause-readable : goal.returns-clause-readable
returns-clause-readable g c =
    let head = c.head_of-head.ensures in
    let entries = c.in_ok-write_entries.ensures in
    rw (← c.self.view_is) (is_readable g.row.STATES _ head.small head.kept_in_range head.paths_in_range entries.each c.self.invariant head.few_kept head.few_paths entries.few)

pub returns-clause-written : goal.returns-clause-written
returns-clause-written g c =
    let head = c.in_ok-text.ensures.items ∙ c.as_slice.ensures.value ∙ c.head_of-head.ensures.written in
    let end = rw c.end_line.ensures at c.in_ok-extend_from_slice.ensures.items in
    rw (← c.self.view_is) (whole_text _ _ _ _ head c.in_ok-write_entries.ensures.written end)

pub returns-clause-read_back : goal.returns-clause-read_back
returns-clause-read_back g c =
    let readable = returns-clause-readable g c in
    subst (λ (text : List ℕ). IsTextOf g.row.STATES (lines_of text) c.args.self.now) (sym (returns-clause-written g c)) (written_lines g.row.STATES c.args.self.now readable)
