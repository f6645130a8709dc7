use Rattle.std.proofs.Common.{◌≡◌, ◌∙◌, ◌++◌, append_assoc, rules}
use Rattle.std.specs.Fmt.{decimal}
use Rattle.plan_certificate.specs.CertificateText.{line_words}
use Rattle.plan_certificate.proofs.certificate.writing.entry_line.Goals as goal

pub returns-clause-written : goal.returns-clause-written
unfolding line_words
returns-clause-written c =
    let words : c.unwrap-line.result.items ≡ c.state_words.result = search rules in
    let first = words ∙ c.state_words.ensures in
    let second : c.try_extend_from_slice.new.self.items ≡ c.unwrap-line.result.items ++ decimal c.args.entry.potential = search rules in
    rw (c.push.ensures.items, second, first) (simp append_assoc)
