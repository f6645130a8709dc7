use Rattle.std.proofs.Common.{ℕ, Option, length, ap, ◌∙◌}
use Rattle.std.specs.Prelude.{unwrap_or}
use Rattle.text_lines.specs.Lines.{is_lf}
use Rattle.text_lines.proofs.LineEnds.{place_or_length}
use Rattle.text_lines.proofs.lines.line_len.Goals as goal

pub returns-clause-value : goal.returns-clause-value
returns-clause-value c =
    let text = c.args.text.now in
    c.unwrap_or.ensures ∙ ap (λ (found : Option ℕ). unwrap_or found (length text)) c.find_lf.ensures.place ∙ place_or_length is_lf text
