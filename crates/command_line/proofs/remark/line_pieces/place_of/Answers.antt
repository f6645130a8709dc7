use Rattle.std.proofs.Common.{ℕ, ◌==◌, Option, length, ap, ◌∙◌, unwrap_or}
use Rattle.command_line.proofs.OddLineLemmas.{place_is}
use Rattle.command_line.proofs.remark.line_pieces.place_of.Goals as goal

pub returns-clause-place : goal.returns-clause-place
returns-clause-place c =
    let bytes = c.args.bytes.now in
    c.unwrap_or.ensures ∙ ap (λ (found : Option ℕ). unwrap_or found (length bytes)) c.find_byte.ensures.place ∙ place_is (λ byte. byte == c.args.at) bytes
