use Rattle.std.proofs.Common.{ℕ, List, drop, length, sym, ap, ◌∙◌, arith}
use Rattle.plan_certificate.proofs.ReadLines.{first_of_rest, has_last, last_behind, potential_is, potential_read, whole_rest}
use Rattle.plan_certificate.proofs.certificate.bounds.potential_at.Goals as goal

pub slice_bounds-read_decimal-count : goal.slice_bounds-read_decimal-count
slice_bounds-read_decimal-count c =
    let line = first_of_rest c.args.text.now c.args.at c.in-Some.line.now _ c.in-Some.ensures.lines ∙ c.requires.line in
    omega (arith, ap (λ (l : List ℕ). length l) line, has_last c.requires.entry c.requires.in_range)

pub slice_bounds-read_decimal-start : goal.slice_bounds-read_decimal-start
slice_bounds-read_decimal-start c =
    let line = first_of_rest c.args.text.now c.args.at c.in-Some.line.now _ c.in-Some.ensures.lines ∙ c.requires.line in
    omega (arith, ap (λ (l : List ℕ). length l) line, has_last c.requires.entry c.requires.in_range)

pub returns-in-Some : goal.returns-in-Some
returns-in-Some c =
    let line = first_of_rest c.args.text.now c.args.at c.in-Some.line.now _ c.in-Some.ensures.lines ∙ c.requires.line in
    c.unwrap_or.ensures
    ∙ potential_read c.requires.entry _ c.read_decimal.result c.requires.in_range c.read_decimal.ensures (whole_rest 11 c.in-Some.line.now ∙ ap (drop 11) line ∙ last_behind c.requires.entry c.requires.in_range)
    ∙ sym (potential_is c.args.text.now c.args.at c.requires.entry c.requires.in_range c.requires.line)
