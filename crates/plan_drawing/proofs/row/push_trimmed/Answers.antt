use Rattle.std.proofs.Common.{◌≡◌, ◌++◌, ◌∷◌, [], List, ℕ, ap, ◌∙◌, append_assoc}
use Rattle.std.proofs.lemmas.Str.Ascii.{trim_ascii_end_is}
use Rattle.plan_drawing.specs.Picture.{trimmed}
use Rattle.plan_drawing.proofs.row.push_trimmed.Goals as goal

pub returns : goal.returns
unfolding trimmed
returns c =
    let line = c.args.line.now in
    let is : c.trim_ascii_end.result.now ≡ trimmed line = trim_ascii_end_is line c.trim_ascii_end.result.now c.trim_ascii_end.ensures.value in
    c.in_ok-push.ensures.items
    ∙ ap (λ (before : List ℕ). before ++ 10 ∷ []) (c.in_ok-extend_from_slice.ensures.items ∙ ap (λ (more : List ℕ). c.args.out.now.items ++ more) is)
    ∙ append_assoc c.args.out.now.items (trimmed line) (10 ∷ [])
