use Rattle.std.proofs.Common.{◌≡◌, ◌∙◌, ◌++◌, ◌∷◌, [], rules, ap, sym, append_assoc}
use Rattle.text_lines.proofs.SpacedWords.{spaced_more}
use Rattle.text_lines.proofs.printed_words.PrintedWords.line_after.Goals as goal

pub loop-word-preserved : goal.loop-word-preserved
loop-word-preserved c =
    let line = c.loop-word.line.items in
    let word = c.word-item.result.items in
    let more = spaced_more (λ word. word.items) c.args.first.now c.as_slice-word-items.result.now c.loop-word.word-index c.word-item.result c.loop-word-test.true in
    let written : c.try_extend_from_slice.new.self.items ≡ (line ++ 32 ∷ []) ++ word = search rules in (
      written ∙ (append_assoc line (32 ∷ []) word ∙ (ap (λ text. text ++ 32 ∷ word) c.loop-word.invariant.0 ∙ (search (rules, sym more)))),
      search rules,
    )
