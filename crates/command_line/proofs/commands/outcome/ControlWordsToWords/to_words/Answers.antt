use Rattle.std.proofs.Common.{◌≡◌, length, rules, sym}
use Rattle.command_line.proofs.ProcedureAnswers.{eight_words}
use Rattle.command_line.proofs.commands.outcome.ControlWordsToWords.to_words.Goals as goal

pub returns-clause-words : goal.returns-clause-words
returns-clause-words c =
    let eight : length c.args.self.now.0 ≡ 8 = search rules in
    rw (c.and-7.ensures.words, c.and-6.ensures.words, c.and-5.ensures.words, c.and-4.ensures.words, c.and-3.ensures.words, c.and-2.ensures.words, c.and.ensures.words, c.to_words.ensures.words)
    (sym (eight_words c.args.self.now.0 eight))
