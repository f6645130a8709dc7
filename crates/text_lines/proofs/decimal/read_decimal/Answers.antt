use Rattle.std.proofs.Common.{◌≡◌, sym, ◌∙◌, arith}
use Rattle.std.proofs.lemmas.Fmt.{decimal_injective}
use Rattle.text_lines.proofs.decimal.read_decimal.Goals as goal

pub returns-else-number-limit : goal.returns-else-number-limit
returns-else-number-limit c = λ n within spelled.
    let read = c.in-Some.ensures in
    let same : n ≡ c.in-Some.number = decimal_injective n _ (omega arith) read.0 (sym spelled ∙ read.1) in
    omega arith
