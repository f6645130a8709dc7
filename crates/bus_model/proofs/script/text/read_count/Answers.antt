use Rattle.std.proofs.Common.{sym, ◌∙◌, arith}
use Rattle.bus_model.proofs.DirectiveWords.{same_number}
use Rattle.bus_model.proofs.script.text.read_count.Goals as goal

pub returns-in-Some-eq0 : goal.returns-in-Some-eq0
returns-in-Some-eq0 c = λ n positive fits spelled.
    let none = c.in-Some-eq0 in
    let zero = same_number none.field-0 n (omega (arith, none.ensures.0)) (omega (arith, fits)) (sym none.ensures.1 ∙ spelled) in
    omega (arith, zero, none.field-0-is, positive)
