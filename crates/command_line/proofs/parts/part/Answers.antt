use Rattle.std.proofs.lemmas.Iterator.Consumers.{YieldsList-from_first, nth_from_yields_List}
use Rattle.command_line.specs.Parts.{parts_left, parts_of}
use Rattle.command_line.proofs.parts.part.Goals as goal

pub returns : goal.returns
returns c =
    nth_from_yields_List c.before.nth.result c.nth.new.self c.args.number c.nth.ensures.ran
    (YieldsList-from_first (λ part. part.now) parts_left (parts_of c.args.input.now) c.of.ensures)
