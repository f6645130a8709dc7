use Rattle.std.proofs.Common.{◌≡◌, ◌∷◌, string_bytes}
use Rattle.command_line.proofs.choice.plain.plain_request.Goals as goal

pub returns : goal.returns
returns c =
    let first : c.args.words.now ≡ c.in_ok-_program._program.now ∷ c.in_ok-_program.words.now = c.in_ok-_program.ensures.cases.0 in
    let second : c.in_ok-_program.words.now ≡ c.in_ok-name.name.now ∷ c.in_ok-name.flags.now = c.in_ok-name.ensures.cases.0 in
    rw (first, second) (rw c.deref.ensures at (c.named.ensures (string_bytes c.in_ok-_program._program.now)))
