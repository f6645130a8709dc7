use Rattle.std.proofs.Common.{◌/◌, ◌%◌, ◌∷◌, [], refl, arith}
use Rattle.text_lines.proofs.HexDigits.{byte_spelled, spelled_first, spelled_second}
use Rattle.text_lines.proofs.hexadecimal.byte_of.Goals as goal

pub returns-in_default : goal.returns-in_default
returns-in_default c = λ byte fits spelled. c.in_default.ensures (byte / 16) (omega (arith, fits)) (spelled_first (c.args.high ∷ c.args.low ∷ []) byte fits spelled)

pub returns-in_default-value_of : goal.returns-in_default-value_of
returns-in_default-value_of c = λ byte fits spelled. c.in_default-value_of.ensures (byte % 16) (omega arith) (spelled_second (c.args.high ∷ c.args.low ∷ []) byte fits spelled)

pub returns : goal.returns
returns c =
    let word = c.args.high ∷ c.args.low ∷ [] in
    let high = c.in-Some.ensures in
    let low = c.in-Some-value_of.ensures in
    (omega (arith, high.0, low.0), byte_spelled word c.in-Some.high c.in-Some-value_of.low refl high low)
