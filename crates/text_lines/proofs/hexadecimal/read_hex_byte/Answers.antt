use Rattle.std.proofs.Common.{arith}
use Rattle.text_lines.proofs.HexDigits.{spelled_length}
use Rattle.text_lines.proofs.hexadecimal.read_hex_byte.Goals as goal

pub returns-in_default : goal.returns-in_default
returns-in_default c = λ byte fits spelled. omega (arith, c.in_default.len_below, spelled_length c.args.word.now byte fits spelled)

pub returns-in_default-2 : goal.returns-in_default-2
returns-in_default-2 c = λ byte fits spelled. omega (arith, c.in_default.len_at_least, spelled_length c.args.word.now byte fits spelled)
