use Rattle.std.proofs.Common.{refl}
use Rattle.std.proofs.lemmas.Str.Ascii.{trim_ascii_is}
use Rattle.applications.specs.WeightLines.{trimmed}
use Rattle.command_line.proofs.remark.line_pieces.trimmed.Goals as goal

pub returns : goal.returns
unfolding trimmed
returns c = trim_ascii_is c.args.bytes.now c.trim_ascii.result.now _ refl c.trim_ascii.ensures.value
