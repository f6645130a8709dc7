use Rattle.std.proofs.Common.{Result, subst, arith}
use Rattle.text_lines.specs.Lines.{lines_of}
use Rattle.applications.specs.declared.weights.lines.WeightLinesFault.{WeightLinesFault}
use Rattle.applications.specs.Weights.{TableWeights}
use Rattle.applications.specs.WeightLines.{IsAnswer}
use Rattle.firmware_api.proofs.ShortLines.{line_within}
use Rattle.firmware_api.proofs.weights.dovecounter_weights.Goals as goal

pub returns-in-Err-clause-short : goal.returns-in-Err-clause-short
returns-in-Err-clause-short c =
    let text = c.args.text.now in
    let stops = subst (λ (read : Result TableWeights WeightLinesFault). IsAnswer (lines_of text) read) c.in-Err.is c.read_weight_lines.ensures in
    λ refused. omega (arith, c.line_of.ensures, line_within text c.in-Err.fault stops)
