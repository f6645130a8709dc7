-- What C is told of weights that stand as lines in a text. (docs/firmware.md, "Weights"; this project's own)
use Rattle.std.specs.Prelude.{◌≡◌, ℕ, Result, Ok, Err}
use Rattle.applications.specs.declared.weights.lines.WeightLinesFault.{WeightLinesFault}
use Rattle.applications.specs.declared.weights.lines.WeightLinesFault.TheVariants.{BadLine, SameIdTwice, NoHost}
use Rattle.applications.specs.Weights.{TableWeights}
use Rattle.firmware_api.specs.declared.status.Refusal.TheVariants.{Weights}
use Rattle.firmware_api.specs.Statuses.{done, status_of}

-- the number of the faulty line; 0 if none is faulty
abbrev pub line_of : WeightLinesFault → ℕ
line_of (BadLine line) = line
line_of (SameIdTwice line) = line
line_of NoHost = 0

-- the status, the weights before and after, and the line before and after
abbrev pub IsTold : Result TableWeights WeightLinesFault → ℕ → TableWeights → TableWeights → ℕ → ℕ → Type 0
IsTold (Ok read) status before after line_before line_after = (status ≡ done) × (after ≡ read) × (line_after ≡ line_before)
IsTold (Err fault) status before after line_before line_after =
    (status ≡ status_of (Weights fault)) × (after ≡ before) × (line_after ≡ line_of fault)
