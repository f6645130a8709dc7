-- The number of a faulty line is at most the text's length.
use Rattle.std.proofs.Common.{◌≡◌, ℕ, ◌+◌, ◌≤◌, true, false, cond, List, [], ◌∷◌, length, ap, arith}
use Rattle.std.specs.List.{before_first, onto_first}
use Rattle.std.proofs.lemmas.List.{length-append, length-map}
use Rattle.text_lines.specs.Lines.{ended_lines, is_lf, lines_of}
use Rattle.applications.specs.declared.weights.lines.WeightLinesFault.{WeightLinesFault}
use Rattle.applications.specs.declared.weights.lines.WeightLinesFault.TheVariants.{BadLine, SameIdTwice, NoHost}
use Rattle.applications.specs.WeightLines.{IsFirstFault, Stops}
use Rattle.firmware_api.specs.ReadWeights.{line_of}

one_more : (byte : ℕ) (lines : List (List ℕ)) → length (onto_first byte lines) ≤ length lines + 1
one_more byte [] = omega arith
one_more byte (line ∷ lines) = omega arith

ended_few : (text : List ℕ) → length (ended_lines text) ≤ length text
ended_few [] = omega arith
ended_few (byte ∷ text) =
    elim (is_lf byte) as (λ b. length (cond b ((byte ∷ []) ∷ ended_lines text) (onto_first byte (ended_lines text))) ≤ length (byte ∷ text)) [
      | true ↦ omega (arith, ended_few text)
      | false ↦ omega (arith, ended_few text, one_more byte (ended_lines text))
    ]

-- each line but the last has an LF, and that has a byte
lines_few : (text : List ℕ) → length (lines_of text) ≤ length text
lines_few text = omega (arith, ended_few text, length-map (ended_lines text) (before_first is_lf))

stopped_at : (lines : List (List ℕ)) (fault : WeightLinesFault) (number : ℕ) → (stops : Stops lines fault) → number ≡ length stops.before + 1 → number ≤ length lines
stopped_at lines fault number stops is =
    omega (arith, is, length-append stops.before (stops.line ∷ stops.rest), ap (λ (l : List (List ℕ)). length l) stops.lines_are)

pub line_within : (text : List ℕ) (fault : WeightLinesFault) → IsFirstFault (lines_of text) fault → line_of fault ≤ length text
line_within text (BadLine number) stops = omega (arith, lines_few text, stopped_at (lines_of text) (BadLine number) number stops stops.stops.0)
line_within text (SameIdTwice number) stops = omega (arith, lines_few text, stopped_at (lines_of text) (SameIdTwice number) number stops stops.stops.0)
line_within text NoHost stops = omega arith
