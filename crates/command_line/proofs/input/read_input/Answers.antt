use Rattle.std.proofs.Common.{rules, refl, ℕ, List, Option, ◌++◌, ◌+◌, ◌≤◌, ◌<◌, length, take, arith, length-append, length-take}
use Rattle.std.specs.Io.KnownBytes.{Consumes}
use Rattle.std.proofs.KnownBytes.{Consumes-trans}
use Rattle.command_line.specs.Input.{TakesWithinLimit}
use Rattle.command_line.specs.Limits.{input_limit}
use Rattle.command_line.proofs.input.read_input.Goals as goal

-- what the last read gave is taken after the bytes so far
with_last : (before middle after : Option (List ℕ)) (bytes last : List ℕ) (count : ℕ) (IsTooLong : Type 0) → Consumes before middle bytes
    → Consumes middle after (take count last) → length bytes + count ≤ input_limit + 1 → (input_limit < length bytes + count → IsTooLong) → TakesWithinLimit before after IsTooLong
with_last before middle after bytes last count IsTooLong first second within at_once = (
  bytes ++ take count last,
  record {
    consumed = Consumes-trans before middle after bytes (take count last) first second;
    within = omega (arith, length-append bytes (take count last), length-take count last);
    at_once = λ more. at_once (omega (arith, more, length-append bytes (take count last), length-take count last));
  },
)

pub returns-then-count-len-clause-taken : goal.returns-then-count-len-clause-taken
returns-then-count-len-clause-taken g c =
    with_last _ _ _ _ _ _ _ c.loop-bytes.invariant.taken c.in_ok-count.ensures.bytes.0 (search (rules, c.in_ok-count.ensures.bound)) (λ _. refl)

pub returns-in_err-extend_from_slice-clause-taken : goal.returns-in_err-extend_from_slice-clause-taken
returns-in_err-extend_from_slice-clause-taken g c =
    with_last _ _ _ _ _ _ _ c.loop-bytes.invariant.taken c.in_ok-count.ensures.bytes.0 (search (rules, c.in_ok-count.ensures.bound)) (λ more. absurd (search (rules, more, c.in_ok-count.ensures.bound)))
