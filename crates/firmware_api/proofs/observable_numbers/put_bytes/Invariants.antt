use Rattle.std.proofs.Common.{◌≡◌, ℕ, ◌<◌, get_or, length}
use Rattle.firmware_api.specs.ObservableNumbers.{byte_at}
use Rattle.firmware_api.proofs.observable_numbers.put_bytes.Given as goal

-- the letters so far are those of their places
abbrev pub invariant-loop-place : goal.invariant-loop-place
invariant-loop-place l = record {
  len : length l.letters ≡ 28;
  each : (k : ℕ) → k < l.place → get_or l.letters k 0 ≡ byte_at l.bytes k;
}
