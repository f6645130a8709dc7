use Rattle.std.proofs.Common.{◌≡◌, ℕ, ◌<◌, get_or, length}
use Rattle.firmware_api.specs.ShownTexts.{letter_at}
use Rattle.firmware_api.proofs.shown_texts.put_letters.Given as goal

-- the letters so far are those of their places
abbrev pub invariant-loop-place : goal.invariant-loop-place
invariant-loop-place l = record {
  len : length l.letters ≡ 17;
  each : (k : ℕ) → k < l.place → get_or l.letters k 0 ≡ letter_at l.bytes k;
}
