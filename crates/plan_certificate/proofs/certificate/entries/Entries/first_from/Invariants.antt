use Rattle.std.proofs.Common.{◌≡◌, ◌-◌, ◌<◌, ◌≤◌, ℕ, None, get_or}
use Rattle.plan_certificate.proofs.certificate.entries.Entries.first_from.Given as goal

-- nothing stands from there up to the place
abbrev pub invariant-loop-place : goal.invariant-loop-place
invariant-loop-place g l = record {
  past : l.from ≤ l.place;
  none : (i : ℕ) → l.from ≤ i → i < l.place → get_or l.bounds.bounds i None ≡ None;
}

abbrev pub decreases-loop-place : goal.decreases-loop-place
decreases-loop-place g l = 2304 - l.place
