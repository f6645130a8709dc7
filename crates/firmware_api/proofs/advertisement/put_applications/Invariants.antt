use Rattle.std.proofs.Common.{◌≡◌, ℕ, ◌<◌, get_or, length}
use Rattle.applications.specs.declared.app.TheConstants.{MAX_APPS}
use Rattle.firmware_api.specs.Advertisements.{application_at, no_application}
use Rattle.firmware_api.proofs.advertisement.put_applications.Given as goal

-- the Applications so far are those of their places
abbrev pub invariant-loop-place : goal.invariant-loop-place
invariant-loop-place l = record {
  len : length l.applications ≡ MAX_APPS;
  each : (k : ℕ) → k < l.place → get_or l.applications k no_application ≡ application_at l.apps k;
}
