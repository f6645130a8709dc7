-- The places of monitors and of instances.
use Rattle.std.proofs.Common.{◌≡◌, ◌<◌, ◌≤◌, ◌∙◌, ℕ, ◌+◌, ◌-◌, ◌*◌, ◌/◌, ◌%◌, nat_lt, true, false, Option, Some, None, ap, refl, arith}
use Rattle.std.specs.Prelude.{option_and_then}
use Rattle.std.proofs.lemmas.Bool.Decides.{nat_tests}
use Rattle.paged_memory.specs.Images.{Memory}
use Rattle.observables.specs.declared.monitor.Monitor.{Monitor}
use Rattle.observables.specs.Observations.{EachInstanceHasAPlace, EachMonitorHasAPlace, all_places, measured, monitor_of, monitor_places, monitored, observation_at, observed}

at_monitor : (memory : Memory) (place n lane : ℕ) → nat_lt place monitor_places ≡ true → place / 32 ≡ n → place % 32 + 1 ≡ lane
    → observation_at memory place ≡ monitored memory n lane
unfolding observation_at
at_monitor memory place n lane within number of_lane = rw (within, number, of_lane) refl

pub at_instance : (memory : Memory) (place bank n : ℕ) → nat_lt place monitor_places ≡ false → nat_lt place all_places ≡ true → (place - monitor_places) / 256 ≡ bank
    → (place - monitor_places) % 256 ≡ n → observation_at memory place ≡ observed memory bank n
unfolding observation_at
at_instance memory place bank n after within of_bank number = rw (after, within, of_bank, number) refl

pub below : (place most : ℕ) → place < most → nat_lt place most ≡ true
below place most less = grind (arith, nat_tests)

pub not_below : (place least : ℕ) → least ≤ place → nat_lt place least ≡ false
not_below place least more = grind (arith, nat_tests)

pub each_monitor : EachMonitorHasAPlace
each_monitor memory n lane few from to =
    at_monitor memory (32 * n + (lane - 1)) n lane (below (32 * n + (lane - 1)) monitor_places (omega (arith, few, from, to))) (omega (arith, from, to)) (omega (arith, from, to))

pub each_instance : EachInstanceHasAPlace
each_instance memory bank n few within =
    at_instance memory (monitor_places + 256 * bank + n) bank n (not_below (monitor_places + 256 * bank + n) monitor_places (omega arith))
    (below (monitor_places + 256 * bank + n) all_places (omega (arith, few, within))) (omega (arith, few, within)) (omega (arith, few, within))

-- ---- those of one monitor

found_there : (memory : Memory) (n place : ℕ) (found : Option Monitor) → 32 * n < monitor_places → 32 * n ≤ place → place < 32 * (n + 1) → monitor_of memory n ≡ found
    → observation_at memory place ≡ option_and_then (λ monitor. measured memory monitor (place % 32 + 1)) found
found_there memory n place found few from to is =
    at_monitor memory place n (place % 32 + 1) (below place monitor_places (omega (arith, few, to))) (omega (arith, from, to)) refl
    ∙ ap (λ (those : Option Monitor). option_and_then (λ monitor. measured memory monitor (place % 32 + 1)) those) is

pub of_monitor : (memory : Memory) (n place : ℕ) (monitor : Monitor) → 32 * n < monitor_places → 32 * n ≤ place → place < 32 * (n + 1)
    → monitor_of memory n ≡ Some monitor → observation_at memory place ≡ measured memory monitor (place % 32 + 1)
of_monitor memory n place monitor few from to is = found_there memory n place (Some monitor) few from to is

pub of_no_monitor : (memory : Memory) (n place : ℕ) → 32 * n < monitor_places → 32 * n ≤ place → place < 32 * (n + 1) → monitor_of memory n ≡ None
    → observation_at memory place ≡ None
of_no_monitor memory n place few from to is = found_there memory n place None few from to is
