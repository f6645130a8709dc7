-- The pauses that a budget allows last three times as long as each of six states.
use Rattle.std.proofs.Common.{◌≤◌, ◌<◌, ◌+◌, ◌-◌, ◌*◌, ◌^◌, ℕ, zero, suc, Bool, List, [], ◌∷◌, Option, arith}
use Rattle.std.specs.Prelude.{unwrap_or}
use Rattle.std.specs.List.{AllByRecursion, slice_get}
use Rattle.std.proofs.lemmas.Grind.{div_ceil_times}
use Rattle.bus_model.specs.declared.operation.Op.{Op}
use Rattle.conversations.specs.Events.{Events, steps_of}
use Rattle.conversations.specs.Pauses.{AddsPauses, AreMade, paused_for}
use Rattle.conversations.proofs.PausingLaws.{few_fruitless}
use Rattle.control_sets.specs.Durations.{durations, lasts, limit_after, longest_of, pause_after, polls, states_in_a_row}

got_few : (times : List ℕ) (code : ℕ) → AllByRecursion (λ time. time ≤ 3000000) times → unwrap_or (slice_get times code) 3000000 ≤ 3000000
got_few [] code all = omega arith
got_few (time ∷ times) zero all = all.0
got_few (time ∷ times) (suc code) all = got_few times code all.1

all_few : AllByRecursion (λ time. time ≤ 3000000) durations
all_few = (omega arith, (omega arith, (omega arith, (omega arith, (omega arith, (omega arith, (omega arith, (omega arith, (omega arith, (omega arith, (omega arith, (omega arith, (omega arith, tt)))))))))))))

pub lasts_few : (code : ℕ) → lasts code ≤ 3000000
lasts_few code = got_few durations code all_few

longer : (time longest : ℕ) → time ≤ longest → states_in_a_row * time ≤ limit_after longest
longer time longest few = omega (arith, few)

pub outlasts : (a b c d e f : ℕ) → AllByRecursion (λ time. states_in_a_row * time ≤ limit_after (longest_of (a ∷ b ∷ c ∷ d ∷ e ∷ f ∷ []))) (a ∷ b ∷ c ∷ d ∷ e ∷ f ∷ [])
outlasts a b c d e f =
    let longest = longest_of (a ∷ b ∷ c ∷ d ∷ e ∷ f ∷ []) in
    (longer a longest (omega arith), (longer b longest (omega arith), (longer c longest (omega arith), (longer d longest (omega arith), (longer e longest (omega arith), (longer f longest (omega arith), tt))))))

pub has_room : (longest : ℕ) → limit_after longest ≤ polls * pause_after longest
has_room longest = let times = div_ceil_times (states_in_a_row * longest) polls (omega arith) in let all = times.0 in omega (arith, all)

pub ends : (a b c d e f : ℕ) → a ≤ 3000000 → b ≤ 3000000 → c ≤ 3000000 → d ≤ 3000000 → e ≤ 3000000 → f ≤ 3000000 → limit_after (longest_of (a ∷ b ∷ c ∷ d ∷ e ∷ f ∷ [])) < 2 ^ 32 - 1
ends a b c d e f has_a has_b has_c has_d has_e has_f = omega (arith, has_a, has_b, has_c, has_d, has_e, has_f)

pub few_pauses : (longest : ℕ) (own events : Events) (wanted : Option Op) (due : Bool) (idle : ℕ) → limit_after longest < 2 ^ 32 - 1 → AreMade own →
    AddsPauses (record { pause = pause_after longest; limit = limit_after longest }) own events wanted due idle → paused_for (pause_after longest) wanted (steps_of events) ≤ (polls + 2) * pause_after longest
few_pauses longest own events wanted due idle ends are adds =
    let few = few_fruitless (record { pause = pause_after longest; limit = limit_after longest }) ends own events wanted due idle are adds in
    let room = has_room longest in
    sum (paused_for (pause_after longest) wanted (steps_of events)) (limit_after longest) (pause_after longest) few room
  where
    sum : (time limit pause : ℕ) → time ≤ limit + 2 * pause → limit ≤ polls * pause → time ≤ (polls + 2) * pause
    sum time limit pause few room = omega (arith, few, room)
