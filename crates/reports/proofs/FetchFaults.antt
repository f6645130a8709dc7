-- A bus with room for two readings is never full while an image is fetched over it, so fetching has one fault.
use Rattle.std.proofs.Common.{◌≡◌, ◌∙◌, ◌+◌, ◌*◌, ◌<◌, ◌≤◌, inl, inr, Bool, true, false, Ok, Err, refl, ap, length, length-append, nat_lt, reverse, arith}
use Rattle.std.proofs.lemmas.List.{length-reverse}
use Rattle.bus_model.specs.Runs.{IsFull, Ran, Rules, Seen}
use Rattle.control_sets.specs.OutcomeAnswers.{most_steps}
use Rattle.module_reading.specs.declared.request.Request.{Request}
use Rattle.module_reading.specs.Regions.{everything, of_banks}
use Rattle.observables.specs.Banks.{bank_count}
use Rattle.paged_memory.specs.Images.{Memory}
use Rattle.paged_memory.specs.PageAddressing.{History}
use Rattle.reports.specs.FetchedImages.{AreBanksRead, IsAnswered, IsFetching}
use Rattle.reports.specs.declared.fault.ReportFault.{ReportFault}
use Rattle.reports.specs.declared.fault.ReportFault.TheVariants.{Bus, GaveUp}

-- a reading during which the bus isn't full gives up
gives_up : (request : Request) (full : Type 0) (history : History) (fault : ReportFault) → (full → length history < most_steps → ⊥) → IsAnswered request full history (Err fault) → fault ≡ GaveUp
gives_up request full history GaveUp never is = refl
gives_up request full history (Bus cause) never is = absurd (never is.1 is.2)
gives_up request full history fault never is = absurd is

module _ {S : Type 0} (rules : Rules S) (old : Seen S) (room : length old.steps + 2 * most_steps ≤ old.room) where
  never_full : (new : Seen S) (history : History) → Ran rules old new (reverse history) → IsFull new → length history < most_steps → ⊥
  never_full new history ran full few =
      let made = ap (λ (steps : History). length steps) ran.steps in
      let all = length-append old.steps (reverse history) in
      omega (arith, room, full, few, made, all, ran.room, length-reverse history)

  -- nor in the second reading
  never_later : (mid new : Seen S) (first later : History) → Ran rules old mid (reverse first) → length first ≤ most_steps → Ran rules mid new (reverse later) → IsFull new → length later < most_steps → ⊥
  never_later mid new first later ran at_most ran_on full few =
      let made = ap (λ (steps : History). length steps) ran.steps in
      let made_on = ap (λ (steps : History). length steps) ran_on.steps in
      let all = length-append old.steps (reverse first) in
      let all_on = length-append mid.steps (reverse later) in
      omega (arith, room, full, few, at_most, made, made_on, all, all_on, ran.room, ran_on.room, length-reverse first, length-reverse later)

  -- so many steps two readings make at most
  later_few : (mid new : Seen S) (first : History) (copy memory : Memory) → Ran rules old mid (reverse first) → length first ≤ most_steps
      → (more : Bool) → AreBanksRead more rules mid new copy (Ok memory) → (length new.steps ≤ length old.steps + 2 * most_steps) × (new.room ≡ old.room)
  later_few mid new first copy memory ran at_most false (unchanged, answer) =
      let made = ap (λ (steps : History). length steps) ran.steps in
      let all = length-append old.steps (reverse first) in
      let same = ap (λ (seen : Seen S). length seen.steps) unchanged in
      (omega (arith, at_most, made, all, same, length-reverse first), ap (λ (seen : Seen S). seen.room) unchanged ∙ ran.room)
  later_few mid new first copy memory ran at_most true (answer, (later, ran_on, is), joins) =
      let made = ap (λ (steps : History). length steps) ran.steps in
      let made_on = ap (λ (steps : History). length steps) ran_on.steps in
      let all = length-append old.steps (reverse first) in
      let all_on = length-append mid.steps (reverse later) in
      (omega (arith, at_most, is.reading.at_most, made, made_on, all, all_on, length-reverse first, length-reverse later), ran_on.room ∙ ran.room)

  pub fetching_few : (new : Seen S) (memory : Memory) → IsFetching rules old new (Ok memory) → (length new.steps ≤ length old.steps + 2 * most_steps) × (new.room ≡ old.room)
  fetching_few new memory (inl (cause, answer, made)) = absurd cc
  fetching_few new memory (inr (mid, copy, (history, ran, is), banks)) = later_few mid new history copy memory ran is.reading.at_most (nat_lt 1 (bank_count copy)) banks

  later_fault : (mid new : Seen S) (first : History) (copy : Memory) (fault : ReportFault) → Ran rules old mid (reverse first) → length first ≤ most_steps
      → (more : Bool) → AreBanksRead more rules mid new copy (Err fault) → fault ≡ GaveUp
  later_fault mid new first copy fault ran at_most false (unchanged, answer) = absurd cc
  later_fault mid new first copy fault ran at_most true (Ok from, made, joins) = absurd cc
  later_fault mid new first copy fault ran at_most true (Err cause, (later, ran_on, is), joins) =
      let same : fault ≡ cause = cc in
      same ∙ gives_up (of_banks (bank_count copy)) (IsFull new) later cause (never_later mid new first later ran at_most ran_on) is.answered

  pub fetching_gives_up : (new : Seen S) (fault : ReportFault) → IsFetching rules old new (Err fault) → fault ≡ GaveUp
  fetching_gives_up new fault (inl (cause, answer, (history, ran, is))) =
      let same : fault ≡ cause = cc in
      same ∙ gives_up everything (IsFull new) history cause (never_full new history ran) is.answered
  fetching_gives_up new fault (inr (mid, copy, (history, ran, is), banks)) =
      later_fault mid new history copy fault ran is.reading.at_most (nat_lt 1 (bank_count copy)) banks
