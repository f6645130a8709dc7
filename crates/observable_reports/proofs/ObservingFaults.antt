-- A bus with room for three readings is never full while observables are fetched over it, so fetching them has one fault.
use Rattle.std.proofs.Common.{◌≡◌, ◌&&◌, ◌∙◌, ◌+◌, ◌*◌, ◌≤◌, inl, inr, ℕ, zero, suc, Bool, true, false, Err, ap, if◌then◌else◌, length, length-append, reverse, arith}
use Rattle.std.proofs.lemmas.List.{length-reverse}
use Rattle.bus_model.specs.Runs.{Rules, Seen}
use Rattle.control_sets.specs.OutcomeAnswers.{most_steps}
use Rattle.conversations.specs.Events.{Events, steps_of}
use Rattle.observables.specs.Banks.{bank_count, statistics_banks}
use Rattle.observables.specs.Pages.{has_observables, is_cmis}
use Rattle.observables.proofs.FewBanks.{few_banks}
use Rattle.paged_memory.specs.Images.{Memory}
use Rattle.paged_memory.specs.PageAddressing.{History}
use Rattle.reports.specs.declared.fault.ReportFault.{ReportFault}
use Rattle.reports.specs.declared.fault.ReportFault.TheVariants.{GaveUp}
use Rattle.reports.proofs.FetchFaults.{fetching_few, fetching_gives_up}
use Rattle.vdm_reading.specs.VdmAccounts.{reading_after}
use Rattle.vdm_reading.proofs.EndingLaws.{few}
use Rattle.vdm_reading.proofs.Told.{told_from}
use Rattle.observable_reports.specs.FetchedObservables.{AreFirstRead, AreStatisticsRead, IsBankReading, IsObserving, request_of}

pub few_read : (memory : Memory) → statistics_banks memory ≤ 4
few_read memory = by (is_cmis memory && has_observables memory) where
  by : (has : Bool) → (if has then bank_count memory else 0) ≤ 4
  by true = few_banks memory
  by false = omega arith

module _ {S : Type 0} (rules : Rules S) where
  -- how many steps a bank takes
  bank_few : (bank : ℕ) (last new : Seen S) (events : Events) → IsBankReading rules bank last new events → (length new.steps ≤ length last.steps + 759) × (new.room ≡ last.room)
  bank_few bank last new events read =
      let brief = few events (reading_after (request_of bank) events) (told_from (request_of bank) events read.each) in
      let made = ap (λ (steps : History). length steps) read.ran.steps in
      let all = length-append last.steps (reverse (steps_of events)) in
      (omega (arith, brief, made, all, length-reverse (steps_of events)), read.ran.room)

  banks_few : (mid : Seen S) (memory : Memory) (banks : ℕ) (new : Seen S) (all : Memory) → AreFirstRead rules mid memory banks new all → (length new.steps ≤ length mid.steps + banks * 759) × (new.room ≡ mid.room)
  banks_few mid memory zero new all (unchanged, same_memory) =
      let steps = ap (λ (seen : Seen S). length seen.steps) unchanged in
      (omega (arith, steps), ap (λ (seen : Seen S). seen.room) unchanged)
  banks_few mid memory (suc bank) new all (last, before, earlier, (events, read, ended)) =
      let first = banks_few mid memory bank last before earlier in
      let more = bank_few bank last new events read in
      (omega (arith, first.0, more.0), more.1 ∙ first.1)

  module _ (old : Seen S) (room : length old.steps + 3 * most_steps ≤ old.room) where
    -- there is room for the statistics of four banks, after two readings
    never_cut : (mid new : Seen S) (memory : Memory) (fault : ReportFault) → (length mid.steps ≤ length old.steps + 2 * most_steps) × (mid.room ≡ old.room)
        → AreStatisticsRead (statistics_banks memory) rules mid new memory (Err fault) → fault ≡ GaveUp
    never_cut mid new memory fault fits (bank, below, last, before, earlier, (events, read, ((trace, full, more), kept))) =
        let first = banks_few mid memory bank last before earlier in
        let now = bank_few bank last new events read in
        absurd (omega (arith, room, fits.0, fits.1, first.0, first.1, now.0, now.1, full, below, few_read memory))

    pub observing_gives_up : (new : Seen S) (fault : ReportFault) → IsObserving rules old new (Err fault) → fault ≡ GaveUp
    observing_gives_up new fault (inl (cause, refused, fetched)) =
        let same : fault ≡ cause = cc in
        same ∙ fetching_gives_up rules old (omega (arith, room)) new cause fetched
    observing_gives_up new fault (inr (mid, memory, fetched, read_so)) = never_cut mid new memory fault (fetching_few rules old (omega (arith, room)) mid memory fetched) read_so
