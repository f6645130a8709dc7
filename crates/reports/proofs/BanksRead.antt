-- What a reading over a bus comes to, with that of further banks after it.
use Rattle.std.proofs.Common.{◌≡◌, Bool, true, false, Result, Ok, refl, subst}
use Rattle.bus_model.specs.Runs.{IsFull, Rules, Seen}
use Rattle.control_sets.specs.Procedures.{MakesHistory}
use Rattle.module_reading.specs.declared.request.Request.{Request}
use Rattle.module_reading.specs.Regions.{of_banks}
use Rattle.observables.specs.Banks.{bank_count}
use Rattle.paged_memory.specs.Images.{Memory}
use Rattle.reports.specs.FetchedImages.{AreBanksRead, AreFetched, IsJoined}
use Rattle.reports.specs.declared.fault.ReportFault.{ReportFault}

-- a reading of what is requested, by its name
pub requested : {S : Type 0} (rules : Rules S) (old new : Seen S) (request named : Request) (answer : Result Memory ReportFault) → request ≡ named
    → MakesHistory rules old new (λ history. AreFetched request (IsFull new) history answer) → MakesHistory rules old new (λ history. AreFetched named (IsFull new) history answer)
requested rules old new request named answer is made = subst (λ (request : Request). MakesHistory rules old new (λ history. AreFetched request (IsFull new) history answer)) is made

module _ {S : Type 0} (rules : Rules S) (mid : Seen S) (memory : Memory) where
  -- a module that has one bank
  pub alone : (more : Bool) → more ≡ false → AreBanksRead more rules mid mid memory (Ok memory)
  alone false none = (refl, refl)
  alone true none = absurd cc

  pub joined : (new : Seen S) (request : Request) (read answer : Result Memory ReportFault) (more : Bool) → more ≡ true → request ≡ of_banks (bank_count memory)
      → MakesHistory rules mid new (λ history. AreFetched request (IsFull new) history read) → IsJoined memory read answer → AreBanksRead more rules mid new memory answer
  joined new request read answer true some is made joins = (read, requested rules mid new request (of_banks (bank_count memory)) read is made, joins)
  joined new request read answer false some is made joins = absurd cc
