-- Nothing is known of the selection at the beginning.
use Rattle.std.proofs.Common.{◌≡◌, ℕ, Bool, false, [], Option, Some, None, refl}
use Rattle.conversations.specs.Events.{Events}
use Rattle.conversations.specs.Selecting.{Knows, WithSelections}
use Rattle.paged_memory.specs.declared.page_addressing.PageAddressing.TheVariants.{BankAndPage}
use Rattle.paged_memory.specs.declared.page_addressing.KnownPage.TheVariants.{Unknown}

pub knows_nothing : Knows false (Some BankAndPage) Unknown None []
knows_nothing = (
  λ (none : Some BankAndPage ≡ None). absurd cc,
  (
    record { awaited = refl; known = λ page. refl },
    record { was = λ page (e : None ≡ Some page). absurd cc; is = λ may awaits page taken. absurd taken },
  ),
)

pub with_nothing : (doubts : Bool) (needs : Events → Option ℕ) (P : Events → Type 0) → P [] → WithSelections doubts false (λ events. Some BankAndPage) needs P []
with_nothing doubts needs P told = ([], refl, told)
