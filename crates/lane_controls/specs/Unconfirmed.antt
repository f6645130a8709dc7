-- Conversations as they begin on a bus of which nothing is known. (docs/bus.md, "Conversations"; this project's own)
use Rattle.std.specs.Prelude.{ℕ, Bool, true, false, None}
use Rattle.conversations.specs.declared.on_page.OnPage.{OnPage}
use Rattle.conversations.specs.declared.pausing.Patience.{Patience}
use Rattle.conversations.specs.declared.pausing.Pausing.{Pausing}
use Rattle.conversations.specs.declared.within.Within.{Within}
use Rattle.paged_memory.specs.declared.page_addressing.KnownPage.TheVariants.{Unknown}

abbrev pub unconfirmed : {C : Type 0} → C → Bool → OnPage C
unconfirmed conversation doubts = record { conversation = conversation; selection = Unknown; taken = None; doubts = doubts }

abbrev pub within : {C : Type 0} → C → ℕ → Within C
within conversation limit = record { conversation = conversation; steps = 0; limit = limit }

-- on a bus that keeps its selection over a refusal
abbrev pub trusting : {C : Type 0} → C → ℕ → Within (OnPage C)
trusting conversation limit = within (unconfirmed conversation false) limit

-- on a real bus: it doubts the selection after a refusal, and pauses
abbrev pub patient : {C : Type 0} → C → Patience → ℕ → Within (Pausing (OnPage C))
patient conversation patience limit = within (record { conversation = unconfirmed conversation true; patience = patience; due = false; idle = 0 }) limit
