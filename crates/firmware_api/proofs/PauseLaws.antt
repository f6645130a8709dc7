-- A pause in a conversation, and its beginning.
use Rattle.std.proofs.Common.{◌≡◌, ◌≢◌, ℕ, List, ◌∷◌, Option, Some, None, refl, ap, subst}
use Rattle.bus_model.specs.declared.operation.Op.{Op}
use Rattle.conversations.specs.declared.event.Event.TheVariants.{Waited}
use Rattle.conversations.specs.declared.next.Next.{Next}
use Rattle.conversations.specs.declared.next.Next.TheVariants.{Do, Wait, End}
use Rattle.conversations.specs.declared.watching.Watched.TheVariants.{InOrder}
use Rattle.conversations.specs.Events.{Events}
use Rattle.conversations.specs.Pieces.{next_piece}
use Rattle.conversations.specs.Selecting.{next_on}
use Rattle.conversations.specs.Wanted.{IfEnd, op_of}
use Rattle.conversations.specs.Watching.{AddsLooks}
use Rattle.conversations.proofs.PatientLaws.{told_pause}
use Rattle.conversations.proofs.WatchingLaws.{own_wait}
use Rattle.paged_memory.specs.declared.page_addressing.KnownPage.{KnownPage}
use Rattle.paged_memory.specs.declared.page_addressing.PageAddressing.{PageAddressing}
use Rattle.paged_memory.specs.declared.page_addressing.PageAddressing.TheVariants.{BankAndPage}
use Rattle.control_sets.specs.declared.fault.ProvisionFault.{ProvisionFault}
use Rattle.control_sets.specs.declared.procedures.power.PowerChange.{PowerChange}
use Rattle.control_sets.specs.declared.procedures.task.Task.{Task}
use Rattle.control_sets.specs.PowerProgress.{operation_at, power_wants}
use Rattle.control_sets.specs.PowerProgress as power
use Rattle.control_sets.specs.Progress as tasks
use Rattle.module_reading.specs.declared.region.Region.{Region}
use Rattle.module_reading.specs.ImageReading as reading
use Rattle.firmware_api.specs.declared.kept.Kept.{Kept}
use Rattle.firmware_api.specs.declared.kept.Kept.TheVariants.{OfTasks, OfPower, OfReading}
use Rattle.control_sets.specs.PowerProgress.{power_told}
use Rattle.control_sets.specs.Progress.{OnTasks, tasks_told, tasks_want}
use Rattle.conversations.specs.Patiently.{wants_patiently}
use Rattle.firmware_api.specs.KeptConversations.{Ending, InHand, Spending, WasTold, after_pause, ending_by, next_of, pieces_want, pieces_told, read_ending}

-- ---- none of them waits by itself

tasks_wait : (selected : KnownPage) (page : Option ℕ) (fault : Option ProvisionFault) (task : Option Task) (time : ℕ) → next_on BankAndPage selected page (tasks.wants_by fault task) ≢ Wait time
tasks_wait selected page fault None time waits = cc
tasks_wait selected page fault (Some task) time waits = cc

tasks_wait_not : (on : OnTasks) (time : ℕ) → tasks_want on ≢ Wait time
tasks_wait_not on time waits = tasks_wait on.selection (tasks.page_by (tasks.hand on.conversation)) on.conversation.fault (tasks.hand on.conversation) time waits

power_wait : (fault : Option ProvisionFault) (op : Option Op) (time : ℕ) → power.wants_by fault op ≢ Wait time
power_wait None None time waits = cc
power_wait _ _ time waits = cc

power_waits_not : (change : PowerChange) (time : ℕ) → power_wants change ≢ Wait time
power_waits_not change time waits = power_wait change.fault (operation_at change.power change.stage) time waits

pieces_wait : (piece : ℕ) (part : List ℕ) (by : PageAddressing) (selected : KnownPage) (page : Option ℕ) (found : Option Region) (time : ℕ) →
    next_piece piece part (next_on by selected page (reading.wants_by found)) ≢ Wait time
pieces_wait piece part by selected page None time waits = cc
pieces_wait piece part by selected page (Some region) time waits = cc

pieces_wait_not : (pieces : InHand) (time : ℕ) → pieces_want pieces ≢ Wait time
pieces_wait_not pieces time waits =
    pieces_wait pieces.piece pieces.part.items _ pieces.conversation.selection _ (reading.in_hand pieces.conversation.conversation) time waits

-- ---- so a wait that is wanted is a pause that is due

not_ending : {E : Type 0} (f : E → Ending) (wanted : Next E) (time : ℕ) → ending_by f wanted ≡ Wait time → wanted ≡ Wait time
not_ending f (Wait other) time waits = let same : other ≡ time = cc in ap (λ (t : ℕ). Wait t) same
not_ending f _ time waits = absurd cc

-- a conversation that was told its events is told the pause
pub told_after_pause : (kept : Kept) (time : ℕ) → next_of kept ≡ Wait time → (events : Events) → WasTold events kept → WasTold (Waited time ∷ events) (after_pause kept)
told_after_pause (OfTasks procedure) time waits events (own, adds, told) =
    let inner = procedure.conversation in
    let wants = own_wait procedure.look (wants_patiently tasks_want inner) time waits in
    let before = subst (λ (w : Option Op). AddsLooks procedure.watches own events procedure.look w) (ap (λ (n : Next Spending). op_of n) wants) adds in
    (Waited time ∷ own, (own, procedure.look, refl, before, refl), told_pause tasks_want tasks_told inner time (tasks_wait_not inner.conversation.conversation) wants own told)
told_after_pause (OfPower change) time waits events told = told_pause power_wants power_told change time (power_waits_not change.conversation.conversation) (not_ending InOrder (wants_patiently power_wants change) time waits) events told
told_after_pause (OfReading read) time waits events told = told_pause pieces_want pieces_told read time (pieces_wait_not read.conversation.conversation) (not_ending read_ending (wants_patiently pieces_want read) time waits) events told

-- ---- the end, as that of each conversation

pub same_do : {E : Type 0} (f : E → Ending) (wanted : Next E) (op : Op) → ending_by f wanted ≡ Do op → wanted ≡ Do op
same_do f (Do other) op is = let same : other ≡ op = cc in ap (λ (o : Op). Do o) same
same_do f _ op is = absurd cc

pub ends_in_order : (P : Spending → Type 0) (wanted : Next Spending) → IfEnd wanted P →
    IfEnd (ending_by InOrder wanted) (λ (ending : Ending). (spent : Spending) × (ending ≡ InOrder spent) × P spent)
ends_in_order P (Do op) ends = tt
ends_in_order P (Wait time) ends = tt
ends_in_order P (End spent) ends = (spent, refl, ends)
