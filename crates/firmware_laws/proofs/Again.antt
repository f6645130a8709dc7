-- No reset is to come of an update that ran nothing.
use Rattle.std.proofs.Common.{◌≡◌, ℕ, ◌==◌, Bool, true, false, cond, List, [], ◌∷◌, Option, Some, None, refl, sym, subst, ap, inl, inr, ◌∙◌}
use Rattle.command_block.specs.declared.outcome.Outcome.{Outcome}
use Rattle.firmware_update.specs.declared.bank.Bank.{Bank}
use Rattle.firmware_update.specs.declared.command.Command.{Command}
use Rattle.firmware_update.specs.declared.command.Command.TheVariants.{Features, Info, Start, Block, Complete, Abort, Run, Commit}
use Rattle.firmware_update.specs.declared.exchange.Exchange.{Exchange}
use Rattle.firmware_update.specs.declared.update.Cause.{Cause}
use Rattle.firmware_update.specs.declared.update.Closing.{Closing}
use Rattle.firmware_update.specs.declared.update.Closing.TheVariants.{Due, Closed, Left}
use Rattle.firmware_update.specs.declared.update.Stage.{Stage}
use Rattle.firmware_update.specs.declared.update.Stage.TheVariants.{Asking, Looking, Starting, Sending, Running, Watching, Committing, Verifying, Finished}
use Rattle.firmware_update.specs.Blocks.{block_length}
use Rattle.firmware_update.specs.Exchanges.{EachExchange, History}
use Rattle.firmware_update.specs.KnownStates.{known_by, known_open}
use Rattle.firmware_update.specs.Payloads.{message_of}
use Rattle.firmware_update.specs.Progress.{AbortsOn, HasClosed, HasComeTo, IsAsking, IsAtStage, IsLooking, IsSending, IsStarting, command_at, is_open, sending}
use Rattle.firmware_laws.specs.Again.{HasRunNothing}
use Rattle.firmware_laws.specs.Modules.{Answer, ComesTo, Conduct, Firmware, HasTwoBanks, IsQuiet, Passes}
use Rattle.firmware_laws.proofs.PowerLoss.{endures_quiet}

abbrev IsNoRun : Command → Type 0
IsNoRun Run = ⊥
IsNoRun command = Unit {0}

abbrev pub RunsNothing : History → Type 0
RunsNothing h = EachExchange (λ x before. IsNoRun x.command) h

-- ---- the module

module _ (conduct : Conduct) (two : HasTwoBanks conduct) (file : List ℕ) where
  sent_quiet : (command : Command) (choice : ℕ) (before : Firmware) → IsNoRun command → IsQuiet before → IsQuiet (conduct (message_of file command) choice before).after
  sent_quiet Features choice before none quiet = ap (λ (f : Firmware). f.reset) (two.asked (message_of file Features) choice before (inl refl)) ∙ quiet
  sent_quiet Info choice before none quiet = ap (λ (f : Firmware). f.reset) (two.asked (message_of file Info) choice before (inr refl)) ∙ quiet
  sent_quiet (Start header) choice before none quiet = let fills = two.filled (message_of file (Start header)) choice before (inl refl) in fills.3 ∙ quiet
  sent_quiet (Block header address) choice before none quiet = let fills = two.filled (message_of file (Block header address)) choice before (inr (inl refl)) in fills.3 ∙ quiet
  sent_quiet Complete choice before none quiet = let fills = two.filled (message_of file Complete) choice before (inr (inr (inl refl))) in fills.3 ∙ quiet
  sent_quiet Abort choice before none quiet = let fills = two.filled (message_of file Abort) choice before (inr (inr (inr refl))) in fills.3 ∙ quiet
  sent_quiet Run choice before none quiet = absurd none
  sent_quiet Commit choice before none quiet = elim (two.commit_is_atomic (message_of file Commit) choice before refl) [
    | inl same ↦ ap (λ (f : Firmware). f.reset) same ∙ quiet
    | inr commits ↦ commits.5 ∙ quiet
  ]

  passes_quiet : (answer : Answer) (outcome : Outcome) (last : Firmware) → IsQuiet answer.after → Passes answer outcome last → IsQuiet last
  passes_quiet answer outcome last quiet (inl (e, endures)) = endures_quiet answer.after last endures quiet
  passes_quiet answer outcome last quiet (inr (e, unknown, short)) = endures_quiet answer.after last (inr short) quiet

  pub stays_quiet : (first : Firmware) → IsQuiet first → (h : History) (last : Firmware) → RunsNothing h → ComesTo conduct file first h last → IsQuiet last
  stays_quiet first quiet [] last none endures = endures_quiet first last endures quiet
  stays_quiet first quiet (x ∷ before) last (none, rest) (earlier, choice, comes, passes) =
      passes_quiet (conduct (message_of file x.command) choice earlier) x.outcome last
      (sent_quiet x.command choice earlier none (stays_quiet first quiet before earlier rest comes)) passes

-- ---- the update

is_no_run : (x : Exchange) (command : Command) → x.command ≡ command → IsNoRun command → IsNoRun x.command
is_no_run x command is none = subst IsNoRun (sym is) none

module _ (size : ℕ) where
  asking_runs : (h : History) → IsAsking h → RunsNothing h
  asking_runs [] at = tt
  asking_runs (x ∷ before) (missed, at) = (is_no_run x Features missed.0 tt, asking_runs before at)

  looking_runs : (header : ℕ) (h : History) → IsLooking size header h → RunsNothing h
  looking_runs header [] at = absurd at
  looking_runs header (x ∷ before) (inl (missed, at)) = (is_no_run x Info missed.0 tt, looking_runs header before at)
  looking_runs header (x ∷ before) (inr (reports, at)) = (is_no_run x Features reports.1 tt, asking_runs before at)

  starting_runs : (header : ℕ) (old : Bank) (h : History) → IsStarting size header old h → RunsNothing h
  starting_runs header old [] at = absurd at
  starting_runs header old (x ∷ before) (reports, at) = (is_no_run x Info reports.1 tt, looking_runs header before at)

  sending_runs : (header : ℕ) (old : Bank) (address : ℕ) (h : History) → IsSending size header old address h → RunsNothing h
  sending_runs header old address [] at = absurd at
  sending_runs header old address (x ∷ before) (inl (missed, less, at)) = (is_no_run x (Block header address) missed.0 tt, sending_runs header old address before at)
  sending_runs header old address (x ∷ before) (inr (inl (none, began, at))) = (is_no_run x (Start header) began.1 tt, starting_runs header old before at)
  sending_runs header old address (x ∷ before) (inr (inr (earlier, is, less, taken, at))) =
      (is_no_run x (Block header earlier) taken.1 tt, sending_runs header old earlier before at)

  -- a stage before the Run
  abbrev IsEarly : Stage → Type 0
  IsEarly Asking = Unit {0}
  IsEarly (Looking header) = Unit {0}
  IsEarly (Starting header old) = Unit {0}
  IsEarly (Sending header old address) = Unit {0}
  IsEarly stage = ⊥

  at_runs : (stage : Stage) (h : History) → IsEarly stage → IsAtStage size stage h → RunsNothing h
  at_runs Asking h early at = asking_runs h at
  at_runs (Looking header) h early at = looking_runs header h at.0
  at_runs (Starting header old) h early at = starting_runs header old h at.0
  at_runs (Sending header old address) h early at = sending_runs header old address h at.0
  at_runs (Running old) h early at = absurd early
  at_runs (Watching old) h early at = absurd early
  at_runs (Committing old) h early at = absurd early
  at_runs (Verifying old) h early at = absurd early
  at_runs Finished h early at = absurd early

  sending_is : (b : Bool) (header address : ℕ) (command : Command) → cond b Complete (Block header address) ≡ command → IsNoRun command
  sending_is true header address command e = subst IsNoRun e tt
  sending_is false header address command e = subst IsNoRun e tt

  sent_is : (stage : Stage) (command : Command) → IsEarly stage → command_at size stage ≡ Some command → IsNoRun command
  sent_is Asking command early e = let is : Features ≡ command = cc in subst IsNoRun is tt
  sent_is (Looking header) command early e = let is : Info ≡ command = cc in subst IsNoRun is tt
  sent_is (Starting header old) command early e = let is : Start header ≡ command = cc in subst IsNoRun is tt
  sent_is (Sending header old address) command early e = let is : sending size header address ≡ command = cc in sending_is (block_length size header address == 0) header address command is
  sent_is (Running old) command early e = absurd early
  sent_is (Watching old) command early e = absurd early
  sent_is (Committing old) command early e = absurd early
  sent_is (Verifying old) command early e = absurd early
  sent_is Finished command early e = absurd early

  aborts_run : (stage : Stage) (cause : Cause) (h : History) → IsEarly stage → AbortsOn size stage cause h → RunsNothing h
  aborts_run stage cause [] early at = absurd at
  aborts_run stage cause (x ∷ before) early (inl (is, why, at)) = (sent_is stage x.command early is, at_runs stage before early at)
  aborts_run stage cause (x ∷ before) early (inr (missed, opened, at)) = (is_no_run x Abort missed.0 tt, aborts_run stage cause before early at)

  closed_runs : (stage : Stage) (cause : Cause) (closing : Closing) (h : History) → IsEarly stage → HasClosed size stage cause closing h → RunsNothing h
  closed_runs stage cause Due h early at = aborts_run stage cause h early at
  closed_runs stage cause Closed [] early at = absurd at
  closed_runs stage cause Closed (x ∷ before) early (done, opened, at) = (is_no_run x Abort done.1 tt, aborts_run stage cause before early at)
  closed_runs stage cause Left [] early at = absurd at
  closed_runs stage cause Left (x ∷ before) early (is, opened, at) = (is_no_run x Abort is tt, aborts_run stage cause before early at)

  -- ---- what is known

  opened_early : (stage : Stage) (cause : Cause) → is_open stage cause ≡ true → IsEarly stage
  opened_early Asking cause opened = tt
  opened_early (Looking header) cause opened = tt
  opened_early (Starting header old) cause opened = tt
  opened_early (Sending header old address) cause opened = tt
  opened_early (Running old) cause opened = absurd cc
  opened_early (Watching old) cause opened = absurd cc
  opened_early (Committing old) cause opened = absurd cc
  opened_early (Verifying old) cause opened = absurd cc
  opened_early Finished cause opened = absurd cc

  known_early : (stage : Stage) (fault : Option Cause) → HasRunNothing (known_open stage fault) → IsEarly stage
  known_early Asking fault nothing = tt
  known_early (Looking header) fault nothing = tt
  known_early (Starting header old) fault nothing = tt
  known_early (Sending header old address) fault nothing = tt
  known_early (Running old) fault nothing = nothing
  known_early (Watching old) fault nothing = nothing
  known_early (Committing old) fault nothing = nothing
  known_early (Verifying old) fault nothing = nothing
  known_early Finished fault nothing = nothing

  closing_early : (stage : Stage) (cause : Cause) (closing : Closing) (h : History) → HasClosed size stage cause closing h
      → HasRunNothing (known_by closing (known_open stage (Some cause))) → IsEarly stage
  closing_early stage cause Due h at nothing = known_early stage (Some cause) nothing
  closing_early stage cause Closed [] at nothing = absurd at
  closing_early stage cause Closed (x ∷ before) (done, opened, at) nothing = opened_early stage cause opened
  closing_early stage cause Left h at nothing = known_early stage (Some cause) nothing

  pub come_runs : (fault : Option Cause) (stage : Stage) (closing : Closing) (h : History) → HasComeTo size stage fault closing h
      → HasRunNothing (known_by closing (known_open stage fault)) → RunsNothing h
  come_runs None stage closing h (at, due) nothing =
      at_runs stage h (known_early stage None (subst (λ (c : Closing). HasRunNothing (known_by c (known_open stage None))) due nothing)) at
  come_runs (Some cause) stage closing h at nothing = closed_runs stage cause closing h (closing_early stage cause closing h at nothing) at
