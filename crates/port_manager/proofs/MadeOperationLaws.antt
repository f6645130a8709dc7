-- What holds of each turn that a reply led to, and of each reply that was dropped, holds of each operation that was made.
use Rattle.std.proofs.Common.{◌≡◌, ℕ, false, [], ◌∷◌, Option, Some, sym, subst}
use Rattle.bus_model.specs.declared.operation.Op.{Op}
use Rattle.bus_model.specs.declared.operation.Reply.{Reply}
use Rattle.bus_model.specs.Operations.{Answers}
use Rattle.port_manager.specs.declared.deciding.Wanted.{Wanted}
use Rattle.port_manager.specs.declared.job.Job.{Job}
use Rattle.port_manager.specs.declared.port.Outcome.{Outcome}
use Rattle.port_manager.specs.declared.port.Outcome.TheVariants as outcome
use Rattle.port_manager.specs.declared.port.Outstanding.{Outstanding}
use Rattle.port_manager.specs.declared.port.Outstanding.TheVariants as outstanding
use Rattle.port_manager.specs.declared.port.Port.{Port}
use Rattle.port_manager.specs.declared.port.Stage.{Stage}
use Rattle.port_manager.specs.declared.port.Stage.TheVariants as stages
use Rattle.port_manager.specs.declared.request.Request.{Request}
use Rattle.port_manager.specs.declared.times.Times.{Times}
use Rattle.port_manager.specs.Flags.{no_flags}
use Rattle.port_manager.specs.Jobs.{IsReplyTo, asked}
use Rattle.port_manager.specs.MadeOperations.{EachMade}
use Rattle.port_manager.specs.Ports.{IfWorking, IsAwaitedBy, IsRestartedIn, IsTakenBy, IsTurnedIn, absent, asked_in, awaited, outcome_of}
use Rattle.port_manager.specs.Requests.{granted}
use Rattle.port_manager.specs.Runs.{Becomes, Reaches, Runs}
use Rattle.port_manager.specs.Standing.{IsAt, IsFounded, IsNamed, UnlessStale}
use Rattle.port_manager.specs.Stories.{Event, Story, acknowledge, ask, demand, drop, hear, hold, make, plug, pull, reconsider, request_in, steps_of}
use Rattle.port_manager.specs.Turns.{Turn}
use Rattle.port_manager.proofs.StoryLaws.{reaches_at}
use Rattle.port_manager.proofs.TurnCases.{IsAnyTurn}

-- a job that stood so has taken the reply so
pub record IsTurnAfter (before : Story) (op : Op) (reply : Reply) (wanted : Wanted) (job : Job) (turn : Turn) : Type 0 where
  pub answers : Answers op reply
  pub asks : asked job ≡ Some op
  pub founded : IsFounded (steps_of before) job
  pub named : IsNamed before job
  pub leads : IsAnyTurn (granted (request_in before) wanted) job reply turn

module _ (P : Story → Op → Reply → Wanted → ℕ → Outcome → Type 0) (dropped : (before : Story) (op : Op) (reply : Reply) (wanted : Wanted) (now : ℕ) → P before op reply wanted now outcome.Dropped)
    (turned : (before : Story) (op : Op) (reply : Reply) (wanted : Wanted) (now : ℕ) (port : Port) (job : Job) (turn : Turn) → IsTurnAfter before op reply wanted job turn → P before op reply wanted now (outcome_of port turn now)) where
  module _ (before : Story) (op : Op) (reply : Reply) (wanted : Wanted) (now : ℕ) where
    abbrev Gives : Outcome → Type 0
    Gives result = P before op reply wanted now result

    is_dropped : (result : Outcome) → result ≡ outcome.Dropped → Gives result
    is_dropped result is = subst Gives (sym is) (dropped before op reply wanted now)

    restarted_made : (stage : Stage) (port after : Port) (result : Outcome) → IsRestartedIn stage port reply now result after → Gives result
    restarted_made stages.Absent port after result is = is_dropped result is.0
    restarted_made (stages.Left reason) port after result is = is_dropped result is.0
    restarted_made (stages.Working job) port after result is = is_dropped result is.0

    turned_made : (stage : Stage) (port after : Port) (result : Outcome) → port.request ≡ request_in before → asked_in stage ≡ Some op → IsReplyTo (asked_in stage) reply → IfWorking stage (IsFounded (steps_of before)) → IfWorking stage (IsNamed before)
        → IsTurnedIn stage port reply wanted now result after → Gives result
    turned_made stages.Absent port after result same asks answers founded named is = is_dropped result is.0
    turned_made (stages.Left reason) port after result same asks answers founded named is = is_dropped result is.0
    turned_made (stages.Working job) port after result same asks answers founded named (turn, leads, gives, becomes) =
        let answered : Answers op reply = subst (λ (found : Option Op). IsReplyTo found reply) asks answers in
        let is : IsAnyTurn (granted (request_in before) wanted) job reply turn = subst (λ (request : Request). IsAnyTurn (granted request wanted) job reply turn) same (port.apply_refused, leads) in
        subst Gives (sym gives) (turned before op reply wanted now port job turn (record { answers = answered; asks = asks; founded = founded; named = named; leads = is }))

    taken_made : (o : Outstanding) (port after : Port) (result : Outcome) → port.request ≡ request_in before → awaited port ≡ Some op → IsAwaitedBy o port reply → IfWorking port.stage (IsFounded (steps_of before))
        → UnlessStale o (IfWorking port.stage (IsNamed before)) → IsTakenBy o port reply wanted now result after → Gives result
    taken_made outstanding.Nothing port after result same asks answers founded named is = is_dropped result is.0
    taken_made outstanding.Forsaken port after result same asks answers founded named is = is_dropped result is.0
    taken_made outstanding.Stale port after result same asks answers founded named is = restarted_made port.stage port after result is
    taken_made outstanding.Awaited port after result same asks answers founded named is = turned_made port.stage port after result same asks answers founded named is

  becomes_made : (port after : Port) (event : Event) (before : Story) → IsAt before port → EachMade P before → Becomes port event after → EachMade P (event ∷ before)
  becomes_made port after (plug now) before at made is = made
  becomes_made port after pull before at made is = made
  becomes_made port after reconsider before at made is = made
  becomes_made port after (hold held) before at made is = made
  becomes_made port after (demand request) before at made is = made
  becomes_made port after (acknowledge past) before at made is = made
  becomes_made port after (hear alive began) before at made is = made
  becomes_made port after (ask op moment) before at made is = made
  becomes_made port after (make op reply wanted now result) before at made (waited, asks, answers, is) =
      (taken_made before op reply wanted now port.outstanding port after result at.request asks answers at.founded at.named is, made)
  becomes_made port after drop before at made is = made

  runs_made : (times : Times) (story : Story) (port : Port) → Runs (absent times outstanding.Nothing no_flags false) story port → EachMade P story
  runs_made times [] port is = tt
  runs_made times (event ∷ before) port (between, ran, is) = becomes_made between port event before (reaches_at before between (times, ran)) (runs_made times before between ran) is

  pub each_made : (story : Story) (port : Port) → Reaches story port → EachMade P story
  each_made story port (times, ran) = runs_made times story port ran
