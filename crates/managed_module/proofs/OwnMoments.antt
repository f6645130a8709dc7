-- A port that is asked in time brings up a simulated module that suits what is wanted within so many milliseconds.
use Rattle.std.proofs.Common.{◌≡◌, ◌⊎◌, inl, inr, ℕ, ◌+◌, ◌*◌, ◌≤◌, ◌<◌, max, Bool, false, [], ◌∷◌, ◌++◌, Option, Some, refl, sym, ap, subst, ◌∙◌, arith, mul-le-mul_right}
use Rattle.std.proofs.lemmas.Bool.{cases_lt}
use Rattle.bus_model.specs.declared.operation.Op.{Op}
use Rattle.bus_model.specs.declared.operation.Reply.{Reply}
use Rattle.bus_model.specs.Operations.{Answers}
use Rattle.conversations.specs.declared.next.Next.TheVariants.{Do}
use Rattle.paged_memory.specs.Images.{Memory}
use Rattle.control_sets.specs.Durations.{pause_for}
use Rattle.port_manager.specs.declared.deciding.Wanted.{Wanted}
use Rattle.port_manager.specs.declared.job.Job.{Job}
use Rattle.port_manager.specs.declared.port.Outcome.{Outcome}
use Rattle.port_manager.specs.declared.port.Outcome.TheVariants as outcomes
use Rattle.port_manager.specs.declared.port.Outstanding.{Outstanding}
use Rattle.port_manager.specs.declared.port.Outstanding.TheVariants as outstanding
use Rattle.port_manager.specs.declared.port.Port.{Port}
use Rattle.port_manager.specs.declared.port.Stage.{Stage}
use Rattle.port_manager.specs.declared.port.Stage.TheVariants as stages
use Rattle.port_manager.specs.declared.times.Times.{Times}
use Rattle.port_manager.specs.declared.turn.Note.{Note}
use Rattle.port_manager.specs.declared.turn.Note.TheVariants as notes
use Rattle.port_manager.specs.Flags.{no_flags}
use Rattle.port_manager.specs.Goals.{conventions_of}
use Rattle.port_manager.specs.Jobs.{IsReplyTo, asked}
use Rattle.port_manager.specs.Ports.{IsAwaitedBy, IsTaken, IsTakenBy, IsTurnedIn, absent, answered, asked_in, awaited, next_at, noting, outcome_of, plugged, turned, wait_of}
use Rattle.port_manager.specs.Progress.{IsGoing, IsUpStage, made_in}
use Rattle.port_manager.specs.Requests.{granted}
use Rattle.port_manager.specs.Runs.{IsWaitedFor, Runs}
use Rattle.port_manager.specs.Stories.{Story, plug, pull, reconsider, acknowledge, ask, make, drop, hold, demand, hear, waits_after}
use Rattle.port_manager.specs.Turns.{Turn}
use Rattle.port_manager.specs.Turns as turns
use Rattle.port_manager.specs.Waits as waits
use Rattle.port_manager.proofs.Asking.{never_stops}
use Rattle.sim_module.specs.declared.module.SimModule.{SimModule}
use Rattle.managed_module.specs.Bounds.{IsSteady, most_waits}
use Rattle.managed_module.specs.ComingUp.{HasComeUp, IsUndisturbed, IsUpResult}
use Rattle.managed_module.specs.InTime.{IsPrompt, IsSoon, SuitedHasComeUpInTime, SuitedIsAskedFor, due_in}
use Rattle.managed_module.specs.Managed.{HasHalves}
use Rattle.managed_module.specs.SuitedModules.{IsProvisionable}
use Rattle.managed_module.specs.Succeeds.{AllSuit, AreWhole, IsAwaited, Works}
use Rattle.managed_module.proofs.BoundLaw.{plugged_keeps}
use Rattle.managed_module.proofs.OwnAdverts.{IsPaged, is_paged}
use Rattle.managed_module.proofs.OwnPauses.{IsBrief, IsBriefJob, first_pause, own_brief}
use Rattle.managed_module.proofs.OwnSteps.{IsSpared, OwnStage, not_up}
use Rattle.managed_module.proofs.OwnStories.{Holds, IsRun, awaits, fresh_awaited, holds_first, runs, suited_has_come_up, undisturbed}
use Rattle.managed_module.proofs.OwnTasks.{reply_of}

-- ---- moments

-- a wait of nothing
no_wait : (now wait : ℕ) → wait ≡ 0 → waits.later now wait ≤ now
no_wait now wait e = omega (arith, e)

some_wait : (now wait : ℕ) → waits.later now wait ≤ now + wait
some_wait now wait = omega arith

due_at_once : (due before now soon : ℕ) → due ≤ before → soon ≤ now → max due soon ≤ max now before
due_at_once due before now soon early at_once = omega (arith, early, at_once)

due_paused : (due before now soon : ℕ) → max due soon ≤ max now (max (max due soon) before)
due_paused due before now soon = omega arith

none_longer : (before now pause : ℕ) → before ≤ max before (now + pause)
none_longer before now pause = omega arith

paused_longer : (due before now soon wait pause : ℕ) → due ≤ before → soon ≤ now + wait → wait ≤ pause → max (max due soon) before ≤ max before (now + pause)
paused_longer due before now soon wait pause early paused few = omega (arith, early, paused, few)

-- a reply is taken, and the next operation may be asked for by then
made_by : (end next turnaround pause due now wait : ℕ) → next ≡ end + (turnaround + pause) → now ≤ due + turnaround → due ≤ end → wait ≤ max due (now + pause) → max now wait ≤ next
made_by end next turnaround pause due now wait is soon early paused = omega (arith, is, soon, early, paused)

one_more : (start made time : ℕ) → start + (made + 1) * time ≡ start + made * time + time
one_more start made time = grind arith

at_first : (start time : ℕ) → start ≤ start + 0 * time
at_first start time = omega arith

not_later : (start made bound turnaround pause due moment : ℕ) → made + 1 ≤ bound → due ≤ start + made * (turnaround + pause) → moment ≤ due + turnaround → start + bound * (turnaround + pause) < moment → ⊥
not_later start made bound turnaround pause due moment few early soon late =
    let more : (made + 1) * (turnaround + pause) ≤ bound * (turnaround + pause) = mul-le-mul_right (turnaround + pause) few in
    omega (arith, more, early, soon, late)

-- ---- a story in which each reply is taken in time

-- the module has come up, or each operation has lasted no longer than a turnaround and a pause
abbrev KeepsTime : ℕ → ℕ → Story → Type 0
KeepsTime pause start story = (turnaround : ℕ) → IsPrompt turnaround start story → HasComeUp story ⊎ (due_in start story ≤ start + made_in story * (turnaround + pause))

make_time : (pause start : ℕ) (before : Story) (op : Op) (reply : Reply) (wanted : Wanted) (now : ℕ) (result : Outcome) → waits_after result (due_in start before) ≤ max (due_in start before) (now + pause) → KeepsTime pause start before
    → KeepsTime pause start (make op reply wanted now result ∷ before)
make_time pause start before op reply wanted now result paused time turnaround (soon, prompt) = by soon (time turnaround prompt) where
  by : IsSoon turnaround start before now → HasComeUp before ⊎ (due_in start before ≤ start + made_in before * (turnaround + pause))
      → HasComeUp (make op reply wanted now result ∷ before) ⊎ (max now (waits_after result (due_in start before)) ≤ start + (made_in before + 1) * (turnaround + pause))
  by (inl up) early = inl (inr up)
  by (inr soon) (inl up) = inl (inr up)
  by (inr soon) (inr early) =
      inr (made_by (start + made_in before * (turnaround + pause)) (start + (made_in before + 1) * (turnaround + pause)) turnaround pause (due_in start before) now (waits_after result (due_in start before))
      (one_more start (made_in before) (turnaround + pause)) soon early paused)

-- ---- a port at such a module

abbrev IsBriefStage : ℕ → Stage → Type 0
IsBriefStage longest stages.Absent = ⊥
IsBriefStage longest (stages.Left reason) = ⊥
IsBriefStage longest (stages.Working job) = IsBriefJob longest job

-- it works, and an operation may be asked for from the moment on that the story says
record IsTimed (pause start : ℕ) (held : Bool) (story : Story) (port : Port) : Type 0 where
  due : port.due ≤ due_in start story
  brief : IsBriefStage pause port.stage
  holds : port.held ≡ held
  time : KeepsTime pause start story

-- an event that makes no operation
idle_timed : (pause start : ℕ) (held : Bool) (between later : Port) (before story : Story) → later.due ≡ between.due → later.stage ≡ between.stage → later.held ≡ between.held → due_in start story ≡ due_in start before
    → KeepsTime pause start story → IsTimed pause start held before between → IsTimed pause start held story later
idle_timed pause start held between later before story due stage holds same time timed = record {
  due = omega (arith, due, same, timed.due);
  brief = subst (IsBriefStage pause) (sym stage) timed.brief;
  holds = holds ∙ timed.holds;
  time = time;
}

still : {P Q R : Type 0} → P ⊎ Q → (Q → R) → P ⊎ R
still (inl p) next = inl p
still (inr q) next = inr (next q)

up_first : {P Q R : Type 0} → P ⊎ R → (P ⊎ Q) ⊎ R
up_first (inl p) = inl (inl p)
up_first (inr r) = inr r

-- ---- a turn

module _ (pause start : ℕ) (held : Bool) (between : Port) (before : Story) (timed : IsTimed pause start held before between) (op : Op) (reply : Reply) (wanted : Wanted) (now : ℕ) (found : Option Op) where
  abbrev told : Port
  told = noting (answered between) found reply now

  abbrev made : Outcome → Story
  made result = make op reply wanted now result ∷ before

  abbrev Goes : Outcome → Port → Type 0
  Goes result later = IsUpResult result ⊎ IsTimed pause start held (made result) later

  on_timed : (job : Job) (note : Note) → wait_of between.times note ≡ 0 → IsBriefJob pause job → IsTimed pause start held (made (outcomes.Went note)) (turned told (turns.On job note) now)
  on_timed job note none brief = record {
    due = due_at_once between.due (due_in start before) now (waits.later now (wait_of between.times note)) timed.due (no_wait now (wait_of between.times note) none);
    brief = brief;
    holds = timed.holds;
    time = make_time pause start before op reply wanted now (outcomes.Went note) (none_longer (due_in start before) now pause) timed.time;
  }

  turned_timed : (turn : Turn) → IsBrief pause turn → IsGoing (outcome_of told turn now) → ¬ (IsUpStage (turned told turn now).stage) → Goes (outcome_of told turn now) (turned told turn now)
  turned_timed (turns.On job notes.Quiet) brief goes not = inr (on_timed job notes.Quiet refl brief.0)
  turned_timed (turns.On job notes.Identified) brief goes not = inr (on_timed job notes.Identified refl brief.0)
  turned_timed (turns.On job notes.Woken) brief goes not = inr (on_timed job notes.Woken refl brief.0)
  turned_timed (turns.On job notes.Provisioned) brief goes not = inr (on_timed job notes.Provisioned refl brief.0)
  turned_timed (turns.On job notes.CameUp) brief goes not = inl tt
  turned_timed (turns.On job notes.Held) brief goes not = absurd (not brief.1)
  turned_timed (turns.Paused job time) brief goes not = inr (record {
    due = due_paused between.due (due_in start before) now (waits.later now time);
    brief = brief.0;
    holds = timed.holds;
    time = make_time pause start before op reply wanted now (outcomes.Paused (max between.due (waits.later now time)))
        (paused_longer between.due (due_in start before) now (waits.later now time) time pause timed.due (some_wait now time) brief.1) timed.time;
  })
  turned_timed (turns.Failed why) brief goes not = absurd goes
  turned_timed (turns.Left reason) brief goes not = absurd goes

  becomes_timed : (turn : Turn) (result : Outcome) (later : Port) → IsBrief pause turn → result ≡ outcome_of told turn now → later ≡ turned told turn now → IsGoing result → ¬ (IsUpStage later.stage) → Goes result later
  becomes_timed turn result later brief outcome becomes goes not =
      subst (λ (later : Port). ¬ (IsUpStage later.stage) → Goes result later) (sym becomes)
      (subst (λ (result : Outcome). IsGoing result → ¬ (IsUpStage (turned told turn now).stage) → Goes result (turned told turn now)) (sym outcome) (turned_timed turn brief) goes) not

told_outcome : (port : Port) (found : Option Op) (reply : Reply) (turn : Turn) (now : ℕ) → outcome_of (noting (answered port) found reply now) turn now ≡ outcome_of port turn now
told_outcome port found reply (turns.On job note) now = refl
told_outcome port found reply (turns.Paused job time) now = refl
told_outcome port found reply (turns.Failed fault) now = refl
told_outcome port found reply (turns.Left reason) now = refl

-- ---- an operation

module _ (most : ℕ) (first : SimModule) (whole : AreWhole first.image) (paged : IsPaged first.image) (can_wait : IsAwaited most first.image) (start : ℕ) (held : Bool) (between later : Port) (sim : SimModule) (before : Story)
    (op : Op) (reply : Reply) (wanted : Wanted) (now : ℕ) (result : Outcome) where
  abbrev longest : ℕ
  longest = pause_for first.image

  stage_timed : (stage : Stage) → Holds most first whole paged can_wait between sim → IsTimed longest start held before between → OwnStage most first stage sim → IsBriefStage longest stage → asked_in stage ≡ Some op → Answers op reply
      → reply ≡ reply_of sim op → IsTurnedIn stage between reply wanted now result later → IsGoing result → ¬ (IsUpStage later.stage) → IsUpResult result ⊎ IsTimed longest start held (make op reply wanted now result ∷ before) later
  stage_timed stages.Absent holds timed own brief asks answers gives is goes not = absurd own
  stage_timed (stages.Left reason) holds timed own brief asks answers gives is goes not = absurd own
  stage_timed (stages.Working job) holds timed own brief asks answers gives (turn, leads, outcome, becomes) goes not =
      let same : sim.image ≡ first.image = holds.image in
      let here : IsBriefJob (pause_for sim.image) job = subst (λ (memory : Memory). IsBriefJob (pause_for memory) job) (sym same) brief in
      let turns_brief = own_brief most sim holds.halves (subst AreWhole (sym same) whole) (subst IsPaged (sym same) paged) op reply answers gives first (granted between.request wanted) job turn own asks here (between.apply_refused, leads) in
      becomes_timed longest start held between before timed op reply wanted now (asked job) turn result later (subst (λ (memory : Memory). IsBrief (pause_for memory) turn) same turns_brief)
      (outcome ∙ sym (told_outcome between (asked job) reply turn now)) becomes goes not

  made_timed : Holds most first whole paged can_wait between sim → IsTimed longest start held before between → IsWaitedFor between → awaited between ≡ Some op → IsAwaitedBy between.outstanding between reply → reply ≡ reply_of sim op → IsTaken between reply wanted now result later
      → IsGoing result → ¬ (IsUpStage later.stage) → IsUpResult result ⊎ IsTimed longest start held (make op reply wanted now result ∷ before) later
  made_timed holds timed waited asks replies gives is goes not =
      let waits : between.outstanding ≡ outstanding.Awaited = fresh_awaited most first whole paged can_wait between.outstanding holds.fresh waited in
      let reply_to : IsReplyTo (asked_in between.stage) reply = subst (λ (o : Outstanding). IsAwaitedBy o between reply) waits replies in
      let answers : Answers op reply = subst (λ (found : Option Op). IsReplyTo found reply) asks reply_to in
      let turned_in : IsTurnedIn between.stage between reply wanted now result later = subst (λ (o : Outstanding). IsTakenBy o between reply wanted now result later) waits is in
      stage_timed between.stage holds timed holds.own timed.brief asks answers gives turned_in goes not

-- ---- a whole story

module _ (most : ℕ) (first : SimModule) (whole : AreWhole first.image) (can_wait : IsAwaited most first.image) (port : Port) (now : ℕ) (has : HasHalves first) (steady : IsSteady most first) where
  abbrev start : ℕ
  start = (plugged now port).due

  abbrev Timed : Story → Port → Type 0
  Timed story later = IsTimed (pause_for first.image) start port.held story later

  plugged_timed : Timed [] (plugged now port)
  plugged_timed = record {
    due = omega arith;
    brief = first_pause first.image;
    holds = refl;
    time = λ turnaround prompt. inr (at_first start (turnaround + pause_for first.image));
  }

  keeps : (later : Port) (after : SimModule) (story : Story) → Works (plugged now port) first story later after → IsUndisturbed (IsSpared most first) story → AllSuit first story → HasComeUp story ⊎ Timed story later
  keeps later after [] (is, same) calm suit = inr (subst (Timed []) (sym is) plugged_timed)
  keeps later after (plug moment ∷ before) ran calm suit = absurd calm
  keeps later after (pull ∷ before) ran calm suit = absurd calm
  keeps later after (reconsider ∷ before) ran calm suit = absurd calm
  keeps later after (hold held ∷ before) ran calm suit = absurd calm
  keeps later after (demand request ∷ before) ran calm suit = absurd calm
  keeps later after (acknowledge past ∷ before) (between, sim, ran, is, same) calm suit =
      still (keeps between sim before ran calm suit) (λ timed. idle_timed (pause_for first.image) start port.held between later before (acknowledge past ∷ before)
      (ap (λ (p : Port). p.due) is) (ap (λ (p : Port). p.stage) is) (ap (λ (p : Port). p.held) is) refl timed.time timed)
  keeps later after (hear alive began ∷ before) (between, sim, ran, is, same) calm suit =
      still (keeps between sim before ran calm suit) (λ timed. idle_timed (pause_for first.image) start port.held between later before (hear alive began ∷ before)
      (ap (λ (p : Port). p.due) is) (ap (λ (p : Port). p.stage) is) (ap (λ (p : Port). p.held) is) refl timed.time timed)
  keeps later after (ask op moment ∷ before) (between, sim, ran, (asks, is), same) calm suit =
      still (keeps between sim before ran calm suit) (λ timed. idle_timed (pause_for first.image) start port.held between later before (ask op moment ∷ before)
      (ap (λ (p : Port). p.due) is) (ap (λ (p : Port). p.stage) is) (ap (λ (p : Port). p.held) is) refl timed.time timed)
  keeps later after (drop ∷ before) (between, sim, ran, (lost, is), same) calm suit =
      still (keeps between sim before ran calm suit) (λ timed. idle_timed (pause_for first.image) start port.held between later before (drop ∷ before)
      (ap (λ (p : Port). p.due) is) (ap (λ (p : Port). p.stage) is) (ap (λ (p : Port). p.held) is) refl timed.time timed)
  keeps later after (make op reply wanted moment result ∷ before) (between, sim, ran, (waited, asks, replies, is), (gives, same)) calm suit =
      let paged : IsPaged first.image = is_paged (conventions_of wanted) first.image refl suit.0.read in
      let begun : Holds most first whole paged can_wait (plugged now port) first = holds_first most first whole paged can_wait port now has steady in
      let kept = plugged_keeps most port first now has steady in
      by paged (runs most first whole paged can_wait (plugged now port) between sim before kept begun ran calm.1 suit.1)
      (runs most first whole paged can_wait (plugged now port) later after (make op reply wanted moment result ∷ before) kept begun (between, sim, ran, (waited, asks, replies, is), (gives, same)) calm suit) (keeps between sim before ran calm.1 suit.1) where
        by : (paged : IsPaged first.image) → HasComeUp before ⊎ IsRun most first whole paged can_wait (plugged now port) before between sim → HasComeUp (make op reply wanted moment result ∷ before) ⊎ IsRun most first whole paged can_wait (plugged now port) (make op reply wanted moment result ∷ before) later after → HasComeUp before ⊎ Timed before between
            → HasComeUp (make op reply wanted moment result ∷ before) ⊎ Timed (make op reply wanted moment result ∷ before) later
        by paged (inl up) on timed = inl (inr up)
        by paged (inr run) (inl up) timed = inl up
        by paged (inr run) (inr on) (inl up) = inl (inr up)
        by paged (inr run) (inr on) (inr timed) =
            up_first (made_timed most first whole paged can_wait start port.held between later sim before op reply wanted moment result run.holds timed waited asks replies gives is on.goes.0 (not_up most first later.stage after on.holds.own))

-- ---- the laws

timed_in : (most : ℕ) (first : SimModule) (port later : Port) (after : SimModule) (now : ℕ) (story : Story) → HasHalves first → IsSteady most first → AreWhole first.image → IsProvisionable most first → Works (plugged now port) first story later after
    → IsUndisturbed (λ result. Unit {0}) story → AllSuit first story → HasComeUp story ⊎ IsTimed (pause_for first.image) (plugged now port).due port.held story later
timed_in most first port later after now story has steady whole may ran calm suit =
    keeps most first whole (awaits most first.image may.lasts) port now has steady later after story ran (undisturbed (λ result. Unit {0}) (IsSpared most first) (λ result none. inr may) story calm) suit

pub suited_has_come_up_in_time : SuitedHasComeUpInTime
suited_has_come_up_in_time most turnaround now moment port later sim after story has steady whole may ran calm suit prompt soon late =
    by (cases_lt (65 + 3 * most_waits most) (made_in story)) (timed_in most sim port later after now story has steady whole may ran calm suit) where
      in_time : made_in story ≤ 65 + 3 * most_waits most → IsSoon turnaround (plugged now port).due story moment → HasComeUp story ⊎ (due_in (plugged now port).due story ≤ (plugged now port).due + made_in story * (turnaround + pause_for sim.image)) → HasComeUp story
      in_time few (inl up) early = up
      in_time few (inr soon) (inl up) = up
      in_time few (inr soon) (inr early) =
          absurd (not_later (plugged now port).due (made_in story) (66 + 3 * most_waits most) turnaround (pause_for sim.image) (due_in (plugged now port).due story) moment (omega (arith, few)) early soon late)

      by : (65 + 3 * most_waits most < made_in story) ⊎ (made_in story ≤ 65 + 3 * most_waits most) → HasComeUp story ⊎ IsTimed (pause_for sim.image) (plugged now port).due port.held story later → HasComeUp story
      by (inl many) timed = suited_has_come_up most port later sim after now story has steady whole may ran calm suit many
      by (inr few) (inl up) = up
      by (inr few) (inr timed) = in_time few soon (timed.time turnaround prompt)

-- the port that was plugged comes from its past
reached_on : (times : Times) (past : Story) (port later : Port) (now : ℕ) (sim after : SimModule) (story : Story) → Runs (absent times outstanding.Nothing no_flags false) past port → Works (plugged now port) sim story later after
    → Runs (absent times outstanding.Nothing no_flags false) (story ++ (plug now ∷ past)) later
reached_on times past port later now sim after [] reached (is, same) = (port, reached, is)
reached_on times past port later now sim after (event ∷ before) reached (between, between_sim, ran, becomes, answered) = (between, reached_on times past port between now sim between_sim before reached ran, becomes)

in_time : (due before moment : ℕ) → due ≤ before → before ≤ moment → due ≤ moment
in_time due before moment early late = omega (arith, early, late)

pub suited_is_asked_for : SuitedIsAskedFor
suited_is_asked_for most now moment past story port later sim after (times, reached) free has steady whole may ran calm suit nothing due =
    still (timed_in most sim port later after now story has steady whole may ran calm suit) (λ timed. asks timed later.stage refl timed.brief) where
      asks : IsTimed (pause_for sim.image) (plugged now port).due port.held story later → (stage : Stage) → later.stage ≡ stage → IsBriefStage (pause_for sim.image) stage → (op : Op) × (next_at later moment ≡ Do op)
      asks timed stages.Absent is brief = absurd brief
      asks timed (stages.Left reason) is brief = absurd brief
      asks timed (stages.Working job) is brief =
          never_stops (story ++ (plug now ∷ past)) later job moment (times, reached_on times past port later now sim after story reached ran) is nothing (timed.holds ∙ free)
          (in_time later.due (due_in (plugged now port).due story) moment timed.due due)
