-- What a port is after each event of a story.
use Rattle.std.proofs.Common.{◌≡◌, ◌≤◌, ◌⊎◌, inl, inr, ℕ, Bool, true, false, [], ◌∷◌, Option, Some, None, refl, sym, ap, subst, ◌∙◌, arith}
use Rattle.std.specs.Prelude.{◌==◌, ◌||◌, ◌&&◌, not, max, nat_lt, if◌then◌else◌}
use Rattle.std.proofs.lemmas.Bool.{ltb-false}
use Rattle.bus_model.specs.declared.operation.Op.{Op}
use Rattle.bus_model.specs.declared.operation.Reply.{Reply}
use Rattle.bus_model.specs.Operations.{Answers}
use Rattle.paged_memory.specs.PageAddressing.{History}
use Rattle.port_manager.specs.declared.deciding.Wanted.{Wanted}
use Rattle.port_manager.specs.declared.flags.FlagKeeper.{FlagKeeper}
use Rattle.port_manager.specs.declared.job.Job.{Job}
use Rattle.port_manager.specs.declared.job.Job.TheVariants as jobs
use Rattle.port_manager.specs.declared.port.Outcome.{Outcome}
use Rattle.port_manager.specs.declared.port.Outcome.TheVariants as outcome
use Rattle.port_manager.specs.declared.port.Outstanding.{Outstanding}
use Rattle.port_manager.specs.declared.port.Outstanding.TheVariants as outstanding
use Rattle.port_manager.specs.declared.port.Port.{Port}
use Rattle.conversations.specs.declared.next.Next.{Next}
use Rattle.conversations.specs.declared.next.Next.TheVariants as nexts
use Rattle.port_manager.specs.declared.port.Rest.{Rest}
use Rattle.port_manager.specs.declared.port.Rest.TheVariants as rests
use Rattle.port_manager.specs.declared.port.Stage.{Stage}
use Rattle.port_manager.specs.declared.port.Stage.TheVariants as stages
use Rattle.port_manager.specs.declared.times.Times.{Times}
use Rattle.port_manager.specs.Turns.{Turn}
use Rattle.port_manager.specs.Turns as turns
use Rattle.port_manager.specs.Flags.{acknowledged, no_flags, noted, unread}
use Rattle.port_manager.specs.Jobs.{IsReplyTo, asked, reading}
use Rattle.port_manager.specs.declared.request.Request.{Request}
use Rattle.port_manager.specs.declared.silence.Silence.{Silence}
use Rattle.port_manager.specs.Requests.{ended, granted}
use Rattle.port_manager.specs.Silences as silences
use Rattle.port_manager.specs.Ports.{acknowledged_to, asked_for, request_after, silent, IfWorking, IsAwaitedBy, IsRestartedIn, IsTakenBy, IsTurnedIn, absent, answered, asked_in, asking, awaited, begun_in, forsaken, holding, is_vain_after, next_at, next_in, next_of, next_when, noted_of, noting, outcome_of, plugged, pulled, reconsidered, reconsidered_by, restarted, turned, vain_after, is_apply_refused, is_settled_by}
use Rattle.port_manager.specs.Runs.{Becomes, Reaches, Runs}
use Rattle.port_manager.specs.Stories.{Event, Story, ask, drop, keeper_in, make, outstanding_in, plug, pull, reconsider, acknowledge, request_in, settled_in, staled, step_with, steps_of, hold, demand, hear, held_in}
use Rattle.port_manager.specs.Readings.{GivesActivation, GivesGoal, GivesProvisioning, GivesSleep, GivesWaking, SinceRead}
use Rattle.port_manager.specs.Standing.{IfTrue, IsAt, IsFounded, IsNamed, IsTame, IsWatching, UnlessStale}
use Rattle.port_manager.specs.Waits.{later}
use Rattle.port_manager.specs.Waits.{left}
use Rattle.port_manager.proofs.TurnLaws.{IfOn, NamesNext, Settles, begun_founded, turn_founded, turn_names, turn_settles, turn_tame}
use Rattle.port_manager.proofs.TurnCases.{IsAnyTurn}

-- ---- what is dropped with the next reply

pub fresh : (o : Outstanding) (P : Type 0) → P → UnlessStale o P
fresh outstanding.Nothing P p = p
fresh outstanding.Awaited P p = p
fresh outstanding.Stale P p = tt
fresh outstanding.Forsaken P p = p

fresh_in : (o : Outstanding) (P Q : Type 0) → (P → Q) → UnlessStale o P → UnlessStale o Q
fresh_in outstanding.Nothing P Q more p = more p
fresh_in outstanding.Awaited P Q more p = more p
fresh_in outstanding.Stale P Q more p = tt
fresh_in outstanding.Forsaken P Q more p = more p

pub unless_at : (o at : Outstanding) (P : Type 0) → o ≡ at → UnlessStale o P → UnlessStale at P
unless_at o at P e p = subst (λ (o : Outstanding). UnlessStale o P) e p

-- ---- what rests on the last reading still does

named_over : (story more : Story) (job : Job) → ((P : History → Wanted → Type 0) → SinceRead P story → SinceRead P more) → IsNamed story job → IsNamed more job
named_over story more (jobs.Reading reading woken) over named = tt
named_over story more (jobs.Waking change) over named = (named.0, over GivesWaking named.1)
named_over story more (jobs.Sleeping change) over named = (named.0, over GivesSleep named.1)
named_over story more (jobs.Provisioning procedure goal) over named = (named.0, over (GivesProvisioning goal) named.1)
named_over story more (jobs.Activating procedure goal) over named = (named.0, over (GivesActivation goal) named.1)
named_over story more (jobs.Confirming look) over named = over (GivesGoal look.conversation.conversation.conversation.goal) named
named_over story more (jobs.Watching look) over named = over (GivesGoal look.conversation.conversation.conversation.goal) named

stage_named : (story more : Story) (stage : Stage) → ((P : History → Wanted → Type 0) → SinceRead P story → SinceRead P more) → IfWorking stage (IsNamed story) → IfWorking stage (IsNamed more)
stage_named story more stages.Absent over named = tt
stage_named story more (stages.Left reason) over named = tt
stage_named story more (stages.Working job) over named = named_over story more job over named

port_named : (story more : Story) (port : Port) → ((P : History → Wanted → Type 0) → SinceRead P story → SinceRead P more) → UnlessStale port.outstanding (IfWorking port.stage (IsNamed story))
    → UnlessStale port.outstanding (IfWorking port.stage (IsNamed more))
port_named story more port over named = fresh_in port.outstanding (IfWorking port.stage (IsNamed story)) (IfWorking port.stage (IsNamed more)) (stage_named story more port.stage over) named

restarted_founded : (stage : Stage) (history : History) → IfWorking (begun_in stage) (IsFounded history)
restarted_founded stages.Absent history = tt
restarted_founded (stages.Left reason) history = begun_founded history false
restarted_founded (stages.Working job) history = begun_founded history false

begun_named : (stage : Stage) (story : Story) → IfWorking (begun_in stage) (IsNamed story)
begun_named stages.Absent story = tt
begun_named (stages.Left reason) story = tt
begun_named (stages.Working job) story = tt

if_any : (b : Bool) → IfTrue b (Unit {0})
if_any true = tt
if_any false = tt

if_itself : (b : Bool) → IfTrue b (b ≡ true)
if_itself true = refl
if_itself false = tt

-- ---- each event

pub new_at : (times : Times) → IsAt [] (absent times outstanding.Nothing no_flags false)
new_at times = record { lawful = tt; outstanding = refl; waits = arith_le; held = refl; request = refl; silence = refl; apply_refused = refl; founded = tt; vain = refl; tame = tt; settled = tt; kept = refl; named = tt } where
  arith_le : 0 ≤ 0
  arith_le = omega arith

pub pull_at : (story : Story) (port : Port) → IsAt story port → IsAt (pull ∷ story) (pulled port)
pull_at story port at =
    record { lawful = at.lawful; outstanding = ap forsaken at.outstanding; waits = omega arith; held = at.held; request = refl; silence = refl; apply_refused = refl; founded = tt; vain = refl; tame = tt; settled = tt; kept = ap (λ (keeper : FlagKeeper). unread keeper.flags) at.kept; named = fresh (forsaken port.outstanding) (Unit {0}) tt }

pub plug_at : (story : Story) (port : Port) (now : ℕ) → IsAt story port → IsAt (plug now ∷ story) (plugged now port)
plug_at story port now at =
    record {
      lawful = at.lawful;
      outstanding = ap forsaken at.outstanding;
      waits = omega arith;
      held = at.held;
      request = refl;
      silence = refl;
      apply_refused = refl;
      founded = begun_founded [] false;
      vain = refl;
      tame = tt;
      settled = tt;
      kept = ap (λ (keeper : FlagKeeper). unread keeper.flags) at.kept;
      named = fresh (forsaken port.outstanding) (Unit {0}) tt;
    }

restart_at : (story : Story) (port : Port) → IsAt story port → port.outstanding ≡ staled (outstanding_in story) → IsAt (reconsider ∷ story) (restarted (record port { vain = false }))
restart_at story port at is =
    record {
      lawful = at.lawful;
      outstanding = is;
      waits = at.waits;
      held = at.held;
      request = at.request;
      silence = at.silence;
      apply_refused = at.apply_refused;
      founded = restarted_founded port.stage (steps_of story);
      vain = refl;
      tame = tt;
      settled = tt;
      kept = at.kept;
      named = fresh port.outstanding (IfWorking (begun_in port.stage) (IsNamed (reconsider ∷ story))) (begun_named port.stage (reconsider ∷ story));
    }

stale_at : (story : Story) (port : Port) → IsAt story port → outstanding.Stale ≡ staled (outstanding_in story) → IsAt (reconsider ∷ story) (record port { outstanding = outstanding.Stale; vain = false })
stale_at story port at is =
    record { lawful = at.lawful; outstanding = is; waits = at.waits; held = at.held; request = at.request; silence = at.silence; apply_refused = at.apply_refused; founded = at.founded; vain = refl; tame = tt; settled = tt; kept = at.kept; named = tt }

reconsider_by : (o : Outstanding) (story : Story) (port : Port) → port.outstanding ≡ o → IsAt story port → IsAt (reconsider ∷ story) (reconsidered_by o (record port { vain = false }))
reconsider_by outstanding.Nothing story port e at = restart_at story port at (e ∙ ap staled (sym e ∙ at.outstanding))
reconsider_by outstanding.Forsaken story port e at = restart_at story port at (e ∙ ap staled (sym e ∙ at.outstanding))
reconsider_by outstanding.Awaited story port e at = stale_at story port at (ap staled (sym e ∙ at.outstanding))
reconsider_by outstanding.Stale story port e at = stale_at story port at (ap staled (sym e ∙ at.outstanding))

pub reconsider_at : (story : Story) (port : Port) → IsAt story port → IsAt (reconsider ∷ story) (reconsidered port)
reconsider_at story port at = reconsider_by port.outstanding story port refl at

held_restart : (held : Bool) (story : Story) (port : Port) → IsAt story port → port.outstanding ≡ staled (outstanding_in story) → IsAt (hold held ∷ story) (restarted (record port { vain = false; held = held }))
held_restart held story port at is =
    record {
      lawful = at.lawful;
      outstanding = is;
      waits = at.waits;
      held = refl;
      request = at.request;
      silence = at.silence;
      apply_refused = at.apply_refused;
      founded = restarted_founded port.stage (steps_of story);
      vain = refl;
      tame = tt;
      settled = tt;
      kept = at.kept;
      named = fresh port.outstanding (IfWorking (begun_in port.stage) (IsNamed (hold held ∷ story))) (begun_named port.stage (hold held ∷ story));
    }

held_stale : (held : Bool) (story : Story) (port : Port) → IsAt story port → outstanding.Stale ≡ staled (outstanding_in story) → IsAt (hold held ∷ story) (record port { outstanding = outstanding.Stale; vain = false; held = held })
held_stale held story port at is =
    record { lawful = at.lawful; outstanding = is; waits = at.waits; held = refl; request = at.request; silence = at.silence; apply_refused = at.apply_refused; founded = at.founded; vain = refl; tame = tt; settled = tt; kept = at.kept; named = tt }

hold_by : (o : Outstanding) (held : Bool) (story : Story) (port : Port) → port.outstanding ≡ o → IsAt story port → IsAt (hold held ∷ story) (reconsidered_by o (record port { vain = false; held = held }))
hold_by outstanding.Nothing held story port e at = held_restart held story port at (e ∙ ap staled (sym e ∙ at.outstanding))
hold_by outstanding.Forsaken held story port e at = held_restart held story port at (e ∙ ap staled (sym e ∙ at.outstanding))
hold_by outstanding.Awaited held story port e at = held_stale held story port at (ap staled (sym e ∙ at.outstanding))
hold_by outstanding.Stale held story port e at = held_stale held story port at (ap staled (sym e ∙ at.outstanding))

pub hold_at : (held : Bool) (story : Story) (port : Port) → IsAt story port → IsAt (hold held ∷ story) (holding held port)
hold_at held story port at = hold_by port.outstanding held story port refl at

demand_restart : (request : Request) (story : Story) (port : Port) → IsAt story port → port.outstanding ≡ staled (outstanding_in story) → IsAt (demand request ∷ story) (restarted (record port { vain = false; request = request }))
demand_restart request story port at is =
    record {
      lawful = at.lawful;
      outstanding = is;
      waits = at.waits;
      held = at.held;
      request = refl;
      silence = at.silence;
      apply_refused = at.apply_refused;
      founded = restarted_founded port.stage (steps_of story);
      vain = refl;
      tame = tt;
      settled = tt;
      kept = at.kept;
      named = fresh port.outstanding (IfWorking (begun_in port.stage) (IsNamed (demand request ∷ story))) (begun_named port.stage (demand request ∷ story));
    }

demand_stale : (request : Request) (story : Story) (port : Port) → IsAt story port → outstanding.Stale ≡ staled (outstanding_in story)
    → IsAt (demand request ∷ story) (record port { outstanding = outstanding.Stale; vain = false; request = request })
demand_stale request story port at is =
    record { lawful = at.lawful; outstanding = is; waits = at.waits; held = at.held; request = refl; silence = at.silence; apply_refused = at.apply_refused; founded = at.founded; vain = refl; tame = tt; settled = tt; kept = at.kept; named = tt }

demand_by : (o : Outstanding) (request : Request) (story : Story) (port : Port) → port.outstanding ≡ o → IsAt story port → IsAt (demand request ∷ story) (reconsidered_by o (record port { vain = false; request = request }))
demand_by outstanding.Nothing request story port e at = demand_restart request story port at (e ∙ ap staled (sym e ∙ at.outstanding))
demand_by outstanding.Forsaken request story port e at = demand_restart request story port at (e ∙ ap staled (sym e ∙ at.outstanding))
demand_by outstanding.Awaited request story port e at = demand_stale request story port at (ap staled (sym e ∙ at.outstanding))
demand_by outstanding.Stale request story port e at = demand_stale request story port at (ap staled (sym e ∙ at.outstanding))

pub demand_at : (request : Request) (story : Story) (port : Port) → IsAt story port → IsAt (demand request ∷ story) (asked_for request port)
demand_at request story port at = demand_by port.outstanding request story port refl at

pub hear_at : (story : Story) (port : Port) (alive : Bool) (began : ℕ) → IsAt story port → IsAt (hear alive began ∷ story) (silent alive began port)
hear_at story port alive began at =
    record {
      lawful = at.lawful;
      outstanding = at.outstanding;
      waits = at.waits;
      held = at.held;
      request = at.request;
      silence = ap (λ (silence : Silence). silences.after silence alive began) at.silence;
      apply_refused = at.apply_refused;
      founded = at.founded;
      vain = at.vain;
      tame = at.tame;
      settled = at.settled;
      kept = at.kept;
      named = port_named story (hear alive began ∷ story) port (λ P since. since) at.named;
    }

pub acknowledge_at : (story : Story) (port : Port) (past : ℕ) → IsAt story port → IsAt (acknowledge past ∷ story) (acknowledged_to past port)
acknowledge_at story port past at =
    record {
      lawful = at.lawful;
      outstanding = at.outstanding;
      waits = at.waits;
      held = at.held;
      request = at.request;
      silence = at.silence;
      apply_refused = at.apply_refused;
      founded = at.founded;
      vain = at.vain;
      tame = at.tame;
      settled = at.settled;
      kept = ap (λ (keeper : FlagKeeper). acknowledged keeper past) at.kept;
      named = port_named story (acknowledge past ∷ story) port (λ P since. since) at.named;
    }

due_if : (early : Bool) (due now time : ℕ) (found : Option Op) (op : Op) → nat_lt now due ≡ early → (if early then nexts.Wait time else next_of found) ≡ nexts.Do op → due ≤ now
due_if true due now time found op e is = absurd (let same = is in cc)
due_if false due now time found op e is = ltb-false now due e

left_asks : (never : Bool) (time : ℕ) (op : Op) → (if never then nexts.End rests.Idle else nexts.Wait time) ≡ nexts.Do op → ⊥
left_asks true time op is = let same = is in cc
left_asks false time op is = let same = is in cc

due_in : (stage : Stage) (port : Port) (now : ℕ) (op : Op) → next_in stage port now ≡ nexts.Do op → port.due ≤ now
due_in stages.Absent port now op is = absurd (let same = is in cc)
due_in (stages.Left reason) port now op is = absurd (left_asks (port.times.recheck == 0) (left now port.recheck_at) op is)
due_in (stages.Working job) port now op is = due_if (nat_lt now port.due) port.due now (left now port.due) (asked job) op refl is

asked_by : (found : Option Op) (op : Op) → next_of found ≡ nexts.Do op → found ≡ Some op
asked_by None op is = absurd (let same = is in cc)
asked_by (Some made) op is = let same = is in cc

asked_if : (early : Bool) (time : ℕ) (found : Option Op) (op : Op) → (if early then nexts.Wait time else next_of found) ≡ nexts.Do op → found ≡ Some op
asked_if true time found op is = absurd (let same = is in cc)
asked_if false time found op is = asked_by found op is

pub asks_in : (stage : Stage) (port : Port) (now : ℕ) (op : Op) → next_in stage port now ≡ nexts.Do op → asked_in stage ≡ Some op
asks_in stages.Absent port now op is = absurd (let same = is in cc)
asks_in (stages.Left reason) port now op is = absurd (left_asks (port.times.recheck == 0) (left now port.recheck_at) op is)
asks_in (stages.Working job) port now op is = asked_if (nat_lt now port.due) (left now port.due) (asked job) op is

free_asks : (held : Bool) (next : Next Rest) (op : Op) → (if held then nexts.End rests.Idle else next) ≡ nexts.Do op → next ≡ nexts.Do op
free_asks true next op e = absurd (let same = e in cc)
free_asks false next op e = e

idle_when : (o : Outstanding) (port : Port) (now : ℕ) (op : Op) → port.held ≡ true → next_when o port now ≡ nexts.Do op → ⊥
idle_when outstanding.Nothing port now op held asks = let same : nexts.End rests.Idle ≡ nexts.Do op = sym (ap (λ (held : Bool). if held then nexts.End rests.Idle else next_in port.stage port now) held) ∙ asks in cc
idle_when outstanding.Awaited port now op held asks = let same = asks in cc
idle_when outstanding.Stale port now op held asks = let same = asks in cc
idle_when outstanding.Forsaken port now op held asks = let same = asks in cc

-- a port that is to hold still asks for nothing
pub holds_still : (story : Story) (port : Port) (op : Op) (now : ℕ) → IsAt story port → held_in story ≡ true → next_at port now ≡ nexts.Do op → ⊥
holds_still story port op now at held asks = idle_when port.outstanding port now op (at.held ∙ held) asks

pub asks_when : (o : Outstanding) (port : Port) (now : ℕ) (op : Op) → next_when o port now ≡ nexts.Do op → (o ≡ outstanding.Nothing) × (next_in port.stage port now ≡ nexts.Do op)
asks_when outstanding.Nothing port now op is = (refl, free_asks port.held (next_in port.stage port now) op is)
asks_when outstanding.Awaited port now op is = absurd (let same = is in cc)
asks_when outstanding.Stale port now op is = absurd (let same = is in cc)
asks_when outstanding.Forsaken port now op is = absurd (let same = is in cc)

pub ask_at : (story : Story) (port : Port) (op : Op) (now : ℕ) → next_at port now ≡ nexts.Do op → IsAt story port → IsAt (ask op now ∷ story) (asking port (nexts.Do op))
ask_at story port op now is at =
    let (nothing, does) = asks_when port.outstanding port now op is in
    let due = due_in port.stage port now op does in
    record {
      lawful = (record { one = sym at.outstanding ∙ nothing; waited = omega (arith, due, at.waits) }, at.lawful);
      outstanding = refl;
      waits = at.waits;
      held = at.held;
      request = at.request;
      silence = at.silence;
      apply_refused = at.apply_refused;
      founded = at.founded;
      vain = at.vain;
      tame = at.tame;
      settled = at.settled;
      kept = at.kept;
      named = stage_named story (ask op now ∷ story) port.stage (λ P since. since) (unless_at port.outstanding outstanding.Nothing (IfWorking port.stage (IsNamed story)) nothing at.named);
    }

drop_at : (story : Story) (port : Port) → IfWorking port.stage (IsNamed story) → IsAt story port → IsAt (drop ∷ story) (answered port)
drop_at story port named at =
    record {
      lawful = at.lawful;
      outstanding = refl;
      waits = at.waits;
      held = at.held;
      request = at.request;
      silence = at.silence;
      apply_refused = at.apply_refused;
      founded = at.founded;
      vain = at.vain;
      tame = at.tame;
      settled = at.settled;
      kept = at.kept;
      named = stage_named story (drop ∷ story) port.stage (λ P since. since) named;
    }

-- ---- a reply

-- the parts of what a story says of a port that works
pub record Works (story : Story) (port : Port) (job : Job) (op : Op) (reply : Reply) : Type 0 where
  pub at : IsAt story port
  pub works : port.stage ≡ stages.Working job
  pub asks : asked job ≡ Some op
  pub answers : Answers op reply

module _ (story : Story) (port : Port) (job : Job) (op : Op) (reply : Reply) (wanted : Wanted) (now : ℕ) (w : Works story port job op reply) where
  stage_is : (P : Job → Type 0) → IfWorking port.stage P → P job
  stage_is P all = subst (λ (stage : Stage). IfWorking stage P) w.works all

  noted_is : noted_of port.keeper (asked job) reply now ≡ noted (keeper_in story) op reply now
  noted_is = ap (λ (found : Option Op). noted_of port.keeper found reply now) w.asks ∙ ap (λ (keeper : FlagKeeper). noted keeper op reply now) w.at.kept

  abbrev wishes : Wanted
  wishes = granted (request_in story) wanted

  tame_after : (vain : Bool) (turn : Turn) → IfTrue vain (IsTame job) → IsAnyTurn wishes job reply turn → IfTrue vain (IfOn turn IsTame)
  tame_after true turn tame is = turn_tame wishes reply job turn tame is
  tame_after false turn tame is = tt

  watches : (settled : Bool) → IfTrue settled (IfWorking port.stage IsWatching) → IfTrue settled (IsWatching job)
  watches true all = stage_is IsWatching all
  watches false all = tt

  tames : (vain : Bool) → IfTrue vain (IfWorking port.stage IsTame) → IfTrue vain (IsTame job)
  tames true all = stage_is IsTame all
  tames false all = tt

  make_at : (turn : Turn) → IfOn turn (IsFounded (step_with op reply ∷ steps_of story)) → IfTrue port.vain (IfOn turn IsTame)
      → Settles (settled_in story) turn → NamesNext story op reply wanted now turn
      → IsAt (make op reply wanted now (outcome_of port turn now) ∷ story) (turned (noting (answered port) (asked job) reply now) turn now)
  make_at (turns.On after note) founded tame settles named =
      record {
        lawful = w.at.lawful;
        outstanding = refl;
        waits = omega (arith, w.at.waits);
        held = w.at.held;
        request = ap (λ (request : Request). request_after request note) w.at.request;
        silence = w.at.silence;
        apply_refused = ap (λ (refused : Bool). refused && not (is_settled_by note)) w.at.apply_refused;
        founded = founded;
        vain = w.at.vain;
        tame = tame;
        settled = settles;
        kept = noted_is;
        named = named;
      }
  make_at (turns.Paused after time) founded tame settles named =
      record {
        lawful = w.at.lawful;
        outstanding = refl;
        waits = omega (arith, w.at.waits);
        held = w.at.held;
        request = w.at.request;
        silence = w.at.silence;
        apply_refused = w.at.apply_refused;
        founded = founded;
        vain = w.at.vain;
        tame = tame;
        settled = settles;
        kept = noted_is;
        named = named (max port.due (later now time));
      }
  make_at (turns.Failed why) founded tame settles named =
      record {
        lawful = w.at.lawful;
        outstanding = refl;
        waits = omega (arith, w.at.waits);
        held = w.at.held;
        request = w.at.request;
        silence = w.at.silence;
        apply_refused = ap (λ (refused : Bool). refused || is_apply_refused why) w.at.apply_refused;
        founded = begun_founded (step_with op reply ∷ steps_of story) (vain_after port why);
        vain = ap (is_vain_after why) w.at.vain;
        tame = if_itself (vain_after port why);
        settled = tt;
        kept = noted_is;
        named = tt;
      }
  make_at (turns.Left reason) founded tame settles named =
      record {
        lawful = w.at.lawful;
        outstanding = refl;
        waits = w.at.waits;
        held = w.at.held;
        request = ap ended w.at.request;
        silence = w.at.silence;
        apply_refused = refl;
        founded = tt;
        vain = w.at.vain;
        tame = if_any port.vain;
        settled = tt;
        kept = noted_is;
        named = tt;
      }

  turned_at : (turn : Turn) → port.outstanding ≡ outstanding.Awaited → IsAnyTurn wishes job reply turn → IsAt (make op reply wanted now (outcome_of port turn now) ∷ story) (turned (noting (answered port) (asked job) reply now) turn now)
  turned_at turn asked_for is =
      let founded = stage_is (IsFounded (steps_of story)) w.at.founded in
      make_at turn
      (turn_founded (steps_of story) wishes op reply job turn founded w.asks w.answers is)
      (tame_after port.vain turn (tames port.vain w.at.tame) is)
      (turn_settles (settled_in story) wishes reply job turn (watches (settled_in story) w.at.settled) is)
      (turn_names story op reply wanted now job turn w.answers w.asks founded
      (stage_is (IsNamed story) (unless_at port.outstanding outstanding.Awaited (IfWorking port.stage (IsNamed story)) asked_for w.at.named)) is)

  restarted_at : IsAt (make op reply wanted now outcome.Dropped ∷ story) (record (noting (answered port) (asked job) reply now) { stage = stages.Working (reading port.vain) })
  restarted_at =
      record {
        lawful = w.at.lawful;
        outstanding = refl;
        waits = w.at.waits;
        held = w.at.held;
        request = w.at.request;
        silence = w.at.silence;
        apply_refused = w.at.apply_refused;
        founded = begun_founded (step_with op reply ∷ steps_of story) port.vain;
        vain = w.at.vain;
        tame = if_itself port.vain;
        settled = tt;
        kept = noted_is;
        named = tt;
      }

pub asks_job : (stage : Stage) (op : Op) → asked_in stage ≡ Some op → (job : Job) × (stage ≡ stages.Working job) × (asked job ≡ Some op)
asks_job stages.Absent op asks = absurd (let same = asks in cc)
asks_job (stages.Left reason) op asks = absurd (let same = asks in cc)
asks_job (stages.Working job) op asks = (job, refl, asks)

works_of : (story : Story) (port : Port) (job : Job) (op : Op) (reply : Reply) → IsAt story port → port.stage ≡ stages.Working job → asked job ≡ Some op → IsReplyTo (awaited port) reply → Works story port job op reply
works_of story port job op reply at is asks answers =
    record { at = at; works = is; asks = asks; answers = subst (λ (found : Option Op). IsReplyTo found reply) asks (subst (λ (stage : Stage). IsReplyTo (asked_in stage) reply) is answers) }

take_by : (o : Outstanding) (story : Story) (op : Op) (reply : Reply) (wanted : Wanted) (now : ℕ) (result : Outcome) (port after : Port) → (o ≡ outstanding.Awaited) ⊎ (o ≡ outstanding.Stale) → port.outstanding ≡ o
    → IsAt story port → awaited port ≡ Some op → IsAwaitedBy o port reply → IsTakenBy o port reply wanted now result after → IsAt (make op reply wanted now result ∷ story) after
take_by outstanding.Nothing story op reply wanted now result port after waits e at asks answers is = absurd answers
take_by outstanding.Forsaken story op reply wanted now result port after (inl awaited) e at asks answers is = absurd (let same = awaited in cc)
take_by outstanding.Forsaken story op reply wanted now result port after (inr stale) e at asks answers is = absurd (let same = stale in cc)
take_by outstanding.Awaited story op reply wanted now result port after waits e at asks answers is =
    let (job, works, wants) = asks_job port.stage op asks in
    let (turn, leads, gives, becomes) = subst (λ (stage : Stage). IsTurnedIn stage port reply wanted now result after) works is in
    subst (λ (after : Port). IsAt (make op reply wanted now result ∷ story) after) (sym becomes)
    (subst (λ (result : Outcome). IsAt (make op reply wanted now result ∷ story) (turned (noting (answered port) (asked job) reply now) turn now)) (sym gives)
    (turned_at story port job op reply wanted now (works_of story port job op reply at works wants answers) turn e
    (subst (λ (request : Request). IsAnyTurn (granted request wanted) job reply turn) at.request (port.apply_refused, leads))))
take_by outstanding.Stale story op reply wanted now result port after waits e at asks answers is =
    let (job, works, wants) = asks_job port.stage op asks in
    let (gives, becomes) = subst (λ (stage : Stage). IsRestartedIn stage port reply now result after) works is in
    subst (λ (after : Port). IsAt (make op reply wanted now result ∷ story) after) (sym becomes)
    (subst (λ (result : Outcome). IsAt (make op reply wanted now result ∷ story) (record (noting (answered port) (asked job) reply now) { stage = stages.Working (reading port.vain) })) (sym gives)
    (restarted_at story port job op reply wanted now (works_of story port job op reply at works wants answers)))

-- ---- a whole story

forsaken_at : (story : Story) (port : Port) → port.outstanding ≡ outstanding.Forsaken → IsAt story port → IsAt (drop ∷ story) (answered port)
forsaken_at story port e at = drop_at story port (unless_at port.outstanding outstanding.Forsaken (IfWorking port.stage (IsNamed story)) e at.named) at

becomes_at : (story : Story) (port after : Port) (event : Event) → IsAt story port → Becomes port event after → IsAt (event ∷ story) after
becomes_at story port after (plug now) at is = subst (IsAt (plug now ∷ story)) (sym is) (plug_at story port now at)
becomes_at story port after pull at is = subst (IsAt (pull ∷ story)) (sym is) (pull_at story port at)
becomes_at story port after reconsider at is = subst (IsAt (reconsider ∷ story)) (sym is) (reconsider_at story port at)
becomes_at story port after (hold held) at is = subst (IsAt (hold held ∷ story)) (sym is) (hold_at held story port at)
becomes_at story port after (demand request) at is = subst (IsAt (demand request ∷ story)) (sym is) (demand_at request story port at)
becomes_at story port after (acknowledge past) at is = subst (IsAt (acknowledge past ∷ story)) (sym is) (acknowledge_at story port past at)
becomes_at story port after (hear alive began) at is = subst (IsAt (hear alive began ∷ story)) (sym is) (hear_at story port alive began at)
becomes_at story port after (ask op moment) at (asks, is) = subst (IsAt (ask op moment ∷ story)) (sym is) (ask_at story port op moment asks at)
becomes_at story port after (make op reply wanted now result) at (waited, asks, answers, is) =
    take_by port.outstanding story op reply wanted now result port after waited refl at asks answers is
becomes_at story port after drop at (e, is) = subst (IsAt (drop ∷ story)) (sym is) (forsaken_at story port e at)

runs_from : (times : Times) (story : Story) (port : Port) → Runs (absent times outstanding.Nothing no_flags false) story port → IsAt story port
runs_from times [] port is = subst (IsAt []) (sym is) (new_at times)
runs_from times (event ∷ before) port (between, ran, is) = becomes_at before between port event (runs_from times before between ran) is

pub reaches_at : (story : Story) (port : Port) → Reaches story port → IsAt story port
reaches_at story port (times, ran) = runs_from times story port ran
