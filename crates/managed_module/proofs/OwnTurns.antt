-- What holds of the jobs of a port at a simulated module that suits what is wanted, and what each turn is to be.
use Rattle.port_manager.specs.declared.turn.Note.{Note}
use Rattle.port_manager.specs.declared.turn.Note.TheVariants as notes
use Rattle.managed_module.specs.ModuleGoals.{IsOwnGoal, IsPlanned}
use Rattle.std.specs.FinSet as set
use Rattle.field_tables.specs.LaneSets.{IsLane, is_empty}
use Rattle.field_tables.specs.Readings.{number}
use Rattle.applications.specs.Advertised.{advertised_under}
use Rattle.applications.specs.Refusals.{advert_fault_under}
use Rattle.applications.specs.Weights.{weight_at}
use Rattle.plan_certificate.specs.Paths.{app_of, is_allowed}
use Rattle.port_manager.specs.Goals.{conventions_of}
use Rattle.managed_module.specs.ComingUp.{IsUpNote}
use Rattle.managed_module.specs.Succeeds.{HasPath, IsNoProcedure, IsSpare, Suits}
use Rattle.managed_module.specs.SuitedModules.{IsProvisionable}
use Rattle.managed_module.proofs.OwnProcedures.{IsOnWay, way_paused}
use Rattle.managed_module.proofs.OwnLanes.{KeepsLanes, lanes_paused}
use Rattle.std.proofs.Common.{◌≡◌, ◌⊎◌, inl, inr, ℕ, ◌+◌, ◌*◌, ◌≤◌, Bool, true, false, List, [], ◌∷◌, Option, Some, None, refl, sym, ap, subst, ◌∙◌, arith}
use Rattle.std.specs.FinMap as finmap
use Rattle.bus_model.specs.ScriptedBus.{ticked_times}
use Rattle.conversations.specs.declared.pausing.Patience.{Patience}
use Rattle.field_tables.specs.declared.field.Field.TheVariants as fields
use Rattle.field_tables.specs.declared.table.cmis.CmisField.TheVariants as cmis
use Rattle.paged_memory.specs.declared.page_addressing.KnownPage.TheVariants.{Unknown, Page as Known}
use Rattle.paged_memory.specs.Images.{Memory}
use Rattle.paged_memory.specs.KeyOrder.{key_cmp}
use Rattle.control_sets.specs.Durations.{lasts, limit_after, longest_of, patience_for, pause_after, states_of}
use Rattle.module_reading.specs.ImageReading as reader
use Rattle.module_reading.specs.Regions.{everything}
use Rattle.port_manager.specs.declared.deciding.Wanted.{Wanted}
use Rattle.port_manager.specs.declared.job.Job.{Job}
use Rattle.port_manager.specs.declared.job.Job.TheVariants as jobs
use Rattle.port_manager.specs.Jobs.{begun_with, doubting, reading}
use Rattle.port_manager.specs.Turns.{Turn, going}
use Rattle.port_manager.specs.Turns as turns
use Rattle.port_manager.proofs.TurnProgress.{begun_reading}
use Rattle.sim_module.specs.declared.module.SimModule.{SimModule}
use Rattle.sim_module.specs.Modules.{conduct}
use Rattle.managed_module.specs.Bounds.{IsSteady}
use Rattle.managed_module.proofs.OwnHalves.{number_of_nothing}
use Rattle.managed_module.proofs.OwnReading.{IsOwnReading, left_to_read, reading_paused}
use Rattle.managed_module.proofs.OwnWaking.{IsOwnWaking, waking_paused}
use Rattle.managed_module.proofs.Procedures.{IsAwake}

-- lanes that were in no path at first are in none before the first store to lanes; then provisioning and activation go well
abbrev pub OwnJob : ℕ → SimModule → Job → SimModule → Type 0
OwnJob most first (jobs.Reading job woken) sim = IsOwnReading most woken job sim × KeepsLanes first sim
OwnJob most first (jobs.Waking job) sim = IsOwnWaking most job sim × KeepsLanes first sim
OwnJob most first (jobs.Sleeping job) sim = ⊥
OwnJob most first (jobs.Provisioning job goal) sim = IsProvisionable most first → IsOnWay most first (jobs.Provisioning job goal) sim
OwnJob most first (jobs.Activating job goal) sim = IsProvisionable most first → IsOnWay most first (jobs.Activating job goal) sim
OwnJob most first (jobs.Confirming job) sim = Unit {0}
OwnJob most first (jobs.Watching job) sim = ⊥

pub own_paused : (most : ℕ) (first : SimModule) (job : Job) (count : ℕ) (sim : SimModule) → OwnJob most first job sim → OwnJob most first job (ticked_times conduct count sim)
own_paused most first (jobs.Reading job woken) count sim own = (reading_paused most woken job count sim own.0, lanes_paused most first count sim own.0.steady own.1)
own_paused most first (jobs.Waking job) count sim own = (waking_paused most job count sim own.0, lanes_paused most first count sim own.0.steady own.1)
own_paused most first (jobs.Sleeping job) count sim own = own
own_paused most first (jobs.Provisioning job goal) count sim own = λ may. way_paused most first (jobs.Provisioning job goal) count sim (own may)
own_paused most first (jobs.Activating job goal) count sim own = λ may. way_paused most first (jobs.Activating job goal) count sim (own may)
own_paused most first (jobs.Confirming job) count sim own = own
own_paused most first (jobs.Watching job) count sim own = own

abbrev pub is_identified : Note → Bool
is_identified notes.Identified = true
is_identified notes.Quiet = false
is_identified notes.Woken = false
is_identified notes.Provisioned = false
is_identified notes.CameUp = false
is_identified notes.Held = false

-- what a reading leads to has a goal of the module
abbrev pub IsBegun : ℕ → Wanted → SimModule → SimModule → Job → Type 0
IsBegun most wanted first after (jobs.Reading job woken) = Unit {0}
IsBegun most wanted first after (jobs.Waking job) = Unit {0}
IsBegun most wanted first after (jobs.Sleeping job) = Unit {0}
IsBegun most wanted first after (jobs.Provisioning job goal) = IsPlanned (conventions_of wanted) first → IsOwnGoal most wanted after goal
IsBegun most wanted first after (jobs.Activating job goal) = IsPlanned (conventions_of wanted) first → IsOwnGoal most wanted after goal
IsBegun most wanted first after (jobs.Confirming job) = Unit {0}
IsBegun most wanted first after (jobs.Watching job) = Unit {0}

-- the module has come up, or it goes on, or provisioning or activation fails, which they don't if it is provisionable
abbrev pub OwnTurn : ℕ → Wanted → SimModule → SimModule → Turn → Type 0
OwnTurn most wanted first after (turns.On job note) = IsUpNote note ⊎ (OwnJob most first job after × (note ≡ notes.Identified → IsBegun most wanted first after job))
OwnTurn most wanted first after (turns.Paused job time) = OwnJob most first job after
OwnTurn most wanted first after (turns.Failed fault) = (¬ (IsNoProcedure fault)) × (¬ (IsProvisionable most first))
OwnTurn most wanted first after (turns.Left reason) = ⊥

pub not_begun : {P : Type 0} (note : Note) → is_identified note ≡ false → note ≡ notes.Identified → P
not_begun note off e = absurd (let wrong : false ≡ true = sym off ∙ ap is_identified e in cc)

pub going_own : (most : ℕ) (wanted : Wanted) (first after : SimModule) (pause : Option ℕ) (job : Job) → OwnJob most first job after → OwnTurn most wanted first after (going pause job)
going_own most wanted first after None job own = inr (own, not_begun notes.Quiet refl)
going_own most wanted first after (Some time) job own = own

-- ---- at the beginning

abbrev left_at_first : ℕ
left_at_first = left_to_read (begun_with (doubting (reader.begun everything)) (patience_for finmap.empty))

nothing_lasts : states_of finmap.empty ≡ 1 ∷ 1 ∷ 1 ∷ 1 ∷ 1 ∷ 1 ∷ []
nothing_lasts =
    let up = number_of_nothing (fields.Cmis cmis.MaxDurationModulePwrUp) in
    let down = number_of_nothing (fields.Cmis cmis.MaxDurationModulePwrDn) in
    let init = number_of_nothing (fields.Cmis cmis.MaxDurationDPInit) in
    let deinit = number_of_nothing (fields.Cmis cmis.MaxDurationDPDeinit) in
    let on = number_of_nothing (fields.Cmis cmis.MaxDurationDPTxTurnOn) in
    let off = number_of_nothing (fields.Cmis cmis.MaxDurationDPTxTurnOff) in
    λ i. lasts (up i) ∷ lasts (down i) ∷ lasts (init i) ∷ lasts (deinit i) ∷ lasts (on i) ∷ lasts (off i) ∷ []

pub first_patience : patience_for finmap.empty ≡ record { pause = 100; limit = 10000 }
first_patience = ap (λ (states : List ℕ). record { pause = pause_after (longest_of states); limit = limit_after (longest_of states) }) nothing_lasts

in_time : (left : ℕ) (patience : Patience) → left ≡ 13 → patience ≡ record { pause = 100; limit = 10000 } → 0 + left * patience.pause ≤ patience.limit
in_time left patience few is = subst (λ (p : Patience). 0 + left * p.pause ≤ p.limit) (sym is) (omega (arith, few))

pub reading_begins : (most : ℕ) (first : SimModule) (woken : Bool) (sim : SimModule) → IsSteady most sim → (woken ≡ true → IsAwake sim) → KeepsLanes first sim → OwnJob most first (reading woken) sim
reading_begins most first woken sim steady awake spares =
    let left : left_at_first ≡ 13 = omega (arith, begun_reading true) in
    let begun : IsOwnReading most woken (begun_with (doubting (reader.begun everything)) (patience_for finmap.empty)) sim = record {
      steady = steady;
      own = record {
        request = refl;
        few = omega (arith, finmap.len-empty key_cmp (List ℕ));
        none = λ none. refl;
        lower = λ one. absurd (omega (arith, one));
        first = λ two. absurd (omega (arith, two));
        second = λ three. absurd (omega (arith, three));
        lanes = λ five. absurd (omega (arith, five));
      };
      known = λ page e. absurd (let wrong : Unknown ≡ Known page = e in cc);
      link = λ opened. absurd (let wrong : false ≡ true = opened in cc);
      tells = record { ready = λ one is. absurd (omega (arith, one)); awake = awake; read = λ is one. absurd (omega (arith, one)) };
      time = record { pauses = in_time left_at_first (patience_for finmap.empty) left first_patience; steps = omega (arith, left) };
    } in
    (begun, spares)

-- ---- what is wanted suits the module still

pub suits_now : (first sim : SimModule) (wanted : Wanted) → sim.image ≡ first.image → KeepsLanes first sim → Suits first wanted → Suits sim wanted
suits_now first sim wanted same keeps suits = record {
  awake = suits.awake;
  read = ap (advert_fault_under (conventions_of wanted)) same ∙ suits.read;
  power = omega (arith, ap (λ (m : Memory). number m (fields.Cmis cmis.MaxPower)) same, suits.power);
  plan = plan_now suits.plan;
  may = λ lane within. by lane within (suits.may lane within);
} where
  plan_now : HasPath first wanted ⊎ (is_empty wanted.down ≡ false) → HasPath sim wanted ⊎ (is_empty wanted.down ≡ false)
  plan_now (inl p) = inl (record {
    path = p.path;
    allowed = ap (λ (m : Memory). is_allowed (advertised_under (conventions_of wanted) m) p.path) same ∙ p.allowed;
    weighs = omega (arith, ap (λ (m : Memory). weight_at wanted.hosts (app_of (advertised_under (conventions_of wanted) m) p.path).host_id) same, p.weighs);
  })
  plan_now (inr some) = inr some

  by : (lane : ℕ) → IsLane lane → (set.contains wanted.may_take_down lane ≡ true) ⊎ IsSpare first lane → (set.contains wanted.may_take_down lane ≡ true) ⊎ IsSpare sim lane
  by lane within (inl among) = inl among
  by lane within (inr spare) = inr (keeps.spares lane within spare)
