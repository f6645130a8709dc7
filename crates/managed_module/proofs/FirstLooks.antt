-- The first look at a simulated module that came up finds its goal up. It reads the lower half, selects page 11h, reads that back, and
-- reads the page; each of them in vain never.
use Rattle.std.proofs.Common.{◌≡◌, inl, inr, ℕ, zero, suc, ◌+◌, ◌-◌, ◌&&◌, ◌||◌, ◌==◌, not, Bool, true, false, List, [], ◌∷◌, Some, None, get_or, map, refl, sym, ap, subst, ◌∙◌, if◌then◌else◌, arith, eq-eqb}
use Rattle.std.specs.Prelude.{slice_index}
use Rattle.std.specs.FinSet as set
use Rattle.std.specs.List.{range_with_len}
use Rattle.std.proofs.lemmas.List.FromFn.{get_or-map-range_with_len}
use Rattle.bus_model.specs.declared.device.Dev.TheVariants.{A0}
use Rattle.bus_model.specs.declared.operation.Op.{Op}
use Rattle.bus_model.specs.declared.operation.Reply.{Reply}
use Rattle.bus_model.specs.declared.operation.Reply.TheVariants.{Bytes}
use Rattle.bus_model.specs.ScriptedBus.{passed_on}
use Rattle.conversations.specs.declared.next.Next.TheVariants.{End}
use Rattle.conversations.specs.declared.on_page.OnPage.{OnPage}
use Rattle.conversations.specs.declared.pausing.Patience.{Patience}
use Rattle.conversations.specs.declared.pausing.Timed.{Timed}
use Rattle.conversations.specs.declared.pausing.Timed.TheVariants.{InTime}
use Rattle.conversations.specs.declared.within.Spent.{Spent}
use Rattle.conversations.specs.Pauses.{idle_after, is_fruitless, is_selecting}
use Rattle.conversations.specs.Wanted.{op_of}
use Rattle.control_sets.specs.OutcomeAnswers.{most_steps}
use Rattle.datapath_states.specs.StateCodes.{code_of}
use Rattle.datapath_states.specs.declared.state.PathState.{PathState}
use Rattle.field_tables.specs.declared.field.Field.TheVariants as fields
use Rattle.field_tables.specs.declared.table.cmis.CmisField.TheVariants as cmis
use Rattle.field_tables.specs.FieldValues.{number_in_byte}
use Rattle.field_tables.specs.LaneSets.{IsLane}
use Rattle.field_tables.proofs.TrueTests.{range_passes}
use Rattle.module_states.specs.Codes as module_codes
use Rattle.module_states.specs.declared.state.ModuleState.{ModuleState}
use Rattle.paged_memory.specs.declared.page_addressing.KnownPage.{KnownPage}
use Rattle.paged_memory.specs.declared.page_addressing.KnownPage.TheVariants.{Unknown, Open, Page as Known}
use Rattle.paged_memory.specs.declared.page_addressing.PageAddressing.TheVariants.{BankAndPage}
use Rattle.paged_memory.specs.PageAddressing.{read_selection, selection}
use Rattle.port_manager.specs.declared.deciding.Goal.{Goal}
use Rattle.port_manager.specs.declared.look.Look.{Look}
use Rattle.port_manager.specs.declared.look.LookStage.{LookStage}
use Rattle.port_manager.specs.declared.look.LookStage.TheVariants.{Lower, Lanes, Seen}
use Rattle.port_manager.specs.Goals.{active_at, are_up, at_lane, has_all, is_activated, is_active}
use Rattle.port_manager.specs.Jobs.{look_after, look_wants, paged_look}
use Rattle.port_manager.specs.Looks.{above, below, fetch_half}
use Rattle.port_manager.specs.Patients.{Patient, pause_in, rested_if, wants_on}
use Rattle.sim_module.specs.declared.module.SimModule.{SimModule}
use Rattle.sim_module.specs.Lanes.{lane_at}
use Rattle.sim_module.specs.Modules.{conduct}
use Rattle.sim_module.specs.ShownBytes.{shown_byte}
use Rattle.sim_module.specs.Ticks.{ticked}
use Rattle.sim_module.proofs.IdleModule.{Shows, shows_kept}
use Rattle.sim_liveness.specs.Released.{IsInUse}
use Rattle.sim_liveness.proofs.InTime.{none_left_up}
use Rattle.sim_liveness.proofs.ReadStates.{read_state}
use Rattle.managed_module.specs.Managed.{HasHalves}
use Rattle.managed_module.proofs.Halves.{IsSelected, reads_back, reads_half, selected_ticked, selects, shown, shows_there, takes_store}
use Rattle.managed_module.proofs.OwnLanes.{ShowsLanes, shows_lanes}
use Rattle.managed_module.proofs.OwnTasks.{module_after, reply_of}
use Rattle.managed_module.proofs.ProcedureSteps.{IsHarmless, harmless_leaves, known_passed}
use Rattle.managed_module.proofs.Procedures.{ComeUp, up_left, up_tick}
use Rattle.managed_module.proofs.SteadyModules.{counters_passed}

-- ---- how far it has come

abbrev look_with : Goal → Patience → LookStage → KnownPage → ℕ → Patient (OnPage Look)
look_with goal patience at selected steps = record {
  conversation = record {
    conversation = record { conversation = record { goal = goal; stage = at }; selection = selected; taken = None; doubts = true };
    patience = patience;
    due = false;
    idle = 0;
  };
  steps = steps;
  limit = most_steps;
}

-- after so many operations
abbrev pub looked : ℕ → Goal → Patience → Patient (OnPage Look)
looked zero goal patience = look_with goal patience Lower Unknown 0
looked (suc zero) goal patience = look_with goal patience Lanes Unknown 1
looked (suc (suc zero)) goal patience = look_with goal patience Lanes Open 2
looked (suc (suc (suc zero))) goal patience = look_with goal patience Lanes (Known 0x11) 3
looked (suc (suc (suc (suc made)))) goal patience = look_with goal patience (Seen true) (Known 0x11) 4

-- page 11h was selected, or read back as such
abbrev pub IsMapped : ℕ → SimModule → Type 0
IsMapped zero sim = Unit {0}
IsMapped (suc zero) sim = Unit {0}
IsMapped (suc (suc zero)) sim = IsSelected sim 0x11
IsMapped (suc (suc (suc zero))) sim = Shows 0x11 sim
IsMapped (suc (suc (suc (suc made)))) sim = Unit {0}

mapped_tick : (made : ℕ) (sim : SimModule) → IsMapped made sim → IsMapped made (ticked sim)
mapped_tick zero sim mapped = tt
mapped_tick (suc zero) sim mapped = tt
mapped_tick (suc (suc zero)) sim mapped = selected_ticked sim 0x11 mapped
mapped_tick (suc (suc (suc zero))) sim mapped = (shows_kept 0x11).tick sim mapped
mapped_tick (suc (suc (suc (suc made)))) sim mapped = tt

-- the lanes of its goal are up, and stay so
pub record IsConfirming (most : ℕ) (job : Patient (OnPage Look)) (sim : SimModule) : Type 0 where
  pub goal : Goal
  pub patience : Patience
  pub made : ℕ
  pub is : job ≡ looked made goal patience
  pub used : (lane : ℕ) → IsLane lane → set.contains goal.lanes lane ≡ true → IsInUse goal.control lane
  pub up : ComeUp most goal.control goal.lanes 0 sim
  pub mapped : IsMapped made sim

none_more : 0 - 1 ≡ 0
none_more = omega arith

module _ (most : ℕ) (goal : Goal) (used : (lane : ℕ) → IsLane lane → set.contains goal.lanes lane ≡ true → IsInUse goal.control lane) where
  up_ticks : (sim : SimModule) → ComeUp most goal.control goal.lanes 0 sim → ComeUp most goal.control goal.lanes 0 (ticked sim)
  up_ticks sim up = subst (λ (n : ℕ). ComeUp most goal.control goal.lanes n (ticked sim)) none_more (up_tick most goal.control goal.lanes 0 sim used up)

  up_harmless : (op : Op) (sim : SimModule) → IsHarmless op → ComeUp most goal.control goal.lanes 0 sim → ComeUp most goal.control goal.lanes 0 (module_after sim op)
  up_harmless op sim harmless up =
      let mid = (passed_on conduct op sim).1 in
      up_ticks mid (up_left most goal.control goal.lanes 0 sim mid (harmless_leaves op sim harmless) (counters_passed most op sim up.counters) up)

pub confirming_tick : (most : ℕ) (job : Patient (OnPage Look)) (sim : SimModule) → IsConfirming most job sim → IsConfirming most job (ticked sim)
confirming_tick most job sim c = record {
  goal = c.goal;
  patience = c.patience;
  made = c.made;
  is = c.is;
  used = c.used;
  up = up_ticks most c.goal c.used sim c.up;
  mapped = mapped_tick c.made sim c.mapped;
}

-- ---- what it reads

module _ (most : ℕ) (goal : Goal) (sim : SimModule) (up : ComeUp most goal.control goal.lanes 0 sim) where
  -- the state of the module
  lower_seen : (page : List ℕ) → below (map (shown_byte sim page) (range_with_len 0 128)) ≡ Lanes
  lower_seen page =
      let bytes = map (shown_byte sim page) (range_with_len 0 128) in
      let code : number_in_byte (fields.Cmis cmis.ModuleState) (slice_index bytes 3) ≡ 3 =
      ap (number_in_byte (fields.Cmis cmis.ModuleState)) (get_or-map-range_with_len (shown_byte sim page) 0 128 3 3 0 (omega arith) refl) ∙ read_state sim page ∙ ap (λ (state : ModuleState). module_codes.code_of state) up.free.ready in
      ap (λ (code : ℕ). if code == 3 then Lanes else Seen false) code

  -- page 11h
  module _ (page : List ℕ) (shows : ShowsLanes page sim) where
    active_shown : (lane : ℕ) → IsLane lane → is_active page goal.control lane ≡ true
    active_shown lane within = eq-eqb (active_at page lane) (at_lane goal.control lane) (shows.active lane within ∙ ap (λ (bytes : List ℕ). at_lane bytes lane) up.free.rest.active)

    up_shown : (lane : ℕ) → IsLane lane → set.contains goal.lanes lane ≡ true → is_activated page lane ≡ true
    up_shown lane within inside =
        let path = none_left_up most sim.delays (lane_at sim lane).path (lane_at sim lane).ticks_left (up.counters.lanes lane within) (up.near lane within inside) in
        ap (λ (code : ℕ). code == 4) (shows.states lane within ∙ ap (λ (path : PathState). code_of path) path)

    all_active : has_all page goal.control ≡ true
    all_active = range_passes (is_active page goal.control) 1 8 (λ lane from to. active_shown lane (from, omega (arith, to)))

    lane_up : (lane : ℕ) (inside : Bool) → IsLane lane → set.contains goal.lanes lane ≡ inside → (not (set.contains goal.lanes lane) || (is_activated page lane && is_active page goal.control lane)) ≡ true
    lane_up lane false within e = ap (λ (inside : Bool). not inside || (is_activated page lane && is_active page goal.control lane)) e
    lane_up lane true within e =
        ap (λ (inside : Bool). not inside || (is_activated page lane && is_active page goal.control lane)) e
        ∙ ap (λ (b : Bool). b && is_active page goal.control lane) (up_shown lane within e) ∙ active_shown lane within

    all_up : are_up page goal.control goal.lanes ≡ true
    all_up =
        range_passes (λ lane. not (set.contains goal.lanes lane) || (is_activated page lane && is_active page goal.control lane)) 1 8
        (λ lane from to. lane_up lane (set.contains goal.lanes lane) (from, omega (arith, to)) refl)

    lanes_seen : above goal page ≡ Seen true
    lanes_seen = ap (λ (b : Bool). Seen (b && are_up page goal.control goal.lanes)) all_active ∙ ap (λ (b : Bool). Seen b) all_up

-- ---- one operation

-- what it is after an operation and its reply, where the conversation within is this
abbrev next_look : Patience → OnPage Look → Op → Reply → ℕ → Patient (OnPage Look)
next_look patience on op reply steps =
    let fruitless = is_fruitless op reply (op_of (wants_on paged_look on)) in
    let later : Patient (OnPage Look) = record {
      conversation = record { conversation = on; patience = patience; due = fruitless; idle = idle_after fruitless (is_selecting op) 0 };
      steps = steps;
      limit = most_steps;
    } in
    rested_if (pause_in (look_wants later)) later

abbrev seen_at : Goal → LookStage → KnownPage → OnPage Look
seen_at goal at selected = record { conversation = record { goal = goal; stage = at }; selection = selected; taken = None; doubts = true }

pub record IsLooked (made : ℕ) (goal : Goal) (patience : Patience) (op : Op) (reply : Reply) (after : SimModule) : Type 0 where
  pub is : look_after (looked made goal patience) reply ≡ looked (made + 1) goal patience
  pub mapped : IsMapped (made + 1) after
  pub harmless : IsHarmless op

module _ (most : ℕ) (goal : Goal) (patience : Patience) (sim : SimModule) (has : HasHalves sim) (up : ComeUp most goal.control goal.lanes 0 sim) where
  abbrev Looks : ℕ → Op → Type 0
  Looks made op = IsLooked made goal patience op (reply_of sim op) (module_after sim op)

  looks_below : Looks 0 (fetch_half 0)
  looks_below =
      let (page, reads) = reads_half sim 0 128 has in
      let bytes = map (shown_byte sim page) (range_with_len 0 128) in
      let reply : Reply = Bytes (record { items = bytes }) in
      record {
        is = ap (look_after (looked 0 goal patience)) reads
            ∙ ap (λ (at : LookStage). next_look patience (seen_at goal at Unknown) (fetch_half 0) reply 1) (lower_seen most goal sim up page);
        mapped = tt;
        harmless = inl (A0, 0, 128, refl);
      }

  selects_lanes : Looks 1 (selection BankAndPage 0x11)
  selects_lanes = record {
    is = ap (look_after (looked 1 goal patience)) (takes_store sim 126 (0 ∷ 0x11 ∷ []) has);
    mapped = selects sim 0x11 has;
    harmless = inr (0x11, refl);
  }

  reads_selected : IsSelected sim 0x11 → Looks 2 (read_selection BankAndPage)
  reads_selected selected =
      let back : shown sim ≡ 0 ∷ 0x11 ∷ [] = shows_there sim 0x11 has.status selected in
      let shows : Shows 0x11 sim = record { bank = ap (λ (bytes : List ℕ). get_or bytes 0 0) back; number = ap (λ (bytes : List ℕ). get_or bytes 1 0) back } in
      record {
        is = ap (look_after (looked 2 goal patience)) (reads_back sim has ∙ ap (λ (bytes : List ℕ). Bytes (record { items = bytes })) back);
        mapped = known_passed (Known 0x11) (read_selection BankAndPage) sim (λ covers. covers) (λ page e. subst (λ (page : ℕ). Shows page sim) (same_page page e) shows) 0x11 refl;
        harmless = inl (A0, 126, 2, refl);
      } where
        same_page : (page : ℕ) → Known 0x11 ≡ Known page → 0x11 ≡ page
        same_page page e = cc

  looks_above : Shows 0x11 sim → Looks 3 (fetch_half 128)
  looks_above shows =
      let (page, reads) = reads_half sim 128 128 has in
      let bytes = map (shown_byte sim page) (range_with_len 128 128) in
      let reply : Reply = Bytes (record { items = bytes }) in
      record {
        is = ap (look_after (looked 3 goal patience)) reads
            ∙ ap (λ (at : LookStage). next_look patience (seen_at goal at (Known 0x11)) (fetch_half 128) reply 4) (lanes_seen most goal sim up bytes (shows_lanes sim page shows up.free.rest.eight));
        mapped = tt;
        harmless = inl (A0, 128, 128, refl);
      }

  looks : (made : ℕ) (op : Op) → IsMapped made sim → op_of (look_wants (looked made goal patience)) ≡ Some op → Looks made op
  looks zero op mapped asks = let same : fetch_half 0 ≡ op = cc in subst (Looks 0) same looks_below
  looks (suc zero) op mapped asks = let same : selection BankAndPage 0x11 ≡ op = cc in subst (Looks 1) same selects_lanes
  looks (suc (suc zero)) op mapped asks = let same : read_selection BankAndPage ≡ op = cc in subst (Looks 2) same (reads_selected mapped)
  looks (suc (suc (suc zero))) op mapped asks = let same : fetch_half 128 ≡ op = cc in subst (Looks 3) same (looks_above mapped)
  looks (suc (suc (suc (suc made)))) op mapped asks = absurd cc

pub confirming_goes_on : (most : ℕ) (job : Patient (OnPage Look)) (sim : SimModule) (op : Op) (reply : Reply) → HasHalves sim → IsConfirming most job sim → op_of (look_wants job) ≡ Some op → reply ≡ reply_of sim op
    → IsConfirming most (look_after job reply) (module_after sim op)
confirming_goes_on most job sim op reply has c asks gives =
    let looked_on = looks most c.goal c.patience sim has c.up c.made op c.mapped (ap (λ (job : Patient (OnPage Look)). op_of (look_wants job)) (sym c.is) ∙ asks) in
    record {
      goal = c.goal;
      patience = c.patience;
      made = c.made + 1;
      is = ap (λ (job : Patient (OnPage Look)). look_after job reply) c.is ∙ ap (look_after (looked c.made c.goal c.patience)) gives ∙ looked_on.is;
      used = c.used;
      up = up_harmless most c.goal c.used op sim looked_on.harmless c.up;
      mapped = looked_on.mapped;
    }

-- ---- its end

looked_ends : (made : ℕ) (goal : Goal) (patience : Patience) (spent : Spent (Timed Bool)) → look_wants (looked made goal patience) ≡ End spent → spent.end ≡ Some (InTime true)
looked_ends zero goal patience spent e = absurd cc
looked_ends (suc zero) goal patience spent e = absurd cc
looked_ends (suc (suc zero)) goal patience spent e = absurd cc
looked_ends (suc (suc (suc zero))) goal patience spent e = absurd cc
looked_ends (suc (suc (suc (suc made)))) goal patience spent e =
    let same : ◌≡◌ {A = Spent (Timed Bool)} (record { steps = 4; end = Some (InTime true) }) spent = cc in
    ap (λ (s : Spent (Timed Bool)). s.end) (sym same)

-- in time, and the goal is up
pub confirming_ends : (most : ℕ) (job : Patient (OnPage Look)) (sim : SimModule) (spent : Spent (Timed Bool)) → IsConfirming most job sim → look_wants job ≡ End spent → spent.end ≡ Some (InTime true)
confirming_ends most job sim spent c e = looked_ends c.made c.goal c.patience spent (ap look_wants (sym c.is) ∙ e)
