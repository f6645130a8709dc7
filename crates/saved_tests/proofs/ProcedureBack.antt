-- The numbers of a test under way stand for it.
use Rattle.std.proofs.Common.{◌≡◌, ◌≤◌, ◌∙◌, ◌==◌, ◌&&◌, nat_le, Bool, true, Some, None, cond, take, ap}
use Rattle.std.proofs.lemmas.Bool.{and_from, and_parts, eq-eqb, le-leb, leb-true}
use Rattle.std.specs.List.{list_all}
use Rattle.lane_controls.specs.declared.link_test.LinkTest.{LinkTest}
use Rattle.saved_tests.specs.declared.numbers.SavedTest.{SavedTest}
use Rattle.saved_tests.specs.SavedTests.{Procedure, are_changes, are_switches, changes_in, fault_in, has_lists, is_change, is_fault, is_one, is_plan, is_sound, is_stage, is_switch, page_in, plan_in, procedure_in, stage_in, taken_in, test_at, test_in, test_magic}
use Rattle.saved_tests.specs.Selections.{is_selection}

-- ---- the parts that a test has

pub record AreTest (saved : SavedTest) (test : LinkTest) : Type 0 where
  pub plan : plan_in saved.plan ≡ test.plan
  pub stage : stage_in saved.stage saved.hand saved.byte ≡ test.stage
  pub next_switch : saved.next_switch ≡ test.next_switch
  pub on : changes_in saved.on_count saved.on ≡ test.on.items
  pub still_on : changes_in saved.still_on_count saved.still_on ≡ test.still_on.items
  pub tries : saved.tries ≡ test.tries
  pub rounds : saved.rounds ≡ test.rounds
  pub fault : fault_in saved.fault saved.fault_control ≡ test.fault
  pub results : take saved.result_count saved.results ≡ test.results.items
  pub flags : saved.flags ≡ test.flags

pub test_back : (saved : SavedTest) (test : LinkTest) → AreTest saved test → test_at saved ≡ test
test_back saved test parts = λ i. record {
  plan = parts.plan i;
  stage = parts.stage i;
  next_switch = parts.next_switch i;
  on = record { items = parts.on i };
  still_on = record { items = parts.still_on i };
  tries = parts.tries i;
  rounds = parts.rounds i;
  fault = parts.fault i;
  results = record { items = parts.results i };
  flags = parts.flags i;
}

pub record AreKnown (saved : SavedTest) : Type 0 where
  pub magic : saved.magic ≡ test_magic
  pub plan : is_plan saved.plan ≡ true
  pub stage : is_stage saved.stage saved.hand ≡ true
  pub fault : is_fault saved.fault saved.fault_control ≡ true
  pub results : saved.result_count ≤ 128
  pub on : are_changes saved.on_count saved.on ≡ true
  pub still_on : are_changes saved.still_on_count saved.still_on ≡ true

lists_known : (saved : SavedTest) → AreKnown saved → has_lists saved ≡ true
lists_known saved parts =
    and_from (nat_le saved.result_count 128) (are_changes saved.on_count saved.on && are_changes saved.still_on_count saved.still_on)
    (le-leb saved.result_count 128 parts.results)
    (and_from (are_changes saved.on_count saved.on) (are_changes saved.still_on_count saved.still_on) parts.on parts.still_on)

pub sound : (saved : SavedTest) → AreKnown saved → is_sound saved ≡ true
sound saved parts =
    and_from (saved.magic == test_magic) (is_plan saved.plan && (is_stage saved.stage saved.hand && (is_fault saved.fault saved.fault_control && has_lists saved)))
    (eq-eqb saved.magic test_magic parts.magic)
    (and_from (is_plan saved.plan) (is_stage saved.stage saved.hand && (is_fault saved.fault saved.fault_control && has_lists saved)) parts.plan
    (and_from (is_stage saved.stage saved.hand) (is_fault saved.fault saved.fault_control && has_lists saved) parts.stage
    (and_from (is_fault saved.fault saved.fault_control) (has_lists saved) parts.fault (lists_known saved parts))))

-- ---- no more are counted than there is room for

pub record AreFew (saved : SavedTest) : Type 0 where
  pub plan : saved.plan.count ≤ 16
  pub on : saved.on_count ≤ 16
  pub still_on : saved.still_on_count ≤ 16
  pub results : saved.result_count ≤ 128

pub few : (saved : SavedTest) → is_sound saved ≡ true → AreFew saved
few saved is =
    let later = (and_parts (saved.magic == test_magic) (is_plan saved.plan && (is_stage saved.stage saved.hand && (is_fault saved.fault saved.fault_control && has_lists saved))) is).1 in
    let planned = and_parts (is_plan saved.plan) (is_stage saved.stage saved.hand && (is_fault saved.fault saved.fault_control && has_lists saved)) later in
    let switched = (and_parts (is_selection saved.plan.results) (are_switches saved.plan.count saved.plan.switches) planned.0).1 in
    let staged = (and_parts (is_stage saved.stage saved.hand) (is_fault saved.fault saved.fault_control && has_lists saved) planned.1).1 in
    let listed = (and_parts (is_fault saved.fault saved.fault_control) (has_lists saved) staged).1 in
    let counted = and_parts (nat_le saved.result_count 128) (are_changes saved.on_count saved.on && are_changes saved.still_on_count saved.still_on) listed in
    let changed = and_parts (are_changes saved.on_count saved.on) (are_changes saved.still_on_count saved.still_on) counted.1 in
    record {
      plan = leb-true saved.plan.count 16 (and_parts (nat_le saved.plan.count 16) (list_all is_switch (take saved.plan.count saved.plan.switches)) switched).0;
      on = leb-true saved.on_count 16 (and_parts (nat_le saved.on_count 16) (list_all is_change (take saved.on_count saved.on)) changed.0).0;
      still_on = leb-true saved.still_on_count 16 (and_parts (nat_le saved.still_on_count 16) (list_all is_change (take saved.still_on_count saved.still_on)) changed.1).0;
      results = leb-true saved.result_count 128 counted.0;
    }

-- ---- the parts that a test under way has

pub record AreParts (saved : SavedTest) (procedure : Procedure) : Type 0 where
  pub sound : is_sound saved ≡ true
  pub test : test_at saved ≡ procedure.conversation.conversation.conversation
  pub selection : page_in saved.selection saved.page ≡ procedure.conversation.conversation.selection
  pub taken : taken_in saved.taken saved.taken_page ≡ procedure.conversation.conversation.taken
  pub doubts : is_one saved.doubts ≡ procedure.conversation.conversation.doubts
  pub pause : saved.pause ≡ procedure.conversation.patience.pause
  pub limit : saved.limit ≡ procedure.conversation.patience.limit
  pub due : is_one saved.due ≡ procedure.conversation.due
  pub idle : saved.idle ≡ procedure.conversation.idle
  pub steps : saved.steps ≡ procedure.steps
  pub most : saved.max_steps ≡ procedure.limit

procedure_back : (saved : SavedTest) (procedure : Procedure) → AreParts saved procedure → procedure_in saved ≡ procedure
procedure_back saved procedure parts = λ i. record {
  conversation = record {
    conversation = record {
      conversation = parts.test i;
      selection = parts.selection i;
      taken = parts.taken i;
      doubts = parts.doubts i;
    };
    patience = record { pause = parts.pause i; limit = parts.limit i };
    due = parts.due i;
    idle = parts.idle i;
  };
  steps = parts.steps i;
  limit = parts.most i;
}

pub under_way : (saved : SavedTest) (procedure : Procedure) → AreParts saved procedure → test_in saved ≡ Some procedure
unfolding test_in
under_way saved procedure parts =
    ap (λ (b : Bool). cond b (Some (procedure_in saved)) None) parts.sound
    ∙ ap (λ (p : Procedure). Some p) (procedure_back saved procedure parts)
