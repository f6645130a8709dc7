-- A success of provisioning with settings has read both, the control bytes and the settings, from the active set.
use Rattle.std.proofs.Common.{◌≡◌, ℕ, Bool, true, false, List, [], ◌∷◌, ◌++◌, append_assoc, length, Option, Some, None, is_none, Ok, Err, refl, sym, ap, subst, ◌∙◌, if◌then◌else◌}
use Rattle.bus_model.specs.declared.operation.Op.{Op}
use Rattle.bus_model.specs.declared.operation.Step.{Step}
use Rattle.bus_model.specs.SameOperation.{same_op}
use Rattle.conversations.specs.declared.event.Event.TheVariants.{Made, Waited, Lacked, Asked}
use Rattle.conversations.specs.declared.pausing.Patience.{Patience}
use Rattle.conversations.specs.declared.pausing.Timed.{Timed}
use Rattle.conversations.specs.declared.pausing.Timed.TheVariants.{InTime, Overdue}
use Rattle.conversations.specs.declared.watching.Watched.{Watched}
use Rattle.conversations.specs.declared.watching.Watched.TheVariants as watched
use Rattle.conversations.specs.declared.within.Spent.{Spent}
use Rattle.conversations.specs.Events.{Events, steps_of}
use Rattle.conversations.specs.Budgets.{HasEnded}
use Rattle.conversations.specs.Pauses.{EndsPausing, GoesOnPausing}
use Rattle.control_sets.specs.OutcomeAnswers.{most_steps}
use Rattle.explicit_provisioning.specs.declared.fault.ExplicitFault.{ExplicitFault}
use Rattle.field_tables.specs.LaneSets.{Lanes}
use Rattle.control_sets.specs.declared.procedures.procedure.Work.TheVariants.{Provisioning}
use Rattle.control_sets.specs.OutcomeOperations.{read_active, status_page}
use Rattle.control_sets.specs.Pages.{History}
use Rattle.control_sets.specs.Progress.{EndsList}
use Rattle.control_sets.specs.Tasks.{provisioning}
use Rattle.control_sets.proofs.Turns.{steps_paused}
use Rattle.lane_controls.specs.declared.settings_change.SettingsChange.{SettingsChange}
use Rattle.lane_controls.specs.SettingsChanges.{inactive_lane}
use Rattle.explicit_provisioning.specs.declared.fault.ExplicitFault.TheVariants.{Provision}
use Rattle.std.specs.Option.{option_map}
use Rattle.explicit_provisioning.specs.declared.following.Sequel.TheVariants.{Early, Late}
use Rattle.explicit_provisioning.specs.Comparing.{ComparingEnds, comparing_needs}
use Rattle.explicit_provisioning.specs.ExplicitProcedures.{Ends, EndsPatiently, EndsWatched, ExplicitEnd, GoesOn, OwnEnds, RestEnds, TasksEnd, answer_by, answer_in_time, answer_watched, fault_of, needs, rest_needs, tasks_need, tasks_over}
use Rattle.explicit_provisioning.specs.Following.{HasPassed, first_part, second_part}
use Rattle.explicit_provisioning.specs.LastReads.{ReadsExplicit, bytes_or, is_change, read_settings}
use Rattle.explicit_provisioning.specs.Staging.{StagingEnds, is_staged, staging_needs}
use Rattle.explicit_provisioning.proofs.FollowingLaws.{parts_join}
use Rattle.explicit_provisioning.proofs.LastReadLaws.{AreOn, EachOn, each_on, last_given, on_both, same_read}
use Rattle.explicit_provisioning.proofs.LookedReads.{still_read}
use Rattle.explicit_provisioning.proofs.SettingsReads.{IsApart, comparing_ends, comparing_on_page, comparing_passes, staging_on_page}
use Rattle.explicit_provisioning.proofs.TaskReads.{ReadActive, active_on_page, settings_on_page, tasks_end, tasks_on_page}

steps_append : (own earlier : Events) → steps_of (own ++ earlier) ≡ steps_of own ++ steps_of earlier
steps_append [] earlier = refl
steps_append (Made step ∷ own) earlier = ap (λ (l : List Step). step ∷ l) (steps_append own earlier)
steps_append (Waited time ∷ own) earlier = steps_append own earlier
steps_append (Lacked page ∷ own) earlier = steps_append own earlier
steps_append (Asked number ∷ own) earlier = steps_append own earlier

no_fault : {E : Type 0} (fault : Option E) → is_none fault ≡ true → fault ≡ None
no_fault None e = refl
no_fault (Some fault) e = absurd cc

active_apart : IsApart read_active
active_apart = record { state = refl; controls = refl; settings = refl; stores = λ offset bytes. refl }

settings_apart : IsApart read_settings
settings_apart = record { state = refl; controls = refl; settings = refl; stores = λ offset bytes. refl }

-- the newest step of some, which read this, is what was read last
given_newest : (op : Op) (newest : Step) (before earlier own : History) → own ≡ newest ∷ before → same_op op newest.op ≡ true → last_given op (own ++ earlier) ≡ bytes_or (last_given op (before ++ earlier)) newest.reply
given_newest op newest before earlier own split same =
    ap (λ (o : History). last_given op (o ++ earlier)) split
    ∙ ap (λ (b : Bool). if b then bytes_or (last_given op (before ++ earlier)) newest.reply else (if is_change newest.op then None else last_given op (before ++ earlier))) same

module _ (change : SettingsChange) (control : List ℕ) (lanes : Lanes) (eight : length control ≡ 8) (own : Events)
    (staged : HasPassed (is_staged change) is_none (StagingEnds change) own)
    (done : HasPassed (tasks_over (Provisioning control lanes)) is_none (TasksEnd (Provisioning control lanes)) (second_part (is_staged change) own))
    (compared : ComparingEnds change (second_part (tasks_over (Provisioning control lanes)) (second_part (is_staged change) own)) None) where
  abbrev Rest : Events
  Rest = second_part (is_staged change) own

  abbrev Tasks : Events
  Tasks = first_part (tasks_over (Provisioning control lanes)) Rest

  abbrev Last : Events
  Last = second_part (tasks_over (Provisioning control lanes)) Rest

  abbrev Earlier : History
  Earlier = steps_of (first_part (is_staged change) own)

  -- the steps of the three, the last first
  joined : steps_of own ≡ steps_of Last ++ (steps_of Tasks ++ Earlier)
  joined =
      ap (λ (e : Events). steps_of e) (sym (parts_join (is_staged change) own))
      ∙ steps_append Rest (first_part (is_staged change) own)
      ∙ ap (λ (l : History). l ++ Earlier) (ap (λ (e : Events). steps_of e) (sym (parts_join (tasks_over (Provisioning control lanes)) Rest)) ∙ steps_append Last Tasks)
      ∙ append_assoc (steps_of Last) (steps_of Tasks) Earlier

  on : (op : Op) → IsApart op → AreOn status_page op (tasks_need (Provisioning control lanes)) Tasks → AreOn status_page op (needs change (Provisioning control lanes)) own
  on op apart tasks =
      on_both status_page op (is_staged change) (staging_needs change) (rest_needs change (Provisioning control lanes)) own
      (staging_on_page op apart change (first_part (is_staged change) own) staged.ended.each)
      (on_both status_page op (tasks_over (Provisioning control lanes)) (tasks_need (Provisioning control lanes)) (comparing_needs change) Rest tasks (comparing_on_page change op Last compared.each))

  read_by : ReadActive control (steps_of Tasks) → last_given read_active (steps_of own) ≡ Some control
  read_by read =
      ap (last_given read_active) joined
      ∙ comparing_passes change Last (steps_of Tasks ++ Earlier) compared.each
      ∙ given_newest read_active read.newest read.before Earlier (steps_of Tasks) read.split (ap (same_op read_active) read.reads)
      ∙ ap (bytes_or (last_given read_active (read.before ++ Earlier))) read.gives

  ended : EndsList (provisioning control lanes) (steps_of Tasks) None
  ended = subst (λ fault. EndsList (provisioning control lanes) (steps_of Tasks) fault) (no_fault done.end done.passed) done.ended

  pub controls_read : last_given read_active (steps_of own) ≡ Some control
  controls_read = read_by (tasks_end control lanes (steps_of Tasks) eight ended)

  pub active_on : AreOn status_page read_active (needs change (Provisioning control lanes)) own
  active_on = on read_active active_apart (tasks_on_page read_active active_on_page (Provisioning control lanes) Tasks done.ended.each)

  pub settings_on : AreOn status_page read_settings (needs change (Provisioning control lanes)) own
  settings_on = on read_settings settings_apart (tasks_on_page read_settings settings_on_page (Provisioning control lanes) Tasks done.ended.each)

  pub settings_read : (active : List ℕ) × (last_given read_settings (steps_of own) ≡ Some active) × (inactive_lane change.lanes change.settings active ≡ None)
  settings_read =
      let read = comparing_ends change Last compared.each compared.ends in (
        read.bytes.items,
        ap (last_given read_settings) joined
            ∙ given_newest read_settings read.newest read.before (steps_of Tasks ++ Earlier) (steps_of Last) read.split (ap (same_op read_settings) read.reads)
            ∙ ap (bytes_or (last_given read_settings (read.before ++ (steps_of Tasks ++ Earlier)))) read.gives,
        read.right,
      )

-- each time that one of the two was read, its page was confirmed
abbrev AreOnPages : History → Type 0
AreOnPages made = EachOn status_page read_active made × EachOn status_page read_settings made

module _ (change : SettingsChange) (control : List ℕ) (lanes : Lanes) (eight : length control ≡ 8) (events : Events) where
  -- it passes only without a fault
  not_early : {E : Type 0} (fault : Option E) → is_none fault ≡ false → fault ≡ None → ⊥
  not_early None passes none = cc
  not_early (Some fault) passes none = cc

  some_is : {E F : Type 0} (f : E → F) (fault : Option E) → option_map f fault ≡ None → fault ≡ None
  some_is f None none = refl
  some_is f (Some fault) none = absurd cc

  pub explicit_read : (end : ExplicitEnd) → fault_of end ≡ None → Ends change (Provisioning control lanes) events end → ReadsExplicit control change (steps_of events)
  explicit_read (Early fault) none (own, adds, ends) = absurd (not_early fault ends.0 none)
  explicit_read (Late (Early fault)) none (own, adds, ends) = absurd (not_early fault ends.1.0 (some_is Provision fault none))
  explicit_read (Late (Late (Some fault))) none (own, adds, ends) = absurd cc
  explicit_read (Late (Late None)) none (own, adds, (staged, (done, compared))) =
      let work = Provisioning control lanes in
      let found = settings_read change control lanes eight own staged done compared in
      record {
        controls = same_read status_page read_active refl (λ number. refl) (needs change work) own events adds (active_on change control lanes eight own staged done compared) ∙ controls_read change control lanes eight own staged done compared;
        active = found.0;
        settings = same_read status_page read_settings refl (λ number. refl) (needs change work) own events adds (settings_on change control lanes eight own staged done compared) ∙ found.1;
        right = found.2;
      }

  pub explicit_on : (end : ExplicitEnd) → fault_of end ≡ None → Ends change (Provisioning control lanes) events end → AreOnPages (steps_of events)
  explicit_on (Early fault) none (own, adds, ends) = absurd (not_early fault ends.0 none)
  explicit_on (Late (Early fault)) none (own, adds, ends) = absurd (not_early fault ends.1.0 (some_is Provision fault none))
  explicit_on (Late (Late (Some fault))) none (own, adds, ends) = absurd cc
  explicit_on (Late (Late None)) none (own, adds, (staged, (done, compared))) =
      let work = Provisioning control lanes in (
        each_on status_page read_active refl (λ number. refl) (needs change work) own events adds (active_on change control lanes eight own staged done compared),
        each_on status_page read_settings refl (λ number. refl) (needs change work) own events adds (settings_on change control lanes eight own staged done compared),
      )

module _ (change : SettingsChange) (control : List ℕ) (lanes : Lanes) (eight : length control ≡ 8) where
  pub paused_read : (patience : Patience) (events : Events) (end : ExplicitEnd) → fault_of end ≡ None
      → EndsPausing patience (GoesOn change (Provisioning control lanes)) (Ends change (Provisioning control lanes)) events (InTime end) → ReadsExplicit control change (steps_of events)
  paused_read patience events end none (due, idle, (own, adds, ends)) =
      subst (ReadsExplicit control change) (steps_paused patience own events None due idle adds) (explicit_read change control lanes eight own end none ends)

  paused_on : (patience : Patience) (events : Events) (end : ExplicitEnd) → fault_of end ≡ None
      → EndsPausing patience (GoesOn change (Provisioning control lanes)) (Ends change (Provisioning control lanes)) events (InTime end) → AreOnPages (steps_of events)
  paused_on patience events end none (due, idle, (own, adds, ends)) =
      subst AreOnPages (steps_paused patience own events None due idle adds) (explicit_on change control lanes eight own end none ends)

  ok_none : {F : Type 0} (steps number : ℕ) (fault : Option ExplicitFault) → answer_by {F = F} steps fault ≡ Ok number → fault ≡ None
  ok_none steps number None answer = refl
  ok_none steps number (Some fault) answer = absurd cc

  answered_by : (patience : Patience) (events : Events) (steps number : ℕ) (end : Option (Timed ExplicitEnd)) → answer_in_time {F = Unit {0}} steps end ≡ Ok number
      → HasEnded most_steps (GoesOnPausing patience (GoesOn change (Provisioning control lanes)))
      (EndsPausing patience (GoesOn change (Provisioning control lanes)) (Ends change (Provisioning control lanes))) events end → ReadsExplicit control change (steps_of events)
  answered_by patience events steps number None answer ended = absurd cc
  answered_by patience events steps number (Some Overdue) answer ended = absurd cc
  answered_by patience events steps number (Some (InTime end)) answer ended = paused_read patience events end (ok_none {F = Unit {0}} steps number (fault_of end) answer) ended

  pub answered_read : (patience : Patience) (events : Events) (spent : Spent (Timed ExplicitEnd)) (steps : ℕ) → EndsPatiently patience change (Provisioning control lanes) events spent
      → answer_in_time {F = Unit {0}} spent.steps spent.end ≡ Ok steps → ReadsExplicit control change (steps_of events)
  answered_read patience events spent steps ends answer = answered_by patience events spent.steps steps spent.end answer ends.ended

  on_by : (patience : Patience) (events : Events) (steps number : ℕ) (end : Option (Timed ExplicitEnd)) → answer_in_time {F = Unit {0}} steps end ≡ Ok number
      → HasEnded most_steps (GoesOnPausing patience (GoesOn change (Provisioning control lanes)))
      (EndsPausing patience (GoesOn change (Provisioning control lanes)) (Ends change (Provisioning control lanes))) events end → AreOnPages (steps_of events)
  on_by patience events steps number None answer ended = absurd cc
  on_by patience events steps number (Some Overdue) answer ended = absurd cc
  on_by patience events steps number (Some (InTime end)) answer ended = paused_on patience events end (ok_none {F = Unit {0}} steps number (fault_of end) answer) ended

  -- looks at the module's state change nothing of that
  pub watched_read : (patience : Patience) (events : Events) (end : Watched (Spent (Timed ExplicitEnd))) (steps : ℕ) → EndsWatched patience change (Provisioning control lanes) events end
      → answer_watched {F = Unit {0}} (Some end) ≡ Ok steps → ReadsExplicit control change (steps_of events)
  watched_read patience events (watched.InOrder spent) steps (look, (own, adds, ends)) answer =
      let reads = answered_read patience own spent steps ends answer in
      let on = on_by patience own spent.steps steps spent.end answer ends.ended in
      record {
        controls = still_read status_page read_active refl control own events look None adds on.0 reads.controls;
        active = reads.active;
        settings = still_read status_page read_settings refl reads.active own events look None adds on.1 reads.settings;
        right = reads.right;
      }
  watched_read patience events (watched.Left code) steps ends answer = absurd cc
