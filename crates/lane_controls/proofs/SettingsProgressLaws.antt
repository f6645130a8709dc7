-- A change of settings of a module that does as it is told ends within ten operations, with the settings active.
use Rattle.std.proofs.Common.{◌≡◌, ℕ, suc, ◌-◌, ◌<◌, Bool, if◌then◌else◌, nat_lt, List, [], ◌∷◌, length, Option, None, arith, refl, sym, ap, subst, ◌∙◌}
use Rattle.std.proofs.lemmas.Slice.Eq.{bytes_eq-Decides}
use Rattle.bus_model.specs.declared.operation.Op.{Op}
use Rattle.bus_model.specs.declared.operation.Reply.{Reply}
use Rattle.bus_model.specs.declared.operation.Step.{Step}
use Rattle.conversations.specs.declared.event.Event.TheVariants.{Made, Waited, Lacked, Asked}
use Rattle.conversations.specs.declared.next.Next.TheVariants.{Do, End}
use Rattle.conversations.specs.Events.{Events, steps_of}
use Rattle.field_tables.specs.LaneSets.{byte_of}
use Rattle.lane_controls.specs.declared.settings_change.ChangingSettings.{ChangingSettings}
use Rattle.lane_controls.specs.declared.settings_change.SettingsChange.{SettingsChange}
use Rattle.lane_controls.specs.declared.settings_change.SettingsEnd.{SettingsEnd}
use Rattle.lane_controls.specs.declared.settings_change.SettingsEnd.TheVariants as ends
use Rattle.lane_controls.specs.declared.settings_change.SettingsPiece.TheVariants.{First, Second, Third}
use Rattle.lane_controls.specs.declared.settings_change.SettingsStage.{SettingsStage}
use Rattle.lane_controls.specs.declared.settings_change.SettingsStage.TheVariants as stage
use Rattle.lane_controls.specs.ByteHistories.{store_at}
use Rattle.lane_controls.specs.SettingsChanges.{active_by, after_at, down_lane, goes_to, if_waiting, inactive_lane, mixed, read_from, rejected_lane, settings_after, unfit_lane, unless, waiting_lane, wants, wants_at}
use Rattle.lane_controls.specs.SettingsProgress.{AreShown, Obeys, Shown, Shows, bytes}

-- how many operations were made
abbrev point : SettingsStage → ℕ
point stage.States = 0
point stage.Staged = 1
point stage.Controls = 2
point (stage.Storing First) = 3
point (stage.Storing Second) = 4
point (stage.Storing Third) = 5
point stage.Stored = 6
point stage.Applying = 7
point stage.Applied = 8
point stage.Comparing = 9
point (stage.Ended end) = 10

module _ (change : SettingsChange) (shown : Shown) (obeys : Obeys change shown) where
  abbrev staged_so : List ℕ
  staged_so = mixed change shown.staged

  abbrev Has : SettingsStage → ChangingSettings → Type 0
  Has stage.States changing = Unit {0}
  Has stage.Staged changing = Unit {0}
  Has stage.Controls changing = changing.staged ≡ shown.staged
  Has (stage.Storing piece) changing = changing.mixed ≡ staged_so
  Has stage.Stored changing = changing.mixed ≡ staged_so
  Has stage.Applying changing = Unit {0}
  Has stage.Applied changing = Unit {0}
  Has stage.Comparing changing = Unit {0}
  Has (stage.Ended end) changing = end ≡ ends.Active

  abbrev IsSo : ChangingSettings → ℕ → Type 0
  IsSo changing n = (changing.change ≡ change) × Has changing.stage changing × (n ≡ point changing.stage)

  module _ (changing : ChangingSettings) (is : changing.change ≡ change) (n : ℕ) where
    abbrev After : SettingsStage → Reply → Type 0
    After at reply = IsSo (after_at at changing reply) (suc n)

    states_so : n ≡ 0 → After stage.States (bytes shown.states)
    states_so e =
        let up : down_lane changing.change.lanes shown.states ≡ None = ap (λ (c : SettingsChange). down_lane c.lanes shown.states) is ∙ obeys.up in
        subst (λ (found : Option ℕ). IsSo (unless found ends.NotUp (goes_to stage.Staged changing) changing) (suc n)) (sym up) (is, tt, omega (arith, e))

    controls_so : n ≡ 2 → changing.staged ≡ shown.staged → After stage.Controls (bytes shown.controls)
    controls_so e staged =
        let fit : unfit_lane changing.change.lanes changing.staged shown.controls ≡ None = (λ i. unfit_lane (is i).lanes (staged i) shown.controls) ∙ obeys.explicit in
        subst (λ (found : Option ℕ). IsSo (unless found ends.NotExplicit (record changing { stage = stage.Storing First; mixed = mixed changing.change changing.staged }) changing) (suc n)) (sym fit)
        (is, (λ i. mixed (is i) (staged i)), omega (arith, e))

    stored_so : n ≡ 6 → changing.mixed ≡ staged_so → After stage.Stored (bytes staged_so)
    stored_so e stored =
        subst (λ (same : Bool). IsSo (if same then goes_to stage.Applying changing else (if nat_lt 0 changing.tries then record changing { stage = stage.Storing First; tries = changing.tries - 1 } else goes_to (stage.Ended ends.NotStaged) changing)) (suc n))
        (sym ((bytes_eq-Decides staged_so changing.mixed).1 (sym stored))) (is, tt, omega (arith, e))

    statuses_so : n ≡ 8 → After stage.Applied (bytes shown.statuses)
    statuses_so e =
        let accepted : rejected_lane changing.change.lanes shown.statuses ≡ None = ap (λ (c : SettingsChange). rejected_lane c.lanes shown.statuses) is ∙ obeys.accepted in
        let applied : waiting_lane changing.change.lanes shown.statuses ≡ None = ap (λ (c : SettingsChange). waiting_lane c.lanes shown.statuses) is ∙ obeys.applied in
        subst (λ (found : Option ℕ). IsSo (unless found ends.Rejected (if_waiting (waiting_lane changing.change.lanes shown.statuses) (goes_to stage.Comparing changing) changing) changing) (suc n)) (sym accepted)
        (subst (λ (found : Option ℕ). IsSo (if_waiting found (goes_to stage.Comparing changing) changing) (suc n)) (sym applied) (is, tt, omega (arith, e)))

    active_so : n ≡ 9 → After stage.Comparing (bytes shown.active)
    active_so e =
        let active : inactive_lane changing.change.lanes changing.change.settings shown.active ≡ None = ap (λ (c : SettingsChange). inactive_lane c.lanes c.settings shown.active) is ∙ obeys.active in
        subst (λ (found : Option ℕ). IsSo (active_by found changing) (suc n)) (sym active) (is, refl, omega (arith, e))

    so_after : (at : SettingsStage) (step : Step) → Has at changing → n ≡ point at → wants_at at changing ≡ Do step.op → Shows change shown step → After at step.reply
    so_after stage.States step has e wanted shows = subst (After stage.States) (sym (shows.states (let same : step.op ≡ read_from 128 4 = cc in same))) (states_so e)
    so_after stage.Staged step has e wanted shows = subst (After stage.Staged) (sym (shows.staged (let same : step.op ≡ read_from 145 29 = cc in same))) (is, refl, omega (arith, e))
    so_after stage.Controls step has e wanted shows = subst (After stage.Controls) (sym (shows.controls (let same : step.op ≡ read_from 206 8 = cc in same))) (controls_so e has)
    so_after (stage.Storing First) step has e wanted shows = (is, has, omega (arith, e))
    so_after (stage.Storing Second) step has e wanted shows = (is, has, omega (arith, e))
    so_after (stage.Storing Third) step has e wanted shows = (is, has, omega (arith, e))
    so_after stage.Stored step has e wanted shows = subst (After stage.Stored) (sym (shows.stored (let same : step.op ≡ read_from 153 21 = cc in same))) (stored_so e has)
    so_after stage.Applying step has e wanted shows =
        let same : step.op ≡ store_at 144 (byte_of changing.change.lanes) = cc in
        subst (After stage.Applying) (sym (shows.stores 144 (record { items = byte_of changing.change.lanes ∷ [] }) same)) (is, tt, omega (arith, e))
    so_after stage.Applied step has e wanted shows = subst (After stage.Applied) (sym (shows.statuses (let same : step.op ≡ read_from 202 4 = cc in same))) (statuses_so e)
    so_after stage.Comparing step has e wanted shows = subst (After stage.Comparing) (sym (shows.active (let same : step.op ≡ read_from 214 21 = cc in same))) (active_so e)
    so_after (stage.Ended end) step has e wanted shows = absurd cc

  is_so : (events : Events) → AreShown change shown events → IsSo (settings_after change events) (length (steps_of events))
  is_so [] made = (refl, tt, refl)
  is_so (Made step ∷ before) (wanted, shows, made) =
      let now = settings_after change before in
      let (is, has, e) = is_so before made in
      so_after now is (length (steps_of before)) now.stage step has e wanted shows
  is_so (Waited time ∷ before) made = is_so before made
  is_so (Lacked page ∷ before) made = is_so before made
  is_so (Asked number ∷ before) made = is_so before made

  soon_by : (changing : ChangingSettings) (at : SettingsStage) (n : ℕ) (op : Op) → n ≡ point at → wants_at at changing ≡ Do op → n < 10
  soon_by changing stage.States n op e wanted = omega (arith, e)
  soon_by changing stage.Staged n op e wanted = omega (arith, e)
  soon_by changing stage.Controls n op e wanted = omega (arith, e)
  soon_by changing (stage.Storing First) n op e wanted = omega (arith, e)
  soon_by changing (stage.Storing Second) n op e wanted = omega (arith, e)
  soon_by changing (stage.Storing Third) n op e wanted = omega (arith, e)
  soon_by changing stage.Stored n op e wanted = omega (arith, e)
  soon_by changing stage.Applying n op e wanted = omega (arith, e)
  soon_by changing stage.Applied n op e wanted = omega (arith, e)
  soon_by changing stage.Comparing n op e wanted = omega (arith, e)
  soon_by changing (stage.Ended end) n op e wanted = absurd cc

  ends_by : (changing : ChangingSettings) (at : SettingsStage) (end : SettingsEnd) → Has at changing → wants_at at changing ≡ End end → end ≡ ends.Active
  ends_by changing stage.States end has wanted = absurd cc
  ends_by changing stage.Staged end has wanted = absurd cc
  ends_by changing stage.Controls end has wanted = absurd cc
  ends_by changing (stage.Storing piece) end has wanted = absurd cc
  ends_by changing stage.Stored end has wanted = absurd cc
  ends_by changing stage.Applying end has wanted = absurd cc
  ends_by changing stage.Applied end has wanted = absurd cc
  ends_by changing stage.Comparing end has wanted = absurd cc
  ends_by changing (stage.Ended other) end has wanted = let same : end ≡ other = cc in same ∙ has

  pub settings_soon : (events : Events) (op : Op) → AreShown change shown events → wants (settings_after change events) ≡ Do op → length (steps_of events) < 10
  settings_soon events op made wanted =
      let now = settings_after change events in soon_by now now.stage (length (steps_of events)) op (is_so events made).2 wanted

  pub settings_active : (events : Events) (end : SettingsEnd) → AreShown change shown events → wants (settings_after change events) ≡ End end → end ≡ ends.Active
  settings_active events end made wanted = let now = settings_after change events in ends_by now now.stage end (is_so events made).1 wanted
