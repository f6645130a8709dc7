-- A change of settings applies them only to lanes that are up, and ends as what was read last shows.
use Rattle.std.proofs.Common.{◌≡◌, ℕ, ◌-◌, Bool, true, false, if◌then◌else◌, nat_lt, List, [], ◌∷◌, Option, Some, None, refl, sym, ap, subst, inl, inr, ◌∙◌}
use Rattle.bus_model.specs.declared.operation.Op.{Op}
use Rattle.bus_model.specs.declared.operation.Reply.{Reply}
use Rattle.bus_model.specs.declared.operation.Reply.TheVariants.{Bytes, Done, Refused}
use Rattle.conversations.specs.declared.event.Event.TheVariants.{Made, Waited, Lacked, Asked}
use Rattle.conversations.specs.declared.next.Next.TheVariants.{Do}
use Rattle.conversations.specs.Events.{Events, steps_of}
use Rattle.field_tables.specs.LaneSets.{byte_of}
use Rattle.paged_memory.specs.PageAddressing.{EachStep, History}
use Rattle.paged_memory.proofs.KnownPageLaws.{step_of}
use Rattle.std.specs.Str.{bytes_eq}
use Rattle.std.proofs.lemmas.Slice.Eq.{bytes_eq-Decides}
use Rattle.lane_controls.specs.declared.settings_change.ChangingSettings.{ChangingSettings}
use Rattle.lane_controls.specs.declared.settings_change.SettingsChange.{SettingsChange}
use Rattle.lane_controls.specs.declared.settings_change.SettingsEnd.TheVariants as ends
use Rattle.lane_controls.specs.declared.settings_change.SettingsPiece.{SettingsPiece}
use Rattle.lane_controls.specs.declared.settings_change.SettingsPiece.TheVariants.{First, Second, Third}
use Rattle.lane_controls.specs.declared.settings_change.SettingsStage.{SettingsStage}
use Rattle.lane_controls.specs.declared.settings_change.SettingsStage.TheVariants as stage
use Rattle.lane_controls.specs.ByteHistories.{store_at}
use Rattle.lane_controls.specs.SettingsChanges.{active_by, after_at, down_lane, goes_to, if_waiting, inactive_lane, mixed, read_from, rejected_lane, settings_after, store_piece, unfit_lane, unless, waiting_lane, wants_at}
use Rattle.lane_controls.specs.SettingsSteps.{AreExplicit, AreUp, EachIsWanted, HasEndedIn, IsSettingsStep, bytes_read}

-- ---- what is known

-- what was staged was read, and what is to be staged follows from it
pub record IsFit (history : History) (changing : ChangingSettings) : Type 0 where
  pub up : AreUp changing.change history
  pub explicit : AreExplicit changing.change history
  pub read : bytes_read 145 history ≡ Some changing.staged
  pub mixed_so : changing.mixed ≡ mixed changing.change changing.staged

-- and it is staged
abbrev pub IsReadBack : History → ChangingSettings → Type 0
IsReadBack history changing = bytes_read 153 history ≡ Some changing.mixed

abbrev pub AtStage : SettingsStage → History → ChangingSettings → Type 0
AtStage stage.States history changing = Unit {0}
AtStage stage.Staged history changing = AreUp changing.change history
AtStage stage.Controls history changing = AreUp changing.change history × (bytes_read 145 history ≡ Some changing.staged)
AtStage (stage.Storing piece) history changing = IsFit history changing
AtStage stage.Stored history changing = IsFit history changing
AtStage stage.Applying history changing = IsFit history changing × IsReadBack history changing
AtStage stage.Applied history changing = Unit {0}
AtStage stage.Comparing history changing = Unit {0}
AtStage (stage.Ended end) history changing = HasEndedIn changing.change end history

pub record IsSound (now : SettingsStage) (history : History) (changing : ChangingSettings) : Type 0 where
  pub steps : EachStep (IsSettingsStep changing.change) history
  pub at : AtStage now history changing

abbrev pub IsSoundChange : History → ChangingSettings → Type 0
IsSoundChange history changing = IsSound changing.stage history changing

-- ---- each turn

module _ (history : History) (changing : ChangingSettings) where
  abbrev Turns : SettingsStage → Op → Reply → Type 0
  Turns now op reply = IsSoundChange (step_of op reply ∷ history) (after_at now changing reply)

  still : (now : SettingsStage) (op : Op) (reply : Reply) → changing.stage ≡ now → IsSound now (step_of op reply ∷ history) changing → IsSoundChange (step_of op reply ∷ history) changing
  still now op reply e sound = subst (λ (s : SettingsStage). IsSound s (step_of op reply ∷ history) changing) (sym e) sound

  module _ (steps : EachStep (IsSettingsStep changing.change) history) where
    states_turn : (reply : Reply) → changing.stage ≡ stage.States → Turns stage.States (read_from 128 4) reply
    states_turn (Bytes bytes) e = go (down_lane changing.change.lanes bytes.items) refl
      where
        go : (lane : Option ℕ) → down_lane changing.change.lanes bytes.items ≡ lane
            → IsSoundChange (step_of (read_from 128 4) (Bytes bytes) ∷ history) (unless lane ends.NotUp (goes_to stage.Staged changing) changing)
        go None is = record { steps = (inl tt, steps); at = (bytes.items, refl, is) }
        go (Some lane) is = record { steps = (inl tt, steps); at = (bytes.items, refl, is) }
    states_turn Done e = still stage.States (read_from 128 4) Done e (record { steps = (inl tt, steps); at = tt })
    states_turn Refused e = still stage.States (read_from 128 4) Refused e (record { steps = (inl tt, steps); at = tt })

    staged_turn : (reply : Reply) → changing.stage ≡ stage.Staged → AreUp changing.change history → Turns stage.Staged (read_from 145 29) reply
    staged_turn (Bytes bytes) e up = record { steps = (inl tt, steps); at = (up, refl) }
    staged_turn Done e up = still stage.Staged (read_from 145 29) Done e (record { steps = (inl tt, steps); at = up })
    staged_turn Refused e up = still stage.Staged (read_from 145 29) Refused e (record { steps = (inl tt, steps); at = up })

    controls_turn : (reply : Reply) → changing.stage ≡ stage.Controls → AreUp changing.change history → bytes_read 145 history ≡ Some changing.staged → Turns stage.Controls (read_from 206 8) reply
    controls_turn (Bytes bytes) e up read = go (unfit_lane changing.change.lanes changing.staged bytes.items) refl
      where
        go : (lane : Option ℕ) → unfit_lane changing.change.lanes changing.staged bytes.items ≡ lane
            → IsSoundChange (step_of (read_from 206 8) (Bytes bytes) ∷ history) (unless lane ends.NotExplicit (record changing { stage = stage.Storing First; mixed = mixed changing.change changing.staged }) changing)
        go None is = record { steps = (inl tt, steps); at = record { up = up; explicit = (changing.staged, bytes.items, read, refl, is); read = read; mixed_so = refl } }
        go (Some lane) is = record { steps = (inl tt, steps); at = (changing.staged, bytes.items, read, refl, is) }
    controls_turn Done e up read = still stage.Controls (read_from 206 8) Done e (record { steps = (inl tt, steps); at = (up, read) })
    controls_turn Refused e up read = still stage.Controls (read_from 206 8) Refused e (record { steps = (inl tt, steps); at = (up, read) })

    module _ (piece : SettingsPiece) (reply : Reply) (fit : IsFit history changing) where
      storing_steps : EachStep (IsSettingsStep changing.change) (step_of (store_piece piece changing.mixed) reply ∷ history)
      storing_steps = (inr (fit.up, fit.explicit, inl (changing.staged, piece, fit.read, ap (store_piece piece) fit.mixed_so)), steps)

    storing_turn : (piece : SettingsPiece) (reply : Reply) → IsFit history changing → Turns (stage.Storing piece) (store_piece piece changing.mixed) reply
    storing_turn First reply fit = record { steps = storing_steps First reply fit; at = record { up = fit.up; explicit = fit.explicit; read = fit.read; mixed_so = fit.mixed_so } }
    storing_turn Second reply fit = record { steps = storing_steps Second reply fit; at = record { up = fit.up; explicit = fit.explicit; read = fit.read; mixed_so = fit.mixed_so } }
    storing_turn Third reply fit = record { steps = storing_steps Third reply fit; at = record { up = fit.up; explicit = fit.explicit; read = fit.read; mixed_so = fit.mixed_so } }

    stored_turn : (reply : Reply) → changing.stage ≡ stage.Stored → IsFit history changing → Turns stage.Stored (read_from 153 21) reply
    stored_turn reply e fit = go reply
      where
        fit_still : (r : Reply) → IsFit (step_of (read_from 153 21) r ∷ history) changing
        fit_still (Bytes bytes) = record { up = fit.up; explicit = fit.explicit; read = fit.read; mixed_so = fit.mixed_so }
        fit_still Done = record { up = fit.up; explicit = fit.explicit; read = fit.read; mixed_so = fit.mixed_so }
        fit_still Refused = record { up = fit.up; explicit = fit.explicit; read = fit.read; mixed_so = fit.mixed_so }

        by : (items : List ℕ) (same : Bool) → bytes_eq items changing.mixed ≡ same → (more : Bool)
            → IsSoundChange (step_of (read_from 153 21) (Bytes (record { items = items })) ∷ history)
            (if same then goes_to stage.Applying changing else (if more then record changing { stage = stage.Storing First; tries = changing.tries - 1 } else goes_to (stage.Ended ends.NotStaged) changing))
        by items true is more = record {
          steps = (inl tt, steps);
          at = (record { up = fit.up; explicit = fit.explicit; read = fit.read; mixed_so = fit.mixed_so }, ap (λ (l : List ℕ). Some l) ((bytes_eq-Decides items changing.mixed).0 is));
        }
        by items false is true = record { steps = (inl tt, steps); at = record { up = fit.up; explicit = fit.explicit; read = fit.read; mixed_so = fit.mixed_so } }
        by items false is false = record { steps = (inl tt, steps); at = (changing.staged, items, fit.read, refl, ap (bytes_eq items) (sym fit.mixed_so) ∙ is) }

        go : (r : Reply) → Turns stage.Stored (read_from 153 21) r
        go (Bytes bytes) = by bytes.items (bytes_eq bytes.items changing.mixed) refl (nat_lt 0 changing.tries)
        go Done = still stage.Stored (read_from 153 21) Done e (record { steps = (inl tt, steps); at = fit_still Done })
        go Refused = still stage.Stored (read_from 153 21) Refused e (record { steps = (inl tt, steps); at = fit_still Refused })

    applying_turn : (reply : Reply) → changing.stage ≡ stage.Applying → IsFit history changing → bytes_read 153 history ≡ Some changing.mixed → Turns stage.Applying (store_at 144 (byte_of changing.change.lanes)) reply
    applying_turn reply e fit back = go reply
      where
        so : (r : Reply) → EachStep (IsSettingsStep changing.change) (step_of (store_at 144 (byte_of changing.change.lanes)) r ∷ history)
        so r = (inr (fit.up, fit.explicit, inr (changing.staged, fit.read, back ∙ ap (λ (l : List ℕ). Some l) fit.mixed_so, refl)), steps)

        same : (r : Reply) → IsSound stage.Applying (step_of (store_at 144 (byte_of changing.change.lanes)) r ∷ history) changing
        same r = record { steps = so r; at = (record { up = fit.up; explicit = fit.explicit; read = fit.read; mixed_so = fit.mixed_so }, back) }

        go : (r : Reply) → Turns stage.Applying (store_at 144 (byte_of changing.change.lanes)) r
        go (Bytes bytes) = still stage.Applying (store_at 144 (byte_of changing.change.lanes)) (Bytes bytes) e (same (Bytes bytes))
        go Done = record { steps = so Done; at = tt }
        go Refused = still stage.Applying (store_at 144 (byte_of changing.change.lanes)) Refused e (same Refused)

    applied_turn : (reply : Reply) → changing.stage ≡ stage.Applied → Turns stage.Applied (read_from 202 4) reply
    applied_turn (Bytes bytes) e = go (rejected_lane changing.change.lanes bytes.items) refl (waiting_lane changing.change.lanes bytes.items)
      where
        go : (lane : Option ℕ) → rejected_lane changing.change.lanes bytes.items ≡ lane → (waits : Option ℕ)
            → IsSoundChange (step_of (read_from 202 4) (Bytes bytes) ∷ history) (unless lane ends.Rejected (if_waiting waits (goes_to stage.Comparing changing) changing) changing)
        go (Some lane) is waits = record { steps = (inl tt, steps); at = (bytes.items, refl, is) }
        go None is None = record { steps = (inl tt, steps); at = tt }
        go None is (Some lane) = still stage.Applied (read_from 202 4) (Bytes bytes) e (record { steps = (inl tt, steps); at = tt })
    applied_turn Done e = still stage.Applied (read_from 202 4) Done e (record { steps = (inl tt, steps); at = tt })
    applied_turn Refused e = still stage.Applied (read_from 202 4) Refused e (record { steps = (inl tt, steps); at = tt })

    comparing_turn : (reply : Reply) → changing.stage ≡ stage.Comparing → Turns stage.Comparing (read_from 214 21) reply
    comparing_turn (Bytes bytes) e = go (inactive_lane changing.change.lanes changing.change.settings bytes.items) refl
      where
        other : (lane : ℕ) → inactive_lane changing.change.lanes changing.change.settings bytes.items ≡ Some lane → (more : Bool)
            → IsSoundChange (step_of (read_from 214 21) (Bytes bytes) ∷ history)
            (if more then record changing { stage = stage.Applied; tries = changing.tries - 1 } else goes_to (stage.Ended (ends.NotActive lane)) changing)
        other lane is true = record { steps = (inl tt, steps); at = tt }
        other lane is false = record { steps = (inl tt, steps); at = (bytes.items, refl, is) }

        go : (lane : Option ℕ) → inactive_lane changing.change.lanes changing.change.settings bytes.items ≡ lane
            → IsSoundChange (step_of (read_from 214 21) (Bytes bytes) ∷ history) (active_by lane changing)
        go None is = record { steps = (inl tt, steps); at = (bytes.items, refl, is) }
        go (Some lane) is = other lane is (nat_lt 0 changing.tries)
    comparing_turn Done e = still stage.Comparing (read_from 214 21) Done e (record { steps = (inl tt, steps); at = tt })
    comparing_turn Refused e = still stage.Comparing (read_from 214 21) Refused e (record { steps = (inl tt, steps); at = tt })

  at_op : (now : SettingsStage) (wanted op : Op) (reply : Reply) → Turns now wanted reply → wanted ≡ op → Turns now op reply
  at_op now wanted op reply sound is = subst (λ o. IsSoundChange (step_of o reply ∷ history) (after_at now changing reply)) is sound

  turn : (now : SettingsStage) (op : Op) (reply : Reply) → changing.stage ≡ now → wants_at now changing ≡ Do op → IsSound now history changing → Turns now op reply
  turn stage.States op reply e asks sound = at_op stage.States (read_from 128 4) op reply (states_turn sound.steps reply e) cc
  turn stage.Staged op reply e asks sound = at_op stage.Staged (read_from 145 29) op reply (staged_turn sound.steps reply e sound.at) cc
  turn stage.Controls op reply e asks sound = at_op stage.Controls (read_from 206 8) op reply (controls_turn sound.steps reply e sound.at.0 sound.at.1) cc
  turn (stage.Storing piece) op reply e asks sound = at_op (stage.Storing piece) (store_piece piece changing.mixed) op reply (storing_turn sound.steps piece reply sound.at) cc
  turn stage.Stored op reply e asks sound = at_op stage.Stored (read_from 153 21) op reply (stored_turn sound.steps reply e sound.at) cc
  turn stage.Applying op reply e asks sound = at_op stage.Applying (store_at 144 (byte_of changing.change.lanes)) op reply (applying_turn sound.steps reply e sound.at.0 sound.at.1) cc
  turn stage.Applied op reply e asks sound = at_op stage.Applied (read_from 202 4) op reply (applied_turn sound.steps reply e) cc
  turn stage.Comparing op reply e asks sound = at_op stage.Comparing (read_from 214 21) op reply (comparing_turn sound.steps reply e) cc
  turn (stage.Ended end) op reply e asks sound = absurd cc

-- ---- whatever happened

pub settings_sound : (change : SettingsChange) (events : Events) → EachIsWanted change events → IsSoundChange (steps_of events) (settings_after change events)
settings_sound change [] each = record { steps = tt; at = tt }
settings_sound change (Made step ∷ before) (asks, each) =
    let changing = settings_after change before in turn (steps_of before) changing changing.stage step.op step.reply refl asks (settings_sound change before each)
settings_sound change (Waited time ∷ before) (asks, each) = settings_sound change before each
settings_sound change (Lacked page ∷ before) each = settings_sound change before each
settings_sound change (Asked number ∷ before) each = settings_sound change before each
