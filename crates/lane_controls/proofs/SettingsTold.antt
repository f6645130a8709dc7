-- What a change of settings was told is what happened, and how it ends.
use Rattle.std.proofs.Common.{◌≡◌, ℕ, ◌-◌, Bool, true, false, if◌then◌else◌, nat_lt, ◌∷◌, Option, Some, None, refl, sym, ap, subst}
use Rattle.std.specs.Str.{bytes_eq}
use Rattle.bus_model.specs.declared.operation.Op.{Op}
use Rattle.bus_model.specs.declared.operation.Reply.{Reply}
use Rattle.bus_model.specs.declared.operation.Reply.TheVariants.{Bytes, Done, Refused}
use Rattle.conversations.specs.declared.event.Event.TheVariants.{Waited, Lacked, Asked}
use Rattle.conversations.specs.declared.next.Next.{Next}
use Rattle.conversations.specs.declared.next.Next.TheVariants.{Do, Wait, End}
use Rattle.conversations.specs.Events.{Events, made, steps_of}
use Rattle.conversations.specs.Wanted.{IfDo, IfEnd}
use Rattle.paged_memory.specs.declared.page_addressing.PageAddressing.{PageAddressing}
use Rattle.paged_memory.specs.declared.page_addressing.PageAddressing.TheVariants.{BankAndPage, PageAlone}
use Rattle.paged_memory.specs.KnownPages.{IsApart}
use Rattle.lane_controls.specs.declared.settings_change.ChangingSettings.{ChangingSettings}
use Rattle.lane_controls.specs.declared.settings_change.SettingsChange.{SettingsChange}
use Rattle.lane_controls.specs.declared.settings_change.SettingsEnd.{SettingsEnd}
use Rattle.lane_controls.specs.declared.settings_change.SettingsEnd.TheVariants as ends
use Rattle.lane_controls.specs.declared.settings_change.SettingsPiece.TheVariants.{First, Second, Third}
use Rattle.lane_controls.specs.declared.settings_change.SettingsStage.{SettingsStage}
use Rattle.lane_controls.specs.declared.settings_change.SettingsStage.TheVariants as stage
use Rattle.lane_controls.specs.SettingsChanges.{active_by, after, after_at, down_lane, goes_to, if_waiting, inactive_lane, mixed, rejected_lane, settings_after, unfit_lane, unless, waiting_lane, wants, wants_at}
use Rattle.lane_controls.specs.SettingsSteps.{EachIsWanted, GoesOn, HasEnded, IsTold}
use Rattle.lane_controls.proofs.SettingsTurns.{IsSound, IsSoundChange, settings_sound}

-- ---- the change stays

unless_same : (lane : Option ℕ) (end : ℕ → SettingsEnd) (next changing : ChangingSettings) → next.change ≡ changing.change → (unless lane end next changing).change ≡ changing.change
unless_same None end next changing same = same
unless_same (Some lane) end next changing same = refl

waiting_same : (lane : Option ℕ) (changing : ChangingSettings) → (if_waiting lane (goes_to stage.Comparing changing) changing).change ≡ changing.change
waiting_same None changing = refl
waiting_same (Some lane) changing = refl

stored_same : (b more : Bool) (changing : ChangingSettings)
    → (if b then goes_to stage.Applying changing else (if more then record changing { stage = stage.Storing First; tries = changing.tries - 1 } else goes_to (stage.Ended ends.NotStaged) changing)).change ≡ changing.change
stored_same true more changing = refl
stored_same false true changing = refl
stored_same false false changing = refl

retried_same : (more : Bool) (lane : ℕ) (changing : ChangingSettings)
    → (if more then record changing { stage = stage.Applied; tries = changing.tries - 1 } else goes_to (stage.Ended (ends.NotActive lane)) changing).change ≡ changing.change
retried_same true lane changing = refl
retried_same false lane changing = refl

active_same : (lane : Option ℕ) (changing : ChangingSettings) → (active_by lane changing).change ≡ changing.change
active_same None changing = refl
active_same (Some lane) changing = retried_same (nat_lt 0 changing.tries) lane changing

same_at : (now : SettingsStage) (changing : ChangingSettings) (reply : Reply) → (after_at now changing reply).change ≡ changing.change
same_at stage.States changing (Bytes bytes) = unless_same (down_lane changing.change.lanes bytes.items) ends.NotUp (goes_to stage.Staged changing) changing refl
same_at stage.States changing Done = refl
same_at stage.States changing Refused = refl
same_at stage.Staged changing (Bytes bytes) = refl
same_at stage.Staged changing Done = refl
same_at stage.Staged changing Refused = refl
same_at stage.Controls changing (Bytes bytes) =
    unless_same (unfit_lane changing.change.lanes changing.staged bytes.items) ends.NotExplicit (record changing { stage = stage.Storing First; mixed = mixed changing.change changing.staged }) changing refl
same_at stage.Controls changing Done = refl
same_at stage.Controls changing Refused = refl
same_at (stage.Storing piece) changing reply = refl
same_at stage.Stored changing (Bytes bytes) = stored_same (bytes_eq bytes.items changing.mixed) (nat_lt 0 changing.tries) changing
same_at stage.Stored changing Done = refl
same_at stage.Stored changing Refused = refl
same_at stage.Applying changing (Bytes bytes) = refl
same_at stage.Applying changing Done = refl
same_at stage.Applying changing Refused = refl
same_at stage.Applied changing (Bytes bytes) =
    unless_same (rejected_lane changing.change.lanes bytes.items) ends.Rejected (if_waiting (waiting_lane changing.change.lanes bytes.items) (goes_to stage.Comparing changing) changing) changing
    (waiting_same (waiting_lane changing.change.lanes bytes.items) changing)
same_at stage.Applied changing Done = refl
same_at stage.Applied changing Refused = refl
same_at stage.Comparing changing (Bytes bytes) = active_same (inactive_lane changing.change.lanes changing.change.settings bytes.items) changing
same_at stage.Comparing changing Done = refl
same_at stage.Comparing changing Refused = refl
same_at (stage.Ended end) changing reply = refl

pub change_kept : (changing : ChangingSettings) (reply : Reply) → (after changing reply).change ≡ changing.change
change_kept changing reply = same_at changing.stage changing reply

-- ---- one event more

no_wait_at : (now : SettingsStage) (changing : ChangingSettings) (time : ℕ) → wants_at now changing ≡ Wait time → ⊥
no_wait_at stage.States changing time asks = cc
no_wait_at stage.Staged changing time asks = cc
no_wait_at stage.Controls changing time asks = cc
no_wait_at (stage.Storing First) changing time asks = cc
no_wait_at (stage.Storing Second) changing time asks = cc
no_wait_at (stage.Storing Third) changing time asks = cc
no_wait_at stage.Stored changing time asks = cc
no_wait_at stage.Applying changing time asks = cc
no_wait_at stage.Applied changing time asks = cc
no_wait_at stage.Comparing changing time asks = cc
no_wait_at (stage.Ended end) changing time asks = cc

module _ (events : Events) (changing : ChangingSettings) (told : IsTold events changing) where
  pub settings_step : (op : Op) (reply : Reply) → wants changing ≡ Do op → IsTold (made op reply ∷ events) (after changing reply)
  settings_step op reply asks = record {
    is = subst (λ (c : SettingsChange). after changing reply ≡ after (settings_after c events) reply) (sym (change_kept changing reply)) (ap (λ (s : ChangingSettings). after s reply) told.is);
    each = subst (λ (c : SettingsChange). EachIsWanted c (made op reply ∷ events)) (sym (change_kept changing reply)) (subst (λ (s : ChangingSettings). wants s ≡ Do op) told.is asks, told.each);
  }

  pub settings_wait : (time : ℕ) → wants changing ≡ Wait time → IsTold (Waited time ∷ events) changing
  settings_wait time asks = absurd (no_wait_at changing.stage changing time asks)

  pub settings_lack : (page : ℕ) → IsTold (Lacked page ∷ events) changing
  settings_lack page = record { is = told.is; each = told.each }

  pub settings_asked : (number : ℕ) → IsTold (Asked number ∷ events) changing
  settings_asked number = record { is = told.is; each = told.each }

  sound_now : IsSoundChange (steps_of events) changing
  sound_now = subst (λ (s : ChangingSettings). IsSoundChange (steps_of events) s) (sym told.is) (settings_sound changing.change events told.each)

  pub settings_go_on : GoesOn changing.change events
  settings_go_on = sound_now.steps

  ended : (end : SettingsEnd) → changing.stage ≡ stage.Ended end → HasEnded changing.change events end
  ended end e = record { steps = sound_now.steps; ended = (subst (λ (s : SettingsStage). IsSound s (steps_of events) changing) e sound_now).at }

settings_if_do : (next : Next SettingsEnd) (P : Type 0) → P → IfDo next (λ (op : Op). P)
settings_if_do (Do op) P p = p
settings_if_do (Wait time) P p = tt
settings_if_do (End end) P p = tt

pub settings_go_on_if : (events : Events) (changing : ChangingSettings) (next : Next SettingsEnd) → IsTold events changing → IfDo next (λ (op : Op). GoesOn changing.change events)
settings_go_on_if events changing next told = settings_if_do next (GoesOn changing.change events) (settings_go_on events changing told)

settings_ends_at : (events : Events) (changing : ChangingSettings) (now : SettingsStage) → changing.stage ≡ now → IsTold events changing → IfEnd (wants_at now changing) (λ end. HasEnded changing.change events end)
settings_ends_at events changing stage.States e told = tt
settings_ends_at events changing stage.Staged e told = tt
settings_ends_at events changing stage.Controls e told = tt
settings_ends_at events changing (stage.Storing First) e told = tt
settings_ends_at events changing (stage.Storing Second) e told = tt
settings_ends_at events changing (stage.Storing Third) e told = tt
settings_ends_at events changing stage.Stored e told = tt
settings_ends_at events changing stage.Applying e told = tt
settings_ends_at events changing stage.Applied e told = tt
settings_ends_at events changing stage.Comparing e told = tt
settings_ends_at events changing (stage.Ended end) e told = ended events changing told end e

pub settings_ends_if : (events : Events) (changing : ChangingSettings) (next : Next SettingsEnd) → next ≡ wants changing → IsTold events changing → IfEnd next (λ end. HasEnded changing.change events end)
settings_ends_if events changing next is told = subst (λ (n : Next SettingsEnd). IfEnd n (λ end. HasEnded changing.change events end)) (sym is) (settings_ends_at events changing changing.stage refl told)

-- ---- the selection is left alone

settings_apart_at : (now : SettingsStage) (changing : ChangingSettings) (by : PageAddressing) → IfDo (wants_at now changing) (IsApart by)
settings_apart_at stage.States changing BankAndPage = record { not_selecting = refl; not_reading_back = refl }
settings_apart_at stage.States changing PageAlone = record { not_selecting = refl; not_reading_back = refl }
settings_apart_at stage.Staged changing BankAndPage = record { not_selecting = refl; not_reading_back = refl }
settings_apart_at stage.Staged changing PageAlone = record { not_selecting = refl; not_reading_back = refl }
settings_apart_at stage.Controls changing BankAndPage = record { not_selecting = refl; not_reading_back = refl }
settings_apart_at stage.Controls changing PageAlone = record { not_selecting = refl; not_reading_back = refl }
settings_apart_at (stage.Storing First) changing BankAndPage = record { not_selecting = refl; not_reading_back = refl }
settings_apart_at (stage.Storing Second) changing BankAndPage = record { not_selecting = refl; not_reading_back = refl }
settings_apart_at (stage.Storing Third) changing BankAndPage = record { not_selecting = refl; not_reading_back = refl }
settings_apart_at (stage.Storing First) changing PageAlone = record { not_selecting = refl; not_reading_back = refl }
settings_apart_at (stage.Storing Second) changing PageAlone = record { not_selecting = refl; not_reading_back = refl }
settings_apart_at (stage.Storing Third) changing PageAlone = record { not_selecting = refl; not_reading_back = refl }
settings_apart_at stage.Stored changing BankAndPage = record { not_selecting = refl; not_reading_back = refl }
settings_apart_at stage.Stored changing PageAlone = record { not_selecting = refl; not_reading_back = refl }
settings_apart_at stage.Applying changing BankAndPage = record { not_selecting = refl; not_reading_back = refl }
settings_apart_at stage.Applying changing PageAlone = record { not_selecting = refl; not_reading_back = refl }
settings_apart_at stage.Applied changing BankAndPage = record { not_selecting = refl; not_reading_back = refl }
settings_apart_at stage.Applied changing PageAlone = record { not_selecting = refl; not_reading_back = refl }
settings_apart_at stage.Comparing changing BankAndPage = record { not_selecting = refl; not_reading_back = refl }
settings_apart_at stage.Comparing changing PageAlone = record { not_selecting = refl; not_reading_back = refl }
settings_apart_at (stage.Ended end) changing by = tt

pub settings_apart : (changing : ChangingSettings) (by : PageAddressing) → IfDo (wants changing) (IsApart by)
settings_apart changing by = settings_apart_at changing.stage changing by
