-- An apply in progress is done in time.
use Rattle.std.proofs.Common.{◌≡◌, ◌≤◌, ◌⊎◌, inl, inr, ℕ, Bool, true, false, List, [], ◌∷◌, Option, Some, None, refl, sym, ap, subst, ◌∙◌, arith, if◌then◌else◌}
use Rattle.std.specs.Prelude.{◌-◌}
use Rattle.bus_model.specs.declared.device.Dev.TheVariants.{A0}
use Rattle.field_tables.specs.LaneSets.{IsLane}
use Rattle.sim_module.specs.declared.lane.Lane.{Lane}
use Rattle.sim_module.specs.declared.module.SimModule.{SimModule}
use Rattle.sim_module.specs.Lanes.{lane_at}
use Rattle.sim_module.specs.ShownBytes.{fetched}
use Rattle.sim_module.specs.Stores.{stored}
use Rattle.sim_module.specs.Ticks.{applied_by, applied_lane, is_last, moved_lane, next_path_state, ticked, ticked_lane}
use Rattle.sim_liveness.specs.Timing.{AppliesInTime, IsApplied, Pause, after_pause, fetch, paused, select, tick, ticks_in, ticks_of}
use Rattle.sim_liveness.proofs.InTime.{not_last, same_lane}
use Rattle.sim_liveness.proofs.LeftAlone.{LeavesIt, leaves, leaves_selected}
use Rattle.sim_module.proofs.LanesInTime.{ticked_at}

-- it is in progress for so many ticks
pub record IsPending (sim : SimModule) (lane byte left : ℕ) : Type 0 where
  pub applying : (lane_at sim lane).applying ≡ Some byte
  pub count : sim.apply_left ≡ left
  pub some : 1 ≤ left

abbrev IsOn : SimModule → ℕ → ℕ → ℕ → Type 0
IsOn sim lane byte left = IsPending sim lane byte left ⊎ IsApplied (lane_at sim lane) byte

abbrev pub moved : SimModule → ℕ → Lane
moved sim lane = moved_lane sim.delays (lane_at sim lane) (next_path_state sim lane)

abbrev pub ticked_by : SimModule → ℕ → Bool → Lane
ticked_by sim lane done = if done then applied_lane (moved sim lane) else moved sim lane

pub lane_is : (sim : SimModule) (lane : ℕ) (done : Bool) → IsLane lane → is_last sim.apply_left ≡ done → lane_at (ticked sim) lane ≡ ticked_by sim lane done
unfolding ticked_lane
lane_is sim lane done within e = ticked_at sim lane within ∙ ap (ticked_by sim lane) e

pub kept_count : (sim : SimModule) → (ticked sim).apply_left ≡ sim.apply_left - 1
unfolding ticked
kept_count sim = refl

applied_with : (lane : Lane) (byte : ℕ) (kept : Option ℕ) → kept ≡ Some byte → IsApplied (applied_by kept lane) byte
applied_with lane byte (Some other) e = record { active = (let same : Some other ≡ Some byte = e in cc); status = refl; applying = refl }
applied_with lane byte None e = absurd (let same = e in cc)

applied_still : (lane : Lane) (byte : ℕ) (kept : Option ℕ) → kept ≡ None → IsApplied lane byte → IsApplied (applied_by kept lane) byte
applied_still lane byte (Some other) e is = absurd (let same = e in cc)
applied_still lane byte None e is = is

tick_pending : (sim : SimModule) (lane byte left : ℕ) (done : Bool) → IsLane lane → is_last sim.apply_left ≡ done → IsPending sim lane byte left → IsOn (ticked sim) lane byte (left - 1)
tick_pending sim lane byte left true within e pending =
    inr (subst (λ (l : Lane). IsApplied l byte) (sym (lane_is sim lane true within e)) (applied_with (moved sim lane) byte (lane_at sim lane).applying pending.applying))
tick_pending sim lane byte left false within e pending =
    inl (record {
      applying = ap (λ (l : Lane). l.applying) (lane_is sim lane false within e) ∙ pending.applying;
      count = kept_count sim ∙ ap (λ (n : ℕ). n - 1) pending.count;
      some = omega (arith, pending.some, pending.count, not_last sim.apply_left e);
    })

tick_applied : (sim : SimModule) (lane byte : ℕ) (done : Bool) → IsLane lane → is_last sim.apply_left ≡ done → IsApplied (lane_at sim lane) byte → IsApplied (lane_at (ticked sim) lane) byte
tick_applied sim lane byte true within e is =
    subst (λ (l : Lane). IsApplied l byte) (sym (lane_is sim lane true within e))
    (applied_still (moved sim lane) byte (lane_at sim lane).applying is.applying (record { active = is.active; status = is.status; applying = is.applying }))
tick_applied sim lane byte false within e is =
    subst (λ (l : Lane). IsApplied l byte) (sym (lane_is sim lane false within e)) (record { active = is.active; status = is.status; applying = is.applying })

on_left : (sim after : SimModule) (lane byte left : ℕ) → LeavesIt sim after → IsOn sim lane byte left → IsOn after lane byte (left - 0)
on_left sim after lane byte left same (inl pending) =
    inl (record {
      applying = ap (λ (l : Lane). l.applying) (same_lane sim after lane same) ∙ pending.applying;
      count = same.apply_left ∙ pending.count ∙ omega arith;
      some = omega (arith, pending.some);
    })
on_left sim after lane byte left same (inr is) = inr (subst (λ (l : Lane). IsApplied l byte) (sym (same_lane sim after lane same)) is)

on_after : (sim : SimModule) (lane byte left : ℕ) (pause : Pause) → IsLane lane → IsOn sim lane byte left → IsOn (after_pause pause sim) lane byte (left - ticks_of pause)
on_after sim lane byte left tick within (inl pending) = tick_pending sim lane byte left (is_last sim.apply_left) within refl pending
on_after sim lane byte left tick within (inr is) = inr (tick_applied sim lane byte (is_last sim.apply_left) within refl is)
on_after sim lane byte left (fetch dev address count) within on = on_left sim (fetched sim dev address count).1 lane byte left (leaves sim dev address count) on
on_after sim lane byte left (select bank page) within on = on_left sim (stored sim A0 126 (bank ∷ page ∷ [])).1 lane byte left (leaves_selected sim bank page) on

on_paused : (sim : SimModule) (lane byte left : ℕ) (pauses : List Pause) → IsLane lane → IsOn sim lane byte left → IsOn (paused pauses sim) lane byte (left - ticks_in pauses)
on_paused sim lane byte left [] within on = subst (IsOn sim lane byte) (omega arith) on
on_paused sim lane byte left (pause ∷ before) within on =
    subst (IsOn (paused (pause ∷ before) sim) lane byte) (omega arith) (on_after (paused before sim) lane byte (left - ticks_in before) pause within (on_paused sim lane byte left before within on))

pub applies_in_time : AppliesInTime
applies_in_time sim lane byte pauses within applying some long =
    by (on_paused sim lane byte sim.apply_left pauses within (inl (record { applying = applying; count = refl; some = some }))) where
      by : IsOn (paused pauses sim) lane byte (sim.apply_left - ticks_in pauses) → IsApplied (lane_at (paused pauses sim) lane) byte
      by (inl pending) = absurd (omega (arith, pending.some, long))
      by (inr is) = is
