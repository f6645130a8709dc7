-- A lane of a kept path stays apart, and up, through the changes that provisioning of other lanes makes.
use Rattle.std.proofs.Common.{◌≡◌, ℕ, ◌-◌, Bool, true, false, List, refl, sym, ◌∙◌}
use Rattle.std.specs.FinSet as set
use Rattle.std.proofs.Math.ListN.{length-set}
use Rattle.field_tables.specs.LaneSets.{IsLane, Lanes, lanes_in}
use Rattle.paged_memory.specs.declared.mapped_page.MappedPage.{MappedPage}
use Rattle.control_sets.specs.ControlBytes.{control_of}
use Rattle.control_sets.specs.HostPaths.{are_same}
use Rattle.sim_module.specs.declared.lane.Lane.{Lane}
use Rattle.sim_module.specs.declared.module.SimModule.{SimModule}
use Rattle.sim_module.specs.Down.{has_low_power}
use Rattle.sim_module.specs.Lanes.{is_in_progress, lane_at}
use Rattle.sim_module.specs.Stores.{staged_at}
use Rattle.sim_module.proofs.KeptLanes.{IsClear, IsKeptLane, StaysApart, StaysKept}
use Rattle.sim_module.proofs.KeptApplies.{apart_applied, keeps_applied}
use Rattle.sim_module.proofs.ProvisioningKeeps.{SurvivesChanges, restaged}

module _ (is_kept : ℕ → Bool) (lane byte : ℕ) (one : IsKeptLane is_kept lane byte) where
  abbrev IsOutside : Lanes → Type 0
  IsOutside mask = (other : ℕ) → IsLane other → is_kept other ≡ true → set.contains mask other ≡ false

  -- ---- apart

  abbrev Alone : SimModule → Type 0
  Alone = StaysApart is_kept lane byte

  apart_deinit : (sim : SimModule) (mask : Lanes) → Alone sim → Alone (record sim { deinit = mask })
  apart_deinit sim mask alone = record {
    eight = alone.eight;
    active = alone.active;
    same = alone.same;
    quiet = alone.quiet;
    none = alone.none;
    apart = alone.apart;
  }

  apart_staged : (sim : SimModule) (number new : ℕ) → Alone sim → Alone (staged_at sim number new)
  apart_staged sim number new alone =
      let i = number - 1 in
      record {
        eight = length-set sim.lanes i (record (lane_at sim number) { staged = new }) ∙ alone.eight;
        active = restaged (λ (l : Lane). l.active) sim.lanes i (lane - 1) new refl ∙ alone.active;
        same = λ n there same. alone.same n there (sym (restaged (λ (l : Lane). are_same (control_of byte) (control_of l.active)) sim.lanes i (n - 1) new refl) ∙ same);
        quiet = λ n there kept. restaged is_in_progress sim.lanes i (n - 1) new refl ∙ alone.quiet n there kept;
        none = λ n there kept. restaged (λ (l : Lane). l.applying) sim.lanes i (n - 1) new refl ∙ alone.none n there kept;
        apart = λ n k there some. alone.apart n k there (sym (restaged (λ (l : Lane). l.applying) sim.lanes i (n - 1) new refl) ∙ some);
      }

  apart_flags : (sim : SimModule) (module_flags : ℕ) (lane_flags : List ℕ) → Alone sim → Alone (record sim { module_flags = module_flags; lane_flags = lane_flags })
  apart_flags sim module_flags lane_flags alone = record {
    eight = alone.eight;
    active = alone.active;
    same = alone.same;
    quiet = alone.quiet;
    none = alone.none;
    apart = alone.apart;
  }

  apart_selection : (sim : SimModule) (selection : MappedPage) → Alone sim → Alone (record sim { selection = selection })
  apart_selection sim selection alone = record {
    eight = alone.eight;
    active = alone.active;
    same = alone.same;
    quiet = alone.quiet;
    none = alone.none;
    apart = alone.apart;
  }

  pub apart_pin : (sim : SimModule) (on : Bool) → Alone sim → Alone (record sim { pin = on })
  apart_pin sim on alone = record {
    eight = alone.eight;
    active = alone.active;
    same = alone.same;
    quiet = alone.quiet;
    none = alone.none;
    apart = alone.apart;
  }

  pub apart_survives : (bits : ℕ) → IsOutside (lanes_in bits) → SurvivesChanges Alone bits
  apart_survives bits outside = record {
    flags = apart_flags;
    selection = apart_selection;
    deinit = λ sim alone. apart_deinit sim (lanes_in bits) alone;
    apply = λ sim alone. apart_applied is_kept lane byte one sim (lanes_in bits) alone outside;
    staged = apart_staged;
  }

  -- ---- and up

  abbrev Keeps : SimModule → Type 0
  Keeps = StaysKept is_kept lane byte

  -- what changes neither the state of the module, nor low power, nor a lane's path, nor DPDeinit but for lanes outside
  keeps_by : (sim next : SimModule) → Alone next → next.state ≡ sim.state → has_low_power next ≡ has_low_power sim → (lane_at next lane).path ≡ (lane_at sim lane).path → IsClear is_kept next →
      Keeps sim → Keeps next
  keeps_by sim next alone state power path clear keeps = record { alone = alone; ready = state ∙ keeps.ready; power = power ∙ keeps.power; path = path ∙ keeps.path; clear = clear }

  pub survives : (bits : ℕ) → IsOutside (lanes_in bits) → SurvivesChanges Keeps bits
  survives bits outside = record {
    flags = λ sim module_flags lane_flags keeps. keeps_by sim _ (apart_flags sim module_flags lane_flags keeps.alone) refl refl refl keeps.clear keeps;
    selection = λ sim selection keeps. keeps_by sim _ (apart_selection sim selection keeps.alone) refl refl refl keeps.clear keeps;
    deinit = λ sim keeps. keeps_by sim _ (apart_deinit sim (lanes_in bits) keeps.alone) refl refl refl outside keeps;
    apply = λ sim keeps. keeps_applied is_kept lane byte one sim (lanes_in bits) keeps.alone outside keeps;
    staged = λ sim number new keeps.
        keeps_by sim _ (apart_staged sim number new keeps.alone) refl refl (restaged (λ (l : Lane). l.path) sim.lanes (number - 1) (lane - 1) new refl) keeps.clear keeps;
  }
