-- What the steps of provisioning keep of a module: whatever holds after each change that one of their bytes makes.
use Rattle.std.proofs.Common.{◌≡◌, inl, inr, ℕ, zero, suc, ◌+◌, ◌-◌, ◌≤◌, Bool, false, List, [], ◌∷◌, reverse, get_or, set, take, refl, sym, subst, ◌==◌, if◌then◌else◌, arith}
use Rattle.std.proofs.lemmas.Bool.Decides.{nat_tests}
use Rattle.std.proofs.lemmas.List.{reverse-append}
use Rattle.std.specs.List.{AllByRecursion}
use Rattle.bus_model.specs.declared.device.Dev.{Dev}
use Rattle.bus_model.specs.declared.device.Dev.TheVariants.{A0}
use Rattle.bus_model.specs.declared.operation.Op.{Op}
use Rattle.bus_model.specs.declared.operation.Op.TheVariants.{Fetch, Store}
use Rattle.bus_model.specs.declared.operation.Step.{Step}
use Rattle.bus_model.specs.Keeping.{IsKeptBy}
use Rattle.field_tables.specs.LaneSets.{Lanes, byte_of, lanes_in}
use Rattle.field_tables.specs.declared.field.Register.TheVariants as registers
use Rattle.field_tables.specs.Registers.{byte_count, first_byte}
use Rattle.paged_memory.specs.declared.mapped_page.MappedPage.{MappedPage}
use Rattle.plan_certificate.proofs.Lists.{all_of_append}
use Rattle.control_sets.specs.OutcomeOfProvisioning.{IsProvisioningStep}
use Rattle.control_sets.specs.OutcomeOperations.{control_page, status_page}
use Rattle.control_sets.specs.Pages.{EachStep, History}
use Rattle.sim_module.specs.declared.lane.Lane.{Lane}
use Rattle.sim_module.specs.declared.module.SimModule.{SimModule}
use Rattle.sim_module.specs.Lanes.{no_lane}
use Rattle.sim_module.specs.Applies.{applied}
use Rattle.sim_module.specs.Modules.{conduct}
use Rattle.sim_module.specs.Registers.{is_from, is_in}
use Rattle.sim_module.specs.ShownBytes.{cleared, is_mapped}
use Rattle.sim_module.specs.Stores.{staged_at, stored_byte, stored_bytes, stored_high, stored_low}
use Rattle.sim_module.proofs.IdleModule.{high_test}
use Rattle.sim_module.proofs.SoundModule.{either, fetched_keeps, stored_keeps}

-- P holds after each of these changes where it held before; the bits are those of DPDeinit and ApplyDPInit
pub record SurvivesChanges (P : SimModule → Type 0) (bits : ℕ) : Type 0 where
  pub flags : (sim : SimModule) (module_flags : ℕ) (lane_flags : List ℕ) → P sim → P (record sim { module_flags = module_flags; lane_flags = lane_flags })
  pub selection : (sim : SimModule) (selection : MappedPage) → P sim → P (record sim { selection = selection })
  pub deinit : (sim : SimModule) → P sim → P (record sim { deinit = lanes_in bits })
  pub apply : (sim : SimModule) → P sim → P (applied sim (lanes_in bits))
  pub staged : (sim : SimModule) (lane byte : ℕ) → P sim → P (staged_at sim lane byte)

-- of a lane after another byte is staged, what isn't the staged byte
pub restaged : {X : Type 0} (f : Lane → X) (lanes : List Lane) (i j byte : ℕ) → f (record (get_or lanes i no_lane) { staged = byte }) ≡ f (get_or lanes i no_lane) →
    f (get_or (set lanes i (record (get_or lanes i no_lane) { staged = byte })) j no_lane) ≡ f (get_or lanes j no_lane)
restaged f lanes i j byte same = places lanes i j (record (get_or lanes i no_lane) { staged = byte }) same where
  places : (lanes : List Lane) (i j : ℕ) (new : Lane) → f new ≡ f (get_or lanes i no_lane) → f (get_or (set lanes i new) j no_lane) ≡ f (get_or lanes j no_lane)
  places [] i j new same = refl
  places (l ∷ ls) zero zero new same = same
  places (l ∷ ls) zero (suc j) new same = refl
  places (l ∷ ls) (suc i) zero new same = refl
  places (l ∷ ls) (suc i) (suc j) new same = places ls i j new same

not_128 : (address : ℕ) → first_byte registers.StagedControl ≤ address → (address == 128) ≡ false
not_128 address high = grind (arith, nat_tests)

not_at_apply : (address : ℕ) → first_byte registers.StagedControl ≤ address → (address == first_byte registers.ApplyDPInit) ≡ false
not_at_apply address high = grind (arith, nat_tests)

module _ (P : SimModule → Type 0) (bits : ℕ) (survives : SurvivesChanges P bits) where
  after_read : (sim : SimModule) (is_read : ℕ → Bool) → P sim → P (cleared sim is_read)
  unfolding cleared
  after_read sim is_read holds = survives.flags sim _ _ holds

  by_fetch : (dev : Dev) (address count : ℕ) → IsKeptBy conduct P (Fetch dev address count)
  by_fetch dev address count = λ sim holds. fetched_keeps P sim dev address count holds (after_read sim (is_from address count) holds)

  -- ---- selections, also of the first byte alone

  bank_byte : (sim : SimModule) (byte : ℕ) → P sim → P (stored_byte sim 126 byte)
  unfolding stored_byte
  bank_byte sim byte holds = survives.selection sim _ holds

  page_byte : (sim : SimModule) (byte : ℕ) → P sim → P (stored_byte sim 127 byte)
  unfolding stored_byte
  page_byte sim byte holds = survives.selection sim _ holds

  selection_bytes : (bank page : ℕ) (sim : SimModule) (k : ℕ) → P sim → P (stored_bytes sim 126 (take k (bank ∷ page ∷ [])))
  selection_bytes bank page sim zero holds = holds
  selection_bytes bank page sim (suc zero) holds = bank_byte sim bank holds
  selection_bytes bank page sim (suc (suc zero)) holds = page_byte (stored_byte sim 126 bank) page (bank_byte sim bank holds)
  selection_bytes bank page sim (suc (suc (suc k))) holds = page_byte (stored_byte sim 126 bank) page (bank_byte sim bank holds)

  by_selection : (bank page : ℕ) → IsKeptBy conduct P (Store A0 126 (record { items = bank ∷ page ∷ [] }))
  by_selection bank page = (
    λ sim holds. stored_keeps P sim A0 126 (bank ∷ page ∷ []) holds (selection_bytes bank page sim 2 holds),
    λ sim k holds. stored_keeps P sim A0 126 (take k (bank ∷ page ∷ [])) holds (selection_bytes bank page sim k holds),
  )

  -- ---- the bits

  deinit_byte : (sim : SimModule) → P sim → P (stored_byte sim 128 bits)
  unfolding stored_byte
  deinit_byte sim holds = either P (is_mapped sim 0x10) (record sim { deinit = lanes_in bits }) sim (survives.deinit sim holds) holds

  apply_byte : (sim : SimModule) → P sim → P (stored_byte sim (first_byte registers.ApplyDPInit) bits)
  unfolding stored_byte
  apply_byte sim holds = either P (is_mapped sim 0x10) (applied sim (lanes_in bits)) sim (survives.apply sim holds) holds

  by_one_byte : (address byte : ℕ) → ((sim : SimModule) → P sim → P (stored_byte sim address byte)) → IsKeptBy conduct P (Store A0 address (record { items = byte ∷ [] }))
  by_one_byte address byte here = (
    λ sim holds. stored_keeps P sim A0 address (byte ∷ []) holds (here sim holds),
    λ sim k holds. stored_keeps P sim A0 address (take k (byte ∷ [])) holds (cut sim k holds),
  ) where
    cut : (sim : SimModule) (k : ℕ) → P sim → P (stored_bytes sim address (take k (byte ∷ [])))
    cut sim zero holds = holds
    cut sim (suc zero) holds = here sim holds
    cut sim (suc (suc k)) holds = here sim holds

  -- ---- the staged bytes, however many

  staged_byte : (sim : SimModule) (address byte : ℕ) → first_byte registers.StagedControl ≤ address → P sim → P (stored_byte sim address byte)
  unfolding stored_byte
  staged_byte sim address byte high holds =
      let upper : 128 ≤ address = omega (arith, high) in
      let staged = staged_at sim (address - first_byte registers.StagedControl + 1) byte in
      let rest = if is_in registers.StagedControl address then staged else sim in
      let applies = if address == first_byte registers.ApplyDPInit then applied sim (lanes_in byte) else rest in
      let control : P (stored_high sim address byte) =
      subst (λ (t : Bool). P (if t then record sim { deinit = lanes_in byte } else applies)) (sym (not_128 address high))
      (subst (λ (t : Bool). P (if t then applied sim (lanes_in byte) else rest)) (sym (not_at_apply address high))
      (either P (is_in registers.StagedControl address) staged sim (survives.staged sim (address - first_byte registers.StagedControl + 1) byte holds) holds)) in
      subst (λ (low : Bool). P (if low then stored_low sim address byte else if is_mapped sim 0x10 then stored_high sim address byte else sim)) (sym (high_test address upper))
      (either P (is_mapped sim 0x10) (stored_high sim address byte) sim control holds)

  staged_bytes : (sim : SimModule) (address : ℕ) (bytes : List ℕ) → first_byte registers.StagedControl ≤ address → P sim → P (stored_bytes sim address bytes)
  staged_bytes sim address [] high holds = holds
  staged_bytes sim address (byte ∷ bytes) high holds = staged_bytes (stored_byte sim address byte) (address + 1) bytes (omega (arith, high)) (staged_byte sim address byte high holds)

  by_stage : (bytes : List ℕ) → IsKeptBy conduct P (Store A0 (first_byte registers.StagedControl) (record { items = bytes }))
  by_stage bytes = (
    λ sim holds. stored_keeps P sim A0 (first_byte registers.StagedControl) bytes holds (staged_bytes sim (first_byte registers.StagedControl) bytes (omega arith) holds),
    λ sim k holds. stored_keeps P sim A0 (first_byte registers.StagedControl) (take k bytes) holds (staged_bytes sim (first_byte registers.StagedControl) (take k bytes) (omega arith) holds),
  )

-- ---- step by step

by_op : (P : SimModule → Type 0) (op other : Op) → op ≡ other → IsKeptBy conduct P other → IsKeptBy conduct P op
by_op P op other is keeps = subst (IsKeptBy conduct P) (sym is) keeps

module _ (control : List ℕ) (lanes : Lanes) (P : SimModule → Type 0) (survives : SurvivesChanges P (byte_of lanes)) where
  abbrev bits : ℕ
  bits = byte_of lanes

  pub by_step : (step : Step) (before : History) → IsProvisioningStep control lanes step before → IsKeptBy conduct P step.op
  by_step step before (inl (inl is)) = by_op P _ _ is (by_fetch P bits survives A0 3 1)
  by_step step before (inl (inr (inl is))) = by_op P _ _ is (by_fetch P bits survives A0 126 2)
  by_step step before (inl (inr (inr (inl is)))) = by_op P _ _ is (by_selection P bits survives 0 control_page)
  by_step step before (inl (inr (inr (inr (inl is))))) = by_op P _ _ is (by_selection P bits survives 0 status_page)
  by_step step before (inl (inr (inr (inr (inr none))))) = absurd none
  by_step step before (inr (inl (inl is, confirmed))) = by_op P _ _ is (by_fetch P bits survives A0 128 4)
  by_step step before (inr (inl (inr (inl is), confirmed))) = by_op P _ _ is (by_fetch P bits survives A0 (first_byte registers.ConfigStatus) (byte_count registers.ConfigStatus))
  by_step step before (inr (inl (inr (inr (inl is)), confirmed))) = by_op P _ _ is (by_fetch P bits survives A0 (first_byte registers.ActiveControl) (byte_count registers.ActiveControl))
  by_step step before (inr (inl (inr (inr (inr none)), confirmed))) = absurd none
  by_step step before (inr (inr (inl is, confirmed))) = by_op P _ _ is (by_one_byte P bits survives 128 bits (deinit_byte P bits survives))
  by_step step before (inr (inr (inr (inl is), confirmed))) = by_op P _ _ is (by_stage P bits survives control)
  by_step step before (inr (inr (inr (inr (inl is)), confirmed))) = by_op P _ _ is (by_fetch P bits survives A0 (first_byte registers.StagedControl) (byte_count registers.StagedControl))
  by_step step before (inr (inr (inr (inr (inr (inl is))), confirmed))) = by_op P _ _ is (by_one_byte P bits survives (first_byte registers.ApplyDPInit) bits (apply_byte P bits survives))
  by_step step before (inr (inr (inr (inr (inr (inr none))), confirmed))) = absurd none

  pub each_keeps : (history : History) → EachStep (IsProvisioningStep control lanes) history → AllByRecursion (λ step. IsKeptBy conduct P step.op) history
  each_keeps [] shape = tt
  each_keeps (step ∷ before) shape = (by_step step before shape.0, each_keeps before shape.1)

-- the oldest step first
pub all_reversed : {X : Type 0} (P : X → Type 0) (xs : List X) → AllByRecursion P xs → AllByRecursion P (reverse xs)
all_reversed P [] all = tt
all_reversed P (x ∷ xs) all = subst (AllByRecursion P) (sym (reverse-append (x ∷ []) xs)) (all_of_append P (reverse xs) (x ∷ []) (all_reversed P xs all.1) (all.0, tt))
