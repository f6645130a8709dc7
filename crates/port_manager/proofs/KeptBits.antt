-- The stores of provisioning have no bit of a kept lane.
use Rattle.std.proofs.Common.{◌≡◌, ◌-◌, inl, inr, ℕ, Some, None, List, [], ◌∷◌, Bool, true, false, not, ◌&&◌, refl, sym, ap, ◌∙◌}
use Rattle.std.specs.FinSet as set
use Rattle.bus_model.specs.declared.operation.Op.{Op}
use Rattle.field_tables.specs.declared.field.Register.TheVariants as registers
use Rattle.field_tables.specs.Registers.{first_byte}
use Rattle.field_tables.specs.LaneSets.{IsLane, Lanes, byte_of, every_lane, lanes_in}
use Rattle.control_sets.specs.RegisterOperations.{store_to}
use Rattle.control_sets.specs.StoredBits.{Sets, byte_for}
use Rattle.control_sets.proofs.LaneBits.{in_byte_of}
use Rattle.control_sets.specs.PlanLanes.{is_taken}
use Rattle.control_sets.proofs.PlanLaneLaws.{contains_outside}
use Rattle.applications.specs.Advertised.{Advertised}
use Rattle.plan_certificate.specs.declared.path.Path.{Path}
use Rattle.port_manager.specs.declared.deciding.Goal.{Goal}
use Rattle.port_manager.specs.declared.deciding.Wanted.{Wanted}
use Rattle.port_manager.specs.Goals.{IsGoalBy, is_kept, kept_of, wanted_of}
use Rattle.port_manager.proofs.ReleasedBits.{in_plan, released}
use Rattle.port_manager.specs.Stores.{IsStoreOf}

abbrev Clear : Goal → Op → ℕ → ℕ → Type 0
Clear goal op bits lane = set.contains (lanes_in bits) lane ≡ false

clear_by : (goal : Goal) (op : Op) (bits lane : ℕ) → bits ≡ byte_of goal.outside → IsLane lane → set.contains goal.outside lane ≡ false → Clear goal op bits lane
clear_by goal op bits lane is within out = ap (λ (byte : ℕ). set.contains (lanes_in byte) lane) is ∙ in_byte_of goal.outside lane within ∙ out

pub deinit_bits : (op : Op) (bits mask : ℕ) → op ≡ store_to registers.DPDeinit (mask ∷ []) → Sets bits op → bits ≡ mask
deinit_bits op bits mask is (inl sets) = let same : Some mask ≡ Some bits = ap (byte_for (first_byte registers.DPDeinit)) (sym is) ∙ sets in cc
deinit_bits op bits mask is (inr sets) = let none : None ≡ Some bits = ap (byte_for (first_byte registers.ApplyDPInit)) (sym is) ∙ sets in cc

pub apply_bits : (op : Op) (bits mask : ℕ) → op ≡ store_to registers.ApplyDPInit (mask ∷ []) → Sets bits op → bits ≡ mask
apply_bits op bits mask is (inl sets) = let none : None ≡ Some bits = ap (byte_for (first_byte registers.DPDeinit)) (sym is) ∙ sets in cc
apply_bits op bits mask is (inr sets) = let same : Some mask ≡ Some bits = ap (byte_for (first_byte registers.ApplyDPInit)) (sym is) ∙ sets in cc

pub staged_bits : (op : Op) (bits : ℕ) (control : List ℕ) → op ≡ store_to registers.StagedControl control → Sets bits op → ⊥
staged_bits op bits control is (inl sets) = let none : None ≡ Some bits = ap (byte_for (first_byte registers.DPDeinit)) (sym is) ∙ sets in cc
staged_bits op bits control is (inr sets) = let none : None ≡ Some bits = ap (byte_for (first_byte registers.ApplyDPInit)) (sym is) ∙ sets in cc

and_false : (one : Bool) → (one && false) ≡ false
and_false true = refl
and_false false = refl

-- a lane of a kept path is not among the others
not_outside : (advert : Advertised) (wanted : Wanted) (page : List ℕ) (plan : List Path) (goal : Goal) (lane : ℕ) → IsGoalBy advert wanted page plan goal
    → is_taken advert (kept_of advert page goal.control (wanted_of advert wanted.down plan)) lane ≡ true → set.contains goal.outside lane ≡ false
not_outside advert wanted page plan goal lane is taken =
    ap (λ (lanes : Lanes). set.contains lanes lane) is.outside
    ∙ contains_outside advert (kept_of advert page goal.control (wanted_of advert wanted.down plan)) lane
    ∙ ap (λ (taken : Bool). set.contains every_lane lane && not taken) taken
    ∙ and_false (set.contains every_lane lane)

pub kept_clear : (advert : Advertised) (wanted : Wanted) (page : List ℕ) (plan : List Path) (goal : Goal) (op : Op) (bits lane : ℕ) → IsGoalBy advert wanted page plan goal
    → is_taken advert (kept_of advert page goal.control (wanted_of advert wanted.down plan)) lane ≡ true → IsStoreOf goal op → Sets bits op → IsLane lane → Clear goal op bits lane
kept_clear advert wanted page plan goal op bits lane is taken (inl deinit) sets within =
    clear_by goal op bits lane (deinit_bits op bits (byte_of goal.outside) deinit sets) within (not_outside advert wanted page plan goal lane is taken)
kept_clear advert wanted page plan goal op bits lane is taken (inr (inl staged)) sets within = absurd (staged_bits op bits goal.control staged sets)
kept_clear advert wanted page plan goal op bits lane is taken (inr (inr (inl applies))) sets within =
    clear_by goal op bits lane (apply_bits op bits (byte_of goal.outside) applies sets) within (not_outside advert wanted page plan goal lane is taken)
kept_clear advert wanted page plan goal op bits lane is taken (inr (inr (inr release))) sets within =
    ap (λ (byte : ℕ). set.contains (lanes_in byte) lane) (deinit_bits op bits (255 - byte_of goal.lanes) release sets)
    ∙ released goal.lanes lane within (in_plan advert (is_kept advert page goal.control) (wanted_of advert wanted.down plan) goal.lanes lane is.lanes within taken)
