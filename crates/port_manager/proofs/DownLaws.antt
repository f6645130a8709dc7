-- No path of a goal has a lane that is to be down.
use Rattle.std.proofs.Common.{◌≡◌, ℕ, ◌&&◌, ◌||◌, Bool, true, false, List, [], ◌∷◌, cond, inl, inr, refl, sym, ap, subst, ◌∙◌}
use Rattle.std.proofs.lemmas.Bool.{cases_Bool, eqb-true}
use Rattle.std.specs.Cmp.{nat_cmp_total}
use Rattle.std.specs.FinSet as set
use Rattle.std.specs.FinSet.{contains-empty, contains-intersection, empty_of_len}
use Rattle.std.specs.Ordering.{nat_cmp}
use Rattle.field_tables.specs.LaneSets.{Lanes, every_lane, is_disjoint}
use Rattle.applications.specs.Advertised.{Advertised}
use Rattle.plan_certificate.specs.declared.path.Path.{Path}
use Rattle.plan_certificate.specs.Paths.{host_lanes}
use Rattle.control_sets.specs.PlanLanes.{is_taken}
use Rattle.port_manager.specs.declared.deciding.Goal.{Goal}
use Rattle.port_manager.specs.declared.deciding.Wanted.{Wanted}
use Rattle.port_manager.specs.Goals.{IsGoalBy, stays_up, wanted_of}
use Rattle.port_manager.proofs.ReleasedBits.{contains_plan}

shared_none : (lanes others : Lanes) (lane : ℕ) → is_disjoint lanes others ≡ true → set.contains lanes lane ≡ true → set.contains others lane ≡ true → ⊥
shared_none lanes others lane disjoint in_one in_other =
    let both : set.contains (set.intersection lanes others) lane ≡ true = contains-intersection nat_cmp_total lanes others lane ∙ (λ i. in_one i && in_other i) in
    let neither : set.contains (set.intersection lanes others) lane ≡ false =
    ap (λ (s : Lanes). set.contains s lane) (empty_of_len (set.intersection lanes others) (eqb-true _ _ disjoint)) ∙ contains-empty nat_cmp lane in
    let wrong = sym both ∙ neither in
    cc

free_of : (lanes others : Lanes) (lane : ℕ) → is_disjoint lanes others ≡ true → set.contains others lane ≡ true → set.contains lanes lane ≡ false
free_of lanes others lane disjoint inside =
    elim (cases_Bool (set.contains lanes lane)) [
      | inl within ↦ absurd (shared_none lanes others lane disjoint within inside)
      | inr without ↦ without
    ]

none_taken : (advert : Advertised) (down : Lanes) (plan : List Path) (lane : ℕ) → set.contains down lane ≡ true → is_taken advert (wanted_of advert down plan) lane ≡ false
none_taken advert down [] lane inside = refl
none_taken advert down (path ∷ paths) lane inside =
    let rest = wanted_of advert down paths in
    let Free : Bool → Type 0 = λ b. is_taken advert (cond b (path ∷ rest) rest) lane ≡ false in
    elim (cases_Bool (stays_up advert down path)) [
      | inl stays ↦
          subst Free (sym stays)
          (ap (λ (one : Bool). one || is_taken advert rest lane) (free_of (host_lanes advert path) down lane stays inside) ∙ none_taken advert down paths lane inside)
      | inr other ↦ subst Free (sym other) (none_taken advert down paths lane inside)
    ]

and_false : (one : Bool) → (one && false) ≡ false
and_false true = refl
and_false false = refl

pub not_in_goal : (advert : Advertised) (wanted : Wanted) (page : List ℕ) (plan : List Path) (goal : Goal) (lane : ℕ) → IsGoalBy advert wanted page plan goal → set.contains wanted.down lane ≡ true → set.contains goal.lanes lane ≡ false
not_in_goal advert wanted page plan goal lane is inside =
    ap (λ (lanes : Lanes). set.contains lanes lane) is.lanes
    ∙ contains_plan advert (wanted_of advert wanted.down plan) lane
    ∙ ap (λ (taken : Bool). set.contains every_lane lane && taken) (none_taken advert wanted.down plan lane inside)
    ∙ and_false (set.contains every_lane lane)
