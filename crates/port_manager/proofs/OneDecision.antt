-- An image is decided in one way.
use Rattle.std.proofs.Common.{◌≡◌, ℕ, Bool, true, false, List, [], Option, Some, None, sym, ap, subst, ◌∙◌}
use Rattle.std.specs.Prelude.{◌==◌, MatchOption}
use Rattle.applications.specs.Advertised.{Advertised}
use Rattle.applications.specs.AppWeights.{app_weights}
use Rattle.applications.specs.Weights.{weights_of_hosts}
use Rattle.applications.specs.declared.fault.AdvertFault.{AdvertFault}
use Rattle.applications.specs.Refusals.{advert_fault_under}
use Rattle.control_sets.specs.PlanLanes.{lanes_outside}
use Rattle.field_tables.specs.declared.field.Field.TheVariants as fields
use Rattle.field_tables.specs.declared.table.cmis.CmisField.TheVariants as cmis
use Rattle.field_tables.specs.Readings.{number}
use Rattle.paged_memory.specs.Images.{Memory}
use Rattle.plan_certificate.specs.declared.path.Path.{Path}
use Rattle.lane_planner.proofs.FirstLaws.{one_first}
use Rattle.lane_planner.proofs.OneText.{one_rising}
use Rattle.port_manager.specs.declared.deciding.Decision.{Decision}
use Rattle.port_manager.specs.declared.deciding.Decision.TheVariants.{Leave}
use Rattle.port_manager.specs.declared.deciding.Goal.{Goal}
use Rattle.port_manager.specs.declared.deciding.LeftBecause.TheVariants.{Advert}
use Rattle.port_manager.specs.declared.deciding.Wanted.{Wanted}
use Rattle.port_manager.specs.Decisions.{IsDecision, IsDecisionFor, IsDecisionIn, IsJudged, judged_by, page_of_lanes, sleep_within}
use Rattle.port_manager.specs.Goals.{HasGoal, IsGoalBy, advert_of, conventions_of, kept_of, wanted_of}

one_plan : (advert : Advertised) (wanted : Wanted) (page : List ℕ) (plan other : List Path) (goal also : Goal) → IsGoalBy advert wanted page plan goal → IsGoalBy advert wanted page other also → plan ≡ other
one_plan advert wanted page plan other goal also is too =
    one_rising (λ (path : Path). path.host) plan other is.rising too.rising
    (one_first advert (app_weights advert (weights_of_hosts wanted.hosts wanted.stay)) [] plan other is.first too.first)

same_goal : (goal also : Goal) → goal.control ≡ also.control → goal.lanes ≡ also.lanes → goal.outside ≡ also.outside → goal ≡ also
same_goal goal also control lanes outside = λ i. record { control = control i; lanes = lanes i; outside = outside i }

one_goal_by : (advert : Advertised) (wanted : Wanted) (page : List ℕ) (plan : List Path) (goal also : Goal) → IsGoalBy advert wanted page plan goal → IsGoalBy advert wanted page plan also → goal ≡ also
one_goal_by advert wanted page plan goal also is too =
    let control : goal.control ≡ also.control = is.control ∙ sym too.control in
    same_goal goal also control (is.lanes ∙ sym too.lanes)
    (is.outside ∙ ap (λ (bytes : List ℕ). lanes_outside advert (kept_of advert page bytes (wanted_of advert wanted.down plan))) control ∙ sym too.outside)

one_goal : (advert : Advertised) (wanted : Wanted) (page : List ℕ) (goal also : Goal) → HasGoal advert wanted page goal → HasGoal advert wanted page also → goal ≡ also
one_goal advert wanted page goal also (plan, is) (other, too) =
    one_goal_by advert wanted page plan goal also is
    (subst (λ (plan : List Path). IsGoalBy advert wanted page plan also) (sym (one_plan advert wanted page plan other goal also is too)) too)

one_judged : (wanted : Wanted) (image : Memory) (found : Option (List ℕ)) (one other : Decision) → IsJudged wanted image found one → IsJudged wanted image found other → one ≡ other
one_judged wanted image None one other is too = is ∙ sym too
one_judged wanted image (Some page) one other (goal, has, is) (also, too, same) =
    is ∙ ap (judged_by wanted page) (one_goal (advert_of wanted image) wanted page goal also has too) ∙ sym same

one_in : (wanted : Wanted) (image : Memory) (ready : Bool) (one other : Decision) → IsDecisionIn wanted image ready one → IsDecisionIn wanted image ready other → one ≡ other
one_in wanted image true one other is too = one_judged wanted image (page_of_lanes image) one other is too
one_in wanted image false one other is too = is ∙ sym too

one_unless : (wanted : Wanted) (image : Memory) (found : Option AdvertFault) (one other : Decision)
    → MatchOption found (IsDecisionIn wanted image (number image (fields.Cmis cmis.ModuleState) == 3) one) (λ fault. one ≡ Leave (Advert fault))
    → MatchOption found (IsDecisionIn wanted image (number image (fields.Cmis cmis.ModuleState) == 3) other) (λ fault. other ≡ Leave (Advert fault)) → one ≡ other
one_unless wanted image None one other is too = one_in wanted image (number image (fields.Cmis cmis.ModuleState) == 3) one other is too
one_unless wanted image (Some fault) one other is too = is ∙ sym too

one_asleep : (wanted : Wanted) (image : Memory) (found : Option AdvertFault) (one other : Decision) → MatchOption found (one ≡ sleep_within wanted.may_take_down image) (λ fault. one ≡ Leave (Advert fault))
    → MatchOption found (other ≡ sleep_within wanted.may_take_down image) (λ fault. other ≡ Leave (Advert fault)) → one ≡ other
one_asleep wanted image None one other is too = is ∙ sym too
one_asleep wanted image (Some fault) one other is too = is ∙ sym too

one_for : (asleep : Bool) (wanted : Wanted) (image : Memory) (one other : Decision) → IsDecisionFor asleep wanted image one → IsDecisionFor asleep wanted image other → one ≡ other
one_for true wanted image one other is too = one_asleep wanted image (advert_fault_under (conventions_of wanted) image) one other is too
one_for false wanted image one other is too = one_unless wanted image (advert_fault_under (conventions_of wanted) image) one other is too

pub one_decision : (wanted : Wanted) (image : Memory) (one other : Decision) → IsDecision wanted image one → IsDecision wanted image other → one ≡ other
one_decision wanted image one other is too = one_for wanted.asleep wanted image one other is too
