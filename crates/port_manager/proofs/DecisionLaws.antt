-- What an image with page 11h, of a module that is ready, is judged by.
use Rattle.std.proofs.Common.{◌≡◌, ℕ, Bool, true, List, Option, Some, None, sym, ap, subst, ◌∙◌, Result, Ok, Err}
use Rattle.std.specs.Prelude.{◌==◌, MatchOption}
use Rattle.applications.specs.Advertised.{Advertised}
use Rattle.applications.specs.declared.fault.AdvertFault.{AdvertFault}
use Rattle.field_tables.specs.declared.field.Field.TheVariants as fields
use Rattle.field_tables.specs.declared.table.cmis.CmisField.TheVariants as cmis
use Rattle.field_tables.specs.Readings.{number}
use Rattle.paged_memory.specs.Images.{Memory}
use Rattle.port_manager.specs.declared.deciding.Decision.{Decision}
use Rattle.port_manager.specs.declared.deciding.Goal.{Goal}
use Rattle.port_manager.specs.declared.deciding.Wanted.{Wanted}
use Rattle.port_manager.specs.Decisions.{IsDecisionIn, IsJudged, judged_by, page_of_lanes}
use Rattle.port_manager.specs.Goals.{HasGoal, advert_of}

-- it is advertised, so there is no fault
pub advertised : (found : Option AdvertFault) (result : Result Advertised AdvertFault) (advert good : Advertised) (P : Type 0) (Q : AdvertFault → Type 0) → MatchOption found (result ≡ Ok good) (λ fault. result ≡ Err fault)
    → result ≡ Ok advert → P → MatchOption found P Q
advertised None result advert good P Q is ok p = p
advertised (Some fault) result advert good P Q is ok p = absurd (let same : Ok advert ≡ Err fault = sym ok ∙ is in cc)

is_three : (code : ℕ) → code ≡ 3 → (code == 3) ≡ true
is_three code e = ap (λ (code : ℕ). code == 3) e

pub ready_judged : (wanted : Wanted) (image : Memory) (page : List ℕ) (goal : Goal) (decision : Decision) → number image (fields.Cmis cmis.ModuleState) ≡ 3 → page_of_lanes image ≡ Some page
    → HasGoal (advert_of wanted image) wanted page goal → decision ≡ judged_by wanted page goal → IsDecisionIn wanted image (number image (fields.Cmis cmis.ModuleState) == 3) decision
ready_judged wanted image page goal decision ready there has is =
    subst (λ (ready : Bool). IsDecisionIn wanted image ready decision) (sym (is_three (number image (fields.Cmis cmis.ModuleState)) ready))
    (subst (λ (found : Option (List ℕ)). IsJudged wanted image found decision) (sym there) (goal, has, is))
