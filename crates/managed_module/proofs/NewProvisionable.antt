-- A new module with no active path, which the port waits for long enough, is provisionable.
use Rattle.std.proofs.Common.{◌≡◌, [], refl, sym, subst, ◌∙◌, arith}
use Rattle.paged_memory.specs.Images.{Memory}
use Rattle.applications.specs.Advertised.{Advertised}
use Rattle.plan_certificate.specs.Plans.{IsAdmissible}
use Rattle.control_sets.specs.ControlBytes.{control_byte, control_bytes}
use Rattle.control_sets.specs.Durations.{patience_for}
use Rattle.port_manager.specs.Goals.{conventions_of}
use Rattle.sim_liveness.specs.Accepted.{read_by}
use Rattle.sim_module.specs.declared.delays.Delays.{Delays}
use Rattle.sim_module.specs.OwnAdverts.{own_advert}
use Rattle.sim_module.specs.Starts.{start}
use Rattle.sim_module.proofs.RestingModule.{rest_start}
use Rattle.managed_module.specs.ManagedPlans.{LastsFor, most_made}
use Rattle.managed_module.specs.SuitedModules.{NewIsProvisionable, none_active}

-- no path is a plan
no_path : (advert : Advertised) → IsAdmissible advert []
no_path advert = record { allowed = λ k d below. absurd (omega (arith, below)); apart = λ i j d order below. absurd (omega (arith, below)) }

none_controlled : (advert : Advertised) → control_bytes advert [] ≡ none_active
unfolding control_bytes control_byte
none_controlled advert = refl

advert_at_start : (memory : Memory) (delays : Delays) → (start memory delays).advert ≡ own_advert (start memory delays).image
unfolding start
advert_at_start memory delays = refl

image_at_start : (memory : Memory) (delays : Delays) → (start memory delays).image ≡ memory
unfolding start
image_at_start memory delays = refl

pub new_is_provisionable : NewIsProvisionable
new_is_provisionable most memory delays lasts none = record {
  own = advert_at_start memory delays;
  lasts = subst (λ (memory : Memory). LastsFor (most_made most) (patience_for memory)) (sym (image_at_start memory delays)) lasts;
  planned = λ wanted suits. record {
    paths = [];
    plan = no_path (read_by (conventions_of wanted) (start memory delays));
    active = (rest_start memory delays).active ∙ none ∙ sym (none_controlled (read_by (conventions_of wanted) (start memory delays)));
  };
}
