-- The text of a plan's certificate as C is given it: into a buffer that has room for it, with its length in any case.
-- (docs/firmware.md, "Certificates"; this project's own)
use Rattle.std.specs.Prelude.{◌≡◌, ◌≤◌, ℕ, List, Some, length}
use Rattle.applications.specs.Advertised.{Advertised}
use Rattle.applications.specs.Weights.{TableWeights}
use Rattle.plan_certificate.specs.declared.path.Path.{Path}
use Rattle.lane_planner.specs.Buffers.{buffer_with}
use Rattle.lane_planner.specs.CertifiedPlans.{IsPlanText}
use Rattle.firmware_api.specs.Plans.{path_weights}
use Rattle.firmware_api.specs.Statuses.{status_by}
use Rattle.firmware_api.specs.Texts.{text_refusal}

-- no certificate of a plan has a longer text
abbrev pub longest_certificate : ℕ
longest_certificate = 74046

-- the text of the certificate of the first best plan came into the buffer, or the buffer has no room for it and is as it was
pub record IsTextPut (advert : Advertised) (weights : TableWeights) (stay : ℕ) (kept : List Path) (before after : List ℕ) (len : ℕ) : Type 0 where
  pub text : List ℕ
  pub is_text : IsPlanText advert (path_weights advert weights stay) kept text
  pub counted : len ≡ length text
  pub short : len ≤ longest_certificate
  pub buffer : after ≡ buffer_with before text

-- and the status says which
pub record IsCertificatePut (advert : Advertised) (weights : TableWeights) (stay : ℕ) (kept : List Path) (before : List ℕ) (status : ℕ) (after : List ℕ) (len : ℕ) : Type 0 where
  pub put : IsTextPut advert weights stay kept before after len
  pub told : status ≡ status_by (text_refusal (Some put.text) (length before))
