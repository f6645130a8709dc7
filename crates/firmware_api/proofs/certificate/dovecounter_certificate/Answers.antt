use Rattle.std.proofs.Common.{◌≡◌, ◌<◌, ◌≤◌, ◌∙◌, ℕ, Bool, true, false, cond, List, length, Some, None, MatchOption, sym, subst, ap, arith, le-ltb, lt-ltb}
use Rattle.applications.specs.Advertised.{Advertised}
use Rattle.applications.specs.declared.conventions.Conventions.{Conventions}
use Rattle.applications.specs.Weights.{TableWeights}
use Rattle.lane_planner.specs.CertifiedPlans.{IsPlanText}
use Rattle.plan_certificate.specs.declared.path.Path.{Path}
use Rattle.firmware_api.specs.declared.status.Refusal.{Refusal}
use Rattle.firmware_api.specs.declared.status.Refusal.TheVariants.{TooSmall}
use Rattle.firmware_api.specs.Halves.{advert_of, refusal_under}
use Rattle.firmware_api.specs.Plans.{kept_refusal, path_weights, plan_refusal}
use Rattle.firmware_api.specs.Statuses.{status_by, status_of}
use Rattle.firmware_api.specs.Texts.{text_refusal}
use Rattle.firmware_api.specs.WrittenCertificates.{IsCertificatePut, IsTextPut}
use Rattle.firmware_api.proofs.StatusLaws.{same_ok, when_answered, when_value}
use Rattle.firmware_api.proofs.certificate.dovecounter_certificate.Goals as goal

-- the text is put for the same paths
put_for : (advert : Advertised) (weights : TableWeights) (stay : ℕ) (plan kept : List Path) (before after : List ℕ) (status len : ℕ) → plan ≡ kept →
    (put : IsTextPut advert weights stay plan before after len) → status ≡ status_by (text_refusal (Some put.text) (length before)) →
    IsCertificatePut advert weights stay kept before status after len
put_for advert weights stay plan kept before after status len same put told = record {
  put = record {
    text = put.text;
    is_text = subst (λ (paths : List Path). IsPlanText advert (path_weights advert weights stay) paths put.text) same put.is_text;
    counted = put.counted;
    short = put.short;
    buffer = put.buffer;
  };
  told = told;
}

abbrev told_by : Bool → ℕ
told_by short = status_by (cond short (Some TooSmall) None)

pub returns-then-room-text_length : goal.returns-then-room-text_length
returns-then-room-text_length c =
    let halves = c.args.halves.now in
    let kept = c.args.kept.now in
    let before : List ℕ = c.args.buffer.now in
    let after : List ℕ = c.put_text.new.buffer in
    let len = c.put_text.result in
    let advert = c.in-Ok.advert in
    let plan = c.in-Ok-kept_plan.kept in
    let put = c.put_text.ensures in
    let short : length before < length put.text = omega (arith, c.if-room-text_length.true, put.counted) in
    let status = told_by true in
    let Put : Advertised → Type 0 = λ advert. IsCertificatePut advert c.args.weights.now c.args.stay kept before status after len in
    let H : Refusal → Type 0 = λ refusal. (status ≡ status_of refusal) × (after ≡ before) × (len ≡ c.args.text_length.now) in
    let told = ap told_by (sym (lt-ltb (length before) (length put.text) short)) in
    let holds : MatchOption (kept_refusal advert kept) (Put advert) H =
    when_answered c.kept_plan.result (kept_refusal advert kept) plan _ (Put advert) H c.kept_plan.ensures c.in-Ok-kept_plan.is
    (λ right. put_for advert c.args.weights.now c.args.stay plan kept before after status len (same_ok plan kept (sym c.in-Ok-kept_plan.is ∙ right.0)) put told) in
    subst (λ (conventions : Conventions). MatchOption (plan_refusal halves conventions kept) (Put (advert_of halves conventions)) H) c.conventions_of.ensures
    (when_value c.read_advert_under.result (refusal_under c.conventions_of.result halves) (λ (a : Advertised). kept_refusal a kept) advert (advert_of halves c.conventions_of.result) Put H
    c.read_advert_under.ensures c.in-Ok.is holds)

pub returns-else-room-text_length : goal.returns-else-room-text_length
returns-else-room-text_length c =
    let halves = c.args.halves.now in
    let kept = c.args.kept.now in
    let before : List ℕ = c.args.buffer.now in
    let after : List ℕ = c.put_text.new.buffer in
    let len = c.put_text.result in
    let advert = c.in-Ok.advert in
    let plan = c.in-Ok-kept_plan.kept in
    let put = c.put_text.ensures in
    let room : length put.text ≤ length before = omega (arith, c.if-room-text_length.false, put.counted) in
    let status = told_by false in
    let Put : Advertised → Type 0 = λ advert. IsCertificatePut advert c.args.weights.now c.args.stay kept before status after len in
    let H : Refusal → Type 0 = λ refusal. (status ≡ status_of refusal) × (after ≡ before) × (len ≡ c.args.text_length.now) in
    let told = ap told_by (sym (le-ltb (length before) (length put.text) room)) in
    let holds : MatchOption (kept_refusal advert kept) (Put advert) H =
    when_answered c.kept_plan.result (kept_refusal advert kept) plan _ (Put advert) H c.kept_plan.ensures c.in-Ok-kept_plan.is
    (λ right. put_for advert c.args.weights.now c.args.stay plan kept before after status len (same_ok plan kept (sym c.in-Ok-kept_plan.is ∙ right.0)) put told) in
    subst (λ (conventions : Conventions). MatchOption (plan_refusal halves conventions kept) (Put (advert_of halves conventions)) H) c.conventions_of.ensures
    (when_value c.read_advert_under.result (refusal_under c.conventions_of.result halves) (λ (a : Advertised). kept_refusal a kept) advert (advert_of halves c.conventions_of.result) Put H
    c.read_advert_under.ensures c.in-Ok.is holds)
