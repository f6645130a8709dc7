use Rattle.std.proofs.Common.{◌≡◌, ℕ, ◌+◌, ◌++◌, ◌∷◌, [], List, true, false, length, refl, sym, ap, ◌∙◌, append-nil, append_assoc, arith}
use Rattle.field_tables.specs.LaneSets.{run_of}
use Rattle.applications.specs.declared.app.App.{App}
use Rattle.applications.specs.Advertised.{Advertised}
use Rattle.plan_certificate.specs.declared.path.Path.{Path}
use Rattle.plan_certificate.specs.KeptPaths.{is_eligible}
use Rattle.plan_certificate.specs.Paths.{app_of}
use Rattle.plan_certificate.proofs.MoveLists.{paths_at_media, media_more}
use Rattle.plan_certificate.specs.declared.moves.Move.{Move}
use Rattle.plan_certificate.specs.Moves.{move_of, moves_of}
use Rattle.plan_certificate.proofs.Heaviest.{allowed}
use Rattle.plan_certificate.proofs.KeptPaths.{eligible_allowed}
use Rattle.plan_certificate.proofs.MoveLists.{moves_of_both, move_of_one, no_move_of_one}
use Rattle.plan_certificate.proofs.moves.push_moves.Goals as goal
use Rattle.plan_certificate.proofs.moves.push_moves.Goals.{then-is_eligible_as, else-is_eligible_as}

pub loop-before-init : goal.loop-before-init
unfolding moves_of
loop-before-init g c = record {
  moves = sym (append-nil c.args.moves.now.items);
  few = omega arith;
}

-- the media lane does not matter
same_app : (advert : Advertised) (app host media other : ℕ) → app_of advert record { app = app; host = host; media = media } ≡ app_of advert record { app = app; host = host; media = other }
unfolding app_of
same_app advert app host media other = refl

pub is_eligible_as-requires-clause-app : goal.is_eligible_as-requires-clause-app
is_eligible_as-requires-clause-app g c = c.application-application.ensures ∙ same_app c.args.advert.now c.args.app c.args.host 1 (c.loop-before.before + 1)

pub run-media_lanes-requires-clause-to_eight : goal.run-media_lanes-requires-clause-to_eight
run-media_lanes-requires-clause-to_eight g c =
    let one : Path = record { app = c.args.app; host = c.args.host; media = c.loop-before.before + 1 } in
    let lanes = allowed c.args.advert.now one (eligible_allowed c.args.advert.now c.args.kept.now one (sym c.is_eligible_as.ensures ∙ c.if-is_eligible_as.true)) in
    let same = c.application-application.ensures ∙ same_app c.args.advert.now c.args.app c.args.host 1 (c.loop-before.before + 1) in
    omega (arith, lanes.media_to, ap (λ (a : App). a.media_lanes) same)

pub loop-before-preserved : goal.loop-before-preserved
loop-before-preserved g c =
    let host : ℕ = c.args.host in
    let before = c.loop-before.before in
    let one : Path = record { app = c.args.app; host = host; media = before + 1 } in
    let made = moves_of c.args.advert.now c.args.weights.now c.args.kept.now in
    let so_far = paths_at_media host c.args.app before in
    let old = c.args.moves.now.items in
    let all : made (paths_at_media host c.args.app (before + 1)) ≡ made so_far ++ made (one ∷ []) = ap made (media_more host c.args.app before) ∙ moves_of_both c.args.advert.now c.args.weights.now c.args.kept.now so_far (one ∷ []) in
    elim c.if-is_eligible_as.branch [
      | then-is_eligible_as w ↦
          let same : c.if-is_eligible_as.moves.items ≡ w.push.new.self.items = (λ i. (w.moves-is i).items) in
          let can : is_eligible c.args.advert.now c.args.kept.now one ≡ true = sym c.is_eligible_as.ensures ∙ w.if-is_eligible_as.true in
          let app = c.application-application.ensures ∙ same_app c.args.advert.now c.args.app host 1 (before + 1) in
          let lanes = w.run-media_lanes.ensures ∙ ap (λ (a : App). run_of (before + 1) a.media_lanes) app in
          let weight = c.of_path-weight.ensures.weight in
          let is : ◌≡◌ {A = Move} (record { path = one; host_lanes = c.application-application.result.host_lanes; media_lanes = w.run-media_lanes.result; weight = c.of_path-weight.result }) (move_of c.args.advert.now c.args.weights.now one) = (λ i. record { path = one; host_lanes = (app i).host_lanes; media_lanes = lanes i; weight = weight i }) in
          let decision = move_of_one c.args.advert.now c.args.weights.now c.args.kept.now one can in
          record {
            moves =
                same
                ∙ w.push.ensures.items
                ∙ (λ i. c.loop-before.invariant.moves i ++ is i ∷ [])
                ∙ append_assoc old (made so_far) _
                ∙ ap (λ (more : List Move). old ++ more) (ap (λ (more : List Move). made so_far ++ more) (sym decision) ∙ sym all);
            few = omega (arith, ap (λ (items : List Move). length items) same, w.push.ensures.len, c.loop-before.invariant.few);
          }
      | else-is_eligible_as w ↦
          let same : c.if-is_eligible_as.moves.items ≡ c.loop-before.moves.items = (λ i. (w.moves-is i).items) in
          let barred : is_eligible c.args.advert.now c.args.kept.now one ≡ false = sym c.is_eligible_as.ensures ∙ w.if-is_eligible_as.false in
          let decision = no_move_of_one c.args.advert.now c.args.weights.now c.args.kept.now one barred in
          record {
            moves =
                same
                ∙ c.loop-before.invariant.moves
                ∙ ap (λ (more : List Move). old ++ more) (sym (append-nil (made so_far)) ∙ ap (λ (more : List Move). made so_far ++ more) (sym decision) ∙ sym all);
            few = omega (arith, ap (λ (items : List Move). length items) same, c.loop-before.invariant.few);
          }
    ]
