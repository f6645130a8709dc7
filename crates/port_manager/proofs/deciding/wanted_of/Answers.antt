use Rattle.std.proofs.Common.{◌≡◌, ◌++◌, length, List, [], ◌∷◌, true, false, get_or, sym, ap, ◌∙◌, arith}
use Rattle.arrayvec.specs.ArrayVec.{ArrayVec}
use Rattle.field_tables.specs.LaneSets.{Lanes, is_disjoint}
use Rattle.plan_certificate.specs.declared.path.Path.{Path}
use Rattle.port_manager.specs.Goals.{stays_up}
use Rattle.port_manager.proofs.KeptPaths.{kept_more, nil_right, one_longer}
use Rattle.port_manager.proofs.deciding.wanted_of.Goals as goal
use Rattle.port_manager.proofs.deciding.wanted_of.Goals.{then-is_disjoint, else-is_disjoint}

pub loop-path-preserved : goal.loop-path-preserved
loop-path-preserved c =
    let items = c.as_slice-path-items.result.now in
    let index = c.loop-path.path-index in
    let none : Path = record { app = 0; host = 0; media = 0 } in
    let path = get_or items index none in
    let stays = c.loop-path.paths.items in
    let is : stays_up c.args.advert.now c.args.down path ≡ c.is_disjoint.result =
    ap (λ (lanes : Lanes). is_disjoint lanes c.args.down) (sym c.host_lanes.ensures) ∙ sym c.is_disjoint.ensures in
    elim c.if-is_disjoint.branch [
      | then-is_disjoint w ↦
          let same : c.if-is_disjoint.paths.items ≡ stays ++ (path ∷ []) = ap (λ (paths : ArrayVec Path). paths.items) w.paths-is ∙ w.push.ensures.items in (
            same ∙ kept_more (stays_up c.args.advert.now c.args.down) items stays index none true c.loop-path-test.true c.loop-path.invariant.0 (is ∙ w.if-is_disjoint.true),
            omega (arith, ap (λ (paths : List Path). length paths) same, one_longer stays path, c.loop-path.invariant.1),
          )
      | else-is_disjoint w ↦
          let same : c.if-is_disjoint.paths.items ≡ stays = ap (λ (paths : ArrayVec Path). paths.items) w.paths-is in (
            same ∙ sym (nil_right stays) ∙ kept_more (stays_up c.args.advert.now c.args.down) items stays index none false c.loop-path-test.true c.loop-path.invariant.0 (is ∙ w.if-is_disjoint.false),
            omega (arith, ap (λ (paths : List Path). length paths) same, c.loop-path.invariant.1),
          )
    ]
