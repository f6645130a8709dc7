use Rattle.std.proofs.Common.{◌≡◌, ◌++◌, length, List, [], ◌∷◌, true, false, get_or, sym, ap, ◌∙◌, arith}
use Rattle.arrayvec.specs.ArrayVec.{ArrayVec}
use Rattle.field_tables.specs.LaneSets.{Lanes}
use Rattle.plan_certificate.specs.declared.path.Path.{Path}
use Rattle.port_manager.specs.Goals.{are_up, is_kept}
use Rattle.port_manager.proofs.KeptPaths.{kept_more, nil_right, one_longer}
use Rattle.port_manager.proofs.deciding.kept_of.Goals as goal
use Rattle.port_manager.proofs.deciding.kept_of.Goals.{then-are_up, else-are_up}

pub loop-path-preserved : goal.loop-path-preserved
loop-path-preserved c =
    let items = c.as_slice-path-items.result.now in
    let index = c.loop-path.path-index in
    let none : Path = record { app = 0; host = 0; media = 0 } in
    let path = get_or items index none in
    let kept = c.loop-path.paths.items in
    let is : is_kept c.args.advert.now c.args.page.now c.args.control.now path ≡ c.are_up.result =
    ap (λ (lanes : Lanes). are_up c.args.page.now c.args.control.now lanes) (sym c.host_lanes.ensures) ∙ sym c.are_up.ensures in
    elim c.if-are_up.branch [
      | then-are_up w ↦
          let same : c.if-are_up.paths.items ≡ kept ++ (path ∷ []) = ap (λ (paths : ArrayVec Path). paths.items) w.paths-is ∙ w.push.ensures.items in (
            same ∙ kept_more (is_kept c.args.advert.now c.args.page.now c.args.control.now) items kept index none true c.loop-path-test.true c.loop-path.invariant.0 (is ∙ w.if-are_up.true),
            omega (arith, ap (λ (paths : List Path). length paths) same, one_longer kept path, c.loop-path.invariant.1),
          )
      | else-are_up w ↦
          let same : c.if-are_up.paths.items ≡ kept = ap (λ (paths : ArrayVec Path). paths.items) w.paths-is in (
            same ∙ sym (nil_right kept) ∙ kept_more (is_kept c.args.advert.now c.args.page.now c.args.control.now) items kept index none false c.loop-path-test.true c.loop-path.invariant.0 (is ∙ w.if-are_up.false),
            omega (arith, ap (λ (paths : List Path). length paths) same, c.loop-path.invariant.1),
          )
    ]
