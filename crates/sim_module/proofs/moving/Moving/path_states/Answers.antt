use Rattle.std.proofs.Common.{◌≡◌, length, map, sym, ◌∙◌, arith}
use Rattle.std.proofs.lemmas.List.{ext_get_or, get_or-map, length-map}
use Rattle.sim_module.specs.declared.lane.Lane.{Lane}
use Rattle.sim_module.specs.Lanes.{no_lane}
use Rattle.sim_module.proofs.moving.Moving.path_states.Goals as goal

pub returns : goal.returns
returns c =
    let loop = c.loop-index in
    let lanes = c.args.self.now.lanes in
    let path = λ (lane : Lane). lane.path in
    let same : length loop.state-items ≡ length lanes = omega arith in
    ext_get_or no_lane.path loop.state-items (map path lanes) (same ∙ sym (length-map lanes path))
    (λ k below. loop.invariant.each k (omega (arith, below, loop.invariant.len)) ∙ sym (get_or-map path lanes k no_lane no_lane.path (omega (arith, below, same))))
