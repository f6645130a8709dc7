use Rattle.std.proofs.Common.{◌≡◌, ℕ, ◌+◌, Bool, true, false, cond, [], ◌∷◌, ◌++◌, length, map, filter, sym, ap, ◌∙◌, append-nil, arith}
use Rattle.std.specs.List.{range_with_len}
use Rattle.control_sets.specs.HostPaths.{begins, host_paths, path_from}
use Rattle.control_sets.proofs.Ranges.{kept_more}
use Rattle.control_sets.proofs.host_path.host_paths.Goals as goal
use Rattle.control_sets.proofs.host_path.host_paths.Goals.{then-begins, else-begins}

pub loop-place-preserved : goal.loop-place-preserved
loop-place-preserved c =
    let bytes = c.args.bytes.now in
    let place = c.loop-place.place in
    let lane = c.at-lane.result in
    let before = map (path_from bytes) (filter (begins bytes) (range_with_len 1 place)) in
    let here = path_from bytes lane ∷ [] in
    let more : map (path_from bytes) (filter (begins bytes) (range_with_len 1 (place + 1))) ≡ before ++ cond (begins bytes lane) here [] = kept_more (path_from bytes) (begins bytes) place lane c.at-lane.ensures in
    elim c.if-begins.branch [
      | then-begins w ↦
          let begun : begins bytes lane ≡ true = sym c.begins.ensures ∙ w.if-begins.true in
          record {
            paths =
                (λ i. (w.paths-is i).items)
                ∙ w.push.ensures.items
                ∙ (λ i. c.loop-place.invariant.paths i ++ w.path_from.ensures i ∷ [])
                ∙ sym (more ∙ ap (λ (b : Bool). before ++ cond b here []) begun);
            few = omega (arith, w.push.ensures.len, ap (λ paths. length paths.items) w.paths-is);
          }
      | else-begins w ↦
          let unbegun : begins bytes lane ≡ false = sym c.begins.ensures ∙ w.if-begins.false in
          record {
            paths =
                (λ i. (w.paths-is i).items)
                ∙ c.loop-place.invariant.paths
                ∙ sym (more ∙ ap (λ (b : Bool). before ++ cond b here []) unbegun ∙ append-nil before);
            few = omega (arith, ap (λ paths. length paths.items) w.paths-is);
          }
    ]

pub returns : goal.returns
unfolding host_paths
returns c =
    let bytes = c.args.bytes.now in
    let all : c.loop-place.place ≡ 8 = omega arith in
    c.loop-place.invariant.paths ∙ ap (λ (n : ℕ). map (path_from bytes) (filter (begins bytes) (range_with_len 1 n))) all
