-- The paths that begin at some lane.
use Rattle.std.proofs.Common.{◌≡◌, ℕ, ◌-◌, true, List, get_or, filter, All, Contains, subst, ap, ◌∙◌, arith}
use Rattle.std.proofs.lemmas.List.Elements.{All-filter, All-map, filter_passes}
use Rattle.std.proofs.lemmas.List.FromFn.{get_or-range_with_len}
use Rattle.std.specs.List.{range_with_len}
use Rattle.field_tables.specs.LaneSets.{IsLane}
use Rattle.control_sets.specs.HostPaths.{begins, host_paths, path_from}
use Rattle.control_sets.proofs.Counts.{kept, mapped}

pub are_lanes : All IsLane (range_with_len 1 8)
are_lanes k d below = let at = get_or-range_with_len 1 8 k d below in (omega (arith, at), omega (arith, at, below))

-- each is among the host paths
pub begun_is_told : (bytes : List ℕ) (host : ℕ) → IsLane host → begins bytes host ≡ true → Contains (host_paths bytes) (path_from bytes host)
unfolding host_paths
begun_is_told bytes host (from, to) begun =
    let lanes = range_with_len 1 8 in
    let at : get_or lanes (host - 1) 0 ≡ host = get_or-range_with_len 1 8 (host - 1) 0 (omega (arith, from, to)) ∙ omega (arith, from) in
    let first : Contains (filter (begins bytes) lanes) host =
    subst (λ (k : ℕ). Contains (filter (begins bytes) lanes) k) at (kept (begins bytes) lanes (host - 1) 0 (omega (arith, from, to)) (ap (begins bytes) at ∙ begun)) in
    mapped (path_from bytes) (filter (begins bytes) lanes) host first

-- the first lane of each of them is a lane, and it begins there
pub begun_hosts : (bytes : List ℕ) → All (λ path. IsLane path.host × (begins bytes path.host ≡ true)) (host_paths bytes)
unfolding host_paths path_from
begun_hosts bytes =
    let lanes = range_with_len 1 8 in
    All-map (λ path. IsLane path.host × (begins bytes path.host ≡ true)) (path_from bytes) (filter (begins bytes) lanes)
    (λ k d below. (All-filter (begins bytes) IsLane lanes are_lanes k d below, filter_passes (begins bytes) lanes k d below))
