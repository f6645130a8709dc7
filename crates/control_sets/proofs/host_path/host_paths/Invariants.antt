use Rattle.std.proofs.Common.{◌≡◌, ◌≤◌, filter, length, map}
use Rattle.std.specs.List.{range_with_len}
use Rattle.control_sets.specs.HostPaths.{begins, path_from}
use Rattle.control_sets.proofs.host_path.host_paths.Given as goal

-- the paths that begin at the lanes so far
abbrev pub invariant-loop-place : goal.invariant-loop-place
invariant-loop-place l = record {
  paths : l.paths.items ≡ map (path_from l.bytes) (filter (begins l.bytes) (range_with_len 1 l.place));
  few : length l.paths.items ≤ l.place;
}
