use Rattle.std.proofs.Common.{◌≡◌, ◌≤◌, length, take}
use Rattle.std.specs.List.{filter}
use Rattle.port_manager.specs.Goals.{is_kept}
use Rattle.port_manager.proofs.deciding.kept_of.Given as goal

-- of the paths that were looked at, those that are up are kept
abbrev pub invariant-loop-path : goal.invariant-loop-path
invariant-loop-path l =
    (l.paths.items ≡ filter (is_kept l.advert l.page l.control) (take l.path-index l.path-items))
    × (length l.paths.items ≤ l.path-index)
