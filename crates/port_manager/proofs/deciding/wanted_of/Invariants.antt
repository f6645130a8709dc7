use Rattle.std.proofs.Common.{◌≡◌, ◌≤◌, length, take}
use Rattle.std.specs.List.{filter}
use Rattle.port_manager.specs.Goals.{stays_up}
use Rattle.port_manager.proofs.deciding.wanted_of.Given as goal

-- of the paths that were looked at, those without lanes that are to be down stay
abbrev pub invariant-loop-path : goal.invariant-loop-path
invariant-loop-path l =
    (l.paths.items ≡ filter (stays_up l.advert l.down) (take l.path-index l.path-items))
    × (length l.paths.items ≤ l.path-index)
