use Rattle.std.proofs.Common.{◌≡◌, ◌+◌, drop}
use Rattle.std.specs.FinMap as map
use Rattle.paged_memory.specs.MappedPages.{selected_in_turn}
use Rattle.paged_memory.proofs.window.select.Given as goal

-- what is left to store selects what the whole store does
abbrev pub invariant-loop-index : goal.invariant-loop-index
invariant-loop-index l =
    selected_in_turn l.selecting (map.from_sorted l.entries) l.selection (l.address + l.index) (drop l.index l.bytes)
    ≡ selected_in_turn l.selecting (map.from_sorted l.entries) l.initial.selection l.address l.bytes
