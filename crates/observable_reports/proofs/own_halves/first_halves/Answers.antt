use Rattle.std.proofs.Common.{ℕ, List, ap, ◌∙◌, arith}
use Rattle.std.specs.FinMap as map
use Rattle.paged_memory.specs.KeyOrder.{key_cmp}
use Rattle.observable_reports.proofs.own_halves.first_halves.Goals as goal

pub take-requires : goal.take-requires
take-requires c = let none = ap map.len c.new-first.ensures.empty ∙ map.len-empty key_cmp (List ℕ) in omega (arith, none)

pub take-requires-2 : goal.take-requires-2
take-requires-2 c =
    let none = ap map.len c.new-first.ensures.empty ∙ map.len-empty key_cmp (List ℕ) in
    omega (arith, none, c.take.ensures.few)
