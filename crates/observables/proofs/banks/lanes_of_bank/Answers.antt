use Rattle.std.proofs.Common.{ℕ, List, ap, ◌∙◌, arith}
use Rattle.std.specs.FinMap as map
use Rattle.paged_memory.specs.KeyOrder.{key_cmp}
use Rattle.observables.proofs.banks.lanes_of_bank.Goals as goal

pub take-requires : goal.take-requires
take-requires c = let none = ap map.len c.new-lanes.ensures.empty ∙ map.len-empty key_cmp (List ℕ) in omega (arith, none)

pub take-requires-2 : goal.take-requires-2
take-requires-2 c =
    let none = ap map.len c.new-lanes.ensures.empty ∙ map.len-empty key_cmp (List ℕ) in
    omega (arith, none, c.take.ensures.few)

pub take-requires-3 : goal.take-requires-3
take-requires-3 c =
    let none = ap map.len c.new-lanes.ensures.empty ∙ map.len-empty key_cmp (List ℕ) in
    omega (arith, none, c.take.ensures.few, c.take-2.ensures.few)
