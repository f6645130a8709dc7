use Rattle.std.proofs.Common.{List, ℕ, ap, length, arith}
use Rattle.std.proofs.lemmas.List.{length-append, length-map}
use Rattle.command_line.proofs.PartCuts.{part_count}
use Rattle.command_line.proofs.parts.parts.Goals as goal

pub overflow_add-found : goal.overflow_add-found
overflow_add-found c =
    let all = ap (λ (l : List (List ℕ)). length l) c.loop-part.invariant.0 in
    omega (arith, part_count c.args.input.now, simp (length-append, length-map) at all)
