use Rattle.std.proofs.Common.{◌≡◌, ◌+◌, ◌*◌, ◌/◌, ◌%◌, List, ℕ, set, ap, ◌∙◌, arith}
use Rattle.lane_planner.specs.Tables.{numbers_of}
use Rattle.lane_planner.proofs.CellNumbers.{cell_set}
use Rattle.lane_planner.proofs.table.Table.put.Goals as goal

pub returns : goal.returns
returns c =
    let place = c.args.place in
    let number : ℕ = c.args.number in
    let lows = c.self.inside.low in
    let highs = c.self.inside.high in
    let whole : number % 4294967296 + 4294967296 * (number / 4294967296) ≡ number = omega arith in
    cell_set lows highs place (number % 4294967296) (number / 4294967296) c.self.invariant c.requires.place c.cell_of-cell.result c.cell_of-cell.ensures
    ∙ ap (λ (n : ℕ). set (numbers_of lows highs) place n) whole
    ∙ ap (λ (numbers : List ℕ). set numbers place number) c.self.view_is
