use Rattle.std.proofs.Common.{◌≡◌, true, false, [], arith, refl, rules}
use Rattle.command_line.specs.Parts.{is_separator_line}
use Rattle.command_line.proofs.PartCuts.{one_passed, part_ends, part_is_all}
use Rattle.command_line.proofs.parts.split_part.Goals as goal

pub loop-line-init : goal.loop-line-init
loop-line-init c = record { before = []; all = refl; long = refl; within = omega arith; joined = λ part more same. same }

pub returns-then-is_separator : goal.returns-then-is_separator
returns-then-is_separator c =
    let is : is_separator_line c.in-Some.line.now ≡ true = search rules in
    part_ends c.args.text.now c.loop-line.rest.now c.in-Some.line.now c.in-Some.after.now c.loop-line.len c.loop-line.invariant c.in-Some.ensures.lines is

pub loop-line-preserved : goal.loop-line-preserved
loop-line-preserved c =
    let plain : is_separator_line c.in-Some.line.now ≡ false = search rules in
    one_passed c.args.text.now c.loop-line.rest.now c.in-Some.line.now c.in-Some.after.now c.loop-line.len c.loop-line.invariant c.in-Some.ensures.lines c.in-Some.ensures.parts plain

pub returns : goal.returns
returns c = part_is_all c.args.text.now c.loop-line.len (rw c.in_default.ensures.lines at c.loop-line.invariant)
