use Rattle.std.proofs.Common.{◌≡◌, [], refl, arith, rules}
use Rattle.text_lines.specs.Lines.{lines_of}
use Rattle.applications.proofs.SaidLines.{read_all, read_more, read_none}
use Rattle.applications.proofs.weights.lines.read_weight_lines.Goals as goal

pub loop-line-init : goal.loop-line-init
loop-line-init c = record { read = read_none _; bounded = omega arith }

pub loop-line-preserved : goal.loop-line-preserved
loop-line-preserved c =
    let l = c.loop-line in
    let read = rw c.in-Some.ensures.lines at l.invariant.read in
    let more = c.in_ok-take.ensures read.said read.drafts in
    record {
      read = read_more (lines_of c.args.text.now) (lines_of c.in-Some.after.now) c.in-Some.line.now l.draft c.take.new.self l.number read more.0 more.1 more.2 more.3;
      bounded = omega (arith, l.invariant.bounded, c.in-Some.ensures.shorter);
    }

pub returns : goal.returns
returns c =
    let nothing : lines_of c.loop-line.rest.now ≡ [] = rw c.in_default.ensures.lines refl in
    let read = rw nothing at c.loop-line.invariant.read in
    read_all (lines_of c.args.text.now) c.loop-line.draft c.loop-line.number read (search rules)
