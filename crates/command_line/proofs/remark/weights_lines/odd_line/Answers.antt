use Rattle.std.proofs.Common.{◌≡◌, ◌∙◌, [], false, true, ap, refl, sym, arith, rules}
use Rattle.text_lines.specs.Lines.{lines_of}
use Rattle.command_line.specs.OddLines.{is_odd, kind_after}
use Rattle.command_line.proofs.OddLineLemmas.{keeps_none, read_all, read_more, read_none, read_odd}
use Rattle.command_line.proofs.remark.weights_lines.odd_line.Goals as goal

pub loop-line-init : goal.loop-line-init
loop-line-init c = record { read = read_none _ _ (keeps_none _ refl refl refl refl refl refl); bounded = omega arith }

pub loop-line-preserved : goal.loop-line-preserved
loop-line-preserved c =
    let l = c.loop-line in
    let read = rw c.in-Some.ensures.lines at l.invariant.read in
    let said : c.makes_odd.result ≡ false = search rules in
    let usual : is_odd read.before (kind_after read.before c.in-Some.line.now) ≡ false = ap (is_odd read.before) (sym (c.kind_of-kind.ensures read.before read.keeps)) ∙ sym (c.makes_odd.ensures read.before read.keeps) ∙ said in
    record {
      read = read_more (lines_of c.args.text.now) (lines_of c.in-Some.after.now) c.in-Some.line.now l.so_far l.number read c.add.new.self usual
          (rw (c.kind_of-kind.ensures read.before read.keeps) at (c.add.ensures read.before read.keeps));
      bounded = omega (arith, l.invariant.bounded, c.in-Some.ensures.shorter);
    }

pub returns-then-makes_odd : goal.returns-then-makes_odd
returns-then-makes_odd c =
    let l = c.loop-line in
    let read = rw c.in-Some.ensures.lines at l.invariant.read in
    let said : c.makes_odd.result ≡ true = search rules in
    let odd : is_odd read.before (kind_after read.before c.in-Some.line.now) ≡ true = ap (is_odd read.before) (sym (c.kind_of-kind.ensures read.before read.keeps)) ∙ sym (c.makes_odd.ensures read.before read.keeps) ∙ said in
    read_odd (lines_of c.args.text.now) (lines_of c.in-Some.after.now) c.in-Some.line.now l.so_far l.number read odd

pub returns : goal.returns
returns c =
    let nothing : lines_of c.loop-line.rest.now ≡ [] = rw c.in_default.ensures.lines refl in
    let read = rw nothing at c.loop-line.invariant.read in
    read_all (lines_of c.args.text.now) c.loop-line.so_far c.loop-line.number read
