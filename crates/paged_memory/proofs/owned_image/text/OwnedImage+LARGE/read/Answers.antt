use Rattle.std.proofs.Common.{◌≡◌, [], ap, refl, rules, arith, length}
use Rattle.text_lines.specs.Lines.{lines_of}
use Rattle.paged_memory.specs.ImageText.{end_line}
use Rattle.paged_memory.proofs.ImageViews.{Entries, image_of, are_entries}
use Rattle.paged_memory.proofs.Reading.{begins_none, begins_more, is_text, fault_after}
use Rattle.paged_memory.proofs.owned_image.text.OwnedImage+LARGE.read.Goals as goal

pub loop-line-init : goal.loop-line-init
loop-line-init c = record {
  sorted = rw c.new-entries.ensures refl;
  room = let none = ap (λ (es : Entries). length es) c.new-entries.ensures in omega (arith, none);
  begins = rw c.new-entries.ensures (begins_none c.in-Some.version (lines_of c.args.text.now) (lines_of c.in-Some.rest.now) c.in-Some.ensures);
}

pub returns-in-None-clause-ok : goal.returns-in-None-clause-ok
returns-in-None-clause-ok c =
    let end : c.in-Some-split_long_line.line.now ≡ end_line = search rules in
    let nothing : lines_of c.in-Some-split_long_line.after.now ≡ [] = rw c.in-None.ensures.lines refl in
    is_text c.in-Some.version (lines_of c.args.text.now) c.loop-line.entries.items (rw (c.in-Some-split_long_line.ensures.lines, end, nothing) at c.loop-line.invariant.begins)

pub returns-in-Some-split_long_line-2-clause-err : goal.returns-in-Some-split_long_line-2-clause-err
returns-in-Some-split_long_line-2-clause-err c =
    let end : c.in-Some-split_long_line.line.now ≡ end_line = search rules in
    let more = c.in-Some-split_long_line-2 in
    (c.in-Some.version, image_of c.loop-line.entries.items, more.field-0.0.now, lines_of more.field-0.1.now, rw (c.in-Some-split_long_line.ensures.lines, end, more.ensures.lines) at c.loop-line.invariant.begins)

pub returns-in-Err-clause-err : goal.returns-in-Err-clause-err
returns-in-Err-clause-err c =
    fault_after c.in-Some.version (lines_of c.args.text.now) (lines_of c.in-Some-split_long_line.after.now) (image_of c.loop-line.entries.items) c.in-Some-split_long_line.line.now c.in-Err.fault
    (rw c.in-Some-split_long_line.ensures.lines at c.loop-line.invariant.begins) c.in-Err.ensures.fault

pub loop-line-preserved : goal.loop-line-preserved
loop-line-preserved c =
    let taken = c.in_default-take_line.ensures in
    record {
      sorted = taken.sorted;
      room = taken.room;
      begins = begins_more c.in-Some.version (lines_of c.args.text.now) (lines_of c.in-Some-split_long_line.after.now) c.in-Some-split_long_line.line.now c.loop-line.entries.items c.take_line.new.entries.items
          taken.added.0 taken.added.1 c.loop-line.invariant.sorted taken.sorted taken.added.3 taken.room taken.added.2
          (rw c.in-Some-split_long_line.ensures.lines at c.loop-line.invariant.begins);
    }

pub returns-clause-err : goal.returns-clause-err
returns-clause-err c =
    let nothing : lines_of c.loop-line.rest.now ≡ [] = rw c.in_default-split_long_line.ensures.lines refl in
    (c.in-Some.version, image_of c.loop-line.entries.items, rw nothing at c.loop-line.invariant.begins)

pub invariant_of-result : goal.invariant_of-result
invariant_of-result c = are_entries c.loop-line.entries.items c.loop-line.invariant.sorted c.loop-line.invariant.begins.image
