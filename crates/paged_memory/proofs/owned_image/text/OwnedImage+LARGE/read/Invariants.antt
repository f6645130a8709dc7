use Rattle.std.proofs.Common.{◌≤◌, length}
use Rattle.text_lines.specs.Lines.{lines_of}
use Rattle.paged_memory.specs.TextVersions.{most_in}
use Rattle.paged_memory.specs.ImageFaults.{Begins}
use Rattle.paged_memory.proofs.ImageViews.{Sorted, image_of}
use Rattle.paged_memory.proofs.owned_image.text.OwnedImage+LARGE.read.Given as goal

-- the lines so far are the header and the page lines of the entries so far
abbrev pub invariant-loop-line : goal.invariant-loop-line
invariant-loop-line l = record {
  sorted : Sorted l.entries.items;
  room : length l.entries.items ≤ most_in l.version;
  begins : Begins l.version (lines_of l.text) (image_of l.entries.items) (lines_of l.rest);
}

abbrev pub decreases-loop-line : goal.decreases-loop-line
decreases-loop-line l = length l.rest
