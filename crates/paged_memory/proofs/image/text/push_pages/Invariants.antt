use Rattle.std.proofs.Common.{◌≡◌, ◌++◌, take, map}
use Rattle.std.specs.List.{AllByRecursion}
use Rattle.std.specs.String.{string_bytes}
use Rattle.text_lines.specs.Lines.{text_of}
use Rattle.paged_memory.specs.ImageText.{page_line, IsEntry}
use Rattle.paged_memory.proofs.image.text.push_pages.Given as goal

-- the page lines of the entries so far
abbrev pub invariant-loop-entry : goal.invariant-loop-entry
invariant-loop-entry l = record {
  written : string_bytes l.text ≡ string_bytes l.fn.text ++ text_of (map (λ entry. page_line entry.0 entry.1) (take l.entry-index l.entries));
  each : AllByRecursion (λ entry. IsEntry entry.0 entry.1) (take l.entry-index l.entries);
}
