-- How an image's text is written.
use Rattle.std.proofs.Common.{◌≡◌, ◌≤◌, ℕ, true, false, cond, nat_le, [], ◌∷◌, ◌++◌, map, not, codes, refl, sym, ap, ◌∙◌, append_assoc}
use Rattle.std.specs.List.{AllByRecursion}
use Rattle.std.proofs.lemmas.List.Concat.{flat_map-append}
use Rattle.std.specs.FinMap as finmap
use Rattle.std.proofs.lemmas.Bool.{leb-true}
use Rattle.std.proofs.lemmas.List.Sums.{AllPass-from_list_all}
use Rattle.text_lines.specs.Lines.{is_lf, lines_of, text_of, HasNoLf}
use Rattle.text_lines.proofs.WrittenLines.{lines_of-text_of}
use Rattle.paged_memory.specs.Images.{Memory}
use Rattle.paged_memory.proofs.PageLines.{page_line_has_no_lf}
use Rattle.paged_memory.specs.declared.text_version.TextVersion.{TextVersion}
use Rattle.paged_memory.specs.declared.text_version.TextVersion.TheVariants.{One, Two}
use Rattle.paged_memory.specs.TextVersions.{header, most_in, version_for}
use Rattle.paged_memory.specs.ImageText.{end_line, image_lines, IsImage, IsTextOf}
use Rattle.paged_memory.proofs.ImageViews.{Entries, Sorted, image_of}
use Rattle.paged_memory.proofs.Reading.{line_of, Fits, lines_of_entries}

-- the header, the page lines and the end
pub whole_text : (v : TextVersion) (es : Entries) → Sorted es
    → ((header v ++ codes "\n") ++ text_of (map line_of es)) ++ codes "end\n" ≡ text_of (image_lines v (image_of es))
unfolding end_line
whole_text v es sorted =
    append_assoc (header v ++ codes "\n") (text_of (map line_of es)) (codes "end\n")
    ∙ ap (λ l. (header v ++ codes "\n") ++ l) (sym (flat_map-append (λ line. line ++ 10 ∷ []) (map line_of es) (codes "end" ∷ [])) ∙ ap (λ l. text_of (l ++ codes "end" ∷ [])) (sym (lines_of_entries es sorted)))

lines_clean : (es : Entries) → AllByRecursion Fits es → AllByRecursion HasNoLf (map line_of es ++ codes "end" ∷ [])
lines_clean [] h = (AllPass-from_list_all (λ byte. not (is_lf byte)) (codes "end") refl, tt)
lines_clean (e ∷ es) h = (page_line_has_no_lf e.0 e.1 h.0, lines_clean es h.1)

header_clean : (v : TextVersion) → HasNoLf (header v)
unfolding header
header_clean One = AllPass-from_list_all (λ byte. not (is_lf byte)) (codes "module-image 1") refl
header_clean Two = AllPass-from_list_all (λ byte. not (is_lf byte)) (codes "module-image 2") refl

has_room : (count : ℕ) → count ≤ most_in Two → count ≤ most_in (version_for count)
has_room count h = elim (nat_le count 16) as (λ b. nat_le count 16 ≡ b → count ≤ most_in (cond b One Two)) [
  | true ↦ λ small. leb-true count 16 small
  | false ↦ λ large. h
] refl

-- the lines of the written text are those of the image
pub written_lines : (memory : Memory) → IsImage memory → finmap.len memory ≤ most_in Two → IsTextOf (lines_of (text_of (image_lines (version_for (finmap.len memory)) memory))) memory
unfolding end_line
written_lines memory image room =
    let v = version_for (finmap.len memory) in
    record {
      version = v;
      lines_are = lines_of-text_of (image_lines v memory) (header_clean v, lines_clean (finmap.entries memory) image.each);
      image = image;
      room = has_room (finmap.len memory) room;
    }
