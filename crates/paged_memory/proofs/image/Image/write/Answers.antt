use Rattle.std.proofs.Common.{◌≡◌, ◌++◌, map, codes, sym, ap, subst, ◌∙◌}
use Rattle.std.specs.String.{string_bytes}
use Rattle.std.specs.FinMap as finmap
use Rattle.text_lines.specs.Lines.{text_of}
use Rattle.paged_memory.specs.ImageText.{image_lines, IsImage}
use Rattle.paged_memory.specs.TextVersions.{header, version_for}
use Rattle.paged_memory.proofs.ImageViews.{is_image, len_of}
use Rattle.paged_memory.proofs.Reading.{line_of}
use Rattle.paged_memory.proofs.Writing.{whole_text}
use Rattle.paged_memory.proofs.image.Image.write.Goals as goal

pub returns-clause-written : goal.returns-clause-written
returns-clause-written c =
    let es = c.self.inside.entries.now in
    let v = c.for_pages-version.result in
    let named = c.for_pages-version.ensures ∙ ap version_for (sym (len_of es c.self.invariant.sorted) ∙ ap finmap.len c.self.view_is) in
    let line : string_bytes c.push_str.new.self ≡ header v ++ codes "\n" =
    c.in_ok-push_str.ensures.bytes ∙ ap (λ l. l ++ codes "\n") (c.in_ok-text.ensures.ok ∙ c.header.ensures) in
    let pages : string_bytes c.push_pages.new.text ≡ (header v ++ codes "\n") ++ text_of (map line_of es) =
    c.in_ok-push_pages.ensures.written ∙ ap (λ l. l ++ text_of (map line_of es)) line in
    ap (λ bytes. bytes.items) c.into_bytes.ensures.value
    ∙ c.in_ok-push_str-2.ensures.bytes ∙ ap (λ l. l ++ codes "end\n") pages
    ∙ whole_text v es c.self.invariant.sorted
    ∙ ap (λ m. text_of (image_lines v m)) c.self.view_is ∙ ap (λ w. text_of (image_lines w c.args.self.now)) named

pub returns-clause-image : goal.returns-clause-image
returns-clause-image c = subst IsImage c.self.view_is (is_image c.self.inside.entries.now c.self.invariant)
