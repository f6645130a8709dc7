-- How the lines of an image's text are read, one page line after another.
use Rattle.std.proofs.Common.{◌≡◌, ◌↔◌, ℕ, suc, ◌+◌, ◌≤◌, Bool, true, false, List, [], ◌∷◌, ◌++◌, length, map, refl, sym, ap, ◌∙◌, append_assoc, inl, inr, arith}
use Rattle.std.specs.List.{All, AllByRecursion}
use Rattle.std.specs.Ordering.{is_lt}
use Rattle.std.specs.declared.cmp.Ordering.TheVariants.{Less}
use Rattle.std.specs.FinMap as finmap
use Rattle.std.specs.FinMap.Entries.{below_all}
use Rattle.std.proofs.lemmas.List.{map-append}
use Rattle.std.proofs.lemmas.Bool.{and_parts}
use Rattle.paged_memory.specs.declared.key.Key.{Key}
use Rattle.paged_memory.specs.KeyOrder.{key_cmp}
use Rattle.paged_memory.specs.declared.text_version.TextVersion.{TextVersion}
use Rattle.paged_memory.specs.declared.text_version.TextVersion.TheVariants.{One, Two}
use Rattle.paged_memory.specs.TextVersions.{full, header, most_in}
use Rattle.paged_memory.specs.ImageText.{end_line, page_line, page_lines, IsEntry, IsTextOf}
use Rattle.paged_memory.specs.Images.{Memory}
use Rattle.paged_memory.specs.declared.fault.ImageFault.{ImageFault}
use Rattle.paged_memory.specs.declared.fault.ImageFault.TheVariants.{BadHeader, BadLine, OutOfOrder, TooManyPages, NoEnd, AfterEnd, SixtyFifthPage}
use Rattle.paged_memory.specs.ImageFaults.{Begins, IsPageLine, IsAboveAll, IsLineFault, IsFirstFault, next_number}
use Rattle.paged_memory.proofs.ImageViews.{Entries, Sorted, image_of, entries_of, len_of}

abbrev pub Above : Entries → Key → Type 0
Above es key = All (λ entry. key_cmp entry.0 key ≡ Less) es

pub number_is : (es : Entries) → Sorted es → length es + 2 ≡ next_number (image_of es)
number_is es sorted = ap (λ n. n + 2) (sym (len_of es sorted))

pub above_is : (es : Entries) (key : Key) → Sorted es → Above es key ↔ IsAboveAll (image_of es) key
above_is es key sorted = rw (entries_of es sorted) (λ h. h, λ h. h)

rest_above : (e : Key × List ℕ) (es : Entries) (key : Key) → Above (e ∷ es) key → Above es key
rest_above e es key h k d lt = h (suc k) d (omega arith)

below_push : (k : Key) (es : Entries) (key : Key) (page : List ℕ) → below_all key_cmp k es ≡ true → key_cmp k key ≡ Less → below_all key_cmp k (es ++ (key, page) ∷ []) ≡ true
below_push k [] key page h less = rw less refl
below_push k (e ∷ es) key page h less =
    let parts = and_parts (is_lt (key_cmp k e.0)) (below_all key_cmp k es) h in
    rw (parts.0) (below_push k es key page parts.1 less)

pub sorted_push : (es : Entries) (key : Key) (page : List ℕ) → Sorted es → Above es key → Sorted (es ++ (key, page) ∷ [])
sorted_push [] key page h above = refl
sorted_push (e ∷ es) key page h above =
    let parts = and_parts (below_all key_cmp e.0 es) (finmap.is_sorted key_cmp es) h in
    rw (below_push e.0 es key page parts.0 (above 0 e (omega arith))) (sorted_push es key page parts.1 (rest_above e es key above))

abbrev pub line_of : Key × List ℕ → List ℕ
line_of e = page_line e.0 e.1

abbrev pub Fits : Key × List ℕ → Type 0
Fits e = IsEntry e.0 e.1

pub lines_of_entries : (es : Entries) → Sorted es → page_lines (image_of es) ≡ map line_of es
lines_of_entries es sorted = ap (map line_of) (entries_of es sorted)

fits_push : (es : Entries) (e : Key × List ℕ) → AllByRecursion Fits es → Fits e → AllByRecursion Fits (es ++ e ∷ [])
fits_push [] e h fit = (fit, tt)
fits_push (x ∷ es) e h fit = (h.0, fits_push es e h.1 fit)

pub begins_none : (v : TextVersion) (lines rest : List (List ℕ)) → lines ≡ header v ∷ rest → Begins v lines (image_of []) rest
begins_none v lines rest is = record {
  lines_are = is ∙ ap (λ l. header v ∷ l ++ rest) (sym (lines_of_entries [] refl));
  image = record { each = rw (entries_of [] refl) tt };
  room = omega (arith, len_of [] refl);
}

pub begins_more : (v : TextVersion) (lines rest : List (List ℕ)) (line : List ℕ) (es new : Entries) (key : Key) (page : List ℕ) → Sorted es → Sorted new → new ≡ es ++ (key, page) ∷ [] → length new ≤ most_in v
    → IsPageLine line key page → Begins v lines (image_of es) (line ∷ rest) → Begins v lines (image_of new) rest
begins_more v lines rest line es new key page sorted sorted_new is room spelled begins = record {
  lines_are = begins.lines_are ∙ ap (λ l. header v ∷ l) regrouped;
  image = record {
    each = rw (entries_of new sorted_new, is) (fits_push es (key, page) (rw (entries_of es sorted) at begins.image.each) spelled.0);
  };
  room = omega (arith, len_of new sorted_new, room);
}
  where
    regrouped : page_lines (image_of es) ++ line ∷ rest ≡ page_lines (image_of new) ++ rest
    regrouped =
        ap (λ l. l ++ line ∷ rest) (lines_of_entries es sorted)
        ∙ ap (λ l. map line_of es ++ l ∷ rest) spelled.1
        ∙ sym (append_assoc (map line_of es) (page_line key page ∷ []) rest)
        ∙ ap (λ l. l ++ rest) (sym (map-append line_of es ((key, page) ∷ [])) ∙ ap (map line_of) (sym is) ∙ sym (lines_of_entries new sorted_new))

pub is_text : (v : TextVersion) (lines : List (List ℕ)) (es : Entries) → Begins v lines (image_of es) (end_line ∷ []) → IsTextOf lines (image_of es)
is_text v lines es begins = record { version = v; lines_are = begins.lines_are; image = begins.image; room = begins.room }

-- the faults of a line
abbrev is_of_line : ImageFault → Bool
is_of_line (BadLine n) = true
is_of_line (OutOfOrder n) = true
is_of_line TooManyPages = true
is_of_line SixtyFifthPage = true
is_of_line _ = false

full_is_of_line : (v : TextVersion) → is_of_line (full v) ≡ true
full_is_of_line One = refl
full_is_of_line Two = refl

of_line : (v : TextVersion) (memory : Memory) (line : List ℕ) (fault : ImageFault) → IsLineFault v memory line fault → is_of_line fault ≡ true
of_line v memory line fault (goes_on, inl bad) = ap is_of_line bad.1
of_line v memory line fault (goes_on, inr (spelled, inl late)) = ap is_of_line late.1
of_line v memory line fault (goes_on, inr (spelled, inr (above, inl filled))) = ap is_of_line filled.1 ∙ full_is_of_line v
of_line v memory line fault (goes_on, inr (spelled, inr (above, inr (room, none)))) = absurd none

pub fault_after : (v : TextVersion) (lines rest : List (List ℕ)) (memory : Memory) (line : List ℕ) (fault : ImageFault) → Begins v lines memory (line ∷ rest) → IsLineFault v memory line fault → IsFirstFault lines fault
fault_after v lines rest memory line BadHeader begins h = let no = of_line v memory line BadHeader h in absurd cc
fault_after v lines rest memory line NoEnd begins h = let no = of_line v memory line NoEnd h in absurd cc
fault_after v lines rest memory line AfterEnd begins h = let no = of_line v memory line AfterEnd h in absurd cc
fault_after v lines rest memory line (BadLine n) begins h = (v, memory, line, rest, begins, h)
fault_after v lines rest memory line (OutOfOrder n) begins h = (v, memory, line, rest, begins, h)
fault_after v lines rest memory line TooManyPages begins h = (v, memory, line, rest, begins, h)
fault_after v lines rest memory line SixtyFifthPage begins h = (v, memory, line, rest, begins, h)
