-- The missing pages, page by page.
use Rattle.std.proofs.Common.{◌≡◌, ◌<◌, ℕ, ◌+◌, ◌++◌, Bool, true, false, List, [], ◌∷◌, drop, get_or, length, refl, sym, ap, ◌∙◌, append-nil, append_assoc}
use Rattle.std.proofs.lemmas.List.{at_drop_more}
use Rattle.field_tables.specs.Halves.{is_absent}
use Rattle.paged_memory.specs.Images.{Memory}
use Rattle.vdm_reading.specs.VdmStages.{and_if, key_of, missing}

joined : (absent : Bool) (page : ℕ) (earlier later : List ℕ) → earlier ++ and_if absent page later ≡ (earlier ++ and_if absent page []) ++ later
joined true page earlier later = sym (append_assoc earlier (page ∷ []) later)
joined false page earlier later = ap (λ (pages : List ℕ). pages ++ later) (sym (append-nil earlier))

-- one page more is looked at
pub missing_more : (pages : List ℕ) (image : Memory) (index : ℕ) (none : ℕ) (earlier : List ℕ) → index < length pages →
    let page = get_or pages index none in
    (earlier ++ and_if (is_absent image (key_of page)) page []) ++ missing (drop (index + 1) pages) image ≡ earlier ++ missing (drop index pages) image
unfolding missing
missing_more pages image index none earlier within =
    let page = get_or pages index none in
    sym (at_drop_more (λ (rest : List ℕ). earlier ++ missing rest image) pages index none within
    ∙ joined (is_absent image (key_of page)) page earlier (missing (drop (index + 1) pages) image))

pub missing_none : (image : Memory) → missing [] image ≡ []
unfolding missing
missing_none image = refl
