-- The numbers of pages, page by page.
use Rattle.std.proofs.Common.{◌≡◌, ◌<◌, ℕ, ◌+◌, ◌++◌, List, [], ◌∷◌, drop, get_or, length, sym, ◌∙◌, append_assoc}
use Rattle.std.proofs.lemmas.List.{at_drop_more}
use Rattle.vdm_reading.specs.BankPages.{numbered, numbers_of}

-- one page more
pub numbers_more : (bank : ℕ) (pages : List ℕ) (index : ℕ) (earlier : List ℕ) → index < length pages →
    (earlier ++ numbered bank (get_or pages index 0) ∷ []) ++ numbers_of bank (drop (index + 1) pages) ≡ earlier ++ numbers_of bank (drop index pages)
numbers_more bank pages index earlier within =
    append_assoc earlier (numbered bank (get_or pages index 0) ∷ []) (numbers_of bank (drop (index + 1) pages))
    ∙ sym (at_drop_more (λ (rest : List ℕ). earlier ++ numbers_of bank rest) pages index 0 within)
