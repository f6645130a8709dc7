-- What is written of a value between quotes is read back as it.
use Rattle.std.proofs.Common.{◌≡◌, ℕ, ◌==◌, if◌then◌else◌, Bool, true, false, List, [], ◌∷◌, ◌++◌, None, Some, refl, sym, ap, ◌∙◌}
use Rattle.std.proofs.lemmas.Bool.{eqb-true}
use Rattle.std.specs.Prelude.{option_map}
use Rattle.module_metrics.specs.Exposition.{escape, escaped}
use Rattle.module_metrics.specs.Grammar.{unquoted, unquoted_after}
use Rattle.module_metrics.specs.Laws.{EachValueReadsBack}

abbrev reads : List ℕ → List ℕ → Type 0
reads text value = unquoted text ≡ Some value

-- the same with a byte before it
more_of : (c d : ℕ) (rest value : List ℕ) → d ≡ c → reads rest value → option_map (λ (more : List ℕ). d ∷ more) (unquoted rest) ≡ Some (c ∷ value)
more_of c d rest value same q = ap (option_map (λ (more : List ℕ). d ∷ more)) q ∙ ap (λ (x : ℕ). Some (x ∷ value)) same

plain_byte : (c : ℕ) (rest value : List ℕ) (b : Bool) → (c == 92) ≡ false → (c == 34) ≡ false → (c == 10) ≡ b → reads rest value → reads (escape c ++ rest) (c ∷ value)
plain_byte c rest value true slash quote feed q = rw (slash, quote, feed) (more_of c 10 rest value (sym (eqb-true c 10 feed)) q)
plain_byte c rest value false slash quote feed q =
    let end = option_map (λ (more : List ℕ). c ∷ more) (unquoted rest) in
    let plain : unquoted (c ∷ rest) ≡ end =
    ap (λ b. if b then unquoted_after true rest else (if c == 34 then None else (if c == 10 then None else end))) slash
    ∙ ap (λ b. if b then None else (if c == 10 then None else end)) quote ∙ ap (λ b. if b then None else end) feed in
    rw (slash, quote, feed) (plain ∙ more_of c c rest value refl q)

unslashed : (c : ℕ) (rest value : List ℕ) (b : Bool) → (c == 92) ≡ false → (c == 34) ≡ b → reads rest value → reads (escape c ++ rest) (c ∷ value)
unslashed c rest value true slash quote q = rw (slash, quote) (more_of c 34 rest value (sym (eqb-true c 34 quote)) q)
unslashed c rest value false slash quote q = plain_byte c rest value (c == 10) slash quote refl q

one_byte : (c : ℕ) (rest value : List ℕ) (b : Bool) → (c == 92) ≡ b → reads rest value → reads (escape c ++ rest) (c ∷ value)
one_byte c rest value true slash q = rw slash (more_of c 92 rest value (sym (eqb-true c 92 slash)) q)
one_byte c rest value false slash q = unslashed c rest value (c == 34) slash refl q

pub reads_back : EachValueReadsBack
unfolding escaped
reads_back [] = refl
reads_back (b ∷ bs) = one_byte b (escaped bs) bs (b == 92) refl (reads_back bs)
