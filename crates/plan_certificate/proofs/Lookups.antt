-- Looking up the entry of a state among entries that rise.
use Rattle.std.proofs.Common.{◌≡◌, ◌==◌, ℕ, zero, suc, ◌<◌, Bool, List, [], ◌∷◌, Some, length, get_or, cond, ap, ◌∙◌, arith}
use Rattle.std.specs.List.{AllPairs, find}
use Rattle.std.proofs.lemmas.Bool.{eq-eqb, ne_eqb}
use Rattle.plan_certificate.specs.declared.certificate.Entry.{Entry}
use Rattle.plan_certificate.specs.Certificates.{entry_place}

abbrev Rises : List Entry → Type 0
Rises entries = AllPairs (λ entry later. entry_place entry < entry_place later) entries

rest_rises : (entry : Entry) (entries : List Entry) → Rises (entry ∷ entries) → Rises entries
rest_rises entry entries rises i j d before below = rises (suc i) (suc j) d (omega (arith, before)) (omega (arith, below))

abbrev pub is_there : ℕ → Entry → Bool
is_there place entry = entry_place entry == place

pub found_there : (entries : List Entry) (place i : ℕ) (d : Entry) → Rises entries → i < length entries → entry_place (get_or entries i d) ≡ place → find (is_there place) entries ≡ Some (get_or entries i d)
found_there [] place i d rises below is = absurd (omega (arith, below))
found_there (entry ∷ entries) place zero d rises below is = ap (λ (b : Bool). cond b (Some entry) (find (is_there place) entries)) (eq-eqb _ _ is)
found_there (entry ∷ entries) place (suc i) d rises below is =
    let later = rises zero (suc i) d (omega arith) below in
    ap (λ (b : Bool). cond b (Some entry) (find (is_there place) entries)) (ne_eqb (entry_place entry) place (λ same. omega (arith, same, later, is)))
    ∙ found_there entries place i d (rest_rises entry entries rises) (omega (arith, below)) is
