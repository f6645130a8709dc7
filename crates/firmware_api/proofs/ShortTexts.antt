-- No text for C is longer than 256 bytes.
use Rattle.std.proofs.Common.{ℕ, Bool, true, false, not, ◌==◌, List, [], ◌∷◌, length, Option, Some, None, refl, cond, find, nat_lt, if◌then◌else◌, ◌≤◌, sym, subst, ap, inl, inr}
use Rattle.std.specs.Prelude.{◌≡◌, ◌≢◌, IfSome, IsTrue, option_and_then, option_map}
use Rattle.std.specs.Borrow.{Bor}
use Rattle.std.specs.List.{list_all}
use Rattle.std.proofs.lemmas.Bool.{and_parts, cases_lt, lt-ltb}
use Rattle.notices.specs.Numbers.{Says, procedure_faults, reasons, said_of, statuses, text_by}
use Rattle.notices.specs.Sentences.{sentences}
use Rattle.firmware_api.specs.declared.status.Refusal.TheVariants.{TooSmall}
use Rattle.firmware_api.specs.Texts.{text_refusal}

abbrev pub is_short : Option (List ℕ) → Bool
is_short None = true
is_short (Some text) = not (nat_lt 256 (length text))

abbrev are_short : List Says → Bool
are_short rows = list_all (λ row. is_short (said_of row)) rows

found : (is_it : Says → Bool) (rows : List Says) → IsTrue (are_short rows) → IsTrue (is_short (option_and_then said_of (find is_it rows)))
found is_it [] all = refl
found is_it (row ∷ rows) all =
    elim (is_it row) as (λ b. IsTrue (is_short (option_and_then said_of (cond b (Some row) (find is_it rows))))) [
      | true ↦ (and_parts (is_short (said_of row)) (are_short rows) all).0
      | false ↦ found is_it rows (and_parts (is_short (said_of row)) (are_short rows) all).1
    ]

fits : (b : Bool) → IsTrue (not b) → (if b then Some TooSmall else None) ≢ Some TooSmall
fits true short = absurd (let same = short in cc)
fits false short = λ same. cc

pub has_room : (text : Option (List ℕ)) → IsTrue (is_short text) → text_refusal text 256 ≢ Some TooSmall
has_room None short = λ same. cc
has_room (Some text) short = fits (nat_lt 256 (length text)) short

of_rows : (rows : List Says) → IsTrue (are_short rows) → (number : ℕ) → text_refusal (text_by rows number) 256 ≢ Some TooSmall
of_rows rows all number = has_room (text_by rows number) (found (λ row. row.number == number) rows all)

statuses_are_short : IsTrue (are_short statuses)
unfolding statuses sentences
statuses_are_short = refl

pub of_statuses : (number : ℕ) → text_refusal (text_by statuses number) 256 ≢ Some TooSmall
of_statuses number = of_rows statuses statuses_are_short number

procedure_faults_are_short : IsTrue (are_short procedure_faults)
unfolding procedure_faults sentences
procedure_faults_are_short = refl

pub of_procedure_faults : (number : ℕ) → text_refusal (text_by procedure_faults number) 256 ≢ Some TooSmall
of_procedure_faults number = of_rows procedure_faults procedure_faults_are_short number

reasons_are_short : IsTrue (are_short reasons)
unfolding reasons sentences
reasons_are_short = refl

pub of_reasons : (number : ℕ) → text_refusal (text_by reasons number) 256 ≢ Some TooSmall
of_reasons number = of_rows reasons reasons_are_short number

-- ---- so the length of the text that was given is at most 256

short_length : (text : List ℕ) → (if nat_lt 256 (length text) then Some TooSmall else None) ≢ Some TooSmall → length text ≤ 256
short_length text has = elim (cases_lt 256 (length text)) [
  | inl long ↦ absurd (has (ap (λ (b : Bool). if b then Some TooSmall else None) (lt-ltb 256 (length text) long)))
  | inr short ↦ short
]

pub given : (text : Option (Bor (List ℕ))) (wanted : Option (List ℕ)) → option_map (λ (t : Bor (List ℕ)). t.now) text ≡ wanted → text_refusal wanted 256 ≢ Some TooSmall → IfSome text (λ t. length t.now ≤ 256)
given None wanted is has = tt
given (Some text) wanted is has = short_length text.now (subst (λ (t : Option (List ℕ)). text_refusal t 256 ≢ Some TooSmall) (sym is) has)

pub given_of_statuses : (number : ℕ) (text : Option (Bor (List ℕ))) → option_map (λ (t : Bor (List ℕ)). t.now) text ≡ text_by statuses number → IfSome text (λ t. length t.now ≤ 256)
given_of_statuses number text is = given text (text_by statuses number) is (of_statuses number)

pub given_of_procedure_faults : (number : ℕ) (text : Option (Bor (List ℕ))) → option_map (λ (t : Bor (List ℕ)). t.now) text ≡ text_by procedure_faults number → IfSome text (λ t. length t.now ≤ 256)
given_of_procedure_faults number text is = given text (text_by procedure_faults number) is (of_procedure_faults number)

pub given_of_reasons : (number : ℕ) (text : Option (Bor (List ℕ))) → option_map (λ (t : Bor (List ℕ)). t.now) text ≡ text_by reasons number → IfSome text (λ t. length t.now ≤ 256)
given_of_reasons number text is = given text (text_by reasons number) is (of_reasons number)
