-- Memories are refused for the same reason that agree in the halves which reasons read of, each half if no reason before
-- applies.
use Rattle.std.proofs.Common.{◌≡◌, ◌&&◌, Bool, true, false, List, [], ◌∷◌, map, refl, ap, ◌∙◌, nat_le}
use Rattle.std.proofs.lemmas.Bool.{and_parts, not-true}
use Rattle.std.specs.Prelude.{not}
use Rattle.std.specs.List.{list_all}
use Rattle.paged_memory.specs.declared.key.Key.{Key}
use Rattle.paged_memory.specs.Images.{Memory}
use Rattle.field_tables.specs.FieldRows.{row_of}
use Rattle.field_tables.specs.FieldValues.{field_key}
use Rattle.field_tables.specs.FirstFault.{first_fault}
use Rattle.field_tables.specs.Reasons.{Reason, lacks, tells, wrong, judged, refused_by}
use Rattle.field_tables.specs.Sums.{sum_key}
use Rattle.field_tables.proofs.SameValues.{Agree, is_selection, same_absent, same_number, same_sum_right}

-- the half that a reason reads of
abbrev key_read : {F : Type 0} → Reason F → Key
key_read (lacks key fault) = key
key_read (tells field is_one fault) = field_key field
key_read (wrong sum fault) = sum_key sum

-- it reads no page selection
abbrev is_plain : {F : Type 0} → Reason F → Bool
is_plain (lacks key fault) = true
is_plain (tells field is_one fault) = not (is_selection field) && nat_le 1 (row_of field).count
is_plain (wrong sum fault) = true

-- each half agrees that a reason reads of, if no reason before applies
abbrev pub AgreeInTurn : {F : Type 0} → Memory → Memory → List (Reason F) → Type 0
AgreeInTurn a b [] = Unit {0}
AgreeInTurn a b (reason ∷ reasons) = Agree a b (key_read reason) × ((judged a reason).0 ≡ false → AgreeInTurn a b reasons)

judged_same : {F : Type 0} (a b : Memory) (reason : Reason F) → is_plain reason ≡ true → Agree a b (key_read reason) → judged a reason ≡ judged b reason
judged_same a b (lacks key fault) plain agree = ap (λ (absent : Bool). (absent, fault)) (same_absent a b key agree)
judged_same a b (tells field is_one fault) plain agree =
    let parts = and_parts (not (is_selection field)) (nat_le 1 (row_of field).count) plain in
    let same = same_number a b field agree (not-true (is_selection field) parts.0) parts.1 in
    λ i. (is_one (same i), fault (same i))
judged_same a b (wrong sum fault) plain agree = ap (λ (right : Bool). (not right, fault)) (same_sum_right a b sum agree)

-- where the first does not apply the others count
first_or_later : {F : Type 0} (first : Bool × F) (later other : List (Bool × F)) → (first.0 ≡ false → first_fault later ≡ first_fault other) → first_fault (first ∷ later) ≡ first_fault (first ∷ other)
first_or_later (true, fault) later other same = refl
first_or_later (false, fault) later other same = same refl

pub same_refusal : {F : Type 0} (a b : Memory) (reasons : List (Reason F)) → list_all is_plain reasons ≡ true → AgreeInTurn a b reasons → refused_by a reasons ≡ refused_by b reasons
same_refusal a b [] plain agree = refl
same_refusal {F} a b (reason ∷ reasons) plain agree =
    let parts = and_parts (is_plain reason) (list_all is_plain reasons) plain in
    first_or_later (judged a reason) (map (judged a) reasons) (map (judged b) reasons) (λ none. same_refusal a b reasons parts.1 (agree.1 none))
    ∙ ap (λ (first : Bool × F). first_fault (first ∷ map (judged b) reasons)) (judged_same a b reason parts.0 agree.0)
