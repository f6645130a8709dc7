-- What is known of refusals by results in which their statuses stand.
use Rattle.std.proofs.Common.{◌≡◌, ℕ, Option, Some, None, Result, Ok, Err, sym, subst, ◌∙◌}
use Rattle.std.specs.Prelude.{MatchOption}
use Rattle.std.specs.Option.{option_or}
use Rattle.firmware_api.specs.declared.status.Refusal.{Refusal}
use Rattle.firmware_api.specs.Statuses.{status_of}

pub same_ok : {A E : Type 0} (a b : A) → ◌≡◌ {A = Result A E} (Ok a) (Ok b) → a ≡ b
same_ok a b same = cc

pub same_err : {A E : Type 0} (a b : E) → ◌≡◌ {A = Result A E} (Err a) (Err b) → a ≡ b
same_err a b same = cc

pub not_both : {A E : Type 0} (value : A) (fault : E) → ◌≡◌ {A = Result A E} (Ok value) (Err fault) → ⊥
not_both value fault same = cc

-- what a function answers: a value, or the status of a refusal
abbrev pub Answers : {A : Type 0} → Option Refusal → Result A ℕ → Type 0 → Type 0
Answers refusal result Right = MatchOption refusal Right (λ r. result ≡ Err (status_of r))

module _ {A : Type 0} (result : Result A ℕ) where
  -- no refusal came before the value
  pub when_answered : (refusal : Option Refusal) (value : A) (Right P : Type 0) (H : Refusal → Type 0) →
      Answers refusal result Right → result ≡ Ok value → (Right → P) → MatchOption refusal P H
  when_answered None value Right P H told is give = give told
  when_answered (Some refusal) value Right P H told is give = absurd (not_both value (status_of refusal) (sym is ∙ told))

  pub same_value : (refusal : Option Refusal) (value right : A) → Answers refusal result (result ≡ Ok right) → result ≡ Ok value → value ≡ right
  same_value None value right told is = same_ok value right (sym is ∙ told)
  same_value (Some refusal) value right told is = absurd (not_both value (status_of refusal) (sym is ∙ told))

  -- what holds by the value holds, unless a refusal came before it or comes after it
  pub when_value : (refusal : Option Refusal) (later : A → Option Refusal) (value right : A) (P : A → Type 0) (H : Refusal → Type 0) →
      Answers refusal result (result ≡ Ok right) → result ≡ Ok value → MatchOption (later value) (P value) H →
      MatchOption (option_or refusal (later right)) (P right) H
  when_value None later value right P H told is holds =
      subst (λ (a : A). MatchOption (later a) (P a) H) (same_ok value right (sym is ∙ told)) holds
  when_value (Some refusal) later value right P H told is holds = absurd (not_both value (status_of refusal) (sym is ∙ told))

  -- the refusal whose status was answered
  pub when_refused : (refusal : Option Refusal) (right : A) (status : ℕ) (P : Type 0) (H : Refusal → Type 0) →
      Answers refusal result (result ≡ Ok right) → result ≡ Err status → ((r : Refusal) → status ≡ status_of r → H r) → MatchOption refusal P H
  when_refused None right status P H told is give = absurd (not_both right status (sym told ∙ is))
  when_refused (Some refusal) right status P H told is give = give refusal (same_err status (status_of refusal) (sym is ∙ told))
