-- The list of Applications, taken from the front: what is left of it, and that it is numbered in order.
use Rattle.std.proofs.Common.{◌≡◌, ℕ, zero, suc, ◌+◌, true, false, cond, List, [], ◌∷◌, refl, sym, subst, inl, inr, ◌∙◌, map, length}
use Rattle.std.proofs.lemmas.Bool.{cases_Bool}
use Rattle.std.proofs.lemmas.List.Sums.{take_while-cons}
use Rattle.std.specs.List.{range_with_len, take_while}
use Rattle.paged_memory.specs.Images.{Memory}
use Rattle.applications.specs.declared.app.App.{App}
use Rattle.applications.specs.Advertised.{InOrder}
use Rattle.applications.specs.Descriptors.{app_at, apps_of, is_listed}

-- the Applications from a number on, of so many descriptors
abbrev pub apps_from : Memory → ℕ → ℕ → List App
apps_from memory number left = take_while is_listed (map (app_at memory) (range_with_len number left))

pub apps_from-next : (memory : Memory) (number left : ℕ) → apps_from memory number (suc left) ≡ cond (is_listed (app_at memory number)) (app_at memory number ∷ apps_from memory (number + 1) left) []
apps_from-next memory number left = take_while-cons is_listed (app_at memory number) (map (app_at memory) (range_with_len (number + 1) left))

pub apps_from-listed : (memory : Memory) (number left : ℕ) → is_listed (app_at memory number) ≡ true → apps_from memory number (suc left) ≡ app_at memory number ∷ apps_from memory (number + 1) left
apps_from-listed memory number left listed = apps_from-next memory number left ∙ rw listed refl

pub apps_from-ended : (memory : Memory) (number left : ℕ) → is_listed (app_at memory number) ≡ false → apps_from memory number (suc left) ≡ []
apps_from-ended memory number left ended = apps_from-next memory number left ∙ rw ended refl

number-app_at : (memory : Memory) (number : ℕ) → (app_at memory number).number ≡ number
unfolding app_at
number-app_at memory number = refl

abbrev numbers : List App → List ℕ
numbers apps = map (λ (app : App). app.number) apps

numbered_from : (memory : Memory) (number left : ℕ) → numbers (apps_from memory number left) ≡ range_with_len number (length (apps_from memory number left))
numbered_from memory number zero = refl
numbered_from memory number (suc left) =
    let IsNumbered : List App → Type 0 = λ apps. numbers apps ≡ range_with_len number (length apps) in
    elim (cases_Bool (is_listed (app_at memory number))) [
      | inl listed ↦
          subst IsNumbered (sym (apps_from-listed memory number left listed))
          ((λ i. number-app_at memory number i ∷ numbered_from memory (number + 1) left i))
      | inr ended ↦ subst IsNumbered (sym (apps_from-ended memory number left ended)) refl
    ]

pub apps_of_in_order : (memory : Memory) → InOrder (apps_of memory)
unfolding apps_of
apps_of_in_order memory = numbered_from memory 1 15
