-- Applications stand at their numbers, so one is found by its number without a search.
use Rattle.std.proofs.Common.{◌≡◌, ℕ, suc, ◌+◌, ◌-◌, ◌<◌, ◌≤◌, ◌⊎◌, Bool, List, [], ◌∷◌, Option, Some, None, length, map, get_or, cond, refl, sym, ap, ◌∙◌, inl, inr, arith}
use Rattle.std.specs.List.{find, range_with_len}
use Rattle.std.proofs.lemmas.Bool.{cases_eq, eq-eqb, ne_eqb}
use Rattle.applications.specs.declared.app.App.{App}
use Rattle.plan_certificate.specs.declared.path.Path.{Path}
use Rattle.plan_certificate.specs.Paths.{has_number}

abbrev Numbered : ℕ → List App → Type 0
Numbered first apps = map (λ (app : App). app.number) apps ≡ range_with_len first (length apps)

record HeadAndRest (first : ℕ) (app : App) (apps : List App) : Type 0 where
  pub head : app.number ≡ first
  pub rest : Numbered (first + 1) apps

parts : (first : ℕ) (app : App) (apps : List App) → Numbered first (app ∷ apps) → HeadAndRest first app apps
parts first app apps order = record { head = cc; rest = cc }

pub at_its_number : (path : Path) (first : ℕ) (apps : List App) (d : App) → Numbered first apps → first ≤ path.app → path.app < first + length apps → find (has_number path) apps ≡ Some (get_or apps (path.app - first) d)
at_its_number path first [] d order from to = absurd (omega (arith, from, to))
at_its_number path first (app ∷ apps) d order from to =
    let is = parts first app apps order in
    let Finds : Bool → Option App = λ b. cond b (Some app) (find (has_number path) apps) in
    let At : ℕ → Option App = λ n. Some (get_or (app ∷ apps) n d) in
    elim (cases_eq app.number path.app) [
      | inl same ↦
          let zero : path.app - first ≡ 0 = omega (arith, same, is.head) in
          ap Finds (eq-eqb _ _ same) ∙ sym (ap At zero)
      | inr other ↦
          let next : path.app - first ≡ suc (path.app - (first + 1)) = omega (arith, from, other, is.head) in
          ap Finds (ne_eqb _ _ other) ∙ at_its_number path (first + 1) apps d is.rest (omega (arith, from, other, is.head)) (omega (arith, to)) ∙ sym (ap At next)
    ]

pub not_numbered : (path : Path) (first : ℕ) (apps : List App) → Numbered first apps → (path.app < first) ⊎ (first + length apps ≤ path.app) → find (has_number path) apps ≡ None
not_numbered path first [] order out = refl
not_numbered path first (app ∷ apps) order out =
    let is = parts first app apps order in
    let other : app.number ≡ path.app → ⊥ = λ same. elim (out) [
      | inl low ↦ absurd (omega (arith, low, same, is.head))
      | inr high ↦ absurd (omega (arith, high, same, is.head))
    ] in
    let rest : (path.app < first + 1) ⊎ (first + 1 + length apps ≤ path.app) = elim (out) [
      | inl low ↦ inl (omega (arith, low))
      | inr high ↦ inr (omega (arith, high))
    ] in
    ap (λ (b : Bool). cond b (Some app) (find (has_number path) apps)) (ne_eqb _ _ other) ∙ not_numbered path (first + 1) apps is.rest rest
