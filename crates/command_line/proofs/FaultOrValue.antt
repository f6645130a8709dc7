-- What is known of an optional fault where it is answered, or else a value.
use Rattle.std.proofs.Common.{◌≡◌, Option, Some, None, Result, Ok, Err, refl}
use Rattle.std.specs.Prelude.{MatchOption}

module _ {T F : Type 0} (reported : T) where
  abbrev Answers : Option F → Result T F → Type 0
  Answers o r = MatchOption o (r ≡ Ok reported) (λ f. r ≡ Err f)

  pub answered : (made : T) (o : Option F) → Answers o (Ok made) → (o ≡ None) × (made ≡ reported)
  answered made None h = (refl, cc)
  answered made (Some f) h = absurd cc

  pub refused : (f : F) (o : Option F) → Answers o (Err f) → o ≡ Some f
  refused f None h = absurd cc
  refused f (Some g) h = cc
