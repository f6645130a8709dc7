-- The directives that are left, as the code keeps them.
use Rattle.std.proofs.Common.{◌≡◌, ◌≢◌, ℕ, ◌+◌, ◌<◌, List, [], ◌∷◌, None, Some, inl, inr, length, take, drop, sym, ap, ◌∙◌}
use Rattle.std.proofs.lemmas.List.{drop-drop, drop-set, drop_all, length-set, append-nil}
use Rattle.std.proofs.lemmas.Bool.{cases_lt}
use Rattle.std.proofs.Math.Seq.{take-length, drop-length}
use Rattle.std.specs.Prelude.{slice_set}
use Rattle.std.specs.List.{refill}
use Rattle.bus_model.specs.declared.script.Directive.{Directive}
use Rattle.bus_model.specs.Scripts.{first, rest}

pub rest_of_drop : (n : ℕ) (xs : List Directive) → drop (n + 1) xs ≡ rest (drop n xs)
rest_of_drop n xs = sym (drop-drop 1 n xs)

-- a list of the same length fills another up whole
pub refill_whole : {X : Type 0} (xs ws : List X) → length ws ≡ length xs → refill (length xs) xs ws ≡ ws
refill_whole xs ws same =
    rw (← same) (
    let gone : drop (length ws) xs ≡ [] = rw same (drop-length xs) in
    rw gone (ap (take (length ws)) (append-nil ws) ∙ take-length ws)
    )

pub has_first : (n : ℕ) (xs : List Directive) → first (drop n xs) ≢ None → n < length xs
has_first n xs some = elim (cases_lt n (length xs)) [ inl within ↦ within | inr past ↦ absurd (some (ap first (drop_all n xs past))) ]

pub replaced : (n : ℕ) (xs ws : List Directive) (directive : Directive) → n < length xs → ws ≡ xs → drop n (refill (length xs) xs (slice_set ws n directive)) ≡ directive ∷ rest (drop n xs)
replaced n xs ws directive within same =
    rw same (ap (drop n) (refill_whole xs (slice_set xs n directive) (length-set xs n directive)) ∙ drop-set xs n directive within ∙ ap (λ left. directive ∷ left) (rest_of_drop n xs))

pub first_is : (script : List Directive) (directive : Directive) → first script ≡ Some directive → script ≡ directive ∷ rest script
first_is [] directive same = cc
first_is (other ∷ script) directive same = cc
