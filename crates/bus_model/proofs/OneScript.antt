-- Lines have one answer at most.
use Rattle.std.proofs.Common.{◌≡◌, ℕ, ◌<◌, ◌⊎◌, inl, inr, List, [], ◌∷◌, ◌++◌, length, Result, Ok, Err, refl, sym, ap, ◌∙◌, subst, arith}
use Rattle.std.specs.List.{AllByRecursion}
use Rattle.bus_model.specs.declared.script.Directive.{Directive}
use Rattle.bus_model.specs.declared.fault.ScriptFault.{ScriptFault}
use Rattle.bus_model.specs.declared.fault.ScriptFault.TheVariants.{BadLine, TooLong}
use Rattle.bus_model.specs.ScriptText.{directive_line, script_lines, IsDirective, IsScript, IsTextOf}
use Rattle.bus_model.specs.ScriptFaults.{Spells, IsLineFault, IsFirstFault, IsAnswer}
use Rattle.bus_model.proofs.DirectiveWords.{same_directive}

abbrev Lines : Type 0
Lines = List (List ℕ)

abbrev Each : List Directive → Type 0
Each script = AllByRecursion IsDirective script

same_script : (a b : List Directive) → Each a → Each b → script_lines a ≡ script_lines b → a ≡ b
same_script [] [] ha hb e = refl
same_script [] (y ∷ b) ha hb e = cc
same_script (x ∷ a) [] ha hb e = cc
same_script (x ∷ a) (y ∷ b) ha hb e =
    let first : directive_line x ≡ directive_line y = cc in
    let rest : script_lines a ≡ script_lines b = cc in
    λ i. same_directive x y ha.0 hb.0 first i ∷ same_script a b ha.1 hb.1 rest i

-- a line of a script, behind so many others
abbrev IsInside : List Directive → List Directive → List ℕ → Type 0
IsInside before script line = Spells line × (length before < length script)

inside_more : (x y : Directive) (a b : List Directive) (line : List ℕ) → IsInside a b line → IsInside (x ∷ a) (y ∷ b) line
inside_more x y a b line h = (h.0, omega (arith, h.1))

-- the first lines of a script's text are another's, so the next is a line of it
inside : (a b : List Directive) (line : List ℕ) (rest : Lines) → Each a → script_lines a ≡ script_lines b ++ line ∷ rest → IsInside b a line
inside [] [] line rest ha e = cc
inside [] (y ∷ b) line rest ha e = cc
inside (x ∷ a) [] line rest ha e = ((x, (ha.0, cc)), omega arith)
inside (x ∷ a) (y ∷ b) line rest ha e =
    let more : script_lines a ≡ script_lines b ++ line ∷ rest = cc in
    inside_more y x b a line (inside a b line rest ha.1 more)

abbrev Places : List Directive → List ℕ → List Directive → List ℕ → Type 0
Places a x b y = ((a ≡ b) × (x ≡ y)) ⊎ (IsInside a b x ⊎ IsInside b a y)

places_more : (d e : Directive) (a b : List Directive) (x y : List ℕ) → d ≡ e → Places a x b y → Places (d ∷ a) x (e ∷ b) y
places_more d e a b x y same (inl one) = inl (λ i. same i ∷ one.0 i, one.1)
places_more d e a b x y same (inr (inl h)) = inr (inl (inside_more d e a b x h))
places_more d e a b x y same (inr (inr h)) = inr (inr (inside_more e d b a y h))

places : (a b : List Directive) (x y : List ℕ) (r s : Lines) → Each a → Each b → script_lines a ++ x ∷ r ≡ script_lines b ++ y ∷ s → Places a x b y
places [] [] x y r s ha hb e = inl (refl, cc)
places [] (d ∷ b) x y r s ha hb e = inr (inl ((d, (hb.0, cc)), omega arith))
places (d ∷ a) [] x y r s ha hb e = inr (inr ((d, (ha.0, sym cc)), omega arith))
places (d ∷ a) (f ∷ b) x y r s ha hb e =
    let first : directive_line d ≡ directive_line f = cc in
    let rest : script_lines a ++ x ∷ r ≡ script_lines b ++ y ∷ s = cc in
    places_more d f a b x y (same_directive d f ha.0 hb.0 first) (places a b x y r s ha.1 hb.1 rest)

-- a line inside a script isn't wrong
not_inside : (a b : List Directive) (line : List ℕ) (fault : ScriptFault) → IsScript b → IsLineFault a line fault → ¬ (IsInside a b line)
not_inside a b line (BadLine number) script wrong h = wrong.0 h.0
not_inside a b line TooLong script wrong h = omega (arith, wrong.1, h.1, script.room)

same_fault : (script : List Directive) (line : List ℕ) (a b : ScriptFault) → IsLineFault script line a → IsLineFault script line b → a ≡ b
same_fault script line (BadLine m) (BadLine n) p q = ap BadLine (p.1 ∙ sym q.1)
same_fault script line (BadLine m) TooLong p q = absurd (p.0 q.0)
same_fault script line TooLong (BadLine n) p q = absurd (q.0 p.0)
same_fault script line TooLong TooLong p q = refl

one_fault : (lines : Lines) (f g : ScriptFault) → IsFirstFault lines f → IsFirstFault lines g → f ≡ g
one_fault lines f g (a, x, r, p) (b, y, s, q) =
    elim (places a b x y r s p.script_is.each q.script_is.each (sym p.lines_are ∙ q.lines_are)) [
      | inl one ↦ same_fault b y f g (subst (λ l. IsLineFault b l f) one.1 (subst (λ script. IsLineFault script x f) one.0 p.wrong)) q.wrong
      | inr (inl h) ↦ absurd (not_inside a b x f q.script_is p.wrong h)
      | inr (inr h) ↦ absurd (not_inside b a y g p.script_is q.wrong h)
    ]

not_both : (lines : Lines) (script : List Directive) (fault : ScriptFault) → IsTextOf lines script → ¬ (IsFirstFault lines fault)
not_both lines script fault text (before, line, rest, h) =
    not_inside before script line fault text.script_is h.wrong (inside script before line rest text.script_is.each (sym text.lines_are ∙ h.lines_are))

pub same_answer : (lines : Lines) (a b : Result (List Directive) ScriptFault) → IsAnswer lines a → IsAnswer lines b → a ≡ b
same_answer lines (Ok a) (Ok b) p q = ap Ok (same_script a b p.script_is.each q.script_is.each (sym p.lines_are ∙ q.lines_are))
same_answer lines (Ok a) (Err g) p q = absurd (not_both lines a g p q)
same_answer lines (Err f) (Ok b) p q = absurd (not_both lines b f q p)
same_answer lines (Err f) (Err g) p q = ap Err (one_fault lines f g p q)
