-- The text of kept paths has one answer at most.
use Rattle.std.proofs.Common.{◌≡◌, ℕ, ◌+◌, ◌<◌, List, [], ◌∷◌, ◌++◌, length, Result, Ok, Err, refl, sym, ap, subst, ◌∙◌, inl, inr, append_assoc, arith}
use Rattle.std.specs.List.{AllByRecursion}
use Rattle.std.proofs.lemmas.List.{length-map}
use Rattle.plan_certificate.specs.declared.path.Path.{Path}
use Rattle.plan_certificate.specs.declared.line.Line.TheVariants.{KeepLine}
use Rattle.plan_certificate.specs.declared.fault.KeptFault.{KeptFault}
use Rattle.plan_certificate.specs.declared.fault.KeptFault.TheVariants.{BadLine, TooMany, NotAdmissible}
use Rattle.plan_certificate.specs.CertificateText.{IsPathInRange}
use Rattle.plan_certificate.specs.KeptText.{IsFirstKeptFault, IsKeepLine, IsKeptAnswer, IsKeptLineFault, IsKeptList, IsKeptText, keep_line, keep_lines}
use Rattle.plan_certificate.proofs.LineWords.{same_line}
use Rattle.plan_certificate.proofs.Places.{places}

abbrev Lines : Type 0
Lines = List (List ℕ)

same_paths : (a b : List Path) → AllByRecursion IsPathInRange a → AllByRecursion IsPathInRange b → keep_lines a ≡ keep_lines b → a ≡ b
same_paths [] [] in_a in_b e = refl
same_paths [] (q ∷ b) in_a in_b e = absurd cc
same_paths (p ∷ a) [] in_a in_b e = absurd cc
same_paths (p ∷ a) (q ∷ b) in_a in_b e =
    let firsts : keep_line p ≡ keep_line q = cc in
    let rests : keep_lines a ≡ keep_lines b = cc in
    let one = same_line (KeepLine p) (KeepLine q) in_a.0 in_b.0 firsts in
    let more = same_paths a b in_a.1 in_b.1 rests in
    cc

-- each line of kept paths is that of a path
one_of_kept : (kept : List Path) (before : Lines) (line : List ℕ) (rest : Lines) → AllByRecursion IsPathInRange kept
    → keep_lines kept ≡ before ++ line ∷ rest → (path : Path) × IsKeepLine line path
one_of_kept [] [] line rest each e = absurd cc
one_of_kept [] (first ∷ before) line rest each e = absurd cc
one_of_kept (path ∷ kept) [] line rest each e = let same : line ≡ keep_line path = cc in (path, (each.0, same))
one_of_kept (path ∷ kept) (first ∷ before) line rest each e = one_of_kept kept before line rest each.1 cc

more_before : (kept : List Path) (before : Lines) (line : List ℕ) (rest : Lines) → keep_lines kept ≡ before ++ line ∷ rest → length before < length kept
more_before [] [] line rest e = absurd cc
more_before [] (first ∷ before) line rest e = absurd cc
more_before (path ∷ kept) [] line rest e = omega arith
more_before (path ∷ kept) (first ∷ before) line rest e = let more = more_before kept before line rest cc in omega (arith, more)

-- a line that is wrong behind some kept paths is no line of a longer list
not_wrong : (before : List Path) (line : List ℕ) (rest : Lines) (fault : KeptFault) (kept : List Path) → IsKeptLineFault before line fault → IsKeptList kept
    → ¬ (keep_lines kept ≡ keep_lines before ++ line ∷ rest)
not_wrong before line rest (BadLine number) kept wrong list e =
    let one = one_of_kept kept (keep_lines before) line rest list.each e in
    wrong.0 one.0 one.1.0 one.1.1
not_wrong before line rest TooMany kept wrong list e =
    let more = more_before kept (keep_lines before) line rest e in
    let same = length-map before keep_line in
    absurd (omega (arith, more, same, wrong.1, list.room))
not_wrong before line rest (NotAdmissible number) kept wrong list e = wrong

not_both : (lines : Lines) (kept : List Path) (fault : KeptFault) → IsKeptText lines kept → ¬ (IsFirstKeptFault lines fault)
not_both lines kept fault text (before, line, rest, stops) =
    not_wrong before line rest fault kept stops.wrong text.kept_is (sym text.lines_are ∙ stops.lines_are)

same_wrong : (a b : List Path) (line : List ℕ) (f g : KeptFault) → length a ≡ length b → IsKeptLineFault a line f → IsKeptLineFault b line g → f ≡ g
same_wrong a b line (BadLine m) (BadLine n) same p q = ap BadLine (p.1 ∙ ap (λ k. k + 1) same ∙ sym q.1)
same_wrong a b line (BadLine m) TooMany same p q = absurd (p.0 q.0.0 q.0.1.0 q.0.1.1)
same_wrong a b line TooMany (BadLine n) same p q = absurd (q.0 p.0.0 p.0.1.0 p.0.1.1)
same_wrong a b line TooMany TooMany same p q = refl
same_wrong a b line (NotAdmissible m) g same p q = absurd p
same_wrong a b line f (NotAdmissible n) same p q = absurd q

same_length : (a b : List Path) → keep_lines a ≡ keep_lines b → length a ≡ length b
same_length a b e = sym (length-map a keep_line) ∙ ap (λ (l : Lines). length l) e ∙ length-map b keep_line

same_fault : (lines : Lines) (f g : KeptFault) → IsFirstKeptFault lines f → IsFirstKeptFault lines g → f ≡ g
same_fault lines f g (a, x, r, p) (b, y, s, q) =
    elim (places (keep_lines a) (keep_lines b) x y r s (sym p.lines_are ∙ q.lines_are)) [
      | inl one ↦ same_wrong a b y f g (same_length a b one.0) (subst (λ l. IsKeptLineFault a l f) one.1 p.wrong) q.wrong
      | inr (inl later) ↦ absurd (not_wrong a x later.0 f b p.wrong q.kept_is (later.1 ∙ append_assoc (keep_lines a) (x ∷ []) later.0))
      | inr (inr later) ↦ absurd (not_wrong b y later.0 g a q.wrong p.kept_is (later.1 ∙ append_assoc (keep_lines b) (y ∷ []) later.0))
    ]

pub same_kept_answer : (lines : Lines) (a b : Result (List Path) KeptFault) → IsKeptAnswer lines a → IsKeptAnswer lines b → a ≡ b
same_kept_answer lines (Ok a) (Ok b) p q = ap Ok (same_paths a b p.kept_is.each q.kept_is.each (sym p.lines_are ∙ q.lines_are))
same_kept_answer lines (Ok a) (Err g) p q = absurd (not_both lines a g p q)
same_kept_answer lines (Err f) (Ok b) p q = absurd (not_both lines b f q p)
same_kept_answer lines (Err f) (Err g) p q = ap Err (same_fault lines f g p q)
