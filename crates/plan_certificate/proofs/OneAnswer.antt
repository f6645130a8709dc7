-- Lines have one answer at most.
use Rattle.std.proofs.Common.{◌≡◌, ℕ, List, [], ◌∷◌, ◌++◌, Result, Ok, Err, refl, sym, ap, subst, ◌∙◌, ◌⊎◌, inl, inr, append_assoc}
use Rattle.std.proofs.lemmas.List.{append-nil}
use Rattle.plan_certificate.specs.declared.fault.CertificateFault.{CertificateFault}
use Rattle.plan_certificate.specs.declared.fault.CertificateFault.TheVariants.{BadLine, OutOfOrder, TooMany, NoEnd}
use Rattle.plan_certificate.specs.Certificates.{Claim}
use Rattle.plan_certificate.specs.CertificateText.{IsInRange, IsInRangeAndOrder, IsReadable, IsTextOf}
use Rattle.plan_certificate.specs.CertificateFaults.{Begins, IsLineFault, Stops, IsFirstFault, IsAnswer}
use Rattle.plan_certificate.proofs.Places.{places}
use Rattle.plan_certificate.proofs.WholeTexts.{same_certificate}

abbrev Lines : Type 0
Lines = List (List ℕ)

abbrev Answer : Type 0
Answer = Result Claim CertificateFault

-- ---- texts that begin with certain lines

-- with fewer lines
fewer : (Is : Claim → Type 0) (lines more : Lines) → Begins Is (lines ++ more) → Begins Is lines
fewer Is lines more (certificate, is, rest, e) = (certificate, is, more ++ rest, e ∙ append_assoc lines more rest)

-- of more certificates
weaker : (Is Was : Claim → Type 0) → ((certificate : Claim) → Was certificate → Is certificate) → (lines : Lines) → Begins Was lines → Begins Is lines
weaker Is Was less lines (certificate, was, rest, e) = (certificate, less certificate was, rest, e)

in_range : (lines : Lines) → Begins IsInRangeAndOrder lines → Begins IsInRange lines
in_range = weaker IsInRange IsInRangeAndOrder (λ certificate h. h.in_range)

ordered : (states : ℕ) (lines : Lines) → Begins (IsReadable states) lines → Begins IsInRangeAndOrder lines
ordered states = weaker IsInRangeAndOrder (IsReadable states) (λ certificate h. h.ordered)

-- ---- the fault of a line

module _ (states : ℕ) (lines : Lines) where
  stops : (fault : CertificateFault) → IsLineFault states lines fault → ¬ (Begins (IsReadable states) lines)
  stops (BadLine number) h begins = h.1 (in_range lines (ordered states lines begins))
  stops (OutOfOrder number) h begins = h.2 (ordered states lines begins)
  stops TooMany h begins = h.1 begins
  stops NoEnd h begins = h

  same_fault : (a b : CertificateFault) → IsLineFault states lines a → IsLineFault states lines b → a ≡ b
  same_fault (BadLine m) (BadLine n) p q = ap BadLine (p.0 ∙ sym q.0)
  same_fault (BadLine m) (OutOfOrder n) p q = absurd (p.1 q.1)
  same_fault (BadLine m) TooMany p q = absurd (p.1 (in_range lines q.0))
  same_fault (OutOfOrder m) (BadLine n) p q = absurd (q.1 p.1)
  same_fault (OutOfOrder m) (OutOfOrder n) p q = ap OutOfOrder (p.0 ∙ sym q.0)
  same_fault (OutOfOrder m) TooMany p q = absurd (p.2 q.0)
  same_fault TooMany (BadLine n) p q = absurd (q.1 (in_range lines p.0))
  same_fault TooMany (OutOfOrder n) p q = absurd (q.2 p.0)
  same_fault TooMany TooMany p q = refl
  same_fault NoEnd b p q = absurd p
  same_fault a NoEnd p q = absurd q

-- ---- every answer is one of these

module _ (states : ℕ) (lines : Lines) where
  abbrev Stopped : Answer → Type 0
  Stopped answer = (fault : CertificateFault) × (before : Lines) × (line : List ℕ) × (rest : Lines) × Stops states lines before line rest fault × (answer ≡ Err fault)

  abbrev Whole : Answer → Type 0
  Whole answer = ((certificate : Claim) × IsTextOf states lines certificate × (answer ≡ Ok certificate)) ⊎ (IsFirstFault states lines NoEnd × (answer ≡ Err NoEnd))

  shown : (answer : Answer) → IsAnswer states lines answer → Stopped answer ⊎ Whole answer
  shown (Ok certificate) h = inr (inl (certificate, h, refl))
  shown (Err (BadLine number)) h = inl (BadLine number, h.0, h.1, h.2, h.3, refl)
  shown (Err (OutOfOrder number)) h = inl (OutOfOrder number, h.0, h.1, h.2, h.3, refl)
  shown (Err TooMany) h = inl (TooMany, h.0, h.1, h.2, h.3, refl)
  shown (Err NoEnd) h = inr (inr (h, refl))

  -- where the text stops before a line, no readable text goes on with it
  not_later : (before : Lines) (line : List ℕ) (rest more : Lines) (fault : CertificateFault) → Stops states lines before line rest fault → ¬ (Begins (IsReadable states) ((before ++ line ∷ []) ++ more))
  not_later before line rest more fault h begins = stops states (before ++ line ∷ []) fault h.stops (fewer (IsReadable states) (before ++ line ∷ []) more begins)

  whole_begins : (answer : Answer) → Whole answer → Begins (IsReadable states) lines
  whole_begins answer (inl (certificate, text, is)) = (certificate, text.readable, [], sym text.lines_are ∙ sym (append-nil lines))
  whole_begins answer (inr (short, is)) = short.0

  not_both : (a b : Answer) → Stopped a → ¬ (Whole b)
  not_both a b (fault, before, line, rest, h, is) whole =
      not_later before line rest rest fault h (subst (Begins (IsReadable states)) (h.lines_are ∙ sym (append_assoc before (line ∷ []) rest)) (whole_begins b whole))

  one_stop : (a b : Answer) → Stopped a → Stopped b → a ≡ b
  one_stop a b (f, before, line, rest, p, is_a) (g, others, other, more, q, is_b) =
      elim (places before others line other rest more (sym p.lines_are ∙ q.lines_are)) [
        | inl one ↦
            let upto : before ++ line ∷ [] ≡ others ++ other ∷ [] = λ i. one.0 i ++ one.1 i ∷ [] in
            is_a ∙ ap Err (same_fault states (others ++ other ∷ []) f g (subst (λ l. IsLineFault states l f) upto p.stops) q.stops) ∙ sym is_b
        | inr (inl later) ↦ absurd (not_later before line rest later.0 f p (subst (Begins (IsReadable states)) later.1 q.begins))
        | inr (inr later) ↦ absurd (not_later others other more later.0 g q (subst (Begins (IsReadable states)) later.1 p.begins))
      ]

  one_whole : (a b : Answer) → Whole a → Whole b → a ≡ b
  one_whole a b (inl (c, p, is_a)) (inl (d, q, is_b)) =
      is_a ∙ ap Ok (same_certificate c d p.readable.ordered.in_range q.readable.ordered.in_range (sym p.lines_are ∙ q.lines_are)) ∙ sym is_b
  one_whole a b (inl (c, p, is_a)) (inr (short, is_b)) = absurd (short.1 c p)
  one_whole a b (inr (short, is_a)) (inl (d, q, is_b)) = absurd (short.1 d q)
  one_whole a b (inr (p, is_a)) (inr (q, is_b)) = is_a ∙ sym is_b

  agree : (a b : Answer) → Stopped a ⊎ Whole a → Stopped b ⊎ Whole b → a ≡ b
  agree a b (inl p) (inl q) = one_stop a b p q
  agree a b (inl p) (inr q) = absurd (not_both a b p q)
  agree a b (inr p) (inl q) = absurd (not_both b a q p)
  agree a b (inr p) (inr q) = one_whole a b p q

pub same_answer : (states : ℕ) (lines : Lines) (a b : Answer) → IsAnswer states lines a → IsAnswer states lines b → a ≡ b
same_answer states lines a b p q = agree states lines a b (shown states lines a p) (shown states lines b q)
