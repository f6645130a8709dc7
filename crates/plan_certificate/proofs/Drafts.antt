-- What has been read of a certificate's text, one line more, and where it stops.
use Rattle.std.proofs.Common.{◌≡◌, ◌≢◌, ◌+◌, ℕ, List, [], ◌∷◌, ◌++◌, length, map, refl, sym, ap, subst, ◌∙◌, append_assoc, arith}
use Rattle.std.specs.List.{AllByRecursion}
use Rattle.std.proofs.lemmas.List.{append-nil, length-append, length-map, map-append}
use Rattle.plan_certificate.specs.declared.path.Path.{Path}
use Rattle.plan_certificate.specs.declared.line.Line.{Line}
use Rattle.plan_certificate.specs.declared.line.Line.TheVariants.{Weight, KeepLine, End}
use Rattle.plan_certificate.specs.declared.stage.Stage.{Stage}
use Rattle.plan_certificate.specs.declared.stage.Stage.TheVariants.{Start, Headed, KeptHeaded, KeptWeighed, Weighed, Ended}
use Rattle.plan_certificate.specs.Certificates.{Claim, HasStates}
use Rattle.plan_certificate.specs.CertificateText.{line_text, lines_in, IsLineInRange, IsPathInRange, IsInRange, IsReadable}
use Rattle.plan_certificate.specs.declared.fault.CertificateFault.{CertificateFault}
use Rattle.plan_certificate.specs.declared.fault.CertificateFault.TheVariants.{BadLine, OutOfOrder, TooMany, NoEnd}
use Rattle.plan_certificate.specs.CertificateFaults.{Begins, IsLineFault, IsFirstFault}
use Rattle.plan_certificate.specs.CertificateDrafts.{lines_before_end, lines_so_far, MayCome}
use Rattle.plan_certificate.proofs.LineWords.{same_line}
use Rattle.plan_certificate.proofs.NextLines.{NextIn, next_in, comes_in_turn}

-- ---- the lines so far begin a text

-- any path
abbrev some_path : Path
some_path = record { app = 0; host = 0; media = 0 }

rest_of : Stage → Claim → List Line
rest_of Start certificate = lines_in certificate
rest_of Headed certificate = Weight certificate.weight ∷ End ∷ []
rest_of KeptHeaded certificate = Weight certificate.weight ∷ KeepLine some_path ∷ End ∷ []
rest_of KeptWeighed certificate = KeepLine some_path ∷ End ∷ []
rest_of Weighed certificate = End ∷ []
rest_of Ended certificate = []

-- a certificate whose text begins with the lines so far
abbrev pub whole : Stage → Claim → Claim
whole Start certificate = certificate
whole Headed certificate = record { paired = certificate.paired; weight = certificate.weight; kept = []; paths = []; entries = [] }
whole KeptHeaded certificate = record { paired = certificate.paired; weight = certificate.weight; kept = some_path ∷ []; paths = []; entries = [] }
whole KeptWeighed certificate = record { paired = certificate.paired; weight = certificate.weight; kept = some_path ∷ []; paths = []; entries = [] }
whole Weighed certificate = certificate
whole Ended certificate = certificate

parted : (stage : Stage) (certificate : Claim) → lines_in (whole stage certificate) ≡ lines_so_far stage certificate ++ rest_of stage certificate
unfolding rest_of
parted Start certificate = refl
parted Headed certificate = refl
parted KeptHeaded certificate = refl
parted KeptWeighed certificate = refl
parted Weighed certificate = refl
parted Ended certificate = sym (append-nil (lines_in certificate))

pub begins_so_far : (Is : Claim → Type 0) (stage : Stage) (certificate : Claim) → Is (whole stage certificate) → Begins Is (map line_text (lines_so_far stage certificate))
begins_so_far Is stage certificate is =
    (whole stage certificate, is, map line_text (rest_of stage certificate), ap (map line_text) (parted stage certificate) ∙ map-append line_text (lines_so_far stage certificate) (rest_of stage certificate))

no_states : HasStates []
no_states = record { rising = λ i j d before below. absurd (omega (arith, below)); within = λ k d below. absurd (omega (arith, below)); bytes = λ k d below. absurd (omega (arith, below)) }

some_in_range : IsPathInRange some_path
some_in_range = record { app = omega arith; host = omega arith; media = omega arith }

kept_readable : (states : ℕ) (certificate : Claim) → IsReadable states certificate → IsReadable states (whole KeptHeaded certificate)
kept_readable states certificate readable = record {
  ordered = record { in_range = (tt, (readable.ordered.in_range.1.0, (some_in_range, (tt, tt)))); states = no_states };
  few_kept = omega arith;
  few_paths = omega arith;
  few_states = omega arith;
}

whole_readable : (states : ℕ) (stage : Stage) (certificate : Claim) → IsReadable states certificate → IsReadable states (whole stage certificate)
whole_readable states Start certificate readable = readable
whole_readable states Headed certificate readable = record {
  ordered = record { in_range = (tt, (readable.ordered.in_range.1.0, (tt, tt))); states = no_states };
  few_kept = omega arith;
  few_paths = omega arith;
  few_states = omega arith;
}
whole_readable states KeptHeaded certificate readable = kept_readable states certificate readable
whole_readable states KeptWeighed certificate readable = kept_readable states certificate readable
whole_readable states Weighed certificate readable = readable
whole_readable states Ended certificate readable = readable

pub readable_begins : (states : ℕ) (stage : Stage) (certificate : Claim) → IsReadable states certificate → Begins (IsReadable states) (map line_text (lines_so_far stage certificate))
readable_begins states stage certificate readable = begins_so_far (IsReadable states) stage certificate (whole_readable states stage certificate readable)

front : {A : Type 0} (P : A → Type 0) (xs ys : List A) → AllByRecursion P (xs ++ ys) → AllByRecursion P xs
front P [] ys h = tt
front P (x ∷ xs) ys h = (h.0, front P xs ys h.1)

pub so_far_in_range : (stage : Stage) (certificate : Claim) → IsInRange certificate → AllByRecursion IsLineInRange (lines_so_far stage certificate)
so_far_in_range Start certificate in_range = tt
so_far_in_range Headed certificate in_range = (tt, tt)
so_far_in_range KeptHeaded certificate in_range = (tt, tt)
so_far_in_range KeptWeighed certificate in_range = (tt, (in_range.1.0, tt))
so_far_in_range Weighed certificate in_range = front IsLineInRange (lines_before_end certificate) (End ∷ []) in_range
so_far_in_range Ended certificate in_range = in_range

-- ---- where the next line stops them

module _ (stage : Stage) (certificate : Claim) (in_range : IsInRange certificate) (text : List ℕ) where
  abbrev so_far : List Line
  so_far = lines_so_far stage certificate

  -- the texts that begin with the lines so far and this line
  abbrev GoesOn : (Claim → Type 0) → Type 0
  GoesOn Is = Begins Is (map line_text so_far ++ text ∷ [])

  pub number_is : (number : ℕ) → number ≡ length so_far + 1 → number ≡ length (map line_text so_far ++ text ∷ [])
  number_is number e = e ∙ omega (arith, length-append (map line_text so_far) (text ∷ []), length-map so_far line_text)

  pub line_in : (Is : Claim → Type 0) → ((other : Claim) → Is other → IsInRange other) → GoesOn Is → (other : Claim) × Is other × NextIn so_far (lines_in other) text
  line_in Is ranges (other, is, rest, e) = (
    other,
    is,
    next_in so_far (lines_in other) text rest (so_far_in_range stage certificate in_range)
        (ranges other is) (e ∙ append_assoc (map line_text so_far) (text ∷ []) rest),
  )

  pub not_spelled : ((line : Line) → IsLineInRange line → text ≢ line_text line) → ¬ (GoesOn IsInRange)
  not_spelled none goes =
      let found = line_in IsInRange (λ other h. h) goes in
      none found.2.0 found.2.3 found.2.4

  pub not_in_turn : (line : Line) → IsLineInRange line → text ≡ line_text line → ¬ (MayCome stage certificate line) → ¬ (GoesOn IsInRange)
  not_in_turn line fits spelled late goes =
      let found = line_in IsInRange (λ other h. h) goes in
      let same = same_line found.2.0 line found.2.3 fits (sym found.2.4 ∙ spelled) in
      late (subst (MayCome stage certificate) same (comes_in_turn stage certificate found.0 found.2.0 found.2.1 found.2.2))

-- the fault at which reading stops
pub fault_after : (states : ℕ) (lines before : List (List ℕ)) (line : List ℕ) (rest : List (List ℕ)) (fault : CertificateFault) → lines ≡ before ++ line ∷ rest → Begins (IsReadable states) before
    → IsLineFault states (before ++ line ∷ []) fault → IsFirstFault states lines fault
fault_after states lines before line rest (BadLine number) is begins stops = (before, line, rest, record { lines_are = is; begins = begins; stops = stops })
fault_after states lines before line rest (OutOfOrder number) is begins stops = (before, line, rest, record { lines_are = is; begins = begins; stops = stops })
fault_after states lines before line rest TooMany is begins stops = (before, line, rest, record { lines_are = is; begins = begins; stops = stops })
fault_after states lines before line rest NoEnd is begins stops = absurd stops
