-- Whole texts of certificates, and texts that lack their end.
use Rattle.std.proofs.Common.{◌≡◌, ◌≢◌, Bool, false, List, [], ◌∷◌, ◌++◌, map, refl, sym, ap, ◌∙◌, append_assoc}
use Rattle.std.specs.List.{AllByRecursion}
use Rattle.plan_certificate.specs.declared.path.Path.{Path}
use Rattle.plan_certificate.specs.declared.certificate.Entry.{Entry}
use Rattle.plan_certificate.specs.declared.line.Line.{Line}
use Rattle.plan_certificate.specs.declared.line.Line.TheVariants.{Header, KeptHeader, KeepLine, PathLine, StateLine, End}
use Rattle.plan_certificate.specs.declared.stage.Stage.{Stage}
use Rattle.plan_certificate.specs.declared.stage.Stage.TheVariants.{Start, Headed, KeptHeaded, KeptWeighed, Weighed, Ended}
use Rattle.plan_certificate.specs.Certificates.{Claim}
use Rattle.plan_certificate.specs.CertificateText.{header_of, line_text, certificate_lines, lines_in, IsLineInRange, IsInRange}
use Rattle.plan_certificate.specs.CertificateDrafts.{lines_before_end, lines_so_far}
use Rattle.plan_certificate.proofs.LineWords.{same_line}
use Rattle.plan_certificate.proofs.NextLines.{behind_weight, nothing_left, regrouped}
use Rattle.plan_certificate.proofs.Drafts.{so_far_in_range}

pub same_lines : (xs ys : List Line) → AllByRecursion IsLineInRange xs → AllByRecursion IsLineInRange ys → map line_text xs ≡ map line_text ys → xs ≡ ys
same_lines [] [] hx hy e = refl
same_lines [] (y ∷ ys) hx hy e = absurd cc
same_lines (x ∷ xs) [] hx hy e = absurd cc
same_lines (x ∷ xs) (y ∷ ys) hx hy e =
    let firsts : line_text x ≡ line_text y = cc in
    let rests : map line_text xs ≡ map line_text ys = cc in
    let one = same_line x y hx.0 hy.0 firsts in
    let more = same_lines xs ys hx.1 hy.1 rests in
    λ i. one i ∷ more i

-- ---- the certificate that lines are those of

abbrev kept_in : List Line → List Path
kept_in [] = []
kept_in (KeepLine path ∷ lines) = path ∷ kept_in lines
kept_in (line ∷ lines) = kept_in lines

abbrev paths_in : List Line → List Path
paths_in [] = []
paths_in (PathLine path ∷ lines) = path ∷ paths_in lines
paths_in (line ∷ lines) = paths_in lines

abbrev entries_in : List Line → List Entry
entries_in [] = []
entries_in (StateLine entry ∷ lines) = entry ∷ entries_in lines
entries_in (line ∷ lines) = entries_in lines

abbrev paired_in : Line → Bool
paired_in (Header paired) = paired
paired_in (KeptHeader paired) = paired
paired_in line = false

paired_back : (paired : Bool) (kept : List Path) → paired_in (header_of paired kept) ≡ paired
paired_back paired [] = refl
paired_back paired (path ∷ kept) = refl

-- the lists of a certificate, one after another
abbrev lists_of : List Path → List Path → List Entry → List Line
lists_of kept paths entries = map KeepLine kept ++ (map PathLine paths ++ (map StateLine entries ++ End ∷ []))

kept_back : (kept paths : List Path) (entries : List Entry) → kept_in (lists_of kept paths entries) ≡ kept
kept_back [] [] [] = refl
kept_back [] [] (entry ∷ entries) = kept_back [] [] entries
kept_back [] (path ∷ paths) entries = kept_back [] paths entries
kept_back (path ∷ kept) paths entries = ap (λ l. path ∷ l) (kept_back kept paths entries)

paths_back : (kept paths : List Path) (entries : List Entry) → paths_in (lists_of kept paths entries) ≡ paths
paths_back [] [] [] = refl
paths_back [] [] (entry ∷ entries) = paths_back [] [] entries
paths_back [] (path ∷ paths) entries = ap (λ l. path ∷ l) (paths_back [] paths entries)
paths_back (path ∷ kept) paths entries = paths_back kept paths entries

entries_back : (kept paths : List Path) (entries : List Entry) → entries_in (lists_of kept paths entries) ≡ entries
entries_back [] [] [] = refl
entries_back [] [] (entry ∷ entries) = ap (λ l. entry ∷ l) (entries_back [] [] entries)
entries_back [] (path ∷ paths) entries = entries_back [] paths entries
entries_back (path ∷ kept) paths entries = entries_back kept paths entries

same_parts : (a b : Claim) → lines_in a ≡ lines_in b → a ≡ b
same_parts a b e =
    let headers : header_of a.paired a.kept ≡ header_of b.paired b.kept = cc in
    let paired = sym (paired_back a.paired a.kept) ∙ ap paired_in headers ∙ paired_back b.paired b.kept in
    let weights : a.weight ≡ b.weight = cc in
    let lists : map KeepLine a.kept ++ map PathLine a.paths ++ map StateLine a.entries ++ End ∷ [] ≡ map KeepLine b.kept ++ map PathLine b.paths ++ map StateLine b.entries ++ End ∷ [] = cc in
    let whole = sym (regrouped a.kept a.paths a.entries (End ∷ [])) ∙ lists ∙ regrouped b.kept b.paths b.entries (End ∷ []) in
    let kept = sym (kept_back a.kept a.paths a.entries) ∙ ap kept_in whole ∙ kept_back b.kept b.paths b.entries in
    let paths = sym (paths_back a.kept a.paths a.entries) ∙ ap paths_in whole ∙ paths_back b.kept b.paths b.entries in
    let entries = sym (entries_back a.kept a.paths a.entries) ∙ ap entries_in whole ∙ entries_back b.kept b.paths b.entries in
    λ i. record { paired = paired i; weight = weights i; kept = kept i; paths = paths i; entries = entries i }

pub same_certificate : (a b : Claim) → IsInRange a → IsInRange b → certificate_lines a ≡ certificate_lines b → a ≡ b
same_certificate a b ra rb e = same_parts a b (same_lines (lines_in a) (lines_in b) ra rb e)

-- ---- without `end`

ends : (lines : List Line) → lines ++ End ∷ [] ≢ []
ends [] none = cc
ends (line ∷ lines) none = cc

no_end : (stage : Stage) (certificate other : Claim) → stage ≢ Ended → lines_in other ≢ lines_so_far stage certificate
no_end Start certificate other short e = cc
no_end Headed certificate other short e = cc
no_end KeptHeaded certificate other short e = cc
no_end KeptWeighed certificate other short e =
    let none : map KeepLine other.kept ++ map PathLine other.paths ++ map StateLine other.entries ++ End ∷ [] ≡ [] = cc in
    ends (map KeepLine other.kept ++ map PathLine other.paths ++ map StateLine other.entries) none
no_end Weighed certificate other short e =
    let longer = ap (λ l. l ++ End ∷ []) (sym e) ∙ append_assoc (lines_before_end other) (End ∷ []) (End ∷ []) in
    nothing_left other certificate End [] (behind_weight other certificate End (End ∷ []) longer)
no_end Ended certificate other short e = short refl

pub is_no_text : (stage : Stage) (certificate other : Claim) → stage ≢ Ended → IsInRange certificate → IsInRange other → map line_text (lines_so_far stage certificate) ≢ certificate_lines other
is_no_text stage certificate other short ranges others e =
    no_end stage certificate other short (same_lines (lines_in other) (lines_so_far stage certificate) others (so_far_in_range stage certificate ranges) (sym e))
