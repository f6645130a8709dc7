-- The lines of a certificate's written text.
use Rattle.std.proofs.Common.{◌≡◌, ℕ, ◌<◌, ◌≤◌, ◌^◌, Bool, List, [], ◌∷◌, ◌++◌, length, map, refl, sym, ap, ◌∙◌, append_assoc}
use Rattle.std.specs.List.{AllByRecursion}
use Rattle.std.proofs.lemmas.List.{append-nil, map-append}
use Rattle.std.proofs.lemmas.List.Concat.{flat_map-append}
use Rattle.text_lines.specs.Lines.{lines_of, text_of, HasNoLf}
use Rattle.text_lines.proofs.WrittenLines.{lines_of-text_of}
use Rattle.plan_certificate.specs.declared.path.Path.{Path}
use Rattle.plan_certificate.specs.declared.certificate.Entry.{Entry}
use Rattle.plan_certificate.specs.declared.line.Line.{Line}
use Rattle.plan_certificate.specs.declared.line.Line.TheVariants.{Weight, KeepLine, PathLine, StateLine, End}
use Rattle.plan_certificate.specs.Certificates.{Claim, HasStates}
use Rattle.plan_certificate.specs.CertificateText.{header_of, line_text, certificate_lines, head_lines, lines_in, IsPathInRange, IsEntryInRange, IsLineInRange, IsReadable, IsTextOf}
use Rattle.plan_certificate.proofs.LineWords.{header_in_range, line_has_no_lf}

lines_clean : (lines : List Line) → AllByRecursion IsLineInRange lines → AllByRecursion HasNoLf (map line_text lines)
lines_clean [] h = tt
lines_clean (line ∷ lines) h = (line_has_no_lf line h.0, lines_clean lines h.1)

-- the lines of the written text are those of the certificate
pub written_lines : (states : ℕ) (certificate : Claim) → IsReadable states certificate → IsTextOf states (lines_of (text_of (certificate_lines certificate))) certificate
written_lines states certificate readable = record { lines_are = lines_of-text_of (certificate_lines certificate) (lines_clean (lines_in certificate) readable.ordered.in_range); readable = readable }

lists_in_range : (kept paths : List Path) (entries : List Entry) → AllByRecursion IsPathInRange kept → AllByRecursion IsPathInRange paths → AllByRecursion IsEntryInRange entries
    → AllByRecursion IsLineInRange (map KeepLine kept ++ map PathLine paths ++ map StateLine entries ++ End ∷ [])
lists_in_range [] [] [] ks ps es = (tt, tt)
lists_in_range [] [] (entry ∷ entries) ks ps es = (es.0, lists_in_range [] [] entries ks ps es.1)
lists_in_range [] (path ∷ paths) entries ks ps es = (ps.0, lists_in_range [] paths entries ks ps.1 es)
lists_in_range (path ∷ kept) paths entries ks ps es = (ks.0, lists_in_range kept paths entries ks.1 ps es)

-- a certificate of numbers of these sizes has a text
pub is_readable : (states : ℕ) (certificate : Claim) → certificate.weight < 2 ^ 64 → AllByRecursion IsPathInRange certificate.kept → AllByRecursion IsPathInRange certificate.paths → AllByRecursion IsEntryInRange certificate.entries
    → HasStates certificate.entries → length certificate.kept ≤ 8 → length certificate.paths ≤ 8 → length certificate.entries ≤ states → IsReadable states certificate
is_readable states certificate weight kept paths entries rising few_kept few_paths few_states = record {
  ordered = record {
    in_range = (header_in_range certificate.paired certificate.kept, (weight, lists_in_range certificate.kept certificate.paths certificate.entries kept paths entries));
    states = rising;
  };
  few_kept = few_kept;
  few_paths = few_paths;
  few_states = few_states;
}

-- ---- the text that is written, one part after another

text_more : (xs ys : List (List ℕ)) → text_of (xs ++ ys) ≡ text_of xs ++ text_of ys
text_more = flat_map-append (λ line. line ++ 10 ∷ [])

abbrev pub text_in : List Line → List ℕ
text_in lines = text_of (map line_text lines)

lines_more : (xs ys : List Line) → text_in (xs ++ ys) ≡ text_in xs ++ text_in ys
lines_more xs ys = ap text_of (map-append line_text xs ys) ∙ text_more (map line_text xs) (map line_text ys)

-- the lines before the entries
pub head_text : (paired : Bool) (weight : ℕ) (kept paths : List Path) (first second third last : List ℕ) → first ≡ line_text (header_of paired kept) ++ 10 ∷ [] → second ≡ first ++ (line_text (Weight weight) ++ 10 ∷ [])
    → third ≡ second ++ text_of (map line_text (map KeepLine kept)) → last ≡ third ++ text_of (map line_text (map PathLine paths)) → last ≡ text_in (head_lines paired weight kept paths)
head_text paired weight kept paths first second third last header weigh keeps runs =
    let head = line_text (header_of paired kept) ++ 10 ∷ [] in
    let weight_text = line_text (Weight weight) ++ 10 ∷ [] in
    let kept_text = text_in (map KeepLine kept) in
    let path_text = text_in (map PathLine paths) in
    let parts : last ≡ ((head ++ weight_text) ++ kept_text) ++ path_text = rw (runs, keeps, weigh, header) refl in
    let grouped : ((head ++ weight_text) ++ kept_text) ++ path_text ≡ head ++ (weight_text ++ (kept_text ++ path_text)) = simp append_assoc in
    parts ∙ grouped ∙ ap (λ l. head ++ (weight_text ++ l)) (sym (lines_more (map KeepLine kept) (map PathLine paths)))

-- and the entries, and the end
pub whole_text : (certificate : Claim) (head text last : List ℕ) → head ≡ text_in (head_lines certificate.paired certificate.weight certificate.kept certificate.paths)
    → text ≡ head ++ text_in (map StateLine certificate.entries) → last ≡ text ++ (line_text End ++ 10 ∷ []) → last ≡ text_of (certificate_lines certificate)
whole_text certificate head text last is states end =
    let lines = head_lines certificate.paired certificate.weight certificate.kept certificate.paths in
    let entries = map StateLine certificate.entries in
    let parts : last ≡ (text_in lines ++ text_in entries) ++ (line_text End ++ 10 ∷ []) = rw (end, states, is) refl in
    parts
    ∙ ap (λ l. l ++ (line_text End ++ 10 ∷ [])) (sym (lines_more lines entries))
    ∙ ap (λ l. text_in (lines ++ entries) ++ l) (sym (append-nil (line_text End ++ 10 ∷ [])))
    ∙ sym (lines_more (lines ++ entries) (End ∷ []))

-- one entry more
pub entry_text : (head text more : List ℕ) (entries : List Entry) (entry : Entry) → text ≡ head ++ text_in (map StateLine entries) → more ≡ text ++ (line_text (StateLine entry) ++ 10 ∷ [])
    → more ≡ head ++ text_in (map StateLine (entries ++ entry ∷ []))
entry_text head text more entries entry is added =
    let before = text_in (map StateLine entries) in
    let line = line_text (StateLine entry) ++ 10 ∷ [] in
    let parts : more ≡ (head ++ before) ++ line = rw (added, is) refl in
    let both : text_in (map StateLine (entries ++ entry ∷ [])) ≡ before ++ line =
    ap text_in (map-append StateLine entries (entry ∷ [])) ∙ lines_more (map StateLine entries) (StateLine entry ∷ []) ∙ ap (λ l. before ++ l) (append-nil line) in
    parts ∙ append_assoc head before line ∙ ap (λ l. head ++ l) (sym both)
