-- Which line comes next in a certificate's text.
use Rattle.std.proofs.Common.{◌≡◌, ◌≢◌, ℕ, Bool, List, [], ◌∷◌, ◌++◌, map, refl, sym, ap, subst, ◌∙◌, ◌⊎◌, inl, inr, append_assoc}
use Rattle.std.specs.List.{AllByRecursion}
use Rattle.plan_certificate.specs.declared.path.Path.{Path}
use Rattle.plan_certificate.specs.declared.certificate.Entry.{Entry}
use Rattle.plan_certificate.specs.declared.line.Line.{Line}
use Rattle.plan_certificate.specs.declared.line.Line.TheVariants.{Header, KeptHeader, Weight, KeepLine, PathLine, StateLine, End}
use Rattle.plan_certificate.specs.declared.stage.Stage.{Stage}
use Rattle.plan_certificate.specs.declared.stage.Stage.TheVariants.{Start, Headed, KeptHeaded, KeptWeighed, Weighed, Ended}
use Rattle.plan_certificate.specs.Certificates.{Claim}
use Rattle.plan_certificate.specs.CertificateText.{header_of, line_text, IsLineInRange, lines_in}
use Rattle.plan_certificate.specs.CertificateDrafts.{lines_before_end, lines_so_far, MayCome}
use Rattle.plan_certificate.proofs.LineWords.{same_line}

-- the line behind these paths and entries, in a text that has these others
abbrev pub NextKeep : List Path → List Path → List Path → List Entry → Line → Type 0
NextKeep kept others paths entries line = (path : Path) × (more : List Path) × (line ≡ KeepLine path) × (paths ≡ []) × (entries ≡ []) × (others ≡ kept ++ path ∷ more)

abbrev pub NextPath : List Path → List Path → List Entry → Line → Type 0
NextPath paths others entries line = (path : Path) × (more : List Path) × (line ≡ PathLine path) × (entries ≡ []) × (others ≡ paths ++ path ∷ more)

abbrev pub NextState : List Entry → List Entry → Line → Type 0
NextState entries others line = (entry : Entry) × (more : List Entry) × (line ≡ StateLine entry) × (others ≡ entries ++ entry ∷ more)

abbrev pub NextEnd : Line → List Line → Type 0
NextEnd line after = (line ≡ End) × (after ≡ [])

after_states : (entries others : List Entry) (line : Line) (after : List Line) → map StateLine others ++ End ∷ [] ≡ map StateLine entries ++ line ∷ after
    → NextState entries others line ⊎ NextEnd line after
after_states [] [] line after e = inr (cc, cc)
after_states [] (entry ∷ others) line after e = inl (entry, others, cc, refl)
after_states (entry ∷ entries) [] line after e = absurd cc
after_states (entry ∷ entries) (other ∷ others) line after e =
    let first : other ≡ entry = cc in
    let rest : map StateLine others ++ End ∷ [] ≡ map StateLine entries ++ line ∷ after = cc in
    elim (after_states entries others line after rest) [
      | inl next ↦ inl (next.0, next.1, next.2, λ i. first i ∷ next.3 i)
      | inr end ↦ inr end
    ]

abbrev pub Next : Claim → Claim → Line → List Line → Type 0
Next certificate other line after =
    NextKeep certificate.kept other.kept certificate.paths certificate.entries line
    ⊎ (NextPath certificate.paths other.paths certificate.entries line ⊎ (NextState certificate.entries other.entries line ⊎ NextEnd line after))

after_paths : (paths more : List Path) (entries others : List Entry) (line : Line) (after : List Line)
    → map PathLine more ++ (map StateLine others ++ End ∷ []) ≡ map PathLine paths ++ (map StateLine entries ++ line ∷ after)
    → NextPath paths more entries line ⊎ (NextState entries others line ⊎ NextEnd line after)
after_paths [] [] entries others line after e = inr (after_states entries others line after e)
after_paths [] (path ∷ more) [] others line after e = inl (path, more, cc, refl, refl)
after_paths [] (path ∷ more) (entry ∷ entries) others line after e = absurd cc
after_paths (path ∷ paths) [] entries [] line after e = absurd cc
after_paths (path ∷ paths) [] entries (other ∷ others) line after e = absurd cc
after_paths (path ∷ paths) (next ∷ more) entries others line after e =
    let first : next ≡ path = cc in
    let rest : map PathLine more ++ (map StateLine others ++ End ∷ []) ≡ map PathLine paths ++ (map StateLine entries ++ line ∷ after) = cc in
    elim (after_paths paths more entries others line after rest) [
      | inl found ↦ inl (found.0, found.1, found.2, found.3, λ i. first i ∷ found.4 i)
      | inr later ↦ inr later
    ]

after_kept : (kept more paths others : List Path) (entries states : List Entry) (line : Line) (after : List Line)
    → map KeepLine more ++ (map PathLine others ++ (map StateLine states ++ End ∷ [])) ≡ map KeepLine kept ++ (map PathLine paths ++ (map StateLine entries ++ line ∷ after))
    → NextKeep kept more paths entries line ⊎ (NextPath paths others entries line ⊎ (NextState entries states line ⊎ NextEnd line after))
after_kept [] [] paths others entries states line after e = inr (after_paths paths others entries states line after e)
after_kept [] (path ∷ more) [] others [] states line after e = inl (path, more, cc, refl, refl, refl)
after_kept [] (path ∷ more) [] others (entry ∷ entries) states line after e = absurd cc
after_kept [] (path ∷ more) (first ∷ paths) others entries states line after e = absurd cc
after_kept (path ∷ kept) [] paths [] entries [] line after e = absurd cc
after_kept (path ∷ kept) [] paths [] entries (state ∷ states) line after e = absurd cc
after_kept (path ∷ kept) [] paths (other ∷ others) entries states line after e = absurd cc
after_kept (path ∷ kept) (next ∷ more) paths others entries states line after e =
    let first : next ≡ path = cc in
    let rest : map KeepLine more ++ (map PathLine others ++ (map StateLine states ++ End ∷ [])) ≡ map KeepLine kept ++ (map PathLine paths ++ (map StateLine entries ++ line ∷ after)) = cc in
    elim (after_kept kept more paths others entries states line after rest) [
      | inl found ↦ inl (found.0, found.1, found.2, found.3, found.4, λ i. first i ∷ found.5 i)
      | inr later ↦ inr later
    ]

-- three lists, one after another, and lines behind them
pub regrouped : (kept paths : List Path) (entries : List Entry) (after : List Line)
    → map KeepLine kept ++ map PathLine paths ++ map StateLine entries ++ after ≡ map KeepLine kept ++ (map PathLine paths ++ (map StateLine entries ++ after))
regrouped kept paths entries after =
    append_assoc (map KeepLine kept ++ map PathLine paths) (map StateLine entries) after
    ∙ append_assoc (map KeepLine kept) (map PathLine paths) (map StateLine entries ++ after)

-- behind the weight, and kept paths, paths and states, if any
pub behind_weight : (certificate other : Claim) (line : Line) (after : List Line) → lines_in other ≡ lines_before_end certificate ++ line ∷ after → Next certificate other line after
behind_weight certificate other line after e =
    let lists : map KeepLine other.kept ++ map PathLine other.paths ++ map StateLine other.entries ++ End ∷ [] ≡ map KeepLine certificate.kept ++ map PathLine certificate.paths ++ map StateLine certificate.entries ++ line ∷ after = cc in
    after_kept certificate.kept other.kept certificate.paths other.paths certificate.entries other.entries line after
    (sym (regrouped other.kept other.paths other.entries (End ∷ [])) ∙ lists ∙ regrouped certificate.kept certificate.paths certificate.entries (line ∷ after))

same_header : (certificate other : Claim) (line : Line) (after : List Line) → lines_in other ≡ lines_before_end certificate ++ line ∷ after → header_of other.paired other.kept ≡ header_of certificate.paired certificate.kept
same_header certificate other line after e = cc

-- headers tell whether anything is kept
some_kept : (paired also : Bool) (kept others more : List Path) (path : Path) → header_of also others ≡ header_of paired kept → others ≡ kept ++ path ∷ more → kept ≢ []
some_kept paired also [] others more path same is none = absurd (let other : KeptHeader also ≡ Header paired = ap (header_of also) (sym is) ∙ same in cc)
some_kept paired also (first ∷ kept) others more path same is none = cc

may_come : (certificate other : Claim) (line : Line) (after : List Line) → header_of other.paired other.kept ≡ header_of certificate.paired certificate.kept → Next certificate other line after → MayCome Weighed certificate line
may_come certificate other line after same (inl next) =
    subst (MayCome Weighed certificate) (sym next.2) (inr (refl, record { kept = some_kept certificate.paired other.paired certificate.kept other.kept next.1 next.0 same next.5; paths = next.3; entries = next.4 }))
may_come certificate other line after same (inr (inl next)) = subst (MayCome Weighed certificate) (sym next.2) (refl, next.3)
may_come certificate other line after same (inr (inr (inl next))) = subst (MayCome Weighed certificate) (sym next.2) refl
may_come certificate other line after same (inr (inr (inr end))) = subst (MayCome Weighed certificate) (sym end.0) refl

pub nothing_left : (certificate other : Claim) (line : Line) (after : List Line) → Next certificate other End (line ∷ after) → ⊥
nothing_left certificate other line after (inl next) = cc
nothing_left certificate other line after (inr (inl next)) = cc
nothing_left certificate other line after (inr (inr (inl next))) = cc
nothing_left certificate other line after (inr (inr (inr end))) = cc

-- the first line of a text
first_line : (paired : Bool) (kept : List Path) (certificate : Claim) (line : Line) → header_of paired kept ≡ line → MayCome Start certificate line
first_line paired [] certificate line is = subst (MayCome Start certificate) is refl
first_line paired (path ∷ kept) certificate line is = subst (MayCome Start certificate) is refl

-- the line behind the weight, where paths are kept
first_keep : (paired also : Bool) (kept : List Path) (tail : List Line) (certificate : Claim) (line : Line) (after : List Line) → header_of also kept ≡ KeptHeader paired → map KeepLine kept ++ tail ≡ line ∷ after → MayCome KeptWeighed certificate line
first_keep paired also [] tail certificate line after same e = absurd cc
first_keep paired also (path ∷ kept) tail certificate line after same e =
    let is : KeepLine path ≡ line = cc in
    subst (MayCome KeptWeighed certificate) is (inl refl)

-- a line that comes next is one that may
pub comes_in_turn : (stage : Stage) (certificate other : Claim) (line : Line) (after : List Line) → lines_in other ≡ lines_so_far stage certificate ++ line ∷ after → MayCome stage certificate line
comes_in_turn Start certificate other line after e =
    let is : header_of other.paired other.kept ≡ line = cc in
    first_line other.paired other.kept certificate line is
comes_in_turn Headed certificate other line after e =
    let is : Weight other.weight ≡ line = cc in
    subst (MayCome Headed certificate) is (inl refl)
comes_in_turn KeptHeaded certificate other line after e =
    let is : Weight other.weight ≡ line = cc in
    subst (MayCome KeptHeaded certificate) is (inr refl)
comes_in_turn KeptWeighed certificate other line after e =
    let same : header_of other.paired other.kept ≡ KeptHeader certificate.paired = cc in
    let lists : map KeepLine other.kept ++ map PathLine other.paths ++ map StateLine other.entries ++ End ∷ [] ≡ line ∷ after = cc in
    first_keep certificate.paired other.paired other.kept (map PathLine other.paths ++ (map StateLine other.entries ++ End ∷ [])) certificate line after same (sym (regrouped other.kept other.paths other.entries (End ∷ [])) ∙ lists)
comes_in_turn Weighed certificate other line after e = may_come certificate other line after (same_header certificate other line after e) (behind_weight certificate other line after e)
comes_in_turn Ended certificate other line after e =
    let behind_end = append_assoc (lines_before_end certificate) (End ∷ []) (line ∷ after) in
    absurd (nothing_left certificate other line after (behind_weight certificate other End (line ∷ after) (e ∙ behind_end)))

-- ---- the lines of a text tell which lines they are

-- the line that comes next in the text of lines that begin so
abbrev pub NextIn : List Line → List Line → List ℕ → Type 0
NextIn before all text = (line : Line) × (after : List Line) × (all ≡ before ++ line ∷ after) × IsLineInRange line × (text ≡ line_text line)

pub next_in : (before all : List Line) (text : List ℕ) (rest : List (List ℕ)) → AllByRecursion IsLineInRange before → AllByRecursion IsLineInRange all → map line_text all ≡ map line_text before ++ text ∷ rest → NextIn before all text
next_in [] [] text rest hb ha e = absurd cc
next_in [] (line ∷ after) text rest hb ha e = (line, after, refl, ha.0, cc)
next_in (line ∷ before) [] text rest hb ha e = absurd cc
next_in (line ∷ before) (other ∷ all) text rest hb ha e =
    let firsts : line_text other ≡ line_text line = cc in
    let rests : map line_text all ≡ map line_text before ++ text ∷ rest = cc in
    let one = same_line other line ha.0 hb.0 firsts in
    let next = next_in before all text rest hb.1 ha.1 rests in
    (next.0, next.1, λ i. one i ∷ next.2 i, next.3, next.4)
