-- One more path or state in what has been read of a certificate's text.
use Rattle.std.proofs.Common.{◌≡◌, ◌≢◌, ◌≤◌, ◌<◌, ℕ, zero, suc, Bool, List, [], ◌∷◌, ◌++◌, length, map, refl, sym, ap, subst, ◌∙◌, inl, inr, append_assoc, arith}
use Rattle.std.specs.List.{All, AllPairs, AllByRecursion}
use Rattle.std.proofs.lemmas.List.{append-nil, length-append, map-append, get_or_append_left}
use Rattle.std.proofs.lemmas.List.Quantifiers.{all_pairs_push}
use Rattle.std.proofs.lemmas.List.Elements.{All-append}
use Rattle.std.proofs.Math.Seq.{get_or-append_seam}
use Rattle.plan_certificate.specs.declared.path.Path.{Path}
use Rattle.plan_certificate.specs.declared.certificate.Entry.{Entry}
use Rattle.plan_certificate.specs.declared.line.Line.{Line}
use Rattle.plan_certificate.specs.declared.line.Line.TheVariants.{KeptHeader, Weight, KeepLine, PathLine, StateLine, End}
use Rattle.plan_certificate.specs.declared.stage.Stage.{Stage}
use Rattle.plan_certificate.specs.declared.stage.Stage.TheVariants.{Weighed}
use Rattle.plan_certificate.specs.Certificates.{Claim, HasStates, entry_place}
use Rattle.plan_certificate.specs.CertificateText.{header_of, line_text, IsLineInRange, IsPathInRange, IsEntryInRange, IsInRange, IsInRangeAndOrder, IsReadable}
use Rattle.plan_certificate.specs.CertificateFaults.{Begins}
use Rattle.plan_certificate.specs.CertificateDrafts.{lines_before_end, lines_so_far, IsAt, IsDraft, MayCome}
use Rattle.plan_certificate.proofs.LineWords.{header_in_range, same_line}
use Rattle.plan_certificate.proofs.NextLines.{Next, behind_weight}
use Rattle.plan_certificate.proofs.Drafts.{begins_so_far, line_in}

abbrev pub with_keep : Claim → Path → Claim
with_keep certificate path = record { paired = certificate.paired; weight = certificate.weight; kept = certificate.kept ++ path ∷ []; paths = certificate.paths; entries = certificate.entries }

abbrev pub with_path : Claim → Path → Claim
with_path certificate path = record { paired = certificate.paired; weight = certificate.weight; kept = certificate.kept; paths = certificate.paths ++ path ∷ []; entries = certificate.entries }

abbrev pub with_state : Claim → Entry → Claim
with_state certificate entry = record { paired = certificate.paired; weight = certificate.weight; kept = certificate.kept; paths = certificate.paths; entries = certificate.entries ++ entry ∷ [] }

-- the header and the weight, and then these lines
abbrev behind_head : Claim → List Line → List Line
behind_head certificate lines = header_of certificate.paired certificate.kept ∷ Weight certificate.weight ∷ lines

path_lines : (certificate : Claim) (path : Path) → certificate.entries ≡ [] → lines_before_end (with_path certificate path) ≡ lines_before_end certificate ++ PathLine path ∷ []
path_lines certificate path none =
    let kept = map KeepLine certificate.kept in
    let paths = map PathLine certificate.paths in
    rw none (ap (behind_head certificate)
    (append-nil (kept ++ map PathLine (certificate.paths ++ path ∷ []))
    ∙ ap (λ l. kept ++ l) (map-append PathLine certificate.paths (path ∷ []))
    ∙ sym (append_assoc kept paths (PathLine path ∷ []))
    ∙ ap (λ l. l ++ PathLine path ∷ []) (sym (append-nil (kept ++ paths)))))

state_lines : (certificate : Claim) (entry : Entry) → lines_before_end (with_state certificate entry) ≡ lines_before_end certificate ++ StateLine entry ∷ []
state_lines certificate entry =
    let items = map KeepLine certificate.kept ++ map PathLine certificate.paths in
    ap (behind_head certificate)
    (ap (λ l. items ++ l) (map-append StateLine certificate.entries (entry ∷ []))
    ∙ sym (append_assoc items (map StateLine certificate.entries) (StateLine entry ∷ [])))

-- the lines of a certificate that has kept paths alone
pub kept_lines : (certificate : Claim) → certificate.paths ≡ [] → certificate.entries ≡ [] → lines_before_end certificate ≡ behind_head certificate (map KeepLine certificate.kept)
kept_lines certificate no_paths no_entries =
    rw (no_paths, no_entries) (ap (behind_head certificate) (append-nil (map KeepLine certificate.kept ++ []) ∙ append-nil (map KeepLine certificate.kept)))

pub some_header : (paired : Bool) (kept : List Path) → kept ≢ [] → header_of paired kept ≡ KeptHeader paired
some_header paired [] some = absurd (some refl)
some_header paired (path ∷ kept) some = refl

pub longer_header : (paired : Bool) (kept : List Path) (path : Path) → header_of paired (kept ++ path ∷ []) ≡ KeptHeader paired
longer_header paired [] path = refl
longer_header paired (first ∷ kept) path = refl

-- a kept path more
pub keep_lines : (certificate : Claim) (path : Path) → certificate.paths ≡ [] → certificate.entries ≡ []
    → lines_before_end (with_keep certificate path) ≡ (KeptHeader certificate.paired ∷ Weight certificate.weight ∷ map KeepLine certificate.kept) ++ KeepLine path ∷ []
keep_lines certificate path no_paths no_entries =
    kept_lines (with_keep certificate path) no_paths no_entries
    ∙ (λ i. longer_header certificate.paired certificate.kept path i ∷ Weight certificate.weight ∷ map-append KeepLine certificate.kept (path ∷ []) i)

put_between : {A : Type 0} (P : A → Type 0) (xs ys : List A) (y : A) → P y → AllByRecursion P (xs ++ ys) → AllByRecursion P ((xs ++ y ∷ []) ++ ys)
put_between P [] ys y p h = (p, h)
put_between P (x ∷ xs) ys y p h = (h.0, put_between P xs ys y p h.1)

in_range_more : (old new : Claim) (line : Line) → IsLineInRange line → lines_before_end new ≡ lines_before_end old ++ line ∷ [] → IsInRange old → IsInRange new
in_range_more old new line fits is ranges =
    subst (λ l. AllByRecursion IsLineInRange (l ++ End ∷ [])) (sym is) (put_between IsLineInRange (lines_before_end old) (End ∷ []) line fits ranges)

begins_more : (Is : Claim → Type 0) (old new : Claim) (line : Line) → lines_before_end new ≡ lines_before_end old ++ line ∷ [] → Is new
    → Begins Is (map line_text (lines_before_end old) ++ line_text line ∷ [])
begins_more Is old new line lines is =
    subst (Begins Is) (ap (map line_text) lines ∙ map-append line_text (lines_before_end old) (line ∷ [])) (begins_so_far Is Weighed new is)

-- ---- what a text has that goes on with a path or a state

abbrev GoesOn : (Claim → Type 0) → Claim → Line → Type 0
GoesOn Is certificate line = Begins Is (map line_text (lines_before_end certificate) ++ line_text line ∷ [])

abbrev Found : (Claim → Type 0) → Claim → Line → Type 0
Found Is certificate line = (other : Claim) × Is other × (after : List Line) × Next certificate other line after

found : (Is : Claim → Type 0) → ((other : Claim) → Is other → IsInRange other) → (certificate : Claim) (line : Line) → IsInRange certificate → IsLineInRange line → GoesOn Is certificate line → Found Is certificate line
found Is ranges certificate line in_range fits goes =
    let (other, is, (next, after, lines, next_fits, text)) = line_in Weighed certificate in_range (line_text line) Is ranges goes in
    (other, is, after, behind_weight certificate other line after (lines ∙ ap (λ l. lines_before_end certificate ++ l ∷ after) (same_line next line next_fits fits (sym text))))

more_paths : (certificate other : Claim) (path : Path) (after : List Line) → Next certificate other (PathLine path) after → length certificate.paths < length other.paths
more_paths certificate other path after (inl next) = absurd cc
more_paths certificate other path after (inr (inl next)) = omega (arith, ap (λ (l : List Path). length l) next.4, length-append certificate.paths (next.0 ∷ next.1))
more_paths certificate other path after (inr (inr (inl next))) = absurd cc
more_paths certificate other path after (inr (inr (inr end))) = absurd cc

more_kept : (certificate other : Claim) (path : Path) (after : List Line) → Next certificate other (KeepLine path) after → length certificate.kept < length other.kept
more_kept certificate other path after (inl next) = omega (arith, ap (λ (l : List Path). length l) next.5, length-append certificate.kept (next.0 ∷ next.1))
more_kept certificate other path after (inr (inl next)) = absurd cc
more_kept certificate other path after (inr (inr (inl next))) = absurd cc
more_kept certificate other path after (inr (inr (inr end))) = absurd cc

more_states : (certificate other : Claim) (entry : Entry) (after : List Line) → Next certificate other (StateLine entry) after → (more : List Entry) × (other.entries ≡ certificate.entries ++ entry ∷ more)
more_states certificate other entry after (inl next) = absurd cc
more_states certificate other entry after (inr (inl next)) = absurd cc
more_states certificate other entry after (inr (inr (inl next))) =
    let same : next.0 ≡ entry = cc in
    (next.1, next.3 ∙ ap (λ e. certificate.entries ++ e ∷ next.1) same)
more_states certificate other entry after (inr (inr (inr end))) = absurd cc

-- ---- room for paths

module _ (states : ℕ) (certificate : Claim) (path : Path) (fits : IsPathInRange path) (none : certificate.entries ≡ []) where
  ordered_path : IsInRangeAndOrder certificate → IsInRangeAndOrder (with_path certificate path)
  ordered_path ordered = record {
    in_range = in_range_more certificate (with_path certificate path) (PathLine path) fits (path_lines certificate path none) ordered.in_range;
    states = ordered.states;
  }

  pub ninth_path : IsInRangeAndOrder certificate → length certificate.paths ≡ 8 → GoesOn IsInRangeAndOrder certificate (PathLine path) × ¬ (GoesOn (IsReadable states) certificate (PathLine path))
  ninth_path ordered full = (
    begins_more IsInRangeAndOrder certificate (with_path certificate path) (PathLine path) (path_lines certificate path none) (ordered_path ordered),
    λ goes.
        let next = found (IsReadable states) (λ other h. h.ordered.in_range) certificate (PathLine path) ordered.in_range fits goes in
        omega (arith, more_paths certificate next.0 path next.2 next.3, next.1.few_paths),
  )

  pub path_fits : (new : Claim) → new ≡ with_path certificate path → length new.paths ≤ 8 → IsReadable states certificate → IsDraft states Weighed new
  path_fits new is few readable =
      record {
        readable = record {
          ordered = subst IsInRangeAndOrder (sym is) (ordered_path readable.ordered);
          few_kept = subst (λ (c : Claim). length c.kept ≤ 8) (sym is) readable.few_kept;
          few_paths = few;
          few_states = subst (λ (c : Claim). length c.entries ≤ states) (sym is) readable.few_states;
        };
        lists = tt;
      }

-- ---- room for kept paths

keep_in_range : (kept : List Path) (path : Path) → IsPathInRange path → AllByRecursion IsLineInRange (map KeepLine kept ++ End ∷ []) → AllByRecursion IsLineInRange (map KeepLine (kept ++ path ∷ []) ++ End ∷ [])
keep_in_range [] path fits ranges = (fits, ranges)
keep_in_range (first ∷ kept) path fits ranges = (ranges.0, keep_in_range kept path fits ranges.1)

module _ (states : ℕ) (certificate : Claim) (path : Path) (fits : IsPathInRange path) (no_paths : certificate.paths ≡ []) (no_entries : certificate.entries ≡ []) where
  ranges_keep : IsInRange certificate → IsInRange (with_keep certificate path)
  ranges_keep ranges =
      let old = subst (λ l. AllByRecursion IsLineInRange (l ++ End ∷ [])) (kept_lines certificate no_paths no_entries) ranges in
      subst (λ l. AllByRecursion IsLineInRange (l ++ End ∷ [])) (sym (kept_lines (with_keep certificate path) no_paths no_entries))
      (header_in_range certificate.paired (certificate.kept ++ path ∷ []), (old.1.0, keep_in_range certificate.kept path fits old.1.1))

  ordered_keep : IsInRangeAndOrder certificate → IsInRangeAndOrder (with_keep certificate path)
  ordered_keep ordered = record { in_range = ranges_keep ordered.in_range; states = ordered.states }

  pub ninth_kept : certificate.kept ≢ [] → IsInRangeAndOrder certificate → length certificate.kept ≡ 8 → GoesOn IsInRangeAndOrder certificate (KeepLine path) × ¬ (GoesOn (IsReadable states) certificate (KeepLine path))
  ninth_kept some ordered full =
      let same : lines_before_end certificate ≡ KeptHeader certificate.paired ∷ Weight certificate.weight ∷ map KeepLine certificate.kept =
      kept_lines certificate no_paths no_entries ∙ ap (λ line. line ∷ Weight certificate.weight ∷ map KeepLine certificate.kept) (some_header certificate.paired certificate.kept some) in (
        begins_more IsInRangeAndOrder certificate (with_keep certificate path) (KeepLine path) (keep_lines certificate path no_paths no_entries ∙ ap (λ l. l ++ KeepLine path ∷ []) (sym same)) (ordered_keep ordered),
        λ goes.
            let next = found (IsReadable states) (λ other h. h.ordered.in_range) certificate (KeepLine path) ordered.in_range fits goes in
            omega (arith, more_kept certificate next.0 path next.2 next.3, next.1.few_kept),
      )

  pub keep_fits : (new : Claim) → new ≡ with_keep certificate path → length new.kept ≤ 8 → IsReadable states certificate → IsDraft states Weighed new
  keep_fits new is few readable =
      record {
        readable = record {
          ordered = subst IsInRangeAndOrder (sym is) (ordered_keep readable.ordered);
          few_kept = few;
          few_paths = subst (λ (c : Claim). length c.paths ≤ 8) (sym is) readable.few_paths;
          few_states = subst (λ (c : Claim). length c.entries ≤ states) (sym is) readable.few_states;
        };
        lists = tt;
      }

-- a kept path may come behind the weight, or behind kept paths alone
module _ (states : ℕ) (stage : Stage) (certificate : Claim) (path : Path) (may : MayCome stage certificate (KeepLine path)) (draft : IsDraft states stage certificate) where
  -- then nothing but kept paths was read
  pub keep_alone : (certificate.paths ≡ []) × (certificate.entries ≡ [])
  keep_alone = elim (may) [
    | inl first ↦ let lists = subst (λ (s : Stage). IsAt s certificate) first draft.lists in (lists.paths, lists.entries)
    | inr later ↦ (later.1.paths, later.1.entries)
  ]

  -- and these are the lines so far
  lines_with_kept : lines_so_far stage certificate ≡ KeptHeader certificate.paired ∷ Weight certificate.weight ∷ map KeepLine certificate.kept
  lines_with_kept = elim (may) [
    | inl first ↦
        let lists = subst (λ (s : Stage). IsAt s certificate) first draft.lists in
        ap (λ (s : Stage). lines_so_far s certificate) first ∙ ap (λ (kept : List Path). KeptHeader certificate.paired ∷ Weight certificate.weight ∷ map KeepLine kept) (sym lists.kept)
    | inr later ↦
        ap (λ (s : Stage). lines_so_far s certificate) later.0 ∙ kept_lines certificate later.1.paths later.1.entries
        ∙ ap (λ line. line ∷ Weight certificate.weight ∷ map KeepLine certificate.kept) (some_header certificate.paired certificate.kept later.1.kept)
  ]

  pub keep_added : (new : Claim) → new ≡ with_keep certificate path → lines_before_end new ≡ lines_so_far stage certificate ++ KeepLine path ∷ []
  keep_added new is =
      ap lines_before_end is ∙ keep_lines certificate path keep_alone.0 keep_alone.1 ∙ ap (λ l. l ++ KeepLine path ∷ []) (sym lines_with_kept)

  pub ninth_kept_path : (fits : IsPathInRange path) → length certificate.kept ≡ 8
      → Begins IsInRangeAndOrder (map line_text (lines_so_far stage certificate) ++ line_text (KeepLine path) ∷ []) × ¬ (Begins (IsReadable states) (map line_text (lines_so_far stage certificate) ++ line_text (KeepLine path) ∷ []))
  ninth_kept_path fits full = elim (may) [
    | inl first ↦ let lists = subst (λ (s : Stage). IsAt s certificate) first draft.lists in absurd (omega (arith, full, ap (λ (l : List Path). length l) lists.kept))
    | inr later ↦ rw later.0 (ninth_kept states certificate path fits later.1.paths later.1.entries later.1.kept draft.readable.ordered full)
  ]

-- ---- the order of states, and room for them

abbrev pub IsAbove : List Entry → Entry → Type 0
IsAbove entries entry = All (λ before. entry_place before < entry_place entry) entries

above_at : (entries more : List Entry) (entry : Entry) → AllPairs (λ before later. entry_place before < entry_place later) (entries ++ entry ∷ more) → IsAbove entries entry
above_at entries more entry rising k d lt =
    let pair = rising k (length entries) d lt (omega (arith, length-append entries (entry ∷ more))) in
    rw (get_or_append_left entries (entry ∷ more) d k lt, get_or-append_seam entries entry more d) at pair

only_one : (P : Entry → Type 0) (entry : Entry) → P entry → All P (entry ∷ [])
only_one P entry p zero d lt = p
only_one P entry p (suc k) d lt = absurd (omega arith)

pub states_more : (entries : List Entry) (entry : Entry) → HasStates entries → IsEntryInRange entry → IsAbove entries entry → HasStates (entries ++ entry ∷ [])
states_more entries entry states fits above = record {
  rising = all_pairs_push (λ before later. entry_place before < entry_place later) entries entry states.rising above;
  within = All-append (λ e. e.boundary ≤ 8) entries (entry ∷ []) states.within (only_one (λ e. e.boundary ≤ 8) entry fits.boundary);
  bytes = All-append (λ e. e.used < 256) entries (entry ∷ []) states.bytes (only_one (λ e. e.used < 256) entry fits.used);
}

module _ (states : ℕ) (certificate : Claim) (entry : Entry) (fits : IsEntryInRange entry) where
  ranges_state : IsInRange certificate → IsInRange (with_state certificate entry)
  ranges_state ranges = in_range_more certificate (with_state certificate entry) (StateLine entry) fits (state_lines certificate entry) ranges

  ordered_state : IsInRangeAndOrder certificate → IsAbove certificate.entries entry → IsInRangeAndOrder (with_state certificate entry)
  ordered_state ordered above = record { in_range = ranges_state ordered.in_range; states = states_more certificate.entries entry ordered.states fits above }

  pub low_state : IsInRange certificate → ¬ (IsAbove certificate.entries entry) → GoesOn IsInRange certificate (StateLine entry) × ¬ (GoesOn IsInRangeAndOrder certificate (StateLine entry))
  low_state ranges low = (
    begins_more IsInRange certificate (with_state certificate entry) (StateLine entry) (state_lines certificate entry) (ranges_state ranges),
    λ goes.
        let next = found IsInRangeAndOrder (λ other h. h.in_range) certificate (StateLine entry) ranges fits goes in
        let more = more_states certificate next.0 entry next.2 next.3 in
        low (above_at certificate.entries more.0 entry (subst (AllPairs (λ before later. entry_place before < entry_place later)) more.1 next.1.states.rising)),
  )

  pub last_state : IsInRangeAndOrder certificate → IsAbove certificate.entries entry → length certificate.entries ≡ states → GoesOn IsInRangeAndOrder certificate (StateLine entry) × ¬ (GoesOn (IsReadable states) certificate (StateLine entry))
  last_state ordered above full = (
    begins_more IsInRangeAndOrder certificate (with_state certificate entry) (StateLine entry) (state_lines certificate entry) (ordered_state ordered above),
    λ goes.
        let next = found (IsReadable states) (λ other h. h.ordered.in_range) certificate (StateLine entry) ordered.in_range fits goes in
        let more = more_states certificate next.0 entry next.2 next.3 in
        omega (arith, ap (λ (l : List Entry). length l) more.1, length-append certificate.entries (entry ∷ more.0), next.1.few_states),
  )

  pub state_fits : (new : Claim) → new ≡ with_state certificate entry → length new.entries ≤ states → IsAbove certificate.entries entry → IsReadable states certificate → IsDraft states Weighed new
  state_fits new is few above readable =
      record {
        readable = record {
          ordered = subst IsInRangeAndOrder (sym is) (ordered_state readable.ordered above);
          few_kept = subst (λ (c : Claim). length c.kept ≤ 8) (sym is) readable.few_kept;
          few_paths = subst (λ (c : Claim). length c.paths ≤ 8) (sym is) readable.few_paths;
          few_states = few;
        };
        lists = tt;
      }
