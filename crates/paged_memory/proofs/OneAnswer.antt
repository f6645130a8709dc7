-- Lines have one answer at most.
use Rattle.std.proofs.Common.{◌≡◌, ◌≢◌, ℕ, ◌<◌, ◌≤◌, true, List, [], ◌∷◌, ◌++◌, length, map, slice_index, Result, Ok, Err, refl, sym, ap, subst, ◌∙◌, ◌⊎◌, inl, inr, arith}
use Rattle.std.specs.Ordering.{is_lt}
use Rattle.std.specs.declared.cmp.Ordering.TheVariants.{Less}
use Rattle.std.specs.List.{AllByRecursion}
use Rattle.std.specs.FinMap as finmap
use Rattle.std.specs.FinMap.Entries.{below_all}
use Rattle.std.proofs.lemmas.List.{append-nil, length-append}
use Rattle.std.proofs.lemmas.List.Elements.{All-from_recursion}
use Rattle.std.proofs.lemmas.Bool.{and_parts}
use Rattle.paged_memory.specs.declared.key.Key.{Key}
use Rattle.paged_memory.specs.declared.fault.ImageFault.{ImageFault}
use Rattle.paged_memory.specs.declared.fault.ImageFault.TheVariants.{BadHeader, BadLine, OutOfOrder, TooManyPages, NoEnd, AfterEnd, SixtyFifthPage}
use Rattle.paged_memory.specs.Images.{Memory}
use Rattle.paged_memory.specs.KeyOrder.{key_cmp}
use Rattle.paged_memory.specs.declared.text_version.TextVersion.{TextVersion}
use Rattle.paged_memory.specs.declared.text_version.TextVersion.TheVariants.{One, Two}
use Rattle.paged_memory.specs.TextVersions.{header, most_in}
use Rattle.paged_memory.specs.ImageText.{end_line, IsImage}
use Rattle.paged_memory.specs.ImageFaults.{Begins, FirstOf, NoFault, IsAboveAll, IsLineFault, IsAnswer}
use Rattle.paged_memory.proofs.ImageViews.{Entries, Sorted, true_of}
use Rattle.paged_memory.proofs.Reading.{line_of, Fits}
use Rattle.paged_memory.proofs.Places.{is_less}
use Rattle.paged_memory.proofs.PageLineLaws.{same_entry, not_end}

abbrev Lines : Type 0
Lines = List (List ℕ)

abbrev Answer : Type 0
Answer = Result Memory ImageFault

abbrev failed : ImageFault → Answer
failed fault = Err fault

-- ---- how reading stops behind the page lines of an image

abbrev Ends : Memory → Lines → Answer → Type 0
Ends m [] a = a ≡ Ok m
Ends m (line ∷ rest) a = a ≡ Err AfterEnd

abbrev Stop : TextVersion → Memory → Lines → Answer → Type 0
Stop v m [] a = a ≡ Err NoEnd
Stop v m (line ∷ rest) a = ((line ≡ end_line) × Ends m rest a) ⊎ ((fault : ImageFault) × IsLineFault v m line fault × (a ≡ Err fault))

-- the first of several faults is one
abbrev IsOne : (ImageFault → Type 0) → Type 0
IsOne Is = (f g : ImageFault) → Is f → Is g → f ≡ g

none_is_one : IsOne NoFault
none_is_one f g p q = absurd p

first_is_one : (Applies : Type 0) (this : ImageFault) (Rest : ImageFault → Type 0) → IsOne Rest → IsOne (FirstOf Applies this Rest)
first_is_one Applies this Rest one f g (inl p) (inl q) = p.1 ∙ sym q.1
first_is_one Applies this Rest one f g (inl p) (inr q) = absurd (q.0 p.0)
first_is_one Applies this Rest one f g (inr p) (inl q) = absurd (p.0 q.0)
first_is_one Applies this Rest one f g (inr p) (inr q) = one f g p.1 q.1

same_fault : (v : TextVersion) (m : Memory) (line : List ℕ) (f g : ImageFault) → IsLineFault v m line f → IsLineFault v m line g → f ≡ g
same_fault v m line f g p q = first_is_one _ _ _ (first_is_one _ _ _ (first_is_one _ _ _ none_is_one)) f g p.1 q.1

same_end : (m : Memory) (rest : Lines) (a b : Answer) → Ends m rest a → Ends m rest b → a ≡ b
same_end m [] a b p q = p ∙ sym q
same_end m (line ∷ rest) a b p q = p ∙ sym q

same_stop : (v : TextVersion) (m : Memory) (rest : Lines) (a b : Answer) → Stop v m rest a → Stop v m rest b → a ≡ b
same_stop v m [] a b p q = p ∙ sym q
same_stop v m (line ∷ rest) a b (inl p) (inl q) = same_end m rest a b p.1 q.1
same_stop v m (line ∷ rest) a b (inl p) (inr q) = absurd (q.1.0 p.0)
same_stop v m (line ∷ rest) a b (inr p) (inl q) = absurd (p.1.0 q.0)
same_stop v m (line ∷ rest) a b (inr p) (inr q) = p.2 ∙ ap failed (same_fault v m line p.0 q.0 p.1 q.1) ∙ sym q.2

-- ---- reading doesn't stop before a page line that goes on

no_first : (Applies : Type 0) (this : ImageFault) (Rest : ImageFault → Type 0) → ¬ Applies → ((f : ImageFault) → ¬ (Rest f)) → (f : ImageFault) → ¬ (FirstOf Applies this Rest f)
no_first Applies this Rest not later f (inl p) = not p.0
no_first Applies this Rest not later f (inr p) = later f p.1

goes_on : (v : TextVersion) (m : Memory) (e : Key × List ℕ) (rest : Lines) (a : Answer) → Fits e → IsAboveAll m e.0 → finmap.len m < most_in v → Stop v m (line_of e ∷ rest) a → ⊥
goes_on v m e rest a fits above room (inl end) = not_end e.0 e.1 fits end.0
goes_on v m e rest a fits above room (inr stop) =
    no_first _ _ _ (λ bad. bad (e.0, e.1, (fits, refl)))
    (no_first _ _ _ (λ late.
    let same = same_entry e.0 late.0 e.1 late.1 fits late.2.0 late.2.1 in
    late.3 (subst (IsAboveAll m) same.0 above))
    (no_first _ _ _ (λ filled. omega (arith, filled, room)) (λ f none. none)))
    stop.0 stop.1.1

-- ---- two ways to read the same lines as page lines and a rest

abbrev Longer : Entries → Lines → Entries → Lines → Type 0
Longer es r fs s = (more : Entries) × (fs ≡ es ++ more) × (r ≡ map line_of more ++ s)

longer_more : (e : Key × List ℕ) (es fs : Entries) (r s : Lines) → Longer es r fs s → Longer (e ∷ es) r (e ∷ fs) s
longer_more e es fs r s l = (l.0, ap (λ x. e ∷ x) l.1, l.2)

compare : (es fs : Entries) (r s : Lines) → AllByRecursion Fits es → AllByRecursion Fits fs → map line_of es ++ r ≡ map line_of fs ++ s → Longer es r fs s ⊎ Longer fs s es r
compare [] fs r s a b e = inl (fs, refl, e)
compare (x ∷ es) [] r s a b e = inr (x ∷ es, refl, sym e)
compare (x ∷ es) (y ∷ fs) r s a b e =
    let firsts : line_of x ≡ line_of y = cc in
    let rests : map line_of es ++ r ≡ map line_of fs ++ s = cc in
    let same = same_entry x.0 y.0 x.1 y.1 a.0 b.0 firsts in
    let one : x ≡ y = λ i. (same.0 i, same.1 i) in
    elim (compare es fs r s a.1 b.1 rests) [
      | inl l ↦ inl (subst (λ (z : Key × List ℕ). Longer (x ∷ es) r (z ∷ fs) s) one (longer_more x es fs r s l))
      | inr l ↦ inr (subst (λ (z : Key × List ℕ). Longer (z ∷ fs) s (x ∷ es) r) one (longer_more x fs es s r l))
    ]

below_at : (k : Key) (es more : Entries) (e : Key × List ℕ) → below_all key_cmp k (es ++ e ∷ more) ≡ true → key_cmp k e.0 ≡ Less
below_at k [] more e h = is_less _ (and_parts (is_lt (key_cmp k e.0)) (below_all key_cmp k more) h).0
below_at k (x ∷ es) more e h = below_at k es more e (and_parts (is_lt (key_cmp k x.0)) (below_all key_cmp k (es ++ e ∷ more)) h).1

above_at : (es more : Entries) (e : Key × List ℕ) → Sorted (es ++ e ∷ more) → AllByRecursion (λ x. key_cmp x.0 e.0 ≡ Less) es
above_at [] more e h = tt
above_at (x ∷ es) more e h =
    let parts = and_parts (below_all key_cmp x.0 (es ++ e ∷ more)) (finmap.is_sorted key_cmp (es ++ e ∷ more)) h in
    (below_at x.0 es more e parts.0, above_at es more e parts.1)

fits_at : (es more : Entries) (e : Key × List ℕ) → AllByRecursion Fits (es ++ e ∷ more) → Fits e
fits_at [] more e h = h.0
fits_at (x ∷ es) more e h = fits_at es more e h.1

sorted_entries : (m : Memory) → Sorted (finmap.entries m)
sorted_entries m = true_of _ (finmap.entries_sorted m)

-- one way that goes further has stopped too late, or both stop at one place
later : (v : TextVersion) (m n : Memory) (r s : Lines) (a b : Answer) → IsImage n → finmap.len n ≤ most_in v → Stop v m r a → Stop v n s b → Longer (finmap.entries m) r (finmap.entries n) s → a ≡ b
later v m n r s a b image few p q ([], same, rest) =
    let one : n ≡ m = finmap.same_entries_map n m (same ∙ append-nil (finmap.entries m)) in
    same_stop v m s a b (subst (λ x. Stop v m x a) rest p) (subst (λ x. Stop v x s b) one q)
later v m n r s a b image few p q (e ∷ more, same, rest) =
    let es = finmap.entries m in
    let sorted : Sorted (es ++ e ∷ more) = subst Sorted same (sorted_entries n) in
    let fits : Fits e = fits_at es more e (subst (AllByRecursion Fits) same image.each) in
    let above : IsAboveAll m e.0 = All-from_recursion (λ x. key_cmp x.0 e.0 ≡ Less) es (above_at es more e sorted) in
    let room : finmap.len m < most_in v = omega (arith, finmap.len-entries m, finmap.len-entries n, ap (λ (l : Entries). length l) same, length-append es (e ∷ more), few) in
    absurd (goes_on v m e (map line_of more ++ s) a fits above room (subst (λ x. Stop v m x a) rest p))

tails : (x y : List ℕ) (a b : Lines) → x ∷ a ≡ y ∷ b → a ≡ b
tails x y a b e = cc

firsts : (x y : List ℕ) (a b : Lines) → x ∷ a ≡ y ∷ b → x ≡ y
firsts x y a b e = cc

-- two versions differ in the last byte of their first lines
same_version : (v w : TextVersion) → header v ≡ header w → v ≡ w
unfolding header
same_version One One e = refl
same_version One Two e = let last = ap (λ line. slice_index line 13) e in absurd (omega (arith, last))
same_version Two One e = let last = ap (λ line. slice_index line 13) e in absurd (omega (arith, last))
same_version Two Two e = refl

-- ---- every answer is one of these two

abbrev Stopped : Lines → Answer → Type 0
Stopped lines a = (v : TextVersion) × (m : Memory) × (rest : Lines) × Begins v lines m rest × Stop v m rest a

abbrev NoHeader : Lines → Answer → Type 0
NoHeader lines a = (a ≡ Err BadHeader) × ((v : TextVersion) (rest : Lines) → lines ≢ header v ∷ rest)

shown : (lines : Lines) (a : Answer) → IsAnswer lines a → Stopped lines a ⊎ NoHeader lines a
shown lines (Ok m) h = inl (h.version, m, end_line ∷ [], record { lines_are = h.lines_are; image = h.image; room = h.room }, inl (refl, refl))
shown lines (Err BadHeader) h = inr (refl, h)
shown lines (Err (BadLine n)) h = inl (h.0, h.1, h.2 ∷ h.3, h.4, inr (BadLine n, h.5, refl))
shown lines (Err (OutOfOrder n)) h = inl (h.0, h.1, h.2 ∷ h.3, h.4, inr (OutOfOrder n, h.5, refl))
shown lines (Err TooManyPages) h = inl (h.0, h.1, h.2 ∷ h.3, h.4, inr (TooManyPages, h.5, refl))
shown lines (Err SixtyFifthPage) h = inl (h.0, h.1, h.2 ∷ h.3, h.4, inr (SixtyFifthPage, h.5, refl))
shown lines (Err NoEnd) h = inl (h.0, h.1, [], h.2, refl)
shown lines (Err AfterEnd) h = inl (h.0, h.1, end_line ∷ h.2 ∷ h.3, h.4, inl (refl, refl))

agree : (lines : Lines) (a b : Answer) → Stopped lines a ⊎ NoHeader lines a → Stopped lines b ⊎ NoHeader lines b → a ≡ b
agree lines a b (inl p) (inl q) =
    let lines_same = sym p.3.lines_are ∙ q.3.lines_are in
    let same = tails (header p.0) (header q.0) (map line_of (finmap.entries p.1) ++ p.2) (map line_of (finmap.entries q.1) ++ q.2) lines_same in
    let one = same_version p.0 q.0 (firsts (header p.0) (header q.0) (map line_of (finmap.entries p.1) ++ p.2) (map line_of (finmap.entries q.1) ++ q.2) lines_same) in
    let stop : Stop q.0 p.1 p.2 a = subst (λ v. Stop v p.1 p.2 a) one p.4 in
    let few : finmap.len p.1 ≤ most_in q.0 = subst (λ v. finmap.len p.1 ≤ most_in v) one p.3.room in
    elim (compare (finmap.entries p.1) (finmap.entries q.1) p.2 q.2 p.3.image.each q.3.image.each same) [
      | inl l ↦ later q.0 p.1 q.1 p.2 q.2 a b q.3.image q.3.room stop q.4 l
      | inr l ↦ sym (later q.0 q.1 p.1 q.2 p.2 b a p.3.image few q.4 stop l)
    ]
agree lines a b (inl p) (inr q) = absurd (q.1 p.0 _ p.3.lines_are)
agree lines a b (inr p) (inl q) = absurd (p.1 q.0 _ q.3.lines_are)
agree lines a b (inr p) (inr q) = p.0 ∙ sym q.0

pub same_answer : (lines : Lines) (a b : Answer) → IsAnswer lines a → IsAnswer lines b → a ≡ b
same_answer lines a b p q = agree lines a b (shown lines a p) (shown lines b q)
