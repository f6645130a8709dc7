use Rattle.std.proofs.Common.{◌≡◌, ◌≤◌, true, length, refl, sym, ap, ◌∙◌, arith}
use Rattle.std.proofs.lemmas.List.{drop_all}
use Rattle.std.specs.FinMap.{find}
use Rattle.std.specs.Ordering.{is_eq}
use Rattle.paged_memory.specs.KeyOrder.{key_cmp}
use Rattle.paged_memory.proofs.ImageViews.{Entries, got}
use Rattle.paged_memory.proofs.Places.{find_passed, found_here, is_equal}
use Rattle.paged_memory.proofs.entries.page_at.Goals as goal

pub returns-then-is_same : goal.returns-then-is_same
returns-then-is_same c =
    let e = c.index-entries-place in
    let same : is_eq (key_cmp c.args.key e.result.0) ≡ true = sym c.is_same.ensures ∙ c.if-is_same.true in
    sym (found_here key_cmp c.args.key c.args.entries.now c.loop-place.place e.result c.loop-place-test.true e.is (is_equal _ same) c.loop-place.invariant c.index-entries-place-then-is_same.result)
    ∙ got c.args.entries.now _ c.args.key c.requires refl

pub loop-place-preserved : goal.loop-place-preserved
loop-place-preserved c =
    let e = c.index-entries-place in
    find_passed key_cmp c.args.key c.args.entries.now c.loop-place.place e.result c.loop-place-test.true e.is (sym c.is_same.ensures ∙ c.if-is_same.false) c.loop-place.invariant

pub returns : goal.returns
returns c =
    let all : length c.args.entries.now ≤ c.loop-place.place = omega (arith, c.loop-place-test.false) in
    ap (λ (es : Entries). find key_cmp c.args.key es) (sym (drop_all c.loop-place.place c.args.entries.now all)) ∙ c.loop-place.invariant
    ∙ got c.args.entries.now _ c.args.key c.requires refl
