use Rattle.std.proofs.Common.{◌≡◌, sym, ◌∙◌}
use Rattle.std.specs.declared.cmp.Ordering.TheVariants.{Greater}
use Rattle.paged_memory.specs.KeyOrder.{key_cmp}
use Rattle.paged_memory.proofs.KeyLaws.{keys_total, keys_apart}
use Rattle.paged_memory.proofs.Places.{absent_below, found_here, put_here, put_later, find_later}
use Rattle.paged_memory.proofs.entries.place_of.Goals as goal

pub returns-in-Less-clause-absent : goal.returns-in-Less-clause-absent
returns-in-Less-clause-absent c =
    let e = c.index-entries-place in
    absent_below key_cmp c.args.key c.args.entries.now c.loop-place.place e.result c.loop-place-test.true e.is keys_total c.requires (sym c.order_of.ensures ∙ c.in-Less.is) c.loop-place.invariant.found

pub returns-in-Equal-clause-found : goal.returns-in-Equal-clause-found
returns-in-Equal-clause-found c =
    let e = c.index-entries-place in
    found_here key_cmp c.args.key c.args.entries.now c.loop-place.place e.result c.loop-place-test.true e.is (sym c.order_of.ensures ∙ c.in-Equal.is) c.loop-place.invariant.found

pub returns-in-Equal-clause-over : goal.returns-in-Equal-clause-over
returns-in-Equal-clause-over c = λ page.
    let e = c.index-entries-place in
    put_here key_cmp c.args.key c.args.entries.now c.loop-place.place e.result c.loop-place-test.true e.is page (c.loop-place.invariant.placed page) keys_apart (sym c.order_of.ensures ∙ c.in-Equal.is)

pub loop-place-preserved : goal.loop-place-preserved
loop-place-preserved c =
    let e = c.index-entries-place in
    let greater : key_cmp c.args.key e.result.0 ≡ Greater = sym c.order_of.ensures ∙ c.in-Greater.is in
    record {
      found = find_later key_cmp c.args.key c.args.entries.now c.loop-place.place e.result c.loop-place-test.true e.is greater c.loop-place.invariant.found;
      placed = λ page. put_later key_cmp c.args.key c.args.entries.now c.loop-place.place e.result c.loop-place-test.true e.is page (c.loop-place.invariant.placed page) greater;
    }
