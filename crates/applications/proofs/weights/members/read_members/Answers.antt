use Rattle.std.proofs.Common.{◌≡◌, ◌<◌, Some, string_bytes, sym}
use Rattle.toml.specs.View.{view, members_view, table_view}
use Rattle.applications.specs.WeightKeys.{named_by}
use Rattle.applications.specs.WeightTables.{Member, members_of}
use Rattle.applications.proofs.TableMembers.{reads_start, reads_more, reads_weights}
use Rattle.applications.proofs.weights.members.read_members.Goals as goal

pub loop-key-init : goal.loop-key-init
loop-key-init c = rw c.into_iter-key-iterator.ensures.into_iter_gives.0 (reads_start c.args.table (members_of (table_view c.args.members.now)))

pub loop-key-preserved : goal.loop-key-preserved
loop-key-preserved c =
    let member : Member = (string_bytes c.in-Some.key.now, view c.in-Some.value.now) in
    let number = c.in-Some-named_by.number in
    let reads = rw c.in-Some.ensures.steps at c.loop-key.invariant in
    let named : named_by c.args.table member.0 ≡ Some number = sym (rw c.as_bytes.ensures.value at c.in-Some-named_by.ensures.number) in
    let below : number < 256 = rw (sym c.in-Some-named_by.ensures.number) at c.in-Some-named_by.ensures.byte in
    let new = rw c.from.ensures at c.if-listed-from.false in
    rw (c.from-in-loop-key.ensures, c.from-in-loop-key-2.ensures)
    (reads_more c.args.table (members_of (table_view c.args.members.now)) (members_of (members_view c.next.new.self)) _ _ member reads number named below new
    c.in-Some-weight_of_value.weight (sym c.in-Some-weight_of_value.ensures))

pub returns-clause-answer : goal.returns-clause-answer
returns-clause-answer c =
    let reads = rw c.in-None.ensures.steps.0 at c.loop-key.invariant in
    (reads.fault_is, reads_weights c.args.table (members_of (table_view c.args.members.now)) _ _ reads)
