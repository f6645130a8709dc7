use Rattle.std.proofs.Common.{◌≡◌, ℕ, ◌+◌, ◌-◌, List, length, take, drop, slice_set, sym, subst, rules, arith}
use Rattle.std.proofs.lemmas.List.{length-drop, length-replicate, take_all}
use Rattle.std.proofs.lemmas.Bool.Decides.{nat_tests}
use Rattle.text_lines.proofs.HexWords.{AreRead, all_read, more_left, no_digits, none_read, one_read, too_short}
use Rattle.text_lines.proofs.hexadecimal.read_hexadecimal.Goals as goal

pub loop-byte-init : goal.loop-byte-init
loop-byte-init g c = none_read g.row.N c.args.word.now _ (length-replicate g.row.N 0)

pub returns-in_default : goal.returns-in_default
returns-in_default g c = λ bytes len fits. too_short g.row.N c.args.word.now c.loop-byte.byte-items c.loop-byte.byte-index c.loop-byte.rest.now (omega (arith, c.loop-byte-test.true, c.loop-byte.invariant.len)) c.loop-byte.invariant c.in_default.len_below bytes len

pub returns-in_default-byte_of : goal.returns-in_default-byte_of
returns-in_default-byte_of g c = no_digits g.row.N c.args.word.now c.loop-byte.byte-items c.loop-byte.byte-index c.loop-byte.rest.now (omega (arith, c.loop-byte-test.true, c.loop-byte.invariant.len)) c.loop-byte.invariant c.in_default-byte_of.ensures

pub loop-byte-preserved : goal.loop-byte-preserved
loop-byte-preserved g c =
    let rest = c.loop-byte.rest.now in
    let one = one_read g.row.N c.args.word.now c.loop-byte.byte-items c.loop-byte.byte-index rest (omega (arith, c.loop-byte-test.true, c.loop-byte.invariant.len)) c.loop-byte.invariant c.in-Some.spelled (omega (arith, c.in-len2-up.len_at_least)) c.in-Some.ensures.1 in
    let after : take (length rest - 2) (drop 2 rest) ≡ drop 2 rest = take_all (length rest - 2) (drop 2 rest) (omega (arith, length-drop 2 rest)) in
    subst (λ (l : List ℕ). AreRead g.row.N c.args.word.now (slice_set c.loop-byte.byte-items c.loop-byte.byte-index c.in-Some.spelled) (c.loop-byte.byte-index + 1) l) (sym after) one

pub returns-then-is_empty : goal.returns-then-is_empty
returns-then-is_empty g c = all_read g.row.N c.args.word.now c.loop-byte.byte-items c.loop-byte.byte-index c.loop-byte.rest.now (omega (arith, c.loop-byte-test.false, c.loop-byte.invariant.len)) c.loop-byte.invariant (grind (arith, nat_tests))

pub returns-else-is_empty : goal.returns-else-is_empty
returns-else-is_empty g c = λ bytes len fits. more_left g.row.N c.args.word.now c.loop-byte.byte-items c.loop-byte.byte-index c.loop-byte.rest.now (omega (arith, c.loop-byte-test.false, c.loop-byte.invariant.len)) c.loop-byte.invariant (λ none. search rules) bytes len
