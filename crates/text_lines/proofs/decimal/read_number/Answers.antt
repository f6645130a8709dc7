use Rattle.std.proofs.Common.{◌≡◌, length, rules, arith}
use Rattle.text_lines.proofs.Decimals.{all_read, none_read, not_read, one_read, starts_no_number}
use Rattle.text_lines.proofs.decimal.read_number.Goals as goal

pub returns-then-not-begins_decimal : goal.returns-then-not-begins_decimal
returns-then-not-begins_decimal c = starts_no_number c.args.word.now (λ starts. let yes = c.begins_decimal.ensures.1 starts in search rules)

pub loop-byte-init : goal.loop-byte-init
loop-byte-init c = none_read c.args.word.now

pub loop-byte-preserved : goal.loop-byte-preserved
loop-byte-preserved c = one_read c.args.word.now c.loop-byte.byte-index c.loop-byte.number c.loop-byte-test.true c.loop-byte.invariant c.in-Some.more c.in-Some.ensures.0 c.in-Some.ensures.1 c.in-Some.ensures.2

pub returns-in-None : goal.returns-in-None
returns-in-None c = not_read c.args.word.now c.loop-byte.byte-index c.loop-byte.number c.loop-byte-test.true c.loop-byte.invariant c.in-None.ensures

pub returns : goal.returns
returns c =
    let end : c.loop-byte.byte-index ≡ length c.args.word.now = omega (arith, c.loop-byte-test.false, c.loop-byte.auto.byte-index-end) in
    (c.loop-byte.invariant.small, all_read c.args.word.now c.loop-byte.byte-index c.loop-byte.number (c.begins_decimal.ensures.0 (search rules)) end c.loop-byte.invariant)
