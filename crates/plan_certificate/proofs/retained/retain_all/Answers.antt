use Rattle.std.proofs.Common.{◌≡◌, ◌+◌, ◌++◌, ◌∷◌, [], ℕ, List, length, take, sym, subst, ap, ◌∙◌, append-nil, append_assoc, arith}
use Rattle.std.proofs.Math.Seq.{take-length}
use Rattle.std.proofs.lemmas.List.{take_more}
use Rattle.plan_certificate.specs.declared.moves.Move.{Move}
use Rattle.plan_certificate.specs.Moves.{AreHeaviest}
use Rattle.plan_certificate.proofs.RetainedMoves.{heaviest_more}
use Rattle.plan_certificate.proofs.retained.retain_all.Goals as goal

pub loop-one-init : goal.loop-one-init
loop-one-init c = record {
  heaviest = λ before are. subst (λ (moves : List Move). AreHeaviest moves c.args.retained.now.items) (sym (append-nil before)) are;
  few = omega arith;
}

pub retain-requires : goal.retain-requires
retain-requires c = omega (arith, c.loop-one.invariant.few, c.loop-one-test.true, c.requires)

pub loop-one-preserved : goal.loop-one-preserved
loop-one-preserved c =
    let moves = c.args.moves.now in
    let index = c.loop-one.one-index in
    let one = c.one-item.result in
    let more : take (index + 1) moves ≡ take index moves ++ one ∷ [] = take_more moves index one c.loop-one-test.true ∙ ap (λ (m : Move). take index moves ++ m ∷ []) (sym c.one-item.is) in
    record {
      heaviest = λ before are.
          subst (λ (ms : List Move). AreHeaviest ms c.retain.new.retained.items) (append_assoc before (take index moves) (one ∷ []) ∙ ap (λ (ms : List Move). before ++ ms) (sym more))
          (heaviest_more (before ++ take index moves) c.loop-one.retained.items c.retain.new.retained.items one (c.loop-one.invariant.heaviest before are) c.retain.ensures.among c.retain.ensures.outweighed c.retain.ensures.added c.retain.ensures.few);
      few = omega (arith, c.loop-one.invariant.few, c.retain.ensures.few);
    }

pub returns-clause-heaviest : goal.returns-clause-heaviest
returns-clause-heaviest c before are =
    let end : c.loop-one.one-index ≡ length c.args.moves.now = omega (arith, c.loop-one-test.false, c.loop-one.auto.one-index-end) in
    let whole : take c.loop-one.one-index c.args.moves.now ≡ c.args.moves.now = ap (λ (n : ℕ). take n c.args.moves.now) end ∙ take-length c.args.moves.now in
    subst (λ (ms : List Move). AreHeaviest (before ++ ms) c.loop-one.retained.items) whole (c.loop-one.invariant.heaviest before are)
