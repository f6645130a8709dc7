use Rattle.std.proofs.Common.{◌≡◌, ◌≤◌, get_or, ap, ◌∙◌, arith}
use Rattle.std.proofs.lemmas.List.{get_or_default}
use Rattle.plan_certificate.specs.declared.moves.Move.{Move}
use Rattle.plan_certificate.proofs.RetainedMoves.{all_themselves, retained_added, replaced_added, replaced_outweighed}
use Rattle.plan_certificate.proofs.retained.replace_lighter.Goals as goal

pub returns-then-old-new-clause-outweighed : goal.returns-then-old-new-clause-outweighed
returns-then-old-new-clause-outweighed c =
    let moves = c.args.retained.now in
    let place = c.args.place in
    let new = c.args.new.now in
    let old : c.index-retained-place.result ≡ get_or moves place new = c.index-retained-place.is ∙ get_or_default moves place c.index-retained-place.result new c.requires.place in
    let lighter : (get_or moves place new).weight ≤ new.weight = omega (arith, c.if-old-new.true, ap (λ (m : Move). m.weight) old) in
    replaced_outweighed moves place new c.requires.place c.requires.lanes lighter

pub returns-then-old-new-clause-added : goal.returns-then-old-new-clause-added
returns-then-old-new-clause-added c = replaced_added c.args.retained.now c.args.place c.args.new.now c.requires.place

pub returns-else-old-new-clause-outweighed : goal.returns-else-old-new-clause-outweighed
returns-else-old-new-clause-outweighed c = all_themselves c.args.retained.now

pub returns-else-old-new-clause-added : goal.returns-else-old-new-clause-added
returns-else-old-new-clause-added c =
    let moves = c.args.retained.now in
    let place = c.args.place in
    let new = c.args.new.now in
    let old : c.index-retained-place.result ≡ get_or moves place new = c.index-retained-place.is ∙ get_or_default moves place c.index-retained-place.result new c.requires.place in
    let heavier : new.weight ≤ (get_or moves place new).weight = omega (arith, c.if-old-new.false, ap (λ (m : Move). m.weight) old) in
    retained_added moves place new c.requires.place c.requires.lanes heavier
