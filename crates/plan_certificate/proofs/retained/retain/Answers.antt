use Rattle.std.proofs.Common.{List, sym, subst}
use Rattle.std.specs.List.{All}
use Rattle.plan_certificate.specs.declared.moves.Move.{Move}
use Rattle.plan_certificate.specs.Moves.{IsOutweighed}
use Rattle.plan_certificate.proofs.RetainedMoves.{AmongOrNew, pushed_added, pushed_among, pushed_outweighed}
use Rattle.plan_certificate.proofs.retained.retain.Goals as goal

pub returns-in-None-clause-among : goal.returns-in-None-clause-among
returns-in-None-clause-among c =
    let old = c.args.retained.now.items in
    subst (λ (moves : List Move). All (AmongOrNew old c.args.new.now) moves) (sym c.push.ensures.items) (pushed_among old c.args.new.now)

pub returns-in-None-clause-outweighed : goal.returns-in-None-clause-outweighed
returns-in-None-clause-outweighed c =
    let old = c.args.retained.now.items in
    subst (λ (moves : List Move). All (IsOutweighed moves) old) (sym c.push.ensures.items) (pushed_outweighed old c.args.new.now)

pub returns-in-None-clause-added : goal.returns-in-None-clause-added
returns-in-None-clause-added c =
    subst (λ (moves : List Move). IsOutweighed moves c.args.new.now) (sym c.push.ensures.items) (pushed_added c.args.retained.now.items c.args.new.now)
