use Rattle.std.proofs.Common.{◌≡◌, suc, ◌+◌, ◌-◌, true, false, refl, sym, ap, ◌∙◌, append_assoc, append-nil, arith}
use Rattle.std.proofs.lemmas.Bool.Decides.{nat_tests}
use Rattle.applications.specs.Descriptors.{is_listed}
use Rattle.applications.proofs.Listed.{apps_from-listed, apps_from-ended}
use Rattle.applications.proofs.descriptors.apps_in.Goals as goal

pub returns-then-app : goal.returns-then-app
returns-then-app c =
    let loop = c.loop-before in
    let more : 15 - loop.before ≡ suc (15 - (loop.before + 1)) = omega arith in
    let ended : is_listed c.app_at-app.result ≡ false = grind (arith, nat_tests) in
    let none = apps_from-ended c.args.image.now (loop.before + 1) (15 - (loop.before + 1)) (ap is_listed (sym c.app_at-app.ensures) ∙ ended) in
    rw (loop.invariant.read, more, none, append-nil) refl

pub loop-before-preserved : goal.loop-before-preserved
loop-before-preserved c =
    let loop = c.loop-before in
    let more : 15 - loop.before ≡ suc (15 - (loop.before + 1)) = omega arith in
    let listed : is_listed c.app_at-app.result ≡ true = grind (arith, nat_tests) in
    let next = apps_from-listed c.args.image.now (loop.before + 1) (15 - (loop.before + 1)) (ap is_listed (sym c.app_at-app.ensures) ∙ listed) in
    record {
      read = rw (loop.invariant.read, more, next, c.push.ensures.items, append_assoc, c.app_at-app.ensures) refl;
      count = omega (arith, c.push.ensures.len);
    }
