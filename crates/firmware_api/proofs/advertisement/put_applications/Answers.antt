use Rattle.std.proofs.Common.{sym, ◌∙◌, arith}
use Rattle.std.proofs.lemmas.List.{ext_get_or}
use Rattle.std.proofs.lemmas.List.FromFn.{get_or-map-range_with_len}
use Rattle.firmware_api.specs.Advertisements.{application_at, applications_of, no_application}
use Rattle.firmware_api.proofs.advertisement.put_applications.Goals as goal

pub returns : goal.returns
unfolding applications_of
returns c =
    let loop = c.loop-place in
    let at = application_at c.args.apps.now in
    ext_get_or no_application loop.applications (applications_of c.args.apps.now) loop.invariant.len
    (λ k below. loop.invariant.each k (omega (arith, below, loop.invariant.len)) ∙ sym (get_or-map-range_with_len at 0 15 k k no_application (omega (arith, below, loop.invariant.len)) (omega arith)))
