use Rattle.std.proofs.Common.{◌≡◌, ◌≢◌, ◌+◌, ◌-◌, ◌*◌, ◌/◌, ◌%◌, ◌<◌, ◌≤◌, ℕ, List, Option, Some, set, refl, sym, ap, ◌∙◌, arith}
use Rattle.plan_certificate.specs.Bounds.{Bounded, IsStated, bounds_of, potential_at}
use Rattle.plan_certificate.proofs.FiveBytes.{bounds_set, number_by, stated_by}
use Rattle.plan_certificate.proofs.certificate.bounds.Bounds.put.Goals as goal

pub returns-then-potential-lt-LARGE_POTENTIAL : goal.returns-then-potential-lt-LARGE_POTENTIAL
returns-then-potential-lt-LARGE_POTENTIAL c =
    let text = c.self.inside.text.now in
    let place : ℕ = c.args.place in
    let potential : ℕ = c.args.potential in
    let whole : potential % 4294967296 + 4294967296 * (potential / 4294967296 + 2 - 2) ≡ potential = omega arith in
    let number = number_by text (potential % 4294967296) (potential / 4294967296 + 2) (λ none. omega (arith, none)) (λ large. omega (arith, large)) ∙ ap Some whole in
    let more = bounds_set text c.self.inside.low c.self.inside.high place (potential % 4294967296) (potential / 4294967296 + 2) c.self.invariant c.requires.place potential number in
    let both = more ∙ ap (λ (b : Bounded). set b.bounds place (Some potential)) c.self.view_is in
    λ i. record { text = (c.self.view_is i).text; bounds = both i }

pub returns-else-potential-lt-LARGE_POTENTIAL : goal.returns-else-potential-lt-LARGE_POTENTIAL
returns-else-potential-lt-LARGE_POTENTIAL c =
    let text = c.self.inside.text.now in
    let place : ℕ = c.args.place in
    let potential : ℕ = c.args.potential in
    let same = ap (λ (b : Bounded). potential_at b.text c.args.at) c.self.view_is ∙ c.requires.same c.if-potential-lt-LARGE_POTENTIAL.false in
    let more = bounds_set text c.self.inside.low c.self.inside.high place c.args.at 1 c.self.invariant c.requires.place potential (stated_by text c.args.at 1 refl ∙ ap Some same) in
    let both = more ∙ ap (λ (b : Bounded). set b.bounds place (Some potential)) c.self.view_is in
    λ i. record { text = (c.self.view_is i).text; bounds = both i }
