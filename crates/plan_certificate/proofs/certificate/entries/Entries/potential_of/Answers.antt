use Rattle.std.proofs.Common.{◌≡◌, ◌+◌, ◌*◌, ◌<◌, ◌≤◌, ℕ, List, Option, None, get_or, sym, ap, ◌∙◌, arith}
use Rattle.std.specs.List.{find}
use Rattle.std.specs.Option.{option_map}
use Rattle.plan_certificate.specs.declared.certificate.Entry.{Entry}
use Rattle.plan_certificate.specs.EntryPlaces.{Listed, entries_of}
use Rattle.plan_certificate.specs.States.{state_place}
use Rattle.plan_certificate.specs.Verdicts.{potential_of}
use Rattle.plan_certificate.proofs.EntryPlaces.{past_all, told_at}
use Rattle.plan_certificate.proofs.Lookups.{is_there}
use Rattle.plan_certificate.proofs.certificate.entries.Entries.potential_of.Goals as goal

abbrev told_in : List Entry → ℕ → Option ℕ
told_in entries place = option_map (λ (entry : Entry). entry.potential) (find (is_there place) entries)

pub returns-then-state-gt-HOST_LANES : goal.returns-then-state-gt-HOST_LANES
unfolding potential_of
returns-then-state-gt-HOST_LANES g c =
    let bounds = c.self.inside.bounds.bounds in
    let place : ℕ = state_place c.args.state in
    sym (ap (λ (l : Listed). told_in l.entries place) (sym c.self.view_is) ∙ told_at bounds place ∙ past_all bounds place (omega (arith, c.self.invariant.all, c.if-state-gt-HOST_LANES.true)))

pub returns : goal.returns
unfolding potential_of
returns g c =
    let bounds = c.self.inside.bounds.bounds in
    c.at.ensures ∙ ap (λ (place : ℕ). get_or bounds place None) c.place.ensures
    ∙ sym (told_at bounds (state_place c.args.state)) ∙ ap (λ (l : Listed). told_in l.entries (state_place c.args.state)) c.self.view_is
