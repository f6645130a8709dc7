-- A module that was left alone for long enough is read anew.
use Rattle.std.proofs.Common.{◌≡◌, ◌≤◌, ◌∙◌, ℕ, Bool, true, false, ◌∷◌, refl, sym, ap, subst, arith}
use Rattle.std.specs.Prelude.{◌==◌, ◌&&◌, not, nat_le, if◌then◌else◌}
use Rattle.port_manager.specs.declared.deciding.LeftBecause.{LeftBecause}
use Rattle.port_manager.specs.declared.port.Outstanding.{Outstanding}
use Rattle.port_manager.specs.declared.port.Port.{Port}
use Rattle.port_manager.specs.declared.port.Stage.{Stage}
use Rattle.port_manager.specs.declared.port.Stage.TheVariants as stages
use Rattle.port_manager.specs.Jobs.{reading}
use Rattle.port_manager.specs.LeftAlone.{IsReadAgain}
use Rattle.port_manager.specs.Ports.{begun_in, is_overdue, is_overdue_in, next_at, rechecked, reconsidered, reconsidered_by, restarted}
use Rattle.port_manager.specs.Stories.{reconsider}
use Rattle.port_manager.proofs.Asking.{never_stops}

reached : (now moment : ℕ) → moment ≤ now → nat_le moment now ≡ true
reached now moment le = grind (arith, le)

is_due : (port : Port) (reason : LeftBecause) (now : ℕ) → port.stage ≡ stages.Left reason → port.held ≡ false → (port.times.recheck == 0) ≡ false → port.recheck_at ≤ now → is_overdue port now ≡ true
is_due port reason now is free on le =
    ap (λ (stage : Stage). is_overdue_in stage port now) is
    ∙ ap (λ (held : Bool). not held && not (port.times.recheck == 0) && nat_le port.recheck_at now) free
    ∙ ap (λ (never : Bool). not never && nat_le port.recheck_at now) on
    ∙ reached now port.recheck_at le

pub is_read_again : IsReadAgain
is_read_again story port reason now (times, ran) is nothing free on le due =
    let anew : rechecked now port ≡ reconsidered port = ap (λ (overdue : Bool). if overdue then reconsidered port else port) (is_due port reason now is free on le) in
    let begun : reconsidered port ≡ restarted (record port { vain = false }) = ap (λ (o : Outstanding). reconsidered_by o (record port { vain = false })) nothing in
    let stage : (reconsidered port).stage ≡ stages.Working (reading false) = ap (λ (p : Port). p.stage) begun ∙ ap begun_in is in
    let (op, asks) = never_stops (reconsider ∷ story) (reconsidered port) (reading false) now (times, (port, ran, refl)) stage
    (ap (λ (p : Port). p.outstanding) begun ∙ nothing)
    (ap (λ (p : Port). p.held) begun ∙ free)
    (subst (λ (moment : ℕ). moment ≤ now) (sym (ap (λ (p : Port). p.due) begun)) due) in
    (op, ap (λ (p : Port). next_at p now) anew ∙ asks)
