use Rattle.std.proofs.Common.{◌≡◌, [], Result, Ok, Err, refl, sym, ap, subst, ◌∙◌, arith}
use Rattle.std.specs.Prelude.{IsOk, IsErr, OnOk}
use Rattle.std.specs.FinMap as finmap
use Rattle.firmware_api.specs.declared.half.HalfBytes.{HalfBytes}
use Rattle.firmware_api.proofs.HalfMemories.{has_room, memory_with, no_halves, same_insert}
use Rattle.firmware_api.proofs.half.put_halves.Goals as goal

is_ok : {A B : Type 0} (result : Result A B) → (IsErr result → ⊥) → IsOk result
is_ok (Ok value) never = refl
is_ok (Err fault) never = absurd (never refl)

pub loop-place-init : goal.loop-place-init
loop-place-init g c = c.requires.empty ∙ sym (no_halves c.args.halves.now)

pub unwrap-requires : goal.unwrap-requires
unwrap-requires g c =
    let room = has_room c.args.halves.now c.loop-place.place g.row.MOST c.loop-place-test.true c.loop-place.auto.place c.requires.few in
    is_ok c.put.result (λ refused. absurd (omega (arith, room, ap finmap.len c.loop-place.invariant, (c.put.ensures.refused.0 refused).0)))

pub loop-place-preserved : goal.loop-place-preserved
loop-place-preserved g c =
    let none : HalfBytes = record { device = 0; upper = 0; bank = 0; page = 0; bytes = [] } in
    let put = subst (λ result. OnOk result (c.put.new.self ≡ finmap.insert c.loop-place.image c.key.result c.from.result)) c.unwrap.ensures c.put.ensures.ok in
    put ∙ same_insert c.loop-place.invariant c.key.ensures c.from.ensures
    ∙ sym (memory_with c.args.halves.now c.loop-place.place none c.loop-place-test.true c.loop-place.auto.place)
