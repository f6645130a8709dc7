use Rattle.std.proofs.Common.{◌≡◌, ◌+◌, ◌∷◌, ◌++◌, [], Option, Some, None, refl, sym, subst, ◌∙◌}
use Rattle.firmware_api.specs.declared.half.HalfBytes.{HalfBytes}
use Rattle.firmware_api.specs.SavedConversations.{IsInFront}
use Rattle.firmware_api.proofs.ReadingRoom.{in_front}
use Rattle.firmware_api.proofs.port.kept.put_half.Goals as goal

is_there : {A : Type 0} (a : A) → Some a ≡ None → ⊥
is_there a none = cc

pub returns-in-Some-clause-front : goal.returns-in-Some-clause-front
returns-in-Some-clause-front c room =
    let old = c.args.kept.now in
    let count = old.numbers.half_count in
    let few = room (λ none. is_there c.in-Some.half (sym c.in-Some.is ∙ none)) in
    subst (λ (half : Option HalfBytes). IsInFront half count old.halves (count + 1) (c.in-Some.half ∷ (c.copy_from_slice.new.self ++ []))) (sym c.in-Some.is)
    (refl, in_front c.in-Some.half c.copy_from_slice.new.self old.halves count c.copy_from_slice.ensures.after few)
