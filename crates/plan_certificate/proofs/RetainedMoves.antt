-- A list of moves in which a move replaces a lighter one on its lanes.
use Rattle.std.proofs.Common.{◌≡◌, ◌≢◌, ◌⊎◌, ℕ, ◌+◌, ◌<◌, ◌≤◌, List, [], ◌∷◌, ◌++◌, length, get_or, set, refl, sym, subst, ap, ◌∙◌, inl, inr, arith}
use Rattle.std.proofs.Common.{get_or-set_same, get_or-set_other}
use Rattle.std.specs.List.{All, Contains, HoldsAt}
use Rattle.std.proofs.Math.ListN.{length-set}
use Rattle.std.proofs.lemmas.Bool.{cases_eq}
use Rattle.std.proofs.lemmas.List.{get_or_default, length-append}
use Rattle.std.proofs.lemmas.List.Elements.{All-contains, All-contains_itself, All-push, All-weaker, Contains-append_left, Contains-get_or, Contains-push}
use Rattle.plan_certificate.specs.declared.moves.Move.{Move}
use Rattle.plan_certificate.specs.Moves.{AreHeaviest, HasLanesOf, IsOutweighed}

abbrev pub AmongOrNew : List Move → Move → Move → Type 0
AmongOrNew moves new one = Contains moves one ⊎ (one ≡ new)

pub itself : (moves : List Move) (move : Move) → Contains moves move → IsOutweighed moves move
itself moves move listed = record { other = move; listed = listed; lanes = record { host_lanes = refl; media_lanes = refl }; weighs = omega arith }

pub all_themselves : (moves : List Move) → All (IsOutweighed moves) moves
all_themselves moves = All-weaker (Contains moves) (IsOutweighed moves) (λ move listed. itself moves move listed) moves (All-contains_itself moves)

-- ---- at the end

pub pushed_added : (moves : List Move) (new : Move) → IsOutweighed (moves ++ new ∷ []) new
pushed_added moves new = itself (moves ++ new ∷ []) new (Contains-push moves new)

pub pushed_outweighed : (moves : List Move) (new : Move) → All (IsOutweighed (moves ++ new ∷ [])) moves
pushed_outweighed moves new =
    All-weaker (Contains moves) (IsOutweighed (moves ++ new ∷ [])) (λ move listed. itself (moves ++ new ∷ []) move (Contains-append_left moves (new ∷ []) move listed)) moves (All-contains_itself moves)

pub pushed_among : (moves : List Move) (new : Move) → All (AmongOrNew moves new) (moves ++ new ∷ [])
pushed_among moves new =
    All-push (AmongOrNew moves new) moves new (All-weaker (Contains moves) (AmongOrNew moves new) (λ move listed. inl listed) moves (All-contains_itself moves)) (inr refl)

-- ---- in the place of a lighter one

module _ (moves : List Move) (place : ℕ) (new : Move) (below : place < length moves) where
  abbrev replaced : List Move
  replaced = set moves place new

  listed_new : Contains replaced new
  listed_new = (place, omega (arith, below, length-set moves place new), get_or-set_same moves place new new below)

  listed_other : (k : ℕ) (d : Move) → k < length moves → k ≢ place → Contains replaced (get_or moves k d)
  listed_other k d inside other =
      subst (Contains replaced) (get_or-set_other moves place k new d other) (Contains-get_or replaced k d (omega (arith, inside, length-set moves place new)))

  pub replaced_added : IsOutweighed replaced new
  replaced_added = itself replaced new listed_new

  pub replaced_outweighed : HoldsAt (HasLanesOf new) moves place → (get_or moves place new).weight ≤ new.weight → All (IsOutweighed replaced) moves
  replaced_outweighed lanes lighter k d inside =
      elim (cases_eq k place) [
        | inl same ↦
            let here : get_or moves k d ≡ get_or moves place new = get_or_default moves k d new inside ∙ ap (λ (n : ℕ). get_or moves n new) same in
            subst (IsOutweighed replaced) (sym here) (record { other = new; listed = listed_new; lanes = record { host_lanes = sym (lanes new).host_lanes; media_lanes = sym (lanes new).media_lanes }; weighs = lighter })
        | inr other ↦ itself replaced (get_or moves k d) (listed_other k d inside other)
      ]

  -- where the one there weighs as much
  pub retained_added : HoldsAt (HasLanesOf new) moves place → new.weight ≤ (get_or moves place new).weight → IsOutweighed moves new
  retained_added lanes heavier = record { other = get_or moves place new; listed = Contains-get_or moves place new below; lanes = lanes new; weighs = heavier }

-- ---- the heaviest of one move more

outweighed_on : (moves more : List Move) (move : Move) → All (IsOutweighed more) moves → IsOutweighed moves move → IsOutweighed more move
outweighed_on moves more move all by =
    let next = All-contains (IsOutweighed more) moves by.other all by.listed in
    record {
      other = next.other;
      listed = next.listed;
      lanes = record { host_lanes = next.lanes.host_lanes ∙ by.lanes.host_lanes; media_lanes = next.lanes.media_lanes ∙ by.lanes.media_lanes };
      weighs = omega (arith, next.weighs, by.weighs);
    }

-- one move more, where the list has been extended by it
pub heaviest_more : (moves retained more : List Move) (new : Move) → AreHeaviest moves retained → All (AmongOrNew retained new) more → All (IsOutweighed more) retained → IsOutweighed more new → length more ≤ length retained + 1
    → AreHeaviest (moves ++ new ∷ []) more
heaviest_more moves retained more new are among outweighed added few = record {
  among = All-weaker (AmongOrNew retained new) (Contains (moves ++ new ∷ [])) (λ one from. elim (from) [
    | inl old ↦ Contains-append_left moves (new ∷ []) one (All-contains (Contains moves) retained one are.among old)
    | inr same ↦ subst (λ (m : Move). Contains (moves ++ new ∷ []) m) (sym same) (Contains-push moves new)
  ]) more among;
  outweighed = All-push (IsOutweighed more) moves new (All-weaker (IsOutweighed retained) (IsOutweighed more) (λ move by. outweighed_on retained more move outweighed by) moves are.outweighed) added;
  few = omega (arith, few, are.few, length-append moves (new ∷ []));
}

pub none_heaviest : AreHeaviest [] []
none_heaviest = record {
  among = λ k d below. absurd (omega (arith, below));
  outweighed = λ k d below. absurd (omega (arith, below));
  few = omega arith;
}
