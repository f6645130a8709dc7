-- Where the id is stored, the whole message is known.
use Rattle.std.proofs.Common.{◌≡◌, ◌<◌, ◌≤◌, ℕ, zero, suc, ◌+◌, ◌-◌, ◌&&◌, nat_le, nat_lt, Bool, true, false, cond, List, [], ◌∷◌, length, take, Option, Some, None, arith, refl, sym, subst, ap, inl, inr, ◌∙◌}
use Rattle.std.specs.Prelude.{drop, min, slice_get, slice_range}
use Rattle.std.proofs.lemmas.Bool.{and_from, and_parts, cond_both, le-leb, leb-true, lt-ltb, ltb-false, ltb-true}
use Rattle.std.proofs.lemmas.List.{length-drop, length-take}
use Rattle.bus_model.specs.declared.operation.Step.{Step}
use Rattle.conversations.specs.declared.event.Event.TheVariants.{Made, Waited, Lacked, Asked}
use Rattle.conversations.specs.declared.next.Next.TheVariants.{Do}
use Rattle.conversations.specs.Events.{Events, steps_of}
use Rattle.command_block.specs.declared.attempt.Attempt.{Attempt}
use Rattle.command_block.specs.declared.attempt.Phase.{Phase}
use Rattle.command_block.specs.declared.attempt.Timing.{Timing}
use Rattle.command_block.specs.declared.message.Message.{Message}
use Rattle.command_block.specs.declared.outcome.Outcome.{Outcome}
use Rattle.command_block.specs.AttemptEvents.{EachIsWanted, HasCome, IsInPhase, attempt_after}
use Rattle.command_block.specs.Attempts.{History, IsFilled, IsHeaded}
use Rattle.command_block.specs.KnownBlocks.{IsTriggeredOver, KnowsBlock, block, byte_after, byte_among, byte_known}
use Rattle.command_block.specs.Messages.{check_code}
use Rattle.command_block.specs.Operations.{trigger}
use Rattle.command_block.specs.Phases.{next_at, wants_by}
use Rattle.command_block.proofs.Known.{comes, keeps_message, keeps_timing, trigger_at}

-- ---- places in lists

get_take : (n i : ℕ) (l : List ℕ) → i < n → slice_get (take n l) i ≡ slice_get l i
get_take zero i l less = absurd (omega (arith, less))
get_take (suc n) i [] less = refl
get_take (suc n) zero (x ∷ l) less = refl
get_take (suc n) (suc i) (x ∷ l) less = get_take n i l (omega (arith, less))

get_drop : (n i : ℕ) (l : List ℕ) → slice_get (drop n l) i ≡ slice_get l (n + i)
get_drop zero i l = let same : i ≡ 0 + i = omega arith in ap (λ (k : ℕ). slice_get l k) same
get_drop (suc n) i [] = refl
get_drop (suc n) i (x ∷ l) = let same : suc (n + i) ≡ suc n + i = omega arith in get_drop n i l ∙ ap (λ (k : ℕ). slice_get (x ∷ l) k) same

among : (place offset : ℕ) (bytes : List ℕ) (was : Option ℕ) → offset ≤ place → place < offset + length bytes → byte_among place offset bytes was ≡ slice_get bytes (place - offset)
among place offset bytes was low high =
    ap (λ (b : Bool). cond b (slice_get bytes (place - offset)) was)
    (and_from (nat_le offset place) (nat_lt place (offset + length bytes)) (le-leb offset place low) (lt-ltb place (offset + length bytes) high))

apart : (place offset : ℕ) (bytes : List ℕ) (was : Option ℕ) → ((offset ≤ place) → (place < offset + length bytes) → ⊥) → byte_among place offset bytes was ≡ was
apart place offset bytes was out =
    cond_both (nat_le offset place && nat_lt place (offset + length bytes)) (slice_get bytes (place - offset)) was (λ (r : Option ℕ). r ≡ was)
    (λ e. let parts = and_parts (nat_le offset place) (nat_lt place (offset + length bytes)) e in absurd (out (leb-true offset place parts.0) (ltb-true place (offset + length bytes) parts.1)))
    (λ e. refl)

module _ (message : Message) where
  abbrev body : List ℕ
  body = message.body.items

  abbrev size : ℕ
  size = length message.body.items

  -- ---- the body

  -- a piece that was stored
  in_piece : (earlier index : ℕ) → earlier ≤ index → index < earlier + 8 → index < size → (was : Option ℕ)
      → byte_among (136 + index) (136 + earlier) (slice_range body earlier (min (earlier + 8) size)) was ≡ slice_get body index
  in_piece earlier index low high within was =
      let end = min (earlier + 8) size in
      let given = take (end - earlier) (drop earlier body) in
      let long : length given ≡ end - earlier = let one = length-take (end - earlier) (drop earlier body) in let two = length-drop earlier body in omega (arith, one, two, low, within) in
      let place : 136 + index - (136 + earlier) ≡ index - earlier = omega (arith, low) in
      let there : earlier + (index - earlier) ≡ index = omega (arith, low) in
      among (136 + index) (136 + earlier) given was (omega (arith, low)) (omega (arith, long, low, high, within))
      ∙ ap (λ (n : ℕ). slice_get given n) place ∙ get_take (end - earlier) (index - earlier) (drop earlier body) (omega (arith, low, high, within))
      ∙ get_drop earlier (index - earlier) body ∙ ap (λ (n : ℕ). slice_get body n) there

  -- the body as far as it was read back
  in_back : (at index : ℕ) → index < at → index < size → (was : Option ℕ) → byte_among (136 + index) 136 (take at body) was ≡ slice_get body index
  in_back at index below within was =
      let long = length-take at body in
      let place : 136 + index - 136 ≡ index = omega arith in
      among (136 + index) 136 (take at body) was (omega arith) (omega (arith, long, below, within))
      ∙ ap (λ (n : ℕ). slice_get (take at body) n) place ∙ get_take at index body below

  -- the bytes before a piece stay known
  before_piece : (earlier index : ℕ) (bytes : List ℕ) (was : Option ℕ) → index < earlier → byte_among (136 + index) (136 + earlier) bytes was ≡ was
  before_piece earlier index bytes was less = apart (136 + index) (136 + earlier) bytes was (λ low high. omega (arith, low, less))

  knows_body : (at : ℕ) (h : History) → IsFilled message false at h → (index : ℕ) → index < at → index < size → byte_known (136 + index) h ≡ slice_get body index
  knows_body at [] now index below within = absurd now
  knows_body at (step ∷ before) (inl (first, idle, now)) index below within = absurd (omega (arith, first, below))
  knows_body at (step ∷ before) (inr (inl (first, tried, now))) index below within = absurd (omega (arith, first, below))
  knows_body at (step ∷ before) (inr (inr (inl (earlier, is, less, taken, now)))) index below within = by (nat_lt index earlier) refl (λ low. knows_body earlier before now index low within) where
    stored : byte_known (136 + index) (step ∷ before) ≡ byte_among (136 + index) (136 + earlier) (slice_range body earlier (min (earlier + 8) size)) (byte_known (136 + index) before)
    stored = λ i. byte_after (136 + index) (taken.0 i) (taken.1 i) (byte_known (136 + index) before)

    by : (b : Bool) → nat_lt index earlier ≡ b → (index < earlier → byte_known (136 + index) before ≡ slice_get body index) → byte_known (136 + index) (step ∷ before) ≡ slice_get body index
    by true e earlier_known =
        let low = ltb-true index earlier e in
        stored ∙ before_piece earlier index (slice_range body earlier (min (earlier + 8) size)) (byte_known (136 + index) before) low ∙ earlier_known low
    by false e earlier_known = stored ∙ in_piece earlier index (ltb-false index earlier e) (omega (arith, is, below)) within (byte_known (136 + index) before)
  knows_body at (step ∷ before) (inr (inr (inr (inl (gives, now))))) index below within =
      let read : byte_known (136 + index) (step ∷ before) ≡ byte_among (136 + index) 136 (take at body) (byte_known (136 + index) before) =
      λ i. byte_after (136 + index) (gives.0 i) (gives.1 i) (byte_known (136 + index) before) in
      read ∙ in_back at index below within (byte_known (136 + index) before)
  knows_body at (step ∷ before) (inr (inr (inr (inr (first, differs))))) index below within = absurd (omega (arith, first, below))

  -- ---- and the header

  abbrev lengths : List ℕ
  lengths = 0 ∷ 0 ∷ size ∷ check_code message ∷ 0 ∷ 0 ∷ []

  in_lengths : (index : ℕ) → index < 6 → slice_get lengths index ≡ slice_get (block message) index
  in_lengths zero less = refl
  in_lengths (suc zero) less = refl
  in_lengths (suc (suc zero)) less = refl
  in_lengths (suc (suc (suc zero))) less = refl
  in_lengths (suc (suc (suc (suc zero)))) less = refl
  in_lengths (suc (suc (suc (suc (suc zero))))) less = refl
  in_lengths (suc (suc (suc (suc (suc (suc more)))))) less = absurd (omega (arith, less))

  behind_lengths : (index : ℕ) → 6 ≤ index → slice_get body (index - 6) ≡ slice_get (block message) index
  behind_lengths zero least = absurd (omega (arith, least))
  behind_lengths (suc zero) least = absurd (omega (arith, least))
  behind_lengths (suc (suc zero)) least = absurd (omega (arith, least))
  behind_lengths (suc (suc (suc zero))) least = absurd (omega (arith, least))
  behind_lengths (suc (suc (suc (suc zero)))) least = absurd (omega (arith, least))
  behind_lengths (suc (suc (suc (suc (suc zero))))) least = absurd (omega (arith, least))
  behind_lengths (suc (suc (suc (suc (suc (suc more)))))) least =
      let same : suc (suc (suc (suc (suc (suc more))))) - 6 ≡ more = omega arith in ap (λ (n : ℕ). slice_get body n) same

  knows_block : (h : History) → IsHeaded message h → KnowsBlock message h
  knows_block [] now index within = absurd now
  knows_block (step ∷ before) (taken, (at, all, now)) index within = by (nat_lt index 6) refl where
    stored : byte_known (130 + index) (step ∷ before) ≡ byte_among (130 + index) 130 lengths (byte_known (130 + index) before)
    stored = λ i. byte_after (130 + index) (taken.0 i) (taken.1 i) (byte_known (130 + index) before)

    by : (b : Bool) → nat_lt index 6 ≡ b → byte_known (130 + index) (step ∷ before) ≡ slice_get (block message) index
    by true e =
        let low = ltb-true index 6 e in
        let place : 130 + index - 130 ≡ index = omega arith in
        stored ∙ among (130 + index) 130 lengths (byte_known (130 + index) before) (omega arith) (omega (arith, low)) ∙ ap (λ (n : ℕ). slice_get lengths n) place ∙ in_lengths index low
    by false e =
        let least = ltb-false index 6 e in
        let place : 130 + index ≡ 136 + (index - 6) = omega (arith, least) in
        let few : index - 6 < size = omega (arith, within, least) in
        stored ∙ apart (130 + index) 130 lengths (byte_known (130 + index) before) (λ low high. omega (arith, least, high))
        ∙ ap (λ (n : ℕ). byte_known n before) place ∙ knows_body at before now (index - 6) (omega (arith, few, all)) few ∙ behind_lengths index least

  module _ (timing : Timing) where
    headed_at : (attempt : Attempt) (outcome : Option Outcome) (h : History) (step : Step) → attempt.message ≡ message → attempt.timing ≡ timing → wants_by attempt outcome ≡ Do step.op
        → step.op ≡ trigger message → HasCome message attempt.phase outcome h → IsHeaded message h
    headed_at attempt (Some outcome) h step is_message is_timing asks is come = absurd cc
    headed_at attempt None h step is_message is_timing asks is come =
        let wanted : next_at message timing attempt.phase ≡ Do step.op = sym (λ i. next_at (is_message i) (is_timing i) attempt.phase) ∙ asks in
        subst (λ (phase : Phase). IsInPhase message phase h) (trigger_at message timing attempt.phase step wanted is) come

    pub triggered_over : (own : Events) → EachIsWanted message timing own → IsTriggeredOver message (steps_of own)
    triggered_over [] each = tt
    triggered_over (Made step ∷ before) (asks, answers, each) =
        let attempt = attempt_after message timing before in (
          λ is. knows_block (steps_of before) (headed_at attempt attempt.outcome (steps_of before) step (keeps_message message timing before) (keeps_timing message timing before) asks is (comes message timing before each)),
          triggered_over before each,
        )
    triggered_over (Waited time ∷ before) each = triggered_over before each.1
    triggered_over (Lacked page ∷ before) each = triggered_over before each.1
    triggered_over (Asked number ∷ before) each = triggered_over before each
