-- A conversation in pieces: what it asks for, what it is told, and that the joined events are what the one within knows.
use Rattle.std.proofs.Common.{◌≡◌, ◌+◌, ◌<◌, ◌≤◌, ℕ, ◌==◌, ◌&&◌, Bool, true, false, List, [], ◌∷◌, ◌++◌, length, Some, None, refl, sym, ap, subst, ◌∙◌, inl, inr, if◌then◌else◌, nat_lt, eq-eqb, lt-ltb, arith}
use Rattle.std.specs.Prelude.{◌-◌, ◌⊎◌, IfSome}
use Rattle.std.proofs.lemmas.Bool.{and_from, and_parts, eqb-true, ltb-true, true≢false}
use Rattle.std.proofs.lemmas.List.{length-append}
use Rattle.arrayvec.specs.ArrayVec.{ArrayVec}
use Rattle.bus_model.specs.declared.device.Dev.{Dev}
use Rattle.bus_model.specs.declared.device.Dev.TheVariants.{A0, A2}
use Rattle.bus_model.specs.declared.operation.Op.{Op}
use Rattle.bus_model.specs.declared.operation.Op.TheVariants.{Fetch, Store}
use Rattle.bus_model.specs.declared.operation.Reply.{Reply}
use Rattle.bus_model.specs.declared.operation.Reply.TheVariants.{Bytes, Done, Refused}
use Rattle.bus_model.specs.Operations.{Answers, IsInHalf}
use Rattle.bus_model.specs.SameOperation.{same_device}
use Rattle.conversations.specs.declared.event.Event.TheVariants.{Asked, Waited}
use Rattle.conversations.specs.declared.next.Next.{Next}
use Rattle.conversations.specs.declared.next.Next.TheVariants.{Do, Wait, End}
use Rattle.conversations.specs.Events.{Events, made}
use Rattle.conversations.specs.Pauses.{is_refused, is_same_fetch}
use Rattle.conversations.specs.Pieces.{IsInPieces, IsPiece, Joins, bytes_of_piece, fits, half_of, is_half, is_half_in, is_same_wanted, items_of, bytes_in, next_piece, piece_of, whole_reply}
use Rattle.conversations.specs.Wanted.{IsReplyTo, op_of}

pub few_bytes : (size read : ℕ) → read < 128 → read + bytes_of_piece size read ≤ 128
few_bytes size read few = by (nat_lt size (128 - read)) refl where
  by : (less : Bool) → nat_lt size (128 - read) ≡ less → read + (if less then size else 128 - read) ≤ 128
  by true e = omega (arith, few, ltb-true _ _ e)
  by false e = omega (arith, few)

-- the bytes of a piece are within its half
pub shape : (offset size read : ℕ) → 0 < size → read < 128 → IsInHalf offset 128 → IsInHalf (offset + read) (bytes_of_piece size read)
shape offset size read some few half = by (nat_lt size (128 - read)) refl half.1 where
  by : (less : Bool) → nat_lt size (128 - read) ≡ less → (offset + 128 ≤ 128) ⊎ ((128 ≤ offset) × (offset + 128 ≤ 256)) → IsInHalf (offset + read) (if less then size else 128 - read)
  by true e (inl low) = (some, inl (let less = ltb-true _ _ e in omega (arith, low, few, less)))
  by true e (inr high) = (some, inr ((omega (arith, high.0), (let less = ltb-true _ _ e in omega (arith, high.1, few, less)))))
  by false e (inl low) = (omega (arith, few), inl (omega (arith, low, few)))
  by false e (inr high) = (omega (arith, few), inr ((omega (arith, high.0), omega (arith, high.1, few))))

fits_is : (piece : ℕ) (part : List ℕ) → fits piece part ≡ true → (0 < piece) × (length part < 128)
fits_is piece part e = let parts = and_parts _ _ e in (ltb-true _ _ parts.0, ltb-true _ _ parts.1)

pub fits_from : (piece : ℕ) (part : List ℕ) → 0 < piece → length part < 128 → fits piece part ≡ true
fits_from piece part some short = and_from _ _ (lt-ltb _ _ some) (lt-ltb _ _ short)

module _ {E : Type 0} (piece : ℕ) (part : List ℕ) where
  room_by : (asked : Next E) (bytes : List ℕ) (fit : Bool) → fits piece part ≡ fit → (fit && is_half_in asked) ≡ true → IsReplyTo (next_piece piece part asked) (items_of bytes) → length part + length bytes ≤ 128
  room_by (Do (Fetch dev offset count)) bytes true e half reply =
      let answers = subst (λ (b : Bool). Answers (if b then Fetch dev (offset + length part) (bytes_of_piece piece (length part)) else Fetch dev offset count) (items_of bytes)) (and_from _ _ e half) reply in
      let most = few_bytes piece (length part) (fits_is piece part e).1 in
      omega (arith, answers, most)
  room_by (Do (Store dev offset given)) bytes true e half reply = absurd (true≢false (sym half))
  room_by (Wait time) bytes true e half reply = absurd (true≢false (sym half))
  room_by (End end) bytes true e half reply = absurd (true≢false (sym half))
  room_by asked bytes false e half reply = absurd (true≢false (sym half))

  -- the bytes of a piece have room in the part
  pub room : (asked : Next E) (bytes : List ℕ) → (fits piece part && is_half_in asked) ≡ true → IsReplyTo (next_piece piece part asked) (items_of bytes) → length part + length bytes ≤ 128
  room asked bytes half reply = room_by asked bytes (fits piece part) refl half reply

  -- and so it is where nothing is told yet
  pub none_room : (asked : Next E) (reply : Reply) → whole_reply piece part asked reply ≡ None → IsReplyTo (next_piece piece part asked) reply → length part + length (bytes_in reply) ≤ 128
  none_room asked (Bytes bytes) none reply = by (fits piece part && is_half_in asked) refl none where
    by : (half : Bool) → (fits piece part && is_half_in asked) ≡ half → (if half then half_of (part ++ bytes.items) else Some (Bytes bytes)) ≡ None → length part + length bytes.items ≤ 128
    by true e none = room asked bytes.items e reply
    by false e none = absurd cc
  none_room asked Done none reply = absurd cc
  none_room asked Refused none reply = absurd cc

  half_answers : (asked : Next E) (all : List ℕ) (ends : Bool) → (length all == 128) ≡ ends → is_half_in asked ≡ true → IfSome (if ends then Some (items_of all) else None) (IsReplyTo asked)
  half_answers (Do (Fetch dev offset count)) all true e half = eqb-true _ 128 e ∙ sym (eqb-true count 128 half)
  half_answers (Do (Fetch dev offset count)) all false e half = tt
  half_answers (Do (Store dev offset given)) all ends e half = absurd (true≢false (sym half))
  half_answers (Wait time) all ends e half = absurd (true≢false (sym half))
  half_answers (End end) all ends e half = absurd (true≢false (sym half))

  -- bytes that are none of a half
  pub others : (asked : Next E) (reply : Reply) → (fits piece part && is_half_in asked) ≡ false → IsReplyTo (next_piece piece part asked) reply → IsReplyTo asked reply
  others (Do (Fetch dev offset count)) reply half answers = subst (λ (b : Bool). Answers (if b then Fetch dev (offset + length part) (bytes_of_piece piece (length part)) else Fetch dev offset count) reply) half answers
  others (Do (Store dev offset given)) reply half answers = answers
  others (Wait time) reply half answers = answers
  others (End end) reply half answers = answers

  bytes_answer : (asked : Next E) (bytes : ArrayVec ℕ) (half : Bool) → (fits piece part && is_half_in asked) ≡ half → IsReplyTo (next_piece piece part asked) (Bytes bytes) →
      IfSome (if half then half_of (part ++ bytes.items) else Some (Bytes bytes)) (IsReplyTo asked)
  bytes_answer asked bytes true e answers = half_answers asked (part ++ bytes.items) (length (part ++ bytes.items) == 128) refl (and_parts _ _ e).1
  bytes_answer asked bytes false e answers = others asked (Bytes bytes) e answers

  refused_answers : (asked : Next E) → IsReplyTo (next_piece piece part asked) Refused → IsReplyTo asked Refused
  refused_answers (Do (Fetch dev offset count)) answers = tt
  refused_answers (Do (Store dev offset given)) answers = tt
  refused_answers (Wait time) answers = answers
  refused_answers (End end) answers = answers

  done_answers : (asked : Next E) → IsReplyTo (next_piece piece part asked) Done → IsReplyTo asked Done
  done_answers (Do (Fetch dev offset count)) answers = by (fits piece part && count == 128) answers where
    by : (half : Bool) → Answers (if half then Fetch dev (offset + length part) (bytes_of_piece piece (length part)) else Fetch dev offset count) Done → ⊥
    by true answers = answers
    by false answers = answers
  done_answers (Do (Store dev offset given)) answers = tt
  done_answers (Wait time) answers = answers
  done_answers (End end) answers = answers

  -- what the conversation within is told is a reply to what it asked for
  pub answers : (asked : Next E) (reply : Reply) → IsReplyTo (next_piece piece part asked) reply → IfSome (whole_reply piece part asked reply) (IsReplyTo asked)
  answers asked (Bytes bytes) reply = bytes_answer asked bytes (fits piece part && is_half_in asked) refl reply
  answers asked Done reply = done_answers asked reply
  answers asked Refused reply = refused_answers asked reply

devices_same : (dev other : Dev) → same_device dev other ≡ true → dev ≡ other
devices_same A0 A0 e = refl
devices_same A2 A2 e = refl
devices_same A0 A2 e = absurd (true≢false (sym e))
devices_same A2 A0 e = absurd (true≢false (sym e))

same_fetch : (op other : Op) → is_same_fetch op other ≡ true → op ≡ other
same_fetch (Fetch dev offset count) (Fetch dev' offset' count') e =
    let parts = and_parts _ _ e in
    let more = and_parts _ _ parts.1 in
    let d = devices_same dev dev' parts.0 in
    let o = eqb-true offset offset' more.0 in
    let c = eqb-true count count' more.1 in
    (λ i. Fetch (d i) (o i) (c i))
same_fetch (Fetch dev offset count) (Store dev' offset' bytes) e = absurd (true≢false (sym e))
same_fetch (Store dev offset bytes) other e = absurd (true≢false (sym e))

same_next : {E : Type 0} (op : Op) (next : Next E) → is_same_wanted (Some op) (op_of next) ≡ true → next ≡ Do op
same_next op (Do other) e = ap (λ (o : Op). Do o) (sym (same_fetch op other e))
same_next op (Wait time) e = absurd (true≢false (sym e))
same_next op (End end) e = absurd (true≢false (sym e))

same_wanted : {E : Type 0} (before next : Next E) → is_same_wanted (op_of before) (op_of next) ≡ true → before ≡ next
same_wanted (Do op) next e = sym (same_next op next e)
same_wanted (Wait time) next e = absurd (true≢false (sym e))
same_wanted (End end) next e = absurd (true≢false (sym e))

same_do : {E : Type 0} (op other : Op) → ◌≡◌ {A = Next E} (Do op) (Do other) → op ≡ other
same_do op other e = cc

nothing_left : (again : Bool) (part : List ℕ) → part ≡ [] → (if again then part else []) ≡ []
nothing_left true part e = e
nothing_left false part e = refl

-- ---- one event more

module _ {E : Type 0} (Old New : Events → Type 0) (asked next : Next E) (piece : ℕ) (part : List ℕ) (events : Events) (was : IsInPieces Old asked piece part events) where
  -- a step that is no piece
  by_itself : (op : Op) (reply : Reply) (again : Bool) → asked ≡ Do op → is_half op ≡ false → ((own : Events) → Old own → New (made op reply ∷ own)) → IsInPieces New next piece (if again then part else []) (made op reply ∷ events)
  by_itself op reply again asks no_half more =
      let none = was.alone (ap is_half_in asks ∙ no_half) in
      let joins : Joins events was.own was.half [] = subst (Joins events was.own was.half) none was.joins in
      subst (λ (rest : List ℕ). IsInPieces New next piece rest (made op reply ∷ events)) (sym (nothing_left again part none)) (record {
        some = was.some;
        short = omega arith;
        own = made op reply ∷ was.own;
        was_told = more was.own was.was_told;
        half = was.half;
        joins = inl (was.half, was.own, joins, refl, refl);
        in_hand = λ other later. inl (was.half, was.own, joins, refl, refl);
        alone = λ e. refl;
      })

  module _ (dev : Dev) (offset count : ℕ) (asks : asked ≡ Do (Fetch dev offset 128)) where
    abbrev half : Op
    half = Fetch dev offset 128

    abbrev piece_op : Op
    piece_op = Fetch dev (offset + length part) count

    is_piece : IsPiece half (length part) piece_op
    is_piece = (dev, offset, count, refl, refl)

    refused_piece : (again : Bool) → is_same_wanted (op_of asked) (op_of next) ≡ again → ((own : Events) → Old own → New (made half Refused ∷ own)) → IsInPieces New next piece (if again then part else []) (made piece_op Refused ∷ events)
    refused_piece true e more =
        let joins : Joins (made piece_op Refused ∷ events) (made half Refused ∷ was.own) half part = inr (inl (half, was.own, part, was.in_hand half asks, is_piece, refl, refl, inl (refl, refl))) in
        let again : next ≡ Do half = same_next half next (sym (ap (λ (a : Next E). is_same_wanted (op_of a) (op_of next)) asks) ∙ e) in
        record {
          some = was.some;
          short = was.short;
          own = made half Refused ∷ was.own;
          was_told = more was.own was.was_told;
          half = half;
          joins = joins;
          in_hand = λ op later. subst (λ (op : Op). Joins (made piece_op Refused ∷ events) (made half Refused ∷ was.own) op part) (same_do {E = E} half op (sym again ∙ later)) joins;
          alone = λ no_half. absurd (true≢false (sym (ap is_half_in again) ∙ no_half));
        }
    refused_piece false e more =
        record {
          some = was.some;
          short = omega arith;
          own = made half Refused ∷ was.own;
          was_told = more was.own was.was_told;
          half = half;
          joins = inr (inl (half, was.own, part, was.in_hand half asks, is_piece, refl, refl, inr refl));
          in_hand = λ op later. inr (inl (half, was.own, part, was.in_hand half asks, is_piece, refl, refl, inr refl));
          alone = λ no_half. refl;
        }

    last_piece : (bytes : List ℕ) → length (part ++ bytes) ≡ 128 → ((own : Events) → Old own → New (made half (items_of (part ++ bytes)) ∷ own)) → IsInPieces New next piece [] (made piece_op (items_of bytes) ∷ events)
    last_piece bytes all more =
        record {
          some = was.some;
          short = omega arith;
          own = made half (items_of (part ++ bytes)) ∷ was.own;
          was_told = more was.own was.was_told;
          half = half;
          joins = inr (inr (inr (half, was.own, part, bytes, was.in_hand half asks, is_piece, refl, all, refl, refl)));
          in_hand = λ op later. inr (inr (inr (half, was.own, part, bytes, was.in_hand half asks, is_piece, refl, all, refl, refl)));
          alone = λ no_half. refl;
        }

    earlier_piece : (bytes : List ℕ) → length (part ++ bytes) < 128 → IsInPieces Old asked piece (part ++ bytes) (made piece_op (items_of bytes) ∷ events)
    earlier_piece bytes fewer =
        let joins : Joins (made piece_op (items_of bytes) ∷ events) was.own half (part ++ bytes) = inr (inr (inl (part, bytes, was.in_hand half asks, is_piece, refl, refl, fewer))) in
        record {
          some = was.some;
          short = fewer;
          own = was.own;
          was_told = was.was_told;
          half = half;
          joins = joins;
          in_hand = λ op later. subst (λ (op : Op). Joins (made piece_op (items_of bytes) ∷ events) was.own op (part ++ bytes)) (same_do {E = E} half op (sym asks ∙ later)) joins;
          alone = λ no_half. absurd (true≢false (sym (ap is_half_in asks) ∙ no_half));
        }

  fit : fits piece part ≡ true
  fit = fits_from piece part was.some was.short

  -- what the conversation within is told, and what is left of the part
  abbrev Takes : Op → Reply → Type 0
  Takes op reply = (whole : Reply) → whole_reply piece part asked reply ≡ Some whole → ((own : Events) (o : Op) → asked ≡ Do o → Old own → New (made o whole ∷ own)) →
      IsInPieces New next piece (if is_refused reply && is_same_wanted (op_of asked) (op_of next) then part else []) (made op reply ∷ events)

  told_is : (asked' : Next E) → asked ≡ asked' → (reply whole : Reply) → whole_reply piece part asked reply ≡ Some whole → whole_reply piece part asked' reply ≡ Some whole
  told_is asked' e reply whole told = subst (λ (a : Next E). whole_reply piece part a reply ≡ Some whole) e told

  itself : (reply whole : Reply) (half : Bool) → (fits piece part && half) ≡ false → (o : Op) → is_half o ≡ half → whole_reply {E = E} piece part (Do o) reply ≡ Some whole → whole ≡ reply
  itself (Bytes bytes) whole half e o is told = same_some (sym told ∙ ap (λ (b : Bool). if b then half_of (part ++ bytes.items) else Some (Bytes bytes)) (ap (λ (h : Bool). fits piece part && h) is ∙ e)) where
    same_some : {x y : Reply} → Some x ≡ Some y → x ≡ y
    same_some e = cc
  itself Done whole half e o is told = cc
  itself Refused whole half e o is told = cc

  not_half : (half : Bool) → (fits piece part && half) ≡ false → half ≡ false
  not_half half e = sym (ap (λ (b : Bool). b && half) fit) ∙ e

  alone_takes : (op : Op) (reply : Reply) → asked ≡ Do op → (fits piece part && is_half op) ≡ false → Takes op reply
  alone_takes op reply asks no_half whole told more =
      by_itself op reply (is_refused reply && is_same_wanted (op_of asked) (op_of next)) asks (not_half (is_half op) no_half)
      (λ own at. subst (λ (r : Reply). New (made op r ∷ own)) (itself reply whole (is_half op) no_half op refl (told_is (Do op) asks reply whole told)) (more own op asks at))

  module _ (dev : Dev) (offset : ℕ) (asks : asked ≡ Do (Fetch dev offset 128)) where
    abbrev count : ℕ
    count = bytes_of_piece piece (length part)

    in_pieces : (fits piece part && is_half_in asked) ≡ true
    in_pieces = and_from _ _ fit (ap is_half_in asks)

    some_is : (x y : Reply) → Some x ≡ Some y → x ≡ y
    some_is x y e = cc

    bytes_take : (bytes : ArrayVec ℕ) (ends : Bool) → (length (part ++ bytes.items) == 128) ≡ ends → Takes (Fetch dev (offset + length part) count) (Bytes bytes)
    bytes_take bytes true e whole told more =
        let is : items_of (part ++ bytes.items) ≡ whole = some_is _ whole
        (sym (ap (λ (b : Bool). if b then half_of (part ++ bytes.items) else Some (Bytes bytes)) in_pieces ∙ ap (λ (b : Bool). if b then Some (items_of (part ++ bytes.items)) else None) e) ∙ told) in
        last_piece dev offset count asks bytes.items (eqb-true _ 128 e) (λ own at. subst (λ (r : Reply). New (made (Fetch dev offset 128) r ∷ own)) (sym is) (more own (Fetch dev offset 128) asks at))
    bytes_take bytes false e whole told more =
        let none = sym (ap (λ (b : Bool). if b then half_of (part ++ bytes.items) else Some (Bytes bytes)) in_pieces ∙ ap (λ (b : Bool). if b then Some (items_of (part ++ bytes.items)) else None) e) ∙ told in
        absurd cc

    half_takes : (reply : Reply) → Answers (Fetch dev (offset + length part) count) reply → Takes (Fetch dev (offset + length part) count) reply
    half_takes (Bytes bytes) answers = bytes_take bytes (length (part ++ bytes.items) == 128) refl
    half_takes Done answers = absurd answers
    half_takes Refused answers = λ whole told more.
        refused_piece dev offset count asks (is_same_wanted (op_of asked) (op_of next)) refl (λ own at. subst (λ (r : Reply). New (made (Fetch dev offset 128) r ∷ own)) (sym (some_is Refused whole told)) (more own (Fetch dev offset 128) asks at))

    -- an earlier piece of a half
    half_waits : (bytes : ArrayVec ℕ) (ends : Bool) → (length (part ++ bytes.items) == 128) ≡ ends → length bytes.items ≡ count → whole_reply piece part asked (Bytes bytes) ≡ None →
        IsInPieces Old asked piece (part ++ bytes.items) (made (Fetch dev (offset + length part) count) (Bytes bytes) ∷ events)
    half_waits bytes true e answers told =
        let some = sym (ap (λ (b : Bool). if b then half_of (part ++ bytes.items) else Some (Bytes bytes)) in_pieces ∙ ap (λ (b : Bool). if b then Some (items_of (part ++ bytes.items)) else None) e) ∙ told in
        absurd cc
    half_waits bytes false e answers told =
        let ne : length (part ++ bytes.items) ≡ 128 → ⊥ = λ same. true≢false (sym (eq-eqb _ 128 same) ∙ e) in
        let few = few_bytes piece (length part) was.short in
        earlier_piece dev offset count asks bytes.items (omega (arith, ne, few, answers, length-append part bytes.items))

  -- ---- whichever is asked for

  abbrev Waits : Op → ArrayVec ℕ → Type 0
  Waits op bytes = whole_reply piece part asked (Bytes bytes) ≡ None → IsInPieces Old asked piece (part ++ bytes.items) (made op (Bytes bytes) ∷ events)

  abbrev Turns : Op → Reply → Type 0
  Turns op reply = Takes op reply × ((bytes : ArrayVec ℕ) → reply ≡ Bytes bytes → Waits op bytes)

  -- a step by itself is always told
  alone_tells : (op : Op) → asked ≡ Do op → (fits piece part && is_half op) ≡ false → (bytes : ArrayVec ℕ) → whole_reply piece part asked (Bytes bytes) ≡ None → ⊥
  alone_tells op asks no_half bytes told =
      let some = sym (ap (λ (b : Bool). if b then half_of (part ++ bytes.items) else Some (Bytes bytes)) (ap (λ (a : Next E). fits piece part && is_half_in a) asks ∙ no_half)) ∙ told in cc

  alone_turns : (op : Op) (reply : Reply) → asked ≡ Do op → (fits piece part && is_half op) ≡ false → Turns op reply
  alone_turns op reply asks no_half = (alone_takes op reply asks no_half, λ bytes e told. absurd (alone_tells op asks no_half bytes told))

  half_turns : (dev : Dev) (offset : ℕ) → asked ≡ Do (Fetch dev offset 128) → (reply : Reply) → Answers (Fetch dev (offset + length part) (bytes_of_piece piece (length part))) reply → Turns (Fetch dev (offset + length part) (bytes_of_piece piece (length part))) reply
  half_turns dev offset asks reply answers = (
    half_takes dev offset asks reply answers,
    λ bytes e told. half_waits dev offset asks bytes (length (part ++ bytes.items) == 128) refl (subst (Answers (Fetch dev (offset + length part) (bytes_of_piece piece (length part)))) e answers) told,
  )

  fetch_turns : (dev : Dev) (offset count : ℕ) (half : Bool) (reply : Reply) → (fits piece part && count == 128) ≡ half → asked ≡ Do (Fetch dev offset count) →
      (op : Op) → op ≡ (if half then Fetch dev (offset + length part) (bytes_of_piece piece (length part)) else Fetch dev offset count) → Answers op reply → Turns op reply
  fetch_turns dev offset count true reply e asks op is answers =
      let asks_half = subst (λ (n : ℕ). asked ≡ Do (Fetch dev offset n)) (eqb-true count 128 (and_parts _ _ e).1) asks in
      subst (λ (o : Op). Answers o reply → Turns o reply) (sym is) (half_turns dev offset asks_half reply) answers
  fetch_turns dev offset count false reply e asks op is answers = subst (λ (o : Op). Turns o reply) (sym is) (alone_turns (Fetch dev offset count) reply asks e)

  no_store : (b : Bool) → (b && false) ≡ false
  no_store true = refl
  no_store false = refl

  turns_by : (asked' : Next E) (op : Op) (reply : Reply) → asked ≡ asked' → next_piece piece part asked' ≡ Do op → Answers op reply → Turns op reply
  turns_by (Do (Fetch dev offset count)) op reply asks is answers =
      fetch_turns dev offset count (fits piece part && count == 128) reply refl asks op (same_do {E = E} op (piece_of piece part (Fetch dev offset count)) (sym is)) answers
  turns_by (Do (Store dev offset bytes)) op reply asks is answers =
      subst (λ (o : Op). Turns o reply) (same_do {E = E} (Store dev offset bytes) op is) (alone_turns (Store dev offset bytes) reply asks (no_store (fits piece part)))
  turns_by (Wait time) op reply asks is answers = absurd cc
  turns_by (End end) op reply asks is answers = absurd cc

  pub turns : (op : Op) (reply : Reply) → next_piece piece part asked ≡ Do op → IsReplyTo (next_piece piece part asked) reply → Turns op reply
  turns op reply is replies = turns_by asked op reply refl is (subst (λ (n : Next E). IsReplyTo n reply) is replies)

  -- and a wait
  pub waits : (time : ℕ) → next_piece piece part asked ≡ Wait time → ((own : Events) → asked ≡ Wait time → Old own → New (Waited time ∷ own)) → IsInPieces New next piece part (Waited time ∷ events)
  waits time is more = by asked refl is where
    by : (asked' : Next E) → asked ≡ asked' → next_piece piece part asked' ≡ Wait time → IsInPieces New next piece part (Waited time ∷ events)
    by (Do (Fetch dev offset count)) asks e = absurd cc
    by (Do (Store dev offset bytes)) asks e = absurd cc
    by (End end) asks e = absurd cc
    by (Wait other) asks e =
        let none : part ≡ [] = was.alone (ap is_half_in asks) in
        let joins : Joins events was.own was.half [] = subst (Joins events was.own was.half) none was.joins in
        record {
          some = was.some;
          short = was.short;
          own = Waited time ∷ was.own;
          was_told = more was.own (asks ∙ e) was.was_told;
          half = was.half;
          joins = (was.half, was.own, joins, refl, none);
          in_hand = λ op later. (was.half, was.own, joins, refl, none);
          alone = λ no_half. none;
        }

  -- and what the caller says
  pub says : (number : ℕ) → ((own : Events) → Old own → New (Asked number ∷ own)) → IsInPieces New next piece (if is_same_wanted (op_of asked) (op_of next) then part else []) (Asked number ∷ events)
  says number more = by (is_same_wanted (op_of asked) (op_of next)) refl where
    by : (still : Bool) → is_same_wanted (op_of asked) (op_of next) ≡ still → IsInPieces New next piece (if still then part else []) (Asked number ∷ events)
    by true e =
        let same = same_wanted asked next e in
        record {
          some = was.some;
          short = was.short;
          own = Asked number ∷ was.own;
          was_told = more was.own was.was_told;
          half = was.half;
          joins = (was.half, was.own, part, was.joins, refl, inl (refl, refl));
          in_hand = λ op later. (op, was.own, part, was.in_hand op (same ∙ later), refl, inl (refl, refl));
          alone = λ no_half. was.alone (ap is_half_in same ∙ no_half);
        }
    by false e =
        record {
          some = was.some;
          short = omega arith;
          own = Asked number ∷ was.own;
          was_told = more was.own was.was_told;
          half = was.half;
          joins = (was.half, was.own, part, was.joins, refl, inr refl);
          in_hand = λ op later. (was.half, was.own, part, was.joins, refl, inr refl);
          alone = λ no_half. refl;
        }

  -- an earlier piece alone is kept
  pub keeps : (op : Op) (reply : Reply) → Turns op reply → whole_reply piece part asked reply ≡ None → IsInPieces Old asked piece (part ++ bytes_in reply) (made op reply ∷ events)
  keeps op (Bytes bytes) t none = t.1 bytes refl none
  keeps op Done t none = absurd cc
  keeps op Refused t none = absurd cc
