-- The numbers of a reading after a reply.
use Rattle.std.proofs.Common.{◌≡◌, ◌≤◌, ◌<◌, ◌+◌, ◌==◌, ℕ, suc, Bool, true, false, List, [], ◌∷◌, ◌++◌, length, take, Option, Some, None, refl, ap, sym, subst, ◌∙◌, arith, if◌then◌else◌, eq-eqb, inl, inr}
use Rattle.std.specs.Prelude.{◌&&◌, IsTrue}
use Rattle.std.specs.FinMap as map
use Rattle.std.specs.List.{list_all}
use Rattle.std.proofs.lemmas.List.{append-nil, length-append, take-take}
use Rattle.bus_model.specs.declared.operation.Reply.{Reply}
use Rattle.bus_model.specs.declared.operation.Reply.TheVariants.{Bytes, Done, Refused}
use Rattle.conversations.specs.declared.next.Next.{Next}
use Rattle.conversations.specs.declared.next.Next.TheVariants.{Do}
use Rattle.conversations.specs.declared.pausing.Timed.{Timed}
use Rattle.conversations.specs.declared.within.Spent.{Spent}
use Rattle.conversations.specs.Pieces.{after_told, bytes_in, fits, half_of, is_half_in, is_same_wanted, next_piece, part_left, whole_reply}
use Rattle.conversations.specs.Pauses.{is_refused as refused}
use Rattle.conversations.specs.Selecting.{next_on}
use Rattle.conversations.specs.Wanted.{IsReplyTo, op_of}
use Rattle.conversations.proofs.InPiecesLaws.{none_room}
use Rattle.conversations.proofs.PatientLaws.{made}
use Rattle.paged_memory.specs.declared.page_addressing.KnownPage.{KnownPage}
use Rattle.paged_memory.specs.declared.page_addressing.PageAddressing.{PageAddressing}
use Rattle.module_reading.specs.declared.region.Region.{Region}
use Rattle.module_reading.specs.ImageReading.{in_hand, wants_by}
use Rattle.firmware_api.specs.declared.half.HalfBytes.{HalfBytes}
use Rattle.firmware_api.specs.Halves.{has_place, key_of, memory_of}
use Rattle.conversations.specs.Patiently.{Patient, after_patiently, wants_patiently}
use Rattle.port_manager.specs.Jobs.{paged_halves}
use Rattle.port_manager.specs.Patients.{after_on, wants_on}
use Rattle.firmware_api.specs.KeptConversations.{InHand, ending_by, halves_of, pieces_after, pieces_want, read_ending}
use Rattle.firmware_api.specs.SavedConversations.{HasHalf, HasInFront, HasNumbers, HasRead, IsInFront}
use Rattle.firmware_api.proofs.WholeHalfLaws.{placed_by}

-- ---- what the reply is one to

pub ending_reply : (wanted : Next (Spent (Timed (Unit {0})))) (reply : Reply) → IsReplyTo (ending_by read_ending wanted) reply → IsReplyTo wanted reply
ending_reply (Do op) reply answers = answers
ending_reply _ reply answers = answers

hand_by : (piece : ℕ) (part : List ℕ) (by : PageAddressing) (selected : KnownPage) (page : Option ℕ) (found : Option Region) (reply : Reply) →
    IsReplyTo (next_piece piece part (next_on by selected page (wants_by found))) reply → (region : Region) × (found ≡ Some region)
hand_by piece part by selected page None reply answers = absurd answers
hand_by piece part by selected page (Some region) reply answers = (region, refl)

pub placed : (pieces : InHand) (reply : Reply) → IsReplyTo (pieces_want pieces) reply → pieces.conversation.conversation.settled < 5
placed pieces reply answers =
    let on = pieces.conversation in
    let (region, is) = hand_by pieces.piece pieces.part.items _ on.selection _ (in_hand on.conversation) reply answers in
    placed_by on.conversation region is

-- ---- the part of a half

same_piece_by : (it : InHand) (reply : Reply) (whole : Option Reply) → (after_told (wants_on paged_halves) (after_on paged_halves) it reply whole).piece ≡ it.piece
same_piece_by it reply None = refl
same_piece_by it reply (Some whole) = refl

pub same_piece : (it : InHand) (reply : Reply) → (pieces_after it reply).piece ≡ it.piece
same_piece it reply = same_piece_by it reply (whole_reply it.piece it.part.items (wants_on paged_halves it.conversation) reply)

left_short : (again : Bool) (part : List ℕ) → length part < 128 → length (part_left again part) < 128
left_short true part short = short
left_short false part short = omega arith

module _ (it : InHand) (reply : Reply) (was_short : length it.part.items < 128) (answers : IsReplyTo (pieces_want it) reply) where
  abbrev asked : Next (Unit {0})
  asked = wants_on paged_halves it.conversation

  abbrev part : List ℕ
  part = it.part.items

  not_whole : (reply : Reply) → whole_reply it.piece part asked reply ≡ None → length (part ++ bytes_in reply) ≡ 128 → ⊥
  not_whole (Bytes bytes) none full = go (fits it.piece part && is_half_in asked) none where
    ends : (whole : Bool) → (length (part ++ bytes.items) == 128) ≡ whole → (if whole then Some (Bytes (record { items = part ++ bytes.items })) else None) ≡ None → ⊥
    ends true e none = cc
    ends false e none = let is = eq-eqb (length (part ++ bytes.items)) 128 full in cc

    go : (half : Bool) → (if half then half_of (part ++ bytes.items) else Some (Bytes bytes)) ≡ None → ⊥
    go true none = ends (length (part ++ bytes.items) == 128) refl none
    go false none = cc
  not_whole Done none full = cc
  not_whole Refused none full = cc

  short : whole_reply it.piece part asked reply ≡ None → length (part ++ bytes_in reply) < 128
  short none =
      let most = none_room it.piece part asked reply none answers in
      let other : length (part ++ bytes_in reply) ≡ 128 → ⊥ = not_whole reply none in
      omega (arith, most, other, length-append part (bytes_in reply))

  short_by : (whole : Option Reply) → whole_reply it.piece part asked reply ≡ whole → length (after_told (wants_on paged_halves) (after_on paged_halves) it reply whole).part.items < 128
  short_by None none = short none
  short_by (Some whole) is = left_short (refused reply && is_same_wanted (op_of asked) (op_of (wants_on paged_halves (after_on paged_halves it.conversation whole)))) part was_short

  pub stays_short : length (pieces_after it reply).part.items < 128
  stays_short = short_by (whole_reply it.piece part asked reply) refl

-- ---- the halves

pub in_front : (half : HalfBytes) (copied halves : List HalfBytes) (n : ℕ) → copied ≡ take 4 halves → n < 5 → take (n + 1) (half ∷ (copied ++ [])) ≡ half ∷ take n halves
in_front half copied halves n is few =
    let one : suc n ≡ n + 1 = omega arith in
    let rest : take n (copied ++ []) ≡ take n halves = ap (λ (l : List HalfBytes). take n l) (append-nil copied ∙ is) ∙ take-take n 4 halves (omega (arith, few)) in
    subst (λ (k : ℕ). take k (half ∷ (copied ++ [])) ≡ half ∷ take n halves) one (ap (λ (l : List HalfBytes). half ∷ l) rest)

both : (a b : Bool) → IsTrue a → IsTrue b → IsTrue (a && b)
both true b one other = other
both false b one other = one

pub grows : (half : HalfBytes) (rest : List HalfBytes) → map.insert (memory_of rest) (key_of half) half.bytes ≡ memory_of (half ∷ rest)
unfolding memory_of
grows half rest = refl

-- the numbers and the halves after the reply
pub record Later (read : Patient InHand) (number : ℕ) (new : List HalfBytes) : Type 0 where
  pub numbers : HasNumbers read number
  pub halves : HasRead read (take number new)

module _ (read : Patient InHand) (reply : Reply) (answers : IsReplyTo (wants_patiently pieces_want read) reply) (count : ℕ) (has : HasNumbers read count) where
  abbrev later : Patient InHand
  later = after_patiently pieces_want pieces_after read reply

  few_settled : (halves_of read).settled < 5
  few_settled = placed read.conversation.conversation reply (made pieces_want read reply answers).1

  pub few_counted : count < 5
  few_counted = let few = few_settled in omega (arith, few, has.count)

  numbers_by : (number : ℕ) → (halves_of later).settled ≤ (halves_of read).settled + 1 → number ≤ (halves_of later).settled → HasNumbers later number
  numbers_by number most counted =
      let (fewer, own) = made pieces_want read reply answers in
      let few = few_settled in
      let pieces = read.conversation.conversation in
      record {
        room = (has.room.0, omega (arith, fewer, has.room.0), omega (arith, few, most), omega (arith, most, has.room.3));
        count = counted;
        piece = subst (λ (n : ℕ). 0 < n) (sym (same_piece pieces reply)) has.piece;
        part = stays_short pieces reply has.part own;
      }

  pub later_by : (half : Option HalfBytes) (number : ℕ) (before halves : List HalfBytes) → HasHalf half (halves_of read) (halves_of later) → HasRead read (take count before) →
      IsInFront half count before number halves → Later later number halves
  later_by None number before halves (image, less, more) (same, places) (counted, is) = record {
    numbers = numbers_by number more (omega (arith, counted, less, has.count));
    halves = subst (λ (l : List HalfBytes). HasRead later l) (ap (λ (l : List HalfBytes). take count l) (sym is) ∙ ap (λ (n : ℕ). take n halves) (sym counted)) (image ∙ same, places);
  }
  later_by (Some half) number before halves ((bytes, image, settled), place) (same, places) (counted, is) = record {
    numbers = numbers_by number (omega (arith, settled)) (omega (arith, counted, settled, has.count));
    halves = subst (λ (l : List HalfBytes). HasRead later l) (sym is)
        (image ∙ ap (λ memory. map.insert memory (key_of half) half.bytes) same ∙ grows half (take count before), both (has_place half) (list_all has_place (take count before)) place places);
  }

-- the halves that were read, with the new one before them if there is one
pub grown : (half : Option HalfBytes) (count : ℕ) (before : List HalfBytes) (number : ℕ) (after : List HalfBytes) → IsInFront half count before number after →
    HasInFront (take count before) (take number after)
grown None count before number after (counted, is) = inl (ap (λ (l : List HalfBytes). take number l) is ∙ ap (λ (n : ℕ). take n before) counted)
grown (Some half) count before number after (counted, is) = inr (half, is)
