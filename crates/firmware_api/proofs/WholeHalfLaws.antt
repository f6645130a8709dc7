-- What a reply makes of the halves of a reading.
use Rattle.std.proofs.Common.{◌≡◌, ℕ, ◌<◌, ◌≤◌, ◌==◌, Bool, true, false, List, length, Option, Some, None, refl, sym, ap, subst, ◌∙◌, if◌then◌else◌, arith}
use Rattle.std.specs.Prelude.{◌&&◌, ◌||◌, is_some, not}
use Rattle.std.specs.FinMap as map
use Rattle.std.specs.Option.{option_map}
use Rattle.std.proofs.lemmas.Bool.Decides.{nat_tests}
use Rattle.std.proofs.lemmas.Option.{slice_get_within}
use Rattle.arrayvec.specs.ArrayVec.{ArrayVec}
use Rattle.bus_model.specs.declared.operation.Reply.{Reply}
use Rattle.bus_model.specs.declared.operation.Reply.TheVariants.{Bytes, Done, Refused}
use Rattle.bus_model.specs.Operations.{Answers}
use Rattle.conversations.specs.declared.on_page.OnPage.{OnPage}
use Rattle.conversations.specs.Pauses.{is_refused}
use Rattle.conversations.specs.Selecting.{after_missing, chosen, doubting, lacked, next_on, on_after, taken_after, told_lacked}
use Rattle.conversations.specs.Wanted.{IsReplyTo}
use Rattle.paged_memory.specs.declared.key.Key.{Key}
use Rattle.paged_memory.specs.declared.page_addressing.KnownPage.{KnownPage}
use Rattle.paged_memory.specs.declared.page_addressing.KnownPage.TheVariants.{Unknown}
use Rattle.paged_memory.specs.declared.page_addressing.PageAddressing.{PageAddressing}
use Rattle.paged_memory.specs.Images.{Memory, most_pages}
use Rattle.paged_memory.specs.KnownPages.{is_awaited, missing_page, selecting_first, selection_told, wanted}
use Rattle.paged_memory.specs.PageAddressing.{read_selection}
use Rattle.module_reading.specs.declared.halves.Halves.{Halves}
use Rattle.module_reading.specs.declared.region.Region.{Region}
use Rattle.module_reading.specs.declared.region.Region.TheVariants.{Lower}
use Rattle.module_reading.specs.Regions.{key_of, operation, regions_of}
use Rattle.module_reading.specs.ImageReading.{addressing, after_fetch, after_lack, after_reply, in_hand, leaving_out, put_in, wants_by}
use Rattle.module_reading.proofs.RegionLaws.{at_most_five}
use Rattle.port_manager.specs.Jobs.{paged_halves}
use Rattle.port_manager.specs.Patients.{after_on, wants_on}
use Rattle.firmware_api.specs.KeptConversations.{OnHalves}
use Rattle.firmware_api.specs.SavedConversations.{Leaves, Puts}
use Rattle.firmware_api.specs.WholeHalves.{if_bytes, kept}

-- ---- whatever is within: it is as it was, was told the reply, or was told that a page isn't there

module _ {C : Type 0} (after : C → Reply → C) (lacking : C → ℕ → C) (may : Bool) (by : PageAddressing) (page : Option ℕ) (on : OnPage C) (reply : Reply) where
  abbrev later : Bool → Option ℕ → OnPage C
  later awaited missing =
      if awaited then record {
        conversation = told_lacked lacking (lacked by page on.taken reply) on.conversation;
        selection = selection_told by on.selection reply;
        taken = taken_after on.taken reply;
        doubts = on.doubts;
      }
      else after_missing after may missing on reply

  doubt_keeps : (trusting : OnPage C) → (doubting trusting reply).conversation ≡ trusting.conversation
  doubt_keeps trusting = go (trusting.doubts && is_refused reply)
    where
      go : (doubts : Bool) → (if doubts then record { conversation = trusting.conversation; selection = Unknown; taken = None; doubts = trusting.doubts } else trusting).conversation ≡ trusting.conversation
      go true = refl
      go false = refl

  pub as_trusting : (P : C → Type 0) → P (later (is_awaited on.selection) (missing_page on.selection page)).conversation → P (on_after after lacking may by page on reply).conversation
  as_trusting P holds = subst P (sym (doubt_keeps (later (is_awaited on.selection) (missing_page on.selection page)))) holds

  lacked_by_cases : (P : C → Type 0) (lacks : Option ℕ) → P on.conversation → ((number : ℕ) → P (lacking on.conversation number)) → P (told_lacked lacking lacks on.conversation)
  lacked_by_cases P None same lack = same
  lacked_by_cases P (Some number) same lack = lack number

  by_cases : (P : C → Type 0) (awaited : Bool) (missing : Option ℕ) → P on.conversation → P (after on.conversation reply) → ((number : ℕ) → P (lacking on.conversation number)) → P (later awaited missing).conversation
  by_cases P true missing same told lack = lacked_by_cases P (lacked by page on.taken reply) same lack
  by_cases P false (Some number) same told lack = same
  by_cases P false None same told lack = told

  pub on_page_by : (P : C → Type 0) → P on.conversation → P (after on.conversation reply) → ((number : ℕ) → P (lacking on.conversation number)) → P (on_after after lacking may by page on reply).conversation
  on_page_by P same told lack = as_trusting P (by_cases P (is_awaited on.selection) (missing_page on.selection page) same told lack)

-- ---- and whether it doubts

module _ {C : Type 0} (after : C → Reply → C) (lacking : C → ℕ → C) (may : Bool) (by : PageAddressing) (page : Option ℕ) (on : OnPage C) (reply : Reply) where
  later_doubts : (awaited : Bool) (missing : Option ℕ) → (later after lacking may by page on reply awaited missing).doubts ≡ on.doubts
  later_doubts false None = refl
  later_doubts _ _ = refl

  doubting_doubts : (trusting : OnPage C) → (doubting trusting reply).doubts ≡ trusting.doubts
  doubting_doubts trusting = go (trusting.doubts && is_refused reply)
    where
      go : (doubts : Bool) → (if doubts then record { conversation = trusting.conversation; selection = Unknown; taken = None; doubts = trusting.doubts } else trusting).doubts ≡ trusting.doubts
      go true = refl
      go false = refl

  pub keeps_doubts : (on_after after lacking may by page on reply).doubts ≡ on.doubts
  keeps_doubts =
      doubting_doubts (later after lacking may by page on reply (is_awaited on.selection) (missing_page on.selection page))
      ∙ later_doubts (is_awaited on.selection) (missing_page on.selection page)

-- ---- what the reply is one to

-- a half is in hand, and the reply is one to its fetch, or to the selection of its page
record Asks (found : Option Region) (by : PageAddressing) (selected : KnownPage) (page : Option ℕ) (reply : Reply) : Type 0 where
  pub region : Region
  pub is : found ≡ Some region
  pub answers : Answers (wanted by selected page (operation region)) reply

asks_by : (by : PageAddressing) (selected : KnownPage) (page : Option ℕ) (found : Option Region) (reply : Reply) →
    IsReplyTo (next_on by selected page (wants_by found)) reply → Asks found by selected page reply
asks_by by selected page None reply answers = absurd answers
asks_by by selected page (Some region) reply answers = record { region = region; is = refl; answers = answers }

asks : (on : OnHalves) (reply : Reply) → IsReplyTo (wants_on paged_halves on) reply → Asks (in_hand on.conversation) (chosen (addressing on.conversation)) on.selection (paged_halves.page on.conversation) reply
asks on reply answers = asks_by (chosen (addressing on.conversation)) on.selection (paged_halves.page on.conversation) (in_hand on.conversation) reply answers

pub placed_by : (halves : Halves) (region : Region) → in_hand halves ≡ Some region → halves.settled < 5
placed_by halves region is =
    let within = slice_get_within (regions_of halves.request halves.image) halves.settled region is in
    let most = at_most_five halves.request halves.image in
    omega (arith, within, most)

pub placed_on : (on : OnHalves) (reply : Reply) → IsReplyTo (wants_on paged_halves on) reply → on.conversation.settled < 5
placed_on on reply answers = let asked = asks on reply answers in placed_by on.conversation asked.region asked.is

-- ---- the half that it gives

-- the reply puts its bytes into the image there, or leaves the image
abbrev pub Keeps : Option Key → Reply → Halves → Halves → Type 0
Keeps None reply halves later = Leaves halves later
Keeps (Some key) (Bytes bytes) halves later = Puts halves key bytes.items later
Keeps (Some key) Done halves later = ⊥
Keeps (Some key) Refused halves later = ⊥

pub stays : (halves : Halves) → Leaves halves halves
stays halves = (refl, omega arith, omega arith)

left_out : (halves : Halves) (found : Option Region) → Leaves halves (leaving_out found halves)
left_out halves None = stays halves
left_out halves (Some region) = (refl, omega arith, omega arith)

lacks : (halves : Halves) (page : Option ℕ) → Leaves halves (told_lacked (λ (h : Halves) (number : ℕ). after_lack h) page halves)
lacks halves None = stays halves
lacks halves (Some page) = left_out halves (in_hand halves)

not_full : (n : ℕ) (there : Bool) → n ≤ 5 → (n == most_pages && there) ≡ false
not_full n there few =
    let other : (n == most_pages) ≡ false = grind (arith, nat_tests, few) in
    ap (λ (b : Bool). b && there) other

has_room : (image : Memory) (key : Key) (bytes : List ℕ) → map.len image ≤ 5 → put_in image key bytes ≡ map.insert image key bytes
has_room image key bytes few = ap (λ (b : Bool). if b then image else map.insert image key bytes) (not_full (map.len image) (not (map.contains_key image key)) few)

whole_half : (region : Region) (bytes : ArrayVec ℕ) → Answers (operation region) (Bytes bytes) → length bytes.items ≡ 128
whole_half (Lower dev) bytes answers = answers
whole_half _ bytes answers = answers

fetched : (halves : Halves) (found : Option Region) (region : Region) (reply : Reply) → map.len halves.image ≤ 5 → found ≡ Some region → Answers (operation region) reply →
    Keeps (if_bytes (option_map key_of found) reply) reply halves (after_fetch found halves reply)
fetched halves None region reply few is answers = absurd cc
fetched halves (Some found) region (Bytes bytes) few is answers = (whole_half region bytes answers, has_room halves.image (key_of found) bytes.items few, refl)
fetched halves (Some found) region Done few is answers = stays halves
fetched halves (Some found) region Refused few is answers = stays halves

module _ (on : OnHalves) (reply : Reply) where
  abbrev by : PageAddressing
  by = chosen (addressing on.conversation)

  abbrev page : Option ℕ
  page = paged_halves.page on.conversation

  abbrev lacking : Halves → ℕ → Halves
  lacking halves number = after_lack halves

  keeps_by : (awaited : Bool) (missing : Option ℕ) (region : Region) → map.len on.conversation.image ≤ 5 → in_hand on.conversation ≡ Some region →
      Answers (if awaited then read_selection by else selecting_first by (operation region) missing) reply →
      Keeps (if awaited || is_some missing then None else if_bytes (option_map key_of (in_hand on.conversation)) reply) reply on.conversation
      (later after_reply lacking true by page on reply awaited missing).conversation
  keeps_by true missing region few is answers = lacks on.conversation (lacked by page on.taken reply)
  keeps_by false (Some number) region few is answers = stays on.conversation
  keeps_by false None region few is answers = fetched on.conversation (in_hand on.conversation) region reply few is answers

  -- what the reply makes of the halves
  pub keeps : map.len on.conversation.image ≤ 5 → IsReplyTo (wants_on paged_halves on) reply → Keeps (kept on reply) reply on.conversation (after_on paged_halves on reply).conversation
  keeps few answers =
      let asked = asks on reply answers in
      as_trusting after_reply lacking true by page on reply (λ (h : Halves). Keeps (kept on reply) reply on.conversation h)
      (keeps_by (is_awaited on.selection) (missing_page on.selection page) asked.region few asked.is asked.answers)

module _ (on : OnHalves) (few : map.len on.conversation.image ≤ 5) where
  abbrev after : Reply → Halves
  after reply = (after_on paged_halves on reply).conversation

  pub no_half : (reply : Reply) → IsReplyTo (wants_on paged_halves on) reply → kept on reply ≡ None → Leaves on.conversation (after reply)
  no_half reply answers none = subst (λ (key : Option Key). Keeps key reply on.conversation (after reply)) none (keeps on reply few answers)

  one_half : (bytes : ArrayVec ℕ) (key : Key) → IsReplyTo (wants_on paged_halves on) (Bytes bytes) → kept on (Bytes bytes) ≡ Some key → Puts on.conversation key bytes.items (after (Bytes bytes))
  one_half bytes key answers is = subst (λ (key : Option Key). Keeps key (Bytes bytes) on.conversation (after (Bytes bytes))) is (keeps on (Bytes bytes) few answers)

  pub half_given : (reply : Reply) (bytes : ArrayVec ℕ) (key : Key) → reply ≡ Bytes bytes → IsReplyTo (wants_on paged_halves on) reply → kept on reply ≡ Some key → Puts on.conversation key bytes.items (after reply)
  half_given reply bytes key same answers is =
      subst (λ (r : Reply). IsReplyTo (wants_on paged_halves on) r → kept on r ≡ Some key → Puts on.conversation key bytes.items (after r)) (sym same) (one_half bytes key) answers is

  -- only bytes are a half
  none_of : (selects : Bool) (key : Option Key) (reply : Reply) → if_bytes key reply ≡ None → (if selects then None else if_bytes key reply) ≡ None
  none_of true key reply none = refl
  none_of false key reply none = none

  pub other_reply : (reply : Reply) → IsReplyTo (wants_on paged_halves on) reply → ((key : Option Key) → if_bytes key reply ≡ None) → Leaves on.conversation (after reply)
  other_reply reply answers none =
      let key : Option Key = option_map key_of (in_hand on.conversation) in
      no_half reply answers (none_of (is_awaited on.selection || is_some (missing_page on.selection (paged_halves.page on.conversation))) key reply (none key))
