-- The numbers of a reading stand for it.
use Rattle.std.proofs.Common.{◌≡◌, ◌≤◌, ◌+◌, ◌∙◌, ℕ, ◌==◌, ◌&&◌, nat_le, Bool, true, false, length, length-take, Some, None, cond, take, ap, refl, sym, subst, arith}
use Rattle.std.proofs.lemmas.Bool.{and_from, and_parts, eq-eqb, le-leb, leb-true}
use Rattle.paged_memory.specs.Images.{Memory}
use Rattle.vdm_reading.specs.declared.reading.VdmReading.{VdmReading}
use Rattle.vdm_reading.specs.declared.reading.VdmStage.{VdmStage}
use Rattle.vdm_reading.specs.declared.reading.VdmStage.TheVariants as stage
use Rattle.saved_vdm.specs.declared.numbers.SavedVdm.{SavedVdm}
use Rattle.saved_vdm.specs.SavedReadings.{are_codes, are_lists, has_room, is_one, is_sound, most_halves, most_listed, need, page_in, reading_at, reading_in, reading_magic, release_in, stage_in, statistics_in}

-- the parts that a reading under way has
pub record AreParts (saved : SavedVdm) (reading : VdmReading) : Type 0 where
  pub magic : saved.magic ≡ reading_magic
  pub stage_known : saved.stage ≤ 7
  pub statistics_known : saved.statistics ≤ 4
  pub release_known : saved.release ≤ 3
  pub pages_few : saved.page_count ≤ most_listed
  pub todo_few : saved.todo_count ≤ most_listed
  pub todo_count : saved.todo_count ≡ length reading.todo.items
  pub room : saved.halves + need reading.stage (length reading.todo.items) ≤ most_halves
  pub pause : saved.pause ≡ reading.request.pause
  pub bank : saved.bank ≡ reading.request.bank
  pub stage : stage_in saved.stage saved.stage_page ≡ reading.stage
  pub selection : page_in saved.selection saved.page ≡ reading.selection
  pub left : saved.left ≡ reading.left
  pub due : is_one saved.due ≡ reading.due
  pub pages : take saved.page_count saved.pages ≡ reading.pages.items
  pub todo : take saved.todo_count saved.todo ≡ reading.todo.items
  pub control : saved.control ≡ reading.control
  pub statistics : statistics_in saved.statistics ≡ reading.statistics
  pub release : release_in saved.release ≡ reading.release

reading_back : (saved : SavedVdm) (reading : VdmReading) → AreParts saved reading → reading_at saved reading.image ≡ reading
reading_back saved reading parts = λ i. record {
  request = record { pause = parts.pause i; bank = parts.bank i };
  stage = parts.stage i;
  image = reading.image;
  selection = parts.selection i;
  left = parts.left i;
  due = parts.due i;
  pages = record { items = parts.pages i };
  todo = record { items = parts.todo i };
  control = parts.control i;
  statistics = parts.statistics i;
  release = parts.release i;
}

codes : (saved : SavedVdm) (reading : VdmReading) → AreParts saved reading → are_codes saved ≡ true
codes saved reading parts =
    and_from (nat_le saved.stage 7) (nat_le saved.statistics 4 && nat_le saved.release 3) (le-leb saved.stage 7 parts.stage_known)
    (and_from (nat_le saved.statistics 4) (nat_le saved.release 3) (le-leb saved.statistics 4 parts.statistics_known) (le-leb saved.release 3 parts.release_known))

lists : (saved : SavedVdm) (reading : VdmReading) → AreParts saved reading → are_lists saved ≡ true
lists saved reading parts =
    and_from (nat_le saved.page_count most_listed) (nat_le saved.todo_count most_listed)
    (le-leb saved.page_count most_listed parts.pages_few) (le-leb saved.todo_count most_listed parts.todo_few)

rooms : (saved : SavedVdm) (reading : VdmReading) → AreParts saved reading → has_room saved ≡ true
rooms saved reading parts =
    let same : need (stage_in saved.stage saved.stage_page) saved.todo_count ≡ need reading.stage (length reading.todo.items) = λ i. need (parts.stage i) (parts.todo_count i) in
    le-leb (saved.halves + need (stage_in saved.stage saved.stage_page) saved.todo_count) most_halves
    (subst (λ (n : ℕ). saved.halves + n ≤ most_halves) (sym same) parts.room)

sound : (saved : SavedVdm) (reading : VdmReading) → AreParts saved reading → is_sound saved ≡ true
sound saved reading parts =
    and_from (saved.magic == reading_magic) (are_codes saved && (are_lists saved && has_room saved)) (eq-eqb saved.magic reading_magic parts.magic)
    (and_from (are_codes saved) (are_lists saved && has_room saved) (codes saved reading parts)
    (and_from (are_lists saved) (has_room saved) (lists saved reading parts) (rooms saved reading parts)))

pub under_way : (saved : SavedVdm) (reading : VdmReading) → AreParts saved reading → reading_in saved reading.image ≡ Some reading
unfolding reading_in
under_way saved reading parts =
    ap (λ (b : Bool). cond b (Some (reading_at saved reading.image)) None) (sound saved reading parts)
    ∙ ap (λ (r : VdmReading). Some r) (reading_back saved reading parts)

-- ---- what is known of the numbers of a reading

pub record AreFew (saved : SavedVdm) : Type 0 where
  pub pages : saved.page_count ≤ 16
  pub todo : saved.todo_count ≤ 16
  pub room : saved.halves + need (stage_in saved.stage saved.stage_page) saved.todo_count ≤ 15

pub few : (saved : SavedVdm) → is_sound saved ≡ true → AreFew saved
few saved is =
    let later = (and_parts (saved.magic == reading_magic) (are_codes saved && (are_lists saved && has_room saved)) is).1 in
    let listed = (and_parts (are_codes saved) (are_lists saved && has_room saved) later).1 in
    let counted = and_parts (are_lists saved) (has_room saved) listed in
    let each = and_parts (nat_le saved.page_count most_listed) (nat_le saved.todo_count most_listed) counted.0 in
    record {
      pages = leb-true saved.page_count 16 each.0;
      todo = leb-true saved.todo_count 16 each.1;
      room = leb-true (saved.halves + need (stage_in saved.stage saved.stage_page) saved.todo_count) 15 counted.1;
    }

-- ---- there is room for the halves that are still to be read

need_more : (now : VdmStage) (few many : ℕ) → few ≤ many → need now few ≤ need now many
need_more stage.Advertised few many less = omega arith
need_more stage.Groups few many less = omega arith
need_more stage.Freeze few many less = less
need_more stage.Freezing few many less = less
need_more (stage.Page page) few many less = omega (arith, less)
need_more stage.Release few many less = omega arith
need_more stage.Releasing few many less = omega arith
need_more stage.Over few many less = omega arith

some_is : {A : Type 0} (a b : A) → Some a ≡ Some b → a ≡ b
some_is a b same = cc

abbrev Room : ℕ → VdmReading → Type 0
Room halves reading = halves + need reading.stage (length reading.todo.items) ≤ 15

room_at : (saved : SavedVdm) (image : Memory) → is_sound saved ≡ true → Room saved.halves (reading_at saved image)
room_at saved image is =
    let now = stage_in saved.stage saved.stage_page in
    let first = length-take saved.todo_count saved.todo in
    let less = need_more now (length (take saved.todo_count saved.todo)) saved.todo_count (omega (arith, first)) in
    let room = (few saved is).room in
    omega (arith, less, room)

room_by : (saved : SavedVdm) (image : Memory) (reading : VdmReading) (sound : Bool) → is_sound saved ≡ sound →
    cond sound (Some (reading_at saved image)) None ≡ Some reading → Room saved.halves reading
room_by saved image reading true is found =
    subst (λ (it : VdmReading). Room saved.halves it) (some_is (reading_at saved image) reading found) (room_at saved image is)
room_by saved image reading false is found = absurd cc

pub room_of : (saved : SavedVdm) (image : Memory) (reading : VdmReading) → reading_in saved image ≡ Some reading → Room saved.halves reading
unfolding reading_in
room_of saved image reading found = room_by saved image reading (is_sound saved) refl found

-- ---- it has read that image

image_by : (saved : SavedVdm) (image : Memory) (reading : VdmReading) (sound : Bool) → cond sound (Some (reading_at saved image)) None ≡ Some reading → reading.image ≡ image
image_by saved image reading true found = sym (ap (λ (r : VdmReading). r.image) (some_is (reading_at saved image) reading found))
image_by saved image reading false found = absurd cc

pub image_of : (saved : SavedVdm) (image : Memory) (reading : VdmReading) → reading_in saved image ≡ Some reading → reading.image ≡ image
unfolding reading_in
image_of saved image reading found = image_by saved image reading (is_sound saved) found
