-- The halves of a reading of statistics, the newest in front.
use Rattle.std.proofs.Common.{◌≡◌, ◌≤◌, ◌<◌, ◌+◌, ℕ, suc, List, [], ◌∷◌, ◌++◌, Option, Some, length, min, take, refl, ap, sym, subst, ◌∙◌, arith}
use Rattle.std.specs.FinMap as map
use Rattle.std.proofs.lemmas.List.{append-nil, length-take, take-take, take_min}
use Rattle.arrayvec.specs.ArrayVec.{ArrayVec}
use Rattle.bus_model.specs.declared.operation.Reply.{Reply}
use Rattle.bus_model.specs.declared.operation.Reply.TheVariants.{Bytes}
use Rattle.paged_memory.specs.declared.key.Key.{Key}
use Rattle.saved_vdm.specs.VdmTurns.{count_of, image_with}
use Rattle.vdm_reading.specs.VdmStages as vdm
use Rattle.firmware_api.specs.declared.half.HalfBytes.{HalfBytes}
use Rattle.firmware_api.specs.Halves.{half_at, key_of, memory_of}
use Rattle.firmware_api.specs.VdmTold.{halves_with}
use Rattle.firmware_api.proofs.HalfMemories.{memory_has_few, same_insert}
use Rattle.firmware_api.proofs.ReadingRoom.{grows}

pub in_front : (half : HalfBytes) (copied halves : List HalfBytes) → copied ≡ take 14 halves → half ∷ (copied ++ []) ≡ half ∷ take 14 halves
in_front half copied halves is = ap (λ (l : List HalfBytes). half ∷ l) (append-nil copied ∙ is)

-- the first of them then
first_after : (half : HalfBytes) (before after : List HalfBytes) → after ≡ half ∷ take 14 before → (n : ℕ) → n < 15 → take (n + 1) after ≡ half ∷ take n before
first_after half before after is n few =
    let one : suc n ≡ n + 1 = omega arith in
    ap (λ (l : List HalfBytes). take (n + 1) l) is
    ∙ subst (λ (k : ℕ). take k (half ∷ take 14 before) ≡ half ∷ take n before) one (ap (λ (l : List HalfBytes). half ∷ l) (take-take n 14 before (omega (arith, few))))

-- a half of this place and these bytes is put in front
pub memory_more : (half : HalfBytes) (rest after : List HalfBytes) (key : Key) (bytes : List ℕ) → key_of half ≡ key → half.bytes ≡ bytes → after ≡ half ∷ rest →
    memory_of after ≡ map.insert (memory_of rest) key bytes
memory_more half rest after key bytes placed same is =
    ap (λ (l : List HalfBytes). memory_of l) is ∙ sym (grows half rest) ∙ same_insert refl placed same

-- no more halves are known than are counted
pub few_known : (count : ℕ) (halves : List HalfBytes) → map.len (memory_of (take count halves)) ≤ count
few_known count halves =
    let most = memory_has_few (take count halves) in
    let some = length-take count halves in
    omega (arith, most, some)

-- as many of an array of 15 as are counted
pub first_of : (halves : List HalfBytes) (count most : ℕ) → most ≡ min count 15 → length halves ≡ 15 → take most halves ≡ take count halves
first_of halves count most is all = ap (λ (n : ℕ). take n halves) (is ∙ ap (λ (n : ℕ). min count n) (sym all)) ∙ take_min count halves

pub same_half : {key other : Key} {bytes other_bytes : List ℕ} → key ≡ other → bytes ≡ other_bytes → half_at key bytes ≡ half_at other other_bytes
same_half keys bytes = λ i. half_at (keys i) (bytes i)

-- the half of a page that a reply gives is put in front
module _ (page : Option ℕ) (reply : Reply) (before after : List HalfBytes) (half : HalfBytes) (number : ℕ) (bytes : ArrayVec ℕ) where
  pub put_by : page ≡ Some number → reply ≡ Bytes bytes → key_of half ≡ vdm.key_of number → half.bytes ≡ bytes.items →
      after ≡ half ∷ take 14 before → (count : ℕ) → count + count_of page ≤ 15 →
      memory_of (take (count + count_of page) after) ≡ image_with page reply (memory_of (take count before))
  put_by is_page is_reply placed same grown count =
      let given : count + 1 ≤ 15 → memory_of (take (count + 1) after) ≡ image_with (Some number) (Bytes bytes) (memory_of (take count before)) =
      λ room. memory_more half (take count before) (take (count + 1) after) (vdm.key_of number) bytes.items placed same (first_after half before after grown count (omega (arith, room))) in
      subst (λ (p : Option ℕ). count + count_of p ≤ 15 → memory_of (take (count + count_of p) after) ≡ image_with p reply (memory_of (take count before))) (sym is_page)
      (subst (λ (r : Reply). count + 1 ≤ 15 → memory_of (take (count + 1) after) ≡ image_with (Some number) r (memory_of (take count before))) (sym is_reply) given)

  pub put_at : page ≡ Some number → reply ≡ Bytes bytes → half ≡ half_at (vdm.key_of number) bytes.items → after ≡ half ∷ take 14 before → after ≡ halves_with page reply before
  put_at is_page is_reply placed grown =
      grown
      ∙ ap (λ (front : HalfBytes). front ∷ take 14 before) placed
      ∙ sym (λ i. halves_with (is_page i) (is_reply i) before)
