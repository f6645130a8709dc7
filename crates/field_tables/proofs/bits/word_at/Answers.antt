use Rattle.std.proofs.Common.{◌≡◌, ◌<◌, ℕ, suc, ◌+◌, ◌*◌, List, get_or, sym, ap, ◌∙◌, arith}
use Rattle.std.proofs.lemmas.Grind.{common_steps}
use Rattle.paged_memory.specs.Images.{place_in_half}
use Rattle.field_tables.specs.Halves.{byte_in}
use Rattle.field_tables.proofs.PlaceNumbers.{number-word}
use Rattle.field_tables.proofs.bits.word_at.Goals as goal

next_place : (address : ℕ) → place_in_half address + 1 < 128 → place_in_half address + 1 ≡ place_in_half (suc address)
next_place address inside = grind (arith)

shown : (bytes : List ℕ) (start address : ℕ) → start ≡ place_in_half address → start + 1 ≡ place_in_half (suc address) →
    get_or bytes start 0 * 256 + get_or bytes (start + 1) 0 ≡ byte_in bytes address * 256 + byte_in bytes (suc address)
shown bytes start address first next = ap (λ (i : ℕ). get_or bytes i 0 * 256 + get_or bytes (start + 1) 0) first ∙ ap (λ (i : ℕ). byte_in bytes address * 256 + get_or bytes i 0) next

pub returns : goal.returns
returns c =
    let start = c.index_in_half.result in
    let address = c.args.address in
    let bytes = c.args.bytes.now in
    let read : c.read_u16.result ≡ get_or bytes start 0 * 256 + get_or bytes (start + 1) 0 = grind (arith, common_steps) in
    let next : start + 1 ≡ place_in_half (suc address) = ap (λ (n : ℕ). n + 1) c.index_in_half.ensures ∙ next_place address c.requires.inside in
    read ∙ shown bytes start address c.index_in_half.ensures next
    ∙ sym (number-word (byte_in bytes) address (c.fits-bytes (place_in_half address)) (c.fits-bytes (place_in_half (suc address))))
