-- While blocks are sent, what a module has received of a download is the file's; completed, it is the whole file.
use Rattle.std.proofs.Common.{◌≡◌, ◌⊎◌, ℕ, ◌+◌, ◌-◌, ◌<◌, ◌≤◌, ◌++◌, List, [], ◌∷◌, length, take, drop, Option, Some, None, refl, sym, subst, ap, inl, inr, ◌∙◌, arith}
use Rattle.std.proofs.Math.Seq.{take-add}
use Rattle.std.proofs.lemmas.List.{take_all, take-append-drop, drop-drop, length-take, length-drop}
use Rattle.command_block.specs.declared.outcome.Outcome.{Outcome}
use Rattle.firmware_update.specs.declared.command.Command.{Command}
use Rattle.firmware_update.specs.declared.command.Command.TheVariants.{Start, Block, Complete}
use Rattle.firmware_update.specs.declared.exchange.Exchange.{Exchange}
use Rattle.firmware_update.specs.Blocks.{block_length}
use Rattle.firmware_laws.specs.Contents.{IsOpen, KeepsBelow, MakesImage, PutsAt, HasSucceeded, StoresContents}
use Rattle.firmware_update.specs.Exchanges.{History, Stands, Succeeds}
use Rattle.firmware_laws.specs.Modules.{Answer, ComesTo, Conduct, Download, Endures, Firmware, Passes, held}
use Rattle.firmware_update.specs.Payloads.{block_bytes, message_of}
use Rattle.firmware_update.specs.Replies.{other_bank}
use Rattle.firmware_update.specs.Safety.{IsSafe, MaySend, Received, ReportsStartSize}
use Rattle.firmware_laws.proofs.PowerLoss.{passes_endures, passes_learnt}
use Rattle.firmware_update.proofs.Told.{fits}

told_less : (size header : ℕ) (h : History) → Stands (ReportsStartSize size header) h → header < size
told_less size header [] tells = absurd tells
told_less size header (x ∷ before) (inl (reply, is, was, says)) = fits size header reply.items says
told_less size header (x ∷ before) (inr tells) = told_less size header before tells

-- a list that begins alike is as long
long : (n : ℕ) (xs ys : List ℕ) → take n xs ≡ take n ys → n ≤ length ys → n ≤ length xs
long n xs ys same fits_ys = omega (arith, sym (length-take n xs) ∙ (ap (λ (l : List ℕ). length l) same ∙ length-take n ys))

endures_download : (before after : Firmware) → Endures before after → (after.download ≡ None) ⊎ (after.download ≡ before.download)
endures_download before after (inl same) = inr (ap (λ (f : Firmware). f.download) same)
endures_download before after (inr (inl (keeps, boots, opened, still))) = opened
endures_download before after (inr (inr (bank, was, keeps, can, runs_it, opened, still))) = opened

module _ (file : List ℕ) where
  abbrev begun_with : ℕ → List ℕ → Download
  begun_with header memory = record { size = length file; first = take header file; rest = memory }

  -- no download is open, or one of the file, with the bytes below this address
  abbrev pub IsGood : ℕ → ℕ → Option Download → Type 0
  IsGood header address download =
      (download ≡ None) ⊎ ((memory : List ℕ) × (download ≡ Some (begun_with header memory)) × (take address memory ≡ take address (drop header file)))

  good_endures : (header address : ℕ) (before after : Firmware) → Endures before after → IsGood header address before.download → IsGood header address after.download
  good_endures header address before after endures good = by (endures_download before after endures)
    where
      by : (after.download ≡ None) ⊎ (after.download ≡ before.download) → IsGood header address after.download
      by (inl none) = inl none
      by (inr same) = subst (IsGood header address) (sym same) good

  pub received_fits : (header address : ℕ) (h : History) → IsSafe (length file) h → Received (length file) header address h → address + header ≤ length file
  received_fits header address [] safe got = absurd got
  received_fits header address (x ∷ before) safe (inl (missed, got)) = received_fits header address before safe.1 got
  received_fits header address (x ∷ before) safe (inr (inl (none, began))) =
      let may = subst (λ (c : Command). MaySend (length file) c before) began.1 safe.0 in
      omega (arith, none, told_less (length file) header before may.1)
  received_fits header address (x ∷ before) safe (inr (inr (below, is, taken, got))) =
      let may = subst (λ (c : Command). MaySend (length file) c before) taken.1 safe.0 in
      omega (arith, is, may.1)

  -- the bytes below the address, and a block there
  block_joins : (header address : ℕ) (memory rest : List ℕ) → take address rest ≡ take address (drop header file)
      → take (address + length (block_bytes file header address)) memory ≡ take address rest ++ block_bytes file header address
      → take (address + block_length (length file) header address) memory ≡ take (address + block_length (length file) header address) (drop header file)
  block_joins header address memory rest same put =
      let few : length (block_bytes file header address) ≡ block_length (length file) header address =
      omega (arith, length-take (block_length (length file) header address) (drop (header + address) file), length-drop (header + address) file) in
      subst (λ (n : ℕ). take (address + n) memory ≡ take address rest ++ block_bytes file header address) few put
      ∙ (ap (λ (l : List ℕ). l ++ block_bytes file header address) same
      ∙ (ap (λ (l : List ℕ). take address (drop header file) ++ take (block_length (length file) header address) l) (sym (drop-drop address header file))
      ∙ sym (take-add address (block_length (length file) header address) (drop header file))))

  put_good : (header address : ℕ) (before after : Firmware) → PutsAt address (block_bytes file header address) before after
      → address + header ≤ length file → IsGood header address before.download → IsGood header (address + block_length (length file) header address) after.download
  put_good header address before after (was, memory, open_before, open_after, put) small (inl none) = absurd cc
  put_good header address before after (was, memory, open_before, open_after, put) small (inr (rest, is, same)) =
      let w : was ≡ begun_with header rest = cc in
      let there : address ≤ length rest = long address rest (drop header file) same (omega (arith, length-drop header file)) in
      subst
      (λ (d : Download). IsOpen d.size d.first memory after
      → (address ≤ length d.rest → take (address + length (block_bytes file header address)) memory ≡ take address d.rest ++ block_bytes file header address)
      → IsGood header (address + block_length (length file) header address) after.download)
      (sym w)
      (λ opened puts. inr (memory, opened, block_joins header address memory rest same (puts there)))
      open_after put

  keep_good : (header address : ℕ) (before after : Firmware) → KeepsBelow address before after
      → address + header ≤ length file → IsGood header address before.download → IsGood header address after.download
  keep_good header address before after (inl none) small good = inl none
  keep_good header address before after (inr (was, memory, open_before, open_after, keeps)) small (inl none) = absurd cc
  keep_good header address before after (inr (was, memory, open_before, open_after, keeps)) small (inr (rest, is, same)) =
      let w : was ≡ begun_with header rest = cc in
      let there : address ≤ length rest = long address rest (drop header file) same (omega (arith, length-drop header file)) in
      subst
      (λ (d : Download). IsOpen d.size d.first memory after → (address ≤ length d.rest → take address memory ≡ take address d.rest) → IsGood header address after.download)
      (sym w)
      (λ opened kept. inr (memory, opened, kept there ∙ same))
      open_after keeps

  made : (header : ℕ) (before after : Firmware) → MakesImage before after → header ≤ length file
      → IsGood header (length file - header) before.download → (held after (other_bank before.running)).image ≡ file
  made header before after (was, open_before, image) small (inl none) = absurd cc
  made header before after (was, open_before, image) small (inr (rest, is, same)) =
      let w : was ≡ begun_with header rest = cc in
      let first_long : length (take header file) ≡ header = omega (arith, length-take header file) in
      image
      ∙ (ap (λ (d : Download). d.first ++ take (d.size - length d.first) d.rest) w
      ∙ (ap (λ (n : ℕ). take header file ++ take (length file - n) rest) first_long
      ∙ (ap (λ (l : List ℕ). take header file ++ l) (same ∙ take_all (length file - header) (drop header file) (omega (arith, length-drop header file)))
      ∙ take-append-drop header file)))

  module _ (conduct : Conduct) (contents : StoresContents conduct) (first : Firmware) where
    abbrev after_of : Command → ℕ → Firmware → Firmware
    after_of command choice before = (conduct (message_of file command) choice before).after

    abbrev answer_of : Command → ℕ → Firmware → Answer
    answer_of command choice before = conduct (message_of file command) choice before

    says_done : (x : Exchange) (command : Command) (choice : ℕ) (earlier last : Firmware) → Succeeds command x → Passes (answer_of x.command choice earlier) x.outcome last
        → HasSucceeded (answer_of x.command choice earlier)
    says_done x command choice earlier last (reply, is, was, any) passes =
        (reply, passes_learnt (answer_of x.command choice earlier) reply last (subst (λ (o : Outcome). Passes (answer_of x.command choice earlier) o last) was passes))

    starts : (header : ℕ) (command : Command) (choice : ℕ) (before : Firmware) → command ≡ Start header → HasSucceeded (answer_of command choice before)
        → IsGood header 0 (after_of command choice before).download
    starts header command choice before is =
        subst (λ (c : Command). HasSucceeded (answer_of c choice before) → IsGood header 0 (after_of c choice before).download) (sym is)
        (λ done. let (memory, opened) = contents.started (length file) (take header file) choice before done in inr (memory, opened, refl))

    stores : (header address : ℕ) (command : Command) (choice : ℕ) (before : Firmware) → command ≡ Block header address → HasSucceeded (answer_of command choice before)
        → PutsAt address (block_bytes file header address) before (after_of command choice before)
    stores header address command choice before is =
        subst (λ (c : Command). HasSucceeded (answer_of c choice before) → PutsAt address (block_bytes file header address) before (after_of c choice before)) (sym is)
        (contents.stored address (block_bytes file header address) choice before)

    misses : (header address : ℕ) (command : Command) (choice : ℕ) (before : Firmware) → command ≡ Block header address → KeepsBelow address before (after_of command choice before)
    misses header address command choice before is =
        subst (λ (c : Command). KeepsBelow address before (after_of c choice before)) (sym is) (contents.missed address (block_bytes file header address) choice before)

    makes : (command : Command) (choice : ℕ) (before : Firmware) → command ≡ Complete → HasSucceeded (answer_of command choice before) → MakesImage before (after_of command choice before)
    makes command choice before is =
        subst (λ (c : Command). HasSucceeded (answer_of c choice before) → MakesImage before (after_of c choice before)) (sym is) (contents.completed choice before)

    pub received_good : (header address : ℕ) (h : History) (last : Firmware) → IsSafe (length file) h → ComesTo conduct file first h last
        → Received (length file) header address h → IsGood header address last.download
    received_good header address [] last safe comes got = absurd got
    received_good header address (x ∷ before) last safe (earlier, choice, comes, passes) (inl (missed, got)) =
        good_endures header address (after_of x.command choice earlier) last (passes_endures _ x.outcome last passes)
        (keep_good header address earlier (after_of x.command choice earlier) (misses header address x.command choice earlier missed.0)
        (received_fits header address before safe.1 got) (received_good header address before earlier safe.1 comes got))
    received_good header address (x ∷ before) last safe (earlier, choice, comes, passes) (inr (inl (none, began))) =
        good_endures header address (after_of x.command choice earlier) last (passes_endures _ x.outcome last passes)
        (subst (λ (n : ℕ). IsGood header n (after_of x.command choice earlier).download) (sym none)
        (starts header x.command choice earlier began.1 (says_done x (Start header) choice earlier last began passes)))
    received_good header address (x ∷ before) last safe (earlier, choice, comes, passes) (inr (inr (below, is, taken, got))) =
        good_endures header address (after_of x.command choice earlier) last (passes_endures _ x.outcome last passes)
        (subst (λ (n : ℕ). IsGood header n (after_of x.command choice earlier).download) (sym is)
        (put_good header below earlier (after_of x.command choice earlier) (stores header below x.command choice earlier taken.1 (says_done x (Block header below) choice earlier last taken passes))
        (received_fits header below before safe.1 got) (received_good header below before earlier safe.1 comes got)))

    -- a Complete that succeeds
    pub completes : (x : Exchange) (before : History) (choice : ℕ) (earlier last : Firmware) → IsSafe (length file) before → MaySend (length file) Complete before
        → ComesTo conduct file first before earlier → Succeeds Complete x → Passes (answer_of x.command choice earlier) x.outcome last
        → (held (after_of x.command choice earlier) (other_bank earlier.running)).image ≡ file
    completes x before choice earlier last safe (header, less, got) comes done passes =
        made header earlier (after_of x.command choice earlier) (makes x.command choice earlier done.1 (says_done x Complete choice earlier last done passes))
        (omega arith) (received_good header (length file - header) before earlier safe comes got)
