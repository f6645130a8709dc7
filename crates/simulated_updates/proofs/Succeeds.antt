-- An update of the simulated module can come to its end: the new image runs and is committed, and it is the file.
use Rattle.std.proofs.Common.{◌≡◌, ℕ, zero, suc, ◌+◌, ◌-◌, ◌<◌, ◌≤◌, ◌++◌, Bool, true, false, cond, nat_lt, List, [], ◌∷◌, length, take, drop, Option, Some, None, Ok, refl, sym, subst, ap, inl, inr, ◌∙◌, arith}
use Rattle.std.proofs.Math.Logic.{⊎_elim}
use Rattle.std.proofs.Math.Seq.{take-add}
use Rattle.std.proofs.lemmas.Bool.{cases_lt, le-ltb, lt-ltb}
use Rattle.std.proofs.lemmas.List.{take_all, take-append-drop, take-take, drop-drop, length-take, length-drop}
use Rattle.command_block.specs.declared.outcome.Outcome.{Outcome}
use Rattle.firmware_update.specs.declared.bank.Bank.{Bank}
use Rattle.firmware_update.specs.declared.bank.Bank.TheVariants.{A, B}
use Rattle.firmware_update.specs.declared.command.Command.{Command}
use Rattle.firmware_update.specs.declared.command.Command.TheVariants.{Features, Info, Start, Block, Complete, Run, Commit}
use Rattle.firmware_update.specs.declared.update.Closing.TheVariants.{Due}
use Rattle.firmware_update.specs.declared.update.Stage.TheVariants.{Finished}
use Rattle.firmware_update.specs.declared.update.Update.{Update}
use Rattle.firmware_update.specs.declared.update.UpdateNext.TheVariants.{Done}
use Rattle.firmware_update.specs.Blocks.{block_length}
use Rattle.firmware_update.specs.Exchanges.{History}
use Rattle.firmware_laws.specs.Modules.{Answer, ComesTo, Download, Endures, Firmware, Held, IsStanding, Resets, held}
use Rattle.firmware_update.specs.Payloads.{be32, block_bytes, message_of}
use Rattle.firmware_update.specs.Progress.{IsAt, IsFinished, IsRunning, IsSending, IsStarting, IsVerifying, exchange_of, next}
use Rattle.firmware_update.specs.Replies.{new_is_committed, new_runs, other_bank, standing_bank, start_size}
use Rattle.firmware_laws.specs.SampleModules.{begun, can_other, closed, committed, filled, fresh, holds, info, read32, says, switched_later, with_banks}
use Rattle.firmware_laws.proofs.Feasible.{image_new, stands_new}
use Rattle.firmware_laws.proofs.Samples.{read_be}
use Rattle.simulated_updates.specs.Performed.{conduct, failing, features, memory, not_now, out_of_range, storing, succeeding}

-- ---- one step each

takes : (size : ℕ) → 8 < size → start_size size features ≡ Some 8
takes size more = subst (λ (b : Bool). cond {A = Option ℕ} b (Some 8) None ≡ Some 8) (sym (lt-ltb 8 size more)) refl

began : (old : Bank) (image first : List ℕ) (size : ℕ)
    → begun (be32 size ++ 0 ∷ 0 ∷ 0 ∷ 0 ∷ first) (fresh old image)
    ≡ with_banks old (holds true true image) (holds false false []) old (Some (record { size = size; first = first; rest = [] }))
began A image first size =
    ap (λ (n : ℕ). with_banks A (holds true true image) (holds false false []) A (Some (record { size = n; first = first; rest = [] }))) (read_be size (0 ∷ 0 ∷ 0 ∷ 0 ∷ first))
began B image first size =
    ap (λ (n : ℕ). with_banks B (holds true true image) (holds false false []) B (Some (record { size = n; first = first; rest = [] }))) (read_be size (0 ∷ 0 ∷ 0 ∷ 0 ∷ first))

ended : (old : Bank) (one : Held) (was : Download)
    → closed (Some was) (with_banks old one (holds false false []) old (Some was))
    ≡ with_banks old one (holds true false (was.first ++ take (was.size - length was.first) was.rest)) old None
ended A one was = refl
ended B one was = refl

can : (old : Bank) (one : Held) (file : List ℕ) → can_other (with_banks old one (holds true false file) old None) ≡ true
can A one file = refl
can B one file = refl

commits_new : (old : Bank) (image file : List ℕ)
    → committed (with_banks old (holds true true image) (holds true false file) (other_bank old) None)
    ≡ with_banks old (holds true false image) (holds true true file) (other_bank old) None
commits_new A image file = refl
commits_new B image file = refl

-- ---- what 0100h says

stands_fresh : (old : Bank) (image : List ℕ) → standing_bank (info (fresh old image)) ≡ Some old
unfolding standing_bank
stands_fresh A image = refl
stands_fresh B image = refl

runs_new : (old : Bank) (image file : List ℕ) → new_runs old (info (with_banks old (holds true true image) (holds true false file) (other_bank old) None)) ≡ true
unfolding new_runs
runs_new A image file = refl
runs_new B image file = refl

committed_new : (old : Bank) (image file : List ℕ) → new_is_committed old (info (with_banks old (holds true false image) (holds true true file) (other_bank old) None)) ≡ true
unfolding new_is_committed
committed_new A image file = refl
committed_new B image file = refl

-- ---- the whole update

-- blocks joined
grown : (address len : ℕ) (file : List ℕ)
    → take address (take address (drop 8 file)) ++ take len (drop (8 + address) file) ≡ take (address + len) (drop 8 file)
grown address len file =
    ap (λ (l : List ℕ). l ++ take len (drop (8 + address) file)) (take-take address address (drop 8 file) (omega arith))
    ∙ (ap (λ (l : List ℕ). take address (drop 8 file) ++ take len l) (sym (drop-drop address 8 file)) ∙ sym (take-add address len (drop 8 file)))

whole : (file : List ℕ) → 8 < length file → take 8 file ++ take (length file - length (take 8 file)) (drop 8 file) ≡ file
whole file more =
    ap (λ (l : List ℕ). take 8 file ++ l)
    (take_all (length file - length (take 8 file)) (drop 8 file) (omega (arith, length-take 8 file, length-drop 8 file)))
    ∙ take-append-drop 8 file

module _ (old : Bank) (image file : List ℕ) (more : 8 < length file) (few : length file ≤ 8 + memory) where
  abbrev Comes : History → Firmware → Type 0
  Comes h last = ComesTo conduct file (fresh old image) h last

  abbrev filling : List ℕ → Firmware
  filling rest = with_banks old (holds true true image) (holds false false []) old (Some (record { size = length file; first = take 8 file; rest = rest }))

  on : (command : Command) (outcome : Outcome) (h : History) (earlier last : Firmware) → Comes h earlier
      → (conduct (message_of file command) 0 earlier).outcome ≡ Some outcome → (conduct (message_of file command) 0 earlier).after ≡ last
      → Comes (exchange_of command outcome ∷ h) last
  on command outcome h earlier last comes learns is = (earlier, 0, comes, inl (learns, inl (sym is)))

  abbrev looked : History
  looked = exchange_of Info (says (info (fresh old image))) ∷ exchange_of Features (says features) ∷ []

  starting : IsStarting (length file) 8 old looked
  starting = (
    (record { items = info (fresh old image) }, refl, refl, stands_fresh old image),
    inr ((record { items = features }, refl, refl, takes (length file) more), tt),
  )

  come_looked : Comes looked (fresh old image)
  come_looked =
      on Info (says (info (fresh old image))) (exchange_of Features (says features) ∷ []) (fresh old image) (fresh old image)
      (on Features (says features) [] (fresh old image) (fresh old image) (inl refl) refl refl) refl refl

  abbrev opened : History
  opened = exchange_of (Start 8) (says []) ∷ looked

  come_opened : Comes opened (filling [])
  come_opened = on (Start 8) (says []) looked (fresh old image) (filling []) come_looked refl (began old image (take 8 file) (length file))

  abbrev Sends : ℕ → Type 0
  Sends address = (h : History) × IsSending (length file) 8 old address h × Comes h (filling (take address (drop 8 file)))

  at_end : (address : ℕ) → length file ≤ address + 8 → address + 8 ≤ length file → Sends address → Sends (length file - 8)
  at_end address all fits sends = let e : address ≡ length file - 8 = omega arith in subst Sends e sends

  -- there is memory for the bytes of a block
  fits_memory : (address : ℕ) → address + 8 < length file → nat_lt memory (read32 (be32 address ++ block_bytes file 8 address) + (length (be32 address ++ block_bytes file 8 address) - 4)) ≡ false
  fits_memory address less =
      let at = read_be address (block_bytes file 8 address) in
      let long = length-take (block_length (length file) 8 address) (drop (8 + address) file) in
      let rest = length-drop (8 + address) file in
      le-ltb memory (read32 (be32 address ++ block_bytes file 8 address) + (length (be32 address ++ block_bytes file 8 address) - 4)) (omega (arith, at, long, rest))

  stores : (address : ℕ) (earlier : Firmware) → address + 8 < length file → (was : Download) → earlier.download ≡ Some was
      → conduct (message_of file (Block 8 address)) 0 earlier ≡ succeeding [] (filled (be32 address ++ block_bytes file 8 address) earlier)
  stores address earlier less was e =
      ap (λ (d : Option Download). storing (be32 address ++ block_bytes file 8 address) d earlier) e
      ∙ ap (λ (b : Bool). cond b (failing out_of_range earlier) (succeeding [] (filled (be32 address ++ block_bytes file 8 address) earlier))) (fits_memory address less)

  one_more : (address : ℕ) → address + 8 < length file → Sends address → Sends (address + block_length (length file) 8 address)
  one_more address less (h, sending, comes) =
      let was : Download = record { size = length file; first = take 8 file; rest = take address (drop 8 file) } in
      let done = stores address (filling (take address (drop 8 file))) less was refl in (
        exchange_of (Block 8 address) (says []) ∷ h,
        inr (inr (address, refl, less, (record { items = [] }, refl, refl, tt), sending)),
        on (Block 8 address) (says []) h (filling (take address (drop 8 file))) (filling (take (address + block_length (length file) 8 address) (drop 8 file))) comes
            (ap (λ (x : Answer). x.outcome) done)
            (ap (λ (x : Answer). x.after) done ∙ ap filling (ap (λ (n : ℕ). take n (take address (drop 8 file)) ++ block_bytes file 8 address) (read_be address (block_bytes file 8 address))
            ∙ grown address (block_length (length file) 8 address) file)),
      )

  all_sent : (fuel address : ℕ) → length file ≤ address + 8 + fuel → address + 8 ≤ length file → Sends address → Sends (length file - 8)
  all_sent zero address enough fits sends = at_end address (omega arith) fits sends
  all_sent (suc fuel) address enough fits sends =
      ⊎_elim
      (λ less. all_sent fuel (address + block_length (length file) 8 address) (omega arith) (omega arith) (one_more address less sends))
      (λ all. at_end address all fits sends)
      (cases_lt (address + 8) (length file))

  sent : Sends (length file - 8)
  sent = all_sent (length file) 0 (omega arith) (omega arith) (opened, inr (inl (refl, (record { items = [] }, refl, refl, tt), starting)), come_opened)

  abbrev done_at : Firmware
  done_at = with_banks old (holds true true image) (holds true false file) old None

  abbrev running_at : Firmware
  running_at = with_banks old (holds true true image) (holds true false file) (other_bank old) None

  abbrev last_at : Firmware
  last_at = with_banks old (holds true false image) (holds true true file) (other_bank old) None

  received : drop 8 file ≡ take (length file - 8) (drop 8 file)
  received = sym (take_all (length file - 8) (drop 8 file) (omega (arith, length-drop 8 file)))

  completed : (h : History) × IsRunning (length file) old h × Comes h done_at
  completed =
      let (h, sending, comes) = sent in (
        exchange_of Complete (says []) ∷ h,
        ((record { items = [] }, refl, refl, tt), (8, sending)),
        on Complete (says []) h (filling (take (length file - 8) (drop 8 file))) done_at comes refl
            (ended old (holds true true image) (record { size = length file; first = take 8 file; rest = take (length file - 8) (drop 8 file) })
            ∙ ap (λ (l : List ℕ). with_banks old (holds true true image) (holds true false l) old None)
            (subst (λ (l : List ℕ). take 8 file ++ take (length file - length (take 8 file)) l ≡ file) received (whole file more))),
      )

  -- the reset of the Run
  resets_then : Resets (switched_later true done_at) running_at
  resets_then = by old where
    by : (bank : Bank) → Resets (switched_later true (with_banks bank (holds true true image) (holds true false file) bank None)) (with_banks bank (holds true true image) (holds true false file) (other_bank bank) None)
    by A = (B, refl, (refl, refl), refl, (λ valid. refl), inl refl, refl)
    by B = (A, refl, (refl, refl), refl, (λ valid. refl), inl refl, refl)

  verifying : (h : History) × IsVerifying (length file) old h × Comes h last_at
  verifying =
      let (h, running, comes) = completed in
      let ran : Comes (exchange_of Run (says []) ∷ h) running_at = (
        done_at,
        0,
        comes,
        inl (
          ap (λ (b : Bool). (cond b (succeeding [] (switched_later true done_at)) (failing not_now done_at)).outcome) (can old (holds true true image) file),
          subst (λ (b : Bool). Endures (cond b (succeeding [] (switched_later true done_at)) (failing not_now done_at)).after running_at) (sym (can old (holds true true image) file)) (inr (inr resets_then)),
        ),
      ) in
      let seen : Comes (exchange_of Info (says (info running_at)) ∷ exchange_of Run (says []) ∷ h) running_at =
      on Info (says (info running_at)) (exchange_of Run (says []) ∷ h) running_at running_at ran refl refl in (
        exchange_of Commit (says []) ∷ exchange_of Info (says (info running_at)) ∷ exchange_of Run (says []) ∷ h,
        inr ((refl, tt), ((record { items = info running_at }, refl, refl, runs_new old image file), inr ((refl, tt), running))),
        on Commit (says []) (exchange_of Info (says (info running_at)) ∷ exchange_of Run (says []) ∷ h) running_at last_at seen refl (commits_new old image file),
      )

  finished : (h : History) × IsFinished (length file) h × Comes h last_at
  finished =
      let (h, verifies, comes) = verifying in (
        exchange_of Info (says (info last_at)) ∷ h,
        (old, (record { items = info last_at }, refl, refl, committed_new old image file), verifies),
        on Info (says (info last_at)) h last_at last_at comes refl refl,
      )

  pub comes_to_an_end : (history : History) × (update : Update) × (last : Firmware)
      × IsAt (length file) history update × (next update ≡ Done (Ok tt)) × ComesTo conduct file (fresh old image) history last
      × IsStanding (other_bank old) last × ((held last (other_bank old)).image ≡ file)
  comes_to_an_end =
      let (h, ends, comes) = finished in (
        h,
        record { size = length file; stage = Finished; tries = 32; fault = None; closing = Due },
        last_at,
        record { sized = refl; come = (ends, refl) },
        refl,
        comes,
        stands_new old image file,
        image_new old image file,
      )
