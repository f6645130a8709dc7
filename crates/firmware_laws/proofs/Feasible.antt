-- An update of a module that works can come to its end: the new image runs and is committed, and it is the file.
use Rattle.std.proofs.Common.{◌≡◌, ℕ, zero, suc, ◌+◌, ◌-◌, ◌<◌, ◌≤◌, ◌++◌, Bool, true, false, cond, nat_lt, List, [], ◌∷◌, length, take, drop, Option, Some, None, Ok, refl, sym, subst, ap, inl, inr, ◌∙◌, arith}
use Rattle.std.proofs.Math.Logic.{⊎_elim}
use Rattle.std.proofs.Math.Seq.{take-add}
use Rattle.std.proofs.lemmas.Bool.{cases_lt}
use Rattle.std.proofs.lemmas.List.{take_all, take-append-drop, take-take, drop-drop, length-take, length-drop}
use Rattle.command_block.specs.declared.outcome.Outcome.{Outcome}
use Rattle.firmware_update.specs.declared.bank.Bank.{Bank}
use Rattle.firmware_update.specs.declared.bank.Bank.TheVariants.{A, B}
use Rattle.firmware_update.specs.declared.command.Command.{Command}
use Rattle.firmware_update.specs.declared.command.Command.TheVariants.{Features, Info, Start, Block, Complete, Run, Commit}
use Rattle.firmware_update.specs.declared.update.Closing.TheVariants.{Due}
use Rattle.firmware_update.specs.declared.update.Stage.TheVariants.{Finished}
use Rattle.firmware_update.specs.declared.update.Update.{Update}
use Rattle.firmware_update.specs.declared.update.UpdateNext.TheVariants.{Done}
use Rattle.firmware_update.specs.Blocks.{block_length}
use Rattle.firmware_update.specs.Exchanges.{History}
use Rattle.firmware_laws.specs.Modules.{ComesTo, Download, Firmware, Held, IsQuiet, IsStanding, held}
use Rattle.firmware_update.specs.Payloads.{be32, block_bytes, message_of}
use Rattle.firmware_update.specs.Progress.{IsAt, IsFinished, IsRunning, IsSending, IsStarting, IsVerifying, exchange_of, next}
use Rattle.firmware_update.specs.Replies.{new_is_committed, new_runs, other_bank, standing_bank, start_size}
use Rattle.firmware_laws.specs.SampleModules.{begun, can_other, closed, committed, done_if, features, fresh, holds, info, says, switched, with_banks, works}
use Rattle.firmware_laws.proofs.Samples.{read_be}

-- ---- one step each

lt_true : (n : ℕ) → 1 < n → nat_lt 1 n ≡ true
lt_true n more = grind arith

takes : (size : ℕ) → 1 < size → start_size size features ≡ Some 1
takes size more = subst (λ (b : Bool). cond {A = Option ℕ} b (Some 1) None ≡ Some 1) (sym (lt_true size more)) refl

began : (old : Bank) (image first : List ℕ) (size : ℕ)
    → begun (be32 size ++ 0 ∷ 0 ∷ 0 ∷ 0 ∷ first) (fresh old image)
    ≡ with_banks old (holds true true image) (holds false false []) old (Some (record { size = size; first = first; rest = [] }))
began A image first size =
    ap (λ (n : ℕ). with_banks A (holds true true image) (holds false false []) A (Some (record { size = n; first = first; rest = [] }))) (read_be size (0 ∷ 0 ∷ 0 ∷ 0 ∷ first))
began B image first size =
    ap (λ (n : ℕ). with_banks B (holds true true image) (holds false false []) B (Some (record { size = n; first = first; rest = [] }))) (read_be size (0 ∷ 0 ∷ 0 ∷ 0 ∷ first))

ended : (old : Bank) (one : Held) (was : Download)
    → closed (Some was) (with_banks old one (holds false false []) old (Some was))
    ≡ with_banks old one (holds true false (was.first ++ take (was.size - length was.first) was.rest)) old None
ended A one was = refl
ended B one was = refl

can : (old : Bank) (one : Held) (file : List ℕ) → can_other (with_banks old one (holds true false file) old None) ≡ true
can A one file = refl
can B one file = refl

commits_new : (old : Bank) (image file : List ℕ)
    → committed (with_banks old (holds true true image) (holds true false file) (other_bank old) None)
    ≡ with_banks old (holds true false image) (holds true true file) (other_bank old) None
commits_new A image file = refl
commits_new B image file = refl

-- ---- what 0100h says

stands_fresh : (old : Bank) (image : List ℕ) → standing_bank (info (fresh old image)) ≡ Some old
unfolding standing_bank
stands_fresh A image = refl
stands_fresh B image = refl

runs_new : (old : Bank) (image file : List ℕ) → new_runs old (info (with_banks old (holds true true image) (holds true false file) (other_bank old) None)) ≡ true
unfolding new_runs
runs_new A image file = refl
runs_new B image file = refl

committed_new : (old : Bank) (image file : List ℕ) → new_is_committed old (info (with_banks old (holds true false image) (holds true true file) (other_bank old) None)) ≡ true
unfolding new_is_committed
committed_new A image file = refl
committed_new B image file = refl

pub stands_new : (old : Bank) (image file : List ℕ) → IsStanding (other_bank old) (with_banks old (holds true false image) (holds true true file) (other_bank old) None)
stands_new A image file = (refl, (refl, refl), refl)
stands_new B image file = (refl, (refl, refl), refl)

pub image_new : (old : Bank) (image file : List ℕ) → (held (with_banks old (holds true false image) (holds true true file) (other_bank old) None) (other_bank old)).image ≡ file
image_new A image file = refl
image_new B image file = refl

pub starts_fresh : (old : Bank) (image : List ℕ) → IsStanding old (fresh old image) × IsQuiet (fresh old image)
starts_fresh A image = ((refl, (refl, refl), refl), refl)
starts_fresh B image = ((refl, (refl, refl), refl), refl)

-- ---- the whole update

-- blocks joined
grown : (address len : ℕ) (file : List ℕ)
    → take address (take address (drop 1 file)) ++ take len (drop (1 + address) file) ≡ take (address + len) (drop 1 file)
grown address len file =
    ap (λ (l : List ℕ). l ++ take len (drop (1 + address) file)) (take-take address address (drop 1 file) (omega arith))
    ∙ (ap (λ (l : List ℕ). take address (drop 1 file) ++ take len l) (sym (drop-drop address 1 file)) ∙ sym (take-add address len (drop 1 file)))

whole : (file : List ℕ) → 1 < length file → take 1 file ++ take (length file - length (take 1 file)) (drop 1 file) ≡ file
whole file more =
    ap (λ (l : List ℕ). take 1 file ++ l)
    (take_all (length file - length (take 1 file)) (drop 1 file) (omega (arith, length-take 1 file, length-drop 1 file)))
    ∙ take-append-drop 1 file

module _ (old : Bank) (image file : List ℕ) (more : 1 < length file) where
  abbrev Comes : History → Firmware → Type 0
  Comes h last = ComesTo works file (fresh old image) h last

  abbrev filling : List ℕ → Firmware
  filling rest = with_banks old (holds true true image) (holds false false []) old (Some (record { size = length file; first = take 1 file; rest = rest }))

  on : (command : Command) (outcome : Outcome) (h : History) (earlier last : Firmware) → Comes h earlier
      → (works (message_of file command) 0 earlier).outcome ≡ Some outcome → (works (message_of file command) 0 earlier).after ≡ last
      → Comes (exchange_of command outcome ∷ h) last
  on command outcome h earlier last comes learns is = (earlier, 0, comes, inl (learns, inl (sym is)))

  abbrev looked : History
  looked = exchange_of Info (says (info (fresh old image))) ∷ exchange_of Features (says features) ∷ []

  starting : IsStarting (length file) 1 old looked
  starting = (
    (record { items = info (fresh old image) }, refl, refl, stands_fresh old image),
    inr ((record { items = features }, refl, refl, takes (length file) more), tt),
  )

  come_looked : Comes looked (fresh old image)
  come_looked =
      on Info (says (info (fresh old image))) (exchange_of Features (says features) ∷ []) (fresh old image) (fresh old image)
      (on Features (says features) [] (fresh old image) (fresh old image) (inl refl) refl refl) refl refl

  abbrev opened : History
  opened = exchange_of (Start 1) (says []) ∷ looked

  come_opened : Comes opened (filling [])
  come_opened = on (Start 1) (says []) looked (fresh old image) (filling []) come_looked refl (began old image (take 1 file) (length file))

  abbrev Sends : ℕ → Type 0
  Sends address = (h : History) × IsSending (length file) 1 old address h × Comes h (filling (take address (drop 1 file)))

  at_end : (address : ℕ) → length file ≤ address + 1 → address + 1 ≤ length file → Sends address → Sends (length file - 1)
  at_end address all fits sends = let e : address ≡ length file - 1 = omega arith in subst Sends e sends

  one_more : (address : ℕ) → address + 1 < length file → Sends address → Sends (address + block_length (length file) 1 address)
  one_more address less (h, sending, comes) = (
    exchange_of (Block 1 address) (says []) ∷ h,
    inr (inr (address, refl, less, (record { items = [] }, refl, refl, tt), sending)),
    on (Block 1 address) (says []) h (filling (take address (drop 1 file))) (filling (take (address + block_length (length file) 1 address) (drop 1 file))) comes refl
        (ap filling (ap (λ (n : ℕ). take n (take address (drop 1 file)) ++ block_bytes file 1 address) (read_be address (block_bytes file 1 address))
        ∙ grown address (block_length (length file) 1 address) file)),
  )

  all_sent : (fuel address : ℕ) → length file ≤ address + 1 + fuel → address + 1 ≤ length file → Sends address → Sends (length file - 1)
  all_sent zero address enough fits sends = at_end address (omega arith) fits sends
  all_sent (suc fuel) address enough fits sends =
      ⊎_elim
      (λ less. all_sent fuel (address + block_length (length file) 1 address) (omega arith) (omega arith) (one_more address less sends))
      (λ all. at_end address all fits sends)
      (cases_lt (address + 1) (length file))

  sent : Sends (length file - 1)
  sent = all_sent (length file) 0 (omega arith) (omega arith) (opened, inr (inl (refl, (record { items = [] }, refl, refl, tt), starting)), come_opened)

  abbrev done_at : Firmware
  done_at = with_banks old (holds true true image) (holds true false file) old None

  abbrev running_at : Firmware
  running_at = with_banks old (holds true true image) (holds true false file) (other_bank old) None

  abbrev last_at : Firmware
  last_at = with_banks old (holds true false image) (holds true true file) (other_bank old) None

  received : drop 1 file ≡ take (length file - 1) (drop 1 file)
  received = sym (take_all (length file - 1) (drop 1 file) (omega (arith, length-drop 1 file)))

  completed : (h : History) × IsRunning (length file) old h × Comes h done_at
  completed =
      let (h, sending, comes) = sent in (
        exchange_of Complete (says []) ∷ h,
        ((record { items = [] }, refl, refl, tt), (1, sending)),
        on Complete (says []) h (filling (take (length file - 1) (drop 1 file))) done_at comes refl
            (ended old (holds true true image) (record { size = length file; first = take 1 file; rest = take (length file - 1) (drop 1 file) })
            ∙ ap (λ (l : List ℕ). with_banks old (holds true true image) (holds true false l) old None)
            (subst (λ (l : List ℕ). take 1 file ++ take (length file - length (take 1 file)) l ≡ file) received (whole file more))),
      )

  verifying : (h : History) × IsVerifying (length file) old h × Comes h last_at
  verifying =
      let (h, running, comes) = completed in
      let ran : Comes (exchange_of Run (says []) ∷ h) running_at =
      on Run (says []) h done_at running_at comes
      (ap (λ (b : Bool). Some (done_if b)) (can old (holds true true image) file))
      (ap (λ (b : Bool). switched b done_at) (can old (holds true true image) file)) in
      let seen : Comes (exchange_of Info (says (info running_at)) ∷ exchange_of Run (says []) ∷ h) running_at =
      on Info (says (info running_at)) (exchange_of Run (says []) ∷ h) running_at running_at ran refl refl in (
        exchange_of Commit (says []) ∷ exchange_of Info (says (info running_at)) ∷ exchange_of Run (says []) ∷ h,
        inr ((refl, tt), ((record { items = info running_at }, refl, refl, runs_new old image file), inr ((refl, tt), running))),
        on Commit (says []) (exchange_of Info (says (info running_at)) ∷ exchange_of Run (says []) ∷ h) running_at last_at seen refl (commits_new old image file),
      )

  finished : (h : History) × IsFinished (length file) h × Comes h last_at
  finished =
      let (h, verifies, comes) = verifying in (
        exchange_of Info (says (info last_at)) ∷ h,
        (old, (record { items = info last_at }, refl, refl, committed_new old image file), verifies),
        on Info (says (info last_at)) h last_at last_at comes refl refl,
      )

  pub comes_to_an_end : (history : History) × (update : Update) × (last : Firmware)
      × IsAt (length file) history update × (next update ≡ Done (Ok tt)) × ComesTo works file (fresh old image) history last
      × IsStanding (other_bank old) last × ((held last (other_bank old)).image ≡ file)
  comes_to_an_end =
      let (h, ends, comes) = finished in (
        h,
        record { size = length file; stage = Finished; tries = 32; fault = None; closing = Due },
        last_at,
        record { sized = refl; come = (ends, refl) },
        refl,
        comes,
        stands_new old image file,
        image_new old image file,
      )
