-- A module that works meets what is presumed of modules, and one that commits in two steps all but that.
use Rattle.std.proofs.Common.{◌≡◌, ◌⊎◌, ℕ, zero, suc, ◌+◌, ◌-◌, ◌++◌, Bool, true, false, not, List, [], ◌∷◌, length, take, Option, Some, None, refl, sym, subst, ap, inl, inr, ◌∙◌, arith}
use Rattle.std.proofs.lemmas.List.{take_all, take_at, length-take, length-take-le, length-append}
use Rattle.arrayvec.specs.ArrayVec.{ArrayVec}
use Rattle.command_block.specs.declared.message.Message.{Message}
use Rattle.command_block.specs.declared.outcome.Outcome.{Outcome}
use Rattle.command_block.specs.declared.outcome.Outcome.TheVariants.{Succeeded, Failed, Unsent, Unknown}
use Rattle.firmware_update.specs.declared.bank.Bank.{Bank}
use Rattle.firmware_update.specs.declared.bank.Bank.TheVariants.{A, B}
use Rattle.firmware_laws.specs.Contents.{IsOpen, KeepsBelow, MakesImage, PutsAt, HasSucceeded, StoresContents}
use Rattle.firmware_laws.specs.Modules.{IsQuestion, CommitIsAtomic, Commits, Download, Fills, FillsOther, Firmware, HasTwoBanks, Held, IsTrueOf, IsReportOf, Switches, held}
use Rattle.firmware_update.specs.Payloads.{be32, block_message, complete_message, info_message, start_message}
use Rattle.firmware_update.specs.Replies.{is_committed, is_invalid, other_bank, runs}
use Rattle.firmware_laws.specs.SampleModules.{begun, can_other, carried, chosen, closed, committed, filled, info_byte, is_bank, put, read32, replied, says, switched, switched_later, with_download, works}

-- ---- numbers

pub read_be : (n : ℕ) (rest : List ℕ) → read32 (be32 n ++ rest) ≡ n
read_be n rest = omega arith

-- ---- whichever choice

module _ (P : Firmware → Type 0) (outcome : Outcome) (done before : Firmware) (is_done : P done) (is_before : P before) where
  pub both : (choice : ℕ) → P (chosen choice outcome done before).after
  both zero = is_done
  both (suc zero) = is_done
  both (suc (suc zero)) = is_before
  both (suc (suc (suc zero))) = is_done
  both (suc (suc (suc (suc zero)))) = is_before
  both (suc (suc (suc (suc (suc more))))) = is_before

-- what is said to be done is
pub said : (P : Firmware → Type 0) (outcome : Outcome) (done before : Firmware) (choice : ℕ) (reply : ArrayVec ℕ)
    → (chosen choice outcome done before).outcome ≡ Some (Succeeded reply) → (outcome ≡ Succeeded reply → P done) → P (chosen choice outcome done before).after
said P outcome done before zero reply e f = f cc
said P outcome done before (suc zero) reply e f = absurd cc
said P outcome done before (suc (suc zero)) reply e f = absurd cc
said P outcome done before (suc (suc (suc zero))) reply e f = absurd cc
said P outcome done before (suc (suc (suc (suc zero)))) reply e f = absurd cc
said P outcome done before (suc (suc (suc (suc (suc more))))) reply e f = absurd cc

pub only : (P : Outcome → Type 0) (outcome : Outcome) (done before : Firmware) (choice : ℕ) (reply : ArrayVec ℕ)
    → (chosen choice outcome done before).outcome ≡ Some (Succeeded reply) → P outcome → P (Succeeded reply)
only P outcome done before zero reply e f = let o : outcome ≡ Succeeded reply = cc in subst P o f
only P outcome done before (suc zero) reply e f = absurd cc
only P outcome done before (suc (suc zero)) reply e f = absurd cc
only P outcome done before (suc (suc (suc zero))) reply e f = absurd cc
only P outcome done before (suc (suc (suc (suc zero)))) reply e f = absurd cc
only P outcome done before (suc (suc (suc (suc (suc more))))) reply e f = absurd cc

-- ---- banks

fills_put : (a b new : Held) (running : Bank) (was now : Option Download) (reset : Option Bank) (is : Bool)
    → FillsOther (record { a = a; b = b; running = running; download = was; reset = reset })
    (with_download now (put (other_bank running)
    (record { valid = new.valid; committed = (held (record { a = a; b = b; running = running; download = was; reset = reset }) (other_bank running)).committed; image = new.image })
    (record { a = a; b = b; running = running; download = was; reset = reset })))
fills_put a b new A was now reset is = (refl, refl, refl, refl)
fills_put a b new B was now reset is = (refl, refl, refl, refl)

pub begun_fills : (body : List ℕ) (f : Firmware) → FillsOther f (begun body f)
begun_fills body f = fills_put f.a f.b (record { valid = false; committed = false; image = [] }) f.running f.download (begun body f).download f.reset true

pub closed_fills : (download : Option Download) (f : Firmware) → FillsOther f (closed download f)
closed_fills None f = (refl, refl, refl, refl)
closed_fills (Some was) f =
    fills_put f.a f.b (record { valid = true; committed = false; image = was.first ++ take (was.size - length was.first) was.rest }) f.running f.download None f.reset true

committed_commits : (a b : Held) (running : Bank) (download : Option Download) (reset : Option Bank)
    → Commits (record { a = a; b = b; running = running; download = download; reset = reset }) (committed (record { a = a; b = b; running = running; download = download; reset = reset }))
committed_commits a b A download reset = (refl, refl, refl, (refl, refl), (refl, refl), refl)
committed_commits a b B download reset = (refl, refl, refl, (refl, refl), (refl, refl), refl)

switched_keeps : (can : Bool) (f : Firmware) → Switches f (switched can f)
switched_keeps true f = ((refl, refl), inr (inl refl))
switched_keeps false f = ((refl, refl), inl refl)

pub later_keeps : (can : Bool) (f : Firmware) → Switches f (switched_later can f)
later_keeps true f = ((refl, refl), inr (inr refl))
later_keeps false f = ((refl, refl), inl refl)

-- ---- what 0100h says

abbrev Bits : Bank → Bool → Bool → Bool → Bool → Bank → Bool → Bool → Type 0
Bits running a is_a b is_b bank valid is =
    (runs bank (info_byte running a is_a b is_b) ≡ is_bank bank running) × (is_committed bank (info_byte running a is_a b is_b) ≡ is)
    × (not (is_invalid bank (info_byte running a is_a b is_b)) ≡ valid)

bits_a : (running : Bank) (a is_a b is_b : Bool) → Bits running a is_a b is_b A a is_a
bits_a A true true true true = (refl, refl, refl)
bits_a A true true true false = (refl, refl, refl)
bits_a A true true false true = (refl, refl, refl)
bits_a A true true false false = (refl, refl, refl)
bits_a A true false true true = (refl, refl, refl)
bits_a A true false true false = (refl, refl, refl)
bits_a A true false false true = (refl, refl, refl)
bits_a A true false false false = (refl, refl, refl)
bits_a A false true true true = (refl, refl, refl)
bits_a A false true true false = (refl, refl, refl)
bits_a A false true false true = (refl, refl, refl)
bits_a A false true false false = (refl, refl, refl)
bits_a A false false true true = (refl, refl, refl)
bits_a A false false true false = (refl, refl, refl)
bits_a A false false false true = (refl, refl, refl)
bits_a A false false false false = (refl, refl, refl)
bits_a B true true true true = (refl, refl, refl)
bits_a B true true true false = (refl, refl, refl)
bits_a B true true false true = (refl, refl, refl)
bits_a B true true false false = (refl, refl, refl)
bits_a B true false true true = (refl, refl, refl)
bits_a B true false true false = (refl, refl, refl)
bits_a B true false false true = (refl, refl, refl)
bits_a B true false false false = (refl, refl, refl)
bits_a B false true true true = (refl, refl, refl)
bits_a B false true true false = (refl, refl, refl)
bits_a B false true false true = (refl, refl, refl)
bits_a B false true false false = (refl, refl, refl)
bits_a B false false true true = (refl, refl, refl)
bits_a B false false true false = (refl, refl, refl)
bits_a B false false false true = (refl, refl, refl)
bits_a B false false false false = (refl, refl, refl)

bits_b : (running : Bank) (a is_a b is_b : Bool) → Bits running a is_a b is_b B b is_b
bits_b A true true true true = (refl, refl, refl)
bits_b A true true true false = (refl, refl, refl)
bits_b A true true false true = (refl, refl, refl)
bits_b A true true false false = (refl, refl, refl)
bits_b A true false true true = (refl, refl, refl)
bits_b A true false true false = (refl, refl, refl)
bits_b A true false false true = (refl, refl, refl)
bits_b A true false false false = (refl, refl, refl)
bits_b A false true true true = (refl, refl, refl)
bits_b A false true true false = (refl, refl, refl)
bits_b A false true false true = (refl, refl, refl)
bits_b A false true false false = (refl, refl, refl)
bits_b A false false true true = (refl, refl, refl)
bits_b A false false true false = (refl, refl, refl)
bits_b A false false false true = (refl, refl, refl)
bits_b A false false false false = (refl, refl, refl)
bits_b B true true true true = (refl, refl, refl)
bits_b B true true true false = (refl, refl, refl)
bits_b B true true false true = (refl, refl, refl)
bits_b B true true false false = (refl, refl, refl)
bits_b B true false true true = (refl, refl, refl)
bits_b B true false true false = (refl, refl, refl)
bits_b B true false false true = (refl, refl, refl)
bits_b B true false false false = (refl, refl, refl)
bits_b B false true true true = (refl, refl, refl)
bits_b B false true true false = (refl, refl, refl)
bits_b B false true false true = (refl, refl, refl)
bits_b B false true false false = (refl, refl, refl)
bits_b B false false true true = (refl, refl, refl)
bits_b B false false true false = (refl, refl, refl)
bits_b B false false false true = (refl, refl, refl)
bits_b B false false false false = (refl, refl, refl)

same_bank : (bank running : Bank) → is_bank bank running ≡ true → running ≡ bank
same_bank A A e = refl
same_bank A B e = absurd cc
same_bank B A e = absurd cc
same_bank B B e = refl

pub says_bank : (f : Firmware) (bank : Bank) → IsReportOf (info_byte f.running f.a.valid f.a.committed f.b.valid f.b.committed) f bank
says_bank f A =
    let is = bits_a f.running f.a.valid f.a.committed f.b.valid f.b.committed in
    record { running = λ e. same_bank A f.running (sym is.0 ∙ e); committed = is.1; valid = is.2 }
says_bank f B =
    let is = bits_b f.running f.a.valid f.a.committed f.b.valid f.b.committed in
    record { running = λ e. same_bank B f.running (sym is.0 ∙ e); committed = is.1; valid = is.2 }

abbrev pub IsTrueReply : Firmware → Outcome → Type 0
IsTrueReply f (Succeeded reply) = IsTrueOf f reply.items
IsTrueReply f (Failed code) = Unit {0}
IsTrueReply f Unsent = Unit {0}
IsTrueReply f Unknown = Unit {0}

-- ---- all messages

pub asked_works : (sent : Message) (choice : ℕ) (before : Firmware) → IsQuestion sent → (works sent choice before).after ≡ before
asked_works sent choice before (inl is) =
    subst (λ (n : ℕ). (chosen choice (replied n before) (carried n sent.body.items before) before).after ≡ before) (sym is)
    (both (λ (f : Firmware). f ≡ before) (replied 65 before) before before refl refl choice)
asked_works sent choice before (inr is) =
    subst (λ (n : ℕ). (chosen choice (replied n before) (carried n sent.body.items before) before).after ≡ before) (sym is)
    (both (λ (f : Firmware). f ≡ before) (replied 256 before) before before refl refl choice)

pub told_works : (choice : ℕ) (before : Firmware) (reply : ArrayVec ℕ) → (works info_message choice before).outcome ≡ Some (Succeeded reply) → IsTrueOf before reply.items
told_works choice before reply e = only (IsTrueReply before) (replied 256 before) before before choice reply e (λ some. says_bank before)

pub fills_same : (f : Firmware) → FillsOther f f
fills_same f = (refl, refl, refl, refl)

pub filled_works : (sent : Message) (choice : ℕ) (before : Firmware) → Fills sent → FillsOther before (works sent choice before).after
filled_works sent choice before (inl is) =
    subst (λ (n : ℕ). FillsOther before (chosen choice (replied n before) (carried n sent.body.items before) before).after) (sym is)
    (both (FillsOther before) (replied 257 before) (begun sent.body.items before) before (begun_fills sent.body.items before) (fills_same before) choice)
filled_works sent choice before (inr (inl is)) =
    subst (λ (n : ℕ). FillsOther before (chosen choice (replied n before) (carried n sent.body.items before) before).after) (sym is)
    (both (FillsOther before) (replied 259 before) (filled sent.body.items before) before (refl, refl, refl, refl) (fills_same before) choice)
filled_works sent choice before (inr (inr (inr is))) =
    subst (λ (n : ℕ). FillsOther before (chosen choice (replied n before) (carried n sent.body.items before) before).after) (sym is)
    (both (FillsOther before) (replied 258 before) (with_download None before) before (refl, refl, refl, refl) (fills_same before) choice)
filled_works sent choice before (inr (inr (inl is))) =
    subst (λ (n : ℕ). FillsOther before (chosen choice (replied n before) (carried n sent.body.items before) before).after) (sym is)
    (both (FillsOther before) (replied 263 before) (closed before.download before) before (closed_fills before.download before) (fills_same before) choice)

pub ran_works : (sent : Message) (choice : ℕ) (before : Firmware) → sent.id ≡ 265 → Switches before (works sent choice before).after
ran_works sent choice before is =
    subst (λ (n : ℕ). Switches before (chosen choice (replied n before) (carried n sent.body.items before) before).after) (sym is)
    (both (Switches before) (replied 265 before) (switched (can_other before) before) before (switched_keeps (can_other before) before) ((refl, refl), inl refl) choice)

pub commit_works : CommitIsAtomic works
commit_works sent choice before is =
    subst (λ (n : ℕ). ((chosen choice (replied n before) (carried n sent.body.items before) before).after ≡ before) ⊎ Commits before (chosen choice (replied n before) (carried n sent.body.items before) before).after) (sym is)
    (both (λ (f : Firmware). (f ≡ before) ⊎ Commits before f) (replied 266 before) (committed before) before
    (inr (committed_commits before.a before.b before.running before.download before.reset)) (inl refl) choice)

pub works_two : HasTwoBanks works
works_two = record { asked = asked_works; told = told_works; filled = filled_works; ran = ran_works; commit_is_atomic = commit_works }

-- ---- bytes

joined : (address : ℕ) (bytes rest : List ℕ) → take (address + length bytes) (take address rest ++ bytes) ≡ take address rest ++ bytes
joined address bytes rest = take_all (address + length bytes) (take address rest ++ bytes) (omega (arith, length-append (take address rest) bytes, length-take address rest))

pub started_works : (size : ℕ) (first : List ℕ) (choice : ℕ) (before : Firmware) → HasSucceeded (works (start_message size first) choice before)
    → (memory : List ℕ) × IsOpen size first memory (works (start_message size first) choice before).after
started_works size first choice before (reply, e) =
    said (λ (f : Firmware). (memory : List ℕ) × IsOpen size first memory f) (says []) (begun (be32 size ++ 0 ∷ 0 ∷ 0 ∷ 0 ∷ first) before) before choice reply e
    (λ is. ([], ap (λ (n : ℕ). Some (record { size = n; first = first; rest = [] })) (read_be size (0 ∷ 0 ∷ 0 ∷ 0 ∷ first))))

pub puts : (address : ℕ) (bytes : List ℕ) (a b : Held) (running : Bank) (download : Option Download) (reset : Option Bank) (reply : ArrayVec ℕ)
    → replied 259 (record { a = a; b = b; running = running; download = download; reset = reset }) ≡ Succeeded reply
    → PutsAt address bytes (record { a = a; b = b; running = running; download = download; reset = reset })
    (filled (be32 address ++ bytes) (record { a = a; b = b; running = running; download = download; reset = reset }))
puts address bytes a b running None reset reply e = absurd cc
puts address bytes a b running (Some was) reset reply e = (
  was,
  take (read32 (be32 address ++ bytes)) was.rest ++ bytes,
  refl,
  refl,
  λ fits. subst (λ (n : ℕ). take (address + length bytes) (take n was.rest ++ bytes) ≡ take address was.rest ++ bytes) (sym (read_be address bytes)) (joined address bytes was.rest),
)

pub keeps : (address : ℕ) (bytes : List ℕ) (a b : Held) (running : Bank) (download : Option Download) (reset : Option Bank)
    → KeepsBelow address (record { a = a; b = b; running = running; download = download; reset = reset })
    (filled (be32 address ++ bytes) (record { a = a; b = b; running = running; download = download; reset = reset }))
keeps address bytes a b running None reset = inl refl
keeps address bytes a b running (Some was) reset =
    inr (
      was,
      take (read32 (be32 address ++ bytes)) was.rest ++ bytes,
      refl,
      refl,
      λ fits. subst (λ (n : ℕ). take address (take n was.rest ++ bytes) ≡ take address was.rest) (sym (read_be address bytes))
          (take_at (take address was.rest) bytes address (length-take-le address was.rest fits)),
    )

pub keeps_same : (address : ℕ) (a b : Held) (running : Bank) (download : Option Download) (reset : Option Bank)
    → KeepsBelow address (record { a = a; b = b; running = running; download = download; reset = reset }) (record { a = a; b = b; running = running; download = download; reset = reset })
keeps_same address a b running None reset = inl refl
keeps_same address a b running (Some was) reset = inr (was, was.rest, refl, refl, λ fits. refl)

pub makes : (a b : Held) (running : Bank) (download : Option Download) (reset : Option Bank) (reply : ArrayVec ℕ)
    → replied 263 (record { a = a; b = b; running = running; download = download; reset = reset }) ≡ Succeeded reply
    → MakesImage (record { a = a; b = b; running = running; download = download; reset = reset })
    (closed download (record { a = a; b = b; running = running; download = download; reset = reset }))
makes a b running None reset reply e = absurd cc
makes a b A (Some was) reset reply e = (was, refl, refl)
makes a b B (Some was) reset reply e = (was, refl, refl)

pub stored_works : (address : ℕ) (bytes : List ℕ) (choice : ℕ) (before : Firmware) → HasSucceeded (works (block_message address bytes) choice before)
    → PutsAt address bytes before (works (block_message address bytes) choice before).after
stored_works address bytes choice before (reply, e) =
    said (PutsAt address bytes before) (replied 259 before) (filled (be32 address ++ bytes) before) before choice reply e
    (λ is. puts address bytes before.a before.b before.running before.download before.reset reply is)

pub missed_works : (address : ℕ) (bytes : List ℕ) (choice : ℕ) (before : Firmware) → KeepsBelow address before (works (block_message address bytes) choice before).after
missed_works address bytes choice before =
    both (KeepsBelow address before) (replied 259 before) (filled (be32 address ++ bytes) before) before
    (keeps address bytes before.a before.b before.running before.download before.reset) (keeps_same address before.a before.b before.running before.download before.reset) choice

pub completed_works : (choice : ℕ) (before : Firmware) → HasSucceeded (works complete_message choice before) → MakesImage before (works complete_message choice before).after
completed_works choice before (reply, e) =
    said (MakesImage before) (replied 263 before) (closed before.download before) before choice reply e
    (λ is. makes before.a before.b before.running before.download before.reset reply is)

pub works_stores : StoresContents works
works_stores = record { started = started_works; stored = stored_works; missed = missed_works; completed = completed_works }
