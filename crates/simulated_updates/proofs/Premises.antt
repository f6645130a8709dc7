-- The conduct of the simulated module meets what is presumed of modules with two banks and of what they store.
use Rattle.std.proofs.Common.{◌≡◌, ◌⊎◌, ℕ, zero, suc, ◌+◌, ◌-◌, nat_lt, ◌++◌, Bool, true, false, cond, List, [], ◌∷◌, length, Option, Some, None, refl, sym, subst, ap, inl, inr}
use Rattle.std.proofs.lemmas.Bool.{cond_both}
use Rattle.arrayvec.specs.ArrayVec.{ArrayVec}
use Rattle.command_block.specs.declared.message.Message.{Message}
use Rattle.command_block.specs.declared.outcome.Outcome.{Outcome}
use Rattle.command_block.specs.declared.outcome.Outcome.TheVariants.{Succeeded, Failed, Unsent, Unknown}
use Rattle.firmware_update.specs.declared.bank.Bank.{Bank}
use Rattle.firmware_update.specs.declared.bank.Bank.TheVariants.{A, B}
use Rattle.firmware_laws.specs.Contents.{HasSucceeded, IsOpen, KeepsBelow, MakesImage, PutsAt, StoresContents}
use Rattle.firmware_laws.specs.Modules.{Answer, Commits, Download, Fills, FillsOther, Firmware, HasTwoBanks, Held, IsQuestion, IsTrueOf, Switches}
use Rattle.firmware_update.specs.Payloads.{be32, block_message, complete_message, info_message, start_message}
use Rattle.firmware_laws.specs.SampleModules.{can_other, committed, filled, info, read32, switched_later}
use Rattle.firmware_laws.proofs.Samples.{begun_fills, closed_fills, fills_same, keeps, keeps_same, later_keeps, makes, puts, read_be, says_bank}
use Rattle.simulated_updates.specs.Performed.{aborting, completing, conduct, failing, memory, not_now, out_of_range, performed, running, storing, succeeding}

-- ---- whatever chance does

-- a message is carried out, or nothing changes
each : (P : Firmware → Type 0) (sent : Message) (choice : ℕ) (before : Firmware) → P (performed sent.id sent.body.items before).after → P before → P (conduct sent choice before).after
each P sent zero before done same = done
each P sent (suc zero) before done same = same
each P sent (suc (suc zero)) before done same = same
each P sent (suc (suc (suc zero))) before done same = done
each P sent (suc (suc (suc (suc more)))) before done same = same

-- what is said to be done is
said : (P : Firmware → Type 0) (sent : Message) (choice : ℕ) (before : Firmware) (reply : ArrayVec ℕ) → (conduct sent choice before).outcome ≡ Some (Succeeded reply)
    → ((performed sent.id sent.body.items before).outcome ≡ Some (Succeeded reply) → P (performed sent.id sent.body.items before).after) → P (conduct sent choice before).after
said P sent zero before reply e f = f e
said P sent (suc zero) before reply e f = absurd cc
said P sent (suc (suc zero)) before reply e f = absurd cc
said P sent (suc (suc (suc zero))) before reply e f = absurd cc
said P sent (suc (suc (suc (suc more)))) before reply e f = absurd cc

-- ---- banks

same_banks : (f : Firmware) → Switches f f
same_banks f = ((refl, refl), inl refl)

stored_fills : (body : List ℕ) (download : Option Download) (f : Firmware) → FillsOther f (storing body download f).after
stored_fills body None f = fills_same f
stored_fills body (Some was) f =
    cond_both (nat_lt memory (read32 body + (length body - 4))) (failing out_of_range f) (succeeding [] (filled body f)) (λ (a : Answer). FillsOther f a.after)
    (λ e. fills_same f) (λ e. (refl, refl, refl, refl))

completed_fills : (download : Option Download) (f : Firmware) → FillsOther f (completing download f).after
completed_fills None f = fills_same f
completed_fills (Some was) f = closed_fills (Some was) f

aborted_fills : (download : Option Download) (f : Firmware) → FillsOther f (aborting download f).after
aborted_fills None f = fills_same f
aborted_fills (Some was) f = (refl, refl, refl, refl)

fills : (sent : Message) (f : Firmware) → Fills sent → FillsOther f (performed sent.id sent.body.items f).after
fills sent f (inl is) = subst (λ (n : ℕ). FillsOther f (performed n sent.body.items f).after) (sym is) (begun_fills sent.body.items f)
fills sent f (inr (inl is)) = subst (λ (n : ℕ). FillsOther f (performed n sent.body.items f).after) (sym is) (stored_fills sent.body.items f.download f)
fills sent f (inr (inr (inl is))) = subst (λ (n : ℕ). FillsOther f (performed n sent.body.items f).after) (sym is) (completed_fills f.download f)
fills sent f (inr (inr (inr is))) = subst (λ (n : ℕ). FillsOther f (performed n sent.body.items f).after) (sym is) (aborted_fills f.download f)

ran : (f : Firmware) → Switches f (running f).after
ran f = cond_both (can_other f) (succeeding [] (switched_later true f)) (failing not_now f) (λ (a : Answer). Switches f a.after) (λ e. later_keeps true f) (λ e. same_banks f)

commits : (a b : Held) (running_now : Bank) (download : Option Download) (reset : Option Bank)
    → Commits (record { a = a; b = b; running = running_now; download = download; reset = reset }) (committed (record { a = a; b = b; running = running_now; download = download; reset = reset }))
commits a b A download reset = (refl, refl, refl, (refl, refl), (refl, refl), refl)
commits a b B download reset = (refl, refl, refl, (refl, refl), (refl, refl), refl)

asked : (sent : Message) (choice : ℕ) (before : Firmware) → IsQuestion sent → (conduct sent choice before).after ≡ before
asked sent choice before (inl is) =
    each (λ (f : Firmware). f ≡ before) sent choice before (subst (λ (n : ℕ). (performed n sent.body.items before).after ≡ before) (sym is) refl) refl
asked sent choice before (inr is) =
    each (λ (f : Firmware). f ≡ before) sent choice before (subst (λ (n : ℕ). (performed n sent.body.items before).after ≡ before) (sym is) refl) refl

reply_in : Option Outcome → List ℕ
reply_in (Some (Succeeded reply)) = reply.items
reply_in (Some (Failed code)) = []
reply_in (Some Unsent) = []
reply_in (Some Unknown) = []
reply_in None = []

told : (choice : ℕ) (before : Firmware) (reply : ArrayVec ℕ) → (conduct info_message choice before).outcome ≡ Some (Succeeded reply) → IsTrueOf before reply.items
told zero before reply e =
    let is : info before ≡ reply.items = reply_is before reply e in subst (IsTrueOf before) is (λ some. says_bank before)
  where
    reply_is : (f : Firmware) (r : ArrayVec ℕ) → Some (Succeeded (record { items = info f })) ≡ Some (Succeeded r) → info f ≡ r.items
    reply_is f r same = cc
told (suc zero) before reply e = absurd cc
told (suc (suc zero)) before reply e = absurd cc
told (suc (suc (suc zero))) before reply e = absurd cc
told (suc (suc (suc (suc more)))) before reply e = absurd cc

pub two_banks : HasTwoBanks conduct
two_banks = record {
  asked = asked;
  told = told;
  filled = λ sent choice before is. each (FillsOther before) sent choice before (fills sent before is) (fills_same before);
  ran = λ sent choice before is.
      each (Switches before) sent choice before (subst (λ (n : ℕ). Switches before (performed n sent.body.items before).after) (sym is) (ran before)) (same_banks before);
  commit_is_atomic = λ sent choice before is.
      each (λ (f : Firmware). (f ≡ before) ⊎ Commits before f) sent choice before
      (subst (λ (n : ℕ). ((performed n sent.body.items before).after ≡ before) ⊎ Commits before (performed n sent.body.items before).after) (sym is)
      (inr (commits before.a before.b before.running before.download before.reset)))
      (inl refl);
}

-- ---- bytes

started : (size : ℕ) (first : List ℕ) (choice : ℕ) (before : Firmware) → HasSucceeded (conduct (start_message size first) choice before)
    → (kept : List ℕ) × IsOpen size first kept (conduct (start_message size first) choice before).after
started size first choice before (reply, e) =
    said (λ (f : Firmware). (kept : List ℕ) × IsOpen size first kept f) (start_message size first) choice before reply e
    (λ is. ([], ap (λ (n : ℕ). Some (record { size = n; first = first; rest = [] })) (read_be size (0 ∷ 0 ∷ 0 ∷ 0 ∷ first))))

empty : ArrayVec ℕ
empty = record { items = [] }

puts_if : (address : ℕ) (bytes : List ℕ) (a b : Held) (running_now : Bank) (was : Download) (reset : Option Bank) (reply : ArrayVec ℕ) (full : Bool)
    → (cond full (failing out_of_range (record { a = a; b = b; running = running_now; download = Some was; reset = reset }))
    (succeeding [] (filled (be32 address ++ bytes) (record { a = a; b = b; running = running_now; download = Some was; reset = reset })))).outcome ≡ Some (Succeeded reply)
    → PutsAt address bytes (record { a = a; b = b; running = running_now; download = Some was; reset = reset })
    (cond full (failing out_of_range (record { a = a; b = b; running = running_now; download = Some was; reset = reset }))
    (succeeding [] (filled (be32 address ++ bytes) (record { a = a; b = b; running = running_now; download = Some was; reset = reset })))).after
puts_if address bytes a b running_now was reset reply true e = absurd cc
puts_if address bytes a b running_now was reset reply false e = puts address bytes a b running_now (Some was) reset (record { items = [] }) refl

puts_all : (address : ℕ) (bytes : List ℕ) (a b : Held) (running_now : Bank) (download : Option Download) (reset : Option Bank) (reply : ArrayVec ℕ)
    → (storing (be32 address ++ bytes) download (record { a = a; b = b; running = running_now; download = download; reset = reset })).outcome ≡ Some (Succeeded reply)
    → PutsAt address bytes (record { a = a; b = b; running = running_now; download = download; reset = reset })
    (storing (be32 address ++ bytes) download (record { a = a; b = b; running = running_now; download = download; reset = reset })).after
puts_all address bytes a b running_now None reset reply e = absurd cc
puts_all address bytes a b running_now (Some was) reset reply e =
    puts_if address bytes a b running_now was reset reply (nat_lt memory (read32 (be32 address ++ bytes) + (length (be32 address ++ bytes) - 4))) e

keeps_all : (address : ℕ) (bytes : List ℕ) (a b : Held) (running_now : Bank) (download : Option Download) (reset : Option Bank)
    → KeepsBelow address (record { a = a; b = b; running = running_now; download = download; reset = reset })
    (storing (be32 address ++ bytes) download (record { a = a; b = b; running = running_now; download = download; reset = reset })).after
keeps_all address bytes a b running_now None reset = inl refl
keeps_all address bytes a b running_now (Some was) reset =
    let f : Firmware = record { a = a; b = b; running = running_now; download = Some was; reset = reset } in
    cond_both (nat_lt memory (read32 (be32 address ++ bytes) + (length (be32 address ++ bytes) - 4))) (failing out_of_range f) (succeeding [] (filled (be32 address ++ bytes) f)) (λ (x : Answer). KeepsBelow address f x.after)
    (λ e. keeps_same address a b running_now (Some was) reset) (λ e. keeps address bytes a b running_now (Some was) reset)

makes_all : (a b : Held) (running_now : Bank) (download : Option Download) (reset : Option Bank) (reply : ArrayVec ℕ)
    → (completing download (record { a = a; b = b; running = running_now; download = download; reset = reset })).outcome ≡ Some (Succeeded reply)
    → MakesImage (record { a = a; b = b; running = running_now; download = download; reset = reset })
    (completing download (record { a = a; b = b; running = running_now; download = download; reset = reset })).after
makes_all a b running_now None reset reply e = absurd cc
makes_all a b running_now (Some was) reset reply e = makes a b running_now (Some was) reset (record { items = [] }) refl

pub contents : StoresContents conduct
contents = record {
  started = started;
  stored = λ address bytes choice before (reply, e).
      said (PutsAt address bytes before) (block_message address bytes) choice before reply e (puts_all address bytes before.a before.b before.running before.download before.reset reply);
  missed = λ address bytes choice before.
      each (KeepsBelow address before) (block_message address bytes) choice before (keeps_all address bytes before.a before.b before.running before.download before.reset)
      (keeps_same address before.a before.b before.running before.download before.reset);
  completed = λ choice before (reply, e).
      said (MakesImage before) complete_message choice before reply e (makes_all before.a before.b before.running before.download before.reset reply);
}
