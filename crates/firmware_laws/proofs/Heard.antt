-- A module as it is heard of over a bus meets the premises that it meets itself.
use Rattle.std.proofs.Common.{◌≡◌, ◌⊎◌, ◌<◌, ℕ, zero, suc, List, [], Option, Some, None, refl, sym, subst, inl, inr, length, arith}
use Rattle.arrayvec.specs.ArrayVec.{ArrayVec}
use Rattle.command_block.specs.declared.outcome.Outcome.{Outcome}
use Rattle.command_block.specs.declared.outcome.Outcome.TheVariants.{Succeeded, Failed, Unsent, Unknown}
use Rattle.firmware_update.specs.Payloads.{block_message, complete_message, info_message, start_message}
use Rattle.firmware_laws.specs.Contents.{IsOpen, KeepsBelow, MakesImage, PutsAt, HasSucceeded, StoresContents}
use Rattle.firmware_laws.specs.Heard.{heard, heard_by, in_three_ways, unheard, unread, without_reply}
use Rattle.firmware_laws.specs.Modules.{Answer, Commits, Conduct, Download, FillsOther, Firmware, HasTwoBanks, IsTrueOf, Switches}

-- ---- which number stands for what

abbrev pub three : ℕ → ℕ
three zero = zero
three (suc k) = suc (suc (suc (three k)))

pub as_it_is : (k : ℕ) (f : ℕ → Answer) → in_three_ways f (three k) ≡ f k
as_it_is zero f = refl
as_it_is (suc k) f = as_it_is k (λ n. f (suc n))

pub as_unheard : (k : ℕ) (f : ℕ → Answer) → in_three_ways f (suc (three k)) ≡ unheard (f k)
as_unheard zero f = refl
as_unheard (suc k) f = as_unheard k (λ n. f (suc n))

pub as_unread : (k : ℕ) (f : ℕ → Answer) → in_three_ways f (suc (suc (three k))) ≡ unread (f k)
as_unread zero f = refl
as_unread (suc k) f = as_unread k (λ n. f (suc n))

-- ---- what holds however it is heard of

ways_all : (Q : Firmware → Type 0) (f : ℕ → Answer) → ((k : ℕ) → Q (f k).after) → (n : ℕ) → Q (in_three_ways f n).after
ways_all Q f all zero = all 0
ways_all Q f all (suc zero) = all 0
ways_all Q f all (suc (suc zero)) = all 0
ways_all Q f all (suc (suc (suc more))) = ways_all Q (λ n. f (suc n)) (λ k. all (suc k)) more

all_heard : (Q : Firmware → Type 0) (f : ℕ → Answer) (before : Firmware) → Q before → ((k : ℕ) → Q (f k).after) → (n : ℕ) → Q (heard_by f before n).after
all_heard Q f before same all zero = same
all_heard Q f before same all (suc zero) = same
all_heard Q f before same all (suc (suc more)) = ways_all Q f all more

-- ---- what holds where it says that it was carried out

done_unread : (o : Option Outcome) (reply : ArrayVec ℕ) → without_reply o ≡ Some (Succeeded reply) → ((own : ArrayVec ℕ) × (o ≡ Some (Succeeded own))) × (reply.items ≡ [])
done_unread (Some (Succeeded own)) reply e = let is : ◌≡◌ {A = List ℕ} [] reply.items = cc in ((own, refl), sym is)
done_unread (Some (Failed code)) reply e = absurd cc
done_unread (Some Unsent) reply e = absurd cc
done_unread (Some Unknown) reply e = absurd cc
done_unread None reply e = absurd cc

ways_done : (Q : Firmware → Type 0) (f : ℕ → Answer) → ((k : ℕ) → HasSucceeded (f k) → Q (f k).after) → (n : ℕ) → HasSucceeded (in_three_ways f n) → Q (in_three_ways f n).after
ways_done Q f all zero done = all 0 done
ways_done Q f all (suc zero) (reply, e) = absurd cc
ways_done Q f all (suc (suc zero)) (reply, e) = all 0 (done_unread (f 0).outcome reply e).0
ways_done Q f all (suc (suc (suc more))) done = ways_done Q (λ n. f (suc n)) (λ k. all (suc k)) more done

done_heard : (Q : Firmware → Type 0) (f : ℕ → Answer) (before : Firmware) → ((k : ℕ) → HasSucceeded (f k) → Q (f k).after) → (n : ℕ) → HasSucceeded (heard_by f before n) → Q (heard_by f before n).after
done_heard Q f before all zero (reply, e) = absurd cc
done_heard Q f before all (suc zero) (reply, e) = absurd cc
done_heard Q f before all (suc (suc more)) done = ways_done Q f all more done

-- ---- what it tells

true_of_none : (firmware : Firmware) (reply : List ℕ) → reply ≡ [] → IsTrueOf firmware reply
true_of_none firmware reply none some = absurd (let less = subst (λ (l : List ℕ). 0 < length l) none some in omega (arith, less))

ways_true : (before : Firmware) (f : ℕ → Answer) → ((k : ℕ) (reply : ArrayVec ℕ) → (f k).outcome ≡ Some (Succeeded reply) → IsTrueOf before reply.items)
    → (n : ℕ) (reply : ArrayVec ℕ) → (in_three_ways f n).outcome ≡ Some (Succeeded reply) → IsTrueOf before reply.items
ways_true before f all zero reply e = all 0 reply e
ways_true before f all (suc zero) reply e = absurd cc
ways_true before f all (suc (suc zero)) reply e = true_of_none before reply.items (done_unread (f 0).outcome reply e).1
ways_true before f all (suc (suc (suc more))) reply e = ways_true before (λ n. f (suc n)) (λ k. all (suc k)) more reply e

true_heard : (before : Firmware) (f : ℕ → Answer) → ((k : ℕ) (reply : ArrayVec ℕ) → (f k).outcome ≡ Some (Succeeded reply) → IsTrueOf before reply.items)
    → (n : ℕ) (reply : ArrayVec ℕ) → (heard_by f before n).outcome ≡ Some (Succeeded reply) → IsTrueOf before reply.items
true_heard before f all zero reply e = absurd cc
true_heard before f all (suc zero) reply e = absurd cc
true_heard before f all (suc (suc more)) reply e = ways_true before f all more reply e

-- ---- the premises

below_same : (address : ℕ) (before : Firmware) (o : Option Download) → before.download ≡ o → KeepsBelow address before before
below_same address before None none = inl none
below_same address before (Some was) some = inr (was, was.rest, some, some, λ less. refl)

pub heard_two_banks : (conduct : Conduct) → HasTwoBanks conduct → HasTwoBanks (heard conduct)
heard_two_banks conduct banks = record {
  asked = λ sent choice before asks. all_heard (λ (after : Firmware). after ≡ before) (λ n. conduct sent n before) before refl (λ k. banks.asked sent k before asks) choice;
  told = λ choice before reply e. true_heard before (λ n. conduct info_message n before) (λ k own is. banks.told k before own is) choice reply e;
  filled = λ sent choice before fills. all_heard (λ (after : Firmware). FillsOther before after) (λ n. conduct sent n before) before (refl, refl, refl, refl) (λ k. banks.filled sent k before fills) choice;
  ran = λ sent choice before is. all_heard (λ (after : Firmware). Switches before after) (λ n. conduct sent n before) before ((refl, refl), inl refl) (λ k. banks.ran sent k before is) choice;
  commit_is_atomic = λ sent choice before is. all_heard (λ (after : Firmware). (after ≡ before) ⊎ Commits before after) (λ n. conduct sent n before) before (inl refl) (λ k. banks.commit_is_atomic sent k before is) choice;
}

pub heard_contents : (conduct : Conduct) → StoresContents conduct → StoresContents (heard conduct)
heard_contents conduct stores = record {
  started = λ size first choice before done. done_heard (λ (after : Firmware). (memory : List ℕ) × IsOpen size first memory after) (λ n. conduct (start_message size first) n before) before (λ k. stores.started size first k before) choice done;
  stored = λ address bytes choice before done. done_heard (λ (after : Firmware). PutsAt address bytes before after) (λ n. conduct (block_message address bytes) n before) before (λ k. stores.stored address bytes k before) choice done;
  missed = λ address bytes choice before. all_heard (λ (after : Firmware). KeepsBelow address before after) (λ n. conduct (block_message address bytes) n before) before (below_same address before before.download refl) (λ k. stores.missed address bytes k before) choice;
  completed = λ choice before done. done_heard (λ (after : Firmware). MakesImage before after) (λ n. conduct complete_message n before) before (λ k. stores.completed k before) choice done;
}
