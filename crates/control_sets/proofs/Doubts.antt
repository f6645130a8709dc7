-- What those who doubt still know of the selection is so.
use Rattle.std.proofs.Common.{◌≡◌, ℕ, ◌&&◌, ◌||◌, Bool, true, false, not, [], ◌∷◌, Option, Some, None, refl, if◌then◌else◌}
use Rattle.conversations.specs.Pauses.{is_refused}
use Rattle.conversations.specs.Selecting.{since_refusal, trusted}
use Rattle.paged_memory.specs.declared.page_addressing.PageAddressing.TheVariants.{BankAndPage}
use Rattle.paged_memory.specs.PageAddressing.{reads_back}
use Rattle.control_sets.specs.Pages.{History, is_page_confirmed, may_select}
use Rattle.control_sets.specs.Procedures.{is_on}

weaker : (reads apart one other : Bool) → (one ≡ true → other ≡ true) → (reads || (apart && one)) ≡ true → (reads || (apart && other)) ≡ true
weaker true apart one other more e = refl
weaker false true one other more e = more e
weaker false false one other more e = e

confirmed_all : (page : ℕ) (history : History) → is_page_confirmed page (since_refusal history) ≡ true → is_page_confirmed page history ≡ true
confirmed_all page [] e = e
confirmed_all page (step ∷ before) e = by (is_refused step.reply) (confirmed_all page before) e where
  by : (b : Bool) → (is_page_confirmed page (since_refusal before) ≡ true → is_page_confirmed page before ≡ true) → is_page_confirmed page (if b then [] else step ∷ since_refusal before) ≡ true → is_page_confirmed page (step ∷ before) ≡ true
  by true more e = absurd cc
  by false more e = weaker (reads_back BankAndPage page step) (not (may_select step.op)) (is_page_confirmed page (since_refusal before)) (is_page_confirmed page before) more e

pub on_all : (doubts : Bool) (page : Option ℕ) (history : History) → is_on page (trusted doubts history) ≡ true → is_on page history ≡ true
on_all false page history on = on
on_all true None history on = refl
on_all true (Some page) history on = confirmed_all page history on
