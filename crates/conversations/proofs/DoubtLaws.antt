-- Who doubts stores nothing on a page that wasn't read back since the newest refusal.
use Rattle.std.proofs.Common.{◌≡◌, ℕ, ◌&&◌, ◌||◌, Bool, true, false, not, [], ◌∷◌, ◌++◌, Option, refl, sym, ap, subst, ◌∙◌, inl, inr, if◌then◌else◌}
use Rattle.bus_model.specs.declared.operation.Reply.{Reply}
use Rattle.bus_model.specs.declared.operation.Reply.TheVariants.{Refused}
use Rattle.bus_model.specs.declared.operation.Step.{Step}
use Rattle.conversations.specs.declared.event.Event.TheVariants.{Asked, Lacked, Made, Waited}
use Rattle.conversations.specs.Events.{Events, steps_of}
use Rattle.conversations.specs.Pauses.{is_refused}
use Rattle.conversations.specs.Selecting.{AddsSelections, ConfirmsStores, IsFetch, is_on, since_refusal}
use Rattle.paged_memory.specs.declared.page_addressing.PageAddressing.{PageAddressing}
use Rattle.paged_memory.specs.PageAddressing.{History, is_page_confirmed, may_select, reads_back}
use Rattle.paged_memory.proofs.KnownPageLaws.{selects}
use Rattle.conversations.proofs.OnPageLaws.{read_is_fetch}

weaker : (reads apart one other : Bool) → (one ≡ true → other ≡ true) → (reads || (apart && one)) ≡ true → (reads || (apart && other)) ≡ true
weaker true apart one other more e = refl
weaker false true one other more e = more e
weaker false false one other more e = e

module _ (addressing : PageAddressing) (page : ℕ) (refusal : Step) (earlier : History) (refused : refusal.reply ≡ Refused) where
  -- what is confirmed by the steps since the newest refusal is confirmed by those since an earlier one
  pub confirmed_since : (since : History) → is_page_confirmed addressing page (since_refusal (since ++ refusal ∷ earlier)) ≡ true → is_page_confirmed addressing page since ≡ true
  confirmed_since [] e = sym (ap (λ (r : Reply). is_page_confirmed addressing page (if is_refused r then [] else refusal ∷ since_refusal earlier)) refused) ∙ e
  confirmed_since (step ∷ since) e = by (is_refused step.reply) (confirmed_since since) e where
    by : (b : Bool) → (is_page_confirmed addressing page (since_refusal (since ++ refusal ∷ earlier)) ≡ true → is_page_confirmed addressing page since ≡ true) → is_page_confirmed addressing page (if b then [] else step ∷ since_refusal (since ++ refusal ∷ earlier)) ≡ true → is_page_confirmed addressing page (step ∷ since) ≡ true
    by true more e = absurd cc
    by false more e = weaker (reads_back addressing page step) (not (may_select addressing step.op)) _ (is_page_confirmed addressing page since) more e

not_both : (b : Bool) → b ≡ true → b ≡ false → ⊥
not_both true e h = cc
not_both false e h = cc

module _ (may : Bool) (addressing : PageAddressing) (needs : Events → Option ℕ) where
  pub confirms_stores : (own events : Events) → AddsSelections true may addressing needs own events → ConfirmsStores may addressing needs events
  confirms_stores own [] adds = tt
  confirms_stores own (Made step ∷ before) (inl (inl (awaited, reads), none, answers, adds)) =
      (λ stores plain. absurd (stores (subst IsFetch (sym reads) (read_is_fetch addressing))), confirms_stores own before adds)
  confirms_stores own (Made step ∷ before) (inl (inr (closed, (page, needed, unconfirmed, names)), none, answers, adds)) =
      (λ stores plain. absurd (not_both (may_select addressing step.op) (ap (may_select addressing) names ∙ selects addressing page) plain), confirms_stores own before adds)
  confirms_stores own (Made step ∷ before) (inr (inl (earlier, is, closed, on, adds))) = (
    λ stores plain. (
      earlier,
      adds,
      λ page needed since older refusal split refused. confirmed_since addressing page refusal older refused since
          (ap (λ (history : History). is_page_confirmed addressing page (since_refusal history)) (sym split) ∙ ap (λ (p : Option ℕ). is_on addressing p (since_refusal (steps_of before))) (sym needed) ∙ on),
    ),
    confirms_stores earlier before adds,
  )
  confirms_stores own (Made step ∷ before) (inr (inr (page, earlier, is, must, needed, shows, answers, adds))) =
      (λ stores plain. absurd (stores (subst IsFetch (sym shows.reads) (read_is_fetch addressing))), confirms_stores earlier before adds)
  confirms_stores own (Waited time ∷ before) (earlier, is, adds) = confirms_stores earlier before adds
  confirms_stores own (Lacked page ∷ before) none = absurd none
  confirms_stores own (Asked number ∷ before) (earlier, is, adds) = confirms_stores earlier before adds
