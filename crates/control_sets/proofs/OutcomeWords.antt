-- What tests of steps say in the words of the outcomes.
use Rattle.std.proofs.Common.{◌≡◌, ℕ, ◌+◌, ◌/◌, ◌%◌, ◌==◌, ◌&&◌, Bool, true, false, not, List, [], ◌∷◌, ◌++◌, Ok, Err, length, refl, sym, ap, subst, ◌∙◌, inl, inr, eq-eqb, lt-ltb, ltb-true}
use Rattle.std.proofs.lemmas.Bool.{and_from, and_parts, false≢true, or_cases, or_left, or_right}
use Rattle.std.specs.List.{AllByRecursion, list_all}
use Rattle.arrayvec.specs.ArrayVec.{ArrayVec}
use Rattle.bus_model.specs.declared.device.Dev.TheVariants.{A0}
use Rattle.bus_model.specs.declared.operation.Op.{Op}
use Rattle.bus_model.specs.declared.operation.Op.TheVariants.{Store}
use Rattle.bus_model.specs.declared.operation.Reply.{Reply}
use Rattle.bus_model.specs.declared.operation.Reply.TheVariants.{Bytes}
use Rattle.bus_model.specs.declared.operation.Step.{Step}
use Rattle.bus_model.specs.SameOperation.{same_op}
use Rattle.bus_model.proofs.SameOperations.{ops_are, ops_same}
use Rattle.control_sets.specs.declared.fault.ProvisionFault.{ProvisionFault}
use Rattle.paged_memory.specs.PageAddressing as addressing
use Rattle.paged_memory.proofs.KnownPageLaws.{parts_are}
use Rattle.paged_memory.specs.declared.page_addressing.PageAddressing.TheVariants.{BankAndPage}
use Rattle.control_sets.specs.Pages.{EachStep, History, is_page_confirmed, may_select, read_selection}
use Rattle.control_sets.specs.OutcomeAnswers.{Answer, EndsIn, IsAnswer}
use Rattle.control_sets.specs.OutcomeOperations.{Confirms, CoversSelection, read_back_of}
use Rattle.control_sets.specs.OutcomeSteps.{IsAmong}

pub contradicts : {b : Bool} → b ≡ true → b ≡ false → ⊥
contradicts e h = false≢true (sym h ∙ e)

-- ---- confirmed pages

covers : (op : Op) → may_select op ≡ false → CoversSelection op → ⊥
covers (Store A0 offset bytes) e c = contradicts (and_from _ _ (lt-ltb offset 128 c.0) (lt-ltb 126 (offset + length bytes.items) c.1)) e
covers _ e c = c

selects_by : (offset : ℕ) (bytes : ArrayVec ℕ) (b : Bool) → may_select (Store A0 offset bytes) ≡ b → (CoversSelection (Store A0 offset bytes) → ⊥) → b ≡ false
selects_by offset bytes true e none =
    let parts = and_parts _ _ e in
    absurd (none (ltb-true offset 128 parts.0, ltb-true 126 (offset + length bytes.items) parts.1))
selects_by offset bytes false e none = refl

selects_not : (op : Op) → (CoversSelection op → ⊥) → may_select op ≡ false
selects_not (Store A0 offset bytes) none = let b = may_select (Store A0 offset bytes) in selects_by offset bytes b refl none
selects_not _ none = refl

selection_is : (page : ℕ) (bytes : List ℕ) → addressing.is_selection_of BankAndPage page bytes ≡ true → bytes ≡ page / 256 ∷ page % 256 ∷ []
selection_is page (bank ∷ number ∷ []) e = let parts = parts_are bank number page e in λ i. parts.0 i ∷ parts.1 i ∷ []
selection_is page _ e = cc

reply_is : (page : ℕ) (reply : Reply) → addressing.is_page BankAndPage page reply ≡ true → reply ≡ Bytes (record { items = page / 256 ∷ page % 256 ∷ [] })
reply_is page (Bytes bytes) e = let items = selection_is page bytes.items e in λ i. Bytes (record { items = items i })
reply_is page _ e = cc

read_back_is : (page : ℕ) (step : Step) → addressing.reads_back BankAndPage page step ≡ true → step ≡ read_back_of page
read_back_is page step e =
    let parts = and_parts _ _ e in
    let op = ops_are read_selection step.op parts.0 in
    let reply = reply_is page step.reply parts.1 in
    λ i. record { op = sym op i; reply = reply i }

reads_it_back : (page : ℕ) → addressing.reads_back BankAndPage page (read_back_of page) ≡ true
reads_it_back page = and_from (page / 256 == page / 256) (page % 256 == page % 256) (eq-eqb (page / 256) (page / 256) refl) (eq-eqb (page % 256) (page % 256) refl)

not_covering : (step : Step) (before : History) (page : ℕ) → (not (may_select step.op) && is_page_confirmed page before) ≡ true → (may_select step.op ≡ false) × (is_page_confirmed page before ≡ true)
not_covering step before page e = by (may_select step.op) refl e where
  by : (b : Bool) → may_select step.op ≡ b → (not b && is_page_confirmed page before) ≡ true → (may_select step.op ≡ false) × (is_page_confirmed page before ≡ true)
  by true is e = cc
  by false is e = (is, e)

pub confirms_page : (page : ℕ) (history : History) → is_page_confirmed page history ≡ true → Confirms page history
confirms_page page [] e = cc
confirms_page page (step ∷ before) e =
    elim (or_cases (addressing.reads_back BankAndPage page step) (not (may_select step.op) && is_page_confirmed page before) e) as (λ _. Confirms page (step ∷ before)) [
      | inl now ↦ record { since = []; before = before; split = ap (λ (step : Step). step ∷ before) (read_back_is page step now); kept = tt }
      | inr earlier ↦
          let parts = not_covering step before page earlier in
          let found = confirms_page page before parts.1 in
          record {
            since = step ∷ found.since;
            before = found.before;
            split = ap (λ (steps : History). step ∷ steps) found.split;
            kept = (covers step.op parts.0, found.kept);
          }
    ]

still_confirmed : (page : ℕ) (since before : History) → AllByRecursion (λ step. ¬ (CoversSelection step.op)) since → is_page_confirmed page (since ++ read_back_of page ∷ before) ≡ true
still_confirmed page [] before kept = or_left _ _ (reads_it_back page)
still_confirmed page (step ∷ since) before kept = or_right _ _ (and_from _ _ (ap not (selects_not step.op kept.0)) (still_confirmed page since before kept.1))

pub page_confirmed : (page : ℕ) (history : History) → Confirms page history → is_page_confirmed page history ≡ true
page_confirmed page history found = subst (λ (history : History). is_page_confirmed page history ≡ true) (sym found.split) (still_confirmed page found.since found.before found.kept)

pub unconfirmed : (page : ℕ) (history : History) → is_page_confirmed page history ≡ false → Confirms page history → ⊥
unconfirmed page history missing found = contradicts (page_confirmed page history found) missing

-- ---- steps

pub each_from : (P R : Step → History → Type 0) (history : History) → ((step : Step) (before : History) → P step before → R step before) → EachStep P history → EachStep R history
each_from P R [] f p = tt
each_from P R (step ∷ before) f p = (f step before p.0, each_from P R before f p.1)

-- none of these operations is the other one
pub not_among : (ops : List Op) (op other : Op) → op ≡ other → list_all (λ some. not (same_op other some)) ops ≡ true → IsAmong ops op → ⊥
not_among [] op other is differ among = among
not_among (some ∷ ops) op other is differ (inl same) = contradicts (and_parts _ _ differ).0 (ap not (ops_same other some (sym is ∙ same)))
not_among (some ∷ ops) op other is differ (inr later) = not_among ops op other is (and_parts _ _ differ).1 later

pub same_last : {step last : Step} {before earlier : History} → step ∷ before ≡ last ∷ earlier → step ≡ last
same_last e = cc

abbrev pub items_in : Reply → List ℕ
items_in (Bytes bytes) = bytes.items
items_in _ = []

-- ---- answers

not_ok : (steps : ℕ) (fault : ProvisionFault) → Ok steps ≡ Err fault → ⊥
not_ok steps fault e = cc

-- a success has a last step
pub success_ends : {Ends : Answer → Step → Type 0} {full : Type 0} {history : History} {steps : ℕ} → IsAnswer Ends full history (Ok steps) → EndsIn Ends history (Ok steps)
success_ends {Ends} {full} {history} {steps} is = elim is.answered as (λ _. EndsIn Ends history (Ok steps)) [
  | inl ends ↦ ends
  | inr (inl gives_up) ↦ absurd (not_ok steps _ gives_up.fault)
  | inr (inr fills) ↦ absurd (not_ok steps _ fills.fault)
]
