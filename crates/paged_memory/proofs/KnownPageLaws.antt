-- What a host keeps of the page selection is what its steps say.
use Rattle.std.proofs.Common.{◌≡◌, inl, inr, ℕ, ◌+◌, ◌*◌, ◌/◌, ◌%◌, nat_lt, ◌==◌, ◌&&◌, ◌||◌, Bool, true, false, not, List, [], ◌∷◌, Option, Some, None, refl, sym, ap, subst, ◌∙◌, if◌then◌else◌, arith}
use Rattle.std.proofs.lemmas.Bool.{and_from, and_parts, cases_lt, eq-eqb, eqb-true, false_from_ne_true, le-ltb, lt-ltb}
use Rattle.std.proofs.lemmas.Bool.Decides.{nat_tests}
use Rattle.bus_model.specs.declared.device.Dev.TheVariants.{A0}
use Rattle.bus_model.specs.declared.operation.Op.{Op}
use Rattle.bus_model.specs.declared.operation.Op.TheVariants.{Fetch, Store}
use Rattle.bus_model.specs.declared.operation.Reply.{Reply}
use Rattle.bus_model.specs.declared.operation.Reply.TheVariants.{Bytes, Done, Refused}
use Rattle.bus_model.specs.declared.operation.Step.{Step}
use Rattle.bus_model.specs.SameOperation.{same_op}
use Rattle.paged_memory.specs.declared.page_addressing.PageAddressing.{PageAddressing}
use Rattle.paged_memory.specs.declared.page_addressing.PageAddressing.TheVariants.{BankAndPage, PageAlone}
use Rattle.paged_memory.specs.declared.page_addressing.KnownPage.{KnownPage}
use Rattle.paged_memory.specs.declared.page_addressing.KnownPage.TheVariants.{Unknown, Open, Page}
use Rattle.paged_memory.specs.PageAddressing.{History, is_page_confirmed, is_page, is_read, is_selection_of, may_select, read_selection, selection}
use Rattle.paged_memory.specs.KnownPages.{IsApart, Tells, is_awaited, is_known, missing_page, page_in, selected_after, selecting_first, selection_read, selection_told, wanted}

abbrev pub step_of : Op → Reply → Step
step_of op reply = record { op = op; reply = reply }

-- nothing was known to be selected where a read back is awaited
none_known : (selected : KnownPage) (page : ℕ) → is_awaited selected ≡ true → is_known selected page ≡ false
none_known Unknown page e = refl
none_known Open page e = refl
none_known (Page known) page e = cc

page_closes : (bank number : ℕ) → is_awaited (page_in bank number) ≡ false
page_closes bank number = elim (nat_lt number 256) as (λ b. is_awaited (if b then Page (256 * bank + number) else Unknown) ≡ false) [ true ↦ refl | false ↦ refl ]

pub read_closes : (addressing : PageAddressing) (bytes : List ℕ) → is_awaited (selection_read addressing bytes) ≡ false
read_closes BankAndPage [] = refl
read_closes BankAndPage (bank ∷ []) = refl
read_closes BankAndPage (bank ∷ number ∷ []) = page_closes bank number
read_closes BankAndPage (bank ∷ number ∷ more ∷ bytes) = refl
read_closes PageAlone [] = refl
read_closes PageAlone (number ∷ []) = page_closes 0 number
read_closes PageAlone (number ∷ more ∷ bytes) = refl

same_truth : (a b : Bool) → (a ≡ true → b ≡ true) → (b ≡ true → a ≡ true) → a ≡ b
same_truth true b there back = sym (there refl)
same_truth false true there back = back refl
same_truth false false there back = refl

pub parts_are : (bank number page : ℕ) → (bank == page / 256 && number == page % 256) ≡ true → (bank ≡ page / 256) × (number ≡ page % 256)
parts_are bank number page e = let parts = and_parts (bank == page / 256) (number == page % 256) e in (eqb-true bank (page / 256) parts.0, eqb-true number (page % 256) parts.1)

-- a bank and a page are those of the number that they have
page_tells : (bank number page : ℕ) → (bank == page / 256 && number == page % 256) ≡ is_known (page_in bank number) page
page_tells bank number page = elim (cases_lt number 256) [
  | inl below ↦
      let same : (bank == page / 256 && number == page % 256) ≡ (256 * bank + number == page) =
      same_truth _ _ (λ e. let (of, at) = parts_are bank number page e in eq-eqb (256 * bank + number) page (omega (arith, of, at)))
      (λ e. let whole = eqb-true (256 * bank + number) page e in and_from _ _ (eq-eqb bank (page / 256) (omega (arith, below, whole))) (eq-eqb number (page % 256) (omega (arith, below, whole)))) in
      let byte : nat_lt number 256 ≡ true = lt-ltb number 256 below in
      same ∙ sym (ap (λ (b : Bool). is_known (if b then Page (256 * bank + number) else Unknown) page) byte)
  | inr above ↦
      let other : (bank == page / 256 && number == page % 256) ≡ false =
      false_from_ne_true _ (λ e. let (of, at) = parts_are bank number page e in omega (arith, above, at)) in
      let none : nat_lt number 256 ≡ false = le-ltb number 256 above in
      other ∙ sym (ap (λ (b : Bool). is_known (if b then Page (256 * bank + number) else Unknown) page) none)
]

alone_tells : (number page : ℕ) → (page / 256 == 0 && number == page % 256) ≡ is_known (page_in 0 number) page
alone_tells number page = ap (λ (b : Bool). b && number == page % 256) (same_truth (page / 256 == 0) (0 == page / 256) (λ e. eq-eqb _ _ (sym (eqb-true _ _ e))) (λ e. eq-eqb _ _ (sym (eqb-true _ _ e)))) ∙ page_tells 0 number page

pub read_tells : (addressing : PageAddressing) (bytes : List ℕ) (page : ℕ) → is_selection_of addressing page bytes ≡ is_known (selection_read addressing bytes) page
read_tells BankAndPage [] page = refl
read_tells BankAndPage (bank ∷ []) page = refl
read_tells BankAndPage (bank ∷ number ∷ []) page = page_tells bank number page
read_tells BankAndPage (bank ∷ number ∷ more ∷ bytes) page = refl
read_tells PageAlone [] page = refl
read_tells PageAlone (number ∷ []) page = alone_tells number page
read_tells PageAlone (number ∷ more ∷ bytes) page = refl

or_false : (b : Bool) → (b || false) ≡ b
or_false true = refl
or_false false = refl

pub reads_itself : (addressing : PageAddressing) → same_op (read_selection addressing) (read_selection addressing) ≡ true
reads_itself BankAndPage = refl
reads_itself PageAlone = refl

pub reads_alone : (addressing : PageAddressing) → may_select addressing (read_selection addressing) ≡ false
reads_alone BankAndPage = refl
reads_alone PageAlone = refl

-- where pages are selected alone: of what holds of both stores that there are
pub by_selection : (P : Op → Type 0) (page : ℕ) → P (Store A0 127 (record { items = page % 256 ∷ [] })) → P (Store A0 126 (record { items = page / 256 ∷ page % 256 ∷ [] })) → P (selection PageAlone page)
by_selection P page alone banked = elim (page / 256 == 0) as (λ b. P (if b then Store A0 127 (record { items = page % 256 ∷ [] }) else Store A0 126 (record { items = page / 256 ∷ page % 256 ∷ [] }))) [ true ↦ alone | false ↦ banked ]

pub selects : (addressing : PageAddressing) (page : ℕ) → may_select addressing (selection addressing page) ≡ true
selects BankAndPage page = refl
selects PageAlone page = by_selection (λ op. may_select PageAlone op ≡ true) page refl refl

pub selects_alone : (addressing : PageAddressing) (page : ℕ) → same_op (read_selection addressing) (selection addressing page) ≡ false
selects_alone BankAndPage page = refl
selects_alone PageAlone page = by_selection (λ op. same_op (read_selection PageAlone) op ≡ false) page refl refl

-- the page that the store of a selection names
abbrev named_by : List ℕ → ℕ
named_by [] = 0
named_by (number ∷ []) = number
named_by (bank ∷ number ∷ bytes) = 256 * bank + number

abbrev named_in : Op → ℕ
named_in (Fetch dev offset count) = 0
named_in (Store dev offset bytes) = named_by bytes.items

names : (addressing : PageAddressing) (page : ℕ) → named_in (selection addressing page) ≡ page
names BankAndPage page = omega arith
names PageAlone page = by (page / 256 == 0) refl where
  by : (alone : Bool) → (page / 256 == 0) ≡ alone → named_in (if alone then Store A0 127 (record { items = page % 256 ∷ [] }) else Store A0 126 (record { items = page / 256 ∷ page % 256 ∷ [] })) ≡ page
  by true e = let first = eqb-true (page / 256) 0 e in omega (arith, first)
  by false e = omega arith

-- no two pages have one selection
pub same_page : (addressing : PageAddressing) (page other : ℕ) → selection addressing page ≡ selection addressing other → page ≡ other
same_page addressing page other e = sym (names addressing page) ∙ ap named_in e ∙ names addressing other

module _ (addressing : PageAddressing) (selected : KnownPage) (history : History) (told : Tells addressing selected history) where
  read_back_tells : (reply : Reply) → is_awaited selected ≡ true → Tells addressing (selection_told addressing selected reply) (step_of (read_selection addressing) reply ∷ history)
  read_back_tells (Bytes bytes) awaited = record {
    awaited = (λ i. reads_alone addressing i || (reads_itself addressing i && false)) ∙ sym (read_closes addressing bytes.items);
    known = λ page.
        (λ i. (reads_itself addressing i && is_selection_of addressing page bytes.items) || (not (reads_alone addressing i) && is_page_confirmed addressing page history))
        ∙ ap (λ (b : Bool). is_selection_of addressing page bytes.items || b) (told.known page ∙ none_known selected page awaited)
        ∙ or_false _ ∙ read_tells addressing bytes.items page;
  }
  read_back_tells Done awaited = record {
    awaited = (λ i. reads_alone addressing i || (reads_itself addressing i && true)) ∙ sym awaited;
    known = λ page. (λ i. (reads_itself addressing i && false) || (not (reads_alone addressing i) && is_page_confirmed addressing page history)) ∙ told.known page;
  }
  read_back_tells Refused awaited = record {
    awaited = (λ i. reads_alone addressing i || (reads_itself addressing i && true)) ∙ sym awaited;
    known = λ page. (λ i. (reads_itself addressing i && false) || (not (reads_alone addressing i) && is_page_confirmed addressing page history)) ∙ told.known page;
  }

  selection_tells : (page : ℕ) (reply : Reply) → Tells addressing Open (step_of (selection addressing page) reply ∷ history)
  selection_tells page reply = record {
    awaited = (λ i. selects addressing page i || (selects_alone addressing page i && not (is_read reply)));
    known = λ other. (λ i. (selects_alone addressing page i && is_page addressing other reply) || (not (selects addressing page i) && is_page_confirmed addressing other history));
  }

  work_tells : (op : Op) (reply : Reply) → IsApart addressing op → is_awaited selected ≡ false → Tells addressing selected (step_of op reply ∷ history)
  work_tells op reply apart closed = record {
    awaited = (λ i. apart.not_selecting i || (apart.not_reading_back i && not (is_read reply))) ∙ sym closed;
    known = λ page. (λ i. (apart.not_reading_back i && is_page addressing page reply) || (not (apart.not_selecting i) && is_page_confirmed addressing page history)) ∙ told.known page;
  }

pub after_read : (addressing : PageAddressing) (selected : KnownPage) (reply : Reply) → selected_after addressing selected (step_of (read_selection addressing) reply) ≡ selection_told addressing selected reply
after_read addressing selected reply = λ i. if reads_alone addressing i then Open else (if reads_itself addressing i then selection_told addressing selected reply else selected)

pub after_selection : (addressing : PageAddressing) (selected : KnownPage) (page : ℕ) (reply : Reply) → selected_after addressing selected (step_of (selection addressing page) reply) ≡ Open
after_selection addressing selected page reply =
    (λ i. if selects addressing page i then Open else (if same_op (read_selection addressing) (selection addressing page) then selection_told addressing selected reply else selected))

pub after_work : (addressing : PageAddressing) (selected : KnownPage) (op : Op) (reply : Reply) → IsApart addressing op → selected_after addressing selected (step_of op reply) ≡ selected
after_work addressing selected op reply apart = λ i. if apart.not_selecting i then Open else (if apart.not_reading_back i then selection_told addressing selected reply else selected)

module _ (addressing : PageAddressing) (selected : KnownPage) (op : Op) (history : History) (apart : IsApart addressing op) (told : Tells addressing selected history) where
  tells_with : (missing : Option ℕ) (reply : Reply) → is_awaited selected ≡ false →
      let made = step_of (selecting_first addressing op missing) reply in Tells addressing (selected_after addressing selected made) (made ∷ history)
  tells_with None reply closed =
      subst (λ (known : KnownPage). Tells addressing known (step_of op reply ∷ history)) (sym (after_work addressing selected op reply apart)) (work_tells addressing selected history told op reply apart closed)
  tells_with (Some page) reply closed =
      subst (λ (known : KnownPage). Tells addressing known (step_of (selection addressing page) reply ∷ history)) (sym (after_selection addressing selected page reply)) (selection_tells addressing selected history told page reply)

  tells_made : (needed : Option ℕ) (reply : Reply) (awaited : Bool) → is_awaited selected ≡ awaited →
      let made = step_of (if awaited then read_selection addressing else selecting_first addressing op (missing_page selected needed)) reply in
      Tells addressing (selected_after addressing selected made) (made ∷ history)
  tells_made needed reply true e =
      subst (λ (known : KnownPage). Tells addressing known (step_of (read_selection addressing) reply ∷ history)) (sym (after_read addressing selected reply)) (read_back_tells addressing selected history told reply e)
  tells_made needed reply false e = tells_with (missing_page selected needed) reply e

  -- after what was asked for
  pub tells_next : (needed : Option ℕ) (step : Step) → step.op ≡ wanted addressing selected needed op → Tells addressing (selected_after addressing selected step) (step ∷ history)
  tells_next needed step e =
      subst (λ (step : Step). Tells addressing (selected_after addressing selected step) (step ∷ history)) (λ i. step_of (sym e i) step.reply)
      (tells_made needed step.reply (is_awaited selected) refl)

-- no two pages are confirmed
abbrev pub OnePage : PageAddressing → History → Type 0
OnePage addressing history = (page other : ℕ) → not (other == page) ≡ true → is_page_confirmed addressing page history ≡ true → is_page_confirmed addressing other history ≡ false

one_known : (selected : KnownPage) (page other : ℕ) → not (other == page) ≡ true → is_known selected page ≡ true → is_known selected other ≡ false
one_known Unknown page other apart known = refl
one_known Open page other apart known = refl
one_known (Page number) page other apart known = grind (arith, nat_tests)

pub one_page : (addressing : PageAddressing) (selected : KnownPage) (history : History) → Tells addressing selected history → OnePage addressing history
one_page addressing selected history told page other apart confirmed = told.known other ∙ one_known selected page other apart (sym (told.known page) ∙ confirmed)

none_missing : (known : Bool) (page : ℕ) → (if known then None else Some page) ≡ None → known ≡ true
none_missing true page e = refl
none_missing false page e = cc

-- where it isn't missing, the page is confirmed
pub is_confirmed : (addressing : PageAddressing) (selected : KnownPage) (page : ℕ) (history : History) → Tells addressing selected history → missing_page selected (Some page) ≡ None → is_page_confirmed addressing page history ≡ true
is_confirmed addressing selected page history told e = told.known page ∙ none_missing (is_known selected page) page e

pub tells_nothing : (addressing : PageAddressing) → Tells addressing Unknown []
tells_nothing addressing = record { awaited = refl; known = λ page. refl }
