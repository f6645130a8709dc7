-- That a quiet beginning and the look before a Start are needed, and what the other samples share.
use Rattle.std.proofs.Common.{◌≡◌, ◌⊎◌, ℕ, ◌==◌, Bool, true, false, cond, List, [], ◌∷◌, replicate, Option, Some, refl, subst, ap, inl, inr, ◌∙◌}
use Rattle.arrayvec.specs.ArrayVec.{ArrayVec}
use Rattle.firmware_update.specs.declared.bank.Bank.{Bank}
use Rattle.firmware_update.specs.declared.bank.Bank.TheVariants.{A, B}
use Rattle.firmware_update.specs.declared.command.Command.TheVariants.{Features, Info, Start}
use Rattle.firmware_update.specs.Exchanges.{History}
use Rattle.firmware_laws.specs.Looser.{IsUnseen}
use Rattle.firmware_laws.specs.Modules.{Answer, ComesTo, CommitIsAtomic, Commits, Download, DownloadsGoAside, FillsOther, Firmware, HasImage, HasTwoBanks, Held, InfoIsTrue, QuestionsChangeNothing, RunsKeepBanks, Switches, held}
use Rattle.firmware_update.specs.Payloads.{message_of}
use Rattle.firmware_update.specs.Progress.{exchange_of}
use Rattle.firmware_update.specs.Replies.{other_bank, standing_bank}
use Rattle.firmware_update.specs.Safety.{IsSafe}
use Rattle.firmware_laws.specs.SampleModules.{can_other, closed, features, fill_other, fresh, info, other_image, parted, replied, resets_later, restless, says, switched_later, works}
use Rattle.firmware_laws.proofs.Samples.{asked_works, both, closed_fills, commit_works, filled_works, later_keeps, told_works}

-- ---- a choice of two answers

pub skip : (P : Firmware → Type 0) (b : Bool) (one two : Answer) → b ≡ false → P two.after → P (cond b one two).after
skip P true one two e holds = absurd cc
skip P false one two e holds = holds

pub take_it : (P : Firmware → Type 0) (b : Bool) (one two : Answer) → b ≡ true → P one.after → P (cond b one two).after
take_it P true one two e holds = holds
take_it P false one two e holds = absurd cc

pub either_one : (P : Firmware → Type 0) (b : Bool) (one two : Answer) → P one.after → P two.after → P (cond b one two).after
either_one P true one two first second = first
either_one P false one two first second = second

pub fills_other : (a b : Held) (running : Bank) (download : Option Download) (reset : Option Bank) (bytes : List ℕ)
    → FillsOther (record { a = a; b = b; running = running; download = download; reset = reset }) (fill_other true bytes (record { a = a; b = b; running = running; download = download; reset = reset }))
fills_other a b A download reset bytes = (refl, refl, refl, refl)
fills_other a b B download reset bytes = (refl, refl, refl, refl)

pub fills_twice : (one two three : Firmware) → FillsOther one two → FillsOther two three → FillsOther one three
fills_twice one two three first second =
    let run : two.running ≡ one.running = first.0 in (
      second.0 ∙ run,
      subst (λ (b : Bank). held three b ≡ held two b) run second.1 ∙ first.1,
      subst (λ (b : Bank). (held three (other_bank b)).committed ≡ (held two (other_bank b)).committed) run second.2 ∙ first.2,
      second.3 ∙ first.3,
    )

pub image_fills : (download : Option Download) (f : Firmware) → FillsOther f (other_image (closed download f))
image_fills download f =
    fills_twice f (closed download f) (other_image (closed download f)) (closed_fills download f)
    (fills_other (closed download f).a (closed download f).b (closed download f).running (closed download f).download (closed download f).reset (5 ∷ []))

abbrev pub none : ArrayVec ℕ
none = record { items = [] }

abbrev pub small : List ℕ
small = 7 ∷ 8 ∷ []

abbrev pub large : List ℕ
large = replicate 118 7

abbrev pub std : Firmware
std = fresh A (9 ∷ [])

pub stood : standing_bank (info std) ≡ Some A
unfolding standing_bank
stood = refl

pub lied : standing_bank (67 ∷ []) ≡ Some A
unfolding standing_bank
lied = refl

pub std_image : HasImage std
std_image = (A, (refl, refl))

pub parted_image : HasImage parted
parted_image = (A, (refl, refl))

-- ---- a module that answers a Run before its reset

pub later_asks : QuestionsChangeNothing resets_later
later_asks sent choice before (inl is) =
    skip (λ (f : Firmware). f ≡ before) (sent.id == 265) _ (works sent choice before) (ap (λ (k : ℕ). k == 265) is) (asked_works sent choice before (inl is))
later_asks sent choice before (inr is) =
    skip (λ (f : Firmware). f ≡ before) (sent.id == 265) _ (works sent choice before) (ap (λ (k : ℕ). k == 265) is) (asked_works sent choice before (inr is))

pub later_tells : InfoIsTrue resets_later
later_tells choice before reply e = told_works choice before reply e

pub later_fills : DownloadsGoAside resets_later
later_fills sent choice before (inl is) =
    skip (FillsOther before) (sent.id == 265) _ (works sent choice before) (ap (λ (k : ℕ). k == 265) is) (filled_works sent choice before (inl is))
later_fills sent choice before (inr (inl is)) =
    skip (FillsOther before) (sent.id == 265) _ (works sent choice before) (ap (λ (k : ℕ). k == 265) is) (filled_works sent choice before (inr (inl is)))
later_fills sent choice before (inr (inr (inl is))) =
    skip (FillsOther before) (sent.id == 265) _ (works sent choice before) (ap (λ (k : ℕ). k == 265) is) (filled_works sent choice before (inr (inr (inl is))))
later_fills sent choice before (inr (inr (inr is))) =
    skip (FillsOther before) (sent.id == 265) _ (works sent choice before) (ap (λ (k : ℕ). k == 265) is) (filled_works sent choice before (inr (inr (inr is))))

pub later_runs : RunsKeepBanks resets_later
later_runs sent choice before is =
    take_it (Switches before) (sent.id == 265) _ (works sent choice before) (ap (λ (k : ℕ). k == 265) is)
    (both (Switches before) (replied 265 before) (switched_later (can_other before) before) before (later_keeps (can_other before) before) ((refl, refl), inl refl) choice)

pub later_commits : CommitIsAtomic resets_later
later_commits sent choice before is =
    skip (λ (f : Firmware). (f ≡ before) ⊎ Commits before f) (sent.id == 265) _ (works sent choice before) (ap (λ (k : ℕ). k == 265) is) (commit_works sent choice before is)

pub later_two : HasTwoBanks resets_later
later_two = record { asked = later_asks; told = later_tells; filled = later_fills; ran = later_runs; commit_is_atomic = later_commits }

-- ---- with a reset that is still to come at the beginning

abbrev pub restless_history : History
restless_history = exchange_of (Start 1) (says []) ∷ exchange_of Info (says (info restless)) ∷ exchange_of Features (says features) ∷ []

pub stood_restless : standing_bank (info restless) ≡ Some A
unfolding standing_bank
stood_restless = refl

pub restless_image : HasImage restless
restless_image = (A, (refl, refl))

pub restless_safe : IsSafe 2 restless_history
restless_safe = (((tt, (tt, tt)), inr (inl (record { items = features }, refl, refl, refl)), (A, (record { items = info restless }, refl, refl, stood_restless))), (tt, (tt, tt)))

abbrev pub restless_last : Firmware
restless_last = (works (message_of small (Start 1)) 0 parted).after

pub restless_comes : ComesTo works small restless restless_history restless_last
restless_comes =
    (parted, 0, (restless, 0, (restless, 0, inl refl, inl (refl, inl refl)), inl (refl, inr (inr (B, refl, (refl, refl), refl, (λ can. refl), inl refl, refl)))), inl (refl, inl refl))

pub restless_lost : HasImage restless_last → ⊥
restless_lost (A, (is, can)) = absurd cc
restless_lost (B, (is, can)) = absurd cc

-- ---- without a look before the Start

abbrev pub unseen_1 : Firmware
unseen_1 = ((works) (message_of small Features) 0 parted).after

abbrev pub unseen_2 : Firmware
unseen_2 = ((works) (message_of small (Start 1)) 0 unseen_1).after

abbrev pub unseen_history : History
unseen_history = exchange_of (Start 1) (says []) ∷ exchange_of Features (says features) ∷ []

pub unseen_safe : IsUnseen 2 unseen_history
unseen_safe = (((tt, tt), inl (record { items = features }, refl, refl, refl)), (tt, tt))

pub unseen_comes : ComesTo (works) small parted unseen_history unseen_2
unseen_comes = (unseen_1, 0, (parted, 0, inl refl, inl (refl, inl refl)), inl (refl, inl refl))

pub unseen_lost : HasImage unseen_2 → ⊥
unseen_lost (A, (is, can)) = absurd cc
unseen_lost (B, (is, can)) = absurd cc
