-- That Starts are kept as they are sent is needed: a module that keeps other bytes, and what becomes of it.
use Rattle.std.proofs.Common.{◌≡◌, ◌⊎◌, ℕ, ◌==◌, true, [], ◌∷◌, refl, sym, subst, ap, inl, inr, arith}
use Rattle.firmware_update.specs.declared.bank.Bank.TheVariants.{A, B}
use Rattle.firmware_update.specs.declared.command.Command.TheVariants.{Features, Info, Start, Block, Complete, Run, Commit}
use Rattle.firmware_laws.specs.Contents.{BlocksAreStored, BlocksKeepOthers, CompletesMakeImages, IsCommittedImage, IsOldOrNew}
use Rattle.firmware_update.specs.Exchanges.{History}
use Rattle.firmware_laws.specs.Losses.{CanBeMixed}
use Rattle.firmware_laws.specs.Modules.{ComesTo, CommitIsAtomic, Commits, DownloadsGoAside, FillsOther, Firmware, HasTwoBanks, InfoIsTrue, QuestionsChangeNothing, RunsKeepBanks, Switches, held}
use Rattle.firmware_update.specs.Payloads.{message_of}
use Rattle.firmware_update.specs.Progress.{exchange_of}
use Rattle.firmware_update.specs.Replies.{new_runs}
use Rattle.firmware_update.specs.Safety.{IsSafe}
use Rattle.firmware_laws.specs.SampleModules.{carried, features, info, other_first, replied, says, works, works_but}
use Rattle.firmware_laws.proofs.Samples.{asked_works, begun_fills, both, commit_works, completed_works, filled_works, fills_same, missed_works, ran_works, stored_works, told_works}
use Rattle.firmware_laws.proofs.Needed.{skip, take_it, none, small, std, stood}

-- ---- without one thing that is presumed of contents

starts_asks : QuestionsChangeNothing (works_but 257 other_first)
starts_asks sent choice before (inl is) =
    skip (λ (f : Firmware). f ≡ before) (sent.id == 257) _ (works sent choice before) (ap (λ (k : ℕ). k == 257) is) (asked_works sent choice before (inl is))
starts_asks sent choice before (inr is) =
    skip (λ (f : Firmware). f ≡ before) (sent.id == 257) _ (works sent choice before) (ap (λ (k : ℕ). k == 257) is) (asked_works sent choice before (inr is))

starts_tells : InfoIsTrue (works_but 257 other_first)
starts_tells choice before reply e = told_works choice before reply e

starts_fills : DownloadsGoAside (works_but 257 other_first)
starts_fills sent choice before (inl is) =
    take_it (FillsOther before) (sent.id == 257) _ (works sent choice before) (ap (λ (k : ℕ). k == 257) is)
    (both (FillsOther before) (replied sent.id before) (other_first (carried sent.id sent.body.items before)) before
    (subst (λ (k : ℕ). FillsOther before (other_first (carried k sent.body.items before))) (sym is) (begun_fills sent.body.items before))
    (fills_same before) choice)
starts_fills sent choice before (inr (inl is)) =
    skip (FillsOther before) (sent.id == 257) _ (works sent choice before) (ap (λ (k : ℕ). k == 257) is) (filled_works sent choice before (inr (inl is)))
starts_fills sent choice before (inr (inr (inl is))) =
    skip (FillsOther before) (sent.id == 257) _ (works sent choice before) (ap (λ (k : ℕ). k == 257) is) (filled_works sent choice before (inr (inr (inl is))))
starts_fills sent choice before (inr (inr (inr is))) =
    skip (FillsOther before) (sent.id == 257) _ (works sent choice before) (ap (λ (k : ℕ). k == 257) is) (filled_works sent choice before (inr (inr (inr is))))

starts_runs : RunsKeepBanks (works_but 257 other_first)
starts_runs sent choice before is =
    skip (Switches before) (sent.id == 257) _ (works sent choice before) (ap (λ (k : ℕ). k == 257) is) (ran_works sent choice before is)

starts_commits : CommitIsAtomic (works_but 257 other_first)
starts_commits sent choice before is =
    skip (λ (f : Firmware). (f ≡ before) ⊎ Commits before f) (sent.id == 257) _ (works sent choice before) (ap (λ (k : ℕ). k == 257) is) (commit_works sent choice before is)

pub starts_two : HasTwoBanks (works_but 257 other_first)
starts_two = record { asked = starts_asks; told = starts_tells; filled = starts_fills; ran = starts_runs; commit_is_atomic = starts_commits }

abbrev starts_1 : Firmware
starts_1 = ((works_but 257 other_first) (message_of small Features) 0 std).after

abbrev starts_2 : Firmware
starts_2 = ((works_but 257 other_first) (message_of small Info) 0 starts_1).after

abbrev starts_3 : Firmware
starts_3 = ((works_but 257 other_first) (message_of small (Start 1)) 0 starts_2).after

abbrev starts_4 : Firmware
starts_4 = ((works_but 257 other_first) (message_of small (Block 1 0)) 0 starts_3).after

abbrev starts_5 : Firmware
starts_5 = ((works_but 257 other_first) (message_of small Complete) 0 starts_4).after

abbrev starts_6 : Firmware
starts_6 = ((works_but 257 other_first) (message_of small Run) 0 starts_5).after

abbrev starts_7 : Firmware
starts_7 = ((works_but 257 other_first) (message_of small Info) 0 starts_6).after

abbrev pub starts_8 : Firmware
starts_8 = ((works_but 257 other_first) (message_of small Commit) 0 starts_7).after

starts_new : new_runs A (info starts_6) ≡ true
unfolding new_runs
starts_new = refl

abbrev pub starts_history : History
starts_history = exchange_of Commit (says []) ∷ exchange_of Info (says (info starts_6)) ∷ exchange_of Run (says []) ∷ exchange_of Complete (says []) ∷ exchange_of (Block 1 0) (says []) ∷ exchange_of (Start 1) (says []) ∷ exchange_of Info (says (info starts_1)) ∷ exchange_of Features (says features) ∷ []

pub starts_safe : IsSafe 2 starts_history
starts_safe = ((A, (record { items = info starts_6 }, refl, refl, starts_new), inr (inl (refl, tt)), inr (inr (inr (inr (inr (inl (record { items = info std }, refl, refl, stood))))))), (tt, ((none, refl, refl, tt), ((1, (omega arith), inr (inr (0, refl, (none, refl, refl, tt), inr (inl (refl, (none, refl, refl, tt)))))), ((inr (inl (refl, (none, refl, refl, tt))), omega arith), (((tt, (tt, tt)), inr (inl (record { items = features }, refl, refl, refl)), (A, (record { items = info std }, refl, refl, stood))), (tt, (tt, tt))))))))

pub starts_comes : ComesTo (works_but 257 other_first) small std starts_history starts_8
starts_comes = (starts_7, 0, (starts_6, 0, (starts_5, 0, (starts_4, 0, (starts_3, 0, (starts_2, 0, (starts_1, 0, (std, 0, inl refl, inl (refl, inl refl)), inl (refl, inl refl)), inl (refl, inl refl)), inl (refl, inl refl)), inl (refl, inl refl)), inl (refl, inl refl)), inl (refl, inl refl)), inl (refl, inl refl))

starts_neither : IsCommittedImage std (held starts_8 B).image ⊎ ((held starts_8 B).image ≡ small) → ⊥
starts_neither (inl (A, is, same)) = absurd cc
starts_neither (inl (B, is, same)) = absurd cc
starts_neither (inr same) = absurd cc

pub starts_mixed : IsOldOrNew std small starts_8 → ⊥
starts_mixed any = starts_neither (any (held starts_8 B).image (B, refl, refl))

pub starts_needed : CanBeMixed (λ conduct. BlocksAreStored conduct × BlocksKeepOthers conduct × CompletesMakeImages conduct)
starts_needed = (works_but 257 other_first, small, starts_history, std, starts_8, starts_two, (stored_works, missed_works, completed_works), refl, starts_safe, starts_comes, starts_mixed)
