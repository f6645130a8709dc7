-- That blocks are stored and leave the others, and that a Complete makes the image, is needed: modules that do otherwise, and what becomes of
-- them.
use Rattle.std.proofs.Common.{◌≡◌, ◌⊎◌, ℕ, suc, ◌==◌, ◌&&◌, ◌++◌, Bool, true, false, cond, List, [], ◌∷◌, map, take, drop, Some, refl, sym, subst, ap, inl, inr, arith}
use Rattle.command_block.specs.declared.outcome.Outcome.TheVariants.{Unknown}
use Rattle.firmware_update.specs.declared.bank.Bank.TheVariants.{A, B}
use Rattle.firmware_update.specs.declared.command.Command.TheVariants.{Features, Info, Start, Block, Complete, Run, Commit}
use Rattle.firmware_laws.specs.Contents.{BlocksAreStored, BlocksKeepOthers, CompletesMakeImages, IsCommittedImage, IsOldOrNew, KeepsBelow, PutsAt, HasSucceeded, StartsAreKept}
use Rattle.firmware_update.specs.Exchanges.{History}
use Rattle.firmware_laws.specs.Losses.{CanBeMixed}
use Rattle.firmware_laws.specs.Modules.{Answer, ComesTo, CommitIsAtomic, Commits, DownloadsGoAside, FillsOther, Firmware, HasTwoBanks, InfoIsTrue, QuestionsChangeNothing, RunsKeepBanks, Switches, held}
use Rattle.firmware_update.specs.Payloads.{be32, block_message, message_of}
use Rattle.firmware_update.specs.Progress.{exchange_of}
use Rattle.firmware_update.specs.Replies.{new_runs}
use Rattle.firmware_update.specs.Safety.{IsSafe}
use Rattle.firmware_laws.specs.SampleModules.{carried, changes_others, features, filled, info, other_image, replied, says, stores_others, with_download, with_rest, works, works_but}
use Rattle.firmware_laws.proofs.Samples.{asked_works, both, commit_works, completed_works, filled_works, fills_same, keeps, keeps_same, missed_works, ran_works, started_works, stored_works, told_works}
use Rattle.firmware_laws.proofs.Needed.{skip, take_it, either_one, image_fills, none, small, large, std, stood}

others_keep : BlocksKeepOthers stores_others
others_keep address bytes choice before =
    both (KeepsBelow address before) (replied 259 before) (filled (be32 address ++ map suc bytes) before) before
    (keeps address (map suc bytes) before.a before.b before.running before.download before.reset) (keeps_same address before.a before.b before.running before.download before.reset) choice

blocks_asks : QuestionsChangeNothing stores_others
blocks_asks sent choice before (inl is) =
    skip (λ (f : Firmware). f ≡ before) (sent.id == 259) _ (works sent choice before) (ap (λ (k : ℕ). k == 259) is) (asked_works sent choice before (inl is))
blocks_asks sent choice before (inr is) =
    skip (λ (f : Firmware). f ≡ before) (sent.id == 259) _ (works sent choice before) (ap (λ (k : ℕ). k == 259) is) (asked_works sent choice before (inr is))

blocks_tells : InfoIsTrue stores_others
blocks_tells choice before reply e = told_works choice before reply e

blocks_fills : DownloadsGoAside stores_others
blocks_fills sent choice before (inl is) =
    skip (FillsOther before) (sent.id == 259) _ (works sent choice before) (ap (λ (k : ℕ). k == 259) is) (filled_works sent choice before (inl is))
blocks_fills sent choice before (inr (inl is)) =
    take_it (FillsOther before) (sent.id == 259) _ (works sent choice before) (ap (λ (k : ℕ). k == 259) is)
    (both (FillsOther before) (replied 259 before) (filled (take 4 sent.body.items ++ map suc (drop 4 sent.body.items)) before) before (refl, refl, refl, refl)
    (fills_same before) choice)
blocks_fills sent choice before (inr (inr (inl is))) =
    skip (FillsOther before) (sent.id == 259) _ (works sent choice before) (ap (λ (k : ℕ). k == 259) is) (filled_works sent choice before (inr (inr (inl is))))
blocks_fills sent choice before (inr (inr (inr is))) =
    skip (FillsOther before) (sent.id == 259) _ (works sent choice before) (ap (λ (k : ℕ). k == 259) is) (filled_works sent choice before (inr (inr (inr is))))

blocks_runs : RunsKeepBanks stores_others
blocks_runs sent choice before is =
    skip (Switches before) (sent.id == 259) _ (works sent choice before) (ap (λ (k : ℕ). k == 259) is) (ran_works sent choice before is)

blocks_commits : CommitIsAtomic stores_others
blocks_commits sent choice before is =
    skip (λ (f : Firmware). (f ≡ before) ⊎ Commits before f) (sent.id == 259) _ (works sent choice before) (ap (λ (k : ℕ). k == 259) is) (commit_works sent choice before is)

pub blocks_two : HasTwoBanks (stores_others)
blocks_two = record { asked = blocks_asks; told = blocks_tells; filled = blocks_fills; ran = blocks_runs; commit_is_atomic = blocks_commits }

abbrev blocks_1 : Firmware
blocks_1 = ((stores_others) (message_of small Features) 0 std).after

abbrev blocks_2 : Firmware
blocks_2 = ((stores_others) (message_of small Info) 0 blocks_1).after

abbrev blocks_3 : Firmware
blocks_3 = ((stores_others) (message_of small (Start 1)) 0 blocks_2).after

abbrev blocks_4 : Firmware
blocks_4 = ((stores_others) (message_of small (Block 1 0)) 0 blocks_3).after

abbrev blocks_5 : Firmware
blocks_5 = ((stores_others) (message_of small Complete) 0 blocks_4).after

abbrev blocks_6 : Firmware
blocks_6 = ((stores_others) (message_of small Run) 0 blocks_5).after

abbrev blocks_7 : Firmware
blocks_7 = ((stores_others) (message_of small Info) 0 blocks_6).after

abbrev pub blocks_8 : Firmware
blocks_8 = ((stores_others) (message_of small Commit) 0 blocks_7).after

blocks_new : new_runs A (info blocks_6) ≡ true
unfolding new_runs
blocks_new = refl

abbrev pub blocks_history : History
blocks_history = exchange_of Commit (says []) ∷ exchange_of Info (says (info blocks_6)) ∷ exchange_of Run (says []) ∷ exchange_of Complete (says []) ∷ exchange_of (Block 1 0) (says []) ∷ exchange_of (Start 1) (says []) ∷ exchange_of Info (says (info blocks_1)) ∷ exchange_of Features (says features) ∷ []

pub blocks_safe : IsSafe 2 blocks_history
blocks_safe = ((A, (record { items = info blocks_6 }, refl, refl, blocks_new), inr (inl (refl, tt)), inr (inr (inr (inr (inr (inl (record { items = info std }, refl, refl, stood))))))), (tt, ((none, refl, refl, tt), ((1, (omega arith), inr (inr (0, refl, (none, refl, refl, tt), inr (inl (refl, (none, refl, refl, tt)))))), ((inr (inl (refl, (none, refl, refl, tt))), omega arith), (((tt, (tt, tt)), inr (inl (record { items = features }, refl, refl, refl)), (A, (record { items = info std }, refl, refl, stood))), (tt, (tt, tt))))))))

pub blocks_comes : ComesTo (stores_others) small std blocks_history blocks_8
blocks_comes = (blocks_7, 0, (blocks_6, 0, (blocks_5, 0, (blocks_4, 0, (blocks_3, 0, (blocks_2, 0, (blocks_1, 0, (std, 0, inl refl, inl (refl, inl refl)), inl (refl, inl refl)), inl (refl, inl refl)), inl (refl, inl refl)), inl (refl, inl refl)), inl (refl, inl refl)), inl (refl, inl refl)), inl (refl, inl refl))

blocks_neither : IsCommittedImage std (held blocks_8 B).image ⊎ ((held blocks_8 B).image ≡ small) → ⊥
blocks_neither (inl (A, is, same)) = absurd cc
blocks_neither (inl (B, is, same)) = absurd cc
blocks_neither (inr same) = absurd cc

pub blocks_mixed : IsOldOrNew std small blocks_8 → ⊥
blocks_mixed any = blocks_neither (any (held blocks_8 B).image (B, refl, refl))

pub blocks_needed : CanBeMixed (λ conduct. StartsAreKept conduct × BlocksKeepOthers conduct × CompletesMakeImages conduct)
blocks_needed = (stores_others, small, blocks_history, std, blocks_8, blocks_two, (started_works, others_keep, completed_works), refl, blocks_safe, blocks_comes, blocks_mixed)

changed_stored : (address : ℕ) (bytes : List ℕ) (before : Firmware) (b : Bool) (one two : Answer) → one.outcome ≡ Some Unknown → (HasSucceeded two → PutsAt address bytes before two.after)
    → HasSucceeded (cond b one two) → PutsAt address bytes before (cond b one two).after
changed_stored address bytes before true one two e puts_it (reply, says_it) = absurd cc
changed_stored address bytes before false one two e puts_it done = puts_it done

changes_store : BlocksAreStored changes_others
changes_store address bytes choice before =
    changed_stored address bytes before (choice == 2) (record { outcome = Some Unknown; after = with_download (with_rest (5 ∷ []) before.download) before })
    (works (block_message address bytes) choice before) refl (stored_works address bytes choice before)

others_asks : QuestionsChangeNothing changes_others
others_asks sent choice before (inl is) =
    skip (λ (f : Firmware). f ≡ before) (sent.id == 259 && choice == 2) _ (works sent choice before) (ap (λ (k : ℕ). k == 259 && choice == 2) is) (asked_works sent choice before (inl is))
others_asks sent choice before (inr is) =
    skip (λ (f : Firmware). f ≡ before) (sent.id == 259 && choice == 2) _ (works sent choice before) (ap (λ (k : ℕ). k == 259 && choice == 2) is) (asked_works sent choice before (inr is))

others_tells : InfoIsTrue changes_others
others_tells choice before reply e = told_works choice before reply e

others_fills : DownloadsGoAside changes_others
others_fills sent choice before (inl is) =
    skip (FillsOther before) (sent.id == 259 && choice == 2) _ (works sent choice before) (ap (λ (k : ℕ). k == 259 && choice == 2) is) (filled_works sent choice before (inl is))
others_fills sent choice before (inr (inl is)) =
    either_one (FillsOther before) (sent.id == 259 && choice == 2) (record { outcome = Some Unknown; after = with_download (with_rest (5 ∷ []) before.download) before }) (works sent choice before)
    (refl, refl, refl, refl) (filled_works sent choice before (inr (inl is)))
others_fills sent choice before (inr (inr (inl is))) =
    skip (FillsOther before) (sent.id == 259 && choice == 2) _ (works sent choice before) (ap (λ (k : ℕ). k == 259 && choice == 2) is) (filled_works sent choice before (inr (inr (inl is))))
others_fills sent choice before (inr (inr (inr is))) =
    skip (FillsOther before) (sent.id == 259 && choice == 2) _ (works sent choice before) (ap (λ (k : ℕ). k == 259 && choice == 2) is) (filled_works sent choice before (inr (inr (inr is))))

others_runs : RunsKeepBanks changes_others
others_runs sent choice before is =
    skip (Switches before) (sent.id == 259 && choice == 2) _ (works sent choice before) (ap (λ (k : ℕ). k == 259 && choice == 2) is) (ran_works sent choice before is)

others_commits : CommitIsAtomic changes_others
others_commits sent choice before is =
    skip (λ (f : Firmware). (f ≡ before) ⊎ Commits before f) (sent.id == 259 && choice == 2) _ (works sent choice before) (ap (λ (k : ℕ). k == 259 && choice == 2) is) (commit_works sent choice before is)

pub others_two : HasTwoBanks (changes_others)
others_two = record { asked = others_asks; told = others_tells; filled = others_fills; ran = others_runs; commit_is_atomic = others_commits }

abbrev others_1 : Firmware
others_1 = ((changes_others) (message_of large Features) 0 std).after

abbrev others_2 : Firmware
others_2 = ((changes_others) (message_of large Info) 0 others_1).after

abbrev others_3 : Firmware
others_3 = ((changes_others) (message_of large (Start 1)) 0 others_2).after

abbrev others_4 : Firmware
others_4 = ((changes_others) (message_of large (Block 1 0)) 0 others_3).after

abbrev others_5 : Firmware
others_5 = ((changes_others) (message_of large (Block 1 116)) 2 others_4).after

abbrev others_6 : Firmware
others_6 = ((changes_others) (message_of large (Block 1 116)) 0 others_5).after

abbrev others_7 : Firmware
others_7 = ((changes_others) (message_of large Complete) 0 others_6).after

abbrev others_8 : Firmware
others_8 = ((changes_others) (message_of large Run) 0 others_7).after

abbrev others_9 : Firmware
others_9 = ((changes_others) (message_of large Info) 0 others_8).after

abbrev pub others_10 : Firmware
others_10 = ((changes_others) (message_of large Commit) 0 others_9).after

others_new : new_runs A (info others_8) ≡ true
unfolding new_runs
others_new = refl

abbrev pub others_history : History
others_history = exchange_of Commit (says []) ∷ exchange_of Info (says (info others_8)) ∷ exchange_of Run (says []) ∷ exchange_of Complete (says []) ∷ exchange_of (Block 1 116) (says []) ∷ exchange_of (Block 1 116) (Unknown) ∷ exchange_of (Block 1 0) (says []) ∷ exchange_of (Start 1) (says []) ∷ exchange_of Info (says (info others_1)) ∷ exchange_of Features (says features) ∷ []

pub others_safe : IsSafe 118 others_history
others_safe = ((A, (record { items = info others_8 }, refl, refl, others_new), inr (inl (refl, tt)), inr (inr (inr (inr (inr (inr (inr (inl (record { items = info std }, refl, refl, stood))))))))), (tt, ((none, refl, refl, tt), ((1, (omega arith), inr (inr (116, refl, (none, refl, refl, tt), inl ((refl, tt), inr (inr (0, refl, (none, refl, refl, tt), inr (inl (refl, (none, refl, refl, tt))))))))), ((inl ((refl, tt), inr (inr (0, refl, (none, refl, refl, tt), inr (inl (refl, (none, refl, refl, tt)))))), omega arith), ((inr (inr (0, refl, (none, refl, refl, tt), inr (inl (refl, (none, refl, refl, tt))))), omega arith), ((inr (inl (refl, (none, refl, refl, tt))), omega arith), (((tt, (tt, tt)), inr (inl (record { items = features }, refl, refl, refl)), (A, (record { items = info std }, refl, refl, stood))), (tt, (tt, tt))))))))))

pub others_comes : ComesTo (changes_others) large std others_history others_10
others_comes = (others_9, 0, (others_8, 0, (others_7, 0, (others_6, 0, (others_5, 0, (others_4, 2, (others_3, 0, (others_2, 0, (others_1, 0, (std, 0, inl refl, inl (refl, inl refl)), inl (refl, inl refl)), inl (refl, inl refl)), inl (refl, inl refl)), inl (refl, inl refl)), inl (refl, inl refl)), inl (refl, inl refl)), inl (refl, inl refl)), inl (refl, inl refl)), inl (refl, inl refl))

others_neither : IsCommittedImage std (held others_10 B).image ⊎ ((held others_10 B).image ≡ large) → ⊥
others_neither (inl (A, is, same)) = absurd cc
others_neither (inl (B, is, same)) = absurd cc
others_neither (inr same) = absurd cc

pub others_mixed : IsOldOrNew std large others_10 → ⊥
others_mixed any = others_neither (any (held others_10 B).image (B, refl, refl))

pub others_needed : CanBeMixed (λ conduct. StartsAreKept conduct × BlocksAreStored conduct × CompletesMakeImages conduct)
others_needed = (changes_others, large, others_history, std, others_10, others_two, (started_works, changes_store, completed_works), refl, others_safe, others_comes, others_mixed)

completes_asks : QuestionsChangeNothing (works_but 263 other_image)
completes_asks sent choice before (inl is) =
    skip (λ (f : Firmware). f ≡ before) (sent.id == 263) _ (works sent choice before) (ap (λ (k : ℕ). k == 263) is) (asked_works sent choice before (inl is))
completes_asks sent choice before (inr is) =
    skip (λ (f : Firmware). f ≡ before) (sent.id == 263) _ (works sent choice before) (ap (λ (k : ℕ). k == 263) is) (asked_works sent choice before (inr is))

completes_tells : InfoIsTrue (works_but 263 other_image)
completes_tells choice before reply e = told_works choice before reply e

completes_fills : DownloadsGoAside (works_but 263 other_image)
completes_fills sent choice before (inl is) =
    skip (FillsOther before) (sent.id == 263) _ (works sent choice before) (ap (λ (k : ℕ). k == 263) is) (filled_works sent choice before (inl is))
completes_fills sent choice before (inr (inl is)) =
    skip (FillsOther before) (sent.id == 263) _ (works sent choice before) (ap (λ (k : ℕ). k == 263) is) (filled_works sent choice before (inr (inl is)))
completes_fills sent choice before (inr (inr (inl is))) =
    take_it (FillsOther before) (sent.id == 263) _ (works sent choice before) (ap (λ (k : ℕ). k == 263) is)
    (both (FillsOther before) (replied sent.id before) (other_image (carried sent.id sent.body.items before)) before
    (subst (λ (k : ℕ). FillsOther before (other_image (carried k sent.body.items before))) (sym is) (image_fills before.download before))
    (fills_same before) choice)
completes_fills sent choice before (inr (inr (inr is))) =
    skip (FillsOther before) (sent.id == 263) _ (works sent choice before) (ap (λ (k : ℕ). k == 263) is) (filled_works sent choice before (inr (inr (inr is))))

completes_runs : RunsKeepBanks (works_but 263 other_image)
completes_runs sent choice before is =
    skip (Switches before) (sent.id == 263) _ (works sent choice before) (ap (λ (k : ℕ). k == 263) is) (ran_works sent choice before is)

completes_commits : CommitIsAtomic (works_but 263 other_image)
completes_commits sent choice before is =
    skip (λ (f : Firmware). (f ≡ before) ⊎ Commits before f) (sent.id == 263) _ (works sent choice before) (ap (λ (k : ℕ). k == 263) is) (commit_works sent choice before is)

pub completes_two : HasTwoBanks (works_but 263 other_image)
completes_two = record { asked = completes_asks; told = completes_tells; filled = completes_fills; ran = completes_runs; commit_is_atomic = completes_commits }

abbrev completes_1 : Firmware
completes_1 = ((works_but 263 other_image) (message_of small Features) 0 std).after

abbrev completes_2 : Firmware
completes_2 = ((works_but 263 other_image) (message_of small Info) 0 completes_1).after

abbrev completes_3 : Firmware
completes_3 = ((works_but 263 other_image) (message_of small (Start 1)) 0 completes_2).after

abbrev completes_4 : Firmware
completes_4 = ((works_but 263 other_image) (message_of small (Block 1 0)) 0 completes_3).after

abbrev completes_5 : Firmware
completes_5 = ((works_but 263 other_image) (message_of small Complete) 0 completes_4).after

abbrev completes_6 : Firmware
completes_6 = ((works_but 263 other_image) (message_of small Run) 0 completes_5).after

abbrev completes_7 : Firmware
completes_7 = ((works_but 263 other_image) (message_of small Info) 0 completes_6).after

abbrev pub completes_8 : Firmware
completes_8 = ((works_but 263 other_image) (message_of small Commit) 0 completes_7).after

completes_new : new_runs A (info completes_6) ≡ true
unfolding new_runs
completes_new = refl

abbrev pub completes_history : History
completes_history = exchange_of Commit (says []) ∷ exchange_of Info (says (info completes_6)) ∷ exchange_of Run (says []) ∷ exchange_of Complete (says []) ∷ exchange_of (Block 1 0) (says []) ∷ exchange_of (Start 1) (says []) ∷ exchange_of Info (says (info completes_1)) ∷ exchange_of Features (says features) ∷ []

pub completes_safe : IsSafe 2 completes_history
completes_safe = ((A, (record { items = info completes_6 }, refl, refl, completes_new), inr (inl (refl, tt)), inr (inr (inr (inr (inr (inl (record { items = info std }, refl, refl, stood))))))), (tt, ((none, refl, refl, tt), ((1, (omega arith), inr (inr (0, refl, (none, refl, refl, tt), inr (inl (refl, (none, refl, refl, tt)))))), ((inr (inl (refl, (none, refl, refl, tt))), omega arith), (((tt, (tt, tt)), inr (inl (record { items = features }, refl, refl, refl)), (A, (record { items = info std }, refl, refl, stood))), (tt, (tt, tt))))))))

pub completes_comes : ComesTo (works_but 263 other_image) small std completes_history completes_8
completes_comes = (completes_7, 0, (completes_6, 0, (completes_5, 0, (completes_4, 0, (completes_3, 0, (completes_2, 0, (completes_1, 0, (std, 0, inl refl, inl (refl, inl refl)), inl (refl, inl refl)), inl (refl, inl refl)), inl (refl, inl refl)), inl (refl, inl refl)), inl (refl, inl refl)), inl (refl, inl refl)), inl (refl, inl refl))

completes_neither : IsCommittedImage std (held completes_8 B).image ⊎ ((held completes_8 B).image ≡ small) → ⊥
completes_neither (inl (A, is, same)) = absurd cc
completes_neither (inl (B, is, same)) = absurd cc
completes_neither (inr same) = absurd cc

pub completes_mixed : IsOldOrNew std small completes_8 → ⊥
completes_mixed any = completes_neither (any (held completes_8 B).image (B, refl, refl))

pub completes_needed : CanBeMixed (λ conduct. StartsAreKept conduct × BlocksAreStored conduct × BlocksKeepOthers conduct)
completes_needed = (works_but 263 other_image, small, completes_history, std, completes_8, completes_two, (started_works, stored_works, missed_works), refl, completes_safe, completes_comes, completes_mixed)
