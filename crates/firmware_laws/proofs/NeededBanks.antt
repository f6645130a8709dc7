-- Each thing that is presumed of the two banks is needed: modules that lack one, and what becomes of them.
use Rattle.std.proofs.Common.{◌≡◌, ◌⊎◌, ℕ, ◌==◌, ◌&&◌, true, [], ◌∷◌, refl, ap, inl, inr, arith}
use Rattle.command_block.specs.declared.outcome.Outcome.TheVariants.{Unknown}
use Rattle.firmware_update.specs.declared.bank.Bank.TheVariants.{A, B}
use Rattle.firmware_update.specs.declared.command.Command.TheVariants.{Features, Info, Start, Block, Complete, Run, Commit}
use Rattle.firmware_update.specs.Exchanges.{History}
use Rattle.firmware_laws.specs.Losses.{CanBeLost}
use Rattle.firmware_laws.specs.Modules.{ComesTo, CommitIsAtomic, Commits, DownloadsGoAside, FillsOther, Firmware, HasImage, InfoIsTrue, QuestionsChangeNothing, RunsKeepBanks, Switches}
use Rattle.firmware_update.specs.Payloads.{message_of}
use Rattle.firmware_update.specs.Progress.{exchange_of}
use Rattle.firmware_update.specs.Replies.{new_runs}
use Rattle.firmware_update.specs.Safety.{IsSafe}
use Rattle.firmware_laws.specs.SampleModules.{commits_in_steps, erased, features, info, lies, parted, replied, says, works, works_but}
use Rattle.firmware_laws.proofs.Samples.{IsTrueReply, asked_works, both, commit_works, filled_works, only, ran_works, says_bank, told_works}
use Rattle.firmware_laws.proofs.Needed.{skip, take_it, none, small, std, stood, lied, std_image, parted_image}

-- ---- without one thing that is presumed of banks

question_tells : InfoIsTrue (works_but 256 erased)
question_tells choice before reply e = only (IsTrueReply before) (replied 256 before) (erased before) before choice reply e (λ some. says_bank before)

question_fills : DownloadsGoAside (works_but 256 erased)
question_fills sent choice before (inl is) =
    skip (FillsOther before) (sent.id == 256) _ (works sent choice before) (ap (λ (k : ℕ). k == 256) is) (filled_works sent choice before (inl is))
question_fills sent choice before (inr (inl is)) =
    skip (FillsOther before) (sent.id == 256) _ (works sent choice before) (ap (λ (k : ℕ). k == 256) is) (filled_works sent choice before (inr (inl is)))
question_fills sent choice before (inr (inr (inl is))) =
    skip (FillsOther before) (sent.id == 256) _ (works sent choice before) (ap (λ (k : ℕ). k == 256) is) (filled_works sent choice before (inr (inr (inl is))))
question_fills sent choice before (inr (inr (inr is))) =
    skip (FillsOther before) (sent.id == 256) _ (works sent choice before) (ap (λ (k : ℕ). k == 256) is) (filled_works sent choice before (inr (inr (inr is))))

question_runs : RunsKeepBanks (works_but 256 erased)
question_runs sent choice before is =
    skip (Switches before) (sent.id == 256) _ (works sent choice before) (ap (λ (k : ℕ). k == 256) is) (ran_works sent choice before is)

question_commits : CommitIsAtomic (works_but 256 erased)
question_commits sent choice before is =
    skip (λ (f : Firmware). (f ≡ before) ⊎ Commits before f) (sent.id == 256) _ (works sent choice before) (ap (λ (k : ℕ). k == 256) is) (commit_works sent choice before is)

abbrev pub question_1 : Firmware
question_1 = ((works_but 256 erased) (message_of small Info) 0 std).after

abbrev pub question_history : History
question_history = exchange_of Info (says (info std)) ∷ []

pub question_safe : IsSafe 2 question_history
question_safe = (tt, tt)

pub question_comes : ComesTo (works_but 256 erased) small std question_history question_1
question_comes = (std, 0, inl refl, inl (refl, inl refl))

pub question_lost : HasImage question_1 → ⊥
question_lost (A, (is, can)) = absurd cc
question_lost (B, (is, can)) = absurd cc

pub question_needed : CanBeLost (λ conduct. InfoIsTrue conduct × DownloadsGoAside conduct × RunsKeepBanks conduct × CommitIsAtomic conduct)
question_needed = (works_but 256 erased, small, question_history, std, question_1, (question_tells, question_fills, question_runs, question_commits), std_image, refl, question_safe, question_comes, question_lost)

lie_asks : QuestionsChangeNothing lies
lie_asks sent choice before (inl is) =
    skip (λ (f : Firmware). f ≡ before) (sent.id == 256) _ (works sent choice before) (ap (λ (k : ℕ). k == 256) is) (asked_works sent choice before (inl is))
lie_asks sent choice before (inr is) =
    take_it (λ (f : Firmware). f ≡ before) (sent.id == 256) _ (works sent choice before) (ap (λ (k : ℕ). k == 256) is)
    (both (λ (f : Firmware). f ≡ before) (says (67 ∷ [])) before before refl refl choice)

lie_fills : DownloadsGoAside lies
lie_fills sent choice before (inl is) =
    skip (FillsOther before) (sent.id == 256) _ (works sent choice before) (ap (λ (k : ℕ). k == 256) is) (filled_works sent choice before (inl is))
lie_fills sent choice before (inr (inl is)) =
    skip (FillsOther before) (sent.id == 256) _ (works sent choice before) (ap (λ (k : ℕ). k == 256) is) (filled_works sent choice before (inr (inl is)))
lie_fills sent choice before (inr (inr (inl is))) =
    skip (FillsOther before) (sent.id == 256) _ (works sent choice before) (ap (λ (k : ℕ). k == 256) is) (filled_works sent choice before (inr (inr (inl is))))
lie_fills sent choice before (inr (inr (inr is))) =
    skip (FillsOther before) (sent.id == 256) _ (works sent choice before) (ap (λ (k : ℕ). k == 256) is) (filled_works sent choice before (inr (inr (inr is))))

lie_runs : RunsKeepBanks lies
lie_runs sent choice before is =
    skip (Switches before) (sent.id == 256) _ (works sent choice before) (ap (λ (k : ℕ). k == 256) is) (ran_works sent choice before is)

lie_commits : CommitIsAtomic lies
lie_commits sent choice before is =
    skip (λ (f : Firmware). (f ≡ before) ⊎ Commits before f) (sent.id == 256) _ (works sent choice before) (ap (λ (k : ℕ). k == 256) is) (commit_works sent choice before is)

abbrev lie_1 : Firmware
lie_1 = ((lies) (message_of small Features) 0 parted).after

abbrev lie_2 : Firmware
lie_2 = ((lies) (message_of small Info) 0 lie_1).after

abbrev pub lie_3 : Firmware
lie_3 = ((lies) (message_of small (Start 1)) 0 lie_2).after

abbrev pub lie_history : History
lie_history = exchange_of (Start 1) (says []) ∷ exchange_of Info (says (67 ∷ [])) ∷ exchange_of Features (says features) ∷ []

pub lie_safe : IsSafe 2 lie_history
lie_safe = (((tt, (tt, tt)), inr (inl (record { items = features }, refl, refl, refl)), (A, (record { items = 67 ∷ [] }, refl, refl, lied))), (tt, (tt, tt)))

pub lie_comes : ComesTo (lies) small parted lie_history lie_3
lie_comes = (lie_2, 0, (lie_1, 0, (parted, 0, inl refl, inl (refl, inl refl)), inl (refl, inl refl)), inl (refl, inl refl))

pub lie_lost : HasImage lie_3 → ⊥
lie_lost (A, (is, can)) = absurd cc
lie_lost (B, (is, can)) = absurd cc

pub info_needed : CanBeLost (λ conduct. QuestionsChangeNothing conduct × DownloadsGoAside conduct × RunsKeepBanks conduct × CommitIsAtomic conduct)
info_needed = (lies, small, lie_history, parted, lie_3, (lie_asks, lie_fills, lie_runs, lie_commits), parted_image, refl, lie_safe, lie_comes, lie_lost)

aside_asks : QuestionsChangeNothing (works_but 257 erased)
aside_asks sent choice before (inl is) =
    skip (λ (f : Firmware). f ≡ before) (sent.id == 257) _ (works sent choice before) (ap (λ (k : ℕ). k == 257) is) (asked_works sent choice before (inl is))
aside_asks sent choice before (inr is) =
    skip (λ (f : Firmware). f ≡ before) (sent.id == 257) _ (works sent choice before) (ap (λ (k : ℕ). k == 257) is) (asked_works sent choice before (inr is))

aside_tells : InfoIsTrue (works_but 257 erased)
aside_tells choice before reply e = told_works choice before reply e

aside_runs : RunsKeepBanks (works_but 257 erased)
aside_runs sent choice before is =
    skip (Switches before) (sent.id == 257) _ (works sent choice before) (ap (λ (k : ℕ). k == 257) is) (ran_works sent choice before is)

aside_commits : CommitIsAtomic (works_but 257 erased)
aside_commits sent choice before is =
    skip (λ (f : Firmware). (f ≡ before) ⊎ Commits before f) (sent.id == 257) _ (works sent choice before) (ap (λ (k : ℕ). k == 257) is) (commit_works sent choice before is)

abbrev aside_1 : Firmware
aside_1 = ((works_but 257 erased) (message_of small Features) 0 std).after

abbrev aside_2 : Firmware
aside_2 = ((works_but 257 erased) (message_of small Info) 0 aside_1).after

abbrev pub aside_3 : Firmware
aside_3 = ((works_but 257 erased) (message_of small (Start 1)) 0 aside_2).after

abbrev pub aside_history : History
aside_history = exchange_of (Start 1) (says []) ∷ exchange_of Info (says (info aside_1)) ∷ exchange_of Features (says features) ∷ []

pub aside_safe : IsSafe 2 aside_history
aside_safe = (((tt, (tt, tt)), inr (inl (record { items = features }, refl, refl, refl)), (A, (record { items = info std }, refl, refl, stood))), (tt, (tt, tt)))

pub aside_comes : ComesTo (works_but 257 erased) small std aside_history aside_3
aside_comes = (aside_2, 0, (aside_1, 0, (std, 0, inl refl, inl (refl, inl refl)), inl (refl, inl refl)), inl (refl, inl refl))

pub aside_lost : HasImage aside_3 → ⊥
aside_lost (A, (is, can)) = absurd cc
aside_lost (B, (is, can)) = absurd cc

pub downloads_needed : CanBeLost (λ conduct. QuestionsChangeNothing conduct × InfoIsTrue conduct × RunsKeepBanks conduct × CommitIsAtomic conduct)
downloads_needed = (works_but 257 erased, small, aside_history, std, aside_3, (aside_asks, aside_tells, aside_runs, aside_commits), std_image, refl, aside_safe, aside_comes, aside_lost)

run_asks : QuestionsChangeNothing (works_but 265 erased)
run_asks sent choice before (inl is) =
    skip (λ (f : Firmware). f ≡ before) (sent.id == 265) _ (works sent choice before) (ap (λ (k : ℕ). k == 265) is) (asked_works sent choice before (inl is))
run_asks sent choice before (inr is) =
    skip (λ (f : Firmware). f ≡ before) (sent.id == 265) _ (works sent choice before) (ap (λ (k : ℕ). k == 265) is) (asked_works sent choice before (inr is))

run_tells : InfoIsTrue (works_but 265 erased)
run_tells choice before reply e = told_works choice before reply e

run_fills : DownloadsGoAside (works_but 265 erased)
run_fills sent choice before (inl is) =
    skip (FillsOther before) (sent.id == 265) _ (works sent choice before) (ap (λ (k : ℕ). k == 265) is) (filled_works sent choice before (inl is))
run_fills sent choice before (inr (inl is)) =
    skip (FillsOther before) (sent.id == 265) _ (works sent choice before) (ap (λ (k : ℕ). k == 265) is) (filled_works sent choice before (inr (inl is)))
run_fills sent choice before (inr (inr (inl is))) =
    skip (FillsOther before) (sent.id == 265) _ (works sent choice before) (ap (λ (k : ℕ). k == 265) is) (filled_works sent choice before (inr (inr (inl is))))
run_fills sent choice before (inr (inr (inr is))) =
    skip (FillsOther before) (sent.id == 265) _ (works sent choice before) (ap (λ (k : ℕ). k == 265) is) (filled_works sent choice before (inr (inr (inr is))))

run_commits : CommitIsAtomic (works_but 265 erased)
run_commits sent choice before is =
    skip (λ (f : Firmware). (f ≡ before) ⊎ Commits before f) (sent.id == 265) _ (works sent choice before) (ap (λ (k : ℕ). k == 265) is) (commit_works sent choice before is)

abbrev run_1 : Firmware
run_1 = ((works_but 265 erased) (message_of small Features) 0 std).after

abbrev run_2 : Firmware
run_2 = ((works_but 265 erased) (message_of small Info) 0 run_1).after

abbrev run_3 : Firmware
run_3 = ((works_but 265 erased) (message_of small (Start 1)) 0 run_2).after

abbrev run_4 : Firmware
run_4 = ((works_but 265 erased) (message_of small (Block 1 0)) 0 run_3).after

abbrev run_5 : Firmware
run_5 = ((works_but 265 erased) (message_of small Complete) 0 run_4).after

abbrev pub run_6 : Firmware
run_6 = ((works_but 265 erased) (message_of small Run) 0 run_5).after

abbrev pub run_history : History
run_history = exchange_of Run (says []) ∷ exchange_of Complete (says []) ∷ exchange_of (Block 1 0) (says []) ∷ exchange_of (Start 1) (says []) ∷ exchange_of Info (says (info run_1)) ∷ exchange_of Features (says features) ∷ []

pub run_safe : IsSafe 2 run_history
run_safe = ((none, refl, refl, tt), ((1, (omega arith), inr (inr (0, refl, (none, refl, refl, tt), inr (inl (refl, (none, refl, refl, tt)))))), ((inr (inl (refl, (none, refl, refl, tt))), omega arith), (((tt, (tt, tt)), inr (inl (record { items = features }, refl, refl, refl)), (A, (record { items = info std }, refl, refl, stood))), (tt, (tt, tt))))))

pub run_comes : ComesTo (works_but 265 erased) small std run_history run_6
run_comes = (run_5, 0, (run_4, 0, (run_3, 0, (run_2, 0, (run_1, 0, (std, 0, inl refl, inl (refl, inl refl)), inl (refl, inl refl)), inl (refl, inl refl)), inl (refl, inl refl)), inl (refl, inl refl)), inl (refl, inl refl))

pub run_lost : HasImage run_6 → ⊥
run_lost (A, (is, can)) = absurd cc
run_lost (B, (is, can)) = absurd cc

pub runs_needed : CanBeLost (λ conduct. QuestionsChangeNothing conduct × InfoIsTrue conduct × DownloadsGoAside conduct × CommitIsAtomic conduct)
runs_needed = (works_but 265 erased, small, run_history, std, run_6, (run_asks, run_tells, run_fills, run_commits), std_image, refl, run_safe, run_comes, run_lost)

steps_asks : QuestionsChangeNothing commits_in_steps
steps_asks sent choice before (inl is) =
    skip (λ (f : Firmware). f ≡ before) (sent.id == 266 && choice == 3) _ (works sent choice before) (ap (λ (k : ℕ). k == 266 && choice == 3) is) (asked_works sent choice before (inl is))
steps_asks sent choice before (inr is) =
    skip (λ (f : Firmware). f ≡ before) (sent.id == 266 && choice == 3) _ (works sent choice before) (ap (λ (k : ℕ). k == 266 && choice == 3) is) (asked_works sent choice before (inr is))

steps_tells : InfoIsTrue commits_in_steps
steps_tells choice before reply e = told_works choice before reply e

steps_fills : DownloadsGoAside commits_in_steps
steps_fills sent choice before (inl is) =
    skip (FillsOther before) (sent.id == 266 && choice == 3) _ (works sent choice before) (ap (λ (k : ℕ). k == 266 && choice == 3) is) (filled_works sent choice before (inl is))
steps_fills sent choice before (inr (inl is)) =
    skip (FillsOther before) (sent.id == 266 && choice == 3) _ (works sent choice before) (ap (λ (k : ℕ). k == 266 && choice == 3) is) (filled_works sent choice before (inr (inl is)))
steps_fills sent choice before (inr (inr (inl is))) =
    skip (FillsOther before) (sent.id == 266 && choice == 3) _ (works sent choice before) (ap (λ (k : ℕ). k == 266 && choice == 3) is) (filled_works sent choice before (inr (inr (inl is))))
steps_fills sent choice before (inr (inr (inr is))) =
    skip (FillsOther before) (sent.id == 266 && choice == 3) _ (works sent choice before) (ap (λ (k : ℕ). k == 266 && choice == 3) is) (filled_works sent choice before (inr (inr (inr is))))

steps_runs : RunsKeepBanks commits_in_steps
steps_runs sent choice before is =
    skip (Switches before) (sent.id == 266 && choice == 3) _ (works sent choice before) (ap (λ (k : ℕ). k == 266 && choice == 3) is) (ran_works sent choice before is)

abbrev steps_1 : Firmware
steps_1 = ((commits_in_steps) (message_of small Features) 0 std).after

abbrev steps_2 : Firmware
steps_2 = ((commits_in_steps) (message_of small Info) 0 steps_1).after

abbrev steps_3 : Firmware
steps_3 = ((commits_in_steps) (message_of small (Start 1)) 0 steps_2).after

abbrev steps_4 : Firmware
steps_4 = ((commits_in_steps) (message_of small (Block 1 0)) 0 steps_3).after

abbrev steps_5 : Firmware
steps_5 = ((commits_in_steps) (message_of small Complete) 0 steps_4).after

abbrev steps_6 : Firmware
steps_6 = ((commits_in_steps) (message_of small Run) 0 steps_5).after

abbrev steps_7 : Firmware
steps_7 = ((commits_in_steps) (message_of small Info) 0 steps_6).after

abbrev pub steps_8 : Firmware
steps_8 = ((commits_in_steps) (message_of small Commit) 3 steps_7).after

steps_new : new_runs A (info steps_6) ≡ true
unfolding new_runs
steps_new = refl

abbrev pub steps_history : History
steps_history = exchange_of Commit Unknown ∷ exchange_of Info (says (info steps_6)) ∷ exchange_of Run (says []) ∷ exchange_of Complete (says []) ∷ exchange_of (Block 1 0) (says []) ∷ exchange_of (Start 1) (says []) ∷ exchange_of Info (says (info steps_1)) ∷ exchange_of Features (says features) ∷ []

pub steps_safe : IsSafe 2 steps_history
steps_safe = ((A, (record { items = info steps_6 }, refl, refl, steps_new), inr (inl (refl, tt)), inr (inr (inr (inr (inr (inl (record { items = info std }, refl, refl, stood))))))), (tt, ((none, refl, refl, tt), ((1, (omega arith), inr (inr (0, refl, (none, refl, refl, tt), inr (inl (refl, (none, refl, refl, tt)))))), ((inr (inl (refl, (none, refl, refl, tt))), omega arith), (((tt, (tt, tt)), inr (inl (record { items = features }, refl, refl, refl)), (A, (record { items = info std }, refl, refl, stood))), (tt, (tt, tt))))))))

pub steps_lost : HasImage steps_8 → ⊥
steps_lost (A, (is, can)) = absurd cc
steps_lost (B, (is, can)) = absurd cc

pub steps_comes : ComesTo (commits_in_steps) small std steps_history steps_8
steps_comes = (steps_7, 3, (steps_6, 0, (steps_5, 0, (steps_4, 0, (steps_3, 0, (steps_2, 0, (steps_1, 0, (std, 0, inl refl, inl (refl, inl refl)), inl (refl, inl refl)), inl (refl, inl refl)), inl (refl, inl refl)), inl (refl, inl refl)), inl (refl, inl refl)), inl (refl, inl refl)), inr (refl, refl, inl ((refl, refl), (λ has. absurd (steps_lost has)), inr refl, refl)))

pub commits_needed : CanBeLost (λ conduct. QuestionsChangeNothing conduct × InfoIsTrue conduct × DownloadsGoAside conduct × RunsKeepBanks conduct)
commits_needed = (commits_in_steps, small, steps_history, std, steps_8, (steps_asks, steps_tells, steps_fills, steps_runs), std_image, refl, steps_safe, steps_comes, steps_lost)
