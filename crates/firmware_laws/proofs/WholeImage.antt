-- The committed image is the one that was committed at the beginning, or the whole file; at the end it is the file.
use Rattle.std.proofs.Common.{◌≡◌, ◌⊎◌, ℕ, ◌-◌, true, false, List, [], ◌∷◌, Option, Some, None, length, refl, sym, subst, ap, inl, inr, ◌∙◌}
use Rattle.firmware_update.specs.declared.bank.Bank.{Bank}
use Rattle.firmware_update.specs.declared.command.Command.{Command}
use Rattle.firmware_update.specs.declared.command.Command.TheVariants.{Features, Info, Start, Block, Complete, Abort, Run, Commit}
use Rattle.firmware_update.specs.declared.exchange.Exchange.{Exchange}
use Rattle.firmware_laws.specs.Contents.{IsCommittedImage, IsOldOrNew, StoresContents}
use Rattle.firmware_update.specs.Exchanges.{History, Newest, Stands, Succeeds}
use Rattle.firmware_laws.specs.Modules.{ComesTo, Commits, Conduct, Endures, FillsOther, Firmware, HasTwoBanks, Held, IsQuiet, IsStanding, KeepsBanks, Passes, Switches, held}
use Rattle.firmware_update.specs.Payloads.{message_of}
use Rattle.firmware_update.specs.Progress.{IsCommitting, IsFinished, IsRunning, IsSending, IsStarting, IsVerifying, IsWatching}
use Rattle.firmware_update.specs.Replies.{other_bank}
use Rattle.firmware_update.specs.Safety.{IsQuery, IsSafe, MaySend, OnlyQueries, ReportsStanding}
use Rattle.firmware_laws.proofs.Downloads.{completes}
use Rattle.firmware_laws.proofs.PowerLoss.{IsFilling, IsSteady, alone, asked_of, downloading_stands, endures_banks, filled_of, fill_stands, fills_steady, kept, loses_standing, newest_steady, passes_endures, received_stands, told_after}
use Rattle.firmware_update.proofs.Safe.{starting_may, sending_received, sending_safe, sending_fits}
use Rattle.firmware_laws.proofs.KeptBanks.{none_of_queries, none_received, newest_in, ran_completed, none_downloading, told_committed, either, twice, image_kept}

module _ (conduct : Conduct) (two : HasTwoBanks conduct) (contents : StoresContents conduct) (file : List ℕ) (first : Firmware) (quiet : IsQuiet first) where
  -- since a download into the bank beside this one: this one holds what it held, the other one the file, if it was completed,
  -- and at most one of them is committed, the other one only then
  record Sided (old : Bank) (h : History) (last : Firmware) : Type 0 where
    was : (held first old).committed ≡ true
    same : (held last old).image ≡ (held first old).image
    full : Stands (Succeeds Complete) h → (held last (other_bank old)).image ≡ file
    flags : (((held last old).committed ≡ true) × ((held last (other_bank old)).committed ≡ false)) ⊎ (Stands (Succeeds Complete) h × ((held last old).committed ≡ false))

  abbrev Follows : History → Firmware → Type 0
  Follows h last = (OnlyQueries h × KeepsBanks first last) ⊎ ((old : Bank) × Sided old h last)

  abbrev stepped : Command → ℕ → Firmware → Firmware
  stepped command choice before = (conduct (message_of file command) choice before).after

  -- ---- what it says of the committed images

  one_is : (old bank : Bank) (h : History) (last : Firmware) → Sided old h last → (held last bank).committed ≡ true
      → (bank ≡ old) ⊎ (bank ≡ other_bank old) → IsCommittedImage first (held last bank).image ⊎ ((held last bank).image ≡ file)
  one_is old bank h last side is (inl at) =
      subst (λ (b : Bank). IsCommittedImage first (held last b).image ⊎ ((held last b).image ≡ file)) (sym at) (inl (old, side.was, sym side.same))
  one_is old bank h last side is (inr at) = by side.flags
    where
      by : (((held last old).committed ≡ true) × ((held last (other_bank old)).committed ≡ false)) ⊎ (Stands (Succeeds Complete) h × ((held last old).committed ≡ false))
          → IsCommittedImage first (held last bank).image ⊎ ((held last bank).image ≡ file)
      by (inl (still, not_yet)) =
          let e : (held last bank).committed ≡ false = ap (λ (b : Bank). (held last b).committed) at ∙ not_yet in absurd cc
      by (inr (done, freed)) = inr (ap (λ (b : Bank). (held last b).image) at ∙ side.full done)

  old_or_new : (h : History) (last : Firmware) → Follows h last → IsOldOrNew first file last
  old_or_new h last (inl (only, keeps)) image (bank, is, same) =
      inl (bank, ap (λ (b : Held). b.committed) (sym (kept first last bank keeps)) ∙ is, ap (λ (b : Held). b.image) (sym (kept first last bank keeps)) ∙ same)
  old_or_new h last (inr (old, side)) image (bank, is, same) =
      subst (λ (i : List ℕ). IsCommittedImage first i ⊎ (i ≡ file)) same (one_is old bank h last side is (either old bank))

  -- ---- what keeps it

  keeps_side : (old : Bank) (h : History) (before after : Firmware) → KeepsBanks before after → Sided old h before → Sided old h after
  keeps_side old h before after keeps side =
      let mine : held after old ≡ held before old = kept before after old keeps in
      let others : held after (other_bank old) ≡ held before (other_bank old) = kept before after (other_bank old) keeps in
      record {
        was = side.was;
        same = ap (λ (b : Held). b.image) mine ∙ side.same;
        full = λ done. ap (λ (b : Held). b.image) others ∙ side.full done;
        flags = subst (λ (m : Held). ((m.committed ≡ true) × ((held after (other_bank old)).committed ≡ false)) ⊎ (Stands (Succeeds Complete) h × (m.committed ≡ false))) (sym mine)
            (subst (λ (o : Held). (((held before old).committed ≡ true) × (o.committed ≡ false)) ⊎ (Stands (Succeeds Complete) h × ((held before old).committed ≡ false))) (sym others) side.flags);
      }

  joined : (a b c : Firmware) → KeepsBanks a b → KeepsBanks b c → KeepsBanks a c
  joined a b c one other = (other.0 ∙ one.0, other.1 ∙ one.1)

  same_banks : (before after : Firmware) → after ≡ before → KeepsBanks before after
  same_banks before after same = (ap (λ (f : Firmware). f.a) same, ap (λ (f : Firmware). f.b) same)

  keeps_follows : (h : History) (before after : Firmware) → KeepsBanks before after → Follows h before → Follows h after
  keeps_follows h before after keeps (inl (only, same)) = inl (only, joined first before after same keeps)
  keeps_follows h before after keeps (inr (old, side)) = inr (old, keeps_side old h before after keeps side)

  -- ---- the commands of a download

  side_of : (old : Bank) (h : History) (last : Firmware) → IsSteady old last → (Stands (Succeeds Complete) h → ⊥) → Follows h last → Sided old h last
  side_of old h last ((runs_now, image, only), still_quiet) none (inl (queries, keeps)) =
      record {
        was = ap (λ (b : Held). b.committed) (sym (kept first last old keeps)) ∙ image.0;
        same = ap (λ (b : Held). b.image) (kept first last old keeps);
        full = λ done. absurd (none done);
        flags = inl (image.0, only);
      }
  side_of old h last ((runs_now, image, only), still_quiet) none (inr (other, side)) = by side.flags
    where
      by : (((held last other).committed ≡ true) × ((held last (other_bank other)).committed ≡ false)) ⊎ (Stands (Succeeds Complete) h × ((held last other).committed ≡ false))
          → Sided old h last
      by (inl (still, not_yet)) = subst (λ (b : Bank). Sided b h last) (sym (alone last other old not_yet image)) side
      by (inr (done, freed)) = absurd (none done)

  fill_side : (old : Bank) (h : History) (before after : Firmware) → IsSteady old before → (Stands (Succeeds Complete) h → ⊥) → FillsOther before after
      → Sided old h before → Sided old h after
  fill_side old h before after stood none fills side =
      let mine : held after old ≡ held before old = subst (λ (b : Bank). held after b ≡ held before b) stood.0.0 fills.1 in
      let now = (fills_steady old before after fills stood).0 in
      record { was = side.was; same = ap (λ (b : Held). b.image) mine ∙ side.same; full = λ done. absurd (none done); flags = inl (now.1.0, now.2) }

  -- ---- one command: it follows still, as far as what went before it tells

  abbrev Steps : Command → History → Firmware → Type 0
  Steps command h after = (IsQuery command × OnlyQueries h × KeepsBanks first after) ⊎ ((old : Bank) × Sided old h after)

  asks : (command : Command) (h : History) (before after : Firmware) → IsQuery command → KeepsBanks before after → Follows h before → Steps command h after
  asks command h before after is keeps (inl (only, same)) = inl (is, only, joined first before after same keeps)
  asks command h before after is keeps (inr (old, side)) = inr (old, keeps_side old h before after keeps side)

  fills_in : (old : Bank) (command : Command) (choice : ℕ) (h : History) (before : Firmware) → IsFilling command → IsSteady old before → (Stands (Succeeds Complete) h → ⊥)
      → Follows h before → Steps command h (stepped command choice before)
  fills_in old command choice h before is stood none follows =
      inr (old, fill_side old h before (stepped command choice before) stood none (filled_of conduct two file first quiet command command choice before refl is) (side_of old h before stood none follows))

  commits_side : (old : Bank) (h : History) (before after : Firmware) → Stands (Succeeds Complete) h → Commits before after → Sided old h before → Sided old h after
  commits_side old h before after done commits side =
      record {
        was = side.was;
        same = image_kept before after old commits ∙ side.same;
        full = λ any. image_kept before after (other_bank old) commits ∙ side.full any;
        flags = by (either old before.running);
      }
    where
      by : (before.running ≡ old) ⊎ (before.running ≡ other_bank old)
          → (((held after old).committed ≡ true) × ((held after (other_bank old)).committed ≡ false)) ⊎ (Stands (Succeeds Complete) h × ((held after old).committed ≡ false))
      by (inl is) =
          inl (subst (λ (b : Bank). (held after b).committed ≡ true) is commits.1, subst (λ (b : Bank). (held after (other_bank b)).committed ≡ false) is commits.2)
      by (inr is) =
          let e : other_bank before.running ≡ old = ap other_bank is ∙ twice old in
          inr (done, subst (λ (b : Bank). (held after b).committed ≡ false) e commits.2)

  steps : (command : Command) (choice : ℕ) (h : History) (before : Firmware) → IsSafe (length file) h → ComesTo conduct file first h before
      → MaySend (length file) command h → Follows h before → Steps command h (stepped command choice before)
  steps Features choice h before safe comes may follows =
      asks Features h before (stepped Features choice before) tt (same_banks before (stepped Features choice before) (two.asked (message_of file Features) choice before (inl refl))) follows
  steps Info choice h before safe comes may follows =
      asks Info h before (stepped Info choice before) tt (same_banks before (stepped Info choice before) (two.asked (message_of file Info) choice before (inr refl))) follows
  steps (Start header) choice h before safe comes may follows =
      let (old, tells) = may.2 in
      fills_in old (Start header) choice h before tt (newest_steady conduct two file first quiet old h before may.0 comes tells) (none_of_queries h may.0) follows
  steps (Block header address) choice h before safe comes may follows =
      let (old, stood) = received_stands conduct two file first quiet header address h before safe comes may.0 in
      fills_in old (Block header address) choice h before tt stood (none_received (length file) header address h safe may.0) follows
  steps Complete choice h before safe comes (header, less, got) follows =
      let (old, stood) = received_stands conduct two file first quiet header (length file - header) h before safe comes got in
      fills_in old Complete choice h before tt stood (none_received (length file) header (length file - header) h safe got) follows
  steps Abort choice h before safe comes may follows =
      let (old, stood) = downloading_stands conduct two file first quiet h before safe comes may in
      fills_in old Abort choice h before tt stood (none_downloading (length file) h safe may) follows
  steps Run choice h before safe comes may (inl (only, same)) = absurd (none_of_queries h only (newest_in Complete h may))
  steps Run choice h before safe comes may (inr (old, side)) =
      inr (old, keeps_side old h before (stepped Run choice before) (two.ran (message_of file Run) choice before refl).0 side)
  steps Commit choice h before safe comes (old, tells, ran, stood) (inl (only, same)) = absurd (none_of_queries h only (ran_completed (length file) h safe ran))
  steps Commit choice h before safe comes (new, tells, ran, stood) (inr (old, side)) =
      by (two.commit_is_atomic (message_of file Commit) choice before refl)
    where
      by : (stepped Commit choice before ≡ before) ⊎ Commits before (stepped Commit choice before) → Steps Commit h (stepped Commit choice before)
      by (inl same) = inr (old, keeps_side old h before (stepped Commit choice before) (same_banks before (stepped Commit choice before) same) side)
      by (inr commits) = inr (old, commits_side old h before (stepped Commit choice before) (ran_completed (length file) h safe ran) commits side)

  steps_image : (command : Command) (h : History) (after : Firmware) → Steps command h after → IsOldOrNew first file after
  steps_image command h after (inl (is, only, keeps)) = old_or_new h after (inl (only, keeps))
  steps_image command h after (inr (old, side)) = old_or_new h after (inr (old, side))

  -- ---- the exchange, with what came of it

  -- a Complete that succeeds fills the bank beside the one that runs
  new_full : (old : Bank) (x : Exchange) (before : History) (choice : ℕ) (earlier : Firmware) → IsSafe (length file) (x ∷ before) → ComesTo conduct file first before earlier
      → Succeeds Complete x
      → ((held (stepped x.command choice earlier) (other_bank earlier.running)).image ≡ file)
      → Sided old before (stepped x.command choice earlier) → (held (stepped x.command choice earlier) (other_bank old)).image ≡ file
  new_full old x before choice earlier safe comes done full side = by side.flags
    where
      may : MaySend (length file) Complete before
      may = subst (λ (c : Command). MaySend (length file) c before) done.1 safe.0

      by : (((held (stepped x.command choice earlier) old).committed ≡ true) × ((held (stepped x.command choice earlier) (other_bank old)).committed ≡ false))
          ⊎ (Stands (Succeeds Complete) before × ((held (stepped x.command choice earlier) old).committed ≡ false))
          → (held (stepped x.command choice earlier) (other_bank old)).image ≡ file
      by (inr (stood, freed)) = absurd (none_received (length file) may.0 (length file - may.0) before safe.1 may.2 stood)
      by (inl (still, not_yet)) =
          let (run, stood) = received_stands conduct two file first quiet may.0 (length file - may.0) before earlier safe.1 comes may.2 in
          let now = fills_steady run earlier (stepped x.command choice earlier) (filled_of conduct two file first quiet x.command Complete choice earlier done.1 tt) stood in
          let e : earlier.running ≡ old = stood.0.0 ∙ alone (stepped x.command choice earlier) old run not_yet now.0.1 in
          subst (λ (b : Bank). (held (stepped x.command choice earlier) (other_bank b)).image ≡ file) e full

  more : (x : Exchange) (before : History) (choice : ℕ) (earlier last : Firmware) → IsSafe (length file) (x ∷ before) → ComesTo conduct file first before earlier
      → Passes (conduct (message_of file x.command) choice earlier) x.outcome last → Steps x.command before (stepped x.command choice earlier)
      → Follows (x ∷ before) (stepped x.command choice earlier)
  more x before choice earlier last safe comes passes (inl (is, only, keeps)) = inl ((is, only), keeps)
  more x before choice earlier last safe comes passes (inr (old, side)) =
      inr (old, record { was = side.was; same = side.same; full = full; flags = raised side.flags })
    where
      full : Stands (Succeeds Complete) (x ∷ before) → (held (stepped x.command choice earlier) (other_bank old)).image ≡ file
      full (inr stood) = side.full stood
      full (inl done) =
          let may = subst (λ (c : Command). MaySend (length file) c before) done.1 safe.0 in
          new_full old x before choice earlier safe comes done
          (completes file conduct contents first x before choice earlier last safe.1 may comes done passes) side

      raised : (((held (stepped x.command choice earlier) old).committed ≡ true) × ((held (stepped x.command choice earlier) (other_bank old)).committed ≡ false))
          ⊎ (Stands (Succeeds Complete) before × ((held (stepped x.command choice earlier) old).committed ≡ false))
          → (((held (stepped x.command choice earlier) old).committed ≡ true) × ((held (stepped x.command choice earlier) (other_bank old)).committed ≡ false))
          ⊎ (Stands (Succeeds Complete) (x ∷ before) × ((held (stepped x.command choice earlier) old).committed ≡ false))
      raised (inl still) = inl still
      raised (inr (done, freed)) = inr (inr done, freed)

  follows_all : (h : History) (last : Firmware) → IsSafe (length file) h → ComesTo conduct file first h last → Follows h last
  follows_all [] last safe endures = inl (tt, endures_banks first last endures)
  follows_all (x ∷ before) last safe (earlier, choice, comes, passes) =
      keeps_follows (x ∷ before) (stepped x.command choice earlier) last
      (endures_banks (stepped x.command choice earlier) last (passes_endures (conduct (message_of file x.command) choice earlier) x.outcome last passes))
      (more x before choice earlier last safe comes passes (steps x.command choice before earlier safe.1 comes safe.0 (follows_all before earlier safe.1 comes)))

  pub always_whole : (h : History) (last : Firmware) → IsSafe (length file) h → ComesTo conduct file first h last → IsOldOrNew first file last
  always_whole h last safe comes = old_or_new h last (follows_all h last safe comes)

  pub within_whole : (h : History) (last : Firmware) (command : Command) (choice : ℕ) → IsSafe (length file) h → ComesTo conduct file first h last
      → MaySend (length file) command h → IsOldOrNew first file (stepped command choice last)
  within_whole h last command choice safe comes may =
      steps_image command h (stepped command choice last) (steps command choice h last safe comes may (follows_all h last safe comes))

  -- ---- at the end

  starting_newest : (header : ℕ) (old : Bank) (h : History) → IsStarting (length file) header old h → Newest (ReportsStanding old) h
  starting_newest header old [] at = absurd at
  starting_newest header old (x ∷ before) (tells, at) = tells

  sending_steady : (header : ℕ) (old : Bank) (address : ℕ) (h : History) (last : Firmware) → IsSending (length file) header old address h
      → ComesTo conduct file first h last → IsSteady old last
  sending_steady header old address [] last at comes = absurd at
  sending_steady header old address (x ∷ before) last (inl (missed, less, at)) (earlier, choice, comes, passes) =
      fill_stands conduct two file first quiet old x (Block header address) choice earlier last missed.0 tt passes (sending_steady header old address before earlier at comes)
  sending_steady header old address (x ∷ before) last (inr (inl (none, began, at))) (earlier, choice, comes, passes) =
      fill_stands conduct two file first quiet old x (Start header) choice earlier last began.1 tt passes
      (newest_steady conduct two file first quiet old before earlier (starting_may (length file) header old before at).0 comes (starting_newest header old before at))
  sending_steady header old address (x ∷ before) last (inr (inr (below, is, less, taken, at))) (earlier, choice, comes, passes) =
      fill_stands conduct two file first quiet old x (Block header below) choice earlier last taken.1 tt passes (sending_steady header old below before earlier at comes)

  -- the bank beside the old one holds the file, and a reset that is still to come is for it
  abbrev IsFull : Bank → Firmware → Type 0
  IsFull old last = ((held last (other_bank old)).image ≡ file) × ((last.reset ≡ None) ⊎ (last.reset ≡ Some (other_bank old)))

  full_banks : (old : Bank) (before after : Firmware) → KeepsBanks before after → IsQuiet after → IsFull old before → IsFull old after
  full_banks old before after keeps still full = (ap (λ (b : Held). b.image) (kept before after (other_bank old) keeps) ∙ full.0, inl still)

  endures_full : (old : Bank) (before after : Firmware) → Endures before after → IsFull old before → IsFull old after
  endures_full old before after (inl same) full = subst (IsFull old) (sym same) full
  endures_full old before after (inr (inl (keeps, boots, opened, still))) full = full_banks old before after keeps still full
  endures_full old before after (inr (inr (bank, was, keeps, can, runs_it, opened, still))) full = full_banks old before after keeps still full

  full_endures : (old : Bank) (x : Exchange) (choice : ℕ) (earlier last : Firmware) → Passes (conduct (message_of file x.command) choice earlier) x.outcome last
      → IsFull old (stepped x.command choice earlier) → IsFull old last
  full_endures old x choice earlier last passes full =
      endures_full old (stepped x.command choice earlier) last (passes_endures (conduct (message_of file x.command) choice earlier) x.outcome last passes) full

  full_asked : (old : Bank) (x : Exchange) (choice : ℕ) (earlier last : Firmware) → x.command ≡ Info → Passes (conduct (message_of file x.command) choice earlier) x.outcome last
      → IsFull old earlier → IsFull old last
  full_asked old x choice earlier last is passes full =
      full_endures old x choice earlier last passes
      (subst (IsFull old) (sym (asked_of conduct two file first quiet x choice earlier (subst IsQuery (sym is) tt))) full)

  running_full : (old : Bank) (h : History) (last : Firmware) → IsRunning (length file) old h → ComesTo conduct file first h last → IsSteady old last × IsFull old last
  running_full old [] last at comes = absurd at
  running_full old (x ∷ before) last (done, (header, at)) (earlier, choice, comes, passes) =
      let stood = sending_steady header old (length file - header) before earlier at comes in
      let safe = sending_safe (length file) header old (length file - header) before at in
      let may : MaySend (length file) Complete before =
      (header, sending_fits (length file) header old (length file - header) before at, sending_received (length file) header old (length file - header) before at) in
      let later = fills_steady old earlier (stepped x.command choice earlier) (filled_of conduct two file first quiet x.command Complete choice earlier done.1 tt) stood in
      let image : (held (stepped x.command choice earlier) (other_bank old)).image ≡ file =
      subst (λ (b : Bank). (held (stepped x.command choice earlier) (other_bank b)).image ≡ file) stood.0.0
      (completes file conduct contents first x before choice earlier last safe may comes done passes) in
      (fill_stands conduct two file first quiet old x Complete choice earlier last done.1 tt passes stood, full_endures old x choice earlier last passes (image, inl later.1))

  full_switches : (old : Bank) (before after : Firmware) → Switches before after → IsSteady old before → IsFull old before → IsFull old after
  full_switches old before after (keeps, aims) ((runs_now, image, only), still) full = (ap (λ (b : Held). b.image) (kept before after (other_bank old) keeps) ∙ full.0, by aims)
    where
      by : (after.reset ≡ before.reset) ⊎ ((after.reset ≡ None) ⊎ (after.reset ≡ Some (other_bank before.running))) → (after.reset ≡ None) ⊎ (after.reset ≡ Some (other_bank old))
      by (inl same) = inl (same ∙ still)
      by (inr (inl none)) = inl none
      by (inr (inr some)) = inr (some ∙ ap (λ (b : Bank). Some (other_bank b)) runs_now)

  watching_full : (old : Bank) (h : History) (last : Firmware) → IsWatching (length file) old h → ComesTo conduct file first h last → IsFull old last
  watching_full old [] last at comes = absurd at
  watching_full old (x ∷ before) last (inl (is, at)) (earlier, choice, comes, passes) =
      full_asked old x choice earlier last is passes (watching_full old before earlier at comes)
  watching_full old (x ∷ before) last (inr ((is, may), at)) (earlier, choice, comes, passes) =
      let ran = running_full old before earlier at comes in
      full_endures old x choice earlier last passes
      (full_switches old earlier (stepped x.command choice earlier) (two.ran (message_of file x.command) choice earlier (ap (λ (c : Command). (message_of file c).id) is)) ran.0 ran.1)

  committing_full : (old : Bank) (h : History) (last : Firmware) → IsCommitting (length file) old h → ComesTo conduct file first h last → IsFull old last
  committing_full old [] last at comes = absurd at
  committing_full old (x ∷ before) last (tells, at) (earlier, choice, comes, passes) =
      full_asked old x choice earlier last tells.1 passes (watching_full old before earlier at comes)

  full_commits : (old : Bank) (before after : Firmware) → (after ≡ before) ⊎ Commits before after → IsFull old before → IsFull old after
  full_commits old before after (inl same) full = subst (IsFull old) (sym same) full
  full_commits old before after (inr commits) full =
      (image_kept before after (other_bank old) commits ∙ full.0, subst (λ (r : Option Bank). (r ≡ None) ⊎ (r ≡ Some (other_bank old))) (sym commits.5) full.1)

  verifying_full : (old : Bank) (h : History) (last : Firmware) → IsVerifying (length file) old h → ComesTo conduct file first h last → IsFull old last
  verifying_full old [] last at comes = absurd at
  verifying_full old (x ∷ before) last (inl (is, at)) (earlier, choice, comes, passes) =
      full_asked old x choice earlier last is passes (verifying_full old before earlier at comes)
  verifying_full old (x ∷ before) last (inr ((is, may), at)) (earlier, choice, comes, passes) =
      full_endures old x choice earlier last passes
      (full_commits old earlier (stepped x.command choice earlier) (two.commit_is_atomic (message_of file x.command) choice earlier (ap (λ (c : Command). (message_of file c).id) is))
      (committing_full old before earlier at comes))

  -- a reset that comes then is for the bank that runs already
  aimed_standing : (bank : Bank) (before after : Firmware) → Endures before after → IsStanding bank before → (before.reset ≡ None) ⊎ (before.reset ≡ Some bank) → IsStanding bank after
  aimed_standing bank before after (inl same) is aims = subst (IsStanding bank) (sym same) is
  aimed_standing bank before after (inr (inl loses)) is aims = loses_standing bank before after loses is
  aimed_standing bank before after (inr (inr (goal_bank, was, keeps, can, runs_it, opened, still))) is (inl none) = absurd cc
  aimed_standing bank before after (inr (inr (goal_bank, was, keeps, can, runs_it, opened, still))) (runs_now, image, alone_is) (inr some) =
      let e : goal_bank ≡ bank = cc in
      let good : (held before goal_bank).valid ≡ true = subst (λ (b : Bank). (held before b).valid ≡ true) (sym e) image.1 in (
        runs_it good ∙ e,
        (ap (λ (b : Held). b.committed) (kept before after bank keeps) ∙ image.0, ap (λ (b : Held). b.valid) (kept before after bank keeps) ∙ image.1),
        ap (λ (b : Held). b.committed) (kept before after (other_bank bank) keeps) ∙ alone_is,
      )

  pub finished_whole : (h : History) (last : Firmware) → IsFinished (length file) h → ComesTo conduct file first h last
      → (bank : Bank) × IsStanding bank last × ((held last bank).image ≡ file)
  finished_whole [] last at comes = absurd at
  finished_whole (x ∷ before) last (old, (reply, is, was, says), at) (earlier, choice, comes, passes) =
      let later = stepped x.command choice earlier in
      let full = verifying_full old before earlier at comes in
      let still : IsFull old later = subst (IsFull old) (sym (asked_of conduct two file first quiet x choice earlier (subst IsQuery (sym is) tt))) full in (
        other_bank old,
        aimed_standing (other_bank old) later last (passes_endures (conduct (message_of file x.command) choice earlier) x.outcome last passes)
            (told_after conduct two file first quiet (IsStanding (other_bank old)) x reply choice earlier last is was passes (λ f true_of. told_committed old reply.items f true_of says)) still.1,
        (full_asked old x choice earlier last is passes full).0,
      )
