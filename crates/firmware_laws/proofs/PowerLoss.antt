-- A module keeps a committed image that can run, if it is sent only what may be sent, whenever power is lost.
use Rattle.std.proofs.Common.{◌≡◌, ◌⊎◌, ℕ, ◌-◌, Bool, true, false, cond, not, nat_lt, List, [], ◌∷◌, length, get_or, Option, Some, None, refl, sym, subst, ap, inl, inr, ◌∙◌}
use Rattle.std.proofs.lemmas.Bool.{and_parts, ltb-true}
use Rattle.arrayvec.specs.ArrayVec.{ArrayVec}
use Rattle.firmware_update.specs.declared.bank.Bank.{Bank}
use Rattle.firmware_update.specs.declared.bank.Bank.TheVariants.{A, B}
use Rattle.firmware_update.specs.declared.command.Command.{Command}
use Rattle.firmware_update.specs.declared.command.Command.TheVariants.{Features, Info, Start, Block, Complete, Abort, Run, Commit}
use Rattle.firmware_update.specs.declared.exchange.Exchange.{Exchange}
use Rattle.command_block.specs.declared.outcome.Outcome.{Outcome}
use Rattle.command_block.specs.declared.outcome.Outcome.TheVariants.{Succeeded}
use Rattle.firmware_update.specs.Exchanges.{History, Newest}
use Rattle.firmware_update.specs.Replies.{new_runs, other_bank, runs_alone, standing_bank, stands}
use Rattle.firmware_update.specs.Safety.{GoesOn, IsDownloading, IsQuery, IsSafe, IsStart, MaySend, OnlyQueries, Received, ReportsNew, ReportsStanding}
use Rattle.firmware_update.specs.Payloads.{message_of}
use Rattle.firmware_laws.specs.Modules.{Answer, IsQuestion, ComesTo, Commits, Conduct, Endures, Fills, FillsOther, Firmware, HasImage, HasTwoBanks, Held, IsImage, IsQuiet, IsStanding, IsTrueOf, KeepsBanks, Loses, Passes, RunsWell, IsReportOf, held}

-- ---- power is lost

pub kept : (before after : Firmware) (bank : Bank) → KeepsBanks before after → held after bank ≡ held before bank
kept before after A keeps = keeps.0
kept before after B keeps = keeps.1

pub kept_image : (before after : Firmware) (bank : Bank) → KeepsBanks before after → IsImage before bank → IsImage after bank
kept_image before after bank keeps is =
    (ap (λ (h : Held). h.committed) (kept before after bank keeps) ∙ is.0, ap (λ (h : Held). h.valid) (kept before after bank keeps) ∙ is.1)

pub endures_banks : (before after : Firmware) → Endures before after → KeepsBanks before after
endures_banks before after (inl same) = (ap (λ (f : Firmware). f.a) same, ap (λ (f : Firmware). f.b) same)
endures_banks before after (inr (inl loses)) = loses.0
endures_banks before after (inr (inr (bank, was, keeps, well, runs_it, opened, quiet))) = keeps

pub endures_image : (before after : Firmware) → Endures before after → HasImage before → HasImage after
endures_image before after endures (bank, is) = (bank, kept_image before after bank (endures_banks before after endures) is)

-- if it is committed alone, no other is
pub alone : (firmware : Firmware) (old bank : Bank) → (held firmware (other_bank old)).committed ≡ false → IsImage firmware bank → bank ≡ old
alone firmware A A only is = refl
alone firmware A B only is = absurd cc
alone firmware B A only is = absurd cc
alone firmware B B only is = refl

-- and no reset is still to come
abbrev pub IsSteady : Bank → Firmware → Type 0
IsSteady old firmware = IsStanding old firmware × IsQuiet firmware

pub endures_quiet : (before after : Firmware) → Endures before after → IsQuiet before → IsQuiet after
endures_quiet before after (inl same) quiet = ap (λ (f : Firmware). f.reset) same ∙ quiet
endures_quiet before after (inr (inl (keeps, boots, opened, still))) quiet = still
endures_quiet before after (inr (inr (bank, was, keeps, well, runs_it, opened, still))) quiet = still

pub loses_standing : (old : Bank) (before after : Firmware) → Loses before after → IsStanding old before → IsStanding old after
loses_standing old before after (keeps, boots, opened, still) (running, image, only) = (
  alone before old after.running only (boots (old, image)),
  kept_image before after old keeps image,
  ap (λ (h : Held). h.committed) (kept before after (other_bank old) keeps) ∙ only,
)

endures_standing : (old : Bank) (before after : Firmware) → Endures before after → IsStanding old before → IsQuiet before → IsStanding old after
endures_standing old before after (inl same) is quiet = subst (IsStanding old) (sym same) is
endures_standing old before after (inr (inl loses)) is quiet = loses_standing old before after loses is
endures_standing old before after (inr (inr (bank, was, keeps, well, runs_it, opened, still))) is quiet = absurd cc

endures_steady : (old : Bank) (before after : Firmware) → Endures before after → IsSteady old before → IsSteady old after
endures_steady old before after endures (is, quiet) = (endures_standing old before after endures is quiet, endures_quiet before after endures quiet)

-- what runs after that
pub boots_image : (before after : Firmware) → Loses before after → HasImage before → IsImage after after.running
boots_image before after (keeps, boots, opened, still) has = kept_image before after after.running keeps (boots has)

-- ---- commands

fills_at : (old run : Bank) (before after : Firmware) → run ≡ old
    → held after run ≡ held before run → (held after (other_bank run)).committed ≡ (held before (other_bank run)).committed
    → IsImage before old → (held before (other_bank old)).committed ≡ false → IsImage after old × ((held after (other_bank old)).committed ≡ false)
fills_at old run before after is same other image only =
    let s : held after old ≡ held before old = subst (λ (b : Bank). held after b ≡ held before b) is same in
    let o : (held after (other_bank old)).committed ≡ (held before (other_bank old)).committed = subst (λ (b : Bank). (held after (other_bank b)).committed ≡ (held before (other_bank b)).committed) is other in
    ((ap (λ (h : Held). h.committed) s ∙ image.0, ap (λ (h : Held). h.valid) s ∙ image.1), o ∙ only)

pub fills_steady : (old : Bank) (before after : Firmware) → FillsOther before after → IsSteady old before → IsSteady old after
fills_steady old before after (same_run, same, other, same_reset) ((running, image, only), quiet) =
    let at = fills_at old before.running before after running same other image only in
    ((same_run ∙ running, at.0, at.1), same_reset ∙ quiet)

commits_image : (before after : Firmware) → Commits before after → RunsWell before → HasImage after
commits_image before after (same_run, done, freed, kept_run, kept_other, same_reset) well = (before.running, (done, kept_run.0 ∙ well))

commit_image : (before after : Firmware) → (after ≡ before) ⊎ Commits before after → HasImage before → RunsWell before → HasImage after
commit_image before after (inl same) has well = subst HasImage (sym same) has
commit_image before after (inr commits) has well = commits_image before after commits well

-- ---- what the reply tells

says_runs : (byte : ℕ) (firmware : Firmware) (bank : Bank) → IsReportOf byte firmware bank → runs_alone bank byte ≡ true → (firmware.running ≡ bank) × ((held firmware bank).valid ≡ true)
says_runs byte firmware bank says e =
    let parts = and_parts _ _ e in
    let first = and_parts _ _ parts.0 in
    (says.running first.0, sym says.valid ∙ parts.1)

pub not_true : (b : Bool) → not b ≡ true → b ≡ false
not_true true e = absurd cc
not_true false e = refl

pub says_stands : (byte : ℕ) (firmware : Firmware) (bank : Bank) → ((b : Bank) → IsReportOf byte firmware b) → stands bank byte ≡ true → IsStanding bank firmware
says_stands byte firmware bank says e =
    let parts = and_parts _ _ e in
    let first = and_parts _ _ parts.0 in
    let run = says_runs byte firmware bank (says bank) first.0 in
    (run.0, (sym (says bank).committed ∙ first.1, run.1), sym (says (other_bank bank)).committed ∙ not_true _ parts.1)

chosen : (old : Bank) (byte : ℕ) (some a b : Bool) → stands A byte ≡ a → stands B byte ≡ b
    → cond some (cond a (Some A) (cond b (Some B) None)) None ≡ Some old → stands old byte ≡ true
chosen old byte false a b is_a is_b e = absurd cc
chosen old byte true true b is_a is_b e = let o : A ≡ old = cc in subst (λ (k : Bank). stands k byte ≡ true) o is_a
chosen old byte true false true is_a is_b e = let o : B ≡ old = cc in subst (λ (k : Bank). stands k byte ≡ true) o is_b
chosen old byte true false false is_a is_b e = absurd cc

some_bytes : (some : Bool) (o : Option Bank) (old : Bank) → cond some o None ≡ Some old → some ≡ true
some_bytes true o old e = refl
some_bytes false o old e = absurd cc

told_standing : (old : Bank) (reply : List ℕ) (firmware : Firmware) → IsTrueOf firmware reply → standing_bank reply ≡ Some old → IsStanding old firmware
unfolding standing_bank
told_standing old reply firmware says e =
    says_stands (get_or reply 0 0) firmware old (says (ltb-true 0 (length reply) (some_bytes (nat_lt 0 (length reply)) _ old e))) (chosen old (get_or reply 0 0) (nat_lt 0 (length reply)) _ _ refl refl e)

told_new : (old : Bank) (reply : List ℕ) (firmware : Firmware) → IsTrueOf firmware reply → new_runs old reply ≡ true → RunsWell firmware
unfolding new_runs
told_new old reply firmware says e =
    let parts = and_parts (nat_lt 0 (length reply)) (runs_alone (other_bank old) (get_or reply 0 0)) e in
    let run = says_runs (get_or reply 0 0) firmware (other_bank old) (says (ltb-true 0 (length reply) parts.0) (other_bank old)) parts.1 in
    subst (λ (b : Bank). (held firmware b).valid ≡ true) (sym run.0) run.1

-- ---- all exchanges

-- the commands of a download
abbrev pub IsFilling : Command → Type 0
IsFilling Features = ⊥
IsFilling Info = ⊥
IsFilling (Start header) = Unit {0}
IsFilling (Block header address) = Unit {0}
IsFilling Complete = Unit {0}
IsFilling Abort = Unit {0}
IsFilling Run = ⊥
IsFilling Commit = ⊥

start_fills : (command : Command) → IsStart command → IsFilling command
start_fills Features is = is
start_fills Info is = is
start_fills (Start header) is = tt
start_fills (Block header address) is = tt
start_fills Complete is = tt
start_fills Abort is = tt
start_fills Run is = is
start_fills Commit is = is

goes_fills : (command : Command) (outcome : Outcome) → GoesOn command outcome → IsFilling command
goes_fills Features outcome is = is
goes_fills Info outcome is = is
goes_fills (Start header) outcome is = tt
goes_fills (Block header address) outcome is = tt
goes_fills Complete outcome is = tt
goes_fills Abort outcome is = tt
goes_fills Run outcome is = is
goes_fills Commit outcome is = is

asks : (file : List ℕ) (command : Command) → IsQuery command → IsQuestion (message_of file command)
asks file Features is = inl refl
asks file Info is = inr refl
asks file (Start header) is = absurd is
asks file (Block header address) is = absurd is
asks file Complete is = absurd is
asks file Abort is = absurd is
asks file Run is = absurd is
asks file Commit is = absurd is

fills : (file : List ℕ) (command : Command) → IsFilling command → Fills (message_of file command)
fills file Features is = absurd is
fills file Info is = absurd is
fills file (Start header) is = inl refl
fills file (Block header address) is = inr (inl refl)
fills file Complete is = inr (inr (inl refl))
fills file Abort is = inr (inr (inr refl))
fills file Run is = absurd is
fills file Commit is = absurd is

pub passes_endures : (answer : Answer) (outcome : Outcome) (last : Firmware) → Passes answer outcome last → Endures answer.after last
passes_endures answer outcome last (inl (learns, endures)) = endures
passes_endures answer outcome last (inr (cut, unknown, short)) = inr short

pub passes_learnt : (answer : Answer) (reply : ArrayVec ℕ) (last : Firmware) → Passes answer (Succeeded reply) last → answer.outcome ≡ Some (Succeeded reply)
passes_learnt answer reply last (inl (learns, endures)) = learns
passes_learnt answer reply last (inr (cut, unknown, loses)) = absurd cc

module _ (conduct : Conduct) (two : HasTwoBanks conduct) (file : List ℕ) (first : Firmware) (quiet : IsQuiet first) where
  -- how the module stands after a command
  abbrev pub after_of : Command → ℕ → Firmware → Firmware
  after_of command choice before = (conduct (message_of file command) choice before).after

  pub asked_of : (x : Exchange) (choice : ℕ) (before : Firmware) → IsQuery x.command → after_of x.command choice before ≡ before
  asked_of x choice before is = two.asked (message_of file x.command) choice before (asks file x.command is)

  pub filled_of : (command was : Command) (choice : ℕ) (before : Firmware) → command ≡ was → IsFilling was → FillsOther before (after_of command choice before)
  filled_of command was choice before same is = two.filled (message_of file command) choice before (fills file command (subst IsFilling (sym same) is))

  told_of : (command : Command) (choice : ℕ) (before : Firmware) (reply : ArrayVec ℕ) → command ≡ Info
      → (conduct (message_of file command) choice before).outcome ≡ Some (Succeeded reply) → IsTrueOf before reply.items
  told_of command choice before reply is was =
      two.told choice before reply (subst (λ (c : Command). (conduct (message_of file c) choice before).outcome ≡ Some (Succeeded reply)) is was)

  allowed : (x : Exchange) (command : Command) (before : History) → x.command ≡ command → MaySend (length file) x.command before → MaySend (length file) command before
  allowed x command before is may = subst (λ (c : Command). MaySend (length file) c before) is may

  -- an 0100h that is answered says how the module stands after it
  pub told_after : (P : Firmware → Type 0) (x : Exchange) (reply : ArrayVec ℕ) (choice : ℕ) (earlier last : Firmware) → x.command ≡ Info → x.outcome ≡ Succeeded reply
      → Passes (conduct (message_of file x.command) choice earlier) x.outcome last → ((f : Firmware) → IsTrueOf f reply.items → P f) → P (after_of x.command choice earlier)
  told_after P x reply choice earlier last is was passes shows =
      let learnt = passes_learnt (conduct (message_of file x.command) choice earlier) reply last (subst (λ (o : Outcome). Passes (conduct (message_of file x.command) choice earlier) o last) was passes) in
      let same = asked_of x choice earlier (subst IsQuery (sym is) tt) in
      subst P (sym same) (shows earlier (told_of x.command choice earlier reply is learnt))

  -- while only questions were asked
  queries_quiet : (h : History) (last : Firmware) → OnlyQueries h → ComesTo conduct file first h last → IsQuiet last
  queries_quiet [] last only endures = endures_quiet first last endures quiet
  queries_quiet (x ∷ before) last only (earlier, choice, comes, passes) =
      endures_quiet (after_of x.command choice earlier) last (passes_endures (conduct (message_of file x.command) choice earlier) x.outcome last passes)
      (subst IsQuiet (sym (asked_of x choice earlier only.0)) (queries_quiet before earlier only.1 comes))

  -- after 0100h that says so
  pub newest_steady : (old : Bank) (h : History) (last : Firmware) → OnlyQueries h → ComesTo conduct file first h last → Newest (ReportsStanding old) h → IsSteady old last
  newest_steady old [] last only comes tells = absurd tells
  newest_steady old (x ∷ before) last only (earlier, choice, comes, passes) (reply, is, was, says) =
      let later = after_of x.command choice earlier in
      let still : IsQuiet later = subst IsQuiet (sym (asked_of x choice earlier only.0)) (queries_quiet before earlier only.1 comes) in
      let stood : IsStanding old later = told_after (IsStanding old) x reply choice earlier last is was passes (λ f true_of. told_standing old reply.items f true_of says) in
      endures_steady old later last (passes_endures (conduct (message_of file x.command) choice earlier) x.outcome last passes) (stood, still)

  newest_new : (old : Bank) (h : History) (last : Firmware) → ComesTo conduct file first h last → Newest (ReportsNew old) h → HasImage last → RunsWell last
  newest_new old [] last comes tells has = absurd tells
  newest_new old (x ∷ before) last (earlier, choice, comes, passes) (reply, is, was, says) has =
      new_endures (after_of x.command choice earlier) last (passes_endures _ x.outcome last passes) has
      (told_after RunsWell x reply choice earlier last is was passes (λ f true_of. told_new old reply.items f true_of says))
    where
      new_endures : (later last : Firmware) → Endures later last → HasImage last → RunsWell later → RunsWell last
      new_endures later last (inl same) has well = subst RunsWell (sym same) well
      new_endures later last (inr (inl (keeps, boots, opened, still))) (bank, is) well =
          (kept_image later last last.running keeps (boots (bank, kept_image last later bank (sym keeps.0, sym keeps.1) is))).1
      new_endures later last (inr (inr (bank, came, keeps, can, runs_it, opened, still))) has well = can

  pub fill_stands : (old : Bank) (x : Exchange) (was : Command) (choice : ℕ) (earlier last : Firmware) → x.command ≡ was → IsFilling was
      → Passes (conduct (message_of file x.command) choice earlier) x.outcome last → IsSteady old earlier → IsSteady old last
  fill_stands old x was choice earlier last same is passes stood =
      endures_steady old (after_of x.command choice earlier) last (passes_endures _ x.outcome last passes)
      (fills_steady old earlier (after_of x.command choice earlier) (filled_of x.command was choice earlier same is) stood)

  start_stood : (command : Command) (before : History) → IsStart command → MaySend (length file) command before → OnlyQueries before × ((old : Bank) × Newest (ReportsStanding old) before)
  start_stood Features before is may = absurd is
  start_stood Info before is may = absurd is
  start_stood (Start header) before is may = (may.0, may.2)
  start_stood (Block header address) before is may = absurd is
  start_stood Complete before is may = absurd is
  start_stood Abort before is may = absurd is
  start_stood Run before is may = absurd is
  start_stood Commit before is may = absurd is

  -- while blocks are sent
  pub received_stands : (header address : ℕ) (h : History) (last : Firmware) → IsSafe (length file) h → ComesTo conduct file first h last → Received (length file) header address h
      → (old : Bank) × IsSteady old last
  received_stands header address [] last safe comes got = absurd got
  received_stands header address (x ∷ before) last safe (earlier, choice, comes, passes) (inl (missed, got)) =
      let (old, stood) = received_stands header address before earlier safe.1 comes got in
      (old, fill_stands old x (Block header address) choice earlier last missed.0 tt passes stood)
  received_stands header address (x ∷ before) last safe (earlier, choice, comes, passes) (inr (inl (none, began))) =
      let may = allowed x (Start header) before began.1 safe.0 in
      let (old, tells) = may.2 in
      (old, fill_stands old x (Start header) choice earlier last began.1 tt passes (newest_steady old before earlier may.0 comes tells))
  received_stands header address (x ∷ before) last safe (earlier, choice, comes, passes) (inr (inr (below, is, taken, got))) =
      let (old, stood) = received_stands header below before earlier safe.1 comes got in
      (old, fill_stands old x (Block header below) choice earlier last taken.1 tt passes stood)

  -- while a download may be open
  pub downloading_stands : (h : History) (last : Firmware) → IsSafe (length file) h → ComesTo conduct file first h last → IsDownloading h → (old : Bank) × IsSteady old last
  downloading_stands [] last safe comes opened = absurd opened
  downloading_stands (x ∷ before) last safe (earlier, choice, comes, passes) (inl is) =
      let may = start_stood x.command before is safe.0 in
      let (old, tells) = may.1 in
      (old, fill_stands old x x.command choice earlier last refl (start_fills x.command is) passes (newest_steady old before earlier may.0 comes tells))
  downloading_stands (x ∷ before) last safe (earlier, choice, comes, passes) (inr (goes, opened)) =
      let (old, stood) = downloading_stands before earlier safe.1 comes opened in
      (old, fill_stands old x x.command choice earlier last refl (goes_fills x.command x.outcome goes) passes stood)

  filled_image : (old : Bank) (command : Command) (choice : ℕ) (earlier : Firmware) → IsFilling command → IsSteady old earlier → HasImage (after_of command choice earlier)
  filled_image old command choice earlier is stood =
      (old, (fills_steady old earlier (after_of command choice earlier) (filled_of command command choice earlier refl is) stood).0.1)

  -- one command, and each moment at which it is cut short
  pub sent_image : (command : Command) (choice : ℕ) (before : History) (earlier : Firmware) → IsSafe (length file) before → ComesTo conduct file first before earlier
      → MaySend (length file) command before → HasImage earlier → HasImage (after_of command choice earlier)
  sent_image Features choice before earlier safe comes may has = subst HasImage (sym (two.asked (message_of file Features) choice earlier (inl refl))) has
  sent_image Info choice before earlier safe comes may has = subst HasImage (sym (two.asked (message_of file Info) choice earlier (inr refl))) has
  sent_image (Start header) choice before earlier safe comes may has =
      let (old, tells) = may.2 in
      filled_image old (Start header) choice earlier tt (newest_steady old before earlier may.0 comes tells)
  sent_image (Block header address) choice before earlier safe comes may has =
      let (old, stood) = received_stands header address before earlier safe comes may.0 in
      filled_image old (Block header address) choice earlier tt stood
  sent_image Complete choice before earlier safe comes (header, few, got) has =
      let (old, stood) = received_stands header (length file - header) before earlier safe comes got in
      filled_image old Complete choice earlier tt stood
  sent_image Abort choice before earlier safe comes may has =
      let (old, stood) = downloading_stands before earlier safe comes may in
      filled_image old Abort choice earlier tt stood
  sent_image Run choice before earlier safe comes may (bank, is) = (bank, kept_image earlier (after_of Run choice earlier) bank (two.ran (message_of file Run) choice earlier refl).0 is)
  sent_image Commit choice before earlier safe comes (old, tells, ran, stood) has =
      commit_image earlier (after_of Commit choice earlier) (two.commit_is_atomic (message_of file Commit) choice earlier refl) has (newest_new old before earlier comes tells has)

  pub image_stays : (h : History) (last : Firmware) → HasImage first → IsSafe (length file) h → ComesTo conduct file first h last → HasImage last
  image_stays [] last has safe endures = endures_image first last endures has
  image_stays (x ∷ before) last has safe (earlier, choice, comes, passes) =
      endures_image (after_of x.command choice earlier) last (passes_endures _ x.outcome last passes)
      (sent_image x.command choice before earlier safe.1 comes safe.0 (image_stays before earlier has safe.1 comes))
