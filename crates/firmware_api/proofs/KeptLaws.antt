-- A port that C keeps, after a call: its reading has read as many of the halves as are counted.
use Rattle.std.proofs.Common.{◌≡◌, ◌≢◌, ◌≤◌, ◌<◌, ◌==◌, [], ℕ, Bool, true, false, List, length, take, Option, Some, None, refl, ap, sym, subst, inl, inr, ◌∙◌, arith, if◌then◌else◌}
use Rattle.std.specs.Prelude.{nat_le}
use Rattle.std.specs.FinMap as map
use Rattle.std.proofs.lemmas.Bool.{eqb-true, le-leb}
use Rattle.bus_model.specs.declared.operation.Reply.{Reply}
use Rattle.conversations.specs.declared.next.Next.{Next}
use Rattle.conversations.specs.declared.next.Next.TheVariants.{Do, Wait, End}
use Rattle.conversations.specs.declared.on_page.OnPage.{OnPage}
use Rattle.conversations.specs.Wanted.{op_of}
use Rattle.conversations.specs.Wanted as conversations
use Rattle.paged_memory.specs.Images.{Memory}
use Rattle.module_reading.specs.declared.halves.Halves.{Halves}
use Rattle.port_manager.specs.declared.job.Job.{Job}
use Rattle.port_manager.specs.declared.job.Job.TheVariants.{Reading, Waking, Sleeping, Provisioning, Activating, Confirming, Watching}
use Rattle.port_manager.specs.declared.port.Outstanding.{Outstanding}
use Rattle.port_manager.specs.declared.port.Outstanding.TheVariants as outstanding
use Rattle.port_manager.specs.declared.port.Port.{Port}
use Rattle.port_manager.specs.declared.port.Rest.{Rest}
use Rattle.port_manager.specs.declared.port.Rest.TheVariants as rests
use Rattle.port_manager.specs.declared.port.Stage.{Stage}
use Rattle.port_manager.specs.declared.port.Stage.TheVariants.{Absent, Left, Working}
use Rattle.port_manager.specs.declared.silence.Presence.{Presence}
use Rattle.port_manager.specs.declared.silence.Presence.TheVariants as presences
use Rattle.port_manager.specs.Jobs.{IsReplyTo, paged_halves, reading, reading_after, reading_wants}
use Rattle.port_manager.specs.Patients.{Patient, after_on, wants_on}
use Rattle.port_manager.specs.Ports.{IfWorking, asking, begun_in, heard_as, is_overdue, rechecked, reconsidered, reconsidered_by}
use Rattle.port_manager.proofs.PatientLaws.{kept_within}
use Rattle.saved_port.specs.SavedPorts.{port_in}
use Rattle.saved_port.specs.Known.{HasRead, IsKnown, IsKnownJob, IsReadingAfter, ReadsOn, halves_of}
use Rattle.saved_port.specs.Shown.{IsShown}
use Rattle.firmware_api.specs.declared.half.HalfBytes.{HalfBytes}
use Rattle.firmware_api.specs.declared.port.kept.KeptPort.{KeptPort}
use Rattle.firmware_api.specs.Halves.{key_of, memory_of}
use Rattle.firmware_api.specs.KeptPorts.{FitsIn, HasFewHalves, HasRoom, IsCounted, IsHalfBy, IsHalfIn, IsKept, count_by, count_in, count_of, kept_in}
use Rattle.firmware_api.specs.PortsTold.{next_told}
use Rattle.firmware_api.specs.SavedConversations.{HasHalf, IsInFront}
use Rattle.firmware_api.proofs.FitLaws.{take_few}
use Rattle.firmware_api.proofs.HalfMemories.{memory_has_few}
use Rattle.conversations.proofs.PatientLaws.{made}
use Rattle.firmware_api.proofs.ReadingRoom.{grows}

pub nothing_read : memory_of [] ≡ map.empty
unfolding memory_of
nothing_read = refl

-- so many of the halves are what the reading there has read, and it has counted them
pub record Fits (stage : Stage) (count : ℕ) (halves : List HalfBytes) : Type 0 where
  pub few : count ≤ 5
  pub read : IfWorking stage (HasRead (memory_of (take count halves)))
  pub counted : IfWorking stage (IsCounted count)

-- a reading has read few
few_read : (job : Job) (count : ℕ) (halves : List HalfBytes) → count ≤ 5 → HasRead (memory_of (take count halves)) job → HasFewHalves job
few_read (Reading job woken) count halves few read =
    let most = memory_has_few (take count halves) in
    let taken = take_few count halves in
    let len = subst (λ (m : Memory). map.len m ≤ length (take count halves)) (sym read) most in
    omega (arith, few, len, taken)
few_read (Waking job) count halves few read = tt
few_read (Sleeping job) count halves few read = tt
few_read (Provisioning job goal) count halves few read = tt
few_read (Activating job goal) count halves few read = tt
few_read (Confirming job) count halves few read = tt
few_read (Watching job) count halves few read = tt

pub few_halves : (stage : Stage) (count : ℕ) (halves : List HalfBytes) → count ≤ 5 → IfWorking stage (HasRead (memory_of (take count halves))) → IfWorking stage HasFewHalves
few_halves Absent count halves few read = tt
few_halves (Left reason) count halves few read = tt
few_halves (Working job) count halves few read = few_read job count halves few read

-- ---- where it stays as it is

zero_count : (settled count : ℕ) (none : Bool) → (settled == 0) ≡ none → count ≤ settled → (if none then 0 else count) ≡ count
zero_count settled count true is few = let zero = eqb-true settled 0 is in omega (arith, few, zero)
zero_count settled count false is few = refl

pub same_count : (settled count : ℕ) → count ≤ settled → count_by settled count ≡ count
same_count settled count few = zero_count settled count (settled == 0) refl few

pub stays : (stage : Stage) (count : ℕ) (halves : List HalfBytes) → Fits stage count halves → Fits stage (count_in stage count) halves
stays Absent count halves fits = record { few = omega arith; read = tt; counted = tt }
stays (Left reason) count halves fits = record { few = omega arith; read = tt; counted = tt }
stays (Working (Reading job woken)) count halves fits =
    subst (λ (n : ℕ). Fits (Working (Reading job woken)) n halves) (sym (same_count (halves_of job).settled count fits.counted)) fits
stays (Working (Waking job)) count halves fits = record { few = omega arith; read = tt; counted = tt }
stays (Working (Sleeping job)) count halves fits = record { few = omega arith; read = tt; counted = tt }
stays (Working (Provisioning job goal)) count halves fits = record { few = omega arith; read = tt; counted = tt }
stays (Working (Activating job goal)) count halves fits = record { few = omega arith; read = tt; counted = tt }
stays (Working (Confirming job)) count halves fits = record { few = omega arith; read = tt; counted = tt }
stays (Working (Watching job)) count halves fits = record { few = omega arith; read = tt; counted = tt }

-- ---- where a reading begins

pub absent : (count : ℕ) (halves : List HalfBytes) → Fits Absent 0 halves
absent count halves = record { few = omega arith; read = tt; counted = tt }

pub begins : (woken : Bool) (count : ℕ) (halves : List HalfBytes) → Fits (Working (reading woken)) (count_in (Working (reading woken)) count) halves
begins woken count halves = record { few = omega arith; read = sym nothing_read; counted = omega arith }

restarted : (stage : Stage) (count : ℕ) (halves : List HalfBytes) → Fits (begun_in stage) (count_in (begun_in stage) count) halves
restarted Absent count halves = record { few = omega arith; read = tt; counted = tt }
restarted (Left reason) count halves = begins false count halves
restarted (Working job) count halves = begins false count halves

pub reconsidered_fits : (o : Outstanding) (port : Port) (count : ℕ) (halves : List HalfBytes) → Fits port.stage count halves →
    Fits (reconsidered_by o port).stage (count_of (reconsidered_by o port) count) halves
reconsidered_fits outstanding.Awaited port count halves fits = stays port.stage count halves fits
reconsidered_fits outstanding.Stale port count halves fits = stays port.stage count halves fits
reconsidered_fits outstanding.Nothing port count halves fits = restarted port.stage count halves
reconsidered_fits outstanding.Forsaken port count halves fits = restarted port.stage count halves

restarted_known : (stage : Stage) → IfWorking (begun_in stage) IsKnownJob
restarted_known Absent = tt
restarted_known (Left reason) = tt
restarted_known (Working job) = tt

pub reconsidered_known : (o : Outstanding) (port : Port) → IsKnown port → IsKnown (reconsidered_by o port)
reconsidered_known outstanding.Awaited port known = known
reconsidered_known outstanding.Stale port known = known
reconsidered_known outstanding.Nothing port known = restarted_known port.stage
reconsidered_known outstanding.Forsaken port known = restarted_known port.stage

-- ---- what was left alone is read anew

rechecked_fits : (overdue : Bool) (port : Port) (count : ℕ) (halves : List HalfBytes) → Fits port.stage count halves →
    Fits (if overdue then reconsidered port else port).stage (count_of (if overdue then reconsidered port else port) count) halves
rechecked_fits true port count halves fits = reconsidered_fits port.outstanding (record port { vain = false }) count halves fits
rechecked_fits false port count halves fits = stays port.stage count halves fits

rechecked_known_if : (overdue : Bool) (port : Port) → IsKnown port → IsKnown (if overdue then reconsidered port else port)
rechecked_known_if true port known = reconsidered_known port.outstanding (record port { vain = false }) known
rechecked_known_if false port known = known

pub rechecked_known : (now : ℕ) (port : Port) → IsKnown port → IsKnown (rechecked now port)
rechecked_known now port known = rechecked_known_if (is_overdue port now) port known

-- ---- where a module is heard

pub heard_fits : (presence : Presence) (port : Port) (alive : Bool) (began now count : ℕ) (halves : List HalfBytes) → Fits port.stage count halves →
    Fits (heard_as presence port alive began now).stage (count_of (heard_as presence port alive began now) count) halves
heard_fits presences.Plugged port alive began now count halves fits = begins false count halves
heard_fits presences.Pulled port alive began now count halves fits = absent count halves
heard_fits presences.Same port alive began now count halves fits = stays port.stage count halves fits

pub heard_known : (presence : Presence) (port : Port) (alive : Bool) (began now : ℕ) → IsKnown port → IsKnown (heard_as presence port alive began now)
heard_known presences.Plugged port alive began now known = tt
heard_known presences.Pulled port alive began now known = tt
heard_known presences.Same port alive began now known = known

-- ---- where a reading goes on

goes_on : (job : Patient (OnPage Halves)) (reply : Reply) (half : Option HalfBytes) → HasHalf half (halves_of job) (after_on paged_halves job.conversation.conversation reply).conversation →
    HasHalf half (halves_of job) (halves_of (reading_after job reply))
goes_on job reply half has =
    kept_within (λ (on : OnPage Halves). HasHalf half (halves_of job) on.conversation) (wants_on paged_halves) (after_on paged_halves) job reply has

grown : (job later : Patient (OnPage Halves)) (was woken : Bool) (half : Option HalfBytes) (count number : ℕ) (before after : List HalfBytes) → (half ≢ None → count < 5) →
    HasHalf half (halves_of job) (halves_of later) → Fits (Working (Reading job was)) count before → IsInFront half count before number after → Fits (Working (Reading later woken)) number after
grown job later was woken None count number before after room (image, less, more) fits (counted, is) = record {
  few = subst (λ (n : ℕ). n ≤ 5) (sym counted) fits.few;
  read = image ∙ fits.read ∙ ap (λ (l : List HalfBytes). memory_of l) (ap (λ (l : List HalfBytes). take count l) (sym is) ∙ ap (λ (n : ℕ). take n after) (sym counted));
  counted = let had : count ≤ (halves_of job).settled = fits.counted in omega (arith, counted, less, had);
}
grown job later was woken (Some half) count number before after room ((bytes, image, settled), place) fits (counted, is) = record {
  few = let short = room (λ none. cc) in omega (arith, counted, short);
  read = image ∙ ap (λ (memory : Memory). map.insert memory (key_of half) half.bytes) fits.read ∙ grows half (take count before) ∙ ap (λ (l : List HalfBytes). memory_of l) (sym is);
  counted = let had : count ≤ (halves_of job).settled = fits.counted in omega (arith, counted, settled, had);
}

-- ---- after a reply

module _ (before : Stage) (reply : Reply) (half : Option HalfBytes) (count : ℕ) (old : List HalfBytes) (fits : Fits before count old) where
  -- a half is given by a reading alone, which has room for it
  room_in : (stage : Stage) → Fits stage count old → IsHalfIn stage reply half → (half ≢ None → IfWorking stage HasRoom) → half ≢ None → count < 5
  room_in Absent fit by room some = absurd (some by)
  room_in (Left reason) fit by room some = absurd (some by)
  room_in (Working (Reading job woken)) fit by room some =
      let short : (halves_of job).settled < 5 = room some in
      let had : count ≤ (halves_of job).settled = fit.counted in
      omega (arith, short, had)
  room_in (Working (Waking job)) fit by room some = absurd (some by)
  room_in (Working (Sleeping job)) fit by room some = absurd (some by)
  room_in (Working (Provisioning job goal)) fit by room some = absurd (some by)
  room_in (Working (Activating job goal)) fit by room some = absurd (some by)
  room_in (Working (Confirming job)) fit by room some = absurd (some by)
  room_in (Working (Watching job)) fit by room some = absurd (some by)

  pub room_for : (o : Outstanding) → IsHalfBy o before reply half → (half ≢ None → IfWorking before HasRoom) → half ≢ None → count < 5
  room_for outstanding.Nothing by room some = absurd (some by)
  room_for outstanding.Awaited by room some = room_in before fits by room some
  room_for outstanding.Stale by room some = absurd (some by)
  room_for outstanding.Forsaken by room some = absurd (some by)

module _ (before : Stage) (reply : Reply) (half : Option HalfBytes) (count number : ℕ) (old new : List HalfBytes) (fits : Fits before count old) (room : half ≢ None → count < 5)
    (front : IsInFront half count old number new) where
  reads_on : (job : Patient (OnPage Halves)) (woken : Bool) → IsHalfIn before reply half → ReadsOn before reply (Reading job woken) →
      Fits (Working (Reading job woken)) (count_in (Working (Reading job woken)) number) new
  reads_on job woken by (inl (earlier, was, at, is)) =
      let has = goes_on earlier reply half (subst (λ (s : Stage). IsHalfIn s reply half) at by) in
      let later = subst (λ (j : Patient (OnPage Halves)). HasHalf half (halves_of earlier) (halves_of j)) (sym is) has in
      stays (Working (Reading job woken)) number new (grown earlier job was woken half count number old new room later (subst (λ (s : Stage). Fits s count old) at fits) front)
  reads_on job woken by (inr is) = subst (λ (j : Job). Fits (Working j) (count_in (Working j) number) new) (sym is) (begins woken number new)

  none_given : half ≡ None → Fits before number new
  none_given none =
      let (counted, is) = subst (λ (h : Option HalfBytes). IsInFront h count old number new) none front in
      subst (λ (n : ℕ). Fits before n new) (sym counted) (subst (λ (l : List HalfBytes). Fits before count l) (sym is) fits)

  taken_reading : (o : Outstanding) (job : Patient (OnPage Halves)) (woken : Bool) → IsHalfBy o before reply half → IsReadingAfter o before reply (Reading job woken) →
      Fits (Working (Reading job woken)) (count_in (Working (Reading job woken)) number) new
  taken_reading outstanding.Nothing job woken by is = absurd is
  taken_reading outstanding.Awaited job woken by is = reads_on job woken by is
  taken_reading outstanding.Stale job woken by is = subst (λ (j : Job). Fits (Working j) (count_in (Working j) number) new) (sym is) (begins woken number new)
  taken_reading outstanding.Forsaken job woken by is = stays (Working (Reading job woken)) number new (subst (λ (s : Stage). Fits s number new) is (none_given by))

  pub fits_after : (o : Outstanding) (after : Stage) → IsHalfBy o before reply half → IfWorking after (IsReadingAfter o before reply) → Fits after (count_in after number) new
  fits_after o Absent by is = record { few = omega arith; read = tt; counted = tt }
  fits_after o (Left reason) by is = record { few = omega arith; read = tt; counted = tt }
  fits_after o (Working (Reading job woken)) by is = taken_reading o job woken by is
  fits_after o (Working (Waking job)) by is = record { few = omega arith; read = tt; counted = tt }
  fits_after o (Working (Sleeping job)) by is = record { few = omega arith; read = tt; counted = tt }
  fits_after o (Working (Provisioning job goal)) by is = record { few = omega arith; read = tt; counted = tt }
  fits_after o (Working (Activating job goal)) by is = record { few = omega arith; read = tt; counted = tt }
  fits_after o (Working (Confirming job)) by is = record { few = omega arith; read = tt; counted = tt }
  fits_after o (Working (Watching job)) by is = record { few = omega arith; read = tt; counted = tt }

-- ---- what the reply is one to

replies : {E : Type 0} (next : Next E) (reply : Reply) → IsReplyTo (op_of next) reply → conversations.IsReplyTo next reply
replies (Do op) reply answers = answers
replies (Wait time) reply answers = absurd answers
replies (End end) reply answers = absurd answers

pub reading_replies : (job : Patient (OnPage Halves)) (reply : Reply) → IsReplyTo (op_of (reading_wants job)) reply → conversations.IsReplyTo (wants_on paged_halves job.conversation.conversation) reply
reading_replies job reply answers = (made (wants_on paged_halves) job reply (replies (reading_wants job) reply answers)).1

-- ---- the memory

pub keeps_in : (new : KeptPort) (port : Port) (count : ℕ) (halves : List HalfBytes) → new.numbers.half_count ≡ count → new.halves ≡ halves → FitsIn port count halves →
    (IfWorking port.stage (HasRead (memory_of (take count halves))) → port_in new.numbers (memory_of (take count halves)) ≡ Some port) → kept_in new ≡ Some port
unfolding kept_in
keeps_in new port count halves counts same fits saved =
    let at : ℕ → List HalfBytes → Option Port = λ n l. if nat_le n 5 then port_in new.numbers (memory_of (take n l)) else None in
    ap (λ (n : ℕ). at n new.halves) counts ∙ ap (λ (l : List HalfBytes). at count l) same
    ∙ ap (λ (b : Bool). if b then port_in new.numbers (memory_of (take count halves)) else None) (le-leb count 5 fits.0) ∙ saved fits.1

pub keeps : (new : KeptPort) (later : Port) (count : ℕ) (halves : List HalfBytes) → Fits later.stage count halves → IsKnown later → new.numbers.half_count ≡ count →
    (FitsIn later count halves → IsKnown later → kept_in new ≡ Some later) → IsShown later new.numbers → IsKept new later
keeps new later count halves fits known counts same shown = record {
  is = same (fits.few, fits.read) known;
  shown = shown;
  known = known;
  counted = subst (λ (n : ℕ). IfWorking later.stage (IsCounted n)) (sym counts) fits.counted;
}

pub put_kept : (old new : KeptPort) (found later : Port) → found ≡ later →
    (FitsIn found (count_of found old.numbers.half_count) old.halves → IsKnown found → kept_in new ≡ Some found) → IsShown found new.numbers →
    new.numbers.half_count ≡ count_of found old.numbers.half_count → Fits later.stage (count_of later old.numbers.half_count) old.halves → IsKnown later → IsKept new later
put_kept old new found later is same shown counts fits known =
    subst (λ (p : Port). IsKept new p) is
    (keeps new found (count_of found old.numbers.half_count) old.halves (subst (λ (p : Port). Fits p.stage (count_of p old.numbers.half_count) old.halves) (sym is) fits)
    (subst (λ (p : Port). IsKnown p) (sym is) known) counts same shown)

pub fits_kept : (old : KeptPort) (found held : Port) → FitsIn found old.numbers.half_count old.halves → found ≡ held → IsKept old held → Fits held.stage old.numbers.half_count old.halves
fits_kept old found held fits same kept =
    let (few, read) = subst (λ (p : Port). FitsIn p old.numbers.half_count old.halves) same fits in
    record { few = few; read = read; counted = kept.counted }

pub same_some : {A : Type 0} (a b : A) → Some a ≡ Some b → a ≡ b
same_some a b same = cc

-- the port that was found is the one that is kept
pub found_kept : (old : KeptPort) (found held : Port) → kept_in old ≡ Some found → kept_in old ≡ Some held → found ≡ held
found_kept old found held is kept = same_some found held (sym is ∙ kept)

pub stage_asking : (port : Port) (next : Next Rest) → (asking port next).stage ≡ port.stage
stage_asking port (Do op) = refl
stage_asking port (Wait time) = refl
stage_asking port (End rest) = refl

pub asking_fits : (now : ℕ) (port : Port) (next : Next Rest) (count : ℕ) (halves : List HalfBytes) → Fits port.stage count halves →
    Fits (asking (rechecked now port) next).stage (count_of (asking (rechecked now port) next) count) halves
asking_fits now port next count halves fits =
    subst (λ (s : Stage). Fits s (count_in s count) halves) (sym (stage_asking (rechecked now port) next)) (rechecked_fits (is_overdue port now) port count halves fits)

pub asking_known : (port : Port) (next : Next Rest) → IsKnown port → IsKnown (asking port next)
asking_known port next known = subst (λ (s : Stage). IfWorking s IsKnownJob) (sym (stage_asking port next)) known

-- an operation that is asked for lies where it did
pub told_asking : (port : Port) (next : Next Rest) → next_told (asking port next) next ≡ next_told port next
told_asking port (Do op) = refl
told_asking port (Wait time) = refl
told_asking port (End rests.Busy) = refl
told_asking port (End rests.Idle) = refl
