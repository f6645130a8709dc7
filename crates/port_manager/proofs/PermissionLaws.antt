-- Lanes that are up are taken down only with permission.
use Rattle.std.proofs.Common.{◌≡◌, ◌-◌, inl, inr, ℕ, ◌%◌, Bool, true, false, not, ◌&&◌, ◌||◌, List, [], ◌∷◌, Some, None, refl, sym, ap, subst, ◌∙◌, arith}
use Rattle.std.specs.FinSet as set
use Rattle.std.specs.List.{list_all, range_with_len}
use Rattle.std.proofs.lemmas.Bool.{cases_Bool}
use Rattle.std.proofs.lemmas.List.FromFn.{get_or-range_with_len, length-range_with_len}
use Rattle.std.proofs.lemmas.List.Sums.{AllPass-from_list_all}
use Rattle.bus_model.specs.declared.operation.Op.{Op}
use Rattle.bus_model.specs.declared.device.Dev.TheVariants.{A0}
use Rattle.bus_model.specs.declared.operation.Op.TheVariants.{Fetch, Store}
use Rattle.conversations.specs.Selecting.{IsFetch}
use Rattle.field_tables.specs.declared.field.Register.TheVariants as registers
use Rattle.field_tables.specs.LaneSets.{IsLane, Lanes, byte_of, lanes_in}
use Rattle.paged_memory.specs.declared.page_addressing.PageAddressing.{PageAddressing}
use Rattle.paged_memory.specs.declared.page_addressing.PageAddressing.TheVariants.{BankAndPage, PageAlone}
use Rattle.paged_memory.specs.PageAddressing.{History, selection}
use Rattle.paged_memory.proofs.KnownPageLaws.{by_selection}
use Rattle.applications.specs.Advertised.{Advertised}
use Rattle.plan_certificate.specs.declared.path.Path.{Path}
use Rattle.control_sets.specs.declared.procedures.power.Power.{Power}
use Rattle.control_sets.specs.declared.procedures.power.Power.TheVariants.{Awake, Asleep}
use Rattle.control_sets.specs.PlanLanes.{is_taken}
use Rattle.control_sets.specs.PowerControls.{set_controls, wanted_controls}
use Rattle.control_sets.specs.RegisterOperations.{store_to}
use Rattle.control_sets.specs.StoredBits.{Sets}
use Rattle.control_sets.proofs.LaneBits.{in_byte_of}
use Rattle.control_sets.proofs.PlanLaneLaws.{contains_outside}
use Rattle.port_manager.specs.declared.deciding.Goal.{Goal}
use Rattle.port_manager.specs.declared.deciding.Wanted.{Wanted}
use Rattle.port_manager.specs.declared.job.Job.{Job}
use Rattle.port_manager.specs.declared.job.Job.TheVariants as jobs
use Rattle.port_manager.specs.declared.port.Outstanding.{Outstanding}
use Rattle.port_manager.specs.declared.port.Port.{Port}
use Rattle.conversations.specs.declared.next.Next.TheVariants as nexts
use Rattle.port_manager.specs.declared.port.Stage.{Stage}
use Rattle.port_manager.specs.declared.port.Stage.TheVariants.{Absent, Left, Working}
use Rattle.port_manager.specs.Goals.{HasGoal, IsGoalBy, advert_of, is_kept, is_permitted, kept_of, may_activate, may_provision, wanted_of}
use Rattle.port_manager.specs.Jobs.{activation_of, asked, provisioning_of}
use Rattle.port_manager.specs.Ports.{IfWorking, asked_in, next_at}
use Rattle.port_manager.specs.Stores.{IsStoreOf, May, TakesPermitted}
use Rattle.port_manager.specs.Stories.{Story}
use Rattle.port_manager.specs.Readings.{GivesActivation, GivesPermission, GivesProvisioning, SinceRead}
use Rattle.port_manager.specs.Standing.{IsAt, IsNamed, UnlessStale}
use Rattle.port_manager.proofs.KeptBits.{apply_bits, deinit_bits, staged_bits}
use Rattle.port_manager.proofs.ReleasedBits.{every, in_plan, released}
use Rattle.port_manager.proofs.SinceLaws.{since_map}
use Rattle.port_manager.proofs.StoreLaws.{activation_may, look_may, procedure_may, provisioning_may, reading_may, power_may}
use Rattle.port_manager.proofs.StoryLaws.{asks_in, asks_when}

-- ---- one lane of eight

of_eight : (f : ℕ → Bool) (lane : ℕ) → list_all f (range_with_len 1 8) ≡ true → IsLane lane → f lane ≡ true
of_eight f lane all within =
    subst (λ (n : ℕ). f n ≡ true) (get_or-range_with_len 1 8 (lane - 1) 0 (omega (arith, within.0, within.1)) ∙ omega (arith, within.0))
    (AllPass-from_list_all f (range_with_len 1 8) all (lane - 1) 0 (omega (arith, within.0, within.1, length-range_with_len 1 8)))

or_second : (a b : Bool) → (a || b) ≡ true → a ≡ false → b ≡ true
or_second true b e no_first = absurd (let same : true ≡ false = no_first in cc)
or_second false b e no_first = e

outside_permits : (page : List ℕ) (outside may : Lanes) (lane : ℕ) → may_provision page outside may ≡ true → IsLane lane → set.contains outside lane ≡ true → is_permitted page may lane ≡ true
outside_permits page outside may lane all within inside =
    or_second (not (set.contains outside lane)) (is_permitted page may lane) (of_eight (λ lane. not (set.contains outside lane) || is_permitted page may lane) lane all within) (ap not inside)

plan_permits : (page : List ℕ) (plan may : Lanes) (lane : ℕ) → may_activate page plan may ≡ true → IsLane lane → set.contains plan lane ≡ false → is_permitted page may lane ≡ true
plan_permits page plan may lane all within other =
    or_second (set.contains plan lane) (is_permitted page may lane) (of_eight (λ lane. set.contains plan lane || is_permitted page may lane) lane all within) other

-- a lane that no path of the plan takes is outside of the kept ones
other_outside : (advert : Advertised) (wanted : Wanted) (page : List ℕ) (plan : List Path) (goal : Goal) (lane : ℕ) → IsGoalBy advert wanted page plan goal → IsLane lane → set.contains goal.lanes lane ≡ false
    → set.contains goal.outside lane ≡ true
other_outside advert wanted page plan goal lane is within other =
    let kept = kept_of advert page goal.control (wanted_of advert wanted.down plan) in
    let free : is_taken advert kept lane ≡ false =
    elim (cases_Bool (is_taken advert kept lane)) [
      | inl taken ↦ absurd (let both : true ≡ false = sym (in_plan advert (is_kept advert page goal.control) (wanted_of advert wanted.down plan) goal.lanes lane is.lanes within taken) ∙ other in cc)
      | inr free ↦ free
    ] in
    ap (λ (lanes : Lanes). set.contains lanes lane) is.outside ∙ contains_outside advert kept lane ∙ ap (λ (one : Bool). one && not (is_taken advert kept lane)) (every lane within) ∙ ap not free

goal_outside : (wanted : Wanted) (page : List ℕ) (advert : Advertised) (goal : Goal) (lane : ℕ) → HasGoal advert wanted page goal → IsLane lane → set.contains goal.lanes lane ≡ false → set.contains goal.outside lane ≡ true
goal_outside wanted page advert goal lane (plan, is) within other = other_outside advert wanted page plan goal lane is within other

-- ---- what the last reading permits

permits_outside : (goal : Goal) (lane : ℕ) → IsLane lane → set.contains goal.outside lane ≡ true → (history : History) (wanted : Wanted) → GivesProvisioning goal history wanted → GivesPermission lane history wanted
permits_outside goal lane within inside history wanted (image, was, of, may) = (image, was, of.page, of.there, outside_permits of.page goal.outside wanted.may_take_down lane may within inside)

permits_other : (goal : Goal) (lane : ℕ) → IsLane lane → set.contains goal.lanes lane ≡ false → (history : History) (wanted : Wanted) → GivesActivation goal history wanted → GivesPermission lane history wanted
permits_other goal lane within other history wanted (image, was, of, inl may) =
    (image, was, of.page, of.there, outside_permits of.page goal.outside wanted.may_take_down lane may within (goal_outside wanted of.page (advert_of wanted image) goal lane of.has within other))
permits_other goal lane within other history wanted (image, was, of, inr may) = (image, was, of.page, of.there, plan_permits of.page goal.lanes wanted.may_take_down lane may within other)

-- ---- the bits of stores

in_outside : (goal : Goal) (bits lane : ℕ) → bits ≡ byte_of goal.outside → IsLane lane → set.contains (lanes_in bits) lane ≡ true → set.contains goal.outside lane ≡ true
in_outside goal bits lane is within inside = sym (ap (λ (byte : ℕ). set.contains (lanes_in byte) lane) is ∙ in_byte_of goal.outside lane within) ∙ inside

pub not_in_plan : (goal : Goal) (bits lane : ℕ) → bits ≡ 255 - byte_of goal.lanes → IsLane lane → set.contains (lanes_in bits) lane ≡ true → set.contains goal.lanes lane ≡ false
not_in_plan goal bits lane is within inside =
    elim (cases_Bool (set.contains goal.lanes lane)) [
      | inl held ↦ absurd (let both : true ≡ false = sym inside ∙ ap (λ (byte : ℕ). set.contains (lanes_in byte) lane) is ∙ released goal.lanes lane within held in cc)
      | inr other ↦ other
    ]

provisioning_takes : (story : Story) (goal : Goal) (op : Op) → SinceRead (GivesProvisioning goal) story → IsStoreOf goal op → TakesPermitted story op
provisioning_takes story goal op since (inl deinit) = λ bits lane sets within inside.
    since_map (GivesProvisioning goal) (GivesPermission lane) (permits_outside goal lane within (in_outside goal bits lane (deinit_bits op bits (byte_of goal.outside) deinit sets) within inside)) story since
provisioning_takes story goal op since (inr (inl staged)) = λ bits lane sets within inside. absurd (staged_bits op bits goal.control staged sets)
provisioning_takes story goal op since (inr (inr (inl applies))) = λ bits lane sets within inside.
    since_map (GivesProvisioning goal) (GivesPermission lane) (permits_outside goal lane within (in_outside goal bits lane (apply_bits op bits (byte_of goal.outside) applies sets) within inside)) story since
provisioning_takes story goal op since (inr (inr (inr release))) = λ bits lane sets within inside.
    since_map (GivesProvisioning goal) (GivesPermission lane)
    (λ history wanted gives. permits_other goal lane within (not_in_plan goal bits lane (deinit_bits op bits (255 - byte_of goal.lanes) release sets) within inside) history wanted (gives.0, gives.1, gives.2, inl gives.3)) story since

activation_takes : (story : Story) (goal : Goal) → SinceRead (GivesActivation goal) story → TakesPermitted story (store_to registers.DPDeinit ((255 - byte_of goal.lanes) ∷ []))
activation_takes story goal since = λ bits lane sets within inside.
    since_map (GivesActivation goal) (GivesPermission lane)
    (permits_other goal lane within (not_in_plan goal bits lane (deinit_bits (store_to registers.DPDeinit ((255 - byte_of goal.lanes) ∷ [])) bits (255 - byte_of goal.lanes) refl sets) within inside)) story since

power_sets : (power : Power) (byte bits : ℕ) → Sets bits (set_controls (wanted_controls power byte)) → ⊥
power_sets power byte bits (inl sets) = let none : None ≡ Some bits = sets in cc
power_sets power byte bits (inr sets) = let none : None ≡ Some bits = sets in cc

fetch_sets : (op : Op) (bits : ℕ) → IsFetch op → Sets bits op → ⊥
fetch_sets (Fetch dev offset count) bits fetches (inl sets) = let none : None ≡ Some bits = sets in cc
fetch_sets (Fetch dev offset count) bits fetches (inr sets) = let none : None ≡ Some bits = sets in cc
fetch_sets (Store dev offset bytes) bits fetches sets = fetches

banked_sets : (page bits : ℕ) → Sets bits (selection BankAndPage page) → ⊥
banked_sets page bits (inl sets) = let none : None ≡ Some bits = sets in cc
banked_sets page bits (inr sets) = let none : None ≡ Some bits = sets in cc

alone_sets : (page bits : ℕ) → Sets bits (Store A0 127 (record { items = page % 256 ∷ [] })) → ⊥
alone_sets page bits (inl sets) = let none : None ≡ Some bits = sets in cc
alone_sets page bits (inr sets) = let none : None ≡ Some bits = sets in cc

selection_sets : (addressing : PageAddressing) (page bits : ℕ) → Sets bits (selection addressing page) → ⊥
selection_sets BankAndPage page bits = banked_sets page bits
selection_sets PageAlone page bits = by_selection (λ op. Sets bits op → ⊥) page (alone_sets page bits) (banked_sets page bits)

may_takes : (story : Story) (op : Op) → May (TakesPermitted story) (TakesPermitted story) op → TakesPermitted story op
may_takes story op (inl fetches) = λ bits lane sets within inside. absurd (fetch_sets op bits fetches sets)
may_takes story op (inr (inl (addressing, page, is))) = λ bits lane sets within inside. absurd (selection_sets addressing page bits (subst (λ (op : Op). Sets bits op) is sets))
may_takes story op (inr (inr (inl takes))) = takes
may_takes story op (inr (inr (inr takes))) = takes

-- ---- after a story

job_takes : (story : Story) (op : Op) (job : Job) → IsNamed story job → asked job ≡ Some op → May (TakesPermitted story) (TakesPermitted story) op
job_takes story op (jobs.Reading job woken) named asks = reading_may (TakesPermitted story) (TakesPermitted story) job op asks
job_takes story op (jobs.Waking job) named asks =
    power_may (TakesPermitted story) (TakesPermitted story) Awake job op named.0 (λ byte. λ bits lane sets within inside. absurd (power_sets Awake byte bits sets)) asks
job_takes story op (jobs.Sleeping job) named asks =
    power_may (TakesPermitted story) (TakesPermitted story) Asleep job op named.0 (λ byte. λ bits lane sets within inside. absurd (power_sets Asleep byte bits sets)) asks
job_takes story op (jobs.Provisioning job goal) named asks =
    procedure_may (TakesPermitted story) (TakesPermitted story) (provisioning_of goal) job op named.0
    (provisioning_may (TakesPermitted story) (TakesPermitted story) goal (λ op store. provisioning_takes story goal op named.1 store)) asks
job_takes story op (jobs.Activating job goal) named asks =
    procedure_may (TakesPermitted story) (TakesPermitted story) (activation_of goal) job op named.0
    (activation_may (TakesPermitted story) (TakesPermitted story) goal (activation_takes story goal named.1)) asks
job_takes story op (jobs.Confirming job) named asks = look_may (TakesPermitted story) (TakesPermitted story) job op asks
job_takes story op (jobs.Watching job) named asks = look_may (TakesPermitted story) (TakesPermitted story) job op asks

stage_takes : (story : Story) (op : Op) (stage : Stage) → IfWorking stage (IsNamed story) → asked_in stage ≡ Some op → TakesPermitted story op
stage_takes story op Absent named asks = absurd (let same = asks in cc)
stage_takes story op (Left reason) named asks = absurd (let same = asks in cc)
stage_takes story op (Working job) named asks = may_takes story op (job_takes story op job named asks)

pub at_takes : (story : Story) (port : Port) (op : Op) (now : ℕ) → IsAt story port → next_at port now ≡ nexts.Do op → TakesPermitted story op
at_takes story port op now at is =
    let (nothing, does) = asks_when port.outstanding port now op is in
    stage_takes story op port.stage (subst (λ (o : Outstanding). UnlessStale o (IfWorking port.stage (IsNamed story))) nothing at.named) (asks_in port.stage port now op does)
