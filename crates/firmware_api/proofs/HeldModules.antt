-- Simulated modules of which C keeps what changes: why there is none, and what an event makes of the numbers.
use Rattle.std.proofs.Common.{◌≡◌, List, Option, Some, None, Result, Ok, Err, refl, ap, sym, subst, ◌∙◌}
use Rattle.std.specs.Prelude.{IfOk, MatchOption}
use Rattle.std.specs.Option.{option_map, option_or}
use Rattle.std.proofs.lemmas.Option.{none-some}
use Rattle.paged_memory.specs.Images.{Memory}
use Rattle.applications.specs.Advertised.{Advertised}
use Rattle.applications.specs.Refusals.{advert_fault}
use Rattle.applications.specs.declared.fault.AdvertFault.{AdvertFault}
use Rattle.sim_module.specs.declared.delays.Delays.{Delays}
use Rattle.sim_module.specs.declared.fault.SimFault.{SimFault}
use Rattle.sim_module.specs.declared.fixed.Fixed.{Fixed}
use Rattle.sim_module.specs.declared.module.SimModule.{SimModule}
use Rattle.sim_module.specs.declared.moving.Moving.{Moving}
use Rattle.sim_module.specs.declared.saved.SavedModule.{SavedModule}
use Rattle.sim_module.specs.Lanes.{active_bytes}
use Rattle.sim_module.specs.OwnAdverts.{own_advert}
use Rattle.sim_module.specs.Record.{bare, module_of}
use Rattle.sim_module.specs.SavedModules.{restored}
use Rattle.sim_module.specs.Starts.{start, start_fault}
use Rattle.firmware_api.specs.declared.half.HalfBytes.{HalfBytes}
use Rattle.firmware_api.specs.declared.status.Refusal.{Refusal}
use Rattle.firmware_api.specs.declared.status.Refusal.TheVariants.{NoStart, NoModule}
use Rattle.firmware_api.specs.Halves.{memory_of}
use Rattle.firmware_api.specs.SimulatedModules.{begun, simulated_refusal, held, held_by, module_in, unless_refused}
use Rattle.firmware_api.proofs.SavedLaws.{same_some}
use Rattle.firmware_api.proofs.StatusLaws.{same_ok}

pub when_ok : {A : Type 0} (r : Result A Refusal) (value : A) (P : A → Type 0) → r ≡ Ok value → P value → IfOk r P
when_ok {A = A} r value P is holds = subst (λ (r : Result A Refusal). IfOk r P) (sym is) holds

-- ---- a module at the start

-- its fault as a refusal
abbrev pub passed : Result SimModule SimFault → Result SimModule Refusal
passed (Ok sim) = Ok sim
passed (Err fault) = Err (NoStart fault)

passes : (refusal : Option Refusal) (fault : Option SimFault) (made : Result SimModule SimFault) (sim : SimModule) → refusal ≡ None →
    MatchOption fault (made ≡ Ok sim) (λ f. made ≡ Err f) → unless_refused (option_or refusal (option_map NoStart fault)) sim ≡ passed made
passes None None made sim none is = sym (ap passed is)
passes None (Some fault) made sim none is = sym (ap passed is)
passes (Some refusal) fault made sim none is = cc

abbrev IsNew : Memory → Delays → Result SimModule SimFault → Type 0
IsNew memory delays made = MatchOption (start_fault memory delays) (made ≡ Ok (start memory delays)) (λ fault. made ≡ Err fault)

pub begun_is : (halves : List HalfBytes) (delays : Delays) (image : Memory) (made : Result SimModule SimFault) → simulated_refusal halves ≡ None →
    image ≡ memory_of halves → IsNew image delays made → begun halves delays ≡ passed made
begun_is halves delays image made none same new =
    passes (simulated_refusal halves) (start_fault (memory_of halves) delays) made (start (memory_of halves) delays) none (subst (λ (memory : Memory). IsNew memory delays made) same new)

-- ---- a module with its numbers

abbrev pub module_or : Option SimModule → Result SimModule Refusal
module_or None = Err NoModule
module_or (Some sim) = Ok sim

tells : (sim : Option SimModule) → held_by None None sim ≡ module_or sim
tells None = refl
tells (Some sim) = refl

held_with : (refusal : Option Refusal) (fault : Option AdvertFault) (read : Result Advertised AdvertFault) (right advert : Advertised)
    (sim : Advertised → Option SimModule) → refusal ≡ None → MatchOption fault (read ≡ Ok right) (λ f. read ≡ Err f) → read ≡ Ok advert →
    held_by refusal fault (sim right) ≡ module_or (sim advert)
held_with None None read right advert sim none reads is = tells (sim right) ∙ ap (λ (a : Advertised). module_or (sim a)) (same_ok right advert (sym reads ∙ is))
held_with None (Some fault) read right advert sim none reads is = cc
held_with (Some refusal) fault read right advert sim none reads is = cc

abbrev IsRead : Memory → Result Advertised AdvertFault → Type 0
IsRead memory read = MatchOption (advert_fault memory) (read ≡ Ok (own_advert memory)) (λ fault. read ≡ Err fault)

pub held_is : (halves : List HalfBytes) (numbers : SavedModule) (image : Memory) (read : Result Advertised AdvertFault) (advert : Advertised)
    (sim : Option SimModule) → simulated_refusal halves ≡ None → image ≡ memory_of halves → IsRead image read → read ≡ Ok advert →
    sim ≡ module_in (record { image = image; advert = advert }) numbers → held halves numbers ≡ module_or sim
held_is halves numbers image read advert sim none same advertises is made =
    held_with (simulated_refusal halves) (advert_fault (memory_of halves)) read (own_advert (memory_of halves)) advert
    (λ a. module_in (record { image = memory_of halves; advert = a }) numbers) none (subst (λ (memory : Memory). IsRead memory read) same advertises) is
    ∙ ap (λ (memory : Memory). module_or (module_in (record { image = memory; advert = advert }) numbers)) (sym same)
    ∙ ap module_or (sym made)

-- ---- numbers alone

-- an event that takes a module to another one
pub made_by : (event : SimModule → SimModule) (old new : SavedModule) (before after : Moving) → restored old ≡ Some before → restored new ≡ Some after →
    ((fixed : Fixed) → module_of fixed after ≡ event (module_of fixed before)) → (fixed : Fixed) → module_in fixed new ≡ option_map event (module_in fixed old)
made_by event old new before after was is happens fixed =
    ap (option_map (module_of fixed)) is ∙ ap (λ (sim : SimModule). Some sim) (happens fixed)
    ∙ sym (ap (λ (moving : Option Moving). option_map event (option_map (module_of fixed) moving)) was)

pub none_by : (event : SimModule → SimModule) (numbers : SavedModule) → restored numbers ≡ None → (fixed : Fixed) → module_in fixed numbers ≡ option_map event (module_in fixed numbers)
none_by event numbers none fixed =
    ap (option_map (module_of fixed)) none ∙ sym (ap (λ (moving : Option Moving). option_map event (option_map (module_of fixed) moving)) none)

pub active_in : (numbers : SavedModule) (moving : Moving) → restored numbers ≡ Some moving → (fixed : Fixed) (sim : SimModule) → module_in fixed numbers ≡ Some sim →
    active_bytes (bare moving) ≡ active_bytes sim
active_in numbers moving is fixed sim made =
    ap active_bytes (same_some (module_of fixed moving) sim (sym (ap (option_map (module_of fixed)) is) ∙ made))

pub no_active : (numbers : SavedModule) (fixed : Fixed) (sim : SimModule) → restored numbers ≡ None → module_in fixed numbers ≡ Some sim → ⊥
no_active numbers fixed sim none made = none-some sim (sym (ap (option_map (module_of fixed)) none) ∙ made)
