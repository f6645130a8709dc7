-- Which refusal comes first of halves, and what is read of them where none does.
use Rattle.std.proofs.Common.{◌≡◌, ℕ, ◌<◌, ◌≤◌, Bool, true, false, List, length, Option, Some, None, Result, Ok, Err, refl, ap, subst, not, if◌then◌else◌, nat_lt}
use Rattle.std.specs.Prelude.{MatchOption}
use Rattle.std.specs.List.{list_all}
use Rattle.std.specs.Option.{option_map}
use Rattle.std.proofs.lemmas.Bool.{le-ltb, lt-ltb, ltb-false}
use Rattle.paged_memory.specs.Images.{Memory}
use Rattle.applications.specs.Advertised.{Advertised, advertised_by, advertised_under}
use Rattle.applications.specs.declared.conventions.Conventions.{Conventions}
use Rattle.applications.specs.Refusals.{advert_fault_under}
use Rattle.applications.specs.declared.fault.AdvertFault.{AdvertFault}
use Rattle.firmware_api.specs.declared.half.HalfBytes.{HalfBytes}
use Rattle.firmware_api.specs.declared.status.Refusal.{Refusal}
use Rattle.firmware_api.specs.declared.status.Refusal.TheVariants.{TooManyHalves, NoPlace, Advert}
use Rattle.firmware_api.specs.Halves.{advert_of, as_it_stands, has_place, memory_of, module_refusal, refusal_under}
use Rattle.firmware_api.specs.Statuses.{advert_status, status_of}

pub too_many : (conventions : Conventions) (halves : List HalfBytes) → 16 < length halves → refusal_under conventions halves ≡ Some TooManyHalves
unfolding refusal_under
too_many conventions halves more = let many : nat_lt 16 (length halves) ≡ true = lt-ltb 16 (length halves) more in rw many refl

pub no_place : (conventions : Conventions) (halves : List HalfBytes) → length halves ≤ 16 → list_all has_place halves ≡ false → refusal_under conventions halves ≡ Some NoPlace
unfolding refusal_under
no_place conventions halves few some = let fits : nat_lt 16 (length halves) ≡ false = le-ltb 16 (length halves) few in rw (fits, some) refl

pub placed : (conventions : Conventions) (halves : List HalfBytes) → length halves ≤ 16 → list_all has_place halves ≡ true →
    refusal_under conventions halves ≡ option_map Advert (advert_fault_under conventions (memory_of halves))
unfolding refusal_under
placed conventions halves few all = let fits : nat_lt 16 (length halves) ≡ false = le-ltb 16 (length halves) few in rw (fits, all) refl

-- what the module says, or the status of its fault
abbrev pub passed : Result Advertised AdvertFault → Result Advertised ℕ
passed (Ok advert) = Ok advert
passed (Err fault) = Err (advert_status fault)

passes_on : (fault : Option AdvertFault) (read : Result Advertised AdvertFault) (advert : Advertised) →
    MatchOption fault (read ≡ Ok advert) (λ f. read ≡ Err f) →
    MatchOption (option_map Advert fault) (passed read ≡ Ok advert) (λ refusal. passed read ≡ Err (status_of refusal))
passes_on None read advert answers = ap passed answers
passes_on (Some fault) read advert answers = ap passed answers

abbrev pub IsRead : Conventions → Result Advertised AdvertFault → Memory → Type 0
IsRead conventions read memory = MatchOption (advert_fault_under conventions memory) (read ≡ Ok (advertised_under conventions memory)) (λ fault. read ≡ Err fault)

abbrev pub IsPassed : Conventions → Result Advertised ℕ → List HalfBytes → Type 0
IsPassed conventions told halves = MatchOption (refusal_under conventions halves) (told ≡ Ok (advert_of halves conventions)) (λ refusal. told ≡ Err (status_of refusal))

pub reads : (conventions : Conventions) (halves : List HalfBytes) (memory : Memory) (read : Result Advertised AdvertFault) → length halves ≤ 16 → list_all has_place halves ≡ true →
    memory ≡ memory_of halves → IsRead conventions read memory → IsPassed conventions (passed read) halves
reads conventions halves memory read few all same is =
    rw (placed conventions halves few all) (passes_on (advert_fault_under conventions (memory_of halves)) read (advert_of halves conventions) (subst (IsRead conventions read) same is))

few : (halves : List HalfBytes) → module_refusal halves ≡ None → length halves ≤ 16
unfolding refusal_under
few halves none = by (nat_lt 16 (length halves)) (if not (list_all has_place halves) then Some NoPlace else option_map Advert (advert_fault_under as_it_stands (memory_of halves))) refl none where
  by : (many : Bool) (later : Option Refusal) → nat_lt 16 (length halves) ≡ many → (if many then Some TooManyHalves else later) ≡ None → length halves ≤ 16
  by true later e none = absurd (let same = none in cc)
  by false later e none = ltb-false 16 (length halves) e

few_by : (halves : List HalfBytes) (advert : Advertised) (found : Option Refusal) → module_refusal halves ≡ found →
    MatchOption found (◌≡◌ {A = Result Advertised ℕ} (Ok advert) (Ok (advertised_by (memory_of halves)))) (λ refusal. ◌≡◌ {A = Result Advertised ℕ} (Ok advert) (Err (status_of refusal))) → length halves ≤ 16
few_by halves advert None e read = few halves e
few_by halves advert (Some refusal) e read = absurd (let same = read in cc)

-- of halves that a module's Applications were read of
pub few_if_read : (halves : List HalfBytes) (advert : Advertised)
    → MatchOption (module_refusal halves) (◌≡◌ {A = Result Advertised ℕ} (Ok advert) (Ok (advertised_by (memory_of halves)))) (λ refusal. ◌≡◌ {A = Result Advertised ℕ} (Ok advert) (Err (status_of refusal)))
    → length halves ≤ 16
few_if_read halves advert read = few_by halves advert (module_refusal halves) refl read
