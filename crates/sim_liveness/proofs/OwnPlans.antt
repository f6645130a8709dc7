-- What a host reads of the Applications of a module and what the module itself goes by agree on the Applications that a plan uses.
use Rattle.std.proofs.Common.{◌≡◌, ℕ, zero, suc, ◌+◌, ◌≤◌, ◌&&◌, ◌==◌, Bool, true, false, cond, if◌then◌else◌, List, [], ◌∷◌, Option, Some, None, find, get_or, length, map, refl, sym, ap, subst, ◌∙◌, arith}
use Rattle.std.specs.Option.{unwrap_or}
use Rattle.std.specs.List.{range_with_len}
use Rattle.std.specs.Prelude.{take_while}
use Rattle.std.proofs.lemmas.Bool.{and_from, and_parts, leb-true}
use Rattle.std.proofs.lemmas.Bool.Decides.{nat_tests}
use Rattle.std.proofs.lemmas.List.{length-map}
use Rattle.std.proofs.lemmas.List.Sums.{take_while-cons}
use Rattle.paged_memory.specs.Images.{Memory}
use Rattle.field_tables.specs.declared.field.Field.TheVariants as fields
use Rattle.field_tables.specs.declared.table.cmis.CmisField.TheVariants as cmis
use Rattle.field_tables.specs.Readings.{number}
use Rattle.applications.specs.declared.app.App.{App}
use Rattle.applications.specs.declared.conventions.Conventions.{Conventions}
use Rattle.applications.specs.Advertised.{Advertised, InOrder, advertised_under}
use Rattle.applications.specs.CountsById.{count_by, counted}
use Rattle.applications.specs.Descriptors.{app_at, apps_of, is_listed}
use Rattle.applications.specs.Usable.{is_usable}
use Rattle.interface_lanes.specs.LanesById.{host_lanes_by_id, media_lanes_by_id}
use Rattle.plan_certificate.specs.declared.path.Path.{Path}
use Rattle.plan_certificate.specs.Paths.{app_of, has_number, is_allowed, no_app}
use Rattle.plan_certificate.specs.Plans.{IsAdmissible}
use Rattle.control_sets.proofs.ToldLanes.{IsPlan}
use Rattle.sim_module.specs.Applies.{app_numbered, is_numbered}
use Rattle.sim_module.specs.OwnAdverts.{own_advert}

-- ---- numbers

abbrev number_of : App → ℕ
number_of app = app.number

at_number : (memory : Memory) (n : ℕ) → (app_at memory n).number ≡ n
unfolding app_at
at_number memory n = refl

abbrev InOrderFrom : ℕ → List App → Type 0
InOrderFrom first apps = map number_of apps ≡ range_with_len first (length apps)

listed_if : (memory : Memory) (first : ℕ) (rest : List App) (listed : Bool) → InOrderFrom (first + 1) rest → InOrderFrom first (cond listed (app_at memory first ∷ rest) [])
listed_if memory first rest true order = λ i. at_number memory first i ∷ order i
listed_if memory first rest false order = refl

listed_order : (memory : Memory) (first count : ℕ) → InOrderFrom first (take_while is_listed (map (app_at memory) (range_with_len first count)))
listed_order memory first zero = refl
listed_order memory first (suc count) =
    let rest = map (app_at memory) (range_with_len (first + 1) count) in
    subst (InOrderFrom first) (sym (take_while-cons is_listed (app_at memory first) rest))
    (listed_if memory first (take_while is_listed rest) (is_listed (app_at memory first)) (listed_order memory (first + 1) count))

few_if : (first : App) (rest : List App) (count : ℕ) (listed : Bool) → length rest ≤ count → length (cond listed (first ∷ rest) []) ≤ suc count
few_if first rest count true few = omega (arith, few)
few_if first rest count false few = omega arith

listed_few : (memory : Memory) (first count : ℕ) → length (take_while is_listed (map (app_at memory) (range_with_len first count))) ≤ count
listed_few memory first zero = omega arith
listed_few memory first (suc count) =
    let rest = map (app_at memory) (range_with_len (first + 1) count) in
    subst (λ (apps : List App). length apps ≤ suc count) (sym (take_while-cons is_listed (app_at memory first) rest))
    (few_if (app_at memory first) (take_while is_listed rest) count (is_listed (app_at memory first)) (listed_few memory (first + 1) count))

read_order : (memory : Memory) → InOrder (apps_of memory)
unfolding apps_of
read_order memory = listed_order memory 1 15

read_few : (memory : Memory) → length (apps_of memory) ≤ 15
unfolding apps_of
read_few memory = listed_few memory 1 15

same_numbers : (media_type : ℕ) (apps : List App) → map number_of (map (counted media_type) apps) ≡ map number_of apps
same_numbers media_type [] = refl
same_numbers media_type (app ∷ apps) = ap (λ (ns : List ℕ). app.number ∷ ns) (same_numbers media_type apps)

abbrev apps_by : Bool → ℕ → List App → List App
apps_by by_id media_type apps = if by_id then map (counted media_type) apps else apps

order_by : (by_id : Bool) (media_type : ℕ) (apps : List App) → InOrder apps → InOrder (apps_by by_id media_type apps)
order_by true media_type apps order = same_numbers media_type apps ∙ order ∙ ap (range_with_len 1) (sym (length-map apps (counted media_type)))
order_by false media_type apps order = order

few_by : (by_id : Bool) (media_type : ℕ) (apps : List App) → length apps ≤ 15 → length (apps_by by_id media_type apps) ≤ 15
few_by true media_type apps few = omega (arith, few, length-map apps (counted media_type))
few_by false media_type apps few = few

under_by : (conventions : Conventions) (memory : Memory) (by_id : Bool) → conventions.counts_by_id ≡ by_id → (advertised_under conventions memory).apps ≡ apps_by by_id (number memory (fields.Cmis cmis.MediaType)) (apps_of memory)
under_by conventions memory true is = ap (λ (by_id : Bool). (advertised_under (record conventions { counts_by_id = by_id }) memory).apps) is
under_by conventions memory false is = ap (λ (by_id : Bool). (advertised_under (record conventions { counts_by_id = by_id }) memory).apps) is

read_apps : (conventions : Conventions) (memory : Memory) → (advertised_under conventions memory).apps ≡ apps_by conventions.counts_by_id (number memory (fields.Cmis cmis.MediaType)) (apps_of memory)
read_apps conventions memory = under_by conventions memory conventions.counts_by_id refl ∙ refl

pub plan_read : (conventions : Conventions) (memory : Memory) (paths : List Path) → IsAdmissible (advertised_under conventions memory) paths → IsPlan (advertised_under conventions memory) paths
plan_read conventions memory paths admissible = record {
  in_order = subst InOrder (sym (read_apps conventions memory)) (order_by conventions.counts_by_id (number memory (fields.Cmis cmis.MediaType)) (apps_of memory) (read_order memory));
  few = subst (λ (apps : List App). length apps ≤ 15) (sym (read_apps conventions memory)) (few_by conventions.counts_by_id (number memory (fields.Cmis cmis.MediaType)) (apps_of memory) (read_few memory));
  admissible = admissible;
}

-- ---- no Application is numbered 0

abbrev tail : List ℕ → List ℕ
tail [] = []
tail (n ∷ ns) = ns

none_from : (apps : List App) (first : ℕ) → 1 ≤ first → InOrderFrom first apps → find (is_numbered 0) apps ≡ None
none_from [] first some order = refl
none_from (app ∷ apps) first some order =
    let here : app.number ≡ first = ap (λ (ns : List ℕ). get_or ns 0 0) order in
    let rest : InOrderFrom (first + 1) apps = ap (λ (ns : List ℕ). tail ns) order in
    let not_zero : (app.number == 0) ≡ false = grind (arith, nat_tests, here, some) in
    ap (λ (is : Bool). cond (is && is_usable app) (Some app) (find (is_numbered 0) apps)) not_zero ∙ none_from apps (first + 1) (omega arith) rest

pub no_app_0 : (memory : Memory) → app_numbered (own_advert memory) 0 ≡ None
no_app_0 memory = none_from (own_advert memory).apps 1 (omega arith) (order_by true (number memory (fields.Cmis cmis.MediaType)) (apps_of memory) (read_order memory))

-- ---- the Applications that a path uses

count_stays : (implied : Option ℕ) (count : ℕ) → 1 ≤ count → count_by implied count ≡ count
count_stays implied count some =
    let not_zero : (count == 0) ≡ false = grind (arith, nat_tests, some) in
    ap (λ (is : Bool). if is then unwrap_or implied 0 else count) not_zero

record HasCounts (app : App) : Type 0 where
  host : 1 ≤ app.host_lanes
  media : 1 ≤ app.media_lanes

has_counts : (app : App) → is_usable app ≡ true → HasCounts app
has_counts app usable =
    let parts = and_parts _ _ usable in
    record { host = leb-true _ _ (and_parts _ _ parts.0).0; media = leb-true _ _ (and_parts _ _ parts.1).0 }

counted_same : (media_type : ℕ) (app : App) → is_usable app ≡ true → counted media_type app ≡ app
counted_same media_type app usable =
    let has = has_counts app usable in
    let host = count_stays (host_lanes_by_id app.host_id) app.host_lanes has.host in
    let media = count_stays (media_lanes_by_id media_type app.media_id) app.media_lanes has.media in
    (λ i. record { number = app.number; host_id = app.host_id; media_id = app.media_id; host_lanes = host i; media_lanes = media i; host_starts = app.host_starts; media_starts = app.media_starts })

some_same : (a b : App) → Some a ≡ Some b → a ≡ b
some_same a b same = cc

-- the first Application of a number, if it is usable, is the first usable one of the number
first_usable : (n : ℕ) (apps : List App) (app : App) → find (λ (a : App). a.number == n) apps ≡ Some app → is_usable app ≡ true → find (is_numbered n) apps ≡ Some app
first_usable n [] app is usable = absurd cc
first_usable n (one ∷ apps) app is usable = by (λ rest. first_usable n apps app rest usable) (one.number == n) refl where
  by : (find (λ (a : App). a.number == n) apps ≡ Some app → find (is_numbered n) apps ≡ Some app) → (here : Bool) → (one.number == n) ≡ here → find (is_numbered n) (one ∷ apps) ≡ Some app
  by again true e =
      let same : one ≡ app = some_same one app (sym (ap (λ (b : Bool). cond b (Some one) (find (λ (a : App). a.number == n) apps)) e) ∙ is) in
      let good : (one.number == n && is_usable one) ≡ true = and_from _ _ e (ap is_usable same ∙ usable) in
      ap (λ (b : Bool). cond b (Some one) (find (is_numbered n) apps)) good ∙ ap (λ (a : App). Some a) same
  by again false e =
      let rest : find (λ (a : App). a.number == n) apps ≡ Some app = sym (ap (λ (b : Bool). cond b (Some one) (find (λ (a : App). a.number == n) apps)) e) ∙ is in
      ap (λ (b : Bool). cond (b && is_usable one) (Some one) (find (is_numbered n) apps)) e ∙ again rest

-- also among those with the counts that the interface IDs imply
first_counted : (media_type n : ℕ) (apps : List App) (app : App) → find (λ (a : App). a.number == n) apps ≡ Some app → is_usable app ≡ true → find (λ (a : App). a.number == n) (map (counted media_type) apps) ≡ Some app
first_counted media_type n [] app is usable = absurd cc
first_counted media_type n (one ∷ apps) app is usable = by (λ rest. first_counted media_type n apps app rest usable) (one.number == n) refl where
  by : (find (λ (a : App). a.number == n) apps ≡ Some app → find (λ (a : App). a.number == n) (map (counted media_type) apps) ≡ Some app) → (here : Bool) → (one.number == n) ≡ here → find (λ (a : App). a.number == n) (map (counted media_type) (one ∷ apps)) ≡ Some app
  by again true e =
      let same : one ≡ app = some_same one app (sym (ap (λ (b : Bool). cond b (Some one) (find (λ (a : App). a.number == n) apps)) e) ∙ is) in
      ap (λ (b : Bool). cond b (Some (counted media_type one)) (find (λ (a : App). a.number == n) (map (counted media_type) apps))) e
      ∙ ap (λ (a : App). Some a) (ap (counted media_type) same ∙ counted_same media_type app usable)
  by again false e =
      let rest : find (λ (a : App). a.number == n) apps ≡ Some app = sym (ap (λ (b : Bool). cond b (Some one) (find (λ (a : App). a.number == n) apps)) e) ∙ is in
      ap (λ (b : Bool). cond b (Some (counted media_type one)) (find (λ (a : App). a.number == n) (map (counted media_type) apps))) e ∙ again rest

own_by : (by_id : Bool) (media_type n : ℕ) (apps : List App) (app : App) → find (λ (a : App). a.number == n) (apps_by by_id media_type apps) ≡ Some app → is_usable app ≡ true
    → find (is_numbered n) (map (counted media_type) apps) ≡ Some app
own_by true media_type n apps app is usable = first_usable n (map (counted media_type) apps) app is usable
own_by false media_type n apps app is usable = first_usable n (map (counted media_type) apps) app (first_counted media_type n apps app is usable) usable

usable_of : (advert : Advertised) (path : Path) → is_allowed advert path ≡ true → is_usable (app_of advert path) ≡ true
unfolding is_allowed
usable_of advert path allowed = (and_parts _ _ (and_parts _ _ (and_parts _ _ (and_parts _ _ allowed).0).0).0).0

usable_found : (found : Option App) → is_usable (unwrap_or found no_app) ≡ true → found ≡ Some (unwrap_or found no_app)
usable_found None usable = absurd (let wrong : false ≡ true = usable in cc)
usable_found (Some app) usable = refl

app_found : (advert : Advertised) (path : Path) → is_usable (app_of advert path) ≡ true → find (has_number path) advert.apps ≡ Some (app_of advert path)
unfolding app_of
app_found advert path usable = usable_found (find (has_number path) advert.apps) usable

-- the module's own Application of an allowed path's number is the one that the host goes by
pub own_app : (conventions : Conventions) (memory : Memory) (path : Path) → is_allowed (advertised_under conventions memory) path ≡ true
    → app_numbered (own_advert memory) path.app ≡ Some (app_of (advertised_under conventions memory) path)
own_app conventions memory path allowed =
    let advert = advertised_under conventions memory in
    let usable = usable_of advert path allowed in
    own_by conventions.counts_by_id (number memory (fields.Cmis cmis.MediaType)) path.app (apps_of memory) (app_of advert path)
    (ap (λ (apps : List App). find (has_number path) apps) (sym (read_apps conventions memory)) ∙ app_found advert path usable) usable
