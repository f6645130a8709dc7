-- No object of the JSON of plans, verdicts and faults has a key twice: the keys are tested, and the values' are.
use Rattle.std.proofs.Common.{◌≡◌, ℕ, Bool, true, false, not, ◌&&◌, List, [], ◌∷◌, ◌||◌, if◌then◌else◌, Option, Some, None, codes, map, drop, refl}
use Rattle.std.proofs.lemmas.Bool.{false≢true}
use Rattle.std.proofs.lemmas.Map.Made.{AllPairs-from_IsDistinct}
use Rattle.std.specs.List.{AllByRecursion, IsDistinct, list_all, range_with_len}
use Rattle.std.specs.Str.{bytes_eq}
use Rattle.std.specs.Cmp.Lexicographic.{bytes_decides}
use Rattle.json.specs.Json as json
use Rattle.json.specs.Json.{Json}
use Rattle.json.specs.Strict.{AreDistinct, HasUniqueKeys, ItemsHaveUniqueKeys}
use Rattle.json.specs.Word.{after_number}
use Rattle.applications.specs.Advertised.{Advertised}
use Rattle.applications.specs.AppWeights.{PathWeights}
use Rattle.control_sets.specs.ControlBytes.{control_bytes}
use Rattle.plan_certificate.specs.declared.path.Path.{Path}
use Rattle.plan_certificate.specs.Paths.{app_of}
use Rattle.report_entries.specs.EntryJson.{count_json, count_members, form_members, string_members}
use Rattle.plan_reports.specs.FaultJson.{code_members, fault_members, names_half, reason_json, reason_members, sentence_members, value_json, values_from, values_json, values_members}
use Rattle.report_entries.specs.JsonScalars.{is_read, scalar_json}
use Rattle.report_entries.specs.JsonTrees.{items_of}
use Rattle.plan_reports.specs.PlanJson.{control_members, host_run_members, kept_members, media_run_members, numbers_json, numbers_members, path_json, paths_json, paths_members, plan_members, weight_members}
use Rattle.report_entries.specs.Shown.{printable}
use Rattle.plan_reports.specs.UniqueKeys.{FaultsHaveUniqueKeys, PlansHaveUniqueKeys, VerdictsHaveUniqueKeys}
use Rattle.plan_reports.specs.VerdictJson.{boolean_members, good_json, bad_json, good_members, why_members}

-- both of two are true
parts : (x y : Bool) → (x && y) ≡ true → (x ≡ true) × (y ≡ true)
parts true true both = (refl, refl)
parts true false both = absurd (false≢true both)
parts false y both = absurd (false≢true both)

is_false : (x : Bool) → not x ≡ true → x ≡ false
is_false true h = absurd (false≢true h)
is_false false h = refl

-- a key is none of these
abbrev pub is_new : List ℕ → List (List ℕ) → Bool
is_new key ks = list_all (λ k. not (bytes_eq key k)) ks

-- each is none of those after it
abbrev pub are_new : List (List ℕ) → Bool
are_new [] = true
are_new (key ∷ ks) = is_new key ks && are_new ks

apart_from : (key : List ℕ) (ks : List (List ℕ)) → is_new key ks ≡ true → AllByRecursion (λ k. bytes_eq key k ≡ false) ks
apart_from key [] new = tt
apart_from key (k ∷ ks) new =
    let both = parts (not (bytes_eq key k)) (is_new key ks) new in
    (is_false (bytes_eq key k) both.0, apart_from key ks both.1)

distinct : (ks : List (List ℕ)) → are_new ks ≡ true → IsDistinct bytes_eq ks
unfolding IsDistinct
distinct [] new = tt
distinct (key ∷ ks) new =
    let both = parts (is_new key ks) (are_new ks) new in
    (apart_from key ks both.0, distinct ks both.1)

pub tested : (ks : List (List ℕ)) → are_new ks ≡ true → AreDistinct ks
tested ks new = AllPairs-from_IsDistinct bytes_decides ks (distinct ks new)

-- ---- values

items_unique : {A : Type 0} (f : A → Json) (one : (x : A) → HasUniqueKeys (f x)) (xs : List A) → ItemsHaveUniqueKeys (items_of (map f xs))
items_unique f one [] = tt
items_unique f one (x ∷ xs) = (one x, items_unique f one xs)

number_unique : (n : ℕ) → HasUniqueKeys (count_json n)
number_unique n = tt

numbers_unique : (numbers : List ℕ) → HasUniqueKeys (numbers_json numbers)
unfolding numbers_json
numbers_unique numbers = items_unique count_json number_unique numbers

path_unique : (advert : Advertised) (path : Path) → HasUniqueKeys (path_json advert path)
unfolding path_json host_run_members media_run_members numbers_members count_members
path_unique advert path =
    let app = app_of advert path in (tested (codes "app_number" ∷ codes "host_lane_numbers" ∷ codes "media_lane_numbers" ∷ []) refl, (tt, (numbers_unique (range_with_len path.host app.host_lanes), (numbers_unique (range_with_len path.media app.media_lanes), tt))))

paths_unique : (advert : Advertised) (paths : List Path) → HasUniqueKeys (paths_json advert paths)
unfolding paths_json
paths_unique advert paths = items_unique (path_json advert) (path_unique advert) paths

read_unique : (b : Bool) (text : List ℕ) → HasUniqueKeys (if b then json.number text else json.string text)
read_unique true text = tt
read_unique false text = tt

value_unique : (in_key : Bool) (word : List ℕ) → HasUniqueKeys (value_json in_key word)
unfolding value_json scalar_json
value_unique true word = tt
value_unique false word = read_unique (is_read (after_number (printable word))) (printable word)

values_unique : (in_key : Bool) (words : List (List ℕ)) → ItemsHaveUniqueKeys (items_of (values_from in_key words))
values_unique in_key [] = tt
values_unique in_key (word ∷ more) = (value_unique (in_key || names_half word) word, values_unique (in_key || names_half word) more)

reason_unique : (words : List (List ℕ)) (sentence : List ℕ) → HasUniqueKeys (reason_json words sentence)
unfolding reason_json code_members values_members values_json sentence_members string_members
reason_unique words sentence =
    (tested (codes "code" ∷ codes "values" ∷ codes "sentence" ∷ []) refl, (tt, (values_unique false (drop 1 words), (tt, tt))))

-- ---- documents

pub plans_unique : PlansHaveUniqueKeys
unfolding plan_members weight_members kept_members paths_members control_members numbers_members form_members count_members
plans_unique advert weights kept paths = (tested (codes "dovecounter" ∷ codes "weight" ∷ codes "kept_paths" ∷ codes "paths" ∷ codes "control_bytes" ∷ []) refl, (tt, (tt, (paths_unique advert kept, (paths_unique advert paths, (numbers_unique (control_bytes advert paths), tt))))))

pub faults_unique : FaultsHaveUniqueKeys
unfolding fault_members reason_members form_members count_members
faults_unique words sentence = (tested (codes "dovecounter" ∷ codes "fault" ∷ []) refl, (tt, (reason_unique words sentence, tt)))

good_unique : (first : Option Bool) (advert : Advertised) (weights : PathWeights) (kept paths : List Path) → HasUniqueKeys (good_json first advert weights kept paths)
unfolding good_members boolean_members plan_members weight_members kept_members paths_members control_members numbers_members form_members count_members
good_unique None advert weights kept paths = (tested (codes "dovecounter" ∷ codes "good" ∷ codes "weight" ∷ codes "kept_paths" ∷ codes "paths" ∷ codes "control_bytes" ∷ []) refl, (tt, (tt, (tt, (paths_unique advert kept, (paths_unique advert paths, (numbers_unique (control_bytes advert paths), tt)))))))
good_unique (Some is_first) advert weights kept paths = (tested (codes "dovecounter" ∷ codes "good" ∷ codes "first" ∷ codes "weight" ∷ codes "kept_paths" ∷ codes "paths" ∷ codes "control_bytes" ∷ []) refl, (tt, (tt, (tt, (tt, (paths_unique advert kept, (paths_unique advert paths, (numbers_unique (control_bytes advert paths), tt))))))))

bad_unique : (words : List (List ℕ)) (sentence : List ℕ) → HasUniqueKeys (bad_json words sentence)
unfolding good_members boolean_members why_members reason_members form_members count_members
bad_unique words sentence =
    (tested (codes "dovecounter" ∷ codes "good" ∷ codes "reason" ∷ []) refl, (tt, (tt, (reason_unique words sentence, tt))))

pub verdicts_unique : VerdictsHaveUniqueKeys
verdicts_unique = record { good = good_unique; bad = bad_unique }
