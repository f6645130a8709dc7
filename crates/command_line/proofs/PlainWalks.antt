-- What `clap` makes of a command's flags that take no word: after them it holds a row for each, and it refuses none.
use Rattle.std.proofs.Common.{◌≡◌, ◌∙◌, Bool, true, false, not, if◌then◌else◌, List, [], ◌∷◌, ◌++◌, Option, Some, None, map, find, fold, ap, ap₂, sym, refl, cond, subst}
use Rattle.std.specs.Prelude.{⊤, ◌&&◌, ◌||◌, codes, slice_get, option_and_then}
use Rattle.std.specs.List.{list_any}
use Rattle.std.specs.Str.{bytes_eq}
use Rattle.std.specs.Option.{option_map_or}
use Rattle.std.proofs.lemmas.Bool.{and_parts, both_ways, false_from_ne_true, not-true, or_parts}
use Rattle.std.proofs.lemmas.List.{append-nil, append_assoc, map-append}
use Rattle.std.proofs.lemmas.List.Folds.{find-append, list_any-append}
use Rattle.std.proofs.lemmas.Slice.Eq.{bytes_eq-Decides}
use Rattle.clap.specs.Faults.{default_fault, defaults_fault, given_default_fault, turn_fault, walk_fault}
use Rattle.clap.specs.Kinds.{Kinds, or_else}
use Rattle.clap.specs.Simple.{Shape, filled}
use Rattle.clap.specs.declared.builder.value_parser.Reading.{Reading}
use Rattle.clap.specs.declared.error.kind.ErrorKind.TheVariants.{ArgumentConflict}
use Rattle.clap.specs.Walk.{Row, Rule, Text, Walk, at_row, default_rows, has_row, idle, is_empty, more_values, reading_by, walked, with_default}
use Rattle.clap.specs.declared.parser.matches.ValueSource.TheVariants.{CommandLine, DefaultValue}
use Rattle.command_line.specs.GivenFlags.{FlagEntry, color_flag, flag_rule, flags_flag, is_given, label_flag, switch}
use Rattle.command_line.specs.PlainFlags.{are_switches, flag_word, gives, has_word, is_switch}

-- ---- the rows

-- of a flag that was given
abbrev given_row : Text → Row
given_row name = record { id = name; values = codes "true" ∷ []; count = None; source = Some CommandLine; reading = reading_by (filled (flag_rule (switch name))) }

abbrev pub given_rows : List Text → List Row
given_rows names = map given_row names

-- where no row has the id, the one that is missing comes last
last_row : (id : Text) (change : Row → List Row) (missing rows : List Row) → has_row id rows ≡ false → at_row id change missing rows ≡ rows ++ missing
last_row id change missing [] none = refl
last_row id change missing (r ∷ rows) none =
    let parts = or_parts (bytes_eq r.id id) (has_row id rows) none in
    rw parts.0 (ap (λ more. r ∷ more) (last_row id change missing rows parts.1))

not_there : (id : Text) (names : List Text) → list_any (λ m. bytes_eq (flag_word m) (flag_word id)) names ≡ false → has_row id (given_rows names) ≡ false
not_there id [] none = refl
not_there id (m ∷ names) none =
    let parts = or_parts (bytes_eq m id) (list_any (λ m. bytes_eq (flag_word m) (flag_word id)) names) none in
    rw parts.0 (not_there id names parts.1)

-- what `clap` makes of the rows where a flag is given
abbrev with_row : Text → List Row → List Row
with_row name rows = at_row name (more_values CommandLine (codes "true" ∷ [])) (given_row name ∷ []) (at_row name (λ _. []) [] rows)

one_row : (name : Text) (names : List Text) → has_row name (given_rows names) ≡ false → with_row name (given_rows names) ≡ given_rows (names ++ name ∷ [])
one_row name names none =
    let change = more_values CommandLine (codes "true" ∷ []) in
    ap (at_row name change (given_row name ∷ [])) (last_row name (λ _. []) [] (given_rows names) none ∙ append-nil (given_rows names))
    ∙ last_row name change (given_row name ∷ []) (given_rows names) none
    ∙ sym (map-append given_row names (name ∷ []))

-- ---- a word

-- the flags that take one
abbrev pub is_worded : Text → Bool
is_worded name = bytes_eq name color_flag || (bytes_eq name label_flag || bytes_eq name flags_flag)

-- where the walk stands after flags that gave these rows
abbrev with_rows : List Row → Walk
with_rows rows = record {
  held = record { rows = rows; pending = None; skip = 0 };
  waiting = idle;
  position = 1;
  is_trailing = false;
  stopped = None;
}

abbrev pub at : List Text → Walk
at names = with_rows (given_rows names)

-- what `clap` makes of a flag, and what it refuses, by the rows before it
pub record FlagTests : Type 0 where
  pub walk : List Row → Walk
  pub fault : List Row → Kinds
  pub worded : Bool

abbrev pub flag_tests : Shape → Text → FlagTests
flag_tests s name = record {
  walk = λ rows. walked s.rules [] (with_rows rows) (flag_word name);
  fault = λ rows. turn_fault s [] (with_rows rows) (flag_word name);
  worded = is_worded name;
}

-- of one that takes no word: it is refused where it has a row
abbrev fault_where : Bool → Kinds
fault_where there = or_else (or_else (if there && not false then ArgumentConflict ∷ [] else []) []) []

abbrev pub flag_wanted : Text → FlagTests
flag_wanted name = record {
  walk = λ rows. with_rows (with_row name rows);
  fault = λ rows. fault_where (has_row name rows);
  worded = false;
}

pub record IsSwitch (s : Shape) (word : Text) : Type 0 where
  pub name : Text
  pub is : word ≡ flag_word name
  pub tests : flag_tests s name ≡ flag_wanted name

-- ---- all of them

abbrev pub Apart : List Text → List Text → Type 0
Apart names [] = ⊤
Apart names (w ∷ ws) = (list_any (λ m. bytes_eq (flag_word m) w) names ≡ false) × Apart names ws

pub apart_none : (ws : List Text) → Apart [] ws
apart_none [] = tt
apart_none (w ∷ ws) = (refl, apart_none ws)

apart_more : (names : List Text) (n : Text) (ws : List Text) → Apart names ws → has_word ws (flag_word n) ≡ false → Apart (names ++ n ∷ []) ws
apart_more names n [] apart none = tt
apart_more names n (w ∷ ws) apart none =
    let parts = or_parts (bytes_eq (flag_word n) w) (has_word ws (flag_word n)) none in
    (rw (list_any-append (λ m. bytes_eq (flag_word m) w) names (n ∷ []), apart.0, parts.0) refl, apart_more names n ws apart.1 parts.1)

pub record Walked (s : Shape) (names words : List Text) : Type 0 where
  pub given : List Text
  pub are : words ≡ map flag_word given
  pub end : fold (walked s.rules []) (at names) words ≡ at (names ++ given)
  pub fault : walk_fault s [] (at names) words ≡ []
  pub alone : list_any is_worded given ≡ false

module _ (s : Shape) (flags : List FlagEntry) (each : (word : Text) → is_switch flags word ≡ true → IsSwitch s word) where
  pub walked_all : (names words : List Text) → are_switches flags words ≡ true → Apart names words → Walked s names words
  unfolding walk_fault
  walked_all names [] are apart = record { given = []; are = refl; end = ap at (sym (append-nil names)); fault = refl; alone = refl }
  walked_all names (w ∷ ws) are apart =
      let tests = and_parts (is_switch flags w && not (has_word ws w)) (are_switches flags ws) are in
      let first = and_parts (is_switch flags w) (not (has_word ws w)) tests.0 in
      let one = each w first.0 in
      let new : has_row one.name (given_rows names) ≡ false =
      not_there one.name names (ap (λ (x : Text). list_any (λ m. bytes_eq (flag_word m) x) names) (sym one.is) ∙ apart.0) in
      let none : has_word ws (flag_word one.name) ≡ false = ap (has_word ws) (sym one.is) ∙ not-true (has_word ws w) first.1 in
      let rest = walked_all (names ++ one.name ∷ []) ws tests.1 (apart_more names one.name ws apart.1 none) in
      let step : walked s.rules [] (at names) w ≡ at (names ++ one.name ∷ []) =
      ap (walked s.rules [] (at names)) one.is ∙ ap (λ (t : FlagTests). t.walk (given_rows names)) one.tests ∙ ap with_rows (one_row one.name names new) in
      let turn : turn_fault s [] (at names) w ≡ [] =
      ap (turn_fault s [] (at names)) one.is ∙ ap (λ (t : FlagTests). t.fault (given_rows names)) one.tests ∙ ap fault_where new in
      let alone : is_worded one.name ≡ false = ap (λ (t : FlagTests). t.worded) one.tests in
      record {
        given = one.name ∷ rest.given;
        are = ap₂ (λ (x : Text) (xs : List Text). x ∷ xs) one.is rest.are;
        end = ap (λ (v : Walk). fold (walked s.rules []) v ws) step ∙ rest.end ∙ ap at (append_assoc names (one.name ∷ []) rest.given);
        fault = ap₂ or_else turn (ap (λ (v : Walk). walk_fault s [] v ws) step ∙ rest.fault);
        alone = rw alone rest.alone;
      }

-- ---- defaults, of which none is given and none is of a flag that takes a word

abbrev is_true : Text → Bool
is_true value = bytes_eq value (codes "true")

abbrev pub found : Text → List Row → Option Row
found q rows = find (λ r. bytes_eq r.id q) rows

abbrev given_in : Option Row → Bool
given_in row = option_map_or is_true (option_and_then (λ r. slice_get r.values 0) row) false

-- the same flags are given, and none that takes a word is new
pub record SameGiven (old new : List Row) : Type 0 where
  pub given : (q : Text) → is_given q new ≡ is_given q old
  pub worded : (q : Text) → is_worded q ≡ true → found q old ≡ None → found q new ≡ None

one_more_given : (q : Text) (row : Row) (rows : List Row) → given_in (Some row) ≡ false → is_given q (rows ++ row ∷ []) ≡ is_given q rows
one_more_given q row [] not =
    elim (bytes_eq row.id q) as (λ b. given_in (cond b (Some row) None) ≡ false) [ true ↦ not | false ↦ refl ]
one_more_given q row (r ∷ rows) not =
    let rest = one_more_given q row rows not in
    elim (bytes_eq r.id q) as (λ b. given_in (cond b (Some r) (found q (rows ++ row ∷ []))) ≡ given_in (cond b (Some r) (found q rows))) [ true ↦ refl | false ↦ rest ]

one_more_worded : (q : Text) (row : Row) (rows : List Row) → bytes_eq row.id q ≡ false → found q rows ≡ None → found q (rows ++ row ∷ []) ≡ None
one_more_worded q row rows other none = rw (find-append (λ (r : Row). bytes_eq r.id q) rows (row ∷ []), none, other) refl

-- what has another id than one that takes a word
other_id : (id q : Text) → is_worded id ≡ false → is_worded q ≡ true → bytes_eq id q ≡ false
other_id id q is_not is = false_from_ne_true (bytes_eq id q) (λ same. both_ways (is_worded id) is_not (ap is_worded ((bytes_eq-Decides id q).0 same) ∙ is))

-- whether a default is given, or of a flag that takes a word, and what is refused of it
pub record RuleTests : Type 0 where
  pub counts : Bool
  pub fault : Kinds

abbrev counts_by : Text → List Text → Bool
counts_by id [] = false
counts_by id (v ∷ vs) = is_worded id || is_true v

abbrev pub rule_tests : Rule → RuleTests
rule_tests a = record { counts = counts_by a.id a.defaults; fault = if is_empty a.defaults then [] else given_default_fault a a.defaults }

abbrev pub rule_wanted : Rule → RuleTests
rule_wanted a = record { counts = false; fault = [] }

by_values : (rows : List Row) (id : Text) (how : Reading) (values : List Text) → counts_by id values ≡ false → has_row id rows ≡ false
    → SameGiven rows (default_rows id how values rows)
by_values rows id how [] harmless none = record { given = λ q. refl; worded = λ q is not. not }
by_values rows id how (v ∷ vs) harmless none =
    let row : Row = record { id = id; values = v ∷ vs; count = None; source = Some DefaultValue; reading = how } in
    let tests = or_parts (is_worded id) (is_true v) harmless in
    subst (λ (all : List Row). SameGiven rows all) (sym (last_row id (more_values DefaultValue (v ∷ vs)) (row ∷ []) rows none)) (record {
      given = λ q. one_more_given q row rows tests.1;
      worded = λ q is not. one_more_worded q row rows (other_id id q tests.0 is) not;
    })

with_one : (rows : List Row) (a : Rule) → rule_tests a ≡ rule_wanted a → SameGiven rows (with_default rows a) × (default_fault rows a ≡ [])
with_one rows a harmless =
    elim (has_row a.id rows) as (λ b. has_row a.id rows ≡ b → SameGiven rows (if b then rows else default_rows a.id (reading_by a) a.defaults rows)
    × ((if b || is_empty a.defaults then [] else given_default_fault a a.defaults) ≡ [])) [
      | true ↦ λ there. (record { given = λ q. refl; worded = λ q is not. not }, refl)
      | false ↦ λ none. (by_values rows a.id (reading_by a) a.defaults (ap (λ (t : RuleTests). t.counts) harmless) none, ap (λ (t : RuleTests). t.fault) harmless)
    ] refl

pub with_all : (rules : List Rule) (rows : List Row) → map rule_tests rules ≡ map rule_wanted rules
    → SameGiven rows (fold with_default rows rules) × (defaults_fault rows rules ≡ [])
unfolding defaults_fault
with_all [] rows harmless = (record { given = λ q. refl; worded = λ q is not. not }, refl)
with_all (a ∷ rules) rows harmless =
    let one = with_one rows a (cc) in
    let rest = with_all rules (with_default rows a) (cc) in
    (record { given = λ q. rest.0.given q ∙ one.0.given q; worded = λ q is not. rest.0.worded q is (one.0.worded q is not) }, ap₂ or_else one.1 rest.1)

-- ---- which are given

pub given_by_words : (q : Text) (names : List Text) → is_given q (given_rows names) ≡ gives (map flag_word names) q
given_by_words q [] = refl
given_by_words q (m ∷ names) =
    let rest = given_by_words q names in
    elim (bytes_eq m q) as (λ b. given_in (cond b (Some (given_row m)) (found q (given_rows names))) ≡ (b || gives (map flag_word names) q)) [ true ↦ refl | false ↦ rest ]

pub not_worded : (q : Text) (names : List Text) → is_worded q ≡ true → list_any is_worded names ≡ false → found q (given_rows names) ≡ None
not_worded q [] is none = refl
not_worded q (m ∷ names) is none =
    let parts = or_parts (is_worded m) (list_any is_worded names) none in
    rw (other_id m q parts.0 is) (not_worded q names is parts.1)
