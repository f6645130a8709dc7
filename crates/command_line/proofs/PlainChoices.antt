-- A command's name, with flags of its own that take no word, is taken by `clap`, and chooses that command with these flags.
use Rattle.std.proofs.Common.{◌≡◌, ◌∙◌, Bool, true, false, if◌then◌else◌, List, [], ◌∷◌, Option, Some, None, Ok, Result, is_some, map, fold, option_map, ap, ap₂, sym, refl}
use Rattle.std.specs.Prelude.{◌&&◌, ◌||◌, slice_get, option_and_then, unwrap_or}
use Rattle.std.specs.Str.{bytes_eq}
use Rattle.std.proofs.lemmas.Bool.{and_parts}
use Rattle.std.proofs.lemmas.Slice.Eq.{bytes_eq-Decides}
use Rattle.clap.specs.Faults.{built_fault, check_fault, defaults_fault, entered_fault, level_fault, settle_fault, turn_fault, walk_fault}
use Rattle.clap.specs.Kinds.{Kinds, or_else}
use Rattle.clap.specs.Simple.{Shape, argument_words, built, built_leaf, entered, inherited, marked_built, names_of, with_leaf_noted}
use Rattle.clap.specs.Walk.{Row, Text, Walk, finished, nothing_held, rows_after, settled, stop_after, walk, walk_from, walked, with_default}
use Rattle.clap.proofs.FaultLemmas.{stopped_fault}
use Rattle.clap.proofs.OnLiterals.{clap_on_literals}
use Rattle.clap.proofs.WalkLemmas.{walk_stopped}
use Rattle.command_line.specs.Choice.{IsRequestOf, Entry, command_app, commands, entry_named, faults_of, program, request_in, request_of, request_with}
use Rattle.command_line.specs.Coloring.{coloring_by}
use Rattle.command_line.specs.GivenFlags.{FlagEntry, color_flag, flags_flag, is_given, label_flag}
use Rattle.command_line.specs.Options.{all_by, labels_with, options_by, options_in, then_with}
use Rattle.command_line.specs.PlainFlags.{are_switches, flag_word, gives, is_switch, takes_nothing}
use Rattle.command_line.specs.declared.choice.coloring.Coloring.TheVariants.{Auto}
use Rattle.command_line.specs.declared.choice.commands.Request.{Request}
use Rattle.command_line.specs.declared.choice.options.Options.{Options}
use Rattle.command_line.specs.declared.choice.word_fault.WordFault.{WordFault}
use Rattle.control_sets.proofs.Finding as finding
use Rattle.command_line.proofs.CommandLineLemmas.{same_at_found}
use Rattle.command_line.proofs.PlainWalks.{FlagTests, IsSwitch, RuleTests, SameGiven, Walked, apart_none, flag_tests, flag_wanted, found, given_by_words, given_rows, is_worded, not_worded, rule_tests, rule_wanted, walked_all, with_all}

its_name : (name : Text) (entry : Entry) → entry_named name ≡ Some entry → name ≡ entry.name
its_name name entry met = sym ((bytes_eq-Decides entry.name name).0 (finding.found (λ (e : Entry). bytes_eq e.name name) commands entry met).1)

-- ---- the table, computed

abbrev top : Shape
top = (built program).top

-- a command as `clap` builds it
abbrev leaf : Entry → Shape
leaf entry = built_leaf (inherited (with_leaf_noted (marked_built program.top)) (command_app entry).top)

abbrev start : Walk
start = walk_from nothing_held

abbrev stopped_at : Text → List Text → Walk
stopped_at name words = record start { stopped = Some (name, words) }

-- what is refused of a command, where its walk has ended so and refused these, and its subcommand those
abbrev refused_at : Shape → Bool → Kinds → Walk → Kinds → Kinds
refused_at s has_subcommand below end walk = or_else walk (or_else below (or_else (settle_fault s.rules s.args_override_self end.held)
    (or_else (defaults_fault (settled s.rules end.held).rows s.rules) (check_fault s (finished s.rules end.held) has_subcommand))))

abbrev refused_by : Walk → Kinds → Kinds
refused_by end walk = refused_at top (is_some (entered (built program) end.stopped)) (entered_fault (built program) end.stopped) end walk

-- of a flag that takes no word
abbrev if_alone : FlagEntry → FlagTests → Option FlagTests
if_alone flag tests = if takes_nothing flag.takes then Some tests else None

abbrev alone_tests : Entry → FlagEntry → Option FlagTests
alone_tests entry flag = if_alone flag (flag_tests (leaf entry) flag.name)

abbrev alone_wanted : FlagEntry → Option FlagTests
alone_wanted flag = if_alone flag (flag_wanted flag.name)

-- what `clap` makes of a command's name, and of words after it
pub record EntryTests : Type 0 where
  pub walk : Walk
  pub fault : Kinds
  pub refused : List Text → Kinds
  pub asked : List Text → Option (Result Request WordFault)
  pub alone : List (Option FlagTests)
  pub rules : List RuleTests
  pub check : List Row → Kinds

abbrev entry_tests : Entry → EntryTests
entry_tests entry = record {
  walk = walked top.rules (names_of (built program)) start entry.name;
  fault = turn_fault top (names_of (built program)) start entry.name;
  refused = λ words. refused_by (stopped_at entry.name words) [];
  asked = λ words. request_in (entered (built program) (Some (entry.name, words)));
  alone = map (alone_tests entry) entry.flags;
  rules = map rule_tests (leaf entry).rules;
  check = λ rows. check_fault (leaf entry) rows false;
}

abbrev entry_wanted : Entry → EntryTests
entry_wanted entry = record {
  walk = stopped_at entry.name [];
  fault = [];
  refused = λ words. or_else (level_fault (leaf entry) [] nothing_held words false []) [];
  asked = λ words. Some (request_with entry.command (rows_after (leaf entry).rules [] words));
  alone = map alone_wanted entry.flags;
  rules = map rule_wanted (leaf entry).rules;
  check = λ rows. [];
}

entries_are : map entry_tests commands ≡ map entry_wanted commands
unfolding clap_on_literals program commands
entries_are = refl

after_program : (first : Text) (words : List Text) → argument_words program (first ∷ words) ≡ words
unfolding program commands
after_program first words = refl

-- ---- flags of the table

both_there : {X : Type 0} (there : Bool) (x y : X) → there ≡ true → (if there then Some x else None) ≡ (if there then Some y else None) → x ≡ y
both_there true x y is same = cc
both_there false x y is same = cc

each_switch : (entry : Entry) (flags : List FlagEntry) → map (alone_tests entry) flags ≡ map alone_wanted flags
    → (word : Text) → is_switch flags word ≡ true → IsSwitch (leaf entry) word
each_switch entry [] same word is = cc
each_switch entry (flag ∷ flags) same word is =
    let head : alone_tests entry flag ≡ alone_wanted flag = cc in
    let rest : map (alone_tests entry) flags ≡ map alone_wanted flags = cc in
    elim (takes_nothing flag.takes && bytes_eq word (flag_word flag.name))
    as (λ b. (takes_nothing flag.takes && bytes_eq word (flag_word flag.name)) ≡ b → (b || is_switch flags word) ≡ true → IsSwitch (leaf entry) word) [
      | true ↦ λ this _.
          let tests = and_parts (takes_nothing flag.takes) (bytes_eq word (flag_word flag.name)) this in
          record { name = flag.name; is = (bytes_eq-Decides word (flag_word flag.name)).0 tests.1; tests = both_there (takes_nothing flag.takes) _ _ tests.0 head }
      | false ↦ λ other later. each_switch entry flags rest word later
    ] refl is

-- ---- a name, and words that the command of that name takes

module _ (first name : Text) (entry : Entry) (met : entry_named name ≡ Some entry) (words : List Text) (are : are_switches entry.flags words ≡ true) where
  tests : entry_tests entry ≡ entry_wanted entry
  tests = same_at_found entry_tests entry_wanted (λ (e : Entry). bytes_eq e.name name) commands entry entries_are met

  way : Walked (leaf entry) [] words
  way = walked_all (leaf entry) entry.flags (each_switch entry entry.flags (ap (λ (t : EntryTests). t.alone) tests)) [] words are (apart_none words)

  abbrev rows : List Row
  rows = fold with_default (given_rows way.given) (leaf entry).rules

  defaults : SameGiven (given_rows way.given) rows × (defaults_fault (given_rows way.given) (leaf entry).rules ≡ [])
  defaults = with_all (leaf entry).rules (given_rows way.given) (ap (λ (t : EntryTests). t.rules) tests)

  below : level_fault (leaf entry) [] nothing_held words false [] ≡ []
  below = ap₂ (refused_at (leaf entry) false []) way.end way.fault ∙ ap₂ or_else defaults.1 (ap (λ (t : EntryTests). t.check rows) tests)

  same_given : (q : Text) → is_given q rows ≡ gives words q
  same_given q = defaults.0.given q ∙ given_by_words q way.given ∙ ap (λ (ws : List Text). gives ws q) (sym way.are)

  none_of : (q : Text) → is_worded q ≡ true → found q rows ≡ None
  none_of q is = defaults.0.worded q is (not_worded q way.given is way.alone)

  abbrev options_found : Option Row → Option Row → Option Row → (Text → Bool) → Result Options WordFault
  options_found color label flags given =
      then_with (λ coloring. then_with (λ labels. then_with (λ all_flags. Ok (options_by given coloring labels all_flags))
      (all_by (option_and_then (λ r. slice_get r.values 0) flags)))
      (labels_with [] (unwrap_or (option_map (λ r. r.values) label) [])))
      (coloring_by (option_and_then (λ r. slice_get r.values 0) color))

  options : options_in rows ≡ Ok (options_by (gives words) Auto [] false)
  options =
      ap (λ (color : Option Row). options_found color (found label_flag rows) (found flags_flag rows) (λ q. is_given q rows)) (none_of color_flag refl)
      ∙ ap (λ (label : Option Row). options_found None label (found flags_flag rows) (λ q. is_given q rows)) (none_of label_flag refl)
      ∙ ap (λ (flags : Option Row). options_found None None flags (λ q. is_given q rows)) (none_of flags_flag refl)
      ∙ ap (λ (given : Text → Bool). options_found None None None given) (λ i q. same_given q i)

  name_walks : walked top.rules (names_of (built program)) start entry.name ≡ stopped_at entry.name []
  name_walks = ap (λ (t : EntryTests). t.walk) tests

  stops : walk top.rules (names_of (built program)) nothing_held (entry.name ∷ words) ≡ stopped_at entry.name words
  stops = ap (λ (v : Walk). fold (walked top.rules (names_of (built program))) v words) name_walks ∙ sym (walk_stopped top.rules (names_of (built program)) start entry.name [] words)

  passes : walk_fault top (names_of (built program)) start (entry.name ∷ words) ≡ []
  unfolding walk_fault
  passes = ap₂ or_else (ap (λ (t : EntryTests). t.fault) tests)
      (ap (λ (v : Walk). walk_fault top (names_of (built program)) v words) name_walks ∙ stopped_fault top (names_of (built program)) start (entry.name, []) words)

  pub chosen : IsRequestOf (first ∷ name ∷ words) (record { command = entry.command; options = options_by (gives words) Auto [] false })
  chosen =
      let named = its_name name entry met in
      let after = after_program first (entry.name ∷ words) in (
        ap (λ (n : Text). request_of (first ∷ n ∷ words)) named
            ∙ ap (λ (ws : List Text). request_in (entered (built program) (stop_after top.rules (names_of (built program)) ws))) after
            ∙ ap (λ (v : Walk). request_in (entered (built program) v.stopped)) stops
            ∙ ap (λ (t : EntryTests). t.asked words) tests
            ∙ ap (λ (o : Result Options WordFault). Some (then_with (λ options. Ok record { command = entry.command; options = options }) o))
            (ap (λ (v : Walk). options_in (finished (leaf entry).rules v.held)) way.end ∙ options),
        ap (λ (n : Text). faults_of (first ∷ n ∷ words)) named
            ∙ ap (built_fault (built program) nothing_held) after
            ∙ ap₂ refused_by stops passes
            ∙ ap (λ (t : EntryTests). t.refused words) tests
            ∙ ap (λ (faults : Kinds). or_else faults []) below,
      )
