-- The members of a table of weights, read one after the other.
use Rattle.std.proofs.Common.{◌≡◌, ℕ, ◌^◌, ◌<◌, Bool, true, false, ◌==◌, ◌||◌, cond, List, [], ◌∷◌, length, Option, Some, None, nat_lt, pos, unwrap_or, get_or, set, arith, refl, sym, subst, ap, ◌∙◌}
use Rattle.std.proofs.lemmas.Bool.{cond_both, eq-eqb, eqb-false, eqb-true, ltb-true, or_parts}
use Rattle.std.proofs.lemmas.Grind.{get_or-set_at}
use Rattle.std.proofs.lemmas.List.{get_or-replicate, get_or-set_other}
use Rattle.std.proofs.lemmas.List.Elements.{All-map}
use Rattle.std.proofs.lemmas.List.FromFn.{fill_by_all, length-map-range_with_len}
use Rattle.std.proofs.Math.ListN.{length-replicate, length-set, replicate}
use Rattle.std.specs.List.{find, range_with_len}
use Rattle.std.specs.Option.{option_map_or}
use Rattle.toml.specs.Data.{Data}
use Rattle.toml.specs.Data as toml
use Rattle.applications.specs.declared.weights.fault.WeightsFault.TheVariants.{BadKey, SameKeyTwice, BadWeight}
use Rattle.applications.specs.Weights.{IsTableWeights}
use Rattle.applications.specs.declared.weights.table.WeightTable.{WeightTable}
use Rattle.applications.specs.WeightKeys.{named_by}
use Rattle.applications.specs.WeightTables.{Member, is_of, weight_in, weight_of, weight_of_value, weights_of}
use Rattle.applications.specs.WeightFaults.{fault_after, is_listed}

-- These members are read, of which the newest stands first, and some are left; two lists say by numbers what was read.
pub record Reads (table : WeightTable) (all rest : List Member) (weights : List ℕ) (listed : List Bool) : Type 0 where
  pub before : List Member
  pub fault_is : fault_after table [] all ≡ fault_after table before rest
  pub list : (number : ℕ) → number < 256 → get_or listed number false ≡ is_listed table before number
  pub weigh : (number : ℕ) → number < 256 → get_or weights number 0 ≡ cond (is_listed table before number) (weight_in table all number) 0
  pub left : (number : ℕ) → is_listed table before number ≡ false → weight_in table rest number ≡ weight_in table all number
  pub weights_room : length weights ≡ 256
  pub listed_room : length listed ≡ 256

pub reads_start : (table : WeightTable) (all : List Member) → Reads table all all (replicate 256 0) (replicate 256 false)
reads_start table all = record {
  before = [];
  fault_is = refl;
  list = λ number below. get_or-replicate 256 number false false below;
  weigh = λ number below. get_or-replicate 256 number 0 0 below;
  left = λ number unlisted. refl;
  weights_room = length-replicate {A = ℕ} 256 0;
  listed_room = length-replicate {A = Bool} 256 false;
}

set_at : {X : Type 0} (xs : List X) (i j : ℕ) (y d : X) → i < length xs → get_or (set xs i y) j d ≡ cond (i == j) y (get_or xs j d)
set_at xs i j y d within =
    cond_both (i == j) y (get_or xs j d) (λ e. get_or (set xs i y) j d ≡ e) (λ same. get_or-set_at xs i j y d (sym (eqb-true i j same)) within)
    (λ differs. get_or-set_other xs i j y d (λ same. eqb-false i j differs (sym same)))

true_or : (here before : Bool) → cond here true before ≡ (here || before)
true_or true before = refl
true_or false before = refl

weighs_more : (here before : Bool) (weight whole : ℕ) → (here ≡ true → weight ≡ whole) → cond here weight (cond before whole 0) ≡ cond (here || before) whole 0
weighs_more true before weight whole same = same refl
weighs_more false before weight whole same = refl

module _ (table : WeightTable) (all rest : List Member) (weights : List ℕ) (listed : List Bool) (member : Member) (reads : Reads table all (member ∷ rest) weights listed) where
  pub bad_key : named_by table member.0 ≡ None → fault_after table [] all ≡ Some (BadKey table)
  bad_key unnamed = reads.fault_is ∙ rw unnamed refl

  module _ (number : ℕ) (named : named_by table member.0 ≡ Some number) (below : number < 256) where
    pub same_key_twice : get_or listed number false ≡ true → fault_after table [] all ≡ Some (SameKeyTwice table number)
    same_key_twice twice = reads.fault_is ∙ rw (named, sym (reads.list number below) ∙ twice) refl

    module _ (new : get_or listed number false ≡ false) where
      pub bad_weight : weight_of_value member.1 ≡ None → fault_after table [] all ≡ Some (BadWeight table number)
      bad_weight unweighed = reads.fault_is ∙ rw (named, sym (reads.list number below) ∙ new, unweighed) refl

      pub reads_more : (weight : ℕ) → weight_of_value member.1 ≡ Some weight → Reads table all rest (set weights number weight) (set listed number true)
      unfolding weight_in
      reads_more weight weighed =
          let before = reads.before in
          let unlisted : is_listed table before number ≡ false = sym (reads.list number below) ∙ new in
          let names : (other : ℕ) → is_of table other member ≡ (number == other) = λ other. rw named refl in
          let first : weight_in table (member ∷ rest) number ≡ weight = rw (names number, eq-eqb number number refl, weighed) refl in
          record {
            before = member ∷ before;
            fault_is = reads.fault_is ∙ rw (named, unlisted, weighed) refl;
            list = λ other within.
                set_at listed number other true false (omega (arith, reads.listed_room)) ∙ ap (cond (number == other) true) (reads.list other within)
                ∙ true_or (number == other) (is_listed table before other)
                ∙ ap (λ (here : Bool). here || is_listed table before other) (sym (names other));
            weigh = λ other within.
                set_at weights number other weight 0 (omega (arith, reads.weights_room)) ∙ ap (cond (number == other) weight) (reads.weigh other within)
                ∙ weighs_more (number == other) (is_listed table before other) weight (weight_in table all other)
                (λ same. let e : number ≡ other = eqb-true number other same in subst (λ (n : ℕ). weight ≡ weight_in table all n) e (sym first ∙ reads.left number unlisted))
                ∙ ap (λ (here : Bool). cond (here || is_listed table before other) (weight_in table all other) 0) (sym (names other));
            left = λ other absent.
                let parts = or_parts (is_of table other member) (is_listed table before other) absent in
                let past : weight_in table (member ∷ rest) other ≡ weight_in table rest other = rw parts.0 refl in
                sym past ∙ reads.left other parts.1;
            weights_room = length-set weights number weight ∙ reads.weights_room;
            listed_room = length-set listed number true ∙ reads.listed_room;
          }

read_or_none : (is_read : Bool) (weight : ℕ) → (is_read ≡ false → 0 ≡ weight) → cond is_read weight 0 ≡ weight
read_or_none true weight none = refl
read_or_none false weight none = none refl

-- all members are read
pub reads_weights : (table : WeightTable) (all : List Member) (weights : List ℕ) (listed : List Bool) → Reads table all [] weights listed → weights ≡ weights_of table all
unfolding weights_of weight_in
reads_weights table all weights listed reads =
    fill_by_all (weight_in table all) weights 256 0 reads.weights_room
    (λ number below. reads.weigh number below ∙ read_or_none (is_listed table reads.before number) (weight_in table all number) (reads.left number))

pub weights_of_none : (table : WeightTable) → replicate 256 0 ≡ weights_of table []
weights_of_none table = reads_weights table [] (replicate 256 0) (replicate 256 false) (reads_start table [])

-- ---- each weight is a number of 32 bits

below_word : (value : Data) → unwrap_or (weight_of_value value) 0 < 2 ^ 32
below_word (toml.integer (pos weight)) = cond_both (nat_lt weight (2 ^ 32)) (Some weight) None (λ (o : Option ℕ). unwrap_or o 0 < 2 ^ 32) (λ e. ltb-true weight (2 ^ 32) e) (λ e. omega arith)
below_word _ = omega arith

weight_in-below : (table : WeightTable) (members : List Member) (number : ℕ) → weight_in table members number < 2 ^ 32
unfolding weight_in
weight_in-below table members number =
    elim (find (is_of table number) members) as (λ (found : Option Member). option_map_or weight_of found 0 < 2 ^ 32) [ None ↦ omega arith | Some member ↦ below_word member.1 ]

pub weights_of_are : (table : WeightTable) (members : List Member) → IsTableWeights (weights_of table members)
unfolding weights_of
weights_of_are table members = (
  length-map-range_with_len (weight_in table members) 0 256,
  All-map (λ weight. weight < 2 ^ 32) (weight_in table members) (range_with_len 0 256) (λ k d within. weight_in-below table members (get_or (range_with_len 0 256) k d)),
)
