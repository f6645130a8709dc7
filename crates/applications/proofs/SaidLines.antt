-- Lines of weights: that each says one thing alone, and what a reader keeps of them.
use Rattle.std.proofs.Common.{◌≡◌, ◌≢◌, ℕ, ◌+◌, Bool, true, false, List, [], ◌∷◌, ◌++◌, length, None, arith, refl, sym, subst, ap, ◌∙◌, append_assoc, append-nil, length-append}
use Rattle.std.proofs.lemmas.Fmt.{decimal_injective}
use Rattle.std.proofs.lemmas.List.{get_or-replicate}
use Rattle.std.proofs.lemmas.Option.{none-some}
use Rattle.std.proofs.lemmas.List.FromFn.{fill_by_all}
use Rattle.std.proofs.Math.ListN.{length-replicate, replicate}
use Rattle.applications.specs.declared.weights.lines.Draft.{Draft}
use Rattle.applications.specs.declared.weights.lines.Said.{Said}
use Rattle.applications.specs.declared.weights.lines.Said.TheVariants.{Nothing, Host, Weight}
use Rattle.applications.specs.declared.weights.lines.WeightLinesFault.{WeightLinesFault}
use Rattle.applications.specs.declared.weights.lines.WeightLinesFault.TheVariants.{BadLine, SameIdTwice, NoHost}
use Rattle.applications.specs.WeightKeys.{id_of_key}
use Rattle.applications.specs.WeightLines.{AreWeights, Drafts, IsFirstFault, IsLineFault, Say, Says, SaysIn, Stops, host_line, key_in, may_follow, trimmed, weight_said}

-- ---- what a line says

nothing_no_key : id_of_key (key_in []) ≡ None
unfolding id_of_key trimmed
nothing_no_key = refl

host_no_key : id_of_key (key_in host_line) ≡ None
unfolding id_of_key trimmed host_line
host_no_key = refl

nothing_no_host : [] ≢ host_line
unfolding host_line
nothing_no_host e = absurd cc

pub same_said : (content : List ℕ) (a b : Said) → SaysIn content a → SaysIn content b → a ≡ b
same_said content Nothing Nothing x y = refl
same_said content Nothing Host x y = absurd (nothing_no_host (sym x ∙ y))
same_said content Nothing (Weight id w) x y = absurd (none-some id (sym nothing_no_key ∙ ap (λ c. id_of_key (key_in c)) (sym x) ∙ y.0))
same_said content Host Nothing x y = absurd (nothing_no_host (sym y ∙ x))
same_said content Host Host x y = refl
same_said content Host (Weight id w) x y = absurd (none-some id (sym host_no_key ∙ ap (λ c. id_of_key (key_in c)) (sym x) ∙ y.0))
same_said content (Weight id w) Nothing x y = absurd (none-some id (sym nothing_no_key ∙ ap (λ c. id_of_key (key_in c)) (sym y) ∙ x.0))
same_said content (Weight id w) Host x y = absurd (none-some id (sym host_no_key ∙ ap (λ c. id_of_key (key_in c)) (sym y) ∙ x.0))
same_said content (Weight id w) (Weight id' w') x y =
    let same_id : id ≡ id' = let e = sym x.0 ∙ y.0 in cc in
    let same_weight : w ≡ w' = decimal_injective w w' (omega (arith, x.1)) (omega (arith, y.1)) (sym x.2 ∙ y.2) in
    (λ i. Weight (same_id i) (same_weight i))

-- ---- what a reader keeps

-- these lines are read, and these are left
pub record ReadTo (lines left : List (List ℕ)) (draft : Draft) (number : ℕ) : Type 0 where
  pub said : List Said
  pub before : List (List ℕ)
  pub lines_are : lines ≡ before ++ left
  pub say : Say said before
  pub drafts : Drafts said draft
  pub counted : number ≡ length before

pub read_none : (lines : List (List ℕ)) → ReadTo lines lines (record { has_host = false; listed = replicate 256 false; by_host_id = replicate 256 0 }) 0
read_none lines = record {
  said = [];
  before = [];
  lines_are = refl;
  say = refl;
  drafts = record {
    host = refl;
    listed = λ id below. get_or-replicate 256 id false false below;
    weights = λ id below. get_or-replicate 256 id 0 0 below;
    listed_room = length-replicate {A = Bool} 256 false;
    weights_room = length-replicate {A = ℕ} 256 0;
  };
  counted = refl;
}

pub read_more : (lines left : List (List ℕ)) (line : List ℕ) (draft new : Draft) (number : ℕ) (read : ReadTo lines (line ∷ left) draft number) (said : Said)
    → Says line said → may_follow read.said said ≡ true → Drafts (said ∷ read.said) new → ReadTo lines left new (number + 1)
read_more lines left line draft new number read said says follows d = record {
  said = said ∷ read.said;
  before = read.before ++ line ∷ [];
  lines_are = read.lines_are ∙ sym (append_assoc read.before (line ∷ []) left);
  say = (read.before, line, refl, says, follows, read.say);
  drafts = d;
  counted = ap (λ n. n + 1) read.counted ∙ sym (length-append read.before (line ∷ []));
}

first_stop : (lines : List (List ℕ)) (fault : WeightLinesFault) → Stops lines fault → IsFirstFault lines fault
first_stop lines (BadLine n) stop = stop
first_stop lines (SameIdTwice n) stop = stop
first_stop lines NoHost stop = absurd stop.stops

pub read_fault : (lines left : List (List ℕ)) (line : List ℕ) (draft : Draft) (number : ℕ) (fault : WeightLinesFault) (read : ReadTo lines (line ∷ left) draft number)
    → IsLineFault read.said line (number + 1) fault → IsFirstFault lines fault
read_fault lines left line draft number fault read stops =
    first_stop lines fault (record {
      said = read.said;
      before = read.before;
      line = line;
      rest = left;
      lines_are = read.lines_are;
      say = read.say;
      stops = subst (λ (n : ℕ). IsLineFault read.said line (n + 1) fault) read.counted stops;
    })

pub read_all : (lines : List (List ℕ)) (draft : Draft) (number : ℕ) → ReadTo lines [] draft number → draft.has_host ≡ true → AreWeights lines draft.by_host_id
read_all lines draft number read host = (
  read.said,
  rw (read.lines_are, append-nil) read.say,
  sym read.drafts.host ∙ host,
  fill_by_all (weight_said read.said) draft.by_host_id 256 0 read.drafts.weights_room read.drafts.weights,
)
