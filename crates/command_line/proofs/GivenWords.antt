-- What is answered to words that `clap` takes: what they ask for, or that a word of a flag is wrong.
use Rattle.std.proofs.Common.{◌≡◌, ◌∙◌, ◌+◌, ◌<◌, ℕ, suc, arith, length, drop, drop-cons, get_or, subst, Bor, List, [], ◌∷◌, Option, Some, None, Result, Ok, Err, MatchResult, map, ap, sym, refl, inl, inr}
use Rattle.std.specs.Prelude.{MatchOption}
use Rattle.clap.specs.Words.{Text}
use Rattle.clap.proofs.WalkLemmas.{first_value-rows, raw_values-rows}
use Rattle.module_metrics.specs.CommonLabels.{Adds, IsAdded, label_fault}
use Rattle.module_metrics.specs.Exposition.{Label}
use Rattle.module_metrics.specs.declared.label_fault.LabelFault.{LabelFault}
use Rattle.module_metrics.specs.declared.label_fault.LabelFault.TheVariants as label
use Rattle.command_line.specs.Choice.{IsRequestOf, faults_of, request_of}
use Rattle.command_line.specs.ChoiceFault.{Gives, fault_of_label}
use Rattle.command_line.specs.Options.{labels_with, more_labels, then_with, with_label}
use Rattle.command_line.specs.Program.{IsRefusalOf}
use Rattle.command_line.specs.declared.choice.commands.Request.{Request}
use Rattle.command_line.specs.declared.choice.fault.ChoiceFault.{ChoiceFault}
use Rattle.command_line.specs.declared.choice.fault.ChoiceFault.TheVariants.{Memory, Line, Word, Unreadable}
use Rattle.command_line.specs.declared.choice.word_fault.WordFault.{WordFault}
use Rattle.command_line.specs.declared.choice.word_fault.WordFault.TheVariants.{Label as WrongLabel}

-- the words that the matches give a flag are those of its row
pub ruleset by_rows = (first_value-rows, raw_values-rows)

-- ---- labels

-- what one more word is reported to come to, by the answer to it
abbrev IsPlanOutput : {T : Type 0} → Result (List Label) WordFault → List Label → Result T LabelFault → Type 0
IsPlanOutput reported new (Ok t) = reported ≡ Ok new
IsPlanOutput reported new (Err fault) = Gives reported (Err (fault_of_label fault))

wrong : (fault : LabelFault) → Gives {T = List Label} (Err (WrongLabel fault)) (Err (fault_of_label fault))
wrong label.Memory = tt
wrong fault = refl

tells : {T : Type 0} (old new : List Label) (w : Text) (o : Option LabelFault) (r : Result T LabelFault)
    → MatchOption o (IsAdded old new w r) (λ fault. (r ≡ Err fault) × (new ≡ old)) → IsPlanOutput (more_labels old w o) new r
tells old new w None (Ok t) added = ap Ok (sym added)
tells old new w None (Err f) added = let memory : f ≡ label.Memory = added.0 in rw memory tt
tells old new w (Some fault) (Ok t) same = absurd cc
tells old new w (Some fault) (Err f) same = let one : f ≡ fault = cc in rw one (wrong fault)

-- a wrong word makes those after it count for nothing
then_wrong : (k : List Label → Result (List Label) WordFault) (reported : Result (List Label) WordFault) (e : ChoiceFault) → Gives reported (Err e)
    → Gives (then_with k reported) (Err e)
then_wrong k reported Memory gives = tt
then_wrong k reported (Word f) gives = ap (then_with k) gives
then_wrong k reported e gives = absurd gives

-- labels, and those of words after them, as the code has the words
abbrev pub labels_of : List Label → List (Bor Text) → Result (List Label) WordFault
labels_of labels words = labels_with labels (map (λ word. word.now) words)

-- the word at a place, and those after it
module _ (old new : List Label) (words : List (Bor Text)) (i : ℕ) (d : Bor Text) (within : i < length words) where
  abbrev rest : List Label → Result (List Label) WordFault
  rest labels = labels_of labels (drop (i + 1) words)

  place_known : labels_of old (drop i words) ≡ then_with rest (with_label old (get_or words i d).now)
  place_known =
      let next : suc i ≡ i + 1 = omega arith in
      ap (labels_of old) (drop-cons words i d within) ∙ ap (λ (n : ℕ). labels_of old (get_or words i d ∷ drop n words)) next

  pub word_added : {T : Type 0} (t : T) → Adds old new (get_or words i d).now (Ok t) → labels_of old (drop i words) ≡ rest new
  word_added t adds = place_known ∙ ap (then_with rest) (tells old new (get_or words i d).now (label_fault old (get_or words i d).now) (Ok t) adds)

  pub word_refused : {T : Type 0} (r : Result T LabelFault) (fault : LabelFault) → r ≡ Err fault → Adds old new (get_or words i d).now r
      → Gives (labels_of old (drop i words)) (Err (fault_of_label fault))
  word_refused r fault same adds = subst (λ (reported : Result (List Label) WordFault). Gives reported (Err (fault_of_label fault))) (sym place_known)
      (then_wrong rest _ (fault_of_label fault) (rw same at (tells old new (get_or words i d).now (label_fault old (get_or words i d).now) r adds)))

-- ---- what words ask for

pub answered : (words : List Text) (reported : Result Request WordFault) (r : Result Request ChoiceFault) → request_of words ≡ Some reported → faults_of words ≡ []
    → Gives reported r → MatchResult r (IsRequestOf words) (IsRefusalOf words)
answered words reported (Ok request) is none gives = (is ∙ ap Some gives, none)
answered words reported (Err Memory) is none gives = inl (tt, λ _. refl)
answered words reported (Err (Line error)) is none gives = absurd gives
answered words reported (Err Unreadable) is none gives = absurd gives
answered words reported (Err (Word w)) is none gives = inr (w, refl, none, is ∙ ap Some gives)
