-- What `check` answers where the third part is the certificate that `plan` wrote.
use Rattle.std.proofs.Common.{◌≡◌, ◌≢◌, ℕ, ◌≤◌, Bool, true, false, List, [], ◌∷◌, ◌++◌, length, get_or, map, codes, Option, None, Some, Ok, Err, refl, sym, ap, ap₂, subst, ◌∙◌, arith}
use Rattle.std.specs.List.{All, before_first}
use Rattle.std.proofs.lemmas.List.{length-append}
use Rattle.std.proofs.lemmas.List.Elements.{All-cons, All-nil}
use Rattle.std.proofs.lemmas.Option.{MatchOption-at_none}
use Rattle.text_lines.specs.Lines.{is_lf, ended_lines, lines_of}
use Rattle.paged_memory.specs.Images.{Memory}
use Rattle.paged_memory.specs.ImageText.{IsTextOf as IsImageText}
use Rattle.paged_memory.proofs.OneAnswer.{same_answer as same_image_answer}
use Rattle.applications.specs.declared.conventions.Conventions.{Conventions}
use Rattle.applications.specs.Advertised.{Advertised, advertised_under}
use Rattle.applications.specs.declared.fault.AdvertFault.{AdvertFault}
use Rattle.applications.specs.AppWeights.{PathWeights, app_weights}
use Rattle.applications.specs.Refusals.{advert_fault_under}
use Rattle.applications.specs.Weights.{ListedWeights}
use Rattle.applications.specs.WeightFaults.{IsAnswer as IsWeightsAnswer}
use Rattle.applications.specs.declared.weights.fault.WeightsFault.{WeightsFault}
use Rattle.applications.specs.declared.weights.fault.WeightsFault.TheVariants as weights
use Rattle.plan_certificate.specs.Certificates.{Claim}
use Rattle.plan_certificate.specs.CertificateText.{IsTextOf, line_text, line_words, lines_in}
use Rattle.lane_planner.specs.FirstBest.{IsFirstBest}
use Rattle.plan_certificate.specs.Plans.{IsBest}
use Rattle.plan_certificate.specs.Verdicts.{verdict}
use Rattle.plan_certificate.specs.declared.path.Path.{Path}
use Rattle.plan_certificate.specs.declared.line.Line.{Line}
use Rattle.plan_certificate.specs.declared.line.Line.TheVariants.{Header, KeptHeader, Weight, KeepLine, PathLine, StateLine, End}
use Rattle.plan_certificate.specs.Limits.{most_states}
use Rattle.plan_certificate.specs.declared.verdict.Verdict.{Verdict}
use Rattle.plan_certificate.specs.declared.verdict.Verdict.TheVariants.{Good, Bad}
use Rattle.plan_certificate.proofs.OneAnswer.{same_answer}
use Rattle.command_line.specs.CheckCommand.{IsCheckAnswer, IsGoodAnswer, IsJudged, IsFirstNoted, good_output}
use Rattle.command_line.specs.Inputs.{Inputs, inputs_in, parts_read}
use Rattle.command_line.specs.Limits.{input_limit}
use Rattle.command_line.specs.Parts.{is_separator_line, parts_of}
use Rattle.command_line.specs.PlanCommand.{IsPlanAnswer, IsPlanned, IsPlanReport}
use Rattle.command_line.specs.PlanningInputs.{IsAdvertText}
use Rattle.command_line.specs.PlanThenCheck.{check_request, first_if, good_text, input_with, plan_inputs, plan_request, IsCalledGood, IsEnded, IsGoodBehind, IsGoodBehindInput, IsGoodInPlace}
use Rattle.command_line.specs.Commands.{IsAnswerOf}
use Rattle.command_line.specs.Runs.{Answer}
use Rattle.command_line.specs.declared.choice.commands.CommandName.TheVariants.{Check, Plan}
use Rattle.command_line.specs.declared.choice.options.Options.{Options}
use Rattle.command_line.specs.declared.fault.Fault.TheVariants as fault
use Rattle.command_line.proofs.OwnAnswers.{judged, not_cut}
use Rattle.command_line.proofs.TextBehind.{is_one_part, is_plain, parts_behind}

-- ---- no line of a certificate's text is a separator

-- a line that begins with another byte than a dash
begins_otherwise : (first : ℕ) (line : List ℕ) → get_or line 0 0 ≡ first → first ≢ 45 → line ≢ codes "---"
begins_otherwise first line is other e = other (sym is ∙ ap (λ l. get_or l 0 0) e)

is_not_dashes : (line : Line) → line_text line ≢ codes "---"
unfolding line_words
is_not_dashes (Header false) = begins_otherwise 99 (line_text (Header false)) refl (λ e. omega arith)
is_not_dashes (Header true) = begins_otherwise 99 (line_text (Header true)) refl (λ e. omega arith)
is_not_dashes (KeptHeader false) = begins_otherwise 99 (line_text (KeptHeader false)) refl (λ e. omega arith)
is_not_dashes (KeptHeader true) = begins_otherwise 99 (line_text (KeptHeader true)) refl (λ e. omega arith)
is_not_dashes (Weight weight) = begins_otherwise 119 (line_text (Weight weight)) refl (λ e. omega arith)
is_not_dashes (KeepLine path) = begins_otherwise 107 (line_text (KeepLine path)) refl (λ e. omega arith)
is_not_dashes (PathLine path) = begins_otherwise 112 (line_text (PathLine path)) refl (λ e. omega arith)
is_not_dashes (StateLine entry) = begins_otherwise 115 (line_text (StateLine entry)) refl (λ e. omega arith)
is_not_dashes End = begins_otherwise 101 (line_text End) refl (λ e. omega arith)

are_plain : (ended : List (List ℕ)) (lines : List Line) → map (before_first is_lf) ended ≡ map line_text lines
    → All (λ line. is_separator_line line ≡ false) ended
are_plain [] lines e = All-nil (λ l. is_separator_line l ≡ false)
are_plain (first ∷ ended) [] e = absurd cc
are_plain (first ∷ ended) (line ∷ lines) e =
    let same : before_first is_lf first ≡ line_text line = cc in
    let plain = is_plain first (λ dashes. is_not_dashes line (sym same ∙ dashes)) in
    All-cons (λ l. is_separator_line l ≡ false) first ended plain (are_plain ended lines cc)

certificate_is_one_part : (text : List ℕ) (certificate : Claim) → IsTextOf most_states (lines_of text) certificate → parts_of text ≡ text ∷ []
certificate_is_one_part text certificate is = is_one_part text (are_plain (ended_lines text) (lines_in certificate) is.lines_are)

-- ---- a text is read in one way

same_image : (text : List ℕ) (a b : Memory) → IsImageText (lines_of text) a → IsImageText (lines_of text) b → a ≡ b
same_image text a b p q = let same = same_image_answer (lines_of text) (Ok a) (Ok b) p q in cc

same_advert : (conventions : Conventions) (text : List ℕ) (a b : Advertised) → IsAdvertText conventions text a → IsAdvertText conventions text b → a ≡ b
same_advert conventions text a b p q =
    let memory = same_image text p.memory q.memory p.is_module.is_text q.is_module.is_text in
    p.is_module.advertised ∙ ap (advertised_under conventions) memory ∙ sym q.is_module.advertised

same_weights : (text : List ℕ) (a b : ListedWeights) → IsWeightsAnswer text (Ok a) → IsWeightsAnswer text (Ok b) → a ≡ b
same_weights text a b p q = p.1 ∙ sym q.1

not_refused : (text : List ℕ) (listed : ListedWeights) (f : WeightsFault) → f ≢ weights.Memory
    → IsWeightsAnswer text (Ok listed) → ¬ (IsWeightsAnswer text (Err f))
not_refused text listed weights.Memory other p q = other refl
not_refused text listed f other p q = absurd cc

same_claim : (text : List ℕ) (a b : Claim) → IsTextOf most_states (lines_of text) a → IsTextOf most_states (lines_of text) b → a ≡ b
same_claim text a b p q = let same = same_answer most_states (lines_of text) (Ok a) (Ok b) p q in cc

-- ---- what `check` answers to the parts

-- what each command answers to an input that is cut so
abbrev IsCheckTo : Options → List (List ℕ) → Answer → Type 0
IsCheckTo options parts = IsCheckAnswer options (inputs_in (parts_read Check options.keep) parts)

abbrev IsPlanTo : Bool → Options → List (List ℕ) → Answer → Type 0
IsPlanTo keep options parts = IsPlanAnswer false (record options { keep = keep; json = false }) (inputs_in (parts_read Plan keep) parts)

module _ (conventions : Conventions) (inputs : Inputs) (text : List ℕ) (planned : IsPlanned (IsPlanReport false) conventions inputs text) where
  abbrev advert : Advertised
  advert = planned.planning.advert

  -- what paths weigh
  abbrev path_weights : PathWeights
  path_weights = app_weights advert planned.planning.weights

  abbrev certificate : Claim
  certificate = planned.reported.certificate

  -- by the kept paths that the certificate names
  is_best : IsBest advert path_weights certificate.kept certificate.paths
  is_best = subst (λ (k : List Path). IsBest advert path_weights k certificate.paths) (sym planned.reported.certified.keeps) planned.reported.certified.best

  is_first : IsFirstBest advert path_weights certificate.kept certificate.paths
  is_first = subst (λ (k : List Path). IsFirstBest advert path_weights k certificate.paths) (sym planned.reported.certified.keeps) planned.reported.certified.first

  is_advert : IsAdvertText conventions inputs.image advert
  is_advert = record { memory = planned.planning.image; is_module = planned.is_planning.is_module }

  says : (first : Bool) → IsFirstNoted first advert path_weights certificate (first_if first)
  says true = ((λ _. is_first), (λ _. refl))
  says false = tt

  -- what `check` is given
  abbrev checked : Inputs
  checked = record { image = inputs.image; weights = inputs.weights; kept = []; certificate = text; script = [] }

  module _ (judged : Verdict) (is : IsJudged conventions checked judged) where
    the_advert : is.advert ≡ advert
    the_advert = same_advert conventions inputs.image is.advert advert is.is_advert is_advert

    the_weights : is.weights ≡ planned.planning.weights
    the_weights = same_weights inputs.weights is.weights planned.planning.weights is.are_weights planned.is_planning.are_weights

    the_path_weights : app_weights is.advert is.weights ≡ path_weights
    the_path_weights = (λ i. app_weights (the_advert i) (the_weights i))

    the_certificate : is.certificate ≡ certificate
    the_certificate = same_claim text is.certificate certificate is.is_certificate planned.reported.read_back

    judged_good : judged ≡ Good
    judged_good = sym is.is_verdict ∙ (λ i. verdict (the_advert i) (the_path_weights i) (the_certificate i)) ∙ planned.reported.certified.judged

  -- the plan is the first of the best, so this is said of it where it is asked for
  says_so : (first : Bool) (said : Option Bool) → IsFirstNoted first advert path_weights certificate said → said ≡ first_if first
  says_so true (Some first) same = ap Some (same.1 is_first)
  says_so true None never = absurd never
  says_so false None said = refl
  says_so false (Some first) never = absurd never

  module _ (options : Options) where
    -- by the same conventions
    abbrev ours : Options
    ours = record options { conventions = conventions }

    good_answer : IsGoodAnswer ours checked (good_text options planned)
    good_answer = record {
      judged = record {
        advert = advert;
        weights = planned.planning.weights;
        certificate = certificate;
        is_advert = is_advert;
        are_weights = planned.is_planning.are_weights;
        is_certificate = planned.reported.read_back;
        is_verdict = planned.reported.certified.judged;
      };
      is_best = is_best;
      reported = record { is_first = first_if options.first; first_noted = says options.first; reported = refl };
    }

    good_is : (reported : List ℕ) → IsGoodAnswer ours checked reported → reported ≡ good_text options planned
    good_is reported is =
        let same_advert = the_advert Good is.judged in
        let weights = the_path_weights Good is.judged in
        let same_certificate = the_certificate Good is.judged in
        let said = says_so options.first is.reported.is_first (rw (weights, same_certificate, same_advert) at is.reported.first_noted) in
        is.reported.reported ∙ (λ i. good_output options.json (said i) (same_advert i) (weights i) (same_certificate i))

    alone : (answer : Answer) → IsCheckAnswer ours checked answer → answer ≡ Ok (good_text options planned, None)
    alone (Ok (reported, None)) is = let same = good_is reported is in λ i. Ok (same i, None)
    alone (Ok (reported, Some f)) is = absurd is
    alone (Err (fault.Bad reason number)) is = let good = judged_good (Bad reason number) is in absurd cc
    alone (Err (fault.Certificate f)) is =
        let same = same_answer most_states (lines_of text) (Ok certificate) (Err f) planned.reported.read_back is.2 in
        absurd cc
    alone (Err (fault.Weights f)) is = absurd (not_refused inputs.weights planned.planning.weights f is.1.0 planned.is_planning.are_weights is.1.1)
    alone (Err (fault.Image f)) is =
        let same = same_image_answer (lines_of inputs.image) (Ok planned.planning.image) (Err f) planned.is_planning.is_module.is_text is in
        absurd cc
    alone (Err (fault.Advert f)) is =
        let read = planned.is_planning.is_module in
        let same = same_image inputs.image planned.planning.image is.0 read.is_text is.1 in
        let refused : ◌≡◌ {A = Option AdvertFault} None (Some f) = sym read.accepted ∙ ap (advert_fault_under conventions) same ∙ is.2 in
        absurd cc
    alone (Err f) is = absurd is

  module _ (input : List ℕ) (cut : parts_of input ≡ inputs.image ∷ inputs.weights ∷ text ∷ []) (within : length input ≤ input_limit) where
    counted : length (parts_of input) ≡ 3
    counted = ap (λ (l : List (List ℕ)). length l) cut

    good_to : (options : Options) → IsAnswerOf (check_request conventions options) input (Ok (good_text options planned, None))
    good_to options = (within, counted, subst (λ l. IsCheckTo (ours options) l (Ok (good_text options planned, None))) (sym cut) (good_answer options))

    alone_to : (options : Options) (answer : Answer) → IsAnswerOf (check_request conventions options) input answer → answer ≢ Err fault.Memory → answer ≢ Err fault.Io
        → answer ≡ Ok (good_text options planned, None)
    alone_to options answer is memory read =
        let reported = judged (parts_read Check options.keep) (IsCheckAnswer (ours options)) input answer is memory read in
        let mine = MatchOption-at_none _ _ (not_cut (parts_read Check options.keep) input within counted) reported in
        alone options answer (subst (λ l. IsCheckTo (ours options) l answer) cut mine)

    called_good : IsCalledGood planned input
    called_good = record { good = good_to; alone = alone_to }

-- ---- the two commands

abbrev part_in : List ℕ → ℕ → List ℕ
part_in input number = get_or (parts_of input) number []

one_part : (parts : List (List ℕ)) → length parts ≡ 1 → parts ≡ get_or parts 0 [] ∷ []
one_part (part ∷ []) one = refl
one_part parts one = absurd (omega arith)

two_parts : (parts : List (List ℕ)) → length parts ≡ 2 → parts ≡ get_or parts 0 [] ∷ get_or parts 1 [] ∷ []
two_parts (first ∷ second ∷ []) two = refl
two_parts parts two = absurd (omega arith)

parts_with : (input text : List ℕ) → IsEnded input → parts_of (input_with input text) ≡ parts_of input ++ parts_of text
parts_with input text (before, ends) = rw ends (parts_behind before text)

-- an input of two parts, and one part after it
third_part : (input text : List ℕ) → IsEnded input → length (parts_of input) ≡ 2 → (part : List ℕ) → parts_of text ≡ part ∷ []
    → parts_of (input_with input text) ≡ part_in input 0 ∷ part_in input 1 ∷ part ∷ []
third_part input text ended two part one = parts_with input text ended ∙ ap₂ (λ (own more : List (List ℕ)). own ++ more) (two_parts (parts_of input) two) one

certificate_behind : (input text : List ℕ) → IsEnded input → length (parts_of input) ≡ 2 → (certificate : Claim) → IsTextOf most_states (lines_of text) certificate
    → parts_of (input_with input text) ≡ part_in input 0 ∷ part_in input 1 ∷ text ∷ []
certificate_behind input text ended two certificate is = third_part input text ended two text (certificate_is_one_part text certificate is)

pub good_behind : (options : Options) (image listed kept text input : List ℕ) → parts_of input ≡ image ∷ listed ∷ kept ∷ []
    → IsAnswerOf (plan_request true options) input (Ok (text, None)) → IsGoodBehind options.conventions image listed kept text
good_behind options image listed kept text input cut is =
    let planned : IsPlanned (IsPlanReport false) options.conventions (plan_inputs image listed kept) text = subst (λ l. IsPlanTo true options l (Ok (text, None))) cut is.2 in
    record { planned = planned; good = λ other within parts. called_good options.conventions (plan_inputs image listed kept) text planned other parts within }

pub good_behind_input : (options : Options) (input text : List ℕ) → IsEnded input → IsAnswerOf (plan_request false options) input (Ok (text, None))
    → length (input_with input text) ≤ input_limit → IsGoodBehindInput options.conventions input text
good_behind_input options input text ended is within =
    let inputs : Inputs = plan_inputs (part_in input 0) (part_in input 1) [] in
    let planned : IsPlanned (IsPlanReport false) options.conventions inputs text =
    subst (λ l. IsPlanTo false options l (Ok (text, None))) (two_parts (parts_of input) is.1) is.2 in
    let cut = certificate_behind input text ended is.1 planned.reported.certificate planned.reported.read_back in
    record {
      image = part_in input 0;
      weights = part_in input 1;
      planned = planned;
      parts = cut;
      good = called_good options.conventions inputs text planned (input_with input text) cut within;
    }

-- kept paths, and the certificate in their place
pub good_in_place : (options : Options) (input kept text : List ℕ) → IsEnded input → length (parts_of input) ≡ 2
    → IsAnswerOf (plan_request true options) (input_with input kept) (Ok (text, None))
    → length (input_with input text) ≤ input_limit → IsGoodInPlace options.conventions input kept text
good_in_place options input kept text ended two is within =
    let three : length (parts_of (input_with input kept)) ≡ 3 = is.1 in
    let counted = ap (λ (l : List (List ℕ)). length l) (parts_with input kept ended) in
    let own = one_part (parts_of kept) (omega (arith, three, counted, length-append (parts_of input) (parts_of kept))) in
    let kept_behind = third_part input kept ended two (part_in kept 0) own in
    let behind = good_behind options (part_in input 0) (part_in input 1) (part_in kept 0) text (input_with input kept) kept_behind is in
    let cut = certificate_behind input text ended two behind.planned.reported.certificate behind.planned.reported.read_back in
    record {
      image = part_in input 0;
      weights = part_in input 1;
      kept_text = part_in kept 0;
      planned = behind.planned;
      parts_planned = kept_behind;
      parts = cut;
      good = behind.good (input_with input text) within cut;
    }
