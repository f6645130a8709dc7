-- What each command reads: the parts of its input, and the text of each. (docs/formats.md, "Input"; this project's own)
use Rattle.std.specs.Prelude.{ℕ, Bool, true, false, not, ◌||◌, List, [], ◌∷◌, filter, get_or}
use Rattle.std.specs.List.{position}
use Rattle.std.specs.Option.{option_map_or}
use Rattle.command_line.specs.declared.choice.commands.CommandName.{CommandName}
use Rattle.command_line.specs.declared.choice.commands.CommandName.TheVariants.{Report, Details, Observables, Metrics, Plan, Draw, Check, Provision, Trace}
use Rattle.command_line.specs.declared.choice.part.Part.{Part}
use Rattle.command_line.specs.declared.choice.part.Part.TheVariants.{Image, Weights, Kept, Certificate, Script}
use Rattle.command_line.specs.declared.commands.inputs.Inputs.{Inputs as Given}

-- ---- the parts

-- those of a command with all of its flags, in their order
abbrev pub parts_of_command : CommandName → List Part
parts_of_command (Report report) = Image ∷ []
parts_of_command Details = Image ∷ []
parts_of_command Observables = Image ∷ []
parts_of_command Metrics = Image ∷ []
parts_of_command Plan = Image ∷ Weights ∷ Kept ∷ []
parts_of_command Draw = Image ∷ Weights ∷ Kept ∷ []
parts_of_command Check = Image ∷ Weights ∷ Certificate ∷ []
parts_of_command Provision = Image ∷ Weights ∷ Kept ∷ Script ∷ []
parts_of_command Trace = Image ∷ Weights ∷ Kept ∷ Script ∷ []

abbrev pub is_part : Part → Part → Bool
is_part Image Image = true
is_part Weights Weights = true
is_part Kept Kept = true
is_part Certificate Certificate = true
is_part Script Script = true
is_part _ _ = false

-- kept paths are among them only if the flag `--keep` is given
abbrev pub parts_read : CommandName → Bool → List Part
parts_read command keep = filter (λ part. not (is_part part Kept) || keep) (parts_of_command command)

-- ---- their texts

-- what stands in its place among the texts of these parts; of a part that is none of them, the empty text
abbrev pub text_in : List Part → List (List ℕ) → Part → List ℕ
text_in parts texts part = option_map_or (λ place. get_or texts place []) (position (λ other. is_part other part) parts) []

-- the text of each part
pub record Inputs : Type 0 where
  pub image : List ℕ
  pub weights : List ℕ
  pub kept : List ℕ
  pub certificate : List ℕ
  pub script : List ℕ

abbrev pub inputs_in : List Part → List (List ℕ) → Inputs
inputs_in parts texts = record {
  image = text_in parts texts Image;
  weights = text_in parts texts Weights;
  kept = text_in parts texts Kept;
  certificate = text_in parts texts Certificate;
  script = text_in parts texts Script;
}

-- those that a command is given
abbrev pub inputs_of : Given → Inputs
inputs_of given = record {
  image = given.image.now;
  weights = given.weights.now;
  kept = given.kept.now;
  certificate = given.certificate.now;
  script = given.script.now;
}
