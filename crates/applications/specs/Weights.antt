-- Weights as a text lists them: by HostInterfaceID, by MediaInterfaceID and by the number of an Application, and for a path that
-- stays, a number of 32 bits each. (docs/formats.md, "Weights"; SFF-8024, host and media interface codes; OIF-CMIS-05.0, chapter 8 "Module Management Memory
-- Map", "Applications Advertising"; what they weigh is this project's own)
use Rattle.std.specs.Prelude.{◌≡◌, ℕ, ◌^◌, ◌<◌, List, [], length, slice_index}
use Rattle.std.specs.List.{All}
use Rattle.applications.specs.declared.weights.table.WeightTable.{WeightTable}
use Rattle.applications.specs.declared.weights.table.WeightTable.TheVariants.{Host, Media, App}

-- one table of them, for the numbers from 0 to 255
abbrev pub TableWeights : Type 0
TableWeights = List ℕ

abbrev pub IsTableWeights : TableWeights → Type 0
IsTableWeights weights = (length weights ≡ 256) × All (λ weight. weight < 2 ^ 32) weights

-- the weight of a number, 0 if the list doesn't reach
abbrev pub weight_at : List ℕ → ℕ → ℕ
weight_at weights number = slice_index weights number

pub record ListedWeights : Type 0 where
  pub by_host : TableWeights
  pub by_media : TableWeights
  pub by_app : TableWeights
  -- what a path weighs more if it is among the active ones
  pub stay : ℕ

abbrev pub table_of : WeightTable → ListedWeights → TableWeights
table_of Host weights = weights.by_host
table_of Media weights = weights.by_media
table_of App weights = weights.by_app

-- with a number for each identifier of each table
pub record AreListedWeights (weights : ListedWeights) : Type 0 where
  pub by_host : IsTableWeights weights.by_host
  pub by_media : IsTableWeights weights.by_media
  pub by_app : IsTableWeights weights.by_app
  pub stay : weights.stay < 2 ^ 32

-- host interfaces and staying alone weigh something
abbrev pub weights_of_hosts : TableWeights → ℕ → ListedWeights
weights_of_hosts by_host stay = record { by_host = by_host; by_media = []; by_app = []; stay = stay }
