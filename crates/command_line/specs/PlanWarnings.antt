-- What is odd about a plan that is given: weights that count for nothing, also that of staying, and no data paths. (docs/formats.md, "Standard error";
-- this project's own)
use Rattle.std.specs.Prelude.{ℕ, Bool, false, not, ◌==◌, ◌&&◌, ◌||◌, List, map}
use Rattle.std.specs.List.{list_all, list_any, range_with_len}
use Rattle.applications.specs.declared.app.App.{App}
use Rattle.applications.specs.Advertised.{Advertised}
use Rattle.applications.specs.declared.weights.table.WeightTable.{WeightTable}
use Rattle.applications.specs.declared.weights.table.WeightTable.TheVariants as table
use Rattle.applications.specs.Weights.{ListedWeights, table_of, weight_at}
use Rattle.command_line.specs.declared.remark.warnings.Warnings.{Warnings}

-- a key of the table that names this number names the Application
abbrev pub is_named : WeightTable → ℕ → App → Bool
is_named table.Host number app = app.host_id == number
is_named table.Media number app = app.media_id == number
is_named table.App number app = app.number == number

-- some Application of the module is named so
abbrev pub names_some : Advertised → WeightTable → ℕ → Bool
names_some advert table number = list_any (is_named table number) advert.apps

-- the number is unknown if and only if its weight is not 0 and no Application is named by it
abbrev pub is_unknown : Advertised → ListedWeights → WeightTable → ℕ → Bool
is_unknown advert weights table number = not (weight_at (table_of table weights) number == 0 || names_some advert table number)

abbrev pub unknown_in : Advertised → ListedWeights → WeightTable → List Bool
unknown_in advert weights table = map (is_unknown advert weights table) (range_with_len 0 256)

-- staying weighs something, and no lane of an Active Control Set that is looked at is in a data path
abbrev pub stays_unused : Advertised → ListedWeights → Bool
stays_unused advert weights = not (weights.stay == 0) && list_all (λ code. code == 0) advert.active.app_sel_codes

-- those of a plan for this module by these weights, which has paths or none
abbrev pub warnings_of : Advertised → ListedWeights → Bool → Warnings
warnings_of advert weights has_paths = record {
  unknown_hosts = unknown_in advert weights table.Host;
  unknown_media = unknown_in advert weights table.Media;
  unknown_apps = unknown_in advert weights table.App;
  stays_unused = stays_unused advert weights;
  has_no_paths = not has_paths;
}

abbrev pub nothing_unknown : List Bool
nothing_unknown = map (λ number. false) (range_with_len 0 256)

-- none
abbrev pub no_warnings : Warnings
no_warnings = record { unknown_hosts = nothing_unknown; unknown_media = nothing_unknown; unknown_apps = nothing_unknown; stays_unused = false; has_no_paths = false }
