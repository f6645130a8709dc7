-- The samples of flags and of sums, of two lists.
use Rattle.std.proofs.Common.{◌≡◌, Bool, List, ◌++◌, map, ap, ◌∙◌}
use Rattle.std.proofs.lemmas.List.{map-append}
use Rattle.std.proofs.lemmas.List.Elements.{filter-append}
use Rattle.report_entries.specs.declared.flag.Flag.{Flag}
use Rattle.std.proofs.lemmas.Grind.{flat_map-append}
use Rattle.std.specs.List.{flat_map}
use Rattle.report_entries.specs.Entries.{Entry}
use Rattle.module_metrics.specs.ModuleMetrics.{entry_sums}
use Rattle.module_metrics.specs.FlagMetrics.{flag_sample, flags_in, is_in}

pub samples_append : (lanes : Bool) (xs ys : List (Flag × Bool)) → map flag_sample (flags_in lanes (xs ++ ys)) ≡ map flag_sample (flags_in lanes xs) ++ map flag_sample (flags_in lanes ys)
samples_append lanes xs ys = ap (map flag_sample) (filter-append (is_in lanes) xs ys) ∙ map-append flag_sample (flags_in lanes xs) (flags_in lanes ys)

pub sums_append : (xs ys : List Entry) → flat_map entry_sums (xs ++ ys) ≡ flat_map entry_sums xs ++ flat_map entry_sums ys
sums_append xs ys = flat_map-append entry_sums xs ys
