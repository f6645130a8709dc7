use Rattle.std.proofs.Common.{◌≡◌, ◌++◌, take}
use Rattle.std.specs.List.{flat_map}
use Rattle.report_entries.specs.Entries.{as_entries}
use Rattle.module_details.specs.AppDetails.{app_entries}
use Rattle.module_details.proofs.apps.add_each_app.Given as goal

-- the Applications so far
abbrev pub invariant-loop-app : goal.invariant-loop-app
invariant-loop-app l = as_entries l.entries ≡ as_entries l.initial.entries ++ flat_map (app_entries l.flat l.media) (take l.app-index l.apps)
