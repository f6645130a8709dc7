use Rattle.std.proofs.Common.{◌≡◌, ◌++◌, drop}
use Rattle.text_lines.specs.Lines.{text_of}
use Rattle.plan_drawing.specs.UsedApps.{app_lines}
use Rattle.plan_drawing.proofs.used_apps.push_apps.Given as goal

-- what is there, and the lines of the Applications that are left, are the whole
abbrev pub invariant-loop-app : goal.invariant-loop-app
invariant-loop-app l =
    l.initial.out.items ++ text_of (app_lines l.media_type l.paths l.fn.advert.apps)
    ≡ l.out.items ++ text_of (app_lines l.media_type l.paths (drop l.app-index l.fn.advert.apps))
