use Rattle.std.proofs.Common.{◌+◌, ◌*◌, ◌≤◌}
use Rattle.std.specs.FinMap as map
use Rattle.observable_reports.specs.FetchedObservables.{AreFirstRead}
use Rattle.observable_reports.proofs.fetching.fetch_observables.Given as goal

-- the banks before this one were read after what was fetched for reports
abbrev pub invariant-loop-bank : goal.invariant-loop-bank
invariant-loop-bank g l = record {
  read : AreFirstRead g.B.Bus.rules (g.B.Bus.seen l.initial.bus) l.initial.image l.bank (g.B.Bus.seen l.bus) l.image;
  few : map.len l.image ≤ 8 + 14 * l.bank;
}
