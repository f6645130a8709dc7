use Rattle.std.proofs.Common.{List, get_or, arith, rules, tests}
use Rattle.std.specs.List.{Contains}
use Rattle.std.proofs.lemmas.Bool.{MatchBool-at_true}
use Rattle.std.proofs.lemmas.Iterator.{YieldsList-from_slice, cases_from_all}
use Rattle.std.proofs.lemmas.Iterator.Search.{true_from_All}
use Rattle.std.proofs.lemmas.List.Elements.{All-contains, Contains-get_or}
use Rattle.lane_planner.proofs.Words.{Path}
use Rattle.lane_planner.proofs.first.has_all.Goals as goal

pub returns : goal.returns
returns c =
    let paths : List Path = c.args.paths.now in
    let others : List Path = c.args.others.now in
    let Lacks : Path → Type 0 = λ other. Contains paths other → ⊥ in
    let cases = cases_from_all _ _ _ (Contains paths) Lacks c.all.ensures.ran (YieldsList-from_slice others cc) (λ x q k. search (rules, tests)) (λ x q k. search (rules, tests)) in (
      (λ is path. let within = MatchBool-at_true _ _ is cases in All-contains (Contains paths) others path (λ k d inside. within k d (omega arith) inside)),
      (λ all. true_from_All (Contains paths) Lacks c.all.result others (λ other held lacks. lacks held) cases (λ k d below. all (get_or others k d) (Contains-get_or others k d below))),
    )
