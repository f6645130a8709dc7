use Rattle.std.proofs.Common.{◌≡◌, ℕ, suc, ◌+◌, ◌++◌, ◌∷◌, [], ap, ◌∙◌, map, arith}
use Rattle.std.proofs.lemmas.Grind.{common_steps, flat_map-append}
use Rattle.std.proofs.lemmas.List.{map-append}
use Rattle.std.specs.List.{range_with_len}
use Rattle.json.specs.Tree.{json_tokens}
use Rattle.report_entries.specs.EntryJson.{count_json}
use Rattle.report_entries.specs.JsonTrees.{all_tokens}
use Rattle.report_entries.proofs.Numbered.{range_more}
use Rattle.plan_reports.proofs.json_plan.put_each_lane.Goals as goal

pub loop-index-preserved : goal.loop-index-preserved
loop-index-preserved c =
    let first = c.args.first in
    let k = c.loop-index.index in
    let lanes = range_with_len first k in
    let next : k + 1 ≡ suc k = omega arith in
    let more : map count_json (range_with_len first (k + 1)) ≡ map count_json lanes ++ count_json (first + k) ∷ [] =
    ap (λ (n : ℕ). map count_json (range_with_len first n)) next
    ∙ ap (map count_json) (range_more first k) ∙ map-append count_json lanes ((first + k) ∷ []) in
    let told : all_tokens (map count_json (range_with_len first (k + 1))) ≡ all_tokens (map count_json lanes) ++ all_tokens (count_json (first + k) ∷ []) =
    ap all_tokens more ∙ flat_map-append json_tokens (map count_json lanes) (count_json (first + k) ∷ []) in
    grind (arith, common_steps)
