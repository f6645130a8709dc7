use Rattle.std.proofs.Common.{◌≡◌, ℕ, ℤ, pos, ◌+◌, ◌<◌, ◌++◌, ◌∷◌, [], ap, ◌∙◌, get_or, length, take, arith}
use Rattle.std.proofs.lemmas.Grind.{common_steps, flat_map-append}
use Rattle.text_lines.specs.Lines.{text_of}
use Rattle.report_entries.specs.EntryText.{lane_line, lane_lines}
use Rattle.report_entries.proofs.Numbered.{numbered_more}
use Rattle.report_entries.proofs.entry_text.push_lanes.Goals as goal

pub loop-index-preserved : goal.loop-index-preserved
loop-index-preserved c =
    let name = c.args.name.now in
    let unit = c.args.unit in
    let values = c.args.values.now in
    let k = c.loop-index.index in
    let below : k < length values = omega (arith, c.loop-index-test.true) in
    let next = lane_line name unit (k + 1) (get_or values k (pos 0)) in
    let more : lane_lines name unit (take (k + 1) values) ≡ lane_lines name unit (take k values) ++ next ∷ [] =
    numbered_more (λ (l : ℕ × ℤ). lane_line name unit l.0 l.1) values k (pos 0) below in
    let text : text_of (lane_lines name unit (take (k + 1) values)) ≡ text_of (lane_lines name unit (take k values)) ++ text_of (next ∷ []) =
    ap text_of more ∙ flat_map-append (λ line. line ++ 10 ∷ []) (lane_lines name unit (take k values)) (next ∷ []) in
    grind (arith, common_steps)
