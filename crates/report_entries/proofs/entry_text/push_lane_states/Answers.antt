use Rattle.std.proofs.Common.{◌≡◌, ℕ, ◌+◌, ◌<◌, ◌++◌, ◌∷◌, [], ap, ◌∙◌, get_or, length, take, arith}
use Rattle.std.proofs.lemmas.Grind.{common_steps, flat_map-append}
use Rattle.text_lines.specs.Lines.{text_of}
use Rattle.report_entries.specs.EntryText.{lane_state_line, lane_state_lines}
use Rattle.report_entries.specs.declared.entry.LaneState.{LaneState}
use Rattle.report_entries.proofs.Numbered.{numbered_more}
use Rattle.report_entries.proofs.entry_text.push_lane_states.Goals as goal

pub loop-index-preserved : goal.loop-index-preserved
loop-index-preserved c =
    let name = c.args.name.now in
    let states = c.args.states.now in
    let k = c.loop-index.index in
    let none : LaneState = record { path = 0; status = 0 } in
    let below : k < length states = omega (arith, c.loop-index-test.true) in
    let next = lane_state_line name (k + 1) (get_or states k none) in
    let more : lane_state_lines name (take (k + 1) states) ≡ lane_state_lines name (take k states) ++ next ∷ [] =
    numbered_more (λ (l : ℕ × LaneState). lane_state_line name l.0 l.1) states k none below in
    let text : text_of (lane_state_lines name (take (k + 1) states)) ≡ text_of (lane_state_lines name (take k states)) ++ text_of (next ∷ []) =
    ap text_of more ∙ flat_map-append (λ line. line ++ 10 ∷ []) (lane_state_lines name (take k states)) (next ∷ []) in
    grind (arith, common_steps)
