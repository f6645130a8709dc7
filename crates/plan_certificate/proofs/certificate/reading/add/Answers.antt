use Rattle.std.proofs.Common.{◌≡◌, ◌≢◌, ◌<◌, ◌≤◌, ℕ, List, ◌∷◌, ◌++◌, [], length, sym, ap, subst, ◌∙◌, arith, rules}
use Rattle.std.proofs.lemmas.List.{length-append}
use Rattle.plan_certificate.specs.declared.certificate.Entry.{Entry}
use Rattle.plan_certificate.specs.Certificates.{Claim}
use Rattle.plan_certificate.specs.declared.line.Line.TheVariants.{StateLine}
use Rattle.plan_certificate.specs.declared.stage.Stage.TheVariants.{Weighed}
use Rattle.plan_certificate.specs.CertificateText.{line_text}
use Rattle.plan_certificate.specs.ReadLines.{IsLineAt, claim_of}
use Rattle.plan_certificate.proofs.Drafts.{number_is}
use Rattle.plan_certificate.proofs.AddedLines.{IsAbove, keep_added, keep_alone, keep_fits, ninth_kept_path, ninth_path, low_state, last_state, path_fits, state_fits}
use Rattle.plan_certificate.proofs.ReadLines.{few_lines, stated_there, potential_there}
use Rattle.plan_certificate.proofs.certificate.reading.add.Goals as goal

pub returns-then-not-add_path-clause-fault : goal.returns-then-not-add_path-clause-fault
returns-then-not-add_path-clause-fault g c =
    let may = rw c.in-KeepLine.is at c.requires.in_turn in
    let fits = rw c.in-KeepLine.is at c.requires.fits in
    let claim : Claim = claim_of c.args.head.now c.args.entries.now.entries in
    let full : length claim.kept ≡ 8 = search rules in
    rw c.in-KeepLine.is (ninth_kept_path g.row.STATES c.args.stage claim c.in-KeepLine.path may c.requires.drafted fits full)

pub returns-else-not-add_path-clause-drafted : goal.returns-else-not-add_path-clause-drafted
returns-else-not-add_path-clause-drafted g c =
    let may = rw c.in-KeepLine.is at c.requires.in_turn in
    let fits = rw c.in-KeepLine.is at c.requires.fits in
    let claim : Claim = claim_of c.args.head.now c.args.entries.now.entries in
    let alone = keep_alone g.row.STATES c.args.stage claim c.in-KeepLine.path may c.requires.drafted in
    let pushed : c.add_path.new.plan ≡ claim.kept ++ c.in-KeepLine.path ∷ [] = search rules in
    let few : length c.add_path.new.plan ≤ 8 = search rules in
    keep_fits g.row.STATES claim c.in-KeepLine.path fits alone.0 alone.1 _
    (λ i. record { paired = claim.paired; weight = claim.weight; kept = pushed i; paths = claim.paths; entries = claim.entries })
    few c.requires.drafted.readable

pub returns-else-not-add_path-clause-added : goal.returns-else-not-add_path-clause-added
returns-else-not-add_path-clause-added g c =
    let may = rw c.in-KeepLine.is at c.requires.in_turn in
    let claim : Claim = claim_of c.args.head.now c.args.entries.now.entries in
    let pushed : c.add_path.new.plan ≡ claim.kept ++ c.in-KeepLine.path ∷ [] = search rules in
    rw c.in-KeepLine.is
    (keep_added g.row.STATES c.args.stage claim c.in-KeepLine.path may c.requires.drafted _
    (λ i. record { paired = claim.paired; weight = claim.weight; kept = pushed i; paths = claim.paths; entries = claim.entries }))

pub returns-then-not-add_path-2-clause-fault : goal.returns-then-not-add_path-2-clause-fault
returns-then-not-add_path-2-clause-fault g c =
    let may = rw c.in-PathLine.is at c.requires.in_turn in
    let fits = rw c.in-PathLine.is at c.requires.fits in
    let claim : Claim = claim_of c.args.head.now c.args.entries.now.entries in
    let full : length claim.paths ≡ 8 = search rules in
    rw (c.in-PathLine.is, may.0) (ninth_path g.row.STATES claim c.in-PathLine.path fits may.1 c.requires.drafted.readable.ordered full)

pub returns-else-not-add_path-2-clause-drafted : goal.returns-else-not-add_path-2-clause-drafted
returns-else-not-add_path-2-clause-drafted g c =
    let may = rw c.in-PathLine.is at c.requires.in_turn in
    let fits = rw c.in-PathLine.is at c.requires.fits in
    let claim : Claim = claim_of c.args.head.now c.args.entries.now.entries in
    let pushed : c.add_path-in-PathLine.new.plan ≡ claim.paths ++ c.in-PathLine.path ∷ [] = search rules in
    let few : length c.add_path-in-PathLine.new.plan ≤ 8 = search rules in
    path_fits g.row.STATES claim c.in-PathLine.path fits may.1 _
    (λ i. record { paired = claim.paired; weight = claim.weight; kept = claim.kept; paths = pushed i; entries = claim.entries })
    few c.requires.drafted.readable

pub returns-then-not-are_below-clause-fault : goal.returns-then-not-are_below-clause-fault
returns-then-not-are_below-clause-fault g c =
    let weighed = rw c.in-StateLine.is at c.requires.in_turn in
    let fits = rw c.in-StateLine.is at c.requires.fits in
    let counted = rw weighed at c.requires.counted in
    let claim : Claim = claim_of c.args.head.now c.args.entries.now.entries in
    let ranges = c.requires.drafted.readable.ordered.in_range in
    let low : ¬ (IsAbove claim.entries c.in-StateLine.entry) = λ above. (let yes = c.are_below.ensures.1 above in search rules) in
    let text = line_text (StateLine c.in-StateLine.entry) in
    let stops = low_state g.row.STATES claim c.in-StateLine.entry fits ranges low in
    rw (c.in-StateLine.is, weighed) (number_is Weighed claim ranges text c.args.number counted, stops.0, stops.1)

pub returns-then-is_full-clause-fault : goal.returns-then-is_full-clause-fault
returns-then-is_full-clause-fault g c =
    let weighed = rw c.in-StateLine.is at c.requires.in_turn in
    let fits = rw c.in-StateLine.is at c.requires.fits in
    let claim : Claim = claim_of c.args.head.now c.args.entries.now.entries in
    let above : IsAbove claim.entries c.in-StateLine.entry = c.are_below.ensures.0 (search rules) in
    let full : length claim.entries ≡ g.row.STATES = search rules in
    rw (c.in-StateLine.is, weighed) (last_state g.row.STATES claim c.in-StateLine.entry fits c.requires.drafted.readable.ordered above full)

pub push_stated-requires : goal.push_stated-requires
push_stated-requires g c =
    let weighed = rw c.in-StateLine.is at c.requires.in_turn in
    let fits = rw c.in-StateLine.is at c.requires.fits in
    let claim : Claim = claim_of c.args.head.now c.args.entries.now.entries in
    let at = c.args.at in
    let there : IsLineAt c.args.entries.now.text at (line_text (StateLine c.in-StateLine.entry)) c.args.number = rw c.in-StateLine.is at c.requires.line in
    let above : IsAbove claim.entries c.in-StateLine.entry = c.are_below.ensures.0 (search rules) in
    let room : length claim.entries < g.row.STATES = search rules in
    let few = few_lines g.row.STATES c.args.stage claim c.requires.drafted.readable c.is_full.ensures.few in
    (omega arith, (room, (fits.boundary, (above, (omega (arith, there.near, c.requires.counted, few), (λ large. stated_there c.args.entries.now.text at c.in-StateLine.entry c.args.number fits there, λ large. potential_there c.args.entries.now.text at c.in-StateLine.entry c.args.number fits there))))))

pub returns-else-is_full-clause-drafted : goal.returns-else-is_full-clause-drafted
returns-else-is_full-clause-drafted g c =
    let fits = rw c.in-StateLine.is at c.requires.fits in
    let claim : Claim = claim_of c.args.head.now c.args.entries.now.entries in
    let above : IsAbove claim.entries c.in-StateLine.entry = c.are_below.ensures.0 (search rules) in
    let room : length claim.entries < g.row.STATES = search rules in
    let entries : c.push_stated.new.self.entries ≡ claim.entries ++ c.in-StateLine.entry ∷ [] = search rules in
    let more = ap (λ (l : List Entry). length l) entries ∙ length-append claim.entries (c.in-StateLine.entry ∷ []) in
    let few : length c.push_stated.new.self.entries ≤ g.row.STATES = omega (arith, room, more) in
    state_fits g.row.STATES claim c.in-StateLine.entry fits _
    (λ i. record { paired = claim.paired; weight = claim.weight; kept = claim.kept; paths = claim.paths; entries = entries i })
    few above c.requires.drafted.readable
