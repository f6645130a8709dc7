use Rattle.std.proofs.Common.{◌≡◌, ap, arith, rules, w16}
use Rattle.std.specs.Prelude.{◌<◌, ◌^◌, pos, FitsSigned, unsigned_abs}
use Rattle.std.proofs.lemmas.Int.{ints}
use Rattle.external_calibration.proofs.Lines.{count_small, product_is, product_small}
use Rattle.external_calibration.proofs.constants.Line.count.Goals as goal

pub returns-clause-value : goal.returns-clause-value
returns-clause-value c =
    let slope_small : c.args.self.slope < 2 ^ 16 = search rules in
    let offset_fits : FitsSigned w16 c.args.self.offset = search rules in
    let first : c.from.result ≡ pos c.args.self.slope = search rules in
    let second : c.from-2.result ≡ c.args.reading = search rules in
    let third : c.from-3.result ≡ c.args.self.offset = search rules in
    let product = product_is c.args.self.slope c.args.reading c.from.result c.from-2.result slope_small c.requires first second in
    let bound = product_small c.args.self.slope c.args.reading slope_small c.requires in
    omega (arith, ints, product, bound, third, offset_fits)

pub returns-clause-small : goal.returns-clause-small
returns-clause-small c =
    let slope_small : c.args.self.slope < 2 ^ 16 = search rules in
    let offset_fits : FitsSigned w16 c.args.self.offset = search rules in
    let same = returns-clause-value c in
    omega (arith, ap unsigned_abs same, count_small c.args.self.slope c.args.reading c.args.self.offset slope_small c.requires offset_fits)
