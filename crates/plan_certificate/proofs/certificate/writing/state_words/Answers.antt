use Rattle.std.proofs.Common.{refl, arith}
use Rattle.std.proofs.lemmas.Fmt.{decimal_digit}
use Rattle.hex.specs.Hex.{encode_with}
use Rattle.plan_certificate.proofs.certificate.writing.state_words.Goals as goal

pub returns : goal.returns
unfolding encode_with
returns c = rw (c.digits.ensures, decimal_digit c.args.boundary (omega (arith, c.requires))) refl
