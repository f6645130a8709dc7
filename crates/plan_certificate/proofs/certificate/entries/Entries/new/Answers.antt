use Rattle.std.proofs.Common.{◌≡◌, ℕ, List, [], Option, None, length, replicate, refl, sym, ap, ◌∙◌, inl, arith}
use Rattle.std.proofs.Math.ListN.{length-replicate}
use Rattle.plan_certificate.specs.EntryPlaces.{entries_of}
use Rattle.plan_certificate.proofs.EntryPlaces.{nothing_from, nothing_listed}
use Rattle.plan_certificate.proofs.certificate.entries.Entries.new.Goals as goal

pub invariant_of-result : goal.invariant_of-result
invariant_of-result g c = rw c.none.ensures record {
  all = length-replicate {A = Option ℕ} 2304 None;
  counted = ap length (sym (nothing_listed 2304));
  few = omega arith;
  within = omega arith;
  below = nothing_from 2304 0;
  last = inl refl;
  all_blocks = refl;
  blocked = λ place not. nothing_from 2304 0 place (omega arith);
}

pub returns : goal.returns
returns g c = rw c.none.ensures (λ i. record { text = []; entries = nothing_listed 2304 i })
