use Rattle.std.proofs.Common.{arith}
use Rattle.plan_certificate.proofs.WrittenCertificates.{head_text}
use Rattle.plan_certificate.proofs.certificate.writing.head_of.Goals as goal

pub returns : goal.returns
returns c =
    let header = rw (c.header_of.ensures.line, c.as_slice-kept.ensures.value, c.kept.view_is, c.new-head.ensures) at c.add.ensures in
    let kept = rw (c.as_slice-kept.ensures.value, c.kept.view_is) at c.add_kept.ensures.written in
    let paths = rw (c.as_slice-paths.ensures.value, c.plan.view_is) at c.add_paths.ensures.written in
    record {
      written = head_text c.args.paired c.args.weight c.args.kept.now c.args.plan.now _ _ _ _ header c.add_weight.ensures.written kept paths;
      small = omega arith;
      kept_in_range = rw (c.as_slice-kept.ensures.value, c.kept.view_is) at c.add_kept.ensures.each;
      paths_in_range = rw (c.as_slice-paths.ensures.value, c.plan.view_is) at c.add_paths.ensures.each;
      few_kept = rw (c.as_slice-kept.ensures.value, c.kept.view_is) at c.as_slice-kept.ensures.fits;
      few_paths = rw (c.as_slice-paths.ensures.value, c.plan.view_is) at c.as_slice-paths.ensures.fits;
    }
