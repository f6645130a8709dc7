use Rattle.lane_controls.proofs.TestEndLaws.{test_ends_so}
use Rattle.lane_controls.proofs.TestProgressLaws.{test_ends_in_time, test_waits_seldom}
use Rattle.lane_controls.proofs.laws.a_link_test_ends.Goals as goal

pub returns : goal.returns
returns c = record {
  in_time = λ plan events room own. test_ends_in_time plan room events own;
  seldom = λ plan events room own. test_waits_seldom plan room events own;
  so = λ plan first events end room some apart own going serves ended. test_ends_so plan first room some apart events end own going serves ended;
}
