-- The code of results stands for them.
use Rattle.std.proofs.Common.{◌≡◌, true, refl}
use Rattle.lane_controls.specs.declared.result_set.LaneQuad.TheVariants.{Lower, Upper}
use Rattle.lane_controls.specs.declared.result_set.ResultSet.{ResultSet}
use Rattle.lane_controls.specs.declared.result_set.ResultSet.TheVariants.{ErrorRatio, Counters, SignalToNoise, GatedErrorRatio, GatedCounters}
use Rattle.lane_controls.specs.declared.result_set.Side.TheVariants.{Host, Media}
use Rattle.saved_tests.specs.Selections.{code_for, is_selection, results_in}

pub results_back : (results : ResultSet) → results_in (code_for results) ≡ results
results_back ErrorRatio = refl
results_back (Counters Host Lower) = refl
results_back (Counters Host Upper) = refl
results_back (Counters Media Lower) = refl
results_back (Counters Media Upper) = refl
results_back (SignalToNoise Host) = refl
results_back (SignalToNoise Media) = refl
results_back GatedErrorRatio = refl
results_back (GatedCounters Host Lower) = refl
results_back (GatedCounters Host Upper) = refl
results_back (GatedCounters Media Lower) = refl
results_back (GatedCounters Media Upper) = refl

pub results_known : (results : ResultSet) → is_selection (code_for results) ≡ true
results_known ErrorRatio = refl
results_known (Counters Host Lower) = refl
results_known (Counters Host Upper) = refl
results_known (Counters Media Lower) = refl
results_known (Counters Media Upper) = refl
results_known (SignalToNoise Host) = refl
results_known (SignalToNoise Media) = refl
results_known GatedErrorRatio = refl
results_known (GatedCounters Host Lower) = refl
results_known (GatedCounters Host Upper) = refl
results_known (GatedCounters Media Lower) = refl
results_known (GatedCounters Media Upper) = refl
