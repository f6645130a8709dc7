use Rattle.module_metrics.proofs.scaled.+push_fraction.Given as goal

abbrev pub decreases-push_fraction : goal.decreases-push_fraction
decreases-push_fraction l = l.places
