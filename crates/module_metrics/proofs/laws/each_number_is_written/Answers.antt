use Rattle.std.proofs.Common.{pos, negsuc, arith}
use Rattle.module_metrics.proofs.ScaledWrites.{writes_scaled, writes_thousandths}
use Rattle.module_metrics.proofs.laws.each_number_is_written.Goals as goal

pub returns-clause-metrics : goal.returns-clause-metrics
returns-clause-metrics c places (pos n) fits = writes_scaled places (pos n) (omega (arith, fits))
returns-clause-metrics c places (negsuc n) fits = writes_scaled places (negsuc n) (omega (arith, fits))

pub returns-clause-reports : goal.returns-clause-reports
returns-clause-reports c (pos n) fits = writes_thousandths (pos n) (omega (arith, fits))
returns-clause-reports c (negsuc n) fits = writes_thousandths (negsuc n) (omega (arith, fits))
