use Rattle.std.proofs.Common.{arith}
use Rattle.std.proofs.lemmas.Grind.{div_ceil_times}
use Rattle.firmware_laws.proofs.bus_laws.a_module_has_its_time.Goals as goal

pub returns-clause-longer : goal.returns-clause-longer
returns-clause-longer c duration = omega arith

pub returns-clause-polls : goal.returns-clause-polls
returns-clause-polls c duration = let times = div_ceil_times duration 1000 (omega arith) in let all = times.0 in omega (arith, all)
