use Rattle.firmware_laws.proofs.Feasible.{comes_to_an_end, starts_fresh}
use Rattle.firmware_laws.proofs.Needed.{later_two}
use Rattle.firmware_laws.proofs.Samples.{works_stores, works_two}
use Rattle.firmware_laws.proofs.laws.a_module_works.Goals as goal

pub returns-clause-banks : goal.returns-clause-banks
returns-clause-banks c = works_two

pub returns-clause-contents : goal.returns-clause-contents
returns-clause-contents c = works_stores

pub returns-clause-later : goal.returns-clause-later
returns-clause-later c = later_two

pub returns-clause-starts : goal.returns-clause-starts
returns-clause-starts c old image = starts_fresh old image

pub returns-clause-ends : goal.returns-clause-ends
returns-clause-ends c old image file more = comes_to_an_end old image file more
