use Rattle.simulated_statistics.proofs.RequestLaws.{apart_asks_nothing, other_page_asks_nothing}
use Rattle.simulated_statistics.proofs.laws.no_other_store_is_a_request.Goals as goal

pub returns-clause-byte : goal.returns-clause-byte
returns-clause-byte c = apart_asks_nothing

pub returns-clause-page : goal.returns-clause-page
returns-clause-page c = other_page_asks_nothing
