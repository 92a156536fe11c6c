use Rattle.graph_search.proofs.NoEntry.{scan_of_none, scan_of_gone, lists_of_none, lists_of_gone}
use Rattle.graph_search.proofs.law.law_no_entry.Goals as goal

pub returns-clause-scan_of_none : goal.returns-clause-scan_of_none
returns-clause-scan_of_none c = scan_of_none

pub returns-clause-scan_of_gone : goal.returns-clause-scan_of_gone
returns-clause-scan_of_gone c = scan_of_gone

pub returns-clause-lists_of_none : goal.returns-clause-lists_of_none
returns-clause-lists_of_none c = lists_of_none

pub returns-clause-lists_of_gone : goal.returns-clause-lists_of_gone
returns-clause-lists_of_gone c = lists_of_gone
