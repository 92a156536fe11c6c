use Rattle.page_sets.proofs.Looks.{node_tells, slots_tell, page_tells, rows_tell, centres_tell}
use Rattle.page_sets.proofs.looking.look.Goals as goal

pub returns-in-Node-clause-nodes : goal.returns-in-Node-clause-nodes
returns-in-Node-clause-nodes g c = λ all graph pages stands same has may.
    node_tells c.args.params.now (g.P.PageSet.held c.args.pages.now) all pages _ c.tell_node.new.told graph stands same c.args.ask.now has may
    c.in-Node.at c.in-Node.layer c.in-Node.version c.in-Node.is c.page.ensures c.tell_node.ensures.told

pub returns-in-List-clause-nodes : goal.returns-in-List-clause-nodes
returns-in-List-clause-nodes g c = λ all graph pages stands same has may.
    slots_tell c.args.params.now (g.P.PageSet.held c.args.pages.now) all pages _ c.tell_list.new.told graph stands same c.args.ask.now has may
    c.in-List.at c.in-List.list_at c.in-List.level c.in-List.version c.in-List.layer c.in-List.is c.page-in-List.ensures c.tell_list.ensures.told

pub returns-in-Page-clause-nodes : goal.returns-in-Page-clause-nodes
returns-in-Page-clause-nodes g c = λ all graph pages stands same has may.
    page_tells c.args.params.now (g.P.PageSet.held c.args.pages.now) all pages _ c.tell_page.new.told graph stands same c.args.ask.now has may
    c.tell_page.result c.in-Page.block c.in-Page.is c.page-in-Page.ensures c.tell_page.ensures.word c.tell_page.ensures.nodes

pub returns-in-Rows-clause-lists : goal.returns-in-Rows-clause-lists
returns-in-Rows-clause-lists g c = λ all graph pages stands has may.
    rows_tell c.args.params.now (g.P.PageSet.held c.args.pages.now) all pages _ c.tell_rows.new.told graph stands c.args.ask.now has may
    c.tell_rows.result c.in-Rows.block c.in-Rows.is c.page-in-Rows.ensures c.tell_rows.ensures.word c.tell_rows.ensures.rows c.tell_rows.ensures.next

pub returns-in-Centres-clause-lists : goal.returns-in-Centres-clause-lists
returns-in-Centres-clause-lists g c = λ all graph pages stands has may.
    centres_tell c.args.params.now (g.P.PageSet.held c.args.pages.now) all pages _ c.tell_centres.new.told graph stands c.args.ask.now has may
    c.tell_centres.result c.in-Centres.block c.in-Centres.is c.page-in-Centres.ensures c.tell_centres.ensures.word c.tell_centres.ensures.centres
