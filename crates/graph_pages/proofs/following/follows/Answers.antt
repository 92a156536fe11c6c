use Rattle.std.proofs.Common.{◌≤◌, arith}
use Rattle.graph_pages.proofs.FollowLaws.{mark_told, entry_told, link_told, relist_told, put_told, put_refused}
use Rattle.graph_pages.proofs.following.follows.Goals as goal

pub returns-then-may_put : goal.returns-then-may_put
returns-then-may_put c = λ g all stands same.
    let a : c.in-Put.version ≤ 255 = omega arith in
    let b : c.in-Put.level ≤ 255 = omega arith in
    put_told c.args.pages.now g c.args.params.now all stands same c.args.event.now c.in-Put.at c.in-Put.list_at c.in-Put.version c.in-Put.level c.in-Put.id
    c.in-Put.bits c.in-Put.lists c.may_put.result c.in-Put.is c.may_put.ensures a b c.are_below.result c.with_blocks.result c.if-may_put.true c.with_blocks.ensures
    (rw c.as_slice.ensures at c.are_below.ensures)

pub returns-else-may_put : goal.returns-else-may_put
returns-else-may_put c = λ g all stands same.
    let a : c.in-Put.version ≤ 255 = omega arith in
    let b : c.in-Put.level ≤ 255 = omega arith in
    put_refused c.args.pages.now g c.args.params.now all stands same c.args.event.now c.in-Put.at c.in-Put.list_at c.in-Put.version c.in-Put.level c.in-Put.id
    c.in-Put.bits c.in-Put.lists c.may_put.result c.in-Put.is c.may_put.ensures a b c.if-may_put.false

pub returns-then-has_list : goal.returns-then-has_list
returns-then-has_list c = λ g all stands same.
    link_told c.args.pages.now g c.args.params.now all stands same c.args.event.now c.in-Link.at c.in-Link.list_at c.in-Link.to c.in-Link.version c.in-Link.slot
    c.has_list.result c.in-Link.is c.has_list.ensures c.if-has_list.true

pub returns-then-has_list-2 : goal.returns-then-has_list-2
returns-then-has_list-2 c = λ g all stands same.
    relist_told c.args.pages.now g c.args.params.now all stands same c.args.event.now c.in-Relist.at c.in-Relist.list_at c.in-Relist.version c.in-Relist.lists
    c.has_list-in-Relist.result c.are_below-then-has_list-2.result c.in-Relist.is c.has_list-in-Relist.ensures c.if-has_list-2.true
    (rw c.as_slice-then-has_list-2.ensures at c.are_below-then-has_list-2.ensures)

pub returns-in-Mark : goal.returns-in-Mark
returns-in-Mark c = λ g all stands same.
    mark_told c.args.pages.now g c.args.params.now all stands same c.args.event.now c.in-Mark.at c.in-Mark.list_at c.in-Mark.version c.has_list-in-Mark.result
    c.in-Mark.is c.has_list-in-Mark.ensures

pub returns-in-Entry : goal.returns-in-Entry
returns-in-Entry c = λ g all stands same.
    entry_told c.args.pages.now g c.args.params.now all stands same c.args.event.now c.in-Entry.to c.in-Entry.level c.is_entry.result c.in-Entry.is c.is_entry.ensures
