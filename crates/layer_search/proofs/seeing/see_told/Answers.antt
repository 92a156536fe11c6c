use Rattle.layer_search.proofs.SlotsSeen.{member_seen, nowhere_seen, other_seen}
use Rattle.layer_search.proofs.seeing.see_told.Goals as goal

pub returns-in_default-clause-seen : goal.returns-in_default-clause-seen
returns-in_default-clause-seen c =
    let t = c.args.room.now.told in
    other_seen c.args.back.ops c.args.owner.now c.args.back.layer c.args.at t.word t.list_at t c.in_default.not-Node c.in_ok-see_without.ensures

pub returns-in_default-list_at-clause-seen : goal.returns-in_default-list_at-clause-seen
returns-in_default-list_at-clause-seen c =
    let t = c.args.room.now.told in
    nowhere_seen c.args.back.ops c.args.owner.now c.args.back.layer c.args.at t.word t.list_at t c.in_default-list_at.is c.in_ok-see_without-2.ensures

pub returns-clause-seen : goal.returns-clause-seen
returns-clause-seen c =
    let t = c.args.room.now.told in
    member_seen c.args.back.ops c.args.owner.now c.args.back.layer c.args.at t.word t.list_at c.in-Some._list_at t c.in-Node.is c.in-Some.is c.requires
    c.in_ok-see_member.ensures.seen
