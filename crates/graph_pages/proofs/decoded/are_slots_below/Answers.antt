use Rattle.std.proofs.Common.{◌&&◌, ◌+◌, Bool, drop, sym, ap, ◌∙◌, arith}
use Rattle.std.specs.List.{list_all}
use Rattle.std.proofs.lemmas.List.{drop_all}
use Rattle.graph_pages.specs.Standing.{is_slot_below}
use Rattle.graph_pages.proofs.SlotTests.{all_more, same_count}
use Rattle.graph_pages.proofs.decoded.are_slots_below.Goals as goal

pub returns-then-not-is_slot_below : goal.returns-then-not-is_slot_below
returns-then-not-is_slot_below c = λ l is.
    let f = is_slot_below c.args.blocks in
    sym (c.loop-i.invariant l is ∙ all_more f l.tids c.loop-i.i c.slot.result (c.slot.ensures l is)
    ∙ ap (λ (b : Bool). b && list_all f (drop (c.loop-i.i + 1) l.tids)) (sym c.is_slot_below.ensures ∙ c.if-not-is_slot_below.true))

pub loop-i-preserved : goal.loop-i-preserved
loop-i-preserved c = λ l is.
    let f = is_slot_below c.args.blocks in
    c.loop-i.invariant l is ∙ all_more f l.tids c.loop-i.i c.slot.result (c.slot.ensures l is)
    ∙ ap (λ (b : Bool). b && list_all f (drop (c.loop-i.i + 1) l.tids)) (sym c.is_slot_below.ensures ∙ c.if-not-is_slot_below.false)

pub returns : goal.returns
returns c = λ l is.
    let same = same_count c.requires.0 l (sym c.requires.1 ∙ is) in
    sym (c.loop-i.invariant l is ∙ ap (list_all (is_slot_below c.args.blocks)) (drop_all c.loop-i.i l.tids (omega (arith, same, c.requires.2))))
