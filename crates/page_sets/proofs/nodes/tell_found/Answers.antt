use Rattle.std.proofs.Common.{◌≡◌, List, Bool, length, sym, ap, ◌∙◌}
use Rattle.vec_tuples.specs.Reading.{element}
use Rattle.page_redo.specs.PageTuples.{in_whole}
use Rattle.graph_search.specs.Reads.{OfNode}
use Rattle.page_sets.proofs.ElementTold.{head_is, value_of, value_there}
use Rattle.page_sets.proofs.nodes.tell_found.Goals as goal

pub refill_from-requires : goal.refill_from-requires
refill_from-requires c =
    let v = value_there c.args.params.now c.args.item.now c.args.head c.requires.params c.requires.head c.requires.spelled in
    (v.0, v.1, v.2 ∙ sym c.requires.bits)

pub returns-clause-told : goal.returns-clause-told
returns-clause-told c = λ e is.
    let h = head_is (in_whole (element c.args.params.now c.args.item.now)) c.args.head e c.requires.head is in
    let v = value_of c.args.params.now c.args.item.now e c.requires.params (c.requires.spelled e is) in
    let bits : c.refill_from.new.bits ≡ e.bits = c.refill_from.ensures e.bits v.0 (v.1 ∙ sym c.requires.bits) in
    λ i. OfNode (h i).level (h i).version (h i).list_at (h i).ids.items (bits i)

pub returns-clause-bits : goal.returns-clause-bits
returns-clause-bits c =
    let v = value_there c.args.params.now c.args.item.now c.args.head c.requires.params c.requires.head c.requires.spelled in
    let long : length v.0 ≡ length c.args.told.now.bits = v.2 ∙ sym c.requires.bits in
    ap (λ (l : List Bool). length l) (c.refill_from.ensures v.0 v.1 long) ∙ long
