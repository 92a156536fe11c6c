use Rattle.std.proofs.Common.{◌≡◌, ◌||◌, ◌==◌, not, false, length, sym, ap, ap₂, ◌∙◌, arith}
use Rattle.std.proofs.lemmas.Bool.{eq-eqb}
use Rattle.vec_tuples.specs.Reading.{links}
use Rattle.page_redo.specs.PageTuples.{in_whole, links_head}
use Rattle.page_redo.specs.declared.items.LinksHead.{LinksHead}
use Rattle.page_redo.proofs.Given.{map_is}
use Rattle.page_sets.proofs.NodeLooks.{found_slots, part_within}
use Rattle.page_sets.proofs.slots.tell_slots.Goals as goal

pub fill_slots-requires : goal.fill_slots-requires
fill_slots-requires c =
    let told = sym c.in-Some.is ∙ c.links_head_of.ensures.told in
    let l = map_is links_head (in_whole (links c.args.params.now c.args.item.now)) c.in-Some.head (sym told) in
    let spelled = c.links_head_of.ensures.spelled l.0 l.1 in
    let count : c.in-Some.head.count ≡ length l.0.tids = ap (λ (h : LinksHead). h.count) (sym l.2) in
    let part = part_within c.args.params.now.m c.args.look.level c.args.look.layer c.in-Some.head.count c.layer_part-from.result.0 c.layer_part-from.result.1
    c.layer_part-from.ensures.from c.layer_part-from.ensures.to in
    (l.0, spelled.1, omega (arith, part.1, count), part.0, omega (arith, part.1, count, spelled.0.count.0))

pub returns-clause-told : goal.returns-clause-told
returns-clause-told c =
    let told = sym c.in-Some.is ∙ c.links_head_of.ensures.told in
    let test : (c.in-Some.head.deleted || not (c.in-Some.head.version == c.args.look.version)) ≡ false =
    ap₂ (λ a b. a || not b) c.if-head.false (eq-eqb c.in-Some.head.version c.args.look.version c.if-head-look.false) in
    found_slots (in_whole (links c.args.params.now c.args.item.now)) c.in-Some.head c.args.params.now.m c.args.look.level c.args.look.version c.args.look.layer
    c.fill_slots.new.slots c.layer_part-from.result.0 c.layer_part-from.result.1 told test c.layer_part-from.ensures.from c.layer_part-from.ensures.to
    (λ l is. c.fill_slots.ensures l (c.links_head_of.ensures.spelled l is).1)
