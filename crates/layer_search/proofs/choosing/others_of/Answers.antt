use Rattle.std.proofs.Common.{◌∙◌, Option, sym, ap}
use Rattle.std.specs.Vec.Iter.{into_iter_items}
use Rattle.vec_names.specs.declared.tid.Tid.{Tid}
use Rattle.graph_search.specs.Insert.{without}
use Rattle.layer_search.proofs.Chosen.{others_more, without_none}
use Rattle.layer_search.proofs.choosing.others_of.Goals as goal

pub returns-in_default : goal.returns-in_default
returns-in_default c = without_none c.args.found ∙ ap (λ (o : Option Tid). without o c.args.found) (sym c.in_default.is)

pub loop-element-preserved : goal.loop-element-preserved
loop-element-preserved c =
    others_more c.in-Some.except c.loop-element.others c.keep_other.new.others (into_iter_items c.next.new.self)
    (into_iter_items c.loop-element.element-iterator) _ c.in-Some-element.element c.in_ok-keep_other.ensures c.in-Some-element.ensures.steps.0
    c.loop-element.invariant
