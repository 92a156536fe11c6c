use Rattle.std.proofs.Common.{◌≡◌, ◌&&◌, ◌==◌, Bool, true, false, Some, None, List, sym, ap, ◌∙◌}
use Rattle.graph_pages.specs.declared.decoded.Item.{Item}
use Rattle.graph_pages.specs.declared.decoded.Item.TheVariants as items
use Rattle.graph_pages.specs.declared.decoded.Item.TheVariants.{Element, Neither}
use Rattle.graph_pages.specs.Standing.{pointers, times_in}
use Rattle.graph_pages.specs.Decoding.{found, is_list_item_of}
use Rattle.graph_pages.proofs.DecodedItems.{verdict, judged}
use Rattle.graph_pages.proofs.block_rules.is_node_item.Goals as goal

pub returns-in-Some-Element : goal.returns-in-Some-Element
returns-in-Some-Element c = λ pages is tells.
    let p = c.args.params.now in
    let e = c.in-Some-Element.element in
    let here : Some (Element e) ≡ found c.args.items.now c.args.at = cc in
    c.is_list_item_of.ensures
    ∙ ap (is_list_item_of p.m e) (c.found-in-Some-Element.ensures ∙ ap (λ (i : List (List Item)). found i e.list_at) is)
    ∙ ap (verdict p pages c.args.at) (here ∙ ap (λ (i : List (List Item)). found i c.args.at) is)
    ∙ judged p pages c.args.at

pub returns-then-is_named_once : goal.returns-then-is_named_once
returns-then-is_named_once c = λ pages is tells.
    let p = c.args.params.now in
    let l = c.in-Some-List.list in
    let here : Some (items.List l) ≡ found c.args.items.now c.args.at = cc in
    let once : (times_in c.args.at (pointers p pages) == 1) ≡ true = sym (c.is_named_once.ensures (pointers p pages) tells) ∙ c.if-is_named_once.true in
    ap (λ (b : Bool). b && l.below) (sym once)
    ∙ ap (verdict p pages c.args.at) (here ∙ ap (λ (i : List (List Item)). found i c.args.at) is)
    ∙ judged p pages c.args.at

pub returns-else-is_named_once : goal.returns-else-is_named_once
returns-else-is_named_once c = λ pages is tells.
    let p = c.args.params.now in
    let l = c.in-Some-List.list in
    let here : Some (items.List l) ≡ found c.args.items.now c.args.at = cc in
    let once : (times_in c.args.at (pointers p pages) == 1) ≡ false = sym (c.is_named_once.ensures (pointers p pages) tells) ∙ c.if-is_named_once.false in
    c.if-is_named_once.false
    ∙ ap (λ (b : Bool). b && l.below) (sym once)
    ∙ ap (verdict p pages c.args.at) (here ∙ ap (λ (i : List (List Item)). found i c.args.at) is)
    ∙ judged p pages c.args.at

pub returns-in-Some-Neither : goal.returns-in-Some-Neither
returns-in-Some-Neither c = λ pages is tells.
    let p = c.args.params.now in
    let here : Some Neither ≡ found c.args.items.now c.args.at = cc in
    ap (verdict p pages c.args.at) (here ∙ ap (λ (i : List (List Item)). found i c.args.at) is) ∙ judged p pages c.args.at

pub returns-in-None : goal.returns-in-None
returns-in-None c = λ pages is tells.
    let p = c.args.params.now in
    let here : None ≡ found c.args.items.now c.args.at = cc in
    ap (verdict p pages c.args.at) (here ∙ ap (λ (i : List (List Item)). found i c.args.at) is) ∙ judged p pages c.args.at
