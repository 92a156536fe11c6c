use Rattle.std.proofs.Common.{◌≡◌, ap, ◌∙◌}
use Rattle.std.specs.FinMap.{get, insert}
use Rattle.graph_pages.specs.Decoding.{so_often}
use Rattle.graph_pages.proofs.PointerLaws.{tells_more}
use Rattle.graph_pages.proofs.list_pointers.add_place.Goals as goal

pub returns : goal.returns
returns c = λ places tells at.
    let named = c.args.named.now in
    let often : c.so_often-so_often.result ≡ so_often (get named c.args.at) = c.so_often-so_often.ensures ∙ ap so_often (c.copied.ensures ∙ c.get.ensures) in
    ap (λ m. get m at) (c.in_ok-insert.ensures.ok ∙ ap (insert named c.args.at) often) ∙ tells_more named c.args.at places tells at
