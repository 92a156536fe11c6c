use Rattle.std.proofs.Common.{◌+◌, ◌-◌, ◌∙◌, ℕ, List, length, sym, ap}
use Rattle.page_bytes.specs.Content.{item_at, round8, free_of}
use Rattle.page_redo.specs.OfParts.{may_put}
use Rattle.page_redo.proofs.Putting.{may_after, made_there, made_behind}
use Rattle.page_redo.proofs.Pairs.{no_option, some_option}
use Rattle.page_redo.proofs.two_places.may_put_after.Goals as goal

pub returns-in-Some : goal.returns-in-Some
returns-in-Some c = λ may_go x y after long list_long made.
    let page = c.args.page.now in
    let old = some_option (λ (x : List ℕ). length x) (item_at page.items c.args.off) c.in-Some.field-0 (sym c.item_long.ensures ∙ c.in-Some.is) in
    c.may_put.ensures
    ∙ ap (λ n. may_put (item_at page.items c.args.list_off) c.args.list_off c.args.list_may_go n (length page.items + 0 + 1) (free_of page - 0)) (sym list_long)
    ∙ sym (may_after page after c.args.off x c.args.list_off c.args.list_may_go y 0 0 c.requires.apart (made_there c.args.off may_go old.0 x page after old.1 made))

pub returns-in-None : goal.returns-in-None
returns-in-None c = λ may_go x y after long list_long made.
    let page = c.args.page.now in
    let none = no_option (λ (x : List ℕ). length x) (item_at page.items c.args.off) (sym c.item_long.ensures ∙ c.in-None.is) in
    c.may_put-in-None.ensures
    ∙ ap (λ n. may_put (item_at page.items c.args.list_off) c.args.list_off c.args.list_may_go n (length page.items + 1 + 1) (free_of page - c.room.result)) (sym list_long)
    ∙ ap (λ n. may_put (item_at page.items c.args.list_off) c.args.list_off c.args.list_may_go (length y) (length page.items + 1 + 1) (free_of page - n)) (c.room.ensures.told ∙ ap (λ n. round8 n + 4) (sym long))
    ∙ sym (may_after page after c.args.off x c.args.list_off c.args.list_may_go y 1 (round8 (length x) + 4) c.requires.apart (made_behind c.args.off may_go x page after none made))
