use Rattle.std.proofs.Common.{ℕ, ◌-◌, [], ◌∷◌, ◌++◌, length, refl, ap, ◌∙◌, arith}
use Rattle.page_bytes.specs.Content.{Content}
use Rattle.page_bytes.specs.Splice.{with_item}
use Rattle.page_bytes.specs.Decoding.{content}
use Rattle.page_bytes.proofs.Placing.{rounds}
use Rattle.page_bytes.proofs.Whole.{page_after, content_after, ends}
use Rattle.page_bytes.proofs.Changes.{with_item-spells, item_from}
use Rattle.page_bytes.proofs.page.Page.add_item.Goals as goal

pub overflow_sub-upper : goal.overflow_sub-upper
overflow_sub-upper c =
    let e = ends c.self.inside.bytes c.args.self.now c.self.invariant c.self.view_is in
    omega (arith, e.lower, e.upper, e.room)

pub overflow_add-room : goal.overflow_add-room
overflow_add-room c = omega (arith, (rounds (length c.args.bytes.now)).close)

pub returns-then-upper-lower-clause-refused : goal.returns-then-upper-lower-clause-refused
returns-then-upper-lower-clause-refused c =
    let e = ends c.self.inside.bytes c.args.self.now c.self.invariant c.self.view_is in
    (λ _. omega (arith, e.lower, e.upper, e.room), λ _. refl)

pub place_item-requires-clause-fits : goal.place_item-requires-clause-fits
place_item-requires-clause-fits c =
    let e = ends c.self.inside.bytes c.args.self.now c.self.invariant c.self.view_is in
    omega (arith, e.lower, e.upper, e.room, (rounds (length c.args.bytes.now)).above)

pub overflow_sub-result : goal.overflow_sub-result
overflow_sub-result c =
    let e = ends c.self.inside.bytes c.args.self.now c.self.invariant c.self.view_is in
    omega (arith, e.lower)

pub invariant_of-self : goal.invariant_of-self
invariant_of-self c =
    let bytes = c.self.inside.bytes in
    let x = c.args.bytes.now in
    let e = ends bytes (content bytes) c.self.invariant refl in
    page_after _ _ _ (c.place_item.ensures ∙ ap (λ (r : ℕ). with_item bytes c.u16_at-lower.result (c.u16_at-upper.result - r) x) c.round_up_8-room.ensures) (with_item-spells bytes (content bytes) x c.u16_at-lower.result c.u16_at-upper.result c.self.invariant (item_from x c.requires.some (λ k. (c.type_inv.bytes k).fits)) (omega (arith, e.lower)) (omega (arith, e.upper)) (omega arith))

pub returns-clause-refused : goal.returns-clause-refused
returns-clause-refused c =
    let e = ends c.self.inside.bytes c.args.self.now c.self.invariant c.self.view_is in
    (λ no. absurd cc, λ no. absurd (omega (arith, e.lower, e.upper, e.room)))

pub returns-clause-offset : goal.returns-clause-offset
returns-clause-offset c =
    let e = ends c.self.inside.bytes c.args.self.now c.self.invariant c.self.view_is in
    omega (arith, e.lower)

pub returns-clause-added : goal.returns-clause-added
returns-clause-added c =
    let bytes = c.self.inside.bytes in
    let x = c.args.bytes.now in
    let e = ends bytes (content bytes) c.self.invariant refl in
    content_after _ _ _ (c.place_item.ensures ∙ ap (λ (r : ℕ). with_item bytes c.u16_at-lower.result (c.u16_at-upper.result - r) x) c.round_up_8-room.ensures) (with_item-spells bytes (content bytes) x c.u16_at-lower.result c.u16_at-upper.result c.self.invariant (item_from x c.requires.some (λ k. (c.type_inv.bytes k).fits)) (omega (arith, e.lower)) (omega (arith, e.upper)) (omega arith)) ∙ ap (λ (p : Content). record p { items = p.items ++ x ∷ [] }) c.self.view_is
