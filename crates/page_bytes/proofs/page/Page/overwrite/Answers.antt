use Rattle.std.proofs.Common.{◌≡◌, ℕ, ◌+◌, ◌-◌, ◌*◌, ◌%◌, ◌^◌, [], length, get_or, slice_set, ap, subst, ◌∙◌, arith, sym}
use Rattle.std.specs.Prelude.{IsSomeAnd}
use Rattle.page_bytes.specs.Content.{Content, item_at}
use Rattle.page_bytes.specs.Splice.{spliced}
use Rattle.page_bytes.specs.Decoding.{content, word_at}
use Rattle.page_bytes.proofs.Placing.{rounds}
use Rattle.page_bytes.proofs.Whole.{page_after, content_after, item_points}
use Rattle.page_bytes.proofs.Changes.{overwritten_at, Stands, stands}
use Rattle.page_bytes.proofs.page.Page.overwrite.Goals as goal

there : (p q : Content) (off len : ℕ) → p ≡ q → IsSomeAnd (item_at q.items off) (λ x. length x ≡ len) → Stands p.items off len
there p q off len e h =
    stands p.items off len (subst (λ (r : Content). IsSomeAnd (item_at r.items off) (λ x. length x ≡ len)) (sym e) h)

pub put-requires : goal.put-requires
put-requires c =
    let bytes = c.self.inside.bytes in
    let t = there (content bytes) c.args.self.now c.args.off (length c.args.bytes.now) c.self.view_is c.requires in
    let p = item_points bytes c.args.off c.self.invariant t.low t.high in
    let at = c.u32_at-old.ensures ∙ ap (λ (off : ℕ). word_at bytes (20 + 4 * off)) c.from.ensures in
    omega (arith, at, t.same, p.place, (rounds (length (get_or (content bytes).items (c.args.off - 1) []))).above, c.self.told)

pub invariant_of-self : goal.invariant_of-self
invariant_of-self c =
    let bytes = c.self.inside.bytes in
    let x = c.args.bytes.now in
    let t = there (content bytes) c.args.self.now c.args.off (length x) c.self.view_is c.requires in
    let p = item_points bytes c.args.off c.self.invariant t.low t.high in
    let at = c.u32_at-old.ensures ∙ ap (λ (off : ℕ). word_at bytes (20 + 4 * off)) c.from.ensures in
    page_after _ _ _ (c.put.ensures ∙ ap (λ (w : ℕ). spliced bytes (w % 2 ^ 15) x) at) (overwritten_at bytes c.args.off x c.self.invariant t (λ k. (c.type_inv.bytes k).fits))

pub returns : goal.returns
returns c =
    let bytes = c.self.inside.bytes in
    let x = c.args.bytes.now in
    let t = there (content bytes) c.args.self.now c.args.off (length x) c.self.view_is c.requires in
    let p = item_points bytes c.args.off c.self.invariant t.low t.high in
    let at = c.u32_at-old.ensures ∙ ap (λ (off : ℕ). word_at bytes (20 + 4 * off)) c.from.ensures in
    content_after _ _ _ (c.put.ensures ∙ ap (λ (w : ℕ). spliced bytes (w % 2 ^ 15) x) at) (overwritten_at bytes c.args.off x c.self.invariant t (λ k. (c.type_inv.bytes k).fits)) ∙ ap (λ (p : Content). record p { items = slice_set p.items (c.args.off - 1) x }) c.self.view_is
