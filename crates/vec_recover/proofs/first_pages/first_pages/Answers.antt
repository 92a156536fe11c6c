use Rattle.std.proofs.Common.{◌≡◌, ◌≤◌, ◌∷◌, [], ◌+◌, ℕ, List, length, refl, sym, subst, arith}
use Rattle.std.specs.Vec.Iter.{into_iter_items}
use Rattle.vec_outside.specs.declared.disks.Area.TheVariants.{Pages}
use Rattle.page_bytes.specs.Content.{Content}
use Rattle.page_log.specs.Opening.{RisesBelow}
use Rattle.page_log.proofs.Fronts.{reads_on}
use Rattle.vec_recover.specs.Parts.{IsFilled, IsGap, IsOfBlock}
use Rattle.vec_recover.proofs.PagesBefore.{AreSoFar, all_there, missing_at, of_block_as, one_more}
use Rattle.vec_recover.proofs.first_pages.first_pages.Goals as goal

pub returns-in-Err-clause-missing : goal.returns-in-Err-clause-missing
returns-in-Err-clause-missing g c told =
    let area = (g.D.Disks.disk c.args.disks.now).seen Pages in
    let i = c.loop-image.invariant in
    let left = into_iter_items c.next.new.self in
    let is = c.in-Some.ensures.steps.0 in
    let rises : RisesBelow (length c.loop-image.pages.items) c.args.blocks (c.in-Some.image ∷ left) =
    subst (λ (l : List (ℕ × Content)). RisesBelow (length c.loop-image.pages.items) c.args.blocks l) is i.2 in
    let so_far : AreSoFar c.args.images.items (c.in-Some.image ∷ left) area c.loop-image.pages.items =
    subst (λ (l : List (ℕ × Content)). AreSoFar c.args.images.items l area c.loop-image.pages.items) is (i.4 told) in
    let few : c.in-Some.image.0 ≤ c.args.blocks = omega (arith, rises.1) in
    of_block_as
    (λ b gap. missing_at c.args.images.items area c.args.blocks c.in-Some.image.0 b (c.in-Some.image ∷ left) c.loop-image.pages.items so_far few
    (omega arith, rises.1, rises.2) gap)
    c.in-Err.fault
    (subst (λ (bytes : List ℕ). IsOfBlock (IsGap bytes (length c.loop-image.pages.items) c.in-Some.image.0) c.in-Err.fault) (i.5.kept.seen Pages) (c.in-Err.ensures.gap told))

pub loop-image-preserved : goal.loop-image-preserved
loop-image-preserved g c =
    let area = (g.D.Disks.disk c.args.disks.now).seen Pages in
    let i = c.loop-image.invariant in
    let left = into_iter_items c.next.new.self in
    let is = c.in-Some.ensures.steps.0 in
    let before = c.loop-image.pages.items in
    let mid = c.fill_to.new.pages.items in
    let rises : RisesBelow (length before) c.args.blocks (c.in-Some.image ∷ left) =
    subst (λ (l : List (ℕ × Content)). RisesBelow (length before) c.args.blocks l) is i.2 in
    let so_far : g.D.Disks.told → AreSoFar c.args.images.items (c.in-Some.image ∷ left) area before =
    λ told. subst (λ (l : List (ℕ × Content)). AreSoFar c.args.images.items l area before) is (i.4 told) in
    let long : length c.push.new.self.items ≡ c.in-Some.image.0 + 1 =
    omega (arith, c.in-Ok-push.ensures.len, c.push.new.self.ok.0, c.fill_to.new.pages.ok.0, c.in-Ok-fill_to.ensures.count) in (
      tt,
      tt,
      subst (λ (n : ℕ). RisesBelow n c.args.blocks left) (sym long) rises.2,
      omega (arith, long, rises.1),
      λ told.
          subst (λ (pages : List Content). AreSoFar c.args.images.items left area pages) (sym c.in-Ok-push.ensures.items)
          (one_more c.args.images.items area before mid c.args.blocks c.in-Some.image left (so_far told) rises
          (subst (λ (bytes : List ℕ). IsFilled bytes c.in-Some.image.0 before mid) (i.5.kept.seen Pages) (c.in-Ok-fill_to.ensures.ok told))),
      reads_on _ _ _ i.5 c.in-Ok-fill_to.ensures.only,
      omega (arith, i.6, c.in-Ok-fill_to.ensures.later),
    )

none_left : (xs : List (ℕ × Content)) (n : ℕ) → length xs ≡ n → n ≡ 0 → xs ≡ []
none_left [] n long none = refl
none_left (x ∷ xs) n long none = absurd (omega (arith, long, none))

pub returns-in-Ok-fill_to-2-clause-ok : goal.returns-in-Ok-fill_to-2-clause-ok
returns-in-Ok-fill_to-2-clause-ok g c told =
    let area = (g.D.Disks.disk c.args.disks.now).seen Pages in
    let i = c.loop-image.invariant in
    let so_far : AreSoFar c.args.images.items [] area c.loop-image.pages.items =
    subst (λ (l : List (ℕ × Content)). AreSoFar c.args.images.items l area c.loop-image.pages.items)
    (none_left c.loop-image.image-iterator.rest.items c.loop-image.image-iterator.rest.len (sym c.loop-image.image-iterator.rest.ok.0) c.in-None.ensures.steps.0) (i.4 told) in
    all_there c.args.images.items area c.loop-image.pages.items c.fill_to-2.new.pages.items c.args.blocks so_far
    (subst (λ (bytes : List ℕ). IsFilled bytes c.args.blocks c.loop-image.pages.items c.fill_to-2.new.pages.items) (i.5.kept.seen Pages)
    (c.in-Ok-fill_to-2.ensures.ok told))

pub returns-in-Err-fill_to-clause-missing : goal.returns-in-Err-fill_to-clause-missing
returns-in-Err-fill_to-clause-missing g c told =
    let area = (g.D.Disks.disk c.args.disks.now).seen Pages in
    let i = c.loop-image.invariant in
    let so_far : AreSoFar c.args.images.items [] area c.loop-image.pages.items =
    subst (λ (l : List (ℕ × Content)). AreSoFar c.args.images.items l area c.loop-image.pages.items)
    (none_left c.loop-image.image-iterator.rest.items c.loop-image.image-iterator.rest.len (sym c.loop-image.image-iterator.rest.ok.0) c.in-None.ensures.steps.0) (i.4 told) in
    let few : c.args.blocks ≤ c.args.blocks = omega arith in
    of_block_as
    (λ b gap. missing_at c.args.images.items area c.args.blocks c.args.blocks b [] c.loop-image.pages.items so_far few tt gap)
    c.in-Err-fill_to.fault
    (subst (λ (bytes : List ℕ). IsOfBlock (IsGap bytes (length c.loop-image.pages.items) c.args.blocks) c.in-Err-fill_to.fault) (i.5.kept.seen Pages)
    (c.in-Err-fill_to.ensures.gap told))
