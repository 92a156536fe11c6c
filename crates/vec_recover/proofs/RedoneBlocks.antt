-- An event, redone on one page after the other.
use Rattle.std.proofs.Common.{◌≡◌, ◌⊎◌, ◌↔◌, ℕ, Bool, true, false, List, length, slice_get, Option, Some, refl, sym, ap, subst, ◌∙◌, inl, inr}
use Rattle.std.proofs.lemmas.List.{length-set}
use Rattle.vec_history.specs.declared.event.Event.{Event}
use Rattle.page_bytes.specs.Content.{Content}
use Rattle.page_redo.specs.Redo.{redone}
use Rattle.page_redo.specs.Growing.{extended}
use Rattle.page_redo.proofs.Others.{set_apart}
use Rattle.page_redo.proofs.Putting.{set_here}
use Rattle.vec_recover.specs.declared.redoing.Redoing.{Redoing}
use Rattle.vec_recover.specs.Parts.{AreBlocksOrNot, AreRedoneBlocks, IsRedoneAt, IsRedoneAtBoth, IsRedoneOn, IsRedoneOrNot, TakesAt}

module _ (how : Redoing) (event : Event) where
  abbrev made : ℕ → Content → Option Content
  made block page = redone event how.params how.wrap how.number block page

  one_redone : (block : ℕ) (old new : List Content) → IsRedoneAt how event block old new true → AreRedoneBlocks how event (λ b. b ≡ block) old new
  one_redone block old new (page, there, after, redo, is) = record {
    count = ap (λ (l : List Content). length l) is ∙ length-set old block after;
    takes = λ b same. subst (TakesAt how event old) (sym same) (page, there, after, redo);
    there = λ b other same has. subst (λ (k : ℕ). slice_get old k ≡ Some other → slice_get new k ≡ made k other) (sym same) (here other) has;
    elsewhere = λ b apart. ap (λ (l : List Content). slice_get l b) is ∙ set_apart old block b after (λ same. apart (sym same));
  } where
    here : (other : Content) → slice_get old block ≡ Some other → slice_get new block ≡ made block other
    here other has =
        let same : page ≡ other = cc in
        ap (λ (l : List Content). slice_get l block) is ∙ set_here old block page after there ∙ sym redo ∙ ap (made block) same

  -- the other of two blocks is redone after the first
  both_redone : (first other : ℕ) (old mid new : List Content) → (first ≡ other → ⊥) → AreRedoneBlocks how event (λ b. b ≡ first) old mid
      → AreRedoneBlocks how event (λ b. b ≡ other) mid new → AreRedoneBlocks how event (λ b. (b ≡ first) ⊎ (b ≡ other)) old new
  both_redone first other old mid new differs x y = record {
    count = y.count ∙ x.count;
    takes = λ b is. elim is as (λ _. TakesAt how event old b) [
      | inl same ↦ x.takes b same
      | inr same ↦ taken b same
    ];
    there = λ b page is has. elim is as (λ _. slice_get new b ≡ made b page) [
      | inl same ↦ y.elsewhere b (λ also. differs (sym same ∙ also)) ∙ x.there b page same has
      | inr same ↦ y.there b page same (x.elsewhere b (λ also. differs (sym also ∙ same)) ∙ has)
    ];
    elsewhere = λ b apart. y.elsewhere b (λ same. apart (inr same)) ∙ x.elsewhere b (λ same. apart (inl same));
  } where
    taken : (b : ℕ) → b ≡ other → TakesAt how event old b
    taken b same =
        let t = y.takes b same in
        (t.0, sym (x.elsewhere b (λ also. differs (sym also ∙ same))) ∙ t.1, t.2, t.3)

  as_blocks : (Is Also : ℕ → Type 0) (old new : List Content) → ((block : ℕ) → Is block ↔ Also block) → AreRedoneBlocks how event Is old new
      → AreRedoneBlocks how event Also old new
  as_blocks Is Also old new same x = record {
    count = x.count;
    takes = λ b is. x.takes b ((same b).1 is);
    there = λ b page is has. x.there b page ((same b).1 is) has;
    elsewhere = λ b apart. x.elsewhere b (λ is. apart ((same b).0 is));
  }

  -- the same blocks, in other words
  pub blocks_same : (Is Also : ℕ → Type 0) (old new : List Content) → ((block : ℕ) → Is block ↔ Also block) → (b : Bool) → AreBlocksOrNot how event Is old new b
      → AreBlocksOrNot how event Also old new b
  blocks_same Is Also old new same true x = as_blocks Is Also old new same x
  blocks_same Is Also old new same false x = λ all. x (λ block is. all block ((same block).0 is))

  -- the first of two was not redone
  pub first_not : (first other : ℕ) (old new : List Content) → IsRedoneAt how event first old new false → IsRedoneAtBoth how event first other old new false
  first_not first other old new x = λ all.
      let t = all first (inl refl) in
      x t.0 t.2 t.1 t.3

  pub same_block : (first other : ℕ) (old new : List Content) → first ≡ other → IsRedoneAt how event first old new true → IsRedoneAtBoth how event first other old new true
  same_block first other old new same x =
      as_blocks (λ b. b ≡ first) (λ b. (b ≡ first) ⊎ (b ≡ other)) old new
      (λ b. (λ is. inl is, λ is. elim is as (λ _. b ≡ first) [ inl here ↦ here | inr there ↦ there ∙ sym same ])) (one_redone first old new x)

  pub then_other : (first other : ℕ) (old mid new : List Content) (b : Bool) → (first ≡ other → ⊥) → IsRedoneAt how event first old mid true → IsRedoneAt how event other mid new b
      → IsRedoneAtBoth how event first other old new b
  then_other first other old mid new true differs x y = both_redone first other old mid new differs (one_redone first old mid x) (one_redone other mid new y)
  then_other first other old mid new false differs x y = λ all.
      let t = all other (inr refl) in
      let m = one_redone first old mid x in
      y t.0 t.2 (m.elsewhere other (λ also. differs (sym also)) ∙ t.1) t.3

  -- what is said of the pages with fresh ones is said of those before
  pub of_extended : (old new : List Content) (b : Bool) → IsRedoneOn how event (extended event old) new b → IsRedoneOrNot how event old new b
  of_extended old new true x = (λ block is. x.takes block is, record { count = x.count; there = λ block page is has. x.there block page is has; elsewhere = x.elsewhere })
  of_extended old new false x = λ all. x all
