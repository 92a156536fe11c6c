-- Redo on all blocks, of an event that touches one.
use Rattle.std.proofs.Common.{◌≡◌, inl, inr, ℕ, ◌<◌, List, [], ◌∷◌, length, get_or, Some, refl, sym, ap, subst, ◌∙◌, arith, lit<}
use Rattle.std.specs.Prelude.{slice_get, slice_set, All, Contains}
use Rattle.std.proofs.lemmas.Bool.{cases_eq}
use Rattle.std.proofs.lemmas.Option.{slice_get-get_or}
use Rattle.vec_history.specs.declared.event.Event.{Event}
use Rattle.page_bytes.specs.declared.kind.PageKind.TheVariants.{Hnsw}
use Rattle.page_bytes.specs.Content.{Content, IsPage}
use Rattle.vec_graph.specs.declared.graph.Graph.{Graph}
use Rattle.vec_graph.specs.Effect.{effect}
use Rattle.page_redo.specs.Redo.{touched, redone}
use Rattle.page_redo.proofs.Others.{set_apart}
use Rattle.page_redo.proofs.Putting.{set_here}
use Rattle.graph_pages.specs.Standing.{Stands}
use Rattle.graph_pages.specs.Effects.{RedoIsEffect}
use Rattle.page_redo.specs.Growing.{AreRedone}
use Rattle.page_redo.specs.Growing.{fresh_page}
use Rattle.page_redo.proofs.RedoneOnce.{same_all}
use Rattle.page_redo.proofs.OneFits.{only}

module _ (pages after : List Content) (g : Graph) (event : Event) (wrap number a : ℕ) (touches : touched event g.params ≡ a ∷ []) (within : a < length pages)
    (f : AreRedone g.params wrap number event pages after) where
  abbrev page : Content
  page = get_or pages a (fresh_page Hnsw)

  abbrev made : Content
  made = get_or after a (fresh_page Hnsw)

  there : slice_get pages a ≡ Some page
  there = slice_get-get_or pages a (fresh_page Hnsw) within

  there_now : slice_get after a ≡ Some made
  there_now = slice_get-get_or after a (fresh_page Hnsw) (omega (arith, within, f.count))

  touched_here : Contains (touched event g.params) a
  touched_here = subst (λ (blocks : List ℕ). Contains blocks a) (sym touches) (0, lit< tt, refl)

  redone_here : redone event g.params wrap number a page ≡ Some made
  redone_here = sym (f.there a page touched_here there) ∙ there_now

  after_is : after ≡ slice_set pages a made
  after_is = same_all after (slice_set pages a made) at_block
    where
      at_block : (block : ℕ) → slice_get after block ≡ slice_get (slice_set pages a made) block
      at_block block = elim (cases_eq a block) as (λ _. slice_get after block ≡ slice_get (slice_set pages a made) block) [
        | inl same ↦ ap (slice_get after) (sym same) ∙ there_now ∙ sym (set_here pages a page made there) ∙ ap (slice_get (slice_set pages a made)) same
        | inr apart ↦
            f.elsewhere block (λ h. apart (only a block (subst (λ (blocks : List ℕ). Contains blocks block) touches h)))
            ∙ sym (set_apart pages a block made apart)
      ]

  pub one_block : All IsPage pages → Stands pages g → RedoIsEffect pages g event → Stands after (effect wrap event g)
  one_block all stands is =
      subst (λ (l : List Content). Stands l (effect wrap event g)) (sym after_is) (is wrap number a page made all stands there redone_here)
