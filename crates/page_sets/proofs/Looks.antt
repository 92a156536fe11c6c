-- What each kind of look tells, by what its page shows.
use Rattle.std.proofs.Common.{◌≡◌, ℕ, ◌-◌, ◌*◌, ◌<◌, ◌^◌, List, map, Option, Some, Result, Ok, Err, OnOk, refl, sym, ap, subst, ◌∙◌}
use Rattle.std.specs.Prelude.{All}
use Rattle.index_sizes.specs.Sizes.{centres_on_page}
use Rattle.vec_names.specs.declared.tid.Tid.{Tid}
use Rattle.vec_names.specs.declared.params.Params.{Params}
use Rattle.page_bytes.specs.Content.{Content, IsPage}
use Rattle.vec_tuples.specs.Reading.{element, links}
use Rattle.vec_graph.specs.declared.graph.Graph.{Graph}
use Rattle.graph_pages.specs.Standing.{Stands}
use Rattle.ivf_graph.specs.declared.graph.IvfGraph.{IvfGraph}
use Rattle.ivf_graph.specs.Looks as list
use Rattle.ivf_graph.specs.Looks.Answer.{OfCentres, OfRows}
use Rattle.ivf_pages.specs.Standing.{Stands as StandsForLists}
use Rattle.vec_steps.specs.declared.ask.Ask.{Ask}
use Rattle.vec_steps.specs.declared.ask.Ask.TheVariants as ask
use Rattle.vec_steps.specs.declared.told.Told.{Told}
use Rattle.vec_steps.specs.declared.told.Word.TheVariants as word
use Rattle.vec_steps.specs.Telling.{node_told, list_told, seen_told, row_told, centre_told}
use Rattle.page_sets.specs.Sets.{PageMap, HasPages}
use Rattle.page_sets.specs.Telling.{looked_at, MayLook, MayLookLists, TellsNodes, TellsLists, element_answer, slots_answer, read_on, element_shown, entry_shown, centre_shown, all_shown, items_on, next_on}
use Rattle.page_sets.proofs.NodeLooks.{node_says, slots_say}
use Rattle.page_sets.proofs.PageNodes.{page_says}
use Rattle.page_sets.proofs.RowLooks.{rows_say}
use Rattle.page_sets.proofs.CentreLooks.{centres_say, from_low}

on_ok : {A E : Type 0} {P Q : Type 0} (r : Result A E) → (P → Q) → OnOk r P → OnOk r Q
on_ok (Ok v) on p = on p
on_ok (Err f) on p = tt

both_ok : {A E : Type 0} {P Q R : Type 0} (r : Result A E) → (P → Q → R) → OnOk r P → OnOk r Q → OnOk r R
both_ok (Ok v) on p q = on p q
both_ok (Err f) on p q = tt

module _ (p : Params) (set : PageMap) (pages : List Content) (all : All IsPage pages) (held : Option Content) (t : Told) where
  module _ (g : Graph) (s : Stands pages g) (same : g.params ≡ p) (q : Ask) (has : HasPages set pages (looked_at q)) (may : MayLook g q) where
    pub node_tells : (at : Tid) (layer : ℕ) (version : Option ℕ) → q ≡ ask.Node at layer version → held ≡ set at.block
        → node_told t.word t.list_at t ≡ element_answer (read_on (element p) held at.off) layer version → TellsNodes g q t
    node_tells at layer version is here told =
        let has_is = subst (λ a. HasPages set pages (looked_at a)) is has in
        subst (λ a. TellsNodes g a t) (sym is) (told ∙ node_says pages g p all s same held at layer version (here ∙ has_is.0))

    pub slots_tell : (at list_at : Tid) (level version layer : ℕ) → q ≡ ask.List at list_at level version layer → held ≡ set list_at.block
        → list_told t.word t ≡ slots_answer p.m (read_on (links p) held list_at.off) level version layer → TellsNodes g q t
    slots_tell at list_at level version layer is here told =
        let has_is = subst (λ a. HasPages set pages (looked_at a)) is has in
        let may_is = subst (MayLook g) is may in
        subst (λ a. TellsNodes g a t) (sym is) (told ∙ slots_say pages g p all s same held at list_at level version layer (here ∙ has_is.0) may_is.0)

    pub page_tells : {A E : Type 0} (r : Result A E) (block : ℕ) → q ≡ ask.Page block → held ≡ set block → OnOk r (t.word ≡ word.Page)
        → OnOk r (map seen_told t.nodes ≡ all_shown (element_shown p block) 1 (items_on held)) → OnOk r (TellsNodes g q t)
    page_tells r block is here word_is told =
        let has_is = subst (λ a. HasPages set pages (looked_at a)) is has in
        both_ok r (λ w n. subst (λ a. TellsNodes g a t) (sym is) (w, n ∙ page_says pages g p all s same block held (here ∙ has_is.0))) word_is told

  module _ (g : IvfGraph) (s : StandsForLists p pages g) (q : Ask) (has : HasPages set pages (looked_at q)) (may : MayLookLists p.bits g q) where
    pub rows_tell : {A E : Type 0} (r : Result A E) (block : ℕ) → q ≡ ask.Rows block → held ≡ set block → OnOk r (t.word ≡ word.Rows)
        → OnOk r (map row_told t.rows ≡ all_shown (entry_shown p) 1 (items_on held)) → OnOk r (t.next ≡ next_on held) → OnOk r (TellsLists p.bits g q t)
    rows_tell r block is here word_is told next =
        let has_is = subst (λ a. HasPages set pages (looked_at a)) is has in
        let may_is = subst (MayLookLists p.bits g) is may in
        let Q : Type 0 = (map row_told t.rows ≡ all_shown (entry_shown p) 1 (items_on held)) × (t.next ≡ next_on held) in
        both_ok {Q = Q} r (λ w both. subst (λ a. TellsLists p.bits g a t) (sym is)
        (w, (λ i. Some (OfRows (both.0 i) (both.1 i))) ∙ rows_say p pages g s block may_is.0 held may_is.1 (here ∙ has_is.0)))
        word_is (both_ok r (λ a b. (a, b)) told next)

    pub centres_tell : {A E : Type 0} (r : Result A E) (block : ℕ) → q ≡ ask.Centres block → held ≡ set block → OnOk r (t.word ≡ word.Centres)
        → ((from : ℕ) → from ≡ (block - 1) * centres_on_page p.bits → from < 2 ^ 31
        → OnOk r (map centre_told t.centres ≡ all_shown (centre_shown p) from (items_on held))) → OnOk r (TellsLists p.bits g q t)
    centres_tell r block is here word_is told =
        let has_is = subst (λ a. HasPages set pages (looked_at a)) is has in
        let may_is = subst (MayLookLists p.bits g) is may in
        both_ok r (λ w n. subst (λ a. TellsLists p.bits g a t) (sym is)
        (w, ap (λ (l : List list.Centre). Some (OfCentres l)) n ∙ centres_say p pages g all s block may_is held (here ∙ has_is.0)))
        word_is (told ((block - 1) * centres_on_page p.bits) refl (from_low p pages g all s block may_is))
