-- A board of an index that was read or made stands on what its pages stand for.
use Rattle.std.proofs.Common.{◌≡◌, ◌≤◌, ℕ, zero, suc, List, [], ◌∷◌, length, Option, Some, None, refl, sym, ap, subst, ◌∙◌}
use Rattle.std.specs.Prelude.{slice_get, All}
use Rattle.std.specs.Option.{option_and_then}
use Rattle.std.proofs.lemmas.List.Elements.{All-nil, All-cons}
use Rattle.index_sizes.specs.declared.limits.TheConstants.{MOST_BLOCKS}
use Rattle.vec_names.specs.declared.params.Params.{Params}
use Rattle.vec_names.specs.Params.{IsInRange}
use Rattle.vec_history.specs.declared.event.Event.{Event}
use Rattle.vec_history.specs.declared.event.Event.TheVariants as event
use Rattle.vec_history.specs.declared.event.Act.{Act}
use Rattle.vec_history.specs.Acts.{act_of, IsActAt}
use Rattle.vec_graph.specs.declared.graph.Graph.{Graph}
use Rattle.ivf_graph.specs.declared.graph.IvfGraph.{IvfGraph}
use Rattle.ivf_graph.specs.declared.list.IvfList.{IvfList}
use Rattle.page_bytes.specs.Content.{Content, IsPage}
use Rattle.vec_tuples.specs.declared.meta.Meta.{Meta}
use Rattle.vec_tuples.specs.Reading.{meta}
use Rattle.page_redo.specs.PageTuples.{in_whole, meta_at}
use Rattle.graph_pages.specs.Standing.{Stands}
use Rattle.graph_pages.proofs.StandingLaws.{root_is}
use Rattle.graph_pages.proofs.StandingShape as nodes_shape
use Rattle.graph_pages.proofs.PageShape.{shaped}
use Rattle.ivf_pages.specs.Standing as lists_pages
use Rattle.ivf_pages.proofs.Root as lists_root
use Rattle.ivf_pages.proofs.EventFits.{centre_long}
use Rattle.ivf_pages.proofs.OwnBlocks.{own_blocks}
use Rattle.ivf_pages.proofs.StandingLaws.{of_kind}
use Rattle.vec_steps.specs.Index.{Index, OfNodes, OfLists, IsShaped, IsOfParams}
use Rattle.index_pages.specs.Standing.{AreOf}
use Rattle.vec_board.specs.declared.board_core.Core.{Core}
use Rattle.vec_board.specs.declared.summary.Summary.{Summary}
use Rattle.vec_board.specs.Standing.{StandsOn, acts_of}
use Rattle.vec_board.specs.Summaries.{Summarizes}
use Rattle.vec_board.specs.Boards.{IsOfMeta, HoldsAlone, StandsWhole}
use Rattle.vec_board.specs.Doomed.{doomed_in}
use Rattle.vec_board.proofs.DoomedPages.{doomed_pages}
use Rattle.vec_board.proofs.ServedLaws.{counted_in}

-- what is known of an index is so
pub record IsKnown (p : Params) (s : Summary) (pages : List Content) (base : Index) : Type 0 where
  pub shaped : IsShaped base
  pub of_params : IsOfParams p base
  pub are_of : AreOf p pages base
  pub summary : Summarizes s base

all_at : {X : Type 0} (P : X → Type 0) (xs : List X) → ((i : ℕ) (x : X) → slice_get xs i ≡ Some x → P x) → All P xs
all_at P [] each = All-nil P
all_at P (x ∷ xs) each = All-cons P x xs (each zero x refl) (all_at P xs (λ i y is. each (suc i) y is))

of_meta : (o : Option Meta) (m : Meta) (p : Params) (s : Summary) → o ≡ Some m → IsOfMeta o p s → IsOfMeta (Some m) p s
of_meta o m p s is known = subst (λ (q : Option Meta). IsOfMeta q p s) is known

module _ (pages : List Content) (p : Params) (s : Summary) (few : length pages ≤ MOST_BLOCKS) (all : All IsPage pages)
    (known : IsOfMeta (option_and_then meta_at (slice_get pages 0)) p s) where
  pub nodes_known : s.doomed ≡ doomed_in p pages → (g : Graph) → Stands pages g → IsKnown p s pages (OfNodes g)
  nodes_known doomed g stands =
      let r = root_is pages stands.meta stands.read in
      let reads : option_and_then meta_at (slice_get pages 0) ≡ Some stands.meta =
      ap (option_and_then meta_at) r.there ∙ ap (λ o. option_and_then (λ x. in_whole (meta x)) o) r.is ∙ r.reads in
      let is = of_meta (option_and_then meta_at (slice_get pages 0)) stands.meta p s reads known in
      let same : p ≡ g.params = is.0 ∙ sym stands.params in
      record {
        shaped = shaped pages g few all stands;
        of_params = record {
          in_range = subst IsInRange (sym same) (nodes_shape.in_range pages g all stands);
          has = (ap (λ (q : Params). q.kind) same ∙ nodes_shape.of_kind pages g all stands, sym same);
        };
        are_of = record { few = few; bytes = all; stand = stands };
        summary = record {
          entry = is.1 ∙ sym stands.entry;
          level = is.2 ∙ sym stands.level;
          hint = is.3 ∙ sym stands.hint;
          doomed = doomed ∙ ap (λ (q : Params). doomed_in q pages) is.0 ∙ sym (doomed_pages pages g few all stands);
        };
      }

  pub lists_known : (q : Params) (g : IvfGraph) → lists_pages.Stands q pages g → IsKnown p s pages (OfLists g)
  lists_known q g stands =
      let r = lists_root.root_is pages q stands.params in
      let reads : option_and_then meta_at (slice_get pages 0) ≡ Some r.meta = ap (option_and_then meta_at) r.there ∙ r.reads in
      let same : p ≡ q = (of_meta (option_and_then meta_at (slice_get pages 0)) r.meta p s reads known).0 ∙ r.is_params in
      subst (λ (o : Params). IsKnown o s pages (OfLists g)) (sym same) (record {
        shaped = own_blocks q pages g stands;
        of_params = record {
          in_range = lists_root.in_range pages q all stands.params;
          has = (of_kind q pages g stands, stands.count, all_at (λ (l : IvfList). length l.centre ≡ q.bits) g.lists (centre_long q pages g all stands));
        };
        are_of = record { few = few; bytes = all; stand = stands };
        summary = tt;
      })

-- ---- no act yet

none_acted : (acts : List Act) → acts ≡ [] → (k desk : ℕ) (e : Event) → IsActAt acts k desk e → ⊥
none_acted acts none k desk e is =
    let nothing : slice_get acts k ≡ None = ap (λ (l : List Act). slice_get l k) none in
    let never : None ≡ Some (act_of desk e) = sym nothing ∙ is in
    cc

pub nobody_holds : (acts : List Act) → acts ≡ [] → HoldsAlone acts 0
nobody_holds acts none other gate differs holds = none_acted acts none holds.1.0 other (event.Gate gate holds.0) holds.1.1.taken

pub whole_loaded : (core : Core) (pages : List Content) (faults : ℕ) (base : Index) → acts_of core ≡ [] → StandsOn core pages base
    → StandsWhole core pages faults base
whole_loaded core pages faults base none stands = record {
  stands = stands;
  faults_are = λ k desk before is. absurd (none_acted (acts_of core) none k desk (event.DiskFaulted before) is);
  counted = counted_in core;
}

pub same_whole : (new over : Core) (now read : List Content) (faults : ℕ) (base : Index) → new ≡ over → now ≡ read → StandsWhole over read faults base
    → StandsWhole new now faults base
same_whole new over now read faults base core pages whole =
    subst (λ (k : Core). StandsWhole k now faults base) (sym core) (subst (λ (l : List Content). StandsWhole over l faults base) (sym pages) whole)
