-- The index for which pages stand, by the meta tuple of block 0.
use Rattle.std.proofs.Common.{◌≡◌, ◌+◌, ℕ, List, [], ◌∷◌, ◌++◌, take, get_or, length, ◌≤◌, Some, sym, ap, subst, ◌∙◌}
use Rattle.std.specs.Prelude.{All, Ok, slice_get}
use Rattle.std.proofs.lemmas.List.{take_all, take_more}
use Rattle.std.proofs.lemmas.List.Elements.{All-same, All-push}
use Rattle.std.proofs.lemmas.Option.{slice_get_within, get_or_from_slice_get}
use Rattle.std.specs.Option.{option_and_then}
use Rattle.vec_names.specs.declared.params.Kind.TheVariants.{Hnsw, Ivf}
use Rattle.vec_names.specs.declared.params.Params.{Params}
use Rattle.page_bytes.specs.Content.{Content}
use Rattle.vec_tuples.specs.declared.meta.Meta.{Meta}
use Rattle.vec_tuples.specs.Reading.{meta}
use Rattle.page_redo.specs.PageTuples.{in_whole, meta_at}
use Rattle.vec_graph.specs.declared.graph.Graph.{Graph}
use Rattle.ivf_graph.specs.declared.graph.IvfGraph.{IvfGraph}
use Rattle.graph_pages.specs.Standing as nodes
use Rattle.graph_pages.proofs.StandingLaws as nodes_root
use Rattle.ivf_pages.specs.Standing as lists
use Rattle.ivf_pages.proofs.Root as lists_root
use Rattle.vec_recover.specs.Recovering.{meta_in}
use Rattle.vec_recover.specs.Parts.{IsJudged}

some_same : {A : Type 0} (x y : A) → Some x ≡ Some y → x ≡ y
some_same x y e = cc

nodes_meta : (pages : List Content) (a m : Meta) → nodes.root pages ≡ Some a → meta_in pages ≡ Some m → a ≡ m
nodes_meta pages a m root is =
    let r = nodes_root.root_is pages a root in
    let told : meta_in pages ≡ Some a =
    ap (option_and_then meta_at) r.there ∙ ap (option_and_then (λ x. in_whole (meta x))) r.is ∙ r.reads in
    some_same a m (sym told ∙ is)

lists_meta : (pages : List Content) (p : Params) (m : Meta) → lists.params_in pages ≡ Some p → meta_in pages ≡ Some m → p ≡ m.params
lists_meta pages p m params is =
    let r = lists_root.root_is pages p params in
    let told : meta_in pages ≡ Some r.meta = ap (option_and_then meta_at) r.there ∙ r.reads in
    sym r.is_params ∙ ap (λ (n : Meta). n.params) (some_same r.meta m (sym told ∙ is))

pub judged_nodes : (pages : List Content) (g : Graph) → nodes.Stands pages g → IsJudged Hnsw pages (Ok tt)
judged_nodes pages g s = λ m told kind. (g, s, s.params ∙ ap (λ (n : Meta). n.params) (nodes_meta pages s.meta m s.read told))

pub judged_lists : (pages : List Content) (g : IvfGraph) (p : Params) → lists.Stands p pages g → IsJudged Ivf pages (Ok tt)
judged_lists pages g p s = λ m told kind. (g, subst (λ (q : Params). lists.Stands q pages g) (lists_meta pages p m s.params told) s)

-- ---- bytes

pub all_more : (P : Content → Type 0) (pages : List Content) (k : ℕ) (page : Content) → slice_get pages k ≡ Some page → All P (take k pages) → P page
    → All P (take (k + 1) pages)
all_more P pages k page here all one =
    let inside = slice_get_within pages k page here in
    let same : page ≡ get_or pages k page = sym (get_or_from_slice_get pages k page page here) in
    All-same P (take (k + 1) pages) (take k pages ++ get_or pages k page ∷ []) (take_more pages k page inside)
    (All-push P (take k pages) (get_or pages k page) all (subst P same one))

pub all_of : (P : Content → Type 0) (pages : List Content) (k : ℕ) → length pages ≤ k → All P (take k pages) → All P pages
all_of P pages k past all = subst (All P) (take_all k pages past) all
