-- One event more, on an index of either method and on its pages.
use Rattle.std.proofs.Common.{◌≡◌, ℕ, ◌≤◌, ◌<◌, ◌^◌, All, true, false, List, [], ◌∷◌, ◌++◌, length, take, slice_get, refl, sym, ap, subst, ◌∙◌}
use Rattle.index_sizes.specs.declared.limits.TheConstants.{MOST_BLOCKS}
use Rattle.vec_names.specs.declared.params.Params.{Params}
use Rattle.vec_history.specs.declared.event.Event.{Event}
use Rattle.vec_history.specs.declared.event.Event.TheVariants as event
use Rattle.vec_history.specs.declared.event.Act.{Act}
use Rattle.vec_history.specs.Acts.{act_of}
use Rattle.vec_history.specs.Settling.{is_lasting}
use Rattle.vec_history.proofs.ByActs.{cut, allowed_at}
use Rattle.vec_history.proofs.OneMore.{act_last}
use Rattle.vec_event.specs.Spelling.{IsWritable}
use Rattle.page_bytes.specs.Content.{Content, IsPage}
use Rattle.vec_graph.specs.declared.graph.Graph.{Graph}
use Rattle.vec_graph.specs.Effect as nodes
use Rattle.vec_graph.specs.Legal as nodes_history
use Rattle.vec_graph.specs.Places.{IsOnBlocks}
use Rattle.vec_graph.proofs.Shaping.{on_blocks_of}
use Rattle.vec_graph.proofs.Levels.{after_append}
use Rattle.vec_graph.proofs.Asked.{same_params}
use Rattle.ivf_graph.specs.declared.graph.IvfGraph.{IvfGraph}
use Rattle.ivf_graph.specs.Effect as lists
use Rattle.ivf_graph.specs.Legal as lists_history
use Rattle.ivf_graph.proofs.Judging.{after_more}
use Rattle.graph_pages.specs.Standing.{Stands}
use Rattle.graph_pages.specs.Following.{Follows}
use Rattle.graph_pages.specs.Effects.{format_in}
use Rattle.page_redo.specs.Growing.{AreAllRedone}
use Rattle.page_redo.specs.Fitting.{FitsEach}
use Rattle.graph_replay.proofs.AllowedFits.{allowed_fits}
use Rattle.graph_replay.proofs.Replays.{one_event}
use Rattle.ivf_graph.specs.Rules as lists_rules
use Rattle.ivf_pages.specs.Standing as lists_pages
use Rattle.ivf_pages.specs.Following as lists_following
use Rattle.ivf_pages.proofs.AllowedFits.{allowed_fits as lists_fits_all}
use Rattle.ivf_pages.proofs.RedoEffect.{redo_effect as lists_effect}
use Rattle.ivf_pages.proofs.BlocksKept.{blocks_kept as lists_blocks}
use Rattle.ivf_pages.proofs.PagesKept.{pages_kept as lists_kept}
use Rattle.ivf_pages.proofs.Replays.{passing_stays}
use Rattle.ivf_pages.proofs.Written.{written as lists_writable}
use Rattle.vec_steps.specs.Index.{Index, OfNodes, OfLists, IsShaped, IsLegal, HasParams}
use Rattle.index_pages.specs.Standing.{AreOf, StandFor, index_after}

front : (acts : List Act) (a : Act) → take (length acts) (acts ++ a ∷ []) ≡ acts
front [] a = refl
front (x ∷ acts) a = ap (λ (l : List Act). x ∷ l) (front acts a)

-- what came before is legal, and the last act was allowed
pub nodes_before : (g : Graph) (acts : List Act) (a : Act) → nodes_history.IsLegal g (acts ++ a ∷ []) → nodes_history.IsLegal g acts
nodes_before g acts a legal =
    subst (nodes_history.IsLegal g) (front acts a) (cut (nodes_history.IsAllowed g) (acts ++ a ∷ []) (length acts) legal)

pub nodes_last : (g : Graph) (acts : List Act) (a : Act) → nodes_history.IsLegal g (acts ++ a ∷ []) → nodes_history.IsAllowed g acts a
nodes_last g acts a legal =
    subst (λ (l : List Act). nodes_history.IsAllowed g l a) (front acts a)
    (allowed_at (nodes_history.IsAllowed g) (acts ++ a ∷ []) (length acts) a legal (act_last acts a))

pub lists_last : (g : IvfGraph) (acts : List Act) (a : Act) → lists_history.IsLegal g (acts ++ a ∷ []) → lists_history.IsAllowed g acts a
lists_last g acts a legal =
    subst (λ (l : List Act). lists_history.IsAllowed g l a) (front acts a)
    (allowed_at (lists_history.IsAllowed g) (acts ++ a ∷ []) (length acts) a legal (act_last acts a))

-- ---- a graph of nodes

module _ (p : Params) (pages : List Content) (g : Graph) (acts : List Act) (desk : ℕ) (e : Event) (shaped : IsShaped (OfNodes g))
    (of : HasParams (OfNodes g) p) (are : AreOf p pages (OfNodes (nodes.after g acts))) (lasting : is_lasting e ≡ true)
    (legal : nodes_history.IsLegal g (acts ++ act_of desk e ∷ [])) where
  nodes_fit : Follows pages (nodes.after g acts) e × FitsEach pages (nodes.after g acts).params e × IsWritable e
  nodes_fit = allowed_fits pages g acts desk are.few are.bytes (on_blocks_of g shaped) (nodes_before g acts (act_of desk e) legal) are.stand
      e lasting (nodes_last g acts (act_of desk e) legal)

  now_params : (nodes.after g acts).params ≡ p
  now_params = same_params g acts ∙ of.1

  pub nodes_fits : FitsEach pages p e
  nodes_fits = subst (λ (q : Params). FitsEach pages q e) now_params nodes_fit.1

  pub nodes_written : IsWritable e
  nodes_written = nodes_fit.2

  pub nodes_stand : (after : List Content) (number : ℕ) → number < 2 ^ 64 → AreAllRedone p 255 number e pages after
      → AreOf p after (OfNodes (nodes.after g (acts ++ act_of desk e ∷ [])))
  nodes_stand after number low redone =
      let index = one_event pages after (nodes.after g acts) (format_in pages) e 255 number low
      (record { few = are.few; bytes = are.bytes; stands = are.stand; of_format = refl }) nodes_fit.0
      (subst (λ (q : Params). AreAllRedone q 255 number e pages after) (sym now_params) redone) in
      record {
        few = index.few;
        bytes = index.bytes;
        stand = subst (λ (h : Graph). Stands after h) (sym (after_append g acts (act_of desk e ∷ []))) index.stands;
      }

-- ---- an index of lists

module _ (p : Params) (pages : List Content) (g : IvfGraph) (acts : List Act) (desk : ℕ) (e : Event)
    (are : AreOf p pages (OfLists (lists.after g acts))) (lasting : is_lasting e ≡ true)
    (legal : lists_history.IsLegal g (acts ++ act_of desk e ∷ [])) where
  may : lists_rules.IsEventAllowed (lists.after g acts) acts desk e
  may = lists_last g acts (act_of desk e) legal

  lists_fit : lists_following.Follows (lists.after g acts) e × FitsEach pages p e
  lists_fit = lists_fits_all p pages (lists.after g acts) acts desk are.bytes are.stand e may lasting

  pub lists_fits : FitsEach pages p e
  lists_fits = lists_fit.1

  pub lists_written : IsWritable e
  lists_written = lists_writable p pages (lists.after g acts) are.few are.bytes are.stand acts desk e may lasting

  pub lists_stand : (after : List Content) (number : ℕ) → number < 2 ^ 64 → AreAllRedone p 255 number e pages after
      → AreOf p after (OfLists (lists.after g (acts ++ act_of desk e ∷ [])))
  lists_stand after number low redone =
      let stands = lists_effect p pages after (lists.after g acts) 255 number are.few are.bytes are.stand e lists_fit.0 redone in
      record {
        few = lists_blocks pages (lists.after g acts) are.few e p 255 number after lists_fit.0 redone;
        bytes = lists_kept p pages after e 255 number redone (lists.after g acts) are.bytes are.stand lists_fit.0 low;
        stand = subst (λ (h : IvfGraph). lists_pages.Stands p after h) (sym (after_more g acts (act_of desk e))) stands;
      }

-- ---- either

pub fits_next : (p : Params) (pages : List Content) (base : Index) (acts : List Act) (desk : ℕ) (e : Event) → IsShaped base → HasParams base p
    → AreOf p pages (index_after base acts) → is_lasting e ≡ true → IsLegal base (acts ++ act_of desk e ∷ []) → FitsEach pages p e
fits_next p pages (OfNodes g) acts desk e shaped of are lasting legal = nodes_fits p pages g acts desk e shaped of are lasting legal
fits_next p pages (OfLists g) acts desk e shaped of are lasting legal = lists_fits p pages g acts desk e are lasting legal

pub written_next : (p : Params) (pages : List Content) (base : Index) (acts : List Act) (desk : ℕ) (e : Event) → IsShaped base → HasParams base p
    → AreOf p pages (index_after base acts) → is_lasting e ≡ true → IsLegal base (acts ++ act_of desk e ∷ []) → IsWritable e
written_next p pages (OfNodes g) acts desk e shaped of are lasting legal = nodes_written p pages g acts desk e shaped of are lasting legal
written_next p pages (OfLists g) acts desk e shaped of are lasting legal = lists_written p pages g acts desk e are lasting legal

pub stand_next : (p : Params) (pages after : List Content) (base : Index) (acts : List Act) (desk number : ℕ) (e : Event) → IsShaped base → HasParams base p
    → AreOf p pages (index_after base acts) → is_lasting e ≡ true → IsLegal base (acts ++ act_of desk e ∷ [])
    → number < 2 ^ 64 → AreAllRedone p 255 number e pages after → AreOf p after (index_after base (acts ++ act_of desk e ∷ []))
stand_next p pages after (OfNodes g) acts desk number e shaped of are lasting legal low redone =
    nodes_stand p pages g acts desk e shaped of are lasting legal after number low redone
stand_next p pages after (OfLists g) acts desk number e shaped of are lasting legal low redone =
    lists_stand p pages g acts desk e are lasting legal after number low redone

-- ---- passing events

passing_nodes : (e : Event) (g : Graph) → is_lasting e ≡ false → nodes.effect 255 e g ≡ g
passing_nodes (event.Put at list_at version level id bits lists) g e = absurd cc
passing_nodes (event.Join at version id) g e = absurd cc
passing_nodes (event.Link at list_at version slot to) g e = absurd cc
passing_nodes (event.Relist at list_at version lists) g e = absurd cc
passing_nodes (event.Drop at version gone) g e = absurd cc
passing_nodes (event.Mark at list_at version) g e = absurd cc
passing_nodes (event.Entry to level) g e = absurd cc
passing_nodes (event.Hint block) g e = absurd cc
passing_nodes (event.IvfAdd block id bits) g e = absurd cc
passing_nodes (event.IvfGrow list last block id bits) g e = absurd cc
passing_nodes (event.IvfDrop block gone) g e = absurd cc
passing_nodes (event.IvfHint list block) g e = absurd cc
passing_nodes (event.Gate gate hold) g e = refl
passing_nodes (event.Ungate gate) g e = refl
passing_nodes (event.Phase stage) g e = refl
passing_nodes event.VacuumEnd g e = refl
passing_nodes (event.Cancel stage) g e = refl
passing_nodes (event.Settled upto) g e = refl
passing_nodes (event.DiskFaulted count) g e = refl

pub passing : (base : Index) (acts : List Act) (desk : ℕ) (e : Event) → is_lasting e ≡ false
    → index_after base (acts ++ act_of desk e ∷ []) ≡ index_after base acts
passing (OfNodes g) acts desk e passes =
    ap (λ (h : Graph). OfNodes h) (after_append g acts (act_of desk e ∷ []) ∙ passing_nodes e (nodes.after g acts) passes)
passing (OfLists g) acts desk e passes =
    ap (λ (h : IvfGraph). OfLists h) (after_more g acts (act_of desk e) ∙ passing_stays (lists.after g acts) e passes)
