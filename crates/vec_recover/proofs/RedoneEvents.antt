-- Events redone on pages that stand for an index, one after the other.
use Rattle.std.proofs.Common.{◌≡◌, ◌≤◌, ◌<◌, ◌^◌, ◌↔◌, ℕ, Bool, true, false, List, [], ◌∷◌, length, Some, None, true≢false, refl, sym, subst, ◌∙◌, inl, inr}
use Rattle.std.specs.Prelude.{All, IsTrue}
use Rattle.index_sizes.specs.declared.limits.TheConstants.{MOST_BLOCKS}
use Rattle.vec_names.specs.declared.params.Kind.{Kind}
use Rattle.vec_names.specs.declared.params.Kind.TheVariants.{Hnsw, Ivf}
use Rattle.vec_names.specs.declared.params.Params.{Params}
use Rattle.vec_history.specs.declared.event.Event.{Event}
use Rattle.page_bytes.specs.Content.{Content, IsPage}
use Rattle.vec_graph.specs.declared.graph.Graph.{Graph}
use Rattle.vec_graph.specs.Effect as nodes_effect
use Rattle.ivf_graph.specs.declared.graph.IvfGraph.{IvfGraph}
use Rattle.ivf_graph.specs.Effect as lists_effect
use Rattle.page_redo.specs.Growing.{AreAllRedone}
use Rattle.page_redo.specs.Replaying.{next_number}
use Rattle.graph_pages.specs.Standing as nodes
use Rattle.graph_pages.specs.Following as nodes_follow
use Rattle.graph_pages.proofs.RedoEffect as nodes_redo
use Rattle.graph_pages.proofs.BlocksKept as nodes_kept
use Rattle.graph_pages.proofs.PagesAfter as nodes_bytes
use Rattle.graph_replay.proofs.Replays.{effect_params}
use Rattle.ivf_pages.specs.Standing as lists
use Rattle.ivf_pages.specs.Following as lists_follow
use Rattle.ivf_pages.proofs.RedoEffect as lists_redo
use Rattle.ivf_pages.proofs.BlocksKept as lists_kept
use Rattle.ivf_pages.proofs.PagesKept as lists_bytes
use Rattle.page_log.specs.Batches.{Placed}
use Rattle.vec_recover.specs.Recovering.{AreRedoneAll, FollowsOf, StandOf, StopAt}
use Rattle.vec_recover.specs.declared.redoing.Redoing.{Redoing}
use Rattle.vec_recover.specs.Parts.{ArePages, IsNextBy, IsRedoneOrNot, IsReplayed}

-- ---- one event

module _ (p : Params) (pages : List Content) (event : Event) (result : Bool) where
  nodes_both : StandOf Hnsw p pages → ((g : Graph) → nodes.Stands pages g → g.params ≡ p → IsTrue result ↔ nodes_follow.Follows pages g event)
      → IsTrue result ↔ FollowsOf Hnsw p pages event
  nodes_both (g, stands, same) told =
      (λ yes. (g, stands, same, (told g stands same).0 yes), λ follows. (told follows.0 follows.1 follows.2).1 follows.3)

  lists_both : StandOf Ivf p pages → ((g : IvfGraph) → lists.Stands p pages g → IsTrue result ↔ lists_follow.Follows g event)
      → IsTrue result ↔ FollowsOf Ivf p pages event
  lists_both (g, stands) told =
      (λ yes. (g, stands, (told g stands).0 yes), λ follows. (told follows.0 follows.1).1 follows.2)

  pub nodes_told : (k : Kind) → k ≡ Hnsw → StandOf k p pages → ((g : Graph) → nodes.Stands pages g → g.params ≡ p → IsTrue result ↔ nodes_follow.Follows pages g event)
      → IsTrue result ↔ FollowsOf k p pages event
  nodes_told k is stand told =
      subst (λ (j : Kind). IsTrue result ↔ FollowsOf j p pages event) (sym is) (nodes_both (subst (λ (j : Kind). StandOf j p pages) is stand) told)

  pub lists_told : (k : Kind) → k ≡ Ivf → StandOf k p pages → ((g : IvfGraph) → lists.Stands p pages g → IsTrue result ↔ lists_follow.Follows g event)
      → IsTrue result ↔ FollowsOf k p pages event
  lists_told k is stand told =
      subst (λ (j : Kind). IsTrue result ↔ FollowsOf j p pages event) (sym is) (lists_both (subst (λ (j : Kind). StandOf j p pages) is stand) told)

module _ (p : Params) (wrap number : ℕ) (event : Event) (pages after : List Content) (low : number < 2 ^ 64) (few : length pages ≤ MOST_BLOCKS) (all : All IsPage pages)
    (are : AreAllRedone p wrap number event pages after) where
  stand_by : (k : Kind) → FollowsOf k p pages event → StandOf k p after × (length after ≤ MOST_BLOCKS) × All IsPage after
  stand_by Hnsw (g, stands, same, follows) =
      let are_g : AreAllRedone g.params wrap number event pages after = subst (λ (q : Params). AreAllRedone q wrap number event pages after) (sym same) are in (
        (nodes_effect.effect wrap event g, nodes_redo.redo_effect pages after g wrap number few all stands event follows are_g, effect_params wrap event g ∙ same),
        nodes_kept.blocks_kept pages g few event g.params wrap number after follows are_g,
        nodes_bytes.pages_after pages after g wrap number all stands event follows are_g low,
      )
  stand_by Ivf (g, stands, follows) = (
    (lists_effect.effect event g, lists_redo.redo_effect p pages after g wrap number few all stands event follows are),
    lists_kept.blocks_kept pages g few event p wrap number after follows are,
    lists_bytes.pages_kept p pages after event wrap number are g all stands follows low,
  )

  pub stands_after : FollowsOf p.kind p pages event → ArePages p after
  stands_after follows =
      let s = stand_by p.kind follows in
      record { stand = s.0; few = s.1; bytes = s.2 }

-- an event that follows is redone where its pages take it
pub redone_next : (how : Redoing) (event : Event) (old new : List Content) (b : Bool) → how.number < 2 ^ 64 → ArePages how.params old
    → FollowsOf how.params.kind how.params old event → IsRedoneOrNot how event old new b → IsNextBy how.params how.wrap how.number event old new b
redone_next how event old new true low a follows x =
    (record { follows = follows; has = x.0 }, x.1, stands_after how.params how.wrap how.number event old new low a.few a.bytes x.1 follows)
redone_next how event old new false low a follows x = λ can. x can.has

-- one that does not follow is not
pub never_follows : (p : Params) (wrap number : ℕ) (event : Event) (old new : List Content) (b : Bool) → b ≡ false
    → (FollowsOf p.kind p old event → IsTrue b) → IsNextBy p wrap number event old new false
never_follows p wrap number event old new b is told = λ can. true≢false (sym (told can.follows) ∙ is)

-- ---- all of them

-- What is left, redone from here on, is all, redone from the start.
pub record IsGoing (first : Redoing) (events left : List Placed) (old now : List Content) (number : ℕ) : Type 0 where
  pub pages : ArePages first.params now
  pub redone : (after : List Content) → AreRedoneAll first.params first.wrap number left now after
      → AreRedoneAll first.params first.wrap first.number events old after
  pub stop : (at : ℕ) → StopAt first.params first.wrap number left now at → StopAt first.params first.wrap first.number events old at

pub begins_so : (first : Redoing) (events : List Placed) (old : List Content) → ArePages first.params old → IsGoing first events events old old first.number
begins_so first events old pages = record { pages = pages; redone = λ after x. x; stop = λ at x. x }

module _ (first : Redoing) (events left : List Placed) (old now : List Content) (number : ℕ) (placed : Placed)
    (i : IsGoing first events (placed ∷ left) old now number) where
  pub goes_on : (new : List Content) (next : ℕ) → IsNextBy first.params first.wrap number placed.1 now new true → next ≡ next_number number
      → IsGoing first events left old new next
  goes_on new next x is = record {
    pages = x.2;
    redone = λ after z. i.redone after (x.0, (new, x.1, subst (λ (n : ℕ). AreRedoneAll first.params first.wrap n left new after) is z));
    stop = λ at z. i.stop at (inr (x.0, (new, x.1, subst (λ (n : ℕ). StopAt first.params first.wrap n left new at) is z)));
  }

  pub stops_here : (new : List Content) → IsNextBy first.params first.wrap number placed.1 now new false → (ended : List Content)
      → IsReplayed first events old ended (Some placed.0)
  stops_here new x ended = i.stop placed.0 (inl (refl, x))

pub all_redone : (first : Redoing) (events : List Placed) (old now : List Content) (number : ℕ) → IsGoing first events [] old now number
    → IsReplayed first events old now None
all_redone first events old now number i = (i.redone now refl, i.pages)
