-- The core of a board and all pages, after one act more.
use Rattle.std.proofs.Common.{◌≡◌, ◌≤◌, ◌<◌, ◌+◌, ◌^◌, ◌==◌, ℕ, Bool, true, false, cond, List, [], ◌∷◌, ◌++◌, length, Option, Some, None, refl, sym, ap, subst, ◌∙◌, arith}
use Rattle.std.proofs.lemmas.Bool.{eqb-true}
use Rattle.list_values.specs.Masks.{kept}
use Rattle.vec_names.specs.declared.tid.Tid.{Tid}
use Rattle.vec_names.specs.declared.heap_id.HeapId.{HeapId}
use Rattle.vec_names.specs.declared.params.Params.{Params}
use Rattle.vec_history.specs.declared.event.Event.{Event}
use Rattle.vec_history.specs.declared.event.Event.TheVariants as event
use Rattle.vec_history.specs.declared.event.Act.{Act}
use Rattle.vec_history.specs.Acts.{act_of}
use Rattle.vec_history.specs.Settling.{is_lasting}
use Rattle.vec_graph.specs.declared.node.Node.{Node}
use Rattle.vec_graph.specs.declared.graph.Graph.{Graph}
use Rattle.vec_graph.specs.Graph.{node_at}
use Rattle.vec_graph.specs.Effect.{effect, changed, changed_from, joined, linked, relisted, dropped, marked}
use Rattle.vec_graph.specs.Effect as nodes
use Rattle.vec_graph.specs.Rules.{IsEventAllowed}
use Rattle.vec_graph.proofs.Levels.{after_append}
use Rattle.vec_graph.proofs.Placing.{on_blocks_after}
use Rattle.vec_graph.proofs.Shaping.{on_blocks_of}
use Rattle.graph_law.specs.Counting.{one_if_none, doomed_count, added_at, added, ceased}
use Rattle.graph_law.proofs.DoomedCount.{counted}
use Rattle.page_bytes.specs.Content.{Content}
use Rattle.page_redo.specs.Growing.{blocks_after, new_kind, fresh_page}
use Rattle.page_sets.specs.Sets.{PageMap}
use Rattle.page_sets.proofs.Extended.{ext_longer}
use Rattle.vec_steps.specs.Index.{Index, OfNodes, OfLists, IsShaped, IsLegal, IsOfParams}
use Rattle.index_pages.specs.Standing.{AreOf, index_after}
use Rattle.index_pages.proofs.Next.{nodes_last, stand_next, passing}
use Rattle.vec_board.specs.declared.board_core.Core.{Core}
use Rattle.vec_board.specs.declared.summary.Summary.{Summary}
use Rattle.vec_board.specs.Summaries.{IsSummaryOf, Summarizes, summary_after, IsLeft}
use Rattle.vec_board.specs.Standing.{StandsOn, acts_of}
use Rattle.vec_board.specs.Acting.{IsMade, AreMade}

-- ---- blocks

upward : (e : Event) (n : ℕ) → n ≤ blocks_after e n
upward (event.Put at list_at version level id bits lists) n = omega arith
upward (event.IvfGrow list last block id bits) n = omega arith
upward _ n = omega arith

passing_blocks : (e : Event) (n : ℕ) → is_lasting e ≡ false → blocks_after e n ≡ n
passing_blocks (event.Put at list_at version level id bits lists) n passes = absurd cc
passing_blocks (event.IvfGrow list last block id bits) n passes = absurd cc
passing_blocks _ n passes = refl

next_blocks : (old new : PageMap) (all after : List Content) (e : Event) (p : Params) (number : ℕ)
    → AreMade (is_lasting e) old new all after e p number → length after ≡ blocks_after e (length all)
next_blocks old new all after e p number made = by (is_lasting e) refl made where
  by : (b : Bool) → is_lasting e ≡ b → AreMade b old new all after e p number → length after ≡ blocks_after e (length all)
  by true lasts made = made.redone.count ∙ ext_longer all (length all) (blocks_after e (length all)) (fresh_page (new_kind e)) refl (upward e (length all))
  by false passes made = ap (λ (l : List Content). length l) made.0 ∙ sym (passing_blocks e (length all) passes)

summary_blocks : (s : Summary) (e : Event) (left : ℕ) → (summary_after s e left).blocks ≡ blocks_after e s.blocks
summary_blocks s (event.Drop at version gone) left = refl
summary_blocks s (event.Mark at list_at version) left = refl
summary_blocks s (event.Entry to level) left = refl
summary_blocks s (event.Hint block) left = refl
summary_blocks s _ left = refl

-- ---- pages

next_pages : (old new : PageMap) (p : Params) (all after : List Content) (base : Index) (acts : List Act) (desk number : ℕ) (e : Event)
    → IsShaped base → IsOfParams p base → AreOf p all (index_after base acts) → IsLegal base (acts ++ act_of desk e ∷ []) → number < 2 ^ 64
    → AreMade (is_lasting e) old new all after e p number → AreOf p after (index_after base (acts ++ act_of desk e ∷ []))
next_pages old new p all after base acts desk number e shaped of are legal low made = by (is_lasting e) refl made where
  by : (b : Bool) → is_lasting e ≡ b → AreMade b old new all after e p number → AreOf p after (index_after base (acts ++ act_of desk e ∷ []))
  by true lasts made = stand_next p all after base acts desk number e shaped of.has are lasts legal low made.redone
  by false passes made =
      subst (λ (i : Index). AreOf p after i) (sym (passing base acts desk e passes))
      (subst (λ (l : List Content). AreOf p l (index_after base acts)) (sym made.0) are)

-- ---- the summary

changed_entry : (g : Graph) (at : Tid) (f : Node → Node) → (changed g at f).entry ≡ g.entry
changed_entry g at f = by (node_at g at) where
  by : (o : Option Node) → (changed_from g at f o).entry ≡ g.entry
  by None = refl
  by (Some n) = refl

changed_level : (g : Graph) (at : Tid) (f : Node → Node) → (changed g at f).level ≡ g.level
changed_level g at f = by (node_at g at) where
  by : (o : Option Node) → (changed_from g at f o).level ≡ g.level
  by None = refl
  by (Some n) = refl

changed_hint : (g : Graph) (at : Tid) (f : Node → Node) → (changed g at f).hint ≡ g.hint
changed_hint g at f = by (node_at g at) where
  by : (o : Option Node) → (changed_from g at f o).hint ≡ g.hint
  by None = refl
  by (Some n) = refl

entry_by : (s : Summary) (g : Graph) (e : Event) (left : ℕ) → s.entry ≡ g.entry → (summary_after s e left).entry ≡ (effect 255 e g).entry
entry_by s g (event.Join at version id) left is = is ∙ sym (changed_entry g at (joined id))
entry_by s g (event.Link at list_at version slot to) left is = is ∙ sym (changed_entry g at (linked slot to))
entry_by s g (event.Relist at list_at version lists) left is = is ∙ sym (changed_entry g at (relisted lists))
entry_by s g (event.Drop at version gone) left is = is ∙ sym (changed_entry g at (dropped gone))
entry_by s g (event.Mark at list_at version) left is = is ∙ sym (changed_entry g at (marked 255))
entry_by s g (event.Entry to level) left is = refl
entry_by s g _ left is = is

level_by : (s : Summary) (g : Graph) (e : Event) (left : ℕ) → s.level ≡ g.level → (summary_after s e left).level ≡ (effect 255 e g).level
level_by s g (event.Join at version id) left is = is ∙ sym (changed_level g at (joined id))
level_by s g (event.Link at list_at version slot to) left is = is ∙ sym (changed_level g at (linked slot to))
level_by s g (event.Relist at list_at version lists) left is = is ∙ sym (changed_level g at (relisted lists))
level_by s g (event.Drop at version gone) left is = is ∙ sym (changed_level g at (dropped gone))
level_by s g (event.Mark at list_at version) left is = is ∙ sym (changed_level g at (marked 255))
level_by s g (event.Entry to level) left is = refl
level_by s g _ left is = is

hint_by : (s : Summary) (g : Graph) (e : Event) (left : ℕ) → s.hint ≡ g.hint → (summary_after s e left).hint ≡ (effect 255 e g).hint
hint_by s g (event.Join at version id) left is = is ∙ sym (changed_hint g at (joined id))
hint_by s g (event.Link at list_at version slot to) left is = is ∙ sym (changed_hint g at (linked slot to))
hint_by s g (event.Relist at list_at version lists) left is = is ∙ sym (changed_hint g at (relisted lists))
hint_by s g (event.Drop at version gone) left is = is ∙ sym (changed_hint g at (dropped gone))
hint_by s g (event.Mark at list_at version) left is = is ∙ sym (changed_hint g at (marked 255))
hint_by s g (event.Hint block) left is = refl
hint_by s g _ left is = is

none_left : (ids : List HeapId) → one_if_none ids ≡ cond (length ids == 0) 1 0
none_left [] = refl
none_left (id ∷ ids) = by (length (id ∷ ids) == 0) refl where
  by : (b : Bool) → (length (id ∷ ids) == 0) ≡ b → one_if_none (id ∷ ids) ≡ cond b 1 0
  by true e = let k = eqb-true _ _ e in absurd (omega (arith, k))
  by false e = refl

module _ (base : Graph) (acts : List Act) (desk : ℕ) (shaped : IsShaped (OfNodes base)) where
  doomed_by : (s : Summary) (e : Event) (left : ℕ) → IsEventAllowed base acts desk e → IsLeft (OfNodes (nodes.after base acts)) e left
      → s.doomed ≡ doomed_count (nodes.after base acts) → (summary_after s e left).doomed ≡ doomed_count (effect 255 e (nodes.after base acts))
  doomed_by s e left may told is = by e may told (counted base acts desk (on_blocks_after base acts (on_blocks_of base shaped)) e may) where
    g : Graph
    g = nodes.after base acts

    by : (e : Event) → IsEventAllowed base acts desk e → IsLeft (OfNodes (nodes.after base acts)) e left
        → doomed_count (effect 255 e (nodes.after base acts)) + ceased e ≡ doomed_count (nodes.after base acts) + added (nodes.after base acts) e
        → (summary_after s e left).doomed ≡ doomed_count (effect 255 e (nodes.after base acts))
    by (event.Drop at version gone) may told count =
        let stands = may.there.stands in
        let here : added_at gone (node_at (nodes.after base acts) at) ≡ cond (left == 0) 1 0 =
        ap (added_at gone) stands ∙ none_left (kept gone may.node.ids) ∙ ap (λ n. cond (n == 0) 1 0) (sym (told may.node stands)) in
        omega (arith, is, count, here)
    by (event.Mark at list_at version) may told count = omega (arith, is, count)
    by _ may told count = omega (arith, is, count)

next_summary : (s : Summary) (base : Index) (acts : List Act) (desk : ℕ) (e : Event) (left : ℕ) → IsShaped base
    → IsLegal base (acts ++ act_of desk e ∷ []) → IsLeft (index_after base acts) e left → Summarizes s (index_after base acts)
    → Summarizes (summary_after s e left) (index_after base (acts ++ act_of desk e ∷ []))
next_summary s (OfNodes g) acts desk e left shaped legal told is =
    let may = nodes_last g acts (act_of desk e) legal in
    let now = nodes.after g acts in
    let next : IsSummaryOf (summary_after s e left) (effect 255 e now) = record {
      entry = entry_by s now e left is.entry;
      level = level_by s now e left is.level;
      hint = hint_by s now e left is.hint;
      doomed = doomed_by g acts desk shaped s e left may told is.doomed;
    } in
    subst (IsSummaryOf (summary_after s e left)) (sym (after_append g acts (act_of desk e ∷ []))) next
next_summary s (OfLists g) acts desk e left shaped legal told is = tt

-- ---- all

pub next_stands : (old new : Core) (before behind : PageMap) (all after : List Content) (base : Index) (desk : ℕ) (e : Event) (left : ℕ)
    → old.number < 2 ^ 64 → StandsOn old all base → IsLegal base (acts_of old ++ act_of desk e ∷ []) → IsLeft (index_after base (acts_of old)) e left
    → IsMade old new desk e left → AreMade (is_lasting e) before behind all after e old.params old.number → StandsOn new after base
next_stands old new before behind all after base desk e left low s legal told made pages =
    let acts = made.acts in
    let are = next_pages before behind old.params all after base (acts_of old) desk old.number e s.shaped s.of_params s.pages legal low pages in
    let sums = next_summary old.summary base (acts_of old) desk e left s.shaped legal told s.summary in
    record {
      shaped = s.shaped;
      of_params = subst (λ (p : Params). IsOfParams p base) (sym made.params) s.of_params;
      legal = subst (IsLegal base) (sym acts) legal;
      told = made.tells s.told;
      pages = subst (λ (p : Params). AreOf p after (index_after base (acts_of new))) (sym made.params)
          (subst (λ (l : List Act). AreOf old.params after (index_after base l)) (sym acts) are);
      blocks = ap (λ (x : Summary). x.blocks) made.summary ∙ summary_blocks old.summary e left ∙ ap (blocks_after e) s.blocks
          ∙ sym (next_blocks before behind all after e old.params old.number pages);
      summary = subst (λ (x : Summary). Summarizes x (index_after base (acts_of new))) (sym made.summary)
          (subst (λ (l : List Act). Summarizes (summary_after old.summary e left) (index_after base l)) (sym acts) sums);
    }
