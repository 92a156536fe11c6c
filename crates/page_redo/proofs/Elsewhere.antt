-- An event fits no page of a block that it does not touch.
use Rattle.std.proofs.Common.{◌≡◌, ℕ, [], ◌∷◌, None, refl, lit<}
use Rattle.std.specs.Prelude.{Contains}
use Rattle.std.proofs.lemmas.Bool.{ne_eqb}
use Rattle.vec_names.specs.declared.params.Params.{Params}
use Rattle.vec_history.specs.declared.event.Event.{Event}
use Rattle.vec_history.specs.declared.event.Event.TheVariants.{Put, Join, Link, Relist, Drop, Mark, Entry, Hint, IvfAdd, IvfGrow, IvfDrop, IvfHint, Gate, Ungate, Phase, VacuumEnd, Cancel, Settled, DiskFaulted}
use Rattle.page_bytes.specs.Content.{Content}
use Rattle.page_redo.specs.PageTuples.{head_changed, links_changed, meta_changed}
use Rattle.page_redo.specs.PageChanges.{PageChange, on_graph, joined, dropped, marked, linked, relisted, emptied, new_node, put_element, put_links, entered, hinted, on_meta, entry_added, grown, chained, entries_dropped, list_block, aimed}
use Rattle.page_redo.specs.Redo.{at_one, at_two, changed, touched}

one_away : (a block : ℕ) (role : PageChange) (c : Content) → (Contains (a ∷ []) block → ⊥) → at_one a role block c ≡ None
one_away a block role c away = rw (ne_eqb a block (λ e. away (0, lit< tt, e))) refl

two_away : (a b block : ℕ) (first second : PageChange) (c : Content) → (Contains (a ∷ b ∷ []) block → ⊥) → at_two a first b second block c ≡ None
two_away a b block first second c away = rw (ne_eqb a block (λ e. away (0, lit< tt, e)), ne_eqb b block (λ e. away (1, lit< tt, e))) refl

pub elsewhere : (event : Event) (p : Params) (wrap block : ℕ) (c : Content) → (Contains (touched event p) block → ⊥) → changed event p wrap block c ≡ None
elsewhere (Put at list_at version level id bits lists) p wrap block c away =
    let n = new_node at list_at version level id bits lists in
    two_away at.block list_at.block block (put_element p n) (put_links p n) c away
elsewhere (Join at version id) p wrap block c away = one_away at.block block (on_graph p (head_changed (joined version id) p at.off)) c away
elsewhere (Link at list_at version slot to) p wrap block c away = one_away list_at.block block (on_graph p (links_changed (linked version slot to) p list_at.off)) c away
elsewhere (Relist at list_at version lists) p wrap block c away = one_away list_at.block block (on_graph p (links_changed (relisted version lists) p list_at.off)) c away
elsewhere (Drop at version gone) p wrap block c away = one_away at.block block (on_graph p (head_changed (dropped version gone) p at.off)) c away
elsewhere (Mark at list_at version) p wrap block c away = two_away at.block list_at.block block (on_graph p (head_changed (marked wrap version) p at.off)) (on_graph p (links_changed (emptied wrap version) p list_at.off)) c away
elsewhere (Entry to level) p wrap block c away = one_away 0 block (on_meta (meta_changed (entered to level))) c away
elsewhere (Hint hint) p wrap block c away = one_away 0 block (on_meta (meta_changed (hinted hint))) c away
elsewhere (IvfAdd to id bits) p wrap block c away = one_away to block (entry_added p id bits) c away
elsewhere (IvfGrow list last new id bits) p wrap block c away = two_away new last block (grown p id bits) (chained p new bits) c away
elsewhere (IvfDrop of gone) p wrap block c away = one_away of block (entries_dropped p gone) c away
elsewhere (IvfHint list aim) p wrap block c away = one_away (list_block p list) block (aimed p list aim) c away
elsewhere (Gate gate hold) p wrap block c away = refl
elsewhere (Ungate gate) p wrap block c away = refl
elsewhere (Phase stage) p wrap block c away = refl
elsewhere VacuumEnd p wrap block c away = refl
elsewhere (Cancel stage) p wrap block c away = refl
elsewhere (Settled upto) p wrap block c away = refl
elsewhere (DiskFaulted count) p wrap block c away = refl
