-- Redo of an event that follows leaves block 0.
use Rattle.std.proofs.Common.{◌≡◌, ℕ, ◌-◌, ◌<◌, ◌&&◌, ◌==◌, not, Bool, true, false, List, length, replicate, get_or, Some, None, sym, subst, ◌∙◌, arith, inl, inr}
use Rattle.std.specs.Prelude.{slice_get, if◌then◌else◌, nat_lt}
use Rattle.std.specs.Option.{option_map, option_and_then}
use Rattle.std.proofs.lemmas.Bool.{and_parts}
use Rattle.std.proofs.lemmas.List.{length-append}
use Rattle.std.proofs.lemmas.Option.{slice_get_within, slice_get-get_or}
use Rattle.byte_fields.proofs.EachField.{some_is}
use Rattle.vec_names.specs.declared.params.Params.{Params}
use Rattle.vec_history.specs.declared.event.Event.{Event}
use Rattle.vec_history.specs.declared.event.Event.TheVariants.{Put, Join, Link, Relist, Drop, Mark, Entry, Hint, IvfAdd, IvfGrow, IvfDrop, IvfHint, Gate, Ungate, Phase, VacuumEnd, Cancel, Settled, DiskFaulted}
use Rattle.page_bytes.specs.Content.{Content, others}
use Rattle.vec_tuples.specs.Spelling.{centre_with, centre_bytes, entry_bytes, row_with}
use Rattle.ivf_graph.specs.declared.graph.IvfGraph.{IvfGraph}
use Rattle.page_redo.specs.PageTuples.{added, with_item, centre_at, is_graph, is_meta_page, is_lists_page, is_entries_page}
use Rattle.page_redo.specs.PageChanges.{PageChange, when, if_so, on_entries, entry_added, grown, chained, rises, entries_dropped, list_block, list_offset, aimed}
use Rattle.page_redo.specs.Redo.{changed, touched}
use Rattle.page_redo.specs.Growing.{fresh_page, new_kind, blocks_after, extended, AreAllRedone}
use Rattle.page_redo.proofs.Given.{if_is, then_is}
use Rattle.page_redo.proofs.FreshBehind.{get_front}
use Rattle.page_redo.proofs.RedoneOnce.{is_in}
use Rattle.ivf_pages.specs.Standing.{Stands}
use Rattle.ivf_pages.specs.Following.{Follows}
use Rattle.ivf_pages.proofs.Root.{IsRootOf, root_is, no_meta, no_meta_lists}
use Rattle.ivf_pages.proofs.PagesKept.{made_from}

-- no event of lists changes the meta page
module _ (p : Params) (c m : Content) (kind : is_meta_page c.kind ≡ true) where
  on_none : (role : PageChange) (d : Content) → on_entries p role c ≡ Some d → ⊥
  on_none role d is =
      let test = (if_is (not (is_graph p.kind) && is_entries_page c.kind) (role c) d is).0 in
      no_meta c.kind (and_parts (not (is_graph p.kind)) (is_entries_page c.kind) test).1 kind

  aim_none : (list aim : ℕ) → aimed p list aim c ≡ Some m → ⊥
  aim_none list aim is =
      let off = list_offset p list in
      let test = (if_is (not (is_graph p.kind) && is_lists_page c.kind) (option_map (λ l. with_item c off (centre_bytes (centre_with l.first aim l.bits))) (centre_at p c off)) m is).0 in
      no_meta_lists c.kind (and_parts (not (is_graph p.kind)) (is_lists_page c.kind) test).1 kind

  two_none : (t u : Bool) (first second : PageChange) → ((d : Content) → first c ≡ Some d → ⊥) → (second c ≡ Some m → ⊥)
      → (if t then (if u then option_and_then second (first c) else first c) else (if u then second c else None)) ≡ Some m → ⊥
  two_none true true first second no_first no_second is = let d = then_is second (first c) m is in no_first d.0 d.1
  two_none true false first second no_first no_second is = no_first m is
  two_none false true first second no_first no_second is = no_second is
  two_none false false first second no_first no_second is = absurd cc

  never : (g : IvfGraph) (event : Event) (wrap block : ℕ) → Follows g event → changed event p wrap block c ≡ Some m → ⊥
  never g (Put at list_at version level id bits lists) wrap block follows is = absurd follows
  never g (Join at version id) wrap block follows is = absurd follows
  never g (Link at list_at version slot to) wrap block follows is = absurd follows
  never g (Relist at list_at version lists) wrap block follows is = absurd follows
  never g (Drop at version gone) wrap block follows is = absurd follows
  never g (Mark at list_at version) wrap block follows is = absurd follows
  never g (Entry to level) wrap block follows is = absurd follows
  never g (Hint hint) wrap block follows is = absurd follows
  never g (IvfAdd to id bits) wrap block follows is =
      on_none (λ c. if_so (length bits == p.bits) (added (entry_bytes (row_with id bits)) c)) m (if_is (to == block) (entry_added p id bits c) m is).1
  never g (IvfGrow list last new id bits) wrap block follows is =
      two_none (new == block) (last == block) (grown p id bits) (chained p new bits)
      (λ d made. on_none (λ c. if_so (length c.items == 0 && length bits == p.bits) (added (entry_bytes (row_with id bits)) (record c { next = None }))) d made)
      (λ made. on_none (λ c. when (nat_lt new 0xFFFFFFFF && length bits == p.bits) (record c { next = Some new })) m made) is
  never g (IvfDrop of gone) wrap block follows is =
      on_none (λ c. when (rises 0 (length c.items) gone) (record c { items = others gone 1 c.items })) m (if_is (of == block) (entries_dropped p gone c) m is).1
  never g (IvfHint list aim) wrap block follows is = aim_none list aim (if_is (list_block p list == block) (aimed p list aim c) m is).1
  never g (Gate gate hold) wrap block follows is = absurd follows
  never g (Ungate gate) wrap block follows is = absurd follows
  never g (Phase stage) wrap block follows is = absurd follows
  never g VacuumEnd wrap block follows is = absurd follows
  never g (Cancel stage) wrap block follows is = absurd follows
  never g (Settled upto) wrap block follows is = absurd follows
  never g (DiskFaulted count) wrap block follows is = absurd follows

pub root_kept : (p : Params) (pages after : List Content) (g : IvfGraph) (event : Event) (wrap number : ℕ) → Stands p pages g → Follows g event
    → AreAllRedone p wrap number event pages after → slice_get after 0 ≡ slice_get pages 0
root_kept p pages after g event wrap number s follows are =
    elim (is_in (touched event p) 0) as (λ _. slice_get after 0 ≡ slice_get pages 0) [
      | inl touches ↦
          let none = fresh_page (new_kind event) in
          let m = made_from p pages after event wrap number are 0 (get_or after 0 none) touches (slice_get-get_or after 0 none within) in
          let same = some_is r.page m.0 (sym r.there ∙ sym front ∙ m.1) in
          absurd (never p m.0 m.2 (kind_of m.0 same) g event wrap 0 follows m.3)
      | inr apart ↦ are.elsewhere 0 apart ∙ front
    ]
  where
    r : IsRootOf pages p
    r = root_is pages p s.params

    front : slice_get (extended event pages) 0 ≡ slice_get pages 0
    front = get_front pages (replicate (blocks_after event (length pages) - length pages) (fresh_page (new_kind event))) 0 (slice_get_within pages 0 r.page r.there)

    within : 0 < length after
    within = omega (arith, are.count, slice_get_within pages 0 r.page r.there, length-append pages (replicate (blocks_after event (length pages) - length pages) (fresh_page (new_kind event))))

    kind_of : (c : Content) → r.page ≡ c → is_meta_page c.kind ≡ true
    kind_of c same = subst (λ (d : Content). is_meta_page d.kind ≡ true) same r.of_kind
