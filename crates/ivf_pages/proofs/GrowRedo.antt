-- Redo of a new block of a list, on the new page and on the one before it.
use Rattle.std.proofs.Common.{◌≡◌, ℕ, zero, suc, ◌+◌, ◌-◌, ◌<◌, ◌≤◌, ◌&&◌, ◌==◌, max, not, Bool, true, List, [], ◌∷◌, ◌++◌, length, replicate, get_or, Some, None, refl, sym, ap, subst, ◌∙◌, arith, lit<, inl, inr}
use Rattle.std.specs.Prelude.{slice_get, nat_le, nat_lt, Contains}
use Rattle.std.specs.List.{All, list_all}
use Rattle.std.specs.Option.{option_map}
use Rattle.std.proofs.lemmas.Bool.{and_parts, eqb-true, cases_lt}
use Rattle.std.proofs.lemmas.List.{length-append}
use Rattle.std.proofs.lemmas.Option.{slice_get_within, slice_get-get_or, slice_get_past}
use Rattle.vec_names.specs.declared.heap_id.HeapId.{HeapId}
use Rattle.vec_names.specs.declared.params.Params.{Params}
use Rattle.vec_history.specs.declared.event.Event.TheVariants.{IvfGrow}
use Rattle.page_bytes.specs.declared.kind.PageKind.TheVariants.{IvfEntries}
use Rattle.page_bytes.specs.Content.{Content, IsPage, round8, free_of}
use Rattle.vec_tuples.specs.declared.centre.CentreTuple.{CentreTuple}
use Rattle.vec_tuples.specs.Spelling.{entry_bytes, row_with as entry_with}
use Rattle.ivf_graph.specs.declared.graph.IvfGraph.{IvfGraph}
use Rattle.ivf_graph.specs.Graph.{last_block}
use Rattle.ivf_graph.specs.Effect.{effect}
use Rattle.page_redo.specs.PageTuples.{added, is_graph, is_entries_page}
use Rattle.page_redo.specs.PageChanges.{when, if_so, grown, chained}
use Rattle.page_redo.specs.Redo.{numbered}
use Rattle.page_redo.proofs.Others.{given}
use Rattle.page_redo.specs.Growing.{AreRedone}
use Rattle.page_redo.specs.Growing.{fresh_page, extended, AreAllRedone}
use Rattle.page_redo.proofs.Given.{map_is, if_is, when_is}
use Rattle.page_redo.proofs.FreshBehind.{get_front}
use Rattle.page_redo.proofs.TwoBlocks.{two_first, two_second}
use Rattle.ivf_pages.specs.Standing.{has_entries, centre_in, chain_from, chain_of, ends_at, is_entry, rows_of, part_in, list_with, Stands}
use Rattle.ivf_pages.specs.Following.{IsNextBehind}
use Rattle.ivf_pages.proofs.Chains.{among_chain, entries_there}
use Rattle.ivf_pages.proofs.Root.{in_range, entries_behind}
use Rattle.ivf_pages.proofs.Ended.{ends_among, IsGrown}
use Rattle.ivf_pages.proofs.RowEffects.{more_entries, more_rows}
use Rattle.ivf_pages.proofs.GrowEffect.{last_among, list_grown}

behind_all : {X : Type 0} (xs : List X) (x : X) → slice_get (xs ++ x ∷ []) (length xs) ≡ Some x
behind_all [] x = refl
behind_all (y ∷ ys) x = behind_all ys x

pub at_end : {X : Type 0} (xs : List X) (x : X) (n : ℕ) → n ≡ length xs → slice_get (xs ++ x ∷ []) n ≡ Some x
at_end xs x n is = ap (slice_get (xs ++ x ∷ [])) is ∙ behind_all xs x

module _ (p : Params) (pages after : List Content) (g : IvfGraph) (list last new : ℕ) (id : HeapId) (bits : List Bool) (wrap number : ℕ)
    (all : All IsPage pages) (s : Stands p pages g) (next : IsNextBehind g list last new)
    (are : AreAllRedone p wrap number (IvfGrow list last new id bits) pages after) where
  abbrev fresh : Content
  fresh = fresh_page IvfEntries

  abbrev x : List ℕ
  x = entry_bytes (entry_with id bits)

  is_new : new ≡ length pages
  is_new = next.is_next ∙ s.blocks

  one_more : extended (IvfGrow list last new id bits) pages ≡ pages ++ fresh ∷ []
  one_more =
      let one : max (length pages) (new + 1) - length pages ≡ 1 = omega (arith, is_new) in
      ap (λ (n : ℕ). pages ++ replicate n fresh) one

  redone_all : AreRedone p wrap number (IvfGrow list last new id bits) (pages ++ fresh ∷ []) after
  redone_all = subst (λ (z : List Content). AreRedone p wrap number (IvfGrow list last new id bits) z after) one_more are

  count : length after ≡ length pages + 1
  count = redone_all.count ∙ length-append pages (fresh ∷ [])

  -- ---- the list and its last block

  low : list < p.lists
  low = omega (arith, slice_get_within g.lists list next.grows next.is_there, s.count)

  tuple : (l : CentreTuple) × (centre_in p pages list ≡ Some l) × (list_with p pages l ≡ next.grows)
  tuple = map_is (list_with p pages) (centre_in p pages list) next.grows (sym (s.lists list low) ∙ next.is_there)

  ends : ends_at last (chain_from pages tuple.0.first) ≡ true
  ends = last_among (part_in p pages) (λ b. refl) (chain_from pages tuple.0.first) last (ap (λ l. last_block l.chain) tuple.2 ∙ next.ends)

  has : has_entries (slice_get pages last) ≡ true
  has = among_chain pages (Some tuple.0) last (ends_among last (chain_from pages tuple.0.first) ends)

  there : (c : Content) × (slice_get pages last ≡ Some c)
  there = entries_there (slice_get pages last) has

  kind : is_entries_page there.0.kind ≡ true
  kind = ap has_entries (sym there.1) ∙ has

  no_next : there.0.next ≡ None
  no_next =
      ((s.whole last).entries (entries_behind p pages g s last there.0 there.1 kind) there.0 there.1).ends list low
      (ap (λ o. ends_at last (chain_of pages o)) tuple.1 ∙ ends)

  last_low : last < length pages
  last_low = slice_get_within pages last there.0 there.1

  apart : new ≡ last → ⊥
  apart same = absurd (omega (arith, same, last_low, is_new))

  -- ---- the page of the last block

  abbrev d : Content
  d = get_or after last fresh

  d_there : slice_get after last ≡ Some d
  d_there = slice_get-get_or after last fresh (omega (arith, last_low, count))

  last_redone : option_map (numbered number) (chained p new bits there.0) ≡ Some d
  last_redone =
      ap (option_map (numbered number)) (sym (two_second new last last (grown p id bits) (chained p new bits) there.0 apart refl))
      ∙ sym (redone_all.there last there.0 (1, lit< tt, refl) (get_front pages (fresh ∷ []) last last_low ∙ there.1)) ∙ d_there

  last_made : (m : Content) × (chained p new bits there.0 ≡ Some m) × (numbered number m ≡ d)
  last_made = map_is (numbered number) (chained p new bits there.0) d last_redone

  chained_is : ((nat_lt new 0xFFFFFFFF && length bits == p.bits) ≡ true) × (record there.0 { next = Some new } ≡ last_made.0)
  chained_is =
      when_is (nat_lt new 0xFFFFFFFF && length bits == p.bits) (record there.0 { next = Some new }) last_made.0
      (if_is (not (is_graph p.kind) && is_entries_page there.0.kind) (when (nat_lt new 0xFFFFFFFF && length bits == p.bits) (record there.0 { next = Some new })) last_made.0 last_made.1).1

  d_is : numbered number (record there.0 { next = Some new }) ≡ d
  d_is = ap (numbered number) chained_is.1 ∙ last_made.2

  long : length bits ≡ p.bits
  long = eqb-true (length bits) p.bits (and_parts (nat_lt new 0xFFFFFFFF) (length bits == p.bits) chained_is.0).1

  -- ---- the new page

  abbrev e : Content
  e = get_or after new fresh

  e_there : slice_get after new ≡ Some e
  e_there = slice_get-get_or after new fresh (omega (arith, is_new, count))

  new_redone : option_map (numbered number) (grown p id bits fresh) ≡ Some e
  new_redone =
      ap (option_map (numbered number)) (sym (two_first new last new (grown p id bits) (chained p new bits) fresh refl (λ same. apart (sym same))))
      ∙ sym (redone_all.there new fresh (0, lit< tt, refl) (at_end pages fresh new is_new)) ∙ e_there

  new_made : (m : Content) × (grown p id bits fresh ≡ Some m) × (numbered number m ≡ e)
  new_made = map_is (numbered number) (grown p id bits fresh) e new_redone

  grown_is : record fresh { next = None; items = x ∷ [] } ≡ new_made.0
  grown_is =
      let on = if_is (not (is_graph p.kind) && is_entries_page fresh.kind) (if_so (length fresh.items == 0 && length bits == p.bits) (added x (record fresh { next = None }))) new_made.0 new_made.1 in
      let t = if_is (length fresh.items == 0 && length bits == p.bits) (added x (record fresh { next = None })) new_made.0 on.1 in
      given (nat_le (round8 (length x) + 4) (free_of fresh)) (record fresh { next = None; items = x ∷ [] }) new_made.0 t.1

  e_is : numbered number (record fresh { next = None; items = x ∷ [] }) ≡ e
  e_is = ap (numbered number) grown_is ∙ new_made.2

  -- ---- both

  -- a block that is neither of the two
  not_touched : (b : ℕ) → (last ≡ b → ⊥) → (new ≡ b → ⊥) → Contains (new ∷ last ∷ []) b → ⊥
  not_touched b not_last not_new (zero, h, is) = not_new is
  not_touched b not_last not_new (suc zero, h, is) = not_last is
  not_touched b not_last not_new (suc (suc i), h, is) = absurd (omega (arith, h))

  others_stay : (b : ℕ) → (last ≡ b → ⊥) → (new ≡ b → ⊥) → slice_get after b ≡ slice_get pages b
  others_stay b not_last not_new = elim (cases_lt b (length pages)) as (λ _. slice_get after b ≡ slice_get pages b) [
    | inl within ↦ redone_all.elsewhere b (not_touched b not_last not_new) ∙ get_front pages (fresh ∷ []) b within
    | inr past ↦
        slice_get_past after b (past_all b past not_new) ∙ sym (slice_get_past pages b past)
  ]
    where
      past_all : (b : ℕ) → length pages ≤ b → (new ≡ b → ⊥) → length after ≤ b
      past_all b past not_new = elim (cases_lt b (length after)) as (λ _. length after ≤ b) [
        | inl within ↦ let same : new ≡ b = omega (arith, is_new, count, past, within) in absurd (not_new same)
        | inr h ↦ h
      ]

  both : IsGrown pages after last new there.0 d e
  both = record {
    count = count;
    is_next = is_new;
    was = there.1;
    was_end = no_next;
    now = d_there;
    fresh = e_there;
    apart = others_stay;
    kind_now = ap (λ (z : Content). is_entries_page z.kind) (sym d_is) ∙ kind;
    next_now = ap (λ (z : Content). z.next) (sym d_is);
    items_now = ap (λ (z : Content). z.items) (sym d_is);
    kind_fresh = ap (λ (z : Content). is_entries_page z.kind) (sym e_is);
    next_fresh = ap (λ (z : Content). z.next) (sym e_is);
  }

  pub grow_redone : Stands p after (effect (IvfGrow list last new id bits) g)
  grow_redone =
      let range = in_range pages p all s.params in
      list_grown p pages after g list last new (id, bits) next.grows all s low next.is_there tuple.0 tuple.1 tuple.2 ends there.0 d e both kind
      (ap (λ (z : Content). list_all (is_entry p) z.items) (sym e_is) ∙ more_entries p range id bits long [] refl)
      (ap (λ (z : Content). rows_of p (Some z)) (sym e_is) ∙ more_rows p range id bits long [])
