-- A list grows by a new block with one row.
use Rattle.std.proofs.Common.{◌≡◌, ℕ, suc, ◌+◌, ◌-◌, ◌<◌, ◌≤◌, ◌||◌, ◌==◌, max, Bool, true, false, List, [], ◌∷◌, ◌++◌, map, length, Option, Some, None, refl, sym, ap, ap₂, subst, ◌∙◌, arith, inl, inr}
use Rattle.std.specs.Prelude.{slice_get, slice_set}
use Rattle.std.specs.List.{All, list_all, filter_map}
use Rattle.std.specs.Option.{option_map, option_and_then}
use Rattle.std.proofs.lemmas.Bool.{cases_eq, eq-eqb, ne_eqb}
use Rattle.std.proofs.lemmas.List.{length-set, map-append}
use Rattle.std.proofs.lemmas.List.Folds.{list_any-append}
use Rattle.std.proofs.lemmas.Option.{slice_get_within}
use Rattle.vec_names.specs.declared.params.Params.{Params}
use Rattle.byte_fields.proofs.EachField.{some_is}
use Rattle.page_bytes.specs.Content.{Content, IsPage}
use Rattle.vec_tuples.specs.declared.centre.CentreTuple.{CentreTuple}
use Rattle.ivf_graph.specs.declared.list.IvfList.{IvfList}
use Rattle.ivf_graph.specs.declared.graph.IvfGraph.{IvfGraph}
use Rattle.ivf_graph.specs.Graph.{Row, Part, last_block}
use Rattle.ivf_graph.specs.Effect.{grown as grown_list, changed, changed_from}
use Rattle.page_redo.specs.PageTuples.{centre_at, is_entries_page}
use Rattle.page_redo.specs.PageChanges.{list_block, list_offset}
use Rattle.page_redo.proofs.Others.{set_apart}
use Rattle.page_redo.proofs.Putting.{set_here}
use Rattle.ivf_pages.specs.Standing.{params_on, lists_end, is_among, has_entries, next_of, followed, centre_in, chain_from, chain_of, chain_in, ends_at, has_aim, is_entry, row_in, rows_of, part_in, list_with, list_in, IsListPage, IsInOneChain, IsEntryPage, Stands}
use Rattle.ivf_pages.proofs.Given.{map_same_on}
use Rattle.ivf_pages.proofs.Chains.{among_chain, entries_there}
use Rattle.ivf_pages.proofs.Root.{in_range, entries_behind, list_block_low}
use Rattle.ivf_pages.proofs.Ended.{ends_append, ends_among, ended, IsGrown, not_new, other_chain, own_chain}
use Rattle.ivf_pages.specs.Walking.{IsEnded}

or_false : (b : Bool) → (b || false) ≡ b
or_false true = refl
or_false false = refl

-- the last block of a list of parts, and of their numbers
pub last_among : (f : ℕ → Part) → ((b : ℕ) → (f b).0 ≡ b) → (bs : List ℕ) (last : ℕ) → last_block (map f bs) ≡ Some last
    → ends_at last bs ≡ true
last_among f numbers [] last is = absurd cc
last_among f numbers (b ∷ []) last is = eq-eqb b last (sym (numbers b) ∙ option_is (f b).0 last is)
  where
    option_is : (x y : ℕ) → Some x ≡ Some y → x ≡ y
    option_is x y e = cc
last_among f numbers (b ∷ c ∷ bs) last is =
    let back : length (map f (b ∷ c ∷ bs)) - 1 ≡ suc (length (map f (c ∷ bs)) - 1) = omega arith in
    last_among f numbers (c ∷ bs) last (ap (λ (n : ℕ). option_map (λ (q : Part). q.0) (slice_get (map f (b ∷ c ∷ bs)) n)) (sym back) ∙ is)

module _ (p : Params) (pages after : List Content) (g : IvfGraph) (list last new : ℕ) (row : Row) (grows : IvfList) (all : All IsPage pages) (s : Stands p pages g)
    (low : list < p.lists) (is_there : slice_get g.lists list ≡ Some grows) (l : CentreTuple) (tuple : centre_in p pages list ≡ Some l)
    (made : list_with p pages l ≡ grows) (at_end : ends_at last (chain_from pages l.first) ≡ true) (c d e : Content) (grown : IsGrown pages after last new c d e)
    (kind : is_entries_page c.kind ≡ true) (entries : list_all (is_entry p) e.items ≡ true) (rows : rows_of p (Some e) ≡ row ∷ []) where
  behind : lists_end p < last
  behind = entries_behind p pages g s last c grown.was kind

  new_behind : last < new
  new_behind = omega (arith, slice_get_within pages last c grown.was, grown.is_next)

  low_stays : (b : ℕ) → b ≤ lists_end p → slice_get after b ≡ slice_get pages b
  low_stays b within = grown.apart b (λ e. absurd (omega (arith, e, within, behind))) (λ e. absurd (omega (arith, e, within, behind, new_behind)))

  centres : (k : ℕ) → k < p.lists → centre_in p after k ≡ centre_in p pages k
  centres k within =
      ap (λ o. option_and_then (λ c. centre_at p c (list_offset p k)) o)
      (low_stays (list_block p k) (list_block_low p (in_range pages p all s.params) k within))

  -- ---- chains

  -- every chain ends where there is no next block
  ends_so : (k : ℕ) → k < p.lists → (b : ℕ) → ends_at b (chain_in p pages k) ≡ true → next_of (slice_get pages b) ≡ None
  ends_so k within b at =
      let has = among_chain pages (centre_in p pages k) b (ends_among b (chain_in p pages k) at) in
      let there = entries_there (slice_get pages b) has in
      let kind_is : is_entries_page there.0.kind ≡ true = ap has_entries (sym there.1) ∙ has in
      let was = (s.whole b).entries (entries_behind p pages g s b there.0 there.1 kind_is) there.0 there.1 in
      ap next_of there.1 ∙ was.ends k within at

  aim_of : (k : ℕ) → k < p.lists → has_aim pages (centre_in p pages k) ≡ true
  aim_of k within =
      let first = list_block_low p (in_range pages p all s.params) k within in
      let some : 1 ≤ list_block p k = omega arith in
      ((s.whole (list_block p k)).lists some first).lists k within refl

  chain_ended : (k : ℕ) → k < p.lists → (t : CentreTuple) → centre_in p pages k ≡ Some t → IsEnded pages (length pages) [] (Some t.first)
  chain_ended k within t is =
      ended pages (length pages) t.first t.aim (ap (has_aim pages) (sym is) ∙ aim_of k within)
      (λ b at. ends_so k within b (ap (λ o. ends_at b (chain_of pages o)) is ∙ at))

  long : length after ≡ suc (length pages)
  long = let one : length pages + 1 ≡ suc (length pages) = omega arith in grown.count ∙ one

  own : chain_from after l.first ≡ chain_from pages l.first ++ new ∷ []
  own =
      ap (λ (n : ℕ). followed after n [] (Some l.first)) long
      ∙ own_chain pages after last new c d e grown (length pages) [] (Some l.first) (chain_ended list low l tuple) at_end refl

  -- the last block stands in no other chain
  out_of : (k : ℕ) → k < p.lists → (list ≡ k → ⊥) → is_among last (chain_in p pages k) ≡ false
  out_of k within differs = by_test (is_among last (chain_in p pages k)) refl
    where
      by_test : (t : Bool) → is_among last (chain_in p pages k) ≡ t → t ≡ false
      by_test true is =
          let one = ((s.whole last).entries behind c grown.was).in_one in
          let of_list : list ≡ one.list = one.only list low (ap (λ o. is_among last (chain_of pages o)) tuple ∙ ends_among last (chain_from pages l.first) at_end) in
          absurd (differs (of_list ∙ sym (one.only k within is)))
      by_test false is = refl

  other : (k : ℕ) → k < p.lists → (list ≡ k → ⊥) → (t : CentreTuple) → centre_in p pages k ≡ Some t
      → chain_from after t.first ≡ chain_from pages t.first
  other k within differs t is =
      ap (λ (n : ℕ). followed after n [] (Some t.first)) long
      ∙ other_chain pages after last new c d e grown (length pages) [] (Some t.first) (chain_ended k within t is)
      (sym (ap (λ o. is_among last (chain_of pages o)) is) ∙ out_of k within differs)

  tuple_of : (k : ℕ) → (o : Option CentreTuple) → has_aim pages o ≡ true → (t : CentreTuple) × (o ≡ Some t)
  tuple_of k None is = absurd cc
  tuple_of k (Some t) is = (t, refl)

  chain_own : chain_in p after list ≡ chain_in p pages list ++ new ∷ []
  chain_own =
      ap (chain_of after) (centres list low ∙ tuple) ∙ own
      ∙ sym (ap (λ o. chain_of pages o ++ new ∷ []) tuple)

  chain_other : (k : ℕ) → k < p.lists → (list ≡ k → ⊥) → chain_in p after k ≡ chain_in p pages k
  chain_other k within differs =
      let t = tuple_of k (centre_in p pages k) (aim_of k within) in
      ap (chain_of after) (centres k within ∙ t.1) ∙ other k within differs t.0 t.1 ∙ sym (ap (chain_of pages) t.1)

  -- ---- places in chains

  among_now : (b k : ℕ) → k < p.lists → (new ≡ b → ⊥) → is_among b (chain_in p after k) ≡ is_among b (chain_in p pages k)
  among_now b k within differs = elim (cases_eq list k) as (λ _. is_among b (chain_in p after k) ≡ is_among b (chain_in p pages k)) [
    | inl same ↦
        subst (λ (n : ℕ). is_among b (chain_in p after n) ≡ is_among b (chain_in p pages n)) same
        (ap (is_among b) chain_own ∙ list_any-append (λ (x : ℕ). x == b) (chain_in p pages list) (new ∷ [])
        ∙ ap (λ (t : Bool). is_among b (chain_in p pages list) || (t || false)) (ne_eqb new b differs) ∙ or_false (is_among b (chain_in p pages list)))
    | inr apart ↦ ap (is_among b) (chain_other k within apart)
  ]

  in_one_now : (b : ℕ) → (new ≡ b → ⊥) → IsInOneChain p pages b → IsInOneChain p after b
  in_one_now b differs one = record {
    list = one.list;
    is_list = one.is_list;
    within = among_now b one.list one.is_list differs ∙ one.within;
    only = λ k within is. one.only k within (sym (among_now b k within differs) ∙ is);
  }

  -- the grown chain ends at the new block
  no_end : (b : ℕ) → (new ≡ b → ⊥) → ends_at b (chain_in p after list) ≡ true → ⊥
  no_end b differs at =
      let end : ends_at b (chain_in p after list) ≡ (new == b) = ap (ends_at b) chain_own ∙ ends_append b new (chain_in p pages list) in
      let not_at : (new == b) ≡ false = ne_eqb new b differs in absurd cc

  new_in_one : IsInOneChain p after new
  new_in_one = record {
    list = list;
    is_list = low;
    within = ends_among new (chain_in p after list) (ap (ends_at new) chain_own ∙ ends_append new new (chain_in p pages list) ∙ eq-eqb new new refl);
    only = λ k within is. elim (cases_eq list k) as (λ _. k ≡ list) [
      | inl same ↦ sym same
      | inr apart ↦
          absurd (not_new pages after last new c d e grown new
          (among_chain pages (centre_in p pages k) new (sym (ap (is_among new) (chain_other k within apart)) ∙ is)) refl)
    ];
  }

  -- ---- the rows of all blocks

  rows_stay : (b : ℕ) → (new ≡ b → ⊥) → rows_of p (slice_get after b) ≡ rows_of p (slice_get pages b)
  rows_stay b differs = elim (cases_eq last b) as (λ _. rows_of p (slice_get after b) ≡ rows_of p (slice_get pages b)) [
    | inl same ↦
        subst (λ (n : ℕ). rows_of p (slice_get after n) ≡ rows_of p (slice_get pages n)) same
        (ap (rows_of p) grown.now ∙ ap (λ (items : List (List ℕ)). filter_map (row_in p) items) grown.items_now ∙ sym (ap (rows_of p) grown.was))
    | inr apart ↦ ap (rows_of p) (grown.apart b apart differs)
  ]

  parts_stay : (o : Option CentreTuple) → map (part_in p after) (chain_of pages o) ≡ map (part_in p pages) (chain_of pages o)
  parts_stay o = map_same_on (part_in p after) (part_in p pages) (chain_of pages o)
      (λ b within. ap (λ (rs : List Row). (b, rs)) (rows_stay b (not_new pages after last new c d e grown b (among_chain pages o b within))))

  new_part : part_in p after new ≡ (new, row ∷ [])
  new_part = ap (λ (rs : List Row). (new, rs)) (ap (rows_of p) grown.fresh ∙ rows)

  list_now : list_in p after list ≡ Some (grown_list new row grows)
  list_now =
      ap (option_map (list_with p after)) (centres list low ∙ tuple)
      ∙ ap (λ (ps : List Part). Some (record { centre = l.bits; aim = l.aim; chain = ps }))
      (ap (map (part_in p after)) own
      ∙ map-append (part_in p after) (chain_from pages l.first) (new ∷ [])
      ∙ ap₂ (λ (ps : List Part) (q : Part). ps ++ q ∷ []) (parts_stay (Some l)) new_part)
      ∙ ap (λ (a : IvfList). Some (grown_list new row a)) made

  list_apart : (k : ℕ) → k < p.lists → (list ≡ k → ⊥) → list_in p after k ≡ list_in p pages k
  list_apart k within differs =
      let t = tuple_of k (centre_in p pages k) (aim_of k within) in
      ap (option_map (list_with p after)) (centres k within ∙ t.1)
      ∙ ap (λ (ps : List Part). Some (record { centre = t.0.bits; aim = t.0.aim; chain = ps }))
      (ap (map (part_in p after)) (other k within differs t.0 t.1) ∙ parts_stay (Some t.0))
      ∙ sym (ap (option_map (list_with p pages)) t.1)

  lists_now : (k : ℕ) → k < p.lists → slice_get (slice_set g.lists list (grown_list new row grows)) k ≡ list_in p after k
  lists_now k within = elim (cases_eq list k) as (λ _. slice_get (slice_set g.lists list (grown_list new row grows)) k ≡ list_in p after k) [
    | inl same ↦
        subst (λ (n : ℕ). slice_get (slice_set g.lists list (grown_list new row grows)) n ≡ list_in p after n) same
        (set_here g.lists list grows (grown_list new row grows) is_there ∙ sym list_now)
    | inr differs ↦ set_apart g.lists list k (grown_list new row grows) differs ∙ s.lists k within ∙ sym (list_apart k within differs)
  ]

  -- ---- the rules

  aim_now : (k : ℕ) → k < p.lists → has_aim after (centre_in p after k) ≡ true
  aim_now k within =
      let t = tuple_of k (centre_in p pages k) (aim_of k within) in
      let was : is_among t.0.aim (chain_in p pages k) ≡ true =
      ap (λ o. is_among t.0.aim (chain_of pages o)) t.1 ∙ sym (ap (has_aim pages) t.1) ∙ aim_of k within in
      let there = among_chain pages (centre_in p pages k) t.0.aim was in
      let now : is_among t.0.aim (chain_in p after k) ≡ true = among_now t.0.aim k within (not_new pages after last new c d e grown t.0.aim there) ∙ was in
      ap (has_aim after) (centres k within ∙ t.1) ∙ sym (ap (λ o. is_among t.0.aim (chain_of after o)) (centres k within ∙ t.1)) ∙ now

  list_page : (b : ℕ) → b ≤ lists_end p → IsListPage p pages b → IsListPage p after b
  list_page b within was = record {
    page = was.page;
    there = low_stays b within ∙ was.there;
    kind = was.kind;
    count = was.count;
    lists = λ k low on. aim_now k low;
  }

  last_page : lists_end p < last → IsEntryPage p after last d
  last_page above =
      let was = (s.whole last).entries above c grown.was in
      let not_last : new ≡ last → ⊥ = λ e. absurd (omega (arith, e, new_behind)) in
      record {
        kind = grown.kind_now;
        entries = ap (list_all (is_entry p)) grown.items_now ∙ was.entries;
        in_one = in_one_now last not_last was.in_one;
        ends = λ k within at. elim (cases_eq list k) as (λ _. d.next ≡ None) [
          | inl same ↦ absurd (no_end last not_last (subst (λ (n : ℕ). ends_at last (chain_in p after n) ≡ true) (sym same) at))
          | inr differs ↦
              let was_at : ends_at last (chain_in p pages k) ≡ true = sym (ap (ends_at last) (chain_other k within differs)) ∙ at in
              let among : is_among last (chain_in p pages k) ≡ true = ends_among last (chain_in p pages k) was_at in
              let out = out_of k within differs in absurd cc
        ];
      }

  new_page : IsEntryPage p after new e
  new_page = record {
    kind = grown.kind_fresh;
    entries = entries;
    in_one = new_in_one;
    ends = λ k within at. grown.next_fresh;
  }

  other_page : (b : ℕ) (x : Content) → lists_end p < b → (last ≡ b → ⊥) → (new ≡ b → ⊥) → slice_get after b ≡ Some x → IsEntryPage p after b x
  other_page b x above not_last not_this is =
      let was = (s.whole b).entries above x (sym (grown.apart b not_last not_this) ∙ is) in
      record {
        kind = was.kind;
        entries = was.entries;
        in_one = in_one_now b not_this was.in_one;
        ends = λ k within at. elim (cases_eq list k) as (λ _. x.next ≡ None) [
          | inl same ↦ absurd (no_end b not_this (subst (λ (n : ℕ). ends_at b (chain_in p after n) ≡ true) (sym same) at))
          | inr differs ↦ was.ends k within (sym (ap (ends_at b) (chain_other k within differs)) ∙ at)
        ];
      }

  entry_page : (b : ℕ) (x : Content) → lists_end p < b → slice_get after b ≡ Some x → IsEntryPage p after b x
  entry_page b x above is = elim (cases_eq last b) as (λ _. IsEntryPage p after b x) [
    | inl same ↦
        let is_d : d ≡ x = some_is d x (sym grown.now ∙ ap (slice_get after) same ∙ is) in
        subst (λ (n : ℕ). IsEntryPage p after n x) same (subst (λ (y : Content). IsEntryPage p after last y) is_d (last_page behind))
    | inr not_last ↦ elim (cases_eq new b) as (λ _. IsEntryPage p after b x) [
      | inl same ↦
          let is_e : e ≡ x = some_is e x (sym grown.fresh ∙ ap (slice_get after) same ∙ is) in
          subst (λ (n : ℕ). IsEntryPage p after n x) same (subst (λ (y : Content). IsEntryPage p after new y) is_e new_page)
      | inr not_this ↦ other_page b x above not_last not_this is
    ]
  ]

  pub list_grown : Stands p after (record g { lists = changed g.lists list (grown_list new row); blocks = max g.blocks (new + 1) })
  list_grown =
      subst (λ (ls : List IvfList). Stands p after (record g { lists = ls; blocks = max g.blocks (new + 1) }))
      (sym (ap (changed_from g.lists list (grown_list new row)) is_there))
      (record {
        params = ap (λ o. option_and_then params_on o) (low_stays 0 (omega arith)) ∙ s.params;
        whole = λ b. record {
          lists = λ some within. list_page b within ((s.whole b).lists some within);
          entries = λ above x is. entry_page b x above is;
        };
        count = length-set g.lists list (grown_list new row grows) ∙ s.count;
        lists = lists_now;
        blocks = omega (arith, s.blocks, grown.count, grown.is_next);
      })
