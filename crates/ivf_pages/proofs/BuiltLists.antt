-- Lists that are built one after the other, with the rows of their chains.
use Rattle.std.proofs.Common.{◌≡◌, ℕ, suc, ◌+◌, true, false, List, [], ◌∷◌, ◌++◌, map, length, drop, get_or, refl, sym, ap, subst, ◌∙◌, arith}
use Rattle.std.specs.Prelude.{slice_get}
use Rattle.std.proofs.lemmas.Bool.{both_ways, false_from_ne_true, or_left, or_right}
use Rattle.std.proofs.lemmas.List.{append_assoc, append-nil, drop_more}
use Rattle.vec_names.specs.declared.params.Params.{Params}
use Rattle.page_bytes.specs.Content.{Content}
use Rattle.vec_tuples.specs.declared.centre.CentreTuple.{CentreTuple}
use Rattle.ivf_graph.specs.declared.list.IvfList.{IvfList}
use Rattle.ivf_graph.specs.Graph.{Row}
use Rattle.ivf_pages.specs.Standing.{is_among, chain_from, list_with}
use Rattle.ivf_pages.specs.Walking.{is_in_some, chains_of, AreDistinct, AreChainsApart, HasRowsOf, AreOthersKept}

-- The lists of these tuples and chains are left to be built, and the rows of the chains are as they were.
pub record IsBuilding (tuples left : List CentreTuple) (chains chains_left : List (List ℕ)) (before now : List (List Row)) (lists : List IvfList)
    : Type 0 where
  pub long : length now ≡ length before
  pub count : length chains_left ≡ length left
  pub apart : AreChainsApart chains_left
  pub within : (block : ℕ) → is_in_some block chains_left ≡ true → is_in_some block chains ≡ true
  pub kept : (block : ℕ) → is_in_some block chains_left ≡ true → slice_get now block ≡ slice_get before block
  pub built : (p : Params) (pages : List Content) → chains ≡ chains_of pages tuples → HasRowsOf p pages (λ block. is_in_some block chains) before
      → (chains_left ≡ chains_of pages left) × (lists ++ map (list_with p pages) left ≡ map (list_with p pages) tuples)

module _ (tuples : List CentreTuple) (chains : List (List ℕ)) (before : List (List Row)) where
  pub begun : length chains ≡ length tuples → AreChainsApart chains → IsBuilding tuples tuples chains chains before before []
  begun count apart = record {
    long = refl;
    count = count;
    apart = apart;
    within = λ block is. is;
    kept = λ block is. refl;
    built = λ p pages are has. (are, refl);
  }

  -- the next tuple, and the chain at its place
  pub next_is : (items left : List CentreTuple) (i : ℕ) (chain : List ℕ) (now : List (List Row)) (lists : List IvfList) (t : CentreTuple)
      → IsBuilding tuples items chains (drop i chains) before now lists → items ≡ t ∷ left → i + length items ≡ length chains → chain ≡ get_or chains i chain
      → IsBuilding tuples (t ∷ left) chains (chain ∷ drop (i + 1) chains) before now lists
  next_is items left i chain now lists t s is count at =
      let long : length items ≡ suc (length left) = ap (λ (ts : List CentreTuple). length ts) is in
      let opened : drop i chains ≡ chain ∷ drop (i + 1) chains =
      drop_more chains i chain (omega (arith, count, long)) ∙ ap (λ (c : List ℕ). c ∷ drop (i + 1) chains) (sym at) in
      subst (λ (cs : List (List ℕ)). IsBuilding tuples (t ∷ left) chains cs before now lists) opened
      (subst (λ (ts : List CentreTuple). IsBuilding tuples ts chains (drop i chains) before now lists) is s)

  module _ (left : List CentreTuple) (chain : List ℕ) (chains_left : List (List ℕ)) (now : List (List Row)) (lists : List IvfList) (t : CentreTuple)
      (s : IsBuilding tuples (t ∷ left) chains (chain ∷ chains_left) before now lists) where
    pub next_distinct : AreDistinct chain
    next_distinct = s.apart.0

    pub next_within : (block : ℕ) → is_among block chain ≡ true → is_in_some block chains ≡ true
    next_within block within = s.within block (or_left (is_among block chain) (is_in_some block chains_left) within)

    -- the rows of its chain are there
    has_here : (p : Params) (pages : List Content) → HasRowsOf p pages (λ block. is_in_some block chains) before
        → HasRowsOf p pages (λ block. is_among block chain) now
    has_here p pages has block within =
        s.kept block (or_left (is_among block chain) (is_in_some block chains_left) within) ∙ has block (next_within block within)

    later : (block : ℕ) → is_in_some block chains_left ≡ true → is_in_some block (chain ∷ chains_left) ≡ true
    later block within = or_right (is_among block chain) (is_in_some block chains_left) within

    -- one list more
    pub one_more : (after : List (List Row)) (list : IvfList) → length after ≡ length now → AreOthersKept (λ block. is_among block chain) now after
        → ((p : Params) (pages : List Content) → chain ≡ chain_from pages t.first → HasRowsOf p pages (λ block. is_among block chain) now → list ≡ list_with p pages t)
        → IsBuilding tuples left chains chains_left before after (lists ++ list ∷ [])
    one_more after list long kept made = record {
      long = long ∙ s.long;
      count = same_count s.count;
      apart = s.apart.2;
      within = λ block within. s.within block (later block within);
      kept = λ block within.
          let out : is_among block chain ≡ false =
          false_from_ne_true (is_among block chain) (λ here. both_ways (is_in_some block chains_left) (s.apart.1 block here) within) in
          kept block out ∙ s.kept block (later block within);
      built = λ p pages are has.
          let b = s.built p pages are has in
          let parts = same_parts chain (chain_from pages t.first) chains_left (chains_of pages left) b.0 in (
            parts.1,
            append_assoc lists (list ∷ []) (map (list_with p pages) left)
                ∙ ap (λ (l : IvfList). lists ++ l ∷ map (list_with p pages) left) (made p pages parts.0 (has_here p pages has)) ∙ b.1,
          );
    }
      where
        same_count : suc (length chains_left) ≡ suc (length left) → length chains_left ≡ length left
        same_count e = omega (arith, e)

        same_parts : (a b : List ℕ) (cs ds : List (List ℕ)) → a ∷ cs ≡ b ∷ ds → (a ≡ b) × (cs ≡ ds)
        same_parts a b cs ds e = (cc, cc)

  pub all_built : (chains_left : List (List ℕ)) (now : List (List Row)) (lists : List IvfList) → IsBuilding tuples [] chains chains_left before now lists
      → (p : Params) (pages : List Content) → chains ≡ chains_of pages tuples → HasRowsOf p pages (λ block. is_in_some block chains) before
      → lists ≡ map (list_with p pages) tuples
  all_built chains_left now lists s p pages are has = sym (append-nil lists) ∙ (s.built p pages are has).1
