-- Where no block breaks a rule, the chains are apart, and the rows that were read are those of their blocks.
use Rattle.std.proofs.Common.{◌≡◌, ◌⊎◌, ℕ, suc, ◌+◌, ◌<◌, true, List, [], ◌∷◌, length, Some, refl, sym, ap, ◌∙◌, arith, inl, inr}
use Rattle.std.specs.Prelude.{slice_get}
use Rattle.std.proofs.lemmas.Bool.{or_cases, false_from_ne_true}
use Rattle.std.proofs.lemmas.Option.{slice_get_within}
use Rattle.vec_names.specs.declared.params.Params.{Params}
use Rattle.vec_names.specs.Params.{IsInRange}
use Rattle.page_bytes.specs.Content.{Content}
use Rattle.vec_tuples.specs.declared.centre.CentreTuple.{CentreTuple}
use Rattle.ivf_graph.specs.Graph.{Row}
use Rattle.page_redo.specs.PageTuples.{is_entries_page}
use Rattle.page_redo.specs.PageChanges.{list_block}
use Rattle.ivf_pages.specs.Standing.{params_in, is_among, has_entries, next_of, centre_in, chain_from, chain_of, chain_in, ends_at, has_aim, lists_end, rows_of, KeepsRulesOf, IsEntryPage}
use Rattle.ivf_pages.specs.Walking.{IsEnded, is_in_some, chains_of, AreChainsApart, HasRows, HasRowsOf, AreFirstTuples}
use Rattle.ivf_pages.proofs.Chains.{among_chain, entries_there, distinct_chain}
use Rattle.ivf_pages.proofs.Ended.{ended, ends_among}
use Rattle.ivf_pages.proofs.Root.{entries_past, list_block_low}

-- the tuple in whose chain a block stands
owner : (pages : List Content) (block : ℕ) (tuples : List CentreTuple) → is_in_some block (chains_of pages tuples) ≡ true
    → (i : ℕ) × (t : CentreTuple) × (slice_get tuples i ≡ Some t) × (is_among block (chain_from pages t.first) ≡ true)
owner pages block [] is = absurd cc
owner pages block (t ∷ tuples) is = by_case (or_cases (is_among block (chain_from pages t.first)) (is_in_some block (chains_of pages tuples)) is) (λ e. owner pages block tuples e)
  where
    by_case : (is_among block (chain_from pages t.first) ≡ true) ⊎ (is_in_some block (chains_of pages tuples) ≡ true)
        → (is_in_some block (chains_of pages tuples) ≡ true → (i : ℕ) × (u : CentreTuple) × (slice_get tuples i ≡ Some u) × (is_among block (chain_from pages u.first) ≡ true))
        → (i : ℕ) × (u : CentreTuple) × (slice_get (t ∷ tuples) i ≡ Some u) × (is_among block (chain_from pages u.first) ≡ true)
    by_case (inl here) later = (0, t, refl, here)
    by_case (inr there) later = let o = later there in (suc o.0, o.1, o.2, o.3)

module _ (p : Params) (pages : List Content) (range : IsInRange p) (known : params_in pages ≡ Some p) (whole : (block : ℕ) → KeepsRulesOf p pages block) where
  -- the page of a block of a list's chain
  pub page_of : (list block : ℕ) → is_among block (chain_in p pages list) ≡ true
      → (c : Content) × (slice_get pages block ≡ Some c) × (lists_end p < block) × IsEntryPage p pages block c
  page_of list block within =
      let has = among_chain pages (centre_in p pages list) block within in
      let c = entries_there (slice_get pages block) has in
      let kind : is_entries_page c.0.kind ≡ true = ap has_entries (sym c.1) ∙ has in
      let past = entries_past p pages known whole block c.0 c.1 kind in
      (c.0, c.1, past, (whole block).entries past c.0 c.1)

  -- the aim stands in the chain, which ends where there is no next block
  pub chain_ended : (list : ℕ) (t : CentreTuple) → list < p.lists → centre_in p pages list ≡ Some t → IsEnded pages (length pages) [] (Some t.first)
  chain_ended list t low is =
      let on = (whole (list_block p list)).lists (omega arith) (list_block_low p range list low) in
      let aim : is_among t.aim (chain_from pages t.first) ≡ true = ap (has_aim pages) (sym is) ∙ on.lists list low refl in
      let same : chain_in p pages list ≡ chain_from pages t.first = ap (chain_of pages) is in
      ended pages (length pages) t.first t.aim aim
      (λ b at.
      let here : ends_at b (chain_in p pages list) ≡ true = ap (ends_at b) same ∙ at in
      let page = page_of list b (ends_among b (chain_in p pages list) here) in
      ap next_of page.1 ∙ page.3.ends list low here)

  one_list : (block a b : ℕ) → a < p.lists → b < p.lists → is_among block (chain_in p pages a) ≡ true → is_among block (chain_in p pages b) ≡ true → a ≡ b
  one_list block a b low also is is_too =
      let page = page_of a block is in page.3.in_one.only a low is ∙ sym (page.3.in_one.only b also is_too)

  chains_from : (tuples : List CentreTuple) (k : ℕ) → k + length tuples ≡ p.lists
      → ((i : ℕ) (t : CentreTuple) → slice_get tuples i ≡ Some t → centre_in p pages (k + i) ≡ Some t) → AreChainsApart (chains_of pages tuples)
  chains_from [] k count are = tt
  chains_from (t ∷ tuples) k count are =
      let none : k + 0 ≡ k = omega arith in
      let next : (i : ℕ) → k + suc i ≡ k + 1 + i = λ i. omega arith in
      let low : k < p.lists = omega (arith, count) in
      let here : centre_in p pages k ≡ Some t = ap (centre_in p pages) (sym none) ∙ are 0 t refl in (
        distinct_chain pages t.first,
        λ block within. false_from_ne_true (is_in_some block (chains_of pages tuples)) (λ others.
            let o = owner pages block tuples others in
            let at : centre_in p pages (k + suc o.0) ≡ Some o.1 = are (suc o.0) o.1 o.2 in
            let high : o.0 < length tuples = slice_get_within tuples o.0 o.1 o.2 in
            let same : k ≡ k + suc o.0 =
            one_list block k (k + suc o.0) low (omega (arith, count, high)) (ap (λ c. is_among block (chain_of pages c)) here ∙ within)
            (ap (λ c. is_among block (chain_of pages c)) at ∙ o.3) in
            absurd (omega (arith, same))),
        chains_from tuples (k + 1) (omega (arith, count)) (λ i u is. ap (centre_in p pages) (sym (next i)) ∙ are (suc i) u is),
      )

  pub chains_apart : (tuples : List CentreTuple) → AreFirstTuples p pages tuples → length tuples ≡ p.lists → AreChainsApart (chains_of pages tuples)
  chains_apart tuples first all =
      chains_from tuples 0 (omega (arith, all)) (λ i t is.
      let same : 0 + i ≡ i = omega arith in
      ap (centre_in p pages) same ∙ sym (first.there i (slice_get_within tuples i t is)) ∙ is)

  -- each block of the chains is there
  pub chains_there : (tuples : List CentreTuple) → AreFirstTuples p pages tuples → (block : ℕ) → is_in_some block (chains_of pages tuples) ≡ true
      → block < length pages
  chains_there tuples first block within =
      let o = owner pages block tuples within in
      let low = slice_get_within tuples o.0 o.1 o.2 in
      let at : centre_in p pages o.0 ≡ Some o.1 = sym (first.there o.0 low) ∙ o.2 in
      let page = page_of o.0 block (ap (λ c. is_among block (chain_of pages c)) at ∙ o.3) in
      slice_get_within pages block page.0 page.1

  -- the rows of all blocks of chains were read
  pub rows_read : (tuples : List CentreTuple) (rows : List (List Row)) → AreFirstTuples p pages tuples → HasRows p pages (length pages) rows
      → HasRowsOf p pages (λ block. is_in_some block (chains_of pages tuples)) rows
  rows_read tuples rows first has block within =
      let o = owner pages block tuples within in
      let low = slice_get_within tuples o.0 o.1 o.2 in
      let at : centre_in p pages o.0 ≡ Some o.1 = sym (first.there o.0 low) ∙ o.2 in
      let page = page_of o.0 block (ap (λ c. is_among block (chain_of pages c)) at ∙ o.3) in
      has.there block page.0 (slice_get_within pages block page.0 page.1) page.2 page.1 ∙ ap (λ c. Some (rows_of p c)) (sym page.1)
