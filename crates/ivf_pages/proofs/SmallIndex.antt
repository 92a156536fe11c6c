-- The small index stands on its pages, and pages near it break at their blocks.
use Rattle.std.proofs.Common.{◌≡◌, ℕ, zero, suc, ◌^◌, ◌<◌, Bool, true, false, List, [], ◌∷◌, ◌++◌, length, Option, Some, None, refl, sym, ap, subst, ◌∙◌, arith, lit<, lit≤}
use Rattle.std.specs.Prelude.{slice_get}
use Rattle.std.specs.List.{list_all, cons_option}
use Rattle.std.specs.Option.{option_map, option_and_then, is_some}
use Rattle.std.proofs.lemmas.Bool.{and_from}
use Rattle.byte_fields.proofs.EachField.{some_is}
use Rattle.vec_names.specs.declared.heap_id.HeapId.{HeapId}
use Rattle.vec_names.specs.Params.{IsInRange}
use Rattle.page_bytes.specs.Content.{Content}
use Rattle.vec_tuples.specs.declared.entry.EntryRow.{EntryRow}
use Rattle.vec_tuples.specs.Spelling.{IsMeta, meta_bytes, centre_with, centre_bytes, entry_bytes, row_with as entry_with}
use Rattle.vec_tuples.specs.Reading.{meta, centre, entry}
use Rattle.vec_tuples.proofs.MetaLaws.{meta_field}
use Rattle.vec_tuples.proofs.RowLaws.{centre_field, entry_field}
use Rattle.ivf_graph.specs.Graph.{Row}
use Rattle.page_bytes.specs.declared.kind.PageKind.TheVariants.{IvfEntries}
use Rattle.page_redo.specs.PageTuples.{in_whole}
use Rattle.page_redo.specs.Growing.{fresh_page}
use Rattle.page_redo.proofs.ItemLaws.{whole_read}
use Rattle.ivf_pages.specs.Standing.{of_lists, params_in, is_among, centre_in, chain_of, chain_in, ends_at, has_aim, is_entry, row_with, rows_of, list_with, list_in, IsInOneChain, IsListPage, IsEntryPage, KeepsRulesOf, KeepsRulesUnder, KeepsRules, IsFirstBroken, Stands}
use Rattle.ivf_pages.specs.Examples.{small_params, small_meta, meta_page, list_page, row_page, small_pages, small_index}

small_range : IsInRange small_params
small_range = record {
  bits_low = lit≤ tt;
  bits_high = lit≤ tt;
  of_kind = record { hamming = refl; lists_low = lit≤ tt; lists_high = lit≤ tt; no_m = refl; no_ef = refl };
}

small_fits : IsMeta small_meta
small_fits = record {
  format_low = lit≤ tt;
  format_high = lit≤ tt;
  params = small_range;
  entry = refl;
  level = (refl, lit< tt);
  hint = refl;
}

-- the parameters of block 0
meta_reads : in_whole (meta (meta_bytes small_meta)) ≡ Some small_meta
meta_reads = whole_read meta_field (meta_bytes small_meta) small_meta small_fits refl

small_root : (pages : List Content) → params_in (meta_page ∷ pages) ≡ Some small_params
small_root pages = ap (option_and_then of_lists) meta_reads

keeps_as : (pages : List Content) (block : ℕ) → KeepsRulesOf small_params (meta_page ∷ pages) block → KeepsRules (meta_page ∷ pages) block
keeps_as pages block keeps = subst (λ o. KeepsRulesUnder o (meta_page ∷ pages) block) (sym (small_root pages)) keeps

kept_as : (pages : List Content) (block : ℕ) → KeepsRules (meta_page ∷ pages) block → KeepsRulesOf small_params (meta_page ∷ pages) block
kept_as pages block keeps = subst (λ o. KeepsRulesUnder o (meta_page ∷ pages) block) (small_root pages) keeps

-- block 0 breaks no rule
first_keeps : (pages : List Content) → KeepsRulesOf small_params (meta_page ∷ pages) 0
first_keeps pages = record {
  lists = λ some low. absurd (omega (arith, some));
  entries = λ above c is. absurd (omega (arith, above));
}

-- ---- the block of list tuples that is not there

only_first : (pages : List Content) (lower : ℕ) → lower < 1 → KeepsRules (meta_page ∷ pages) lower
only_first pages lower less =
    let first : 0 ≡ lower = omega (arith, less) in subst (λ (n : ℕ). KeepsRules (meta_page ∷ pages) n) first (keeps_as pages 0 (first_keeps pages))

pub missing : IsFirstBroken (meta_page ∷ []) 1
missing = record {
  broken = λ keeps. absent ((kept_as [] 1 keeps).lists (lit≤ tt) (lit≤ tt));
  whole_before = only_first [];
}
  where
    absent : IsListPage small_params (meta_page ∷ []) 1 → ⊥
    absent page = let is = page.there in absurd cc

-- ---- the pages that stand

module _ (bits : List Bool) (id : HeapId) (value : List Bool) (four : length bits ≡ 4) (also : length value ≡ 4) where
  reads : (first aim : ℕ) → first < 2 ^ 32 → aim < 2 ^ 32 → in_whole (centre small_params (centre_bytes (centre_with first aim bits))) ≡ Some (centre_with first aim bits)
  reads first aim low small = whole_read (centre_field small_params small_range) (centre_bytes (centre_with first aim bits)) (centre_with first aim bits) (low, small, four) refl

  row_reads : in_whole (entry small_params (entry_bytes (entry_with id value))) ≡ Some (entry_with id value)
  row_reads = whole_read (entry_field small_params small_range) (entry_bytes (entry_with id value)) (entry_with id value) also refl

  abbrev pages : List Content
  pages = small_pages bits id value

  tuple : centre_in small_params pages 0 ≡ Some (centre_with 2 2 bits)
  tuple = reads 2 2 (lit< tt) (lit< tt)

  chain : chain_in small_params pages 0 ≡ 2 ∷ []
  chain = ap (chain_of pages) tuple

  aim_good : has_aim pages (centre_in small_params pages 0) ≡ true
  aim_good = ap (has_aim pages) tuple

  entries : list_all (is_entry small_params) (entry_bytes (entry_with id value) ∷ []) ≡ true
  entries = and_from (is_entry small_params (entry_bytes (entry_with id value))) true (ap is_some row_reads) refl

  rows : rows_of small_params (Some (row_page None id value)) ≡ (id, value) ∷ []
  rows = ap (λ (o : Option EntryRow). cons_option (option_map row_with o) []) row_reads

  first_list : (P : ℕ → Type 0) → P 0 → (list : ℕ) → list < 1 → P list
  first_list P here zero low = here
  first_list P here (suc list) low = absurd (omega (arith, low))

  in_one : IsInOneChain small_params pages 2
  in_one = record {
    list = 0;
    is_list = lit< tt;
    within = ap (is_among 2) chain;
    only = λ other low is. first_list (λ n. n ≡ 0) refl other low;
  }

  keeps : (block : ℕ) → KeepsRulesOf small_params pages block
  keeps zero = first_keeps (list_page 2 2 bits ∷ row_page None id value ∷ [])
  keeps (suc zero) = record {
    lists = λ some low. record {
      page = list_page 2 2 bits;
      there = refl;
      kind = refl;
      count = refl;
      lists = λ list within on. first_list (λ n. has_aim pages (centre_in small_params pages n) ≡ true) aim_good list within;
    };
    entries = λ above c is. absurd (omega (arith, above));
  }
  keeps (suc (suc zero)) = record {
    lists = λ some low. absurd (omega (arith, low));
    entries = λ above c is. subst (λ (d : Content). IsEntryPage small_params pages 2 d) (some_is (row_page None id value) c is) (record {
      kind = refl;
      entries = entries;
      in_one = in_one;
      ends = λ list low at. refl;
    });
  }
  keeps (suc (suc (suc block))) = record {
    lists = λ some low. absurd (omega (arith, low));
    entries = λ above c is. absurd cc;
  }

  pub small_stands : Stands small_params pages (small_index bits id value)
  small_stands = record {
    params = small_root (list_page 2 2 bits ∷ row_page None id value ∷ []);
    whole = keeps;
    count = refl;
    lists = λ list low. first_list (λ n. slice_get (small_index bits id value).lists n ≡ list_in small_params pages n)
        (sym (ap (option_map (list_with small_params pages)) tuple ∙ ap (λ (rs : List Row). Some (record { centre = bits; aim = 2; chain = (2, rs) ∷ [] })) rows)) list low;
    blocks = refl;
  }

  -- ---- pages that break at one block

  -- where the list's tuple is not as it should be, its block is broken
  tuple_broken : (rest : List Content) (first aim : ℕ) → first < 2 ^ 32 → aim < 2 ^ 32
      → has_aim (meta_page ∷ list_page first aim bits ∷ rest) (Some (centre_with first aim bits)) ≡ false
      → IsFirstBroken (meta_page ∷ list_page first aim bits ∷ rest) 1
  tuple_broken rest first aim low small bad = record {
    broken = λ keeps.
        let now = meta_page ∷ list_page first aim bits ∷ rest in
        let page = (kept_as (list_page first aim bits ∷ rest) 1 keeps).lists (lit≤ tt) (lit≤ tt) in
        let good : has_aim now (centre_in small_params now 0) ≡ true = page.lists 0 (lit< tt) refl in
        let is : has_aim now (centre_in small_params now 0) ≡ false = ap (has_aim now) (reads first aim low small) ∙ bad in absurd cc;
    whole_before = only_first (list_page first aim bits ∷ rest);
  }

  pub other_aim : IsFirstBroken (meta_page ∷ list_page 2 3 bits ∷ row_page None id value ∷ []) 1
  other_aim = tuple_broken (row_page None id value ∷ []) 2 3 (lit< tt) (lit< tt) refl

  pub no_first : IsFirstBroken (meta_page ∷ list_page 1 1 bits ∷ row_page None id value ∷ []) 1
  no_first = tuple_broken (row_page None id value ∷ []) 1 1 (lit< tt) (lit< tt) refl

  -- one tuple too many
  pub two_tuples : IsFirstBroken (meta_page ∷ record (list_page 2 2 bits) {
    items = centre_bytes (centre_with 2 2 bits) ∷ centre_bytes (centre_with 2 2 bits) ∷ [];
  } ∷ row_page None id value ∷ []) 1
  two_tuples = record {
    broken = λ keeps.
        let now = record (list_page 2 2 bits) { items = centre_bytes (centre_with 2 2 bits) ∷ centre_bytes (centre_with 2 2 bits) ∷ [] } in
        let page = (kept_as (now ∷ row_page None id value ∷ []) 1 keeps).lists (lit≤ tt) (lit≤ tt) in
        let same : page.page ≡ now = some_is page.page now (sym page.there) in
        let two : 2 ≡ 1 = ap (λ (c : Content). length c.items) (sym same) ∙ page.count in absurd cc;
    whole_before = only_first (record (list_page 2 2 bits) { items = centre_bytes (centre_with 2 2 bits) ∷ centre_bytes (centre_with 2 2 bits) ∷ [] } ∷ row_page None id value ∷ []);
  }

  -- where the tuple is good, so is its block
  list_keeps : (rest : List Content) → has_aim (meta_page ∷ list_page 2 2 bits ∷ rest) (Some (centre_with 2 2 bits)) ≡ true
      → KeepsRulesOf small_params (meta_page ∷ list_page 2 2 bits ∷ rest) 1
  list_keeps rest good = record {
    lists = λ some low. record {
      page = list_page 2 2 bits;
      there = refl;
      kind = refl;
      count = refl;
      lists = λ list within on. first_list (λ n. has_aim (meta_page ∷ list_page 2 2 bits ∷ rest) (centre_in small_params (meta_page ∷ list_page 2 2 bits ∷ rest) n) ≡ true)
          (ap (has_aim (meta_page ∷ list_page 2 2 bits ∷ rest)) (reads 2 2 (lit< tt) (lit< tt)) ∙ good) list within;
    };
    entries = λ above c is. absurd (omega (arith, above));
  }

  both_keep : (rest : List Content) → has_aim (meta_page ∷ list_page 2 2 bits ∷ rest) (Some (centre_with 2 2 bits)) ≡ true → (lower : ℕ) → lower < 2
      → KeepsRules (meta_page ∷ list_page 2 2 bits ∷ rest) lower
  both_keep rest good zero less = keeps_as (list_page 2 2 bits ∷ rest) 0 (first_keeps (list_page 2 2 bits ∷ rest))
  both_keep rest good (suc zero) less = keeps_as (list_page 2 2 bits ∷ rest) 1 (list_keeps rest good)
  both_keep rest good (suc (suc lower)) less = absurd (omega (arith, less))

  -- a page that names itself as the next one
  pub ring : IsFirstBroken (meta_page ∷ list_page 2 2 bits ∷ row_page (Some 2) id value ∷ []) 2
  ring = record {
    broken = λ keeps.
        let now = meta_page ∷ list_page 2 2 bits ∷ row_page (Some 2) id value ∷ [] in
        let page = (kept_as (list_page 2 2 bits ∷ row_page (Some 2) id value ∷ []) 2 keeps).entries (lit< tt) (row_page (Some 2) id value) refl in
        let none = page.ends 0 (lit< tt) (ap (λ o. ends_at 2 (chain_of now o)) (reads 2 2 (lit< tt) (lit< tt))) in absurd cc;
    whole_before = both_keep (row_page (Some 2) id value ∷ []) refl;
  }

  -- a further page of entries that no chain names
  pub unnamed : IsFirstBroken (small_pages bits id value ++ fresh_page IvfEntries ∷ []) 3
  unnamed = record {
    broken = λ keeps.
        let now = small_pages bits id value ++ fresh_page IvfEntries ∷ [] in
        let page = (kept_as (list_page 2 2 bits ∷ row_page None id value ∷ fresh_page IvfEntries ∷ []) 3 keeps).entries (lit< tt) (fresh_page IvfEntries) refl in
        let out : is_among 3 (chain_in small_params now page.in_one.list) ≡ false =
        first_list (λ n. is_among 3 (chain_in small_params now n) ≡ false) (ap (λ o. is_among 3 (chain_of now o)) (reads 2 2 (lit< tt) (lit< tt))) page.in_one.list page.in_one.is_list in
        let within = page.in_one.within in absurd cc;
    whole_before = λ lower less. by_lower lower less;
  }
    where
      by_lower : (lower : ℕ) → lower < 3 → KeepsRules (small_pages bits id value ++ fresh_page IvfEntries ∷ []) lower
      by_lower zero less = both_keep (row_page None id value ∷ fresh_page IvfEntries ∷ []) refl 0 (lit< tt)
      by_lower (suc zero) less = both_keep (row_page None id value ∷ fresh_page IvfEntries ∷ []) refl 1 (lit< tt)
      by_lower (suc (suc zero)) less = keeps_as (list_page 2 2 bits ∷ row_page None id value ∷ fresh_page IvfEntries ∷ []) 2 (record {
        lists = λ some low. absurd (omega (arith, low));
        entries = λ above c is. subst (λ (d : Content). IsEntryPage small_params (small_pages bits id value ++ fresh_page IvfEntries ∷ []) 2 d) (some_is (row_page None id value) c is) (record {
          kind = refl;
          entries = entries;
          in_one = record {
            list = 0;
            is_list = lit< tt;
            within = ap (λ o. is_among 2 (chain_of (small_pages bits id value ++ fresh_page IvfEntries ∷ []) o)) (reads 2 2 (lit< tt) (lit< tt));
            only = λ other low is. first_list (λ n. n ≡ 0) refl other low;
          };
          ends = λ list low at. refl;
        });
      })
      by_lower (suc (suc (suc lower))) less = absurd (omega (arith, less))
