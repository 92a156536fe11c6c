-- The blocks judged one kind after the other, and the index that is built of them.
use Rattle.std.proofs.Common.{◌≡◌, ℕ, ◌<◌, ◌≤◌, List, length, map, Option, Some, None, refl, sym, ap, subst, ◌∙◌, arith}
use Rattle.std.specs.Prelude.{slice_get, IfNone, Err}
use Rattle.std.specs.Option.{option_map}
use Rattle.std.proofs.lemmas.Bool.{both_ways}
use Rattle.std.proofs.lemmas.Option.{slice_get_within, slice_get-map}
use Rattle.std.proofs.lemmas.List.{length-map}
use Rattle.vec_names.specs.declared.params.Params.{Params}
use Rattle.vec_names.specs.Params.{IsInRange}
use Rattle.page_bytes.specs.Content.{Content}
use Rattle.vec_tuples.specs.declared.centre.CentreTuple.{CentreTuple}
use Rattle.ivf_graph.specs.declared.list.IvfList.{IvfList}
use Rattle.page_redo.specs.declared.graph_fault.GraphFault.{GraphFault}
use Rattle.page_redo.specs.declared.graph_fault.GraphFault.TheVariants.{Memory, Bad}
use Rattle.page_redo.specs.PageChanges.{list_block}
use Rattle.ivf_pages.specs.Standing.{params_in, centre_in, has_aim, lists_end, list_with, list_in, IsListPage, KeepsRulesOf, KeepsRulesUnder, KeepsRules, IsFirstBroken, Stands, IsIndexOf}
use Rattle.ivf_pages.specs.Walking.{AreFirstTuples, AreEntriesBelow, IsFirstBadEntry, IsFirstAimless, AreAllRows}
use Rattle.ivf_pages.proofs.Root.{list_block_low}

-- without parameters block 0 is the first that breaks a rule
pub none_known : (pages : List Content) → None ≡ params_in pages → IsFirstBroken pages 0
none_known pages none = record {
  broken = λ keeps. subst (λ (o : Option Params). KeepsRulesUnder o pages 0) (sym none) keeps;
  whole_before = λ lower less. absurd (omega (arith, less));
}

module _ (p : Params) (pages : List Content) (known : Some p ≡ params_in pages) where
  keeps : (block : ℕ) → KeepsRulesOf p pages block → KeepsRules pages block
  keeps block whole = subst (λ (o : Option Params). KeepsRulesUnder o pages block) known whole

  kept : (block : ℕ) → KeepsRules pages block → KeepsRulesOf p pages block
  kept block whole = subst (λ (o : Option Params). KeepsRulesUnder o pages block) (sym known) whole

  pub list_broken : (block : ℕ) → 1 ≤ block → block ≤ lists_end p → ¬ IsListPage p pages block
      → ((lower : ℕ) → 1 ≤ lower → lower < block → IsListPage p pages lower) → IsFirstBroken pages block
  list_broken block some low bad before = record {
    broken = λ whole. bad ((kept block whole).lists some low);
    whole_before = λ lower less. keeps lower (record {
      lists = λ one within. before lower one less;
      entries = λ above c is. absurd (omega (arith, above, less, low));
    });
  }

  module _ (lists : (block : ℕ) → 1 ≤ block → block ≤ lists_end p → IsListPage p pages block) where
    pub entry_broken : (block : ℕ) → IsFirstBadEntry p pages block → IsFirstBroken pages block
    entry_broken block first = record {
      broken = λ whole. first.bad ((kept block whole).entries first.behind first.page first.there);
      whole_before = λ lower less. keeps lower (record {
        lists = λ one within. lists lower one within;
        entries = λ above c is. first.before lower c less above is;
      });
    }

    pub all_keep : AreEntriesBelow p pages (length pages) → (block : ℕ) → KeepsRulesOf p pages block
    all_keep entries block = record {
      lists = λ one within. lists block one within;
      entries = λ above c is. entries block c (slice_get_within pages block c is) above is;
    }

-- the lists that were built are those of the pages
pub lists_are : (p : Params) (pages : List Content) (tuples : List CentreTuple) (lists : List IvfList) → AreFirstTuples p pages tuples → length tuples ≡ p.lists
    → lists ≡ map (list_with p pages) tuples → (list : ℕ) → list < p.lists → slice_get lists list ≡ list_in p pages list
lists_are p pages tuples lists first all are list low =
    ap (λ (ls : List IvfList). slice_get ls list) are ∙ slice_get-map (list_with p pages) tuples list
    ∙ ap (option_map (list_with p pages)) (first.there list (omega (arith, low, all)))

pub count_is : (p : Params) (pages : List Content) (tuples : List CentreTuple) (lists : List IvfList) → length tuples ≡ p.lists
    → lists ≡ map (list_with p pages) tuples → length lists ≡ p.lists
count_is p pages tuples lists all are = ap (λ (ls : List IvfList). length ls) are ∙ length-map tuples (list_with p pages) ∙ all

-- ---- what is known where no block of list tuples breaks a rule

pub at_none : {X : Type 0} (o : Option ℕ) → o ≡ None → IfNone o X → X
at_none None none is = is
at_none (Some x) none is = absurd cc

pub none_aimless : (p : Params) (pages : List Content) → IsInRange p → ((block : ℕ) → 1 ≤ block → block ≤ lists_end p → IsListPage p pages block)
    → (o : Option ℕ) → IsFirstAimless p pages o → o ≡ None
none_aimless p pages r lists None first = refl
none_aimless p pages r lists (Some f) first =
    let page = lists (list_block p f) (omega arith) (list_block_low p r f first.0) in
    absurd (both_ways (has_aim pages (centre_in p pages f)) first.1 (page.lists f first.0 refl))

pub fault_is : (p : Params) (pages : List Content) → Some p ≡ params_in pages → ((block : ℕ) → 1 ≤ block → block ≤ lists_end p → IsListPage p pages block)
    → (fault : GraphFault) → AreAllRows p pages (Err fault) → IsIndexOf pages (Err fault)
fault_is p pages known lists Memory of_rows = tt
fault_is p pages known lists (Bad block) of_rows = entry_broken p pages known lists block of_rows

pub index_is : (p : Params) (pages : List Content) (tuples : List CentreTuple) (lists : List IvfList) → params_in pages ≡ Some p → ((block : ℕ) → KeepsRulesOf p pages block)
    → AreFirstTuples p pages tuples → length tuples ≡ p.lists → lists ≡ map (list_with p pages) tuples → Stands p pages (record { lists = lists; blocks = length pages })
index_is p pages tuples lists known whole first all are = record {
  params = known;
  whole = whole;
  count = count_is p pages tuples lists all are;
  lists = lists_are p pages tuples lists first all are;
  blocks = refl;
}
