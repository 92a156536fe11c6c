-- What is known of pages that stand for an index of lists.
use Rattle.std.proofs.Common.{◌≡◌, ℕ, not, true, List, Some, refl, sym, ap₂, subst, ◌∙◌, arith, inl, inr}
use Rattle.std.specs.Prelude.{slice_get}
use Rattle.std.proofs.lemmas.Bool.{cases_lt}
use Rattle.std.proofs.lemmas.Option.{slice_get_past}
use Rattle.vec_names.specs.declared.params.Kind.{Kind}
use Rattle.vec_names.specs.declared.params.Kind.TheVariants.{Hnsw, Ivf}
use Rattle.vec_names.specs.declared.params.Params.{Params}
use Rattle.page_bytes.specs.Content.{Content}
use Rattle.ivf_graph.specs.declared.list.IvfList.{IvfList}
use Rattle.ivf_graph.specs.declared.graph.IvfGraph.{IvfGraph}
use Rattle.page_redo.specs.PageTuples.{is_graph}
use Rattle.page_redo.proofs.RedoneOnce.{same_all}
use Rattle.ivf_pages.specs.Standing.{KeepsRulesUnder, KeepsRules, IsFirstBroken, Stands}
use Rattle.ivf_pages.proofs.Root.{root_is}

pub keeps_all : (p : Params) (pages : List Content) (g : IvfGraph) → Stands p pages g → (block : ℕ) → KeepsRules pages block
keeps_all p pages g s block = subst (λ o. KeepsRulesUnder o pages block) (sym s.params) (s.whole block)

pub none_broken : (p : Params) (pages : List Content) (g : IvfGraph) (block : ℕ) → Stands p pages g → IsFirstBroken pages block → ⊥
none_broken p pages g block s first = first.broken (keeps_all p pages g s block)

params_same : (p q : Params) → Some p ≡ Some q → p ≡ q
params_same p q e = cc

pub one_params : (p q : Params) (pages : List Content) (g h : IvfGraph) → Stands p pages g → Stands q pages h → p ≡ q
one_params p q pages g h s t = params_same p q (sym s.params ∙ t.params)

one_under : (p : Params) (pages : List Content) (g h : IvfGraph) → Stands p pages g → Stands p pages h → g ≡ h
one_under p pages g h s t =
    ap₂ (λ (ls : List IvfList) (n : ℕ). record { lists = ls; blocks = n })
    (same_all g.lists h.lists (λ list. elim (cases_lt list p.lists) as (λ _. slice_get g.lists list ≡ slice_get h.lists list) [
      | inl low ↦ s.lists list low ∙ sym (t.lists list low)
      | inr past ↦
          slice_get_past g.lists list (omega (arith, past, s.count)) ∙ sym (slice_get_past h.lists list (omega (arith, past, t.count)))
    ]))
    (s.blocks ∙ sym t.blocks)

pub one_index : (p q : Params) (pages : List Content) (g h : IvfGraph) → Stands p pages g → Stands q pages h → g ≡ h
one_index p q pages g h s t =
    one_under p pages g h s (subst (λ (r : Params). Stands r pages h) (sym (one_params p q pages g h s t)) t)

kind_is : (k : Kind) → not (is_graph k) ≡ true → k ≡ Ivf
kind_is Hnsw is = absurd cc
kind_is Ivf is = refl

pub of_kind : (p : Params) (pages : List Content) (g : IvfGraph) → Stands p pages g → p.kind ≡ Ivf
of_kind p pages g s = let r = root_is pages p s.params in kind_is p.kind r.lists
