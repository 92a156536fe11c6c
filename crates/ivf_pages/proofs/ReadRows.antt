-- The rows of the blocks, read one block after the other.
use Rattle.std.proofs.Common.{◌≡◌, ℕ, zero, suc, ◌+◌, ◌<◌, List, [], ◌∷◌, ◌++◌, length, Some, refl, sym, ap, subst, ◌∙◌, arith, inl, inr}
use Rattle.std.specs.Prelude.{slice_get, Ok, Err}
use Rattle.std.proofs.lemmas.Bool.{cases_lt}
use Rattle.std.proofs.lemmas.List.{length_push}
use Rattle.vec_names.specs.declared.params.Params.{Params}
use Rattle.page_bytes.specs.Content.{Content}
use Rattle.ivf_graph.specs.Graph.{Row}
use Rattle.page_redo.specs.declared.graph_fault.GraphFault.{GraphFault}
use Rattle.page_redo.specs.declared.graph_fault.GraphFault.TheVariants.{Memory, Bad}
use Rattle.ivf_pages.specs.Standing.{lists_end, rows_of, IsEntryPage}
use Rattle.ivf_pages.specs.Walking.{AreRowsFrom, AreEntriesBelow, HasRows, AreAllRows}

front : {X : Type 0} (xs : List X) (x : X) (i : ℕ) → i < length xs → slice_get (xs ++ x ∷ []) i ≡ slice_get xs i
front [] x i low = absurd (omega (arith, low))
front (y ∷ xs) x zero low = refl
front (y ∷ xs) x (suc i) low = front xs x i (omega (arith, low))

last : {X : Type 0} (xs : List X) (x : X) → slice_get (xs ++ x ∷ []) (length xs) ≡ Some x
last [] x = refl
last (y ∷ xs) x = last xs x

-- so many blocks were read, and none of them breaks a rule
abbrev pub AreRead : Params → List Content → ℕ → List (List Row) → Type 0
AreRead p pages count rows = HasRows p pages count rows × AreEntriesBelow p pages count

module _ (p : Params) (pages : List Content) (k : ℕ) (rows : List (List Row)) (read : AreRead p pages k rows) where
  -- one block more
  pub one_more : (r : List Row) → AreRowsFrom p pages k (Ok r) → AreRead p pages (k + 1) (rows ++ r ∷ [])
  one_more r of_block = (
    record {
      long = length_push rows r ∙ ap (λ (n : ℕ). n + 1) read.0.long;
      there = λ block c low behind is. elim (cases_lt block k) as (λ _. slice_get (rows ++ r ∷ []) block ≡ Some (rows_of p (Some c))) [
        | inl h ↦ front rows r block (omega (arith, h, read.0.long)) ∙ read.0.there block c h behind is
        | inr h ↦
            let same : block ≡ k = omega (arith, h, low) in
            let at : block ≡ length rows = omega (arith, same, read.0.long) in
            ap (slice_get (rows ++ r ∷ [])) at ∙ last rows r ∙ ap (λ (q : List Row). Some q) (at_block block c same behind is).1
      ];
    },
    λ block c low behind is. elim (cases_lt block k) as (λ _. IsEntryPage p pages block c) [
      | inl h ↦ read.1 block c h behind is
      | inr h ↦
          let same : block ≡ k = omega (arith, h, low) in
          subst (λ (b : ℕ). IsEntryPage p pages b c) (sym same) (at_block block c same behind is).0
    ],
  )
    where
      at_block : (block : ℕ) (c : Content) → block ≡ k → lists_end p < block → slice_get pages block ≡ Some c → IsEntryPage p pages k c × (r ≡ rows_of p (Some c))
      at_block block c same behind is = of_block c (omega (arith, same, behind)) (ap (slice_get pages) (sym same) ∙ is)

  -- a block that breaks a rule is the first
  pub fault_at : (fault : GraphFault) → AreRowsFrom p pages k (Err fault) → AreAllRows p pages (Err fault)
  fault_at Memory of_block = tt
  fault_at (Bad b) (same, behind, c, is, bad) = record {
    page = c;
    behind = omega (arith, same, behind);
    there = ap (slice_get pages) same ∙ is;
    bad = λ page. bad (subst (λ (n : ℕ). IsEntryPage p pages n c) same page);
    before = λ lower d less above at. read.1 lower d (omega (arith, less, same)) above at;
  }

  -- all blocks
  pub all_read : k ≡ length pages → AreAllRows p pages (Ok rows)
  all_read all = subst (λ (n : ℕ). AreRead p pages n rows) all read
