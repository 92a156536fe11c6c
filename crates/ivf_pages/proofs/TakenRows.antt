-- Rows that are moved along a chain to where they belong.
use Rattle.std.proofs.Common.{◌≡◌, ℕ, ◌==◌, true, List, [], ◌∷◌, ◌++◌, map, length, Some, refl, sym, ap, ◌∙◌}
use Rattle.std.specs.Prelude.{slice_get}
use Rattle.std.proofs.lemmas.Bool.{both_ways, eq-eqb, eqb-true, false_from_ne_true, or_left, or_right}
use Rattle.std.proofs.lemmas.List.{append_assoc, append-nil}
use Rattle.vec_names.specs.declared.params.Params.{Params}
use Rattle.page_bytes.specs.Content.{Content}
use Rattle.ivf_graph.specs.Graph.{Row, Part}
use Rattle.ivf_pages.specs.Standing.{is_among, rows_of, part_in}
use Rattle.ivf_pages.specs.Walking.{HasRowsOf, AreOthersKept, AreDistinct}

-- The rows of these blocks of a chain are left to be taken, and are as they were.
pub record IsTaking (blocks left : List ℕ) (before now : List (List Row)) (chain : List Part) : Type 0 where
  pub long : length now ≡ length before
  pub apart : AreDistinct left
  pub within : (block : ℕ) → is_among block left ≡ true → is_among block blocks ≡ true
  pub still : (block : ℕ) → is_among block left ≡ true → slice_get now block ≡ slice_get before block
  pub others : AreOthersKept (λ block. is_among block blocks) before now
  pub taken : (p : Params) (pages : List Content) → HasRowsOf p pages (λ block. is_among block blocks) before
      → map (part_in p pages) blocks ≡ chain ++ map (part_in p pages) left

module _ (blocks : List ℕ) (before : List (List Row)) where
  pub begun : AreDistinct blocks → IsTaking blocks blocks before before []
  begun apart = record {
    long = refl;
    apart = apart;
    within = λ block is. is;
    still = λ block is. refl;
    others = λ block out. refl;
    taken = λ p pages has. refl;
  }

  -- the next block is one of the chain
  pub next_within : (now : List (List Row)) (block : ℕ) (left : List ℕ) (chain : List Part) → IsTaking blocks (block ∷ left) before now chain
      → is_among block blocks ≡ true
  next_within now block left chain s = s.within block (or_left (block == block) (is_among block left) (eq-eqb block block refl))

  -- one block more
  pub one_more : (now after : List (List Row)) (block : ℕ) (left : List ℕ) (chain : List Part) (rows : List Row)
      → IsTaking blocks (block ∷ left) before now chain → length after ≡ length now → slice_get now block ≡ Some rows
      → AreOthersKept (λ b. block == b) now after → IsTaking blocks left before after (chain ++ (block, rows) ∷ [])
  one_more now after block left chain rows s long is kept =
      let here : is_among block (block ∷ left) ≡ true = or_left (block == block) (is_among block left) (eq-eqb block block refl) in record {
        long = long ∙ s.long;
        apart = s.apart.1;
        within = λ x w. s.within x (or_right (block == x) (is_among x left) w);
        still = λ x w.
            kept x (false_from_ne_true (block == x) (λ same.
            both_ways (is_among block left) s.apart.0 (ap (λ (n : ℕ). is_among n left) (eqb-true block x same) ∙ w)))
            ∙ s.still x (or_right (block == x) (is_among x left) w);
        others = λ x out.
            kept x (false_from_ne_true (block == x) (λ same.
            both_ways (is_among x blocks) out (ap (λ (n : ℕ). is_among n blocks) (sym (eqb-true block x same)) ∙ s.within block here)))
            ∙ s.others x out;
        taken = λ p pages has.
            let own : rows_of p (slice_get pages block) ≡ rows = same_rows (sym (has block (s.within block here)) ∙ sym (s.still block here) ∙ is) in
            s.taken p pages has ∙ ap (λ (r : List Row). chain ++ (block, r) ∷ map (part_in p pages) left) own
            ∙ sym (append_assoc chain ((block, rows) ∷ []) (map (part_in p pages) left));
      }
    where
      same_rows : {a b : List Row} → Some a ≡ Some b → a ≡ b
      same_rows e = cc

  pub all_taken : (now : List (List Row)) (chain : List Part) → IsTaking blocks [] before now chain → (p : Params) (pages : List Content)
      → HasRowsOf p pages (λ block. is_among block blocks) before → chain ≡ map (part_in p pages) blocks
  all_taken now chain s p pages has = sym (s.taken p pages has ∙ append-nil chain)
