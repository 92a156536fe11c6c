-- Where the elements of a result come from.
use Rattle.std.proofs.Common.{◌≡◌, ℕ, zero, suc, Bool, not, ◌&&◌, List, [], ◌∷◌, ◌++◌, true, false, cond, filter, map, take, slice_get, Some, None, refl, sym, ap, subst, ◌∙◌}
use Rattle.std.proofs.lemmas.Option.{none-some, same_Some}
use Rattle.vec_names.specs.declared.tid.Tid.{Tid}
use Rattle.bit_dist.specs.Distances.{distance_of}
use Rattle.list_values.proofs.Parts.{in_whole}
use Rattle.neighbour_pick.specs.declared.found.Found.{Found}
use Rattle.neighbour_pick.proofs.Choosing.{All_of, ranked_all, got_all}
use Rattle.graph_search.specs.Reads.{Look, AtNode, Answer, Gone, OfMeta, OfNode, OfList, OfPage}
use Rattle.graph_search.specs.Search.{Start, Turn, element_of, elements_of, learned, known, found_in, only_ef, is_live, is_among, is_before, turn_reads, course_reads, LayerSearch, IsMet, begun, read, AreExact}

-- ---- parts of lists

pub in_left : {X : Type 0} (xs ys : List X) (i : ℕ) (x : X) → slice_get xs i ≡ Some x → slice_get (xs ++ ys) i ≡ Some x
in_left [] ys i x e = absurd (none-some x e)
in_left (y ∷ xs) ys zero x e = e
in_left (y ∷ xs) ys (suc i) x e = in_left xs ys i x e

pub in_right : {X : Type 0} (xs ys : List X) (i : ℕ) (x : X) → slice_get ys i ≡ Some x → (j : ℕ) × (slice_get (xs ++ ys) j ≡ Some x)
in_right [] ys i x e = (i, e)
in_right (y ∷ xs) ys i x e = let there = in_right xs ys i x e in (suc there.0, there.1)

pub both_parts : {X : Type 0} (P : X → Type 0) (xs ys : List X) → All_of P xs → All_of P ys → All_of P (xs ++ ys)
unfolding All_of
both_parts P [] ys p q = q
both_parts P (x ∷ xs) ys p q = (p.0, both_parts P xs ys p.1 q)

pub all_weaker : {X : Type 0} (P Q : X → Type 0) (xs : List X) → ((x : X) → P x → Q x) → All_of P xs → All_of Q xs
unfolding All_of
all_weaker P Q [] weaker all = tt
all_weaker P Q (x ∷ xs) weaker all = (weaker x all.0, all_weaker P Q xs weaker all.1)

pub filtered_all : {X : Type 0} (P : X → Type 0) (p : X → Bool) (xs : List X) → All_of P xs → All_of P (filter p xs)
unfolding All_of
filtered_all P p [] all = tt
filtered_all P p (x ∷ xs) all =
    elim (p x) as (λ b. All_of P (cond b (x ∷ filter p xs) (filter p xs))) [
      | true ↦ (all.0, filtered_all P p xs all.1)
      | false ↦ filtered_all P p xs all.1
    ]

pub each_all : {X : Type 0} (P : X → Type 0) (xs : List X) → ((i : ℕ) (x : X) → slice_get xs i ≡ Some x → P x) → All_of P xs
unfolding All_of
each_all P [] each = tt
each_all P (x ∷ xs) each = (each 0 x refl, each_all P xs (λ i y e. each (suc i) y e))

-- ---- what is met

module _ (s : Start) where
  more_right : (xs ys : List (Look × Answer)) (e : Found) → IsMet s ys e → IsMet s (xs ++ ys) e
  more_right xs ys e (begun i is) = begun i is
  more_right xs ys e (read i told at is) = let there = in_right xs ys i _ at in read there.0 told there.1 is

  more_left : (xs ys : List (Look × Answer)) (e : Found) → IsMet s xs e → IsMet s (xs ++ ys) e
  more_left xs ys e (begun i is) = begun i is
  more_left xs ys e (read i told at is) = read i told (in_left xs ys i _ at) is

  -- one look, the first of these
  first_met : (at : Tid) (told : Answer) (others : List (Look × Answer))
      → All_of (IsMet s ((AtNode at s.layer None, told) ∷ others)) (element_of s.ops s.query at told)
  unfolding All_of
  first_met at Gone others = tt
  first_met at (OfMeta entry level hint blocks) others = tt
  first_met at (OfNode level version list_at ids bits) others = (read 0 (OfNode level version list_at ids bits) refl refl, tt)
  first_met at (OfList slots) others = tt
  first_met at (OfPage nodes) others = tt

  node_reads : List (Tid × Answer) → List (Look × Answer)
  node_reads nodes = map (λ n. (AtNode n.0 s.layer None, n.1)) nodes

  nodes_met : (nodes : List (Tid × Answer)) → All_of (IsMet s (node_reads nodes)) (elements_of s.ops s.query nodes)
  unfolding All_of node_reads
  nodes_met [] = tt
  nodes_met (n ∷ nodes) =
      both_parts (IsMet s (node_reads (n ∷ nodes))) (element_of s.ops s.query n.0 n.1) (elements_of s.ops s.query nodes)
      (first_met n.0 n.1 (node_reads nodes))
      (all_weaker (IsMet s (node_reads nodes)) (IsMet s (node_reads (n ∷ nodes))) (elements_of s.ops s.query nodes)
      (λ e met. more_right ((AtNode n.0 s.layer None, n.1) ∷ []) (node_reads nodes) e met) (nodes_met nodes))

  turn_met : (t : Turn) → All_of (IsMet s (turn_reads s.layer t)) (elements_of s.ops s.query t.nodes)
  unfolding node_reads
  turn_met t =
      all_weaker (IsMet s (node_reads t.nodes)) (IsMet s (turn_reads s.layer t)) (elements_of s.ops s.query t.nodes)
      (λ e met. more_right (take 1 (turn_reads s.layer t)) (node_reads t.nodes) e met) (nodes_met t.nodes)

  pub learned_met : (turns : List Turn) → All_of (IsMet s (course_reads s.layer turns)) (learned s turns)
  unfolding All_of
  learned_met [] = tt
  learned_met (t ∷ turns) =
      both_parts (IsMet s (course_reads s.layer (t ∷ turns))) (elements_of s.ops s.query t.nodes) (learned s turns)
      (all_weaker (IsMet s (turn_reads s.layer t)) (IsMet s (course_reads s.layer (t ∷ turns))) (elements_of s.ops s.query t.nodes)
      (λ e met. more_left (turn_reads s.layer t) (course_reads s.layer turns) e met) (turn_met t))
      (all_weaker (IsMet s (course_reads s.layer turns)) (IsMet s (course_reads s.layer (t ∷ turns))) (learned s turns)
      (λ e met. more_right (turn_reads s.layer t) (course_reads s.layer turns) e met) (learned_met turns))

  pub known_met : (turns : List Turn) → All_of (IsMet s (course_reads s.layer turns)) (known s turns)
  known_met turns =
      both_parts (IsMet s (course_reads s.layer turns)) s.from (learned s turns)
      (each_all (IsMet s (course_reads s.layer turns)) s.from (λ i e is. begun i is)) (learned_met turns)

  pub result_met : (ef : ℕ) (reads : List (Look × Answer)) (result : List Found) → LayerSearch s ef reads result
      → (i : ℕ) (e : Found) → slice_get result i ≡ Some e → IsMet s reads e
  result_met ef reads result search i e is =
      let p : Found → Bool = λ f. is_live f && not (is_among [] f.at) in
      let P : Found → Type 0 = IsMet s (course_reads s.layer search.turns) in
      let here : slice_get (found_in s (only_ef ef) search.turns) i ≡ Some e =
      in_whole ef _ i e (ap (λ (r : List Found). slice_get r i) (sym search.result_is) ∙ is) in
      subst (λ (r : List (Look × Answer)). IsMet s r e) (sym search.reads_are)
      (got_all P (found_in s (only_ef ef) search.turns) i e
      (ranked_all P is_before (filter p (known s search.turns)) (filtered_all P p (known s search.turns) (known_met search.turns))) here)

  told_exact : (at : Tid) (told : Answer) (e : Found) → element_of s.ops s.query at told ≡ e ∷ [] → e.dist ≡ distance_of s.ops s.query e.bits
  told_exact at Gone e is = absurd cc
  told_exact at (OfMeta entry level hint blocks) e is = absurd cc
  told_exact at (OfNode level version list_at ids bits) e is =
      let same = same_Some _ e (ap (λ (es : List Found). slice_get es 0) is) in
      subst (λ (f : Found). f.dist ≡ distance_of s.ops s.query f.bits) same refl
  told_exact at (OfList slots) e is = absurd cc
  told_exact at (OfPage nodes) e is = absurd cc

  met_exact : (reads : List (Look × Answer)) (e : Found) → AreExact s.ops s.query s.from → IsMet s reads e → e.dist ≡ distance_of s.ops s.query e.bits
  met_exact reads e exact (begun i is) = exact i e is
  met_exact reads e exact (read i told at is) = told_exact e.at told e is

  pub result_exact : (ef : ℕ) (reads : List (Look × Answer)) (result : List Found) → AreExact s.ops s.query s.from → LayerSearch s ef reads result
      → AreExact s.ops s.query result
  result_exact ef reads result exact search i e is = met_exact reads e exact (result_met ef reads result search i e is)
