-- Distances that are exact stay so.
use Rattle.std.proofs.Common.{◌≡◌, ℕ, zero, suc, Bool, List, [], ◌∷◌, filter, map, take, drop, slice_get, Some, refl, sym, ap, subst}
use Rattle.std.specs.List.{AllByRecursion}
use Rattle.std.proofs.lemmas.Option.{none-some, same_Some}
use Rattle.vec_names.specs.declared.tid.Tid.{Tid}
use Rattle.vec_names.specs.declared.params.Ops.{Ops}
use Rattle.bit_dist.specs.Distances.{distance_of}
use Rattle.neighbour_pick.specs.declared.found.Found.{Found}
use Rattle.graph_search.specs.Reads.{Answer, Gone, OfMeta, OfNode, OfList, OfPage}
use Rattle.graph_search.specs.Search.{AreExact, Start, Turn, element_of, elements_of, in_order, is_before, is_live}
use Rattle.graph_search.specs.Scan.{Held, after_turn}
use Rattle.graph_search.specs.ByHolding.{HoldTheSame, after_turns, batch_of, elements_in}
use Rattle.search_sets.specs.Standing.{begun_from, known_earlier, without_batch}
use Rattle.search_sets.proofs.HeldSo.{take_map}
use Rattle.layer_search.specs.Waiting.{found_held}
use Rattle.layer_search.specs.Resuming.{AreExactHeld}
use Rattle.layer_search.proofs.Marks.{earlier_found}
use Rattle.layer_search.proofs.Steadiness.{all_both, all_front, all_kept, all_ranked, firsts, found_all, waiting_all}

module _ (ops : Ops) (query : List Bool) where
  abbrev IsExact : Found → Type 0
  IsExact e = e.dist ≡ distance_of ops query e.bits

  pub each_of : (es : List Found) → AreExact ops query es → AllByRecursion IsExact es
  each_of [] exact = tt
  each_of (e ∷ es) exact = (exact 0 e refl, each_of es (λ i f is. exact (suc i) f is))

  one_more : (f : Found) (es : List Found) → IsExact f → AreExact ops query es → (i : ℕ) (e : Found) → slice_get (f ∷ es) i ≡ Some e → IsExact e
  one_more f es first rest zero e is = subst IsExact (same_Some f e is) first
  one_more f es first rest (suc i) e is = rest i e is

  pub all_of : (es : List Found) → AllByRecursion IsExact es → AreExact ops query es
  all_of [] all = λ i e is. absurd (none-some e is)
  all_of (f ∷ es) all = one_more f es all.0 (all_of es all.1)

  pub told_exact : (at : Tid) (told : Answer) → AllByRecursion IsExact (element_of ops query at told)
  told_exact at Gone = tt
  told_exact at (OfMeta entry level hint blocks) = tt
  told_exact at (OfNode level version list_at ids bits) = (refl, tt)
  told_exact at (OfList slots) = tt
  told_exact at (OfPage nodes) = tt

  pub all_told_exact : (nodes : List (Tid × Answer)) → AllByRecursion IsExact (elements_of ops query nodes)
  all_told_exact [] = tt
  all_told_exact (n ∷ nodes) = all_both IsExact (element_of ops query n.0 n.1) (elements_of ops query nodes) (told_exact n.0 n.1) (all_told_exact nodes)

  pub same_exact : (g h : Held) → HoldTheSame g h → AreExactHeld ops query h → AreExactHeld ops query g
  same_exact g h same exact = record {
    waiting = subst (AreExact ops query) (sym same.unexpanded_are) exact.waiting;
    found = subst (AreExact ops query) (sym (ap (map (λ (p : Found × Bool). p.0)) same.found_are)) exact.found;
  }

  begun_exact : (from : List Found) → AreExact ops query from → AreExactHeld ops query (begun_from from)
  begun_exact from exact =
      let all : AllByRecursion IsExact from = each_of from exact in
      record {
        waiting = all_of (in_order from) (all_ranked IsExact is_before from all);
        found = subst (AreExact ops query) (sym (firsts (in_order (filter is_live from))))
            (all_of (in_order (filter is_live from)) (all_ranked IsExact is_before (filter is_live from) (all_kept IsExact is_live from all)));
      }

  pub begins_exact : (from : List Found) (h : Held) → HoldTheSame h (begun_from from) → AreExact ops query from → AreExactHeld ops query h
  begins_exact from h begun exact = same_exact h (begun_from from) begun (begun_exact from exact)

  pub earlier_exact : (h : Held) → AreExactHeld ops query h → AreExactHeld ops query (known_earlier h)
  earlier_exact h exact = record { waiting = exact.waiting; found = subst (AreExact ops query) (sym (earlier_found h)) exact.found }

  taken_firsts : (n : ℕ) (ps : List (Found × Bool)) → map (λ (p : Found × Bool). p.0) (drop n ps) ≡ drop n (map (λ (p : Found × Bool). p.0) ps)
  taken_firsts zero ps = refl
  taken_firsts (suc n) [] = refl
  taken_firsts (suc n) (p ∷ ps) = taken_firsts n ps

  all_left : (n : ℕ) (es : List Found) → AllByRecursion IsExact es → AllByRecursion IsExact (drop n es)
  all_left zero es all = all
  all_left (suc n) [] all = tt
  all_left (suc n) (e ∷ es) all = all_left n es all.1

  pub batch_exact : (n : ℕ) (h : Held) (batch : List (Found × Bool)) → batch ≡ batch_of n h → AreExactHeld ops query h → AreExact ops query (elements_in batch)
  batch_exact n h batch is exact =
      subst (λ (ps : List (Found × Bool)). AreExact ops query (elements_in ps)) (sym is)
      (subst (AreExact ops query) (take_map (λ (p : Found × Bool). p.0) n h.found)
      (all_of (take n (found_held h)) (all_front IsExact n (found_held h) (each_of (found_held h) exact.found))))

  pub left_exact : (n : ℕ) (g h : Held) → HoldTheSame g (without_batch n h) → AreExactHeld ops query h → AreExactHeld ops query g
  left_exact n g h left exact =
      same_exact g (without_batch n h) left
      (record {
        waiting = exact.waiting;
        found = subst (AreExact ops query) (sym (taken_firsts n h.found))
            (all_of (drop n (found_held h)) (all_left n (found_held h) (each_of (found_held h) exact.found)));
      })

turn_exact : (s : Start) (t : Turn) (h : Held) → AreExactHeld s.ops s.query h → AreExactHeld s.ops s.query (after_turn s t h)
turn_exact s t h exact =
    let P : Found → Type 0 = λ e. e.dist ≡ distance_of s.ops s.query e.bits in
    let told : AllByRecursion P (elements_of s.ops s.query t.nodes) = all_told_exact s.ops s.query t.nodes in
    record {
      waiting = all_of s.ops s.query (after_turn s t h).unexpanded (waiting_all P s t h told (each_of s.ops s.query h.unexpanded exact.waiting));
      found = all_of s.ops s.query (found_held (after_turn s t h)) (found_all P s t h told (each_of s.ops s.query (found_held h) exact.found));
    }

pub turns_exact : (s : Start) (turns : List Turn) (h : Held) → AreExactHeld s.ops s.query h → AreExactHeld s.ops s.query (after_turns s turns h)
turns_exact s [] h exact = exact
turns_exact s (t ∷ turns) h exact = turns_exact s turns (after_turn s t h) (turn_exact s t h exact)
