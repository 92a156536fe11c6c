-- What a search that goes on holds tells whether it is over, and which turn is next.
use Rattle.std.proofs.Common.{◌≡◌, ℕ, ◌||◌, ◌&&◌, not, cond, Bool, false, List, [], ◌∷◌, ◌++◌, filter, map, length, Option, Some, None, refl, sym, subst, ap, ap₂, ◌∙◌}
use Rattle.std.proofs.Math.Bool.{and-true}
use Rattle.std.proofs.lemmas.List.{append-nil}
use Rattle.vec_names.specs.declared.tid.Tid.{Tid}
use Rattle.neighbour_pick.specs.declared.found.Found.{Found}
use Rattle.graph_search.specs.Reads.{Look, Answer}
use Rattle.graph_search.specs.Search.{Start, Turn, Bounds, IsCourse, course_reads, is_live, is_among, place_of, open_in, found_in, is_done, is_most, is_halted, in_order, LayerSearch}
use Rattle.graph_search.specs.Scan.{Standing, Mode, Given, is_known_at, NextBatch, Held, HoldsAfter, is_over, begins_with, GoesOnTo}

firsts : (earlier es : List Found) → map (λ (p : Found × Bool). p.0) (map (λ (e : Found). (e, is_known_at earlier e.at)) es) ≡ es
firsts earlier [] = refl
firsts earlier (e ∷ es) = ap (λ (z : List Found). e ∷ z) (firsts earlier es)

module _ (s : Start) (turns : List Turn) (taken : List Tid) (earlier : List Found) (h : Held) (holds : HoldsAfter s turns taken earlier h) where
  pub found_is : (ef : ℕ) (most : Option ℕ) → map (λ (p : Found × Bool). p.0) h.found ≡ found_in s (record { ef = ef; taken = taken; most = most }) turns
  found_is ef most =
      ap (map (λ (p : Found × Bool). p.0)) holds.found_are ∙ firsts earlier (found_in s (record { ef = ef; taken = taken; most = most }) turns)

  pub over : (ef : ℕ) (most : Option ℕ) → is_over ef most h ≡ is_halted s (record { ef = ef; taken = taken; most = most }) turns
  over ef most =
      ap₂ (λ (found least : List Found). is_done ef found least || is_most most h.count) (found_is ef most) holds.unexpanded_are
      ∙ ap (λ (k : ℕ). is_done ef (found_in s (record { ef = ef; taken = taken; most = most }) turns) (open_in s turns) || is_most most k) holds.count_is

kept_all : (es : List Found) → filter (λ (e : Found). not (is_among [] e.at)) es ≡ es
kept_all [] = refl
kept_all (e ∷ es) = ap (λ (z : List Found). e ∷ z) (kept_all es)

live_only : (es : List Found) → filter (λ (e : Found). is_live e && not (is_among [] e.at)) es ≡ filter is_live es
live_only [] = refl
live_only (e ∷ es) =
    ap (λ (b : Bool). cond b (e ∷ filter (λ (f : Found). is_live f && not (is_among [] f.at)) es) (filter (λ (f : Found). is_live f && not (is_among [] f.at)) es))
    (and-true (is_live e))
    ∙ ap (λ (z : List Found). cond (is_live e) (e ∷ z) z) (live_only es)

pub begins : (s : Start) → HoldsAfter s [] [] [] (begins_with s)
begins s = record {
  names = λ at. ap (λ (ps : List Tid). is_among ps at) (sym (append-nil (map place_of s.from)));
  unexpanded_are = sym (ap in_order (ap (filter (λ (e : Found). not (is_among [] e.at))) (append-nil s.from) ∙ kept_all s.from));
  found_are = ap (λ (es : List Found). map (λ (e : Found). (e, false)) (in_order es))
      (sym (live_only (s.from ++ []) ∙ ap (filter is_live) (append-nil s.from)));
  count_is = ap length (sym (append-nil s.from));
}

-- a next batch is a search that goes on
pub batch_goes_on : (ef most : ℕ) (mode : Mode) (old : Standing) (reads : List (Look × Answer)) (given : List Given) (end : Bool) (now : Standing)
    → (b : NextBatch ef most mode old reads given end now)
    → old.start.layer ≡ 0 → GoesOnTo old.start ef (Some most) old.turns old.taken (course_reads 0 b.more) b.more
batch_goes_on ef most mode old reads given end now b lowest = record {
  course = subst (λ (c : Bounds). IsCourse old.start c old.turns b.more) b.bounds_are b.course;
  halted = ap (λ (c : Bounds). is_halted old.start c (old.turns ++ b.more)) (sym b.bounds_are) ∙ b.halted;
  reads_are = ap (λ (k : ℕ). course_reads k b.more) (sym lowest);
}

-- a layer's search is one that goes on from no turns, with no bound
pub search_goes_on : (s : Start) (ef : ℕ) (reads : List (Look × Answer)) (result : List Found) (search : LayerSearch s ef reads result)
    → GoesOnTo s ef None [] [] reads search.turns
search_goes_on s ef reads result search = record { course = search.course; halted = search.halted; reads_are = search.reads_are }
