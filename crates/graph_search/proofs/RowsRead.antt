-- Each row of a batch was read in it.
use Rattle.std.proofs.Common.{◌≡◌, ℕ, zero, suc, ◌+◌, ◌-◌, Bool, true, false, cond, not, ◌&&◌, ◌||◌, List, [], ◌∷◌, ◌++◌, filter, flat_map, take, slice_get, Option, Some, None, refl, sym, ap, subst, ◌∙◌, append_assoc, true≢false}
use Rattle.std.proofs.lemmas.Option.{none-some, same_Some}
use Rattle.std.specs.Ordering.{eq_by_cmp, is_eq}
use Rattle.vec_names.specs.declared.tid.Tid.{Tid}
use Rattle.vec_names.specs.declared.params.Ops.{Ops}
use Rattle.vec_names.specs.Order.{tid_cmp}
use Rattle.bit_dist.specs.declared.dist.Dist.{Dist}
use Rattle.neighbour_pick.specs.declared.found.Found.{Found}
use Rattle.neighbour_pick.proofs.Choosing.{All_of, ranked_all, got_all}
use Rattle.graph_search.specs.Reads.{Look, AtMeta, AtNode, Answer, Gone, OfMeta, OfNode, OfList, OfPage}
use Rattle.graph_search.specs.Search.{Start, Turn, element_of, elements_of, learned, known, found_in, only_ef, is_live, is_among, is_before, course_reads, IsMet, begun, read}
use Rattle.graph_search.specs.Descent.{or_from, start_at, IsLowered, Descent, no_entry, entry_gone, lowered}
use Rattle.graph_search.specs.Scan.{Given, rows_of, Standing, below, FirstBatch, is_known_at, TakesOne, TakesIn, Mode, Off, Relaxed, Strict, is_less, without_nearer, let_through, NextBatch, IsTold, IsRowRead}
use Rattle.graph_search.proofs.WorkedSearch.{itself}
use Rattle.graph_search.proofs.WhereFrom.{in_left, in_right, both_parts, all_weaker, filtered_all, each_all, known_met, learned_met, result_met}

taken_all : {X : Type 0} (P : X → Type 0) (n : ℕ) (xs : List X) → All_of P xs → All_of P (take n xs)
unfolding All_of
taken_all P zero xs all = tt
taken_all P (suc n) [] all = tt
taken_all P (suc n) (x ∷ xs) all = (all.0, taken_all P n xs all.1)

all_flat : {X Y : Type 0} (P : X → Type 0) (Q : Y → Type 0) (f : X → List Y) → ((x : X) → P x → All_of Q (f x)) → (xs : List X) → All_of P xs
    → All_of Q (flat_map f xs)
unfolding All_of
all_flat P Q f each [] all = tt
all_flat P Q f each (x ∷ xs) all = both_parts Q (f x) (flat_map f xs) (each x all.0) (all_flat P Q f each xs all.1)

module _ (ops : Ops) (query : List Bool) where
  told_left : (xs ys : List (Look × Answer)) (e : Found) → IsTold ops query xs e → IsTold ops query (xs ++ ys) e
  told_left xs ys e t = record {
    number = t.number;
    at = t.at;
    layer = t.layer;
    version = t.version;
    told = t.told;
    among = in_left xs ys t.number _ t.among;
    is = t.is;
  }

  told_right : (xs ys : List (Look × Answer)) (e : Found) → IsTold ops query ys e → IsTold ops query (xs ++ ys) e
  told_right xs ys e t = let there = in_right xs ys t.number _ t.among in record {
    number = there.0;
    at = t.at;
    layer = t.layer;
    version = t.version;
    told = t.told;
    among = there.1;
    is = t.is;
  }

  rows_read : (reads : List (Look × Answer)) (e : Found) → IsTold ops query reads e → All_of (IsRowRead ops query reads) (rows_of e)
  rows_read reads e t = each_all (IsRowRead ops query reads) (rows_of e) (λ k g is. record { element = e; told = t; number = k; of_element = is })

  -- ---- a search from what was told before

  met_told : (from : List Found) (layer : ℕ) (before reads : List (Look × Answer)) → All_of (IsTold ops query before) from → (e : Found)
      → IsMet (start_at ops query from layer) reads e → IsTold ops query (before ++ reads) e
  met_told from layer before reads all e (begun i is) = told_left before reads e (got_all (IsTold ops query before) from i e all is)
  met_told from layer before reads all e (read i told is element) = told_right before reads e (record {
    number = i;
    at = e.at;
    layer = layer;
    version = None;
    told = told;
    among = is;
    is = element;
  })

  next_told : (before : List (Look × Answer)) (found from : List Found) → All_of (IsTold ops query before) found → All_of (IsTold ops query before) from
      → All_of (IsTold ops query before) (or_from found from)
  next_told before [] from all others = others
  next_told before (e ∷ found) from all others = all

  lowered_told : (to k : ℕ) (from : List Found) (before reads : List (Look × Answer)) (result : List Found) → All_of (IsTold ops query before) from
      → IsLowered ops query to k from reads result → All_of (IsTold ops query (before ++ reads)) result
  lowered_told to zero from before reads result all (none, same) =
      let on : All_of (IsTold ops query (before ++ reads)) from =
      all_weaker (IsTold ops query before) (IsTold ops query (before ++ reads)) from (λ e t. told_left before reads e t) all in
      subst (λ (es : List Found). All_of (IsTold ops query (before ++ reads)) es) (sym same) on
  lowered_told to (suc k) from before reads result all l =
      let found_told : All_of (IsTold ops query (before ++ l.first)) l.found =
      each_all (IsTold ops query (before ++ l.first)) l.found
      (λ i e is. met_told from (to + suc k) before l.first all e (result_met (start_at ops query from (to + suc k)) 1 l.first l.found l.search i e is)) in
      let from_told : All_of (IsTold ops query (before ++ l.first)) from =
      all_weaker (IsTold ops query before) (IsTold ops query (before ++ l.first)) from (λ e t. told_left before l.first e t) all in
      let on = lowered_told to k (or_from l.found from) (before ++ l.first) l.later result (next_told (before ++ l.first) l.found from found_told from_told) l.deeper_is in
      subst (λ (rs : List (Look × Answer)). All_of (IsTold ops query rs) result)
      (append_assoc before l.first l.later ∙ ap (λ (z : List (Look × Answer)). before ++ z) (sym l.reads_are)) on

  descent_told : (to : ℕ) (reads : List (Look × Answer)) (top : Option ℕ) (from : List Found) → Descent ops query to reads top from
      → All_of (IsTold ops query reads) from
  unfolding All_of
  descent_told to _ _ _ (no_entry level hint blocks) = tt
  descent_told to _ _ _ (entry_gone at level hint blocks told none) = tt
  descent_told to _ _ _ (lowered at level hint blocks told e reads from is down) =
      let first : List (Look × Answer) = (AtMeta, OfMeta (Some at) level hint blocks) ∷ (AtNode at level None, told) ∷ [] in
      let entry : IsTold ops query first e = record { number = 1; at = at; layer = level; version = None; told = told; among = refl; is = is } in
      lowered_told to (level - to) (e ∷ []) first reads from (entry, tt) down

  -- ---- elements that are taken

  one_told : (at : Tid) (layer : ℕ) (version : Option ℕ) (told : Answer) (others : List (Look × Answer))
      → All_of (IsTold ops query ((AtNode at layer version, told) ∷ others)) (element_of ops query at told)
  unfolding All_of
  one_told at layer version Gone others = tt
  one_told at layer version (OfMeta entry level hint blocks) others = tt
  one_told at layer version (OfNode level v list_at ids bits) others = (
    record { number = 0; at = at; layer = layer; version = version; told = OfNode level v list_at ids bits; among = refl; is = refl },
    tt,
  )
  one_told at layer version (OfList slots) others = tt
  one_told at layer version (OfPage nodes) others = tt

  abbrev WasTold : List (Look × Answer) → List Found → Found → Type 0
  WasTold before earlier e = is_known_at earlier e.at ≡ false → IsTold ops query before e

  anew : (before : List (Look × Answer)) (e : Found) (Others : List (Look × Answer) → List Given → Type 0) (again : List (Look × Answer)) (rows : List Given)
      → ((r : Look × Answer) (rest : List (Look × Answer)) (others : List Given) → Others rest others
      → All_of (IsRowRead ops query (before ++ r ∷ [] ++ rest)) others)
      → TakesOne true ops query e Others again rows → All_of (IsRowRead ops query (before ++ again)) rows
  anew before e Others again rows on (told, rest, others, are, given_are, took) =
      let r : Look × Answer = (AtNode e.at 0 (Some e.version), told) in
      let Q : Given → Type 0 = IsRowRead ops query (before ++ (r ∷ rest)) in
      let own : All_of Q (flat_map rows_of (element_of ops query e.at told)) =
      all_flat (IsTold ops query (r ∷ rest)) Q rows_of (λ f t. rows_read (before ++ (r ∷ rest)) f (told_right before (r ∷ rest) f t))
      (element_of ops query e.at told) (one_told e.at 0 (Some e.version) told rest) in
      let others_read : All_of Q others =
      subst (λ (rs : List (Look × Answer)). All_of (IsRowRead ops query rs) others) (append_assoc before (r ∷ []) rest) (on r rest others took) in
      subst (λ (rs : List (Look × Answer)). All_of (IsRowRead ops query (before ++ rs)) rows) (sym are)
      (subst (λ (gs : List Given). All_of Q gs) (sym given_are)
      (both_parts Q (flat_map rows_of (element_of ops query e.at told)) others own others_read))

  as_told : (before : List (Look × Answer)) (e : Found) (Others : List (Look × Answer) → List Given → Type 0) (again : List (Look × Answer)) (rows : List Given)
      → IsTold ops query before e
      → ((others : List Given) → Others again others → All_of (IsRowRead ops query (before ++ again)) others)
      → TakesOne false ops query e Others again rows → All_of (IsRowRead ops query (before ++ again)) rows
  as_told before e Others again rows told on (others, given_are, took) =
      let Q : Given → Type 0 = IsRowRead ops query (before ++ again) in
      subst (λ (gs : List Given). All_of Q gs) (sym given_are)
      (both_parts Q (rows_of e) others (rows_read (before ++ again) e (told_left before again e told)) (on others took))

  takes_read : (earlier es : List Found) (before again : List (Look × Answer)) (rows : List Given) → All_of (WasTold before earlier) es
      → TakesIn ops query earlier es again rows → All_of (IsRowRead ops query (before ++ again)) rows
  unfolding All_of
  takes_read earlier [] before again rows all (none, no_rows) =
      subst (λ (gs : List Given). All_of (IsRowRead ops query (before ++ again)) gs) (sym no_rows) tt
  takes_read earlier (e ∷ es) before again rows all took =
      elim (is_known_at earlier e.at) as (λ b. is_known_at earlier e.at ≡ b
      → TakesOne b ops query e (λ rest others. TakesIn ops query earlier es rest others) again rows
      → All_of (IsRowRead ops query (before ++ again)) rows) [
        | true ↦ λ is t. anew before e (λ rest others. TakesIn ops query earlier es rest others) again rows
            (λ r rest others on. takes_read earlier es (before ++ r ∷ []) rest others
            (all_weaker (WasTold before earlier) (WasTold (before ++ r ∷ []) earlier) es (λ f was new. told_left before (r ∷ []) f (was new)) all.1) on) t
        | false ↦ λ is t. as_told before e (λ rest others. TakesIn ops query earlier es rest others) again rows (all.0 is)
            (λ others on. takes_read earlier es before again others all.1 on) t
      ] refl took

  -- ---- the first batch

  below_read : (ef : ℕ) (top : Option ℕ) (from : List Found) (before reads : List (Look × Answer)) (given : List Given) (now : Standing)
      → All_of (IsTold ops query before) from → below ops query ef top from reads given now → All_of (IsRowRead ops query (before ++ reads)) given
  unfolding All_of
  below_read ef None from before reads given now all (none, no_rows, stands) =
      subst (λ (gs : List Given). All_of (IsRowRead ops query (before ++ reads)) gs) (sym no_rows) tt
  below_read ef (Some top) from before reads given now all b =
      let s : Start = start_at ops query from 0 in
      let p : Found → Bool = λ f. is_live f && not (is_among [] f.at) in
      let P : Found → Type 0 = IsTold ops query (before ++ reads) in
      let told : All_of P (known s b.turns) =
      all_weaker (IsMet s (course_reads 0 b.turns)) P (known s b.turns)
      (λ e met. subst (λ (rs : List (Look × Answer)). IsTold ops query (before ++ rs) e) (sym b.reads_are)
      (met_told from 0 before (course_reads 0 b.turns) all e met)) (known_met s b.turns) in
      let batch : All_of P (take ef (found_in s (only_ef ef) b.turns)) =
      taken_all P ef (found_in s (only_ef ef) b.turns) (ranked_all P is_before (filter p (known s b.turns)) (filtered_all P p (known s b.turns) told)) in
      subst (λ (gs : List Given). All_of (IsRowRead ops query (before ++ reads)) gs) (sym b.given_are)
      (all_flat P (IsRowRead ops query (before ++ reads)) rows_of (λ e t. rows_read (before ++ reads) e t) (take ef (found_in s (only_ef ef) b.turns)) batch)

  pub first_read : (ef : ℕ) (reads : List (Look × Answer)) (given : List Given) (end : Bool) (now : Standing)
      → FirstBatch ops query ef reads given end now → (i : ℕ) (g : Given) → slice_get given i ≡ Some g → IsRowRead ops query reads g
  first_read ef reads given end now b i g is =
      subst (λ (rs : List (Look × Answer)). IsRowRead ops query rs g) (sym b.reads_are)
      (got_all (IsRowRead ops query (b.down ++ b.on)) given i g
      (below_read ef b.top b.from b.down b.on given now (descent_told 0 b.down b.top b.from b.descent) b.searched) is)

-- ---- the next batch

or_true : (b : Bool) → (b || true) ≡ true
or_true true = refl
or_true false = refl

pub among_self : (es : List Found) (i : ℕ) (e : Found) → slice_get es i ≡ Some e → is_known_at es e.at ≡ true
among_self [] i e is = absurd (none-some e is)
among_self (f ∷ es) zero e is =
    let same : f ≡ e = same_Some f e is in
    subst (λ (g : Found). is_known_at (f ∷ es) g.at ≡ true) same (ap (λ (b : Bool). b || is_known_at es f.at) (ap is_eq (itself f.at)))
among_self (f ∷ es) (suc i) e is =
    ap (λ (b : Bool). eq_by_cmp tid_cmp e.at f.at || b) (among_self es i e is) ∙ or_true (eq_by_cmp tid_cmp e.at f.at)

learned_both : (s : Start) (xs ys : List Turn) → learned s (xs ++ ys) ≡ learned s xs ++ learned s ys
learned_both s [] ys = refl
learned_both s (t ∷ xs) ys =
    ap (λ (z : List Found). elements_of s.ops s.query t.nodes ++ z) (learned_both s xs ys)
    ∙ sym (append_assoc (elements_of s.ops s.query t.nodes) (learned s xs) (learned s ys))

pub known_both : (s : Start) (xs ys : List Turn) → known s (xs ++ ys) ≡ known s xs ++ learned s ys
known_both s xs ys = ap (λ (z : List Found). s.from ++ z) (learned_both s xs ys) ∙ sym (append_assoc s.from (learned s xs) (learned s ys))

not_nearer_all : (Q : Given → Type 0) (last : Option Dist) (gs : List Given) → All_of Q gs → All_of Q (without_nearer last gs)
unfolding All_of
not_nearer_all Q last [] all = tt
not_nearer_all Q last (g ∷ gs) all =
    elim (is_less g.dist last) as (λ b. All_of Q (cond b (without_nearer last gs) (g ∷ without_nearer (Some g.dist) gs))) [
      | true ↦ not_nearer_all Q last gs all.1
      | false ↦ (all.0, not_nearer_all Q (Some g.dist) gs all.1)
    ]

through_all : (Q : Given → Type 0) (mode : Mode) (last : Option Dist) (gs : List Given) → All_of Q gs → All_of Q (let_through mode last gs)
unfolding All_of
through_all Q Off last gs all = tt
through_all Q Relaxed last gs all = all
through_all Q Strict last gs all = not_nearer_all Q last gs all

module _ (ef most : ℕ) (mode : Mode) (old : Standing) (reads : List (Look × Answer)) (given : List Given) (end : Bool) (now : Standing)
    (b : NextBatch ef most mode old reads given end now) where
  -- what the batch learned was told by its own reads
  fresh_told : All_of (IsTold old.start.ops old.start.query (course_reads 0 b.more)) (learned old.start b.more)
  fresh_told =
      let s : Start = start_at old.start.ops old.start.query [] 0 in
      all_weaker (IsMet s (course_reads 0 b.more)) (IsTold old.start.ops old.start.query (course_reads 0 b.more)) (learned old.start b.more)
      (λ e met. met_told old.start.ops old.start.query [] 0 [] (course_reads 0 b.more) (each_all _ [] (λ i f is. absurd (none-some f is))) e met)
      (learned_met s b.more)

  was_told : All_of (WasTold old.start.ops old.start.query (course_reads 0 b.more) (known old.start old.turns)) (known old.start (old.turns ++ b.more))
  was_told =
      let P : Found → Type 0 = WasTold old.start.ops old.start.query (course_reads 0 b.more) (known old.start old.turns) in
      subst (λ (es : List Found). All_of P es) (sym (known_both old.start old.turns b.more))
      (both_parts P (known old.start old.turns) (learned old.start b.more)
      (each_all P (known old.start old.turns) (λ i e is new. absurd (let known_e = among_self (known old.start old.turns) i e is in true≢false (sym known_e ∙ new))))
      (all_weaker (IsTold old.start.ops old.start.query (course_reads 0 b.more)) P (learned old.start b.more) (λ e t new. t) fresh_told))

  pub next_read : (i : ℕ) (g : Given) → slice_get given i ≡ Some g → IsRowRead old.start.ops old.start.query reads g
  next_read i g is =
      let P : Found → Type 0 = WasTold old.start.ops old.start.query (course_reads 0 b.more) (known old.start old.turns) in
      let p : Found → Bool = λ f. is_live f && not (is_among b.bounds.taken f.at) in
      let batch : All_of P b.batch =
      subst (λ (es : List Found). All_of P es) (sym b.batch_is)
      (taken_all P ef (found_in old.start b.bounds (old.turns ++ b.more))
      (ranked_all P is_before (filter p (known old.start (old.turns ++ b.more))) (filtered_all P p (known old.start (old.turns ++ b.more)) was_told))) in
      let Q : Given → Type 0 = IsRowRead old.start.ops old.start.query reads in
      let rows : All_of Q b.rows =
      subst (λ (rs : List (Look × Answer)). All_of (IsRowRead old.start.ops old.start.query rs) b.rows) (sym b.reads_are)
      (takes_read old.start.ops old.start.query (known old.start old.turns) b.batch (course_reads 0 b.more) b.again b.rows batch b.takes) in
      got_all Q given i g (subst (λ (gs : List Given). All_of Q gs) (sym b.given_are) (through_all Q mode old.last b.rows rows)) is
