-- The reads of a first batch, one after the other: each is told, and what it names may be looked at.
use Rattle.std.proofs.Common.{◌≡◌, ℕ, zero, suc, ◌+◌, ◌-◌, ◌<◌, ◌≤◌, ◌&&◌, not, Bool, List, [], ◌∷◌, ◌++◌, length, map, filter, take, slice_get, Contains, Option, Some, None, refl, sym, ap, subst, ◌∙◌, arith, append_assoc}
use Rattle.std.proofs.lemmas.List.{append-nil}
use Rattle.std.proofs.lemmas.Option.{none-some, same_Some}
use Rattle.vec_names.specs.declared.tid.Tid.{Tid}
use Rattle.vec_names.specs.declared.params.Ops.{Ops}
use Rattle.vec_history.specs.declared.event.Event.TheVariants as event
use Rattle.vec_history.specs.declared.event.Act.{Act}
use Rattle.vec_history.specs.declared.gate.Gate.TheVariants.{Scan}
use Rattle.vec_history.specs.declared.gate.Hold.{Hold}
use Rattle.vec_history.specs.Acts.{IsActAt, IsRising}
use Rattle.vec_history.specs.Gates.{HoldsSince}
use Rattle.vec_graph.specs.declared.graph.Graph.{Graph}
use Rattle.vec_graph.specs.Effect.{state_after}
use Rattle.vec_graph.specs.Legal.{IsLegal}
use Rattle.vec_graph.specs.Sound.{IsSound}
use Rattle.vec_graph.specs.Shaped.{IsShaped}
use Rattle.vec_graph.proofs.Shaping.{on_blocks_of}
use Rattle.neighbour_pick.specs.declared.found.Found.{Found}
use Rattle.neighbour_pick.proofs.Choosing.{All_of, ranked_all}
use Rattle.graph_search.specs.Reads.{Look, AtMeta, AtNode, AtList, Answer, Gone, OfMeta, answer_of, AreReadAt}
use Rattle.graph_search.specs.Search.{Start, Bounds, Turn, element_of, elements_of, learned, known, named, named_in, open_in, found_in, only_ef, is_live, is_among, is_before, IsCourse, course_reads, LayerSearch}
use Rattle.graph_search.specs.Descent.{or_from, start_at, IsLowered, Descent, no_entry, entry_gone, lowered}
use Rattle.graph_search.specs.Scan.{Given, Standing, below, FirstBatch}
use Rattle.graph_search.proofs.WhereFrom.{both_parts, all_weaker, filtered_all}
use Rattle.graph_law.specs.Touching.{IsTouchedAt, as_entry}
use Rattle.graph_law.proofs.Touched.{touched_within}
use Rattle.graph_law.proofs.ActByAct.{scan_not_marked}
use Rattle.scan_law.specs.Reading.{IsFirstBatchUnder, entry_named, places_named}
use Rattle.scan_law.proofs.Lists.{taken_all, contained_all, fresh_all}
use Rattle.scan_law.proofs.Looks.{CanBeRead, WasRead, can_later, was_later, holds_at, node_look, list_look, entry_look}

learned_both : (s : Start) (xs ys : List Turn) → learned s (xs ++ ys) ≡ learned s xs ++ learned s ys
learned_both s [] ys = refl
learned_both s (t ∷ xs) ys =
    ap (λ (z : List Found). elements_of s.ops s.query t.nodes ++ z) (learned_both s xs ys)
    ∙ sym (append_assoc (elements_of s.ops s.query t.nodes) (learned s xs) (learned s ys))

known_both : (s : Start) (xs ys : List Turn) → known s (xs ++ ys) ≡ known s xs ++ learned s ys
known_both s xs ys = ap (λ (z : List Found). s.from ++ z) (learned_both s xs ys) ∙ sym (append_assoc s.from (learned s xs) (learned s ys))

some_element : (e : Found) → e ∷ [] ≡ [] → ⊥
some_element e is = absurd cc

entry_in : Answer → Option Tid
entry_in (OfMeta entry level hint blocks) = entry
entry_in _ = None

level_in : Answer → ℕ
level_in (OfMeta entry level hint blocks) = level
level_in _ = 0

meta_told : (entry : Option Tid) (level hint blocks : ℕ) → OfMeta entry level hint blocks ≡ Gone → ⊥
meta_told entry level hint blocks is = absurd cc

module _ (base : Graph) (acts : List Act) (since until : ℕ) where
  -- the read is told, and what it names is touched
  pub IsFine : ℕ → Look × Answer → Type 0
  IsFine p r = (r.1 ≡ Gone → ⊥) × All_of (IsTouchedAt base acts since p) (places_named r.1)

  pub AreFine : List ℕ → List (Look × Answer) → Type 0
  AreFine [] reads = Unit {0}
  AreFine (p ∷ ps) [] = Unit {0}
  AreFine (p ∷ ps) (r ∷ reads) = IsFine p r × AreFine ps reads

  -- wherever these reads are made from this position on, they are fine
  pub FineFrom : ℕ → List (Look × Answer) → Type 0
  FineFrom low reads = (ps : List ℕ) → IsRising low ps until → AreReadAt base acts ps reads → AreFine ps reads

  in_reach : (low : ℕ) (ps : List ℕ) → IsRising low ps until → low ≤ until
  in_reach low [] up = up
  in_reach low (p ∷ ps) up = let rest = in_reach p ps up.1 in omega (arith, rest, up.0)

  pub one_read : (low : ℕ) (r : Look × Answer) (more : List (Look × Answer))
      → ((n : ℕ) → low ≤ n → n ≤ until → r.1 ≡ answer_of (state_after base acts n) r.0 → IsFine n r × FineFrom n more) → FineFrom low (r ∷ more)
  unfolding FineFrom AreFine
  one_read low r more next [] rising read = absurd read
  one_read low r more next (n ∷ ps) rising read =
      let ok = next n rising.0 (in_reach n ps rising.1) read.0.1 in
      (ok.0, ok.1 ps rising.1 read.1)

  pub no_more : (low : ℕ) → FineFrom low []
  unfolding FineFrom AreFine
  no_more low [] rising read = tt
  no_more low (p ∷ ps) rising read = tt

  entry_touched : (n : ℕ) (entry : Option Tid) → since < n → n ≤ length acts → entry ≡ (state_after base acts n).entry
      → All_of (IsTouchedAt base acts since n) (entry_named entry)
  unfolding All_of
  entry_touched n None above met is = tt
  entry_touched n (Some at) above met is = (as_entry n at above met (sym is), tt)

  -- ---- what it gives

  pub fine_told : (ps : List ℕ) (reads : List (Look × Answer)) → AreReadAt base acts ps reads → AreFine ps reads
      → (i : ℕ) (look : Look) → slice_get reads i ≡ Some (look, Gone) → ⊥
  unfolding AreFine IsFine
  fine_told [] [] read fine i look is = none-some _ is
  fine_told [] (r ∷ reads) read fine i look is = read
  fine_told (p ∷ ps) [] read fine i look is = read
  fine_told (p ∷ ps) (r ∷ reads) read fine zero look is = fine.0.0 (ap (λ (x : Look × Answer). x.1) (same_Some r _ is))
  fine_told (p ∷ ps) (r ∷ reads) read fine (suc i) look is = fine_told ps reads read.1 fine.1 i look is

  pub fine_touched : (ps : List ℕ) (reads : List (Look × Answer)) → AreFine ps reads → (i p : ℕ) (look : Look) (told : Answer) (at : Tid)
      → slice_get reads i ≡ Some (look, told) → slice_get ps i ≡ Some p → Contains (places_named told) at → IsTouchedAt base acts since p at
  unfolding AreFine IsFine
  fine_touched [] reads fine i p look told at is there c = absurd (none-some p there)
  fine_touched (q ∷ ps) [] fine i p look told at is there c = absurd (none-some _ is)
  fine_touched (q ∷ ps) (r ∷ reads) fine zero p look told at is there c =
      contained_all (IsTouchedAt base acts since p) (places_named told) at
      (subst (λ (a : Answer). All_of (IsTouchedAt base acts since p) (places_named a)) (ap (λ (x : Look × Answer). x.1) (same_Some r _ is))
      (subst (λ (k : ℕ). All_of (IsTouchedAt base acts since k) (places_named r.1)) (same_Some q p there) fine.0.1)) c
  fine_touched (q ∷ ps) (r ∷ reads) fine (suc i) p look told at is there c = fine_touched ps reads fine.1 i p look told at is there c

module _ (base : Graph) (shaped : IsShaped base) (sound : IsSound base) (acts : List Act) (legal : IsLegal base acts) (desk since until : ℕ) (hold : Hold)
    (reached : until ≤ length acts) (holds : HoldsSince (take until acts) desk Scan hold since) where
  Fine : ℕ → List (Look × Answer) → Type 0
  Fine low more = FineFrom base acts since until low more

  Can : ℕ → ℕ → Tid → Type 0
  Can n layer q = CanBeRead base shaped sound acts legal desk since until hold reached holds n layer q

  Was : ℕ → ℕ → Found → Type 0
  Was n layer e = WasRead base shaped sound acts legal desk since until hold reached holds n layer e

  all_later : (n k layer lower : ℕ) (es : List Found) → n ≤ k → lower ≤ layer → All_of (Was n layer) es → All_of (Was k lower) es
  unfolding Was
  all_later n k layer lower es later low all =
      all_weaker _ _ es (λ e w. was_later base shaped sound acts legal desk since until hold reached holds n k layer lower e later low w) all

  -- ---- one look

  node_read : (ops : Ops) (query : List Bool) (low layer : ℕ) (at : Tid) (told : Answer) (more : List (Look × Answer)) → Can low layer at
      → ((n : ℕ) → low ≤ n → n ≤ until → (e : Found) → element_of ops query at told ≡ e ∷ [] → Was n layer e → Fine n more)
      → Fine low ((AtNode at layer None, told) ∷ more)
  unfolding Fine Can Was IsFine All_of
  node_read ops query low layer at told more can next =
      one_read base acts since until low (AtNode at layer None, told) more
      (λ n later met is.
      let t = node_look base shaped sound acts legal desk since until hold reached holds low n layer at told can later met is in
      let e = t.read ops query in (
        (t.not_gone, subst (λ (places : List Tid). All_of (IsTouchedAt base acts since n) places) (sym t.names_none) tt),
        next n later met e.0 e.1 e.2,
      ))

  list_read : (low layer : ℕ) (e : Found) (told : Answer) (more : List (Look × Answer)) → Was low layer e
      → ((n : ℕ) → low ≤ n → n ≤ until → All_of (Can n layer) (named_in told) → Fine n more)
      → Fine low ((AtList e.at e.list_at e.level e.version layer, told) ∷ more)
  unfolding Fine Can Was IsFine
  list_read low layer e told more was next =
      one_read base acts since until low (AtList e.at e.list_at e.level e.version layer, told) more
      (λ n later met is.
      let t = list_look base shaped sound acts legal desk since until hold reached holds low n layer e told was later met is in
      ((t.not_gone, t.touched), next n later met t.members))

  -- ---- the looks of one turn

  can_all : (n k layer : ℕ) (places : List Tid) → n ≤ k → All_of (Can n layer) places → All_of (Can k layer) places
  unfolding Can
  can_all n k layer places later all =
      all_weaker _ _ places (λ q c. can_later base shaped sound acts legal desk since until hold reached holds n k layer q later c) all

  nodes_read : (ops : Ops) (query : List Bool) (low layer : ℕ) (nodes : List (Tid × Answer)) (more : List (Look × Answer)) → low ≤ until
      → All_of (Can low layer) (map (λ x. x.0) nodes)
      → ((n : ℕ) → low ≤ n → n ≤ until → All_of (Was n layer) (elements_of ops query nodes) → Fine n more)
      → Fine low (map (λ x. (AtNode x.0 layer None, x.1)) nodes ++ more)
  unfolding All_of
  nodes_read ops query low layer [] more met can next = next low (omega arith) met tt
  nodes_read ops query low layer (x ∷ nodes) more met can next =
      node_read ops query low layer x.0 x.1 (map (λ y. (AtNode y.0 layer None, y.1)) nodes ++ more) can.0
      (λ n later up e element was.
      nodes_read ops query n layer nodes more up (can_all low n layer (map (λ y. y.0) nodes) later can.1)
      (λ k behind high all.
      next k (omega (arith, later, behind)) high
      (subst (λ (es : List Found). All_of (Was k layer) (es ++ elements_of ops query nodes)) (sym element)
      ((all_later n k layer layer (e ∷ []) behind (omega arith) (was, tt)).0, all))))

  -- ---- the turns of a course

  least_was : (s : Start) (before : List Turn) (low : ℕ) (e : Found) (rest : List Found) → All_of (Was low s.layer) (known s before)
      → open_in s before ≡ e ∷ rest → Was low s.layer e
  unfolding All_of
  least_was s before low e rest all least =
      let p : Found → Bool = λ f. not (is_among (map (λ t. t.element.at) before) f.at) in
      let opened : All_of (Was low s.layer) (open_in s before) =
      ranked_all (Was low s.layer) is_before (filter p (known s before)) (filtered_all (Was low s.layer) p (known s before) all) in
      (subst (λ (es : List Found). All_of (Was low s.layer) es) least opened).0

  course_read : (s : Start) (b : Bounds) (turns before : List Turn) (low : ℕ) (more : List (Look × Answer)) → low ≤ until
      → IsCourse s b before turns → All_of (Was low s.layer) (known s before)
      → ((n : ℕ) → low ≤ n → n ≤ until → All_of (Was n s.layer) (known s (before ++ turns)) → Fine n more)
      → Fine low (course_reads s.layer turns ++ more)
  course_read s b [] before low more met course all next =
      next low (omega arith) met (subst (λ (ts : List Turn). All_of (Was low s.layer) (known s ts)) (sym (append-nil before)) all)
  course_read s b (t ∷ turns) before low more met course all next =
      let looks : List (Look × Answer) = map (λ (x : Tid × Answer). (AtNode x.0 s.layer None, x.1)) t.nodes in
      let was : Was low s.layer t.element = least_was s before low t.element course.0.rest all course.0.least in
      subst (λ (rs : List (Look × Answer)). Fine low rs)
      (ap (λ (rs : List (Look × Answer)). (AtList t.element.at t.element.list_at t.element.level t.element.version s.layer, t.list) ∷ rs)
      (sym (append_assoc looks (course_reads s.layer turns) more)))
      (list_read low s.layer t.element t.list (looks ++ (course_reads s.layer turns ++ more)) was
      (λ n later up can.
      nodes_read s.ops s.query n s.layer t.nodes (course_reads s.layer turns ++ more) up
      (subst (λ (places : List Tid). All_of (Can n s.layer) places) (sym course.0.looks) (fresh_all (Can n s.layer) (named s before) (named_in t.list) can))
      (λ k behind high fresh_ones.
      let now : All_of (Was k s.layer) (known s (before ++ t ∷ [])) =
      subst (λ (es : List Found). All_of (Was k s.layer) es)
      (sym (known_both s before (t ∷ []) ∙ ap (λ (z : List Found). known s before ++ z) (append-nil (elements_of s.ops s.query t.nodes))))
      (both_parts (Was k s.layer) (known s before) (elements_of s.ops s.query t.nodes)
      (all_later low k s.layer s.layer (known s before) (omega (arith, later, behind)) (omega arith) all) fresh_ones) in
      course_read s b turns (before ++ t ∷ []) k more high course.1 now
      (λ j from to everyone.
      next j (omega (arith, later, behind, from)) to
      (subst (λ (ts : List Turn). All_of (Was j s.layer) (known s ts)) (append_assoc before (t ∷ []) turns) everyone)))))

  -- ---- the search of one layer

  found_was : (s : Start) (b : Bounds) (turns : List Turn) (n ef : ℕ) → All_of (Was n s.layer) (known s turns)
      → All_of (Was n s.layer) (take ef (found_in s b turns))
  found_was s b turns n ef all =
      let p : Found → Bool = λ f. is_live f && not (is_among b.taken f.at) in
      taken_all (Was n s.layer) ef (found_in s b turns)
      (ranked_all (Was n s.layer) is_before (filter p (known s turns)) (filtered_all (Was n s.layer) p (known s turns) all))

  search_read : (s : Start) (ef : ℕ) (reads : List (Look × Answer)) (result : List Found) (low : ℕ) (more : List (Look × Answer)) → low ≤ until
      → LayerSearch s ef reads result → All_of (Was low s.layer) s.from
      → ((n : ℕ) → low ≤ n → n ≤ until → All_of (Was n s.layer) result → Fine n more) → Fine low (reads ++ more)
  search_read s ef reads result low more met search all next =
      subst (λ (rs : List (Look × Answer)). Fine low (rs ++ more)) (sym search.reads_are)
      (course_read s (only_ef ef) search.turns [] low more met search.course
      (subst (λ (es : List Found). All_of (Was low s.layer) es) (sym (append-nil s.from)) all)
      (λ n later up everyone.
      next n later up
      (subst (λ (es : List Found). All_of (Was n s.layer) es) (sym search.result_is) (found_was s (only_ef ef) search.turns n ef everyone))))

  or_from_was : (n layer : ℕ) (found from : List Found) → All_of (Was n layer) found → All_of (Was n layer) from → All_of (Was n layer) (or_from found from)
  or_from_was n layer [] from found_all from_all = from_all
  or_from_was n layer (e ∷ es) from found_all from_all = found_all

  -- ---- from the entry point down

  lowered_read : (ops : Ops) (query : List Bool) (to k : ℕ) (from : List Found) (reads : List (Look × Answer)) (result : List Found) (low : ℕ)
      (more : List (Look × Answer)) → low ≤ until → IsLowered ops query to k from reads result → All_of (Was low (to + k)) from
      → ((n : ℕ) → low ≤ n → n ≤ until → All_of (Was n to) result → Fine n more) → Fine low (reads ++ more)
  lowered_read ops query to zero from reads result low more met is all next =
      subst (λ (rs : List (Look × Answer)). Fine low (rs ++ more)) (sym is.0)
      (next low (omega arith) met
      (subst (λ (es : List Found). All_of (Was low to) es) (sym is.1) (all_later low low (to + zero) to from (omega arith) (omega arith) all)))
  lowered_read ops query to (suc k) from reads result low more met is all next =
      subst (λ (rs : List (Look × Answer)). Fine low rs) (sym (ap (λ (rs : List (Look × Answer)). rs ++ more) is.reads_are ∙ append_assoc is.first is.later more))
      (search_read (start_at ops query from (to + suc k)) 1 is.first is.found low (is.later ++ more) met is.search all
      (λ n later up found.
      let next_from : All_of (Was n (to + suc k)) (or_from is.found from) =
      or_from_was n (to + suc k) is.found from found (all_later low n (to + suc k) (to + suc k) from later (omega arith) all) in
      lowered_read ops query to k (or_from is.found from) is.later result n more up is.deeper_is
      (all_later n n (to + suc k) (to + k) (or_from is.found from) (omega arith) (omega arith) next_from)
      (λ j behind high lowest. next j (omega (arith, later, behind)) high lowest)))

  meta_read : (low : ℕ) (entry : Option Tid) (level hint blocks : ℕ) (more : List (Look × Answer)) → since < low
      → ((n : ℕ) → low ≤ n → n ≤ until → ((at : Tid) → entry ≡ Some at → Can n level at) → Fine n more)
      → Fine low ((AtMeta, OfMeta entry level hint blocks) ∷ more)
  unfolding Fine IsFine Can entry_in level_in
  meta_read low entry level hint blocks more behind next =
      one_read base acts since until low (AtMeta, OfMeta entry level hint blocks) more
      (λ n later met is.
      let of_entry : entry ≡ (state_after base acts n).entry = ap entry_in is in
      let of_level : level ≡ (state_after base acts n).level = ap level_in is in
      let above : since < n = omega (arith, behind, later) in (
        (λ gone. absurd (meta_told entry level hint blocks gone), entry_touched base acts since until n entry above (omega (arith, met, reached)) of_entry),
        next n later met
            (λ at here.
            subst (λ (k : ℕ). CanBeRead base shaped sound acts legal desk since until hold reached holds n k at) (sym of_level)
            (entry_look base shaped sound acts legal desk since until hold reached holds n at above met (sym of_entry ∙ here))),
      ))

  -- without an entry point there is nothing to begin from; one that is named may be looked at
  descent_read : (ops : Ops) (query : List Bool) (down : List (Look × Answer)) (top : Option ℕ) (from : List Found) (low : ℕ)
      (more : List (Look × Answer)) → since < low → Descent ops query 0 down top from
      → ((n : ℕ) → low ≤ n → n ≤ until → All_of (Was n 0) from → Fine n more) → Fine low (down ++ more)
  unfolding All_of
  descent_read ops query _ _ _ low more above (no_entry level hint blocks) next =
      meta_read low None level hint blocks more above (λ n later met can. next n later met tt)
  descent_read ops query _ _ _ low more above (entry_gone at level hint blocks told none) next =
      meta_read low (Some at) level hint blocks ((AtNode at level None, told) ∷ more) above
      (λ n later met can.
      node_read ops query n level at told more (can at refl)
      (λ k behind high e element was. absurd (some_element e (sym element ∙ none))))
  descent_read ops query _ _ from low more above (lowered at level hint blocks told e reads _ element down) next =
      meta_read low (Some at) level hint blocks ((AtNode at level None, told) ∷ (reads ++ more)) above
      (λ n later met can.
      node_read ops query n level at told (reads ++ more) (can at refl)
      (λ k behind high f told_f was.
      let all : All_of (Was k (0 + (level - 0))) (e ∷ []) =
      subst (λ (es : List Found). All_of (Was k (0 + (level - 0))) es) (sym told_f ∙ element)
      (all_later k k level (0 + (level - 0)) (f ∷ []) (omega arith) (omega arith) (was, tt)) in
      lowered_read ops query 0 (level - 0) (e ∷ []) reads from k more high down all
      (λ j from_k to lowest. next j (omega (arith, later, behind, from_k)) to lowest)))

  below_read : (ops : Ops) (query : List Bool) (ef : ℕ) (top : Option ℕ) (from : List Found) (reads : List (Look × Answer)) (given : List Given)
      (now : Standing) (low : ℕ) → low ≤ until → below ops query ef top from reads given now → All_of (Was low 0) from → Fine low reads
  unfolding Fine
  below_read ops query ef None from reads given now low met is all =
      subst (λ (rs : List (Look × Answer)). FineFrom base acts since until low rs) (sym is.0) (no_more base acts since until low)
  below_read ops query ef (Some top) from reads given now low met is all =
      subst (λ (rs : List (Look × Answer)). FineFrom base acts since until low rs) (sym (is.reads_are ∙ sym (append-nil (course_reads 0 is.turns))))
      (course_read (start_at ops query from 0) (only_ef ef) is.turns [] low [] met is.course
      (subst (λ (es : List Found). All_of (Was low 0) es) (sym (append-nil from)) all)
      (λ n later up everyone. no_more base acts since until n))

  pub batch_read : (ops : Ops) (query : List Bool) (ef : ℕ) (reads : List (Look × Answer)) (given : List Given) (end : Bool) (now : Standing)
      → FirstBatch ops query ef reads given end now → FineFrom base acts since until (since + 1) reads
  unfolding Fine
  batch_read ops query ef reads given end now b =
      subst (λ (rs : List (Look × Answer)). FineFrom base acts since until (since + 1) rs) (sym b.reads_are)
      (descent_read ops query b.down b.top b.from (since + 1) b.on (omega arith) b.descent
      (λ n later met all. below_read ops query ef b.top b.from b.on given now n met b.searched all))

-- ---- the law

module _ (base : Graph) (shaped : IsShaped base) (sound : IsSound base) (acts : List Act) (legal : IsLegal base acts) (desk since until : ℕ) (positions : List ℕ)
    (reads : List (Look × Answer)) (b : IsFirstBatchUnder base acts desk since until positions reads) where
  all_fine : AreFine base acts since until positions reads
  unfolding FineFrom
  all_fine =
      batch_read base shaped sound acts legal desk since until b.under.hold b.under.reached b.under.holds b.ops b.query b.ef reads b.given b.end b.now b.batch
      positions b.under.rising b.under.answered

  pub first_told : (i : ℕ) (look : Look) → slice_get reads i ≡ Some (look, Gone) → ⊥
  first_told = fine_told base acts since until positions reads b.under.answered all_fine

  pub first_touched : (i p : ℕ) (look : Look) (told : Answer) (at : Tid) → slice_get reads i ≡ Some (look, told) → slice_get positions i ≡ Some p
      → Contains (places_named told) at → IsTouchedAt base acts since p at
  first_touched = fine_touched base acts since until positions reads all_fine

  pub first_not_marked : (i p : ℕ) (look : Look) (told : Answer) (at : Tid) → slice_get reads i ≡ Some (look, told) → slice_get positions i ≡ Some p
      → Contains (places_named told) at → (k marker version : ℕ) (list_at : Tid) → p ≤ k → k ≤ until
      → IsActAt acts k marker (event.Mark at list_at version) → ⊥
  first_not_marked i p look told at is there c k marker version list_at from to marks =
      let touched = first_touched i p look told at is there c in
      let within = touched_within base acts since p at touched in
      scan_not_marked base (on_blocks_of base shaped) sound acts legal k desk marker since p version b.under.hold at list_at marks
      (holds_at base shaped sound acts legal desk since until b.under.hold b.under.reached b.under.holds k (omega (arith, within.0, from)) (omega (arith, to)))
      touched from
