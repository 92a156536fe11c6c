-- A batch by the turns so far is one by what is held after them.
use Rattle.std.proofs.Common.{◌≡◌, ◌↔◌, ℕ, zero, suc, ◌||◌, cond, Bool, true, false, List, [], ◌∷◌, ◌++◌, map, flat_map, take, Option, Some, None, refl, sym, subst, ap, ap₂, ◌∙◌, append_assoc, true≢false, ◌+◌, not, filter, length}
use Rattle.list_values.specs.Ranking.{ranked}
use Rattle.vec_names.specs.Order.{tid_cmp}
use Rattle.std.specs.Ordering.{eq_by_cmp}
use Rattle.std.proofs.lemmas.List.{append-nil}
use Rattle.vec_names.specs.declared.tid.Tid.{Tid}
use Rattle.vec_names.specs.declared.params.Ops.{Ops}
use Rattle.neighbour_pick.specs.declared.found.Found.{Found}
use Rattle.graph_search.specs.Reads.{Look, Answer}
use Rattle.graph_search.specs.Search.{Start, Turn, Bounds, IsTurn, IsCourse, LayerSearch, is_among, is_halted, place_of, known, named, named_in, found_in, fresh, course_reads, only_ef, is_before, is_live, is_done, is_most, in_order, elements_of}
use Rattle.graph_search.specs.Descent.{Descent, no_entry, entry_gone, lowered, start_at}
use Rattle.graph_search.specs.Scan.{Given, Standing, Mode, Held, HoldsAfter, AreNamed, is_known_at, is_nothing, begins_with, after_turn, after_batch, rows_of, last_dist, below, SearchedBelow, FirstBatch, NextBatch, TakesOne, TakesIn, is_over}
use Rattle.graph_search.specs.ByHolding.{unnamed, IsTurnOf, after_turns, AreTurnsOf, batch_of, elements_in, TakesOf, StandsHolding, stands_after, FirstByHolding, NextByHolding, HoldTheSame}
use Rattle.graph_search.proofs.Holding.{over, found_is, begins}
use Rattle.graph_search.proofs.Onward.{among_both, batch_taken, named_taken, named_begins, turned, named_turned}

-- ---- a turn

unnamed_are : (before : List Tid) (is_named : Tid → Bool) → ((at : Tid) → is_named at ≡ is_among before at) → (places : List Tid)
    → unnamed is_named places ≡ fresh before places
unnamed_are before is_named same [] = refl
unnamed_are before is_named same (at ∷ places) =
    let more : Tid → Bool = λ other. is_named other || is_among (at ∷ []) other in
    let same_more : (other : Tid) → (is_named other || is_among (at ∷ []) other) ≡ is_among (before ++ at ∷ []) other =
    (λ other. ap (λ (b : Bool). b || is_among (at ∷ []) other) (same other) ∙ sym (among_both before (at ∷ []) other)) in
    ap (λ (b : Bool). cond b (unnamed is_named places) (at ∷ unnamed more places)) (same at)
    ∙ ap₂ (λ (x y : List Tid). cond (is_among before at) x (at ∷ y)) (unnamed_are before is_named same places)
    (unnamed_are (before ++ at ∷ []) more same_more places)

module _ (s : Start) (ef : ℕ) (most : Option ℕ) (taken : List Tid) (earlier : List Found) where
  turn_held : (turns : List Turn) (t : Turn) (h : Held) → HoldsAfter s turns taken earlier h
      → IsTurn s (record { ef = ef; taken = taken; most = most }) turns t → IsTurnOf s ef most h t
  turn_held turns t h holds turn = record {
    goes_on = over s turns taken earlier h holds ef most ∙ turn.goes_on;
    rest = turn.rest;
    least = holds.unexpanded_are ∙ turn.least;
    looks = turn.looks ∙ sym (unnamed_are (named s turns) h.is_named holds.names (named_in t.list));
  }

  held_turn : (turns : List Turn) (t : Turn) (h : Held) → HoldsAfter s turns taken earlier h
      → IsTurnOf s ef most h t → IsTurn s (record { ef = ef; taken = taken; most = most }) turns t
  held_turn turns t h holds turn = record {
    goes_on = sym (over s turns taken earlier h holds ef most) ∙ turn.goes_on;
    rest = turn.rest;
    least = sym holds.unexpanded_are ∙ turn.least;
    looks = turn.looks ∙ unnamed_are (named s turns) h.is_named holds.names (named_in t.list);
  }

  -- ---- turns

  one_more : (turns more : List Turn) (t : Turn) → (turns ++ t ∷ []) ++ more ≡ turns ++ t ∷ more
  one_more turns more t = append_assoc turns (t ∷ []) more

  course_held : (more turns : List Turn) (h : Held) → HoldsAfter s turns taken earlier h → AreNamed s turns taken earlier
      → IsCourse s (record { ef = ef; taken = taken; most = most }) turns more → AreTurnsOf s ef most h more
  course_held [] turns h holds are course = tt
  course_held (t ∷ more) turns h holds are course = (
    turn_held turns t h holds course.0,
    course_held more (turns ++ t ∷ []) (after_turn s t h)
        (turned s (record { ef = ef; taken = taken; most = most }) turns t taken earlier are course.0 h holds)
        (named_turned s (record { ef = ef; taken = taken; most = most }) turns t taken earlier are course.0) course.1,
  )

  held_course : (more turns : List Turn) (h : Held) → HoldsAfter s turns taken earlier h → AreNamed s turns taken earlier
      → AreTurnsOf s ef most h more → IsCourse s (record { ef = ef; taken = taken; most = most }) turns more
  held_course [] turns h holds are course = tt
  held_course (t ∷ more) turns h holds are course =
      let turn : IsTurn s (record { ef = ef; taken = taken; most = most }) turns t = held_turn turns t h holds course.0 in (
        turn,
        held_course more (turns ++ t ∷ []) (after_turn s t h)
            (turned s (record { ef = ef; taken = taken; most = most }) turns t taken earlier are turn h holds)
            (named_turned s (record { ef = ef; taken = taken; most = most }) turns t taken earlier are turn) course.1,
      )

  holds_on : (more turns : List Turn) (h : Held) → HoldsAfter s turns taken earlier h → AreNamed s turns taken earlier
      → AreTurnsOf s ef most h more → HoldsAfter s (turns ++ more) taken earlier (after_turns s more h) × AreNamed s (turns ++ more) taken earlier
  holds_on [] turns h holds are course =
      subst (λ (ts : List Turn). HoldsAfter s ts taken earlier h × AreNamed s ts taken earlier) (sym (append-nil turns)) (holds, are)
  holds_on (t ∷ more) turns h holds are course =
      let turn : IsTurn s (record { ef = ef; taken = taken; most = most }) turns t = held_turn turns t h holds course.0 in
      subst (λ (ts : List Turn). HoldsAfter s ts taken earlier (after_turns s more (after_turn s t h)) × AreNamed s ts taken earlier)
      (one_more turns more t)
      (holds_on more (turns ++ t ∷ []) (after_turn s t h)
      (turned s (record { ef = ef; taken = taken; most = most }) turns t taken earlier are turn h holds)
      (named_turned s (record { ef = ef; taken = taken; most = most }) turns t taken earlier are turn) course.1)

-- ---- what holds the same

same_itself : (h : Held) → HoldTheSame h h
same_itself h = record { names = λ at. refl; unexpanded_are = refl; found_are = refl; count_is = refl }

same_holds : (s : Start) (turns : List Turn) (taken : List Tid) (earlier : List Found) (g h : Held) → HoldTheSame g h
    → HoldsAfter s turns taken earlier h → HoldsAfter s turns taken earlier g
same_holds s turns taken earlier g h same holds = record {
  names = λ at. same.names at ∙ holds.names at;
  unexpanded_are = same.unexpanded_are ∙ holds.unexpanded_are;
  found_are = same.found_are ∙ holds.found_are;
  count_is = same.count_is ∙ holds.count_is;
}

pub same_stands : (stands : Standing) (g h : Held) → HoldTheSame g h → StandsHolding stands h → StandsHolding stands g
same_stands stands g h same holds = record {
  holds = same_holds stands.start stands.turns stands.taken (known stands.start stands.turns) g h same holds.holds;
  are_named = holds.are_named;
}

unnamed_same : (p q : Tid → Bool) → ((at : Tid) → p at ≡ q at) → (places : List Tid) → unnamed p places ≡ unnamed q places
unnamed_same p q same [] = refl
unnamed_same p q same (at ∷ places) =
    let p_more : Tid → Bool = λ other. p other || is_among (at ∷ []) other in
    let q_more : Tid → Bool = λ other. q other || is_among (at ∷ []) other in
    ap (λ (b : Bool). cond b (unnamed p places) (at ∷ unnamed p_more places)) (same at)
    ∙ ap₂ (λ (x y : List Tid). cond (q at) x (at ∷ y)) (unnamed_same p q same places)
    (unnamed_same p_more q_more (λ other. ap (λ (b : Bool). b || is_among (at ∷ []) other) (same other)) places)

over_same : (ef : ℕ) (most : Option ℕ) (g h : Held) → HoldTheSame g h → is_over ef most h ≡ is_over ef most g
over_same ef most g h same =
    ap₂ (λ (found : List (Found × Bool)) (least : List Found). is_done ef (map (λ (p : Found × Bool). p.0) found) least || is_most most h.count)
    (sym same.found_are) (sym same.unexpanded_are)
    ∙ ap (λ (k : ℕ). is_done ef (map (λ (p : Found × Bool). p.0) g.found) g.unexpanded || is_most most k) (sym same.count_is)

turn_same : (s : Start) (ef : ℕ) (most : Option ℕ) (g h : Held) (t : Turn) → HoldTheSame g h → IsTurnOf s ef most g t → IsTurnOf s ef most h t
turn_same s ef most g h t same turn = record {
  goes_on = over_same ef most g h same ∙ turn.goes_on;
  rest = turn.rest;
  least = sym same.unexpanded_are ∙ turn.least;
  looks = turn.looks ∙ unnamed_same g.is_named h.is_named same.names (named_in t.list);
}

after_same : (s : Start) (g h : Held) (t : Turn) → HoldTheSame g h → HoldTheSame (after_turn s t g) (after_turn s t h)
after_same s g h t same = record {
  names = λ at. ap (λ (b : Bool). b || is_among (named_in t.list) at) (same.names at);
  unexpanded_are = ap (λ (es : List Found). in_order (filter (λ (e : Found). not (eq_by_cmp tid_cmp e.at t.element.at)) es ++ elements_of s.ops s.query t.nodes))
      same.unexpanded_are;
  found_are = ap (λ (ps : List (Found × Bool)). ranked (λ (p q : Found × Bool). is_before p.0 q.0)
      (ps ++ map (λ (e : Found). (e, false)) (filter is_live (elements_of s.ops s.query t.nodes)))) same.found_are;
  count_is = ap (λ (k : ℕ). k + length (elements_of s.ops s.query t.nodes)) same.count_is;
}

pub turn_after : (s : Start) (ef : ℕ) (most : Option ℕ) (g h : Held) (turns : List Turn) (t : Turn) → HoldTheSame g (after_turns s turns h)
    → AreTurnsOf s ef most h turns → IsTurnOf s ef most g t → AreTurnsOf s ef most h (turns ++ t ∷ [])
turn_after s ef most g h [] t same are turn = (turn_same s ef most g h t same turn, tt)
turn_after s ef most g h (u ∷ turns) t same are turn = (are.0, turn_after s ef most g (after_turn s u h) turns t same are.1 turn)

pub turned_after : (s : Start) (g h : Held) (turns : List Turn) (t : Turn) → HoldTheSame g (after_turns s turns h)
    → HoldTheSame (after_turn s t g) (after_turns s (turns ++ t ∷ []) h)
turned_after s g h [] t same = after_same s g h t same
turned_after s g h (u ∷ turns) t same = turned_after s g (after_turn s u h) turns t same

-- ---- what is taken

take_map : {X Y : Type 0} (f : X → Y) (n : ℕ) (xs : List X) → take n (map f xs) ≡ map f (take n xs)
take_map f zero xs = refl
take_map f (suc n) [] = refl
take_map f (suc n) (x ∷ xs) = ap (λ (z : List _). f x ∷ z) (take_map f n xs)

nothing_flagged : (earlier es : List Found) → is_nothing (map {B = Found × Bool} (λ (e : Found). (e, is_known_at earlier e.at)) es) ≡ is_nothing es
nothing_flagged earlier [] = refl
nothing_flagged earlier (e ∷ es) = refl

module _ (ops : Ops) (query : List Bool) where
  one_weaker : (b : Bool) (e : Found) (P Q : List (Look × Answer) → List Given → Type 0)
      → ((reads : List (Look × Answer)) (given : List Given) → P reads given → Q reads given)
      → (reads : List (Look × Answer)) (given : List Given) → TakesOne b ops query e P reads given → TakesOne b ops query e Q reads given
  one_weaker true e P Q on reads given (told, rest, others, are, given_are, took) = (told, rest, others, are, given_are, on rest others took)
  one_weaker false e P Q on reads given (others, given_are, took) = (others, given_are, on reads others took)

  takes_held : (earlier es : List Found) (reads : List (Look × Answer)) (given : List Given) → TakesIn ops query earlier es reads given
      → TakesOf ops query (map (λ (e : Found). (e, is_known_at earlier e.at)) es) reads given
  takes_held earlier [] reads given took = took
  takes_held earlier (e ∷ es) reads given took =
      one_weaker (is_known_at earlier e.at) e (λ rest others. TakesIn ops query earlier es rest others)
      (λ rest others. TakesOf ops query (map (λ (e : Found). (e, is_known_at earlier e.at)) es) rest others)
      (λ rest others on. takes_held earlier es rest others on) reads given took

  held_takes : (earlier es : List Found) (reads : List (Look × Answer)) (given : List Given)
      → TakesOf ops query (map (λ (e : Found). (e, is_known_at earlier e.at)) es) reads given → TakesIn ops query earlier es reads given
  held_takes earlier [] reads given took = took
  held_takes earlier (e ∷ es) reads given took =
      one_weaker (is_known_at earlier e.at) e (λ rest others. TakesOf ops query (map (λ (e : Found). (e, is_known_at earlier e.at)) es) rest others)
      (λ rest others. TakesIn ops query earlier es rest others)
      (λ rest others on. held_takes earlier es rest others on) reads given took

-- ---- what is held once a search is over

module _ (s : Start) (turns : List Turn) (taken : List Tid) (earlier : List Found) (h : Held) (holds : HoldsAfter s turns taken earlier h) (ef : ℕ) where
  batch_is : batch_of ef h ≡ map (λ (e : Found). (e, is_known_at earlier e.at)) (take ef (found_in s (record { ef = ef; taken = taken; most = None }) turns))
  batch_is =
      ap (take ef) holds.found_are
      ∙ take_map (λ (e : Found). (e, is_known_at earlier e.at)) ef (found_in s (record { ef = ef; taken = taken; most = None }) turns)

  elements_are : elements_in (batch_of ef h) ≡ take ef (found_in s (record { ef = ef; taken = taken; most = None }) turns)
  elements_are =
      sym (take_map (λ (p : Found × Bool). p.0) ef h.found) ∙ ap (take ef) (found_is s turns taken earlier h holds ef None)

  stands_now : AreNamed s turns taken earlier
      → HoldsAfter s turns (taken ++ map place_of (elements_in (batch_of ef h))) (known s turns) (after_batch ef h)
      × AreNamed s turns (taken ++ map place_of (elements_in (batch_of ef h))) (known s turns)
  stands_now are =
      subst (λ (es : List Found). HoldsAfter s turns (taken ++ map place_of es) (known s turns) (after_batch ef h)
      × AreNamed s turns (taken ++ map place_of es) (known s turns)) (take_map (λ (p : Found × Bool). p.0) ef h.found)
      (batch_taken s turns taken earlier h holds ef, named_taken s turns taken earlier h ef holds are)

-- ---- a next batch

module _ (ef most : ℕ) (mode : Mode) (old : Standing) (h : Held) (reads : List (Look × Answer)) (given : List Given) (end : Bool)
    (now : Standing) (stands : StandsHolding old h) where
  next_to : NextBatch ef most mode old reads given end now → NextByHolding ef most mode old h reads given end now
  next_to b =
      let c : IsCourse old.start (record { ef = ef; taken = old.taken; most = Some most }) old.turns b.more =
      subst (λ (c : Bounds). IsCourse old.start c old.turns b.more) b.bounds_are b.course in
      let ts : AreTurnsOf old.start ef (Some most) h b.more =
      course_held old.start ef (Some most) old.taken (known old.start old.turns) b.more old.turns h stands.holds stands.are_named c in
      let on = holds_on old.start ef (Some most) old.taken (known old.start old.turns) b.more old.turns h stands.holds stands.are_named ts in
      let same : b.batch ≡ take ef (found_in old.start (record { ef = ef; taken = old.taken; most = Some most }) (old.turns ++ b.more)) =
      b.batch_is ∙ ap (λ (c : Bounds). take ef (found_in old.start c (old.turns ++ b.more))) b.bounds_are in
      let flagged : batch_of ef (after_turns old.start b.more h) ≡ map (λ (e : Found). (e, is_known_at (known old.start old.turns) e.at)) b.batch =
      batch_is old.start (old.turns ++ b.more) old.taken (known old.start old.turns) (after_turns old.start b.more h) on.0 ef
      ∙ ap (map (λ (e : Found). (e, is_known_at (known old.start old.turns) e.at))) (sym same) in
      let elements : elements_in (batch_of ef (after_turns old.start b.more h)) ≡ b.batch =
      elements_are old.start (old.turns ++ b.more) old.taken (known old.start old.turns) (after_turns old.start b.more h) on.0 ef ∙ sym same in
      record {
        goes_on = b.goes_on;
        more = b.more;
        turns_are = ts;
        held = after_turns old.start b.more h;
        held_is = same_itself (after_turns old.start b.more h);
        over = over old.start (old.turns ++ b.more) old.taken (known old.start old.turns) (after_turns old.start b.more h) on.0 ef (Some most)
            ∙ ap (λ (c : Bounds). is_halted old.start c (old.turns ++ b.more)) (sym b.bounds_are) ∙ b.halted;
        again = b.again;
        rows = b.rows;
        takes = subst (λ (ps : List (Found × Bool)). TakesOf old.start.ops old.start.query ps b.again b.rows) (sym flagged)
            (takes_held old.start.ops old.start.query (known old.start old.turns) b.batch b.again b.rows b.takes);
        reads_are = b.reads_are;
        given_are = b.given_are;
        end_is = b.end_is ∙ sym (nothing_flagged (known old.start old.turns) b.batch) ∙ ap is_nothing (sym flagged);
        now_is = b.now_is ∙ ap (λ (es : List Found). stands_after old b.more es given) (sym elements);
      }

  -- what is held when the search of a next batch is over
  next_on : (b : NextByHolding ef most mode old h reads given end now)
      → HoldsAfter old.start (old.turns ++ b.more) old.taken (known old.start old.turns) b.held
      × AreNamed old.start (old.turns ++ b.more) old.taken (known old.start old.turns)
  next_on b =
      let on =
      holds_on old.start ef (Some most) old.taken (known old.start old.turns) b.more old.turns h stands.holds stands.are_named b.turns_are in
      (same_holds old.start (old.turns ++ b.more) old.taken (known old.start old.turns) b.held (after_turns old.start b.more h) b.held_is on.0, on.1)

  next_from : NextByHolding ef most mode old h reads given end now → NextBatch ef most mode old reads given end now
  next_from b =
      let on = next_on b in
      let flagged : batch_of ef b.held ≡ map (λ (e : Found). (e, is_known_at (known old.start old.turns) e.at))
      (take ef (found_in old.start (record { ef = ef; taken = old.taken; most = Some most }) (old.turns ++ b.more))) =
      batch_is old.start (old.turns ++ b.more) old.taken (known old.start old.turns) b.held on.0 ef in
      record {
        goes_on = b.goes_on;
        more = b.more;
        bounds = record { ef = ef; taken = old.taken; most = Some most };
        bounds_are = refl;
        course = held_course old.start ef (Some most) old.taken (known old.start old.turns) b.more old.turns h stands.holds stands.are_named b.turns_are;
        halted = sym (over old.start (old.turns ++ b.more) old.taken (known old.start old.turns) b.held on.0 ef (Some most)) ∙ b.over;
        batch = take ef (found_in old.start (record { ef = ef; taken = old.taken; most = Some most }) (old.turns ++ b.more));
        batch_is = refl;
        again = b.again;
        rows = b.rows;
        takes = held_takes old.start.ops old.start.query (known old.start old.turns)
            (take ef (found_in old.start (record { ef = ef; taken = old.taken; most = Some most }) (old.turns ++ b.more))) b.again b.rows
            (subst (λ (ps : List (Found × Bool)). TakesOf old.start.ops old.start.query ps b.again b.rows) flagged b.takes);
        reads_are = b.reads_are;
        given_are = b.given_are;
        end_is = b.end_is ∙ ap is_nothing flagged ∙ nothing_flagged (known old.start old.turns)
            (take ef (found_in old.start (record { ef = ef; taken = old.taken; most = Some most }) (old.turns ++ b.more)));
        now_is = b.now_is ∙ ap (λ (es : List Found). stands_after old b.more es given)
            (elements_are old.start (old.turns ++ b.more) old.taken (known old.start old.turns) b.held on.0 ef);
      }

  pub next_same : NextBatch ef most mode old reads given end now ↔ NextByHolding ef most mode old h reads given end now
  next_same = (next_to, next_from)

  pub next_stands : (b : NextByHolding ef most mode old h reads given end now) → StandsHolding now (after_batch ef b.held)
  next_stands b =
      let on = next_on b in
      let after = stands_now old.start (old.turns ++ b.more) old.taken (known old.start old.turns) b.held on.0 ef on.1 in
      subst (λ (n : Standing). StandsHolding n (after_batch ef b.held)) (sym b.now_is) (record { holds = after.0; are_named = after.1 })

-- ---- the first batch

take_none : {X : Type 0} (n : ℕ) → take {A = X} n [] ≡ []
take_none zero = refl
take_none (suc n) = refl

module _ (ops : Ops) (query : List Bool) (ef : ℕ) where
  searched_to : (reads : List (Look × Answer)) (given : List Given) (end : Bool) (now : Standing) (down on : List (Look × Answer)) (top : Option ℕ)
      (from : List Found) → Descent ops query 0 down top from → reads ≡ down ++ on → end ≡ is_nothing given
      → SearchedBelow ops query ef from on given now → FirstByHolding ops query ef reads given end now
  searched_to reads given end now down on top from descent are end_is b =
      let ts : AreTurnsOf (start_at ops query from 0) ef None (begins_with (start_at ops query from 0)) b.turns =
      course_held (start_at ops query from 0) ef None [] [] b.turns [] (begins_with (start_at ops query from 0))
      (begins (start_at ops query from 0)) (named_begins (start_at ops query from 0)) b.course in
      let holds =
      holds_on (start_at ops query from 0) ef None [] [] b.turns [] (begins_with (start_at ops query from 0))
      (begins (start_at ops query from 0)) (named_begins (start_at ops query from 0)) ts in
      let elements : elements_in (batch_of ef (after_turns (start_at ops query from 0) b.turns (begins_with (start_at ops query from 0))))
      ≡ take ef (found_in (start_at ops query from 0) (only_ef ef) b.turns) =
      elements_are (start_at ops query from 0) b.turns [] []
      (after_turns (start_at ops query from 0) b.turns (begins_with (start_at ops query from 0))) holds.0 ef in
      record {
        down = down;
        top = top;
        from = from;
        descent = descent;
        turns = b.turns;
        turns_are = ts;
        held = after_turns (start_at ops query from 0) b.turns (begins_with (start_at ops query from 0));
        held_is = same_itself (after_turns (start_at ops query from 0) b.turns (begins_with (start_at ops query from 0)));
        over = over (start_at ops query from 0) b.turns [] []
            (after_turns (start_at ops query from 0) b.turns (begins_with (start_at ops query from 0))) holds.0 ef None ∙ b.halted;
        reads_are = are ∙ ap (λ (z : List (Look × Answer)). down ++ z) b.reads_are;
        given_are = b.given_are ∙ ap (flat_map rows_of) (sym elements);
        end_is = end_is;
        now_is = b.now_is ∙ ap (λ (es : List Found). stands_after (record { start = start_at ops query from 0; turns = []; taken = []; last = None })
            b.turns es given) (sym elements);
      }

  -- a search that begins from nothing
  nothing_below : (on : List (Look × Answer)) (given : List Given) (now : Standing) → below ops query ef None [] on given now
      → SearchedBelow ops query ef [] on given now
  nothing_below on given now (none, no_rows, stands) = record {
    turns = [];
    course = tt;
    halted = refl;
    reads_are = none;
    given_are = no_rows ∙ sym (ap (flat_map rows_of) (take_none ef));
    now_is = stands ∙ ap₂ (λ (es : List Found) (gs : List Given).
        record { start = start_at ops query [] 0; turns = []; taken = map place_of es; last = last_dist None gs }) (sym (take_none ef)) (sym no_rows);
  }

  below_turns : (on : List (Look × Answer)) (given : List Given) (now : Standing) (turns : List Turn)
      → IsCourse (start_at ops query [] 0) (only_ef ef) [] turns → on ≡ course_reads 0 turns
      → given ≡ flat_map rows_of (take ef (found_in (start_at ops query [] 0) (only_ef ef) turns))
      → now ≡ record {
        start = start_at ops query [] 0;
        turns = turns;
        taken = map place_of (take ef (found_in (start_at ops query [] 0) (only_ef ef) turns));
        last = last_dist None given;
      }
      → below ops query ef None [] on given now
  below_turns on given now [] course are given_are now_is =
      let none : given ≡ [] = given_are ∙ ap (flat_map rows_of) (take_none ef) in (
        are,
        none,
        now_is ∙ ap₂ (λ (es : List Found) (gs : List Given).
            record { start = start_at ops query [] 0; turns = []; taken = map place_of es; last = last_dist None gs }) (take_none ef) none,
      )
  below_turns on given now (t ∷ turns) course are given_are now_is = absurd (true≢false (ap is_nothing course.0.least))

  below_nothing : (on : List (Look × Answer)) (given : List Given) (now : Standing) → SearchedBelow ops query ef [] on given now
      → below ops query ef None [] on given now
  below_nothing on given now b = below_turns on given now b.turns b.course b.reads_are b.given_are b.now_is

  -- without an entry point, or where it is gone, there is nothing to begin from
  as_searched : (down on : List (Look × Answer)) (top : Option ℕ) (from : List Found) (given : List Given) (now : Standing)
      → Descent ops query 0 down top from → below ops query ef top from on given now → SearchedBelow ops query ef from on given now
  as_searched _ on _ _ given now (no_entry level hint blocks) b = nothing_below on given now b
  as_searched _ on _ _ given now (entry_gone at level hint blocks told none) b = nothing_below on given now b
  as_searched _ on _ _ given now (lowered at level hint blocks told e reads from is down) b = b

  as_below : (down on : List (Look × Answer)) (top : Option ℕ) (from : List Found) (given : List Given) (now : Standing)
      → Descent ops query 0 down top from → SearchedBelow ops query ef from on given now → below ops query ef top from on given now
  as_below _ on _ _ given now (no_entry level hint blocks) b = below_nothing on given now b
  as_below _ on _ _ given now (entry_gone at level hint blocks told none) b = below_nothing on given now b
  as_below _ on _ _ given now (lowered at level hint blocks told e reads from is down) b = b

  module _ (reads : List (Look × Answer)) (given : List Given) (end : Bool) (now : Standing) where
    first_to : FirstBatch ops query ef reads given end now → FirstByHolding ops query ef reads given end now
    first_to b =
        searched_to reads given end now b.down b.on b.top b.from b.descent b.reads_are b.end_is
        (as_searched b.down b.on b.top b.from given now b.descent b.searched)

    -- what is held when the search of a first batch is over
    first_on : (b : FirstByHolding ops query ef reads given end now)
        → HoldsAfter (start_at ops query b.from 0) b.turns [] [] b.held × AreNamed (start_at ops query b.from 0) b.turns [] []
    first_on b =
        let on =
        holds_on (start_at ops query b.from 0) ef None [] [] b.turns [] (begins_with (start_at ops query b.from 0))
        (begins (start_at ops query b.from 0)) (named_begins (start_at ops query b.from 0)) b.turns_are in (
          same_holds (start_at ops query b.from 0) b.turns [] [] b.held
              (after_turns (start_at ops query b.from 0) b.turns (begins_with (start_at ops query b.from 0))) b.held_is on.0,
          on.1,
        )

    first_from : FirstByHolding ops query ef reads given end now → FirstBatch ops query ef reads given end now
    first_from b =
        let on = first_on b in
        let elements : elements_in (batch_of ef b.held) ≡ take ef (found_in (start_at ops query b.from 0) (only_ef ef) b.turns) =
        elements_are (start_at ops query b.from 0) b.turns [] [] b.held on.0 ef in
        record {
          down = b.down;
          top = b.top;
          from = b.from;
          descent = b.descent;
          on = course_reads 0 b.turns;
          searched = as_below b.down (course_reads 0 b.turns) b.top b.from given now b.descent (record {
            turns = b.turns;
            course = held_course (start_at ops query b.from 0) ef None [] [] b.turns [] (begins_with (start_at ops query b.from 0))
                (begins (start_at ops query b.from 0)) (named_begins (start_at ops query b.from 0)) b.turns_are;
            halted = sym (over (start_at ops query b.from 0) b.turns [] [] b.held on.0 ef None) ∙ b.over;
            reads_are = refl;
            given_are = b.given_are ∙ ap (flat_map rows_of) elements;
            now_is = b.now_is ∙ ap (λ (es : List Found). stands_after
                (record { start = start_at ops query b.from 0; turns = []; taken = []; last = None }) b.turns es given) elements;
          });
          reads_are = b.reads_are;
          end_is = b.end_is;
        }

    pub first_same : FirstBatch ops query ef reads given end now ↔ FirstByHolding ops query ef reads given end now
    first_same = (first_to, first_from)

    pub first_stands : (b : FirstByHolding ops query ef reads given end now) → StandsHolding now (after_batch ef b.held)
    first_stands b =
        let on = first_on b in
        let after = stands_now (start_at ops query b.from 0) b.turns [] [] b.held on.0 ef on.1 in
        subst (λ (n : Standing). StandsHolding n (after_batch ef b.held)) (sym b.now_is) (record { holds = after.0; are_named = after.1 })

-- ---- a layer's search

-- where a search began does not count for its further turns
pub from_free : (ops : Ops) (query : List Bool) (xs ys : List Found) (layer ef : ℕ) (most : Option ℕ) (turns : List Turn) (h : Held)
    → AreTurnsOf (start_at ops query xs layer) ef most h turns → AreTurnsOf (start_at ops query ys layer) ef most h turns
from_free ops query xs ys layer ef most [] h are = tt
from_free ops query xs ys layer ef most (t ∷ turns) h are = (
  record { goes_on = are.0.goes_on; rest = are.0.rest; least = are.0.least; looks = are.0.looks },
  from_free ops query xs ys layer ef most turns (after_turn (start_at ops query xs layer) t h) are.1,
)

pub after_free : (ops : Ops) (query : List Bool) (xs ys : List Found) (layer : ℕ) (turns : List Turn) (h : Held)
    → after_turns (start_at ops query xs layer) turns h ≡ after_turns (start_at ops query ys layer) turns h
after_free ops query xs ys layer [] h = refl
after_free ops query xs ys layer (t ∷ turns) h = after_free ops query xs ys layer turns (after_turn (start_at ops query xs layer) t h)

-- turns from what a search holds where it begins, up to where it is over, are the search of the layer
pub searched : (s : Start) (ef : ℕ) (turns : List Turn) (g : Held) → AreTurnsOf s ef None (begins_with s) turns
    → HoldTheSame g (after_turns s turns (begins_with s)) → is_over ef None g ≡ true
    → LayerSearch s ef (course_reads s.layer turns) (elements_in (batch_of ef g))
searched s ef turns g are same over_is =
    let on = holds_on s ef None [] [] turns [] (begins_with s) (begins s) (named_begins s) are in
    let holds : HoldsAfter s turns [] [] g = same_holds s turns [] [] g (after_turns s turns (begins_with s)) same on.0 in
    record {
      turns = turns;
      course = held_course s ef None [] [] turns [] (begins_with s) (begins s) (named_begins s) are;
      halted = sym (over s turns [] [] g holds ef None) ∙ over_is;
      reads_are = refl;
      result_is = elements_are s turns [] [] g holds ef;
    }

-- from what holds the same, the same turns lead to the same
pub turns_same : (s : Start) (ef : ℕ) (most : Option ℕ) (g h : Held) (turns : List Turn) → HoldTheSame g h → AreTurnsOf s ef most g turns → AreTurnsOf s ef most h turns
turns_same s ef most g h [] same are = tt
turns_same s ef most g h (t ∷ turns) same are = (
  turn_same s ef most g h t same are.0,
  turns_same s ef most (after_turn s t g) (after_turn s t h) turns (after_same s g h t same) are.1,
)

pub after_turns_same : (s : Start) (g h : Held) (turns : List Turn) → HoldTheSame g h → HoldTheSame (after_turns s turns g) (after_turns s turns h)
after_turns_same s g h [] same = same
after_turns_same s g h (t ∷ turns) same = after_turns_same s (after_turn s t g) (after_turn s t h) turns (after_same s g h t same)
