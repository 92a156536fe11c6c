-- One turn and many.
use Rattle.std.proofs.Common.{◌≡◌, ℕ, ◌+◌, ◌-◌, ◌*◌, ◌^◌, ◌<◌, ◌≤◌, ◌||◌, not, cond, Bool, true, false, List, [], ◌∷◌, ◌++◌, filter, map, take, length, get_or, Option, Some, None, refl, sym, ap, ap₂, subst, ◌∙◌, arith, append_assoc, append-nil, length-append}
use Rattle.std.specs.Prelude.{MatchOption}
use Rattle.std.specs.List.{AllByRecursion}
use Rattle.std.specs.Ordering.{eq_by_cmp}
use Rattle.std.proofs.lemmas.List.{map-append}
use Rattle.vec_names.specs.declared.tid.Tid.{Tid}
use Rattle.vec_names.specs.declared.params.Ops.{Ops}
use Rattle.vec_names.specs.Order.{tid_cmp}
use Rattle.vec_history.specs.declared.event.Act.{Act}
use Rattle.list_values.specs.Ranking.{placed, ranked}
use Rattle.neighbour_pick.specs.declared.found.Found.{Found}
use Rattle.graph_search.specs.Reads.{Look, Answer, AtNode}
use Rattle.graph_search.specs.Search.{Start, Turn, course_reads, element_of, elements_of, in_order, is_among, is_live, named_in, turn_reads, is_before as found_before}
use Rattle.graph_search.specs.Scan.{Held, after_turn, is_known_at, is_over}
use Rattle.graph_search.specs.ByHolding.{HoldTheSame, after_turns, unnamed}
use Rattle.graph_search.proofs.Stepping.{turn_after, turned_after}
use Rattle.search_sets.specs.declared.spot.Spot.{Spot}
use Rattle.search_sets.specs.declared.frontier.Frontier.{Frontier}
use Rattle.search_sets.specs.Standing.{IsWhole, TakesLeast, held, nearer_found, spot_of, with_elements, with_names}
use Rattle.search_sets.proofs.Fronts.{take_more}
use Rattle.search_sets.proofs.HeldSo.{elements_then, held_in_order, same_elements, same_then}
use Rattle.search_sets.proofs.Mentioned.{unnamed_same}
use Rattle.vec_steps.specs.declared.told.Told.{Told}
use Rattle.vec_steps.specs.declared.told.Word.{Word}
use Rattle.vec_steps.specs.declared.told.Word.TheVariants as word
use Rattle.vec_steps.specs.Index.{Index, OfNodes, OfLists, IsShaped, IsLegal}
use Rattle.vec_steps.specs.Telling.{node_told}
use Rattle.vec_steps.specs.Desks.{Desk}
use Rattle.vec_steps.specs.Calls.{Goes}
use Rattle.vec_steps.proofs.Following.{does_so_over}
use Rattle.layer_search.specs.Waiting.{AreApart, AreLong, IsSteady, found_held}
use Rattle.layer_search.specs.Telling.{OverSpots, StandThere, StandsAt, spots_held}
use Rattle.layer_search.specs.Looking.{MadeLooks}
use Rattle.layer_search.specs.Running.{Expands, GoesOnSo, LooksAll, list_look, node_reads}
use Rattle.layer_search.proofs.Looks.{looks_none, looks_then}
use Rattle.layer_search.proofs.Steadiness.{all_both, all_first, all_second, found_all, itself, no_first, no_second, same_turned, steady_same, steady_turned, waiting_all}
use Rattle.layer_search.proofs.Told.{all_spots, all_told, held_spots, spots_all, stand_later}

-- ---- elements that looks told

elements_both : (ops : Ops) (query : List Bool) (a b : List (Tid × Answer)) → elements_of ops query (a ++ b) ≡ elements_of ops query a ++ elements_of ops query b
elements_both ops query [] b = refl
elements_both ops query (n ∷ a) b =
    ap (λ (l : List Found). element_of ops query n.0 n.1 ++ l) (elements_both ops query a b)
    ∙ sym (append_assoc (element_of ops query n.0 n.1) (elements_of ops query a) (elements_of ops query b))

pub long_told : (n : ℕ) (ops : Ops) (query : List Bool) (at : Tid) (w : Word) (o : Option Tid) (told : Told) → length told.bits ≡ n
    → AreLong n (element_of ops query at (node_told w o told))
long_told n ops query at word.Node (Some list_at) told h = (h, tt)
long_told n ops query at word.Node None told h = tt
long_told n ops query at _ o told h = tt

-- no look yet
pub all_none : {over : Index → Type 0} {d : Desk} (s : Start) (n : ℕ) (acts : List Act) (trace : List ℕ) (h : Held) → HoldTheSame h (with_elements [] h)
    → LooksAll over d acts acts trace trace s n h h []
all_none s n acts trace h same = record { nodes = []; places_are = refl; left = same; made = looks_none acts trace; are_long = tt }

-- one look
pub all_one : {over : Index → Type 0} {d : Desk} {old new : List Act} {before now : List ℕ} (s : Start) (n : ℕ) (at : Tid) (told : Told) (g h : Held)
    → MadeLooks over d old new before now ((AtNode at s.layer None, node_told told.word told.list_at told) ∷ []) → length told.bits ≡ n
    → HoldTheSame h (with_elements (element_of s.ops s.query at (node_told told.word told.list_at told)) g)
    → LooksAll over d old new before now s n g h (at ∷ [])
all_one s n at told g h made long left =
    let answer : Answer = node_told told.word told.list_at told in
    record {
      nodes = (at, answer) ∷ [];
      places_are = refl;
      left = subst (λ (es : List Found). HoldTheSame h (with_elements es g)) (sym (append-nil (element_of s.ops s.query at answer))) left;
      made = made;
      are_long = subst (AreLong n) (sym (append-nil (element_of s.ops s.query at answer))) (long_told n s.ops s.query at told.word told.list_at told long);
    }

-- looks at some, and then at one more
pub all_more : {over later : Index → Type 0} {d e : Desk} {old mid new : List Act} {before then now : List ℕ} (s : Start) (g h i : Held)
    (places : List Tid) (k : ℕ) (at : Tid) → k < length places → at ≡ get_or places k at → e ≡ d → ((base : Index) → over base → later base)
    → LooksAll over d old mid before then s d.params.bits g h (take k places) → LooksAll later e mid new then now s e.params.bits h i (at ∷ [])
    → LooksAll over d old new before now s d.params.bits g i (take (k + 1) places)
all_more {over} {later} {d} {e} {old} {mid} {new} {before} {then} {now} s g h i places k at within is same on a b =
    let told : List Found = elements_of s.ops s.query a.nodes in
    let more : List Found = elements_of s.ops s.query b.nodes in
    let both : elements_of s.ops s.query (a.nodes ++ b.nodes) ≡ told ++ more = elements_both s.ops s.query a.nodes b.nodes in
    let reads : node_reads s.layer (a.nodes ++ b.nodes) ≡ node_reads s.layer a.nodes ++ node_reads s.layer b.nodes =
    map-append (λ (m : Tid × Answer). (AtNode m.0 s.layer None, m.1)) a.nodes b.nodes in
    record {
      nodes = a.nodes ++ b.nodes;
      places_are = map-append (λ (m : Tid × Answer). m.0) a.nodes b.nodes
          ∙ ap₂ (λ (x y : List Tid). x ++ y) a.places_are b.places_are ∙ sym (take_more places k at within is);
      left = subst (λ (es : List Found). HoldTheSame i (with_elements es g)) (sym both)
          (same_then i (with_elements more h) (with_elements (told ++ more) g) b.left
          (same_then (with_elements more h) (with_elements more (with_elements told g)) (with_elements (told ++ more) g)
          (same_elements h (with_elements told g) more a.left) (elements_then told more g)));
      made = subst (MadeLooks over d old new before now) (sym reads) (looks_then same on a.made b.made);
      are_long = subst (AreLong d.params.bits) (sym both)
          (all_both (λ f. length f.bits ≡ d.params.bits) told more a.are_long (subst (λ (k : Desk). AreLong k.params.bits more) same b.are_long));
    }

-- ---- one turn

all_others : (at : Tid) (es : List Found) → is_known_at es at ≡ false → filter (λ e. not (eq_by_cmp tid_cmp e.at at)) es ≡ es
all_others at [] none = refl
all_others at (e ∷ es) none =
    ap (λ (b : Bool). cond (not b) (e ∷ filter (λ f. not (eq_by_cmp tid_cmp f.at at)) es) (filter (λ f. not (eq_by_cmp tid_cmp f.at at)) es))
    (same_turned e.at at ∙ no_first (eq_by_cmp tid_cmp at e.at) (is_known_at es at) none)
    ∙ ap (λ (l : List Found). e ∷ l) (all_others at es (no_second (eq_by_cmp tid_cmp at e.at) (is_known_at es at) none))

others_than : (e : Found) (rest : List Found) → AreApart (e ∷ rest) → filter (λ f. not (eq_by_cmp tid_cmp f.at e.at)) (e ∷ rest) ≡ rest
others_than e rest apart =
    ap (λ (b : Bool). cond (not b) (e ∷ filter (λ f. not (eq_by_cmp tid_cmp f.at e.at)) rest) (filter (λ f. not (eq_by_cmp tid_cmp f.at e.at)) rest)) (itself e.at)
    ∙ all_others e.at rest apart.0

module _ (s : Start) (g h i j : Held) (spot : Spot) (list : Answer) (nodes : List (Tid × Answer)) (least : TakesLeast g h spot)
    (named : HoldTheSame i (with_names (named_in list) h)) (left : HoldTheSame j (with_elements (elements_of s.ops s.query nodes) i))
    (apart : AreApart g.unexpanded) where
  others : filter (λ f. not (eq_by_cmp tid_cmp f.at least.element.at)) g.unexpanded ≡ least.rest
  others =
      ap (filter (λ f. not (eq_by_cmp tid_cmp f.at least.element.at))) least.least
      ∙ others_than least.element least.rest (subst AreApart least.least apart)

  pub turn_left : HoldTheSame j (after_turn s (record { element = least.element; list = list; nodes = nodes }) g)
  turn_left =
      let told : List Found = elements_of s.ops s.query nodes in
      record {
        names = λ at. left.names at ∙ named.names at ∙ ap (λ (b : Bool). b || is_among (named_in list) at) (least.left.names at);
        unexpanded_are = left.unexpanded_are
            ∙ ap (λ (es : List Found). in_order (es ++ told)) (named.unexpanded_are ∙ least.left.unexpanded_are ∙ sym others);
        found_are = left.found_are
            ∙ ap (λ (ps : List (Found × Bool)). ranked nearer_found (ps ++ map (λ e. (e, false)) (filter is_live told)))
            (named.found_are ∙ least.left.found_are);
        count_is = left.count_is ∙ ap (λ (k : ℕ). k + length told) (named.count_is ∙ least.left.count_is);
      }

-- ---- over which bases

near_there : (acts : List Act) (layer : ℕ) (h : Held) (spot : Spot) (e : Found) (rest : List Found) (base : Index) → h.unexpanded ≡ e ∷ rest → spot ≡ spot_of e
    → StandThere acts layer (spots_held h) base → StandThere acts layer (spot ∷ []) base
near_there acts layer h spot e rest (OfNodes g) first is there =
    let all : AllByRecursion (StandsAt g acts layer) (map spot_of (e ∷ rest)) =
    subst (λ (l : List Found). AllByRecursion (StandsAt g acts layer) (map spot_of l)) first
    (all_first (StandsAt g acts layer) (map spot_of h.unexpanded) (map (λ p. spot_of p.0) h.found) there) in
    (subst (StandsAt g acts layer) (sym is) all.0, tt)
near_there acts layer h spot e rest (OfLists g) first is there = absurd there

pub near_over : {stands : Index → Type 0} {acts : List Act} {layer : ℕ} (g h : Held) (spot : Spot) → TakesLeast g h spot → (base : Index)
    → OverSpots stands acts layer (spots_held g) base → OverSpots stands acts layer (spot ∷ []) base
near_over {acts = acts} {layer = layer} g h spot least base o =
    record { stood = o.stood; there = near_there acts layer g spot least.element least.rest base least.least least.is_there o.there }

none_there : (old new : List Act) (layer : ℕ) (spots : List Spot) (base : Index) → StandThere old layer spots base → StandThere new layer [] base
none_there old new layer spots (OfNodes g) there = tt
none_there old new layer spots (OfLists g) there = absurd there

-- nothing is asked of the nodes that are looked at
pub none_over : {stands later : Index → Type 0} {old new : List Act} {layer : ℕ} {spots : List Spot} → ((base : Index) → OverSpots stands old layer spots base → later base)
    → (base : Index) → OverSpots stands old layer spots base → OverSpots later new layer [] base
none_over {old = old} {new = new} {layer = layer} {spots = spots} on base o = record { stood = on base o; there = none_there old new layer spots base o.there }

-- ---- where the elements stand after a turn

-- over one graph, what elements that are held are so as spots
pub held_all : (P : Spot → Type 0) (h : Held) → AllByRecursion (λ e. P (spot_of e)) h.unexpanded → AllByRecursion (λ e. P (spot_of e)) (found_held h)
    → AllByRecursion P (spots_held h)
held_all P h waiting found =
    subst (AllByRecursion P) (sym (held_spots h))
    (all_both P (map spot_of h.unexpanded) (map spot_of (found_held h)) (spots_all P h.unexpanded waiting) (spots_all P (found_held h) found))

pub waiting_of : (P : Spot → Type 0) (h : Held) → AllByRecursion P (spots_held h) → AllByRecursion (λ e. P (spot_of e)) h.unexpanded
waiting_of P h all = all_spots P h.unexpanded (all_first P (map spot_of h.unexpanded) (map (λ p. spot_of p.0) h.found) all)

pub found_of : (P : Spot → Type 0) (h : Held) → AllByRecursion P (spots_held h) → AllByRecursion (λ e. P (spot_of e)) (found_held h)
found_of P h all =
    all_spots P (found_held h)
    (all_second P (map spot_of h.unexpanded) (map spot_of (found_held h)) (subst (AllByRecursion P) (held_spots h) all))

turn_all : (P : Spot → Type 0) (s : Start) (t : Turn) (g h : Held) → HoldTheSame h (after_turn s t g)
    → AllByRecursion (λ e. P (spot_of e)) (elements_of s.ops s.query t.nodes) → AllByRecursion P (spots_held g) → AllByRecursion P (spots_held h)
turn_all P s t g h left told all =
    let Q : Found → Type 0 = λ e. P (spot_of e) in
    held_all P h
    (subst (AllByRecursion Q) (sym left.unexpanded_are) (waiting_all Q s t g told (waiting_of P g all)))
    (subst (AllByRecursion Q) (sym (ap (map (λ (p : Found × Bool). p.0)) left.found_are)) (found_all Q s t g told (found_of P g all)))

pub turn_there : {over : Index → Type 0} {d : Desk} {mid new : List Act} {before now : List ℕ} (s : Start) (t : Turn) (g h : Held) (base : Index)
    → HoldTheSame h (after_turn s t g) → IsShaped base → IsLegal base new → (m : MadeLooks over d mid new before now (node_reads s.layer t.nodes)) → over base
    → StandThere new s.layer (spots_held g) base → StandThere new s.layer (spots_held h) base
turn_there {d = d} {new = new} s t g h (OfNodes graph) left shaped legal m o there =
    turn_all (StandsAt graph new s.layer) s t g h left
    (all_told graph shaped new legal d s.ops s.query s.layer t.nodes m.course m.is.deeds (m.does.happened (OfNodes graph) o)) there
turn_there s t g h (OfLists graph) left shaped legal m o there = absurd there

-- ---- many turns

course_more : (layer : ℕ) (turns : List Turn) (t : Turn) → course_reads layer (turns ++ t ∷ []) ≡ course_reads layer turns ++ turn_reads layer t
course_more layer [] t = append-nil (turn_reads layer t)
course_more layer (u ∷ turns) t =
    ap (λ (l : List (Look × Answer)). turn_reads layer u ++ l) (course_more layer turns t)
    ∙ sym (append_assoc (turn_reads layer u) (course_reads layer turns) (turn_reads layer t))

pub on_none : {over : Index → Type 0} {d : Desk} (acts : List Act) (trace : List ℕ) (s : Start) (ef : ℕ) (most : Option ℕ) (h : Held)
    → GoesOnSo over d acts acts trace trace s ef most h h
on_none acts trace s ef most h = record {
  turns = [];
  are_turns = tt;
  left = record { names = λ at. refl; unexpanded_are = refl; found_are = refl; count_is = refl };
  made = looks_none acts trace;
}

pub on_more : {over later : Index → Type 0} {d e : Desk} {old mid new : List Act} {before then now : List ℕ} (s : Start) (ef : ℕ) (most : Option ℕ)
    (g h i : Held) → e ≡ d → ((base : Index) → over base → later base) → GoesOnSo over d old mid before then s ef most g h
    → is_over ef most h ≡ false → Expands later e mid new then now s h i → GoesOnSo over d old new before now s ef most g i
on_more {over} {later} {d} {e} {old} {mid} {new} {before} {then} {now} s ef most g h i same on a goes_on b = record {
  turns = a.turns ++ b.turn ∷ [];
  are_turns = turn_after s ef most h g a.turns b.turn a.left a.are_turns
      (record { goes_on = goes_on; rest = b.rest; least = b.least; looks = b.looks });
  left = same_then i (after_turn s b.turn h) (after_turns s (a.turns ++ b.turn ∷ []) g) b.left (turned_after s h g a.turns b.turn a.left);
  made = subst (MadeLooks over d old new before now) (sym (course_more s.layer a.turns b.turn)) (looks_then same on a.made b.made);
}

-- ---- it ends

length_placed : {X : Type 0} (lt : X → X → Bool) (x : X) (ys : List X) → length (placed lt x ys) ≡ length ys + 1
length_placed lt x [] = refl
length_placed lt x (y ∷ ys) =
    elim (lt y x) as (λ b. length (cond b (y ∷ placed lt x ys) (x ∷ y ∷ ys)) ≡ length (y ∷ ys) + 1) [
      | true ↦ omega (arith, length_placed lt x ys)
      | false ↦ omega arith
    ]

length_ranked : {X : Type 0} (lt : X → X → Bool) (xs : List X) → length (ranked lt xs) ≡ length xs
length_ranked lt [] = refl
length_ranked lt (x ∷ xs) = omega (arith, length_placed lt x (ranked lt xs), length_ranked lt xs)

pub length_kept : (keeps : Found → Bool) (xs : List Found) → length (filter keeps xs) ≤ length xs
length_kept keeps [] = omega arith
length_kept keeps (x ∷ xs) =
    elim (keeps x) as (λ b. length (cond b (x ∷ filter keeps xs) (filter keeps xs)) ≤ length (x ∷ xs)) [
      | true ↦ omega (arith, length_kept keeps xs)
      | false ↦ omega (arith, length_kept keeps xs)
    ]

-- how far a search is from its end, at most: each turn expands one that waits, and what it adds is known from then on
abbrev pub left_of : Held → ℕ
left_of h = 2 * (2 ^ 32 - h.count) + length h.unexpanded

pub turn_shrinks : (s : Start) (t : Turn) (g h : Held) (rest : List Found) → g.unexpanded ≡ t.element ∷ rest → HoldTheSame h (after_turn s t g)
    → h.count ≤ 2 ^ 32 → left_of h < left_of g
turn_shrinks s t g h rest least left few =
    let told : List Found = elements_of s.ops s.query t.nodes in
    let other : Found → Bool = λ e. not (eq_by_cmp tid_cmp e.at t.element.at) in
    let gone : filter other g.unexpanded ≡ filter other rest =
    ap (filter other) least ∙ ap (λ (b : Bool). cond (not b) (t.element ∷ filter other rest) (filter other rest)) (itself t.element.at) in
    let long : length h.unexpanded ≡ length (filter other rest) + length told =
    ap length left.unexpanded_are ∙ length_ranked found_before (filter other g.unexpanded ++ told)
    ∙ length-append (filter other g.unexpanded) told ∙ ap (λ (l : List Found). length l + length told) gone in
    let was : length g.unexpanded ≡ length rest + 1 = ap length least ∙ omega arith in
    omega (arith, long, was, length_kept other rest, left.count_is, few)

-- ---- nothing was told

pub none_told : (f : Frontier) (ops : Ops) (query : List Bool) (at : Tid) (w : Word) (o : Option Tid) (told : Told) → IsWhole f → (w ≡ word.Node → ⊥)
    → HoldTheSame (held f) (with_elements (element_of ops query at (node_told w o told)) (held f))
none_told f ops query at word.Node o told whole never = absurd (never refl)
none_told f ops query at _ o told whole never = held_in_order f whole

pub nowhere_told : (f : Frontier) (ops : Ops) (query : List Bool) (at : Tid) (w : Word) (o : Option Tid) (told : Told) → IsWhole f → o ≡ None
    → HoldTheSame (held f) (with_elements (element_of ops query at (node_told w o told)) (held f))
nowhere_told f ops query at w o told whole is =
    subst (λ (p : Option Tid). HoldTheSame (held f) (with_elements (element_of ops query at (node_told w p told)) (held f))) (sym is) (by_word w)
  where
    by_word : (w : Word) → HoldTheSame (held f) (with_elements (element_of ops query at (node_told w None told)) (held f))
    by_word word.Node = held_in_order f whole
    by_word _ = held_in_order f whole

-- ---- a whole turn

pub least_taken : (r : Option Spot) (spot : Spot) (g h : Held) → r ≡ Some spot → MatchOption r (g.unexpanded ≡ []) (TakesLeast g h) → TakesLeast g h spot
least_taken r spot g h is m = subst (λ (o : Option Spot). MatchOption o (g.unexpanded ≡ []) (TakesLeast g h)) is m

module _ {D : Type 0} {desk : D → Desk} {stands : D → Index → Type 0} {comes_from : D → D → Type 0} (seen : D → List Act)
    (s : Start) (a b : D) (t0 t1 : List ℕ) (g h : Held) (spot : Spot) (list : Answer) (least : TakesLeast g h spot)
    (goes : Goes desk stands comes_from (OverSpots (stands a) (seen a) s.layer (spot ∷ [])) a b)
    (looked : MadeLooks (OverSpots (stands a) (seen a) s.layer (spot ∷ [])) (desk a) (seen a) (seen b) t0 t1 ((list_look spot s.layer, list) ∷ [])) where
  pub list_made : MadeLooks (OverSpots (stands a) (seen a) s.layer (spots_held g)) (desk a) (seen a) (seen b) t0 t1 ((list_look spot s.layer, list) ∷ [])
  list_made = does_so_over (near_over g h spot least) looked

  pub nodes_over : (base : Index) → OverSpots (stands a) (seen a) s.layer (spots_held g) base → OverSpots (stands b) (seen b) s.layer [] base
  nodes_over base o = none_over goes.still_stands base (near_over g h spot least base o)

  module _ (c : D) (t2 : List ℕ) (i j : Held) (fresh : List Tid) (named : HoldTheSame i (with_names (named_in list) h))
      (fresh_is : fresh ≡ unnamed h.is_named (named_in list))
      (all : LooksAll (OverSpots (stands b) (seen b) s.layer []) (desk b) (seen b) (seen c) t1 t2 s (desk b).params.bits i j fresh)
      (steady : IsSteady (desk a).params.bits g) where
    turn_is : HoldTheSame j (after_turn s (record { element = least.element; list = list; nodes = all.nodes }) g)
    turn_is = turn_left s g h i j spot list all.nodes least named all.left steady.waiting.apart

    places_are : map (λ (n : Tid × Answer). n.0) all.nodes ≡ unnamed g.is_named (named_in list)
    places_are = all.places_are ∙ fresh_is ∙ unnamed_same h.is_named g.is_named least.left.names (named_in list)

    are_long : AreLong (desk a).params.bits (elements_of s.ops s.query all.nodes)
    are_long = subst (λ (k : Desk). AreLong k.params.bits (elements_of s.ops s.query all.nodes)) goes.stays all.are_long

    pub turn_steady : IsSteady (desk a).params.bits j
    turn_steady =
        steady_same (desk a).params.bits j (after_turn s (record { element = least.element; list = list; nodes = all.nodes }) g) turn_is
        (steady_turned s g (record { element = least.element; list = list; nodes = all.nodes }) (desk a).params.bits steady places_are are_long)

    made_all : MadeLooks (OverSpots (stands a) (seen a) s.layer (spots_held g)) (desk a) (seen a) (seen c) t0 t2
        (turn_reads s.layer (record { element = least.element; list = list; nodes = all.nodes }))
    made_all =
        subst (λ (p : Spot). MadeLooks (OverSpots (stands a) (seen a) s.layer (spots_held g)) (desk a) (seen a) (seen c) t0 t2
        ((list_look p s.layer, list) ∷ node_reads s.layer all.nodes)) least.is_there (looks_then goes.stays nodes_over list_made all.made)

    pub turn_made : Expands (OverSpots (stands a) (seen a) s.layer (spots_held g)) (desk a) (seen a) (seen c) t0 t2 s g j
    turn_made = record {
      turn = record { element = least.element; list = list; nodes = all.nodes };
      rest = least.rest;
      least = least.least;
      looks = places_are;
      left = turn_is;
      made = made_all;
    }

    pub turn_told : (base : Index) → OverSpots (stands a) (seen a) s.layer (spots_held g) base → stands c base → IsShaped base → IsLegal base (seen c)
        → OverSpots (stands c) (seen c) s.layer (spots_held j) base
    turn_told base o stood shaped legal = record {
      stood = stood;
      there = turn_there s (record { element = least.element; list = list; nodes = all.nodes }) g j base turn_is shaped legal all.made (nodes_over base o)
          (stand_later s.layer (spots_held g) base shaped legal made_all.does.acts o.there);
    }
