-- A search whose reads have positions of their own reads each block of a probed chain once.
use Rattle.std.proofs.Common.{◌≡◌, ◌⊎◌, inl, inr, ℕ, zero, suc, ◌+◌, ◌<◌, ◌≤◌, Bool, false, List, [], ◌∷◌, ◌++◌, map, length, slice_get, Option, Some, refl, sym, ap, subst, ◌∙◌, append_assoc, arith, eqb, eq-eqb, true≢false}
use Rattle.std.specs.List.{flat_map, AllByRecursion, IsDistinct}
use Rattle.std.proofs.lemmas.Option.{same_Some, none-some, slice_get_within}
use Rattle.std.proofs.lemmas.List.{map-append}
use Rattle.std.proofs.lemmas.Map.Keys.{IsDistinct-head, IsDistinct-tail}
use Rattle.list_values.proofs.Parts.{in_order}
use Rattle.vec_history.specs.declared.event.Act.{Act}
use Rattle.vec_history.specs.Acts.{IsRising}
use Rattle.ivf_graph.specs.declared.list.IvfList.{IvfList}
use Rattle.ivf_graph.specs.declared.graph.IvfGraph.{IvfGraph}
use Rattle.ivf_graph.specs.Graph.{Row, Part, rows_on, AreBlocksOwn}
use Rattle.ivf_graph.specs.Effect.{state_after}
use Rattle.ivf_graph.specs.Legal.{IsLegal}
use Rattle.ivf_graph.specs.Answer.{Found, found_from, found_on}
use Rattle.ivf_graph.specs.Looks.{next_on}
use Rattle.ivf_graph.specs.Lasting.{numbers}
use Rattle.ivf_graph.specs.Reads.{Walks}
use Rattle.ivf_graph.specs.Reads.Walks.{done, begins, reads}
use Rattle.ivf_graph.proofs.ChainsRead.{Told, all_told}
use Rattle.ivf_graph.proofs.Growing.{grown_later}
use Rattle.ivf_graph.proofs.ReadsAtOne.{own_at}

-- ---- places of lists

pub in_left : {X : Type 0} (xs ys : List X) (i : ℕ) (x : X) → slice_get xs i ≡ Some x → slice_get (xs ++ ys) i ≡ Some x
in_left [] ys i x e = absurd (none-some x e)
in_left (y ∷ xs) ys zero x e = e
in_left (y ∷ xs) ys (suc i) x e = in_left xs ys i x e

none_more : (i : ℕ) → 0 + i ≡ i
none_more i = omega arith

one_more : (n i : ℕ) → suc n + i ≡ suc (n + i)
one_more n i = omega arith

pub in_right : {X : Type 0} (xs ys : List X) (i : ℕ) (x : X) → slice_get ys i ≡ Some x → slice_get (xs ++ ys) (length xs + i) ≡ Some x
in_right [] ys i x e = ap (λ (k : ℕ). slice_get ys k) (none_more i) ∙ e
in_right (y ∷ xs) ys i x e = ap (λ (k : ℕ). slice_get (y ∷ (xs ++ ys)) k) (one_more (length xs) i) ∙ in_right xs ys i x e

-- an element of two lists is one of the first, or of the second so many later
pub record IsBehind {X : Type 0} (xs ys : List X) (k : ℕ) (x : X) : Type 0 where
  pub place : ℕ
  pub behind : k ≡ length xs + place
  pub is : slice_get ys place ≡ Some x

pub in_both : {X : Type 0} (xs ys : List X) (k : ℕ) (x : X) → slice_get (xs ++ ys) k ≡ Some x → (slice_get xs k ≡ Some x) ⊎ IsBehind xs ys k x
in_both [] ys k x e = inr (record { place = k; behind = omega arith; is = e })
in_both (y ∷ xs) ys zero x e = inl e
in_both (y ∷ xs) ys (suc k) x e =
    elim (in_both xs ys k x e) as (λ _. (slice_get xs k ≡ Some x) ⊎ IsBehind (y ∷ xs) ys (suc k) x) [
      | inl left ↦ inl left
      | inr right ↦ let behind = right.behind in inr (record { place = right.place; behind = omega (arith, behind); is = right.is })
    ]

-- where one stands, so does one at each place before
some_before : {X : Type 0} (xs : List X) (i k : ℕ) (x : X) → slice_get xs i ≡ Some x → k ≤ i → (y : X) × (slice_get xs k ≡ Some y)
some_before [] i k x e low = absurd (none-some x e)
some_before (y ∷ xs) i zero x e low = (y, refl)
some_before (y ∷ xs) zero (suc k) x e low = absurd (omega (arith, low))
some_before (y ∷ xs) (suc i) (suc k) x e low = some_before xs i k x e (omega (arith, low))

-- ---- what all have

all_got : {X : Type 0} (P : X → Type 0) (xs : List X) (i : ℕ) (x : X) → AllByRecursion P xs → slice_get xs i ≡ Some x → P x
all_got P [] i x all e = absurd (none-some x e)
all_got P (y ∷ xs) zero x all e = subst P (same_Some y x e) all.0
all_got P (y ∷ xs) (suc i) x all e = all_got P xs i x all.1 e

pub all_weaker : {X : Type 0} (P Q : X → Type 0) → ((x : X) → P x → Q x) → (xs : List X) → AllByRecursion P xs → AllByRecursion Q xs
all_weaker P Q weaker [] all = tt
all_weaker P Q weaker (x ∷ xs) all = (weaker x all.0, all_weaker P Q weaker xs all.1)

-- ---- each block once

distinct_one : (zs : List ℕ) (a b x : ℕ) → IsDistinct eqb zs → slice_get zs a ≡ Some x → slice_get zs b ≡ Some x → a ≡ b
distinct_one [] a b x apart e f = absurd (none-some x e)
distinct_one (z ∷ zs) zero zero x apart e f = refl
distinct_one (z ∷ zs) zero (suc b) x apart e f =
    let other : eqb z x ≡ false = all_got (λ y. eqb z y ≡ false) zs b x (IsDistinct-head eqb z zs apart) f in
    absurd (true≢false (sym (eq-eqb z x (same_Some z x e)) ∙ other))
distinct_one (z ∷ zs) (suc a) zero x apart e f =
    let other : eqb z x ≡ false = all_got (λ y. eqb z y ≡ false) zs a x (IsDistinct-head eqb z zs apart) e in
    absurd (true≢false (sym (eq-eqb z x (same_Some z x f)) ∙ other))
distinct_one (z ∷ zs) (suc a) (suc b) x apart e f = ap (λ (n : ℕ). suc n) (distinct_one zs a b x (IsDistinct-tail eqb z zs apart) e f)

distinct_rest : (xs ys : List ℕ) → IsDistinct eqb (xs ++ ys) → IsDistinct eqb ys
distinct_rest [] ys apart = apart
distinct_rest (x ∷ xs) ys apart = distinct_rest xs ys (IsDistinct-tail eqb x (xs ++ ys) apart)

numbers_of : List IvfList → List ℕ
numbers_of ls = map (λ p. p.0) (flat_map (λ l. l.chain) ls)

numbers_both : (l : IvfList) (ls : List IvfList) → numbers_of (l ∷ ls) ≡ numbers l ++ numbers_of ls
unfolding numbers_of
numbers_both l ls = map-append (λ (p : Part). p.0) l.chain (flat_map (λ l. l.chain) ls)

-- the number of a slot of a list among all
in_all : (ls : List IvfList) (j i x : ℕ) (l : IvfList) → slice_get ls j ≡ Some l → slice_get (numbers l) i ≡ Some x
    → (k : ℕ) × (slice_get (numbers_of ls) k ≡ Some x)
in_all [] j i x l is slot = absurd (none-some l is)
in_all (m ∷ ls) zero i x l is slot = (
  i,
  ap (λ (ns : List ℕ). slice_get ns i) (numbers_both m ls)
      ∙ in_left (numbers m) (numbers_of ls) i x (ap (λ (k : IvfList). slice_get (numbers k) i) (same_Some m l is) ∙ slot),
)
in_all (m ∷ ls) (suc j) i x l is slot =
    let there = in_all ls j i x l is slot in (
      length (numbers m) + there.0,
      ap (λ (ns : List ℕ). slice_get ns (length (numbers m) + there.0)) (numbers_both m ls)
          ∙ in_right (numbers m) (numbers_of ls) there.0 x there.1,
    )

never_later : (m : IvfList) (ls : List IvfList) (i j k x : ℕ) (l : IvfList) → IsDistinct eqb (numbers_of (m ∷ ls)) → slice_get (numbers m) i ≡ Some x
    → slice_get ls j ≡ Some l → slice_get (numbers l) k ≡ Some x → ⊥
never_later m ls i j k x l apart here is there =
    let both : IsDistinct eqb (numbers m ++ numbers_of ls) = subst (IsDistinct eqb) (numbers_both m ls) apart in
    let other = in_all ls j k x l is there in
    let one = distinct_one (numbers m ++ numbers_of ls) i (length (numbers m) + other.0) x both
    (in_left (numbers m) (numbers_of ls) i x here) (in_right (numbers m) (numbers_of ls) other.0 x other.1) in
    let within : i < length (numbers m) = slice_get_within (numbers m) i x here in
    absurd (omega (arith, one, within))

one_slot : (ls : List IvfList) (j k i n x : ℕ) (l m : IvfList) → IsDistinct eqb (numbers_of ls) → slice_get ls j ≡ Some l
    → slice_get (numbers l) i ≡ Some x → slice_get ls k ≡ Some m → slice_get (numbers m) n ≡ Some x → (j ≡ k) × (i ≡ n)
one_slot [] j k i n x l m apart is slot other there = absurd (none-some l is)
one_slot (h ∷ ls) zero zero i n x l m apart is slot other there =
    let both : IsDistinct eqb (numbers h ++ numbers_of ls) = subst (IsDistinct eqb) (numbers_both h ls) apart in
    let first : slice_get (numbers h) i ≡ Some x = ap (λ (q : IvfList). slice_get (numbers q) i) (same_Some h l is) ∙ slot in
    let second : slice_get (numbers h) n ≡ Some x = ap (λ (q : IvfList). slice_get (numbers q) n) (same_Some h m other) ∙ there in
    (refl, distinct_one (numbers h ++ numbers_of ls) i n x both (in_left (numbers h) (numbers_of ls) i x first) (in_left (numbers h) (numbers_of ls) n x second))
one_slot (h ∷ ls) zero (suc k) i n x l m apart is slot other there =
    absurd (never_later h ls i k n x m apart (ap (λ (q : IvfList). slice_get (numbers q) i) (same_Some h l is) ∙ slot) other there)
one_slot (h ∷ ls) (suc j) zero i n x l m apart is slot other there =
    absurd (never_later h ls n j i x l apart (ap (λ (q : IvfList). slice_get (numbers q) n) (same_Some h m other) ∙ there) is slot)
one_slot (h ∷ ls) (suc j) (suc k) i n x l m apart is slot other there =
    let rest : IsDistinct eqb (numbers_of ls) = distinct_rest (numbers h) (numbers_of ls) (subst (IsDistinct eqb) (numbers_both h ls) apart) in
    let same = one_slot ls j k i n x l m rest is slot other there in
    (ap (λ (a : ℕ). suc a) same.0, same.1)

-- ---- the block behind one

next_told : (g : IvfGraph) (chain : List Part) (i x : ℕ) → Told g chain → slice_get (map (λ p. p.0) chain) i ≡ Some x
    → next_on g x ≡ slice_get (map (λ p. p.0) chain) (suc i)
next_told g [] i x told e = absurd (none-some x e)
next_told g (p ∷ []) zero x told e = ap (next_on g) (sym (same_Some p.0 x e)) ∙ told.1
next_told g (p ∷ q ∷ chain) zero x told e = ap (next_on g) (sym (same_Some p.0 x e)) ∙ told.1
next_told g (p ∷ chain) (suc i) x told e = next_told g chain i x told.2 e

-- ---- the rows of a block

-- none of these rows is on the block
abbrev pub NoneOf : ℕ → List Found → Type 0
NoneOf b fs = (k : ℕ) (f : Found) → slice_get fs k ≡ Some f → f.block ≡ b → ⊥

on_block : (query : List Bool) (block offset : ℕ) (rows : List Row) (k : ℕ) (f : Found) → slice_get (found_from query block offset rows) k ≡ Some f → f.block ≡ block
on_block query block offset [] k f e = absurd (none-some f e)
on_block query block offset (r ∷ rows) zero f e = sym (ap (λ (g : Found). g.block) (same_Some _ f e))
on_block query block offset (r ∷ rows) (suc k) f e = on_block query block (offset + 1) rows k f e

nothing : (b : ℕ) → NoneOf b []
nothing b k f e is = none-some f e

none_both : (b : ℕ) (xs ys : List Found) → NoneOf b xs → NoneOf b ys → NoneOf b (xs ++ ys)
none_both b xs ys none other k f e is =
    elim (in_both xs ys k f e) as (λ _. ⊥) [
      | inl left ↦ none k f left is
      | inr right ↦ other right.place f right.is is
    ]

pub none_here : (query : List Bool) (b block : ℕ) (rows : List Row) → (block ≡ b → ⊥) → NoneOf b (found_on query (block, rows))
none_here query b block rows other k f e is = other (sym (on_block query block 1 rows k f e) ∙ is)

-- ---- walks

pub cons_apart : {X : Type 0} (x : X) (xs : List X) → x ∷ xs ≡ [] → ⊥
cons_apart x xs e = absurd cc

module _ (base : IvfGraph) (acts : List Act) (legal : IsLegal base acts) (own : AreBlocksOwn base) where
  -- the block is that of this number in the chain of this list
  pub record AtSlot (p j i x : ℕ) : Type 0 where
    pub of_list : IvfList
    pub is_list : slice_get (state_after base acts p).lists j ≡ Some of_list
    pub is : slice_get (numbers of_list) i ≡ Some x

  pub slot_later : (p q j i x : ℕ) → p ≤ q → AtSlot p j i x → AtSlot q j i x
  slot_later p q j i x later s =
      let grown = grown_later base acts p q j s.of_list later s.is_list in
      record {
        of_list = grown.now;
        is_list = grown.is_there;
        is = ap (λ (ns : List ℕ). slice_get ns i) grown.front ∙ in_left (numbers s.of_list) grown.more i x s.is;
      }

  pub slot_once : (p j i k n x : ℕ) → AtSlot p j i x → AtSlot p k n x → (j ≡ k) × (i ≡ n)
  unfolding numbers_of
  slot_once p j i k n x s t = one_slot (state_after base acts p).lists j k i n x s.of_list t.of_list (own_at base acts legal own p).apart s.is_list s.is t.is_list t.is

  slot_next : (p j i x : ℕ) (s : AtSlot p j i x) → next_on (state_after base acts p) x ≡ slice_get (numbers s.of_list) (suc i)
  slot_next p j i x s =
      let g = state_after base acts p in
      next_told g s.of_list.chain i x (all_got (λ (l : IvfList). Told g l.chain) g.lists j s.of_list (all_told g (own_at base acts legal own p).apart) s.is_list) s.is

  pub next_slot : (p j i x y : ℕ) → AtSlot p j i x → next_on (state_after base acts p) x ≡ Some y → AtSlot p j (suc i) y
  next_slot p j i x y s e = record { of_list = s.of_list; is_list = s.is_list; is = sym (slot_next p j i x s) ∙ e }

  module _ (query : List Bool) (high list slot b : ℕ) where
    -- a block of another list, or one behind in the list's chain
    record IsAway (p x : ℕ) : Type 0 where
      j : ℕ
      i : ℕ
      at : AtSlot p j i x
      behind : j ≡ list → slot < i

    -- the first block of another list
    pub record IsOther (p x : ℕ) : Type 0 where
      pub j : ℕ
      pub at : AtSlot p j 0 x
      pub other : j ≡ list → ⊥

    away_not : (p x : ℕ) → AtSlot p list slot b → IsAway p x → x ≡ b → ⊥
    away_not p x here a same =
        let one = slot_once p a.j a.i list slot b (subst (λ (y : ℕ). AtSlot p a.j a.i y) same a.at) here in
        let behind : slot < a.i = a.behind one.0 in
        let level = one.1 in
        absurd (omega (arith, behind, level))

    away_later : (p q x : ℕ) → p ≤ q → IsAway p x → IsAway q x
    away_later p q x later a = record { j = a.j; i = a.i; at = slot_later p q a.j a.i x later a.at; behind = a.behind }

    away_next : (p x y : ℕ) → IsAway p x → next_on (state_after base acts p) x ≡ Some y → IsAway p y
    away_next p x y a e = record {
      j = a.j;
      i = suc a.i;
      at = next_slot p a.j a.i x y a.at e;
      behind = λ same. let was : slot < a.i = a.behind same in omega (arith, was);
    }

    others_later : (p q : ℕ) (xs : List ℕ) → p ≤ q → AllByRecursion (IsOther p) xs → AllByRecursion (IsOther q) xs
    others_later p q xs later all =
        all_weaker (IsOther p) (IsOther q) (λ x o. record { j = o.j; at = slot_later p q o.j 0 x later o.at; other = o.other }) xs all

    -- a walk along other blocks finds no row of this one
    walk_away : {states : List IvfGraph} {at : Option ℕ} {later : List ℕ} {fs : List Found} → Walks query states at later fs
        → (ps : List ℕ) (p : ℕ) → states ≡ map (state_after base acts) ps → IsRising p ps high → AtSlot p list slot b
        → ((x : ℕ) → at ≡ Some x → IsAway p x) → AllByRecursion (IsOther p) later → NoneOf b fs
    walk_away done ps p are rising here away others = λ k f e is. absurd (none-some f e)
    walk_away (begins states first more fs w) ps p are rising here away others =
        walk_away w ps p are rising here
        (λ x same.
        subst (λ (y : ℕ). IsAway p y) (same_Some first x same) (record { j = others.0.j; i = 0; at = others.0.at; behind = λ is. absurd (others.0.other is) }))
        others.1
    walk_away (reads g states block rows more fs on w) [] p are rising here away others = absurd (cons_apart g states are)
    walk_away (reads g states block rows more fs on w) (q ∷ ps) p are rising here away others =
        let state : g ≡ state_after base acts q = cc in
        let rest : states ≡ map (state_after base acts) ps = cc in
        let now : IsAway q block = away_later p q block rising.0 (away block refl) in
        let here_now = slot_later p q list slot b rising.0 here in
        none_both b (found_on query (block, rows)) fs
        (none_here query b block rows (away_not q block here_now now))
        (walk_away w ps q rest rising.1 here_now
        (λ x same. away_next q block x now (ap (λ (h : IvfGraph). next_on h block) (sym state) ∙ same)) (others_later p q more rising.0 others))

    -- the block was read once, at a position from this one on
    pub record WasRead (p : ℕ) (fs : List Found) : Type 0 where
      pub position : ℕ
      pub from_low : p ≤ position
      pub to_high : position ≤ high
      pub rows : List Row
      pub on : rows_on (state_after base acts position) b ≡ Some rows
      pub before : List Found
      pub behind : List Found
      pub is : fs ≡ before ++ (found_on query (b, rows) ++ behind)
      pub none_before : NoneOf b before
      pub none_behind : NoneOf b behind

    pub more_before : (p q : ℕ) (xs fs : List Found) → p ≤ q → NoneOf b xs → WasRead q fs → WasRead p (xs ++ fs)
    more_before p q xs fs later none r = let from = r.from_low in record {
      position = r.position;
      from_low = omega (arith, later, from);
      to_high = r.to_high;
      rows = r.rows;
      on = r.on;
      before = xs ++ r.before;
      behind = r.behind;
      is = ap (λ (z : List Found). xs ++ z) r.is ∙ sym (append_assoc xs r.before (found_on query (b, r.rows) ++ r.behind));
      none_before = none_both b xs r.before none r.none_before;
      none_behind = r.none_behind;
    }

    rising_to : (p : ℕ) (ps : List ℕ) → IsRising p ps high → p ≤ high
    rising_to p [] up = up
    rising_to p (q ∷ ps) up = let rest = rising_to q ps up.1 in omega (arith, rest, up.0)

    -- a walk along the list's own chain, from a block before this one
    pub walk_along : {states : List IvfGraph} {at : Option ℕ} {later : List ℕ} {fs : List Found} → Walks query states at later fs
        → (ps : List ℕ) (p i x : ℕ) → states ≡ map (state_after base acts) ps → IsRising p ps high → AtSlot p list slot b
        → at ≡ Some x → AtSlot p list i x → i ≤ slot → AllByRecursion (IsOther p) later → WasRead p fs
    walk_along done ps p i x are rising here at_x at low others = absurd (none-some x at_x)
    walk_along (begins states first more fs w) ps p i x are rising here at_x at low others = absurd (none-some x at_x)
    walk_along (reads g states block rows more fs on w) [] p i x are rising here at_x at low others = absurd (cons_apart g states are)
    walk_along (reads g states block rows more fs on w) (q ∷ ps) p i x are rising here at_x at low others =
        let state : g ≡ state_after base acts q = cc in
        let rest : states ≡ map (state_after base acts) ps = cc in
        let here_now = slot_later p q list slot b rising.0 here in
        let others_now = others_later p q more rising.0 others in
        let at_now : AtSlot q list i block = subst (λ (y : ℕ). AtSlot q list i y) (sym (same_Some block x at_x)) (slot_later p q list i x rising.0 at) in
        elim (in_order i slot) as (λ _. WasRead p (found_on query (block, rows) ++ fs)) [
          | inl before ↦
              let other : block ≡ b → ⊥ =
              (λ same.
              let one = slot_once q list i list slot b (subst (λ (y : ℕ). AtSlot q list i y) same at_now) here_now in
              let level = one.1 in
              absurd (omega (arith, before, level))) in
              let same_list : here_now.of_list ≡ at_now.of_list = same_Some _ _ (sym here_now.is_list ∙ at_now.is_list) in
              let there : slice_get (numbers at_now.of_list) slot ≡ Some b =
              subst (λ (l : IvfList). slice_get (numbers l) slot ≡ Some b) same_list here_now.is in
              let next = some_before (numbers at_now.of_list) slot (suc i) b there (omega (arith, before)) in
              let next_is : next_on g block ≡ Some next.0 = ap (λ (h : IvfGraph). next_on h block) state ∙ slot_next q list i block at_now ∙ next.1 in
              more_before p q (found_on query (block, rows)) fs rising.0 (none_here query b block rows other)
              (walk_along w ps q (suc i) next.0 rest rising.1 here_now next_is
              (record { of_list = at_now.of_list; is_list = at_now.is_list; is = next.1 }) (omega (arith, before)) others_now)
          | inr (inl same) ↦
              let same_list : here_now.of_list ≡ at_now.of_list = same_Some _ _ (sym here_now.is_list ∙ at_now.is_list) in
              let there : slice_get (numbers at_now.of_list) slot ≡ Some b =
              subst (λ (l : IvfList). slice_get (numbers l) slot ≡ Some b) same_list here_now.is in
              let is_b : block ≡ b = same_Some block b (sym at_now.is ∙ ap (λ (k : ℕ). slice_get (numbers at_now.of_list) k) same ∙ there) in
              record {
                position = q;
                from_low = rising.0;
                to_high = rising_to q ps rising.1;
                rows = rows;
                on = ap (λ (h : IvfGraph). rows_on h b) (sym state) ∙ ap (rows_on g) (sym is_b) ∙ on;
                before = [];
                behind = fs;
                is = ap (λ (y : ℕ). found_on query (y, rows) ++ fs) is_b;
                none_before = nothing b;
                none_behind = walk_away w ps q rest rising.1 here_now
                    (λ y is. record {
                      j = list;
                      i = suc i;
                      at = next_slot q list i block y at_now (ap (λ (h : IvfGraph). next_on h block) (sym state) ∙ is);
                      behind = λ _. omega (arith, same);
                    }) others_now;
              }
          | inr (inr behind) ↦ absurd (omega (arith, behind, low))
        ]
