-- A chain as it is followed from block to block, and the marks that it leaves.
use Rattle.std.proofs.Common.{◌≡◌, ◌⊎◌, ℕ, zero, suc, ◌&&◌, ◌||◌, ◌==◌, not, Bool, true, false, List, [], ◌∷◌, ◌++◌, length, map, get_or, Option, Some, None, refl, sym, ap, ap₂, subst, ◌∙◌, arith, inl, inr}
use Rattle.std.specs.Prelude.{slice_get, if◌then◌else◌}
use Rattle.std.specs.Option.{option_map, is_some}
use Rattle.std.proofs.lemmas.Bool.{and_parts, both_ways, eq-eqb, ne_eqb, eqb-true, not-true, or_left, or_right, false_from_ne_true}
use Rattle.std.proofs.lemmas.Option.{slice_get_within, slice_get-get_or, same_Some}
use Rattle.std.proofs.lemmas.List.{append_assoc, append-nil}
use Rattle.page_bytes.specs.Content.{Content}
use Rattle.page_redo.specs.PageChanges.{when}
use Rattle.page_redo.proofs.Given.{when_is}
use Rattle.ivf_pages.specs.declared.links.Link.{Link}
use Rattle.ivf_pages.specs.declared.marks.Mark.{Mark}
use Rattle.ivf_pages.specs.declared.marks.Mark.TheVariants.{Nowhere, Once, Short, Shared}
use Rattle.ivf_pages.specs.Standing.{is_among, has_entries, next_of, goes_to, followed, chain_from, ends_at}
use Rattle.ivf_pages.specs.Walking.{link_of, leads, behind, is_own, is_met, is_passed, is_shared, IsNew, visited, shortened, visited_at, is_here, is_cut, stopped, stops_short, marked, marked_by, arrived, AreChanged, IsBelow, AreBelow, AreClosed}
use Rattle.ivf_pages.proofs.Given.{or_parts_of}
use Rattle.ivf_pages.proofs.Chains.{entries_there}
use Rattle.ivf_pages.proofs.Closed.{closed}
use Rattle.ivf_pages.proofs.Ended.{ends_among}
use Rattle.ivf_pages.proofs.LinkedPages.{leads_is, behind_is}
use Rattle.ivf_pages.proofs.MarkChanges.{after_two, unchanged}

-- ---- words

abbrev pub latest : List ℕ → Option ℕ
latest [] = None
latest (b ∷ met) = Some b

abbrev pub ends_behind : ℕ → List ℕ → List ℕ → Bool
ends_behind block met [] = is_here block (latest met)
ends_behind block met (b ∷ bs) = ends_at block (b ∷ bs)

abbrev pub passed : ℕ → Bool → Mark → Mark
passed list within m = if within then visited list m else m

abbrev pub passed_by : ℕ → List ℕ → ℕ → Mark → Mark
passed_by list met block m = passed list (is_among block met) m

-- several earlier chains came by each of these blocks
abbrev pub AreAllShared : List Mark → List ℕ → Type 0
AreAllShared marks blocks = (block : ℕ) → is_among block blocks ≡ true → is_shared (slice_get marks block) ≡ true

-- So far the chain met some blocks, the last first, and these are marked. It came from the last of them, and goes to the next block.
-- Where an earlier chain came by one of them it came by the last too. Those that no other chain met are told, in their order.
pub record IsFollowing (pages : List Content) (list first most : ℕ) (before now : List Mark) (from to : Option ℕ) (told : List ℕ) : Type 0 where
  pub met : List ℕ
  pub among : (block : ℕ) → is_among block (chain_from pages first) ≡ (is_among block met || is_among block (followed pages most met to))
  pub ends : (block : ℕ) → ends_at block (chain_from pages first) ≡ ends_behind block met (followed pages most met to)
  pub marks : AreChanged (passed_by list met) before now
  pub from_is : from ≡ latest met
  pub to_is : (block : ℕ) → from ≡ Some block → to ≡ next_of (slice_get pages block)
  pub goes_on : (block last : ℕ) → is_among block met ≡ true → is_passed (slice_get before block) ≡ true → latest met ≡ Some last
      → is_passed (slice_get before last) ≡ true
  pub told_is : IsNew before (chain_from pages first) → chain_from pages first ≡ told ++ followed pages most met to

-- ---- tests

-- the chain can visit what it has not met, where that is not shared
free_is : (list : ℕ) (within : Bool) (m : Mark) → IsBelow list m
    → not (is_own list (passed list within m) || is_shared (Some (passed list within m))) ≡ (not within && not (is_shared (Some m)))
free_is list true Nowhere below = ap (λ (b : Bool). not (b || false)) (eq-eqb list list refl)
free_is list true (Once l) below = refl
free_is list true (Short l) below = refl
free_is list true Shared below = refl
free_is list false Nowhere below = refl
free_is list false (Once l) below = ap (λ (b : Bool). not (b || false)) (ne_eqb l list (λ e. absurd (omega (arith, below, e))))
free_is list false (Short l) below = ap (λ (b : Bool). not (b || false)) (ne_eqb l list (λ e. absurd (omega (arith, below, e))))
free_is list false Shared below = refl

and_both : (a b c : Bool) → (a && (b && c)) ≡ ((a && b) && c)
and_both true b c = refl
and_both false b c = refl

none_when : (t : Bool) (block : ℕ) → when t block ≡ None → t ≡ false
none_when true block is = absurd cc
none_when false block is = refl

shared_if : (goes shared : Bool) → (goes && not shared) ≡ false → goes ≡ true → shared ≡ true
shared_if goes true none is = refl
shared_if true false none is = absurd cc
shared_if false false none is = absurd cc

swapped : (a e r : Bool) → (a || (e || r)) ≡ ((e || a) || r)
swapped true true r = refl
swapped true false r = refl
swapped false true r = refl
swapped false false r = refl

-- a block that is shared now was met, and another chain came by before; or it was shared before
shared_from : (list : ℕ) (within : Bool) (o : Option Mark) → is_shared (option_map (passed list within) o) ≡ true
    → ((within ≡ true) × (is_passed o ≡ true)) ⊎ (is_shared o ≡ true)
shared_from list within None is = absurd cc
shared_from list true (Some Nowhere) is = absurd cc
shared_from list true (Some (Once l)) is = inl (refl, refl)
shared_from list true (Some (Short l)) is = inl (refl, refl)
shared_from list true (Some Shared) is = inl (refl, refl)
shared_from list false (Some Nowhere) is = absurd cc
shared_from list false (Some (Once l)) is = absurd cc
shared_from list false (Some (Short l)) is = absurd cc
shared_from list false (Some Shared) is = inr refl

still_shared : (list : ℕ) (within : Bool) (o : Option Mark) → is_shared o ≡ true → is_shared (option_map (passed list within) o) ≡ true
still_shared list within None is = absurd cc
still_shared list within (Some Nowhere) is = absurd cc
still_shared list within (Some (Once l)) is = absurd cc
still_shared list within (Some (Short l)) is = absurd cc
still_shared list true (Some Shared) is = refl
still_shared list false (Some Shared) is = refl

is_shared_mark : (m : Mark) → is_shared (Some m) ≡ true → m ≡ Shared
is_shared_mark Nowhere is = absurd cc
is_shared_mark (Once l) is = absurd cc
is_shared_mark (Short l) is = absurd cc
is_shared_mark Shared is = refl

some_latest : (met : List ℕ) (x : ℕ) → is_among x met ≡ true → (b : ℕ) × (latest met ≡ Some b)
some_latest [] x is = absurd cc
some_latest (b ∷ met) x is = (b, refl)

latest_met : (met : List ℕ) (x : ℕ) → is_here x (latest met) ≡ true → is_among x met ≡ true
latest_met [] x is = absurd cc
latest_met (b ∷ met) x is = or_left (b == x) (is_among x met) is

here_is : (x : ℕ) (o : Option ℕ) → is_here x o ≡ true → o ≡ Some x
here_is x None is = absurd cc
here_is x (Some b) is = ap (λ (n : ℕ). Some n) (eqb-true b x is)

-- ---- blocks that are shared

module _ (pages : List Content) (marks : List Mark) (known : AreClosed pages marks) where
  -- behind one that is shared all are
  all_shared : (most : ℕ) (met : List ℕ) (to : Option ℕ)
      → ((b : ℕ) → to ≡ Some b → goes_to pages met b ≡ true → is_shared (slice_get marks b) ≡ true) → AreAllShared marks (followed pages most met to)
  all_shared zero met to first x is = absurd cc
  all_shared (suc most) met None first x is = absurd cc
  all_shared (suc most) met (Some b) first x is =
      by_test (λ f. all_shared most (b ∷ met) (next_of (slice_get pages b)) f x) (goes_to pages met b) refl
    where
      rest : List ℕ
      rest = followed pages most (b ∷ met) (next_of (slice_get pages b))

      IsNext : Type 0
      IsNext = (n : ℕ) → next_of (slice_get pages b) ≡ Some n → goes_to pages (b ∷ met) n ≡ true → is_shared (slice_get marks n) ≡ true

      by_block : (is_among x rest ≡ true → is_shared (slice_get marks x) ≡ true) → is_shared (slice_get marks b) ≡ true → (t : Bool) → (b == x) ≡ t
          → ((b == x) || is_among x rest) ≡ true → is_shared (slice_get marks x) ≡ true
      by_block later here true e either = ap (λ (n : ℕ). is_shared (slice_get marks n)) (sym (eqb-true b x e)) ∙ here
      by_block later here false e either = later (or_parts_of (b == x) (is_among x rest) either e)

      by_test : (IsNext → is_among x rest ≡ true → is_shared (slice_get marks x) ≡ true) → (t : Bool) → goes_to pages met b ≡ t
          → is_shared (slice_get marks x) ≡ true
      by_test later true e =
          let here = first b refl e in
          by_block
          (later (λ n to goes. known.shared b n here to (and_parts (has_entries (slice_get pages n)) (not (is_among n (b ∷ met))) goes).0))
          here (b == x) refl (ap (λ (g : Bool). is_among x (if g then b ∷ rest else [])) (sym e) ∙ is)
      by_test later false e =
          let none : false ≡ true = ap (λ (g : Bool). is_among x (if g then b ∷ rest else [])) (sym e) ∙ is in absurd cc

-- the first block that is followed is the one that the chain goes to
head_is : (pages : List Content) (most : ℕ) (met : List ℕ) (to : Option ℕ) (b : ℕ) (bs : List ℕ) → followed pages most met to ≡ b ∷ bs → to ≡ Some b
head_is pages zero met to b bs is = absurd cc
head_is pages (suc most) met None b bs is = absurd cc
head_is pages (suc most) met (Some n) b bs is = by_test (goes_to pages met n) refl
  where
    rest : List ℕ
    rest = followed pages most (n ∷ met) (next_of (slice_get pages n))

    by_test : (t : Bool) → goes_to pages met n ≡ t → Some n ≡ Some b
    by_test true e =
        let opened : n ∷ rest ≡ b ∷ bs = ap (λ (g : Bool). if g then n ∷ rest else []) (sym e) ∙ is in ap latest opened
    by_test false e = let opened : [] ≡ b ∷ bs = ap (λ (g : Bool). if g then n ∷ rest else []) (sym e) ∙ is in absurd cc

-- ---- steps

module _ (pages : List Content) (links : List Link) (are : links ≡ map link_of pages) (list first : ℕ) (before : List Mark) (known : AreClosed pages before) where
  first_ends : (block : ℕ) (bs : List ℕ) → ends_at block bs ≡ ends_behind block [] bs
  first_ends block [] = refl
  first_ends block (b ∷ bs) = refl

  pub begun : IsFollowing pages list first (length pages) before before None (Some first) []
  begun = record {
    met = [];
    among = λ block. refl;
    ends = λ block. first_ends block (chain_from pages first);
    marks = unchanged (passed_by list []) before (λ block m is. refl);
    from_is = refl;
    to_is = λ block is. absurd cc;
    goes_on = λ block last within. absurd cc;
    told_is = λ new. refl;
  }

  module _ (below : AreBelow list before) (long : length before ≡ length pages) (now : List Mark) (met : List ℕ) (marks : AreChanged (passed_by list met) before now) where
    met_is : (block : ℕ) → has_entries (slice_get pages block) ≡ true
        → not (is_met list (slice_get now block) || is_shared (slice_get now block)) ≡ (not (is_among block met) && not (is_shared (slice_get before block)))
    met_is block has =
        let c = entries_there (slice_get pages block) has in
        let m = get_or before block Nowhere in
        let is : slice_get before block ≡ Some m = slice_get-get_or before block Nowhere (omega (arith, slice_get_within pages block c.0 c.1, long)) in
        ap (λ (o : Option Mark). not (is_met list o || is_shared o)) (marks.marks block ∙ ap (option_map (passed_by list met block)) is)
        ∙ free_is list (is_among block met) m (below block m is) ∙ ap (λ (o : Option Mark). not (is_among block met) && not (is_shared o)) (sym is)

    -- the chain goes on just where the definition says so, but for blocks that are shared
    tied : (block : ℕ) → (leads (slice_get links block) && not (is_met list (slice_get now block) || is_shared (slice_get now block)))
        ≡ (goes_to pages met block && not (is_shared (slice_get before block)))
    tied block =
        ap (λ (t : Bool). t && not (is_met list (slice_get now block) || is_shared (slice_get now block))) (leads_is pages links are block)
        ∙ by_test (has_entries (slice_get pages block)) refl
      where
        by_test : (t : Bool) → has_entries (slice_get pages block) ≡ t
            → (has_entries (slice_get pages block) && not (is_met list (slice_get now block) || is_shared (slice_get now block)))
            ≡ (goes_to pages met block && not (is_shared (slice_get before block)))
        by_test true e =
            ap (λ (b : Bool). has_entries (slice_get pages block) && b) (met_is block e)
            ∙ and_both (has_entries (slice_get pages block)) (not (is_among block met)) (not (is_shared (slice_get before block)))
        by_test false e =
            ap (λ (t : Bool). t && not (is_met list (slice_get now block) || is_shared (slice_get now block))) e
            ∙ sym (ap (λ (t : Bool). (t && not (is_among block met)) && not (is_shared (slice_get before block))) e)

    arrived_at : (to : Option ℕ) (block : ℕ) → arrived links list now to ≡ Some block → (to ≡ Some block) × (goes_to pages met block ≡ true)
    arrived_at None block is = absurd cc
    arrived_at (Some b) block is =
        let w = when_is (leads (slice_get links b) && not (is_met list (slice_get now b) || is_shared (slice_get now b))) b block is in
        let goes = and_parts (goes_to pages met b) (not (is_shared (slice_get before b))) (sym (tied b) ∙ w.0) in
        (ap (λ (n : ℕ). Some n) w.1, ap (goes_to pages met) (sym w.1) ∙ goes.0)

    -- where it does not go on all that is left is shared
    pub no_more : (most : ℕ) (to : Option ℕ) → arrived links list now to ≡ None → AreAllShared before (followed pages most met to)
    no_more most to is = all_shared pages before known most met to (λ b same goes.
        let t = leads (slice_get links b) && not (is_met list (slice_get now b) || is_shared (slice_get now b)) in
        let none : t ≡ false = none_when t b (ap (arrived links list now) (sym same) ∙ is) in
        shared_if (goes_to pages met b) (is_shared (slice_get before b)) (sym (tied b) ∙ none) goes)

  ends_next : (x block : ℕ) (met rest : List ℕ) → ends_behind x met (block ∷ rest) ≡ ends_behind x (block ∷ met) rest
  ends_next x block met [] = refl
  ends_next x block met (b ∷ bs) = refl

  twice : (m : Mark) (t a : Bool) → (t ≡ true → a ≡ false) → (if t then visited list (passed list a m) else passed list a m) ≡ passed list (t || a) m
  twice m true true apart = let no = apart refl in absurd cc
  twice m true false apart = refl
  twice m false a apart = refl

  pub one_more : (most : ℕ) (now after : List Mark) (from to : Option ℕ) (block : ℕ) (told more : List ℕ) → AreBelow list before → length before ≡ length pages
      → IsFollowing pages list first (suc most) before now from to told → arrived links list now to ≡ Some block → AreChanged (visited_at list block) now after
      → (slice_get now block ≡ Some Nowhere → more ≡ told ++ block ∷ [])
      → IsFollowing pages list first most before after (Some block) (behind (slice_get links block)) more
  one_more most now after from to block told more below long s is visited adds =
      let at = arrived_at below long now s.met s.marks to block is in
      let rest = followed pages most (block ∷ s.met) (next_of (slice_get pages block)) in
      let opened : followed pages (suc most) s.met to ≡ block ∷ rest =
      ap (followed pages (suc most) s.met) at.0 ∙ ap (λ (g : Bool). if g then block ∷ rest else []) at.1 in
      let has = and_parts (has_entries (slice_get pages block)) (not (is_among block s.met)) at.1 in
      let out : is_among block s.met ≡ false = not-true (is_among block s.met) has.1 in
      subst (λ (o : Option ℕ). IsFollowing pages list first most before after (Some block) o more) (sym (behind_is pages links are block has.0)) (record {
        met = block ∷ s.met;
        among = λ x. s.among x ∙ ap (λ (bs : List ℕ). is_among x s.met || is_among x bs) opened ∙ swapped (is_among x s.met) (block == x) (is_among x rest);
        ends = λ x. s.ends x ∙ ap (ends_behind x s.met) opened ∙ ends_next x block s.met rest;
        marks = after_two (passed_by list s.met) (visited_at list block) (passed_by list (block ∷ s.met)) before now after s.marks visited
            (λ x m there. twice m (block == x) (is_among x s.met) (λ same. ap (λ (n : ℕ). is_among n s.met) (sym (eqb-true block x same)) ∙ out));
        from_is = refl;
        to_is = λ x same. ap (λ (n : ℕ). next_of (slice_get pages n)) (same_Some block x same);
        goes_on = λ x last within came_by same.
            ap (λ (n : ℕ). is_passed (slice_get before n)) (sym (same_Some block last same)) ∙ next_passed s at.0 has.0 x came_by (block == x) refl within;
        told_is = λ new.
            let within : is_among block (chain_from pages first) ≡ true =
            s.among block ∙ ap (λ (bs : List ℕ). is_among block s.met || is_among block bs) opened
            ∙ ap₂ (λ (a e : Bool). a || (e || is_among block rest)) out (eq-eqb block block refl) in
            let nowhere : slice_get now block ≡ Some Nowhere =
            s.marks.marks block ∙ ap (option_map (passed_by list s.met block)) (new block within) ∙ ap (λ (w : Bool). Some (passed list w Nowhere)) out in
            s.told_is new ∙ ap (λ (bs : List ℕ). told ++ bs) opened ∙ sym (append_assoc told (block ∷ []) rest)
            ∙ ap (λ (bs : List ℕ). bs ++ rest) (sym (adds nowhere));
      })
    where
      -- where an earlier chain came by a block that was met, it came by this one
      next_passed : (s : IsFollowing pages list first (suc most) before now from to told) → to ≡ Some block → has_entries (slice_get pages block) ≡ true
          → (x : ℕ) → is_passed (slice_get before x) ≡ true → (t : Bool) → (block == x) ≡ t → ((block == x) || is_among x s.met) ≡ true
          → is_passed (slice_get before block) ≡ true
      next_passed s same has x came_by true e either = ap (λ (n : ℕ). is_passed (slice_get before n)) (eqb-true block x e) ∙ came_by
      next_passed s same has x came_by false e either =
          let within = or_parts_of (block == x) (is_among x s.met) either e in
          let last = some_latest s.met x within in
          let next : next_of (slice_get pages last.0) ≡ Some block = sym (s.to_is last.0 (s.from_is ∙ last.1)) ∙ same in
          known.passed last.0 block (s.goes_on x last.0 within came_by last.1) next has

  -- ---- the end

  module _ (most : ℕ) (now : List Mark) (from to : Option ℕ) (told : List ℕ) (s : IsFollowing pages list first most before now from to told)
      (shared : AreAllShared before (followed pages most s.met to)) where
    rest : List ℕ
    rest = followed pages most s.met to

    not_new : (x : ℕ) → slice_get before x ≡ Some Nowhere → is_shared (slice_get before x) ≡ true → ⊥
    not_new x new is = let none : false ≡ true = ap is_shared (sym new) ∙ is in absurd cc

    -- then all are told, where no other chain met one
    pub all_told : IsNew before (chain_from pages first) → told ≡ chain_from pages first
    all_told new = sym (s.told_is new ∙ by_rest (followed pages most s.met to) refl)
      where
        by_rest : (bs : List ℕ) → followed pages most s.met to ≡ bs → told ++ followed pages most s.met to ≡ told
        by_rest [] e = ap (λ (cs : List ℕ). told ++ cs) e ∙ append-nil told
        by_rest (b ∷ bs) e =
            let within : is_among b (followed pages most s.met to) ≡ true = ap (is_among b) e ∙ or_left (b == b) (is_among b bs) (eq-eqb b b refl) in
            absurd (not_new b (new b (s.among b ∙ or_right (is_among b s.met) (is_among b (followed pages most s.met to)) within)) (shared b within))

    -- a chain that goes on to a block that is shared had another chain before it at the last block too
    not_shared : (x z : ℕ) → slice_get before x ≡ Some Nowhere → latest s.met ≡ Some x → to ≡ Some z → followed pages most s.met to ≡ []
        → is_shared (slice_get now z) ≡ true → ⊥
    not_shared x z new last same none is = by_case (shared_from list (is_among z s.met) (slice_get before z) (ap is_shared (sym (s.marks.marks z)) ∙ is))
      where
        within : is_among x (chain_from pages first) ≡ true
        within =
            s.among x ∙ or_left (is_among x s.met) (is_among x (followed pages most s.met to))
            (latest_met s.met x (ap (is_here x) last ∙ eq-eqb x x refl))

        by_case : ((is_among z s.met ≡ true) × (is_passed (slice_get before z) ≡ true)) ⊎ (is_shared (slice_get before z) ≡ true) → ⊥
        by_case (inl met) =
            let came_by = s.goes_on z x met.0 met.1 last in
            let no : false ≡ true = ap is_passed (sym new) ∙ came_by in absurd cc
        by_case (inr before_is) =
            let has = known.there z before_is in
            let next : next_of (slice_get pages x) ≡ Some z = sym (s.to_is x (s.from_is ∙ last)) ∙ same in
            let there : (is_among z s.met || is_among z []) ≡ true =
            sym (s.among z ∙ ap (λ (bs : List ℕ). is_among z s.met || is_among z bs) none) ∙ closed pages first x z within next has in
            let met : is_among z s.met ≡ true = only (is_among z s.met) there in
            let came_by = s.goes_on z x met (passed_too (slice_get before z) before_is) last in
            let no : false ≡ true = ap is_passed (sym new) ∙ came_by in absurd cc
          where
            only : (a : Bool) → (a || false) ≡ true → a ≡ true
            only true is = refl
            only false is = is

            passed_too : (o : Option Mark) → is_shared o ≡ true → is_passed o ≡ true
            passed_too None is = absurd cc
            passed_too (Some Nowhere) is = absurd cc
            passed_too (Some (Once l)) is = absurd cc
            passed_too (Some (Short l)) is = absurd cc
            passed_too (Some Shared) is = refl

    -- a block that no earlier chain met is where the chain stops short, just where the definition says so
    short_is : (x : ℕ) → slice_get before x ≡ Some Nowhere → (is_here x from && is_cut now to) ≡ stops_short pages x (chain_from pages first)
    short_is x new = by_rest (followed pages most s.met to) refl
      where
        ends : (bs : List ℕ) → followed pages most s.met to ≡ bs → ends_at x (chain_from pages first) ≡ ends_behind x s.met bs
        ends bs e = s.ends x ∙ ap (ends_behind x s.met) e

        cut_is : followed pages most s.met to ≡ [] → latest s.met ≡ Some x → (o : Option ℕ) → to ≡ o → is_cut now o ≡ is_some o
        cut_is none last None e = refl
        cut_is none last (Some z) e =
            ap (λ (b : Bool). not b) (false_from_ne_true (is_shared (slice_get now z)) (λ is. not_shared x z new last e none is))

        by_here : followed pages most s.met to ≡ [] → (t : Bool) → is_here x from ≡ t
            → (is_here x from && is_cut now to) ≡ (is_here x from && is_some (next_of (slice_get pages x)))
        by_here none true e =
            let is : from ≡ Some x = here_is x from e in
            ap (λ (b : Bool). is_here x from && b) (cut_is none (sym s.from_is ∙ is) to refl ∙ ap is_some (s.to_is x is))
        by_here none false e =
            ap (λ (t : Bool). t && is_cut now to) e ∙ sym (ap (λ (t : Bool). t && is_some (next_of (slice_get pages x))) e)

        by_rest : (bs : List ℕ) → followed pages most s.met to ≡ bs → (is_here x from && is_cut now to) ≡ stops_short pages x (chain_from pages first)
        by_rest [] e =
            by_here e (is_here x from) refl
            ∙ ap (λ (t : Bool). t && is_some (next_of (slice_get pages x))) (ap (is_here x) s.from_is ∙ sym (ends [] e))
        by_rest (b ∷ bs) e =
            let within : is_among b (followed pages most s.met to) ≡ true = ap (is_among b) e ∙ or_left (b == b) (is_among b bs) (eq-eqb b b refl) in
            let not_cut : is_cut now to ≡ false =
            ap (is_cut now) (head_is pages most s.met to b bs e)
            ∙ ap (λ (t : Bool). not t) (ap is_shared (s.marks.marks b) ∙ still_shared list (is_among b s.met) (slice_get before b) (shared b within)) in
            let no_end : ends_at x (chain_from pages first) ≡ false =
            false_from_ne_true (ends_at x (chain_from pages first)) (λ at.
            not_new x new (shared x (ap (is_among x) e ∙ ends_among x (b ∷ bs) (sym (ends (b ∷ bs) e) ∙ at)))) in
            ap (λ (t : Bool). is_here x from && t) not_cut ∙ and_false (is_here x from)
            ∙ sym (ap (λ (t : Bool). t && is_some (next_of (slice_get pages x))) no_end)
          where
            and_false : (a : Bool) → (a && false) ≡ false
            and_false true = refl
            and_false false = refl

    always : (t : Bool) → (if t then Shared else Shared) ≡ Shared
    always true = refl
    always false = refl

    same_in : (cut short : Bool) (m : Mark) → (m ≡ Nowhere → cut ≡ short)
        → (if cut then shortened (visited list m) else visited list m) ≡ (if short then shortened (visited list m) else visited list m)
    same_in cut short Nowhere same = ap (λ (t : Bool). if t then Short list else Once list) (same refl)
    same_in cut short (Once l) same = always cut ∙ sym (always short)
    same_in cut short (Short l) same = always cut ∙ sym (always short)
    same_in cut short Shared same = always cut ∙ sym (always short)

    each : (x : ℕ) (m : Mark) → slice_get before x ≡ Some m
        → stopped from (is_cut now to) x (passed_by list s.met x m) ≡ marked_by pages list (chain_from pages first) x m
    each x m there = by_met (is_among x s.met) refl
      where
        cut : Bool
        cut = is_here x from && is_cut now to

        short : Bool
        short = stops_short pages x (chain_from pages first)

        within_is : (a : Bool) → is_among x s.met ≡ a → is_among x (chain_from pages first) ≡ (a || is_among x (followed pages most s.met to))
        within_is a e = s.among x ∙ ap (λ (t : Bool). t || is_among x (followed pages most s.met to)) e

        by_rest : is_among x s.met ≡ false → (t : Bool) → is_among x (followed pages most s.met to) ≡ t → m ≡ marked list (is_among x (chain_from pages first)) short m
        by_rest out true e =
            let is : m ≡ Shared = is_shared_mark m (ap is_shared (sym there) ∙ shared x e) in
            is ∙ sym (always short) ∙ sym (ap (marked list true short) is) ∙ sym (ap (λ (t : Bool). marked list t short m) (within_is false out ∙ e))
        by_rest out false e = sym (ap (λ (t : Bool). marked list t short m) (within_is false out ∙ e))

        by_met : (a : Bool) → is_among x s.met ≡ a
            → (if cut then shortened (passed list (is_among x s.met) m) else passed list (is_among x s.met) m) ≡ marked list (is_among x (chain_from pages first)) short m
        by_met true e =
            ap (λ (t : Bool). if cut then shortened (passed list t m) else passed list t m) e
            ∙ same_in cut short m (λ is. short_is x (there ∙ ap (λ (n : Mark). Some n) is))
            ∙ sym (ap (λ (t : Bool). marked list t short m) (within_is true e))
        by_met false e =
            let elsewhere : is_here x from ≡ false =
            false_from_ne_true (is_here x from) (λ here. both_ways (is_among x s.met) e (latest_met s.met x (ap (is_here x) (sym s.from_is) ∙ here))) in
            ap₂ (λ (c t : Bool). if c && is_cut now to then shortened (passed list t m) else passed list t m) elsewhere e
            ∙ by_rest e (is_among x (followed pages most s.met to)) refl

    pub done : (after : List Mark) → AreChanged (stopped from (is_cut now to)) now after
        → AreChanged (marked_by pages list (chain_from pages first)) before after
    done after stops = after_two (passed_by list s.met) (stopped from (is_cut now to)) (marked_by pages list (chain_from pages first)) before now after s.marks stops each
