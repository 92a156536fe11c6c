-- What the marks say once the chains of so many lists were followed.
use Rattle.std.proofs.Common.{◌≡◌, ℕ, zero, suc, ◌+◌, ◌<◌, Bool, true, false, List, [], ◌∷◌, ◌++◌, length, replicate, get_or, drop, Option, Some, None, refl, sym, ap, subst, ◌∙◌, arith, inl, inr}
use Rattle.std.specs.Prelude.{slice_get}
use Rattle.std.proofs.lemmas.Bool.{both_ways, cases_lt, or_left, or_right}
use Rattle.std.proofs.lemmas.List.{length-replicate, append_assoc, append-nil, drop_more, drop_all}
use Rattle.std.proofs.lemmas.Option.{slice_get_within, slice_get-get_or, get_or_from_slice_get, same_Some}
use Rattle.vec_names.specs.declared.params.Params.{Params}
use Rattle.page_bytes.specs.Content.{Content}
use Rattle.vec_tuples.specs.declared.centre.CentreTuple.{CentreTuple}
use Rattle.page_redo.proofs.Given.{map_is}
use Rattle.ivf_pages.specs.declared.marks.Mark.{Mark}
use Rattle.ivf_pages.specs.declared.marks.Mark.TheVariants.{Nowhere, Once, Short, Shared}
use Rattle.ivf_pages.specs.Standing.{is_among, has_entries, next_of, centre_in, chain_from, chain_of, chain_in, has_aim}
use Rattle.ivf_pages.specs.Walking.{is_passed, is_shared, stops_short, marked, marked_by, AreChanged, IsBelow, AreBelow, AreClosed, IsInOneOf, IsShared, IsSo, AreMarked, AreFirstTuples, is_in_some, chains_of, AreChainsApart, IsNew}
use Rattle.ivf_pages.proofs.Chains.{among_chain, entries_there}
use Rattle.ivf_pages.proofs.Closed.{closed_chain}

-- ---- before all lists

replicated : (n k : ℕ) (m : Mark) → slice_get (replicate n Nowhere) k ≡ Some m → Nowhere ≡ m
replicated zero k m is = absurd cc
replicated (suc n) zero m is = same_Some Nowhere m is
replicated (suc n) (suc k) m is = replicated n k m is

pub fresh_marked : (p : Params) (pages : List Content) (marks : List Mark) → marks ≡ replicate (length pages) Nowhere → AreMarked p pages 0 marks
fresh_marked p pages marks fresh = record {
  long = ap (λ (ms : List Mark). length ms) fresh ∙ length-replicate (length pages) Nowhere;
  so = λ block m is.
      subst (IsSo p pages 0 block) (replicated (length pages) block m (ap (λ (ms : List Mark). slice_get ms block) (sym fresh) ∙ is))
      (λ list low. absurd (omega (arith, low)));
}

-- ---- one list more

module _ (p : Params) (pages : List Content) (k : ℕ) where
  so_below : (block : ℕ) (m : Mark) → IsSo p pages k block m → IsBelow k m
  so_below block Nowhere so = tt
  so_below block (Once l) so = so.low
  so_below block (Short l) so = so.low
  so_below block Shared so = tt

  pub below : (marks : List Mark) → AreMarked p pages k marks → AreBelow k marks
  below marks marked block m is = so_below block m (marked.so block m is)

  lifted : (block : ℕ) → IsShared p pages k block → IsShared p pages (k + 1) block
  lifted block s = record {
    list = s.list;
    low = omega (arith, s.low);
    within = s.within;
    other = s.other;
    other_low = omega (arith, s.other_low);
    other_within = s.other_within;
    differ = s.differ;
  }

  -- the list of this number, or one below it
  by_list : (P : ℕ → Type 0) (list : ℕ) → list < k + 1 → (list < k → P list) → P k → P list
  by_list P list low before here = elim (cases_lt list k) as (λ _. P list) [
    | inl h ↦ before h
    | inr h ↦ let same : k ≡ list = omega (arith, h, low) in subst P same here
  ]

  -- the first chain that comes by the block
  alone : (block : ℕ) (short : Bool) → ((list : ℕ) → list < k → is_among block (chain_in p pages list) ≡ false) → is_among block (chain_in p pages k) ≡ true
      → stops_short pages block (chain_in p pages k) ≡ short → IsInOneOf p pages (k + 1) block k short
  alone block short none a s = record {
    low = omega arith;
    within = a;
    only = λ other low is. by_list (λ n. is_among block (chain_in p pages n) ≡ true → n ≡ k) other low
        (λ h is. absurd (both_ways (is_among block (chain_in p pages other)) (none other h) is)) (λ is. refl) is;
    is_short = s;
  }

  -- one more comes by a block that one came by
  shared : (block l : ℕ) (short : Bool) → IsInOneOf p pages k block l short → is_among block (chain_in p pages k) ≡ true → IsShared p pages (k + 1) block
  shared block l short so a = record {
    list = l;
    low = omega (arith, so.low);
    within = so.within;
    other = k;
    other_low = omega arith;
    other_within = a;
    differ = λ e. absurd (omega (arith, e, so.low));
  }

  -- one more does not come by
  still_alone : (block l : ℕ) (short : Bool) → IsInOneOf p pages k block l short → is_among block (chain_in p pages k) ≡ false
      → IsInOneOf p pages (k + 1) block l short
  still_alone block l short so a = record {
    low = omega (arith, so.low);
    within = so.within;
    only = λ other low is. by_list (λ n. is_among block (chain_in p pages n) ≡ true → n ≡ l) other low
        (λ h is. so.only other h is) (λ is. absurd (both_ways (is_among block (chain_in p pages k)) a is)) is;
    is_short = so.is_short;
  }

  next : (block : ℕ) (within short : Bool) → is_among block (chain_in p pages k) ≡ within → stops_short pages block (chain_in p pages k) ≡ short
      → (m : Mark) → IsSo p pages k block m → IsSo p pages (k + 1) block (marked k within short m)
  next block true true a s Nowhere so = alone block true so a s
  next block true false a s Nowhere so = alone block false so a s
  next block true true a s (Once l) so = shared block l false so a
  next block true false a s (Once l) so = shared block l false so a
  next block true true a s (Short l) so = shared block l true so a
  next block true false a s (Short l) so = shared block l true so a
  next block true true a s Shared so = lifted block so
  next block true false a s Shared so = lifted block so
  next block false short a s Nowhere so = λ list low. by_list (λ n. is_among block (chain_in p pages n) ≡ false) list low (λ h. so list h) a
  next block false short a s (Once l) so = still_alone block l false so a
  next block false short a s (Short l) so = still_alone block l true so a
  next block false short a s Shared so = lifted block so

  pub one_list : (before after : List Mark) → AreMarked p pages k before → AreChanged (marked_by pages k (chain_in p pages k)) before after
      → AreMarked p pages (k + 1) after
  one_list before after were changed = record {
    long = changed.count ∙ were.long;
    so = λ block m is.
        let b = map_is (marked_by pages k (chain_in p pages k) block) (slice_get before block) m (sym (changed.marks block) ∙ is) in
        subst (IsSo p pages (k + 1) block) b.2
        (next block (is_among block (chain_in p pages k)) (stops_short pages block (chain_in p pages k)) refl refl b.0 (were.so block b.0 b.1));
  }

-- ---- the marks of the next blocks

module _ (p : Params) (pages : List Content) (k : ℕ) (marks : List Mark) (are : AreMarked p pages k marks) where
  -- the chain that came by goes on to the next block
  goes_on : (block next list : ℕ) → is_among block (chain_in p pages list) ≡ true → next_of (slice_get pages block) ≡ Some next
      → has_entries (slice_get pages next) ≡ true → is_among next (chain_in p pages list) ≡ true
  goes_on block next list within to has = closed_chain pages (centre_in p pages list) block next within to has

  mark_of : (block : ℕ) → has_entries (slice_get pages block) ≡ true → (m : Mark) × (slice_get marks block ≡ Some m) × IsSo p pages k block m
  mark_of block has =
      let c = entries_there (slice_get pages block) has in
      let is = slice_get-get_or marks block Nowhere (omega (arith, slice_get_within pages block c.0 c.1, are.long)) in
      (get_or marks block Nowhere, is, are.so block (get_or marks block Nowhere) is)

  -- a mark of a block in a chain
  is_some_chain : (block list : ℕ) (m : Mark) → IsSo p pages k block m → list < k → is_among block (chain_in p pages list) ≡ true → is_passed (Some m) ≡ true
  is_some_chain block list Nowhere so low within = absurd (both_ways (is_among block (chain_in p pages list)) (so list low) within)
  is_some_chain block list (Once l) so low within = refl
  is_some_chain block list (Short l) so low within = refl
  is_some_chain block list Shared so low within = refl

  -- a mark of a block in two chains
  is_two_chains : (block : ℕ) (m : Mark) → IsSo p pages k block m → IsShared p pages k block → is_shared (Some m) ≡ true
  is_two_chains block Nowhere so two = absurd (both_ways (is_among block (chain_in p pages two.list)) (so two.list two.low) two.within)
  is_two_chains block (Once l) so two =
      absurd (two.differ (so.only two.list two.low two.within ∙ sym (so.only two.other two.other_low two.other_within)))
  is_two_chains block (Short l) so two =
      absurd (two.differ (so.only two.list two.low two.within ∙ sym (so.only two.other two.other_low two.other_within)))
  is_two_chains block Shared so two = refl

  chain_by : (block : ℕ) (o : Option Mark) → ((m : Mark) → o ≡ Some m → IsSo p pages k block m) → is_passed o ≡ true
      → (list : ℕ) × (list < k) × (is_among block (chain_in p pages list) ≡ true)
  chain_by block None so is = absurd cc
  chain_by block (Some Nowhere) so is = absurd cc
  chain_by block (Some (Once l)) so is = let s = so (Once l) refl in (l, s.low, s.within)
  chain_by block (Some (Short l)) so is = let s = so (Short l) refl in (l, s.low, s.within)
  chain_by block (Some Shared) so is = let s = so Shared refl in (s.list, s.low, s.within)

  chains_by : (block : ℕ) (o : Option Mark) → ((m : Mark) → o ≡ Some m → IsSo p pages k block m) → is_shared o ≡ true → IsShared p pages k block
  chains_by block None so is = absurd cc
  chains_by block (Some Nowhere) so is = absurd cc
  chains_by block (Some (Once l)) so is = absurd cc
  chains_by block (Some (Short l)) so is = absurd cc
  chains_by block (Some Shared) so is = so Shared refl

  pub closed_marks : AreClosed pages marks
  closed_marks = record {
    passed = λ block next is to has.
        let c = chain_by block (slice_get marks block) (are.so block) is in
        let m = mark_of next has in
        ap is_passed m.1 ∙ is_some_chain next c.0 m.0 m.2 c.1 (goes_on block next c.0 c.2 to has);
    shared = λ block next is to has.
        let s = chains_by block (slice_get marks block) (are.so block) is in
        let m = mark_of next has in
        ap is_shared m.1 ∙ is_two_chains next m.0 m.2 (record {
          list = s.list;
          low = s.low;
          within = goes_on block next s.list s.within to has;
          other = s.other;
          other_low = s.other_low;
          other_within = goes_on block next s.other s.other_within to has;
          differ = s.differ;
        });
    there = λ block is.
        let s = chains_by block (slice_get marks block) (are.so block) is in among_chain pages (centre_in p pages s.list) block s.within;
  }

-- ---- chains that are apart

some_at : (pages : List Content) (tuples : List CentreTuple) (i : ℕ) (t : CentreTuple) → slice_get tuples i ≡ Some t → (block : ℕ)
    → is_among block (chain_from pages t.first) ≡ true → is_in_some block (chains_of pages tuples) ≡ true
some_at pages [] i t is block within = absurd cc
some_at pages (u ∷ tuples) zero t is block within =
    or_left (is_among block (chain_from pages u.first)) (is_in_some block (chains_of pages tuples))
    (ap (λ (v : CentreTuple). is_among block (chain_from pages v.first)) (same_Some u t is) ∙ within)
some_at pages (u ∷ tuples) (suc i) t is block within =
    or_right (is_among block (chain_from pages u.first)) (is_in_some block (chains_of pages tuples)) (some_at pages tuples i t is block within)

-- no block stands in two of them
apart_at : (pages : List Content) (tuples : List CentreTuple) (i j : ℕ) (a b : CentreTuple) → AreChainsApart (chains_of pages tuples)
    → slice_get tuples i ≡ Some a → slice_get tuples j ≡ Some b → i < j → (block : ℕ) → is_among block (chain_from pages a.first) ≡ true
    → is_among block (chain_from pages b.first) ≡ true → ⊥
apart_at pages [] i j a b apart at_i at_j low block in_a in_b = absurd cc
apart_at pages (t ∷ tuples) i zero a b apart at_i at_j low block in_a in_b = absurd (omega (arith, low))
apart_at pages (t ∷ tuples) zero (suc j) a b apart at_i at_j low block in_a in_b =
    both_ways (is_in_some block (chains_of pages tuples))
    (apart.1 block (ap (λ (v : CentreTuple). is_among block (chain_from pages v.first)) (same_Some t a at_i) ∙ in_a))
    (some_at pages tuples j b at_j block in_b)
apart_at pages (t ∷ tuples) (suc i) (suc j) a b apart at_i at_j low block in_a in_b =
    apart_at pages tuples i j a b apart.2 at_i at_j (omega (arith, low)) block in_a in_b

-- ---- the lists one after the other

-- the tuple of a list whose chain is followed
pub record IsNextList (p : Params) (pages : List Content) (tuples : List CentreTuple) (list : ℕ) (t : CentreTuple) : Type 0 where
  pub first : AreFirstTuples p pages tuples
  pub low : list < length tuples
  pub is : slice_get tuples list ≡ Some t

module _ (p : Params) (pages : List Content) (tuples : List CentreTuple) (list : ℕ) (t : CentreTuple) (n : IsNextList p pages tuples list t) where
  tuple_is : centre_in p pages list ≡ Some t
  tuple_is = sym (n.first.there list n.low) ∙ n.is

  pub aim_of : (aim : Bool) → aim ≡ has_aim pages (Some t) → has_aim pages (centre_in p pages list) ≡ aim
  aim_of aim told = ap (has_aim pages) tuple_is ∙ sym told

  pub list_more : (before after : List Mark) → AreMarked p pages list before → AreChanged (marked_by pages list (chain_from pages t.first)) before after
      → AreMarked p pages (list + 1) after
  list_more before after were changed =
      one_list p pages list before after were
      (subst (λ (chain : List ℕ). AreChanged (marked_by pages list chain) before after) (sym (ap (chain_of pages) tuple_is)) changed)

  pub aims_more : ((k : ℕ) → k < list → has_aim pages (centre_in p pages k) ≡ true) → has_aim pages (centre_in p pages list) ≡ true
      → (k : ℕ) → k < list + 1 → has_aim pages (centre_in p pages k) ≡ true
  aims_more before here k low = by_list p pages list (λ (j : ℕ). has_aim pages (centre_in p pages j) ≡ true) k low (λ h. before k h) here

  -- no chain came by the list's blocks, where the chains are apart
  pub new_here : AreChainsApart (chains_of pages tuples) → (marks : List Mark) → AreMarked p pages list marks → IsNew marks (chain_from pages t.first)
  new_here apart marks marked block within =
      let c = entries_there (slice_get pages block) (among_chain pages (Some t) block within) in
      let m = get_or marks block Nowhere in
      let is : slice_get marks block ≡ Some m = slice_get-get_or marks block Nowhere (omega (arith, slice_get_within pages block c.0 c.1, marked.long)) in
      is ∙ ap (λ (k : Mark). Some k) (nowhere m (marked.so block m is))
    where
      other : (l : ℕ) → l < list → is_among block (chain_in p pages l) ≡ true → ⊥
      other l low is =
          let u = get_or tuples l t in
          let at : slice_get tuples l ≡ Some u = slice_get-get_or tuples l t (omega (arith, low, n.low)) in
          let same : chain_in p pages l ≡ chain_from pages u.first = ap (chain_of pages) (sym (n.first.there l (omega (arith, low, n.low))) ∙ at) in
          apart_at pages tuples l list u t apart at n.is low block (sym (ap (is_among block) same) ∙ is) within

      nowhere : (m : Mark) → IsSo p pages list block m → m ≡ Nowhere
      nowhere Nowhere so = refl
      nowhere (Once l) so = absurd (other l so.low so.within)
      nowhere (Short l) so = absurd (other l so.low so.within)
      nowhere Shared so = absurd (other so.list so.low so.within)

  left_is : drop list tuples ≡ t ∷ drop (list + 1) tuples
  left_is =
      drop_more tuples list t n.low ∙ ap (λ (u : CentreTuple). u ∷ drop (list + 1) tuples) (get_or_from_slice_get tuples list t t n.is)

  pub chains_more : (chains more : List (List ℕ)) (chain : List ℕ) → chains ++ chains_of pages (drop list tuples) ≡ chains_of pages tuples
      → chain ≡ chain_from pages t.first → more ≡ chains ++ chain ∷ [] → more ++ chains_of pages (drop (list + 1) tuples) ≡ chains_of pages tuples
  chains_more chains more chain so_far is adds =
      ap (λ (cs : List (List ℕ)). cs ++ chains_of pages (drop (list + 1) tuples)) adds
      ∙ append_assoc chains (chain ∷ []) (chains_of pages (drop (list + 1) tuples))
      ∙ ap (λ (c : List ℕ). chains ++ c ∷ chains_of pages (drop (list + 1) tuples)) is
      ∙ sym (ap (λ (ts : List CentreTuple). chains ++ chains_of pages ts) left_is) ∙ so_far

-- all chains are there where no list is left
pub all_chains : (pages : List Content) (tuples : List CentreTuple) (chains : List (List ℕ)) (list : ℕ) → length tuples ≡ list
    → chains ++ chains_of pages (drop list tuples) ≡ chains_of pages tuples → chains ≡ chains_of pages tuples
all_chains pages tuples chains list all so_far =
    sym (append-nil chains) ∙ sym (ap (λ (ts : List CentreTuple). chains ++ chains_of pages ts) (drop_all list tuples (omega (arith, all)))) ∙ so_far
