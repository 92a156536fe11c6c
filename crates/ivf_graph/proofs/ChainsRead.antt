-- Reading along chains, in one state.
use Rattle.std.proofs.Common.{◌≡◌, ℕ, suc, replicate, ◌==◌, Bool, false, cond, List, [], ◌∷◌, ◌++◌, map, Option, Some, None, refl, sym, ap, subst, ◌∙◌, append_assoc, eqb, eq-eqb}
use Rattle.std.specs.List.{flat_map, filter_map, cons_option, find, AllByRecursion, IsDistinct}
use Rattle.std.specs.Option.{option_map, option_and_then}
use Rattle.std.proofs.lemmas.Option.{same_Some}
use Rattle.std.proofs.lemmas.List.{map-append}
use Rattle.std.proofs.lemmas.Map.Keys.{IsDistinct-head, IsDistinct-tail}
use Rattle.ivf_graph.specs.declared.list.IvfList.{IvfList}
use Rattle.ivf_graph.specs.declared.graph.IvfGraph.{IvfGraph}
use Rattle.ivf_graph.specs.Graph.{Part, parts, rows_on, AreBlocksApart}
use Rattle.ivf_graph.specs.Answer.{Found, found_on}
use Rattle.ivf_graph.specs.Looks.{first_block, links, all_links, next_on}
use Rattle.ivf_graph.specs.Reads.{Walks}
use Rattle.ivf_graph.specs.Reads.Walks.{done, begins, reads}

-- ---- what reads tell where each block stands once

-- of each block of a chain a read tells its rows and the block behind it
abbrev pub Told : IvfGraph → List Part → Type 0
Told g [] = Unit {0}
Told g (p ∷ back) = (rows_on g p.0 ≡ Some p.1) × (next_on g p.0 ≡ first_block back) × Told g back

abbrev pub AreTold : IvfGraph → List IvfList → Type 0
AreTold g ls = AllByRecursion (λ l. Told g l.chain) ls

module _ {X : Type 0} (key : X → ℕ) where
  away : (k : ℕ) (front : List X) (x : X) (back : List X) → AllByRecursion (λ j. (k == j) ≡ false) (map key (front ++ x ∷ back)) → (k == key x) ≡ false
  away k [] x back all = all.0
  away k (y ∷ front) x back all = away k front x back all.1

  -- an element whose key no other has is found by it
  pub found_in : (front : List X) (x : X) (back : List X) → IsDistinct eqb (map key (front ++ x ∷ back)) → find (λ y. key y == key x) (front ++ x ∷ back) ≡ Some x
  found_in [] x back apart = ap (λ b. cond b (Some x) (find (λ y. key y == key x) back)) (eq-eqb (key x) (key x) refl)
  found_in (y ∷ front) x back apart =
      ap (λ b. cond b (Some y) (find (λ z. key z == key x) (front ++ x ∷ back))) (away (key y) front x back (IsDistinct-head eqb (key y) (map key (front ++ x ∷ back)) apart))
      ∙ found_in front x back (IsDistinct-tail eqb (key y) (map key (front ++ x ∷ back)) apart)

linked_keys : (chain : List Part) → map (λ e. e.0) (links chain) ≡ map (λ p. p.0) chain
linked_keys [] = refl
linked_keys (p ∷ chain) = ap (λ l. p.0 ∷ l) (linked_keys chain)

all_linked_keys : (lists : List IvfList) → map (λ e. e.0) (flat_map (λ l. links l.chain) lists) ≡ map (λ p. p.0) (flat_map (λ l. l.chain) lists)
all_linked_keys [] = refl
all_linked_keys (l ∷ lists) =
    map-append (λ e. e.0) (links l.chain) (flat_map (λ x. links x.chain) lists)
    ∙ ap (λ ks. ks ++ map (λ e. e.0) (flat_map (λ x. links x.chain) lists)) (linked_keys l.chain)
    ∙ ap (λ ks. map (λ p. p.0) l.chain ++ ks) (all_linked_keys lists)
    ∙ sym (map-append (λ p. p.0) l.chain (flat_map (λ x. x.chain) lists))

module _ (g : IvfGraph) (apart : AreBlocksApart g) where
  apart_links : IsDistinct eqb (map (λ e. e.0) (all_links g))
  apart_links = subst (IsDistinct eqb) (sym (all_linked_keys g.lists)) apart

  told_chain : (before : List Part) (links_before : List (ℕ × Option ℕ)) (chain behind : List Part) (links_behind : List (ℕ × Option ℕ))
      → parts g ≡ before ++ (chain ++ behind) → all_links g ≡ links_before ++ (links chain ++ links_behind) → Told g chain
  told_chain before links_before [] behind links_behind e f = tt
  told_chain before links_before (p ∷ chain) behind links_behind e f =
      let at : find (λ q. q.0 == p.0) (parts g) ≡ Some p =
      ap (find (λ q. q.0 == p.0)) e
      ∙ found_in (λ (q : Part). q.0) before p (chain ++ behind) (subst (λ ps. IsDistinct eqb (map (λ q. q.0) ps)) e apart) in
      let link : ℕ × Option ℕ = (p.0, first_block chain) in
      let link_at : find (λ q. q.0 == p.0) (all_links g) ≡ Some link =
      ap (find (λ q. q.0 == p.0)) f
      ∙ found_in (λ (q : ℕ × Option ℕ). q.0) links_before link (links chain ++ links_behind) (subst (λ ls. IsDistinct eqb (map (λ q. q.0) ls)) f apart_links) in (
        ap (option_map (λ q. q.1)) at,
        ap (option_and_then (λ q. q.1)) link_at,
        told_chain (before ++ p ∷ []) (links_before ++ link ∷ []) chain behind links_behind
            (e ∙ sym (append_assoc before (p ∷ []) (chain ++ behind)))
            (f ∙ sym (append_assoc links_before (link ∷ []) (links chain ++ links_behind))),
      )

  told_lists : (before : List Part) (links_before : List (ℕ × Option ℕ)) (lists : List IvfList)
      → parts g ≡ before ++ flat_map (λ l. l.chain) lists → all_links g ≡ links_before ++ flat_map (λ l. links l.chain) lists → AreTold g lists
  told_lists before links_before [] e f = tt
  told_lists before links_before (l ∷ lists) e f = (
    told_chain before links_before l.chain (flat_map (λ x. x.chain) lists) (flat_map (λ x. links x.chain) lists) e f,
    told_lists (before ++ l.chain) (links_before ++ links l.chain) lists
        (e ∙ sym (append_assoc before l.chain (flat_map (λ x. x.chain) lists)))
        (f ∙ sym (append_assoc links_before (links l.chain) (flat_map (λ x. links x.chain) lists))),
  )

  pub all_told : AreTold g g.lists
  all_told = told_lists [] [] g.lists refl refl

-- ---- walks

abbrev pub rows_along : List Bool → IvfList → List Found
rows_along query l = flat_map (found_on query) l.chain

no_first : (back : List Part) → None ≡ first_block back → back ≡ []
no_first [] e = refl
no_first (p ∷ back) e = absurd (cc)

nothing_begins : (query : List Bool) (ls : List IvfList) → [] ≡ filter_map (λ l. first_block l.chain) ls → flat_map (rows_along query) ls ≡ []
nothing_begins query [] e = refl
nothing_begins query (l ∷ ls) e = by_chain l.chain e (nothing_begins query ls)
  where
    by_chain : (chain : List Part) → [] ≡ cons_option (first_block chain) (filter_map (λ x. first_block x.chain) ls)
        → ([] ≡ filter_map (λ x. first_block x.chain) ls → flat_map (rows_along query) ls ≡ []) → flat_map (found_on query) chain ++ flat_map (rows_along query) ls ≡ []
    by_chain [] e further = further e
    by_chain (p ∷ chain) e further = absurd (cc)

-- the first chain of these lists that has a block
record Begun (g : IvfGraph) (query : List Bool) (first : ℕ) (later : List ℕ) (all : List Found) : Type 0 where
  chain : List Part
  rest : List IvfList
  told : Told g chain
  rest_told : AreTold g rest
  at_first : Some first ≡ first_block chain
  others : later ≡ filter_map (λ l. first_block l.chain) rest
  found : all ≡ flat_map (found_on query) chain ++ flat_map (rows_along query) rest

begun : (g : IvfGraph) (query : List Bool) (first : ℕ) (later : List ℕ) (ls : List IvfList) → AreTold g ls → first ∷ later ≡ filter_map (λ l. first_block l.chain) ls
    → Begun g query first later (flat_map (rows_along query) ls)
begun g query first later [] told e = absurd (cc)
begun g query first later (l ∷ ls) told e = by_chain l.chain told.0 e (begun g query first later ls told.1)
  where
    by_chain : (chain : List Part) → Told g chain → first ∷ later ≡ cons_option (first_block chain) (filter_map (λ x. first_block x.chain) ls)
        → (first ∷ later ≡ filter_map (λ x. first_block x.chain) ls → Begun g query first later (flat_map (rows_along query) ls))
        → Begun g query first later (flat_map (found_on query) chain ++ flat_map (rows_along query) ls)
    by_chain [] t e further = further e
    by_chain (p ∷ chain) t e further =
        let head : first ≡ p.0 = cc in
        let tail : later ≡ filter_map (λ x. first_block x.chain) ls = cc in
        record { chain = p ∷ chain; rest = ls; told = t; rest_told = told.1; at_first = ap Some head; others = tail; found = refl }

pub walked : (g : IvfGraph) (query : List Bool) {states : List IvfGraph} {at : Option ℕ} {later : List ℕ} {fs : List Found} → Walks query states at later fs
    → AllByRecursion (λ s. s ≡ g) states → (back : List Part) → Told g back → at ≡ first_block back
    → (ls : List IvfList) → AreTold g ls → later ≡ filter_map (λ l. first_block l.chain) ls
    → fs ≡ flat_map (found_on query) back ++ flat_map (rows_along query) ls
walked g query done same back told here ls all first =
    sym (ap (λ b. flat_map (found_on query) b ++ flat_map (rows_along query) ls) (no_first back here) ∙ nothing_begins query ls first)
walked g query (begins states first later fs w) same back told here ls all e =
    let b = begun g query first later ls all e in
    walked g query w same b.chain b.told b.at_first b.rest b.rest_told b.others ∙ sym b.found
    ∙ sym (ap (λ k. flat_map (found_on query) k ++ flat_map (rows_along query) ls) (no_first back here))
walked g query (reads s states block rows later fs on w) same [] told here ls all e = absurd (cc)
walked g query (reads s states block rows later fs on w) same (p ∷ back) told here ls all e =
    let block_is : block ≡ p.0 = same_Some block p.0 here in
    let rows_is : rows ≡ p.1 =
    same_Some rows p.1 (sym on ∙ ap (λ h. rows_on h block) same.0 ∙ ap (rows_on g) block_is ∙ told.0) in
    let part_is : ◌≡◌ {A = Part} (block, rows) p = λ i. (block_is i, rows_is i) in
    let next_is : next_on s block ≡ first_block back = ap (λ h. next_on h block) same.0 ∙ ap (next_on g) block_is ∙ told.1 in
    ap (λ q. found_on query q ++ fs) part_is
    ∙ ap (λ l. found_on query p ++ l) (walked g query w same.1 back told.2 next_is ls all e)
    ∙ sym (append_assoc (found_on query p) (flat_map (found_on query) back) (flat_map (rows_along query) ls))

-- ---- some walk

-- from a block on, before what comes behind the chain
walk_back : (g : IvfGraph) (query : List Bool) (back : List Part) → Told g back → (later : List ℕ) (fs : List Found) (n : ℕ) → Walks query (replicate n g) None later fs
    → (m : ℕ) × Walks query (replicate m g) (first_block back) later (flat_map (found_on query) back ++ fs)
walk_back g query [] told later fs n w = (n, w)
walk_back g query (p ∷ back) told later fs n w =
    let rest = walk_back g query back told.2 later fs n w in
    let next : Walks query (replicate rest.0 g) (next_on g p.0) later (flat_map (found_on query) back ++ fs) =
    subst (λ at. Walks query (replicate rest.0 g) at later (flat_map (found_on query) back ++ fs)) (sym told.1) rest.1 in (
      suc rest.0,
      subst (Walks query (g ∷ replicate rest.0 g) (Some p.0) later) (sym (append_assoc (found_on query p) (flat_map (found_on query) back) fs))
          (reads g (replicate rest.0 g) p.0 p.1 later (flat_map (found_on query) back ++ fs) told.0 next),
    )

pub some_walk : (g : IvfGraph) (query : List Bool) (ls : List IvfList) → AreTold g ls
    → (n : ℕ) × Walks query (replicate n g) None (filter_map (λ l. first_block l.chain) ls) (flat_map (rows_along query) ls)
some_walk g query [] told = (0, done)
some_walk g query (l ∷ ls) told = by_chain l.chain told.0 (some_walk g query ls told.1)
  where
    by_chain : (chain : List Part) → Told g chain → ((n : ℕ) × Walks query (replicate n g) None (filter_map (λ x. first_block x.chain) ls) (flat_map (rows_along query) ls))
        → (n : ℕ) × Walks query (replicate n g) None (cons_option (first_block chain) (filter_map (λ x. first_block x.chain) ls)) (flat_map (found_on query) chain ++ flat_map (rows_along query) ls)
    by_chain [] t further = further
    by_chain (p ∷ chain) t further =
        let from = walk_back g query (p ∷ chain) t (filter_map (λ x. first_block x.chain) ls) (flat_map (rows_along query) ls) further.0 further.1 in
        (from.0, begins (replicate from.0 g) p.0 (filter_map (λ x. first_block x.chain) ls) (flat_map (found_on query) (p ∷ chain) ++ flat_map (rows_along query) ls) from.1)
