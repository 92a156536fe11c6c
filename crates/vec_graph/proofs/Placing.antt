-- Where nodes stand, and where a new one may.
use Rattle.std.proofs.Common.{◌≡◌, ◌⊎◌, inl, inr, ℕ, ◌+◌, ◌<◌, ◌≤◌, max, Bool, true, false, cond, ◌&&◌, T, ◌==◌, List, [], ◌∷◌, find, Option, Some, None, refl, sym, ap, subst, ◌∙◌, arith, true≢false}
use Rattle.std.specs.Option.{option_or}
use Rattle.std.proofs.lemmas.Bool.{eq-eqb, eqb-true}
use Rattle.std.specs.declared.cmp.Ordering.{Ordering}
use Rattle.std.specs.declared.cmp.Ordering.TheVariants.{Less, Equal, Greater}
use Rattle.std.specs.Ordering.{is_lt, is_eq, ordering_reverse}
use Rattle.std.specs.Cmp.{IsTotalOrder, tied_itself}
use Rattle.std.specs.FinMap as fin
use Rattle.std.specs.FinMap.Entries.{is_sorted, below_all}
use Rattle.std.proofs.lemmas.Option.{same_Some, none-some}
use Rattle.vec_names.specs.declared.tid.Tid.{Tid}
use Rattle.vec_names.specs.Order.{tid_cmp, tid_cmp_total, tid_cmp_exact}
use Rattle.vec_names.specs.Places.{tid_of}
use Rattle.vec_names.proofs.PlaceLaws.{tid_of-numbers}
use Rattle.vec_history.specs.declared.event.Event.{Event}
use Rattle.vec_history.specs.declared.event.Event.TheVariants.{Put, Join, Link, Relist, Drop, Mark, Entry, Hint, IvfAdd, IvfGrow, IvfDrop, IvfHint, Gate, Ungate, Phase, VacuumEnd, Cancel, Settled, DiskFaulted}
use Rattle.vec_history.specs.declared.event.Act.{Act}
use Rattle.vec_graph.specs.declared.place.Place.{Place}
use Rattle.vec_graph.specs.declared.node.Node.{Node}
use Rattle.vec_graph.specs.declared.graph.Graph.{Graph}
use Rattle.vec_graph.specs.Graph.{node_at}
use Rattle.vec_graph.specs.Places.{one_if, last_off, greatest_off, next_off, fresh_place, fresh_at, is_reusable, reused, together_on, apart_on, fresh_on, fits_one_page, place_on, new_place, IsOnBlocks, IsFree}
use Rattle.vec_graph.specs.Effect.{effect, after, changed, changed_from, joined, linked, relisted, dropped, marked}
use Rattle.vec_graph.specs.Rules.{IsPlaced}

-- ---- tests

left : (a b : Bool) → a && b ≡ true → a ≡ true
left true b e = refl
left false b e = e

right : (a b : Bool) → a && b ≡ true → b ≡ true
right true b e = e
right false b e = absurd (true≢false (sym e))

first : (a b : Bool) → T (a && b) → T a
first true b p = tt
first false b p = p

second : (a b : Bool) → T (a && b) → T b
second true b p = p
second false b p = absurd p

is_less : (r : Ordering) → T (is_lt r) → r ≡ Less
is_less Less p = refl
is_less Equal p = absurd p
is_less Greater p = absurd p

then_some : {X : Type 0} (b : Bool) (o : Option X) (x : X) → cond b o None ≡ Some x → o ≡ Some x
then_some true o x e = e
then_some false o x e = absurd (none-some x e)

-- ---- entries in order

module _ {K X : Type 0} (R : K → K → Ordering) (total : IsTotalOrder R) where
  behind : (x : K) (es : List (K × X)) (test : K × X → Bool) (e : K × X) → T (below_all R x es) → find test es ≡ Some e → R x e.0 ≡ Less
  behind x [] test e h is = absurd (none-some e is)
  behind x (f ∷ fs) test e h is =
      elim (test f) as (λ b. cond b (Some f) (find test fs) ≡ Some e → R x e.0 ≡ Less) [
        | true ↦ λ found. ap (λ (g : K × X). R x g.0) (sym (same_Some f e found)) ∙ is_less _ (first _ _ h)
        | false ↦ λ found. behind x fs test e (second _ _ h) found
      ] is

  -- what a test finds stands in the map
  pub stands_there : (es : List (K × X)) (test : K × X → Bool) (e : K × X) → T (is_sorted R es) → find test es ≡ Some e → fin.find R e.0 es ≡ Some e.1
  stands_there [] test e h is = absurd (none-some e is)
  stands_there (f ∷ fs) test e h is =
      elim (test f) as (λ b. cond b (Some f) (find test fs) ≡ Some e → fin.find R e.0 (f ∷ fs) ≡ Some e.1) [
        | true ↦ λ found. subst (λ (g : K × X). fin.find R g.0 (f ∷ fs) ≡ Some g.1) (same_Some f e found)
            (ap (λ r. cond (is_eq r) (Some f.1) (fin.find R f.0 fs)) (tied_itself total f.0))
        | false ↦ λ found.
            let less = behind f.0 fs test e (first _ _ h) found in
            ap (λ r. cond (is_eq r) (Some f.1) (fin.find R e.0 fs)) (total.antisymm e.0 f.0 ∙ ap ordering_reverse less)
            ∙ stands_there fs test e (second _ _ h) found
      ] is

  -- and passes the test
  pub passes_there : (es : List (K × X)) (test : K × X → Bool) (e : K × X) → find test es ≡ Some e → test e ≡ true
  passes_there [] test e is = absurd (none-some e is)
  passes_there (f ∷ fs) test e is =
      elim (test f) as (λ b. test f ≡ b → cond b (Some f) (find test fs) ≡ Some e → test e ≡ true) [
        | true ↦ λ t found. ap test (sym (same_Some f e found)) ∙ t
        | false ↦ λ t found. passes_there fs test e found
      ] refl is

-- ---- offsets

own_off : (e : Tid × Node) → e.0.off ≤ last_off e.0.block e
own_off e = subst (λ b. e.0.off ≤ max (one_if b e.0.off) (one_if (e.1.list_at.block == e.0.block) e.1.list_at.off)) (sym (eq-eqb e.0.block e.0.block refl)) (omega arith)

-- the offset of a node is not behind the last one of its block
within : (q : Tid) (n : Node) (es : List (Tid × Node)) → fin.find tid_cmp q es ≡ Some n → q.off ≤ greatest_off q.block es
within q n [] is = absurd (none-some n is)
within q n (e ∷ es) is =
    elim (tid_cmp q e.0) as (λ r. tid_cmp q e.0 ≡ r → cond (is_eq r) (Some e.1) (fin.find tid_cmp q es) ≡ Some n → q.off ≤ greatest_off q.block (e ∷ es)) [
      | Less ↦ λ _ found. let rest = within q n es found in omega arith
      | Equal ↦ λ equal found.
          subst (λ (t : Tid). t.off ≤ greatest_off t.block (e ∷ es)) (sym (tid_cmp_exact q e.0 equal)) (let own = own_off e in omega arith)
      | Greater ↦ λ _ found. let rest = within q n es found in omega arith
    ] refl is

-- ---- fresh places

at_first : (o p : Option Tid) (s : Place) → fresh_place o p ≡ Some s → o ≡ Some s.at
at_first (Some at) (Some list_at) s e = ap (λ (t : Place). Some t.at) (same_Some _ s e)
at_first (Some at) None s e = absurd (none-some s e)
at_first None p s e = absurd (none-some s e)

fresh_numbers : (block off list_block list_off : ℕ) (s : Place) → fresh_at block off list_block list_off ≡ Some s → (s.at.block ≡ block) × (s.at.off ≡ off)
fresh_numbers block off list_block list_off s e = tid_of-numbers block off s.at (at_first (tid_of block off) (tid_of list_block list_off) s e)

fresh_on_numbers : (g : Graph) (b level : ℕ) (s : Place) → fresh_on g b level ≡ Some s → (s.at.block ≡ b) × (s.at.off ≡ next_off g b)
fresh_on_numbers g b level s e =
    elim (fits_one_page g level) as (λ t. cond t (together_on g b level) (apart_on g b level) ≡ Some s → (s.at.block ≡ b) × (s.at.off ≡ next_off g b)) [
      | true ↦ λ is. fresh_numbers b (next_off g b) b (next_off g b + 1) s (then_some _ _ s is)
      | false ↦ λ is. fresh_numbers b (next_off g b) (b + 1) (next_off g (b + 1)) s (then_some _ _ s is)
    ] e

none_fresh : (g : Graph) (b level : ℕ) (s : Place) → fresh_on g b level ≡ Some s → (n : Node) → node_at g s.at ≡ Some n → ⊥
none_fresh g b level s e n stands =
    let numbers = fresh_on_numbers g b level s e in
    let low = within s.at n (fin.entries g.nodes) (sym (fin.get-entries g.nodes s.at) ∙ stands) in
    let low_there = subst (λ (k : ℕ). s.at.off ≤ greatest_off k (fin.entries g.nodes)) numbers.0 low in
    absurd (omega (arith, low_there, numbers.1))

fresh_free : (g : Graph) (b level : ℕ) (s : Place) → fresh_on g b level ≡ Some s → IsFree g s.at level
fresh_free g b level s e = λ n stands. absurd (none_fresh g b level s e n stands)

-- ---- places used anew

reused_free : (g : Graph) (b level : ℕ) (e : Tid × Node) → find (is_reusable b level) (fin.entries g.nodes) ≡ Some e → IsFree g e.0 level
reused_free g b level e is = λ n stands.
    let there = fin.get-entries g.nodes e.0 ∙ stands_there tid_cmp tid_cmp_total (fin.entries g.nodes) (is_reusable b level) e (fin.entries_sorted g.nodes) is in
    let same : e.1 ≡ n = same_Some _ _ (sym there ∙ stands) in
    let test = right _ _ (passes_there tid_cmp tid_cmp_total (fin.entries g.nodes) (is_reusable b level) e is) in
    (ap (λ (m : Node). m.deleted) (sym same) ∙ left _ _ test, ap (λ (m : Node). m.level) (sym same) ∙ eqb-true _ _ (right _ _ test))

on_block_free : (g : Graph) (b level : ℕ) (s : Place) (o : Option (Tid × Node)) → find (is_reusable b level) (fin.entries g.nodes) ≡ o
    → option_or (reused o) (fresh_on g b level) ≡ Some s → IsFree g s.at level
on_block_free g b level s None found is = fresh_free g b level s is
on_block_free g b level s (Some e) found is =
    subst (λ (t : Tid). IsFree g t level) (ap (λ (t : Place). t.at) (same_Some _ s is)) (reused_free g b level e found)

none_new : (g : Graph) (level : ℕ) (s : Place) → IsOnBlocks g → new_place g level ≡ Some s → (n : Node) → node_at g s.at ≡ Some n → ⊥
none_new g level s on e n stands =
    let here : s.at.block ≡ g.blocks =
    elim (fits_one_page g level) as (λ t. cond t (fresh_at g.blocks 1 g.blocks 2) (fresh_at g.blocks 1 (g.blocks + 1) 1) ≡ Some s → s.at.block ≡ g.blocks) [
      | true ↦ λ is. (fresh_numbers g.blocks 1 g.blocks 2 s is).0
      | false ↦ λ is. (fresh_numbers g.blocks 1 (g.blocks + 1) 1 s is).0
    ] e in
    let low = (on s.at n stands).0 in
    absurd (omega (arith, here, low))

new_free : (g : Graph) (level : ℕ) (s : Place) → IsOnBlocks g → new_place g level ≡ Some s → IsFree g s.at level
new_free g level s on e = λ n stands. absurd (none_new g level s on e n stands)

pub free_place : (g : Graph) (at : Tid) (level : ℕ) (s : Place) → IsOnBlocks g → IsPlaced g at level s → IsFree g s.at level
free_place g at level s on (inl is) = on_block_free g at.block level s _ refl (then_some _ _ s is)
free_place g at level s on (inr is) = new_free g level s on is.0

-- a place that is used anew keeps the place of its list

reused_list : (g : Graph) (b level : ℕ) (e : Tid × Node) → find (is_reusable b level) (fin.entries g.nodes) ≡ Some e → (n : Node) → node_at g e.0 ≡ Some n
    → n.list_at ≡ e.1.list_at
reused_list g b level e is n stands =
    let there = fin.get-entries g.nodes e.0 ∙ stands_there tid_cmp tid_cmp_total (fin.entries g.nodes) (is_reusable b level) e (fin.entries_sorted g.nodes) is in
    ap (λ (m : Node). m.list_at) (same_Some _ _ (sym stands ∙ there))

on_block_list : (g : Graph) (b level : ℕ) (s : Place) (o : Option (Tid × Node)) → find (is_reusable b level) (fin.entries g.nodes) ≡ o
    → option_or (reused o) (fresh_on g b level) ≡ Some s → (n : Node) → node_at g s.at ≡ Some n → n.list_at ≡ s.list_at
on_block_list g b level s None found is n stands = absurd (none_fresh g b level s is n stands)
on_block_list g b level s (Some e) found is n stands =
    let spot = same_Some _ s is in
    reused_list g b level e found n (subst (λ (t : Tid). node_at g t ≡ Some n) (sym (ap (λ (t : Place). t.at) spot)) stands) ∙ ap (λ (t : Place). t.list_at) spot

pub same_list : (g : Graph) (at : Tid) (level : ℕ) (s : Place) → IsOnBlocks g → IsPlaced g at level s → (n : Node) → node_at g s.at ≡ Some n → n.list_at ≡ s.list_at
same_list g at level s on (inl is) n stands = on_block_list g at.block level s _ refl (then_some _ _ s is) n stands
same_list g at level s on (inr is) n stands = absurd (none_new g level s on is.0 n stands)

-- a place on a block is on that block, and one that is used anew is told with its version

on_block_number : (g : Graph) (b level : ℕ) (s : Place) (o : Option (Tid × Node)) → find (is_reusable b level) (fin.entries g.nodes) ≡ o
    → option_or (reused o) (fresh_on g b level) ≡ Some s → s.at.block ≡ b
on_block_number g b level s None found is = (fresh_on_numbers g b level s is).0
on_block_number g b level s (Some e) found is =
    let test = passes_there tid_cmp tid_cmp_total (fin.entries g.nodes) (is_reusable b level) e found in
    sym (ap (λ (t : Place). t.at.block) (same_Some _ s is)) ∙ eqb-true _ _ (left _ _ test)

on_block_version : (g : Graph) (b level : ℕ) (s : Place) (o : Option (Tid × Node)) → find (is_reusable b level) (fin.entries g.nodes) ≡ o
    → option_or (reused o) (fresh_on g b level) ≡ Some s → (n : Node) → node_at g s.at ≡ Some n → n.version ≡ s.version
on_block_version g b level s None found is n stands = absurd (none_fresh g b level s is n stands)
on_block_version g b level s (Some e) found is n stands =
    let spot = same_Some _ s is in
    let there = fin.get-entries g.nodes e.0 ∙ stands_there tid_cmp tid_cmp_total (fin.entries g.nodes) (is_reusable b level) e (fin.entries_sorted g.nodes) found in
    let here : node_at g e.0 ≡ Some n = subst (λ (t : Tid). node_at g t ≡ Some n) (sym (ap (λ (t : Place). t.at) spot)) stands in
    ap (λ (m : Node). m.version) (same_Some _ _ (sym here ∙ there)) ∙ ap (λ (t : Place). t.version) spot

pub placed_block : (g : Graph) (b level : ℕ) (s : Place) → place_on g b level ≡ Some s → s.at.block ≡ b
placed_block g b level s is = on_block_number g b level s _ refl (then_some _ _ s is)

pub placed_anew : (g : Graph) (b level : ℕ) (s : Place) → place_on g b level ≡ Some s → (n : Node) → node_at g s.at ≡ Some n
    → (n.list_at ≡ s.list_at) × (n.version ≡ s.version)
placed_anew g b level s is n stands =
    (on_block_list g b level s _ refl (then_some _ _ s is) n stands, on_block_version g b level s _ refl (then_some _ _ s is) n stands)

-- ---- what stands on blocks stays there

pub after_insert : (g : Graph) (at : Tid) (n : Node) (q : Tid) (p : Node) → fin.get (fin.insert g.nodes at n) q ≡ Some p
    → ((q ≡ at) × (p ≡ n)) ⊎ (node_at g q ≡ Some p)
after_insert g at n q p is =
    elim (tid_cmp q at) as (λ r. tid_cmp q at ≡ r → cond (is_eq r) (Some n) (node_at g q) ≡ Some p → ((q ≡ at) × (p ≡ n)) ⊎ (node_at g q ≡ Some p)) [
      | Less ↦ λ _ found. inr found
      | Equal ↦ λ equal found. inl (tid_cmp_exact q at equal, sym (same_Some n p found))
      | Greater ↦ λ _ found. inr found
    ] refl (sym (fin.get-insert tid_cmp_total g.nodes at n q) ∙ is)

on_insert : (g : Graph) (at : Tid) (n : Node) (blocks : ℕ) → IsOnBlocks g → g.blocks ≤ blocks → at.block < blocks → n.list_at.block < blocks
    → (q : Tid) (p : Node) → fin.get (fin.insert g.nodes at n) q ≡ Some p → (q.block < blocks) × (p.list_at.block < blocks)
on_insert g at n blocks on more low list_low q p is =
    elim (after_insert g at n q p is) as (λ _. (q.block < blocks) × (p.list_at.block < blocks)) [
      | inl same ↦ (subst (λ (t : Tid). t.block < blocks) (sym same.0) low, subst (λ (m : Node). m.list_at.block < blocks) (sym same.1) list_low)
      | inr stood ↦ let was = on q p stood in (omega (arith, was.0, more), omega (arith, was.1, more))
    ]

on_changed : (g : Graph) (at : Tid) (change : Node → Node) → ((n : Node) → (change n).list_at ≡ n.list_at) → IsOnBlocks g → IsOnBlocks (changed g at change)
on_changed g at change keeps on =
    elim (node_at g at) as (λ o. node_at g at ≡ o → IsOnBlocks (changed_from g at change o)) [
      | None ↦ λ _. on
      | Some n ↦ λ stands.
          let was = on at n stands in
          on_insert g at (change n) g.blocks on (omega arith) was.0 (subst (λ (t : Tid). t.block < g.blocks) (sym (keeps n)) was.1)
    ] refl

pub on_effect : (e : Event) (g : Graph) → IsOnBlocks g → IsOnBlocks (effect 255 e g)
on_effect (Put at list_at version level id bits lists) g on = on_insert g at _ _ on (omega arith) (omega arith) (omega arith)
on_effect (Join at version id) g on = on_changed g at (joined id) (λ n. refl) on
on_effect (Link at list_at version slot to) g on = on_changed g at (linked slot to) (λ n. refl) on
on_effect (Relist at list_at version lists) g on = on_changed g at (relisted lists) (λ n. refl) on
on_effect (Drop at version gone) g on = on_changed g at (dropped gone) (λ n. refl) on
on_effect (Mark at list_at version) g on = on_changed g at (marked 255) (λ n. refl) on
on_effect (Entry to level) g on = on
on_effect (Hint block) g on = on
on_effect (IvfAdd block id bits) g on = on
on_effect (IvfGrow list last block id bits) g on = on
on_effect (IvfDrop block gone) g on = on
on_effect (IvfHint list block) g on = on
on_effect (Gate gate hold) g on = on
on_effect (Ungate gate) g on = on
on_effect (Phase stage) g on = on
on_effect VacuumEnd g on = on
on_effect (Cancel stage) g on = on
on_effect (Settled upto) g on = on
on_effect (DiskFaulted count) g on = on

pub on_blocks_after : (g : Graph) (acts : List Act) → IsOnBlocks g → IsOnBlocks (after g acts)
on_blocks_after g [] on = on
on_blocks_after g (a ∷ acts) on = on_blocks_after (effect 255 a.event g) acts (on_effect a.event g on)

pub none_on_empty : (nodes : fin.FinMap tid_cmp Node) → nodes ≡ fin.empty → (at : Tid) (n : Node) → fin.get nodes at ≡ Some n → ⊥
none_on_empty nodes empty at n is = none-some n (sym (ap (λ (m : fin.FinMap tid_cmp Node). fin.get m at) empty ∙ fin.get-empty tid_cmp at) ∙ is)
