-- The counts of the nodes block after block are those of the graph.
use Rattle.std.proofs.Common.{◌≡◌, ℕ, ◌+◌, ◌<◌, ◌≤◌, ◌==◌, nat_lt, Bool, true, false, cond, T, List, [], ◌∷◌, length, map, filter, sum_by, Some, refl, sym, ap, subst, ◌∙◌, arith}
use Rattle.std.specs.List.{AllByRecursion}
use Rattle.std.specs.Ordering.{is_eq, eq_by_cmp}
use Rattle.std.specs.Cmp.{tied_itself}
use Rattle.std.specs.FinMap as fin
use Rattle.std.specs.FinMap.Entries.{find, is_sorted, below_all}
use Rattle.std.proofs.lemmas.Bool.{lt-ltb}
use Rattle.std.proofs.lemmas.Option.{none-some}
use Rattle.std.proofs.lemmas.List.Sums.{sum_by-cons}
use Rattle.vec_names.specs.declared.tid.Tid.{Tid}
use Rattle.vec_names.specs.declared.heap_id.HeapId.{HeapId}
use Rattle.vec_names.specs.Order.{tid_cmp, tid_cmp_total, tid_cmp_exact}
use Rattle.vec_graph.specs.declared.node.Node.{Node}
use Rattle.vec_graph.specs.declared.graph.Graph.{Graph}
use Rattle.vec_graph.specs.Shaped.{IsShaped}
use Rattle.vec_graph.proofs.Copies.{equal, left, right, missing}
use Rattle.graph_search.specs.Reads as read
use Rattle.graph_search.specs.Reads.{nodes_on, seen_of}
use Rattle.script_words.specs.declared.reply.Counts.{Counts}
use Rattle.vec_steps.specs.declared.seen.Seen.{Seen}
use Rattle.vec_steps.specs.Telling.{seen_told}
use Rattle.script_jobs.specs.Counting.{counts_of, deleted_in, doomed_in, live_in, rows_in, with_all, with_seen}

-- ---- sums over what stands on blocks

picked : {X : Type 0} (p : X → Bool) (f : X → ℕ) (x : X) (xs : List X) → sum_by f (filter p (x ∷ xs)) ≡ cond (p x) (f x) 0 + sum_by f (filter p xs)
picked p f x xs =
    elim (p x) as (λ b. sum_by f (cond b (x ∷ filter p xs) (filter p xs)) ≡ cond b (f x) 0 + sum_by f (filter p xs)) [
      | true ↦ sum_by-cons f x (filter p xs)
      | false ↦ omega arith
    ]

lt_step : (b n v : ℕ) → cond (nat_lt b (n + 1)) v 0 ≡ cond (nat_lt b n) v 0 + cond (b == n) v 0
lt_step b n v = grind arith

lt_all : (b n v : ℕ) → b < n → cond (nat_lt b n) v 0 ≡ v
lt_all b n v less = ap (λ x. cond x v 0) (lt-ltb b n less)

lt_none : (b v : ℕ) → 1 ≤ b → cond (nat_lt b 1) v 0 ≡ 0
lt_none b v from = grind arith

length_sum : {X : Type 0} (xs : List X) → length xs ≡ sum_by (λ x. 1) xs
length_sum [] = refl
length_sum (x ∷ xs) = let e = length_sum xs in let s = sum_by-cons (λ (y : _). 1) x xs in omega (arith, e, s)

sum_map : {X Y : Type 0} (f : Y → ℕ) (h : X → Y) (xs : List X) → sum_by f (map h xs) ≡ sum_by (λ x. f (h x)) xs
sum_map f h [] = refl
sum_map f h (x ∷ xs) =
    let s = sum_by-cons f (h x) (map h xs) in
    let t = sum_by-cons (λ y. f (h y)) x xs in
    let e = sum_map f h xs in omega (arith, s, t, e)

module _ {X : Type 0} (f : X → ℕ) (block : X → ℕ) where
  abbrev below : ℕ → List X → ℕ
  below n xs = sum_by f (filter (λ x. nat_lt (block x) n) xs)

  abbrev on : ℕ → List X → ℕ
  on n xs = sum_by f (filter (λ x. block x == n) xs)

  next_block : (n : ℕ) (xs : List X) → below (n + 1) xs ≡ below n xs + on n xs
  next_block n [] = refl
  next_block n (x ∷ xs) =
      let a = picked (λ y. nat_lt (block y) (n + 1)) f x xs in
      let b = picked (λ y. nat_lt (block y) n) f x xs in
      let c = picked (λ y. block y == n) f x xs in
      let e = next_block n xs in
      let t = lt_step (block x) n (f x) in
      omega (arith, a, b, c, e, t)

  all_blocks : (n : ℕ) (xs : List X) → AllByRecursion (λ x. (1 ≤ block x) × (block x < n)) xs → below n xs ≡ sum_by f xs
  all_blocks n [] all = refl
  all_blocks n (x ∷ xs) all =
      let a = picked (λ y. nat_lt (block y) n) f x xs in
      let e = all_blocks n xs all.1 in
      let t = lt_all (block x) n (f x) all.0.1 in
      let s = sum_by-cons f x xs in
      omega (arith, a, e, t, s)

  no_block : (n : ℕ) (xs : List X) → AllByRecursion (λ x. (1 ≤ block x) × (block x < n)) xs → below 1 xs ≡ 0
  no_block n [] all = refl
  no_block n (x ∷ xs) all =
      let a = picked (λ y. nat_lt (block y) 1) f x xs in
      let e = no_block n xs all.1 in
      let t = lt_none (block x) (f x) all.0.0 in
      omega (arith, a, e, t)

-- ---- the nodes of a graph

abbrev pub Entries : Graph → List (Tid × Node)
Entries g = fin.entries g.nodes

each_at : (P : Tid × Node → Type 0) (es : List (Tid × Node)) → T (is_sorted tid_cmp es) → ((at : Tid) (n : Node) → find tid_cmp at es ≡ Some n → P (at, n))
    → AllByRecursion P es
each_at P [] sorted all = tt
each_at P (e ∷ es) sorted all = (
  all e.0 e.1 (ap (λ r. cond (is_eq r) (Some e.1) (find tid_cmp e.0 es)) (tied_itself tid_cmp_total e.0)),
  each_at P es (right _ _ sorted) (
      λ at n found.
      elim (eq_by_cmp tid_cmp at e.0) as (λ b. eq_by_cmp tid_cmp at e.0 ≡ b → P (at, n)) [
        | true ↦ λ tied.
            let at_e = tid_cmp_exact at e.0 (equal _ tied) in
            absurd (none-some n (sym (missing at es (subst (λ (k : Tid). T (below_all tid_cmp k es)) (sym at_e) (left _ _ sorted))) ∙ found))
        | false ↦ λ apart. all at n (ap (λ b. cond b (Some e.1) (find tid_cmp at es)) apart ∙ found)
      ] refl
      ),
)

on_blocks : (g : Graph) → IsShaped g → AllByRecursion (λ (e : Tid × Node). (1 ≤ e.0.block) × (e.0.block < g.blocks)) (Entries g)
on_blocks g shaped =
    each_at (λ e. (1 ≤ e.0.block) × (e.0.block < g.blocks)) (Entries g) (fin.entries_sorted g.nodes)
    (λ at n found. let so = shaped.nodes at n (fin.get-entries g.nodes at ∙ found) in (so.from_1, so.within))

-- what a sum over the nodes of lower blocks is, of a number for each node
abbrev Below : (Bool → List HeapId → ℕ) → ℕ → Graph → ℕ
Below K b g = below (λ (e : Tid × Node). K e.1.deleted e.1.ids) (λ e. e.0.block) b (Entries g)

abbrev On : (Bool → List HeapId → ℕ) → ℕ → Graph → ℕ
On K b g = on (λ (e : Tid × Node). K e.1.deleted e.1.ids) (λ e. e.0.block) b (Entries g)

abbrev Seens : (Bool → List HeapId → ℕ) → List Seen → ℕ
Seens K nodes = sum_by (λ (s : Seen). K s.deleted s.ids.items) nodes

told_on : (K : Bool → List HeapId → ℕ) (g : Graph) (b : ℕ) (nodes : List Seen) → map seen_told nodes ≡ nodes_on g b → Seens K nodes ≡ On K b g
told_on K g b nodes told =
    sym (sum_map (λ (s : read.Seen). K s.deleted s.ids) seen_told nodes)
    ∙ ap (λ (l : List read.Seen). sum_by (λ (s : read.Seen). K s.deleted s.ids) l) told
    ∙ sum_map (λ (s : read.Seen). K s.deleted s.ids) seen_of (filter (λ (e : Tid × Node). e.0.block == b) (Entries g))

all_of : (K : Bool → List HeapId → ℕ) (g : Graph) → IsShaped g → Below K g.blocks g ≡ sum_by (λ (n : Node). K n.deleted n.ids) (fin.values g.nodes)
all_of K g shaped =
    all_blocks (λ (e : Tid × Node). K e.1.deleted e.1.ids) (λ e. e.0.block) g.blocks (Entries g) (on_blocks g shaped)
    ∙ sym (sum_map (λ (n : Node). K n.deleted n.ids) (λ (e : Tid × Node). e.1) (Entries g))

-- ---- the counts

-- the counts are those of the nodes on lower blocks than this
pub record CountedBelow (c : Counts) (b : ℕ) (g : Graph) : Type 0 where
  nodes : c.nodes ≡ Below (λ deleted ids. 1) b g
  live : c.live ≡ Below live_in b g
  doomed : c.doomed ≡ Below doomed_in b g
  deleted : c.deleted ≡ Below deleted_in b g
  entries : c.entries ≡ Below rows_in b g

with_all_is : (F : Counts → ℕ) (K : Bool → List HeapId → ℕ) → ((c : Counts) (s : Seen) → F (with_seen c s) ≡ F c + K s.deleted s.ids.items)
    → (c : Counts) (nodes : List Seen) → F (with_all c nodes) ≡ F c + Seens K nodes
with_all_is F K step c [] = omega arith
with_all_is F K step c (s ∷ nodes) =
    let rest = with_all_is F K step (with_seen c s) nodes in
    let one = step c s in
    let more = sum_by-cons (λ (x : Seen). K x.deleted x.ids.items) s nodes in
    omega (arith, rest, one, more)

page_more : (F : Counts → ℕ) (K : Bool → List HeapId → ℕ) → ((c : Counts) (s : Seen) → F (with_seen c s) ≡ F c + K s.deleted s.ids.items)
    → (c : Counts) (nodes : List Seen) (g : Graph) (b : ℕ) → F c ≡ Below K b g → map seen_told nodes ≡ nodes_on g b → F (with_all c nodes) ≡ Below K (b + 1) g
page_more F K step c nodes g b so told =
    let a = with_all_is F K step c nodes in
    let t = told_on K g b nodes told in
    let n = next_block (λ (e : Tid × Node). K e.1.deleted e.1.ids) (λ e. e.0.block) b (Entries g) in
    omega (arith, a, t, n, so)

pub blocks_kept : (c : Counts) (nodes : List Seen) → (with_all c nodes).blocks ≡ c.blocks
blocks_kept c [] = refl
blocks_kept c (s ∷ nodes) = blocks_kept (with_seen c s) nodes

pub page_counted : (c : Counts) (nodes : List Seen) (g : Graph) (b : ℕ) → CountedBelow c b g → map seen_told nodes ≡ nodes_on g b
    → CountedBelow (with_all c nodes) (b + 1) g
page_counted c nodes g b so told = record {
  nodes = page_more (λ c. c.nodes) (λ deleted ids. 1) (λ c s. refl) c nodes g b so.nodes told;
  live = page_more (λ c. c.live) live_in (λ c s. refl) c nodes g b so.live told;
  doomed = page_more (λ c. c.doomed) doomed_in (λ c s. refl) c nodes g b so.doomed told;
  deleted = page_more (λ c. c.deleted) deleted_in (λ c s. refl) c nodes g b so.deleted told;
  entries = page_more (λ c. c.entries) rows_in (λ c s. refl) c nodes g b so.entries told;
}

none_of : (g : Graph) → IsShaped g → (K : Bool → List HeapId → ℕ) → Below K 1 g ≡ 0
none_of g shaped K = no_block (λ (e : Tid × Node). K e.1.deleted e.1.ids) (λ e. e.0.block) g.blocks (Entries g) (on_blocks g shaped)

pub none_counted : (c : Counts) (g : Graph) → IsShaped g → c.nodes ≡ 0 → c.live ≡ 0 → c.doomed ≡ 0 → c.deleted ≡ 0 → c.entries ≡ 0 → CountedBelow c 1 g
none_counted c g shaped nodes live doomed deleted entries =
    let zero = none_of g shaped in
    record {
      nodes = nodes ∙ sym (zero (λ deleted ids. 1));
      live = live ∙ sym (zero live_in);
      doomed = doomed ∙ sym (zero doomed_in);
      deleted = deleted ∙ sym (zero deleted_in);
      entries = entries ∙ sym (zero rows_in);
    }

pub all_counted : (c : Counts) (g : Graph) → IsShaped g → c.blocks ≡ g.blocks → CountedBelow c g.blocks g → c ≡ counts_of g
all_counted c g shaped blocks so =
    let nodes : c.nodes ≡ length (fin.values g.nodes) = so.nodes ∙ all_of (λ deleted ids. 1) g shaped ∙ sym (length_sum (fin.values g.nodes)) in
    let live : c.live ≡ (counts_of g).live = so.live ∙ all_of live_in g shaped in
    let doomed : c.doomed ≡ (counts_of g).doomed = so.doomed ∙ all_of doomed_in g shaped in
    let deleted : c.deleted ≡ (counts_of g).deleted = so.deleted ∙ all_of deleted_in g shaped in
    let entries : c.entries ≡ (counts_of g).entries = so.entries ∙ all_of rows_in g shaped in
    λ i. record { blocks = blocks i; nodes = nodes i; live = live i; doomed = doomed i; deleted = deleted i; entries = entries i }
