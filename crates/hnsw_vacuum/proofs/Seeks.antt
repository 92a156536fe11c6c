-- Which nodes have no rows: what pages and looks at nodes tell of them.
use Rattle.std.proofs.Common.{◌≡◌, ◌⊎◌, inl, inr, ℕ, ◌+◌, ◌<◌, ◌≤◌, Bool, true, false, cond, ◌==◌, T, List, [], ◌∷◌, ◌++◌, map, filter, length, take, Some, refl, sym, ap, subst, ◌∙◌, append-nil, arith}
use Rattle.std.proofs.lemmas.Bool.{eq-eqb, eqb-true}
use Rattle.std.proofs.lemmas.Option.{none-some, same_Some}
use Rattle.std.specs.List.{AllByRecursion}
use Rattle.std.specs.declared.cmp.Ordering.{Ordering}
use Rattle.std.specs.declared.cmp.Ordering.TheVariants.{Less, Equal, Greater}
use Rattle.std.specs.Ordering.{is_eq, nat_cmp, ordering_then}
use Rattle.std.specs.Cmp.{nat_cmp_is}
use Rattle.std.specs.FinMap as fin
use Rattle.std.specs.FinMap.Entries.{is_sorted, below_all}
use Rattle.list_values.proofs.Parts.{in_order}
use Rattle.vec_names.specs.declared.tid.Tid.{Tid}
use Rattle.vec_names.specs.Order.{tid_cmp, tid_cmp_exact}
use Rattle.vec_history.specs.declared.event.Act.{Act}
use Rattle.vec_history.specs.declared.stage.Stage.TheVariants.{Repair}
use Rattle.vec_history.specs.Phases.{IsDrop, IsInPhase, IsOfVacuum}
use Rattle.vec_history.proofs.ByActs.{cut}
use Rattle.vec_graph.specs.declared.node.Node.{Node}
use Rattle.vec_graph.specs.declared.graph.Graph.{Graph}
use Rattle.vec_graph.specs.Graph.{IsDoomed, IsDoomedAt}
use Rattle.vec_graph.specs.Shaped as nodes
use Rattle.vec_graph.specs.Places.{IsOnBlocks}
use Rattle.vec_graph.specs.Legal.{IsAllowed}
use Rattle.vec_graph.specs.Legal as history
use Rattle.vec_graph.specs.Effect.{after, state_after}
use Rattle.vec_graph.proofs.Shaping.{on_blocks_of, shaped_after}
use Rattle.vec_graph.proofs.Vacuuming.{was_doomed}
use Rattle.graph_search.specs.Reads.{Seen, nodes_on, seen_of}
use Rattle.vec_steps.specs.Calls.{Acts}
use Rattle.vec_steps.proofs.Following.{acts_longer}
use Rattle.vec_steps.proofs.Lasting.{front_is, own_none}
use Rattle.hnsw_vacuum.specs.declared.marking.Doomed.{Doomed}
use Rattle.hnsw_vacuum.specs.Marking.{AreDoomedApart, StandsDoomed}
use Rattle.hnsw_vacuum.specs.Removing.{HasBlocks}
use Rattle.hnsw_vacuum.specs.Seeking.{AreAllDoomed, AreRising, IsBare, IsBareAt, IsFoundAt, Seeks, places_of, places_seen}
use Rattle.hnsw_vacuum.proofs.Lasts.{blocks_last, phase_lasts}
use Rattle.hnsw_vacuum.proofs.Marks.{doomed_lasts}
use Rattle.hnsw_vacuum.proofs.PageNodes.{all_told, first, is_less, second}
use Rattle.hnsw_vacuum.proofs.Stopped.{all_both}

-- ---- time passes

module _ (g : Graph) (shaped : nodes.IsShaped g) {desk : ℕ} {old new : List Act} (legal : history.IsLegal g new) (x : Acts desk old new []) where
  -- no node loses its last row meanwhile
  was_before : IsInPhase old desk Repair → (q : Tid) → IsDoomedAt (after g new) q → IsDoomedAt (after g old) q
  was_before p q d =
      let on : IsOnBlocks (state_after g new (length old)) =
      on_blocks_of (after g (take (length old) new)) (shaped_after g shaped (take (length old) new) (cut (IsAllowed g) new (length old) legal)) in
      let was : IsInPhase (take (length old) new) desk Repair = subst (λ (h : List Act). IsInPhase h desk Repair) (sym (front_is x)) p in
      subst (λ (h : List Act). IsDoomedAt (after g h) q) (front_is x)
      (was_doomed g desk Repair new legal (length old) (own_none IsOfVacuum desk x tt) was (acts_longer x) on (own_none IsDrop desk x tt) q d)

  stand_on : IsInPhase old desk Repair → (ds : List Doomed) → AllByRecursion (StandsDoomed (after g old)) ds → AllByRecursion (StandsDoomed (after g new)) ds
  stand_on p [] all = tt
  stand_on p (t ∷ ts) all = (doomed_lasts g legal x tt Repair p t.at tt shaped t.list_at t.version all.0, stand_on p ts all.1)

  pub seeks_on : {bound count : ℕ} {left : List Seen} {found : List Doomed} → Seeks g old desk bound count left found → Seeks g new desk bound count left found
  seeks_on {found = found} s = record {
    phase = phase_lasts g legal x Repair tt s.phase;
    there = let longer = blocks_last g x in let there = s.there in omega (arith, longer, there);
    stand = stand_on s.phase found s.stand;
    rising = s.rising;
    below = s.below;
    within = λ at d. s.within at (was_before s.phase at d);
    all = λ at low d. s.all at low (was_before s.phase at d);
  }

-- ---- lists of places

less_all : (P : Tid → Type 0) (xs ys : List Tid) (y : Tid) → AllByRecursion P (xs ++ y ∷ ys) → AllByRecursion P (xs ++ ys)
less_all P [] ys y all = all.1
less_all P (x ∷ xs) ys y all = (all.0, less_all P xs ys y all.1)

less_rising : (xs ys : List Tid) (y : Tid) → AreRising (xs ++ y ∷ ys) → AreRising (xs ++ ys)
less_rising [] ys y r = r.1
less_rising (x ∷ xs) ys y r = (less_all (λ (to : Tid). tid_cmp x to ≡ Less) xs ys y r.0, less_rising xs ys y r.1)

lower : (a b : Tid) → a.block < b.block → tid_cmp a b ≡ Less
lower a b low =
    let blocks : nat_cmp a.block b.block ≡ Less = sym (nat_cmp_is a.block b.block Less low) in
    ap (λ r. ordering_then r (nat_cmp a.off b.off)) blocks

lower_all : (x : Tid) (block : ℕ) (ys : List Tid) → x.block < block → AllByRecursion (λ (at : Tid). at.block ≡ block) ys
    → AllByRecursion (λ (to : Tid). tid_cmp x to ≡ Less) ys
lower_all x block [] low all = tt
lower_all x block (y ∷ ys) low all = (let same = all.0 in lower x y (omega (arith, low, same)), lower_all x block ys low all.1)

rising_both : (block : ℕ) (xs ys : List Tid) → AreRising xs → AllByRecursion (λ (at : Tid). at.block < block) xs → AreRising ys
    → AllByRecursion (λ (at : Tid). at.block ≡ block) ys → AreRising (xs ++ ys)
rising_both block [] ys r low s on = s
rising_both block (x ∷ xs) ys r low s on = (
  all_both (λ (to : Tid). tid_cmp x to ≡ Less) xs ys r.0 (lower_all x block ys low.0 on),
  rising_both block xs ys r.1 low.1 s on,
)

all_below : (block : ℕ) (xs : List Tid) → AllByRecursion (λ (at : Tid). at.block < block) xs → AllByRecursion (λ (at : Tid). at.block < block + 1) xs
all_below block [] all = tt
all_below block (x ∷ xs) all = (let low = all.0 in omega (arith, low), all_below block xs all.1)

all_here : (block : ℕ) (xs : List Tid) → AllByRecursion (λ (at : Tid). at.block ≡ block) xs → AllByRecursion (λ (at : Tid). at.block < block + 1) xs
all_here block [] all = tt
all_here block (x ∷ xs) all = (let same = all.0 in omega (arith, same), all_here block xs all.1)

places_pushed : (found : List Doomed) (d : Doomed) (ps : List Tid) → places_of found ++ d.at ∷ ps ≡ places_of (found ++ d ∷ []) ++ ps
places_pushed [] d ps = refl
places_pushed (f ∷ found) d ps = ap (λ (l : List Tid). f.at ∷ l) (places_pushed found d ps)

found_more : (at : Tid) (d : Doomed) (found : List Doomed) → IsFoundAt at found → IsFoundAt at (found ++ d ∷ [])
found_more at d [] f = absurd f
found_more at d (e ∷ found) (inl same) = inl same
found_more at d (e ∷ found) (inr more) = inr (found_more at d found more)

found_last : (at : Tid) (d : Doomed) (found : List Doomed) → d.at ≡ at → IsFoundAt at (found ++ d ∷ [])
found_last at d [] same = inl same
found_last at d (e ∷ found) same = inr (found_last at d found same)

-- ---- one node of a page

module _ {g : Graph} {acts : List Act} {desk bound count : ℕ} {s : Seen} {left : List Seen} {found : List Doomed}
    (so : Seeks g acts desk bound count (s ∷ left) found) where
  either : (at : Tid) → (IsBare at s → IsDoomedAt (after g acts) at → ⊥) → IsDoomedAt (after g acts) at → IsFoundAt at found ⊎ IsBareAt at (s ∷ left)
      → IsFoundAt at found ⊎ IsBareAt at left
  either at never d (inl f) = inl f
  either at never d (inr (inl bare)) = absurd (never bare d)
  either at never d (inr (inr more)) = inr more

  -- it has rows, or is deleted
  pub passed : ((at : Tid) → IsBare at s → IsDoomedAt (after g acts) at → ⊥) → Seeks g acts desk bound count left found
  passed never = record {
    phase = so.phase;
    there = so.there;
    stand = so.stand;
    rising = less_rising (places_of found) (places_seen left) s.at so.rising;
    below = less_all (λ (at : Tid). at.block < bound) (places_of found) (places_seen left) s.at so.below;
    within = so.within;
    all = λ at low d. either at (never at) d (so.all at low d);
  }

  either_pushed : (e : Doomed) → e.at ≡ s.at → (at : Tid) → IsFoundAt at found ⊎ IsBareAt at (s ∷ left) → IsFoundAt at (found ++ e ∷ []) ⊎ IsBareAt at left
  either_pushed e same at (inl f) = inl (found_more at e found f)
  either_pushed e same at (inr (inl bare)) = inl (found_last at e found (same ∙ bare.same))
  either_pushed e same at (inr (inr more)) = inr more

  pub pushed : (e : Doomed) → e.at ≡ s.at → StandsDoomed (after g acts) e → Seeks g acts desk bound count left (found ++ e ∷ [])
  pushed e same stands =
      let places : places_of found ++ s.at ∷ places_seen left ≡ places_of (found ++ e ∷ []) ++ places_seen left =
      ap (λ (q : Tid). places_of found ++ q ∷ places_seen left) (sym same) ∙ places_pushed found e (places_seen left) in
      record {
        phase = so.phase;
        there = so.there;
        stand = all_both (StandsDoomed (after g acts)) found (e ∷ []) so.stand (stands, tt);
        rising = subst AreRising places so.rising;
        below = subst (AllByRecursion (λ (at : Tid). at.block < bound)) places so.below;
        within = so.within;
        all = λ at low d. either_pushed e same at (so.all at low d);
      }

-- ---- a page

by_test_on : (block : ℕ) (e : Tid × Node) (es : List (Tid × Node)) (b : Bool) → (e.0.block == block) ≡ b
    → AllByRecursion (λ (at : Tid). at.block ≡ block) (places_seen (map seen_of (filter (λ (f : Tid × Node). f.0.block == block) es)))
    → AllByRecursion (λ (at : Tid). at.block ≡ block)
    (places_seen (map seen_of (cond b (e ∷ filter (λ (f : Tid × Node). f.0.block == block) es) (filter (λ (f : Tid × Node). f.0.block == block) es))))
by_test_on block e es true is rest = (eqb-true e.0.block block is, rest)
by_test_on block e es false is rest = rest

on_block : (block : ℕ) (es : List (Tid × Node))
    → AllByRecursion (λ (at : Tid). at.block ≡ block) (places_seen (map seen_of (filter (λ (f : Tid × Node). f.0.block == block) es)))
on_block block [] = tt
on_block block (e ∷ es) = by_test_on block e es (e.0.block == block) refl (on_block block es)

keys_behind : (x : Tid) (es : List (Tid × Node)) → T (below_all tid_cmp x es) → AllByRecursion (λ (e : Tid × Node). tid_cmp x e.0 ≡ Less) es
keys_behind x [] h = tt
keys_behind x (e ∷ es) h = (is_less _ (first _ _ h), keys_behind x es (second _ _ h))

of_places : (P : Tid → Type 0) (seen : List Seen) → AllByRecursion (λ (s : Seen). P s.at) seen → AllByRecursion P (places_seen seen)
of_places P [] all = tt
of_places P (s ∷ seen) all = (all.0, of_places P seen all.1)

page_rising : (test : Tid × Node → Bool) (es : List (Tid × Node)) → T (is_sorted tid_cmp es) → AreRising (places_seen (map seen_of (filter test es)))
page_rising test [] h = tt
page_rising test (e ∷ es) h =
    elim (test e) as (λ b. AreRising (places_seen (map seen_of (cond b (e ∷ filter test es) (filter test es))))) [
      | true ↦ (
        of_places (λ (to : Tid). tid_cmp e.0 to ≡ Less) (map seen_of (filter test es))
            (all_told seen_of (λ (s : Seen). tid_cmp e.0 s.at ≡ Less) test es (keys_behind e.0 es (first _ _ h))),
        page_rising test es (second _ _ h),
      )
      | false ↦ page_rising test es (second _ _ h)
    ]

-- a node without rows is told by the page that its block is
bare_in : (test : Tid × Node → Bool) (at : Tid) (node : Node) (es : List (Tid × Node)) → test (at, node) ≡ true → IsDoomed node
    → fin.find tid_cmp at es ≡ Some node → IsBareAt at (map seen_of (filter test es))
bare_in test at node [] passes bare is = absurd (none-some node is)
bare_in test at node (e ∷ es) passes bare is = by_key (tid_cmp at e.0) (tid_cmp_exact at e.0) is (bare_in test at node es passes bare)
  where
    here : (key : at ≡ e.0) (value : e.1 ≡ node) → IsBareAt at (map seen_of (filter test (e ∷ es)))
    here key value =
        let one : test e ≡ true = ap (λ (q : Tid). test (q, e.1)) (sym key) ∙ ap (λ (m : Node). test (at, m)) value ∙ passes in
        let of : IsBare at (seen_of e) = record {
          same = sym key;
          not_deleted = ap (λ (m : Node). m.deleted) value ∙ bare.not_deleted;
          no_ids = ap (λ (m : Node). m.ids) value ∙ bare.no_ids;
        } in
        subst (λ b. IsBareAt at (map seen_of (cond b (e ∷ filter test es) (filter test es)))) (sym one) (inl of)

    further : IsBareAt at (map seen_of (filter test es)) → IsBareAt at (map seen_of (filter test (e ∷ es)))
    further of =
        elim (test e) as (λ b. IsBareAt at (map seen_of (cond b (e ∷ filter test es) (filter test es)))) [
          | true ↦ inr of
          | false ↦ of
        ]

    by_key : (r : Ordering) → (r ≡ Equal → at ≡ e.0) → cond (is_eq r) (Some e.1) (fin.find tid_cmp at es) ≡ Some node
        → (fin.find tid_cmp at es ≡ Some node → IsBareAt at (map seen_of (filter test es))) → IsBareAt at (map seen_of (filter test (e ∷ es)))
    by_key Equal exact found rest = here (exact refl) (same_Some e.1 node found)
    by_key Less exact found rest = further (rest found)
    by_key Greater exact found rest = further (rest found)

bare_on : (g : Graph) (block : ℕ) (at : Tid) → at.block ≡ block → IsDoomedAt g at → IsBareAt at (nodes_on g block)
bare_on g block at on d =
    bare_in (λ (f : Tid × Node). f.0.block == block) at d.node (fin.entries g.nodes) (eq-eqb at.block block on) d.doomed
    (sym (fin.get-entries g.nodes at) ∙ d.stands)

none_left : (at : Tid) (found : List Doomed) → IsFoundAt at found ⊎ IsBareAt at [] → IsFoundAt at found
none_left at found (inl f) = f
none_left at found (inr never) = absurd never

pub page_told : {g : Graph} {acts : List Act} {desk block count : ℕ} {found : List Doomed} → Seeks g acts desk block count [] found
    → Seeks g acts desk (block + 1) count (nodes_on (after g acts) block) found
page_told {g} {acts} {desk} {block} {count} {found} s =
    let seen : List Seen = nodes_on (after g acts) block in
    let on : AllByRecursion (λ (at : Tid). at.block ≡ block) (places_seen (nodes_on (after g acts) block)) = on_block block (fin.entries (after g acts).nodes) in
    let low : AllByRecursion (λ (at : Tid). at.block < block) (places_of found) =
    subst (AllByRecursion (λ (at : Tid). at.block < block)) (append-nil (places_of found)) s.below in
    let was : AreRising (places_of found) = subst AreRising (append-nil (places_of found)) s.rising in
    record {
      phase = s.phase;
      there = s.there;
      stand = s.stand;
      rising = rising_both block (places_of found) (places_seen (nodes_on (after g acts) block)) was low
          (page_rising (λ (f : Tid × Node). f.0.block == block) (fin.entries (after g acts).nodes) (fin.entries_sorted (after g acts).nodes)) on;
      below = all_both (λ (at : Tid). at.block < block + 1) (places_of found) (places_seen (nodes_on (after g acts) block)) (all_below block (places_of found) low)
          (all_here block (places_seen (nodes_on (after g acts) block)) on);
      within = s.within;
      all = λ at below d.
          elim (in_order at.block block) as (λ _. IsFoundAt at found ⊎ IsBareAt at (nodes_on (after g acts) block)) [
            | inl less ↦ inl (none_left at found (s.all at less d))
            | inr (inl same) ↦ inr (bare_on (after g acts) block at same d)
            | inr (inr more) ↦ absurd (omega (arith, more, below))
          ];
    }

-- ---- all pages

pub seeks_first : (g : Graph) (acts : List Act) (desk count : ℕ) → nodes.IsShaped (after g acts) → IsInPhase acts desk Repair → HasBlocks acts count g
    → Seeks g acts desk 1 count [] []
seeks_first g acts desk count shaped phase there = record {
  phase = phase;
  there = let blocks : (after g acts).blocks ≡ count = there in omega (arith, blocks);
  stand = tt;
  rising = tt;
  below = tt;
  within = λ at d.
      let is = shaped.nodes at d.node d.stands in
      let within = is.within in
      let blocks : (after g acts).blocks ≡ count = there in
      omega (arith, within, blocks);
  all = λ at low d.
      let is = shaped.nodes at d.node d.stands in
      let from = is.from_1 in
      absurd (omega (arith, from, low));
}

-- no place is before itself
never_before : (x : Tid) → tid_cmp x x ≡ Less → ⊥
never_before x less =
    let blocks : nat_cmp x.block x.block ≡ Equal = sym (nat_cmp_is x.block x.block Equal refl) in
    let offs : nat_cmp x.off x.off ≡ Equal = sym (nat_cmp_is x.off x.off Equal refl) in
    let equal : tid_cmp x x ≡ Equal = ap (λ r. ordering_then r (nat_cmp x.off x.off)) blocks ∙ offs in
    let e : Equal ≡ Less = sym equal ∙ less in absurd cc

apart_from : (s : Doomed) (ts : List Doomed) → AllByRecursion (λ (to : Tid). tid_cmp s.at to ≡ Less) (places_of ts)
    → AllByRecursion (λ (t : Doomed). t.at ≡ s.at → ⊥) ts
apart_from s [] all = tt
apart_from s (t ∷ ts) all = (λ same. never_before s.at (subst (λ (q : Tid). tid_cmp s.at q ≡ Less) same all.0), apart_from s ts all.1)

all_apart : (ds : List Doomed) → AreRising (places_of ds) → AreDoomedApart ds
all_apart [] r = tt
all_apart (d ∷ ds) r = (apart_from d ds r.0, all_apart ds r.1)

pub all_doomed : {g : Graph} {acts : List Act} {desk bound count : ℕ} {found : List Doomed} → count ≤ bound → Seeks g acts desk bound count [] found
    → AreAllDoomed (after g acts) found
all_doomed {found = found} high s = record {
  stand = s.stand;
  rising = subst AreRising (append-nil (places_of found)) s.rising;
  apart = all_apart found (subst AreRising (append-nil (places_of found)) s.rising);
  all = λ at d. none_left at found (s.all at (let within = s.within at d in omega (arith, within, high)) d);
}
