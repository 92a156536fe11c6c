-- Reads that are all of one state give the answer of that state.
use Rattle.std.proofs.Common.{◌≡◌, ℕ, zero, suc, ◌+◌, ◌-◌, ◌*◌, ◌/◌, ◌%◌, ◌<◌, ◌≤◌, min, Bool, true, false, List, [], ◌∷◌, ◌++◌, map, take, drop, length, replicate, Option, None, refl, sym, ap, subst, ◌∙◌, arith}
use Rattle.std.specs.Prelude.{if◌then◌else◌}
use Rattle.std.specs.Int.{div_ceil}
use Rattle.std.specs.List.{filter_map, cons_option, enumerate_from, AllByRecursion}
use Rattle.std.proofs.Math.Nat.{lt-mul-div-succ}
use Rattle.std.proofs.Math.Seq.{take-add}
use Rattle.std.proofs.lemmas.List.{take-map, take-replicate, drop-replicate, length-replicate, map-append, take_all}
use Rattle.std.proofs.lemmas.List.FromFn.{length-enumerate_from}
use Rattle.list_values.specs.Ranking.{placed, ranked}
use Rattle.list_values.proofs.RankedOrder.{ranked-map}
use Rattle.ivf_graph.specs.declared.list.IvfList.{IvfList}
use Rattle.ivf_graph.specs.declared.graph.IvfGraph.{IvfGraph}
use Rattle.ivf_graph.specs.Graph.{AreBlocksApart}
use Rattle.bit_dist.specs.Hits.{Hit}
use Rattle.ivf_graph.specs.Answer.{found, probed, is_nearer, by_nearness, answer_of, ivf_answer}
use Rattle.index_sizes.specs.declared.limits.TheConstants.{MOST_BITS, PAGE_ROOM}
use Rattle.index_sizes.specs.Sizes.{item_need, centre_size, centres_on_page}
use Rattle.ivf_graph.specs.Looks.{first_block, Centre, centre_of, centres_on, centre_pages}
use Rattle.ivf_graph.specs.Reads.{centres_read, is_centre_nearer, firsts, Walks, IsAnswerFrom}
use Rattle.ivf_graph.proofs.ChainsRead.{Told, AreTold, all_told, walked, some_walk}

-- ---- the pages of the centres

drop-nil : {X : Type 0} (n : ℕ) → drop {A = X} n [] ≡ []
drop-nil zero = refl
drop-nil (suc n) = refl

drop-drop : {X : Type 0} (a b : ℕ) (xs : List X) → drop b (drop a xs) ≡ drop (a + b) xs
drop-drop zero b xs = ap (λ n. drop n xs) (omega arith)
drop-drop (suc a) b [] = drop-nil b ∙ sym (drop-nil (suc a + b))
drop-drop (suc a) b (x ∷ xs) = let one_more : suc (a + b) ≡ suc a + b = omega arith in drop-drop a b xs ∙ ap (λ n. drop n (x ∷ xs)) one_more

-- pages from that on a block on, which stands behind block 0
centres_from : (g : IvfGraph) (places before k : ℕ)
    → centres_read places (before + 1) (replicate k g)
    ≡ map centre_of (take (k * centres_on_page places) (drop (before * centres_on_page places) (enumerate_from 0 g.lists)))
centres_from g places before zero =
    let none : 0 ≡ 0 * centres_on_page places = omega arith in
    ap (λ n. map centre_of (take n (drop (before * centres_on_page places) (enumerate_from 0 g.lists)))) none
centres_from g places before (suc k) =
    let count = centres_on_page places in
    let ys = drop (before * count) (enumerate_from 0 g.lists) in
    let more : count + k * count ≡ suc k * count = omega arith in
    let this : before + 1 - 1 ≡ before = omega arith in
    let behind : (before + 1) * count ≡ before * count + count = omega arith in
    ap (λ n. centres_on count (n * count) g ++ centres_read places (before + 1 + 1) (replicate k g)) this
    ∙ ap (λ l. centres_on count (before * count) g ++ l) (centres_from g places (before + 1) k
    ∙ ap (λ n. map centre_of (take (k * count) (drop n (enumerate_from 0 g.lists)))) behind
    ∙ ap (λ l. map centre_of (take (k * count) l)) (sym (drop-drop (before * count) count (enumerate_from 0 g.lists))))
    ∙ sym (map-append centre_of (take count ys) (take (k * count) (drop count ys)))
    ∙ ap (map centre_of) (sym (take-add count (k * count) ys) ∙ ap (λ n. take n ys) more)

covered_by : (n c q r : ℕ) → n ≡ c * q + r → r < c → n ≤ (q + min 1 r) * c
covered_by n c q zero is less = omega arith
covered_by n c q (suc r) is less =
    let one : 1 ≡ min 1 (suc r) = omega arith in
    let all : n ≤ (q + 1) * c = omega arith in
    subst (λ m. n ≤ (q + m) * c) one all

covered : (n c : ℕ) → 0 < c → n ≤ div_ceil n c * c
covered n c some = covered_by n c (n / c) (n % c) (omega arith) (omega arith)

some_by : (q x : ℕ) → PAGE_ROOM < x * (q + 1) → x ≤ 8028 → 0 < q
some_by zero x h low = absurd (omega arith)
some_by (suc q) x h low = omega arith

some_a_page : (places : ℕ) → places ≤ MOST_BITS → 0 < centres_on_page places
some_a_page places low =
    let need : 0 < item_need (centre_size places) = omega arith in
    some_by (PAGE_ROOM / item_need (centre_size places)) (item_need (centre_size places)) (lt-mul-div-succ PAGE_ROOM need) (omega arith)

-- all pages tell the centres of all lists
pub all_centres : (g : IvfGraph) (places : ℕ) → places ≤ MOST_BITS
    → centres_read places 1 (replicate (centre_pages places (length g.lists)) g) ≡ map centre_of (enumerate_from 0 g.lists)
all_centres g places low =
    let none : 0 * centres_on_page places ≡ 0 = omega arith in
    centres_from g places 0 (centre_pages places (length g.lists))
    ∙ ap (λ n. map centre_of (take (centre_pages places (length g.lists) * centres_on_page places) (drop n (enumerate_from 0 g.lists)))) none
    ∙ ap (map centre_of) (take_all (centre_pages places (length g.lists) * centres_on_page places) (enumerate_from 0 g.lists)
    (subst (λ n. n ≤ centre_pages places (length g.lists) * centres_on_page places) (sym (length-enumerate_from 0 g.lists)) (covered (length g.lists) (centres_on_page places) (some_a_page places low))))

-- ---- the chains that are probed

first_of : IvfList → Option ℕ
first_of l = first_block l.chain

filter_map-map : {X Y Z : Type 0} (h : Y → Option Z) (f : X → Y) (xs : List X) → filter_map h (map f xs) ≡ filter_map (λ x. h (f x)) xs
filter_map-map h f [] = refl
filter_map-map h f (x ∷ xs) = ap (cons_option (h (f x))) (filter_map-map h f xs)

probed_firsts : (g : IvfGraph) (query : List Bool) (probes : ℕ)
    → firsts query probes (map centre_of (enumerate_from 0 g.lists)) ≡ filter_map (λ l. first_block l.chain) (probed g query probes)
probed_firsts g query probes =
    ap (λ l. filter_map (λ c. c.first) (take probes l)) (ranked-map centre_of (is_centre_nearer query) (enumerate_from 0 g.lists))
    ∙ ap (filter_map (λ c. c.first)) (take-map centre_of probes (by_nearness g query))
    ∙ filter_map-map (λ (c : Centre). c.first) centre_of (take probes (by_nearness g query))
    ∙ sym (filter_map-map (λ (l : IvfList). first_block l.chain) (λ (e : ℕ × IvfList). e.1) (take probes (by_nearness g query)))

-- ---- what holds of all lists holds of those that are probed

module _ {X : Type 0} (P : X → Type 0) (less : X → X → Bool) where
  all_placed : (x : X) (ys : List X) → P x → AllByRecursion P ys → AllByRecursion P (placed less x ys)
  all_placed x [] p all = (p, tt)
  all_placed x (y ∷ ys) p all = by_test (less y x) (all_placed x ys p all.1)
    where
      by_test : (b : Bool) → AllByRecursion P (placed less x ys) → AllByRecursion P (if b then y ∷ placed less x ys else x ∷ y ∷ ys)
      by_test true further = (all.0, further)
      by_test false further = (p, all)

  all_ranked : (xs : List X) → AllByRecursion P xs → AllByRecursion P (ranked less xs)
  all_ranked [] all = tt
  all_ranked (x ∷ xs) all = all_placed x (ranked less xs) all.0 (all_ranked xs all.1)

all_taken : {X : Type 0} (P : X → Type 0) (n : ℕ) (xs : List X) → AllByRecursion P xs → AllByRecursion P (take n xs)
all_taken P zero xs all = tt
all_taken P (suc n) [] all = tt
all_taken P (suc n) (x ∷ xs) all = (all.0, all_taken P n xs all.1)

all_mapped : {X Y : Type 0} (P : Y → Type 0) (f : X → Y) (xs : List X) → AllByRecursion (λ x. P (f x)) xs → AllByRecursion P (map f xs)
all_mapped P f [] all = tt
all_mapped P f (x ∷ xs) all = (all.0, all_mapped P f xs all.1)

all_numbered : (P : IvfList → Type 0) (n : ℕ) (ls : List IvfList) → AllByRecursion P ls → AllByRecursion (λ e. P e.1) (enumerate_from n ls)
all_numbered P n [] all = tt
all_numbered P n (l ∷ ls) all = (all.0, all_numbered P (n + 1) ls all.1)

all_replicated : {X : Type 0} (n : ℕ) (x : X) → AllByRecursion (λ y. y ≡ x) (replicate n x)
all_replicated zero x = tt
all_replicated (suc n) x = (refl, all_replicated n x)

probed_told : (g : IvfGraph) → AreBlocksApart g → (query : List Bool) (probes : ℕ) → AreTold g (probed g query probes)
probed_told g apart query probes =
    all_mapped (λ l. Told g l.chain) (λ (e : ℕ × IvfList). e.1) (take probes (by_nearness g query))
    (all_taken (λ e. Told g e.1.chain) probes (by_nearness g query)
    (all_ranked (λ e. Told g e.1.chain) (is_nearer query) (enumerate_from 0 g.lists) (all_numbered (λ l. Told g l.chain) 0 g.lists (all_told g apart))))

-- ---- the answer

told_firsts : (g : IvfGraph) (query : List Bool) (probes : ℕ) → length query ≤ MOST_BITS
    → firsts query probes (centres_read (length query) 1 (replicate (centre_pages (length query) (length g.lists)) g))
    ≡ filter_map (λ l. first_block l.chain) (probed g query probes)
told_firsts g query probes low = ap (firsts query probes) (all_centres g (length query) low) ∙ probed_firsts g query probes

pub answer_of_one : (g : IvfGraph) (n : ℕ) (query : List Bool) (probes : ℕ) (answer : List Hit) → AreBlocksApart g → length query ≤ MOST_BITS
    → IsAnswerFrom (replicate n g) (length g.lists) query probes answer → answer ≡ ivf_answer g query probes
answer_of_one g n query probes answer apart low a =
    let pages = centre_pages (length query) (length g.lists) in
    let enough : pages ≤ n = subst (λ m. pages ≤ m) (length-replicate n g) a.enough in
    let same : AllByRecursion (λ s. s ≡ g) (drop pages (replicate n g)) = subst (AllByRecursion (λ s. s ≡ g)) (sym (drop-replicate pages n g)) (all_replicated (n - pages) g) in
    let begin = ap (λ states. firsts query probes (centres_read (length query) 1 states)) (take-replicate pages n g enough)
    ∙ told_firsts g query probes low in
    a.in_order ∙ ap answer_of (walked g query a.walked same [] tt refl (probed g query probes) (probed_told g apart query probes) begin)

pub some_answer : (g : IvfGraph) (query : List Bool) (probes : ℕ) → AreBlocksApart g → length query ≤ MOST_BITS
    → (n : ℕ) × IsAnswerFrom (replicate n g) (length g.lists) query probes (ivf_answer g query probes)
some_answer g query probes apart low =
    let pages = centre_pages (length query) (length g.lists) in
    let walk = some_walk g query (probed g query probes) (probed_told g apart query probes) in
    let n = pages + walk.0 in
    let taken : replicate pages g ≡ take pages (replicate n g) = sym (take-replicate pages n g (omega arith)) in
    let left : walk.0 ≡ n - pages = omega arith in
    let dropped : replicate walk.0 g ≡ drop pages (replicate n g) = ap (λ k. replicate k g) left ∙ sym (drop-replicate pages n g) in
    let at_firsts : filter_map (λ l. first_block l.chain) (probed g query probes) ≡ firsts query probes (centres_read (length query) 1 (take pages (replicate n g))) =
    sym (told_firsts g query probes low) ∙ ap (λ states. firsts query probes (centres_read (length query) 1 states)) taken in (
      n,
      record {
        enough = subst (λ m. pages ≤ m) (sym (length-replicate n g)) (omega arith);
        found = found g query probes;
        walked =
            subst (λ states. Walks query states None (firsts query probes (centres_read (length query) 1 (take pages (replicate n g)))) (found g query probes)) dropped
            (subst (λ later. Walks query (replicate walk.0 g) None later (found g query probes)) at_firsts walk.1);
        in_order = refl;
      },
    )
