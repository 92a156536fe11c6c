-- What a search of all lists answers, and how many lists are probed.
use Rattle.std.proofs.Common.{◌≡◌, ℕ, ◌+◌, ◌≤◌, min, Bool, true, false, List, [], ◌∷◌, ◌++◌, map, take, length, refl, sym, ap, subst, ◌∙◌, append_assoc}
use Rattle.std.specs.Prelude.{if◌then◌else◌}
use Rattle.std.specs.List.{flat_map, enumerate_from}
use Rattle.std.specs.List.Sorted.{IsPermutation}
use Rattle.std.proofs.lemmas.List.{map-append, take_all, length-take, length-map}
use Rattle.std.proofs.lemmas.List.Concat.{flat_map-append}
use Rattle.std.proofs.lemmas.List.FromFn.{length-enumerate_from}
use Rattle.std.proofs.lemmas.List.Sorted.{IsPermutation-refl, IsPermutation-trans, IsPermutation-map, IsPermutation-append_left, IsPermutation-append_right, IsPermutation-append_comm, length_permutation}
use Rattle.list_values.specs.Ranking.{placed, ranked}
use Rattle.list_values.proofs.RankedOrder.{ranked_permutes}
use Rattle.ivf_graph.specs.declared.list.IvfList.{IvfList}
use Rattle.ivf_graph.specs.declared.graph.IvfGraph.{IvfGraph}
use Rattle.ivf_graph.specs.Graph.{Row, Part, rows}
use Rattle.ivf_graph.specs.Answer.{found_from, found_on, found, probed, is_nearer, by_nearness, hit_of, hit_of_row, ivf_answer}
use Rattle.ivf_graph.proofs.AnswerOrder.{answer_permutes}

-- ---- lists that are ranked, and then joined

past : {A : Type 0} (a b c : List A) → IsPermutation (a ++ (b ++ c)) (b ++ (a ++ c))
past a b c =
    subst (λ l. IsPermutation l (b ++ (a ++ c))) (append_assoc a b c)
    (subst (IsPermutation ((a ++ b) ++ c)) (append_assoc b a c) (IsPermutation-append_left c (a ++ b) (b ++ a) (IsPermutation-append_comm a b)))

joined_placed : {X A : Type 0} (f : X → List A) (lt : X → X → Bool) (x : X) (ys : List X) → IsPermutation (f x ++ flat_map f ys) (flat_map f (placed lt x ys))
joined_placed f lt x [] = IsPermutation-refl (f x ++ [])
joined_placed {X} f lt x (y ∷ ys) = by_test (lt y x) (joined_placed f lt x ys)
  where
    by_test : (b : Bool) → IsPermutation (f x ++ flat_map f ys) (flat_map f (placed lt x ys))
        → IsPermutation (f x ++ (f y ++ flat_map f ys)) (flat_map f (if b then y ∷ placed lt x ys else x ∷ y ∷ ys))
    by_test true further =
        IsPermutation-trans (f x ++ (f y ++ flat_map f ys)) (f y ++ (f x ++ flat_map f ys)) (f y ++ flat_map f (placed lt x ys)) (past (f x) (f y) (flat_map f ys))
        (IsPermutation-append_right (f y) (f x ++ flat_map f ys) (flat_map f (placed lt x ys)) further)
    by_test false further = IsPermutation-refl (f x ++ (f y ++ flat_map f ys))

joined_ranked : {X A : Type 0} (f : X → List A) (lt : X → X → Bool) (xs : List X) → IsPermutation (flat_map f xs) (flat_map f (ranked lt xs))
joined_ranked f lt [] = IsPermutation-refl []
joined_ranked f lt (x ∷ xs) =
    IsPermutation-trans (f x ++ flat_map f xs) (f x ++ flat_map f (ranked lt xs)) (flat_map f (placed lt x (ranked lt xs)))
    (IsPermutation-append_right (f x) (flat_map f xs) (flat_map f (ranked lt xs)) (joined_ranked f lt xs)) (joined_placed f lt x (ranked lt xs))

flat_map-map : {X Y A : Type 0} (f : Y → List A) (h : X → Y) (xs : List X) → flat_map f (map h xs) ≡ flat_map (λ x. f (h x)) xs
flat_map-map f h [] = refl
flat_map-map f h (x ∷ xs) = ap (λ l. f (h x) ++ l) (flat_map-map f h xs)

flat_map-enumerate_from : {X A : Type 0} (f : X → List A) (n : ℕ) (xs : List X) → flat_map (λ (e : ℕ × X). f e.1) (enumerate_from n xs) ≡ flat_map f xs
flat_map-enumerate_from f n [] = refl
flat_map-enumerate_from f n (x ∷ xs) = ap (λ l. f x ++ l) (flat_map-enumerate_from f (n + 1) xs)

-- ---- the rows as they are answered

row_hits : (query : List Bool) (block offset : ℕ) (rs : List Row) → map hit_of (found_from query block offset rs) ≡ map (hit_of_row query) rs
row_hits query block offset [] = refl
row_hits query block offset (r ∷ rs) = ap (λ l. hit_of_row query r ∷ l) (row_hits query block (offset + 1) rs)

chain_hits : (query : List Bool) (chain : List Part) → map hit_of (flat_map (found_on query) chain) ≡ map (hit_of_row query) (flat_map (λ p. p.1) chain)
chain_hits query [] = refl
chain_hits query (p ∷ chain) =
    map-append hit_of (found_on query p) (flat_map (found_on query) chain)
    ∙ ap (λ l. l ++ map hit_of (flat_map (found_on query) chain)) (row_hits query p.0 1 p.1)
    ∙ ap (λ l. map (hit_of_row query) p.1 ++ l) (chain_hits query chain)
    ∙ sym (map-append (hit_of_row query) p.1 (flat_map (λ q. q.1) chain))

list_hits : (query : List Bool) (ls : List IvfList)
    → map hit_of (flat_map (λ l. flat_map (found_on query) l.chain) ls) ≡ map (hit_of_row query) (flat_map (λ p. p.1) (flat_map (λ l. l.chain) ls))
list_hits query [] = refl
list_hits query (l ∷ ls) =
    map-append hit_of (flat_map (found_on query) l.chain) (flat_map (λ x. flat_map (found_on query) x.chain) ls)
    ∙ ap (λ h. h ++ map hit_of (flat_map (λ x. flat_map (found_on query) x.chain) ls)) (chain_hits query l.chain)
    ∙ ap (λ h. map (hit_of_row query) (flat_map (λ p. p.1) l.chain) ++ h) (list_hits query ls)
    ∙ sym (map-append (hit_of_row query) (flat_map (λ p. p.1) l.chain) (flat_map (λ p. p.1) (flat_map (λ x. x.chain) ls)))
    ∙ ap (map (hit_of_row query)) (sym (flat_map-append (λ p. p.1) l.chain (flat_map (λ x. x.chain) ls)))

-- ---- all lists

as_many : (g : IvfGraph) (query : List Bool) → length (by_nearness g query) ≡ length g.lists
as_many g query =
    length_permutation (enumerate_from 0 g.lists) (by_nearness g query) (ranked_permutes (is_nearer query) (enumerate_from 0 g.lists))
    ∙ length-enumerate_from 0 g.lists

pub few_probed : (g : IvfGraph) (query : List Bool) (probes : ℕ) → length (probed g query probes) ≡ min probes (length g.lists)
few_probed g query probes =
    length-map (take probes (by_nearness g query)) (λ (e : ℕ × IvfList). e.1) ∙ length-take probes (by_nearness g query) ∙ ap (min probes) (as_many g query)

found_whole : (g : IvfGraph) (query : List Bool) (probes : ℕ) → length g.lists ≤ probes
    → IsPermutation (flat_map (λ l. flat_map (found_on query) l.chain) g.lists) (found g query probes)
found_whole g query probes enough =
    let whole : take probes (by_nearness g query) ≡ by_nearness g query =
    take_all probes (by_nearness g query) (subst (λ n. n ≤ probes) (sym (as_many g query)) enough) in
    let is_found : flat_map (λ (e : ℕ × IvfList). flat_map (found_on query) e.1.chain) (by_nearness g query) ≡ found g query probes =
    sym (flat_map-map (λ l. flat_map (found_on query) l.chain) (λ (e : ℕ × IvfList). e.1) (by_nearness g query))
    ∙ ap (λ es. flat_map (λ l. flat_map (found_on query) l.chain) (map (λ (e : ℕ × IvfList). e.1) es)) (sym whole) in
    subst (λ fs. IsPermutation fs (found g query probes)) (flat_map-enumerate_from (λ l. flat_map (found_on query) l.chain) 0 g.lists)
    (subst (IsPermutation (flat_map (λ (e : ℕ × IvfList). flat_map (found_on query) e.1.chain) (enumerate_from 0 g.lists))) is_found
    (joined_ranked (λ (e : ℕ × IvfList). flat_map (found_on query) e.1.chain) (is_nearer query) (enumerate_from 0 g.lists)))

pub answer_whole : (g : IvfGraph) (query : List Bool) (probes : ℕ) → length g.lists ≤ probes → IsPermutation (map (hit_of_row query) (rows g)) (ivf_answer g query probes)
answer_whole g query probes enough =
    IsPermutation-trans (map (hit_of_row query) (rows g)) (map hit_of (found g query probes)) (ivf_answer g query probes)
    (subst (λ hs. IsPermutation hs (map hit_of (found g query probes))) (list_hits query g.lists)
    (IsPermutation-map hit_of (flat_map (λ l. flat_map (found_on query) l.chain) g.lists) (found g query probes) (found_whole g query probes enough)))
    (answer_permutes (found g query probes))
