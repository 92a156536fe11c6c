-- What was read of the centres, over an index of lists.
use Rattle.std.proofs.Common.{◌≡◌, ℕ, zero, suc, ◌+◌, true, false, List, [], ◌∷◌, ◌++◌, map, take, length, Some, None, refl, sym, ap, ap₂, subst, ◌∙◌}
use Rattle.std.specs.Prelude.{Bool, if◌then◌else◌}
use Rattle.std.specs.List.{filter_map}
use Rattle.std.proofs.lemmas.Option.{same_Some, none-some}
use Rattle.std.proofs.lemmas.List.{map-append}
use Rattle.list_values.specs.Ranking.{ranked}
use Rattle.list_values.proofs.RankedOrder.{ranked-map}
use Rattle.vec_history.specs.declared.event.Act.{Act}
use Rattle.vec_history.specs.Acts.{IsRising}
use Rattle.ivf_graph.specs.declared.graph.IvfGraph.{IvfGraph}
use Rattle.ivf_graph.specs.Effect.{state_after}
use Rattle.ivf_graph.specs.Looks as list
use Rattle.ivf_graph.specs.Looks.{centres_of_block, is_of_centres}
use Rattle.ivf_graph.specs.Looks.Look.{AtCentres}
use Rattle.ivf_graph.specs.Looks.Answer.{OfCentres}
use Rattle.ivf_graph.specs.Reads.{centres_read, firsts, is_centre_nearer}
use Rattle.vec_steps.specs.declared.seen.Centre.{Centre}
use Rattle.vec_steps.specs.Index.{Index, OfLists}
use Rattle.vec_steps.specs.Doing.{Step, viewed}
use Rattle.vec_steps.specs.Telling.{centre_told}
use Rattle.vec_steps.specs.Desks.{Desk}
use Rattle.vec_steps.specs.Calls.{Happened, HappenedAt}
use Rattle.ivf_ops.specs.declared.near.Near.{Near}
use Rattle.ivf_ops.specs.Nearness.{is_nearer, near_of}
use Rattle.ivf_ops.specs.Scanning.{ReadsCentres, all_told, nearest_lists, page_views}
use Rattle.ivf_ops.specs.Viewing.{AreViews}

-- ---- lists in order

take_map : {X Y : Type 0} (f : X → Y) (n : ℕ) (xs : List X) → take n (map f xs) ≡ map f (take n xs)
take_map f zero xs = refl
take_map f (suc n) [] = refl
take_map f (suc n) (x ∷ xs) = ap (λ l. f x ∷ l) (take_map f n xs)

firsts_of : (query : List Bool) (ts : List Centre) → map (λ (n : Near). n.first) (map (near_of query) ts) ≡ filter_map (λ (c : list.Centre). c.first) (map centre_told ts)
firsts_of query [] = refl
firsts_of query (t ∷ ts) = ap (λ (l : List ℕ). t.first ∷ l) (firsts_of query ts)

nearest_firsts : (query : List Bool) (probes : ℕ) (ts : List Centre)
    → map (λ (n : Near). n.first) (nearest_lists probes (map (near_of query) ts)) ≡ firsts query probes (map centre_told ts)
nearest_firsts query probes ts =
    let before : Centre → Centre → Bool = λ a b. is_nearer (near_of query a) (near_of query b) in
    ap (λ (l : List Near). map (λ (n : Near). n.first) (take probes l)) (ranked-map (near_of query) is_nearer ts)
    ∙ ap (map (λ (n : Near). n.first)) (take_map (near_of query) probes (ranked before ts))
    ∙ firsts_of query (take probes (ranked before ts))
    ∙ ap (filter_map (λ (c : list.Centre). c.first)) (sym (take_map centre_told probes (ranked before ts)))
    ∙ ap (λ (l : List list.Centre). filter_map (λ (c : list.Centre). c.first) (take probes l)) (sym (ranked-map centre_told (is_centre_nearer query) ts))

-- ---- what was told

told_by : (b : Bool) (full cs : List list.Centre) → Some (OfCentres cs) ≡ (if b then Some (OfCentres full) else None) → full ≡ cs
told_by true full cs is = let same = same_Some (OfCentres cs) (OfCentres full) is in cc
told_by false full cs is = absurd (none-some (OfCentres cs) (sym is))

module _ (g : IvfGraph) (d : Desk) (acts : List Act) where
  told_at : (b n : ℕ) (cs : List list.Centre) → HappenedAt (OfLists g) acts d n (viewed (AtCentres b) (Some (OfCentres cs)))
      → centres_of_block d.params.bits b (state_after g acts n) ≡ cs
  told_at b n cs h =
      told_by (is_of_centres d.params.bits (state_after g acts n) b) (centres_of_block d.params.bits b (state_after g acts n)) cs h.says

  all_read : (b : ℕ) (pages : List (List Centre)) (course : List (ℕ × Step)) → AreViews course (page_views b pages)
      → Happened (OfLists g) acts d course
      → centres_read d.params.bits b (map (state_after g acts) (map (λ s. s.0) course)) ≡ map centre_told (all_told pages)
  all_read b [] [] are h = refl
  all_read b [] (s ∷ course) are h = absurd are
  all_read b (cs ∷ pages) [] are h = absurd are
  all_read b (cs ∷ pages) (s ∷ course) are h =
      ap₂ (λ (l r : List list.Centre). l ++ r)
      (told_at b s.0 (map centre_told cs) (subst (HappenedAt (OfLists g) acts d s.0) are.0 h.0))
      (all_read (b + 1) pages course are.1 h.1)
      ∙ sym (map-append centre_told cs (all_told pages))

module _ {over : Index → Type 0} {d : Desk} {old new : List Act} {reads : List ℕ} {query : List Bool} {count : ℕ} {nears : List Near} where
  pub reads_rise : ReadsCentres over d old new [] reads query count nears → IsRising (length old) reads (length new)
  reads_rise r = subst (λ (l : List ℕ). IsRising (length old) l (length new)) (sym r.made.is.traced) r.made.does.rises

  pub nearest_begin : (probes : ℕ) (g : IvfGraph) → over (OfLists g) → ReadsCentres over d old new [] reads query count nears
      → map (λ (n : Near). n.first) (nearest_lists probes nears) ≡ firsts query probes (centres_read d.params.bits 1 (map (state_after g new) reads))
  nearest_begin probes g o r =
      ap (λ (l : List Near). map (λ (n : Near). n.first) (nearest_lists probes l)) r.nears_are
      ∙ nearest_firsts query probes (all_told r.pages)
      ∙ ap (firsts query probes) (sym (all_read g d new 1 r.pages r.made.course r.made.is.are (r.made.does.happened (OfLists g) o)))
      ∙ ap (λ (l : List ℕ). firsts query probes (centres_read d.params.bits 1 (map (state_after g new) l))) (sym r.made.is.traced)
