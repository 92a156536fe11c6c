-- An insert puts its row once.
use Rattle.std.proofs.Common.{◌≡◌, inl, inr, ℕ, Bool, List, [], ◌∷◌, ◌++◌, map, Option, Some, None, refl, ap, ◌∙◌}
use Rattle.std.specs.List.{cons_option}
use Rattle.vec_names.specs.declared.heap_id.HeapId.{HeapId}
use Rattle.vec_history.specs.declared.event.Event.{Event}
use Rattle.vec_history.specs.declared.event.Event.TheVariants as event
use Rattle.ivf_graph.specs.declared.graph.IvfGraph.{IvfGraph}
use Rattle.ivf_graph.specs.Courses.{Turn, events_of, aims_at, Places, IsInsertFrom, IsPlacing}
use Rattle.ivf_graph.specs.Courses.Places.{adds, goes_on, grows, has_grown}

both_of : (front back : List Turn) → events_of (front ++ back) ≡ events_of front ++ events_of back
both_of [] back = refl
both_of (t ∷ front) back = by_event t.1 (both_of front back)
  where
    by_event : (o : Option Event) → events_of (front ++ back) ≡ events_of front ++ events_of back
        → cons_option o (events_of (front ++ back)) ≡ cons_option o (events_of front) ++ events_of back
    by_event None further = further
    by_event (Some e) further = ap (λ es. e ∷ es) further

by_options : (turns : List Turn) (es : List Event) → map (λ (t : Turn). t.1) turns ≡ map (λ (e : Event). Some e) es → events_of turns ≡ es
by_options [] [] is = refl
by_options [] (e ∷ es) is = absurd (cc)
by_options (t ∷ turns) [] is = absurd (cc)
by_options (t ∷ turns) (e ∷ es) is =
    let here : t.1 ≡ Some e = cc in
    let rest : map (λ (u : Turn). u.1) turns ≡ map (λ (d : Event). Some d) es = cc in
    ap (λ o. cons_option o (events_of turns)) here ∙ ap (λ ds. e ∷ ds) (by_options turns es rest)

once : (list : ℕ) (id : HeapId) (bits : List Bool) (from : ℕ) (turns : List Turn) (block : ℕ) → Places list id bits from turns block
    → (e : Event) × (events_of turns ≡ e ∷ []) × IsPlacing list block id bits e
once list id bits from turns block (adds g b room) = (event.IvfAdd b id bits, refl, inl refl)
once list id bits from turns block (goes_on g b next rest end full behind further) = once list id bits next rest end further
once list id bits from turns block (grows g h b new full none end) = (event.IvfGrow list b new id bits, refl, inr (b, refl))
once list id bits from turns block (has_grown g h b next rest end full none behind further) = once list id bits next rest end further

pub placed_once : (states : List IvfGraph) (lists : ℕ) (id : HeapId) (bits : List Bool) (turns : List Turn) (list block : ℕ)
    → (i : IsInsertFrom states lists id bits turns list block)
    → (e : Event) × (events_of turns ≡ e ∷ aims_at i.nearest.aim list block) × IsPlacing list block id bits e
placed_once states lists id bits turns list block i =
    let one = once list id bits i.nearest.aim i.tries block i.places in (
      one.0,
      ap events_of i.whole ∙ both_of i.tries i.last ∙ ap (λ es. es ++ events_of i.last) one.1
          ∙ ap (λ es. one.0 ∷ es) (by_options i.last (aims_at i.nearest.aim list block) i.aims),
      one.2,
    )
