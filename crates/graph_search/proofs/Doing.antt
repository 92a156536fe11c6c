-- Deeds of a history: one call after another, and what its words say.
use Rattle.std.proofs.Common.{◌≡◌, ◌↔◌, ℕ, zero, suc, ◌+◌, ◌-◌, ◌≤◌, ◌==◌, List, [], ◌∷◌, ◌++◌, filter, map, take, drop, slice_get, Some, subst, refl, sym, ap, ap₂, ◌∙◌, append_assoc, arith}
use Rattle.std.proofs.Math.Seq.{take-add}
use Rattle.std.proofs.lemmas.Option.{none-some, same_Some}
use Rattle.std.proofs.lemmas.List.{map-append, drop-drop}
use Rattle.std.proofs.lemmas.List.Elements.{filter-append}
use Rattle.vec_history.specs.declared.event.Event.{Event}
use Rattle.vec_history.specs.declared.event.Act.{Act}
use Rattle.vec_graph.specs.declared.graph.Graph.{Graph}
use Rattle.vec_history.specs.Acts.{IsRising}
use Rattle.graph_search.specs.Reads.{Look, Answer, AreReadAt}
use Rattle.graph_search.specs.Deeds.{Deed, Change, Reply, asked, IsDoneAt, GotItsWord, looks_of, deed_events, events_of, AreDoneAt, own_events, DidBetween}

-- ---- positions

rises : (low mid high : ℕ) (ps qs : List ℕ) → IsRising low ps mid → IsRising mid qs high → IsRising low (ps ++ qs) high
rises low mid high [] [] a b = omega (arith, a, b)
rises low mid high [] (q ∷ qs) a b = (omega (arith, a, b.0), b.1)
rises low mid high (p ∷ ps) qs a b = (a.0, rises p mid high ps qs a.1 b)

within : (low high : ℕ) (ps : List ℕ) → IsRising low ps high → low ≤ high
within low high [] a = a
within low high (p ∷ ps) a = let up = within p high ps a.1 in omega (arith, up, a.0)

-- ---- deeds

module _ (base : Graph) (acts : List Act) (desk : ℕ) where
  pub done_both : (ps qs : List ℕ) (ds es : List Deed) → AreDoneAt base acts desk ps ds → AreDoneAt base acts desk qs es
      → AreDoneAt base acts desk (ps ++ qs) (ds ++ es)
  done_both [] qs [] es a b = b
  done_both [] qs (d ∷ ds) es a b = absurd a
  done_both (p ∷ ps) qs [] es a b = absurd a
  done_both (p ∷ ps) qs (d ∷ ds) es a b = (a.0, done_both ps qs ds es a.1 b)

  reads_done : (ps : List ℕ) (reads : List (Look × Answer)) → AreReadAt base acts ps reads → AreDoneAt base acts desk ps (looks_of reads)
  reads_done [] [] a = tt
  reads_done [] (r ∷ reads) a = absurd a
  reads_done (p ∷ ps) [] a = absurd a
  reads_done (p ∷ ps) (r ∷ reads) a = (a.0, reads_done ps reads a.1)

  done_reads : (ps : List ℕ) (reads : List (Look × Answer)) → AreDoneAt base acts desk ps (looks_of reads) → AreReadAt base acts ps reads
  done_reads [] [] a = tt
  done_reads [] (r ∷ reads) a = absurd a
  done_reads (p ∷ ps) [] a = absurd a
  done_reads (p ∷ ps) (r ∷ reads) a = (a.0, done_reads ps reads a.1)

  pub looks_are_reads : (ps : List ℕ) (reads : List (Look × Answer)) → AreReadAt base acts ps reads ↔ AreDoneAt base acts desk ps (looks_of reads)
  looks_are_reads ps reads = (reads_done ps reads, done_reads ps reads)

  -- ---- words

  pub worded : (ps : List ℕ) (ds : List Deed) (i : ℕ) (change : Change) (reply : Reply) → AreDoneAt base acts desk ps ds
      → slice_get ds i ≡ Some (asked change reply) → GotItsWord base acts desk ps i change reply
  worded [] [] i change reply done is = absurd (none-some (asked change reply) is)
  worded [] (d ∷ ds) i change reply done is = absurd done
  worded (p ∷ ps) [] i change reply done is = absurd done
  worded (p ∷ ps) (d ∷ ds) zero change reply done is =
      let there : IsDoneAt base acts desk p (asked change reply) =
      subst (λ (e : Deed). IsDoneAt base acts desk p e) (same_Some d (asked change reply) is) done.0.1 in
      record { position = p; stands = refl; reached = done.0.0; word = there.0; made = there.1 }
  worded (p ∷ ps) (d ∷ ds) (suc i) change reply done is =
      let there : GotItsWord base acts desk ps i change reply = worded ps ds i change reply done.1 is in
      record { position = there.position; stands = there.stands; reached = there.reached; word = there.word; made = there.made }

  -- ---- one call after another

  events_both : (m : ℕ) (ds es : List Deed) → events_of m (ds ++ es) ≡ events_of m ds ++ events_of m es
  events_both m [] es = refl
  events_both m (d ∷ ds) es =
      ap (λ (z : List Event). deed_events m d ++ z) (events_both m ds es) ∙ sym (append_assoc (deed_events m d) (events_of m ds) (events_of m es))

  own_both : (xs ys : List Act) → own_events desk (xs ++ ys) ≡ own_events desk xs ++ own_events desk ys
  own_both xs ys =
      ap (map (λ (a : Act). a.event)) (filter-append (λ (a : Act). a.desk == desk) xs ys)
      ∙ map-append (λ (a : Act). a.event) (filter (λ (a : Act). a.desk == desk) xs) (filter (λ (a : Act). a.desk == desk) ys)

  split_acts : (low mid high : ℕ) → low ≤ mid → mid ≤ high
      → take (high - low) (drop low acts) ≡ take (mid - low) (drop low acts) ++ take (high - mid) (drop mid acts)
  split_acts low mid high a b =
      let whole : high - low ≡ (mid - low) + (high - mid) = omega (arith, a, b) in
      let there : low + (mid - low) ≡ mid = omega (arith, a) in
      ap (λ (k : ℕ). take k (drop low acts)) whole
      ∙ take-add (mid - low) (high - mid) (drop low acts)
      ∙ ap (λ (z : List Act). take (mid - low) (drop low acts) ++ take (high - mid) z)
      (drop-drop (mid - low) low acts ∙ ap (λ (k : ℕ). drop k acts) there)

  pub one_after_other : (low mid high : ℕ) (ds es : List Deed) → DidBetween base acts desk low mid ds → DidBetween base acts desk mid high es
      → DidBetween base acts desk low high (ds ++ es)
  one_after_other low mid high ds es a b = record {
    positions = a.positions ++ b.positions;
    rising = rises low mid high a.positions b.positions a.rising b.rising;
    done = done_both a.positions b.positions ds es a.done b.done;
    all_own = ap (own_events desk) (split_acts low mid high (within low mid a.positions a.rising) (within mid high b.positions b.rising))
        ∙ own_both (take (mid - low) (drop low acts)) (take (high - mid) (drop mid acts))
        ∙ ap₂ (λ (x y : List Event). x ++ y) a.all_own b.all_own
        ∙ sym (events_both base.params.m ds es);
  }
