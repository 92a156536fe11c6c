-- The worked graphs of two nodes.
use Rattle.std.proofs.Common.{◌≡◌, ◌⊎◌, inl, inr, ℕ, zero, suc, ◌+◌, ◌-◌, ◌/◌, ◌<◌, ◌≤◌, true, false, List, [], ◌∷◌, slice_get, Option, Some, refl, sym, ap, subst, ◌∙◌, arith}
use Rattle.std.specs.FinMap as fin
use Rattle.std.proofs.lemmas.Option.{none-some, same_Some}
use Rattle.vec_names.specs.declared.tid.Tid.{Tid}
use Rattle.vec_names.specs.Order.{tid_cmp_total}
use Rattle.vec_history.specs.declared.event.Event.TheVariants as event
use Rattle.vec_history.specs.declared.event.Act.{Act}
use Rattle.vec_history.specs.Acts.{act_of}
use Rattle.vec_history.specs.Phases.{IsBehindDrops, IsDrop}
use Rattle.vec_graph.specs.declared.node.Node.{Node}
use Rattle.vec_graph.specs.declared.graph.Graph.{Graph}
use Rattle.vec_graph.specs.Graph.{node_at, IsLiveAt, IsDoomed, IsUndeletedAt, IsMember, HasMember}
use Rattle.vec_graph.specs.Effect.{relisted, changed, changed_from, state_after}
use Rattle.vec_graph.specs.Sound.{IsReachedFrom, from_root, through, IsAsHigh, IsRoot, root_entry, root_live, IsSound}
use Rattle.vec_graph.specs.Cleaning.{IsCleanAt}
use Rattle.vec_graph.proofs.Placing.{after_insert, none_on_empty}
use Rattle.graph_law.specs.Touching.{IsTouchedAt, as_entry, as_live, as_member, IsTouched}
use Rattle.graph_law.specs.Standing.{IsCleanFrom}
use Rattle.graph_law.specs.Examples.{first, second, third, row, nobody, naming, live, doomed, deleted, high_naming, pair, names_doomed, scans, drops, repairs}
use Rattle.graph_law.proofs.Soundness.{sound_by}
use Rattle.graph_law.proofs.Touched.{touched_within}

-- ---- a graph of these two nodes

record IsPair (g : Graph) (one two : Node) : Type 0 where
  m_2 : g.params.m ≡ 2
  entry : g.entry ≡ Some first
  at_first : node_at g first ≡ Some one
  at_second : node_at g second ≡ Some two
  only : (q : Tid) (n : Node) → node_at g q ≡ Some n → ((q ≡ first) × (n ≡ one)) ⊎ ((q ≡ second) × (n ≡ two))

some_ids : row ∷ [] ≡ [] → ⊥
some_ids is = absurd cc

not_both : true ≡ false → ⊥
not_both is = absurd cc

apart : first ≡ second → ⊥
apart same = let off : 1 ≡ 3 = ap (λ (t : Tid). t.off) same in absurd (omega (arith, off))

third_first : third ≡ first → ⊥
third_first same = let off : 5 ≡ 1 = ap (λ (t : Tid). t.off) same in absurd (omega (arith, off))

third_second : third ≡ second → ⊥
third_second same = let off : 5 ≡ 3 = ap (λ (t : Tid). t.off) same in absurd (omega (arith, off))

module _ (one two : Node) where
  pair_is : IsPair (pair one two) one two
  pair_is = record {
    m_2 = refl;
    entry = refl;
    at_first = fin.get-insert tid_cmp_total (fin.insert fin.empty first one) second two first
        ∙ fin.get-insert tid_cmp_total fin.empty first one first;
    at_second = fin.get-insert tid_cmp_total (fin.insert fin.empty first one) second two second;
    only = λ q n is.
        elim (after_insert (record (pair one two) { nodes = fin.insert fin.empty first one }) second two q n is) as
        (λ _. ((q ≡ first) × (n ≡ one)) ⊎ ((q ≡ second) × (n ≡ two))) [
          | inl new ↦ inr new
          | inr old ↦
              elim (after_insert (record (pair one two) { nodes = fin.empty }) first one q n old) as (λ _. ((q ≡ first) × (n ≡ one)) ⊎ ((q ≡ second) × (n ≡ two))) [
                | inl new ↦ inl new
                | inr none ↦ absurd (none_on_empty fin.empty refl q n none)
              ]
        ];
  }

-- 1/1 gets other slots
relisted_is : (g : Graph) (one two : Node) (slots : List (Option Tid)) → IsPair g one two → IsPair (changed g first (relisted slots)) (relisted slots one) two
relisted_is g one two slots p =
    subst (λ (o : Option Node). IsPair (changed_from g first (relisted slots) o) (relisted slots one) two) (sym p.at_first) (record {
      m_2 = p.m_2;
      entry = p.entry;
      at_first = fin.get-insert tid_cmp_total g.nodes first (relisted slots one) first;
      at_second = fin.get-insert tid_cmp_total g.nodes first (relisted slots one) second ∙ p.at_second;
      only = λ q n is.
          elim (after_insert g first (relisted slots one) q n is) as (λ _. ((q ≡ first) × (n ≡ relisted slots one)) ⊎ ((q ≡ second) × (n ≡ two))) [
            | inl new ↦ inl new
            | inr old ↦
                elim (p.only q n old) as (λ _. ((q ≡ first) × (n ≡ relisted slots one)) ⊎ ((q ≡ second) × (n ≡ two))) [
                  | inl was ↦
                      let here : fin.get (fin.insert g.nodes first (relisted slots one)) first ≡ Some n =
                      subst (λ (t : Tid). fin.get (fin.insert g.nodes first (relisted slots one)) t ≡ Some n) was.0 is in
                      inl (was.0, same_Some n (relisted slots one) (sym here ∙ fin.get-insert tid_cmp_total g.nodes first (relisted slots one) first))
                  | inr other ↦ inr other
                ]
          ];
    })

-- ---- members

none_named : (slot : ℕ) (to : Tid) → slice_get nobody slot ≡ Some (Some to) → ⊥
none_named zero to e = none-some to (same_Some _ _ e)
none_named (suc zero) to e = none-some to (same_Some _ _ e)
none_named (suc (suc zero)) to e = none-some to (same_Some _ _ e)
none_named (suc (suc (suc zero))) to e = none-some to (same_Some _ _ e)
none_named (suc (suc (suc (suc slot)))) to e = none-some (Some to) e

one_named : (x : Tid) (slot : ℕ) (to : Tid) → slice_get (naming x) slot ≡ Some (Some to) → to ≡ x
one_named x zero to e = sym (same_Some x to (same_Some _ _ e))
one_named x (suc zero) to e = absurd (none-some to (same_Some _ _ e))
one_named x (suc (suc zero)) to e = absurd (none-some to (same_Some _ _ e))
one_named x (suc (suc (suc zero))) to e = absurd (none-some to (same_Some _ _ e))
one_named x (suc (suc (suc (suc slot)))) to e = absurd (none-some (Some to) e)

module _ (g : Graph) (one two : Node) (p : IsPair g one two) where
  members_of : (at : Tid) (layer : ℕ) (to : Tid) → HasMember g at layer to
      → ((at ≡ first) × IsMember 2 one.level one.slots layer to) ⊎ ((at ≡ second) × IsMember 2 two.level two.slots layer to)
  members_of at layer to has =
      let member : IsMember 2 has.node.level has.node.slots layer to =
      subst (λ (m : ℕ). IsMember m has.node.level has.node.slots layer to) p.m_2 has.member in
      elim (p.only at has.node has.stands) as
      (λ _. ((at ≡ first) × IsMember 2 one.level one.slots layer to) ⊎ ((at ≡ second) × IsMember 2 two.level two.slots layer to)) [
        | inl here ↦ inl (here.0, subst (λ (n : Node). IsMember 2 n.level n.slots layer to) here.1 member)
        | inr there ↦ inr (there.0, subst (λ (n : Node). IsMember 2 n.level n.slots layer to) there.1 member)
      ]

  has_of : (layer : ℕ) (to : Tid) → IsMember 2 one.level one.slots layer to → HasMember g first layer to
  has_of layer to member = record {
    node = one;
    stands = p.at_first;
    member = subst (λ (m : ℕ). IsMember m one.level one.slots layer to) (sym p.m_2) member;
  }

  has_of_other : (layer : ℕ) (to : Tid) → IsMember 2 two.level two.slots layer to → HasMember g second layer to
  has_of_other layer to member = record {
    node = two;
    stands = p.at_second;
    member = subst (λ (m : ℕ). IsMember m two.level two.slots layer to) (sym p.m_2) member;
  }

  entry_reached : IsReachedFrom g (IsRoot g) first
  entry_reached = from_root first (root_entry first p.entry)

  is_entry : (at : Tid) → g.entry ≡ Some at → at ≡ first
  is_entry at is = same_Some at first (sym is ∙ p.entry)

  -- a live node here is the first where the other has no ids
  live_here : two.ids ≡ [] → (at : Tid) (layer : ℕ) → IsLiveAt g at layer → at ≡ first
  live_here none at layer l =
      elim (p.only at l.node l.stands) as (λ _. at ≡ first) [
        | inl here ↦ here.0
        | inr there ↦ absurd (l.live.has_ids (ap (λ (n : Node). n.ids) there.1 ∙ none))
      ]

  -- where the first names nobody, and is the only live one
  lone_root : two.ids ≡ [] → (at : Tid) → IsRoot g at → at ≡ first
  lone_root none at (root_entry _ is) = is_entry at is
  lone_root none at (root_live _ l) = live_here none at 0 l

  lone_member : one.slots ≡ nobody → (at : Tid) (layer : ℕ) (to : Tid) → at ≡ first → HasMember g at layer to → ⊥
  lone_member nobody_is at layer to same has =
      elim (members_of at layer to has) as (λ _. ⊥) [
        | inl here ↦ none_named here.1.slot to (subst (λ (slots : List (Option Tid)). slice_get slots here.1.slot ≡ Some (Some to)) nobody_is here.1.names)
        | inr there ↦ apart (sym same ∙ there.0)
      ]

-- ---- sound, and not

lowest : (layer slot : ℕ) → 0 - slot / 2 ≡ layer → layer ≤ 0
lowest layer slot within = omega (arith, within)

worked : IsPair names_doomed (live (naming second)) (doomed nobody)
worked = pair_is (live (naming second)) (doomed nobody)

Either : Tid → Type 0
Either q = (q ≡ first) ⊎ (q ≡ second)

roots : (at : Tid) → IsRoot names_doomed at → Either at
unfolding Either
roots at (root_entry _ is) = inl (is_entry names_doomed (live (naming second)) (doomed nobody) worked at is)
roots at (root_live _ l) = inl (live_here names_doomed (live (naming second)) (doomed nobody) worked refl at 0 l)

closed : (at : Tid) (layer : ℕ) (to : Tid) → Either at → HasMember names_doomed at layer to → Either to × IsAsHigh names_doomed to layer
unfolding Either
closed at layer to part has =
    elim (members_of names_doomed (live (naming second)) (doomed nobody) worked at layer to has) as (λ _. ((to ≡ first) ⊎ (to ≡ second)) × IsAsHigh names_doomed to layer) [
      | inl here ↦
          let there : to ≡ second = one_named second here.1.slot to here.1.names in (
            inr there,
            subst (λ (t : Tid). IsAsHigh names_doomed t layer) (sym there) (record {
              node = doomed nobody;
              stands = worked.at_second;
              reaches = lowest layer here.1.slot here.1.within;
            }),
          )
      | inr other ↦ absurd (none_named other.1.slot to other.1.names)
    ]

good : (at : Tid) → Either at → IsUndeletedAt names_doomed at
unfolding Either
good at (inl here) = subst (λ (t : Tid). IsUndeletedAt names_doomed t) (sym here)
    (record { node = live (naming second); stands = worked.at_first; not_deleted = refl })
good at (inr there) = subst (λ (t : Tid). IsUndeletedAt names_doomed t) (sym there)
    (record { node = doomed nobody; stands = worked.at_second; not_deleted = refl })

pub sound_doomed : IsSound names_doomed
sound_doomed = sound_by names_doomed (IsRoot names_doomed) Either roots closed good

-- a doomed node that is not reached may name a place where nothing stands
pub sound_not_reached : IsSound (pair (live nobody) (doomed (naming third)))
sound_not_reached =
    let g : Graph = pair (live nobody) (doomed (naming third)) in
    let p = pair_is (live nobody) (doomed (naming third)) in
    sound_by g (IsRoot g) (λ q. q ≡ first)
    (λ at root. lone_root g (live nobody) (doomed (naming third)) p refl at root)
    (λ at layer to here has. absurd (lone_member g (live nobody) (doomed (naming third)) p refl at layer to here has))
    (λ at here. subst (λ (t : Tid). IsUndeletedAt g t) (sym here) (record { node = live nobody; stands = p.at_first; not_deleted = refl }))

pub names_deleted : IsSound (pair (live (naming second)) (deleted nobody)) → ⊥
names_deleted sound =
    let g : Graph = pair (live (naming second)) (deleted nobody) in
    let p = pair_is (live (naming second)) (deleted nobody) in
    let has = has_of g (live (naming second)) (deleted nobody) p 0 second (record { slot = 0; names = refl; within = refl }) in
    let there = sound.not_deleted second (through first 0 second (entry_reached g (live (naming second)) (deleted nobody) p) has) in
    absurd (not_both (sym (ap (λ (n : Node). n.deleted) (same_Some there.node (deleted nobody) (sym there.stands ∙ p.at_second))) ∙ there.not_deleted))

pub leads_to_nothing : IsSound (pair (live (naming second)) (doomed (naming third))) → ⊥
leads_to_nothing sound =
    let g : Graph = pair (live (naming second)) (doomed (naming third)) in
    let p = pair_is (live (naming second)) (doomed (naming third)) in
    let has = has_of g (live (naming second)) (doomed (naming third)) p 0 second (record { slot = 0; names = refl; within = refl }) in
    let on = has_of_other g (live (naming second)) (doomed (naming third)) p 0 third (record { slot = 0; names = refl; within = refl }) in
    let reached = through second 0 third (through first 0 second (entry_reached g (live (naming second)) (doomed (naming third)) p) has) on in
    let there = sound.not_deleted third reached in
    elim (p.only third there.node there.stands) as (λ _. ⊥) [
      | inl here ↦ third_first here.0
      | inr here ↦ third_second here.0
    ]

pub too_low : IsSound (pair (high_naming second) (live nobody)) → ⊥
too_low sound =
    let g : Graph = pair (high_naming second) (live nobody) in
    let p = pair_is (high_naming second) (live nobody) in
    let has = has_of g (high_naming second) (live nobody) p 1 second (record { slot = 0; names = refl; within = refl }) in
    let there = sound.high_enough first 1 second (entry_reached g (high_naming second) (live nobody) p) has in
    let low : there.node.level ≡ 0 = ap (λ (n : Node). n.level) (same_Some there.node (live nobody) (sym there.stands ∙ p.at_second)) in
    let high = there.reaches in
    absurd (omega (arith, low, high))

-- ---- touched, and not

after_relist : IsPair (state_after names_doomed scans 2) (live nobody) (doomed nobody)
after_relist = relisted_is names_doomed (live (naming second)) (doomed nobody) nobody worked

untouched : (since p : ℕ) (q : Tid) → IsTouchedAt names_doomed scans since p q → q ≡ second
    → IsPair (state_after names_doomed scans p) (live nobody) (doomed nobody) → ⊥
untouched since p q (as_entry _ _ later met is) same g =
    apart (sym (is_entry (state_after names_doomed scans p) (live nobody) (doomed nobody) g q is) ∙ same)
untouched since p q (as_live _ _ later met l) same g =
    apart (sym (live_here (state_after names_doomed scans p) (live nobody) (doomed nobody) g refl q 0 l) ∙ same)
untouched since p q (as_member before _ at layer _ t order met has) same g =
    elim (members_of (state_after names_doomed scans p) (live nobody) (doomed nobody) g at layer q has) as (λ _. ⊥) [
      | inl here ↦ none_named here.1.slot q here.1.names
      | inr here ↦ none_named here.1.slot q here.1.names
    ]

pub touched_then : IsTouchedAt names_doomed scans 0 1 second
touched_then =
    as_member 1 1 first 0 second (as_entry 1 first (omega arith) (omega arith) refl) (omega arith) (omega arith)
    (has_of names_doomed (live (naming second)) (doomed nobody) worked 0 second (record { slot = 0; names = refl; within = refl }))

pub not_touched_then : IsTouchedAt names_doomed scans 0 2 second → ⊥
not_touched_then t = untouched 0 2 second t refl after_relist

pub not_touched_later : IsTouched names_doomed scans 2 second → ⊥
not_touched_later t =
    let within = touched_within names_doomed scans 2 t.position second t.is in
    let last : 3 ≡ t.position = omega (arith, within.0, within.1) in
    untouched 2 t.position second t.is refl
    (subst (λ (k : ℕ). IsPair (state_after names_doomed scans k) (live nobody) (doomed nobody)) last after_relist)

-- ---- behind all Drops, and not

pub before_a_drop : IsBehindDrops drops 0 → ⊥
before_a_drop b = b.no_drop 1 (act_of 1 (event.Drop second 1 1)) (omega arith) refl tt

no_more_acts : (j : ℕ) (a : Act) → 2 < j → slice_get drops j ≡ Some a → ⊥
no_more_acts zero a later is = absurd (omega (arith, later))
no_more_acts (suc zero) a later is = absurd (omega (arith, later))
no_more_acts (suc (suc zero)) a later is = absurd (omega (arith, later))
no_more_acts (suc (suc (suc j))) a later is = none-some a is

pub behind_the_drop : IsBehindDrops drops 2
behind_the_drop = record { desk = 1; taken = refl; no_drop = λ j a later is drop. absurd (no_more_acts j a later is) }

-- ---- clean, and not

pub not_clean : IsCleanAt names_doomed first 0 → ⊥
not_clean clean =
    clean second (has_of names_doomed (live (naming second)) (doomed nobody) worked 0 second (record { slot = 0; names = refl; within = refl }))
    (record { node = doomed nobody; stands = worked.at_second; doomed = record { not_deleted = refl; no_ids = refl } })

not_doomed : (slots : List (Option Tid)) (n : Node) → n ≡ live slots → IsDoomed n → ⊥
not_doomed slots n same d = absurd (some_ids (sym (ap (λ (m : Node). m.ids) same) ∙ d.no_ids))

pub clean : IsCleanAt (pair (live (naming second)) (live nobody)) first 0
clean to has d =
    let g : Graph = pair (live (naming second)) (live nobody) in
    let p = pair_is (live (naming second)) (live nobody) in
    elim (p.only to d.node d.stands) as (λ _. ⊥) [
      | inl here ↦ not_doomed (naming second) d.node here.1 d.doomed
      | inr here ↦ not_doomed nobody d.node here.1 d.doomed
    ]

no_drops : (j : ℕ) (a : Act) → slice_get repairs j ≡ Some a → IsDrop a.event → ⊥
no_drops zero a is drop = subst (λ (b : Act). IsDrop b.event) (sym (same_Some _ a is)) drop
no_drops (suc zero) a is drop = subst (λ (b : Act). IsDrop b.event) (sym (same_Some _ a is)) drop
no_drops (suc (suc zero)) a is drop = subst (λ (b : Act). IsDrop b.event) (sym (same_Some _ a is)) drop
no_drops (suc (suc (suc j))) a is drop = none-some a is

repaired : IsPair (state_after names_doomed repairs 2) (live nobody) (doomed nobody)
repaired = relisted_is names_doomed (live (naming second)) (doomed nobody) nobody worked

no_members : (at : Tid) (layer : ℕ) (to : Tid) → HasMember (state_after names_doomed repairs 2) at layer to → ⊥
no_members at layer to has =
    elim (members_of (state_after names_doomed repairs 2) (live nobody) (doomed nobody) repaired at layer to has) as (λ _. ⊥) [
      | inl here ↦ none_named here.1.slot to here.1.names
      | inr here ↦ none_named here.1.slot to here.1.names
    ]

pub clean_from_2 : IsCleanFrom names_doomed repairs 2
clean_from_2 = record {
  barrier = 0;
  behind = record { desk = 1; taken = refl; no_drop = λ j a later is drop. no_drops j a is drop };
  later = omega arith;
  met = omega arith;
  cleaned = record {
    layers = λ at layer was. record { position = 2; from_low = omega arith; to_high = omega arith; is = λ to has d. no_members at layer to has };
    entry = record {
      position = 1;
      from_low = omega arith;
      to_high = omega arith;
      is = λ to is d.
          let here = is_entry names_doomed (live (naming second)) (doomed nobody) worked to is in
          let at_first : node_at names_doomed first ≡ Some d.node = subst (λ (t : Tid). node_at names_doomed t ≡ Some d.node) here d.stands in
          not_doomed (naming second) d.node (same_Some d.node (live (naming second)) (sym at_first ∙ worked.at_first)) d.doomed;
    };
  };
}

pub not_clean_from_1 : IsCleanFrom names_doomed repairs 1 → ⊥
not_clean_from_1 c =
    let later = c.later in
    let low : 1 ≡ c.barrier + 1 = omega (arith, later) in
    let was : IsLiveAt (state_after names_doomed repairs (c.barrier + 1)) first 0 =
    subst (λ (k : ℕ). IsLiveAt (state_after names_doomed repairs k) first 0) low
    (record { node = live (naming second); stands = worked.at_first; live = record { not_deleted = refl; has_ids = some_ids }; reaches = omega arith }) in
    let some = c.cleaned.layers first 0 was in
    let from = some.from_low in
    let to = some.to_high in
    let here : some.position ≡ 1 = omega (arith, low, from, to) in
    not_clean (subst (λ (k : ℕ). IsCleanAt (state_after names_doomed repairs k) first 0) here some.is)
