-- Calls that look and link.
use Rattle.std.proofs.Common.{◌≡◌, ℕ, zero, suc, ◌<◌, ◌≤◌, Bool, true, true≢false, cond, List, [], ◌∷◌, ◌++◌, filter, map, length, get_or, Option, refl, sym, ap, subst, ◌∙◌, arith, append-nil, append_assoc}
use Rattle.std.specs.List.{AllByRecursion}
use Rattle.std.proofs.lemmas.List.{map-append}
use Rattle.std.proofs.lemmas.List.Elements.{filter-append}
use Rattle.vec_names.specs.declared.tid.Tid.{Tid}
use Rattle.vec_names.specs.declared.params.Params.{Params}
use Rattle.vec_names.specs.declared.params.Kind.{Kind}
use Rattle.vec_names.specs.declared.params.Kind.TheVariants.{Hnsw}
use Rattle.vec_names.specs.Params.{IsGraphInRange, IsInRange, IsInRangeOf}
use Rattle.vec_history.specs.declared.event.Event.{Event}
use Rattle.vec_history.specs.declared.event.Act.{Act}
use Rattle.vec_history.specs.declared.gate.Gate.TheVariants.{Update}
use Rattle.vec_history.specs.Gates.{IsOfGate}
use Rattle.vec_graph.specs.declared.graph.Graph.{Graph}
use Rattle.vec_graph.specs.Knowing.{Knows}
use Rattle.neighbour_pick.specs.declared.found.Found.{Found}
use Rattle.graph_search.specs.Reads.{Look, Answer}
use Rattle.graph_search.specs.Deeds.{Deed, Reply, Links, Done, Placed, NoRoom, Full, NotJoined, Stale, Changed, looked, asked, looks_of}
use Rattle.graph_search.specs.Insert.{LinksBack, Target, most_in}
use Rattle.search_sets.specs.declared.spot.Spot.{Spot}
use Rattle.search_sets.specs.Standing.{spot_of}
use Rattle.vec_steps.specs.declared.ask.Ask.TheVariants as ask
use Rattle.vec_steps.specs.declared.fault.StepFault.TheVariants as fault
use Rattle.vec_steps.specs.declared.fault.OpFault.{OpFault}
use Rattle.vec_steps.specs.declared.fault.OpFault.TheVariants as op
use Rattle.vec_steps.specs.Index.{Index, OfNodes, OfLists, IsLegal, IsOfParams, IsShaped}
use Rattle.vec_steps.specs.Doing.{Step, did, overfull, cleaned, viewed, placed, settled, faulted, step_events}
use Rattle.vec_steps.specs.Telling.{fault_step}
use Rattle.vec_steps.specs.Desks.{Asks, Desk}
use Rattle.vec_steps.specs.Calls.{Acts, Does, Looks, NoneOf, course_at, events_of, is_look, look_positions, steps_of}
use Rattle.vec_steps.proofs.Following.{does_over, does_so_over, does_so_then, does_then, does_nothing}
use Rattle.vec_steps.proofs.AsDeeds.{deeds_both}
use Rattle.vec_steps.proofs.Lasting.{holds_last, knows_last}
use Rattle.layer_search.specs.Telling.{OverSpots, StandsAt}
use Rattle.layer_search.specs.Looking.{EndedBy, MadeLooks}
use Rattle.layer_search.specs.Linking.{IsLinkRefused, IsLinkStep, LinksAll, LinksSo, MadeLinks, MayLinkBack, MayLinkIn, OverLink, OverLinks, StoppedBy}
use Rattle.layer_search.proofs.Looks.{looks_are}
use Rattle.layer_search.proofs.Steadiness.{all_both}
use Rattle.layer_search.proofs.Told.{stand_later}

-- ---- looks are links too

all_looks : (course : List (ℕ × Step)) → Looks course → filter (λ s. is_look s.1) course ≡ course
all_looks [] l = refl
all_looks (s ∷ course) l =
    let rest : List (ℕ × Step) = filter (λ s. is_look s.1) course in
    ap (λ (b : Bool). cond b (s ∷ rest) rest) l.0 ∙ ap (λ (k : List (ℕ × Step)). s ∷ k) (all_looks course l.1)

link_of_look : (to : Tid) (s : Step) → is_look s ≡ true → IsLinkStep to s
link_of_look to (did (looked look told)) h = tt
link_of_look to (did (asked change reply)) h = absurd (true≢false (sym h))
link_of_look to (overfull node blocks need) h = absurd (true≢false (sym h))
link_of_look to (cleaned change reply) h = absurd (true≢false (sym h))
link_of_look to (viewed look told) h = tt
link_of_look to (placed change reply) h = absurd (true≢false (sym h))
link_of_look to (settled upto) h = absurd (true≢false (sym h))
link_of_look to (faulted count) h = absurd (true≢false (sym h))

pub only_looks : (to : Tid) (course : List (ℕ × Step)) → Looks course → AllByRecursion (λ s. IsLinkStep to s.1) course
only_looks to [] l = tt
only_looks to (s ∷ course) l = (link_of_look to s.1 l.0, only_looks to course l.1)

pub links_looks : {over : Index → Type 0} {d : Desk} {old new : List Act} {before now : List ℕ} {reads : List (Look × Answer)} (to : Tid)
    → MadeLooks over d old new before now reads → MadeLinks to over d old new before now (looks_of reads)
links_looks {before = before} {reads = reads} to m =
    let looks = looks_are m.course reads m.is.deeds in
    record {
      course = m.course;
      does = m.does;
      is = record {
        are = m.is.deeds;
        only = only_looks to m.course looks;
        traced = m.is.traced ∙ ap (λ (l : List (ℕ × Step)). before ++ map (λ (s : ℕ × Step). s.0) l) (sym (all_looks m.course looks));
      };
    }

-- ---- calls after each other

positions_both : (a b : List (ℕ × Step)) → look_positions (a ++ b) ≡ look_positions a ++ look_positions b
positions_both a b =
    ap (map (λ (s : ℕ × Step). s.0)) (filter-append (λ (s : ℕ × Step). is_look s.1) a b)
    ∙ map-append (λ (s : ℕ × Step). s.0) (filter (λ (s : ℕ × Step). is_look s.1) a) (filter (λ (s : ℕ × Step). is_look s.1) b)

linked_both : (to : Tid) (ds es : List Deed) (before amid now : List ℕ) (a b : List (ℕ × Step)) → LinksSo to ds before amid a → LinksSo to es amid now b
    → LinksSo to (ds ++ es) before now (a ++ b)
linked_both to ds es before amid now a b x y = record {
  are = deeds_both a b ds es x.are y.are;
  only = all_both (λ (s : ℕ × Step). IsLinkStep to s.1) a b x.only y.only;
  traced = y.traced ∙ ap (λ (l : List ℕ). l ++ look_positions b) x.traced ∙ append_assoc before (look_positions a) (look_positions b)
      ∙ ap (λ (l : List ℕ). before ++ l) (sym (positions_both a b));
}

pub links_then : {to : Tid} {over later : Index → Type 0} {d e : Desk} {old mid new : List Act} {before amid now : List ℕ} {ds es : List Deed} → e ≡ d
    → ((base : Index) → over base → later base) → MadeLinks to over d old mid before amid ds → MadeLinks to later e mid new amid now es
    → MadeLinks to over d old new before now (ds ++ es)
links_then {to = to} {before = before} {amid = amid} {now = now} {ds = ds} {es = es} same on x y =
    does_so_then same (λ a b p q. linked_both to ds es before amid now a b p q) on x y

pub links_none : {over : Index → Type 0} {d : Desk} (to : Tid) (acts : List Act) (trace : List ℕ) → MadeLinks to over d acts acts trace trace []
links_none to acts trace = record { course = []; does = does_nothing acts; is = record { are = tt; only = tt; traced = sym (append-nil trace) } }

-- ---- faults

pub stopped_looks : {over : Index → Type 0} {d : Desk} {old new : List Act} {end : OpFault} (to : Tid) → EndedBy over d old new end
    → StoppedBy to over d old new end
stopped_looks to b = record {
  course = b.looked;
  only = only_looks to b.looked b.only_looks;
  at = b.at;
  step_fault = b.step_fault;
  fault_is = b.fault_is;
  does = b.does;
  of_log = λ base o h. absurd (b.not_of_log base o h);
}

pub stopped_then : {to : Tid} {over later : Index → Type 0} {d e : Desk} {old mid new : List Act} {before now : List ℕ} {ds : List Deed} {end : OpFault}
    → e ≡ d → ((base : Index) → over base → later base) → MadeLinks to over d old mid before now ds → StoppedBy to later e mid new end
    → StoppedBy to over d old new end
stopped_then {to} {over} {later} {d} {e} {old} {mid} {new} same on m b = record {
  course = m.course ++ b.course;
  only = all_both (λ (s : ℕ × Step). IsLinkStep to s.1) m.course b.course m.is.only b.only;
  at = b.at;
  step_fault = b.step_fault;
  fault_is = b.fault_is;
  does = subst (Does over d old new) (sym (append_assoc m.course b.course (course_at b.at (fault_step b.step_fault))))
      (does_then on m.does
      (subst (λ (k : Desk). Does later k mid new (b.course ++ course_at b.at (fault_step b.step_fault))) same b.does));
  of_log = λ base o h. subst (λ (k : Desk). IsLinkRefused k base new to b.step_fault) same (b.of_log base (on base o) h);
}

-- no memory was found, after these
pub stopped_memory : {to : Tid} {over : Index → Type 0} {d : Desk} {old new : List Act} {before now : List ℕ} {ds : List Deed} (end : OpFault)
    → end ≡ op.Memory → MadeLinks to over d old new before now ds → StoppedBy to over d old new end
stopped_memory {over = over} {d = d} {old = old} {new = new} end is m = record {
  course = m.course;
  only = m.is.only;
  at = 0;
  step_fault = fault.Memory;
  fault_is = is;
  does = subst (Does over d old new) (sym (append-nil m.course)) m.does;
  of_log = λ base o h. absurd h;
}

pub stopped_first : {over : Index → Type 0} {d : Desk} (to : Tid) (acts : List Act) (end : OpFault) → end ≡ op.Memory → StoppedBy to over d acts acts end
stopped_first to acts end is = stopped_memory end is (links_none to acts [])

pub stopped_over : {to : Tid} {more fewer : Index → Type 0} {d : Desk} {old new : List Act} {end : OpFault} → ((base : Index) → fewer base → more base)
    → StoppedBy to more d old new end → StoppedBy to fewer d old new end
stopped_over on b = record {
  course = b.course;
  only = b.only;
  at = b.at;
  step_fault = b.step_fault;
  fault_is = b.fault_is;
  does = does_over on b.does;
  of_log = λ base o h. b.of_log base (on base o) h;
}

-- ---- no gate

reply_no_gate : (to at list_at : Tid) (level version layer slot : ℕ) (held : Option Tid) (p : Params) (r : Reply)
    → NoneOf (IsOfGate Update) (step_events p (did (asked (Links at list_at level version layer slot held to) r)))
reply_no_gate to at list_at level version layer slot held p Done = (λ h. h, tt)
reply_no_gate to at list_at level version layer slot held p (Placed place) = tt
reply_no_gate to at list_at level version layer slot held p NoRoom = tt
reply_no_gate to at list_at level version layer slot held p Full = tt
reply_no_gate to at list_at level version layer slot held p NotJoined = tt
reply_no_gate to at list_at level version layer slot held p Stale = tt
reply_no_gate to at list_at level version layer slot held p Changed = tt

step_no_gate : (to : Tid) (p : Params) (s : Step) → IsLinkStep to s → NoneOf (IsOfGate Update) (step_events p s)
step_no_gate to p (did (looked look told)) i = tt
step_no_gate to p (did (asked (Links at list_at level version layer slot held other) r)) i = reply_no_gate other at list_at level version layer slot held p r
step_no_gate to p (viewed look told) i = tt
step_no_gate to p _ i = absurd i

none_both : (P : Event → Type 0) (es fs : List Event) → NoneOf P es → NoneOf P fs → NoneOf P (es ++ fs)
none_both P [] fs a b = b
none_both P (e ∷ es) fs a b = (a.0, none_both P es fs a.1 b)

no_gate : (to : Tid) (p : Params) (course : List (ℕ × Step)) → AllByRecursion (λ s. IsLinkStep to s.1) course
    → NoneOf (IsOfGate Update) (events_of p (steps_of course))
no_gate to p [] all = tt
no_gate to p (s ∷ course) all =
    none_both (IsOfGate Update) (step_events p s.1) (events_of p (steps_of course)) (step_no_gate to p s.1 all.0) (no_gate to p course all.1)

-- ---- over which bases

stand_picks : (g : Graph) {desk : ℕ} {old new : List Act} {es : List Event} (picks : List (ℕ × Found)) → IsShaped (OfNodes g) → IsLegal (OfNodes g) new
    → Acts desk old new es → AllByRecursion (λ p. StandsAt g old p.0 (spot_of p.1)) picks → AllByRecursion (λ p. StandsAt g new p.0 (spot_of p.1)) picks
stand_picks g [] shaped legal x all = tt
stand_picks g (p ∷ picks) shaped legal x all =
    ((stand_later p.0 (spot_of p.1 ∷ []) (OfNodes g) shaped legal x (all.0, tt)).0, stand_picks g picks shaped legal x all.1)

know_picks : (g : Graph) {desk : ℕ} {old new : List Act} {es : List Event} (at : Tid) (picks : List (ℕ × Found)) → NoneOf (IsOfGate Update) es
    → Acts desk old new es → AllByRecursion (λ p. Knows g old desk at p.0) picks → AllByRecursion (λ p. Knows g new desk at p.0) picks
know_picks g at [] none x all = tt
know_picks g at (p ∷ picks) none x all = (knows_last x g at p.0 none all.0, know_picks g at picks none x all.1)

may_later : {desk : ℕ} {old new : List Act} {es : List Event} (at : Tid) (picks : List (ℕ × Found)) (base : Index) → IsShaped base → IsLegal base new
    → Acts desk old new es → NoneOf (IsOfGate Update) es → MayLinkIn old desk at picks base → MayLinkIn new desk at picks base
may_later at picks (OfNodes g) shaped legal x none m = record {
  update = holds_last x Update none m.update;
  stand = stand_picks g picks shaped legal x m.stand;
  known = know_picks g at picks none x m.known;
}
may_later at picks (OfLists g) shaped legal x none m = absurd m

-- what may be linked may be linked after looks and links
pub over_made : {stands later over : Index → Type 0} {d e : Desk} {old new : List Act} {to : Tid} {before now : List ℕ} {ds : List Deed} (at : Tid)
    (picks : List (ℕ × Found)) (base : Index) → e ≡ d → MadeLinks to over d old new before now ds → IsShaped base → IsLegal base new → later base
    → OverLinks stands d old at picks base → OverLinks later e new at picks base
over_made {d = d} {new = new} {to = to} at picks base same m shaped legal stood o = record {
  stood = stood;
  may = subst (λ (k : Desk). MayLinkIn new k.number at picks base) (sym same)
      (may_later at picks base shaped legal m.does.acts (no_gate to d.params m.course m.is.only) o.may);
}

-- over one neighbour

link_spot : {stands : Index → Type 0} {d : Desk} {acts : List Act} (at : Tid) (layer : ℕ) (e : Found) (base : Index) → OverLink stands d acts at layer e base
    → OverSpots stands acts layer (spot_of e ∷ []) base
link_spot at layer e (OfNodes g) o = record { stood = o.stood; there = (o.may.stand.0, tt) }
link_spot at layer e (OfLists g) o = absurd o.may

pub at_spot : {stands : Index → Type 0} {d : Desk} {acts : List Act} (at : Tid) (layer : ℕ) (e : Found) (spot : Spot) → spot ≡ spot_of e → (base : Index)
    → OverLink stands d acts at layer e base → OverSpots stands acts layer (spot ∷ []) base
at_spot {stands = stands} {acts = acts} at layer e spot is base o =
    subst (λ (s : Spot). OverSpots stands acts layer (s ∷ []) base) (sym is) (link_spot at layer e base o)

pub no_spot : {stands later : Index → Type 0} {old new : List Act} (layer : ℕ) (spots : List Spot) (base : Index) → later base → OverSpots stands old layer spots base
    → OverSpots later new layer [] base
no_spot layer spots (OfNodes g) stood o = record { stood = stood; there = tt }
no_spot layer spots (OfLists g) stood o = absurd o.there

-- one of many
pub at_of : (P : ℕ × Found → Type 0) (xs : List (ℕ × Found)) (j : ℕ) (x : ℕ × Found) → j < length xs → x ≡ get_or xs j x → AllByRecursion P xs → P x
at_of P [] j x inside same all = absurd (omega (arith, inside))
at_of P (y ∷ xs) zero x inside same all = subst P (sym same) all.0
at_of P (y ∷ xs) (suc j) x inside same all = at_of P xs j x (omega (arith, inside)) same all.1

one_may : (acts : List Act) (desk : ℕ) (at : Tid) (picks : List (ℕ × Found)) (k : ℕ) (layer : ℕ) (e : Found) (g : Graph) → k < length picks
    → (layer, e) ≡ get_or picks k (layer, e) → MayLinkBack g acts desk at picks → MayLinkBack g acts desk at ((layer, e) ∷ [])
one_may acts desk at picks k layer e g within is m = record {
  update = m.update;
  stand = (at_of (λ p. StandsAt g acts p.0 (spot_of p.1)) picks k (layer, e) within is m.stand, tt);
  known = (at_of (λ p. Knows g acts desk at p.0) picks k (layer, e) within is m.known, tt);
}

pub one_link : {stands : Index → Type 0} {d : Desk} {acts : List Act} (at : Tid) (picks : List (ℕ × Found)) (k : ℕ) (layer : ℕ) (e : Found) (base : Index)
    → k < length picks → (layer, e) ≡ get_or picks k (layer, e) → OverLinks stands d acts at picks base → OverLink stands d acts at layer e base
one_link {d = d} {acts = acts} at picks k layer e (OfNodes g) within is o = record { stood = o.stood; may = one_may acts d.number at picks k layer e g within is o.may }
one_link at picks k layer e (OfLists g) within is o = absurd o.may

-- ---- the ask

same_m : (d : Desk) (g : Graph) (m : ℕ) → m ≡ d.params.m → IsOfParams d.params (OfNodes g) → m ≡ g.params.m
same_m d g m is of = is ∙ ap (λ (p : Params). p.m) (sym of.has.1)

pub link_asks : {stands : Index → Type 0} {d : Desk} {acts : List Act} (at : Tid) (layer slot m : ℕ) (e : Found) (held : Option Tid) → m ≡ d.params.m
    → slot < most_in m layer → ((base : Index) → stands base → IsOfParams d.params base) → (base : Index) → OverLink stands d acts at layer e base
    → Asks stands d acts (ask.Link e.at e.list_at e.level e.version layer slot held at) base
link_asks {d = d} at layer slot m e held m_is within index (OfNodes g) o = record {
  stood = o.stood;
  may = record {
    update = o.may.update;
    owner = o.may.stand.0.0;
    reaches = o.may.stand.0.1;
    slot_is = subst (λ (k : ℕ). slot < most_in k layer) (same_m d g m m_is (index (OfNodes g) o.stood)) within;
    known = o.may.known.0;
  };
}
link_asks at layer slot m e held m_is within index (OfLists g) o = absurd o.may

-- ---- neighbours as a slice

pub over_picks : {stands : Index → Type 0} {d : Desk} {acts : List Act} (at : Tid) (slice picks : List (ℕ × Found)) → slice ≡ picks → (base : Index)
    → OverLinks stands d acts at picks base → OverLinks stands d acts at slice base
over_picks {stands = stands} {d = d} {acts = acts} at slice picks is base o =
    subst (λ (l : List (ℕ × Found)). OverLinks stands d acts at l base) (sym is) o

pub all_over : {stands : Index → Type 0} {d e : Desk} {acts old new : List Act} {before now : List ℕ} {t : Target} {count : ℕ} (at : Tid)
    (slice picks : List (ℕ × Found)) → slice ≡ picks → LinksAll (OverLinks stands d acts at slice) e old new before now t slice count
    → LinksAll (OverLinks stands d acts at picks) e old new before now t picks count
all_over {t = t} at slice picks is l = record {
  deeds = l.deeds;
  made = does_so_over (over_picks at slice picks is) l.made;
  links = subst (λ (p : List (ℕ × Found)). LinksBack t p l.deeds) is l.links;
  counted = l.counted;
}

-- an index of nodes has at least two neighbours in a layer, and at most a hundred
pub m_range : (p : Params) → IsInRange p → p.kind ≡ Hnsw → (1 ≤ p.m) × (p.m ≤ 100)
m_range p range nodes =
    let here : IsGraphInRange p = subst (λ (k : Kind). IsInRangeOf k p) nodes range.of_kind in
    let low = here.m_low in
    (omega (arith, low), here.m_high)
