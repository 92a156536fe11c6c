-- Calls of an insert after each other.
use Rattle.std.proofs.Common.{◌≡◌, ℕ, Bool, true, false, true≢false, cond, List, [], ◌∷◌, ◌++◌, filter, map, refl, sym, ap, subst, ◌∙◌, append-nil, append_assoc}
use Rattle.std.specs.List.{AllByRecursion}
use Rattle.std.proofs.lemmas.List.{map-append}
use Rattle.std.proofs.lemmas.List.Elements.{filter-append}
use Rattle.vec_names.specs.declared.tid.Tid.{Tid}
use Rattle.vec_history.specs.declared.event.Act.{Act}
use Rattle.graph_search.specs.Reads.{Look, Answer}
use Rattle.graph_search.specs.Deeds.{Deed, Links, asked, looked, looks_of}
use Rattle.vec_steps.specs.Index.{Index}
use Rattle.vec_steps.specs.Doing.{Step, did, overfull, cleaned, viewed, placed, settled, faulted}
use Rattle.vec_steps.specs.Desks.{Desk}
use Rattle.vec_steps.specs.Calls.{Does, Looks, is_look, look_positions}
use Rattle.vec_steps.proofs.Following.{does_nothing, does_so_as, does_so_over, does_so_then}
use Rattle.vec_steps.proofs.AsDeeds.{deeds_both}
use Rattle.layer_search.specs.Looking.{MadeLooks}
use Rattle.layer_search.specs.Linking.{IsLinkStep, MadeLinks}
use Rattle.layer_search.proofs.Looks.{looks_are}
use Rattle.layer_search.proofs.Steadiness.{all_both}
use Rattle.hnsw_insert.specs.Courses.{Did, DidSo, IsOfInsert, IsUnderGate, Went, WentSo}
use Rattle.hnsw_insert.proofs.Quiet.{all_of_insert}

pub positions_both : (a b : List (ℕ × Step)) → look_positions (a ++ b) ≡ look_positions a ++ look_positions b
positions_both a b =
    ap (map (λ (s : ℕ × Step). s.0)) (filter-append (λ (s : ℕ × Step). is_look s.1) a b)
    ∙ map-append (λ (s : ℕ × Step). s.0) (filter (λ (s : ℕ × Step). is_look s.1) a) (filter (λ (s : ℕ × Step). is_look s.1) b)

traced_both : (a b : List (ℕ × Step)) (before amid now : List ℕ) → amid ≡ before ++ look_positions a → now ≡ amid ++ look_positions b
    → now ≡ before ++ look_positions (a ++ b)
traced_both a b before amid now x y =
    y ∙ ap (λ (l : List ℕ). l ++ look_positions b) x ∙ append_assoc before (look_positions a) (look_positions b)
    ∙ ap (λ (l : List ℕ). before ++ l) (sym (positions_both a b))

-- ---- under the gate

did_both : (ds es : List Deed) (before amid now : List ℕ) (a b : List (ℕ × Step)) → DidSo ds before amid a → DidSo es amid now b
    → DidSo (ds ++ es) before now (a ++ b)
did_both ds es before amid now a b x y = record {
  are = deeds_both a b ds es x.are y.are;
  only = all_both (λ (s : ℕ × Step). IsUnderGate s.1) a b x.only y.only;
  traced = traced_both a b before amid now x.traced y.traced;
}

pub did_then : {over later : Index → Type 0} {d e : Desk} {old mid new : List Act} {before amid now : List ℕ} {ds es : List Deed} → e ≡ d
    → ((base : Index) → over base → later base) → Did over d old mid before amid ds → Did later e mid new amid now es
    → Did over d old new before now (ds ++ es)
did_then {before = before} {amid = amid} {now = now} {ds = ds} {es = es} same on x y =
    does_so_then same (λ a b p q. did_both ds es before amid now a b p q) on x y

pub did_none : {over : Index → Type 0} {d : Desk} (acts : List Act) (trace : List ℕ) → Did over d acts acts trace trace []
did_none acts trace = record { course = []; does = does_nothing acts; is = record { are = tt; only = tt; traced = sym (append-nil trace) } }

pub did_over : {more fewer : Index → Type 0} {d : Desk} {old new : List Act} {before now : List ℕ} {ds : List Deed}
    → ((base : Index) → fewer base → more base) → Did more d old new before now ds → Did fewer d old new before now ds
did_over on x = does_so_over on x

pub did_as : {over : Index → Type 0} {d : Desk} {old new : List Act} {before now : List ℕ} {ds es : List Deed} → ds ≡ es
    → Did over d old new before now ds → Did over d old new before now es
did_as {over} {d} {old} {new} {before} {now} is x = subst (Did over d old new before now) is x

-- one step that is no look
pub did_one : {over : Index → Type 0} {d : Desk} {old new : List Act} {n : ℕ} {s : Step} (deed : Deed) → s ≡ did deed → IsUnderGate (did deed)
    → is_look (did deed) ≡ false → Does over d old new ((n, s) ∷ []) → (trace : List ℕ) → Did over d old new trace trace (deed ∷ [])
did_one {n = n} {s = s} deed is under no_look x trace = record {
  course = (n, s) ∷ [];
  does = x;
  is = record {
    are = (is, tt);
    only = (subst IsUnderGate (sym is) under, tt);
    traced = sym (ap (λ (b : Bool). trace ++ map (λ (t : ℕ × Step). t.0) (cond b ((n, s) ∷ []) [])) (ap is_look is ∙ no_look) ∙ append-nil trace);
  };
}

-- ---- looks

all_looks : (course : List (ℕ × Step)) → Looks course → filter (λ s. is_look s.1) course ≡ course
all_looks [] l = refl
all_looks (s ∷ course) l =
    let rest : List (ℕ × Step) = filter (λ s. is_look s.1) course in
    ap (λ (b : Bool). cond b (s ∷ rest) rest) l.0 ∙ ap (λ (k : List (ℕ × Step)). s ∷ k) (all_looks course l.1)

look_under : (s : Step) → is_look s ≡ true → IsUnderGate s
look_under (did (looked look told)) h = tt
look_under (did (asked change reply)) h = absurd (true≢false (sym h))
look_under (overfull node blocks need) h = absurd (true≢false (sym h))
look_under (cleaned change reply) h = absurd (true≢false (sym h))
look_under (viewed look told) h = tt
look_under (placed change reply) h = absurd (true≢false (sym h))
look_under (settled upto) h = absurd (true≢false (sym h))
look_under (faulted count) h = absurd (true≢false (sym h))

pub looks_under : (course : List (ℕ × Step)) → Looks course → AllByRecursion (λ s. IsUnderGate s.1) course
looks_under [] l = tt
looks_under (s ∷ course) l = (look_under s.1 l.0, looks_under course l.1)

pub did_looks : {over : Index → Type 0} {d : Desk} {old new : List Act} {before now : List ℕ} {reads : List (Look × Answer)}
    → MadeLooks over d old new before now reads → Did over d old new before now (looks_of reads)
did_looks {before = before} {reads = reads} m =
    let looks = looks_are m.course reads m.is.deeds in
    record {
      course = m.course;
      does = m.does;
      is = record {
        are = m.is.deeds;
        only = looks_under m.course looks;
        traced = m.is.traced ∙ ap (λ (l : List (ℕ × Step)). before ++ map (λ (s : ℕ × Step). s.0) l) (sym (all_looks m.course looks));
      };
    }

-- ---- links

link_under : (to : Tid) (s : Step) → IsLinkStep to s → IsUnderGate s
link_under to (did (looked look told)) h = tt
link_under to (did (asked (Links at list_at level version layer slot held other) reply)) h = tt
link_under to (viewed look told) h = tt
link_under to _ h = absurd h

pub links_under : (to : Tid) (course : List (ℕ × Step)) → AllByRecursion (λ s. IsLinkStep to s.1) course
    → AllByRecursion (λ s. IsUnderGate s.1) course
links_under to [] all = tt
links_under to (s ∷ course) all = (link_under to s.1 all.0, links_under to course all.1)

pub did_links : {over : Index → Type 0} {d : Desk} {old new : List Act} {before now : List ℕ} {to : Tid} {ds : List Deed}
    → MadeLinks to over d old new before now ds → Did over d old new before now ds
did_links {to = to} m = record {
  course = m.course;
  does = m.does;
  is = record { are = m.is.are; only = links_under to m.course m.is.only; traced = m.is.traced };
}

-- ---- with gates

went_both : (ds es : List Deed) (before amid now : List ℕ) (a b : List (ℕ × Step)) → WentSo ds before amid a → WentSo es amid now b
    → WentSo (ds ++ es) before now (a ++ b)
went_both ds es before amid now a b x y = record {
  are = deeds_both a b ds es x.are y.are;
  only = all_both (λ (s : ℕ × Step). IsOfInsert s.1) a b x.only y.only;
  traced = traced_both a b before amid now x.traced y.traced;
}

pub went_then : {over later : Index → Type 0} {d e : Desk} {old mid new : List Act} {before amid now : List ℕ} {ds es : List Deed} → e ≡ d
    → ((base : Index) → over base → later base) → Went over d old mid before amid ds → Went later e mid new amid now es
    → Went over d old new before now (ds ++ es)
went_then {before = before} {amid = amid} {now = now} {ds = ds} {es = es} same on x y =
    does_so_then same (λ a b p q. went_both ds es before amid now a b p q) on x y

pub went_did : {over : Index → Type 0} {d : Desk} {old new : List Act} {before now : List ℕ} {ds : List Deed} → Did over d old new before now ds
    → Went over d old new before now ds
went_did x = does_so_as (λ course p. record { are = p.are; only = all_of_insert course p.only; traced = p.traced }) x

pub went_over : {more fewer : Index → Type 0} {d : Desk} {old new : List Act} {before now : List ℕ} {ds : List Deed}
    → ((base : Index) → fewer base → more base) → Went more d old new before now ds → Went fewer d old new before now ds
went_over on x = does_so_over on x
