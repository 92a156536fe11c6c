-- Elements that are taken one after the other.
use Rattle.std.proofs.Common.{◌≡◌, ℕ, ◌+◌, ◌<◌, Bool, true, false, List, [], ◌∷◌, ◌++◌, flat_map, length, get_or, take, Some, refl, sym, ap, subst, ◌∙◌, append_assoc, append-nil}
use Rattle.vec_names.specs.declared.params.Ops.{Ops}
use Rattle.vec_history.specs.declared.event.Act.{Act}
use Rattle.neighbour_pick.specs.declared.found.Found.{Found}
use Rattle.graph_search.specs.Reads.{Answer, AtNode, Look}
use Rattle.graph_search.specs.Search.{element_of}
use Rattle.graph_search.specs.Scan.{Given, TakesOne, rows_of}
use Rattle.graph_search.specs.ByHolding.{TakesOf}
use Rattle.search_sets.proofs.Fronts.{take_more}
use Rattle.vec_steps.specs.Index.{Index}
use Rattle.vec_steps.specs.Desks.{Desk}
use Rattle.layer_search.specs.Looking.{MadeLooks}
use Rattle.layer_search.proofs.Looks.{looks_none, looks_then}
use Rattle.hnsw_scan.specs.Gathering.{TakesRows, rows_told}

module _ (ops : Ops) (query : List Bool) where
  again_taken : (b : Bool) (e : Found) (told : Answer) → b ≡ true
      → TakesOf ops query ((e, b) ∷ []) ((AtNode e.at 0 (Some e.version), told) ∷ []) (flat_map rows_of (element_of ops query e.at told))
  again_taken b e told is =
      subst (λ (k : Bool). TakesOf ops query ((e, k) ∷ []) ((AtNode e.at 0 (Some e.version), told) ∷ []) (flat_map rows_of (element_of ops query e.at told)))
      (sym is) (told, [], [], refl, sym (append-nil (flat_map rows_of (element_of ops query e.at told))), (refl, refl))

  fresh_taken : (b : Bool) (e : Found) → b ≡ false → TakesOf ops query ((e, b) ∷ []) [] (rows_of e)
  fresh_taken b e is =
      subst (λ (k : Bool). TakesOf ops query ((e, k) ∷ []) [] (rows_of e)) (sym is) ([], sym (append-nil (rows_of e)), (refl, refl))

  one_both : (b : Bool) (e : Found) (P Q : List (Look × Answer) → List Given → Type 0) (s : List (Look × Answer)) (h : List Given)
      → ((r : List (Look × Answer)) (g : List Given) → P r g → Q (r ++ s) (g ++ h))
      → (r : List (Look × Answer)) (g : List Given) → TakesOne b ops query e P r g → TakesOne b ops query e Q (r ++ s) (g ++ h)
  one_both true e P Q s h on r g (told, rest, others, are, given_are, p) = (
    told,
    rest ++ s,
    others ++ h,
    ap (λ (l : List (Look × Answer)). l ++ s) are,
    ap (λ (l : List Given). l ++ h) given_are ∙ append_assoc (flat_map rows_of (element_of ops query e.at told)) others h,
    on rest others p,
  )
  one_both false e P Q s h on r g (others, given_are, p) = (
    others ++ h,
    ap (λ (l : List Given). l ++ h) given_are ∙ append_assoc (rows_of e) others h,
    on r others p,
  )

  takes_both : (a b : List (Found × Bool)) (s : List (Look × Answer)) (h : List Given) → TakesOf ops query b s h
      → (r : List (Look × Answer)) (g : List Given) → TakesOf ops query a r g → TakesOf ops query (a ++ b) (r ++ s) (g ++ h)
  takes_both [] b s h second r g first =
      subst (λ (x : List (Look × Answer)). TakesOf ops query b (x ++ s) (g ++ h)) (sym first.0)
      (subst (λ (x : List Given). TakesOf ops query b s (x ++ h)) (sym first.1) second)
  takes_both (p ∷ a) b s h second r g first =
      one_both p.1 p.0 (λ rest others. TakesOf ops query a rest others) (λ rest others. TakesOf ops query (a ++ b) rest others) s h
      (λ rest others t. takes_both a b s h second rest others t) r g first

-- ---- rows

pub rows_none : {over : Index → Type 0} {d : Desk} (acts : List Act) (trace : List ℕ) (ops : Ops) (query : List Bool)
    → TakesRows over d acts acts trace trace ops query [] [] []
rows_none acts trace ops query = record { again = []; rows = []; takes = (refl, refl); have_is = refl; made = looks_none acts trace }

pub rows_again : {over : Index → Type 0} {d : Desk} {old new : List Act} {before now : List ℕ} (ops : Ops) (query : List Bool) (p : Found × Bool)
    (told : Answer) (had have : List Given) → p.1 ≡ true → MadeLooks over d old new before now ((AtNode p.0.at 0 (Some p.0.version), told) ∷ [])
    → have ≡ rows_told had (element_of ops query p.0.at told) → TakesRows over d old new before now ops query (p ∷ []) had have
rows_again ops query p told had have is made have_is = record {
  again = (AtNode p.0.at 0 (Some p.0.version), told) ∷ [];
  rows = flat_map rows_of (element_of ops query p.0.at told);
  takes = again_taken ops query p.1 p.0 told is;
  have_is = have_is;
  made = made;
}

pub rows_fresh : {over : Index → Type 0} {d : Desk} (acts : List Act) (trace : List ℕ) (ops : Ops) (query : List Bool) (p : Found × Bool)
    (had have : List Given) → p.1 ≡ false → have ≡ had ++ rows_of p.0 → TakesRows over d acts acts trace trace ops query (p ∷ []) had have
rows_fresh acts trace ops query p had have is have_is = record {
  again = [];
  rows = rows_of p.0;
  takes = fresh_taken ops query p.1 p.0 is;
  have_is = have_is;
  made = looks_none acts trace;
}

pub rows_then : {over later : Index → Type 0} {d e : Desk} {old mid new : List Act} {before then now : List ℕ} (ops : Ops) (query : List Bool)
    (batch : List (Found × Bool)) (i : ℕ) (p : Found × Bool) (had have more : List Given) → i < length batch → p ≡ get_or batch i p
    → e ≡ d → ((base : Index) → over base → later base) → TakesRows over d old mid before then ops query (take i batch) had have
    → TakesRows later e mid new then now ops query (p ∷ []) have more → TakesRows over d old new before now ops query (take (i + 1) batch) had more
rows_then {over} {later} {d} {e} {old} {mid} {new} {before} {then} {now} ops query batch i p had have more within is same on a b = record {
  again = a.again ++ b.again;
  rows = a.rows ++ b.rows;
  takes = subst (λ (ps : List (Found × Bool)). TakesOf ops query ps (a.again ++ b.again) (a.rows ++ b.rows)) (sym (take_more batch i p within is))
      (takes_both ops query (take i batch) (p ∷ []) b.again b.rows b.takes a.again a.rows a.takes);
  have_is = b.have_is ∙ ap (λ (l : List Given). l ++ b.rows) a.have_is ∙ append_assoc had a.rows b.rows;
  made = looks_then same on a.made b.made;
}
