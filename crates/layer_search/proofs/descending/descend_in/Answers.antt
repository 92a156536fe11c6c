use Rattle.std.proofs.Common.{◌≡◌, ◌++◌, ℕ, [], List, Option, Some, map, sym, ap, subst}
use Rattle.neighbour_pick.specs.declared.found.Found.{Found}
use Rattle.search_sets.specs.Standing.{spot_of}
use Rattle.vec_steps.specs.Index.{Index}
use Rattle.layer_search.specs.Telling.{OverSpots}
use Rattle.layer_search.specs.Looking.{EndedBy}
use Rattle.layer_search.specs.Running.{level_of}
use Rattle.layer_search.proofs.Looks.{ended_then, fails, looks_then}
use Rattle.layer_search.proofs.Entering.{descent_none, descent_some, none_empty, still_over}
use Rattle.layer_search.proofs.descending.descend_in.Goals as goal

-- over the entry point's level, where there is one
at_level : (stands : Index → Type 0) (acts : _) (top : Option ℕ) (level : ℕ) (from : List Found) (base : Index) → top ≡ Some level
    → OverSpots stands acts (level_of top) (map spot_of from) base → OverSpots stands acts level (map spot_of from) base
at_level stands acts top level from base is o = subst (λ (n : ℕ). OverSpots stands acts n (map spot_of from) base) (ap level_of is) o

pub returns-in_default-clause-ok : goal.returns-in_default-clause-ok
returns-in_default-clause-ok g c =
    let e = c.in_ok-top.ensures.ok in
    record { reads = e.reads; made = e.made; descent = descent_none c.args.way.1 e.entered c.in_default.is }

pub returns-in_default-clause-told : goal.returns-in_default-clause-told
returns-in_default-clause-told g c = λ base o.
    let e = c.in_ok-top.ensures in
    let now = c.enter.new.steps in
    let bare : OverSpots (g.S.Steps.stands now) (g.S.Steps.seen now) c.args.way.1 [] base = still_over 0 c.args.way.1 base o (e.goes.still_stands base o) in
    subst (λ (l : List Found). OverSpots (g.S.Steps.stands now) (g.S.Steps.seen now) c.args.way.1 (map spot_of l) base)
    (sym (none_empty e.ok.entered c.in_default.is)) bare

pub returns-in_err-from-clause-err : goal.returns-in_err-from-clause-err
returns-in_err-from-clause-err g c =
    let e = c.in_ok-top.ensures in
    let now = c.enter.new.steps in
    let over = OverSpots (g.S.Steps.stands c.args.steps.now) (g.S.Steps.seen c.args.steps.now) 0 [] in
    fails c.from_residual-in_err-from.result
    (λ end is. subst (EndedBy over (g.S.Steps.desk c.args.steps.now) (g.S.Steps.seen c.args.steps.now) (g.S.Steps.seen c.lower.new.steps)) (sym is)
    (ended_then e.goes.stays
    (λ base o. at_level (g.S.Steps.stands now) (g.S.Steps.seen now) c.in_ok-top.top c.in-Some.level c.enter.new.from base c.in-Some.is (e.told base o))
    e.ok.made c.in_err-from.ensures.err)) c.from_residual-in_err-from.ensures.1

pub returns-clause-ok : goal.returns-clause-ok
returns-clause-ok g c =
    let e = c.in_ok-top.ensures in
    let l = c.in_ok-from.ensures.ok in
    let now = c.enter.new.steps in
    record {
      reads = e.ok.reads ++ l.reads;
      made = looks_then e.goes.stays
          (λ base o. at_level (g.S.Steps.stands now) (g.S.Steps.seen now) c.in_ok-top.top c.in-Some.level c.enter.new.from base c.in-Some.is (e.told base o))
          e.ok.made l.made;
      descent = descent_some c.args.way.1 c.in-Some.level e.ok.entered c.in-Some.is l.reads c.in_ok-from.from l.lowered;
    }
