-- What the batches of a scan give.
use Rattle.std.proofs.Common.{◌≡◌, ◌↔◌, ℕ, Bool, true, false, List, [], ◌∷◌, ◌++◌, flat_map, Option, Some, None, refl, sym, ap, ap₂, subst, ◌∙◌}
use Rattle.std.specs.Prelude.{IsTrue}
use Rattle.vec_names.specs.declared.params.Ops.{Ops}
use Rattle.bit_dist.specs.declared.dist.Dist.{Dist}
use Rattle.vec_history.specs.declared.event.Act.{Act}
use Rattle.neighbour_pick.specs.declared.found.Found.{Found}
use Rattle.graph_search.specs.Reads.{Look, Answer}
use Rattle.graph_search.specs.Search.{Start, course_reads}
use Rattle.graph_search.specs.Descent.{start_at}
use Rattle.graph_search.specs.Scan.{Given, GoesOn, Held, Mode, Standing, after_batch, is_nothing, is_over, last_dist, let_through, rows_of}
use Rattle.graph_search.specs.ByHolding.{AreTurnsOf, FirstByHolding, HoldTheSame, NextByHolding, TakesOf, after_turns, batch_of, elements_in, stands_after}
use Rattle.graph_search.proofs.Stepping.{first_same, first_stands, next_same, next_stands, same_stands}
use Rattle.search_sets.specs.Standing.{known_earlier}
use Rattle.search_sets.proofs.HeldSo.{same_then}
use Rattle.vec_steps.specs.Index.{Index}
use Rattle.vec_steps.specs.Desks.{Desk}
use Rattle.layer_search.specs.Running.{Descends, GoesOnSo}
use Rattle.layer_search.specs.Resuming.{FirstTurns}
use Rattle.layer_search.specs.Looking.{MadeLooks}
use Rattle.layer_search.proofs.Looks.{looks_then}
use Rattle.hnsw_scan.specs.Gathering.{GivesFirst, GivesNext, ScanStands, TakesRows}

pub nothing_is : {X : Type 0} (b : Bool) (xs : List X) → IsTrue b ↔ (xs ≡ []) → b ≡ is_nothing xs
nothing_is true [] h = refl
nothing_is true (x ∷ xs) h = absurd (let none : x ∷ xs ≡ [] = h.0 refl in cc)
nothing_is false [] h = let never : IsTrue false = h.1 refl in absurd cc
nothing_is false (x ∷ xs) h = refl

pub first_gives : {over later : Index → Type 0} {d e : Desk} {old mid new : List Act} {before then now : List ℕ} (ops : Ops) (query : List Bool)
    (ef : ℕ) (top : Option ℕ) (from : List Found) (given : List Given) (h k : Held)
    → Descends over d old mid before then ops query 0 top from → e ≡ d → ((base : Index) → over base → later base)
    → FirstTurns later e mid new then now (start_at ops query from 0) ef h → given ≡ flat_map rows_of (elements_in (batch_of ef h))
    → HoldTheSame (known_earlier k) (after_batch ef h)
    → GivesFirst (MadeLooks over d old new before now) ops query ef given k (last_dist None given)
first_gives ops query ef top from given h k down same on turns given_is after =
    let begins : Standing = record { start = start_at ops query from 0; turns = []; taken = []; last = None } in
    let standing : Standing = stands_after begins turns.turns (elements_in (batch_of ef turns.unmarked)) given in
    let reads : List (Look × Answer) = down.reads ++ course_reads 0 turns.turns in
    let b : FirstByHolding ops query ef reads given (is_nothing given) standing = record {
      down = down.reads;
      top = top;
      from = from;
      descent = down.descent;
      turns = turns.turns;
      turns_are = turns.are_turns;
      held = turns.unmarked;
      held_is = turns.unmarked_is;
      over = turns.is_ended;
      reads_are = refl;
      given_are = given_is ∙ ap (flat_map rows_of) turns.batch_is;
      end_is = refl;
      now_is = refl;
    } in
    record {
      reads = reads;
      standing = standing;
      batch = (first_same ops query ef reads given (is_nothing given) standing).1 b;
      made = looks_then same on down.made turns.made;
      stands = record {
        start_is = refl;
        last_is = refl;
        holds = same_stands standing (known_earlier k) (after_batch ef turns.unmarked)
            (same_then (known_earlier k) (after_batch ef h) (after_batch ef turns.unmarked) after turns.left)
            (first_stands ops query ef reads given (is_nothing given) standing b);
      };
    }

pub next_gives : {over later : Index → Type 0} {d e : Desk} {old mid new : List Act} {before then now : List ℕ} (ops : Ops) (query : List Bool)
    (ef max : ℕ) (mode : Mode) (last : Option Dist) (stood : Standing) (h0 h1 h2 : Held) (batch : List (Found × Bool)) (have given : List Given)
    (end : Bool) → ScanStands ops query h0 last stood → GoesOn mode
    → GoesOnSo over d old mid before then (start_at ops query stood.start.from 0) ef (Some max) (known_earlier h0) h1
    → is_over ef (Some max) h1 ≡ true → batch ≡ batch_of ef h1 → HoldTheSame (known_earlier h2) (after_batch ef h1) → e ≡ d
    → ((base : Index) → over base → later base) → TakesRows later e mid new then now ops query batch [] have
    → given ≡ let_through mode last have → end ≡ is_nothing batch
    → GivesNext (MadeLooks over d old new before now) ops query ef max mode stood given end h2 (last_dist last given)
next_gives ops query ef max mode last stood h0 h1 h2 batch have given end st goes_on on over batch_is after same later rows given_is end_is =
    let standing : Standing = stands_after stood on.turns (elements_in (batch_of ef h1)) given in
    let reads : List (Look × Answer) = course_reads 0 on.turns ++ rows.again in
    let b : NextByHolding ef max mode stood (known_earlier h0) reads given end standing = record {
      goes_on = goes_on;
      more = on.turns;
      turns_are = subst (λ (s : Start). AreTurnsOf s ef (Some max) (known_earlier h0) on.turns) (sym st.start_is) on.are_turns;
      held = h1;
      held_is = subst (λ (s : Start). HoldTheSame h1 (after_turns s on.turns (known_earlier h0))) (sym st.start_is) on.left;
      over = over;
      again = rows.again;
      rows = rows.rows;
      takes = subst (λ (s : Start). TakesOf s.ops s.query (batch_of ef h1) rows.again rows.rows) (sym st.start_is)
          (subst (λ (ps : List (Found × Bool)). TakesOf ops query ps rows.again rows.rows) batch_is rows.takes);
      reads_are = refl;
      given_are = given_is ∙ ap₂ (λ (l : Option Dist) (r : List Given). let_through mode l r) (sym st.last_is) rows.have_is;
      end_is = end_is ∙ ap is_nothing batch_is;
      now_is = refl;
    } in
    record {
      reads = reads;
      standing = standing;
      batch = (next_same ef max mode stood (known_earlier h0) reads given end standing st.holds).1 b;
      made = looks_then same later on.made rows.made;
      stands = record {
        start_is = st.start_is;
        last_is = ap (λ (l : Option Dist). last_dist l given) st.last_is;
        holds = same_stands standing (known_earlier h2) (after_batch ef h1) after
            (next_stands ef max mode stood (known_earlier h0) reads given end standing st.holds b);
      };
    }

-- ---- said of the same looks by another word

pub first_as : {M N : List (Look × Answer) → Type 0} {ops : Ops} {query : List Bool} {ef : ℕ} {given : List Given} {h : Held} {last : Option Dist}
    → ((reads : List (Look × Answer)) → M reads → N reads) → GivesFirst M ops query ef given h last → GivesFirst N ops query ef given h last
first_as on g = record { reads = g.reads; standing = g.standing; batch = g.batch; made = on g.reads g.made; stands = g.stands }

pub next_as : {M N : List (Look × Answer) → Type 0} {ops : Ops} {query : List Bool} {ef max : ℕ} {mode : Mode} {stood : Standing}
    {given : List Given} {end : Bool} {h : Held} {last : Option Dist} → ((reads : List (Look × Answer)) → M reads → N reads)
    → GivesNext M ops query ef max mode stood given end h last → GivesNext N ops query ef max mode stood given end h last
next_as on g = record { reads = g.reads; standing = g.standing; batch = g.batch; made = on g.reads g.made; stands = g.stands }
