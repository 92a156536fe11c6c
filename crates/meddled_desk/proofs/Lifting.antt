-- A step at a board behind what others did there, as a step of the desk.
use Rattle.std.proofs.Common.{◌≡◌, ℕ, ◌-◌, ◌≤◌, List, [], ◌++◌, map, length, Option, Result, Ok, Err, OnOk, IfErr, sym, ap, subst, ◌∙◌, append_assoc, arith}
use Rattle.std.proofs.lemmas.List.{length-append}
use Rattle.vec_history.specs.declared.event.Event.{Event}
use Rattle.vec_history.specs.declared.event.Act.{Act}
use Rattle.graph_search.specs.Deeds.{own_events}
use Rattle.vec_history.specs.Acts.{act_of}
use Rattle.vec_names.specs.declared.params.Params.{Params}
use Rattle.vec_graph.specs.declared.graph.Graph.{Graph}
use Rattle.page_bytes.specs.Content.{Content}
use Rattle.vec_steps.specs.declared.ask.Ask.{Ask}
use Rattle.vec_steps.specs.declared.told.Told.{Told}
use Rattle.vec_steps.specs.declared.fault.StepFault.{StepFault}
use Rattle.vec_steps.specs.declared.fault.StepFault.TheVariants as fault
use Rattle.vec_steps.specs.Index.{Index, OfNodes}
use Rattle.vec_steps.specs.Doing.{Step}
use Rattle.vec_steps.specs.Granting.{AgreesAtTake}
use Rattle.vec_steps.specs.Telling.{fault_step}
use Rattle.vec_steps.specs.Desks.{Desk, Asks, MayAsk, WantsMemory, spare_after}
use Rattle.vec_steps.specs.Calls.{Acts, Came, Stepped, Failed, made_by, count_made}
use Rattle.vec_steps.proofs.Following.{own_both}
use Rattle.ask_judge.proofs.LaterAsks.{ask_later}
use Rattle.vec_board.specs.declared.board_core.Core.{Core}
use Rattle.vec_board.specs.Standing.{acts_of}
use Rattle.vec_board.specs.Looking.{desk_of}
use Rattle.vec_board.specs.Serving.{spare_of}
use Rattle.vec_board.specs.Boards.{StandsWhole}
use Rattle.meddled_desk.specs.Meddling.{Meddles, StandsFor, ComesLater, IsAgreed}

pub came_later : (d : Desk) (old mid new : List Act) (at : ℕ) (o : Option Step) → Acts d.number old mid [] → Came d mid new at o → Came d old new at o
came_later d old mid new at o x c =
    let long = ap (λ (l : List Act). length l) x.all in
    let first = length-append old x.more in
    let both = length-append x.more c.others in
    record {
      others = x.more ++ c.others;
      foreign = own_both d.number x.more c.others ∙ ap (λ (l : List Event). l ++ own_events d.number c.others) x.own_are ∙ c.foreign;
      all = c.all ∙ ap (λ (l : List Act). (l ++ c.others) ++ map (act_of d.number) (made_by d.params o)) x.all
          ∙ ap (λ (l : List Act). l ++ map (act_of d.number) (made_by d.params o)) (append_assoc old x.more c.others);
      here = omega (arith, c.here, long, first, both);
    }

module _ (base : Graph) (faults later : ℕ) (same : later ≡ faults) (old mid : Core) (before after : List Content)
    (m : Meddles base faults old mid before after) (a : Ask) where
  abbrev Over : Index → Type 0
  Over = Asks (StandsFor base old before faults) (desk_of old 0) (acts_of old) a

  abbrev Behind : Index → Type 0
  Behind = Asks (StandsWhole mid after later) (desk_of mid 0) (acts_of mid) a

  pub stood_there : (index : Index) → Over index → StandsWhole old before faults (OfNodes base)
  stood_there index o = subst (StandsWhole old before faults) o.stood.is o.stood.stands

  -- what was asked may still be asked, over the base on which the board stood
  pub asks_later : (index : Index) → Over index → Behind index
  asks_later index o =
      let stood = stood_there index o in
      let stands : StandsWhole mid after later (OfNodes base) = subst (λ (n : ℕ). StandsWhole mid after n (OfNodes base)) (sym same) (m.stands stood) in
      let was : MayAsk (desk_of old 0) (OfNodes base) (acts_of old) a = subst (λ (i : Index). MayAsk (desk_of old 0) i (acts_of old) a) o.stood.is o.may in
      let may : Behind (OfNodes base) = record {
        stood = stands;
        may = ask_later base (acts_of old) (acts_of mid) 0 m.acts stood.stands.shaped stands.stands.legal a was;
      } in
      subst Behind (sym o.stood.is) may

  params_same : mid.params ≡ old.params
  params_same = ap (λ (d : Desk). d.params) m.desk

  module _ (new : Core) (left : Ask) (t : Told) where
    stepped_later : Stepped Behind (desk_of mid 0) (acts_of mid) (acts_of new) a left t → Stepped Over (desk_of old 0) (acts_of old) (acts_of new) a left t
    stepped_later s =
        let mine : Stepped Behind (desk_of old 0) (acts_of mid) (acts_of new) a left t =
        subst (λ (d : Desk). Stepped Behind d (acts_of mid) (acts_of new) a left t) m.desk s in
        record {
          ending = mine.ending;
          came = came_later (desk_of old 0) (acts_of old) (acts_of mid) (acts_of new) t.at _ m.acts mine.came;
          says = λ index o. mine.says index (asks_later index o);
          left_is = mine.left_is;
          fits = mine.fits;
        }

    failed_later : (f : StepFault) → Failed (IsAgreed Behind (acts_of mid) a) (desk_of mid 0) (acts_of mid) (acts_of new) a f
        → (StandsWhole old before faults (OfNodes base) → AgreesAtTake (acts_of mid) 0 a) → Failed Over (desk_of old 0) (acts_of old) (acts_of new) a f
    failed_later f s agrees =
        let mine : Failed (IsAgreed Behind (acts_of mid) a) (desk_of old 0) (acts_of mid) (acts_of new) a f =
        subst (λ (d : Desk). Failed (IsAgreed Behind (acts_of mid) a) d (acts_of mid) (acts_of new) a f) m.desk s in
        record {
          at = mine.at;
          came = came_later (desk_of old 0) (acts_of old) (acts_of mid) (acts_of new) mine.at _ m.acts mine.came;
          cause = λ index o. mine.cause index (record { is = asks_later index o; agrees = agrees (stood_there index o) });
        }

    pub any_stepped : (r : Result (Unit {0}) StepFault) → OnOk r (Stepped Behind (desk_of mid 0) (acts_of mid) (acts_of new) a left t)
        → OnOk r (Stepped Over (desk_of old 0) (acts_of old) (acts_of new) a left t)
    any_stepped (Ok done) s = stepped_later s
    any_stepped (Err f) s = tt

    pub any_failed : (r : Result (Unit {0}) StepFault) → IfErr r (Failed (IsAgreed Behind (acts_of mid) a) (desk_of mid 0) (acts_of mid) (acts_of new) a)
        → (StandsWhole old before faults (OfNodes base) → AgreesAtTake (acts_of mid) 0 a) → IfErr r (Failed Over (desk_of old 0) (acts_of old) (acts_of new) a)
    any_failed (Ok done) s agrees = tt
    any_failed (Err f) s agrees = failed_later f s agrees

    pub any_wants : (r : Result (Unit {0}) StepFault) → IfErr r (λ f. f ≡ fault.Memory → WantsMemory (spare_of mid 0) a)
        → IfErr r (λ f. f ≡ fault.Memory → WantsMemory (spare_of old 0) a)
    any_wants r w = subst (λ (n : ℕ). IfErr r (λ f. f ≡ fault.Memory → WantsMemory n a)) m.spare w

    pub any_spare : (r : Result (Unit {0}) StepFault) → OnOk r (spare_after a (spare_of mid 0) (count_made mid.params a t) ≤ spare_of new 0)
        → OnOk r (spare_after a (spare_of old 0) (count_made old.params a t) ≤ spare_of new 0)
    any_spare r s =
        subst (λ (p : Params). OnOk r (spare_after a (spare_of old 0) (count_made p a t) ≤ spare_of new 0)) params_same
        (subst (λ (n : ℕ). OnOk r (spare_after a n (count_made mid.params a t) ≤ spare_of new 0)) m.spare s)

    pub any_spare_kept : (r : Result (Unit {0}) StepFault) → IfErr r (λ f. spare_of mid 0 - length (made_by mid.params (fault_step f)) ≤ spare_of new 0)
        → IfErr r (λ f. spare_of old 0 - length (made_by old.params (fault_step f)) ≤ spare_of new 0)
    any_spare_kept r s =
        subst (λ (p : Params). IfErr r (λ f. spare_of old 0 - length (made_by p (fault_step f)) ≤ spare_of new 0)) params_same
        (subst (λ (n : ℕ). IfErr r (λ f. n - length (made_by mid.params (fault_step f)) ≤ spare_of new 0)) m.spare s)

  -- the desk is later than it was
  pub comes_behind : (new : Core) → ComesLater new mid → ComesLater new old
  comes_behind new c = record {
    more = m.acts.more ++ c.more;
    acts = c.acts ∙ ap (λ (l : List Act). l ++ c.more) m.acts.all ∙ append_assoc (acts_of old) m.acts.more c.more;
    epoch = c.epoch ∙ m.epoch;
  }
