-- How calls over steps follow each other: lemmas for this crate and those above it.
use Rattle.std.proofs.Common.{◌≡◌, ℕ, zero, suc, ◌+◌, ◌≤◌, ◌==◌, Bool, true, List, [], ◌∷◌, ◌++◌, map, filter, take, length, slice_get, Option, Some, None, if◌then◌else◌, refl, sym, ap, subst, ◌∙◌, append_assoc, append-nil, arith}
use Rattle.std.proofs.lemmas.Bool.Decides.{nat_tests}
use Rattle.std.proofs.lemmas.Option.{none-some}
use Rattle.std.proofs.lemmas.List.{length-append, take-append-le, map-append}
use Rattle.std.proofs.lemmas.List.Elements.{filter-append}
use Rattle.vec_names.specs.declared.params.Params.{Params}
use Rattle.vec_history.specs.declared.event.Event.{Event}
use Rattle.vec_history.specs.declared.event.Act.{Act}
use Rattle.vec_history.specs.Acts.{act_of, IsRising}
use Rattle.graph_search.specs.Deeds.{IsMadeAt, own_events}
use Rattle.vec_steps.specs.declared.ask.Ask.{Ask}
use Rattle.vec_steps.specs.declared.told.Told.{Told}
use Rattle.vec_steps.specs.declared.fault.StepFault.{StepFault}
use Rattle.vec_steps.specs.declared.fault.StepFault.TheVariants as fault
use Rattle.vec_steps.specs.Index.{Index, OfNodes, OfLists}
use Rattle.vec_steps.specs.Doing.{Step, Says, step_events}
use Rattle.vec_steps.specs.Doing as doing
use Rattle.vec_steps.specs.Telling.{step_of, fault_step}
use Rattle.vec_steps.specs.Desks.{Desk, Asks}
use Rattle.vec_steps.specs.Calls.{Acts, Came, course_at, Does, DoesSo, Failed, Goes, Happened, NotSettled, SaysOf, Settles, Stepped, events_of, made_by, steps_of}

-- ---- own acts

same_is : (a : ℕ) → (a == a) ≡ true
same_is a = grind (arith, nat_tests)

pub own_both : (desk : ℕ) (xs ys : List Act) → own_events desk (xs ++ ys) ≡ own_events desk xs ++ own_events desk ys
own_both desk xs ys =
    ap (map (λ (a : Act). a.event)) (filter-append (λ (a : Act). a.desk == desk) xs ys)
    ∙ map-append (λ (a : Act). a.event) (filter (λ (a : Act). a.desk == desk) xs) (filter (λ (a : Act). a.desk == desk) ys)

pub own_own : (desk : ℕ) (es : List Event) → own_events desk (map (act_of desk) es) ≡ es
own_own desk [] = refl
own_own desk (e ∷ es) =
    let rest : List Act = filter (λ (a : Act). a.desk == desk) (map (act_of desk) es) in
    ap (λ (b : Bool). map (λ (a : Act). a.event) (if b then act_of desk e ∷ rest else rest)) (same_is desk)
    ∙ ap (λ (l : List Event). e ∷ l) (own_own desk es)

pub acts_none : (desk : ℕ) (acts : List Act) → Acts desk acts acts []
acts_none desk acts = record { more = []; all = sym (append-nil acts); own_are = refl }

pub acts_then : {desk : ℕ} {old mid new : List Act} {es fs : List Event} → Acts desk old mid es → Acts desk mid new fs
    → Acts desk old new (es ++ fs)
acts_then {desk} {old} {mid} {new} {es} {fs} a b = record {
  more = a.more ++ b.more;
  all = b.all ∙ ap (λ l. l ++ b.more) a.all ∙ append_assoc old a.more b.more;
  own_are = own_both desk a.more b.more ∙ ap (λ l. l ++ own_events desk b.more) a.own_are ∙ ap (λ l. es ++ l) b.own_are;
}

pub acts_longer : {desk : ℕ} {old new : List Act} {es : List Event} → Acts desk old new es → length old ≤ length new
acts_longer {desk} {old} {new} {es} a = omega (arith, ap (λ (l : List Act). length l) a.all, length-append old a.more)

-- ---- lists

pub steps_both : (a b : List (ℕ × Step)) → steps_of (a ++ b) ≡ steps_of a ++ steps_of b
steps_both [] b = refl
steps_both (s ∷ a) b = ap (λ l. s.1 ∷ l) (steps_both a b)

pub events_both : (p : Params) (a b : List Step) → events_of p (a ++ b) ≡ events_of p a ++ events_of p b
events_both p [] b = refl
events_both p (s ∷ a) b =
    ap (λ l. step_events p s ++ l) (events_both p a b) ∙ sym (append_assoc (step_events p s) (events_of p a) (events_of p b))

pub lower : (low mid : ℕ) (ns : List ℕ) (high : ℕ) → low ≤ mid → IsRising mid ns high → IsRising low ns high
lower low mid [] high h r = omega (arith, h, r)
lower low mid (n ∷ ns) high h r = (omega (arith, h, r.0), r.1)

rises_both : (low : ℕ) (a : List (ℕ × Step)) (mid : ℕ) (b : List (ℕ × Step)) (high : ℕ) → IsRising low (map (λ s. s.0) a) mid
    → IsRising mid (map (λ s. s.0) b) high → IsRising low (map (λ s. s.0) (a ++ b)) high
rises_both low [] mid b high r s = lower low mid (map (λ s. s.0) b) high r s
rises_both low (x ∷ a) mid b high r s = (r.0, rises_both x.0 a mid b high r.1 s)

-- ---- longer histories

in_longer : {X : Type 0} (xs ys : List X) (n : ℕ) (x : X) → slice_get xs n ≡ Some x → slice_get (xs ++ ys) n ≡ Some x
in_longer [] ys n x e = absurd (none-some x e)
in_longer (z ∷ xs) ys zero x e = e
in_longer (z ∷ xs) ys (suc n) x e = in_longer xs ys n x e

made_longer : (acts more : List Act) (desk n : ℕ) (es : List Event) → IsMadeAt acts desk n es → IsMadeAt (acts ++ more) desk n es
made_longer acts more desk n [] i = tt
made_longer acts more desk n (e ∷ es) i = in_longer acts more n _ i

pub happened_longer : (base : Index) (acts more : List Act) (d : Desk) (course : List (ℕ × Step)) → Happened base acts d course
    → Happened base (acts ++ more) d course
happened_longer base acts more d [] h = tt
happened_longer base acts more d (s ∷ course) h = (
  record {
    within = omega (arith, h.0.within, length-append acts more);
    says = subst (λ l. Says d.params base l d.number s.1) (sym (take-append-le s.0 acts more h.0.within)) h.0.says;
    made = made_longer acts more d.number s.0 (step_events d.params s.1) h.0.made;
  },
  happened_longer base acts more d course h.1,
)

pub happened_both : (base : Index) (acts : List Act) (d : Desk) (a b : List (ℕ × Step)) → Happened base acts d a → Happened base acts d b
    → Happened base acts d (a ++ b)
happened_both base acts d [] b h i = i
happened_both base acts d (s ∷ a) b h i = (h.0, happened_both base acts d a b h.1 i)

-- ---- calls

-- nothing was done, and no other desk acted
pub does_nothing : {over : Index → Type 0} {d : Desk} (acts : List Act) → Does over d acts acts []
does_nothing {over} {d} acts = record {
  acts = acts_none d.number acts;
  rises = let le : length acts ≤ length acts = omega arith in le;
  happened = λ base o. tt;
}

-- nothing was done, while others acted
pub does_wait : {over : Index → Type 0} {d : Desk} {old new : List Act} → Acts d.number old new [] → Does over d old new []
does_wait a = record { acts = a; rises = acts_longer a; happened = λ base o. tt }

-- two calls after each other, the second over what the first leaves
pub does_then : {over later : Index → Type 0} {d : Desk} {old mid new : List Act} {a b : List (ℕ × Step)}
    → ((base : Index) → over base → later base) → Does over d old mid a → Does later d mid new b → Does over d old new (a ++ b)
does_then {over} {later} {d} {old} {mid} {new} {a} {b} on x y = record {
  acts = subst (Acts d.number old new)
      (sym (ap (events_of d.params) (steps_both a b) ∙ events_both d.params (steps_of a) (steps_of b))) (acts_then x.acts y.acts);
  rises = rises_both (length old) a (length mid) b (length new) x.rises y.rises;
  happened = λ base o.
      happened_both base new d a b
      (subst (λ l. Happened base l d a) (sym y.acts.all) (happened_longer base mid y.acts.more d a (x.happened base o)))
      (y.happened base (on base o));
}

-- over fewer bases
pub does_over : {more fewer : Index → Type 0} {d : Desk} {old new : List Act} {a : List (ℕ × Step)}
    → ((base : Index) → fewer base → more base) → Does more d old new a → Does fewer d old new a
does_over on x = record { acts = x.acts; rises = x.rises; happened = λ base f. x.happened base (on base f) }

-- what happened in a call still has when another one follows
pub happened_then : {over later : Index → Type 0} {d : Desk} {old mid new : List Act} {a b : List (ℕ × Step)} → Does over d old mid a
    → Does later d mid new b → (base : Index) → over base → Happened base new d a
happened_then {d = d} {mid = mid} {a = a} x y base o =
    subst (λ l. Happened base l d a) (sym y.acts.all) (happened_longer base mid y.acts.more d a (x.happened base o))

-- ---- one step

at_end : (xs : List Act) (a : Act) (ys : List Act) (n : ℕ) → n ≡ length xs → slice_get (xs ++ a ∷ ys) n ≡ Some a
at_end [] a ys zero e = refl
at_end [] a ys (suc n) e = absurd (omega (arith, e))
at_end (x ∷ xs) a ys zero e = absurd (omega (arith, e))
at_end (x ∷ xs) a ys (suc n) e = at_end xs a ys n (omega (arith, e))

made_end : (xs : List Act) (desk n : ℕ) → n ≡ length xs → (es : List Event) → IsMadeAt (xs ++ map (act_of desk) es) desk n es
made_end xs desk n here [] = tt
made_end xs desk n here (e ∷ es) = at_end xs (act_of desk e) (map (act_of desk) es) n here

pub came_acts : {d : Desk} {old new : List Act} {at : ℕ} {o : Option Step} → Came d old new at o
    → Acts d.number old new (made_by d.params o)
came_acts {d} {old} {new} {at} {o} c =
    let own : List Act = map (act_of d.number) (made_by d.params o) in
    record {
      more = c.others ++ own;
      all = c.all ∙ append_assoc old c.others own;
      own_are = own_both d.number c.others own ∙ ap (λ l. l ++ own_events d.number own) c.foreign ∙ own_own d.number (made_by d.params o);
    }

pub came_does : {over : Index → Type 0} {d : Desk} {old new : List Act} {at : ℕ} (o : Option Step) → Came d old new at o
    → ((base : Index) → over base → SaysOf d base (take at new) o) → Does over d old new (course_at at o)
came_does None c says = does_wait (came_acts c)
came_does {over} {d} {old} {new} {at} (Some s) c says =
    let es : List Event = step_events d.params s in
    let long : length new ≡ length old + length c.others + length (map (act_of d.number) es) =
    ap (λ (l : List Act). length l) c.all
    ∙ length-append (old ++ c.others) (map (act_of d.number) es)
    ∙ ap (λ k. k + length (map (act_of d.number) es)) (length-append old c.others) in
    record {
      acts = subst (Acts d.number old new) (sym (append-nil es)) (came_acts c);
      rises = (omega (arith, c.here), omega (arith, c.here, long));
      happened = λ base o. (
        record {
          within = omega (arith, c.here, long);
          says = says base o;
          made = subst (λ l. IsMadeAt l d.number at es) (sym c.all)
              (made_end (old ++ c.others) d.number at (c.here ∙ sym (length-append old c.others)) es);
        },
        tt,
      );
    }

-- a step that was made is a call of that step
pub step_does : {over : Index → Type 0} {d : Desk} {old new : List Act} {q left : Ask} {told : Told} (s : Stepped over d old new q left told)
    → Does over d old new (course_at told.at (step_of q told s.ending))
step_does {q = q} {told = told} s = came_does (step_of q told s.ending) s.came s.says

-- over the bases on which its ask's conditions hold
pub one_step : {over stands : Index → Type 0} {d : Desk} {old new : List Act} {q left : Ask} {told : Told}
    → ((base : Index) → over base → Asks stands d old q base) → (s : Stepped (Asks stands d old q) d old new q left told)
    → Does over d old new (course_at told.at (step_of q told s.ending))
one_step may s = does_over may (step_does s)

-- a call so far, and then one more step
pub then_step : {over stands : Index → Type 0} {d : Desk} {old mid new : List Act} {course : List (ℕ × Step)} {q left : Ask} {told : Told}
    → ((base : Index) → over base → Asks stands d mid q base) → Does over d old mid course
    → (s : Stepped (Asks stands d mid q) d mid new q left told)
    → Does over d old new (course ++ course_at told.at (step_of q told s.ending))
then_step may x s = does_then may x (step_does s)

-- ---- faults and settling

says_fault : (d : Desk) (base : Index) (acts : List Act) (f : StepFault) → SaysOf d base acts (fault_step f)
says_fault d base acts fault.Memory = tt
says_fault d base acts (fault.LogFull used size) = tt
says_fault d (OfNodes g) acts (fault.Disk count) = tt
says_fault d (OfLists g) acts (fault.Disk count) = tt

-- a step that failed is a call, of which a fault of the disks alone leaves an act
pub fault_does : {over under : Index → Type 0} {d : Desk} {old new : List Act} {q : Ask} {f : StepFault} (s : Failed under d old new q f)
    → Does over d old new (course_at s.at (fault_step f))
fault_does {d = d} {new = new} {f = f} s = came_does (fault_step f) s.came (λ base o. says_fault d base (take s.at new) f)

says_settled : (d : Desk) (base : Index) (acts : List Act) (n : ℕ) → SaysOf d base acts (Some (doing.settled n))
says_settled d (OfNodes g) acts n = tt
says_settled d (OfLists g) acts n = tt

pub settle_does : {over : Index → Type 0} {d : Desk} {old new : List Act} {n : ℕ} (s : Settles d old new n)
    → Does over d old new (course_at s.at (Some (doing.settled n)))
settle_does {d = d} {new = new} {n = n} s =
    came_does (Some (doing.settled n)) s.came (λ base o. says_settled d base (take s.at new) n)

pub not_settled_does : {over : Index → Type 0} {d : Desk} {old new : List Act} {f : StepFault} (s : NotSettled d old new f)
    → Does over d old new (course_at s.at (fault_step f))
not_settled_does {d = d} {new = new} {f = f} s = came_does (fault_step f) s.came (λ base o. says_fault d base (take s.at new) f)

-- ---- desks

module _ {D : Type 0} {desk : D → Desk} {stands : D → Index → Type 0} {comes_from : D → D → Type 0} where
  pub goes_nowhere : {over : Index → Type 0} → ((d : D) → comes_from d d) → (d : D) → ((base : Index) → over base → stands d base)
      → Goes desk stands comes_from over d d
  goes_nowhere itself d on = record { stays = refl; still_stands = on; comes = itself d }

  pub goes_then : {over later : Index → Type 0} → ((a b c : D) → comes_from c b → comes_from b a → comes_from c a) → {a b c : D}
      → ((base : Index) → over base → later base) → Goes desk stands comes_from over a b → Goes desk stands comes_from later b c
      → Goes desk stands comes_from over a c
  goes_then chain {a} {b} {c} on g h = record {
    stays = h.stays ∙ g.stays;
    still_stands = λ base s. h.still_stands base (on base s);
    comes = chain a b c h.comes g.comes;
  }

  pub goes_over : {more fewer : Index → Type 0} {a b : D} → ((base : Index) → fewer base → more base)
      → Goes desk stands comes_from more a b → Goes desk stands comes_from fewer a b
  goes_over on g = record { stays = g.stays; still_stands = λ base f. g.still_stands base (on base f); comes = g.comes }

-- ---- calls that say what they did

pub does_so_over : {P : List (ℕ × Step) → Type 0} {more fewer : Index → Type 0} {d : Desk} {old new : List Act}
    → ((base : Index) → fewer base → more base) → DoesSo P more d old new → DoesSo P fewer d old new
does_so_over on x = record { course = x.course; does = does_over on x.does; is = x.is }

pub does_so_as : {P Q : List (ℕ × Step) → Type 0} {over : Index → Type 0} {d : Desk} {old new : List Act}
    → ((course : List (ℕ × Step)) → P course → Q course) → DoesSo P over d old new → DoesSo Q over d old new
does_so_as turn x = record { course = x.course; does = x.does; is = turn x.course x.is }

-- one call and then another, by the same desk
pub does_so_then : {P Q R : List (ℕ × Step) → Type 0} {over later : Index → Type 0} {d e : Desk} {old mid new : List Act} → e ≡ d
    → ((a b : List (ℕ × Step)) → P a → Q b → R (a ++ b)) → ((base : Index) → over base → later base) → DoesSo P over d old mid
    → DoesSo Q later e mid new → DoesSo R over d old new
does_so_then {P} {Q} {R} {over} {later} {d} {e} {old} {mid} {new} same both on x y = record {
  course = x.course ++ y.course;
  does = does_then on x.does (subst (λ k. Does later k mid new y.course) same y.does);
  is = both x.course y.course x.is y.is;
}
