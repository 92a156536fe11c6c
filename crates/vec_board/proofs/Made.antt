-- What a change of the pages comes to.
use Rattle.std.proofs.Common.{◌≡◌, ◌<◌, ◌^◌, ℕ, Bool, true, false, List, [], ◌∷◌, Result, Ok, Err, OnOk, IfErr, IsOk, refl, sym, subst, ◌∙◌, arith}
use Rattle.vec_names.specs.declared.params.Params.{Params}
use Rattle.vec_history.specs.declared.event.Event.{Event}
use Rattle.vec_history.specs.declared.event.Event.TheVariants as event
use Rattle.vec_history.specs.Settling.{is_lasting}
use Rattle.vec_event.specs.Spelling.{IsWritable}
use Rattle.page_bytes.specs.Content.{Content}
use Rattle.page_redo.specs.Redo.{touched}
use Rattle.page_redo.specs.Growing.{blocks_after}
use Rattle.page_sets.specs.Sets.{PageMap, HasPages}
use Rattle.page_sets.specs.Committing.{HasTouched, IsCommitted}
use Rattle.vec_board.specs.Acting.{IsSameSet, AreMade}

same_has : (old new : PageMap) (all : List Content) (blocks : List ℕ) → IsSameSet old new → HasPages old all blocks → HasPages new all blocks
same_has old new all [] same has = tt
same_has old new all (block ∷ blocks) same has = (same block ∙ has.0, same_has old new all blocks same has.1)

-- a set with the same pages has those that are touched too
pub same_touched : (old new : PageMap) (all : List Content) (e : Event) (p : Params) → IsSameSet old new → HasTouched old all e p → HasTouched new all e p
same_touched old new all e p same has = record {
  part = λ block page is. has.part block page (sym (same block) ∙ is);
  has = same_has old new all (touched e p) same has.has;
}

-- what was committed on a set with the same pages
pub lasting_made : (old mid new : PageMap) (all : List Content) (e : Event) (p : Params) (number : ℕ) → is_lasting e ≡ true → IsSameSet old mid
    → ((after : List Content) × IsCommitted mid new all after e p number)
    → (after : List Content) × AreMade (is_lasting e) old new all after e p number
lasting_made old mid new all e p number lasting same (after, made) = (
  after,
  subst (λ (b : Bool). AreMade b old new all after e p number) (sym lasting) (record {
    redone = made.redone;
    part = made.part;
    has = made.has;
    elsewhere = λ block low none. made.elsewhere block low none ∙ same block;
  }),
)

pub passing_made : (old : PageMap) (all : List Content) (e : Event) (p : Params) (number : ℕ) → is_lasting e ≡ false
    → (after : List Content) × AreMade (is_lasting e) old old all after e p number
passing_made old all e p number passes =
    (all, subst (λ (b : Bool). AreMade b old old all all e p number) (sym passes) (refl, λ block. refl))

-- an event that can be written names no block that is no number of a page
pub few_blocks : (e : Event) (blocks : ℕ) → IsWritable e → blocks < 2 ^ 32 → blocks_after e blocks < 2 ^ 32
unfolding IsWritable
few_blocks (event.Put at list_at version level id bits lists) blocks written few =
    let one = at.within_blocks in
    let two = list_at.within_blocks in
    omega (arith, one, two, few)
few_blocks (event.IvfGrow list last block id bits) blocks written few = let low = written.2 in omega (arith, low, few)
few_blocks _ blocks written few = few

-- ---- outcomes

pub ok_then : {A B : Type 0} {E : Type 0} (r : Result (Unit {0}) E) → (A → B) → OnOk r A → OnOk r B
ok_then (Ok done) f a = f a
ok_then (Err fault) f a = tt

-- what is always done never fails
pub never_err : {E : Type 0} (Q : E → Type 0) (r : Result (Unit {0}) E) → IsOk r → IfErr r Q
never_err Q (Ok done) is = tt
never_err Q (Err fault) is = absurd cc

pub when_ok : {B : Type 0} {E : Type 0} (r : Result (Unit {0}) E) → (IsOk r → B) → OnOk r B
when_ok (Ok done) f = f cc
when_ok (Err fault) f = tt

pub of_ok : {A : Type 0} {E : Type 0} (r : Result (Unit {0}) E) → IsOk r → OnOk r A → A
of_ok (Ok done) is a = a
of_ok (Err fault) is a = absurd cc
