use Rattle.std.proofs.Common.{◌<◌, ◌^◌, Bool, List, refl, subst, arith}
use Rattle.std.specs.Prelude.{IfOk, Result, Ok, Err}
use Rattle.std.specs.declared.alloc.AllocError.{AllocError}
use Rattle.page_bytes.specs.Content.{Content}
use Rattle.vec_history.specs.declared.event.Event.{Event}
use Rattle.vec_recover.specs.Recovering.{FollowsOf}
use Rattle.vec_recover.specs.declared.redoing.Redoing.{Redoing}
use Rattle.vec_recover.specs.Parts.{ArePages, IsNextBy, IsRedoneOrNot}
use Rattle.vec_recover.proofs.RedoneEvents.{redone_next}
use Rattle.vec_recover.proofs.replaying.redo_next.Goals as goal

by_result : (how : Redoing) (event : Event) (old new : List Content) (r : Result Bool AllocError) → how.number < 2 ^ 64 → ArePages how.params old
    → FollowsOf how.params.kind how.params old event → IfOk r (IsRedoneOrNot how event old new) → IfOk r (IsNextBy how.params how.wrap how.number event old new)
by_result how event old new (Ok b) low a follows x = redone_next how event old new b low a follows x
by_result how event old new (Err e) low a follows x = tt

pub returns : goal.returns
returns c =
    let low : c.args.number < 2 ^ 64 = omega (arith, c.ranges.number) in
    let follows : FollowsOf c.args.params.now.kind c.args.params.now c.args.pages.now.items c.args.event.now =
    subst (λ (pages : List Content). FollowsOf c.args.params.now.kind c.args.params.now pages c.args.event.now) c.as_slice.ensures.value
    (c.if-not-follows.ensures.0 refl) in
    by_result (record { params = c.args.params.now; wrap = c.args.wrap; number = c.args.number }) c.args.event.now c.args.pages.now.items c.redo_event.new.pages.items
    c.redo_event.result low c.requires.pages follows c.redo_event.ensures
