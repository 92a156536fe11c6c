use Rattle.std.proofs.Common.{◌↔◌, IsTrue, sym, subst}
use Rattle.vec_history.specs.declared.event.Event.{Event}
use Rattle.ivf_pages.specs.Following.{Follows}
use Rattle.ivf_pages.proofs.Reached.{grow_told, hint_told}
use Rattle.ivf_pages.proofs.following.follows.Goals as goal

pub returns-in-IvfGrow : goal.returns-in-IvfGrow
returns-in-IvfGrow c = λ g all s.
    subst (λ (e : Event). IsTrue c.is_next_behind.result ↔ Follows g e) (sym c.in-IvfGrow.is)
    (grow_told c.args.params.now c.args.pages.now g all s c.in-IvfGrow.list c.in-IvfGrow.last c.in-IvfGrow.block c.is_next_behind.result c.is_next_behind.ensures)

pub returns-in-IvfHint : goal.returns-in-IvfHint
returns-in-IvfHint c = λ g all s.
    subst (λ (e : Event). IsTrue c.is_on_chain.result ↔ Follows g e) (sym c.in-IvfHint.is)
    (hint_told c.args.params.now c.args.pages.now g all s c.in-IvfHint.list c.in-IvfHint.block c.is_on_chain.result c.is_on_chain.ensures)
