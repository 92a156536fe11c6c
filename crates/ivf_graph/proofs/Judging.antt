-- One act more of a history.
use Rattle.std.proofs.Common.{◌≡◌, ℕ, ◌+◌, ◌<◌, List, [], ◌∷◌, ◌++◌, take, length, get_or, refl, sym, ap, subst, ◌∙◌}
use Rattle.std.proofs.lemmas.List.{take_more}
use Rattle.std.proofs.lemmas.Option.{slice_get_read}
use Rattle.index_sizes.specs.declared.limits.TheConstants.{MOST_BLOCKS}
use Rattle.vec_history.specs.declared.event.Event.{Event}
use Rattle.vec_history.specs.declared.event.Event.TheVariants.{IvfGrow}
use Rattle.vec_history.specs.declared.event.Act.{Act}
use Rattle.vec_history.specs.Judging.{IsFirstIllegal}
use Rattle.ivf_graph.specs.declared.graph.IvfGraph.{IvfGraph}
use Rattle.ivf_graph.specs.Effect.{effect, after}
use Rattle.ivf_graph.specs.Rules.{IsEventAllowed}
use Rattle.ivf_graph.specs.Legal.{IsAllowed, IsLegal}
use Rattle.vec_history.proofs.Prefixes.{more_after}

pub after_more : (g : IvfGraph) (acts : List Act) (a : Act) → after g (acts ++ a ∷ []) ≡ effect a.event (after g acts)
after_more g [] a = refl
after_more g (b ∷ acts) a = after_more (effect b.event g) acts a

-- the acts before the next, and that
taken_more : (acts : List Act) (n : ℕ) (a : Act) → n < length acts → a ≡ get_or acts n a → take (n + 1) acts ≡ take n acts ++ a ∷ []
taken_more acts n a h is = take_more acts n a h ∙ ap (λ b. take n acts ++ b ∷ []) (sym is)

pub state_more : (base : IvfGraph) (acts : List Act) (n : ℕ) (a : Act) → n < length acts → a ≡ get_or acts n a
    → effect a.event (after base (take n acts)) ≡ after base (take (n + 1) acts)
state_more base acts n a h is = sym (ap (after base) (taken_more acts n a h is) ∙ after_more base (take n acts) a)

pub legal_more : (base : IvfGraph) (acts : List Act) (n : ℕ) (a : Act) → n < length acts → a ≡ get_or acts n a
    → IsLegal base (take n acts) → IsAllowed base (take n acts) a → IsLegal base (take (n + 1) acts)
legal_more base acts n a h is legal may = subst (IsLegal base) (sym (taken_more acts n a h is)) (more_after (IsAllowed base) [] (take n acts) a legal may)

pub grows_low : (g : IvfGraph) (acts : List Act) (desk : ℕ) (e : Event) → IsEventAllowed g acts desk e
    → (list last block : ℕ) (id : _) (bits : _) → e ≡ IvfGrow list last block id bits → block < MOST_BLOCKS
grows_low g acts desk e may list last block id bits is = (subst (IsEventAllowed g acts desk) is may).not_high

pub first_illegal : (base : IvfGraph) (acts : List Act) (n : ℕ) (a : Act) → n < length acts → a ≡ get_or acts n a
    → IsLegal base (take n acts) → (IsAllowed base (take n acts) a → ⊥) → IsFirstIllegal (IsAllowed base) acts n
first_illegal base acts n a h is legal refused =
    record { act = a; there = slice_get_read acts (length acts) n a refl h is; legal_before = legal; refused = refused }
