-- There is just one list of pages after a replay.
use Rattle.std.proofs.Common.{◌≡◌, ℕ, List, [], ◌∷◌, sym, subst, ◌∙◌}
use Rattle.vec_names.specs.declared.params.Params.{Params}
use Rattle.vec_history.specs.declared.event.Event.{Event}
use Rattle.page_bytes.specs.Content.{Content}
use Rattle.page_redo.specs.Growing.{extended}
use Rattle.page_redo.specs.Replaying.{next_number, Replayed}
use Rattle.page_redo.proofs.RedoneOnce.{redone_once}

pub replay_once : (params : Params) (wrap number : ℕ) (events : List Event) (pages after again : List Content)
    → Replayed params wrap number events pages after → Replayed params wrap number events pages again → after ≡ again
replay_once params wrap number [] pages after again f h = f ∙ sym h
replay_once params wrap number (e ∷ es) pages after again f h =
    let same = redone_once params wrap number e (extended e pages) f.0 h.0 f.1 h.1 in
    replay_once params wrap (next_number number) es h.0 after again
    (subst (λ (m : List Content). Replayed params wrap (next_number number) es m after) same f.2) h.2
