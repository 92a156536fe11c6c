-- Replay of a log's events on pages, of whatever kind the index is.
use Rattle.std.specs.Prelude.{◌≡◌, ℕ, ◌+◌, ◌%◌, ◌^◌, List, [], ◌∷◌, filter, map}
use Rattle.vec_names.specs.declared.params.Params.{Params}
use Rattle.vec_history.specs.declared.event.Event.{Event}
use Rattle.vec_history.specs.declared.event.Act.{Act}
use Rattle.vec_history.specs.Settling.{is_lasting}
use Rattle.page_bytes.specs.Content.{Content}
use Rattle.page_redo.specs.Growing.{AreAllRedone}

-- the number after this one, of 8 bytes
abbrev pub next_number : ℕ → ℕ
next_number number = (number + 1) % 2 ^ 64

-- the events that go to the log
abbrev pub logged : List Act → List Event
logged acts = filter is_lasting (map (λ (a : Act). a.event) acts)

-- Each event is redone on all blocks that it touches, one event after the other. The first has this number, and each next one the
-- next number. What number a page has before is nowhere asked.
abbrev pub Replayed : Params → ℕ → ℕ → List Event → List Content → List Content → Type 0
Replayed params wrap number [] pages after = after ≡ pages
Replayed params wrap number (e ∷ es) pages after =
    (mid : List Content) × AreAllRedone params wrap number e pages mid × Replayed params wrap (next_number number) es mid after
