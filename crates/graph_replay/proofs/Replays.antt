-- Replay of events that follow in turn.
use Rattle.std.proofs.Common.{◌≡◌, ℕ, ◌+◌, ◌%◌, ◌^◌, ◌<◌, ◌≤◌, List, [], ◌∷◌, ◌++◌, length, Option, refl, sym, ap, subst, ◌∙◌, arith}
use Rattle.std.specs.List.{All}
use Rattle.index_sizes.specs.declared.limits.TheConstants.{MOST_BLOCKS}
use Rattle.vec_names.specs.declared.params.Params.{Params}
use Rattle.vec_history.specs.declared.event.Event.{Event}
use Rattle.vec_history.specs.declared.event.Event.TheVariants.{Put, Join, Link, Relist, Drop, Mark, Entry, Hint, IvfAdd, IvfGrow, IvfDrop, IvfHint, Gate, Ungate, Phase, VacuumEnd, Cancel, Settled, DiskFaulted}
use Rattle.page_bytes.specs.Content.{Content, IsPage}
use Rattle.vec_graph.specs.declared.graph.Graph.{Graph}
use Rattle.vec_graph.specs.Effect.{effect, joined, linked, relisted, dropped, marked}
use Rattle.vec_graph.proofs.Remaining.{params_changed}
use Rattle.graph_pages.specs.Standing.{Stands}
use Rattle.graph_pages.specs.Effects.{format_in}
use Rattle.page_redo.specs.Growing.{AreAllRedone}
use Rattle.graph_pages.specs.Following.{Follows}
use Rattle.graph_pages.proofs.RedoEffect.{redo_effect}
use Rattle.graph_pages.proofs.BlocksKept.{blocks_kept}
use Rattle.graph_pages.proofs.PagesAfter.{pages_after, format_after}
use Rattle.page_redo.specs.Replaying.{next_number, Replayed}
use Rattle.graph_replay.specs.Replaying.{effects, FollowInTurn}
use Rattle.page_redo.proofs.RedoneThere.{redone_there}
use Rattle.page_redo.proofs.ReplayedOnce.{replay_once}

-- no event changes the parameters
pub effect_params : (wrap : ℕ) (e : Event) (g : Graph) → (effect wrap e g).params ≡ g.params
effect_params wrap (Put at list_at version level id bits lists) g = refl
effect_params wrap (Join at version id) g = params_changed g at (joined id)
effect_params wrap (Link at list_at version slot to) g = params_changed g at (linked slot to)
effect_params wrap (Relist at list_at version lists) g = params_changed g at (relisted lists)
effect_params wrap (Drop at version gone) g = params_changed g at (dropped gone)
effect_params wrap (Mark at list_at version) g = params_changed g at (marked wrap)
effect_params wrap (Entry to level) g = refl
effect_params wrap (Hint block) g = refl
effect_params wrap (IvfAdd block id bits) g = refl
effect_params wrap (IvfGrow list last block id bits) g = refl
effect_params wrap (IvfDrop block gone) g = refl
effect_params wrap (IvfHint list block) g = refl
effect_params wrap (Gate gate hold) g = refl
effect_params wrap (Ungate gate) g = refl
effect_params wrap (Phase stage) g = refl
effect_params wrap VacuumEnd g = refl
effect_params wrap (Cancel stage) g = refl
effect_params wrap (Settled upto) g = refl
effect_params wrap (DiskFaulted count) g = refl

-- pages that stand for the graph, have bytes, are not too many, and have this format
pub record IsIndex (pages : List Content) (g : Graph) (format : Option ℕ) : Type 0 where
  pub few : length pages ≤ MOST_BLOCKS
  pub bytes : All IsPage pages
  pub stands : Stands pages g
  pub of_format : format_in pages ≡ format

pub next_low : (number : ℕ) → next_number number < 2 ^ 64
next_low number = omega arith

-- one event keeps all that
pub one_event : (pages after : List Content) (g : Graph) (format : Option ℕ) (event : Event) (wrap number : ℕ) → number < 2 ^ 64 → IsIndex pages g format
    → Follows pages g event → AreAllRedone g.params wrap number event pages after → IsIndex after (effect wrap event g) format
one_event pages after g format event wrap number low index follows are = record {
  few = blocks_kept pages g index.few event g.params wrap number after follows are;
  bytes = pages_after pages after g wrap number index.bytes index.stands event follows are low;
  stands = redo_effect pages after g wrap number index.few index.bytes index.stands event follows are;
  of_format = format_after pages after g wrap number index.bytes index.stands event follows are ∙ index.of_format;
}

pub replay_there : (wrap number : ℕ) (events : List Event) (pages : List Content) (g : Graph) (format : Option ℕ) → number < 2 ^ 64
    → IsIndex pages g format → FollowInTurn wrap number events pages g
    → (after : List Content) × Replayed g.params wrap number events pages after × IsIndex after (effects wrap events g) format
replay_there wrap number [] pages g format low index follow = (pages, refl, index)
replay_there wrap number (e ∷ es) pages g format low index follow =
    let mid = redone_there pages g.params e wrap number follow.1 in
    let now = one_event pages mid.0 g format e wrap number low index follow.0 mid.1 in
    let rest = replay_there wrap (next_number number) es mid.0 (effect wrap e g) format (next_low number) now (follow.2 mid.0 mid.1) in
    (rest.0, (mid.0, mid.1, subst (λ (q : Params). Replayed q wrap (next_number number) es mid.0 rest.0) (effect_params wrap e g) rest.1), rest.2)

-- whatever the replay leaves is that
pub replay_effect : (wrap number : ℕ) (events : List Event) (pages after : List Content) (g : Graph) (format : Option ℕ) → number < 2 ^ 64
    → IsIndex pages g format → FollowInTurn wrap number events pages g → Replayed g.params wrap number events pages after
    → IsIndex after (effects wrap events g) format
replay_effect wrap number events pages after g format low index follow replayed =
    let made = replay_there wrap number events pages g format low index follow in
    subst (λ (l : List Content). IsIndex l (effects wrap events g) format)
    (replay_once g.params wrap number events pages made.0 after made.1 replayed) made.2

-- ---- in two parts

next_of : (number count : ℕ) → number < 2 ^ 64 → (next_number number + count) % 2 ^ 64 ≡ (number + (count + 1)) % 2 ^ 64
next_of number count low = omega (arith, low)

pub replay_joined : (params : Params) (wrap number : ℕ) (es fs : List Event) (pages mid after : List Content) → number < 2 ^ 64
    → Replayed params wrap number es pages mid → Replayed params wrap ((number + length es) % 2 ^ 64) fs mid after
    → Replayed params wrap number (es ++ fs) pages after
replay_joined params wrap number [] fs pages mid after low f h =
    let same : (number + 0) % 2 ^ 64 ≡ number = omega (arith, low) in
    subst (λ (n : ℕ). Replayed params wrap n fs pages after) same
    (subst (λ (m : List Content). Replayed params wrap ((number + 0) % 2 ^ 64) fs m after) f h)
replay_joined params wrap number (e ∷ es) fs pages mid after low f h =
    let long : length (e ∷ es) ≡ length es + 1 = omega arith in
    let same : (number + length (e ∷ es)) % 2 ^ 64 ≡ (next_number number + length es) % 2 ^ 64 =
    ap (λ n. (number + n) % 2 ^ 64) long ∙ sym (next_of number (length es) low) in (
      f.0,
      f.1,
      replay_joined params wrap (next_number number) es fs f.0 mid after (next_low number) f.2
          (subst (λ (n : ℕ). Replayed params wrap n fs mid after) same h),
    )

pub replay_parted : (params : Params) (wrap number : ℕ) (es fs : List Event) (pages after : List Content) → number < 2 ^ 64
    → Replayed params wrap number (es ++ fs) pages after
    → (mid : List Content) × Replayed params wrap number es pages mid × Replayed params wrap ((number + length es) % 2 ^ 64) fs mid after
replay_parted params wrap number [] fs pages after low f =
    let same : number ≡ (number + 0) % 2 ^ 64 = omega (arith, low) in
    (pages, refl, subst (λ (n : ℕ). Replayed params wrap n fs pages after) same f)
replay_parted params wrap number (e ∷ es) fs pages after low f =
    let rest = replay_parted params wrap (next_number number) es fs f.0 after (next_low number) f.2 in
    let long : length (e ∷ es) ≡ length es + 1 = omega arith in
    let same : (next_number number + length es) % 2 ^ 64 ≡ (number + length (e ∷ es)) % 2 ^ 64 =
    next_of number (length es) low ∙ ap (λ n. (number + n) % 2 ^ 64) (sym long) in
    (rest.0, (f.0, f.1, rest.1), subst (λ (n : ℕ). Replayed params wrap n fs rest.0 after) same rest.2)
