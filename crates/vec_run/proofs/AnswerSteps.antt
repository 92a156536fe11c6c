-- Answers, hit by hit.
use Rattle.std.proofs.Common.{◌≡◌, sym, ap, ◌∙◌, ℕ, ◌+◌, ◌<◌, ◌≤◌, List, [], ◌∷◌, ◌++◌, length, get_or, take}
use Rattle.std.specs.Prelude.{Bool}
use Rattle.std.specs.List.{filter_map, cons_option}
use Rattle.std.specs.Cmp.{IsStrictWeakOrder}
use Rattle.std.specs.List.Sorted.{IsSortedBy, IsStableBy}
use Rattle.std.proofs.lemmas.List.{take_more, take_all}
use Rattle.std.proofs.lemmas.List.Sorted.{ranks_by}
use Rattle.std.proofs.lemmas.List.Elements.{filter_map-append}
use Rattle.bit_dist.specs.Hits.{Hit, hit_cmp_total}
use Rattle.list_values.specs.Ranking.{ranked}
use Rattle.list_values.proofs.Ranks.{ranked_is}
use Rattle.script_words.specs.declared.command.Command.{Command}
use Rattle.vec_run.specs.Replies.{is_nearer, hit_with, nearest}

nearer_ranks : IsStrictWeakOrder is_nearer
nearer_ranks = ranks_by hit_cmp_total (λ (h : Hit). h)

-- what a stable sort of the hits gives
pub nearest_is : (value : List Bool) (above : List Command) (hits sorted : List Hit) → hits ≡ filter_map (hit_with value) above → IsSortedBy is_nearer sorted → IsStableBy is_nearer hits sorted → sorted ≡ nearest value above
nearest_is value above hits sorted is up stable = ranked_is is_nearer nearer_ranks hits sorted up stable ∙ ap (λ (l : List Hit). ranked is_nearer l) is

-- one command more
pub hits_more : (value : List Bool) (above : List Command) (k : ℕ) (command : Command) (hits new : List Hit) → k < length above → command ≡ get_or above k command
    → hits ≡ filter_map (hit_with value) (take k above) → new ≡ hits ++ cons_option (hit_with value command) [] → new ≡ filter_map (hit_with value) (take (k + 1) above)
hits_more value above k command hits new within item so_far pushed =
    pushed
    ∙ ap (λ (l : List Hit). l ++ cons_option (hit_with value command) []) so_far
    ∙ sym (filter_map-append (hit_with value) (take k above) (command ∷ []))
    ∙ ap (λ (l : List Command). filter_map (hit_with value) l) (ap (λ (c : Command). take k above ++ c ∷ []) item ∙ sym (take_more above k command within))

pub hits_whole : (value : List Bool) (above : List Command) (k : ℕ) (hits : List Hit) → length above ≤ k → hits ≡ filter_map (hit_with value) (take k above) → hits ≡ filter_map (hit_with value) above
hits_whole value above k hits past so_far = so_far ∙ ap (λ (l : List Command). filter_map (hit_with value) l) (take_all k above past)
