-- Texts, piece by piece.
use Rattle.std.proofs.Common.{◌≡◌, sym, ap, ◌∙◌, ℕ, ◌+◌, ◌<◌, ◌≤◌, List, [], ◌∷◌, ◌++◌, length, get_or, take, append_assoc}
use Rattle.std.specs.List.{flat_map}
use Rattle.std.proofs.lemmas.List.{take_more, take_all, append-nil}
use Rattle.std.proofs.lemmas.Grind.{flat_map-append}
use Rattle.vec_names.specs.declared.params.Ops.{Ops}
use Rattle.bit_dist.specs.Hits.{Hit}
use Rattle.script_words.specs.Replies.{hit_line}

-- one hit more
pub lines_more : (ops : Ops) (hits : List Hit) (k : ℕ) (hit : Hit) (old into new : List ℕ) → k < length hits → hit ≡ get_or hits k hit → into ≡ old ++ flat_map (hit_line ops) (take k hits) → new ≡ into ++ (hit_line ops) hit
    → new ≡ old ++ flat_map (hit_line ops) (take (k + 1) hits)
lines_more ops hits k hit old into new within item so_far written =
    written
    ∙ ap (λ (l : List ℕ). l ++ (hit_line ops) hit) so_far
    ∙ append_assoc old (flat_map (hit_line ops) (take k hits)) ((hit_line ops) hit)
    ∙ ap (λ (l : List ℕ). old ++ (flat_map (hit_line ops) (take k hits) ++ l)) (sym (append-nil ((hit_line ops) hit)))
    ∙ ap (λ (l : List ℕ). old ++ l)
    (sym (flat_map-append (hit_line ops) (take k hits) (hit ∷ []))
    ∙ ap (λ (l : List Hit). flat_map (hit_line ops) l) (ap (λ (h : Hit). take k hits ++ h ∷ []) item ∙ sym (take_more hits k hit within)))

pub lines_whole : (ops : Ops) (hits : List Hit) (k : ℕ) (old into new last : List ℕ) → length hits ≤ k → into ≡ old ++ flat_map (hit_line ops) (take k hits) → new ≡ into ++ last → new ≡ old ++ (flat_map (hit_line ops) hits ++ last)
lines_whole ops hits k old into new last past so_far written =
    written
    ∙ ap (λ (l : List ℕ). l ++ last) (so_far ∙ ap (λ (l : List Hit). old ++ flat_map (hit_line ops) l) (take_all k hits past))
    ∙ append_assoc old (flat_map (hit_line ops) hits) last

-- one piece more
pub piece_more : (old so_far piece mid new : List ℕ) → mid ≡ old ++ so_far → new ≡ mid ++ piece → new ≡ old ++ (so_far ++ piece)
piece_more old so_far piece mid new first second = second ∙ ap (λ (l : List ℕ). l ++ piece) first ∙ append_assoc old so_far piece
