-- Where each slot of a neighbour tuple stands.
use Rattle.std.proofs.Common.{◌≡◌, ℕ, zero, suc, ◌+◌, ◌*◌, ◌<◌, ◌≤◌, List, [], ◌∷◌, ◌++◌, length, get_or, take, drop, Option, Some, None, refl, sym, ap, ap₂, ◌∙◌, arith, append_assoc}
use Rattle.std.specs.Prelude.{slice_get, slice_set}
use Rattle.std.specs.List.{flat_map}
use Rattle.std.specs.Int.{w16, to_le_bytes}
use Rattle.std.proofs.lemmas.List.{length-append, length-take, length-set, append-nil, take_at, take_more}
use Rattle.std.proofs.lemmas.List.Concat.{flat_map-append}
use Rattle.std.proofs.lemmas.List.Edits.{sets-eq}
use Rattle.std.proofs.lemmas.Option.{slice_get-get_or}
use Rattle.std.proofs.Math.Seq.{take-append-add, drop-append-add, take-nil, drop-nil, drop-drop, drop-cons}
use Rattle.vec_names.specs.declared.tid.Tid.{Tid}
use Rattle.vec_names.specs.Pointer.{tid_option_bytes}
use Rattle.byte_fields.proofs.EachField.{length-tid_option_bytes}
use Rattle.vec_tuples.specs.declared.links.Links.{Links}
use Rattle.vec_tuples.specs.Spelling.{links_kind, links_with, links_bytes, HasSlot}

abbrev six : Option Tid → List ℕ
six o = tid_option_bytes o

abbrev sixes : List (Option Tid) → List ℕ
sixes tids = flat_map six tids

one_more : (n : ℕ) (o : Option Tid) → 6 * suc n ≡ length (six o) + 6 * n
one_more n o = omega (arith, length-tid_option_bytes o)

pub length-slots : (tids : List (Option Tid)) → length (flat_map tid_option_bytes tids) ≡ 6 * length tids
length-slots [] = refl
length-slots (o ∷ tids) = length-append (six o) (sixes tids) ∙ omega (arith, length-slots tids, length-tid_option_bytes o)

pub take-slots : (n : ℕ) (tids : List (Option Tid)) → take (6 * n) (flat_map tid_option_bytes tids) ≡ flat_map tid_option_bytes (take n tids)
take-slots zero tids = refl
take-slots (suc n) [] = take-nil (6 * suc n)
take-slots (suc n) (o ∷ tids) = ap (λ k. take k (six o ++ sixes tids)) (one_more n o) ∙ take-append-add (six o) (sixes tids) (6 * n) ∙ ap (λ (t : List ℕ). six o ++ t) (take-slots n tids)

pub drop-slots : (n : ℕ) (tids : List (Option Tid)) → drop (6 * n) (flat_map tid_option_bytes tids) ≡ flat_map tid_option_bytes (drop n tids)
drop-slots zero tids = refl
drop-slots (suc n) [] = drop-nil (6 * suc n)
drop-slots (suc n) (o ∷ tids) = ap (λ k. drop k (six o ++ sixes tids)) (one_more n o) ∙ drop-append-add (six o) (sixes tids) (6 * n) ∙ drop-slots n tids

set_slots : (tids : List (Option Tid)) (at : ℕ) (to : Option Tid) → at < length tids
    → sixes (slice_set tids at to) ≡ take (6 * at) (sixes tids) ++ (six to ++ drop (6 * at + 6) (sixes tids))
set_slots tids at to lt =
    let last : 6 * at + 6 ≡ 6 * (at + 1) = omega arith in
    ap sixes (sets-eq (to ∷ []) tids at (omega (arith, lt))) ∙ flat_map-append six (take at tids ++ to ∷ []) (drop (at + 1) tids)
    ∙ ap (λ (t : List ℕ). t ++ sixes (drop (at + 1) tids)) (flat_map-append six (take at tids) (to ∷ []) ∙ ap (λ (t : List ℕ). sixes (take at tids) ++ t) (append-nil (six to)))
    ∙ append_assoc (sixes (take at tids)) (six to) (sixes (drop (at + 1) tids))
    ∙ ap₂ (λ (s t : List ℕ). s ++ (six to ++ t)) (sym (take-slots at tids)) (sym (drop-slots (at + 1) tids) ∙ ap (λ k. drop k (sixes tids)) (sym last))

drop_drop_six : (old : List ℕ) (at : ℕ) → drop 6 (drop (6 * at) old) ≡ drop (6 * (at + 1)) old
drop_drop_six old at = drop-drop 6 (6 * at) old ∙ ap (λ k. drop k old) (omega arith)

-- ---- in the whole tuple

abbrev front : Links → List ℕ
front l = links_kind l.deleted ∷ l.version ∷ to_le_bytes w16 (length l.tids)

length-front : (l : Links) → length (front l) ≡ 4
length-front l = refl

behind_front : (l : Links) (n : ℕ) → 4 + n ≡ length (front l) + n
behind_front l n = omega (arith, length-front l)

take_links : (l : Links) (n : ℕ) → take (4 + n) (links_bytes l) ≡ front l ++ take n (sixes l.tids)
unfolding links_bytes
take_links l n = ap (λ k. take k (front l ++ sixes l.tids)) (behind_front l n) ∙ take-append-add (front l) (sixes l.tids) n

drop_links : (l : Links) (n : ℕ) → drop (4 + n) (links_bytes l) ≡ drop n (sixes l.tids)
unfolding links_bytes
drop_links l n = ap (λ k. drop k (front l ++ sixes l.tids)) (behind_front l n) ∙ drop-append-add (front l) (sixes l.tids) n

pub length-links_bytes : (l : Links) → length (links_bytes l) ≡ 4 + 6 * length l.tids
unfolding links_bytes
length-links_bytes l = length-append (front l) (sixes l.tids) ∙ omega (arith, length-front l, length-slots l.tids)

pub slot_inside : (bytes : List ℕ) (at : ℕ) → HasSlot bytes at → 4 + 6 * at + 6 ≤ length bytes
slot_inside bytes at has =
    let long : length bytes ≡ 4 + 6 * length has.links.tids = ap (λ (b : List ℕ). length b) has.spelled ∙ length-links_bytes has.links in
    omega (arith, long, has.below)

pub slot_below : (bytes : List ℕ) (at : ℕ) (l : Links) → 4 + 6 * at + 6 ≤ length bytes → bytes ≡ links_bytes l → at < length l.tids
slot_below bytes at l inside is =
    let long : length bytes ≡ 4 + 6 * length l.tids = ap (λ (b : List ℕ). length b) is ∙ length-links_bytes l in
    omega (arith, long)

-- the six bytes of a slot spell what stands in it
pub slot_six : (bytes : List ℕ) (at : ℕ) (l : Links) → bytes ≡ links_bytes l → at < length l.tids → take 6 (drop (4 + 6 * at) bytes) ≡ tid_option_bytes (get_or l.tids at None)
slot_six bytes at l is lt =
    let o : Option Tid = get_or l.tids at None in
    ap (λ (b : List ℕ). take 6 (drop (4 + 6 * at) b)) is ∙ ap (λ (b : List ℕ). take 6 b) (drop_links l (6 * at) ∙ drop-slots at l.tids ∙ ap sixes (drop-cons l.tids at None lt))
    ∙ take_at (six o) (sixes (drop (suc at) l.tids)) 6 (length-tid_option_bytes o)

pub slot_get : (at : ℕ) (l : Links) → at < length l.tids → slice_get l.tids at ≡ Some (get_or l.tids at None)
slot_get at l lt = slice_get-get_or l.tids at None lt

-- a slot that is written over
pub slot_set : (bytes : List ℕ) (at : ℕ) (to : Option Tid) (l : Links) → bytes ≡ links_bytes l → at < length l.tids
    → take (4 + 6 * at) bytes ++ (tid_option_bytes to ++ drop (4 + 6 * at + 6) bytes) ≡ links_bytes (links_with l.deleted l.version (slice_set l.tids at to))
unfolding links_bytes
slot_set bytes at to l is lt =
    let end : 4 + 6 * at + 6 ≡ 4 + (6 * at + 6) = omega arith in
    ap (λ (b : List ℕ). take (4 + 6 * at) b ++ (six to ++ drop (4 + 6 * at + 6) b)) is
    ∙ ap₂ (λ (s t : List ℕ). s ++ (six to ++ t)) (take_links l (6 * at)) (ap (λ k. drop k (links_bytes l)) end ∙ drop_links l (6 * at + 6))
    ∙ append_assoc (front l) (take (6 * at) (sixes l.tids)) (six to ++ drop (6 * at + 6) (sixes l.tids))
    ∙ ap (λ (t : List ℕ). front l ++ t) (sym (set_slots l.tids at to lt))
    ∙ ap (λ n. (links_kind l.deleted ∷ l.version ∷ to_le_bytes w16 n) ++ sixes (slice_set l.tids at to)) (sym (length-set l.tids at to))

-- ---- slots written one after the other

-- six bytes are written behind those before them
pub six_more : (done : List ℕ) (at : ℕ) (old bytes six : List ℕ) → length done ≡ 6 * at → bytes ≡ done ++ drop (6 * at) old
    → take (6 * at) bytes ++ (six ++ drop (6 * at + 6) bytes) ≡ (done ++ six) ++ drop (6 * (at + 1)) old
six_more done at old bytes six long so_far =
    let end : 6 * at + 6 ≡ length done + 6 = omega (arith, long) in
    ap (λ (b : List ℕ). take (6 * at) b ++ (six ++ drop (6 * at + 6) b)) so_far
    ∙ ap₂ (λ (s t : List ℕ). s ++ (six ++ t)) (take_at done (drop (6 * at) old) (6 * at) long)
    (ap (λ k. drop k (done ++ drop (6 * at) old)) end ∙ drop-append-add done (drop (6 * at) old) 6 ∙ drop_drop_six old at)
    ∙ sym (append_assoc done six (drop (6 * (at + 1)) old))

pub slots_more : (tids : List (Option Tid)) (at : ℕ) (old bytes : List ℕ) (o : Option Tid) → at < length tids → o ≡ get_or tids at o
    → bytes ≡ flat_map tid_option_bytes (take at tids) ++ drop (6 * at) old
    → take (6 * at) bytes ++ (tid_option_bytes o ++ drop (6 * at + 6) bytes) ≡ flat_map tid_option_bytes (take (at + 1) tids) ++ drop (6 * (at + 1)) old
slots_more tids at old bytes o lt is so_far =
    let more : sixes (take (at + 1) tids) ≡ sixes (take at tids) ++ six o =
    ap sixes (take_more tids at o lt ∙ ap (λ x. take at tids ++ x ∷ []) (sym is)) ∙ flat_map-append six (take at tids) (o ∷ []) ∙ ap (λ (t : List ℕ). sixes (take at tids) ++ t) (append-nil (six o)) in
    six_more (sixes (take at tids)) at old bytes (six o) (length-slots (take at tids) ∙ omega (arith, length-take at tids, lt)) so_far
    ∙ ap (λ (t : List ℕ). t ++ drop (6 * (at + 1)) old) (sym more)
