-- Selection step by step.
use Rattle.std.proofs.Common.{◌≡◌, ℕ, suc, ◌+◌, ◌-◌, ◌<◌, ◌≤◌, min, Bool, true, false, List, [], ◌∷◌, ◌++◌, map, take, drop, length, get_or, slice_get, Option, Some, refl, sym, ap, ◌∙◌, arith, append_assoc}
use Rattle.std.specs.Prelude.{◌&&◌}
use Rattle.std.specs.List.{cons_option, filter_map}
use Rattle.std.proofs.lemmas.Option.{slice_get-get_or}
use Rattle.std.proofs.lemmas.List.{append-nil, map-append, length-map, get_or-map, drop_more, drop_all, take_at, take_min}
use Rattle.std.proofs.lemmas.List.Elements.{filter_map-append, All-push}
use Rattle.std.proofs.Math.Seq.{take-append-add}
use Rattle.vec_names.specs.declared.params.Ops.{Ops}
use Rattle.bit_dist.specs.declared.dist.Dist.{Dist}
use Rattle.bit_dist.specs.Distances.{distance_of}
use Rattle.neighbour_pick.specs.declared.found.Found.{Found}
use Rattle.neighbour_pick.specs.Order.{Candidate, candidate_of, is_greater}
use Rattle.neighbour_pick.specs.Selection.{is_far, with_far, far_marks, set_places, clear_places}
use Rattle.neighbour_pick.specs.Sifting.{candidates_at, marks_left, IsSifted, IsEnough}

-- ---- candidates at places

at_first : (found : List Found) (k : ℕ) (x : Found) (ks : List ℕ) → slice_get found k ≡ Some x → candidates_at found (k ∷ ks) ≡ candidate_of x ∷ candidates_at found ks
at_first found k x ks e = ap (λ (o : Option Found). map candidate_of (cons_option o (filter_map (slice_get found) ks))) e

at_last : (found : List Found) (ks : List ℕ) (k : ℕ) (x : Found) → slice_get found k ≡ Some x → candidates_at found (ks ++ k ∷ []) ≡ candidates_at found ks ++ candidate_of x ∷ []
at_last found ks k x e =
    ap (map candidate_of) (filter_map-append (slice_get found) ks (k ∷ [])) ∙ map-append candidate_of (filter_map (slice_get found) ks) (filter_map (slice_get found) (k ∷ []))
    ∙ ap (λ (cs : List Candidate). candidates_at found ks ++ cs) (at_first found k x [] e)

-- a place that is read
read_at : (found : List Found) (k : ℕ) (x : Found) → k < length found → x ≡ get_or found k x → slice_get found k ≡ Some x
read_at found k x h e = slice_get-get_or found k x h ∙ ap (λ (y : Found). Some y) (sym e)

-- ---- whether one is far from the chosen ones from a place on

module _ (ops : Ops) (found : List Found) (chosen : List ℕ) (i : ℕ) (x : Found) (c : Candidate) (between : Dist) (answer : Bool) where
  -- the first of these is read, and its distance asked
  pub record IsAsked : Type 0 where
    pub left : i < length chosen
    pub inside : get_or chosen i 0 < length found
    pub is : x ≡ get_or found (get_or chosen i 0) x
    pub between_is : between ≡ distance_of ops x.bits c.bits
    pub answer_is : answer ≡ is_greater between c.dist

  far_rest : IsAsked → is_far ops (candidates_at found (drop i chosen)) c ≡ (answer && is_far ops (candidates_at found (drop (i + 1) chosen)) c)
  far_rest a =
      ap (λ (ks : List ℕ). is_far ops (candidates_at found ks) c) (drop_more chosen i 0 a.left)
      ∙ ap (λ (cs : List Candidate). is_far ops cs c) (at_first found (get_or chosen i 0) x (drop (i + 1) chosen) (read_at found (get_or chosen i 0) x a.inside a.is))
      ∙ ap (λ (b : Bool). b && is_far ops (candidates_at found (drop (i + 1) chosen)) c) (ap (λ (d : Dist). is_greater d c.dist) (sym a.between_is) ∙ sym a.answer_is)

  pub far_ends : (all : Bool) → IsAsked → answer ≡ false → is_far ops (candidates_at found (drop i chosen)) c ≡ all → false ≡ all
  far_ends all a not_far so_far = sym (ap (λ (b : Bool). b && is_far ops (candidates_at found (drop (i + 1) chosen)) c) not_far) ∙ sym (far_rest a) ∙ so_far

  pub far_goes_on : (all : Bool) → IsAsked → answer ≡ true → is_far ops (candidates_at found (drop i chosen)) c ≡ all
      → is_far ops (candidates_at found (drop (i + 1) chosen)) c ≡ all
  far_goes_on all a far so_far = sym (ap (λ (b : Bool). b && is_far ops (candidates_at found (drop (i + 1) chosen)) c) far) ∙ sym (far_rest a) ∙ so_far

-- ---- one more is sifted

pub sifted_none : (ops : Ops) (found : List Found) → IsSifted ops found 0 [] []
sifted_none ops found = record { far = refl; near = refl; inside = λ k d h. absurd (omega arith) }

next : (place : ℕ) → place + 1 ≡ suc place
next place = omega arith

left_more : (ops : Ops) (found : List Found) (place : ℕ) (chosen : List ℕ) (x : Found) (b : Bool) → place < length found → x ≡ get_or found place x
    → b ≡ is_far ops (candidates_at found chosen) (candidate_of x)
    → marks_left ops found place chosen ≡ b ∷ far_marks ops (with_far b (candidates_at found chosen) (candidate_of x)) (drop (place + 1) (map candidate_of found))
left_more ops found place chosen x b h is far_is =
    let inside : place < length (map candidate_of found) = omega (arith, length-map found candidate_of, h) in
    let one : get_or (map candidate_of found) place (candidate_of x) ≡ candidate_of x = get_or-map candidate_of found place x (candidate_of x) h ∙ ap candidate_of (sym is) in
    ap (far_marks ops (candidates_at found chosen)) (drop_more (map candidate_of found) place (candidate_of x) inside)
    ∙ ap (λ (c : Candidate). far_marks ops (candidates_at found chosen) (c ∷ drop (place + 1) (map candidate_of found))) one
    ∙ ap (λ (f : Bool). f ∷ far_marks ops (with_far f (candidates_at found chosen) (candidate_of x)) (drop (place + 1) (map candidate_of found))) (sym far_is)

module _ (ops : Ops) (found : List Found) (place : ℕ) (chosen aside : List ℕ) (x : Found) (h : place < length found) (is : x ≡ get_or found place x) (s : IsSifted ops found place chosen aside) where
  left_far : true ≡ is_far ops (candidates_at found chosen) (candidate_of x) → marks_left ops found place chosen ≡ true ∷ marks_left ops found (place + 1) (chosen ++ place ∷ [])
  left_far far_is =
      left_more ops found place chosen x true h is far_is
      ∙ ap (λ (cs : List Candidate). true ∷ far_marks ops cs (drop (place + 1) (map candidate_of found))) (sym (at_last found chosen place x (read_at found place x h is)))

  left_near : false ≡ is_far ops (candidates_at found chosen) (candidate_of x) → marks_left ops found place chosen ≡ false ∷ marks_left ops found (place + 1) chosen
  left_near far_is = left_more ops found place chosen x false h is far_is

  pub sifted_far : true ≡ is_far ops (candidates_at found chosen) (candidate_of x) → IsSifted ops found (place + 1) (chosen ++ place ∷ []) aside
  sifted_far far_is =
      let marks : List Bool = marks_left ops found (place + 1) (chosen ++ place ∷ []) in
      record {
        far =
            append_assoc chosen (place ∷ []) (set_places (place + 1) marks)
            ∙ ap (λ (n : ℕ). chosen ++ place ∷ set_places n marks) (next place)
            ∙ ap (λ (ms : List Bool). chosen ++ set_places place ms) (sym (left_far far_is))
            ∙ s.far;
        near =
            ap (λ (n : ℕ). aside ++ clear_places n marks) (next place)
            ∙ ap (λ (ms : List Bool). aside ++ clear_places place ms) (sym (left_far far_is))
            ∙ s.near;
        inside = All-push (λ (k : ℕ). k < length found) chosen place s.inside h;
      }

  pub sifted_near : false ≡ is_far ops (candidates_at found chosen) (candidate_of x) → IsSifted ops found (place + 1) chosen (aside ++ place ∷ [])
  sifted_near far_is =
      let marks : List Bool = marks_left ops found (place + 1) chosen in
      record {
        far =
            ap (λ (n : ℕ). chosen ++ set_places n marks) (next place)
            ∙ ap (λ (ms : List Bool). chosen ++ set_places place ms) (sym (left_near far_is))
            ∙ s.far;
        near =
            append_assoc aside (place ∷ []) (clear_places (place + 1) marks)
            ∙ ap (λ (n : ℕ). aside ++ place ∷ clear_places n marks) (next place)
            ∙ ap (λ (ms : List Bool). aside ++ clear_places place ms) (sym (left_near far_is))
            ∙ s.near;
        inside = s.inside;
      }

-- ---- enough are sifted

-- where all were looked at, nothing is left
pub enough_at_end : (ops : Ops) (found : List Found) (place count : ℕ) (chosen aside : List ℕ) → length found ≤ place → IsSifted ops found place chosen aside
    → IsEnough ops found count chosen aside
enough_at_end ops found place count chosen aside h s =
    let past : length (map candidate_of found) ≤ place = omega (arith, length-map found candidate_of, h) in
    let none : marks_left ops found place chosen ≡ [] = ap (far_marks ops (candidates_at found chosen)) (drop_all place (map candidate_of found) past) in
    let far : chosen ≡ set_places 0 (far_marks ops [] (map candidate_of found)) =
    sym (append-nil chosen) ∙ ap (λ (ms : List Bool). chosen ++ set_places place ms) (sym none) ∙ s.far in
    let near : aside ≡ clear_places 0 (far_marks ops [] (map candidate_of found)) =
    sym (append-nil aside) ∙ ap (λ (ms : List Bool). aside ++ clear_places place ms) (sym none) ∙ s.near in
    ap (λ (ks : List ℕ). take count (ks ++ aside)) far ∙ ap (λ (ks : List ℕ). take count (set_places 0 (far_marks ops [] (map candidate_of found)) ++ ks)) near

-- where so many are chosen, what is left and set aside counts for nothing
pub enough_chosen : (ops : Ops) (found : List Found) (place count : ℕ) (chosen aside : List ℕ) → length chosen ≡ count → IsSifted ops found place chosen aside
    → IsEnough ops found count chosen aside
enough_chosen ops found place count chosen aside h s =
    let rest : List ℕ = set_places place (marks_left ops found place chosen) in
    let near : List ℕ = clear_places 0 (far_marks ops [] (map candidate_of found)) in
    take_at chosen aside count h ∙ sym (take_at chosen (rest ++ near) count h) ∙ ap (take count) (sym (append_assoc chosen rest near))
    ∙ ap (λ (ks : List ℕ). take count (ks ++ near)) s.far

-- ---- filling up

pub filled : (chosen aside : List ℕ) (count wanted : ℕ) → length chosen ≤ count → wanted ≡ min (length aside) (count - length chosen)
    → chosen ++ take wanted aside ≡ take count (chosen ++ aside)
filled chosen aside count wanted h is =
    let whole : length chosen + (count - length chosen) ≡ count = omega arith in
    let swapped : min (length aside) (count - length chosen) ≡ min (count - length chosen) (length aside) = omega arith in
    ap (λ (n : ℕ). chosen ++ take n aside) (is ∙ swapped) ∙ ap (λ (ks : List ℕ). chosen ++ ks) (take_min (count - length chosen) aside)
    ∙ sym (take-append-add chosen aside (count - length chosen)) ∙ ap (λ (n : ℕ). take n (chosen ++ aside)) whole
