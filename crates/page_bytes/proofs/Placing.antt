-- Where the parts of a page lie.
use Rattle.std.proofs.Common.{◌≡◌, ℕ, zero, suc, ◌+◌, ◌-◌, ◌*◌, ◌/◌, ◌%◌, ◌^◌, ◌<◌, ◌≤◌, List, [], ◌∷◌, ◌++◌, Some, slice_get, length, get_or, take, drop, refl, sym, ap, ◌∙◌, arith, append_assoc}
use Rattle.std.proofs.lemmas.List.{append-nil, take_at, drop_at, drop-drop, length-append, length-replicate}
use Rattle.page_bytes.specs.Content.{round8, taken}
use Rattle.page_bytes.specs.Spelling.{zeros, line_pointer, line_pointers, padded, stacked}
use Rattle.page_bytes.specs.Decoding.{word_at, named_by, items_at}
use Rattle.page_bytes.proofs.Numbers.{word_at-drop, word_at-bytes}

-- ---- sizes

pub record Rounds (n : ℕ) : Type 0 where
  pub above : n ≤ round8 n
  pub close : round8 n < n + 8
  pub whole : round8 n % 8 ≡ 0

pub rounds : (n : ℕ) → Rounds n
unfolding round8
rounds n = record { above = omega arith; close = omega arith; whole = omega arith }

pub taken-cons : (x : List ℕ) (xs : List (List ℕ)) → taken (x ∷ xs) ≡ round8 (length x) + taken xs
unfolding taken
taken-cons x xs = refl

pub taken-nil : taken [] ≡ 0
unfolding taken
taken-nil = refl

pub taken-append : (xs ys : List (List ℕ)) → taken (xs ++ ys) ≡ taken xs + taken ys
taken-append [] ys = omega (arith, taken-nil)
taken-append (x ∷ xs) ys =
    omega (arith, taken-cons x (xs ++ ys), taken-cons x xs, taken-append xs ys)

pub taken-whole : (xs : List (List ℕ)) → taken xs % 8 ≡ 0
taken-whole [] = omega (arith, taken-nil)
taken-whole (x ∷ xs) =
    omega (arith, taken-cons x xs, taken-whole xs, (rounds (length x)).whole)

-- ---- line pointers and items

pub length-line_pointer : (place len : ℕ) → length (line_pointer place len) ≡ 4
unfolding line_pointer
length-line_pointer place len = refl

pub line_pointers-cons : (top : ℕ) (x : List ℕ) (xs : List (List ℕ)) → line_pointers top (x ∷ xs) ≡ line_pointer (top - round8 (length x)) (length x) ++ line_pointers (top - round8 (length x)) xs
unfolding line_pointers
line_pointers-cons top x xs = refl

pub line_pointers-first : (top : ℕ) (x : List ℕ) (xs : List (List ℕ)) (z : List ℕ) → line_pointers top (x ∷ xs) ++ z ≡ line_pointer (top - round8 (length x)) (length x) ++ (line_pointers (top - round8 (length x)) xs ++ z)
line_pointers-first top x xs z =
    let place = top - round8 (length x) in
    ap (λ (t : List ℕ). t ++ z) (line_pointers-cons top x xs) ∙ append_assoc (line_pointer place (length x)) (line_pointers place xs) z

pub length-line_pointers : (top : ℕ) (xs : List (List ℕ)) → length (line_pointers top xs) ≡ 4 * length xs
unfolding line_pointers
length-line_pointers top [] = refl
length-line_pointers top (x ∷ xs) =
    let place = top - round8 (length x) in
    omega (arith, length-append (line_pointer place (length x)) (line_pointers place xs), length-line_pointer place (length x), length-line_pointers place xs)

pub line_pointers-append : (top : ℕ) (xs ys : List (List ℕ)) → line_pointers top (xs ++ ys) ≡ line_pointers top xs ++ line_pointers (top - taken xs) ys
unfolding line_pointers
line_pointers-append top [] ys = ap (λ t. line_pointers t ys) (omega (arith, taken-nil))
line_pointers-append top (x ∷ xs) ys =
    let place = top - round8 (length x) in
    let e : place - taken xs ≡ top - taken (x ∷ xs) = omega (arith, taken-cons x xs) in
    ap (λ (t : List ℕ). line_pointer place (length x) ++ t) (line_pointers-append place xs ys ∙ ap (λ t. line_pointers place xs ++ line_pointers t ys) e) ∙ sym (append_assoc (line_pointer place (length x)) (line_pointers place xs) (line_pointers (top - taken (x ∷ xs)) ys))

pub length-padded : (x : List ℕ) → length (padded x) ≡ round8 (length x)
unfolding padded
length-padded x =
    omega (arith, length-append x (zeros (round8 (length x) - length x)), length-replicate {A = ℕ} (round8 (length x) - length x) 0, (rounds (length x)).above)

pub stacked-cons : (x : List ℕ) (xs : List (List ℕ)) → stacked (x ∷ xs) ≡ stacked xs ++ padded x
unfolding stacked
stacked-cons x xs = refl

pub length-stacked : (xs : List (List ℕ)) → length (stacked xs) ≡ taken xs
unfolding stacked
length-stacked [] = sym taken-nil
length-stacked (x ∷ xs) =
    omega (arith, length-append (stacked xs) (padded x), length-padded x, length-stacked xs, taken-cons x xs)

pub stacked-append : (xs ys : List (List ℕ)) → stacked (xs ++ ys) ≡ stacked ys ++ stacked xs
unfolding stacked
stacked-append [] ys = sym (append-nil (stacked ys))
stacked-append (x ∷ xs) ys =
    ap (λ (t : List ℕ). t ++ padded x) (stacked-append xs ys) ∙ append_assoc (stacked ys) (stacked xs) (padded x)

-- ---- what lies in some bytes: line pointers from a place on, and the items that they name below another

pub record Lies (bytes : List ℕ) (at top : ℕ) (items : List (List ℕ)) : Type 0 where
  pub behind : List ℕ
  pub below : List ℕ
  pub above : List ℕ
  pub pointers : drop at bytes ≡ line_pointers top items ++ behind
  pub stack : bytes ≡ below ++ (stacked items ++ above)
  pub place : length below + taken items ≡ top
  pub within : top ≤ 8184

pub lies_next : (bytes : List ℕ) (at top : ℕ) (x : List ℕ) (xs : List (List ℕ)) → Lies bytes at top (x ∷ xs) → Lies bytes (at + 4) (top - round8 (length x)) xs
lies_next bytes at top x xs l =
    let place = top - round8 (length x) in
    let t = taken-cons x xs in
    record {
      behind = l.behind;
      below = l.below;
      above = padded x ++ l.above;
      pointers = sym (drop-drop 4 at bytes) ∙ ap (drop 4) (l.pointers ∙ line_pointers-first top x xs l.behind) ∙ drop_at (line_pointer place (length x)) (line_pointers place xs ++ l.behind) 4 (length-line_pointer place (length x));
      stack = l.stack ∙ ap (λ (s : List ℕ). l.below ++ (s ++ l.above)) (stacked-cons x xs) ∙ ap (λ (s : List ℕ). l.below ++ s) (append_assoc (stacked xs) (padded x) l.above);
      place = omega (arith, l.place);
      within = omega (arith, l.within);
    }

-- the first line pointer, and what it names
pub lies_word : (bytes : List ℕ) (at top : ℕ) (x : List ℕ) (xs : List (List ℕ)) → Lies bytes at top (x ∷ xs) → word_at bytes at ≡ top - round8 (length x) + 2 ^ 15 + length x * 2 ^ 17
unfolding line_pointer
lies_word bytes at top x xs l =
    let place = top - round8 (length x) in
    let t = taken-cons x xs in
    let r = rounds (length x) in
    let first : drop at bytes ≡ line_pointer place (length x) ++ (line_pointers place xs ++ l.behind) = l.pointers ∙ line_pointers-first top x xs l.behind in
    let moved : word_at (drop at bytes) 0 ≡ word_at bytes at = word_at-drop at 0 bytes ∙ ap (word_at bytes) (omega arith) in
    let small : place + 2 ^ 15 + length x * 2 ^ 17 < 2 ^ 32 = omega (arith, l.place, l.within, r.above) in
    sym moved ∙ ap (λ (b : List ℕ). word_at b 0) first ∙ word_at-bytes (place + 2 ^ 15 + length x * 2 ^ 17) (line_pointers place xs ++ l.behind) small

-- an item behind which its padding lies
take-padded : (x z : List ℕ) → take (length x) (padded x ++ z) ≡ x
unfolding padded
take-padded x z = rw append_assoc (take_at x (zeros (round8 (length x) - length x) ++ z) (length x) refl)

pub lies_named : (bytes : List ℕ) (at top : ℕ) (x : List ℕ) (xs : List (List ℕ)) → Lies bytes at top (x ∷ xs) → named_by bytes (word_at bytes at) ≡ x
unfolding named_by lies_next
lies_named bytes at top x xs l =
    let place = top - round8 (length x) in
    let t = taken-cons x xs in
    let r = rounds (length x) in
    let w = lies_word bytes at top x xs l in
    let len : word_at bytes at / 2 ^ 17 ≡ length x = omega (arith, l.place, l.within, r.above) in
    let low : word_at bytes at % 2 ^ 15 ≡ place = omega (arith, l.place, l.within, r.above) in
    let n = lies_next bytes at top x xs l in
    let front : length (l.below ++ stacked xs) ≡ place = omega (arith, length-append l.below (stacked xs), length-stacked xs, n.place) in
    let back : drop place bytes ≡ padded x ++ l.above = ap (drop place) (n.stack ∙ sym (append_assoc l.below (stacked xs) (padded x ++ l.above))) ∙ drop_at (l.below ++ stacked xs) (padded x ++ l.above) place front in
    rw (len, low, back) (take-padded x l.above)

pub items_at-lies : (bytes : List ℕ) (at top : ℕ) (items : List (List ℕ)) → Lies bytes at top items → items_at bytes at (length items) ≡ items
unfolding items_at
items_at-lies bytes at top [] l = refl
items_at-lies bytes at top (x ∷ xs) l =
    rw (lies_named bytes at top x xs l, items_at-lies bytes (at + 4) (top - round8 (length x)) xs (lies_next bytes at top x xs l)) refl

-- what a word says of the item that it names, the one at a place of the list
pub record Points (bytes : List ℕ) (top : ℕ) (items : List (List ℕ)) (i word : ℕ) (x : List ℕ) : Type 0 where
  pub there : slice_get items i ≡ Some x
  pub named : named_by bytes word ≡ x
  pub len : word / 2 ^ 17 ≡ length x
  pub place : word % 2 ^ 15 + round8 (length x) + taken (take i items) ≡ top

pub lies_points : (bytes : List ℕ) (at top : ℕ) (x : List ℕ) (xs : List (List ℕ)) → Lies bytes at top (x ∷ xs) → Points bytes top (x ∷ xs) 0 (word_at bytes at) x
lies_points bytes at top x xs l =
    let t = taken-cons x xs in
    let r = rounds (length x) in
    let w = lies_word bytes at top x xs l in
    record {
      there = refl;
      named = lies_named bytes at top x xs l;
      len = omega (arith, l.place, l.within, r.above);
      place = omega (arith, l.place, l.within, r.above, taken-nil);
    }

pub points : (bytes : List ℕ) (at top : ℕ) (items : List (List ℕ)) (i : ℕ) → Lies bytes at top items → i < length items → Points bytes top items i (word_at bytes (at + 4 * i)) (get_or items i [])
points bytes at top [] i l h = absurd (omega arith)
points bytes at top (x ∷ xs) zero l h =
    let e : at + 4 * 0 ≡ at = omega arith in rw e (lies_points bytes at top x xs l)
points bytes at top (x ∷ xs) (suc i) l h =
    let p = points bytes (at + 4) (top - round8 (length x)) xs i (lies_next bytes at top x xs l) (omega arith) in
    let e : at + 4 + 4 * i ≡ at + 4 * suc i = omega arith in
    let q = rw e at p in
    record {
      there = q.there;
      named = q.named;
      len = q.len;
      place = omega (arith, q.place, l.place, taken-cons x xs, taken-cons x (take i xs));
    }
