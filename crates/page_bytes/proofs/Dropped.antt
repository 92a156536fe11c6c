-- What a drop does to the bytes of a page.
use Rattle.std.proofs.Common.{◌≡◌, ℕ, zero, suc, ◌+◌, ◌-◌, ◌*◌, ◌/◌, ◌%◌, ◌^◌, ◌<◌, ◌≤◌, ◌⊎◌, inl, inr, true, false, nat_eq, List, [], ◌∷◌, ◌++◌, slice_index, length, get_or, take, drop, refl, sym, ap, ◌∙◌, subst, below_more, arith, rules, append_assoc}
use Rattle.std.specs.Int.{w16, to_le_bytes}
use Rattle.std.specs.List.{All, list_any, copy_within}
use Rattle.std.specs.List.Sorted.{IsStrictlyIncreasing}
use Rattle.std.proofs.Math.Seq.{take-append-add, drop-append-add}
use Rattle.std.proofs.lemmas.Bool.{cases_lt, cases_eq, false≢true}
use Rattle.std.proofs.lemmas.Bool.Decides.{nat_tests}
use Rattle.std.proofs.lemmas.List.{get_or_default, take-append-le, length-take-le, length-drop, drop_more, append-nil, take_at, drop_at, drop-drop, length-append, length-replicate, take-append-drop}
use Rattle.std.proofs.lemmas.List.Elements.{All-push}
use Rattle.std.proofs.lemmas.List.Folds.{list_any_none, list_any_at}
use Rattle.page_bytes.specs.Content.{Content, IsPage, IsItem, round8, taken, lower_of, upper_of, others}
use Rattle.page_bytes.specs.Spelling.{zeros, header, line_pointer, line_pointers, padded, stacked, special, spelling}
use Rattle.page_bytes.specs.Decoding.{word_at, Spells}
use Rattle.page_bytes.specs.Splice.{spliced}
use Rattle.page_bytes.specs.Dropping.{Gathers, Meets}
use Rattle.page_bytes.proofs.Numbers.{spliced_at}
use Rattle.page_bytes.proofs.Placing.{taken-nil, taken-cons, taken-append, length-line_pointer, line_pointers-cons, line_pointers-append, length-line_pointers, length-padded, stacked-cons, stacked-append, length-stacked, Lies, Points, lies_points}
use Rattle.page_bytes.proofs.Whole.{length-header}
use Rattle.page_bytes.proofs.Changes.{zeros-add, spelling-from, line_pointers-one, stacked-one, taken-one, spliced-lower, spliced-upper}

-- ---- which offsets go

rising : (gone : List ℕ) (k n : ℕ) → IsStrictlyIncreasing gone → k + n < length gone → slice_index gone k + n ≤ slice_index gone (k + n)
rising gone k zero r h = let e : k + zero ≡ k = omega arith in rw e (omega arith)
rising gone k (suc n) r h =
    let e : k + suc n ≡ k + n + 1 = omega arith in
    rw e (omega (arith, rising gone k n r (omega arith), r (k + n) (omega arith)))

pub met_here : (gone : List ℕ) (next off : ℕ) → next < length gone → slice_index gone next ≡ off → list_any (λ g. nat_eq g off) gone ≡ true
met_here gone next off h e =
    list_any_at (λ g. nat_eq g off) gone next 0 h (grind (arith, nat_tests))

pub met_nowhere : (gone : List ℕ) (next off : ℕ) → IsStrictlyIncreasing gone → Meets gone next off → (next < length gone → off < slice_index gone next) → list_any (λ g. nat_eq g off) gone ≡ false
met_nowhere gone next off r m h =
    list_any_none (λ g. nat_eq g off) gone (λ k d in_range.
    let e = get_or_default gone k d 0 in_range in
    let apart : (slice_index gone k < off) ⊎ (off < slice_index gone k) = elim (cases_lt k next) [
      | inl low ↦ inl (m.before k low)
      | inr high ↦
          let n : next + (k - next) ≡ k = omega arith in
          let up : slice_index gone next + (k - next) ≤ slice_index gone k = rw n at (rising gone next (k - next) r (omega arith)) in
          inr (omega (arith, up, h (omega arith)))
    ] in
    elim apart [
      | inl low ↦ grind (arith, nat_tests)
      | inr high ↦ grind (arith, nat_tests)
    ])

-- ---- moving up

pub copied_up : (a x j t : List ℕ) (src r dest : ℕ) → length a ≡ src → length x ≡ r → src + length j ≡ dest → copy_within (a ++ (x ++ (j ++ t))) src (src + r) dest ≡ a ++ (take (length j) (x ++ j) ++ (x ++ t))
copied_up a x j t src r dest la lx d =
    let xs : List ℕ = a ++ (x ++ (j ++ t)) in
    let m = length j in
    let moved : take (src + r - src) (drop src xs) ≡ x = let e : src + r - src ≡ r = omega arith in rw (e, drop_at a (x ++ (j ++ t)) src la) (take_at x (j ++ t) r lx) in
    let grouped : x ++ (j ++ t) ≡ (x ++ j) ++ t = sym (append_assoc x j t) in
    let front : take dest xs ≡ a ++ take m (x ++ j) = let e : dest ≡ length a + m = omega arith in rw e (take-append-add a (x ++ (j ++ t)) m ∙ ap (λ (s : List ℕ). a ++ s) (ap (take m) grouped ∙ take-append-le m (x ++ j) t (omega (arith, length-append x j)))) in
    let back : drop (dest + (src + r - src)) xs ≡ t = let e : dest + (src + r - src) ≡ length a + length (x ++ j) = omega (arith, length-append x j) in rw e (drop-append-add a (x ++ (j ++ t)) (length (x ++ j)) ∙ ap (drop (length (x ++ j))) grouped ∙ drop_at (x ++ j) t (length (x ++ j)) refl) in
    rw (front, moved, back) (append_assoc (a ++ take m (x ++ j)) x t ∙ append_assoc a (take m (x ++ j)) (x ++ t))

-- nothing moves
pub copied_in_place : (xs : List ℕ) (from count to : ℕ) → from ≡ to → xs ≡ copy_within xs from (from + count) to
copied_in_place xs from count to e =
    let m : from + count - from ≡ count = omega arith in
    rw (← e, m) (sym (append_assoc (take from xs) (take count (drop from xs)) (drop (from + count) xs) ∙ ap (λ (t : List ℕ). take from xs ++ (take count (drop from xs) ++ t)) (sym (drop-drop count from xs)) ∙ ap (λ (t : List ℕ). take from xs ++ t) (take-append-drop count (drop from xs)) ∙ take-append-drop from xs))

-- ---- gathering

start_same : (h p3 z s1 sp : List ℕ) → h ++ (p3 ++ (z ++ (s1 ++ sp))) ≡ h ++ ([] ++ ([] ++ (p3 ++ (z ++ (s1 ++ ([] ++ ([] ++ sp)))))))
start_same h p3 z s1 sp = refl

pub gathers_none : (p : Content) (gone bytes : List ℕ) → Spells bytes p → Gathers p gone bytes 1 24 8184 p.items
unfolding spelling line_pointers stacked
gathers_none p gone bytes s =
    let top : 8184 ≡ upper_of p.items + taken p.items = omega (arith, s.page.room) in
    record {
      kept = [];
      old_pointers = [];
      old_bytes = [];
      all = refl;
      fit = search rules;
      count_is = omega arith;
      at_is = refl;
      top_is = omega (arith, taken-nil);
      pointers_are = omega arith;
      bytes_are = omega (arith, s.page.room);
      same = s.same ∙ ap (λ (t : ℕ). header p.number (lower_of p.items) (upper_of p.items) ++ (line_pointers t p.items ++ (zeros (upper_of p.items - lower_of p.items) ++ (stacked p.items ++ special p.next p.kind)))) top;
    }

group_below : (h p1 p2 p3 z s1 j t : List ℕ) → h ++ (p1 ++ (p2 ++ (p3 ++ (z ++ (s1 ++ (j ++ t)))))) ≡ (h ++ (p1 ++ (p2 ++ (p3 ++ z)))) ++ (s1 ++ (j ++ t))
group_below h p1 p2 p3 z s1 j t = simp append_assoc

group_front : (h p1 p2 t : List ℕ) → h ++ (p1 ++ (p2 ++ t)) ≡ (h ++ (p1 ++ p2)) ++ t
group_front h p1 p2 t = simp append_assoc

-- the items that are not looked at yet still lie where they lay
pub gathers_lie : (p : Content) (gone bytes : List ℕ) (off at top : ℕ) (rest : List (List ℕ)) → Gathers p gone bytes off at top rest → taken p.items + 4 * length p.items ≤ 8160 → Lies bytes (20 + 4 * off) (upper_of p.items + taken rest) rest
gathers_lie p gone bytes off at top rest g room =
    let lower = lower_of p.items in
    let upper = upper_of p.items in
    let h : List ℕ = header p.number lower upper in
    let p1 : List ℕ = line_pointers 8184 g.kept in
    let p2 : List ℕ = g.old_pointers in
    let p3 : List ℕ = line_pointers (upper + taken rest) rest in
    let z : List ℕ = zeros (upper - lower) in
    let s1 : List ℕ = stacked rest in
    let t : List ℕ = stacked g.kept ++ special p.next p.kind in
    let long : length (h ++ (p1 ++ p2)) ≡ 20 + 4 * off = omega (arith, length-header p.number lower upper, length-line_pointers 8184 g.kept, length-append h (p1 ++ p2), length-append p1 p2, g.at_is, g.pointers_are) in
    record {
      behind = z ++ (s1 ++ (g.old_bytes ++ t));
      below = h ++ (p1 ++ (p2 ++ (p3 ++ z)));
      above = g.old_bytes ++ t;
      pointers = ap (drop (20 + 4 * off)) (g.same ∙ group_front h p1 p2 (p3 ++ (z ++ (s1 ++ (g.old_bytes ++ t))))) ∙ drop_at (h ++ (p1 ++ p2)) (p3 ++ (z ++ (s1 ++ (g.old_bytes ++ t)))) (20 + 4 * off) long;
      stack = g.same ∙ group_below h p1 p2 p3 z s1 g.old_bytes t;
      place = omega (arith, length-header p.number lower upper, length-line_pointers 8184 g.kept, length-line_pointers (upper + taken rest) rest, length-replicate {A = ℕ} (upper - lower) 0, length-append h (p1 ++ (p2 ++ (p3 ++ z))), length-append p1 (p2 ++ (p3 ++ z)), length-append p2 (p3 ++ z), length-append p3 z, g.at_is, g.pointers_are, g.count_is, room);
      within = omega (arith, g.bytes_are, g.top_is);
    }

-- the first of the rest, apart
record First (p : Content) (x : List ℕ) (xs : List (List ℕ)) : Type 0 where
  ptr : List ℕ
  long : length ptr ≡ 4
  pointers : line_pointers (upper_of p.items + taken (x ∷ xs)) (x ∷ xs) ≡ ptr ++ line_pointers (upper_of p.items + taken xs) xs

first_of_rest : (p : Content) (x : List ℕ) (xs : List (List ℕ)) → First p x xs
first_of_rest p x xs =
    let top = upper_of p.items + taken (x ∷ xs) in
    let place = top - round8 (length x) in
    let e : place ≡ upper_of p.items + taken xs = omega (arith, taken-cons x xs) in
    record {
      ptr = line_pointer place (length x);
      long = length-line_pointer place (length x);
      pointers = line_pointers-cons top x xs ∙ ap (λ (t : ℕ). line_pointer place (length x) ++ line_pointers t xs) e;
    }

others-gone : (gone : List ℕ) (off : ℕ) (x : List ℕ) (xs : List (List ℕ)) → list_any (λ g. nat_eq g off) gone ≡ true → others gone off (x ∷ xs) ≡ others gone (off + 1) xs
others-gone gone off x xs e = rw e refl

others-kept : (gone : List ℕ) (off : ℕ) (x : List ℕ) (xs : List (List ℕ)) → list_any (λ g. nat_eq g off) gone ≡ false → others gone off (x ∷ xs) ≡ x ∷ others gone (off + 1) xs
others-kept gone off x xs e = rw e refl

group_drop : (h p1 p2 q p3 z s1 x j t : List ℕ) → h ++ (p1 ++ (p2 ++ ((q ++ p3) ++ (z ++ ((s1 ++ x) ++ (j ++ t)))))) ≡ h ++ (p1 ++ ((p2 ++ q) ++ (p3 ++ (z ++ (s1 ++ ((x ++ j) ++ t))))))
group_drop h p1 p2 q p3 z s1 x j t = simp append_assoc

-- an item that goes is left over
pub gathers_gone : (p : Content) (gone bytes : List ℕ) (off at top : ℕ) (x : List ℕ) (xs : List (List ℕ)) → Gathers p gone bytes off at top (x ∷ xs) → list_any (λ g. nat_eq g off) gone ≡ true → Gathers p gone bytes (off + 1) at top xs
gathers_gone p gone bytes off at top x xs g e =
    let lower = lower_of p.items in
    let upper = upper_of p.items in
    let h : List ℕ = header p.number lower upper in
    let p1 : List ℕ = line_pointers 8184 g.kept in
    let p2 : List ℕ = g.old_pointers in
    let z : List ℕ = zeros (upper - lower) in
    let t : List ℕ = stacked g.kept ++ special p.next p.kind in
    let f = first_of_rest p x xs in
    record {
      kept = g.kept;
      old_pointers = g.old_pointers ++ f.ptr;
      old_bytes = padded x ++ g.old_bytes;
      all = ap (λ (t : List (List ℕ)). g.kept ++ t) (sym (others-gone gone off x xs e)) ∙ g.all;
      fit = g.fit;
      count_is = omega (arith, g.count_is);
      at_is = g.at_is;
      top_is = g.top_is;
      pointers_are = omega (arith, g.pointers_are, length-append g.old_pointers f.ptr, f.long);
      bytes_are = omega (arith, g.bytes_are, length-append (padded x) g.old_bytes, length-padded x, taken-cons x xs);
      same = g.same ∙ ap (λ (q : List ℕ). h ++ (p1 ++ (p2 ++ (q ++ (z ++ (stacked (x ∷ xs) ++ (g.old_bytes ++ t))))))) f.pointers ∙ ap (λ (s : List ℕ). h ++ (p1 ++ (p2 ++ ((f.ptr ++ line_pointers (upper + taken xs) xs) ++ (z ++ (s ++ (g.old_bytes ++ t))))))) (stacked-cons x xs) ∙ group_drop h p1 p2 f.ptr (line_pointers (upper + taken xs) xs) z (stacked xs) (padded x) g.old_bytes t;
    }

-- an item that stays moves up, and its line pointer to the front
group_keep : (h p1 p2 q p3 z s1 x j t : List ℕ) → h ++ (p1 ++ (p2 ++ ((q ++ p3) ++ (z ++ ((s1 ++ x) ++ (j ++ t)))))) ≡ (h ++ (p1 ++ (p2 ++ ((q ++ p3) ++ (z ++ s1))))) ++ (x ++ (j ++ t))
group_keep h p1 p2 q p3 z s1 x j t = simp append_assoc

group_point : (h p1 p2 q p3 z s1 w : List ℕ) → (h ++ (p1 ++ (p2 ++ ((q ++ p3) ++ (z ++ s1))))) ++ w ≡ (h ++ p1) ++ ((p2 ++ q) ++ (p3 ++ (z ++ (s1 ++ w))))
group_point h p1 p2 q p3 z s1 w = simp append_assoc

group_kept : (h p1 n o p3 z s1 j x s t : List ℕ) → (h ++ p1) ++ (n ++ (o ++ (p3 ++ (z ++ (s1 ++ (j ++ (x ++ (s ++ t)))))))) ≡ h ++ ((p1 ++ n) ++ (o ++ (p3 ++ (z ++ (s1 ++ (j ++ ((x ++ s) ++ t)))))))
group_kept h p1 n o p3 z s1 j x s t = simp append_assoc

-- a number of bytes written over the front of a longer part
spliced_front : (a b c ys : List ℕ) (at : ℕ) → length a ≡ at → length ys ≤ length b → spliced (a ++ (b ++ c)) at ys ≡ a ++ (ys ++ (drop (length ys) b ++ c))
spliced_front a b c ys at e h =
    let n = length ys in
    let split : b ++ c ≡ take n b ++ (drop n b ++ c) = ap (λ (t : List ℕ). t ++ c) (sym (take-append-drop n b)) ∙ append_assoc (take n b) (drop n b) c in
    ap (λ (t : List ℕ). spliced (a ++ t) at ys) split ∙ spliced_at a (take n b) (drop n b ++ c) ys at e (length-take-le n b h)

pub gathers_kept : (p : Content) (gone bytes : List ℕ) (off at top : ℕ) (x : List ℕ) (xs : List (List ℕ)) (place to : ℕ) → Gathers p gone bytes off at top (x ∷ xs) → list_any (λ g. nat_eq g off) gone ≡ false → IsItem x → taken p.items + 4 * length p.items ≤ 8160 → place ≡ upper_of p.items + taken xs → to + round8 (length x) ≡ top → Gathers p gone (spliced (copy_within bytes place (place + round8 (length x)) to) at (line_pointer to (length x))) (off + 1) (at + 4) to xs
gathers_kept p gone bytes off at top x xs place to g e x_fits room place_is to_is =
    let lower = lower_of p.items in
    let upper = upper_of p.items in
    let r = round8 (length x) in
    let h : List ℕ = header p.number lower upper in
    let p1 : List ℕ = line_pointers 8184 g.kept in
    let p2 : List ℕ = g.old_pointers in
    let z : List ℕ = zeros (upper - lower) in
    let sp : List ℕ = special p.next p.kind in
    let t : List ℕ = stacked g.kept ++ sp in
    let j : List ℕ = g.old_bytes in
    let f = first_of_rest p x xs in
    let q : List ℕ = f.ptr in
    let p3 : List ℕ = line_pointers (upper + taken xs) xs in
    let s1 : List ℕ = stacked xs in
    let px : List ℕ = padded x in
    let len_px : length px ≡ r = length-padded x in
    let cons = taken-cons x xs in
    let before : List ℕ = h ++ (p1 ++ (p2 ++ ((q ++ p3) ++ (z ++ s1)))) in
    let parts : bytes ≡ before ++ (px ++ (j ++ t)) = g.same ∙ ap (λ (l : List ℕ). h ++ (p1 ++ (p2 ++ (l ++ (z ++ (stacked (x ∷ xs) ++ (j ++ t))))))) f.pointers ∙ ap (λ (l : List ℕ). h ++ (p1 ++ (p2 ++ ((q ++ p3) ++ (z ++ (l ++ (j ++ t))))))) (stacked-cons x xs) ∙ group_keep h p1 p2 q p3 z s1 px j t in
    let len_h : length h ≡ 24 = length-header p.number lower upper in
    let len_p1 : length p1 ≡ 4 * length g.kept = length-line_pointers 8184 g.kept in
    let len_p3 : length p3 ≡ 4 * length xs = length-line_pointers (upper + taken xs) xs in
    let len_z : length z ≡ upper - lower = length-replicate {A = ℕ} (upper - lower) 0 in
    let len_s1 : length s1 ≡ taken xs = length-stacked xs in
    let long : length before ≡ place = omega (arith, g.at_is, g.pointers_are, g.count_is, room, f.long, length-append h (p1 ++ (p2 ++ ((q ++ p3) ++ (z ++ s1)))), length-append p1 (p2 ++ ((q ++ p3) ++ (z ++ s1))), length-append p2 ((q ++ p3) ++ (z ++ s1)), length-append (q ++ p3) (z ++ s1), length-append q p3, length-append z s1) in
    let j' : List ℕ = take (length j) (px ++ j) in
    let moved : copy_within bytes place (place + r) to ≡ before ++ (j' ++ (px ++ t)) = ap (λ (b : List ℕ). copy_within b place (place + r) to) parts ∙ copied_up before px j t place r to long len_px (omega (arith, g.bytes_are)) in
    let ptr : List ℕ = line_pointer to (length x) in
    let len_ptr : length ptr ≡ 4 = length-line_pointer to (length x) in
    let rest : List ℕ = p3 ++ (z ++ (s1 ++ (j' ++ (px ++ t)))) in
    let o : List ℕ = drop (length ptr) (p2 ++ q) in
    let len_pq : length (p2 ++ q) ≡ length p2 + 4 = omega (arith, f.long, length-append p2 q) in
    let pointed : spliced (copy_within bytes place (place + r) to) at ptr ≡ (h ++ p1) ++ (ptr ++ (o ++ rest)) = ap (λ (b : List ℕ). spliced b at ptr) (moved ∙ group_point h p1 p2 q p3 z s1 (j' ++ (px ++ t))) ∙ spliced_front (h ++ p1) (p2 ++ q) rest ptr at (omega (arith, g.at_is, length-append h p1)) (omega arith) in
    let top_is : 8184 - taken g.kept - r ≡ to = omega (arith, g.top_is) in
    let pointers : line_pointers 8184 (g.kept ++ x ∷ []) ≡ p1 ++ ptr = line_pointers-append 8184 g.kept (x ∷ []) ∙ ap (λ (l : List ℕ). p1 ++ l) (line_pointers-one (8184 - taken g.kept) x ∙ ap (λ (n : ℕ). line_pointer n (length x)) top_is) in
    let stack : stacked (g.kept ++ x ∷ []) ≡ px ++ stacked g.kept = stacked-append g.kept (x ∷ []) ∙ ap (λ (l : List ℕ). l ++ stacked g.kept) (stacked-one x) in
    let len_o : length o ≡ length p2 = omega (arith, length-drop (length ptr) (p2 ++ q)) in
    let len_j : length j' ≡ length j = length-take-le (length j) (px ++ j) (omega (arith, length-append px j)) in
    record {
      kept = g.kept ++ x ∷ [];
      old_pointers = o;
      old_bytes = j';
      all = append_assoc g.kept (x ∷ []) (others gone (off + 1) xs) ∙ ap (λ (l : List (List ℕ)). g.kept ++ l) (sym (others-kept gone off x xs e)) ∙ g.all;
      fit = All-push IsItem g.kept x g.fit x_fits;
      count_is = omega (arith, g.count_is);
      at_is = omega (arith, g.at_is, length-append g.kept (x ∷ []));
      top_is = omega (arith, g.top_is, taken-append g.kept (x ∷ []), taken-one x);
      pointers_are = omega (arith, g.pointers_are);
      bytes_are = omega (arith, g.bytes_are);
      same = pointed ∙ group_kept h p1 ptr o p3 z s1 j' px (stacked g.kept) sp ∙ sym (ap (λ (l : List ℕ). h ++ (l ++ (o ++ (p3 ++ (z ++ (s1 ++ (j' ++ (stacked (g.kept ++ x ∷ []) ++ sp)))))))) pointers ∙ ap (λ (l : List ℕ). h ++ ((p1 ++ ptr) ++ (o ++ (p3 ++ (z ++ (s1 ++ (j' ++ (l ++ sp)))))))) stack);
    }

-- ---- one step of the loop, by the word that it reads

-- what the line pointer of the next item says
pub record Next (p : Content) (at top i word : ℕ) : Type 0 where
  pub len : word / 2 ^ 17 ≡ length (get_or p.items i [])
  pub place : word % 2 ^ 15 ≡ upper_of p.items + taken (drop (i + 1) p.items)
  pub fits : word % 2 ^ 15 + round8 (word / 2 ^ 17) ≤ top
  pub below : top ≤ 8184
  pub free : at + 4 ≤ 8184

opened : (p : Content) (gone bytes : List ℕ) (i at top : ℕ) → Gathers p gone bytes (i + 1) at top (drop i p.items) → i < length p.items → Gathers p gone bytes (i + 1) at top (get_or p.items i [] ∷ drop (i + 1) p.items)
opened p gone bytes i at top g h =
    subst (Gathers p gone bytes (i + 1) at top) (drop_more p.items i [] h) g

pub next_word : (p : Content) (gone bytes : List ℕ) (i at top word : ℕ) → Gathers p gone bytes (i + 1) at top (drop i p.items) → IsPage p → i < length p.items → word ≡ word_at bytes (24 + 4 * i) → Next p at top i word
next_word p gone bytes i at top word g page h is =
    let x = get_or p.items i [] in
    let xs = drop (i + 1) p.items in
    let o = opened p gone bytes i at top g h in
    let cons = taken-cons x xs in
    let l = gathers_lie p gone bytes (i + 1) at top (x ∷ xs) o page.room in
    let where_is : 20 + 4 * (i + 1) ≡ 24 + 4 * i = omega arith in
    let q : Points bytes (upper_of p.items + taken (x ∷ xs)) (x ∷ xs) 0 (word_at bytes (24 + 4 * i)) x = rw where_is at (lies_points bytes (20 + 4 * (i + 1)) (upper_of p.items + taken (x ∷ xs)) x xs l) in
    let r = subst (λ (w : ℕ). Points bytes (upper_of p.items + taken (x ∷ xs)) (x ∷ xs) 0 w x) (sym is) q in
    let len = ap round8 r.len in
    record {
      len = r.len;
      place = omega (arith, r.place, taken-nil);
      fits = omega (arith, r.place, taken-nil, o.bytes_are);
      below = omega (arith, o.top_is);
      free = omega (arith, page.room, o.pointers_are, o.count_is);
    }

pub step_gone : (p : Content) (gone bytes : List ℕ) (i at top : ℕ) → Gathers p gone bytes (i + 1) at top (drop i p.items) → i < length p.items → list_any (λ g. nat_eq g (i + 1)) gone ≡ true → Gathers p gone bytes (i + 1 + 1) at top (drop (i + 1) p.items)
step_gone p gone bytes i at top g h e =
    gathers_gone p gone bytes (i + 1) at top (get_or p.items i []) (drop (i + 1) p.items) (opened p gone bytes i at top g h) e

pub step_kept : (p : Content) (gone bytes : List ℕ) (i at top word : ℕ) → Gathers p gone bytes (i + 1) at top (drop i p.items) → IsPage p → i < length p.items → word ≡ word_at bytes (24 + 4 * i) → list_any (λ g. nat_eq g (i + 1)) gone ≡ false → let place = word % 2 ^ 15 in let len = word / 2 ^ 17 in let to = top - round8 len in Gathers p gone (spliced (copy_within bytes place (place + round8 len) to) at (line_pointer to len)) (i + 1 + 1) (at + 4) to (drop (i + 1) p.items)
step_kept p gone bytes i at top word g page h is e =
    let x = get_or p.items i [] in
    let xs = drop (i + 1) p.items in
    let n = next_word p gone bytes i at top word g page h is in
    let fits : round8 (word / 2 ^ 17) ≤ top = omega (arith, n.fits) in
    let same = ap round8 n.len in
    let k = gathers_kept p gone bytes (i + 1) at top x xs (word % 2 ^ 15) (top - round8 (length x)) (opened p gone bytes i at top g h) e (page.items i [] h) page.room n.place (omega arith) in
    subst (λ (len : ℕ). Gathers p gone (spliced (copy_within bytes (word % 2 ^ 15) (word % 2 ^ 15 + round8 len) (top - round8 len)) at (line_pointer (top - round8 len) len)) (i + 1 + 1) (at + 4) (top - round8 len) xs) (sym n.len) k

-- ---- what is left over becomes 0

group_first : (h p1 p2 z j t : List ℕ) → h ++ (p1 ++ (p2 ++ ([] ++ (z ++ ([] ++ (j ++ t)))))) ≡ (h ++ p1) ++ (p2 ++ (z ++ (j ++ t)))
group_first h p1 p2 z j t = simp append_assoc

group_second : (h p1 p2 z j t : List ℕ) → (h ++ p1) ++ (p2 ++ (z ++ (j ++ t))) ≡ (h ++ (p1 ++ (p2 ++ z))) ++ (j ++ t)
group_second h p1 p2 z j t = simp append_assoc

group_cleared : (h p1 p2 z j t : List ℕ) → (h ++ (p1 ++ (p2 ++ z))) ++ (j ++ t) ≡ h ++ (p1 ++ ((p2 ++ (z ++ j)) ++ t))
group_cleared h p1 p2 z j t = simp append_assoc

pub gathers_all : (p : Content) (gone bytes : List ℕ) (off at top lower upper : ℕ) → Gathers p gone bytes off at top [] → IsPage p → lower ≡ lower_of p.items → upper ≡ upper_of p.items → Spells (spliced (spliced (spliced (spliced bytes at (zeros (lower - at))) upper (zeros (top - upper))) 12 (to_le_bytes w16 at)) 14 (to_le_bytes w16 top)) (record p { items = others gone 1 p.items })
unfolding line_pointers stacked
gathers_all p gone bytes off at top lower upper g page l_is u_is =
    let q : Content = record p { items = g.kept } in
    let l0 = lower_of p.items in
    let u0 = upper_of p.items in
    let h : List ℕ = header p.number l0 u0 in
    let p1 : List ℕ = line_pointers 8184 g.kept in
    let p2 : List ℕ = g.old_pointers in
    let z : List ℕ = zeros (u0 - l0) in
    let j : List ℕ = g.old_bytes in
    let sp : List ℕ = special p.next p.kind in
    let t : List ℕ = stacked g.kept ++ sp in
    let a = lower - at in
    let b = top - upper in
    let nil = taken-nil in
    let len_h : length h ≡ 24 = length-header p.number l0 u0 in
    let len_p1 : length p1 ≡ 4 * length g.kept = length-line_pointers 8184 g.kept in
    let len_z : length z ≡ u0 - l0 = length-replicate {A = ℕ} (u0 - l0) 0 in
    let len_a : length (zeros a) ≡ a = length-replicate {A = ℕ} a 0 in
    let len_b : length (zeros b) ≡ b = length-replicate {A = ℕ} b 0 in
    let len_p2 : length p2 ≡ a = omega (arith, g.pointers_are, g.count_is) in
    let len_j : length j ≡ b = omega (arith, g.bytes_are) in
    let first : spliced bytes at (zeros a) ≡ (h ++ p1) ++ (zeros a ++ (z ++ (j ++ t))) = ap (λ (s : List ℕ). spliced s at (zeros a)) (g.same ∙ group_first h p1 p2 z j t) ∙ spliced_at (h ++ p1) p2 (z ++ (j ++ t)) (zeros a) at (omega (arith, g.at_is, length-append h p1)) (omega arith) in
    let long : length (h ++ (p1 ++ (zeros a ++ z))) ≡ upper = omega (arith, page.room, g.at_is, g.pointers_are, g.count_is, length-append h (p1 ++ (zeros a ++ z)), length-append p1 (zeros a ++ z), length-append (zeros a) z) in
    let second : spliced (spliced bytes at (zeros a)) upper (zeros b) ≡ (h ++ (p1 ++ (zeros a ++ z))) ++ (zeros b ++ t) = ap (λ (s : List ℕ). spliced s upper (zeros b)) (first ∙ group_second h p1 (zeros a) z j t) ∙ spliced_at (h ++ (p1 ++ (zeros a ++ z))) j t (zeros b) upper long (omega arith) in
    let joined : zeros a ++ (z ++ zeros b) ≡ zeros (top - at) = ap (λ (s : List ℕ). zeros a ++ s) (sym (zeros-add (u0 - l0) b)) ∙ sym (zeros-add a (u0 - l0 + b)) ∙ ap zeros (let e : a + (u0 - l0 + b) ≡ top - at = omega (arith, page.room, g.at_is, g.pointers_are, g.count_is, g.bytes_are) in e) in
    let tail : List ℕ = p1 ++ (zeros (top - at) ++ t) in
    let cleared : spliced (spliced bytes at (zeros a)) upper (zeros b) ≡ h ++ tail = second ∙ group_cleared h p1 (zeros a) z (zeros b) t ∙ ap (λ (s : List ℕ). h ++ (p1 ++ (s ++ t))) joined in
    let lower_set = spliced-lower p.number l0 u0 at tail in
    let upper_set = spliced-upper p.number at u0 top tail in
    let new : spelling q ≡ header p.number at top ++ tail = spelling-from q at top (top - at) (omega (arith, g.at_is)) (omega (arith, g.top_is)) (omega (arith, page.room, g.at_is, g.pointers_are, g.count_is, g.bytes_are)) in
    let same : spliced (spliced (spliced (spliced bytes at (zeros a)) upper (zeros b)) 12 (to_le_bytes w16 at)) 14 (to_le_bytes w16 top) ≡ spelling q = ap (λ (s : List ℕ). spliced (spliced s 12 (to_le_bytes w16 at)) 14 (to_le_bytes w16 top)) cleared ∙ ap (λ (s : List ℕ). spliced s 14 (to_le_bytes w16 top)) lower_set ∙ upper_set ∙ sym new in
    let spells : Spells (spliced (spliced (spliced (spliced bytes at (zeros a)) upper (zeros b)) 12 (to_le_bytes w16 at)) 14 (to_le_bytes w16 top)) q = record { page = record { next = page.next; number = page.number; items = g.fit; room = omega (arith, page.room, g.at_is, g.top_is, g.pointers_are, g.count_is, g.bytes_are) }; same = same } in
    let kept : g.kept ≡ others gone 1 p.items = sym (append-nil g.kept) ∙ g.all in
    subst (λ (items : List (List ℕ)). Spells (spliced (spliced (spliced (spliced bytes at (zeros a)) upper (zeros b)) 12 (to_le_bytes w16 at)) 14 (to_le_bytes w16 top)) (record p { items = items })) kept spells

-- ---- the offsets that have been met

pub meets_none : (gone : List ℕ) → All (λ off. 0 < off) gone → Meets gone 0 1
meets_none gone a = record { few = omega arith; before = λ k h. absurd (omega arith); from = λ h. omega (arith, a 0 0 h) }

met_now : (gone : List ℕ) (next off : ℕ) → IsStrictlyIncreasing gone → Meets gone next off → list_any (λ g. nat_eq g off) gone ≡ true → slice_index gone next ≡ off
met_now gone next off r m e = elim (cases_eq (slice_index gone next) off) [
  | inl same ↦ same
  | inr apart ↦ absurd (false≢true (sym (met_nowhere gone next off r m (λ h. omega (arith, apart, m.from h))) ∙ e))
]

pub meets_more : (gone : List ℕ) (next off : ℕ) → IsStrictlyIncreasing gone → Meets gone next off → list_any (λ g. nat_eq g off) gone ≡ true → Meets gone (next + 1) (off + 1)
meets_more gone next off r m e =
    let same = met_now gone next off r m e in
    record {
      few = omega (arith, m.few);
      before = below_more _ next (λ k h. omega (arith, m.before k h)) (omega (arith, same));
      from = λ h. omega (arith, r next h, same);
    }

pub meets_on : (gone : List ℕ) (next off : ℕ) → Meets gone next off → list_any (λ g. nat_eq g off) gone ≡ false → Meets gone next (off + 1)
meets_on gone next off m e = record {
  few = omega (arith, m.few);
  before = λ k h. omega (arith, m.before k h);
  from = λ h. elim (cases_eq (slice_index gone next) off) [
    | inl same ↦ absurd (false≢true (sym e ∙ met_here gone next off h same))
    | inr apart ↦ omega (arith, apart, m.from h)
  ];
}

-- ---- after the loop

pub record InOrder (at lower upper top : ℕ) : Type 0 where
  pub front : at ≤ lower
  pub gap : lower ≤ upper
  pub back : upper ≤ top
  pub last : top ≤ 8184
  pub start : 24 ≤ lower

pub in_order : (p : Content) (gone bytes : List ℕ) (off at top lower upper : ℕ) → Gathers p gone bytes off at top [] → taken p.items + 4 * length p.items ≤ 8160 → lower ≡ 24 + 4 * length p.items → upper + taken p.items ≡ 8184 → InOrder at lower upper top
in_order p gone bytes off at top lower upper g room l u = record {
  front = omega (arith, g.pointers_are, g.count_is);
  gap = omega (arith, room);
  back = omega (arith, g.bytes_are, taken-nil);
  last = omega (arith, g.top_is);
  start = omega (arith, l);
}
