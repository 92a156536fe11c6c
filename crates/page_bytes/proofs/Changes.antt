-- What each change of the bytes does to what they spell.
use Rattle.std.proofs.Common.{◌≡◌, ℕ, zero, suc, ◌+◌, ◌-◌, ◌*◌, ◌%◌, ◌^◌, ◌<◌, ◌≤◌, List, [], ◌∷◌, ◌++◌, Option, Some, None, IfSome, IsSomeAnd, unwrap_or, slice_get, set, length, get_or, take, drop, refl, sym, ap, ◌∙◌, subst, arith, rules, append_assoc}
use Rattle.std.specs.Int.{w16, w32, w64, to_le_bytes}
use Rattle.std.specs.List.{All}
use Rattle.std.proofs.lemmas.List.{get_or_default, set-get_or, set_split, get_or_append_left, get_or-append-add, append-nil, length-append, length-replicate, replicate-append-replicate}
use Rattle.std.proofs.lemmas.List.Elements.{All-append, All-cons, All-tail, All-push}
use Rattle.page_bytes.specs.Content.{Content, IsPage, IsItem, IsNext, round8, taken, lower_of, upper_of, item_at}
use Rattle.page_bytes.specs.Spelling.{zeros, header, line_pointer, line_pointers, padded, stacked, special, spelling, next_word, kind_word}
use Rattle.page_bytes.specs.Decoding.{word_at, content, Spells, IsSpelled}
use Rattle.page_bytes.specs.Splice.{spliced, with_item}
use Rattle.page_bytes.specs.declared.kind.PageKind.{PageKind}
use Rattle.page_bytes.specs.declared.kind.PageKind.TheVariants.{Meta, Hnsw, IvfLists, IvfEntries}
use Rattle.page_bytes.proofs.Numbers.{spliced_at}
use Rattle.page_bytes.proofs.Placing.{line_pointers-cons, line_pointers-append, length-line_pointer, rounds, taken-nil, taken-cons, taken-append, stacked-cons, stacked-append, length-line_pointers, length-stacked}
use Rattle.page_bytes.proofs.Whole.{length-header, header_of, front, spelling-front, length-front, item_points}

pub zeros-add : (m n : ℕ) → zeros (m + n) ≡ zeros m ++ zeros n
zeros-add m n = sym (replicate-append-replicate m n 0)

-- ---- a page with no items

abbrev pub fresh_of : PageKind → Content
fresh_of k = record { kind = k; next = None; number = 0; items = [] }

-- the spelling, its numbers given
pub spelling-from : (p : Content) (l u g : ℕ) → l ≡ lower_of p.items → u ≡ upper_of p.items → l + g ≡ u → spelling p ≡ header p.number l u ++ (line_pointers 8184 p.items ++ (zeros g ++ (stacked p.items ++ special p.next p.kind)))
unfolding spelling
spelling-from p l u g e f h =
    let gap : upper_of p.items - lower_of p.items ≡ g = omega (arith, e, f, h) in
    rw (e, f, ← gap) refl

special_fresh : (k : PageKind) → special None k ≡ 255 ∷ 255 ∷ 255 ∷ 255 ∷ 0 ∷ 0 ∷ kind_word k ∷ 0 ∷ []
unfolding special
special_fresh Meta = refl
special_fresh Hnsw = refl
special_fresh IvfLists = refl
special_fresh IvfEntries = refl

pub line_pointers-nil : (top : ℕ) → line_pointers top [] ≡ []
unfolding line_pointers
line_pointers-nil top = refl

pub stacked-nil : stacked [] ≡ []
unfolding stacked
stacked-nil = refl

no_items : All IsItem []
no_items = search rules

fresh_page : (k : PageKind) → IsPage (fresh_of k)
fresh_page k = record { next = tt; number = omega arith; items = no_items; room = omega (arith, taken-nil) }

pub fresh_spelled : (m g : ℕ) (k : PageKind) → m ≡ 32 + g → g ≡ 8160 → Spells (spliced (spliced (zeros m) 12 (24 ∷ 0 ∷ 248 ∷ 31 ∷ 248 ∷ 31 ∷ 4 ∷ 32 ∷ [])) 8184 (255 ∷ 255 ∷ 255 ∷ 255 ∷ 0 ∷ 0 ∷ kind_word k ∷ 0 ∷ [])) (fresh_of k)
unfolding header
fresh_spelled m g k e f =
    let fields : List ℕ = 24 ∷ 0 ∷ 248 ∷ 31 ∷ 248 ∷ 31 ∷ 4 ∷ 32 ∷ [] in
    let ends : List ℕ = 255 ∷ 255 ∷ 255 ∷ 255 ∷ 0 ∷ 0 ∷ kind_word k ∷ 0 ∷ [] in
    let split : zeros m ≡ zeros 12 ++ (zeros 8 ++ (zeros 4 ++ (zeros g ++ zeros 8))) = ap zeros (let n : m ≡ 12 + (8 + (4 + (g + 8))) = omega arith in n) ∙ zeros-add 12 (8 + (4 + (g + 8))) ∙ ap (λ (t : List ℕ). zeros 12 ++ t) (zeros-add 8 (4 + (g + 8)) ∙ ap (λ (t : List ℕ). zeros 8 ++ t) (zeros-add 4 (g + 8) ∙ ap (λ (t : List ℕ). zeros 4 ++ t) (zeros-add g 8))) in
    let first : spliced (zeros m) 12 fields ≡ zeros 12 ++ (fields ++ (zeros 4 ++ (zeros g ++ zeros 8))) = ap (λ (t : List ℕ). spliced t 12 fields) split ∙ spliced_at (zeros 12) (zeros 8) (zeros 4 ++ (zeros g ++ zeros 8)) fields 12 refl refl in
    let before : List ℕ = header 0 24 8184 ++ zeros g in
    let long : length before ≡ 8184 = omega (arith, length-append (header 0 24 8184) (zeros g), length-replicate {A = ℕ} g 0) in
    let second : spliced (before ++ (zeros 8 ++ [])) 8184 ends ≡ before ++ (ends ++ []) = spliced_at before (zeros 8) [] ends 8184 long refl in
    let empty : spelling (fresh_of k) ≡ header 0 24 8184 ++ ([] ++ (zeros g ++ ([] ++ ends))) = spelling-from (fresh_of k) 24 8184 g refl (omega (arith, taken-nil)) (omega arith) ∙ rw (line_pointers-nil, stacked-nil, special_fresh k) refl in
    record { page = fresh_page k; same = ap (λ (t : List ℕ). spliced t 8184 ends) first ∙ second ∙ sym empty }

-- ---- the number and the next block

spliced-number : (n m l u : ℕ) (z : List ℕ) → spliced (header n l u ++ z) 0 (to_le_bytes w64 m) ≡ header m l u ++ z
unfolding spliced header
spliced-number n m l u z = refl

pub number_set : (bytes : List ℕ) (p : Content) (m : ℕ) → Spells bytes p → m < 2 ^ 64 → Spells (spliced bytes 0 (to_le_bytes w64 m)) (record p { number = m })
unfolding spelling
number_set bytes p m s small = record {
  page = record { next = s.page.next; number = small; items = s.page.items; room = s.page.room };
  same = ap (λ (b : List ℕ). spliced b 0 (to_le_bytes w64 m)) s.same ∙ spliced-number p.number m (lower_of p.items) (upper_of p.items) _;
}

pub next_set : (bytes : List ℕ) (p : Content) (next : Option ℕ) → Spells bytes p → IsNext p.kind next → Spells (spliced bytes 8184 (to_le_bytes w32 (next_word next))) (record p { next = next })
unfolding spelling special front header_of
next_set bytes p next s is_next =
    let q : Content = record p { next = next } in
    let kind : List ℕ = to_le_bytes w16 0 ++ to_le_bytes w16 (kind_word p.kind) in
    let parts : bytes ≡ front p ++ (to_le_bytes w32 (next_word p.next) ++ kind) = s.same ∙ spelling-front p in
    record {
      page = record { next = is_next; number = s.page.number; items = s.page.items; room = s.page.room };
      same = ap (λ (b : List ℕ). spliced b 8184 (to_le_bytes w32 (next_word next))) parts ∙ spliced_at (front p) (to_le_bytes w32 (next_word p.next)) kind (to_le_bytes w32 (next_word next)) 8184 (length-front p s.page.room) refl ∙ sym (spelling-front q);
    }

-- ---- facts of each item

all_left : (xs ys : List (List ℕ)) → All IsItem (xs ++ ys) → All IsItem xs
all_left xs ys a k d h =
    subst IsItem (get_or_append_left xs ys d k h) (a k d (omega (arith, length-append xs ys)))

all_right : (xs ys : List (List ℕ)) → All IsItem (xs ++ ys) → All IsItem ys
all_right xs ys a k d h =
    subst IsItem (get_or-append-add xs ys k d) (a (length xs + k) d (omega (arith, length-append xs ys)))

all_changed : (items before : List (List ℕ)) (x y : List ℕ) (after : List (List ℕ)) → items ≡ before ++ y ∷ after → All IsItem items → IsItem x → All IsItem (before ++ x ∷ after)
all_changed items before x y after is a h =
    let b : All IsItem (before ++ y ∷ after) = subst (All IsItem) is a in
    All-append IsItem before (x ∷ after) (all_left before (y ∷ after) b) (All-cons IsItem x after h (All-tail IsItem y after (all_right before (y ∷ after) b)))

-- ---- an item written over one of its length

same_pointers : (top : ℕ) (before : List (List ℕ)) (x y : List ℕ) (after : List (List ℕ)) → length x ≡ length y → line_pointers top (before ++ x ∷ after) ≡ line_pointers top (before ++ y ∷ after)
unfolding line_pointers
same_pointers top [] x y after e = rw e refl
same_pointers top (b ∷ before) x y after e =
    ap (λ (t : List ℕ). line_pointer (top - round8 (length b)) (length b) ++ t) (same_pointers (top - round8 (length b)) before x y after e)

taken-at : (before : List (List ℕ)) (x : List ℕ) (after : List (List ℕ)) → taken (before ++ x ∷ after) ≡ taken before + (round8 (length x) + taken after)
taken-at before x after =
    omega (arith, taken-append before (x ∷ after), taken-cons x after)

stacked-at : (before : List (List ℕ)) (x : List ℕ) (after : List (List ℕ)) → stacked (before ++ x ∷ after) ≡ stacked after ++ (x ++ (zeros (round8 (length x) - length x) ++ stacked before))
unfolding padded
stacked-at before x after =
    let pad = zeros (round8 (length x) - length x) in
    stacked-append before (x ∷ after) ∙ ap (λ (t : List ℕ). t ++ stacked before) (stacked-cons x after) ∙ append_assoc (stacked after) (x ++ pad) (stacked before) ∙ ap (λ (t : List ℕ). stacked after ++ t) (append_assoc x pad (stacked before))

regroup : (h l g a y pad b z : List ℕ) → h ++ (l ++ (g ++ ((a ++ (y ++ (pad ++ b))) ++ z))) ≡ (h ++ (l ++ (g ++ a))) ++ (y ++ (pad ++ (b ++ z)))
regroup h l g a y pad b z = simp append_assoc

pub overwritten : (bytes : List ℕ) (p : Content) (before : List (List ℕ)) (x y : List ℕ) (after : List (List ℕ)) (place : ℕ) → Spells bytes p → p.items ≡ before ++ y ∷ after → IsItem x → length x ≡ length y → place + round8 (length y) + taken before ≡ 8184 → Spells (spliced bytes place x) (record p { items = before ++ x ∷ after })
unfolding spelling
overwritten bytes p before x y after place s is x_fits len at =
    let q : Content = record p { items = before ++ x ∷ after } in
    let lower = lower_of p.items in
    let upper = upper_of p.items in
    let h : List ℕ = header p.number lower upper in
    let l : List ℕ = line_pointers 8184 p.items in
    let g : List ℕ = zeros (upper - lower) in
    let pad : List ℕ = zeros (round8 (length y) - length y) in
    let z : List ℕ = special p.next p.kind in
    let below : List ℕ = h ++ (l ++ (g ++ stacked after)) in
    let above : List ℕ = pad ++ (stacked before ++ z) in
    let stack : stacked p.items ≡ stacked after ++ (y ++ (pad ++ stacked before)) = ap stacked is ∙ stacked-at before y after in
    let parts : bytes ≡ below ++ (y ++ above) = s.same ∙ ap (λ (t : List ℕ). h ++ (l ++ (g ++ (t ++ z)))) stack ∙ regroup h l g (stacked after) y pad (stacked before) z in
    let all : taken p.items ≡ taken before + (round8 (length y) + taken after) = ap taken is ∙ taken-at before y after in
    let now : taken q.items ≡ taken before + (round8 (length x) + taken after) = taken-at before x after in
    let same_round : round8 (length x) ≡ round8 (length y) = ap round8 len in
    let count : length p.items ≡ length before + suc (length after) = ap length is ∙ length-append before (y ∷ after) in
    let count_now : length q.items ≡ length before + suc (length after) = length-append before (x ∷ after) in
    let long : length below ≡ place = omega (arith, s.page.room, length-header p.number lower upper, length-line_pointers 8184 p.items, length-replicate {A = ℕ} (upper - lower) 0, length-stacked after, length-append h (l ++ (g ++ stacked after)), length-append l (g ++ stacked after), length-append g (stacked after)) in
    let pad_now : zeros (round8 (length x) - length x) ≡ pad = ap (λ (n : ℕ). zeros (round8 n - n)) len in
    let pointers : line_pointers 8184 q.items ≡ l = same_pointers 8184 before x y after len ∙ ap (line_pointers 8184) (sym is) in
    let stack_now : stacked q.items ≡ stacked after ++ (x ++ (pad ++ stacked before)) = stacked-at before x after ∙ ap (λ (t : List ℕ). stacked after ++ (x ++ (t ++ stacked before))) pad_now in
    let whole : spelling q ≡ h ++ (l ++ (g ++ (stacked q.items ++ z))) = spelling-from q lower upper (upper - lower) (omega arith) (omega arith) (omega (arith, s.page.room)) ∙ ap (λ (t : List ℕ). h ++ (t ++ (g ++ (stacked q.items ++ z)))) pointers in
    record {
      page = record { next = s.page.next; number = s.page.number; items = all_changed p.items before x y after is s.page.items x_fits; room = omega (arith, s.page.room) };
      same = ap (λ (b : List ℕ). spliced b place x) parts ∙ spliced_at below y above x place long (sym len) ∙ sym (whole ∙ ap (λ (t : List ℕ). h ++ (l ++ (g ++ (t ++ z)))) stack_now ∙ regroup h l g (stacked after) x pad (stacked before) z);
    }

-- ---- an item more

pub line_pointers-one : (top : ℕ) (x : List ℕ) → line_pointers top (x ∷ []) ≡ line_pointer (top - round8 (length x)) (length x)
line_pointers-one top x =
    let place = top - round8 (length x) in
    line_pointers-cons top x [] ∙ ap (λ (t : List ℕ). line_pointer place (length x) ++ t) (line_pointers-nil place) ∙ append-nil (line_pointer place (length x))

pub stacked-one : (x : List ℕ) → stacked (x ∷ []) ≡ padded x
stacked-one x = stacked-cons x [] ∙ ap (λ (t : List ℕ). t ++ padded x) stacked-nil

pub taken-one : (x : List ℕ) → taken (x ∷ []) ≡ round8 (length x)
taken-one x = omega (arith, taken-cons x [], taken-nil)

pub spliced-lower : (n l u m : ℕ) (z : List ℕ) → spliced (header n l u ++ z) 12 (to_le_bytes w16 m) ≡ header n m u ++ z
unfolding spliced header
spliced-lower n l u m z = refl

pub spliced-upper : (n l u m : ℕ) (z : List ℕ) → spliced (header n l u ++ z) 14 (to_le_bytes w16 m) ≡ header n l m ++ z
unfolding spliced header
spliced-upper n l u m z = refl

-- the room as it is used: 4 bytes below, then what stays, then the item and its padding
room_split : (g r len : ℕ) → r + 4 ≤ g → len ≤ r → zeros g ≡ zeros 4 ++ (zeros (g - r - 4) ++ (zeros len ++ zeros (r - len)))
room_split g r len h k =
    ap zeros (let e : g ≡ 4 + ((g - r - 4) + (len + (r - len))) = omega arith in e) ∙ zeros-add 4 ((g - r - 4) + (len + (r - len))) ∙ ap (λ (t : List ℕ). zeros 4 ++ t) (zeros-add (g - r - 4) (len + (r - len)) ∙ ap (λ (t : List ℕ). zeros (g - r - 4) ++ t) (zeros-add len (r - len)))

group_item : (h l a b c d s z : List ℕ) → h ++ (l ++ ((a ++ (b ++ (c ++ d))) ++ (s ++ z))) ≡ (h ++ (l ++ (a ++ b))) ++ (c ++ (d ++ (s ++ z)))
group_item h l a b c d s z = simp append_assoc

group_pointer : (h l a b c d s z : List ℕ) → (h ++ (l ++ (a ++ b))) ++ (c ++ (d ++ (s ++ z))) ≡ (h ++ l) ++ (a ++ (b ++ (((c ++ d) ++ s) ++ z)))
group_pointer h l a b c d s z = simp append_assoc

group_new : (h l a b c d s z : List ℕ) → (h ++ l) ++ (a ++ (b ++ (((c ++ d) ++ s) ++ z))) ≡ h ++ ((l ++ a) ++ (b ++ (((c ++ d) ++ s) ++ z)))
group_new h l a b c d s z = simp append_assoc

pub item_added : (bytes : List ℕ) (p : Content) (x : List ℕ) (lower upper place : ℕ) → Spells bytes p → IsItem x → lower ≡ lower_of p.items → upper ≡ upper_of p.items → place + round8 (length x) ≡ upper → lower + 4 ≤ place → Spells (spliced (spliced (spliced (spliced bytes place x) lower (line_pointer place (length x))) 12 (to_le_bytes w16 (lower + 4))) 14 (to_le_bytes w16 place)) (record p { items = p.items ++ x ∷ [] })
unfolding padded
item_added bytes p x lower upper place s x_fits l_is u_is place_is room =
    let q : Content = record p { items = p.items ++ x ∷ [] } in
    let r = round8 (length x) in
    let rounded = rounds (length x) in
    let g = upper - lower in
    let left = g - r - 4 in
    let h : List ℕ = header p.number lower upper in
    let l : List ℕ = line_pointers 8184 p.items in
    let st : List ℕ = stacked p.items in
    let z : List ℕ = special p.next p.kind in
    let ptr : List ℕ = line_pointer place (length x) in
    let a : List ℕ = zeros 4 in
    let b : List ℕ = zeros left in
    let c : List ℕ = zeros (length x) in
    let d : List ℕ = zeros (r - length x) in
    let old : spelling p ≡ h ++ (l ++ (zeros g ++ (st ++ z))) = spelling-from p lower upper g l_is u_is (omega (arith, s.page.room)) in
    let parts : bytes ≡ (h ++ (l ++ (a ++ b))) ++ (c ++ (d ++ (st ++ z))) = s.same ∙ old ∙ ap (λ (t : List ℕ). h ++ (l ++ (t ++ (st ++ z)))) (room_split g r (length x) (omega arith) rounded.above) ∙ group_item h l a b c d st z in
    let len_h : length h ≡ 24 = length-header p.number lower upper in
    let len_l : length l ≡ 4 * length p.items = length-line_pointers 8184 p.items in
    let len_b : length b ≡ left = length-replicate {A = ℕ} left 0 in
    let len_c : length c ≡ length x = length-replicate {A = ℕ} (length x) 0 in
    let long : length (h ++ (l ++ (a ++ b))) ≡ place = omega (arith, s.page.room, length-append h (l ++ (a ++ b)), length-append l (a ++ b), length-append a b) in
    let step1 : spliced bytes place x ≡ (h ++ (l ++ (a ++ b))) ++ (x ++ (d ++ (st ++ z))) = ap (λ (t : List ℕ). spliced t place x) parts ∙ spliced_at (h ++ (l ++ (a ++ b))) c (d ++ (st ++ z)) x place long len_c in
    let step2 : spliced (spliced bytes place x) lower ptr ≡ (h ++ l) ++ (ptr ++ (b ++ (((x ++ d) ++ st) ++ z))) = ap (λ (t : List ℕ). spliced t lower ptr) (step1 ∙ group_pointer h l a b x d st z) ∙ spliced_at (h ++ l) a (b ++ (((x ++ d) ++ st) ++ z)) ptr lower (omega (arith, length-append h l)) (sym (length-line_pointer place (length x))) in
    let tail : List ℕ = (l ++ ptr) ++ (b ++ (((x ++ d) ++ st) ++ z)) in
    let step3 : spliced (h ++ tail) 12 (to_le_bytes w16 (lower + 4)) ≡ header p.number (lower + 4) upper ++ tail = spliced-lower p.number lower upper (lower + 4) tail in
    let step4 : spliced (header p.number (lower + 4) upper ++ tail) 14 (to_le_bytes w16 place) ≡ header p.number (lower + 4) place ++ tail = spliced-upper p.number (lower + 4) upper place tail in
    let changed : spliced (spliced (spliced (spliced bytes place x) lower ptr) 12 (to_le_bytes w16 (lower + 4))) 14 (to_le_bytes w16 place) ≡ header p.number (lower + 4) place ++ tail = ap (λ (t : List ℕ). spliced (spliced t 12 (to_le_bytes w16 (lower + 4))) 14 (to_le_bytes w16 place)) (step2 ∙ group_new h l ptr b x d st z) ∙ ap (λ (t : List ℕ). spliced t 14 (to_le_bytes w16 place)) step3 ∙ step4 in
    let taken_now : taken q.items ≡ taken p.items + r = taken-append p.items (x ∷ []) ∙ ap (λ (n : ℕ). taken p.items + n) (taken-one x) in
    let count_now : length q.items ≡ length p.items + 1 = length-append p.items (x ∷ []) in
    let top : 8184 - taken p.items - r ≡ place = omega (arith, s.page.room) in
    let pointers : line_pointers 8184 q.items ≡ l ++ ptr = line_pointers-append 8184 p.items (x ∷ []) ∙ ap (λ (t : List ℕ). l ++ t) (line_pointers-one (8184 - taken p.items) x ∙ ap (λ (n : ℕ). line_pointer n (length x)) top) in
    let stack : stacked q.items ≡ (x ++ d) ++ st = stacked-append p.items (x ∷ []) ∙ ap (λ (t : List ℕ). t ++ st) (stacked-one x) in
    let new : spelling q ≡ header p.number (lower + 4) place ++ (line_pointers 8184 q.items ++ (zeros left ++ (stacked q.items ++ z))) = spelling-from q (lower + 4) place left (omega arith) (omega (arith, s.page.room)) (omega arith) in
    record {
      page = record { next = s.page.next; number = s.page.number; items = All-push IsItem p.items x s.page.items x_fits; room = omega (arith, s.page.room) };
      same = changed ∙ sym (new ∙ ap (λ (t : List ℕ). header p.number (lower + 4) place ++ (t ++ (b ++ (stacked q.items ++ z)))) pointers ∙ ap (λ (t : List ℕ). header p.number (lower + 4) place ++ ((l ++ ptr) ++ (b ++ (t ++ z)))) stack);
    }

-- ---- as the calls say it

pub next_word-is : (n : Option ℕ) → unwrap_or n 0xFFFFFFFF ≡ next_word n
next_word-is None = refl
next_word-is (Some b) = refl

pub is_next : (k : PageKind) (n : Option ℕ) → k ≡ IvfEntries → IfSome n (λ block. block < 0xFFFFFFFF) → IsNext k n
is_next k None e h = tt
is_next k (Some b) e h = (e, h)

pub item_from : (x : List ℕ) → 0 < length x → ((k : ℕ) → get_or x k 0 < 256) → IsItem x
item_from x some fits = record { some = some; bytes = λ k d h. subst (λ (b : ℕ). b < 256) (get_or_default x k 0 d h) (fits k) }

pub record Stands (items : List (List ℕ)) (off len : ℕ) : Type 0 where
  pub low : 0 < off
  pub high : off ≤ length items
  pub same : length (get_or items (off - 1) []) ≡ len

stands_in : (items : List (List ℕ)) (i len : ℕ) → IsSomeAnd (slice_get items i) (λ x. length x ≡ len) → (i < length items) × (length (get_or items i []) ≡ len)
stands_in [] i len h = absurd h
stands_in (x ∷ xs) zero len h = (omega arith, h)
stands_in (x ∷ xs) (suc i) len h = let r = stands_in xs i len h in (omega (arith, r.0), r.1)

pub stands : (items : List (List ℕ)) (off len : ℕ) → IsSomeAnd (item_at items off) (λ x. length x ≡ len) → Stands items off len
stands items zero len h = absurd h
stands items (suc i) len h =
    let r = stands_in items i len h in
    let e : i ≡ suc i - 1 = omega arith in
    record { low = omega arith; high = omega (arith, r.0); same = subst (λ (j : ℕ). length (get_or items j []) ≡ len) e r.1 }

pub overwritten_at : (bytes : List ℕ) (off : ℕ) (x : List ℕ) → IsSpelled bytes → Stands (content bytes).items off (length x) → ((k : ℕ) → get_or x k 0 < 256) → Spells (spliced bytes (word_at bytes (20 + 4 * off) % 2 ^ 15) x) (record (content bytes) { items = set (content bytes).items (off - 1) x })
overwritten_at bytes off x s t fits =
    let items = (content bytes).items in
    let i = off - 1 in
    let y = get_or items i [] in
    let p = item_points bytes off s t.low t.high in
    let inside : i < length items = omega (arith, t.low, t.high) in
    let split : items ≡ take i items ++ y ∷ drop (suc i) items = sym (set-get_or items i []) ∙ set_split items i y inside in
    let new : set items i x ≡ take i items ++ x ∷ drop (suc i) items = set_split items i x inside in
    let len : length x ≡ length y = sym t.same in
    let h = item_from x (omega (arith, (s.page.items i [] inside).some)) fits in
    subst (λ (l : List (List ℕ)). Spells (spliced bytes (word_at bytes (20 + 4 * off) % 2 ^ 15) x) (record (content bytes) { items = l })) (sym new) (overwritten bytes (content bytes) (take i items) x y (drop (suc i) items) (word_at bytes (20 + 4 * off) % 2 ^ 15) s split h len p.place)

pub with_item-spells : (bytes : List ℕ) (p : Content) (x : List ℕ) (lower upper : ℕ) → Spells bytes p → IsItem x → lower ≡ lower_of p.items → upper ≡ upper_of p.items → lower + 4 + round8 (length x) ≤ upper → Spells (with_item bytes lower (upper - round8 (length x)) x) (record p { items = p.items ++ x ∷ [] })
unfolding with_item
with_item-spells bytes p x lower upper s h l u room =
    item_added bytes p x lower upper (upper - round8 (length x)) s h l u (omega arith) (omega arith)
