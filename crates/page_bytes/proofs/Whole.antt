-- A spelling shows the content that it spells.
use Rattle.std.proofs.Common.{◌≡◌, ℕ, zero, suc, ◌+◌, ◌-◌, ◌*◌, ◌/◌, ◌%◌, ◌^◌, ◌<◌, ◌≤◌, List, [], ◌∷◌, ◌++◌, Option, Some, None, slice_get, length, get_or, refl, sym, ap, ◌∙◌, subst, arith, append_assoc}
use Rattle.std.specs.Int.{w16, w32, to_le_bytes}
use Rattle.std.proofs.lemmas.List.{drop_at, length-append, length-replicate}
use Rattle.page_bytes.specs.Content.{Content, IsPage, IsNext, taken, lower_of, upper_of, item_at}
use Rattle.page_bytes.specs.Spelling.{zeros, header, line_pointers, stacked, special, spelling, next_word, kind_word}
use Rattle.page_bytes.specs.Decoding.{half_at, word_at, long_at, named_by, items_at, next_from, kind_from, content, Spells, IsSpelled}
use Rattle.page_bytes.specs.declared.kind.PageKind.{PageKind}
use Rattle.page_bytes.specs.declared.kind.PageKind.TheVariants.{Meta, Hnsw, IvfLists, IvfEntries}
use Rattle.page_bytes.proofs.Numbers.{half_at-append, word_at-append, half_at-bytes, word_at-bytes, long_at-bytes}
use Rattle.page_bytes.proofs.Placing.{rounds, length-line_pointers, length-stacked, Lies, items_at-lies, Points, points}

pub length-header : (number lower upper : ℕ) → length (header number lower upper) ≡ 24
unfolding header
length-header number lower upper = refl

pub length-special : (next : Option ℕ) (kind : PageKind) → length (special next kind) ≡ 8
unfolding special
length-special next kind = refl

unfoldable pub header_of : Content → List ℕ
header_of p = header p.number (lower_of p.items) (upper_of p.items)

length-header_of : (p : Content) → length (header_of p) ≡ 24
unfolding header_of
length-header_of p = length-header _ _ _

-- the spelling up to the special space
unfoldable pub front : Content → List ℕ
front p = header_of p ++ (line_pointers 8184 p.items ++ (zeros (upper_of p.items - lower_of p.items) ++ stacked p.items))

pub spelling-front : (p : Content) → spelling p ≡ front p ++ special p.next p.kind
unfolding spelling front header_of
spelling-front p =
    let h = header_of p in
    let l = line_pointers 8184 p.items in
    let g = zeros (upper_of p.items - lower_of p.items) in
    sym (append_assoc h (l ++ (g ++ stacked p.items)) (special p.next p.kind) ∙ ap (λ (t : List ℕ). h ++ t) (append_assoc l (g ++ stacked p.items) (special p.next p.kind) ∙ ap (λ (t : List ℕ). l ++ t) (append_assoc g (stacked p.items) (special p.next p.kind))))

pub length-front : (p : Content) → taken p.items + 4 * length p.items ≤ 8160 → length (front p) ≡ 8184
unfolding front
length-front p room =
    let l = line_pointers 8184 p.items in
    let g = zeros (upper_of p.items - lower_of p.items) in
    omega (arith, length-header_of p, length-line_pointers 8184 p.items, length-replicate {A = ℕ} (upper_of p.items - lower_of p.items) 0, length-stacked p.items, length-append (header_of p) (l ++ (g ++ stacked p.items)), length-append l (g ++ stacked p.items), length-append g (stacked p.items))

pub length-spelling : (p : Content) → taken p.items + 4 * length p.items ≤ 8160 → length (spelling p) ≡ 8192
length-spelling p room =
    ap length (spelling-front p) ∙ omega (arith, length-append (front p) (special p.next p.kind), length-front p room, length-special p.next p.kind)

-- ---- the fields

kind_from-word : (k : PageKind) → kind_from (kind_word k) ≡ k
kind_from-word Meta = refl
kind_from-word Hnsw = refl
kind_from-word IvfLists = refl
kind_from-word IvfEntries = refl

kind_word-small : (k : PageKind) → kind_word k < 2 ^ 16
kind_word-small Meta = omega arith
kind_word-small Hnsw = omega arith
kind_word-small IvfLists = omega arith
kind_word-small IvfEntries = omega arith

next_from-word : (k : PageKind) (n : Option ℕ) → IsNext k n → next_from (next_word n) ≡ n
next_from-word k None h = refl
next_from-word k (Some b) h = grind arith

next_word-small : (k : PageKind) (n : Option ℕ) → IsNext k n → next_word n < 2 ^ 32
next_word-small k None h = omega arith
next_word-small k (Some b) h = omega arith

pub kind_shown : (p : Content) → IsPage p → kind_from (half_at (spelling p) 8190) ≡ p.kind
unfolding special
kind_shown p h =
    let e : half_at (spelling p) 8190 ≡ kind_word p.kind = ap (λ (b : List ℕ). half_at b 8190) (spelling-front p) ∙ half_at-append (front p) (special p.next p.kind) 8190 6 (omega (arith, length-front p h.room)) ∙ half_at-append (to_le_bytes w32 (next_word p.next) ++ to_le_bytes w16 0) (to_le_bytes w16 (kind_word p.kind) ++ []) 6 0 (omega arith) ∙ half_at-bytes (kind_word p.kind) [] (kind_word-small p.kind) in
    ap kind_from e ∙ kind_from-word p.kind

pub next_shown : (p : Content) → IsPage p → next_from (word_at (spelling p) 8184) ≡ p.next
unfolding special
next_shown p h =
    let e : word_at (spelling p) 8184 ≡ next_word p.next = ap (λ (b : List ℕ). word_at b 8184) (spelling-front p) ∙ word_at-append (front p) (special p.next p.kind) 8184 0 (omega (arith, length-front p h.room)) ∙ word_at-bytes (next_word p.next) _ (next_word-small p.kind p.next h.next) in
    ap next_from e ∙ next_from-word p.kind p.next h.next

pub number_shown : (p : Content) → IsPage p → long_at (spelling p) 0 ≡ p.number
unfolding spelling header header_of
number_shown p h = long_at-bytes p.number _ h.number

pub lower_shown : (p : Content) → IsPage p → half_at (spelling p) 12 ≡ lower_of p.items
unfolding spelling header half_at
lower_shown p h = omega (arith, h.room)

pub upper_shown : (p : Content) → IsPage p → half_at (spelling p) 14 ≡ upper_of p.items
unfolding spelling header half_at
upper_shown p h = omega (arith, h.room)

-- ---- the items

pub lies_in : (p : Content) → IsPage p → Lies (spelling p) 24 8184 p.items
unfolding spelling header_of
lies_in p h =
    let l = line_pointers 8184 p.items in
    let g = zeros (upper_of p.items - lower_of p.items) in
    let behind = g ++ (stacked p.items ++ special p.next p.kind) in
    let below = header_of p ++ (l ++ g) in
    record {
      behind = behind;
      below = below;
      above = special p.next p.kind;
      pointers = drop_at (header_of p) (l ++ behind) 24 (length-header_of p);
      stack = sym (append_assoc (header_of p) (l ++ g) (stacked p.items ++ special p.next p.kind) ∙ ap (λ (t : List ℕ). header_of p ++ t) (append_assoc l g (stacked p.items ++ special p.next p.kind)));
      place = omega (arith, h.room, length-header_of p, length-line_pointers 8184 p.items, length-replicate {A = ℕ} (upper_of p.items - lower_of p.items) 0, length-append (header_of p) (l ++ g), length-append l g);
      within = omega arith;
    }

items_shown : (p : Content) → IsPage p → items_at (spelling p) 24 ((half_at (spelling p) 12 - 24) / 4) ≡ p.items
items_shown p h =
    let n : (half_at (spelling p) 12 - 24) / 4 ≡ length p.items = omega (arith, lower_shown p h) in
    ap (items_at (spelling p) 24) n ∙ items_at-lies (spelling p) 24 8184 p.items (lies_in p h)

abbrev made : PageKind → Option ℕ → ℕ → List (List ℕ) → Content
made k n m i = record { kind = k; next = n; number = m; items = i }

same_content : (p q : Content) → p.kind ≡ q.kind → p.next ≡ q.next → p.number ≡ q.number → p.items ≡ q.items → p ≡ q
same_content p q a b c d =
    ap (λ (k : PageKind). made k p.next p.number p.items) a ∙ ap (λ (n : Option ℕ). made q.kind n p.number p.items) b ∙ ap (λ (n : ℕ). made q.kind q.next n p.items) c ∙ ap (λ (i : List (List ℕ)). made q.kind q.next q.number i) d

pub content-spelling : (p : Content) → IsPage p → content (spelling p) ≡ p
unfolding content
content-spelling p h =
    same_content (content (spelling p)) p (kind_shown p h) (next_shown p h) (number_shown p h) (items_shown p h)

-- what is spelled is what is shown
pub spelled : (bytes : List ℕ) (p : Content) → Spells bytes p → content bytes ≡ p
spelled bytes p s = ap content s.same ∙ content-spelling p s.page

pub IsSpelled-from : (bytes : List ℕ) (p : Content) → Spells bytes p → IsSpelled bytes
IsSpelled-from bytes p s = subst (λ (q : Content). Spells bytes q) (sym (spelled bytes p s)) s

-- ---- what a page's bytes show

pub lower_is : (bytes : List ℕ) → IsSpelled bytes → half_at bytes 12 ≡ 24 + 4 * length (content bytes).items
lower_is bytes s = ap (λ (b : List ℕ). half_at b 12) s.same ∙ lower_shown (content bytes) s.page

pub upper_is : (bytes : List ℕ) → IsSpelled bytes → half_at bytes 14 + taken (content bytes).items ≡ 8184
upper_is bytes s =
    let e : half_at bytes 14 ≡ upper_of (content bytes).items = ap (λ (b : List ℕ). half_at b 14) s.same ∙ upper_shown (content bytes) s.page in
    omega (arith, s.page.room)

pub lies_is : (bytes : List ℕ) → IsSpelled bytes → Lies bytes 24 8184 (content bytes).items
lies_is bytes s = subst (λ (b : List ℕ). Lies b 24 8184 (content bytes).items) (sym s.same) (lies_in (content bytes) s.page)

-- ---- one item, by its offset

pub item_points : (bytes : List ℕ) (off : ℕ) → IsSpelled bytes → 0 < off → off ≤ length (content bytes).items → Points bytes 8184 (content bytes).items (off - 1) (word_at bytes (20 + 4 * off)) (get_or (content bytes).items (off - 1) [])
item_points bytes off s low high =
    let e : 24 + 4 * (off - 1) ≡ 20 + 4 * off = omega arith in
    rw e at (points bytes 24 8184 (content bytes).items (off - 1) (lies_is bytes s) (omega arith))

pub item_within : (bytes : List ℕ) (off : ℕ) → IsSpelled bytes → 0 < off → off ≤ length (content bytes).items → word_at bytes (20 + 4 * off) % 2 ^ 15 + word_at bytes (20 + 4 * off) / 2 ^ 17 ≤ 8184
item_within bytes off s low high =
    let p = item_points bytes off s low high in
    let r = rounds (length (get_or (content bytes).items (off - 1) [])) in
    omega (arith, p.len, p.place, r.above)

item_at-get : (items : List (List ℕ)) (off : ℕ) → 0 < off → item_at items off ≡ slice_get items (off - 1)
item_at-get items zero h = absurd (omega arith)
item_at-get items (suc i) h = let e : suc i - 1 ≡ i = omega arith in rw e refl

pub item_shown : (bytes : List ℕ) (off : ℕ) → IsSpelled bytes → 0 < off → off ≤ length (content bytes).items → Some (named_by bytes (word_at bytes (20 + 4 * off))) ≡ item_at (content bytes).items off
item_shown bytes off s low high =
    let p = item_points bytes off s low high in
    ap Some p.named ∙ sym p.there ∙ sym (item_at-get (content bytes).items off low)

past : (items : List (List ℕ)) (i : ℕ) → length items ≤ i → slice_get items i ≡ None
past [] i h = refl
past (x ∷ xs) zero h = absurd (omega arith)
past (x ∷ xs) (suc i) h = past xs i (omega arith)

pub no_item : (items : List (List ℕ)) (off : ℕ) → length items < off → item_at items off ≡ None
no_item items zero h = refl
no_item items (suc i) h = past items i (omega arith)

-- ---- bytes after a change, which are b, which is the spelling of q

moved : (bytes b : List ℕ) (q : Content) → bytes ≡ b → Spells b q → Spells bytes q
moved bytes b q e s = subst (λ (t : List ℕ). Spells t q) (sym e) s

pub page_after : (bytes b : List ℕ) (q : Content) → bytes ≡ b → Spells b q → IsSpelled bytes
page_after bytes b q e s = IsSpelled-from bytes q (moved bytes b q e s)

pub content_after : (bytes b : List ℕ) (q : Content) → bytes ≡ b → Spells b q → content bytes ≡ q
content_after bytes b q e s = spelled bytes q (moved bytes b q e s)

-- ---- the ends of a page that is seen as p

pub record Ends (bytes : List ℕ) (p : Content) : Type 0 where
  pub lower : half_at bytes 12 ≡ 24 + 4 * length p.items
  pub upper : half_at bytes 14 + taken p.items ≡ 8184
  pub room : taken p.items + 4 * length p.items ≤ 8160

pub ends : (bytes : List ℕ) (p : Content) → IsSpelled bytes → content bytes ≡ p → Ends bytes p
ends bytes p s e =
    subst (Ends bytes) e (record { lower = lower_is bytes s; upper = upper_is bytes s; room = s.page.room })

pub length_is : (bytes : List ℕ) → IsSpelled bytes → length bytes ≡ 8192
length_is bytes s = ap length s.same ∙ length-spelling (content bytes) s.page.room
