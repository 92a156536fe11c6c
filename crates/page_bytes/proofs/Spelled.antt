-- Each spelling of a page has the format of pages.
use Rattle.std.proofs.Common.{◌≡◌, ℕ, zero, suc, ◌+◌, ◌-◌, ◌*◌, ◌/◌, ◌%◌, ◌^◌, ◌<◌, ◌≤◌, inl, inr, cond, nat_eq, List, [], ◌∷◌, ◌++◌, Option, Some, None, length, map, refl, sym, ap, ◌∙◌, subst, arith, append_assoc}
use mathlib.Core.List.{reverse_aux}
use Rattle.std.specs.Int.{w16, w32, w64, byte_at, bytes_low_first, to_le_bytes}
use Rattle.std.specs.List.{All}
use Rattle.std.proofs.lemmas.List.{nil_from_length}
use Rattle.std.proofs.lemmas.List.Elements.{All-nil, All-cons, All-head, All-tail}
use Rattle.page_bytes.specs.Content.{Content, IsPage, IsItem, IsNext, round8, taken, lower_of, upper_of}
use Rattle.page_bytes.specs.Spelling.{zeros, line_pointers, padded, stacked, special, spelling, next_word, kind_word}
use Rattle.page_bytes.specs.declared.kind.PageKind.{PageKind}
use Rattle.page_bytes.specs.declared.kind.PageKind.TheVariants.{Meta, Hnsw, IvfLists, IvfEntries}
use Rattle.page_bytes.specs.Format.{Format, free, fixed, half, pointer, kinds, ending, stack, pointers, behind_upper, least_upper, most_upper, behind_lower, page, InHalf, InPointer, Room}
use Rattle.page_bytes.specs.Format.Format.{Done}
use Rattle.page_bytes.proofs.Placing.{rounds, taken-nil, taken-cons, taken-whole, line_pointers-first, stacked-cons}
use Rattle.page_bytes.proofs.Changes.{stacked-nil, line_pointers-nil}
use Rattle.page_bytes.proofs.Formats.{Matches}
use Rattle.page_bytes.proofs.Parts.{by_1, by_4, by_8, free_match, fixed_match, half_match, pointer_match}
use Rattle.page_bytes.proofs.Alive.{room_allows, room_after, most_place-cases, least_upper-cases}
use Rattle.page_bytes.proofs.Grammar.{word_halves, kinds-none, kinds-some, done_match, header_fields}

-- ---- items

stack_match : (items : List (List ℕ)) (lens rest : List ℕ) → All IsItem items → Matches (stack lens) rest → Matches (stack (reverse_aux (map length items) lens)) (stacked items ++ rest)
unfolding stack padded
stack_match [] lens rest a m = subst (λ (t : List ℕ). Matches (stack lens) (t ++ rest)) (sym stacked-nil) m
stack_match (x ∷ xs) lens rest a m =
    let pad : List ℕ = zeros (round8 (length x) - length x) in
    let one : Matches (stack (length x ∷ lens)) (x ++ (pad ++ rest)) = free_match x (pad ++ rest) (fixed pad (stack lens)) (All-head IsItem x xs a).bytes (fixed_match pad rest (stack lens) m) in
    let more = stack_match xs (length x ∷ lens) (x ++ (pad ++ rest)) (All-tail IsItem x xs a) one in
    let same : stacked xs ++ (x ++ (pad ++ rest)) ≡ stacked (x ∷ xs) ++ rest = sym (ap (λ (t : List ℕ). t ++ rest) (stacked-cons x xs) ∙ append_assoc (stacked xs) (x ++ pad) rest ∙ ap (λ (t : List ℕ). stacked xs ++ t) (append_assoc x pad rest)) in
    subst (Matches (stack (reverse_aux (map length xs) (length x ∷ lens)))) same more

-- ---- line pointers

taken-least : (items : List (List ℕ)) → All IsItem items → 8 * length items ≤ taken items
taken-least [] a = omega (arith, taken-nil)
taken-least (x ∷ xs) a =
    let r = rounds (length x) in
    omega (arith, taken-cons x xs, taken-least xs (All-tail IsItem x xs a), (All-head IsItem x xs a).some, r.above, r.whole)

placed : (x : List ℕ) (xs : List (List ℕ)) (upper top : ℕ) → Room (suc (length xs)) upper top → upper + taken (x ∷ xs) ≡ top → All IsItem (x ∷ xs) → InPointer (upper + 8 * length xs) (cond (nat_eq (length xs) 0) upper (top - 8)) top (top - round8 (length x)) (length x)
placed x xs upper top room sum a =
    let r = rounds (length x) in
    let some = (All-head IsItem x xs a).some in
    let least = taken-least xs (All-tail IsItem x xs a) in
    let cons = taken-cons x xs in
    let place : top - round8 (length x) ≡ upper + taken xs = omega (arith, sum) in
    record {
      from = omega (arith, place);
      upto = elim (most_place-cases (length xs) upper top) [
        | inl c ↦ omega (arith, place, c.1, ap taken (nil_from_length xs c.0) ∙ taken-nil)
        | inr c ↦ omega (arith, c.1, r.above, r.whole)
      ];
      even = omega (arith, place, room.upper_whole, taken-whole xs);
      room = omega (arith, sum);
      some = some;
    }

pointers_match : (items : List (List ℕ)) (gap upper top : ℕ) (lens rest : List ℕ) → Room (length items) upper top → upper + taken items ≡ top → All IsItem items → Matches (fixed (zeros gap) (stack (reverse_aux (map length items) lens))) rest → Matches (pointers (length items) gap upper top lens) (line_pointers top items ++ rest)
unfolding pointers
pointers_match [] gap upper top lens rest room sum a m = subst (λ (t : List ℕ). Matches (fixed (zeros gap) (stack lens)) (t ++ rest)) (sym (line_pointers-nil top)) m
pointers_match (x ∷ xs) gap upper top lens rest room sum a m =
    let left = length xs in
    let place = top - round8 (length x) in
    let p = placed x xs upper top room sum a in
    let next : ℕ → ℕ → Format = λ q len. pointers left gap upper q (len ∷ lens) in
    let more = pointers_match xs gap upper place (length x ∷ lens) rest (room_after left upper top place (length x) room p) (omega (arith, p.room, taken-cons x xs)) (All-tail IsItem x xs a) m in
    subst (Matches (pointer (upper + 8 * left) (cond (nat_eq left 0) upper (top - 8)) top next)) (sym (line_pointers-first top x xs rest)) (pointer_match (upper + 8 * left) (cond (nat_eq left 0) upper (top - 8)) top place (length x) next (line_pointers place xs ++ rest) (room_allows left upper top room) p more)

-- ---- the special space

kind_low : (k : PageKind) → (1 ≤ kind_word k) × (kind_word k ≤ 4)
kind_low Meta = (omega arith, omega arith)
kind_low Hnsw = (omega arith, omega arith)
kind_low IvfLists = (omega arith, omega arith)
kind_low IvfEntries = (omega arith, omega arith)

kind_match : (least : ℕ) (k : PageKind) → least ≤ kind_word k → Matches (fixed (zeros 2) (half least 4 1 (λ _. Done))) (to_le_bytes w16 0 ++ to_le_bytes w16 (kind_word k))
kind_match least k h =
    let n = kind_word k in
    let one : Matches (half least 4 1 (λ _. Done)) (to_le_bytes w16 n ++ []) = half_match least 4 1 n (λ _. Done) [] by_1 (omega arith) (record { least = h; most = (kind_low k).1; even = omega arith }) done_match in
    fixed_match (zeros 2) (to_le_bytes w16 n) (half least 4 1 (λ _. Done)) one

kinds_match : (next : Option ℕ) (kind : PageKind) (low high : ℕ) → low + high * 2 ^ 16 ≡ next_word next → IsNext kind next → Matches (kinds low high) (to_le_bytes w16 0 ++ to_le_bytes w16 (kind_word kind))
kinds_match None kind low high e h = subst (λ (f : Format). Matches f (to_le_bytes w16 0 ++ to_le_bytes w16 (kind_word kind))) (sym (kinds-none low high e)) (kind_match 1 kind (kind_low kind).0)
kinds_match (Some block) kind low high e h = subst (λ (f : Format). Matches f (to_le_bytes w16 0 ++ to_le_bytes w16 (kind_word kind))) (sym (kinds-some low high (λ n. omega (arith, h.1)))) (kind_match 4 kind (omega (arith, ap kind_word h.0)))

next_low : (k : PageKind) (n : Option ℕ) → IsNext k n → next_word n < 2 ^ 32
next_low k None h = omega arith
next_low k (Some b) h = omega arith

ending_match : (next : Option ℕ) (kind : PageKind) → IsNext kind next → Matches ending (special next kind)
unfolding ending special
ending_match next kind h =
    let word = next_word next in
    let low = word % 2 ^ 16 in
    let high = word / 2 ^ 16 in
    let tail : List ℕ = to_le_bytes w16 0 ++ to_le_bytes w16 (kind_word kind) in
    let is : low + high * 2 ^ 16 ≡ word = omega arith in
    let small = next_low kind next h in
    let second = half_match 0 0xFFFF 1 high (λ k. kinds low k) tail by_1 (omega arith) (record { least = omega arith; most = omega arith; even = omega arith }) (kinds_match next kind low high is h) in
    let first = half_match 0 0xFFFF 1 low (λ l. half 0 0xFFFF 1 (λ k. kinds l k)) (to_le_bytes w16 high ++ tail) by_1 (omega arith) (record { least = omega arith; most = omega arith; even = omega arith }) second in
    subst (Matches (half 0 0xFFFF 1 (λ l. half 0 0xFFFF 1 (λ k. kinds l k)))) (sym (word_halves low high tail (omega arith)) ∙ ap (λ (n : ℕ). to_le_bytes w32 n ++ tail) is) first

-- ---- the whole page

byte_small : (i n : ℕ) → byte_at i n < 256
byte_small zero n = omega arith
byte_small (suc i) n = omega arith

bytes_small : (i k n : ℕ) → All (λ b. b < 256) (bytes_low_first i k n)
bytes_small i zero n = All-nil (λ b. b < 256)
bytes_small i (suc k) n =
    All-cons (λ b. b < 256) (byte_at i n) (bytes_low_first (suc i) k n) (byte_small i n) (bytes_small (suc i) k n)

lower_in : (p : Content) → IsPage p → InHalf 24 2744 4 (lower_of p.items)
lower_in p h = record { least = omega arith; most = omega (arith, h.room, taken-least p.items h.items); even = omega arith }

upper_in : (p : Content) → IsPage p → InHalf (least_upper (lower_of p.items)) (most_upper (lower_of p.items)) 8 (upper_of p.items)
upper_in p h =
    let t = taken-least p.items h.items in
    record {
      least = elim (least_upper-cases (lower_of p.items)) [
        | inl c ↦ omega (arith, c.1, ap taken (nil_from_length p.items (omega (arith, c.0))) ∙ taken-nil)
        | inr c ↦ omega (arith, c.1, h.room)
      ];
      most = omega (arith, h.room, t);
      even = omega (arith, h.room, taken-whole p.items);
    }

room_in : (p : Content) → IsPage p → Room (length p.items) (upper_of p.items) 8184
room_in p h =
    let t = taken-least p.items h.items in
    record {
      upper_whole = (upper_in p h).even;
      top_whole = refl;
      within = omega arith;
      enough = omega (arith, h.room, t);
      full = λ e. omega (arith, ap taken (nil_from_length p.items e) ∙ taken-nil);
    }

stack_end : (bytes : List ℕ) → Matches ending bytes → Matches (stack []) bytes
unfolding stack
stack_end bytes m = m

pub page_match : (p : Content) → IsPage p → Matches page (spelling p)
unfolding page behind_lower behind_upper spelling
page_match p h =
    let lower = lower_of p.items in
    let upper = upper_of p.items in
    let gap = upper - lower in
    let words : List ℕ = 0xF8 ∷ 0x1F ∷ 0x04 ∷ 0x20 ∷ 0 ∷ 0 ∷ 0 ∷ 0 ∷ [] in
    let n : (lower - 24) / 4 ≡ length p.items = omega arith in
    let items : Matches (stack (reverse_aux (map length p.items) [])) (stacked p.items ++ special p.next p.kind) = stack_match p.items [] (special p.next p.kind) h.items (stack_end (special p.next p.kind) (ending_match p.next p.kind h.next)) in
    let rest : List ℕ = zeros gap ++ (stacked p.items ++ special p.next p.kind) in
    let gapped = fixed_match (zeros gap) (stacked p.items ++ special p.next p.kind) (stack (reverse_aux (map length p.items) [])) items in
    let pointed = pointers_match p.items gap upper 8184 [] rest (room_in p h) (omega (arith, h.room)) h.items gapped in
    let counted = subst (λ (k : ℕ). Matches (pointers k gap upper 8184 []) (line_pointers 8184 p.items ++ rest)) (sym n) pointed in
    let worded = fixed_match words (line_pointers 8184 p.items ++ rest) (pointers ((lower - 24) / 4) gap upper 8184 []) counted in
    let uppered = half_match (least_upper lower) (most_upper lower) 8 upper (behind_upper lower) (words ++ (line_pointers 8184 p.items ++ rest)) by_8 (omega arith) (upper_in p h) worded in
    let lowered = half_match 24 2744 4 lower behind_lower (to_le_bytes w16 upper ++ (words ++ (line_pointers 8184 p.items ++ rest))) by_4 (omega arith) (lower_in p h) uppered in
    let zeroed = fixed_match (zeros 4) (to_le_bytes w16 lower ++ (to_le_bytes w16 upper ++ (words ++ (line_pointers 8184 p.items ++ rest)))) (half 24 2744 4 behind_lower) lowered in
    let numbered = free_match (to_le_bytes w64 p.number) (zeros 4 ++ (to_le_bytes w16 lower ++ (to_le_bytes w16 upper ++ (words ++ (line_pointers 8184 p.items ++ rest))))) (fixed (zeros 4) (half 24 2744 4 behind_lower)) (bytes_small 0 8 p.number) zeroed in
    subst (Matches (free 8 (fixed (zeros 4) (half 24 2744 4 behind_lower)))) (sym (header_fields p.number lower upper (line_pointers 8184 p.items ++ rest))) numbered
