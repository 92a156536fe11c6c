-- The format of pages and the spelling of pages are the same bytes.
use Rattle.std.proofs.Common.{◌≡◌, ℕ, zero, suc, ◌+◌, ◌-◌, ◌*◌, ◌/◌, ◌^◌, ◌<◌, ◌≤◌, inl, inr, Bool, cond, nat_eq, List, [], ◌∷◌, ◌++◌, Option, Some, None, length, get_or, map, reverse, refl, sym, ap, ◌∙◌, subst, arith, append_assoc}
use mathlib.Core.List.{reverse_aux}
use Rattle.std.specs.Int.{w16, w32, w64, to_le_bytes, from_le_bytes}
use Rattle.std.specs.List.{All}
use Rattle.std.proofs.lemmas.Bool.{cases_lt, cases_eq, eq-eqb, ne_eqb}
use Rattle.std.proofs.lemmas.List.{get_or-map, get_or_past, length-map, map-append, reverse-append, reverse-reverse}
use Rattle.std.proofs.lemmas.List.Elements.{All-nil, All-cons, All-push}
use Rattle.std.proofs.lemmas.Nat.{le_bytes_8}
use Rattle.page_bytes.specs.Content.{Content, IsItem, IsNext, round8, taken, lower_of, upper_of}
use Rattle.page_bytes.specs.Spelling.{zeros, header, line_pointer, line_pointers, padded, stacked, special, spelling, next_word, kind_word}
use Rattle.page_bytes.specs.Decoding.{kind_from, Spells}
use Rattle.page_bytes.specs.declared.kind.PageKind.{PageKind}
use Rattle.page_bytes.specs.declared.kind.PageKind.TheVariants.{IvfEntries}
use Rattle.page_bytes.specs.Format.{Format, fixed, half, kinds, ending, stack, pointers, behind_upper, least_upper, most_upper, behind_lower, page, room_of, InHalf, Room}
use Rattle.page_bytes.specs.Format.Format.{Done}
use Rattle.page_bytes.proofs.Placing.{stacked-append}
use Rattle.page_bytes.proofs.Changes.{stacked-nil, stacked-one, spelling-from}
use Rattle.page_bytes.proofs.Formats.{Matches}
use Rattle.page_bytes.proofs.Parts.{free_matched, fixed_matched, half_matched, pointer_matched, four}
use Rattle.page_bytes.proofs.Alive.{room_allows, room_after, first_room}

-- ---- line pointers by lengths

pointer_bytes : ℕ → List ℕ → List ℕ
pointer_bytes top [] = []
pointer_bytes top (len ∷ lens) = line_pointer (top - round8 len) len ++ pointer_bytes (top - round8 len) lens

pointer_bytes-map : (top : ℕ) (items : List (List ℕ)) → pointer_bytes top (map length items) ≡ line_pointers top items
unfolding pointer_bytes line_pointers
pointer_bytes-map top [] = refl
pointer_bytes-map top (x ∷ items) =
    ap (λ (t : List ℕ). line_pointer (top - round8 (length x)) (length x) ++ t) (pointer_bytes-map (top - round8 (length x)) items)

room_of-map : (items : List (List ℕ)) → room_of (map length items) ≡ taken items
unfolding room_of taken
room_of-map [] = refl
room_of-map (x ∷ items) = ap (λ (n : ℕ). round8 (length x) + n) (room_of-map items)

record Pointed (left gap upper top : ℕ) (lens bytes : List ℕ) : Type 0 where
  new : List ℕ
  rest : List ℕ
  count : length new ≡ left
  some : All (λ n. 0 < n) new
  room : upper + room_of new ≡ top
  same : bytes ≡ pointer_bytes top new ++ rest
  then : Matches (fixed (zeros gap) (stack (reverse_aux new lens))) rest

pointers_matched : (left gap upper top : ℕ) (lens bytes : List ℕ) → Room left upper top → Matches (pointers left gap upper top lens) bytes → Pointed left gap upper top lens bytes
unfolding pointers pointer_bytes room_of
pointers_matched zero gap upper top lens bytes r m = record { new = []; rest = bytes; count = refl; some = All-nil (λ n. 0 < n); room = omega (arith, r.full refl); same = refl; then = m }
pointers_matched (suc left) gap upper top lens bytes r m =
    let next : ℕ → ℕ → Format = λ place len. pointers left gap upper place (len ∷ lens) in
    let p = pointer_matched (upper + 8 * left) (cond (nat_eq left 0) upper (top - 8)) top next bytes (room_allows left upper top r) m in
    let after = room_after left upper top p.place p.len r p.within in
    let q = pointers_matched left gap upper p.place (p.len ∷ lens) p.rest after p.then in
    let place_is : top - round8 p.len ≡ p.place = omega (arith, p.within.room) in
    record {
      new = p.len ∷ q.new;
      rest = q.rest;
      count = ap suc q.count;
      some = All-cons (λ n. 0 < n) p.len q.new p.within.some q.some;
      room = omega (arith, q.room, p.within.room);
      same = p.same ∙ ap (λ (t : List ℕ). line_pointer p.place p.len ++ t) q.same ∙ sym (append_assoc (line_pointer p.place p.len) (pointer_bytes p.place q.new) q.rest) ∙ ap (λ (n : ℕ). (line_pointer n p.len ++ pointer_bytes n q.new) ++ q.rest) (sym place_is);
      then = q.then;
    }

-- ---- items

stacked_more : (items : List (List ℕ)) (x : List ℕ) → stacked (items ++ x ∷ []) ≡ (x ++ zeros (round8 (length x) - length x)) ++ stacked items
unfolding padded
stacked_more items x = stacked-append items (x ∷ []) ∙ ap (λ (t : List ℕ). t ++ stacked items) (stacked-one x)

group_item : (x pad s rest : List ℕ) → x ++ (pad ++ (s ++ rest)) ≡ ((x ++ pad) ++ s) ++ rest
group_item x pad s rest = simp append_assoc

record Stacked (lens bytes : List ℕ) : Type 0 where
  items : List (List ℕ)
  rest : List ℕ
  lens_are : reverse (map length items) ≡ lens
  fits : All (λ x. All (λ b. b < 256) x) items
  same : bytes ≡ stacked items ++ rest
  then : Matches ending rest

stack_matched : (lens bytes : List ℕ) → Matches (stack lens) bytes → Stacked lens bytes
unfolding stack padded
stack_matched [] bytes m = record { items = []; rest = bytes; lens_are = refl; fits = All-nil (All (λ b. b < 256)); same = ap (λ (t : List ℕ). t ++ bytes) (sym stacked-nil); then = m }
stack_matched (len ∷ lens) bytes m =
    let f = free_matched len (fixed (zeros (round8 len - len)) (stack lens)) bytes m in
    let x = f.some in
    let z = fixed_matched (zeros (round8 len - len)) (stack lens) f.rest f.then in
    let s = stack_matched lens z.0 z.2 in
    let items = s.items ++ x ∷ [] in
    record {
      items = items;
      rest = s.rest;
      lens_are = ap reverse (map-append length s.items (x ∷ [])) ∙ reverse-append (map length s.items) (length x ∷ []) ∙ ap (λ (l : List ℕ). length x ∷ l) s.lens_are ∙ ap (λ (n : ℕ). n ∷ lens) f.long;
      fits = All-push (All (λ b. b < 256)) s.items x s.fits f.fits;
      same = f.same ∙ ap (λ (t : List ℕ). x ++ t) (z.1 ∙ ap (λ (t : List ℕ). zeros (round8 len - len) ++ t) s.same) ∙ ap (λ (n : ℕ). x ++ (zeros (round8 n - n) ++ (stacked s.items ++ s.rest))) (sym f.long) ∙ group_item x (zeros (round8 (length x) - length x)) (stacked s.items) s.rest ∙ ap (λ (t : List ℕ). t ++ s.rest) (sym (stacked_more s.items x));
      then = s.then;
    }

-- ---- the special space

record Ended (bytes : List ℕ) : Type 0 where
  next : Option ℕ
  kind : PageKind
  fits : IsNext kind next
  same : bytes ≡ special next kind

pub word_halves : (low high : ℕ) (rest : List ℕ) → low < 2 ^ 16 → to_le_bytes w32 (low + high * 2 ^ 16) ++ rest ≡ to_le_bytes w16 low ++ (to_le_bytes w16 high ++ rest)
word_halves low high rest h = four (omega arith) (omega arith) (omega arith) (omega arith) rest

kind_word-from : (n : ℕ) → 1 ≤ n → n ≤ 4 → kind_word (kind_from n) ≡ n
kind_word-from zero a b = absurd (omega arith)
kind_word-from (suc zero) a b = refl
kind_word-from (suc (suc zero)) a b = refl
kind_word-from (suc (suc (suc zero))) a b = refl
kind_word-from (suc (suc (suc (suc zero)))) a b = refl
kind_word-from (suc (suc (suc (suc (suc n))))) a b = absurd (omega arith)

-- the kind behind a next block
record Kinded (word : ℕ) (bytes : List ℕ) : Type 0 where
  next : Option ℕ
  kind : PageKind
  fits : IsNext kind next
  word_is : next_word next ≡ word
  same : bytes ≡ to_le_bytes w16 0 ++ to_le_bytes w16 (kind_word kind)

done_matched : (bytes : List ℕ) → Matches Done bytes → bytes ≡ []
unfolding Matches
done_matched bytes m = m

pub done_match : Matches Done []
unfolding Matches
done_match = refl

-- the bytes of a kind from least to 4
kind_matched : (least : ℕ) (bytes : List ℕ) → Matches (fixed (zeros 2) (half least 4 1 (λ _. Done))) bytes → (n : ℕ) × (least ≤ n) × (n ≤ 4) × (bytes ≡ to_le_bytes w16 0 ++ to_le_bytes w16 n)
kind_matched least bytes m =
    let z = fixed_matched (zeros 2) (half least 4 1 (λ _. Done)) bytes m in
    let k = half_matched least 4 1 (λ _. Done) z.0 (omega arith) z.2 in
    (k.value, k.within.least, k.within.most, z.1 ∙ ap (λ (t : List ℕ). to_le_bytes w16 0 ++ t) (k.same ∙ ap (λ (t : List ℕ). to_le_bytes w16 k.value ++ t) (done_matched k.rest k.then)))

pub kinds-none : (low high : ℕ) → low + high * 2 ^ 16 ≡ 0xFFFFFFFF → kinds low high ≡ fixed (zeros 2) (half 1 4 1 (λ _. Done))
unfolding kinds
kinds-none low high e = let t = eq-eqb (low + high * 2 ^ 16) 0xFFFFFFFF e in ap (λ (b : Bool). fixed (zeros 2) (half (cond b 1 4) 4 1 (λ _. Done))) t

pub kinds-some : (low high : ℕ) → (low + high * 2 ^ 16 ≡ 0xFFFFFFFF → ⊥) → kinds low high ≡ fixed (zeros 2) (half 4 4 1 (λ _. Done))
unfolding kinds
kinds-some low high n = let t = ne_eqb (low + high * 2 ^ 16) 0xFFFFFFFF n in ap (λ (b : Bool). fixed (zeros 2) (half (cond b 1 4) 4 1 (λ _. Done))) t

kinds_matched : (low high : ℕ) (bytes : List ℕ) → low < 2 ^ 16 → high < 2 ^ 16 → Matches (kinds low high) bytes → Kinded (low + high * 2 ^ 16) bytes
kinds_matched low high bytes l h m = elim (cases_eq (low + high * 2 ^ 16) 0xFFFFFFFF) [
  | inl e ↦
      let k = kind_matched 1 bytes (subst (λ (f : Format). Matches f bytes) (kinds-none low high e) m) in
      record { next = None; kind = kind_from k.0; fits = tt; word_is = sym e; same = k.3 ∙ ap (λ (n : ℕ). to_le_bytes w16 0 ++ to_le_bytes w16 n) (sym (kind_word-from k.0 k.1 k.2)) }
  | inr n ↦
      let k = kind_matched 4 bytes (subst (λ (f : Format). Matches f bytes) (kinds-some low high n) m) in
      let four : k.0 ≡ 4 = omega (arith, k.1, k.2) in
      record { next = Some (low + high * 2 ^ 16); kind = IvfEntries; fits = (refl, omega (arith, n)); word_is = refl; same = k.3 ∙ ap (λ (n : ℕ). to_le_bytes w16 0 ++ to_le_bytes w16 n) four }
]

ending_matched : (bytes : List ℕ) → Matches ending bytes → Ended bytes
unfolding ending special
ending_matched bytes m =
    let l = half_matched 0 0xFFFF 1 (λ low. half 0 0xFFFF 1 (λ high. kinds low high)) bytes (omega arith) m in
    let h = half_matched 0 0xFFFF 1 (λ high. kinds l.value high) l.rest (omega arith) l.then in
    let k = kinds_matched l.value h.value h.rest (omega (arith, l.within.most)) (omega (arith, h.within.most)) h.then in
    let tail : List ℕ = to_le_bytes w16 0 ++ to_le_bytes w16 (kind_word k.kind) in
    record {
      next = k.next;
      kind = k.kind;
      fits = k.fits;
      same = l.same ∙ ap (λ (t : List ℕ). to_le_bytes w16 l.value ++ t) (h.same ∙ ap (λ (t : List ℕ). to_le_bytes w16 h.value ++ t) k.same) ∙ sym (word_halves l.value h.value tail (omega (arith, l.within.most))) ∙ ap (λ (n : ℕ). to_le_bytes w32 n ++ tail) (sym k.word_is);
    }

-- ---- what has the format is spelled

sized : (new : List ℕ) (items : List (List ℕ)) → map length items ≡ new → All (λ n. 0 < n) new → All (λ x. All (λ b. b < 256) x) items → All IsItem items
sized new items e some fits k d h =
    let len : get_or (map length items) k 0 ≡ length (get_or items k d) = get_or-map length items k d 0 h in
    let inside : k < length new = omega (arith, ap length e, length-map items length) in
    let positive : 0 < get_or new k 0 = some k 0 inside in
    record { some = omega (arith, positive, len, ap (λ (l : List ℕ). get_or l k 0) e); bytes = fits k d h }

-- the fields of a page
record Fields (bytes : List ℕ) (lower upper : ℕ) (first new : List ℕ) (items : List (List ℕ)) (next : Option ℕ) (kind : PageKind) : Type 0 where
  long : length first ≡ 8
  small : All (λ b. b < 256) first
  lower_in : InHalf 24 2744 4 lower
  upper_in : InHalf (least_upper lower) (most_upper lower) 8 upper
  count : length new ≡ (lower - 24) / 4
  some : All (λ n. 0 < n) new
  room : upper + room_of new ≡ 8184
  lens : reverse (map length items) ≡ reverse new
  fits : All (λ x. All (λ b. b < 256) x) items
  next_fits : IsNext kind next
  same : bytes ≡ first ++ (zeros 4 ++ (to_le_bytes w16 lower ++ (to_le_bytes w16 upper ++ ((0xF8 ∷ 0x1F ∷ 0x04 ∷ 0x20 ∷ 0 ∷ 0 ∷ 0 ∷ 0 ∷ []) ++ (pointer_bytes 8184 new ++ (zeros (upper - lower) ++ (stacked items ++ special next kind)))))))

pub header_fields : (number lower upper : ℕ) (t : List ℕ) → header number lower upper ++ t ≡ to_le_bytes w64 number ++ (zeros 4 ++ (to_le_bytes w16 lower ++ (to_le_bytes w16 upper ++ ((0xF8 ∷ 0x1F ∷ 0x04 ∷ 0x20 ∷ 0 ∷ 0 ∷ 0 ∷ 0 ∷ []) ++ t))))
unfolding header
header_fields number lower upper t = refl

-- numbers of 8 bytes
number_small : (first : List ℕ) → ((k : ℕ) → get_or first k 0 < 256) → from_le_bytes w64 first < 2 ^ 64
number_small first fits =
    omega (arith, fits 0, fits 1, fits 2, fits 3, fits 4, fits 5, fits 6, fits 7)

all_small : (xs : List ℕ) → All (λ b. b < 256) xs → (k : ℕ) → get_or xs k 0 < 256
all_small xs a k = elim (cases_lt k (length xs)) [
  | inl low ↦ a k 0 low
  | inr high ↦ rw (get_or_past xs k 0 high) (omega arith)
]

fields_spell : (bytes : List ℕ) (lower upper : ℕ) (first new : List ℕ) (items : List (List ℕ)) (next : Option ℕ) (kind : PageKind) → Fields bytes lower upper first new items next kind → (p : Content) × Spells bytes p
fields_spell bytes lower upper first new items next kind f =
    let number = from_le_bytes w64 first in
    let small = all_small first f.small in
    let p : Content = record { kind = kind; next = next; number = number; items = items } in
    let lens : map length items ≡ new = sym (reverse-reverse (map length items)) ∙ ap reverse f.lens ∙ reverse-reverse new in
    let count : length items ≡ length new = sym (length-map items length) ∙ ap length lens in
    let room : room_of new ≡ taken items = ap room_of (sym lens) ∙ room_of-map items in
    let lower_is : lower ≡ lower_of items = omega (arith, f.count, f.lower_in.even, f.lower_in.least) in
    let upper_is : upper ≡ upper_of items = omega (arith, f.room) in
    let r = first_room lower upper f.lower_in f.upper_in in
    let t : List ℕ = line_pointers 8184 items ++ (zeros (upper - lower) ++ (stacked items ++ special next kind)) in
    let spelled : spelling p ≡ header number lower upper ++ t = spelling-from p lower upper (upper - lower) lower_is upper_is (omega (arith, r.1)) in
    let pointers_are : pointer_bytes 8184 new ≡ line_pointers 8184 items = ap (pointer_bytes 8184) (sym lens) ∙ pointer_bytes-map 8184 items in
    let first_is : first ≡ to_le_bytes w64 number = sym (le_bytes_8 first number f.long small refl) in (
      p,
      record {
        page = record { next = f.next_fits; number = number_small first small; items = sized new items lens f.some f.fits; room = omega (arith, f.room, r.1, f.count, f.lower_in.even, f.lower_in.least) };
        same = f.same ∙ ap (λ (s : List ℕ). first ++ (zeros 4 ++ (to_le_bytes w16 lower ++ (to_le_bytes w16 upper ++ ((0xF8 ∷ 0x1F ∷ 0x04 ∷ 0x20 ∷ 0 ∷ 0 ∷ 0 ∷ 0 ∷ []) ++ (s ++ (zeros (upper - lower) ++ (stacked items ++ special next kind)))))))) pointers_are ∙ ap (λ (s : List ℕ). s ++ (zeros 4 ++ (to_le_bytes w16 lower ++ (to_le_bytes w16 upper ++ ((0xF8 ∷ 0x1F ∷ 0x04 ∷ 0x20 ∷ 0 ∷ 0 ∷ 0 ∷ 0 ∷ []) ++ t))))) first_is ∙ sym (header_fields number lower upper t) ∙ sym spelled;
      },
    )

-- what follows pd_lower and pd_upper
record Behind (lower upper : ℕ) (bytes : List ℕ) : Type 0 where
  new : List ℕ
  items : List (List ℕ)
  next : Option ℕ
  kind : PageKind
  count : length new ≡ (lower - 24) / 4
  some : All (λ n. 0 < n) new
  room : upper + room_of new ≡ 8184
  lens : reverse (map length items) ≡ reverse new
  fits : All (λ x. All (λ b. b < 256) x) items
  next_fits : IsNext kind next
  same : bytes ≡ (0xF8 ∷ 0x1F ∷ 0x04 ∷ 0x20 ∷ 0 ∷ 0 ∷ 0 ∷ 0 ∷ []) ++ (pointer_bytes 8184 new ++ (zeros (upper - lower) ++ (stacked items ++ special next kind)))

behind_matched : (lower upper : ℕ) (bytes : List ℕ) → InHalf 24 2744 4 lower → InHalf (least_upper lower) (most_upper lower) 8 upper → Matches (behind_upper lower upper) bytes → Behind lower upper bytes
unfolding behind_upper
behind_matched lower upper bytes lower_in upper_in m =
    let words : List ℕ = 0xF8 ∷ 0x1F ∷ 0x04 ∷ 0x20 ∷ 0 ∷ 0 ∷ 0 ∷ 0 ∷ [] in
    let count = (lower - 24) / 4 in
    let gap = upper - lower in
    let c = fixed_matched words (pointers count gap upper 8184 []) bytes m in
    let r = first_room lower upper lower_in upper_in in
    let p = pointers_matched count gap upper 8184 [] c.0 r.0 c.2 in
    let g = fixed_matched (zeros gap) (stack (reverse p.new)) p.rest p.then in
    let s = stack_matched (reverse p.new) g.0 g.2 in
    let e = ending_matched s.rest s.then in
    record {
      new = p.new;
      items = s.items;
      next = e.next;
      kind = e.kind;
      count = p.count;
      some = p.some;
      room = p.room;
      lens = s.lens_are;
      fits = s.fits;
      next_fits = e.fits;
      same = c.1 ∙ ap (λ (t : List ℕ). words ++ t) (p.same ∙ ap (λ (t : List ℕ). pointer_bytes 8184 p.new ++ t) (g.1 ∙ ap (λ (t : List ℕ). zeros gap ++ t) (s.same ∙ ap (λ (t : List ℕ). stacked s.items ++ t) e.same)));
    }

pub page_matched : (bytes : List ℕ) → Matches page bytes → (p : Content) × Spells bytes p
unfolding page behind_lower
page_matched bytes m =
    let f = free_matched 8 (fixed (zeros 4) (half 24 2744 4 behind_lower)) bytes m in
    let z = fixed_matched (zeros 4) (half 24 2744 4 behind_lower) f.rest f.then in
    let l = half_matched 24 2744 4 behind_lower z.0 (omega arith) z.2 in
    let lower = l.value in
    let u = half_matched (least_upper lower) (most_upper lower) 8 (behind_upper lower) l.rest (omega arith) l.then in
    let upper = u.value in
    let b = behind_matched lower upper u.rest l.within u.within u.then in
    fields_spell bytes lower upper f.some b.new b.items b.next b.kind (record {
      long = f.long;
      small = f.fits;
      lower_in = l.within;
      upper_in = u.within;
      count = b.count;
      some = b.some;
      room = b.room;
      lens = b.lens;
      fits = b.fits;
      next_fits = b.next_fits;
      same = f.same ∙ ap (λ (t : List ℕ). f.some ++ t) (z.1 ∙ ap (λ (t : List ℕ). zeros 4 ++ t) (l.same ∙ ap (λ (t : List ℕ). to_le_bytes w16 lower ++ t) (u.same ∙ ap (λ (t : List ℕ). to_le_bytes w16 upper ++ t) b.same)));
    })
