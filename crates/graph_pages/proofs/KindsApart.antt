-- The item of one kind of tuple reads as no other.
use Rattle.std.proofs.Common.{◌≡◌, ℕ, ◌≤◌, Bool, true, false, ◌&&◌, List, [], ◌∷◌, length, Some, None, refl, arith}
use Rattle.std.specs.Prelude.{nat_lt, nat_le}
use Rattle.std.proofs.lemmas.Bool.{false_from_ne_true, ltb-true, leb-true, and_parts}
use Rattle.vec_names.specs.declared.params.Params.{Params}
use Rattle.vec_tuples.specs.declared.meta.Meta.{Meta}
use Rattle.vec_tuples.specs.declared.element.Element.{Element}
use Rattle.vec_tuples.specs.declared.links.Links.{Links}
use Rattle.vec_tuples.specs.Spelling.{links_kind, links_bytes, meta_bytes}
use Rattle.byte_fields.specs.Reading.{field, byte_from}
use Rattle.vec_tuples.specs.Reading.{element, head, links}
use Rattle.page_redo.specs.PageTuples.{in_whole}

some_byte : (b : ℕ) (rest : List ℕ) → nat_lt (length (b ∷ rest)) 1 ≡ false
some_byte b rest = false_from_ne_true (nat_lt (length (b ∷ rest)) 1) (λ less. absurd (omega (arith, ltb-true (length (b ∷ rest)) 1 less)))

-- the first byte of an element is 1
two_is_no_element : (p : Params) (rest : List ℕ) → in_whole (element p (2 ∷ rest)) ≡ None
unfolding element head field byte_from
two_is_no_element p rest = rw (some_byte 2 rest) refl

three_is_no_element : (p : Params) (rest : List ℕ) → in_whole (element p (3 ∷ rest)) ≡ None
unfolding element head field byte_from
three_is_no_element p rest = rw (some_byte 3 rest) refl

magic_is_no_element : (p : Params) (rest : List ℕ) → in_whole (element p (86 ∷ rest)) ≡ None
unfolding element head field byte_from
magic_is_no_element p rest = rw (some_byte 86 rest) refl

magic_is_no_list : (p : Params) (rest : List ℕ) → in_whole (links p (86 ∷ rest)) ≡ None
unfolding links field byte_from
magic_is_no_list p rest = rw (some_byte 86 rest) refl

by_kind : (p : Params) (deleted : Bool) (rest : List ℕ) → in_whole (element p (links_kind deleted ∷ rest)) ≡ None
by_kind p false rest = two_is_no_element p rest
by_kind p true rest = three_is_no_element p rest

pub list_is_no_element : (p : Params) (l : Links) → in_whole (element p (links_bytes l)) ≡ None
unfolding links_bytes
list_is_no_element p l = by_kind p l.deleted _

pub meta_is_no_element : (p : Params) (m : Meta) → in_whole (element p (meta_bytes m)) ≡ None
unfolding meta_bytes
meta_is_no_element p m = magic_is_no_element p _

pub meta_is_no_list : (p : Params) (m : Meta) → in_whole (links p (meta_bytes m)) ≡ None
unfolding meta_bytes
meta_is_no_list p m = magic_is_no_list p _

-- an item that reads as an element reads as no list, whose first byte is 2 or 3
not_one : (b : ℕ) → (nat_le 2 b && nat_le b 3) ≡ true → (nat_le 1 b && nat_le b 1) ≡ false
not_one b two = false_from_ne_true (nat_le 1 b && nat_le b 1) (λ one.
    let low : 2 ≤ b = leb-true 2 b (and_parts (nat_le 2 b) (nat_le b 3) two).0 in
    let high : b ≤ 1 = leb-true b 1 (and_parts (nat_le 1 b) (nat_le b 1) one).1 in
    absurd (omega (arith, low, high)))

by_first : (p : Params) (b : ℕ) (rest : List ℕ) (e : Element) (test : Bool) → (nat_le 2 b && nat_le b 3) ≡ test
    → in_whole (element p (b ∷ rest)) ≡ Some e → in_whole (links p (b ∷ rest)) ≡ None
unfolding element links head field byte_from
by_first p b rest e false two is = rw (some_byte b rest, two) refl
by_first p b rest e true two is = let none = rw (some_byte b rest, not_one b two) at is in absurd cc

no_bytes : (p : Params) (e : Element) → in_whole (element p []) ≡ Some e → in_whole (links p []) ≡ None
unfolding element links head field byte_from
no_bytes p e is = refl

pub element_is_no_list : (p : Params) (x : List ℕ) (e : Element) → in_whole (element p x) ≡ Some e → in_whole (links p x) ≡ None
element_is_no_list p [] e is = no_bytes p e is
element_is_no_list p (b ∷ rest) e is = by_first p b rest e (nat_le 2 b && nat_le b 3) refl is
