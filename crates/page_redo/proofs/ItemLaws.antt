-- What stands at an offset, as the calls that look at a tuple tell it.
use Rattle.std.proofs.Common.{◌≡◌, ℕ, Bool, List, [], ◌∷◌, Option, Some, None, IfSome, refl, sym, ap, ◌∙◌}
use Rattle.std.proofs.lemmas.List.{append-nil}
use Rattle.std.specs.Option.{option_map, option_and_then}
use Rattle.page_bytes.specs.Content.{Content, item_at}
use Rattle.std.specs.Prelude.{⊤}
use Rattle.byte_fields.specs.Reading.{Read, Got, Bad, Short, Reader}
use Rattle.byte_fields.proofs.FieldLaws.{AreBytes, IsField}
use Rattle.byte_fields.proofs.EachField.{some_is}
use Rattle.vec_names.specs.declared.params.Params.{Params}
use Rattle.vec_tuples.specs.declared.element.Element.{Element}
use Rattle.vec_tuples.specs.declared.element.ElementHead.{ElementHead}
use Rattle.vec_tuples.specs.declared.links.Links.{Links}
use Rattle.vec_tuples.specs.declared.centre.CentreTuple.{CentreTuple}
use Rattle.vec_tuples.specs.Spelling.{IsElement, element_with, element_bytes, head_of_element, IsLinks, links_bytes, head_of_links, IsCentre, centre_bytes, head_of_centre}
use Rattle.page_redo.specs.declared.items.LinksHead.{LinksHead}
use Rattle.page_redo.specs.PageTuples.{links_head}
use Rattle.page_redo.specs.PageTuples.{in_whole, read_at, element_at, links_at, centre_at}

module _ {A : Type 0} {f : Reader A} {spell : A → List ℕ} {Fits : A → Type 0} {most : ℕ} (law : IsField ⊤ f spell Fits most) where
  in_whole_got : (r : Read A) (v : A) → in_whole r ≡ Some v → r ≡ Got v []
  in_whole_got (Got w []) v is = let e : w ≡ v = cc in ap (λ x. Got x []) e
  in_whole_got (Got w (b ∷ bs)) v is = absurd cc
  in_whole_got (Bad left) v is = absurd cc
  in_whole_got (Short left) v is = absurd cc

  pub whole_spelled : (x : List ℕ) (v : A) → AreBytes x → in_whole (f x) ≡ Some v → Fits v × (x ≡ spell v)
  whole_spelled x v bytes is =
      let t = law.takes x v [] bytes (in_whole_got (f x) v is) in
      (t.1, t.0 ∙ append-nil (spell v))

  pub whole_read : (x : List ℕ) (v : A) → Fits v → x ≡ spell v → in_whole (f x) ≡ Some v
  whole_read x v fits is =
      ap in_whole (ap f (is ∙ sym (append-nil (spell v))) ∙ law.again v [] fits)

  module _ {H : Type 0} (view : A → H) (x : List ℕ) (bytes : AreBytes x) (result : Option H)
      (spelled : IfSome result (λ h. (v : A) × Fits v × (x ≡ spell v) × (h ≡ view v)))
      (read : (v : A) → Fits v → x ≡ spell v → result ≡ Some (view v)) where
    told_from : (o : Option A) → in_whole (f x) ≡ o → result ≡ option_map view o
    told_from (Some v) is = let s = whole_spelled x v bytes is in read v s.0 s.1
    told_from None is = none result spelled
      where
        none : (r : Option H) → IfSome r (λ h. (v : A) × Fits v × (x ≡ spell v) × (h ≡ view v)) → r ≡ None
        none None s = refl
        none (Some h) s = let found = whole_read x s.0 s.1 s.2 in absurd cc

    pub told : result ≡ option_map view (in_whole (f x))
    told = told_from (in_whole (f x)) refl

  module _ (c : Content) (off : ℕ) (x : List ℕ) (is : Some x ≡ item_at c.items off) (bytes : AreBytes x) where
    pub at_told : {H : Type 0} (view : A → H) (result : Option H) → IfSome result (λ h. (v : A) × Fits v × (x ≡ spell v) × (h ≡ view v)) → ((v : A) → Fits v → x ≡ spell v → result ≡ Some (view v))
        → result ≡ option_map view (read_at f c off)
    at_told view result spelled read = told view x bytes result spelled read ∙ ap (λ o. option_map view (option_and_then (λ y. in_whole (f y)) o)) is

    pub at_spelled : (v : A) → read_at f c off ≡ Some v → Fits v × (item_at c.items off ≡ Some (spell v))
    at_spelled v got =
        let s = whole_spelled x v bytes (ap (λ o. option_and_then (λ y. in_whole (f y)) o) is ∙ got) in
        (s.0, sym is ∙ ap (λ (y : List ℕ). Some y) s.1)

pub head_told : (p : Params) (x : List ℕ) (o : Option ElementHead) → IfSome o (λ h. (bits : List Bool) × IsElement p (element_with h bits) × (x ≡ element_bytes (element_with h bits)))
    → IfSome o (λ h. (e : Element) × IsElement p e × (x ≡ element_bytes e) × (h ≡ head_of_element e))
head_told p x None s = s
head_told p x (Some h) s = (element_with h s.0, s.1, s.2, refl)

-- an element whose head was told stands there
pub element_there : (p : Params) (c : Content) (off : ℕ) (h : ElementHead) → Some h ≡ option_map head_of_element (element_at p c off)
    → ((e : Element) → element_at p c off ≡ Some e → IsElement p e × (item_at c.items off ≡ Some (element_bytes e))) → (e : Element) × (item_at c.items off ≡ Some (element_bytes e))
element_there p c off h told spelled = there (element_at p c off) refl
  where
    there : (o : Option Element) → element_at p c off ≡ o → (e : Element) × (item_at c.items off ≡ Some (element_bytes e))
    there None is = let none = told ∙ ap (option_map head_of_element) is in absurd cc
    there (Some e) is = (e, (spelled e is).1)

-- and so does a neighbour tuple
pub links_there : (p : Params) (c : Content) (off : ℕ) (h : LinksHead) → Some h ≡ option_map links_head (links_at p c off)
    → ((l : Links) → links_at p c off ≡ Some l → IsLinks p l × (item_at c.items off ≡ Some (links_bytes l)))
    → (l : Links) × (item_at c.items off ≡ Some (links_bytes l)) × IsLinks p l × (links_at p c off ≡ Some l) × (h ≡ links_head l)
links_there p c off h told spelled = there (links_at p c off) refl
  where
    there : (o : Option Links) → links_at p c off ≡ o
        → (l : Links) × (item_at c.items off ≡ Some (links_bytes l)) × IsLinks p l × (links_at p c off ≡ Some l) × (h ≡ links_head l)
    there None is = let none = told ∙ ap (option_map links_head) is in absurd cc
    there (Some l) is =
        let s = spelled l is in
        let same = told ∙ ap (option_map links_head) is in
        (l, s.1, s.0, is, some_is h (links_head l) same)

-- a head as a struct, and none
abbrev as_struct : Bool × ℕ × ℕ → LinksHead
as_struct h = record { deleted = h.0; version = h.1; count = h.2 }

pub links_told : (o : Option Links) (h : Bool × ℕ × ℕ) → Some h ≡ option_map head_of_links o
    → Some (record { deleted = h.0; version = h.1; count = h.2 }) ≡ option_map links_head o
links_told None h is = absurd cc
links_told (Some l) h is = let e = some_is h (head_of_links l) is in ap (λ (g : Bool × ℕ × ℕ). Some (as_struct g)) e

pub links_not_told : (o : Option Links) → None ≡ option_map head_of_links o → None ≡ option_map links_head o
links_not_told None is = refl
links_not_told (Some l) is = absurd cc

-- and a list tuple
pub centre_there : (p : Params) (c : Content) (off : ℕ) (h : ℕ × ℕ) → Some h ≡ option_map head_of_centre (centre_at p c off)
    → ((l : CentreTuple) → centre_at p c off ≡ Some l → IsCentre p l × (item_at c.items off ≡ Some (centre_bytes l))) → (l : CentreTuple) × (item_at c.items off ≡ Some (centre_bytes l))
centre_there p c off h told spelled = there (centre_at p c off) refl
  where
    there : (o : Option CentreTuple) → centre_at p c off ≡ o → (l : CentreTuple) × (item_at c.items off ≡ Some (centre_bytes l))
    there None is = let none = told ∙ ap (option_map head_of_centre) is in absurd cc
    there (Some l) is = (l, (spelled l is).1)
