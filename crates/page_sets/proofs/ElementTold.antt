-- What an element's head and value tell.
use Rattle.std.proofs.Common.{◌≡◌, ℕ, ◌≤◌, ◌||◌, not, Bool, true, false, List, length, Option, Some, None, refl, sym, ap, ◌∙◌, arith}
use Rattle.std.specs.Prelude.{nat_lt, if◌then◌else◌}
use Rattle.std.specs.Option.{option_map}
use Rattle.byte_fields.proofs.EachField.{some_is}
use Rattle.vec_names.specs.declared.params.Params.{Params}
use Rattle.vec_names.specs.declared.params.Kind.{Kind}
use Rattle.vec_names.specs.declared.params.Kind.TheVariants.{Hnsw, Ivf}
use Rattle.vec_names.specs.Params.{IsInRange, IsInRangeOf}
use Rattle.vec_tuples.specs.declared.element.Element.{Element}
use Rattle.vec_tuples.specs.declared.element.ElementHead.{ElementHead}
use Rattle.vec_tuples.specs.declared.links.Links.{Links}
use Rattle.vec_tuples.specs.Spelling.{IsElement, HasValue, OfElement, OfCentre, OfEntry, element_bytes, head_of_element}
use Rattle.vec_tuples.specs.Reading.{element}
use Rattle.page_redo.specs.PageTuples.{in_whole}
use Rattle.graph_search.specs.Reads.{Answer, Gone, OfNode, is_version}
use Rattle.page_redo.proofs.Given.{map_is}
use Rattle.page_sets.specs.Telling.{element_answer, slots_answer}

-- ---- the value

-- a value of a tuple has some places, and not too many
pub value_long : (x : List ℕ) (bits : List Bool) → HasValue x bits → (1 ≤ length bits) × (length bits ≤ 64000)
value_long x bits (OfElement p e range fits is same) =
    let long : length bits ≡ p.bits = ap (λ (l : List Bool). length l) same ∙ fits.long in
    (omega (arith, long, range.bits_low), omega (arith, long, range.bits_high))
value_long x bits (OfCentre p c range fits is same) =
    let long : length bits ≡ p.bits = ap (λ (l : List Bool). length l) same ∙ fits.2 in
    (omega (arith, long, range.bits_low), omega (arith, long, range.bits_high))
value_long x bits (OfEntry p row range fits is same) =
    let long : length bits ≡ p.bits = ap (λ (l : List Bool). length l) same ∙ fits in
    (omega (arith, long, range.bits_low), omega (arith, long, range.bits_high))

pub value_of : (p : Params) (x : List ℕ) (e : Element) → IsInRange p → IsElement p e × (x ≡ element_bytes e) → HasValue x e.bits × (length e.bits ≡ p.bits)
value_of p x e range spelled = (OfElement p e range spelled.0 spelled.1 refl, spelled.0.long)

-- where a head is told, its element has a value
pub value_there : (p : Params) (x : List ℕ) (h : ElementHead) → IsInRange p → Some h ≡ option_map head_of_element (in_whole (element p x))
    → ((e : Element) → in_whole (element p x) ≡ Some e → IsElement p e × (x ≡ element_bytes e))
    → (bits : List Bool) × HasValue x bits × (length bits ≡ p.bits)
value_there p x h range told spelled =
    let e = map_is head_of_element (in_whole (element p x)) h (sym told) in
    let v = value_of p x e.0 range (spelled e.0 e.1) in
    (e.0.bits, v.0, v.1)

-- ---- the answer of an element

pub no_element : {H : Type 0} (view : Element → H) (o : Option Element) (layer : ℕ) (version : Option ℕ) → None ≡ option_map view o → Gone ≡ element_answer o layer version
no_element view None layer version is = refl
no_element view (Some e) layer version is = absurd cc

pub gone_element : (o : Option Element) (h : ElementHead) (layer : ℕ) (version : Option ℕ) → Some h ≡ option_map head_of_element o
    → (h.deleted || (nat_lt h.level layer || not (is_version version h.version))) ≡ true → Gone ≡ element_answer o layer version
gone_element o h layer version told test =
    let e = map_is head_of_element o h (sym told) in
    let same : (e.0.deleted || (nat_lt e.0.level layer || not (is_version version e.0.version))) ≡ true =
    ap (λ (k : ElementHead). k.deleted || (nat_lt k.level layer || not (is_version version k.version))) e.2 ∙ test in
    sym (ap (λ (b : Bool). if b then Gone else OfNode e.0.level e.0.version e.0.list_at e.0.ids.items e.0.bits) same)
    ∙ sym (ap (λ (q : Option Element). element_answer q layer version) e.1)

pub found_element : (o : Option Element) (h : ElementHead) (layer : ℕ) (version : Option ℕ) (answer : Answer) → Some h ≡ option_map head_of_element o
    → (h.deleted || (nat_lt h.level layer || not (is_version version h.version))) ≡ false
    → ((e : Element) → o ≡ Some e → answer ≡ OfNode e.level e.version e.list_at e.ids.items e.bits) → answer ≡ element_answer o layer version
found_element o h layer version answer told test says =
    let e = map_is head_of_element o h (sym told) in
    let same : (e.0.deleted || (nat_lt e.0.level layer || not (is_version version e.0.version))) ≡ false =
    ap (λ (k : ElementHead). k.deleted || (nat_lt k.level layer || not (is_version version k.version))) e.2 ∙ test in
    says e.0 e.1
    ∙ sym (ap (λ (b : Bool). if b then Gone else OfNode e.0.level e.0.version e.0.list_at e.0.ids.items e.0.bits) same)
    ∙ sym (ap (λ (q : Option Element). element_answer q layer version) e.1)

pub head_is : (o : Option Element) (h : ElementHead) (e : Element) → Some h ≡ option_map head_of_element o → o ≡ Some e → h ≡ head_of_element e
head_is o h e told is = some_is h (head_of_element e) (told ∙ ap (option_map head_of_element) is)

-- ---- the answer of a neighbour tuple

pub no_links : {H : Type 0} (view : Links → H) (m : ℕ) (o : Option Links) (level version layer : ℕ) → None ≡ option_map view o → Gone ≡ slots_answer m o level version layer
no_links view m None level version layer is = refl
no_links view m (Some l) level version layer is = absurd cc

-- m is low in every index
pub m_low : (p : Params) → IsInRange p → p.m ≤ 100
m_low p range = by_kind p.kind range.of_kind
  where
    by_kind : (k : Kind) → IsInRangeOf k p → p.m ≤ 100
    by_kind Hnsw r = omega (arith, r.m_high)
    by_kind Ivf r = omega (arith, r.no_m)
