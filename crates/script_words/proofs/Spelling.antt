-- Texts of numbers and ids.
use Rattle.std.proofs.Common.{◌≡◌, refl, sym, ap, ap₂, inl, ◌∙◌, subst, ℕ, ◌+◌, take, drop, length, ◌-◌, List, [], ◌∷◌, ◌++◌, ◌^◌, ◌<◌, arith, decimal}
use Rattle.std.specs.Prelude.{Bool, true, false, nat_eq, ◌&&◌, ◌==◌}
use Rattle.std.specs.Cmp.Lexicographic.{pointwise}
use Rattle.std.proofs.lemmas.Bool.{eq-eqb, eqb-true}
use Rattle.std.proofs.lemmas.List.{take_all, length-drop}
use Rattle.std.proofs.lemmas.Fmt.{decimal_injective}
use Rattle.vec_names.specs.declared.heap_id.HeapId.{HeapId}
use Rattle.script_words.specs.Lines.{Lacks, IsCutAt}
use Rattle.script_words.specs.Commands.{IsRowId, id_word}
use Rattle.script_words.proofs.Cutting.{no_cut, cut_parts, decimal_lacks}

itself : (xs : List ℕ) → pointwise nat_eq xs xs ≡ true
itself [] = refl
itself (x ∷ xs) = ap (λ (b : Bool). b && pointwise nat_eq xs xs) (eq-eqb x x refl) ∙ itself xs

-- a text equals itself
pub same_text : (xs ys : List ℕ) → xs ≡ ys → pointwise nat_eq xs ys ≡ true
same_text xs ys is = subst (λ (zs : List ℕ). pointwise nat_eq xs zs ≡ true) is (itself xs)

equal_step : (x y : ℕ) (xs ys : List ℕ) (b : Bool) → (x == y) ≡ b → (pointwise nat_eq xs ys ≡ true → xs ≡ ys) → (b && pointwise nat_eq xs ys) ≡ true → x ∷ xs ≡ y ∷ ys
equal_step x y xs ys false is rest h = absurd (cc)
equal_step x y xs ys true is rest h = ap₂ (λ (n : ℕ) (ns : List ℕ). n ∷ ns) (eqb-true x y is) (rest h)

pub equal_texts : (xs ys : List ℕ) → pointwise nat_eq xs ys ≡ true → xs ≡ ys
equal_texts [] [] h = refl
equal_texts [] (y ∷ ys) h = absurd (cc)
equal_texts (x ∷ xs) [] h = absurd (cc)
equal_texts (x ∷ xs) (y ∷ ys) h = equal_step x y xs ys (x == y) refl (equal_texts xs ys) h

-- ---- ids

block_lacks : (id : HeapId) → IsRowId id → Lacks 47 (decimal id.block)
block_lacks id is = decimal_lacks 47 id.block (omega (arith, is.block_fits)) (inl (omega arith))

-- a word with no slash is no id
pub no_id_without_slash : (word : List ℕ) (id : HeapId) → Lacks 47 word → word ≡ id_word id → ⊥
no_id_without_slash word id lacks is = no_cut 47 word (decimal id.block) (decimal id.off) lacks is

-- the parts of an id
pub id_parts : (word : List ℕ) (at : ℕ) (id : HeapId) → IsCutAt 47 word at → IsRowId id → word ≡ id_word id → (take at word ≡ decimal id.block) × (drop (at + 1) word ≡ decimal id.off)
id_parts word at id cut fits is = cut_parts 47 at word (decimal id.block) (decimal id.off) cut (block_lacks id fits) is

pub id_from : (word : List ℕ) (at block off : ℕ) → IsCutAt 47 word at → take at word ≡ decimal block → drop (at + 1) word ≡ decimal off → word ≡ decimal block ++ 47 ∷ decimal off
id_from word at block off cut first second = cut.parts ∙ ap₂ (λ (xs ys : List ℕ). xs ++ 47 ∷ ys) first second

-- a slice to the end
pub rest_of : (text : List ℕ) (at : ℕ) → take (length text - at) (drop at text) ≡ drop at text
rest_of text at = take_all (length text - at) (drop at text) (omega (arith, length-drop at text))

-- the numbers that were read are those of the id
pub id_block : (word : List ℕ) (at block : ℕ) (id : HeapId) → IsCutAt 47 word at → IsRowId id → word ≡ id_word id → block < 2 ^ 64 → take at word ≡ decimal block → id.block ≡ block
id_block word at block id cut fits is small read =
    decimal_injective id.block block (omega (arith, fits.block_fits)) small (sym (id_parts word at id cut fits is).0 ∙ read)

pub id_off : (word : List ℕ) (at off : ℕ) (id : HeapId) → IsCutAt 47 word at → IsRowId id → word ≡ id_word id → off < 2 ^ 64 → drop (at + 1) word ≡ decimal off → id.off ≡ off
id_off word at off id cut fits is small read =
    decimal_injective id.off off (omega (arith, fits.off_fits)) small (sym (id_parts word at id cut fits is).1 ∙ read)
