-- Words have one command.
use Rattle.std.proofs.Common.{◌≡◌, refl, sym, ap, ap₂, inl, ◌∙◌, subst, ℕ, ◌+◌, ◌<◌, List, [], ◌∷◌, ◌++◌, arith, decimal, get_or}
use Rattle.std.specs.Prelude.{Bool, Option, Some, None, codes}
use Rattle.std.specs.List.{onto_first}
use Rattle.std.proofs.lemmas.Fmt.{decimal_injective}
use Rattle.bit_code.specs.Texts.{places_of_text}
use Rattle.vec_names.specs.declared.heap_id.HeapId.{HeapId}
use Rattle.vec_names.specs.declared.params.Ops.{Ops}
use Rattle.vec_names.specs.declared.params.Ops.TheVariants.{Hamming, Jaccard}
use Rattle.vec_names.specs.Places.{same_heap_id}
use Rattle.script_words.specs.declared.command.Command.{Command}
use Rattle.script_words.specs.declared.command.Command.TheVariants.{Row, Query, Draw, Create, Insert, Search, Stats}
use Rattle.script_words.specs.declared.command.Further.{Further}
use Rattle.script_words.specs.declared.command.Further.TheVariants.{Relaxed, Strict}
use Rattle.script_words.specs.declared.form.Form.{Form}
use Rattle.script_words.specs.Lines.{words_of}
use Rattle.script_words.specs.Commands.{IsRowId, id_word, IsBits, IsNumberIf, maybe, named, ops_word, further_words, IsFurther, IsGivenRow, IsCreate, IsSearch, verb_of, HasRest, HasWords}
use Rattle.script_words.specs.Parts.{AreNumbers, BeginsWith}
use Rattle.script_words.specs.Grammar.{IsLine, IsSkipped}
use Rattle.script_words.proofs.Cutting.{one_cut, decimal_lacks}
use Rattle.script_words.proofs.Optional.{one_number, one_named, m_next, ef_next, round_next}

one_id : (a b : HeapId) → IsRowId a → IsRowId b → id_word a ≡ id_word b → a ≡ b
one_id a b fa fb same =
    let low : 47 < 48 = omega arith in
    let parts =
    one_cut 47 (decimal a.block) (decimal b.block) (decimal a.off) (decimal b.off) (decimal_lacks 47 a.block (omega (arith, fa.block_fits)) (inl low))
    (decimal_lacks 47 b.block (omega (arith, fb.block_fits)) (inl low)) same in
    same_heap_id a b (decimal_injective a.block b.block (omega (arith, fa.block_fits)) (omega (arith, fb.block_fits)) parts.0)
    (decimal_injective a.off b.off (omega (arith, fa.off_fits)) (omega (arith, fb.off_fits)) parts.1)

one_value : (text others : List ℕ) (us vs : List Bool) → text ≡ others → IsBits text us → IsBits others vs → us ≡ vs
one_value text others us vs same fu fv = fu.1 ∙ ap places_of_text same ∙ sym fv.1

one_maybe : (a b : Option ℕ) → IsNumberIf a → IsNumberIf b → maybe a ≡ maybe b → a ≡ b
one_maybe None None fa fb same = refl
one_maybe None (Some n) fa fb same = absurd cc
one_maybe (Some n) None fa fb same = absurd cc
one_maybe (Some n) (Some m) fa fb same = ap Some (one_number n m fa fb (cc (same)))

one_ops : (a b : Ops) → ops_word a ≡ ops_word b → a ≡ b
one_ops Hamming Hamming same = refl
one_ops Jaccard Jaccard same = refl
one_ops Hamming Jaccard same = absurd (let e : 104 ≡ 106 = ap (λ (l : List ℕ). get_or l 0 0) same in omega (arith, e))
one_ops Jaccard Hamming same = absurd (let e : 106 ≡ 104 = ap (λ (l : List ℕ). get_or l 0 0) same in omega (arith, e))

-- the first character of the first word, and 0 of none
abbrev first_of : List (List ℕ) → ℕ
first_of [] = 0
first_of (word ∷ words) = get_or word 0 0

one_further : (a b : Option Further) → IsFurther a → IsFurther b → further_words a ≡ further_words b → a ≡ b
one_further None None fa fb same = refl
one_further None (Some (Relaxed n)) fa fb same = absurd cc
one_further None (Some (Strict n)) fa fb same = absurd cc
one_further (Some (Relaxed n)) None fa fb same = absurd cc
one_further (Some (Strict n)) None fa fb same = absurd cc
one_further (Some (Relaxed n)) (Some (Relaxed m)) fa fb same = ap (λ (o : Option ℕ). Some (Relaxed o)) (one_maybe n m fa fb (cc (same)))
one_further (Some (Strict n)) (Some (Strict m)) fa fb same = ap (λ (o : Option ℕ). Some (Strict o)) (one_maybe n m fa fb (cc (same)))
one_further (Some (Relaxed n)) (Some (Strict m)) fa fb same = absurd (let e : 114 ≡ 115 = ap first_of same in omega (arith, e))
one_further (Some (Strict n)) (Some (Relaxed m)) fa fb same = absurd (let e : 115 ≡ 114 = ap first_of same in omega (arith, e))

one_row : (words : List (List ℕ)) (a b : HeapId) (us vs : List Bool) (n m : Option ℕ) → IsGivenRow words a us n → IsGivenRow words b vs m → (a ≡ b) × (us ≡ vs) × (n ≡ m)
one_row words a b us vs n m fa fb =
    let same = sym fa.spelled ∙ fb.spelled in
    (one_id a b fa.is_id fb.is_id (cc (same)), one_value fa.text fb.text us vs (cc (same)) fa.is_bits fb.is_bits, one_maybe n m fa.is_word fb.is_word (cc (same)))

no_ef : (further : Option Further) → BeginsWith (codes "ef") (further_words further) → ⊥
no_ef None begins = begins
no_ef (Some (Relaxed n)) begins = absurd (let e : 114 ≡ 101 = ap (λ (l : List ℕ). get_or l 0 0) begins in omega (arith, e))
no_ef (Some (Strict n)) begins = absurd (let e : 115 ≡ 101 = ap (λ (l : List ℕ). get_or l 0 0) begins in omega (arith, e))

one_search : (words : List (List ℕ)) (us vs : List Bool) (n m : ℕ) (e f : Option ℕ) (x y : Option Further) → IsSearch words us n e x → IsSearch words vs m f y
    → (us ≡ vs) × (n ≡ m) × (e ≡ f) × (x ≡ y)
one_search words us vs n m e f x y fa fb =
    let same = sym fa.spelled ∙ fb.spelled in
    let tails : named (codes "ef") e ++ further_words x ≡ named (codes "ef") f ++ further_words y = cc (same) in
    let next = one_named (codes "ef") (named (codes "ef") e ++ further_words x) (further_words x) (further_words y) e f
    (record { spelled = refl; is_number = fa.is_ef; left_out = λ none. no_ef x }) (record { spelled = tails; is_number = fb.is_ef; left_out = λ none. no_ef y }) in
    (one_value fa.text fb.text us vs (cc (same)) fa.is_bits fb.is_bits, one_number n m fa.is_limit fb.is_limit (cc (same)), next.0, one_further x y fa.is_further fb.is_further next.1)

are_numbers : (words : List (List ℕ)) (ops : Ops) (bits : ℕ) (m ef round : Option ℕ) → IsCreate words ops bits m ef round
    → AreNumbers (named (codes "m") m ++ (named (codes "ef") ef ++ named (codes "round") round)) m ef round
are_numbers words ops bits m ef round is = record { spelled = refl; is_m = is.is_m; is_ef = is.is_ef; is_round = is.is_round }

one_create : (words : List (List ℕ)) (p q : Ops) (n k : ℕ) (m ef round m' ef' round' : Option ℕ) → IsCreate words p n m ef round → IsCreate words q k m' ef' round'
    → (p ≡ q) × (n ≡ k) × (m ≡ m') × (ef ≡ ef') × (round ≡ round')
one_create words p q n k m ef round m' ef' round' fa fb =
    let same = sym fa.spelled ∙ fb.spelled in
    let ws : List (List ℕ) = named (codes "m") m' ++ (named (codes "ef") ef' ++ named (codes "round") round') in
    let tails : named (codes "m") m ++ (named (codes "ef") ef ++ named (codes "round") round) ≡ ws = cc (same) in
    let one = subst (λ (l : List (List ℕ)). AreNumbers l m ef round) tails (are_numbers words p n m ef round fa) in
    let two = are_numbers words q k m' ef' round' fb in
    let first = m_next ws m ef round one in
    let second = ef_next ws m ef round one m (named (codes "ef") ef ++ named (codes "round") round) first in
    let last = round_next ws m ef round one m ef (named (codes "ef") ef ++ named (codes "round") round) (named (codes "round") round) first second in
    let other = ef_next ws m' ef' round' two m (named (codes "ef") ef ++ named (codes "round") round) first in
    let other_last = round_next ws m' ef' round' two m ef (named (codes "ef") ef ++ named (codes "round") round) (named (codes "round") round) first second in (
      one_ops p q (cc (same)),
      one_number n k fa.is_bits fb.is_bits (cc (same)),
      (one_named (codes "m") ws (named (codes "ef") ef ++ named (codes "round") round) (named (codes "ef") ef' ++ named (codes "round") round') m m' first (m_next ws m' ef' round' two)).0,
      (one_named (codes "ef") (named (codes "ef") ef ++ named (codes "round") round) (named (codes "round") round) (named (codes "round") round') ef ef' second other).0,
      (one_named (codes "round") (named (codes "round") round) [] [] round round' last other_last).0,
    )

-- a number by which verbs are told apart: the sum of the first two characters
abbrev mark : List ℕ → ℕ
mark verb = get_or verb 0 0 + get_or verb 1 0

-- words behind one verb have one command
one_rest : (rest : List (List ℕ)) (a b : Command) → verb_of a ≡ verb_of b → HasRest rest a → HasRest rest b → a ≡ b
one_rest rest (Row a us n) (Row b vs m) same fa fb =
    let one = one_row rest a b us vs n m fa fb in
    subst (λ (w : Option ℕ). Row a us n ≡ Row b vs w) one.2 (ap₂ (λ (id : HeapId) (bits : List Bool). Row id bits n) one.0 one.1)
one_rest rest (Insert a us n) (Insert b vs m) same fa fb =
    let one = one_row rest a b us vs n m fa fb in
    subst (λ (w : Option ℕ). Insert a us n ≡ Insert b vs w) one.2 (ap₂ (λ (id : HeapId) (bits : List Bool). Insert id bits n) one.0 one.1)
one_rest rest (Query us) (Query vs) same fa fb = ap Query (one_value fa.text fb.text us vs (cc (sym fa.spelled ∙ fb.spelled)) fa.is_bits fb.is_bits)
one_rest rest (Draw n) (Draw m) same fa fb = ap Draw (one_number n m fa.1 fb.1 (cc (sym fa.0 ∙ fb.0)))
one_rest rest (Create p n m ef round) (Create q k m' ef' round') same fa fb =
    let words : fa.0 ≡ fb.0 = cc (sym fa.1 ∙ fb.1) in
    let one = one_create fb.0 p q n k m ef round m' ef' round' (subst (λ (l : List (List ℕ)). IsCreate l p n m ef round) words fa.2) fb.2 in
    cc (one.0, one.1, one.2, one.3, one.4)
one_rest rest (Search us n e x) (Search vs m f y) same fa fb =
    let one = one_search rest us vs n m e f x y fa fb in
    cc (one.0, one.1, one.2, one.3)
one_rest rest Stats Stats same fa fb = refl
one_rest rest (Row id bits word) (Query bits2) same fa fb = absurd (let e : 225 ≡ 230 = ap mark same in omega (arith, e))
one_rest rest (Row id bits word) (Draw seed2) same fa fb = absurd (let e : 225 ≡ 214 = ap mark same in omega (arith, e))
one_rest rest (Row id bits word) (Create ops2 bits2 m2 ef2 round2) same fa fb = absurd (let e : 225 ≡ 213 = ap mark same in omega (arith, e))
one_rest rest (Row id bits word) (Insert id2 bits2 word2) same fa fb = absurd (let e : 225 ≡ 215 = ap mark same in omega (arith, e))
one_rest rest (Row id bits word) (Search bits2 limit2 ef2 further2) same fa fb = absurd (let e : 225 ≡ 216 = ap mark same in omega (arith, e))
one_rest rest (Row id bits word) Stats same fa fb = absurd (let e : 225 ≡ 231 = ap mark same in omega (arith, e))
one_rest rest (Query bits) (Row id2 bits2 word2) same fa fb = absurd (let e : 230 ≡ 225 = ap mark same in omega (arith, e))
one_rest rest (Query bits) (Draw seed2) same fa fb = absurd (let e : 230 ≡ 214 = ap mark same in omega (arith, e))
one_rest rest (Query bits) (Create ops2 bits2 m2 ef2 round2) same fa fb = absurd (let e : 230 ≡ 213 = ap mark same in omega (arith, e))
one_rest rest (Query bits) (Insert id2 bits2 word2) same fa fb = absurd (let e : 230 ≡ 215 = ap mark same in omega (arith, e))
one_rest rest (Query bits) (Search bits2 limit2 ef2 further2) same fa fb = absurd (let e : 230 ≡ 216 = ap mark same in omega (arith, e))
one_rest rest (Query bits) Stats same fa fb = absurd (let e : 230 ≡ 231 = ap mark same in omega (arith, e))
one_rest rest (Draw seed) (Row id2 bits2 word2) same fa fb = absurd (let e : 214 ≡ 225 = ap mark same in omega (arith, e))
one_rest rest (Draw seed) (Query bits2) same fa fb = absurd (let e : 214 ≡ 230 = ap mark same in omega (arith, e))
one_rest rest (Draw seed) (Create ops2 bits2 m2 ef2 round2) same fa fb = absurd (let e : 214 ≡ 213 = ap mark same in omega (arith, e))
one_rest rest (Draw seed) (Insert id2 bits2 word2) same fa fb = absurd (let e : 214 ≡ 215 = ap mark same in omega (arith, e))
one_rest rest (Draw seed) (Search bits2 limit2 ef2 further2) same fa fb = absurd (let e : 214 ≡ 216 = ap mark same in omega (arith, e))
one_rest rest (Draw seed) Stats same fa fb = absurd (let e : 214 ≡ 231 = ap mark same in omega (arith, e))
one_rest rest (Create ops bits m ef round) (Row id2 bits2 word2) same fa fb = absurd (let e : 213 ≡ 225 = ap mark same in omega (arith, e))
one_rest rest (Create ops bits m ef round) (Query bits2) same fa fb = absurd (let e : 213 ≡ 230 = ap mark same in omega (arith, e))
one_rest rest (Create ops bits m ef round) (Draw seed2) same fa fb = absurd (let e : 213 ≡ 214 = ap mark same in omega (arith, e))
one_rest rest (Create ops bits m ef round) (Insert id2 bits2 word2) same fa fb = absurd (let e : 213 ≡ 215 = ap mark same in omega (arith, e))
one_rest rest (Create ops bits m ef round) (Search bits2 limit2 ef2 further2) same fa fb = absurd (let e : 213 ≡ 216 = ap mark same in omega (arith, e))
one_rest rest (Create ops bits m ef round) Stats same fa fb = absurd (let e : 213 ≡ 231 = ap mark same in omega (arith, e))
one_rest rest (Insert id bits word) (Row id2 bits2 word2) same fa fb = absurd (let e : 215 ≡ 225 = ap mark same in omega (arith, e))
one_rest rest (Insert id bits word) (Query bits2) same fa fb = absurd (let e : 215 ≡ 230 = ap mark same in omega (arith, e))
one_rest rest (Insert id bits word) (Draw seed2) same fa fb = absurd (let e : 215 ≡ 214 = ap mark same in omega (arith, e))
one_rest rest (Insert id bits word) (Create ops2 bits2 m2 ef2 round2) same fa fb = absurd (let e : 215 ≡ 213 = ap mark same in omega (arith, e))
one_rest rest (Insert id bits word) (Search bits2 limit2 ef2 further2) same fa fb = absurd (let e : 215 ≡ 216 = ap mark same in omega (arith, e))
one_rest rest (Insert id bits word) Stats same fa fb = absurd (let e : 215 ≡ 231 = ap mark same in omega (arith, e))
one_rest rest (Search bits limit ef further) (Row id2 bits2 word2) same fa fb = absurd (let e : 216 ≡ 225 = ap mark same in omega (arith, e))
one_rest rest (Search bits limit ef further) (Query bits2) same fa fb = absurd (let e : 216 ≡ 230 = ap mark same in omega (arith, e))
one_rest rest (Search bits limit ef further) (Draw seed2) same fa fb = absurd (let e : 216 ≡ 214 = ap mark same in omega (arith, e))
one_rest rest (Search bits limit ef further) (Create ops2 bits2 m2 ef2 round2) same fa fb = absurd (let e : 216 ≡ 213 = ap mark same in omega (arith, e))
one_rest rest (Search bits limit ef further) (Insert id2 bits2 word2) same fa fb = absurd (let e : 216 ≡ 215 = ap mark same in omega (arith, e))
one_rest rest (Search bits limit ef further) Stats same fa fb = absurd (let e : 216 ≡ 231 = ap mark same in omega (arith, e))
one_rest rest Stats (Row id2 bits2 word2) same fa fb = absurd (let e : 231 ≡ 225 = ap mark same in omega (arith, e))
one_rest rest Stats (Query bits2) same fa fb = absurd (let e : 231 ≡ 230 = ap mark same in omega (arith, e))
one_rest rest Stats (Draw seed2) same fa fb = absurd (let e : 231 ≡ 214 = ap mark same in omega (arith, e))
one_rest rest Stats (Create ops2 bits2 m2 ef2 round2) same fa fb = absurd (let e : 231 ≡ 213 = ap mark same in omega (arith, e))
one_rest rest Stats (Insert id2 bits2 word2) same fa fb = absurd (let e : 231 ≡ 215 = ap mark same in omega (arith, e))
one_rest rest Stats (Search bits2 limit2 ef2 further2) same fa fb = absurd (let e : 231 ≡ 216 = ap mark same in omega (arith, e))

pub one_command : (words : List (List ℕ)) (a b : Command) → HasWords words a → HasWords words b → a ≡ b
one_command words a b fa fb =
    let same = sym fa.1 ∙ fb.1 in
    let rest : fa.0 ≡ fb.0 = cc (same) in
    one_rest fb.0 a b (cc (same)) (subst (λ (l : List (List ℕ)). HasRest l a) rest fa.2) fb.2

-- no verb begins with `#`, and none is empty
no_mark : (command : Command) → get_or (verb_of command) 0 0 ≡ 35 → ⊥
no_mark (Row id bits word) is = absurd (let e : 114 ≡ 35 = is in omega (arith, e))
no_mark (Query bits) is = absurd (let e : 113 ≡ 35 = is in omega (arith, e))
no_mark (Draw seed) is = absurd (let e : 100 ≡ 35 = is in omega (arith, e))
no_mark (Create ops bits m ef round) is = absurd (let e : 99 ≡ 35 = is in omega (arith, e))
no_mark (Insert id bits word) is = absurd (let e : 105 ≡ 35 = is in omega (arith, e))
no_mark (Search bits limit ef further) is = absurd (let e : 115 ≡ 35 = is in omega (arith, e))
no_mark Stats is = absurd (let e : 115 ≡ 35 = is in omega (arith, e))

no_empty : (command : Command) → [] ≡ verb_of command → ⊥
no_empty (Row id bits word) is = absurd (let e : 0 ≡ 114 = ap (λ (l : List ℕ). get_or l 0 0) is in omega (arith, e))
no_empty (Query bits) is = absurd (let e : 0 ≡ 113 = ap (λ (l : List ℕ). get_or l 0 0) is in omega (arith, e))
no_empty (Draw seed) is = absurd (let e : 0 ≡ 100 = ap (λ (l : List ℕ). get_or l 0 0) is in omega (arith, e))
no_empty (Create ops bits m ef round) is = absurd (let e : 0 ≡ 99 = ap (λ (l : List ℕ). get_or l 0 0) is in omega (arith, e))
no_empty (Insert id bits word) is = absurd (let e : 0 ≡ 105 = ap (λ (l : List ℕ). get_or l 0 0) is in omega (arith, e))
no_empty (Search bits limit ef further) is = absurd (let e : 0 ≡ 115 = ap (λ (l : List ℕ). get_or l 0 0) is in omega (arith, e))
no_empty Stats is = absurd (let e : 0 ≡ 115 = ap (λ (l : List ℕ). get_or l 0 0) is in omega (arith, e))

-- a line that is skipped has the words of no command
pub skipped_has_none : (text : List ℕ) (command : Command) → IsSkipped text → HasWords (words_of text) command → ⊥
skipped_has_none [] command skipped has = no_empty command (cc (has.1))
skipped_has_none (x ∷ us) command skipped has = at (words_of us) (ap words_of (ap (λ (n : ℕ). n ∷ us) (sym skipped)) ∙ has.1)
  where
    at : (ws : List (List ℕ)) → onto_first 35 ws ≡ verb_of command ∷ has.0 → ⊥
    at [] is = no_mark command (sym (ap first_of is))
    at (w ∷ ws) is = no_mark command (sym (ap first_of is))

pub one_line : (form : Form) (text : List ℕ) (a b : Option Command) → IsLine form text a → IsLine form text b → a ≡ b
one_line form text None None fa fb = refl
one_line form text None (Some b) fa fb = absurd (skipped_has_none text b fa fb.0)
one_line form text (Some a) None fa fb = absurd (skipped_has_none text a fb fa.0)
one_line form text (Some a) (Some b) fa fb = ap Some (one_command (words_of text) a b fa.0 fb.0)
