-- The tuples of a graph are spelled in bytes.
use Rattle.std.proofs.Common.{ℕ, zero, suc, ◌/◌, ◌%◌, ◌<◌, ◌≤◌, Bool, true, false, List, [], ◌∷◌, ◌++◌, length, Option, Some, None, arith}
use Rattle.std.specs.Prelude.{flat_map}
use Rattle.std.specs.List.{All}
use Rattle.std.specs.Int.{w16, w32, to_le_bytes, byte_at}
use Rattle.std.proofs.lemmas.List.Elements.{All-append, All-cons, All-nil}
use Rattle.bit_code.specs.Places.{packed}
use Rattle.bit_code.proofs.ExactPacking.{packed-below}
use Rattle.vec_names.specs.declared.tid.Tid.{Tid}
use Rattle.vec_names.specs.declared.heap_id.HeapId.{HeapId}
use Rattle.vec_names.specs.declared.params.Kind.{Kind}
use Rattle.vec_names.specs.declared.params.Kind.TheVariants.{Hnsw, Ivf}
use Rattle.vec_names.specs.declared.params.Ops.{Ops}
use Rattle.vec_names.specs.declared.params.Ops.TheVariants.{Hamming, Jaccard}
use Rattle.vec_names.specs.declared.params.Params.{Params}
use Rattle.vec_names.specs.Pointer.{pointer_bytes, no_block, tid_bytes, tid_option_bytes, heap_id_bytes, heap_id_option_bytes}
use Rattle.vec_tuples.specs.declared.meta.Meta.{Meta}
use Rattle.vec_tuples.specs.declared.element.Element.{Element}
use Rattle.vec_tuples.specs.declared.element.ElementHead.{ElementHead}
use Rattle.vec_tuples.specs.declared.links.Links.{Links}
use Rattle.vec_tuples.specs.Spelling.{magic, kind_byte, ops_byte, params_bytes, meta_bytes, length_word, bits_bytes, links_kind, links_bytes, deleted_byte, rows_bytes, head_bytes, head_of_element, element_bytes}

abbrev pub AllBytes : List ℕ → Type 0
AllBytes x = All (λ b. b < 256) x

none : AllBytes []
none = All-nil (λ b. b < 256)

pub one : (b : ℕ) (x : List ℕ) → b < 256 → AllBytes x → AllBytes (b ∷ x)
one b x low rest = All-cons (λ b. b < 256) b x low rest

pub both : (x y : List ℕ) → AllBytes x → AllBytes y → AllBytes (x ++ y)
both x y a b = All-append (λ b. b < 256) x y a b

two_bytes : (a b : ℕ) → a < 256 → b < 256 → AllBytes (a ∷ b ∷ [])
two_bytes a b la lb = one a (b ∷ []) la (one b [] lb none)

four_bytes : (a b c d : ℕ) → a < 256 → b < 256 → c < 256 → d < 256 → AllBytes (a ∷ b ∷ c ∷ d ∷ [])
four_bytes a b c d la lb lc ld = one a (b ∷ c ∷ d ∷ []) la (one b (c ∷ d ∷ []) lb (two_bytes c d lc ld))

byte_low : (k n : ℕ) → byte_at k n < 256
byte_low zero n = omega arith
byte_low (suc k) n = omega arith

pub half : (n : ℕ) → AllBytes (to_le_bytes w16 n)
half n = two_bytes (n % 256) (byte_at 1 n) (omega arith) (byte_low 1 n)

pub word : (n : ℕ) → AllBytes (to_le_bytes w32 n)
word n = four_bytes (n % 256) (byte_at 1 n) (byte_at 2 n) (byte_at 3 n) (omega arith) (byte_low 1 n) (byte_low 2 n) (byte_low 3 n)

pub pointer : (block off : ℕ) → AllBytes (pointer_bytes block off)
unfolding pointer_bytes
pointer block off =
    both (to_le_bytes w16 (block / 65536)) (to_le_bytes w16 (block % 65536) ++ to_le_bytes w16 off) (half (block / 65536))
    (both (to_le_bytes w16 (block % 65536)) (to_le_bytes w16 off) (half (block % 65536)) (half off))

slot : (o : Option Tid) → AllBytes (tid_option_bytes o)
slot None = pointer no_block 0
slot (Some t) = pointer t.block t.off

slots : (tids : List (Option Tid)) → AllBytes (flat_map tid_option_bytes tids)
slots [] = none
slots (t ∷ tids) = both (tid_option_bytes t) (flat_map tid_option_bytes tids) (slot t) (slots tids)

rows : (n : ℕ) (ids : List HeapId) → AllBytes (rows_bytes n ids)
unfolding rows_bytes
rows zero ids = none
rows (suc n) [] = both (heap_id_option_bytes None) (rows_bytes n []) (pointer no_block 0) (rows n [])
rows (suc n) (id ∷ ids) = both (heap_id_bytes id) (rows_bytes n ids) (pointer id.block id.off) (rows n ids)

pub value : (bits : List Bool) → AllBytes (bits_bytes bits)
value bits =
    both (to_le_bytes w32 (length_word (length bits))) (to_le_bytes w32 (length bits) ++ packed bits) (word (length_word (length bits)))
    (both (to_le_bytes w32 (length bits)) (packed bits) (word (length bits)) (packed-below bits))

of_deleted : (deleted : Bool) → deleted_byte deleted < 256
of_deleted true = omega arith
of_deleted false = omega arith

of_links : (deleted : Bool) → links_kind deleted < 256
of_links true = omega arith
of_links false = omega arith

of_kind : (kind : Kind) → kind_byte kind < 256
of_kind Hnsw = omega arith
of_kind Ivf = omega arith

of_ops : (ops : Ops) → ops_byte ops < 256
of_ops Hamming = omega arith
of_ops Jaccard = omega arith

head_all : (h : ElementHead) → h.level ≤ 255 → h.version ≤ 255 → AllBytes (head_bytes h)
unfolding head_bytes
head_all h level version =
    let rest : List ℕ = tid_bytes h.list_at ++ (0 ∷ 0 ∷ []) in
    one 1 (h.level ∷ deleted_byte h.deleted ∷ h.version ∷ (rows_bytes 10 h.ids.items ++ rest)) (omega arith)
    (one h.level (deleted_byte h.deleted ∷ h.version ∷ (rows_bytes 10 h.ids.items ++ rest)) (omega (arith, level))
    (one (deleted_byte h.deleted) (h.version ∷ (rows_bytes 10 h.ids.items ++ rest)) (of_deleted h.deleted)
    (one h.version (rows_bytes 10 h.ids.items ++ rest) (omega (arith, version))
    (both (rows_bytes 10 h.ids.items) rest (rows 10 h.ids.items)
    (both (tid_bytes h.list_at) (0 ∷ 0 ∷ []) (pointer h.list_at.block h.list_at.off) (two_bytes 0 0 (omega arith) (omega arith)))))))

pub element_all : (e : Element) → e.level ≤ 255 → e.version ≤ 255 → AllBytes (element_bytes e)
unfolding element_bytes
element_all e level version =
    both (head_bytes (head_of_element e)) (bits_bytes e.bits) (head_all (head_of_element e) level version) (value e.bits)

pub links_all : (l : Links) → l.version ≤ 255 → AllBytes (links_bytes l)
unfolding links_bytes
links_all l version =
    let rest : List ℕ = to_le_bytes w16 (length l.tids) ++ flat_map tid_option_bytes l.tids in
    one (links_kind l.deleted) (l.version ∷ rest) (of_links l.deleted)
    (one l.version rest (omega (arith, version)) (both (to_le_bytes w16 (length l.tids)) (flat_map tid_option_bytes l.tids) (half (length l.tids)) (slots l.tids)))

params_all : (p : Params) → AllBytes (params_bytes p)
params_all p =
    let c : List ℕ = to_le_bytes w16 p.ef ++ to_le_bytes w32 p.lists in
    let b : List ℕ = to_le_bytes w16 p.m ++ c in
    let a : List ℕ = to_le_bytes w32 p.bits ++ b in
    one (kind_byte p.kind) (ops_byte p.ops ∷ a) (of_kind p.kind)
    (one (ops_byte p.ops) a (of_ops p.ops)
    (both (to_le_bytes w32 p.bits) b (word p.bits)
    (both (to_le_bytes w16 p.m) c (half p.m) (both (to_le_bytes w16 p.ef) (to_le_bytes w32 p.lists) (half p.ef) (word p.lists)))))

pub meta_all : (m : Meta) → m.level ≤ 255 → AllBytes (meta_bytes m)
unfolding meta_bytes
meta_all m level =
    let d : List ℕ = m.level ∷ 0 ∷ to_le_bytes w32 m.hint in
    let c : List ℕ = tid_option_bytes m.entry ++ d in
    let b : List ℕ = params_bytes m.params ++ c in
    let a : List ℕ = to_le_bytes w16 m.format ++ b in
    both (to_le_bytes w32 magic) a (word magic)
    (both (to_le_bytes w16 m.format) b (half m.format)
    (both (params_bytes m.params) c (params_all m.params)
    (both (tid_option_bytes m.entry) d (slot m.entry)
    (one m.level (0 ∷ to_le_bytes w32 m.hint) (omega (arith, level)) (one 0 (to_le_bytes w32 m.hint) (omega arith) (word m.hint))))))
