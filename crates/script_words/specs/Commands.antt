-- The words of each command of a script, and which form has which commands.
use Rattle.std.specs.Prelude.{ℕ, ◌≡◌, ◌^◌, ◌<◌, ◌≤◌, Bool, Option, Some, None, List, [], ◌∷◌, ◌++◌, codes, decimal}
use Rattle.vec_names.specs.declared.heap_id.HeapId.{HeapId}
use Rattle.vec_names.specs.declared.params.Ops.{Ops}
use Rattle.vec_names.specs.declared.params.Ops.TheVariants.{Hamming, Jaccard}
use Rattle.bit_code.specs.Texts.{IsBitText, places_of_text}
use Rattle.script_words.specs.declared.command.Command.{Command}
use Rattle.script_words.specs.declared.command.Command.TheVariants.{Row, Query, Draw, Create, Insert, Search, Stats}
use Rattle.script_words.specs.declared.command.Further.{Further}
use Rattle.script_words.specs.declared.command.Further.TheVariants.{Relaxed, Strict}
use Rattle.script_words.specs.declared.form.Form.{Form}
use Rattle.script_words.specs.declared.form.Form.TheVariants.{Exact, Alone, Rowless}

-- ID: B/O, in decimal
abbrev pub id_word : HeapId → List ℕ
id_word id = decimal id.block ++ 47 ∷ decimal id.off

-- a block of 0 to 4294967294 and an offset of 1 to 65535
pub record IsRowId (id : HeapId) : Type 0 where
  pub block_fits : id.block < 4294967295
  pub off_fits : id.off < 65536
  pub off_some : 1 ≤ id.off

-- BITS: 1 to 64,000 characters 0 and 1
abbrev pub IsBits : List ℕ → List Bool → Type 0
IsBits text bits = IsBitText text × (bits ≡ places_of_text text)

-- N: a number of 64 bits, in decimal
abbrev pub IsNumber : ℕ → Type 0
IsNumber n = n < 2 ^ 64

abbrev pub IsNumberIf : Option ℕ → Type 0
IsNumberIf None = Unit {0}
IsNumberIf (Some n) = IsNumber n

-- [N]
abbrev pub maybe : Option ℕ → List (List ℕ)
maybe None = []
maybe (Some n) = decimal n ∷ []

-- [NAME N]
abbrev pub named : List ℕ → Option ℕ → List (List ℕ)
named name None = []
named name (Some n) = name ∷ decimal n ∷ []

-- OPS
abbrev pub ops_word : Ops → List ℕ
ops_word Hamming = codes "hamming"
ops_word Jaccard = codes "jaccard"

-- [relaxed [N]] or [strict [N]]
abbrev pub further_words : Option Further → List (List ℕ)
further_words None = []
further_words (Some (Relaxed most)) = codes "relaxed" ∷ maybe most
further_words (Some (Strict most)) = codes "strict" ∷ maybe most

abbrev pub IsFurther : Option Further → Type 0
IsFurther None = Unit {0}
IsFurther (Some (Relaxed most)) = IsNumberIf most
IsFurther (Some (Strict most)) = IsNumberIf most

-- ID BITS [N]
pub record IsGivenRow (words : List (List ℕ)) (id : HeapId) (bits : List Bool) (word : Option ℕ) : Type 0 where
  pub text : List ℕ
  pub spelled : words ≡ id_word id ∷ text ∷ maybe word
  pub is_id : IsRowId id
  pub is_bits : IsBits text bits
  pub is_word : IsNumberIf word

-- OPS N [m N] [ef N] [round N]
pub record IsCreate (words : List (List ℕ)) (ops : Ops) (bits : ℕ) (m ef round : Option ℕ) : Type 0 where
  pub spelled : words ≡ ops_word ops ∷ decimal bits ∷ (named (codes "m") m ++ (named (codes "ef") ef ++ named (codes "round") round))
  pub is_bits : IsNumber bits
  pub is_m : IsNumberIf m
  pub is_ef : IsNumberIf ef
  pub is_round : IsNumberIf round

-- BITS limit N [ef N] [relaxed [N]], or strict in its place
pub record IsSearch (words : List (List ℕ)) (bits : List Bool) (limit : ℕ) (ef : Option ℕ) (further : Option Further) : Type 0 where
  pub text : List ℕ
  pub spelled : words ≡ text ∷ codes "limit" ∷ decimal limit ∷ (named (codes "ef") ef ++ further_words further)
  pub is_bits : IsBits text bits
  pub is_limit : IsNumber limit
  pub is_ef : IsNumberIf ef
  pub is_further : IsFurther further

-- BITS
pub record IsValue (words : List (List ℕ)) (bits : List Bool) : Type 0 where
  pub text : List ℕ
  pub spelled : words ≡ text ∷ []
  pub is_bits : IsBits text bits

-- the first word of a command
abbrev pub verb_of : Command → List ℕ
verb_of (Row id bits word) = codes "row"
verb_of (Query bits) = codes "query"
verb_of (Draw seed) = codes "draw"
verb_of (Create ops bits m ef round) = codes "create"
verb_of (Insert id bits word) = codes "insert"
verb_of (Search bits limit ef further) = codes "search"
verb_of Stats = codes "stats"

-- the words behind it
abbrev pub HasRest : List (List ℕ) → Command → Type 0
HasRest rest (Row id bits word) = IsGivenRow rest id bits word
HasRest rest (Query bits) = IsValue rest bits
HasRest rest (Draw seed) = (rest ≡ decimal seed ∷ []) × IsNumber seed
HasRest rest (Create ops bits m ef round) =
    (words : List (List ℕ)) × (rest ≡ codes "hnsw" ∷ words) × IsCreate words ops bits m ef round
HasRest rest (Insert id bits word) = IsGivenRow rest id bits word
HasRest rest (Search bits limit ef further) = IsSearch rest bits limit ef further
HasRest rest Stats = rest ≡ []

-- the words are those of the command
abbrev pub HasWords : List (List ℕ) → Command → Type 0
HasWords words command = (rest : List (List ℕ)) × (words ≡ verb_of command ∷ rest) × HasRest rest command

-- The form has this command. In `Exact` a row has no word of its own. `Rowless` has those of `Alone` but for rows.
abbrev pub IsOf : Form → Command → Type 0
IsOf Exact (Row id bits None) = Unit {0}
IsOf Exact (Row id bits (Some word)) = ⊥
IsOf Exact (Query bits) = Unit {0}
IsOf Exact (Draw seed) = ⊥
IsOf Exact (Create ops bits m ef round) = ⊥
IsOf Exact (Insert id bits word) = ⊥
IsOf Exact (Search bits limit ef further) = ⊥
IsOf Exact Stats = ⊥
IsOf Alone (Row id bits word) = Unit {0}
IsOf Alone (Query bits) = ⊥
IsOf Alone (Draw seed) = Unit {0}
IsOf Alone (Create ops bits m ef round) = Unit {0}
IsOf Alone (Insert id bits word) = Unit {0}
IsOf Alone (Search bits limit ef further) = Unit {0}
IsOf Alone Stats = Unit {0}
IsOf Rowless (Row id bits word) = ⊥
IsOf Rowless (Query bits) = ⊥
IsOf Rowless (Draw seed) = Unit {0}
IsOf Rowless (Create ops bits m ef round) = Unit {0}
IsOf Rowless (Insert id bits word) = Unit {0}
IsOf Rowless (Search bits limit ef further) = Unit {0}
IsOf Rowless Stats = Unit {0}
