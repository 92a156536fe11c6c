-- How a script's bytes are cut into lines, and a line into words.
use Rattle.std.specs.Prelude.{ℕ, ◌≡◌, ◌≢◌, ◌+◌, ◌<◌, ◌==◌, Bool, Option, Some, None, List, [], ◌∷◌, ◌++◌, length, take, drop, slice_index, if◌then◌else◌}
use Rattle.std.specs.Borrow.{Bor}
use Rattle.std.specs.List.{onto_first, list_any}

abbrev pub is_line_feed : ℕ → Bool
is_line_feed byte = byte == 10

-- the lines of a text, each ended by a line feed, which the last one may lack
abbrev pub lines_of : List ℕ → List (List ℕ)
lines_of [] = []
lines_of (byte ∷ bytes) = if is_line_feed byte then [] ∷ lines_of bytes else onto_first byte (lines_of bytes)

-- a text up to its last line feed, and with it
abbrev pub closed_part : List ℕ → List ℕ
closed_part [] = []
closed_part (byte ∷ bytes) = if list_any is_line_feed (byte ∷ bytes) then byte ∷ closed_part bytes else []

-- no byte of the text is this one
abbrev pub Lacks : ℕ → List ℕ → Type 0
Lacks byte text = (k : ℕ) → k < length text → slice_index text k ≢ byte

-- the text is cut at the first such byte, which stands between the two parts
pub record IsCutAt (byte : ℕ) (text : List ℕ) (at : ℕ) : Type 0 where
  pub within : at < length text
  pub first : Lacks byte (take at text)
  pub parts : text ≡ take at text ++ byte ∷ drop (at + 1) text

abbrev pub is_space : ℕ → Bool
is_space byte = byte == 32

-- the words of a line, which one space separates: one more than it has spaces
abbrev pub words_of : List ℕ → List (List ℕ)
words_of [] = [] ∷ []
words_of (byte ∷ bytes) = if is_space byte then [] ∷ words_of bytes else onto_first byte (words_of bytes)

-- the words of what is left of a line, if anything is
abbrev pub words_left : Option (Bor (List ℕ)) → List (List ℕ)
words_left None = []
words_left (Some text) = words_of text.now
