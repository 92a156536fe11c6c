-- The script: which texts are lines of a form, and where a text first leaves it.
use Rattle.std.specs.Prelude.{ℕ, ◌≡◌, ◌⊎◌, ◌+◌, ◌-◌, ◌^◌, ◌<◌, ◌≤◌, ◌==◌, if◌then◌else◌, Bool, true, Option, Some, None, List, [], ◌∷◌, length, take}
use Rattle.std.specs.List.{AllZip, filter_map}
use Rattle.script_words.specs.Lines.{lines_of, words_of, closed_part}
use Rattle.script_words.specs.Commands.{HasWords, IsOf}
use Rattle.script_words.specs.declared.command.Command.{Command}
use Rattle.script_words.specs.declared.command.Command.TheVariants.{Row, Query, Draw, Create, Insert, Search, Stats}
use Rattle.script_words.specs.declared.form.Form.{Form}
use Rattle.script_words.specs.declared.form.Form.TheVariants.{Exact, Alone, Rowless}

-- a line that is skipped: an empty one, or one that begins with `#`
abbrev pub IsSkipped : List ℕ → Type 0
IsSkipped [] = Unit {0}
IsSkipped (byte ∷ bytes) = byte ≡ 35

-- a line of the form, and the command that it gives
abbrev pub IsLine : Form → List ℕ → Option Command → Type 0
IsLine form text None = IsSkipped text
IsLine form text (Some command) = HasWords (words_of text) command × IsOf form command

-- the commands, without the lines that are skipped
abbrev pub commands_of : List (Option Command) → List Command
commands_of lines = filter_map (λ line. line) lines

-- the number of places of a command's value, and 0 where it has none
abbrev pub places_in : Command → ℕ
places_in (Row id bits word) = length bits
places_in (Query bits) = length bits
places_in (Draw seed) = 0
places_in (Create ops bits m ef round) = 0
places_in (Insert id bits word) = length bits
places_in (Search bits limit ef further) = length bits
places_in Stats = 0

-- the numbers of places of the lines that have a command
abbrev pub lengths_of : List (Option Command) → List ℕ
lengths_of [] = []
lengths_of (None ∷ lines) = lengths_of lines
lengths_of (Some command ∷ lines) = places_in command ∷ lengths_of lines

abbrev pub AllAre : ℕ → List ℕ → Type 0
AllAre n [] = Unit {0}
AllAre n (m ∷ ms) = (m ≡ n) × AllAre n ms

-- all are equal to the first
abbrev pub AreEqual : List ℕ → Type 0
AreEqual [] = Unit {0}
AreEqual (n ∷ ns) = AllAre n ns

-- in `exact` all values have one length
abbrev pub AreLengthsOf : Form → List ℕ → Type 0
AreLengthsOf Exact lengths = AreEqual lengths
AreLengthsOf Alone lengths = Unit {0}
AreLengthsOf Rowless lengths = Unit {0}

-- texts that are lines of the form
pub record IsForm (form : Form) (texts : List (List ℕ)) (lines : List (Option Command)) : Type 0 where
  pub each : AllZip (IsLine form) texts lines
  pub one_length : AreLengthsOf form (lengths_of lines)

-- a script: at most 2^28 bytes, whose lines are of the form
pub record IsScript (form : Form) (bytes : List ℕ) (commands : List Command) : Type 0 where
  pub lines : List (Option Command)
  pub few : length bytes ≤ 2 ^ 28
  pub whole : IsForm form (lines_of bytes) lines
  pub gives : commands ≡ commands_of lines

-- text k, from 1, is the first with which the texts leave the form
pub record BreaksAt (form : Form) (texts : List (List ℕ)) (k : ℕ) : Type 0 where
  pub lines : List (Option Command)
  pub counted : 1 ≤ k
  pub within : k ≤ length texts
  pub before : IsForm form (take (k - 1) texts) lines
  pub broken : (others : List (Option Command)) → ¬ IsForm form (take k texts) others

-- one of these texts is the first that is outside, or the text after them
abbrev pub BreaksBy : Form → List (List ℕ) → ℕ → Type 0
BreaksBy form texts k = BreaksAt form texts k ⊎ ((k ≡ length texts + 1) × ((lines : List (Option Command)) × IsForm form texts lines))

-- Line k, from 1, is the first that is outside the form. The line that holds byte 2^28 + 1 is outside.
abbrev pub IsFirstOutside : Form → List ℕ → ℕ → Type 0
IsFirstOutside form bytes k = ((length bytes ≤ 2 ^ 28) × BreaksAt form (lines_of bytes) k)
    ⊎ ((2 ^ 28 < length bytes) × BreaksBy form (lines_of (closed_part (take (2 ^ 28) bytes))) k)

-- ---- the numbers of lines

abbrev pub is_skipped : List ℕ → Bool
is_skipped [] = true
is_skipped (byte ∷ bytes) = byte == 35

-- the numbers of the lines that have a command, where the first of these texts is line `next`
abbrev pub command_lines : ℕ → List (List ℕ) → List ℕ
command_lines next [] = []
command_lines next (text ∷ texts) =
    if is_skipped text then command_lines (next + 1) texts else next ∷ command_lines (next + 1) texts

-- ---- while a script is read

-- these texts are of the form, and give these commands; the line behind them has this number, from 1
pub record Reads (form : Form) (texts : List (List ℕ)) (commands : List Command) (next : ℕ) : Type 0 where
  pub lines : List (Option Command)
  pub whole : IsForm form texts lines
  pub gives : commands ≡ commands_of lines
  pub counted : next ≡ length texts + 1

-- a value of so many places may follow values of these
abbrev pub FitsAfter : Form → List ℕ → ℕ → Type 0
FitsAfter Exact [] m = Unit {0}
FitsAfter Exact (n ∷ ns) m = m ≡ n
FitsAfter Alone ns m = Unit {0}
FitsAfter Rowless ns m = Unit {0}
