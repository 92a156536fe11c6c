-- What the parts of the reader tell of words. No rule of the grammar is stated here.
use Rattle.std.specs.Prelude.{ℕ, ◌≡◌, Option, None, List, [], ◌∷◌, ◌++◌, codes}
use Rattle.script_words.specs.Commands.{IsNumberIf, named, verb_of, HasRest}
use Rattle.script_words.specs.declared.command.Command.{Command}
use Rattle.script_words.specs.declared.command.Command.TheVariants.{Row, Query, Draw, Create, Insert, Search, Stats}

abbrev pub BeginsWith : List ℕ → List (List ℕ) → Type 0
BeginsWith name [] = ⊥
BeginsWith name (word ∷ words) = word ≡ name

-- Words begin with a name and its number, and then come the others. Where the number is left out, the others begin with no such name.
pub record IsNamedNext (words : List (List ℕ)) (name : List ℕ) (n : Option ℕ) (rest : List (List ℕ)) : Type 0 where
  pub spelled : words ≡ named name n ++ rest
  pub is_number : IsNumberIf n
  pub left_out : n ≡ None → BeginsWith name rest → ⊥

-- the words behind a first word are those of this command
abbrev pub IsBehind : List ℕ → List (List ℕ) → Command → Type 0
IsBehind verb rest command = (verb_of command ≡ verb) × HasRest rest command

-- [m N] [ef N] [round N]
pub record AreNumbers (words : List (List ℕ)) (m ef round : Option ℕ) : Type 0 where
  pub spelled : words ≡ named (codes "m") m ++ (named (codes "ef") ef ++ named (codes "round") round)
  pub is_m : IsNumberIf m
  pub is_ef : IsNumberIf ef
  pub is_round : IsNumberIf round

-- the command brings no value
abbrev pub HasNoValue : Command → Type 0
HasNoValue (Row id bits word) = ⊥
HasNoValue (Query bits) = ⊥
HasNoValue (Draw seed) = Unit {0}
HasNoValue (Create ops bits m ef round) = Unit {0}
HasNoValue (Insert id bits word) = ⊥
HasNoValue (Search bits limit ef further) = ⊥
HasNoValue Stats = Unit {0}
