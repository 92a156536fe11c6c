-- What a run of `exact` does to its source and its sink.
use Rattle.std.specs.Prelude.{ℕ, ◌≡◌, ◌⊎◌, ◌+◌, ◌^◌, ◌<◌, ◌≤◌, Bool, IsTrue, List, ◌++◌, length, take, Option, IfSome}
use Rattle.std.specs.Io.KnownBytes.{Appends, Consumes, IsAtEnd}
use Rattle.script_words.specs.declared.command.Command.{Command}
use Rattle.script_words.specs.Grammar.{IsScript}
use Rattle.vec_run.specs.Replies.{replies_of}
use Rattle.script_words.specs.declared.form.Form.TheVariants as form

-- known bytes lose at most so many from their front
abbrev pub TakesAtMost : ℕ → Option (List ℕ) → Option (List ℕ) → Type 0
TakesAtMost most left left' = (taken : List ℕ) × (length taken ≤ most) × Consumes left left' taken

-- Known bytes lose a front, which goes to the end of others. Nothing goes only at the end.
pub record ReadsMore (left left' : Option (List ℕ)) (bytes bytes' : List ℕ) (more : Bool) : Type 0 where
  pub piece : List ℕ
  pub taken : Consumes left left' piece
  pub placed : bytes' ≡ bytes ++ piece
  pub few : length bytes' ≤ 2 ^ 28 + 1
  pub some : IsTrue more → 0 < length piece
  pub ended : IsTrue more ⊎ IsAtEnd left'

-- known bytes grow by a front of these
abbrev pub AppendsFront : Option (List ℕ) → Option (List ℕ) → List ℕ → Type 0
AppendsFront held held' text = (count : ℕ) × (count ≤ length text) × Appends held held' (take count text)

-- a front of gathered bytes was written, and the rest is left
pub record MovesFront (held held' : Option (List ℕ)) (gathered left : List ℕ) : Type 0 where
  pub written : List ℕ
  pub sent : Appends held held' written
  pub parts : gathered ≡ written ++ left

-- The source was read to its end. Its bytes are a script, and what was written are the replies to its commands.
abbrev pub Answers : Option (List ℕ) → Option (List ℕ) → Option (List ℕ) → Option (List ℕ) → Type 0
Answers left left' held held' = IfSome left (λ input.
    IsAtEnd left' × ((commands : List Command) × IsScript form.Exact input commands × Appends held held' (replies_of commands)))

-- The source's bytes are a script, and what was written is a front of the replies to its commands.
abbrev pub AnswersFront : Option (List ℕ) → Option (List ℕ) → Option (List ℕ) → Type 0
AnswersFront left held held' = IfSome left (λ input.
    (commands : List Command) × IsScript form.Exact input commands × AppendsFront held held' (replies_of commands))
