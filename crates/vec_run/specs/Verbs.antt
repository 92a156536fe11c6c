-- What the words of a run name, and what each of them does. A new word is a case of each definition here.
use Rattle.std.specs.Prelude.{ℕ, ◌≡◌, ◌⊎◌, List, [], ◌∷◌, map, codes, Option, IfSome, String, string_bytes}
use Rattle.std.specs.declared.alloc.Global.{Global}
use Rattle.vec_run.specs.declared.audit.Audit.{Audit}
use Rattle.vec_run.specs.declared.audit.Room.{Room}
use Rattle.vec_run.specs.declared.end.End.{End}
use Rattle.vec_run.specs.declared.end.End.TheVariants as end
use Rattle.vec_run.specs.declared.top.Verb.{Verb}
use Rattle.vec_run.specs.declared.top.Verb.TheVariants.{Exact, Alone}
use Rattle.vec_run.specs.Exact.{Answers, AnswersFront}
use Rattle.vec_run.specs.Runs.{IsIdle}
use Rattle.vec_run.specs.Scripts.{RunsPart, RunsToRoom, RunsWhole}
use Rattle.script_words.specs.Grammar.{IsFirstOutside}
use Rattle.script_words.specs.declared.form.Form.{Form}
use Rattle.script_words.specs.declared.form.Form.TheVariants as form

-- the words name this verb
abbrev pub IsVerb : List (String Global) → Verb → Type 0
IsVerb words Exact = map string_bytes words ≡ codes "exact" ∷ []
IsVerb words Alone = map string_bytes words ≡ codes "alone" ∷ []

-- the form of its script
abbrev pub form_of : Verb → Form
form_of Exact = form.Exact
form_of Alone = form.Rowless

-- The verb makes no call of the disks. The index of `alone` stands in memory.
abbrev pub UsesNoDisk : Verb → Type 0
UsesNoDisk Exact = Unit {0}
UsesNoDisk Alone = Unit {0}

-- The verb has done its work: what was left of the source and what the sink held, before and after, and what the run tells of itself.
abbrev pub IsDone : Verb → Option (List ℕ) → Option (List ℕ) → Option (List ℕ) → Option (List ℕ) → Audit → Type 0
IsDone Exact left left' held held' audit = Answers left left' held held' × IsIdle audit
IsDone Alone left left' held held' audit = RunsWhole left left' held held' audit

-- what was written is a front of what the verb writes
abbrev pub WritesFront : Verb → Option (List ℕ) → Option (List ℕ) → Option (List ℕ) → Option (List ℕ) → Audit → Type 0
WritesFront Exact left left' held held' audit = AnswersFront left held held' × IsIdle audit
WritesFront Alone left left' held held' audit = RunsPart left left' held held' audit

-- a command of the verb wanted room
abbrev pub WantsRoom : Verb → Option (List ℕ) → Option (List ℕ) → Option (List ℕ) → Option (List ℕ) → Audit → Option Room → Type 0
WantsRoom Exact left left' held held' audit room = ⊥
WantsRoom Alone left left' held held' audit room = RunsToRoom left left' held held' audit room

-- the line of this number, from 1, is the first of the source's bytes that is outside the verb's form
abbrev pub IsRefusedAt : Verb → Option (List ℕ) → ℕ → Type 0
IsRefusedAt verb left line = IfSome left (λ input. IsFirstOutside (form_of verb) input line)

-- What a verb has read, written and told at each end; no end of a verb is that of words which name none.
abbrev pub IsEndOf : Verb → Option (List ℕ) → Option (List ℕ) → Option (List ℕ) → Option (List ℕ) → Audit → Option Room → End → Type 0
IsEndOf verb left left' held held' audit room end.Done = IsDone verb left left' held held' audit
IsEndOf verb left left' held held' audit room end.Memory =
    ((held' ≡ held) × IsIdle audit) ⊎ WritesFront verb left left' held held' audit
IsEndOf verb left left' held held' audit room end.Words = ⊥
IsEndOf verb left left' held held' audit room (end.Line line) = IsRefusedAt verb left line × IsIdle audit
IsEndOf verb left left' held held' audit room end.Read = IsIdle audit
IsEndOf verb left left' held held' audit room end.Write = WritesFront verb left left' held held' audit
IsEndOf verb left left' held held' audit room end.Room = WantsRoom verb left left' held held' audit room
