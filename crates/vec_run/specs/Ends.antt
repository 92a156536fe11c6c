-- The status that a run ends with, and the text that is printed of it.
use Rattle.std.specs.Prelude.{ℕ, List, ◌++◌, codes, decimal}
use Rattle.vec_run.specs.declared.end.End.{End}
use Rattle.vec_run.specs.declared.end.End.TheVariants.{Done, Memory, Words, Line, Read, Write, Room}

abbrev pub status_of : End → ℕ
status_of Done = 0
status_of Memory = 1
status_of Words = 2
status_of (Line line) = 3
status_of Read = 4
status_of Write = 5
status_of Room = 7

-- the number of the line that was refused, from 1, and 0 where none was
abbrev pub line_of : End → ℕ
line_of Done = 0
line_of Memory = 0
line_of Words = 0
line_of (Line line) = line
line_of Read = 0
line_of Write = 0
line_of Room = 0

-- what is printed behind `vec_run: `; at status 0 nothing is
abbrev pub text_of : End → List ℕ
text_of Done = codes "done"
text_of Memory = codes "out of memory"
text_of Words = codes "words refused"
text_of (Line line) = codes "line " ++ decimal line ++ codes " refused"
text_of Read = codes "read fault"
text_of Write = codes "write fault"
text_of Room = codes "room used up"
