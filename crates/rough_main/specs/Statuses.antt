-- The numbers of the statuses with which the program ends.
use Rattle.std.specs.Prelude.{ℕ}
use Rattle.rough_main.specs.declared.status.Status.{Status}
use Rattle.rough_main.specs.declared.status.Status.TheVariants.{Answered, WordsRefused, ScriptRefused, ReadFailed, WriteFailed, NoMemory}

-- the number of a status; 1 is none, since a program that is broken off may end with it
abbrev pub code_of : Status → ℕ
code_of Answered = 0
code_of WordsRefused = 2
code_of ScriptRefused = 3
code_of ReadFailed = 4
code_of WriteFailed = 5
code_of NoMemory = 6
