-- Bodies without loops.
use Rattle.std.specs.Prelude.{List, [], ◌∷◌}
use Rattle.ls_checked.specs.CheckedTree.{File, Method, Statement, Block, SetSlot, SetField, AddField, SetItem}
use Rattle.ls_checked.specs.CheckedTree.{Evaluate}
use Rattle.ls_checked.specs.CheckedTree.{If, While, Break, Continue, ReturnNothing, ReturnValue, Try, Statements, Done}
use Rattle.ls_checked.specs.CheckedTree.{Then}
use Rattle.ls_checked.specs.CheckedProgram.{Program}
use Rattle.ls_endless_calls.specs.Turning.{NoneTurnsUnexcused}
use Rattle.ls_spinning.specs.Turning.{NeverTurns}

abbrev mutual
  -- no `while` (JLS 14.12) is in the statement; `for` is written with it
  pub IsLoopless : Statement → Type 0
  IsLoopless (Block ss) = AreLoopless ss
  IsLoopless (If e a b) = IsLoopless a × IsLoopless b
  IsLoopless (While e s) = ⊥
  IsLoopless (Try b f) = IsLoopless b × IsLoopless f
  IsLoopless (SetSlot n e) = Unit {0}
  IsLoopless (SetField e f v) = Unit {0}
  IsLoopless (AddField e f v) = Unit {0}
  IsLoopless (SetItem a i v) = Unit {0}
  IsLoopless (Evaluate e) = Unit {0}
  IsLoopless (Break n) = Unit {0}
  IsLoopless (Continue n) = Unit {0}
  IsLoopless ReturnNothing = Unit {0}
  IsLoopless (ReturnValue e) = Unit {0}

  -- nor in statements
  pub AreLoopless : Statements → Type 0
  AreLoopless Done = Unit {0}
  AreLoopless (Then s ss) = IsLoopless s × AreLoopless ss

-- in no body of the methods
abbrev pub HaveNoLoops : List Method → Type 0
HaveNoLoops [] = Unit {0}
HaveNoLoops (m ∷ ms) = IsLoopless m.body × HaveNoLoops ms

-- in none of the file
abbrev pub HasNoLoops : File → Type 0
HasNoLoops file = HaveNoLoops file.methods

-- then no threads turn for ever
abbrev pub LooplessNeverTurn : Type 0
LooplessNeverTurn = (file : File) (program : Program) → HasNoLoops file → NeverTurns file program

-- so none do in calls that end where calls of a specification run one at a time
abbrev pub LooplessTurnExcused : Type 0
LooplessTurnExcused =
    (sfile : File) (sprogram : Program) (file : File) (program : Program) → HasNoLoops file →
    NoneTurnsUnexcused sfile sprogram file program
