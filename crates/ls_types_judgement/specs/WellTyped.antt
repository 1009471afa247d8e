-- The judgement of checked files and of thread programs.
use Rattle.ls_checked.specs.CheckedTree.{File}
use Rattle.ls_checked.specs.CheckedProgram.{Program}
use Rattle.ls_meaning.specs.Constants.{FileHasConstants, ProgramHasConstants}
use Rattle.ls_types_judgement.specs.Typing.{IsTypedFile}
use Rattle.ls_types_judgement.specs.Classes.{HasItsClasses}
use Rattle.ls_types_judgement.specs.Jumps.{HasItsLoops, HasItsEnds}
use Rattle.ls_types_judgement.specs.Limits.{IsRanged, IsRangedProgram}
use Rattle.ls_types_judgement.specs.Programs.{IsTypedProgram}

-- what each checked file keeps
pub record IsWellTyped (file : File) : Type 0 where
  -- each expression and statement has operands of the right types, and each slot, field, method and constructor exists
  pub typed : IsTypedFile file
  -- each method and constructor is one of a class of the file
  pub classes : HasItsClasses file
  -- a constant is an int, a boolean or null (JLS 15.8.1)
  pub constants : FileHasConstants file
  -- each break and each continue has its loop (JLS 14.15, 14.16)
  pub loops : HasItsLoops file
  -- a method that answers a value ends with one (JLS 8.4.7)
  pub ends : HasItsEnds file
  -- no limit of the language is passed
  pub limits : IsRanged file

-- what each thread program keeps that is read for a checked file
pub record IsWellTypedProgram (file : File) (program : Program) : Type 0 where
  -- each name, class and method of a call exists, and the call has the right arguments
  pub typed : IsTypedProgram file program
  -- an argument is an int or a boolean
  pub constants : ProgramHasConstants program
  -- no limit of thread programs is passed
  pub limits : IsRangedProgram program
