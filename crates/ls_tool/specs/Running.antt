-- How a run ends, whose input may begin with a Java file.
use Rattle.std.specs.Prelude.{◌≡◌, ◌&&◌, Bool, true, false, List, [], ◌∷◌, Option, Some, None}
use Rattle.std.specs.Io.KnownBytes.{Appends}
use Rattle.ls_command_line.specs.declared.words.CommandLine.{CommandLine}
use Rattle.ls_command_line.specs.declared.words.Request.{Request}
use Rattle.ls_faults.specs.Faults.{fault_line}
use Rattle.ls_faults.specs.declared.fault.ToolFault.TheVariants as faults
use Rattle.ls_files.specs.Names.{file_names_in}
use Rattle.ls_items.specs.Parts.{is_text, parts_of}
use Rattle.ls_report.specs.Events.{Text}
use Rattle.ls_tool.specs.Output.{Asks, Ends, Left, Shows, Tells, Usage, left, read_as}
use Rattle.ls_tool.specs.Restated.{Replaces}
use Rattle.ls_tool.specs.declared.running.Exit.{Exit}

abbrev pub first_of : List Text → Text
first_of [] = []
first_of (part ∷ parts) = part

-- an input with the class text of its first part, which is a Java file, in the place of that part, and what stands
-- behind the text that is printed of it
abbrev pub RestatesFirst : Option (List Text) → Request → Text → Text → Text → Type 0
RestatesFirst names request input more behind =
    Replaces request (first_of (parts_of (read_as names input))) input more behind

-- whether the first part of an input is read as a Java file
abbrev pub restates : CommandLine → Text → Bool
restates l input = l.java && is_text input

-- How a run ends: as what it reads, and else as the input in which the class text stands in the place of the Java file,
-- after what is told of how that was restated, and with what stands behind the text that is printed. Or it is told why
-- there is no class text. What is told of it isn't said. Words that ask for nothing end it, and so does a reader that
-- fails, or that memory ran out.
pub data Runs (words : List Text) (input : Text) (exit : Exit) (out err : Left) : Type 0 where
  AsRead : (l : CommandLine) →
      Asks words (Some l) →
      restates l input ≡ false →
      Ends words input [] exit out err →
      Runs words input exit out err
  AsRestated : (l : CommandLine) (more behind notes : Text) (between : Option Text) →
      Asks words (Some l) →
      restates l input ≡ true →
      RestatesFirst (file_names_in words) l.request input more behind →
      Appends err.old between notes →
      Ends words more behind exit out (left between err.new err.has_failed) →
      Runs words input exit out err
  Unrestated : (l : CommandLine) (lines : Text) →
      Asks words (Some l) →
      restates l input ≡ true →
      Shows (Tells lines) exit out err →
      Runs words input exit out err
  Unasked : Asks words None → Shows Usage exit out err → Runs words input exit out err
  Unread : (l : CommandLine) →
      Asks words (Some l) →
      Shows (Tells (fault_line faults.ReadFailed)) exit out err →
      Runs words input exit out err
  Unable : Shows (Tells (fault_line faults.Memory)) exit out err → Runs words input exit out err
