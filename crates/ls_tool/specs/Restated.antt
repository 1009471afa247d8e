-- What `java` answers of one Java file, and what other commands read in the place of one.
use Rattle.std.specs.Prelude.{◌≡◌, List, [], ◌∷◌, Option, Some, None, Result, Ok, Err, string_bytes}
use Rattle.ls_report.specs.Events.{Text}
use Rattle.ls_command_line.specs.declared.words.Request.{Request}
use Rattle.ls_command_line.specs.declared.words.Request.TheVariants as requests
use Rattle.ls_java.specs.Accepted.{IsAccepted, IsRestatement, Places}
use Rattle.ls_page.specs.Java.{java_text}
use Rattle.ls_files.specs.Joining.{with_first}
use Rattle.ls_faults.specs.declared.fault.ToolFault.{ToolFault}
use Rattle.ls_faults.specs.declared.fault.ToolFault.TheVariants as faults
use Rattle.ls_tool.specs.declared.refusal.Refusal.{Refusal}
use Rattle.ls_tool.specs.declared.refusal.Refusal.TheVariants as refusals
use Rattle.ls_tool.specs.declared.said.Said.{Said}

-- One file is restated, and none of the faults of other commands is told of it. Of more parts there is nothing to
-- restate.
abbrev pub WantsOne : List Text → Result Text ToolFault → Type 0
WantsOne (file ∷ []) answer = ⊥
WantsOne other answer = answer ≡ Err faults.WrongParts

-- what is printed of these parts is a class text that keeps every rule
abbrev pub IsRestated : List Text → Text → Type 0
IsRestated (file ∷ []) text = IsAccepted text
IsRestated other text = ⊥

-- such a text is printed; or it is told what can't be restated; or memory ran out
abbrev pub Restates : Result Said Refusal → Type 0
Restates (Ok said) = (said.status ≡ 0) × IsAccepted (string_bytes said.text)
Restates (Err (refusals.BadLine e)) = ⊥
Restates (Err (refusals.Fault f)) = f ≡ faults.Memory
Restates (Err (refusals.Explained told)) = Unit {0}

-- of one file such an answer, and of other parts none
abbrev pub RestatesParts : List Text → Option (Result Said Refusal) → Type 0
RestatesParts (file ∷ []) None = ⊥
RestatesParts (file ∷ []) (Some answer) = Restates answer
RestatesParts other answer = answer ≡ None

-- what stands behind the text that a command prints of a Java file: of a page the file, and where the words of its
-- class text come from
abbrev pub behind_of : Request → Text → Places → Text
behind_of (requests.Page paging) file places = java_text file places
behind_of other file places = []

-- The class text of a Java file in the place of the first part of an input. Its words stand at these places, come from
-- tokens of the file, and stand on their lines. This stands behind the text that is printed.
pub record Replaces (request : Request) (file input more behind : Text) : Type 0 where
  pub text : Text
  pub places : Places
  pub restated : IsRestatement file text places
  pub is : more ≡ with_first text input
  pub stands : behind ≡ behind_of request file places
