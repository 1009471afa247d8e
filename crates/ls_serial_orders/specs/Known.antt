-- A program of a file, and its states between calls.
use Rattle.std.specs.Prelude.{◌≡◌, ℕ, true, Option, Some, None}
use Rattle.ls_checked.specs.CheckedTree.{File}
use Rattle.ls_checked.specs.CheckedProgram.{Program}
use Rattle.ls_checked.specs.Plain.{plain_file}
use Rattle.ls_checked.specs.PlainProgram.{plain_program}
use Rattle.ls_serial_search.specs.Open.{HasLongCall, HasManyOrders}
use Rattle.ls_serial_search.specs.Told.{usual}
use Rattle.ls_automaton.specs.Tables.{AreOutcomes}
use Rattle.ls_automaton.specs.declared.table.Table.{Table}
use Rattle.ls_serial_orders.specs.declared.finding.Known.{Known}

abbrev pub file_of : Known → File
file_of known = plain_file known.file.now

abbrev pub program_of : Known → Program
program_of known = plain_program known.program.now

-- a table has at most so many states
abbrev pub most_states : ℕ
most_states = 32000

-- In its states calls do what they do in the program. If it says that a call goes on, one does.
pub record IsTableOf (file : File) (program : Program) (t : Table) : Type 0 where
  pub are : AreOutcomes file program usual.steps t.goes_on t.rows.items
  pub long : t.goes_on ≡ true → HasLongCall file program usual.steps

-- There is none if there are too many states: then there are more serial histories than so many, too.
abbrev pub IsTable : File → Program → Option Table → Type 0
IsTable file program None = HasManyOrders file program most_states
IsTable file program (Some t) = IsTableOf file program t

abbrev pub IsKnown : Known → Type 0
IsKnown known = IsTable (file_of known) (program_of known) known.table

-- it is that of this program of this file
pub record IsKnownOf (f : File) (p : Program) (k : Known) : Type 0 where
  pub known : IsKnown k
  pub file : file_of k ≡ f
  pub program : program_of k ≡ p
