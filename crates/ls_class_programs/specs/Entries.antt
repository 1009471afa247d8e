-- Whether the entries of a menu that is written by hand are calls of a class.
use Rattle.std.specs.Prelude.{◌≡◌, ◌<◌, ℕ, Err, List, Some, slice_get}
use Rattle.ls_compiler.specs.Answers.{CompilesTo}
use Rattle.ls_compiler.specs.declared.fault.CompileFault.{CompileFault}
use Rattle.ls_compiler.specs.declared.fault.CompileFault.TheVariants as stopped
use Rattle.ls_families.specs.Texts.{alone_text}
use Rattle.ls_image.specs.Images.{Compiles}
use Rattle.ls_image.specs.declared.image.Image.{Image}
use Rattle.ls_class_programs.specs.Written.{Entry, entries}
use Rattle.ls_types_checked.specs.declared.fault.ProgramFault.TheVariants as program
use Rattle.ls_class_programs.specs.declared.entry_fault.EntryFault.{EntryFault}
use Rattle.ls_class_programs.specs.declared.entry_fault.EntryFault.TheVariants as faults

abbrev pub Text : Type 0
Text = List ℕ

-- a fault of the program of an entry is one of the entry; a fault of the class text is told as it is
abbrev pub fault_of : ℕ → CompileFault → EntryFault
fault_of at (stopped.Text f) = faults.NotCompiled (stopped.Text f)
fault_of at (stopped.Check f) = faults.NotCompiled (stopped.Check f)
fault_of at (stopped.Program program.Memory) = faults.Memory
fault_of at (stopped.Program (program.BadProgram place)) = faults.NotCalls at
fault_of at (stopped.Program (program.UnknownThing place)) = faults.NotCalls at
fault_of at (stopped.Program (program.ReferenceResult place)) = faults.NotCalls at
fault_of at (stopped.Program program.ProgramLimit) = faults.NotCalls at
fault_of at (stopped.Build f) = faults.NotCompiled (stopped.Build f)

-- the program that makes the object and then makes the calls of the entry, as the thread of a number does
abbrev pub program_of_entry : Text → ℕ → Entry → Text
program_of_entry making i e = alone_text making i e.calls

-- for each of so many threads it compiles
abbrev pub AreCalls : Text → Text → ℕ → Entry → Type 0
AreCalls classes making threads e =
    (i : ℕ) → i < threads → (image : Image) × Compiles classes (program_of_entry making i e) image

-- for the first so many threads it compiles, and for the next it doesn't
pub record IsNoCall (classes making : Text) (threads : ℕ) (e : Entry) (f : EntryFault) : Type 0 where
  pub thread : ℕ
  pub within : thread < threads
  pub before : AreCalls classes making thread e
  pub fault : CompileFault
  pub refused : CompilesTo classes (program_of_entry making thread e) (Err fault)
  pub is : f ≡ fault_of e.at fault

-- each entry is calls of the class
abbrev pub AllAreCalls : Text → Text → ℕ → Text → Type 0
AllAreCalls classes making threads menu =
    (k : ℕ) (e : Entry) → slice_get (entries menu) k ≡ Some e → AreCalls classes making threads e

-- the entries before one are, and that one isn't
pub record HasNoCall (classes making : Text) (threads : ℕ) (menu : Text) (f : EntryFault) : Type 0 where
  pub place : ℕ
  pub entry : Entry
  pub here : slice_get (entries menu) place ≡ Some entry
  pub before : (k : ℕ) (e : Entry) → k < place → slice_get (entries menu) k ≡ Some e → AreCalls classes making threads e
  pub bad : IsNoCall classes making threads entry f
