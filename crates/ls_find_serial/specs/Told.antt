-- What is told of each program of a family: whether a call has a fault where calls run one at a time.
use Rattle.std.specs.Prelude.{◌≡◌, ◌⊎◌, ◌+◌, ◌-◌, ℕ, List, Some, Err, length, slice_get}
use Rattle.ls_alone.specs.Alone.{AreTold}
use Rattle.ls_alone.specs.declared.telling.Tellings.{Tellings}
use Rattle.ls_alone.specs.declared.telling.Told.TheVariants as told
use Rattle.ls_compiler.specs.Answers.{CompilesTo}
use Rattle.ls_compiler.specs.declared.fault.CompileFault.{CompileFault}
use Rattle.ls_explore_reports.specs.ImageNames.{names_in}
use Rattle.ls_families.specs.Families.{Plan, plans}
use Rattle.ls_family_search.specs.Judged.{Programs, Text, text_of}
use Rattle.ls_image.specs.Images.{Compiles, program_of_image}
use Rattle.ls_image.specs.declared.image.Image.{Image}
use Rattle.ls_schedule.specs.Reading.{thread_names}

-- where nothing is known
abbrev pub unknown : Tellings
unknown = record { throws = told.Unknown; waits = told.Unknown; turns = told.Unknown }

-- with this program the class text compiles, and what is told is so
pub record TellsOf (classes program : Text) (t : Tellings) : Type 0 where
  pub image : Image
  pub compiles : Compiles classes program image
  pub told : AreTold (names_in image) (thread_names (program_of_image image)) t

-- so it is; or it doesn't compile, and nothing is known
abbrev pub IsToldOf : Text → Text → Tellings → Type 0
IsToldOf classes program t =
    TellsOf classes program t ⊎
    ((t ≡ unknown) × ((f : CompileFault) × CompilesTo classes program (Err f)))

-- of the program of a number, if there is one
abbrev pub IsToldAt : Text → Programs → ℕ → Tellings → Type 0
IsToldAt classes p n t =
    (plan : Plan) → slice_get (plans p.family) n ≡ Some plan → IsToldOf classes (text_of p plan) t

-- of each program, in the order of the numbers from one on and up to another: doubles too
pub record AreToldOf (classes : Text) (p : Programs) (from to : ℕ) (ts : List Tellings) : Type 0 where
  pub many : length ts ≡ to - from
  pub each : (n : ℕ) (t : Tellings) → slice_get ts n ≡ Some t → IsToldAt classes p (from + n) t
