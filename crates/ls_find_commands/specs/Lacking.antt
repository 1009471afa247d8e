-- What a class text lacks of its reference.
use Rattle.std.specs.Prelude.{◌≡◌, ◌≢◌, ◌<◌, ◌⊎◌, ℕ, List, [], ◌∷◌, Some, Err, codes, slice_get}
use Rattle.ls_checked.specs.PlainProgram.{plain_program}
use Rattle.ls_class_programs.specs.Placing.{IsPlaceOf}
use Rattle.ls_class_programs.specs.declared.choosing.Choosing.{Choosing}
use Rattle.ls_compiler.specs.Answers.{CompilesTo}
use Rattle.ls_compiler.specs.declared.fault.CompileFault.{CompileFault}
use Rattle.ls_families.specs.Texts.{alone_text}
use Rattle.ls_family_search.specs.Judged.{Programs, calls_of, making_of}
use Rattle.ls_faults.specs.Faults.{lifted_reference, lifted_specification}
use Rattle.ls_faults.specs.declared.fault.ToolFault.{ToolFault}
use Rattle.ls_faults.specs.declared.fault.ToolFault.TheVariants as faults
use Rattle.ls_image.specs.Images.{Compiles, program_of_image}
use Rattle.ls_image.specs.declared.image.Image.{Image}
use Rattle.ls_lexer.specs.declared.token.Span.{Span}
use Rattle.ls_report.specs.Events.{Text}
use Rattle.ls_specified.specs.Specified.{IsNoSpecification, Specifies}
use Rattle.ls_specified.specs.declared.fault.SpecificationFault.{SpecificationFault}

-- a program without calls
abbrev pub no_calls : Text
no_calls = codes "setup { }\n"

-- the reference isn't compiled with this program
abbrev pub IsNoReference : Text → Text → ToolFault → Type 0
IsNoReference reference program e =
    (f : CompileFault) × CompilesTo reference program (Err f) × (e ≡ lifted_reference f)

-- The reference compiles with the program that makes an object and makes this call. So does the class text, and there
-- the calls answer the same types.
abbrev pub HasCall : Text → Text → Text → Text → Type 0
HasCall reference classes making call =
    (s : Image) × Compiles reference (alone_text making 0 call) s ×
    ((i : Image) × Specifies classes (alone_text making 0 call) (plain_program (program_of_image s)) i)

-- the reference compiles with it, and that isn't so of the class text
abbrev pub LacksCall : Text → Text → Text → Text → Type 0
LacksCall reference classes making call =
    (s : Image) × Compiles reference (alone_text making 0 call) s ×
    ((f : SpecificationFault) ×
    IsNoSpecification classes (alone_text making 0 call) (plain_program (program_of_image s)) f ×
    (lifted_specification f ≢ faults.Memory))

-- the class text lacks the call, and the fault has its place in the reference; or the reference isn't compiled with it
abbrev pub LacksOrIsNone : Choosing → Text → Text → Text → Text → ToolFault → Type 0
LacksOrIsNone o reference classes making call e =
    ((span : Span) × IsPlaceOf o reference call span × LacksCall reference classes making call ×
    (e ≡ faults.LacksMethod span)) ⊎ IsNoReference reference (alone_text making 0 call) e

-- the making alone, and then each call of the menu
abbrev pub asked_calls : Programs → List Text
asked_calls p = [] ∷ calls_of p

-- it lacks none of these
abbrev pub LacksNone : Text → Text → Programs → Type 0
LacksNone reference classes p =
    (k : ℕ) (call : Text) → slice_get (asked_calls p) k ≡ Some call → HasCall reference classes (making_of p) call

-- the first of these of which it isn't so, and the fault
pub record IsFirstFault (o : Choosing) (reference classes : Text) (p : Programs) (e : ToolFault) : Type 0 where
  pub call : Text
  pub place : ℕ
  pub here : slice_get (asked_calls p) place ≡ Some call
  pub before : (k : ℕ) (other : Text) → k < place → slice_get (asked_calls p) k ≡ Some other →
      HasCall reference classes (making_of p) other
  pub fault : LacksOrIsNone o reference classes (making_of p) call e
