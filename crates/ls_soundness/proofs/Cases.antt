-- The headline's example is typed, and programs with a wrong call aren't.
use Rattle.std.proofs.Common.{rules, ◌≡◌, ℕ, zero, suc, ◌<◌, ◌≤◌, [], ◌∷◌, length, true, false, Some, None, refl, sym}
use Rattle.std.proofs.Common.{subst, ap, arith}
use Rattle.std.specs.Prelude.{slice_get, is_some, pos, FitsSigned}
use mir.Syntax.{w32}
use borrow.Author.Differences.{fits_in}
use Rattle.ls_events.specs.declared.value.Value.TheVariants.{Int}
use Rattle.ls_events.specs.declared.value.ValueType.TheVariants as types
use Rattle.ls_checked.specs.CheckedTree.{Class, Method}
use Rattle.ls_checked.specs.CheckedProgram.{ThreadProgram, ProgramCall, Making, Calling}
use Rattle.ls_meaning.specs.declared.sort.Sort.TheVariants.{NoValue}
use Rattle.ls_types_judgement.specs.Typing.{IsTypedMethod, IsTypedFile, parameters_of}
use Rattle.ls_preservation.specs.Example.{file, program}
use Rattle.ls_types_judgement.specs.Completion.{can_complete}
use Rattle.ls_types_judgement.specs.Leaving.{JumpsInLoops}
use Rattle.ls_types_judgement.specs.Classes.{HasItsClasses}
use Rattle.ls_types_judgement.specs.Jumps.{HasItsLoops, HasItsEnds}
use Rattle.ls_types_judgement.specs.Limits.{IsRanged, IsRangedProgram}
use Rattle.ls_types_judgement.specs.WellTyped.{IsWellTyped, IsWellTypedProgram}
use Rattle.ls_preservation.proofs.ExampleSound.{example_constants}
use Rattle.ls_types_judgement.specs.Programs.{AreArguments, IsTypedCalling, IsTypedCall, IsTypedProgram}
use Rattle.ls_soundness.specs.Cases.{with_call, of_no_name, of_no_method, with_argument, for_an_int, Arguments}
use Rattle.ls_soundness.specs.Cases.{NoArguments, Pairs}

nothing_there : {A : Type 0} {x : A} → None ≡ Some x → ⊥
nothing_there e = cc

-- what is there is one thing
there : {A : Type 0} (x y : A) → Some x ≡ Some y → x ≡ y
there x y e = cc

pub typed_file : IsTypedFile file
typed_file zero m e = subst (λ z. IsTypedMethod file z) (there _ m e)
    (record {
      locals = types.Lock ∷ [];
      this = refl;
      parameters = omega arith;
      body = ((types.Lock, refl, refl), ((NoValue, (refl, (types.Lock, refl, refl), tt)), tt));
    })
typed_file (suc zero) m e = subst (λ z. IsTypedMethod file z) (there _ m e)
    (record { locals = []; this = refl; parameters = omega arith; body = tt })
typed_file (suc (suc n)) m e = absurd (nothing_there e)

pub has_its_classes : HasItsClasses file
has_its_classes zero m e = subst (λ (z : Method). z.class < 1) (there _ m e) (omega arith)
has_its_classes (suc zero) m e = subst (λ (z : Method). z.class < 1) (there _ m e) (omega arith)
has_its_classes (suc (suc n)) m e = absurd (nothing_there e)

has_its_loops : HasItsLoops file
has_its_loops zero m e = subst (λ (z : Method). JumpsInLoops 0 z.body) (there _ m e) (tt, (tt, tt))
has_its_loops (suc zero) m e = subst (λ (z : Method). JumpsInLoops 0 z.body) (there _ m e) tt
has_its_loops (suc (suc n)) m e = absurd (nothing_there e)

-- no method of it answers a value
no_value : (m : Method) → m.result ≡ None → is_some m.result ≡ true → can_complete m.body ≡ false
no_value m e h = cc (ap is_some e, h)

has_its_ends : HasItsEnds file
has_its_ends zero m e = no_value m (sym (ap (λ (z : Method). z.result) (there _ m e)))
has_its_ends (suc zero) m e = no_value m (sym (ap (λ (z : Method). z.result) (there _ m e)))
has_its_ends (suc (suc n)) m e = absurd (nothing_there e)

is_ranged : IsRanged file
is_ranged = record { classes = omega arith; fields = few; methods = omega arith }
  where
    few : (n : ℕ) (c : Class) → slice_get file.classes n ≡ Some c → length c.fields ≤ 64
    few zero c e = subst (λ (z : Class). length z.fields ≤ 64) (there _ c e) (omega arith)
    few (suc n) c e = absurd (nothing_there e)

-- the file of the headline's example is well typed
pub well_typed : IsWellTyped file
well_typed = record {
  typed = typed_file;
  classes = has_its_classes;
  constants = example_constants.0;
  loops = has_its_loops;
  ends = has_its_ends;
  limits = is_ranged;
}

setup_call : (n : ℕ) (call : ProgramCall) →
    slice_get (Making 0 0 [] [] ∷ []) n ≡ Some call →
    IsTypedCall file program call
setup_call zero call e = subst (λ z. IsTypedCall file program z) (there _ call e)
    (record {
      there = omega arith;
      constructor = _;
      found = refl;
      own = refl;
      fit = tt;
      setup_name = _;
      named = refl;
      holds = refl;
    })
setup_call (suc n) call e = absurd (nothing_there e)

work_call : (n : ℕ) (call : ProgramCall) →
    slice_get (Calling 0 0 [] None [] ∷ []) n ≡ Some call →
    IsTypedCall file program call
work_call zero call e = subst (λ z. IsTypedCall file program z) (there _ call e)
    (record {
      setup_name = _;
      named = refl;
      called = _;
      found = refl;
      own = refl;
      answers = refl;
      plain = tt;
      fit = tt;
    })
work_call (suc n) call e = absurd (nothing_there e)

pub typed_program : IsTypedProgram file program
typed_program zero calls n call e is = setup_call n call (subst (λ (z : ThreadProgram). slice_get z.calls n ≡ Some call)
    (sym (there _ calls e)) is)
typed_program (suc zero) calls n call e is = work_call n call
    (subst (λ (z : ThreadProgram). slice_get z.calls n ≡ Some call) (sym (there _ calls e)) is)
typed_program (suc (suc t)) calls n call e is = absurd (nothing_there e)

is_ranged_program : IsRangedProgram program
is_ranged_program = record { threads = omega arith; calls = few; names = omega arith }
  where
    few : (n : ℕ) (t : ThreadProgram) → slice_get program.threads n ≡ Some t → length t.calls ≤ 256
    few zero t e = subst (λ (z : ThreadProgram). length z.calls ≤ 256) (there _ t e) (omega arith)
    few (suc zero) t e = subst (λ (z : ThreadProgram). length z.calls ≤ 256) (there _ t e) (omega arith)
    few (suc (suc n)) t e = absurd (nothing_there e)

-- the program of the headline's example is well typed
pub well_typed_program : IsWellTypedProgram file program
well_typed_program = record { typed = typed_program; constants = example_constants.1; limits = is_ranged_program }

-- the call of a program with a call beside the setup's
the_call : (call : ProgramCall) → IsTypedProgram file (with_call call) → IsTypedCall file (with_call call) call
the_call call typed = typed 1 (record { name = []; calls = call ∷ [] }) 0 call refl refl

-- a call on a name that the setup doesn't give isn't typed
pub no_name : IsTypedProgram file of_no_name → ⊥
no_name typed = nothing_there ((the_call (Calling 1 0 [] None []) typed).named)

-- a call of a method that doesn't exist isn't typed
pub no_method : IsTypedProgram file of_no_method → ⊥
no_method typed = nothing_there ((the_call (Calling 0 2 [] None []) typed).found)

-- a call with an argument too many isn't typed
pub no_argument : IsTypedProgram file with_argument → ⊥
no_argument typed =
    let call : IsTypedCalling file with_argument 0 0 None (Int (pos 1) ∷ []) = the_call
    (Calling 0 0 [] None (Int (pos 1) ∷ [])) typed in
    subst (λ z. AreArguments (parameters_of z) (Int (pos 1) ∷ [])) (sym (there _ call.called call.found)) call.fit

-- a call that takes an int from a method that answers nothing isn't typed
pub no_int : IsTypedProgram file for_an_int → ⊥
no_int typed =
    let call : IsTypedCalling file for_an_int 0 0 (Some types.Int) [] = the_call (Calling 0 0 [] (Some types.Int) [])
    typed in
    nothing_there (subst (λ (z : Method). z.result ≡ Some types.Int) (sym (there _ call.called call.found))
    call.answers)

-- the cases of arguments
pub arguments : Arguments
arguments = (search rules, (tt, tt))

-- the cases of what is no argument
pub no_arguments : NoArguments
no_arguments = (λ h. too_great h.0, λ h. h.0, λ h. h.0, λ h. h.1)
  where
    too_great : FitsSigned w32 (pos 2147483648) → ⊥
    too_great h = omega (arith, fits_in, h)

-- the cases of pairs
pub pairs : Pairs
pairs = (refl, λ h. h)
