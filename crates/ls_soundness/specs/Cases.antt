-- Programs with one call beside that of the setup, for the file of the headline's example:
--
--     class A { void work() { Lock l = new ReentrantLock(); l.lock(); } }
--     setup { a = new A(); } thread T { .. }
use Rattle.std.specs.Prelude.{[], ◌∷◌, Some, None, pos, true, false}
use Rattle.ls_events.specs.declared.value.Value.TheVariants.{Int, Boolean, Reference, Pair}
use Rattle.ls_events.specs.declared.value.ValueType.TheVariants as types
use Rattle.ls_checked.specs.CheckedTree.{Literal, Evaluate}
use Rattle.ls_checked.specs.CheckedProgram.{Program, ProgramCall, Making, Calling}
use Rattle.ls_types_judgement.specs.Programs.{AreArguments}
use Rattle.ls_meaning.specs.Constants.{UsesConstants}

abbrev pub with_call : ProgramCall → Program
with_call call = record {
  names = record { name = []; class = 0 } ∷ [];
  threads = record { name = []; calls = Making 0 0 [] [] ∷ [] } ∷ record { name = []; calls = call ∷ [] } ∷ [];
}

-- A call on a name that the setup doesn't give. A call of a method that doesn't exist. A call with an argument too
-- many. A call that takes an int from a method that answers nothing.
abbrev pub of_no_name : Program
of_no_name = with_call (Calling 1 0 [] None [])

abbrev pub of_no_method : Program
of_no_method = with_call (Calling 0 2 [] None [])

abbrev pub with_argument : Program
with_argument = with_call (Calling 0 0 [] None (Int (pos 1) ∷ []))

abbrev pub for_an_int : Program
for_an_int = with_call (Calling 0 0 [] (Some types.Int) [])

-- the greatest int and a boolean are arguments for an int and a boolean
abbrev pub Arguments : Type 0
Arguments = AreArguments (types.Int ∷ types.Boolean ∷ []) (Int (pos 2147483647) ∷ Boolean true ∷ [])

-- these are no arguments: a number past the greatest int, null for an object, a boolean for an int, and an argument
-- too few
abbrev pub NoArguments : Type 0
NoArguments =
    (AreArguments (types.Int ∷ []) (Int (pos 2147483648) ∷ []) → ⊥)
    × (AreArguments (types.Class 0 ∷ []) (Reference 0 ∷ []) → ⊥)
    × (AreArguments (types.Int ∷ []) (Boolean true ∷ []) → ⊥)
    × (AreArguments (types.Int ∷ types.Int ∷ []) (Int (pos 1) ∷ []) → ⊥)

-- null may be evaluated alone, a pair may not
abbrev pub Pairs : Type 0
Pairs = UsesConstants (Evaluate (Literal (Reference 0))) × (UsesConstants (Evaluate (Literal (Pair 0 false))) → ⊥)
