-- What comes of the programs of a window of numbers.
use Rattle.std.specs.Prelude.{◌≡◌, ℕ, List, ◌∷◌, ◌++◌, Option, Some, None, Result, Ok, map, slice_get}
use Rattle.ls_families.specs.Families.{Plan, plans}
use Rattle.ls_family_search.specs.Judged.{IsOutcome, Programs, Text}
use Rattle.ls_family_search.specs.declared.judging.Halted.{Halted}
use Rattle.ls_family_search.specs.declared.judging.ProgramOutcome.{ProgramOutcome}
use Rattle.ls_family_search.specs.declared.judging.ProgramOutcome.TheVariants.{Ends, Passes}
use Rattle.ls_family_search.specs.declared.judging.Passed.{Passed}

-- that of the program of a number, if there is one, in a range that begins with the first number
abbrev pub IsOutcomeAt : {H : Type 0} → Programs → (Text → Type 0) → (Text → Type 0) → (Text → H → Type 0) → ℕ → ℕ →
    ProgramOutcome H → Type 0
IsOutcomeAt p IsGood IsCut Halts from n o =
    (plan : Plan) → slice_get (plans p.family) n ≡ Some plan → IsOutcome p IsGood IsCut Halts from n plan o

-- programs that are passed so
abbrev pub all_pass : {H E : Type 0} → List Passed → List (Result (ProgramOutcome H) E)
all_pass ps = map (λ said. Ok (Passes said)) ps

-- These are added: how the programs are passed, all or up to the first with which the search ends.
abbrev pub IsJoined : {H E : Type 0} → List (Result (ProgramOutcome H) E) → List Passed → List Passed →
    Option (Halted H) → Type 0
IsJoined outcomes old new None = (ps : List Passed) × (outcomes ≡ all_pass ps) × (new ≡ old ++ ps)
IsJoined {H} {E} outcomes old new (Some h) =
    (ps : List Passed) × (rest : List (Result (ProgramOutcome H) E)) × (outcomes ≡ all_pass ps ++ Ok (Ends h) ∷ rest) ×
    (new ≡ old ++ ps)
