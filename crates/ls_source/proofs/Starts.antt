-- The state at the start.
use Rattle.std.proofs.Common.{◌≡◌, List, [], ◌∷◌, map, refl, ap}
use Rattle.ls_events.specs.declared.value.Value.{Value}
use Rattle.ls_events.specs.declared.value.Value.TheVariants.{Reference}
use Rattle.ls_checked.specs.declared.program.SetupName.{SetupName}
use Rattle.ls_checked.specs.declared.program.ThreadProgram.{ThreadProgram}
use Rattle.ls_checked.specs.PlainProgram.{plain_name, plain_thread}
use Rattle.ls_meaning.specs.Course.{Answers}

-- no answers for each thread
abbrev pub none : List ThreadProgram → List Answers
none ts = map (λ t. []) ts

-- the same of the threads that are seen
pub none_is : (ts : List ThreadProgram) → none ts ≡ map (λ t. []) (map plain_thread ts)
none_is [] = refl
none_is (t ∷ ts) = ap (λ l. [] ∷ l) (none_is ts)

abbrev pub nulls : List SetupName → List Value
nulls ns = map (λ n. Reference 0) ns

-- each name of the setup is null
pub nulls_is : (ns : List SetupName) → nulls ns ≡ map (λ n. Reference 0) (map plain_name ns)
nulls_is [] = refl
nulls_is (n ∷ ns) = ap (λ l. Reference 0 ∷ l) (nulls_is ns)
