-- Programs whose calls are on one object.
use Rattle.std.proofs.Common.{◌≢◌, ℕ, zero, suc, List, [], ◌∷◌, length, slice_get, refl, sym, ◌∙◌, ap, subst}
use Rattle.ls_checked.specs.CheckedTree.{File}
use Rattle.ls_checked.specs.CheckedProgram.{Program, ThreadProgram}
use Rattle.ls_meaning.specs.Threads.{calls_in}
use Rattle.ls_guarded.specs.Guards.{AreCallsOf, AreOnOne, AreThreadsOf, Guards, IsCalm, IsOnOne, IsSome}
use Rattle.ls_guarded.specs.declared.guard.Guard.{Guard}
use Rattle.ls_guarded.proofs.Calm.{calm}

other : (methods : List ℕ) (name : ℕ) (ts : List ThreadProgram) → AreThreadsOf methods name ts → (n : ℕ) →
    AreCallsOf methods name (calls_in (slice_get ts n))
other methods name [] x n = tt
other methods name (t ∷ ts) x zero = x.0
other methods name (t ∷ ts) x (suc n) = other methods name ts x.1 n

each : (methods : List ℕ) (name : ℕ) (t : ThreadProgram) (ts : List ThreadProgram) → AreThreadsOf methods name ts →
    (n : ℕ) →
    n ≢ 0 → AreCallsOf methods name (calls_in (slice_get (t ∷ ts) n))
each methods name t ts x zero differs = absurd (differs refl)
each methods name t ts x (suc n) differs = other methods name ts x n

-- the threads as code goes through them are those of the program
pub on_one : (class : ℕ) (methods : List ℕ) (program : Program) →
    AreOnOne class methods (length program.names) program.threads → IsOnOne class methods program
on_one class methods program x = record {
  name = x.name;
  text = x.setup.text;
  values = x.setup.values;
  others = x.setup.others;
  setup = ap (λ xs. calls_in (slice_get xs 0)) x.is ∙ x.setup.is;
  known = x.setup.known;
  null = x.setup.null;
  more = x.setup.more;
  calls = λ n differs. subst (λ xs. AreCallsOf methods x.name (calls_in (slice_get xs n))) (sym x.is)
      (each methods x.name x.first x.others x.more n differs);
}

-- a program of the family is calm
pub calm_one : (guard : Guard) (file : File) (class : ℕ) (methods : List ℕ) (program : Program) →
    Guards guard file class methods → IsSome guard → IsOnOne class methods program → IsCalm file program
calm_one guard file class methods program guards some one = calm guard file program some (guards program one)
