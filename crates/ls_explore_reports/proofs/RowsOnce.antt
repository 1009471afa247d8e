-- No event stands twice in the history of a row.
use Rattle.std.proofs.Common.{◌≡◌, ℕ, zero, suc, ◌<◌, List, [], ◌∷◌, length, slice_index_or, arith, refl, subst, sym}
use Rattle.ls_checked.specs.CheckedTree.{File}
use Rattle.ls_checked.specs.CheckedProgram.{Program}
use Rattle.ls_linearizable.specs.Once.{AreOnce}
use Rattle.ls_automaton.proofs.Once.{once}
use Rattle.ls_explore.specs.Rows.{Told}
use Rattle.ls_explore.specs.Tellings.{TellTruth, schedule_of}
use Rattle.ls_explore_reports.specs.Judged.{AreEachOnce}

any_default : (xs : List Told) (n : ℕ) (d e : Told) → n < length xs → slice_index_or xs n d ≡ slice_index_or xs n e
any_default [] n d e h = absurd (omega arith)
any_default (x ∷ xs) zero d e h = refl
any_default (x ∷ xs) (suc n) d e h = any_default xs n d e (omega arith)

-- each row's history is that of a schedule
pub rows_once : (file : File) (program : Program) (k : ℕ) (rows : List Told) → TellTruth file program k rows →
    AreEachOnce rows
rows_once file program k rows truth = λ n d lt.
    let r : Told = slice_index_or rows n d in
    subst AreOnce (sym (truth.told r (n, lt, any_default rows n r d lt))) (once file program (schedule_of k r))
