-- Accesses of a program with two threads exchanged never meet if those of the program never do.
use Rattle.std.proofs.Common.{◌≡◌, ◌+◌, subst}
use Rattle.ls_checked.specs.CheckedTree.{File}
use Rattle.ls_exchanged.specs.DoubleLaws.{DoublesAreExchanged}
use Rattle.ls_exchanged.specs.Laws.{ExchangedNeverMeets}
use Rattle.ls_find.proofs.Followed.{at_images, same_files}
use Rattle.ls_find_races.specs.Doubles.{RaceFreeFollows}
use Rattle.ls_race_laws.specs.Meeting.{NeverMeets}
use Rattle.ls_races.specs.Volatile.{volatile_by}
use Rattle.ls_translation.specs.Texts.{file_of, program_of}
use Rattle.ls_types_places.specs.Laws.{OneAnswer}
use Rattle.ls_types_programs.specs.Laws.{OneProgram}

pub race_free_follows : OneAnswer → OneProgram → DoublesAreExchanged → ExchangedNeverMeets → RaceFreeFollows
race_free_follows one alone exchanged never classes program other u e free =
    let k = free.image in
    let ij = at_images one alone exchanged u classes other program k e free.compiles in
    let i = ij.0 in
    let same : file_of k ≡ file_of i = same_files one classes other program k i free.compiles ij.1 in record {
      image = i;
      compiles = ij.1;
      flags = free.flags;
      declared = free.declared;
      never = subst (λ (g : File). NeverMeets (volatile_by free.flags) g (program_of i)) same
          (never (volatile_by free.flags) (file_of k) u (u + 1) (program_of k) (program_of i)
          (exchanged u (program_of k) (program_of i) ij.2) free.never);
    }
