-- Schedules with the same history are bad alike.
use Rattle.std.proofs.Common.{◌≡◌, List, ℕ, Ok, Err, sym, subst}
use Rattle.std.specs.Prelude.{IfOk, Result}
use Rattle.ls_events.specs.declared.event.Event.{Event}
use Rattle.ls_checked.specs.CheckedTree.{File}
use Rattle.ls_checked.specs.CheckedProgram.{Program}
use Rattle.ls_meaning.specs.Runs.{source_history}
use Rattle.ls_search.specs.Verdicts.{LeavesStuck}
use Rattle.ls_verdicts.specs.Verdicts.{IsVerdict}
use Rattle.ls_verdicts.specs.declared.verdicts.Verdict.TheVariants.{Illegal}
use Rattle.ls_endless_calls.specs.Laws.{PendingWaits, NeverEndsSo}
use Rattle.ls_endless_calls.specs.Waits.{IsPending}
use Rattle.ls_specification.specs.Specification.{Given, given_file, given_program}
use Rattle.ls_find.specs.Verdicts.{HasWaiting, IsIllegal}

-- what holds of a file and a program holds of equal ones
pub at_same : (P : File → Program → Type 0) {file file' : File} {program program' : Program} → file ≡ file' →
    program ≡ program' → P file program → P file' program'
at_same P {file} {file'} {program} {program'} same_file same_program h =
    subst (λ (p : Program). P file' p) same_program (subst (λ (f : File). P f program) same_file h)

-- what holds of a specification, a file and a program holds of equal ones
pub by_same : (P : File → Program → File → Program → Type 0) {sfile sfile' : File} {sprogram sprogram' : Program}
    {file file' : File} {program program' : Program} → sfile ≡ sfile' → sprogram ≡ sprogram' → file ≡ file' →
    program ≡ program' → P sfile sprogram file program → P sfile' sprogram' file' program'
by_same P {sfile} {sfile'} {sprogram} {sprogram'} {file} {file'} {program} {program'} same_sfile same_sprogram same_file
    same_program h =
    at_same (P sfile' sprogram') same_file same_program
    (at_same (λ (f : File) (p : Program). P f p file program) same_sfile same_sprogram h)

-- what two clauses say together of a result
pub ok_both : {A E : Type 0} (P Q R : A → Type 0) (r : Result A E) → IfOk r P → IfOk r Q → ((a : A) → P a → Q a → R a) →
    IfOk r R
ok_both P Q R (Ok a) p q both = both a p q
ok_both P Q R (Err e) p q both = tt

module _ (file : File) (program : Program) (found simple : List ℕ)
    (history : source_history file program simple ≡ source_history file program found) where
  pub still_illegal : IsIllegal file program found → IsIllegal file program simple
  still_illegal bad = subst (λ (h : List Event). IsVerdict program h Illegal) (sym history) bad

  pub still_waiting : (given : Given) → PendingWaits →
      (LeavesStuck file program found → LeavesStuck file program simple) →
      HasWaiting given file program found → HasWaiting given file program simple
  still_waiting given pending_waits ends (c, w) =
      let stuck : LeavesStuck file program simple = ends (record {
        over = w.over;
        thread = c.thread;
        waits = pending_waits file program found c w.over w.pending;
      }) in (
        c,
        record {
          over = stuck.over;
          pending = subst (λ (h : List Event). IsPending h c) (sym history) w.pending;
          alone = λ so. w.alone (subst (λ (h : List Event). NeverEndsSo (given_file given file)
              (given_program given program) h c)
              history so);
        },
      )
