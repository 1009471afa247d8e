-- Threads that turn for ever in programs that are alike but for the numbers of threads.
use Rattle.std.proofs.Common.{◌≡◌, ℕ, List, ◌++◌, map, sym, ap, ◌∙◌, subst}
use Rattle.std.proofs.lemmas.List.{map-append}
use Rattle.ls_checked.specs.CheckedTree.{File}
use Rattle.ls_checked.specs.CheckedProgram.{Program}
use Rattle.ls_meaning.specs.Runs.{source_history, source_run, step}
use Rattle.ls_meaning.specs.Still.{IsActing}
use Rattle.ls_spinning.specs.Turning.{TurnsForEver}
use Rattle.ls_exchanged.specs.Exchanged.{exchanged}
use Rattle.ls_exchanged.specs.Laws.{ExchangedNeverTurns}
use Rattle.ls_exchanged.proofs.Alike.{AreAlike, alike, back, list_twice}
use Rattle.ls_exchanged.proofs.Runs.{histories, other_event, steps}
use Rattle.ls_exchanged.proofs.Waiting.{never_back, pending_there}

module _ (file : File) (f : ℕ → ℕ) (p q : Program) (r : AreAlike f p q) (schedule : List ℕ) where
  longer : (more : List ℕ) → map f (schedule ++ map f more) ≡ map f schedule ++ more
  longer more = map-append f schedule (map f more) ∙ ap (λ l. map f schedule ++ l) (list_twice f r.twice more)

  -- threads that turn for ever do so under other numbers
  turns_other : TurnsForEver file p schedule → TurnsForEver file q (map f schedule)
  turns_other turns = record {
    acts = λ more.
        let a = turns.acts (map f more) in (
          f a.0,
          subst (λ z. IsActing (step file q (source_run file q z) (f a.0)).did) (longer more)
              (subst IsActing (sym (steps file f p q r (schedule ++ map f more) a.0)) a.1),
        );
    silent = λ more.
        ap (source_history file q) (sym (longer more))
        ∙ histories file f p q r (schedule ++ map f more)
        ∙ ap (map (other_event f)) (turns.silent (map f more))
        ∙ sym (histories file f p q r schedule);
  }

-- If no threads of a program turn for ever in calls that end where calls run one at a time, none do with two threads
-- exchanged.
pub never_turns : ExchangedNeverTurns
never_turns sfile file u v sp sq p q se e none schedule c turns pending =
    let f = exchanged u v in
    let s = alike u v sp sq se in
    let r = alike u v p q e in
    let b = alike u v q p (back u v p q e) in
    never_back sfile sp sq file f p q s r schedule c
    (none (map f schedule) (other_event f c) (turns_other file f q p b schedule turns)
    (pending_there file f q p b schedule c pending))
