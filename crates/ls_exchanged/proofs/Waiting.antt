-- Calls that wait for ever in programs that are alike but for the numbers of threads.
use Rattle.std.proofs.Common.{◌≡◌, ℕ, zero, suc, List, [], ◌∷◌, ◌++◌, map, replicate, refl, sym, ap, ◌∙◌, subst}
use Rattle.std.proofs.lemmas.List.{map-append}
use Rattle.ls_events.specs.declared.event.Event.{Event}
use Rattle.ls_checked.specs.CheckedTree.{File}
use Rattle.ls_checked.specs.CheckedProgram.{Program}
use Rattle.ls_meaning.specs.Runs.{source_history, source_run, step}
use Rattle.ls_meaning.specs.Still.{IsOver, IsStill}
use Rattle.ls_serial_search.specs.Endless.{IsEndlessRun}
use Rattle.ls_endless_calls.specs.Laws.{NeverEndsSo}
use Rattle.ls_endless_calls.specs.Waits.{ExplainsAlone, IsPending}
use Rattle.ls_exchanged.specs.Exchanged.{exchanged}
use Rattle.ls_exchanged.specs.Laws.{ExchangedNeverWaits}
use Rattle.ls_exchanged.proofs.Alike.{AreAlike, alike, back}
use Rattle.ls_exchanged.proofs.Histories.{end_back, ended_other, event_twice, explains_other, serial_other, there_back}
use Rattle.ls_exchanged.proofs.Histories.{there_other}
use Rattle.ls_exchanged.proofs.Linearizable.{history_is}
use Rattle.ls_exchanged.proofs.Runs.{histories, other_event, other_events, steps}

module _ (f : ℕ → ℕ) where
  replicate_other : (n t : ℕ) → map f (replicate n t) ≡ replicate n (f t)
  replicate_other zero t = refl
  replicate_other (suc n) t = ap (λ l. f t ∷ l) (replicate_other n t)

  module _ (own : (t : ℕ) → f (f t) ≡ t) where
    -- a pending call, with other numbers of threads
    pub pending_other : (h : List Event) (c : Event) → IsPending h c → IsPending (other_events f h) (other_event f c)
    pending_other h c p = record {
      there = there_other f own h c p.there;
      is_call = p.is_call;
      pending = λ e there ends. p.pending (other_event f e) (there_back f own h e there) (end_back f own c e ends);
    }

    alone_other : (before h : List Event) →
        ExplainsAlone before h →
        ExplainsAlone (other_events f before) (other_events f h)
    alone_other before h a = record {
      explains = explains_other f own before h a.explains;
      ended = ended_other f own before h a.ended;
    }

module _ (file : File) (f : ℕ → ℕ) (p q : Program) (r : AreAlike f p q) where
  -- where no thread acts, none with the other numbers does
  over_other : (schedule : List ℕ) →
      IsOver file p (source_run file p schedule) →
      IsOver file q (source_run file q (map f schedule))
  over_other schedule over t =
      subst (λ z. IsStill (step file q (source_run file q (map f schedule)) z).did) (r.twice t)
      (subst IsStill (sym (steps file f p q r schedule (f t))) (over (f t)))

  abbrev endless_other : (run : List Event) → IsEndlessRun file p run → IsEndlessRun file q (other_events f run)
  endless_other run e = record {
    schedule = map f e.schedule;
    before = other_events f e.before;
    call = other_event f e.call;
    is = ap (map (other_event f)) e.is ∙ map-append (other_event f) e.before (e.call ∷ []);
    serial = serial_other f r.twice e.before e.serial;
    is_call = e.is_call;
    never = λ n.
        ap (source_history file q) (sym (map-append f e.schedule (replicate n e.call.thread)
        ∙ ap (λ l. map f e.schedule ++ l) (replicate_other f n e.call.thread)))
        ∙ histories file f p q r (e.schedule ++ replicate n e.call.thread)
        ∙ ap (map (other_event f)) (e.never n);
  }

  -- a call that never ends, with other numbers of threads
  pub never_other : (h : List Event) (c : Event) → NeverEndsSo file p h c →
      NeverEndsSo file q (other_events f h) (other_event f c)
  never_other h c n = record {
    run = other_events f n.run;
    endless = endless_other n.run n.endless;
    call = ap (other_event f) n.call;
    alone = alone_other f r.twice n.endless.before h n.alone;
  }

-- So it is of the second program's history, where it is of the first's.
pub never_back : (sfile : File) (sp sq : Program) (file : File) (f : ℕ → ℕ) (p q : Program) (s : AreAlike f sp sq)
    (r : AreAlike f p q) (schedule : List ℕ) (c : Event) →
    NeverEndsSo sfile sp (source_history file p (map f schedule)) (other_event f c) →
    NeverEndsSo sfile sq (source_history file q schedule) c
never_back sfile sp sq file f p q s r schedule c n =
    subst (λ h. NeverEndsSo sfile sq h c) (history_is file f p q r schedule)
    (subst (NeverEndsSo sfile sq (other_events f (source_history file p (map f schedule)))) (event_twice f r.twice c)
    (never_other sfile f sp sq s (source_history file p (map f schedule)) (other_event f c) n))

-- a pending call of a history, with other numbers of threads
pub pending_there : (file : File) (f : ℕ → ℕ) (p q : Program) (r : AreAlike f p q) (schedule : List ℕ) (c : Event) →
    IsPending (source_history file p schedule) c →
    IsPending (source_history file q (map f schedule)) (other_event f c)
pending_there file f p q r schedule c pending =
    subst (λ h. IsPending h (other_event f c)) (sym (histories file f p q r schedule))
    (pending_other f r.twice (source_history file p schedule) c pending)

-- if no call of a program waits for ever, none does with two threads exchanged
pub never_waits : ExchangedNeverWaits
never_waits sfile file u v sp sq p q se e none schedule c over pending =
    let f = exchanged u v in
    let s = alike u v sp sq se in
    let r = alike u v p q e in
    let b = alike u v q p (back u v p q e) in
    never_back sfile sp sq file f p q s r schedule c
    (none (map f schedule) (other_event f c) (over_other file f q p b schedule over)
    (pending_there file f q p b schedule c pending))
