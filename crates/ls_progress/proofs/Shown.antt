-- What a lasso shows of a call.
use Rattle.std.proofs.Common.{◌≡◌, ℕ, true, List, Option, Some, length, subst}
use Rattle.std.specs.Prelude.{IfSome, slice_get}
use Rattle.ls_graph.specs.declared.closing.Edge.{Edge}
use Rattle.ls_progress.specs.Cycles.{AllGo, IsLed, PassesNone}
use Rattle.ls_progress.specs.Ends.{IsShort}
use Rattle.ls_progress.specs.Judged.{GoesByLocksIn, GoesFairlyIn, GoesIn, IsLabelled, edges_in, file_in, root_in}
use Rattle.ls_progress.specs.Judged.{threads_in}
use Rattle.ls_progress.specs.Kinds.{kind_of}
use Rattle.ls_progress.specs.Labels.{AreLabels}
use Rattle.ls_progress.specs.declared.kinds.Kind.{Kind}
use Rattle.ls_progress.specs.declared.labelled.Labelled.{Labelled}
use Rattle.ls_progress.specs.declared.labelled.Turned.{Turned}
use Rattle.ls_progress.proofs.KindLemmas.{thread_of}
use Rattle.ls_progress.proofs.Lassoing.{all_fair, fair_by_locks, goes_round}

module _ (l : Labelled) (kind : Kind) (call at : ℕ) (is : IsLabelled l) (t : Turned) (o : Option Turned)
    (some : o ≡ Some t)
    (led : IfSome o (λ s. IsLed (kind_of kind l.thread) (edges_in l) l.labels.now call at s.cycle.items s.lasso))
    (short : IfSome o (λ s. IsShort s.lasso)) where
  here : IsLed (kind_of kind l.thread) (edges_in l) l.labels.now call at t.cycle.items t.lasso
  here =
      subst (λ p. IfSome p (λ s. IsLed (kind_of kind l.thread) (edges_in l) l.labels.now call at s.cycle.items s.lasso))
      some led

  is_short : IsShort t.lasso
  is_short = subst (λ p. IfSome p (λ s. IsShort s.lasso)) some short

  labels : AreLabels (kind_of kind l.thread).thread (edges_in l) l.labels.now
  labels = subst (λ u. AreLabels u (edges_in l) l.labels.now) (thread_of kind l.thread) is.labels

  pub shown_round : GoesIn l (kind_of kind l.thread) call t.lasso
  shown_round = (
    is_short,
    goes_round (file_in l.scope) (threads_in l.scope) (root_in l.scope) (edges_in l) _ _ is.states
        (kind_of kind l.thread) l.labels.now labels call at t.cycle.items t.lasso here,
  )

  module _ (marked : slice_get l.closing.now.looked.items at ≡ Some true)
      (go : AllGo (edges_in l) at (threads_in l.scope) t.lasso.cycle.items) where
    pub shown_fairly : GoesFairlyIn l (kind_of kind l.thread) call t.lasso
    shown_fairly = (
      is_short,
      record {
        round = shown_round.1;
        fair = all_fair (file_in l.scope) (threads_in l.scope) (root_in l.scope) (edges_in l) _ _ is.states
            (kind_of kind l.thread) l.labels.now labels call at t.cycle.items t.lasso here marked go;
      },
    )

    pub shown_by_locks : PassesNone (edges_in l) l.closing.now.looked.items t.cycle.items →
        GoesByLocksIn l (kind_of kind l.thread) call t.lasso
    shown_by_locks passes = (
      is_short,
      record {
        fairly = shown_fairly.1;
        locks = fair_by_locks (file_in l.scope) (threads_in l.scope) (root_in l.scope) (edges_in l) _ _ is.states
            (kind_of kind l.thread) l.labels.now labels call at t.cycle.items t.lasso here passes;
      },
    )
