-- What becomes of a thread that enters a method.
use Rattle.std.proofs.Common.{◌≡◌, ℕ, Option, Some, slice_get, refl, subst}
use Rattle.ls_code.specs.Code.{Code}
use Rattle.ls_code.specs.Cells.{Cells}
use Rattle.ls_code.specs.Calls.{CallMove, Calls, CallThrows, CallStuck, enter_move}
use Rattle.ls_code.specs.Steps.{performed, throw_move, call_move, enters_move, found_move}
use Rattle.ls_code.specs.declared.code.Method.{Method}
use Rattle.ls_code.specs.declared.step.Did.{Did}
use Rattle.ls_code.specs.declared.step.Did.TheVariants as did
use Rattle.ls_events.specs.declared.kind.Kind.{Kind}
use Rattle.ls_events.specs.declared.action.Action.TheVariants as act
use Rattle.ls_events.specs.declared.action.Answer.TheVariants.{Done}
use Rattle.ls_machine_threads.specs.Memory.{KeptThread, keeping_thread}
use Rattle.ls_machine.specs.Outcomes.{Came}
use Rattle.ls_machine_threads.specs.Threads.{thread_after, call_flow}
use Rattle.ls_machine_threads.specs.declared.flow.Entered.TheVariants as came

-- k is the thread at the start, k' after it has tried to enter
module _ (p : Code) (c : Cells) (n : ℕ) (k : KeptThread) where
  pub call_next : (move : CallMove) (x : ℕ) (k' : KeptThread) →
      came.Entered ≡ call_flow move →
      k' ≡ keeping_thread k (thread_after k.thread move) →
      Came (performed c n k.thread (call_move p k.thread x move)) k k' c (did.Acted (act.Enter x) Done)
  call_next (Calls s) x k' h e = (e, refl, refl)
  call_next (CallThrows kind) x k' h e = absurd (cc)
  call_next CallStuck x k' h e = absurd (cc)

  pub call_stuck : (move : CallMove) (x : ℕ) (k' : KeptThread) →
      came.Stuck ≡ call_flow move →
      k' ≡ keeping_thread k (thread_after k.thread move) →
      Came (performed c n k.thread (call_move p k.thread x move)) k k' c did.Silent
  call_stuck (Calls s) x k' h e = absurd (cc)
  call_stuck (CallThrows kind) x k' h e = absurd (cc)
  call_stuck CallStuck x k' h e = (e, refl, refl)

  pub call_throws : (move : CallMove) (x : ℕ) (k' new : KeptThread) (cells : Cells) (d : Did) (kind : Kind) →
      came.Throws kind ≡ call_flow move →
      k' ≡ keeping_thread k (thread_after k.thread move) →
      Came (performed c n k'.thread (throw_move p k'.thread kind)) k' new cells d →
      Came (performed c n k.thread (call_move p k.thread x move)) k new cells d
  call_throws (Calls s) x k' new cells d kind h e came = absurd (cc)
  call_throws CallStuck x k' new cells d kind h e came = absurd (cc)
  call_throws (CallThrows other) x k' new cells d kind h e came =
      let ek : kind ≡ other = cc in
      rw (← ek) (subst (λ (y : KeptThread). Came (performed c n y.thread (throw_move p y.thread kind)) y new cells d) e
      came)

  pub enter_found : (m : Method) (x : ℕ) (new : KeptThread) (cells : Cells) (d : Did) →
      Some m ≡ slice_get p.methods x →
      Came (performed c n k.thread (call_move p k.thread x (enter_move m k.thread))) k new cells d →
      Came (performed c n k.thread (enters_move p k.thread x)) k new cells d
  enter_found m x new cells d e came = subst (λ (o : Option Method).
      Came (performed c n k.thread (found_move p k.thread x o)) k new cells d) e came
