-- What the instructions of an operation on a lock do one after another, if the thread is fed with words.
use Rattle.std.proofs.Common.{◌≡◌, ℕ, zero, suc, ◌+◌, Bool, ◌∷◌, Some, ap, ◌∙◌, slice_get}
use Rattle.ls_events.specs.declared.action.Action.{Action}
use Rattle.ls_code.specs.Code.{Code}
use Rattle.ls_code.specs.Frame.{top_two}
use Rattle.ls_code.specs.Thread.{Thread}
use Rattle.ls_code.specs.Locks.{taken_of, left_of}
use Rattle.ls_code.specs.Exchanges.{saw, taking_action, dropping_action, take_from, drop_at, drop_named, drop_to}
use Rattle.ls_code.specs.Steps.{fetched_move, thread_move}
use Rattle.ls_code.specs.Fed.{Pause, Paused, TooLong, told_word, carry_plan}
use Rattle.ls_code.specs.Fed as own
use Rattle.ls_code.specs.Reading.{seen, exchanged}
use Rattle.ls_code.specs.declared.step.Mode.TheVariants as mode
use Rattle.ls_code.specs.declared.instruction.Instruction.TheVariants as op
use Rattle.ls_code.specs.declared.lock_word.Taken.{Taken}
use Rattle.ls_code.specs.declared.lock_word.Left.{Left}
use Rattle.ls_preservation.proofs.PartsThere.{Begins, see_move, take_move, take_plan}

module _ (p : Code) (n : ℕ) where
  -- what may follow a silent instruction
  abbrev pub rest : ℕ → Thread → Pause
  rest zero = λ s. TooLong
  rest (suc k) = own.quiet p n k

  -- one instruction of the thread
  pub at : (k : ℕ) (x : Thread) → x.mode ≡ mode.Running → own.quiet p n k x ≡ own.carry n (thread_move p x) (rest k)
  at zero x r = ap (λ m. own.advance p n m x (λ s. TooLong)) r
  at (suc k) x r = ap (λ m. own.advance p n m x (own.quiet p n k)) r

  module _ (y : Thread) (a : ℕ) (running : y.mode ≡ mode.Running) where
    -- SEE asks for the word
    pub sees_is : (x : ℕ) (o : Action ℕ) (shape : Bool) →
        Begins p n y x a o shape →
        (k : ℕ) →
        own.quiet p n k y ≡ Paused o (told_word (saw p y n x o))
    sees_is x o shape b k =
        at k y running ∙ ap (λ d. own.carry n d (rest k)) (see_move p n y a b.rest b.top x b.see) ∙
        ap (λ q. carry_plan q (rest k)) b.plan

    -- what TAKE does after a word
    pub take_is : (x : ℕ) (o : Action ℕ) (shape : Bool) →
        Begins p n y x a o shape →
        slice_get p.instructions (y.top.counter + 1) ≡ Some (op.Take x) →
        taking_action x a ≡ Some o →
        (w : ℕ) (t : Taken) → taken_of w n ≡ t → (k : ℕ) → own.quiet p n k (seen y w) ≡ carry_plan
        (take_from p (seen y w) x o a w t) (rest k)
    take_is x o shape b there eo w t et k =
        at k (seen y w) running ∙ ap (λ d. own.carry n d (rest k)) (take_move p n y a b.rest b.top x w there)
        ∙ ap (λ q. carry_plan q (rest k)) (take_plan p n y a b.rest b.top x w o t eo et)

    -- what DROP does after a word
    pub drop_is : (x v : ℕ) (o : Action ℕ) (shape : Bool) →
        Begins p n y x a o shape →
        slice_get p.instructions (y.top.counter + 1) ≡ Some (op.DropLock v) →
        dropping_action v a ≡ Some o →
        (w : ℕ) (t : Left) → left_of w n ≡ t → (k : ℕ) → own.quiet p n k (seen y w) ≡ carry_plan
        (drop_to (seen y w) o a t) (rest k)
    drop_is x v o shape b there eo w t et k =
        at k (seen y w) running ∙ ap (λ d. own.carry n d (rest k)) (ap (fetched_move p (seen y w)) there)
        ∙ ap (λ l. carry_plan (drop_at (seen y w) n v (top_two (w ∷ l))) (rest k)) b.top
        ∙ ap (λ z. carry_plan (drop_named (seen y w) n a w z) (rest k)) eo ∙
        ap (λ z. carry_plan (drop_to (seen y w) o a z) (rest k)) et

    -- the jump back to SEE
    pub back_is : slice_get p.instructions (y.top.counter + 1 + 1) ≡ Some (op.JumpIfFalse y.top.counter) →
        (k : ℕ) →
        own.quiet p n (suc k) (exchanged y 0) ≡ own.quiet p n k y
    back_is there k = at (suc k) (exchanged y 0) running ∙ ap (λ d. own.carry n d (own.quiet p n k))
        (ap (fetched_move p (exchanged y 0)) there)
