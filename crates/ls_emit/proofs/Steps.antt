-- One instruction of a fed thread.
use Rattle.std.proofs.Common.{◌≡◌, ℕ, zero, suc, ◌+◌, ◌<◌, ◌≤◌, List, [], ◌∷◌, length, Option, Some, None, refl, ap}
use Rattle.std.proofs.Common.{◌∙◌, subst, arith, slice_get, Bool, true, false}
use Rattle.ls_events.specs.declared.kind.Kind.{Kind}
use Rattle.ls_events.specs.declared.action.Action.{Action}
use Rattle.ls_events.specs.declared.action.Answer.{Answer}
use Rattle.ls_events.specs.declared.action.Answer.TheVariants.{Done, Gives, Fails}
use Rattle.ls_code.specs.declared.instruction.Instruction.{Instruction}
use Rattle.ls_code.specs.declared.instruction.Resume.{Resume}
use Rattle.ls_code.specs.declared.step.Mode.TheVariants as mode
use Rattle.ls_code.specs.Code.{Code}
use Rattle.ls_code.specs.Frame.{Frame}
use Rattle.ls_code.specs.Thread.{Thread, with_top}
use Rattle.ls_code.specs.Throws.{thrown}
use Rattle.ls_code.specs.Moves.{FrameMove, Next, Throws, Asks as FrameAsks, frame_move, resumed}
use Rattle.ls_code.specs.Steps.{Asks as ThreadAsks, silent_or_still, thrown_thread, answered, of_frame, fetched_move}
use Rattle.ls_code.specs.Steps.{thread_move}
use Rattle.ls_code.specs.Fed.{Fed, Pause, Paused, TooLong, carry_on}
use Rattle.ls_code.specs.Reading.{whole_move, read_move, begins_early, carry, quiet, quiet_from, resume}
use Rattle.ls_lowered.specs.LoweredTree.{File}
use Rattle.ls_lowered.specs.Course.{Answers, Calls, ask}
use Rattle.ls_emit.specs.Entering.{fed_from}
use Rattle.ls_emit.proofs.Told.{After, out}

-- Where code runs. The whole code. The thread, but not the place, the locals and the operands of its innermost frame.
-- What entering a method does, how many locals the frame has, and what is left of the bound at place 0.
pub record Setting : Type 0 where
  pub file : File
  pub code : Code
  pub number : ℕ
  pub bound : ℕ
  pub base : Thread
  pub calls : Calls
  pub wide : ℕ
  pub budget : ℕ
  pub inside : budget ≤ bound

carried : (m e : Bool) (u : Option Thread) (next : Thread → Pause) →
    carry m e (silent_or_still u) next ≡ carry_on u next
carried m e None next = refl
carried m e (Some t) next = refl

read_silent : (c : Code) (number : ℕ) (t : Thread) (u : Option Thread) →
    read_move c number t (silent_or_still u) ≡ silent_or_still u
read_silent c number t None = refl
read_silent c number t (Some x) = refl

from_quiet : (c : Code) (number bound : ℕ) (u : Option Thread) →
    quiet_from c number bound u ≡ carry_on u (quiet c number bound)
from_quiet c number bound None = refl
from_quiet c number bound (Some t) = refl

-- the thread at a place of its innermost frame, with these locals and operands
abbrev pub standing : Thread → ℕ → List ℕ → List ℕ → Thread
standing t p ls ops = record {
  top = record { counter = p; locals = ls; operands = ops; need = t.top.need };
  below = t.below;
  mode = mode.Running;
  calls = t.calls;
  ended = t.ended;
  pending = t.pending;
}

module _ (c : Code) (number bound : ℕ) (t : Thread) (p : ℕ) (ls ops : List ℕ) where
  -- a silent instruction, as the reading has it
  pub silently : (u : Option Thread) (q : Answers) (n : ℕ) →
      whole_move c number (standing t p ls ops) ≡ silent_or_still u →
      fed_from c number bound (suc n) (Some (standing t p ls ops)) q ≡ fed_from c number bound n u q
  silently u q n e =
      ap (λ m. resume c number bound q (carry true (begins_early (thread_move c (standing t p ls ops))) m
      (quiet c number n))) e
      ∙ ap (λ x. resume c number bound q x) (carried true (begins_early (thread_move c (standing t p ls ops))) u
      (quiet c number n))

  -- a silent instruction takes one step of the bound
  pub silent_step : (u : Option Thread) (q : Answers) (n : ℕ) →
      thread_move c (standing t p ls ops) ≡ silent_or_still u →
      fed_from c number bound (suc n) (Some (standing t p ls ops)) q ≡ fed_from c number bound n u q
  silent_step u q n e = silently u q n (ap (read_move c number (standing t p ls ops)) e ∙
      read_silent c number (standing t p ls ops) u)

  acting : (action : Action ℕ) (go : Answer ℕ → Option Thread) →
      thread_move c (standing t p ls ops) ≡ ThreadAsks action go →
      (n : ℕ) →
      quiet c number n (standing t p ls ops) ≡ Paused action go
  acting action go e zero = ap (λ m. carry false (begins_early m) (read_move c number (standing t p ls ops) m)
      (λ t. TooLong)) e
  acting action go e (suc n) = ap (λ m. carry true (begins_early m) (read_move c number (standing t p ls ops) m)
      (quiet c number n)) e

  -- an action, and what its answer makes of the thread
  pub acts : (action : Action ℕ) (go : Answer ℕ → Option Thread) (q : Answers) (n : ℕ) →
      thread_move c (standing t p ls ops) ≡ ThreadAsks action go →
      fed_from c number bound n (Some (standing t p ls ops)) q ≡ resume c number bound q (Paused action go)
  acts action go q n e = ap (λ x. resume c number bound q x) (acting action go e n)

  early_is : (e : Bool) (action : Action ℕ) (go : Answer ℕ → Option Thread) (next : Thread → Pause) →
      carry true e (ThreadAsks action go) next ≡ Paused action go
  early_is true action go next = refl
  early_is false action go next = refl

  -- an operation of several instructions, if one more silent instruction is allowed
  pub begins : (action : Action ℕ) (go : Answer ℕ → Option Thread) (q : Answers) (n : ℕ) →
      whole_move c number (standing t p ls ops) ≡ ThreadAsks action go →
      fed_from c number bound (suc n) (Some (standing t p ls ops)) q ≡ resume c number bound q (Paused action go)
  begins action go q n e =
      ap (λ m. resume c number bound q (carry true (begins_early (thread_move c (standing t p ls ops))) m
      (quiet c number n))) e
      ∙ ap (λ x. resume c number bound q x) (early_is (begins_early (thread_move c (standing t p ls ops))) action go
      (quiet c number n))

  -- the move of the instruction at a place
  pub move_at : (i : Instruction) (m : FrameMove) →
      slice_get c.instructions p ≡ Some i →
      frame_move i (standing t p ls ops).top ≡ m →
      thread_move c (standing t p ls ops) ≡ of_frame c (standing t p ls ops) m
  move_at i m has e = ap (fetched_move c (standing t p ls ops)) has ∙ ap (of_frame c (standing t p ls ops)) e

module _ (s : Setting) where
  -- the innermost frame at a place, with these locals and operands
  abbrev pub frame : ℕ → List ℕ → List ℕ → Frame
  frame p ls ops = record { counter = p; locals = ls; operands = ops; need = s.base.top.need }

  -- the thread at a place, with these locals and operands
  abbrev pub here : ℕ → List ℕ → List ℕ → Thread
  here p ls ops = standing s.base p ls ops

  -- after a throw at a place
  abbrev pub raised : Kind → ℕ → List ℕ → List ℕ → Option Thread
  raised kind p ls ops = thrown_thread (here p ls ops) (thrown s.code.handlers kind (frame p ls ops ∷ s.base.below))

  -- with what is left of the bound at place p: budget - p steps at least
  abbrev pub Reaches : ℕ → Option Thread → Answers → Fed → Type 0
  Reaches p t q o = (n : ℕ) → s.budget ≤ n + p → fed_from s.code s.number s.bound n t q ≡ o

  -- another name of the outcome, of the place, and a place further on
  pub same : (p : ℕ) (t : Option Thread) (q : Answers) (o o' : Fed) → o ≡ o' → Reaches p t q o → Reaches p t q o'
  same p t q o o' e r n le = r n le ∙ e

  -- another name of the outcome
  pub renamed : (p : ℕ) (ls ops : List ℕ) (q : Answers) (o o' : Fed) →
      o ≡ o' →
      Reaches p (Some (here p ls ops)) q o →
      Reaches p (Some (here p ls ops)) q o'
  renamed p ls ops q o o' e r n le = r n le ∙ e

  -- at an earlier place more of the bound is left
  pub later : (p p' : ℕ) (t : Option Thread) (q : Answers) (o : Fed) → p' ≤ p → Reaches p t q o → Reaches p' t q o
  later p p' t q o le r n l = r n (omega arith)

  -- another name of the place
  pub at_place : (p p' : ℕ) (ls ops : List ℕ) (q : Answers) (o : Fed) →
      p ≡ p' →
      Reaches p (Some (here p ls ops)) q o →
      Reaches p' (Some (here p' ls ops)) q o
  at_place p p' ls ops q o e r = subst (λ n. Reaches n (Some (here n ls ops)) q o) e r

  -- a silent instruction
  pub silent : (p : ℕ) (ls ops : List ℕ) (u : Option Thread) (q : Answers) (o : Fed) →
      thread_move s.code (here p ls ops) ≡ silent_or_still u →
      p < s.budget →
      Reaches (p + 1) u q o →
      Reaches p (Some (here p ls ops)) q o
  silent p ls ops u q o e lt r zero le = absurd (let f : ⊥ = omega arith in f)
  silent p ls ops u q o e lt r (suc n) le = silent_step s.code s.number s.bound s.base p ls ops u q n e ∙
      r n (omega arith)

  -- on in silence, to the next place or by a jump
  pub next : (p t : ℕ) (i : Instruction) (ls ops ls' ops' : List ℕ) (q : Answers) (o : Fed) →
      slice_get s.code.instructions p ≡ Some i →
      frame_move i (frame p ls ops) ≡ Next (frame t ls' ops') →
      p < s.budget →
      Reaches (p + 1) (Some (here t ls' ops')) q o →
      Reaches p (Some (here p ls ops)) q o
  next p t i ls ops ls' ops' q o has e lt r = silent p ls ops (Some (here t ls' ops')) q o
      (move_at s.code s.number s.bound s.base p ls ops i (Next (frame t ls' ops')) has e) lt r

  -- an instruction that throws
  pub throws : (p : ℕ) (kind : Kind) (i : Instruction) (ls ops : List ℕ) (q : Answers) (o : Fed) →
      slice_get s.code.instructions p ≡ Some i →
      frame_move i (frame p ls ops) ≡ Throws kind →
      p < s.budget →
      Reaches (p + 1) (raised kind p ls ops) q o →
      Reaches p (Some (here p ls ops)) q o
  throws p kind i ls ops q o has e lt r = silent p ls ops (raised kind p ls ops) q o
      (move_at s.code s.number s.bound s.base p ls ops i (Throws kind) has e) lt r

  -- after an answer the bound begins anew
  pub answers_from : (u : Option Thread) (q : Answers) →
      resume s.code s.number s.bound q (quiet_from s.code s.number s.bound u) ≡ fed_from s.code s.number s.bound s.bound
      u q
  answers_from u q = ap (λ x. resume s.code s.number s.bound q x) (from_quiet s.code s.number s.bound u)

  answers_run : (p : ℕ) (ls ops : List ℕ) (action : Action ℕ) (r : Resume) (q : Answers) (go : After ℕ) (h : After Kind)
      →
      ((w : ℕ) (rest : Answers) → length rest < length q → fed_from s.code s.number s.bound s.bound
      (Some (with_top (here p ls ops) (resumed r (frame p ls ops) w))) rest ≡ go w ls rest) →
      ((kind : Kind) (rest : Answers) → length rest < length q →
      fed_from s.code s.number s.bound s.bound (raised kind p ls ops) rest ≡ h kind ls rest) →
      resume s.code s.number s.bound q (Paused action (answered s.code (here p ls ops) r)) ≡ out (ask action ls q) go h
  answers_run p ls ops action r [] go h a b = refl
  answers_run p ls ops action r (Done ∷ rest) go h a b = a 0 rest (omega arith)
  answers_run p ls ops action r (Gives w ∷ rest) go h a b = a w rest (omega arith)
  answers_run p ls ops action r (Fails kind ∷ rest) go h a b = answers_from (raised kind p ls ops) rest ∙
      b kind rest (omega arith)

  -- an instruction that asks for an action
  pub asks : (p : ℕ) (i : Instruction) (ls ops : List ℕ) (action : Action ℕ) (r : Resume) (q : Answers) (go : After ℕ)
      (h : After Kind) →
      slice_get s.code.instructions p ≡ Some i →
      frame_move i (frame p ls ops) ≡ FrameAsks action r →
      ((w : ℕ) (rest : Answers) → length rest < length q → fed_from s.code s.number s.bound s.bound
      (Some (with_top (here p ls ops) (resumed r (frame p ls ops) w))) rest ≡ go w ls rest) →
      ((kind : Kind) (rest : Answers) → length rest < length q →
      fed_from s.code s.number s.bound s.bound (raised kind p ls ops) rest ≡ h kind ls rest) →
      (n : ℕ) →
      fed_from s.code s.number s.bound n (Some (here p ls ops)) q ≡ out (ask action ls q) go h
  asks p i ls ops action r q go h has e a b n =
      acts s.code s.number s.bound s.base p ls ops action (answered s.code (here p ls ops) r) q n
      (move_at s.code s.number s.bound s.base p ls ops i (FrameAsks action r) has e)
      ∙ answers_run p ls ops action r q go h a b
