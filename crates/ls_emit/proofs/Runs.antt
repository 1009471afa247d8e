-- What each instruction of a tree's code does, by what follows it.
use Rattle.std.proofs.Common.{◌≡◌, ℕ, suc, ◌+◌, ◌<◌, ◌≤◌, ◌^◌, ◌%◌, List, ◌∷◌, length, Some, Bool, true, false, refl}
use Rattle.std.proofs.Common.{sym, ap, ◌∙◌, subst, arith, slice_get, slice_index, slice_set, nat_eq, if◌then◌else◌}
use Rattle.std.proofs.lemmas.Bool.{lt-ltb}
use Rattle.std.proofs.lemmas.List.{length-set}
use Rattle.std.proofs.lemmas.Option.{slice_get-get_or}
use Rattle.ls_events.specs.declared.kind.Kind.{Kind}
use Rattle.ls_events.specs.declared.kind.Kind.TheVariants.{Arithmetic}
use Rattle.ls_events.specs.declared.action.Action.{Action}
use Rattle.ls_code.specs.declared.instruction.Instruction.{Instruction}
use Rattle.ls_code.specs.declared.instruction.Instruction.TheVariants as op
use Rattle.ls_code.specs.declared.instruction.Resume.{Resume}
use Rattle.ls_code.specs.Thread.{with_top}
use Rattle.ls_code.specs.Moves.{FrameMove, Next, Throws as FrameThrows, Stuck as FrameStuck, Asks as FrameAsks, on_one}
use Rattle.ls_code.specs.Moves.{frame_move, resumed}
use Rattle.ls_code.specs.Fed.{Fed}
use Rattle.ls_lowered.specs.declared.tree.UnaryOperator.{UnaryOperator}
use Rattle.ls_lowered.specs.declared.tree.UnaryOperator.TheVariants.{Negate, Not, ReferenceOf, MarkOf}
use Rattle.ls_lowered.specs.declared.tree.BinaryOperator.{BinaryOperator}
use Rattle.ls_lowered.specs.declared.tree.BinaryOperator.TheVariants as binary
use Rattle.ls_lowered.specs.Course.{Answers, Course, Ends, Outcome, Results, Throws, ask, perform}
use Rattle.ls_lowered.specs.Expressions.{unary_word, binary_word, operate}
use Rattle.ls_emit.specs.Entering.{fed_from}
use Rattle.ls_emit.specs.Expressions.{unary_code, binary_code}
use Rattle.ls_emit.proofs.Told.{After, out, out_then}
use Rattle.ls_emit.proofs.Steps.{Setting, frame, here, raised, Reaches, renamed, next, throws, asks}

module _ (s : Setting) where
  -- a throw at a place from p to p'
  abbrev pub Catches : ℕ → ℕ → Answers → After Kind → Type 0
  Catches p p' q h = (kind : Kind) (ls ops : List ℕ) (rest : Answers) (c : ℕ) → p ≤ c → c < p' → length ls ≡ s.wide →
      length rest ≤ length q → Reaches s (c + 1) (raised s kind c ls ops) rest (h kind ls rest)

  -- a word on the operands at a place
  abbrev pub Takes : ℕ → List ℕ → Answers → After ℕ → Type 0
  Takes p stack q go = (w : ℕ) (ls : List ℕ) (rest : Answers) → length ls ≡ s.wide → length rest ≤ length q →
      Reaches s p (Some (here s p ls (w ∷ stack))) rest (go w ls rest)

  -- throws are caught within a part of the code too, and after fewer answers
  pub narrow : (p p' p1 p1' : ℕ) (q q1 : Answers) (h : After Kind) →
      p ≤ p1 →
      p1' ≤ p' →
      length q1 ≤ length q →
      Catches p p' q h →
      Catches p1 p1' q1 h
  narrow p p' p1 p1' q q1 h lp lq lr catches kind ls ops rest c l1 l2 el l3 = catches kind ls ops rest c (omega arith)
      (omega arith) el (omega arith)

  -- a word is taken at the same place, and after fewer answers
  pub fewer : (p p' : ℕ) (stack : List ℕ) (q q1 : Answers) (go : After ℕ) →
      p ≡ p' →
      length q1 ≤ length q →
      Takes p stack q go →
      Takes p' stack q1 go
  fewer p p' stack q q1 go e lr r = subst (λ n. Takes n stack q1 go) e (λ w ls rest el l. r w ls rest el (omega arith))

  -- PUSH
  pub push_run : (c w : ℕ) (ls stack : List ℕ) (q : Answers) (o : Fed) →
      slice_get s.code.instructions c ≡ Some (op.Push w) →
      length stack < s.base.top.need →
      c < s.budget →
      Reaches s (c + 1) (Some (here s (c + 1) ls (w ∷ stack))) q o →
      Reaches s c (Some (here s c ls stack)) q o
  push_run c w ls stack q o has room lt r =
      next s c (c + 1) (op.Push w) ls stack ls (w ∷ stack) q o has
      (ap (λ b. if b then Next (frame s (c + 1) ls (w ∷ stack)) else FrameStuck)
      (lt-ltb (length stack) s.base.top.need room)) lt r

  -- DUP
  pub dup_run : (c x : ℕ) (ls stack : List ℕ) (q : Answers) (o : Fed) →
      slice_get s.code.instructions c ≡ Some op.Dup →
      suc (length stack) < s.base.top.need →
      c < s.budget →
      Reaches s (c + 1) (Some (here s (c + 1) ls (x ∷ x ∷ stack))) q o →
      Reaches s c (Some (here s c ls (x ∷ stack))) q o
  dup_run c x ls stack q o has room lt r =
      next s c (c + 1) op.Dup ls (x ∷ stack) ls (x ∷ x ∷ stack) q o has
      (ap (λ b. if b then Next (frame s (c + 1) ls (x ∷ x ∷ stack)) else FrameStuck)
      (lt-ltb (suc (length stack)) s.base.top.need room)) lt r

  -- LOAD
  pub load_run : (c n : ℕ) (ls stack : List ℕ) (q : Answers) (o : Fed) →
      slice_get s.code.instructions c ≡ Some (op.Load n) →
      n < s.wide →
      length ls ≡ s.wide →
      length stack < s.base.top.need →
      c < s.budget →
      Reaches s (c + 1) (Some (here s (c + 1) ls (slice_index ls n ∷ stack))) q o →
      Reaches s c (Some (here s c ls stack)) q o
  load_run c n ls stack q o has ln el room lt r =
      let found : slice_get ls n ≡ Some (slice_index ls n) = slice_get-get_or ls n 0 (omega arith) in
      next s c (c + 1) (op.Load n) ls stack ls (slice_index ls n ∷ stack) q o has
      (ap (λ b. if b then (on_one (slice_get ls n) (λ w. Next (frame s (c + 1) ls (w ∷ stack)))) else FrameStuck)
      (lt-ltb (length stack) s.base.top.need room)
      ∙ ap (λ o. on_one o (λ w. Next (frame s (c + 1) ls (w ∷ stack)))) found) lt r

  -- POP
  pub pop_run : (c x : ℕ) (ls stack : List ℕ) (q : Answers) (o : Fed) →
      slice_get s.code.instructions c ≡ Some op.Pop →
      c < s.budget →
      Reaches s (c + 1) (Some (here s (c + 1) ls stack)) q o →
      Reaches s c (Some (here s c ls (x ∷ stack))) q o
  pop_run c x ls stack q o has lt r = next s c (c + 1) op.Pop ls (x ∷ stack) ls stack q o has refl lt r

  -- STORE
  pub store_run : (c n w : ℕ) (ls stack : List ℕ) (q : Answers) (o : Fed) →
      slice_get s.code.instructions c ≡ Some (op.Store n) →
      n < s.wide →
      length ls ≡ s.wide →
      c < s.budget →
      (length (slice_set ls n w) ≡ s.wide → Reaches s (c + 1) (Some (here s (c + 1) (slice_set ls n w) stack)) q o) →
      Reaches s c (Some (here s c ls (w ∷ stack))) q o
  store_run c n w ls stack q o has ln el lt r =
      next s c (c + 1) (op.Store n) ls (w ∷ stack) (slice_set ls n w) stack q o has
      (ap (λ b. if b then Next (frame s (c + 1) (slice_set ls n w) stack) else FrameStuck)
      (lt-ltb n (length ls) (omega arith))) lt (r (length-set ls n w ∙ el))

  -- a jump
  pub jump_run : (c t : ℕ) (ls stack : List ℕ) (q : Answers) (o : Fed) →
      slice_get s.code.instructions c ≡ Some (op.Jump t) →
      c < s.budget →
      Reaches s (c + 1) (Some (here s t ls stack)) q o →
      Reaches s c (Some (here s c ls stack)) q o
  jump_run c t ls stack q o has lt r = next s c t (op.Jump t) ls stack ls stack q o has refl lt r

  -- a choice by the word on top
  branch_by : {C : Type 0} (f : C → Fed) (x y : C) (b : Bool) (c t w : ℕ) (ls stack : List ℕ) (q : Answers) →
      slice_get s.code.instructions c ≡ Some (op.JumpIfFalse t) →
      frame_move (op.JumpIfFalse t) (frame s c ls (w ∷ stack)) ≡
      (if b then Next (frame s t ls stack) else Next (frame s (c + 1) ls stack)) →
      c < s.budget →
      Reaches s (c + 1) (Some (here s t ls stack)) q (f x) →
      Reaches s (c + 1) (Some (here s (c + 1) ls stack)) q (f y) →
      Reaches s c (Some (here s c ls (w ∷ stack))) q (f (if b then x else y))
  branch_by f x y true c t w ls stack q has e lt rx ry = next s c t (op.JumpIfFalse t) ls (w ∷ stack) ls stack q (f x)
      has e lt rx
  branch_by f x y false c t w ls stack q has e lt rx ry = next s c (c + 1) (op.JumpIfFalse t) ls (w ∷ stack) ls stack q
      (f y) has e lt ry

  -- a conditional jump
  pub branch_run : {C : Type 0} (f : C → Fed) (x y : C) (c t w : ℕ) (ls stack : List ℕ) (q : Answers) →
      slice_get s.code.instructions c ≡ Some (op.JumpIfFalse t) →
      c < s.budget →
      Reaches s (c + 1) (Some (here s t ls stack)) q (f x) →
      Reaches s (c + 1) (Some (here s (c + 1) ls stack)) q (f y) →
      Reaches s c (Some (here s c ls (w ∷ stack))) q (f (if nat_eq w 0 then x else y))
  branch_run f x y c t w ls stack q has lt rx ry = branch_by f x y (nat_eq w 0) c t w ls stack q has refl lt rx ry

  -- a throw, or else
  pub throw_or : (b : Bool) (kind : Kind) (m : FrameMove) (x : Course (Outcome ℕ)) (c : ℕ) (i : Instruction)
      (ls ops : List ℕ) (q : Answers) (go : After ℕ) (h : After Kind) →
      slice_get s.code.instructions c ≡ Some i →
      frame_move i (frame s c ls ops) ≡ (if b then FrameThrows kind else m) →
      c < s.budget →
      length ls ≡ s.wide →
      Catches c (c + 1) q h →
      (frame_move i (frame s c ls ops) ≡ m → Reaches s c (Some (here s c ls ops)) q (out x go h)) →
      Reaches s c (Some (here s c ls ops)) q (out (if b then Ends (Throws kind) ls q else x) go h)
  throw_or true kind m x c i ls ops q go h has e lt el catches r = throws s c kind i ls ops q (h kind ls q) has e lt
      (catches kind ls ops q c (omega arith) (omega arith) el (omega arith))
  throw_or false kind m x c i ls ops q go h has e lt el catches r = r e

  -- an action, and its word
  pub acts_on : (action : Action ℕ) (r : Resume) (ops' : ℕ → List ℕ) (c : ℕ) (i : Instruction) (ls ops : List ℕ)
      (q : Answers) (go : After ℕ) (h : After Kind) →
      slice_get s.code.instructions c ≡ Some i →
      frame_move i (frame s c ls ops) ≡ FrameAsks action r →
      ((w : ℕ) → resumed r (frame s c ls ops) w ≡ frame s (c + 1) ls (ops' w)) →
      length ls ≡ s.wide →
      ((w : ℕ) (rest : Answers) → length rest ≤ length q → Reaches s (c + 1) (Some (here s (c + 1) ls (ops' w))) rest
      (go w ls rest)) →
      Catches c (c + 1) q h →
      Reaches s c (Some (here s c ls ops)) q (out (ask action ls q) go h)
  acts_on action r ops' c i ls ops q go h has e after el goes catches n le =
      let inside = s.inside in
      asks s c i ls ops action r q go h has e
      (λ w rest l. ap (λ f. fed_from s.code s.number s.bound s.bound (Some (with_top (here s c ls ops) f)) rest)
      (after w) ∙ goes w rest (omega arith) s.bound (omega arith))
      (λ kind rest l. catches kind ls ops rest c (omega arith) (omega arith) el (omega arith) s.bound (omega arith)) n

  -- an action, then a 0 in place of its word
  pub performs : (action : Action ℕ) (r : Resume) (stack : List ℕ) (c : ℕ) (i : Instruction) (ls ops : List ℕ)
      (q : Answers) (go : After ℕ) (h : After Kind) →
      slice_get s.code.instructions c ≡ Some i →
      slice_get s.code.instructions (c + 1) ≡ Some (op.Push 0) →
      frame_move i (frame s c ls ops) ≡ FrameAsks action r →
      ((w : ℕ) → resumed r (frame s c ls ops) w ≡ frame s (c + 1) ls stack) →
      length ls ≡ s.wide →
      length stack < s.base.top.need →
      c + 1 < s.budget →
      Takes (c + 1 + 1) stack q go →
      Catches c (c + 1) q h →
      Reaches s c (Some (here s c ls ops)) q (out (perform action ls q) go h)
  performs action r stack c i ls ops q go h has has1 e after el room lt takes catches =
      renamed s c ls ops q _ _ (sym (out_then (ask action ls q) (λ word ls rest. Ends (Results 0) ls rest) go h))
      (acts_on action r (λ w. stack) c i ls ops q (λ w ls q. go 0 ls q) h has e after el
      (λ w rest l. push_run (c + 1) 0 ls stack rest (go 0 ls rest) has1 room lt (takes 0 ls rest el l)) catches)

  -- a word in place of others
  pub settle_run : (w c : ℕ) (i : Instruction) (ls ops stack : List ℕ) (q : Answers) (go : After ℕ) →
      slice_get s.code.instructions c ≡ Some i →
      frame_move i (frame s c ls ops) ≡ Next (frame s (c + 1) ls (w ∷ stack)) →
      c < s.budget →
      length ls ≡ s.wide →
      Takes (c + 1) stack q go →
      Reaches s c (Some (here s c ls ops)) q (go w ls q)
  settle_run w c i ls ops stack q go has e lt el takes = next s c (c + 1) i ls ops ls (w ∷ stack) q (go w ls q) has e lt
      (takes w ls q el (omega arith))

  -- an operator on one word
  pub unary_run : (o : UnaryOperator) (c x : ℕ) (ls stack : List ℕ) (q : Answers) (go : After ℕ) →
      slice_get s.code.instructions c ≡ Some (unary_code o) →
      c < s.budget →
      length ls ≡ s.wide →
      Takes (c + 1) stack q go →
      Reaches s c (Some (here s c ls (x ∷ stack))) q (go (unary_word o x) ls q)
  unary_run Negate c x ls stack q go has lt el takes = settle_run _ c op.Neg ls (x ∷ stack) stack q go has refl lt el
      takes
  unary_run Not c x ls stack q go has lt el takes = settle_run _ c op.Not ls (x ∷ stack) stack q go has refl lt el takes
  unary_run ReferenceOf c x ls stack q go has lt el takes = settle_run _ c op.ReferenceOf ls (x ∷ stack) stack q go has
      refl lt el takes
  unary_run MarkOf c x ls stack q go has lt el takes = settle_run _ c op.MarkOf ls (x ∷ stack) stack q go has refl lt el
      takes

  divide_run : (o : BinaryOperator) (i : Instruction) (c x y : ℕ) (ls stack : List ℕ) (q : Answers) (go : After ℕ)
      (h : After Kind) →
      slice_get s.code.instructions c ≡ Some i →
      frame_move i (frame s c ls (y ∷ x ∷ stack)) ≡ (if nat_eq (y % 2 ^ 32) 0 then FrameThrows Arithmetic else
      Next (frame s (c + 1) ls (binary_word o x y ∷ stack))) →
      c < s.budget →
      length ls ≡ s.wide →
      Takes (c + 1) stack q go →
      Catches c (c + 1) q h →
      Reaches s c (Some (here s c ls (y ∷ x ∷ stack))) q (out
      (if nat_eq (y % 2 ^ 32) 0 then Ends (Throws Arithmetic) ls q else Ends (Results (binary_word o x y)) ls q) go
      h)
  divide_run o i c x y ls stack q go h has e lt el takes catches =
      throw_or (nat_eq (y % 2 ^ 32) 0) Arithmetic (Next (frame s (c + 1) ls (binary_word o x y ∷ stack)))
      (Ends (Results (binary_word o x y)) ls q) c i ls (y ∷ x ∷ stack) q go h has e lt el catches
      (λ e1. settle_run (binary_word o x y) c i ls (y ∷ x ∷ stack) stack q go has e1 lt el takes)

  -- an operator on two words
  pub binary_run : (o : BinaryOperator) (c x y : ℕ) (ls stack : List ℕ) (q : Answers) (go : After ℕ) (h : After Kind) →
      slice_get s.code.instructions c ≡ Some (binary_code o) →
      c < s.budget →
      length ls ≡ s.wide →
      Takes (c + 1) stack q go →
      Catches c (c + 1) q h →
      Reaches s c (Some (here s c ls (y ∷ x ∷ stack))) q (out (operate o x y ls q) go h)
  binary_run binary.Add c x y ls stack q go h has lt el takes catches = settle_run _ c op.Add ls (y ∷ x ∷ stack) stack q
      go has refl lt el takes
  binary_run binary.Subtract c x y ls stack q go h has lt el takes catches = settle_run _ c op.Sub ls (y ∷ x ∷ stack)
      stack q go has refl lt el takes
  binary_run binary.Multiply c x y ls stack q go h has lt el takes catches = settle_run _ c op.Mul ls (y ∷ x ∷ stack)
      stack q go has refl lt el takes
  binary_run binary.Divide c x y ls stack q go h has lt el takes catches = divide_run binary.Divide op.Div c x y ls
      stack q go h has refl lt el takes catches
  binary_run binary.Remainder c x y ls stack q go h has lt el takes catches = divide_run binary.Remainder op.Remainder c
      x y ls stack q go h has refl lt el takes catches
  binary_run binary.Less c x y ls stack q go h has lt el takes catches = settle_run _ c op.Lt ls (y ∷ x ∷ stack) stack q
      go has refl lt el takes
  binary_run binary.LessEqual c x y ls stack q go h has lt el takes catches = settle_run _ c op.Le ls (y ∷ x ∷ stack)
      stack q go has refl lt el takes
  binary_run binary.Greater c x y ls stack q go h has lt el takes catches = settle_run _ c op.Gt ls (y ∷ x ∷ stack)
      stack q go has refl lt el takes
  binary_run binary.GreaterEqual c x y ls stack q go h has lt el takes catches = settle_run _ c op.Ge ls (y ∷ x ∷ stack)
      stack q go has refl lt el takes
  binary_run binary.Equal c x y ls stack q go h has lt el takes catches = settle_run _ c op.Eq ls (y ∷ x ∷ stack) stack
      q go has refl lt el takes
  binary_run binary.NotEqual c x y ls stack q go h has lt el takes catches = settle_run _ c op.Ne ls (y ∷ x ∷ stack)
      stack q go has refl lt el takes
  binary_run binary.Pack c x y ls stack q go h has lt el takes catches = settle_run _ c op.Pack ls (y ∷ x ∷ stack) stack
      q go has refl lt el takes
