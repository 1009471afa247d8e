-- The code of an expression asks for what the expression asks for.
use Rattle.std.proofs.Common.{◌≡◌, ℕ, suc, ◌+◌, ◌<◌, ◌≤◌, max, pos, List, ◌∷◌, ◌++◌, length, reverse, Option, Some}
use Rattle.std.proofs.Common.{None, refl, sym, ap, ◌∙◌, arith, slice_get, nat_eq, int_lt, if◌then◌else◌}
use Rattle.ls_events.specs.declared.kind.Kind.{Kind}
use Rattle.ls_events.specs.declared.kind.Kind.TheVariants.{NullPointer, NegativeArraySize}
use Rattle.ls_events.specs.declared.action.Action.{Action}
use Rattle.ls_events.specs.declared.action.Action.TheVariants as act
use Rattle.ls_code.specs.declared.instruction.Instruction.{Instruction}
use Rattle.ls_code.specs.declared.instruction.Instruction.TheVariants as op
use Rattle.ls_code.specs.declared.instruction.Resume.{Resume}
use Rattle.ls_code.specs.declared.instruction.Resume.TheVariants as then
use Rattle.ls_code.specs.Moves.{FrameMove, Asks as FrameAsks, frame_move, resumed}
use Rattle.ls_lowered.specs.LoweredTree.{Expression, Word, Local, Unary, Binary, And, Or, Hold, Keep}
use Rattle.ls_lowered.specs.LoweredTree.{After as Afterwards, Field, Item, SetFirst, ReadPair, SetPair, SwapPair}
use Rattle.ls_lowered.specs.LoweredTree.{AttemptMark, OnLock, Call, MakeObject, MakeLock, MakeMarkable, MakeArray}
use Rattle.ls_lowered.specs.LoweredTree.{Expressions}
use Rattle.ls_lowered.specs.Words.{int_of}
use Rattle.ls_lowered.specs.Course.{Answers, Course, Outcome, and_then, ask, perform, unless_null, returned}
use Rattle.ls_lowered.specs.Expressions.{make_array, evaluate, evaluate_all}
use Rattle.ls_emit.specs.Expressions.{size, all_size, code, all_code}
use Rattle.ls_emit.specs.Needs.{need, all_need}
use Rattle.ls_emit.specs.Emittable.{count, IsEmittable, AreEmittable, TakesIn}
use Rattle.ls_emit.specs.Entering.{TakesAll}
use Rattle.ls_lowered.specs.LoweredTree.{Method}
use Rattle.ls_emit.proofs.Places.{HasAt, has_front, has_after, size_is}
use Rattle.ls_emit.proofs.Told.{After, out, out_then}
use Rattle.ls_emit.proofs.Steps.{Setting, frame, here, Reaches, renamed}
use Rattle.ls_emit.proofs.Runs.{Catches, Takes, narrow, throw_or, acts_on, performs}

-- a method takes `this` and the arguments that the tree gives it
pub takes_all : (o : Option Method) (this : ℕ) (values : List ℕ) (n : ℕ) →
    TakesIn o (suc n) →
    length values ≡ n →
    TakesAll o (this ∷ values)
takes_all None this values n t e = t
takes_all (Some g) this values n t e = ap suc e ∙ t

mutual
  -- each expression needs an operand
  pub one_need : (e : Expression) → 1 ≤ need e
  one_need (Word w) = omega arith
  one_need (Local n) = omega arith
  one_need (Unary o e) = one_need e
  one_need (Binary o a b) = omega (arith, one_need a)
  one_need (And a b) = omega (arith, one_need a)
  one_need (Or a b) = omega (arith, one_need a)
  one_need (Hold a n b) = omega (arith, one_need a)
  one_need (Keep n a b) = omega (arith, one_need a)
  one_need (Afterwards a b) = omega (arith, one_need a)
  one_need (Field e f) = one_need e
  one_need (Item a i) = omega (arith, one_need a)
  one_need (SetFirst a e) = omega (arith, one_need a)
  one_need (ReadPair e) = one_need e
  one_need (SetPair e a) = omega (arith, one_need e)
  one_need (SwapPair e a b) = omega (arith, one_need e)
  one_need (AttemptMark e a b) = omega (arith, one_need e)
  one_need (OnLock o e) = omega (arith, one_need e)
  one_need (Call m e es) = omega (arith, one_need e)
  one_need (MakeObject c m es) = omega arith
  one_need MakeLock = omega arith
  one_need (MakeMarkable e) = one_need e
  one_need (MakeArray e) = one_need e

module _ (s : Setting) where
  abbrev Whole : List Instruction
  Whole = s.code.instructions

  -- what an instruction that enters a method does, at null too
  abbrev pub EnterRuns : Type 0
  EnterRuns = (c m this : ℕ) (values ls stack : List ℕ) (q : Answers) (go : After ℕ) (h : After Kind) →
      TakesAll (slice_get s.file m) (this ∷ values) → c < s.budget →
      slice_get s.code.instructions c ≡ Some (op.Enter m) → length stack < s.base.top.need → length ls ≡ s.wide →
      Takes s (c + 1) stack q go → Catches s c (c + 1) q h →
      Reaches s c (Some (here s c ls (reverse (this ∷ values) ++ stack))) q
      (out (unless_null this ls q (returned ls (s.calls m (this ∷ values) q))) go h)

  -- what an expression's code at p does
  abbrev pub Runs : Expression → ℕ → Type 0
  Runs e p = (ls stack : List ℕ) (q : Answers) (go : After ℕ) (h : After Kind) →
      HasAt s.code.instructions p (code p e) → IsEmittable s.file s.wide e → length stack + need e ≤ s.base.top.need →
      p + size e ≤ s.budget → length ls ≡ s.wide → Takes s (p + size e) stack q go → Catches s p (p + size e) q h →
      Reaches s p (Some (here s p ls stack)) q (out (evaluate s.calls e ls q) go h)

  -- what the code of arguments at p does
  abbrev pub AllRun : Expressions → ℕ → Type 0
  AllRun es p = (ls stack : List ℕ) (q : Answers) (go : After (List ℕ)) (h : After Kind) →
      HasAt s.code.instructions p (all_code p es) → AreEmittable s.file s.wide es →
      length stack + all_need es ≤ s.base.top.need → p + all_size es ≤ s.budget → length ls ≡ s.wide →
      ((ws ls1 : List ℕ) (rest : Answers) → length ws ≡ count es → length ls1 ≡ s.wide → length rest ≤ length q →
      Reaches s (p + all_size es) (Some (here s (p + all_size es) ls1 (reverse ws ++ stack))) rest (go ws ls1 rest)) →
      Catches s p (p + all_size es) q h → Reaches s p (Some (here s p ls stack)) q
      (out (evaluate_all s.calls es ls q) go h)

  -- an expression, and what is done with its word
  pub first_run : {A : Type 0} (e : Expression) (p : ℕ) (is : List Instruction)
      (f : ℕ → List ℕ → Answers → Course (Outcome A)) (ls stack : List ℕ) (q : Answers) (go : After A)
      (h : After Kind) →
      Runs e p →
      HasAt s.code.instructions p (code p e ++ is) →
      IsEmittable s.file s.wide e →
      length stack + need e ≤ s.base.top.need →
      p + size e ≤ s.budget →
      length ls ≡ s.wide →
      Catches s p (p + size e) q h →
      ((x : ℕ) (ls1 : List ℕ) (rest : Answers) → length ls1 ≡ s.wide → length rest ≤ length q →
      Reaches s (p + size e) (Some (here s (p + size e) ls1 (x ∷ stack))) rest (out (f x ls1 rest) go h)) →
      Reaches s p (Some (here s p ls stack)) q (out (and_then (evaluate s.calls e ls q) f) go h)
  first_run e p is f ls stack q go h runs has fits room le el catches r =
      renamed s p ls stack q _ _ (sym (out_then (evaluate s.calls e ls q) f go h))
      (runs ls stack q (λ w ls1 q1. out (f w ls1 q1) go h) h (has_front s.code.instructions p (code p e) is has) fits
      room le el r catches)

  -- two expressions
  pub two_run : {A : Type 0} (a b : Expression) (p : ℕ) (is : List Instruction)
      (f : ℕ → ℕ → List ℕ → Answers → Course (Outcome A)) (ls stack : List ℕ) (q : Answers) (go : After A)
      (h : After Kind) →
      Runs a p →
      Runs b (p + size a) →
      HasAt s.code.instructions p (code p a ++ (code (p + size a) b ++ is)) →
      IsEmittable s.file s.wide a →
      IsEmittable s.file s.wide b →
      length stack + max (need a) (1 + need b) ≤ s.base.top.need →
      p + size a + size b ≤ s.budget →
      length ls ≡ s.wide →
      Catches s p (p + size a + size b) q h →
      ((x y : ℕ) (ls1 : List ℕ) (rest : Answers) → length ls1 ≡ s.wide → length rest ≤ length q →
      Reaches s (p + size a + size b) (Some (here s (p + size a + size b) ls1 (y ∷ x ∷ stack))) rest
      (out (f x y ls1 rest) go h)) →
      Reaches s p (Some (here s p ls stack)) q
      (out (and_then (evaluate s.calls a ls q) (λ x ls q. and_then (evaluate s.calls b ls q) (f x))) go h)
  two_run a b p is f ls stack q go h ra rb has fa fb room le el catches r =
      first_run a p (code (p + size a) b ++ is) (λ x ls q. and_then (evaluate s.calls b ls q) (f x)) ls stack q go h ra
      has fa (omega arith) (omega arith) el (narrow s p (p + size a + size b) p (p + size a) q q h (omega arith)
      (omega arith) (omega arith) catches)
      (λ x ls1 q1 e1 l1. first_run b (p + size a) is (f x) ls1 (x ∷ stack) q1 go h rb
      (has_after s.code.instructions p (size a) (code p a) _ (size_is a p) has) fb (omega arith) (omega arith) e1
      (narrow s p (p + size a + size b) (p + size a) (p + size a + size b) q q1 h (omega arith) (omega arith) l1
      catches)
      (λ y ls2 q2 e2 l2. r x y ls2 q2 e2 (omega arith)))

  -- the code after one expression, after two and after three
  pub behind : (a : Expression) (p : ℕ) (is : List Instruction) →
      HasAt s.code.instructions p (code p a ++ is) →
      HasAt s.code.instructions (p + size a) is
  behind a p is has = has_after s.code.instructions p (size a) (code p a) is (size_is a p) has

  -- the code after two expressions
  pub behind_two : (a b : Expression) (p : ℕ) (is : List Instruction) →
      HasAt s.code.instructions p (code p a ++ (code (p + size a) b ++ is)) →
      HasAt s.code.instructions (p + size a + size b) is
  behind_two a b p is has = behind b (p + size a) is (behind a p (code (p + size a) b ++ is) has)

  -- an action on an object
  pub object_run : (action : Action ℕ) (r : Resume) (c : ℕ) (i : Instruction) (x : ℕ) (ls ops stack : List ℕ)
      (q : Answers) (go : After ℕ) (h : After Kind) →
      slice_get s.code.instructions c ≡ Some i →
      frame_move i (frame s c ls ops) ≡ (if nat_eq x 0 then FrameMove.Throws NullPointer else FrameAsks action r) →
      ((w : ℕ) → resumed r (frame s c ls ops) w ≡ frame s (c + 1) ls (w ∷ stack)) →
      c < s.budget →
      length ls ≡ s.wide →
      Takes s (c + 1) stack q go →
      Catches s c (c + 1) q h →
      Reaches s c (Some (here s c ls ops)) q (out (unless_null x ls q (ask action ls q)) go h)
  object_run action r c i x ls ops stack q go h has e after lt el takes catches =
      throw_or s (nat_eq x 0) NullPointer (FrameAsks action r) (ask action ls q) c i ls ops q go h has e lt el catches
      (λ e1. acts_on s action r (λ w. w ∷ stack) c i ls ops q go h has e1 after el (λ w rest l. takes w ls rest el l)
      catches)

  -- one without a word
  pub object_performs : (action : Action ℕ) (r : Resume) (c : ℕ) (i : Instruction) (x : ℕ) (ls ops stack : List ℕ)
      (q : Answers) (go : After ℕ) (h : After Kind) →
      slice_get s.code.instructions c ≡ Some i →
      slice_get s.code.instructions (c + 1) ≡ Some (op.Push 0) →
      frame_move i (frame s c ls ops) ≡ (if nat_eq x 0 then FrameMove.Throws NullPointer else FrameAsks action r) →
      ((w : ℕ) → resumed r (frame s c ls ops) w ≡ frame s (c + 1) ls stack) →
      c + 1 < s.budget →
      length stack < s.base.top.need →
      length ls ≡ s.wide →
      Takes s (c + 1 + 1) stack q go →
      Catches s c (c + 1) q h →
      Reaches s c (Some (here s c ls ops)) q (out (unless_null x ls q (perform action ls q)) go h)
  object_performs action r c i x ls ops stack q go h has has1 e after lt room el takes catches =
      throw_or s (nat_eq x 0) NullPointer (FrameAsks action r) (perform action ls q) c i ls ops q go h has e
      (omega arith) el catches
      (λ e1. performs s action r stack c i ls ops q go h has has1 e1 after el room lt takes catches)

  -- the making of an array
  pub array_run : (c n : ℕ) (ls stack : List ℕ) (q : Answers) (go : After ℕ) (h : After Kind) →
      slice_get s.code.instructions c ≡ Some op.NewArray →
      c < s.budget →
      length ls ≡ s.wide →
      Takes s (c + 1) stack q go →
      Catches s c (c + 1) q h →
      Reaches s c (Some (here s c ls (n ∷ stack))) q (out (make_array n ls q) go h)
  array_run c n ls stack q go h has lt el takes catches =
      throw_or s (int_lt (int_of n) (pos 0)) NegativeArraySize (FrameAsks (act.NewArray (int_of n)) (then.Settle 1))
      (ask (act.NewArray (int_of n)) ls q) c op.NewArray ls (n ∷ stack) q go h has refl lt el catches
      (λ e1. acts_on s (act.NewArray (int_of n)) (then.Settle 1) (λ w. w ∷ stack) c op.NewArray ls (n ∷ stack) q go h
      has e1 (λ w. refl) el (λ w rest l. takes w ls rest el l) catches)
