-- What a frame does with the outcome of the part inside it, and what a loop is.
use Rattle.std.proofs.Common.{◌≡◌, ℕ, zero, suc, ◌≤◌, Bool, true, false, cond, List, [], ◌∷◌, ◌++◌, length}
use Rattle.std.proofs.Common.{Option, refl, ap, arith}
use Rattle.std.proofs.lemmas.List.{append_assoc}
use Rattle.ls_events.specs.declared.value.Value.{Value}
use Rattle.ls_events.specs.declared.value.Value.TheVariants as values
use Rattle.ls_events.specs.declared.value.ValueType.{ValueType}
use Rattle.ls_events.specs.declared.kind.Kind.TheVariants.{NullPointer}
use Rattle.ls_events.specs.declared.action.Action.{Action}
use Rattle.ls_checked.specs.CheckedTree.{Class, File, Expression, Expressions, Statement, While}
use Rattle.ls_meaning.specs.declared.sort.Sort.{Sort}
use Rattle.ls_meaning.specs.declared.sort.Sort.TheVariants.{NoValue}
use Rattle.ls_meaning.specs.declared.completion.Completion.TheVariants.{Threw}
use Rattle.ls_meaning.specs.Values.{reference_of}
use Rattle.ls_meaning.specs.Course.{Answers, Evaluated, Asks as EAsks, Results, Throws, ask, with_value}
use Rattle.ls_meaning.specs.Expressions.{Calls, evaluate, arguments}
use Rattle.ls_meaning.specs.Statements.{Executed, AsksFor, Completes, on_value, and_normal, one_turn, turns, execute}
use Rattle.ls_meaning.specs.Methods.{invoke, leave}
use Rattle.ls_source_pending.specs.Pending.{Purpose, Operand, InArgument, InWritten, Waiting, ToNothing, Ending}
use Rattle.ls_source_pending.specs.Pending.{OfSequence, OfBody, OfTry, OfFinally, In, On, Up, Leaves, Control}
use Rattle.ls_source_pending.specs.Pending.{Executes, Ends, Asks}
use Rattle.ls_source_pending.specs.Meaning.{Rest, evaluated, executed, applied, filled, gone_on, closed, around}
use Rattle.ls_source_pending.specs.Meaning.{done_now}
use Rattle.ls_meaning.proofs.Shorter.{Within, WithinBy, CallsWithin, evaluate_within, execute_within, turn_eq}
use Rattle.ls_meaning.proofs.Shorter.{turns_eq}

-- a loop is one turn, and then the loop; each turn takes an answer, so turns never run out
module _ (classes : List Class) (calls : Calls) (called : CallsWithin calls) (e : Expression) (s : Statement) where
  tested : (n : ℕ) (ls : List Value) (q : Answers) → length q ≤ n → Within n (evaluate classes calls e ls q)
  tested n ls q h = evaluate_within calls called n classes e ls q h

  done : (n : ℕ) (ls : List Value) (q : Answers) → length q ≤ n → WithinBy n (execute classes calls s ls q)
  done n ls q h = execute_within classes calls called s n ls q h

  fewer : (n : ℕ) (ls : List Value) (q : Answers) →
      length q ≤ n →
      turns n (evaluate classes calls e) (execute classes calls s) ls q ≡ execute classes calls (While e s) ls q
  fewer n ls q h = turns_eq (evaluate classes calls e) (execute classes calls s) tested done n (length q) ls q h
      (omega arith)

  unrolled : (n : ℕ) (ls : List Value) (q : Answers) →
      length q ≤ n →
      turns n (evaluate classes calls e) (execute classes calls s) ls q ≡ one_turn (evaluate classes calls e)
      (execute classes calls s) (execute classes calls (While e s)) ls q
  unrolled zero ls q h = turn_eq (evaluate classes calls e) (execute classes calls s) tested done (length q) _ _
      (λ ls r l. absurd (let f : ⊥ = omega arith in f)) ls q (omega arith)
  unrolled (suc n) ls q h = turn_eq (evaluate classes calls e) (execute classes calls s) tested done (length q) _ _
      (λ ls r l. fewer n ls r (omega arith)) ls q (omega arith)

  pub while_unrolls : (ls : List Value) (q : Answers) →
      execute classes calls (While e s) ls q ≡ one_turn (evaluate classes calls e) (execute classes calls s)
      (execute classes calls (While e s)) ls q
  while_unrolls ls q = unrolled (length q) ls q (omega arith)

module _ (file : File) (k : Rest) (d : ℕ) where
  pub in_frame : (f : Operand) (ls : List Value) (x : Evaluated Value) →
      evaluated (around file (In f) k) d ls x ≡ evaluated k d ls (with_value x (λ v q. filled file d ls f v q))
  in_frame f ls (EAsks a s) = refl
  in_frame f ls (Results v q) = refl
  in_frame f ls (Throws kind q) = refl

  pub on_frame : (f : Waiting) (ls : List Value) (x : Evaluated Value) →
      evaluated (around file (On f) k) d ls x ≡ executed k d (on_value x ls (λ v q. gone_on file d ls f v q))
  on_frame f ls (EAsks a s) = refl
  on_frame f ls (Results v q) = refl
  on_frame f ls (Throws kind q) = refl

  pub normal_frame : (f : Waiting) (ls : List Value) (go : Value → Answers → Evaluated Value) →
      ((v : Value) (q : Answers) → gone_on file d ls f v q ≡ and_normal (go v q) ls) →
      (x : Evaluated Value) →
      evaluated (around file (On f) k) d ls x ≡ executed k d (and_normal (with_value x go) ls)
  normal_frame f ls go h (EAsks a s) = refl
  normal_frame f ls go h (Results v q) = ap (executed k d) (h v q)
  normal_frame f ls go h (Throws kind q) = refl

  pub up_frame : (f : Ending) (x : Executed) → executed (around file (Up f) k) d x ≡ executed k d (closed file d f x)
  up_frame (OfSequence ss) (AsksFor a s) = refl
  up_frame (OfSequence ss) (Completes c ls q) = refl
  up_frame (OfBody e s) (AsksFor a t) = refl
  up_frame (OfBody e s) (Completes c ls q) = refl
  up_frame (OfTry f) (AsksFor a s) = refl
  up_frame (OfTry f) (Completes c ls q) = refl
  up_frame (OfFinally r) (AsksFor a s) = refl
  up_frame (OfFinally r) (Completes c ls q) = refl

  pub leaves_frame : (r : Option ValueType) (saved : List Value) (outer : ℕ) (x : Executed) →
      executed (around file (Leaves r saved outer) k) d x ≡ evaluated k outer saved (leave r x)
  leaves_frame r saved outer (AsksFor a s) = refl
  leaves_frame r saved outer (Completes c ls q) = refl

  -- one argument more
  pub one_more : (p : Purpose) (ls before : List Value) (v : Value) (y : Evaluated (List Value)) →
      evaluated k d ls (with_value y (λ vs q. applied file d p ((before ++ v ∷ []) ++ vs) q)) ≡ evaluated k d ls
      (with_value (with_value y (λ vs q. Results (v ∷ vs) q)) (λ vs q. applied file d p (before ++ vs) q))
  one_more p ls before v (EAsks a s) = refl
  one_more p ls before v (Results vs q) = ap (λ l. evaluated k d ls (applied file d p l q))
      (append_assoc before (v ∷ []) vs)
  one_more p ls before v (Throws kind q) = refl

  pub argument_frame : (p : Purpose) (ls before : List Value) (es : Expressions) (x : Evaluated Value) →
      evaluated (around file (In (InArgument p before es)) k) d ls x ≡ evaluated k d ls
      (with_value
      (with_value x (λ v q. with_value (arguments file.classes (invoke file d) es ls q)
      (λ vs q. Results (v ∷ vs) q))) (λ vs q. applied file d p (before ++ vs) q))
  argument_frame p ls before es (EAsks a s) = refl
  argument_frame p ls before es (Results v q) = one_more p ls before v (arguments file.classes (invoke file d) es ls q)
  argument_frame p ls before es (Throws kind q) = refl

  -- a test that chooses what is done now
  pub chosen : (b : Bool) (ls : List Value) (q : Answers) (c c2 : Control) (x y : Evaluated Value) →
      done_now file k c d ls q ≡ evaluated k d ls x →
      done_now file k c2 d ls q ≡ evaluated k d ls y →
      done_now file k (cond b c c2) d ls q ≡ evaluated k d ls (cond b x y)
  chosen true ls q c c2 x y h g = h
  chosen false ls q c c2 x y h g = g

  -- the object, tested for null, of a write
  pub written : (b : Bool) (action : Action Value) (ls : List Value) (q : Answers) →
      done_now file (around file (On ToNothing) k) (cond b (Ends (Threw NullPointer)) (Asks action NoValue)) d ls q ≡
      executed k d (and_normal (cond b (Throws NullPointer q) (ask action NoValue q)) ls)
  written true action ls q = refl
  written false action ls q = on_frame ToNothing ls (ask action NoValue q)

  -- the object, tested for null, of a read that a statement waits for
  pub read_first : (b : Bool) (action : Action Value) (sort : Sort) (f : Waiting) (ls : List Value) (q : Answers)
      (go : Value → Answers → Evaluated Value) →
      ((v : Value) (q : Answers) → gone_on file d ls f v q ≡ and_normal (go v q) ls) →
      done_now file (around file (On f) k) (cond b (Ends (Threw NullPointer)) (Asks action sort)) d ls q ≡ executed k d
      (and_normal (with_value (cond b (Throws NullPointer q) (ask action sort q)) go) ls)
  read_first true action sort f ls q go h = refl
  read_first false action sort f ls q go h = normal_frame f ls go h (ask action sort q)

  pub both_written : (b : Bool) (action : Action Value) (pair : Value) (ls : List Value) (q : Answers) →
      done_now file (around file (In (InWritten pair)) k) (cond b (Ends (Threw NullPointer)) (Asks action NoValue)) d ls
      q ≡ evaluated k d ls (cond b (Throws NullPointer q)
      (with_value (ask action NoValue q) (λ _ q. Results (values.Reference (reference_of pair)) q)))
  both_written true action pair ls q = refl
  both_written false action pair ls q = in_frame (InWritten pair) ls (ask action NoValue q)

  pub branched : (b : Bool) (a c : Statement) (ls : List Value) (q : Answers) →
      done_now file k (Executes (cond b a c)) d ls q ≡ executed k d
      (cond b (execute file.classes (invoke file d) a ls q) (execute file.classes (invoke file d) c ls q))
  branched true a c ls q = refl
  branched false a c ls q = refl
