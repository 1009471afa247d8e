-- A move keeps what pending work means; so does taking an answer.
use Rattle.std.proofs.Common.{◌≡◌, ℕ, zero, suc, ◌-◌, Bool, true, false, cond, List, [], ◌∷◌, Option, Some, None}
use Rattle.std.proofs.Common.{refl, sym, ap, ◌∙◌}
use Rattle.std.specs.Prelude.{nat_eq, slice_get, slice_set}
use Rattle.ls_events.specs.declared.value.Value.{Value}
use Rattle.ls_events.specs.declared.value.ValueType.TheVariants as types
use Rattle.ls_events.specs.declared.action.Action.{Action}
use Rattle.ls_events.specs.declared.action.Action.TheVariants.{ReadField, WriteField, WriteItem}
use Rattle.ls_events.specs.declared.action.Answer.{Answer}
use Rattle.ls_events.specs.declared.action.Answer.TheVariants as answers
use Rattle.ls_checked.specs.declared.tree.Operator.TheVariants.{Add}
use Rattle.ls_checked.specs.CheckedTree.{Method, File, Expression, Statement, Block, SetSlot, SetField, AddField}
use Rattle.ls_checked.specs.CheckedTree.{SetItem, Evaluate, If, While, Break, Continue, ReturnNothing, ReturnValue}
use Rattle.ls_checked.specs.CheckedTree.{Try}
use Rattle.ls_meaning.specs.declared.sort.Sort.{Sort}
use Rattle.ls_meaning.specs.declared.sort.Sort.TheVariants.{NoValue, ValueOf}
use Rattle.ls_meaning.specs.declared.completion.Completion.TheVariants.{Normal, Broke, Continued, Returned}
use Rattle.ls_meaning.specs.Values.{int_of, truth_of, reference_of, operated, nothing}
use Rattle.ls_meaning.specs.Course.{Answers, Evaluated, with_value, on_object}
use Rattle.ls_meaning.specs.Expressions.{operate, evaluate}
use Rattle.ls_meaning.specs.Statements.{Executed, Completes, and_normal, after_body, execute}
use Rattle.ls_meaning.specs.Methods.{invoke, run_body, frame}
use Rattle.ls_source_pending.specs.Pending.{Waiting, ToSlot, ToTarget, ToField, ToCounter, ToAddend, ToSum, ToArray}
use Rattle.ls_source_pending.specs.Pending.{ToIndex, ToItem, ToNothing, ToIf, ToTest, ToReturn, OfBody, OfTry, Frame}
use Rattle.ls_source_pending.specs.Pending.{In, On, Up, Leaves, Control, Evaluates, Argues, Invokes, Opens, Executes}
use Rattle.ls_source_pending.specs.Pending.{Loops, Gives, Ends, Asks, Enters, Turns, State}
use Rattle.ls_source_pending.specs.ExpressionMoves.{at, known}
use Rattle.ls_source_pending.specs.Moves.{on_written, opening, going_on, giving, executing, ending, move, moved}
use Rattle.ls_source_pending.specs.Moves.{answered, taking, taken, entering, waited, going_further}
use Rattle.ls_source_pending.specs.Meaning.{OfValue, Rest, evaluated, executed, gone_on, around, rest_of, meaning}
use Rattle.ls_meaning.proofs.Shorter.{invoke_within}
use Rattle.ls_source_moves.proofs.Frames.{while_unrolls, on_frame, normal_frame, up_frame, leaves_frame, written}
use Rattle.ls_source_moves.proofs.Frames.{read_first, branched}
use Rattle.ls_source_moves.proofs.Expressions.{some_left, invoking_keeps, known_is, evaluating_keeps, arguing_keeps}
use Rattle.ls_source_moves.proofs.Expressions.{filling_keeps, running_keeps, entering_keeps, ending_keeps}

module _ (file : File) (base : Rest) (d : ℕ) (q : Answers) where
  abbrev k : List Frame → Rest
  k fs = rest_of file base fs

  abbrev E : Expression → List Value → Evaluated Value
  E e ls = evaluate file.classes (invoke file d) e ls q

  abbrev X : Statement → List Value → Executed
  X s ls = execute file.classes (invoke file d) s ls q

  tested_on : (b : Bool) (e : Expression) (s : Statement) (fs : List Frame) (ls : List Value) →
      meaning file base (cond b (entering s (Up (OfBody e s) ∷ fs) ls d) (ending Normal fs ls d)) q ≡ executed
      (k fs) d (cond b (after_body (X s ls) (execute file.classes (invoke file d) (While e s)))
      (Completes Normal ls q))
  tested_on true e s fs ls = entering_keeps file base d q s (Up (OfBody e s) ∷ fs) ls
      ∙ up_frame file (k fs) d (OfBody e s) (X s ls)
  tested_on false e s fs ls = ending_keeps file base d q Normal fs ls

  going_keeps : (f : Waiting) (v : Value) (fs : List Frame) (ls : List Value) →
      meaning file base (going_on f v fs ls d) q ≡ executed (k fs) d (gone_on file d ls f v q)
  going_keeps (ToSlot n) v fs ls = ending_keeps file base d q Normal fs (slice_set ls n v)
  going_keeps (ToTarget f e) v fs ls = normal_frame file (k fs) d (ToField v f) ls
      (λ w q. on_object v (WriteField (reference_of v) f w) NoValue q) (λ w q. refl) (E e ls)
  going_keeps (ToField o f) v fs ls = written file (k fs) d (nat_eq (reference_of o) 0)
      (WriteField (reference_of o) f v) ls q
  going_keeps (ToCounter f e) v fs ls =
      read_first file (k fs) d (nat_eq (reference_of v) 0) (ReadField (reference_of v) f) (ValueOf types.Int)
      (ToAddend v f e) ls q
      (λ x q. with_value (evaluate file.classes (invoke file d) e ls q)
      (λ y q. with_value (operate Add x y q) (λ w q. on_object v (WriteField (reference_of v) f w) NoValue q)))
      (λ w q. refl)
  going_keeps (ToAddend o f e) v fs ls =
      normal_frame file (k fs) d (ToSum o f v) ls (λ y q. with_value (operate Add v y q)
      (λ w q. on_object o (WriteField (reference_of o) f w) NoValue q)) (λ w q. refl) (E e ls)
  going_keeps (ToSum o f x) v fs ls = written file (k fs) d (nat_eq (reference_of o) 0)
      (WriteField (reference_of o) f (operated Add x v)) ls q
  going_keeps (ToArray i e) v fs ls = normal_frame file (k fs) d (ToIndex v e) ls
      (λ n q. with_value (evaluate file.classes (invoke file d) e ls q)
      (λ w q. on_object v (WriteItem (reference_of v) (int_of n) w) NoValue q)) (λ w q. refl) (E i ls)
  going_keeps (ToIndex o e) v fs ls = normal_frame file (k fs) d (ToItem o v) ls
      (λ w q. on_object o (WriteItem (reference_of o) (int_of v) w) NoValue q) (λ w q. refl) (E e ls)
  going_keeps (ToItem o n) v fs ls = written file (k fs) d (nat_eq (reference_of o) 0)
      (WriteItem (reference_of o) (int_of n) v) ls q
  going_keeps ToNothing v fs ls = ending_keeps file base d q Normal fs ls
  going_keeps (ToIf a b) v fs ls = entering_keeps file base d q (cond (truth_of v) a b) fs ls
      ∙ branched file (k fs) d (truth_of v) a b ls q
  going_keeps (ToTest e s) v fs ls = tested_on (truth_of v) e s fs ls
  going_keeps ToReturn v fs ls = ending_keeps file base d q (Returned (Some v)) fs ls

  -- a statement waits for a value, or goes on with the value that is known
  waited_keeps : (o : Option Value) (f : Waiting) (e : Expression) (fs : List Frame) (ls : List Value) →
      known e ls ≡ o →
      meaning file base (waited file.classes o f e fs ls d) q ≡ evaluated (around file (On f) (k fs)) d ls (E e ls)
  waited_keeps None f e fs ls h = evaluating_keeps file base d q e (On f ∷ fs) ls
  waited_keeps (Some v) f e fs ls h = going_keeps f v fs ls ∙ ap (evaluated (around file (On f) (k fs)) d ls)
      (known_is file base d q e ls v h)

  further_keeps : (f : Waiting) (v : Value) (fs : List Frame) (ls : List Value) →
      meaning file base (going_further file.classes f v fs ls d) q ≡ executed (k fs) d (gone_on file d ls f v q)
  further_keeps (ToSlot n) v fs ls = going_keeps (ToSlot n) v fs ls
  further_keeps (ToTarget f e) v fs ls = waited_keeps (known e ls) (ToField v f) e fs ls refl ∙
      going_keeps (ToTarget f e) v fs ls
  further_keeps (ToField o f) v fs ls = going_keeps (ToField o f) v fs ls
  further_keeps (ToCounter f e) v fs ls = going_keeps (ToCounter f e) v fs ls
  further_keeps (ToAddend o f e) v fs ls = waited_keeps (known e ls) (ToSum o f v) e fs ls refl ∙
      going_keeps (ToAddend o f e) v fs ls
  further_keeps (ToSum o f x) v fs ls = going_keeps (ToSum o f x) v fs ls
  further_keeps (ToArray i e) v fs ls = waited_keeps (known i ls) (ToIndex v e) i fs ls refl ∙
      going_keeps (ToArray i e) v fs ls
  further_keeps (ToIndex o e) v fs ls = waited_keeps (known e ls) (ToItem o v) e fs ls refl ∙
      going_keeps (ToIndex o e) v fs ls
  further_keeps (ToItem o n) v fs ls = going_keeps (ToItem o n) v fs ls
  further_keeps ToNothing v fs ls = going_keeps ToNothing v fs ls
  further_keeps (ToIf a b) v fs ls = going_keeps (ToIf a b) v fs ls
  further_keeps (ToTest e s) v fs ls = going_keeps (ToTest e s) v fs ls
  further_keeps ToReturn v fs ls = going_keeps ToReturn v fs ls

  giving_keeps : (v : Value) (fs : List Frame) (ls : List Value) →
      meaning file base (giving file.classes v fs ls d) q ≡ k fs d ls (OfValue v) q
  giving_keeps v [] ls = refl
  giving_keeps v (In f ∷ fs) ls = filling_keeps file base d q f v fs ls
  giving_keeps v (On f ∷ fs) ls = further_keeps f v fs ls
  giving_keeps v (Up f ∷ fs) ls = refl
  giving_keeps v (Leaves result saved outer ∷ fs) ls = refl

  written_keeps : (o : Option Value) (e : Expression) (f : ℕ) (v : Expression) (fs : List Frame) (ls : List Value) →
      known e ls ≡ o →
      meaning file base (on_written file.classes o e f v fs ls d) q ≡ executed (k fs) d (X (SetField e f v) ls)
  written_keeps None e f v fs ls h = evaluating_keeps file base d q e (On (ToTarget f v) ∷ fs) ls
      ∙ normal_frame file (k fs) d (ToTarget f v) ls
      (λ o q. with_value (evaluate file.classes (invoke file d) v ls q)
      (λ w q. on_object o (WriteField (reference_of o) f w) NoValue q)) (λ w q. refl) (E e ls)
  written_keeps (Some o) e f v fs ls h = further_keeps (ToTarget f v) o fs ls ∙
      ap (λ x. executed (k fs) d
      (and_normal
      (with_value x (λ o q. with_value (evaluate file.classes (invoke file d) v ls q)
      (λ w q. on_object o (WriteField (reference_of o) f w) NoValue q))) ls)) (known_is file base d q e ls o h)

  executing_keeps : (s : Statement) (fs : List Frame) (ls : List Value) →
      meaning file base (executing file.classes s fs ls d) q ≡ executed (k fs) d (X s ls)
  executing_keeps (Block ss) fs ls = running_keeps file base d q ss fs ls
  executing_keeps (SetSlot n e) fs ls = waited_keeps (known e ls) (ToSlot n) e fs ls refl
      ∙ on_frame file (k fs) d (ToSlot n) ls (E e ls)
  executing_keeps (SetField e f v) fs ls = written_keeps (known e ls) e f v fs ls refl
  executing_keeps (AddField e f v) fs ls =
      waited_keeps (known e ls) (ToCounter f v) e fs ls refl
      ∙ normal_frame file (k fs) d (ToCounter f v) ls (λ o q. with_value
      (on_object o (ReadField (reference_of o) f) (ValueOf types.Int) q)
      (λ x q. with_value (evaluate file.classes (invoke file d) v ls q) (λ y q.
      with_value (operate Add x y q) (λ w q. on_object o (WriteField (reference_of o) f w) NoValue q)))) (λ w q. refl)
      (E e ls)
  executing_keeps (SetItem a i v) fs ls = waited_keeps (known a ls) (ToArray i v) a fs ls refl
      ∙ normal_frame file (k fs) d (ToArray i v) ls
      (λ o q. with_value (evaluate file.classes (invoke file d) i ls q)
      (λ n q. with_value (evaluate file.classes (invoke file d) v ls q)
      (λ w q. on_object o (WriteItem (reference_of o) (int_of n) w) NoValue q))) (λ w q. refl) (E a ls)
  executing_keeps (Evaluate e) fs ls = evaluating_keeps file base d q e (On ToNothing ∷ fs) ls
      ∙ on_frame file (k fs) d ToNothing ls (E e ls)
  executing_keeps (If e a b) fs ls = waited_keeps (known e ls) (ToIf a b) e fs ls refl
      ∙ on_frame file (k fs) d (ToIf a b) ls (E e ls)
  executing_keeps (While e s) fs ls = waited_keeps (known e ls) (ToTest e s) e fs ls refl
      ∙ on_frame file (k fs) d (ToTest e s) ls (E e ls) ∙
      ap (executed (k fs) d) (sym (while_unrolls file.classes (invoke file d) (invoke_within file d) e s ls q))
  executing_keeps (Break n) fs ls = ending_keeps file base d q (Broke n) fs ls
  executing_keeps (Continue n) fs ls = ending_keeps file base d q (Continued n) fs ls
  executing_keeps ReturnNothing fs ls = ending_keeps file base d q (Returned None) fs ls
  executing_keeps (ReturnValue e) fs ls = waited_keeps (known e ls) ToReturn e fs ls refl
      ∙ on_frame file (k fs) d ToReturn ls (E e ls)
  executing_keeps (Try b f) fs ls = entering_keeps file base d q b (Up (OfTry f) ∷ fs) ls
      ∙ up_frame file (k fs) d (OfTry f) (X b ls)

module _ (file : File) (base : Rest) where
  opening_body : (d : ℕ) (m : Option Method) (vs : List Value) (fs : List Frame) (ls : List Value) (q : Answers) →
      meaning file base (opening m vs fs ls d) q ≡ evaluated (rest_of file base fs) d ls
      (run_body file (invoke file (d - 1)) m vs q)
  opening_body d None vs fs ls q = refl
  opening_body d (Some m) vs fs ls q =
      entering_keeps file base (d - 1) q m.body (Leaves m.result ls d ∷ fs) (frame m.slots vs)
      ∙ leaves_frame file (rest_of file base fs) (d - 1) m.result ls d
      (execute file.classes (invoke file (d - 1)) m.body (frame m.slots vs) q)

  opening_keeps : (d m : ℕ) (vs : List Value) (fs : List Frame) (ls : List Value) (q : Answers) →
      meaning file base (move file (Opens m vs) fs ls d) q ≡ meaning file base (at (Opens m vs) fs ls d) q
  opening_keeps zero m vs fs ls q = refl
  opening_keeps (suc n) m vs fs ls q =
      ap (λ b. meaning file base (cond b (at (Gives nothing) fs ls (suc n))
      (opening (slice_get file.methods m) vs fs ls (suc n))) q) (some_left n)
      ∙ opening_body (suc n) (slice_get file.methods m) vs fs ls q
      ∙ sym (ap (λ b. cond b (rest_of file base fs (suc n) ls (OfValue nothing) q)
      (evaluated (rest_of file base fs) (suc n) ls (run_body file (invoke file (suc n - 1))
      (slice_get file.methods m) vs q))) (some_left n))

  -- a move keeps what the pending work means, after all answers
  pub move_keeps : (c : Control) (fs : List Frame) (ls : List Value) (d : ℕ) (q : Answers) →
      meaning file base (move file c fs ls d) q ≡ meaning file base (at c fs ls d) q
  move_keeps (Evaluates e) fs ls d q = evaluating_keeps file base d q e fs ls
  move_keeps (Argues p vs es) fs ls d q = arguing_keeps file base d q es p vs fs ls
  move_keeps (Invokes m vs) fs ls d q = invoking_keeps file base d m vs fs ls q
  move_keeps (Opens m vs) fs ls d q = opening_keeps d m vs fs ls q
  move_keeps (Executes s) fs ls d q = executing_keeps file base d q s fs ls
  move_keeps (Loops e s) fs ls d q = executing_keeps file base d q (While e s) fs ls
  move_keeps (Gives v) fs ls d q = giving_keeps file base d q v fs ls
  move_keeps (Ends c) fs ls d q = ending_keeps file base d q c fs ls
  move_keeps (Asks a s) fs ls d q = refl
  move_keeps (Enters m vs) fs ls d q = refl
  move_keeps (Turns e s) fs ls d q = refl

  -- a state that moves means the same
  pub moved_keeps : (s : State) (q : Answers) → meaning file base (moved file s) q ≡ meaning file base s q
  moved_keeps s q = move_keeps s.control s.frames s.locals s.depth q

  -- an answer to what is asked for
  ask_taken : (a : Answer Value) (act : Action Value) (sort : Sort) (fs : List Frame) (ls : List Value) (d : ℕ)
      (q : Answers) →
      meaning file base (at (answered a) fs ls d) q ≡ meaning file base (at (Asks act sort) fs ls d) (a ∷ q)
  ask_taken answers.Done act sort fs ls d q = refl
  ask_taken (answers.Gives v) act sort fs ls d q = refl
  ask_taken (answers.Fails kind) act sort fs ls d q = refl

  -- whether an answer is waited for
  abbrev pub IsAsking : Control → Type 0
  IsAsking (Asks act sort) = Unit {0}
  IsAsking (Enters m vs) = Unit {0}
  IsAsking (Turns e s) = Unit {0}
  IsAsking _ = ⊥

  take_keeps : (a : Answer Value) (c : Control) (fs : List Frame) (ls : List Value) (d : ℕ) (q : Answers) →
      IsAsking c →
      meaning file base (at (taking a c) fs ls d) q ≡ meaning file base (at c fs ls d) (a ∷ q)
  take_keeps a (Asks act sort) fs ls d q h = ask_taken a act sort fs ls d q
  take_keeps a (Enters m vs) fs ls d q h = refl
  take_keeps a (Turns e s) fs ls d q h = refl
  take_keeps a (Evaluates e) fs ls d q h = absurd h
  take_keeps a (Argues p vs es) fs ls d q h = absurd h
  take_keeps a (Invokes m vs) fs ls d q h = absurd h
  take_keeps a (Opens m vs) fs ls d q h = absurd h
  take_keeps a (Executes s) fs ls d q h = absurd h
  take_keeps a (Loops e s) fs ls d q h = absurd h
  take_keeps a (Gives v) fs ls d q h = absurd h
  take_keeps a (Ends c) fs ls d q h = absurd h

  -- an answer that is taken is the first of the answers
  pub taken_keeps : (a : Answer Value) (s : State) (q : Answers) →
      IsAsking s.control →
      meaning file base (taken a s) q ≡ meaning file base s (a ∷ q)
  taken_keeps a s q h = take_keeps a s.control s.frames s.locals s.depth q h
