-- The courses of statements.
use Rattle.std.specs.Prelude.{ℕ, zero, suc, List, [], ◌∷◌, length, nat_eq, Option, Some, None, slice_index, slice_set}
use Rattle.std.specs.Prelude.{if◌then◌else◌, ◌+◌}
use Rattle.ls_events.specs.declared.kind.Kind.{Kind}
use Rattle.ls_events.specs.declared.action.Action.TheVariants as act
use Rattle.ls_events.specs.declared.action.Answer.TheVariants.{Done as Answered, Gives, Fails}
use Rattle.ls_lowered.specs.LoweredTree.{Statement, Block, SetLocal, SetField, AddField, SetItem, Evaluate, If, While}
use Rattle.ls_lowered.specs.LoweredTree.{Return, Try, Guarded, Throw, Leavable, Leave, Statements, Done, Then}
use Rattle.ls_lowered.specs.Words.{int_of, kind_word, kind_of}
use Rattle.ls_lowered.specs.Course.{Answers, Course, Asks, Ends, Stuck, Outcome, Results, Throws, Calls, finish}
use Rattle.ls_lowered.specs.Course.{and_then, ask, perform, unless_null}
use Rattle.ls_lowered.specs.declared.tree.BinaryOperator.TheVariants as op
use Rattle.ls_lowered.specs.Expressions.{operate, evaluate}

-- how a statement completes; `Left n` goes on at exit n of the leavable statement around it, or further out
pub data Completion : Type 0 where
  Normal : Completion
  Returned : (word : ℕ) → Completion
  Threw : (kind : Kind) → Completion
  Left : (exit : ℕ) → Completion

-- what follows the completion of a statement
abbrev pub Go : Type 0
Go = Completion → List ℕ → Answers → Course Completion

-- goes on with the word of an expression; a throw completes the statement
abbrev pub on_word : (ℕ → List ℕ → Answers → Course Completion) → Outcome ℕ → List ℕ → Answers → Course Completion
on_word go (Results w) ls q = go w ls q
on_word go (Throws kind) ls q = Ends (Threw kind) ls q

-- what each construct makes of the completion of its part; here of a statement before others
abbrev pub on_normal : (List ℕ → Answers → Course Completion) → Go
on_normal go Normal ls q = go ls q
on_normal go (Returned w) ls q = Ends (Returned w) ls q
on_normal go (Threw kind) ls q = Ends (Threw kind) ls q
on_normal go (Left n) ls q = Ends (Left n) ls q

-- a try block: the finally block follows each completion of it; if the finally block completes normally, the whole
-- completes as the try block did
abbrev pub on_any : (List ℕ → Answers → Course Completion) → Go
on_any go reason ls q = finish (go ls q) (on_normal (λ ls q. Ends reason ls q))

-- a guarded region
abbrev pub on_throw : (Kind → List ℕ → Answers → Course Completion) → Go
on_throw go Normal ls q = Ends Normal ls q
on_throw go (Returned w) ls q = Ends (Returned w) ls q
on_throw go (Threw kind) ls q = go kind ls q
on_throw go (Left n) ls q = Ends (Left n) ls q

-- the body of a leavable statement
abbrev pub on_leave : (ℕ → List ℕ → Answers → Course Completion) → Go
on_leave go Normal ls q = Ends Normal ls q
on_leave go (Returned w) ls q = Ends (Returned w) ls q
on_leave go (Threw kind) ls q = Ends (Threw kind) ls q
on_leave go (Left n) ls q = go n ls q

-- back to a loop's condition, as an action of its own; no run answers it by an exception, but a list of answers may
abbrev pub turn_back : (List ℕ → Answers → Course Completion) → List ℕ → Answers → Course Completion
turn_back again ls [] = Asks act.Turn
turn_back again ls (Answered ∷ q) = again ls q
turn_back again ls (Gives word ∷ q) = again ls q
turn_back again ls (Fails kind ∷ q) = Ends (Threw kind) ls q

-- a loop's body
abbrev pub on_body : (List ℕ → Answers → Course Completion) → Go
on_body again Normal ls q = turn_back again ls q
on_body again (Returned w) ls q = Ends (Returned w) ls q
on_body again (Threw kind) ls q = Ends (Threw kind) ls q
on_body again (Left n) ls q = Ends (Left n) ls q

abbrev pub one_turn : (List ℕ → Answers → Course (Outcome ℕ)) →
    (List ℕ → Answers → Course Completion) →
    (List ℕ → Answers → Course Completion) →
    List ℕ →
    Answers →
    Course Completion
one_turn condition body again ls q =
    finish (condition ls q) (on_word (λ w ls q. if nat_eq w 0 then Ends Normal ls q else
    finish (body ls q) (on_body again)))

-- each turn takes an answer, so a loop makes no more turns than there are answers
abbrev pub turns : ℕ →
    (List ℕ → Answers → Course (Outcome ℕ)) →
    (List ℕ → Answers → Course Completion) →
    List ℕ →
    Answers →
    Course Completion
turns zero condition body = one_turn condition body (λ ls q. Asks act.Turn)
turns (suc n) condition body = one_turn condition body (turns n condition body)

-- throws a kind; if the word is that of no kind, it is stuck
abbrev pub throw : Option Kind → List ℕ → Answers → Course Completion
throw None ls q = Stuck
throw (Some kind) ls q = Ends (Threw kind) ls q

-- the word of an expression, and then nothing more
abbrev pub and_normal : Course (Outcome ℕ) → Course Completion
and_normal x = finish x (on_word (λ w ls q. Ends Normal ls q))

abbrev mutual
  pub execute : Calls → Statement → List ℕ → Answers → Course Completion
  execute calls (Block ss) ls q = execute_all calls ss ls q
  execute calls (SetLocal n e) ls q = finish (evaluate calls e ls q)
      (on_word (λ w ls q. Ends Normal (slice_set ls n w) q))
  execute calls (SetField e f e') ls q =
      and_normal (and_then (evaluate calls e ls q) (λ x ls q. and_then (evaluate calls e' ls q) (λ y ls q.
      unless_null x ls q (perform (act.WriteField x (f + 1) y) ls q))))
  execute calls (AddField e f e') ls q =
      and_normal (and_then (evaluate calls e ls q) (λ x ls q.
      and_then (unless_null x ls q (ask (act.ReadField x (f + 1)) ls q)) (λ y ls q.
      and_then (evaluate calls e' ls q) (λ z ls q. and_then (operate op.Add y z ls q) (λ w ls q.
      unless_null x ls q (perform (act.WriteField x (f + 1) w) ls q))))))
  execute calls (SetItem a i e) ls q =
      and_normal (and_then (evaluate calls a ls q) (λ x ls q.
      and_then (evaluate calls i ls q) (λ n ls q. and_then (evaluate calls e ls q) (λ y ls q.
      unless_null x ls q (perform (act.WriteItem x (int_of n) y) ls q)))))
  execute calls (Evaluate e) ls q = and_normal (evaluate calls e ls q)
  execute calls (If e a b) ls q =
      finish (evaluate calls e ls q) (on_word (λ w ls q. if nat_eq w 0 then execute calls b ls q else
      execute calls a ls q))
  execute calls (While e s) ls q = turns (length q) (evaluate calls e) (execute calls s) ls q
  execute calls (Return e) ls q = finish (evaluate calls e ls q) (on_word (λ w ls q. Ends (Returned w) ls q))
  execute calls (Try b f) ls q = finish (execute calls b ls q) (on_any (execute calls f))
  execute calls (Guarded b n h) ls q =
      finish (execute calls b ls q) (on_throw (λ kind ls q. execute calls h (slice_set ls n (kind_word kind)) q))
  execute calls (Throw n) ls q = throw (kind_of (slice_index ls n)) ls q
  execute calls (Leavable b xs) ls q = finish (execute calls b ls q) (on_leave (leave_to calls xs))
  execute calls (Leave n) ls q = Ends (Left n) ls q

  pub execute_all : Calls → Statements → List ℕ → Answers → Course Completion
  execute_all calls Done ls q = Ends Normal ls q
  execute_all calls (Then s ss) ls q = finish (execute calls s ls q) (on_normal (execute_all calls ss))

  -- a leave of a statement with these exits leads to one of them, to its end, or further out
  pub leave_to : Calls → Statements → ℕ → List ℕ → Answers → Course Completion
  leave_to calls Done zero ls q = Ends Normal ls q
  leave_to calls Done (suc n) ls q = Ends (Left n) ls q
  leave_to calls (Then x xs) zero ls q = execute calls x ls q
  leave_to calls (Then x xs) (suc n) ls q = leave_to calls xs n ls q
