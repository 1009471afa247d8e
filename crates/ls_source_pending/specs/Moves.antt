-- One move of pending work, with the moves of statements and of endings; and an answer that is taken.
use Rattle.std.specs.Prelude.{ℕ, zero, suc, ◌-◌, Bool, true, false, nat_eq, List, [], ◌∷◌, Option, Some, None}
use Rattle.std.specs.Prelude.{slice_get, slice_set, if◌then◌else◌}
use Rattle.ls_events.specs.declared.value.Value.{Value}
use Rattle.ls_events.specs.declared.value.ValueType.{ValueType}
use Rattle.ls_events.specs.declared.value.ValueType.TheVariants as types
use Rattle.ls_events.specs.declared.action.Action.TheVariants.{ReadField, WriteField, WriteItem}
use Rattle.ls_events.specs.declared.action.Answer.{Answer}
use Rattle.ls_events.specs.declared.action.Answer.TheVariants as answers
use Rattle.ls_checked.specs.declared.tree.Operator.TheVariants.{Add}
use Rattle.ls_checked.specs.CheckedTree.{Class, Method, File, Expression, Statement, Block, SetSlot, SetField, AddField}
use Rattle.ls_checked.specs.CheckedTree.{SetItem, Evaluate, If, While, Break, Continue, ReturnNothing, ReturnValue, Try}
use Rattle.ls_checked.specs.CheckedTree.{Statements, Done, Then}
use Rattle.ls_meaning.specs.declared.sort.Sort.TheVariants.{NoValue, ValueOf}
use Rattle.ls_meaning.specs.declared.completion.Completion.{Completion}
use Rattle.ls_meaning.specs.declared.completion.Completion.TheVariants.{Normal, Broke, Continued, Returned, Threw}
use Rattle.ls_meaning.specs.Values.{int_of, truth_of, reference_of, nothing, operated}
use Rattle.ls_meaning.specs.Methods.{answer_without, frame}
use Rattle.ls_source_pending.specs.Pending.{Waiting, ToSlot, ToTarget, ToField, ToCounter, ToAddend, ToSum, ToArray}
use Rattle.ls_source_pending.specs.Pending.{ToIndex, ToItem, ToNothing, ToIf, ToTest, ToReturn, Ending, OfSequence}
use Rattle.ls_source_pending.specs.Pending.{OfBody, OfTry, OfFinally, Frame, In, On, Up, Leaves, Control, Evaluates}
use Rattle.ls_source_pending.specs.Pending.{Argues, Invokes, Opens, Executes, Loops, Gives, Ends, Asks, Enters, Turns}
use Rattle.ls_source_pending.specs.Pending.{State}
use Rattle.ls_source_pending.specs.ExpressionMoves.{at, thrown_on_null, evaluating, known, filling, invoking, arguing}

-- the statements of a block; the last of them needs no frame
abbrev pub running : Statements → List Frame → List Value → ℕ → State
running Done fs ls d = at (Ends Normal) fs ls d
running (Then s Done) fs ls d = at (Executes s) fs ls d
running (Then s (Then t ss)) fs ls d = at (Executes s) (Up (OfSequence (Then t ss)) ∷ fs) ls d

-- a statement that begins; the first statement of a block begins at once
abbrev pub entering : Statement → List Frame → List Value → ℕ → State
entering (Block ss) fs ls d = running ss fs ls d
entering (SetSlot n e) fs ls d = at (Executes (SetSlot n e)) fs ls d
entering (SetField e f v) fs ls d = at (Executes (SetField e f v)) fs ls d
entering (AddField e f v) fs ls d = at (Executes (AddField e f v)) fs ls d
entering (SetItem a i v) fs ls d = at (Executes (SetItem a i v)) fs ls d
entering (Evaluate e) fs ls d = at (Executes (Evaluate e)) fs ls d
entering (If e a b) fs ls d = at (Executes (If e a b)) fs ls d
entering (While e s) fs ls d = at (Executes (While e s)) fs ls d
entering (Break n) fs ls d = at (Executes (Break n)) fs ls d
entering (Continue n) fs ls d = at (Executes (Continue n)) fs ls d
entering ReturnNothing fs ls d = at (Executes ReturnNothing) fs ls d
entering (ReturnValue e) fs ls d = at (Executes (ReturnValue e)) fs ls d
entering (Try b f) fs ls d = at (Executes (Try b f)) fs ls d

abbrev pub opening : Option Method → List Value → List Frame → List Value → ℕ → State
opening None values fs ls d = at (Gives nothing) fs ls d
opening (Some m) values fs ls d = entering m.body (Leaves m.result ls d ∷ fs) (frame m.slots values) (d - 1)

-- the statements after one that has ended
abbrev pub behind : Completion Value → Statements → List Frame → List Value → ℕ → State
behind Normal ss fs ls d = running ss fs ls d
behind (Broke n) ss fs ls d = at (Ends (Broke n)) fs ls d
behind (Continued n) ss fs ls d = at (Ends (Continued n)) fs ls d
behind (Returned v) ss fs ls d = at (Ends (Returned v)) fs ls d
behind (Threw kind) ss fs ls d = at (Ends (Threw kind)) fs ls d

-- what a normal completion goes on with; any other completion goes on as it is
abbrev pub if_normal : Completion Value → Control → Control
if_normal Normal c = c
if_normal (Broke n) c = Ends (Broke n)
if_normal (Continued n) c = Ends (Continued n)
if_normal (Returned v) c = Ends (Returned v)
if_normal (Threw kind) c = Ends (Threw kind)

abbrev pub after_loop : Completion Value → Expression → Statement → Control
after_loop Normal e s = Turns e s
after_loop (Continued zero) e s = Turns e s
after_loop (Continued (suc n)) e s = Ends (Continued n)
after_loop (Broke zero) e s = Ends Normal
after_loop (Broke (suc n)) e s = Ends (Broke n)
after_loop (Returned v) e s = Ends (Returned v)
after_loop (Threw kind) e s = Ends (Threw kind)

abbrev pub leaving : Option ValueType → Completion Value → Control
leaving result Normal = Gives (answer_without result)
leaving result (Broke n) = Gives (answer_without result)
leaving result (Continued n) = Gives (answer_without result)
leaving result (Returned None) = Gives (answer_without result)
leaving result (Returned (Some v)) = Gives v
leaving result (Threw kind) = Ends (Threw kind)

abbrev pub closing : Ending → Completion Value → List Frame → List Value → ℕ → State
closing (OfSequence ss) c fs ls d = behind c ss fs ls d
closing (OfBody e s) c fs ls d = at (after_loop c e s) fs ls d
closing (OfTry f) c fs ls d = at (Executes f) (Up (OfFinally c) ∷ fs) ls d
closing (OfFinally reason) c fs ls d = at (if_normal c (Ends reason)) fs ls d

abbrev pub ending : Completion Value → List Frame → List Value → ℕ → State
ending c [] ls d = at (Ends c) [] ls d
ending c (In f ∷ fs) ls d = at (Ends c) fs ls d
ending c (On f ∷ fs) ls d = at (Ends c) fs ls d
ending c (Up f ∷ fs) ls d = closing f c fs ls d
ending c (Leaves result saved outer ∷ fs) ls d = at (leaving result c) fs saved outer

abbrev pub going_on : Waiting → Value → List Frame → List Value → ℕ → State
going_on (ToSlot n) v fs ls d = ending Normal fs (slice_set ls n v) d
going_on (ToTarget f e) v fs ls d = at (Evaluates e) (On (ToField v f) ∷ fs) ls d
going_on (ToField o f) v fs ls d = at (thrown_on_null (reference_of o) (Asks (WriteField (reference_of o) f v) NoValue))
    (On ToNothing ∷ fs) ls d
going_on (ToCounter f e) v fs ls d = at (thrown_on_null (reference_of v)
    (Asks (ReadField (reference_of v) f) (ValueOf types.Int))) (On (ToAddend v f e) ∷ fs) ls d
going_on (ToAddend o f e) v fs ls d = at (Evaluates e) (On (ToSum o f v) ∷ fs) ls d
going_on (ToSum o f x) v fs ls d = at (thrown_on_null (reference_of o)
    (Asks (WriteField (reference_of o) f (operated Add x v)) NoValue)) (On ToNothing ∷ fs) ls d
going_on (ToArray i e) v fs ls d = at (Evaluates i) (On (ToIndex v e) ∷ fs) ls d
going_on (ToIndex o e) v fs ls d = at (Evaluates e) (On (ToItem o v) ∷ fs) ls d
going_on (ToItem o n) v fs ls d = at (thrown_on_null (reference_of o)
    (Asks (WriteItem (reference_of o) (int_of n) v) NoValue)) (On ToNothing ∷ fs) ls d
going_on ToNothing v fs ls d = ending Normal fs ls d
going_on (ToIf a b) v fs ls d = entering (if truth_of v then a else b) fs ls d
going_on (ToTest e s) v fs ls d = if truth_of v then entering s (Up (OfBody e s) ∷ fs) ls d else
    ending Normal fs ls d
going_on ToReturn v fs ls d = ending (Returned (Some v)) fs ls d

-- the rest of a statement that waits for a value, with the value if that is known
abbrev pub waited : List Class → Option Value → Waiting → Expression → List Frame → List Value → ℕ → State
waited classes None f e fs ls d = evaluating classes e (On f ∷ fs) ls d
waited classes (Some v) f e fs ls d = going_on f v fs ls d

-- on from one value to the next that a statement waits for, with that if it is known
abbrev pub going_further : List Class → Waiting → Value → List Frame → List Value → ℕ → State
going_further classes (ToSlot n) v fs ls d = going_on (ToSlot n) v fs ls d
going_further classes (ToTarget f e) v fs ls d = waited classes (known e ls) (ToField v f) e fs ls d
going_further classes (ToField o f) v fs ls d = going_on (ToField o f) v fs ls d
going_further classes (ToCounter f e) v fs ls d = going_on (ToCounter f e) v fs ls d
going_further classes (ToAddend o f e) v fs ls d = waited classes (known e ls) (ToSum o f v) e fs ls d
going_further classes (ToSum o f x) v fs ls d = going_on (ToSum o f x) v fs ls d
going_further classes (ToArray i e) v fs ls d = waited classes (known i ls) (ToIndex v e) i fs ls d
going_further classes (ToIndex o e) v fs ls d = waited classes (known e ls) (ToItem o v) e fs ls d
going_further classes (ToItem o n) v fs ls d = going_on (ToItem o n) v fs ls d
going_further classes ToNothing v fs ls d = going_on ToNothing v fs ls d
going_further classes (ToIf a b) v fs ls d = going_on (ToIf a b) v fs ls d
going_further classes (ToTest e s) v fs ls d = going_on (ToTest e s) v fs ls d
going_further classes ToReturn v fs ls d = going_on ToReturn v fs ls d

abbrev pub giving : List Class → Value → List Frame → List Value → ℕ → State
giving classes v [] ls d = at (Gives v) [] ls d
giving classes v (In f ∷ fs) ls d = filling classes f v fs ls d
giving classes v (On f ∷ fs) ls d = going_further classes f v fs ls d
giving classes v (Up f ∷ fs) ls d = at (Gives v) fs ls d
giving classes v (Leaves result saved outer ∷ fs) ls d = at (Gives v) fs ls d

-- the write of a field, with its object if that is known
abbrev pub on_written : List Class → Option Value → Expression → ℕ → Expression → List Frame → List Value → ℕ → State
on_written classes None e f v fs ls d = evaluating classes e (On (ToTarget f v) ∷ fs) ls d
on_written classes (Some o) e f v fs ls d = waited classes (known v ls) (ToField o f) v fs ls d

abbrev pub executing : List Class → Statement → List Frame → List Value → ℕ → State
executing classes (Block ss) fs ls d = running ss fs ls d
executing classes (SetSlot n e) fs ls d = waited classes (known e ls) (ToSlot n) e fs ls d
executing classes (SetField e f v) fs ls d = on_written classes (known e ls) e f v fs ls d
executing classes (AddField e f v) fs ls d = waited classes (known e ls) (ToCounter f v) e fs ls d
executing classes (SetItem a i v) fs ls d = waited classes (known a ls) (ToArray i v) a fs ls d
executing classes (Evaluate e) fs ls d = evaluating classes e (On ToNothing ∷ fs) ls d
executing classes (If e a b) fs ls d = waited classes (known e ls) (ToIf a b) e fs ls d
executing classes (While e s) fs ls d = waited classes (known e ls) (ToTest e s) e fs ls d
executing classes (Break n) fs ls d = ending (Broke n) fs ls d
executing classes (Continue n) fs ls d = ending (Continued n) fs ls d
executing classes ReturnNothing fs ls d = ending (Returned None) fs ls d
executing classes (ReturnValue e) fs ls d = waited classes (known e ls) ToReturn e fs ls d
executing classes (Try b f) fs ls d = entering b (Up (OfTry f) ∷ fs) ls d

abbrev pub move : File → Control → List Frame → List Value → ℕ → State
move file (Evaluates e) fs ls d = evaluating file.classes e fs ls d
move file (Argues p vs es) fs ls d = arguing file.classes p vs es fs ls d
move file (Invokes m vs) fs ls d = invoking m vs fs ls d
move file (Opens m vs) fs ls d = if nat_eq d 0 then at (Gives nothing) fs ls d else
    opening (slice_get file.methods m) vs fs ls d
move file (Executes s) fs ls d = executing file.classes s fs ls d
move file (Loops e s) fs ls d = waited file.classes (known e ls) (ToTest e s) e fs ls d
move file (Gives v) fs ls d = giving file.classes v fs ls d
move file (Ends c) fs ls d = ending c fs ls d
move file (Asks a s) fs ls d = at (Asks a s) fs ls d
move file (Enters m vs) fs ls d = at (Enters m vs) fs ls d
move file (Turns e s) fs ls d = at (Turns e s) fs ls d

abbrev pub moved : File → State → State
moved file s = move file s.control s.frames s.locals s.depth

-- whether a move is left: none if something is asked for, and none at the end of all
abbrev pub is_left : Control → List Frame → Bool
is_left (Evaluates e) fs = true
is_left (Argues p vs es) fs = true
is_left (Invokes m vs) fs = true
is_left (Opens m vs) fs = true
is_left (Executes s) fs = true
is_left (Loops e s) fs = true
is_left (Gives v) [] = false
is_left (Gives v) (f ∷ fs) = true
is_left (Ends c) [] = false
is_left (Ends c) (f ∷ fs) = true
is_left (Asks a s) fs = false
is_left (Enters m vs) fs = false
is_left (Turns e s) fs = false

-- an answer is taken
abbrev pub answered : Answer Value → Control
answered answers.Done = Gives nothing
answered (answers.Gives v) = Gives v
answered (answers.Fails kind) = Ends (Threw kind)

abbrev pub taking : Answer Value → Control → Control
taking a (Asks action sort) = answered a
taking a (Enters m vs) = Opens m vs
taking a (Turns e s) = Loops e s
taking a c = c

abbrev pub taken : Answer Value → State → State
taken a s = at (taking a s.control) s.frames s.locals s.depth
