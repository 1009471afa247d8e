-- A call that a thread makes: after answers in kind to the thread, the call's words ask what the call asks.
use Rattle.std.specs.Prelude.{◌≡◌, ◌≢◌, ℕ, ◌+◌, List, ◌∷◌, map, Option, Some, None, slice_get}
use Rattle.ls_events.specs.declared.kind.Kind.{Kind}
use Rattle.ls_events.specs.declared.kind.Kind.TheVariants.{NullPointer}
use Rattle.ls_events.specs.declared.value.Value.{Value}
use Rattle.ls_events.specs.declared.value.ValueType.{ValueType}
use Rattle.ls_events.specs.declared.value.ValueType.TheVariants as types
use Rattle.ls_events.specs.declared.action.Action.TheVariants as act
use Rattle.ls_events.specs.declared.action.Answer.{Answer}
use Rattle.ls_events.specs.declared.action.Answer.TheVariants.{Gives}
use Rattle.ls_checked.specs.CheckedTree.{File, Method}
use Rattle.ls_checked.specs.CheckedProgram.{Program, ProgramCall, Making, Calling}
use Rattle.ls_meaning.specs.Values.{reference_of}
use Rattle.ls_meaning.specs.Course.{Answers, Evaluated, Asks, Results, Throws, tell, with_value}
use Rattle.ls_meaning.specs.Expressions.{constructor_of}
use Rattle.ls_meaning.specs.Methods.{invoke, depth_limit}
use Rattle.ls_meaning.specs.Threads.{Next, Goes, Trapped, result_of, event, after_call, all_calls}
use Rattle.ls_lowered.specs.Methods as courses
use Rattle.ls_refs.specs.ValueWords.{value_word, IsSmall}
use Rattle.ls_types_judgement.specs.Sorts.{HasType, HasSort, HaveTypes}
use Rattle.ls_types_judgement.specs.Typing.{answer_sort, parameters_of}
use Rattle.ls_refs.specs.Lowered.{lowered_file}
use Rattle.ls_refs.specs.Laws.{answer_words, in_words}
use Rattle.ls_preservation.specs.Sorts.{Suited}
use Rattle.ls_types_judgement.specs.Programs.{IsTypedMaking, IsTypedCalling}

-- what a thread does next: what a call asks for, or what comes after the call's result or exception
abbrev pub then_next : Evaluated Value → (Value → Answers → Next) → (Kind → Answers → Next) → Next
then_next (Asks action sort) go throw = Goes action sort
then_next (Results v rest) go throw = go v rest
then_next (Throws kind rest) go throw = throw kind rest

-- after a making's constructor the setup name is written; after a method its result is returned; each exception is a
-- trap
abbrev pub after_making : File → Program → ℕ → ℕ → Value → List ProgramCall → Value → Answers → Next
after_making file program n name object calls v rest =
    after_call n (with_value (tell (act.WriteName name object) rest) (λ _ rest. Results None rest))
    (all_calls file program (n + 1) calls)

abbrev pub after_calling : File → Program → ℕ → ℕ → List ProgramCall → Value → Answers → Next
after_calling file program n method calls v rest = event (act.Return n (result_of file method v)) rest
    (all_calls file program (n + 1) calls)

abbrev pub after_throw : ℕ → Kind → Answers → Next
after_throw n kind rest = event (act.Trap n kind) rest (λ rest. Trapped)

-- A call of method n, which answers `result`, with `this` and arguments. The answers `q` are all answers from its
-- entering on, and those after its end too.
pub record InCall (file : File) (depth n : ℕ) (result : Option ValueType) (values : List Value)
    (go : Value → Answers → Next) (throw : Kind → Answers → Next) (q : Answers) : Type 0 where
  -- in words, the call asks what it asks and ends as it ends, with the same answers left
  pub words : courses.invoke (lowered_file file) depth n (map value_word values) (answer_words q) ≡ in_words
      (invoke file depth n values q)
  -- the answers that are left are in kind to what comes after the call
  pub answered : (v : Value) (rest : Answers) →
      invoke file depth n values q ≡ Results v rest →
      HasSort IsSmall (answer_sort result) v × Suited IsSmall (go v) rest
  pub thrown : (kind : Kind) (rest : Answers) →
      invoke file depth n values q ≡ Throws kind rest →
      Suited IsSmall (throw kind) rest

-- each call of each method, with `this` and arguments of the right types, however the thread goes on
abbrev pub SuitedInCall : File → Type 0
SuitedInCall file =
    (depth n : ℕ) (m : Method) (o : Value) (vs : List Value) →
    slice_get file.methods n ≡ Some m → HasType IsSmall o (types.Class m.class) →
    HaveTypes IsSmall (parameters_of m) vs →
    (go : Value → Answers → Next) (throw : Kind → Answers → Next) (q : Answers) →
    Suited IsSmall (λ more. then_next (invoke file depth n (o ∷ vs) more) go throw) q →
    InCall file depth n m.result (o ∷ vs) go throw q

-- a thread at a making: `y` answers its call event, and the making answers the object
abbrev pub SuitedInMaking : File → Program → Type 0
SuitedInMaking file program =
    (n : ℕ) (calls : List ProgramCall) (y : Answer Value) (o : Value) (q : Answers) (name class : ℕ) (text : List ℕ)
    (vs : List Value) →
    (is : IsTypedMaking file program name class vs) →
    Suited IsSmall (all_calls file program n (Making name class text vs ∷ calls)) (y ∷ (Gives o ∷ q)) →
    InCall file depth_limit (constructor_of file.classes class) is.constructor.result (o ∷ vs)
    (after_making file program n name o calls) (after_throw n) q

-- a thread at a method's call: `y` answers its call event, and the read of the setup name answers an object
abbrev pub SuitedInCalling : File → Program → Type 0
SuitedInCalling file program =
    (n : ℕ) (calls : List ProgramCall) (y : Answer Value) (o : Value) (q : Answers) (name method : ℕ) (text : List ℕ)
    (result : Option ValueType) (vs : List Value) →
    IsTypedCalling file program name method result vs → reference_of o ≢ 0 →
    Suited IsSmall (all_calls file program n (Calling name method text result vs ∷ calls)) (y ∷ (Gives o ∷ q)) →
    InCall file depth_limit method result (o ∷ vs) (after_calling file program n method calls) (after_throw n) q

-- what a thread at a making, or at a method's call, does next; a call on null is a trap
abbrev pub NextInMaking : File → Program → Type 0
NextInMaking file program =
    (n : ℕ) (calls : List ProgramCall) (y : Answer Value) (o : Value) (q : Answers) (name class : ℕ) (text : List ℕ)
    (vs : List Value) →
    all_calls file program n (Making name class text vs ∷ calls) (y ∷ (Gives o ∷ q))
    ≡ then_next (invoke file depth_limit (constructor_of file.classes class) (o ∷ vs) q)
    (after_making file program n name o calls) (after_throw n)

abbrev pub NextInCalling : File → Program → Type 0
NextInCalling file program =
    (n : ℕ) (calls : List ProgramCall) (y : Answer Value) (o : Value) (q : Answers) (name method : ℕ) (text : List ℕ)
    (result : Option ValueType) (vs : List Value) →
    reference_of o ≢ 0 →
    all_calls file program n (Calling name method text result vs ∷ calls) (y ∷ (Gives o ∷ q))
    ≡ then_next (invoke file depth_limit method (o ∷ vs) q) (after_calling file program n method calls) (after_throw n)

abbrev pub NextOnNull : File → Program → Type 0
NextOnNull file program =
    (n : ℕ) (calls : List ProgramCall) (y : Answer Value) (o : Value) (q : Answers) (name method : ℕ) (text : List ℕ)
    (result : Option ValueType) (vs : List Value) →
    reference_of o ≡ 0 →
    all_calls file program n (Calling name method text result vs ∷ calls) (y ∷ (Gives o ∷ q)) ≡ after_throw n
    NullPointer q
