-- What a thread does next, given the answers that its actions have had so far.
use Rattle.std.specs.Prelude.{ℕ, List, [], ◌∷◌, if◌then◌else◌, nat_eq}
use Rattle.ls_events.specs.declared.value.Value.{Value}
use Rattle.ls_events.specs.declared.kind.Kind.{Kind}
use Rattle.ls_events.specs.declared.kind.Kind.TheVariants.{NullPointer}
use Rattle.ls_events.specs.declared.action.Action.{Action}
use Rattle.ls_events.specs.declared.action.Answer.{Answer}
use Rattle.ls_events.specs.declared.action.Answer.TheVariants.{Done, Gives, Fails}
use Rattle.ls_meaning.specs.declared.sort.Sort.{Sort}
use Rattle.ls_meaning.specs.declared.sort.Sort.TheVariants.{NoValue}
use Rattle.ls_meaning.specs.Values.{nothing, reference_of}

-- the answers left
abbrev pub Answers : Type 0
Answers = List (Answer Value)

-- The evaluation of an expression asks for an action, whose answer must be of the sort. Or it completes, normally with
-- a result or abruptly with an exception (JLS 15.6).
pub data Evaluated (A : Type 0) : Type 0 where
  Asks : (action : Action Value) (answer : Sort) → Evaluated A
  Results : (result : A) (rest : Answers) → Evaluated A
  Throws : (kind : Kind) (rest : Answers) → Evaluated A

-- one action; if no answer is left, it is asked for, else it takes its answer
abbrev pub ask : Action Value → Sort → Answers → Evaluated Value
ask action sort [] = Asks action sort
ask action sort (Done ∷ rest) = Results nothing rest
ask action sort (Gives v ∷ rest) = Results v rest
ask action sort (Fails kind ∷ rest) = Throws kind rest

-- one action that is always done: whatever the answer, it throws nothing and gives nothing
abbrev pub tell : Action Value → Answers → Evaluated Value
tell action [] = Asks action NoValue
tell action (answer ∷ rest) = Results nothing rest

-- goes on with the result; an exception ends the expression too (JLS 15.6)
abbrev pub with_value : {A B : Type 0} → Evaluated A → (A → Answers → Evaluated B) → Evaluated B
with_value (Asks action sort) go = Asks action sort
with_value (Results v rest) go = go v rest
with_value (Throws kind rest) go = Throws kind rest

-- goes on unless the reference is null (JLS 15.11.1, 15.12.4.4, 15.26.1)
abbrev pub unless_null : {A : Type 0} → ℕ → Answers → Evaluated A → Evaluated A
unless_null object rest go = if nat_eq object 0 then Throws NullPointer rest else go

-- an action on the object of a reference, which throws on null
abbrev pub on_object : Value → Action Value → Sort → Answers → Evaluated Value
on_object o action sort rest = unless_null (reference_of o) rest (ask action sort rest)
