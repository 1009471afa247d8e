-- What a tree asks for next, or how it ends, after the answers that its actions have had so far. Everything is total
-- over words: an answer without a word is read as word 0.
use Rattle.std.specs.Prelude.{ℕ, List, [], ◌∷◌, nat_eq, if◌then◌else◌}
use Rattle.ls_events.specs.declared.kind.Kind.{Kind}
use Rattle.ls_events.specs.declared.kind.Kind.TheVariants.{NullPointer}
use Rattle.ls_events.specs.declared.action.Action.{Action}
use Rattle.ls_events.specs.declared.action.Answer.{Answer}
use Rattle.ls_events.specs.declared.action.Answer.TheVariants.{Done, Gives, Fails}

-- the answers left
abbrev pub Answers : Type 0
Answers = List (Answer ℕ)

-- A tree asks for an action, or it ends with the locals and the answers that are left. Or it is stuck, as after the
-- throw of a word that is the word of no kind.
pub data Course (A : Type 0) : Type 0 where
  Asks : (action : Action ℕ) → Course A
  Ends : (end : A) (locals : List ℕ) (rest : Answers) → Course A
  Stuck : Course A

-- goes on after the end
abbrev pub finish : {A B : Type 0} → Course A → (A → List ℕ → Answers → Course B) → Course B
finish (Asks action) go = Asks action
finish (Ends end locals rest) go = go end locals rest
finish Stuck go = Stuck

-- how an expression ends
pub data Outcome (A : Type 0) : Type 0 where
  Results : (result : A) → Outcome A
  Throws : (kind : Kind) → Outcome A

-- goes on with the result; a throw ends the expression too
abbrev pub on_result : {A B : Type 0} →
    (A → List ℕ → Answers → Course (Outcome B)) →
    Outcome A →
    List ℕ →
    Answers →
    Course (Outcome B)
on_result go (Results x) locals rest = go x locals rest
on_result go (Throws kind) locals rest = Ends (Throws kind) locals rest

abbrev pub and_then : {A B : Type 0} →
    Course (Outcome A) →
    (A → List ℕ → Answers → Course (Outcome B)) →
    Course (Outcome B)
and_then x go = finish x (on_result go)

-- one action, and the word of its answer
abbrev pub ask : Action ℕ → List ℕ → Answers → Course (Outcome ℕ)
ask action locals [] = Asks action
ask action locals (Done ∷ rest) = Ends (Results 0) locals rest
ask action locals (Gives word ∷ rest) = Ends (Results word) locals rest
ask action locals (Fails kind ∷ rest) = Ends (Throws kind) locals rest

-- one action that gives no word
abbrev pub perform : Action ℕ → List ℕ → Answers → Course (Outcome ℕ)
perform action locals answers = and_then (ask action locals answers) (λ word locals rest. Ends (Results 0) locals rest)

-- unless an address is null
abbrev pub unless_null : {A : Type 0} → ℕ → List ℕ → Answers → Course (Outcome A) → Course (Outcome A)
unless_null address locals rest go = if nat_eq address 0 then Ends (Throws NullPointer) locals rest else go

-- What a call comes to. It asks for an action, gives a word, raises an exception, or is lost.
pub data Told : Type 0 where
  Asked : (action : Action ℕ) → Told
  Gave : (word : ℕ) (rest : Answers) → Told
  Raised : (kind : Kind) (rest : Answers) → Told
  Lost : Told

-- what a call of a method does, with `this` and the arguments
abbrev pub Calls : Type 0
Calls = ℕ → List ℕ → Answers → Told

-- what the caller makes of what a call does
abbrev pub returned : List ℕ → Told → Course (Outcome ℕ)
returned locals (Asked action) = Asks action
returned locals (Gave word rest) = Ends (Results word) locals rest
returned locals (Raised kind rest) = Ends (Throws kind) locals rest
returned locals Lost = Stuck
