-- Answers in kind, and arguments of their types.
use Rattle.std.proofs.Common.{◌≡◌, ℕ, List, [], ◌∷◌, length, refl, subst, arith}
use Rattle.ls_events.specs.declared.value.Value.{Value}
use Rattle.ls_events.specs.declared.value.Value.TheVariants as values
use Rattle.ls_events.specs.declared.value.ValueType.{ValueType}
use Rattle.ls_events.specs.declared.value.ValueType.TheVariants as types
use Rattle.ls_meaning.specs.Course.{Answers}
use Rattle.ls_meaning.specs.Threads.{Next}
use Rattle.ls_preservation.specs.Sorts.{Suits, Suited}
use Rattle.ls_types_judgement.specs.Sorts.{HasType, HaveTypes}
use Rattle.ls_refs.specs.ValueWords.{IsSmall}
use Rattle.ls_types_judgement.specs.Programs.{IsArgument, AreArguments}

-- the same if the same comes next
pub suited_same : (P : ℕ → ValueType → Type 0) (f g : Answers → Next) →
    ((q : Answers) → f q ≡ g q) →
    (q : Answers) →
    Suited P f q →
    Suited P g q
suited_same P f g e [] s = tt
suited_same P f g e (x ∷ q) s = (
  subst (λ t. Suits P t x) (e []) s.0,
  suited_same P (λ q. f (x ∷ q)) (λ q. g (x ∷ q)) (λ q. e (x ∷ q)) q s.1,
)

argument_has : (t : ValueType) (v : Value) → IsArgument t v → HasType IsSmall v t
argument_has types.Int (values.Int z) h = h
argument_has types.Boolean (values.Boolean b) h = tt
argument_has t v h = absurd h

-- arguments that the program may have have the types of the parameters
pub arguments_have : (ts : List ValueType) (vs : List Value) → AreArguments ts vs → HaveTypes IsSmall ts vs
arguments_have [] [] h = tt
arguments_have [] (v ∷ vs) h = absurd h
arguments_have (t ∷ ts) [] h = absurd h
arguments_have (t ∷ ts) (v ∷ vs) h = (argument_has t v h.0, arguments_have ts vs h.1)

-- there are as many arguments as parameters
pub as_many : (ts : List ValueType) (vs : List Value) → AreArguments ts vs → length vs ≡ length ts
as_many [] [] h = refl
as_many [] (v ∷ vs) h = absurd h
as_many (t ∷ ts) [] h = absurd h
as_many (t ∷ ts) (v ∷ vs) h = let e = as_many ts vs h.1 in omega arith
