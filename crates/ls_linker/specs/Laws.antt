-- What the linked code owes its file and its program.
use Rattle.std.specs.Prelude.{◌≡◌, ℕ, ◌+◌, List, ◌∷◌, length, map, Some, slice_get}
use Rattle.ls_events.specs.declared.kind.Kind.{Kind}
use Rattle.ls_events.specs.declared.value.Value.{Value}
use Rattle.ls_events.specs.declared.value.ValueType.TheVariants as types
use Rattle.ls_checked.specs.CheckedTree.{Method, File}
use Rattle.ls_meaning.specs.Course.{Answers, Results}
use Rattle.ls_meaning.specs.Methods.{invoke}
use Rattle.ls_meaning.specs.Threads.{Next}
use Rattle.ls_lowered.specs.LoweredTree as low
use Rattle.ls_lowered.specs.Methods as courses
use Rattle.ls_refs.specs.ValueWords.{value_word, IsSmall}
use Rattle.ls_types_judgement.specs.Sorts.{HaveTypes}
use Rattle.ls_types_judgement.specs.Typing.{parameters_of}
use Rattle.ls_refs.specs.Laws.{answer_words, in_words}
use Rattle.ls_preservation.specs.Sorts.{Suited}
use Rattle.ls_soundness.specs.InCall.{then_next}

-- A call of method n that a thread makes. After its result the thread goes on with `go`. The answers `q` are all
-- answers from the entering of the call on, and those after its end too.
pub record CallAsks (file : File) (lowered : low.File) (depth n : ℕ) (values : List Value) (go : Value → Answers → Next)
    (q : Answers) : Type 0 where
  -- in words, the call asks what it asks and ends as it ends, with the same answers left
  pub words : courses.invoke lowered depth n (map value_word values) (answer_words q) ≡ in_words
      (invoke file depth n values q)
  -- the answers that are left are in kind to what comes after the call
  pub answered : (v : Value) (rest : Answers) →
      invoke file depth n values q ≡ Results v rest →
      Suited IsSmall (go v) rest

-- A lowered file asks as its file. Take a call of any method, at any depth, with `this` and arguments of the right
-- types, and answers in kind. Then the lowered call asks for the same in words, whatever its thread does after the
-- call. Each method takes `this` and the parameters.
pub record LoweredAsks (file : File) (lowered : low.File) : Type 0 where
  pub asks : (depth n : ℕ) (m : Method) (o : Value) (vs : List Value) (go : Value → Answers → Next)
      (throw : Kind → Answers → Next) (q : Answers) →
      slice_get file.methods n ≡ Some m → HaveTypes IsSmall (types.Class m.class ∷ parameters_of m) (o ∷ vs) →
      Suited IsSmall (λ more. then_next (invoke file depth n (o ∷ vs) more) go throw) q →
      CallAsks file lowered depth n (o ∷ vs) go q
  pub takes : (n : ℕ) (m : Method) →
      slice_get file.methods n ≡ Some m →
      (g : low.Method) × (slice_get lowered n ≡ Some g) × (g.arguments ≡ length (parameters_of m) + 1)
