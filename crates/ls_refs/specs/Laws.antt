-- What is proved: after answers in kind a call's words ask what the call asks.
use Rattle.std.specs.Prelude.{◌≡◌, ℕ, List, [], ◌∷◌, map, option_map, Some, slice_get, ◌+◌}
use Rattle.ls_events.specs.declared.value.Value.{Value}
use Rattle.ls_events.specs.declared.value.ValueType.{ValueType}
use Rattle.ls_events.specs.declared.value.ValueType.TheVariants as types
use Rattle.ls_events.specs.declared.action.Action.{Action}
use Rattle.ls_events.specs.declared.action.Action.TheVariants as act
use Rattle.ls_events.specs.declared.action.Answer.{Answer}
use Rattle.ls_events.specs.declared.action.Answer.TheVariants.{Done, Gives, Fails}
use Rattle.ls_checked.specs.CheckedTree.{Method, File}
use Rattle.ls_meaning.specs.declared.sort.Sort.TheVariants.{NoValue}
use Rattle.ls_meaning.specs.Course.{Answers, Evaluated, Asks, Results, Throws}
use Rattle.ls_meaning.specs.Methods.{invoke}
use Rattle.ls_lowered.specs.Course as lowered
use Rattle.ls_lowered.specs.Methods as courses
use Rattle.ls_refs.specs.ValueWords.{value_word, IsSmall}
use Rattle.ls_types_judgement.specs.Sorts.{HasSort, HaveTypes}
use Rattle.ls_types_judgement.specs.Typing.{parameters_of}
use Rattle.ls_refs.specs.Lowered.{lowered_file}

-- an action and an answer in words; objects keep their names, and a field is named by its cell
abbrev pub action_word : Action Value → Action ℕ
action_word (act.ReadField o f) = act.ReadField o (f + 1)
action_word (act.WriteField o f v) = act.WriteField o (f + 1) (value_word v)
action_word (act.ReadItem o i) = act.ReadItem o i
action_word (act.WriteItem o i v) = act.WriteItem o i (value_word v)
action_word (act.ReadName n) = act.ReadName n
action_word (act.WriteName n v) = act.WriteName n (value_word v)
action_word (act.New c) = act.New c
action_word act.NewLock = act.NewLock
action_word (act.NewMarkable v) = act.NewMarkable (value_word v)
action_word (act.NewArray n) = act.NewArray n
action_word (act.Lock o) = act.Lock o
action_word (act.Unlock o) = act.Unlock o
action_word (act.TryLock o) = act.TryLock o
action_word (act.IsHeld o) = act.IsHeld o
action_word (act.LockMonitor o) = act.LockMonitor o
action_word (act.UnlockMonitor o) = act.UnlockMonitor o
action_word (act.ReadPair o) = act.ReadPair o
action_word (act.SetPair o v) = act.SetPair o (value_word v)
action_word (act.SwapPair o expected new) = act.SwapPair o (value_word expected) (value_word new)
action_word (act.AttemptMark o reference mark) = act.AttemptMark o reference mark
action_word act.Turn = act.Turn
action_word (act.Enter m) = act.Enter m
action_word (act.Call n) = act.Call n
action_word (act.Return n v) = act.Return n (option_map value_word v)
action_word (act.Trap n kind) = act.Trap n kind

abbrev pub answer_word : Answer Value → Answer ℕ
answer_word Done = Done
answer_word (Gives v) = Gives (value_word v)
answer_word (Fails kind) = Fails kind

abbrev pub answer_words : Answers → lowered.Answers
answer_words q = map answer_word q

-- what a call comes to, in words
abbrev pub in_words : Evaluated Value → lowered.Told
in_words (Asks action sort) = lowered.Asked (action_word action)
in_words (Results v rest) = lowered.Gave (value_word v) (answer_words rest)
in_words (Throws kind rest) = lowered.Raised kind (answer_words rest)

-- a turn back to a loop's condition throws nothing
abbrev pub MayFail : Action Value → Type 0
MayFail act.Turn = ⊥
MayFail _ = Unit {0}

-- an answer that an action can have, where one of this sort is expected
abbrev pub Suits : (ℕ → ValueType → Type 0) → Evaluated Value → Answer Value → Type 0
Suits P (Asks action sort) Done = sort ≡ NoValue
Suits P (Asks action sort) (Gives v) = HasSort P sort v
Suits P (Asks action sort) (Fails kind) = MayFail action
Suits P _ answer = ⊥

-- answers in kind: each suits what is asked for after those before it
abbrev pub Suited : (ℕ → ValueType → Type 0) → (Answers → Evaluated Value) → Answers → Type 0
Suited P f [] = Unit {0}
Suited P f (x ∷ q) = Suits P (f []) x × Suited P (λ rest. f (x ∷ rest)) q

-- a call of any method, at any depth, with `this` and arguments of the right types
pub record AsksAsFile (file : File) : Type 0 where
  pub asks : (depth n : ℕ) (m : Method) (o : Value) (vs : List Value) (q : Answers) →
      slice_get file.methods n ≡ Some m →
      HaveTypes IsSmall (types.Class m.class ∷ parameters_of m) (o ∷ vs) →
      Suited IsSmall (λ q. invoke file depth n (o ∷ vs) q) q →
      courses.invoke (lowered_file file) depth n (map value_word (o ∷ vs)) (answer_words q) ≡ in_words
      (invoke file depth n (o ∷ vs) q)
