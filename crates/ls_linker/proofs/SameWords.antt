-- The two ways to write values, answers and actions in words agree.
use Rattle.std.proofs.Common.{◌≡◌, List, [], ◌∷◌, map, Some, None, refl, ap, ◌∙◌, ◌+◌}
use Rattle.ls_events.specs.declared.value.Value.{Value}
use Rattle.ls_events.specs.declared.value.Value.TheVariants.{Int, Boolean, Reference, Pair}
use Rattle.ls_events.specs.declared.action.Action.{Action}
use Rattle.ls_events.specs.declared.action.Action.TheVariants as act
use Rattle.ls_events.specs.declared.action.Answer.{Answer}
use Rattle.ls_events.specs.declared.action.Answer.TheVariants.{Done, Gives, Fails}
use Rattle.ls_meaning.specs.Course.{Answers}
use Rattle.ls_refs.specs.ValueWords.{value_word}
use Rattle.ls_refs.specs.Laws.{action_word, answer_word, answer_words}
use Rattle.ls_preservation.specs.InWords.{word_of, map_action, map_answer}

-- both definitions of a value's word agree
pub value_is : (v : Value) → value_word v ≡ word_of v
value_is (Int z) = refl
value_is (Boolean b) = refl
value_is (Reference n) = refl
value_is (Pair n m) = refl

-- the same of values
pub values_are : (vs : List Value) → map value_word vs ≡ map word_of vs
values_are [] = refl
values_are (v ∷ vs) = ap (λ w. w ∷ map value_word vs) (value_is v) ∙ ap (λ ws. word_of v ∷ ws) (values_are vs)

answer_is : (x : Answer Value) → map_answer word_of x ≡ answer_word x
answer_is Done = refl
answer_is (Gives v) = let e = value_is v in cc
answer_is (Fails kind) = refl

-- the same of answers
pub answers_are : (q : Answers) → map (map_answer word_of) q ≡ answer_words q
answers_are [] = refl
answers_are (x ∷ q) = ap (λ y. y ∷ map (map_answer word_of) q) (answer_is x) ∙
    ap (λ ys. answer_word x ∷ ys) (answers_are q)

-- the same of an action
pub action_is : (a : Action Value) → action_word a ≡ map_action (λ n. n) word_of a
action_is (act.ReadField o i) = refl
action_is (act.WriteField o i v) = ap (act.WriteField o (i + 1)) (value_is v)
action_is (act.ReadItem o i) = refl
action_is (act.WriteItem o i v) = ap (act.WriteItem o i) (value_is v)
action_is (act.ReadName n) = refl
action_is (act.WriteName n v) = ap (act.WriteName n) (value_is v)
action_is (act.New c) = refl
action_is act.NewLock = refl
action_is (act.NewMarkable v) = ap act.NewMarkable (value_is v)
action_is (act.NewArray n) = refl
action_is (act.Lock o) = refl
action_is (act.Unlock o) = refl
action_is (act.TryLock o) = refl
action_is (act.IsHeld o) = refl
action_is (act.LockMonitor o) = refl
action_is (act.UnlockMonitor o) = refl
action_is (act.ReadPair o) = refl
action_is (act.SetPair o v) = ap (act.SetPair o) (value_is v)
action_is (act.SwapPair o e d) = ap (λ w. act.SwapPair o w (value_word d)) (value_is e) ∙
    ap (act.SwapPair o (word_of e)) (value_is d)
action_is (act.AttemptMark o r m) = refl
action_is act.Turn = refl
action_is (act.Enter m) = refl
action_is (act.Call n) = refl
action_is (act.Return n None) = refl
action_is (act.Return n (Some v)) = ap (λ w. act.Return n (Some w)) (value_is v)
action_is (act.Trap n k) = refl
