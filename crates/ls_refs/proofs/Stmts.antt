-- The words of each typed statement ask what it asks.
use Rattle.std.proofs.Common.{◌≡◌, ◌≢◌, ℕ, zero, suc, ◌+◌, ◌*◌, ◌<◌, ◌≤◌, ◌^◌, Bool, true, false, cond, ⊎_elim, List}
use Rattle.std.proofs.Common.{[], ◌∷◌, length, Option, Some, None, refl, sym, ap, ◌∙◌, subst, arith}
use Rattle.std.specs.Prelude.{slice_index, slice_index_or, slice_set, slice_get, nat_eq}
use Rattle.std.proofs.lemmas.List.{length-set, get_or-set_same, get_or-set_other, length-map}
use Rattle.std.proofs.lemmas.Bool.{cases_lt}
use Rattle.ls_events.specs.declared.action.Action.TheVariants as act
use Rattle.ls_events.specs.declared.value.Value.{Value}
use Rattle.ls_events.specs.declared.value.ValueType.{ValueType}
use Rattle.ls_events.specs.declared.value.ValueType.TheVariants as types
use Rattle.ls_checked.specs.CheckedTree.{File, Expression, Statement, Block, SetSlot, SetField, AddField, SetItem}
use Rattle.ls_checked.specs.CheckedTree.{Evaluate, If, While, Break, Continue, ReturnNothing, ReturnValue, Try}
use Rattle.ls_checked.specs.CheckedTree.{Statements, Then}
use Rattle.ls_checked.specs.declared.tree.Operator.TheVariants.{Add}
use Rattle.ls_checked.specs.CheckedTree as checked
use Rattle.ls_meaning.specs.declared.sort.Sort.{Sort}
use Rattle.ls_meaning.specs.declared.sort.Sort.TheVariants.{NoValue, ValueOf}
use Rattle.ls_meaning.specs.declared.completion.Completion.{Completion}
use Rattle.ls_meaning.specs.declared.completion.Completion.TheVariants.{Normal, Broke, Continued, Returned, Threw}
use Rattle.ls_meaning.specs.Values.{int_of, truth_of, reference_of, nothing}
use Rattle.ls_events.specs.declared.action.Answer.TheVariants as answers
use Rattle.ls_meaning.specs.Course.{Answers, Evaluated, Asks}
use Rattle.ls_meaning.specs.Expressions.{Calls, evaluate}
use Rattle.ls_meaning.specs.Statements.{Executed, AsksFor, Completes, on_value, then_do, finally_do, turn_back}
use Rattle.ls_meaning.specs.Statements.{after_body, one_turn, turns, execute, execute_all}
use Rattle.ls_meaning.proofs.Followers as followers
use Rattle.ls_meaning.proofs.Followers.{Follower}
use Rattle.ls_lowered.specs.LoweredTree as tree
use Rattle.ls_lowered.specs.Words as words
use Rattle.ls_lowered.specs.Course as low
use Rattle.ls_lowered.specs.Expressions.{evaluate as find}
use Rattle.ls_lowered.specs.Statements as does
use Rattle.ls_lowered.specs.Methods.{told}
use Rattle.ls_refs.specs.ValueWords.{value_word}
use Rattle.ls_types_judgement.specs.Sorts.{HasType, HasSort}
use Rattle.ls_types_judgement.specs.Typing.{IsTyped, IsTypedStatement, AreTypedStatements}
use Rattle.ls_refs.specs.Temporaries.{temporaries, statement_temporaries, block_temporaries}
use Rattle.ls_refs.specs.Lowered.{lowered, lowered_statement, lowered_block}
use Rattle.ls_refs.specs.Laws.{answer_word, answer_words, in_words, Suited}
use Rattle.ls_refs.proofs.Numbers.{int_back}
use Rattle.ls_refs.proofs.Values.{reference_word, truth_word, int_word, int_fits}
use Rattle.ls_refs.proofs.Sim.{suited_eq, word_ends, Sim, sim_eq, Agrees, then_agrees, ask_agrees, perform_agrees}
use Rattle.ls_refs.proofs.Sim.{null_agrees}
use Rattle.ls_refs.proofs.Good.{Holds, holds_kept, get_within, CallsAgree}
use Rattle.ls_refs.proofs.Operations.{operate_agrees}
use Rattle.ls_refs.proofs.Exprs.{agrees}
use Rattle.ls_refs.proofs.Ahead.{ahead_runs}
use Rattle.ls_meaning.proofs.Shorter.{CallsWithin, evaluate_within, execute_within, turns_eq}

-- how a statement's completion goes on
abbrev pub Go : Type 0
Go = Follower (Evaluated Value)

-- how that of words goes on
abbrev pub GoWord : Type 0
GoWord = does.Completion → List ℕ → low.Answers → low.Told

-- a statement, and what follows each of its completions
abbrev pub finish_by : Executed → Go → Evaluated Value
finish_by x g = followers.finish_by Asks x g

-- the word that is returned, and the completion in words: two numbers are each loop's
abbrev pub returned_word : Option Value → ℕ
returned_word None = 0
returned_word (Some v) = value_word v

-- the completion of words that stands for one of values
abbrev pub completion_word : Completion Value → does.Completion
completion_word Normal = does.Normal
completion_word (Broke n) = does.Left (2 * n + 1)
completion_word (Continued n) = does.Left (2 * n)
completion_word (Returned v) = does.Returned (returned_word v)
completion_word (Threw k) = does.Threw k

-- an expression, and then a statement
word_by : (x : low.Course (low.Outcome ℕ)) (k : ℕ → List ℕ → low.Answers → low.Course does.Completion) (g : GoWord) →
    told (low.finish x (does.on_word k)) g ≡ word_ends x (λ w l r. told (k w l r) g) (λ n l r. g (does.Threw n) l r)
word_by (low.Asks a) k g = refl
word_by (low.Ends (low.Results w) l r) k g = refl
word_by (low.Ends (low.Throws n) l r) k g = refl
word_by low.Stuck k g = refl

-- a statement, and then what its construct makes of it
finish_told : (x : low.Course does.Completion) (f : does.Go) (g : GoWord) →
    told (low.finish x f) g ≡ told x (λ c l r. told (f c l r) g)
finish_told (low.Asks a) f g = refl
finish_told (low.Ends c l r) f g = refl
finish_told low.Stuck f g = refl

abbrev on_normal : (List Value → Answers → Executed) → Go → Go
on_normal b g = followers.on_normal (Evaluated Value) Asks b g

abbrev on_body : (List Value → Answers → Executed) → Go → Go
on_body b g = followers.on_body (Evaluated Value) Asks b g

-- a course that a leave of it ends
abbrev ended : low.Calls → low.Course does.Completion → low.Course does.Completion
ended calls' x = low.finish x (does.on_leave (does.leave_to calls' tree.Done))

-- what a loop makes of the completion of its body, where a leave ends both
abbrev round : low.Calls → (List ℕ → low.Answers → low.Course does.Completion) → does.Go
round calls' b' c l q = ended calls' (low.finish (ended calls' (low.Ends c l q)) (does.on_body b'))

round_told : (calls' : low.Calls) (x : low.Course does.Completion)
    (b' : List ℕ → low.Answers → low.Course does.Completion) (g : GoWord) →
    told (ended calls' (low.finish (ended calls' x) (does.on_body b'))) g ≡ told x
    (λ c l r. told (round calls' b' c l r) g)
round_told calls' (low.Asks a) b' g = refl
round_told calls' (low.Ends c l r) b' g = refl
round_told calls' low.Stuck b' g = refl

back_ended : (calls' : low.Calls) (b' : List ℕ → low.Answers → low.Course does.Completion) (l : List ℕ)
    (q : low.Answers) →
    ended calls' (does.turn_back b' l q) ≡ does.turn_back (λ l q. ended calls' (b' l q)) l q
back_ended calls' b' l [] = refl
back_ended calls' b' l (answers.Done ∷ q) = refl
back_ended calls' b' l (answers.Gives w ∷ q) = refl
back_ended calls' b' l (answers.Fails k ∷ q) = refl

-- a loop's condition, and what follows it
tested_ended : (calls' : low.Calls) (x : low.Course (low.Outcome ℕ))
    (k : ℕ → List ℕ → low.Answers → low.Course does.Completion) →
    ended calls' (low.finish x (does.on_word k)) ≡ low.finish x (does.on_word (λ w l q. ended calls' (k w l q)))
tested_ended calls' (low.Asks a) k = refl
tested_ended calls' (low.Ends (low.Results w) l r) k = refl
tested_ended calls' (low.Ends (low.Throws n) l r) k = refl
tested_ended calls' low.Stuck k = refl

choose_ended : (calls' : low.Calls) (t : Bool) (x y : low.Course does.Completion) →
    ended calls' (cond t x y) ≡ cond t (ended calls' x) (ended calls' y)
choose_ended calls' true x y = refl
choose_ended calls' false x y = refl

-- a value that is returned has the type that the method answers
abbrev pub ReturnedHas : (ℕ → ValueType → Type 0) → Option ValueType → Option Value → Type 0
ReturnedHas P r None = Unit {0}
ReturnedHas P r (Some v) = (t : ValueType) × (r ≡ Some t) × HasType P v t

-- what is returned has the result's type
abbrev pub CompletionHas : (ℕ → ValueType → Type 0) → Option ValueType → Completion Value → Type 0
CompletionHas P r (Returned v) = ReturnedHas P r v
CompletionHas P r _ = Unit {0}

pub record AgreesBy (P : ℕ → ValueType → Type 0) (slots : List ValueType) (r : Option ValueType) (room : ℕ)
    (x : Answers → Executed) (x' : low.Answers → low.Course does.Completion) : Type 0 where
  pub sim : (g : Go) (g' : GoWord) →
      ((c : Completion Value) (ls : List Value) (l : List ℕ) → CompletionHas P r c → Holds P slots ls l →
      length l ≡ room → Sim P (g c ls) (g' (completion_word c) l)) →
      Sim P (λ q. finish_by (x q) g) (λ q. told (x' q) g')

module _ (P : ℕ → ValueType → Type 0) (slots : List ValueType) (r : Option ValueType) (room : ℕ) where
  -- what follows goes on alike, from any locals that agree
  abbrev Follows : (List Value → Answers → Executed) → (List ℕ → low.Answers → low.Course does.Completion) → Type 0
  Follows b b' = (ls : List Value) (l : List ℕ) → Holds P slots ls l → length l ≡ room →
      AgreesBy P slots r room (λ q. b ls q) (λ q. b' l q)

  abbrev Rest : Go → GoWord → Type 0
  Rest g g' = (c : Completion Value) (ls : List Value) (l : List ℕ) → CompletionHas P r c → Holds P slots ls l →
      length l ≡ room → Sim P (g c ls) (g' (completion_word c) l)

  ends_agrees : (c : Completion Value) (ls : List Value) (l : List ℕ) →
      CompletionHas P r c →
      Holds P slots ls l →
      length l ≡ room →
      AgreesBy P slots r room (λ q. Completes c ls q) (λ q. low.Ends (completion_word c) l q)
  ends_agrees c ls l hc h e = record { sim = λ g g' kg. kg c ls l hc h e }

  value_agrees : (base : ℕ) (old : List ℕ) (s : Sort) (ls : List Value) (x : Answers → Evaluated Value)
      (x' : low.Answers → low.Course (low.Outcome ℕ)) (k : Value → Answers → Executed)
      (k' : ℕ → List ℕ → low.Answers → low.Course does.Completion) →
      length slots ≤ base →
      length old ≡ room →
      Holds P slots ls old →
      Agrees P (HasSort P s) value_word base old x x' → ((v : Value) (l : List ℕ) → HasSort P s v → Holds P slots ls l →
      length l ≡ room → AgreesBy P slots r room (λ q. k v q) (λ q. k' (value_word v) l q)) →
      AgreesBy P slots r room (λ q. on_value (x q) ls k) (λ q. low.finish (x' q) (does.on_word k'))
  value_agrees base old s ls x x' k k' le e h a f = record {
    sim = λ g g' kg. sim_eq P _ _ _ _ (λ q. followers.value_by (Evaluated Value) Asks (x q) ls k g)
        (λ q. word_by (x' q) k' g')
        (a.sim (λ v q. finish_by (k v q) g) (λ n q. g (Threw n) ls q) (λ w l q. told (k' w l q) g')
        (λ n l q. g' (does.Threw n) l q)
        (λ v l hv kp. (f v l hv (holds_kept P slots ls base old l le kp h) (kp.long ∙ e)).sim g g' kg)
        (λ n l kp. kg (Threw n) ls l tt (holds_kept P slots ls base old l le kp h) (kp.long ∙ e)));
  }

  both_agree : (x : Answers → Executed) (x' : low.Answers → low.Course does.Completion)
      (b : List Value → Answers → Executed) (b' : List ℕ → low.Answers → low.Course does.Completion) →
      AgreesBy P slots r room x x' →
      Follows b b' →
      AgreesBy P slots r room (λ q. then_do (x q) b) (λ q. low.finish (x' q) (does.on_normal b'))
  both_agree x x' b b' a f = record {
    sim = λ g g' kg. sim_eq P _ _ _ _ (λ q. followers.then_by (Evaluated Value) Asks (x q) b g)
        (λ q. finish_told (x' q) (does.on_normal b') g') (a.sim (on_normal b g)
        (λ c l r. told (does.on_normal b' c l r) g') (goes g g' kg));
  }
    where
      goes : (g : Go) (g' : GoWord) → Rest g g' → Rest (on_normal b g) (λ c l r. told (does.on_normal b' c l r) g')
      goes g g' kg Normal ls l hc h e = (f ls l h e).sim g g' kg
      goes g g' kg (Broke n) ls l hc h e = kg (Broke n) ls l hc h e
      goes g g' kg (Continued n) ls l hc h e = kg (Continued n) ls l hc h e
      goes g g' kg (Returned n) ls l hc h e = kg (Returned n) ls l hc h e
      goes g g' kg (Threw n) ls l hc h e = kg (Threw n) ls l hc h e

  finally_agree : (x : Answers → Executed) (x' : low.Answers → low.Course does.Completion)
      (b : List Value → Answers → Executed) (b' : List ℕ → low.Answers → low.Course does.Completion) →
      AgreesBy P slots r room x x' →
      Follows b b' →
      AgreesBy P slots r room (λ q. finally_do (x q) b) (λ q. low.finish (x' q) (does.on_any b'))
  finally_agree x x' b b' a f = record {
    sim = λ g g' kg. sim_eq P _ _ _ _ (λ q. followers.finally_by (Evaluated Value) Asks (x q) b g)
        (λ q. finish_told (x' q) (does.on_any b') g')
        (a.sim (λ c ls r. finish_by (then_do (b ls r) (λ ls r. Completes c ls r)) g)
        (λ c l r. told (does.on_any b' c l r) g')
        (λ c ls l hc h e. (both_agree (λ q. b ls q) (λ q. b' l q) (λ ls r. Completes c ls r)
        (λ l r. low.Ends (completion_word c) l r) (f ls l h e) (λ ls l h e. ends_agrees c ls l hc h e)).sim g g'
        kg));
  }

  back_agree : (b : List Value → Answers → Executed) (b' : List ℕ → low.Answers → low.Course does.Completion)
      (ls : List Value) (l : List ℕ) →
      Holds P slots ls l →
      length l ≡ room →
      Follows b b' →
      AgreesBy P slots r room (λ q. turn_back b ls q) (λ q. does.turn_back b' l q)
  back_agree b b' ls l h e f = record { sim = λ g g' kg. record { is = goes g g' kg } }
    where
      goes : (g : Go) (g' : GoWord) →
          Rest g g' →
          (qs : Answers) →
          Suited P (λ q. finish_by (turn_back b ls q) g) qs →
          told (does.turn_back b' l (answer_words qs)) g' ≡ in_words (finish_by (turn_back b ls qs) g)
      goes g g' kg [] u = refl
      goes g g' kg (answers.Done ∷ rest) u = ((f ls l h e).sim g g' kg).is rest u.1
      goes g g' kg (answers.Gives v ∷ rest) u = ((f ls l h e).sim g g' kg).is rest u.1
      goes g g' kg (answers.Fails k ∷ rest) u = absurd u.0

  -- the same words, said otherwise
  words_same : (x : Answers → Executed) (x' y' : low.Answers → low.Course does.Completion) →
      ((q : low.Answers) → x' q ≡ y' q) →
      AgreesBy P slots r room x y' →
      AgreesBy P slots r room x x'
  words_same x x' y' e a = record {
    sim = λ g g' kg. sim_eq P _ _ _ _ (λ q. refl) (λ q. ap (λ z. told z g') (e q))
        (a.sim g g' kg);
  }

  -- a loop's body, which a leave ends, in a loop that a leave ends
  body_agree : (calls' : low.Calls) (x : Answers → Executed) (x' : low.Answers → low.Course does.Completion)
      (b : List Value → Answers → Executed) (b' : List ℕ → low.Answers → low.Course does.Completion) →
      AgreesBy P slots r room x x' →
      Follows b (λ l q. ended calls' (b' l q)) →
      AgreesBy P slots r room (λ q. after_body (x q) b) (λ q.
      ended calls' (low.finish (ended calls' (x' q)) (does.on_body b')))
  body_agree calls' x x' b b' a f = record {
    sim = λ g g' kg. sim_eq P _ _ _ _ (λ q. followers.body_by (Evaluated Value) Asks (x q) b g)
        (λ q. round_told calls' (x' q) b' g') (a.sim (on_body b g) (λ c l r. told (round calls' b' c l r) g')
        (goes g g' kg));
  }
    where
      back : (g : Go) (g' : GoWord) →
          Rest g g' →
          (ls : List Value) (l : List ℕ) →
          Holds P slots ls l →
          length l ≡ room →
          Sim P (λ q. finish_by (turn_back b ls q) g) (λ q. told (ended calls' (does.turn_back b' l q)) g')
      back g g' kg ls l h e = (words_same (λ q. turn_back b ls q) (λ q. ended calls' (does.turn_back b' l q))
          (λ q. does.turn_back (λ l q. ended calls' (b' l q)) l q) (back_ended calls' b' l)
          (back_agree b (λ l q. ended calls' (b' l q)) ls l h e f)).sim g g' kg

      goes : (g : Go) (g' : GoWord) → Rest g g' → Rest (on_body b g) (λ c l r. told (round calls' b' c l r) g')
      goes g g' kg Normal ls l hc h e = back g g' kg ls l h e
      goes g g' kg (Broke zero) ls l hc h e = kg Normal ls l tt h e
      goes g g' kg (Broke (suc n)) ls l hc h e =
          let further : suc (suc (2 * n + 1)) ≡ 2 * suc n + 1 = omega arith in
          subst (λ m. Sim P (g (Broke n) ls) (λ q. told (round calls' b' (does.Left m) l q) g')) further
          (kg (Broke n) ls l tt h e)
      goes g g' kg (Continued zero) ls l hc h e = back g g' kg ls l h e
      goes g g' kg (Continued (suc n)) ls l hc h e =
          let further : suc (suc (2 * n)) ≡ 2 * suc n = omega arith in
          subst (λ m. Sim P (g (Continued n) ls) (λ q. told (round calls' b' (does.Left m) l q) g')) further
          (kg (Continued n) ls l tt h e)
      goes g g' kg (Returned n) ls l hc h e = kg (Returned n) ls l hc h e
      goes g g' kg (Threw n) ls l hc h e = kg (Threw n) ls l hc h e

  choose_agree : (v : Value) (x y : Answers → Executed) (x' y' : low.Answers → low.Course does.Completion) →
      HasType P v types.Boolean →
      AgreesBy P slots r room x x' →
      AgreesBy P slots r room y y' →
      AgreesBy P slots r room (λ q. cond (truth_of v) (x q) (y q)) (λ q. cond (nat_eq (value_word v) 0) (y' q) (x' q))
  choose_agree v x y x' y' hv a b = subst (λ w. AgreesBy P slots r room (λ q. cond (truth_of v) (x q) (y q))
      (λ q. cond (nat_eq w 0) (y' q) (x' q))) (sym (truth_word P v hv)) (by_case (truth_of v))
    where
      by_case : (t : Bool) →
          AgreesBy P slots r room (λ q. cond t (x q) (y q)) (λ q. cond (nat_eq (words.bool_word t) 0) (y' q) (x' q))
      by_case true = a
      by_case false = b

  module _ (calls' : low.Calls) (base : ℕ) (le : length slots ≤ base) (c : List Value → Answers → Evaluated Value)
      (b : List Value → Answers → Executed) (c' : List ℕ → low.Answers → low.Course (low.Outcome ℕ))
      (b' : List ℕ → low.Answers → low.Course does.Completion)
      (tested : (ls : List Value) (l : List ℕ) → Holds P slots ls l → length l ≡ room →
      Agrees P (HasSort P (ValueOf types.Boolean)) value_word base l (λ q. c ls q) (λ q. c' l q))
      (done : Follows b b') where
    turn_agrees : (f : List Value → Answers → Executed) (f' : List ℕ → low.Answers → low.Course does.Completion) →
        Follows f (λ l q. ended calls' (f' l q)) →
        Follows (one_turn c b f) (λ l q. ended calls' (does.one_turn c' (λ l q. ended calls' (b' l q)) f' l q))
    turn_agrees f f' k ls l h e =
        let after = λ (w : ℕ) (l : List ℕ) (q : low.Answers).
        cond (nat_eq w 0) (low.Ends does.Normal l q) (low.finish (ended calls' (b' l q)) (does.on_body f')) in
        words_same (λ q. one_turn c b f ls q) _ (λ q. low.finish (c' l q)
        (does.on_word (λ w l q. ended calls' (after w l q)))) (λ q. tested_ended calls' (c' l q) after)
        (value_agrees base l (ValueOf types.Boolean) ls _ _ _ _ le e h (tested ls l h e) (λ v l2 hv h2 e2.
        words_same _ (λ q. ended calls' (after (value_word v) l2 q))
        (λ q. cond (nat_eq (value_word v) 0) (low.Ends does.Normal l2 q)
        (ended calls' (low.finish (ended calls' (b' l2 q)) (does.on_body f'))))
        (λ q. choose_ended calls' (nat_eq (value_word v) 0) _ _)
        (choose_agree v (λ q. after_body (b ls q) f) (λ q. Completes Normal ls q)
        (λ q. ended calls' (low.finish (ended calls' (b' l2 q)) (does.on_body f'))) (λ q. low.Ends does.Normal l2 q)
        hv (body_agree calls' _ _ f f' (done ls l2 h2 e2) k) (ends_agrees Normal ls l2 tt h2 e2))))

    turns_agree : (n : ℕ) →
        Follows (turns n c b) (λ l q. ended calls' (does.turns n c' (λ l q. ended calls' (b' l q)) l q))
    turns_agree zero ls l h e = turn_agrees (λ ls rest. AsksFor act.Turn NoValue) (λ l rest. low.Asks act.Turn)
        (λ ls l h e. record { sim = λ g g' kg. record { is = λ qs s. refl } }) ls l h e
    turns_agree (suc n) ls l h e = turn_agrees (turns n c b) (does.turns n c' (λ l q. ended calls' (b' l q)))
        (turns_agree n) ls l h e

at_or : (Q : ℕ → Type 0) (i j : ℕ) → Q i → (i ≢ j → Q j) → Q j
at_or Q i j a b = ⊎_elim (λ l. b (λ e. omega arith)) (λ l. ⊎_elim (λ k. b (λ e. omega arith))
    (λ k. let e : i ≡ j = omega arith in subst Q e a) (cases_lt i j)) (cases_lt j i)

abbrev or_int : Option ValueType → ValueType
or_int None = types.Int
or_int (Some t) = t

-- a local is set
holds_set : (P : ℕ → ValueType → Type 0) (slots : List ValueType) (ls : List Value) (l : List ℕ) (i : ℕ) (t : ValueType)
    (v : Value) →
    slice_get slots i ≡ Some t →
    HasType P v t →
    length slots ≤ length l →
    Holds P slots ls l →
    Holds P slots (slice_set ls i v) (slice_set l i (value_word v))
holds_set P slots ls l i t v e hv le h =
    let within = get_within slots i t e in
    let here : i < length ls = omega (arith, within, h.long) in
    record {
      long = length-set ls i v ∙ h.long;
      typed = λ j s2 e2. at_or (λ k. (s3 : ValueType) → slice_get slots k ≡ Some s3 →
          HasType P (slice_index_or (slice_set ls i v) k nothing) s3) i j
          (λ s3 e3. subst (λ z. HasType P z s3) (sym (get_or-set_same ls i v nothing here))
          (subst (λ z. HasType P v z) (ap or_int (sym e ∙ e3)) hv))
          (λ ne s3 e3. subst (λ z. HasType P z s3) (sym (get_or-set_other ls i j v nothing (λ z. ne (sym z))))
          (h.typed j s3 e3)) s2 e2;
      worded = λ j small. at_or (λ k. slice_index (slice_set l i (value_word v)) k ≡ value_word
          (slice_index_or (slice_set ls i v) k nothing)) i j
          (get_or-set_same l i (value_word v) 0 (omega arith) ∙
          ap value_word (sym (get_or-set_same ls i v nothing here)))
          (λ ne. get_or-set_other l i j (value_word v) 0 (λ z. ne (sym z)) ∙ h.worded j small ∙
          ap value_word (sym (get_or-set_other ls i j v nothing (λ z. ne (sym z)))));
    }

module _ (P : ℕ → ValueType → Type 0) (null : (n : ℕ) (t : ValueType) → n ≡ 0 → P n t)
    (small : (n : ℕ) (t : ValueType) → P n t → n < 2 ^ 32) (file : File) (calls : Calls) (calls' : low.Calls)
    (called : CallsAgree P file calls calls') (within : CallsWithin calls) (slots : List ValueType)
    (r : Option ValueType) (room : ℕ) where
  -- an expression of a statement
  part : (e : Expression) (s : Sort) (base : ℕ) (ls : List Value) (l : List ℕ) →
      IsTyped file slots s e →
      Holds P slots ls l →
      length slots ≤ base →
      base + temporaries e ≤ length l →
      Agrees P (HasSort P s) value_word base l (λ q. evaluate file.classes calls e ls q)
      (λ q. find calls' (lowered file.classes base e) l q)
  part e s base ls l t h le big = (agrees P null small file calls calls' called slots e s t).good base ls l h le big

  mutual
    -- each typed statement asks and ends as its words do
    pub agrees_by : (s : Statement) (base : ℕ) (ls : List Value) (l : List ℕ) →
        IsTypedStatement file slots r s →
        Holds P slots ls l →
        length l ≡ room →
        length slots ≤ base →
        base + statement_temporaries s ≤ room →
        AgreesBy P slots r room (λ q. execute file.classes calls s ls q)
        (λ q. does.execute calls' (lowered_statement file.classes base s) l q)
    agrees_by (Block ss) base ls l t h e le big = all_agree_by ss base ls l t h e le big
    agrees_by (SetSlot i x) base ls l t h e le big = value_agrees P slots r room base l (ValueOf t.0) ls _ _ _ _ le e h
        (part x (ValueOf t.0) base ls l t.2 h le (omega arith)) (λ v l2 hv h2 e2.
        ends_agrees P slots r room Normal _ _ tt (holds_set P slots ls l2 i t.0 v t.1 hv (omega arith) h2)
        (length-set l2 i (value_word v) ∙ e2))
    agrees_by (SetField x f y) base ls l t h e le big = value_agrees P slots r room base l NoValue ls _ _ _ _ le e h
        (let b = base + temporaries x in
        then_agrees P _ _ _ _ base base b l _ _ _ _ (omega arith) (omega arith)
        (part x (ValueOf (types.Class t.0)) base ls l t.3 h le (omega arith)) (λ o l2 ho k.
        then_agrees P _ _ _ _ b b b l2 _ _ _ _ (omega arith) (omega arith)
        (part y (ValueOf t.1) b ls l2 t.4 (holds_kept P slots ls base l l2 le k h) (omega arith)
        (omega (arith, k.long))) (λ v l3 hv k2.
        null_agrees P _ _ b l3 _ _ _ _ (reference_word P o (types.Class t.0) tt ho)
        (perform_agrees P b l3 (act.WriteField (reference_of o) f v)
        (act.WriteField (value_word o) (f + 1) (value_word v))
        (ap (λ n. act.WriteField n (f + 1) (value_word v)) (reference_word P o (types.Class t.0) tt ho))))))
        (λ v l2 hv h2 e2. ends_agrees P slots r room Normal ls l2 tt h2 e2)
    agrees_by (AddField x f y) base ls l t h e le big = value_agrees P slots r room base l NoValue ls _ _ _ _ le e h
        (let b = base + temporaries x in
        then_agrees P _ _ _ _ base base b l _ _ _ _ (omega arith) (omega arith)
        (part x (ValueOf (types.Class t.0)) base ls l t.2 h le (omega arith)) (λ o l2 ho k.
        then_agrees P _ _ _ _ b b b l2 _ _ _ _ (omega arith) (omega arith)
        (null_agrees P _ _ b l2 _ _ _ _ (reference_word P o (types.Class t.0) tt ho)
        (ask_agrees P b l2 (act.ReadField (reference_of o) f) (ValueOf types.Int) (act.ReadField (value_word o) (f + 1))
        (ap (λ n. act.ReadField n (f + 1)) (reference_word P o (types.Class t.0) tt ho)))) (λ a l3 ha k2.
        then_agrees P _ _ _ _ b b b l3 _ _ _ _ (omega arith) (omega arith)
        (part y (ValueOf types.Int) b ls l3 t.3 (holds_kept P slots ls b l2 l3 (omega arith) k2
        (holds_kept P slots ls base l l2 le k h)) (omega arith) (omega (arith, k.long, k2.long))) (λ c l4 hc k3.
        then_agrees P _ _ _ _ b b b l4 _ _ _ (λ w ls q. low.unless_null (value_word o) ls q
        (low.perform (act.WriteField (value_word o) (f + 1) w) ls q)) (omega arith) (omega arith)
        (operate_agrees P Add types.Int a c b l4 refl ha hc) (λ v l5 hv k4.
        null_agrees P _ _ b l5 _ _ _ _ (reference_word P o (types.Class t.0) tt ho)
        (perform_agrees P b l5 (act.WriteField (reference_of o) f v)
        (act.WriteField (value_word o) (f + 1) (value_word v))
        (ap (λ n. act.WriteField n (f + 1) (value_word v)) (reference_word P o (types.Class t.0) tt ho))))))))
        (λ v l2 hv h2 e2. ends_agrees P slots r room Normal ls l2 tt h2 e2)
    agrees_by (SetItem x i y) base ls l t h e le big = value_agrees P slots r room base l NoValue ls _ _ _ _ le e h
        (let b = base + temporaries x in let c = base + temporaries x + temporaries i in
        then_agrees P _ _ _ _ base base b l _ _ _ _ (omega arith) (omega arith)
        (part x (ValueOf types.BooleanArray) base ls l t.0 h le (omega arith)) (λ o l2 ho k.
        then_agrees P _ _ _ _ b b c l2 _ _ _ _ (omega arith) (omega arith)
        (part i (ValueOf types.Int) b ls l2 t.1 (holds_kept P slots ls base l l2 le k h) (omega arith)
        (omega (arith, k.long))) (λ n l3 hn k2.
        then_agrees P _ _ _ _ c c c l3 _ _ _ _ (omega arith) (omega arith)
        (part y (ValueOf types.Boolean) c ls l3 t.2 (holds_kept P slots ls b l2 l3 (omega arith) k2
        (holds_kept P slots ls base l l2 le k h)) (omega arith) (omega (arith, k.long, k2.long))) (λ v l4 hv k3.
        null_agrees P _ _ c l4 _ _ _ _ (reference_word P o types.BooleanArray tt ho)
        (perform_agrees P c l4 (act.WriteItem (reference_of o) (int_of n) v)
        (act.WriteItem (value_word o) (words.int_of (value_word n)) (value_word v))
        (ap (λ z. act.WriteItem z (words.int_of (value_word n)) (value_word v))
        (reference_word P o types.BooleanArray tt ho) ∙ ap (λ z. act.WriteItem (reference_of o) z (value_word v))
        (ap words.int_of (int_word P n hn) ∙ int_back (int_of n) (int_fits P n hn))))))))
        (λ v l2 hv h2 e2. ends_agrees P slots r room Normal ls l2 tt h2 e2)
    agrees_by (Evaluate x) base ls l t h e le big = value_agrees P slots r room base l t.0 ls _ _ _ _ le e h
        (part x t.0 base ls l t.1 h le (omega arith)) (λ v l2 hv h2 e2.
        ends_agrees P slots r room Normal ls l2 tt h2 e2)
    agrees_by (If x a b) base ls l t h e le big = value_agrees P slots r room base l (ValueOf types.Boolean) ls _ _ _ _
        le e h (part x (ValueOf types.Boolean) base ls l t.0 h le (omega arith)) (λ v l2 hv h2 e2.
        choose_agree P slots r room v _ _ _ _ hv (agrees_by a (base + temporaries x) ls l2 t.1 h2 e2 (omega arith)
        (omega arith)) (agrees_by b (base + temporaries x + statement_temporaries a) ls l2 t.2 h2 e2 (omega arith)
        (omega arith)))
    agrees_by (While x s) base ls l t h e le big = record {
      sim = λ g g' kg.
          let c = evaluate file.classes calls x in
          let b = execute file.classes calls s in
          let c' = find calls' (lowered file.classes base x) in
          let b' = does.execute calls' (lowered_statement file.classes (base + temporaries x) s) in
          let all = λ (n : ℕ). (turns_agree P slots r room calls' base le c b c' b'
          (λ ls2 l2 h2 e2. part x (ValueOf types.Boolean) base ls2 l2 t.0 h2 le (omega arith))
          (λ ls2 l2 h2 e2. agrees_by s (base + temporaries x) ls2 l2 t.1 h2 e2 (omega arith) (omega arith))
          n ls l h e).sim g g' kg in
          let enough = λ (qs : Answers) (u : Suited P (λ q. finish_by (turns (length q) c b ls q) g) qs).
          suited_eq P (λ q. finish_by (turns (length q) c b ls q) g) (λ q. finish_by (turns (length qs) c b ls q) g) qs
          (λ q less. ap (λ z. finish_by z g) (turns_eq c b (λ n. evaluate_within calls within n file.classes x)
          (execute_within file.classes calls within s) (length q) (length qs) ls q (omega arith) less)) u in
          record {
            is = λ qs u. ap
                (λ n. told (ended calls' (does.turns n c' (λ l q. ended calls' (b' l q)) l (answer_words qs))) g')
                (length-map qs answer_word) ∙ (all (length qs)).is qs (enough qs u);
          };
    }
    agrees_by (Break n) base ls l t h e le big = ends_agrees P slots r room (Broke n) ls l tt h e
    agrees_by (Continue n) base ls l t h e le big = ends_agrees P slots r room (Continued n) ls l tt h e
    agrees_by ReturnNothing base ls l t h e le big = ends_agrees P slots r room (Returned None) ls l tt h e
    agrees_by (ReturnValue x) base ls l t h e le big = value_agrees P slots r room base l (ValueOf t.0) ls _ _ _ _ le e
        h (part x (ValueOf t.0) base ls l t.2 h le (omega arith))
        (λ v l2 hv h2 e2. ends_agrees P slots r room (Returned (Some v)) ls l2 (t.0, t.1, hv) h2 e2)
    agrees_by (Try a b) base ls l t h e le big = finally_agree P slots r room _ _ _ _
        (agrees_by a base ls l t.0 h e le (omega arith)) (λ ls2 l2 h2 e2.
        agrees_by b (base + statement_temporaries a) ls2 l2 t.1 h2 e2 (omega arith) (omega arith))

    pub all_agree_by : (ss : Statements) (base : ℕ) (ls : List Value) (l : List ℕ) →
        AreTypedStatements file slots r ss →
        Holds P slots ls l →
        length l ≡ room →
        length slots ≤ base →
        base + block_temporaries ss ≤ room →
        AgreesBy P slots r room (λ q. execute_all file.classes calls ss ls q)
        (λ q. does.execute_all calls' (lowered_block file.classes base ss) l q)
    all_agree_by checked.Done base ls l t h e le big = ends_agrees P slots r room Normal ls l tt h e
    all_agree_by (Then s ss) base ls l t h e le big = words_same P slots r room _ _ _
        (ahead_runs calls' (lowered_statement file.classes base s)
        (lowered_block file.classes (base + statement_temporaries s) ss) l)
        (both_agree P slots r room _ _ _ _ (agrees_by s base ls l t.0 h e le (omega arith))
        (λ ls2 l2 h2 e2. all_agree_by ss (base + statement_temporaries s) ls2 l2 t.1 h2 e2 (omega arith) (omega arith)))
