-- A statement on locals that agree below k ends alike, and keeps those above.
use Rattle.std.proofs.Common.{◌≡◌, ℕ, zero, suc, ◌<◌, Bool, true, false, List, [], ◌∷◌, length, Option, Some, None}
use Rattle.std.proofs.Common.{refl, sym, ap, ◌∙◌, nat_eq, if◌then◌else◌, ◌+◌}
use Rattle.std.specs.Prelude.{slice_index, slice_set}
use Rattle.ls_events.specs.declared.kind.Kind.{Kind}
use Rattle.ls_events.specs.declared.action.Action.TheVariants as act
use Rattle.ls_lowered.specs.LoweredTree.{Expression, Statement, Block, SetLocal, SetField, AddField, SetItem, Evaluate}
use Rattle.ls_lowered.specs.LoweredTree.{If, While, Return, Try, Guarded, Throw, Leavable, Leave, Statements, Done}
use Rattle.ls_lowered.specs.LoweredTree.{Then}
use Rattle.ls_lowered.specs.declared.tree.BinaryOperator.TheVariants as op
use Rattle.ls_lowered.specs.Words.{int_of, kind_word, kind_of}
use Rattle.ls_events.specs.declared.action.Answer.TheVariants as answers
use Rattle.ls_lowered.specs.Course.{Answers, Course, Asks, Ends, Outcome, Results, Throws, Calls, finish, and_then, ask}
use Rattle.ls_lowered.specs.Course.{perform, unless_null}
use Rattle.ls_lowered.specs.Expressions.{operate, evaluate}
use Rattle.ls_lowered.specs.Statements.{Completion, Normal, Returned, Threw, Left, Go, on_word, on_normal, on_throw}
use Rattle.ls_lowered.specs.Statements.{on_leave, on_body, turn_back, one_turn, turns, throw, execute, execute_all}
use Rattle.ls_lowered.specs.Statements.{leave_to}
use Rattle.ls_finally.specs.Agreement.{Agree, IsBelow, Fits, AllFit}
use Rattle.ls_finally.proofs.Agreeing.{finish_finish, Above, above_set, agree_set, Alike, then_alike, ask_alike}
use Rattle.ls_finally.proofs.Agreeing.{operate_alike, perform_alike, null_alike, found_alike}

pub record GoesOn (k : ℕ) (old : List ℕ) (g g' : Go) : Type 0 where
  pub goes : (c : Completion) (ls new : List ℕ) (q : Answers) → Agree k ls new → Above k old new → g' c new q ≡ g c ls q

-- a statement goes on alike, on locals that agree below k
pub record Same (k : ℕ) (f : List ℕ → Answers → Course Completion) : Type 0 where
  pub is : (old ls new : List ℕ) (q : Answers) (g g' : Go) →
      Agree k ls new →
      Above k old new →
      GoesOn k old g g' →
      finish (f new q) g' ≡ finish (f ls q) g

-- the writes, as courses that give a word
pub field_alike : (calls : Calls) (k : ℕ) (e a : Expression) (f : ℕ) →
    IsBelow k e →
    IsBelow k a →
    Alike k (λ ls q. and_then (evaluate calls e ls q) (λ x ls q.
    and_then (evaluate calls a ls q) (λ y ls q. unless_null x ls q (perform (act.WriteField x (f + 1) y) ls q))))
field_alike calls k e a f t u = then_alike k (evaluate calls e) _ (found_alike calls k e t)
    (λ x. then_alike k (evaluate calls a) _ (found_alike calls k a u)
    (λ y. null_alike k x (λ ls q. perform (act.WriteField x (f + 1) y) ls q)
    (perform_alike k (act.WriteField x (f + 1) y))))

-- what is added to a field
pub addition_alike : (calls : Calls) (k : ℕ) (e a : Expression) (f : ℕ) →
    IsBelow k e →
    IsBelow k a →
    Alike k (λ ls q. and_then (evaluate calls e ls q) (λ x ls q.
    and_then (unless_null x ls q (ask (act.ReadField x (f + 1)) ls q))
    (λ y ls q. and_then (evaluate calls a ls q) (λ z ls q.
    and_then (operate op.Add y z ls q) (λ w ls q. unless_null x ls q
    (perform (act.WriteField x (f + 1) w) ls q))))))
addition_alike calls k e a f t u =
    then_alike k (evaluate calls e) _ (found_alike calls k e t) (λ x.
    then_alike k (λ ls q. unless_null x ls q (ask (act.ReadField x (f + 1)) ls q)) _
    (null_alike k x (λ ls q. ask (act.ReadField x (f + 1)) ls q) (ask_alike k (act.ReadField x (f + 1)))) (λ y.
    then_alike k (evaluate calls a) _ (found_alike calls k a u) (λ z.
    then_alike k (λ ls q. operate op.Add y z ls q) _ (operate_alike k op.Add y z) (λ w.
    null_alike k x (λ ls q. perform (act.WriteField x (f + 1) w) ls q)
    (perform_alike k (act.WriteField x (f + 1) w))))))

-- the write of an item
pub item_alike : (calls : Calls) (k : ℕ) (a i e : Expression) →
    IsBelow k a →
    IsBelow k i →
    IsBelow k e →
    Alike k (λ ls q. and_then (evaluate calls a ls q) (λ x ls q.
    and_then (evaluate calls i ls q) (λ n ls q. and_then (evaluate calls e ls q)
    (λ y ls q. unless_null x ls q (perform (act.WriteItem x (int_of n) y) ls q)))))
item_alike calls k a i e t u v = then_alike k (evaluate calls a) _ (found_alike calls k a t)
    (λ x. then_alike k (evaluate calls i) _ (found_alike calls k i u)
    (λ n. then_alike k (evaluate calls e) _ (found_alike calls k e v)
    (λ y. null_alike k x (λ ls q. perform (act.WriteItem x (int_of n) y) ls q)
    (perform_alike k (act.WriteItem x (int_of n) y)))))

module _ (k : ℕ) where
  ends_same : (c : Completion) → Same k (λ ls q. Ends c ls q)
  ends_same c = record { is = λ old ls new q g g' a u s. s.goes c ls new q a u }

  word_same : (f : List ℕ → Answers → Course (Outcome ℕ)) (go : ℕ → List ℕ → Answers → Course Completion) →
      Alike k f →
      ((w : ℕ) → Same k (go w)) →
      Same k (λ ls q. finish (f ls q) (on_word go))
  word_same f go h t = record {
    is = λ old ls new q g g' a u s.
        finish_finish (f new q) (on_word go) g'
        ∙ h.is old ls new q (λ o ls q. finish (on_word go o ls q) g) (λ o ls q. finish (on_word go o ls q) g') a u
        (record { goes = goes old g g' s })
        ∙ sym (finish_finish (f ls q) (on_word go) g);
  }
    where
      goes : (old : List ℕ) (g g' : Go) →
          GoesOn k old g g' →
          (o : Outcome ℕ) (ls new : List ℕ) (q : Answers) →
          Agree k ls new →
          Above k old new →
          finish (on_word go o new q) g' ≡ finish (on_word go o ls q) g
      goes old g g' s (Results w) ls new q a u = (t w).is old ls new q g g' a u s
      goes old g g' s (Throws kind) ls new q a u = s.goes (Threw kind) ls new q a u

  if_same : (b : Bool) (f g : List ℕ → Answers → Course Completion) →
      Same k f →
      Same k g →
      Same k (λ ls q. if b then f ls q else g ls q)
  if_same true f g h t = record { is = h.is }
  if_same false f g h t = record { is = t.is }

  -- what each construct makes of its part
  normal_on : (old : List ℕ) (f : List ℕ → Answers → Course Completion) (g g' : Go) →
      Same k f →
      GoesOn k old g g' →
      GoesOn k old (λ c ls q. finish (on_normal f c ls q) g) (λ c ls q. finish (on_normal f c ls q) g')
  normal_on old f g g' t s = record { goes = go }
    where
      go : (c : Completion) (ls new : List ℕ) (q : Answers) →
          Agree k ls new →
          Above k old new →
          finish (on_normal f c new q) g' ≡ finish (on_normal f c ls q) g
      go Normal ls new q a u = t.is old ls new q g g' a u s
      go (Returned w) ls new q a u = s.goes (Returned w) ls new q a u
      go (Threw kind) ls new q a u = s.goes (Threw kind) ls new q a u
      go (Left n) ls new q a u = s.goes (Left n) ls new q a u

  pub normal_same : (f g : List ℕ → Answers → Course Completion) →
      Same k f →
      Same k g →
      Same k (λ ls q. finish (f ls q) (on_normal g))
  normal_same f g h t = record {
    is = λ old ls new q G G' a u s.
        finish_finish (f new q) (on_normal g) G' ∙ h.is old ls new q _ _ a u (normal_on old g G G' t s) ∙
        sym (finish_finish (f ls q) (on_normal g) G);
  }

  throw_on : (old : List ℕ) (f : Kind → List ℕ → Answers → Course Completion) (g g' : Go) →
      ((kind : Kind) → Same k (f kind)) →
      GoesOn k old g g' →
      GoesOn k old (λ c ls q. finish (on_throw f c ls q) g) (λ c ls q. finish (on_throw f c ls q) g')
  throw_on old f g g' t s = record { goes = go }
    where
      go : (c : Completion) (ls new : List ℕ) (q : Answers) →
          Agree k ls new →
          Above k old new →
          finish (on_throw f c new q) g' ≡ finish (on_throw f c ls q) g
      go Normal ls new q a u = s.goes Normal ls new q a u
      go (Returned w) ls new q a u = s.goes (Returned w) ls new q a u
      go (Threw kind) ls new q a u = (t kind).is old ls new q g g' a u s
      go (Left n) ls new q a u = s.goes (Left n) ls new q a u

  throw_same : (f : List ℕ → Answers → Course Completion) (h : Kind → List ℕ → Answers → Course Completion) →
      Same k f →
      ((kind : Kind) → Same k (h kind)) →
      Same k (λ ls q. finish (f ls q) (on_throw h))
  throw_same f h t v = record {
    is = λ old ls new q G G' a u s.
        finish_finish (f new q) (on_throw h) G' ∙ t.is old ls new q _ _ a u (throw_on old h G G' v s) ∙
        sym (finish_finish (f ls q) (on_throw h) G);
  }

  leave_on : (old : List ℕ) (f : ℕ → List ℕ → Answers → Course Completion) (g g' : Go) →
      ((n : ℕ) → Same k (f n)) →
      GoesOn k old g g' →
      GoesOn k old (λ c ls q. finish (on_leave f c ls q) g) (λ c ls q. finish (on_leave f c ls q) g')
  leave_on old f g g' t s = record { goes = go }
    where
      go : (c : Completion) (ls new : List ℕ) (q : Answers) →
          Agree k ls new →
          Above k old new →
          finish (on_leave f c new q) g' ≡ finish (on_leave f c ls q) g
      go Normal ls new q a u = s.goes Normal ls new q a u
      go (Returned w) ls new q a u = s.goes (Returned w) ls new q a u
      go (Threw kind) ls new q a u = s.goes (Threw kind) ls new q a u
      go (Left n) ls new q a u = (t n).is old ls new q g g' a u s

  leave_same : (f : List ℕ → Answers → Course Completion) (h : ℕ → List ℕ → Answers → Course Completion) →
      Same k f →
      ((n : ℕ) → Same k (h n)) →
      Same k (λ ls q. finish (f ls q) (on_leave h))
  leave_same f h t v = record {
    is = λ old ls new q G G' a u s.
        finish_finish (f new q) (on_leave h) G' ∙ t.is old ls new q _ _ a u (leave_on old h G G' v s) ∙
        sym (finish_finish (f ls q) (on_leave h) G);
  }

  back_same : (f : List ℕ → Answers → Course Completion) → Same k f → Same k (turn_back f)
  back_same f t = record { is = go }
    where
      go : (old ls new : List ℕ) (q : Answers) (g g' : Go) →
          Agree k ls new →
          Above k old new →
          GoesOn k old g g' →
          finish (turn_back f new q) g' ≡ finish (turn_back f ls q) g
      go old ls new [] g g' a u s = refl
      go old ls new (answers.Done ∷ q) g g' a u s = t.is old ls new q g g' a u s
      go old ls new (answers.Gives word ∷ q) g g' a u s = t.is old ls new q g g' a u s
      go old ls new (answers.Fails kind ∷ q) g g' a u s = s.goes (Threw kind) ls new q a u

  body_on : (old : List ℕ) (f : List ℕ → Answers → Course Completion) (g g' : Go) →
      Same k f →
      GoesOn k old g g' →
      GoesOn k old (λ c ls q. finish (on_body f c ls q) g) (λ c ls q. finish (on_body f c ls q) g')
  body_on old f g g' t s = record { goes = go }
    where
      go : (c : Completion) (ls new : List ℕ) (q : Answers) →
          Agree k ls new →
          Above k old new →
          finish (on_body f c new q) g' ≡ finish (on_body f c ls q) g
      go Normal ls new q a u = (back_same f t).is old ls new q g g' a u s
      go (Returned w) ls new q a u = s.goes (Returned w) ls new q a u
      go (Threw kind) ls new q a u = s.goes (Threw kind) ls new q a u
      go (Left n) ls new q a u = s.goes (Left n) ls new q a u

  body_same : (f g : List ℕ → Answers → Course Completion) →
      Same k f →
      Same k g →
      Same k (λ ls q. finish (f ls q) (on_body g))
  body_same f g h t = record {
    is = λ old ls new q G G' a u s.
        finish_finish (f new q) (on_body g) G' ∙ h.is old ls new q _ _ a u (body_on old g G G' t s) ∙
        sym (finish_finish (f ls q) (on_body g) G);
  }

  asks_same : Same k (λ ls q. Asks act.Turn)
  asks_same = record { is = λ old ls new q g g' a u s. refl }

  turn_same : (c : List ℕ → Answers → Course (Outcome ℕ)) (b again : List ℕ → Answers → Course Completion) →
      Alike k c →
      Same k b →
      Same k again →
      Same k (one_turn c b again)
  turn_same c b again t u v = record {
    is = (word_same c (λ w ls q. if nat_eq w 0 then Ends Normal ls q else finish (b ls q) (on_body again)) t
        (λ w. if_same (nat_eq w 0) (λ ls q. Ends Normal ls q)
        (λ ls q. finish (b ls q) (on_body again)) (ends_same Normal)
        (body_same b again u v))).is;
  }

  turns_same : (n : ℕ) (c : List ℕ → Answers → Course (Outcome ℕ)) (b : List ℕ → Answers → Course Completion) →
      Alike k c →
      Same k b →
      Same k (turns n c b)
  turns_same zero c b t u = turn_same c b (λ ls q. Asks act.Turn) t u asks_same
  turns_same (suc n) c b t u = turn_same c b (turns n c b) t u (turns_same n c b t u)

  set_same : (n w : ℕ) (f : List ℕ → Answers → Course Completion) →
      n < k →
      Same k f →
      Same k (λ ls q. f (slice_set ls n w) q)
  set_same n w f lt h = record {
    is = λ old ls new q g g' a u s.
        h.is old (slice_set ls n w) (slice_set new n w) q g g' (agree_set k n w ls new lt a)
        (above_set k n w old new lt u) s;
  }

  thrown_same : (o : Option Kind) (old ls new : List ℕ) (q : Answers) (g g' : Go) →
      Agree k ls new →
      Above k old new →
      GoesOn k old g g' →
      finish (throw o new q) g' ≡ finish (throw o ls q) g
  thrown_same None old ls new q g g' a u s = refl
  thrown_same (Some kind) old ls new q g g' a u s = s.goes (Threw kind) ls new q a u

module _ (calls : Calls) (k : ℕ) where
  mutual
    -- each statement on locals below k goes on alike
    pub same : (s : Statement) → Fits k s → Same k (execute calls s)
    same (Block ss) t = record { is = (all_same ss t).is }
    same (SetLocal n e) t = word_same k (evaluate calls e) _ (found_alike calls k e t.1)
        (λ w. set_same k n w (λ ls q. Ends Normal ls q) t.0 (ends_same k Normal))
    same (SetField e f a) t = word_same k _ (λ w ls q. Ends Normal ls q) (field_alike calls k e a f t.0 t.1)
        (λ w. ends_same k Normal)
    same (AddField e f a) t = word_same k _ (λ w ls q. Ends Normal ls q) (addition_alike calls k e a f t.0 t.1)
        (λ w. ends_same k Normal)
    same (SetItem a i e) t = word_same k _ (λ w ls q. Ends Normal ls q) (item_alike calls k a i e t.0 t.1 t.2)
        (λ w. ends_same k Normal)
    same (Evaluate e) t = word_same k (evaluate calls e) (λ w ls q. Ends Normal ls q) (found_alike calls k e t)
        (λ w. ends_same k Normal)
    same (If e a b) t = word_same k (evaluate calls e) _ (found_alike calls k e t.0)
        (λ w. if_same k (nat_eq w 0) (execute calls b) (execute calls a) (same b t.2) (same a t.1))
    same (While e s) t = record {
      is = λ old ls new q. (turns_same k (length q) (evaluate calls e) (execute calls s) (found_alike calls k e t.0)
          (same s t.1)).is old ls new q;
    }
    same (Return e) t = word_same k (evaluate calls e) (λ w ls q. Ends (Returned w) ls q) (found_alike calls k e t)
        (λ w. ends_same k (Returned w))
    same (Try b f) t = absurd t
    same (Guarded b n h) t = throw_same k (execute calls b) _ (same b t.1)
        (λ kind. set_same k n (kind_word kind) (execute calls h) t.0 (same h t.2))
    same (Throw n) t = record {
      is = λ old ls new q g g' a u s. ap (λ w. finish (throw (kind_of w) new q) g') (a.at n t)
          ∙ thrown_same k (kind_of (slice_index ls n)) old ls new q g g' a u s;
    }
    same (Leavable b xs) t = leave_same k (execute calls b) (leave_to calls xs) (same b t.0) (λ n. exit_same xs n t.1)
    same (Leave n) t = ends_same k (Left n)

    all_same : (ss : Statements) → AllFit k ss → Same k (execute_all calls ss)
    all_same Done t = ends_same k Normal
    all_same (Then s ss) t = normal_same k (execute calls s) (execute_all calls ss) (same s t.0) (all_same ss t.1)

    exit_same : (xs : Statements) (n : ℕ) → AllFit k xs → Same k (leave_to calls xs n)
    exit_same Done zero t = ends_same k Normal
    exit_same Done (suc n) t = ends_same k (Left n)
    exit_same (Then x xs) zero t = record { is = (same x t.0).is }
    exit_same (Then x xs) (suc n) t = record { is = (exit_same xs n t.1).is }
