-- Where a local is dead before a statement, what the statement does is the same whatever the local's value is.
use Rattle.std.proofs.Common.{◌≡◌, ◌⊎◌, inl, inr, ℕ, zero, suc, Bool, true, false, cond, List, length, refl}
use Rattle.std.proofs.Common.{sym, ap, ◌∙◌, ◌&&◌, ◌||◌, slice_set, nat_eq, set-set, subst}
use Rattle.std.proofs.lemmas.Bool.{and_parts, cases_Bool, eqb-true, eqb-false}
use Rattle.std.proofs.lemmas.List.{set_comm}
use Rattle.ls_events.specs.declared.value.Value.{Value}
use Rattle.ls_events.specs.declared.value.ValueType.TheVariants as types
use Rattle.ls_events.specs.declared.action.Action.TheVariants.{ReadField, Turn}
use Rattle.ls_checked.specs.CheckedTree.{Class, Expression, Statement, Block, SetSlot, SetField, AddField, SetItem}
use Rattle.ls_checked.specs.CheckedTree.{Evaluate, If, While, Break, Continue, ReturnNothing, ReturnValue, Try}
use Rattle.ls_checked.specs.CheckedTree.{Statements, Done, Then}
use Rattle.ls_meaning.specs.declared.completion.Completion.{Completion}
use Rattle.ls_meaning.specs.declared.completion.Completion.TheVariants.{Normal, Broke, Continued, Returned, Threw}
use Rattle.ls_meaning.specs.declared.sort.Sort.TheVariants.{NoValue, ValueOf}
use Rattle.ls_meaning.specs.Values.{truth_of, reference_of}
use Rattle.ls_meaning.specs.Course.{Answers, Evaluated, Asks, Results, Throws, tell, on_object}
use Rattle.ls_meaning.specs.Expressions.{Calls, evaluate}
use Rattle.ls_meaning.specs.Statements.{Executed, AsksFor, Completes, on_value, and_normal, then_do, finish_as}
use Rattle.ls_meaning.specs.Statements.{finally_do, turn_back, after_body, one_turn, turns, execute, execute_all}
use Rattle.ls_dead_locals.specs.declared.statements.Ways.{Ways}
use Rattle.ls_dead_locals.specs.Dead.{all_ends, are_dead, both_ends, finished, in_body, in_try, is_dead, spares}
use Rattle.ls_dead_locals.specs.Around.{dead_after}
use Rattle.ls_dead_locals.proofs.Spared.{but, evaluate_spared, then_same}

-- a loop before which a local is dead
pub loop_threw : (n : ℕ) (w : Ways) (e : Expression) (s : Statement) → is_dead n (While e s) w ≡ true → w.threw ≡ true
loop_threw n w e s h =
    let p = and_parts (both_ends w && spares n e) (is_dead n s (in_body w)) h in
    let t = and_parts (both_ends w) (spares n e) p.0 in
    (and_parts w.normal w.threw t.0).1

module _ (n : ℕ) (v : Value) where
  -- the same, but for the local of the slot where it is dead after the end
  pub data Alike (w : Ways) : Executed → Executed → Type 0 where
    Equal : (x : Executed) → Alike w x x
    Apart : (c : Completion Value) (ls : List Value) (q : Answers) →
        dead_after c w ≡ true →
        Alike w (Completes c ls q) (Completes c (but n v ls) q)

  -- what is equal is alike
  pub alike_equal : (w : Ways) (x x' : Executed) → x' ≡ x → Alike w x x'
  alike_equal w x x' e = subst (λ y. Alike w x y) (sym e) (Equal x)

  pub value_alike : (w : Ways) (x x' : Evaluated Value) (ls : List Value) (go go' : Value → Answers → Executed) →
      x' ≡ x →
      w.threw ≡ true →
      ((a : Value) (q : Answers) → Alike w (go a q) (go' a q)) →
      Alike w (on_value x ls go) (on_value x' (but n v ls) go')
  value_alike w x x' ls go go' e t h =
      subst (λ y. Alike w (on_value x ls go) (on_value y (but n v ls) go')) (sym e) (by_case x)
    where
      by_case : (y : Evaluated Value) → Alike w (on_value y ls go) (on_value y (but n v ls) go')
      by_case (Asks action sort) = Equal (AsksFor action sort)
      by_case (Results a q) = h a q
      by_case (Throws kind q) = Apart (Threw kind) ls q t

  pub normal_alike : (w : Ways) (x x' : Evaluated Value) (ls : List Value) →
      x' ≡ x →
      both_ends w ≡ true →
      Alike w (and_normal x ls) (and_normal x' (but n v ls))
  normal_alike w x x' ls e h =
      let p = and_parts w.normal w.threw h in
      value_alike w x x' ls _ _ e p.1 (λ a q. Apart Normal ls q p.0)

  pub if_alike : (w : Ways) (b : Bool) (x x' y y' : Executed) →
      Alike w x x' →
      Alike w y y' →
      Alike w (cond b x y) (cond b x' y')
  if_alike w true x x' y y' h k = h
  if_alike w false x x' y y' h k = k

  -- a value in a slot: if it is this one, the other value is gone
  pub set_alike : (w : Ways) (m : ℕ) (ls : List Value) (a : Value) (q : Answers) →
      (nat_eq m n || w.normal) ≡ true →
      Alike w (Completes Normal (slice_set ls m a) q) (Completes Normal (slice_set (but n v ls) m a) q)
  set_alike w m ls a q h = by_test (cases_Bool (nat_eq m n))
    where
      by_test : (nat_eq m n ≡ true) ⊎ (nat_eq m n ≡ false) →
          Alike w (Completes Normal (slice_set ls m a) q) (Completes Normal (slice_set (but n v ls) m a) q)
      by_test (inl e) = alike_equal w _ _ (ap (λ l. Completes Normal l q)
          (ap (λ k. slice_set (but n v ls) k a) (eqb-true m n e) ∙ set-set ls n v a
          ∙ ap (λ k. slice_set ls k a) (sym (eqb-true m n e))))
      by_test (inr e) =
          subst (λ l. Alike w (Completes Normal (slice_set ls m a) q) (Completes Normal l q))
          (sym (set_comm ls n m v a (λ k. eqb-false m n e (sym k))))
          (Apart Normal (slice_set ls m a) q (ap (λ b. b || w.normal) (sym e) ∙ h))

  -- what follows a normal end
  pub then_alike : (w : Ways) (b : Bool) (x x' : Executed) (go : List Value → Answers → Executed) →
      Alike (finished b w) x x' →
      (b ≡ true → (ls : List Value) (q : Answers) → Alike w (go ls q) (go (but n v ls) q)) →
      Alike w (then_do x go) (then_do x' go)
  then_alike w b _ _ go (Equal x) h = Equal (then_do x go)
  then_alike w b _ _ go (Apart Normal ls q e) h = h e ls q
  then_alike w b _ _ go (Apart (Broke m) ls q e) h = Apart (Broke m) ls q e
  then_alike w b _ _ go (Apart (Continued m) ls q e) h = Apart (Continued m) ls q e
  then_alike w b _ _ go (Apart (Returned a) ls q e) h = Apart (Returned a) ls q e
  then_alike w b _ _ go (Apart (Threw kind) ls q e) h = Apart (Threw kind) ls q e

  -- a `finally` block after an end, by whether the local is dead where both have ended normally
  pub finish_alike : (w : Ways) (b : Bool) (c : Completion Value) (x x' : Executed) →
      (b ≡ true → dead_after c w ≡ true) →
      Alike (finished b w) x x' →
      Alike w (finish_as c x) (finish_as c x')
  finish_alike w b c x x' d h = then_alike w b x x' _ h (λ e ls q. Apart c ls q (d e))

  each_end : (w : Ways) (c : Completion Value) → all_ends w ≡ true → dead_after c w ≡ true
  each_end w c h = by_case c
    where
      p : ((w.normal && w.jumped) ≡ true) × ((w.returned && w.threw) ≡ true)
      p = and_parts (w.normal && w.jumped) (w.returned && w.threw) h

      by_case : (c : Completion Value) → dead_after c w ≡ true
      by_case Normal = (and_parts w.normal w.jumped p.0).0
      by_case (Broke m) = (and_parts w.normal w.jumped p.0).1
      by_case (Continued m) = (and_parts w.normal w.jumped p.0).1
      by_case (Returned a) = (and_parts w.returned w.threw p.1).0
      by_case (Threw kind) = (and_parts w.returned w.threw p.1).1

  in_each : (w : Ways) (d : Bool) (c : Completion Value) → dead_after c (in_try d w) ≡ true → d ≡ true
  in_each w d Normal e = e
  in_each w d (Broke m) e = e
  in_each w d (Continued m) e = e
  in_each w d (Returned a) e = e
  in_each w d (Threw kind) e = e

  pub finally_alike : (w : Ways) (d : Bool) (x x' : Executed) (go : List Value → Answers → Executed) →
      Alike (in_try d w) x x' →
      (d ≡ true → (ls : List Value) (q : Answers) → Alike (finished (all_ends w) w) (go ls q) (go (but n v ls) q)) →
      Alike w (finally_do x go) (finally_do x' go)
  finally_alike w d _ _ go (Equal x) h = Equal (finally_do x go)
  finally_alike w d _ _ go (Apart c ls q e) h =
      finish_alike w (all_ends w) c (go ls q) (go (but n v ls) q) (each_end w c) (h (in_each w d c e) ls q)

  pub back_alike : (w : Ways) (again : List Value → Answers → Executed) →
      w.threw ≡ true →
      ((ls : List Value) (q : Answers) → Alike w (again ls q) (again (but n v ls) q)) →
      (ls : List Value) (q : Answers) →
      Alike w (turn_back again ls q) (turn_back again (but n v ls) q)
  back_alike w again t h ls q = value_alike w (tell Turn q) (tell Turn q) ls _ _ refl t (λ a r. h ls r)

  -- after the body of a loop, whose jumps are as these ends say
  pub body_alike : (w : Ways) (u : Ways) (x x' : Executed) (again : List Value → Answers → Executed) →
      both_ends w ≡ true →
      (u.jumped ≡ true → w.jumped ≡ true) →
      (u.returned ≡ true → w.returned ≡ true) →
      (u.threw ≡ true → w.threw ≡ true) →
      Alike u x x' →
      ((ls : List Value) (q : Answers) → Alike w (again ls q) (again (but n v ls) q)) →
      Alike w (after_body x again) (after_body x' again)
  body_alike w u _ _ again b j r t (Equal x) h = Equal (after_body x again)
  body_alike w u _ _ again b j r t (Apart Normal ls q e) h =
      back_alike w again (and_parts w.normal w.threw b).1 h ls q
  body_alike w u _ _ again b j r t (Apart (Continued zero) ls q e) h =
      back_alike w again (and_parts w.normal w.threw b).1 h ls q
  body_alike w u _ _ again b j r t (Apart (Continued (suc m)) ls q e) h = Apart (Continued m) ls q (j e)
  body_alike w u _ _ again b j r t (Apart (Broke zero) ls q e) h = Apart Normal ls q (and_parts w.normal w.threw b).0
  body_alike w u _ _ again b j r t (Apart (Broke (suc m)) ls q e) h = Apart (Broke m) ls q (j e)
  body_alike w u _ _ again b j r t (Apart (Returned a) ls q e) h = Apart (Returned a) ls q (r e)
  body_alike w u _ _ again b j r t (Apart (Threw kind) ls q e) h = Apart (Threw kind) ls q (t e)

  turn_alike : (w : Ways) (condition : List Value → Answers → Evaluated Value) (body : List Value → Answers → Executed)
      (again : List Value → Answers → Executed) →
      both_ends w ≡ true →
      ((ls : List Value) (q : Answers) → condition (but n v ls) q ≡ condition ls q) →
      ((ls : List Value) (q : Answers) → Alike (in_body w) (body ls q) (body (but n v ls) q)) →
      ((ls : List Value) (q : Answers) → Alike w (again ls q) (again (but n v ls) q)) →
      (ls : List Value) (q : Answers) →
      Alike w (one_turn condition body again ls q) (one_turn condition body again (but n v ls) q)
  turn_alike w condition body again b c s h ls q =
      let p = and_parts w.normal w.threw b in
      value_alike w _ _ ls _ _ (c ls q) p.1 (λ a r.
      if_alike w (truth_of a) _ _ _ _
      (body_alike w (in_body w) (body ls r) (body (but n v ls) r) again b
      (λ e. (and_parts w.normal w.jumped e).1) (λ e. e) (λ e. e) (s ls r) h)
      (Apart Normal ls r p.0))

  pub turns_alike : (w : Ways) (count : ℕ) (condition : List Value → Answers → Evaluated Value)
      (body : List Value → Answers → Executed) →
      both_ends w ≡ true →
      ((ls : List Value) (q : Answers) → condition (but n v ls) q ≡ condition ls q) →
      ((ls : List Value) (q : Answers) → Alike (in_body w) (body ls q) (body (but n v ls) q)) →
      (ls : List Value) (q : Answers) →
      Alike w (turns count condition body ls q) (turns count condition body (but n v ls) q)
  turns_alike w zero condition body b c s ls q =
      turn_alike w condition body _ b c s (λ l r. Equal (AsksFor Turn NoValue)) ls q
  turns_alike w (suc count) condition body b c s ls q =
      turn_alike w condition body _ b c s (turns_alike w count condition body b c s) ls q

  module _ (classes : List Class) (calls : Calls) where
    abbrev spared : (e : Expression) → spares n e ≡ true → (ls : List Value) (q : Answers) →
        evaluate classes calls e (but n v ls) q ≡ evaluate classes calls e ls q
    spared e h ls q = evaluate_spared n v classes calls e h ls q

    mutual
      pub execute_alike : (s : Statement) (w : Ways) →
          is_dead n s w ≡ true →
          (ls : List Value) (q : Answers) →
          Alike w (execute classes calls s ls q) (execute classes calls s (but n v ls) q)
      execute_alike (Block ss) w h ls q = all_alike ss w h ls q
      execute_alike (SetSlot m e) w h ls q =
          let p = and_parts (nat_eq m n || w.normal) (w.threw && spares n e) h in
          let t = and_parts w.threw (spares n e) p.1 in
          value_alike w _ _ ls _ _ (spared e t.1 ls q) t.0 (λ a r. set_alike w m ls a r p.0)
      execute_alike (SetField e f x) w h ls q =
          let p = and_parts (both_ends w) (spares n e && spares n x) h in
          let t = and_parts (spares n e) (spares n x) p.1 in
          normal_alike w _ _ ls (
          then_same _ _ _ _ (spared e t.0 ls q) (λ o r.
          then_same _ _ _ _ (spared x t.1 ls r) (λ a s. refl))) p.0
      execute_alike (AddField e f x) w h ls q =
          let p = and_parts (both_ends w) (spares n e && spares n x) h in
          let t = and_parts (spares n e) (spares n x) p.1 in
          normal_alike w _ _ ls (
          then_same _ _ _ _ (spared e t.0 ls q) (λ o r.
          then_same (on_object o (ReadField (reference_of o) f) (ValueOf types.Int) r) _ _ _ refl (λ a s.
          then_same _ _ _ _ (spared x t.1 ls s) (λ y u. refl)))) p.0
      execute_alike (SetItem a i x) w h ls q =
          let p = and_parts (both_ends w) (spares n a && (spares n i && spares n x)) h in
          let t = and_parts (spares n a) (spares n i && spares n x) p.1 in
          let u = and_parts (spares n i) (spares n x) t.1 in
          normal_alike w _ _ ls (
          then_same _ _ _ _ (spared a t.0 ls q) (λ o r.
          then_same _ _ _ _ (spared i u.0 ls r) (λ m s.
          then_same _ _ _ _ (spared x u.1 ls s) (λ y z. refl)))) p.0
      execute_alike (Evaluate e) w h ls q =
          let p = and_parts (both_ends w) (spares n e) h in
          normal_alike w _ _ ls (spared e p.1 ls q) p.0
      execute_alike (If e a b) w h ls q =
          let p = and_parts (w.threw && spares n e) (is_dead n a w && is_dead n b w) h in
          let t = and_parts w.threw (spares n e) p.0 in
          let u = and_parts (is_dead n a w) (is_dead n b w) p.1 in
          value_alike w _ _ ls _ _ (spared e t.1 ls q) t.0 (λ x r.
          if_alike w (truth_of x) _ _ _ _ (execute_alike a w u.0 ls r) (execute_alike b w u.1 ls r))
      execute_alike (While e s) w h ls q =
          let p = and_parts (both_ends w && spares n e) (is_dead n s (in_body w)) h in
          let t = and_parts (both_ends w) (spares n e) p.0 in
          turns_alike w (length q) (evaluate classes calls e) (execute classes calls s) t.0 (spared e t.1)
          (execute_alike s (in_body w) p.1) ls q
      execute_alike (Break m) w h ls q = Apart (Broke m) ls q h
      execute_alike (Continue m) w h ls q = Apart (Continued m) ls q h
      execute_alike ReturnNothing w h ls q = Apart (Returned _) ls q h
      execute_alike (ReturnValue e) w h ls q =
          let p = and_parts w.returned (w.threw && spares n e) h in
          let t = and_parts w.threw (spares n e) p.1 in
          value_alike w _ _ ls _ _ (spared e t.1 ls q) t.0 (λ a r. Apart (Returned _) ls r p.0)
      execute_alike (Try b f) w h ls q =
          finally_alike w (is_dead n f (finished (all_ends w) w)) _ _ (execute classes calls f)
          (execute_alike b (in_try (is_dead n f (finished (all_ends w) w)) w) h ls q)
          (execute_alike f (finished (all_ends w) w))

      pub all_alike : (ss : Statements) (w : Ways) →
          are_dead n ss w ≡ true →
          (ls : List Value) (q : Answers) →
          Alike w (execute_all classes calls ss ls q) (execute_all classes calls ss (but n v ls) q)
      all_alike Done w h ls q = Apart Normal ls q h
      all_alike (Then s ss) w h ls q =
          then_alike w (are_dead n ss w) _ _ (execute_all classes calls ss)
          (execute_alike s (finished (are_dead n ss w) w) h ls q)
          (all_alike ss w)
