-- Each typed statement asks for actions of the right types, and leaves locals of their types.
use Rattle.std.proofs.Common.{◌≡◌, ℕ, zero, suc, Bool, true, false, cond, List, [], ◌∷◌, length, Option, Some, None}
use Rattle.std.proofs.Common.{refl, ap, arith}
use Rattle.std.specs.Prelude.{slice_set}
use Rattle.ls_events.specs.declared.action.Action.TheVariants as act
use Rattle.ls_events.specs.declared.value.Value.{Value}
use Rattle.ls_events.specs.declared.value.ValueType.{ValueType}
use Rattle.ls_events.specs.declared.value.ValueType.TheVariants as types
use Rattle.ls_checked.specs.CheckedTree.{File, Expression, Statement, Block, SetSlot, SetField, AddField, SetItem}
use Rattle.ls_checked.specs.CheckedTree.{Evaluate, If, While, Break, Continue, ReturnNothing, ReturnValue, Try}
use Rattle.ls_checked.specs.CheckedTree.{Statements, Then}
use Rattle.ls_checked.specs.declared.tree.Operator.TheVariants.{Add}
use Rattle.ls_checked.specs.CheckedTree as checked
use Rattle.ls_meaning.specs.declared.sort.Sort.{Sort}
use Rattle.ls_meaning.specs.declared.sort.Sort.TheVariants.{NoValue, ValueOf}
use Rattle.ls_meaning.specs.declared.completion.Completion.{Completion}
use Rattle.ls_meaning.specs.declared.completion.Completion.TheVariants.{Normal, Broke, Continued, Returned, Threw}
use Rattle.ls_meaning.specs.Values.{int_of, truth_of, reference_of}
use Rattle.ls_meaning.specs.Course.{Answers, Evaluated}
use Rattle.ls_meaning.specs.Expressions.{Calls, evaluate}
use Rattle.ls_meaning.specs.Statements.{Executed, AsksFor, Completes, on_value, then_do, finally_do, turn_back}
use Rattle.ls_meaning.specs.Statements.{after_body, one_turn, turns, execute, execute_all}
use Rattle.ls_types_judgement.specs.Sorts.{HasSort}
use Rattle.ls_types_judgement.specs.Typing.{IsTyped, IsTypedStatement, AreTypedStatements}
use Rattle.ls_meaning.proofs.Shorter.{CallsWithin, evaluate_within, execute_within, turns_eq}
use Rattle.ls_soundness.proofs.Values.{reference_has}
use Rattle.ls_meaning.proofs.Followers.{Follower, finish_by, value_by, on_normal, then_by, finally_by, on_body, body_by}
use Rattle.ls_refs.proofs.Stmts.{CompletionHas}
use Rattle.ls_soundness.proofs.Ways.{Way, Sure, sure_same, Good, then_good, ask_good, null_good}
use Rattle.ls_soundness.proofs.Calls.{field_there, operate_good}
use Rattle.ls_soundness.proofs.Locals.{Locals, locals_set}
use Rattle.ls_soundness.proofs.Expressions.{CallsGood, good_of}

module _ (P : ℕ → ValueType → Type 0) (file : File) (w : Way P file) (slots : List ValueType) (r : Option ValueType)
  where
    -- what follows can be shown, after each completion of the right type, with locals of their types
    abbrev pub Rest : Follower w.Left → Type 0
    Rest g = (c : Completion Value) (ls : List Value) → CompletionHas P r c → Locals P slots ls → Sure P file w (g c ls)

    pub record GoodBy (x : Answers → Executed) : Type 0 where
      pub good : (g : Follower w.Left) → Rest g → Sure P file w (λ q. finish_by w.asks (x q) g)

    -- from any locals of their types
    abbrev Follows : (List Value → Answers → Executed) → Type 0
    Follows b = (ls : List Value) → Locals P slots ls → GoodBy (λ q. b ls q)

    completes_good : (c : Completion Value) (ls : List Value) →
        CompletionHas P r c →
        Locals P slots ls →
        GoodBy (λ q. Completes c ls q)
    completes_good c ls hc h = record { good = λ g kg. kg c ls hc h }

    value_good : (s : Sort) (ls : List Value) (x : Answers → Evaluated Value) (k : Value → Answers → Executed) →
        Locals P slots ls →
        Good P file w (HasSort P s) x →
        ((v : Value) → HasSort P s v → GoodBy (λ q. k v q)) →
        GoodBy (λ q. on_value (x q) ls k)
    value_good s ls x k h a f = record {
      good = λ g kg. sure_same P file w _ _ (λ q. value_by w.Left w.asks (x q) ls k g)
          (a.good (λ v q. finish_by w.asks (k v q) g) (λ n q. g (Threw n) ls q) (λ v hv. (f v hv).good g kg)
          (λ n. kg (Threw n) ls tt h));
    }

    normal_good : (ls : List Value) (s : Sort) (x : Answers → Evaluated Value) →
        Locals P slots ls →
        Good P file w (HasSort P s) x →
        GoodBy (λ q. on_value (x q) ls (λ v rest. Completes Normal ls rest))
    normal_good ls s x h a = value_good s ls x _ h a (λ v hv. completes_good Normal ls tt h)

    both_good : (x : Answers → Executed) (b : List Value → Answers → Executed) →
        GoodBy x →
        Follows b →
        GoodBy (λ q. then_do (x q) b)
    both_good x b a f = record {
      good = λ g kg. sure_same P file w _ _ (λ q. then_by w.Left w.asks (x q) b g)
          (a.good (on_normal w.Left w.asks b g) (goes g kg));
    }
      where
        goes : (g : Follower w.Left) → Rest g → Rest (on_normal w.Left w.asks b g)
        goes g kg Normal ls hc h = (f ls h).good g kg
        goes g kg (Broke n) ls hc h = kg (Broke n) ls hc h
        goes g kg (Continued n) ls hc h = kg (Continued n) ls hc h
        goes g kg (Returned n) ls hc h = kg (Returned n) ls hc h
        goes g kg (Threw n) ls hc h = kg (Threw n) ls hc h

    finally_good : (x : Answers → Executed) (b : List Value → Answers → Executed) →
        GoodBy x →
        Follows b →
        GoodBy (λ q. finally_do (x q) b)
    finally_good x b a f = record {
      good = λ g kg. sure_same P file w _ _ (λ q. finally_by w.Left w.asks (x q) b g)
          (a.good (λ c ls r. finish_by w.asks (then_do (b ls r) (λ ls r. Completes c ls r)) g)
          (λ c ls hc h. (both_good (λ q. b ls q) (λ ls r. Completes c ls r) (f ls h)
          (λ ls h. completes_good c ls hc h)).good g kg));
    }

    back_good : (b : List Value → Answers → Executed) (ls : List Value) →
        Locals P slots ls →
        Follows b →
        GoodBy (λ q. turn_back b ls q)
    back_good b ls h f = record { good = λ g kg. record { is = goes g kg } }
      where
        goes : (g : Follower w.Left) →
            Rest g →
            (had : Answers) →
            w.Shown (λ q. finish_by w.asks (turn_back b ls q) g) had
        goes g kg [] = w.at_end _ act.Turn NoValue refl (w.fits act.Turn NoValue refl)
        goes g kg (y ∷ rest) = w.at_more _ act.Turn NoValue y rest refl tt (λ u. ((f ls h).good g kg).is rest)

    body_good : (x : Answers → Executed) (b : List Value → Answers → Executed) →
        GoodBy x →
        Follows b →
        GoodBy (λ q. after_body (x q) b)
    body_good x b a f = record {
      good = λ g kg. sure_same P file w _ _ (λ q. body_by w.Left w.asks (x q) b g)
          (a.good (on_body w.Left w.asks b g) (goes g kg));
    }
      where
        goes : (g : Follower w.Left) → Rest g → Rest (on_body w.Left w.asks b g)
        goes g kg Normal ls hc h = (back_good b ls h f).good g kg
        goes g kg (Broke zero) ls hc h = kg Normal ls tt h
        goes g kg (Broke (suc n)) ls hc h = kg (Broke n) ls tt h
        goes g kg (Continued zero) ls hc h = (back_good b ls h f).good g kg
        goes g kg (Continued (suc n)) ls hc h = kg (Continued n) ls tt h
        goes g kg (Returned n) ls hc h = kg (Returned n) ls hc h
        goes g kg (Threw n) ls hc h = kg (Threw n) ls hc h

    choose_good : (t : Bool) (x y : Answers → Executed) → GoodBy x → GoodBy y → GoodBy (λ q. cond t (x q) (y q))
    choose_good true x y a b = a
    choose_good false x y a b = b

    module _ (c : List Value → Answers → Evaluated Value) (b : List Value → Answers → Executed)
        (tested : (ls : List Value) → Locals P slots ls → Good P file w
        (HasSort P (ValueOf types.Boolean)) (λ q. c ls q))
        (done : Follows b) where
      turn_good : (f : List Value → Answers → Executed) → Follows f → Follows (one_turn c b f)
      turn_good f k ls h = value_good (ValueOf types.Boolean) ls _ _ h (tested ls h) (λ v hv.
          choose_good (truth_of v) (λ q. after_body (b ls q) f) (λ q. Completes Normal ls q)
          (body_good _ f (done ls h) k)
          (completes_good Normal ls tt h))

      -- a last turn asks for one more
      asks_good : Follows (λ ls rest. AsksFor act.Turn NoValue)
      asks_good ls h = record { good = λ g kg. record { is = λ had. asked had } }
        where
          asked : (had : Answers) → w.Shown (λ q. w.asks act.Turn NoValue) had
          asked [] = w.at_end _ act.Turn NoValue refl (w.fits act.Turn NoValue refl)
          asked (y ∷ rest) = w.at_more _ act.Turn NoValue y rest refl tt (λ u. asked rest)

      turns_good : (n : ℕ) → Follows (turns n c b)
      turns_good zero ls h = turn_good (λ ls rest. AsksFor act.Turn NoValue) asks_good ls h
      turns_good (suc n) ls h = turn_good (turns n c b) (turns_good n) ls h

module _ (P : ℕ → ValueType → Type 0) (null : (n : ℕ) (t : ValueType) → n ≡ 0 → P n t) (file : File) (w : Way P file)
    (calls : Calls) (called : CallsGood P file w calls) (within : CallsWithin calls) (slots : List ValueType)
    (r : Option ValueType) where
  -- an expression of a statement
  part : (e : Expression) (s : Sort) (ls : List Value) →
      IsTyped file slots s e →
      Locals P slots ls →
      Good P file w (HasSort P s) (λ q. evaluate file.classes calls e ls q)
  part e s ls t h = good_of P null file w calls called slots e s ls t h

  mutual
    -- each typed statement asks on things of the right types, and leaves locals of the right types
    pub good_by : (s : Statement) (ls : List Value) →
        IsTypedStatement file slots r s →
        Locals P slots ls →
        GoodBy P file w slots r (λ q. execute file.classes calls s ls q)
    good_by (Block ss) ls t h = all_good_by ss ls t h
    good_by (SetSlot i x) ls t h = value_good P file w slots r (ValueOf t.0) ls _ _ h (part x (ValueOf t.0) ls t.2 h)
        (λ v hv.
        completes_good P file w slots r Normal (slice_set ls i v) tt (locals_set P slots ls i t.0 v t.1 hv h))
    good_by (SetField x f y) ls t h = normal_good P file w slots r ls NoValue _ h (
        then_good P file w _ _ _ _ (part x (ValueOf (types.Class t.0)) ls t.3 h) (λ o ho.
        then_good P file w _ _ _ _ (part y (ValueOf t.1) ls t.4 h) (λ v hv.
        null_good P file w _ (reference_of o) _ (λ ne.
        ask_good P file w (act.WriteField (reference_of o) f v) NoValue tt (
          t.0,
          t.1,
          (ne, reference_has P o (types.Class t.0) tt ho),
          field_there file.classes t.0 f t.1 t.2,
          hv,
          refl,
        )))))
    good_by (AddField x f y) ls t h = normal_good P file w slots r ls NoValue _ h (
        then_good P file w _ _ _ _ (part x (ValueOf (types.Class t.0)) ls t.2 h) (λ o ho.
        then_good P file w _ _ _ _ (null_good P file w _ (reference_of o) _ (λ ne.
        ask_good P file w (act.ReadField (reference_of o) f) (ValueOf types.Int) tt (
          t.0,
          types.Int,
          (ne, reference_has P o (types.Class t.0) tt ho),
          field_there file.classes t.0 f types.Int t.1,
          refl,
        ))) (λ a ha.
        then_good P file w _ _ _ _ (part y (ValueOf types.Int) ls t.3 h) (λ b hb.
        then_good P file w _ _ _ _ (operate_good P file w Add a b) (λ v hv.
        null_good P file w _ (reference_of o) _ (λ ne.
        ask_good P file w (act.WriteField (reference_of o) f v) NoValue tt (
          t.0,
          types.Int,
          (ne, reference_has P o (types.Class t.0) tt ho),
          field_there file.classes t.0 f types.Int t.1,
          hv,
          refl,
        )))))))
    good_by (SetItem x i y) ls t h = normal_good P file w slots r ls NoValue _ h (
        then_good P file w _ _ _ _ (part x (ValueOf types.BooleanArray) ls t.0 h) (λ o ho.
        then_good P file w _ _ _ _ (part i (ValueOf types.Int) ls t.1 h) (λ n hn.
        then_good P file w _ _ _ _ (part y (ValueOf types.Boolean) ls t.2 h) (λ v hv.
        null_good P file w _ (reference_of o) _ (λ ne.
        ask_good P file w (act.WriteItem (reference_of o) (int_of n) v) NoValue tt
        ((ne, reference_has P o types.BooleanArray tt ho), hv, refl))))))
    good_by (Evaluate x) ls t h = normal_good P file w slots r ls t.0 _ h (part x t.0 ls t.1 h)
    good_by (If x a b) ls t h = value_good P file w slots r (ValueOf types.Boolean) ls _ _ h
        (part x (ValueOf types.Boolean) ls t.0 h) (λ v hv.
        choose_good P file w slots r (truth_of v) _ _ (good_by a ls t.1 h) (good_by b ls t.2 h))
    good_by (While x s) ls t h = record {
      good = λ g kg.
          let c = evaluate file.classes calls x in
          let b = execute file.classes calls s in
          let all = λ (n : ℕ). (turns_good P file w slots r c b (λ ls2 h2. part x (ValueOf types.Boolean) ls2 t.0 h2)
          (λ ls2 h2. good_by s ls2 t.1 h2) n ls h).good g kg in
          record {
            is = λ had. w.same (λ q. finish_by w.asks (turns (length q) c b ls q) g)
                (λ q. finish_by w.asks (turns (length had) c b ls q) g) had
                (λ q less. ap (λ z. finish_by w.asks z g) (turns_eq c b
                (λ n. evaluate_within calls within n file.classes x) (execute_within file.classes calls within s)
                (length q) (length had) ls q (omega arith) less))
                ((all (length had)).is had);
          };
    }
    good_by (Break n) ls t h = completes_good P file w slots r (Broke n) ls tt h
    good_by (Continue n) ls t h = completes_good P file w slots r (Continued n) ls tt h
    good_by ReturnNothing ls t h = completes_good P file w slots r (Returned None) ls tt h
    good_by (ReturnValue x) ls t h = value_good P file w slots r (ValueOf t.0) ls _ _ h (part x (ValueOf t.0) ls t.2 h)
        (λ v hv. completes_good P file w slots r (Returned (Some v)) ls (t.0, t.1, hv) h)
    good_by (Try a b) ls t h = finally_good P file w slots r _ _ (good_by a ls t.0 h) (λ ls2 h2. good_by b ls2 t.1 h2)

    pub all_good_by : (ss : Statements) (ls : List Value) →
        AreTypedStatements file slots r ss →
        Locals P slots ls →
        GoodBy P file w slots r (λ q. execute_all file.classes calls ss ls q)
    all_good_by checked.Done ls t h = completes_good P file w slots r Normal ls tt h
    all_good_by (Then s ss) ls t h = both_good P file w slots r _ _ (good_by s ls t.0 h)
        (λ ls2 h2. all_good_by ss ls2 t.1 h2)
