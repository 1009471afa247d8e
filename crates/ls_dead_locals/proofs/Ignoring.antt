-- Where a local is dead before the answer to a question, pending work means the same whatever the local's value is.
use Rattle.std.proofs.Common.{◌≡◌, ℕ, Bool, true, List, [], ◌∷◌, ◌++◌, refl, ap, ◌∙◌, ◌&&◌}
use Rattle.std.proofs.Common.{zero, suc, Option, Some, None, sym, nat_eq, true≢false}
use Rattle.std.proofs.lemmas.Bool.{and_parts}
use Rattle.ls_events.specs.declared.value.Value.{Value}
use Rattle.ls_events.specs.declared.value.ValueType.{ValueType}
use Rattle.ls_events.specs.declared.value.ValueType.TheVariants as types
use Rattle.ls_events.specs.declared.action.Action.TheVariants.{ReadField}
use Rattle.ls_checked.specs.CheckedTree.{File, Expression, Expressions, Statement, While}
use Rattle.ls_meaning.specs.declared.completion.Completion.{Completion}
use Rattle.ls_meaning.specs.declared.completion.Completion.TheVariants.{Normal, Broke, Continued, Returned, Threw}
use Rattle.ls_meaning.specs.declared.sort.Sort.TheVariants.{ValueOf}
use Rattle.ls_meaning.specs.Values.{truth_of, reference_of, nothing}
use Rattle.ls_meaning.specs.Course.{Answers, Evaluated, Asks as EAsks, Results, Throws, on_object}
use Rattle.ls_meaning.specs.Expressions.{evaluate}
use Rattle.ls_meaning.specs.Statements.{Executed, Completes, execute, execute_all, turn_back}
use Rattle.ls_meaning.specs.Methods.{invoke, leave}
use Rattle.ls_source_pending.specs.Pending.{Purpose, ToCall, ToMake, Operand, InField, InItem, InIndex}
use Rattle.ls_source_pending.specs.Pending.{InNegate, InNot, InLength, InLeft, InRight, InAnd, InOr, InTarget}
use Rattle.ls_source_pending.specs.Pending.{InArgument, InMade, InConstructor, InReference, InMark, InBoth, InWritten}
use Rattle.ls_source_pending.specs.Pending.{Waiting, ToSlot, ToTarget, ToField, ToCounter, ToAddend, ToSum, ToArray}
use Rattle.ls_source_pending.specs.Pending.{ToIndex, ToItem, ToNothing, ToIf, ToTest, ToReturn, Ending, OfSequence}
use Rattle.ls_source_pending.specs.Pending.{OfBody, OfTry, OfFinally, Frame, In, On, Up, Leaves, Control, Evaluates}
use Rattle.ls_source_pending.specs.Pending.{Argues, Invokes, Opens, Executes, Loops, Gives, Ends, Asks}
use Rattle.ls_source_pending.specs.Pending.{Enters, Turns, State}
use Rattle.ls_source_pending.specs.ExpressionMoves.{at}
use Rattle.ls_source_pending.specs.Meaning.{PartResult, OfValue, OfEnd, Rest, argued, around, closed, done_now}
use Rattle.ls_source_pending.specs.Meaning.{evaluated, executed, filled, gone_on, meaning, rest_of}
use Rattle.ls_dead_locals.specs.declared.statements.Ways.{Ways}
use Rattle.ls_dead_locals.specs.Dead.{all_spare, are_dead, both_ends, finished, in_body, is_dead, spares}
use Rattle.ls_dead_locals.specs.Around.{all_ways, control_dead, dead_after, ending_ways, frame_ways, frames_ways}
use Rattle.ls_dead_locals.specs.Around.{looped, operand_spares, valued, waiting_dead}
use Rattle.ls_dead_locals.proofs.Spared.{arguments_spared, but, evaluate_spared, if_same, then_same}
use Rattle.ls_dead_locals.proofs.Alike.{Alike, Apart, Equal, all_alike, body_alike, execute_alike, finish_alike}
use Rattle.ls_dead_locals.proofs.Alike.{back_alike, if_alike, loop_threw, normal_alike, set_alike, then_alike}

-- whether a local is dead after the outcome of a part
abbrev pub dead_at : PartResult → Ways → Bool
dead_at (OfValue a) w = w.value
dead_at (OfEnd c) w = dead_after c w

module _ (n : ℕ) (v : Value) where
  -- what follows is the same where the local is dead
  abbrev pub Ignores : Ways → Rest → Type 0
  Ignores w k = (d : ℕ) (ls : List Value) (r : PartResult) (q : Answers) →
      dead_at r w ≡ true →
      k d (but n v ls) r q ≡ k d ls r q

  pub evaluated_same : (w : Ways) (k : Rest) →
      Ignores w k →
      (w.value && w.threw) ≡ true →
      (d : ℕ) (ls : List Value) (x x' : Evaluated Value) →
      x' ≡ x →
      evaluated k d (but n v ls) x' ≡ evaluated k d ls x
  evaluated_same w k i h d ls x x' e = ap (evaluated k d (but n v ls)) e ∙ by_case x
    where
      p : (w.value ≡ true) × (w.threw ≡ true)
      p = and_parts w.value w.threw h

      by_case : (y : Evaluated Value) → evaluated k d (but n v ls) y ≡ evaluated k d ls y
      by_case (EAsks action sort) = refl
      by_case (Results a q) = i d ls (OfValue a) q p.0
      by_case (Throws kind q) = i d ls (OfEnd (Threw kind)) q p.1

  pub executed_same : (w : Ways) (k : Rest) →
      Ignores w k →
      (d : ℕ) (x x' : Executed) →
      Alike n v w x x' →
      executed k d x' ≡ executed k d x
  executed_same w k i d _ _ (Equal x) = refl
  executed_same w k i d _ _ (Apart c ls q e) = i d ls (OfEnd c) q e

  module _ (file : File) where
    abbrev spared : (d : ℕ) (e : Expression) → spares n e ≡ true → (ls : List Value) (q : Answers) →
        evaluate file.classes (invoke file d) e (but n v ls) q ≡ evaluate file.classes (invoke file d) e ls q
    spared d e h ls q = evaluate_spared n v file.classes (invoke file d) e h ls q

    argued_same : (d : ℕ) (ls : List Value) (p : Purpose) (before : List Value) (es : Expressions) →
        all_spare n es ≡ true →
        (q : Answers) →
        argued file d (but n v ls) p before es q ≡ argued file d ls p before es q
    argued_same d ls p before es h q =
        then_same _ _ _ _ (arguments_spared n v file.classes (invoke file d) es h ls q) (λ vs r. refl)

    filled_same : (d : ℕ) (ls : List Value) (f : Operand) (a : Value) (q : Answers) →
        operand_spares n f ≡ true →
        filled file d (but n v ls) f a q ≡ filled file d ls f a q
    filled_same d ls (InField c f) a q h = refl
    filled_same d ls (InItem i) a q h = then_same _ _ _ _ (spared d i h ls q) (λ m r. refl)
    filled_same d ls (InIndex o) a q h = refl
    filled_same d ls InNegate a q h = refl
    filled_same d ls InNot a q h = refl
    filled_same d ls InLength a q h = refl
    filled_same d ls (InLeft op b) a q h = then_same _ _ _ _ (spared d b h ls q) (λ y r. refl)
    filled_same d ls (InRight op x) a q h = refl
    filled_same d ls (InAnd b) a q h = if_same (truth_of a) _ _ _ _ (spared d b h ls q) refl
    filled_same d ls (InOr b) a q h = if_same (truth_of a) _ _ _ _ refl (spared d b h ls q)
    filled_same d ls (InTarget m es) a q h = argued_same d ls (ToCall m a) [] es h q
    filled_same d ls (InArgument p before es) a q h = argued_same d ls p (before ++ a ∷ []) es h q
    filled_same d ls (InMade c es) a q h = argued_same d ls (ToMake c a) [] es h q
    filled_same d ls (InConstructor o) a q h = refl
    filled_same d ls InReference a q h = refl
    filled_same d ls InMark a q h = refl
    filled_same d ls (InBoth array) a q h = refl
    filled_same d ls (InWritten pair) a q h = refl

    gone_alike : (w : Ways) (d : ℕ) (ls : List Value) (f : Waiting) (a : Value) (q : Answers) →
        waiting_dead n f w ≡ true →
        Alike n v w (gone_on file d ls f a q) (gone_on file d (but n v ls) f a q)
    gone_alike w d ls (ToSlot m) a q h = set_alike n v w m ls a q h
    gone_alike w d ls (ToTarget f e) a q h =
        let p = and_parts (both_ends w) (spares n e) h in
        normal_alike n v w _ _ ls (then_same _ _ _ _ (spared d e p.1 ls q) (λ x r. refl)) p.0
    gone_alike w d ls (ToField o f) a q h = normal_alike n v w _ _ ls refl h
    gone_alike w d ls (ToCounter f e) a q h =
        let p = and_parts (both_ends w) (spares n e) h in
        normal_alike n v w _ _ ls (
        then_same (on_object a (ReadField (reference_of a) f) (ValueOf types.Int) q) _ _ _ refl (λ x r.
        then_same _ _ _ _ (spared d e p.1 ls r) (λ y s. refl))) p.0
    gone_alike w d ls (ToAddend o f e) a q h =
        let p = and_parts (both_ends w) (spares n e) h in
        normal_alike n v w _ _ ls (then_same _ _ _ _ (spared d e p.1 ls q) (λ x r. refl)) p.0
    gone_alike w d ls (ToSum o f x) a q h = normal_alike n v w _ _ ls refl h
    gone_alike w d ls (ToArray i e) a q h =
        let p = and_parts (both_ends w) (spares n i && spares n e) h in
        let t = and_parts (spares n i) (spares n e) p.1 in
        normal_alike n v w _ _ ls (
        then_same _ _ _ _ (spared d i t.0 ls q) (λ m r.
        then_same _ _ _ _ (spared d e t.1 ls r) (λ x s. refl))) p.0
    gone_alike w d ls (ToIndex o e) a q h =
        let p = and_parts (both_ends w) (spares n e) h in
        normal_alike n v w _ _ ls (then_same _ _ _ _ (spared d e p.1 ls q) (λ x r. refl)) p.0
    gone_alike w d ls (ToItem o i) a q h = normal_alike n v w _ _ ls refl h
    gone_alike w d ls ToNothing a q h = Apart Normal ls q h
    gone_alike w d ls (ToIf x y) a q h =
        let p = and_parts (is_dead n x w) (is_dead n y w) h in
        if_alike n v w (truth_of a) _ _ _ _
        (execute_alike n v file.classes (invoke file d) x w p.0 ls q)
        (execute_alike n v file.classes (invoke file d) y w p.1 ls q)
    gone_alike w d ls (ToTest e s) a q h =
        let p = and_parts (both_ends w && spares n e) (is_dead n s (in_body w)) h in
        let t = and_parts (both_ends w) (spares n e) p.0 in
        let u = and_parts w.normal w.threw t.0 in
        if_alike n v w (truth_of a) _ _ _ _
        (body_alike n v w (in_body w) _ _ _ t.0
        (λ z. (and_parts w.normal w.jumped z).1) (λ z. z) (λ z. z)
        (execute_alike n v file.classes (invoke file d) s (in_body w) p.1 ls q)
        (execute_alike n v file.classes (invoke file d) (While e s) w h))
        (Apart Normal ls q u.0)
    gone_alike w d ls ToReturn a q h = Apart (Returned _) ls q h

    -- a loop after an end of its body
    looped_alike : (w : Ways) (d : ℕ) (ls : List Value) (e : Expression) (s : Statement) (c : Completion Value)
        (q : Answers) →
        dead_after c (looped (is_dead n (While e s) w) w) ≡ true →
        Alike n v w (closed file d (OfBody e s) (Completes c ls q))
        (closed file d (OfBody e s) (Completes c (but n v ls) q))
    looped_alike w d ls e s c q h = by_case c h
      where
        again : is_dead n (While e s) w ≡ true → (l : List Value) (r : Answers) →
            Alike n v w (turn_back (execute file.classes (invoke file d) (While e s)) l r)
            (turn_back (execute file.classes (invoke file d) (While e s)) (but n v l) r)
        again z = back_alike n v w (execute file.classes (invoke file d) (While e s)) (loop_threw n w e s z)
            (execute_alike n v file.classes (invoke file d) (While e s) w z)

        jumps : (is_dead n (While e s) w && (w.normal && w.jumped)) ≡ true →
            (is_dead n (While e s) w ≡ true) × (w.normal ≡ true) × (w.jumped ≡ true)
        jumps z =
            let p = and_parts (is_dead n (While e s) w) (w.normal && w.jumped) z in
            let t = and_parts w.normal w.jumped p.1 in
            (p.0, t.0, t.1)

        by_case : (c : Completion Value) → dead_after c (looped (is_dead n (While e s) w) w) ≡ true →
            Alike n v w (closed file d (OfBody e s) (Completes c ls q))
            (closed file d (OfBody e s) (Completes c (but n v ls) q))
        by_case Normal z = again z ls q
        by_case (Continued zero) z = again (jumps z).0 ls q
        by_case (Continued (suc m)) z = Apart (Continued m) ls q (jumps z).2
        by_case (Broke zero) z = Apart Normal ls q (jumps z).1
        by_case (Broke (suc m)) z = Apart (Broke m) ls q (jumps z).2
        by_case (Returned a) z = Apart (Returned a) ls q z
        by_case (Threw kind) z = Apart (Threw kind) ls q z

    -- a `finally` block after an end of its block
    tried_alike : (w : Ways) (d : ℕ) (ls : List Value) (f : Statement) (c : Completion Value) (q : Answers) →
        dead_after c (ending_ways n (OfTry f) w) ≡ true →
        Alike n v w (closed file d (OfTry f) (Completes c ls q)) (closed file d (OfTry f) (Completes c (but n v ls) q))
    tried_alike w d ls f Normal q h = finish_alike n v w w.normal Normal _ _ (λ z. z)
        (execute_alike n v file.classes (invoke file d) f (finished w.normal w) h ls q)
    tried_alike w d ls f (Broke m) q h = finish_alike n v w w.jumped (Broke m) _ _ (λ z. z)
        (execute_alike n v file.classes (invoke file d) f (finished w.jumped w) h ls q)
    tried_alike w d ls f (Continued m) q h = finish_alike n v w w.jumped (Continued m) _ _ (λ z. z)
        (execute_alike n v file.classes (invoke file d) f (finished w.jumped w) h ls q)
    tried_alike w d ls f (Returned a) q h = finish_alike n v w w.returned (Returned a) _ _ (λ z. z)
        (execute_alike n v file.classes (invoke file d) f (finished w.returned w) h ls q)
    tried_alike w d ls f (Threw kind) q h = finish_alike n v w w.threw (Threw kind) _ _ (λ z. z)
        (execute_alike n v file.classes (invoke file d) f (finished w.threw w) h ls q)

    -- the end of the part in a frame
    closed_alike : (w : Ways) (d : ℕ) (ls : List Value) (f : Ending) (c : Completion Value) (q : Answers) →
        dead_after c (ending_ways n f w) ≡ true →
        Alike n v w (closed file d f (Completes c ls q)) (closed file d f (Completes c (but n v ls) q))
    closed_alike w d ls (OfSequence ss) c q h =
        then_alike n v w (are_dead n ss w) _ _ (execute_all file.classes (invoke file d) ss)
        (Apart c ls q h) (all_alike n v file.classes (invoke file d) ss w)
    closed_alike w d ls (OfBody e s) c q h = looped_alike w d ls e s c q h
    closed_alike w d ls (OfTry f) c q h = tried_alike w d ls f c q h
    closed_alike w d ls (OfFinally reason) c q h =
        then_alike n v w (dead_after reason w) _ _ _ (Apart c ls q h) (λ z l r. Apart reason l r z)

    end_kept : (w : Ways) (b : Bool) (c : Completion Value) → dead_after c (valued b w) ≡ true → dead_after c w ≡ true
    end_kept w b Normal h = h
    end_kept w b (Broke m) h = h
    end_kept w b (Continued m) h = h
    end_kept w b (Returned a) h = h
    end_kept w b (Threw kind) h = h

    value_kept : (w : Ways) (f : Ending) → (ending_ways n f w).value ≡ true → w.value ≡ true
    value_kept w (OfSequence ss) h = h
    value_kept w (OfBody e s) h = h
    value_kept w (OfTry f) h = h
    value_kept w (OfFinally reason) h = h

    -- what a body's end is to the caller doesn't depend on the body's locals
    leave_same : (result : Option ValueType) (ls : List Value) (c : Completion Value) (q : Answers) →
        leave result (Completes c (but n v ls) q) ≡ leave result (Completes c ls q)
    leave_same result ls Normal q = refl
    leave_same result ls (Broke m) q = refl
    leave_same result ls (Continued m) q = refl
    leave_same result ls (Returned None) q = refl
    leave_same result ls (Returned (Some a)) q = refl
    leave_same result ls (Threw kind) q = refl

    around_same : (w : Ways) (k : Rest) →
        Ignores w k →
        (f : Frame) →
        Ignores (frame_ways n f w) (around file f k)
    around_same w k i (In f) d ls (OfValue a) q h =
        let p = and_parts (w.value && w.threw) (operand_spares n f) h in
        evaluated_same w k i p.0 d ls _ _ (filled_same d ls f a q p.1)
    around_same w k i (In f) d ls (OfEnd c) q h = i d ls (OfEnd c) q (end_kept w _ c h)
    around_same w k i (On f) d ls (OfValue a) q h = executed_same w k i d _ _ (gone_alike w d ls f a q h)
    around_same w k i (On f) d ls (OfEnd c) q h = i d ls (OfEnd c) q (end_kept w _ c h)
    around_same w k i (Up f) d ls (OfValue a) q h = i d ls (OfValue a) q (value_kept w f h)
    around_same w k i (Up f) d ls (OfEnd c) q h = executed_same w k i d _ _ (closed_alike w d ls f c q h)
    around_same w k i (Leaves result saved outer) d ls (OfValue a) q h = i d ls (OfValue a) q h
    around_same w k i (Leaves result saved outer) d ls (OfEnd c) q h =
        ap (evaluated k outer saved) (leave_same result ls c q)

    rest_same : (base : Rest) → Ignores all_ways base → (fs : List Frame) →
        Ignores (frames_ways n fs) (rest_of file base fs)
    rest_same base i [] = i
    rest_same base i (f ∷ fs) = around_same (frames_ways n fs) (rest_of file base fs) (rest_same base i fs) f

    done_same : (w : Ways) (k : Rest) →
        Ignores w k →
        (c : Control) →
        control_dead n c w ≡ true →
        (d : ℕ) (ls : List Value) (q : Answers) →
        done_now file k c d (but n v ls) q ≡ done_now file k c d ls q
    done_same w k i (Asks action sort) h d ls q = evaluated_same w k i h d ls _ _ refl
    done_same w k i (Enters m vs) h d ls [] = refl
    done_same w k i (Enters m vs) h d ls (a ∷ q) =
        if_same (nat_eq d 0) _ _ _ _
        (i d ls (OfValue nothing) q (and_parts w.value w.threw h).0)
        (evaluated_same w k i h d ls _ _ refl)
    done_same w k i (Turns e s) h d ls [] = refl
    done_same w k i (Turns e s) h d ls (a ∷ q) =
        executed_same w k i d _ _ (execute_alike n v file.classes (invoke file d) (While e s) w h ls q)
    done_same w k i (Evaluates e) h d ls q = absurd (true≢false (sym h))
    done_same w k i (Argues p before es) h d ls q = absurd (true≢false (sym h))
    done_same w k i (Invokes m vs) h d ls q = absurd (true≢false (sym h))
    done_same w k i (Opens m vs) h d ls q = absurd (true≢false (sym h))
    done_same w k i (Executes s) h d ls q = absurd (true≢false (sym h))
    done_same w k i (Loops e s) h d ls q = absurd (true≢false (sym h))
    done_same w k i (Gives a) h d ls q = absurd (true≢false (sym h))
    done_same w k i (Ends c) h d ls q = absurd (true≢false (sym h))

    -- pending work means the same with another value in a slot whose local is dead
    pub meaning_same : (base : Rest) →
        Ignores all_ways base →
        (s : State) →
        control_dead n s.control (frames_ways n s.frames) ≡ true →
        (q : Answers) →
        meaning file base (at s.control s.frames (but n v s.locals) s.depth) q ≡ meaning file base s q
    meaning_same base i s h q =
        done_same (frames_ways n s.frames) (rest_of file base s.frames) (rest_same base i s.frames) s.control h
        s.depth s.locals q
