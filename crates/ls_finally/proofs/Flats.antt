-- The tree without `try` asks for the same and ends so.
use Rattle.std.proofs.Common.{◌≡◌, ℕ, zero, suc, ◌+◌, ◌*◌, ◌≤◌, List, length, refl, sym, ◌∙◌, arith, nat_eq}
use Rattle.std.proofs.Common.{if◌then◌else◌}
use Rattle.std.specs.Prelude.{slice_set}
use Rattle.std.proofs.lemmas.List.{length-set}
use Rattle.ls_events.specs.declared.action.Action.TheVariants as act
use Rattle.ls_lowered.specs.LoweredTree.{Statement, Block, SetLocal, SetField, AddField, SetItem, Evaluate, If, While}
use Rattle.ls_lowered.specs.LoweredTree.{Return, Try, Guarded, Throw, Leavable, Leave, Statements, Done, Then, File}
use Rattle.ls_lowered.specs.Course.{Answers, Course, Asks, Ends, Outcome, Calls, finish}
use Rattle.ls_lowered.specs.Expressions.{evaluate}
use Rattle.ls_lowered.specs.Statements.{Completion, Normal, Returned, Threw, Left, Go, on_normal, on_any, on_leave}
use Rattle.ls_lowered.specs.Statements.{on_body, one_turn, turns, execute, execute_all, leave_to}
use Rattle.ls_finally.specs.Flat.{tries, all_tries, flat, all_flat}
use Rattle.ls_finally.specs.Agreement.{Agree}
use Rattle.ls_finally.specs.Placed.{IsPlacedStatement, ArePlaced}
use Rattle.ls_finally.proofs.Agreeing.{finish_finish, agree_set, Alike, found_alike}
use Rattle.ls_finally.proofs.Alike.{field_alike, addition_alike, item_alike}
use Rattle.ls_finally.proofs.Replaced.{Both, word_both, if_both, back_both}
use Rattle.ls_finally.proofs.Copies.{copies_ok}
use Rattle.ls_finally.proofs.Fitting.{fits_more, flat_fits}

module _ (m room : ℕ) where
  -- what follows goes on alike, on locals that agree below m
  abbrev pub Onward : (g g' : Go) → Type 0
  Onward g g' = (c : Completion) (ls new : List ℕ) (q : Answers) → length new ≡ room → Agree m ls new →
      g' c new q ≡ g c ls q

  normal_onward : (f f' : List ℕ → Answers → Course Completion) (g g' : Go) →
      Both m room f f' g g' →
      Onward g g' →
      Onward (λ c ls q. finish (on_normal f c ls q) g) (λ c ls q. finish (on_normal f' c ls q) g')
  normal_onward f f' g g' t h Normal ls new q e a = t ls new q e a
  normal_onward f f' g g' t h (Returned n) ls new q e a = h (Returned n) ls new q e a
  normal_onward f f' g g' t h (Threw n) ls new q e a = h (Threw n) ls new q e a
  normal_onward f f' g g' t h (Left n) ls new q e a = h (Left n) ls new q e a

  leave_onward : (f f' : ℕ → List ℕ → Answers → Course Completion) (g g' : Go) →
      ((n : ℕ) → Both m room (f n) (f' n) g g') →
      Onward g g' →
      Onward (λ c ls q. finish (on_leave f c ls q) g) (λ c ls q. finish (on_leave f' c ls q) g')
  leave_onward f f' g g' t h Normal ls new q e a = h Normal ls new q e a
  leave_onward f f' g g' t h (Returned n) ls new q e a = h (Returned n) ls new q e a
  leave_onward f f' g g' t h (Threw n) ls new q e a = h (Threw n) ls new q e a
  leave_onward f f' g g' t h (Left n) ls new q e a = t n ls new q e a

  body_onward : (f f' : List ℕ → Answers → Course Completion) (g g' : Go) →
      Both m room f f' g g' →
      Onward g g' →
      Onward (λ c ls q. finish (on_body f c ls q) g) (λ c ls q. finish (on_body f' c ls q) g')
  body_onward f f' g g' t h Normal ls new q e a = back_both m room f f' g g' t
      (λ kind ls new q e a. h (Threw kind) ls new q e a) ls new q e a
  body_onward f f' g g' t h (Returned n) ls new q e a = h (Returned n) ls new q e a
  body_onward f f' g g' t h (Threw n) ls new q e a = h (Threw n) ls new q e a
  body_onward f f' g g' t h (Left n) ls new q e a = h (Left n) ls new q e a

  module _ (c : List ℕ → Answers → Course (Outcome ℕ)) (t : Alike m c) (b b' : List ℕ → Answers → Course Completion)
      (done : (g g' : Go) → Onward g g' → Both m room b b' g g') (g g' : Go) (h : Onward g g') where
    turn_onward : (f f' : List ℕ → Answers → Course Completion) →
        Both m room f f' g g' →
        Both m room (one_turn c b f) (one_turn c b' f') g g'
    turn_onward f f' again = word_both m room c (λ w ls q. if nat_eq w 0 then Ends Normal ls q else
        finish (b ls q) (on_body f)) (λ w ls q. if nat_eq w 0 then Ends Normal ls q else finish (b' ls q) (on_body f'))
        g g' t
        (λ w. if_both m room (nat_eq w 0) (λ ls q. Ends Normal ls q) (λ ls q. Ends Normal ls q)
        (λ ls q. finish (b ls q) (on_body f)) (λ ls q. finish (b' ls q) (on_body f')) g g'
        (λ ls new q e a. h Normal ls new q e a)
        (λ ls new q e a. finish_finish (b' new q) (on_body f') g' ∙
        done _ _ (body_onward f f' g g' again h) ls new q e a ∙ sym (finish_finish (b ls q) (on_body f) g)))
        (λ kind ls new q e a. h (Threw kind) ls new q e a)

    turns_onward : (n : ℕ) → Both m room (turns n c b) (turns n c b') g g'
    turns_onward zero = turn_onward (λ ls q. Asks act.Turn) (λ ls q. Asks act.Turn) (λ ls new q e a. refl)
    turns_onward (suc n) = turn_onward (turns n c b) (turns n c b') (turns_onward n)

  -- the finally block, after whatever the try block ended with
  any_onward : (f f' : List ℕ → Answers → Course Completion) (g g' : Go) →
      ((G G' : Go) → Onward G G' → Both m room f f' G G') →
      Onward g g' →
      Onward (λ c ls q. finish (on_any f c ls q) g) (λ c ls q. finish (on_any f' c ls q) g')
  any_onward f f' g g' t h c ls new q e a =
      finish_finish (f' new q) (on_normal (λ ls q. Ends c ls q)) g'
      ∙ t _ _ (normal_onward (λ ls q. Ends c ls q) (λ ls q. Ends c ls q) g g' (λ ls new q e a. h c ls new q e a) h) ls
      new q e a
      ∙ sym (finish_finish (f ls q) (on_normal (λ ls q. Ends c ls q)) g)

  -- what follows doesn't see the locals from m on
  alone : (g g' : Go) → m ≤ room → Onward g g' → Onward g g
  alone g g' le h c ls new q e a = sym (h c new new q e (record { short = a.long; long = a.long; at = λ i l. refl })) ∙
      h c ls new q e a

  module _ (calls : Calls) (ms : File) where
    mutual
      -- the lowered form of a statement does what the statement does
      pub flat_ok : (s : Statement) (k : ℕ) (g g' : Go) →
          IsPlacedStatement ms m s →
          m ≤ k →
          k + 2 * tries s ≤ room →
          Onward g g' →
          Both m room (execute calls s) (execute calls (flat k s)) g g'
      flat_ok (Block ss) k g g' t le lt h = all_flat_ok ss k g g' t le lt h
      flat_ok (SetLocal n e) k g g' t le lt h = word_both m room (evaluate calls e) _ _ g g'
          (found_alike calls m e t.1.0) (λ w ls new q e2 a. h Normal (slice_set ls n w) (slice_set new n w) q
          (length-set new n w ∙ e2) (agree_set m n w ls new t.0 a)) (λ kind ls new q e a. h (Threw kind) ls new q e a)
      flat_ok (SetField e f a) k g g' t le lt h = word_both m room _ _ _ g g' (field_alike calls m e a f t.0.0 t.1.0)
          (λ w ls new q e a. h Normal ls new q e a) (λ kind ls new q e a. h (Threw kind) ls new q e a)
      flat_ok (AddField e f a) k g g' t le lt h = word_both m room _ _ _ g g' (addition_alike calls m e a f t.0.0 t.1.0)
          (λ w ls new q e a. h Normal ls new q e a) (λ kind ls new q e a. h (Threw kind) ls new q e a)
      flat_ok (SetItem a i e) k g g' t le lt h = word_both m room _ _ _ g g'
          (item_alike calls m a i e t.0.0 t.1.0 t.2.0) (λ w ls new q e a. h Normal ls new q e a)
          (λ kind ls new q e a. h (Threw kind) ls new q e a)
      flat_ok (Evaluate e) k g g' t le lt h = word_both m room (evaluate calls e) _ _ g g' (found_alike calls m e t.0)
          (λ w ls new q e a. h Normal ls new q e a) (λ kind ls new q e a. h (Threw kind) ls new q e a)
      flat_ok (If e a b) k g g' t le lt h = word_both m room (evaluate calls e) _ _ g g' (found_alike calls m e t.0.0)
          (λ w. if_both m room (nat_eq w 0) (execute calls b) (execute calls (flat (k + 2 * tries a) b))
          (execute calls a) (execute calls (flat k a)) g g'
          (flat_ok b (k + 2 * tries a) g g' t.2 (omega arith) (omega arith) h)
          (flat_ok a k g g' t.1 le (omega arith) h))
          (λ kind ls new q e a. h (Threw kind) ls new q e a)
      flat_ok (While e s) k g g' t le lt h = λ ls new q. turns_onward (evaluate calls e) (found_alike calls m e t.0.0)
          (execute calls s) (execute calls (flat k s)) (λ G G' h. flat_ok s k G G' t.1 le lt h) g g' h (length q) ls new
          q
      flat_ok (Return e) k g g' t le lt h = word_both m room (evaluate calls e) _ _ g g' (found_alike calls m e t.0)
          (λ w ls new q e a. h (Returned w) ls new q e a) (λ kind ls new q e a. h (Threw kind) ls new q e a)
      flat_ok (Try b f) k g g' t le lt h = λ ls new q e a.
          copies_ok calls (k + 2 * tries b + 2 * tries f) room (flat k b) (flat (k + 2 * tries b) f)
          (fits_more (k + 2 * tries b) (k + 2 * tries b + 2 * tries f) (omega arith) (flat k b)
          (flat_fits ms m b k le t.0))
          (flat_fits ms m f (k + 2 * tries b) (omega arith) t.1)
          (omega arith) g g'
          (λ c ls new q e a.
          h c ls new q e (record {
            short = omega (arith, a.short);
            long = omega (arith, a.long);
            at = λ i l. a.at i (omega arith);
          }))
          new new q e (record { short = omega (arith, e); long = omega (arith, e); at = λ i l. refl })
          ∙ finish_finish (execute calls (flat k b) new q) (on_any (execute calls (flat (k + 2 * tries b) f))) g
          ∙ flat_ok b k _ _ t.0 le (omega arith) (any_onward (execute calls f)
          (execute calls (flat (k + 2 * tries b) f)) g g
          (λ G G' h. flat_ok f (k + 2 * tries b) G G' t.1 (omega arith) (omega arith) h)
          (alone g g' (omega arith) h)) ls new q e a
          ∙ sym (finish_finish (execute calls b ls q) (on_any (execute calls f)) g)
      flat_ok (Guarded b n x) k g g' t le lt h = absurd t
      flat_ok (Throw n) k g g' t le lt h = absurd t
      flat_ok (Leavable b xs) k g g' t le lt h = λ ls new q e a.
          finish_finish (execute calls (flat k b) new q) (on_leave (leave_to calls (all_flat (k + 2 * tries b) xs))) g'
          ∙ flat_ok b k _ _ t.0 le (omega arith) (leave_onward (leave_to calls xs)
          (leave_to calls (all_flat (k + 2 * tries b) xs)) g g'
          (λ n. exits_ok xs n (k + 2 * tries b) g g' t.1 (omega arith) (omega arith) h) h) ls new q e a
          ∙ sym (finish_finish (execute calls b ls q) (on_leave (leave_to calls xs)) g)
      flat_ok (Leave n) k g g' t le lt h = λ ls new q e a. h (Left n) ls new q e a

      all_flat_ok : (ss : Statements) (k : ℕ) (g g' : Go) →
          ArePlaced ms m ss →
          m ≤ k →
          k + 2 * all_tries ss ≤ room →
          Onward g g' →
          Both m room (execute_all calls ss) (execute_all calls (all_flat k ss)) g g'
      all_flat_ok Done k g g' t le lt h = λ ls new q e a. h Normal ls new q e a
      all_flat_ok (Then s ss) k g g' t le lt h = λ ls new q e a.
          finish_finish (execute calls (flat k s) new q) (on_normal (execute_all calls (all_flat (k + 2 * tries s) ss)))
          g'
          ∙ flat_ok s k _ _ t.0 le (omega arith) (normal_onward (execute_all calls ss)
          (execute_all calls (all_flat (k + 2 * tries s) ss)) g g'
          (all_flat_ok ss (k + 2 * tries s) g g' t.1 (omega arith) (omega arith) h) h) ls new q e a
          ∙ sym (finish_finish (execute calls s ls q) (on_normal (execute_all calls ss)) g)

      exits_ok : (xs : Statements) (n k : ℕ) (g g' : Go) →
          ArePlaced ms m xs →
          m ≤ k →
          k + 2 * all_tries xs ≤ room →
          Onward g g' →
          Both m room (leave_to calls xs n) (leave_to calls (all_flat k xs) n) g g'
      exits_ok Done zero k g g' t le lt h = λ ls new q e a. h Normal ls new q e a
      exits_ok Done (suc n) k g g' t le lt h = λ ls new q e a. h (Left n) ls new q e a
      exits_ok (Then x xs) zero k g g' t le lt h = λ ls new q e a. flat_ok x k g g' t.0 le (omega arith) h ls new q e a
      exits_ok (Then x xs) (suc n) k g g' t le lt h = λ ls new q e a.
          exits_ok xs n (k + 2 * tries x) g g' t.1 (omega arith) (omega arith) h ls new q e a
