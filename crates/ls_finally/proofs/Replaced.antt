-- A statement with its exits as leaves of its own ends as the statement.
use Rattle.std.proofs.Common.{◌≡◌, ℕ, zero, suc, ◌+◌, ◌<◌, ◌≤◌, Bool, true, false, List, [], ◌∷◌, ◌++◌, length, Option}
use Rattle.std.proofs.Common.{Some, None, refl, sym, ap, ◌∙◌, arith, nat_eq, if◌then◌else◌}
use Rattle.std.specs.Prelude.{slice_index, slice_set}
use Rattle.std.proofs.lemmas.List.{length-set, get_or-set_same}
use Rattle.ls_events.specs.declared.kind.Kind.{Kind}
use Rattle.ls_events.specs.declared.action.Action.TheVariants as act
use Rattle.ls_lowered.specs.LoweredTree.{Expression, Statement, Block, SetLocal, SetField, AddField, SetItem, Evaluate}
use Rattle.ls_lowered.specs.LoweredTree.{If, While, Return, Try, Guarded, Throw, Leavable, Leave, Statements, Done}
use Rattle.ls_lowered.specs.LoweredTree.{Then}
use Rattle.ls_lowered.specs.Words.{kind_word, kind_of}
use Rattle.ls_events.specs.declared.action.Answer.TheVariants as answers
use Rattle.ls_lowered.specs.Course.{Answers, Course, Asks, Ends, Outcome, Results, Throws, Calls, finish}
use Rattle.ls_lowered.specs.Expressions.{evaluate}
use Rattle.ls_lowered.specs.Statements.{Completion, Normal, Returned, Threw, Left, Go, on_word, on_normal, on_throw}
use Rattle.ls_lowered.specs.Statements.{on_leave, on_body, turn_back, one_turn, turns, throw, execute, execute_all}
use Rattle.ls_lowered.specs.Statements.{leave_to}
use Rattle.ls_finally_exits.specs.Exits.{outward, count, Exit, LeaveOut, ReturnOut, leave_exit, exits, all_exits}
use Rattle.ls_finally_exits.specs.Exits.{or_leave, replaced, all_replaced}
use Rattle.ls_finally.specs.Agreement.{Agree, IsBelow, Fits, AllFit}
use Rattle.ls_finally.proofs.Agreeing.{finish_finish, Above, above_refl, agree_set, agree_slot, Alike, found_alike}
use Rattle.ls_finally.proofs.Alike.{field_alike, addition_alike, item_alike}

-- a number that doesn't lead beyond l is below l
inward : (l n : ℕ) → outward l n ≡ None → n < l
inward zero n e = absurd (some e)
  where
    some : {n : ℕ} → Some n ≡ None → ⊥
    some e = cc
inward (suc l) zero e = omega arith
inward (suc l) (suc n) e = omega (arith, inward l n e)

beyond : (l n m : ℕ) → outward l n ≡ Some m → n ≡ l + m
beyond zero n m e = let same : n ≡ m = cc in omega arith
beyond (suc l) zero m e = absurd (none e)
  where
    none : {m : ℕ} → None ≡ Some m → ⊥
    none e = cc
beyond (suc l) (suc n) m e = omega (arith, beyond l n m e)

-- the exit with a number
abbrev pub nth : List Exit → ℕ → Option Exit
nth [] i = None
nth (x ∷ xs) zero = Some x
nth (x ∷ xs) (suc i) = nth xs i

nth_first : (xs ys : List Exit) (i : ℕ) (x : Exit) → nth xs i ≡ Some x → nth (xs ++ ys) i ≡ Some x
nth_first [] ys i x e = absurd (none e)
  where
    none : {x : Exit} → None ≡ Some x → ⊥
    none e = cc
nth_first (y ∷ xs) ys zero x e = e
nth_first (y ∷ xs) ys (suc i) x e = nth_first xs ys i x e

nth_after : (xs ys : List Exit) (i p : ℕ) → p ≡ length xs + i → nth (xs ++ ys) p ≡ nth ys i
nth_after [] ys i p e = let f : p ≡ i = omega arith in ap (nth ys) f
nth_after (x ∷ xs) ys i zero e = absurd (let f : ⊥ = omega arith in f)
nth_after (x ∷ xs) ys i (suc p) e = nth_after xs ys i p (omega arith)

-- leave p goes on as exit x does, whose target is beyond these numbers
abbrev pub OutAt : ℕ → ℕ → ℕ → ℕ → Exit → ℕ → Go → Go → Type 0
OutAt k r room l (LeaveOut m) p g g' = (n : ℕ) (ls new : List ℕ) (q : Answers) → n ≡ l + m → length new ≡ room →
    Agree k ls new → g' (Left p) new q ≡ g (Left n) ls q
OutAt k r room l ReturnOut p g g' = (w : ℕ) (ls new : List ℕ) (q : Answers) → slice_index new r ≡ w →
    length new ≡ room → Agree k ls new → g' (Left p) new q ≡ g (Returned w) ls q

-- what follows goes on alike inside of l numbers; beyond them exits are leaves from j on
pub record Goes (k r room l j : ℕ) (xs : List Exit) (g g' : Go) : Type 0 where
  pub normal : (ls new : List ℕ) (q : Answers) → length new ≡ room → Agree k ls new → g' Normal new q ≡ g Normal ls q
  pub threw : (kind : Kind) (ls new : List ℕ) (q : Answers) →
      length new ≡ room →
      Agree k ls new →
      g' (Threw kind) new q ≡ g (Threw kind) ls q
  pub left : (n : ℕ) (ls new : List ℕ) (q : Answers) →
      n < l →
      length new ≡ room →
      Agree k ls new →
      g' (Left n) new q ≡ g (Left n) ls q
  pub out : (i p : ℕ) (x : Exit) → nth xs i ≡ Some x → p ≡ l + j + i → OutAt k r room l x p g g'

module _ (k room : ℕ) where
  -- two courses of a statement that go on alike
  abbrev pub Both : (f f' : List ℕ → Answers → Course Completion) (g g' : Go) → Type 0
  Both f f' g g' = (ls new : List ℕ) (q : Answers) → length new ≡ room → Agree k ls new →
      finish (f' new q) g' ≡ finish (f ls q) g

  -- an expression, and then the rest of a statement
  pub word_both : (c : List ℕ → Answers → Course (Outcome ℕ)) (go go' : ℕ → List ℕ → Answers → Course Completion)
      (g g' : Go) →
      Alike k c →
      ((w : ℕ) → Both (go w) (go' w) g g') →
      ((kind : Kind) (ls new : List ℕ) (q : Answers) → length new ≡ room → Agree k ls new →
      g' (Threw kind) new q ≡ g (Threw kind) ls q) →
      Both (λ ls q. finish (c ls q) (on_word go)) (λ ls q. finish (c ls q) (on_word go')) g g'
  word_both c go go' g g' t h threw ls new q e a =
      finish_finish (c new q) (on_word go') g'
      ∙ t.is new ls new q (λ o ls q. finish (on_word go o ls q) g) (λ o ls q. finish (on_word go' o ls q) g') a
      (above_refl k new) (record { goes = goes })
      ∙ sym (finish_finish (c ls q) (on_word go) g)
    where
      goes : (o : Outcome ℕ) (ls2 new2 : List ℕ) (q2 : Answers) →
          Agree k ls2 new2 →
          Above k new new2 →
          finish (on_word go' o new2 q2) g' ≡ finish (on_word go o ls2 q2) g
      goes (Results w) ls2 new2 q2 a2 u = h w ls2 new2 q2 (u.long ∙ e) a2
      goes (Throws kind) ls2 new2 q2 a2 u = threw kind ls2 new2 q2 (u.long ∙ e) a2

  -- one of two statements, by a test
  pub if_both : (b : Bool) (f f' h h' : List ℕ → Answers → Course Completion) (g g' : Go) →
      Both f f' g g' →
      Both h h' g g' →
      Both (λ ls q. if b then f ls q else h ls q) (λ ls q. if b then f' ls q else h' ls q) g g'
  if_both true f f' h h' g g' t u = t
  if_both false f f' h h' g g' t u = u

  pub thrown_both : (o : Option Kind) (g g' : Go) →
      ((kind : Kind) (ls new : List ℕ) (q : Answers) → length new ≡ room → Agree k ls new →
      g' (Threw kind) new q ≡ g (Threw kind) ls q) →
      Both (throw o) (throw o) g g'
  thrown_both None g g' t ls new q e a = refl
  thrown_both (Some kind) g g' t ls new q e a = t kind ls new q e a

  -- back to the condition of a loop
  pub back_both : (f f' : List ℕ → Answers → Course Completion) (g g' : Go) →
      Both f f' g g' →
      ((kind : Kind) (ls new : List ℕ) (q : Answers) → length new ≡ room → Agree k ls new →
      g' (Threw kind) new q ≡ g (Threw kind) ls q) →
      Both (turn_back f) (turn_back f') g g'
  back_both f f' g g' t h ls new [] e a = refl
  back_both f f' g g' t h ls new (answers.Done ∷ q) e a = t ls new q e a
  back_both f f' g g' t h ls new (answers.Gives word ∷ q) e a = t ls new q e a
  back_both f f' g g' t h ls new (answers.Fails kind ∷ q) e a = h kind ls new q e a

module _ (k r room : ℕ) (le : k ≤ r) (lt : r < room) where
  -- an exit under another construct
  out_same : (l : ℕ) (x : Exit) (p : ℕ) (g1 g1' g2 g2' : Go) →
      ((n : ℕ) (ls : List ℕ) (q : Answers) → g2 (Left n) ls q ≡ g1 (Left n) ls q) →
      ((n : ℕ) (ls : List ℕ) (q : Answers) → g2 (Returned n) ls q ≡ g1 (Returned n) ls q) →
      ((ls : List ℕ) (q : Answers) → g2' (Left p) ls q ≡ g1' (Left p) ls q) →
      OutAt k r room l x p g1 g1' →
      OutAt k r room l x p g2 g2'
  out_same l (LeaveOut m) p g1 g1' g2 g2' en er el h = λ n ls new q o e a. el new q ∙ h n ls new q o e a ∙
      sym (en n ls q)
  out_same l ReturnOut p g1 g1' g2 g2' en er el h = λ w ls new q o e a. el new q ∙ h w ls new q o e a ∙ sym (er w ls q)

  later : (l j : ℕ) (xs ys : List Exit) (g g' : Go) →
      Goes k r room l j (xs ++ ys) g g' →
      Goes k r room l (j + length xs) ys g g'
  later l j xs ys g g' h = record {
    normal = h.normal;
    threw = h.threw;
    left = h.left;
    out = λ i p x e eq. h.out (length xs + i) p x (nth_after xs ys i (length xs + i) refl ∙ e) (omega arith);
  }

  first : (l j : ℕ) (xs ys : List Exit) (g g' : Go) → Goes k r room l j (xs ++ ys) g g' → Goes k r room l j xs g g'
  first l j xs ys g g' h = record {
    normal = h.normal;
    threw = h.threw;
    left = h.left;
    out = λ i p x e eq. h.out i p x (nth_first xs ys i x e) eq;
  }

  -- a statement before others
  normal_goes : (l j : ℕ) (xs : List Exit) (f f' : List ℕ → Answers → Course Completion) (g g' : Go) →
      Both k room f f' g g' →
      Goes k r room l j xs g g' →
      Goes k r room l j xs (λ c ls q. finish (on_normal f c ls q) g) (λ c ls q. finish (on_normal f' c ls q) g')
  normal_goes l j xs f f' g g' t h = record {
    normal = t;
    threw = h.threw;
    left = h.left;
    out = λ i p z ez eq. out_same l z p g g' _ _ (λ n ls q. refl) (λ n ls q. refl) (λ ls q. refl) (h.out i p z ez eq);
  }

  -- a loop
  module _ (l j : ℕ) (xs : List Exit) (c : List ℕ → Answers → Course (Outcome ℕ)) (t : Alike k c)
      (b b' : List ℕ → Answers → Course Completion) (done : (g g' : Go) → Goes k r room l j xs g g' →
      Both k room b b' g g') (g g' : Go) (h : Goes k r room l j xs g g') where
    module _ (f f' : List ℕ → Answers → Course Completion) (again : Both k room f f' g g') where
      body_ok : Goes k r room l j xs (λ c ls q. finish (on_body f c ls q) g) (λ c ls q. finish (on_body f' c ls q) g')
      body_ok = record {
        normal = back_both k room f f' g g' again h.threw;
        threw = h.threw;
        left = h.left;
        out = λ i p z ez eq. out_same l z p g g' _ _ (λ n ls q. refl) (λ n ls q. refl) (λ ls q. refl)
            (h.out i p z ez eq);
      }

      turn_ok : Both k room (one_turn c b f) (one_turn c b' f') g g'
      turn_ok = word_both k room c (λ w ls q. if nat_eq w 0 then Ends Normal ls q else finish (b ls q) (on_body f))
          (λ w ls q. if nat_eq w 0 then Ends Normal ls q else finish (b' ls q) (on_body f')) g g' t
          (λ w. if_both k room (nat_eq w 0) (λ ls q. Ends Normal ls q) (λ ls q. Ends Normal ls q)
          (λ ls q. finish (b ls q) (on_body f)) (λ ls q. finish (b' ls q) (on_body f')) g g' h.normal
          (λ ls new q e a. finish_finish (b' new q) (on_body f') g' ∙ done _ _ body_ok ls new q e a ∙
          sym (finish_finish (b ls q) (on_body f) g)))
          h.threw

    turns_ok : (n : ℕ) → Both k room (turns n c b) (turns n c b') g g'
    turns_ok zero = turn_ok (λ ls q. Asks act.Turn) (λ ls q. Asks act.Turn) (λ ls new q e a. refl)
    turns_ok (suc n) = turn_ok (turns n c b) (turns n c b') (turns_ok n)

  module _ (calls : Calls) where
    -- a leave beyond a statement's own numbers
    leaves_on : (xs : Statements) (n m : ℕ) (ls : List ℕ) (q : Answers) →
        n ≡ suc (count xs) + m →
        leave_to calls xs n ls q ≡ Ends (Left m) ls q
    leaves_on Done zero m ls q e = absurd (let z : ⊥ = omega arith in z)
    leaves_on Done (suc n) m ls q e = let z : n ≡ m = omega arith in ap (λ (i : ℕ). Ends (Left i) ls q) z
    leaves_on (Then x xs) zero m ls q e = absurd (let z : ⊥ = omega arith in z)
    leaves_on (Then x xs) (suc n) m ls q e = leaves_on xs n m ls q (omega arith)

    leave_out : (xs xs' : Statements) (l : ℕ) (x : Exit) (p p2 : ℕ) (g g' : Go) →
        count xs' ≡ count xs →
        p2 ≡ suc (count xs) + p →
        OutAt k r room l x p g g' →
        OutAt k r room (suc (count xs) + l) x p2 (λ c ls q. finish (on_leave (leave_to calls xs) c ls q) g)
        (λ c ls q. finish (on_leave (leave_to calls xs') c ls q) g')
    leave_out xs xs' l (LeaveOut m) p p2 g g' same eq h = λ n ls new q o e a.
        ap (λ x. finish x g') (leaves_on xs' p2 p new q (omega arith))
        ∙ h (l + m) ls new q refl e a
        ∙ sym (ap (λ x. finish x g) (leaves_on xs n (l + m) ls q (omega arith)))
    leave_out xs xs' l ReturnOut p p2 g g' same eq h = λ w ls new q o e a.
        ap (λ x. finish x g') (leaves_on xs' p2 p new q (omega arith)) ∙ h w ls new q o e a

    left_case : (l j n : ℕ) (o : Option ℕ) (ls new : List ℕ) (q : Answers) (g g' : Go) →
        outward l n ≡ o →
        length new ≡ room →
        Agree k ls new →
        Goes k r room l j (leave_exit o) g g' →
        finish (execute calls (or_leave o n (l + j)) new q) g' ≡ g (Left n) ls q
    left_case l j n None ls new q g g' e len a h = h.left n ls new q (inward l n e) len a
    left_case l j n (Some m) ls new q g g' e len a h = h.out 0 (l + j) (LeaveOut m) refl (omega arith) n ls new q
        (beyond l n m e) len a

    -- a value that is returned goes into its local, and then the leave
    returned_case : (l j : ℕ) (x : Expression) (g g' : Go) →
        IsBelow k x →
        Goes k r room l j (ReturnOut ∷ []) g g' →
        Both k room (execute calls (Return x)) (execute calls (replaced r l j (Return x))) g g'
    returned_case l j x g g' t h ls new q e a =
        finish_finish (execute calls (SetLocal r x) new q) _ g'
        ∙ finish_finish (evaluate calls x new q) _ _
        ∙ (found_alike calls k x t).is new ls new q (λ o ls q.
        finish (on_word (λ w ls q. Ends (Returned w) ls q) o ls q) g) _ a (above_refl k new)
        (record { goes = goes })
        ∙ sym (finish_finish (evaluate calls x ls q) (on_word (λ w ls q. Ends (Returned w) ls q)) g)
      where
        goes : (o : Outcome ℕ) (ls2 new2 : List ℕ) (q2 : Answers) →
            Agree k ls2 new2 →
            Above k new new2 →
            finish (on_word (λ w ls q. Ends Normal (slice_set ls r w) q) o new2 q2)
            (λ c ls q. finish (on_normal (execute_all calls (Then (Leave (l + j)) Done)) c ls q) g') ≡ finish
            (on_word (λ w ls q. Ends (Returned w) ls q) o ls2 q2) g
        goes (Results w) ls2 new2 q2 a2 u = h.out 0 (l + j) ReturnOut refl (omega arith) w ls2 (slice_set new2 r w) q2
            (get_or-set_same new2 r w 0 (omega (arith, u.long, e))) (length-set new2 r w ∙ u.long ∙ e)
            (agree_slot k r w ls2 new2 le a2)
        goes (Throws kind) ls2 new2 q2 a2 u = h.threw kind ls2 new2 q2 (u.long ∙ e) a2

    -- as many exits
    count_replaced : (l j : ℕ) (xs : Statements) → count (all_replaced r l j xs) ≡ count xs
    count_replaced l j Done = refl
    count_replaced l j (Then x xs) = ap suc (count_replaced l (j + length (exits l x)) xs)

    mutual
      -- a statement with leaves to exits in place of its ways out does what the statement does
      pub replaced_ok : (s : Statement) (l j : ℕ) (g g' : Go) →
          Fits k s →
          Goes k r room l j (exits l s) g g' →
          Both k room (execute calls s) (execute calls (replaced r l j s)) g g'
      replaced_ok (Block ss) l j g g' t h = all_replaced_ok ss l j g g' t h
      replaced_ok (SetLocal n e) l j g g' t h = word_both k room (evaluate calls e) _ _ g g' (found_alike calls k e t.1)
          (λ w ls new q e2 a. h.normal (slice_set ls n w) (slice_set new n w) q (length-set new n w ∙ e2)
          (agree_set k n w ls new t.0 a)) h.threw
      replaced_ok (SetField e f a) l j g g' t h = word_both k room _ _ _ g g' (field_alike calls k e a f t.0 t.1)
          (λ w. h.normal) h.threw
      replaced_ok (AddField e f a) l j g g' t h = word_both k room _ _ _ g g' (addition_alike calls k e a f t.0 t.1)
          (λ w. h.normal) h.threw
      replaced_ok (SetItem a i e) l j g g' t h = word_both k room _ _ _ g g' (item_alike calls k a i e t.0 t.1 t.2)
          (λ w. h.normal) h.threw
      replaced_ok (Evaluate e) l j g g' t h = word_both k room (evaluate calls e) _ _ g g' (found_alike calls k e t)
          (λ w. h.normal) h.threw
      replaced_ok (If e a b) l j g g' t h = word_both k room (evaluate calls e) _ _ g g' (found_alike calls k e t.0)
          (λ w. if_both k room (nat_eq w 0) (execute calls b) (execute calls (replaced r l (j + length (exits l a)) b))
          (execute calls a) (execute calls (replaced r l j a)) g g'
          (replaced_ok b l (j + length (exits l a)) g g' t.2 (later l j (exits l a) (exits l b) g g' h))
          (replaced_ok a l j g g' t.1 (first l j (exits l a) (exits l b) g g' h)))
          h.threw
      replaced_ok (While e s) l j g g' t h = λ ls new q. turns_ok l j (exits l s) (evaluate calls e)
          (found_alike calls k e t.0) (execute calls s) (execute calls (replaced r l j s))
          (λ g g' h. replaced_ok s l j g g' t.1 h) g g' h (length q) ls new q
      replaced_ok (Return x) l j g g' t h = returned_case l j x g g' t h
      replaced_ok (Try b f) l j g g' t h = absurd t
      replaced_ok (Throw n) l j g g' t h = λ ls new q e a. ap (λ w. finish (throw (kind_of w) new q) g') (a.at n t) ∙
          thrown_both k room (kind_of (slice_index ls n)) g g' h.threw ls new q e a
      replaced_ok (Guarded x n y) l j g g' t h = λ ls new q e a.
          finish_finish (execute calls (replaced r l j x) new q) _ g'
          ∙ replaced_ok x l j
          (λ c ls q. finish (on_throw (λ kind ls q. execute calls y (slice_set ls n (kind_word kind)) q) c ls q) g)
          (λ c ls q.
          finish (on_throw (λ kind ls q. execute calls (replaced r l (j + length (exits l x)) y)
          (slice_set ls n (kind_word kind)) q) c ls q) g') t.1
          (record {
            threw = λ kind ls new q e a. replaced_ok y l (j + length (exits l x)) g g' t.2
                (later l j (exits l x) (exits l y) g g' h) (slice_set ls n (kind_word kind))
                (slice_set new n (kind_word kind)) q (length-set new n (kind_word kind) ∙ e)
                (agree_set k n (kind_word kind) ls new t.0 a);
            normal = h.normal;
            left = h.left;
            out = λ i p z ez eq. out_same l z p g g' _ _ (λ n ls q. refl) (λ n ls q. refl) (λ ls q. refl)
                (h.out i p z (nth_first (exits l x) (exits l y) i z ez) eq);
          }) ls new q e a
          ∙ sym (finish_finish (execute calls x ls q) _ g)
      replaced_ok (Leavable b xs) l j g g' t h = λ ls new q e a.
          let inside : ℕ = suc (count xs) + l in
          let after : ℕ = j + length (exits inside b) in
          finish_finish (execute calls (replaced r inside j b) new q) _ g'
          ∙ replaced_ok b inside j (λ c ls q. finish (on_leave (leave_to calls xs) c ls q) g)
          (λ c ls q. finish (on_leave (leave_to calls (all_replaced r l after xs)) c ls q) g') t.0
          (record {
            normal = h.normal;
            threw = h.threw;
            left = λ n ls new q small e a. exits_ok xs n l after g g' t.1 small
                (later l j (exits inside b) (all_exits l xs) g g' h) ls new q e a;
            out = λ i p z ez eq. leave_out xs (all_replaced r l after xs) l z (l + j + i) p g g'
                (count_replaced l after xs) (omega arith) (h.out i (l + j + i) z
                (nth_first (exits inside b) (all_exits l xs) i z ez) refl);
          }) ls new q e a
          ∙ sym (finish_finish (execute calls b ls q) _ g)
      replaced_ok (Leave n) l j g g' t h = λ ls new q e a. left_case l j n (outward l n) ls new q g g' refl e a h

      all_replaced_ok : (ss : Statements) (l j : ℕ) (g g' : Go) →
          AllFit k ss →
          Goes k r room l j (all_exits l ss) g g' →
          Both k room (execute_all calls ss) (execute_all calls (all_replaced r l j ss)) g g'
      all_replaced_ok Done l j g g' t h = h.normal
      all_replaced_ok (Then s ss) l j g g' t h = λ ls new q e a.
          finish_finish (execute calls (replaced r l j s) new q) _ g'
          ∙ replaced_ok s l j _ _ t.0 (normal_goes l j (exits l s) (execute_all calls ss)
          (execute_all calls (all_replaced r l (j + length (exits l s)) ss)) g g'
          (all_replaced_ok ss l (j + length (exits l s)) g g' t.1 (later l j (exits l s) (all_exits l ss) g g' h))
          (first l j (exits l s) (all_exits l ss) g g' h)) ls new q e a
          ∙ sym (finish_finish (execute calls s ls q) (on_normal (execute_all calls ss)) g)

      -- a leave that the statement's own exits or its end take, or a number inside
      exits_ok : (xs : Statements) (n l j : ℕ) (g g' : Go) →
          AllFit k xs →
          n < suc (count xs) + l →
          Goes k r room l j (all_exits l xs) g g' →
          Both k room (leave_to calls xs n) (leave_to calls (all_replaced r l j xs) n) g g'
      exits_ok Done zero l j g g' t small h = h.normal
      exits_ok Done (suc n) l j g g' t small h = λ ls new q e a. h.left n ls new q (omega arith) e a
      exits_ok (Then x xs) zero l j g g' t small h = λ ls new q e a.
          replaced_ok x l j g g' t.0 (first l j (exits l x) (all_exits l xs) g g' h) ls new q e a
      exits_ok (Then x xs) (suc n) l j g g' t small h = λ ls new q e a.
          exits_ok xs n l (j + length (exits l x)) g g' t.1 (omega arith)
          (later l j (exits l x) (all_exits l xs) g g' h) ls new q e a
