-- The code of a statement asks for what the statement asks for, and completes as it does: by induction on the tree.
use Rattle.std.proofs.Common.{◌≡◌, ℕ, zero, suc, ◌+◌, ◌<◌, ◌≤◌, List, [], ◌∷◌, ◌++◌, length, Some, inr, refl, sym}
use Rattle.std.proofs.Common.{subst, arith, slice_index, slice_set, nat_eq, if◌then◌else◌}
use Rattle.ls_events.specs.declared.kind.Kind.{Kind}
use Rattle.ls_events.specs.declared.action.Action.TheVariants as act
use Rattle.ls_code.specs.declared.code.HandlerRow.{HandlerRow}
use Rattle.ls_code.specs.declared.instruction.Instruction.TheVariants as op
use Rattle.ls_code.specs.declared.instruction.Resume.TheVariants as then
use Rattle.ls_code.specs.Throws.{kind_word}
use Rattle.ls_code.specs.Fed.{Fed}
use Rattle.ls_lowered.specs.LoweredTree.{Expression, Statement, Block, SetLocal, SetField, AddField, SetItem, Evaluate}
use Rattle.ls_lowered.specs.LoweredTree.{If, While, Return, Try, Guarded, Throw, Leavable, Leave, Statements, Done}
use Rattle.ls_lowered.specs.LoweredTree.{Then}
use Rattle.ls_lowered.specs.Words.{int_of}
use Rattle.ls_lowered.specs.declared.tree.BinaryOperator.TheVariants as binary
use Rattle.ls_lowered.specs.Course.{Answers, Course, Asks, Ends, finish, and_then, ask, perform, unless_null}
use Rattle.ls_lowered.specs.Expressions.{operate, evaluate}
use Rattle.ls_lowered.specs.Statements.{Completion, Normal, Returned, Threw, Left, on_body, turn_back, one_turn, turns}
use Rattle.ls_lowered.specs.Statements.{execute, execute_all, leave_to}
use Rattle.ls_emit.specs.Expressions.{size, code}
use Rattle.ls_emit.specs.Needs.{statement_need, statements_need}
use Rattle.ls_emit.specs.Emittable.{IsEmittableStatement, AreEmittableStatements}
use Rattle.ls_emit.specs.Statements.{Targets, target_of, statement_size, statements_size, exits_size, places}
use Rattle.ls_emit.specs.Statements.{statement_code, statements_code, exits_code, row_of, statement_rows}
use Rattle.ls_emit.specs.Statements.{statements_rows, exits_rows}
use Rattle.ls_emit.proofs.Places.{HasAt, has_front, has_after, has_two, has_three, has_at}
use Rattle.ls_emit.proofs.Told.{out, out_then, Go, end, end_word, end_normal, end_thrown, end_left, end_body}
use Rattle.ls_emit.proofs.Told.{if_normal, if_thrown, if_left}
use Rattle.ls_emit.proofs.Steps.{Setting, here, Reaches, renamed, later, at_place}
use Rattle.ls_emit.proofs.Runs.{dup_run, load_run, pop_run, store_run, jump_run, branch_run, binary_run}
use Rattle.ls_emit.proofs.ExpressionCode.{EnterRuns, first_run, two_run, behind, behind_two, object_run}
use Rattle.ls_emit.proofs.ExpressionRuns.{runs}
use Rattle.ls_emit.proofs.StatementPlaces.{statement_size_is, targets_within, NoRow, no_row-append, rows_before}
use Rattle.ls_emit.proofs.StatementPlaces.{rows_past, all_before, exits_before}
use Rattle.ls_emit.proofs.Exits.{Exits, ending_at, narrowed, others_normal, others_thrown, others_left, catches_by}
use Rattle.ls_emit.proofs.Exits.{Owns, owns_front, owns_back, caught_at}
use Rattle.ls_emit.proofs.StatementCode.{word_run, object_does, leave_run, throw_run, Again, turn_run}

module _ (s : Setting) where
  abbrev pub Executes : Statement → Targets → ℕ → Type 0
  Executes a t p = (ls : List ℕ) (q : Answers) (g : Go) → HasAt s.code.instructions p (statement_code t p a) →
      IsEmittableStatement s.file s.wide (length t) a → statement_need a ≤ s.base.top.need →
      p + statement_size a ≤ s.budget → Owns s p (p + statement_size a) (statement_rows p a) → length ls ≡ s.wide →
      Exits s p (p + statement_size a) (statement_rows p a) t q g →
      Reaches s p (Some (here s p ls [])) q (end (execute s.calls a ls q) g)

  abbrev pub AllExecute : Statements → Targets → ℕ → Type 0
  AllExecute bs t p = (ls : List ℕ) (q : Answers) (g : Go) → HasAt s.code.instructions p (statements_code t p bs) →
      AreEmittableStatements s.file s.wide (length t) bs → statements_need bs ≤ s.base.top.need →
      p + statements_size bs ≤ s.budget → Owns s p (p + statements_size bs) (statements_rows p bs) →
      length ls ≡ s.wide → Exits s p (p + statements_size bs) (statements_rows p bs) t q g →
      Reaches s p (Some (here s p ls [])) q (end (execute_all s.calls bs ls q) g)

  -- a leave to one of these exits, which begin at p, and further out
  abbrev pub LeavesTo : Statements → Targets → (stop p : ℕ) → Type 0
  LeavesTo xs t stop p = (n : ℕ) (ls : List ℕ) (q : Answers) (g : Go) → n < length (places p xs ++ t) →
      HasAt s.code.instructions p (exits_code t stop p xs) → AreEmittableStatements s.file s.wide (length t) xs →
      statements_need xs ≤ s.base.top.need → p + exits_size xs ≤ s.budget → stop ≡ p + exits_size xs →
      Owns s p (p + exits_size xs) (exits_rows p xs) → length ls ≡ s.wide →
      Exits s p (p + exits_size xs) (exits_rows p xs) t q g →
      Reaches s p (Some (here s (target_of (places p xs ++ t) n) ls [])) q (end (leave_to s.calls xs n ls q) g)

  -- what ends before exits goes on after them
  past_exits : (xs : Statements) (t : Targets) (stop p : ℕ) (ls : List ℕ) (q : Answers) (o : Fed) →
      HasAt s.code.instructions p (exits_code t stop p xs) →
      p + exits_size xs ≤ s.budget →
      stop ≡ p + exits_size xs →
      Reaches s stop (Some (here s stop ls [])) q o →
      Reaches s p (Some (here s p ls [])) q o
  past_exits Done t stop p ls q o has le is r = at_place s stop p ls [] q o (omega arith) r
  past_exits (Then a xs) t stop p ls q o has le is r =
      jump_run s p stop ls [] q o has.0 (omega arith) (later s stop (p + 1) (Some (here s stop ls [])) q o (omega arith)
      r)

  -- the exits of the last part of a statement, from p1 on
  last : (p p' p1 p1' : ℕ) (own own1 : List HandlerRow) (t : Targets) (q q1 : Answers) (g : Go) →
      p ≤ p1 →
      p' ≡ p1' →
      length q1 ≤ length q →
      ((c : ℕ) → p1 ≤ c → c < p1' → NoRow c own1 → NoRow c own) →
      Exits s p p' own t q g →
      Exits s p1 p1' own1 t q1 g
  last p p' p1 p1' own own1 t q q1 g lp e lq rows x = record {
    normal = ending_at s p' p1' q q1 g e lq x.normal;
    others = narrowed s p p' p1 p1' own own1 t q q1 g lp (omega arith) lq rows x.others;
  }

  module _ (enter : EnterRuns s) where
    -- one turn of a loop, and what follows
    one_run : (e : Expression) (a : Statement) (p : ℕ) (t : Targets) (again : List ℕ → Answers → Course Completion)
        (ls : List ℕ) (q : Answers) (g : Go) →
        Executes a t (p + size e + 1) →
        HasAt s.code.instructions p (statement_code t p (While e a)) →
        IsEmittableStatement s.file s.wide (length t) (While e a) →
        statement_need (While e a) ≤ s.base.top.need →
        p + statement_size (While e a) ≤ s.budget →
        Owns s p (p + statement_size (While e a)) (statement_rows (p + size e + 1) a) →
        length ls ≡ s.wide →
        Exits s p (p + statement_size (While e a)) (statement_rows (p + size e + 1) a) t q g →
        Again s p q again g →
        Reaches s p (Some (here s p ls [])) q (end (one_turn (evaluate s.calls e) (execute s.calls a) again ls q) g)
    one_run e a p t again ls q g body has0 fits room le owns el x more =
        let c = p + size e in
        let pb = c + 1 in
        let stop = p + size e + statement_size a + 2 in
        let p' = p + (size e + statement_size a + 2) in
        let end_b = pb + statement_size a in
        let own = statement_rows pb a in
        let has = has_two s.code.instructions p (code p e) (op.JumpIfFalse stop ∷ statement_code t pb a)
        (op.Turn p ∷ []) has0 in
        let back = behind s e p (op.JumpIfFalse stop ∷ (statement_code t pb a ++ op.Turn p ∷ [])) has in
        let at_turn = has_after s.code.instructions pb (statement_size a) (statement_code t pb a) (op.Turn p ∷ [])
        (statement_size_is a t pb) back.1 in
        word_run s enter e p _ (λ w ls q. if nat_eq w 0 then Ends Normal ls q else
        finish (execute s.calls a ls q) (on_body again)) ls q p' own t g has fits.0 (omega arith) (omega arith)
        (omega arith) (λ d l1 l2. rows_before a pb d (omega arith)) el x.others
        (λ w ls1 q1 e1 l1.
        let others1 = narrowed s p p' pb end_b own own t q q1 g (omega arith) (omega arith) l1 (λ d m1 m2 free. free)
        x.others in
        let turns_on = λ (ls2 : List ℕ) (q2 : Answers) (e2 : length ls2 ≡ s.wide) (l2 : length q2 ≤ length q1).
        turn_run s end_b p again ls2 q2 g at_turn.0 e2
        (λ kind rest l3. x.others.threw kind end_b ls2 [] rest (omega arith) (omega arith)
        (rows_past a pb end_b (omega arith)) e2 (omega arith))
        (λ ls3 rest e3 l3. more ls3 rest e3 (omega arith)) in
        branch_run s (λ y. end y g) (Ends Normal ls1 q1) (finish (execute s.calls a ls1 q1) (on_body again)) c stop w
        ls1 [] q1 back.0 (omega arith)
        (later s stop (c + 1) (Some (here s stop ls1 [])) q1 (g Normal ls1 q1) (omega arith)
        (ending_at s p' stop q q1 g (omega arith) l1 x.normal ls1 q1 e1 (omega arith)))
        (renamed s pb ls1 [] q1 _ _ (sym (end_body (execute s.calls a ls1 q1) again g))
        (body ls1 q1 (if_normal g (λ ls q. end (turn_back again ls q) g))
        (has_front s.code.instructions pb (statement_code t pb a) (op.Turn p ∷ []) back.1) fits.1 (omega arith)
        (omega arith)
        (λ d m1 m2. owns d (omega arith) (omega arith)) e1
        (record {
          normal = turns_on;
          others = others_normal s pb end_b own t q1 g (λ ls q. end (turn_back again ls q) g)
              others1;
        }))))

    loop_run : (e : Expression) (a : Statement) (p : ℕ) (t : Targets) →
        Executes a t (p + size e + 1) →
        (n : ℕ) (ls : List ℕ) (q : Answers) (g : Go) →
        length q ≤ n →
        HasAt s.code.instructions p (statement_code t p (While e a)) →
        IsEmittableStatement s.file s.wide (length t) (While e a) →
        statement_need (While e a) ≤ s.base.top.need →
        p + statement_size (While e a) ≤ s.budget →
        Owns s p (p + statement_size (While e a)) (statement_rows (p + size e + 1) a) →
        length ls ≡ s.wide →
        Exits s p (p + statement_size (While e a)) (statement_rows (p + size e + 1) a) t q g →
        Reaches s p (Some (here s p ls [])) q (end (turns n (evaluate s.calls e) (execute s.calls a) ls q) g)
    loop_run e a p t body zero ls q g few has fits room le owns el x =
        one_run e a p t (λ ls q. Asks act.Turn) ls q g body has fits room le owns el x
        (λ ls1 rest e1 l1. absurd (let f : ⊥ = omega arith in f))
    loop_run e a p t body (suc n) ls q g few has fits room le owns el x =
        let p' = p + statement_size (While e a) in
        one_run e a p t (turns n (evaluate s.calls e) (execute s.calls a)) ls q g body has fits room le owns el x
        (λ ls1 rest e1 l1. loop_run e a p t body n ls1 rest g (omega arith) has fits room le owns e1
        (last p p' p p' _ _ t q rest g (omega arith) refl (omega arith) (λ c l2 l3 free. free) x))

    guarded_run : (a : Statement) (n : ℕ) (b : Statement) (p : ℕ) (t : Targets) →
        Executes a t p →
        Executes b t (p + statement_size a + 2) →
        Executes (Guarded a n b) t p
    guarded_run a n b p t ra rb ls q g has fits room le owns el x =
        let sa = statement_size a in
        let pb = p + sa + 2 in
        let p' = p + (sa + statement_size b + 2) in
        let over = p + sa + statement_size b + 2 in
        let rows_a = statement_rows p a in
        let rows_b = statement_rows pb b in
        let own = rows_a ++ (row_of p sa ∷ rows_b) in
        let back = has_after s.code.instructions p sa (statement_code t p a)
        (op.Jump over ∷ op.Store n ∷ statement_code t pb b) (statement_size_is a t p) has in
        let code_b = has_at s.code.instructions (p + sa + 1 + 1) pb (statement_code t pb b) (omega arith) back.1.1 in
        let on = λ (kind : Kind) (ls1 : List ℕ) (q1 : Answers).
        end (execute s.calls b (slice_set ls1 n (kind_word kind)) q1) g in
        let free_b = λ (c : ℕ) (l1 : pb ≤ c) (l2 : c < pb + statement_size b) (free : NoRow c rows_b).
        no_row-append c rows_a (row_of p sa ∷ rows_b) (rows_past a p c (omega arith)) (inr (omega arith), free)
        in
        let owns_b = owns_back s pb p' pb (pb + statement_size b) (row_of p sa ∷ []) rows_b (omega arith) (omega arith)
        (λ c l1 l2. (inr (omega arith), tt)) (owns_back s p p' pb p' rows_a (row_of p sa ∷ rows_b) (omega arith)
        (omega arith) (λ c l1 l2. rows_past a p c (omega arith)) owns) in
        let handle = λ (kind : Kind) (ls1 : List ℕ) (rest : Answers) (e1 : length ls1 ≡ s.wide) (l : length rest ≤
        length q).
        (let ls2 = slice_set ls1 n (kind_word kind) in
        store_run s (p + sa + 1) n (kind_word kind) ls1 [] rest (on kind ls1 rest) back.1.0 fits.0 e1 (omega arith)
        (λ e2. at_place s pb (p + sa + 1 + 1) ls2 [] rest (on kind ls1 rest) (omega arith)
        (rb ls2 rest g code_b fits.2 (omega arith) (omega arith) owns_b e2
        (last p p' pb (pb + statement_size b) own rows_b t q rest g (omega arith) (omega arith) l free_b x)))) in
        renamed s p ls [] q _ _
        (sym (end_thrown (execute s.calls a ls q) (λ kind ls q.
        execute s.calls b (slice_set ls n (kind_word kind)) q) g))
        (ra ls q (if_thrown g on) (has_front s.code.instructions p (statement_code t p a) _ has) fits.1 (omega arith)
        (omega arith) (owns_front s p p' p (p + sa) rows_a (row_of p sa ∷ rows_b) (omega arith) (omega arith) owns)
        el
        (record {
          normal = λ ls1 rest e1 l1. jump_run s (p + sa) over ls1 [] rest (g Normal ls1 rest) back.0 (omega arith)
              (later s over (p + sa + 1) (Some (here s over ls1 [])) rest (g Normal ls1 rest) (omega arith)
              (ending_at s p' over q q g (omega arith) (omega arith) x.normal ls1 rest e1 l1));
          others = others_thrown s p (p + sa) own rows_a t q g on
              (narrowed s p p' p (p + sa) own own t q q g (omega arith) (omega arith) (omega arith)
              (λ c l1 l2 free. free) x.others)
              (λ kind c ls1 ops rest l1 l2 free e1 l3. subst (λ u. Reaches s (c + 1) u rest (on kind ls1 rest))
              (sym (caught_at s kind p c sa rows_a rows_b p' ls1 ops l1 l2 (omega arith) free (omega arith) owns))
              (later s (p + sa + 1) (c + 1) (Some (here s (p + sa + 1) ls1 (kind_word kind ∷ []))) rest
              (on kind ls1 rest) (omega arith) (handle kind ls1 rest e1 l3)));
        }))

    mutual
      -- the code of each statement does what its course says
      pub executes : (a : Statement) (t : Targets) (p : ℕ) → Executes a t p
      executes (Block bs) t p ls q g has fits room le owns el x = all_execute bs t p ls q g has fits room le owns el x
      executes (SetLocal n e) t p ls q g has fits room le owns el x =
          let c = p + size e in
          let p' = p + (size e + 1) in
          word_run s enter e p (op.Store n ∷ []) (λ w ls q. Ends Normal (slice_set ls n w) q) ls q p' [] t g has fits.1
          room (omega arith) (omega arith) (λ d l1 l2. tt) el x.others
          (λ w ls1 q1 e1 l1. store_run s c n w ls1 [] q1 (g Normal (slice_set ls1 n w) q1)
          (behind s e p (op.Store n ∷ []) has).0 fits.0 e1 (omega arith)
          (λ e2. ending_at s p' (c + 1) q q g (omega arith) (omega arith) x.normal (slice_set ls1 n w) q1 e2 l1))
      executes (SetField e f a) t p ls q g has0 fits room le owns el x =
          let c = p + size e + size a in
          let p' = p + (size e + size a + 1) in
          let has = has_two s.code.instructions p (code p e) (code (p + size e) a) (op.PutField (f + 1) ∷ []) has0 in
          renamed s p ls [] q _ _
          (sym (end_word (and_then (evaluate s.calls e ls q)
          (λ y ls q. and_then (evaluate s.calls a ls q) (λ z ls q.
          unless_null y ls q (perform (act.WriteField y (f + 1) z) ls q)))) (λ w ls q. Ends Normal ls q) g))
          (two_run s e a p (op.PutField (f + 1) ∷ []) (λ y z ls q.
          unless_null y ls q (perform (act.WriteField y (f + 1) z) ls q)) ls [] q (λ w ls q. g Normal ls q)
          (λ kind ls q. g (Threw kind) ls q) (runs s enter e p) (runs s enter a (p + size e)) has fits.1 fits.2
          (omega arith) (omega arith) el
          (catches_by s p p' p c [] t q q g (omega arith) (omega arith) (omega arith) (λ d l1 l2. tt) x.others)
          (λ y z ls1 q1 e1 l1. object_does s (act.WriteField y (f + 1) z) (then.Discard 2) c (op.PutField (f + 1)) y ls1
          (z ∷ y ∷ []) q1 (λ w ls q. g Normal ls q) (λ kind ls q. g (Threw kind) ls q)
          (behind_two s e a p (op.PutField (f + 1) ∷ []) has).0 refl (λ w. refl) (omega arith) e1
          (λ rest l2. ending_at s p' (c + 1) q q g (omega arith) (omega arith) x.normal ls1 rest e1 (omega arith))
          (catches_by s p p' c (c + 1) [] t q q1 g (omega arith) (omega arith) l1 (λ d m1 m2. tt) x.others)))
      executes (AddField e f a) t p ls q g has0 fits room le owns el ex =
          let c = p + size e in
          let pa = c + 2 in
          let d = pa + size a in
          let p' = p + (size e + size a + 4) in
          let has = has_two s.code.instructions p (code p e) (op.Dup ∷ op.GetField (f + 1) ∷ code pa a)
          (op.Add ∷ op.PutField (f + 1) ∷ []) has0 in
          let back = behind s e p _ has in
          let has_a = has_at s.code.instructions (c + 1 + 1) pa (code pa a ++ op.Add ∷ op.PutField (f + 1) ∷ [])
          (omega arith) back.1.1 in
          let at_add = behind s a pa (op.Add ∷ op.PutField (f + 1) ∷ []) has_a in
          let go = λ (w : ℕ) (ls : List ℕ) (q : Answers). g Normal ls q in
          let h = λ (kind : Kind) (ls : List ℕ) (q : Answers). g (Threw kind) ls q in
          let written = λ (x w : ℕ) (ls : List ℕ) (q : Answers).
          unless_null x ls q (perform (act.WriteField x (f + 1) w) ls q) in
          let summed = λ (x y z : ℕ) (ls : List ℕ) (q : Answers). and_then (operate binary.Add y z ls q) (written x) in
          let added = λ (x y : ℕ) (ls : List ℕ) (q : Answers). and_then (evaluate s.calls a ls q) (summed x y) in
          let read = λ (x : ℕ) (ls : List ℕ) (q : Answers). and_then
          (unless_null x ls q (ask (act.ReadField x (f + 1)) ls q)) (added x) in
          renamed s p ls [] q _ _
          (sym (end_word (and_then (evaluate s.calls e ls q) read) (λ w ls q. Ends Normal ls q) g))
          (first_run s e p (op.Dup ∷ op.GetField (f + 1) ∷ (code pa a ++ op.Add ∷ op.PutField (f + 1) ∷ [])) read ls []
          q go h (runs s enter e p) has fits.1 (omega arith) (omega arith) el
          (catches_by s p p' p c [] t q q g (omega arith) (omega arith) (omega arith) (λ d l1 l2. tt) ex.others)
          (λ x ls1 q1 e1 l1. dup_run s c x ls1 [] q1 _ back.0 (omega arith) (omega arith)
          (renamed s (c + 1) ls1 (x ∷ x ∷ []) q1 _ _
          (sym (out_then (unless_null x ls1 q1 (ask (act.ReadField x (f + 1)) ls1 q1)) (added x) go h))
          (object_run s (act.ReadField x (f + 1)) (then.Settle 1) (c + 1) (op.GetField (f + 1)) x ls1 (x ∷ x ∷ [])
          (x ∷ []) q1 (λ y ls q. out (added x y ls q) go h) h back.1.0 refl (λ w. refl) (omega arith) e1
          (λ y ls2 q2 e2 l2. at_place s pa (c + 1 + 1) ls2 (y ∷ x ∷ []) q2 _ (omega arith)
          (first_run s a pa (op.Add ∷ op.PutField (f + 1) ∷ []) (summed x y) ls2 (y ∷ x ∷ []) q2 go h
          (runs s enter a pa) has_a fits.2 (omega arith) (omega arith) e2
          (catches_by s p p' pa d [] t q q2 g (omega arith) (omega arith) (omega arith) (λ d m1 m2. tt) ex.others)
          (λ z ls3 q3 e3 l3. renamed s d ls3 (z ∷ y ∷ x ∷ []) q3 _ _
          (sym (out_then (operate binary.Add y z ls3 q3) (written x) go h))
          (binary_run s binary.Add d y z ls3 (x ∷ []) q3 (λ w ls q. out (written x w ls q) go h) h at_add.0
          (omega arith) e3
          (λ w ls4 q4 e4 l4. object_does s (act.WriteField x (f + 1) w) (then.Discard 2) (d + 1) (op.PutField (f + 1)) x
          ls4 (w ∷ x ∷ []) q4 go h at_add.1.0 refl (λ w. refl) (omega arith) e4
          (λ rest l5. ending_at s p' (d + 1 + 1) q q g (omega arith) (omega arith) ex.normal ls4 rest e4 (omega arith))
          (catches_by s p p' (d + 1) (d + 1 + 1) [] t q q4 g (omega arith) (omega arith) (omega arith) (λ d m1 m2. tt)
          ex.others))
          (catches_by s p p' d (d + 1) [] t q q3 g (omega arith) (omega arith) (omega arith) (λ d m1 m2. tt)
          ex.others)))))
          (catches_by s p p' (c + 1) (c + 1 + 1) [] t q q1 g (omega arith) (omega arith) (omega arith) (λ d m1 m2. tt)
          ex.others)))))
      executes (SetItem a i e) t p ls q g has0 fits room le owns el x =
          let c = p + size a + size i + size e in
          let p' = p + (size a + size i + size e + 1) in
          let has = has_three s.code.instructions p (code p a) (code (p + size a) i) (code (p + size a + size i) e)
          (op.PutItem ∷ []) has0 in
          let back = behind s a p _ has in
          let go = λ (w : ℕ) (ls : List ℕ) (q : Answers). g Normal ls q in
          let h = λ (kind : Kind) (ls : List ℕ) (q : Answers). g (Threw kind) ls q in
          renamed s p ls [] q _ _
          (sym (end_word (and_then (evaluate s.calls a ls q)
          (λ y ls q. and_then (evaluate s.calls i ls q) (λ n ls q.
          and_then (evaluate s.calls e ls q) (λ z ls q. unless_null y ls q
          (perform (act.WriteItem y (int_of n) z) ls q))))) (λ w ls q. Ends Normal ls q) g))
          (first_run s a p _ (λ y ls q. and_then (evaluate s.calls i ls q)
          (λ n ls q. and_then (evaluate s.calls e ls q) (λ z ls q.
          unless_null y ls q (perform (act.WriteItem y (int_of n) z) ls q)))) ls [] q go h (runs s enter a p) has
          fits.0 (omega arith) (omega arith) el
          (catches_by s p p' p (p + size a) [] t q q g (omega arith) (omega arith) (omega arith) (λ d l1 l2. tt)
          x.others)
          (λ y ls0 q0 e0 l0. two_run s i e (p + size a) (op.PutItem ∷ [])
          (λ n z ls q. unless_null y ls q (perform (act.WriteItem y (int_of n) z) ls q)) ls0 (y ∷ []) q0 go h
          (runs s enter i (p + size a)) (runs s enter e (p + size a + size i)) back fits.1 fits.2 (omega arith)
          (omega arith) e0
          (catches_by s p p' (p + size a) c [] t q q0 g (omega arith) (omega arith) l0 (λ d l1 l2. tt) x.others)
          (λ n z ls1 q1 e1 l1. object_does s (act.WriteItem y (int_of n) z) (then.Discard 3) c op.PutItem y ls1
          (z ∷ n ∷ y ∷ []) q1 go h (behind_two s i e (p + size a) (op.PutItem ∷ []) back).0 refl (λ w. refl)
          (omega arith) e1
          (λ rest l2. ending_at s p' (c + 1) q q g (omega arith) (omega arith) x.normal ls1 rest e1 (omega arith))
          (catches_by s p p' c (c + 1) [] t q q1 g (omega arith) (omega arith) (omega arith) (λ d m1 m2. tt)
          x.others))))
      executes (Evaluate e) t p ls q g has fits room le owns el x =
          let c = p + size e in
          let p' = p + (size e + 1) in
          word_run s enter e p (op.Pop ∷ []) (λ w ls q. Ends Normal ls q) ls q p' [] t g has fits room (omega arith)
          (omega arith) (λ d l1 l2. tt) el x.others
          (λ w ls1 q1 e1 l1. pop_run s c w ls1 [] q1 (g Normal ls1 q1) (behind s e p (op.Pop ∷ []) has).0 (omega arith)
          (ending_at s p' (c + 1) q q g (omega arith) (omega arith) x.normal ls1 q1 e1 l1))
      executes (If e a b) t p ls q g has0 fits room le owns el x =
          let c = p + size e in
          let pa = c + 1 in
          let end_a = pa + statement_size a in
          let pb = p + size e + statement_size a + 2 in
          let over = p + size e + statement_size a + statement_size b + 2 in
          let p' = p + (size e + statement_size a + statement_size b + 2) in
          let rows_a = statement_rows pa a in
          let rows_b = statement_rows pb b in
          let own = rows_a ++ rows_b in
          let has = has_two s.code.instructions p (code p e) (op.JumpIfFalse pb ∷ statement_code t pa a)
          (op.Jump over ∷ statement_code t pb b) has0 in
          let back = behind s e p _ has in
          let behind_a = has_after s.code.instructions pa (statement_size a) (statement_code t pa a) _
          (statement_size_is a t pa) back.1 in
          let code_b = has_at s.code.instructions (end_a + 1) pb (statement_code t pb b) (omega arith) behind_a.1 in
          word_run s enter e p _ (λ w ls q. if nat_eq w 0 then execute s.calls b ls q else execute s.calls a ls q) ls q
          p' own t g has fits.0 (omega arith) (omega arith) (omega arith)
          (λ d l1 l2. no_row-append d rows_a rows_b (rows_before a pa d (omega arith))
          (rows_before b pb d (omega arith))) el x.others
          (λ w ls1 q1 e1 l1. branch_run s (λ y. end y g) (execute s.calls b ls1 q1) (execute s.calls a ls1 q1) c pb w
          ls1 [] q1 back.0 (omega arith)
          (later s pb (c + 1) (Some (here s pb ls1 [])) q1 (end (execute s.calls b ls1 q1) g) (omega arith)
          (executes b t pb ls1 q1 g code_b fits.2 (omega arith) (omega arith)
          (owns_back s p p' pb (pb + statement_size b) rows_a rows_b (omega arith) (omega arith)
          (λ d m1 m2. rows_past a pa d (omega arith)) owns) e1
          (last p p' pb (pb + statement_size b) own rows_b t q q1 g (omega arith) (omega arith) l1
          (λ d m1 m2 free. no_row-append d rows_a rows_b (rows_past a pa d (omega arith)) free) x)))
          (executes a t pa ls1 q1 g (has_front s.code.instructions pa (statement_code t pa a) _ back.1) fits.1
          (omega arith) (omega arith) (owns_front s p p' pa end_a rows_a rows_b (omega arith) (omega arith) owns) e1
          (record {
            normal = λ ls2 q2 e2 l2. jump_run s end_a over ls2 [] q2 (g Normal ls2 q2) behind_a.0 (omega arith)
                (later s over (end_a + 1) (Some (here s over ls2 [])) q2 (g Normal ls2 q2) (omega arith)
                (ending_at s p' over q q1 g (omega arith) l1 x.normal ls2 q2 e2 l2));
            others = narrowed s p p' pa end_a own rows_a t q q1 g (omega arith) (omega arith) l1
                (λ d m1 m2 free. no_row-append d rows_a rows_b free (rows_before b pb d (omega arith))) x.others;
          })))
      executes (While e a) t p ls q g has fits room le owns el x =
          loop_run e a p t (executes a t (p + size e + 1)) (length q) ls q g (omega arith) has fits room le owns el x
      executes (Return e) t p ls q g has fits room le owns el x =
          let c = p + size e in
          let p' = p + (size e + 1) in
          word_run s enter e p (op.LeaveWith ∷ []) (λ w ls q. Ends (Returned w) ls q) ls q p' [] t g has fits room
          (omega arith) (omega arith) (λ d l1 l2. tt) el x.others
          (λ w ls1 q1 e1 l1. leave_run s c w ls1 [] q1 (g (Returned w) ls1 q1) (behind s e p (op.LeaveWith ∷ []) has).0
          (omega arith)
          (x.others.returned w c ls1 (w ∷ []) q1 (omega arith) (omega arith) e1 l1))
      executes (Try a b) t p ls q g has fits room le owns el x = absurd fits
      executes (Guarded a n b) t p ls q g has fits room le owns el x =
          guarded_run a n b p t (executes a t p) (executes b t (p + statement_size a + 2)) ls q g has fits room le owns
          el x
      executes (Throw n) t p ls q g has fits room le owns el x =
          load_run s p n ls [] q _ has.0 fits el (omega arith) (omega arith)
          (throw_run s (p + 1) (slice_index ls n) ls q g has.1.0 (omega arith)
          (λ kind. x.others.threw kind (p + 1) ls (slice_index ls n ∷ []) q (omega arith) (omega arith) tt el
          (omega arith)))
      executes (Leavable a xs) t p ls q g has fits room le owns el x =
          let sa = statement_size a in
          let pe = p + sa in
          let stop = p + sa + exits_size xs in
          let p' = p + (sa + exits_size xs) in
          let t' = places pe xs ++ t in
          let rows_a = statement_rows p a in
          let rows_x = exits_rows pe xs in
          let own = rows_a ++ rows_x in
          let back = has_after s.code.instructions p sa (statement_code t' p a) (exits_code t stop pe xs)
          (statement_size_is a t' p) has in
          let fits_a : IsEmittableStatement s.file s.wide (length t') a = subst
          (λ n. IsEmittableStatement s.file s.wide n a) (sym (targets_within xs t pe)) fits.0 in
          let on = λ (n : ℕ) (ls1 : List ℕ) (q1 : Answers). end (leave_to s.calls xs n ls1 q1) g in
          let leaves = λ (n : ℕ) (ls1 : List ℕ) (q1 : Answers) (ln : n < length t') (e1 : length ls1 ≡ s.wide) (l1 :
          length q1 ≤ length q).
          leaves_to xs t stop pe n ls1 q1 g ln back fits.1 (omega arith) (omega arith) (omega arith)
          (owns_back s p p' pe (pe + exits_size xs) rows_a rows_x (omega arith) (omega arith)
          (λ d m1 m2. rows_past a p d m1) owns) e1
          (last p p' pe (pe + exits_size xs) own rows_x t q q1 g (omega arith) (omega arith) l1
          (λ d m1 m2 free. no_row-append d rows_a rows_x (rows_past a p d m1) free) x) in
          renamed s p ls [] q _ _ (sym (end_left (execute s.calls a ls q) (leave_to s.calls xs) g))
          (executes a t' p ls q (if_left g on) (has_front s.code.instructions p (statement_code t' p a) _ has) fits_a
          (omega arith) (omega arith) (owns_front s p p' p pe rows_a rows_x (omega arith) (omega arith) owns) el
          (record {
            normal = λ ls1 q1 e1 l1. past_exits xs t stop pe ls1 q1 (g Normal ls1 q1) back (omega arith) (omega arith)
                (ending_at s p' stop q q g (omega arith) (omega arith) x.normal ls1 q1 e1 l1);
            others = others_left s p pe rows_a t t' q g on (narrowed s p p' p pe own rows_a t q q g (omega arith)
                (omega arith) (omega arith) (λ d m1 m2 free.
                no_row-append d rows_a rows_x free (exits_before xs pe d m2)) x.others) leaves;
          }))
      executes (Leave n) t p ls q g has fits room le owns el x =
          jump_run s p (target_of t n) ls [] q (g (Left n) ls q) has.0 (omega arith)
          (x.others.left n ls q fits el (omega arith))

      pub all_execute : (bs : Statements) (t : Targets) (p : ℕ) → AllExecute bs t p
      all_execute Done t p ls q g has fits room le owns el x =
          at_place s (p + 0) p ls [] q (g Normal ls q) (omega arith) (x.normal ls q el (omega arith))
      all_execute (Then a bs) t p ls q g has fits room le owns el x =
          let pb = p + statement_size a in
          let p' = p + (statement_size a + statements_size bs) in
          let rows_a = statement_rows p a in
          let rows_b = statements_rows pb bs in
          let own = rows_a ++ rows_b in
          let back = has_after s.code.instructions p (statement_size a) (statement_code t p a) (statements_code t pb bs)
          (statement_size_is a t p) has in
          renamed s p ls [] q _ _ (sym (end_normal (execute s.calls a ls q) (execute_all s.calls bs) g))
          (executes a t p ls q (if_normal g (λ ls1 q1. end (execute_all s.calls bs ls1 q1) g))
          (has_front s.code.instructions p (statement_code t p a) _ has) fits.0 (omega arith) (omega arith)
          (owns_front s p p' p pb rows_a rows_b (omega arith) (omega arith) owns) el
          (record {
            normal = λ ls1 q1 e1 l1. all_execute bs t pb ls1 q1 g back fits.1 (omega arith) (omega arith)
                (owns_back s p p' pb (pb + statements_size bs) rows_a rows_b (omega arith) (omega arith)
                (λ d m1 m2. rows_past a p d m1) owns) e1
                (last p p' pb (pb + statements_size bs) own rows_b t q q1 g (omega arith) (omega arith) l1
                (λ d m1 m2 free. no_row-append d rows_a rows_b (rows_past a p d m1) free) x);
            others = others_normal s p pb rows_a t q g (λ ls1 q1. end (execute_all s.calls bs ls1 q1) g)
                (narrowed s p p' p pb own rows_a t q q g (omega arith) (omega arith) (omega arith)
                (λ d m1 m2 free. no_row-append d rows_a rows_b free (all_before bs pb d m2)) x.others);
          }))

      leaves_to : (xs : Statements) (t : Targets) (stop p : ℕ) → LeavesTo xs t stop p
      leaves_to Done t stop p zero ls q g ln has fits room le is owns el x =
          ending_at s (p + 0) p q q g (omega arith) (omega arith) x.normal ls q el (omega arith)
      leaves_to Done t stop p (suc n) ls q g ln has fits room le is owns el x =
          later s (p + 0) p (Some (here s (target_of t n) ls [])) q (g (Left n) ls q) (omega arith)
          (x.others.left n ls q (omega arith) el (omega arith))
      leaves_to (Then a xs) t stop p zero ls q g ln has fits room le is owns el x =
          let pa = p + 1 in
          let pe = p + 1 + statement_size a in
          let p' = p + (1 + statement_size a + exits_size xs) in
          let rows_a = statement_rows pa a in
          let rows_x = exits_rows pe xs in
          let own = rows_a ++ rows_x in
          let body = has_front s.code.instructions p (op.Jump stop ∷ statement_code t pa a) (exits_code t stop pe xs)
          has in
          let back = has_after s.code.instructions pa (statement_size a) (statement_code t pa a)
          (exits_code t stop pe xs) (statement_size_is a t pa) has.1 in
          later s pa p (Some (here s pa ls [])) q (end (execute s.calls a ls q) g) (omega arith)
          (executes a t pa ls q g body.1 fits.0 (omega arith) (omega arith)
          (owns_front s p p' pa pe rows_a rows_x (omega arith) (omega arith) owns) el
          (record {
            normal = λ ls1 q1 e1 l1. past_exits xs t stop pe ls1 q1 (g Normal ls1 q1) back (omega arith) (omega arith)
                (ending_at s p' stop q q g (omega arith) (omega arith) x.normal ls1 q1 e1 l1);
            others = narrowed s p p' pa pe own rows_a t q q g (omega arith) (omega arith) (omega arith)
                (λ d m1 m2 free. no_row-append d rows_a rows_x free (exits_before xs pe d m2)) x.others;
          }))
      leaves_to (Then a xs) t stop p (suc n) ls q g ln has fits room le is owns el x =
          let pa = p + 1 in
          let pe = p + 1 + statement_size a in
          let p' = p + (1 + statement_size a + exits_size xs) in
          let rows_a = statement_rows pa a in
          let rows_x = exits_rows pe xs in
          let own = rows_a ++ rows_x in
          let back = has_after s.code.instructions pa (statement_size a) (statement_code t pa a)
          (exits_code t stop pe xs) (statement_size_is a t pa) has.1 in
          later s pe p (Some (here s (target_of (places pe xs ++ t) n) ls [])) q (end (leave_to s.calls xs n ls q) g)
          (omega arith)
          (leaves_to xs t stop pe n ls q g (omega arith) back fits.1 (omega arith) (omega arith) (omega arith)
          (owns_back s p p' pe (pe + exits_size xs) rows_a rows_x (omega arith) (omega arith)
          (λ d m1 m2. rows_past a pa d m1) owns) el
          (last p p' pe (pe + exits_size xs) own rows_x t q q g (omega arith) (omega arith) (omega arith)
          (λ d m1 m2 free. no_row-append d rows_a rows_x (rows_past a pa d m1) free) x))
