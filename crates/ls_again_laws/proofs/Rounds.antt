-- A thread that begins its calls again goes on as one whose calls are written many times.
use Rattle.std.proofs.Common.{◌≡◌, ℕ, zero, suc, ◌+◌, ◌*◌, ◌<◌, Bool, true, false, cond, List, [], ◌∷◌, ◌++◌, length}
use Rattle.std.proofs.Common.{refl, sym, ap, ◌∙◌, subst, arith, append-nil, append_assoc}
use Rattle.ls_events.specs.declared.value.Value.{Value}
use Rattle.ls_events.specs.declared.action.Answer.{Answer}
use Rattle.ls_checked.specs.CheckedTree.{File}
use Rattle.ls_checked.specs.CheckedProgram.{Program, ProgramCall}
use Rattle.ls_meaning.specs.Course.{Answers}
use Rattle.ls_meaning.specs.Threads.{Next, Ended, all_calls}
use Rattle.ls_meaning.specs.Runs.{has_ended}
use Rattle.ls_progress_laws.specs.Again.{again}
use Rattle.ls_again_laws.specs.Written.{program_written, written}
use Rattle.ls_again_laws.proofs.Spending.{IsSameNext, Spent, has_calls, past, same_next, spend, spent_none}

-- where the same comes next, the same comes again
pub again_same : (b b' g g' : Answers → Next) → ((m : Answers) → b m ≡ b' m) → ((m : Answers) → g m ≡ g' m) →
    (a : Answers) →
    again b g a ≡ again b' g' a
again_same b b' g g' begins goes [] =
    ap (λ n. cond (has_ended n) (b []) n) (goes []) ∙ ap (λ n. cond (has_ended (g' [])) n (g' [])) (begins [])
again_same b b' g g' begins goes (y ∷ a) =
    ap (λ n. cond (has_ended n) (again b (λ m. b (y ∷ m)) a) (again b (λ m. g (y ∷ m)) a)) (goes [])
    ∙ ap (λ n. cond (has_ended (g' [])) n (again b (λ m. g (y ∷ m)) a))
    (again_same b b' (λ m. b (y ∷ m)) (λ m. b' (y ∷ m)) begins (λ m. begins (y ∷ m)) a)
    ∙ ap (λ n. cond (has_ended (g' [])) (again b' (λ m. b' (y ∷ m)) a) n)
    (again_same b b' (λ m. g (y ∷ m)) (λ m. g' (y ∷ m)) begins (λ m. goes (y ∷ m)) a)

-- a thread without calls is over
pub again_over : (b g : Answers → Next) → ((m : Answers) → b m ≡ Ended) → ((m : Answers) → g m ≡ Ended) →
    (a : Answers) →
    again b g a ≡ Ended
again_over b g begins goes [] =
    ap (λ n. cond (has_ended n) (b []) n) (goes []) ∙ begins []
again_over b g begins goes (y ∷ a) =
    ap (λ n. cond (has_ended n) (again b (λ m. b (y ∷ m)) a) (again b (λ m. g (y ∷ m)) a)) (goes [])
    ∙ again_over b (λ m. b (y ∷ m)) begins (λ m. begins (y ∷ m)) a

pub written_none : (k : ℕ) → written k [] ≡ []
written_none zero = refl
written_none (suc k) = written_none k

next_round : (r m n l : ℕ) → n + l ≡ m + 1 → r * m + n + l ≡ (r + 1) * m + 1
next_round r m n l e = omega (arith, e)

-- ---- a thread with calls

module _ (file : File) (program : Program) (k : ℕ) (first : ProgramCall) (others : List ProgramCall) where
  abbrev calls : List ProgramCall
  calls = first ∷ others

  abbrev many : ℕ
  many = length calls

  abbrev A : ℕ → List ProgramCall → Answers → Next
  A = all_calls file program

  abbrev T : ℕ → List ProgramCall → Answers → Next
  T = all_calls file (program_written k program)

  abbrev begins : Answers → Next
  begins = A 1 calls

  -- after the answers q, in a round with these calls left
  abbrev Stands : ℕ → ℕ → ℕ → List ProgramCall → Answers → Answers → Type 0
  Stands j r n ds q a =
      IsSameNext many (T (r * many + n) (ds ++ written j calls) (q ++ a)) (again begins (λ more. A n ds (q ++ more)) a)

  -- a round is over, and the next begins
  round_past : (j r n : ℕ) (ds : List ProgramCall) (q a : Answers) →
      n + length ds ≡ many + 1 →
      Spent file program k many n ds q →
      has_ended (A n ds q) ≡ true →
      T (r * many + n) (ds ++ written j calls) (q ++ a) ≡ T ((r + 1) * many + 1) (written j calls) a
  round_past j r n ds q a size is over =
      past file program k many (r * many + n) n ds (written j calls) q a is over
      ∙ ap (λ i. T i (written j calls) a) (next_round r many n (length ds) size)

  at_rest : (j r n : ℕ) (ds : List ProgramCall) (q : Answers) (b : Bool) →
      0 < j →
      n + length ds ≡ many + 1 →
      Spent file program k many n ds q →
      has_ended (A n ds q) ≡ b →
      IsSameNext many (T (r * many + n) (ds ++ written j calls) (q ++ [])) (cond b (begins []) (A n ds q))
  at_rest j r n ds q false more size is goes =
      subst (λ l. IsSameNext many (T (r * many + n) (ds ++ written j calls) l) (A n ds q)) (sym (append-nil q))
      (same_next file program k many r n ds (written j calls) q goes)
  at_rest zero r n ds q true more size is over = absurd (omega (arith, more))
  at_rest (suc j) r n ds q true more size is over =
      subst (λ x. IsSameNext many x (begins [])) (sym (round_past (suc j) r n ds q [] size is over))
      (same_next file program k many (r + 1) 1 calls (written j calls) []
      (has_calls file program k many 1 first others))

  -- so it is with one answer less
  abbrev Before : Answers → Type 0
  Before a = (j r n : ℕ) (ds : List ProgramCall) (q : Answers) → length a < j → n + length ds ≡ many + 1 →
      Spent file program k many n ds q → Stands j r n ds q a

  goes_on : (y : Answer Value) (a : Answers) → Before a → (j r n : ℕ) (ds : List ProgramCall) (q : Answers)
      (b : Bool) →
      length a + 1 < j →
      n + length ds ≡ many + 1 →
      Spent file program k many n ds q →
      has_ended (A n ds q) ≡ b →
      IsSameNext many (T (r * many + n) (ds ++ written j calls) (q ++ y ∷ a))
      (cond b (again begins (λ more. begins (y ∷ more)) a) (again begins (λ more. A n ds (q ++ y ∷ more)) a))
  goes_on y a before j r n ds q false less size is goes =
      let so = before j r n ds (q ++ y ∷ []) (omega (arith, less)) size
      (spend file program k many y n ds q is goes) in
      let here : (m : Answers) → (q ++ y ∷ []) ++ m ≡ q ++ y ∷ m = λ m. append_assoc q (y ∷ []) m in
      subst (λ l. IsSameNext many (T (r * many + n) (ds ++ written j calls) l)
      (again begins (λ more. A n ds (q ++ y ∷ more)) a)) (here a)
      (subst (λ x. IsSameNext many (T (r * many + n) (ds ++ written j calls) ((q ++ y ∷ []) ++ a)) x)
      (again_same begins begins (λ more. A n ds ((q ++ y ∷ []) ++ more)) (λ more. A n ds (q ++ y ∷ more)) (λ m. refl)
      (λ m. ap (A n ds) (here m)) a) so)
  goes_on y a before zero r n ds q true less size is over = absurd (omega (arith, less))
  goes_on y a before (suc j) r n ds q true less size is over =
      subst (λ x. IsSameNext many x (again begins (λ more. begins (y ∷ more)) a))
      (sym (round_past (suc j) r n ds q (y ∷ a) size is over))
      (before j (r + 1) 1 calls (y ∷ []) (omega (arith, less)) (one many)
      (spend file program k many y 1 calls [] tt (has_calls file program k many 1 first others)))
    where
      one : (m : ℕ) → 1 + m ≡ m + 1
      one m = omega arith

  stands : (a : Answers) → Before a
  stands [] j r n ds q less size is =
      subst (λ l. IsSameNext many (T (r * many + n) (ds ++ written j calls) (q ++ []))
      (cond (has_ended (A n ds l)) (begins []) (A n ds l))) (sym (append-nil q))
      (at_rest j r n ds q (has_ended (A n ds q)) less size is refl)
  stands (y ∷ a) j r n ds q less size is =
      subst (λ l. IsSameNext many (T (r * many + n) (ds ++ written j calls) (q ++ y ∷ a))
      (cond (has_ended (A n ds l)) (again begins (λ more. begins (y ∷ more)) a)
      (again begins (λ more. A n ds (q ++ y ∷ more)) a))) (sym (append-nil q))
      (goes_on y a (stands a) j r n ds q (has_ended (A n ds q)) (omega (arith, less)) size is refl)

  pub from_start : (j : ℕ) (a : Answers) → length a < j →
      IsSameNext many (T 1 (written (suc j) calls) a) (again begins begins a)
  from_start j a less =
      subst (λ i. IsSameNext many (T i (written (suc j) calls) a) (again begins begins a)) (no_round many)
      (stands a j 0 1 calls [] less (one many) (spent_none file program k many 1 calls))
    where
      one : (m : ℕ) → 1 + m ≡ m + 1
      one m = omega arith

      no_round : (m : ℕ) → 0 * m + 1 ≡ 1
      no_round m = omega arith

-- ---- a thread

pub same_thread : (file : File) (program : Program) (k : ℕ) (calls : List ProgramCall) (a : Answers) →
    length a + 1 < k →
    IsSameNext (length calls) (all_calls file (program_written k program) 1 (written k calls) a)
    (again (all_calls file program 1 calls) (all_calls file program 1 calls) a)
same_thread file program k [] a less =
    subst (λ cs. IsSameNext 0 (all_calls file (program_written k program) 1 cs a)
    (again (all_calls file program 1 []) (all_calls file program 1 []) a)) (sym (written_none k))
    (subst (λ x. IsSameNext 0 Ended x)
    (sym (again_over (all_calls file program 1 []) (all_calls file program 1 []) (λ m. refl) (λ m. refl) a)) tt)
same_thread file program zero (c ∷ cs) a less = absurd (omega (arith, less))
same_thread file program (suc j) (c ∷ cs) a less =
    from_start file program (suc j) c cs j a (omega (arith, less))
