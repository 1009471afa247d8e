-- A thread that has taken all its answers: while it goes on it takes one more, and where it has ended others are left
-- to what comes after its calls.
use Rattle.std.proofs.Common.{◌≡◌, ◌⊎◌, inl, inr, ℕ, suc, ◌+◌, ◌*◌, true, false, List, [], ◌∷◌, ◌++◌}
use Rattle.std.proofs.Common.{length, Option, refl, sym, ap, ◌∙◌, subst, arith}
use Rattle.ls_events.specs.declared.value.Value.{Value}
use Rattle.ls_events.specs.declared.action.Action.{Action}
use Rattle.ls_events.specs.declared.action.Action.TheVariants as act
use Rattle.ls_events.specs.declared.action.Answer.{Answer}
use Rattle.ls_checked.specs.CheckedTree.{File}
use Rattle.ls_checked.specs.CheckedProgram.{Program, ProgramCall, Making, Calling}
use Rattle.ls_meaning.specs.declared.sort.Sort.{Sort}
use Rattle.ls_meaning.specs.Course.{Answers, Evaluated, Asks, Results, Throws}
use Rattle.ls_meaning.specs.Threads.{Next, Goes, Ended, Trapped, after_call, all_calls, one_call}
use Rattle.ls_meaning.specs.Runs.{has_ended}
use Rattle.ls_serial_search.proofs.Further.{Further, IsLoud, body_of_call}
use Rattle.ls_serial_search.proofs.Inside.{EndsCall, InAfter, IsEnding, IsUsedUp, in_stays}
use Rattle.ls_again_laws.specs.Written.{IsSameAction, program_written}

pub not_both : true ≡ false → ⊥
not_both h = cc

-- what a thread does next, the same but for the numbers of calls
abbrev pub IsSameNext : ℕ → Next → Next → Type 0
IsSameNext many (Goes a s) (Goes b u) = IsSameAction many a b × (s ≡ u)
IsSameNext many Ended Ended = Unit {0}
IsSameNext many Trapped Trapped = Unit {0}
IsSameNext many p q = ⊥

pub same_itself : (many : ℕ) (a : Action Value) → IsSameAction many a a
same_itself many (act.Call n) = record { rounds = 0; is = omega arith }
same_itself many (act.Return n v) = (record { rounds = 0; is = omega arith }, refl)
same_itself many (act.Trap n kind) = (record { rounds = 0; is = omega arith }, refl)
same_itself many _ = refl

-- ---- with one answer more a call that asks has used its answers up

ending_loud : (n : ℕ) (a : Action Value) → IsEnding n a → IsLoud a
ending_loud n (act.Return i v) ends = tt
ending_loud n (act.Trap i kind) ends = tt
ending_loud n _ ends = absurd ends

none_left : (n : ℕ) (a : Action Value) (s : Sort) (x : Evaluated (Option Value)) → InAfter n n x (λ r. ⊥) →
    IsUsedUp (Asks a s) x
none_left n a s (Asks b u) is = tt
none_left n a s (Results v []) is = tt
none_left n a s (Results v (z ∷ r)) is = absurd is
none_left n a s (Throws kind []) is = tt
none_left n a s (Throws kind (z ∷ r)) is = absurd is

by_stays : (n : ℕ) (y : Answer Value) (x x' : Evaluated (Option Value)) (go : Answers → Next) →
    Further (y ∷ []) x x' →
    (InAfter n n x (λ r. ⊥) → InAfter n n x' (λ r. ⊥) ⊎ EndsCall n (after_call n x go)) →
    IsUsedUp x x'
by_stays n y (Asks a s) x' go f stays = either (stays refl)
  where
    either : InAfter n n x' (λ r. ⊥) ⊎ EndsCall n (Goes a s) → IsUsedUp (Asks a s) x'
    either (inl is) = none_left n a s x' is
    either (inr ends) = absurd (f.is (ending_loud n a ends))
by_stays n y (Results v rest) x' go f stays = tt
by_stays n y (Throws kind rest) x' go f stays = tt

call_used : (file : File) (program : Program) (n : ℕ) (c : ProgramCall) (z y : Answer Value) (q : Answers) →
    IsUsedUp (one_call file program n c (z ∷ q)) (one_call file program n c (z ∷ q ++ y ∷ []))
call_used file program n c z y q =
    by_stays n y (one_call file program n c (z ∷ q)) (one_call file program n c (z ∷ q ++ y ∷ []))
    (all_calls file program (n + 1) []) (body_of_call (y ∷ []) file program n c z q)
    (λ is. in_stays file program y n n (c ∷ []) (z ∷ q) is)

module _ (file : File) (program : Program) (k many : ℕ) where
  abbrev pub other : Program
  other = program_written k program

  abbrev A : ℕ → List ProgramCall → Answers → Next
  A = all_calls file program

  abbrev T : ℕ → List ProgramCall → Answers → Next
  T = all_calls file other

  -- after its event a call is the same, whatever its number
  pub same_call : (n m : ℕ) (c : ProgramCall) (y : Answer Value) (q : Answers) →
      one_call file other n c (y ∷ q) ≡ one_call file program m c (y ∷ q)
  same_call n m (Making name c text values) y q = refl
  same_call n m (Calling name i text result values) y q = refl

  -- ---- answers that are taken

  abbrev SpentAfter : Evaluated (Option Value) → (Answers → Type 0) → Type 0
  SpentAfter (Asks a s) later = Unit {0}
  SpentAfter (Results v []) later = Unit {0}
  SpentAfter (Results v (z ∷ rest)) later = later rest
  SpentAfter (Throws kind rest) later = Unit {0}

  -- no answer is left when the calls have ended
  abbrev pub Spent : ℕ → List ProgramCall → Answers → Type 0
  Spent n [] q = q ≡ []
  Spent n (c ∷ cs) [] = Unit {0}
  Spent n (c ∷ cs) (y ∷ q) = SpentAfter (one_call file program n c (y ∷ q)) (Spent (n + 1) cs)

  pub spent_none : (n : ℕ) (cs : List ProgramCall) → Spent n cs []
  spent_none n [] = refl
  spent_none n (c ∷ cs) = tt

  pub has_calls : (n : ℕ) (c : ProgramCall) (cs : List ProgramCall) → has_ended (A n (c ∷ cs) []) ≡ false
  has_calls n (Making name c text values) cs = refl
  has_calls n (Calling name m text result values) cs = refl

  spend_first : (n : ℕ) (c : ProgramCall) (cs : List ProgramCall) (y : Answer Value) → Spent n (c ∷ cs) (y ∷ [])
  spend_first n (Making name c text values) cs y = tt
  spend_first n (Calling name m text result values) cs y = tt

  module _ (y : Answer Value) where
    spend_after : (n : ℕ) (cs : List ProgramCall) (x x' : Evaluated (Option Value)) →
        ((r : Answers) → Spent (n + 1) cs r → has_ended (A (n + 1) cs r) ≡ false → Spent (n + 1) cs (r ++ y ∷ [])) →
        Further (y ∷ []) x x' →
        IsUsedUp x x' →
        SpentAfter x (Spent (n + 1) cs) →
        has_ended (after_call n x (A (n + 1) cs)) ≡ false →
        SpentAfter x' (Spent (n + 1) cs)
    spend_after n cs (Asks a s) (Asks b u) on f used is goes = tt
    spend_after n cs (Asks a s) (Results v []) on f used is goes = tt
    spend_after n cs (Asks a s) (Results v (z ∷ r)) on f used is goes = absurd used
    spend_after n cs (Asks a s) (Throws kind r) on f used is goes = tt
    spend_after n cs (Results v []) x' on f used is goes = rw f.is (spent_none (n + 1) cs)
    spend_after n cs (Results v (z ∷ rest)) x' on f used is goes = rw f.is (on rest is goes)
    spend_after n cs (Throws kind rest) x' on f used is goes = rw f.is tt

    -- with one answer more none is left
    pub spend : (n : ℕ) (cs : List ProgramCall) (q : Answers) → Spent n cs q → has_ended (A n cs q) ≡ false →
        Spent n cs (q ++ y ∷ [])
    spend n [] q is goes = absurd (not_both goes)
    spend n (c ∷ cs) [] is goes = spend_first n c cs y
    spend n (c ∷ cs) (z ∷ q) is goes =
        spend_after n cs (one_call file program n c (z ∷ q)) (one_call file program n c (z ∷ q ++ y ∷ []))
        (spend (n + 1) cs) (body_of_call (y ∷ []) file program n c z q)
        (call_used file program n c z y q) is goes

  -- ---- where the calls haven't ended

  numbers_next : (r n : ℕ) (es : List ProgramCall) (q : Answers) (p : Next) →
      IsSameNext many (T (r * many + (n + 1)) es q) p →
      IsSameNext many (T (r * many + n + 1) es q) p
  numbers_next r n es q p is =
      subst (λ i. IsSameNext many (T i es q) p) (same r n) is
    where
      same : (r n : ℕ) → r * many + (n + 1) ≡ r * many + n + 1
      same r n = omega arith

  same_after : (r n : ℕ) (ds es : List ProgramCall) (x : Evaluated (Option Value)) →
      ((rest : Answers) → has_ended (A (n + 1) ds rest) ≡ false →
      IsSameNext many (T (r * many + (n + 1)) (ds ++ es) rest) (A (n + 1) ds rest)) →
      has_ended (after_call n x (A (n + 1) ds)) ≡ false →
      IsSameNext many (after_call (r * many + n) x (T (r * many + n + 1) (ds ++ es))) (after_call n x (A (n + 1) ds))
  same_after r n ds es (Asks a s) on goes = (same_itself many a, refl)
  same_after r n ds es (Results v []) on goes = ((record { rounds = r; is = refl }, refl), refl)
  same_after r n ds es (Results v (z ∷ rest)) on goes = numbers_next r n (ds ++ es) rest _ (on rest goes)
  same_after r n ds es (Throws kind []) on goes = ((record { rounds = r; is = refl }, refl), refl)
  same_after r n ds es (Throws kind (z ∷ rest)) on goes = tt

  -- both go on in the same way
  pub same_next : (r n : ℕ) (ds es : List ProgramCall) (q : Answers) → has_ended (A n ds q) ≡ false →
      IsSameNext many (T (r * many + n) (ds ++ es) q) (A n ds q)
  same_next r n [] es q goes = absurd (not_both goes)
  same_next r n (Making name c text values ∷ ds) es [] goes = (record { rounds = r; is = refl }, refl)
  same_next r n (Calling name m text result values ∷ ds) es [] goes = (record { rounds = r; is = refl }, refl)
  same_next r n (c ∷ ds) es (y ∷ q) goes =
      subst (λ x. IsSameNext many (after_call (r * many + n) x (T (r * many + n + 1) (ds ++ es)))
      (A n (c ∷ ds) (y ∷ q))) (sym (same_call (r * many + n) n c y q))
      (same_after r n ds es (one_call file program n c (y ∷ q)) (same_next r (n + 1) ds es) goes)

  -- ---- where they have ended

  past_after : (b n : ℕ) (ds es : List ProgramCall) (more : Answers) (x x' : Evaluated (Option Value)) →
      ((rest : Answers) → Spent (n + 1) ds rest → has_ended (A (n + 1) ds rest) ≡ true →
      T (b + 1) (ds ++ es) (rest ++ more) ≡ T (b + 1 + length ds) es more) →
      Further more x x' →
      SpentAfter x (Spent (n + 1) ds) →
      has_ended (after_call n x (A (n + 1) ds)) ≡ true →
      after_call b x' (T (b + 1) (ds ++ es)) ≡ T (b + 1 + length ds) es more
  past_after b n ds es more (Asks a s) x' on f is over = absurd (not_both (sym over))
  past_after b n ds es more (Results v []) x' on f is over = absurd (not_both (sym over))
  past_after b n ds es more (Results v (z ∷ rest)) x' on f is over = rw f.is (on rest is over)
  past_after b n ds es more (Throws kind []) x' on f is over = absurd (not_both (sym over))
  past_after b n ds es more (Throws kind (z ∷ rest)) x' on f is over = absurd (not_both (sym over))

  -- the answers left go to the calls after these
  pub past : (b n : ℕ) (ds es : List ProgramCall) (q more : Answers) → Spent n ds q → has_ended (A n ds q) ≡ true →
      T b (ds ++ es) (q ++ more) ≡ T (b + length ds) es more
  past b n [] es q more is over =
      ap (λ l. T b es (l ++ more)) is ∙ ap (λ i. T i es more) (none b)
    where
      none : (b : ℕ) → b ≡ b + 0
      none b = omega arith
  past b n (c ∷ ds) es [] more is over = absurd (not_both (sym over ∙ has_calls n c ds))
  past b n (c ∷ ds) es (y ∷ q) more is over =
      ap (λ x. after_call b x (T (b + 1) (ds ++ es))) (same_call b n c y (q ++ more))
      ∙ past_after b n ds es more (one_call file program n c (y ∷ q)) (one_call file program n c (y ∷ q ++ more))
      (λ rest. past (b + 1) (n + 1) ds es rest more) (body_of_call more file program n c y q) is over
      ∙ ap (λ i. T i es more) (one b (length ds))
    where
      one : (b i : ℕ) → b + 1 + i ≡ b + suc i
      one b i = omega arith
