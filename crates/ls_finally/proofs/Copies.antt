-- `try b finally f` by copies ends as it does.
use Rattle.std.proofs.Common.{◌≡◌, ℕ, zero, suc, ◌+◌, ◌<◌, List, [], ◌∷◌, length, Some, None, refl, sym, ap, ◌∙◌, arith}
use Rattle.std.specs.Prelude.{slice_set}
use Rattle.std.proofs.lemmas.List.{length-set, get_or-set_same}
use Rattle.ls_events.specs.declared.kind.Kind.{Kind}
use Rattle.ls_events.specs.declared.kind.Kind.TheVariants as kinds
use Rattle.ls_lowered.specs.LoweredTree.{Statement, Statements, Return, Guarded, Throw, Leave, Done, Then, Local}
use Rattle.ls_lowered.specs.Words.{kind_word, kind_of}
use Rattle.ls_lowered.specs.Course.{Answers, Course, Asks, Ends, Stuck, Calls, finish}
use Rattle.ls_lowered.specs.Statements.{Completion, Normal, Returned, Threw, Left, Go, on_normal, on_any, on_throw}
use Rattle.ls_lowered.specs.Statements.{on_leave, throw, execute, execute_all, leave_to}
use Rattle.ls_finally_exits.specs.Exits.{Exit, LeaveOut, ReturnOut, exits, replaced, exit_of, ways, finally_of}
use Rattle.ls_finally_copies.specs.Ways.{both}
use Rattle.ls_finally.specs.Agreement.{Agree, Fits}
use Rattle.ls_finally.proofs.Agreeing.{finish_finish, Above, above_refl, agree_slot}
use Rattle.ls_finally.proofs.Alike.{same}
use Rattle.ls_finally.proofs.Replaced.{Goes, OutAt, nth, replaced_ok}

pub kind_of-kind_word : (kind : Kind) → kind_of (kind_word kind) ≡ Some kind
kind_of-kind_word kinds.Arithmetic = refl
kind_of-kind_word kinds.NullPointer = refl
kind_of-kind_word kinds.ArrayIndexOutOfBounds = refl
kind_of-kind_word kinds.NegativeArraySize = refl
kind_of-kind_word kinds.IllegalMonitorState = refl
kind_of-kind_word kinds.StackOverflow = refl
kind_of-kind_word kinds.Error = refl

-- the second of two statements, and nothing more
last : (calls : Calls) (s : Statement) (ls : List ℕ) (q : Answers) →
    execute_all calls (Then s Done) ls q ≡ execute calls s ls q
last calls s ls q = ends (execute calls s ls q)
  where
    ends : (x : Course Completion) → finish x (on_normal (λ ls q. Ends Normal ls q)) ≡ x
    ends (Asks a) = refl
    ends (Ends Normal ls q) = refl
    ends (Ends (Returned n) ls q) = refl
    ends (Ends (Threw n) ls q) = refl
    ends (Ends (Left n) ls q) = refl
    ends Stuck = refl

-- the way of an exit by its number
way : (calls : Calls) (r : ℕ) (f : Statement) (xs : List Exit) (i : ℕ) (x : Exit) (ls : List ℕ) (q : Answers) →
    nth xs i ≡ Some x →
    leave_to calls (ways r f xs) i ls q ≡ execute calls (both f (exit_of r x)) ls q
way calls r f [] i x ls q e = absurd (none e)
  where
    none : {x : Exit} → None ≡ Some x → ⊥
    none e = cc
way calls r f (y ∷ xs) zero x ls q e = ap (λ (z : Exit). execute calls (both f (exit_of r z)) ls q) (some e)
  where
    some : {x y : Exit} → Some y ≡ Some x → y ≡ x
    some e = cc
way calls r f (y ∷ xs) (suc i) x ls q e = way calls r f xs i x ls q e

module _ (calls : Calls) (k room : ℕ) (b f : Statement) (fits_b : Fits k b) (fits_f : Fits k f) (small : k + 1 < room)
    (g g' : Go) (h : (c : Completion) (ls new : List ℕ) (q : Answers) → length new ≡ room → Agree k ls new →
    g' c new q ≡ g c ls q) where
  abbrev r : ℕ
  r = k + 1

  abbrev body : Statement
  body = Guarded (replaced r 0 2 b) k (Leave 1)

  abbrev goals : Statements
  goals = Then f (Then (both f (Throw k)) (ways r f (exits 0 b)))

  -- what comes after the body, in the tree and in the lowered tree
  abbrev behind : Go
  behind c ls q = finish (on_any (execute calls f) c ls q) g

  abbrev left : Go
  left c ls q = finish (on_leave (leave_to calls goals) c ls q) g'

  abbrev ended : Go
  ended c ls q = finish (on_normal (execute_all calls (Then (Leave 0) Done)) c ls q) left

  abbrev within : Go
  within c ls q = finish (on_throw (λ kind ls q. execute calls (Leave 1) (slice_set ls k (kind_word kind)) q) c ls q)
      ended

  -- a copy of f, and then the way that the body ended
  copy : (c : Completion) (s : Statement) (ls new : List ℕ) (q : Answers) → length new ≡ room → Agree k ls new →
      ((ls2 new2 : List ℕ) (q2 : Answers) → Agree k ls2 new2 → Above k new new2 →
      finish (execute calls s new2 q2) g' ≡ g c ls2 q2) → finish (execute calls (both f s) new q) g' ≡ behind c ls q
  copy c s ls new q e a end = finish_finish (execute calls f new q) (on_normal (execute_all calls (Then s Done))) g'
      ∙ (same calls k f fits_f).is new ls new q (λ c2 ls2 q2. finish (on_normal (λ ls3 q3. Ends c ls3 q3) c2 ls2 q2) g)
      (λ c2 ls2 q2. finish (on_normal (execute_all calls (Then s Done)) c2 ls2 q2) g') a (above_refl k new)
      (record { goes = alike })
      ∙ sym (finish_finish (execute calls f ls q) (on_normal (λ ls q. Ends c ls q)) g)
    where
      alike : (c2 : Completion) (ls2 new2 : List ℕ) (q2 : Answers) →
          Agree k ls2 new2 →
          Above k new new2 →
          finish (on_normal (execute_all calls (Then s Done)) c2 new2 q2) g' ≡ finish
          (on_normal (λ ls3 q3. Ends c ls3 q3) c2 ls2 q2) g
      alike Normal ls2 new2 q2 a2 u = ap (λ x. finish x g') (last calls s new2 q2) ∙ end ls2 new2 q2 a2 u
      alike (Returned n) ls2 new2 q2 a2 u = h (Returned n) ls2 new2 q2 (u.long ∙ e) a2
      alike (Threw n) ls2 new2 q2 a2 u = h (Threw n) ls2 new2 q2 (u.long ∙ e) a2
      alike (Left n) ls2 new2 q2 a2 u = h (Left n) ls2 new2 q2 (u.long ∙ e) a2

  normal_ok : (ls new : List ℕ) (q : Answers) →
      length new ≡ room →
      Agree k ls new →
      finish (execute calls f new q) g' ≡ behind Normal ls q
  normal_ok ls new q e a =
      (same calls k f fits_f).is new ls new q (λ c2 ls2 q2. finish (on_normal (λ ls3 q3. Ends Normal ls3 q3) c2 ls2 q2)
      g) g' a (above_refl k new) (record { goes = alike })
      ∙ sym (finish_finish (execute calls f ls q) (on_normal (λ ls q. Ends Normal ls q)) g)
    where
      alike : (c2 : Completion) (ls2 new2 : List ℕ) (q2 : Answers) →
          Agree k ls2 new2 →
          Above k new new2 →
          g' c2 new2 q2 ≡ finish (on_normal (λ ls3 q3. Ends Normal ls3 q3) c2 ls2 q2) g
      alike Normal ls2 new2 q2 a2 u = h Normal ls2 new2 q2 (u.long ∙ e) a2
      alike (Returned n) ls2 new2 q2 a2 u = h (Returned n) ls2 new2 q2 (u.long ∙ e) a2
      alike (Threw n) ls2 new2 q2 a2 u = h (Threw n) ls2 new2 q2 (u.long ∙ e) a2
      alike (Left n) ls2 new2 q2 a2 u = h (Left n) ls2 new2 q2 (u.long ∙ e) a2

  threw_ok : (kind : Kind) (ls new : List ℕ) (q : Answers) →
      length new ≡ room →
      Agree k ls new →
      within (Threw kind) new q ≡ behind (Threw kind) ls q
  threw_ok kind ls new q e a = copy (Threw kind) (Throw k)
      ls (slice_set new k (kind_word kind)) q (length-set new k (kind_word kind) ∙ e)
      (agree_slot k k (kind_word kind) ls new (omega arith) a)
      (λ ls2 new2 q2 a2 u. ap (λ w. finish (throw (kind_of w) new2 q2) g')
      (u.at k (omega arith) ∙ get_or-set_same new k (kind_word kind) 0 (omega (arith, e)))
      ∙ ap (λ o. finish (throw o new2 q2) g') (kind_of-kind_word kind)
      ∙ h (Threw kind) ls2 new2 q2 (u.long ∙ length-set new k (kind_word kind) ∙ e) a2)

  -- each leave
  left_is : (i p : ℕ) (x : Exit) (new : List ℕ) (q : Answers) →
      nth (exits 0 b) i ≡ Some x →
      p ≡ 0 + 2 + i →
      leave_to calls goals p new q ≡ execute calls (both f (exit_of r x)) new q
  left_is i zero x new q e eq = absurd (let z : ⊥ = omega arith in z)
  left_is i (suc zero) x new q e eq = absurd (let z : ⊥ = omega arith in z)
  left_is i (suc (suc p)) x new q e eq = let z : p ≡ i = omega arith in
      ap (λ u. leave_to calls (ways r f (exits 0 b)) u new q) z ∙ way calls r f (exits 0 b) i x new q e

  out_ok : (i p : ℕ) (x : Exit) → nth (exits 0 b) i ≡ Some x → p ≡ 0 + 2 + i → OutAt k r room 0 x p behind within
  out_ok i p (LeaveOut m) e eq = λ n ls new q o e2 a.
      ap (λ z. finish z g') (left_is i p (LeaveOut m) new q e eq)
      ∙ copy (Left n) (Leave m) ls new q e2 a
      (λ ls2 new2 q2 a2 u. let z : m ≡ n = omega arith in ap (λ v. g' (Left v) new2 q2) z ∙
      h (Left n) ls2 new2 q2 (u.long ∙ e2) a2)
  out_ok i p ReturnOut e eq = λ w ls new q o e2 a.
      ap (λ z. finish z g') (left_is i p ReturnOut new q e eq)
      ∙ copy (Returned w) (Return (Local r)) ls new q e2 a
      (λ ls2 new2 q2 a2 u. ap (λ v. g' (Returned v) new2 q2) (u.at r (omega arith) ∙ o) ∙
      h (Returned w) ls2 new2 q2 (u.long ∙ e2) a2)

  goes : Goes k r room 0 2 (exits 0 b) behind within
  goes = record {
    normal = normal_ok;
    threw = threw_ok;
    left = λ n ls new q low e a. absurd (let z : ⊥ = omega arith in z);
    out = out_ok;
  }

  -- a `try` by copies of its finally block does what the `try` does
  pub copies_ok : (ls new : List ℕ) (q : Answers) →
      length new ≡ room →
      Agree k ls new →
      finish (execute calls (finally_of k b f) new q) g' ≡ finish
      (finish (execute calls b ls q) (on_any (execute calls f))) g
  copies_ok ls new q e a =
      finish_finish (execute calls (both body (Leave 0)) new q) (on_leave (leave_to calls goals)) g'
      ∙ finish_finish (execute calls body new q) (on_normal (execute_all calls (Then (Leave 0) Done))) left
      ∙ finish_finish (execute calls (replaced r 0 2 b) new q)
      (on_throw (λ kind ls q. execute calls (Leave 1) (slice_set ls k (kind_word kind)) q)) ended
      ∙ replaced_ok k r room (omega arith) small calls b 0 2 behind within fits_b goes ls new q e a
      ∙ sym (finish_finish (execute calls b ls q) (on_any (execute calls f)) g)
