-- Threads that stand in a call: they go on, and with one answer more they stand in it still, unless they end it.
use Rattle.std.proofs.Common.{◌≡◌, ◌⊎◌, inl, inr, ℕ, ◌+◌, List, [], ◌∷◌, ◌++◌, Option, Some, None, true, false}
use Rattle.std.proofs.Common.{refl, sym, ap, ◌∙◌, subst}
use Rattle.ls_events.specs.declared.value.Value.{Value}
use Rattle.ls_events.specs.declared.action.Action.{Action}
use Rattle.ls_events.specs.declared.action.Action.TheVariants as act
use Rattle.ls_events.specs.declared.action.Answer.{Answer}
use Rattle.ls_events.specs.declared.event.Event.{Event}
use Rattle.ls_checked.specs.CheckedTree.{File}
use Rattle.ls_checked.specs.CheckedProgram.{Program, ProgramCall, Making, Calling}
use Rattle.ls_meaning.specs.Course.{Answers, Evaluated, Asks, Results, Throws}
use Rattle.ls_meaning.specs.Threads.{Next, Goes, Ended, Trapped, after_call, all_calls, one_call}
use Rattle.ls_meaning.specs.Runs.{event_of}
use Rattle.ls_serial.specs.Serial.{IsCall, IsEnd}
use Rattle.ls_serial_search.proofs.Further.{Further, IsLoud, IsQuiet, body_of_call}
use Rattle.ls_serial_search.proofs.Splits.{Splits, call_of_program_splits}

-- ---- what comes next

-- an action
abbrev pub IsGoing : Next → Type 0
IsGoing (Goes a s) = Unit {0}
IsGoing Ended = ⊥
IsGoing Trapped = ⊥

-- an action with this event
abbrev pub IsDue : ℕ → Event → Next → Type 0
IsDue t e (Goes a s) = event_of t a ≡ Some e
IsDue t e Ended = ⊥
IsDue t e Trapped = ⊥

-- an action that ends the call of this number
abbrev pub IsEnding : ℕ → Action Value → Type 0
IsEnding k (act.Return n v) = n ≡ k
IsEnding k (act.Trap n kind) = n ≡ k
IsEnding k _ = ⊥

abbrev pub EndsCall : ℕ → Next → Type 0
EndsCall k (Goes a s) = IsEnding k a
EndsCall k Ended = ⊥
EndsCall k Trapped = ⊥

pub loud : (t : ℕ) (a : Action Value) (e : Event) → event_of t a ≡ Some e → IsLoud a
loud t (act.Call n) e is = tt
loud t (act.Return n v) e is = tt
loud t (act.Trap n k) e is = tt
loud t _ e is = absurd (nothing is)
  where
    nothing : {e : Event} → None ≡ Some e → ⊥
    nothing h = cc

not_both : true ≡ false → ⊥
not_both h = cc

-- an action that ends a call has the event of its end
pub ending_event : (t k : ℕ) (a : Action Value) → IsEnding k a →
    (e : Event) × (event_of t a ≡ Some e) × IsEnd e × (e.thread ≡ t) × (e.call ≡ k)
ending_event t k (act.Return n v) ends = (_, refl, refl, refl, ends)
ending_event t k (act.Trap n kind) ends = (_, refl, refl, refl, ends)
ending_event t k _ ends = absurd ends

-- ---- one answer more is used up

-- the list is cut before its last element
cut : (b q : Answers) (y z : Answer Value) (r : Answers) → q ++ y ∷ [] ≡ b ++ z ∷ r → (m : Answers) × (q ≡ b ++ m)
cut [] q y z r e = (q, refl)
cut (x ∷ b) [] y z r e = absurd (nothing b (cc))
  where
    nothing : (b : Answers) → [] ≡ b ++ z ∷ r → ⊥
    nothing [] h = cc
    nothing (x ∷ b) h = cc
cut (x ∷ b) (w ∷ q) y z r e =
    let m = cut b q y z r (cc) in
    let same : w ≡ x = cc in
    (m.0, ap (λ l. w ∷ l) m.1 ∙ ap (λ v. v ∷ b ++ m.0) same)

-- where it asks with an answer less, no answers are left
abbrev pub IsUsedUp : {A : Type 0} → Evaluated A → Evaluated A → Type 0
IsUsedUp (Asks a s) (Results v (z ∷ r)) = ⊥
IsUsedUp (Asks a s) (Throws k (z ∷ r)) = ⊥
IsUsedUp _ _ = Unit {0}

abbrev IsAsking : {A : Type 0} → Evaluated A → Type 0
IsAsking (Asks a s) = Unit {0}
IsAsking (Results v rest) = ⊥
IsAsking (Throws k rest) = ⊥

pub used_up : {A : Type 0} (f : Answers → Evaluated A) (q : Answers) (y : Answer Value) (x x' : Evaluated A) → f q ≡ x →
    Splits f (q ++ y ∷ []) x' →
    IsUsedUp x x'
used_up f q y (Asks a s) (Asks a' s') is h = tt
used_up f q y (Asks a s) (Results v []) is h = tt
used_up f q y (Asks a s) (Results v (z ∷ r)) is h =
    let m = cut h.is.before q y z r h.is.whole in subst IsAsking (sym is ∙ ap f m.1 ∙ h.is.again m.0) tt
used_up f q y (Asks a s) (Throws k []) is h = tt
used_up f q y (Asks a s) (Throws k (z ∷ r)) is h =
    let m = cut h.is.before q y z r h.is.whole in subst IsAsking (sym is ∙ ap f m.1 ∙ h.is.again m.0) tt
used_up f q y (Results v rest) x' is h = tt
used_up f q y (Throws k rest) x' is h = tt

-- ---- threads in a call

abbrev pub InAfter : ℕ → ℕ → Evaluated (Option Value) → (Answers → Type 0) → Type 0
InAfter k n (Asks a s) later = n ≡ k
InAfter k n (Results v []) later = n ≡ k
InAfter k n (Results v (y ∷ rest)) later = later rest
InAfter k n (Throws kind []) later = n ≡ k
InAfter k n (Throws kind (y ∷ rest)) later = ⊥

module _ (file : File) (program : Program) where
  -- after these answers the call of number k has begun, and its end hasn't been answered
  abbrev pub IsIn : ℕ → ℕ → List ProgramCall → Answers → Type 0
  IsIn k n [] q = ⊥
  IsIn k n (c ∷ cs) [] = ⊥
  IsIn k n (c ∷ cs) (y ∷ q) = InAfter k n (one_call file program n c (y ∷ q)) (IsIn k (n + 1) cs)

  -- the thread goes on
  after_goes : (k n : ℕ) (x : Evaluated (Option Value)) (later : Answers → Type 0) (go : Answers → Next) →
      ((r : Answers) → later r → IsGoing (go r)) →
      InAfter k n x later →
      IsGoing (after_call n x go)
  after_goes k n (Asks a s) later go on is = tt
  after_goes k n (Results v []) later go on is = tt
  after_goes k n (Results v (y ∷ rest)) later go on is = on rest is
  after_goes k n (Throws kind []) later go on is = tt
  after_goes k n (Throws kind (y ∷ rest)) later go on is = absurd is

  pub in_goes : (k n : ℕ) (cs : List ProgramCall) (q : Answers) → IsIn k n cs q →
      IsGoing (all_calls file program n cs q)
  in_goes k n [] q is = absurd is
  in_goes k n (c ∷ cs) [] is = absurd is
  in_goes k n (c ∷ cs) (y ∷ q) is =
      after_goes k n (one_call file program n c (y ∷ q)) (IsIn k (n + 1) cs) (all_calls file program (n + 1) cs)
      (λ r. in_goes k (n + 1) cs r) is

  -- what it asks for has no event, or ends the call
  abbrev pub IsOwn : ℕ → Next → Type 0
  IsOwn k (Goes a s) = IsQuiet a ⊎ IsEnding k a
  IsOwn k Ended = ⊥
  IsOwn k Trapped = ⊥

  after_own : (k n : ℕ) (x x' : Evaluated (Option Value)) (later : Answers → Type 0) (go : Answers → Next)
      (y : Answer Value) → Further (y ∷ []) x x' → ((r : Answers) → later r → IsOwn k (go r)) →
      InAfter k n x later →
      IsOwn k (after_call n x go)
  after_own k n (Asks a s) x' later go y f on is = inl f.is
  after_own k n (Results v []) x' later go y f on is = inr is
  after_own k n (Results v (z ∷ rest)) x' later go y f on is = on rest is
  after_own k n (Throws kind []) x' later go y f on is = inr is
  after_own k n (Throws kind (z ∷ rest)) x' later go y f on is = absurd is

  pub in_own : (k n : ℕ) (cs : List ProgramCall) (q : Answers) → IsIn k n cs q →
      IsOwn k (all_calls file program n cs q)
  in_own k n [] q is = absurd is
  in_own k n (c ∷ cs) [] is = absurd is
  in_own k n (c ∷ cs) (y ∷ q) is =
      after_own k n (one_call file program n c (y ∷ q)) (one_call file program n c (y ∷ q ++ y ∷ []))
      (IsIn k (n + 1) cs) (all_calls file program (n + 1) cs) y (body_of_call (y ∷ []) file program n c y q)
      (λ r. in_own k (n + 1) cs r) is

  module _ (y : Answer Value) where
    -- with one answer more it stands in it still, or it has ended it
    after_stays : (k n : ℕ) (x x' : Evaluated (Option Value)) (later : Answers → Type 0) (go : Answers → Next) →
        Further (y ∷ []) x x' →
        IsUsedUp x x' →
        ((r : Answers) → later r → later (r ++ y ∷ []) ⊎ EndsCall k (go r)) →
        InAfter k n x later →
        InAfter k n x' later ⊎ EndsCall k (after_call n x go)
    after_stays k n (Asks a s) (Asks a' s') later go f used on is = inl is
    after_stays k n (Asks a s) (Results v []) later go f used on is = inl is
    after_stays k n (Asks a s) (Results v (z ∷ r)) later go f used on is = absurd used
    after_stays k n (Asks a s) (Throws kind []) later go f used on is = inl is
    after_stays k n (Asks a s) (Throws kind (z ∷ r)) later go f used on is = absurd used
    after_stays k n (Results v []) x' later go f used on is = inr is
    after_stays k n (Results v (z ∷ rest)) x' later go f used on is = rw f.is (on rest is)
    after_stays k n (Throws kind []) x' later go f used on is = inr is
    after_stays k n (Throws kind (z ∷ rest)) x' later go f used on is = absurd is

    pub in_stays : (k n : ℕ) (cs : List ProgramCall) (q : Answers) → IsIn k n cs q →
        IsIn k n cs (q ++ y ∷ []) ⊎ EndsCall k (all_calls file program n cs q)
    in_stays k n [] q is = absurd is
    in_stays k n (c ∷ cs) [] is = absurd is
    in_stays k n (c ∷ cs) (z ∷ q) is =
        after_stays k n (one_call file program n c (z ∷ q)) (one_call file program n c (z ∷ q ++ y ∷ []))
        (IsIn k (n + 1) cs) (all_calls file program (n + 1) cs) (body_of_call (y ∷ []) file program n c z q)
        (used_up (one_call file program n c) (z ∷ q) y (one_call file program n c (z ∷ q))
        (one_call file program n c (z ∷ q ++ y ∷ [])) refl (call_of_program_splits file program n c (z ∷ q ++ y ∷ [])))
        (λ r. in_stays k (n + 1) cs r) is

    module _ (t : ℕ) (e : Event) (calls : IsCall e) where
      not_return : (n : ℕ) (v : Option Value) → event_of t (act.Return n v) ≡ Some e → ⊥
      not_return n v is = cc

      not_trap : (n : ℕ) (kind : _) → event_of t (act.Trap n kind) ≡ Some e → ⊥
      not_trap n kind is = cc

      -- with the answer to its call event a thread stands in the call
      after_begins : (n : ℕ) (x x' : Evaluated (Option Value)) (later : Answers → Type 0) (go : Answers → Next) →
          Further (y ∷ []) x x' →
          ((r : Answers) → IsDue t e (go r) → later (r ++ y ∷ [])) →
          IsDue t e (after_call n x go) →
          InAfter e.call n x' later
      after_begins n (Asks a s) x' later go f on due = absurd (f.is (loud t a e due))
      after_begins n (Results v []) x' later go f on due = absurd (not_return n v due)
      after_begins n (Results v (z ∷ rest)) x' later go f on due = rw f.is (on rest due)
      after_begins n (Throws kind []) x' later go f on due = absurd (not_trap n kind due)
      after_begins n (Throws kind (z ∷ rest)) x' later go f on due = absurd due

      pub begins : (n : ℕ) (cs : List ProgramCall) (q : Answers) →
          IsDue t e (all_calls file program n cs q) →
          IsIn e.call n cs (q ++ y ∷ [])
      begins n [] q due = absurd due
      begins n (Making name c text values ∷ cs) [] due = cc
      begins n (Calling name m text result values ∷ cs) [] due = cc
      begins n (c ∷ cs) (z ∷ q) due =
          after_begins n (one_call file program n c (z ∷ q)) (one_call file program n c (z ∷ q ++ y ∷ []))
          (IsIn e.call (n + 1) cs) (all_calls file program (n + 1) cs) (body_of_call (y ∷ []) file program n c z q)
          (λ r. begins (n + 1) cs r) due
