-- Turns and enterings of other threads change nothing of what two threads do next.
use Rattle.std.proofs.Common.{◌≡◌, ◌≢◌, ◌⊎◌, inl, inr, ℕ, Bool, true, false, List, [], ◌∷◌, Option, None, Some}
use Rattle.std.proofs.Common.{refl, sym, ap, ◌∙◌, subst}
use Rattle.std.specs.Prelude.{nat_eq, not, ◌&&◌}
use Rattle.std.proofs.lemmas.Bool.{cases_eq}
use Rattle.ls_events.specs.declared.value.Value.{Value}
use Rattle.ls_events.specs.declared.action.Action.{Action}
use Rattle.ls_events.specs.declared.action.Action.TheVariants.{ReadField, WriteField, ReadItem, WriteItem, ReadName}
use Rattle.ls_events.specs.declared.action.Action.TheVariants.{WriteName, New, NewLock, NewMarkable, NewArray, Lock}
use Rattle.ls_events.specs.declared.action.Action.TheVariants.{Unlock, TryLock, IsHeld, LockMonitor, UnlockMonitor}
use Rattle.ls_events.specs.declared.action.Action.TheVariants.{ReadPair, SetPair, SwapPair, AttemptMark, Turn, Enter}
use Rattle.ls_events.specs.declared.action.Action.TheVariants.{Call, Return, Trap}
use Rattle.ls_events.specs.declared.action.Answer.{Answer}
use Rattle.ls_events.specs.declared.action.Answer.TheVariants.{Done, Gives, Fails}
use Rattle.ls_checked.specs.CheckedTree.{File}
use Rattle.ls_meaning.specs.declared.step.Did.{Did}
use Rattle.ls_meaning.specs.declared.step.Did.TheVariants as did
use Rattle.ls_meaning.specs.Store.{Store}
use Rattle.ls_meaning.specs.Still.{IsActing}
use Rattle.ls_search_laws.specs.AtOnce.{IsReading}
use Rattle.ls_search_laws.specs.Cells.{by_cells, no_cells}
use Rattle.ls_search_laws.specs.Configuration.{Configuration, Stride, stride}
use Rattle.ls_search_laws.specs.Search.{LeadsTo}
use Rattle.ls_search_laws.proofs.AtOnce.{Quick, Runs, quick_step, runs_of}
use Rattle.ls_search_laws.proofs.Strides.{acted, acts_after, acts_of, stride_by, told}
use Rattle.ls_race_laws.specs.declared.access.Access.{Access}
use Rattle.ls_race_laws.specs.declared.access.Kind.{Kind}
use Rattle.ls_race_laws.specs.Accesses.{Volatile, access_of}
use Rattle.ls_race_laws.specs.Meeting.{Meets, access_by}

not_some : (a : Access) → None ≡ Some a → ⊥
not_some a h = cc

false_not_true : false ≡ true → ⊥
false_not_true h = cc

and_false : (b : Bool) → (b && false) ≡ true → ⊥
and_false true h = false_not_true h
and_false false h = false_not_true h

-- what is taken at once is no access
quiet_none : (volatile : Volatile) (s : Store) (t : ℕ) (a : Action Value) (x : Answer Value) →
    by_cells no_cells t a x ≡ true → access_of volatile s a ≡ None
quiet_none volatile s t (ReadField o f) (Gives v) e = absurd (and_false (not (nat_eq t 0)) e)
quiet_none volatile s t (ReadField o f) Done e = absurd (false_not_true e)
quiet_none volatile s t (ReadField o f) (Fails kind) e = absurd (false_not_true e)
quiet_none volatile s t (WriteField o f v) x e = absurd (false_not_true e)
quiet_none volatile s t (ReadItem o i) x e = absurd (false_not_true e)
quiet_none volatile s t (WriteItem o i v) x e = absurd (false_not_true e)
quiet_none volatile s t (ReadName n) x e = refl
quiet_none volatile s t (WriteName n v) x e = refl
quiet_none volatile s t (New c) x e = refl
quiet_none volatile s t NewLock x e = refl
quiet_none volatile s t (NewMarkable p) x e = refl
quiet_none volatile s t (NewArray n) x e = refl
quiet_none volatile s t (Lock o) x e = refl
quiet_none volatile s t (Unlock o) x e = refl
quiet_none volatile s t (TryLock o) x e = refl
quiet_none volatile s t (IsHeld o) x e = refl
quiet_none volatile s t (LockMonitor o) x e = refl
quiet_none volatile s t (UnlockMonitor o) x e = refl
quiet_none volatile s t (ReadPair o) x e = refl
quiet_none volatile s t (SetPair o p) x e = refl
quiet_none volatile s t (SwapPair o p q) x e = refl
quiet_none volatile s t (AttemptMark o r m) x e = refl
quiet_none volatile s t Turn x e = refl
quiet_none volatile s t (Enter m) x e = refl
quiet_none volatile s t (Call n) x e = refl
quiet_none volatile s t (Return n v) x e = refl
quiet_none volatile s t (Trap n kind) x e = refl

-- a thread whose next action is an access acts
pub acts_if : (volatile : Volatile) (s : Store) (d : Did) (a : Access) → access_by volatile s d ≡ Some a → IsActing d
acts_if volatile s (did.Acted action answer) a e = tt
acts_if volatile s did.Waits a e = absurd (not_some a e)
acts_if volatile s did.Idle a e = absurd (not_some a e)

module _ (volatile : Volatile) (file : File)
    (setup : (a : Action Value) (x : Answer Value) → by_cells no_cells 0 a x ≡ false)
    (reading : (t : ℕ) (a : Action Value) (x : Answer Value) → by_cells no_cells t a x ≡ true → IsReading a) where
  abbrev IsQuick : Configuration → ℕ → Type 0
  IsQuick c w = Quick (by_cells no_cells) file setup reading c w

  abbrev after_quick : (c : Configuration) (w : ℕ) → IsQuick c w → Configuration
  after_quick c w k = told c w c.store k.answer

  quick_not_setup : (c : Configuration) (w : ℕ) → IsQuick c w → w ≢ 0
  quick_not_setup c w k z =
      false_not_true (sym (setup k.action k.answer)
      ∙ subst (λ n. by_cells no_cells n k.action k.answer ≡ true) z k.chosen)

  -- it is another thread
  is_other : (c : Configuration) (w t : ℕ) (k : IsQuick c w) (a : Access) →
      access_by volatile c.store (stride file c t).did ≡ Some a → t ≢ w
  is_other c w t k a e same =
      let at_w : access_by volatile c.store (stride file c w).did ≡ Some a =
      subst (λ n. access_by volatile c.store (stride file c n).did ≡ Some a) same e in
      let is : access_by volatile c.store (stride file c w).did ≡ access_of volatile c.store k.action =
      ap (λ (p : Stride). access_by volatile c.store p.did) (quick_step (by_cells no_cells) file setup reading c w k) in
      not_some a (sym (quiet_none volatile c.store w k.action k.answer k.chosen) ∙ sym is ∙ at_w)

  -- which does the same afterwards
  same_access : (c : Configuration) (w t : ℕ) (k : IsQuick c w) (a : Access) →
      access_by volatile c.store (stride file c t).did ≡ Some a →
      access_by volatile c.store (stride file (after_quick c w k) t).did ≡ Some a
  same_access c w t k a e =
      let acts = acts_of file c t (acts_if volatile c.store (stride file c t).did a e) in
      let later = acts_after file c t w k.answer (is_other c w t k a e) (quick_not_setup c w k) acts in
      ap (λ (p : Stride). access_by volatile c.store p.did) (stride_by file (after_quick c w k) t later)
      ∙ sym (ap (λ (p : Stride). access_by volatile c.store p.did) (stride_by file c t acts))
      ∙ e

  meets_after : (c : Configuration) (w : ℕ) (k : IsQuick c w) (on : Kind) → Meets volatile file c on →
      Meets volatile file (after_quick c w k) on
  meets_after c w k on m = record {
    one = m.one;
    other = m.other;
    apart = m.apart;
    first = m.first;
    second = m.second;
    first_is = same_access c w m.one k m.first m.first_is;
    second_is = same_access c w m.other k m.second m.second_is;
    conflict = m.conflict;
    kind = m.kind;
  }

  meets_along : (ts : List ℕ) (c last : Configuration) (on : Kind) →
      Runs (by_cells no_cells) file setup reading c ts last →
      Meets volatile file c on → Meets volatile file last on
  meets_along [] c last on r m = subst (λ k. Meets volatile file k on) r m
  meets_along (t ∷ ts) c last on r m =
      meets_along ts (after_quick c t r.0) last on r.1 (meets_after c t r.0 on m)

  -- so the meeting is still there after steps that are taken at once
  pub meets_ahead : (ts : List ℕ) (c last : Configuration) (on : Kind) → LeadsTo (by_cells no_cells) file c ts last →
      Meets volatile file c on → Meets volatile file last on
  meets_ahead ts c last on leads m =
      meets_along ts c last on (runs_of (by_cells no_cells) file setup reading ts c last leads) m
