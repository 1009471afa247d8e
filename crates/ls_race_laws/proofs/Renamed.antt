-- A meeting under other names of objects is one.
use Rattle.std.proofs.Common.{◌≡◌, ◌≢◌, ℕ, ℤ, Bool, true, false, List, Option, None, Some, option_map, length, map}
use Rattle.std.proofs.Common.{refl, sym, ap, ◌∙◌, subst}
use Rattle.std.specs.Prelude.{◌||◌}
use Rattle.std.proofs.lemmas.List.{length-map}
use Rattle.ls_events.specs.declared.value.Value.{Value}
use Rattle.ls_events.specs.declared.action.Action.{Action}
use Rattle.ls_events.specs.declared.action.Action.TheVariants.{ReadField, WriteField, ReadItem, WriteItem, ReadName}
use Rattle.ls_events.specs.declared.action.Action.TheVariants.{WriteName, New, NewLock, NewMarkable, NewArray, Lock}
use Rattle.ls_events.specs.declared.action.Action.TheVariants.{Unlock, TryLock, IsHeld, LockMonitor, UnlockMonitor}
use Rattle.ls_events.specs.declared.action.Action.TheVariants.{ReadPair, SetPair, SwapPair, AttemptMark, Turn, Enter}
use Rattle.ls_events.specs.declared.action.Action.TheVariants.{Call, Return, Trap}
use Rattle.ls_checked.specs.CheckedTree.{File}
use Rattle.ls_meaning.specs.declared.step.Did.{Did}
use Rattle.ls_meaning.specs.declared.step.Did.TheVariants as did
use Rattle.ls_meaning.specs.Effect.{in_range}
use Rattle.ls_meaning.specs.Store.{Thing, Object, LockOf, Markable, Array, Store, thing_at}
use Rattle.ls_meaning.specs.Renamings.{IsRenaming, renamed, renamed_action}
use Rattle.ls_search_laws.specs.Renaming.{IsRenamedStore, renamed_thing}
use Rattle.ls_search_laws.specs.Configuration.{Configuration, IsRenamed, renamed_did, stride}
use Rattle.ls_search_laws.proofs.Renamed.{stride_other}
use Rattle.ls_race_laws.specs.declared.access.Access.{Access}
use Rattle.ls_race_laws.specs.declared.access.Kind.{Kind}
use Rattle.ls_race_laws.specs.Accesses.{Conflict, Volatile, access_of, of_field, of_item, to_field, unless, when}
use Rattle.ls_race_laws.specs.Meeting.{Meets, access_by}

abbrev renamed_access : (ℕ → ℕ) → Access → Access
renamed_access names a = record { kind = a.kind; object = names a.object; index = a.index; writes = a.writes }

unless_renamed : (names : ℕ → ℕ) (b : Bool) (a : Access) →
    unless b (renamed_access names a) ≡ option_map (renamed_access names) (unless b a)
unless_renamed names true a = refl
unless_renamed names false a = refl

when_renamed : (names : ℕ → ℕ) (b : Bool) (a : Access) →
    when b (renamed_access names a) ≡ option_map (renamed_access names) (when b a)
when_renamed names true a = refl
when_renamed names false a = refl

field_renamed : (volatile : Volatile) (names : ℕ → ℕ) (o f : ℕ) (w : Bool) (t : Option Thing) →
    of_field volatile (names o) f w (option_map (renamed_thing names) t) ≡
    option_map (renamed_access names) (of_field volatile o f w t)
field_renamed volatile names o f w None = refl
field_renamed volatile names o f w (Some (Object monitor fields)) =
    ap (λ n. unless (volatile n f) (to_field (names o) n f w)) (length-map fields (renamed names))
    ∙ unless_renamed names (volatile (length fields) f) (to_field o (length fields) f w)
field_renamed volatile names o f w (Some (LockOf hold)) = refl
field_renamed volatile names o f w (Some (Markable pair)) = refl
field_renamed volatile names o f w (Some (Array size items)) = refl

item_renamed : (names : ℕ → ℕ) (o : ℕ) (i : ℤ) (w : Bool) (t : Option Thing) →
    of_item (names o) i w (option_map (renamed_thing names) t) ≡ option_map (renamed_access names) (of_item o i w t)
item_renamed names o i w None = refl
item_renamed names o i w (Some (Object monitor fields)) = refl
item_renamed names o i w (Some (LockOf hold)) = refl
item_renamed names o i w (Some (Markable pair)) = refl
item_renamed names o i w (Some (Array size items)) = when_renamed names (in_range i size) _

module _ (volatile : Volatile) (names : ℕ → ℕ) (s s' : Store) (store : IsRenamedStore names s s') where
  action_renamed : (a : Action Value) →
      access_of volatile s' (renamed_action names a) ≡ option_map (renamed_access names) (access_of volatile s a)
  action_renamed (ReadField o f) =
      ap (of_field volatile (names o) f false) (store.things o)
      ∙ field_renamed volatile names o f false (thing_at s o)
  action_renamed (WriteField o f v) =
      ap (of_field volatile (names o) f true) (store.things o)
      ∙ field_renamed volatile names o f true (thing_at s o)
  action_renamed (ReadItem o i) =
      ap (of_item (names o) i false) (store.things o) ∙ item_renamed names o i false (thing_at s o)
  action_renamed (WriteItem o i v) =
      ap (of_item (names o) i true) (store.things o) ∙ item_renamed names o i true (thing_at s o)
  action_renamed (ReadName n) = refl
  action_renamed (WriteName n v) = refl
  action_renamed (New c) = refl
  action_renamed NewLock = refl
  action_renamed (NewMarkable p) = refl
  action_renamed (NewArray n) = refl
  action_renamed (Lock o) = refl
  action_renamed (Unlock o) = refl
  action_renamed (TryLock o) = refl
  action_renamed (IsHeld o) = refl
  action_renamed (LockMonitor o) = refl
  action_renamed (UnlockMonitor o) = refl
  action_renamed (ReadPair o) = refl
  action_renamed (SetPair o p) = refl
  action_renamed (SwapPair o p q) = refl
  action_renamed (AttemptMark o r m) = refl
  action_renamed Turn = refl
  action_renamed (Enter m) = refl
  action_renamed (Call n) = refl
  action_renamed (Return n v) = refl
  action_renamed (Trap n kind) = refl

  did_renamed : (d : Did) →
      access_by volatile s' (renamed_did names d) ≡ option_map (renamed_access names) (access_by volatile s d)
  did_renamed (did.Acted action answer) = action_renamed action
  did_renamed did.Waits = refl
  did_renamed did.Idle = refl

-- what was renamed
record IsFrom (names : ℕ → ℕ) (o : Option Access) (a : Access) : Type 0 where
  pub access : Access
  pub is : o ≡ Some access
  pub same : renamed_access names access ≡ a

not_some : (a : Access) → None ≡ Some a → ⊥
not_some a h = cc

some_same : (a b : Access) → Some a ≡ Some b → a ≡ b
some_same a b h = cc

from_option : (names : ℕ → ℕ) (o : Option Access) (a : Access) → option_map (renamed_access names) o ≡ Some a →
    IsFrom names o a
from_option names None a e = absurd (not_some a e)
from_option names (Some b) a e = record { access = b; is = refl; same = some_same (renamed_access names b) a e }

module _ (volatile : Volatile) (file : File) (names : ℕ → ℕ) (is : IsRenaming names) (c c' : Configuration)
    (same : IsRenamed names c c') where
  access_from : (t : ℕ) (a : Access) → access_by volatile c'.store (stride file c' t).did ≡ Some a →
      IsFrom names (access_by volatile c.store (stride file c t).did) a
  access_from t a e =
      from_option names (access_by volatile c.store (stride file c t).did) a
      (sym (did_renamed volatile names c.store c'.store same.store (stride file c t).did)
      ∙ sym (ap (access_by volatile c'.store) (stride_other file names is c c' same t).did)
      ∙ e)

  pub meets_before : (on : Kind) → Meets volatile file c' on → Meets volatile file c on
  meets_before on m =
      let one = access_from m.one m.first m.first_is in
      let other = access_from m.other m.second m.second_is in
      record {
        one = m.one;
        other = m.other;
        apart = m.apart;
        first = one.access;
        second = other.access;
        first_is = one.is;
        second_is = other.is;
        conflict = record {
          kind = ap (λ (a : Access). a.kind) one.same ∙ m.conflict.kind ∙ sym (ap (λ (a : Access). a.kind) other.same);
          object = is.apart one.access.object other.access.object
              (ap (λ (a : Access). a.object) one.same ∙ m.conflict.object
              ∙ sym (ap (λ (a : Access). a.object) other.same));
          index = ap (λ (a : Access). a.index) one.same ∙ m.conflict.index
              ∙ sym (ap (λ (a : Access). a.index) other.same);
          writes = writes_same one.access m.first other.access m.second one.same other.same m.conflict;
        };
        kind = ap (λ (a : Access). a.kind) one.same ∙ m.kind;
      }
    where
      writes_same : (p p' q q' : Access) → renamed_access names p ≡ p' → renamed_access names q ≡ q' →
          (k : Conflict p' q') →
          (p.writes || q.writes) ≡ true
      writes_same p p' q q' e f k =
          ap (λ b. b || q.writes) (ap (λ (a : Access). a.writes) e)
          ∙ ap (λ b. p'.writes || b) (ap (λ (a : Access). a.writes) f)
          ∙ k.writes
