-- Accesses that meet in programs that are alike but for the numbers of threads.
use Rattle.std.proofs.Common.{◌≡◌, ◌∙◌, ℕ, ℤ, Bool, true, false, Option, Some, None, List, map, option_map, refl, ap}
use Rattle.ls_events.specs.declared.value.Value.{Value}
use Rattle.ls_events.specs.declared.action.Action.{Action}
use Rattle.ls_events.specs.declared.action.Action.TheVariants.{ReadField, WriteField, ReadItem, WriteItem}
use Rattle.ls_checked.specs.CheckedTree.{File}
use Rattle.ls_checked.specs.CheckedProgram.{Program}
use Rattle.ls_meaning.specs.declared.step.Did.{Did}
use Rattle.ls_meaning.specs.declared.step.Did.TheVariants as did
use Rattle.ls_meaning.specs.Runs.{source_run, step}
use Rattle.ls_meaning.specs.Store.{Thing, Object, LockOf, Markable, Array, Store, thing_at}
use Rattle.ls_race_laws.specs.Accesses.{Volatile, access_of, of_field, of_item}
use Rattle.ls_race_laws.specs.declared.access.Access.{Access}
use Rattle.ls_race_laws.specs.declared.access.Kind.{Kind}
use Rattle.ls_race_laws.specs.Meeting.{MeetsAfter, access_by}
use Rattle.ls_exchanged.specs.Exchanged.{exchanged}
use Rattle.ls_exchanged.specs.Laws.{ExchangedNeverMeets}
use Rattle.ls_exchanged.proofs.Alike.{AreAlike, alike, apart, back, same_test}
use Rattle.ls_exchanged.proofs.Effects.{at_other, other_store, other_thing}
use Rattle.ls_exchanged.proofs.Runs.{steps, stores}

module _ (file : File) (f : ℕ → ℕ) (p q : Program) (r : AreAlike f p q) (volatile : Volatile) where
  -- ---- accesses

  field_other : (o i : ℕ) (writes : Bool) (t : Option Thing) →
      of_field volatile o i writes (option_map (other_thing f) t) ≡ of_field volatile o i writes t
  field_other o i writes None = refl
  field_other o i writes (Some (Object monitor fields)) = refl
  field_other o i writes (Some (LockOf hold)) = refl
  field_other o i writes (Some (Markable pair)) = refl
  field_other o i writes (Some (Array size items)) = refl

  item_other : (o : ℕ) (i : ℤ) (writes : Bool) (t : Option Thing) →
      of_item o i writes (option_map (other_thing f) t) ≡ of_item o i writes t
  item_other o i writes None = refl
  item_other o i writes (Some (Object monitor fields)) = refl
  item_other o i writes (Some (LockOf hold)) = refl
  item_other o i writes (Some (Markable pair)) = refl
  item_other o i writes (Some (Array size items)) = refl

  there : (s : Store) (o : ℕ) → thing_at (other_store f s) o ≡ option_map (other_thing f) (thing_at s o)
  there s o = at_other f (same_test f r.twice) s o

  action_other : (s : Store) (a : Action Value) → access_of volatile (other_store f s) a ≡ access_of volatile s a
  action_other s (ReadField o i) = ap (of_field volatile o i false) (there s o) ∙ field_other o i false (thing_at s o)
  action_other s (WriteField o i v) = ap (of_field volatile o i true) (there s o) ∙ field_other o i true (thing_at s o)
  action_other s (ReadItem o i) = ap (of_item o i false) (there s o) ∙ item_other o i false (thing_at s o)
  action_other s (WriteItem o i v) = ap (of_item o i true) (there s o) ∙ item_other o i true (thing_at s o)
  action_other s _ = refl

  did_other : (s : Store) (d : Did) → access_by volatile (other_store f s) d ≡ access_by volatile s d
  did_other s (did.Acted a answer) = action_other s a
  did_other s did.Waits = refl
  did_other s did.Idle = refl

  -- ---- runs

  -- the next access of the thread with the other number is the same
  next_other : (schedule : List ℕ) (t : ℕ) →
      access_by volatile (source_run file q (map f schedule)).store
      (step file q (source_run file q (map f schedule)) (f t)).did ≡
      access_by volatile (source_run file p schedule).store (step file p (source_run file p schedule) t).did
  next_other schedule t =
      ap (access_by volatile (source_run file q (map f schedule)).store) (steps file f p q r schedule t)
      ∙ ap (λ s. access_by volatile s (step file p (source_run file p schedule) t).did)
      (stores file f p q r schedule)
      ∙ did_other (source_run file p schedule).store (step file p (source_run file p schedule) t).did

  -- accesses that meet do so under other numbers
  pub meets_other : (schedule : List ℕ) (on : Kind) → MeetsAfter volatile file p schedule on →
      MeetsAfter volatile file q (map f schedule) on
  meets_other schedule on m = record {
    one = f m.one;
    other = f m.other;
    apart = λ e. m.apart (apart f r.twice m.one m.other e);
    first = m.first;
    second = m.second;
    first_is = next_other schedule m.one ∙ m.first_is;
    second_is = next_other schedule m.other ∙ m.second_is;
    conflict = m.conflict;
    kind = m.kind;
  }

-- If accesses of two threads of a program never meet, none do with two threads exchanged.
pub never_meets : ExchangedNeverMeets
never_meets volatile file u v p q e none schedule on m =
    let f = exchanged u v in
    let b = alike u v q p (back u v p q e) in
    none (map f schedule) on (meets_other file f q p b volatile schedule on m)
