-- Whether events are the same.
use Rattle.std.specs.Prelude.{◌≡◌, ℕ, nat_eq, ℤ, pos, Bool, false, ◌&&◌, Some, None, Decides}
use Rattle.std.specs.Bool.{beq}
use Rattle.std.specs.Ordering.{int_eq}
use Rattle.ls_events.specs.declared.event.Event.{Event}
use Rattle.ls_events.specs.declared.event.Happening.{Happening}
use Rattle.ls_events.specs.declared.event.Happening.TheVariants.{Called, Returned, Trapped}
use Rattle.ls_events.specs.declared.kind.Kind.{Kind}
use Rattle.ls_events.specs.declared.kind.Kind.TheVariants as kind
use Rattle.ls_events.specs.declared.value.Value.TheVariants.{Int, Boolean, Reference, Pair}

-- whether events are the same
abbrev pub IsTest : (Event → Event → Bool) → Type 0
IsTest same = (a b : Event) → Decides (same a b) (a ≡ b)

-- what happened, in numbers: which form it has, and what that holds
pub record Digest : Type 0 where
  pub form : ℕ
  pub number : ℤ
  pub reference : ℕ
  pub mark : Bool

abbrev pub digest : ℕ → ℤ → ℕ → Bool → Digest
digest form number reference mark = record { form = form; number = number; reference = reference; mark = mark }

abbrev pub kind_form : Kind → ℕ
kind_form kind.Arithmetic = 0
kind_form kind.NullPointer = 1
kind_form kind.ArrayIndexOutOfBounds = 2
kind_form kind.NegativeArraySize = 3
kind_form kind.IllegalMonitorState = 4
kind_form kind.StackOverflow = 5
kind_form kind.Error = 6

abbrev pub digest_of : Happening → Digest
digest_of Called = digest 0 (pos 0) 0 false
digest_of (Returned None) = digest 1 (pos 0) 0 false
digest_of (Returned (Some (Int n))) = digest 2 n 0 false
digest_of (Returned (Some (Boolean b))) = digest 3 (pos 0) 0 b
digest_of (Returned (Some (Reference r))) = digest 4 (pos 0) r false
digest_of (Returned (Some (Pair r m))) = digest 5 (pos 0) r m
digest_of (Trapped k) = digest 6 (pos 0) (kind_form k) false

abbrev pub same_digest : Digest → Digest → Bool
same_digest a b =
    nat_eq a.form b.form && (int_eq a.number b.number && (nat_eq a.reference b.reference && beq a.mark b.mark))

abbrev pub same_event : Event → Event → Bool
same_event a b =
    nat_eq a.thread b.thread && (nat_eq a.call b.call && same_digest (digest_of a.happening) (digest_of b.happening))
