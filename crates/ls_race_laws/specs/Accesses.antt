-- Accesses to variables that aren't volatile (JLS 17.4.1).
use Rattle.std.specs.Prelude.{◌≡◌, ◌||◌, ℕ, ℤ, Bool, true, false, Option, None, Some, length, unsigned_abs}
use Rattle.ls_events.specs.declared.value.Value.{Value}
use Rattle.ls_events.specs.declared.action.Action.{Action}
use Rattle.ls_events.specs.declared.action.Action.TheVariants.{ReadField, WriteField, ReadItem, WriteItem}
use Rattle.ls_meaning.specs.Store.{Thing, Object, LockOf, Markable, Array, Store, thing_at}
use Rattle.ls_meaning.specs.Effect.{in_range}
use Rattle.ls_race_laws.specs.declared.access.Access.{Access}
use Rattle.ls_race_laws.specs.declared.access.Kind.TheVariants.{Field, Element}

-- Whether a field is volatile, by how many fields its object has and by its number. An object of the store has no
-- class.
abbrev pub Volatile : Type 0
Volatile = (fields field : ℕ) → Bool

abbrev pub unless : Bool → Access → Option Access
unless true a = None
unless false a = Some a

abbrev pub when : Bool → Access → Option Access
when true a = Some a
when false a = None

abbrev pub to_field : ℕ → ℕ → ℕ → Bool → Access
to_field o fields f writes = record { kind = Field fields f; object = o; index = 0; writes = writes }

-- a volatile field is none
abbrev pub of_field : Volatile → ℕ → ℕ → Bool → Option Thing → Option Access
of_field volatile o f writes None = None
of_field volatile o f writes (Some (Object monitor fields)) =
    unless (volatile (length fields) f) (to_field o (length fields) f writes)
of_field volatile o f writes (Some (LockOf hold)) = None
of_field volatile o f writes (Some (Markable pair)) = None
of_field volatile o f writes (Some (Array size items)) = None

abbrev pub to_item : ℕ → ℕ → Bool → Access
to_item a i writes = record { kind = Element; object = a; index = i; writes = writes }

-- No element is volatile. An index that is out of range is one of no element.
abbrev pub of_item : ℕ → ℤ → Bool → Option Thing → Option Access
of_item a i writes None = None
of_item a i writes (Some (Object monitor fields)) = None
of_item a i writes (Some (LockOf hold)) = None
of_item a i writes (Some (Markable pair)) = None
of_item a i writes (Some (Array size items)) = when (in_range i size) (to_item a (unsigned_abs i) writes)

-- Setup names aren't variables of Java: the setup alone writes them, and it happens before the start of each thread.
abbrev pub access_of : Volatile → Store → Action Value → Option Access
access_of volatile s (ReadField o f) = of_field volatile o f false (thing_at s o)
access_of volatile s (WriteField o f v) = of_field volatile o f true (thing_at s o)
access_of volatile s (ReadItem a i) = of_item a i false (thing_at s a)
access_of volatile s (WriteItem a i v) = of_item a i true (thing_at s a)
access_of volatile s _ = None

-- to one variable, and one writes
pub record Conflict (p q : Access) : Type 0 where
  pub kind : p.kind ≡ q.kind
  pub object : p.object ≡ q.object
  pub index : p.index ≡ q.index
  pub writes : (p.writes || q.writes) ≡ true
