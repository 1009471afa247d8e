-- Plans: orders of the calls that are left, beginning with a set.
use Rattle.std.specs.Prelude.{◌≡◌, ◌⊎◌, Bool, true, false, not, List, [], ◌∷◌, Option, Some, None}
use Rattle.ls_orders.specs.declared.calls.Operation.{Operation}
use Rattle.ls_orders.specs.declared.calls.Operation.TheVariants.{Add, Remove, Contains}
use Rattle.ls_orders.specs.declared.calls.End.{End}
use Rattle.ls_orders.specs.declared.calls.End.TheVariants.{Pending, Returned, Trapped}
use Rattle.ls_orders.specs.declared.calls.SetCall.{SetCall}
use Rattle.ls_orders.specs.Rules.{ended_before}
use Rattle.ls_orders.specs.Legal.{Set, after}

-- ---- one call

-- whether the operation changes the set
abbrev pub turns : Operation → Bool → Bool
turns Add was = not was
turns Remove was = was
turns Contains was = false

-- whether the item has to be present before a call with this reply
abbrev pub needed : Operation → Bool → Bool
needed Add reply = not reply
needed Remove reply = reply
needed Contains reply = reply

-- A returned call comes where the set gives its reply. Another call comes only where it changes the set. None if the
-- call can't come.
abbrev pub want : End → Operation → Option Bool
want (Returned at (Some reply)) operation = Some (needed operation reply)
want (Returned at None) operation = None
want Pending Contains = None
want Pending operation = Some (needed operation true)
want (Trapped at) Contains = None
want (Trapped at) operation = Some (needed operation true)

abbrev pub wanted : SetCall → Option Bool
wanted c = want c.end c.operation

abbrev pub has_end : End → Bool
has_end Pending = false
has_end (Returned at reply) = true
has_end (Trapped at) = true

-- ---- lists of calls

abbrev pub Among : SetCall → List SetCall → Type 0
Among x [] = ⊥
Among x (y ∷ ys) = (y ≡ x) ⊎ Among x ys

-- y may come before x
pub record MayPrecede (y x : SetCall) : Type 0 where
  pub in_time : ended_before x.end y.called ≡ false
  pub apart : y.called ≡ x.called → ⊥

abbrev pub Ordered : List SetCall → Type 0
Ordered [] = Unit {0}
Ordered (y ∷ ys) = ((x : SetCall) → Among x ys → MayPrecede y x) × Ordered ys

abbrev pub Distinct : List SetCall → Type 0
Distinct [] = Unit {0}
Distinct (y ∷ ys) = ((x : SetCall) → Among x ys → y.called ≡ x.called → ⊥) × Distinct ys

abbrev pub Runs : Set → List SetCall → Type 0
Runs set [] = Unit {0}
Runs set (c ∷ cs) = (wanted c ≡ Some (set c.item)) × Runs (after set c) cs

-- An order of some of the calls. It has each call that has an end.
pub record IsPlan (set : Set) (rest calls : List SetCall) : Type 0 where
  pub inside : (c : SetCall) → Among c calls → Among c rest
  pub complete : (c : SetCall) → Among c rest → has_end c.end ≡ true → Among c calls
  pub ordered : Ordered calls
  pub run : Runs set calls
