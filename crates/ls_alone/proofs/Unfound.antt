-- Faults that were found of no call.
use Rattle.std.proofs.Common.{◌≡◌, Option, Some, None, IfNone, refl}

-- what is so if there is none
pub if_none : {A P : Type 0} (o : Option A) → (o ≡ None → P) → IfNone o P
if_none None so = so refl
if_none (Some x) so = tt
