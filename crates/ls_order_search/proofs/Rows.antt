-- The verdicts on small histories.
use Rattle.std.proofs.Common.{◌≡◌, [], ◌∷◌, true, false, refl}
use Rattle.std.specs.Prelude.{codes, pos, replicate}
use Rattle.ls_orders.specs.declared.calls.End.TheVariants.{Pending, Trapped}
use Rattle.ls_orders.specs.declared.calls.Operation.TheVariants.{Add}
use Rattle.ls_orders.specs.declared.calls.SetCall.{SetCall}
use Rattle.ls_order_search.specs.OrderLines.{order_line}
use Rattle.ls_order_search.specs.Telling.{foreign_text}
use Rattle.ls_order_search.specs.Trapped.{has_many_trapped}

pub no_call_line : order_line [] ≡ codes "\n"
no_call_line = refl

pub one_call_line : order_line (codes "A.1" ∷ []) ≡ codes "A.1\n"
one_call_line = refl

pub three_call_line : order_line (codes "A.1" ∷ codes "B.2" ∷ codes "A.2" ∷ []) ≡ codes "A.1 B.2 A.2\n"
three_call_line = refl

pub foreign_line : foreign_text (codes "A.2") ≡ codes "broken 76 A.2\n"
foreign_line = refl

abbrev trapped : SetCall
trapped = record { called = 0; operation = Add; item = pos 7; end = Trapped 1 }

abbrev other : SetCall
other = record { called = 0; operation = Add; item = pos 8; end = Trapped 1 }

abbrev pending : SetCall
pending = record { called = 0; operation = Add; item = pos 7; end = Pending }

pub twelve_are_few : has_many_trapped (other ∷ (pending ∷ replicate 12 trapped)) ≡ false
twelve_are_few = refl

pub thirteen_are_many : has_many_trapped (other ∷ (pending ∷ replicate 13 trapped)) ≡ true
thirteen_are_many = refl
