-- The keys of open calls.
use Rattle.std.proofs.Common.{◌≡◌, ◌∙◌, ℕ, ℤ, Bool, true, false, Option, Some, None, refl, sym, ap, is_gt, is_lt}
use Rattle.std.proofs.Common.{nat_cmp, int_cmp}
use Rattle.std.specs.Ordering.{bool_cmp}
use Rattle.std.specs.Cmp.{IsTotalOrder, bool_cmp_total}
use Rattle.std.proofs.lemmas.Bool.{true≢false}
use Rattle.std.proofs.lemmas.Cmp.{int_cmp_total, nat_cmp_total, on_total, then_total}
use Rattle.std.proofs.lemmas.Map.Lookups.{CmpEqualImpliesEq, exact_pairs, exact_signed, exact_unsigned}
use Rattle.std.proofs.lemmas.Option.{same_Some}
use Rattle.std.specs.Prelude.{option_map}
use Rattle.ls_orders.specs.declared.calls.SetCall.{SetCall}
use Rattle.ls_order_search.specs.declared.pool.Ending.{Ending}
use Rattle.ls_order_search.specs.declared.pool.Turn.{Turn}
use Rattle.ls_order_search.specs.Plans.{wanted}
use Rattle.ls_order_search.specs.Pools.{ending_cmp, ending_of, place_of, turn_at, turn_cmp, turn_of}
use Rattle.ls_order_search.proofs.Indexes.{None≢Some}

-- ---- the orders

pub exact_bool : CmpEqualImpliesEq bool_cmp
exact_bool false false h = refl
exact_bool true true h = refl
exact_bool false true h = absurd (true≢false (ap is_lt h))
exact_bool true false h = absurd (true≢false (ap is_gt h))

abbrev Parts : Type 0
Parts = ℤ × (Bool × (Bool × (Bool × (ℕ × ℕ))))

abbrev parts : Turn → Parts
parts t = (t.item, (t.present, (t.turns, (t.pending, (t.end, t.called)))))

abbrev whole : Parts → Turn
whole p = record {
  item = p.0;
  present = p.1.0;
  turns = p.1.1.0;
  pending = p.1.1.1.0;
  end = p.1.1.1.1.0;
  called = p.1.1.1.1.1;
}

pub turn_exact : CmpEqualImpliesEq turn_cmp
turn_exact a b h = ap whole (exact_pairs int_cmp _ exact_signed (exact_pairs bool_cmp _ exact_bool
    (exact_pairs bool_cmp _ exact_bool (exact_pairs bool_cmp _ exact_bool
    (exact_pairs nat_cmp nat_cmp exact_unsigned exact_unsigned)))) (parts a) (parts b) h)

pub turn_total : IsTotalOrder turn_cmp
turn_total = then_total (on_total (λ (t : Turn). t.item) int_cmp_total)
    (then_total (on_total (λ (t : Turn). t.present) bool_cmp_total)
    (then_total (on_total (λ (t : Turn). t.turns) bool_cmp_total)
    (then_total (on_total (λ (t : Turn). t.pending) bool_cmp_total)
    (then_total (on_total (λ (t : Turn). t.end) nat_cmp_total) (on_total (λ (t : Turn). t.called) nat_cmp_total)))))

pub ending_exact : CmpEqualImpliesEq ending_cmp
ending_exact a b h = ap (λ (p : ℕ × ℕ). record { at = p.0; called = p.1 })
    (exact_pairs nat_cmp nat_cmp exact_unsigned exact_unsigned (a.at, a.called) (b.at, b.called) h)

pub ending_total : IsTotalOrder ending_cmp
ending_total = then_total (on_total (λ (t : Ending). t.at) nat_cmp_total) (on_total (λ (t : Ending). t.called)
    nat_cmp_total)

-- ---- the calls of a key

turn_by : (c : SetCall) (w : Option Bool) (k : Turn) →
    option_map (turn_at c) w ≡ Some k →
    (present : Bool) × (w ≡ Some present) × (turn_at c present ≡ k)
turn_by c None k e = absurd (None≢Some k e)
turn_by c (Some p) k e = (p, refl, same_Some (turn_at c p) k e)

pub turn_is : (c : SetCall) (k : Turn) →
    turn_of c ≡ Some k →
    (present : Bool) × (wanted c ≡ Some present) × (turn_at c present ≡ k)
turn_is c k e = turn_by c (wanted c) k e

ending_by : (c : SetCall) (w : Option ℕ) (k : Ending) →
    option_map (λ at. record { at = at; called = c.called }) w ≡ Some k →
    (place : ℕ) × (w ≡ Some place) × (record { at = place; called = c.called } ≡ k)
ending_by c None k e = absurd (None≢Some k e)
ending_by c (Some p) k e = (p, refl, same_Some (record { at = p; called = c.called }) k e)

pub ending_is : (c : SetCall) (k : Ending) →
    ending_of c ≡ Some k →
    (place : ℕ) × (place_of c.end ≡ Some place) × (record { at = place; called = c.called } ≡ k)
ending_is c k e = ending_by c (place_of c.end) k e

pub turns_apart : (c d : SetCall) (k : Turn) → turn_of c ≡ Some k → turn_of d ≡ Some k → c.called ≡ d.called
turns_apart c d k e f = ap (λ (t : Turn). t.called) ((turn_is c k e).2 ∙ sym (turn_is d k f).2)

pub endings_apart : (c d : SetCall) (k : Ending) → ending_of c ≡ Some k → ending_of d ≡ Some k → c.called ≡ d.called
endings_apart c d k e f = ap (λ (t : Ending). t.called) ((ending_is c k e).2 ∙ sym (ending_is d k f).2)
