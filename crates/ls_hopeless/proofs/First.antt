-- The first event with which a history ceases to be linearizable, by the table of a program.
use Rattle.std.proofs.Common.{◌≡◌, inl, Bool, true, false, ℕ, ◌+◌, ◌<◌, List, Option, None, Some, IfNone, IfSome}
use Rattle.std.proofs.Common.{arith, length, take, refl}
use Rattle.ls_checked.specs.CheckedProgram.{Program}
use Rattle.ls_checked.specs.CheckedTree.{File}
use Rattle.ls_events.specs.declared.event.Event.{Event}
use Rattle.ls_linearity.proofs.Decided.{left_is, lost_is_not, lost_within}
use Rattle.ls_linearity.specs.Followed.{IsLostAt, is_lost}
use Rattle.ls_linearity.specs.Meant.{IsUndecided}
use Rattle.ls_linearity.specs.Tabled.{IsTableOf}
use Rattle.ls_linearity.specs.declared.table.SerialTable.{SerialTable}
use Rattle.ls_linearizable.specs.Linearizable.{IsLinearizable}
use Rattle.ls_linearizable.specs.Once.{AreOnce}
use Rattle.ls_serial_orders.proofs.Ordering.{hopeless_at, order_exactly}
use Rattle.ls_serial_orders.specs.Orders.{IsHopeless}
use Rattle.ls_serial_search.specs.Told.{usual}
use Rattle.ls_hopeless.specs.Hopeless.{IsHopelessAt}
use Rattle.ls_hopeless.proofs.Ends.{once_first}

module _ (file : File) (program : Program) (t : SerialTable) (is : IsTableOf file program usual t) (h : List Event)
    (once : AreOnce h) where
  first_is : (at : ℕ) → at < length h → IsLinearizable file program (take at h) →
      ¬ IsLinearizable file program (take (at + 1) h) → IsHopeless file program h at
  first_is at within before with_it =
      let order = (order_exactly file program (take at h)).0 before in
      hopeless_at file program h at (at + 1) order.0 (omega arith) (omega arith) (omega arith) order.1 with_it

  -- where a call goes on, no serial run within the bound explains it
  pub undecided_is : t.goes_on ≡ true → ¬ IsLinearizable file program h → IsUndecided file program h
  undecided_is long bad = by_lost (is_lost t.rows.items h) refl
    where
      by_lost : (b : Bool) → is_lost t.rows.items h ≡ b → IsUndecided file program h
      by_lost true lost = inl (lost_within file program t is h once long lost)
      by_lost false left = absurd (bad (left_is file program t is h once left))

  -- and else the first event with which no pair is left is the first with which it isn't linearizable
  pub place_is : (some : Option ℕ) → t.goes_on ≡ false → ¬ IsLinearizable file program h →
      IfSome some (IsLostAt t.rows.items h) → IfNone some (is_lost t.rows.items h ≡ false) →
      IsHopelessAt file program h some
  place_is None known bad lost left = absurd (bad (left_is file program t is h once left))
  place_is (Some at) known bad lost left =
      first_is at lost.within (left_is file program t is (take at h) (once_first h at once) lost.before)
      (lost_is_not file program t is (take (at + 1) h) (once_first h (at + 1) once) known lost.with_it)
