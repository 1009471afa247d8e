-- The small code of the rows has its method's unit.
use Rattle.std.proofs.Common.{◌≡◌, ◌≤◌, ℕ, zero, suc, ◌+◌, length, [], ◌∷◌, Some, option_map, slice_get, refl, ap}
use Rattle.std.proofs.Common.{subst, arith}
use Rattle.std.proofs.lemmas.Option.{none-some, same_Some}
use Rattle.ls_code.specs.declared.instruction.Instruction.{Instruction}
use Rattle.ls_emit.specs.Units.{CodeUnit, unit_of, units_of, moved, LiesAt}
use Rattle.ls_emit.specs.Rows.{reader, whole, Lies}

stands : (place : ℕ) (i : Instruction) →
    slice_get (unit_of reader).instructions place ≡ Some i →
    slice_get (whole 9).instructions (3 + place) ≡ Some (moved 3 i)
stands zero i e = ap (option_map (moved 3)) e
stands (suc zero) i e = ap (option_map (moved 3)) e
stands (suc (suc zero)) i e = ap (option_map (moved 3)) e
stands (suc (suc (suc zero))) i e = ap (option_map (moved 3)) e
stands (suc (suc (suc (suc zero)))) i e = ap (option_map (moved 3)) e
stands (suc (suc (suc (suc (suc n))))) i e = absurd (none-some i e)

lies : LiesAt (whole 9) 3 (unit_of reader)
lies = record { stands = stands; guards = λ place lt. refl }

abbrev At : ℕ → CodeUnit → Type 0
At m u = (start : ℕ) × (slice_get (whole 9).methods m ≡ Some
    (record { start = start; arguments = u.arguments; more = u.more; need = u.need })) ×
    (start + length u.instructions ≤ 8) × LiesAt (whole 9) start u

at : (m : ℕ) (u : CodeUnit) → slice_get (units_of (reader ∷ [])) m ≡ Some u → At m u
at zero u e = subst (At 0) (same_Some (unit_of reader) u e) (3, refl, omega arith, lies)
at (suc m) u e = absurd (none-some u e)

-- the code of the case has the method's unit
pub is_there : Lies
is_there = (
  record { at = at },
  (
    record { this = omega arith; locals = omega arith; body = (omega arith, omega arith) },
    tt,
  ),
)
