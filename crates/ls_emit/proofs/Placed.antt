-- Where a method's code lies in the whole code.
use Rattle.std.proofs.Common.{◌≡◌, ℕ, zero, suc, ◌+◌, ◌-◌, ◌<◌, ◌≤◌, List, [], ◌∷◌, length, Option, Some, None}
use Rattle.std.proofs.Common.{option_map, refl, sym, ap, ◌∙◌, subst, arith, slice_get, append-nil, length-append}
use Rattle.std.proofs.lemmas.Option.{none-some, same_Some, slice_get-map}
use Rattle.ls_code.specs.Code.{Code}
use Rattle.ls_code.specs.Throws.{find_row}
use Rattle.ls_code.specs.declared.code.HandlerRow.{HandlerRow}
use Rattle.ls_code.specs.declared.code.Method.{Method as MethodRow}
use Rattle.ls_code.specs.declared.instruction.Instruction.TheVariants as op
use Rattle.ls_lowered.specs.LoweredTree.{Method, File}
use Rattle.ls_emit.specs.Statements.{statement_code}
use Rattle.ls_emit.specs.Units.{method_size, method_code, method_rows, method_need, unit_of, units_of, LiesAt}
use Rattle.ls_emit.specs.Units.{LieIn}
use Rattle.ls_emit.specs.Emittable.{IsEmittableMethod, AllEmittable, IsEmittableFile}
use Rattle.ls_emit.specs.Entering.{TakesAll}
use Rattle.ls_emit.proofs.Places.{HasAt}
use Rattle.ls_emit.proofs.StatementPlaces.{statement_size_is, NoRow, row_behind}
use Rattle.ls_emit.proofs.StatementMoves.{method_moves, method_rows_move, stand_at}

-- the row of a method that begins at a place
abbrev pub row_at : ℕ → Method → MethodRow
row_at start g = record { start = start; arguments = g.arguments; more = g.locals; need = method_need g }

-- Method m in the whole code: its place, its code, and its rows, which are the ones that count there. It fits, and it
-- takes these values.
pub record Placed (file : File) (c : Code) (words m : ℕ) (values : List ℕ) : Type 0 where
  pub method : Method
  pub start : ℕ
  pub is : slice_get file m ≡ Some method
  pub row : slice_get c.methods m ≡ Some (row_at start method)
  pub within : start + method_size method ≤ words
  pub has : HasAt c.instructions start (method_code start method)
  pub guards : (p : ℕ) →
      start ≤ p →
      p < start + method_size method →
      find_row c.handlers p ≡ find_row (method_rows start method) p
  pub fits : IsEmittableMethod file method
  pub takes : length values ≡ method.arguments

emittable_at : (file : File) (ms : List Method) (m : ℕ) (g : Method) →
    AllEmittable file ms →
    slice_get ms m ≡ Some g →
    IsEmittableMethod file g
emittable_at file [] m g fits e = absurd (none-some g e)
emittable_at file (f ∷ ms) zero g fits e = subst (IsEmittableMethod file) (same_Some f g e) fits.0
emittable_at file (f ∷ ms) (suc m) g fits e = emittable_at file ms m g fits.1 e

-- if no row holds a place, none is found
pub no_row : (c : ℕ) (rows : List HandlerRow) → NoRow c rows → find_row rows c ≡ None
no_row c rows free = ap (λ l. find_row l c) (sym (append-nil rows)) ∙ row_behind c rows [] free

code_size : (g : Method) → length (method_code 0 g) ≡ method_size g
code_size g = omega (
  arith,
  length-append (statement_code [] 0 g.body) (op.Push 0 ∷ op.LeaveWith ∷ []),
  statement_size_is g.body [] 0,
)

module _ (file : File) (emittable : IsEmittableFile file) (c : Code) (words : ℕ) (lies : LieIn c words (units_of file))
  where
    placed_by : (o : Option Method) (m : ℕ) (values : List ℕ) →
        slice_get file m ≡ o →
        TakesAll o values →
        Placed file c words m values
    placed_by None m values e takes = absurd takes
    placed_by (Some g) m values e takes =
        let u : slice_get (units_of file) m ≡ Some (unit_of g) = slice_get-map unit_of file m ∙
        ap (option_map unit_of) e in
        let at = lies.at m (unit_of g) u in
        let start : ℕ = at.0 in
        let lie : LiesAt c start (unit_of g) = at.3 in
        let fits = emittable_at file file m g emittable e in
        record {
          method = g;
          start = start;
          is = e;
          row = at.1;
          within = omega (arith, at.2, code_size g);
          has = subst (HasAt c.instructions start) (method_moves start file (g.arguments + g.locals) g fits.body)
              (stand_at start c.instructions (method_code 0 g) start lie.stands);
          guards = λ p l1 l2.
              let back : start + (p - start) ≡ p = omega arith in
              subst (λ n. find_row c.handlers n ≡ find_row (method_rows start g) n) back
              (lie.guards (p - start) (omega (arith, code_size g)) ∙
              ap (λ l. find_row l (start + (p - start))) (method_rows_move start g));
          fits = fits;
          takes = takes;
        }

    -- each method of a file is so in the whole code
    pub placed : (m : ℕ) (values : List ℕ) → TakesAll (slice_get file m) values → Placed file c words m values
    placed m values takes = placed_by (slice_get file m) m values refl takes
