-- In one frame of a unit the places of silent steps rise, and so there are fewer than it has instructions.
use Rattle.std.proofs.Common.{◌≡◌, ℕ, zero, suc, ◌+◌, ◌<◌, ◌≤◌, List, [], ◌∷◌, ◌++◌, length, replicate, Bool, true}
use Rattle.std.proofs.Common.{false, ◌&&◌, nat_le, nat_lt, if◌then◌else◌, Option, Some, None, option_map, inl, inr}
use Rattle.std.proofs.Common.{refl, sym, ap, ◌∙◌, subst, arith, slice_get, length-append}
use Rattle.std.proofs.lemmas.List.{length-replicate}
use Rattle.std.proofs.lemmas.Option.{none-some, same_Some, slice_get-map}
use Rattle.ls_code.specs.Code.{Code}
use Rattle.ls_code.specs.Thread.{Thread}
use Rattle.ls_code.specs.Throws.{find_row}
use Rattle.ls_code.specs.declared.code.HandlerRow.{HandlerRow}
use Rattle.ls_code.specs.declared.code.Method.{Method as MethodRow}
use Rattle.ls_code.specs.declared.instruction.Instruction.{Instruction}
use Rattle.ls_code.specs.declared.instruction.Instruction.TheVariants as op
use Rattle.ls_lowered.specs.LoweredTree.{Statement, Block, SetLocal, SetField, AddField, SetItem, Evaluate, If, While}
use Rattle.ls_lowered.specs.LoweredTree.{Return, Try, Guarded, Throw, Leavable, Leave, Statements, Done, Then, Method}
use Rattle.ls_lowered.specs.LoweredTree.{File}
use Rattle.ls_emit.specs.Expressions.{size}
use Rattle.ls_emit.specs.Statements.{statement_size, statement_code, row_of, statement_rows, statements_rows}
use Rattle.ls_emit.specs.Statements.{exits_rows}
use Rattle.ls_emit.specs.Units.{CodeUnit, method_size, method_code, method_rows, unit_of, units_of, LieIn}
use Rattle.ls_emit.specs.Emittable.{IsEmittableFile}
use Rattle.ls_emit.specs.Entering.{TakesAll}
use Rattle.ls_emit.proofs.Places.{HasAt}
use Rattle.ls_emit.proofs.StatementPlaces.{statement_size_is}
use Rattle.ls_emit.proofs.Placed.{row_at, Placed, placed}
use Rattle.ls_linker.specs.Quick.{InFrame, FramesAreQuick}
use Rattle.ls_code.specs.Exchanges.{Plan}
use Rattle.ls_code.specs.Steps.{Move, Silent, Plans, thread_move, fetched_move}
use Rattle.ls_linker.proofs.Silent.{IsASee, Ahead, Back, AllBehind, AllAt, turned}
use Rattle.ls_linker.proofs.SilentStatements.{RowsLead, rows_lead, method_ahead}
use Rattle.ls_linker.proofs.Onward.{Onto, silent_on, find_leads}

-- SEE is at a place
abbrev IsSee : List Instruction → ℕ → Type 0
IsSee whole x = IsASee (slice_get whole x)

-- the instruction at a place
abbrev Found : ℕ → List Instruction → ℕ → Type 0
Found n whole p = (i : Instruction) × (slice_get whole p ≡ Some i) × Ahead n (IsSee whole) p i

look_by : (n : ℕ) (whole : List Instruction) (start p : ℕ) (i : Instruction) →
    slice_get whole start ≡ Some i →
    Ahead n (IsSee whole) start i →
    start ≡ p →
    Found n whole p
look_by n whole start p i has a e = subst (Found n whole) e (i, has, a)

-- what is known of the instructions two places and one place before
abbrev Knows : List Instruction → ℕ → Option Instruction → Option Instruction → Type 0
Knows whole start a b = ((x : ℕ) → x + 2 ≡ start → IsASee a → IsSee whole x) ×
    ((x : ℕ) → x + 1 ≡ start → IsASee b → IsSee whole x)

look : (n : ℕ) (whole : List Instruction) (a b : Option Instruction) (start : ℕ) (code : List Instruction) →
    HasAt whole start code →
    Knows whole start a b →
    AllBehind n a b start code →
    (p k : ℕ) →
    p ≡ start + k →
    k < length code →
    Found n whole p
look n whole a b start [] has knows all p k e l = absurd (let no : ⊥ = omega (arith, l) in no)
look n whole a b start (i ∷ is) has knows all p zero e l =
    look_by n whole start p i has.0 (turned n (Back n a start) (IsSee whole) (λ x h. knows.0 x h.0 h.1) start i all.0)
    (omega (arith, e))
look n whole a b start (i ∷ is) has knows all p (suc k) e l =
    look n whole b (Some i) (start + 1) is has.1 (
      λ x h. knows.1 x (omega (arith, h)),
      λ x h s. let here : start ≡ x = omega (arith, h) in
          subst (IsSee whole) here (s.0, has.0 ∙ s.1),
    ) all.1 p k (omega (arith, e)) (omega (arith, l))

-- no step from SEE is silent by the thread alone
see_stops : (c : Code) (k : ℕ) (t t' : Thread) → IsSee c.instructions t.top.counter → InFrame c k t t' → k ≡ 0
see_stops c zero t t' is h = refl
see_stops c (suc k) t t' is h = absurd (silent_or_plans (thread_move c t) (ap (fetched_move c t) is.1) h.2)
  where
    silent_or_plans : (d : Move) {go : ℕ → Plan} → d ≡ Plans go → d ≡ Silent h.1 → ⊥
    silent_or_plans d e f = cc

code_size : (start : ℕ) (g : Method) → length (method_code start g) ≡ method_size g
code_size start g = omega (
  arith,
  length-append (statement_code [] start g.body) (op.Push 0 ∷ op.LeaveWith ∷ []),
  statement_size_is g.body [] start,
)

apart : (start p : ℕ) → start ≤ p → (k : ℕ) × (p ≡ start + k)
apart zero p l = (p, omega arith)
apart (suc start) zero l = absurd (let no : ⊥ = omega (arith, l) in no)
apart (suc start) (suc p) l = let r = apart start p (omega (arith, l)) in (r.0, omega (arith, r.1))

module _ (n : ℕ) (c : Code) (start : ℕ) (code : List Instruction) (rows : List HandlerRow)
    (ends : start + length code ≡ n) (has : HasAt c.instructions start code) (all : AllAt n start code)
    (lead : RowsLead n rows)
    (guards : (p : ℕ) → start ≤ p → p < n → find_row c.handlers p ≡ find_row rows p) where
  rises_by : (k : ℕ) (t s t' : Thread) →
      start ≤ t.top.counter →
      Onto n (IsSee c.instructions) t.top.counter s.top.counter →
      InFrame c k s t' →
      (start ≤ s.top.counter → s.top.counter < n → s.top.counter + k < n) →
      t.top.counter + suc k < n
  rises_by k t s t' l (inl o) h rest = let r = rest (omega (arith, l, o.0)) o.1 in omega (arith, r, o.0)
  rises_by k t s t' l (inr o) h rest = omega (arith, o.0, see_stops c k s t' o.1 h)

  rises : (k : ℕ) (t t' : Thread) → start ≤ t.top.counter → t.top.counter < n → InFrame c k t t' → t.top.counter + k < n
  rises zero t t' l1 l2 h = omega (arith, l2)
  rises (suc k) t t' l1 l2 h =
      let a = apart start t.top.counter l1 in
      let i = look n c.instructions None None start code has
      (λ x e s. absurd (none-some (op.See s.0) s.1), λ x e s. absurd (none-some (op.See s.0) s.1)) all
      t.top.counter a.0 a.1 (omega (arith, a.1, l2, ends)) in
      let o = silent_on n (IsSee c.instructions) c t rows lead (guards t.top.counter l1 l2) i.0 i.1 i.2 h.1 h.2 h.3 in
      rises_by k t h.1 t' l1 o h.4 (λ l3 l4. rises k h.1 t' l3 l4 h.4)

some_by : (o : Option Method) (u : CodeUnit) → option_map unit_of o ≡ Some u → (values : List ℕ) × TakesAll o values
some_by None u e = absurd (none-some u e)
some_by (Some g) u e = (replicate g.arguments 0, length-replicate {A = ℕ} g.arguments 0)

-- no row of a statement begins before it
abbrev RowsFrom : ℕ → List HandlerRow → Type 0
RowsFrom lo [] = Unit {0}
RowsFrom lo (r ∷ rs) = (lo ≤ r.from) × RowsFrom lo rs

from_append : (lo : ℕ) (xs ys : List HandlerRow) → RowsFrom lo xs → RowsFrom lo ys → RowsFrom lo (xs ++ ys)
from_append lo [] ys h g = g
from_append lo (x ∷ xs) ys h g = (h.0, from_append lo xs ys h.1 g)

mutual
  rows_from : (lo : ℕ) (s : Statement) (p : ℕ) → lo ≤ p → RowsFrom lo (statement_rows p s)
  rows_from lo (Block ss) p l = all_rows_from lo ss p l
  rows_from lo (SetLocal k e) p l = tt
  rows_from lo (SetField e f a) p l = tt
  rows_from lo (AddField e f a) p l = tt
  rows_from lo (SetItem a i e) p l = tt
  rows_from lo (Evaluate e) p l = tt
  rows_from lo (If e a b) p l = from_append lo (statement_rows (p + size e + 1) a)
      (statement_rows (p + size e + statement_size a + 2) b) (rows_from lo a (p + size e + 1) (omega arith))
      (rows_from lo b (p + size e + statement_size a + 2) (omega arith))
  rows_from lo (While e s) p l = rows_from lo s (p + size e + 1) (omega arith)
  rows_from lo (Return e) p l = tt
  rows_from lo (Try b f) p l = tt
  rows_from lo (Guarded b k h) p l = from_append lo (statement_rows p b)
      (row_of p (statement_size b) ∷ statement_rows (p + statement_size b + 2) h) (rows_from lo b p l)
      (l, rows_from lo h (p + statement_size b + 2) (omega arith))
  rows_from lo (Throw k) p l = tt
  rows_from lo (Leavable b xs) p l = from_append lo (statement_rows p b) (exits_rows (p + statement_size b) xs)
      (rows_from lo b p l) (exit_rows_from lo xs (p + statement_size b) (omega arith))
  rows_from lo (Leave k) p l = tt

  all_rows_from : (lo : ℕ) (ss : Statements) (p : ℕ) → lo ≤ p → RowsFrom lo (statements_rows p ss)
  all_rows_from lo Done p l = tt
  all_rows_from lo (Then s ss) p l = from_append lo (statement_rows p s) (statements_rows (p + statement_size s) ss)
      (rows_from lo s p l) (all_rows_from lo ss (p + statement_size s) (omega arith))

  exit_rows_from : (lo : ℕ) (xs : Statements) (p : ℕ) → lo ≤ p → RowsFrom lo (exits_rows p xs)
  exit_rows_from lo Done p l = tt
  exit_rows_from lo (Then x xs) p l =
      from_append lo (statement_rows (p + 1) x) (exits_rows (p + 1 + statement_size x) xs)
      (rows_from lo x (p + 1) (omega arith)) (exit_rows_from lo xs (p + 1 + statement_size x) (omega arith))

found_if : (lo place : ℕ) (r : HandlerRow) (rs : List HandlerRow) (b : Bool) (row : HandlerRow) →
    lo ≤ r.from →
    (if b then Some r else find_row rs place) ≡ Some row →
    (find_row rs place ≡ Some row → lo ≤ row.from) →
    lo ≤ row.from
found_if lo place r rs true row l e rest = subst (λ (w : HandlerRow). lo ≤ w.from) (same_Some r row e) l
found_if lo place r rs false row l e rest = rest e

found_from : (lo : ℕ) (rs : List HandlerRow) (place : ℕ) (row : HandlerRow) →
    RowsFrom lo rs →
    find_row rs place ≡ Some row →
    lo ≤ row.from
found_from lo [] place row h e = absurd (none-some row e)
found_from lo (r ∷ rs) place row h e = found_if lo place r rs (nat_le r.from place && nat_lt place r.to) row h.0 e
    (λ is. found_from lo rs place row h.1 is)

module _ (file : File) (emittable : IsEmittableFile file) (c : Code) (words : ℕ) (lies : LieIn c words (units_of file))
    (m : ℕ) (u : CodeUnit) (row : MethodRow) (eu : slice_get (units_of file) m ≡ Some u)
    (er : slice_get c.methods m ≡ Some row) where
  -- the place of the unit
  pub record Lying : Type 0 where
    pub values : List ℕ
    pub at : Placed file c words m values
    pub first : at.start ≡ row.start
    pub long : method_size at.method ≡ length u.instructions

  lying : Lying
  lying =
      let some = some_by (slice_get file m) u (sym (slice_get-map unit_of file m) ∙ eu) in
      let at = placed file emittable c words lies m some.0 some.1 in
      let unit : unit_of at.method ≡ u = same_Some (unit_of at.method) u
      (sym (slice_get-map unit_of file m ∙ ap (option_map unit_of) at.is) ∙ eu) in
      record {
        values = some.0;
        at = at;
        first = ap (λ (x : MethodRow). x.start) (same_Some (row_at at.start at.method) row (sym at.row ∙ er));
        long = sym (code_size 0 at.method) ∙ ap (λ (x : CodeUnit). length x.instructions) unit;
      }

  pub quick_here : (k : ℕ) (t t' : Thread) →
      row.start ≤ t.top.counter →
      t.top.counter < row.start + length u.instructions →
      InFrame c k t t' →
      k < length u.instructions
  quick_here k t t' l1 l2 h =
      let w = lying in
      let g : Method = w.at.method in
      let start : ℕ = w.at.start in
      let n : ℕ = start + method_size g in
      let r = rises n c start (method_code start g) (method_rows start g) (ap (λ x. start + x) (code_size start g))
      w.at.has (method_ahead n file g start w.at.fits refl) (rows_lead n g.body start (omega arith)) w.at.guards
      k t t' (omega (arith, l1, w.first)) (omega (arith, l2, w.first, w.long)) h in
      omega (arith, r, l1, w.first, w.long)

  pub rows_here : (p : ℕ) →
      row.start ≤ p →
      p < row.start + length u.instructions →
      (r : HandlerRow) →
      find_row c.handlers p ≡ Some r →
      (row.start ≤ r.from) × (p < r.handler) × (r.handler < row.start + length u.instructions)
  rows_here p l1 l2 r e =
      let w = lying in
      let g : Method = w.at.method in
      let start : ℕ = w.at.start in
      let n : ℕ = start + method_size g in
      let here : find_row (method_rows start g) p ≡ Some r = sym
      (w.at.guards p (omega (arith, l1, w.first)) (omega (arith, l2, w.first, w.long))) ∙ e in
      let ahead = find_leads n (method_rows start g) p r (rows_lead n g.body start (omega arith)) here in
      let from = found_from start (method_rows start g) p r (rows_from start g.body start (omega arith)) here in
      (omega (arith, from, w.first), ahead.0, omega (arith, ahead.1, w.first, w.long))

-- the law: the frames of emitted units are quick
pub frames_quick : (file : File) → IsEmittableFile file → FramesAreQuick file
frames_quick file emittable c words lies = record {
  there = λ m u e. (let at = lies.at m u e in (_, at.1));
  quick = λ m u row eu er k t t' l1 l2 h. quick_here file emittable c words lies m u row eu er k t t' l1 l2 h;
  rows = λ m u row eu er p l1 l2 r e. rows_here file emittable c words lies m u row eu er p l1 l2 r e;
}
