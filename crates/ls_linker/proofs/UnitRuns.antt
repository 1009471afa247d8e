-- The units lie in the linked code.
use Rattle.std.proofs.Common.{◌≡◌, ℕ, zero, suc, ◌+◌, ◌≤◌, List, [], ◌∷◌, ◌++◌, length, map, Some, slice_get, refl, sym}
use Rattle.std.proofs.Common.{ap, ◌∙◌, subst, arith, append_assoc, length-append}
use Rattle.std.specs.Prelude.{All}
use Rattle.std.proofs.lemmas.List.{length-map}
use Rattle.std.proofs.lemmas.List.Elements.{All-head, All-tail}
use Rattle.ls_code.specs.Code.{Code}
use Rattle.ls_code.specs.Throws.{find_row}
use Rattle.ls_code.specs.declared.instruction.Instruction.{Instruction}
use Rattle.ls_code.specs.declared.instruction.Instruction.TheVariants as op
use Rattle.ls_code.specs.declared.code.HandlerRow.{HandlerRow}
use Rattle.ls_code.specs.declared.code.Method.{Method as MethodRow}
use Rattle.ls_lowered.specs.LoweredTree.{Statement, Block, SetLocal, SetField, AddField, SetItem, Evaluate, If, While}
use Rattle.ls_lowered.specs.LoweredTree.{Return, Try, Guarded, Throw, Leavable, Leave, Statements, Done, Then, Method}
use Rattle.ls_lowered.specs.LoweredTree.{File}
use Rattle.ls_emit.specs.Expressions.{size}
use Rattle.ls_emit.specs.Statements.{row_of, statement_size, statements_size, exits_size, statement_code}
use Rattle.ls_emit.specs.Statements.{statement_rows, statements_rows, exits_rows}
use Rattle.ls_emit.specs.Units.{CodeUnit, moved, moved_row, method_code, unit_of, units_of, LiesAt, LieIn}
use Rattle.ls_linker.specs.Linked.{words_of, units_code, units_rows, method_rows}
use Rattle.ls_linker.specs.Units.{TakeAsMany}
use Rattle.ls_linker.proofs.UnitLists.{behind, in_front, get_map, RowsEnd, RowsFrom, end_append, end_more, from_append}
use Rattle.ls_linker.proofs.UnitLists.{from_less, rows_behind, rows_front}
use Rattle.ls_emit.proofs.StatementPlaces.{statement_size_is}

-- the rows of a statement end by the end of the statement
mutual
  rows_end : (s : Statement) (p : ℕ) → RowsEnd (p + statement_size s) (statement_rows p s)
  rows_end (Block ss) p = all_rows_end ss p
  rows_end (SetLocal n e) p = tt
  rows_end (SetField e f a) p = tt
  rows_end (AddField e f a) p = tt
  rows_end (SetItem a i e) p = tt
  rows_end (Evaluate e) p = tt
  rows_end (If e a b) p =
      end_append (p + statement_size (If e a b)) (statement_rows (p + size e + 1) a)
      (statement_rows (p + size e + statement_size a + 2) b)
      (end_more (p + size e + 1 + statement_size a) (p + statement_size (If e a b)) _ (omega arith)
      (rows_end a (p + size e + 1)))
      (end_more (p + size e + statement_size a + 2 + statement_size b) (p + statement_size (If e a b)) _ (omega arith)
      (rows_end b (p + size e + statement_size a + 2)))
  rows_end (While e s) p = end_more (p + size e + 1 + statement_size s) (p + statement_size (While e s)) _ (omega arith)
      (rows_end s (p + size e + 1))
  rows_end (Return e) p = tt
  rows_end (Try b f) p = tt
  rows_end (Guarded b n h) p =
      end_append (p + statement_size (Guarded b n h)) (statement_rows p b)
      (row_of p (statement_size b) ∷ statement_rows (p + statement_size b + 2) h)
      (end_more (p + statement_size b) (p + statement_size (Guarded b n h)) _ (omega arith) (rows_end b p)) (
        omega arith,
        end_more (p + statement_size b + 2 + statement_size h) (p + statement_size (Guarded b n h)) _
            (omega arith) (rows_end h (p + statement_size b + 2)),
      )
  rows_end (Throw n) p = tt
  rows_end (Leavable b xs) p =
      end_append (p + statement_size (Leavable b xs)) (statement_rows p b) (exits_rows (p + statement_size b) xs)
      (end_more (p + statement_size b) (p + statement_size (Leavable b xs)) _ (omega arith) (rows_end b p))
      (end_more (p + statement_size b + exits_size xs) (p + statement_size (Leavable b xs)) _ (omega arith)
      (exit_rows_end xs (p + statement_size b)))
  rows_end (Leave n) p = tt

  all_rows_end : (ss : Statements) (p : ℕ) → RowsEnd (p + statements_size ss) (statements_rows p ss)
  all_rows_end Done p = tt
  all_rows_end (Then s ss) p =
      end_append (p + statements_size (Then s ss)) (statement_rows p s) (statements_rows (p + statement_size s) ss)
      (end_more (p + statement_size s) (p + statements_size (Then s ss)) _ (omega arith) (rows_end s p))
      (end_more (p + statement_size s + statements_size ss) (p + statements_size (Then s ss)) _ (omega arith)
      (all_rows_end ss (p + statement_size s)))

  exit_rows_end : (xs : Statements) (p : ℕ) → RowsEnd (p + exits_size xs) (exits_rows p xs)
  exit_rows_end Done p = tt
  exit_rows_end (Then x xs) p =
      end_append (p + exits_size (Then x xs)) (statement_rows (p + 1) x) (exits_rows (p + 1 + statement_size x) xs)
      (end_more (p + 1 + statement_size x) (p + exits_size (Then x xs)) _ (omega arith) (rows_end x (p + 1)))
      (end_more (p + 1 + statement_size x + exits_size xs) (p + exits_size (Then x xs)) _ (omega arith)
      (exit_rows_end xs (p + 1 + statement_size x)))

-- the rows of each unit end within it
abbrev pub AllWithin : List CodeUnit → Type 0
AllWithin [] = Unit {0}
AllWithin (u ∷ us) = RowsEnd (length u.instructions) u.handlers × AllWithin us

method_size_is : (m : Method) → length (method_code 0 m) ≡ statement_size m.body + 2
method_size_is m = omega (
  arith,
  length-append (statement_code [] 0 m.body) (op.Push 0 ∷ op.LeaveWith ∷ []),
  statement_size_is m.body [] 0,
)

-- no row of an emitted unit reaches beyond its unit
pub all_within : (ms : File) → AllWithin (units_of ms)
all_within [] = tt
all_within (m ∷ ms) = (
  end_more (0 + statement_size m.body) (length (method_code 0 m)) (statement_rows 0 m.body)
      (omega (arith, method_size_is m)) (rows_end m.body 0),
  all_within ms,
)

moved_end : (s n : ℕ) (rs : List HandlerRow) → RowsEnd n rs → RowsEnd (s + n) (map (moved_row s) rs)
moved_end s n [] h = tt
moved_end s n (r ∷ rs) h = (omega (arith, h.0), moved_end s n rs h.1)

moved_from : (s : ℕ) (rs : List HandlerRow) → RowsFrom s (map (moved_row s) rs)
moved_from s [] = tt
moved_from s (r ∷ rs) = (omega arith, moved_from s rs)

units_from : (us : List CodeUnit) (p : ℕ) → RowsFrom p (units_rows p us)
units_from [] p = tt
units_from (u ∷ us) p = from_append p (map (moved_row p) u.handlers) (units_rows (p + length u.instructions) us)
    (moved_from p u.handlers) (from_less p (p + length u.instructions) _ (omega arith)
    (units_from us (p + length u.instructions)))

-- the rows of units end by the end of the units
pub units_end : (us : List CodeUnit) (p : ℕ) → AllWithin us → RowsEnd (p + words_of us) (units_rows p us)
units_end [] p h = tt
units_end (u ∷ us) p h =
    let q = p + length u.instructions in
    end_append (p + words_of (u ∷ us)) (map (moved_row p) u.handlers) (units_rows q us)
    (end_more q (p + words_of (u ∷ us)) _ (omega arith) (moved_end p (length u.instructions) u.handlers h.0))
    (end_more (q + words_of us) (p + words_of (u ∷ us)) _ (omega arith) (units_end us q h.1))

-- how long the code of units is
pub units_long : (us : List CodeUnit) (p : ℕ) → length (units_code p us) ≡ words_of us
units_long [] p = refl
units_long (u ∷ us) p =
    let q = p + length u.instructions in
    omega (
      arith,
      length-append (map (moved p) u.instructions) (units_code q us),
      length-map u.instructions (moved p),
      units_long us q,
    )

-- the place of a unit
abbrev pub Lies : Code → ℕ → List MethodRow → ℕ → CodeUnit → Type 0
Lies c words rows m u =
    (start : ℕ) ×
    (slice_get rows m ≡ Some (record { start = start; arguments = u.arguments; more = u.more; need = u.need }))
    × (start + length u.instructions ≤ words) × LiesAt c start u

first_lies : (c : Code) (u : CodeUnit) (us : List CodeUnit) (p : ℕ) (pre post : List Instruction)
    (before after : List HandlerRow) →
    length pre ≡ p →
    RowsEnd p before →
    RowsFrom (p + words_of (u ∷ us)) after →
    c.instructions ≡ pre ++ (units_code p (u ∷ us) ++ post) → c.handlers ≡ before ++ (units_rows p (u ∷ us) ++ after) →
    LiesAt c p u
first_lies c u us p pre post before after n ends from ec er =
    let own = map (moved p) u.instructions in
    let own_rows = map (moved_row p) u.handlers in
    let q = p + length u.instructions in
    record {
      stands = λ place i e.
          ap (λ l. slice_get l (p + place)) ec
          ∙ ap (λ k. slice_get (pre ++ ((own ++ units_code q us) ++ post)) (k + place)) (sym n)
          ∙ behind pre ((own ++ units_code q us) ++ post) place
          ∙ in_front (own ++ units_code q us) post place (moved p i)
          (in_front own (units_code q us) place (moved p i) (get_map (moved p) u.instructions place i e));
      guards = λ place lt.
          ap (λ l. find_row l (p + place)) er
          ∙ rows_behind (p + place) before ((own_rows ++ units_rows q us) ++ after)
          (end_more p (p + place) before (omega arith) ends)
          ∙ rows_front (p + words_of (u ∷ us)) (p + place) (own_rows ++ units_rows q us) after (omega arith) from
          ∙ rows_front q (p + place) own_rows (units_rows q us) (omega arith) (units_from us q);
    }

units_lie : (c : Code) (us : List CodeUnit) (p : ℕ) (pre post : List Instruction) (before after : List HandlerRow) →
    length pre ≡ p →
    RowsEnd p before →
    RowsFrom (p + words_of us) after →
    AllWithin us →
    c.instructions ≡ pre ++ (units_code p us ++ post) → c.handlers ≡ before ++ (units_rows p us ++ after) →
    (m : ℕ) (u : CodeUnit) → slice_get us m ≡ Some u → Lies c (p + words_of us) (method_rows p us) m u
units_lie c [] p pre post before after n ends from within ec er m u e = cc
units_lie c (v ∷ us) p pre post before after n ends from within ec er zero u e =
    let same : v ≡ u = cc in
    subst (λ x. Lies c (p + words_of (v ∷ us)) (method_rows p (v ∷ us)) zero x) same
    (p, refl, omega arith, first_lies c v us p pre post before after n ends from ec er)
units_lie c (v ∷ us) p pre post before after n ends from within ec er (suc m) u e =
    let own = map (moved p) v.instructions in
    let own_rows = map (moved_row p) v.handlers in
    let q = p + length v.instructions in
    let r = units_lie c us q (pre ++ own) post (before ++ own_rows) after
    (omega (arith, length-append pre own, length-map v.instructions (moved p)))
    (end_append q before own_rows (end_more p q before (omega arith) ends)
    (moved_end p (length v.instructions) v.handlers within.0))
    (from_less (q + words_of us) (p + words_of (v ∷ us)) after (omega arith) from) within.1
    (ec ∙ ap (λ l. pre ++ l) (append_assoc own (units_code q us) post) ∙
    sym (append_assoc pre own (units_code q us ++ post)))
    (er ∙ ap (λ l. before ++ l) (append_assoc own_rows (units_rows q us) after) ∙
    sym (append_assoc before own_rows (units_rows q us ++ after)))
    m u e in
    (r.0, r.1, omega (arith, r.2), r.3)

-- after them come other instructions, with rows of their own
pub units_lie_in : (c : Code) (us : List CodeUnit) (post : List Instruction) (after : List HandlerRow) →
    AllWithin us →
    RowsFrom (words_of us) after →
    c.instructions ≡ units_code 0 us ++ post →
    c.handlers ≡ units_rows 0 us ++ after →
    c.methods ≡ method_rows 0 us → LieIn c (words_of us) us
units_lie_in c us post after within from ec er em = record {
  at = λ m u e.
      let r = units_lie c us 0 [] post [] after refl tt (from_less (0 + words_of us) (words_of us) after (omega arith)
      from) within ec er m u e in
      (r.0, ap (λ l. slice_get l m) em ∙ r.1, omega (arith, r.2), r.3);
}

-- the units lie in the whole code
pub lie_in : (c : Code) (ms : File) (post : List Instruction) (after : List HandlerRow) →
    RowsFrom (words_of (units_of ms)) after →
    c.instructions ≡ units_code 0 (units_of ms) ++ post →
    c.handlers ≡ units_rows 0 (units_of ms) ++ after →
    c.methods ≡ method_rows 0 (units_of ms) → LieIn c (words_of (units_of ms)) (units_of ms)
lie_in c ms post after from ec er em = units_lie_in c (units_of ms) post after (all_within ms) from ec er em

rows_within : (n : ℕ) (rs : List HandlerRow) → All (λ (r : HandlerRow). r.to ≤ n) rs → RowsEnd n rs
rows_within n [] h = tt
rows_within n (r ∷ rs) h =
    let P : HandlerRow → Type 0 = λ r. r.to ≤ n in
    (All-head P r rs h, rows_within n rs (All-tail P r rs h))

-- the same, of each element
pub each_within : (us : List CodeUnit) →
    All (λ (u : CodeUnit). All (λ (r : HandlerRow). r.to ≤ length u.instructions) u.handlers) us →
    AllWithin us
each_within [] h = tt
each_within (u ∷ us) h =
    let P : CodeUnit → Type 0 = λ u. All (λ (r : HandlerRow). r.to ≤ length u.instructions) u.handlers in
    (rows_within (length u.instructions) u.handlers (All-head P u us h), each_within us (All-tail P u us h))

-- those that are emitted take as many arguments as their methods
pub emitted_take : (ms : File) → TakeAsMany ms (units_of ms)
emitted_take ms n m e = (unit_of m, get_map unit_of ms n m e, refl)
