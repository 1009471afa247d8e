-- Words in which trees are written. `at k` stands for the place of the part with number k. A refusal gives that place
-- unchanged.
use Rattle.std.specs.Prelude.{ℕ, ◌+◌, pos, List, [], ◌∷◌, Option, Some, None, codes, true}
use Rattle.ls_lexer.specs.declared.token.Span.{Span}
use Rattle.ls_tree.specs.declared.tree.BinaryOp.{BinaryOp}
use Rattle.ls_events.specs.declared.value.Value.TheVariants as values
use Rattle.ls_events.specs.declared.value.ValueType.TheVariants as types
use Rattle.ls_checked.specs.CheckedTree as checked
use Rattle.ls_types_elaboration.specs.declared.rule.Rule.{Rule}
use Rattle.ls_types_elaboration.specs.declared.rule.Rule.TheVariants as rules
use Rattle.ls_types_elaboration.specs.Trees.{Text, Name, Declaration, Parameter, ClassTree}
use Rattle.ls_types_elaboration.specs.Trees as parsed
use Rattle.ls_types_elaboration.specs.Known.{Known, Local, ClassSign}

abbrev pub at : ℕ → Span
at k = record { start = k; end = k }

abbrev pub name : Text → ℕ → Name
name text k = record { text = text; span = at k }

-- ---- expressions as they are written, each with its place; a call, an access or a making has the place after its
-- name's

abbrev pub one : ℕ → parsed.Expression
one k = parsed.Number (codes "1") (at k)

abbrev pub yes : ℕ → parsed.Expression
yes k = parsed.True (at k)

abbrev pub nothing : ℕ → parsed.Expression
nothing k = parsed.Null (at k)

abbrev pub self : ℕ → parsed.Expression
self k = parsed.This (at k)

abbrev pub named : Text → ℕ → parsed.Expression
named text k = parsed.Named (name text k)

abbrev pub row : List parsed.Expression → parsed.Expressions
row [] = parsed.End
row (e ∷ es) = parsed.More e (row es)

abbrev pub both : BinaryOp → parsed.Expression → parsed.Expression → ℕ → parsed.Expression
both op left right k = parsed.Binary op left right (at k)

abbrev pub field : parsed.Expression → Text → ℕ → parsed.Expression
field e text k = parsed.Field e (name text k) (at (k + 1))

abbrev pub call : Text → List parsed.Expression → ℕ → parsed.Expression
call text es k = parsed.Call (name text k) (row es) (at (k + 1))

abbrev pub call_on : parsed.Expression → Text → List parsed.Expression → ℕ → parsed.Expression
call_on e text es k = parsed.CallOn e (name text k) (row es) (at (k + 1))

abbrev pub making : Text → List parsed.Expression → ℕ → parsed.Expression
making text es k = parsed.New (name text k) (row es) (at (k + 1))

abbrev pub making_markable : Text → List parsed.Expression → ℕ → parsed.Expression
making_markable text es k = parsed.NewMarkable (name text k) (row es) (at (k + 1))

-- ---- statements, members and classes as they are written

abbrev pub assign : parsed.Expression → parsed.Expression → parsed.Statement
assign target value = parsed.Perform (parsed.Assign target value)

abbrev pub evaluate : parsed.Expression → parsed.Statement
evaluate e = parsed.Perform (parsed.Evaluate e)

abbrev pub items : List parsed.Statement → parsed.Items
items [] = parsed.NoItem
items (s ∷ ss) = parsed.Do s (items ss)

abbrev pub variable : parsed.TypeName → Text → ℕ → Option parsed.Expression → Declaration
variable t text k e = record { type_name = t; first = record { name = name text k; value = e }; more = [] }

abbrev pub parameter : parsed.TypeName → Text → ℕ → Parameter
parameter t text k = record { type_name = t; name = name text k }

abbrev pub class : Text → ℕ → List parsed.Member → ClassTree
class text k members = record { name = name text k; members = members }

-- ---- checked expressions

abbrev pub int : ℕ → checked.Expression
int n = checked.Literal (values.Int (pos n))

abbrev pub truth : checked.Expression
truth = checked.Literal (values.Boolean true)

abbrev pub null : checked.Expression
null = checked.Literal (values.Reference 0)

abbrev pub passed : List checked.Expression → checked.Expressions
passed [] = checked.End
passed (e ∷ es) = checked.More e (passed es)

abbrev pub block : List checked.Statement → checked.Statements
block [] = checked.Done
block (s ∷ ss) = checked.Then s (block ss)

-- ---- what is wrong

-- another number of arguments than is wanted
abbrev pub arguments : ℕ → ℕ → Rule
arguments wanted found = rules.WrongArguments (record { wanted = wanted; found = found })

-- ---- two classes

-- class A { int i; boolean b; boolean[] a; A n; Lock l;
--   AtomicMarkableReference<A> r; B o; AtomicMarkableReference<B> q;
--   A(int x) { .. } int f(int x, boolean y) { .. } void v() { .. } }
abbrev pub first : ClassSign
first = record {
  fields =
      record { name = codes "i"; type = types.Int } ∷ record { name = codes "b"; type = types.Boolean }
      ∷ record { name = codes "a"; type = types.BooleanArray } ∷ record { name = codes "n"; type = types.Class 0 }
      ∷ record { name = codes "l"; type = types.Lock } ∷ record { name = codes "r"; type = types.Markable 0 }
      ∷ record { name = codes "o"; type = types.Class 1 } ∷ record { name = codes "q"; type = types.Markable 1 } ∷ [];
  methods =
      record { name = codes "f"; number = 1; parameters = types.Int ∷ types.Boolean ∷ []; result = Some types.Int }
      ∷ record { name = codes "v"; number = 2; parameters = []; result = None } ∷ [];
  constructor = 0;
  parameters = types.Int ∷ [];
}

-- class B { int j; int k; A g() { .. } }
abbrev pub second : ClassSign
second = record {
  fields = record { name = codes "j"; type = types.Int } ∷ record { name = codes "k"; type = types.Int } ∷ [];
  methods = record { name = codes "g"; number = 3; parameters = []; result = Some (types.Class 0) } ∷ [];
  constructor = 4;
  parameters = [];
}

-- what is known in class A
abbrev pub known : Known
known = record { names = codes "A" ∷ codes "B" ∷ []; classes = first ∷ second ∷ []; own = 0 }

-- a parameter int x, and a local int b, which has the name of a field
abbrev pub locals : List Local
locals = record { name = codes "x"; type = types.Int; slot = 1 } ∷
    record { name = codes "b"; type = types.Int; slot = 2 } ∷ []

-- a field of `this`
abbrev pub own : ℕ → checked.Expression
own f = checked.Field (checked.Slot 0) 0 f
