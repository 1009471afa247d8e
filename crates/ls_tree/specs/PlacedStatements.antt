-- The trees with places that the parsed statements and classes of the code stand for.
use Rattle.std.specs.Prelude.{List, [], ◌∷◌, Option, Some, None, map, option_map}
use Rattle.std.specs.Global.{Box}
use Rattle.ls_tree.specs.declared.tree.«Type».{«Type»}
use Rattle.ls_tree.specs.declared.tree.«Type».TheVariants as names
use Rattle.ls_tree.specs.declared.tree.Declarator.{Declarator}
use Rattle.ls_tree.specs.declared.tree.Declaration.{Declaration}
use Rattle.ls_tree.specs.declared.tree.Simple.{Simple}
use Rattle.ls_tree.specs.declared.tree.Simple.TheVariants as simples
use Rattle.ls_tree.specs.declared.tree.Opening.{Opening}
use Rattle.ls_tree.specs.declared.tree.Opening.TheVariants as openings
use Rattle.ls_tree.specs.declared.tree.Statement.{Statement, Row_of-BlockItem, end_of-BlockItem, more_of-BlockItem}
use Rattle.ls_tree.specs.declared.tree.Statement.{Held-Statement-If-2, None', Some'}
use Rattle.ls_tree.specs.declared.tree.Statement.TheVariants as statements
use Rattle.ls_tree.specs.declared.tree.BlockItem.{BlockItem}
use Rattle.ls_tree.specs.declared.tree.BlockItem.TheVariants as rows
use Rattle.ls_tree.specs.declared.tree.Parameter.{Parameter}
use Rattle.ls_tree.specs.declared.tree.Member.{Member}
use Rattle.ls_tree.specs.declared.tree.Member.TheVariants as members
use Rattle.ls_tree.specs.declared.tree.Class.{Class}
use Rattle.ls_tree.specs.declared.tree.ClassFile.{ClassFile}
use Rattle.ls_tree.specs.PlacedTrees as trees
use Rattle.ls_tree.specs.Placed.{placed, placed_name}

abbrev pub placed_type : «Type» → trees.TypeName
placed_type names.Int = trees.Int
placed_type names.Boolean = trees.Boolean
placed_type names.BooleanArray = trees.BooleanArray
placed_type (names.Class n) = trees.Class (placed_name n)
placed_type (names.Markable n) = trees.Markable (placed_name n)

abbrev pub placed_declarator : Declarator → trees.Declarator
placed_declarator d = record { name = placed_name d.name; value = option_map placed d.value }

abbrev pub placed_declaration : Declaration → trees.Declaration
placed_declaration d = record {
  type_name = placed_type d.type_name;
  first = placed_declarator d.first;
  more = map placed_declarator d.more.items;
}

abbrev pub placed_simple : Simple → trees.Simple
placed_simple (simples.Assign target value) = trees.Assign (placed target) (placed value)
placed_simple (simples.Add target value) = trees.Add (placed target) (placed value)
placed_simple (simples.Count up before target) = trees.Count up before (placed target)
placed_simple (simples.Evaluate value) = trees.Evaluate (placed value)

abbrev pub placed_opening : Opening → trees.Opening
placed_opening (openings.Declaration d) = trees.Declares (placed_declaration d)
placed_opening (openings.Simples ss) = trees.Performs (map placed_simple ss.items)

abbrev pub if_of : trees.Expression → trees.Statement → Option trees.Statement → trees.Statement
if_of c s None = trees.If c s
if_of c s (Some t) = trees.IfElse c s t

abbrev mutual
  pub placed_statement : Statement → trees.Statement
  placed_statement (statements.Block' shape row span) = trees.Block (placed_row row)
  placed_statement (statements.Empty span) = trees.Empty
  placed_statement (statements.If' c p s otherwise span) = if_of (placed c) (placed_statement s) (placed_held otherwise)
  placed_statement (statements.While' label c p s span) =
      trees.While (option_map placed_name label) (placed c) (placed_statement s)
  placed_statement (statements.For' label opening condition updates p body span) =
      trees.For (option_map placed_name label) (placed_opening opening) (option_map placed condition)
      (map placed_simple updates.items) (placed_statement body)
  placed_statement (statements.Break label span) = trees.Break (option_map placed_name label) span
  placed_statement (statements.Continue label span) = trees.Continue (option_map placed_name label) span
  placed_statement (statements.Return value span) = trees.Return (option_map placed value) span
  placed_statement (statements.Try' shape body begin other finally end span) =
      trees.Try (placed_row body) (placed_row finally)
  placed_statement (statements.Synchronized' target shape row end span) =
      trees.Synchronized (placed target) (placed_row row)
  placed_statement (statements.Simple simple span) = trees.Perform (placed_simple simple)

  -- an item of a block, before others
  pub placed_before : BlockItem → trees.Items → trees.Items
  placed_before (rows.Statement s) rest = trees.Do (placed_statement s) rest
  placed_before (rows.Declaration d) rest = trees.Declare (placed_declaration d) rest

  pub placed_row : {m : _} → Row_of-BlockItem m → trees.Items
  placed_row end_of-BlockItem = trees.NoItem
  placed_row (more_of-BlockItem i rest) = placed_before i (placed_row rest)

  pub placed_held : Held-Statement-If-2 → Option trees.Statement
  placed_held None' = None
  placed_held (Some' p s) = Some (placed_statement s)

abbrev pub placed_other : Option (Box Statement) → Option trees.Statement
placed_other None = None
placed_other (Some b) = Some (placed_statement b.value)

abbrev pub placed_items : List BlockItem → trees.Items
placed_items [] = trees.NoItem
placed_items (i ∷ rest) = placed_before i (placed_items rest)

abbrev pub placed_parameter : Parameter → trees.Parameter
placed_parameter p = record { type_name = placed_type p.type_name; name = placed_name p.name }

abbrev pub placed_member : Member → trees.Member
placed_member (members.Field d) = trees.Fields (placed_declaration d)
placed_member (members.Method m) =
    trees.Method (trees.some_in m.locked.items) (option_map placed_type m.result) (placed_name m.name)
    (map placed_parameter m.parameters.items) (placed_items m.body.items.items)
placed_member (members.Constructor c) =
    trees.Constructor (placed_name c.name) (map placed_parameter c.parameters.items) (placed_items c.body.items.items)

abbrev pub placed_class : Class → trees.ClassTree
placed_class c = record { name = placed_name c.name; members = map placed_member c.members.items }

abbrev pub placed_file : ClassFile → trees.File
placed_file f = record { classes = map placed_class f.classes.items }
