-- What a contract sees of the code's trees: trees without their places in memory and in the text.
use Rattle.std.specs.Prelude.{List, Option, Some, None, string_bytes, map, option_map}
use Rattle.std.specs.Global.{Box, Vec}
use Rattle.ls_tree.specs.declared.tree.Name.{Name}
use Rattle.ls_tree.specs.declared.tree.Expression.{Expression as Tree, Row_of-Expression, end_of-Expression}
use Rattle.ls_tree.specs.declared.tree.Expression.{more_of-Expression, Held-Expression-Call-0, None', Some'}
use Rattle.ls_tree.specs.declared.tree.Expression.TheVariants as parsed
use Rattle.ls_tree.specs.declared.tree.Modifier.{Modifier}
use Rattle.ls_tree.specs.declared.tree.Modifier.TheVariants as modifiers
use Rattle.ls_tree.specs.declared.tree.«Type».{«Type»}
use Rattle.ls_tree.specs.declared.tree.«Type».TheVariants as types
use Rattle.ls_tree.specs.declared.tree.Declarator.{Declarator}
use Rattle.ls_tree.specs.declared.tree.Declaration.{Declaration}
use Rattle.ls_tree.specs.declared.tree.Simple.{Simple}
use Rattle.ls_tree.specs.declared.tree.Simple.TheVariants as simples
use Rattle.ls_tree.specs.declared.tree.Opening.{Opening}
use Rattle.ls_tree.specs.declared.tree.Opening.TheVariants as openings
use Rattle.ls_tree.specs.declared.tree.Statement.{Statement, Row_of-BlockItem, end_of-BlockItem, more_of-BlockItem}
use Rattle.ls_tree.specs.declared.tree.Statement.{Held-Statement-If-2}
use Rattle.ls_tree.specs.declared.tree.Statement as statement_parts
use Rattle.ls_tree.specs.declared.tree.Statement.TheVariants as statements
use Rattle.ls_tree.specs.declared.tree.BlockItem.{BlockItem}
use Rattle.ls_tree.specs.declared.tree.BlockItem.TheVariants as block_items
use Rattle.ls_tree.specs.declared.tree.Block.{Block}
use Rattle.ls_tree.specs.declared.tree.Parameter.{Parameter}
use Rattle.ls_tree.specs.declared.tree.Member.{Member}
use Rattle.ls_tree.specs.declared.tree.Member.TheVariants as members
use Rattle.ls_tree.specs.declared.tree.Class.{Class}
use Rattle.ls_tree.specs.declared.tree.Dotted.{Dotted}
use Rattle.ls_tree.specs.declared.tree.Import.{Import}
use Rattle.ls_tree.specs.Trees as trees
use Rattle.ls_tree.specs.Trees.{Text, Expression, Expressions, NoExpression, MoreExpressions, Items, NoItem, Do}
use Rattle.ls_tree.specs.Trees.{Declare, listed, Piece, Doing, Declaring, collected}

abbrev pub name_text : Name → Text
name_text name = string_bytes name.text

-- ---- expressions

abbrev pub call_of : Option Expression → Text → Expressions → Expression
call_of None name arguments = trees.Call name arguments
call_of (Some target) name arguments = trees.CallOn target name arguments

abbrev mutual
  pub bare : Tree → Expression
  bare (parsed.Number text span) = trees.Number (string_bytes text)
  bare (parsed.True span) = trees.True
  bare (parsed.False span) = trees.False
  bare (parsed.Null span) = trees.Null
  bare (parsed.This span) = trees.This
  bare (parsed.Name name) = trees.Name (name_text name)
  bare (parsed.Paren' p inner span) = trees.Paren (bare inner)
  bare (parsed.Unary' op p operand span) = trees.Unary op (bare operand)
  bare (parsed.Binary' op p left q right span) = trees.Binary op (bare left) (bare right)
  bare (parsed.Field' p target name span) = trees.Field (bare target) (name_text name)
  bare (parsed.Call' target name shape arguments span) =
      call_of (bare_held target) (name_text name) (bare_row arguments)
  bare (parsed.Item' p array q index span) = trees.Item (bare array) (bare index)
  bare (parsed.New' class shape arguments span) = trees.New (name_text class) (bare_row arguments)
  bare (parsed.NewMarkable' class shape arguments span) = trees.NewMarkable (name_text class) (bare_row arguments)
  bare (parsed.NewArray' p length span) = trees.NewArray (bare length)

  pub bare_row : {m : _} → Row_of-Expression m → Expressions
  bare_row end_of-Expression = NoExpression
  bare_row (more_of-Expression e rest) = MoreExpressions (bare e) (bare_row rest)

  pub bare_held : Held-Expression-Call-0 → Option Expression
  bare_held None' = None
  bare_held (Some' p e) = Some (bare e)

-- the same of a target that may be missing
abbrev pub bare_target : Option (Box Tree) → Option Expression
bare_target None = None
bare_target (Some b) = Some (bare b.value)

abbrev pub expressions_of : List Tree → Expressions
expressions_of es = listed (map bare es)

-- ---- declarations

abbrev pub bare_modifier : Modifier → trees.Modifier
bare_modifier modifiers.Public = trees.Public
bare_modifier modifiers.Protected = trees.Protected
bare_modifier modifiers.Private = trees.Private
bare_modifier modifiers.Final = trees.Final
bare_modifier modifiers.Volatile = trees.Volatile
bare_modifier (modifiers.Annotation name) = trees.Annotation (name_text name)

abbrev pub bare_modifiers : Vec Modifier → List trees.Modifier
bare_modifiers ms = map bare_modifier ms.items

abbrev pub bare_type : «Type» → trees.TypeName
bare_type types.Int = trees.Int
bare_type types.Boolean = trees.Boolean
bare_type types.BooleanArray = trees.BooleanArray
bare_type (types.Class name) = trees.Class (name_text name)
bare_type (types.Markable name) = trees.Markable (name_text name)

abbrev pub bare_declarator : Declarator → trees.Declarator
bare_declarator d = record { name = name_text d.name; value = option_map bare d.value }

abbrev pub bare_declaration : Declaration → trees.Declaration
bare_declaration d = record {
  modifiers = map bare_modifier d.modifiers.items;
  type_name = bare_type d.type_name;
  first = bare_declarator d.first;
  more = map bare_declarator d.more.items;
}

-- ---- statements

abbrev pub bare_simple : Simple → trees.Simple
bare_simple (simples.Assign target value) = trees.Assign (bare target) (bare value)
bare_simple (simples.Add target value) = trees.Add (bare target) (bare value)
bare_simple (simples.Count up before target) = trees.Count up before (bare target)
bare_simple (simples.Evaluate value) = trees.Evaluate (bare value)

abbrev pub bare_opening : Opening → trees.Opening
bare_opening (openings.Declaration d) = trees.Declares (bare_declaration d)
bare_opening (openings.Simples ss) = trees.Performs (map bare_simple ss.items)

abbrev pub if_of : Expression → trees.Statement → Option trees.Statement → trees.Statement
if_of condition first None = trees.If condition first
if_of condition first (Some second) = trees.IfElse condition first second

abbrev mutual
  pub bare_statement : Statement → trees.Statement
  bare_statement (statements.Block' shape items span) = trees.Block (bare_items items)
  bare_statement (statements.Empty span) = trees.Empty
  bare_statement (statements.If' condition p first otherwise span) =
      if_of (bare condition) (bare_statement first) (bare_otherwise otherwise)
  bare_statement (statements.While' label condition p body span) =
      trees.While (option_map name_text label) (bare condition) (bare_statement body)
  bare_statement (statements.For' label opening condition updates p body span) =
      trees.For (option_map name_text label) (bare_opening opening) (option_map bare condition)
      (map bare_simple updates.items) (bare_statement body)
  bare_statement (statements.Break label span) = trees.Break (option_map name_text label)
  bare_statement (statements.Continue label span) = trees.Continue (option_map name_text label)
  bare_statement (statements.Return value span) = trees.Return (option_map bare value)
  bare_statement (statements.Try' shape body span shape' finally span' span'') =
      trees.Try (bare_items body) (bare_items finally)
  bare_statement (statements.Synchronized' target shape body end span) =
      trees.Synchronized (bare target) (bare_items body)
  bare_statement (statements.Simple simple span) = trees.Perform (bare_simple simple)

  pub bare_items : {m : _} → Row_of-BlockItem m → Items
  bare_items end_of-BlockItem = NoItem
  bare_items (more_of-BlockItem item rest) = bare_item_before item (bare_items rest)

  pub bare_item_before : BlockItem → Items → Items
  bare_item_before (block_items.Statement s) rest = Do (bare_statement s) rest
  bare_item_before (block_items.Declaration d) rest = Declare (bare_declaration d) rest

  pub bare_otherwise : Held-Statement-If-2 → Option trees.Statement
  bare_otherwise statement_parts.None' = None
  bare_otherwise (statement_parts.Some' p s) = Some (bare_statement s)

-- the same of a statement that may be missing
abbrev pub bare_other : Option (Box Statement) → Option trees.Statement
bare_other None = None
bare_other (Some b) = Some (bare_statement b.value)

abbrev pub bare_piece : BlockItem → Piece
bare_piece (block_items.Statement s) = Doing (bare_statement s)
bare_piece (block_items.Declaration d) = Declaring (bare_declaration d)

abbrev pub items_of : List BlockItem → Items
items_of items = collected (map bare_piece items)

abbrev pub bare_block : Block → Items
bare_block block = items_of block.items.items

-- ---- classes

abbrev pub bare_parameter : Parameter → trees.Parameter
bare_parameter p = record {
  modifiers = map bare_modifier p.modifiers.items;
  type_name = bare_type p.type_name;
  name =
      name_text p.name;
}

abbrev pub bare_member : Member → trees.Member
bare_member (members.Field declaration) = trees.Fields (bare_declaration declaration)
bare_member (members.Method m) =
    trees.Method (map bare_modifier m.modifiers.items) (map bare_modifiers m.locked.items)
    (option_map bare_type m.result) (name_text m.name) (map bare_parameter m.parameters.items) (bare_block m.body)
bare_member (members.Constructor c) =
    trees.Constructor (map bare_modifier c.modifiers.items) (name_text c.name) (map bare_parameter c.parameters.items)
    (bare_block c.body)

abbrev pub bare_class : Class → trees.ClassTree
bare_class c = record {
  modifiers = map bare_modifier c.modifiers.items;
  name = name_text c.name;
  members =
      map bare_member c.members.items;
}

abbrev pub bare_dotted : Dotted → trees.Dotted
bare_dotted d = record { first = name_text d.first; more = map name_text d.more.items }

abbrev pub bare_import : Import → trees.Import
bare_import i = record { path = bare_dotted i.path; all = i.all }

-- the file of a package, imports and classes
abbrev pub file_of : Option Dotted → List Import → List Class → trees.File
file_of name imports classes =
    record {
      package_name = option_map bare_dotted name;
      imports = map bare_import imports;
      classes =
          map bare_class classes;
    }
