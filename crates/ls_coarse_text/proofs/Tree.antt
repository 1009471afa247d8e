-- The tree of the class text.
use Rattle.std.specs.Prelude.{◌∷◌, [], Some, None, codes}
use Rattle.ls_tree.specs.declared.tree.BinaryOp.TheVariants as binary
use Rattle.ls_tree.specs.Trees as bare
use Rattle.ls_tree.specs.Trees.{Text, Expression, Expressions, NoExpression, MoreExpressions, Name, Field, CallOn, New}
use Rattle.ls_tree.specs.Trees.{Binary, Statement, Items, Do, Declare, NoItem, Perform, Assign, Evaluate, Return, True}
use Rattle.ls_tree.specs.Trees.{False, While, If, Block, Try, TypeName, Declaration, Declarator, Parameter, Member}
use Rattle.ls_tree.specs.Trees.{Fields, Method, Constructor, ClassTree, File}

abbrev name : Text → Expression
name text = Name text

abbrev dot : Text → Text → Expression
dot target field = Field (Name target) field

abbrev set : Expression → Expression → Items → Items
set target value rest = Do (Perform (Assign target value)) rest

abbrev call : Text → Text → Items → Items
call target method rest = Do (Perform (Evaluate (CallOn (Name target) method NoExpression))) rest

abbrev new_node : Expression → Expression
new_node key = New (codes "Node") (MoreExpressions key NoExpression)

abbrev field : TypeName → Text → Member
field type text = Fields (record {
  modifiers = [];
  type_name = type;
  first = record { name = text; value = None };
  more = [];
})

abbrev int : Text → Parameter
int text = record { modifiers = []; type_name = bare.Int; name = text }

abbrev node : TypeName
node = bare.Class (codes "Node")

-- class Node
abbrev node_class : ClassTree
node_class = record {
  modifiers = [];
  name = codes "Node";
  members = field bare.Int (codes "key") ∷ field node (codes "next")
      ∷ Constructor [] (codes "Node") (int (codes "k") ∷ []) (set (name (codes "key")) (name (codes "k")) NoItem) ∷ [];
}

-- from `Node pred = head` to the end of the loop
abbrev searching : Items → Items
searching rest =
    Declare (record {
      modifiers = [];
      type_name = node;
      first = record { name = codes "pred"; value = Some (name (codes "head")) };
      more = record { name = codes "curr"; value = Some (dot (codes "pred") (codes "next")) } ∷ [];
    }) (
    Do (While None (Binary binary.Less (dot (codes "curr") (codes "key")) (name (codes "item"))) (Block (
    set (name (codes "pred")) (name (codes "curr")) (
    set (name (codes "curr")) (dot (codes "curr") (codes "next")) NoItem))))
    rest)

-- a method that locks round its body
abbrev locked : Text → Items → Member
locked text body =
    Method [] [] (Some bare.Boolean) text (int (codes "item") ∷ []) (
    call (codes "lock") (codes "lock") (
    Do (Try body (call (codes "lock") (codes "unlock") NoItem)) NoItem))

abbrev add : Member
add = locked (codes "add") (searching (
    Do (If (Binary binary.Equal (dot (codes "curr") (codes "key")) (name (codes "item"))) (Return (Some False))) (
    Declare (record {
      modifiers = [];
      type_name = node;
      first = record { name = codes "node"; value = Some (new_node (name (codes "item"))) };
      more = [];
    }) (
    set (dot (codes "node") (codes "next")) (name (codes "curr")) (
    set (dot (codes "pred") (codes "next")) (name (codes "node")) (
    Do (Return (Some True)) NoItem))))))

abbrev remove : Member
remove = locked (codes "remove") (searching (
    Do (If (Binary binary.NotEqual (dot (codes "curr") (codes "key")) (name (codes "item"))) (Return (Some False))) (
    set (dot (codes "pred") (codes "next")) (dot (codes "curr") (codes "next")) (
    Do (Return (Some True)) NoItem))))

abbrev contains : Member
contains = locked (codes "contains") (searching (
    Do (Return (Some (Binary binary.Equal (dot (codes "curr") (codes "key")) (name (codes "item"))))) NoItem))

-- class CoarseList
abbrev list_class : ClassTree
list_class = record {
  modifiers = [];
  name = codes "CoarseList";
  members = field node (codes "head")
      ∷ Fields (record {
        modifiers = [];
        type_name = bare.Class (codes "Lock");
        first = record { name = codes "lock"; value = Some (New (codes "ReentrantLock") NoExpression) };
        more = [];
      })
      ∷ Constructor [] (codes "CoarseList") [] (
      set (name (codes "head")) (new_node (dot (codes "Integer") (codes "MIN_VALUE"))) (
      set (dot (codes "head") (codes "next")) (new_node (dot (codes "Integer") (codes "MAX_VALUE"))) NoItem))
      ∷ add ∷ remove ∷ contains ∷ [];
}

-- both classes
abbrev pub tree : File
tree = record { package_name = None; imports = []; classes = node_class ∷ list_class ∷ [] }
