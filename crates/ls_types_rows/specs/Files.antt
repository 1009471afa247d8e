-- Class texts as a whole: what is declared, and the checked methods (JLS 6.4, 8).
use Rattle.std.specs.Prelude.{◌≡◌, ◌+◌, ℕ, false, List, [], ◌∷◌, length, map, codes, Option, Some, None, Ok, Err}
use Rattle.std.specs.List.{range_with_len}
use Rattle.ls_tree.specs.declared.tree.UnaryOp.TheVariants.{Not}
use Rattle.ls_events.specs.declared.value.ValueType.{ValueType}
use Rattle.ls_events.specs.declared.value.ValueType.TheVariants as types
use Rattle.ls_checked.specs.declared.tree.Called.TheVariants as called
use Rattle.ls_checked.specs.CheckedTree as checked
use Rattle.ls_types_elaboration.specs.declared.rule.Rule.{Rule}
use Rattle.ls_types_elaboration.specs.declared.rule.Rule.TheVariants as rules
use Rattle.ls_types_elaboration.specs.StaticTypes.{of_type}
use Rattle.ls_types_elaboration.specs.declared.static_types.Static.TheVariants.{Of}
use Rattle.ls_types_elaboration.specs.Trees.{Text, ClassTree}
use Rattle.ls_types_elaboration.specs.Trees as parsed
use Rattle.ls_types_elaboration.specs.Elaborated.{Elaborated, with_ok}
use Rattle.ls_types_elaboration.specs.Elaboration.{elaborated}
use Rattle.ls_types_elaboration.specs.Known.{ClassSign}
use Rattle.ls_types_elaboration.specs.Signs.{class_names, class_signs}
use Rattle.ls_types_rows.specs.Written.{at, name, assign, evaluate, one, yes, named, call, items, variable, parameter}
use Rattle.ls_types_rows.specs.Written.{class, int, truth, block}

-- the classes are checked, and are this file
abbrev pub Are : List ClassTree → checked.File → Type 0
Are classes file = with_ok (elaborated (record { classes = classes })) (λ o. Ok o.file) ≡ Ok file

-- they break this rule there
abbrev pub Break : List ClassTree → Rule → ℕ → Type 0
Break classes rule k = elaborated (record { classes = classes }) ≡ Err (record { rule = rule; span = at k })

-- class A with these members
abbrev pub A : List parsed.Member → List ClassTree
A members = class (codes "A") 100 members ∷ []

-- `int name;`
abbrev pub an_int : Text → ℕ → parsed.Member
an_int text k = parsed.Fields (variable parsed.Int text k None)

-- `void name() { s }` and `int name() { s }`
abbrev pub doing : Text → ℕ → List parsed.Statement → parsed.Member
doing text k ss = parsed.Method false None (name text k) [] (items ss)

abbrev pub answering : Text → ℕ → List parsed.Statement → parsed.Member
answering text k ss = parsed.Method false (Some parsed.Int) (name text k) [] (items ss)

-- a constructor of A without parameters
abbrev pub a_constructor : ℕ → List parsed.Statement → parsed.Member
a_constructor k ss = parsed.Constructor (name (codes "A") k) [] (items ss)

-- a checked method of a class, without parameters and further slots
abbrev pub checked_method : ℕ → Option ValueType → List checked.Statement → checked.Method
checked_method c result ss = record {
  class = c;
  parameters = 0;
  slots = types.Class c ∷ [];
  result = result;
  body = checked.Block (block ss);
}

-- ---- names

abbrev pub ReservedClasses : Type 0
ReservedClasses =
    Break (class (codes "Integer") 1 [] ∷ []) rules.ReservedClass 1
    × Break (class (codes "Lock") 1 [] ∷ []) rules.ReservedClass 1
    × Break (class (codes "ReentrantLock") 1 [] ∷ []) rules.ReservedClass 1
    × Break (class (codes "A") 1 [] ∷ class (codes "AtomicMarkableReference") 2 [] ∷ []) rules.ReservedClass 2

-- two classes, fields, methods or constructors; there is no overloading
abbrev pub MembersOfOneName : Type 0
MembersOfOneName =
    Break (class (codes "A") 1 [] ∷ class (codes "B") 2 [] ∷ class (codes "A") 3 [] ∷ []) rules.TwiceDeclared 3
    × Break (A (an_int (codes "i") 1 ∷ an_int (codes "i") 2 ∷ [])) rules.TwiceDeclared 2
    × Break (A (an_int (codes "i") 1 ∷ parsed.Fields (variable parsed.Boolean (codes "i") 2 None) ∷ []))
    rules.TwiceDeclared 2
    × Break (A (doing (codes "f") 1 [] ∷ doing (codes "f") 2 [] ∷ [])) rules.TwiceDeclared 2
    × Break (A (doing (codes "f") 1 [] ∷ parsed.Method false None (name (codes "f") 2)
    (parameter parsed.Int (codes "x") 3 ∷ []) parsed.NoItem ∷ [])) rules.TwiceDeclared 2
    × Break (A (a_constructor 1 [] ∷ parsed.Constructor (name (codes "A") 2) (parameter parsed.Int (codes "x") 3 ∷ [])
    parsed.NoItem ∷ [])) rules.TwiceDeclared 2
    × Break (A (parsed.Method false None (name (codes "f") 1)
    (parameter parsed.Int (codes "x") 2 ∷ parameter parsed.Boolean (codes "x") 3 ∷ []) parsed.NoItem ∷ []))
    rules.TwiceDeclared 3

-- a field and a method; members of two classes; a method named as its class. A method is called by its name alone only
-- in its own class.
abbrev pub OneNameForSeveral : Type 0
OneNameForSeveral =
    Are (A (an_int (codes "f") 1 ∷ doing (codes "f") 2 [] ∷ []))
    (record {
      classes = record { fields = types.Int ∷ []; constructor = 1 } ∷ [];
      methods = checked_method 0 None [] ∷ checked_method 0 None [] ∷ [];
    })
    × Are (class (codes "A") 1 (an_int (codes "i") 2 ∷ []) ∷ class (codes "B") 3 (an_int (codes "i") 4 ∷ []) ∷ [])
    (record {
      classes = record { fields = types.Int ∷ []; constructor = 0 } ∷
          record { fields = types.Int ∷ []; constructor = 1 } ∷ [];
      methods = checked_method 0 None [] ∷ checked_method 1 None [] ∷ [];
    })
    × Are (A (doing (codes "A") 1 [] ∷ []))
    (record {
      classes = record { fields = []; constructor = 1 } ∷ [];
      methods = checked_method 0 None [] ∷
          checked_method 0 None [] ∷ [];
    })
    × Break (class (codes "A") 1 (doing (codes "g") 2 [] ∷ []) ∷
    class (codes "B") 3 (doing (codes "f") 4 (evaluate (call (codes "g") [] 5) ∷ []) ∷ []) ∷ []) rules.UnknownName 5

-- a constructor is named as its class is
abbrev pub OtherConstructors : Type 0
OtherConstructors =
    Break (A (parsed.Constructor (name (codes "B") 1) [] parsed.NoItem ∷ [])) rules.UnknownType 1
    × Break (class (codes "A") 1 [] ∷ class (codes "B") 2 (parsed.Constructor (name (codes "A") 3) [] parsed.NoItem ∷
    []) ∷ []) rules.UnknownType 3

-- `Lock` and `ReentrantLock` are one type; a class of the file is a type wherever it is declared
abbrev pub Types : Type 0
Types =
    Are (class (codes "A") 1
    (parsed.Fields (variable (parsed.Class (name (codes "B") 2)) (codes "b") 3 None)
    ∷ parsed.Fields (variable (parsed.Class (name (codes "Lock") 2)) (codes "l") 3 None)
    ∷ parsed.Fields (variable (parsed.Class (name (codes "ReentrantLock") 2)) (codes "m") 3 None)
    ∷ parsed.Fields (variable (parsed.Markable (name (codes "A") 2)) (codes "r") 3 None)
    ∷ parsed.Fields (variable parsed.BooleanArray (codes "a") 3 None)
    ∷ parsed.Fields (variable parsed.Boolean (codes "c") 3 None) ∷ [])
    ∷ class (codes "B") 4 [] ∷ [])
    (record {
      classes =
          record {
            fields = types.Class 1 ∷ types.Lock ∷ types.Lock ∷ types.Markable 0 ∷ types.BooleanArray ∷
                types.Boolean ∷ [];
            constructor = 0;
          }
          ∷ record { fields = []; constructor = 1 } ∷ [];
      methods = checked_method 0 None [] ∷ checked_method 1 None [] ∷ [];
    })
    × Break (A (parsed.Fields (variable (parsed.Class (name (codes "C") 2)) (codes "b") 3 None) ∷ [])) rules.UnknownType
    2
    × Break (A (parsed.Fields (variable (parsed.Markable (name (codes "Lock") 2)) (codes "b") 3 None) ∷ []))
    rules.UnknownType 2
    × Break (A (parsed.Method false (Some (parsed.Class (name (codes "C") 2))) (name (codes "f") 3) [] parsed.NoItem ∷
    [])) rules.UnknownType 2
    × Break (A (parsed.Method false None (name (codes "f") 3)
    (parameter (parsed.Class (name (codes "C") 2)) (codes "x") 4 ∷ []) parsed.NoItem ∷ [])) rules.UnknownType 2

-- ---- methods

-- all are numbered in text order; a constructor that isn't written comes after the methods of its class
abbrev pub Numbers : Type 0
Numbers =
    Are (class (codes "A") 1 (doing (codes "f") 2 [] ∷ doing (codes "g") 3 (evaluate (call (codes "f") [] 4) ∷ []) ∷ [])
    ∷ class (codes "B") 5 (parsed.Constructor (name (codes "B") 6) [] parsed.NoItem ∷
    doing (codes "f") 7 (evaluate (parsed.New (name (codes "B") 8) parsed.End (at 9)) ∷ []) ∷ []) ∷ [])
    (record {
      classes = record { fields = []; constructor = 2 } ∷ record { fields = []; constructor = 3 } ∷ [];
      methods =
          checked_method 0 None []
          ∷ checked_method 0 None (checked.Evaluate (checked.Call (checked.Slot 0) (called.Method 0) checked.End) ∷ [])
          ∷ checked_method 0 None []
          ∷ checked_method 1 None []
          ∷ checked_method 1 None (checked.Evaluate (checked.MakeObject 1 checked.End) ∷ []) ∷ [];
    })

-- `this`, the parameters, and then the locals
abbrev pub Parameters : Type 0
Parameters =
    Are (A (parsed.Method false (Some parsed.Int) (name (codes "f") 1)
    (parameter parsed.Boolean (codes "y") 2 ∷ parameter parsed.Int (codes "x") 3 ∷ [])
    (parsed.Declare (variable parsed.Int (codes "z") 4 None)
    (items (parsed.Return (Some (named (codes "x") 5)) (at 6) ∷ []))) ∷ []))
    (record {
      classes = record { fields = []; constructor = 1 } ∷ [];
      methods =
          record {
            class = 0;
            parameters = 2;
            slots = types.Class 0 ∷ types.Boolean ∷ types.Int ∷ types.Int ∷ [];
            result = Some types.Int;
            body = checked.Block (block (checked.SetSlot 3 (int 0) ∷ checked.ReturnValue (checked.Slot 2) ∷ []));
          }
          ∷ checked_method 0 None [] ∷ [];
    })

-- initialisers of fields come at the front of the constructor, in text order, also of a constructor that isn't written
abbrev pub Initialisers : Type 0
Initialisers =
    Are (A (parsed.Fields (variable parsed.Int (codes "i") 1 (Some (one 2))) ∷
    a_constructor 3 (assign (named (codes "i") 4) (named (codes "j") 5) ∷ []) ∷
    parsed.Fields (variable parsed.Int (codes "j") 6 (Some (named (codes "i") 7))) ∷ []))
    (record {
      classes = record { fields = types.Int ∷ types.Int ∷ []; constructor = 0 } ∷ [];
      methods = checked_method 0 None (
          checked.SetField (checked.Slot 0) 0 (int 1) ∷ checked.SetField (checked.Slot 0) 1
          (checked.Field (checked.Slot 0) 0 0)
          ∷ checked.SetField (checked.Slot 0) 0 (checked.Field (checked.Slot 0) 0 1) ∷ []) ∷ [];
    })
    × Are (A (parsed.Fields (variable parsed.Int (codes "i") 1 (Some (one 2))) ∷ doing (codes "f") 3 [] ∷ []))
    (record {
      classes = record { fields = types.Int ∷ []; constructor = 1 } ∷ [];
      methods = checked_method 0 None [] ∷ checked_method 0 None (checked.SetField (checked.Slot 0) 0 (int 1) ∷ []) ∷
          [];
    })
    × Break (A (parsed.Fields (variable parsed.Int (codes "i") 1 (Some (yes 2))) ∷ []))
    (of_type types.Int (Of types.Boolean)) 2
    × Break (A (parsed.Fields (variable parsed.Int (codes "i") 1 (Some (named (codes "x") 2))) ∷
    parsed.Constructor (name (codes "A") 3) (parameter parsed.Int (codes "x") 4 ∷ []) parsed.NoItem ∷ []))
    rules.UnknownName 2

abbrev pub returns : ℕ → parsed.Statement
returns k = parsed.Return (Some (one k)) (at 90)

abbrev pub returned : checked.Statement
returned = checked.ReturnValue (int 1)

-- a method that answers an int may have this statement as its whole body, and the statement has this checked form
abbrev pub Returns : parsed.Statement → checked.Statement → Type 0
Returns s form =
    Are (A (answering (codes "f") 1 (s ∷ []) ∷ []))
    (record {
      classes = record { fields = []; constructor = 1 } ∷ [];
      methods = checked_method 0 (Some types.Int) (form ∷ []) ∷ checked_method 0 None [] ∷ [];
    })

-- a method that answers a value doesn't complete normally
abbrev pub MissingReturns : Type 0
MissingReturns =
    Break (A (answering (codes "f") 1 [] ∷ [])) rules.MissingReturn 1
    × Break (A (answering (codes "f") 1 (parsed.If (yes 2) (returns 3) ∷ []) ∷ [])) rules.MissingReturn 1
    × Break (A (answering (codes "f") 1 (parsed.IfElse (yes 2) (returns 3) parsed.Empty ∷ []) ∷ [])) rules.MissingReturn
    1
    × Break (A (answering (codes "f") 1 (parsed.While None (yes 2) (parsed.Break None (at 3)) ∷ []) ∷ []))
    rules.MissingReturn 1
    × Break (A (answering (codes "f") 1 (parsed.While None (parsed.Unary Not (parsed.False (at 2)) (at 2)) (returns 3) ∷
    []) ∷ [])) rules.MissingReturn 1
    × Break (A (answering (codes "f") 1 (parsed.While (Some (name (codes "p") 2)) (yes 2)
    (parsed.While None (yes 3) (parsed.Break (Some (name (codes "p") 4)) (at 5))) ∷ []) ∷ [])) rules.MissingReturn 1
    × Break (A (answering (codes "f") 1 (parsed.Try parsed.NoItem (items (parsed.Empty ∷ [])) ∷ []) ∷ []))
    rules.MissingReturn 1

-- Each of these is enough: a return in both branches, a return in a try block, a return in its finally block, an
-- endless loop. An endless loop is also enough if it has a loop in it that a `break` leaves, or if a finally block
-- replaces its `break`.
abbrev pub EnoughReturns : Type 0
EnoughReturns =
    Returns (parsed.IfElse (yes 2) (returns 3) (returns 4)) (checked.If truth returned returned)
    × Returns (parsed.While None (yes 2) parsed.Empty) (checked.While truth (checked.Block checked.Done))
    × Returns (parsed.While None (yes 2) (parsed.While None (yes 3) (parsed.Break None (at 4))))
    (checked.While truth (checked.While truth (checked.Break 0)))
    × Returns (parsed.While None (yes 2) (parsed.Continue None (at 4))) (checked.While truth (checked.Continue 0))
    × Returns (parsed.Try (items (returns 3 ∷ [])) parsed.NoItem)
    (checked.Try (checked.Block (block (returned ∷ []))) (checked.Block checked.Done))
    × Returns (parsed.Try parsed.NoItem (items (returns 3 ∷ [])))
    (checked.Try (checked.Block checked.Done) (checked.Block (block (returned ∷ []))))
    × Returns (parsed.While None (yes 2) (parsed.Try (items (parsed.Break None (at 4) ∷ [])) (items (returns 3 ∷ []))))
    (checked.While truth (checked.Try (checked.Block (block (checked.Break 0 ∷ [])))
    (checked.Block (block (returned ∷ [])))))

-- ---- limits

-- names A, B and so on, by their numbers
abbrev pub letters : ℕ → List Text
letters n = map (λ k. (65 + k) ∷ []) (range_with_len 0 n)

abbrev pub empty_classes : ℕ → List ClassTree
empty_classes n = map (λ t. class t 7 []) (letters n)

abbrev pub many_fields : ℕ → List parsed.Member
many_fields n = map (λ t. an_int t 7) (letters n)

abbrev pub many_parameters : ℕ → List parsed.Parameter
many_parameters n = map (λ t. parameter parsed.Int t 7) (letters n)

abbrev pub fields_in : List ClassSign → ℕ
fields_in [] = 0
fields_in (c ∷ cs) = length c.fields + fields_in cs

-- how many fields class A declares with these members
abbrev pub signs_of : List parsed.Member → Elaborated ℕ
signs_of members = with_ok (class_signs (codes "A" ∷ []) (A members)) (λ classes. Ok (fields_in classes.signs))

-- the 65th class, the 65th field and the 128th parameter are refused at a name
abbrev pub MostOfAll : Type 0
MostOfAll =
    (class_names (empty_classes 64) ≡ Ok (letters 64))
    × (class_names (empty_classes 65) ≡ Err (record { rule = rules.Limit; span = at 7 }))
    × (signs_of (many_fields 64) ≡ Ok 64)
    × (signs_of (many_fields 65) ≡ Err (record { rule = rules.Limit; span = at 7 }))
    × (signs_of (parsed.Method false None (name (codes "f") 9) (many_parameters 127) parsed.NoItem ∷ []) ≡ Ok 0)
    × (signs_of (parsed.Method false None (name (codes "f") 9) (many_parameters 128) parsed.NoItem ∷ []) ≡ Err
    (record { rule = rules.Limit; span = at 9 }))
