-- The list with one lock, `COARSE` of `ls_stored_classes`, as the front end checks it, and its thread programs of any
-- size. A declaration sets its local to the start value first. Node is class 0, CoarseList class 1; the methods are
-- Node's constructor, CoarseList's, add, remove and contains.
use Rattle.std.specs.Prelude.{◌≡◌, ◌⊎◌, ◌∷◌, ℕ, pos, negsuc, true, false, List, [], Some, None}
use Rattle.ls_events.specs.declared.value.Value.{Value}
use Rattle.ls_events.specs.declared.value.Value.TheVariants as values
use Rattle.ls_events.specs.declared.value.ValueType.TheVariants as types
use Rattle.ls_checked.specs.declared.tree.Operator.TheVariants.{Less, Equal, NotEqual}
use Rattle.ls_checked.specs.CheckedTree.{File, Statement, Statements, Expression, Block, Then, Done, SetSlot}
use Rattle.ls_checked.specs.CheckedTree.{SetField, Slot}
use Rattle.ls_checked.specs.CheckedTree.{Field, Binary, Literal, ReturnValue, While, If, MakeObject, More, End}
use Rattle.ls_checked.specs.CheckedProgram.{Program, ThreadProgram, ProgramCall, Making, Calling, SetupName}
use Rattle.ls_meaning.specs.Runs.{source_history}
use Rattle.ls_linearizable.specs.Linearizable.{IsLinearizable}
use Rattle.ls_one_at_a_time.specs.Locked.{locked_body, locking_body}

-- fields: key 0 and next 1 of a node, head 0 and lock 1 of the list
abbrev pub key : Expression → Expression
key e = Field e 0 0

-- the next node
abbrev pub next : Expression → Expression
next e = Field e 0 1

-- slots: item 1, pred 2, curr 3
abbrev pub new_node : Expression → Expression
new_node e = MakeObject 0 (More e End)

-- the first node whose key isn't below the item, and the one before it
abbrev pub searching : Statements → Statements
searching rest =
    Then (SetSlot 2 (Literal (values.Reference 0))) (
    Then (SetSlot 2 (Field (Slot 0) 1 0)) (
    Then (SetSlot 3 (Literal (values.Reference 0))) (
    Then (SetSlot 3 (next (Slot 2))) (
    Then (While (Binary Less (key (Slot 3)) (Slot 1)) (Block (
    Then (SetSlot 2 (Slot 3)) (
    Then (SetSlot 3 (next (Slot 3))) Done))))
    rest))))

abbrev pub add_inner : Statement
add_inner = Block (searching (
    Then (If (Binary Equal (key (Slot 3)) (Slot 1)) (ReturnValue (Literal (values.Boolean false))) (Block Done)) (
    Then (SetSlot 4 (Literal (values.Reference 0))) (
    Then (SetSlot 4 (new_node (Slot 1))) (
    Then (SetField (Slot 4) 1 (Slot 3)) (
    Then (SetField (Slot 2) 1 (Slot 4)) (
    Then (ReturnValue (Literal (values.Boolean true))) Done)))))))

abbrev pub remove_inner : Statement
remove_inner = Block (searching (
    Then (If (Binary NotEqual (key (Slot 3)) (Slot 1)) (ReturnValue (Literal (values.Boolean false))) (Block Done)) (
    Then (SetField (Slot 2) 1 (next (Slot 3))) (
    Then (ReturnValue (Literal (values.Boolean true))) Done))))

abbrev pub contains_inner : Statement
contains_inner = Block (searching (Then (ReturnValue (Binary Equal (key (Slot 3)) (Slot 1))) Done))

-- head = new Node(Integer.MIN_VALUE); head.next = new Node(Integer.MAX_VALUE);
abbrev pub making_rest : Statements
making_rest =
    Then (SetField (Slot 0) 0 (new_node (Literal (values.Int (negsuc 2147483647))))) (
    Then (SetField (Field (Slot 0) 1 0) 1 (new_node (Literal (values.Int (pos 2147483647))))) Done)

-- the checked tree of the text
abbrev pub file : File
file = record {
  classes =
      record { fields = types.Int ∷ types.Class 0 ∷ []; constructor = 0 }
      ∷ record { fields = types.Class 0 ∷ types.Lock ∷ []; constructor = 1 } ∷ [];
  methods =
      record {
        class = 0;
        parameters = 1;
        slots = types.Class 0 ∷ types.Int ∷ [];
        result = None;
        body = Block (Then (SetField (Slot 0) 0 (Slot 1)) Done);
      }
      ∷ record {
        class = 1;
        parameters = 0;
        slots = types.Class 1 ∷ [];
        result = None;
        body =
            locking_body 1 [] making_rest;
      }
      ∷ record {
        class = 1;
        parameters = 1;
        slots = types.Class 1 ∷ types.Int ∷ types.Class 0 ∷ types.Class 0 ∷ types.Class 0 ∷ [];
        result = Some types.Boolean;
        body = locked_body 1 1 [] add_inner Done;
      }
      ∷ record {
        class = 1;
        parameters = 1;
        slots = types.Class 1 ∷ types.Int ∷ types.Class 0 ∷ types.Class 0 ∷ [];
        result = Some types.Boolean;
        body = locked_body 1 1 [] remove_inner Done;
      }
      ∷ record {
        class = 1;
        parameters = 1;
        slots = types.Class 1 ∷ types.Int ∷ types.Class 0 ∷ types.Class 0 ∷ [];
        result = Some types.Boolean;
        body = locked_body 1 1 [] contains_inner Done;
      } ∷ [];
}

-- an int and nothing else
abbrev pub IsItem : List Value → Type 0
IsItem (values.Int z ∷ []) = Unit {0}
IsItem _ = ⊥

-- each call is add, remove or contains of one int
abbrev pub AreSetCalls : List ProgramCall → Type 0
AreSetCalls [] = Unit {0}
AreSetCalls (Making n c text vs ∷ cs) = ⊥
AreSetCalls (Calling n m text result vs ∷ cs) =
    (n ≡ 0) × ((m ≡ 2) ⊎ ((m ≡ 3) ⊎ (m ≡ 4))) × IsItem vs × AreSetCalls cs

-- of all threads
abbrev pub AreAllSetCalls : List ThreadProgram → Type 0
AreAllSetCalls [] = Unit {0}
AreAllSetCalls (t ∷ ts) = AreSetCalls t.calls × AreAllSetCalls ts

-- s = new CoarseList(); and then set calls
abbrev pub of_list : SetupName → List ℕ → List ℕ → List ProgramCall → List ThreadProgram → Program
of_list name text setup more threads = record {
  names = name ∷ [];
  threads = record { name = setup; calls = Making 0 1 text [] ∷ more } ∷ threads;
}

-- with as many threads and calls as one likes, the history of each schedule is linearizable
abbrev pub CoarseListsAreLinearizable : Type 0
CoarseListsAreLinearizable =
    (name : SetupName) (text setup : List ℕ) (more : List ProgramCall) (threads : List ThreadProgram) →
    AreSetCalls more → AreAllSetCalls threads → (schedule : List ℕ) →
    IsLinearizable file (of_list name text setup more threads)
    (source_history file (of_list name text setup more threads) schedule)
