-- A counter whose methods are synchronized, as the front end checks it, and its thread programs of any size.
--
--     class Counter {
--       int v;
--       synchronized void inc() { int t = v; v = t + 1; }
--       synchronized int get() { return v; }
--     }
use Rattle.std.specs.Prelude.{◌≡◌, ◌⊎◌, ◌∷◌, ℕ, pos, List, [], Some, None}
use Rattle.ls_events.specs.declared.value.Value.TheVariants as values
use Rattle.ls_events.specs.declared.value.ValueType.TheVariants as types
use Rattle.ls_checked.specs.declared.tree.Operator.TheVariants.{Add}
use Rattle.ls_checked.specs.CheckedTree.{File, Statement, Block, Then, Done, SetSlot, SetField, Slot, Field}
use Rattle.ls_checked.specs.CheckedTree.{Binary, Literal, ReturnValue}
use Rattle.ls_checked.specs.CheckedProgram.{Program, ThreadProgram, ProgramCall, Making, Calling, SetupName}
use Rattle.ls_meaning.specs.Runs.{source_history}
use Rattle.ls_linearizable.specs.Linearizable.{IsLinearizable}
use Rattle.ls_one_at_a_time.specs.Inner.{synchronized_body}

-- the body of `inc`
abbrev pub inc_body : Statement
inc_body = Block (
    Then (SetSlot 2 (Literal (values.Int (pos 0)))) (
    Then (SetSlot 2 (Field (Slot 0) 0 0)) (
    Then (SetField (Slot 0) 0 (Binary Add (Slot 2) (Literal (values.Int (pos 1))))) Done)))

-- the body of `get`
abbrev pub get_body : Statement
get_body = Block (Then (ReturnValue (Field (Slot 0) 0 0)) Done)

-- the checked tree of the counter
abbrev pub file : File
file = record {
  classes = record { fields = types.Int ∷ []; constructor = 2 } ∷ [];
  methods =
      record {
        class = 0;
        parameters = 0;
        slots = types.Class 0 ∷ types.Class 0 ∷ types.Int ∷ [];
        result = None;
        body = synchronized_body 1 0 inc_body;
      }
      ∷ record {
        class = 0;
        parameters = 0;
        slots = types.Class 0 ∷ types.Class 0 ∷ [];
        result = Some types.Int;
        body = synchronized_body 1 0 get_body;
      }
      ∷ record { class = 0; parameters = 0; slots = types.Class 0 ∷ []; result = None; body = Block Done } ∷ [];
}

-- each call increments or reads
abbrev pub AreCounts : List ProgramCall → Type 0
AreCounts [] = Unit {0}
AreCounts (Making n c text values ∷ cs) = ⊥
AreCounts (Calling n m text result values ∷ cs) = (n ≡ 0) × ((m ≡ 0) ⊎ (m ≡ 1)) × AreCounts cs

-- so many threads as one likes, with so many calls each
abbrev pub AreAllCounts : List ThreadProgram → Type 0
AreAllCounts [] = Unit {0}
AreAllCounts (t ∷ ts) = AreCounts t.calls × AreAllCounts ts

-- a setup that makes a counter, and threads
abbrev pub counting : SetupName → ThreadProgram → List ThreadProgram → Program
counting name setup threads = record { names = name ∷ []; threads = setup ∷ threads }

-- s = new Counter(); and then counts, in the setup too: each history is linearizable
abbrev pub CountersAreLinearizable : Type 0
CountersAreLinearizable =
    (name : SetupName) (text setup : List ℕ) (more : List ProgramCall) (threads : List ThreadProgram) → AreCounts more →
    AreAllCounts threads → (schedule : List ℕ) →
    IsLinearizable file (counting name (record { name = setup; calls = Making 0 0 text [] ∷ more }) threads)
    (source_history file (counting name (record { name = setup; calls = Making 0 0 text [] ∷ more }) threads) schedule)
