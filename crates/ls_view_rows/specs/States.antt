-- What is shown of small states.
use Rattle.std.specs.Prelude.{◌≡◌, ℕ, ◌==◌, ◌||◌, pos, negsuc, true, false, List, [], ◌∷◌, ◌++◌, None, codes, map}
use Rattle.std.specs.Prelude.{replicate}
use Rattle.ls_events.specs.declared.value.Value.{Value}
use Rattle.ls_events.specs.declared.value.Value.TheVariants.{Int, Boolean, Reference, Pair}
use Rattle.ls_events.specs.declared.value.ValueType.TheVariants as types
use Rattle.ls_events.specs.declared.action.Answer.{Answer}
use Rattle.ls_events.specs.declared.action.Answer.TheVariants.{Done as IsDone, Gives, Fails}
use Rattle.ls_events.specs.declared.kind.Kind.TheVariants.{Arithmetic}
use Rattle.ls_events.specs.declared.event.Event.{Event}
use Rattle.ls_events.specs.declared.event.Happening.TheVariants as happenings
use Rattle.ls_checked.specs.declared.tree.Called.TheVariants as called
use Rattle.ls_checked.specs.CheckedTree.{File, Block, Done, Then, SetField, Evaluate, Slot, Field, MakeLock, Call, End}
use Rattle.ls_checked.specs.CheckedProgram.{Program, Making, Calling}
use Rattle.ls_meaning.specs.Store.{Free, HeldBy, Object, LockOf, Markable, Array}
use Rattle.ls_report.specs.Events.{Text}
use Rattle.ls_types_elaboration.specs.Known.{ClassSign}
use Rattle.ls_labels.specs.declared.label.Label.TheVariants as labels
use Rattle.ls_labels.specs.Names.{Names}
use Rattle.ls_state.specs.Scene.{Scene, scene_of}
use Rattle.ls_state.specs.State.{things_text, names_text, state_text, threads_text}
use Rattle.ls_state.specs.Each.{drawings_text, states_text}
use Rattle.ls_state.specs.Drawing.{graph_of}

-- a class with these fields
abbrev pub sign : List Text → ClassSign
sign fields = record {
  fields = map (λ n. record { name = n; type = types.Int }) fields;
  methods = [];
  constructor = 0;
  parameters = [];
}

-- a class `L`: its constructor makes its one field, a lock, and its method `hold` takes that lock
abbrev pub locking : File
locking = record {
  classes = record { fields = types.Lock ∷ []; constructor = 0 } ∷ [];
  methods =
      record {
        class = 0;
        parameters = 0;
        slots = types.Class 0 ∷ [];
        result = None;
        body = Block (Then (SetField (Slot 0) 0 MakeLock) Done);
      }
      ∷ record {
        class = 0;
        parameters = 0;
        slots = types.Class 0 ∷ [];
        result = None;
        body = Block (Then (Evaluate (Call (Field (Slot 0) 0 0) called.LockIt End)) Done);
      }
      ∷ [];
}

-- setup: l = new L(); A and B: l.hold()
abbrev pub holders : Program
holders = record {
  names = record { name = codes "l"; class = 0 } ∷ record { name = codes "m"; class = 0 } ∷ [];
  threads =
      record { name = codes "setup"; calls = Making 0 0 (codes "L") [] ∷ [] }
      ∷ record { name = codes "A"; calls = Calling 0 1 (codes "hold") None [] ∷ [] }
      ∷ record { name = codes "B"; calls = Calling 0 1 (codes "hold") None [] ∷ [] }
      ∷ [];
}

abbrev pub names : Names
names = record {
  classes = codes "L" ∷ codes "Node" ∷ codes "Empty" ∷ [];
  signs = sign (codes "lock" ∷ []) ∷ sign (codes "item" ∷ codes "next" ∷ []) ∷ sign [] ∷ [];
  file = locking;
  program = holders;
}

-- one thing of each kind
abbrev pub some : Scene
some = record {
  state = record {
    store = record {
      things =
          Object Free (Reference 2 ∷ [])
          ∷ LockOf (HeldBy 1 2)
          ∷ Object Free (Int (negsuc 4) ∷ Reference 4 ∷ [])
          ∷ Markable (Pair 5 true)
          ∷ Object Free (Int (pos 7) ∷ Reference 0 ∷ [])
          ∷ Markable (Pair 0 false)
          ∷ Array 16 (λ i. Boolean (i == 0 || i == 3))
          ∷ Array 1 (λ i. Boolean false)
          ∷ LockOf (HeldBy 2 1)
          ∷ LockOf Free
          ∷ Object Free []
          ∷ [];
      names = Reference 1 ∷ Reference 0 ∷ [];
    };
    answers = [];
  };
  labels =
      labels.Class 0 ∷ labels.Lock ∷ labels.Class 1 ∷ labels.Markable ∷ labels.Class 1 ∷ labels.Markable ∷
      labels.Array ∷ labels.Array
      ∷ labels.Lock ∷ labels.Lock ∷ labels.Class 2 ∷ [];
  history = [];
}

abbrev pub Things : Type 0
Things = things_text names some ≡
    codes "L#1: lock = ReentrantLock#2\n"
    ++ codes "ReentrantLock#2: held by A, 2 holds\n"
    ++ codes "Node#3: item = -5, next = AtomicMarkableReference#4\n"
    ++ codes "AtomicMarkableReference#4: (Node#5, true)\n"
    ++ codes "Node#5: item = 7, next = null\n"
    ++ codes "AtomicMarkableReference#6: (null, false)\n"
    ++ codes "boolean[]#7: 16 items, true at 0, 3\n"
    ++ codes "boolean[]#8: 1 item, all false\n"
    ++ codes "ReentrantLock#9: held by B, 1 hold\n"
    ++ codes "ReentrantLock#10: free\n"
    ++ codes "Empty#11\n"

abbrev pub SetupNames : Type 0
SetupNames = names_text names some ≡ codes "l = L#1\nm = null\n"

abbrev pub Graph : Type 0
Graph = graph_of names some ≡
    codes "digraph state {\nrankdir=LR;\n"
    ++ codes "o1 [shape=record, label=\"L#1|<f0> lock\"];\n"
    ++ codes "o1:f0 -> o2;\n"
    ++ codes "o2 [shape=record, style=filled, fillcolor=lightgray, label=\"ReentrantLock#2|held by A, 2 holds\"];\n"
    ++ codes "o3 [shape=record, label=\"Node#3|item = -5|<f1> next\"];\n"
    ++ codes "o3:f1 -> o4;\n"
    ++ codes "o4 [shape=record, label=\"AtomicMarkableReference#4|mark = true|<f0> reference\"];\n"
    ++ codes "o4:f0 -> o5 [style=dashed, color=red, label=marked];\n"
    ++ codes "o5 [shape=record, label=\"Node#5|item = 7|next = null\"];\n"
    ++ codes "o6 [shape=record, label=\"AtomicMarkableReference#6|mark = false|reference = null\"];\n"
    ++ codes "o7 [shape=record, label=\"boolean[]#7|16 items, true at 0, 3\"];\n"
    ++ codes "o8 [shape=record, label=\"boolean[]#8|1 item, all false\"];\n"
    ++ codes "o9 [shape=record, style=filled, fillcolor=lightgray, label=\"ReentrantLock#9|held by B, 1 hold\"];\n"
    ++ codes "o10 [shape=record, label=\"ReentrantLock#10|free\"];\n"
    ++ codes "o11 [shape=record, label=\"Empty#11\"];\n"
    ++ codes "n0 [shape=plaintext, label=\"l\"];\n"
    ++ codes "n0 -> o1;\n"
    ++ codes "n1 [shape=plaintext, label=\"m = null\"];\n"
    ++ codes "}\n"

-- nothing is made, and the setup hasn't begun its call
abbrev pub AtFirst : Type 0
AtFirst = state_text names [] ≡
    codes "l = null\nm = null\nsetup.1 call l = new L()\n"
    ++ codes "A hasn't started: the setup hasn't ended\nB hasn't started: the setup hasn't ended\n"

-- a run in which the setup has ended, with these answers of A and B, and these events
abbrev pub held : List (Answer Value) → List (Answer Value) → List Event → Scene
held a b events = record {
  state = record {
    store = record {
      things = Object Free (Reference 2 ∷ []) ∷ LockOf (HeldBy 1 1) ∷ [];
      names = Reference 1 ∷
          Reference 0 ∷ [];
    };
    answers = (IsDone ∷ Gives (Reference 1) ∷ IsDone ∷ Gives (Reference 2) ∷ IsDone ∷ IsDone ∷ IsDone ∷ []) ∷ a ∷ b ∷
        [];
  };
  labels = labels.Class 0 ∷ labels.Lock ∷ [];
  history = events;
}

abbrev pub called_by : ℕ → Event
called_by thread = record { thread = thread; call = 1; happening = happenings.Called }

-- the answers up to the lock
abbrev pub at_the_lock : List (Answer Value)
at_the_lock = IsDone ∷ Gives (Reference 1) ∷ IsDone ∷ Gives (Reference 2) ∷ []

-- A holds the lock, and B waits for it
abbrev pub Waiting : Type 0
Waiting = threads_text names (held (at_the_lock ++ IsDone ∷ []) at_the_lock
    (called_by 0 ∷ called_by 2 ∷ called_by 1 ∷ [])) ≡
    codes "setup has ended\nA.1 return\nB.1 waits for ReentrantLock#2, which A owns\n"

-- A asks for the lock that it holds, and B reads its field
abbrev pub Reading : Type 0
Reading = threads_text names (held at_the_lock (IsDone ∷ Gives (Reference 1) ∷ IsDone ∷ [])
    (called_by 0 ∷ called_by 2 ∷ called_by 1 ∷ [])) ≡
    codes "setup has ended\nA.1 locks ReentrantLock#2\nB.1 reads L#1.lock\n"

-- A has ended, and B has ended by a trap
abbrev pub Over : Type 0
Over = threads_text names (held (at_the_lock ++ IsDone ∷ IsDone ∷ []) (IsDone ∷ Gives (Reference 0) ∷ IsDone ∷ [])
    (called_by 0 ∷ called_by 2 ∷ called_by 1 ∷ [])) ≡
    codes "setup has ended\nA has ended\nB has ended with a trap\n"

-- the setup's making of its lock has failed
abbrev pub NeverStarts : Type 0
NeverStarts = threads_text names (record {
  state = record {
    store = record { things = Object Free (Reference 0 ∷ []) ∷ []; names = Reference 0 ∷ Reference 0 ∷ [] };
    answers = (IsDone ∷ Gives (Reference 1) ∷ IsDone ∷ Fails Arithmetic ∷ IsDone ∷ []) ∷ [] ∷ [] ∷ [];
  };
  labels = labels.Class 0 ∷ [];
  history = called_by 0 ∷ [];
}) ≡
    codes "setup has ended with a trap\n"
    ++ codes "A never starts: the setup has ended with a trap\nB never starts: the setup has ended with a trap\n"

-- B hasn't begun its call
abbrev pub BeforeACall : Type 0
BeforeACall = threads_text names (held at_the_lock [] (called_by 0 ∷ called_by 1 ∷ [])) ≡
    codes "setup has ended\nA.1 locks ReentrantLock#2\nB.1 call l.hold()\n"

-- the state, labels and events of a run
abbrev pub Left : Type 0
Left = scene_of names (replicate 9 0 ++ replicate 3 1) ≡ record {
  state = record {
    store = record {
      things = Object Free (Reference 2 ∷ []) ∷ LockOf Free ∷ [];
      names = Reference 1 ∷ Reference 0 ∷
          [];
    };
    answers =
        (IsDone ∷ Gives (Reference 1) ∷ IsDone ∷ Gives (Reference 2) ∷ IsDone ∷ IsDone ∷ IsDone ∷ [])
        ∷ (IsDone ∷ Gives (Reference 1) ∷ IsDone ∷ [])
        ∷ []
        ∷ [];
  };
  labels = labels.Class 0 ∷ labels.Lock ∷ [];
  history = called_by 0 ∷ record { thread = 0; call = 1; happening = happenings.Returned None } ∷ called_by 1 ∷ [];
}

-- the states after the second and the third step
abbrev pub Each : Type 0
Each = states_text names (0 ∷ 1 ∷ 0 ∷ 0 ∷ []) 2 3 ≡
    codes "after step 2\nl = null\nm = null\nsetup.1 makes L\n"
    ++ codes "A hasn't started: the setup hasn't ended\nB hasn't started: the setup hasn't ended\n\n"
    ++ codes "after step 3\nL#1: lock = null\nl = null\nm = null\nsetup.1 enters new L\n"
    ++ codes "A hasn't started: the setup hasn't ended\nB hasn't started: the setup hasn't ended\n\n"

-- after the last step there is none
abbrev pub EachAtTheEnd : Type 0
EachAtTheEnd = states_text names (1 ∷ []) 1 9 ≡
    codes "after step 1\nl = null\nm = null\nsetup.1 call l = new L()\n"
    ++ codes "A hasn't started: the setup hasn't ended\nB hasn't started: the setup hasn't ended\n\n"

abbrev pub EachGraph : Type 0
EachGraph = drawings_text names (1 ∷ 1 ∷ []) 2 2 ≡
    codes "// after step 2\ndigraph state {\nrankdir=LR;\n"
    ++ codes "n0 [shape=plaintext, label=\"l = null\"];\n"
    ++ codes "n1 [shape=plaintext, label=\"m = null\"];\n"
    ++ codes "}\n\n"
