-- Traces, worked out by hand, that the definition computes.
use Rattle.std.specs.Prelude.{◌≡◌, ℕ, List, [], ◌∷◌, ◌++◌, replicate, codes, None}
use Rattle.std.specs.List.{flat_map}
use Rattle.ls_events.specs.declared.value.ValueType.TheVariants as types
use Rattle.ls_checked.specs.declared.tree.Called.TheVariants as called
use Rattle.ls_checked.specs.CheckedTree.{Block, Call, Done, End, Evaluate, Field, MakeLock, SetField, Slot, Then}
use Rattle.ls_checked.specs.CheckedProgram.{Making, Calling, Program}
use Rattle.ls_report.specs.Events.{Text}
use Rattle.ls_labels.specs.Names.{Names}
use Rattle.ls_trace.specs.Folds.{folded_text}
use Rattle.ls_trace.specs.Lines.{trace_text}

-- setup { c = new C(); } thread A { c.f(); } thread B { c.f(); }
abbrev pub two_threads : Program
two_threads = record {
  names = record { name = codes "c"; class = 0 } ∷ [];
  threads =
      record { name = codes "setup"; calls = Making 0 0 (codes "C") [] ∷ [] }
      ∷ record { name = codes "A"; calls = Calling 0 0 (codes "f") None [] ∷ [] }
      ∷ record { name = codes "B"; calls = Calling 0 0 (codes "f") None [] ∷ [] }
      ∷ [];
}

-- class C { Lock lock = new ReentrantLock(); void f() { lock.lock(); } }
abbrev pub one_lock : Names
one_lock = record {
  classes = codes "C" ∷ [];
  signs =
      record {
        fields = record { name = codes "lock"; type = types.Lock } ∷ [];
        methods = record { name = codes "f"; number = 0; parameters = []; result = None } ∷ [];
        constructor = 1;
        parameters = [];
      }
      ∷ [];
  file = record {
    classes = record { fields = types.Lock ∷ []; constructor = 1 } ∷ [];
    methods =
        record {
          class = 0;
          parameters = 0;
          slots = types.Class 0 ∷ [];
          result = None;
          body = Block (Then (Evaluate (Call (Field (Slot 0) 0 0) called.LockIt End)) Done);
        }
        ∷ record {
          class = 0;
          parameters = 0;
          slots = types.Class 0 ∷ [];
          result = None;
          body = Block (Then (SetField (Slot 0) 0 MakeLock) Done);
        }
        ∷ [];
  };
  program = two_threads;
}

-- before the setup a thread that hasn't started, then the setup and one step more, then a thread
abbrev pub schedule : List ℕ
schedule = replicate 1 1 ++ replicate 8 0 ++ replicate 6 1

abbrev pub each_line : List Text → Text
each_line = flat_map (λ t. t ++ 10 ∷ [])

abbrev pub FirstLines : Type 0
FirstLines =
    trace_text one_lock schedule 1 9
    ≡ each_line (codes "1 A hasn't started: the setup hasn't ended"
    ∷ codes "2 setup.1 call c = new C()"
    ∷ codes "3 setup.1 makes C: C#1"
    ∷ codes "4 setup.1 enters new C"
    ∷ codes "5 setup.1 makes ReentrantLock: ReentrantLock#2"
    ∷ codes "6 setup.1 writes C#1.lock: ReentrantLock#2"
    ∷ codes "7 setup.1 writes c: C#1"
    ∷ codes "8 setup.1 return"
    ∷ codes "9 setup has ended"
    ∷ [])

abbrev pub LinesInARange : Type 0
LinesInARange =
    trace_text one_lock schedule 8 10
    ≡ each_line (codes "8 setup.1 return" ∷ codes "9 setup has ended" ∷ codes "10 A.1 call c.f()" ∷ [])

-- reads and an entered method are one line, and what changes something is a line of its own
abbrev pub FoldedReads : Type 0
FoldedReads =
    folded_text one_lock schedule 8 15
    ≡ each_line (codes "8 (7) setup.1 return"
    ∷ codes "9 (8) setup has ended"
    ∷ codes "10 (2) A.1 call c.f()"
    ∷ codes "11-13 (3-5) A.1 reads C#1.lock: ReentrantLock#2, last of 3 steps that change nothing"
    ∷ codes "14 (6) A.1 locks ReentrantLock#2"
    ∷ codes "15 (7) A.1 return"
    ∷ [])

-- steps that wait are another line than reads; a range may begin within a fold
abbrev pub FoldedWaits : Type 0
FoldedWaits =
    folded_text one_lock (replicate 7 0 ++ replicate 5 1 ++ replicate 6 2) 15 18
    ≡ each_line (codes "15-16 (3-4) B.1 reads C#1.lock: ReentrantLock#2, last of 2 steps that change nothing"
    ∷ codes "17-18 (5-6) B.1 waits for ReentrantLock#2, which A owns, for 2 steps"
    ∷ [])

-- threads in turn are no neighbours
abbrev pub FoldedTurns : Type 0
FoldedTurns =
    folded_text one_lock (1 ∷ 2 ∷ 2 ∷ 1 ∷ []) 1 9
    ≡ each_line (codes "1 (1) A hasn't started: the setup hasn't ended"
    ∷ codes "2-3 (1-2) B hasn't started: the setup hasn't ended, for 2 steps"
    ∷ codes "4 (2) A hasn't started: the setup hasn't ended"
    ∷ [])
