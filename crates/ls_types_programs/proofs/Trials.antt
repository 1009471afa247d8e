-- Texts that spell programs, and texts that don't.
use Rattle.std.proofs.Common.{◌≡◌, refl, true, [], ◌∷◌, Some, None, pos, negsuc, codes, lit≤}
use Rattle.ls_events.specs.declared.value.Value.TheVariants as values
use Rattle.ls_events.specs.declared.value.ValueType.TheVariants as types
use Rattle.ls_checked.specs.CheckedProgram.{Making, Calling, Program}
use Rattle.ls_lexer.specs.Tokens.{lexed}
use Rattle.ls_types_elaboration.specs.Known.{MethodSign}
use Rattle.ls_types_elaboration.specs.Elaboration.{ElaboratedFile}
use Rattle.ls_types_programs.specs.ThreadPrograms.{program_of}
use Rattle.ls_types_programs.specs.Spelled as spelled
use Rattle.ls_types_programs.specs.Programs as programs

m : MethodSign
m = record { name = codes "m"; number = 1; parameters = types.Boolean ∷ types.Int ∷ []; result = Some types.Int }

o : ElaboratedFile
o = record {
  names = codes "C" ∷ [];
  signs = record {
    fields = [];
    methods = m ∷ record {
      name = codes "r";
      number = 2;
      parameters = [];
      result = Some (types.Class 0);
    } ∷ [];
    constructor = 0;
    parameters = types.Int ∷ [];
  } ∷ [];
  file = record { classes = []; methods = [] };
}

p : Program
p = record {
  names = record { name = codes "s"; class = 0 } ∷ [];
  threads =
      record { name = codes "setup"; calls = Making 0 0 (codes "C") (values.Int (negsuc 2147483647) ∷ []) ∷ [] }
      ∷ record {
        name = codes "s";
        calls = Calling 0 1 (codes "m") (Some types.Int)
            (values.Boolean true ∷ values.Int (pos 0) ∷ []) ∷ [];
      }
      ∷ [];
}

-- both ways to write 0
accepted : program_of o (codes "setup { s = new C(-2147483648); } thread s { s.m(true, -0); }") ≡ Some p
unfolding lexed m o p
accepted = refl

is_text : programs.IsTextOf o p (codes "setup { s = new C(-2147483648); } thread s { s.m(true, -0); }")
unfolding lexed m o p
is_text = record {
  short = lit≤ tt;
  tokens = _;
  lexed = refl;
  spelled = spelled.Whole
      (spelled.More (spelled.New (record { name = codes "s"; class = 0 }) refl refl
      (spelled.First (spelled.Minus (codes "2147483648") (lit≤ tt)) spelled.NoOther)) spelled.NoCall)
      (spelled.Thread
      (spelled.More (spelled.On (record { name = codes "s"; class = 0 }) refl
      (spelled.First spelled.True (spelled.Other (spelled.Minus (codes "0") (lit≤ tt)) spelled.NoOther)))
      spelled.NoCall)
      spelled.NoThread);
  program = record {
    setup = _;
    threads = _;
    parts = refl;
    gives = programs.Makes {names = []} (record { name = codes "s"; class = 0 }) (codes "C")
        (values.Int (negsuc 2147483647) ∷ []) refl tt refl refl programs.End;
    calls = lit≤ tt;
    few = lit≤ tt;
    others = programs.Thread {before = record {
      name = codes "setup";
      calls = Making 0 0 (codes "C") (values.Int (negsuc 2147483647) ∷ []) ∷ [];
    } ∷ []}
        (record {
          name = codes "s";
          calls = Calling 0 1 (codes "m") (Some types.Int)
              (values.Boolean true ∷ values.Int (pos 0) ∷ []) ∷ [];
        }) (λ e. cc) ((λ e. cc), tt) (lit≤ tt)
        (programs.Calls 0 (record { name = codes "s"; class = 0 }) (codes "m") m
        (values.Boolean true ∷ values.Int (pos 0) ∷ []) refl refl tt refl programs.End) programs.End;
  };
}

-- refused: another form, an unknown name, class, method, another number or type of arguments, a name twice, a reference
no0 : program_of o (codes "") ≡ None
unfolding lexed m o
no0 = refl

no1 : program_of o (codes "setup { s = new C(2147483648); }") ≡ None
unfolding lexed m o
no1 = refl

no2 : program_of o (codes "setup { s = new C(1); s = new C(1); }") ≡ None
unfolding lexed m o
no2 = refl

no3 : program_of o (codes "setup { } thread A { s.m(true, 1); }") ≡ None
unfolding lexed m o
no3 = refl

no4 : program_of o (codes "setup { s = new C(1); } thread A { s.m(1, true); }") ≡ None
unfolding lexed m o
no4 = refl

no5 : program_of o (codes "setup { s = new C(1); } thread A { s.m(true); }") ≡ None
unfolding lexed m o
no5 = refl

no6 : program_of o (codes "setup { s = new C(1); } thread A { s.r(); }") ≡ None
unfolding lexed m o
no6 = refl

no7 : program_of o (codes "setup { } thread A { } thread A { }") ≡ None
unfolding lexed m o
no7 = refl

no8 : program_of o (codes "setup { } thread all { }") ≡ None
unfolding lexed m o
no8 = refl

no9 : program_of o (codes "setup { } thread setup { }") ≡ None
unfolding lexed m o
no9 = refl

no10 : program_of o (codes "setup { } thread class { }") ≡ None
unfolding lexed m o
no10 = refl

no11 : program_of o (codes "setup { } thread A { s = new C(1); }") ≡ None
unfolding lexed m o
no11 = refl

no12 : program_of o (codes "setup { s = new C(--1); }") ≡ None
unfolding lexed m o
no12 = refl

yes13 : program_of o (codes "setup { } /* x */ thread thread { } // end") ≡ Some
    (record {
      names = [];
      threads = record { name = codes "setup"; calls = [] } ∷
          record { name = codes "thread"; calls = [] } ∷ [];
    })
unfolding lexed m o
yes13 = refl
