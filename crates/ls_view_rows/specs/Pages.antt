-- Data of pages, worked out by hand, that the definitions compute.
use Rattle.std.specs.Prelude.{◌≡◌, ◌++◌, [], ◌∷◌, codes, None}
use Rattle.ls_events.specs.declared.value.ValueType.TheVariants as types
use Rattle.ls_checked.specs.CheckedTree.{Block, Done}
use Rattle.ls_checked.specs.CheckedProgram.{Making}
use Rattle.ls_labels.specs.Names.{Names}
use Rattle.ls_page.specs.Data.{Texts, page_text}
use Rattle.ls_page.specs.Quoted.{quoted}

-- a quote, a backslash, `<`, and the characters 0, 10, 31 and 127
abbrev pub EachEscape : Type 0
EachEscape =
    quoted (34 ∷ 92 ∷ 60 ∷ 0 ∷ 10 ∷ 31 ∷ 127 ∷ [])
    ≡ codes "\"\\\"\\\\\\u003c\\u0000\\u000a\\u001f\\u007f\""

-- `/s>é😀`
abbrev pub OtherCharacters : Type 0
OtherCharacters =
    quoted (47 ∷ 115 ∷ 62 ∷ 195 ∷ 169 ∷ 240 ∷ 159 ∷ 152 ∷ 128 ∷ [])
    ≡ 34 ∷ 47 ∷ 115 ∷ 62 ∷ 195 ∷ 169 ∷ 240 ∷ 159 ∷ 152 ∷ 128 ∷ 34 ∷ []

abbrev pub texts : Texts
texts = record {
  classes = codes "class C { int v; }";
  program = codes "setup { c = new C(); }";
  schedule = codes "setup*5";
}

-- the same as a checked file and a program
abbrev pub one_object : Names
one_object = record {
  classes = codes "C" ∷ [];
  signs =
      record {
        fields = record { name = codes "v"; type = types.Int } ∷ [];
        methods = [];
        constructor = 0;
        parameters = [];
      }
      ∷ [];
  file = record {
    classes = record { fields = types.Int ∷ []; constructor = 0 } ∷ [];
    methods = record { class = 0; parameters = 0; slots = types.Class 0 ∷ []; result = None; body = Block Done } ∷ [];
  };
  program = record {
    names = record { name = codes "c"; class = 0 } ∷ [];
    threads = record { name = codes "setup"; calls = Making 0 0 (codes "C") [] ∷ [] } ∷ [];
  };
}

-- steps 2 and 3 of 5
abbrev pub StepsInTheMiddle : Type 0
StepsInTheMiddle =
    page_text one_object texts (0 ∷ 0 ∷ 0 ∷ 0 ∷ 0 ∷ []) 2 3
    ≡ codes "{\"listset\":2,\"from\":2,\"to\":3,\"classes\":\"class C { int v; }\","
    ++ (codes "\"program\":\"setup { c = new C(); }\",\"schedule\":\"setup*5\","
    ++ (codes "\"past\":\"setup.1 call c = new C()\\u000a\","
    ++ (codes "\"before\":\"c = null\\u000asetup.1 makes C\\u000a\","
    ++ (codes "\"trace\":\"2 setup.1 makes C: C#1\\u000a3 setup.1 enters new C\\u000a\","
    ++ codes "\"after\":\"C#1: v = 0\\u000ac = null\\u000asetup.1 writes c: C#1\\u000a\"}\n"))))

-- steps 5 to 8 of 8, of which the last three say the same
abbrev pub StepsThatSayTheSame : Type 0
StepsThatSayTheSame =
    page_text one_object texts (0 ∷ 0 ∷ 0 ∷ 0 ∷ 0 ∷ 0 ∷ 0 ∷ 0 ∷ []) 5 9
    ≡ codes "{\"listset\":2,\"from\":5,\"to\":8,\"classes\":\"class C { int v; }\","
    ++ (codes "\"program\":\"setup { c = new C(); }\",\"schedule\":\"setup*5\","
    ++ (codes "\"past\":\"setup.1 call c = new C()\\u000a\","
    ++ (codes "\"before\":\"C#1: v = 0\\u000ac = C#1\\u000asetup.1 return\\u000a\","
    ++ (codes "\"trace\":\"5 setup.1 return\\u000a6 setup has ended\\u000a\","
    ++ codes "\"after\":\"C#1: v = 0\\u000ac = C#1\\u000asetup has ended\\u000a\"}\n"))))
