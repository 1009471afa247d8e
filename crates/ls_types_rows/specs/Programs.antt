-- Texts of thread programs of the classes A and B.
use Rattle.std.specs.Prelude.{◌≡◌, ◌+◌, ℕ, pos, negsuc, Bool, true, false, List, [], ◌∷◌, ◌++◌, length, replicate}
use Rattle.std.specs.Prelude.{codes, Some, None, is_some, is_none}
use Rattle.std.specs.List.{flat_map, range_with_len}
use Rattle.ls_lexer.specs.declared.sign.Sign.TheVariants as signs
use Rattle.ls_lexer.specs.Lexemes.{Lexeme, Named, Marked}
use Rattle.ls_lexer.specs.Tokens.{tokens_of}
use Rattle.ls_events.specs.declared.value.Value.{Value}
use Rattle.ls_events.specs.declared.value.Value.TheVariants as values
use Rattle.ls_events.specs.declared.value.ValueType.TheVariants as types
use Rattle.ls_checked.specs.CheckedProgram.{SetupName, ProgramCall, Making, Calling, ThreadProgram, Program}
use Rattle.ls_types_elaboration.specs.Trees.{Text}
use Rattle.ls_types_elaboration.specs.Elaboration.{ElaboratedFile}
use Rattle.ls_types_programs.specs.ProgramCalls.{Method, pending}
use Rattle.ls_types_programs.specs.ThreadPrograms.{at_semicolon, program_of, program_of_tokens}
use Rattle.ls_types_rows.specs.Written.{first, second}

-- class A { A(int x) int f(int x, boolean y) void v() }, class B { B() A g() }
abbrev pub outcome : ElaboratedFile
outcome = record {
  names = codes "A" ∷ codes "B" ∷ [];
  signs = first ∷ second ∷ [];
  file = record { classes = []; methods = [] };
}

abbrev pub IsRead : Text → Program → Type 0
IsRead text program = program_of outcome text ≡ Some program

abbrev pub IsNone : Text → Type 0
IsNone text = program_of outcome text ≡ None

-- `text` after `setup { s = new A(1); t = new B(); `
abbrev pub behind : Text → Text
behind text = codes "setup { s = new A(1); t = new B(); " ++ text

abbrev pub thread : Text → List ProgramCall → ThreadProgram
thread name calls = record { name = name; calls = calls }

abbrev pub one : Value
one = values.Int (pos 1)

abbrev pub names : List SetupName
names = record { name = codes "s"; class = 0 } ∷ record { name = codes "t"; class = 1 } ∷ []

-- the setup with its two makings and these calls, and the other threads
abbrev pub program : List ProgramCall → List ThreadProgram → Program
program calls others = record {
  names = names;
  threads = thread (codes "setup") (Making 0 0 (codes "A") (one ∷ []) ∷ Making 1 1 (codes "B") [] ∷ calls) ∷ others;
}

-- s.f(n, true)
abbrev pub calling : Value → ProgramCall
calling n = Calling 0 1 (codes "f") (Some types.Int) (n ∷ values.Boolean true ∷ [])

abbrev pub Wholes : Type 0
Wholes =
    IsRead (codes "setup { }") (record { names = []; threads = thread (codes "setup") [] ∷ [] })
    × IsRead (behind (codes "s.v(); } thread T { s.f(1, true); s.v(); } thread U { }"))
    (program (Calling 0 2 (codes "v") None [] ∷ []) (thread (codes "T")
    (calling one ∷ Calling 0 2 (codes "v") None [] ∷ []) ∷ thread (codes "U") [] ∷ []))

-- an int is written as in Java; the least int is written only after a minus
abbrev pub WrittenNumbers : Type 0
WrittenNumbers =
    IsRead (behind (codes "s.f(-1, true); }")) (program (calling (values.Int (negsuc 0)) ∷ []) [])
    × IsRead (behind (codes "s.f(-0, true); }")) (program (calling (values.Int (pos 0)) ∷ []) [])
    × IsRead (behind (codes "s.f(2147483647, true); }")) (program (calling (values.Int (pos 2147483647)) ∷ []) [])
    × IsRead (behind (codes "s.f(-2147483648, true); }")) (program (calling (values.Int (negsuc 2147483647)) ∷ []) [])
    × IsNone (behind (codes "s.f(2147483648, true); }"))
    × IsNone (behind (codes "s.f(--1, true); }"))
    × IsNone (behind (codes "s.f(-true, true); }"))

-- one argument for each parameter, of its type; no argument is a reference
abbrev pub PlainArguments : Type 0
PlainArguments =
    IsNone (behind (codes "s.f(1); }"))
    × IsNone (behind (codes "s.f(); }"))
    × IsNone (behind (codes "s.f(1, true, 1); }"))
    × IsNone (behind (codes "s.f(true, 1); }"))
    × IsNone (behind (codes "s.v(1); }"))
    × IsNone (behind (codes "s.f(1 true); }"))
    × IsNone (behind (codes "s.f(1, true,); }"))
    × IsNone (codes "setup { s = new A(null); }")
    × IsNone (codes "setup { s = new A(); }")
    × IsNone (codes "setup { s = new B(1); }")

-- the called method exists, and it answers no reference
abbrev pub MethodsCalled : Type 0
MethodsCalled =
    IsNone (behind (codes "s.g(); }"))
    × IsNone (behind (codes "t.v(); }"))
    × IsNone (behind (codes "t.g(); }"))
    × IsNone (behind (codes "s.i(); }"))

-- a setup name is given once, before it is used, and in the setup alone
abbrev pub SetupNames : Type 0
SetupNames =
    IsNone (codes "setup { s = new A(1); s = new A(1); }")
    × IsNone (codes "setup { s.v(); s = new A(1); }")
    × IsNone (codes "setup { s = new C(); }")
    × IsNone (behind (codes "} thread T { u = new B(); }"))
    × IsNone (behind (codes "} thread T { u.v(); }"))

-- a thread has a name of its own, which is neither `setup` nor `all`
abbrev pub ThreadNames : Type 0
ThreadNames =
    IsNone (codes "setup { } thread setup { }")
    × IsNone (codes "setup { } thread all { }")
    × IsNone (codes "setup { } thread T { } thread T { }")
    × IsNone (codes "setup { } thread int { }")
    × IsRead (codes "setup { } thread Setup { } thread thread { }")
    (record {
      names = [];
      threads = thread (codes "setup") [] ∷ thread (codes "Setup") [] ∷
          thread (codes "thread") [] ∷ [];
    })

-- one setup, which comes first, and whole blocks
abbrev pub Blocks : Type 0
Blocks =
    IsNone []
    × IsNone (codes "thread T { }")
    × IsNone (codes "thread T { } setup { }")
    × IsNone (codes "setup { } setup { }")
    × IsNone (codes "setup {")
    × IsNone (codes "setup { } thread T")
    × IsNone (codes "setup { } }")
    × IsNone (behind (codes "s.v() }"))
    × IsNone (behind (codes "s.v; }"))
    × IsNone (behind (codes "; }"))

-- ---- limits

-- `thread N { }`, with names by their numbers
abbrev pub threads : ℕ → List Lexeme
threads n = flat_map (λ k. Named (codes "thread") ∷ Named ((65 + k) ∷ []) ∷ Marked signs.OpenBrace ∷
    Marked signs.CloseBrace ∷ []) (range_with_len 0 n)

abbrev pub setup_and : List Lexeme → List Lexeme
setup_and ks = Named (codes "setup") ∷ Marked signs.OpenBrace ∷ Marked signs.CloseBrace ∷ ks

-- 64 threads beside the setup
abbrev pub MostThreads : Type 0
MostThreads =
    (is_some (program_of_tokens outcome (Some (setup_and (threads 64)))) ≡ true)
    × (is_none (program_of_tokens outcome (Some (setup_and (threads 65)))) ≡ true)

-- whether a thread with n calls has room for one more
abbrev pub has_room : ℕ → Bool
has_room n =
    is_some (at_semicolon
    (record {
      names = names;
      threads = [];
      name = codes "setup";
      calls = replicate n (Calling 0 2 (codes "v") None []);
    })
    (pending (Method 0 2 (codes "v") None) []) (Marked signs.Semicolon))

-- 256 calls of a thread
abbrev pub MostCalls : Type 0
MostCalls =
    (has_room 255 ≡ true)
    × (has_room 256 ≡ false)

-- 262,144 bytes of a text
abbrev pub MostBytes : Type 0
MostBytes =
    ((text : Text) → length text ≡ 262144 → program_of outcome text ≡ program_of_tokens outcome (tokens_of text))
    × ((text : Text) → length text ≡ 262145 → program_of outcome text ≡ None)
