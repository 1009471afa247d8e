-- Calls that are being read, and calls that are read.
use Rattle.std.proofs.Common.{◌≡◌, ℕ, ◌<◌, refl, sym, subst, Bool, true, false, List, [], ◌∷◌, ◌++◌, length, Option}
use Rattle.std.proofs.Common.{Some, None, if◌then◌else◌}
use Rattle.std.specs.Prelude.{slice_get}
use Rattle.ls_events.specs.declared.value.Value.{Value}
use Rattle.ls_events.specs.declared.value.ValueType.{ValueType}
use Rattle.ls_checked.specs.CheckedTree.{File}
use Rattle.ls_checked.specs.CheckedProgram.{SetupName, ProgramCall, Making, Calling, Program}
use Rattle.ls_meaning.specs.Expressions.{constructor_of}
use Rattle.ls_types_judgement.specs.Programs.{AreArguments, IsPlainResult, IsTypedCall}
use Rattle.ls_types_elaboration.specs.Trees.{Text}
use Rattle.ls_types_elaboration.specs.Known.{MethodSign, number_of, method_named, methods_in}
use Rattle.ls_types_elaboration.specs.Elaboration.{ElaboratedFile}
use Rattle.ls_types_programs.specs.ProgramCalls.{Callee, Maker, Method, Pending, maker, is_plain, callable, called_on}
use Rattle.ls_types_programs.specs.ProgramCalls.{fits, with_argument, is_full, call_of, names_after}
use Rattle.ls_types_laws.proofs.Lists.{Grows, grows_same, grows_by, at_grown, at_end}
use Rattle.ls_types_laws.proofs.Agreement.{IsThere}
use Rattle.ls_types_laws.proofs.Found.{number_below}
use Rattle.ls_types_laws.proofs.Whole.{IsTypedOutcome}
use Rattle.ls_types_laws.proofs.ProgramPieces.{Reads, IsRanged, Front, front_push, is_full_so, plain_result}

-- a call against the setup names so far
abbrev pub CallIn : File → List SetupName → ProgramCall → Type 0
CallIn F names call = IsTypedCall F (record { names = names; threads = [] }) call

-- it stays typed with more names, in any program that has them
pub call_moved : (F : File) (names : List SetupName) (program : Program) →
    Grows names program.names →
    (call : ProgramCall) →
    CallIn F names call →
    IsTypedCall F program call
call_moved F names program g (Making name class text vs) h = record {
  there = h.there;
  constructor = h.constructor;
  found = h.found;
  own = h.own;
  fit = h.fit;
  setup_name = h.setup_name;
  named = at_grown names program.names name h.setup_name g h.named;
  holds = h.holds;
}
call_moved F names program g (Calling name method text result vs) h = record {
  setup_name = h.setup_name;
  named = at_grown names program.names name h.setup_name g h.named;
  called = h.called;
  found = h.found;
  own = h.own;
  answers = h.answers;
  plain = h.plain;
  fit = h.fit;
}

-- what is called is there, with parameters of these types
pub record MakerIs (F : File) (class : ℕ) (types : List ValueType) : Type 0 where
  pub below : class < length F.classes
  pub there : IsThere F class (constructor_of F.classes class) types None

pub record MethodIs (F : File) (names : List SetupName) (name method : ℕ) (result : Option ValueType)
    (types : List ValueType) : Type 0 where
  pub setup_name : SetupName
  pub named : slice_get names name ≡ Some setup_name
  pub there : IsThere F setup_name.class method types result
  pub plain : IsPlainResult result

abbrev pub CalleeIs : File → List SetupName → Callee → List ValueType → Type 0
CalleeIs F names (Maker name class text) ts = MakerIs F class ts
CalleeIs F names (Method name method text result) ts = MethodIs F names name method result ts

-- a call that is being read: its arguments so far have the types of the parameters
abbrev pub IsPending : File → List SetupName → Pending → Type 0
IsPending F names p = CalleeIs F names p.callee p.types × Front p.types p.values

-- a making that is being read is so
pub maker_pending : (o : ElaboratedFile) →
    IsTypedOutcome o →
    (names : List SetupName) (name class_name : Text) (n : Option ℕ) →
    number_of o.names class_name ≡ n →
    Reads (IsPending o.file names) (maker o name class_name n)
maker_pending o t names name class_name None e = tt
maker_pending o t names name class_name (Some c) e = (
  record {
    below = subst (λ n. c < n) t.names (number_below o.names class_name c e);
    there = t.agrees.constructor c class_name e;
  },
  tt,
)

callable_pending : (F : File) (names : List SetupName) (n : ℕ) (s : SetupName) (name : Text) (m : Option MethodSign) →
    slice_get names n ≡ Some s →
    ((x : MethodSign) → m ≡ Some x → IsThere F s.class x.number x.parameters x.result) →
    Reads (IsPending F names) (callable n name m)
callable_pending F names n s name None at h = tt
callable_pending F names n s name (Some m) at h = answered (is_plain m.result) refl
  where
    answered : (b : Bool) →
        is_plain m.result ≡ b →
        Reads (IsPending F names)
        (if b then Some (record { callee = Method n m.number name m.result; types = m.parameters; values = [] })
        else None)
    answered true e = (record { setup_name = s; named = at; there = h m refl; plain = plain_result m.result e }, tt)
    answered false e = tt

-- a method's call that is being read is so
pub called_on_pending : (o : ElaboratedFile) →
    IsTypedOutcome o →
    (names : List SetupName) (n : ℕ) (s : Option SetupName) (name : Text) →
    slice_get names n ≡ s →
    Reads (IsPending o.file names) (called_on o n s name)
called_on_pending o t names n None name e = tt
called_on_pending o t names n (Some s) name e =
    callable_pending o.file names n s name (method_named (methods_in (slice_get o.signs s.class)) name) e
    (λ m is. t.agrees.method s.class name m is)

-- so it is with one more argument
pub argument_pending : (F : File) (names : List SetupName) (p : Pending) →
    IsPending F names p →
    (v : Value) →
    IsRanged v →
    Reads (IsPending F names) (with_argument p v)
argument_pending F names p h v r = fitting (fits (slice_get p.types (length p.values)) v) refl
  where
    fitting : (b : Bool) → fits (slice_get p.types (length p.values)) v ≡ b →
        Reads (IsPending F names)
        (if b then Some (record { callee = p.callee; types = p.types; values = p.values ++ v ∷ [] }) else None)
    fitting true e = (h.0, front_push p.types p.values v h.1 e r)
    fitting false e = tt

-- a call that is read whole
abbrev pub IsReady : File → List SetupName → Pending → Type 0
IsReady F names p = CalleeIs F names p.callee p.types × AreArguments p.types p.values

-- a call with all its arguments is ready
pub full_ready : (F : File) (names : List SetupName) (p : Pending) →
    IsPending F names p →
    is_full p ≡ true →
    IsReady F names p
full_ready F names p h e = (h.0, is_full_so p.types p.values h.1 e)

finished_call : (F : File) (names : List SetupName) (callee : Callee) (ts : List ValueType) (vs : List Value) →
    CalleeIs F names callee ts →
    AreArguments ts vs →
    CallIn F (names_after names callee) (call_of (length names) (record { callee = callee; types = ts; values = vs }))
finished_call F names (Maker name class text) ts vs h fit = record {
  there = h.below;
  constructor = h.there.method;
  found = h.there.found;
  own = h.there.class;
  fit = subst (λ us. AreArguments us vs) (sym h.there.parameters) fit;
  setup_name = record { name = name; class = class };
  named = at_end names (record { name = name; class = class });
  holds = refl;
}
finished_call F names (Method name method text result) ts vs h fit = record {
  setup_name = h.setup_name;
  named = h.named;
  called = h.there.method;
  found = h.there.found;
  own = h.there.class;
  answers = h.there.result;
  plain = h.plain;
  fit = subst (λ us. AreArguments us vs) (sym h.there.parameters) fit;
}

-- a call that is ready is typed
pub ready_call : (F : File) (names : List SetupName) (p : Pending) →
    IsReady F names p →
    CallIn F (names_after names p.callee) (call_of (length names) p)
ready_call F names p h = finished_call F names p.callee p.types p.values h.0 h.1

-- the setup names grow by that of a making
pub names_grow : (names : List SetupName) (callee : Callee) → Grows names (names_after names callee)
names_grow names (Maker name class text) = grows_by names (record { name = name; class = class } ∷ [])
names_grow names (Method name method text result) = grows_same names
