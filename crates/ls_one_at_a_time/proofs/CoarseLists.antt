-- The law at the list with one lock.
use Rattle.std.proofs.Common.{◌≡◌, ◌≢◌, ◌⊎◌, inl, inr, ℕ, zero, suc, Bool, true, false, List, [], ◌∷◌, Some}
use Rattle.std.proofs.Common.{refl, sym, subst, arith}
use Rattle.std.specs.Prelude.{nat_eq, slice_get}
use Rattle.std.proofs.lemmas.Bool.Decides.{nat_tests}
use Rattle.ls_events.specs.declared.value.Value.{Value}
use Rattle.ls_events.specs.declared.value.Value.TheVariants as values
use Rattle.ls_checked.specs.CheckedTree.{Method, Done}
use Rattle.ls_checked.specs.CheckedProgram.{ThreadProgram, ProgramCall, Making, Calling, SetupName}
use Rattle.ls_meaning.specs.Threads.{calls_in}
use Rattle.ls_one_at_a_time.specs.Inner.{AreHelpers, RunsPlain}
use Rattle.ls_one_at_a_time.specs.Clean.{AreCleanMethods, RunsClean}
use Rattle.ls_one_at_a_time.specs.Locked.{AreLocked, IsCallee, IsHelp, IsLocked, IsLocking, IsOnThis, NameNone}
use Rattle.ls_one_at_a_time.specs.Locked.{RunsLocked}
use Rattle.ls_one_at_a_time.specs.CoarseList.{AreAllSetCalls, AreSetCalls, CoarseListsAreLinearizable, IsItem}
use Rattle.ls_one_at_a_time.specs.CoarseList.{add_inner, contains_inner, file, making_rest, of_list, remove_inner}
use Rattle.ls_one_at_a_time.specs.Locked.{locking_body}
use Rattle.ls_one_at_a_time.proofs.Locks.{all_locked}

abbrev own : ℕ → Bool
own m = false

abbrev others : ℕ → Bool
others m = nat_eq m 0

abbrev makes : ℕ → Bool
makes m = nat_eq m 1

some_is : {x y : Method} → Some x ≡ Some y → x ≡ y
some_is p = cc

false_not : false ≡ true → ⊥
false_not p = cc

abbrev C : ℕ → Type 0
C = IsCallee own others makes

node : C 0
node = inr (inl refl)

-- slot 0 isn't slot n
slot_not : (n : ℕ) → 0 ≢ suc n
slot_not n e = absurd (omega arith)

plain_making : (slot : ℕ) → RunsPlain C file.classes slot (locking_body 1 [] making_rest)
plain_making slot = ((tt, tt), ((tt, (node, (tt, tt))), ((tt, (node, (tt, tt))), tt)))

helpers : AreHelpers C file
helpers zero method h there = subst (λ m. (slot : ℕ) × RunsPlain C file.classes slot m.body) (some_is there)
    (0, ((tt, tt), tt))
helpers (suc zero) method h there = subst (λ m. (slot : ℕ) × RunsPlain C file.classes slot m.body) (some_is there)
    (0, plain_making 0)
helpers (suc (suc m)) method (inl h) there = absurd (false_not h)
helpers (suc (suc m)) method (inr (inl h)) there = absurd (let f : ⊥ = grind (arith, nat_tests) in f)
helpers (suc (suc m)) method (inr (inr h)) there = absurd (let f : ⊥ = grind (arith, nat_tests) in f)

clean : AreCleanMethods (IsOnThis own others makes) (IsHelp own others makes) 1 file
clean = record { own = λ m method h there. absurd (false_not h); others = by_other }
  where
    by_other : (m : ℕ) (method : Method) → IsHelp own others makes m → slice_get file.methods m ≡ Some method →
        RunsClean (IsOnThis own others makes) (IsHelp own others makes) file.classes 1 false method.body
    by_other zero method h there = subst
        (λ (m : Method). RunsClean (IsOnThis own others makes) (IsHelp own others makes) file.classes 1 false m.body)
        (some_is there) ((inr tt, tt), tt)
    by_other (suc m) method h there = absurd (let f : ⊥ = grind (arith, nat_tests) in f)

locking : IsLocking own others makes file 1 1
locking = record {
  class = _;
  class_there = refl;
  field = omega arith;
  method = _;
  before = [];
  silent = tt;
  rest = making_rest;
  there = refl;
  is = refl;
  plain = ((tt, (node, (tt, tt))), ((tt, (node, (tt, tt))), tt));
  clean = ((inl (refl, slot_not 0), (refl, (refl, tt))), ((inr (inl refl), (refl, (refl, tt))), tt));
}

adds : IsLocked own others makes file 1 1 2
adds = record {
  method = _;
  before = [];
  inner = add_inner;
  last = Done;
  after = tt;
  there = refl;
  is = refl;
  silent = tt;
  plain = (
    (slot_not 1, tt),
    (
      (slot_not 1, tt),
      (
        (slot_not 2, tt),
        (
          (slot_not 2, tt),
          (
            ((tt, tt), ((slot_not 1, tt), ((slot_not 2, tt), tt))),
            (
              ((tt, tt), tt, tt),
              (
                (slot_not 3, tt),
                (
                  (slot_not 3, (node, (tt, tt))),
                  ((tt, tt), ((tt, tt), (tt, tt))),
                ),
              ),
            ),
          ),
        ),
      ),
    ),
  );
  clean = (
    (tt, refl),
    (
      (tt, inl refl),
      (
        (tt, refl),
        (
          (tt, inr tt),
          (
            ((inr tt, tt), ((tt, tt), ((tt, inr tt), tt))),
            (
              ((inr tt, tt), refl, tt),
              (
                (tt, refl),
                (
                  (tt, (refl, (tt, tt))),
                  ((inr tt, tt), ((inr tt, tt), (refl, tt))),
                ),
              ),
            ),
          ),
        ),
      ),
    ),
  );
}

removes : IsLocked own others makes file 1 1 3
removes = record {
  method = _;
  before = [];
  inner = remove_inner;
  last = Done;
  after = tt;
  there = refl;
  is = refl;
  silent = tt;
  plain = (
    (slot_not 1, tt),
    (
      (slot_not 1, tt),
      (
        (slot_not 2, tt),
        (
          (slot_not 2, tt),
          (
            ((tt, tt), ((slot_not 1, tt), ((slot_not 2, tt), tt))),
            (((tt, tt), tt, tt), ((tt, tt), (tt, tt))),
          ),
        ),
      ),
    ),
  );
  clean = (
    (tt, refl),
    (
      (tt, inl refl),
      (
        (tt, refl),
        (
          (tt, inr tt),
          (
            ((inr tt, tt), ((tt, tt), ((tt, inr tt), tt))),
            (((inr tt, tt), refl, tt), ((inr tt, inr tt), (refl, tt))),
          ),
        ),
      ),
    ),
  );
}

contains : IsLocked own others makes file 1 1 4
contains = record {
  method = _;
  before = [];
  inner = contains_inner;
  last = Done;
  after = tt;
  there = refl;
  is = refl;
  silent = tt;
  plain = (
    (slot_not 1, tt),
    (
      (slot_not 1, tt),
      (
        (slot_not 2, tt),
        ((slot_not 2, tt), (((tt, tt), ((slot_not 1, tt), ((slot_not 2, tt), tt))), ((tt, tt), tt))),
      ),
    ),
  );
  clean = (
    (tt, refl),
    (
      (tt, inl refl),
      (
        (tt, refl),
        (
          (tt, inr tt),
          (((inr tt, tt), ((tt, tt), ((tt, inr tt), tt))), ((inr tt, tt), tt)),
        ),
      ),
    ),
  );
}

null_item : (vs : List Value) → IsItem vs → NameNone own others makes vs
null_item (values.Int z ∷ []) h = (refl, tt)
null_item (values.Int z ∷ v ∷ vs) h = absurd h
null_item (values.Boolean b ∷ vs) h = absurd h
null_item (values.Reference n ∷ vs) h = absurd h
null_item (values.Pair n m ∷ vs) h = absurd h
null_item [] h = absurd h

calls : (cs : List ProgramCall) → AreSetCalls cs → AreLocked own others makes file 1 1 0 cs
calls [] c = tt
calls (Making n class text vs ∷ cs) c = absurd c
calls (Calling n m text result vs ∷ cs) c = (c.0, by_method c.1, null_item vs c.2, calls cs c.3)
  where
    by_method : (m ≡ 2) ⊎ ((m ≡ 3) ⊎ (m ≡ 4)) → IsLocked own others makes file 1 1 m
    by_method (inl e) = subst (IsLocked own others makes file 1 1) (sym e) adds
    by_method (inr (inl e)) = subst (IsLocked own others makes file 1 1) (sym e) removes
    by_method (inr (inr e)) = subst (IsLocked own others makes file 1 1) (sym e) contains

all_calls : (ts : List ThreadProgram) → AreAllSetCalls ts → (k : ℕ) →
    AreLocked own others makes file 1 1 0 (calls_in (slice_get ts k))
all_calls [] c k = tt
all_calls (t ∷ ts) c zero = calls t.calls c.0
all_calls (t ∷ ts) c (suc k) = all_calls ts c.1 k

pub are_locked : (name : SetupName) (text setup : List ℕ) (more : List ProgramCall) (threads : List ThreadProgram) →
    AreSetCalls more → AreAllSetCalls threads → RunsLocked file (of_list name text setup more threads)
are_locked name text setup more threads c cs = record {
  own = own;
  others = others;
  makes = makes;
  plain = helpers;
  name = 0;
  class = 1;
  field = 1;
  clean = clean;
  text = text;
  values = [];
  null = tt;
  more = more;
  setup = refl;
  known = omega arith;
  constructor = locking;
  callee = inr (inr refl);
  locked = calls more c;
  calls = by_thread;
}
  where
    by_thread : (t : ℕ) → t ≢ 0 → AreLocked own others makes file 1 1 0 (calls_in (slice_get
        (record { name = setup; calls = Making 0 1 text [] ∷ more } ∷ threads) t))
    by_thread zero ne = absurd (ne refl)
    by_thread (suc k) ne = all_calls threads cs k

-- the law at the list with one lock
pub coarse_lists : CoarseListsAreLinearizable
coarse_lists name text setup more threads c cs schedule =
    all_locked file (of_list name text setup more threads) (are_locked name text setup more threads c cs) schedule
