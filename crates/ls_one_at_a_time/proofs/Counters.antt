-- The law at a counter.
use Rattle.std.proofs.Common.{◌≡◌, ◌≢◌, ◌⊎◌, inl, inr, ℕ, zero, suc, Bool, true, List, [], ◌∷◌, Some}
use Rattle.std.proofs.Common.{refl, sym, subst, arith}
use Rattle.std.specs.Prelude.{nat_eq, slice_get}
use Rattle.std.proofs.lemmas.Bool.Decides.{nat_tests}
use Rattle.ls_checked.specs.CheckedTree.{Method}
use Rattle.ls_checked.specs.CheckedProgram.{ThreadProgram, ProgramCall, Making, Calling}
use Rattle.ls_meaning.specs.Threads.{calls_in}
use Rattle.ls_one_at_a_time.specs.Inner.{AreHelpers, IsSynchronized, RunsPlain}
use Rattle.ls_one_at_a_time.specs.Laws.{AreSynchronized}
use Rattle.ls_one_at_a_time.specs.Example.{AreAllCounts, AreCounts, CountersAreLinearizable, counting, file, get_body}
use Rattle.ls_one_at_a_time.specs.Example.{inc_body}
use Rattle.ls_one_at_a_time.proofs.Monitors.{all_one_at_a_time}

abbrev helps : ℕ → Bool
helps m = nat_eq m 2

abbrev Helps : ℕ → Type 0
Helps m = helps m ≡ true

some_is : {x y : Method} → Some x ≡ Some y → x ≡ y
some_is p = cc

helpers : AreHelpers Helps file
helpers zero method h there = absurd (let f : ⊥ = grind (arith, nat_tests) in f)
helpers (suc zero) method h there = absurd (let f : ⊥ = grind (arith, nat_tests) in f)
helpers (suc (suc zero)) method h there = subst (λ m. (slot : ℕ) × RunsPlain Helps file.classes slot m.body)
    (some_is there)
    (0, tt)
helpers (suc (suc (suc m))) method h there = absurd (let f : ⊥ = grind (arith, nat_tests) in f)

one_not : (one two : ℕ) → one ≡ 1 → two ≡ 2 → one ≢ two
one_not one two a b p = absurd (omega arith)

inc_is : IsSynchronized Helps file 0
inc_is = record {
  method = _;
  slot = 1;
  class = 0;
  inner = inc_body;
  there = refl;
  is = refl;
  within = omega arith;
  plain = ((one_not 1 2 refl refl, tt), ((one_not 1 2 refl refl, tt), ((tt, (tt, tt)), tt)));
}

get_is : IsSynchronized Helps file 1
get_is = record {
  method = _;
  slot = 1;
  class = 0;
  inner = get_body;
  there = refl;
  is = refl;
  within = omega arith;
  plain = (tt, tt);
}

counts : (cs : List ProgramCall) → AreCounts cs → AreSynchronized Helps file 0 cs
counts [] c = tt
counts (Making n class text values ∷ cs) c = absurd c
counts (Calling n m text result values ∷ cs) c = (c.0, by_method c.1, counts cs c.2)
  where
    by_method : (m ≡ 0) ⊎ (m ≡ 1) → IsSynchronized Helps file m
    by_method (inl e) = subst (IsSynchronized Helps file) (sym e) inc_is
    by_method (inr e) = subst (IsSynchronized Helps file) (sym e) get_is

all_counts : (ts : List ThreadProgram) → AreAllCounts ts → (k : ℕ) →
    AreSynchronized Helps file 0 (calls_in (slice_get ts k))
all_counts [] c k = tt
all_counts (t ∷ ts) c zero = counts t.calls c.0
all_counts (t ∷ ts) c (suc k) = all_counts ts c.1 k

-- the law at the counter
pub counters : CountersAreLinearizable
counters name text setup more threads c cs schedule =
    all_one_at_a_time file (counting name (record { name = setup; calls = Making 0 0 text [] ∷ more }) threads)
    (record {
      helps = helps;
      helpers = helpers;
      name = 0;
      class = 0;
      text = text;
      values = [];
      others = more;
      setup = refl;
      known = omega arith;
      constructor = refl;
      more = counts more c;
      calls = by_thread;
    }) schedule
  where
    by_thread : (t : ℕ) → t ≢ 0 → AreSynchronized Helps file 0 (calls_in (slice_get
        (record { name = setup; calls = Making 0 0 text [] ∷ more } ∷ threads) t))
    by_thread zero ne = absurd (ne refl)
    by_thread (suc k) ne = all_counts threads cs k
