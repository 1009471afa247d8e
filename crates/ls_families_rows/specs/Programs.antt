-- Programs by their numbers, doubles and texts. Numbers and counts were made by a generator that was written apart.
use Rattle.std.specs.Prelude.{◌≡◌, ℕ, true, false, List, [], ◌∷◌, Some, None, codes, slice_get}
use Rattle.ls_families.specs.Families.{Menu, Plan, Text, count_of, family_of, plans}
use Rattle.ls_families.specs.declared.menus.MenuSizes.{MenuSizes}
use Rattle.ls_families.specs.Doubles.{is_double, is_exchanged, other_of}
use Rattle.ls_families.specs.Texts.{alone_text, plan_text}
use Rattle.ls_families_rows.specs.Shapes.{most, shape}

abbrev pub made : ℕ → ℕ → List ℕ → List ℕ → Plan
made making setup threads calls = record { shape = shape setup threads; making = making; calls = calls }

abbrev pub plan : ℕ → List ℕ → List ℕ → Plan
plan setup threads calls = made 1 setup threads calls

abbrev pub sizes : ℕ → ℕ → ℕ → MenuSizes
sizes makings setup threads = record { makings = makings; setup = setup; threads = threads }

-- one making, and the setup chooses of the calls of which threads do
abbrev pub of_calls : ℕ → MenuSizes
of_calls n = sizes 1 n n

-- of three calls, two threads of two and a setup of one: the program of this number is that
abbrev pub Numbers : ℕ → Plan → Type 0
Numbers n p = slice_get (plans (family_of (of_calls 3) (most 2 2 1))) n ≡ Some p

abbrev pub ByNumber : Type 0
ByNumber =
    Numbers 0 (plan 0 (1 ∷ 1 ∷ []) (1 ∷ 1 ∷ []))
    × Numbers 1 (plan 0 (1 ∷ 1 ∷ []) (1 ∷ 2 ∷ []))
    × Numbers 8 (plan 0 (1 ∷ 1 ∷ []) (3 ∷ 3 ∷ []))
    × Numbers 9 (plan 1 (1 ∷ 1 ∷ []) (1 ∷ 1 ∷ 1 ∷ []))
    × Numbers 36 (plan 0 (1 ∷ 2 ∷ []) (1 ∷ 1 ∷ 1 ∷ []))
    × Numbers 100 (plan 1 (1 ∷ 2 ∷ []) (2 ∷ 2 ∷ 1 ∷ 2 ∷ []))
    × Numbers 200 (plan 0 (2 ∷ 2 ∷ []) (3 ∷ 1 ∷ 1 ∷ 3 ∷ []))
    × Numbers 467 (plan 1 (2 ∷ 2 ∷ []) (3 ∷ 3 ∷ 3 ∷ 3 ∷ 3 ∷ []))

-- of two makings, two calls of the setup and three of threads, two threads of one and a setup of one; these rows were
-- written by hand
abbrev pub NumbersOf : ℕ → Plan → Type 0
NumbersOf n p = slice_get (plans (family_of (sizes 2 2 3) (most 2 1 1))) n ≡ Some p

abbrev pub ByMaking : Type 0
ByMaking =
    NumbersOf 0 (made 1 0 (1 ∷ 1 ∷ []) (1 ∷ 1 ∷ []))
    × NumbersOf 8 (made 1 0 (1 ∷ 1 ∷ []) (3 ∷ 3 ∷ []))
    × NumbersOf 9 (made 2 0 (1 ∷ 1 ∷ []) (1 ∷ 1 ∷ []))
    × NumbersOf 17 (made 2 0 (1 ∷ 1 ∷ []) (3 ∷ 3 ∷ []))
    × NumbersOf 18 (made 1 1 (1 ∷ 1 ∷ []) (1 ∷ 1 ∷ 1 ∷ []))
    × NumbersOf 27 (made 1 1 (1 ∷ 1 ∷ []) (2 ∷ 1 ∷ 1 ∷ []))
    × NumbersOf 36 (made 2 1 (1 ∷ 1 ∷ []) (1 ∷ 1 ∷ 1 ∷ []))
    × NumbersOf 53 (made 2 1 (1 ∷ 1 ∷ []) (2 ∷ 3 ∷ 3 ∷ []))
    × (slice_get (plans (family_of (sizes 2 2 3) (most 2 1 1))) 54 ≡ None)

abbrev pub NoneAfter : Type 0
NoneAfter = slice_get (plans (family_of (of_calls 3) (most 2 2 1))) 468 ≡ None

abbrev pub Counts : Type 0
Counts =
    (count_of (family_of (of_calls 6) (most 2 2 1)) ≡ 10836)
    × (count_of (family_of (of_calls 6) (most 2 2 2)) ≡ 66564)
    × (count_of (family_of (of_calls 6) (most 3 1 2)) ≡ 10836)
    × (count_of (family_of (of_calls 2) (most 4 4 8)) ≡ 102586316)
    × (count_of (family_of (sizes 3 6 6) (most 2 2 1)) ≡ 32508)
    × (count_of (family_of (sizes 1 2 6) (most 2 2 1)) ≡ 4644)

-- threads of one length, the greater calls first, and nothing else
abbrev pub Doubles : Type 0
Doubles =
    (is_exchanged (plan 0 (1 ∷ 1 ∷ []) (2 ∷ 1 ∷ [])) ≡ true)
    × (is_exchanged (plan 0 (1 ∷ 1 ∷ []) (1 ∷ 2 ∷ [])) ≡ false)
    × (is_exchanged (plan 0 (1 ∷ 1 ∷ []) (2 ∷ 2 ∷ [])) ≡ false)
    × (is_exchanged (plan 1 (1 ∷ 1 ∷ []) (3 ∷ 1 ∷ 2 ∷ [])) ≡ false)
    × (is_exchanged (plan 0 (1 ∷ 2 ∷ []) (2 ∷ 1 ∷ 1 ∷ [])) ≡ false)
    × (is_exchanged (plan 0 (2 ∷ 2 ∷ []) (1 ∷ 2 ∷ 1 ∷ 1 ∷ [])) ≡ true)
    × (is_exchanged (plan 0 (1 ∷ 1 ∷ 1 ∷ []) (1 ∷ 3 ∷ 2 ∷ [])) ≡ true)

-- the first two such threads exchanged, and nothing else; these rows were written by hand
abbrev pub Others : Type 0
Others =
    (other_of (plan 0 (1 ∷ 1 ∷ []) (2 ∷ 1 ∷ [])) ≡ plan 0 (1 ∷ 1 ∷ []) (1 ∷ 2 ∷ []))
    × (other_of (plan 1 (2 ∷ 2 ∷ []) (3 ∷ 1 ∷ 2 ∷ 1 ∷ 1 ∷ [])) ≡ plan 1 (2 ∷ 2 ∷ []) (3 ∷ 1 ∷ 1 ∷ 1 ∷ 2 ∷ []))
    × (other_of (plan 0 (1 ∷ 1 ∷ 1 ∷ []) (1 ∷ 3 ∷ 2 ∷ [])) ≡ plan 0 (1 ∷ 1 ∷ 1 ∷ []) (1 ∷ 2 ∷ 3 ∷ []))
    × (other_of (plan 0 (1 ∷ 1 ∷ 1 ∷ []) (3 ∷ 2 ∷ 1 ∷ [])) ≡ plan 0 (1 ∷ 1 ∷ 1 ∷ []) (2 ∷ 3 ∷ 1 ∷ []))
    × (other_of (plan 0 (1 ∷ 2 ∷ []) (2 ∷ 1 ∷ 1 ∷ [])) ≡ plan 0 (1 ∷ 2 ∷ []) (2 ∷ 1 ∷ 1 ∷ []))

abbrev pub menu : List Text → Menu
menu calls = record { makings = codes "s = new C();" ∷ []; setup = calls; threads = calls }

-- the setup chooses of calls of its own
abbrev pub apart : Menu
apart = record {
  makings = codes "s = new C(1);" ∷ codes "s = new C(2);" ∷ [];
  setup = codes "s.fill(#);" ∷ codes "s.close();" ∷ [];
  threads = codes "s.put();" ∷ codes "s.take();" ∷ [];
}

-- a menu with a number has no doubles, unless that is of the setup
abbrev pub Numbered : Type 0
Numbered =
    (is_double (menu (codes "s.lock();" ∷ codes "s.unlock();" ∷ [])) (plan 0 (1 ∷ 1 ∷ []) (2 ∷ 1 ∷ [])) ≡ true)
    × (is_double (menu (codes "s.lock(#);" ∷ codes "s.unlock();" ∷ [])) (plan 0 (1 ∷ 1 ∷ []) (2 ∷ 1 ∷ [])) ≡ false)
    × (is_double (menu (codes "s.lock();" ∷ codes "s.unlock(1, #);" ∷ [])) (plan 0 (1 ∷ 1 ∷ []) (2 ∷ 1 ∷ [])) ≡ false)
    × (is_double apart (plan 1 (1 ∷ 1 ∷ []) (1 ∷ 2 ∷ 1 ∷ [])) ≡ true)

abbrev pub Texts : Type 0
Texts =
    (plan_text (menu (codes "s.add(1);" ∷ codes "s.get();" ∷ []))
    (plan 1 (1 ∷ 2 ∷ []) (1 ∷ 2 ∷ 1 ∷ 1 ∷ [])) ≡
    codes "setup { s = new C(); s.add(1); }\nthread A { s.get(); }\nthread B { s.add(1); s.add(1); }\n")
    × (plan_text apart (made 2 2 (1 ∷ 1 ∷ []) (2 ∷ 1 ∷ 2 ∷ 1 ∷ [])) ≡
    codes "setup { s = new C(2); s.close(); s.fill(0); }\nthread A { s.take(); }\nthread B { s.put(); }\n")
    × (plan_text (menu (codes "s.lock(#); s.set(#, #);" ∷ codes "s.get();" ∷ []))
    (plan 1 (1 ∷ 1 ∷ 1 ∷ 2 ∷ []) (1 ∷ 1 ∷ 1 ∷ 2 ∷ 1 ∷ 1 ∷ [])) ≡
    codes "setup { s = new C(); s.lock(0); s.set(0, 0); }\nthread A { s.lock(0); s.set(0, 0); }\nthread B { s.lock(1); s.set(1, 1); }\nthread C { s.get(); }\nthread D { s.lock(3); s.set(3, 3); s.lock(3); s.set(3, 3); }\n")
    × (alone_text (codes "s = new C();") 2 (codes "s.lock(#); s.unlock(#);") ≡
    codes "setup { s = new C(); s.lock(2); s.unlock(2); }\n")
