-- Where threads lead from a state that begin their calls again.
use Rattle.std.proofs.Common.{◌≡◌, ◌≢◌, ◌⊎◌, inl, inr, ℕ, zero, suc, ◌≤◌, ◌<◌, Bool, true, false, List, [], ◌∷◌, ◌++◌}
use Rattle.std.proofs.Common.{Option, None, Some, length, map, refl, sym, ap, ◌∙◌, subst, arith}
use Rattle.std.specs.Prelude.{nat_eq, slice_get, slice_index_or, slice_set, if◌then◌else◌}
use Rattle.std.proofs.lemmas.List.{length-set}
use Rattle.std.proofs.lemmas.Bool.Decides.{eqb_tells, nat_tests}
use Rattle.ls_checked.specs.CheckedTree.{File}
use Rattle.ls_checked.specs.CheckedProgram.{Program, ThreadProgram}
use Rattle.ls_meaning.specs.Constants.{FileHasConstants, ProgramHasConstants}
use Rattle.ls_meaning.specs.Course.{Answers}
use Rattle.ls_meaning.specs.Renamings.{renamed_answers, renamed_next}
use Rattle.ls_meaning.specs.Runs.{answers_of, has_ended, start}
use Rattle.ls_meaning.specs.Threads.{Next, Ended, next}
use Rattle.ls_meaning.proofs.RenamesThreads.{next_other}
use Rattle.ls_search_laws.specs.Configuration.{Configuration, stride}
use Rattle.ls_transitions.specs.Tables.{Grows, Table}
use Rattle.ls_search.specs.declared.places.NumberedState.{NumberedState}
use Rattle.ls_search.specs.Objects.{IsOther}
use Rattle.ls_search.specs.Places.{AreThere, IsThere, configuration_at, configuration_of, goes_with}
use Rattle.ls_search.proofs.Strides.{set_elsewhere, set_here, stays, there_still}
use Rattle.ls_progress_laws.specs.Again.{again, again_in}
use Rattle.ls_progress_laws.specs.Laws as laws
use Rattle.ls_progress_laws.specs.Laws.{place_after}
use Rattle.ls_progress_laws.proofs.Repeating.{AllRename, again_other, again_stride, begun}
use Rattle.ls_progress.specs.Sorts.{sort_of}
use Rattle.ls_progress.specs.Roots.{repeats}
use Rattle.ls_progress.specs.Steps.{IsPlaced, IsRoot, IsSetBack, Rests, StepsTo}
use Rattle.ls_progress.proofs.Leading.{others_rest, placed_still}
use Rattle.ls_progress.proofs.Walking.{as_other}

-- ---- before the first step

no_answers : (ts : List ThreadProgram) (u : ℕ) → slice_index_or {A = Answers} (map (λ t. []) ts) u [] ≡ []
no_answers [] u = refl
no_answers (t ∷ ts) zero = refl
no_answers (t ∷ ts) (suc u) = no_answers ts u

module _ (file : File) (program : Program) where
  abbrev pub first : Configuration
  first = place_after file program []

  pub first_renames : FileHasConstants file → ProgramHasConstants program → AllRename first.continues
  first_renames constants values names is u later =
      let none = no_answers program.threads u in
      ap (λ (q : Answers). next file program u (q ++ renamed_answers names later)) none
      ∙ next_other names is file constants program values u later
      ∙ sym (ap (λ (q : Answers). renamed_next names (next file program u (q ++ later))) none)

-- ---- steps that do as without beginning again

module _ (file : File) (begins : ℕ → Answers → Next) (c : Configuration) (u : ℕ)
    (same : (again_in begins c).continues u [] ≡ c.continues u []) where
  rests_again : Rests file c u → Rests file (again_in begins c) u
  rests_again rests = (again_stride file begins c u same).did ∙ rests

  steps_again : AllRename begins → (mark : ℕ) (d : Configuration) → StepsTo file c u mark d →
      StepsTo file (again_in begins c) u mark (again_in begins d)
  steps_again rename mark d steps =
      let s = again_stride file begins c u same in
      let o = again_other begins rename d (stride file c u).after (as_other d (stride file c u).after steps.other) in
      record {
        sort = ap sort_of s.did ∙ steps.sort;
        other = subst (IsOther (again_in begins d)) (sym s.after)
            (record { names = o.names; renaming = o.renaming; same = o.same });
      }

zero_same : (begins : ℕ → Answers → Next) (c : Configuration) (u : ℕ) → (u ≢ 0 → ⊥) →
    (again_in begins c).continues u [] ≡ c.continues u []
zero_same begins c zero is = refl
zero_same begins c (suc u) is = absurd (is (λ e. cc))

-- ---- where it isn't asked for, or the thread is the setup

pub rests_so : (file : File) (again : Bool) (root c : Configuration) (u : ℕ) → (again ≡ true → u ≢ 0 → ⊥) →
    Rests file c u →
    Rests file (repeats again root c) u
rests_so file true root c u never rests =
    rests_again file root.continues c u (zero_same root.continues c u (never refl)) rests
rests_so file false root c u never rests = rests

pub steps_so : (file : File) (again : Bool) (root c : Configuration) (u : ℕ) → (again ≡ true → u ≢ 0 → ⊥) →
    AllRename root.continues →
    (mark : ℕ) (d : Configuration) → StepsTo file c u mark d →
    StepsTo file (repeats again root c) u mark (repeats again root d)
steps_so file true root c u never rename mark d steps =
    steps_again file root.continues c u (zero_same root.continues c u (never refl)) rename mark d steps
steps_so file false root c u never rename mark d steps = steps

-- ---- where the thread is set back

pub rests_back : (file : File) (again : Bool) (root c d : Configuration) (u : ℕ) → again ≡ true → u ≢ 0 →
    IsSetBack root c d u →
    Rests file d u →
    Rests file (repeats again root c) u
rests_back file again root c d u on other back rests =
    subst (λ b. Rests file (repeats b root c) u) (sym on)
    (subst (λ k. Rests file k u) back.same (rests_again file root.continues d u (back.goes other) rests))

pub steps_back : (file : File) (again : Bool) (root c d : Configuration) (u : ℕ) → again ≡ true → u ≢ 0 →
    IsSetBack root c d u →
    AllRename root.continues →
    (mark : ℕ) (e : Configuration) → StepsTo file d u mark e →
    StepsTo file (repeats again root c) u mark (repeats again root e)
steps_back file again root c d u on other back rename mark e steps =
    subst (λ b. StepsTo file (repeats b root c) u mark (repeats b root e)) (sym on)
    (subst (λ k. StepsTo file k u mark (again_in root.continues e)) back.same
    (steps_again file root.continues d u (back.goes other) rename mark e steps))

-- one that hasn't ended stays
pub set_not : (root c d : Configuration) (u : ℕ) → d ≡ c → has_ended (c.continues u []) ≡ false → IsSetBack root c d u
set_not root c d u is going = record {
  same = ap (again_in root.continues) is;
  goes = λ other. by (nat_eq u 0);
}
  where
    by : (b : Bool) →
        (if b then d.continues u []
        else (if has_ended (d.continues u []) then root.continues u [] else d.continues u [])) ≡
        d.continues u []
    by true = refl
    by false =
        ap (λ o. if o then root.continues u [] else d.continues u [])
        (ap (λ (k : Configuration). has_ended (k.continues u [])) is ∙ going)

-- one that has ended is put back
pub set_so : (root : Configuration) (t : Table) (store : ℕ) (works : List ℕ) (u w : ℕ) →
    ((later : Answers) → goes_with t (Some w) later ≡ root.continues u later) →
    u < length works →
    u ≢ 0 →
    has_ended ((configuration_at t store works).continues u []) ≡ true →
    IsSetBack root (configuration_at t store works) (configuration_at t store (slice_set works u w)) u
set_so root t store works u w begins within other ended = record {
  same = λ i. record { store = c.store; continues = λ v later. at v later (eqb_tells v u) i };
  goes = λ differs. by (nat_eq u 0);
}
  where
    c : Configuration
    c = configuration_at t store works

    now : (later : Answers) → goes_with t (slice_get (slice_set works u w) u) later ≡ root.continues u later
    now later = ap (λ o. goes_with t o later) (set_here works u w within) ∙ begins later

    -- what the thread does next, set back and not
    of_thread : (later : Answers) →
        again (root.continues u) (λ l. goes_with t (slice_get (slice_set works u w) u) l) later ≡
        again (root.continues u) (λ l. goes_with t (slice_get works u) l) later
    of_thread later =
        ap (λ (g : Answers → Next). again (root.continues u) g later) (λ i. λ l. now l i)
        ∙ sym (begun (root.continues u) (λ l. goes_with t (slice_get works u) l) ended later)

    of_set : (b : Bool) → nat_eq u 0 ≡ b → (later : Answers) →
        (if nat_eq u 0 then goes_with t (slice_get (slice_set works u w) u) later
        else again (root.continues u) (λ l. goes_with t (slice_get (slice_set works u w) u) l) later) ≡
        (if nat_eq u 0 then goes_with t (slice_get works u) later
        else again (root.continues u) (λ l. goes_with t (slice_get works u) l) later)
    of_set true nought later = absurd (other (grind (arith, nat_tests, nought)))
    of_set false nought later =
        ap (λ b. if b then goes_with t (slice_get (slice_set works u w) u) later
        else again (root.continues u) (λ l. goes_with t (slice_get (slice_set works u w) u) l) later) nought
        ∙ of_thread later
        ∙ sym (ap (λ b. if b then goes_with t (slice_get works u) later
        else again (root.continues u) (λ l. goes_with t (slice_get works u) l) later) nought)

    at : (v : ℕ) (later : Answers) → ((nat_eq v u ≡ true) × (v ≡ u)) ⊎ ((nat_eq v u ≡ false) × (v ≢ u)) →
        (if nat_eq v 0 then goes_with t (slice_get (slice_set works u w) v) later
        else again (root.continues v) (λ l. goes_with t (slice_get (slice_set works u w) v) l) later) ≡
        (if nat_eq v 0 then goes_with t (slice_get works v) later
        else again (root.continues v) (λ l. goes_with t (slice_get works v) l) later)
    at v later (inr differs) =
        ap (λ (o : Option ℕ). if nat_eq v 0 then goes_with t o later
        else again (root.continues v) (λ l. goes_with t o l) later) (set_elsewhere works u v w differs.1)
    at v later (inl is) =
        subst (λ k. (if nat_eq k 0 then goes_with t (slice_get (slice_set works u w) k) later
        else again (root.continues k) (λ l. goes_with t (slice_get (slice_set works u w) k) l) later) ≡
        (if nat_eq k 0 then goes_with t (slice_get works k) later
        else again (root.continues k) (λ l. goes_with t (slice_get works k) l) later)) (sym is.1)
        (of_set (nat_eq u 0) refl later)

    by : (b : Bool) →
        (if b then goes_with t (slice_get (slice_set works u w) u) []
        else (if has_ended (goes_with t (slice_get (slice_set works u w) u) []) then root.continues u []
        else goes_with t (slice_get (slice_set works u w) u) [])) ≡
        goes_with t (slice_get (slice_set works u w) u) []
    by true = refl
    by false = either (has_ended (goes_with t (slice_get (slice_set works u w) u) []))
      where
        either : (o : Bool) →
            (if o then root.continues u [] else goes_with t (slice_get (slice_set works u w) u) []) ≡
            goes_with t (slice_get (slice_set works u w) u) []
        either true = sym (now [])
        either false = refl

-- ---- the numbers of a state where a thread is set back

works_after : (works : List ℕ) (u x limit : ℕ) → x < limit →
    ((v w : ℕ) → slice_get works v ≡ Some w → w < limit) →
    u < length works →
    (v w : ℕ) → slice_get (slice_set works u x) v ≡ Some w →
    w < limit
works_after works u x limit less before within v w e = by_test (eqb_tells v u)
  where
    some_is : (a b : ℕ) → Some a ≡ Some b → a ≡ b
    some_is a b h = cc

    by_test : ((nat_eq v u ≡ true) × (v ≡ u)) ⊎ ((nat_eq v u ≡ false) × (v ≢ u)) → w < limit
    by_test (inl same) =
        subst (λ k. k < limit)
        (some_is x w (sym (set_here works u x within) ∙ ap (slice_get (slice_set works u x)) (sym same.1) ∙ e)) less
    by_test (inr other) = before v w (sym (set_elsewhere works u v x other.1) ∙ e)

pub there_set : (t : Table) (store : ℕ) (works : List ℕ) (u x : ℕ) → AreThere t store works → x < length t.works →
    u < length works →
    AreThere t store (slice_set works u x)
there_set t store works u x there less within = record {
  store_there = there.store_there;
  works_there = λ v w e. works_after works u x (length t.works) less there.works_there within v w e;
}

-- ---- threads that aren't there

none_there : (works : List ℕ) (v : ℕ) → length works ≤ v → slice_get works v ≡ None
none_there [] v h = refl
none_there (x ∷ works) zero h = absurd (omega (arith, h))
none_there (x ∷ works) (suc v) h = none_there works v (omega (arith, h))

pub others_rest_so : (file : File) (program : Program) (again : Bool) (threads : ℕ) (t : Table)
    (p root : NumberedState) → IsPlaced file threads t p →
    IsRoot file program threads t root →
    (u : ℕ) → threads ≤ u →
    Rests file (repeats again (place_after file program []) (configuration_of t p)) u
others_rest_so file program false threads t p root placed is u past = others_rest file threads t p placed u past
others_rest_so file program true threads t p root placed is u past =
    rests_again file (place_after file program []).continues (configuration_of t p) u same
    (others_rest file threads t p placed u past)
  where
    ended : (q : NumberedState) → IsPlaced file threads t q → (configuration_of t q).continues u [] ≡ Ended
    ended q on =
        let width = on.width in
        ap (λ o. goes_with t o []) (none_there q.works.items u (omega (arith, past, width)))

    same : (again_in (place_after file program []).continues (configuration_of t p)).continues u [] ≡
        (configuration_of t p).continues u []
    same = by (nat_eq u 0)
      where
        by : (b : Bool) →
            (if b then (configuration_of t p).continues u []
            else (if has_ended ((configuration_of t p).continues u [])
            then (place_after file program []).continues u [] else (configuration_of t p).continues u [])) ≡
            (configuration_of t p).continues u []
        by true = refl
        by false =
            ap (λ n. if has_ended n then (place_after file program []).continues u [] else n) (ended p placed)
            ∙ ap (λ (k : Configuration). k.continues u []) (sym is.same)
            ∙ ended root is.placed
            ∙ sym (ended p placed)

-- ---- tables that grow

pub root_still : (file : File) (program : Program) (threads : ℕ) (t t' : Table) (p : NumberedState) → Grows t t' →
    IsRoot file program threads t p →
    IsRoot file program threads t' p
root_still file program threads t t' p grows is = record {
  placed = placed_still file threads t t' p grows is.placed;
  constants = is.constants;
  same = stays t t' p.store p.works.items grows is.placed.numbers ∙ is.same;
}

-- ---- the state where a thread was set back

pub set_placed : (file : File) (threads : ℕ) (t t' : Table) (p q : NumberedState) (u w : ℕ) → Grows t t' →
    IsPlaced file threads t p →
    w < length t'.works →
    u < length p.works.items →
    q.store ≡ p.store →
    q.works.items ≡ slice_set p.works.items u w →
    IsPlaced file threads t' q
set_placed file threads t t' p q u w grows is less within store works =
    let placed = placed_still file threads t t' p grows is in
    record {
      file_is = placed.file_is;
      constants = placed.constants;
      numbers = subst (λ (l : List ℕ). AreThere t' q.store l) (sym works)
          (subst (λ n. AreThere t' n (slice_set p.works.items u w)) (sym store)
          (there_set t' p.store p.works.items u w placed.numbers less within));
      width = ap length works ∙ length-set p.works.items u w ∙ is.width;
    }

pub set_is : (file : File) (program : Program) (threads : ℕ) (t t' : Table) (p q root : NumberedState) (u w : ℕ) →
    Grows t t' →
    IsPlaced file threads t p →
    IsRoot file program threads t root →
    slice_get root.works.items u ≡ Some w →
    u < length p.works.items →
    u ≢ 0 →
    has_ended ((configuration_of t p).continues u []) ≡ true →
    q.store ≡ p.store →
    q.works.items ≡ slice_set p.works.items u w →
    IsSetBack (place_after file program []) (configuration_of t p) (configuration_of t' q) u
set_is file program threads t t' p q root u w grows is is_root here within other ended store works =
    let same : configuration_of t' p ≡ configuration_of t p = stays t t' p.store p.works.items grows is.numbers in
    let first : configuration_of t' root ≡ place_after file program [] =
    (root_still file program threads t t' root grows is_root).same in
    let put : configuration_at t' p.store (slice_set p.works.items u w) ≡ configuration_of t' q =
    (λ i. configuration_at t' (sym store i) (sym works i)) in
    subst (λ c. IsSetBack (place_after file program []) c (configuration_of t' q) u) same
    (subst (λ d. IsSetBack (place_after file program []) (configuration_of t' p) d u) put
    (set_so (place_after file program []) t' p.store p.works.items u w
    (λ later. ap (λ o. goes_with t' o later) (sym here) ∙ ap (λ (k : Configuration). k.continues u later) first)
    within other (ap (λ (k : Configuration). has_ended (k.continues u [])) same ∙ ended)))

pub set_kept : (file : File) (program : Program) (threads : ℕ) (t t' : Table) (p q : NumberedState) (u : ℕ) →
    Grows t t' →
    IsPlaced file threads t p →
    has_ended ((configuration_of t p).continues u []) ≡ false →
    q.store ≡ p.store →
    q.works.items ≡ p.works.items →
    IsSetBack (place_after file program []) (configuration_of t p) (configuration_of t' q) u
set_kept file program threads t t' p q u grows is going store works =
    set_not (place_after file program []) (configuration_of t p) (configuration_of t' q) u
    ((λ i. configuration_at t' (store i) (works i)) ∙ stays t t' p.store p.works.items grows is.numbers) going
