-- Schedules of a program that a text is.
use Rattle.ls_events.specs.Limits.{most_steps}
use Rattle.std.proofs.Common.{◌≡◌, ℕ, zero, suc, ◌+◌, ◌-◌, ◌<◌, ◌≤◌, refl, sym, ◌∙◌, subst, arith, Bool, true, false}
use Rattle.std.proofs.Common.{List, [], ◌∷◌, ◌++◌, length, map, Option, Some, None, Result, Ok, Err, codes}
use Rattle.std.specs.Prelude.{◌&&◌, All, slice_get, nat_lt, option_map, if◌then◌else◌}
use Rattle.std.specs.List.{position, position_or_len, range_with_len}
use Rattle.std.specs.Str.{bytes_eq}
use Rattle.std.proofs.lemmas.Bool.Decides.{nat_tests}
use Rattle.ls_lexer.specs.Names.{IsName, is_name}
use Rattle.ls_checked.specs.CheckedProgram as checked
use Rattle.ls_checked.specs.PlainProgram.{plain_program, plain_thread}
use Rattle.ls_checked.specs.declared.program.ThreadProgram.{ThreadProgram}
use Rattle.ls_types_programs.proofs.Pieces.{some_none, same_some}
use Rattle.ls_schedule.specs.declared.fault.ScheduleFault.{ScheduleFault}
use Rattle.ls_schedule.specs.declared.fault.ScheduleFault.TheVariants as fault
use Rattle.ls_items.specs.Items.{Item, items}
use Rattle.ls_schedule.specs.Pieces.{Piece, Gap, Word, Opens, Closes, opens, pieces, second_version}
use Rattle.ls_schedule.specs.Reading.{Content, Group, Turns, by_version, closed, counted, each, ended, followed_by}
use Rattle.ls_schedule.specs.Reading.{group_schedule, group_steps, group_times, item_turns, known, nothing, parts_of}
use Rattle.ls_schedule.specs.Reading.{plain_schedule, repeated, schedule_of, steps_in, steps_of, thread_name}
use Rattle.ls_schedule.specs.Reading.{thread_names, threads_named, turns_of, within, ◌>>=◌}
use Rattle.ls_schedule.proofs.RoundTrip.{reads_back}
use Rattle.ls_text_laws.specs.Schedules.{NamesAreRead, SchedulesReadBack, WhatIsReadIsASchedule, IsReadAgain}
use Rattle.ls_text_laws.proofs.Names.{program_names}

-- the thread of a name
thread_at : (ts : List ThreadProgram) (i : ℕ) (name : List ℕ) →
    slice_get (map thread_name ts) i ≡ Some name →
    (t : checked.ThreadProgram) × (slice_get (map plain_thread ts) i ≡ Some t) × (t.name ≡ name)
thread_at [] i name e = absurd (some_none name e)
thread_at (u ∷ ts) zero name e = (plain_thread u, refl, same_some (thread_name u) name e)
thread_at (u ∷ ts) (suc i) name e = thread_at ts i name e

-- the law: the names of a program text are names that schedules read
pub names_are_read : NamesAreRead
names_are_read o text program h =
    let n = program_names o text (plain_program program) h in
    record {
      formed = λ i name e. let t = thread_at program.threads.items i name e in subst IsName t.2 (n.formed i t.0 t.1);
      not_all = λ i name e same. let t = thread_at program.threads.items i name e in n.not_all i t.0 t.1 (t.2 ∙ same);
      once = λ i j name e f. let t = thread_at program.threads.items i name e in
          let u = thread_at program.threads.items j name f in n.once i j t.0 u.0 t.1 u.1 (t.2 ∙ sym u.2);
    }

-- the law: a schedule that is printed is read as the same schedule
pub schedules_read_back : SchedulesReadBack
schedules_read_back o text program steps h is = reads_back (thread_names program) steps
    (names_are_read o text program h) is.there is.short

-- ---- what is read is a schedule

abbrev Each : ℕ → List ℕ → Type 0
Each n [] = Unit {0}
Each n (t ∷ ts) = (t < n) × Each n ts

each_append : (n : ℕ) (ts us : List ℕ) → Each n ts → Each n us → Each n (ts ++ us)
each_append n [] us h k = k
each_append n (t ∷ ts) us h k = (h.0, each_append n ts us h.1 k)

each_repeated : (n k : ℕ) (ts : List ℕ) → Each n ts → Each n (repeated k ts)
each_repeated n zero ts h = tt
each_repeated n (suc k) ts h = each_append n ts (repeated k ts) h (each_repeated n k ts h)

each_range : (n start len : ℕ) → start + len ≤ n → Each n (range_with_len start len)
each_range n start zero h = tt
each_range n start (suc len) h = (omega arith, each_range n (start + 1) len (omega arith))

all_of : (n : ℕ) (ts : List ℕ) → Each n ts → All (λ t. t < n) ts
all_of n [] h = λ k d lt. absurd (omega arith)
all_of n (t ∷ ts) h = at (all_of n ts h.1)
  where
    at : All (λ u. u < n) ts → All (λ u. u < n) (t ∷ ts)
    at rest zero d lt = h.0
    at rest (suc k) d lt = rest k d (omega arith)

module _ (names : List (List ℕ)) where
  abbrev n : ℕ
  n = length names

  range_fits : (k : ℕ) → Each k (range_with_len 1 (k - 1))
  range_fits zero = tt
  range_fits (suc k) = each_range (suc k) 1 (suc k - 1) (omega arith)

  position_fits : (p : List ℕ → Bool) (ts : List ℕ) → option_map (λ t. t ∷ []) (position p names) ≡ Some ts → Each n ts
  position_fits p ts = by_test (nat_lt (position_or_len p names) n) refl
    where
      by_test : (b : Bool) →
          nat_lt (position_or_len p names) n ≡ b →
          option_map (λ t. t ∷ []) (if b then Some (position_or_len p names) else None) ≡ Some ts →
          Each n ts
      by_test true e is = let lt : position_or_len p names < n = grind (arith, nat_tests) in
          subst (Each n) (same_some _ ts is) (lt, tt)
      by_test false e is = absurd (some_none ts is)

  named_fits : (name ts : List ℕ) → threads_named names name ≡ Some ts → Each n ts
  named_fits name ts = by_test (bytes_eq name (codes "all"))
    where
      by_test : (b : Bool) →
          (if b then Some (range_with_len 1 (n - 1)) else option_map (λ t. t ∷ [])
          (position (λ m. bytes_eq m name) names)) ≡ Some ts →
          Each n ts
      by_test true is = subst (Each n) (same_some _ ts is) (range_fits n)
      by_test false is = position_fits (λ m. bytes_eq m name) ts is

  known_fits : (at : ℕ) (o : Option (List ℕ)) (k : ℕ) (t : Turns) →
      ((ts : List ℕ) → o ≡ Some ts → Each n ts) →
      known at o k ≡ Ok t →
      Each n t.0
  known_fits at None k t h is = let f : ⊥ = cc in absurd f
  known_fits at (Some ts) k t h is = let e : (ts, k) ≡ t = cc in subst (λ (z : Turns). Each n z.0) e (h ts refl)

  counted_fits : (at : ℕ) (name : List ℕ) (o : Option ℕ) (t : Turns) → counted names at name o ≡ Ok t → Each n t.0
  counted_fits at name None t is = let f : ⊥ = cc in absurd f
  counted_fits at name (Some k) t is = by_test (is_name name) is
    where
      by_test : (b : Bool) →
          (if b then known at (threads_named names name) k else Err (fault.BadItem at)) ≡ Ok t →
          Each n t.0
      by_test true is = known_fits at (threads_named names name) k t (named_fits name) is
      by_test false is = let f : ⊥ = cc in absurd f

  abbrev AllFit : List Turns → Type 0
  AllFit [] = Unit {0}
  AllFit (t ∷ ts) = Each n t.0 × AllFit ts

  each_fits : (is : List Item) (ts : List Turns) → each (turns_of names) is ≡ Ok ts → AllFit ts
  each_fits [] ts e = let same : [] ≡ ts = cc in subst AllFit same tt
  each_fits (i ∷ is) ts e = by_first (each_fits is) (turns_of names i) refl e
    where
      by_rest : ((us : List Turns) → each (turns_of names) is ≡ Ok us → AllFit us) →
          (t : Turns) →
          turns_of names i ≡ Ok t →
          (x : Result (List Turns) ScheduleFault) →
          each (turns_of names) is ≡ x →
          (x >>= λ ys. Ok (t ∷ ys)) ≡ Ok ts →
          AllFit ts
      by_rest more t first (Err f) rest e = let g : ⊥ = cc in absurd g
      by_rest more t first (Ok us) rest e = let same : t ∷ us ≡ ts = cc in
          subst AllFit same (counted_fits i.0 (parts_of i.1).0 (parts_of i.1).1 t first, more us rest)

      by_first : ((us : List Turns) → each (turns_of names) is ≡ Ok us → AllFit us) →
          (x : Result Turns ScheduleFault) →
          turns_of names i ≡ x →
          (x >>= λ y. each (turns_of names) is >>= λ ys. Ok (y ∷ ys)) ≡ Ok ts →
          AllFit ts
      by_first more (Err f) first e = let g : ⊥ = cc in absurd g
      by_first more (Ok t) first e = by_rest more t first (each (turns_of names) is) refl e

  steps_fit : (ts : List Turns) → AllFit ts → Each n (steps_of ts)
  steps_fit [] h = tt
  steps_fit (t ∷ ts) h = each_append n (repeated t.1 t.0) (steps_of ts) (each_repeated n t.1 t.0 h.0) (steps_fit ts h.1)

  within_fits : (steps us : List ℕ) → within steps ≡ Ok us → (steps ≡ us) × (length us ≤ most_steps)
  within_fits steps us = by_test (nat_lt most_steps (length steps)) refl
    where
      by_test : (b : Bool) →
          nat_lt most_steps (length steps) ≡ b →
          (if b then Err fault.TooManySteps else Ok steps) ≡ Ok us →
          (steps ≡ us) × (length us ≤ most_steps)
      by_test true e is = let f : ⊥ = cc in absurd f
      by_test false e is =
          let same : steps ≡ us = cc in
          let few : length steps ≤ most_steps = grind (arith, nat_tests) in
          (same, subst (λ (l : List ℕ). length l ≤ most_steps) same few)

  plain_fits : (said steps : List ℕ) → plain_schedule names said ≡ Ok steps → Each n steps × (length steps ≤ most_steps)
  plain_fits said steps = by_items (each (turns_of names) (items 0 said)) refl
    where
      by_items : (x : Result (List Turns) ScheduleFault) →
          each (turns_of names) (items 0 said) ≡ x →
          (x >>= λ turns. within (steps_of turns)) ≡ Ok steps →
          Each n steps × (length steps ≤ most_steps)
      by_items (Err f) read e = let g : ⊥ = cc in absurd g
      by_items (Ok ts) read e =
          let h = within_fits (steps_of ts) steps e in
          (subst (Each n) h.0 (steps_fit ts (each_fits (items 0 said) ts read)), h.1)

  -- ---- groups

  abbrev Fit : Result (List ℕ) ScheduleFault → Type 0
  Fit (Ok ts) = Each n ts
  Fit (Err f) = Unit {0}

  fit_joined : (x y : Result (List ℕ) ScheduleFault) → Fit x → Fit y → Fit (x >>= λ ts. y >>= λ us. Ok (ts ++ us))
  fit_joined (Err f) y h k = tt
  fit_joined (Ok ts) (Err f) h k = tt
  fit_joined (Ok ts) (Ok us) h k = each_append n ts us h k

  fit_repeated : (k : ℕ) (x : Result (List ℕ) ScheduleFault) → Fit x → Fit (x >>= λ ts. Ok (repeated k ts))
  fit_repeated k (Err f) h = tt
  fit_repeated k (Ok ts) h = each_repeated n k ts h

  fit_item : (x : Result Turns ScheduleFault) →
      ((t : Turns) → x ≡ Ok t → Each n t.0) →
      Fit (x >>= λ p. Ok (repeated p.1 p.0))
  fit_item (Err f) h = tt
  fit_item (Ok t) h = each_repeated n t.1 t.0 (h t refl)

  item_fits : (at : ℕ) (bytes : List ℕ) (joined : Bool) (t : Turns) →
      item_turns names at bytes joined ≡ Ok t →
      Each n t.0
  item_fits at bytes true t is = let f : ⊥ = cc in absurd f
  item_fits at bytes false t is = counted_fits at (parts_of bytes).0 (parts_of bytes).1 t is

  fit_group : (at : ℕ) (formed : Bool) (times : Option ℕ) (x : Result (List ℕ) ScheduleFault) →
      Fit x →
      Fit (group_steps at formed times x)
  fit_group at formed None x h = tt
  fit_group at false (Some k) x h = tt
  fit_group at true (Some k) x h = fit_repeated k x h

  abbrev GroupsFit : List Group → Type 0
  GroupsFit [] = Unit {0}
  GroupsFit (g ∷ gs) = Fit g.before.steps × GroupsFit gs

  ended_fits : (gs : List Group) (c : Content) → GroupsFit gs → Fit c.steps → Fit (ended gs c)
  ended_fits [] c h k = k
  ended_fits (g ∷ gs) c h k = ended_fits gs (followed_by g.before (Err (fault.BadItem g.at))) h.1
      (fit_joined g.before.steps (Err (fault.BadItem g.at)) h.0 tt)

  in_fits : (gs : List Group) (c : Content) (ps : List Piece) →
      GroupsFit gs →
      Fit c.steps →
      Fit (steps_in names gs c ps)
  in_fits gs c [] h k = ended_fits gs c h k
  in_fits gs c (Gap ∷ ps) h k = in_fits gs c ps h k
  in_fits gs c (Word at bytes ∷ ps) h k =
      let x : Result Turns ScheduleFault = item_turns names at bytes (opens ps) in
      in_fits gs (followed_by c (x >>= λ p. Ok (repeated p.1 p.0))) ps h
      (fit_joined c.steps (x >>= λ p. Ok (repeated p.1 p.0)) k (fit_item x (item_fits at bytes (opens ps))))
  in_fits gs c (Opens at ∷ ps) h k = in_fits (record { at = at; before = c } ∷ gs) nothing ps (k, h) tt
  in_fits [] c (Closes at after ∷ ps) h k = in_fits [] (followed_by c (Err (fault.BadItem at))) ps h
      (fit_joined c.steps (Err (fault.BadItem at)) k tt)
  in_fits (g ∷ gs) c (Closes at after ∷ ps) h k =
      let times : Option ℕ = group_times after (opens ps) in
      let formed : Bool = nat_lt (length gs) 8 && c.filled in
      in_fits gs (closed g gs c times) ps h.1 (fit_joined g.before.steps (group_steps g.at formed times c.steps) h.0
      (fit_group g.at formed times c.steps k))

  group_fits : (ps : List Piece) (steps : List ℕ) →
      group_schedule names ps ≡ Ok steps →
      Each n steps × (length steps ≤ most_steps)
  group_fits ps steps = by_read (steps_in names [] nothing ps) (in_fits [] nothing ps tt tt)
    where
      by_read : (x : Result (List ℕ) ScheduleFault) →
          Fit x →
          (x >>= within) ≡ Ok steps →
          Each n steps × (length steps ≤ most_steps)
      by_read (Err f) h e = let g : ⊥ = cc in absurd g
      by_read (Ok ts) h e = let w = within_fits ts steps e in (subst (Each n) w.0 h, w.1)

  read_fits : (said steps : List ℕ) → schedule_of names said ≡ Ok steps → Each n steps × (length steps ≤ most_steps)
  read_fits said steps = by_case (second_version (pieces 0 said))
    where
      by_case : (v : Option (List Piece)) →
          by_version names said v ≡ Ok steps →
          Each n steps × (length steps ≤ most_steps)
      by_case None e = plain_fits said steps e
      by_case (Some ps) e = group_fits ps steps e

-- the law: what is read is a schedule of the program's threads
pub what_is_read : WhatIsReadIsASchedule
what_is_read program said steps e =
    let f = read_fits (thread_names program) said steps e in
    record { there = all_of (length (thread_names program)) steps f.0; short = f.1 }

-- the law: what is read is read again from what is printed of it
pub is_read_again : IsReadAgain
is_read_again o text said program steps h e = schedules_read_back o text program steps h
    (what_is_read program said steps e)
