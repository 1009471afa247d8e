-- What is printed reads back.
use Rattle.ls_events.specs.Limits.{most_steps}
use Rattle.std.proofs.Common.{◌≡◌, ◌∙◌, ◌+◌, ◌-◌, ◌<◌, ◌≤◌, inl, inr, ℕ, suc, true, false, cond, List, [], ◌∷◌, ◌++◌}
use Rattle.std.proofs.Common.{length, get_or, Option, Some, None, Ok, Err, refl, sym, ap, subst, arith, append_assoc}
use Rattle.std.proofs.Common.{append-nil, eqb-true, map}
use Rattle.std.specs.Prelude.{◌==◌, nat_lt, codes, slice_get, option_map, unwrap_or, All}
use Rattle.std.specs.Fmt.{decimal}
use Rattle.std.specs.List.{position, position_or_len, range_with_len}
use Rattle.std.specs.Str.{bytes_eq}
use Rattle.std.proofs.lemmas.Bool.{cases_Bool, le-ltb, lt-ltb}
use Rattle.std.proofs.lemmas.List.Sums.{position_or_len_is}
use Rattle.std.proofs.lemmas.Option.{slice_get-get_or}
use Rattle.std.proofs.lemmas.Slice.Eq.{bytes_eq-Decides}
use Rattle.ls_lexer.specs.Names.{is_name}
use Rattle.ls_schedule.specs.declared.fault.ScheduleFault.TheVariants as fault
use Rattle.ls_items.specs.Items.{is_gap, items}
use Rattle.ls_schedule.specs.Pieces.{Gap, pieces, second_version, with_byte}
use Rattle.ls_schedule.specs.Reading.{Turns, by_version, counted, each, group_schedule, known, parts_of, repeated}
use Rattle.ls_schedule.specs.Reading.{schedule_of, steps_of, threads_named, turns_of, within, ◌>>=◌}
use Rattle.ls_schedule.specs.Printing.{Run, item_text, more_text, name_of, runs_of, times, with_step}
use Rattle.ls_schedule.specs.RoundTrip.{AreThreadNames, ReadsBack}
use Rattle.ls_schedule.proofs.Fronts.{at_gap}
use Rattle.ls_schedule.proofs.Plain.{without_groups}
use Rattle.ls_schedule.proofs.Words.{Each, IsPlain, NoGaps, NoGroups, Parts, count_read, decimal_digits, digits_gaps}
use Rattle.ls_schedule.proofs.Words.{digits_plain, each_append, name_parts, parts_gaps, parts_once, parts_plain}
use Rattle.ls_schedule.proofs.Words.{parts_times, word_items}

-- ---- a name is that of its thread

abbrev name_at : List (List ℕ) → ℕ → List ℕ
name_at names t = get_or names t []

got : (names : List (List ℕ)) (t : ℕ) → t < length names → slice_get names t ≡ Some (name_at names t)
got names t lt = slice_get-get_or names t [] lt

others : (names : List (List ℕ)) (t k : ℕ) →
    AreThreadNames names →
    t < length names →
    k < t →
    bytes_eq (name_at names k) (name_at names t) ≡ false
others names t k a lt before =
    elim (cases_Bool (bytes_eq (name_at names k) (name_at names t))) [
      | inl e ↦
          let same : name_at names k ≡ name_at names t = (bytes_eq-Decides (name_at names k) (name_at names t)).0 e in
          let i : k ≡ t = a.once k t (name_at names t) (got names k (omega arith) ∙ ap Some same) (got names t lt) in
          absurd (omega arith)
      | inr e ↦ e
    ]

place : (names : List (List ℕ)) (t : ℕ) →
    AreThreadNames names →
    t < length names →
    position (λ n. bytes_eq n (name_at names t)) names ≡ Some t
place names t a lt =
    let itself : bytes_eq (name_at names t) (name_at names t) ≡ true =
    (bytes_eq-Decides (name_at names t) (name_at names t)).1 refl in
    let at : position_or_len (λ n. bytes_eq n (name_at names t)) names ≡ t =
    position_or_len_is (λ n. bytes_eq n (name_at names t)) names t [] (omega arith)
    (λ k before. others names t k a lt before) (λ _. itself) in
    ap (λ k. cond (nat_lt k (length names)) (Some k) None) at ∙
    ap (λ b. cond b (Some t) None) (lt-ltb t (length names) lt)

named : (names : List (List ℕ)) (t : ℕ) →
    AreThreadNames names →
    t < length names →
    threads_named names (name_at names t) ≡ Some (t ∷ [])
named names t a lt =
    let all : Option (List ℕ) = Some (range_with_len 1 (length names - 1)) in
    let found : Option (List ℕ) = option_map (λ u. u ∷ []) (position (λ n. bytes_eq n (name_at names t)) names) in
    let other : bytes_eq (name_at names t) (codes "all") ≡ false =
    elim (cases_Bool (bytes_eq (name_at names t) (codes "all"))) [
      | inl e ↦ absurd (a.not_all t (name_at names t) (got names t lt)
          ((bytes_eq-Decides (name_at names t) (codes "all")).0 e))
      | inr e ↦ e
    ] in
    ap (λ b. cond b all found) other ∙ ap (λ o. option_map (λ u. u ∷ []) o) (place names t a lt)

-- ---- an item reads back

-- a run of a thread that is there
abbrev Fits : List (List ℕ) → Run → Type 0
Fits names r = (r.0 < length names) × (0 < r.1) × (r.1 ≤ most_steps)

abbrev turn : Run → Turns
turn r = (r.0 ∷ [], r.1)

name_is : (names : List (List ℕ)) (t : ℕ) → t < length names → name_of names t ≡ name_at names t
name_is names t lt = ap (λ o. unwrap_or o []) (got names t lt)

parts_is : (names : List (List ℕ)) (r : Run) →
    AreThreadNames names →
    Fits names r →
    parts_of (name_at names r.0 ++ times r.1) ≡ (name_at names r.0, Some r.1)
parts_is names r a f =
    let name : List ℕ = name_at names r.0 in
    let parts : Parts name = (name_parts name (a.formed r.0 name (got names r.0 f.0))).1 in
    elim (cases_Bool (r.1 == 1)) [
      | inl e ↦
          let none : times r.1 ≡ [] = ap (λ b. cond b [] (42 ∷ decimal r.1)) e in
          let n : 1 ≡ r.1 = sym (eqb-true r.1 1 e) in
          ap (λ l. parts_of (name ++ l)) none ∙ ap parts_of (append-nil name) ∙ parts_once name parts ∙
          ap (λ k. (name, Some k)) n
      | inr e ↦
          let some : times r.1 ≡ 42 ∷ decimal r.1 = ap (λ b. cond b [] (42 ∷ decimal r.1)) e in
          ap (λ l. parts_of (name ++ l)) some ∙ parts_times name (decimal r.1) parts ∙
          ap (λ o. (name, o)) (count_read r.1 f.1 (omega (arith, f.2)))
    ]

turn_is : (names : List (List ℕ)) (at : ℕ) (r : Run) →
    AreThreadNames names →
    Fits names r →
    turns_of names (at, item_text names r) ≡ Ok (turn r)
turn_is names at r a f =
    let name : List ℕ = name_at names r.0 in
    let text : item_text names r ≡ name ++ times r.1 = ap (λ l. l ++ times r.1) (name_is names r.0 f.0) in
    let formed : is_name name ≡ true = a.formed r.0 name (got names r.0 f.0) in
    ap (λ l. turns_of names (at, l)) text ∙ ap (λ (p : List ℕ × Option ℕ). counted names at p.0 p.1)
    (parts_is names r a f)
    ∙ ap (λ b. cond b (known at (threads_named names name) r.1) (Err (fault.BadItem at))) formed ∙
    ap (λ o. known at o r.1) (named names r.0 a f.0)

times_gaps : (n : ℕ) → n ≤ most_steps → NoGaps (times n)
times_gaps n le =
    elim (cases_Bool (n == 1)) [
      | inl e ↦ subst NoGaps (sym (ap (λ b. cond b [] (42 ∷ decimal n)) e)) tt
      | inr e ↦ subst NoGaps (sym (ap (λ b. cond b [] (42 ∷ decimal n)) e))
          (refl, digits_gaps (decimal n) (decimal_digits n (omega arith)))
    ]

-- an item's bytes have no gap, and it isn't empty
item_word : (names : List (List ℕ)) (r : Run) →
    AreThreadNames names →
    Fits names r →
    (0 < length (item_text names r)) × NoGaps (item_text names r)
item_word names r a f =
    let name : List ℕ = name_at names r.0 in
    let n = name_parts name (a.formed r.0 name (got names r.0 f.0)) in
    let text : name ++ times r.1 ≡ item_text names r = ap (λ l. l ++ times r.1) (sym (name_is names r.0 f.0)) in
    subst (λ l. (0 < length l) × NoGaps l) text (
      longer name (times r.1) n.0,
      each_append (λ b. is_gap b ≡ false) name (times r.1) (parts_gaps name n.1) (times_gaps r.1 f.2),
    )
  where
    longer : (xs ys : List ℕ) → 0 < length xs → 0 < length (xs ++ ys)
    longer [] ys h = absurd (omega arith)
    longer (x ∷ xs) ys h = omega arith

-- ---- the items read back

abbrev AllFit : List (List ℕ) → List Run → Type 0
AllFit names [] = Unit {0}
AllFit names (r ∷ rs) = Fits names r × AllFit names rs

cut : (at : ℕ) (w : List ℕ) (c : ℕ) (rest : List ℕ) →
    0 < length w →
    NoGaps w →
    is_gap c ≡ true →
    (next : ℕ) × (items at (w ++ c ∷ rest) ≡ (at, w) ∷ items next (c ∷ rest))
cut at [] c rest pos n g = absurd (omega arith)
cut at (b ∷ w) c rest pos n g = word_items at b w c rest n g

-- what follows an item begins with a gap
gap_first : (names : List (List ℕ)) (rs : List Run) →
    (c : ℕ) × (rest : List ℕ) × (more_text names rs ++ 10 ∷ [] ≡ c ∷ rest) × (is_gap c ≡ true)
gap_first names [] = (10, [], refl, refl)
gap_first names (r ∷ rs) = (32, (item_text names r ++ more_text names rs) ++ 10 ∷ [], refl, refl)

read_one : (names : List (List ℕ)) (at : ℕ) (r : Run) (rs : List Run) → AreThreadNames names → Fits names r
    → ((next : ℕ) → each (turns_of names) (items next (more_text names rs ++ 10 ∷ [])) ≡ Ok (map turn rs))
    → each (turns_of names) (items at ((item_text names r ++ more_text names rs) ++ 10 ∷ [])) ≡ Ok
    (turn r ∷ map turn rs)
read_one names at r rs a f more =
    let item : List ℕ = item_text names r in
    let w = item_word names r a f in
    let g = gap_first names rs in
    let found = cut at item g.0 g.1 w.0 w.1 g.3 in
    let next : ℕ = found.0 in
    let text : (item ++ more_text names rs) ++ 10 ∷ [] ≡ item ++ g.0 ∷
    g.1 = append_assoc item (more_text names rs) (10 ∷ []) ∙ ap (λ l. item ++ l) g.2 in
    let after : each (turns_of names) (items next (g.0 ∷ g.1)) ≡ Ok (map turn rs) = ap
    (λ l. each (turns_of names) (items next l)) (sym g.2) ∙ more next in
    ap (λ l. each (turns_of names) (items at l)) text ∙ ap (λ l. each (turns_of names) l) found.1
    ∙ ap (λ x. x >>= λ y. each (turns_of names) (items next (g.0 ∷ g.1)) >>= λ ys. Ok (y ∷ ys)) (turn_is names at r a f)
    ∙ ap (λ x. x >>= λ ys. Ok (turn r ∷ ys)) after

read_more : (names : List (List ℕ)) (at : ℕ) (rs : List Run) →
    AreThreadNames names →
    AllFit names rs →
    each (turns_of names) (items at (more_text names rs ++ 10 ∷ [])) ≡ Ok (map turn rs)
read_more names at [] a f = refl
read_more names at (r ∷ rs) a f = read_one names (at + 1) r rs a f.0 (λ next. read_more names next rs a f.1)

-- ---- the steps of the runs

step_on : (t : ℕ) (rs : List Run) → steps_of (map turn (with_step t rs)) ≡ t ∷ steps_of (map turn rs)
step_on t [] = refl
step_on t (r ∷ rs) =
    elim (cases_Bool (t == r.0)) [
      | inl e ↦
          let is : t ≡ r.0 = eqb-true t r.0 e in
          let n : r.1 + 1 ≡ suc r.1 = omega arith in
          ap (λ b. steps_of (map turn (cond b ((t, r.1 + 1) ∷ rs) ((t, 1) ∷ r ∷ rs)))) e
          ∙ ap (λ k. repeated k (t ∷ []) ++ steps_of (map turn rs)) n
          ∙ ap (λ u. t ∷ repeated r.1 (u ∷ []) ++ steps_of (map turn rs)) is
      | inr e ↦ ap (λ b. steps_of (map turn (cond b ((t, r.1 + 1) ∷ rs) ((t, 1) ∷ r ∷ rs)))) e
    ]

runs_steps : (steps : List ℕ) → steps_of (map turn (runs_of steps)) ≡ steps
runs_steps [] = refl
runs_steps (t ∷ ts) = step_on t (runs_of ts) ∙ ap (λ l. t ∷ l) (runs_steps ts)

-- ---- the runs fit

-- of runs of so many steps in all
abbrev Upto : List (List ℕ) → ℕ → List Run → Type 0
Upto names n [] = Unit {0}
Upto names n (r ∷ rs) = ((r.0 < length names) × (0 < r.1) × (r.1 ≤ n)) × Upto names n rs

more_upto : (names : List (List ℕ)) (m n : ℕ) (rs : List Run) → m ≤ n → Upto names m rs → Upto names n rs
more_upto names m n [] le u = tt
more_upto names m n (r ∷ rs) le u = ((u.0.0, u.0.1, omega (arith, u.0.2)), more_upto names m n rs le u.1)

step_upto : (names : List (List ℕ)) (n t : ℕ) (rs : List Run) →
    t < length names →
    Upto names n rs →
    Upto names (suc n) (with_step t rs)
step_upto names n t [] lt u = ((lt, omega arith, omega arith), tt)
step_upto names n t (r ∷ rs) lt u =
    elim (cases_Bool (t == r.0)) [
      | inl e ↦ subst (Upto names (suc n)) (sym (ap (λ b. cond b ((t, r.1 + 1) ∷ rs) ((t, 1) ∷ r ∷ rs)) e))
          ((lt, omega arith, omega (arith, u.0.2)), more_upto names n (suc n) rs (omega arith) u.1)
      | inr e ↦ subst (Upto names (suc n)) (sym (ap (λ b. cond b ((t, r.1 + 1) ∷ rs) ((t, 1) ∷ r ∷ rs)) e))
          ((lt, omega arith, omega arith), more_upto names n (suc n) (r ∷ rs) (omega arith) u)
    ]

runs_upto : (names : List (List ℕ)) (steps : List ℕ) →
    Each (λ t. t < length names) steps →
    Upto names (length steps) (runs_of steps)
runs_upto names [] h = tt
runs_upto names (t ∷ ts) h = step_upto names (length ts) t (runs_of ts) h.0 (runs_upto names ts h.1)

fit : (names : List (List ℕ)) (n : ℕ) (rs : List Run) → n ≤ most_steps → Upto names n rs → AllFit names rs
fit names n [] le u = tt
fit names n (r ∷ rs) le u = ((u.0.0, u.0.1, omega (arith, u.0.2)), fit names n rs le u.1)

each_of : (P : ℕ → Type 0) (xs : List ℕ) → All P xs → Each P xs
each_of P [] h = tt
each_of P (x ∷ xs) h = (h 0 0 (omega arith), each_of P xs (λ k d lt. h (suc k) d (omega arith)))

-- ---- a printed text has no parentheses

times_plain : (n : ℕ) → n ≤ most_steps → NoGroups (times n)
times_plain n le =
    elim (cases_Bool (n == 1)) [
      | inl e ↦ subst NoGroups (sym (ap (λ b. cond b [] (42 ∷ decimal n)) e)) tt
      | inr e ↦ subst NoGroups (sym (ap (λ b. cond b [] (42 ∷ decimal n)) e))
          ((refl, refl), digits_plain (decimal n) (decimal_digits n (omega arith)))
    ]

item_plain : (names : List (List ℕ)) (r : Run) → AreThreadNames names → Fits names r → NoGroups (item_text names r)
item_plain names r a f =
    let name : List ℕ = name_at names r.0 in
    let n = name_parts name (a.formed r.0 name (got names r.0 f.0)) in
    let text : name ++ times r.1 ≡ item_text names r = ap (λ l. l ++ times r.1) (sym (name_is names r.0 f.0)) in
    subst NoGroups text (each_append IsPlain name (times r.1) (parts_plain name n.1) (times_plain r.1 f.2))

more_plain : (names : List (List ℕ)) (rs : List Run) →
    AreThreadNames names →
    AllFit names rs →
    NoGroups (more_text names rs)
more_plain names [] a f = tt
more_plain names (r ∷ rs) a f = (
  (refl, refl),
  each_append IsPlain (item_text names r) (more_text names rs)
      (item_plain names r a f.0) (more_plain names rs a f.1),
)

-- ---- and has version 2

versioned : (names : List (List ℕ)) (text : List ℕ) (c : ℕ) (rest : List ℕ) → text ≡ c ∷ rest → is_gap c ≡ true
    → schedule_of names (codes "@2" ++ text) ≡ group_schedule names (pieces 2 text)
versioned names text c rest e g =
    let is : pieces 2 text ≡ Gap ∷ pieces 3 rest = ap (pieces 2) e ∙ at_gap 2 c rest g in
    ap (λ ps. by_version names (codes "@2" ++ text) (second_version (with_byte 0 64 (with_byte 1 50 ps)))) is
    ∙ ap (group_schedule names) (sym is)

pub reads_back : ReadsBack
reads_back names steps a there le =
    let rs : List Run = runs_of steps in
    let f : AllFit names rs = fit names (length steps) rs le
    (runs_upto names steps (each_of (λ t. t < length names) steps there)) in
    let text : List ℕ = more_text names rs ++ 10 ∷ [] in
    let g = gap_first names rs in
    let plain : NoGroups text = each_append IsPlain (more_text names rs) (10 ∷ []) (more_plain names rs a f)
    ((refl, refl), tt) in
    versioned names text g.0 g.1 g.2 g.3
    ∙ without_groups names 2 text plain
    ∙ ap (λ x. x >>= λ turns. within (steps_of turns)) (read_more names 2 rs a f)
    ∙ ap within (runs_steps steps)
    ∙ ap (λ b. cond b (Err fault.TooManySteps) (Ok steps)) (le-ltb most_steps (length steps) le)
