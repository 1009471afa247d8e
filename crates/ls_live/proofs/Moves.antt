-- Each kind of step keeps the rule.
use Rattle.std.proofs.Common.{◌≡◌, ℕ, ◌+◌, ◌*◌, ◌/◌, ◌<◌, ◌≤◌, ◌≢◌, ⊎_elim, zero, suc, List, [], ◌∷◌, ◌++◌, length, set}
use Rattle.std.proofs.Common.{take, get_or, refl, sym, ap, ◌∙◌, subst, arith, Bool, true, false, nat_lt, eqb, eq-eqb}
use Rattle.std.proofs.Common.{length-set, length-append, ◌-◌}
use mathlib.Core.Option.{some, none, some-injective, some-ne-none}
use lib.ListN.{get_elem?}
use Rattle.std.specs.Prelude.{◌&&◌}
use Rattle.std.proofs.lemmas.Bool.{eqb-true}
use borrow.Author.Tests.{ltb-true}
use prog.Atomic.{either}
use Rattle.atomic_table.specs.Table.{Step, Allows, Splits, Joins, Final, Seen, opening, keeps, takes, gives, rest}
use Rattle.atomic_table.proofs.Lists.{at_set, set_else}
use Rattle.ls_code.specs.Machine.{Machine, machine_run}
use Rattle.ls_live.specs.declared.view.View.{View}
use Rattle.ls_live.specs.Views.{total, dealer, seated, spent, dealt_left, dealt_right, both, is_turn, looked}
use Rattle.ls_live.specs.Views.{holding, given, home, Fits, Keeps, Mine, Looks, Takes, GivesBack}
use Rattle.ls_live.proofs.Totals.{total_set, total_snoc, total_le, total_two, some_counts, at_end, total_one}

-- whoever holds the machine is the only live seat of the thread whose turn it is
only_holder : (start : Machine) (tape : List ℕ) (place out count : ℕ) (vs : List View)
    → ((id : ℕ) (v : View) → get_elem? vs id ≡ some v → Fits start tape place out count id v)
    → (i j : ℕ) (v w : View) → get_elem? vs i ≡ some v → get_elem? vs j ≡ some w → v.live ≡ true →
    v.thread ≡ get_or tape place 0 → w.live ≡ true → w.thread ≡ get_or tape place 0 → v ≡ w
only_holder start tape place out count vs each i j v w e h lv tv lw tw =
    let a = (each i v e).lives lv in
    let b = (each j w h).lives lw in
    let same : i ≡ j = omega arith in
    some-injective v w (sym e ∙ (ap (λ (k : ℕ). get_elem? vs k) same ∙ h))

-- at the seat's own turn the machine is at home
home_at_turn : (start : Machine) (tape : List ℕ) (place out : ℕ) (vs : List View) → out < 2
    → total (λ v. v.out) vs ≡ out
    → ((id : ℕ) (v : View) → get_elem? vs id ≡ some v → Fits start tape place out (length vs) id v)
    → (id : ℕ) (v : View) → get_elem? vs id ≡ some v → v.live ≡ true → v.out ≡ 0 → v.thread ≡ get_or tape place 0 →
    out ≡ 0
home_at_turn start tape place zero vs small outs each id v e live idle turn = refl
home_at_turn start tape place (suc n) vs small outs each id v e live idle turn =
    let t = some_counts (λ u. u.out) vs (omega arith) in
    let held = (each t.0 t.1 t.2).holds t.3 in
    let same : v ≡ t.1 = only_holder start tape place (suc n) (length vs) vs each id t.0 v t.1 e t.2 live turn held.0
    (sym held.4) in
    let o : v.out ≡ t.1.out = ap (λ (u : View). u.out) same in
    let m = t.3 in
    absurd (omega arith)

both_true : (a b : Bool) → (a && b) ≡ true → (a ≡ true) × (b ≡ true)
both_true true b h = (refl, h)
both_true false b h = absurd (cc)

pub turn_is : (tape : List ℕ) (thread place : ℕ) →
    is_turn tape thread place ≡ true →
    (place < length tape) × (get_or tape place 0 ≡ thread)
turn_is tape thread place h =
    let t = both_true (nat_lt place (length tape)) (eqb (get_or tape place 0) thread) h in
    (ltb-true place (length tape) t.0, eqb-true (get_or tape place 0) thread t.1)

-- one view changed, and what the others ask stays
each_set : (start : Machine) (tape : List ℕ) (place out place' out' : ℕ) (vs : List View) (id : ℕ) (w : View)
    → ((j : ℕ) (u : View) → get_elem? vs j ≡ some u → Fits start tape place out (length vs) j u)
    → Fits start tape place' out' (length vs) id w
    → ((j : ℕ) (u : View) → j ≢ id → get_elem? vs j ≡ some u → Fits start tape place out (length vs) j u →
    Fits start tape place' out' (length vs) j u)
    → (j : ℕ) (u : View) → get_elem? (set vs id w) j ≡ some u → Fits start tape place' out' (length (set vs id w)) j u
each_set start tape place out place' out' vs id w each own others j u e =
    subst (λ (n : ℕ). Fits start tape place' out' n j u) (sym (length-set vs id w))
    (⊎_elim
    (λ h. subst (λ (x : View). Fits start tape place' out' (length vs) j x) h.1
    (subst (λ (x : ℕ). Fits start tape place' out' (length vs) x w) (sym h.0) own))
    (λ h. others j u h.0 h.1 (each j u h.1))
    (at_set vs id j w u e))

pub look_moves : (start : Machine) (tape : List ℕ) (seats k id : ℕ) (m : Mine) (t : Step Machine) →
    m.0.live ≡ true →
    m.0.out ≡ 0 →
    m.0.parts ≡ 1
    → Allows (Keeps start tape seats) k id m 0 (λ n. n) (Looks t m)
look_moves start tape seats k id m t live idle part s kept len at small =
    let v = m.0 in
    let n = get_or s.words 0 0 in
    let p = kept.place in
    let o = kept.out in
    let two = kept.small in
    let nw : n ≡ 2 * p + o = ap (λ (ws : List ℕ). get_or ws 0 0) kept.words in
    let half : n / 2 ≡ p = omega arith in
    let fits = kept.each id v at in
    let same = fits.same (omega arith) in
    let w = looked v n in
    let within = kept.within in
    let seen = fits.seen in
    let turn : is_turn v.tape v.thread (n / 2) ≡ true → (o ≡ 0) × (p < length tape) ×
    (get_or tape p 0 ≡ v.thread) = λ h.
    let h' : is_turn tape v.thread p ≡ true = ap (λ (x : ℕ). is_turn tape v.thread x) (sym half) ∙
    (ap (λ (xs : List ℕ). is_turn xs v.thread (n / 2)) (sym same.1) ∙ h) in
    let i = turn_is tape v.thread p h' in (
      home_at_turn start tape p o s.views kept.small kept.outs kept.each id v at
          live idle (sym i.1),
      i.0,
      i.1,
    ) in
    let own : Fits start tape p o (length s.views) id w = record {
      same = fits.same;
      idle = fits.idle;
      seen = omega arith;
      deals = fits.deals;
      lives = fits.lives;
      ready = λ h. let i = turn h in (live, half, i.0, i.1, i.2);
      holds = λ h. absurd (omega arith);
    } in (
      w,
      keeps,
      tt,
      record {
        place = p;
        out = o;
        small = kept.small;
        within = kept.within;
        words = ap (λ (ws : List ℕ). set ws 0 (get_or ws 0 0)) kept.words;
        homes = kept.homes;
        parts = let e = total_set (λ u. u.parts) s.views id v w at in let q = kept.parts in omega arith;
        steps = let e = total_set (λ u. u.steps) s.views id v w at in let q = kept.steps in omega arith;
        outs = let e = total_set (λ u. u.out) s.views id v w at in let q = kept.outs in omega arith;
        each = each_set start tape p o p o s.views id w kept.each own (λ j u ne a f. f);
      },
      (
        refl,
        omega arith,
        subst (λ (xs : List ℕ). n / 2 ≤ length xs) (sym same.1) (omega arith),
        λ h. let i = turn h in
            let z = i.0 in omega arith,
      ),
    )

take_bare : (start : Machine) (tape : List ℕ) (seats k id old new : ℕ) (v : View) (t : Step Machine) →
    t.first ≡ old →
    v.ready ≡ true →
    v.parts ≡ 1
    → old ≡ 2 * v.seen → new ≡ old + 1
    → Allows (Keeps start tape seats) k id (v, []) 0 (λ n. either (eqb n old) new n) (Takes t (v, []))
take_bare start tape seats k id old new v t first ready part is next s kept len at small =
    let n = get_or s.words 0 0 in
    let p = kept.place in
    let o = kept.out in
    let two = kept.small in
    let nw : n ≡ 2 * p + o = ap (λ (ws : List ℕ). get_or ws 0 0) kept.words in
    let fits = kept.each id v at in
    let same = fits.same (omega arith) in
    let mine = fits.ready ready in
    let live = mine.0 in
    let here = mine.1 in
    let zero_out = mine.2 in
    let room = mine.3 in
    let turn = mine.4 in
    let w = holding v in
    let found : n ≡ old = omega arith in
    let goes : either (eqb n old) new n ≡ new = ap (λ (b : Bool). either b new n) (eq-eqb n old found) in
    let out_v : v.out ≡ 0 = let q = total_le (λ u. u.out) s.views id v at in let r = kept.outs in omega arith in
    let y = machine_run v.start (take v.seen v.tape) in
    let y_is : y ≡ machine_run start (take p tape) = ap (λ (b : Machine). machine_run b (take v.seen v.tape)) same.0 ∙
    (ap (λ (xs : List ℕ). machine_run start (take v.seen xs)) same.1 ∙
    ap (λ (q : ℕ). machine_run start (take q tape)) here) in
    let at_home : s.homes ≡ some y ∷ [] = kept.homes ∙ (ap (λ (q : ℕ). home (machine_run start (take p tape)) q ∷ [])
    zero_out ∙ ap (λ (x : Machine). some x ∷ []) (sym y_is)) in
    let others : (j : ℕ) (u : View) → j ≢ id → get_elem? s.views j ≡ some u → Fits start tape p o (length s.views) j u →
    Fits start tape p 1 (length s.views) j u = λ j u ne a f.
    let no : u.ready ≡ true → ⊥ = λ r. let g = f.ready r in let lives = f.lives g.0 in
    let mine_lives = fits.lives live in let th = g.4 in ne (omega arith) in
    let none_out : u.out ≡ 0 = let q = total_le (λ x. x.out) s.views j u a in let r = kept.outs in omega arith in
    record {
      same = f.same;
      idle = f.idle;
      seen = f.seen;
      deals = f.deals;
      lives = f.lives;
      ready = λ r. absurd (no r);
      holds = λ h. absurd (omega arith);
    } in
    let own : Fits start tape p 1 (length s.views) id w = record {
      same = fits.same;
      idle = λ e. absurd (omega arith);
      seen = fits.seen;
      deals = fits.deals;
      lives = fits.lives;
      ready = λ e. absurd (cc);
      holds = λ h. (live, refl, here, refl, turn);
    } in (
      w,
      takes 0 y,
      ap (λ (hs : List _). get_elem? hs 0) at_home,
      record {
        place = p;
        out = 1;
        small = omega arith;
        within = omega arith;
        words = ap (λ (ws : List ℕ). set ws 0 (either (eqb n old) new n)) kept.words ∙
            ap (λ (x : ℕ). x ∷ []) (goes ∙ omega arith);
        homes = ap (λ (hs : List _). set hs 0 none) at_home;
        parts = let e = total_set (λ u. u.parts) s.views id v w at in let q = kept.parts in omega arith;
        steps = let e = total_set (λ u. u.steps) s.views id v w at in let q = kept.steps in omega arith;
        outs = let e = total_set (λ u. u.out) s.views id v w at in let q = kept.outs in omega arith;
        each = each_set start tape p o p 1 s.views id w kept.each own others;
      },
      (found ∙ sym first, refl),
    )

-- the one try wins
pub take_moves : (start : Machine) (tape : List ℕ) (seats k id old new : ℕ) (m : Mine) (t : Step Machine) →
    t.first ≡ old →
    m.0.ready ≡ true →
    m.0.parts ≡ 1 →
    m.1 ≡ []
    → old ≡ 2 * m.0.seen → new ≡ old + 1
    → Allows (Keeps start tape seats) k id m 0 (λ n. either (eqb n old) new n) (Takes t m)
take_moves start tape seats k id old new m t first ready part bare is next =
    subst (λ (c : List (ℕ × Machine)). Allows (Keeps start tape seats) k id (m.0, c) 0 (λ n. either (eqb n old) new n)
    (Takes t (m.0, c))) (sym bare)
    (take_bare start tape seats k id old new m.0 t first ready part is next)

give_held : (start : Machine) (tape : List ℕ) (seats k id next : ℕ) (v : View) (y : Machine) (t : Step Machine) →
    v.out ≡ 1 →
    v.parts ≡ 1
    → next ≡ 2 * (v.seen + 1) → y ≡ machine_run v.start (take (v.seen + 1) v.tape)
    → Allows (Keeps start tape seats) k id (v, (0, y) ∷ []) 0 (λ n. next) (λ n. GivesBack t (v, (0, y) ∷ []) next)
give_held start tape seats k id next v y t out part is made s kept len at small =
    let p = kept.place in
    let o = kept.out in
    let two = kept.small in
    let fits = kept.each id v at in
    let same = fits.same (omega arith) in
    let mine = fits.holds (omega arith) in
    let live = mine.0 in
    let here = mine.2 in
    let away = mine.3 in
    let turn = mine.4 in
    let within = kept.within in
    let w = given v in
    let y_is : y ≡ machine_run start (take (p + 1) tape) = made ∙
    (ap (λ (b : Machine). machine_run b (take (v.seen + 1) v.tape)) same.0 ∙
    (ap (λ (xs : List ℕ). machine_run start (take (v.seen + 1) xs)) same.1 ∙
    ap (λ (q : ℕ). machine_run start (take (q + 1) tape)) here)) in
    let others : (j : ℕ) (u : View) → j ≢ id → get_elem? s.views j ≡ some u → Fits start tape p o (length s.views) j u →
    Fits start tape (p + 1) 0 (length s.views) j u = λ j u ne a f.
    let none_out : u.out ≡ 0 = let q = total_two (λ x. x.out) s.views j id u v a at ne in let r = kept.outs in
    omega arith in
    let seen = f.seen in
    record {
      same = f.same;
      idle = f.idle;
      seen = omega arith;
      deals = f.deals;
      lives = f.lives;
      ready = λ r. let z = (f.ready r).2 in absurd (omega arith);
      holds = λ h. absurd (omega arith);
    } in
    let own : Fits start tape (p + 1) 0 (length s.views) id w = record {
      same = fits.same;
      idle = λ e. absurd (omega arith);
      seen = omega arith;
      deals = fits.deals;
      lives = fits.lives;
      ready = λ e. absurd (cc);
      holds = λ h. absurd (omega arith);
    } in (
      w,
      gives,
      tt,
      record {
        place = p + 1;
        out = 0;
        small = omega arith;
        within = omega arith;
        words = ap (λ (ws : List ℕ). set ws 0 next) kept.words ∙ ap (λ (x : ℕ). x ∷ []) (omega arith);
        homes = ap (λ (hs : List _). set hs 0 (some y)) kept.homes ∙ ap (λ (x : Machine). some x ∷ []) y_is;
        parts = let e = total_set (λ u. u.parts) s.views id v w at in let q = kept.parts in omega arith;
        steps = let e = total_set (λ u. u.steps) s.views id v w at in let q = kept.steps in omega arith;
        outs = let e = total_set (λ u. u.out) s.views id v w at in let q = kept.outs in omega arith;
        each = each_set start tape p o (p + 1) 0 s.views id w kept.each own others;
      },
      refl,
    )

pub give_moves : (start : Machine) (tape : List ℕ) (seats k id next : ℕ) (m : Mine) (t : Step Machine) →
    m.0.out ≡ 1 →
    m.0.parts ≡ 1
    → m.1 ≡ (0, machine_run m.0.start (take (m.0.seen + 1) m.0.tape)) ∷ [] → next ≡ 2 * (m.0.seen + 1)
    → Allows (Keeps start tape seats) k id m 0 (λ n. next) (λ n. GivesBack t m next)
give_moves start tape seats k id next m t out part held is =
    subst (λ (c : List (ℕ × Machine)). Allows (Keeps start tape seats) k id (m.0, c) 0 (λ n. next)
    (λ n. GivesBack t (m.0, c) next)) (sym held)
    (give_held start tape seats k id next m.0 (machine_run m.0.start (take (m.0.seen + 1) m.0.tape)) t out part is refl)

pub held_first : (y : Machine) (c : List (ℕ × Machine)) → c ≡ (0, y) ∷ [] → c ≡ (0, y) ∷ rest c
held_first y c e = e ∙ ap (λ (xs : List (ℕ × Machine)). (0, y) ∷ rest xs) (sym e)

-- the dealer deals one seat
pub deal_moves : (start : Machine) (tape : List ℕ) (seats id parts dealt : ℕ) (b : Machine) (tp : List ℕ) → 0 < parts
    → Splits (Keeps start tape seats) id (dealer b tp parts dealt) (dealer b tp (parts - 1) (dealt + 1))
    (seated b tp dealt 0 0)
deal_moves start tape seats id parts dealt b tp some_part s kept at =
    let p = kept.place in
    let o = kept.out in
    let v = dealer b tp parts dealt in
    let left = dealer b tp (parts - 1) (dealt + 1) in
    let right = seated b tp dealt 0 0 in
    let n = length s.views in
    let fits = kept.each id v at in
    let first = fits.deals refl in
    let first_id = first.0 in
    let first_count = first.1 in
    let len = length-set s.views id left in
    let len' = length-append (set s.views id left) (right ∷ []) in
    let own : Fits start tape p o (n + 1) id left = record {
      same = λ h. fits.same some_part;
      idle = λ e. (refl, refl);
      seen = omega arith;
      deals = λ e. (first_id, omega arith);
      lives = λ e. absurd (cc);
      ready = λ e. absurd (cc);
      holds = λ h. absurd (omega arith);
    } in
    let new : (j : ℕ) → j ≡ n → Fits start tape p o (n + 1) j right = λ j at_end. record {
      same = λ h. fits.same some_part;
      idle = λ e. absurd (omega arith);
      seen = omega arith;
      deals = λ e. absurd (cc);
      lives = λ e. omega arith;
      ready = λ e. absurd (cc);
      holds = λ h. absurd (omega arith);
    } in
    let others : (j : ℕ) (u : View) → j ≢ id → get_elem? s.views j ≡ some u →
    Fits start tape p o (n + 1) j u = λ j u ne a.
    let f = kept.each j u a in
    record {
      same = f.same;
      idle = f.idle;
      seen = f.seen;
      deals = λ e. absurd (ne ((f.deals e).0 ∙ sym first_id));
      lives = f.lives;
      ready = f.ready;
      holds = f.holds;
    } in
    let each : (j : ℕ) (u : View) → get_elem? (set s.views id left ++ right ∷ []) j ≡ some u →
    Fits start tape p o (n + 1) j u = λ j u e.
    ⊎_elim
    (λ old.
    ⊎_elim
    (λ h. subst (λ (x : View). Fits start tape p o (n + 1) j x) h.1
    (subst (λ (x : ℕ). Fits start tape p o (n + 1) x left) (sym h.0) own))
    (λ h. others j u h.0 h.1)
    (at_set s.views id j left u old))
    (λ h. subst (λ (x : View). Fits start tape p o (n + 1) j x) h.1 (new j (h.0 ∙ len)))
    (at_end (set s.views id left) right u j e) in
    record {
      place = p;
      out = o;
      small = kept.small;
      within = kept.within;
      words = kept.words;
      homes = kept.homes;
      parts = let e = total_set (λ u. u.parts) s.views id v left at in let q = kept.parts in
          let r = total_snoc (λ u. u.parts) (set s.views id left) right in omega arith;
      steps = let e = total_set (λ u. u.steps) s.views id v left at in let q = kept.steps in
          let r = total_snoc (λ u. u.steps) (set s.views id left) right in omega arith;
      outs = let e = total_set (λ u. u.out) s.views id v left at in let q = kept.outs in
          let r = total_snoc (λ u. u.out) (set s.views id left) right in omega arith;
      each = λ j u e. subst (λ (x : ℕ). Fits start tape p o x j u) (sym (len' ∙ ap (λ (x : ℕ). x + 1) len))
          (each j u e);
    }

-- one seat takes in another
pub join_moves : (start : Machine) (tape : List ℕ) (seats id other : ℕ) (v w : View) →
    v.out ≡ 0 →
    w.out ≡ 0 →
    0 < w.parts
    → Joins (Keeps start tape seats) id v other w (both v w) spent
join_moves start tape seats id other v w idle_v idle_w some_part s kept at apart at_other =
    let p = kept.place in
    let o = kept.out in
    let vs = s.views in
    let all = both v w in
    let at_w : get_elem? vs other ≡ some w = sym (set_else vs id other all apart) ∙ at_other in
    let fits = kept.each id v at in
    let gits = kept.each other w at_w in
    let seen_v = fits.seen in
    let seen_w = gits.seen in
    let own : Fits start tape p o (length vs) id all = record {
      same = λ h. gits.same some_part;
      idle = λ e. absurd (omega arith);
      seen = omega arith;
      deals = λ e. absurd (cc);
      lives = λ e. absurd (cc);
      ready = λ e. absurd (cc);
      holds = λ h. absurd (omega arith);
    } in
    let mid = each_set start tape p o p o vs id all kept.each own (λ j u ne a f. f) in
    let gone : Fits start tape p o (length (set vs id all)) other spent = record {
      same = λ h. absurd (omega arith);
      idle = λ e. (refl, refl);
      seen = omega arith;
      deals = λ e. absurd (cc);
      lives = λ e. absurd (cc);
      ready = λ e. absurd (cc);
      holds = λ h. absurd (omega arith);
    } in
    record {
      place = p;
      out = o;
      small = kept.small;
      within = kept.within;
      words = kept.words;
      homes = kept.homes;
      parts = let e = total_set (λ u. u.parts) vs id v all at in
          let r = total_set (λ u. u.parts) (set vs id all) other w spent at_other in let q = kept.parts in omega arith;
      steps = let e = total_set (λ u. u.steps) vs id v all at in
          let r = total_set (λ u. u.steps) (set vs id all) other w spent at_other in let q = kept.steps in omega arith;
      outs = let e = total_set (λ u. u.out) vs id v all at in
          let r = total_set (λ u. u.out) (set vs id all) other w spent at_other in let q = kept.outs in omega arith;
      each = each_set start tape p o p o (set vs id all) other spent mid gone (λ j u ne a f. f);
    }

-- where one seat has all parts, and the machine isn't out with it, the machine is at home, after as many entries as the
-- seat did
pub closes : (start : Machine) (tape : List ℕ) (seats id : ℕ) (v : View) (ws : List ℕ) (xs : List Machine) →
    seats ≤ v.parts →
    v.out ≡ 0
    → Final (Seen (Keeps start tape seats) id v) ws xs
    → (get_elem? xs 0 ≡ some (machine_run start (take v.steps tape))) × (get_elem? ws 0 ≡ some (2 * v.steps)) ×
    (v.steps ≤ length tape) × (v.seen ≤ v.steps) × (v.parts ≡ seats)
closes start tape seats id v ws xs all idle f =
    let s = f.0 in
    let kept = f.1.0 in
    let at = f.1.1 in
    let fits = kept.each id v at in
    let within = kept.within in
    let seen = fits.seen in
    let most = total_le (λ u. u.parts) s.views id v at in
    let parts = kept.parts in
    let none_else : (j : ℕ) (u : View) → get_elem? s.views j ≡ some u → j ≢ id →
    u.parts ≡ 0 = λ j u a ne. let q = total_two (λ x. x.parts) s.views j id u v a at ne in omega arith in
    let steps : kept.place ≡ v.steps = sym kept.steps ∙ total_one (λ u. u.steps) s.views id v at
    (λ j u a ne. ((kept.each j u a).idle (none_else j u a ne)).0) in
    let outs : kept.out ≡ 0 = sym kept.outs ∙ (total_one (λ u. u.out) s.views id v at
    (λ j u a ne. ((kept.each j u a).idle (none_else j u a ne)).1) ∙ idle) in
    let at_home : s.homes ≡ some (machine_run start (take v.steps tape)) ∷ [] =
    kept.homes ∙ (ap (λ (q : ℕ). home (machine_run start (take kept.place tape)) q ∷ []) outs ∙
    ap (λ (q : ℕ). some (machine_run start (take q tape)) ∷ []) steps) in
    let word : ws ≡ 2 * v.steps ∷ [] = sym f.2 ∙ (kept.words ∙ ap (λ (x : ℕ). x ∷ []) (omega arith)) in (
      f.4 0 (machine_run start (take v.steps tape)) (ap (λ (hs : List _). get_elem? hs 0) at_home),
      ap (λ (us : List ℕ). get_elem? us 0) word,
      omega arith,
      omega arith,
      omega arith,
    )

opens_each : (start : Machine) (tape : List ℕ) (seats id : ℕ) (v : View) →
    get_elem? (dealer start tape seats 0 ∷ []) id ≡ some v →
    Fits start tape 0 0 1 id v
opens_each start tape seats zero v e =
    subst (λ (x : View). Fits start tape 0 0 1 0 x) (some-injective (dealer start tape seats 0) v e)
    record {
      same = λ h. (refl, refl);
      idle = λ h. (refl, refl);
      seen = omega arith;
      deals = λ h. (refl, refl);
      lives = λ h. absurd (cc);
      ready = λ h. absurd (cc);
      holds = λ h. absurd (omega arith);
    }
opens_each start tape seats (suc id) v e = absurd (some-ne-none v (sym e))

-- the rule at the start
pub opens : (start : Machine) (tape : List ℕ) (seats : ℕ) →
    Keeps start tape seats (opening (0 ∷ []) (start ∷ []) (dealer start tape seats 0))
opens start tape seats = record {
  place = 0;
  out = 0;
  small = omega arith;
  within = omega arith;
  words = refl;
  homes = refl;
  parts = omega arith;
  steps = refl;
  outs = refl;
  each = opens_each start tape seats;
}

pub deal_at : (start : Machine) (tape : List ℕ) (seats id parts dealt : ℕ) (v : View) →
    v ≡ dealer start tape parts dealt →
    0 < parts
    → Splits (Keeps start tape seats) id v (dealt_left v) (dealt_right v)
deal_at start tape seats id parts dealt v e some_part =
    subst (λ (x : View). Splits (Keeps start tape seats) id x (dealt_left x) (dealt_right x)) (sym e)
    (deal_moves start tape seats id parts dealt start tape some_part)

-- the same, of a machine that is the one at the start
pub opens_at : (start m : Machine) (tape : List ℕ) (seats : ℕ) →
    m ≡ start →
    Keeps start tape seats (opening (0 ∷ []) (m ∷ []) (dealer start tape seats 0))
opens_at start m tape seats e =
    subst (λ (x : Machine). Keeps start tape seats (opening (0 ∷ []) (x ∷ []) (dealer start tape seats 0))) (sym e)
    (opens start tape seats)
