-- The calls of a thread rise, and each comes before its end.
use Rattle.std.proofs.Common.{◌≡◌, ◌⊎◌, inl, inr, ℕ, zero, suc, ◌+◌, ◌*◌, ◌<◌, ◌≤◌, ◌==◌, Bool, true, false, not, ◌&&◌}
use Rattle.std.proofs.Common.{List, [], ◌∷◌, ◌++◌, Some, None, Contains, map, refl, sym, ap, ◌∙◌, subst, arith}
use Rattle.std.specs.Prelude.{find, slice_get, if◌then◌else◌}
use Rattle.std.specs.Str.{bytes_eq}
use Rattle.std.proofs.lemmas.Bool.{cases_lt}
use Rattle.std.proofs.lemmas.List.{reverse-append}
use Rattle.std.proofs.lemmas.List.Elements.{Contains-append_cases, Contains-append_left, Contains-push}
use Rattle.std.proofs.lemmas.Slice.Eq.{bytes_eq-Decides}
use Rattle.std.specs.Cmp.{unsigned_Decides}
use Rattle.ls_events.specs.declared.event.Event.{Event as RunEvent}
use Rattle.ls_checked.specs.CheckedProgram.{Program}
use Rattle.ls_report.specs.Events.{Called, Event, Made, Occurrence, Returned, Text, Trapped}
use Rattle.ls_report.specs.Discipline.{continues, has_value, is_call, is_making, is_next, is_placed, is_return}
use Rattle.ls_report.specs.Discipline.{is_well_formed}
use Rattle.ls_report.specs.Discipline.{last_of, may_follow}
use Rattle.ls_report.specs.Printing.{named}
use Rattle.ls_linearizable.proofs.There.{there_cases, there_first, there_later, there_not}
use Rattle.ls_serial_orders.specs.Once.{ReadableIsOnce}

parts : (a b : Bool) → (a && b) ≡ true → (a ≡ true) × (b ≡ true)
parts true b g = (refl, g)
parts false b g = absurd cc

some_is : {A : Type 0} {x y : A} → Some x ≡ Some y → x ≡ y
some_is h = cc

-- the last event of a thread after one event more
last_pushed : (name : Text) (front : List Event) (e : Event) →
    last_of name (front ++ e ∷ []) ≡ (if bytes_eq e.thread name then Some e else last_of name front)
last_pushed name front e = ap (find (λ d. bytes_eq d.thread name)) (reverse-append front (e ∷ []))

-- ---- a number that rises along the events of a thread

abbrev rank_by : Bool → ℕ → ℕ
rank_by true n = 2 * n
rank_by false n = 2 * n + 1

abbrev rank : Event → ℕ
rank e = rank_by (is_call e.occurrence) e.call

not_return : (o : Occurrence) → is_return o ≡ true → is_call o ≡ false
not_return (Made object class arguments) r = absurd cc
not_return (Called object method arguments) r = absurd cc
not_return (Returned value) r = refl
not_return (Trapped kind) r = refl

rises : (d e : Event) → may_follow (Some d) e ≡ true → rank d < rank e
rises d e h = by_calls (is_call e.occurrence) (is_call d.occurrence) (not_return d.occurrence) h
  where
    by_calls : (a b : Bool) → (is_return d.occurrence ≡ true → b ≡ false) →
        (if a then (is_return d.occurrence && (e.call == d.call + 1 && is_placed e)) else
        (b && (e.call == d.call && not (is_making d.occurrence && has_value e.occurrence)))) ≡ true →
        rank_by b d.call < rank_by a e.call
    by_calls true true f g =
        absurd (apart (f (parts (is_return d.occurrence) (e.call == d.call + 1 && is_placed e) g).0))
      where
        apart : true ≡ false → ⊥
        apart p = cc
    by_calls true false f g =
        let p = parts (is_return d.occurrence) (e.call == d.call + 1 && is_placed e) g in
        let n : e.call ≡ d.call + 1 =
        (unsigned_Decides e.call (d.call + 1)).0 (parts (e.call == d.call + 1) (is_placed e) p.1).0 in
        omega (arith, n)
    by_calls false true f g =
        let n : e.call ≡ d.call = (unsigned_Decides e.call d.call).0
        (parts (e.call == d.call) (not (is_making d.occurrence && has_value e.occurrence)) g).0 in
        omega (arith, n)
    by_calls false false f g = absurd cc

-- each event is at most as high as the last of its thread
abbrev AreUp : List Event → Type 0
AreUp front = (x : Event) → Contains front x → (d : Event) × (last_of x.thread front ≡ Some d) × (rank x ≤ rank d)

none_up : AreUp []
none_up x there = absurd (there_not x there)

module _ (front : List Event) (e : Event) (up : AreUp front) (next : is_next front e ≡ true) where
  -- what came before of its thread is lower
  lower : (x : Event) → Contains front x → x.thread ≡ e.thread → rank x < rank e
  lower x there is =
      let u = up x there in
      let last : last_of e.thread front ≡ Some u.0 = ap (λ t. last_of t front) (sym is) ∙ u.1 in
      let follows : may_follow (Some u.0) e ≡ true =
      ap (λ o. may_follow o e) (sym last) ∙ (parts (is_well_formed e) (may_follow (last_of e.thread front) e) next).1 in
      let r = rises u.0 e follows in
      omega (arith, u.2, r)

  up_more : AreUp (front ++ e ∷ [])
  up_more x there = by_side (Contains-append_cases front (e ∷ []) x there)
    where
      highest : x.thread ≡ e.thread → rank x ≤ rank e →
          (d : Event) × (last_of x.thread (front ++ e ∷ []) ≡ Some d) × (rank x ≤ rank d)
      highest is le = (
        e,
        last_pushed x.thread front e
            ∙ ap (λ b. if b then Some e else last_of x.thread front) ((bytes_eq-Decides e.thread x.thread).1 (sym is)),
        le,
      )

      before : Contains front x → (b : Bool) → bytes_eq e.thread x.thread ≡ b →
          (d : Event) × (last_of x.thread (front ++ e ∷ []) ≡ Some d) × (rank x ≤ rank d)
      before old true h =
          let is : x.thread ≡ e.thread = sym ((bytes_eq-Decides e.thread x.thread).0 h) in
          let lt = lower x old is in
          highest is (omega (arith, lt))
      before old false h =
          let u = up x old in (
            u.0,
            last_pushed x.thread front e ∙ ap (λ b. if b then Some e else last_of x.thread front) h ∙ u.1,
            u.2,
          )

      by_side : Contains front x ⊎ Contains (e ∷ []) x →
          (d : Event) × (last_of x.thread (front ++ e ∷ []) ≡ Some d) × (rank x ≤ rank d)
      by_side (inl old) = before old (bytes_eq e.thread x.thread) refl
      by_side (inr last) = by_last (there_cases e x [] last)
        where
          by_last : (e ≡ x) ⊎ Contains [] x →
              (d : Event) × (last_of x.thread (front ++ e ∷ []) ≡ Some d) × (rank x ≤ rank d)
          by_last (inr none) = absurd (there_not x none)
          by_last (inl is) =
              highest (ap (λ (z : Event). z.thread) (sym is)) (subst (λ (z : Event). rank z ≤ rank e) is (omega arith))

not_below : (n m : ℕ) → n < m → n ≡ m → ⊥
not_below n m lt e = absurd (omega (arith, lt, e))

-- what came before comes no more
no_more : (es front : List Event) → AreUp front → continues front es ≡ true → (x : Event) → Contains front x →
    Contains es x → ⊥
no_more [] front up h x old there = there_not x there
no_more (e ∷ es) front up h x old there =
    by_place (λ up' h' old' later. no_more es (front ++ e ∷ []) up' h' x old' later) (there_cases e x es there)
  where
    both : (is_next front e ≡ true) × (continues (front ++ e ∷ []) es ≡ true)
    both = parts (is_next front e) (continues (front ++ e ∷ []) es) h

    by_place : (AreUp (front ++ e ∷ []) → continues (front ++ e ∷ []) es ≡ true → Contains (front ++ e ∷ []) x →
        Contains es x → ⊥) → (e ≡ x) ⊎ Contains es x → ⊥
    by_place more (inl is) = not_below (rank x) (rank e)
        (lower front e up both.0 x old (ap (λ (z : Event). z.thread) (sym is))) (ap rank (sym is))
    by_place more (inr later) =
        more (up_more front e up both.0) both.1 (Contains-append_left front (e ∷ []) x old) later

get_there : (es : List Event) (i : ℕ) (x : Event) → slice_get es i ≡ Some x → Contains es x
get_there [] i x at = absurd (none at)
  where
    none : {A : Type 0} {x : A} → None ≡ Some x → ⊥
    none p = cc
get_there (e ∷ es) zero x at = subst (Contains (e ∷ es)) (some_is at) (there_first e es)
get_there (e ∷ es) (suc i) x at = there_later e x es (get_there es i x at)

not_twice : (es front : List Event) → AreUp front → continues front es ≡ true → (x : Event) (i j : ℕ) → i < j →
    slice_get es i ≡ Some x → slice_get es j ≡ Some x → ⊥
not_twice [] front up h x i j lt at there = none at
  where
    none : {A : Type 0} {x : A} → None ≡ Some x → ⊥
    none p = cc
not_twice (e ∷ es) front up h x i zero lt at there = absurd (omega (arith, lt))
not_twice (e ∷ es) front up h x zero (suc j) lt at there =
    let both = parts (is_next front e) (continues (front ++ e ∷ []) es) h in
    no_more es (front ++ e ∷ []) (up_more front e up both.0) both.1 x
    (subst (Contains (front ++ e ∷ [])) (some_is at) (Contains-push front e)) (get_there es j x there)
not_twice (e ∷ es) front up h x (suc i) (suc j) lt at there =
    let both = parts (is_next front e) (continues (front ++ e ∷ []) es) h in
    not_twice es (front ++ e ∷ []) (up_more front e up both.0) both.1 x i j (omega (arith, lt)) at there

-- ---- events of a run

named_at : (p : Program) (h : List RunEvent) (events : List Event) → map (named p) h ≡ map Some events →
    (e : RunEvent) (i : ℕ) → slice_get h i ≡ Some e → (d : Event) × (named p e ≡ Some d) × (slice_get events i ≡ Some d)
named_at p [] events is e i at = absurd (none at)
  where
    none : {A : Type 0} {x : A} → None ≡ Some x → ⊥
    none q = cc
named_at p (x ∷ h) [] is e i at = absurd (none is)
  where
    none : {A : Type 0} {y : A} {ys : List A} → y ∷ ys ≡ [] → ⊥
    none q = cc
named_at p (x ∷ h) (d ∷ events) is e zero at =
    (d, ap (named p) (sym (some_is at)) ∙ first is, refl)
  where
    first : {A : Type 0} {y z : A} {ys zs : List A} → y ∷ ys ≡ z ∷ zs → y ≡ z
    first q = cc
named_at p (x ∷ h) (d ∷ events) is e (suc i) at = named_at p h events (rest is) e i at
  where
    rest : {A : Type 0} {y z : A} {ys zs : List A} → y ∷ ys ≡ z ∷ zs → ys ≡ zs
    rest q = cc

pub readable_is_once : ReadableIsOnce
readable_is_once p h events is history e i j at there = by_order (cases_lt i j)
  where
    a : (d : Event) × (named p e ≡ Some d) × (slice_get events i ≡ Some d)
    a = named_at p h events is e i at

    b : (d : Event) × (named p e ≡ Some d) × (slice_get events j ≡ Some d)
    b = named_at p h events is e j there

    same : b.0 ≡ a.0
    same = some_is (sym b.1 ∙ a.1)

    by_rest : (j < i) ⊎ (i ≤ j) → j ≤ i → i ≡ j
    by_rest (inl less) le =
        absurd (not_twice events [] none_up history a.0 j i less (b.2 ∙ ap Some same) a.2)
    by_rest (inr more) le = omega (arith, more, le)

    by_order : (i < j) ⊎ (j ≤ i) → i ≡ j
    by_order (inl less) = absurd (not_twice events [] none_up history a.0 i j less a.2 (b.2 ∙ ap Some same))
    by_order (inr le) = by_rest (cases_lt j i) le
