-- An event that may follow has a line that may come next.
use Rattle.std.proofs.Common.{◌≡◌, ◌≢◌, ℕ, ◌+◌, ◌-◌, ◌^◌, ◌==◌, ◌&&◌, ◌||◌, ℤ, pos, negsuc, FitsSigned, true, false}
use Rattle.std.proofs.Common.{inl, inr, List, [], ◌∷◌, ◌++◌, Option, Some, None, refl, ap, ◌∙◌, arith, eq-eqb, codes}
use Rattle.std.specs.Prelude.{find, not, option_and_then, option_map, slice_get, if◌then◌else◌}
use Rattle.std.specs.Int.{w32}
use Rattle.std.specs.List.{list_all}
use Rattle.std.specs.Str.{bytes_eq}
use Rattle.std.proofs.lemmas.Bool.{and_from, cases_Bool, lt-ltb}
use Rattle.std.proofs.lemmas.List.{reverse-append}
use Rattle.std.proofs.lemmas.Slice.Eq.{bytes_eq-Decides}
use Rattle.ls_events.specs.declared.event.Event.{Event as RunEvent}
use Rattle.ls_events.specs.declared.event.Happening.{Happening}
use Rattle.ls_events.specs.declared.event.Happening.TheVariants as happenings
use Rattle.ls_events.specs.declared.value.Value.{Value}
use Rattle.ls_events.specs.declared.value.Value.TheVariants as values
use Rattle.ls_events.specs.declared.value.ValueType.TheVariants as types
use Rattle.ls_checked.specs.CheckedProgram.{ProgramCall, Making, Calling, ThreadProgram, Program}
use Rattle.ls_lexer.specs.Names.{is_name}
use Rattle.ls_preservation.specs.Sorts.{Returns}
use Rattle.ls_preservation.proofs.Lists.{get_there, get_within}
use Rattle.ls_report.specs.Events.{Event, Occurrence, Returned, Text}
use Rattle.ls_report.specs.Discipline.{has_names, has_value, is_call, is_making, is_next, is_placed, is_shown}
use Rattle.ls_report.specs.Discipline.{is_well_formed, last_of, may_follow}
use Rattle.ls_report.specs.Printing.{called as call_made, event_of, named, object_name, occurrence_of}
use Rattle.ls_text_laws.proofs.Follows as follows
use Rattle.ls_text_laws.proofs.Follows.{Follows, called, returned, trapped}
use Rattle.ls_text_laws.proofs.Names.{AreNames, AreProgramNames}

-- ---- values that are shown

-- an int of 32 bits has a line
pub int_shown : (z : ℤ) → FitsSigned w32 z → is_shown (values.Int z) ≡ true
int_shown (pos n) h = lt-ltb n (2 ^ 31) (omega (arith, h))
int_shown (negsuc n) h = lt-ltb n (2 ^ 31) (omega (arith, h))

-- what a call returns is shown
pub returns_shown : (c : ProgramCall) (v : Option Value) → Returns (Some c) v → has_names (Returned v) ≡ true
returns_shown c None h = refl
returns_shown (Making n class text vs) (Some v) h = absurd h
returns_shown (Calling n m text None vs) (Some v) h = absurd h
returns_shown (Calling n m text (Some types.Int) vs) (Some (values.Int z)) h = int_shown z h
returns_shown (Calling n m text (Some types.Int) vs) (Some (values.Boolean b)) h = absurd h
returns_shown (Calling n m text (Some types.Int) vs) (Some (values.Reference r)) h = absurd h
returns_shown (Calling n m text (Some types.Int) vs) (Some (values.Pair r b)) h = absurd h
returns_shown (Calling n m text (Some types.Boolean) vs) (Some (values.Boolean b)) h = refl
returns_shown (Calling n m text (Some types.Boolean) vs) (Some (values.Int z)) h = absurd h
returns_shown (Calling n m text (Some types.Boolean) vs) (Some (values.Reference r)) h = absurd h
returns_shown (Calling n m text (Some types.Boolean) vs) (Some (values.Pair r b)) h = absurd h
returns_shown (Calling n m text (Some _) vs) (Some v) h = absurd h

-- the arguments of a call are these values
abbrev pub values_in : ProgramCall → List Value
values_in (Making n class text vs) = vs
values_in (Calling n m text result vs) = vs

-- ---- the last event of a thread

-- the last event of a thread after one more event
pub last_pushed : (name : Text) (front : List Event) (e : Event) →
    last_of name (front ++ e ∷ []) ≡ (if bytes_eq e.thread name then Some e else last_of name front)
last_pushed name front e = ap (find (λ d. bytes_eq d.thread name)) (reverse-append front (e ∷ []))

-- equal names compare as equal
pub same_name : (a b : Text) → a ≡ b → bytes_eq a b ≡ true
same_name a b e = (bytes_eq-Decides a b).1 e

-- different names compare as different
pub other_name : (a b : Text) → a ≢ b → bytes_eq a b ≡ false
other_name a b ne = elim (cases_Bool (bytes_eq a b)) [ inl e ↦ absurd (ne ((bytes_eq-Decides a b).0 e)) | inr e ↦ e ]

-- ---- events of a program's calls

module _ (p : Program) where
  -- its thread and its call are there
  pub record IsOf (e : RunEvent) (t : ThreadProgram) (c : ProgramCall) : Type 0 where
    pub thread : slice_get p.threads e.thread ≡ Some t
    pub call : slice_get t.calls (e.call - 1) ≡ Some c

  -- the event of a call, with its names
  pub named_is : (e : RunEvent) (t : ThreadProgram) (c : ProgramCall) → IsOf e t c → named p e ≡ Some (event_of p t e c)
  named_is e t c h = ap (option_and_then (λ u. option_map (event_of p u e) (slice_get u.calls (e.call - 1)))) h.thread ∙
      ap (option_map (event_of p t e)) h.call

  -- what an event returns is what its call returns
  abbrev pub IsFor : ProgramCall → Happening → Type 0
  IsFor c (happenings.Returned v) = Returns (Some c) v
  IsFor c happenings.Called = Unit {0}
  IsFor c (happenings.Trapped k) = Unit {0}

  module _ (names : AreProgramNames p) (shown : (i j : ℕ) (t : ThreadProgram) (c : ProgramCall) →
      slice_get p.threads i ≡ Some t → slice_get t.calls j ≡ Some c → list_all is_shown (values_in c) ≡ true) where
    call_has : (c : ProgramCall) →
        AreNames p.names c →
        list_all is_shown (values_in c) ≡ true →
        has_names (call_made p c) ≡ true
    call_has (Making n class text vs) h s = and_from (is_name (object_name p n)) (is_name text && list_all is_shown vs)
        h.0 (and_from (is_name text) (list_all is_shown vs) h.1 s)
    call_has (Calling n m text result vs) h s = and_from (is_name (object_name p n))
        (is_name text && list_all is_shown vs) h.0 (and_from (is_name text) (list_all is_shown vs) h.1 s)

    occurrence_has : (e : RunEvent) (t : ThreadProgram) (c : ProgramCall) →
        IsOf e t c →
        (w : Happening) →
        IsFor c w →
        has_names (occurrence_of p c w) ≡ true
    occurrence_has e t c h happenings.Called r = call_has c (names.calls e.thread (e.call - 1) t c h.thread h.call)
        (shown e.thread (e.call - 1) t c h.thread h.call)
    occurrence_has e t c h (happenings.Returned v) r = returns_shown c v r
    occurrence_has e t c h (happenings.Trapped k) r = refl

    well : (e : RunEvent) (t : ThreadProgram) (c : ProgramCall) →
        IsOf e t c →
        IsFor c e.happening →
        is_well_formed (event_of p t e c) ≡ true
    well e t c h r =
        and_from (is_name t.name) (not (bytes_eq t.name (codes "all")) && has_names (occurrence_of p c e.happening))
        (names.formed e.thread t h.thread)
        (and_from (not (bytes_eq t.name (codes "all"))) (has_names (occurrence_of p c e.happening))
        (ap not (other_name t.name (codes "all") (names.not_all e.thread t h.thread)))
        (occurrence_has e t c h e.happening r))

    -- makings are the setup's
    placed : (e : RunEvent) (t : ThreadProgram) (c : ProgramCall) →
        IsOf e t c →
        (not (is_making (call_made p c)) || bytes_eq t.name (codes "setup")) ≡ true
    placed e t (Making n class text vs) h = same_name t.name (codes "setup")
        (names.setup e.thread (e.call - 1) n class t text vs h.thread h.call)
    placed e t (Calling n m text result vs) h = refl

    is_same : (n : ℕ) → (n == n) ≡ true
    is_same n = eq-eqb n n refl

    calls : (c : ProgramCall) → is_call (call_made p c) ≡ true
    calls (Making n class text vs) = refl
    calls (Calling n m text result vs) = refl

    -- a return or a trap of an open call
    ends : (n : ℕ) (c : ProgramCall) (o : Occurrence) →
        (is_making (call_made p c) ≡ true → has_value o ≡ false) →
        (is_call (call_made p c) && ((n == n) && not (is_making (call_made p c) && has_value o))) ≡ true
    ends n (Making m class text vs) o f = and_from (n == n) (not (has_value o)) (is_same n) (ap not (f refl))
    ends n (Calling m k text result vs) o f = and_from (n == n) true (is_same n) refl

    no_value : (c : ProgramCall) (v : Option Value) →
        Returns (Some c) v →
        is_making (call_made p c) ≡ true →
        has_value (Returned v) ≡ false
    no_value c None h e = refl
    no_value (Making n class text vs) (Some v) h e = absurd h
    no_value (Calling n m text result vs) (Some v) h e = let f : ⊥ = cc in absurd f

    follows_on : (i : ℕ) (d : Option RunEvent) (e : RunEvent) (t : ThreadProgram) (c : ProgramCall) →
        Follows i d e →
        IsOf e t c →
        IsFor c e.happening →
        may_follow (option_and_then (named p) d) (event_of p t e c) ≡ true
    follows_on i d e t c follows.First h r =
        and_from (is_call (call_made p c)) _ (calls c) (placed e t c h)
    follows_on i d e t c (follows.Next n v) h r =
        let within = get_within t.calls (n + 1 - 1) c h.call in
        let before = get_there t.calls (n - 1) (omega (arith, within)) in
        let last : named p (returned i n v) ≡ Some (event_of p t (returned i n v) before.0) = named_is (returned i n v)
        t before.0 (record { thread = h.thread; call = before.1 }) in
        ap (λ o. may_follow o (event_of p t e c)) last
        ∙ ap (λ b. if b then ((n + 1 == n + 1) && is_placed (event_of p t e c)) else
        (false && ((n + 1 == n) && not (false && has_value (call_made p c))))) (calls c)
        ∙ and_from (n + 1 == n + 1) (is_placed (event_of p t e c)) (is_same (n + 1)) (placed e t c h)
    follows_on i d e t c (follows.Gives n v) h r =
        let last : named p (called i n) ≡ Some (event_of p t (called i n) c) = named_is (called i n) t c
        (record { thread = h.thread; call = h.call }) in
        ap (λ o. may_follow o (event_of p t e c)) last ∙ ends n c (Returned v) (no_value c v r)
    follows_on i d e t c (follows.Fails n k) h r =
        let last : named p (called i n) ≡ Some (event_of p t (called i n) c) = named_is (called i n) t c
        (record { thread = h.thread; call = h.call }) in
        ap (λ o. may_follow o (event_of p t e c)) last ∙ ends n c (occurrence_of p c (happenings.Trapped k)) (λ q. refl)

    -- the event's line may come next
    pub comes_next : (i : ℕ) (front : List Event) (d : Option RunEvent) (e : RunEvent) (t : ThreadProgram)
        (c : ProgramCall) →
        Follows i d e →
        IsOf e t c →
        IsFor c e.happening
        → last_of t.name front ≡ option_and_then (named p) d → is_next front (event_of p t e c) ≡ true
    comes_next i front d e t c f h r last =
        and_from (is_well_formed (event_of p t e c)) (may_follow (last_of t.name front) (event_of p t e c))
        (well e t c h r)
        (ap (λ o. may_follow o (event_of p t e c)) last ∙ follows_on i d e t c f h r)
