-- The calls of a history have texts of their own.
use Rattle.std.proofs.Common.{◌≡◌, ◌∙◌, ◌&&◌, ◌==◌, ◌⊎◌, ◌+◌, ◌<◌, ◌≤◌, ◌^◌, inl, inr, ℕ, zero, suc, Bool, true, false}
use Rattle.std.proofs.Common.{cond, List, [], ◌∷◌, ◌++◌, length, take, Option, Some, None, refl, sym, ap, subst}
use Rattle.std.proofs.Common.{append_assoc, append-nil, arith, eqb-true, ltb-true, ltb-false}
use Rattle.std.specs.Prelude.{codes, find, slice_get, not, nat_lt}
use Rattle.std.specs.Fmt.{decimal}
use Rattle.std.specs.Option.{option_map_or}
use Rattle.std.specs.Str.{bytes_eq}
use Rattle.std.proofs.lemmas.Bool.{and_from, and_parts, true≢false}
use Rattle.std.proofs.lemmas.Fmt.{decimal_injective}
use Rattle.std.proofs.lemmas.List.{reverse-append}
use Rattle.std.proofs.lemmas.Option.{slice_get_within}
use Rattle.std.proofs.lemmas.Slice.Eq.{bytes_eq-Decides}
use Rattle.ls_lexer.specs.Names.{is_name}
use Rattle.ls_report.specs.Cut.{cut}
use Rattle.ls_report.specs.Discipline.{continues, has_names, has_value, is_call, is_history, is_making, is_next}
use Rattle.ls_report.specs.Discipline.{is_placed, is_return, is_well_formed, last_of, may_follow}
use Rattle.ls_report.specs.Events as events
use Rattle.ls_report.specs.Events.{Event, Occurrence, Text}
use Rattle.ls_report.proofs.CutLemmas.{cut_at, first_of_two, second_of_two, two, without}
use Rattle.ls_report.proofs.Histories.{call_bound}
use Rattle.ls_report.proofs.Parts.{lacks-name}
use Rattle.ls_orders.specs.declared.calls.SetCall.{SetCall}
use Rattle.ls_orders.specs.Rules.{named_by}
use Rattle.ls_orders.specs.SetCalls.{Asked, asked_of, call_named, calls_from, end_of, name_at, name_of, set_calls}
use Rattle.ls_orders.specs.SetCalls.{with_asked}
use Rattle.ls_order_search.specs.Plans.{Among}
use Rattle.ls_order_search.specs.Search.{Calls}
use Rattle.ls_order_search.proofs.Legality.{calls_rising, distinct_rising}
use Rattle.ls_order_search.proofs.Lists.{distinct_same}

-- ---- events at their places

-- an event of a beginning
pub get_front : (xs : List Event) (j i : ℕ) (x : Event) →
    i < j →
    slice_get xs i ≡ Some x →
    slice_get (take j xs) i ≡ Some x
get_front [] j i x lt e = absurd cc
get_front (y ∷ ys) zero i x lt e = absurd (omega arith)
get_front (y ∷ ys) (suc j) zero x lt e = e
get_front (y ∷ ys) (suc j) (suc i) x lt e = get_front ys j i x (omega arith) e

get_last : (xs : List Event) (a b : Event) (j : ℕ) →
    slice_get (xs ++ a ∷ []) j ≡ Some b →
    (slice_get xs j ≡ Some b) ⊎ (a ≡ b)
get_last [] a b zero e = inr cc
get_last [] a b (suc j) e = absurd cc
get_last (x ∷ xs) a b zero e = inl e
get_last (x ∷ xs) a b (suc j) e = get_last xs a b j e

get_seam : (xs : List Event) (x : Event) (ys : List Event) → slice_get (xs ++ x ∷ ys) (length xs) ≡ Some x
get_seam [] x ys = refl
get_seam (y ∷ xs) x ys = get_seam xs x ys

-- ---- beginnings of histories are histories

continues_front : (front es : List Event) (k : ℕ) → continues front es ≡ true → continues front (take k es) ≡ true
continues_front front es zero h = refl
continues_front front [] (suc k) h = refl
continues_front front (e ∷ es) (suc k) h =
    let p = and_parts (is_next front e) (continues (front ++ e ∷ []) es) h in
    and_from (is_next front e) (continues (front ++ e ∷ []) (take k es)) p.0
    (continues_front (front ++ e ∷ []) es k p.1)

-- a beginning of a history is a history
pub history_front : (h : List Event) (k : ℕ) → is_history h ≡ true → is_history (take k h) ≡ true
history_front h k is = continues_front [] h k is

-- the event of a place may come after those before it
next_at : (front es : List Event) (j : ℕ) (e : Event) →
    continues front es ≡ true →
    slice_get es j ≡ Some e →
    is_next (front ++ take j es) e ≡ true
next_at front [] j e h at = absurd cc
next_at front (d ∷ es) zero e h at =
    let p = and_parts (is_next front d) (continues (front ++ d ∷ []) es) h in
    let same : d ≡ e = cc in
    subst (λ x. is_next (front ++ []) x ≡ true) same (subst (λ l. is_next l d ≡ true) (sym (append-nil front)) p.0)
next_at front (d ∷ es) (suc j) e h at =
    let p = and_parts (is_next front d) (continues (front ++ d ∷ []) es) h in
    subst (λ l. is_next l e ≡ true) (append_assoc front (d ∷ []) (take j es)) (next_at (front ++ d ∷ []) es j e p.1 at)

-- each event of a history is well formed
pub well_formed_at : (h : List Event) (j : ℕ) (e : Event) →
    is_history h ≡ true →
    slice_get h j ≡ Some e →
    is_well_formed e ≡ true
well_formed_at h j e is at = (and_parts (is_well_formed e) (may_follow (last_of e.thread (take j h)) e)
    (next_at [] h j e is at)).0

length_front : (h : List Event) (j : ℕ) → length (take j h) ≤ j
length_front h zero = omega arith
length_front [] (suc j) = omega arith
length_front (e ∷ h) (suc j) = let le = length_front h j in omega arith

-- the number of an event's call is at most the number of events
pub number_at : (h : List Event) (j : ℕ) (e : Event) → is_history h ≡ true → slice_get h j ≡ Some e → e.call ≤ length h
number_at h j e is at =
    let within = slice_get_within h j e at in
    let front = length_front h j in
    let bound = call_bound (take j h) e (history_front h j is) (next_at [] h j e is at) in
    omega arith

-- ---- the numbers of a thread's calls rise

after_return : (d e : Event) →
    (is_return d.occurrence && (e.call == d.call + 1 && is_placed e)) ≡ true →
    e.call ≡ d.call + 1
after_return d e k =
    let p = and_parts (is_return d.occurrence) (e.call == d.call + 1 && is_placed e) k in
    eqb-true e.call (d.call + 1) (and_parts (e.call == d.call + 1) (is_placed e) p.1).0

after_call : (d e : Event) →
    (is_call d.occurrence && (e.call == d.call && not (is_making d.occurrence && has_value e.occurrence))) ≡ true →
    e.call ≡ d.call
after_call d e k =
    let p = and_parts (is_call d.occurrence) (e.call == d.call && not
    (is_making d.occurrence && has_value e.occurrence)) k in
    eqb-true e.call d.call (and_parts (e.call == d.call) (not (is_making d.occurrence && has_value e.occurrence)) p.1).0

abbrev follows_by : Event → Event → Bool → Bool
follows_by d e b = cond b (is_return d.occurrence && (e.call == d.call + 1 && is_placed e))
    (is_call d.occurrence && (e.call == d.call && not (is_making d.occurrence && has_value e.occurrence)))

no_less : (d e : Event) → may_follow (Some d) e ≡ true → d.call ≤ e.call
no_less d e h = go (is_call e.occurrence) h
  where
    go : (b : Bool) → follows_by d e b ≡ true → d.call ≤ e.call
    go true k = let same = after_return d e k in omega arith
    go false k = let same = after_call d e k in omega arith

greater : (d e : Event) → is_call e.occurrence ≡ true → may_follow (Some d) e ≡ true → d.call < e.call
greater d e c h = let same = after_return d e (subst (λ b. follows_by d e b ≡ true) c h) in omega arith

-- a call's number is 1 at least
pub some_number : (o : Option Event) (e : Event) → is_call e.occurrence ≡ true → may_follow o e ≡ true → 0 < e.call
some_number None e c h =
    let p = and_parts (is_call e.occurrence) (e.call == 1 && is_placed e) h in
    let one = eqb-true e.call 1 (and_parts (e.call == 1) (is_placed e) p.1).0 in
    omega arith
some_number (Some d) e c h = let lt = greater d e c h in omega arith

-- the number of a call is over 0
pub numbered_at : (h : List Event) (j : ℕ) (e : Event) →
    is_history h ≡ true →
    slice_get h j ≡ Some e →
    is_call e.occurrence ≡ true →
    0 < e.call
numbered_at h j e is at c =
    some_number (last_of e.thread (take j h)) e c (and_parts (is_well_formed e)
    (may_follow (last_of e.thread (take j h)) e) (next_at [] h j e is at)).1

-- the last event of a thread has the greatest number
abbrev Below : List Event → Event → Type 0
Below front f = (d : Event) × (last_of f.thread front ≡ Some d) × (f.call ≤ d.call)

abbrev Top : List Event → Type 0
Top front = (i : ℕ) (f : Event) → slice_get front i ≡ Some f → Below front f

last_more : (name : Text) (front : List Event) (e : Event) →
    last_of name (front ++ e ∷ []) ≡ cond (bytes_eq e.thread name) (Some e) (last_of name front)
last_more name front e = ap (find (λ d. bytes_eq d.thread name)) (reverse-append front (e ∷ []))

module _ (front : List Event) (e : Event) (top : Top front) (next : is_next front e ≡ true) where
  follows : may_follow (last_of e.thread front) e ≡ true
  follows = (and_parts (is_well_formed e) (may_follow (last_of e.thread front) e) next).1

  below_it : Below (front ++ e ∷ []) e
  below_it = (
    e,
    last_more e.thread front e ∙ ap (λ b. cond b (Some e) (last_of e.thread front))
        ((bytes_eq-Decides e.thread e.thread).1 refl),
    omega arith,
  )

  below_old : (f : Event) (b : Bool) → bytes_eq e.thread f.thread ≡ b → Below front f → Below (front ++ e ∷ []) f
  below_old f true same t =
      let is : e.thread ≡ f.thread = (bytes_eq-Decides e.thread f.thread).0 same in
      let le = no_less t.0 e (subst (λ o. may_follow o e ≡ true) (ap (λ n. last_of n front) is ∙ t.1) follows) in
      let low = t.2 in
      (e, last_more f.thread front e ∙ ap (λ b. cond b (Some e) (last_of f.thread front)) same, omega arith)
  below_old f false other t = (
    t.0,
    last_more f.thread front e ∙
        ap (λ b. cond b (Some e) (last_of f.thread front)) other ∙ t.1,
    t.2,
  )

  top_more : Top (front ++ e ∷ [])
  top_more i f at = go (get_last front e f i at)
    where
      go : (slice_get front i ≡ Some f) ⊎ (e ≡ f) → Below (front ++ e ∷ []) f
      go (inl was) = below_old f (bytes_eq e.thread f.thread) refl (top i f was)
      go (inr same) = subst (Below (front ++ e ∷ [])) same below_it

top_none : Top []
top_none i f at = absurd cc

top_all : (front es : List Event) → Top front → continues front es ≡ true → Top (front ++ es)
top_all front [] top h = subst Top (sym (append-nil front)) top
top_all front (e ∷ es) top h =
    let p = and_parts (is_next front e) (continues (front ++ e ∷ []) es) h in
    subst Top (append_assoc front (e ∷ []) es) (top_all (front ++ e ∷ []) es (top_more front e top p.0) p.1)

-- a call's number is greater than that of each earlier event of its thread
rises : (h : List Event) (i j : ℕ) (f e : Event) →
    is_history h ≡ true →
    i < j →
    slice_get h i ≡ Some f →
    slice_get h j ≡ Some e →
    is_call e.occurrence ≡ true →
    f.thread ≡ e.thread →
    f.call < e.call
rises h i j f e is lt at_i at_j call same =
    let t = top_all [] (take j h) top_none (history_front h j is) i f (get_front h j i f lt at_i) in
    let may = (and_parts (is_well_formed e) (may_follow (last_of e.thread (take j h)) e) (next_at [] h j e is at_j)).1
    in
    let more = greater t.0 e call (subst (λ o. may_follow o e ≡ true) (ap (λ n. last_of n (take j h)) (sym same) ∙ t.1)
    may) in
    let low = t.2 in
    omega arith

-- ---- their texts

-- a well formed event's thread has a name
pub name_is : (e : Event) → is_well_formed e ≡ true → is_name e.thread ≡ true
name_is e w = (and_parts (is_name e.thread) (not (bytes_eq e.thread (codes "all")) && has_names e.occurrence) w).0

-- the text of a call is cut at its point
pub name_cut : (e : Event) → is_name e.thread ≡ true → cut 46 (name_of e) ≡ two e.thread (decimal e.call)
name_cut e n = cut_at 46 e.thread (decimal e.call) (without 46 e.thread (lacks-name 46 e.thread refl n))

same_names : (f e : Event) →
    is_name f.thread ≡ true →
    is_name e.thread ≡ true →
    f.call < 2 ^ 64 →
    e.call < 2 ^ 64 →
    name_of f ≡ name_of e →
    (f.thread ≡ e.thread) × (f.call ≡ e.call)
same_names f e n m a b same =
    let k : two f.thread (decimal f.call) ≡ two e.thread (decimal e.call) = sym (name_cut f n) ∙ ap (cut 46) same ∙
    name_cut e m in
    (first_of_two _ _ _ _ k, decimal_injective f.call e.call a b (second_of_two _ _ _ _ k))

module _ (h : List Event) (is : is_history h ≡ true) (small : length h < 2 ^ 64) where
  -- two calls have one text only at one place
  one_place : (i j : ℕ) (f e : Event) →
      slice_get h i ≡ Some f →
      slice_get h j ≡ Some e →
      is_call f.occurrence ≡ true →
      is_call e.occurrence ≡ true →
      name_of f ≡ name_of e →
      i ≡ j
  one_place i j f e at_i at_j cf ce same = go (nat_lt i j) (nat_lt j i) refl refl
    where
      both : (f.thread ≡ e.thread) × (f.call ≡ e.call)
      both =
          let low_f = number_at h i f is at_i in
          let low_e = number_at h j e is at_j in
          same_names f e (name_is f (well_formed_at h i f is at_i)) (name_is e (well_formed_at h j e is at_j))
          (omega arith) (omega arith) same

      go : (a b : Bool) → nat_lt i j ≡ a → nat_lt j i ≡ b → i ≡ j
      go true b lt k = let less = rises h i j f e is (ltb-true i j lt) at_i at_j ce both.0 in let equal = both.1 in
          absurd (omega arith)
      go false true lt k = let less = rises h j i e f is (ltb-true j i k) at_j at_i cf (sym both.0) in
          let equal = both.1 in absurd (omega arith)
      go false false lt k = let x = ltb-false i j lt in let y = ltb-false j i k in omega arith

-- ---- a set call is called by an event at its place

asked_call : (o : Occurrence) (q : Asked) → asked_of o ≡ Some q → is_call o ≡ true
asked_call (events.Made a b c) q e = absurd cc
asked_call (events.Called a b c) q e = refl
asked_call (events.Returned v) q e = absurd cc
asked_call (events.Trapped k) q e = absurd cc

abbrev CalledAt : List Event → ℕ → Type 0
CalledAt h at = (e : Event) × (slice_get h at ≡ Some e) × (is_call e.occurrence ≡ true)

longer : (xs : List Event) (x : Event) (n : ℕ) → n ≡ length xs → n + 1 ≡ length (xs ++ x ∷ [])
longer [] x n k = omega arith
longer (y ∷ xs) x zero k = absurd (omega arith)
longer (y ∷ xs) x (suc n) k = let more = longer xs x n (omega arith) in omega arith

called_from : (at : ℕ) (front es : List Event) (c : SetCall) →
    at ≡ length front →
    Among c (calls_from at es) →
    CalledAt (front ++ es) c.called
called_from at front [] c len a = absurd a
called_from at front (e ∷ es) c len a =
    go (λ b. subst (λ l. CalledAt l c.called) (append_assoc front (e ∷ []) es)
    (called_from (at + 1) (front ++ e ∷ []) es c (longer front e at len) b)) (asked_of e.occurrence) refl a
  where
    go : (Among c (calls_from (at + 1) es) → CalledAt (front ++ e ∷ es) c.called) →
        (o : Option Asked) →
        asked_of e.occurrence ≡ o
        → Among c (with_asked o at (end_of e.thread e.call (at + 1) es) (calls_from (at + 1) es)) →
        CalledAt (front ++ e ∷ es) c.called
    go later None k b = later b
    go later (Some q) k (inl i) =
        let place : length front ≡ c.called = sym len ∙ ap (λ (d : SetCall). d.called) i in
        (e, ap (slice_get (front ++ e ∷ es)) (sym place) ∙ get_seam front e es, asked_call e.occurrence q k)
    go later (Some q) k (inr b) = later b

-- each set call has its call event in the history
pub called_at : (h : List Event) (c : SetCall) → Among c (set_calls h) → CalledAt h c.called
called_at h c a = called_from 0 [] h c refl a

-- ---- and found by its text

find_only : (p : SetCall → Bool) (xs : Calls) (c : SetCall) →
    Among c xs →
    p c ≡ true →
    ((d : SetCall) → Among d xs → p d ≡ true → d ≡ c) →
    find p xs ≡ Some c
find_only p [] c a e only = absurd a
find_only p (x ∷ xs) c a e only = go (p x) refl a (λ b. find_only p xs c b e (λ d q. only d (inr q)))
  where
    go : (b : Bool) →
        p x ≡ b →
        Among c (x ∷ xs) →
        (Among c xs → find p xs ≡ Some c) →
        cond (p x) (Some x) (find p xs) ≡ Some c
    go true k there later = ap (λ t. cond t (Some x) (find p xs)) k ∙ ap (λ (d : SetCall). Some d) (only x (inl refl) k)
    go false k (inl i) later = absurd (true≢false (sym e ∙ ap p (sym i) ∙ k))
    go false k (inr b) later = ap (λ t. cond t (Some x) (find p xs)) k ∙ later b

-- the text of a set call is that of its call event
pub name_of_call : (h : List Event) (c : SetCall) (e : Event) → slice_get h c.called ≡ Some e → named_by h c ≡ name_of e
name_of_call h c e at = ap (λ o. option_map_or name_of o []) at

-- each set call is found by its text
pub found_by_name : (h : List Event) →
    is_history h ≡ true →
    length h < 2 ^ 64 →
    (c : SetCall) →
    Among c (set_calls h) →
    call_named h (set_calls h) (named_by h c) ≡ Some c
found_by_name h is small c a =
    find_only (λ d. bytes_eq (named_by h c) (name_at h d.called)) (set_calls h) c a
    ((bytes_eq-Decides (named_by h c) (name_at h c.called)).1 refl) only
  where
    only : (d : SetCall) → Among d (set_calls h) → bytes_eq (named_by h c) (name_at h d.called) ≡ true → d ≡ c
    only d b k =
        let x = called_at h c a in
        let y = called_at h d b in
        let same : name_of x.0 ≡ name_of y.0 = sym (name_of_call h c x.0 x.1) ∙
        (bytes_eq-Decides (named_by h c) (name_at h d.called)).0 k ∙ name_of_call h d y.0 y.1 in
        distinct_same (set_calls h) d c (distinct_rising (set_calls h) (calls_rising 0 h)) b a
        (sym (one_place h is small c.called d.called x.0 y.0 x.1 y.1 x.2 y.2 same))
