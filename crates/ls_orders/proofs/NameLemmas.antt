-- Set calls by their texts: places by names of threads and numbers.
use Rattle.std.proofs.Common.{◌≡◌, ◌∙◌, ◌&&◌, ◌==◌, ◌+◌, ◌-◌, ◌<◌, ◌≤◌, ◌^◌, ℕ, zero, suc, Bool, true, false, cond}
use Rattle.std.proofs.Common.{List, [], ◌∷◌, ◌++◌, length, length-append, map, take, drop, take-append-drop, get_or}
use Rattle.std.proofs.Common.{set, Option, Some, None}
use Rattle.std.proofs.Common.{refl, sym, ap, ap₂, arith, eqb-true, Bor}
use Rattle.std.specs.Prelude.{option_map, slice_get}
use Rattle.std.specs.Fmt.{decimal}
use Rattle.std.specs.Map.{update}
use Rattle.std.specs.Option.{option_map_or}
use Rattle.std.specs.Str.{bytes_eq}
use Rattle.std.specs.Str.Pattern.{RFindsChar, SplitsAroundMatch}
use Rattle.std.specs.Option.{MatchOption}
use Rattle.std.specs.Global.{Vec}
use Rattle.std.proofs.lemmas.Bool.{eqb-false, false_from_ne_true, true≢false}
use Rattle.std.proofs.lemmas.Fmt.{decimal_injective}
use Rattle.std.proofs.lemmas.List.{get_or-set_same, get_or-set_other, length-map}
use Rattle.std.proofs.lemmas.Option.{slice_get-get_or, slice_get-map}
use Rattle.std.proofs.lemmas.Slice.Eq.{bytes_eq-Decides}
use Rattle.std.proofs.lemmas.Str.Pattern.{NoCharPasses-char, drop_at_char}
use Rattle.ls_report.specs.Events.{Event, Text}
use Rattle.ls_report.specs.Lines.{call_text}
use Rattle.ls_report.specs.Plain.{plain_event}
use Rattle.ls_report.specs.declared.history.NamedEvent.{NamedEvent}
use Rattle.ls_report.proofs.CutLemmas.{Without, lacks-decimal, without}
use Rattle.ls_orders.specs.declared.calls.SetCall.{SetCall}
use Rattle.ls_orders.specs.Names.{IsNamed, Places, numbered, place_of, placed}
use Rattle.ls_orders.specs.SetCalls.{Asked, asked_of, call_named, calls_from, end_of, name_at, name_of, set_calls}
use Rattle.ls_orders.specs.SetCalls.{with_asked}
use Rattle.ls_orders.proofs.NamingLemmas.{call_at, found_before}
use Rattle.ls_orders.proofs.RuleLemmas.{no_call}

-- ---- places by numbers

-- one more number without a place
pub one_more : (places : List ℕ) (k : ℕ) → numbered (places ++ 0 ∷ []) k ≡ numbered places k
one_more [] zero = refl
one_more [] (suc k) = refl
one_more (p ∷ ps) zero = refl
one_more (p ∷ ps) (suc k) = one_more ps k

-- a place is put at a number
pub one_put : (places : List ℕ) (number place k : ℕ) →
    number < length places →
    numbered (set places number place) k ≡ cond (number == k) place (numbered places k)
one_put places number place k lt = go (number == k) refl
  where
    go : (b : Bool) → (number == k) ≡ b → numbered (set places number place) k ≡ cond b place (numbered places k)
    go true e = ap (numbered (set places number place)) (sym (eqb-true number k e)) ∙
        get_or-set_same places number place 0 lt
    go false e = get_or-set_other places number k place 0 (λ same. eqb-false number k e (sym same))

-- ---- places by names

abbrev pub Kept : Type 0
Kept = Text → Option (Vec ℕ)

abbrev pub kept_place : Kept → Text → ℕ → ℕ
kept_place f thread number = option_map_or (λ v. numbered v.items number) (f thread) 0

-- the places of one thread are changed at one number
pub put_in : (f g : Kept) (thread : Text) (w : Vec ℕ) (number place : ℕ)
    → ((k : ℕ) → numbered w.items k ≡ cond (number == k) place (kept_place f thread k))
    → ((q : Text) → g q ≡ update bytes_eq f thread (Some w) q)
    → (t : Text) (n : ℕ) → kept_place g t n ≡ cond (bytes_eq thread t && number == n) place (kept_place f t n)
put_in f g thread w number place items u t n =
    ap (λ o. option_map_or (λ v. numbered v.items n) o 0) (u t) ∙ go (bytes_eq thread t) refl
  where
    go : (b : Bool) →
        bytes_eq thread t ≡ b →
        option_map_or (λ v. numbered v.items n) (cond b (Some w) (f t)) 0 ≡ cond (b && number == n) place
        (kept_place f t n)
    go true e = items n ∙ ap (λ s. cond (number == n) place (kept_place f s n)) ((bytes_eq-Decides thread t).0 e)
    go false e = refl

-- ---- texts of calls

at_seam : (b : ℕ) (xs ys : Text) → get_or (xs ++ b ∷ ys) (length xs) 0 ≡ b
at_seam b [] ys = refl
at_seam b (x ∷ xs) ys = at_seam b xs ys

has_seam : (b : ℕ) (xs ys zs : Text) → Without b zs → zs ≡ xs ++ b ∷ ys → ⊥
has_seam b xs ys zs w e =
    w (length xs) (omega (arith, ap length e, length-append xs (b ∷ ys)))
    (ap (λ l. get_or l (length xs) 0) e ∙ at_seam b xs ys)

-- a text is parted at its last such byte in one way
last_point : (b : ℕ) (xs ys ps qs : Text) →
    Without b ps →
    Without b qs →
    xs ++ b ∷ ps ≡ ys ++ b ∷ qs →
    (xs ≡ ys) × (ps ≡ qs)
last_point b [] [] ps qs u v e = (refl, cc)
last_point b [] (y ∷ ys) ps qs u v e = absurd (has_seam b ys qs ps u cc)
last_point b (x ∷ xs) [] ps qs u v e = absurd (has_seam b xs ps qs v cc)
last_point b (x ∷ xs) (y ∷ ys) ps qs u v e =
    let first : x ≡ y = cc in
    let p = last_point b xs ys ps qs u v cc in
    (ap₂ (λ a l. a ∷ l) first p.0, p.1)

no_point : (n : ℕ) → n < 2 ^ 64 → Without 46 (decimal n)
no_point n lt = without 46 (decimal n) (lacks-decimal 46 n (λ m small same. omega arith) lt)

same_call : (t u : Text) (m n : ℕ) →
    m < 2 ^ 64 →
    n < 2 ^ 64 →
    call_text t m ≡ call_text u n →
    (t ≡ u) × (m ≡ n)
same_call t u m n a b e =
    let p = last_point 46 t u (decimal m) (decimal n) (no_point m a) (no_point n b) e in
    (p.0, decimal_injective m n a b p.1)

call_test : (t u : Text) (n m : ℕ) →
    n < 2 ^ 64 →
    m < 2 ^ 64 →
    bytes_eq (call_text t n) (call_text u m) ≡ (bytes_eq u t && m == n)
call_test t u n m a b = go (bytes_eq u t) (m == n) refl refl
  where
    same : bytes_eq (call_text t n) (call_text u m) ≡ true → (t ≡ u) × (n ≡ m)
    same e = same_call t u n m a b ((bytes_eq-Decides (call_text t n) (call_text u m)).0 e)

    go : (x y : Bool) → bytes_eq u t ≡ x → (m == n) ≡ y → bytes_eq (call_text t n) (call_text u m) ≡ (x && y)
    go true true p q =
        (bytes_eq-Decides (call_text t n) (call_text u m)).1
        (ap₂ call_text (sym ((bytes_eq-Decides u t).0 p)) (sym (eqb-true m n q)))
    go true false p q = false_from_ne_true _ (λ e. eqb-false m n q (sym (same e).1))
    go false y p q = false_from_ne_true _ (λ e. true≢false (sym ((bytes_eq-Decides u t).1 (sym (same e).0)) ∙ p))

-- what std's `rsplit_once` gives
pub last_cut : (bs : Text) (r : Option (Bor (List ℕ) × Bor (List ℕ)))
    → MatchOption r (RFindsChar 46 bs None) (λ x. SplitsAroundMatch (RFindsChar 46) bs x.0.now x.1.now)
    → MatchOption r (Without 46 bs) (λ x. (bs ≡ x.0.now ++ 46 ∷ x.1.now) × Without 46 x.1.now)
last_cut bs None h = λ i lt e. NoCharPasses-char 46 bs i h (omega arith) lt e
last_cut bs (Some x) h =
    let i = h.0 in
    let j = h.1 in
    let none = h.2.0 in
    let at = drop_at_char 46 bs i j h.2.1 (omega arith) in (
      sym (take-append-drop i bs) ∙ ap (λ l. take i bs ++ l) at ∙ ap₂ (λ a b. a ++ 46 ∷ b) (sym h.3) (sym h.4),
      λ k lt e. NoCharPasses-char 46 (drop j bs) k none (omega arith) (omega (arith, ap length h.4))
          (ap (λ l. get_or l k 0) (sym h.4) ∙ e),
    )

-- ---- the events of calls

-- a set call is called by an event
pub called_within : (at : ℕ) (es : List Event) (i : ℕ) (c : SetCall) →
    slice_get (calls_from at es) i ≡ Some c →
    c.called < at + length es
called_within at [] i c e = absurd cc
called_within at (d ∷ es) i c e = go (asked_of d.occurrence) i (λ j k. called_within (at + 1) es j c k) e
  where
    go : (o : Option Asked) (i : ℕ) →
        ((j : ℕ) → slice_get (calls_from (at + 1) es) j ≡ Some c → c.called < at + 1 + length es) →
        slice_get (with_asked o at (end_of d.thread d.call (at + 1) es) (calls_from (at + 1) es)) i ≡ Some c →
        c.called < at + length (d ∷ es)
    go None i later k = let lt = later i k in omega arith
    go (Some a) zero later k = let same : at ≡ c.called = cc in omega arith
    go (Some a) (suc i) later k = let lt = later i k in omega arith

-- the event that calls the call before a place
pub called_there : (es : List NamedEvent) (calls : List SetCall) (i : ℕ) →
    calls ≡ set_calls (map plain_event es) →
    0 < i →
    i ≤ length calls →
    (call_at calls (i - 1)).called < length es
called_there es calls i is some le =
    let lt : i - 1 < length calls = omega arith in
    let within = called_within 0 (map plain_event es) (i - 1) (call_at calls (i - 1))
    (ap (λ cs. slice_get cs (i - 1)) (sym is) ∙ slice_get-get_or calls (i - 1) no_call lt) in
    omega (arith, length-map es plain_event)

-- the text of the call of an event
pub text_at : (es : List NamedEvent) (at : ℕ) (e : NamedEvent) →
    at < length es →
    e ≡ get_or es at e →
    name_at (map plain_event es) at ≡ call_text e.thread.now e.call
text_at es at e lt is =
    ap (λ o. option_map_or name_of o []) (slice_get-map plain_event es at ∙
    ap (option_map plain_event) (slice_get-get_or es at e lt ∙ ap Some (sym is)))

-- ---- one call earlier

either : (b : Bool) (calls : List SetCall) (p q : ℕ) →
    placed calls (cond b p q) ≡ cond b (placed calls p) (placed calls q)
either true calls p q = refl
either false calls p q = refl

module _ {S : Type 0} (events : List Event) (calls : List SetCall) (i : ℕ) (some : 0 < i) (le : i ≤ length calls)
    (t : Text) (n : ℕ) (small : n < 2 ^ 64)
    (is : name_at events (call_at calls (i - 1)).called ≡ call_text t n) (old new : Places S)
    (put : (u : Text) (m : ℕ) → place_of new u m ≡ cond (bytes_eq t u && n == m) (i - 1 + 1) (place_of old u m))
    (h : IsNamed (call_named events (drop i calls)) calls old) where
  abbrev call : SetCall
  call = call_at calls (i - 1)

  abbrev names : Text → SetCall → Bool
  names q c = bytes_eq q (name_at events c.called)

  here : placed calls (i - 1 + 1) ≡ Some call
  here =
      let lt : i - 1 < length calls = omega arith in
      let back : i - 1 + 1 - 1 ≡ i - 1 = omega arith in
      let more : (i - 1 + 1 == 0) ≡ false =
      false_from_ne_true _ (λ e. let none = eqb-true (i - 1 + 1) 0 e in omega arith) in
      ap (λ b. cond b None (slice_get calls (i - 1 + 1 - 1))) more ∙ ap (slice_get calls) back ∙
      slice_get-get_or calls (i - 1) _ lt

  before : (q : Text) →
      call_named events (drop (i - 1) calls) q ≡ cond (bytes_eq q (call_text t n)) (Some call)
      (call_named events (drop i calls) q)
  before q = found_before (names q) calls i some le ∙
      ap (λ name. cond (bytes_eq q name) (Some call) (call_named events (drop i calls) q)) is

  -- the calls from one call earlier on
  pub named_before : IsNamed (call_named events (drop (i - 1) calls)) calls new
  named_before = record {
    known = λ u m lt.
        before (call_text u m) ∙ ap (λ b. cond b (Some call) (call_named events (drop i calls) (call_text u m)))
        (call_test u t m n lt small)
        ∙ ap₂ (λ x y. cond (bytes_eq t u && n == m) x y) (sym here) (h.known u m lt)
        ∙ sym (either (bytes_eq t u && n == m) calls (i - 1 + 1) (place_of old u m))
        ∙ ap (placed calls) (sym (put u m));
    other = λ q none.
        before q ∙ ap (λ b. cond b (Some call) (call_named events (drop i calls) q))
        (false_from_ne_true _ (λ e. none t n small ((bytes_eq-Decides q (call_text t n)).0 e)))
        ∙ h.other q none;
  }

-- ---- a call by its text

-- a text without a point is no call's
pub no_call_there : {S : Type 0} (look : Text → Option SetCall) (calls : List SetCall) (names : Places S)
    (text : Text) →
    IsNamed look calls names →
    Without 46 text →
    look text ≡ None
no_call_there look calls names text h w = h.other text (λ t n lt e. has_seam 46 t (decimal n) text w e)

-- a text whose end is no number is no call's
pub no_number_there : {S : Type 0} (look : Text → Option SetCall) (calls : List SetCall) (names : Places S)
    (text thread digits : Text) →
    IsNamed look calls names →
    text ≡ thread ++ 46 ∷ digits →
    Without 46 digits →
    ((n : ℕ) → n < 2 ^ 64 → digits ≡ decimal n → ⊥) →
    look text ≡ None
no_number_there look calls names text thread digits h is w none = h.other text
    (λ t n lt e. none n lt (last_point 46 thread t digits (decimal n) w (no_point n lt) (sym is ∙ e)).1)
