-- Trying, one call more.
use Rattle.std.proofs.Common.{◌≡◌, ◌∙◌, ◌+◌, ◌<◌, inl, inr, ℕ, true, false, [], ◌∷◌, ◌++◌, length, get_or, drop, sym}
use Rattle.std.proofs.Common.{ap, subst, append_assoc, append-nil, ◌-◌, take, take_all, length-drop, le_of_eq, Option}
use Rattle.std.proofs.Common.{Some, None, IfNone, IfSome, is_some, is_none}
use Rattle.std.proofs.lemmas.List.{drop_more}
use Rattle.std.proofs.lemmas.Bool.{true≢false}
use Rattle.ls_orders.specs.declared.calls.SetCall.{SetCall}
use Rattle.ls_orders.specs.Legal.{empty}
use Rattle.ls_order_search.specs.Plans.{Among, IsPlan}
use Rattle.ls_order_search.specs.Search.{Calls, CallsOf, Lasting, NoPlanOn, NoWay, Rising, Trying, Way, Within}
use Rattle.ls_order_search.specs.Trapped.{is_trapped}
use Rattle.ls_order_search.proofs.Lists.{among_front, among_with}
use Rattle.ls_order_search.proofs.Filters.{no_plan}

pub rising_without : (f : Calls) (x : SetCall) (b : Calls) → Rising (f ++ x ∷ b) → Rising (f ++ b)
rising_without [] x b h = h.1
rising_without (y ∷ f) x b h = (λ z a. h.0 z (among_with z x f b a), rising_without f x b h.1)

pub trying_on : (front back : Calls) → Rising (front ++ back) → Trying front back front back
trying_on front back r = record { rising = r; none = λ n. n; some = λ p w. w; known = λ c a. a }

module _ (front back more all : Calls) (i : ℕ) (x : SetCall) (t : Trying front back more (drop i all))
    (lt : i < length all) (is : x ≡ get_or all i x) where
  split : drop i all ≡ x ∷ drop (i + 1) all
  split = drop_more all i x lt ∙ ap (λ y. y ∷ drop (i + 1) all) (sym is)

  abbrev left : Calls
  left = drop (i + 1) all

  here : Trying front back more (x ∷ left)
  here = subst (Trying front back more) split t

  -- without x
  pub less_rising : Rising (more ++ left)
  less_rising = rising_without more x left here.rising

  pub less_known : (c : SetCall) → Among c (more ++ left) → Among c (front ++ back)
  less_known c a = here.known c (among_with c x more left a)

  pub less_some : is_trapped x.end ≡ true → (p : Calls) → Way more left p → Way front back p
  less_some e p w = here.some p (inr (e, w))

  -- if leaving a trapped call out gives a way, there is one
  pub less_tried : (events : ℕ) (less tail p : Calls) →
      less ≡ more →
      tail ≡ left →
      is_trapped x.end ≡ true →
      (Within events (less ++ tail) → Lasting (less ++ tail) → Way less tail p)
      → Within events (front ++ back) → Lasting (front ++ back) → Way front back p
  less_tried events less tail p e f trap h w l = less_some trap p
      (way (h (λ c a. w c (less_known c (among c a))) (λ c a. l c (less_known c (among c a)))))
    where
      among : (c : SetCall) → Among c (less ++ tail) → Among c (more ++ left)
      among c a = subst (λ m. Among c (m ++ left)) e (subst (λ m. Among c (less ++ m)) f a)

      way : Way less tail p → Way more left p
      way y = subst (λ m. Way m left p) e (subst (λ m. Way less m p) f y)

  -- the calls stay in order of their call events
  pub less_rises : (less tail : Calls) → less ≡ more → tail ≡ left → Rising (less ++ tail)
  less_rises less tail e f = subst (λ m. Rising (m ++ tail)) (sym e)
      (subst (λ m. Rising (more ++ m)) (sym f) less_rising)

  -- that there is no way, under equal names
  pub less_none : (less tail : Calls) → less ≡ more → tail ≡ left → NoWay less tail → NoWay more left
  less_none less tail e f n = subst (λ m. NoWay m left) e (subst (λ m. NoWay less m) f n)

  -- with x
  pub tried : (new : Calls) →
      new ≡ more ++ x ∷ [] →
      (is_trapped x.end ≡ true → NoWay more left) →
      Trying front back new left
  tried new e without = subst (λ m. Trying front back m left) (sym e) (record {
    rising = subst Rising (sym (append_assoc more (x ∷ []) left)) here.rising;
    none = λ n. here.none (n, without);
    some = λ p w. here.some p (inl w);
    known = λ c a. here.known c (subst (λ l. Among c l) (append_assoc more (x ∷ []) left) a);
  })

-- a weaker property of an option's value
pub if_some_more : {X : Type 0} (o : Option X) (P Q : X → Type 0) → ((x : X) → P x → Q x) → IfSome o P → IfSome o Q
if_some_more None P Q h k = tt
if_some_more (Some x) P Q h k = h x k

-- a weaker fact if there is no value
pub if_none_more : {X : Type 0} (o : Option X) (P Q : Type 0) → (P → Q) → IfNone o P → IfNone o Q
if_none_more None P Q h k = h k
if_none_more (Some x) P Q h k = tt

-- the fact, if there is no value
pub none_of : {X : Type 0} (o : Option X) (P : Type 0) → is_some o ≡ false → IfNone o P → P
none_of None P e k = k
none_of (Some x) P e k = absurd (true≢false e)

pub none_by : {X : Type 0} (o : Option X) (P : Type 0) → is_none o ≡ true → IfNone o P → P
none_by None P e k = k
none_by (Some x) P e k = absurd (true≢false (sym e))

-- a slice from a place on
pub tail_is : (xs : Calls) (i : ℕ) → take (length xs - i) (drop i xs) ≡ drop i xs
tail_is xs i = take_all (length xs - i) (drop i xs) (le_of_eq (length-drop i xs))

pub at_last : (front back more : Calls) → Trying front back more [] → Rising more
at_last front back more t = subst Rising (append-nil more) t.rising

-- all calls are tried: if the chosen calls have no plan, there is no way
pub none_last : (front back more : Calls) → Trying front back more [] → NoPlanOn more → NoWay front back
none_last front back more t h = t.none (no_plan more h)

-- all calls are tried: a plan of the chosen calls is a way
pub some_last : (events : ℕ) (front back more p : Calls) →
    Trying front back more [] →
    (Within events more → Lasting more → IsPlan empty more p) →
    Within events (front ++ back) →
    Lasting (front ++ back) →
    Way front back p
some_last events front back more p t h w l = t.some p (h (λ c a. w c (known c a)) (λ c a. l c (known c a)))
  where
    known : (c : SetCall) → Among c more → Among c (front ++ back)
    known c a = t.known c (among_front c more [] a)

-- of the calls alone
pub on_own : (events : ℕ) (front back own p : Calls) →
    front ≡ [] →
    back ≡ own →
    CallsOf events own →
    (Within events (front ++ back) → Lasting (front ++ back) → Way front back p) →
    Way [] own p
on_own events front back own p f b h w =
    subst (λ y. Way [] y p) b
    (subst (λ x. Way x back p) f (w (subst (Within events) (sym both) h.within)
    (subst Lasting (sym both) h.lasting)))
  where
    both : front ++ back ≡ own
    both = ap (λ x. x ++ back) f ∙ b
