-- What holds of an elaboration's answer, if it has one.
use Rattle.std.proofs.Common.{◌≡◌, ℕ, ◌+◌, refl, sym, subst, ap, arith, Bool, true, false, List, [], ◌∷◌, ◌++◌}
use Rattle.std.proofs.Common.{append_assoc, Ok, Err}
use Rattle.std.specs.Prelude.{if◌then◌else◌}
use Rattle.ls_lexer.specs.declared.token.Span.{Span}
use Rattle.ls_types_elaboration.specs.declared.rule.Rule.{Rule}
use Rattle.ls_types_elaboration.specs.Elaborated.{Elaborated, with_ok, unless_broken, each}

-- if the elaboration has an answer, the answer has a property
abbrev pub Gives : {A : Type 0} → (A → Type 0) → Elaborated A → Type 0
Gives P (Ok a) = P a
Gives P (Err e) = Unit {0}

-- one elaboration, and then another
pub bind : {A B : Type 0} (P : A → Type 0) (Q : B → Type 0) (x : Elaborated A) (go : A → Elaborated B) →
    Gives P x →
    ((a : A) → P a → Gives Q (go a)) →
    Gives Q (with_ok x go)
bind P Q (Ok a) go h k = k a h
bind P Q (Err e) go h k = tt

-- nothing is asked of the answer
pub any : {A : Type 0} (x : Elaborated A) → Gives (λ _. Unit {0}) x
any (Ok a) = tt
any (Err e) = tt

-- if nothing need be known of the first answer
pub after : {A B : Type 0} (Q : B → Type 0) (x : Elaborated A) (go : A → Elaborated B) →
    ((a : A) → Gives Q (go a)) →
    Gives Q (with_ok x go)
after Q x go k = bind (λ _. Unit {0}) Q x go (any x) (λ a z. k a)

-- the answer of an elaboration has the property
pub gives_of : {A : Type 0} (P : A → Type 0) (x : Elaborated A) (a : A) → x ≡ Ok a → Gives P x → P a
gives_of P x a e h = subst (Gives P) e h

-- an answer has both properties
pub both : {A : Type 0} (P Q : A → Type 0) (x : Elaborated A) → Gives P x → Gives Q x → Gives (λ a. P a × Q a) x
both P Q (Ok a) h k = (h, k)
both P Q (Err e) h k = tt

-- an answer has a weaker property
pub weaker : {A : Type 0} (P Q : A → Type 0) (x : Elaborated A) → Gives P x → ((a : A) → P a → Q a) → Gives Q x
weaker P Q (Ok a) h k = k a h
weaker P Q (Err e) h k = tt

-- what holds under a premise of the answer
pub later : {A C : Type 0} (P : C → A → Type 0) (x : Elaborated A) →
    ((c : C) → Gives (P c) x) →
    Gives (λ a. (c : C) → P c a) x
later P (Ok a) h = h
later P (Err e) h = tt

-- an elaboration that goes on if a rule is kept
pub unless : {A : Type 0} (Q : A → Type 0) (b : Bool) (rule : Rule) (span : Span) (x : Elaborated A) →
    (b ≡ false → Gives Q x) →
    Gives Q (unless_broken b rule span x)
unless Q true rule span x h = tt
unless Q false rule span x h = h refl

-- one of two elaborations, by a test
pub either : {A : Type 0} (Q : A → Type 0) (b : Bool) (x y : Elaborated A) →
    (b ≡ true → Gives Q x) →
    (b ≡ false → Gives Q y) →
    Gives Q (if b then x else y)
either Q true x y h k = h refl
either Q false x y h k = k refl

-- one thing after another keeps what each keeps
pub each_keeps : {S A : Type 0} (P : S → Type 0) (step : S → A → Elaborated S) (s : S) (xs : List A) →
    P s →
    ((s : S) (a : A) → P s → Gives P (step s a)) →
    Gives P (each step s xs)
each_keeps P step s [] h k = h
each_keeps P step s (x ∷ xs) h k = bind P P (step s x) (λ t. each step t xs) (k s x h)
    (λ t h. each_keeps P step t xs h k)

-- the same, of those that were met so far
pub each_over : {S A : Type 0} (P : List A → S → Type 0) (step : S → A → Elaborated S) (before : List A) (s : S)
    (xs : List A) →
    P before s →
    ((before : List A) (s : S) (a : A) → P before s → Gives (P (before ++ a ∷ [])) (step s a)) →
    Gives (P (before ++ xs)) (each step s xs)
each_over {S} {A} P step before s [] h k = subst (λ l. P l s) (sym (nil before)) h
  where
    nil : (l : List A) → l ++ [] ≡ l
    nil [] = refl
    nil (x ∷ l) = ap (λ l. x ∷ l) (nil l)
each_over {S} {A} P step before s (x ∷ xs) h k =
    bind (P (before ++ x ∷ [])) (P (before ++ x ∷ xs)) (step s x) (λ t. each step t xs) (k before s x h) (λ t h.
    subst (λ l. Gives (P l) (each step t xs)) (append_assoc before (x ∷ []) xs)
    (each_over P step (before ++ x ∷ []) t xs h k))

-- the sum of what is counted of each
abbrev pub total : {A : Type 0} → (A → ℕ) → List A → ℕ
total count [] = 0
total count (x ∷ xs) = count x + total count xs

-- one thing after another adds what each adds
pub each_adds : {S A : Type 0} (size : S → ℕ) (count : A → ℕ) (step : S → A → Elaborated S) →
    ((s : S) (a : A) → Gives (λ t. size t ≡ size s + count a) (step s a)) →
    (s : S) (xs : List A) → Gives (λ t. size t ≡ size s + total count xs) (each step s xs)
each_adds size count step k s [] = omega arith
each_adds size count step k s (x ∷ xs) =
    bind (λ t. size t ≡ size s + count x) (λ t. size t ≡ size s + (count x + total count xs)) (step s x)
    (λ t. each step t xs) (k s x) (λ t e.
    weaker (λ u. size u ≡ size t + total count xs) (λ u. size u ≡ size s + (count x + total count xs)) (each step t xs)
    (each_adds size count step k t xs) (λ u f. omega (arith, e, f)))
