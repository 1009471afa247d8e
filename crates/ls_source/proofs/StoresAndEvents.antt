-- The answers that are kept, seen as those of the definitions.
use Rattle.std.proofs.Common.{◌≡◌, ℕ, ◌<◌, List, [], ◌∷◌, ◌++◌, length, get_or, sym, ap, ◌∙◌}
use Rattle.std.proofs.Common.{◌+◌, ◌≤◌, arith, Result, Ok, Err}
use Rattle.std.specs.Prelude.{slice_set, slice_index_or, OnErr, IfOk, is_ok, if◌then◌else◌}
use Rattle.std.specs.declared.vec.Vec.{Vec}
use Rattle.std.specs.declared.alloc.Global.{Global}
use Rattle.std.proofs.lemmas.List.{map-set, get_or-map}
use Rattle.std.proofs.Math.Seq.{map-set_same}
use Rattle.ls_events.specs.declared.value.Value.{Value}
use Rattle.ls_events.specs.declared.action.Answer.{Answer}
use Rattle.ls_source.specs.SeenRun.{lists_of}

-- the answers of a thread, as they are kept
abbrev pub Kept : Type 0
Kept = Vec (Answer Value) Global

-- a thread's answers are kept in another place
pub stays : (xs : List Kept) (i : ℕ) (v v' : Kept) →
    v'.items ≡ v.items →
    v ≡ get_or xs i v →
    lists_of (slice_set xs i v') ≡ lists_of xs
stays xs i v v' same is = map-set_same (λ w. w.items) xs i v' v (same ∙ ap (λ w. w.items) is)

-- one more answer of a thread
pub grown : (xs : List Kept) (i : ℕ) (v v' w : Kept) (answer : Answer Value) →
    i < length xs →
    v ≡ get_or xs i v →
    v'.items ≡ v.items →
    w.items ≡ v'.items ++ answer ∷ [] →
    lists_of (slice_set xs i w) ≡ slice_set (lists_of xs) i (slice_index_or (lists_of xs) i [] ++ answer ∷ [])
grown xs i v v' w answer within is same h =
    map-set (λ u. u.items) xs i w
    ∙ ap (slice_set (lists_of xs) i) (h ∙ ap (λ l. l ++ answer ∷ [])
    (same ∙ ap (λ u. u.items) is ∙ sym (get_or-map (λ u. u.items) xs i v [] within)))

-- a push finds the room that was made for it
pub pushed : {X A E : Type 0} (r : Result A E) (xs ys : List X) (x : X) (capacity len : ℕ) →
    OnErr r (capacity ≤ len) →
    len + 1 ≤ capacity →
    ys ≡ (if is_ok r then xs ++ x ∷ [] else xs) →
    ys ≡ xs ++ x ∷ []
pushed (Ok v) xs ys x capacity len full room h = h
pushed (Err e) xs ys x capacity len full room h = absurd (past full room)
  where
    past : capacity ≤ len → len + 1 ≤ capacity → ⊥
    past full room = omega (arith, full, room)

-- what follows from a fact of an answer holds of that answer
pub ok_follows : {A E : Type 0} (r : Result A E) (P Q : A → Type 0) → ((a : A) → P a → Q a) → IfOk r P → IfOk r Q
ok_follows (Ok a) P Q f h = f a h
ok_follows (Err e) P Q f h = tt
